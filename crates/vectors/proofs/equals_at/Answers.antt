-- `vectors::equals_at` meets its contract: a space stands in the text, so that the place past it fits. Assumes nothing.
use Rattle.std.proofs.Common.{◌≡◌, ℕ, ◌+◌, false, eqb, List, get_or, sym, ◌∙◌, arith, eq-eqb, ne_eqb}
use Rattle.vectors.specs.Words.{equals_at}
use Rattle.vectors.proofs.Front.{inside}
use Rattle.vectors.proofs.equals_at.Goals as goal

module _ (text : List ℕ) (at b : ℕ) (e : b ≡ get_or text at 0) where
  no_space : (b ≡ 32 → ⊥) → false ≡ equals_at text at
  unfolding equals_at
  no_space h = cc (ne_eqb b 32 h)

  space : (d : ℕ) → d ≡ get_or text (at + 1) 0 → b ≡ 32 → eqb d 61 ≡ equals_at text at
  unfolding equals_at
  space d f h = cc (eq-eqb b 32 h)

pub returns-then-byte-ne32 : goal.returns-then-byte-ne32
returns-then-byte-ne32 c = search (no_space)

pub overflow_add-at : goal.overflow_add-at
overflow_add-at c = omega (arith, inside c.args.text.now c.args.at 32 (omega arith) (sym c.byte.ensures ∙ c.if-byte-ne32.false))

pub returns : goal.returns
returns c = search (space)
