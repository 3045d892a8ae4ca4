-- `vectors::word_from` meets its contract: its tests are those of the definition, and a space stands in the text, so that the places past it fit. Assumes nothing.
use Rattle.std.proofs.Common.{◌≡◌, ℕ, None, Some, ◌+◌, ◌<◌, ◌≤◌, List, get_or, sym, ◌∙◌, arith, le-ltb, lt-ltb, eq-eqb, ne_eqb, le-leb}
use borrow.Author.Tests.{lt-leb}
use Rattle.vectors.specs.declared.Digits.{Digits}
use Rattle.vectors.specs.Words.{digits_from, word_of, word_from}
use Rattle.vectors.proofs.Front.{inside}
use Rattle.vectors.proofs.word_from.Goals as goal

module _ (text : List ℕ) (at b : ℕ) (e : b ≡ get_or text at 0) where
  no_space : (b ≡ 32 → ⊥) → None ≡ word_from text at
  unfolding word_from
  no_space h = cc (ne_eqb b 32 h)

  module _ (h : b ≡ 32) (d : Digits) (f : d ≡ digits_from text (at + 1)) where
    no_digit : d.end ≤ at + 1 → None ≡ word_from text at
    unfolding word_from word_of
    no_digit k = cc (eq-eqb b 32 h, le-ltb (at + 1) d.end k)

    too_long : at + 1 < d.end → at + 1 + 16 < d.end → None ≡ word_from text at
    unfolding word_from word_of
    too_long k l = cc (eq-eqb b 32 h, lt-ltb (at + 1) d.end k, lt-leb d.end (at + 1 + 16) l)

    found : at + 1 < d.end → d.end ≤ at + 1 + 16 → Some d ≡ word_from text at
    unfolding word_from word_of
    found k l = cc (eq-eqb b 32 h, lt-ltb (at + 1) d.end k, le-leb d.end (at + 1 + 16) l)

pub returns-then-byte-ne32 : goal.returns-then-byte-ne32
returns-then-byte-ne32 c = search (no_space)

pub overflow_add-from : goal.overflow_add-from
overflow_add-from c = omega (arith, inside c.args.text.now c.args.at 32 (omega arith) (sym c.byte.ensures ∙ c.if-byte-ne32.false))

pub returns-then-d-from : goal.returns-then-d-from
returns-then-d-from c = search (no_digit)

pub overflow_add-from-2 : goal.overflow_add-from-2
overflow_add-from-2 c =
    omega (arith, inside c.args.text.now c.args.at 32 (omega arith) (sym c.byte.ensures ∙ c.if-byte-ne32.false))

pub returns-then-from-d : goal.returns-then-from-d
returns-then-from-d c = search (too_long)

pub returns : goal.returns
returns c = search (found)
