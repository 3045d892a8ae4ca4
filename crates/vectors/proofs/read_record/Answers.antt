-- `vectors::read_record` meets its contract: the two runs of words and the `=` between them are those of the definition. Assumes nothing.
use Rattle.std.proofs.Common.{◌≡◌, ℕ, ◌+◌, ◌<◌, Bool, true, false, cond, not, ◌&&◌, eqb, List, length, get_or, sym, refl, ap, ◌∙◌, arith, eqb-true}
use borrow.Author.Tests.{not-true, not-false}
use Rattle.vectors.specs.Lines.{name_end}
use Rattle.vectors.specs.Words.{Words, words_of, words_from, equals_at, rows_of, cut, joined, after_inputs, record_from}
use Rattle.vectors.proofs.Front.{inside}
use Rattle.vectors.proofs.read_record.Goals as goal

-- `=` stands in the text
equals_inside : (text : List ℕ) (at : ℕ) (b : Bool) → b ≡ equals_at text at → not b ≡ false → at < length text
unfolding equals_at
equals_inside text at b e f = space (eqb (get_or text at 0) 32) (eqb (get_or text (at + 1) 0) 61) refl (sym e ∙ not-false b f)
  where
    space : (s t : Bool) → eqb (get_or text at 0) 32 ≡ s → s && t ≡ true → at < length text
    space true t p q = inside text at 32 (omega arith) (eqb-true (get_or text at 0) 32 p)
    space false t p q = let z : ◌≡◌ {A = ℕ} 0 1 = cc in absurd (omega arith)

module _ (text : List ℕ) (at : ℕ) (ins₀ outs₀ : List ℕ) (ne : ℕ) (named : ne ≡ name_end text at) (n e : ℕ) (ins : List ℕ) (first : words_of n e ins ≡ words_from text ne ins₀) (b : Bool) (q : b ≡ equals_at text e) where
  inputs : after_inputs text (words_of n e ins) outs₀ ≡ record_from text at ins₀ outs₀
  unfolding record_from
  inputs = ap (λ (w : Words). after_inputs text w outs₀) first ∙ ap (λ (p : ℕ). after_inputs text (words_from text p ins₀) outs₀) named

  cut_off : not b ≡ true → rows_of (record { inputs = n; answers = 0; whole = false }) ins outs₀ ≡ record_from text at ins₀ outs₀
  unfolding after_inputs cut
  cut_off h = cc (inputs, not-true b h)

  complete : not b ≡ false → (m f : ℕ) (outs : List ℕ) → words_of m f outs ≡ words_from text (e + 2) outs₀ → (x : ℕ) → x ≡ get_or text f 0
      → rows_of (record { inputs = n; answers = m; whole = eqb x 10 }) ins outs ≡ record_from text at ins₀ outs₀
  unfolding after_inputs joined
  complete h m f outs second x d =
      ap (λ (y : ℕ). rows_of (record { inputs = n; answers = m; whole = eqb y 10 }) ins outs) d
      ∙ ap (joined text (words_of n e ins)) second
      ∙ ap (λ (t : Bool). cond t (joined text (words_of n e ins) (words_from text (e + 2) outs₀)) (cut (words_of n e ins) outs₀)) (sym (not-false b h) ∙ q)
      ∙ inputs

pub returns-then-not-equals_at : goal.returns-then-not-equals_at
returns-then-not-equals_at c = search (cut_off)

pub overflow_add-end : goal.overflow_add-end
overflow_add-end c =
    let text = c.args.text.now in
    omega (arith, equals_inside text c.words_from-i.result.end c.equals_at.result c.equals_at.ensures (ap not c.if-not-equals_at.false))

pub returns : goal.returns
returns c = search (complete)
