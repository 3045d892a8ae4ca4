-- `records::gather` meets its contract: a turn adds the record at i. Assumes nothing.
use Rattle.std.proofs.Common.{◌≡◌, ◌+◌, ◌*◌, ◌<◌, ◌≤◌, ◌++◌, ℕ, List, length, get_or, take, refl, sym, ap, ◌∙◌, add-one, arith}
use Rattle.std.proofs.lemmas.List.{get_or_default}
use lib.Seq.{length-take-le, take_all}
use lib.Ieee.{Float}
use Rattle.records.specs.declared.Reference.{Reference}
use Rattle.records.specs.Records.{eight, flattened, no_reference}
use Rattle.records.proofs.Flattened.{flattened-more}
use Rattle.records.proofs.gather.Goals as goal

-- inside a list it does not matter what stands past its end
one_more : (ps : List Reference) (i : ℕ) (d : Reference) (a b : List Float) → i < length ps → b ≡ flattened (take i ps) → a ≡ b ++ eight (get_or ps i d) → a ≡ flattened (take (i + 1) ps)
one_more ps i d a b h e f =
    f ∙ ap (λ (z : List Float). z ++ eight (get_or ps i d)) e
    ∙ ap (λ (r : Reference). flattened (take i ps) ++ eight r) (get_or_default ps i d no_reference h)
    ∙ sym (flattened-more ps i h) ∙ ap (λ (k : ℕ). flattened (take k ps)) (sym (add-one i))

all : (ps : List Reference) (zs : List Float) (m i : ℕ) → length (take m ps) ≤ i → i ≤ length (take m ps) → m ≤ length ps → take (8 * i) zs ≡ flattened (take i (take m ps))
    → take (8 * m) zs ≡ flattened (take m ps)
all ps zs m i h k l e =
    let q : m ≡ i = omega (arith, length-take-le m ps l) in
    ap (λ (j : ℕ). take (8 * j) zs) q ∙ e ∙ ap flattened (take_all i (take m ps) h)

pub loop-i-init : goal.loop-i-init
unfolding flattened
loop-i-init c = refl

pub loop-i-preserved : goal.loop-i-preserved
loop-i-preserved c = one_more _ _ _ _ _ c.loop-i-test.true c.loop-i.invariant c.put.ensures

pub returns : goal.returns
returns c = all _ _ _ _ c.loop-i-test.false c.loop-i.auto.i-end c.requires.0 c.loop-i.invariant
