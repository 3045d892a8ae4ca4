-- Where one hue's likelihood leads, every bit score has the sign of that hue's symbol: the best of the hues with its bit is the leader's own likelihood, the best of the others
-- lies at most at the runner-up's, and a score is the one less the other. So what is drawn is what is read. Assumes nothing.
use mathlib.Core.Path.{◌≡◌, refl, sym, ap, ◌∙◌, subst}
use mathlib.Core.Bool.{Bool, true, false, not, cond, ◌||◌}
use mathlib.Core.List.{List}
use Prim.Native.Nat.{ℕ, zero, suc, ◌-◌, ◌/◌, ◌^◌, ◌≤◌, ◌<◌}
use native.Mathlib.Nat.{mod-lt}
use native.Mathlib.Omega.{arith}
use borrow.Author.Tests.{eqb-true, eqb-false}
use lib.Dec.{T, eqb}
use lib.ListN.{get_or}
use lib.Ieee.{Float, nan, inf, Format, binary32, sub, lt, is_nan, fits}
use Rattle.float.specs.Select.{max}
use Rattle.floatlaws.specs.Value.{hi, lo, mag, limit, big, Num, overflow_le_big}
use Rattle.floatlaws.specs.Order.{Le, Lt, to_lt, of_lt, le_lt_trans, not-both, le_of_lt, le_trans, le_refl}
use Rattle.floatlaws.specs.Finite.{Fin, num, fin-under, sub-num, sub_num'}
use Rattle.floatlaws.proofs.Mono.{sub_mono}
use Rattle.floatlaws.proofs.Exact.{sub-above, sub-below}
use Rattle.loops.proofs.Laws.{for_up_to}
use Rattle.limits.specs.Limits.{bad_hues}
use Rattle.limits.specs.Chroma.{log2}
use Rattle.limits.proofs.Laws.{hues_in}
use Rattle.modulate.specs.declared.Cell.{Cell}
use Rattle.modulate.specs.declared.Cell.TheVariants.{Unmasked, At}
use Rattle.modulate.specs.declared.Best.{Best}
use Rattle.symbols.specs.Gray.{chroma_symbol_to_hue, hue_to_chroma_symbol}
use Rattle.modulate.specs.Score.{unmasked_hue, symbol_bit, bit_of_hue, best, bettered, better_at, best_of, bit_llr}
use Rattle.reading.specs.Read.{reads}
use Rattle.reading.proofs.Sign.{read-zero, read_one}
use Rattle.modulate.specs.Draw.{cell_hue, ring_hue}
use Rattle.symbols.proofs.GrayCode.{symbol_of_hue, hue_lt}
use Rattle.symbols.proofs.Rotations.{remove_apply}

-- ---- `max`, of a leader and of what lies at most at y

is_true : (b : Bool) → T b → b ≡ true
is_true true t = refl
is_true false t = absurd t

not-true : (b : Bool) → T (not b) → b ≡ false
not-true true t = absurd t
not-true false t = refl

unfoldable pub Low : Float → Float → Type 0
Low y x = Num binary32 x × Le binary32 x y

pick_low : (y x v : Float) (b : Bool) → Low y x → Low y v → Low y (cond b v x)
pick_low y x v true p q = q
pick_low y x v false p q = p

module _ (top y : Float) (p : Num binary32 top) (ahead : Lt binary32 y top) where
  max-low : (x v : Float) → Low y x → Low y v → Low y (max x v)
  unfolding max
  max-low x v = pick_low y x v (lt x v || is_nan x)

  max_up : (x : Float) → Low y x → max x top ≡ top
  unfolding max Low
  max_up x q = rw (is_true (lt x top) (to_lt q.0 p (le_lt_trans q.1 ahead)))

  max_keeps : (v : Float) → Low y v → max top v ≡ top
  unfolding max Low
  max_keeps v q = by (lt top v) refl
    where
      by : (b : Bool) → lt top v ≡ b → cond (b || is_nan top) v top ≡ top
      by true e = absurd (not-both (of_lt p q.0 (subst T (sym e) tt)) (le_trans q.1 (le_of_lt ahead)))
      by false e = rw (not-true (is_nan top) p.real)

-- minus infinity, where the code starts, lies below every finite value
infinite-sides : (f : Format) → (hi f (inf true) ≡ 0) × (lo f (inf true) ≡ big f)
unfolding hi lo mag
infinite-sides f = (refl, refl)

limit-big : (f : Format) → limit f ≤ big f
unfolding limit
limit-big f = overflow_le_big f

least : (f : Format) (y : Float) → Fin f y → Le f (inf true) y
least f y p = let q = infinite-sides f in let u = fin-under p in let v = limit-big f in record { le = omega arith }

lowest : (y : Float) → Fin binary32 y → Low y (inf true)
unfolding Low
lowest y p = (record { fit = unfold fits in tt; real = unfold is_nan in tt }, least binary32 y p)

-- ---- the best of the hues whose bit is n

unfoldable part : ℕ → Best → Float
part zero s = s.zero
part (suc n) s = s.one

own : (n : ℕ) (v : Float) (s : Best) → part n (bettered n v s) ≡ max (part n s) v
unfolding part bettered
own zero v s = refl
own (suc n) v s = refl

apart : (n m : ℕ) (v : Float) (s : Best) → n < 2 → m < 2 → (n ≡ m → ⊥) → part m (bettered n v s) ≡ part m s
unfolding part bettered
apart zero zero v s hn hm h = absurd (h refl)
apart zero (suc m) v s hn hm h = refl
apart (suc n) zero v s hn hm h = refl
apart (suc n) (suc m) v s hn hm h = absurd (h (omega arith))

pub bit_lt : (cell : Cell) (k b h : ℕ) → bit_of_hue cell k b h < 2
unfolding bit_of_hue symbol_bit
bit_lt cell k b h = mod-lt (hue_to_chroma_symbol (unmasked_hue cell k h) k / 2 ^ (log2 k - 1 - b)) (omega arith)

-- hue h leads: its likelihood is finite and above y, and every other hue's is at most y
pub record Leads (ll : List Float) (k h : ℕ) (y : Float) : Type 0 where
  pub here : h < k
  pub top : Fin binary32 (get_or ll h nan)
  pub runner-up : Fin binary32 y
  pub ahead : Lt binary32 y (get_or ll h nan)
  pub others : (j : ℕ) → j < k → (j ≡ h → ⊥) → Num binary32 (get_or ll j nan) × Le binary32 (get_or ll j nan) y

module _ (ll : List Float) (cell : Cell) (k b h : ℕ) (y : Float) (p : Leads ll k h y) where
  t : ℕ
  t = bit_of_hue cell k b h

  t_lt : t < 2
  unfolding t
  t_lt = bit_lt cell k b h

  -- n hues are looked at
  record Reached (n : ℕ) (s : Best) : Type 0 where
    before : n ≤ h → Low y (part t s)
    after : h < n → part t s ≡ get_or ll h nan
    other : Low y (part (1 - t) s)

  module _ (j : ℕ) (s : Best) (q : Reached j s) where
    -- the leader
    at_leader : j ≡ h → (u : ℕ) → u ≡ t → Reached (suc j) (bettered u (get_or ll h nan) s)
    at_leader e u z =
        record {
          before = λ l. absurd (omega arith);
          after = λ l. ap (λ (x : ℕ). part t (bettered x (get_or ll h nan) s)) z ∙ own t (get_or ll h nan) s ∙ max_up (get_or ll h nan) y (num p.top) p.ahead (part t s) (q.before (omega arith));
          other = rw (apart u (1 - t) (get_or ll h nan) s (omega (arith, t_lt)) (omega arith) (λ w. omega (arith, t_lt))) q.other;
        }

    -- another hue, with the leader's bit and with the other
    module _ (d : j ≡ h → ⊥) (v : Float) (l : Low y v) where
      with_bit : (u : ℕ) → u ≡ t → Reached (suc j) (bettered u v s)
      with_bit u z =
          record {
            before = λ m. rw (z, own t v s) (max-low (get_or ll h nan) y (num p.top) p.ahead (part t s) v (q.before (omega arith)) l);
            after = λ m. ap (λ (x : ℕ). part t (bettered x v s)) z ∙ own t v s ∙ ap (λ (x : Float). max x v) (q.after (omega arith)) ∙ max_keeps (get_or ll h nan) y (num p.top) p.ahead v l;
            other = rw (apart u (1 - t) v s (omega (arith, t_lt)) (omega arith) (λ w. omega (arith, t_lt))) q.other;
          }

      without_bit : (u : ℕ) → u ≡ 1 - t → Reached (suc j) (bettered u v s)
      without_bit u z =
          let e = apart u t v s (omega arith) t_lt (λ w. omega (arith, t_lt)) in
          record {
            before = λ m. rw e (q.before (omega arith));
            after = λ m. e ∙ q.after (omega arith);
            other = rw (z, own (1 - t) v s) (max-low (get_or ll h nan) y (num p.top) p.ahead (part (1 - t) s) v q.other l);
          }

    other-hue : (j ≡ h → ⊥) → (v : Float) → Low y v → (u : ℕ) → u < 2 → (c : Bool) → eqb u t ≡ c → Reached (suc j) (bettered u v s)
    other-hue d v l u f true e = with_bit d v l u (eqb-true u t e)
    other-hue d v l u f false e = without_bit d v l u (rest u f (eqb-false u t e))
      where
        rest : (u : ℕ) → u < 2 → (u ≡ t → ⊥) → u ≡ 1 - t
        rest u f g = omega (arith, t_lt)

    next : j < k → (c : Bool) → eqb j h ≡ c → Reached (suc j) (better_at ll cell k b j s)
    unfolding t Low
    next f true e =
        let z = eqb-true j h e in
        subst (λ (x : ℕ). Reached (suc j) (bettered (bit_of_hue cell k b x) (get_or ll x nan) s)) (sym z) (at_leader z t refl)
    next f false e =
        let d = eqb-false j h e in
        other-hue d (get_or ll j nan) (p.others j f d) (bit_of_hue cell k b j) (bit_lt cell k b j) (eqb (bit_of_hue cell k b j) t) refl

  start : (n : ℕ) → Low y (part n (best (inf true) (inf true)))
  unfolding part
  start zero = lowest y p.runner-up
  start (suc n) = lowest y p.runner-up

  all : Reached k (best_of ll cell k b)
  all =
      for_up_to Reached (better_at ll cell k b) k 0 (best (inf true) (inf true)) (omega arith)
      (record { before = λ l. start t; after = λ l. absurd (omega arith); other = start (1 - t) })
      (λ j f g s q. next j s q g (eqb j h) refl)

  leader : part t (best_of ll cell k b) ≡ get_or ll h nan
  leader = all.after p.here

  rest-low : Low y (part (1 - t) (best_of ll cell k b))
  rest-low = all.other

  -- a bit that is 0 has a score of at least the lead, above zero
  pub record ForZero : Type 0 where
    pub is : Num binary32 (bit_llr ll cell k b)
    pub lead : Le binary32 (sub binary32 (get_or ll h nan) y) (bit_llr ll cell k b)
    pub above : 0 < hi binary32 (bit_llr ll cell k b)

  -- a bit that is 1 has a score of at most minus the lead, below zero
  pub record ForOne : Type 0 where
    pub is : Num binary32 (bit_llr ll cell k b)
    pub lead : Le binary32 (bit_llr ll cell k b) (sub binary32 y (get_or ll h nan))
    pub below : 0 < lo binary32 (bit_llr ll cell k b)

  zero_by : (s : Best) → s.zero ≡ get_or ll h nan → Low y s.one → bit_llr ll cell k b ≡ sub binary32 s.zero s.one → ForZero
  unfolding Low
  zero_by s e q w =
      let n = sub-num p.top q.0 in
      let f : bit_llr ll cell k b ≡ sub binary32 (get_or ll h nan) s.one = w ∙ ap (λ (x : Float). sub binary32 x s.one) e in
      record {
        is = rw f n;
        lead = rw f (sub_mono (num p.top) (num p.top) (num p.runner-up) q.0 (sub-num p.top (num p.runner-up)) n (le_refl binary32 (get_or ll h nan)) q.1);
        above = rw f (sub-above (num p.top) q.0 n (le_lt_trans q.1 p.ahead));
      }

  one_by : (s : Best) → s.one ≡ get_or ll h nan → Low y s.zero → bit_llr ll cell k b ≡ sub binary32 s.zero s.one → ForOne
  unfolding Low
  one_by s e q w =
      let n = sub_num' q.0 p.top in
      let f : bit_llr ll cell k b ≡ sub binary32 s.zero (get_or ll h nan) = w ∙ ap (sub binary32 s.zero) e in
      record {
        is = rw f n;
        lead = rw f (sub_mono q.0 (num p.runner-up) (num p.top) (num p.top) n (sub-num p.runner-up (num p.top)) q.1 (le_refl binary32 (get_or ll h nan)));
        below = rw f (sub-below q.0 (num p.top) n (le_lt_trans q.1 p.ahead));
      }

  score_is : bit_llr ll cell k b ≡ sub binary32 (best_of ll cell k b).zero (best_of ll cell k b).one
  unfolding bit_llr
  score_is = refl

  zero-part : (n : ℕ) → n ≡ 0 → (s : Best) → part n s ≡ s.zero
  unfolding part
  zero-part zero e s = refl
  zero-part (suc n) e s = absurd (omega arith)

  one_part : (n : ℕ) → n ≡ 1 → (s : Best) → part n s ≡ s.one
  unfolding part
  one_part zero e s = absurd (omega arith)
  one_part (suc n) e s = refl

  pub for_zero : bit_of_hue cell k b h ≡ 0 → ForZero
  unfolding t
  for_zero z =
      zero_by (best_of ll cell k b) (sym (zero-part t z (best_of ll cell k b)) ∙ leader)
      (subst (Low y) (one_part (1 - t) (omega arith) (best_of ll cell k b)) rest-low) score_is

  pub for_one : bit_of_hue cell k b h ≡ 1 → ForOne
  unfolding t
  for_one z =
      one_by (best_of ll cell k b) (sym (one_part t z (best_of ll cell k b)) ∙ leader)
      (subst (Low y) (zero-part (1 - t) (omega arith) (best_of ll cell k b)) rest-low) score_is

  -- ---- so reading gives the bit

  read_by : (n : ℕ) → bit_of_hue cell k b h ≡ n → n < 2 → reads (bit_llr ll cell k b) ≡ n
  read_by zero e l = let d = for_zero e in read-zero (bit_llr ll cell k b) d.is d.above
  read_by (suc zero) e l = let d = for_one e in read_one (bit_llr ll cell k b) d.is d.below
  read_by (suc (suc n)) e l = absurd (omega arith)

  pub read_back : reads (bit_llr ll cell k b) ≡ bit_of_hue cell k b h
  read_back = read_by (bit_of_hue cell k b h) refl (bit_lt cell k b h)

-- ---- the bits behind a drawn hue are those of its symbol

module _ (k : ℕ) (good : bad_hues k ≡ false) (s b : ℕ) (l : s < k) where
  back_to_symbol : hue_to_chroma_symbol (chroma_symbol_to_hue s k) k ≡ s
  back_to_symbol = subst (λ (x : ℕ). s < x → hue_to_chroma_symbol (chroma_symbol_to_hue s x) x ≡ s) (hues_in k good).power (symbol_of_hue (log2 k) s) l

  hue-below : chroma_symbol_to_hue s k < k
  hue-below = subst (λ (x : ℕ). chroma_symbol_to_hue s x < x) (hues_in k good).power (hue_lt (log2 k) s)

  pub ring-bit : bit_of_hue Unmasked k b (ring_hue s k) ≡ symbol_bit (log2 k) s b
  unfolding bit_of_hue unmasked_hue ring_hue
  ring-bit = ap (λ (x : ℕ). symbol_bit (log2 k) x b) back_to_symbol

  pub cell-bit : (cx cy : ℕ) → bit_of_hue (At cx cy) k b (cell_hue s cx cy k) ≡ symbol_bit (log2 k) s b
  unfolding bit_of_hue unmasked_hue cell_hue
  cell-bit cx cy =
      ap (λ (x : ℕ). symbol_bit (log2 k) (hue_to_chroma_symbol x k) b) (remove_apply k (hues_in k good).least (chroma_symbol_to_hue s k) cx cy hue-below) ∙
      ap (λ (x : ℕ). symbol_bit (log2 k) x b) back_to_symbol
