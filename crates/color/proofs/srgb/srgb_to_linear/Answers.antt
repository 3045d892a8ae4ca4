-- `color::srgb::srgb_to_linear` meets its contract: the table's one test, which antt computes, says that each entry is the definition's pattern.
-- Assumes nothing.
use mathlib.Core.Path.{◌≡◌, ap, sym, subst}
use mathlib.Core.Bool.{true, not}
use mathlib.Core.List.{List}
use Prim.Native.Nat.{ℕ, ◌<◌}
use lib.Dec.{T}
use lib.ListN.{length, get_or}
use lib.Ieee.{binary32, of_bits, nan_bits}
use borrow.Author.Rules.{rules}
use Rattle.color.specs.Srgb.{srgb_to_linear}
use Rattle.color.proofs.Table.{every}
use Rattle.color.proofs.Linears.{right, at_byte}
use Rattle.color.proofs.srgb.srgb_to_linear.Goals as goal

module _ (table : List ℕ) (v : ℕ) (h : v < 256) (n : length table ≡ 256) (e : every right 0 table ≡ true) where
  passed : T (every right 0 table)
  passed = subst T (sym e) tt

  number : T (not (nan_bits binary32 (get_or table v 0)))
  number = (at_byte table passed n v h).number

  value : of_bits binary32 (get_or table v 0) ≡ srgb_to_linear v
  unfolding srgb_to_linear
  value = ap (of_bits binary32) (at_byte table passed n v h).is

pub float_from_bits-result : goal.float_from_bits-result
unfolding right
float_from_bits-result c = search (number, rules)

pub returns : goal.returns
unfolding right
returns c = search (value, rules)
