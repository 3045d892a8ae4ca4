-- `modulate::symbol_of_bits` meets its contract: refused by the first sentence that holds, or the symbol. Assumes nothing.
use mathlib.Core.Path.{◌≡◌, refl}
use mathlib.Core.List.{List}
use Prim.Native.Nat.{ℕ, ◌+◌, ◌≤◌}
use borrow.Author.Tests.{ltb-false}
use native.Mathlib.Omega.{arith}
use lib.ListN.{length}
use Rattle.sentences.specs.Sentences.{refusal, at, sound, fresh}
use Rattle.limits.specs.Chroma.{log2}
use Rattle.limits.proofs.Laws.{hues_in}
use Rattle.modulate.specs.Draw.{symbol_at, symbol_sentences}
use Rattle.answers.proofs.Answers.{none_of, turned_away, says-given}
use Rattle.modulate.proofs.symbol_of_bits.Goals as goal

module _ (bits : List ℕ) (k q : ℕ) (e : 0 ≡ refusal (symbol_sentences bits k)) (d : q ≡ log2 k) where
  few : q ≤ 4
  unfolding at sound fresh
  few = rw d (hues_in k (none_of (symbol_sentences bits k) refl 0 e refl 3)).bits

  long : 0 + q ≤ length bits
  unfolding at sound fresh
  long = omega (arith, ltb-false (length bits) (log2 k) (none_of (symbol_sentences bits k) refl 0 e refl 5))

same : (bits : List ℕ) (k q s : ℕ) → q ≡ log2 k → s ≡ symbol_at bits 0 q → s ≡ symbol_at bits 0 (log2 k)
same bits k q s d e = cc

pub returns-in_err-check_symbol : goal.returns-in_err-check_symbol
returns-in_err-check_symbol c = search (turned_away, c.in_err-check_symbol.ensures)

pub symbol_at-requires : goal.symbol_at-requires
symbol_at-requires c = (search (long, c.in_ok-check_symbol.ensures), search (few, c.in_ok-check_symbol.ensures))

pub returns : goal.returns
returns c = search (says-given, same, c.in_ok-check_symbol.ensures)
