-- `bits::read_bits` meets its contract: the refusal of the first call that has one, or all five done; the bits are those of the read guarantee, the theorems of `guarantee`, at 13 and at 9. Assumes nothing.
use mathlib.Core.Path.{◌≡◌}
use Rattle.guarantee.specs.Card.{Setting, Card}
use Rattle.guarantee.specs.Guarantee.{ReadGuarantee, ReadGuaranteeAtNine}
use Rattle.guarantee.proofs.Guarantee.{read_guarantee, read_guarantee_at_nine}
use Rattle.bits.specs.Reading.{Left, read_of, Joined}
use Rattle.bits.proofs.Calls.{not-scored, not-refined, not-unmasked, luma-not-read, chroma-not-read, all_read}
use Rattle.bits.proofs.Joined.{joined}
use Rattle.bits.proofs.read_bits.Goals as goal

guaranteed : (s : Setting) (k : Card) (f : Left) → f ≡ read_of s k → (f ≡ read_of s k) × Joined s k f × ReadGuarantee × ReadGuaranteeAtNine
guaranteed s k f e = (e, joined s k f e, read_guarantee, read_guarantee_at_nine)

pub returns-in_err-report : goal.returns-in_err-report
returns-in_err-report c = guaranteed _ _ _ (search (not-scored, c.in_err-report.ensures))

pub returns-in_err-add_local_luma : goal.returns-in_err-add_local_luma
returns-in_err-add_local_luma c = guaranteed _ _ _ (search (not-refined, c.in_ok-report.ensures, c.in_err-add_local_luma.ensures))

pub returns-in_err-unmask_luma : goal.returns-in_err-unmask_luma
returns-in_err-unmask_luma c = guaranteed _ _ _ (search (not-unmasked, c.in_ok-report.ensures, c.in_ok-add_local_luma.ensures, c.in_err-unmask_luma.ensures))

pub returns-in_err-read_list : goal.returns-in_err-read_list
returns-in_err-read_list c =
    guaranteed _ _ _ (search (luma-not-read, c.in_ok-report.ensures, c.in_ok-add_local_luma.ensures, c.in_ok-unmask_luma.ensures, c.in_err-read_list.ensures))

pub returns-in_err-read_list-2 : goal.returns-in_err-read_list-2
returns-in_err-read_list-2 c =
    guaranteed _ _ _ (search (chroma-not-read, c.in_ok-report.ensures, c.in_ok-add_local_luma.ensures, c.in_ok-unmask_luma.ensures, c.in_ok-read_list.ensures, c.in_err-read_list-2.ensures))

pub returns : goal.returns
returns c =
    guaranteed _ _ _ (search (all_read, c.in_ok-report.ensures, c.in_ok-add_local_luma.ensures, c.in_ok-unmask_luma.ensures, c.in_ok-read_list.ensures, c.in_ok-read_list-2.ensures))
