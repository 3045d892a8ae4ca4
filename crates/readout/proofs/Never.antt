-- After an accepted scoring the card is listed: the lent slices are as long as refinement and reading ask. Assumes nothing.
use mathlib.Core.Path.{◌≡◌}
use Prim.Native.Nat.{ℕ}
use native.Mathlib.Omega.{arith}
use lib.ListN.{length, length-replicate}
use lib.Ieee.{binary32, of_bits}
use Rattle.sentences.specs.Sentences.{decided}
use Rattle.illum.specs.declared.IlluminationModel.{IlluminationModel}
use Rattle.stats.specs.declared.ChannelStats.{ChannelStats}
use Rattle.stats.proofs.Range.{Held}
use Rattle.refine.specs.Refine.{squares}
use Rattle.guarantee.specs.Card.{scored_card}
use Rattle.bits.specs.Reading.{read_of}
use Rattle.bits.proofs.Joined.{accepts_all}
use Rattle.bits.proofs.Never.{none-refused}
use Rattle.readout.specs.Sheet.{Sheet}
use Rattle.readout.specs.Reading.{places_of, setting_of, card_of, listing_of, text_of, score_text}

module _ (c : Sheet) (m : IlluminationModel) (n : ChannelStats) (held : Held n) (z : (scored_card (setting_of c m n) (card_of c)).number ≡ 0) where
  pub is_read : (read_of (setting_of c m n) (card_of c)).number ≡ 0
  is_read =
      let modules = length c.xs in
      let places = places_of c.settings modules (length c.cxs) in
      let float = of_bits binary32 0 in
      accepts_all (setting_of c m n) (card_of c)
      (none-refused (setting_of c m n) (card_of c) z held (omega (arith, length-replicate (squares c.settings.side) float))
      (omega (arith, length-replicate modules float, length-replicate {A = ℕ} modules 0)) (omega (arith, length-replicate places float, length-replicate {A = ℕ} places 0)))

  pub is_listed : score_text c m n ≡ listing_of (setting_of c m n) (card_of c)
  unfolding score_text text_of decided
  is_listed = rw is_read
