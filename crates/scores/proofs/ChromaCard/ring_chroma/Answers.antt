-- `ChromaCard::ring_chroma` meets its contract: at cell size 1 the list is long enough for the ring modules' entries. Assumes nothing.
use Rattle.scores.proofs.Parts.{ring_long}
use Rattle.scores.proofs.ChromaCard.ring_chroma.Goals as goal

pub write_rings-requires : goal.write_rings-requires
write_rings-requires c = ring_long _ _ _ _ _ _ c.if-self-eq1.true c.requires
