-- `Columns::figures_of` meets its contract: figure by figure. Assumes nothing.
use Rattle.measure.proofs.Sigmas.{figured}
use borrow.Author.Rules.{rules}
use Rattle.measure.proofs.Columns.figures_of.Goals as goal

pub luma_sigma-sigma_l-requires : goal.luma_sigma-sigma_l-requires
luma_sigma-sigma_l-requires c = (search rules, c.requires.1.luma)

pub chroma_sigma-sigma_ab-requires : goal.chroma_sigma-sigma_ab-requires
chroma_sigma-sigma_ab-requires c = (search rules, c.requires.1.chroma)

pub chroma_sigma-sigma_ab_dark-requires : goal.chroma_sigma-sigma_ab_dark-requires
chroma_sigma-sigma_ab_dark-requires c = (search rules, c.requires.1.dark)

pub chroma_sigma-sigma_ab_light-requires : goal.chroma_sigma-sigma_ab_light-requires
chroma_sigma-sigma_ab_light-requires c = (search rules, c.requires.1.light)

pub returns : goal.returns
returns c =
    figured _ _ _ _ _ _ _ _ c.luma_sigma-sigma_l.ensures c.chroma_sigma-sigma_ab.ensures c.chroma_sigma-sigma_ab_dark.ensures c.chroma_sigma-sigma_ab_light.ensures
