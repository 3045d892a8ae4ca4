-- `fit::drop_outliers` meets its contract: sigma of the residuals, and then the rejection among the live marks. Assumes nothing.
use mathlib.Core.Path.{◌≡◌, ap, ◌∙◌}
use mathlib.Core.List.{List}
use Prim.Native.Nat.{ℕ}
use lib.Ieee.{Float}
use Rattle.order.specs.Deviation.{Spread, sigma_of, spread, mad_sigma}
use Rattle.illum.specs.declared.IlluminationModel.{IlluminationModel}
use Rattle.residuals.specs.Residual.{three_sigma, rejection, reject_above}
use Rattle.fit.specs.Fit.{with_counts, dropped, counted, dropped_of}
use Rattle.fit.proofs.drop_outliers.Goals as goal

module _ (m v : IlluminationModel) (live residuals u room room' : List Float) (n r : ℕ) (sigma limit : Float) (es : spread sigma room' ≡ mad_sigma residuals room) (el : limit ≡ three_sigma sigma)
    (er : rejection u r ≡ reject_above residuals limit n live) where
  sigma_is : sigma ≡ sigma_of residuals
  unfolding mad_sigma
  sigma_is = ap (λ (x : Spread). x.sigma) es

  ends : v ≡ with_counts m r m.kept → dropped v u ≡ dropped_of m residuals live n
  unfolding dropped_of
  ends ev = ap (λ (z : IlluminationModel). dropped z u) ev ∙ ap (counted m) (er ∙ ap (λ (z : Float). reject_above residuals z n live) (el ∙ ap three_sigma sigma_is))

pub returns : goal.returns
returns c = ends _ _ _ _ _ _ _ _ _ _ _ c.mad_sigma_core-sigma.ensures c.limit.ensures c.reject-rejected.ensures.0 c.with_counts.ensures
