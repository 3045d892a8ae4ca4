-- What `palette_sigmas` writes is the chroma noise of each palette colour at its place: each turn writes one place and keeps the others. Assumes nothing.
use mathlib.Core.Path.{◌≡◌, sym, subst}
use mathlib.Core.List.{List}
use Prim.Native.Nat.{ℕ, ◌*◌, ◌≤◌}
use native.Mathlib.Nat.{le_trans, le_of_eq}
use lib.ListN.{length}
use lib.Ieee.{Float, nan}
use Rattle.lists.proofs.Laws.{Reached, reached}
use Rattle.color.specs.Palette.{palette_lab}
use Rattle.stats.specs.declared.ChannelStats.{ChannelStats}
use Rattle.stats.specs.Noise.{sigma_ab_at, put_sigma, palette_sigmas, Sigmas}

module _ (n : ChannelStats) (palette : List Float) (hues : ℕ) (room : List Float) (h : 2 * hues ≤ length room) where
  all : Reached nan (λ i v. sigma_ab_at n (palette_lab palette hues i).l) room (2 * hues) (palette_sigmas n palette hues room)
  unfolding put_sigma
  all = reached nan (λ i v. sigma_ab_at n (palette_lab palette hues i).l) room (2 * hues) h

  pub are_sigmas : (sigmas : List Float) → sigmas ≡ palette_sigmas n palette hues room → Sigmas n palette hues sigmas
  are_sigmas sigmas e =
      subst (Sigmas n palette hues) (sym e) (record { long = le_trans h (le_of_eq (sym all.long)); at = all.done })
