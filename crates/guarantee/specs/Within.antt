-- "A corrected colour, taken to Lab as scoring takes it, lies within half a sigma of a drawn colour when, exactly, L differs by at most sigma_l/2 and a and b by at most s/2": document 01's words. Definitions only.
use Rattle.std.specs.Prelude.{Bool, ◌&&◌, ◌*◌, ℤ, pos, nat_abs, ◌-ℤ◌, Float}
use Rattle.std.proofs.Math.IntN.{sub_ℕ}
use Rattle.std.specs.Int.Signed.{le_z}
use Rattle.std.specs.Float.{binary32}
use Rattle.std.specs.Float.Ieee.Scale.{finite}
use Rattle.floatlaws.specs.Value.{hi, lo}
use Rattle.color.specs.declared.Lab.{Lab}
use Rattle.stats.specs.declared.ChannelStats.{ChannelStats}
use Rattle.stats.specs.Noise.{sigma_ab_at}

-- "every finite f32 is a whole number of 2^-149": that number, `hi` of them where x is not negative and -`lo` where it is
unfoldable pub units : Float → ℤ
units x = sub_ℕ (hi binary32 x) (lo binary32 x)

-- x and y, both finite, differ by at most s/2: "twice the difference of two such numbers is compared with the sigma's"
unfoldable pub half_apart : Float → Float → Float → Bool
half_apart s x y = (finite x && finite y) && le_z (pos (2 * nat_abs (units x -ℤ units y))) (units s)

-- the colour p is within half a sigma of the palette colour c; s is `sigma_ab_at` of c's L
unfoldable pub half_sigma : ChannelStats → Lab → Lab → Bool
half_sigma n p c =
    let s = sigma_ab_at n c.l in
    half_apart n.sigma_l p.l c.l && (half_apart s p.a c.a && half_apart s p.b c.b)
