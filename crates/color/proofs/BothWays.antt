-- Forward and back: black and white are exact both ways, and at the border of f the two branches meet within a unit in the last place, those of
-- its inverse within two. Each is a closed computation. Assumes nothing.
use mathlib.Core.Path.{◌≡◌, refl, sym, ap, ◌∙◌}
use Prim.Native.Nat.{◌+◌}
use mathlib.Core.Bool.{false}
use lib.IntN.{pos, negsuc}
use lib.Ieee.{Float, fin, binary32, add, sub, mul, div, neg, lt, round, of_bits, to_bits}
use Rattle.float.specs.Root.{cbrt_of}
use Rattle.color.specs.declared.Linear.{Linear}
use Rattle.color.specs.declared.Xyz.{Xyz}
use Rattle.color.specs.declared.Lab.{Lab}
use Rattle.color.specs.Color.{linear, xyz, lab, white_x, white_y, white_z, fraction, whole, linear_to_xyz, xyz_to_linear, lab_f, line, lab_finv, line_inv, cube, delta, delta3, lightness, xyz_to_lab, lab_to_xyz, linear_to_lab, lab_to_linear}
use Rattle.color.specs.Srgb.{curve, srgb_to_linear}

-- the values as antt computes them, so that a comparison computes each side once
abbrev one : Float
one = fin false 1 (pos 0)

abbrev d65 : Xyz
d65 = xyz (fin false 31145 (negsuc 14)) one (fin false 1141721 (negsuc 19))

is_one : whole 1 ≡ one
unfolding fraction round
is_one = refl

is_d65 : xyz white_x white_y white_z ≡ d65
unfolding fraction round
is_d65 = refl

abbrev pub black : Linear
black = linear (whole 0) (whole 0) (whole 0)

abbrev pub white : Linear
white = linear (whole 1) (whole 1) (whole 1)

abbrev pub lab_black : Lab
lab_black = lab (whole 0) (whole 0) (whole 0)

abbrev pub lab_white : Lab
lab_white = lab (whole 100) (whole 0) (whole 0)

pub black-lab : linear_to_lab black ≡ lab_black
unfolding linear_to_xyz xyz_to_lab lab_f line lightness fraction round add sub mul div lt
black-lab = refl

pub black-back : lab_to_linear lab_black ≡ black
unfolding lab_to_xyz xyz_to_linear lab_finv line_inv cube fraction round add sub mul div lt neg
black-back = refl

pub white-lab : linear_to_lab white ≡ lab_white
unfolding linear_to_xyz xyz_to_lab lab_f line lightness fraction round add sub mul div lt cbrt_of
white-lab = refl

to_d65 : lab_to_xyz lab_white ≡ d65
unfolding lab_to_xyz lab_finv cube line_inv fraction round add sub mul div lt
to_d65 = refl

from-d65 : xyz_to_linear d65 ≡ linear one one one
unfolding xyz_to_linear fraction round add sub mul neg
from-d65 = refl

-- on the way back white is the white point itself
pub white-point : lab_to_xyz lab_white ≡ xyz white_x white_y white_z
white-point = to_d65 ∙ sym is_d65

pub white-back : lab_to_linear lab_white ≡ white
white-back = ap xyz_to_linear to_d65 ∙ from-d65 ∙ ap (λ (x : Float). linear x x x) (sym is_one)

-- the bytes 0 and 255 give 0 and 1
pub byte_0 : srgb_to_linear 0 ≡ whole 0
unfolding srgb_to_linear curve fraction round of_bits
byte_0 = refl

pub byte_255 : srgb_to_linear 255 ≡ whole 1
unfolding srgb_to_linear curve fraction round of_bits
byte_255 = refl

-- ---- at the border, the other branch

pub forward : to_bits binary32 (cbrt_of delta3) ≡ to_bits binary32 (line delta3) + 1
unfolding line fraction round add mul cbrt_of to_bits
forward = refl

pub inverse : to_bits binary32 (line_inv delta) ≡ to_bits binary32 (cube delta) + 2
unfolding line_inv cube fraction round sub mul to_bits
inverse = refl
