-- Each literal of the code is the decimal or whole number of the definitions, rounded once: antt computes both. The fractions of the code are
-- one rounded quotient of two whole numbers, which is
-- the fraction rounded once. Assumes nothing.
use mathlib.Core.Path.{◌≡◌, refl}
use Prim.Native.Nat.{◌^◌}
use lib.Ieee.{binary32, of_bits, round, div}
use Rattle.color.specs.Color.{fraction}
use Rattle.color.proofs.Numbers.{n0, n1, n3}

pub d4_2126 : of_bits binary32 0x3e59b3d0 ≡ fraction 2126 (10 ^ 4)
unfolding of_bits round fraction
d4_2126 = refl

pub d4_7152 : of_bits binary32 0x3f371759 ≡ fraction 7152 (10 ^ 4)
unfolding of_bits round fraction
d4_7152 = refl

pub d4_722 : of_bits binary32 0x3d93dd98 ≡ fraction 722 (10 ^ 4)
unfolding of_bits round fraction
d4_722 = refl

pub d4_1 : of_bits binary32 0x38d1b717 ≡ fraction 1 (10 ^ 4)
unfolding of_bits round fraction
d4_1 = refl

pub d7_4124564 : of_bits binary32 0x3ed32d7c ≡ fraction 4124564 (10 ^ 7)
unfolding of_bits round fraction
d7_4124564 = refl

pub d7_3575761 : of_bits binary32 0x3eb71437 ≡ fraction 3575761 (10 ^ 7)
unfolding of_bits round fraction
d7_3575761 = refl

pub d7_1804375 : of_bits binary32 0x3e38c49c ≡ fraction 1804375 (10 ^ 7)
unfolding of_bits round fraction
d7_1804375 = refl

pub d7_2126729 : of_bits binary32 0x3e59c6ed ≡ fraction 2126729 (10 ^ 7)
unfolding of_bits round fraction
d7_2126729 = refl

pub d7_7151522 : of_bits binary32 0x3f371437 ≡ fraction 7151522 (10 ^ 7)
unfolding of_bits round fraction
d7_7151522 = refl

pub d7_721750 : of_bits binary32 0x3d93d07d ≡ fraction 721750 (10 ^ 7)
unfolding of_bits round fraction
d7_721750 = refl

pub d7_193339 : of_bits binary32 0x3c9e6221 ≡ fraction 193339 (10 ^ 7)
unfolding of_bits round fraction
d7_193339 = refl

pub d7_1191920 : of_bits binary32 0x3df41aef ≡ fraction 1191920 (10 ^ 7)
unfolding of_bits round fraction
d7_1191920 = refl

pub d7_9503041 : of_bits binary32 0x3f734721 ≡ fraction 9503041 (10 ^ 7)
unfolding of_bits round fraction
d7_9503041 = refl

pub d7_32404542 : of_bits binary32 0x404f639a ≡ fraction 32404542 (10 ^ 7)
unfolding of_bits round fraction
d7_32404542 = refl

pub d7_15371385 : of_bits binary32 0x3fc4c0f4 ≡ fraction 15371385 (10 ^ 7)
unfolding of_bits round fraction
d7_15371385 = refl

pub d7_4985314 : of_bits binary32 0x3eff3f82 ≡ fraction 4985314 (10 ^ 7)
unfolding of_bits round fraction
d7_4985314 = refl

pub d7_9692660 : of_bits binary32 0x3f7821d1 ≡ fraction 9692660 (10 ^ 7)
unfolding of_bits round fraction
d7_9692660 = refl

pub d7_18760108 : of_bits binary32 0x3ff0211f ≡ fraction 18760108 (10 ^ 7)
unfolding of_bits round fraction
d7_18760108 = refl

pub d7_415560 : of_bits binary32 0x3d2a36a0 ≡ fraction 415560 (10 ^ 7)
unfolding of_bits round fraction
d7_415560 = refl

pub d7_556434 : of_bits binary32 0x3d63ea55 ≡ fraction 556434 (10 ^ 7)
unfolding of_bits round fraction
d7_556434 = refl

pub d7_2040259 : of_bits binary32 0x3e50ec2a ≡ fraction 2040259 (10 ^ 7)
unfolding of_bits round fraction
d7_2040259 = refl

pub d7_10572252 : of_bits binary32 0x3f875328 ≡ fraction 10572252 (10 ^ 7)
unfolding of_bits round fraction
d7_10572252 = refl

pub white-x : of_bits binary32 0x3f735200 ≡ fraction 95047 (10 ^ 5)
unfolding of_bits round fraction
white-x = refl

pub white-z : of_bits binary32 0x3f8b5ec8 ≡ fraction 108883 (10 ^ 5)
unfolding of_bits round fraction
white-z = refl

pub w_16 : of_bits binary32 0x41800000 ≡ fraction 16 1
unfolding of_bits round fraction
w_16 = refl

pub w_116 : of_bits binary32 0x42e80000 ≡ fraction 116 1
unfolding of_bits round fraction
w_116 = refl

pub w_200 : of_bits binary32 0x43480000 ≡ fraction 200 1
unfolding of_bits round fraction
w_200 = refl

pub w_500 : of_bits binary32 0x43fa0000 ≡ fraction 500 1
unfolding of_bits round fraction
w_500 = refl

pub w_1048576 : of_bits binary32 0x49800000 ≡ fraction 1048576 1
unfolding of_bits round fraction
w_1048576 = refl

pub q_216_24389 : div binary32 (of_bits binary32 0x43580000) (of_bits binary32 0x46be8a00) ≡ fraction 216 24389
unfolding of_bits div round fraction
q_216_24389 = refl

pub q_841_108 : div binary32 (of_bits binary32 0x44524000) (of_bits binary32 0x42d80000) ≡ fraction 841 108
unfolding of_bits div round fraction
q_841_108 = refl

pub q_4_29 : div binary32 (of_bits binary32 0x40800000) (of_bits binary32 0x41e80000) ≡ fraction 4 29
unfolding of_bits div round fraction
q_4_29 = refl

pub q_6_29 : div binary32 (of_bits binary32 0x40c00000) (of_bits binary32 0x41e80000) ≡ fraction 6 29
unfolding of_bits div round fraction
q_6_29 = refl

pub ruleset literals = (d4_2126, d4_7152, d4_722, d4_1, d7_4124564, d7_3575761, d7_1804375, d7_2126729, d7_7151522, d7_721750, d7_193339, d7_1191920, d7_9503041, d7_32404542, d7_15371385, d7_4985314, d7_9692660, d7_18760108, d7_415560, d7_556434, d7_2040259, d7_10572252, white-x, white-z, n0, n1, n3, w_16, w_116, w_200, w_500, w_1048576, q_216_24389, q_841_108, q_4_29, q_6_29)
