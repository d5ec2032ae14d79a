-- The four operations of binary32 by short names, and the numbers that several crates compare with. Assumes nothing.
use Rattle.std.specs.Prelude.{Float}
use Rattle.std.specs.Float.{binary32}
use Rattle.std.specs.Float.Ieee.{add, sub, mul, div, of_bits}

abbrev pub add_f : Float → Float → Float
add_f x y = add binary32 x y

abbrev pub sub_f : Float → Float → Float
sub_f x y = sub binary32 x y

abbrev pub mul_f : Float → Float → Float
mul_f x y = mul binary32 x y

abbrev pub div_f : Float → Float → Float
div_f x y = div binary32 x y

-- 0; 2 (proofs/Constants.antt)
abbrev pub zero_f : Float
zero_f = of_bits binary32 0

abbrev pub two : Float
two = of_bits binary32 0x4000_0000
