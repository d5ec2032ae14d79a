-- The constants are the binary32 numbers nearest to what document 01 says. Assumes nothing.
use mathlib.Core.Path.{◌≡◌, refl}
use mathlib.Core.Bool.{true, false}
use lib.Ieee.{binary32, round, of_bits, neg}
use Rattle.geometry.specs.Distance.{minus_one, least_length}

pub minus_one_is : minus_one ≡ round binary32 true 1 1
unfolding of_bits neg round
minus_one_is = refl

pub least_length_is : least_length ≡ round binary32 false 1 1000000
unfolding of_bits round
least_length_is = refl
