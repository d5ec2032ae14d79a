-- The constants are the binary32 numbers nearest to the decimals that the Rust writes. Assumes nothing.
use Rattle.std.proofs.Common.{◌≡◌, false, refl}
use lib.Ieee.{binary32, round, of_bits}
use Rattle.validate.specs.Bounds.{hundred, overfull, two_thousand, ten_thousand}
use Rattle.validate.specs.Glitch.{five, thousand}

pub hundred_is : hundred ≡ round binary32 false 100 1
unfolding of_bits round
hundred_is = refl

pub overfull_is : overfull ≡ round binary32 false 11 10
unfolding of_bits round
overfull_is = refl

pub two_thousand_is : two_thousand ≡ round binary32 false 2000 1
unfolding of_bits round
two_thousand_is = refl

pub ten_thousand_is : ten_thousand ≡ round binary32 false 10000 1
unfolding of_bits round
ten_thousand_is = refl

pub five_is : five ≡ round binary32 false 5 1
unfolding of_bits round
five_is = refl

pub thousand_is : thousand ≡ round binary32 false 1000 1
unfolding of_bits round
thousand_is = refl
