-- The rings written out. Assumes nothing.
use mathlib.Core.Path.{refl}
use lib.Ieee.{neg, of_bits, lt, eq, fits}
use Rattle.rings.specs.Spelling.{least_at, onward, spelled}
use Rattle.rings.specs.Corner.{before, plain_number}
use Rattle.float32.specs.Libm.{is_finite}
use Rattle.corners.specs.Acceptance.{same_point}
use Rattle.rings.specs.Instances.{OnNumbers, OnASquare, SquareAccepted}

pub on_numbers : OnNumbers
unfolding spelled onward least_at
on_numbers = (refl, refl, refl, refl)

pub on_a_square : OnASquare
unfolding spelled onward least_at before plain_number neg of_bits lt eq
on_a_square = refl

pub square_accepted : SquareAccepted
unfolding is_finite same_point neg of_bits eq fits
square_accepted = (
  record { finite = ((refl, refl), ((refl, refl), ((refl, refl), ((refl, refl), tt)))); apart = refl },
  ((refl, refl), ((refl, refl), ((refl, refl), ((refl, refl), tt)))),
)
