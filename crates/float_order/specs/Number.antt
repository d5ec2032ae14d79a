-- Floats that are numbers. Assumes nothing.
use Rattle.std.specs.Prelude.{Float}
use Rattle.std.specs.Float.{nan, inf, fin}

-- no NaN
abbrev pub Number : Float → Type 0
Number nan = ⊥
Number (inf s) = Unit {0}
Number (fin s m e) = Unit {0}
