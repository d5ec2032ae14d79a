-- Rings written out, by running the definitions. Assumes nothing.
use Rattle.std.specs.Prelude.{◌≡◌, List, [], ◌∷◌, ltb, Float}
use Rattle.std.specs.Float.{binary32}
use Rattle.std.specs.Float.Ieee.{of_bits, neg}
use Rattle.rings.specs.Spelling.{spelled}
use Rattle.rings.specs.Corner.{written, Accepted, Read}
use Rattle.float32.specs.Binary32.{zero_f}
use Rattle.types.specs.declared.Point2.{Point2}

abbrev pub corner : Float → Float → Point2
corner n e = record { n = n; e = e }

abbrev pub hundred : Float
hundred = of_bits binary32 0x42C8_0000

-- numbers for corners: 1 stands between 3 and 2
abbrev pub OnNumbers : Type 0
OnNumbers =
    (spelled ltb (3 ∷ 1 ∷ 2 ∷ 4 ∷ []) ≡ 1 ∷ 2 ∷ 4 ∷ 3 ∷ [])
    × (spelled ltb (4 ∷ 2 ∷ 1 ∷ 3 ∷ []) ≡ 1 ∷ 2 ∷ 4 ∷ 3 ∷ [])
    × (spelled ltb (2 ∷ 4 ∷ 3 ∷ 1 ∷ []) ≡ 1 ∷ 2 ∷ 4 ∷ 3 ∷ [])
    × (spelled ltb (5 ∷ []) ≡ 5 ∷ [])

-- the square (−0, 100), (100, 100), (100, −0), (0, 0): it starts at (0, 0), and of (−0, 100) and (100, −0) goes first to the former
abbrev pub square : List Point2
square = corner (neg zero_f) hundred ∷ corner hundred hundred ∷ corner hundred (neg zero_f) ∷ corner zero_f zero_f ∷ []

abbrev pub OnASquare : Type 0
OnASquare = written square ≡ corner zero_f zero_f ∷ corner zero_f hundred ∷ corner hundred hundred ∷ corner hundred zero_f ∷ []

-- and what is asked of corners can be met
abbrev pub SquareAccepted : Type 0
SquareAccepted = Accepted square × Read square
