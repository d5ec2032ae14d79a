-- Areas, frames and clearances written out, by running the definitions. Assumes nothing.
use Rattle.std.specs.Prelude.{ℕ, ◌≡◌, List, [], ◌∷◌, false, cond, ltb, eqb, Float}
use Rattle.std.specs.Float.{binary32, inf}
use Rattle.std.specs.Float.Ieee.{of_bits}
use Rattle.areas.specs.Held.{Area, Rules, refused, held, add, remove, read}
use Rattle.areas.specs.Calls.{adds, removes, held_after, history, StillPresent}
use Rattle.geometry.specs.declared.FenceDistance.{FenceDistance}
use Rattle.areas.specs.Clearance.{clearance}

abbrev pub area : ℕ → ℕ → Area ℕ
area n c = record { number = n; corners = c }

-- numbers for corners: below 34 a polygon fault, 99 round home
abbrev pub rules : Rules ℕ
rules = record { fault = λ c. cond (ltb c 34) c 0; home_inside = λ c. eqb c 99 }

abbrev pub eight : List (Area ℕ)
eight = area 1 50 ∷ area 2 50 ∷ area 3 50 ∷ area 4 50 ∷ area 5 50 ∷ area 6 50 ∷ area 7 50 ∷ area 8 50 ∷ []

-- polygon fault, 31, 30, 32
abbrev pub OrderOfRefusals : Type 0
OrderOfRefusals =
    (add rules eight (area 0 12) ≡ refused 12)
    × (add rules eight (area 3 99) ≡ refused 31)
    × (add rules eight (area 0 99) ≡ refused 31)
    × (add rules eight (area 9 99) ≡ refused 30)
    × (add rules [] (area 9 99) ≡ refused 32)
    × (remove eight 9 ≡ refused 31)
    × (remove eight 0 ≡ refused 31)

-- the latest call first: eight areas in any order, a ninth refused, one removed, and its place used again
abbrev pub PlaceUsedAgain : Type 0
PlaceUsedAgain =
    held_after rules
    (adds (area 9 60) ∷ removes 3 ∷ adds (area 9 50) ∷ adds (area 2 50) ∷ adds (area 4 50) ∷ adds (area 1 50) ∷ adds (area 3 50)
    ∷ adds (area 8 50) ∷ adds (area 6 50) ∷ adds (area 5 50) ∷ adds (area 7 50) ∷ [])
    ≡ area 1 50 ∷ area 2 50 ∷ area 4 50 ∷ area 5 50 ∷ area 6 50 ∷ area 7 50 ∷ area 8 50 ∷ area 9 60 ∷ []

-- a number can be used again, with other corners; not while it is held
abbrev pub NumberUsedAgain : Type 0
NumberUsedAgain =
    (held_after rules (adds (area 3 60) ∷ removes 3 ∷ adds (area 3 50) ∷ []) ≡ area 3 60 ∷ [])
    × (held_after rules (adds (area 3 60) ∷ adds (area 3 50) ∷ []) ≡ area 3 50 ∷ [])

-- a refused add of its number leaves an area still present, and an accepted remove doesn't
abbrev pub StillThere : Type 0
StillThere =
    StillPresent (area 3 50) (history rules (adds (area 3 60) ∷ removes 4 ∷ adds (area 3 50) ∷ []))
    × (StillPresent (area 3 50) (history rules (removes 3 ∷ adds (area 3 50) ∷ [])) → ⊥)

-- a frame's bodies: an earlier body's fault first; within a body the polygon's first; a ninth is 30 in its turn
abbrev pub FramesRead : Type 0
FramesRead =
    (read rules [] ≡ held [])
    × (read rules eight ≡ held eight)
    × (read rules (area 5 50 ∷ area 2 50 ∷ []) ≡ refused 31)
    × (read rules (area 5 50 ∷ area 5 50 ∷ []) ≡ refused 31)
    × (read rules (area 5 50 ∷ area 2 12 ∷ []) ≡ refused 12)
    × (read rules (area 5 99 ∷ area 2 12 ∷ []) ≡ refused 32)
    × (read rules (area 0 50 ∷ []) ≡ refused 31)
    × (read rules (area 1 50 ∷ area 2 50 ∷ area 3 50 ∷ area 4 50 ∷ area 5 50 ∷ area 6 50 ∷ area 7 50 ∷ area 8 50 ∷ area 9 99 ∷ []) ≡ refused 30)
    × (read rules (area 1 50 ∷ area 2 50 ∷ area 3 50 ∷ area 4 50 ∷ area 5 50 ∷ area 6 50 ∷ area 7 50 ∷ area 8 50 ∷ area 8 99 ∷ []) ≡ refused 31)

-- ---- clearance: an area's signed distance stands for its corners, as the bits of a binary32
abbrev pub bits : Area ℕ → Float
bits a = of_bits binary32 a.corners

abbrev pub near : ℕ → ℕ → FenceDistance
near b s = record { m = of_bits binary32 b; side = s }

-- 1, −1, 0 and −0
abbrev pub one : ℕ
one = 0x3F80_0000

abbrev pub minus_one : ℕ
minus_one = 0xBF80_0000

abbrev pub minus_zero : ℕ
minus_zero = 0x8000_0000

abbrev pub Clearances : Type 0
Clearances =
    -- one metre from the fence's side 3 and from both areas: the fence's
    (clearance bits (near one 3) (area 1 minus_one ∷ area 2 minus_one ∷ []) ≡ near one 3)
    -- on area 2's side, its signed distance 0: −0, and 254
    × (clearance bits (near one 3) (area 1 minus_one ∷ area 2 0 ∷ []) ≡ near minus_zero 254)
    -- the fence gives 0 too: the fence's 0
    × (clearance bits (near 0 3) (area 1 0 ∷ []) ≡ near 0 3)
    -- areas 1 and 2 give 0 and −0: the lowest number's
    × (clearance bits (near one 3) (area 1 minus_zero ∷ area 2 0 ∷ []) ≡ near 0 254)
    -- inside area 1: −1
    × (clearance bits (near one 3) (area 1 one ∷ area 2 0 ∷ []) ≡ near minus_one 254)
    -- no area: L1's fence distance, 255 where there is none
    × (clearance bits (record { m = inf false; side = 255 }) [] ≡ record { m = inf false; side = 255 })
