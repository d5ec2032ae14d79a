-- Document 02, L5: "A surveyor drew a five-pointed star and it was taken as convex, since all its turns have one sign. … Kind 2 keeps the Rust's rule. …
-- Turned away: 33 where the sign changes more than twice, after 16 and before 17." Assumes nothing.
use Rattle.std.specs.Prelude.{ℕ, ◌≡◌, Bool, true, false, List, [], ◌∷◌, Float, Option, Some, Result, Ok, Err, ⊤, option_map}
use Rattle.std.specs.Result.{result_ok, result_and}
use Rattle.std.specs.Float.{binary32}
use Rattle.std.specs.Float.Ieee.{round}
use Rattle.types.specs.declared.Point2.{Point2}
use Rattle.corners.specs.OnceRound.{sign_changes}
use Rattle.corners.specs.Acceptance.{fence_error_number, polygon_fault}
use Rattle.corners.specs.declared.FenceError.{FenceError}
use Rattle.frame_fence.specs.FenceFrame.{read_fence, fence_of, fence_frame}

-- so many metres north or east, and south or west
abbrev pub above_zero : ℕ → Float
above_zero k = round binary32 false k 1

abbrev pub below_zero : ℕ → Float
below_zero k = round binary32 true k 1

abbrev pub point : Float → Float → Point2
point n e = record { n = n; e = e }

-- a star: its sides cross, and all its turns have one sign
abbrev pub star : List Point2
star = point (above_zero 300) (above_zero 0) ∷ point (below_zero 200) (above_zero 200) ∷ point (above_zero 100) (below_zero 300) ∷ point (above_zero 100) (above_zero 300) ∷ point (below_zero 200) (below_zero 200) ∷ []

-- one of less than 100 square metres
abbrev pub small_star : List Point2
small_star = point (above_zero 3) (above_zero 0) ∷ point (below_zero 2) (above_zero 2) ∷ point (above_zero 1) (below_zero 3) ∷ point (above_zero 1) (above_zero 3) ∷ point (below_zero 2) (below_zero 2) ∷ []

-- a zigzag: turns of both signs
abbrev pub zigzag : List Point2
zigzag = point (above_zero 0) (above_zero 0) ∷ point (above_zero 300) (above_zero 100) ∷ point (above_zero 100) (above_zero 200) ∷ point (above_zero 300) (above_zero 300) ∷ point (above_zero 0) (above_zero 400) ∷ []

-- two sides without a north step
abbrev pub square : List Point2
square = point (above_zero 0) (above_zero 0) ∷ point (above_zero 0) (above_zero 100) ∷ point (above_zero 100) (above_zero 100) ∷ point (above_zero 100) (above_zero 0) ∷ []

-- a frame of five corners from 5 to 120 m, of kind 8 or of kind 2
abbrev pub frame_of : Bool → List Point2 → List ℕ
frame_of once l = fence_frame once 5 (above_zero 5) (above_zero 120) l

-- what the fence rules answer to the fence that a frame sends
abbrev pub answer : List ℕ → Option (Result ⊤ FenceError)
answer frame = option_map (λ r. result_and (fence_of r) (Ok tt)) (result_ok (read_fence frame))

pub record Star : Type 0 where
  -- the star is taken as kind 2 and turned away as kind 8
  pub as_kind_2 : answer (frame_of false star) ≡ Some (Ok tt)
  pub as_kind_8 : answer (frame_of true star) ≡ Some (Err FenceError.NotOnceRound)
  pub number : fence_error_number FenceError.NotOnceRound ≡ 33
  -- "before 17"
  pub small_as_kind_2 : polygon_fault false 5 small_star ≡ Err FenceError.AreaTooSmall
  pub small_as_kind_8 : polygon_fault true 5 small_star ≡ Err FenceError.NotOnceRound
  -- "after 16"
  pub zigzag_changes : sign_changes zigzag ≡ 4
  pub zigzag_as_kind_8 : polygon_fault true 5 zigzag ≡ Err FenceError.NotConvex
  -- "zero steps are skipped"
  pub square_changes : sign_changes square ≡ 2
  pub square_as_kind_8 : polygon_fault true 4 square ≡ Ok tt
