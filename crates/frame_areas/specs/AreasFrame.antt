-- Kind 13, document 02, L3: "Up to eight areas are held, in a kind 13 frame: a count byte, then kind 7 bodies in order of number." Assumes nothing.
use Rattle.std.specs.Prelude.{ℕ, zero, suc, ◌+◌, Bool, false, cond, List, [], ◌∷◌, ◌++◌, eqb, ltb, length, take, drop}
use Rattle.types.specs.declared.Point2.{Point2}
use Rattle.geometry.specs.declared.FenceDistance.{FenceDistance}
use Rattle.wire.specs.Fields.{u8_at, u16_at}
use Rattle.wire.specs.Frame.{frame_fault, frame_head}
use Rattle.areas.specs.Held.{first, read}
use Rattle.areas.specs.Calls.{code}
use Rattle.areas.specs.Clearance.{clearance}
use Rattle.frame_areas.specs.AreaFrame.{Sent, area_rules, distance_at, body_of, area_of, body_size}

-- the areas of n bodies from the front of some bytes, as far as they are whole
unfoldable pub bodies : ℕ → List ℕ → List Sent
bodies zero r = []
bodies (suc n) r = cond (ltb (length r) (body_size r)) [] (area_of (take (body_size r) r) ∷ bodies n (drop (body_size r) r))

-- the areas that a frame holds; "empty for no area"
unfoldable pub held_in : List ℕ → List Sent
held_in s = bodies (u8_at s 4) (drop 5 s)

-- whether n bodies are all of some bytes
unfoldable pub bodies_fit : ℕ → List ℕ → Bool
bodies_fit zero r = eqb (length r) 0
bodies_fit (suc n) r = cond (ltb (length r) (body_size r)) false (bodies_fit n (drop (body_size r) r))

-- whether there is a count byte, and as many bodies behind it
unfoldable pub counts_fit : List ℕ → Bool
counts_fit s = cond (ltb (length s) 5) false (bodies_fit (u8_at s 4) (drop 5 s))

-- document 01's faults of a frame, "and 3 where its counts don't fit its length"
unfoldable pub areas_frame_fault : List ℕ → ℕ
areas_frame_fault s = first (frame_fault 13 (u16_at s 0) s) (cond (counts_fit s) 0 3)

-- "A step reads it and adds its bodies one by one .., with the same faults"; no byte at all is no area
unfoldable pub areas_fault : List ℕ → ℕ
areas_fault s = cond (eqb (length s) 0) 0 (first (areas_frame_fault s) (code (read area_rules (held_in s))))

-- "Clearance is the smaller of the fence distance and, for each area, minus its signed distance"; near is the fence's at p
unfoldable pub clearance_at : List ℕ → FenceDistance → Point2 → FenceDistance
clearance_at s near p = clearance (distance_at p) near (held_in s)

-- ---- the frame of areas
unfoldable pub bodies_of : List Sent → List ℕ
bodies_of [] = []
bodies_of (a ∷ l) = body_of a ++ bodies_of l

unfoldable pub areas_frame : List Sent → List ℕ
areas_frame l = frame_head 13 (3 + length (bodies_of l)) ++ (length l ∷ bodies_of l)
