-- Clearance without the loop, on the bytes that a step is handed. The quotations are of document 02, L3. Assumes nothing.
use Rattle.std.specs.Prelude.{ℕ, ◌≤◌, true, cond, List, [], ◌⊎◌, ◌≡◌, Float}
use Rattle.std.specs.Float.Ieee.{neg, lt, le, eq}
use Rattle.types.specs.declared.Point2.{Point2}
use Rattle.geometry.specs.declared.FenceDistance.{FenceDistance}
use Rattle.geometry.specs.Distance.{nearest}
use Rattle.areas.specs.Held.{All, Among}
use Rattle.areas.specs.Clearance.{Fences, Areas, none_less}
use Rattle.frame_areas.specs.AreaFrame.{Sent, distance_at}
use Rattle.frame_areas.specs.AreasFrame.{held_in, areas_fault, clearance_at}

-- at a point p, over a fence's ring and the areas of a frame
module _ (areas : List ℕ) (fence : List Point2) (p : Point2) where
  abbrev pub fence_near : FenceDistance
  fence_near = nearest fence p

  abbrev pub clear : FenceDistance
  clear = clearance_at areas fence_near p

  -- "for each area, minus its signed distance"
  abbrev pub area_value : Sent → Float
  area_value a = neg (distance_at p a)

  pub record Clearance : Type 0 where
    -- "the smaller of the fence distance and, for each area, minus its signed distance": at most each
    pub at_most_fence : le clear.m fence_near.m ≡ true
    pub at_most_areas : All (λ a. le clear.m (area_value a) ≡ true) (held_in areas)
    -- and one of them: "at equality it is the fence's", then the first of the least
    pub whose : Fences (distance_at p) fence_near (held_in areas) clear ⊎ Areas (distance_at p) fence_near (held_in areas) clear
    -- "The side byte is the fence's where the fence distance is no larger than the rest, else 254."
    pub side_byte : clear.side ≡ cond (none_less (distance_at p) fence_near.m (held_in areas)) fence_near.side 254
    -- "then the lowest number's", of an accepted frame
    pub lowest :
        areas_fault areas ≡ 0 → lt clear.m fence_near.m ≡ true
        → (a : Sent) × Among a (held_in areas) × (clear ≡ record { m = area_value a; side = 254 })
        × ((b : Sent) → Among b (held_in areas) → eq (area_value b) (area_value a) ≡ true → a.number ≤ b.number)

-- of all bytes, rings and points, whatever their floats
abbrev pub ClearanceClaim : Type 0
ClearanceClaim = (areas : List ℕ) (fence : List Point2) (p : Point2) → Clearance areas fence p

-- where no area is held, clearance is the fence's distance with its side
abbrev pub NoAreaClaim : Type 0
NoAreaClaim = (areas : List ℕ) → held_in areas ≡ [] → (near : FenceDistance) (p : Point2) → clearance_at areas near p ≡ near
