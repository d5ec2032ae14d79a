-- Clearance over the fence and the areas held. The quotations are of document 02, L3. Assumes nothing.
use Rattle.std.specs.Prelude.{◌≤◌, ◌≡◌, Bool, true, false, not, ◌&&◌, cond, ◌⊎◌, List, [], ◌∷◌, ◌++◌, Float}
use Rattle.std.specs.Float.{nan}
use Rattle.std.specs.Float.Ieee.{neg, lt, le, eq}
use Rattle.float_order.specs.Number.{Number}
use Rattle.geometry.specs.declared.FenceDistance.{FenceDistance}
use Rattle.areas.specs.Held.{Area, All, Among, Rising}

-- the lesser; at equality the first, and a NaN is never less
abbrev pub nearer : FenceDistance → Float → FenceDistance
nearer v x = cond (lt x v.m) (record { m = x; side = 254 }) v

module _ {P : Type 0} (dist : Area P → Float) where
  -- "for each area, minus its signed distance"; dist is the area's signed distance at the point
  abbrev pub value : Area P → Float
  value a = neg (dist a)

  -- from the fence's, area by area
  unfoldable pub clearance : FenceDistance → List (Area P) → FenceDistance
  clearance v [] = v
  clearance v (a ∷ l) = clearance (nearer v (value a)) l

  -- ---- the same without the fold
  -- it is the fence's: no area's is less
  pub record Fences (fence : FenceDistance) (l : List (Area P)) (c : FenceDistance) : Type 0 where
    pub is : c ≡ fence
    pub none_less_lem : All (λ b. lt (value b) fence.m ≡ false) l

  -- it is an area's: less than the fence's, than which none is less, and none before it is as small
  pub record Areas (fence : FenceDistance) (l : List (Area P)) (c : FenceDistance) : Type 0 where
    pub left : List (Area P)
    pub area : Area P
    pub right : List (Area P)
    pub parts : l ≡ left ++ area ∷ right
    pub is : c ≡ record { m = value area; side = 254 }
    pub below_fence : lt (value area) fence.m ≡ true
    pub first : All (λ b. le (value b) (value area) ≡ false) left
    pub none_less_lem : All (λ b. lt (value b) (value area) ≡ false) right

  -- "at equality it is the fence's, then the lowest number's": every float taken, NaNs too
  abbrev pub WhoseClaim : Type 0
  WhoseClaim = (fence : FenceDistance) (l : List (Area P)) → Fences fence l (clearance fence l) ⊎ Areas fence l (clearance fence l)

  -- "the smaller of the fence distance and, for each area, minus its signed distance": where none is a NaN it is at most each
  abbrev pub LeastClaim : Type 0
  LeastClaim =
      (fence : FenceDistance) (l : List (Area P)) → Number fence.m → All (λ b. Number (value b)) l
      → (le (clearance fence l).m fence.m ≡ true) × All (λ b. le (clearance fence l).m (value b) ≡ true) l

  -- "the lowest number's": of the areas held with the clearance's value, where that is less than the fence's
  abbrev pub LowestClaim : Type 0
  LowestClaim =
      (fence : FenceDistance) (l : List (Area P)) → Rising l → lt (clearance fence l).m fence.m ≡ true
      → (a : Area P) × Among a l × (clearance fence l ≡ record { m = value a; side = 254 })
      × ((b : Area P) → Among b l → eq (value b) (value a) ≡ true → a.number ≤ b.number)

  -- no area's value is less than x
  abbrev pub none_less : Float → List (Area P) → Bool
  none_less x [] = true
  none_less x (a ∷ l) = not (lt (value a) x) && none_less x l

  -- "The side byte is the fence's where the fence distance is no larger than the rest, else 254."
  abbrev pub SideClaim : Type 0
  SideClaim = (fence : FenceDistance) (l : List (Area P)) → (clearance fence l).side ≡ cond (none_less fence.m l) fence.side 254

  -- a NaN for the fence's distance stays, and an area's is passed over
  pub record NanClaim : Type 0 where
    pub stays : (fence : FenceDistance) (l : List (Area P)) → fence.m ≡ nan → clearance fence l ≡ fence
    pub passed : (fence : FenceDistance) (a : Area P) (l : List (Area P)) → value a ≡ nan → clearance fence (a ∷ l) ≡ clearance fence l
