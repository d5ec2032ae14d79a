-- The claims on clearance: those on lists, of distances that are never a NaN. Assumes nothing.
use mathlib.Core.Bool.{Bool, true, false, cond}
use mathlib.Core.List.{List, [], ◌∷◌}
use mathlib.Core.Path.{◌≡◌, refl, sym, ap, subst}
use lib.Dec.{ltb}
use lib.Ieee.{Float, inf, neg, lt, of_bits}
use lib.ListN.{length}
use Rattle.float_order.specs.Number.{Number}
use Rattle.float_order.proofs.Order.{lt_numbers}
use Rattle.types.specs.declared.Point2.{Point2}
use Rattle.corners.specs.Ring.{sides}
use Rattle.geometry.specs.Distance.{minus_one, least, edge_signed_distance, signed_distance, nearest}
use Rattle.geometry.proofs.Nearest.{nearest_distance}
use Rattle.areas.specs.Held.{All}
use Rattle.areas.specs.Clearance.{value, clearance}
use Rattle.areas.proofs.Clearance as C
use Rattle.frame_areas.specs.AreaFrame.{Sent, ring_sent, distance_at}
use Rattle.frame_areas.specs.AreasFrame.{held_in, clearance_at}
use Rattle.frame_areas.specs.Claims.{ClearanceClaim, NoAreaClaim}
use Rattle.frame_areas.proofs.Most.{held_good}

-- ---- a signed distance is never a NaN

number_least : {A : Type 0} (f : A → Float) (x : Float) (l : List A) → Number x → Number (least f x l)
number_least f x [] n = n
number_least f x (s ∷ l) n = by (lt (f s) x) refl (λ y h. number_least f y l h)
  where
    by : (b : Bool) → lt (f s) x ≡ b → ((y : Float) → Number y → Number (least f y l)) → Number (least f (cond b (f s) x) l)
    by true h on = on (f s) (lt_numbers (f s) x h).0
    by false h on = on x n

number_minus_one : Number minus_one
unfolding neg of_bits
number_minus_one = tt

number_distance : (l : List Point2) (p : Point2) → Number (signed_distance l p)
unfolding signed_distance
number_distance l p = by (ltb (length l) 3)
  where
    by : (b : Bool) → Number (cond b minus_one (least (edge_signed_distance p) (inf false) (sides l)))
    by true = number_minus_one
    by false = number_least (edge_signed_distance p) (inf false) (sides l) tt

number_fence : (l : List Point2) (p : Point2) → Number (nearest l p).m
number_fence l p = subst Number (sym (nearest_distance l p)) (number_distance l p)

number_areas : (p : Point2) (l : List Sent) → All (λ b. Number (value (distance_at p) b)) l
unfolding distance_at
number_areas p [] = tt
number_areas p (a ∷ l) = (C.number_neg (signed_distance (ring_sent a.corners) p) (number_distance (ring_sent a.corners) p), number_areas p l)

pub clearance_claim : ClearanceClaim
unfolding clearance_at
clearance_claim areas fence p =
    let l = held_in areas in
    let near = nearest fence p in
    let m = C.least (distance_at p) near l (number_fence fence p) (number_areas p l) in
    record {
      at_most_fence = m.0;
      at_most_areas = m.1;
      whose = C.whose (distance_at p) near l;
      side_byte = C.side_byte (distance_at p) near l;
      lowest = λ ok. C.lowest (distance_at p) near l (held_good areas ok).rising;
    }

pub no_area_claim : NoAreaClaim
unfolding clearance_at clearance
no_area_claim areas e near p = ap (clearance (distance_at p) near) e
