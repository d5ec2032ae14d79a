-- Without an area the clearance is the fence's distance, side and all. Assumes nothing.
use Prim.Native.Nat.{ℕ}
use native.Mathlib.Omega.{arith}
use mathlib.Core.List.{List, [], ◌∷◌}
use lib.ListN.{length}
use mathlib.Core.Path.{◌≡◌, refl}
use Rattle.types.specs.declared.Point2.{Point2}
use Rattle.geometry.specs.declared.FenceDistance.{FenceDistance}
use Rattle.wire.specs.Fields.{u8_at}
use Rattle.areas.specs.Clearance.{clearance}
use Rattle.frame_areas.specs.AreasFrame.{bodies, held_in, areas_fault, clearance_at}

pub none_near : (near : FenceDistance) (p : Point2) → clearance_at [] near p ≡ near
unfolding clearance_at held_in bodies clearance u8_at
none_near near p = refl

pub none_refused : areas_fault [] ≡ 0
unfolding areas_fault
none_refused = refl

pub no_byte_refused : (s : List ℕ) → length s ≡ 0 → areas_fault s ≡ 0
no_byte_refused [] e = none_refused
no_byte_refused (x ∷ s) e = absurd (omega arith)

pub none_held : held_in [] ≡ []
unfolding held_in bodies u8_at
none_held = refl
