-- Readings under another clock. Assumes nothing.
use Rattle.std.specs.Prelude.{Option, Some, None, Float, Bool}
use Prim.Native.Nat.{ℕ}
use mathlib.Core.Path.{◌≡◌, refl, ap}
use mathlib.Core.Bool.{not, ◌&&◌, cond}
use Rattle.time.specs.Time.{Clock}
use Rattle.validate.specs.Fresh.{fresh_true, confirmed_disarm, position_valid, fresh_value, fresh_landed, fresh_gps}
use Rattle.triggers.specs.Families.{degraded, recovered, fixed}
use Rattle.instants.specs.Retimed.{position_at, gps_at, value_at, flag_at, landed_at}
use Rattle.instants.specs.Own.{position_stamp, gps_stamp, value_stamp, flag_stamp, landed_stamp}
use Rattle.alike.specs.Alike.{FreshAlike}
use Rattle.alike.proofs.Choices.{choose}
use Rattle.types.specs.declared.Stamped.{Stamped}
use Rattle.types.specs.declared.LandedState.{LandedState}
use Rattle.types.specs.declared.PositionSample.{PositionSample}
use Rattle.types.specs.declared.GpsSample.{GpsSample}

module _ (c1 c2 : Clock) (now1 now2 l1 l2 x : ℕ) where
  pub true_alike : (r : Option (Stamped Bool)) → FreshAlike c1 c2 now1 now2 x (flag_stamp r) l1 l2 → fresh_true c2 now2 (flag_at x r) l2 ≡ fresh_true c1 now1 r l1
  true_alike None e = refl
  true_alike (Some r) e = ap (λ b. b && r.value) e

  pub disarm_alike : (r : Option (Stamped Bool)) → FreshAlike c1 c2 now1 now2 x (flag_stamp r) l1 l2 → confirmed_disarm c2 now2 (flag_at x r) l2 ≡ confirmed_disarm c1 now1 r l1
  disarm_alike None e = refl
  disarm_alike (Some r) e = ap (λ b. b && not r.value) e

  pub value_alike : (r : Option (Stamped Float)) → FreshAlike c1 c2 now1 now2 x (value_stamp r) l1 l2 → fresh_value c2 now2 (value_at x r) l2 ≡ fresh_value c1 now1 r l1
  value_alike None e = refl
  value_alike (Some r) e = ap (λ b. cond b (Some r.value) None) e

  pub landed_alike : (r : Option (Stamped LandedState)) → FreshAlike c1 c2 now1 now2 x (landed_stamp r) l1 l2 → fresh_landed c2 now2 (landed_at x r) l2 ≡ fresh_landed c1 now1 r l1
  landed_alike None e = refl
  landed_alike (Some r) e = ap (λ b. cond b (Some r.value) None) e

  pub gps_alike : (r : Option GpsSample) → FreshAlike c1 c2 now1 now2 x (gps_stamp r) l1 l2 → fresh_gps c2 now2 (gps_at x r) l2 ≡ gps_at x (fresh_gps c1 now1 r l1)
  gps_alike None e = refl
  gps_alike (Some g) e = choose (gps_at x) e refl refl

  pub valid_alike : (r : Option PositionSample) → FreshAlike c1 c2 now1 now2 x (position_stamp r) l1 l2 → (ekf2 ekf1 : Option (Stamped Bool)) (s2 s1 : ℕ) → fresh_true c2 now2 ekf2 s2 ≡ fresh_true c1 now1 ekf1 s1 → position_valid c2 now2 (position_at x r) ekf2 l2 s2 ≡ position_valid c1 now1 r ekf1 l1 s1
  valid_alike None e ekf2 ekf1 s2 s1 h = refl
  valid_alike (Some p) e ekf2 ekf1 s2 s1 h = λ k. e k && h k

-- nothing but the stamp has changed
pub degraded_at : (x : ℕ) (r : Option GpsSample) → degraded (gps_at x r) ≡ degraded r
degraded_at x None = refl
degraded_at x (Some g) = refl

pub recovered_at : (x : ℕ) (r : Option GpsSample) → recovered (gps_at x r) ≡ recovered r
recovered_at x None = refl
recovered_at x (Some g) = refl

pub fixed_at : (x : ℕ) (r : Option GpsSample) → fixed (gps_at x r) ≡ fixed r
fixed_at x None = refl
fixed_at x (Some g) = refl
