-- Document 01, 'Table of proved instances', row by row, about the definitions. Assumes nothing.
use Rattle.std.specs.Prelude.{ℕ, ◌-◌, ◌^◌, true, false, List, [], ◌∷◌, ◌≡◌, Float, Option, Some, None, Ok, Err}
use Rattle.std.specs.Float.{binary32}
use Rattle.std.specs.Float.Ieee.{neg, of_bits, to_bits}
use Rattle.types.specs.declared.Action.{Action}
use Rattle.types.specs.declared.Reason.{Reason}
use Rattle.types.specs.declared.Point2.{Point2}
use Rattle.types.specs.declared.PositionSample.{PositionSample}
use Rattle.types.specs.ActiveSet.{empty_set, set_request, requested_action}
use Rattle.time.specs.Time.{wrapping, age, fresh}
use Rattle.float32.specs.Sqrt.{square_root}
use Rattle.corners.specs.declared.FenceError.{FenceError}
use Rattle.corners.specs.Acceptance.{polygon_fault}
use Rattle.geometry.specs.Distance.{ring_of, signed_distance}
use Rattle.config.specs.Default.{decimal, default_fence}
use Rattle.validate.specs.declared.GlitchState.{GlitchState}
use Rattle.validate.specs.Glitch.{apply_glitch_filter}
use Rattle.arbiter.specs.declared.ArbiterState.{ArbiterState}
use Rattle.arbiter.specs.declared.Arbitrated.{Arbitrated}
use Rattle.arbiter.specs.Arbiter.{request, arbitrate}

-- a whole number
abbrev pub whole_number : ℕ → Float
whole_number n = decimal n 1

abbrev pub at : Float → Float → Point2
at n e = record { n = n; e = e }

-- the distance from the default fence of the point (n, 0)
abbrev pub fence_distance : ℕ → Float
fence_distance n = signed_distance (ring_of default_fence.poly) (at (whole_number n) (whole_number 0))

-- a triangle with a side of the given length
abbrev pub triangle : Float → List Point2
triangle side = at (whole_number 0) (whole_number 0) ∷ at (whole_number 0) side ∷ at (whole_number 10) (whole_number 0) ∷ []

-- a sample so many metres north of home
abbrev pub north_of : ℕ → ℕ → PositionSample
north_of t n =
    record {
      t_ms = t;
      pos = record { n = whole_number n; e = whole_number 0; d = whole_number 0 };
      vel = record { n = whole_number 0; e = whole_number 0; d = whole_number 0 };
    }

abbrev pub stored_at_origin : GlitchState
stored_at_origin = record { last_accepted = Some (north_of 1000 0); reject_streak = 0 }

-- what the filter makes of a sample n metres away, at 2000 with v_max 25
abbrev pub filtered_at : ℕ → Option PositionSample
filtered_at n = (apply_glitch_filter wrapping stored_at_origin 2000 (Some (north_of 2000 n)) (whole_number 25)).position

-- ReturnToLaunch was shown
abbrev pub returning : ArbiterState
returning = record { prev_output = Action.ReturnToLaunch; prev_reason = Reason.RcLost; recovery_since_ms = None }

-- Warn is wanted, with a valid position and no fault, under a hold of 5000
abbrev pub warn_at : ArbiterState → ℕ → Arbitrated
warn_at s now = arbitrate wrapping s now 5000 (request Reason.BatteryWarn Action.Warn) true false

-- the action shown at a later step that wants it still, the first at 1000
abbrev pub shown_at : ℕ → Action
shown_at now = (warn_at (warn_at returning 1000).state now).output.action

-- "given | answer"
pub record Table : Type 0 where
  -- age of 4,294,967,291 at 5 | 10
  pub age_wraps : age wrapping 5 4294967291 ≡ Some 10
  -- age of 0 at 2^31 − 1; at 2^31 | 2,147,483,647; absent
  pub age_longest : age wrapping (2 ^ 31 - 1) 0 ≡ Some 2147483647
  pub age_absent : age wrapping (2 ^ 31) 0 ≡ None
  -- age 1000, 1001, limit 1000 | fresh; stale
  pub at_limit : fresh wrapping 1000 0 1000 ≡ true
  pub past_limit : fresh wrapping 1001 0 1000 ≡ false
  -- root of 250,000; of 2 | 500; bits 3FB504F3
  pub root_of_250000 : square_root (whole_number 250000) ≡ whole_number 500
  pub root_of_2 : to_bits binary32 (square_root (whole_number 2)) ≡ 0x3FB5_04F3
  -- root of bits 00000001 | bits 1A3504F3
  pub root_of_least : to_bits binary32 (square_root (of_bits binary32 0x0000_0001)) ≡ 0x1A35_04F3
  -- default fence at (0, 0), (495, 0), (501, 0) | 500, 5, −1
  pub fence_at_home : fence_distance 0 ≡ whole_number 500
  pub fence_inside : fence_distance 495 ≡ whole_number 5
  pub fence_outside : fence_distance 501 ≡ neg (whole_number 1)
  -- corners (0,0), (0,20), (10,0); with 19.9 for 20 | accepted; AreaTooSmall
  pub area_enough : polygon_fault false 3 (triangle (whole_number 20)) ≡ Ok tt
  pub area_too_small : polygon_fault false 3 (triangle (decimal 199 10)) ≡ Err FenceError.AreaTooSmall
  -- GpsLost and EkfUnhealthy, both Land | EkfUnhealthy
  pub names_ekf : requested_action (set_request (set_request empty_set Reason.GpsLost Action.Land) Reason.EkfUnhealthy Action.Land).reqs ≡ request Reason.EkfUnhealthy Action.Land
  -- stored at origin, stamp 1000, streak 0, now 2000, v_max 25: 55 m, 56 m | kept; refused
  pub jump_kept : filtered_at 55 ≡ Some (north_of 2000 55)
  pub jump_refused : filtered_at 56 ≡ None
  -- ReturnToLaunch shown, position valid, Warn wanted from 1000, hold 5000: at 5999, 6000 | ReturnToLaunch; Warn
  pub hold_unmet : shown_at 5999 ≡ Action.ReturnToLaunch
  pub hold_met_lem : shown_at 6000 ≡ Action.Warn
