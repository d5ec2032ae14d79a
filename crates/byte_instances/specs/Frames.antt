-- Small instances on the bytes of single frames: what a reader's code and its definition could be bent alike in. Assumes nothing.
use Rattle.frame_fence.specs.declared.FenceRead.{FenceRead}
use Rattle.supervisor.specs.declared.Supervisor.{Supervisor}
use Rattle.wire.specs.declared.FrameError.{FrameError}
use Rattle.std.specs.Prelude.{ℕ, ◌+◌, ◌*◌, ◌≡◌, true, false, List, [], ◌∷◌, ◌++◌, length, take, drop, replicate, Result, Ok, Err}
use Rattle.wire.specs.Frame.{whole_frame, frame_fault, frame_error_number, frame_number}
use Rattle.options.specs.Options.{valid_option}
use Rattle.triggers.specs.declared.Raised.{Raised}
use Rattle.triggers.specs.Update.{none_raised}
use Rattle.frame_fence.specs.FenceFrame.{fence_fault, read_fence, fence_of, fence_number, check_write, write_number}
use Rattle.frame_telemetry.specs.TelemetryFrame.{read_telemetry}
use Rattle.frame_decision.specs.DecisionFrame.{read_decision}
use Rattle.frame_state.specs.StateFrame.{read_state}

-- some bytes with others in the place of theirs, from i on
abbrev pub changed : List ℕ → ℕ → List ℕ → List ℕ
changed s i b = take i s ++ (b ++ drop (i + length b) s)

-- ---- the frames

-- nothing is read, at 0
abbrev pub telemetry : List ℕ
telemetry = 104 ∷ 0 ∷ 3 ∷ 0 ∷ replicate 102 0

-- nothing is asked for
abbrev pub decision : List ℕ
decision = 93 ∷ 0 ∷ 4 ∷ 0 ∷ replicate 91 0

-- a fresh state; the same of a flight that keeps raised requests
abbrev pub state : List ℕ
state = 184 ∷ 0 ∷ 5 ∷ 0 ∷ replicate 182 0

abbrev pub raised_state : List ℕ
raised_state = 192 ∷ 0 ∷ 12 ∷ 0 ∷ replicate 190 0

-- a position is stored, and all its numbers are 0
abbrev pub stored : List ℕ
stored = changed state 145 (1 ∷ [])

-- so many corners, all at home, and altitudes of 0
abbrev pub fence : ℕ → List ℕ
fence n = (11 + 8 * n) ∷ 0 ∷ 2 ∷ 0 ∷ n ∷ replicate (8 + 8 * n) 0

-- the last two bytes of an infinite number, whose others are 0
abbrev pub infinite : List ℕ
infinite = 128 ∷ 127 ∷ []

-- ---- what is answered; 0 for an accepted frame

-- what is raised in a state that was read
abbrev pub raised_in : Result Supervisor FrameError → Raised
raised_in (Ok x) = x.triggers.raised
raised_in (Err e) = none_raised

-- the number of the fence rules on a frame
abbrev pub fences_number : Result FenceRead FrameError → ℕ
fences_number (Ok r) = fence_number (fence_of r)
fences_number (Err e) = frame_error_number e

abbrev pub rules_number : List ℕ → ℕ
rules_number s = fences_number (read_fence s)

pub record FrameInstances : Type 0 where
  -- heads: "a two-byte length (of kind and body)"; "under 2 bytes, or fewer than 2 + length: 1", its own length and not the kind's; the kind before the length
  pub length-of_kind_and_body : whole_frame (2 ∷ 0 ∷ 3 ∷ 0 ∷ []) ≡ 4
  pub short_by_its_own_length : frame_fault 3 104 (2 ∷ 0 ∷ 3 ∷ 0 ∷ []) ≡ 3
  pub kind_before_length : frame_fault 3 104 (2 ∷ 0 ∷ 4 ∷ 0 ∷ []) ≡ 2
  pub another_kind : frame_fault 3 104 (changed telemetry 2 (4 ∷ [])) ≡ 2
  -- "Option a byte 0 or 1"
  pub flag_of_an_option : valid_option (2 ∷ 0 ∷ 0 ∷ 0 ∷ 0 ∷ []) 0 4 ≡ false
  -- fences: the length due is that of the count sent, kind and count byte included; the count sent is judged, not the corners kept; the polygon's rules before the
  -- altitudes'; an infinite corner before one outside the envelope; no frame has more than sixteen corners
  pub length-of_the_count : fence_fault (fence 3) ≡ 0
  pub seventeen_read : rules_number (fence 17) ≡ 11
  pub corners_before_altitudes : rules_number (fence 2) ≡ 10
  pub finite_before_envelope : rules_number (changed (fence 3) 15 infinite) ≡ 12
  pub seventeen_written : write_number (check_write 17 [] []) ≡ 11
  -- telemetry: "absent value not zero", up to its last byte; the head before the flags
  pub telemetry_read_lem : frame_number (read_telemetry telemetry) ≡ 0
  pub absent_voltage : frame_number (read_telemetry (changed telemetry 58 (1 ∷ []))) ≡ 4
  pub length-before_flags : frame_number (read_telemetry (changed telemetry 50 (2 ∷ []) ++ (0 ∷ []))) ≡ 3
  -- a Decision: a flag of 2; an absent slot with an action
  pub decision_read : frame_number (read_decision decision) ≡ 0
  pub position_of_two : frame_number (read_decision (changed decision 64 (2 ∷ []))) ≡ 4
  pub absent_action : frame_number (read_decision (changed decision 9 (1 ∷ []))) ≡ 4
  -- a state: "gcs_stage above 3, backwards_streak above 2, a number of the stored position or velocity not finite"
  pub stage_of_3 : frame_number (read_state false (changed state 132 (3 ∷ []))) ≡ 0
  pub stage_of_4 : frame_number (read_state false (changed state 132 (4 ∷ []))) ≡ 4
  pub streak_of_2 : frame_number (read_state false (changed state 184 (2 ∷ []))) ≡ 0
  pub streak_of_3 : frame_number (read_state false (changed state 184 (3 ∷ []))) ≡ 4
  pub stored_read : frame_number (read_state false stored) ≡ 0
  pub position_infinite : frame_number (read_state false (changed stored 152 infinite)) ≡ 4
  pub velocity_infinite : frame_number (read_state false (changed stored 164 infinite)) ≡ 4
  -- kind 12's flags, "in the order above": GpsLost is the second
  pub second_flag : (raised_in (read_state true (changed raised_state 187 (1 ∷ [])))).gps_lost ≡ true
