-- What the entries of `leaves_c` add to the leaves that they call: a number for what is absent, and the frames in which values come and go.
-- Assumes nothing.
use Rattle.std.specs.Prelude.{ℕ, Bool, false, List, [], take, replicate, Float, Option, Some, None, Result, Ok, Err}
use Rattle.std.specs.Bool.{then_some}
use Rattle.types.specs.declared.UnknownNumber.{UnknownNumber}
use Rattle.wire.specs.declared.FrameError.{FrameError}
use Rattle.wire.specs.Frame.{frame_error_number, room_fault, frame_written}
use Rattle.types.specs.declared.Action.{Action}
use Rattle.types.specs.declared.ActiveSet.{ActiveSet}
use Rattle.types.specs.declared.Decision.{Decision}
use Rattle.types.specs.declared.EnergyEstimate.{EnergyEstimate}
use Rattle.types.specs.declared.LandedState.{LandedState}
use Rattle.types.specs.declared.Point2.{Point2}
use Rattle.types.specs.declared.Reason.{Reason}
use Rattle.types.specs.declared.Vec3.{Vec3}
use Rattle.types.specs.Numbers.{rank, index, display_priority}
use Rattle.types.specs.ActiveSet.{empty_set, set_request, clear_request}
use Rattle.corners.specs.declared.FenceError.{FenceError}
use Rattle.corners.specs.Acceptance.{fence_error_number}
use Rattle.geometry.specs.declared.Geofence.{Geofence}
use Rattle.geometry.specs.Polygon.{zero_point}
use Rattle.energy.specs.Energy.{rtl_energy}
use Rattle.disarm.specs.declared.DisarmGate.{DisarmGate}
use Rattle.config.specs.declared.Config.{Config}
use Rattle.frame_fence.specs.declared.FenceRead.{FenceRead}
use Rattle.frame_fence.specs.FenceFrame.{fence_of, fence_frame}
use Rattle.frame_decision.specs.DecisionFrame.{decision_frame}
use Rattle.types.specs.declared.Stamped.{Stamped}

-- an age; no age is as large as the number for none
abbrev pub age_or : Option ℕ → ℕ
age_or None = 0xFFFF_FFFF
age_or (Some n) = n

abbrev pub index_or : Result Reason UnknownNumber → ℕ
index_or (Err e) = 19
index_or (Ok r) = index r

abbrev pub priority_or : Result Reason UnknownNumber → ℕ
priority_or (Err e) = 0
priority_or (Ok r) = display_priority r

abbrev pub rank_or : Result Action UnknownNumber → ℕ
rank_or (Err e) = 5
rank_or (Ok a) = rank a

abbrev pub reason_or : Result Reason UnknownNumber → Reason
reason_or (Err e) = Reason.None
reason_or (Ok r) = r

abbrev pub action_or : Result Action UnknownNumber → Action
action_or (Err e) = Action.Nominal
action_or (Ok a) = a

abbrev pub vec3 : Float → Float → Float → Vec3
vec3 n e d = record { n = n; e = e; d = d }

abbrev pub point2 : Float → Float → Point2
point2 n e = record { n = n; e = e }

-- a call that writes a frame: its number and the slice
pub record Call : Type 0 where
  pub number : ℕ
  pub slice : List ℕ

-- refused, with nothing written
abbrev pub refused : ℕ → List ℕ → Call
refused n to = record { number = n; slice = to }

-- what the writer makes of a frame's bytes
abbrev pub written : List ℕ → List ℕ → Call
written bytes to = record { number = room_fault bytes to; slice = frame_written bytes to }

-- the answer to a frame that was read: its refusal, or the frame made of what it gave
abbrev pub answer : {A : Type 0} → (A → List ℕ) → Result A FrameError → List ℕ → Call
answer frame (Ok x) to = written (frame x) to
answer frame (Err e) to = refused (frame_error_number e) to

-- the requests of a Decision's frame; none where it is refused
abbrev pub active_of : Result Decision FrameError → ActiveSet
active_of (Ok d) = d.active
active_of (Err e) = empty_set

-- a Decision with other requests
abbrev pub with_active : Decision → ActiveSet → Decision
with_active d s =
    record {
      action = d.action;
      reason = d.reason;
      requested = d.requested;
      active = s;
      position_valid = d.position_valid;
      clock_fault = d.clock_fault;
      energy = d.energy;
      fence_dist_m = d.fence_dist_m;
      disarm_eligible = d.disarm_eligible;
    }

abbrev pub filed_call : Result Decision FrameError → Reason → Action → List ℕ → Call
filed_call read r a to = answer (λ d. decision_frame (with_active d (set_request d.active r a))) read to

abbrev pub cleared_call : Result Decision FrameError → Reason → List ℕ → Call
cleared_call read r to = answer (λ d. decision_frame (with_active d (clear_request d.active r))) read to

-- the sixteen places of a fence's frame; zero where it is refused
abbrev pub places_of : Result FenceRead FrameError → List Point2
places_of (Ok r) = r.corners
places_of (Err e) = replicate 16 zero_point

-- the corners of a fence's frame, sixteen at most; none where it is refused
abbrev pub corners_of : Result FenceRead FrameError → List Point2
corners_of (Ok r) = take r.count r.corners
corners_of (Err e) = []

-- all sixteen places of the polygon, as a kind 2 of sixteen corners
abbrev pub places_frame : Geofence → List ℕ
places_frame f = fence_frame false 16 f.min_alt_m f.max_alt_m f.poly.verts

-- the refusal of the rules, or what is held
abbrev pub judged_call : Result Geofence FenceError → List ℕ → Call
judged_call (Ok f) to = written (places_frame f) to
judged_call (Err e) to = refused (fence_error_number e) to

-- the refusal of the frame, that of the rules, or what is held
abbrev pub held_call : Result FenceRead FrameError → List ℕ → Call
held_call (Ok r) to = judged_call (fence_of r) to
held_call (Err e) to = refused (frame_error_number e) to

-- a Decision that has an estimate and nothing else
abbrev pub with_estimate : EnergyEstimate → Decision
with_estimate e =
    record {
      action = Action.Nominal;
      reason = Reason.None;
      requested = Action.Nominal;
      active = empty_set;
      position_valid = false;
      clock_fault = false;
      energy = e;
      fence_dist_m = None;
      disarm_eligible = false;
    }

abbrev pub estimate_frame : EnergyEstimate → List ℕ
estimate_frame e = decision_frame (with_estimate e)

abbrev pub energy_call : Result Config FrameError → Vec3 → Option Float → List ℕ → Call
energy_call read pos remaining to = answer (λ cfg. estimate_frame (rtl_energy cfg pos remaining)) read to

-- the gate: the hold's start, or 2 ^ 32 where no hold has begun
abbrev pub since_or : Option ℕ → ℕ
since_or None = 0x1_0000_0000
since_or (Some n) = n

abbrev pub gate_of : Bool → ℕ → DisarmGate
gate_of held since = record { hold_since_ms = then_some held since }

-- a reading that it goes by
abbrev pub stamped : {A : Type 0} → Bool → ℕ → A → Option (Stamped A)
stamped present t x = then_some present (record { t_ms = t; value = x })

abbrev pub landed_or : Result LandedState UnknownNumber → LandedState
landed_or (Err e) = LandedState.Undefined
landed_or (Ok l) = l
