-- Each premise of the claim is needed, and its one exception is met: pairs of runs on bytes, one call each, the smallest there are. Assumes nothing.
use Rattle.std.specs.Prelude.{ℕ, ◌≤◌, true, false, List, [], ◌∷◌, ◌≡◌, length, replicate, set, take, drop}
use Rattle.types.specs.declared.Action.{Action}
use Rattle.config.specs.declared.Config.{Config}
use Rattle.frame_telemetry.specs.TelemetryFrame.{telemetry_frame}
use Rattle.std.specs.Result.{is_ok}
use Rattle.flight.specs.Flight.{flight_or_blank, read_flight}
use Rattle.calls.specs.Form.{Form, base, state_size}
use Rattle.calls.specs.Entry.{StepCall}
use Rattle.run.specs.Run.{Call, answered, shown_action, UnderConfig}
use Rattle.run.specs.Instances.{config, fence, slice, in_flight}
use Rattle.no_controller.specs.Claim.{SameCall, SameCalls, NoController}

-- the default configuration requires the hand controller; the same frame with rc_required, its byte 9, at 0
unfoldable pub not_required : List ℕ
not_required = set config 9 0

abbrev pub read : List ℕ → Config
read frame = (flight_or_blank (read_flight frame fence)).cfg

-- the form of a state of kind 5 or 12
abbrev pub form : List ℕ → Form
form frame = base (read frame).keeps_raised

-- thirty metres above home, with the pilot's link there or lost; and with 2 for the flag of rc_ok
unfoldable pub linked : List ℕ
linked = telemetry_frame (in_flight 0 true)

unfoldable pub lost : List ℕ
lost = telemetry_frame (in_flight 0 false)

unfoldable pub damaged : List ℕ
damaged = set linked 94 2

abbrev pub call : List ℕ → List ℕ → Call
call frame telemetry = record { with_side = false; config = frame; fence = fence; telemetry = telemetry; output = replicate 95 0; areas = [] }

-- the one call of a run from a fresh state
abbrev pub answer_to : List ℕ → List ℕ → StepCall
answer_to frame telemetry = answered (form frame) slice (call frame telemetry) []

-- the bytes of the RC clear timer in a state image
abbrev pub rc_timer : List ℕ → List ℕ
rc_timer image = take 5 (drop 11 image)

-- two runs of one call each, under one configuration, that differ in rc_ok alone
pub record OnePair (frame first second : List ℕ) : Type 0 where
  pub accepted : is_ok (read_flight frame fence) ≡ true
  pub room : state_size (form frame) ≤ length slice
  pub first_under : UnderConfig (form frame) slice (read frame) (call frame first ∷ [])
  pub second_under : UnderConfig (form frame) slice (read frame) (call frame second ∷ [])
  pub same : SameCall (form frame) (call frame first) (call frame second)

abbrev pub Alike : List ℕ → List ℕ → List ℕ → Type 0
Alike frame first second = NoController (form frame) slice (call frame first ∷ []) (call frame second ∷ [])

abbrev pub SameDeclined : List ℕ → List ℕ → List ℕ → Type 0
SameDeclined frame first second = SameCalls (form frame) slice (call frame first ∷ []) (call frame second ∷ [])

pub record NoControllerInstances : Type 0 where
  -- every premise is met: the runs are alike, and their images differ in the RC clear timer
  pub quiet : OnePair not_required linked lost
  pub quiet_off : (read not_required).rc_required ≡ false
  pub quiet_declined : SameDeclined not_required linked lost
  pub quiet_alike : Alike not_required linked lost
  pub timer_runs : rc_timer (answer_to not_required linked).state ≡ 1 ∷ 0 ∷ 0 ∷ 0 ∷ 0 ∷ []
  pub timer_rests : rc_timer (answer_to not_required lost).state ≡ 0 ∷ 0 ∷ 0 ∷ 0 ∷ 0 ∷ []
  -- without "with the same calls declined": rc_ok's own byte declines one, and only the other writes a Decision
  pub apart : OnePair not_required damaged linked
  pub apart_declined : (answer_to not_required damaged).number ≡ 4
  pub apart_steps : (answer_to not_required linked).number ≡ 0
  pub apart_differ : Alike not_required damaged linked → ⊥
  -- without rc_required false: the link that is lost is a return
  pub required : OnePair config linked lost
  pub required_on : (read config).rc_required ≡ true
  pub required_declined : SameDeclined config linked lost
  pub required_linked : shown_action (answer_to config linked).output ≡ Action.Nominal
  pub required_lost : shown_action (answer_to config lost).output ≡ Action.ReturnToLaunch
  pub required_differ : Alike config linked lost → ⊥
