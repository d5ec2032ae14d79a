-- A run on bytes that meets the premises of the claim, and its record; and calls with several faults. Lists have the latest call first. Assumes nothing.
use Rattle.std.specs.Prelude.{ℕ, ◌≤◌, Bool, true, false, List, [], ◌∷◌, ◌++◌, ◌≡◌, length, set, take, replicate, Some, None, Ok}
use Rattle.std.specs.Float.Ieee.{neg}
use Rattle.types.specs.declared.Action.{Action}
use Rattle.types.specs.declared.GpsFix.{GpsFix}
use Rattle.types.specs.declared.LandedState.{LandedState}
use Rattle.types.specs.declared.Point2.{Point2}
use Rattle.types.specs.declared.Telemetry.{Telemetry}
use Rattle.config.specs.Default.{decimal, default_config, default_corners}
use Rattle.frame_config.specs.ConfigFrame.{config_frame}
use Rattle.wire.specs.Cell.{bytes_of}
use Rattle.frame_fence.specs.FenceFrame.{corner_cells, fence_frame}
use Rattle.frame_areas.specs.AreasFrame.{areas_frame}
use Rattle.frame_telemetry.specs.TelemetryFrame.{telemetry_frame}
use Rattle.ladder.specs.Record.{Line}
use Rattle.supervisor.specs.Settings.{Site, fence_site, with_areas, fed_at}
use Rattle.flight.specs.declared.Flight.{Flight}
use Rattle.flight.specs.Flight.{flight_or_blank, read_flight}
use Rattle.calls.specs.Form.{Form, base, state_size}
use Rattle.calls.specs.Entry.{flight_keeps, step_any, fresh_call}
use Rattle.run.specs.Run.{Call, Under, record_of_calls, SameFlight, RunObeys}

-- the frames of the default configuration and fence; a state slice longer than a frame
unfoldable pub config : List ℕ
config = config_frame default_config

unfoldable pub fence : List ℕ
fence = fence_frame false 4 (decimal 5 1) (decimal 120 1) default_corners

unfoldable pub slice : List ℕ
slice = replicate 200 7

-- thirty metres above home, all readings taken now; the pilot's link is there or is lost
unfoldable pub in_flight : ℕ → Bool → Telemetry
in_flight now link =
    record {
      now_ms = now;
      position =
          Some
          (record {
            t_ms = now;
            pos = record { n = decimal 0 1; e = decimal 0 1; d = neg (decimal 30 1) };
            vel = record { n = decimal 0 1; e = decimal 0 1; d = decimal 0 1 };
          });
      gps = Some (record { t_ms = now; fix = GpsFix.Fix3D; sats = Some 12; hdop = Some (decimal 1 1) });
      battery =
          record {
            voltage_v = Some (record { t_ms = now; value = decimal 16 1 });
            percent = Some (record { t_ms = now; value = decimal 90 1 });
            remaining_wh = None;
          };
      gcs_heartbeat_ms = Some now;
      armed = Some (record { t_ms = now; value = true });
      landed = Some (record { t_ms = now; value = LandedState.InAir });
      rc_ok = Some (record { t_ms = now; value = link });
      ekf_ok = Some (record { t_ms = now; value = true });
    }

-- nothing is read but the clock
unfoldable pub blind : ℕ → Telemetry
blind now =
    record {
      now_ms = now;
      position = None;
      gps = None;
      battery = record { voltage_v = None; percent = None; remaining_wh = None };
      gcs_heartbeat_ms = None;
      armed = None;
      landed = None;
      rc_ok = None;
      ekf_ok = None;
    }

abbrev pub step_on : Telemetry → Call
step_on t = record { with_side = false; config = config; fence = fence; telemetry = telemetry_frame t; output = replicate 95 0; areas = [] }

-- the same by the entry that writes the side
abbrev pub step_with_side : Telemetry → Call
step_with_side t = record { with_side = true; config = config; fence = fence; telemetry = telemetry_frame t; output = replicate 96 0; areas = [] }

-- the frame of one keep-out area, five metres north of home: a crane that is up
abbrev pub at : ℕ → ℕ → Point2
at north east = record { n = decimal north 1; e = decimal east 1 }

unfoldable pub crane : List ℕ
crane = areas_frame (record { number = 1; corners = 3 ∷ bytes_of (corner_cells (at 5 0 ∷ at 45 20 ∷ at 25 40 ∷ [])) } ∷ [])

-- the same by the entry that takes areas
abbrev pub step_with_crane : Telemetry → Call
step_with_crane t = record { with_side = true; config = config; fence = fence; telemetry = telemetry_frame t; output = replicate 96 0; areas = crane }

-- declined: every slice is empty
abbrev pub empty : Call
empty = record { with_side = false; config = []; fence = []; telemetry = []; output = []; areas = [] }

abbrev pub calls : List Call
calls =
    step_on (blind 6100) ∷
    step_with_side (in_flight 6060 true) ∷
    step_with_crane (in_flight 6050 true) ∷
    step_on (in_flight 6000 true) ∷
    step_with_side (in_flight 5999 true) ∷
    empty ∷
    step_on (in_flight 1000 true) ∷
    step_on (in_flight 0 false) ∷
    []

-- the flight that both frames hold
abbrev pub flown : Flight
flown = flight_or_blank (read_flight config fence)

-- the configuration is of kind 1, the state of kind 5
abbrev pub form : Form
form = base (flight_keeps flown)

abbrev pub site : Site
site = fence_site flown.fence

abbrev pub line : Telemetry → Action → Line
line t a = record { fed = fed_at site t; action = a }

abbrev pub line_with_crane : Telemetry → Action → Line
line_with_crane t a = record { fed = fed_at (with_areas crane site) t; action = a }

pub record RunInstance : Type 0 where
  -- the premises of the claim
  pub room : state_size form ≤ length slice
  pub accepted : read_flight config fence ≡ Ok flown
  pub under : Under form slice (SameFlight flown) calls
  -- seven steps: the pilot's link is lost at 0 and back from 1000, so Nominal is wanted from then on and shown 5000 ms later; at 6050 a crane is up, for
  -- that step alone, and the warning stays at 6060; at 6100 all readings are lost
  pub record_is :
      record_of_calls form slice calls
      ≡ line (blind 6100) Action.Land
      ∷ line (in_flight 6060 true) Action.Warn
      ∷ line_with_crane (in_flight 6050 true) Action.Warn
      ∷ line (in_flight 6000 true) Action.Nominal
      ∷ line (in_flight 5999 true) Action.ReturnToLaunch
      ∷ line (in_flight 1000 true) Action.ReturnToLaunch
      ∷ line (in_flight 0 false) Action.ReturnToLaunch
      ∷ []
  -- so the claim holds of it
  pub obeys : RunObeys form slice flown.cfg calls

-- ---- "Across: configuration frame, fence frame, fence rules, configuration rules, state, telemetry, output"

-- a fence whose altitudes leave the return altitude of 30 out: its corners are accepted where all four are sent
abbrev pub low_fence : ℕ → List ℕ
low_fence n = fence_frame false n (decimal 5 1) (decimal 20 1) default_corners

abbrev pub sound_state : List ℕ
sound_state = take 186 (fresh_call (base false) slice).state

-- a byte is left over
abbrev pub long_state : List ℕ
long_state = sound_state ++ 0 ∷ []

-- the position's flag is 2
abbrev pub flag_of_two : List ℕ
flag_of_two = set (telemetry_frame (blind 0)) 8 2

abbrev pub short_output : List ℕ
short_output = replicate 94 0

-- In each call all that comes later is at fault too: the number is that of the first.
pub record RefusalOrder : Type 0 where
  -- a fence in the place of the configuration
  pub config_frame_lem : (step_any false fence [] long_state flag_of_two short_output []).number ≡ 2
  -- no bytes for the fence, then two corners
  pub fence_frame_lem : (step_any false config [] long_state flag_of_two short_output []).number ≡ 1
  pub fence_rules_lem : (step_any false config (low_fence 2) long_state flag_of_two short_output []).number ≡ 10
  pub config_rules : (step_any false config (low_fence 4) long_state flag_of_two short_output []).number ≡ 21
  pub state : (step_any false config fence long_state flag_of_two short_output []).number ≡ 3
  pub telemetry : (step_any false config fence sound_state flag_of_two short_output []).number ≡ 4
  pub output : (step_any false config fence sound_state (telemetry_frame (blind 0)) short_output []).number ≡ 5
  pub none : (step_any false config fence sound_state (telemetry_frame (blind 0)) (replicate 95 0) []).number ≡ 0
