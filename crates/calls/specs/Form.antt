-- The forms that a state's frame has, each with the telemetry that is due beside it and the clock that both are on. Assumes nothing.
use Rattle.std.specs.Prelude.{ℕ, ◌+◌, Bool, not, ◌&&◌, cond, List, eqb, replicate, Result}
use Rattle.types.specs.declared.Telemetry.{Telemetry}
use Rattle.time.specs.Time.{Clock, wrapping, plain}
use Rattle.config.specs.declared.Config.{Config}
use Rattle.supervisor.specs.declared.Supervisor.{Supervisor}
use Rattle.supervisor.specs.Settings.{Settings}
use Rattle.wire.specs.declared.FrameError.{FrameError}
use Rattle.wire.specs.Fields.{u16_at}
use Rattle.frame_state.specs.StateFrame.{state_length, read_state, state_frame}
use Rattle.frame_telemetry.specs.TelemetryFrame.{read_telemetry, telemetry_at}
use Rattle.instants.specs.Retimed.{telemetry_at as telemetry_on64}
use Rattle.frame_wide.specs.WideState.{read_wide_state, wide_state_frame}
use Rattle.frame_wide.specs.WideTelemetry.{telemetry_on, wide_stamps, read_wide_telemetry}

pub data Form : Type 0 where
  -- a state of kind 5, or of kind 12 where the configuration is of kind 11 and raised requests are kept, with telemetry of kind 3
  base : Bool → Form
  -- document 02, L7: a state of kind 10 with telemetry of kind 9
  wide : Form

abbrev pub clock_of : Form → Clock
clock_of (base keeps) = wrapping
clock_of wide = plain

-- the bytes of a state's frame
abbrev pub state_size : Form → ℕ
state_size (base keeps) = 2 + state_length keeps
state_size wide = 306

abbrev pub read_state_of : Form → List ℕ → Result Supervisor FrameError
read_state_of (base keeps) s = read_state keeps s
read_state_of wide s = read_wide_state s

abbrev pub state_frame_of : Form → Supervisor → List ℕ
state_frame_of (base keeps) x = state_frame keeps x
state_frame_of wide x = wide_state_frame x

abbrev pub read_telemetry_of : Form → List ℕ → Result Telemetry FrameError
read_telemetry_of (base keeps) s = read_telemetry s
read_telemetry_of wide s = read_wide_telemetry s

-- the telemetry in a frame that is accepted
abbrev pub telemetry_in : Form → List ℕ → Telemetry
telemetry_in (base keeps) s = telemetry_at s
telemetry_in wide s = telemetry_on64 (wide_stamps s) (telemetry_at (telemetry_on (replicate 11 0) s))

abbrev pub settings_of : Form → Config → Settings
settings_of form cfg = record { clock = clock_of form; cfg = cfg }

-- the form that is due: beside a configuration of kind 11 it is kind 12; beside kind 1 it is kind 10 where the state says so, else kind 5
unfoldable pub form_of : Bool → List ℕ → Form
form_of keeps state = cond (not keeps && eqb (u16_at state 2) 10) wide (base keeps)
