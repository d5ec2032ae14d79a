-- Configuration and fence of a flight. Document 01, 'When a call declines': "Across: configuration frame, fence frame, fence rules,
-- configuration rules, state, telemetry, output." Assumes nothing.
use Rattle.std.specs.Prelude.{ℕ, cond, List, eqb, replicate, Result, Ok, Err}
use Rattle.std.specs.Result.{result_map_both, result_unwrap_or}
use Rattle.wire.specs.declared.FrameError.{FrameError}
use Rattle.wire.specs.Frame.{frame_error_number}
use Rattle.corners.specs.declared.FenceError.{FenceError}
use Rattle.corners.specs.Acceptance.{fence_error_number}
use Rattle.geometry.specs.declared.Geofence.{Geofence}
use Rattle.geometry.specs.Polygon.{zero_point}
use Rattle.geometry.specs.Distance.{ring_of, side_lengths}
use Rattle.config.specs.declared.Config.{Config}
use Rattle.config.specs.declared.ConfigError.{ConfigError}
use Rattle.config.specs.Config.{config_error_number, validate_config}
use Rattle.config.specs.Default.{default_config}
use Rattle.float32.specs.Binary32.{zero_f}
use Rattle.types.specs.declared.Telemetry.{Telemetry}
use Rattle.supervisor.specs.declared.Supervisor.{Supervisor}
use Rattle.supervisor.specs.declared.Stepped.{Stepped}
use Rattle.supervisor.specs.Settings.{base_settings, fence_site_by, with_areas, fed_at}
use Rattle.supervisor.specs.Step.{step}
use Rattle.frame_config.specs.ConfigFrame.{read_config}
use Rattle.frame_fence.specs.declared.FenceRead.{FenceRead}
use Rattle.frame_fence.specs.FenceFrame.{read_fence, fence_of}
use Rattle.flight.specs.declared.Flight.{Flight}
use Rattle.flight.specs.declared.FlightError.{FlightError}

-- the first of two refusals; 0 is none
abbrev pub or_refused : ℕ → ℕ → ℕ
or_refused a b = cond (eqb a 0) b a

-- the numbers of the refusals
abbrev pub flight_error_number : FlightError → ℕ
flight_error_number (FlightError.Frame e) = frame_error_number e
flight_error_number (FlightError.Fence e) = fence_error_number e
flight_error_number (FlightError.Config e) = config_error_number e

abbrev pub config_number : {A : Type 0} → Result A ConfigError → ℕ
config_number (Ok a) = 0
config_number (Err e) = config_error_number e

-- the number of what was read; 0 for none
abbrev pub refusal : {A : Type 0} → Result A FlightError → ℕ
refusal (Ok f) = 0
refusal (Err e) = flight_error_number e

-- a flight of settings and a fence, with the lengths of its sides
abbrev pub flight_of : Config → Geofence → Flight
flight_of cfg fence = record { cfg = cfg; fence = fence; lengths = side_lengths (ring_of fence.poly) }

-- "fence rules, configuration rules"
abbrev pub settings_checked : Config → Result Geofence FenceError → Result Flight FlightError
settings_checked cfg (Err e) = Err (FlightError.Fence e)
settings_checked cfg (Ok fence) = result_map_both (λ _. flight_of cfg fence) FlightError.Config (validate_config cfg fence)

unfoldable pub accept_flight : Config → FenceRead → Result Flight FlightError
accept_flight cfg read = settings_checked cfg (fence_of read)

-- what stands where no flight is read: it is never flown
unfoldable pub blank_flight : Flight
blank_flight =
    record {
      cfg = default_config;
      fence = record { poly = record { verts = replicate 16 zero_point; len = 0 }; max_alt_m = zero_f; min_alt_m = zero_f };
      lengths = record { m = replicate 16 zero_f };
    }

-- the flight that was read, or the blank one
abbrev pub flight_or_blank : Result Flight FlightError → Flight
flight_or_blank r = result_unwrap_or r blank_flight

-- "configuration frame, fence frame", then the rules
abbrev pub after_fence : Config → Result FenceRead FrameError → Result Flight FlightError
after_fence cfg (Err e) = Err (FlightError.Frame e)
after_fence cfg (Ok read) = accept_flight cfg read

abbrev pub after_config : Result Config FrameError → List ℕ → Result Flight FlightError
after_config (Err e) fence = Err (FlightError.Frame e)
after_config (Ok cfg) fence = after_fence cfg (read_fence fence)

unfoldable pub read_flight : List ℕ → List ℕ → Result Flight FlightError
read_flight config fence = after_config (read_config config) fence

-- one step, with the lengths that the flight holds, and with the keep-out areas of a frame
unfoldable pub step_flight : Flight → List ℕ → Supervisor → Telemetry → Stepped
step_flight f areas s t = step (base_settings f.cfg) s (fed_at (with_areas areas (fence_site_by f.fence f.lengths)) t)
