-- What stands for the Rust's `Supervisor::new` and `Supervisor::step` where configuration and fence are read at each call: the same refusals, and the same step.
-- Assumes nothing.
use Rattle.std.specs.Prelude.{◌≡◌, [], Ok, Err}
use Rattle.types.specs.declared.Telemetry.{Telemetry}
use Rattle.config.specs.declared.Config.{Config}
use Rattle.corners.specs.declared.FenceError.{FenceError}
use Rattle.geometry.specs.declared.Geofence.{Geofence}
use Rattle.supervisor.specs.declared.Supervisor.{Supervisor}
use Rattle.supervisor.specs.Settings.{base_settings, fence_site, fed_at}
use Rattle.supervisor.specs.Step.{supervisor_new, step}
use Rattle.frame_fence.specs.declared.FenceRead.{FenceRead}
use Rattle.frame_fence.specs.FenceFrame.{fence_of}
use Rattle.flight.specs.declared.Flight.{Flight}
use Rattle.flight.specs.declared.FlightError.{FlightError}
use Rattle.flight.specs.Flight.{flight_of, config_number, refusal, accept_flight, step_flight}

pub record RustClaim : Type 0 where
  -- what was read is refused by the fence's rules
  pub fence_refused : (cfg : Config) (read : FenceRead) (e : FenceError) → fence_of read ≡ Err e → accept_flight cfg read ≡ Err (FlightError.Fence e)
  -- or as `Supervisor::new` refuses it
  pub refused : (cfg : Config) (read : FenceRead) (fence : Geofence) → fence_of read ≡ Ok fence → refusal (accept_flight cfg read) ≡ config_number (supervisor_new cfg fence)
  -- and is else the flight of both
  pub accepted : (cfg : Config) (read : FenceRead) (fence : Geofence) (f : Flight) → fence_of read ≡ Ok fence → accept_flight cfg read ≡ Ok f → f ≡ flight_of cfg fence
  -- on which a step without areas is `Supervisor::step`'s, over that configuration and fence
  pub stepped : (cfg : Config) (fence : Geofence) (s : Supervisor) (t : Telemetry)
      → step_flight (flight_of cfg fence) [] s t ≡ step (base_settings cfg) s (fed_at (fence_site fence) t)
