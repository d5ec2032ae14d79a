-- A flight that is read refuses as `Supervisor::new` does, and steps as `Supervisor::step` (specs/Rust.antt). Assumes nothing.
use Prim.Native.Nat.{ℕ}
use mathlib.Core.Path.{◌≡◌, refl, ap, sym, ◌∙◌}
use mathlib.Core.List.{[]}
use native.Mathlib.Omega.{arith}
use Rattle.std.specs.Prelude.{Result, Ok, Err, ⊤}
use Rattle.std.specs.Result.{result_and, result_map_both}
use Rattle.types.specs.declared.Telemetry.{Telemetry}
use Rattle.corners.specs.declared.FenceError.{FenceError}
use Rattle.geometry.specs.declared.Geofence.{Geofence}
use Rattle.geometry.specs.Distance.{ring_of, side_lengths, nearest_by}
use Rattle.geometry.proofs.Lengths.{by_side_lengths}
use Rattle.frame_areas.proofs.None.{none_near}
use Rattle.config.specs.declared.Config.{Config}
use Rattle.config.specs.declared.ConfigError.{ConfigError}
use Rattle.config.specs.Config.{validate_config}
use Rattle.supervisor.specs.declared.Supervisor.{Supervisor}
use Rattle.supervisor.specs.Settings.{Site, base_settings, fence_site, fence_site_by, with_areas, fed_at}
use Rattle.supervisor.specs.Step.{fresh_supervisor, supervisor_new, step}
use Rattle.frame_fence.specs.declared.FenceRead.{FenceRead}
use Rattle.frame_fence.specs.FenceFrame.{fence_of}
use Rattle.flight.specs.declared.Flight.{Flight}
use Rattle.flight.specs.declared.FlightError.{FlightError}
use Rattle.flight.specs.Flight.{flight_of, config_number, refusal, settings_checked, accept_flight, step_flight}
use Rattle.flight.specs.Rust.{RustClaim}

-- by the sides' own lengths, and without an area, the site is the fence's
own_site : (f : Geofence) → with_areas [] (fence_site_by f (side_lengths (ring_of f.poly))) ≡ fence_site f
own_site f i =
    let l = ring_of f.poly in
    record { near = λ p. (none_near (nearest_by l (side_lengths l).m p) p ∙ by_side_lengths l p) i; min_alt = f.min_alt_m; max_alt = f.max_alt_m }

-- the number of a flight is that of its settings
same_number : (cfg : Config) (fence : Geofence) (r : Result ⊤ ConfigError)
    → refusal (result_map_both (λ _. flight_of cfg fence) FlightError.Config r) ≡ config_number (result_and r (Ok fresh_supervisor))
same_number cfg fence (Ok tt) = refl
same_number cfg fence (Err e) = refl

module _ (cfg : Config) (read : FenceRead) where
  refused_by_fence : (e : FenceError) → fence_of read ≡ Err e → accept_flight cfg read ≡ Err (FlightError.Fence e)
  unfolding accept_flight
  refused_by_fence e h = ap (settings_checked cfg) h

  as_new : (fence : Geofence) → fence_of read ≡ Ok fence → refusal (accept_flight cfg read) ≡ config_number (supervisor_new cfg fence)
  unfolding accept_flight supervisor_new
  as_new fence h = ap (λ (r : Result Geofence FenceError). refusal (settings_checked cfg r)) h ∙ same_number cfg fence (validate_config cfg fence)

  as_both : (fence : Geofence) (f : Flight) → fence_of read ≡ Ok fence → accept_flight cfg read ≡ Ok f → f ≡ flight_of cfg fence
  unfolding accept_flight
  as_both fence f h e = by (validate_config cfg fence) (sym (ap (settings_checked cfg) h) ∙ e)
    where
      by : (r : Result ⊤ ConfigError) → result_map_both (λ _. flight_of cfg fence) FlightError.Config r ≡ Ok f → f ≡ flight_of cfg fence
      by (Ok tt) q = let v : flight_of cfg fence ≡ f = cc in sym v
      by (Err x) q = let z : ◌≡◌ {A = ℕ} 0 1 = cc in absurd (omega arith)

as_step : (cfg : Config) (fence : Geofence) (s : Supervisor) (t : Telemetry) → step_flight (flight_of cfg fence) [] s t ≡ step (base_settings cfg) s (fed_at (fence_site fence) t)
unfolding step_flight
as_step cfg fence s t = ap (λ (site : Site). step (base_settings cfg) s (fed_at site t)) (own_site fence)

pub rust_claim : RustClaim
rust_claim = record { fence_refused = refused_by_fence; refused = as_new; accepted = as_both; stepped = as_step }
