-- Home's distance by the sides' own lengths is the distance, and a flight's settings are those that were read. Assumes nothing.
use native.Mathlib.Omega.{arith}
use Rattle.corners.specs.declared.FenceError.{FenceError}
use Rattle.frame_fence.specs.declared.FenceRead.{FenceRead}
use Rattle.flight.specs.declared.FlightError.{FlightError}
use Rattle.flight.specs.declared.Flight.{Flight}
use Rattle.wire.specs.declared.FrameError.{FrameError}
use Rattle.std.specs.Result.{result_map_both}
use Rattle.std.specs.Prelude.{Result, Ok, Err, ⊤}
use Prim.Native.Nat.{ℕ}
use mathlib.Core.List.{List}
use Rattle.geometry.specs.declared.Geofence.{Geofence}
use Rattle.config.specs.declared.Config.{Config}
use Rattle.config.specs.declared.ConfigError.{ConfigError}
use Rattle.config.specs.Config.{home, validate_config}
use Rattle.frame_config.specs.ConfigFrame.{read_config}
use Rattle.frame_fence.specs.FenceFrame.{read_fence, fence_of}
use Rattle.flight.specs.Flight.{flight_of, read_flight, accept_flight, settings_checked, after_fence, after_config}
use mathlib.Core.Path.{◌≡◌, ap, sym, ◌∙◌}
use Rattle.std.specs.Float.Ieee.{le}
use Rattle.float32.specs.Binary32.{zero_f}
use Rattle.geometry.specs.declared.ConvexPolygon.{ConvexPolygon}
use Rattle.geometry.specs.declared.FenceDistance.{FenceDistance}
use Rattle.geometry.specs.Distance.{ring_of, side_lengths, nearest_by, contains}
use Rattle.geometry.proofs.Lengths.{by_side_lengths}
use Rattle.geometry.proofs.Nearest.{nearest_distance}

pub home_by_lengths : (poly : ConvexPolygon) → le zero_f (nearest_by (ring_of poly) (side_lengths (ring_of poly)).m home).m ≡ contains (ring_of poly) home
unfolding contains
home_by_lengths poly =
    let r = ring_of poly in
    ap (λ (d : FenceDistance). le zero_f d.m) (by_side_lengths r home) ∙ ap (le zero_f) (nearest_distance r home)

-- the settings of a flight that was read are those of its configuration
module _ (f : Flight) where
  of_rules : (cfg : Config) (fence : Geofence) (r : Result ⊤ ConfigError) → result_map_both (λ _. flight_of cfg fence) FlightError.Config r ≡ Ok f → f.cfg ≡ cfg
  of_rules cfg fence (Ok tt) e = let v : flight_of cfg fence ≡ f = cc in ap (λ (g : Flight). g.cfg) (sym v)
  of_rules cfg fence (Err x) e = let z : ◌≡◌ {A = ℕ} 0 1 = cc in absurd (omega arith)

  of_settings : (cfg : Config) (r : Result Geofence FenceError) → settings_checked cfg r ≡ Ok f → f.cfg ≡ cfg
  of_settings cfg (Ok fence) e = of_rules cfg fence (validate_config cfg fence) e
  of_settings cfg (Err x) e = let z : ◌≡◌ {A = ℕ} 0 1 = cc in absurd (omega arith)

  of_fence : (cfg : Config) (r : Result FenceRead FrameError) → after_fence cfg r ≡ Ok f → f.cfg ≡ cfg
  unfolding accept_flight
  of_fence cfg (Ok read) e = of_settings cfg (fence_of read) e
  of_fence cfg (Err x) e = let z : ◌≡◌ {A = ℕ} 0 1 = cc in absurd (omega arith)

  pub settings_read : (config fence : List ℕ) → read_flight config fence ≡ Ok f → read_config config ≡ Ok f.cfg
  unfolding read_flight
  settings_read config fence e = at (read_config config) e
    where
      at : (r : Result Config FrameError) → after_config r fence ≡ Ok f → r ≡ Ok f.cfg
      at (Ok cfg) e = ap Ok (sym (of_fence cfg (read_fence fence) e))
      at (Err x) e = let z : ◌≡◌ {A = ℕ} 0 1 = cc in absurd (omega arith)
