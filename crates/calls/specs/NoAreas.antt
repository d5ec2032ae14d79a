-- Document 02, L3: "The Rust is matched as long as no area has been held": with none held, a step with areas is document 01's. Assumes nothing.
use Rattle.std.specs.Prelude.{ℕ, Bool, List, [], ◌≡◌}
use Rattle.types.specs.declared.Telemetry.{Telemetry}
use Rattle.supervisor.specs.declared.Supervisor.{Supervisor}
use Rattle.supervisor.specs.Settings.{base_settings, fence_site_by, fed_at}
use Rattle.supervisor.specs.Step.{step}
use Rattle.frame_areas.specs.AreasFrame.{held_in, areas_fault}
use Rattle.flight.specs.declared.Flight.{Flight}
use Rattle.flight.specs.Flight.{step_flight}
use Rattle.calls.specs.Entry.{step_any}

pub record NoAreasClaim : Type 0 where
  -- a frame that holds no area is as good as none: number, state and output, to the bit
  pub none_held :
      (areas : List ℕ) → areas_fault areas ≡ 0 → held_in areas ≡ []
      → (with_side : Bool) (config fence state telemetry output : List ℕ)
      → step_any with_side config fence state telemetry output areas ≡ step_any with_side config fence state telemetry output []
  -- and without a frame the step is the one on the fence alone
  pub base : (f : Flight) (s : Supervisor) (t : Telemetry) → step_flight f [] s t ≡ step (base_settings f.cfg) s (fed_at (fence_site_by f.fence f.lengths) t)
