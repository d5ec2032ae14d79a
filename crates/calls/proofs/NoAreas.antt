-- Without an area held, a step with areas is the step on the fence alone. Assumes nothing.
use Prim.Native.Nat.{ℕ}
use mathlib.Core.Bool.{Bool, cond}
use mathlib.Core.List.{List, []}
use mathlib.Core.Path.{◌≡◌, refl, ap, sym, ◌∙◌}
use lib.Dec.{eqb}
use Rattle.types.specs.declared.Telemetry.{Telemetry}
use Rattle.supervisor.specs.declared.Supervisor.{Supervisor}
use Rattle.supervisor.specs.declared.Stepped.{Stepped}
use Rattle.supervisor.specs.Settings.{Site, base_settings, fence_site_by, with_areas, fed_at}
use Rattle.supervisor.specs.Step.{step}
use Rattle.frame_areas.specs.AreasFrame.{held_in, areas_fault}
use Rattle.frame_areas.proofs.Claims.{no_area_claim}
use Rattle.frame_areas.proofs.None.{none_held, none_refused}
use Rattle.flight.specs.declared.Flight.{Flight}
use Rattle.flight.specs.declared.FlightError.{FlightError}
use Rattle.flight.specs.Flight.{read_flight, step_flight}
use Rattle.wire.specs.declared.FrameError.{FrameError}
use Rattle.std.specs.Prelude.{Result, Ok, Err}
use Rattle.calls.specs.Form.{Form, settings_of, read_state_of, read_telemetry_of, form_of}
use Rattle.calls.specs.Entry.{flight_keeps, declined, written, step_of, after_telemetry, after_state, after_flight, step_any}
use Rattle.calls.specs.NoAreas.{NoAreasClaim}

site_alone : (areas : List ℕ) → held_in areas ≡ [] → (site : Site) → with_areas areas site ≡ site
site_alone areas e site i = record { near = λ p. no_area_claim areas e (site.near p) p i; min_alt = site.min_alt; max_alt = site.max_alt }

alone : (areas : List ℕ) → held_in areas ≡ [] → (form : Form) (f : Flight) (s : Supervisor) (t : Telemetry) → step_of form f areas s t ≡ step (settings_of form f.cfg) s (fed_at (fence_site_by f.fence f.lengths) t)
alone areas e form f s t = ap (λ (site : Site). step (settings_of form f.cfg) s (fed_at site t)) (site_alone areas e (fence_site_by f.fence f.lengths))

flight_alone : (f : Flight) (s : Supervisor) (t : Telemetry) → step_flight f [] s t ≡ step (base_settings f.cfg) s (fed_at (fence_site_by f.fence f.lengths) t)
unfolding step_flight
flight_alone f s t = ap (λ (site : Site). step (base_settings f.cfg) s (fed_at site t)) (site_alone [] none_held (fence_site_by f.fence f.lengths))

module _ (areas : List ℕ) (e : held_in areas ≡ []) (with_side : Bool) (form : Form) (f : Flight) where
  same_step : (s : Supervisor) (t : Telemetry) → step_of form f areas s t ≡ step_of form f [] s t
  same_step s t = alone areas e form f s t ∙ sym (alone [] none_held form f s t)

  same_telemetry : (r : Result Telemetry FrameError) (s : Supervisor) (state output : List ℕ) → after_telemetry with_side form r f areas s state output ≡ after_telemetry with_side form r f [] s state output
  same_telemetry (Err x) s state output = refl
  same_telemetry (Ok t) s state output = ap (λ (next : Stepped). written with_side form next state output) (same_step s t)

  same_state : (r : Result Supervisor FrameError) (state telemetry output : List ℕ) → after_state with_side form r f areas state telemetry output ≡ after_state with_side form r f [] state telemetry output
  same_state (Err x) state telemetry output = refl
  same_state (Ok s) state telemetry output = same_telemetry (read_telemetry_of form telemetry) s state output

pub no_areas_claim : NoAreasClaim
unfolding step_any
no_areas_claim = record { none_held = same; base = flight_alone }
  where
    after : (areas : List ℕ) → areas_fault areas ≡ 0 → held_in areas ≡ [] → (with_side : Bool) (r : Result Flight FlightError) (state telemetry output : List ℕ) → after_flight with_side r areas state telemetry output ≡ after_flight with_side r [] state telemetry output
    after areas ok e with_side (Err x) state telemetry output = refl
    after areas ok e with_side (Ok f) state telemetry output =
        let form = form_of (flight_keeps f) state in
        λ i. cond (eqb ((ok ∙ sym none_refused) i) 0) (same_state areas e with_side form f (read_state_of form state) state telemetry output i) (declined ((ok ∙ sym none_refused) i) state output)

    same : (areas : List ℕ) → areas_fault areas ≡ 0 → held_in areas ≡ [] → (with_side : Bool) (config fence state telemetry output : List ℕ) → step_any with_side config fence state telemetry output areas ≡ step_any with_side config fence state telemetry output []
    same areas ok e with_side config fence state telemetry output = after areas ok e with_side (read_flight config fence) state telemetry output
