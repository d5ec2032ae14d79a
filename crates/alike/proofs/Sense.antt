-- What is sensed under another clock. Assumes nothing.
use Rattle.std.specs.Prelude.{Option, Some, None}
use Prim.Native.Nat.{ℕ}
use mathlib.Core.Path.{◌≡◌, refl, ap, ap₂, ◌∙◌}
use mathlib.Core.Bool.{Bool, false, cond}
use lib.Ieee.{Float}
use Rattle.types.specs.declared.Point2.{Point2}
use Rattle.types.specs.declared.EnergyEstimate.{EnergyEstimate}
use Rattle.types.specs.declared.Telemetry.{Telemetry}
use Rattle.types.specs.ActiveSet.{requested_action}
use Rattle.time.specs.Time.{Clock}
use Rattle.geometry.specs.declared.FenceDistance.{FenceDistance}
use Rattle.config.specs.declared.Config.{Config}
use Rattle.energy.specs.Energy.{rtl_wh, land_wh, rtl_energy_at, rtl_energy}
use Rattle.validate.specs.declared.GlitchState.{GlitchState}
use Rattle.validate.specs.declared.Filtered.{Filtered}
use Rattle.validate.specs.Glitch.{apply_glitch_filter}
use Rattle.validate.specs.Fresh.{position_valid, fresh_remaining_wh}
use Rattle.triggers.specs.declared.TriggerState.{TriggerState}
use Rattle.triggers.specs.Families.{is_present}
use Rattle.triggers.specs.Update.{update}
use Rattle.supervisor.specs.declared.Sensed.{Sensed}
use Rattle.supervisor.specs.Settings.{Site}
use Rattle.supervisor.specs.Step.{place_of, valid_place, energy_at, margin_at, dist_of, side_of, sense}
use Rattle.instants.specs.Retimed.{instead, TimerName, triggers_at, position_at, glitch_at, Stamps, telemetry_at, durations_of, timers_after}
use Rattle.instants.specs.Own.{position_stamp}
use Rattle.marks.specs.Marks.{gap_now}
use Rattle.alike.specs.Alike.{ReadAlike, settings}
use Rattle.alike.proofs.Fresh.{valid_alike}
use Rattle.alike.proofs.Filter.{filter_law, left_fresh}
use Rattle.alike.proofs.Update.{ekf_good, remaining, TimersAlike, update_law}
use Rattle.types.specs.declared.PositionSample.{PositionSample}
use Rattle.triggers.specs.declared.Place.{Place}

place_at : (near : Point2 → FenceDistance) (x : ℕ) (p : Option PositionSample) → place_of near (position_at x p) ≡ place_of near p
place_at near x None = refl
place_at near x (Some p) = refl

-- the energy reads no duration
pub rtl_at : (d cfg : Config) (h m : Float) (r : Option Float) → rtl_energy_at (durations_of d cfg) h m r ≡ rtl_energy_at cfg h m r
unfolding rtl_energy_at rtl_wh land_wh durations_of
rtl_at d cfg h m r = refl

energy_same : (d cfg : Config) (p : Option Place) (r : Option Float) → energy_at (durations_of d cfg) p r ≡ energy_at cfg p r
unfolding rtl_energy
energy_same d cfg None r = rtl_at d cfg _ _ r
energy_same d cfg (Some p) r = rtl_at d cfg p.home_dist_m p.alt_m r

-- a sample was left, and stored, where there is a distance
abbrev pub sensed_at : (TimerName → ℕ) → ℕ → ℕ → Sensed → Sensed
sensed_at i x y r =
    record {
      triggers = triggers_at i r.triggers;
      glitch = glitch_at (cond (is_present r.fence_dist_m) y x) r.glitch;
      active = r.active;
      requested = r.requested;
      position_valid = r.position_valid;
      energy = r.energy;
      fence_dist_m = r.fence_dist_m;
      side = r.side;
    }

module _
    (c1 c2 : Clock) (cfg d : Config) (site : Site)
    (s : TriggerState) (i : TimerName → ℕ) (g : GlitchState) (x : ℕ) (t : Telemetry) (j : Stamps)
    (read : ReadAlike c1 c2 cfg d t j)
    (gap : gap_now c2 j.now (instead x (position_stamp g.last_accepted)) ≡ gap_now c1 t.now_ms (position_stamp g.last_accepted))
  where
    pub sense_law : (invalid fault : Bool) → (fault ≡ false → TimersAlike c1 c2 cfg d t j read s i) → sense (settings c2 (durations_of d cfg)) site (triggers_at i s) (glitch_at x g) (telemetry_at j t) invalid fault ≡ sensed_at (timers_after j.now i s) x j.position (sense (settings c1 cfg) site s g t invalid fault)
    unfolding sense telemetry_at durations_of
    sense_law invalid fault alike =
        let f1 = apply_glitch_filter c1 g t.now_ms t.position cfg.v_max in
        let f = filter_law c1 c2 t.now_ms j.now x j.position cfg.v_max site.near g t.position gap in
        let fresh = left_fresh c1 c2 t.now_ms j.now x j.position cfg.v_max cfg.pos_fresh_ms d.pos_fresh_ms g t.position read.position in
        let valid =
        ap (λ (r : Filtered). position_valid c2 j.now r.position (telemetry_at j t).ekf_ok d.pos_fresh_ms d.status_fresh_ms) f
        ∙ valid_alike c1 c2 t.now_ms j.now cfg.pos_fresh_ms d.pos_fresh_ms j.position f1.position fresh (telemetry_at j t).ekf_ok t.ekf_ok d.status_fresh_ms cfg.status_fresh_ms (ekf_good c1 c2 cfg d t j read)
        in
        let place = ap (λ (r : Filtered). place_of site.near r.position) f ∙ place_at site.near j.position f1.position in
        let left = remaining c1 c2 cfg d t j read in
        let estimate = ap₂ (energy_at (durations_of d cfg)) place left ∙ energy_same d cfg (place_of site.near f1.position) (fresh_remaining_wh c1 t.now_ms t.battery cfg.battery_fresh_ms cfg.usable_capacity_wh) in
        let u =
        ap₂ (λ p m. update c2 (triggers_at i s) (telemetry_at j t) (durations_of d cfg) site.min_alt site.max_alt p m invalid fault) (ap₂ valid_place valid place) (ap₂ (λ p (e : EnergyEstimate). margin_at p e.margin_wh) place estimate)
        ∙ update_law c1 c2 cfg d t j read s i site.min_alt site.max_alt _ _ invalid fault alike
        in
        λ k. record {
          triggers = (u k).triggers;
          glitch = (f k).glitch;
          active = (u k).active;
          requested = requested_action (u k).active.reqs;
          position_valid = valid k;
          energy = estimate k;
          fence_dist_m = dist_of (place k);
          side = side_of (place k);
        }
