-- Document 02, L11: what holds of every flight whose configuration is of kind 11. Assumes nothing.
use Rattle.std.specs.Prelude.{ℕ, Bool, true, false, not, ◌&&◌, List, [], ◌∷◌, ◌≡◌, Float, Option, None}
use Rattle.types.specs.declared.Action.{Action}
use Rattle.types.specs.declared.Reason.{Reason}
use Rattle.types.specs.ActiveSet.{empty_set, set_request}
use Rattle.time.specs.Time.{Clock}
use Rattle.config.specs.declared.Config.{Config}
use Rattle.validate.specs.Bounds.{validate_telemetry}
use Rattle.validate.specs.Glitch.{apply_glitch_filter}
use Rattle.validate.specs.Fresh.{position_valid, fresh_remaining_wh, fresh_true}
use Rattle.timers.specs.declared.Timer.{Timer}
use Rattle.timers.specs.Timer.{held_set, rested, raised_by}
use Rattle.triggers.specs.declared.Families.{Families}
use Rattle.triggers.specs.declared.TriggerState.{TriggerState}
use Rattle.triggers.specs.Families.{rc_link, gps, ekf, fence, battery, energy}
use Rattle.triggers.specs.Update.{none_raised, rc_lost, families}
use Rattle.supervisor.specs.declared.Supervisor.{Supervisor}
use Rattle.supervisor.specs.Settings.{Settings, Fed}
use Rattle.supervisor.specs.Step.{triggers_after, glitch_after, place_of, valid_place, energy_at, margin_at, step}
use Rattle.step_laws.specs.Laws.{clock_at, disarms, after}
use Rattle.ladder.specs.Clock.{faulted, third}
use Rattle.ladder.specs.Record.{Line, Followed, reading, readings, disarm, followed}
use Rattle.raised_laws.specs.Pair.{Event, raised_after}
use Rattle.raised_laws.specs.Eight.{Kept, pair_of, flag_of}

module _ (r : Settings) where
  -- what the families make of a sound step, from what the rules kept
  unfoldable pub families_at : Followed → Fed → Bool → Families
  families_at f fed is_third =
      let cfg = r.cfg in
      let v = validate_telemetry fed.telemetry cfg.usable_capacity_wh in
      let t = v.telemetry in
      let now = t.now_ms in
      let filtered = apply_glitch_filter r.clock (glitch_after is_third f.glitch) now t.position cfg.v_max in
      let valid = position_valid r.clock now filtered.position t.ekf_ok cfg.pos_fresh_ms cfg.status_fresh_ms in
      let remaining = fresh_remaining_wh r.clock now t.battery cfg.battery_fresh_ms cfg.usable_capacity_wh in
      let place = place_of fed.site.near filtered.position in
      families r.clock (triggers_after is_third f.triggers) t cfg fed.site.min_alt fed.site.max_alt
      (valid_place valid place) (margin_at place (energy_at cfg place remaining).margin_wh) v.invalid_input

  -- what a step of a record says of one of the eight: a faulted step meets no hold, "and keeps what is raised"
  unfoldable pub event_of : Kept → Line → List Line → Event
  event_of k e earlier =
      let fault = faulted r.clock (reading e) (readings earlier) in
      let p = pair_of k (families_at (followed r earlier) e.fed (third r.clock (reading e) (readings earlier))) in
      record { disarm = disarm r e; set_held = not fault && p.set_met; clear_held = not fault && p.clear_met }

  unfoldable pub events_of : Kept → List Line → List Event
  events_of k [] = []
  events_of k (e ∷ earlier) = event_of k e earlier ∷ events_of k earlier

-- one rule "shown for one pair of timers and carried to all eight": of every record under a configuration of kind 11
abbrev pub RaisedClaim : Type 0
RaisedClaim = (r : Settings) → r.cfg.keeps_raised ≡ true → (k : Kept) (lines : List Line) → flag_of k (followed r lines).triggers.raised ≡ raised_after (events_of r k lines)

-- under kind 1 nothing is kept
abbrev pub NoneRaisedClaim : Type 0
NoneRaisedClaim = (r : Settings) → r.cfg.keeps_raised ≡ false → (lines : List Line) → (followed r lines).triggers.raised ≡ none_raised

pub record RaisedLaws : Type 0 where
  -- "a rested timer neither raises nor drops"
  pub rested_keeps : (before : Bool) (set clear : Timer) → raised_by true before (rested set clear) ≡ before
  -- "Readings absent after validation drop none of them": no clear hold is met without a sample, without a reading of the estimator, without a valid
  -- position, without a charge, without a margin
  pub absent_gps : (ck : Clock) (s : TriggerState) (now : ℕ) (cfg : Config) → ((gps ck s now None cfg).degraded.clear_met ≡ false) × ((gps ck s now None cfg).lost.clear_met ≡ false)
  pub absent_ekf : (ck : Clock) (set clear : Timer) (now : ℕ) (cfg : Config) → (ekf ck set clear now (fresh_true ck now None cfg.status_fresh_ms) cfg).clear_met ≡ false
  pub absent_place : (ck : Clock) (s : TriggerState) (now : ℕ) (flying : Bool) (lo hi : Float) (cfg : Config) → ((fence ck s now None flying lo hi cfg).breach.clear_met ≡ false) × ((fence ck s now None flying lo hi cfg).alt_min.clear_met ≡ false)
  pub absent_charge : (ck : Clock) (s : TriggerState) (now : ℕ) (volts : Option Float) (cfg : Config) → ((battery ck s now None volts cfg).warn.clear_met ≡ false) × ((battery ck s now None volts cfg).low.clear_met ≡ false)
  pub absent_margin : (ck : Clock) (s : TriggerState) (now : ℕ) (cfg : Config) → (energy ck s now None cfg).marginal.clear_met ≡ false
  -- "RcLost is raised where its set timer has held rc_lost_set_ms, and only there"
  pub rc_held : (ck : Clock) (set clear : Timer) (now : ℕ) (good : Bool) (cfg : Config) → rc_lost true (rc_link ck set clear now good cfg) ≡ (held_set ck set now (cfg.rc_required && not good) cfg.rc_lost_set_ms).met
  -- "confirmed disarm, on a faulted step too, drops all"
  pub disarm_drops : (r : Settings) (s : Supervisor) (fed : Fed) → disarms r s fed ≡ true → (after r s fed).triggers.raised ≡ none_raised
  -- "Any other faulted step files ClockFault alone and keeps what is raised", a third one too
  pub fault_keeps : (r : Settings) (s : Supervisor) (fed : Fed) → (clock_at r s fed).fault ≡ true → disarms r s fed ≡ false → (after r s fed).triggers.raised ≡ s.triggers.raised
  pub fault_files : (r : Settings) (s : Supervisor) (fed : Fed) → (clock_at r s fed).fault ≡ true → disarms r s fed ≡ false → (step r s fed).decision.active ≡ set_request empty_set Reason.ClockFault Action.Warn
