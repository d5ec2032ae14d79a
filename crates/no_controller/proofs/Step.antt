-- One step. Assumes nothing.
use Rattle.std.specs.Prelude.{Option, Some, None}
use Prim.Native.Nat.{ℕ}
use mathlib.Core.Bool.{Bool, true, false, not, ◌&&◌, cond}
use mathlib.Core.Path.{◌≡◌, refl, ap, sym, subst, ◌∙◌}
use lib.Ieee.{Float}
use Rattle.types.specs.declared.ActiveSet.{ActiveSet}
use Rattle.types.specs.declared.Telemetry.{Telemetry}
use Rattle.types.specs.ActiveSet.{requested_action}
use Rattle.time.specs.Time.{Clock}
use Rattle.config.specs.declared.Config.{Config}
use Rattle.clock.specs.declared.ClockStep.{ClockStep}
use Rattle.clock.specs.Clock.{clock_step}
use Rattle.validate.specs.declared.GlitchState.{GlitchState}
use Rattle.validate.specs.Glitch.{apply_glitch_filter}
use Rattle.validate.specs.Bounds.{validate_telemetry}
use Rattle.validate.specs.Fresh.{fresh_true, fresh_landed, fresh_battery_percent, fresh_voltage, fresh_remaining_wh, position_valid, confirmed_disarm}
use Rattle.timers.specs.declared.Timer.{Timer}
use Rattle.timers.specs.Timer.{cleared, pending, held_set}
use Rattle.triggers.specs.declared.RcLink.{RcLink}
use Rattle.triggers.specs.declared.Families.{Families}
use Rattle.triggers.specs.declared.TriggerState.{TriggerState}
use Rattle.triggers.specs.declared.Updated.{Updated}
use Rattle.triggers.specs.Families.{rc_link, gps, in_air, fence, battery, energy}
use Rattle.triggers.specs.Update.{without_gcs_timer, families, raised_of, kept_raised, link_requests, fence_requests, battery_requests, requests, next_triggers, update}
use Rattle.arbiter.specs.declared.ArbiterState.{ArbiterState}
use Rattle.disarm.specs.declared.DisarmGate.{DisarmGate}
use Rattle.supervisor.specs.declared.Sensed.{Sensed}
use Rattle.supervisor.specs.declared.Stepped.{Stepped}
use Rattle.supervisor.specs.Settings.{Settings, Site}
use Rattle.supervisor.specs.Step.{place_of, valid_place, energy_at, margin_at, triggers_after, arbiter_after, glitch_after, sense, decision_of, disarmed, flown, step}
use Rattle.no_controller.specs.Step.{without_rc, without_rc_timer, without_rc_clear, SameStep, StepClaim}
use Rattle.triggers.specs.declared.Place.{Place}

-- what the families make of everything but rc_ok, with the hand controller's link given
with_link : RcLink → Families → Families
with_link rc f =
    record {
      invalid = f.invalid;
      gcs = f.gcs;
      rc = rc;
      gps = f.gps;
      ekf = f.ekf;
      fence = f.fence;
      stale = f.stale;
      battery = f.battery;
      energy = f.energy;
    }

-- a link that is not required: never lost, and its set timer never runs
quiet : Timer → RcLink
quiet clear = record { set = cleared; clear = clear; lost = false; met = false }

-- ---- no other family reads the RC clear timer

fence_same : (ck : Clock) (s : TriggerState) (now : ℕ) (p : Option Place) (flying : Bool) (lo hi : Float) (cfg : Config) → fence ck s now p flying lo hi cfg ≡ fence ck (without_rc_timer s) now p flying lo hi cfg
unfolding fence without_rc_timer
fence_same ck s now None flying lo hi cfg = refl
fence_same ck s now (Some p) flying lo hi cfg = refl

battery_same : (ck : Clock) (s : TriggerState) (now : ℕ) (percent volts : Option Float) (cfg : Config) → battery ck s now percent volts cfg ≡ battery ck (without_rc_timer s) now percent volts cfg
unfolding battery without_rc_timer
battery_same ck s now None volts cfg = refl
battery_same ck s now (Some p) volts cfg = refl

energy_same : (ck : Clock) (s : TriggerState) (now : ℕ) (margin : Option Float) (cfg : Config) → energy ck s now margin cfg ≡ energy ck (without_rc_timer s) now margin cfg
unfolding energy without_rc_timer
energy_same ck s now None cfg = refl
energy_same ck s now (Some m) cfg = refl

module _ (ck : Clock) (cfg : Config) (off : cfg.rc_required ≡ false) where
  rc_quiet : (set clear : Timer) (now : ℕ) (good : Bool) → rc_link ck set clear now good cfg ≡ quiet (held_set ck clear now good cfg.rc_lost_clear_ms).timer
  unfolding rc_link held_set quiet
  rc_quiet set clear now good = ap by off
    where
      by : Bool → RcLink
      by required =
          let s = held_set ck set now (required && not good) cfg.rc_lost_set_ms in
          let c = held_set ck clear now good cfg.rc_lost_clear_ms in
          record {
            set = s.timer;
            clear = cond s.met clear c.timer;
            lost = cond s.met true (pending s.timer && not c.met);
            met = s.met;
          }

  module _ (lo hi : Float) (place : Option Place) (margin : Option Float) (invalid : Bool) where
    abbrev of : TriggerState → Telemetry → Families
    of s t = families ck s t cfg lo hi place margin invalid

    timer_of : TriggerState → Telemetry → Timer
    timer_of s t = (held_set ck s.rc_clear_timer t.now_ms (fresh_true ck t.now_ms t.rc_ok cfg.status_fresh_ms) cfg.rc_lost_clear_ms).timer

    families_quiet : (s : TriggerState) (t : Telemetry) → of s t ≡ with_link (quiet (timer_of s t)) (of (without_rc_timer s) (without_rc t))
    unfolding families gps with_link without_rc_timer without_rc timer_of
    families_quiet s t =
        let f = of s t in
        let now = t.now_ms in
        let flying = in_air (fresh_landed ck now t.landed cfg.status_fresh_ms) in
        let percent = fresh_battery_percent ck now t.battery cfg.battery_fresh_ms cfg.usable_capacity_wh in
        let volts = fresh_voltage ck now t.battery cfg.battery_fresh_ms in
        λ i. record {
          invalid = f.invalid;
          gcs = f.gcs;
          rc = rc_quiet s.rc_lost_set s.rc_clear_timer now (fresh_true ck now t.rc_ok cfg.status_fresh_ms) i;
          gps = f.gps;
          ekf = f.ekf;
          fence = fence_same ck s now place flying lo hi cfg i;
          stale = f.stale;
          battery = battery_same ck s now percent volts cfg i;
          energy = energy_same ck s now margin cfg i;
        }

    -- the requests filed, and the state left but for that timer
    abbrev on : TriggerState → Telemetry → Bool → Updated
    on s t fault = update ck s t cfg lo hi place margin invalid fault

    filed : (s : TriggerState) (t : Telemetry) (fault : Bool) → (on s t fault).active ≡ (on (without_rc_timer s) (without_rc t) fault).active
    unfolding update requests link_requests fence_requests battery_requests raised_of with_link quiet without_rc_timer without_rc
    filed s t true = refl
    filed s t false = ap file (families_quiet s t) ∙ sym (ap file (families_quiet (without_rc_timer s) (without_rc t)))
      where
        file : Families → ActiveSet
        file f = requests cfg.keeps_raised (raised_of cfg.keeps_raised s.raised f) f

    left : (s : TriggerState) (t : Telemetry) (fault : Bool) → without_rc_timer (on s t fault).triggers ≡ without_rc_timer (on (without_rc_timer s) (without_rc t) fault).triggers
    unfolding update next_triggers raised_of with_link quiet without_rc_timer without_rc
    left s t true = refl
    left s t false = ap leave (families_quiet s t) ∙ sym (ap leave (families_quiet (without_rc_timer s) (without_rc t)))
      where
        leave : Families → TriggerState
        leave f = without_rc_timer (next_triggers (kept_raised cfg.keeps_raised (raised_of cfg.keeps_raised s.raised f)) f)

-- ---- the step

third_same : (third : Bool) (t : TriggerState) → triggers_after third (without_rc_timer t) ≡ without_rc_timer (triggers_after third t)
unfolding without_gcs_timer without_rc_timer
third_same true t = refl
third_same false t = refl

either_same : (b : Bool) (x y z : Stepped) → SameStep y z → SameStep (cond b x y) (cond b x z)
either_same true x y z h = record { decision = refl; side = refl; state = refl }
either_same false x y z h = h

module _ (r : Settings) (off : r.cfg.rc_required ≡ false) where
  -- what is sensed, with the triggers and the requests given
  sensed_as : Sensed → TriggerState → ActiveSet → Sensed
  sensed_as s triggers active =
      record {
        triggers = triggers;
        glitch = s.glitch;
        active = active;
        requested = requested_action active.reqs;
        position_valid = s.position_valid;
        energy = s.energy;
        fence_dist_m = s.fence_dist_m;
        side = s.side;
      }

  flown_same : (site : Site) (triggers : TriggerState) (glitch : GlitchState) (t : Telemetry) (invalid : Bool) (arbiter : ArbiterState) (gate : DisarmGate) (clock : ClockStep) → SameStep (flown r (sense r site triggers glitch t invalid clock.fault) arbiter gate clock t) (flown r (sense r site (without_rc_timer triggers) glitch (without_rc t) invalid clock.fault) arbiter gate clock (without_rc t))
  unfolding flown sense decision_of sensed_as without_rc without_rc_timer without_rc_clear
  flown_same site triggers glitch t invalid arbiter gate clock =
      let s = sense r site triggers glitch t invalid clock.fault in
      let cfg = r.cfg in
      let now = t.now_ms in
      let f = apply_glitch_filter r.clock glitch now t.position cfg.v_max in
      let valid = position_valid r.clock now f.position t.ekf_ok cfg.pos_fresh_ms cfg.status_fresh_ms in
      let remaining = fresh_remaining_wh r.clock now t.battery cfg.battery_fresh_ms cfg.usable_capacity_wh in
      let place = place_of site.near f.position in
      let margin = (energy_at cfg place remaining).margin_wh in
      let a = filed r.clock cfg off site.min_alt site.max_alt (valid_place valid place) (margin_at place margin) invalid triggers t clock.fault in
      let e = left r.clock cfg off site.min_alt site.max_alt (valid_place valid place) (margin_at place margin) invalid triggers t clock.fault in
      record {
        decision = λ i. (flown r (sensed_as s (e i) (a i)) arbiter gate clock t).decision;
        side = refl;
        state = λ i. without_rc_clear (flown r (sensed_as s (e i) (a i)) arbiter gate clock t).supervisor;
      }

-- the law
pub step_claim : StepClaim
unfolding step validate_telemetry without_rc without_rc_clear
step_claim r off s fed =
    let raw = fed.telemetry in
    let cfg = r.cfg in
    let clock = clock_step r.clock s.last_now s.epoch_start s.backwards_streak s.initialized raw.now_ms in
    let v = validate_telemetry raw cfg.usable_capacity_wh in
    let t = v.telemetry in
    let glitch = glitch_after clock.third s.glitch in
    let after : TriggerState → Telemetry → Stepped = λ x u. flown r (sense r fed.site x glitch u v.invalid_input clock.fault) (arbiter_after clock.third s.arbiter) s.disarm clock u in
    either_same (confirmed_disarm r.clock t.now_ms t.armed cfg.status_fresh_ms) (disarmed cfg clock glitch)
    (after (triggers_after clock.third s.triggers) t)
    (after (triggers_after clock.third (without_rc_timer s.triggers)) (without_rc t))
    (subst (λ (x : TriggerState). SameStep (after (triggers_after clock.third s.triggers) t) (after x (without_rc t)))
    (sym (third_same clock.third s.triggers))
    (flown_same r off fed.site (triggers_after clock.third s.triggers) glitch t v.invalid_input (arbiter_after clock.third s.arbiter) s.disarm clock))
