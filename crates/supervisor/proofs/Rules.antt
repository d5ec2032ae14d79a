-- A fresh state obeys the state frame's rules, and a step from a state that does leaves one that does; what is raised fits the frame likewise. Assumes nothing.
use Rattle.std.specs.Prelude.{Option, Some, None}
use Prim.Native.Nat.{ℕ, ◌+◌, ◌≤◌}
use native.Mathlib.Omega.{arith}
use mathlib.Core.Bool.{Bool, true, false, cond, ◌&&◌, false≢true}
use mathlib.Core.Path.{◌≡◌, refl, ap, sym, ◌∙◌}
use lib.Dec.{leb, ltb, lit≤}
use lib.Ieee.{Float}
use borrow.Author.Tests.{leb-false}
use Rattle.types.specs.declared.Vec3.{Vec3}
use Rattle.types.specs.declared.PositionSample.{PositionSample}
use Rattle.types.specs.declared.Telemetry.{Telemetry}
use Rattle.time.specs.Time.{Clock, age}
use Rattle.config.specs.declared.Config.{Config}
use Rattle.validate.specs.declared.GlitchState.{GlitchState}
use Rattle.validate.specs.declared.Filtered.{Filtered}
use Rattle.validate.specs.Bounds.{within_position, within_velocity, validate_position_sample, position_ok, keep, validate_telemetry}
use Rattle.validate.specs.Glitch.{accept_stored, next_streak, apply_glitch_filter}
use Rattle.validate.specs.Fresh.{confirmed_disarm}
use Rattle.timers.specs.declared.Timer.{Timer}
use Rattle.triggers.specs.declared.Raised.{Raised}
use Rattle.triggers.specs.declared.TriggerState.{TriggerState}
use Rattle.timers.specs.Timer.{cleared, held_set}
use Rattle.triggers.specs.Families.{gcs_age, gcs_stage, gcs_clearing, gcs_link}
use Rattle.triggers.specs.Update.{fresh_triggers, without_gcs_timer, none_raised, kept_raised, families, next_triggers, update}
use Rattle.supervisor.specs.declared.Supervisor.{Supervisor}
use Rattle.supervisor.specs.Settings.{Settings, Fed}
use Rattle.clock.specs.Clock.{clock_fault, sound_clock, by_age, clock_step}
use Rattle.supervisor.specs.Step.{fresh_supervisor, triggers_after, arbiter_after, glitch_after, sense, disarmed, flown, step}
use Rattle.supervisor.specs.Rules.{finite_vec, finite_stored, Rules, RaisedFits}
use Rattle.triggers.specs.declared.Place.{Place}

-- ---- truth values

both : (a b : Bool) → (a && b) ≡ true → (a ≡ true) × (b ≡ true)
both true true h = (refl, refl)
both true false h = (refl, h)
both false b h = absurd (false≢true h)

-- what holds in both cases holds
pub either : (A : Bool → Type 0) → A true → A false → (b : Bool) → A b
either A t f true = t
either A t f false = f

-- ---- the stored sample

finite_position : (p : Vec3) → within_position p ≡ true → finite_vec p ≡ true
unfolding within_position
finite_position p h = (both _ _ (both _ _ (both _ _ (both _ _ h).0).0).0).0

finite_velocity : (v : Vec3) → within_velocity v ≡ true → finite_vec v ≡ true
unfolding within_velocity
finite_velocity v h = (both _ _ h).0

and_true : (a b : Bool) → a ≡ true → b ≡ true → (a && b) ≡ true
and_true true true p q = refl
and_true true false p q = q
and_true false b p q = p

-- a sample that is kept is finite
kept_finite : (p : Option PositionSample) → finite_stored (keep (position_ok p) p) ≡ true
unfolding validate_position_sample
kept_finite None = refl
kept_finite (Some s) = at (validate_position_sample s) refl
  where
    at : (b : Bool) → validate_position_sample s ≡ b → finite_stored (cond b (Some s) None) ≡ true
    at false h = refl
    at true h =
        let parts = both (within_position s.pos) (within_velocity s.vel) h in
        and_true (finite_vec s.pos) (finite_vec s.vel) (finite_position s.pos parts.0) (finite_velocity s.vel parts.1)

stored : PositionSample → Filtered
stored s =
    record {
      glitch = record { last_accepted = Some s; reject_streak = 0 };
      position = Some s;
    }

refused : GlitchState → Filtered
refused g =
    record {
      glitch = record { last_accepted = g.last_accepted; reject_streak = next_streak g.reject_streak };
      position = None;
    }

-- the filter stores what it is given, or keeps what it had
filter_finite : (ck : Clock) (g : GlitchState) (now : ℕ) (p : Option PositionSample) (v : Float) → finite_stored g.last_accepted ≡ true → finite_stored p ≡ true → finite_stored (apply_glitch_filter ck g now p v).glitch.last_accepted ≡ true
unfolding apply_glitch_filter stored refused
filter_finite ck g now None v hg hp = hg
filter_finite ck g now (Some s) v hg hp =
    either (λ b. finite_stored (cond b (stored s) (refused g)).glitch.last_accepted ≡ true) hp hg
    (accept_stored ck g.last_accepted g.reject_streak now s v)

-- ---- the clock's row of faults

fault_streak : (last epoch streak now : ℕ) → (clock_fault last epoch streak now).backwards_streak ≤ 2
unfolding clock_fault
fault_streak last epoch streak now = at (leb 3 (streak + 1)) refl
  where
    at : (b : Bool) → leb 3 (streak + 1) ≡ b → cond b 0 (streak + 1) ≤ 2
    at true h = lit≤ tt
    at false h = let g = leb-false 3 (streak + 1) h in omega arith

clock_streak : (ck : Clock) (last : Option ℕ) (epoch streak : ℕ) (init : Bool) (now : ℕ) → streak ≤ 2 → (clock_step ck last epoch streak init now).backwards_streak ≤ 2
unfolding clock_step sound_clock
clock_streak ck last epoch streak false now h = lit≤ tt
clock_streak ck None epoch streak true now h = h
clock_streak ck (Some last) epoch streak true now h = at (age ck now last)
  where
    at : (a : Option ℕ) → (by_age a last epoch streak now).backwards_streak ≤ 2
    at None = fault_streak last epoch streak now
    at (Some a) = lit≤ tt

-- ---- the link's stage

stage_clearing : (ck : Clock) (t : Timer) (stage now hold : ℕ) → stage ≤ 3 → (gcs_clearing ck t stage now hold).stage ≤ 3
unfolding gcs_clearing
stage_clearing ck t stage now hold h = either (λ b. cond b 0 stage ≤ 3) (lit≤ tt) h (held_set ck t now true hold).met

stage_link : (ck : Clock) (t : Timer) (stage now : ℕ) (hb : Option ℕ) (cfg : Config) → stage ≤ 3 → (gcs_link ck t stage now hb cfg).stage ≤ 3
unfolding gcs_link gcs_stage
stage_link ck t stage now hb cfg h =
    let a = gcs_age ck now hb in
    at (ltb cfg.gcs_rtl_ms a) (ltb cfg.gcs_hold_ms a) (ltb cfg.gcs_warn_ms a) (leb a cfg.gcs_clear_ms)
  where
    at : (p q r s : Bool) → (cond p (gcs_stage t 3) (cond q (gcs_stage t 2) (cond r (gcs_stage t 1) (cond s (gcs_clearing ck t stage now cfg.gcs_clear_hold_ms) (record { clear_timer = cleared; stage = stage; request = None }))))).stage ≤ 3
    at true q r s = lit≤ tt
    at false true r s = lit≤ tt
    at false false true s = lit≤ tt
    at false false false true = stage_clearing ck t stage now cfg.gcs_clear_hold_ms h
    at false false false false = h

stage_update : (ck : Clock) (s : TriggerState) (t : Telemetry) (cfg : Config) (lo hi : Float) (p : Option Place) (m : Option Float) (i f : Bool) → s.gcs_stage ≤ 3 → (update ck s t cfg lo hi p m i f).triggers.gcs_stage ≤ 3
unfolding update families next_triggers
stage_update ck s t cfg lo hi p m i true h = h
stage_update ck s t cfg lo hi p m i false h = stage_link ck s.gcs_clear_timer s.gcs_stage t.now_ms t.gcs_heartbeat_ms cfg h

-- ---- a step

pub fresh_rules : Rules fresh_supervisor
unfolding fresh_supervisor fresh_triggers
fresh_rules = record { stage = lit≤ tt; streak = lit≤ tt; stored = refl }

stage_third : (third : Bool) (t : TriggerState) → t.gcs_stage ≤ 3 → (triggers_after third t).gcs_stage ≤ 3
unfolding without_gcs_timer
stage_third true t h = h
stage_third false t h = h

stored_third : (third : Bool) (g : GlitchState) → finite_stored g.last_accepted ≡ true → finite_stored (glitch_after third g).last_accepted ≡ true
stored_third true g h = refl
stored_third false g h = h

pub step_rules : (r : Settings) (s : Supervisor) (fed : Fed) → Rules s → Rules (step r s fed).supervisor
unfolding step disarmed flown sense fresh_triggers validate_telemetry
step_rules r s fed h =
    let raw = fed.telemetry in
    let cfg = r.cfg in
    let clock = clock_step r.clock s.last_now s.epoch_start s.backwards_streak s.initialized raw.now_ms in
    let v = validate_telemetry raw cfg.usable_capacity_wh in
    let t = v.telemetry in
    let glitch = glitch_after clock.third s.glitch in
    let streak : clock.backwards_streak ≤ 2 = clock_streak r.clock s.last_now s.epoch_start s.backwards_streak s.initialized raw.now_ms h.streak in
    let stored : finite_stored glitch.last_accepted ≡ true = stored_third clock.third s.glitch h.stored in
    let sensed = sense r fed.site (triggers_after clock.third s.triggers) glitch t v.invalid_input clock.fault in
    either
    (λ b. Rules (cond b (disarmed cfg clock glitch) (flown r sensed (arbiter_after clock.third s.arbiter) s.disarm clock t)).supervisor)
    (record { stage = lit≤ tt; streak = streak; stored = stored })
    (record {
      stage = stage_update r.clock _ _ _ _ _ _ _ _ clock.fault (stage_third clock.third s.triggers h.stage);
      streak = streak;
      stored = filter_finite r.clock glitch t.now_ms t.position cfg.v_max stored (kept_finite raw.position);
    })
    (confirmed_disarm r.clock t.now_ms t.armed cfg.status_fresh_ms)

-- ---- what is raised

none_fits : (keeps : Bool) → kept_raised keeps none_raised ≡ none_raised
none_fits true = refl
none_fits false = refl

kept_fits : (keeps : Bool) (on : Raised) → kept_raised keeps (kept_raised keeps on) ≡ kept_raised keeps on
kept_fits true on = refl
kept_fits false on = refl

pub fresh_fits : (keeps : Bool) → RaisedFits keeps fresh_supervisor
unfolding fresh_supervisor fresh_triggers
fresh_fits keeps = none_fits keeps

-- neither a third fault nor the link's timer has a part in it
pub third_raised : (third : Bool) (t : TriggerState) → (triggers_after third t).raised ≡ t.raised
unfolding without_gcs_timer
third_raised true t = refl
third_raised false t = refl

update_fits : (ck : Clock) (s : TriggerState) (t : Telemetry) (cfg : Config) (lo hi : Float) (p : Option Place) (m : Option Float) (i f : Bool) → kept_raised cfg.keeps_raised s.raised ≡ s.raised → kept_raised cfg.keeps_raised (update ck s t cfg lo hi p m i f).triggers.raised ≡ (update ck s t cfg lo hi p m i f).triggers.raised
unfolding update next_triggers
update_fits ck s t cfg lo hi p m i true h = h
update_fits ck s t cfg lo hi p m i false h = kept_fits cfg.keeps_raised _

pub step_fits : (r : Settings) (s : Supervisor) (fed : Fed) → RaisedFits r.cfg.keeps_raised s → RaisedFits r.cfg.keeps_raised (step r s fed).supervisor
unfolding step disarmed flown sense fresh_triggers validate_telemetry
step_fits r s fed h =
    let raw = fed.telemetry in
    let cfg = r.cfg in
    let clock = clock_step r.clock s.last_now s.epoch_start s.backwards_streak s.initialized raw.now_ms in
    let v = validate_telemetry raw cfg.usable_capacity_wh in
    let t = v.telemetry in
    let glitch = glitch_after clock.third s.glitch in
    let same = third_raised clock.third s.triggers in
    let before = ap (kept_raised cfg.keeps_raised) same ∙ h ∙ sym same in
    let sensed = sense r fed.site (triggers_after clock.third s.triggers) glitch t v.invalid_input clock.fault in
    either
    (λ b. RaisedFits cfg.keeps_raised (cond b (disarmed cfg clock glitch) (flown r sensed (arbiter_after clock.third s.arbiter) s.disarm clock t)).supervisor)
    (none_fits cfg.keeps_raised)
    (update_fits r.clock _ _ cfg _ _ _ _ _ clock.fault before)
    (confirmed_disarm r.clock t.now_ms t.armed cfg.status_fresh_ms)
