-- One step of the supervisor: what is sensed, then what is shown. Assumes nothing.
-- `Settings` is what a run keeps, `Fed` what a step is fed (specs/Settings.antt): document 01's step is the one at `base_settings` and a fence's site.
use Rattle.std.specs.Prelude.{ℕ, Bool, true, false, cond, Option, Some, None, Float, Result, Ok}
use Rattle.float32.specs.Binary32.{zero_f}
use Rattle.types.specs.declared.Action.{Action}
use Rattle.types.specs.declared.Reason.{Reason}
use Rattle.types.specs.declared.Request.{Request}
use Rattle.types.specs.declared.Point2.{Point2}
use Rattle.types.specs.declared.Vec3.{Vec3}
use Rattle.types.specs.declared.Telemetry.{Telemetry}
use Rattle.types.specs.declared.EnergyEstimate.{EnergyEstimate}
use Rattle.types.specs.declared.Decision.{Decision}
use Rattle.types.specs.Vec3.{alt_m, horizontal_dist_home}
use Rattle.types.specs.ActiveSet.{empty_set, requested_action}
use Rattle.geometry.specs.declared.Geofence.{Geofence}
use Rattle.geometry.specs.declared.FenceDistance.{FenceDistance}
use Rattle.config.specs.declared.Config.{Config}
use Rattle.config.specs.Config.{validate_config}
use Rattle.energy.specs.Energy.{rtl_energy_at, rtl_energy}
use Rattle.validate.specs.declared.GlitchState.{GlitchState}
use Rattle.validate.specs.Bounds.{validate_telemetry}
use Rattle.validate.specs.Glitch.{no_glitch, apply_glitch_filter}
use Rattle.validate.specs.Fresh.{position_valid, confirmed_disarm, fresh_remaining_wh}
use Rattle.triggers.specs.declared.TriggerState.{TriggerState}
use Rattle.triggers.specs.Update.{fresh_triggers, without_gcs_timer, update}
use Rattle.arbiter.specs.declared.ArbiterState.{ArbiterState}
use Rattle.arbiter.specs.Arbiter.{fresh_arbiter, without_recovery, wanted, arbitrate}
use Rattle.disarm.specs.declared.DisarmGate.{DisarmGate}
use Rattle.disarm.specs.Disarm.{closed, evaluate}
use Rattle.supervisor.specs.declared.Supervisor.{Supervisor}
use Rattle.clock.specs.declared.ClockStep.{ClockStep}
use Rattle.supervisor.specs.declared.Sensed.{Sensed}
use Rattle.supervisor.specs.declared.Stepped.{Stepped}
use Rattle.supervisor.specs.Settings.{Settings, Site, Fed}
use Rattle.clock.specs.Clock.{clock_step}
use Rattle.types.specs.declared.PositionSample.{PositionSample}
use Rattle.triggers.specs.declared.Place.{Place}
use Rattle.std.specs.Result.{result_and}
use Rattle.config.specs.declared.ConfigError.{ConfigError}

-- ---- a new supervisor

unfoldable pub fresh_supervisor : Supervisor
fresh_supervisor =
    record {
      triggers = fresh_triggers;
      arbiter = fresh_arbiter;
      disarm = closed;
      glitch = no_glitch;
      last_now = None;
      epoch_start = 0;
      backwards_streak = 0;
      initialized = false;
    }

-- a fresh one, where the settings are not refused
unfoldable pub supervisor_new : Config → Geofence → Result Supervisor ConfigError
supervisor_new cfg fence = result_and (validate_config cfg fence) (Ok fresh_supervisor)

-- ---- what every third fault in a row clears: "the link timer, recovery start and filter"

abbrev pub triggers_after : Bool → TriggerState → TriggerState
triggers_after third t = cond third (without_gcs_timer t) t

abbrev pub arbiter_after : Bool → ArbiterState → ArbiterState
arbiter_after third a = cond third (without_recovery a) a

abbrev pub glitch_after : Bool → GlitchState → GlitchState
glitch_after third g = cond third no_glitch g

-- ---- what is sensed

abbrev pub origin : Vec3
origin = record { n = zero_f; e = zero_f; d = zero_f }

module _ (near : Point2 → FenceDistance) where
  -- what is read of a position
  abbrev pub place_of : Option PositionSample → Option Place
  place_of None = None
  place_of (Some s) =
      Some
      (record {
        fence = near (record { n = s.pos.n; e = s.pos.e });
        home_dist_m = horizontal_dist_home s.pos;
        alt_m = alt_m s.pos;
      })

abbrev pub valid_place : Bool → Option Place → Option Place
valid_place valid p = cond valid p None

-- the energy to return from a place; without one, from the origin
abbrev pub energy_at : Config → Option Place → Option Float → EnergyEstimate
energy_at cfg None remaining = rtl_energy cfg origin remaining
energy_at cfg (Some p) remaining = rtl_energy_at cfg p.home_dist_m p.alt_m remaining

-- the triggers have a margin only where there is a place
abbrev pub margin_at : Option Place → Option Float → Option Float
margin_at None margin = None
margin_at (Some p) margin = margin

abbrev pub dist_of : Option Place → Option Float
dist_of None = None
dist_of (Some p) = Some p.fence.m

-- document 02, L1: "the side, or 255 where there is no distance"
abbrev pub side_of : Option Place → ℕ
side_of None = 255
side_of (Some p) = p.fence.side

-- filter, valid position, energy, triggers, requests: all that is read off validated telemetry
unfoldable pub sense : Settings → Site → TriggerState → GlitchState → Telemetry → Bool → Bool → Sensed
sense r site triggers glitch t invalid fault =
    let now = t.now_ms in
    let cfg = r.cfg in
    let f = apply_glitch_filter r.clock glitch now t.position cfg.v_max in
    let valid = position_valid r.clock now f.position t.ekf_ok cfg.pos_fresh_ms cfg.status_fresh_ms in
    let remaining = fresh_remaining_wh r.clock now t.battery cfg.battery_fresh_ms cfg.usable_capacity_wh in
    let place = place_of site.near f.position in
    let estimate = energy_at cfg place remaining in
    let u = update r.clock triggers t cfg site.min_alt site.max_alt (valid_place valid place) (margin_at place estimate.margin_wh) invalid fault in
    record {
      triggers = u.triggers;
      glitch = f.glitch;
      active = u.active;
      requested = requested_action u.active.reqs;
      position_valid = valid;
      energy = estimate;
      fence_dist_m = dist_of place;
      side = side_of place;
    }

-- ---- confirmed disarm

-- "It answers Nominal even on a fault"
unfoldable pub disarmed_decision : Config → Bool → Decision
disarmed_decision cfg fault =
    record {
      action = Action.Nominal;
      reason = Reason.None;
      requested = Action.Nominal;
      active = empty_set;
      position_valid = false;
      clock_fault = fault;
      energy = rtl_energy cfg origin None;
      fence_dist_m = None;
      disarm_eligible = false;
    }

-- "and resets neither filter nor clock"
unfoldable pub disarmed : Config → ClockStep → GlitchState → Stepped
disarmed cfg clock glitch =
    record {
      supervisor =
          record {
            triggers = fresh_triggers;
            arbiter = fresh_arbiter;
            disarm = closed;
            glitch = glitch;
            last_now = clock.last_now;
            epoch_start = clock.epoch_start;
            backwards_streak = clock.backwards_streak;
            initialized = true;
          };
      decision = disarmed_decision cfg clock.fault;
      side = 255;
    }

-- ---- any other step

unfoldable pub decision_of : Sensed → Request → Bool → Bool → Decision
decision_of s output fault eligible =
    record {
      action = output.action;
      reason = output.reason;
      requested = s.requested.action;
      active = s.active;
      position_valid = s.position_valid;
      clock_fault = fault;
      energy = s.energy;
      fence_dist_m = s.fence_dist_m;
      disarm_eligible = eligible;
    }

-- the wanted action goes through the arbiter, the requested one to the gate
unfoldable pub flown : Settings → Sensed → ArbiterState → DisarmGate → ClockStep → Telemetry → Stepped
flown r s arbiter gate clock t =
    let now = t.now_ms in
    let cfg = r.cfg in
    let want = wanted s.requested s.triggers.battery_critical_latched s.triggers.energy_infeasible_latched in
    let a = arbitrate r.clock arbiter now cfg.recovery_hold_ms want s.position_valid clock.fault in
    let e = evaluate r.clock gate now t.armed t.landed cfg.status_fresh_ms cfg.disarm_hold_ms s.requested.action clock.fault in
    record {
      supervisor =
          record {
            triggers = s.triggers;
            arbiter = a.state;
            disarm = e.gate;
            glitch = s.glitch;
            last_now = clock.last_now;
            epoch_start = clock.epoch_start;
            backwards_streak = clock.backwards_streak;
            initialized = true;
          };
      decision = decision_of s a.output clock.fault e.eligible;
      side = s.side;
    }

unfoldable pub step : Settings → Supervisor → Fed → Stepped
step r s fed =
    let raw = fed.telemetry in
    let cfg = r.cfg in
    let clock = clock_step r.clock s.last_now s.epoch_start s.backwards_streak s.initialized raw.now_ms in
    let v = validate_telemetry raw cfg.usable_capacity_wh in
    let t = v.telemetry in
    let glitch = glitch_after clock.third s.glitch in
    cond (confirmed_disarm r.clock t.now_ms t.armed cfg.status_fresh_ms)
    (disarmed cfg clock glitch)
    (flown r
    (sense r fed.site (triggers_after clock.third s.triggers) glitch t v.invalid_input clock.fault)
    (arbiter_after clock.third s.arbiter)
    s.disarm
    clock
    t)
