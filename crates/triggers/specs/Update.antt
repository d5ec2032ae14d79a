-- Document 01, 'triggers': a whole step of the triggers. Assumes nothing.
use Rattle.std.specs.Prelude.{Bool, true, false, cond, Float, Option}
use Rattle.types.specs.declared.Action.{Action}
use Rattle.types.specs.declared.Reason.{Reason}
use Rattle.types.specs.declared.ActiveSet.{ActiveSet}
use Rattle.types.specs.declared.Telemetry.{Telemetry}
use Rattle.types.specs.ActiveSet.{empty_set, set_request, set_if, set_option}
use Rattle.time.specs.Time.{Clock}
use Rattle.config.specs.declared.Config.{Config}
use Rattle.validate.specs.Fresh.{fresh_true, fresh_landed, fresh_battery_percent, fresh_voltage}
use Rattle.triggers.specs.declared.FenceHeld.{FenceHeld}
use Rattle.triggers.specs.declared.RcLink.{RcLink}
use Rattle.triggers.specs.declared.Raised.{Raised}
use Rattle.triggers.specs.declared.Families.{Families}
use Rattle.triggers.specs.declared.TriggerState.{TriggerState}
use Rattle.triggers.specs.declared.Updated.{Updated}
use Rattle.timers.specs.Timer.{cleared, raised_by}
use Rattle.triggers.specs.Families.{invalid_input, gcs_link, rc_link, gps, ekf, in_air, fence, stale_battery, battery, energy}
use Rattle.triggers.specs.declared.Place.{Place}

-- nothing of what a kind 11 configuration keeps
abbrev pub none_raised : Raised
none_raised =
    record {
      gps_degraded = false;
      gps_lost = false;
      ekf_unhealthy = false;
      fence_breach = false;
      altitude_min = false;
      battery_warn = false;
      battery_low = false;
      energy_rtl_marginal = false;
    }

-- nothing latched, no timer started, nothing raised
unfoldable pub fresh_triggers : TriggerState
fresh_triggers =
    record {
      battery_critical_latched = false;
      energy_infeasible_latched = false;
      gcs_clear_timer = cleared;
      rc_clear_timer = cleared;
      gps_deg_set = cleared;
      gps_deg_clear = cleared;
      gps_lost_set = cleared;
      gps_lost_clear = cleared;
      ekf_set = cleared;
      ekf_clear = cleared;
      fence_breach_set = cleared;
      fence_breach_clear = cleared;
      alt_max_set = cleared;
      alt_max_clear = cleared;
      alt_min_set = cleared;
      alt_min_clear = cleared;
      stale_bat_clear = cleared;
      bat_warn_set = cleared;
      bat_warn_clear = cleared;
      bat_low_set = cleared;
      bat_low_clear = cleared;
      bat_crit_set = cleared;
      energy_marg_set = cleared;
      energy_marg_clear = cleared;
      energy_infeas_set = cleared;
      invalid_clear = cleared;
      invalid_active = false;
      rc_lost_set = cleared;
      gcs_stage = 0;
      raised = none_raised;
    }

-- the same state with the link's timer cleared
unfoldable pub without_gcs_timer : TriggerState → TriggerState
without_gcs_timer s =
    record {
      battery_critical_latched = s.battery_critical_latched;
      energy_infeasible_latched = s.energy_infeasible_latched;
      gcs_clear_timer = cleared;
      rc_clear_timer = s.rc_clear_timer;
      gps_deg_set = s.gps_deg_set;
      gps_deg_clear = s.gps_deg_clear;
      gps_lost_set = s.gps_lost_set;
      gps_lost_clear = s.gps_lost_clear;
      ekf_set = s.ekf_set;
      ekf_clear = s.ekf_clear;
      fence_breach_set = s.fence_breach_set;
      fence_breach_clear = s.fence_breach_clear;
      alt_max_set = s.alt_max_set;
      alt_max_clear = s.alt_max_clear;
      alt_min_set = s.alt_min_set;
      alt_min_clear = s.alt_min_clear;
      stale_bat_clear = s.stale_bat_clear;
      bat_warn_set = s.bat_warn_set;
      bat_warn_clear = s.bat_warn_clear;
      bat_low_set = s.bat_low_set;
      bat_low_clear = s.bat_low_clear;
      bat_crit_set = s.bat_crit_set;
      energy_marg_set = s.energy_marg_set;
      energy_marg_clear = s.energy_marg_clear;
      energy_infeas_set = s.energy_infeas_set;
      invalid_clear = s.invalid_clear;
      invalid_active = s.invalid_active;
      rc_lost_set = s.rc_lost_set;
      gcs_stage = s.gcs_stage;
      raised = s.raised;
    }

-- what each family makes of the readings, which are validated and filtered. `place` is what is read of a valid position, `margin` what is left of
-- the energy after a return.
unfoldable pub families : Clock → TriggerState → Telemetry → Config → Float → Float → Option Place → Option Float → Bool → Families
families clock s t cfg min_alt max_alt place margin invalid =
    let now = t.now_ms in
    let flying = in_air (fresh_landed clock now t.landed cfg.status_fresh_ms) in
    let percent = fresh_battery_percent clock now t.battery cfg.battery_fresh_ms cfg.usable_capacity_wh in
    let volts = fresh_voltage clock now t.battery cfg.battery_fresh_ms in
    record {
      invalid = invalid_input clock s.invalid_active s.invalid_clear now invalid cfg.invalid_input_clear_ms;
      gcs = gcs_link clock s.gcs_clear_timer s.gcs_stage now t.gcs_heartbeat_ms cfg;
      rc = rc_link clock s.rc_lost_set s.rc_clear_timer now (fresh_true clock now t.rc_ok cfg.status_fresh_ms) cfg;
      gps = gps clock s now t.gps cfg;
      ekf = ekf clock s.ekf_set s.ekf_clear now (fresh_true clock now t.ekf_ok cfg.status_fresh_ms) cfg;
      fence = fence clock s now place flying min_alt max_alt cfg;
      stale = stale_battery clock s.stale_bat_clear now percent volts cfg.stale_battery_clear_ms;
      battery = battery clock s now percent volts cfg;
      energy = energy clock s now margin cfg;
    }

-- document 02, L11: "GpsDegraded, GpsLost, EkfUnhealthy, FenceBreach, AltitudeMin, BatteryWarn, BatteryLow and EnergyRtlMarginal", each by its pair of timers;
-- `keeps` is whether the configuration is of kind 11
unfoldable pub raised_of : Bool → Raised → Families → Raised
raised_of keeps before f =
    record {
      gps_degraded = raised_by keeps before.gps_degraded f.gps.degraded;
      gps_lost = raised_by keeps before.gps_lost f.gps.lost;
      ekf_unhealthy = raised_by keeps before.ekf_unhealthy f.ekf;
      fence_breach = raised_by keeps before.fence_breach f.fence.breach;
      altitude_min = raised_by keeps before.altitude_min f.fence.alt_min;
      battery_warn = raised_by keeps before.battery_warn f.battery.warn;
      battery_low = raised_by keeps before.battery_low f.battery.low;
      energy_rtl_marginal = raised_by keeps before.energy_rtl_marginal f.energy.marginal;
    }

-- what the next step is told of it: under kind 1 nothing, as in the Rust
abbrev pub kept_raised : Bool → Raised → Raised
kept_raised keeps on = cond keeps on none_raised

-- "RcLost is raised where its set timer has held rc_lost_set_ms, and only there."
abbrev pub rc_lost : Bool → RcLink → Bool
rc_lost keeps rc = cond keeps rc.met rc.lost

-- the requests that the families file, in the Rust's order
unfoldable pub link_requests : Bool → Raised → Families → ActiveSet
link_requests keeps on f =
    let a1 = set_if empty_set f.invalid.active Reason.InvalidInput Action.Warn in
    let a2 = set_option a1 Reason.GcsLinkLost f.gcs.request in
    let a3 = set_if a2 (rc_lost keeps f.rc) Reason.RcLost Action.ReturnToLaunch in
    let a4 = set_if a3 on.gps_degraded Reason.GpsDegraded Action.Warn in
    let a5 = set_if a4 on.gps_lost Reason.GpsLost Action.Land in
    set_if a5 on.ekf_unhealthy Reason.EkfUnhealthy Action.Land

-- AltitudeMax is not among those that are kept
unfoldable pub fence_requests : ActiveSet → Raised → FenceHeld → ActiveSet
fence_requests a on f =
    let a1 = set_if a f.approach Reason.FenceApproach Action.Warn in
    let a2 = set_if a1 on.fence_breach Reason.FenceBreach Action.ReturnToLaunch in
    let a3 = set_if a2 (raised_by false false f.alt_max) Reason.AltitudeMax Action.ReturnToLaunch in
    set_if a3 on.altitude_min Reason.AltitudeMin Action.Warn

unfoldable pub battery_requests : ActiveSet → Raised → Families → ActiveSet
battery_requests a on f =
    let a1 = set_if a f.stale.stale Reason.StaleBattery Action.ReturnToLaunch in
    let a2 = set_if a1 on.battery_warn Reason.BatteryWarn Action.Warn in
    let a3 = set_if a2 on.battery_low Reason.BatteryLow Action.ReturnToLaunch in
    let a4 = set_if a3 f.battery.critical Reason.BatteryCritical Action.Land in
    let a5 = set_if a4 on.energy_rtl_marginal Reason.EnergyRtlMarginal Action.ReturnToLaunch in
    set_if a5 f.energy.infeasible Reason.EnergyRtlInfeasible Action.Land

unfoldable pub requests : Bool → Raised → Families → ActiveSet
requests keeps on f = battery_requests (fence_requests (link_requests keeps on f) on f.fence) on f

-- the state that the families leave
unfoldable pub next_triggers : Raised → Families → TriggerState
next_triggers kept f =
    record {
      battery_critical_latched = f.battery.latched;
      energy_infeasible_latched = f.energy.latched;
      gcs_clear_timer = f.gcs.clear_timer;
      rc_clear_timer = f.rc.clear;
      gps_deg_set = f.gps.degraded.set;
      gps_deg_clear = f.gps.degraded.clear;
      gps_lost_set = f.gps.lost.set;
      gps_lost_clear = f.gps.lost.clear;
      ekf_set = f.ekf.set;
      ekf_clear = f.ekf.clear;
      fence_breach_set = f.fence.breach.set;
      fence_breach_clear = f.fence.breach.clear;
      alt_max_set = f.fence.alt_max.set;
      alt_max_clear = f.fence.alt_max.clear;
      alt_min_set = f.fence.alt_min.set;
      alt_min_clear = f.fence.alt_min.clear;
      stale_bat_clear = f.stale.clear;
      bat_warn_set = f.battery.warn.set;
      bat_warn_clear = f.battery.warn.clear;
      bat_low_set = f.battery.low.set;
      bat_low_clear = f.battery.low.clear;
      bat_crit_set = f.battery.crit_set;
      energy_marg_set = f.energy.marginal.set;
      energy_marg_clear = f.energy.marginal.clear;
      energy_infeas_set = f.energy.infeas_set;
      invalid_clear = f.invalid.clear;
      invalid_active = f.invalid.active;
      rc_lost_set = f.rc.set;
      gcs_stage = f.gcs.stage;
      raised = kept;
    }

-- "A clock fault yields only ClockFault and moves no timer in this module"; under kind 11 it "keeps what is raised"
unfoldable pub update : Clock → TriggerState → Telemetry → Config → Float → Float → Option Place → Option Float → Bool → Bool → Updated
update clock s t cfg min_alt max_alt place margin invalid true = record { triggers = s; active = set_request empty_set Reason.ClockFault Action.Warn }
update clock s t cfg min_alt max_alt place margin invalid false =
    let f = families clock s t cfg min_alt max_alt place margin invalid in
    let on = raised_of cfg.keeps_raised s.raised f in
    record { triggers = next_triggers (kept_raised cfg.keeps_raised on) f; active = requests cfg.keeps_raised on f }
