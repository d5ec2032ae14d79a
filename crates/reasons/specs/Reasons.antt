-- When each reason is filed, and with which action: a row a reason, in the order of the enum. Assumes nothing.
-- The step is sound and no confirmed disarm. Readings are validated, ages are at the step's reading of the clock, timers and latches are those before the step.
use Rattle.std.specs.Prelude.{ℕ, Bool, true, false, not, ◌&&◌, ◌||◌, cond, leb, ltb, eqb, pos, Float, Option, Some, None}
use Rattle.std.specs.Float.{binary32}
use Rattle.std.specs.Float.Ieee.{add, sub, mul, lt, le, of_int}
use Rattle.float32.specs.Binary32.{zero_f, two}
use Rattle.types.specs.declared.Action.{Action}
use Rattle.types.specs.declared.Reason.{Reason}
use Rattle.types.specs.declared.GpsSample.{GpsSample}
use Rattle.types.specs.declared.Telemetry.{Telemetry}
use Rattle.types.specs.Numbers.{index}
use Rattle.time.specs.Time.{Clock, hold_met}
use Rattle.timers.specs.declared.Timer.{Timer}
use Rattle.timers.specs.Timer.{since_or}
use Rattle.config.specs.declared.Config.{Config}
use Rattle.validate.specs.Fresh.{fresh_true, fresh_landed, fresh_gps, fresh_battery_percent, fresh_voltage}
use Rattle.triggers.specs.declared.Place.{Place}
use Rattle.triggers.specs.declared.TriggerState.{TriggerState}
use Rattle.triggers.specs.declared.Raised.{Raised}
use Rattle.triggers.specs.Families.{gcs_age, stage_request, two_and_a_half, is3d, in_air, is_present}
use Rattle.triggers.specs.Update.{none_raised}

-- ---- the words of the rows

-- filed with an action where a test holds, and else not
infix 10 ◌when◌
abbrev pub ◌when◌ : Action → Bool → Option Action
◌when◌ a test = cond test (Some a) None

-- whether there is a request
abbrev pub is_filed : Option Action → Bool
is_filed None = false
is_filed (Some a) = true

-- a test that holds at this step and has held for `ms`: since its timer started, or since now. A step without a valid position, a fresh charge or a margin leaves the
-- timers of tests on it as they are (crates/triggers/specs/Families.antt has each timer).
abbrev pub held_for : Clock → ℕ → Timer → Bool → ℕ → Bool
held_for clock now timer test ms = test && hold_met clock now (since_or timer.since_ms now) ms

-- raised by a timer that sets and one that clears. Kind 1: its set timer has held, and its clear timer has not. Kind 11 (`keeps`): "raised before and not cleared
-- there, or its set timer has held there".
abbrev pub raised_from : Bool → Bool → Bool → Bool → Bool
raised_from keeps was set_held clear_held = cond keeps (set_held || (was && not clear_held)) (set_held && not clear_held)

-- a test of a reading: false where there is none
abbrev pub of_count : Option ℕ → (ℕ → Bool) → Bool
of_count None test = false
of_count (Some n) test = test n

abbrev pub of_value : Option Float → (Float → Bool) → Bool
of_value None test = false
of_value (Some x) test = test x

abbrev pub of_sample : Option GpsSample → (GpsSample → Bool) → Bool
of_sample None test = false
of_sample (Some g) test = test g

abbrev pub of_place : Option Place → (Place → Bool) → Bool
of_place None test = false
of_place (Some p) test = test p

-- ---- the rows

-- `before` is the state of the triggers before the step, `place` what is read at a valid position, `margin` what is left of the energy after a return, `invalid`
-- whether a reading was out of bounds
module _ (clock : Clock) (before : TriggerState) (t : Telemetry) (cfg : Config) (min_alt max_alt : Float) (place : Option Place) (margin : Option Float) (invalid : Bool) where
  -- at the step's reading of the clock
  abbrev pub held : Timer → Bool → ℕ → Bool
  held = held_for clock t.now_ms

  -- by the configuration's kind
  abbrev pub raised : Bool → Bool → Bool → Bool
  raised = raised_from cfg.keeps_raised

  -- fresh readings
  abbrev pub gps_sample : Option GpsSample
  gps_sample = fresh_gps clock t.now_ms t.gps cfg.gps_fresh_ms

  abbrev pub rc_ok : Bool
  rc_ok = fresh_true clock t.now_ms t.rc_ok cfg.status_fresh_ms

  abbrev pub ekf_ok : Bool
  ekf_ok = fresh_true clock t.now_ms t.ekf_ok cfg.status_fresh_ms

  abbrev pub flying : Bool
  flying = in_air (fresh_landed clock t.now_ms t.landed cfg.status_fresh_ms)

  -- in percent: of a fresh remaining_wh, else the fresh percentage
  abbrev pub charge : Option Float
  charge = fresh_battery_percent clock t.now_ms t.battery cfg.battery_fresh_ms cfg.usable_capacity_wh

  abbrev pub voltage : Option Float
  voltage = fresh_voltage clock t.now_ms t.battery cfg.battery_fresh_ms

  -- below battery_critical_v_per_cell a cell
  abbrev pub cells_low : Bool
  cells_low = of_value voltage (λ v. lt v (mul binary32 cfg.battery_critical_v_per_cell (of_int binary32 (pos cfg.cell_count))))

  -- of the last heartbeat; 2 ^ 32 - 1 where there is none
  abbrev pub link_age : ℕ
  link_age = gcs_age clock t.now_ms t.gcs_heartbeat_ms

  -- set once a fresh charge has been below battery_critical_pct, or come with a fresh voltage below battery_critical_v_per_cell a cell, for battery_critical_set_ms;
  -- without a fresh charge the voltage does not count
  unfoldable pub battery_latch : Bool
  battery_latch =
      before.battery_critical_latched
      || held before.bat_crit_set (of_value charge (λ p. lt p cfg.battery_critical_pct || cells_low)) cfg.battery_critical_set_ms

  -- set once the margin has been below 0 for energy_infeasible_set_ms
  unfoldable pub energy_latch : Bool
  energy_latch =
      before.energy_infeasible_latched
      || held before.energy_infeas_set (of_value margin (λ m. lt m zero_f)) cfg.energy_infeasible_set_ms

  -- the eight that are `raised`: the first test has held; under kind 11 they then stay until the second has
  unfoldable pub filed : Reason → Option Action
  -- never
  filed Reason.None = None
  -- at a faulted step only, and then alone
  filed Reason.ClockFault = None
  -- a reading is out of bounds; or one was, and it is less than invalid_input_clear_ms since the first step without
  filed Reason.InvalidInput =
      Action.Warn when invalid || (before.invalid_active && not (held before.invalid_clear true cfg.invalid_input_clear_ms))
  -- neither a fresh voltage nor a fresh charge
  filed Reason.StaleBattery = Action.ReturnToLaunch when not (is_present voltage || is_present charge)
  -- a heartbeat older than gcs_rtl_ms, gcs_hold_ms or gcs_warn_ms, tried in this order, or none. At most gcs_clear_ms old: what the stage before asks for
  -- (3 ReturnToLaunch, 2 Hold, 1 Warn), until that has held for gcs_clear_hold_ms. Between gcs_clear_ms and gcs_warn_ms: not.
  filed Reason.GcsLinkLost =
      cond (ltb cfg.gcs_rtl_ms link_age) (Some Action.ReturnToLaunch)
      (cond (ltb cfg.gcs_hold_ms link_age) (Some Action.Hold)
      (cond (ltb cfg.gcs_warn_ms link_age) (Some Action.Warn)
      (cond (leb link_age cfg.gcs_clear_ms && not (held before.gcs_clear_timer true cfg.gcs_clear_hold_ms)) (stage_request before.gcs_stage)
      None)))
  -- the hand controller is required and there is no fresh rc_ok of true. Kind 1: at each such step; kind 11: where that has held for rc_lost_set_ms.
  filed Reason.RcLost =
      let lost = cfg.rc_required && not rc_ok in
      Action.ReturnToLaunch when cond cfg.keeps_raised (held before.rc_lost_set lost cfg.rc_lost_set_ms) lost
  -- no fresh sample that tells of 8 satellites or more and an hdop not above 2.5, for gps_degraded_set_ms; until one of 10 or more and at most 2, for gps_degraded_clear_ms
  filed Reason.GpsDegraded =
      Action.Warn when raised before.raised.gps_degraded
      (held before.gps_deg_set (not (of_sample gps_sample (λ g. of_count g.sats (λ n. not (ltb n 8)) && of_value g.hdop (λ h. not (lt two_and_a_half h))))) cfg.gps_degraded_set_ms)
      (held before.gps_deg_clear (of_sample gps_sample (λ g. of_count g.sats (λ n. leb 10 n) && of_value g.hdop (λ h. le h two))) cfg.gps_degraded_clear_ms)
  -- no fresh sample with a fix in three dimensions for gps_lost_set_ms; until one for gps_lost_clear_ms
  filed Reason.GpsLost =
      Action.Land when raised before.raised.gps_lost
      (held before.gps_lost_set (not (of_sample gps_sample (λ g. is3d g.fix))) cfg.gps_lost_set_ms)
      (held before.gps_lost_clear (of_sample gps_sample (λ g. is3d g.fix)) cfg.gps_lost_clear_ms)
  -- no fresh ekf_ok of true for ekf_unhealthy_set_ms; until one for ekf_unhealthy_clear_ms
  filed Reason.EkfUnhealthy =
      Action.Land when raised before.raised.ekf_unhealthy
      (held before.ekf_set (not ekf_ok) cfg.ekf_unhealthy_set_ms)
      (held before.ekf_clear ekf_ok cfg.ekf_unhealthy_clear_ms)
  -- never: the arbiter shows it where Hold or ReturnToLaunch lacks a valid position
  filed Reason.PositionInvalid = None
  -- a valid position inside, nearer to the bounds than fence_approach_m
  filed Reason.FenceApproach =
      Action.Warn when of_place place (λ p. le zero_f p.fence.m && lt p.fence.m cfg.fence_approach_m)
  -- a valid position outside for fence_breach_set_ms; until one at least fence_breach_clear_m inside for fence_breach_clear_ms
  filed Reason.FenceBreach =
      Action.ReturnToLaunch when raised before.raised.fence_breach
      (held before.fence_breach_set (of_place place (λ p. lt p.fence.m zero_f)) cfg.fence_breach_set_ms)
      (held before.fence_breach_clear (of_place place (λ p. le cfg.fence_breach_clear_m p.fence.m)) cfg.fence_breach_clear_ms)
  -- a valid position above the upper altitude for alt_max_set_ms; under both kinds gone at the first step without. The second test can only hold where
  -- alt_max_clear_m is below 0.
  filed Reason.AltitudeMax =
      Action.ReturnToLaunch when
      held before.alt_max_set (of_place place (λ p. lt max_alt p.alt_m)) cfg.alt_max_set_ms
      && not (held before.alt_max_clear (of_place place (λ p. lt max_alt p.alt_m && lt p.alt_m (sub binary32 max_alt cfg.alt_max_clear_m))) cfg.alt_max_clear_hold_ms)
  -- a valid position below the lower altitude, farther from home than alt_min_home_radius_m, and a fresh landed of InAir, for alt_min_set_ms; until one more than
  -- alt_min_clear_m above it, or no farther from home, for alt_min_clear_ms
  filed Reason.AltitudeMin =
      Action.Warn when raised before.raised.altitude_min
      (held before.alt_min_set (of_place place (λ p. lt p.alt_m min_alt && lt cfg.alt_min_home_radius_m p.home_dist_m && flying)) cfg.alt_min_set_ms)
      (held before.alt_min_clear (of_place place (λ p. lt (add binary32 min_alt cfg.alt_min_clear_m) p.alt_m || le p.home_dist_m cfg.alt_min_home_radius_m)) cfg.alt_min_clear_ms)
  -- a fresh charge below battery_warn_pct for battery_warn_set_ms; until one above battery_warn_clear_pct for battery_warn_clear_ms
  filed Reason.BatteryWarn =
      Action.Warn when raised before.raised.battery_warn
      (held before.bat_warn_set (of_value charge (λ p. lt p cfg.battery_warn_pct)) cfg.battery_warn_set_ms)
      (held before.bat_warn_clear (of_value charge (λ p. lt cfg.battery_warn_clear_pct p)) cfg.battery_warn_clear_ms)
  -- a fresh charge below battery_low_pct for battery_low_set_ms; until one above battery_low_clear_pct for battery_low_clear_ms
  filed Reason.BatteryLow =
      Action.ReturnToLaunch when raised before.raised.battery_low
      (held before.bat_low_set (of_value charge (λ p. lt p cfg.battery_low_pct)) cfg.battery_low_set_ms)
      (held before.bat_low_clear (of_value charge (λ p. lt cfg.battery_low_clear_pct p)) cfg.battery_low_clear_ms)
  -- its latch is set after the step, and the step has a fresh charge
  filed Reason.BatteryCritical = Action.Land when is_present charge && battery_latch
  -- a margin from 0 to under energy_marginal_wh for energy_marginal_set_ms; until one above energy_marginal_clear_wh for energy_marginal_clear_ms
  filed Reason.EnergyRtlMarginal =
      Action.ReturnToLaunch when raised before.raised.energy_rtl_marginal
      (held before.energy_marg_set (of_value margin (λ m. le zero_f m && lt m cfg.energy_marginal_wh)) cfg.energy_marginal_set_ms)
      (held before.energy_marg_clear (of_value margin (λ m. lt cfg.energy_marginal_clear_wh m)) cfg.energy_marginal_clear_ms)
  -- its latch is set after the step, and the step has a margin
  filed Reason.EnergyRtlInfeasible = Action.Land when is_present margin && energy_latch

  -- ---- what the next step's rows read, besides the timers

  -- the stage of the link: by the limit that the heartbeat is older than; 0 once it has been at most gcs_clear_ms old for gcs_clear_hold_ms
  unfoldable pub link_stage : ℕ
  link_stage =
      cond (ltb cfg.gcs_rtl_ms link_age) 3
      (cond (ltb cfg.gcs_hold_ms link_age) 2
      (cond (ltb cfg.gcs_warn_ms link_age) 1
      (cond (leb link_age cfg.gcs_clear_ms && held before.gcs_clear_timer true cfg.gcs_clear_hold_ms) 0
      before.gcs_stage)))

  -- under kind 11 whether each of the eight is filed at this step; nothing under kind 1
  unfoldable pub raised_next : Raised
  raised_next =
      cond cfg.keeps_raised
      (record {
        gps_degraded = is_filed (filed Reason.GpsDegraded);
        gps_lost = is_filed (filed Reason.GpsLost);
        ekf_unhealthy = is_filed (filed Reason.EkfUnhealthy);
        fence_breach = is_filed (filed Reason.FenceBreach);
        altitude_min = is_filed (filed Reason.AltitudeMin);
        battery_warn = is_filed (filed Reason.BatteryWarn);
        battery_low = is_filed (filed Reason.BatteryLow);
        energy_rtl_marginal = is_filed (filed Reason.EnergyRtlMarginal);
      })
      none_raised

-- at a faulted step: ClockFault alone
abbrev pub filed_on_fault : Reason → Option Action
filed_on_fault r = Action.Warn when eqb (index Reason.ClockFault) (index r)

-- at a confirmed disarm: nothing
abbrev pub filed_on_disarm : Reason → Option Action
filed_on_disarm r = None
