-- Document 01, 'triggers': what each family makes of its timers and its readings. Assumes nothing.
use Rattle.std.specs.Prelude.{ℕ, Bool, true, false, not, ◌&&◌, ◌||◌, cond, leb, ltb, eqb, pos, Float, Option, Some, None}
use Rattle.std.specs.Float.{binary32}
use Rattle.std.specs.Float.Ieee.{add, sub, mul, lt, le, of_bits, of_int}
use Rattle.float32.specs.Binary32.{zero_f, two}
use Rattle.types.specs.declared.Action.{Action}
use Rattle.types.specs.declared.GpsFix.{GpsFix}
use Rattle.types.specs.declared.LandedState.{LandedState}
use Rattle.time.specs.Time.{Clock, age}
use Rattle.config.specs.declared.Config.{Config}
use Rattle.validate.specs.Fresh.{fresh_gps}
use Rattle.timers.specs.declared.Timer.{Timer}
use Rattle.timers.specs.declared.Held.{Held}
use Rattle.timers.specs.declared.PairHeld.{PairHeld}
use Rattle.timers.specs.Timer.{cleared, pending, held_set, hold_pair, rested}
use Rattle.triggers.specs.declared.InvalidInput.{InvalidInput}
use Rattle.triggers.specs.declared.GcsLink.{GcsLink}
use Rattle.triggers.specs.declared.RcLink.{RcLink}
use Rattle.triggers.specs.declared.GpsHeld.{GpsHeld}
use Rattle.triggers.specs.declared.Place.{Place}
use Rattle.triggers.specs.declared.FenceHeld.{FenceHeld}
use Rattle.triggers.specs.declared.StaleBattery.{StaleBattery}
use Rattle.triggers.specs.declared.BatteryHeld.{BatteryHeld}
use Rattle.triggers.specs.declared.EnergyHeld.{EnergyHeld}
use Rattle.triggers.specs.declared.TriggerState.{TriggerState}
use Rattle.types.specs.declared.GpsSample.{GpsSample}

-- ---- invalid input: active from an invalid step until the clear timer is met

unfoldable pub invalid_input : Clock → Bool → Timer → ℕ → Bool → ℕ → InvalidInput
invalid_input clock active clear now true clear_ms = record { active = true; clear = cleared }
invalid_input clock active clear now false clear_ms =
    let h = held_set clock clear now true clear_ms in
    record { active = active && not h.met; clear = h.timer }

-- ---- the link: by the heartbeat's age

-- an absent heartbeat, and one without an age, count as 2 ^ 32 - 1
abbrev pub age_or_most : Option ℕ → ℕ
age_or_most None = 0xFFFF_FFFF
age_or_most (Some a) = a

abbrev pub gcs_age : Clock → ℕ → Option ℕ → ℕ
gcs_age clock now None = 0xFFFF_FFFF
gcs_age clock now (Some hb) = age_or_most (age clock now hb)

-- what a stage asks for
unfoldable pub stage_request : ℕ → Option Action
stage_request stage =
    cond (eqb stage 3) (Some Action.ReturnToLaunch)
    (cond (eqb stage 2) (Some Action.Hold)
    (cond (eqb stage 1) (Some Action.Warn)
    None))

-- a stage is entered, and asked for; the clear timer stays as it was
unfoldable pub gcs_stage : Timer → ℕ → GcsLink
gcs_stage timer stage = record { clear_timer = timer; stage = stage; request = stage_request stage }

-- the link is good again: its stage's request stays until the clear timer is met
unfoldable pub gcs_clearing : Clock → Timer → ℕ → ℕ → ℕ → GcsLink
gcs_clearing clock timer stage now clear_hold =
    let h = held_set clock timer now true clear_hold in
    record {
      clear_timer = h.timer;
      stage = cond h.met 0 stage;
      request = cond h.met None (stage_request stage);
    }

-- "At an age above gcs_clear_ms and at most gcs_warn_ms no link request is made, whatever the stage": the clear timer starts anew after that.
-- The greater stages are tested first, as in the Rust: docs/DIFFERENCES.md has the case where a limit of theirs is below gcs_warn_ms.
unfoldable pub gcs_link : Clock → Timer → ℕ → ℕ → Option ℕ → Config → GcsLink
gcs_link clock timer stage now heartbeat cfg =
    let a = gcs_age clock now heartbeat in
    cond (ltb cfg.gcs_rtl_ms a) (gcs_stage timer 3)
    (cond (ltb cfg.gcs_hold_ms a) (gcs_stage timer 2)
    (cond (ltb cfg.gcs_warn_ms a) (gcs_stage timer 1)
    (cond (leb a cfg.gcs_clear_ms) (gcs_clearing clock timer stage now cfg.gcs_clear_hold_ms)
    (record { clear_timer = cleared; stage = stage; request = None }))))

-- ---- the hand controller: "RcLost is raised from the first bad step, since a pending timer suffices."
-- Bad is required and not good. Where the set timer is met the clear timer stays as it was.
-- `met` is for document 02, L11: its set timer has held rc_lost_set_ms.

unfoldable pub rc_link : Clock → Timer → Timer → ℕ → Bool → Config → RcLink
rc_link clock set clear now good cfg =
    let s = held_set clock set now (cfg.rc_required && not good) cfg.rc_lost_set_ms in
    let c = held_set clock clear now good cfg.rc_lost_clear_ms in
    record {
      set = s.timer;
      clear = cond s.met clear c.timer;
      lost = cond s.met true (pending s.timer && not c.met);
      met = s.met;
    }

-- ---- satellite positioning: degraded, and lost

-- fewer than 8, or none told; 10 or more
abbrev pub few_sats : Option ℕ → Bool
few_sats None = true
few_sats (Some n) = ltb n 8

abbrev pub many_sats : Option ℕ → Bool
many_sats None = false
many_sats (Some n) = leb 10 n

-- above 2.5 (proofs/Constants.antt), or none told; at most 2
abbrev pub two_and_a_half : Float
two_and_a_half = of_bits binary32 0x4020_0000

abbrev pub poor_hdop : Option Float → Bool
poor_hdop None = true
poor_hdop (Some h) = lt two_and_a_half h

abbrev pub good_hdop : Option Float → Bool
good_hdop None = false
good_hdop (Some h) = le h two

abbrev pub degraded : Option GpsSample → Bool
degraded None = true
degraded (Some g) = few_sats g.sats || poor_hdop g.hdop

abbrev pub recovered : Option GpsSample → Bool
recovered None = false
recovered (Some g) = many_sats g.sats && good_hdop g.hdop

abbrev pub is3d : GpsFix → Bool
is3d GpsFix.None = false
is3d GpsFix.Fix2D = false
is3d GpsFix.Fix3D = true

-- a fix in three dimensions
abbrev pub fixed : Option GpsSample → Bool
fixed None = false
fixed (Some g) = is3d g.fix

unfoldable pub gps : Clock → TriggerState → ℕ → Option GpsSample → Config → GpsHeld
gps clock s now sample cfg =
    let g = fresh_gps clock now sample cfg.gps_fresh_ms in
    record {
      degraded = hold_pair clock s.gps_deg_set s.gps_deg_clear now (degraded g) cfg.gps_degraded_set_ms (recovered g) cfg.gps_degraded_clear_ms;
      lost = hold_pair clock s.gps_lost_set s.gps_lost_clear now (not (fixed g)) cfg.gps_lost_set_ms (fixed g) cfg.gps_lost_clear_ms;
    }

-- ---- the estimator

unfoldable pub ekf : Clock → Timer → Timer → ℕ → Bool → Config → PairHeld
ekf clock set clear now healthy cfg = hold_pair clock set clear now (not healthy) cfg.ekf_unhealthy_set_ms healthy cfg.ekf_unhealthy_clear_ms

-- ---- the fence and the altitudes

-- inside, and nearer than the limit
unfoldable pub fence_approach : Float → Config → Bool
fence_approach dist cfg = le zero_f dist && lt dist cfg.fence_approach_m

-- outside; clear where far enough inside
unfoldable pub fence_breach : Clock → Timer → Timer → ℕ → Float → Config → PairHeld
fence_breach clock set clear now dist cfg =
    hold_pair clock set clear now (lt dist zero_f) cfg.fence_breach_set_ms (le cfg.fence_breach_clear_m dist) cfg.fence_breach_clear_ms

-- above the upper altitude; at or below it both timers are cleared
unfoldable pub altitude_max : Clock → Timer → Timer → ℕ → Float → Float → Config → PairHeld
altitude_max clock set clear now alt max_alt cfg =
    cond (lt max_alt alt)
    (hold_pair clock set clear now true cfg.alt_max_set_ms (lt alt (sub binary32 max_alt cfg.alt_max_clear_m)) cfg.alt_max_clear_hold_ms)
    (rested cleared cleared)

abbrev pub flies : LandedState → Bool
flies LandedState.Undefined = false
flies LandedState.OnGround = false
flies LandedState.InAir = true
flies LandedState.Takeoff = false
flies LandedState.Landing = false

abbrev pub in_air : Option LandedState → Bool
in_air None = false
in_air (Some l) = flies l

-- below the lower altitude, away from home, in the air; clear where high enough or near home
unfoldable pub altitude_min : Clock → Timer → Timer → ℕ → Place → Bool → Float → Config → PairHeld
altitude_min clock set clear now p flying min_alt cfg =
    hold_pair clock set clear now
    (lt p.alt_m min_alt && lt cfg.alt_min_home_radius_m p.home_dist_m && flying) cfg.alt_min_set_ms
    (lt (add binary32 min_alt cfg.alt_min_clear_m) p.alt_m || le p.home_dist_m cfg.alt_min_home_radius_m) cfg.alt_min_clear_ms

-- "Fence timers rest while position is invalid."
unfoldable pub fence : Clock → TriggerState → ℕ → Option Place → Bool → Float → Float → Config → FenceHeld
fence clock s now None flying min_alt max_alt cfg =
    record {
      approach = false;
      breach = rested s.fence_breach_set s.fence_breach_clear;
      alt_max = rested s.alt_max_set s.alt_max_clear;
      alt_min = rested s.alt_min_set s.alt_min_clear;
    }
fence clock s now (Some p) flying min_alt max_alt cfg =
    record {
      approach = fence_approach p.fence.m cfg;
      breach = fence_breach clock s.fence_breach_set s.fence_breach_clear now p.fence.m cfg;
      alt_max = altitude_max clock s.alt_max_set s.alt_max_clear now p.alt_m max_alt cfg;
      alt_min = altitude_min clock s.alt_min_set s.alt_min_clear now p flying min_alt cfg;
    }

-- ---- the battery

abbrev pub is_present : Option Float → Bool
is_present None = false
is_present (Some x) = true

-- neither a fresh voltage nor a fresh charge; the clear timer runs otherwise, and nothing reads it
unfoldable pub stale_battery : Clock → Timer → ℕ → Option Float → Option Float → ℕ → StaleBattery
stale_battery clock clear now percent volts clear_ms =
    cond (is_present volts || is_present percent)
    (record { stale = false; clear = (held_set clock clear now true clear_ms).timer })
    (record { stale = true; clear = clear })

-- below the critical voltage of all cells
abbrev pub low_voltage : Option Float → Config → Bool
low_voltage None cfg = false
low_voltage (Some v) cfg = lt v (mul binary32 cfg.battery_critical_v_per_cell (of_int binary32 (pos cfg.cell_count)))

unfoldable pub battery_warn : Clock → Timer → Timer → ℕ → Float → Config → PairHeld
battery_warn clock set clear now p cfg =
    hold_pair clock set clear now (lt p cfg.battery_warn_pct) cfg.battery_warn_set_ms (lt cfg.battery_warn_clear_pct p) cfg.battery_warn_clear_ms

unfoldable pub battery_low : Clock → Timer → Timer → ℕ → Float → Config → PairHeld
battery_low clock set clear now p cfg =
    hold_pair clock set clear now (lt p cfg.battery_low_pct) cfg.battery_low_set_ms (lt cfg.battery_low_clear_pct p) cfg.battery_low_clear_ms

unfoldable pub battery_critical : Clock → Timer → ℕ → Float → Option Float → Config → Held
battery_critical clock set now p volts cfg = held_set clock set now (lt p cfg.battery_critical_pct || low_voltage volts cfg) cfg.battery_critical_set_ms

-- by the fresh charge in percent. "Latches last until confirmed disarm." Without a charge the timers rest, and a latch files nothing.
unfoldable pub battery : Clock → TriggerState → ℕ → Option Float → Option Float → Config → BatteryHeld
battery clock s now None volts cfg =
    record {
      warn = rested s.bat_warn_set s.bat_warn_clear;
      low = rested s.bat_low_set s.bat_low_clear;
      crit_set = s.bat_crit_set;
      latched = s.battery_critical_latched;
      critical = false;
    }
battery clock s now (Some p) volts cfg =
    let h = battery_critical clock s.bat_crit_set now p volts cfg in
    record {
      warn = battery_warn clock s.bat_warn_set s.bat_warn_clear now p cfg;
      low = battery_low clock s.bat_low_set s.bat_low_clear now p cfg;
      crit_set = h.timer;
      latched = s.battery_critical_latched || h.met;
      critical = s.battery_critical_latched || h.met;
    }

-- ---- the energy to return, by its margin

unfoldable pub energy_marginal : Clock → Timer → Timer → ℕ → Float → Config → PairHeld
energy_marginal clock set clear now m cfg =
    hold_pair clock set clear now
    (le zero_f m && lt m cfg.energy_marginal_wh) cfg.energy_marginal_set_ms
    (lt cfg.energy_marginal_clear_wh m) cfg.energy_marginal_clear_ms

-- without a margin the timers rest, and a latch files nothing
unfoldable pub energy : Clock → TriggerState → ℕ → Option Float → Config → EnergyHeld
energy clock s now None cfg =
    record {
      marginal = rested s.energy_marg_set s.energy_marg_clear;
      infeas_set = s.energy_infeas_set;
      latched = s.energy_infeasible_latched;
      infeasible = false;
    }
energy clock s now (Some m) cfg =
    let h = held_set clock s.energy_infeas_set now (lt m zero_f) cfg.energy_infeasible_set_ms in
    record {
      marginal = energy_marginal clock s.energy_marg_set s.energy_marg_clear now m cfg;
      infeas_set = h.timer;
      latched = s.energy_infeasible_latched || h.met;
      infeasible = s.energy_infeasible_latched || h.met;
    }
