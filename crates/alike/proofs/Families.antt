-- The nine families under another clock: each makes the same of its readings, and its timers are kept, started or cleared alike. Assumes nothing.
use Rattle.std.specs.Prelude.{Option, Some, None}
use Prim.Native.Nat.{ℕ}
use mathlib.Core.Path.{◌≡◌, refl, ap, ap₂, ◌∙◌}
use mathlib.Core.Bool.{Bool, true, false, not, ◌&&◌, ◌||◌, cond}
use lib.Dec.{leb, ltb}
use lib.Ieee.{Float, binary32, sub, lt}
use Rattle.float32.specs.Binary32.{zero_f}
use Rattle.time.specs.Time.{Clock}
use Rattle.config.specs.declared.Config.{Config}
use Rattle.validate.specs.Fresh.{fresh_gps}
use Rattle.timers.specs.declared.Timer.{Timer}
use Rattle.triggers.specs.declared.InvalidInput.{InvalidInput}
use Rattle.triggers.specs.declared.GcsLink.{GcsLink}
use Rattle.triggers.specs.declared.RcLink.{RcLink}
use Rattle.triggers.specs.declared.GpsHeld.{GpsHeld}
use Rattle.timers.specs.declared.Held.{Held}
use Rattle.triggers.specs.declared.Place.{Place}
use Rattle.triggers.specs.declared.FenceHeld.{FenceHeld}
use Rattle.triggers.specs.declared.StaleBattery.{StaleBattery}
use Rattle.triggers.specs.declared.BatteryHeld.{BatteryHeld}
use Rattle.triggers.specs.declared.EnergyHeld.{EnergyHeld}
use Rattle.triggers.specs.declared.Families.{Families}
use Rattle.triggers.specs.declared.TriggerState.{TriggerState}
use Rattle.timers.specs.Timer.{cleared, pending, held_set, hold_pair, rested}
use Rattle.triggers.specs.Families.{invalid_input, gcs_age, stage_request, gcs_stage, gcs_clearing, gcs_link, rc_link, degraded, recovered, fixed, gps, ekf, fence_approach, fence_breach, altitude_max, altitude_min, fence, is_present, stale_battery, battery_warn, battery_low, battery_critical, battery, energy_marginal, energy}
use Rattle.instants.specs.Retimed.{instead, timer_at, TimerName, gcs_clear, rc_clear, gps_deg_set, gps_deg_clear, gps_lost_set, gps_lost_clear, ekf_set, ekf_clear, breach_set, breach_clear, alt_max_set, alt_max_clear, alt_min_set, alt_min_clear, stale_clear, warn_set, warn_clear, low_set, low_clear, crit_set, marg_set, marg_clear, infeas_set, invalid_clear, rc_set, timer_of, hold_of, triggers_at, gps_at, durations_of, timers_after}
use Rattle.instants.specs.Own.{gps_stamp}
use Rattle.alike.specs.Alike.{HoldAlike, FreshAlike}
use Rattle.alike.proofs.Choices.{choose}
use Rattle.alike.proofs.Timers.{held_at, pair_at, started_instead, rests, held}
use Rattle.alike.proofs.Fresh.{gps_alike, degraded_at, recovered_at, fixed_at}
use Rattle.types.specs.declared.GpsSample.{GpsSample}

-- ---- what the families made of a step, at other instants

abbrev pub invalid_at : (TimerName → ℕ) → InvalidInput → InvalidInput
invalid_at i r = record { active = r.active; clear = timer_at (i invalid_clear) r.clear }

abbrev pub gcs_at : (TimerName → ℕ) → GcsLink → GcsLink
gcs_at i r = record { clear_timer = timer_at (i gcs_clear) r.clear_timer; stage = r.stage; request = r.request }

abbrev pub rc_at : (TimerName → ℕ) → RcLink → RcLink
rc_at i r = record { set = timer_at (i rc_set) r.set; clear = timer_at (i rc_clear) r.clear; lost = r.lost; met = r.met }

abbrev pub gps_held_at : (TimerName → ℕ) → GpsHeld → GpsHeld
gps_held_at i r = record { degraded = pair_at (i gps_deg_set) (i gps_deg_clear) r.degraded; lost = pair_at (i gps_lost_set) (i gps_lost_clear) r.lost }

abbrev pub fence_at : (TimerName → ℕ) → FenceHeld → FenceHeld
fence_at i r =
    record {
      approach = r.approach;
      breach = pair_at (i breach_set) (i breach_clear) r.breach;
      alt_max = pair_at (i alt_max_set) (i alt_max_clear) r.alt_max;
      alt_min = pair_at (i alt_min_set) (i alt_min_clear) r.alt_min;
    }

abbrev pub stale_at : (TimerName → ℕ) → StaleBattery → StaleBattery
stale_at i r = record { stale = r.stale; clear = timer_at (i stale_clear) r.clear }

abbrev pub battery_at : (TimerName → ℕ) → BatteryHeld → BatteryHeld
battery_at i r =
    record {
      warn = pair_at (i warn_set) (i warn_clear) r.warn;
      low = pair_at (i low_set) (i low_clear) r.low;
      crit_set = timer_at (i crit_set) r.crit_set;
      latched = r.latched;
      critical = r.critical;
    }

abbrev pub energy_held_at : (TimerName → ℕ) → EnergyHeld → EnergyHeld
energy_held_at i r =
    record {
      marginal = pair_at (i marg_set) (i marg_clear) r.marginal;
      infeas_set = timer_at (i infeas_set) r.infeas_set;
      latched = r.latched;
      infeasible = r.infeasible;
    }

-- whether the hand controller is lost
abbrev lost_by : Held → Held → Bool
lost_by s c = cond s.met true (pending s.timer && not c.met)

lost_alike : (x y : ℕ) (s c : Held) {s2 c2 : Held} → s2 ≡ held_at x s → c2 ≡ held_at y c → lost_by s2 c2 ≡ lost_by s c
lost_alike x y s c p q = ap₂ lost_by p q ∙ ap (λ b. cond s.met true (b && not c.met)) (started_instead x s.timer.since_ms)

unfoldable pub families_at : (TimerName → ℕ) → Families → Families
families_at i f =
    record {
      invalid = invalid_at i f.invalid;
      gcs = gcs_at i f.gcs;
      rc = rc_at i f.rc;
      gps = gps_held_at i f.gps;
      ekf = pair_at (i ekf_set) (i ekf_clear) f.ekf;
      fence = fence_at i f.fence;
      stale = stale_at i f.stale;
      battery = battery_at i f.battery;
      energy = energy_held_at i f.energy;
    }

module _
    (c1 c2 : Clock) (now1 now2 : ℕ) (cfg d : Config) (s : TriggerState) (i : TimerName → ℕ)
    (alike : (n : TimerName) → HoldAlike c1 c2 now1 now2 (i n) (timer_of s n).since_ms (hold_of cfg n) (hold_of d n))
  where
    abbrev after : TimerName → ℕ
    after = timers_after now2 i s

    abbrev other : Config
    other = durations_of d cfg

    abbrev at : (n : TimerName) → Timer
    at n = timer_at (i n) (timer_of s n)

    -- a timer by its name, under equal conditions
    timer : (n : TimerName) {b c : Bool} → b ≡ c → held_set c2 (at n) now2 b (hold_of d n) ≡ held_at (after n) (held_set c1 (timer_of s n) now1 c (hold_of cfg n))
    timer n {b} {c} e = ap (λ z. held_set c2 (timer_at (i n) (timer_of s n)) now2 z (hold_of d n)) e ∙ held c1 c2 now1 now2 (i n) (timer_of s n) (hold_of cfg n) (hold_of d n) c (alike n)

    pair : (m n : TimerName) {b c g h : Bool} → b ≡ c → g ≡ h → hold_pair c2 (timer_at (i m) (timer_of s m)) (at n) now2 b (hold_of d m) g (hold_of d n) ≡ pair_at (after m) (after n) (hold_pair c1 (timer_of s m) (timer_of s n) now1 c (hold_of cfg m) h (hold_of cfg n))
    unfolding hold_pair
    pair m n e f =
        let p = timer m e in
        let q = timer n f in
        λ k. record { set = (p k).timer; clear = (q k).timer; set_met = (p k).met; clear_met = (q k).met }

    rest : (m n : TimerName) → rested (timer_at (i m) (timer_of s m)) (timer_at (i n) (timer_of s n)) ≡ pair_at (after m) (after n) (rested (timer_of s m) (timer_of s n))
    rest m n = λ k. record { set = rests now2 (i m) (timer_of s m) k; clear = rests now2 (i n) (timer_of s n) k; set_met = false; clear_met = false }

    pub invalid_law : (active invalid : Bool) → invalid_input c2 active (at invalid_clear) now2 invalid d.invalid_input_clear_ms ≡ invalid_at after (invalid_input c1 active s.invalid_clear now1 invalid cfg.invalid_input_clear_ms)
    unfolding invalid_input
    invalid_law active true = refl
    invalid_law active false =
        let p = timer invalid_clear {b = true} refl in
        λ k. record { active = active && not (p k).met; clear = (p k).timer }

    -- ---- the link
    stage_law : (n : ℕ) → gcs_stage (at gcs_clear) n ≡ gcs_at after (gcs_stage s.gcs_clear_timer n)
    unfolding gcs_stage
    stage_law n = λ k. record { clear_timer = rests now2 (i gcs_clear) s.gcs_clear_timer k; stage = n; request = stage_request n }

    clearing_law : (stage : ℕ) → gcs_clearing c2 (at gcs_clear) stage now2 d.gcs_clear_hold_ms ≡ gcs_at after (gcs_clearing c1 s.gcs_clear_timer stage now1 cfg.gcs_clear_hold_ms)
    unfolding gcs_clearing
    clearing_law stage =
        let p = timer gcs_clear {b = true} refl in
        λ k. record { clear_timer = (p k).timer; stage = cond (p k).met 0 stage; request = cond (p k).met None (stage_request stage) }

    pub gcs_law :
        (x stage : ℕ) (hb : Option ℕ)
        → ltb d.gcs_rtl_ms (gcs_age c2 now2 (instead x hb)) ≡ ltb cfg.gcs_rtl_ms (gcs_age c1 now1 hb)
        → ltb d.gcs_hold_ms (gcs_age c2 now2 (instead x hb)) ≡ ltb cfg.gcs_hold_ms (gcs_age c1 now1 hb)
        → ltb d.gcs_warn_ms (gcs_age c2 now2 (instead x hb)) ≡ ltb cfg.gcs_warn_ms (gcs_age c1 now1 hb)
        → leb (gcs_age c2 now2 (instead x hb)) d.gcs_clear_ms ≡ leb (gcs_age c1 now1 hb) cfg.gcs_clear_ms
        → gcs_link c2 (at gcs_clear) stage now2 (instead x hb) other ≡ gcs_at after (gcs_link c1 s.gcs_clear_timer stage now1 hb cfg)
    unfolding gcs_link durations_of
    gcs_law x stage hb rtl hold warn clear =
        choose (gcs_at after) rtl (stage_law 3) (choose (gcs_at after) hold (stage_law 2) (choose (gcs_at after) warn (stage_law 1) (choose (gcs_at after) clear (clearing_law stage) refl)))

    -- ---- the hand controller
    pub rc_law : (good : Bool) → rc_link c2 (at rc_set) (at rc_clear) now2 good other ≡ rc_at after (rc_link c1 s.rc_lost_set s.rc_clear_timer now1 good cfg)
    unfolding rc_link durations_of
    rc_law good =
        let p = timer rc_set {b = cfg.rc_required && not good} refl in
        let q = timer rc_clear {b = good} refl in
        let clears = choose (timer_at (after rc_clear)) (λ k. (p k).met) (rests now2 (i rc_clear) s.rc_clear_timer) (λ k. (q k).timer) in
        let lost = lost_alike (after rc_set) (after rc_clear) (held_set c1 s.rc_lost_set now1 (cfg.rc_required && not good) cfg.rc_lost_set_ms) (held_set c1 s.rc_clear_timer now1 good cfg.rc_lost_clear_ms) p q in
        λ k. record { set = (p k).timer; clear = clears k; lost = lost k; met = (p k).met }

    -- ---- satellite positioning, the estimator
    pub gps_law : (x : ℕ) (sample : Option GpsSample) → FreshAlike c1 c2 now1 now2 x (gps_stamp sample) cfg.gps_fresh_ms d.gps_fresh_ms → gps c2 (triggers_at i s) now2 (gps_at x sample) other ≡ gps_held_at after (gps c1 s now1 sample cfg)
    unfolding gps durations_of triggers_at
    gps_law x sample e =
        let g = fresh_gps c1 now1 sample cfg.gps_fresh_ms in
        let f = gps_alike c1 c2 now1 now2 cfg.gps_fresh_ms d.gps_fresh_ms x sample e in
        let fix = ap fixed f ∙ fixed_at x g in
        let p = pair gps_deg_set gps_deg_clear (ap degraded f ∙ degraded_at x g) (ap recovered f ∙ recovered_at x g) in
        let q = pair gps_lost_set gps_lost_clear (ap not fix) fix in
        λ k. record { degraded = p k; lost = q k }

    pub ekf_law : (healthy : Bool) → ekf c2 (at ekf_set) (at ekf_clear) now2 healthy other ≡ pair_at (after ekf_set) (after ekf_clear) (ekf c1 s.ekf_set s.ekf_clear now1 healthy cfg)
    unfolding ekf durations_of
    ekf_law healthy = pair ekf_set ekf_clear refl refl

    -- ---- the fence and the altitudes
    breach_law : (dist : Float) → fence_breach c2 (at breach_set) (at breach_clear) now2 dist other ≡ pair_at (after breach_set) (after breach_clear) (fence_breach c1 s.fence_breach_set s.fence_breach_clear now1 dist cfg)
    unfolding fence_breach durations_of
    breach_law dist = pair breach_set breach_clear refl refl

    max_law : (alt max_alt : Float) → altitude_max c2 (at alt_max_set) (at alt_max_clear) now2 alt max_alt other ≡ pair_at (after alt_max_set) (after alt_max_clear) (altitude_max c1 s.alt_max_set s.alt_max_clear now1 alt max_alt cfg)
    unfolding altitude_max durations_of
    max_law alt max_alt =
        let p = pair alt_max_set alt_max_clear {b = true} {g = lt alt (sub binary32 max_alt cfg.alt_max_clear_m)} refl refl in
        choose (pair_at (after alt_max_set) (after alt_max_clear)) {b = lt max_alt alt} {v = rested cleared cleared} refl p refl

    min_law : (p : Place) (flying : Bool) (min_alt : Float) → altitude_min c2 (at alt_min_set) (at alt_min_clear) now2 p flying min_alt other ≡ pair_at (after alt_min_set) (after alt_min_clear) (altitude_min c1 s.alt_min_set s.alt_min_clear now1 p flying min_alt cfg)
    unfolding altitude_min durations_of
    min_law p flying min_alt = pair alt_min_set alt_min_clear refl refl

    pub fence_law : (place : Option Place) (flying : Bool) (min_alt max_alt : Float) → fence c2 (triggers_at i s) now2 place flying min_alt max_alt other ≡ fence_at after (fence c1 s now1 place flying min_alt max_alt cfg)
    unfolding fence fence_approach durations_of triggers_at
    fence_law None flying min_alt max_alt =
        λ k. record {
          approach = false;
          breach = rest breach_set breach_clear k;
          alt_max = rest alt_max_set alt_max_clear k;
          alt_min = rest alt_min_set alt_min_clear k;
        }
    fence_law (Some p) flying min_alt max_alt =
        λ k. record {
          approach = fence_approach p.fence.m cfg;
          breach = breach_law p.fence.m k;
          alt_max = max_law p.alt_m max_alt k;
          alt_min = min_law p flying min_alt k;
        }

    -- ---- the battery, the energy
    pub stale_law : (percent volts : Option Float) → stale_battery c2 (at stale_clear) now2 percent volts d.stale_battery_clear_ms ≡ stale_at after (stale_battery c1 s.stale_bat_clear now1 percent volts cfg.stale_battery_clear_ms)
    unfolding stale_battery
    stale_law percent volts =
        let p = timer stale_clear {b = true} refl in
        choose (stale_at after) {b = is_present volts || is_present percent}
        {u = record { stale = false; clear = (held_set c1 s.stale_bat_clear now1 true cfg.stale_battery_clear_ms).timer }} {v = record { stale = true; clear = s.stale_bat_clear }}
        refl (λ k. record { stale = false; clear = (p k).timer }) (λ k. record { stale = true; clear = rests now2 (i stale_clear) s.stale_bat_clear k })

    warn_law : (p : Float) → battery_warn c2 (at warn_set) (at warn_clear) now2 p other ≡ pair_at (after warn_set) (after warn_clear) (battery_warn c1 s.bat_warn_set s.bat_warn_clear now1 p cfg)
    unfolding battery_warn durations_of
    warn_law p = pair warn_set warn_clear refl refl

    low_law : (p : Float) → battery_low c2 (at low_set) (at low_clear) now2 p other ≡ pair_at (after low_set) (after low_clear) (battery_low c1 s.bat_low_set s.bat_low_clear now1 p cfg)
    unfolding battery_low durations_of
    low_law p = pair low_set low_clear refl refl

    critical_law : (p : Float) (volts : Option Float) → battery_critical c2 (at crit_set) now2 p volts other ≡ held_at (after crit_set) (battery_critical c1 s.bat_crit_set now1 p volts cfg)
    unfolding battery_critical durations_of
    critical_law p None = timer crit_set refl
    critical_law p (Some v) = timer crit_set refl

    pub battery_law : (percent volts : Option Float) → battery c2 (triggers_at i s) now2 percent volts other ≡ battery_at after (battery c1 s now1 percent volts cfg)
    unfolding battery triggers_at
    battery_law None volts =
        λ k. record {
          warn = rest warn_set warn_clear k;
          low = rest low_set low_clear k;
          crit_set = rests now2 (i crit_set) s.bat_crit_set k;
          latched = s.battery_critical_latched;
          critical = false;
        }
    battery_law (Some p) volts =
        let h = critical_law p volts in
        λ k. record {
          warn = warn_law p k;
          low = low_law p k;
          crit_set = (h k).timer;
          latched = s.battery_critical_latched || (h k).met;
          critical = s.battery_critical_latched || (h k).met;
        }

    marginal_law : (m : Float) → energy_marginal c2 (at marg_set) (at marg_clear) now2 m other ≡ pair_at (after marg_set) (after marg_clear) (energy_marginal c1 s.energy_marg_set s.energy_marg_clear now1 m cfg)
    unfolding energy_marginal durations_of
    marginal_law m = pair marg_set marg_clear refl refl

    pub energy_law : (margin : Option Float) → energy c2 (triggers_at i s) now2 margin other ≡ energy_held_at after (energy c1 s now1 margin cfg)
    unfolding energy durations_of triggers_at
    energy_law None =
        λ k. record {
          marginal = rest marg_set marg_clear k;
          infeas_set = rests now2 (i infeas_set) s.energy_infeas_set k;
          latched = s.energy_infeasible_latched;
          infeasible = false;
        }
    energy_law (Some m) =
        let h = timer infeas_set {b = lt m zero_f} refl in
        λ k. record {
          marginal = marginal_law m k;
          infeas_set = (h k).timer;
          latched = s.energy_infeasible_latched || (h k).met;
          infeasible = s.energy_infeasible_latched || (h k).met;
        }
