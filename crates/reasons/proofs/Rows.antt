-- Each family's answer, by its row. Assumes nothing.
use Rattle.std.specs.Prelude.{Option, Some, None}
use Prim.Native.Nat.{ℕ}
use mathlib.Core.Bool.{Bool, true, false, not, ◌&&◌, ◌||◌, cond}
use mathlib.Core.Path.{◌≡◌, refl, ap, ◌∙◌}
use lib.Dec.{leb, ltb}
use lib.IntN.{pos}
use lib.Ieee.{Float, binary32, add, sub, mul, lt, le, of_int}
use Rattle.float32.specs.Binary32.{zero_f, two}
use Rattle.types.specs.declared.Action.{Action}
use Rattle.time.specs.Time.{Clock}
use Rattle.timers.specs.declared.Timer.{Timer}
use Rattle.timers.specs.Timer.{cleared, pending, held_set, hold_pair, rested, raised_by}
use Rattle.config.specs.declared.Config.{Config}
use Rattle.triggers.specs.declared.TriggerState.{TriggerState}
use Rattle.triggers.specs.Families.{invalid_input, gcs_age, stage_request, gcs_stage, gcs_clearing, gcs_link, rc_link, few_sats, many_sats, two_and_a_half, poor_hdop, good_hdop, degraded, recovered, is3d, fixed, fence_approach, fence_breach, altitude_max, altitude_min, fence, is_present, low_voltage, stale_battery, battery_warn, battery_low, battery_critical, battery, energy_marginal, energy}
use Rattle.triggers.specs.Update.{rc_lost}
use Rattle.reasons.specs.Reasons.{held_for, raised_from, of_count, of_value, of_sample, of_place}
use Rattle.types.specs.declared.GpsSample.{GpsSample}
use Rattle.triggers.specs.declared.Place.{Place}

or_false : (b : Bool) → b ≡ (b || false)
or_false true = refl
or_false false = refl

-- ---- samples of the satellite receiver

pub degraded_is : (s : Option GpsSample) → degraded s ≡ not (of_sample s (λ g. of_count g.sats (λ n. not (ltb n 8)) && of_value g.hdop (λ h. not (lt two_and_a_half h))))
degraded_is None = refl
degraded_is (Some g) = at g.sats g.hdop
  where
    not_not : (b : Bool) → b ≡ not (not b)
    not_not true = refl
    not_not false = refl

    poor : (h : Option Float) (few : Bool) → (few || poor_hdop h) ≡ not (not few && of_value h (λ x. not (lt two_and_a_half x)))
    poor h true = refl
    poor None false = refl
    poor (Some x) false = not_not (lt two_and_a_half x)

    at : (n : Option ℕ) (h : Option Float) → (few_sats n || poor_hdop h) ≡ not (of_count n (λ k. not (ltb k 8)) && of_value h (λ x. not (lt two_and_a_half x)))
    at None h = refl
    at (Some n) h = poor h (ltb n 8)

pub recovered_is : (s : Option GpsSample) → recovered s ≡ of_sample s (λ g. of_count g.sats (λ n. leb 10 n) && of_value g.hdop (λ h. le h two))
recovered_is None = refl
recovered_is (Some g) = at g.sats g.hdop
  where
    at : (n : Option ℕ) (h : Option Float) → (many_sats n && good_hdop h) ≡ (of_count n (λ k. leb 10 k) && of_value h (λ x. le x two))
    at None h = refl
    at (Some n) None = refl
    at (Some n) (Some x) = refl

pub fixed_is : (s : Option GpsSample) → fixed s ≡ of_sample s (λ g. is3d g.fix)
fixed_is None = refl
fixed_is (Some g) = refl

module _ (ck : Clock) (now : ℕ) where
  -- a timer's hold is met where its test has held
  pub met : (timer : Timer) (test : Bool) (ms : ℕ) → (held_set ck timer now test ms).met ≡ held_for ck now timer test ms
  unfolding held_set
  met timer true ms = refl
  met timer false ms = refl

  -- a pair of timers, by which of the two has held
  pub pair : (keeps was : Bool) (set clear : Timer) (bad : Bool) (set_ms : ℕ) (good : Bool) (clear_ms : ℕ)
      → raised_by keeps was (hold_pair ck set clear now bad set_ms good clear_ms) ≡ raised_from keeps was (held_for ck now set bad set_ms) (held_for ck now clear good clear_ms)
  unfolding raised_by hold_pair held_set
  pair keeps was set clear true set_ms true clear_ms = refl
  pair keeps was set clear true set_ms false clear_ms = refl
  pair keeps was set clear false set_ms true clear_ms = refl
  pair keeps was set clear false set_ms false clear_ms = refl

  -- the same with other words for the two tests
  pub pair_as : (keeps was : Bool) (set clear : Timer) {bad bad' : Bool} (set_ms : ℕ) {good good' : Bool} (clear_ms : ℕ) → bad ≡ bad' → good ≡ good'
      → raised_by keeps was (hold_pair ck set clear now bad set_ms good clear_ms) ≡ raised_from keeps was (held_for ck now set bad' set_ms) (held_for ck now clear good' clear_ms)
  pair_as keeps was set clear {bad} {bad'} set_ms {good} {good'} clear_ms b g =
      pair keeps was set clear bad set_ms good clear_ms ∙ (λ i. raised_from keeps was (held_for ck now set (b i) set_ms) (held_for ck now clear (g i) clear_ms))

  module _ (cfg : Config) where
    pub invalid_row : (active : Bool) (clear : Timer) (invalid : Bool) (ms : ℕ) → (invalid_input ck active clear now invalid ms).active ≡ (invalid || (active && not (held_for ck now clear true ms)))
    unfolding invalid_input held_set
    invalid_row active clear true ms = refl
    invalid_row active clear false ms = refl

    pub stale_row : (clear : Timer) (charge volts : Option Float) (ms : ℕ) → (stale_battery ck clear now charge volts ms).stale ≡ not (is_present volts || is_present charge)
    unfolding stale_battery
    stale_row clear charge None ms = at charge
      where
        at : (charge : Option Float) → (stale_battery ck clear now charge None ms).stale ≡ not (is_present charge)
        at None = refl
        at (Some p) = refl
    stale_row clear charge (Some v) ms = refl

    -- the link, by how its age stands to the four limits
    pub link_row : (clear : Timer) (stage : ℕ) (beat : Option ℕ)
        → (gcs_link ck clear stage now beat cfg).request
        ≡ cond (ltb cfg.gcs_rtl_ms (gcs_age ck now beat)) (Some Action.ReturnToLaunch)
        (cond (ltb cfg.gcs_hold_ms (gcs_age ck now beat)) (Some Action.Hold)
        (cond (ltb cfg.gcs_warn_ms (gcs_age ck now beat)) (Some Action.Warn)
        (cond (leb (gcs_age ck now beat) cfg.gcs_clear_ms && not (held_for ck now clear true cfg.gcs_clear_hold_ms)) (stage_request stage)
        None)))
    unfolding gcs_link gcs_stage gcs_clearing held_set stage_request
    link_row clear stage beat =
        at (ltb cfg.gcs_rtl_ms (gcs_age ck now beat)) (ltb cfg.gcs_hold_ms (gcs_age ck now beat)) (ltb cfg.gcs_warn_ms (gcs_age ck now beat)) (leb (gcs_age ck now beat) cfg.gcs_clear_ms)
      where
        turned : (b : Bool) → cond b None (stage_request stage) ≡ cond (not b) (stage_request stage) None
        turned true = refl
        turned false = refl

        at : (rtl hold warn good : Bool)
            → (cond rtl (gcs_stage clear 3) (cond hold (gcs_stage clear 2) (cond warn (gcs_stage clear 1)
            (cond good (gcs_clearing ck clear stage now cfg.gcs_clear_hold_ms) (record { clear_timer = cleared; stage = stage; request = None }))))).request
            ≡ cond rtl (Some Action.ReturnToLaunch) (cond hold (Some Action.Hold) (cond warn (Some Action.Warn)
            (cond (good && not (held_for ck now clear true cfg.gcs_clear_hold_ms)) (stage_request stage) None)))
        at true hold warn good = refl
        at false true warn good = refl
        at false false true good = refl
        at false false false true = turned (held_for ck now clear true cfg.gcs_clear_hold_ms)
        at false false false false = refl

    pub stage_row : (clear : Timer) (stage : ℕ) (beat : Option ℕ)
        → (gcs_link ck clear stage now beat cfg).stage
        ≡ cond (ltb cfg.gcs_rtl_ms (gcs_age ck now beat)) 3
        (cond (ltb cfg.gcs_hold_ms (gcs_age ck now beat)) 2
        (cond (ltb cfg.gcs_warn_ms (gcs_age ck now beat)) 1
        (cond (leb (gcs_age ck now beat) cfg.gcs_clear_ms && held_for ck now clear true cfg.gcs_clear_hold_ms) 0
        stage)))
    unfolding gcs_link gcs_stage gcs_clearing held_set
    stage_row clear stage beat =
        at (ltb cfg.gcs_rtl_ms (gcs_age ck now beat)) (ltb cfg.gcs_hold_ms (gcs_age ck now beat)) (ltb cfg.gcs_warn_ms (gcs_age ck now beat)) (leb (gcs_age ck now beat) cfg.gcs_clear_ms)
      where
        at : (rtl hold warn good : Bool)
            → (cond rtl (gcs_stage clear 3) (cond hold (gcs_stage clear 2) (cond warn (gcs_stage clear 1)
            (cond good (gcs_clearing ck clear stage now cfg.gcs_clear_hold_ms) (record { clear_timer = cleared; stage = stage; request = None }))))).stage
            ≡ cond rtl 3 (cond hold 2 (cond warn 1 (cond (good && held_for ck now clear true cfg.gcs_clear_hold_ms) 0 stage)))
        at true hold warn good = refl
        at false true warn good = refl
        at false false true good = refl
        at false false false true = refl
        at false false false false = refl

    -- the hand controller: while it is bad its set timer is pending, and its clear timer has not held
    pub rc_row : (keeps : Bool) (set clear : Timer) (good : Bool)
        → rc_lost keeps (rc_link ck set clear now good cfg) ≡ cond keeps (held_for ck now set (cfg.rc_required && not good) cfg.rc_lost_set_ms) (cfg.rc_required && not good)
    unfolding rc_link held_set
    rc_row keeps set clear good = at cfg.rc_required good
      where
        either : (b : Bool) → cond b true true ≡ true
        either true = refl
        either false = refl

        at : (required good : Bool)
            → cond keeps (held_set ck set now (required && not good) cfg.rc_lost_set_ms).met
            (cond (held_set ck set now (required && not good) cfg.rc_lost_set_ms).met true
            (pending (held_set ck set now (required && not good) cfg.rc_lost_set_ms).timer && not (held_set ck clear now good cfg.rc_lost_clear_ms).met))
            ≡ cond keeps (held_for ck now set (required && not good) cfg.rc_lost_set_ms) (required && not good)
        at false good = refl
        at true true = refl
        at true false = ap (λ (b : Bool). cond keeps (held_for ck now set true cfg.rc_lost_set_ms) b) (either (held_for ck now set true cfg.rc_lost_set_ms))

    module _ (s : TriggerState) where
      -- ---- fence and altitudes: without a valid position no hold is met

      module _ (flying : Bool) (min_alt max_alt : Float) where
        pub approach_row : (place : Option Place) → (fence ck s now place flying min_alt max_alt cfg).approach ≡ of_place place (λ p. le zero_f p.fence.m && lt p.fence.m cfg.fence_approach_m)
        unfolding fence fence_approach
        approach_row None = refl
        approach_row (Some p) = refl

        pub breach_row : (keeps was : Bool) (place : Option Place)
            → raised_by keeps was (fence ck s now place flying min_alt max_alt cfg).breach
            ≡ raised_from keeps was
            (held_for ck now s.fence_breach_set (of_place place (λ p. lt p.fence.m zero_f)) cfg.fence_breach_set_ms)
            (held_for ck now s.fence_breach_clear (of_place place (λ p. le cfg.fence_breach_clear_m p.fence.m)) cfg.fence_breach_clear_ms)
        unfolding fence fence_breach raised_by
        breach_row keeps was None = refl
        breach_row keeps was (Some p) = pair keeps was _ _ _ _ _ _

        pub max_row : (place : Option Place)
            → raised_by false false (fence ck s now place flying min_alt max_alt cfg).alt_max
            ≡ (held_for ck now s.alt_max_set (of_place place (λ p. lt max_alt p.alt_m)) cfg.alt_max_set_ms
            && not (held_for ck now s.alt_max_clear (of_place place (λ p. lt max_alt p.alt_m && lt p.alt_m (sub binary32 max_alt cfg.alt_max_clear_m))) cfg.alt_max_clear_hold_ms))
        unfolding fence altitude_max raised_by
        max_row None = refl
        max_row (Some p) = at (lt max_alt p.alt_m)
          where
            low : Bool
            low = lt p.alt_m (sub binary32 max_alt cfg.alt_max_clear_m)

            at : (b : Bool)
                → raised_by false false (cond b (hold_pair ck s.alt_max_set s.alt_max_clear now true cfg.alt_max_set_ms low cfg.alt_max_clear_hold_ms) (rested cleared cleared))
                ≡ (held_for ck now s.alt_max_set b cfg.alt_max_set_ms && not (held_for ck now s.alt_max_clear (b && low) cfg.alt_max_clear_hold_ms))
            at true = pair false false _ _ true _ _ _
            at false = refl

        pub min_row : (keeps was : Bool) (place : Option Place)
            → raised_by keeps was (fence ck s now place flying min_alt max_alt cfg).alt_min
            ≡ raised_from keeps was
            (held_for ck now s.alt_min_set (of_place place (λ p. lt p.alt_m min_alt && lt cfg.alt_min_home_radius_m p.home_dist_m && flying)) cfg.alt_min_set_ms)
            (held_for ck now s.alt_min_clear (of_place place (λ p. lt (add binary32 min_alt cfg.alt_min_clear_m) p.alt_m || le p.home_dist_m cfg.alt_min_home_radius_m)) cfg.alt_min_clear_ms)
        unfolding fence altitude_min raised_by
        min_row keeps was None = refl
        min_row keeps was (Some p) = pair keeps was _ _ _ _ _ _

      -- ---- the battery

      module _ (volts : Option Float) where
        pub warn_row : (keeps was : Bool) (charge : Option Float)
            → raised_by keeps was (battery ck s now charge volts cfg).warn
            ≡ raised_from keeps was
            (held_for ck now s.bat_warn_set (of_value charge (λ p. lt p cfg.battery_warn_pct)) cfg.battery_warn_set_ms)
            (held_for ck now s.bat_warn_clear (of_value charge (λ p. lt cfg.battery_warn_clear_pct p)) cfg.battery_warn_clear_ms)
        unfolding battery battery_warn raised_by
        warn_row keeps was None = refl
        warn_row keeps was (Some p) = pair keeps was _ _ _ _ _ _

        pub low_row : (keeps was : Bool) (charge : Option Float)
            → raised_by keeps was (battery ck s now charge volts cfg).low
            ≡ raised_from keeps was
            (held_for ck now s.bat_low_set (of_value charge (λ p. lt p cfg.battery_low_pct)) cfg.battery_low_set_ms)
            (held_for ck now s.bat_low_clear (of_value charge (λ p. lt cfg.battery_low_clear_pct p)) cfg.battery_low_clear_ms)
        unfolding battery battery_low raised_by
        low_row keeps was None = refl
        low_row keeps was (Some p) = pair keeps was _ _ _ _ _ _

        crit_met : (p : Float)
            → (battery_critical ck s.bat_crit_set now p volts cfg).met
            ≡ held_for ck now s.bat_crit_set (lt p cfg.battery_critical_pct || of_value volts (λ v. lt v (mul binary32 cfg.battery_critical_v_per_cell (of_int binary32 (pos cfg.cell_count))))) cfg.battery_critical_set_ms
        unfolding battery_critical
        crit_met p = met _ _ _ ∙ ap (λ (b : Bool). held_for ck now s.bat_crit_set (lt p cfg.battery_critical_pct || b) cfg.battery_critical_set_ms) (low volts)
          where
            low : (v : Option Float) → low_voltage v cfg ≡ of_value v (λ x. lt x (mul binary32 cfg.battery_critical_v_per_cell (of_int binary32 (pos cfg.cell_count))))
            low None = refl
            low (Some x) = refl

        pub latch_row : (charge : Option Float)
            → (battery ck s now charge volts cfg).latched
            ≡ (s.battery_critical_latched || held_for ck now s.bat_crit_set (of_value charge (λ p. lt p cfg.battery_critical_pct || of_value volts (λ v. lt v (mul binary32 cfg.battery_critical_v_per_cell (of_int binary32 (pos cfg.cell_count)))))) cfg.battery_critical_set_ms)
        unfolding battery battery_critical
        latch_row None = or_false _
        latch_row (Some p) = ap (λ (b : Bool). s.battery_critical_latched || b) (crit_met p)

        pub critical_row : (charge : Option Float)
            → (battery ck s now charge volts cfg).critical
            ≡ (is_present charge && (s.battery_critical_latched || held_for ck now s.bat_crit_set (of_value charge (λ p. lt p cfg.battery_critical_pct || of_value volts (λ v. lt v (mul binary32 cfg.battery_critical_v_per_cell (of_int binary32 (pos cfg.cell_count)))))) cfg.battery_critical_set_ms))
        unfolding battery battery_critical
        critical_row None = refl
        critical_row (Some p) = ap (λ (b : Bool). s.battery_critical_latched || b) (crit_met p)

      -- ---- the energy

      pub marginal_row : (keeps was : Bool) (margin : Option Float)
          → raised_by keeps was (energy ck s now margin cfg).marginal
          ≡ raised_from keeps was
          (held_for ck now s.energy_marg_set (of_value margin (λ m. le zero_f m && lt m cfg.energy_marginal_wh)) cfg.energy_marginal_set_ms)
          (held_for ck now s.energy_marg_clear (of_value margin (λ m. lt cfg.energy_marginal_clear_wh m)) cfg.energy_marginal_clear_ms)
      unfolding energy energy_marginal raised_by
      marginal_row keeps was None = refl
      marginal_row keeps was (Some m) = pair keeps was _ _ _ _ _ _

      pub short_row : (margin : Option Float)
          → (energy ck s now margin cfg).latched
          ≡ (s.energy_infeasible_latched || held_for ck now s.energy_infeas_set (of_value margin (λ m. lt m zero_f)) cfg.energy_infeasible_set_ms)
      unfolding energy
      short_row None = or_false _
      short_row (Some m) = ap (λ (b : Bool). s.energy_infeasible_latched || b) (met _ _ _)

      pub infeasible_row : (margin : Option Float)
          → (energy ck s now margin cfg).infeasible
          ≡ (is_present margin && (s.energy_infeasible_latched || held_for ck now s.energy_infeas_set (of_value margin (λ m. lt m zero_f)) cfg.energy_infeasible_set_ms))
      unfolding energy
      infeasible_row None = refl
      infeasible_row (Some m) = ap (λ (b : Bool). s.energy_infeasible_latched || b) (met _ _ _)
