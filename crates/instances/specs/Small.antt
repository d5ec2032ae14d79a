-- Small instances beside the table, about the definitions: each refuses a misreading that code and definition could share. Assumes nothing.
-- The quotations are of document 01; "the oracle [decides] all else", so where it is silent the Rust's line is given.
use Rattle.std.specs.Prelude.{ℕ, Bool, true, false, cond, List, [], ◌∷◌, map, ◌≡◌, leb, Float, Option, Some, None, Result, Ok, Err, ⊤}
use Rattle.std.specs.Float.{binary32}
use Rattle.std.specs.Float.Ieee.{neg, of_bits}
use Rattle.types.specs.declared.Action.{Action}
use Rattle.types.specs.declared.Reason.{Reason}
use Rattle.types.specs.declared.Point2.{Point2}
use Rattle.types.specs.declared.Vec3.{Vec3}
use Rattle.types.specs.declared.LandedState.{LandedState}
use Rattle.types.specs.declared.Telemetry.{Telemetry}
use Rattle.types.specs.ActiveSet.{empty_set, set_request, requested_action}
use Rattle.time.specs.Time.{wrapping}
use Rattle.corners.specs.declared.FenceError.{FenceError}
use Rattle.corners.specs.Acceptance.{fence_error_number, polygon_fault}
use Rattle.geometry.specs.Distance.{ring_of, edge_signed_distance, contains, nearest}
use Rattle.config.specs.declared.Config.{Config}
use Rattle.config.specs.declared.ConfigError.{ConfigError}
use Rattle.config.specs.Config.{config_error_number, check_config}
use Rattle.config.specs.Default.{default_config, default_fence}
use Rattle.energy.specs.Energy.{rtl_energy}
use Rattle.validate.specs.declared.GlitchState.{GlitchState}
use Rattle.validate.specs.Fresh.{confirmed_disarm, position_valid}
use Rattle.validate.specs.Glitch.{apply_glitch_filter}
use Rattle.timers.specs.declared.Timer.{Timer}
use Rattle.timers.specs.Timer.{cleared}
use Rattle.triggers.specs.declared.TriggerState.{TriggerState}
use Rattle.triggers.specs.Families.{gcs_age, rc_link, energy}
use Rattle.triggers.specs.Update.{fresh_triggers}
use Rattle.arbiter.specs.declared.ArbiterState.{ArbiterState}
use Rattle.arbiter.specs.declared.Arbitrated.{Arbitrated}
use Rattle.arbiter.specs.Arbiter.{request, wanted, apply_feasibility}
use Rattle.disarm.specs.Disarm.{gate_open}
use Rattle.supervisor.specs.declared.Supervisor.{Supervisor}
use Rattle.supervisor.specs.declared.Stepped.{Stepped}
use Rattle.supervisor.specs.Settings.{base_settings, fence_site, fed_at}
use Rattle.supervisor.specs.Step.{step}
use Rattle.instances.specs.Table.{whole_number, at, north_of, stored_at_origin}
use Rattle.types.specs.declared.Stamped.{Stamped}
use Rattle.types.specs.declared.PositionSample.{PositionSample}

-- ---- readings at 2000: a stamp of 1000 is fresh, one of 999 is stale

abbrev pub disarm_by : Option (Stamped Bool) → Bool
disarm_by armed = confirmed_disarm wrapping 2000 armed 1000

-- a position is fresh from the stamp 1500 on
abbrev pub valid_by : Option PositionSample → Option (Stamped Bool) → Bool
valid_by position ekf = position_valid wrapping 2000 position ekf 500 1000

abbrev pub sample_of : ℕ → Option PositionSample
sample_of t = Some (north_of t 0)

abbrev pub gate_by : Option (Stamped Bool) → Option (Stamped LandedState) → Action → Bool
gate_by armed landed requested = gate_open wrapping 2000 armed landed 1000 requested

-- Land is requested, and it is armed
abbrev pub gate_on : LandedState → Bool
gate_on l = gate_by (Some (record { t_ms = 1000; value = true })) (Some (record { t_ms = 1000; value = l })) Action.Land

-- what the filter makes of a sample 1000 m away, with one stored at home at 1000
abbrev pub far_at : ℕ → Option PositionSample
far_at now = (apply_glitch_filter wrapping stored_at_origin now (Some (north_of now 1000)) (whole_number 25)).position

-- ---- the arbiter's answers

-- an action is shown, and the recovery began at a reading or has not begun
abbrev pub showing : Reason → Action → Option ℕ → Arbitrated
showing r a since =
    record {
      state = record { prev_output = a; prev_reason = r; recovery_since_ms = since };
      output = record { reason = r; action = a };
    }

-- what is made of an action
abbrev pub made_of : Action → Bool → Arbitrated
made_of a valid = apply_feasibility (showing Reason.RcLost a (Some 1000)) valid

-- ---- energy

abbrev pub place : Float → Float → Float → Vec3
place n e d = record { n = n; e = e; d = d }

-- the bits of a number
abbrev pub bits : ℕ → Float
bits n = of_bits binary32 n

-- ---- configurations

-- the rule of a number is kept among the first k
abbrev pub keep : {A : Type 0} → ℕ → ℕ → A → A → A
keep k i good bad = cond (leb i k) good bad

-- the first k rules are kept, and all after them are broken: no cells, no capacity, an infinite reserve, a speed of 0, a power below 0, low at warn, a
-- duration of 0, home outside, h_rtl too high; at 10 no hand controller is required either
abbrev pub keeping : ℕ → Config
keeping k =
    record {
      cell_count = keep k 1 4 0;
      usable_capacity_wh = keep k 2 (whole_number 40) (whole_number 0);
      rc_required = leb k 9;
      pos_fresh_ms = default_config.pos_fresh_ms;
      gps_fresh_ms = default_config.gps_fresh_ms;
      status_fresh_ms = default_config.status_fresh_ms;
      battery_fresh_ms = default_config.battery_fresh_ms;
      recovery_hold_ms = default_config.recovery_hold_ms;
      gcs_warn_ms = default_config.gcs_warn_ms;
      gcs_hold_ms = default_config.gcs_hold_ms;
      gcs_rtl_ms = default_config.gcs_rtl_ms;
      gcs_clear_ms = default_config.gcs_clear_ms;
      gcs_clear_hold_ms = default_config.gcs_clear_hold_ms;
      rc_lost_set_ms = default_config.rc_lost_set_ms;
      rc_lost_clear_ms = default_config.rc_lost_clear_ms;
      gps_degraded_set_ms = default_config.gps_degraded_set_ms;
      gps_degraded_clear_ms = default_config.gps_degraded_clear_ms;
      gps_lost_set_ms = default_config.gps_lost_set_ms;
      gps_lost_clear_ms = default_config.gps_lost_clear_ms;
      ekf_unhealthy_set_ms = default_config.ekf_unhealthy_set_ms;
      ekf_unhealthy_clear_ms = default_config.ekf_unhealthy_clear_ms;
      fence_approach_m = default_config.fence_approach_m;
      fence_approach_clear_m = default_config.fence_approach_clear_m;
      fence_breach_set_ms = default_config.fence_breach_set_ms;
      fence_breach_clear_m = default_config.fence_breach_clear_m;
      fence_breach_clear_ms = default_config.fence_breach_clear_ms;
      alt_max_clear_m = default_config.alt_max_clear_m;
      alt_max_set_ms = default_config.alt_max_set_ms;
      alt_max_clear_hold_ms = default_config.alt_max_clear_hold_ms;
      alt_min_home_radius_m = default_config.alt_min_home_radius_m;
      alt_min_set_ms = default_config.alt_min_set_ms;
      alt_min_clear_m = default_config.alt_min_clear_m;
      alt_min_clear_ms = default_config.alt_min_clear_ms;
      stale_battery_clear_ms = default_config.stale_battery_clear_ms;
      battery_warn_pct = default_config.battery_warn_pct;
      battery_warn_clear_pct = default_config.battery_warn_clear_pct;
      battery_warn_set_ms = default_config.battery_warn_set_ms;
      battery_warn_clear_ms = default_config.battery_warn_clear_ms;
      battery_low_pct = keep k 6 (whole_number 20) (whole_number 30);
      battery_low_clear_pct = default_config.battery_low_clear_pct;
      battery_low_set_ms = default_config.battery_low_set_ms;
      battery_low_clear_ms = default_config.battery_low_clear_ms;
      battery_critical_pct = default_config.battery_critical_pct;
      battery_critical_v_per_cell = default_config.battery_critical_v_per_cell;
      battery_critical_set_ms = default_config.battery_critical_set_ms;
      energy_marginal_wh = default_config.energy_marginal_wh;
      energy_marginal_clear_wh = default_config.energy_marginal_clear_wh;
      energy_marginal_set_ms = default_config.energy_marginal_set_ms;
      energy_marginal_clear_ms = default_config.energy_marginal_clear_ms;
      energy_infeasible_set_ms = default_config.energy_infeasible_set_ms;
      invalid_input_clear_ms = default_config.invalid_input_clear_ms;
      disarm_hold_ms = keep k 7 2000 0;
      v_cruise = default_config.v_cruise;
      p_cruise = default_config.p_cruise;
      k_wind = default_config.k_wind;
      v_climb = keep k 4 (whole_number 2) (whole_number 0);
      p_climb = default_config.p_climb;
      v_desc = default_config.v_desc;
      p_desc = keep k 5 (whole_number 300) (neg (whole_number 1));
      h_rtl = keep k 9 (whole_number 30) (whole_number 121);
      reserve_wh = keep k 3 (whole_number 8) (bits 0x7F80_0000);
      v_max = default_config.v_max;
      keeps_raised = default_config.keeps_raised;
    }

abbrev pub judged_at : ℕ → Result ⊤ ConfigError
judged_at k = check_config (keeping k) (keep k 8 true false) (whole_number 5) (whole_number 120)

-- ---- corners

-- the first three lie on a line, and the fourth is a dent: a flat turn, and turns of both signs
abbrev pub flat_and_dented : List Point2
flat_and_dented =
    at (whole_number 0) (whole_number 0)
    ∷ at (whole_number 0) (whole_number 100)
    ∷ at (whole_number 0) (whole_number 200)
    ∷ at (whole_number 50) (whole_number 100)
    ∷ at (whole_number 100) (whole_number 200)
    ∷ at (whole_number 100) (whole_number 0)
    ∷ []

-- ---- states of the supervisor

abbrev pub since : ℕ → Timer
since t = record { since_ms = Some t }

-- every other timer runs, both latches are set, and some of what a kind 11 configuration keeps is raised
abbrev pub running : Option ℕ → TriggerState
running link =
    record {
      battery_critical_latched = true;
      energy_infeasible_latched = true;
      gcs_clear_timer = record { since_ms = link };
      rc_clear_timer = since 1;
      gps_deg_set = since 2;
      gps_deg_clear = since 3;
      gps_lost_set = since 4;
      gps_lost_clear = since 5;
      ekf_set = since 6;
      ekf_clear = since 7;
      fence_breach_set = since 8;
      fence_breach_clear = since 9;
      alt_max_set = since 10;
      alt_max_clear = since 11;
      alt_min_set = since 12;
      alt_min_clear = since 13;
      stale_bat_clear = since 14;
      bat_warn_set = since 15;
      bat_warn_clear = since 16;
      bat_low_set = since 17;
      bat_low_clear = since 18;
      bat_crit_set = since 19;
      energy_marg_set = since 20;
      energy_marg_clear = since 21;
      energy_infeas_set = since 22;
      invalid_clear = since 23;
      invalid_active = true;
      rc_lost_set = since 24;
      gcs_stage = 2;
      raised = record { gps_degraded = true; gps_lost = false; ekf_unhealthy = true; fence_breach = false; altitude_min = true; battery_warn = false; battery_low = true; energy_rtl_marginal = false };
    }

abbrev pub shown_last : Action → Reason → Option ℕ → ArbiterState
shown_last a r recovery = record { prev_output = a; prev_reason = r; recovery_since_ms = recovery }

-- a sample is stored, or none
abbrev pub stored : GlitchState
stored = record { last_accepted = sample_of 80; reject_streak = 1 }

abbrev pub nothing : GlitchState
nothing = record { last_accepted = None; reject_streak = 0 }

-- the last sound reading was 100
abbrev pub after100 : TriggerState → ArbiterState → Option ℕ → GlitchState → ℕ → ℕ → Supervisor
after100 triggers arbiter hold glitch epoch streak =
    record {
      triggers = triggers;
      arbiter = arbiter;
      disarm = record { hold_since_ms = hold };
      glitch = glitch;
      last_now = Some 100;
      epoch_start = epoch;
      backwards_streak = streak;
      initialized = true;
    }

-- Warn was shown, all is under way, and so many faults in a row
abbrev pub under_way : ℕ → Supervisor
under_way streak = after100 (running (Some 90)) (shown_last Action.Warn Reason.BatteryWarn (Some 95)) (Some 99) stored 7 streak

-- nothing is read but the clock, at 50, and armed
abbrev pub reading : Option (Stamped Bool) → Telemetry
reading armed =
    record {
      now_ms = 50;
      position = None;
      gps = None;
      battery = record { voltage_v = None; percent = None; remaining_wh = None };
      gcs_heartbeat_ms = None;
      armed = armed;
      landed = None;
      rc_ok = None;
      ekf_ok = None;
    }

-- a step at 50, which is one more fault
abbrev pub fault_after : ℕ → Option (Stamped Bool) → Stepped
fault_after streak armed = step (base_settings default_config) (under_way streak) (fed_at (fence_site default_fence) (reading armed))

pub record SmallInstances : Type 0 where
  -- "Confirmed disarm is a fresh armed reading of false."
  pub disarm_by_fresh_false : disarm_by (Some (record { t_ms = 1000; value = false })) ≡ true
  pub no_disarm_by_stale_false : disarm_by (Some (record { t_ms = 999; value = false })) ≡ false
  pub no_disarm_by_fresh_true : disarm_by (Some (record { t_ms = 1000; value = true })) ≡ false
  pub no_disarm_by_stale_true : disarm_by (Some (record { t_ms = 999; value = true })) ≡ false
  pub no_disarm_by_none : disarm_by None ≡ false
  -- position_valid: `is_fresh(now_ms, pos.t_ms, cfg.pos_fresh_ms)` and `is_fresh(now_ms, e.t_ms, cfg.status_fresh_ms) && e.value`; either half alone is none
  pub valid_by_both : valid_by (sample_of 1500) (Some (record { t_ms = 1000; value = true })) ≡ true
  pub not_by_position_alone : valid_by (sample_of 1500) None ≡ false
  pub not_by_ekf_false : valid_by (sample_of 1500) (Some (record { t_ms = 1000; value = false })) ≡ false
  pub not_by_ekf_stale : valid_by (sample_of 1500) (Some (record { t_ms = 999; value = true })) ≡ false
  pub not_by_ekf_alone : valid_by None (Some (record { t_ms = 1000; value = true })) ≡ false
  pub not_by_position_stale : valid_by (sample_of 1499) (Some (record { t_ms = 1000; value = true })) ≡ false
  -- disarm.rs: `fresh_landed(now_ms, t.landed, cfg) == Some(LandedState::OnGround)`
  pub open_on_ground : gate_on LandedState.OnGround ≡ true
  pub shut_in_landing : gate_on LandedState.Landing ≡ false
  pub shut_in_takeoff : gate_on LandedState.Takeoff ≡ false
  pub shut_in_air : gate_on LandedState.InAir ≡ false
  pub shut_in_undefined : gate_on LandedState.Undefined ≡ false
  pub shut_by_stale_ground : gate_by (Some (record { t_ms = 1000; value = true })) (Some (record { t_ms = 999; value = LandedState.OnGround })) Action.Land ≡ false
  pub shut_by_no_ground : gate_by (Some (record { t_ms = 1000; value = true })) None Action.Land ≡ false
  -- disarm.rs: `Some(a) if is_fresh(now_ms, a.t_ms, cfg.status_fresh_ms) && a.value`
  pub shut_by_disarmed : gate_by (Some (record { t_ms = 1000; value = false })) (Some (record { t_ms = 1000; value = LandedState.OnGround })) Action.Land ≡ false
  pub shut_by_stale_armed : gate_by (Some (record { t_ms = 999; value = true })) (Some (record { t_ms = 1000; value = LandedState.OnGround })) Action.Land ≡ false
  -- "The gate uses the requested one": disarm.rs: `requested.rank() < Action::Land.rank()`
  pub shut_by_return : gate_by (Some (record { t_ms = 1000; value = true })) (Some (record { t_ms = 1000; value = LandedState.OnGround })) Action.ReturnToLaunch ≡ false
  -- "FenceError in declared order, TooFewVertices to BadAltitudes | 10 to 18"
  pub fence_refusals :
      map fence_error_number
      (FenceError.TooFewVertices ∷ FenceError.TooManyVertices ∷ FenceError.NonFinite ∷ FenceError.OutOfEnvelope ∷ FenceError.DuplicateVertex
      ∷ FenceError.CollinearEdge ∷ FenceError.NotConvex ∷ FenceError.AreaTooSmall ∷ FenceError.BadAltitudes ∷ [])
      ≡ 10 ∷ 11 ∷ 12 ∷ 13 ∷ 14 ∷ 15 ∷ 16 ∷ 17 ∷ 18 ∷ []
  -- document 02, L5: "Turned away: 33 where the sign changes more than twice"
  pub once_round_refusal : fence_error_number FenceError.NotOnceRound ≡ 33
  -- "ConfigError after Fence in declared order, HomeOutsideFence to DurationOutOfRange | 20 to 28"
  pub config_refusals :
      map config_error_number
      (ConfigError.HomeOutsideFence ∷ ConfigError.RtlAltOutsideFence ∷ ConfigError.NonFiniteParam ∷ ConfigError.NonPositiveSpeed ∷ ConfigError.NegativePower
      ∷ ConfigError.BadCellCount ∷ ConfigError.BadCapacity ∷ ConfigError.BadThresholdOrder ∷ ConfigError.DurationOutOfRange ∷ [])
      ≡ 20 ∷ 21 ∷ 22 ∷ 23 ∷ 24 ∷ 25 ∷ 26 ∷ 27 ∷ 28 ∷ []
  -- "Order: cells 1 to 14; capacity; eight finite values; speeds; powers; percentages; four durations 1 to 600,000; home; h_rtl."
  pub config_order :
      map judged_at (0 ∷ 1 ∷ 2 ∷ 3 ∷ 4 ∷ 5 ∷ 6 ∷ 7 ∷ 8 ∷ 9 ∷ [])
      ≡ Err ConfigError.BadCellCount
      ∷ Err ConfigError.BadCapacity
      ∷ Err ConfigError.NonFiniteParam
      ∷ Err ConfigError.NonPositiveSpeed
      ∷ Err ConfigError.NegativePower
      ∷ Err ConfigError.BadThresholdOrder
      ∷ Err ConfigError.DurationOutOfRange
      ∷ Err ConfigError.HomeOutsideFence
      ∷ Err ConfigError.RtlAltOutsideFence
      ∷ (Ok tt)
      ∷ []
  -- "Float operations in the Rust's order": `r - rtl_wh - cfg.reserve_wh`; any other order gives 4109D555. Fifty metres from home and ten up, 20 Wh left.
  pub energy_away :
      rtl_energy default_config (place (whole_number 30) (whole_number 40) (neg (whole_number 10))) (Some (whole_number 20))
      ≡ record {
        rtl_wh = bits 0x4058_AAAB;
        land_wh = bits 0x3F0E_38E4;
        reserve_wh = whole_number 8;
        remaining_wh = Some (whole_number 20);
        margin_wh = Some (bits 0x4109_D556);
        insufficient_for_landing = false;
      }
  -- "Altitude is −d, so d = +0 gives −0", and of the listing "rtl_wh 55 55 55 40; land_wh 00 00 00 80; reserve 00 00 00 41"
  pub energy_at_home :
      rtl_energy default_config (place (whole_number 0) (whole_number 0) (whole_number 0)) None
      ≡ record {
        rtl_wh = bits 0x4055_5555;
        land_wh = bits 0x8000_0000;
        reserve_wh = bits 0x4100_0000;
        remaining_wh = None;
        margin_wh = None;
        insufficient_for_landing = false;
      }
  -- "puts Land for Hold or ReturnToLaunch", for lack of position; arbiter.rs: `(Action::Land, Reason::PositionInvalid)`
  pub hold_without_position : made_of Action.Hold false ≡ showing Reason.PositionInvalid Action.Land None
  pub return_without_position : made_of Action.ReturnToLaunch false ≡ showing Reason.PositionInvalid Action.Land None
  pub nominal_without_position : made_of Action.Nominal false ≡ showing Reason.RcLost Action.Nominal (Some 1000)
  pub warn_without_position : made_of Action.Warn false ≡ showing Reason.RcLost Action.Warn (Some 1000)
  pub land_without_position : made_of Action.Land false ≡ showing Reason.RcLost Action.Land (Some 1000)
  pub hold_with_position : made_of Action.Hold true ≡ showing Reason.RcLost Action.Hold (Some 1000)
  pub return_with_position : made_of Action.ReturnToLaunch true ≡ showing Reason.RcLost Action.ReturnToLaunch (Some 1000)
  -- "Wanted action: the requested one, or Land under a latch, battery named first."
  pub wanted_unlatched : wanted (request Reason.RcLost Action.ReturnToLaunch) false false ≡ request Reason.RcLost Action.ReturnToLaunch
  pub wanted_by_battery : wanted (request Reason.RcLost Action.ReturnToLaunch) true false ≡ request Reason.BatteryCritical Action.Land
  pub wanted_by_energy : wanted (request Reason.RcLost Action.ReturnToLaunch) false true ≡ request Reason.EnergyRtlInfeasible Action.Land
  pub wanted_by_both : wanted (request Reason.RcLost Action.ReturnToLaunch) true true ≡ request Reason.BatteryCritical Action.Land
  -- "A clock fault leaves last_now as it was", "and moves no timer"; "Every fault resets the disarm hold."
  pub second_fault_leaves :
      (fault_after 1 None).supervisor
      ≡ after100 (running (Some 90)) (shown_last Action.Warn Reason.BatteryWarn (Some 95)) None stored 7 2
  -- "also at every third in a row, which clears the link timer, recovery start and filter, sets epoch_start to the reading and begins the count anew"
  pub third_fault_leaves :
      (fault_after 2 None).supervisor
      ≡ after100 (running None) (shown_last Action.Warn Reason.BatteryWarn None) None nothing 50 0
  -- "It answers Nominal even on a fault, and resets neither filter nor clock."
  pub disarm_leaves :
      (fault_after 1 (Some (record { t_ms = 50; value = false }))).supervisor
      ≡ after100 fresh_triggers (shown_last Action.Nominal Reason.None None) None stored 7 2
  pub disarm_answers : (fault_after 1 (Some (record { t_ms = 50; value = false }))).decision.action ≡ Action.Nominal
  pub disarm_names_fault : (fault_after 1 (Some (record { t_ms = 50; value = false }))).decision.clock_fault ≡ true
  -- "highest rank, then highest display_priority": the battery's is 18 and the energy's 17, where their indices are 16 and 18
  pub names_battery :
      requested_action (set_request (set_request empty_set Reason.BatteryCritical Action.Land) Reason.EnergyRtlInfeasible Action.Land).reqs
      ≡ request Reason.BatteryCritical Action.Land
  -- "any turn under 0.0001 in size; mixed turn signs", in this order
  pub flat_before_convex : polygon_fault false 6 flat_and_dented ≡ Err FenceError.CollinearEdge
  -- "Inside means at least 0."
  pub inside_at_zero : contains (ring_of default_fence.poly) (at (whole_number 500) (whole_number 0)) ≡ true
  -- document 02, L1: "At equal distances the lower number is given": home is 500 m from all four sides
  pub lower_side : (nearest (ring_of default_fence.poly) (at (whole_number 0) (whole_number 0))).side ≡ 0
  -- "below 1e-6 length gives −1": a side of 1e-7 m; by its line the point would be 5 m inside
  pub short_side : edge_signed_distance (at (neg (whole_number 5)) (whole_number 0)) (at (whole_number 0) (whole_number 0), at (whole_number 0) (bits 0x33D6_BF95)) ≡ neg (whole_number 1)
  -- triggers.rs: `.map(|hb| age_ms(now_ms, hb).unwrap_or(u32::MAX))`: a heartbeat from ahead is as good as none
  pub heartbeat_ahead : gcs_age wrapping 1000 (Some 1001) ≡ 0xFFFF_FFFF
  pub heartbeat_none : gcs_age wrapping 1000 None ≡ 0xFFFF_FFFF
  -- triggers.rs: `let rc_bad = cfg.rc_required && ..`
  pub rc_required : (rc_link wrapping cleared cleared 1000 false (keeping 9)).lost ≡ true
  pub rc_not_required : (rc_link wrapping cleared cleared 1000 false (keeping 10)).lost ≡ false
  -- "Latches last until confirmed disarm.": the margin is good again
  pub energy_latch_stays : (energy wrapping (running None) 1000 (Some (whole_number 20)) default_config).latched ≡ true
  pub energy_latch_asks : (energy wrapping (running None) 1000 (Some (whole_number 20)) default_config).infeasible ≡ true
  -- "age absent or over 2000": at 2000 the jump is still measured
  pub gap_of_2000 : far_at 3000 ≡ None
  pub gap_of_2001 : far_at 3001 ≡ Some (north_of 3001 1000)
