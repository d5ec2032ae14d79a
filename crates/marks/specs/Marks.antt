-- Document 02, L7: how each test of the clock that doesn't wrap comes out, and the instants and durations that mark it for the 32-bit step. Assumes nothing.
use Rattle.std.specs.Prelude.{ℕ, ◌-◌, min, Bool, true, false, cond, leb, ltb, Option, Some, None}
use Rattle.types.specs.declared.Telemetry.{Telemetry}
use Rattle.time.specs.Time.{Clock, plain, age, fresh, hold_met}
use Rattle.timers.specs.Timer.{since_or, started}
use Rattle.config.specs.declared.Config.{Config}
use Rattle.triggers.specs.Families.{gcs_age}
use Rattle.supervisor.specs.declared.Supervisor.{Supervisor}
use Rattle.instants.specs.Retimed.{timer_of, hold_of, Instants, Stamps}
use Rattle.instants.specs.Own.{position_stamp, gps_stamp, value_stamp, flag_stamp, landed_stamp}

-- ---- the tests that a step makes of an instant that may be absent

-- a hold, of a timer that starts now where it had not started
abbrev pub held_now : Clock → ℕ → Option ℕ → ℕ → Bool
held_now ck now since hold = hold_met ck now (since_or since now) hold

-- a reading against its limit
abbrev pub fresh_now : Clock → ℕ → Option ℕ → ℕ → Bool
fresh_now ck now None limit = false
fresh_now ck now (Some t) limit = fresh ck now t limit

-- an age against the last sound reading
abbrev pub sound_now : Clock → ℕ → Option ℕ → Bool
sound_now ck now None = true
sound_now ck now (Some last) = started (age ck now last)

-- the stored sample's gap, as far as the filter reads it
abbrev pub up_to2000 : Option ℕ → Option ℕ
up_to2000 None = None
up_to2000 (Some gap) = cond (ltb 2000 gap) None (Some gap)

-- so of a stored sample's stamp
abbrev pub gap_now : Clock → ℕ → Option ℕ → Option ℕ
gap_now ck now None = None
gap_now ck now (Some t) = up_to2000 (age ck now t)

-- ---- the marks

-- the reading that they are tested at
abbrev pub reading : ℕ
reading = 65536

-- a hold that is met has an age of 1; any other has none
abbrev pub held_mark : Bool → ℕ
held_mark met = cond met 65535 65537

-- a fresh stamp, or a sound reading, has an age of 0; any other has none
abbrev pub fresh_mark : Bool → ℕ
fresh_mark ok = cond ok 65536 65537

-- a gap up to 2000 is kept; any other has no age
abbrev pub gap_mark : Option ℕ → ℕ
gap_mark None = 65538
gap_mark (Some gap) = 65536 - gap

-- a limit of the link that the heartbeat's age is above, or not: the marked age is 1, an absent heartbeat's stays 2^32 - 1
abbrev pub above_mark : Bool → ℕ
above_mark above = cond above 0 0xFFFF_FFFF

-- and one that it is within, or not
abbrev pub within_mark : Bool → ℕ
within_mark within = cond within 0xFFFF_FFFF 0

module _ (cfg : Config) (s : Supervisor) (t : Telemetry) where
  -- of a state; nothing tests the epoch
  unfoldable pub marks : Instants
  marks =
      let now = t.now_ms in
      record {
        timer = λ n. held_mark (held_now plain now (timer_of s.triggers n).since_ms (hold_of cfg n));
        recovery = held_mark (held_now plain now s.arbiter.recovery_since_ms cfg.recovery_hold_ms);
        gate = held_mark (held_now plain now s.disarm.hold_since_ms cfg.disarm_hold_ms);
        stored = gap_mark (gap_now plain now (position_stamp s.glitch.last_accepted));
        last = fresh_mark (sound_now plain now s.last_now);
        epoch = 0;
      }

module _ (cfg : Config) (t : Telemetry) where
  -- of telemetry
  unfoldable pub stamp_marks : Stamps
  stamp_marks =
      let now = t.now_ms in
      record {
        now = reading;
        position = fresh_mark (fresh_now plain now (position_stamp t.position) cfg.pos_fresh_ms);
        gps = fresh_mark (fresh_now plain now (gps_stamp t.gps) cfg.gps_fresh_ms);
        voltage = fresh_mark (fresh_now plain now (value_stamp t.battery.voltage_v) cfg.battery_fresh_ms);
        percent = fresh_mark (fresh_now plain now (value_stamp t.battery.percent) cfg.battery_fresh_ms);
        remaining = fresh_mark (fresh_now plain now (value_stamp t.battery.remaining_wh) cfg.battery_fresh_ms);
        heartbeat = 65535;
        armed = fresh_mark (fresh_now plain now (flag_stamp t.armed) cfg.status_fresh_ms);
        landed = fresh_mark (fresh_now plain now (landed_stamp t.landed) cfg.status_fresh_ms);
        rc = fresh_mark (fresh_now plain now (flag_stamp t.rc_ok) cfg.status_fresh_ms);
        ekf = fresh_mark (fresh_now plain now (flag_stamp t.ekf_ok) cfg.status_fresh_ms);
      }

-- of a configuration, by the heartbeat's age: a hold of 0 stays, any other is 1; the link's limits are marked, all else stays
unfoldable pub marked_by : Config → ℕ → Config
marked_by cfg a =
    record {
      cell_count = cfg.cell_count;
      usable_capacity_wh = cfg.usable_capacity_wh;
      rc_required = cfg.rc_required;
      pos_fresh_ms = cfg.pos_fresh_ms;
      gps_fresh_ms = cfg.gps_fresh_ms;
      status_fresh_ms = cfg.status_fresh_ms;
      battery_fresh_ms = cfg.battery_fresh_ms;
      recovery_hold_ms = min cfg.recovery_hold_ms 1;
      gcs_warn_ms = above_mark (ltb cfg.gcs_warn_ms a);
      gcs_hold_ms = above_mark (ltb cfg.gcs_hold_ms a);
      gcs_rtl_ms = above_mark (ltb cfg.gcs_rtl_ms a);
      gcs_clear_ms = within_mark (leb a cfg.gcs_clear_ms);
      gcs_clear_hold_ms = min cfg.gcs_clear_hold_ms 1;
      rc_lost_set_ms = min cfg.rc_lost_set_ms 1;
      rc_lost_clear_ms = min cfg.rc_lost_clear_ms 1;
      gps_degraded_set_ms = min cfg.gps_degraded_set_ms 1;
      gps_degraded_clear_ms = min cfg.gps_degraded_clear_ms 1;
      gps_lost_set_ms = min cfg.gps_lost_set_ms 1;
      gps_lost_clear_ms = min cfg.gps_lost_clear_ms 1;
      ekf_unhealthy_set_ms = min cfg.ekf_unhealthy_set_ms 1;
      ekf_unhealthy_clear_ms = min cfg.ekf_unhealthy_clear_ms 1;
      fence_approach_m = cfg.fence_approach_m;
      fence_approach_clear_m = cfg.fence_approach_clear_m;
      fence_breach_set_ms = min cfg.fence_breach_set_ms 1;
      fence_breach_clear_m = cfg.fence_breach_clear_m;
      fence_breach_clear_ms = min cfg.fence_breach_clear_ms 1;
      alt_max_clear_m = cfg.alt_max_clear_m;
      alt_max_set_ms = min cfg.alt_max_set_ms 1;
      alt_max_clear_hold_ms = min cfg.alt_max_clear_hold_ms 1;
      alt_min_home_radius_m = cfg.alt_min_home_radius_m;
      alt_min_set_ms = min cfg.alt_min_set_ms 1;
      alt_min_clear_m = cfg.alt_min_clear_m;
      alt_min_clear_ms = min cfg.alt_min_clear_ms 1;
      stale_battery_clear_ms = min cfg.stale_battery_clear_ms 1;
      battery_warn_pct = cfg.battery_warn_pct;
      battery_warn_clear_pct = cfg.battery_warn_clear_pct;
      battery_warn_set_ms = min cfg.battery_warn_set_ms 1;
      battery_warn_clear_ms = min cfg.battery_warn_clear_ms 1;
      battery_low_pct = cfg.battery_low_pct;
      battery_low_clear_pct = cfg.battery_low_clear_pct;
      battery_low_set_ms = min cfg.battery_low_set_ms 1;
      battery_low_clear_ms = min cfg.battery_low_clear_ms 1;
      battery_critical_pct = cfg.battery_critical_pct;
      battery_critical_v_per_cell = cfg.battery_critical_v_per_cell;
      battery_critical_set_ms = min cfg.battery_critical_set_ms 1;
      energy_marginal_wh = cfg.energy_marginal_wh;
      energy_marginal_clear_wh = cfg.energy_marginal_clear_wh;
      energy_marginal_set_ms = min cfg.energy_marginal_set_ms 1;
      energy_marginal_clear_ms = min cfg.energy_marginal_clear_ms 1;
      energy_infeasible_set_ms = min cfg.energy_infeasible_set_ms 1;
      invalid_input_clear_ms = min cfg.invalid_input_clear_ms 1;
      disarm_hold_ms = min cfg.disarm_hold_ms 1;
      v_cruise = cfg.v_cruise;
      p_cruise = cfg.p_cruise;
      k_wind = cfg.k_wind;
      v_climb = cfg.v_climb;
      p_climb = cfg.p_climb;
      v_desc = cfg.v_desc;
      p_desc = cfg.p_desc;
      h_rtl = cfg.h_rtl;
      reserve_wh = cfg.reserve_wh;
      v_max = cfg.v_max;
      keeps_raised = cfg.keeps_raised;
    }

abbrev pub marked_config : Config → Telemetry → Config
marked_config cfg t = marked_by cfg (gcs_age plain t.now_ms t.gcs_heartbeat_ms)

-- ---- the marks from instants alone, whether they are there or not

unfoldable pub marks_of : Config → ℕ → Instants → Instants
marks_of cfg now i =
    record {
      timer = λ n. held_mark (hold_met plain now (i.timer n) (hold_of cfg n));
      recovery = held_mark (hold_met plain now i.recovery cfg.recovery_hold_ms);
      gate = held_mark (hold_met plain now i.gate cfg.disarm_hold_ms);
      stored = gap_mark (up_to2000 (age plain now i.stored));
      last = fresh_mark (started (age plain now i.last));
      epoch = 0;
    }

unfoldable pub stamp_marks_of : Config → Stamps → Stamps
stamp_marks_of cfg j =
    let now = j.now in
    record {
      now = reading;
      position = fresh_mark (fresh plain now j.position cfg.pos_fresh_ms);
      gps = fresh_mark (fresh plain now j.gps cfg.gps_fresh_ms);
      voltage = fresh_mark (fresh plain now j.voltage cfg.battery_fresh_ms);
      percent = fresh_mark (fresh plain now j.percent cfg.battery_fresh_ms);
      remaining = fresh_mark (fresh plain now j.remaining cfg.battery_fresh_ms);
      heartbeat = 65535;
      armed = fresh_mark (fresh plain now j.armed cfg.status_fresh_ms);
      landed = fresh_mark (fresh plain now j.landed cfg.status_fresh_ms);
      rc = fresh_mark (fresh plain now j.rc cfg.status_fresh_ms);
      ekf = fresh_mark (fresh plain now j.ekf cfg.status_fresh_ms);
    }
