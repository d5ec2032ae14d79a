-- What a state at other instants is written as. Assumes nothing.
use mathlib.Core.Path.{◌≡◌}
use mathlib.Core.List.{◌++◌}
use Rattle.supervisor.specs.declared.Supervisor.{Supervisor}
use Rattle.wire.specs.Fields.{u8_at, le_bytes, le8, le16, le32, le_f32, le_flag}
use Rattle.wire.specs.Frame.{frame_head}
use Rattle.options.specs.Options.{le_option_u32}
use Rattle.options.specs.Position.{le_vec3, le_option_position}
use Rattle.options.specs.Enums.{le_action, le_reason}
use Rattle.frame_state.specs.StateFrame.{le_timer, le_links, le_fence, le_battery, le_input, le_triggers, le_arbiter, state_frame}
use Rattle.instants.specs.Retimed.{gcs_clear, rc_clear, gps_deg_set, gps_deg_clear, gps_lost_set, gps_lost_clear, ekf_set, ekf_clear, breach_set, breach_clear, alt_max_set, alt_max_clear, alt_min_set, alt_min_clear, stale_clear, warn_set, warn_clear, low_set, low_clear, crit_set, marg_set, marg_clear, infeas_set, invalid_clear, rc_set, Instants, triggers_at, supervisor_at}
use Rattle.instants.specs.Own.{instants_of}
use Rattle.instants.specs.Listed.{listed}
use Rattle.frame_wide.specs.Resized.{widened}
use Rattle.frame_wide.specs.WideState.{state_gaps, wide_state_frame}
use Rattle.frame_wide_trips.specs.Claim.{wide_at}
use Rattle.frame_wide_trips.proofs.Readings.{instant_written, sample_written}

pub written : (x : Supervisor) (i : Instants) → wide_state_frame (supervisor_at i x) ≡ wide_at i x
unfolding wide_state_frame supervisor_at triggers_at instants_of listed widened state_gaps state_frame frame_head le_triggers le_links le_fence le_battery le_input le_timer le_arbiter le_action le_reason le_option_u32 le_option_position le_vec3 le_f32 le8 le16 le32 le_bytes le_flag u8_at
written x i =
    let t = x.triggers in
    λ j.
    frame_head 10 304
    ++ (le_flag t.battery_critical_latched ++ (le_flag t.energy_infeasible_latched
    ++ (instant_written (i.timer gcs_clear) t.gcs_clear_timer.since_ms j
    ++ (instant_written (i.timer rc_clear) t.rc_clear_timer.since_ms j
    ++ (instant_written (i.timer gps_deg_set) t.gps_deg_set.since_ms j
    ++ (instant_written (i.timer gps_deg_clear) t.gps_deg_clear.since_ms j
    ++ (instant_written (i.timer gps_lost_set) t.gps_lost_set.since_ms j
    ++ (instant_written (i.timer gps_lost_clear) t.gps_lost_clear.since_ms j
    ++ (instant_written (i.timer ekf_set) t.ekf_set.since_ms j
    ++ (instant_written (i.timer ekf_clear) t.ekf_clear.since_ms j
    ++ (instant_written (i.timer breach_set) t.fence_breach_set.since_ms j
    ++ (instant_written (i.timer breach_clear) t.fence_breach_clear.since_ms j
    ++ (instant_written (i.timer alt_max_set) t.alt_max_set.since_ms j
    ++ (instant_written (i.timer alt_max_clear) t.alt_max_clear.since_ms j
    ++ (instant_written (i.timer alt_min_set) t.alt_min_set.since_ms j
    ++ (instant_written (i.timer alt_min_clear) t.alt_min_clear.since_ms j
    ++ (instant_written (i.timer stale_clear) t.stale_bat_clear.since_ms j
    ++ (instant_written (i.timer warn_set) t.bat_warn_set.since_ms j
    ++ (instant_written (i.timer warn_clear) t.bat_warn_clear.since_ms j
    ++ (instant_written (i.timer low_set) t.bat_low_set.since_ms j
    ++ (instant_written (i.timer low_clear) t.bat_low_clear.since_ms j
    ++ (instant_written (i.timer crit_set) t.bat_crit_set.since_ms j
    ++ (instant_written (i.timer marg_set) t.energy_marg_set.since_ms j
    ++ (instant_written (i.timer marg_clear) t.energy_marg_clear.since_ms j
    ++ (instant_written (i.timer infeas_set) t.energy_infeas_set.since_ms j
    ++ (instant_written (i.timer invalid_clear) t.invalid_clear.since_ms j
    ++ (le_flag t.invalid_active
    ++ (instant_written (i.timer rc_set) t.rc_lost_set.since_ms j
    ++ (le8 t.gcs_stage
    ++ (le_action x.arbiter.prev_output ++ (le_reason x.arbiter.prev_reason
    ++ (instant_written i.recovery x.arbiter.recovery_since_ms j
    ++ (instant_written i.gate x.disarm.hold_since_ms j
    ++ (sample_written i.stored x.glitch.last_accepted j
    ++ (le8 x.glitch.reject_streak
    ++ (instant_written i.last x.last_now j
    ++ (le_bytes 8 i.epoch
    ++ (le8 x.backwards_streak
    ++ le_flag x.initialized))))))))))))))))))))))))))))))))))))))
