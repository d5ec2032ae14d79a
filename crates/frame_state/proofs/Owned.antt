-- What a function that has a state learns of its values: each number and float is within its type. Assumes nothing.
use Rattle.std.specs.Prelude.{Option, Some, None, ℕ, unwrap_or}
use Prim.Native.Nat.{◌<◌, ◌^◌}
use mathlib.Core.List.{List}
use lib.Dec.{lit<}
use lib.Ieee.{binary32}
use lib.Ieee.Bits.{of_bits-fits}
use mir.Val.{Val}
use denote.Builtin.{u32}
use denote.Shadow.{shadow}
use denote.Floats.{passes}
use Rattle.std.specs.contracts.option.Option.{the_field, the_type}
use Rattle.types.specs.contracts.PositionSample.{the_row as position_row}
use Rattle.triggers.specs.declared.TriggerState.{TriggerState}
use Rattle.triggers.specs.contracts.TriggerState.{the_field as triggers_field, the_type as triggers_type}
use Rattle.supervisor.specs.declared.Supervisor.{Supervisor}
use Rattle.supervisor.specs.contracts.Supervisor.{the_field as state_field, the_type as state_type}
use Rattle.wire.specs.Cell.{Within}
use Rattle.options.specs.Position.{position_cells}
use Rattle.frame_state.specs.StateFrame.{timer_cells, Typed}
use Rattle.types.specs.declared.PositionSample.{PositionSample}

option_u32 : (o : Option ℕ) (v : List Val) → shadow ((the_field u32).row.own_val ((the_type u32).to o) v) → unwrap_or o 0 < 2 ^ 32
option_u32 None v h = lit< tt
option_u32 (Some n) v h = h.1.1.1.1.0.1

option_position : (o : Option PositionSample) (v : List Val) → shadow ((the_field position_row).row.own_val ((the_type position_row).to o) v) → Within (position_cells o)
option_position None v h = let z = of_bits-fits binary32 0 in (lit< tt, (z, (z, (z, (z, (z, (z, tt)))))))
option_position (Some p) v h =
    let q = h.1.1.1.1.0.1.1 in
    let n = q.1.0.1.1 in
    let w = q.1.1.0.1.1 in
    (q.0.1, (passes _ n.0.1, (passes _ n.1.0.1, (passes _ n.1.1.0.1, (passes _ w.0.1, (passes _ w.1.0.1, (passes _ w.1.1.0.1, tt)))))))

owned_timers : (t : TriggerState) (v : List Val) → shadow (triggers_field.row.own_val (triggers_type.to t) v) → Within (timer_cells t)
owned_timers t v h =
    let g0 = h.1.1 in
    let g1 = g0.1 in
    let g2 = g1.1 in
    let g3 = g2.1 in
    let g4 = g3.1 in
    let g5 = g4.1 in
    let g6 = g5.1 in
    let g7 = g6.1 in
    let g8 = g7.1 in
    let g9 = g8.1 in
    let g10 = g9.1 in
    let g11 = g10.1 in
    let g12 = g11.1 in
    let g13 = g12.1 in
    let g14 = g13.1 in
    let g15 = g14.1 in
    let g16 = g15.1 in
    let g17 = g16.1 in
    let g18 = g17.1 in
    let g19 = g18.1 in
    let g20 = g19.1 in
    let g21 = g20.1 in
    let g22 = g21.1 in
    let g23 = g22.1 in
    let g24 = g23.1 in
    let g25 = g24.1 in
    let g26 = g25.1 in
    let g27 = g26.1 in (
      option_u32 t.gcs_clear_timer.since_ms _ g2.0.1.1.0,
      (
        option_u32 t.rc_clear_timer.since_ms _ g3.0.1.1.0,
        (
          option_u32 t.gps_deg_set.since_ms _ g4.0.1.1.0,
          (
            option_u32 t.gps_deg_clear.since_ms _ g5.0.1.1.0,
            (
              option_u32 t.gps_lost_set.since_ms _ g6.0.1.1.0,
              (
                option_u32 t.gps_lost_clear.since_ms _ g7.0.1.1.0,
                (
                  option_u32 t.ekf_set.since_ms _ g8.0.1.1.0,
                  (
                    option_u32 t.ekf_clear.since_ms _ g9.0.1.1.0,
                    (
                      option_u32 t.fence_breach_set.since_ms _ g10.0.1.1.0,
                      (
                        option_u32 t.fence_breach_clear.since_ms _ g11.0.1.1.0,
                        (
                          option_u32 t.alt_max_set.since_ms _ g12.0.1.1.0,
                          (
                            option_u32 t.alt_max_clear.since_ms _ g13.0.1.1.0,
                            (
                              option_u32 t.alt_min_set.since_ms _ g14.0.1.1.0,
                              (
                                option_u32 t.alt_min_clear.since_ms _ g15.0.1.1.0,
                                (
                                  option_u32 t.stale_bat_clear.since_ms _ g16.0.1.1.0,
                                  (
                                    option_u32 t.bat_warn_set.since_ms _ g17.0.1.1.0,
                                    (
                                      option_u32 t.bat_warn_clear.since_ms _ g18.0.1.1.0,
                                      (
                                        option_u32 t.bat_low_set.since_ms _ g19.0.1.1.0,
                                        (
                                          option_u32 t.bat_low_clear.since_ms _ g20.0.1.1.0,
                                          (
                                            option_u32 t.bat_crit_set.since_ms _ g21.0.1.1.0,
                                            (
                                              option_u32 t.energy_marg_set.since_ms _ g22.0.1.1.0,
                                              (
                                                option_u32 t.energy_marg_clear.since_ms _ g23.0.1.1.0,
                                                (
                                                  option_u32 t.energy_infeas_set.since_ms _ g24.0.1.1.0,
                                                  (
                                                    option_u32 t.invalid_clear.since_ms _ g25.0.1.1.0,
                                                    (option_u32 t.rc_lost_set.since_ms _ g27.0.1.1.0, tt),
                                                  ),
                                                ),
                                              ),
                                            ),
                                          ),
                                        ),
                                      ),
                                    ),
                                  ),
                                ),
                              ),
                            ),
                          ),
                        ),
                      ),
                    ),
                  ),
                ),
              ),
            ),
          ),
        ),
      ),
    )

pub owned_typed : (x : Supervisor) (v : List Val) → shadow (state_field.row.own_val (state_type.to x) v) → Typed x
owned_typed x v h =
    let g = h.1.1 in
    record {
      timers = owned_timers x.triggers _ g.0;
      recovery = option_u32 x.arbiter.recovery_since_ms _ g.1.0.1.1.1.1.0;
      hold = option_u32 x.disarm.hold_since_ms _ g.1.1.0.1.1.0;
      stored = option_position x.glitch.last_accepted _ g.1.1.1.0.1.1.0;
      last = option_u32 x.last_now _ g.1.1.1.1.0;
      epoch = g.1.1.1.1.1.0.1;
    }
