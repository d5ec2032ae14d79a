-- `frame_telemetry_trips::written_and_read` meets its contract. What is known of the floats and numbers of a Telemetry comes from its type. Assumes nothing.
use Rattle.std.specs.Prelude.{Option, Some, None, ℕ, Float, Bool, unwrap_or, Ok}
use Prim.Native.Nat.{◌<◌, ◌^◌}
use mathlib.Core.Path.{◌≡◌, ◌∙◌, ap}
use mathlib.Core.List.{List, ◌++◌, append-nil}
use lib.Dec.{T, lit<}
use lib.ListN.{replicate}
use lib.Ieee.{binary32, fits, of_bits}
use lib.Ieee.Bits.{of_bits-fits}
use mir.Val.{Val}
use denote.Builtin.{u8, u32, f32, bool}
use denote.Shadow.{shadow}
use denote.Floats.{passes}
use Rattle.std.specs.contracts.option.Option.{the_field, the_type}
use Rattle.types.specs.contracts.PositionSample.{the_row as position_row}
use Rattle.types.specs.contracts.GpsSample.{the_row as gps_row}
use Rattle.types.specs.contracts.LandedState.{the_row as landed_row}
use Rattle.types.specs.contracts.Stamped.{the_row as stamped_row}
use Rattle.types.specs.declared.GpsFix.{GpsFix}
use Rattle.types.specs.declared.LandedState.{LandedState}
use Rattle.types.specs.declared.Telemetry.{Telemetry}
use Rattle.types.specs.Numbers.{fix_number, landed_number}
use Rattle.wire.specs.Cell.{Within}
use Rattle.wire.specs.Frame.{check_room, frame_written}
use Rattle.options.specs.Position.{position_cells}
use Rattle.frame_telemetry.specs.Readings.{gps_cells, stamped_f32_cells, stamped_bool_cells, stamped_landed_cells}
use Rattle.frame_telemetry.specs.TelemetryFrame.{read_telemetry, battery_cells, status_cells, telemetry_cells, telemetry_frame}
use Rattle.frame_telemetry.proofs.Size.{size}
use Rattle.frame_telemetry_trips.proofs.Trips.{within_joined, value_back}
use Rattle.frame_telemetry_trips.proofs.written_and_read.Goals as goal
use Rattle.frame_telemetry_trips.proofs.written_and_read.Goals.{Start}
use Rattle.types.specs.declared.Stamped.{Stamped}
use Rattle.types.specs.declared.PositionSample.{PositionSample}
use Rattle.types.specs.declared.GpsSample.{GpsSample}

u8_within : (o : Option ℕ) (v : List Val) → shadow ((the_field u8).row.own_val ((the_type u8).to o) v) → unwrap_or o 0 < 2 ^ 8
u8_within None v h = lit< tt
u8_within (Some n) v h = h.1.1.1.1.0.1

u32_within : (o : Option ℕ) (v : List Val) → shadow ((the_field u32).row.own_val ((the_type u32).to o) v) → unwrap_or o 0 < 2 ^ 32
u32_within None v h = lit< tt
u32_within (Some n) v h = h.1.1.1.1.0.1

f32_within : (o : Option Float) (v : List Val) → shadow ((the_field f32).row.own_val ((the_type f32).to o) v) → T (fits binary32 (unwrap_or o (of_bits binary32 0)))
f32_within None v h = of_bits-fits binary32 0
f32_within (Some x) v h = passes _ h.1.1.1.1.0.1

fix_within : (f : GpsFix) → fix_number f < 2 ^ 8
fix_within GpsFix.None = lit< tt
fix_within GpsFix.Fix2D = lit< tt
fix_within GpsFix.Fix3D = lit< tt

landed_within : (l : LandedState) → landed_number l < 2 ^ 8
landed_within LandedState.Undefined = lit< tt
landed_within LandedState.OnGround = lit< tt
landed_within LandedState.InAir = lit< tt
landed_within LandedState.Takeoff = lit< tt
landed_within LandedState.Landing = lit< tt

position_within : (o : Option PositionSample) (v : List Val) → shadow ((the_field position_row).row.own_val ((the_type position_row).to o) v) → Within (position_cells o)
position_within None v h = let f = of_bits-fits binary32 0 in (lit< tt, (f, (f, (f, (f, (f, (f, tt)))))))
position_within (Some p) v h =
    let q = h.1.1.1.1.0.1.1 in
    let n = q.1.0.1.1 in
    let w = q.1.1.0.1.1 in
    (q.0.1, (passes _ n.0.1, (passes _ n.1.0.1, (passes _ n.1.1.0.1, (passes _ w.0.1, (passes _ w.1.0.1, (passes _ w.1.1.0.1, tt)))))))

gps_within : (o : Option GpsSample) (v : List Val) → shadow ((the_field gps_row).row.own_val ((the_type gps_row).to o) v) → Within (gps_cells o)
gps_within None v h = (lit< tt, (lit< tt, (lit< tt, (of_bits-fits binary32 0, tt))))
gps_within (Some g) v h =
    let q = h.1.1.1.1.0.1.1 in
    (q.0.1, (fix_within g.fix, (u8_within g.sats _ q.1.1.0, (f32_within g.hdop _ q.1.1.1.0, tt))))

stamped_f32_within : (o : Option (Stamped Float)) (v : List Val) → shadow ((the_field (stamped_row f32)).row.own_val ((the_type (stamped_row f32)).to o) v) → Within (stamped_f32_cells o)
stamped_f32_within None v h = (lit< tt, (of_bits-fits binary32 0, tt))
stamped_f32_within (Some r) v h = let q = h.1.1.1.1.0.1.1 in (q.0.1, (passes _ q.1.0.1, tt))

stamped_bool_within : (o : Option (Stamped Bool)) (v : List Val) → shadow ((the_field (stamped_row bool)).row.own_val ((the_type (stamped_row bool)).to o) v) → Within (stamped_bool_cells o)
stamped_bool_within None v h = (lit< tt, tt)
stamped_bool_within (Some r) v h = (h.1.1.1.1.0.1.1.0.1, tt)

stamped_landed_within : (o : Option (Stamped LandedState)) (v : List Val) → shadow ((the_field (stamped_row landed_row)).row.own_val ((the_type (stamped_row landed_row)).to o) v) → Within (stamped_landed_cells o)
stamped_landed_within None v h = (lit< tt, (lit< tt, tt))
stamped_landed_within (Some r) v h = (h.1.1.1.1.0.1.1.0.1, (landed_within r.value, tt))

-- what its type says of each Telemetry
within : (c : Start) → Within (telemetry_cells c.args.t)
unfolding telemetry_cells battery_cells status_cells
within c =
    let t = c.args.t in
    let g = c.well_formed.0.1.1 in
    let g3 = g.1.1.1 in
    let b = g3.0.1.1 in
    let g5 = g3.1.1 in
    let voltage = stamped_f32_within t.battery.voltage_v _ b.0 in
    let percent = stamped_f32_within t.battery.percent _ b.1.0 in
    let remaining = stamped_f32_within t.battery.remaining_wh _ b.1.1.0 in
    let armed = stamped_bool_within t.armed _ g5.0 in
    let landed = stamped_landed_within t.landed _ g5.1.0 in
    let rc = stamped_bool_within t.rc_ok _ g5.1.1.0 in
    let ekf = stamped_bool_within t.ekf_ok _ g5.1.1.1.0 in
    let battery : Within (battery_cells t.battery) = (voltage.0, (voltage.1.0, (percent.0, (percent.1.0, remaining)))) in
    let status : Within (status_cells t) = (u32_within t.gcs_heartbeat_ms _ g3.1.0, (armed.0, (landed.0, (landed.1.0, (rc.0, ekf))))) in (
      g.0.1,
      within_joined (position_cells t.position) (gps_cells t.gps ++ (battery_cells t.battery ++ status_cells t)) (position_within t.position _ g.1.0)
          (within_joined (gps_cells t.gps) (battery_cells t.battery ++ status_cells t) (gps_within t.gps _ g.1.1.0)
          (within_joined (battery_cells t.battery) (status_cells t) battery status)),
    )

room : (t : Telemetry) → frame_written (telemetry_frame t) (replicate 106 0) ≡ telemetry_frame t
unfolding frame_written
room t = simp (size t) (append-nil (telemetry_frame t))

fits_in : (t : Telemetry) → check_room (telemetry_frame t) (replicate 106 0) ≡ Ok tt
unfolding check_room
fits_in t = simp (size t)

pub returns-in_err-write_telemetry : goal.returns-in_err-write_telemetry
returns-in_err-write_telemetry c = let e = fits_in c.args.t in let w = c.write_telemetry.ensures.0 in let r = c.in_err-write_telemetry.was in cc

pub returns : goal.returns
returns c =
    c.read_telemetry.ensures ∙ ap read_telemetry (c.write_telemetry.ensures.1 ∙ room c.args.t) ∙ value_back c.args.t (within c.before.before.before.before.before.before.before)
