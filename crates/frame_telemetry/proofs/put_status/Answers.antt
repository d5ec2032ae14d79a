-- `frame_telemetry::put_status` meets its contract. The calls' contracts, one after the other, are a run of stores. Assumes nothing.
use Prim.Native.Nat.{ℕ}
use mathlib.Core.Path.{◌≡◌, ◌∙◌, refl}
use mathlib.Core.List.{List, [], ◌∷◌}
use lib.Seq.{sets}
use Rattle.wire.specs.Cell.{bytes_of}
use Rattle.wire.proofs.Stores.{Piece, put, after, done, into, ran}
use Rattle.wire.specs.Fields.{le8, le_flag, le_bytes, le32}
use Rattle.options.specs.Options.{le_option_u32}
use Rattle.types.specs.declared.Telemetry.{Telemetry}
use Rattle.frame_telemetry.specs.Readings.{stamped_bool_cells, stamped_landed_cells}
use Rattle.frame_telemetry.specs.TelemetryFrame.{status_cells}
use Rattle.frame_telemetry.proofs.put_status.Goals as goal

abbrev pieces : Telemetry → List Piece
pieces t =
    put 77 (le_option_u32 t.gcs_heartbeat_ms) ∷
    put 82 (bytes_of (stamped_bool_cells t.armed)) ∷
    put 88 (bytes_of (stamped_landed_cells t.landed)) ∷
    put 94 (bytes_of (stamped_bool_cells t.rc_ok)) ∷
    put 100 (bytes_of (stamped_bool_cells t.ekf_ok)) ∷
    []

flat : (l : List ℕ) (t : Telemetry) → after l (pieces t) ≡ sets l 77 (bytes_of (status_cells t))
unfolding status_cells le_option_u32 le8 le_flag le_bytes le32
flat l t = refl

pub returns : goal.returns
unfolding le_option_u32
returns c =
    let a = c.args in
    ran a.s.now (pieces a.t) _
    (into c.put_option.ensures
    (into c.put_stamped.ensures
    (into c.put_stamped-2.ensures
    (into c.put_stamped-3.ensures
    (into c.put_stamped-4.ensures
    done)))))
    ∙ flat a.s.now a.t
