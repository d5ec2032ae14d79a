-- `frame_telemetry::put_position` meets its contract. The calls' contracts, one after the other, are a run of stores. Assumes nothing.
use Rattle.std.specs.Prelude.{Some}
use Prim.Native.Nat.{ℕ}
use mathlib.Core.Path.{◌≡◌, ◌∙◌, refl}
use mathlib.Core.List.{List, [], ◌∷◌}
use lib.Seq.{sets}
use Rattle.wire.specs.Cell.{bytes_of}
use Rattle.wire.specs.Fields.{le8, le_flag, le_bytes, le32, le_f32}
use Rattle.wire.proofs.Stores.{Piece, put, after, done, into, ran}
use Rattle.options.specs.Position.{position_cells}
use Rattle.types.specs.declared.PositionSample.{PositionSample}
use Rattle.frame_telemetry.proofs.put_position.Goals as goal

abbrev pieces : PositionSample → List Piece
pieces p =
    put 8 (le8 1) ∷
    put 9 (le32 p.t_ms) ∷
    put 13 (le_f32 p.pos.n) ∷
    put 17 (le_f32 p.pos.e) ∷
    put 21 (le_f32 p.pos.d) ∷
    put 25 (le_f32 p.vel.n) ∷
    put 29 (le_f32 p.vel.e) ∷
    put 33 (le_f32 p.vel.d) ∷
    []

flat : (l : List ℕ) (p : PositionSample) → after l (pieces p) ≡ sets l 8 (bytes_of (position_cells (Some p)))
unfolding le8 le_flag le_bytes le32 le_f32
flat l p = refl

pub returns : goal.returns
returns c =
    let a = c.args in
    ran a.s.now (pieces a.p) _
    (into c.put_u8.ensures
    (into c.put_u32.ensures
    (into c.put_f32.ensures
    (into c.put_f32-2.ensures
    (into c.put_f32-3.ensures
    (into c.put_f32-4.ensures
    (into c.put_f32-5.ensures
    (into c.put_f32-6.ensures
    done))))))))
    ∙ flat a.s.now a.p
