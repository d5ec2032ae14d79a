-- `frame_config::put_flight` meets its contract: the calls' contracts, one after the other, are a run of stores. Assumes nothing.
use Prim.Native.Nat.{ℕ}
use mathlib.Core.Path.{◌≡◌, ◌∙◌, refl}
use mathlib.Core.List.{List, [], ◌∷◌}
use lib.Seq.{sets}
use Rattle.wire.specs.Fields.{le8, le_flag, le_bytes, le32, le_f32}
use Rattle.wire.specs.Cell.{bytes_of}
use Rattle.wire.proofs.Stores.{Piece, put, after, done, into, ran}
use Rattle.config.specs.declared.Config.{Config}
use Rattle.frame_config.specs.ConfigFrame.{flight_cells}
use Rattle.frame_config.proofs.put_flight.Goals as goal

abbrev pieces : Config → List Piece
pieces c =
    put 206 (le_f32 c.v_cruise) ∷
    put 210 (le_f32 c.p_cruise) ∷
    put 214 (le_f32 c.k_wind) ∷
    put 218 (le_f32 c.v_climb) ∷
    put 222 (le_f32 c.p_climb) ∷
    put 226 (le_f32 c.v_desc) ∷
    put 230 (le_f32 c.p_desc) ∷
    put 234 (le_f32 c.h_rtl) ∷
    put 238 (le_f32 c.reserve_wh) ∷
    put 242 (le_f32 c.v_max) ∷
    []

flat : (l : List ℕ) (c : Config) → after l (pieces c) ≡ sets l 206 (bytes_of (flight_cells c))
unfolding flight_cells le8 le_flag le_bytes le32 le_f32
flat l c = refl

pub returns : goal.returns
returns c =
    let a = c.args in
    ran a.s.now (pieces a.c) _
    (into c.put_f32.ensures
    (into c.put_f32-2.ensures
    (into c.put_f32-3.ensures
    (into c.put_f32-4.ensures
    (into c.put_f32-5.ensures
    (into c.put_f32-6.ensures
    (into c.put_f32-7.ensures
    (into c.put_f32-8.ensures
    (into c.put_f32-9.ensures
    (into c.put_f32-10.ensures
    done))))))))))
    ∙ flat a.s.now a.c
