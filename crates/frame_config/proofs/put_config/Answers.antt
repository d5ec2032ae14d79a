-- `frame_config::put_config` meets its contract: the calls' contracts, one after the other, are a run of stores. Assumes nothing.
use Prim.Native.Nat.{ℕ}
use mathlib.Core.Path.{◌≡◌, ◌∙◌, ap, refl}
use mathlib.Core.List.{List, [], ◌∷◌}
use lib.Seq.{sets}
use Rattle.wire.specs.Fields.{le8, le_flag, le_bytes, le16, le32, le_f32}
use Rattle.wire.specs.Cell.{bytes_of}
use Rattle.wire.specs.Frame.{frame_head}
use Rattle.wire.proofs.Stores.{Piece, put, after, done, into, ran}
use Rattle.config.specs.declared.Config.{Config}
use Rattle.frame_config.specs.ConfigFrame.{config_kind, config_frame, config_cells, freshness_cells, link_cells, fence_cells, battery_cells, energy_cells, flight_cells}
use Rattle.frame_config.proofs.put_config.Goals as goal

abbrev pieces : ℕ → Config → List Piece
pieces kind c =
    put 0 (frame_head kind 244) ∷
    put 4 (bytes_of (freshness_cells c)) ∷
    put 30 (bytes_of (link_cells c)) ∷
    put 82 (bytes_of (fence_cells c)) ∷
    put 130 (bytes_of (battery_cells c)) ∷
    put 178 (bytes_of (energy_cells c)) ∷
    put 206 (bytes_of (flight_cells c)) ∷
    []

flat : (l : List ℕ) (c : Config) → after l (pieces (config_kind c.keeps_raised) c) ≡ sets l 0 (config_frame c)
unfolding config_frame config_cells freshness_cells link_cells fence_cells battery_cells energy_cells flight_cells frame_head le8 le_flag le_bytes le16 le32 le_f32
flat l c = refl

pub returns : goal.returns
returns c =
    let a = c.args in
    ran a.s.now (pieces c.config_kind.result a.c) _
    (into c.put_head.ensures
    (into c.put_freshness.ensures
    (into c.put_link.ensures
    (into c.put_fence.ensures
    (into c.put_battery.ensures
    (into c.put_energy.ensures
    (into c.put_flight.ensures
    done)))))))
    ∙ ap (λ (n : ℕ). after a.s.now (pieces n a.c)) c.config_kind.ensures
    ∙ flat a.s.now a.c
