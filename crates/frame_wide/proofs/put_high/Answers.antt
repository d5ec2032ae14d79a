-- `frame_wide::put_high` meets its contract. Assumes nothing.
use Prim.Native.Nat.{◌+◌}
use lib.ListN.{take, drop}
use Rattle.wire.specs.Fields.{u8_at}
use Rattle.frame_wide.proofs.Places.{flag_stored}
use Rattle.frame_wide.proofs.put_high.Goals as goal

pub returns : goal.returns
unfolding u8_at
returns g c =
    let a = c.args in
    flag_stored a.to.now (take g.row.MORE (drop (a.p + 5) a.s.now)) a.at 8 (u8_at a.s.now a.p) c.put_eight.ensures c.wide_number.ensures c.copy.ensures
