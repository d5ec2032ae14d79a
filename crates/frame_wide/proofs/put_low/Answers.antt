-- `frame_wide::put_low` meets its contract. Assumes nothing.
use Prim.Native.Nat.{◌+◌, min}
use mathlib.Core.Path.{◌∙◌, ap}
use mathlib.Core.Bool.{cond}
use lib.Dec.{eqb}
use lib.ListN.{take, drop}
use Rattle.wire.specs.Fields.{u8_at, le32}
use Rattle.frame_wide.proofs.Places.{flag_stored}
use Rattle.frame_wide.proofs.put_low.Goals as goal

pub returns : goal.returns
unfolding u8_at le32
returns g c =
    let a = c.args in
    let s = a.s.now in
    flag_stored a.to.now (take g.row.MORE (drop (a.p + 9) s)) a.at 4 (u8_at s a.p) c.put_four.ensures
    (c.narrow_number.ensures ∙ ap (λ (k : _). cond (eqb (u8_at s a.p) 1) a.x (min k 1)) c.eight_at.ensures)
    c.copy.ensures
