-- `frame_wide::put_four` meets its contract. Assumes nothing.
use mathlib.Core.Path.{◌≡◌}
use Prim.Native.Nat.{◌+◌, suc}
use native.Mathlib.Omega.{arith}
use Rattle.wire.proofs.Number.{le32_is}
use Rattle.frame_wide.proofs.put_four.Goals as goal

pub returns : goal.returns
returns c =
    let at = c.args.at in
    let one : at + 1 ≡ suc at = omega arith in
    let two : at + 2 ≡ suc (suc at) = omega arith in
    let three : at + 3 ≡ suc (suc (suc at)) = omega arith in
    rw (le32_is c.args.n) (cc)
