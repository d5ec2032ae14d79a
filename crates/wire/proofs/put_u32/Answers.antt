-- `wire::put_u32` meets its contract. Assumes nothing.
use Rattle.wire.specs.Fields.{le16, le32, le_bytes}
use mathlib.Core.Path.{◌≡◌, ◌∙◌, sym, ap}
use Prim.Native.Nat.{◌+◌, ◌%◌, ◌/◌, suc}
use native.Mathlib.Omega.{arith}
use lib.Seq.{sets}
use Rattle.wire.proofs.Past.{sets_past}
use Rattle.wire.proofs.Stores.{joined}
use Rattle.wire.proofs.Number.{le32_is, le32_halves}
use Rattle.wire.proofs.put_u32.Goals as goal

pub returns-then-at-s-2 : goal.returns-then-at-s-2
returns-then-at-s-2 c =
    let at = c.args.at in
    let one : at + 1 ≡ suc at = omega arith in
    let two : at + 2 ≡ suc (suc at) = omega arith in
    let three : at + 3 ≡ suc (suc (suc at)) = omega arith in
    rw (le32_is c.args.n) (cc)

pub returns-else-at-s-2 : goal.returns-else-at-s-2
unfolding le16 le_bytes
returns-else-at-s-2 c =
    let a = c.args in
    joined a.s.now a.at (le16 (a.n % 65536)) (le16 (a.n / 65536)) c.put_u16.ensures c.put_u16-else-at-s-2.ensures
    ∙ ap (sets a.s.now a.at) (sym (le32_halves a.n))

pub returns-else-at-s : goal.returns-else-at-s
returns-else-at-s c = sym (sets_past c.args.s.now c.args.at (le32 c.args.n) c.if-at-s.false)
