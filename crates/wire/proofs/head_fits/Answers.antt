-- `wire::head_fits` meets its contract. Assumes nothing.
use Prim.Native.Nat.{◌+◌, ◌*◌, ◌<◌}
use mathlib.Core.Path.{◌≡◌, ◌∙◌, sym}
use native.Mathlib.Omega.{arith}
use Rattle.wire.specs.Fields.{u8_at, u16_at}
use Rattle.wire.proofs.Number.{u16_is, u32_halves}
use Rattle.wire.proofs.Head.{due, not_due}
use Rattle.wire.proofs.head_fits.Goals as goal

-- the four bytes tell kind and length
pub returns-then-u32_at-halves : goal.returns-then-u32_at-halves
unfolding u8_at
returns-then-u32_at-halves c =
    let a = c.args in
    let s = a.s.now in
    let low : u16_at s 0 < 65536 = omega (arith, u16_is s 0, c.shared_slice_known-1.given 0, c.shared_slice_known-1.given 1) in
    let e : u16_at s 0 + 65536 * u16_at s 2 ≡ a.len + 65536 * a.kind = sym (u32_halves s 0) ∙ sym c.u32_at.ensures ∙ c.if-u32_at-halves.true ∙ c.halves.ensures in
    due a.kind a.len s (omega arith) (omega arith) (omega arith)

pub returns-else-u32_at-halves : goal.returns-else-u32_at-halves
returns-else-u32_at-halves c =
    let a = c.args in
    let s = a.s.now in
    not_due a.kind a.len s (λ t. c.if-u32_at-halves.false (omega (arith, c.u32_at.ensures, u32_halves s 0, c.halves.ensures)))

pub returns-else-s-from : goal.returns-else-s-from
returns-else-s-from c =
    let a = c.args in
    not_due a.kind a.len a.s.now (λ t. c.if-s-from.false (omega arith))
