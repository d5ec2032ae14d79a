-- A PositionSample is put field by field. Assumes nothing.
use Prim.Native.Nat.{ℕ, ◌+◌}
use mathlib.Core.Path.{◌≡◌, ◌∙◌, sym, ap}
use mathlib.Core.List.{◌++◌}
use native.Mathlib.Omega.{arith}
use lib.Seq.{sets}
use Rattle.wire.specs.Fields.{le_f32, le32, le_bytes}
use Rattle.wire.proofs.Past.{sets_past}
use Rattle.wire.proofs.Stores.{joined}
use Rattle.options.specs.Position.{le_vec3, le_position}
use Rattle.options.proofs.PositionSampleField.put.Goals as goal

pub returns-then-at-s : goal.returns-then-at-s
unfolding le_position le_vec3 le_f32 le32 le_bytes
returns-then-at-s c =
    let a = c.args in
    let p = a.self in
    let two = c.put_u32 in
    let three = c.put_vec3 in
    let sixteen : a.at + 16 ≡ a.at + 4 + 12 = omega arith in
    joined a.s.now a.at (le32 p.t_ms) (le_vec3 p.pos ++ le_vec3 p.vel) two.ensures
    (joined two.new.s (a.at + 4) (le_vec3 p.pos) (le_vec3 p.vel) three.ensures
    (c.put_vec3-then-at-s.ensures ∙ ap (λ (k : ℕ). sets three.new.s k (le_vec3 p.vel)) sixteen))

pub returns-else-at-s : goal.returns-else-at-s
returns-else-at-s c = sym (sets_past c.args.s.now c.args.at (le_position c.args.self) c.if-at-s.false)
