-- `options::put_vec3` meets its contract. Assumes nothing.
use Prim.Native.Nat.{◌+◌}
use lib.Seq.{sets}
use Prim.Native.Nat.{ℕ}
use Rattle.wire.specs.Fields.{le_f32, le32, le_bytes}
use Rattle.options.specs.Position.{le_vec3}
use mathlib.Core.Path.{◌≡◌, ◌∙◌, ap}
use mathlib.Core.List.{◌++◌}
use native.Mathlib.Omega.{arith}
use Rattle.wire.proofs.Stores.{joined}
use Rattle.options.proofs.put_vec3.Goals as goal

pub returns : goal.returns
unfolding le_vec3 le_f32 le32 le_bytes
returns c =
    let a = c.args in
    let v = a.v in
    let eight : a.at + 8 ≡ a.at + 4 + 4 = omega arith in
    joined a.s.now a.at (le_f32 v.n) (le_f32 v.e ++ le_f32 v.d) c.put_f32.ensures
    (joined c.put_f32.new.s (a.at + 4) (le_f32 v.e) (le_f32 v.d) c.put_f32-2.ensures
    (c.put_f32-3.ensures ∙ ap (λ (k : ℕ). sets c.put_f32-2.new.s k (le_f32 v.d)) eight))
