-- A PositionSample past the end is one of bytes 0. Assumes nothing.
use mathlib.Core.Path.{◌∙◌, ap}
use native.Mathlib.Omega.{arith}
use lib.Ieee.{binary32, of_bits}
use Prim.Native.Nat.{ℕ, ◌+◌}
use mathlib.Core.Path.{◌≡◌, sym}
use lib.ListN.{length}
use Prim.Native.Nat.{◌≤◌}
use mathlib.Core.List.{List}
use Rattle.wire.specs.Fields.{u32_at, f32_at}
use Rattle.wire.proofs.Past.{number_past}
use Rattle.options.specs.Position.{vec3_at, position_at, zero_vec3}
use Rattle.options.proofs.PositionSampleField.read.Goals as goal

f32_past : (s : List ℕ) (i : ℕ) → length s ≤ i → f32_at s i ≡ of_bits binary32 0
unfolding f32_at u32_at
f32_past s i h = ap (of_bits binary32) (number_past 4 s i h)

vec3_past : (s : List ℕ) (i : ℕ) → length s ≤ i → vec3_at s i ≡ zero_vec3
unfolding vec3_at
vec3_past s i h = λ j. record { n = f32_past s i h j; e = f32_past s (i + 4) (omega arith) j; d = f32_past s (i + 8) (omega arith) j }

pub returns-else-at-s : goal.returns-else-at-s
unfolding position_at u32_at
returns-else-at-s c =
    let s = c.args.s.now in
    let i = c.args.at in
    let h = c.if-at-s.false in
    c.zero_sample.ensures
    ∙ sym (λ j. record { t_ms = number_past 4 s i h j; pos = vec3_past s (i + 4) (omega arith) j; vel = vec3_past s (i + 16) (omega arith) j })
