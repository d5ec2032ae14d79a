-- `float32::sqrtf` meets its contract, by the test that ends each way. Assumes nothing.
use mathlib.Core.Path.{sym, ◌∙◌, subst}
use native.Mathlib.Omega.{arith}
use lib.Dec.{T}
use lib.Ieee.{binary32, fits}
use Rattle.float32.proofs.Libm.{zero_by_zero}
use Rattle.float32.proofs.Patterns.{is_zero, is_above, pattern_pos, is_top, is_nan_lem, normal_above, normal_bits, subnormal_bits, not_nan_bits, from_bits}
use Rattle.float32.proofs.sqrtf.Goals as goal

-- what owning an `f32` tells: the format holds it
held : (c : goal.Start) → T (fits binary32 c.args.x)
held c = subst T (sym c.well_formed.0.1) tt

pub float_from_bits-t-3 : goal.float_from_bits-t-3
float_from_bits-t-3 c = not_nan_bits 0x80_0000 (omega arith)

pub normal_root-requires : goal.normal_root-requires
normal_root-requires c = (normal_bits c.args.x (held c.before.before) c.if-x.true, c.if-b-lt2139095040.true)

pub float_from_bits-result : goal.float_from_bits-result
float_from_bits-result c = not_nan_bits c.normal_root.result c.normal_root.ensures.1

pub returns-then-b-lt2139095040 : goal.returns-then-b-lt2139095040
returns-then-b-lt2139095040 c =
    from_bits c.args.x c.normal_root.result (held c.before.before.before) c.normal_root.ensures.0

pub returns-then-x : goal.returns-then-x
returns-then-x c =
    is_top c.args.x (held c.before.before) (normal_above c.args.x c.if-x.true) c.if-b-lt2139095040.false

pub subnormal_root-requires : goal.subnormal_root-requires
subnormal_root-requires c =
    let a = is_above c.args.x c.if-x-2.true in
    (pattern_pos c.args.x (held c.before.before) a, subnormal_bits c.args.x (held c.before.before) a c.if-x.false)

pub float_from_bits-result-then-x-2 : goal.float_from_bits-result-then-x-2
float_from_bits-result-then-x-2 c = not_nan_bits c.subnormal_root.result c.subnormal_root.ensures.1

pub returns-then-x-2 : goal.returns-then-x-2
returns-then-x-2 c =
    from_bits c.args.x c.subnormal_root.result (held c.before.before.before) c.subnormal_root.ensures.0

pub returns-then-x-3 : goal.returns-then-x-3
returns-then-x-3 c = is_zero c.args.x c.if-x-3.true

pub returns-else-x-3 : goal.returns-else-x-3
returns-else-x-3 c = zero_by_zero ∙ sym (is_nan_lem c.args.x c.if-x-3.false c.if-x-2.false)
