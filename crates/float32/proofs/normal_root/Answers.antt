-- `float32::normal_root` meets its contract. Assumes nothing.
use native.Mathlib.Omega.{arith}
use Rattle.float32.proofs.Round.{root_digits, normal_root_bits}
use Rattle.float32.proofs.normal_root.Goals as goal

pub overflow_add-result-2 : goal.overflow_add-result-2
overflow_add-result-2 c = omega (arith, root_digits c.args.b c.nearest_root.result c.nearest_root.ensures)

pub returns : goal.returns
returns c =
    let b = c.args.b in
    let p = c.nearest_root.result in
    (normal_root_bits b p c.requires c.nearest_root.ensures, omega (arith, root_digits b p c.nearest_root.ensures))
