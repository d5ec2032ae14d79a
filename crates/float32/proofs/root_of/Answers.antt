-- `float32::root_of` meets its contract. Assumes nothing.
use mathlib.Core.Path.{subst}
use Prim.Native.Nat.{ℕ, ◌*◌, ◌^◌}
use native.Mathlib.Omega.{arith}
use Rattle.float32.proofs.Squares.{Near}
use Rattle.float32.proofs.Round.{moved, root_digits, root_of_bits}
use Rattle.float32.proofs.root_of.Goals as goal

pub overflow_add-result-2 : goal.overflow_add-result-2
overflow_add-result-2 c = omega (arith, root_digits _ c.nearest_root.result c.nearest_root.ensures)

pub returns : goal.returns
returns c =
    let q = c.args.q in
    let g = c.args.g in
    let p = c.nearest_root.result in
    let k = c.nearest_root.ensures in
    let n = subst (λ (m : ℕ). Near (m * 2 ^ 23) p) (moved q g c.requires.0 c.requires.1 c.requires.2) k in
    (root_of_bits q g p (c.requires.0, c.requires.1, c.requires.2, omega arith) n, omega (arith, root_digits _ p k))
