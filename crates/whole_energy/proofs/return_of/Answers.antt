-- `whole_energy::return_of` meets its contract. Assumes nothing.
use Rattle.std.proofs.Common.{arith}
use Rattle.std.proofs.lemmas.Int.{to_z-of_z}
use Rattle.whole_energy.specs.Input.{return_of}
use Rattle.whole_energy.proofs.Limits.{square_le, climb_fits, bounded}
use Rattle.whole_energy.proofs.return_of.Goals as goal

pub overflow_sub-i : goal.overflow_sub-i
overflow_sub-i c = let f = climb_fits c.args.i c.requires.limits in grind (arith, to_z-of_z)

pub overflow_add-result : goal.overflow_add-result
overflow_add-result c = let s = square_le c.args.i c.requires.limits in grind (arith, to_z-of_z)

pub returns-clause-value : goal.returns-clause-value
unfolding return_of
returns-clause-value c =
    let f = climb_fits c.args.i c.requires.limits in
    grind (arith, to_z-of_z)

pub returns-clause-bounded : goal.returns-clause-bounded
unfolding return_of
returns-clause-bounded c =
    let f = climb_fits c.args.i c.requires.limits in
    let b = bounded c.args.i c.requires.limits c.requires.speeds in
    grind (arith, to_z-of_z)
