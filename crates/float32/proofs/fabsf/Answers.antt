-- `float32::fabsf` meets its contract: its bits are those of x without the sign's. Assumes nothing.
use mathlib.Core.Path.{◌∙◌, sym, ap, subst}
use lib.Dec.{T}
use Rattle.float32.specs.Libm.{fabs}
use Rattle.float32.proofs.Libm.{differing, no_nan, fabs_of_bits, fabs_bits_number}
use Rattle.float32.proofs.fabsf.Goals as goal

pub float_to_bits-result : goal.float_to_bits-result
float_to_bits-result c = no_nan c.args.x c.if-x.false

pub float_from_bits-result : goal.float_from_bits-result
float_from_bits-result c = fabs_bits_number c.args.x (subst T (sym c.well_formed.0.1) tt) (no_nan c.args.x c.if-x.false)

pub returns-then-x : goal.returns-then-x
unfolding fabs
returns-then-x c = let e = differing c.args.x c.if-x.true in e ∙ sym (ap fabs e)

pub returns-else-x : goal.returns-else-x
returns-else-x c = fabs_of_bits c.args.x (subst T (sym c.well_formed.0.1) tt) (no_nan c.args.x c.if-x.false)
