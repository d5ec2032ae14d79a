-- `float32::fmaxf` meets its contract, by the test that ends each way. Assumes nothing.
use mathlib.Core.Path.{◌∙◌, sym, ap, subst}
use lib.Dec.{T}
use lib.Ieee.{Float, is_nan}
use lib.Ieee.Bits.{is_false}
use Rattle.float32.specs.Libm.{fmax}
use Rattle.float32.proofs.Libm.{differing, no_nan, plus_by_bits, minus_by_bits, fmax_below, fmax_above, fmax_plus, fmax_minus, fmax_drops_left, fmax_drops_right}
use Rattle.float32.proofs.fmaxf.Goals as goal

pub returns-then-x-y : goal.returns-then-x-y
returns-then-x-y c = sym (fmax_below c.args.x c.args.y c.if-x-y.true)

pub returns-then-y-x : goal.returns-then-y-x
returns-then-y-x c = sym (fmax_above c.args.x c.args.y c.if-x-y.false c.if-y-x.true)

pub returns-then-x : goal.returns-then-x
returns-then-x c =
    sym (ap (λ (x : Float). fmax x c.args.y) (differing c.args.x c.if-x.true) ∙ fmax_drops_left c.args.y)

pub float_to_bits-x : goal.float_to_bits-x
float_to_bits-x c = no_nan c.args.x c.if-x.false

pub returns-then-x-lt2147483648 : goal.returns-then-x-lt2147483648
returns-then-x-lt2147483648 c =
    let n = no_nan c.args.x c.if-x.false in
    sym
    (fmax_plus c.args.x c.args.y (is_false (is_nan c.args.x) n) c.if-x-y.false c.if-y-x.false
    (plus_by_bits c.args.x (subst T (sym c.well_formed.0.1) tt) n c.if-x-lt2147483648.true))

pub returns-then-y : goal.returns-then-y
returns-then-y c =
    sym (ap (fmax c.args.x) (differing c.args.y c.if-y.true) ∙ fmax_drops_right c.args.x)

pub returns-else-y : goal.returns-else-y
returns-else-y c =
    let n = no_nan c.args.x c.if-x.false in
    sym
    (fmax_minus c.args.x c.args.y (is_false (is_nan c.args.x) n) (is_false (is_nan c.args.y) (no_nan c.args.y c.if-y.false))
    c.if-x-y.false c.if-y-x.false
    (minus_by_bits c.args.x (subst T (sym c.well_formed.0.1) tt) n c.if-x-lt2147483648.false))
