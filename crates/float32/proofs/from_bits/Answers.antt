-- `float32::from_bits` meets its contract: above an infinity's bits, the sign apart, stand the NaNs'. Assumes nothing.
use mathlib.Core.Path.{◌∙◌, sym, subst}
use mathlib.Core.Bool.{Bool, not}
use lib.Dec.{T}
use lib.Ieee.{binary32}
use lib.Ieee.Bits.{nan_bits_above, nan_bits_is}
use borrow.Author.Tests.{lt-ltb, le-ltb}
use Rattle.float32.proofs.Libm.{zero_by_zero, only_nan}
use Rattle.float32.proofs.from_bits.Goals as goal

pub float_from_bits-result : goal.float_from_bits-result
float_from_bits-result c = subst (λ (b : Bool). T (not b)) (sym (nan_bits_above binary32 c.args.n ∙ le-ltb _ _ c.if-n-le2139095040.true)) tt

pub returns-else-n-le2139095040 : goal.returns-else-n-le2139095040
returns-else-n-le2139095040 c = zero_by_zero ∙ sym (only_nan _ (sym (nan_bits_is binary32 c.args.n) ∙ nan_bits_above binary32 c.args.n ∙ lt-ltb _ _ c.if-n-le2139095040.false))
