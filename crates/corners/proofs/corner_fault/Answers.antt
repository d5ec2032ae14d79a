-- `corner_fault` meets its contract. Assumes nothing.
use Rattle.corners.proofs.Bounds.{corner_tests}
use Rattle.corners.proofs.corner_fault.Goals as goal

pub returns-then-within : goal.returns-then-within
returns-then-within c = rw (← corner_tests c.args.p, ← c.within.ensures, ← c.within-2.ensures, c.if-within.true)

pub returns-then-is_finite : goal.returns-then-is_finite
returns-then-is_finite c =
    rw (← corner_tests c.args.p, ← c.within.ensures, ← c.within-2.ensures, c.if-within.false, ← c.is_finite.ensures, ← c.is_finite-2.ensures, c.if-is_finite.true)

pub returns-else-is_finite : goal.returns-else-is_finite
returns-else-is_finite c =
    rw (← corner_tests c.args.p, ← c.within.ensures, ← c.within-2.ensures, c.if-within.false, ← c.is_finite.ensures, ← c.is_finite-2.ensures, c.if-is_finite.false)
