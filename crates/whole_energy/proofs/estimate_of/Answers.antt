-- `whole_energy::estimate_of` meets its contract: nothing overflows. Assumes nothing.
use Rattle.std.proofs.Common.{arith}
use Rattle.whole_energy.proofs.Sizes.{climb_small, cruise_small, quotient_small}
use Rattle.whole_energy.proofs.estimate_of.Goals as goal

pub overflow_mul-distance-2 : goal.overflow_mul-distance-2
overflow_mul-distance-2 c = omega (arith, cruise_small c.args.x _ _ c.requires c.whole_root-root.ensures.root c.one_for.ensures.bound)

pub rounded_up-requires : goal.rounded_up-requires
rounded_up-requires c = quotient_small _ _ _ _ c.leg_of-climb.ensures (omega (arith, climb_small c.args.x c.requires))

pub rounded_up-requires-2 : goal.rounded_up-requires-2
rounded_up-requires-2 c = quotient_small _ _ _ _ c.leg_of-cruise.ensures (omega (arith, cruise_small c.args.x _ _ c.requires c.whole_root-root.ensures.root c.one_for.ensures.bound))
