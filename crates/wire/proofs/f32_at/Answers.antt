-- `wire::f32_at` meets its contract. Assumes nothing.
use lib.Ieee.{binary32, of_bits}
use mathlib.Core.Path.{◌∙◌, ap}
use Rattle.wire.specs.Fields.{f32_at}
use Rattle.wire.proofs.f32_at.Goals as goal

pub returns : goal.returns
unfolding f32_at
returns c = c.from_bits.ensures ∙ ap (of_bits binary32) c.u32_at.ensures
