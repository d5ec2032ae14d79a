-- `options::vec3_in` meets its contract. Assumes nothing.
use mathlib.Core.Path.{◌∙◌, ap}
use lib.Ieee.{binary32, of_bits}
use Rattle.wire.specs.Fields.{f32_at}
use Rattle.options.specs.Position.{vec3_at}
use Rattle.options.proofs.vec3_in.Goals as goal

pub returns : goal.returns
unfolding vec3_at f32_at
returns c =
    λ j.
    record {
      n = (c.from_bits.ensures ∙ ap (of_bits binary32) c.word.ensures) j;
      e = (c.from_bits-2.ensures ∙ ap (of_bits binary32) c.word-2.ensures) j;
      d = (c.from_bits-3.ensures ∙ ap (of_bits binary32) c.word-3.ensures) j;
    }
