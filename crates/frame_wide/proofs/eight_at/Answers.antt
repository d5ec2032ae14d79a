-- `frame_wide::eight_at` meets its contract. Assumes nothing.
use Prim.Native.Nat.{◌+◌, ◌*◌}
use mathlib.Core.Path.{◌∙◌, sym}
use Rattle.wire.specs.Fields.{u8_at}
use Rattle.frame_wide.proofs.Eight.{eight_is}
use Rattle.frame_wide.proofs.eight_at.Goals as goal

pub returns : goal.returns
unfolding u8_at
returns c =
    let a = c.args in
    c.halves.ensures
    ∙ (λ j. c.quad.ensures j + 4294967296 * c.quad-2.ensures j)
    ∙ sym (eight_is a.s.now a.at)
