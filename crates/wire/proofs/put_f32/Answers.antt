-- `wire::put_f32` meets its contract. Assumes nothing.
use lib.Seq.{sets}
use Prim.Native.Nat.{ℕ}
use mathlib.Core.Path.{◌∙◌, ap}
use Rattle.wire.specs.Fields.{le_f32, le32}
use Rattle.wire.proofs.put_f32.Goals as goal

pub returns : goal.returns
unfolding le_f32
returns c = let a = c.args in
    c.put_u32.ensures ∙ ap (λ (n : ℕ). sets a.s.now a.at (le32 n)) c.to_bits.ensures
