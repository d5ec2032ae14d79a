-- `frame_fence::point_at` meets its contract. Assumes nothing.
use Prim.Native.Nat.{◌+◌, ◌-◌}
use mathlib.Core.Path.{◌∙◌}
use native.Mathlib.Omega.{arith}
use Rattle.frame_fence.specs.FenceFrame.{point_at}
use Rattle.frame_fence.proofs.Parts.{float_part}
use Rattle.frame_fence.proofs.point_at.Goals as goal

pub returns : goal.returns
unfolding point_at
returns c =
    let a = c.args in
    λ j.
    record {
      n = (c.f32_at.ensures ∙ float_part a.s.now a.at (a.at + 8 - a.at) 0 a.at (omega arith) (omega arith)) j;
      e = (c.f32_at-2.ensures ∙ float_part a.s.now a.at (a.at + 8 - a.at) 4 (a.at + 4) (omega arith) (omega arith)) j;
    }
