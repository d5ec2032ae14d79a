-- `frame_areas::check_area_frame` meets its contract. Assumes nothing.
use Prim.Native.Nat.{ℕ}
use mathlib.Core.Path.{◌∙◌, ap}
use native.Mathlib.Omega.{arith}
use Rattle.wire.specs.Frame.{check_frame}
use Rattle.frame_areas.specs.AreaFrame.{check_area_frame}
use Rattle.frame_areas.proofs.Walk.{byte_behind}
use Rattle.frame_areas.proofs.check_area_frame.Goals as goal

pub returns : goal.returns
unfolding check_area_frame
returns c =
    let s = c.args.s.now in
    c.check_frame.ensures.value ∙ ap (λ (k : ℕ). check_frame 7 k s) (omega (arith, c.from.ensures, c.u8_at-count.ensures, byte_behind s 4 1))
