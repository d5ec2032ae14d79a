-- `trial::fill` meets its contract. Assumes nothing.
use Rattle.std.proofs.Common.{◌≡◌, ℕ, ◌+◌, ◌*◌, ◌/◌, min, ◌++◌, length, take, drop, refl, ap, ◌∙◌, add-one, arith}
use native.Mathlib.Nat.{min-le_right}
use Rattle.frame_telemetry.specs.TelemetryFrame.{telemetry_frame}
use Rattle.trial.specs.declared.Generator.{Generator}
use Rattle.trial.specs.Trial.{next_frame}
use Rattle.trial.specs.Call.{onward, frames_of, room_for}
use Rattle.trial.proofs.Rows.{row_next}
use Rattle.trial.proofs.fill.Goals as goal

pub loop-i-init : goal.loop-i-init
unfolding onward frames_of
loop-i-init c =
    let a = c.args in
    (omega (arith, c.min-n.ensures, min-le_right a.count (length a.block.now / 106)), refl, refl, refl)

pub loop-i-preserved : goal.loop-i-preserved
unfolding onward
loop-i-preserved c =
    let a = c.args in
    let l = c.loop-i in
    let v = l.invariant in (
      v.0,
      c.put_next-after.auto.block ∙ v.1,
      rw add-one (c.put_next-after.ensures.value ∙ ap (λ (k : Generator). (next_frame k).generator) v.2),
      c.put_next-after.ensures.block_after
          ∙ ap (λ (k : Generator). take (106 * l.i) l.block ++ (telemetry_frame (next_frame k).telemetry ++ drop (106 * l.i + 106) l.block)) v.2
          ∙ row_next l.block a.block.now a.g l.i v.3,
    )

pub returns : goal.returns
unfolding room_for
returns c =
    let a = c.args in
    let l = c.loop-i in
    let n : l.i ≡ min a.count (length a.block.now / 106) = omega (arith, c.min-n.ensures) in
    record { value = l.invariant.2 ∙ ap (λ (k : ℕ). onward k a.g) n; block_after = l.invariant.3 ∙ ap (λ (k : ℕ). frames_of k a.g ++ drop (106 * k) a.block.now) n }
