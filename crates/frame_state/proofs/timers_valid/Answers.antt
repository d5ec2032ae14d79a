-- `frame_state::timers_valid` meets its contract. The loop's invariant: the timers before the i-th are valid. Assumes nothing.
use Prim.Native.Nat.{ℕ, zero, suc, ◌+◌, ◌*◌, ◌-◌}
use mathlib.Core.Path.{◌≡◌, ◌∙◌, ap, sym}
use mathlib.Core.List.{List}
use mathlib.Core.Bool.{Bool, false, ◌&&◌}
use native.Mathlib.Nat.{add-zero, add-suc}
use native.Mathlib.Omega.{arith}
use Rattle.options.specs.Options.{valid_option}
use Rattle.frame_state.specs.StateFrame.{timers_valid}
use Rattle.frame_state.proofs.timers_valid.Goals as goal

-- one timer that is not valid spoils every longer row
spoilt : (s : List ℕ) (k d : ℕ) → timers_valid s k ≡ false → timers_valid s (k + d) ≡ false
unfolding timers_valid
spoilt s k zero e = ap (timers_valid s) (add-zero k) ∙ e
spoilt s k (suc d) e = ap (timers_valid s) (add-suc k d) ∙ ap (λ (b : Bool). b && valid_option s (6 + 5 * (k + d)) 4) (spoilt s k d e)

pub returns-then-not-timer_valid : goal.returns-then-not-timer_valid
unfolding timers_valid
returns-then-not-timer_valid c =
    let s = c.args.s.now in
    let l = c.loop-i in
    let t = sym c.timer_valid.ensures ∙ c.if-not-timer_valid.true in
    let m : suc l.i + (23 - l.i) ≡ 24 = omega arith in
    sym (ap (timers_valid s) (sym m) ∙ spoilt s (suc l.i) (23 - l.i) (λ j. l.invariant j && t j))
