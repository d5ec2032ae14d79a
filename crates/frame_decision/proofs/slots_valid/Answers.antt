-- `frame_decision::slots_valid` meets its contract. The loop's invariant: the slots before the i-th are valid. Assumes nothing.
use Prim.Native.Nat.{ℕ, zero, suc, ◌+◌, ◌*◌, ◌-◌}
use mathlib.Core.Path.{◌≡◌, ◌∙◌, ap, refl, sym}
use mathlib.Core.List.{List}
use mathlib.Core.Bool.{Bool, false, ◌&&◌}
use native.Mathlib.Numerals.{add-one}
use native.Mathlib.Nat.{add-zero, add-suc}
use native.Mathlib.Omega.{arith}
use Rattle.frame_decision.specs.Slots.{slot_valid, slots_valid}
use Rattle.frame_decision.proofs.slots_valid.Goals as goal

-- one slot that is not valid spoils every longer row
spoilt : (s : List ℕ) (k d : ℕ) → slots_valid s k ≡ false → slots_valid s (k + d) ≡ false
unfolding slots_valid
spoilt s k zero e = ap (slots_valid s) (add-zero k) ∙ e
spoilt s k (suc d) e = ap (slots_valid s) (add-suc k d) ∙ ap (λ (b : Bool). b && slot_valid s (7 + 3 * (k + d))) (spoilt s k d e)

pub loop-i-init : goal.loop-i-init
unfolding slots_valid
loop-i-init c = refl

pub loop-i-preserved : goal.loop-i-preserved
unfolding slots_valid
loop-i-preserved c =
    let l = c.loop-i in
    let t = sym c.slot_valid.ensures ∙ c.if-not-slot_valid.false in
    rw add-one (λ j. l.invariant j && t j)

pub returns-then-not-slot_valid : goal.returns-then-not-slot_valid
unfolding slots_valid
returns-then-not-slot_valid c =
    let s = c.args.s.now in
    let l = c.loop-i in
    let t = sym c.slot_valid.ensures ∙ c.if-not-slot_valid.true in
    let m : suc l.i + (18 - l.i) ≡ 19 = omega arith in
    sym (ap (slots_valid s) (sym m) ∙ spoilt s (suc l.i) (18 - l.i) (λ j. l.invariant j && t j))
