-- `frame_decision::put_slots` meets its contract. Assumes nothing.
use Prim.Native.Nat.{ℕ, zero, suc, ◌+◌, ◌*◌, ◌-◌, ◌<◌}
use mathlib.Core.Path.{◌≡◌, ◌∙◌, sym, ap, refl}
use mathlib.Core.List.{List, ◌++◌, append_assoc, append-nil}
use native.Mathlib.Numerals.{add-one}
use native.Mathlib.Omega.{arith}
use lib.ListN.{length, get_or, replicate, length-append, replicate-append-replicate}
use lib.Seq.{sets}
use Rattle.std.specs.Prelude.{Option, None}
use Rattle.types.specs.declared.Request.{Request}
use Rattle.wire.specs.Fields.{le_flag, le8}
use Rattle.frame_decision.specs.Slots.{le_slot, le_slots}
use Rattle.wire.proofs.Over.{over_all}
use Rattle.wire.specs.Laid.{laid}
use Rattle.wire.proofs.Laid.{laid_middle, zeroed}
use Rattle.frame_decision.proofs.put_slots.Goals as goal

-- three bytes to each slot
wide : (n : ℕ) (xs : List (Option Request)) → length (le_slots n xs) ≡ 3 * n
unfolding le_slots le_slot le_flag le8
wide zero xs = refl
wide (suc n) xs = let h = wide n xs in let e = length-append (le_slots n xs) (le_slot (get_or xs n None)) in omega arith

-- one slot more, over zeros
next : (l : List ℕ) (xs : List (Option Request)) (i : ℕ) → i < 19 → laid (sets l 7 (le_slots i xs ++ replicate (57 - 3 * i) 0)) (7 + 3 * i) (le_slot (get_or xs i None)) ≡ sets l 7 (le_slots (i + 1) xs ++ replicate (57 - 3 * (i + 1)) 0)
unfolding le_slots le_slot le_flag le8
next l xs i h =
    let p = le_slots i xs in
    let b = le_slot (get_or xs i None) in
    let r : List ℕ = replicate (57 - 3 * (i + 1)) 0 in
    let e : 57 - 3 * i ≡ 3 + (57 - 3 * (i + 1)) = omega arith in
    ap (λ (k : ℕ). laid (sets l 7 (p ++ replicate k 0)) (7 + 3 * i) b) e
    ∙ (λ j. laid (sets l 7 (p ++ sym (replicate-append-replicate 3 (57 - 3 * (i + 1)) 0) j)) (7 + sym (wide i xs) j) b)
    ∙ laid_middle l 7 p b r
    ∙ ap (sets l 7) (sym (append_assoc p b r))
    ∙ ap (λ (k : ℕ). sets l 7 (le_slots k xs ++ r)) (sym (add-one i))

pub loop-i-init : goal.loop-i-init
unfolding le_slots
loop-i-init c = sym (zeroed c.args.s.now 7 57 c.put_zeros.ensures)

pub loop-i-preserved : goal.loop-i-preserved
loop-i-preserved c =
    let a = c.args in
    let at = c.loop-i in
    c.put_slot.ensures ∙ (λ j. laid (at.invariant j) (7 + 3 * at.i) (le_slot (get_or a.a.reqs (c.from.ensures j) None))) ∙ next _ a.a.reqs at.i (omega arith)

pub returns : goal.returns
returns c =
    let a = c.args in
    let at = c.loop-i in
    let e : at.i ≡ 19 = omega arith in
    at.invariant
    ∙ (λ j. sets (c.put_zeros.ensures j) 7 (le_slots (e j) a.a.reqs ++ replicate (57 - 3 * e j) 0))
    ∙ ap (sets (sets a.s.now 7 (replicate 57 0)) 7) (append-nil (le_slots 19 a.a.reqs))
    ∙ over_all a.s.now 7 (replicate 57 0) (le_slots 19 a.a.reqs) (sym (wide 19 a.a.reqs))
