-- `edit_areas::write_area` meets its contract. Assumes nothing.
use Prim.Native.Nat.{ℕ, ◌+◌, ◌*◌}
use native.Mathlib.Omega.{arith}
use mathlib.Core.List.{List, [], ◌∷◌, ◌++◌, append-nil}
use mathlib.Core.Path.{◌≡◌, refl, ap, subst, ◌∙◌}
use lib.ListN.{length}
use borrow.Author.Tests.{eq-eqb, ne_eqb}
use Rattle.wire.specs.Fields.{u8_at}
use Rattle.wire.specs.Frame.{frame_head, frame_number, room_fault, frame_written}
use Rattle.frame_areas.specs.AreaFrame.{area_frame}
use Rattle.edit_areas.specs.Edit.{write_call}
use Rattle.edit_areas.specs.Cut.{framed}
use Rattle.edit_areas.proofs.write_area.Goals as goal

-- an area's frame is its number's byte and the bytes behind it
area_framed : (n : ℕ) (b : List ℕ) → framed 7 n (b ++ []) ≡ area_frame (record { number = n; corners = b })
unfolding framed area_frame
area_framed n b =
    let e : 3 + length b ≡ 2 + length (n ∷ b) = omega arith in
    (λ i. frame_head 7 (3 + length (append-nil b i)) ++ (n ∷ append-nil b i)) ∙ ap (λ (k : ℕ). frame_head 7 k ++ (n ∷ b)) e

pub returns-then-corners-from : goal.returns-then-corners-from
unfolding write_call
returns-then-corners-from c =
    let s = c.args.corners.now in
    let w = c.from.ensures ∙ c.u8_at.ensures in
    rw (ne_eqb (length s) (1 + 8 * u8_at s 0) (subst (λ (n : ℕ). length s ≡ 1 + 8 * n → ⊥) w c.if-corners-from.true)) record { value = refl; output_after = refl }

pub returns : goal.returns
unfolding write_call
returns c =
    let a = c.args in
    let s = a.corners.now in
    let w = c.from.ensures ∙ c.u8_at.ensures in
    let f = area_framed a.number s in
    let p = c.put_frame in
    rw (eq-eqb (length s) (1 + 8 * u8_at s 0) (subst (λ (n : ℕ). length s ≡ 1 + 8 * n) w c.if-corners-from.false)) record { value = ap frame_number p.ensures.value ∙ ap (λ (g : List ℕ). room_fault g a.output.now) f; output_after = p.ensures.output_after ∙ ap (λ (g : List ℕ). frame_written g a.output.now) f }
