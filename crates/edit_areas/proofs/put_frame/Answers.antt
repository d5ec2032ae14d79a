-- `edit_areas::put_frame` meets its contract. Assumes nothing.
use Prim.Native.Nat.{ℕ, ◌+◌}
use mathlib.Core.List.{List, ◌++◌}
use mathlib.Core.Path.{◌≡◌, ◌∙◌, ap, sym}
use native.Mathlib.Omega.{arith}
use lib.ListN.{length, length-append}
use lib.Seq.{sets}
use Rattle.wire.specs.Fields.{le8}
use Rattle.wire.specs.Frame.{frame_head}
use Rattle.wire.proofs.Head.{room, no_room}
use Rattle.edit_areas.specs.Cut.{framed}
use Rattle.edit_areas.proofs.Stores.{framed_length, frame_stored}
use Rattle.edit_areas.proofs.put_frame.Goals as goal

pub returns-then-output-n : goal.returns-then-output-n
returns-then-output-n c =
    let a = c.args in
    let m = a.area.now ++ a.after.now in
    let b = a.before.now ++ m in
    let k : length b ≡ length a.before.now + length a.area.now + length a.after.now = omega (arith, length-append a.before.now m, length-append a.area.now a.after.now) in
    let all = no_room (framed a.kind a.first b) a.output.now (5 + length b) (framed_length a.kind a.first b) (omega (arith, k, c.if-output-n.true)) in
    record { value = all.0; output_after = all.1 }

pub returns : goal.returns
returns c =
    let a = c.args in
    let x = a.before.now in
    let y = a.area.now in
    let z = a.after.now in
    let k : length (x ++ (y ++ z)) ≡ length x + length y + length z = omega (arith, length-append x (y ++ z), length-append y z) in
    let r = room (framed a.kind a.first (x ++ (y ++ z))) a.output.now (5 + length (x ++ (y ++ z))) (framed_length a.kind a.first (x ++ (y ++ z))) (omega (arith, k, c.if-output-n.false)) in
    let e : c.put_head.new.s ≡ sets a.output.now 0 (frame_head a.kind (3 + (length x + length y + length z))) = c.put_head.ensures in record {
      value = r.0;
      output_after = c.put_part-3.ensures
          ∙ ap (λ (o : List ℕ). sets o (5 + length x + length y) z) c.put_part-2.ensures
          ∙ ap (λ (o : List ℕ). sets (sets o (5 + length x) y) (5 + length x + length y) z) c.put_part.ensures
          ∙ ap (λ (o : List ℕ). sets (sets (sets o 5 x) (5 + length x) y) (5 + length x + length y) z) c.put_u8.ensures
          ∙ ap (λ (o : List ℕ). sets (sets (sets (sets o 4 (le8 a.first)) 5 x) (5 + length x) y) (5 + length x + length y) z) e
          ∙ frame_stored a.kind a.output.now a.first x y z (length x + length y + length z) (sym k)
          ∙ r.1;
    }
