-- A frame stored part by part. Assumes nothing.
use Prim.Native.Nat.{ℕ, ◌+◌, ◌-◌, ◌≤◌}
use native.Mathlib.Omega.{arith}
use mathlib.Core.Path.{◌≡◌, sym, ap, ◌∙◌}
use mathlib.Core.List.{List, [], ◌++◌, append-nil, append_assoc}
use lib.ListN.{length, take, drop, length-drop, drop_of_length-le}
use lib.Seq.{sets, sets-eq, take-length, drop-drop}
use Rattle.wire.specs.Fields.{le8, le_bytes, le16}
use Rattle.wire.specs.Frame.{frame_head}
use Rattle.wire.proofs.Stores.{sets_append}
use Rattle.edit_areas.specs.Cut.{framed}
use Rattle.frame_areas.proofs.Walk.{rest}

-- what `slices::copy` leaves in the bytes from `at` on, in its place
pub part_stored : {n : ℕ} {ys : List ℕ} (s part : List ℕ) (at : ℕ) → at + length part ≤ length s → n ≡ length part → ys ≡ take n part ++ drop n (take (length s - at) (drop at s))
    → take at s ++ (ys ++ drop (length s - at) (drop at s)) ≡ sets s at part
part_stored {n} {ys} s part at h e k =
    let none : drop (length s - at) (drop at s) ≡ [] = drop_of_length-le (drop at s) {i = length s - at} (omega (arith, length-drop at s)) in
    ap (λ (z : List ℕ). take at s ++ (ys ++ z)) none
    ∙ ap (λ (z : List ℕ). take at s ++ z) (append-nil ys ∙ k ∙ (λ i. take (e i) part ++ drop (e i) (rest s at i)) ∙ (λ i. take-length part i ++ drop-drop (length part) at s i))
    ∙ sym (append_assoc (take at s) part (drop (at + length part) s))
    ∙ sym (sets-eq part s at h)

pub framed_length : (kind count : ℕ) (b : List ℕ) → length (framed kind count b) ≡ 5 + length b
unfolding framed frame_head le16 le_bytes
framed_length kind count b = omega arith

-- head, first byte and three parts, one after the other
pub frame_stored : (kind : ℕ) (o : List ℕ) (count : ℕ) (x y z : List ℕ) (n : ℕ) → n ≡ length (x ++ (y ++ z))
    → sets (sets (sets (sets (sets o 0 (frame_head kind (3 + n))) 4 (le8 count)) 5 x) (5 + length x) y) (5 + length x + length y) z ≡ sets o 0 (framed kind count (x ++ (y ++ z)))
unfolding framed frame_head le8 le16 le_bytes
frame_stored kind o count x y z n e =
    let h = frame_head kind (3 + length (x ++ (y ++ z))) in
    ap (λ (m : ℕ). sets (sets (sets (sets (sets o 0 (frame_head kind (3 + m))) 4 (le8 count)) 5 x) (5 + length x) y) (5 + length x + length y) z) e
    ∙ sym
    (sets_append o 0 h (le8 count ++ (x ++ (y ++ z)))
    ∙ sets_append (sets o 0 h) 4 (le8 count) (x ++ (y ++ z))
    ∙ sets_append (sets (sets o 0 h) 4 (le8 count)) 5 x (y ++ z)
    ∙ sets_append (sets (sets (sets o 0 h) 4 (le8 count)) 5 x) (5 + length x) y z)
