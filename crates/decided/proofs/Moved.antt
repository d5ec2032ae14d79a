-- Bytes moved to the front of a slice. Assumes nothing.
use Prim.Native.Nat.{ℕ, zero, suc, ◌+◌, ◌-◌, ◌<◌, ◌≤◌, min}
use native.Mathlib.Omega.{arith}
use native.Mathlib.Nat.{min-le_right}
use mathlib.Core.List.{List, [], ◌∷◌, ◌++◌}
use mathlib.Core.Path.{◌≡◌, refl, sym, ◌∙◌, ap}
use lib.ListN.{length, take, drop, drop_of_length-le, length-take, length-drop, length-append, take-append-drop}
use lib.Seq.{slice, paste}
use Rattle.decided.proofs.Rest.{lent}
use Rattle.decided.specs.Program.{moved_front}

-- how many bytes there are to move
pub slice_length : (from end : ℕ) (s : List ℕ) → length (slice from end s) ≡ min end (length s) - from
slice_length from end s = simp (length-drop, length-take)

take_back : (end : ℕ) (s : List ℕ) → take (length (take end s)) s ≡ take end s
take_back zero s = refl
take_back (suc end) [] = refl
take_back (suc end) (x ∷ s) = ap (λ (r : List ℕ). x ∷ r) (take_back end s)

-- none, where the place is not before the end
pub moved_none : (from end n : ℕ) (s : List ℕ) → n ≡ min end (length s) → n ≤ from → s ≡ moved_front from end s
unfolding moved_front
moved_none from end n s e h =
    let none : slice from end s ≡ [] = drop_of_length-le (take end s) {i = from} (simp length-take (omega arith)) in
    rw none refl

-- none, where they stand at the front already
pub move_none : (end n : ℕ) (s : List ℕ) → n ≡ min end (length s) → (n ≡ length (slice 0 end s)) × (s ≡ moved_front 0 end s)
unfolding moved_front
move_none end n s e =
    let len : length (slice 0 end s) ≡ min end (length s) = slice_length 0 end s ∙ omega arith in
    (e ∙ sym len, sym (ap (λ (r : List ℕ). r ++ drop (length (take end s)) s) (sym (take_back end s)) ∙ take-append-drop (length (take end s)) s))

pub move_nothing : (from end : ℕ) (s : List ℕ) → from ≡ 0 → s ≡ moved_front from end s
move_nothing from end s z = rw z (move_none end (min end (length s)) s refl).1

-- those that stand behind the place, up to the end of the slice
pub moved : (from end n : ℕ) (s after : List ℕ) → n ≡ min end (length s) → from < n → after ≡ paste s 0 (drop from s) (n - from) → after ≡ moved_front from end s
unfolding moved_front
moved from end n s after e h a =
    let count : n - from ≡ length (slice from end s) = ap (λ (k : ℕ). k - from) e ∙ sym (slice_length from end s) in
    let there : take (n - from) (drop from s) ≡ slice from end s =
    lent from n s (omega arith) (omega (arith, min-le_right end (length s))) ∙ ap (λ (k : ℕ). drop from (take k s)) (e ∙ sym (length-take end s)) ∙ ap (drop from) (take_back end s) in
    let at : 0 + (n - from) ≡ n - from = omega arith in
    rw (a, at) (λ i. there i ++ drop (count i) s)

pub moved_length : (from end : ℕ) (s : List ℕ) → length (moved_front from end s) ≡ length s
unfolding moved_front
moved_length from end s = simp (length-append, length-drop, length-take) (omega (arith, min-le_right end (length s)))
