-- A frame of kind 4 made one of kind 6 in its place, and back. Assumes nothing.
use Prim.Native.Nat.{ℕ}
use mathlib.Core.List.{List, [], ◌∷◌, ◌++◌, append_assoc, append-nil}
use mathlib.Core.Path.{◌≡◌, ◌∙◌, ap, refl, sym}
use native.Mathlib.Nat.{zero-add}
use native.Mathlib.Omega.{arith}
use lib.ListN.{length, take, drop, set, replicate, length-append, length-drop, take-append-drop}
use lib.Seq.{sets, length-take-le, take-length, drop-append-le, set_at, take-take}
use Rattle.wire.specs.Fields.{le8, le_bytes, le16}
use Rattle.wire.specs.Frame.{frame_head}
use Rattle.wire.proofs.Stores.{sets_append, stored}
use Rattle.wire.proofs.Over.{over, over_middle}
use Rattle.frame_side.specs.SideFrame.{with_side, without_side}

pub four : (kind len : ℕ) → length (frame_head kind len) ≡ 4
unfolding frame_head le16 le_bytes
four kind len = refl

one : (b : ℕ) → length (le8 b) ≡ 1
unfolding le8
one b = refl

module _ (f : List ℕ) (n : length f ≡ 95) where
  abbrev middle : List ℕ
  middle = drop 4 (take 94 f)

  middle_long : length middle ≡ 90
  middle_long = let a = length-take-le 94 f (omega arith) in let b = length-drop 4 (take 94 f) in omega arith

  last_long : length (drop 94 f) ≡ 1
  last_long = let a = length-drop 94 f in omega arith

  first_long : length (take 4 f) ≡ 4
  first_long = length-take-le 4 f (omega arith)

  -- a frame of 95 bytes is its head, its middle and its last byte
  parts : f ≡ take 4 f ++ (middle ++ drop 94 f)
  parts =
      sym (take-append-drop 94 f)
      ∙ ap (λ (x : List ℕ). x ++ drop 94 f) (sym (take-append-drop 4 (take 94 f)) ∙ ap (λ (x : List ℕ). x ++ middle) (take-take 4 94 f (omega arith)))
      ∙ append_assoc (take 4 f) middle (drop 94 f)

  -- the three stores of `put_side`, over the frame
  pub put_in : (l : List ℕ) (side : ℕ) → sets (sets (sets (sets l 0 f) 0 (frame_head 6 94)) 94 (le8 side)) 95 (drop 94 f) ≡ sets l 0 (with_side f side)
  put_in l side =
      let h = frame_head 6 94 in
      let m = middle in
      let e = drop 94 f in
      let s = le8 side in
      let hm : length (h ++ m) ≡ 94 = let a = length-append h m in let b = four 6 94 in let c = middle_long in omega arith in
      let hms : length ((h ++ m) ++ s) ≡ 95 = let a = length-append (h ++ m) s in let b = one side in omega arith in
      let first : sets (sets l 0 f) 0 h ≡ sets l 0 ((h ++ m) ++ (e ++ [])) =
      ap (λ (x : List ℕ). sets (sets l 0 x) 0 h) parts
      ∙ over l 0 (take 4 f) h (m ++ e) (first_long ∙ sym (four 6 94))
      ∙ ap (sets l 0) (sym (append_assoc h m e) ∙ ap (λ (x : List ℕ). (h ++ m) ++ x) (sym (append-nil e))) in
      let second : sets (sets l 0 ((h ++ m) ++ (e ++ []))) 94 s ≡ sets l 0 ((h ++ m) ++ (s ++ [])) =
      ap (λ (k : ℕ). sets (sets l 0 ((h ++ m) ++ (e ++ []))) k s) (sym hm ∙ sym (zero-add _)) ∙ over_middle l 0 (h ++ m) e s [] (last_long ∙ sym (one side)) in
      let third : sets (sets l 0 ((h ++ m) ++ s)) 95 e ≡ sets l 0 (((h ++ m) ++ s) ++ e) =
      ap (λ (k : ℕ). sets (sets l 0 ((h ++ m) ++ s)) k e) (sym hms ∙ sym (zero-add _)) ∙ sym (sets_append l 0 ((h ++ m) ++ s) e) in
      ap (λ (x : List ℕ). sets (sets x 94 s) 95 e) first
      ∙ ap (λ (x : List ℕ). sets x 95 e) (second ∙ ap (λ (x : List ℕ). sets l 0 ((h ++ m) ++ x)) (append-nil s))
      ∙ third
      ∙ ap (sets l 0) (append_assoc (h ++ m) s e ∙ append_assoc h m (s ++ e))

-- the stores of `without_side`: the first 94 bytes copied before a last one, then the head and the last byte
pub taken_out : (s : List ℕ) (z x : ℕ) → length s ≡ 96 → drop 95 s ≡ x ∷ [] → sets (sets (take 94 s ++ z ∷ []) 0 (frame_head 4 93)) 94 (le8 x) ≡ without_side s
unfolding le8
taken_out s z x n e =
    let h = frame_head 4 93 in
    let t = take 94 s in
    let tn : length t ≡ 94 = length-take-le 94 s (omega arith) in
    let hn = four 4 93 in
    let w : length (t ++ z ∷ []) ≡ 95 = let a = length-append t (z ∷ []) in omega arith in
    let dn : length (h ++ drop 4 t) ≡ 94 = let a = length-append h (drop 4 t) in let b = length-drop 4 t in omega arith in
    let first : sets (t ++ z ∷ []) 0 h ≡ (h ++ drop 4 t) ++ z ∷ [] =
    stored (t ++ z ∷ []) h (omega arith)
    ∙ ap (λ (k : ℕ). h ++ drop k (t ++ z ∷ [])) hn
    ∙ ap (λ (y : List ℕ). h ++ y) (drop-append-le 4 t (z ∷ []) (omega arith))
    ∙ sym (append_assoc h (drop 4 t) (z ∷ [])) in
    ap (λ (y : List ℕ). set y 94 x) first
    ∙ set_at (h ++ drop 4 t) z [] x 94 dn
    ∙ ap (λ (y : List ℕ). (h ++ drop 4 t) ++ y) (sym e)
    ∙ append_assoc h (drop 4 t) (drop 95 s)

-- what `slices::copy` leaves of them in an array of zeros
pub copied : {n : ℕ} {p : List ℕ} (s : List ℕ) → n ≡ length p → p ≡ take 94 s → length s ≡ 96 → take n p ++ drop n (replicate 95 0) ≡ take 94 s ++ 0 ∷ []
copied {n} {p} s e k h =
    let l : length p ≡ 94 = ap length k ∙ length-take-le 94 s (omega arith) in
    (λ i. take (e i) p ++ drop ((e ∙ l) i) (replicate 95 0)) ∙ ap (λ (x : List ℕ). x ++ 0 ∷ []) (take-length p ∙ k)
