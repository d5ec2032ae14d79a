-- The spelling by places, for the code. Assumes nothing.
use borrow.Rule.Slice.PartMut.{put_mid, mid_of}
use Rattle.std.proofs.Math.Seq.{take-length, drop-length}
use Rattle.std.proofs.Common.{append-nil}
use Prim.Native.Nat.{ℕ, suc, ◌+◌, ◌-◌, ◌≤◌, ◌<◌}
use native.Mathlib.Omega.{arith}
use mathlib.Core.Path.{◌≡◌, refl, sym, ap, ◌∙◌}
use mathlib.Core.Bool.{Bool, true, false, cond}
use mathlib.Core.List.{List, [], ◌∷◌, reverse}
use lib.ListN.{length, get_or, drop, drop_of_length-le}
use lib.Seq.{drop-cons, get_or-drop}
use Rattle.corners.proofs.Laws.{get_or-within}
use Rattle.geometry.proofs.Hold.{get_d_reverse}
use Rattle.rings.specs.Spelling.{least_at, onward, Order}
use Rattle.rings.proofs.Spelling.{irrefl}

module _ {A : Type 0} where
  -- ---- the two neighbours of the first
  last_of : (h : A) (t : List A) (d : A) → get_or (reverse t) 0 h ≡ get_or (h ∷ t) (length t) d
  last_of h [] d = refl
  last_of h (b ∷ t) d =
      let e : suc (length t) - 1 - 0 ≡ length t = omega arith in
      get_d_reverse (b ∷ t) 0 h (omega arith) ∙ rw e (get_or-within (b ∷ t) (length t) h d (omega arith))

  module _ (before : A → A → Bool) where
    same_either : (b : Bool) (x : List A) → x ≡ cond b x x
    same_either true x = refl
    same_either false x = refl

    -- of one or two corners there is one way
    pub onward_few : (l : List A) → length l < 3 → l ≡ onward before l
    unfolding onward
    onward_few [] h = refl
    onward_few (a ∷ []) h = ap (λ (x : List A). a ∷ x) (same_either _ [])
    onward_few (a ∷ b ∷ []) h = ap (λ (x : List A). a ∷ x) (same_either _ (b ∷ []))
    onward_few (a ∷ b ∷ c ∷ l) h = absurd (omega arith)

    lesser : (a b : A) (t : List A) (d : A) → before (get_or (reverse (b ∷ t)) 0 a) b ≡ before (get_or (a ∷ b ∷ t) (length (a ∷ b ∷ t) - 1) d) (get_or (a ∷ b ∷ t) 1 d)
    lesser a b t d =
        let e : length (b ∷ t) ≡ length (a ∷ b ∷ t) - 1 = omega arith in
        ap (λ (x : A). before x b) (last_of a (b ∷ t) d ∙ ap (λ (x : ℕ). get_or (a ∷ b ∷ t) x d) e)

    -- back from the last, where it is before the second
    pub onward_back : (l : List A) (d : A) → 3 ≤ length l → before (get_or l (length l - 1) d) (get_or l 1 d) ≡ true
        → put_mid 1 (length l - 1) l (reverse (mid_of 1 (length l - 1) l)) ≡ onward before l
    unfolding onward
    onward_back [] d k h = absurd (omega arith)
    onward_back (a ∷ []) d k h = absurd (omega arith)
    onward_back (a ∷ b ∷ t) d k h =
        let m = b ∷ t in
        let e : length (a ∷ m) - 1 ≡ length m = omega arith in
        rw (lesser a b t d, h, e, take-length t, drop-length t, append-nil (reverse m))

    pub onward_on : (l : List A) (d : A) → 3 ≤ length l → before (get_or l (length l - 1) d) (get_or l 1 d) ≡ false → l ≡ onward before l
    unfolding onward
    onward_on [] d k h = absurd (omega arith)
    onward_on (a ∷ []) d k h = absurd (omega arith)
    onward_on (a ∷ b ∷ t) d k h = rw (lesser a b t d, h)

    -- ---- the place of the least, from the last corner back
    module _ (o : Order before) where
      pub least_last : (l : List A) (n : ℕ) (d : A) → n ≡ length l → 0 < n → least_at before (drop (n - 1) l) ≡ 0
      unfolding least_at
      least_last l n d e h =
          let a = get_or l (n - 1) d in
          let none : drop (suc (n - 1)) l ≡ [] = drop_of_length-le l {i = suc (n - 1)} (omega arith) in
          rw (drop-cons l (n - 1) d (omega arith), none, irrefl before o a)

      least_on : (l : List A) (j k : ℕ) (d : A) → k ≡ suc j + least_at before (drop (suc j) l) → k < length l
          → j + least_at before (drop j l) ≡ cond (before (get_or l k d) (get_or l j d)) k j
      unfolding least_at
      least_on l j k d e h =
          let a = get_or l j d in
          let m = drop (suc j) l in
          let k' = least_at before m in
          let other : get_or m k' a ≡ get_or l k d = get_or-drop (suc j) l k' a ∙ ap (λ (x : ℕ). get_or l x a) (sym e) ∙ get_or-within l k a d h in
          ap (λ (x : List A). j + least_at before x) (drop-cons l j d (omega arith)) ∙ ap (λ (x : A). j + cond (before x a) (suc k') 0) other ∙ way (before (get_or l k d) a)
        where
          way : (b : Bool) → j + cond b (suc (least_at before (drop (suc j) l))) 0 ≡ cond b k j
          way true = omega arith
          way false = omega arith

      pub least_back : (l : List A) (i k : ℕ) (d : A) → 0 < i → k ≡ i + least_at before (drop i l) → k < length l
          → i - 1 + least_at before (drop (i - 1) l) ≡ cond (before (get_or l k d) (get_or l (i - 1) d)) k (i - 1)
      least_back l i k d p e h = let f : suc (i - 1) ≡ i = omega arith in least_on l (i - 1) k d (rw f e) h

      pub least_start : (l : List A) (d : A) → length l - 1 ≡ length l - 1 + least_at before (drop (length l - 1) l)
      unfolding least_at
      least_start [] d = refl
      least_start (a ∷ l) d = rw (least_last (a ∷ l) (length (a ∷ l)) d refl (omega arith)) (omega arith)
