-- The parts that an edit cuts the areas held into, as bytes. Assumes nothing.
use Prim.Native.Nat.{ℕ, suc, ◌+◌, ◌-◌, ◌≤◌, min}
use native.Mathlib.Omega.{arith}
use mathlib.Core.Path.{◌≡◌, refl, sym, ap, ◌∙◌}
use mathlib.Core.Bool.{true, false≢true}
use mathlib.Core.List.{List, [], ◌∷◌, ◌++◌}
use lib.ListN.{length, take, drop, length-append, length-drop}
use lib.Seq.{take_at, drop_at, drop-drop}
use Rattle.wire.specs.Fields.{u8_at}
use Rattle.wire.specs.Frame.{frame_head}
use Rattle.areas.specs.Held.{All, without}
use Rattle.areas.proofs.Lists.{all_right}
use Rattle.frame_areas.specs.AreaFrame.{Sent, body_of, body_size}
use Rattle.frame_areas.specs.AreasFrame.{held_in, areas_fault, bodies_of, areas_frame}
use Rattle.frame_areas.proofs.Walk.{AsSent, Filled, filled, rest, from_five}
use Rattle.frame_areas.proofs.Frames.{body_size_lem, accepted, accepted_fit}
use Rattle.edit_areas.specs.Cut.{below, onward, first_is, cut_at, framed}
use Rattle.edit_areas.proofs.Cuts.{split, behind, taken_out, bodies_append}

pub framed_areas : (l : List Sent) (count : ℕ) (b : List ℕ) → count ≡ length l → b ≡ bodies_of l → framed 13 count b ≡ areas_frame l
unfolding framed areas_frame
framed_areas l count b e f = λ i. frame_head 13 (3 + length (f i)) ++ (e i ∷ f i)

-- the first body of some is cut off by its size
cut_first : (n : ℕ) (m : List Sent) → All AsSent m → first_is n m ≡ true
    → (length (bodies_of m) ≡ body_size (bodies_of m) + length (bodies_of (behind m))) × (drop (body_size (bodies_of m)) (bodies_of m) ≡ bodies_of (behind m))
unfolding bodies_of
cut_first n [] p h = absurd (false≢true h)
cut_first n (a ∷ m) p h =
    let k = body_size_lem a (bodies_of m) p.0 in
    (omega (arith, k, length-append a.corners (bodies_of m)), ap (λ (j : ℕ). drop j (body_of a ++ bodies_of m)) k ∙ drop_at (body_of a) (bodies_of m) (length (body_of a)) refl)

pub length-behind : (n : ℕ) (m : List Sent) → first_is n m ≡ true → suc (length (behind m)) ≡ length m
length-behind n [] h = absurd (false≢true h)
length-behind n (a ∷ m) h = refl

-- ---- the parts of the areas held
module _ (s : List ℕ) (e : areas_fault s ≡ 0) where
  all_of : Filled (u8_at s 4) (drop 5 s)
  all_of = filled (u8_at s 4) (drop 5 s) (accepted_fit s e)

  pub held_bytes : bodies_of (held_in s) ≡ drop 5 s
  unfolding held_in
  held_bytes = all_of.same

  pub held_count : length (held_in s) ≡ u8_at s 4
  unfolding held_in
  held_count = all_of.count

  module _ (n : ℕ) where
    abbrev front : List ℕ
    front = bodies_of (below n (held_in s))

    abbrev back : List ℕ
    back = bodies_of (onward n (held_in s))

    parts : drop (min (length s) 5) s ≡ front ++ back
    parts = from_five s ∙ sym held_bytes ∙ ap bodies_of (sym (split n (held_in s))) ∙ bodies_append (below n (held_in s)) (onward n (held_in s))

    pub at_is : cut_at s n ≡ min (length s) 5 + length front
    unfolding cut_at
    at_is = refl

    pub at_within : cut_at s n + length back ≡ length s
    at_within = omega (arith, at_is, ap length parts, length-append front back, length-drop (min (length s) 5) s)

    pub front_part : take (cut_at s n - min (length s) 5) (drop (min (length s) 5) s) ≡ front
    front_part = rw parts (take_at front back (cut_at s n - min (length s) 5) (omega (arith, at_is)))

    from_at : drop (cut_at s n) s ≡ back
    from_at =
        ap (λ (k : ℕ). drop k s) at_is
        ∙ sym (drop-drop (length front) (min (length s) 5) s)
        ∙ ap (drop (length front)) parts
        ∙ drop_at front back (length front) refl

    pub back_part : take (length s - cut_at s n) (drop (cut_at s n) s) ≡ back
    back_part = rest s (cut_at s n) ∙ from_at

    -- the body at the cut, where it has the number
    back_sent : All AsSent (onward n (held_in s))
    back_sent = all_right AsSent (below n (held_in s)) (onward n (held_in s)) (rw (split n (held_in s)) (accepted s e).sent)

    module _ (h : first_is n (onward n (held_in s)) ≡ true) where
      abbrev later : List ℕ
      later = bodies_of (behind (onward n (held_in s)))

      cut : (length back ≡ body_size back + length later) × (drop (body_size back) back ≡ later)
      cut = cut_first n (onward n (held_in s)) back_sent h

      pub five : min (length s) 5 ≡ 5
      five = omega (arith, cut.0, at_is, at_within)

      pub after_five : 5 ≤ cut_at s n
      after_five = omega (arith, five, at_is)

      pub front_five : take (cut_at s n - 5) (drop 5 s) ≡ front
      front_five = rw five at front_part

      module _ (size : ℕ) (g : size ≡ body_size (take (length s - cut_at s n) (drop (cut_at s n) s))) where
        size_is : size ≡ body_size back
        size_is = g ∙ ap body_size back_part

        pub end_within : cut_at s n + size ≤ length s
        end_within = omega (arith, size_is, cut.0, at_within)

        pub later_part : take (length s - (cut_at s n + size)) (drop (cut_at s n + size) s) ≡ later
        later_part =
            rest s (cut_at s n + size)
            ∙ sym (drop-drop size (cut_at s n) s)
            ∙ (λ i. drop (size_is i) (from_at i))
            ∙ cut.1

      pub removed_frame : framed 13 (u8_at s 4 - 1) (front ++ later) ≡ areas_frame (without n (held_in s))
      removed_frame =
          let l = held_in s in
          let t = taken_out n l (accepted s e).good.rising h in
          let m = length-append (below n l) (onward n l) in
          let k = length-append (below n l) (behind (onward n l)) in
          framed_areas (without n l) (u8_at s 4 - 1) (front ++ later)
          (omega (arith, held_count, ap length (split n l), ap length t, m, k, length-behind n (onward n l) h))
          (sym (ap bodies_of t ∙ bodies_append (below n l) (behind (onward n l))))
