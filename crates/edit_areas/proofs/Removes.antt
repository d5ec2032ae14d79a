-- A remove from slice to slice. Assumes nothing.
use Prim.Native.Nat.{ℕ, ◌+◌, ◌-◌, ◌≤◌, ◌<◌}
use native.Mathlib.Omega.{arith}
use mathlib.Core.Path.{◌≡◌, refl, sym, ap, ◌∙◌}
use mathlib.Core.Bool.{true, false}
use mathlib.Core.List.{List, ◌++◌}
use lib.ListN.{length, take, drop, length-append}
use Rattle.wire.specs.Fields.{u8_at}
use Rattle.wire.specs.Frame.{room_fault, frame_written}
use Rattle.areas.specs.Held.{first, holds, without, remove}
use Rattle.areas.specs.Calls.{code, kept}
use Rattle.frame_areas.specs.AreaFrame.{body_size}
use Rattle.frame_areas.specs.AreasFrame.{held_in, areas_fault, bodies_of, areas_frame}
use Rattle.frame_areas.proofs.Frames.{accepted, accepted_without, accepted_small}
use Rattle.frame_areas.proofs.Walk.{first_some}
use Rattle.edit_areas.specs.Edit.{remove_call}
use Rattle.edit_areas.specs.Cut.{below, onward, first_is, cut_at, framed}
use Rattle.edit_areas.proofs.Answers.{declined}
use Rattle.edit_areas.proofs.Cuts.{split, found, behind, taken_out, bodies_append}
use Rattle.edit_areas.proofs.Parts.{length-behind, held_count, at_within, after_five, front_five, end_within, later_part, removed_frame}

module _ (s : List ℕ) (n : ℕ) (output : List ℕ) where
  pub remove_declined : (f : ℕ) → f ≡ areas_fault s → 0 < f → (f ≡ (remove_call s n output).number) × (output ≡ (remove_call s n output).output)
  unfolding remove_call
  remove_declined f e k =
      let c = code (remove (held_in s) n) in
      declined (first (areas_fault s) c) f (kept (held_in s) (remove (held_in s) n)) output (e ∙ sym (first_some (areas_fault s) c (omega (arith, e, k)))) k

  module _ (e : areas_fault s ≡ 0) where
    pub remove_refused : first_is n (onward n (held_in s)) ≡ false → (31 ≡ (remove_call s n output).number) × (output ≡ (remove_call s n output).output)
    unfolding remove_call
    remove_refused h =
        let k : holds n (held_in s) ≡ false = sym (found n (held_in s) (accepted s e).good.rising) ∙ h in
        rw (e, k) (refl, refl)

    pub remove_accepted : first_is n (onward n (held_in s)) ≡ true
        → ((remove_call s n output).number ≡ room_fault (areas_frame (without n (held_in s))) output) × ((remove_call s n output).output ≡ frame_written (areas_frame (without n (held_in s))) output)
    unfolding remove_call
    remove_accepted h =
        let k : holds n (held_in s) ≡ true = sym (found n (held_in s) (accepted s e).good.rising) ∙ h in
        rw (e, k) (refl, refl)

    pub place_within : (at : ℕ) → at ≡ cut_at s n → at ≤ length s
    place_within at k = omega (arith, k, at_within s e n)

    -- what the code cuts out
    module _ (has : first_is n (onward n (held_in s)) ≡ true) where
      module _ (count size at : ℕ) (w : count ≡ u8_at s 4) (there : at ≡ cut_at s n) (g : size ≡ body_size (take (length s - at) (drop at s))) where
        sized : size ≡ body_size (take (length s - cut_at s n) (drop (cut_at s n) s))
        sized = g ∙ ap (λ (i : ℕ). body_size (take (length s - i) (drop i s))) there

        pub remove_within : (5 ≤ at) × (at + size ≤ length s)
        remove_within = (omega (arith, there, after_five s e n has), omega (arith, there, end_within s e n has size sized))

        pub some_held : 1 ≤ count
        some_held = omega (arith, w, held_count s e, ap length (split n (held_in s)), length-append (below n (held_in s)) (onward n (held_in s)), length-behind n (onward n (held_in s)) has)

        abbrev two : List ℕ
        two = take (at - 5) (drop 5 s) ++ take (length s - (at + size)) (drop (at + size) s)

        front_is : take (at - 5) (drop 5 s) ≡ bodies_of (below n (held_in s))
        front_is = ap (λ (i : ℕ). take (i - 5) (drop 5 s)) there ∙ front_five s e n has

        later_is : take (length s - (at + size)) (drop (at + size) s) ≡ bodies_of (behind (onward n (held_in s)))
        later_is = ap (λ (i : ℕ). take (length s - (i + size)) (drop (i + size) s)) there ∙ later_part s e n has size sized

        removed_small : length (bodies_of (below n (held_in s))) + length (bodies_of (behind (onward n (held_in s)))) < 65533
        removed_small =
            let t = ap bodies_of (taken_out n (held_in s) (accepted s e).good.rising has) ∙ bodies_append (below n (held_in s)) (behind (onward n (held_in s))) in
            omega (arith, accepted_small (without n (held_in s)) (accepted_without n (held_in s) (accepted s e)), ap length t, length-append (bodies_of (below n (held_in s))) (bodies_of (behind (onward n (held_in s)))))

        pub two_small : length (take (at - 5) (drop 5 s)) + 0 + length (take (length s - (at + size)) (drop (at + size) s)) < 65533
        two_small = omega (arith, removed_small, ap length front_is, ap length later_is)

        two_frame : framed 13 (count - 1) two ≡ areas_frame (without n (held_in s))
        two_frame = (λ i. framed 13 (w i - 1) (front_is i ++ later_is i)) ∙ removed_frame s e n has

        pub remove_written : (r : ℕ) (o : List ℕ) → r ≡ room_fault (framed 13 (count - 1) two) output → o ≡ frame_written (framed 13 (count - 1) two) output
            → (r ≡ (remove_call s n output).number) × (o ≡ (remove_call s n output).output)
        remove_written r o x y =
            let t = remove_accepted has in
            (x ∙ ap (λ (b : List ℕ). room_fault b output) two_frame ∙ sym t.0, y ∙ ap (λ (b : List ℕ). frame_written b output) two_frame ∙ sym t.1)
