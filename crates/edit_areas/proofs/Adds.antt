-- An add from slice to slice. Assumes nothing.
use Prim.Native.Nat.{ℕ, ◌+◌, ◌-◌, ◌≤◌, ◌<◌, min}
use native.Mathlib.Omega.{arith}
use mathlib.Core.Path.{◌≡◌, refl, sym, ap, ◌∙◌}
use mathlib.Core.Bool.{Bool, false, false≢true, ◌||◌}
use mathlib.Core.List.{List, ◌∷◌, ◌++◌}
use lib.Dec.{eqb}
use lib.ListN.{length, take, drop, length-append, length-drop}
use Rattle.wire.specs.Fields.{u8_at}
use Rattle.wire.specs.Frame.{room_fault, frame_written}
use Rattle.areas.specs.Held.{first, holds, place, area_fault, taken, answer, add}
use Rattle.areas.specs.Calls.{code, kept}
use Rattle.areas.proofs.Lists.{or_false, place_length}
use Rattle.areas.proofs.Good.{clear}
use Rattle.frame_areas.specs.AreaFrame.{Sent, area_rules, body_of, area_of, body_size, area_frame_fault, area_in}
use Rattle.frame_areas.specs.AreasFrame.{held_in, areas_fault, bodies_of, areas_frame}
use Rattle.frame_areas.proofs.Frames.{Accepted, area_body, area_sent, accepted, accepted_place, accepted_small}
use Rattle.std.specs.Prelude.{Result, Ok, Err}
use Rattle.std.specs.Result.{is_ok, IsErr}
use Rattle.frame_areas.proofs.Walk.{first_some, byte_behind, body_back, rest}
use Rattle.edit_areas.specs.Edit.{add_call}
use Rattle.edit_areas.specs.Cut.{below, onward, cut_at, place_of, framed}
use Rattle.edit_areas.proofs.Answers.{code_answer, declined, allowed}
use Rattle.edit_areas.proofs.Cuts.{placed, found, bodies_append, place_ok}
use Rattle.edit_areas.proofs.Parts.{framed_areas, held_count, at_is, at_within, front_part, back_part}

err_of : (r : Result ℕ ℕ) → is_ok r ≡ false → IsErr r
err_of (Ok x) h = absurd (false≢true (sym h))
err_of (Err e) h = refl

module _ (s area output : List ℕ) where
  abbrev l : List Sent
  l = held_in s

  abbrev a : Sent
  a = area_in area

  abbrev pub judged : ℕ
  judged = area_fault area_rules (taken l a.number) (length l) a

  abbrev Answers : ℕ → Type 0
  Answers f = (f ≡ (add_call s area output).number) × (output ≡ (add_call s area output).output)

  -- the areas held are refused
  pub areas_declined : (f : ℕ) → f ≡ areas_fault s → 0 < f → Answers f
  unfolding add_call
  areas_declined f e k =
      let rest = first (area_frame_fault area) (code (add area_rules l a)) in
      declined (first (areas_fault s) rest) f (kept l (add area_rules l a)) output (e ∙ sym (first_some (areas_fault s) rest (omega (arith, e, k)))) k

  -- or the area's frame
  pub area_declined : (f : ℕ) → areas_fault s ≡ 0 → f ≡ area_frame_fault area → 0 < f → Answers f
  unfolding add_call
  area_declined f h e k =
      let c = code (add area_rules l a) in
      declined (first (areas_fault s) (first (area_frame_fault area) c)) f (kept l (add area_rules l a)) output
      (e ∙ sym (ap (λ (n : ℕ). first n (first (area_frame_fault area) c)) h ∙ first_some (area_frame_fault area) c (omega (arith, e, k)))) k

  module _ (areas_sound : areas_fault s ≡ 0) (area_sound : area_frame_fault area ≡ 0) where
    refusals : first (areas_fault s) (first (area_frame_fault area) (code (add area_rules l a))) ≡ judged
    refusals = (λ i. first (areas_sound i) (first (area_sound i) (code (add area_rules l a)))) ∙ code_answer judged (place a l)

    -- or the area
    pub add_refused : (f : ℕ) → f ≡ judged → 0 < f → Answers f
    unfolding add_call
    add_refused f e k = declined (first (areas_fault s) (first (area_frame_fault area) (code (add area_rules l a)))) f (kept l (add area_rules l a)) output (e ∙ sym refusals) k

    pub area_part : take (length area - 4) (drop 4 area) ≡ body_of a
    unfolding area_in
    area_part = rest area 4 ∙ sym (body_back (drop 4 area) (omega (arith, area_body area area_sound)))

    pub number_is : u8_at area 4 ≡ a.number
    unfolding area_in
    number_is = sym (byte_behind area 4 0)

    pub area_long : 4 ≤ length area
    area_long = omega (arith, area_body area area_sound, length-drop 4 area)

    pub part_sized : length (take (length area - 4) (drop 4 area)) ≡ body_size (take (length area - 4) (drop 4 area))
    part_sized = rw (rest area 4) (area_body area area_sound)

    -- what the code hands to `check_body`
    pub handed : (number wide : ℕ) (p : Result ℕ ℕ) (wrong : Bool) → number ≡ u8_at area 4 → wide ≡ u8_at s 4 → p ≡ place_of s number → wrong ≡ eqb number 0 || is_ok p
        → area_fault area_rules wrong wide (area_of (take (length area - 4) (drop 4 area))) ≡ judged
    unfolding area_in
    handed number wide p wrong q w k g =
        let n : number ≡ a.number = q ∙ number_is in
        let t : wrong ≡ taken l a.number =
        g ∙ ap (λ (x : Result ℕ ℕ). eqb number 0 || is_ok x) k ∙ ap (λ (x : Bool). eqb number 0 || x) (place_ok s number ∙ found number l (accepted s areas_sound).good.rising) ∙ ap (taken l) n in
        (λ i. area_fault area_rules (t i) ((w ∙ sym (held_count s areas_sound)) i) (area_of (rest area 4 i)))

    module _ (f : judged ≡ 0) where
      then_held : holds a.number l ≡ false
      then_held = (or_false (eqb a.number 0) (holds a.number l) (clear area_rules (taken l a.number) l a f).number).1

      -- so its place is one where it would be
      pub not_held : IsErr (place_of s a.number)
      not_held = err_of (place_of s a.number) (place_ok s a.number ∙ found a.number l (accepted s areas_sound).good.rising ∙ then_held)

      pub after : Accepted (place a l)
      after = accepted_place l a (accepted s areas_sound) (area_sent area area_sound) f

      pub room_left : u8_at s 4 < 8
      room_left = omega (arith, (clear area_rules (taken l a.number) l a f).room, held_count s areas_sound)

      added_bytes : bodies_of (place a l) ≡ bodies_of (below a.number l) ++ (body_of a ++ bodies_of (onward a.number l))
      unfolding bodies_of
      added_bytes = ap bodies_of (placed a l then_held) ∙ bodies_append (below a.number l) (a ∷ onward a.number l)

      pub added_frame : framed 13 (u8_at s 4 + 1) (bodies_of (below a.number l) ++ (body_of a ++ bodies_of (onward a.number l))) ≡ areas_frame (place a l)
      added_frame = framed_areas (place a l) (u8_at s 4 + 1) _ (omega (arith, place_length a l, held_count s areas_sound)) (sym added_bytes)

      pub added_small : length (bodies_of (below a.number l)) + length (body_of a) + length (bodies_of (onward a.number l)) < 65533
      added_small =
          let m = bodies_of (onward a.number l) in
          omega (arith, accepted_small (place a l) after, ap length added_bytes, length-append (bodies_of (below a.number l)) (body_of a ++ m), length-append a.corners m)

      pub add_accepted : ((add_call s area output).number ≡ room_fault (areas_frame (place a l)) output) × ((add_call s area output).output ≡ frame_written (areas_frame (place a l)) output)
      unfolding add_call
      add_accepted = allowed (first (areas_fault s) (first (area_frame_fault area) (code (add area_rules l a)))) (kept l (add area_rules l a)) (place a l) output (refusals ∙ f) (ap (λ (n : ℕ). kept l (answer n (place a l))) f)

      -- what the code cuts out
      module _ (count from at : ℕ) (w : count ≡ u8_at s 4) (g : from ≡ min (length s) 5) (there : at ≡ cut_at s a.number) where
        pub cut_within : (from ≤ at) × (at ≤ length s)
        cut_within =
            let d = at_is s areas_sound a.number in
            let b = at_within s areas_sound a.number in
            (omega (arith, there, d, g), omega (arith, there, b))

        abbrev three : List ℕ
        three = take (at - from) (drop from s) ++ (take (length area - 4) (drop 4 area) ++ take (length s - at) (drop at s))

        front_is : take (at - from) (drop from s) ≡ bodies_of (below a.number l)
        front_is = (λ i. take (there i - g i) (drop (g i) s)) ∙ front_part s areas_sound a.number

        back_is : take (length s - at) (drop at s) ≡ bodies_of (onward a.number l)
        back_is = (λ i. take (length s - there i) (drop (there i) s)) ∙ back_part s areas_sound a.number

        pub cut_small : length (take (at - from) (drop from s)) + length (take (length area - 4) (drop 4 area)) + length (take (length s - at) (drop at s)) < 65533
        cut_small = omega (arith, added_small, ap length front_is, ap length area_part, ap length back_is)

        pub cut_frame : framed 13 (count + 1) three ≡ areas_frame (place a l)
        cut_frame = (λ i. framed 13 (w i + 1) (front_is i ++ (area_part i ++ back_is i))) ∙ added_frame

        pub add_written : (r : ℕ) (o : List ℕ) → r ≡ room_fault (framed 13 (count + 1) three) output → o ≡ frame_written (framed 13 (count + 1) three) output
            → (r ≡ (add_call s area output).number) × (o ≡ (add_call s area output).output)
        add_written r o x y =
            let t = add_accepted in
            (x ∙ ap (λ (b : List ℕ). room_fault b output) cut_frame ∙ sym t.0, y ∙ ap (λ (b : List ℕ). frame_written b output) cut_frame ∙ sym t.1)
