-- Adds and removes on bytes. Assumes nothing.
use Prim.Native.Nat.{ℕ, zero, suc, ◌+◌, ◌<◌, ◌^◌}
use mathlib.Core.Path.{◌≡◌, refl, sym, ap, subst, ◌∙◌}
use mathlib.Core.Bool.{Bool, true, false, cond}
use mathlib.Core.List.{List, [], ◌∷◌, ◌++◌}
use mathlib.Core.Logic.{◌⊎◌, inl, inr, ◌↔◌}
use native.Mathlib.Omega.{arith}
use lib.Dec.{eqb, ltb}
use lib.ListN.{length, take, drop, length-append}
use lib.Seq.{take_at}
use borrow.Author.Tests.{eq-eqb, ne_eqb, le-ltb}
use Rattle.wire.specs.Fields.{u8_at, number_at, u16_at, le_bytes, le16}
use Rattle.std.specs.Prelude.{Result, Ok, Err, ⊤}
use Rattle.wire.specs.declared.FrameError.{FrameError}
use Rattle.wire.specs.Frame.{frame_number, whole_frame, frame_head, room_fault, frame_written, check_room}
use Rattle.wire.proofs.Fields.{u16_back}
use Rattle.areas.specs.Held.{held, first, holds, place, without, area_fault, taken, add, remove}
use Rattle.areas.specs.Calls.{Line, called, code, kept, held_after, history, StillPresent}
use Rattle.areas.specs.Claim as lists
use Rattle.areas.proofs.Lists.{rising_unique}
use Rattle.areas.proofs.Claim.{held_are_present, fresh_list}
use Rattle.frame_areas.specs.AreaFrame.{Sent, area_rules, area_frame_fault, area_in}
use Rattle.frame_areas.specs.AreasFrame.{bodies, held_in, areas_fault, bodies_of, areas_frame}
use Rattle.frame_areas.proofs.Frames.{Accepted, accepted, accepted_small, accepted_frame, accepted_place, accepted_without, areas_back, areas_length, area_sent}
use Rattle.edit_areas.specs.Edit.{edited, add_call, remove_call}
use Rattle.frame_areas.proofs.Walk.{first_zero}
use Rattle.edit_areas.proofs.Answers.{held_as}
use Rattle.edit_areas.specs.History.{Edit, adds_area, removes_area, on, call_of, frame_after, answers, accepted_calls, frame_of, EditsClaim}

-- ---- the frame written, cut out of the output
field : (l : List Sent) (r : List ℕ) → 3 + length (bodies_of l) < 2 ^ 16 → u16_at (areas_frame l ++ r) 0 ≡ 3 + length (bodies_of l)
unfolding areas_frame frame_head u8_at number_at u16_at le16 le_bytes
field l r k = u16_back (3 + length (bodies_of l)) k

whole : (l : List Sent) (r : List ℕ) → 3 + length (bodies_of l) < 2 ^ 16 → whole_frame (areas_frame l ++ r) ≡ length (areas_frame l)
unfolding whole_frame
whole l r k =
    let n = areas_length l in
    let m = length-append (areas_frame l) r in
    rw (
      field l r k,
      le-ltb (length (areas_frame l ++ r)) 2 (omega arith),
      le-ltb (length (areas_frame l ++ r)) (2 + (3 + length (bodies_of l))) (omega arith),
    )
    (omega arith)

room : (b : Bool) → frame_number (cond {A = Result ⊤ FrameError} b (Err FrameError.NoRoom) (Ok tt)) ≡ 0 → b ≡ false
room false e = refl
room true e = absurd (omega arith)

cut : (l : List Sent) (output : List ℕ) → Accepted l → room_fault (areas_frame l) output ≡ 0
    → take (whole_frame (frame_written (areas_frame l) output)) (frame_written (areas_frame l) output) ≡ areas_frame l
unfolding check_room frame_written
cut l output p e =
    let r = drop (length (areas_frame l)) output in
    rw (room (ltb (length output) (length (areas_frame l))) e)
    (ap (λ (n : ℕ). take n (areas_frame l ++ r)) (whole l r (accepted_small l p)) ∙ take_at (areas_frame l) r (length (areas_frame l)) refl)

-- what a call with no refusal leaves, where its answer is these areas
left : (n : ℕ) (l m : List Sent) (output : List ℕ) → l ≡ m → Accepted m → (edited n l output).number ≡ 0
    → take (whole_frame (edited n l output).output) (edited n l output).output ≡ areas_frame m
left n l m output k p e =
    let f = first_zero n (room_fault (areas_frame l) output) e in
    rw (k, f.0) (cut m output p (rw k at f.1))

-- ---- an accepted call
record Stepped (c : Edit) (s : List ℕ) : Type 0 where
  list : List Sent
  gives : called area_rules (held_in s) (call_of c) ≡ held list
  good : Accepted list
  frame : take (whole_frame (on c s).output) (on c s).output ≡ areas_frame list

stepped : (c : Edit) (s : List ℕ) → areas_fault s ≡ 0 → (on c s).number ≡ 0 → Stepped c s
unfolding add_call remove_call
stepped (adds_area area output) s h e =
    let l = held_in s in
    let a = area_in area in
    let added = add area_rules l a in
    let f = (first_zero (first (areas_fault s) (first (area_frame_fault area) (code added))) (room_fault (areas_frame (kept l added)) output) e).0 in
    let g = first_zero (area_frame_fault area) (code added) (first_zero (areas_fault s) (first (area_frame_fault area) (code added)) f).1 in
    let x = held_as (area_fault area_rules (taken l a.number) (length l) a) (place a l) g.1 in
    let p = accepted_place l a (accepted s h) (area_sent area g.0) x.0 in
    record {
      list = place a l;
      gives = x.1;
      good = p;
      frame = left (first (areas_fault s) (first (area_frame_fault area) (code added))) (kept l added) (place a l) output (ap (kept l) x.1) p e;
    }
stepped (removes_area n output) s h e =
    let l = held_in s in
    let removed = remove l n in
    let f = (first_zero (first (areas_fault s) (code removed)) (room_fault (areas_frame (kept l removed)) output) e).0 in
    let x = held_as (cond (holds n l) 0 31) (without n l) (first_zero (areas_fault s) (code removed) f).1 in
    let p = accepted_without n l (accepted s h) in
    record {
      list = without n l;
      gives = x.1;
      good = p;
      frame = left (first (areas_fault s) (code removed)) (kept l removed) (without n l) output (ap (kept l) x.1) p e;
    }

-- ---- any calls
record Kept (calls : List Edit) : Type 0 where
  areas : held_in (frame_after calls) ≡ held_after area_rules (accepted_calls calls)
  frame : frame_after calls ≡ frame_of (accepted_calls calls)
  taken : areas_fault (frame_after calls) ≡ 0
  same : (a : Sent) → StillPresent a (answers calls) ↔ StillPresent a (history area_rules (accepted_calls calls))

onward : {A B X Y : Type 0} → (X → Y) → A ⊎ (B × X) → A ⊎ (B × Y)
onward f (inl a) = inl a
onward f (inr i) = inr (i.0, f i.1)

module _ (c : Edit) (earlier : List Edit) (p : Kept earlier) where
  abbrev number : ℕ
  number = (on c (frame_after earlier)).number

  refused : (n : ℕ) → number ≡ suc n → Kept (c ∷ earlier)
  unfolding frame_after accepted_calls answers
  refused n e =
      let q : eqb number 0 ≡ false = ne_eqb number 0 (λ h. omega arith) in
      let r : accepted_calls (c ∷ earlier) ≡ accepted_calls earlier = rw q in
      record {
        areas = rw q p.areas;
        frame = rw q p.frame;
        taken = rw q p.taken;
        same = λ a. subst (λ x. StillPresent a (answers (c ∷ earlier)) ↔ StillPresent a (history area_rules x)) (sym r) (to a, back a);
      }
    where
      to : (a : Sent) → StillPresent a (answers (c ∷ earlier)) → StillPresent a (history area_rules (accepted_calls earlier))
      to a (inl h) = let z : number ≡ 0 = ap (λ (k : Line (List ℕ)). k.answered) h in absurd (omega arith)
      to a (inr i) = (p.same a).0 i.1

      back : (a : Sent) → StillPresent a (history area_rules (accepted_calls earlier)) → StillPresent a (answers (c ∷ earlier))
      back a i = inr (rw (ne_eqb number 0 (λ h. omega arith)), (p.same a).1 i)

  took : number ≡ 0 → Kept (c ∷ earlier)
  unfolding frame_after accepted_calls answers held_after history
  took e =
      let q : eqb number 0 ≡ true = eq-eqb number 0 e in
      let t = stepped c (frame_after earlier) p.taken e in
      let given : called area_rules (held_after area_rules (accepted_calls earlier)) (call_of c) ≡ held t.list = rw p.areas at t.gives in
      let after : held_after area_rules (call_of c ∷ accepted_calls earlier) ≡ t.list = ap (kept (held_after area_rules (accepted_calls earlier))) given in
      record {
        areas = rw q (ap held_in t.frame ∙ areas_back t.list t.good.sent ∙ sym after);
        frame = rw q (t.frame ∙ ap areas_frame (sym after));
        taken = rw q (ap areas_fault t.frame ∙ accepted_frame t.list t.good);
        same = λ a. rw (q, e, given) (onward (p.same a).0, onward (p.same a).1);
      }

kept_all : (calls : List Edit) → Kept calls
unfolding frame_after accepted_calls answers held_after history held_in areas_fault bodies u8_at
kept_all [] = record { areas = refl; frame = refl; taken = refl; same = λ a. ((λ i. i), (λ i. i)) }
kept_all (c ∷ earlier) = by (on c (frame_after earlier)).number refl (kept_all earlier)
  where
    by : (n : ℕ) → (on c (frame_after earlier)).number ≡ n → Kept earlier → Kept (c ∷ earlier)
    by zero e p = took c earlier p e
    by (suc n) e p = refused c earlier p n e

pub edits_claim : EditsClaim
edits_claim calls =
    let k = kept_all calls in
    let r = accepted_calls calls in
    let h = (held_are_present area_rules r).0 in
    record {
      present = record { members = λ a. rw k.areas ((λ i. (k.same a).1 ((h.members a).0 i)), (λ i. (h.members a).1 ((k.same a).0 i))); rising = rw k.areas h.rising };
      fresh = λ m p.
          let q : lists.Present area_rules r m = record { members = λ a. ((λ i. (k.same a).0 ((p.members a).0 i)), (λ i. (p.members a).1 ((k.same a).1 i))); rising = p.rising } in
          let e : held_after area_rules r ≡ m = rising_unique (held_after area_rules r) m h.rising q.rising (λ a. ((λ i. (q.members a).1 ((h.members a).0 i)), (λ i. (h.members a).1 ((q.members a).0 i)))) in
          (fresh_list area_rules r m q ∙ ap held e, k.areas ∙ e);
      areas = k.areas;
      frame = k.frame;
      taken = k.taken;
    }
