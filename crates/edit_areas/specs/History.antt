-- Document 02, L3: "After any adds and removes from none, refused ones changing nothing, the areas held equal a fresh list of those still present, in
-- order of number", about the bytes that a host holds. Lists have the latest call first. Assumes nothing.
use Rattle.std.specs.Prelude.{ℕ, cond, List, [], ◌∷◌, ◌↔◌, ◌≡◌, eqb, take}
use Rattle.wire.specs.Frame.{whole_frame}
use Rattle.areas.specs.Held.{held, Among, Rising, add_each}
use Rattle.areas.specs.Calls.{Call, adds, removes, Line, held_after, StillPresent}
use Rattle.frame_areas.specs.AreaFrame.{Sent, area_rules, area_in}
use Rattle.frame_areas.specs.AreasFrame.{held_in, areas_fault, areas_frame}
use Rattle.edit_areas.specs.Edit.{EditCall, add_call, remove_call}

-- a call of either entry: what it is handed beside the areas
pub data Edit : Type 0 where
  adds_area : List ℕ → List ℕ → Edit
  removes_area : ℕ → List ℕ → Edit

abbrev pub on : Edit → List ℕ → EditCall
on (adds_area area output) areas = add_call areas area output
on (removes_area n output) areas = remove_call areas n output

-- the list's call that it makes
abbrev pub call_of : Edit → Call (List ℕ)
call_of (adds_area area output) = adds (area_in area)
call_of (removes_area n output) = removes n

-- the areas' frame that a host holds after some calls, at first none: the one that the call wrote or, "refused ones changing nothing", the one before
unfoldable pub frame_after : List Edit → List ℕ
frame_after [] = []
frame_after (c ∷ earlier) =
    let call = on c (frame_after earlier) in
    cond (eqb call.number 0) (take (whole_frame call.output) call.output) (frame_after earlier)

-- the calls, each with the number that it answered
unfoldable pub answers : List Edit → List (Line (List ℕ))
answers [] = []
answers (c ∷ earlier) = record { call = call_of c; answered = (on c (frame_after earlier)).number } ∷ answers earlier

-- m is "those still present, in order of number", by the calls and their answers alone
pub record Present (calls : List Edit) (m : List Sent) : Type 0 where
  pub members : (a : Sent) → Among a m ↔ StillPresent a (answers calls)
  pub rising : Rising m

-- the calls that were accepted
unfoldable pub accepted_calls : List Edit → List (Call (List ℕ))
accepted_calls [] = []
accepted_calls (c ∷ earlier) = cond (eqb (on c (frame_after earlier)).number 0) (call_of c ∷ accepted_calls earlier) (accepted_calls earlier)

-- no frame before the first accepted call, then the one of the areas held
abbrev pub frame_of : List (Call (List ℕ)) → List ℕ
frame_of [] = []
frame_of (c ∷ calls) = areas_frame (held_after area_rules (c ∷ calls))

pub record Edited (calls : List Edit) : Type 0 where
  -- the areas that the frame holds are those still present, in order of number
  pub present : Present calls (held_in (frame_after calls))
  -- and no other list is: m, added area by area to none, is accepted, and is what the frame holds
  pub fresh : (m : List Sent) → Present calls m → (add_each area_rules [] m ≡ held m) × (held_in (frame_after calls) ≡ m)
  -- they are what the accepted calls leave held, and nothing else stands in the frame
  pub areas : held_in (frame_after calls) ≡ held_after area_rules (accepted_calls calls)
  pub frame : frame_after calls ≡ frame_of (accepted_calls calls)
  -- a step takes it
  pub taken : areas_fault (frame_after calls) ≡ 0

-- for all bytes that the calls are handed
abbrev pub EditsClaim : Type 0
EditsClaim = (calls : List Edit) → Edited calls
