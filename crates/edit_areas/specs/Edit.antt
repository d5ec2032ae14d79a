-- `failsafe_add_area` and `failsafe_remove_area`: number and output for all bytes. Assumes nothing.
use Rattle.std.specs.Prelude.{ℕ, ◌+◌, ◌*◌, cond, List, eqb, length}
use Rattle.wire.specs.Fields.{u8_at}
use Rattle.wire.specs.Frame.{room_fault, frame_written}
use Rattle.areas.specs.Held.{first, add, remove}
use Rattle.areas.specs.Calls.{code, kept}
use Rattle.frame_areas.specs.AreaFrame.{Sent, area_rules, area_frame_fault, area_in, area_frame}
use Rattle.frame_areas.specs.AreasFrame.{held_in, areas_fault, areas_frame}

-- the number returned, and the output at the end
pub record EditCall : Type 0 where
  pub number : ℕ
  pub output : List ℕ

-- n is the first refusal before the output's; the frame of the areas then held is written into the front of the output, where it has room: else 5
abbrev pub edited : ℕ → List Sent → List ℕ → EditCall
edited n l output =
    record {
      number = first n (room_fault (areas_frame l) output);
      output = cond (eqb n 0) (frame_written (areas_frame l) output) output;
    }

-- the kind 7 frame of an area, written where its corners are as many as their count says: else 3
unfoldable pub write_call : ℕ → List ℕ → List ℕ → EditCall
write_call n corners output =
    let f = area_frame (record { number = n; corners = corners }) in
    cond (eqb (length corners) (1 + 8 * u8_at corners 0))
    (record { number = room_fault f output; output = frame_written f output })
    (record { number = 3; output = output })

-- the areas, as a step reads them; the area's frame; the area: "polygon faults as 10 to 17 first, then 31 .., then 30 .., then 32"
unfoldable pub add_call : List ℕ → List ℕ → List ℕ → EditCall
add_call areas area output =
    let l = held_in areas in
    let added = add area_rules l (area_in area) in
    edited (first (areas_fault areas) (first (area_frame_fault area) (code added))) (kept l added) output

-- the areas; "31 for .. one to remove that isn't held"
unfoldable pub remove_call : List ℕ → ℕ → List ℕ → EditCall
remove_call areas n output =
    let l = held_in areas in
    let removed = remove l n in
    edited (first (areas_fault areas) (code removed)) (kept l removed) output
