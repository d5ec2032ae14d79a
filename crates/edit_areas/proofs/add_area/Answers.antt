-- `edit_areas::add_area` meets its contract. Assumes nothing.
use Prim.Native.Nat.{◌-◌, ◌≤◌}
use mathlib.Core.Path.{◌≡◌, ◌∙◌, sym, ap}
use native.Mathlib.Omega.{arith}
use lib.ListN.{length, take, drop}
use Rattle.std.proofs.lemmas.Result.{err_from_is_err_and}
use Rattle.wire.specs.Frame.{frame_number}
use Rattle.frame_areas.specs.AreaFrame.{area_rules, area_frame_fault, area_of, area_in}
use Rattle.frame_areas.specs.AreasFrame.{areas_fault}
use Rattle.areas.specs.Held.{area_fault}
use Rattle.frame_areas.proofs.Numbers.{area_some, frame_some}
use Rattle.edit_areas.specs.Edit.{add_call}
use Rattle.edit_areas.specs.Cut.{cut_at, place_of}
use Rattle.edit_areas.proofs.Cuts.{at_err}
use Rattle.edit_areas.proofs.Adds.{judged, areas_declined, area_declined, number_is, area_long, part_sized, handed, add_refused, not_held, room_left, cut_within, cut_small, add_written}
use Rattle.edit_areas.proofs.add_area.Goals as goal
use Rattle.edit_areas.proofs.add_area.Goals.{After-check_area_frame, In_ok-check_area_frame, After-from, After-min-from, After-unwrap_err-at, After-put_frame}

-- neither frame is refused
areas_sound : (c : After-check_area_frame) → areas_fault c.args.areas.now ≡ 0
areas_sound c = sym c.in_ok-check_areas.ensures

area_sound : (c : In_ok-check_area_frame) → area_frame_fault c.args.area.now ≡ 0
area_sound c = sym (ap frame_number c.in_ok-check_area_frame.ensures)

pub returns-in_err-check_areas : goal.returns-in_err-check_areas
returns-in_err-check_areas c =
    let a = c.args in
    let p = err_from_is_err_and c.from_residual.result c.from_residual.ensures.1 in
    let all = areas_declined a.areas.now a.area.now a.output.now _ c.in_err-check_areas.ensures (area_some c.in_err-check_areas.field-0.0) in
    rw (p.1, p.2) record { value = all.0; output_after = all.1 }

pub returns-in_err-check_area_frame : goal.returns-in_err-check_area_frame
returns-in_err-check_area_frame c =
    let a = c.args in
    let r = c.from_residual-in_err-check_area_frame in
    let p = err_from_is_err_and r.result r.ensures.1 in
    let all = area_declined a.areas.now a.area.now a.output.now _ (areas_sound (goal.at.returns-in_err-check_area_frame c).After-check_area_frame) (ap frame_number c.in_err-check_area_frame.ensures) (frame_some c.in_err-check_area_frame.field-0.0) in
    rw (p.1, p.2) record { value = all.0; output_after = all.1 }

long : (c : In_ok-check_area_frame) → 4 ≤ length c.args.area.now
long c =
    let a = c.args in
    area_long a.areas.now a.area.now a.output.now (areas_sound (goal.at.In_ok-check_area_frame c).After-check_area_frame) (area_sound c)

pub slice_bounds-body-count : goal.slice_bounds-body-count
slice_bounds-body-count c = omega (arith, long c)

pub slice_bounds-body-start : goal.slice_bounds-body-start
slice_bounds-body-start c = omega (arith, long c)

-- what is handed to `check_body` is judged by the rules
judges : (c : After-from) → area_fault area_rules c.wrong_number.result c.from.result (area_of (take (length c.args.area.now - 4) (drop 4 c.args.area.now))) ≡ judged c.args.areas.now c.args.area.now c.args.output.now
judges c =
    let a = c.args in
    let g = goal.at.After-from c in
    handed a.areas.now a.area.now a.output.now (areas_sound g.After-check_area_frame) (area_sound g.In_ok-check_area_frame) c.u8_at-number.result c.from.result c.place_of-place.result c.wrong_number.result c.u8_at-number.ensures (c.from.ensures ∙ c.u8_at-count.ensures) c.place_of-place.ensures c.wrong_number.ensures

fits : (c : After-min-from) → judged c.args.areas.now c.args.area.now c.args.output.now ≡ 0
fits c = sym (judges (goal.at.After-min-from c).After-from) ∙ sym c.in_ok-check_body.ensures

-- the place is that of the area's number
placed : (c : After-min-from) → c.place_of-place.result ≡ place_of c.args.areas.now (area_in c.args.area.now).number
placed c =
    let a = c.args in
    let g = goal.at.After-min-from c in
    c.place_of-place.ensures ∙ ap (place_of a.areas.now) (c.u8_at-number.ensures ∙ number_is a.areas.now a.area.now a.output.now (areas_sound g.After-check_area_frame) (area_sound g.In_ok-check_area_frame))

there : (c : After-unwrap_err-at) → c.unwrap_err-at.result ≡ cut_at c.args.areas.now (area_in c.args.area.now).number
there c = at_err _ _ _ (sym (placed (goal.at.After-unwrap_err-at c).After-min-from) ∙ c.unwrap_err-at.ensures)

-- the cut is behind the head and within the frame
within : (c : After-unwrap_err-at) → (c.min-from.result ≤ c.unwrap_err-at.result) × (c.unwrap_err-at.result ≤ length c.args.areas.now)
within c =
    let a = c.args in
    let g = goal.at.After-unwrap_err-at c in
    cut_within a.areas.now a.area.now a.output.now (areas_sound g.After-check_area_frame) (area_sound g.In_ok-check_area_frame) (fits g.After-min-from) c.u8_at-count.result c.min-from.result c.unwrap_err-at.result c.u8_at-count.ensures c.min-from.ensures (there c)

pub check_body-requires : goal.check_body-requires
check_body-requires c =
    let a = c.args in
    let g = goal.at.check_body-requires c in
    part_sized a.areas.now a.area.now a.output.now (areas_sound g.After-check_area_frame) (area_sound g.In_ok-check_area_frame)

pub returns-in_err-check_body : goal.returns-in_err-check_body
returns-in_err-check_body c =
    let a = c.args in
    let g = goal.at.returns-in_err-check_body c in
    let r = c.from_residual-in_err-check_body in
    let p = err_from_is_err_and r.result r.ensures.1 in
    let all = add_refused a.areas.now a.area.now a.output.now (areas_sound g.After-check_area_frame) (area_sound g.In_ok-check_area_frame) _ (c.in_err-check_body.ensures ∙ judges g.After-from) (area_some c.in_err-check_body.field-0.0) in
    rw (p.1, p.2) record { value = all.0; output_after = all.1 }

pub unwrap_err-at-requires : goal.unwrap_err-at-requires
unwrap_err-at-requires c =
    let a = c.args in
    let g = goal.at.unwrap_err-at-requires c in
    rw (placed c) (not_held a.areas.now a.area.now a.output.now (areas_sound g.After-check_area_frame) (area_sound g.In_ok-check_area_frame) (fits c))

pub slice_bounds-put_frame-count : goal.slice_bounds-put_frame-count
slice_bounds-put_frame-count c = omega (arith, within c)

pub slice_bounds-put_frame-start : goal.slice_bounds-put_frame-start
slice_bounds-put_frame-start c = omega (arith, within c)

pub slice_bounds-put_frame-end : goal.slice_bounds-put_frame-end
slice_bounds-put_frame-end c = omega (arith, within c)

pub overflow_add-count : goal.overflow_add-count
overflow_add-count c =
    let a = c.args in
    let g = goal.at.overflow_add-count c in
    omega (arith, room_left a.areas.now a.area.now a.output.now (areas_sound g.After-check_area_frame) (area_sound g.In_ok-check_area_frame) (fits g.After-min-from), c.u8_at-count.ensures)

pub put_frame-requires : goal.put_frame-requires
put_frame-requires c =
    let a = c.args in
    let g = goal.at.put_frame-requires c in
    cut_small a.areas.now a.area.now a.output.now (areas_sound g.After-check_area_frame) (area_sound g.In_ok-check_area_frame) (fits g.After-min-from) c.u8_at-count.result c.min-from.result c.unwrap_err-at.result c.u8_at-count.ensures c.min-from.ensures (there g.After-unwrap_err-at)

-- the frame, where it has room
wrote : (c : After-put_frame) → (frame_number c.put_frame.result ≡ (add_call c.args.areas.now c.args.area.now c.args.output.now).number) × (c.put_frame.new.output ≡ (add_call c.args.areas.now c.args.area.now c.args.output.now).output)
wrote c =
    let a = c.args in
    let g = goal.at.After-put_frame c in
    add_written a.areas.now a.area.now a.output.now (areas_sound g.After-check_area_frame) (area_sound g.In_ok-check_area_frame) (fits g.After-min-from) c.u8_at-count.result c.min-from.result c.unwrap_err-at.result c.u8_at-count.ensures c.min-from.ensures (there g.After-unwrap_err-at) _ _ (ap frame_number c.put_frame.ensures.value) c.put_frame.ensures.output_after

pub returns-in_err-put_frame : goal.returns-in_err-put_frame
returns-in_err-put_frame c =
    let all = wrote (goal.at.returns-in_err-put_frame c).After-put_frame in
    let r = c.from_residual-in_err-put_frame in
    let p = err_from_is_err_and r.result r.ensures.1 in
    rw (p.1, p.2) record { value = sym (ap frame_number c.in_err-put_frame.was) ∙ all.0; output_after = all.1 }

pub returns : goal.returns
returns c =
    let all = wrote (goal.at.returns c).After-put_frame in
    record { value = sym (ap frame_number c.in_ok-put_frame.was) ∙ all.0; output_after = all.1 }
