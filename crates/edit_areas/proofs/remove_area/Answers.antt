-- `edit_areas::remove_area` meets its contract. Assumes nothing.
use Prim.Native.Nat.{◌+◌, ◌≤◌}
use mathlib.Core.Path.{◌≡◌, ◌∙◌, sym, ap, refl}
use mathlib.Core.Bool.{true}
use native.Mathlib.Omega.{arith}
use lib.ListN.{length}
use Rattle.std.proofs.lemmas.Result.{err_from_is_err_and}
use Rattle.std.specs.Result.{is_ok}
use Rattle.wire.specs.Fields.{u8_at}
use Rattle.wire.specs.Frame.{frame_number}
use Rattle.frame_areas.specs.AreasFrame.{held_in, areas_fault}
use Rattle.frame_areas.proofs.Numbers.{area_some}
use Rattle.edit_areas.specs.Edit.{remove_call}
use Rattle.edit_areas.specs.Cut.{onward, first_is, cut_at}
use Rattle.edit_areas.proofs.Cuts.{place_ok, at_ok}
use Rattle.edit_areas.proofs.Removes.{remove_declined, remove_refused, place_within, remove_within, some_held, two_small, remove_written}
use Rattle.edit_areas.proofs.remove_area.Goals as goal
use Rattle.edit_areas.proofs.remove_area.Goals.{After-place_of, In-Ok, After-body_size, After-put_frame}

-- the frame is not refused
sound : (c : After-place_of) → areas_fault c.args.areas.now ≡ 0
sound c = sym c.in_ok-check_areas.ensures

-- an area of that number is held at the cut
has : (c : In-Ok) → (first_is c.args.number (onward c.args.number (held_in c.args.areas.now)) ≡ true) × (c.in-Ok.at ≡ cut_at c.args.areas.now c.args.number)
has c = at_ok _ _ _ (sym c.in-Ok.ensures)

pub returns-in_err-check_areas : goal.returns-in_err-check_areas
returns-in_err-check_areas c =
    let a = c.args in
    let p = err_from_is_err_and c.from_residual.result c.from_residual.ensures.1 in
    let all = remove_declined a.areas.now a.number a.output.now _ c.in_err-check_areas.ensures (area_some c.in_err-check_areas.field-0.0) in
    rw (p.1, p.2) record { value = all.0; output_after = all.1 }

pub returns-in_default : goal.returns-in_default
returns-in_default c =
    let a = c.args in
    let not_held = sym (place_ok a.areas.now a.number) ∙ sym (ap is_ok c.in_default.ensures) in
    let all = remove_refused a.areas.now a.number a.output.now (sound (goal.at.returns-in_default c).After-place_of) not_held in
    record { value = all.0; output_after = all.1 }

-- the cut is behind the head, and its body within the frame
within : (c : After-body_size) → (5 ≤ c.in-Ok.at) × (c.in-Ok.at + c.body_size.result ≤ length c.args.areas.now)
within c =
    let a = c.args in
    let g = goal.at.After-body_size c in
    let h = has g.In-Ok in
    remove_within a.areas.now a.number a.output.now (sound g.After-place_of) h.0 (u8_at a.areas.now 4) c.body_size.result c.in-Ok.at refl h.1 c.body_size.ensures

start : (c : In-Ok) → c.in-Ok.at ≤ length c.args.areas.now
start c = place_within c.args.areas.now c.args.number c.args.output.now (sound (goal.at.In-Ok c).After-place_of) c.in-Ok.at (has c).1

pub slice_bounds-body_size-count : goal.slice_bounds-body_size-count
slice_bounds-body_size-count c = omega (arith, start c)

pub slice_bounds-body_size-start : goal.slice_bounds-body_size-start
slice_bounds-body_size-start c = omega (arith, start c)

pub overflow_add-end : goal.overflow_add-end
overflow_add-end c = omega (arith, within c)

pub slice_bounds-put_frame-count : goal.slice_bounds-put_frame-count
slice_bounds-put_frame-count c = omega (arith, within (goal.at.slice_bounds-put_frame-count c).After-body_size)

pub slice_bounds-put_frame-start : goal.slice_bounds-put_frame-start
slice_bounds-put_frame-start c = omega (arith, within (goal.at.slice_bounds-put_frame-start c).After-body_size)

pub slice_bounds-put_frame-end : goal.slice_bounds-put_frame-end
slice_bounds-put_frame-end c = omega (arith, within (goal.at.slice_bounds-put_frame-end c).After-body_size)

pub slice_bounds-put_frame-count-2 : goal.slice_bounds-put_frame-count-2
slice_bounds-put_frame-count-2 c = omega (arith, within (goal.at.slice_bounds-put_frame-count-2 c).After-body_size)

pub slice_bounds-put_frame-start-2 : goal.slice_bounds-put_frame-start-2
slice_bounds-put_frame-start-2 c = omega (arith, within (goal.at.slice_bounds-put_frame-start-2 c).After-body_size)

pub overflow_sub-count : goal.overflow_sub-count
overflow_sub-count c =
    let a = c.args in
    let g = goal.at.overflow_sub-count c in
    let h = has g.In-Ok in
    some_held a.areas.now a.number a.output.now (sound g.After-place_of) h.0 c.u8_at-count.result c.body_size.result c.in-Ok.at c.u8_at-count.ensures h.1 c.body_size.ensures

pub put_frame-requires : goal.put_frame-requires
put_frame-requires c =
    let a = c.args in
    let g = goal.at.put_frame-requires c in
    let h = has g.In-Ok in
    two_small a.areas.now a.number a.output.now (sound g.After-place_of) h.0 c.u8_at-count.result c.body_size.result c.in-Ok.at c.u8_at-count.ensures h.1 c.body_size.ensures

-- the frame, where it has room
wrote : (c : After-put_frame) → (frame_number c.put_frame.result ≡ (remove_call c.args.areas.now c.args.number c.args.output.now).number) × (c.put_frame.new.output ≡ (remove_call c.args.areas.now c.args.number c.args.output.now).output)
wrote c =
    let a = c.args in
    let g = goal.at.After-put_frame c in
    let h = has g.In-Ok in
    remove_written a.areas.now a.number a.output.now (sound g.After-place_of) h.0 c.u8_at-count.result c.body_size.result c.in-Ok.at c.u8_at-count.ensures h.1 c.body_size.ensures _ _ (ap frame_number c.put_frame.ensures.value) c.put_frame.ensures.output_after

pub returns-in_err-put_frame : goal.returns-in_err-put_frame
returns-in_err-put_frame c =
    let all = wrote (goal.at.returns-in_err-put_frame c).After-put_frame in
    let r = c.from_residual-in_err-put_frame in
    let p = err_from_is_err_and r.result r.ensures.1 in
    rw (p.1, p.2) record { value = sym (ap frame_number c.in_err-put_frame.was) ∙ all.0; output_after = all.1 }

pub returns : goal.returns
returns c =
    let all = wrote (goal.at.returns c).After-put_frame in
    record { value = sym (ap frame_number c.in_ok-put_frame.was) ∙ all.0; output_after = all.1 }
