-- `frame_areas::check_areas` meets its contract. Assumes nothing.
use Prim.Native.Nat.{ℕ, ◌<◌}
use mathlib.Core.Bool.{cond}
use mathlib.Core.Path.{◌≡◌, ◌∙◌, sym, ap}
use Rattle.std.specs.Prelude.{Result, ⊤}
use Rattle.std.proofs.lemmas.Result.{err_from_is_err_and}
use Rattle.wire.specs.declared.FrameError.{FrameError}
use Rattle.wire.specs.Frame.{frame_number}
use Rattle.areas.specs.Held.{first, read}
use Rattle.areas.specs.Calls.{code}
use Rattle.frame_areas.specs.AreaFrame.{area_rules}
use Rattle.frame_areas.specs.AreasFrame.{held_in, counts_fit, areas_frame_fault, areas_fault}
use Rattle.frame_areas.proofs.Walk.{first_some}
use Rattle.frame_areas.proofs.Numbers.{frame_some}
use Rattle.frame_areas.proofs.check_areas.Goals as goal
use Rattle.frame_areas.proofs.check_areas.Goals.{After-check_frame}

-- of some bytes, by what the head's check returned
by_head : (c : After-check_frame) → areas_fault c.args.s.now
    ≡ first (first (frame_number c.check_frame.result) (cond (counts_fit c.args.s.now) 0 3)) (code (read area_rules (held_in c.args.s.now)))
unfolding areas_fault areas_frame_fault
by_head c = rw (← c.if-is_empty.ensures, c.check_frame.ensures.value, c.u16_at.ensures)

first_of : (n m k : ℕ) → 0 < n → first (first n m) k ≡ n
first_of n m k h = let e = first_some n m h in ap (λ (i : ℕ). first i k) e ∙ first_some n k h

pub returns-then-is_empty : goal.returns-then-is_empty
unfolding areas_fault
returns-then-is_empty c = rw (← c.if-is_empty.ensures)

pub returns-in_err-check_frame : goal.returns-in_err-check_frame
returns-in_err-check_frame c =
    let p = err_from_is_err_and c.from_residual.result c.from_residual.ensures.1 in
    rw (p.1, p.2)
    (sym
    (by_head (goal.at.returns-in_err-check_frame c).After-check_frame
    ∙ ap (λ (r : Result ⊤ FrameError). first (first (frame_number r) (cond (counts_fit c.args.s.now) 0 3)) (code (read area_rules (held_in c.args.s.now)))) c.in_err-check_frame.was
    ∙ first_of _ _ _ (frame_some c.in_err-check_frame.field-0.0)))

pub returns-then-not-counts_fit : goal.returns-then-not-counts_fit
returns-then-not-counts_fit c = sym (by_head (goal.at.returns-then-not-counts_fit c).After-check_frame ∙ rw (c.in_ok-check_frame.was, ← c.if-not-counts_fit.ensures))

pub returns : goal.returns
returns c = sym (by_head (goal.at.returns c).After-check_frame ∙ rw (c.in_ok-check_frame.was, ← c.if-not-counts_fit.ensures, c.check_bodies.ensures))
