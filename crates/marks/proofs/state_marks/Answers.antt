-- `marks::state_marks` meets its contract: mark by mark, by what each call ensures. Assumes nothing.
use mathlib.Core.List.{[], ◌∷◌}
use Rattle.instants.specs.Listed.{listed, unlisted}
use Rattle.marks.specs.Marks.{marks_of}
use Rattle.marks.proofs.state_marks.Goals as goal

pub returns : goal.returns
unfolding marks_of listed unlisted
returns c =
    λ i.
    c.held_mark.ensures i ∷
    c.held_mark-2.ensures i ∷
    c.held_mark-3.ensures i ∷
    c.held_mark-4.ensures i ∷
    c.held_mark-5.ensures i ∷
    c.held_mark-6.ensures i ∷
    c.held_mark-7.ensures i ∷
    c.held_mark-8.ensures i ∷
    c.held_mark-9.ensures i ∷
    c.held_mark-10.ensures i ∷
    c.held_mark-11.ensures i ∷
    c.held_mark-12.ensures i ∷
    c.held_mark-13.ensures i ∷
    c.held_mark-14.ensures i ∷
    c.held_mark-15.ensures i ∷
    c.held_mark-16.ensures i ∷
    c.held_mark-17.ensures i ∷
    c.held_mark-18.ensures i ∷
    c.held_mark-19.ensures i ∷
    c.held_mark-20.ensures i ∷
    c.held_mark-21.ensures i ∷
    c.held_mark-22.ensures i ∷
    c.held_mark-23.ensures i ∷
    c.held_mark-24.ensures i ∷
    c.held_mark-25.ensures i ∷
    c.held_mark-26.ensures i ∷
    c.held_mark-27.ensures i ∷
    c.gap_mark.ensures i ∷
    c.sound_mark.ensures i ∷
    0 ∷
    []
