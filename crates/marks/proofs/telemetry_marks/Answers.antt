-- `marks::telemetry_marks` meets its contract. Assumes nothing.
use Rattle.instants.specs.Listed.{stamps_listed, stamps_unlisted}
use Rattle.marks.specs.Marks.{stamp_marks_of}
use Rattle.marks.proofs.telemetry_marks.Goals as goal

pub returns : goal.returns
unfolding stamp_marks_of stamps_listed stamps_unlisted
returns c = rw (← c.fresh_mark.ensures, ← c.fresh_mark-2.ensures, ← c.fresh_mark-3.ensures, ← c.fresh_mark-4.ensures, ← c.fresh_mark-5.ensures, ← c.fresh_mark-6.ensures, ← c.fresh_mark-7.ensures, ← c.fresh_mark-8.ensures, ← c.fresh_mark-9.ensures)
