-- `Sides::put_answers` meets its contract. Assumes nothing.
use Rattle.std.proofs.Common.{◌*◌, ◌/◌, [], length, get_or, ap, ◌∙◌, arith}
use lib.Seq.{sets}
use Rattle.frame_fence.specs.FenceFrame.{point_at}
use Rattle.inside.specs.Inside.{answer}
use Rattle.inside.specs.Call.{answer_bytes}
use Rattle.inside.proofs.Held.{chunk_point}
use Rattle.inside.proofs.Rows.{one_more}
use Rattle.inside.proofs.Sides.put_answers.Goals as goal

pub loop-k-preserved : goal.loop-k-preserved
loop-k-preserved c =
    let a = c.args in
    let l = c.loop-k in
    let f = answer a.self.now in
    let s = a.points.now in
    let e = c.answer.ensures ∙ ap f (c.point_of.ensures ∙ (λ j. point_at (get_or (c.as_chunks.ensures.front j) l.k []) 0) ∙ chunk_point s (length s / 8) l.k [] (omega arith)) in
    c.put_answer.ensures ∙ (λ j. sets (l.invariant j) (2 * l.k) (answer_bytes (e j))) ∙ one_more f s a.output.now l.k
