-- `decide::decide` is safe and ends. The invariant: both blocks keep their lengths, the bytes not yet answered stand in the input block, and the place is reached by turns.
-- Assumes nothing.
use Rattle.std.proofs.Common.{length, rules}
use Prim.Native.Nat.{zero-le}
use Rattle.decided.proofs.Rest.{at_start, one_more}
use Rattle.decide.proofs.decide.Goals as goal

pub loop-turn-init : goal.loop-turn-init
loop-turn-init g c = (search rules, search rules, zero-le, zero-le, at_start c.begin.result _ 65536 c.begin.ensures)

pub loop-turn-preserved : goal.loop-turn-preserved
loop-turn-preserved g c =
    let l = c.loop-turn in
    let t = c.turn-k in
    (search rules, search rules, t.ensures.from_le_have.0, search rules, one_more 65536 (length l.output) _ _ _ t.ensures.held_after l.invariant.1 l.invariant.4)
