-- `go_round` meets its contract. Assumes nothing.
use lib.ListN.{drop_of_length-le}
use Rattle.corners.proofs.Around.{went_round}
use Rattle.corners.proofs.go_round.Goals as goal

pub returns : goal.returns
returns c =
    let h = rw (drop_of_length-le c.args.rest.now {i = c.loop-c.c-index} c.loop-c-test.false) at c.loop-c.invariant in
    rw (← h.0, ← went_round c.args.first c.args.second c.args.rest.now, ← h.1, c.with_turn-whole.ensures, c.with_turn.ensures)
