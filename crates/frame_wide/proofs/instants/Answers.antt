-- `frame_wide::instants` meets its contract. Assumes nothing.
use borrow.Author.Rules.{rules}
use Rattle.frame_wide.proofs.Places.{all_read}
use Rattle.frame_wide.proofs.instants.Goals as goal

pub returns : goal.returns
returns g c =
    let a = c.args in
    let l = c.loop-k in
    all_read a.s.now a.places.now l.r (search (rules, c.well_formed)) (λ k q. l.invariant.1 k (search (rules, q, c.well_formed)))
