-- `frame_wide::instants_next` meets its contract. The invariant: the first `k` timers' instants are stored. Assumes nothing.
use mathlib.Core.Path.{◌≡◌, ◌∙◌, ap}
use mathlib.Core.Bool.{Bool, cond}
use native.Mathlib.Omega.{arith}
use lib.ListN.{length, get_or, set}
use borrow.Author.Rules.{rules}
use Rattle.frame_wide.proofs.Nexts.{stayed, all_stored}
use Rattle.frame_wide.proofs.instants_next.Goals as goal

pub returns : goal.returns
returns c =
    let a = c.args in
    let l = c.loop-k in
    let all : l.k ≡ 24 = omega arith in
    let timers : l.r ≡ stayed a.s.now a.x.now a.x.now a.step.now.reading 24 = l.invariant.1 ∙ ap (stayed a.s.now a.x.now a.x.now a.step.now.reading) all in
    let long : length a.x.now ≡ 30 = search rules in
    let last = c.wide_number-3.ensures ∙ ap (λ (b : Bool). cond b (get_or a.x.now 29 0) a.step.now.reading) c.epoch_stays.ensures in
    (λ q.
    set
    (set
    (set
    (set (set (set (timers q) 24 (c.stays-2.ensures q)) 25 (c.stays-3.ensures q)) 26 (c.stays-4.ensures q))
    27
    (c.wide_number.ensures q))
    28
    (c.wide_number-2.ensures q))
    29
    (last q))
    ∙ all_stored a.s.now a.x.now a.step.now.reading a.step.now.position a.step.now.distance a.step.now.fault a.step.now.third_fault long
