-- `carry::stored` meets its contract. Assumes nothing.
use Rattle.std.specs.Prelude.{Option, unwrap_or}
use Rattle.std.proofs.Common.{◌≡◌, ℕ, ◌-◌, cond, set, ap, ◌∙◌, arith, add-one, length-set}
use Rattle.time.specs.Time.{wrapping, wrapping_sub, age, at_most}
use Rattle.options.specs.Options.{option_u32_at}
use Rattle.carry.specs.Held.{held, stored_first, stored}
use Rattle.carry.proofs.Carried.{own_is}
use Rattle.carry.proofs.stored.Goals as goal

pub loop-k-preserved : goal.loop-k-preserved
unfolding option_u32_at
loop-k-preserved c =
    let a = c.args in
    let l = c.loop-k in
    let r = a.reading in
    let o = c.unwrap_or.ensures ∙ ap (λ (o : Option ℕ). unwrap_or o 0) c.option_at.ensures ∙ own_is (held a.old.now r l.k) in
    let x = c.carried.ensures ∙ ap (λ (y : ℕ). r.t - wrapping_sub r.last y) o in
    (simp length-set l.invariant.0, rw add-one (λ j. set (l.invariant.1 j) l.k (x j)))

pub returns : goal.returns
unfolding stored
returns c =
    let r = c.args.reading in
    let l = c.loop-k in
    let all : l.k ≡ 28 = omega arith in
    let first : l.r ≡ stored_first c.args.old.now r 28 = l.invariant.1 ∙ ap (stored_first c.args.old.now r) all in
    let epoch = c.carried_epoch.ensures ∙ ap (λ (x : ℕ). cond (at_most (age wrapping r.last x) r.t) (r.t - wrapping_sub r.last x) r.t) c.u32_at.ensures in
    λ j. set (set (first j) 28 r.t) 29 (epoch j)
