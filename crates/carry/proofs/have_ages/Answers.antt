-- `carry::have_ages` meets its contract. Assumes nothing.
use Rattle.std.proofs.Common.{◌≡◌, ◌&&◌, ap, ◌∙◌, arith, add-one}
use Rattle.options.specs.Options.{option_u32_at}
use Rattle.carry.specs.Carry.{has_age_at}
use Rattle.carry.specs.Held.{aged}
use Rattle.carry.proofs.have_ages.Goals as goal

pub loop-k-preserved : goal.loop-k-preserved
unfolding option_u32_at
loop-k-preserved c =
    let r = c.args.reading in
    let one = c.has_age-all.ensures ∙ ap (has_age_at r.t r.last) c.option_at.ensures in
    rw add-one (λ j. c.loop-k.invariant j && one j)

pub returns : goal.returns
returns c =
    let l = c.loop-k in
    let all : l.k ≡ 28 = omega arith in
    l.invariant ∙ ap (aged c.args.old.now c.args.reading) all
