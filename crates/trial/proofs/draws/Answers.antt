-- `trial::draws` meets its contract. Assumes nothing.
use Rattle.std.proofs.Common.{◌≡◌, suc, [], ◌∷◌, ◌++◌, take, set, refl, ap, ◌∙◌, add-one, arith, length-set, take-suc-set}
use Rattle.trial.specs.Draws.{next, drawn, draws_of}
use Rattle.trial.proofs.draws.Goals as goal

pub loop-i-init : goal.loop-i-init
unfolding drawn draws_of
loop-i-init c = (refl, refl, refl)

pub loop-i-preserved : goal.loop-i-preserved
unfolding drawn draws_of
loop-i-preserved c =
    let l = c.loop-i in
    let last : c.next-y.result ≡ drawn (suc l.i) c.args.x = c.next-y.ensures ∙ ap next l.invariant.2 in
    let rest : take (suc l.i) (set l.d l.i c.next-y.result) ≡ draws_of (suc l.i) c.args.x = take-suc-set l.d l.i c.next-y.result (omega arith) ∙ (λ j. l.invariant.1 j ++ (last j ∷ [])) in
    (simp length-set l.invariant.0, rw add-one rest, rw add-one last)
