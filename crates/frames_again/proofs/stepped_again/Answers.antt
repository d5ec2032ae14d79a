-- `frames_again::stepped_again` meets its contract. Assumes nothing.
use mathlib.Core.Path.{◌∙◌, subst, sym}
use Rattle.std.specs.Prelude.{Ok}
use Rattle.supervisor.specs.declared.Stepped.{Stepped}
use Rattle.supervisor.specs.Rules.{Rules, RaisedFits}
use Rattle.supervisor.specs.Settings.{base_settings, fence_site, fed_at}
use Rattle.supervisor.proofs.Rules.{step_rules}
use Rattle.frames_again.proofs.Stepped.{stepped_fits}
use Rattle.frames_again.proofs.stepped_again.Goals as goal

pub returns-clause-state_accepted : goal.returns-clause-state_accepted
returns-clause-state_accepted c k r f =
    let a = c.args in
    let s = base_settings a.cfg.now in
    let fed = fed_at (fence_site a.fence.now) a.raw.now in
    let e = c.step-y.ensures in
    c.state_again.ensures.accepted_again
    (subst (λ (z : Stepped). Rules z.supervisor) (sym e) (step_rules s a.x.now fed r))
    (subst (λ (z : Stepped). RaisedFits a.keeps z.supervisor) (sym e) (stepped_fits s a.keeps a.x.now fed k f))
    ∙ (λ i. Ok (e i).supervisor)
