-- What a step leaves raised fits a frame that holds what the configuration keeps. Assumes nothing.
use mathlib.Core.Bool.{Bool, true, false}
use mathlib.Core.Path.{◌≡◌, subst, sym, refl}
use Rattle.supervisor.specs.declared.Supervisor.{Supervisor}
use Rattle.supervisor.specs.Settings.{Settings, Fed}
use Rattle.supervisor.specs.Step.{step}
use Rattle.supervisor.specs.Rules.{RaisedFits}
use Rattle.supervisor.proofs.Rules.{step_fits}

pub stepped_fits : (r : Settings) (keeps : Bool) (x : Supervisor) (fed : Fed) → (r.cfg.keeps_raised ≡ true → keeps ≡ true) → RaisedFits keeps x → RaisedFits keeps (step r x fed).supervisor
stepped_fits r true x fed k f = refl
stepped_fits r false x fed k f = go r.cfg.keeps_raised refl
  where
    go : (b : Bool) → r.cfg.keeps_raised ≡ b → RaisedFits false (step r x fed).supervisor
    go true e = absurd (let h = k e in cc)
    go false e =
        subst (λ (b : Bool). RaisedFits b (step r x fed).supervisor) e (step_fits r x fed (subst (λ (b : Bool). RaisedFits b x) (sym e) f))
