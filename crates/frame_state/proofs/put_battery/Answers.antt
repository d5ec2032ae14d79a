-- `frame_state::put_battery` meets its contract: the calls' contracts, one after the other, are a run of stores over zeros. Assumes nothing.
use Prim.Native.Nat.{ℕ}
use mathlib.Core.Path.{◌≡◌, refl}
use mathlib.Core.List.{List, [], ◌∷◌}
use lib.Seq.{sets}
use Rattle.wire.specs.Fields.{le_flag, le_bytes, le32}
use Rattle.wire.specs.Laid.{Blank}
use Rattle.wire.proofs.Laid.{Step, lay, Run, done, into, laid_run}
use Rattle.options.specs.Options.{le_option_u32}
use Rattle.triggers.specs.declared.TriggerState.{TriggerState}
use Rattle.frame_state.specs.StateFrame.{le_timer, le_battery}
use Rattle.frame_state.proofs.put_battery.Goals as goal

abbrev steps : TriggerState → List Step
steps t =
    lay 76 (le_timer t.stale_bat_clear) ∷
    lay 81 (le_timer t.bat_warn_set) ∷
    lay 86 (le_timer t.bat_warn_clear) ∷
    lay 91 (le_timer t.bat_low_set) ∷
    lay 96 (le_timer t.bat_low_clear) ∷
    lay 101 (le_timer t.bat_crit_set) ∷
    lay 106 (le_timer t.energy_marg_set) ∷
    lay 111 (le_timer t.energy_marg_clear) ∷
    lay 116 (le_timer t.energy_infeas_set) ∷
    []

whole : (m r : List ℕ) (t : TriggerState) → Run m (steps t) r → Blank m 76 45 → r ≡ sets m 76 (le_battery t)
unfolding le_battery le_timer le_option_u32 le32 le_bytes le_flag
whole m r t run z = laid_run m 76 (steps t) r run refl z

pub returns : goal.returns
returns c =
    let a = c.args in
    whole a.s.now _ a.t
    (into c.put_timer.ensures
    (into c.put_timer-2.ensures
    (into c.put_timer-3.ensures
    (into c.put_timer-4.ensures
    (into c.put_timer-5.ensures
    (into c.put_timer-6.ensures
    (into c.put_timer-7.ensures
    (into c.put_timer-8.ensures
    (into c.put_timer-9.ensures
    done)))))))))
    c.requires
