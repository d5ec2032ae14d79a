-- `frame_state::put_links` meets its contract: the calls' contracts, one after the other, are a run of stores over zeros. Assumes nothing.
use Prim.Native.Nat.{ℕ}
use mathlib.Core.Path.{◌≡◌, refl}
use mathlib.Core.List.{List, [], ◌∷◌}
use lib.Seq.{sets}
use Rattle.wire.specs.Fields.{le_flag, le_bytes, le32}
use Rattle.wire.specs.Laid.{Blank}
use Rattle.wire.proofs.Laid.{Step, store, lay, Run, done, into, laid_run}
use Rattle.options.specs.Options.{le_option_u32}
use Rattle.triggers.specs.declared.TriggerState.{TriggerState}
use Rattle.frame_state.specs.StateFrame.{le_timer, le_links}
use Rattle.frame_state.proofs.put_links.Goals as goal

abbrev steps : TriggerState → List Step
steps t =
    store 4 (le_flag t.battery_critical_latched) ∷
    store 5 (le_flag t.energy_infeasible_latched) ∷
    lay 6 (le_timer t.gcs_clear_timer) ∷
    lay 11 (le_timer t.rc_clear_timer) ∷
    lay 16 (le_timer t.gps_deg_set) ∷
    lay 21 (le_timer t.gps_deg_clear) ∷
    lay 26 (le_timer t.gps_lost_set) ∷
    lay 31 (le_timer t.gps_lost_clear) ∷
    lay 36 (le_timer t.ekf_set) ∷
    lay 41 (le_timer t.ekf_clear) ∷
    []

whole : (m r : List ℕ) (t : TriggerState) → Run m (steps t) r → Blank m 4 42 → r ≡ sets m 4 (le_links t)
unfolding le_links le_timer le_option_u32 le32 le_bytes le_flag
whole m r t run z = laid_run m 4 (steps t) r run refl z

pub returns : goal.returns
returns c =
    let a = c.args in
    whole a.s.now _ a.t
    (into c.put_flag.ensures
    (into c.put_flag-2.ensures
    (into c.put_timer.ensures
    (into c.put_timer-2.ensures
    (into c.put_timer-3.ensures
    (into c.put_timer-4.ensures
    (into c.put_timer-5.ensures
    (into c.put_timer-6.ensures
    (into c.put_timer-7.ensures
    (into c.put_timer-8.ensures
    done))))))))))
    c.requires
