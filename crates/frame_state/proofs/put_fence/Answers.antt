-- `frame_state::put_fence` meets its contract: the calls' contracts, one after the other, are a run of stores over zeros. Assumes nothing.
use Prim.Native.Nat.{ℕ}
use mathlib.Core.Path.{◌≡◌, refl}
use mathlib.Core.List.{List, [], ◌∷◌}
use lib.Seq.{sets}
use Rattle.wire.specs.Fields.{le_flag, le_bytes, le32}
use Rattle.wire.specs.Laid.{Blank}
use Rattle.wire.proofs.Laid.{Step, lay, Run, done, into, laid_run}
use Rattle.options.specs.Options.{le_option_u32}
use Rattle.triggers.specs.declared.TriggerState.{TriggerState}
use Rattle.frame_state.specs.StateFrame.{le_timer, le_fence}
use Rattle.frame_state.proofs.put_fence.Goals as goal

abbrev steps : TriggerState → List Step
steps t =
    lay 46 (le_timer t.fence_breach_set) ∷
    lay 51 (le_timer t.fence_breach_clear) ∷
    lay 56 (le_timer t.alt_max_set) ∷
    lay 61 (le_timer t.alt_max_clear) ∷
    lay 66 (le_timer t.alt_min_set) ∷
    lay 71 (le_timer t.alt_min_clear) ∷
    []

whole : (m r : List ℕ) (t : TriggerState) → Run m (steps t) r → Blank m 46 30 → r ≡ sets m 46 (le_fence t)
unfolding le_fence le_timer le_option_u32 le32 le_bytes le_flag
whole m r t run z = laid_run m 46 (steps t) r run refl z

pub returns : goal.returns
returns c =
    let a = c.args in
    whole a.s.now _ a.t
    (into c.put_timer.ensures
    (into c.put_timer-2.ensures
    (into c.put_timer-3.ensures
    (into c.put_timer-4.ensures
    (into c.put_timer-5.ensures
    (into c.put_timer-6.ensures
    done))))))
    c.requires
