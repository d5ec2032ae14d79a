-- `frame_state::put_input` meets its contract: the calls' contracts, one after the other, are a run of stores over zeros. Assumes nothing.
use Prim.Native.Nat.{ℕ}
use mathlib.Core.Path.{◌≡◌, refl}
use mathlib.Core.List.{List, [], ◌∷◌}
use lib.Seq.{sets}
use Rattle.wire.specs.Fields.{le8, le_flag, le_bytes, le32}
use Rattle.wire.specs.Laid.{Blank}
use Rattle.wire.proofs.Laid.{Step, store, lay, Run, done, into, laid_run}
use Rattle.options.specs.Options.{le_option_u32}
use Rattle.triggers.specs.declared.TriggerState.{TriggerState}
use Rattle.frame_state.specs.StateFrame.{le_timer, le_input}
use Rattle.frame_state.proofs.put_input.Goals as goal

abbrev steps : TriggerState → List Step
steps t =
    lay 121 (le_timer t.invalid_clear) ∷
    store 126 (le_flag t.invalid_active) ∷
    lay 127 (le_timer t.rc_lost_set) ∷
    store 132 (le8 t.gcs_stage) ∷
    []

whole : (m r : List ℕ) (t : TriggerState) → Run m (steps t) r → Blank m 121 12 → r ≡ sets m 121 (le_input t)
unfolding le_input le_timer le_option_u32 le8 le32 le_bytes le_flag
whole m r t run z = laid_run m 121 (steps t) r run refl z

pub returns : goal.returns
returns c =
    let a = c.args in
    whole a.s.now _ a.t
    (into c.put_timer.ensures
    (into c.put_flag.ensures
    (into c.put_timer-2.ensures
    (into c.put_u8.ensures
    done))))
    c.requires
