-- `frame_state::put_triggers` meets its contract: the calls' contracts, one after the other, are a run of stores. Assumes nothing.
use Prim.Native.Nat.{ℕ}
use mathlib.Core.Path.{◌≡◌, ◌∙◌, refl}
use mathlib.Core.List.{List, [], ◌∷◌}
use native.Mathlib.Omega.{arith}
use lib.Seq.{sets}
use Rattle.wire.specs.Fields.{le8, le_flag, le_bytes, le32}
use Rattle.wire.specs.Laid.{Blank}
use Rattle.wire.proofs.Laid.{blank_first, blank_rest}
use Rattle.wire.proofs.Stores.{Piece, put, after, done, into, ran}
use Rattle.options.specs.Options.{le_option_u32}
use Rattle.triggers.specs.declared.TriggerState.{TriggerState}
use Rattle.frame_state.specs.StateFrame.{le_timer, le_links, le_fence, le_battery, le_input, le_triggers}
use Rattle.frame_state.proofs.put_triggers.Goals as goal

abbrev pieces : TriggerState → List Piece
pieces t =
    put 4 (le_links t) ∷
    put 46 (le_fence t) ∷
    put 76 (le_battery t) ∷
    put 121 (le_input t) ∷
    []

flat : (l : List ℕ) (t : TriggerState) → after l (pieces t) ≡ sets l 4 (le_triggers t)
unfolding le_triggers le_links le_fence le_battery le_input le_timer le_option_u32 le8 le32 le_bytes le_flag
flat l t = refl

-- the zeros that each part leaves
after_links : {l m : List ℕ} (t : TriggerState) → m ≡ sets l 4 (le_links t) → Blank l 4 129 → Blank m 46 87
unfolding le_links le_timer le_option_u32 le32 le_bytes le_flag
after_links t e z = blank_rest 4 46 129 87 (le_links t) e refl (omega arith) z

after_fence : {l m : List ℕ} (t : TriggerState) → m ≡ sets l 46 (le_fence t) → Blank l 46 87 → Blank m 76 57
unfolding le_fence le_timer le_option_u32 le32 le_bytes le_flag
after_fence t e z = blank_rest 46 76 87 57 (le_fence t) e refl (omega arith) z

after_battery : {l m : List ℕ} (t : TriggerState) → m ≡ sets l 76 (le_battery t) → Blank l 76 57 → Blank m 121 12
unfolding le_battery le_timer le_option_u32 le32 le_bytes le_flag
after_battery t e z = blank_rest 76 121 57 12 (le_battery t) e refl (omega arith) z

pub put_links-requires : goal.put_links-requires
put_links-requires c = blank_first 4 129 42 (omega arith) c.requires

pub put_fence-requires : goal.put_fence-requires
put_fence-requires c =
    let a = c.args in
    blank_first 46 87 30 (omega arith) (after_links a.t c.put_links.ensures c.requires)

pub put_battery-requires : goal.put_battery-requires
put_battery-requires c =
    let a = c.args in
    blank_first 76 57 45 (omega arith) (after_fence a.t c.put_fence.ensures (after_links a.t c.put_links.ensures c.requires))

pub put_input-requires : goal.put_input-requires
put_input-requires c =
    let a = c.args in
    after_battery a.t c.put_battery.ensures (after_fence a.t c.put_fence.ensures (after_links a.t c.put_links.ensures c.requires))

pub returns : goal.returns
returns c =
    let a = c.args in
    ran a.s.now (pieces a.t) _
    (into c.put_links.ensures
    (into c.put_fence.ensures
    (into c.put_battery.ensures
    (into c.put_input.ensures
    done))))
    ∙ flat a.s.now a.t
