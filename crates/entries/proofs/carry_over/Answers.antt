-- `entries::carry_over` meets its contract. Assumes nothing.
use native.Mathlib.Omega.{arith}
use mathlib.Core.Path.{refl, sym, ap, ◌∙◌}
use Prim.Native.Nat.{◌≤◌}
use lib.ListN.{length}
use Rattle.std.proofs.lemmas.Result.{err_from_is_err_and}
use Rattle.triggers.specs.Update.{none_raised}
use Rattle.wire.specs.Frame.{frame_number}
use Rattle.wire.proofs.Head.{room, no_room}
use Rattle.frame_state.specs.StateFrame.{state_at}
use Rattle.frame_wide.specs.WideState.{wide_state_frame}
use Rattle.frame_wide_trips.proofs.Claim.{state_laws}
use Rattle.carry.specs.Carry.{widened}
use Rattle.entries.proofs.Carried.{carry_refused, carry_taken, carried_image, old_head, old_bytes}
use Rattle.entries.proofs.carry_over.Goals as goal

pub returns-in_err-x : goal.returns-in_err-x
returns-in_err-x c =
    let p = err_from_is_err_and c.from_residual.result c.from_residual.ensures.1 in
    rw (p.1, p.2, carry_refused c.args.old.now c.args.last_now c.args.new.now c.requires _ (sym c.carry.ensures ∙ c.in_err-x.was)) record { value = refl; after = refl }

pub returns-then-new-lt306 : goal.returns-then-new-lt306
returns-then-new-lt306 c =
    let n = no_room _ c.args.new.now 306 (state_laws.size _) c.if-new-lt306.true in
    rw (carry_taken c.args.old.now c.args.last_now c.args.new.now c.requires _ (sym c.carry.ensures ∙ c.in_ok-x.was)) (record { value = ap frame_number n.0; after = n.1 })

pub widen_state-requires : goal.widen_state-requires
widen_state-requires c = (old_head _ c.requires, let e = c.if-new-lt306.false in omega arith)

pub returns : goal.returns
returns c =
    let old = c.args.old.now in
    let new = c.args.new.now in
    let h = sym c.carry.ensures ∙ c.in_ok-x.was in
    let big : 306 ≤ length new = let e = c.if-new-lt306.false in omega arith in
    let f = wide_state_frame (widened c.args.last_now (state_at old none_raised)) in
    rw (carry_taken old c.args.last_now new c.requires _ h) record { value = ap frame_number (room f new 306 (state_laws.size _) big).0; after = c.widen_state.ensures ∙ carried_image old c.args.last_now new c.requires (old_bytes old (λ k. let e = c.shared_slice_known-1.given k in omega arith)) big _ h }
