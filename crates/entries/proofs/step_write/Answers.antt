-- `entries::step_write` meets its contract. Assumes nothing.
use Prim.Native.Nat.{ℕ, ◌≤◌}
use mathlib.Core.Path.{refl, ◌∙◌, subst}
use lib.ListN.{length}
use borrow.Author.Tests.{le-ltb, lt-ltb}
use Rattle.entries.proofs.Numbers.{ok_err}
use Rattle.entries.proofs.Buffers.{state_room, state_written}
use Rattle.entries.proofs.step_write.Goals as goal

pub returns-then-output-output_size : goal.returns-then-output-output_size
returns-then-output-output_size c = rw (← c.output_size.ensures, lt-ltb _ _ c.if-output-output_size.true) record { value = refl; state_after = refl; output_after = refl }

pub returns-in_err-write_state : goal.returns-in_err-write_state
returns-in_err-write_state c = absurd (ok_err _ (c.write_state.ensures.0 ∙ state_room _ _ _ c.requires) c.in_err-write_state.was)

pub write_output-requires : goal.write_output-requires
write_output-requires c = rw (← c.output_size.ensures) c.if-output-output_size.false

pub returns : goal.returns
returns c =
    let o = c.args.output.now in
    let roomy = subst (λ (n : ℕ). n ≤ length o) c.output_size.ensures c.if-output-output_size.false in
    rw (← c.step_flight-next.ensures, le-ltb (length o) _ roomy) record { value = refl; state_after = c.write_state.ensures.1 ∙ state_written _ _ _ c.requires; output_after = c.write_output.ensures }
