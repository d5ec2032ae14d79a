-- `entries::step_any` meets its contract. Assumes nothing.
use Rattle.calls.specs.Entry.{step_or_check}
use Rattle.entries.proofs.step_any.Goals as goal

pub returns : goal.returns
unfolding step_or_check
returns c = record { value = c.step_or_check.ensures.value; state_after = c.step_or_check.ensures.state_after; output_after = c.step_or_check.ensures.output_after }
