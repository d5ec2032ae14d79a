-- `entries::step_state` meets its contract. Assumes nothing.
use mathlib.Core.Path.{sym, ◌∙◌}
use Rattle.entries.proofs.Buffers.{state_bytes_lem}
use Rattle.entries.proofs.step_state.Goals as goal

pub step_telemetry-requires : goal.step_telemetry-requires
step_telemetry-requires c = state_bytes_lem _ _ _ (sym c.read_state.ensures ∙ c.in_ok-s.was)

pub returns : goal.returns
returns c = rw (← c.read_state.ensures, c.in_ok-s.was) record { value = c.step_telemetry.ensures.value; state_after = c.step_telemetry.ensures.state_after; output_after = c.step_telemetry.ensures.output_after }
