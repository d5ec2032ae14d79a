-- `entries::step_telemetry` meets its contract. Assumes nothing.
use Rattle.flight.specs.Flight.{step_flight}
use Rattle.entries.proofs.step_telemetry.Goals as goal

pub returns : goal.returns
unfolding step_flight
returns c = rw (← c.read_telemetry.ensures, c.in_ok-t.was) record { value = c.step_write.ensures.value; state_after = c.step_write.ensures.state_after; output_after = c.step_write.ensures.output_after }
