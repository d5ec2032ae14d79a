-- `flight::step_flight` meets its contract. Assumes nothing.
use Rattle.flight.specs.Flight.{step_flight}
use Rattle.flight.proofs.step_flight.Goals as goal

pub returns : goal.returns
unfolding step_flight
returns c = rw (← c.step_by.ensures)
