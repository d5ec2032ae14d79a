-- `supervisor::Supervisor::step` meets its contract. Assumes nothing.
use mathlib.Core.Path.{◌≡◌, ◌∙◌}
use mathlib.Core.List.{List, []}
use Rattle.types.specs.declared.Point2.{Point2}
use Rattle.geometry.specs.Distance.{ring_of, side_lengths, nearest, nearest_by}
use Rattle.geometry.proofs.Lengths.{by_side_lengths}
use Rattle.frame_areas.specs.AreasFrame.{clearance_at}
use Rattle.frame_areas.proofs.None.{none_near}
use Rattle.supervisor.proofs.Supervisor.step.Goals as goal

-- the distance by the sides' own lengths is the distance, and without an area it is the clearance
by_lengths : (l : List Point2) → (λ (p : Point2). clearance_at [] (nearest_by l (side_lengths l).m p) p) ≡ nearest l
by_lengths l i p = (none_near (nearest_by l (side_lengths l).m p) p ∙ by_side_lengths l p) i

pub returns : goal.returns
returns c = rw (c.step_by.ensures, c.side_lengths-lengths.ensures, by_lengths (ring_of c.args.fence.now.poly))
