-- `ConvexPolygon::signed_distance` meets its contract. Assumes nothing.
use mathlib.Core.Path.{ap, ◌∙◌}
use Rattle.geometry.specs.declared.FenceDistance.{FenceDistance}
use Rattle.geometry.specs.Distance.{ring_of}
use Rattle.geometry.proofs.Nearest.{nearest_distance}
use Rattle.geometry.proofs.ConvexPolygon.signed_distance.Goals as goal

pub returns : goal.returns
returns c = ap (λ (d : FenceDistance). d.m) c.nearest.ensures ∙ nearest_distance (ring_of c.args.self.now) c.args.p
