-- `ConvexPolygon::nearest` meets its contract. Assumes nothing.
use Rattle.geometry.specs.Distance.{ring_of}
use Rattle.geometry.proofs.Lengths.{by_side_lengths}
use Rattle.geometry.proofs.ConvexPolygon.nearest.Goals as goal

pub returns : goal.returns
returns c = rw (c.nearest_by.ensures, c.side_lengths.ensures) (by_side_lengths (ring_of c.args.self.now) c.args.p)
