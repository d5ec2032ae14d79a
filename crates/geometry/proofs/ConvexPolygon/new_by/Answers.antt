-- `ConvexPolygon::new_by` meets its contract. Assumes nothing.
use Rattle.std.proofs.Common.{sym, ◌∙◌}
use Rattle.corners.proofs.Callers.{judged_fits}
use Rattle.geometry.proofs.ConvexPolygon.new_by.Goals as goal

pub normalize_ccw-requires : goal.normalize_ccw-requires
normalize_ccw-requires c = judged_fits c.args.once_round c.args.pts.now c.in_ok-area.area (sym c.judge.ensures ∙ c.in_ok-area.was)
