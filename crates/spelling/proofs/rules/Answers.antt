-- `spelling::rules` meets its contract. Assumes nothing.
use Rattle.std.proofs.Common.{rules}
use lib.ListN.{replicate}
use Rattle.geometry.specs.declared.ConvexPolygon.{ConvexPolygon}
use Rattle.geometry.specs.Polygon.{zero_point}
use Rattle.spelling.proofs.Verdict.{by_parts}
use Rattle.spelling.proofs.rules.Goals as goal

abbrev none : ConvexPolygon
none = record { verts = replicate 16 zero_point; len = 0 }

pub returns-in_err-judge : goal.returns-in_err-judge
returns-in_err-judge c =
    let r = c.args.r.now in
    rw (by_parts r none (search rules), ← c.from-n.ensures, ← c.judge.ensures, c.in_err-judge.was) (search rules)

pub returns-in_err-new : goal.returns-in_err-new
returns-in_err-new c =
    let r = c.args.r.now in
    rw (by_parts r none (search rules), ← c.from-n.ensures, ← c.judge.ensures, c.in_ok-judge.was, ← c.new.ensures, c.in_err-new.was) (search rules)

pub returns : goal.returns
returns c =
    let r = c.args.r.now in
    rw (by_parts r none (search rules), ← c.from-n.ensures, ← c.judge.ensures, c.in_ok-judge.was, ← c.new.ensures, c.in_ok-new.was) (search rules)
