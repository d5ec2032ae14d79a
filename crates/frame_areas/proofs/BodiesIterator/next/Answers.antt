-- `frame_areas::Bodies::next` meets its contract. Assumes nothing.
use Prim.Native.Nat.{◌-◌}
use mathlib.Core.Path.{◌≡◌, ap}
use native.Mathlib.Omega.{arith}
use mathlib.Core.List.{◌∷◌}
use lib.ListN.{length}
use Rattle.frame_areas.proofs.Walk.{bodies_end, bodies_short, bodies_next}
use Rattle.frame_areas.specs.AreaFrame.{area_of}
use Rattle.frame_areas.specs.AreasFrame.{bodies}
use Rattle.frame_areas.proofs.BodiesIterator.next.Goals as goal
use Rattle.frame_areas.proofs.BodiesIterator.next.Goals.{After-rest-2-1}

-- the first body is cut off by its size
steps : (c : After-rest-2-1) → bodies c.args.self.now.left c.args.self.now.rest.now ≡ area_of c.in_ok-body.body.now ∷ bodies (c.args.self.now.left - 1) c.in_ok-body.rest.now
steps c =
    let s = c.args.self.now in
    let h = c.in_ok-body.ensures.cases in
    rw (h.1, h.2, c.body_size.ensures) (bodies_next s.left s.rest.now (omega (arith, c.if-self-eq0.false)) (omega (arith, h.0, c.body_size.ensures)))

pub returns-then-self-eq0-clause-steps : goal.returns-then-self-eq0-clause-steps
returns-then-self-eq0-clause-steps c =
    let e = bodies_end c.args.self.now.left c.args.self.now.rest.now (omega (arith, c.if-self-eq0.true)) in
    (e, e)

pub returns-in_err-body-clause-steps : goal.returns-in_err-body-clause-steps
returns-in_err-body-clause-steps c =
    let s = c.args.self.now in
    let e = bodies_short s.left s.rest.now (omega (arith, c.if-self-eq0.false)) (omega (arith, c.body_size.ensures, c.in_err-body.ensures.cases)) in
    rw c.from_residual.ensures (e, e)

pub returns-clause-steps : goal.returns-clause-steps
returns-clause-steps c = steps c

pub returns-clause-goes : goal.returns-clause-goes
returns-clause-goes c = record { on = λ _. (tt, tt, omega (arith, ap length (steps c))); keeps = tt; rests = λ _. tt }
