use mathlib.Core.Path.{◌≡◌}
use Rattle.std.specs.Iterator.Adapters.{enumerate_source, enumerate_count}
use Rattle.areas.specs.Held.{read}
use Rattle.areas.specs.Calls.{code}
use Rattle.frame_areas.specs.AreaFrame.{area_rules}
use Rattle.frame_areas.specs.AreasFrame.{bodies, held_in}
use Rattle.frame_areas.proofs.Walk.{fault_from}
use Rattle.frame_areas.proofs.check_bodies.Given as goal

abbrev pub invariant-loop-n : goal.invariant-loop-n
invariant-loop-n l =
    ((goal.iterator-loop-n).can_next l.n-iterator × (goal.iterator-loop-n).is_finite l.n-iterator)
    × (fault_from area_rules l.before (enumerate_count l.n-iterator) (bodies (enumerate_source l.n-iterator).left (enumerate_source l.n-iterator).rest.now) ≡ code (read area_rules (held_in l.s)))
