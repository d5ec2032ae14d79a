-- `frame_areas::Bodies::new` meets its contract. Assumes nothing.
use lib.ListN.{length}
use Prim.Native.Nat.{min}
use Rattle.frame_areas.specs.AreasFrame.{held_in}
use Rattle.frame_areas.proofs.Walk.{rest, from_five}
use Rattle.frame_areas.proofs.Bodies.new.Goals as goal

pub returns : goal.returns
unfolding held_in
returns c = let s = c.args.s.now in rw (c.u8_at.ensures, c.min-from.ensures, rest s (min (length s) 5), from_five s)
