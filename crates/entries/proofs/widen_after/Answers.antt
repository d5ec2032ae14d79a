use native.Mathlib.Nat.{le_of_eq}
use mathlib.Core.List.{append-nil}
use lib.ListN.{drop_of_length-le}
use Rattle.entries.proofs.widen_after.Goals as goal

pub returns : goal.returns
returns c = rw (c.widen_state.ensures, c.instants_next-next.ensures, c.u8_at.ensures, c.flag_at-fault.ensures, c.flag_at.ensures, drop_of_length-le c.args.state.now {i = 306} (le_of_eq c.requires.0)) (append-nil _)
