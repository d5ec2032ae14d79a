-- `decide::turn` meets its contract where a frame was answered. Assumes nothing.
use Prim.Native.Nat.{◌+◌}
use mathlib.Core.Bool.{true}
use mathlib.Core.Path.{refl}
use lib.ListN.{length}
use Rattle.decided.proofs.Rest.{lent, turned_taken}
use Rattle.decide.proofs.turn.Goals as goal

pub returns-clause-held_after : goal.returns-clause-held_after
returns-clause-held_after g c =
    let k = c.args in
    let f = c.answer_front-t in
    turned_taken k.k.now k.input.now k.held.now _ _ (length k.output.now) f.result.taken f.result.session (lent k.k.now.from k.k.now.have k.input.now c.requires.0 c.requires.1) f.ensures.held_after f.ensures.taken_value (record { session = f.result.session; from = k.k.now.from + f.result.taken; have = k.k.now.have; more = true }) c.if-t-eq0.false refl refl refl
