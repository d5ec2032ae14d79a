-- `frame_wide::put_eight` meets its contract. Assumes nothing.
use mathlib.Core.Path.{◌∙◌, sym, ap}
use Prim.Native.Nat.{◌%◌, ◌/◌}
use lib.Seq.{sets}
use Rattle.wire.specs.Fields.{le32, le_bytes}
use Rattle.wire.proofs.Stores.{joined}
use Rattle.frame_wide.proofs.Eight.{le64_halves}
use Rattle.frame_wide.proofs.put_eight.Goals as goal

pub returns : goal.returns
unfolding le32 le_bytes
returns c =
    let a = c.args in
    joined a.s.now a.at (le32 (a.n % 4294967296)) (le32 (a.n / 4294967296)) c.put_four.ensures c.put_four-2.ensures
    ∙ ap (sets a.s.now a.at) (sym (le64_halves a.n))
