-- `frame_side::without_side` meets its contract. Assumes nothing.
use mathlib.Core.Path.{◌≡◌, ◌∙◌, ap, refl}
use native.Mathlib.Omega.{arith}
use Prim.Native.Nat.{ℕ}
use mathlib.Core.List.{List, ◌∷◌}
use lib.ListN.{length, get_or, drop_of_length-le}
use lib.Seq.{sets, drop-cons}
use Rattle.wire.specs.Fields.{le8}
use Rattle.wire.specs.Frame.{frame_head}
use Rattle.frame_side.proofs.Splice.{taken_out, copied}
use Rattle.frame_side.proofs.without_side.Goals as goal

pub returns : goal.returns
returns c =
    let s = c.args.s.now in
    let n : length s ≡ 96 = c.requires in
    let copy = c.copy in
    let last = drop-cons s 95 0 (omega arith) ∙ ap (λ (l : List ℕ). get_or s 95 0 ∷ l) (drop_of_length-le s {i = 96} (omega arith)) in
    c.put_u8.ensures
    ∙ (λ i. sets ((c.put_head.ensures ∙ ap (λ (l : List ℕ). sets l 0 (frame_head 4 93)) (copy.ensures.1 ∙ copied s refl refl n)) i) 94 (le8 (get_or s 95 0)))
    ∙ taken_out s 0 (get_or s 95 0) n last
