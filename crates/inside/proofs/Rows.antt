-- The answers to a row of points, one after the other. Assumes nothing.
use Prim.Native.Nat.{ℕ, zero, suc, ◌+◌, ◌*◌}
use mathlib.Core.List.{List}
use mathlib.Core.Path.{◌≡◌, ◌∙◌, refl, ap, sym}
use native.Mathlib.Nat.{zero-add}
use native.Mathlib.Numerals.{add-one}
use native.Mathlib.Omega.{arith}
use lib.ListN.{length, length-append}
use lib.Seq.{sets}
use Rattle.types.specs.declared.Point2.{Point2}
use Rattle.wire.specs.Fields.{le_flag, le8}
use Rattle.wire.proofs.Stores.{sets_append}
use Rattle.frame_fence.specs.FenceFrame.{point_at}
use Rattle.inside.specs.declared.Inside.{Inside}
use Rattle.inside.specs.Call.{answer_bytes, answers}

-- two bytes a point
pub two_each : (f : Point2 → Inside) (points : List ℕ) (n : ℕ) → length (answers f points n) ≡ 2 * n
unfolding answers le_flag le8
two_each f points zero = refl
two_each f points (suc n) = let h = two_each f points n in let e = length-append (answers f points n) (answer_bytes (f (point_at points (8 * n)))) in omega arith

-- one point more
pub one_more : (f : Point2 → Inside) (points o : List ℕ) (k : ℕ) → sets (sets o 0 (answers f points k)) (2 * k) (answer_bytes (f (point_at points (8 * k)))) ≡ sets o 0 (answers f points (k + 1))
unfolding answers
one_more f points o k =
    let b = answer_bytes (f (point_at points (8 * k))) in
    ap (λ (i : ℕ). sets (sets o 0 (answers f points k)) i b) (sym (two_each f points k) ∙ sym (zero-add _))
    ∙ sym (sets_append o 0 (answers f points k) b)
    ∙ ap (λ (n : ℕ). sets o 0 (answers f points n)) (sym (add-one k))
