-- Which corners are accepted. The quotations without a name are of document 01's paragraph on geometry. Assumes nothing.
use Rattle.std.specs.Prelude.{ℕ, Bool, not, ◌&&◌, ◌||◌, cond, ltb, length, Float, Result, Ok, Err, ⊤}
use mathlib.Core.List.{List, [], ◌∷◌, foldl}
use Rattle.std.specs.List.{list_any}
use Rattle.std.specs.Result.{result_and}
use Rattle.std.specs.Float.{binary32}
use Rattle.std.specs.Float.Ieee.{add, sub, mul, lt, eq, of_bits}
use Rattle.float32.specs.Binary32.{zero_f}
use Rattle.float32.specs.Libm.{is_finite, fabs}
use Rattle.types.specs.declared.Point2.{Point2}
use Rattle.corners.specs.Ring.{sides, turns, tails}
use Rattle.corners.specs.declared.FenceError.{FenceError}
use Rattle.corners.specs.OnceRound.{sign_changes}

-- 10,000; 0.0001; 100; 0.5: proofs/Constants.antt has that each is the nearest binary32 number
abbrev pub envelope : Float
envelope = of_bits binary32 0x461C_4000

abbrev pub least_turn : Float
least_turn = of_bits binary32 0x38D1_B717

abbrev pub least_area : Float
least_area = of_bits binary32 0x42C8_0000

abbrev pub half : Float
half = of_bits binary32 0x3F00_0000

-- document 01, 'When a call declines': "FenceError in declared order, TooFewVertices to BadAltitudes | 10 to 18"; the last is document 02's, L5
abbrev pub fence_error_number : FenceError → ℕ
fence_error_number FenceError.TooFewVertices = 10
fence_error_number FenceError.TooManyVertices = 11
fence_error_number FenceError.NonFinite = 12
fence_error_number FenceError.OutOfEnvelope = 13
fence_error_number FenceError.DuplicateVertex = 14
fence_error_number FenceError.CollinearEdge = 15
fence_error_number FenceError.NotConvex = 16
fence_error_number FenceError.AreaTooSmall = 17
fence_error_number FenceError.BadAltitudes = 18
fence_error_number FenceError.NotOnceRound = 33

abbrev pub fault_if : Bool → FenceError → Result ⊤ FenceError
fault_if b e = cond b (Err e) (Ok tt)

-- the first error that a test finds in a list
abbrev pub first_fault : {A : Type 0} → (A → Result ⊤ FenceError) → List A → Result ⊤ FenceError
first_fault f [] = Ok tt
first_fault f (a ∷ l) = result_and (f a) (first_fault f l)

-- "per corner finite, then within ±10,000"
unfoldable pub corner_fault : Point2 → Result ⊤ FenceError
corner_fault p =
    result_and
    (fault_if (not (is_finite p.n) || not (is_finite p.e)) FenceError.NonFinite)
    (fault_if (lt envelope (fabs p.n) || lt envelope (fabs p.e)) FenceError.OutOfEnvelope)

unfoldable pub same_point : Point2 → Point2 → Bool
same_point p q = eq p.n q.n && eq p.e q.e

-- "duplicates": a corner is again among those after it
abbrev pub recurs : Point2 × List Point2 → Bool
recurs t = list_any (same_point t.0) t.1

-- "any turn under 0.0001 in size": the size goes by the turn's two sides, as in the Rust's normalize_ccw
unfoldable pub flat_turn : Point2 × (Point2 × Point2) → Bool
flat_turn t =
    let a = t.0 in
    let b = t.1.0 in
    let c = t.1.1 in
    let ab_n = sub binary32 b.n a.n in
    let ab_e = sub binary32 b.e a.e in
    let bc_n = sub binary32 c.n b.n in
    let bc_e = sub binary32 c.e b.e in
    lt (fabs (sub binary32 (mul binary32 ab_n bc_e) (mul binary32 ab_e bc_n))) least_turn

-- the number whose sign is the turn's: both differences from the first corner
unfoldable pub cross2 : Point2 × (Point2 × Point2) → Float
cross2 t =
    let o = t.0 in
    let a = t.1.0 in
    let b = t.1.1 in
    sub binary32
    (mul binary32 (sub binary32 a.n o.n) (sub binary32 b.e o.e))
    (mul binary32 (sub binary32 a.e o.e) (sub binary32 b.n o.n))

-- "mixed turn signs"; "Equal turn signs count as convex, without a look at crossing sides."
unfoldable pub mixed_turns : List Point2 → Bool
mixed_turns l = list_any (λ t. lt zero_f (cross2 t)) (turns l) && list_any (λ t. lt (cross2 t) zero_f) (turns l)

unfoldable pub area_term : Point2 × Point2 → Float
area_term s = sub binary32 (mul binary32 s.0.n s.1.e) (mul binary32 s.1.n s.0.e)

unfoldable pub polygon_area : List Point2 → Float
polygon_area l = mul binary32 (foldl (λ x s. add binary32 x (area_term s)) zero_f (sides l)) half

-- "3 to 16 corners. Order: counts; per corner finite, then within ±10,000; duplicates; any turn under 0.0001 in size; mixed turn signs; area under 100."
-- document 02, L5: "Turned away: 33 where the sign changes more than twice, after 16 and before 17", where that rule is asked: once.
-- n is the count as sent, l the corners
unfoldable pub polygon_tests : Bool → ℕ → List Point2 → List (Result ⊤ FenceError)
polygon_tests once n l =
    fault_if (ltb n 3) FenceError.TooFewVertices
    ∷ fault_if (ltb 16 n) FenceError.TooManyVertices
    ∷ first_fault corner_fault l
    ∷ fault_if (list_any recurs (tails l)) FenceError.DuplicateVertex
    ∷ fault_if (list_any flat_turn (turns l)) FenceError.CollinearEdge
    ∷ fault_if (mixed_turns l) FenceError.NotConvex
    ∷ fault_if (once && ltb 2 (sign_changes l)) FenceError.NotOnceRound
    ∷ fault_if (lt (fabs (polygon_area l)) least_area) FenceError.AreaTooSmall
    ∷ []

-- the first test that fails decides
abbrev pub polygon_fault : Bool → ℕ → List Point2 → Result ⊤ FenceError
polygon_fault once n l = first_fault (λ v. v) (polygon_tests once n l)

-- the corners' area, where they have no fault
unfoldable pub judged : Bool → List Point2 → Result Float FenceError
judged once l = result_and (polygon_fault once (length l) l) (Ok (polygon_area l))
