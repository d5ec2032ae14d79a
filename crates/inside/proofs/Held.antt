-- The sides in an array of sixteen, and the points of a row of bytes. Assumes nothing.
use Prim.Native.Nat.{ℕ, zero, suc, ◌+◌, ◌-◌, ◌*◌, ◌<◌, ◌≤◌}
use native.Mathlib.Omega.{arith}
use native.Mathlib.Nat.{not-suc-le-zero, le_of_suc-le-suc}
use mathlib.Core.Path.{◌≡◌, ◌∙◌, sym, ap}
use mathlib.Core.List.{List, [], ◌∷◌, ◌++◌, map}
use lib.ListN.{length, get_or, take, drop, set, replicate, length-map, length-append, get_or-map, drop_of_length-le}
use lib.Seq.{take_all, take_at}
use Rattle.std.specs.Simd.{first_chunks}
use Rattle.std.proofs.lemmas.List.{drop_more, take_rest, length-drop, length-take, drop-drop}
use Rattle.types.specs.declared.Point2.{Point2}
use Rattle.corners.specs.Ring.{sides}
use Rattle.corners.proofs.Around.{pairs, sides_of}
use Rattle.corners.proofs.Places.{nowhere}
use Rattle.corners.proofs.Laws.{length-sides}
use Rattle.geometry.specs.declared.ConvexPolygon.{ConvexPolygon}
use Rattle.geometry.specs.Distance.{ring_of}
use Rattle.geometry.proofs.Hold.{store}
use Rattle.geometry.proofs.Lengths.{within}
use Rattle.frame_fence.specs.FenceFrame.{point_at}
use Rattle.frame_fence.proofs.Parts.{float_part}
use Rattle.inside.specs.declared.Side.{Side}
use Rattle.inside.specs.Inside.{side_of, no_side}

-- a polygon holds at most sixteen corners
pub few : (p : ConvexPolygon) (v : List Point2) → v ≡ ring_of p → length p.verts ≡ 16 → length v ≤ 16
few p v e h = rw e (omega (arith, length-take p.len p.verts))

-- a turn of the loop that holds the sides
pub hold_next : (ss : List (Point2 × Point2)) (i : ℕ) (s : Point2 × Point2) (t : List (Point2 × Point2)) → drop i ss ≡ s ∷ t → i < 16
    → set (take i (map side_of ss) ++ replicate (16 - i) no_side) i (side_of s) ≡ take (i + 1) (map side_of ss) ++ replicate (16 - (i + 1)) no_side
hold_next ss i s t h k =
    let w = within ss i s t h in
    let m = drop_more ss i s w in
    let e : get_or (map side_of ss) i (side_of s) ≡ side_of s = let f : get_or ss i s ≡ s = cc in get_or-map side_of ss i s ∙ ap side_of f in
    rw (← e) (store (map side_of ss) no_side i (side_of s) (omega (arith, length-map ss side_of)) k)

-- the last of them
module _ (v : List Point2) (some : 1 ≤ length v) where
  abbrev first : Point2
  first = get_or v 0 nowhere

  abbrev rest : List Point2
  rest = take (length v - 1) (drop 1 v)

  pub others : length rest + 1 ≡ length v
  others = rw (take_rest v 1) (omega (arith, length-drop 1 v))

  abbrev all : List (Point2 × Point2)
  all = pairs first (rest ++ first ∷ [])

  pub hold_last : (m : List Side) (i : ℕ) (b : Point2) → length v ≤ 16 → length rest ≤ i → i ≤ length rest → drop i all ≡ pairs b (drop i rest ++ first ∷ [])
      → m ≡ take i (map side_of all) ++ replicate (16 - i) no_side
      → set m (length rest) (side_of (b, first)) ≡ map side_of (sides v) ++ replicate (16 - length v) no_side
  hold_last m i b few h k e g =
      let n : i ≡ length rest = omega arith in
      let c = others in
      let z : drop i rest ≡ [] = drop_of_length-le rest {i = i} h in
      let f : drop i all ≡ (b, first) ∷ [] = e ∙ rw z in
      let s = sides_of v nowhere some in
      let t : length (map side_of all) ≤ i + 1 = omega (arith, length-map all side_of, length-sides v, ap length s) in
      let w : 16 - length v ≡ 16 - (i + 1) = omega arith in
      rw (s, w, ← n, g, hold_next all i (b, first) [] f (omega arith), take_all (i + 1) (map side_of all) t)

pub held : (v : List Point2) → take (length v) (map side_of (sides v) ++ replicate (16 - length v) no_side) ≡ map side_of (sides v)
held v = take_at (map side_of (sides v)) _ (length v) (length-map (sides v) side_of ∙ length-sides v)

pub many : (v : List Point2) → length v ≤ length (map side_of (sides v) ++ replicate (16 - length v) no_side)
many v = omega (arith, length-append (map side_of (sides v)) (replicate (16 - length v) no_side), length-map (sides v) side_of, length-sides v)

-- ---- chunks of bytes

chunk_at : {A : Type 0} (n k : ℕ) (xs : List A) (i : ℕ) (d : List A) → i < k → get_or (first_chunks n k xs) i d ≡ take n (drop (i * n) xs)
chunk_at n zero xs i d h = absurd (not-suc-le-zero h)
chunk_at n (suc k) xs zero d h = let e : zero * n ≡ 0 = omega arith in ap (λ j. take n (drop j xs)) (sym e)
chunk_at n (suc k) xs (suc i) d h =
    let e : n + i * n ≡ suc i * n = omega arith in
    chunk_at n k (drop n xs) i d (le_of_suc-le-suc h) ∙ ap (take n) (drop-drop (i * n) n xs ∙ ap (λ j. drop j xs) e)

-- the point of the chunk i
pub chunk_point : (s : List ℕ) (k i : ℕ) (d : List ℕ) → i < k → point_at (get_or (first_chunks 8 k s) i d) 0 ≡ point_at s (8 * i)
unfolding point_at
chunk_point s k i d h =
    let e : i * 8 ≡ 8 * i = omega arith in
    rw (chunk_at 8 k s i d h, e, float_part s (8 * i) 8 0 (8 * i) (omega arith) (omega arith), float_part s (8 * i) 8 4 (8 * i + 4) (omega arith) (omega arith))
