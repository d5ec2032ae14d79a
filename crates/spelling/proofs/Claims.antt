-- One spelling, on the bytes of frames: what is written for an accepted fence reads back as its one form, and the claims on rings carry over. Assumes nothing.
use Rattle.std.specs.Prelude.{Result, Ok, Err, ⊤}
use Rattle.wire.specs.declared.FrameError.{FrameError}
use Rattle.frame_fence.specs.declared.WriteError.{WriteError}
use Rattle.spelling.specs.declared.SpellError.{SpellError}
use Rattle.geometry.specs.declared.ConvexPolygon.{ConvexPolygon}
use Rattle.geometry.specs.declared.Geofence.{Geofence}
use Prim.Native.Nat.{ℕ, zero, suc, ◌+◌, ◌*◌, ◌≤◌}
use mathlib.Core.Path.{◌≡◌, ◌∙◌, ap, refl, sym, subst}
use mathlib.Core.Bool.{Bool, true, false, not, ◌||◌, cond}
use mathlib.Core.List.{List, [], ◌∷◌, ◌++◌, map}
use native.Mathlib.Omega.{arith}
use lib.Dec.{T, ltb}
use lib.ListN.{length, take, drop, length-append, length-reverse, length-replicate}
use lib.Seq.{take_at}
use lib.Ieee.{Float, binary32, fits, eq, le}
use lib.Ieee.Bits.{of_bits-fits}
use borrow.Author.Tests.{le-ltb, ltb-true, ltb-false}
use Rattle.float32.specs.Binary32.{zero_f}
use Rattle.float32.specs.Libm.{is_finite}
use Rattle.types.specs.declared.Point2.{Point2}
use Rattle.wire.specs.Fields.{Bytes, u8_at, f32_at}
use Rattle.wire.specs.Cell.{Within}
use Rattle.wire.specs.Frame.{frame_number, frame_written, check_room}
use Rattle.wire.proofs.Head.{head_says, number_zero, no_error_zero}
use Rattle.corners.specs.declared.FenceError.{FenceError}
use Rattle.std.specs.Result.{is_ok, IsOk, IsOkAnd, result_and, result_map_both}
use Rattle.corners.specs.Acceptance.{fence_error_number, fault_if, polygon_fault}
use Rattle.corners.proofs.Callers.{too_many}
use Rattle.geometry.specs.Polygon.{held_polygon, polygon_new, geofence_new}
use Rattle.rings.specs.Ring.{SameRing, same, turn, back, and_then}
use Rattle.rings.specs.Spelling.{All}
use Rattle.rings.specs.Corner.{before, plain_number, plain, written, Read}
use Rattle.rings.specs.Corner.{Accepted as Ringed}
use Rattle.rings.proofs.Spelling.{all_ring, written_is_read}
use Rattle.rings.proofs.Acceptance.{accepted}
use Rattle.rings.proofs.Corner.{finite_number}
use Rattle.rings.proofs.Unique.{plain_unique}
use Rattle.rings.proofs.Fence.{eq_plain, plain_again, meet, fence_written_is_read, one_fence, fence_stays}
use Rattle.frame_fence.specs.declared.FenceRead.{FenceRead}
use Rattle.frame_fence.specs.FenceFrame.{point_at, corners_at, corner_array, asks_once_round, check_fence, corners_sent, fence_sent, read_fence, with_altitudes, fence_rules, fence_of, corner_cells, fence_cells, fence_frame, frame_of, write_number, check_write, fence_written}
use Rattle.frame_fence.proofs.Corners.{length-corners}
use Rattle.frame_fence.proofs.Rules.{kind_asks}
use Rattle.frame_fence.proofs.Rules as rules_of
use Rattle.frame_fence.proofs.Bytes as bytes_of
use Rattle.frame_fence_trips.proofs.Trips as trips
use Rattle.spelling.specs.Spell.{check_head, in_form, judged_again, spelled, spelled_fence, number_for, output_for, spell_number, spell_output}
use Rattle.spelling.specs.Claim.{Accepted, Same, form_frame, form_of, WriteAlike, EqualBytes, RingKept, WrittenStays}

-- ---- small things
-- a polygon's rules and the altitudes' are both met
both : (v : Result ⊤ FenceError) (p : ConvexPolygon) (x y : Float) → IsOk (with_altitudes x y (result_and v (Ok p))) → (v ≡ Ok tt) × IsOk (geofence_new p x y)
both (Ok tt) p x y h = (refl, h)
both (Err e) p x y h = absurd (cc)

ring_length : {A : Type 0} {l m : List A} → SameRing l m → length l ≡ length m
ring_length same = refl
ring_length (turn {a} {l}) = sym (length-append l (a ∷ []) ∙ omega arith)
ring_length (back {l}) = sym (length-reverse l)
ring_length (and_then p q) = ring_length p ∙ ring_length q

length-plain : (l : List Point2) → length (map plain l) ≡ length l
length-plain [] = refl
length-plain (p ∷ l) = ap suc (length-plain l)

length-written : (l : List Point2) → length (written l) ≡ length l
length-written l = sym (ring_length (written_is_read before (map plain l))) ∙ length-plain l

-- ---- floats of frames are binary32's
fits_true : (b : Bool) → T b → b ≡ true
fits_true true h = refl
fits_true false h = absurd h

fits_at : (s : List ℕ) (i : ℕ) → T (fits binary32 (f32_at s i))
unfolding f32_at
fits_at s i = of_bits-fits binary32 _

fits_plain : (x : Float) → T (fits binary32 x) → T (fits binary32 (plain_number x))
unfolding plain_number
fits_plain x h = by (eq x zero_f)
  where
    by : (b : Bool) → T (fits binary32 (cond b zero_f x))
    by true = of_bits-fits binary32 0
    by false = h

abbrev Fits : Point2 → Type 0
Fits p = T (fits binary32 p.n) × T (fits binary32 p.e)

fits_corners : (s : List ℕ) (i n : ℕ) → All Fits (corners_at s i n)
unfolding corners_at point_at
fits_corners s i zero = tt
fits_corners s i (suc n) = ((fits_at s i, fits_at s (i + 4)), fits_corners s (i + 8) n)

read_corners : (l : List Point2) → All Fits l → Read l
read_corners [] h = tt
read_corners (p ∷ l) h = ((fits_true _ h.0.0, fits_true _ h.0.1), read_corners l h.1)

plain_corners : (l : List Point2) → All Fits l → All Fits (map plain l)
plain_corners [] h = tt
plain_corners (p ∷ l) h = ((fits_plain p.n h.0.0, fits_plain p.e h.0.1), plain_corners l h.1)

within_corners : (l : List Point2) → All Fits l → Within (corner_cells l)
unfolding corner_cells
within_corners [] h = tt
within_corners (p ∷ l) h = (h.0.0, (h.0.1, within_corners l h.1))

fits_written : (l : List Point2) → All Fits l → All Fits (written l)
fits_written l h = all_ring Fits (written_is_read before (map plain l)) (plain_corners l h)

-- ---- an accepted frame
-- what its bytes say, and the one form of that
abbrev sent : List ℕ → FenceRead
sent s = fence_sent true (u8_at s 4) (f32_at s 5) (f32_at s 9) (corners_sent s)

abbrev low : List ℕ → Float
low s = plain_number (f32_at s 5)

abbrev high : List ℕ → Float
high s = plain_number (f32_at s 9)

abbrev ring : List ℕ → List Point2
ring s = written (corners_sent s)

abbrev formed : List ℕ → FenceRead
formed s = fence_sent true (u8_at s 4) (low s) (high s) (ring s)

module _ (s : List ℕ) (a : Accepted s) where
  kind : asks_once_round s ≡ true
  unfolding check_head
  kind = kind_asks true s (head_says 8 (11 + 8 * u8_at s 4) s (ap frame_number a.head)).0

  sound : check_fence s ≡ Ok tt
  unfolding check_fence check_head
  sound = rw kind a.head

  read : read_fence s ≡ Ok (sent s)
  read = rules_of.read s sound ∙ ap (λ b. Ok (fence_sent b (u8_at s 4) (f32_at s 5) (f32_at s 9) (corners_sent s))) kind

  ruled : IsOk (fence_of (sent s))
  ruled = rw read at a.rules

  met : (polygon_fault true (u8_at s 4) (corners_sent s) ≡ Ok tt) × IsOk (geofence_new (held_polygon (corners_sent s)) (f32_at s 5) (f32_at s 9))
  unfolding fence_rules polygon_new
  met =
      let e : fence_of (sent s) ≡ fence_rules true (u8_at s 4) (f32_at s 5) (f32_at s 9) (corners_sent s) = rw kind at (rules_of.rules s) in
      both (polygon_fault true (u8_at s 4) (corners_sent s)) (held_polygon (corners_sent s)) (f32_at s 5) (f32_at s 9) (rw e at ruled)

  pub few : u8_at s 4 ≤ 16
  few = by (ltb 16 (u8_at s 4)) refl
    where
      by : (b : Bool) → ltb 16 (u8_at s 4) ≡ b → u8_at s 4 ≤ 16
      by true h = let e = too_many true (u8_at s 4) (corners_sent s) (ltb-true _ _ h) in let f = met.0 in absurd (cc)
      by false h = ltb-false _ _ h

  long : length (corners_sent s) ≡ u8_at s 4
  unfolding corners_sent
  long = length-corners s 13 _ ∙ omega (arith, few)

  ringed : Ringed (corners_sent s)
  ringed = accepted true (u8_at s 4) (corners_sent s) met.0

  fitting : All Fits (corners_sent s)
  unfolding corners_sent
  fitting = fits_corners s 13 _

  taken : take (u8_at s 4) (corner_array (ring s)) ≡ ring s
  unfolding corner_array
  taken = take_at (ring s) _ (u8_at s 4) (length-written (corners_sent s) ∙ long)

  sent_back : take (u8_at s 4) (corner_array (corners_sent s)) ≡ corners_sent s
  unfolding corner_array
  sent_back = take_at (corners_sent s) _ (u8_at s 4) long

  -- the one form, field by field
  form : in_form (sent s) ≡ formed s
  unfolding in_form
  form = rw sent_back

  form_of_is : form_of s ≡ fence_frame true (u8_at s 4) (low s) (high s) (corner_array (ring s))
  form_of_is = ap form_frame read ∙ ap frame_of form

  -- what stands beside the rules of the corners: both altitudes are finite
  finite_altitudes : (is_finite (f32_at s 5) ≡ true) × (is_finite (f32_at s 9) ≡ true)
  unfolding geofence_new
  finite_altitudes = by (is_finite (f32_at s 5)) (is_finite (f32_at s 9)) (le (f32_at s 9) (f32_at s 5)) refl refl met.1
    where
      fence : Geofence
      fence = record { poly = held_polygon (corners_sent s); max_alt_m = f32_at s 9; min_alt_m = f32_at s 5 }

      by : (x y z : Bool) → is_finite (f32_at s 5) ≡ x → is_finite (f32_at s 9) ≡ y → IsOk (result_and (fault_if (not x || not y || z) FenceError.BadAltitudes) (Ok fence))
          → (is_finite (f32_at s 5) ≡ true) × (is_finite (f32_at s 9) ≡ true)
      by true true z p q h = (p, q)
      by true false z p q h = absurd (cc)
      by false y z p q h = absurd (cc)

-- ---- the frame in the one form reads back as the one form
module _ (s : List ℕ) (b : Bytes s) (a : Accepted s) where
  array_long : length (corner_array (ring s)) ≡ 16
  unfolding corner_array
  array_long = let e : length (ring s) ≡ u8_at s 4 = length-written (corners_sent s) ∙ long s a in simp (length-append, length-replicate) (omega (arith, few s a))

  cells : Within (fence_cells (u8_at s 4) (low s) (high s) (take (u8_at s 4) (corner_array (ring s))))
  unfolding fence_cells Bytes
  cells =
      rw (taken s a)
      (b 4, (fits_plain (f32_at s 5) (fits_at s 5), (fits_plain (f32_at s 9) (fits_at s 9), within_corners (ring s) (fits_written (corners_sent s) (fitting s a)))))

  back_read : read_fence (form_of s) ≡ Ok (formed s)
  back_read =
      ap read_fence (form_of_is s a)
      ∙ trips.value_back true (u8_at s 4) (low s) (high s) (corner_array (ring s)) (few s a) array_long cells
      ∙ ap (λ l. Ok (fence_sent true (u8_at s 4) (low s) (high s) l)) (taken s a)

  form_altitudes : (f32_at (form_of s) 5 ≡ low s) × (f32_at (form_of s) 9 ≡ high s)
  form_altitudes = rw (form_of_is s a) (trips.altitudes true (u8_at s 4) (low s) (high s) (corner_array (ring s)) (few s a) array_long cells)

  form_corners : corners_sent (form_of s) ≡ ring s
  form_corners = ap corners_sent (form_of_is s a) ∙ trips.corners true (u8_at s 4) (low s) (high s) (corner_array (ring s)) (few s a) array_long cells ∙ taken s a

  form_head : check_head (form_of s) ≡ Ok tt
  unfolding check_head check_fence
  form_head =
      let f = trips.head true (u8_at s 4) (low s) (high s) (corner_array (ring s)) (few s a) array_long cells in
      let k = trips.kind true (u8_at s 4) (low s) (high s) (corner_array (ring s)) (few s a) array_long cells in
      rw (form_of_is s a) (number_zero _ (rw k at f))

-- ---- the claims
same_form : (s t : List ℕ) → Accepted s → Accepted t → Same s t → formed s ≡ formed t
same_form s t a b e =
    let w : ring s ≡ ring t =
    (one_fence (corners_sent s) (corners_sent t) (ringed s a) (ringed t b) (read_corners (corners_sent s) (fitting s a)) (read_corners (corners_sent t) (fitting t b))).0 e.ring in
    let n : u8_at s 4 ≡ u8_at t 4 = sym (length-written (corners_sent s) ∙ long s a) ∙ ap length w ∙ length-written (corners_sent t) ∙ long t b in
    let x = plain_unique (f32_at s 5) (f32_at t 5) (fits_true _ (fits_at s 5)) (fits_true _ (fits_at t 5)) e.low in
    let y = plain_unique (f32_at s 9) (f32_at t 9) (fits_true _ (fits_at s 9)) (fits_true _ (fits_at t 9)) e.high in
    λ j. fence_sent true (n j) (x j) (y j) (w j)

behind_rules : {A : Type 0} (r : Result Geofence FenceError) (q : Result A SpellError) → IsOk r → result_and (result_map_both (λ g. g) SpellError.Fence r) q ≡ q
behind_rules (Ok g) q h = refl
behind_rules (Err e) q h = absurd (cc)

spelled_accepted : (s : List ℕ) → Accepted s → spelled_fence s ≡ judged_again (formed s)
unfolding spelled_fence
spelled_accepted s a = rw (a.head, read s a) (behind_rules (fence_of (sent s)) (judged_again (in_form (sent s))) (ruled s a) ∙ ap judged_again (form s a))

pub write_alike : WriteAlike
unfolding spell_number spell_output
write_alike s t a b e out =
    let f : spelled_fence s ≡ spelled_fence t = spelled_accepted s a ∙ ap judged_again (same_form s t a b e) ∙ sym (spelled_accepted t b) in
    (ap (λ r. number_for r out) f, ap (λ r. output_for r out) f)

pub equal_bytes : EqualBytes
equal_bytes s t c d a b e =
    let g : ◌≡◌ {A = Result FenceRead FrameError} (Ok (formed s)) (Ok (formed t)) = sym (back_read s c a) ∙ ap read_fence e ∙ back_read t d b in
    let f : formed s ≡ formed t = cc in
    let w : ring s ≡ ring t = sym (taken s a) ∙ (λ j. take (f j).count (f j).corners) ∙ taken t b in
    record {
      low = meet (f32_at s 5) (f32_at t 5) (finite_number _ (finite_altitudes s a).0) (finite_number _ (finite_altitudes t b).0) (λ j. (f j).min_alt_m);
      high = meet (f32_at s 9) (f32_at t 9) (finite_number _ (finite_altitudes s a).1) (finite_number _ (finite_altitudes t b).1) (λ j. (f j).max_alt_m);
      ring = (one_fence (corners_sent s) (corners_sent t) (ringed s a) (ringed t b) (read_corners (corners_sent s) (fitting s a)) (read_corners (corners_sent t) (fitting t b))).1 w;
    }

pub ring_kept : RingKept
ring_kept s c a =
    record {
      low = rw (form_altitudes s c a).0 (eq_plain (f32_at s 5) (finite_number _ (finite_altitudes s a).0));
      high = rw (form_altitudes s c a).1 (eq_plain (f32_at s 9) (finite_number _ (finite_altitudes s a).1));
      ring = rw (form_corners s c a) (fence_written_is_read (corners_sent s) (ringed s a));
    }

-- ---- what 0 means
no_fence_error : (e : FenceError) → fence_error_number e ≡ 0 → ⊥
no_fence_error FenceError.TooFewVertices h = omega arith
no_fence_error FenceError.TooManyVertices h = omega arith
no_fence_error FenceError.NonFinite h = omega arith
no_fence_error FenceError.OutOfEnvelope h = omega arith
no_fence_error FenceError.DuplicateVertex h = omega arith
no_fence_error FenceError.CollinearEdge h = omega arith
no_fence_error FenceError.NotConvex h = omega arith
no_fence_error FenceError.AreaTooSmall h = omega arith
no_fence_error FenceError.BadAltitudes h = omega arith
no_fence_error FenceError.NotOnceRound h = omega arith

spelled_zero : (r : Result FenceRead SpellError) (out : List ℕ) → number_for r out ≡ 0 → IsOk r
spelled_zero (Ok t) out h = refl
spelled_zero (Err (SpellError.Frame e)) out h = absurd (no_error_zero e h)
spelled_zero (Err (SpellError.Fence e)) out h = absurd (no_fence_error e h)
spelled_zero (Err SpellError.OneFormDeclined) out h = absurd (omega arith)

-- what is spelled was accepted, and so is its one form
record Twice (r : FenceRead) : Type 0 where
  first : IsOk (fence_of r)
  again : IsOk (fence_of (in_form r))

twice : (r : FenceRead) → IsOk (spelled (Ok r)) → Twice r
unfolding judged_again
twice r h = by (fence_of r) (fence_of (in_form r)) refl refl h
  where
    by : (v w : Result Geofence FenceError) → fence_of r ≡ v → fence_of (in_form r) ≡ w
        → IsOk (result_and (result_map_both (λ g. g) SpellError.Fence v) (result_map_both (λ _. in_form r) (λ _. SpellError.OneFormDeclined) w)) → Twice r
    by (Ok g) (Ok k) p q h = record { first = ap is_ok p; again = ap is_ok q }
    by (Ok g) (Err e) p q h = absurd (cc)
    by (Err e) w p q h = absurd (cc)

opened : (s : List ℕ) → IsOk (spelled_fence s) → (check_head s ≡ Ok tt) × IsOkAnd (read_fence s) Twice
unfolding spelled_fence
opened s h = by (check_head s) (read_fence s) h
  where
    by : (v : Result ⊤ FrameError) (w : Result FenceRead FrameError) → IsOk (result_and (result_map_both (λ x. x) SpellError.Frame v) (spelled w)) → (v ≡ Ok tt) × IsOkAnd w Twice
    by (Ok tt) (Ok r) k = (refl, twice r k)
    by (Ok tt) (Err e) k = absurd (cc)
    by (Err e) w k = absurd (cc)

accepts : (s : List ℕ) → (check_head s ≡ Ok tt) × IsOkAnd (read_fence s) Twice → Accepted s
accepts s h = record { head = h.0; rules = by (read_fence s) h.1 }
  where
    by : (w : Result FenceRead FrameError) → IsOkAnd w Twice → IsOkAnd w (λ r. IsOk (fence_of r))
    by (Ok r) k = k.first
    by (Err e) k = k

still : (t : FenceRead) → IsOk (fence_of t) → judged_again t ≡ Ok t
unfolding judged_again
still t h = by (fence_of t) h
  where
    by : (v : Result Geofence FenceError) → IsOk v → result_map_both (λ _. t) (λ _. SpellError.OneFormDeclined) v ≡ Ok t
    by (Ok g) k = refl
    by (Err e) k = absurd (cc)

-- a frame that was written stands in the first bytes
stands : (m : ℕ) (f out : List ℕ) → m ≤ 16 → length f ≡ 13 + 8 * m → write_number (check_write m f out) ≡ 0 → take (13 + 8 * m) (fence_written m f out) ≡ f
unfolding check_write fence_written check_room frame_written
stands m f out h e k = rw (le-ltb 16 m h) (by (ltb (length out) (length f)) (rw (le-ltb 16 m h) at k))
  where
    by : (x : Bool) → write_number (result_map_both (λ y. y) WriteError.Frame (cond x (Err FrameError.NoRoom) (Ok tt))) ≡ 0 → take (13 + 8 * m) (cond x out (f ++ drop (length f) out)) ≡ f
    by true z = absurd (omega arith)
    by false z = take_at f (drop (length f) out) (13 + 8 * m) e

form_again : (s : List ℕ) → Accepted s → in_form (formed s) ≡ formed s
unfolding in_form
form_again s a =
    λ j. fence_sent true (u8_at s 4) (plain_again (f32_at s 5) j) (plain_again (f32_at s 9) j) ((ap written (taken s a) ∙ fence_stays (corners_sent s) (ringed s a)) j)

pub written_stays : WrittenStays
unfolding spell_number spell_output
written_stays s out c h =
    let o = opened s (spelled_zero (spelled_fence s) out h) in
    let a = accepts s o in
    let both : Twice (sent s) = rw (read s a) at o.1 in
    let again : IsOk (fence_of (formed s)) = rw (form s a) at both.again in
    let u : spelled_fence s ≡ Ok (formed s) = spelled_accepted s a ∙ still (formed s) again in
    let f = fence_frame true (u8_at s 4) (low s) (high s) (corner_array (ring s)) in
    let k : write_number (check_write (u8_at s 4) f out) ≡ 0 = subst (λ r. number_for r out ≡ 0) u h in
    let e = bytes_of.size true (u8_at s 4) (low s) (high s) (corner_array (ring s)) (omega (arith, array_long s c a, few s a)) in (
      a,
      record {
        first = ap (λ r. take (13 + 8 * u8_at s 4) (output_for r out)) u ∙ stands (u8_at s 4) f out (few s a) e k ∙ sym (form_of_is s a);
        accepted = record { head = form_head s c a; rules = rw (back_read s c a) again };
        again = ap form_frame (back_read s c a) ∙ ap frame_of (form_again s a) ∙ sym (form_of_is s a);
      },
    )
