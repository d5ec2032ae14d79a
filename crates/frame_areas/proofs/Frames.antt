-- Kinds 7 and 13: both round trips; and what an accepted add or remove writes is accepted again. Assumes nothing.
use Prim.Native.Nat.{ℕ, zero, suc, ◌+◌, ◌*◌, ◌<◌, ◌≤◌, ◌^◌}
use mathlib.Core.Path.{◌≡◌, refl, sym, ap, ◌∙◌}
use mathlib.Core.Bool.{Bool, true, false, not, ◌||◌, cond, false≢true}
use mathlib.Core.List.{List, [], ◌∷◌, ◌++◌}
use native.Mathlib.Omega.{arith}
use lib.Dec.{ltb, lit<}
use lib.ListN.{length, take, drop, length-append, length-drop, take-append-drop, get_or-append}
use lib.Seq.{take_at, drop_at, drop-cons}
use borrow.Author.Tests.{le-ltb, ltb-true, ltb-false, ne_eqb}
use Rattle.corners.proofs.Callers.{too_many}
use Rattle.wire.specs.Fields.{Bytes, u8_at, number_at, u16_at, le_bytes, le16, bytes_from}
use Rattle.wire.specs.Frame.{frame_fault, frame_head}
use Rattle.wire.proofs.Fields.{u16_back}
use Rattle.wire.proofs.Head.{head_says, head_bytes, frame_sound}
use Rattle.frame_fence.specs.FenceFrame.{fence_number}
use Rattle.areas.specs.Held.{Area, Rules, held, All, place, without, area_fault, taken, answer, and_then, read_from, read}
use Rattle.areas.specs.Calls.{code}
use Rattle.areas.proofs.Lists.{all_map, all_place, all_without}
use Rattle.areas.proofs.Good.{Good, Sound, clear, good_none, good_place, good_without, read_good, read_as}
use Rattle.frame_areas.specs.AreaFrame.{Sent, area_rules, corners_sent, body_of, area_of, body_size, check_area_frame, area_frame_fault, area_in, area_frame}
use Rattle.frame_areas.specs.AreasFrame.{bodies, held_in, bodies_fit, counts_fit, areas_frame_fault, areas_fault, bodies_of, areas_frame}
use Rattle.frame_areas.proofs.Walk.{AsSent, body_back, body_sent, filled, first_zero}

-- ---- one body
pub area_back : (a : Sent) → area_of (body_of a) ≡ a
unfolding u8_at
area_back a = refl

pub body_size_lem : (a : Sent) (t : List ℕ) → AsSent a → body_size (body_of a ++ t) ≡ length (body_of a)
unfolding u8_at
body_size_lem a t h = omega (arith, get_or-append a.corners t 0 0 (omega arith))

-- ---- several
module _ (n : ℕ) (b t : List ℕ) (h : body_size (b ++ t) ≡ length b) where
  pub bodies_next : bodies (suc n) (b ++ t) ≡ area_of b ∷ bodies n t
  unfolding bodies
  bodies_next = rw (h, le-ltb (length (b ++ t)) (length b) (omega (arith, length-append b t)), take_at b t (length b) refl, drop_at b t (length b) refl)

  pub fit_next : bodies_fit (suc n) (b ++ t) ≡ bodies_fit n t
  unfolding bodies_fit
  fit_next = rw (h, le-ltb (length (b ++ t)) (length b) (omega (arith, length-append b t)), drop_at b t (length b) refl)

pub bodies_back : (l : List Sent) → All AsSent l → bodies (length l) (bodies_of l) ≡ l
unfolding bodies bodies_of
bodies_back [] h = refl
bodies_back (a ∷ l) h =
    bodies_next (length l) (body_of a) (bodies_of l) (body_size_lem a (bodies_of l) h.0) ∙ (λ i. area_back a i ∷ bodies_back l h.1 i)

pub bodies_fit_lem : (l : List Sent) → All AsSent l → bodies_fit (length l) (bodies_of l) ≡ true
unfolding bodies_fit bodies_of
bodies_fit_lem [] h = refl
bodies_fit_lem (a ∷ l) h = fit_next (length l) (body_of a) (bodies_of l) (body_size_lem a (bodies_of l) h.0) ∙ bodies_fit_lem l h.1

-- ---- kind 13
else_three : (b : Bool) → ◌≡◌ {A = ℕ} (cond b 0 3) 0 → b ≡ true
else_three true e = refl
else_three false e = absurd (omega arith)

-- the first n bytes, one by one
first_four : (s : List ℕ) → 4 ≤ length s → bytes_from s 0 4 ≡ take 4 s
unfolding u8_at
first_four [] h = absurd (omega arith)
first_four (a ∷ []) h = absurd (omega arith)
first_four (a ∷ b ∷ []) h = absurd (omega arith)
first_four (a ∷ b ∷ c ∷ []) h = absurd (omega arith)
first_four (a ∷ b ∷ c ∷ d ∷ s) h = refl

-- the areas, their frame, the areas
pub areas_back : (l : List Sent) → All AsSent l → held_in (areas_frame l) ≡ l
unfolding held_in areas_frame frame_head u8_at le16 le_bytes
areas_back l h = bodies_back l h

pub areas_length : (l : List Sent) → length (areas_frame l) ≡ 5 + length (bodies_of l)
unfolding areas_frame frame_head le16 le_bytes
areas_length l = omega arith

pub areas_field : (l : List Sent) → 3 + length (bodies_of l) < 2 ^ 16 → u16_at (areas_frame l) 0 ≡ 3 + length (bodies_of l)
unfolding areas_frame frame_head u8_at number_at u16_at le16 le_bytes
areas_field l k = u16_back (3 + length (bodies_of l)) k

areas_fit : (l : List Sent) → All AsSent l → counts_fit (areas_frame l) ≡ true
unfolding counts_fit areas_frame frame_head u8_at le16 le_bytes
areas_fit l h = rw (le-ltb (suc (suc (suc (suc (suc (length (bodies_of l))))))) 5 (omega arith)) (bodies_fit_lem l h)

areas_head : (l : List Sent) → 3 + length (bodies_of l) < 2 ^ 16 → frame_fault 13 (3 + length (bodies_of l)) (areas_frame l) ≡ 0
unfolding areas_frame
areas_head l k = frame_sound 13 (3 + length (bodies_of l)) (length l ∷ bodies_of l) (lit< tt) k (omega arith) (omega arith)

pub areas_sound : (l : List Sent) → All AsSent l → 3 + length (bodies_of l) < 2 ^ 16 → areas_frame_fault (areas_frame l) ≡ 0
unfolding areas_frame_fault
areas_sound l h k = rw (areas_field l k, areas_head l k, areas_fit l h)

-- a frame without fault
pub record Framed (s : List ℕ) : Type 0 where
  pub head : frame_fault 13 (u16_at s 0) s ≡ 0
  pub long : 5 ≤ length s
  pub fit : bodies_fit (u8_at s 4) (drop 5 s) ≡ true

pub framed : (s : List ℕ) → areas_frame_fault s ≡ 0 → Framed s
unfolding areas_frame_fault counts_fit
framed s e = by (ltb (length s) 5) refl (else_three (counts_fit s) f.1)
  where
    f : (frame_fault 13 (u16_at s 0) s ≡ 0) × (◌≡◌ {A = ℕ} (cond (counts_fit s) 0 3) 0)
    f = first_zero (frame_fault 13 (u16_at s 0) s) (cond (counts_fit s) 0 3) e

    by : (t : Bool) → ltb (length s) 5 ≡ t → cond t false (bodies_fit (u8_at s 4) (drop 5 s)) ≡ true → Framed s
    by true q g = absurd (false≢true g)
    by false q g = record { head = f.0; long = ltb-false (length s) 5 q; fit = g }

pub areas_sent : (s : List ℕ) → areas_frame_fault s ≡ 0 → All AsSent (held_in s)
unfolding held_in
areas_sent s e = (filled (u8_at s 4) (drop 5 s) (framed s e).fit).sent

-- the bytes, their areas, the bytes
pub areas_same : (s : List ℕ) → Bytes s → areas_frame_fault s ≡ 0 → areas_frame (held_in s) ≡ s
unfolding held_in areas_frame u8_at
areas_same s b e =
    let f = framed s e in
    let g = filled (u8_at s 4) (drop 5 s) f.fit in
    let n : length s ≡ 2 + u16_at s 0 = (head_says 13 (u16_at s 0) s f.head).1.1 in
    let k : 3 + length (bodies_of (bodies (u8_at s 4) (drop 5 s))) ≡ u16_at s 0 = omega (arith, ap length g.same, length-drop 5 s, f.long) in
    (λ i. frame_head 13 (k i) ++ (g.count i ∷ g.same i))
    ∙ (λ i. (head_bytes 13 (u16_at s 0) s b f.head ∙ first_four s (omega (arith, f.long))) i ++ sym (drop-cons s 4 0 f.long) i)
    ∙ take-append-drop 4 s

-- ---- kind 7
pub area_in_back : (a : Sent) → area_in (area_frame a) ≡ a
unfolding area_in area_frame frame_head u8_at le16 le_bytes
area_in_back a = refl

area_size : (a : Sent) → AsSent a → body_size (drop 4 (area_frame a)) ≡ length (body_of a)
unfolding area_frame frame_head u8_at le16 le_bytes
area_size a h = omega arith

pub area_sound : (a : Sent) → AsSent a → 2 + length (body_of a) < 2 ^ 16 → area_frame_fault (area_frame a) ≡ 0
unfolding check_area_frame area_frame
area_sound a h k =
    ap (λ (n : ℕ). frame_fault 7 (2 + n) (area_frame a)) (area_size a h)
    ∙ frame_sound 7 (2 + length (body_of a)) (body_of a) (lit< tt) k (omega arith) (omega arith)

-- an area's frame without fault: the body behind the head is as long as its count says
pub area_body : (s : List ℕ) → area_frame_fault s ≡ 0 → length (drop 4 s) ≡ body_size (drop 4 s)
unfolding check_area_frame
area_body s e = omega (arith, (head_says 7 (2 + body_size (drop 4 s)) s e).1.1, length-drop 4 s)

pub area_sent : (s : List ℕ) → area_frame_fault s ≡ 0 → AsSent (area_in s)
unfolding area_in
area_sent s e = body_sent (drop 4 s) (area_body s e)

pub area_same : (s : List ℕ) → Bytes s → area_frame_fault s ≡ 0 → area_frame (area_in s) ≡ s
unfolding area_frame area_in check_area_frame
area_same s b e =
    let n : length s ≡ 2 + (2 + body_size (drop 4 s)) = (head_says 7 (2 + body_size (drop 4 s)) s e).1.1 in
    let k = area_body s e in
    (λ i. frame_head 7 (2 + length (body_back (drop 4 s) (omega arith) i)) ++ body_back (drop 4 s) (omega arith) i)
    ∙ ap (λ (m : ℕ). frame_head 7 (2 + m) ++ drop 4 s) k
    ∙ ap (λ (h : List ℕ). h ++ drop 4 s) (head_bytes 7 (2 + body_size (drop 4 s)) s b e ∙ first_four s (omega arith))
    ∙ take-append-drop 4 s

-- ---- what is held stays accepted

-- what areas that were accepted meet
pub record Accepted (l : List Sent) : Type 0 where
  pub good : Good area_rules l
  pub sent : All AsSent l

count_fits : (b : List ℕ) → area_rules.fault b ≡ 0 → u8_at b 0 ≤ 16
unfolding area_rules
count_fits b e = by (ltb 16 (u8_at b 0)) refl
  where
    by : (t : Bool) → ltb 16 (u8_at b 0) ≡ t → u8_at b 0 ≤ 16
    by false q = ltb-false 16 (u8_at b 0) q
    by true q = absurd (omega (arith, ap fence_number (sym (too_many true (u8_at b 0) (corners_sent b) (ltb-true 16 (u8_at b 0) q))) ∙ e))

pub bodies_small : (l : List Sent) → All (Sound area_rules) l → All AsSent l → length (bodies_of l) ≤ 130 * length l
unfolding bodies_of
bodies_small [] s h = omega arith
bodies_small (a ∷ l) s h = omega (arith, bodies_small l s.1 h.1, count_fits a.corners s.0.polygon, h.0, length-append a.corners (bodies_of l))

pub accepted_small : (l : List Sent) → Accepted l → 3 + length (bodies_of l) < 2 ^ 16
accepted_small l p = omega (arith, bodies_small l p.good.sound p.sent, p.good.eight)

module _ {P : Type 0} (r : Rules P) where
  -- no refusal has number 0
  read_held : (n : ℕ) (l m : List (Area P)) → code (read_from r n l m) ≡ 0 → (k : List (Area P)) × (read_from r n l m ≡ held k)
  read_held n l [] e = (l, refl)
  read_held n l (a ∷ m) e = by (area_fault r (taken l a.number || not (ltb n a.number)) (length l) a) e (read_held a.number (place a l) m)
    where
      by : (f : ℕ) → code (and_then (answer f (place a l)) (λ k. read_from r a.number k m)) ≡ 0
          → (code (read_from r a.number (place a l) m) ≡ 0 → (k : List (Area P)) × (read_from r a.number (place a l) m ≡ held k))
          → (k : List (Area P)) × (and_then (answer f (place a l)) (λ k. read_from r a.number k m) ≡ held k)
      by (suc f) e on = absurd (omega arith)
      by zero e on = on e

pub accepted_none : Accepted []
accepted_none = record { good = good_none area_rules; sent = tt }

pub accepted : (s : List ℕ) → areas_fault s ≡ 0 → Accepted (held_in s)
unfolding areas_fault held_in bodies u8_at
accepted [] e = accepted_none
accepted (x ∷ s) e = by (first_zero (areas_frame_fault (x ∷ s)) (code (read area_rules (held_in (x ∷ s)))) (rw (ne_eqb (suc (length s)) 0 (λ h. omega arith)) at e))
  where
    by : (areas_frame_fault (x ∷ s) ≡ 0) × (code (read area_rules (held_in (x ∷ s))) ≡ 0) → Accepted (held_in (x ∷ s))
    by f =
        let (k, q) = read_held area_rules 0 [] (held_in (x ∷ s)) f.1 in
        record { good = (read_as area_rules 0 [] (held_in (x ∷ s)) k (good_none area_rules) tt q).good; sent = areas_sent (x ∷ s) f.0 }

-- and their frame's bodies are all of it
pub accepted_fit : (s : List ℕ) → areas_fault s ≡ 0 → bodies_fit (u8_at s 4) (drop 5 s) ≡ true
unfolding areas_fault bodies_fit u8_at
accepted_fit [] e = refl
accepted_fit (x ∷ s) e = (framed (x ∷ s) (first_zero (areas_frame_fault (x ∷ s)) _ (rw (ne_eqb (suc (length s)) 0 (λ h. omega arith)) at e)).0).fit

-- the frame of such areas
pub accepted_frame : (l : List Sent) → Accepted l → areas_fault (areas_frame l) ≡ 0
unfolding areas_fault
accepted_frame l p =
    let e : read area_rules l ≡ held l = read_good area_rules 0 [] l p.good (all_map _ _ (λ (a : Sent) s. s.numbered) l p.good.sound) in
    rw (
      ne_eqb (length (areas_frame l)) 0 (λ h. omega (arith, areas_length l)),
      areas_sound l p.sent (accepted_small l p),
      areas_back l p.sent,
      e,
    )

-- an accepted add, and a remove
pub accepted_place : (l : List Sent) (a : Sent) → Accepted l → AsSent a → area_fault area_rules (taken l a.number) (length l) a ≡ 0 → Accepted (place a l)
accepted_place l a p h e = record { good = good_place area_rules l a p.good (clear area_rules (taken l a.number) l a e); sent = all_place AsSent a l h p.sent }

pub accepted_without : (n : ℕ) (l : List Sent) → Accepted l → Accepted (without n l)
accepted_without n l p = record { good = good_without area_rules n l p.good; sent = all_without AsSent n l p.sent }

pub add_again : (s : List ℕ) (a : Sent) → areas_fault s ≡ 0 → AsSent a → area_fault area_rules (taken (held_in s) a.number) (length (held_in s)) a ≡ 0
    → areas_fault (areas_frame (place a (held_in s))) ≡ 0
add_again s a e h f = accepted_frame (place a (held_in s)) (accepted_place (held_in s) a (accepted s e) h f)

pub remove_again : (s : List ℕ) (n : ℕ) → areas_fault s ≡ 0 → areas_fault (areas_frame (without n (held_in s))) ≡ 0
remove_again s n e = accepted_frame (without n (held_in s)) (accepted_without n (held_in s) (accepted s e))
