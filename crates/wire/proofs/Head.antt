-- What a head without fault says, and a frame whose head has none. Assumes nothing.
use Prim.Native.Nat.{ℕ, ◌+◌, ◌<◌, ◌≤◌, ◌^◌}
use mathlib.Core.Path.{◌≡◌, ◌∙◌, ap, sym, refl}
use mathlib.Core.Bool.{Bool, true, false, cond}
use mathlib.Core.List.{List, ◌++◌}
use native.Mathlib.Omega.{arith}
use lib.ListN.{length}
use lib.Dec.{ltb, eqb}
use borrow.Author.Tests.{eqb-true, eqb-false, eq-eqb, le-ltb, lt-ltb, ltb-true, ltb-false}
use Rattle.wire.specs.Fields.{Bytes, u8_at, number_at, u16_at, le_bytes, le16, bytes_from}
use Rattle.std.specs.Prelude.{Result, Ok, Err, ⊤}
use Rattle.std.specs.Result.{is_ok}
use Rattle.wire.specs.declared.FrameError.{FrameError}
use Rattle.wire.specs.Frame.{frame_error_number, frame_number, check_frame, frame_fault, frame_head, check_room, frame_written}
use lib.Seq.{sets}
use Rattle.wire.proofs.Stores.{stored}
use Rattle.wire.proofs.Fields.{u16_back, u16_bytes}

-- a result with no number is no refusal, and the other way round
pub number_zero : (r : Result ⊤ FrameError) → frame_number r ≡ 0 → r ≡ Ok tt
number_zero (Ok tt) h = refl
number_zero (Err FrameError.Incomplete) h = absurd (omega arith)
number_zero (Err FrameError.WrongKind) h = absurd (omega arith)
number_zero (Err FrameError.WrongLength) h = absurd (omega arith)
number_zero (Err FrameError.OutOfRange) h = absurd (omega arith)
number_zero (Err FrameError.NoRoom) h = absurd (omega arith)

pub ok_number : (r : Result ⊤ FrameError) → eqb (frame_number r) 0 ≡ is_ok r
ok_number (Ok tt) = refl
ok_number (Err FrameError.Incomplete) = refl
ok_number (Err FrameError.WrongKind) = refl
ok_number (Err FrameError.WrongLength) = refl
ok_number (Err FrameError.OutOfRange) = refl
ok_number (Err FrameError.NoRoom) = refl

-- a refusal's number is not 0
pub error_number : (e : FrameError) → eqb (frame_error_number e) 0 ≡ false
error_number FrameError.Incomplete = refl
error_number FrameError.WrongKind = refl
error_number FrameError.WrongLength = refl
error_number FrameError.OutOfRange = refl
error_number FrameError.NoRoom = refl

pub no_error_zero : (e : FrameError) → frame_error_number e ≡ 0 → ⊥
no_error_zero e h = eqb-false _ 0 (error_number e) h

-- the tests of a head, in their order
abbrev headed : (a b c d e f : Bool) → Result ⊤ FrameError
headed a b c d e f =
    cond a (Err FrameError.Incomplete)
    (cond b (Err FrameError.Incomplete)
    (cond c (Err FrameError.WrongLength)
    (cond d (cond e (cond f (Ok tt) (Err FrameError.WrongLength)) (Err FrameError.WrongLength)) (Err FrameError.WrongKind))))

tests : (a b c d e f : Bool) → frame_number (headed a b c d e f) ≡ 0 → (d ≡ true) × ((e ≡ true) × (f ≡ true))
tests true b c d e f h = absurd (omega arith)
tests false true c d e f h = absurd (omega arith)
tests false false true d e f h = absurd (omega arith)
tests false false false false e f h = absurd (omega arith)
tests false false false true false f h = absurd (omega arith)
tests false false false true true false h = absurd (omega arith)
tests false false false true true true h = (refl, (refl, refl))

pub head_says : (kind len : ℕ) (s : List ℕ) → frame_fault kind len s ≡ 0 → (u16_at s 2 ≡ kind) × ((u16_at s 0 ≡ len) × (length s ≡ 2 + len))
unfolding check_frame
head_says kind len s h =
    let t = tests (ltb (length s) 2) (ltb (length s) (2 + u16_at s 0)) (ltb (u16_at s 0) 2) (eqb (u16_at s 2) kind) (eqb (u16_at s 0) len) (eqb (length s) (2 + len)) h in
    (eqb-true _ _ t.0, (eqb-true _ _ t.1.0, eqb-true _ _ t.1.1))

-- a frame whose head is accepted has its length
pub accepted_length : (kind len : ℕ) (s : List ℕ) → is_ok (check_frame kind len s) ≡ true → length s ≡ 2 + len
accepted_length kind len s h = (head_says kind len s (eqb-true _ _ (ok_number (check_frame kind len s) ∙ h))).1.1

-- the first four bytes of such a frame
pub head_bytes : (kind len : ℕ) (s : List ℕ) → Bytes s → frame_fault kind len s ≡ 0 → frame_head kind len ≡ bytes_from s 0 4
unfolding frame_head
head_bytes kind len s b h =
    let t = head_says kind len s h in
    (λ j. le16 (sym t.1.0 j) ++ le16 (sym t.0 j)) ∙ (λ j. u16_bytes s 0 b j ++ u16_bytes s 2 b j)

-- and the other way round
pub head_accepted : (kind len : ℕ) (s : List ℕ) → 2 ≤ len → u16_at s 2 ≡ kind → u16_at s 0 ≡ len → length s ≡ 2 + len → check_frame kind len s ≡ Ok tt
unfolding check_frame
head_accepted kind len s h k n e =
    simp (
      le-ltb (length s) 2 (omega arith),
      le-ltb (length s) (2 + u16_at s 0) (omega arith),
      le-ltb (u16_at s 0) 2 (omega arith),
      eq-eqb (u16_at s 2) kind k,
      eq-eqb (u16_at s 0) len n,
      eq-eqb (length s) (2 + len) e,
    )

pub head_sound : (kind len : ℕ) (s : List ℕ) → 2 ≤ len → u16_at s 2 ≡ kind → u16_at s 0 ≡ len → length s ≡ 2 + len → frame_fault kind len s ≡ 0
head_sound kind len s h k n e = ap frame_number (head_accepted kind len s h k n e)

-- kind and lengths are those due: only a length under 2 is still at fault
pub due : (kind len : ℕ) (s : List ℕ) → u16_at s 2 ≡ kind → u16_at s 0 ≡ len → length s ≡ 2 + len → ltb 1 len ≡ is_ok (check_frame kind len s)
unfolding check_frame
due kind len s k n e = go (ltb 1 len) refl
  where
    go : (b : Bool) → ltb 1 len ≡ b → b ≡ is_ok (check_frame kind len s)
    go true h = sym (ap is_ok (head_accepted kind len s (omega (arith, ltb-true 1 len h)) k n e))
    go false h =
        sym
        (simp (
          le-ltb (length s) 2 (omega arith),
          le-ltb (length s) (2 + u16_at s 0) (omega arith),
          lt-ltb (u16_at s 0) 2 (omega (arith, ltb-false 1 len h)),
        ))

-- one of them is not
pub not_due : (kind len : ℕ) (s : List ℕ) → ((u16_at s 2 ≡ kind) × ((u16_at s 0 ≡ len) × (length s ≡ 2 + len)) → ⊥) → false ≡ is_ok (check_frame kind len s)
not_due kind len s h = sym (go (is_ok (check_frame kind len s)) refl)
  where
    go : (b : Bool) → is_ok (check_frame kind len s) ≡ b → is_ok (check_frame kind len s) ≡ false
    go true e = absurd (h (head_says kind len s (eqb-true _ _ (ok_number (check_frame kind len s) ∙ e))))
    go false e = e

-- a head with the body that it announces
pub frame_sound : (kind len : ℕ) (body : List ℕ) → kind < 2 ^ 16 → len < 2 ^ 16 → 2 ≤ len → length body + 2 ≡ len → frame_fault kind len (frame_head kind len ++ body) ≡ 0
unfolding frame_head u8_at number_at u16_at le16 le_bytes
frame_sound kind len body hk hl h e = head_sound kind len (frame_head kind len ++ body) h (u16_back kind hk) (u16_back len hl) (omega arith)

-- a frame and a slice that has room for it, and one that has not
module _ (f s : List ℕ) (n : ℕ) (e : length f ≡ n) where
  pub room : n ≤ length s → (Ok tt ≡ check_room f s) × (sets s 0 f ≡ frame_written f s)
  unfolding check_room frame_written
  room h = let t = le-ltb (length s) (length f) (omega arith) in (simp t, simp t (stored s f (omega arith)))

  pub no_room : length s < n → (Err FrameError.NoRoom ≡ check_room f s) × (s ≡ frame_written f s)
  unfolding check_room frame_written
  no_room h = let t = lt-ltb (length s) (length f) (omega arith) in (simp t, simp t)
