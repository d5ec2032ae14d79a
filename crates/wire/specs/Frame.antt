-- A frame's head: "a two-byte length (of kind and body), a two-byte kind", and the refusal that it earns. Assumes nothing.
use Rattle.std.specs.Prelude.{ℕ, ◌+◌, List, [], ◌∷◌, ◌++◌, Bool, cond, ◌&&◌, length, drop, ltb, eqb, Result, Ok, Err, ⊤}
use Rattle.wire.specs.Fields.{u16_at, le16}
use Rattle.wire.specs.declared.FrameError.{FrameError}

unfoldable pub frame_head : ℕ → ℕ → List ℕ
frame_head kind len = le16 len ++ le16 kind

-- the bytes of the whole frame at the start of the input, 2 and its length; 0 where it is not whole yet
unfoldable pub whole_frame : List ℕ → ℕ
whole_frame s =
    cond (ltb (length s) 2) 0
    (cond (ltb (length s) (2 + u16_at s 0)) 0
    (2 + u16_at s 0))

-- "When a call declines": the numbers of the refusals
abbrev pub frame_error_number : FrameError → ℕ
frame_error_number FrameError.Incomplete = 1
frame_error_number FrameError.WrongKind = 2
frame_error_number FrameError.WrongLength = 3
frame_error_number FrameError.OutOfRange = 4
frame_error_number FrameError.NoRoom = 5

-- the number of a refusal; 0 where nothing is refused
abbrev pub frame_number : {A : Type 0} → Result A FrameError → ℕ
frame_number (Ok x) = 0
frame_number (Err e) = frame_error_number e

-- "When a call declines", in the order 1, length under 2, 2, 3: under 2 bytes, or fewer than 2 + length: 1; length under 2: 3;
-- not the kind due: 2; length not the kind's, or bytes left over: 3.
unfoldable pub check_frame : ℕ → ℕ → List ℕ → Result ⊤ FrameError
check_frame kind len s =
    cond (ltb (length s) 2) (Err FrameError.Incomplete)
    (cond (ltb (length s) (2 + u16_at s 0)) (Err FrameError.Incomplete)
    (cond (ltb (u16_at s 0) 2) (Err FrameError.WrongLength)
    (cond (eqb (u16_at s 2) kind)
    (cond (eqb (u16_at s 0) len) (cond (eqb (length s) (2 + len)) (Ok tt) (Err FrameError.WrongLength)) (Err FrameError.WrongLength))
    (Err FrameError.WrongKind))))

-- its number, 0 for none
abbrev pub frame_fault : ℕ → ℕ → List ℕ → ℕ
frame_fault kind len s = frame_number (check_frame kind len s)

-- "output under 95 bytes (state, for a fresh one: under 186): 5", and so for each frame f
unfoldable pub check_room : List ℕ → List ℕ → Result ⊤ FrameError
check_room f s = cond (ltb (length s) (length f)) (Err FrameError.NoRoom) (Ok tt)

-- its number, 0 for none
abbrev pub room_fault : List ℕ → List ℕ → ℕ
room_fault f s = frame_number (check_room f s)

-- a slice after a frame was written: the frame first and later bytes as they were; nothing written where there is no room
unfoldable pub frame_written : List ℕ → List ℕ → List ℕ
frame_written f s = cond (ltb (length s) (length f)) s (f ++ drop (length f) s)

-- a row of tests: the first, and each of the others
abbrev pub all_true : Bool → List Bool → Bool
all_true b [] = b
all_true b (t ∷ ts) = all_true (b && t) ts
