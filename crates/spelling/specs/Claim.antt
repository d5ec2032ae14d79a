-- What is claimed of one spelling, on the bytes of frames. Numbers are compared as numbers: −0 is 0. Assumes nothing.
use Rattle.std.specs.Prelude.{ℕ, ◌+◌, ◌*◌, ◌≡◌, true, List, [], take, Result, Ok, Err}
use Rattle.std.specs.Result.{IsOk, IsOkAnd}
use Rattle.std.specs.Float.Ieee.{eq}
use Rattle.wire.specs.Fields.{Bytes, u8_at, f32_at}
use Rattle.rings.specs.Corner.{SameFence}
use Rattle.wire.specs.declared.FrameError.{FrameError}
use Rattle.frame_fence.specs.declared.FenceRead.{FenceRead}
use Rattle.frame_fence.specs.FenceFrame.{corners_sent, read_fence, fence_of, frame_of}
use Rattle.spelling.specs.Spell.{check_head, in_form, spell_number, spell_output}

-- "an accepted kind 8 fence"
pub record Accepted (s : List ℕ) : Type 0 where
  pub head : check_head s ≡ Ok tt
  pub rules : IsOkAnd (read_fence s) (λ r. IsOk (fence_of r))

-- "the same altitudes and ring of corners, in any rotation or direction"
pub record Same (s t : List ℕ) : Type 0 where
  pub low : eq (f32_at s 5) (f32_at t 5) ≡ true
  pub high : eq (f32_at s 9) (f32_at t 9) ≡ true
  pub ring : SameFence (corners_sent s) (corners_sent t)

-- the frame of what was read in the one form, written or turned away by 39; no byte where nothing was read
abbrev pub form_frame : Result FenceRead FrameError → List ℕ
form_frame (Ok r) = frame_of (in_form r)
form_frame (Err e) = []

abbrev pub form_of : List ℕ → List ℕ
form_of s = form_frame (read_fence s)

-- "Two accepted fences with the same altitudes and ring of corners … write equal bytes into long enough outputs or are both turned away by 39": for every
-- output the same number, and the same bytes in it
abbrev pub WriteAlike : Type 0
WriteAlike = (s t : List ℕ) → Accepted s → Accepted t → Same s t → (out : List ℕ) → (spell_number s out ≡ spell_number t out) × (spell_output s out ≡ spell_output t out)

-- "and equal bytes mean equal rings"
abbrev pub EqualBytes : Type 0
EqualBytes = (s t : List ℕ) → Bytes s → Bytes t → Accepted s → Accepted t → form_of s ≡ form_of t → Same s t

-- "The ring written is the ring read."
abbrev pub RingKept : Type 0
RingKept = (s : List ℕ) → Bytes s → Accepted s → Same s (form_of s)

-- where 0 is returned, the output begins with that frame, which is accepted, and spelled again gives itself
pub record Written (s out : List ℕ) : Type 0 where
  pub first : take (13 + 8 * u8_at s 4) (spell_output s out) ≡ form_of s
  pub accepted : Accepted (form_of s)
  pub again : form_of (form_of s) ≡ form_of s

abbrev pub WrittenStays : Type 0
WrittenStays = (s out : List ℕ) → Bytes s → spell_number s out ≡ 0 → Accepted s × Written s out
