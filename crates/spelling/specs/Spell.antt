-- Document 02, L12: "Write an accepted kind 8 fence in one form". Its ring is `written` of crates/rings/specs/Corner.antt. Assumes nothing.
use Rattle.std.specs.Prelude.{ℕ, ◌+◌, ◌*◌, true, List, take, Result, Ok, Err, ⊤}
use Rattle.std.specs.Result.{result_and, result_map_both}
use Rattle.wire.specs.declared.FrameError.{FrameError}
use Rattle.wire.specs.Fields.{u8_at}
use Rattle.wire.specs.Frame.{frame_error_number, check_frame}
use Rattle.corners.specs.declared.FenceError.{FenceError}
use Rattle.corners.specs.Acceptance.{fence_error_number}
use Rattle.geometry.specs.declared.Geofence.{Geofence}
use Rattle.rings.specs.Corner.{plain_number, written}
use Rattle.frame_fence.specs.declared.FenceRead.{FenceRead}
use Rattle.frame_fence.specs.declared.WriteError.{WriteError}
use Rattle.frame_fence.specs.FenceFrame.{corner_array, read_fence, fence_of, write_number, frame_of, check_write, fence_written}
use Rattle.spelling.specs.declared.SpellError.{SpellError}

-- a kind 8 is due, and no kind 2
unfoldable pub check_head : List ℕ → Result ⊤ FrameError
check_head s = check_frame 8 (11 + 8 * u8_at s 4) s

-- what the fence rules answer, without the fence that they accept
abbrev pub verdict : Result Geofence FenceError → Result ⊤ FenceError
verdict r = result_and r (Ok tt)

-- "in one form: starting at the corner with least north, then least east, going first to that one of its two neighbours with less north, then less east,
-- and every −0 as 0, altitudes too"
unfoldable pub in_form : FenceRead → FenceRead
in_form r =
    record {
      once_round = true;
      count = r.count;
      min_alt_m = plain_number r.min_alt_m;
      max_alt_m = plain_number r.max_alt_m;
      corners = corner_array (written (take r.count r.corners));
    }

-- "Turned away: 39 where the frame so written would itself be declined under kind 8"
unfoldable pub judged_again : FenceRead → Result FenceRead SpellError
judged_again t = result_map_both (λ _. t) (λ _. SpellError.OneFormDeclined) (fence_of t)

-- the fence rules, then 39; or the fence in the one form
abbrev pub spelled : Result FenceRead FrameError → Result FenceRead SpellError
spelled (Ok r) = result_and (result_map_both (λ g. g) SpellError.Fence (fence_of r)) (judged_again (in_form r))
spelled (Err e) = Err (SpellError.Frame e)

-- the frame's faults before
unfoldable pub spelled_fence : List ℕ → Result FenceRead SpellError
spelled_fence s = result_and (result_map_both (λ x. x) SpellError.Frame (check_head s)) (spelled (read_fence s))

abbrev pub spell_error_number : SpellError → ℕ
spell_error_number (SpellError.Frame e) = frame_error_number e
spell_error_number (SpellError.Fence e) = fence_error_number e
spell_error_number SpellError.OneFormDeclined = 39

-- the number of a refusal; 0 where nothing is refused
abbrev pub result_number : Result ⊤ SpellError → ℕ
result_number (Ok tt) = 0
result_number (Err e) = spell_error_number e

-- why a frame is not written, as a refusal of the spelling
abbrev pub not_written : WriteError → SpellError
not_written (WriteError.Frame e) = SpellError.Frame e
not_written (WriteError.Fence e) = SpellError.Fence e

-- the number returned: those, "then 5 for an output under 13 + 8 × count bytes"
abbrev pub number_for : Result FenceRead SpellError → List ℕ → ℕ
number_for (Ok t) out = write_number (check_write t.count (frame_of t) out)
number_for (Err e) out = spell_error_number e

unfoldable pub spell_number : List ℕ → List ℕ → ℕ
spell_number s out = number_for (spelled_fence s) out

-- the output: the frame in its first bytes, later bytes as they were; "nothing is written" on a refusal
abbrev pub output_for : Result FenceRead SpellError → List ℕ → List ℕ
output_for (Ok t) out = fence_written t.count (frame_of t) out
output_for (Err e) out = out

unfoldable pub spell_output : List ℕ → List ℕ → List ℕ
spell_output s out = output_for (spelled_fence s) out
