-- What is held after a frame of kind 13, from what its check answers. Assumes nothing.
use Prim.Native.Nat.{ℕ, ◌≤◌}
use native.Mathlib.Omega.{arith}
use mathlib.Core.List.{List, [], ◌++◌}
use mathlib.Core.Path.{◌≡◌, refl, sym}
use lib.ListN.{length, take, drop}
use lib.Seq.{length-take-le, take_all, take_at}
use borrow.Author.Tests.{eq-eqb, ne_eqb}
use Rattle.supervisor.specs.declared.Supervisor.{Supervisor}
use Rattle.frame_areas.specs.declared.AreaError.{AreaError}
use Rattle.frame_areas.specs.AreaFrame.{area_error_number}
use Rattle.frame_areas.specs.AreasFrame.{areas_fault}
use Rattle.frame_areas.proofs.Most.{areas_most}
use Rattle.frame_areas.proofs.Numbers.{area_some}
use Rattle.frame_refusal.specs.RefusalFrame.{refusal_frame}
use Rattle.stream.specs.declared.Due.{Due}
use Rattle.wire.specs.Frame.{frame_written}
use Rattle.stream.specs.declared.FrameAnswer.{FrameAnswer}
use Rattle.stream.specs.Stream.{after_areas, frame_answer}
use Rattle.stream.proofs.Room.{put_nothing, written_nothing}

-- an accepted frame fits a slice with room for the longest
pub accepted_fits : (frame held : List ℕ) → 0 ≡ areas_fault frame → 1045 ≤ length held → length frame ≤ length held
accepted_fits frame held e h = omega (arith, areas_most frame (sym e))

-- a frame that was copied to the front of a slice
copied : (frame held after : List ℕ) → after ≡ take (length frame) frame ++ drop (length frame) held → take (length frame) after ≡ frame
copied frame held after e = rw (e, take_all (length frame) frame (omega arith), take_at frame (drop (length frame) held) (length frame) refl)

held_now : (s : Supervisor) (areas frame : List ℕ) → 0 ≡ areas_fault frame → after_areas s areas frame ≡ record { due = Due.AfterAreas; supervisor = s; areas = frame; bytes = [] }
unfolding after_areas
held_now s areas frame e = rw (eq-eqb (areas_fault frame) 0 (sym e))

-- nothing is put then
pub held_answer : (s : Supervisor) (areas frame out : List ℕ) (n : ℕ) → 0 ≡ areas_fault frame → n ≡ length frame
    → ◌≡◌ {A = FrameAnswer} (record { due = Due.AfterAreas; supervisor = s; areas = n; put = 0 }) (frame_answer (after_areas s areas frame) out)
held_answer s areas frame out n e h = rw (held_now s areas frame e, h, ← put_nothing out) refl

pub held_written : (s : Supervisor) (areas frame out : List ℕ) → 0 ≡ areas_fault frame → out ≡ frame_written (after_areas s areas frame).bytes out
held_written s areas frame out e = rw (held_now s areas frame e) (written_nothing out)

pub held_bytes : (s : Supervisor) (areas frame held after : List ℕ) (n : ℕ) → 0 ≡ areas_fault frame → n ≡ length frame
    → after ≡ take (length frame) frame ++ drop (length frame) held → take n after ≡ (after_areas s areas frame).areas
held_bytes s areas frame held after n e h k = rw (held_now s areas frame e, h) (copied frame held after k)

-- a refused one changes nothing of what is held, and its number is put
pub not_held : (s : Supervisor) (areas frame : List ℕ) (d : AreaError) → area_error_number d ≡ areas_fault frame
    → after_areas s areas frame ≡ record { due = Due.Nothing; supervisor = s; areas = areas; bytes = refusal_frame (area_error_number d) }
unfolding after_areas
not_held s areas frame d e = rw (← e, ne_eqb (area_error_number d) 0 (λ z. omega (arith, area_some d)))

-- bytes within a slice are so many
pub kept_length : (n : ℕ) (held : List ℕ) → n ≤ 1045 → 1045 ≤ length held → length (take n held) ≡ n
kept_length n held h k = length-take-le n held (omega arith)
