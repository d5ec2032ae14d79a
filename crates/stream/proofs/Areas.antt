-- "at most one before each kind 3": after an accepted kind 13 a second one is refused with 2, not the kind due. Assumes nothing.
use Rattle.wire.specs.declared.FrameError.{FrameError}
use Rattle.std.specs.Prelude.{Err}
use Prim.Native.Nat.{ℕ, ◌+◌, ◌≤◌}
use native.Mathlib.Omega.{arith}
use mathlib.Core.List.{List}
use mathlib.Core.Path.{◌≡◌}
use lib.ListN.{length}
use borrow.Author.Tests.{le-ltb, ne_eqb}
use Rattle.supervisor.specs.declared.Supervisor.{Supervisor}
use Rattle.wire.specs.Fields.{u16_at}
use Rattle.wire.specs.Frame.{check_frame}
use Rattle.frame_telemetry.specs.TelemetryFrame.{read_telemetry}
use Rattle.frame_refusal.specs.RefusalFrame.{refusal_frame}
use Rattle.flight.specs.declared.Flight.{Flight}
use Rattle.stream.specs.declared.Due.{Due}
use Rattle.stream.specs.Stream.{answer_frame}

-- a whole frame of kind 13 is not the kind that a kind 3's reader takes
other_kind : (frame : List ℕ) → length frame ≡ 2 + u16_at frame 0 → 2 ≤ u16_at frame 0 → u16_at frame 2 ≡ 13 → check_frame 3 104 frame ≡ Err FrameError.WrongKind
unfolding check_frame
other_kind frame whole two kind =
    rw (le-ltb (length frame) 2 (omega arith), le-ltb (length frame) (2 + u16_at frame 0) (omega arith), le-ltb (u16_at frame 0) 2 two, ne_eqb (u16_at frame 2) 3 (λ e. omega arith))

pub second_refused : (f : Flight) (s : Supervisor) (areas frame : List ℕ)
    → length frame ≡ 2 + u16_at frame 0 → 2 ≤ u16_at frame 0 → u16_at frame 2 ≡ 13
    → answer_frame f Due.AfterAreas s areas frame ≡ record { due = Due.Nothing; supervisor = s; areas = areas; bytes = refusal_frame 2 }
unfolding answer_frame read_telemetry
second_refused f s areas frame whole two kind = rw (other_kind frame whole two kind)
