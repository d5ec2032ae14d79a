-- Document 02, L7: "A running 32-bit state is carried over without landing. The host gives the last sound reading T in 64 bits". Assumes nothing.
use Rattle.std.specs.Prelude.{ℕ, false, cond, List, Result, Ok, Err}
use Rattle.wire.specs.declared.FrameError.{FrameError}
use Rattle.wire.specs.Frame.{frame_error_number, room_fault, frame_written}
use Rattle.supervisor.specs.declared.Supervisor.{Supervisor}
use Rattle.frame_state.specs.StateFrame.{read_state}
use Rattle.carry.specs.Carry.{last_is, have_ages, widened}
use Rattle.frame_wide.specs.WideState.{wide_state_frame}
use Rattle.calls.specs.Entry.{FreshCall}

-- "Turned away: the old frame's faults, then 34 .., then 35 .., then 5 where the new state's slice is under 306 bytes"; "the old state is kept"
abbrev pub after_old : Result Supervisor FrameError → ℕ → List ℕ → FreshCall
after_old (Err e) T new = record { number = frame_error_number e; state = new }
after_old (Ok s) T new =
    cond (last_is T s.last_now)
    (cond (have_ages T s)
    (record { number = room_fault (wide_state_frame (widened T s)) new; state = frame_written (wide_state_frame (widened T s)) new })
    (record { number = 35; state = new }))
    (record { number = 34; state = new })

-- the entry's number and the new state's slice
unfoldable pub widen_call : List ℕ → ℕ → List ℕ → FreshCall
widen_call old T new = after_old (read_state false old) T new
