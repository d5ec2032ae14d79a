-- Kind 10, document 02, L7: "kind 10 the state with all instants in eight bytes": a kind 5 with its 30 instants in eight bytes each. Assumes nothing.
use Rattle.std.specs.Prelude.{ℕ, List, [], ◌∷◌, ◌++◌, Bool, false, not, ◌&&◌, cond, drop, replicate, Result, Ok, Err}
use Rattle.std.specs.Result.{result_and}
use Rattle.supervisor.specs.declared.Supervisor.{Supervisor}
use Rattle.wire.specs.Fields.{flag_at}
use Rattle.wire.specs.declared.FrameError.{FrameError}
use Rattle.wire.specs.Frame.{check_frame, frame_head}
use Rattle.frame_state.specs.StateFrame.{read_state, state_frame}
use Rattle.instants.specs.Retimed.{TimerName, gcs_clear, rc_clear, gps_deg_set, gps_deg_clear, gps_lost_set, gps_lost_clear, ekf_set, ekf_clear, breach_set, breach_clear, alt_max_set, alt_max_clear, alt_min_set, alt_min_clear, stale_clear, warn_set, warn_clear, low_set, low_clear, crit_set, marg_set, marg_clear, infeas_set, invalid_clear, rc_set, Instants, supervisor_at}
use Rattle.instants.specs.Own.{instants_of}
use Rattle.instants.specs.Listed.{listed, unlisted}
use Rattle.frame_wide.specs.Resized.{instants_at, narrowed, widened}

-- the bytes before each instant, from behind the head on: the 24 timers that stand one after the other, rc_lost_set, the recovery start, the disarm hold,
-- the stored sample's stamp, last_now and the epoch
unfoldable pub state_gaps : List ℕ
state_gaps = 3 ∷ 1 ∷ 1 ∷ 1 ∷ 1 ∷ 1 ∷ 1 ∷ 1 ∷ 1 ∷ 1 ∷ 1 ∷ 1 ∷ 1 ∷ 1 ∷ 1 ∷ 1 ∷ 1 ∷ 1 ∷ 1 ∷ 1 ∷ 1 ∷ 1 ∷ 1 ∷ 1 ∷ 2 ∷ 4 ∷ 1 ∷ 1 ∷ 26 ∷ 0 ∷ []

-- the kind 5 of a kind 10's bytes, with these numbers for the instants that are there
unfoldable pub state_on : List ℕ → List ℕ → List ℕ
state_on given s = frame_head 5 184 ++ narrowed state_gaps given (drop 4 s)

-- the 64-bit instants of a kind 10
unfoldable pub wide_instants : List ℕ → Instants
wide_instants s = unlisted (instants_at 8 state_gaps (drop 4 s))

abbrev pub with_instants : Instants → Result Supervisor FrameError → Result Supervisor FrameError
with_instants i (Ok x) = Ok (supervisor_at i x)
with_instants i (Err e) = Err e

-- the frame read: the head; then it is judged as a kind 5, where no rule looks at an instant that is there, and has its own instants
unfoldable pub read_wide_state : List ℕ → Result Supervisor FrameError
read_wide_state s = result_and (check_frame 10 304 s) (with_instants (wide_instants s) (read_state false (state_on (replicate 30 0) s)))

-- the whole frame
unfoldable pub wide_state_frame : Supervisor → List ℕ
wide_state_frame x = frame_head 10 304 ++ widened state_gaps (listed (instants_of x)) (drop 4 (state_frame false x))

-- ---- the instants after a step, by the bytes before it

-- the place of a timer's flag
abbrev pub flag_place : TimerName → ℕ
flag_place gcs_clear = 6
flag_place rc_clear = 15
flag_place gps_deg_set = 24
flag_place gps_deg_clear = 33
flag_place gps_lost_set = 42
flag_place gps_lost_clear = 51
flag_place ekf_set = 60
flag_place ekf_clear = 69
flag_place breach_set = 78
flag_place breach_clear = 87
flag_place alt_max_set = 96
flag_place alt_max_clear = 105
flag_place alt_min_set = 114
flag_place alt_min_clear = 123
flag_place stale_clear = 132
flag_place warn_set = 141
flag_place warn_clear = 150
flag_place low_set = 159
flag_place low_clear = 168
flag_place crit_set = 177
flag_place marg_set = 186
flag_place marg_clear = 195
flag_place infeas_set = 204
flag_place invalid_clear = 213
flag_place rc_set = 223

-- an instant that was there stays; one that was not is the reading
abbrev pub stays_at : List ℕ → ℕ → ℕ → ℕ → ℕ
stays_at s at x now = cond (flag_at s at) x now

-- by the state's bytes and instants before, the reading, the position's stamp, and whether the step has a distance, a fault, a third fault
unfoldable pub instants_next : List ℕ → Instants → ℕ → ℕ → Bool → Bool → Bool → Instants
instants_next s i now position dist fault third =
    record {
      timer = λ n. stays_at s (flag_place n) (i.timer n) now;
      recovery = stays_at s 235 i.recovery now;
      gate = stays_at s 244 i.gate now;
      stored = cond dist position i.stored;
      last = cond fault i.last now;
      epoch = cond (flag_at s 305 && not third) i.epoch now;
    }
