-- Document 02, L7: what holds of the frames of kinds 9 and 10. Assumes nothing.
use Rattle.std.specs.Prelude.{ℕ, ◌^◌, ◌<◌, ◌≡◌, false, List, [], ◌∷◌, ◌++◌, length, get_or, drop, replicate, Ok}
use Rattle.types.specs.declared.Telemetry.{Telemetry}
use Rattle.timers.specs.Timer.{started}
use Rattle.triggers.specs.Families.{is_present}
use Rattle.supervisor.specs.declared.Supervisor.{Supervisor}
use Rattle.supervisor.specs.declared.Stepped.{Stepped}
use Rattle.supervisor.specs.Rules.{Rules, RaisedFits}
use Rattle.wire.specs.Fields.{Bytes, u16_at, flag_at}
use Rattle.wire.specs.Cell.{Within, Sort, U8, Flag, U16, U32, F32, sorts_of, NoNan, nan_rewritten}
use Rattle.wire.specs.Frame.{frame_fault, frame_head}
use Rattle.options.specs.Position.{position_cells}
use Rattle.frame_state.specs.StateFrame.{read_state, state_frame}
use Rattle.frame_telemetry.specs.TelemetryFrame.{read_telemetry, telemetry_cells, telemetry_frame}
use Rattle.instants.specs.Retimed.{TimerName, timer_of, Instants, Stamps, position_at, supervisor_at, telemetry_at, third_fault, instants_after}
use Rattle.instants.specs.Own.{own, position_stamp, stamps_of}
use Rattle.instants.specs.Listed.{listed, unlisted, stamps_listed, stamps_unlisted}
use Rattle.frame_wide.specs.Resized.{widened}
use Rattle.frame_wide.specs.WideState.{state_gaps, state_on, with_instants, read_wide_state, wide_state_frame, flag_place, instants_next}
use Rattle.frame_wide.specs.WideTelemetry.{telemetry_gaps, telemetry_on, with_stamps, read_wide_telemetry, wide_telemetry_frame}

-- n numbers of 32 bits
pub record Words (n : ℕ) (given : List ℕ) : Type 0 where
  pub count : length given ≡ n
  pub each : (k : ℕ) → get_or given k 0 < 2 ^ 32

-- a kind 10 by a kind 5 and other instants
abbrev pub wide_at : Instants → Supervisor → List ℕ
wide_at i x = frame_head 10 304 ++ widened state_gaps (listed i) (drop 4 (state_frame false x))

-- what the flags of a kind 10 say of a state
pub record Flags (s : List ℕ) (x : Supervisor) : Type 0 where
  pub timers : (n : TimerName) → started (timer_of x.triggers n).since_ms ≡ flag_at s (flag_place n)
  pub recovery : started x.arbiter.recovery_since_ms ≡ flag_at s 235
  pub gate : started x.disarm.hold_since_ms ≡ flag_at s 244
  pub initialized : x.initialized ≡ flag_at s 305

-- a state with instants of 64 bits, and floats of binary32
pub record TypedWide (x : Supervisor) : Type 0 where
  pub timers : (n : TimerName) → own (timer_of x.triggers n).since_ms < 2 ^ 64
  pub recovery : own x.arbiter.recovery_since_ms < 2 ^ 64
  pub hold : own x.disarm.hold_since_ms < 2 ^ 64
  pub stored : own (position_stamp x.glitch.last_accepted) < 2 ^ 64
  pub floats : Within (position_cells (position_at 0 x.glitch.last_accepted))
  pub last : own x.last_now < 2 ^ 64
  pub epoch : x.epoch_start < 2 ^ 64

-- kind 10
pub record StateLaws : Type 0 where
  -- a kind 10 with marks for its instants is read as the state with these marks
  pub marks_read :
      (given s : List ℕ) → Words 30 given → frame_fault 10 304 s ≡ 0 →
      read_state false (state_on given s) ≡ with_instants (unlisted given) (read_state false (state_on (replicate 30 0) s))
  -- a state at other instants is written as its kind 5 with these in eight bytes
  pub written : (x : Supervisor) (i : Instants) → wide_state_frame (supervisor_at i x) ≡ wide_at i x
  -- the flags are those of the state that is read, with marks or with its own instants
  pub flags_read : (given s : List ℕ) (x : Supervisor) → length given ≡ 30 → frame_fault 10 304 s ≡ 0 → read_state false (state_on given s) ≡ Ok x → Flags s x
  pub flags_wide : (s : List ℕ) (x : Supervisor) → read_wide_state s ≡ Ok x → Flags s x
  -- so the instants after a step follow from the bytes before it
  pub next_is :
      (s : List ℕ) (i : Instants) (j : Stamps) (x : Supervisor) (r : Stepped) → Flags s x →
      instants_after i j x r ≡ instants_next s i j.now j.position (is_present r.decision.fence_dist_m) r.decision.clock_fault (third_fault r)
  -- length and kind of what is written
  pub size : (x : Supervisor) → length (wide_state_frame x) ≡ 306
  pub kind : (x : Supervisor) → u16_at (wide_state_frame x) 2 ≡ 10
  pub head : (x : Supervisor) → frame_fault 10 304 (wide_state_frame x) ≡ 0
  -- value, bytes, value
  pub value_back : (x : Supervisor) → TypedWide x → Rules x → RaisedFits false x → read_wide_state (wide_state_frame x) ≡ Ok x
  -- bytes, value, bytes: the very bytes; and what is read is within its types
  pub bytes_back : (s : List ℕ) (x : Supervisor) → Bytes s → read_wide_state s ≡ Ok x → wide_state_frame x ≡ s
  pub read_typed : (s : List ℕ) (x : Supervisor) → Bytes s → read_wide_state s ≡ Ok x → TypedWide x

-- the cells of a kind 9 by those of a kind 3, where each number of four bytes is an instant: it stands for two such
abbrev pub wide_sorts : List Sort → List Sort
wide_sorts [] = []
wide_sorts (U8 ∷ ks) = U8 ∷ wide_sorts ks
wide_sorts (Flag ∷ ks) = Flag ∷ wide_sorts ks
wide_sorts (U16 ∷ ks) = U16 ∷ wide_sorts ks
wide_sorts (U32 ∷ ks) = U32 ∷ U32 ∷ wide_sorts ks
wide_sorts (F32 ∷ ks) = F32 ∷ wide_sorts ks

-- every instant 0
abbrev pub zero_stamps : Stamps
zero_stamps = record { now = 0; position = 0; gps = 0; voltage = 0; percent = 0; remaining = 0; heartbeat = 0; armed = 0; landed = 0; rc = 0; ekf = 0 }

-- telemetry with instants of 64 bits, and all else within its types
pub record TypedTelemetry (t : Telemetry) : Type 0 where
  pub stamps : (k : ℕ) → get_or (stamps_listed (stamps_of t)) k 0 < 2 ^ 64
  pub others : Within (telemetry_cells (telemetry_at zero_stamps t))

-- kind 9
pub record TelemetryLaws : Type 0 where
  -- a kind 9 with marks for its instants is read as the telemetry with these marks
  pub marks_read :
      (given s : List ℕ) → Words 11 given → frame_fault 9 148 s ≡ 0 →
      read_telemetry (telemetry_on given s) ≡ with_stamps (stamps_unlisted given) (read_telemetry (telemetry_on (replicate 11 0) s))
  -- telemetry at other instants is written as its kind 3 with these in eight bytes
  pub written : (t : Telemetry) (i : Stamps) → wide_telemetry_frame (telemetry_at i t) ≡ frame_head 9 148 ++ widened telemetry_gaps (stamps_listed i) (drop 4 (telemetry_frame t))
  -- length and kind of what is written
  pub size : (t : Telemetry) → length (wide_telemetry_frame t) ≡ 150
  pub kind : (t : Telemetry) → u16_at (wide_telemetry_frame t) 2 ≡ 9
  pub head : (t : Telemetry) → frame_fault 9 148 (wide_telemetry_frame t) ≡ 0
  -- value, bytes, value
  pub value_back : (t : Telemetry) → TypedTelemetry t → read_wide_telemetry (wide_telemetry_frame t) ≡ Ok t
  -- bytes, value, bytes, up to the bits of a NaN; the very bytes, where no float is one
  pub bytes_back :
      (s : List ℕ) (t : Telemetry) → Bytes s → read_wide_telemetry s ≡ Ok t →
      wide_telemetry_frame t ≡ nan_rewritten (U16 ∷ U16 ∷ wide_sorts (sorts_of (telemetry_cells t))) s 0
  pub bytes_same :
      (s : List ℕ) (t : Telemetry) → Bytes s → read_wide_telemetry s ≡ Ok t → NoNan (U16 ∷ U16 ∷ wide_sorts (sorts_of (telemetry_cells t))) s 0 → wide_telemetry_frame t ≡ s
  -- and what is read is within its types
  pub read_typed : (s : List ℕ) (t : Telemetry) → Bytes s → read_wide_telemetry s ≡ Ok t → TypedTelemetry t
