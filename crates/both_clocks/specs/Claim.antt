-- Document 02, L7, about the bytes that the C host hands over: a 32-bit state is carried over, and "from then on .. both clocks .. yield the same Decisions".
-- Lists have the latest pair of calls first. Assumes nothing.
use Rattle.wire.specs.declared.FrameError.{FrameError}
use Rattle.std.specs.Prelude.{ℕ, ◌+◌, ◌%◌, ◌^◌, ◌≤◌, ◌<◌, false, List, [], ◌∷◌, ◌⊎◌, ◌≡◌, Result, Ok, Err, eqb, take, Option, Some, None}
use Rattle.types.specs.declared.Telemetry.{Telemetry}
use Rattle.supervisor.specs.declared.Supervisor.{Supervisor}
use Rattle.wire.specs.Fields.{Bytes}
use Rattle.frame_state.specs.StateFrame.{read_state}
use Rattle.frame_telemetry.specs.TelemetryFrame.{read_telemetry}
use Rattle.instants.specs.Retimed.{TimerName, timer_of, Instants, Stamps, supervisor_at, telemetry_at}
use Rattle.instants.specs.Own.{position_stamp, gps_stamp, value_stamp, flag_stamp, landed_stamp, stamps_of}
use Rattle.instants.specs.Listed.{stamps_listed}
use Rattle.alike.specs.Both.{LowHalf, OfState}
use Rattle.frame_wide.specs.WideState.{read_wide_state}
use Rattle.frame_wide.specs.WideTelemetry.{telemetry_on, wide_stamps, read_wide_telemetry}
use Rattle.calls.specs.Form.{base, wide, telemetry_in}
use Rattle.calls.specs.Entry.{StepCall}
use Rattle.carry.specs.Carry.{carried}
use Rattle.calls.specs.Widen.{widen_call}
use Rattle.run.specs.Run.{Call, on, flight_of, SameFlight}

-- ---- what both are fed

-- the low 32 bits of each instant of telemetry
unfoldable pub low_stamps : Stamps → Stamps
low_stamps j =
    record {
      now = j.now % 2 ^ 32;
      position = j.position % 2 ^ 32;
      gps = j.gps % 2 ^ 32;
      voltage = j.voltage % 2 ^ 32;
      percent = j.percent % 2 ^ 32;
      remaining = j.remaining % 2 ^ 32;
      heartbeat = j.heartbeat % 2 ^ 32;
      armed = j.armed % 2 ^ 32;
      landed = j.landed % 2 ^ 32;
      rc = j.rc % 2 ^ 32;
      ekf = j.ekf % 2 ^ 32;
    }

-- "the same but for the upper halves of telemetry's instants"
abbrev pub without_upper : Telemetry → Telemetry
without_upper t = telemetry_at (low_stamps (stamps_of t)) t

-- the same of bytes: a kind 9 as a kind 3 with the low halves of its instants
abbrev pub low_frame : List ℕ → List ℕ
low_frame s = telemetry_on (stamps_listed (low_stamps (wide_stamps s))) s

-- where the one is accepted so is the other, and it is read as the same without the upper halves
abbrev pub LowFrameClaim : Type 0
LowFrameClaim = (s : List ℕ) (t : Telemetry) → read_wide_telemetry s ≡ Ok t → read_telemetry (low_frame s) ≡ Ok (without_upper t)

-- ---- ages, on the 64-bit clock

-- an instant, where there is one, is not ahead of the reading, and its age is under 2^31
abbrev pub Recent : ℕ → Option ℕ → Type 0
Recent now None = Unit {0}
Recent now (Some x) = (x ≤ now) × (now < x + 2 ^ 31)

-- "no stamp is ahead of its reading and every age .. is under 2^31", of what is read
pub record ReadRecent (t : Telemetry) : Type 0 where
  pub position : Recent t.now_ms (position_stamp t.position)
  pub gps : Recent t.now_ms (gps_stamp t.gps)
  pub voltage : Recent t.now_ms (value_stamp t.battery.voltage_v)
  pub percent : Recent t.now_ms (value_stamp t.battery.percent)
  pub remaining : Recent t.now_ms (value_stamp t.battery.remaining_wh)
  pub heartbeat : Recent t.now_ms t.gcs_heartbeat_ms
  pub armed : Recent t.now_ms (flag_stamp t.armed)
  pub landed : Recent t.now_ms (landed_stamp t.landed)
  pub rc : Recent t.now_ms (flag_stamp t.rc_ok)
  pub ekf : Recent t.now_ms (flag_stamp t.ekf_ok)

-- of what is held but the epoch, which no Decision reads; "no reading goes back", "every gap between readings": last_now is the reading before, at first T
pub record HeldRecent (now : ℕ) (x : Supervisor) : Type 0 where
  pub timer : (n : TimerName) → Recent now (timer_of x.triggers n).since_ms
  pub recovery : Recent now x.arbiter.recovery_since_ms
  pub gate : Recent now x.disarm.hold_since_ms
  pub stored : Recent now (position_stamp x.glitch.last_accepted)
  pub last : Recent now x.last_now

-- what is asked of what is held at a reading, of the state that an image is read as
abbrev pub HeldIn : (ℕ → Supervisor → Type 0) → ℕ → Result Supervisor FrameError → Type 0
HeldIn Held now (Err d) = Unit {0}
HeldIn Held now (Ok x) = Held now x

-- ---- two runs

-- a call on each clock
pub record Pair : Type 0 where
  pub narrow : Call
  pub wide : Call

-- the kind 9 that the call on the 64-bit clock is handed, as it is read
abbrev pub fed_wide : Pair → Telemetry
fed_wide p = telemetry_in wide p.wide.telemetry

-- from an old state's slice, the last sound reading T in 64 bits, and the new state's slice
module _ (old : List ℕ) (T : ℕ) (new : List ℕ) where
  -- each call gets the state that the last one returned or, declining, left; the first gets the old state, and the 306 bytes written of it
  unfoldable pub narrow_bytes : List Pair → List ℕ
  narrow_bytes [] = old
  narrow_bytes (p ∷ earlier) = (on p.narrow (narrow_bytes earlier)).state

  unfoldable pub wide_bytes : List Pair → List ℕ
  wide_bytes [] = take 306 (widen_call old T new).state
  wide_bytes (p ∷ earlier) = (on p.wide (wide_bytes earlier)).state

  -- both calls after earlier ones: number and buffers
  abbrev pub on_narrow : Pair → List Pair → StepCall
  on_narrow p earlier = on p.narrow (narrow_bytes earlier)

  abbrev pub on_wide : Pair → List Pair → StepCall
  on_wide p earlier = on p.wide (wide_bytes earlier)

  -- the output slices as the calls leave them
  unfoldable pub narrow_outputs : List Pair → List (List ℕ)
  narrow_outputs [] = []
  narrow_outputs (p ∷ earlier) = (on_narrow p earlier).output ∷ narrow_outputs earlier

  unfoldable pub wide_outputs : List Pair → List (List ℕ)
  wide_outputs [] = []
  wide_outputs (p ∷ earlier) = (on_wide p earlier).output ∷ wide_outputs earlier

  -- both clocks after their calls
  pub record BothClocks (pairs : List Pair) : Type 0 where
    -- "yield the same Decisions": every output slice, byte for byte, with the sides
    pub decisions : narrow_outputs pairs ≡ wide_outputs pairs
    -- the images are of one state but for its instants, and the low halves of the one's are the other's, beside the epoch's
    pub state : Supervisor
    pub instants : Instants
    pub narrow : read_state false (narrow_bytes pairs) ≡ Ok state
    pub wide : read_wide_state (wide_bytes pairs) ≡ Ok (supervisor_at instants state)
    pub low : OfState LowHalf state instants

  -- what is carried over is such a start: "each held instant becomes T minus its wrapping age at last_now", so it keeps its low half
  pub record Starts : Type 0 where
    pub state : Supervisor
    pub narrow : read_state false old ≡ Ok state
    pub wide : read_wide_state (wide_bytes []) ≡ Ok (supervisor_at (carried T state) state)
    pub low : OfState LowHalf state (carried T state)

-- every old state and T that is carried over
abbrev pub StartClaim : Type 0
StartClaim = (old : List ℕ) (T : ℕ) (new : List ℕ) → Bytes old → T < 2 ^ 64 → (widen_call old T new).number ≡ 0 → Starts old T new

-- what is asked of what is held is a parameter: specs/Instances.antt asks less
module _ (Held : ℕ → Supervisor → Type 0) where
  module _ (old : List ℕ) (T : ℕ) (new : List ℕ) where
    -- where they step: the same entry, configuration, fence and areas, by any bytes, and what document 02 asks of readings, stamps and ages
    pub record FedSame (p : Pair) (earlier : List Pair) : Type 0 where
      pub with_side : p.narrow.with_side ≡ p.wide.with_side
      pub flight : SameFlight (flight_of p.narrow) (flight_of p.wide)
      pub areas : p.narrow.areas ≡ p.wide.areas
      pub narrow_is_bytes : Bytes p.narrow.telemetry
      pub wide_is_bytes : Bytes p.wide.telemetry
      pub telemetry : telemetry_in (base false) p.narrow.telemetry ≡ without_upper (fed_wide p)
      pub read : ReadRecent (fed_wide p)
      pub held : HeldIn Held (fed_wide p).now_ms (read_wide_state (wide_bytes old T new earlier))

    -- "with the same calls declined", the numbers may differ; those that are declined come with any bytes but the same output slice
    pub record PairMeets (p : Pair) (earlier : List Pair) : Type 0 where
      pub output : p.narrow.output ≡ p.wide.output
      pub declined : eqb (on_narrow old T new p earlier).number 0 ≡ eqb (on_wide old T new p earlier).number 0
      pub steps : ((on_wide old T new p earlier).number ≡ 0 → ⊥) ⊎ FedSame p earlier

    abbrev pub Meets : List Pair → Type 0
    Meets [] = Unit {0}
    Meets (p ∷ earlier) = PairMeets p earlier × Meets earlier

  -- and every list of pairs of calls of any step entry, each pair with its own configuration, fence and areas, declined ones among them
  abbrev pub ClaimUnder : Type 0
  ClaimUnder =
      (old : List ℕ) (T : ℕ) (new : List ℕ) → Bytes old → T < 2 ^ 64 → (widen_call old T new).number ≡ 0
      → (pairs : List Pair) → Meets old T new pairs → BothClocks old T new pairs

-- the claim
abbrev pub BothClocksClaim : Type 0
BothClocksClaim = ClaimUnder HeldRecent
