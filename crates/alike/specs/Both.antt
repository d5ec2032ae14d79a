-- Document 02, L7: "both clocks, fed the same but for the upper halves of telemetry's instants .., yield the same Decisions". Assumes nothing.
-- A 64-bit instant stands in `Instants` and `Stamps`, beside the 32-bit state and telemetry whose place it takes.
use Rattle.std.specs.Prelude.{ℕ, ◌+◌, ◌-◌, ◌%◌, ◌^◌, ◌≤◌, ◌<◌, ◌≡◌, List, [], ◌∷◌, Option, Some, None}
use Rattle.types.specs.declared.Telemetry.{Telemetry}
use Rattle.types.specs.declared.Decision.{Decision}
use Rattle.time.specs.Time.{plain, wrapping_sub}
use Rattle.config.specs.declared.Config.{Config}
use Rattle.supervisor.specs.declared.Supervisor.{Supervisor}
use Rattle.supervisor.specs.declared.Stepped.{Stepped}
use Rattle.supervisor.specs.Settings.{Site, Fed, base_settings, fed_at}
use Rattle.supervisor.specs.Step.{step}
use Rattle.instants.specs.Retimed.{TimerName, timer_of, Instants, Stamps, supervisor_at, stepped_at, telemetry_at, instants_after}
use Rattle.instants.specs.Own.{position_stamp, gps_stamp, value_stamp, flag_stamp, landed_stamp}
use Rattle.alike.specs.Alike.{settings}

-- an instant of 64 bits whose low half is the held one
abbrev pub LowHalf : ℕ → Option ℕ → Type 0
LowHalf x None = Unit {0}
LowHalf x (Some y) = x % 2 ^ 32 ≡ y

-- not ahead of the reading, and its age under 2^31
abbrev pub Young : ℕ → ℕ → Option ℕ → Type 0
Young now x None = Unit {0}
Young now x (Some y) = (x ≤ now) × (now < x + 2 ^ 31)

-- "each held instant becomes T minus its wrapping age at last_now"
abbrev pub CarriedOver : ℕ → ℕ → ℕ → Option ℕ → Type 0
CarriedOver T last x None = Unit {0}
CarriedOver T last x (Some y) = (y < 2 ^ 32) × (wrapping_sub last y ≤ T) × (x ≡ T - wrapping_sub last y)

-- of every instant that is held but the epoch, which no Decision reads
pub record OfState (P : ℕ → Option ℕ → Type 0) (s : Supervisor) (i : Instants) : Type 0 where
  pub timer : (n : TimerName) → P (i.timer n) (timer_of s.triggers n).since_ms
  pub recovery : P i.recovery s.arbiter.recovery_since_ms
  pub gate : P i.gate s.disarm.hold_since_ms
  pub stored : P i.stored (position_stamp s.glitch.last_accepted)
  pub last : P i.last s.last_now

-- of every stamp that is read
pub record OfRead (P : ℕ → Option ℕ → Type 0) (t : Telemetry) (j : Stamps) : Type 0 where
  pub position : P j.position (position_stamp t.position)
  pub gps : P j.gps (gps_stamp t.gps)
  pub voltage : P j.voltage (value_stamp t.battery.voltage_v)
  pub percent : P j.percent (value_stamp t.battery.percent)
  pub remaining : P j.remaining (value_stamp t.battery.remaining_wh)
  pub heartbeat : P j.heartbeat t.gcs_heartbeat_ms
  pub armed : P j.armed (flag_stamp t.armed)
  pub landed : P j.landed (landed_stamp t.landed)
  pub rc : P j.rc (flag_stamp t.rc_ok)
  pub ekf : P j.ekf (flag_stamp t.ekf_ok)

-- what both are fed at a step: telemetry of 32 bits, its instants in 64, and where the step flies
pub record BothFed : Type 0 where
  pub narrow : Telemetry
  pub stamps : Stamps
  pub site : Site

-- what the one clock is fed, and what the other
abbrev pub narrow_fed : BothFed → Fed
narrow_fed f = fed_at f.site f.narrow

abbrev pub wide_fed : BothFed → Fed
wide_fed f = fed_at f.site (telemetry_at f.stamps f.narrow)

-- "no reading goes back, no stamp is ahead of its reading and every age and every gap between readings is under 2^31", at a step
pub record Meets (s : Supervisor) (i : Instants) (f : BothFed) : Type 0 where
  pub reading : f.stamps.now % 2 ^ 32 ≡ f.narrow.now_ms
  pub low : OfRead LowHalf f.narrow f.stamps
  pub held : OfState (Young f.stamps.now) s i
  pub read : OfRead (Young f.stamps.now) f.narrow f.stamps

-- what a step answers but the state
pub record Answer : Type 0 where
  pub decision : Decision
  pub side : ℕ

abbrev pub answer_of : Stepped → Answer
answer_of r = record { decision = r.decision; side = r.side }

module _ (cfg : Config) where
  -- a step on the one clock, and on the other
  abbrev pub narrow_step : Supervisor → BothFed → Stepped
  narrow_step s f = step (base_settings cfg) s (narrow_fed f)

  abbrev pub wide_step : Supervisor → BothFed → Stepped
  wide_step s f = step (settings plain cfg) s (wide_fed f)

  -- the instants in 64 bits after a step
  abbrev pub next : Supervisor → Instants → BothFed → Instants
  next s i f = instants_after i f.stamps s (narrow_step s f)

  -- at every step of a list
  abbrev pub MeetsAll : Supervisor → Instants → List BothFed → Type 0
  MeetsAll s i [] = Unit {0}
  MeetsAll s i (f ∷ later) = Meets s i f × MeetsAll (narrow_step s f).supervisor (next s i f) later

  -- the answers of a list of steps, the first step first
  abbrev pub narrow_answers : Supervisor → List BothFed → List Answer
  narrow_answers s [] = []
  narrow_answers s (f ∷ later) = let r = narrow_step s f in answer_of r ∷ narrow_answers r.supervisor later

  abbrev pub wide_answers : Supervisor → List BothFed → List Answer
  wide_answers s [] = []
  wide_answers s (f ∷ later) = let r = wide_step s f in answer_of r ∷ wide_answers r.supervisor later

-- one step, from a state and the same state with its instants in 64 bits: the same but for the instants, which again are such
abbrev pub BothStepClaim : Type 0
BothStepClaim =
    (cfg : Config) (s : Supervisor) (i : Instants) (f : BothFed)
    → OfState LowHalf s i
    → Meets s i f
    → (wide_step cfg (supervisor_at i s) f ≡ stepped_at (next cfg s i f) (narrow_step cfg s f)) × OfState LowHalf (narrow_step cfg s f).supervisor (next cfg s i f)

-- every list of steps: the same Decisions, and the same sides
abbrev pub BothClaim : Type 0
BothClaim =
    (cfg : Config) (s : Supervisor) (i : Instants) (fed : List BothFed)
    → OfState LowHalf s i
    → MeetsAll cfg s i fed
    → wide_answers cfg (supervisor_at i s) fed ≡ narrow_answers cfg s fed

-- and what is carried over is such a state
abbrev pub CarriedClaim : Type 0
CarriedClaim = (T last : ℕ) (s : Supervisor) (i : Instants) → T % 2 ^ 32 ≡ last → OfState (CarriedOver T last) s i → OfState LowHalf s i
