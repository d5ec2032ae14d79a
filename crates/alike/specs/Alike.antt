-- Document 02, L7: what two steps on different clocks have to test alike, to be the same step with other instants. Assumes nothing.
-- The first step has clock c1, configuration cfg, state s, telemetry t; the second c2, the durations of d, the state at instants i, telemetry at stamps j.
use Rattle.std.specs.Prelude.{ℕ, ◌≡◌, leb, ltb, Option}
use Rattle.types.specs.declared.Telemetry.{Telemetry}
use Rattle.time.specs.Time.{Clock}
use Rattle.config.specs.declared.Config.{Config}
use Rattle.triggers.specs.Families.{gcs_age}
use Rattle.supervisor.specs.declared.Supervisor.{Supervisor}
use Rattle.supervisor.specs.declared.Stepped.{Stepped}
use Rattle.supervisor.specs.Settings.{Settings, Site, fed_at}
use Rattle.supervisor.specs.Step.{step}
use Rattle.instants.specs.Retimed.{instead, TimerName, timer_of, hold_of, Instants, Stamps, supervisor_at, telemetry_at, durations_of, stepped_at, instants_after}
use Rattle.instants.specs.Own.{position_stamp, gps_stamp, value_stamp, flag_stamp, landed_stamp}
use Rattle.marks.specs.Marks.{held_now, fresh_now, sound_now, gap_now}

module _ (c1 c2 : Clock) (now1 now2 : ℕ) where
  -- a hold, of an instant or of x in its place
  abbrev pub HoldAlike : ℕ → Option ℕ → ℕ → ℕ → Type 0
  HoldAlike x since hold1 hold2 = held_now c2 now2 (instead x since) hold2 ≡ held_now c1 now1 since hold1

  -- a freshness
  abbrev pub FreshAlike : ℕ → Option ℕ → ℕ → ℕ → Type 0
  FreshAlike x stamp limit1 limit2 = fresh_now c2 now2 (instead x stamp) limit2 ≡ fresh_now c1 now1 stamp limit1

module _ (c1 c2 : Clock) (cfg d : Config) where
  -- what is held but the epoch, which no test reads
  pub record StateAlike (now1 now2 : ℕ) (s : Supervisor) (i : Instants) : Type 0 where
    pub timer : (n : TimerName) → HoldAlike c1 c2 now1 now2 (i.timer n) (timer_of s.triggers n).since_ms (hold_of cfg n) (hold_of d n)
    pub recovery : HoldAlike c1 c2 now1 now2 i.recovery s.arbiter.recovery_since_ms cfg.recovery_hold_ms d.recovery_hold_ms
    pub gate : HoldAlike c1 c2 now1 now2 i.gate s.disarm.hold_since_ms cfg.disarm_hold_ms d.disarm_hold_ms
    pub stored : gap_now c2 now2 (instead i.stored (position_stamp s.glitch.last_accepted)) ≡ gap_now c1 now1 (position_stamp s.glitch.last_accepted)
    pub last : sound_now c2 now2 (instead i.last s.last_now) ≡ sound_now c1 now1 s.last_now

  -- what is read; the heartbeat's age against each limit of the link
  pub record ReadAlike (t : Telemetry) (j : Stamps) : Type 0 where
    pub position : FreshAlike c1 c2 t.now_ms j.now j.position (position_stamp t.position) cfg.pos_fresh_ms d.pos_fresh_ms
    pub gps : FreshAlike c1 c2 t.now_ms j.now j.gps (gps_stamp t.gps) cfg.gps_fresh_ms d.gps_fresh_ms
    pub voltage : FreshAlike c1 c2 t.now_ms j.now j.voltage (value_stamp t.battery.voltage_v) cfg.battery_fresh_ms d.battery_fresh_ms
    pub percent : FreshAlike c1 c2 t.now_ms j.now j.percent (value_stamp t.battery.percent) cfg.battery_fresh_ms d.battery_fresh_ms
    pub remaining : FreshAlike c1 c2 t.now_ms j.now j.remaining (value_stamp t.battery.remaining_wh) cfg.battery_fresh_ms d.battery_fresh_ms
    pub armed : FreshAlike c1 c2 t.now_ms j.now j.armed (flag_stamp t.armed) cfg.status_fresh_ms d.status_fresh_ms
    pub landed : FreshAlike c1 c2 t.now_ms j.now j.landed (landed_stamp t.landed) cfg.status_fresh_ms d.status_fresh_ms
    pub rc : FreshAlike c1 c2 t.now_ms j.now j.rc (flag_stamp t.rc_ok) cfg.status_fresh_ms d.status_fresh_ms
    pub ekf : FreshAlike c1 c2 t.now_ms j.now j.ekf (flag_stamp t.ekf_ok) cfg.status_fresh_ms d.status_fresh_ms
    pub rtl : ltb d.gcs_rtl_ms (gcs_age c2 j.now (instead j.heartbeat t.gcs_heartbeat_ms)) ≡ ltb cfg.gcs_rtl_ms (gcs_age c1 t.now_ms t.gcs_heartbeat_ms)
    pub hold : ltb d.gcs_hold_ms (gcs_age c2 j.now (instead j.heartbeat t.gcs_heartbeat_ms)) ≡ ltb cfg.gcs_hold_ms (gcs_age c1 t.now_ms t.gcs_heartbeat_ms)
    pub warn : ltb d.gcs_warn_ms (gcs_age c2 j.now (instead j.heartbeat t.gcs_heartbeat_ms)) ≡ ltb cfg.gcs_warn_ms (gcs_age c1 t.now_ms t.gcs_heartbeat_ms)
    pub clear : leb (gcs_age c2 j.now (instead j.heartbeat t.gcs_heartbeat_ms)) d.gcs_clear_ms ≡ leb (gcs_age c1 t.now_ms t.gcs_heartbeat_ms) cfg.gcs_clear_ms

-- a clock with a configuration
abbrev pub settings : Clock → Config → Settings
settings clock cfg = record { clock = clock; cfg = cfg }

-- a step's answer, with each instant kept, started or cleared as the step did
abbrev pub retimed : Instants → Stamps → Supervisor → Stepped → Stepped
retimed i j s r = stepped_at (instants_after i j s r) r

-- the second step is the first with other instants: the same Decision and side
abbrev pub AlikeClaim : Type 0
AlikeClaim =
    (c1 c2 : Clock) (cfg d : Config) (site : Site) (s : Supervisor) (i : Instants) (t : Telemetry) (j : Stamps)
    → StateAlike c1 c2 cfg d t.now_ms j.now s i
    → ReadAlike c1 c2 cfg d t j
    → step (settings c2 (durations_of d cfg)) (supervisor_at i s) (fed_at site (telemetry_at j t)) ≡ retimed i j s (step (settings c1 cfg) s (fed_at site t))
