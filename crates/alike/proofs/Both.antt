-- Both clocks, step by step: where ages stay under 2^31 they agree. Assumes nothing.
use Rattle.std.specs.Prelude.{Option, Some, None}
use Prim.Native.Nat.{ℕ, ◌+◌, ◌-◌, ◌%◌, ◌^◌, ◌≤◌, ◌<◌}
use mathlib.Core.Path.{◌≡◌, refl, ap, ap₂, ◌∙◌}
use mathlib.Core.Bool.{true}
use mathlib.Core.List.{List, [], ◌∷◌}
use native.Mathlib.Omega.{arith}
use borrow.Author.Tests.{le-ltb, lt-ltb}
use lib.Dec.{leb, ltb}
use Rattle.types.specs.declared.Telemetry.{Telemetry}
use Rattle.time.specs.Time.{wrapping, plain, wrapping_sub, age, at_most, at_least, fresh, hold_met}
use Rattle.config.specs.declared.Config.{Config}
use Rattle.timers.specs.Timer.{started}
use Rattle.triggers.specs.Families.{age_or_most, gcs_age}
use Rattle.supervisor.specs.declared.Supervisor.{Supervisor}
use Rattle.supervisor.specs.declared.Stepped.{Stepped}
use Rattle.instants.specs.Retimed.{instead, timer_of, hold_of, Instants, Stamps, supervisor_at, stepped_at, durations_of}
use Rattle.instants.specs.Own.{position_stamp, gps_stamp, value_stamp, flag_stamp, landed_stamp}
use Rattle.marks.specs.Marks.{sound_now, up_to2000, gap_now}
use Rattle.alike.specs.Alike.{HoldAlike, FreshAlike, StateAlike, ReadAlike}
use Rattle.alike.specs.Both.{LowHalf, Young, CarriedOver, OfState, OfRead, BothFed, Meets, Answer, answer_of, narrow_step, wide_step, next, MeetsAll, narrow_answers, wide_answers, BothStepClaim, BothClaim, CarriedClaim}
use Rattle.alike.proofs.Step.{alike}
use Rattle.alike.proofs.Moves.{moves}

difference : (now1 now2 x y : ℕ) → now2 % 2 ^ 32 ≡ now1 → x % 2 ^ 32 ≡ y → x ≤ now2 → now2 < x + 2 ^ 31 → wrapping_sub now1 y ≡ now2 - x
unfolding wrapping_sub
difference now1 now2 x y n e l h = omega arith

-- the one fact on numbers: the ages are equal
same_age : (now1 now2 x y : ℕ) → now2 % 2 ^ 32 ≡ now1 → x % 2 ^ 32 ≡ y → x ≤ now2 → now2 < x + 2 ^ 31 → age plain now2 x ≡ age wrapping now1 y
unfolding age
same_age now1 now2 x y n e l h =
    let b : ltb (now2 - x) (2 ^ 31) ≡ true = lt-ltb (now2 - x) (2 ^ 31) (omega arith) in
    rw (le-ltb now2 x l, difference now1 now2 x y n e l h, b)

module _ (now1 now2 : ℕ) (reading : now2 % 2 ^ 32 ≡ now1) where
  hold_alike : (x hold : ℕ) (o : Option ℕ) → LowHalf x o → Young now2 x o → HoldAlike wrapping plain now1 now2 x o hold hold
  unfolding hold_met
  hold_alike x hold None low young = ap (λ a. at_least a hold) (same_age now1 now2 now2 now1 reading reading (omega arith) (omega arith))
  hold_alike x hold (Some y) low young = ap (λ a. at_least a hold) (same_age now1 now2 x y reading low young.0 young.1)

  fresh_alike : (x limit : ℕ) (o : Option ℕ) → LowHalf x o → Young now2 x o → FreshAlike wrapping plain now1 now2 x o limit limit
  unfolding fresh
  fresh_alike x limit None low young = refl
  fresh_alike x limit (Some y) low young = ap (λ a. at_most a limit) (same_age now1 now2 x y reading low young.0 young.1)

  gap_alike : (x : ℕ) (o : Option ℕ) → LowHalf x o → Young now2 x o → gap_now plain now2 (instead x o) ≡ gap_now wrapping now1 o
  gap_alike x None low young = refl
  gap_alike x (Some y) low young = ap up_to2000 (same_age now1 now2 x y reading low young.0 young.1)

  sound_alike : (x : ℕ) (o : Option ℕ) → LowHalf x o → Young now2 x o → sound_now plain now2 (instead x o) ≡ sound_now wrapping now1 o
  sound_alike x None low young = refl
  sound_alike x (Some y) low young = ap started (same_age now1 now2 x y reading low young.0 young.1)

  link_alike : (x : ℕ) (o : Option ℕ) → LowHalf x o → Young now2 x o → gcs_age plain now2 (instead x o) ≡ gcs_age wrapping now1 o
  link_alike x None low young = refl
  link_alike x (Some y) low young = ap age_or_most (same_age now1 now2 x y reading low young.0 young.1)

  module _ (cfg : Config) where
    state_alike : (s : Supervisor) (i : Instants) → OfState LowHalf s i → OfState (Young now2) s i → StateAlike wrapping plain cfg cfg now1 now2 s i
    state_alike s i low young =
        record {
          timer = λ n. hold_alike (i.timer n) (hold_of cfg n) (timer_of s.triggers n).since_ms (low.timer n) (young.timer n);
          recovery = hold_alike i.recovery cfg.recovery_hold_ms s.arbiter.recovery_since_ms low.recovery young.recovery;
          gate = hold_alike i.gate cfg.disarm_hold_ms s.disarm.hold_since_ms low.gate young.gate;
          stored = gap_alike i.stored (position_stamp s.glitch.last_accepted) low.stored young.stored;
          last = sound_alike i.last s.last_now low.last young.last;
        }

read_alike : (cfg : Config) (t : Telemetry) (j : Stamps) → j.now % 2 ^ 32 ≡ t.now_ms → OfRead LowHalf t j → OfRead (Young j.now) t j → ReadAlike wrapping plain cfg cfg t j
read_alike cfg t j reading low young =
    let link = link_alike t.now_ms j.now reading j.heartbeat t.gcs_heartbeat_ms low.heartbeat young.heartbeat in
    record {
      position = fresh_alike t.now_ms j.now reading j.position cfg.pos_fresh_ms (position_stamp t.position) low.position young.position;
      gps = fresh_alike t.now_ms j.now reading j.gps cfg.gps_fresh_ms (gps_stamp t.gps) low.gps young.gps;
      voltage = fresh_alike t.now_ms j.now reading j.voltage cfg.battery_fresh_ms (value_stamp t.battery.voltage_v) low.voltage young.voltage;
      percent = fresh_alike t.now_ms j.now reading j.percent cfg.battery_fresh_ms (value_stamp t.battery.percent) low.percent young.percent;
      remaining = fresh_alike t.now_ms j.now reading j.remaining cfg.battery_fresh_ms (value_stamp t.battery.remaining_wh) low.remaining young.remaining;
      armed = fresh_alike t.now_ms j.now reading j.armed cfg.status_fresh_ms (flag_stamp t.armed) low.armed young.armed;
      landed = fresh_alike t.now_ms j.now reading j.landed cfg.status_fresh_ms (landed_stamp t.landed) low.landed young.landed;
      rc = fresh_alike t.now_ms j.now reading j.rc cfg.status_fresh_ms (flag_stamp t.rc_ok) low.rc young.rc;
      ekf = fresh_alike t.now_ms j.now reading j.ekf cfg.status_fresh_ms (flag_stamp t.ekf_ok) low.ekf young.ekf;
      rtl = ap (ltb cfg.gcs_rtl_ms) link;
      hold = ap (ltb cfg.gcs_hold_ms) link;
      warn = ap (ltb cfg.gcs_warn_ms) link;
      clear = ap (λ a. leb a cfg.gcs_clear_ms) link;
    }

module _ (cfg : Config) where
  same_step : (s : Supervisor) (i : Instants) (f : BothFed) → OfState LowHalf s i → Meets s i f → wide_step cfg (supervisor_at i s) f ≡ stepped_at (next cfg s i f) (narrow_step cfg s f)
  unfolding durations_of
  same_step s i f low m =
      alike wrapping plain cfg cfg f.site s i f.narrow f.stamps
      (state_alike f.narrow.now_ms f.stamps.now m.reading cfg s i low m.held)
      (read_alike cfg f.narrow f.stamps m.reading m.low m.read)

  low_after : (s : Supervisor) (i : Instants) (f : BothFed) → OfState LowHalf s i → Meets s i f → OfState LowHalf (narrow_step cfg s f).supervisor (next cfg s i f)
  low_after s i f low m = moves LowHalf (λ x. tt) wrapping cfg f.site s i f.narrow f.stamps low m.reading m.low.position

-- the theorem for a step
pub both_step : BothStepClaim
both_step cfg s i f low m = (same_step cfg s i f low m, low_after cfg s i f low m)

module _ (cfg : Config) where
  both_all : (s : Supervisor) (i : Instants) (fed : List BothFed) → OfState LowHalf s i → MeetsAll cfg s i fed → wide_answers cfg (supervisor_at i s) fed ≡ narrow_answers cfg s fed
  unfolding stepped_at
  both_all s i [] low m = refl
  both_all s i (f ∷ later) low m =
      let e = (both_step cfg s i f low m.0).0 in
      ap₂ (λ (a : Answer) (l : List Answer). a ∷ l)
      (ap answer_of e)
      (ap (λ (r : Stepped). wide_answers cfg r.supervisor later) e ∙ both_all (narrow_step cfg s f).supervisor (next cfg s i f) later (both_step cfg s i f low m.0).1 m.1)

-- the theorem for a list of steps
pub both : BothClaim
both cfg s i fed low m = both_all cfg s i fed low m

-- ---- a state that is carried over

low_of : (T last x y : ℕ) → T % 2 ^ 32 ≡ last → y < 2 ^ 32 → wrapping_sub last y ≤ T → x ≡ T - wrapping_sub last y → x % 2 ^ 32 ≡ y
unfolding wrapping_sub
low_of T last x y t h l e = omega arith

low_carried : (T last x : ℕ) (o : Option ℕ) → T % 2 ^ 32 ≡ last → CarriedOver T last x o → LowHalf x o
low_carried T last x None t c = tt
low_carried T last x (Some y) t c = low_of T last x y t c.0 c.1 c.2

pub carried : CarriedClaim
carried T last s i t c =
    record {
      timer = λ n. low_carried T last (i.timer n) (timer_of s.triggers n).since_ms t (c.timer n);
      recovery = low_carried T last i.recovery s.arbiter.recovery_since_ms t c.recovery;
      gate = low_carried T last i.gate s.disarm.hold_since_ms t c.gate;
      stored = low_carried T last i.stored (position_stamp s.glitch.last_accepted) t c.stored;
      last = low_carried T last i.last s.last_now t c.last;
    }
