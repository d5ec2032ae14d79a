-- A step of the triggers under another clock. Assumes nothing.
use Rattle.std.specs.Prelude.{Option}
use Prim.Native.Nat.{ℕ}
use mathlib.Core.Path.{◌≡◌, refl, ap, ap₂, ◌∙◌}
use mathlib.Core.Bool.{Bool, true, false}
use lib.Ieee.{Float}
use Rattle.types.specs.declared.Action.{Action}
use Rattle.types.specs.declared.Reason.{Reason}
use Rattle.types.specs.declared.Telemetry.{Telemetry}
use Rattle.types.specs.ActiveSet.{empty_set, set_request}
use Rattle.time.specs.Time.{Clock}
use Rattle.config.specs.declared.Config.{Config}
use Rattle.validate.specs.Fresh.{fresh_true, fresh_landed, fresh_battery_percent, fresh_remaining_wh, fresh_voltage}
use Rattle.timers.specs.Timer.{raised_by}
use Rattle.triggers.specs.declared.Raised.{Raised}
use Rattle.triggers.specs.declared.Families.{Families}
use Rattle.triggers.specs.declared.TriggerState.{TriggerState}
use Rattle.triggers.specs.declared.Updated.{Updated}
use Rattle.triggers.specs.Families.{in_air, rc_link, ekf, fence, stale_battery, battery}
use Rattle.triggers.specs.Update.{families, raised_of, kept_raised, link_requests, fence_requests, battery_requests, requests, next_triggers, update}
use Rattle.instants.specs.Retimed.{timer_at, TimerName, stale_clear, rc_set, rc_clear, ekf_set, ekf_clear, timer_of, hold_of, triggers_at, Stamps, telemetry_at, durations_of, timers_after}
use Rattle.alike.specs.Alike.{HoldAlike, ReadAlike}
use Rattle.alike.proofs.Timers.{instead_onwards}
use Rattle.alike.proofs.Fresh.{true_alike, value_alike, landed_alike}
use Rattle.alike.proofs.Families.{families_at, invalid_law, gcs_law, rc_law, gps_law, ekf_law, fence_law, stale_law, battery_law, energy_law}
use Rattle.triggers.specs.declared.Place.{Place}

-- neither what is raised nor the requests filed have an instant
raised_at : (i : TimerName → ℕ) (keeps : Bool) (before : Raised) (f : Families) → raised_of keeps before (families_at i f) ≡ raised_of keeps before f
unfolding raised_of raised_by families_at
raised_at i keeps before f = refl

requests_at : (i : TimerName → ℕ) (keeps : Bool) (on : Raised) (f : Families) → requests keeps on (families_at i f) ≡ requests keeps on f
unfolding requests link_requests fence_requests battery_requests raised_by families_at
requests_at i keeps on f = refl

next_at : (i : TimerName → ℕ) (kept : Raised) (f : Families) → next_triggers kept (families_at i f) ≡ triggers_at i (next_triggers kept f)
unfolding next_triggers families_at triggers_at
next_at i kept f = refl

-- what a sound step answers, by its families
abbrev updated_by : Bool → Raised → Families → Updated
updated_by keeps before f =
    let on = raised_of keeps before f in
    record { triggers = next_triggers (kept_raised keeps on) f; active = requests keeps on f }

abbrev pub updated_at : (TimerName → ℕ) → Updated → Updated
updated_at i u = record { triggers = triggers_at i u.triggers; active = u.active }

updated_at_lem : (i : TimerName → ℕ) (keeps : Bool) (before : Raised) (f : Families) → updated_by keeps before (families_at i f) ≡ updated_at i (updated_by keeps before f)
updated_at_lem i keeps before f =
    let on = raised_at i keeps before f in
    let n = ap (λ o. next_triggers (kept_raised keeps o) (families_at i f)) on ∙ next_at i (kept_raised keeps (raised_of keeps before f)) f in
    let r = ap (λ o. requests keeps o (families_at i f)) on ∙ requests_at i keeps (raised_of keeps before f) f in
    λ k. record { triggers = n k; active = r k }

module _ (c1 c2 : Clock) (cfg d : Config) (t : Telemetry) (j : Stamps) (read : ReadAlike c1 c2 cfg d t j) where
  abbrev now1 : ℕ
  now1 = t.now_ms

  abbrev other : Config
  other = durations_of d cfg

  rc_good : fresh_true c2 j.now (telemetry_at j t).rc_ok d.status_fresh_ms ≡ fresh_true c1 now1 t.rc_ok cfg.status_fresh_ms
  unfolding telemetry_at
  rc_good = true_alike c1 c2 now1 j.now cfg.status_fresh_ms d.status_fresh_ms j.rc t.rc_ok read.rc

  pub ekf_good : fresh_true c2 j.now (telemetry_at j t).ekf_ok d.status_fresh_ms ≡ fresh_true c1 now1 t.ekf_ok cfg.status_fresh_ms
  unfolding telemetry_at
  ekf_good = true_alike c1 c2 now1 j.now cfg.status_fresh_ms d.status_fresh_ms j.ekf t.ekf_ok read.ekf

  flying : in_air (fresh_landed c2 j.now (telemetry_at j t).landed d.status_fresh_ms) ≡ in_air (fresh_landed c1 now1 t.landed cfg.status_fresh_ms)
  unfolding telemetry_at
  flying = ap in_air (landed_alike c1 c2 now1 j.now cfg.status_fresh_ms d.status_fresh_ms j.landed t.landed read.landed)

  volts : fresh_voltage c2 j.now (telemetry_at j t).battery d.battery_fresh_ms ≡ fresh_voltage c1 now1 t.battery cfg.battery_fresh_ms
  unfolding fresh_voltage telemetry_at
  volts = value_alike c1 c2 now1 j.now cfg.battery_fresh_ms d.battery_fresh_ms j.voltage t.battery.voltage_v read.voltage

  percent : fresh_battery_percent c2 j.now (telemetry_at j t).battery d.battery_fresh_ms cfg.usable_capacity_wh ≡ fresh_battery_percent c1 now1 t.battery cfg.battery_fresh_ms cfg.usable_capacity_wh
  unfolding fresh_battery_percent telemetry_at
  percent =
      let r = value_alike c1 c2 now1 j.now cfg.battery_fresh_ms d.battery_fresh_ms j.remaining t.battery.remaining_wh read.remaining in
      let p = value_alike c1 c2 now1 j.now cfg.battery_fresh_ms d.battery_fresh_ms j.percent t.battery.percent read.percent in
      rw (r, p)

  pub remaining : fresh_remaining_wh c2 j.now (telemetry_at j t).battery d.battery_fresh_ms cfg.usable_capacity_wh ≡ fresh_remaining_wh c1 now1 t.battery cfg.battery_fresh_ms cfg.usable_capacity_wh
  unfolding fresh_remaining_wh telemetry_at
  remaining =
      let r = value_alike c1 c2 now1 j.now cfg.battery_fresh_ms d.battery_fresh_ms j.remaining t.battery.remaining_wh read.remaining in
      let p = value_alike c1 c2 now1 j.now cfg.battery_fresh_ms d.battery_fresh_ms j.percent t.battery.percent read.percent in
      rw (r, p)

  module _
      (s : TriggerState) (i : TimerName → ℕ)
    where
      abbrev pub TimersAlike : Type 0
      TimersAlike = (n : TimerName) → HoldAlike c1 c2 now1 j.now (i n) (timer_of s n).since_ms (hold_of cfg n) (hold_of d n)

      abbrev after : TimerName → ℕ
      after = timers_after j.now i s

      families_law : TimersAlike → (min_alt max_alt : Float) (place : Option Place) (margin : Option Float) (invalid : Bool) → families c2 (triggers_at i s) (telemetry_at j t) other min_alt max_alt place margin invalid ≡ families_at after (families c1 s t cfg min_alt max_alt place margin invalid)
      unfolding families families_at triggers_at telemetry_at durations_of
      families_law alike min_alt max_alt place margin invalid =
          let rc = ap (λ b. rc_link c2 (timer_at (i rc_set) s.rc_lost_set) (timer_at (i rc_clear) s.rc_clear_timer) j.now b other) rc_good ∙ rc_law c1 c2 now1 j.now cfg d s i alike _ in
          let e = ap (λ b. ekf c2 (timer_at (i ekf_set) s.ekf_set) (timer_at (i ekf_clear) s.ekf_clear) j.now b other) ekf_good ∙ ekf_law c1 c2 now1 j.now cfg d s i alike _ in
          let f = ap (λ b. fence c2 (triggers_at i s) j.now place b min_alt max_alt other) flying ∙ fence_law c1 c2 now1 j.now cfg d s i alike place _ min_alt max_alt in
          let st = ap₂ (λ p v. stale_battery c2 (timer_at (i stale_clear) s.stale_bat_clear) j.now p v d.stale_battery_clear_ms) percent volts ∙ stale_law c1 c2 now1 j.now cfg d s i alike _ _ in
          let b = ap₂ (λ p v. battery c2 (triggers_at i s) j.now p v other) percent volts ∙ battery_law c1 c2 now1 j.now cfg d s i alike _ _ in
          λ k. record {
            invalid = invalid_law c1 c2 now1 j.now cfg d s i alike s.invalid_active invalid k;
            gcs = gcs_law c1 c2 now1 j.now cfg d s i alike j.heartbeat s.gcs_stage t.gcs_heartbeat_ms read.rtl read.hold read.warn read.clear k;
            rc = rc k;
            gps = gps_law c1 c2 now1 j.now cfg d s i alike j.gps t.gps read.gps k;
            ekf = e k;
            fence = f k;
            stale = st k;
            battery = b k;
            energy = energy_law c1 c2 now1 j.now cfg d s i alike margin k;
          }

      -- a faulted step moves no timer
      rested_law : triggers_at i s ≡ triggers_at after s
      unfolding triggers_at
      rested_law = simp (← instead_onwards)

      pub update_law : (min_alt max_alt : Float) (place : Option Place) (margin : Option Float) (invalid fault : Bool) → (fault ≡ false → TimersAlike) → update c2 (triggers_at i s) (telemetry_at j t) other min_alt max_alt place margin invalid fault ≡ updated_at after (update c1 s t cfg min_alt max_alt place margin invalid fault)
      unfolding update triggers_at durations_of
      update_law min_alt max_alt place margin invalid true alike = λ k. record { triggers = rested_law k; active = set_request empty_set Reason.ClockFault Action.Warn }
      update_law min_alt max_alt place margin invalid false alike =
          let f = families_law (alike refl) min_alt max_alt place margin invalid in
          let g = families c1 s t cfg min_alt max_alt place margin invalid in
          ap (updated_by cfg.keeps_raised s.raised) f ∙ updated_at_lem after cfg.keeps_raised s.raised g
