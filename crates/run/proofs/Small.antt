-- Every number that a state holds after a step is one that it held, or the step's own reading or sample: so it stays within its type. Assumes nothing.
use Rattle.std.specs.Prelude.{Option, Some, None, unwrap_or}
use Prim.Native.Nat.{ℕ, ◌<◌, ◌^◌}
use mathlib.Core.Bool.{Bool, true, false, cond, ◌||◌}
use lib.Dec.{leb, ltb, lit<}
use lib.Ieee.{Float, binary32, lt, sub}
use Rattle.types.specs.declared.Telemetry.{Telemetry}
use Rattle.time.specs.Time.{Clock}
use Rattle.config.specs.declared.Config.{Config}
use Rattle.validate.specs.Fresh.{fresh_true}
use Rattle.supervisor.proofs.Rules.{either}
use Rattle.wire.specs.Cell.{Within}
use Rattle.timers.specs.declared.Timer.{Timer}
use Rattle.timers.specs.declared.PairHeld.{PairHeld}
use Rattle.triggers.specs.declared.GcsLink.{GcsLink}
use Rattle.triggers.specs.declared.StaleBattery.{StaleBattery}
use Rattle.triggers.specs.declared.TriggerState.{TriggerState}
use Rattle.timers.specs.Timer.{cleared, since_or, held_set, hold_pair, rested}
use Rattle.triggers.specs.Families.{invalid_input, gcs_age, gcs_stage, gcs_clearing, gcs_link, rc_link, gps, ekf, fence_breach, altitude_max, altitude_min, fence, is_present, stale_battery, battery_warn, battery_low, battery_critical, battery, energy_marginal, energy}
use Rattle.triggers.specs.Update.{families, next_triggers, update}
use Rattle.frame_state.specs.StateFrame.{timer_cells}
use Rattle.triggers.specs.declared.Place.{Place}

-- a number of 32 bits, or none
abbrev pub Small : Option ℕ → Type 0
Small o = unwrap_or o 0 < 2 ^ 32

abbrev SmallTimer : Timer → Type 0
SmallTimer t = Small t.since_ms

-- what holds of both of two values holds of the one that is chosen
pub chosen : {A : Type 0} (P : A → Type 0) (b : Bool) (x y : A) → P x → P y → P (cond b x y)
chosen P true x y p q = p
chosen P false x y p q = q

since_small : (o : Option ℕ) (now : ℕ) → Small o → now < 2 ^ 32 → since_or o now < 2 ^ 32
since_small None now h n = n
since_small (Some t) now h n = h

-- on any clock
module _ (ck : Clock) where
  pub held_small : (t : Timer) (now : ℕ) (b : Bool) (hold : ℕ) → SmallTimer t → now < 2 ^ 32 → SmallTimer (held_set ck t now b hold).timer
  unfolding held_set
  held_small t now false hold h n = lit< tt
  held_small t now true hold h n = since_small t.since_ms now h n

  invalid_small : (a : Bool) (t : Timer) (now : ℕ) (i : Bool) (ms : ℕ) → SmallTimer t → now < 2 ^ 32 → SmallTimer (invalid_input ck a t now i ms).clear
  unfolding invalid_input
  invalid_small a t now true ms h n = lit< tt
  invalid_small a t now false ms h n = held_small t now true ms h n

  abbrev Linked : GcsLink → Type 0
  Linked r = SmallTimer r.clear_timer

  link_small : (t : Timer) (stage now : ℕ) (hb : Option ℕ) (cfg : Config) → SmallTimer t → now < 2 ^ 32 → SmallTimer (gcs_link ck t stage now hb cfg).clear_timer
  unfolding gcs_link gcs_stage gcs_clearing
  link_small t stage now hb cfg h n =
      let a = gcs_age ck now hb in
      let clearing = gcs_clearing ck t stage now cfg.gcs_clear_hold_ms in
      let between : GcsLink = record { clear_timer = cleared; stage = stage; request = None } in
      chosen Linked (ltb cfg.gcs_rtl_ms a) (gcs_stage t 3) _ h
      (chosen Linked (ltb cfg.gcs_hold_ms a) (gcs_stage t 2) _ h
      (chosen Linked (ltb cfg.gcs_warn_ms a) (gcs_stage t 1) _ h
      (chosen Linked (leb a cfg.gcs_clear_ms) clearing between (held_small t now true cfg.gcs_clear_hold_ms h n) (lit< tt))))

  rc_clear_small : (set clear : Timer) (now : ℕ) (good : Bool) (cfg : Config) → SmallTimer clear → now < 2 ^ 32 → SmallTimer (rc_link ck set clear now good cfg).clear
  unfolding rc_link
  rc_clear_small set clear now good cfg h n =
      either (λ b. SmallTimer (cond b clear (held_set ck clear now good cfg.rc_lost_clear_ms).timer)) h (held_small clear now good cfg.rc_lost_clear_ms h n)
      (held_set ck set now _ _).met

  stale_small : (t : Timer) (now : ℕ) (p v : Option Float) (ms : ℕ) → SmallTimer t → now < 2 ^ 32 → SmallTimer (stale_battery ck t now p v ms).clear
  unfolding stale_battery
  stale_small t now p v ms h n =
      chosen (λ (r : StaleBattery). SmallTimer r.clear) (is_present v || is_present p)
      (record { stale = false; clear = (held_set ck t now true ms).timer })
      (record { stale = true; clear = t })
      (held_small t now true ms h n)
      h

  alt_max_small : (set clear : Timer) (now : ℕ) (alt hi : Float) (cfg : Config) → SmallTimer set → SmallTimer clear → now < 2 ^ 32 → SmallTimer (altitude_max ck set clear now alt hi cfg).set × SmallTimer (altitude_max ck set clear now alt hi cfg).clear
  unfolding altitude_max hold_pair
  alt_max_small set clear now alt hi cfg hs hc n =
      chosen (λ (r : PairHeld). SmallTimer r.set × SmallTimer r.clear) (lt hi alt)
      (hold_pair ck set clear now true cfg.alt_max_set_ms (lt alt (sub binary32 hi cfg.alt_max_clear_m)) cfg.alt_max_clear_hold_ms)
      (rested cleared cleared)
      (held_small set now true cfg.alt_max_set_ms hs n, held_small clear now (lt alt (sub binary32 hi cfg.alt_max_clear_m)) cfg.alt_max_clear_hold_ms hc n)
      (lit< tt, lit< tt)

  fence_small : (s : TriggerState) (now : ℕ) (p : Option Place) (f : Bool) (lo hi : Float) (cfg : Config) → SmallTimer s.fence_breach_set × (SmallTimer s.fence_breach_clear × (SmallTimer s.alt_max_set × (SmallTimer s.alt_max_clear × (SmallTimer s.alt_min_set × (SmallTimer s.alt_min_clear))))) → now < 2 ^ 32 → SmallTimer (fence ck s now p f lo hi cfg).breach.set × (SmallTimer (fence ck s now p f lo hi cfg).breach.clear × (SmallTimer (fence ck s now p f lo hi cfg).alt_max.set × (SmallTimer (fence ck s now p f lo hi cfg).alt_max.clear × (SmallTimer (fence ck s now p f lo hi cfg).alt_min.set × (SmallTimer (fence ck s now p f lo hi cfg).alt_min.clear)))))
  unfolding fence fence_breach altitude_min hold_pair
  fence_small s now None f lo hi cfg h n = h
  fence_small s now (Some p) f lo hi cfg h n =
      let m = alt_max_small s.alt_max_set s.alt_max_clear now p.alt_m hi cfg h.1.1.0 h.1.1.1.0 n in
      (held_small s.fence_breach_set now _ _ h.0 n, (held_small s.fence_breach_clear now _ _ h.1.0 n, (m.0, (m.1, (held_small s.alt_min_set now _ _ h.1.1.1.1.0 n, held_small s.alt_min_clear now _ _ h.1.1.1.1.1 n)))))

  battery_small : (s : TriggerState) (now : ℕ) (p v : Option Float) (cfg : Config) → SmallTimer s.bat_warn_set × (SmallTimer s.bat_warn_clear × (SmallTimer s.bat_low_set × (SmallTimer s.bat_low_clear × (SmallTimer s.bat_crit_set)))) → now < 2 ^ 32 → SmallTimer (battery ck s now p v cfg).warn.set × (SmallTimer (battery ck s now p v cfg).warn.clear × (SmallTimer (battery ck s now p v cfg).low.set × (SmallTimer (battery ck s now p v cfg).low.clear × (SmallTimer (battery ck s now p v cfg).crit_set))))
  unfolding battery battery_warn battery_low battery_critical hold_pair
  battery_small s now None v cfg h n = h
  battery_small s now (Some p) v cfg h n = (held_small s.bat_warn_set now _ _ h.0 n, (held_small s.bat_warn_clear now _ _ h.1.0 n, (held_small s.bat_low_set now _ _ h.1.1.0 n, (held_small s.bat_low_clear now _ _ h.1.1.1.0 n, held_small s.bat_crit_set now _ _ h.1.1.1.1 n))))

  energy_small : (s : TriggerState) (now : ℕ) (m : Option Float) (cfg : Config) → SmallTimer s.energy_marg_set × (SmallTimer s.energy_marg_clear × (SmallTimer s.energy_infeas_set)) → now < 2 ^ 32 → SmallTimer (energy ck s now m cfg).marginal.set × (SmallTimer (energy ck s now m cfg).marginal.clear × (SmallTimer (energy ck s now m cfg).infeas_set))
  unfolding energy energy_marginal hold_pair
  energy_small s now None cfg h n = h
  energy_small s now (Some m) cfg h n = (held_small s.energy_marg_set now _ _ h.0 n, (held_small s.energy_marg_clear now _ _ h.1.0 n, held_small s.energy_infeas_set now _ _ h.1.1 n))

  pub timers_small : (s : TriggerState) (t : Telemetry) (cfg : Config) (lo hi : Float) (p : Option Place) (m : Option Float) (invalid fault : Bool) → Within (timer_cells s) → t.now_ms < 2 ^ 32 → Within (timer_cells (update ck s t cfg lo hi p m invalid fault).triggers)
  unfolding update families next_triggers gps ekf hold_pair rc_link
  timers_small s t cfg lo hi p m invalid true h n = h
  timers_small s t cfg lo hi p m invalid false h n =
      let now = t.now_ms in
      let fs = fence_small s now p _ lo hi cfg (h.1.1.1.1.1.1.1.1.0, (h.1.1.1.1.1.1.1.1.1.0, (h.1.1.1.1.1.1.1.1.1.1.0, (h.1.1.1.1.1.1.1.1.1.1.1.0, (h.1.1.1.1.1.1.1.1.1.1.1.1.0, h.1.1.1.1.1.1.1.1.1.1.1.1.1.0))))) n in
      let bs = battery_small s now _ _ cfg (h.1.1.1.1.1.1.1.1.1.1.1.1.1.1.1.0, (h.1.1.1.1.1.1.1.1.1.1.1.1.1.1.1.1.0, (h.1.1.1.1.1.1.1.1.1.1.1.1.1.1.1.1.1.0, (h.1.1.1.1.1.1.1.1.1.1.1.1.1.1.1.1.1.1.0, h.1.1.1.1.1.1.1.1.1.1.1.1.1.1.1.1.1.1.1.0)))) n in
      let es = energy_small s now m cfg (h.1.1.1.1.1.1.1.1.1.1.1.1.1.1.1.1.1.1.1.1.0, (h.1.1.1.1.1.1.1.1.1.1.1.1.1.1.1.1.1.1.1.1.1.0, h.1.1.1.1.1.1.1.1.1.1.1.1.1.1.1.1.1.1.1.1.1.1.0)) n in
      (link_small s.gcs_clear_timer s.gcs_stage now t.gcs_heartbeat_ms cfg h.0 n, (rc_clear_small s.rc_lost_set s.rc_clear_timer now (fresh_true ck now t.rc_ok cfg.status_fresh_ms) cfg h.1.0 n, (held_small s.gps_deg_set now _ _ h.1.1.0 n, (held_small s.gps_deg_clear now _ _ h.1.1.1.0 n, (held_small s.gps_lost_set now _ _ h.1.1.1.1.0 n, (held_small s.gps_lost_clear now _ _ h.1.1.1.1.1.0 n, (held_small s.ekf_set now _ _ h.1.1.1.1.1.1.0 n, (held_small s.ekf_clear now _ _ h.1.1.1.1.1.1.1.0 n, (fs.0, (fs.1.0, (fs.1.1.0, (fs.1.1.1.0, (fs.1.1.1.1.0, (fs.1.1.1.1.1, (stale_small s.stale_bat_clear now _ _ _ h.1.1.1.1.1.1.1.1.1.1.1.1.1.1.0 n, (bs.0, (bs.1.0, (bs.1.1.0, (bs.1.1.1.0, (bs.1.1.1.1, (es.0, (es.1.0, (es.1.1, (invalid_small s.invalid_active s.invalid_clear now invalid _ h.1.1.1.1.1.1.1.1.1.1.1.1.1.1.1.1.1.1.1.1.1.1.1.0 n, (held_small s.rc_lost_set now _ _ h.1.1.1.1.1.1.1.1.1.1.1.1.1.1.1.1.1.1.1.1.1.1.1.1.0 n, tt)))))))))))))))))))))))))
