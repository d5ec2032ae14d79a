-- A fresh state of 64-bit instants is within its types, and a step fed from a kind 9's bytes leaves one that is: by the 32-bit step on marks. Assumes nothing.
use Rattle.std.specs.Prelude.{Option, Some, None}
use Prim.Native.Nat.{ℕ, ◌<◌, ◌^◌}
use native.Mathlib.Omega.{arith}
use mathlib.Core.Bool.{Bool, true, false, not, ◌&&◌, cond}
use mathlib.Core.List.{List}
use mathlib.Core.Path.{sym, subst}
use lib.Dec.{lit<}
use lib.ListN.{replicate}
use lib.Ieee.{binary32}
use lib.Ieee.Bits.{of_bits-fits}
use Rattle.types.specs.declared.Telemetry.{Telemetry}
use Rattle.time.specs.Time.{plain}
use Rattle.timers.specs.declared.Timer.{Timer}
use Rattle.triggers.specs.Families.{is_present}
use Rattle.triggers.specs.Update.{fresh_triggers}
use Rattle.config.specs.declared.Config.{Config}
use Rattle.supervisor.specs.declared.Supervisor.{Supervisor}
use Rattle.supervisor.specs.declared.Stepped.{Stepped}
use Rattle.supervisor.specs.Settings.{Site, base_settings, fed_at}
use Rattle.supervisor.specs.Step.{fresh_supervisor, step}
use Rattle.wire.specs.Cell.{Within}
use Rattle.wire.specs.Fields.{Bytes, flag_at, u32_at}
use Rattle.wire.proofs.Fields.{f32_fits}
use Rattle.options.specs.Position.{vec3_at, position_cells, option_position_at}
use Rattle.frame_state.specs.StateFrame.{Typed}
use Rattle.frame_telemetry.specs.TelemetryFrame as narrow
use Rattle.instants.specs.Retimed.{TimerName, gcs_clear, rc_clear, gps_deg_set, gps_deg_clear, gps_lost_set, gps_lost_clear, ekf_set, ekf_clear, breach_set, breach_clear, alt_max_set, alt_max_clear, alt_min_set, alt_min_clear, stale_clear, warn_set, warn_clear, low_set, low_clear, crit_set, marg_set, marg_clear, infeas_set, invalid_clear, rc_set, instead, timer_of, hold_of, position_at, triggers_at, supervisor_at, stepped_at, telemetry_at, onwards, third_fault, instants_after}
use Rattle.instants.specs.Own.{own, position_stamp, instants_of, stamps_of}
use Rattle.instants.specs.Listed.{stamps_unlisted}
use Rattle.marks.specs.Marks.{held_now, fresh_now, sound_now, gap_now, held_mark, fresh_mark, gap_mark, marks, stamp_marks, marked_config}
use Rattle.alike.specs.Alike.{settings}
use Rattle.alike.proofs.Own.{timer_at_lem}
use Rattle.alike.proofs.Marked.{marked_step}
use Rattle.frame_wide.specs.WideTelemetry.{telemetry_gaps, telemetry_on, wide_stamps}
use Rattle.frame_wide_trips.specs.Claim.{TypedWide}
use Rattle.frame_wide_trips.proofs.Resized.{instants_lt}
use Rattle.run.proofs.Small.{Small, chosen}
use Rattle.run.proofs.Typed.{step_typed}
use Rattle.types.specs.declared.PositionSample.{PositionSample}

abbrev Big : ℕ → Type 0
Big n = n < 2 ^ 64

-- ---- the floats of a position, whatever its stamp

stamped : (n : ℕ) → n < 2 ^ 32 → (p : Option PositionSample) → Within (position_cells (position_at 0 p)) → Within (position_cells (position_at n p))
stamped n h None w = w
stamped n h (Some p) w = (h, w.1)

unstamped : (n : ℕ) (p : Option PositionSample) → Within (position_cells p) → Within (position_cells (position_at 0 (position_at n p)))
unstamped n None w = w
unstamped n (Some p) w = (lit< tt, w.1)

restamped : (n m : ℕ) → m < 2 ^ 32 → (p : Option PositionSample) → Within (position_cells (position_at 0 (position_at n p))) → Within (position_cells (position_at m (position_at n p)))
restamped n m h None w = w
restamped n m h (Some p) w = (h, w.1)

-- ---- marks are of 32 bits

held_small : (b : Bool) → held_mark b < 2 ^ 32
held_small true = omega arith
held_small false = omega arith

fresh_small : (b : Bool) → fresh_mark b < 2 ^ 32
fresh_small true = omega arith
fresh_small false = omega arith

gap_small : (o : Option ℕ) → gap_mark o < 2 ^ 32
gap_small None = omega arith
gap_small (Some gap) = omega arith

small_instead : (n : ℕ) → n < 2 ^ 32 → (o : Option ℕ) → Small (instead n o)
small_instead n h None = lit< tt
small_instead n h (Some x) = h

-- ---- the state on marks is within 32 bits

marked_typed : (cfg : Config) (s : Supervisor) (t : Telemetry) → TypedWide s → Typed (supervisor_at (marks cfg s t) s)
unfolding supervisor_at triggers_at marks
marked_typed cfg s t h =
    let now = t.now_ms in
    let at : (n : TimerName) → Small (instead ((marks cfg s t).timer n) (timer_of s.triggers n).since_ms) = λ n. small_instead ((marks cfg s t).timer n) (held_small (held_now plain now (timer_of s.triggers n).since_ms (hold_of cfg n))) (timer_of s.triggers n).since_ms in
    record {
      timers = (at gcs_clear, (at rc_clear, (at gps_deg_set, (at gps_deg_clear, (at gps_lost_set, (at gps_lost_clear, (at ekf_set, (at ekf_clear, (at breach_set, (at breach_clear, (at alt_max_set, (at alt_max_clear, (at alt_min_set, (at alt_min_clear, (at stale_clear, (at warn_set, (at warn_clear, (at low_set, (at low_clear, (at crit_set, (at marg_set, (at marg_clear, (at infeas_set, (at invalid_clear, (at rc_set, tt)))))))))))))))))))))))));
      recovery = small_instead _ (held_small (held_now plain now s.arbiter.recovery_since_ms cfg.recovery_hold_ms)) s.arbiter.recovery_since_ms;
      hold = small_instead _ (held_small (held_now plain now s.disarm.hold_since_ms cfg.disarm_hold_ms)) s.disarm.hold_since_ms;
      stored = stamped _ (gap_small (gap_now plain now (position_stamp s.glitch.last_accepted))) s.glitch.last_accepted h.floats;
      last = small_instead _ (fresh_small (sound_now plain now s.last_now)) s.last_now;
      epoch = lit< tt;
    }

-- ---- an instant after the step is one before it, or the reading, or the position's stamp

big_instead : (n : ℕ) → Big n → (o : Option ℕ) → Big (own (instead n o))
big_instead n h None = lit< tt
big_instead n h (Some x) = h

big_onwards : (now : ℕ) → Big now → (o : Option ℕ) → Big (own o) → Big (onwards now (own o) o)
big_onwards now n None h = n
big_onwards now n (Some x) h = h

big_stored : (n : ℕ) → Big n → (p : Option PositionSample) → Big (own (position_stamp (position_at n p)))
big_stored n h None = lit< tt
big_stored n h (Some p) = h

after_typed : (s : Supervisor) (t : Telemetry) (r : Stepped) → TypedWide s → Big t.now_ms → Big (own (position_stamp t.position)) → Typed r.supervisor → TypedWide (supervisor_at (instants_after (instants_of s) (stamps_of t) s r) r.supervisor)
unfolding supervisor_at instants_after instants_of stamps_of
after_typed s t r h n p typed =
    let x = r.supervisor in
    let i = instants_after (instants_of s) (stamps_of t) s r in
    record {
      timers = λ k. subst (λ (o : Timer). Big (own o.since_ms)) (sym (timer_at_lem i.timer x.triggers k)) (big_instead _ (big_onwards t.now_ms n (timer_of s.triggers k).since_ms (h.timers k)) (timer_of x.triggers k).since_ms);
      recovery = big_instead _ (big_onwards t.now_ms n s.arbiter.recovery_since_ms h.recovery) x.arbiter.recovery_since_ms;
      hold = big_instead _ (big_onwards t.now_ms n s.disarm.hold_since_ms h.hold) x.disarm.hold_since_ms;
      stored = big_stored _ (chosen Big (is_present r.decision.fence_dist_m) _ _ p h.stored) x.glitch.last_accepted;
      floats = unstamped _ x.glitch.last_accepted typed.stored;
      last = big_instead _ (chosen Big r.decision.clock_fault _ _ h.last n) x.last_now;
      epoch = chosen Big (s.initialized && not (third_fault r)) _ _ h.epoch n;
    }

-- ---- telemetry read from a kind 9's bytes

wide_now : (s : List ℕ) → Bytes s → Big (wide_stamps s).now
unfolding wide_stamps stamps_unlisted
wide_now s b = instants_lt telemetry_gaps s b 0

wide_position : (s : List ℕ) → Bytes s → Big (wide_stamps s).position
unfolding wide_stamps stamps_unlisted
wide_position s b = instants_lt telemetry_gaps s b 1

-- any four bytes are a float of binary32
any_floats : (s : List ℕ) (n : ℕ) → Within (position_cells (position_at 0 (position_at n (narrow.telemetry_at s).position)))
unfolding narrow.telemetry_at option_position_at vec3_at
any_floats s n = at (flag_at s 8)
  where
    at : (f : Bool) → Within (position_cells (position_at 0 (position_at n (cond f (Some (record { t_ms = u32_at s 9; pos = vec3_at s 13; vel = vec3_at s 25 })) None))))
    at true = (lit< tt, (f32_fits s 13, (f32_fits s 17, (f32_fits s 21, (f32_fits s 25, (f32_fits s 29, (f32_fits s 33, tt)))))))
    at false = let z = of_bits-fits binary32 0 in (lit< tt, (z, (z, (z, (z, (z, (z, tt)))))))

-- ---- the step

pub step_typed_wide : (cfg : Config) (x : Supervisor) (site : Site) (s : List ℕ) → Bytes s → TypedWide x → TypedWide (step (settings plain cfg) x (fed_at site (telemetry_at (wide_stamps s) (narrow.telemetry_at (telemetry_on (replicate 11 0) s))))).supervisor
unfolding telemetry_at stamp_marks stepped_at
step_typed_wide cfg x site s b h =
    let u = narrow.telemetry_at (telemetry_on (replicate 11 0) s) in
    let t = telemetry_at (wide_stamps s) u in
    let marked = telemetry_at (stamp_marks cfg t) t in
    let r = step (base_settings (marked_config cfg t)) (supervisor_at (marks cfg x t) x) (fed_at site marked) in
    let floats = any_floats (telemetry_on (replicate 11 0) s) (wide_stamps s).position in
    let typed = step_typed (base_settings (marked_config cfg t)) (supervisor_at (marks cfg x t) x) (fed_at site marked) (marked_typed cfg x t h) (lit< tt) (restamped (wide_stamps s).position _ (fresh_small (fresh_now plain t.now_ms (position_stamp t.position) cfg.pos_fresh_ms)) u.position floats) in
    subst (λ (q : Stepped). TypedWide q.supervisor) (sym (marked_step cfg site x t))
    (after_typed x t r h (wide_now s b) (big_stored (wide_stamps s).position (wide_position s b) u.position) typed)

pub fresh_typed_wide : TypedWide fresh_supervisor
unfolding fresh_supervisor fresh_triggers
fresh_typed_wide =
    let z = of_bits-fits binary32 0 in
    record {
      timers = at;
      recovery = lit< tt;
      hold = lit< tt;
      stored = lit< tt;
      floats = (lit< tt, (z, (z, (z, (z, (z, (z, tt)))))));
      last = lit< tt;
      epoch = lit< tt;
    }
  where
    at : (n : TimerName) → Big (own (timer_of fresh_triggers n).since_ms)
    at gcs_clear = lit< tt
    at rc_clear = lit< tt
    at gps_deg_set = lit< tt
    at gps_deg_clear = lit< tt
    at gps_lost_set = lit< tt
    at gps_lost_clear = lit< tt
    at ekf_set = lit< tt
    at ekf_clear = lit< tt
    at breach_set = lit< tt
    at breach_clear = lit< tt
    at alt_max_set = lit< tt
    at alt_max_clear = lit< tt
    at alt_min_set = lit< tt
    at alt_min_clear = lit< tt
    at stale_clear = lit< tt
    at warn_set = lit< tt
    at warn_clear = lit< tt
    at low_set = lit< tt
    at low_clear = lit< tt
    at crit_set = lit< tt
    at marg_set = lit< tt
    at marg_clear = lit< tt
    at infeas_set = lit< tt
    at invalid_clear = lit< tt
    at rc_set = lit< tt
