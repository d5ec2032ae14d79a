-- The 64-bit step on the 32-bit code: `rows_step` at a state's own instants and telemetry's own stamps. Assumes nothing.
use Rattle.std.specs.Prelude.{Option, Some, None, Float, Bool}
use Prim.Native.Nat.{ℕ}
use mathlib.Core.Path.{◌≡◌, refl, ap, sym, ◌∙◌}
use Rattle.types.specs.declared.Telemetry.{Telemetry}
use Rattle.time.specs.Time.{plain, age, fresh, hold_met}
use Rattle.config.specs.declared.Config.{Config}
use Rattle.timers.specs.Timer.{started}
use Rattle.triggers.specs.Families.{gcs_age}
use Rattle.supervisor.specs.declared.Supervisor.{Supervisor}
use Rattle.supervisor.specs.Settings.{base_settings, fed_at}
use Rattle.supervisor.specs.Step.{step}
use Rattle.instants.specs.Retimed.{instead, triggers_at, position_at, supervisor_at, gps_at, value_at, flag_at, landed_at, telemetry_at, stepped_at, instants_after}
use Rattle.instants.specs.Own.{position_stamp, gps_stamp, value_stamp, flag_stamp, landed_stamp, own, instants_of, stamps_of}
use Rattle.marks.specs.Marks.{held_now, fresh_now, sound_now, gap_now, up_to2000, held_mark, fresh_mark, gap_mark, marks, stamp_marks, marked_config, marked_by, marks_of, stamp_marks_of}
use Rattle.alike.specs.Alike.{settings}
use Rattle.alike.specs.Marked.{MarkedClaim}
use Rattle.alike.proofs.Own.{own_is, own_state, own_read}
use Rattle.alike.proofs.Rows.{marked_at, rows_step}
use Rattle.types.specs.declared.Stamped.{Stamped}
use Rattle.types.specs.declared.LandedState.{LandedState}
use Rattle.types.specs.declared.PositionSample.{PositionSample}
use Rattle.types.specs.declared.GpsSample.{GpsSample}

-- ---- where an instant is there, its mark is that of the instant; where none is, no mark is put in

held_own : (now hold : ℕ) (o : Option ℕ) → instead (held_mark (hold_met plain now (own o) hold)) o ≡ instead (held_mark (held_now plain now o hold)) o
held_own now hold None = refl
held_own now hold (Some y) = refl

sound_own : (now : ℕ) (o : Option ℕ) → instead (fresh_mark (started (age plain now (own o)))) o ≡ instead (fresh_mark (sound_now plain now o)) o
sound_own now None = refl
sound_own now (Some y) = refl

gap_own : (now : ℕ) (p : Option PositionSample) → position_at (gap_mark (up_to2000 (age plain now (own (position_stamp p))))) p ≡ position_at (gap_mark (gap_now plain now (position_stamp p))) p
gap_own now None = refl
gap_own now (Some p) = refl

position_own : (now limit : ℕ) (p : Option PositionSample) → position_at (fresh_mark (fresh plain now (own (position_stamp p)) limit)) p ≡ position_at (fresh_mark (fresh_now plain now (position_stamp p) limit)) p
position_own now limit None = refl
position_own now limit (Some p) = refl

gps_own : (now limit : ℕ) (p : Option GpsSample) → gps_at (fresh_mark (fresh plain now (own (gps_stamp p)) limit)) p ≡ gps_at (fresh_mark (fresh_now plain now (gps_stamp p) limit)) p
gps_own now limit None = refl
gps_own now limit (Some p) = refl

value_own : (now limit : ℕ) (p : Option (Stamped Float)) → value_at (fresh_mark (fresh plain now (own (value_stamp p)) limit)) p ≡ value_at (fresh_mark (fresh_now plain now (value_stamp p) limit)) p
value_own now limit None = refl
value_own now limit (Some r) = refl

flag_own : (now limit : ℕ) (p : Option (Stamped Bool)) → flag_at (fresh_mark (fresh plain now (own (flag_stamp p)) limit)) p ≡ flag_at (fresh_mark (fresh_now plain now (flag_stamp p) limit)) p
flag_own now limit None = refl
flag_own now limit (Some r) = refl

landed_own : (now limit : ℕ) (p : Option (Stamped LandedState)) → landed_at (fresh_mark (fresh plain now (own (landed_stamp p)) limit)) p ≡ landed_at (fresh_mark (fresh_now plain now (landed_stamp p) limit)) p
landed_own now limit None = refl
landed_own now limit (Some r) = refl

-- ---- so for the whole of it

module _ (cfg : Config) (t : Telemetry) where
  state_own : (s : Supervisor) → supervisor_at (marks_of cfg t.now_ms (instants_of s)) s ≡ supervisor_at (marks cfg s t) s
  unfolding supervisor_at triggers_at instants_of marks_of marks
  state_own s = simp (held_own, sound_own, gap_own)

  read_own : telemetry_at (stamp_marks_of cfg (stamps_of t)) t ≡ telemetry_at (stamp_marks cfg t) t
  unfolding telemetry_at stamps_of stamp_marks_of stamp_marks
  read_own = simp (position_own, gps_own, value_own, flag_own, landed_own)

  config_own : marked_at cfg t (stamps_of t) ≡ marked_config cfg t
  unfolding stamps_of
  config_own = ap (λ o. marked_by cfg (gcs_age plain t.now_ms o)) (own_is t.gcs_heartbeat_ms)

-- the theorem
pub marked_step : MarkedClaim
unfolding stamps_of
marked_step cfg site s t =
    let r1 = step (base_settings (marked_at cfg t (stamps_of t))) (supervisor_at (marks_of cfg t.now_ms (instants_of s)) s) (fed_at site (telemetry_at (stamp_marks_of cfg (stamps_of t)) t)) in
    let r2 = step (base_settings (marked_config cfg t)) (supervisor_at (marks cfg s t) s) (fed_at site (telemetry_at (stamp_marks cfg t) t)) in
    let to_own : step (settings plain cfg) s (fed_at site t) ≡ step (settings plain cfg) (supervisor_at (instants_of s) s) (fed_at site (telemetry_at (stamps_of t) t))
    = λ k. step (settings plain cfg) (sym (own_state s) k) (fed_at site (sym (own_read t) k)) in
    let one : r1 ≡ r2
    = λ k. step (base_settings (config_own cfg t k)) (state_own cfg t s k) (fed_at site (read_own cfg t k)) in
    to_own
    ∙ rows_step cfg site s (instants_of s) t (stamps_of t)
    ∙ ap (λ r. stepped_at (instants_after (instants_of s) (stamps_of t) s r) r) one
