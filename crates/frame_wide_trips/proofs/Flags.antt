-- The flags of a kind 10 are those of the state that is read from it. Assumes nothing.
use Rattle.std.specs.Prelude.{Option, Some, None}
use Prim.Native.Nat.{ℕ, ◌+◌}
use mathlib.Core.Path.{◌≡◌, ◌∙◌, ap, refl, sym, subst}
use mathlib.Core.Bool.{Bool, true, false, not, ◌&&◌, cond}
use mathlib.Core.List.{List}
use lib.ListN.{length, replicate}
use Rattle.timers.specs.Timer.{started}
use Rattle.triggers.specs.declared.TriggerState.{TriggerState}
use Rattle.triggers.specs.Update.{none_raised}
use Rattle.triggers.specs.Families.{is_present}
use Rattle.supervisor.specs.declared.Supervisor.{Supervisor}
use Rattle.supervisor.specs.declared.Stepped.{Stepped}
use Rattle.wire.specs.Fields.{u8_at, flag_at, u32_at, le_bytes, le16, elements_from, bytes_from}
use Rattle.wire.specs.Frame.{check_frame, frame_number, frame_fault, frame_head}
use Rattle.wire.proofs.Head.{head_says}
use Rattle.wire.proofs.Whole.{whole}
use Rattle.options.specs.Options.{option_u32_at}
use Rattle.std.specs.Prelude.{Result, Ok, Err}
use Rattle.wire.specs.declared.FrameError.{FrameError}
use Rattle.wire.proofs.Read.{behind_head, within_range}
use Rattle.frame_state.specs.StateFrame.{timer_at, triggers_at, arbiter_at, state_at, state_valid, read_state}
use Rattle.instants.specs.Retimed.{TimerName, gcs_clear, rc_clear, gps_deg_set, gps_deg_clear, gps_lost_set, gps_lost_clear, ekf_set, ekf_clear, breach_set, breach_clear, alt_max_set, alt_max_clear, alt_min_set, alt_min_clear, stale_clear, warn_set, warn_clear, low_set, low_clear, crit_set, marg_set, marg_clear, infeas_set, invalid_clear, rc_set, timer_of, Instants, Stamps, instead, supervisor_at, onwards, third_fault, instants_after}
use Rattle.instants.specs.Retimed.{triggers_at as triggers_with}
use Rattle.frame_wide.specs.Resized.{narrowed}
use Rattle.frame_wide.specs.WideState.{state_gaps, state_on, wide_instants, with_instants, read_wide_state, flag_place, instants_next}
use Rattle.frame_wide_trips.specs.Claim.{Flags}
use Rattle.frame_wide_trips.proofs.StateMarks.{frame_on, opened}

started_at : (t : List ℕ) (i : ℕ) → started (option_u32_at t i) ≡ flag_at t i
unfolding option_u32_at
started_at t i = go (flag_at t i)
  where
    go : (b : Bool) → started (cond b (Some (u32_at t (i + 1))) None) ≡ b
    go true = refl
    go false = refl

module _ (given s : List ℕ) where
  -- the kind 5, by its bytes
  abbrev narrow : List ℕ
  narrow = state_on (elements_from 0 given 0 30) (bytes_from s 0 306)

  timer_flag : (n : TimerName) → started (timer_of (triggers_at narrow none_raised) n).since_ms ≡ flag_at s (flag_place n)
  unfolding triggers_at timer_at state_on narrowed state_gaps frame_head le16 le_bytes u8_at flag_at
  timer_flag gcs_clear = started_at narrow 6
  timer_flag rc_clear = started_at narrow 11
  timer_flag gps_deg_set = started_at narrow 16
  timer_flag gps_deg_clear = started_at narrow 21
  timer_flag gps_lost_set = started_at narrow 26
  timer_flag gps_lost_clear = started_at narrow 31
  timer_flag ekf_set = started_at narrow 36
  timer_flag ekf_clear = started_at narrow 41
  timer_flag breach_set = started_at narrow 46
  timer_flag breach_clear = started_at narrow 51
  timer_flag alt_max_set = started_at narrow 56
  timer_flag alt_max_clear = started_at narrow 61
  timer_flag alt_min_set = started_at narrow 66
  timer_flag alt_min_clear = started_at narrow 71
  timer_flag stale_clear = started_at narrow 76
  timer_flag warn_set = started_at narrow 81
  timer_flag warn_clear = started_at narrow 86
  timer_flag low_set = started_at narrow 91
  timer_flag low_clear = started_at narrow 96
  timer_flag crit_set = started_at narrow 101
  timer_flag marg_set = started_at narrow 106
  timer_flag marg_clear = started_at narrow 111
  timer_flag infeas_set = started_at narrow 116
  timer_flag invalid_clear = started_at narrow 121
  timer_flag rc_set = started_at narrow 127

  flags_on : Flags s (state_at narrow none_raised)
  unfolding state_at arbiter_at state_on narrowed state_gaps frame_head le16 le_bytes u8_at flag_at
  flags_on = record { timers = timer_flag; recovery = started_at narrow 135; gate = started_at narrow 140; initialized = refl }

pub flags_read :
    (given s : List ℕ) (x : Supervisor) → length given ≡ 30 → frame_fault 10 304 s ≡ 0 → read_state false (state_on given s) ≡ Ok x → Flags s x
flags_read given s x n h e =
    let f = whole 0 306 s (head_says 10 304 s h).1.1 in
    let g = whole 0 30 given n in
    let t = narrow given s in
    let a = within_range (state_valid t && true) (state_at t none_raised) x (sym (opened t (frame_on s given)) ∙ (λ j. read_state false (state_on (g j) (f j))) ∙ e) in
    subst (Flags s) a.1 (flags_on given s)

-- what an accepted kind 10 says
pub record Accepted (s : List ℕ) (x : Supervisor) : Type 0 where
  pub head : frame_fault 10 304 s ≡ 0
  pub inner : Supervisor
  pub read : read_state false (state_on (replicate 30 0) s) ≡ Ok inner
  pub at : supervisor_at (wide_instants s) inner ≡ x

pub wide_accepted : (s : List ℕ) (x : Supervisor) → read_wide_state s ≡ Ok x → Accepted s x
unfolding read_wide_state
wide_accepted s x e =
    let a = behind_head (check_frame 10 304 s) (with_instants (wide_instants s) (read_state false (state_on (replicate 30 0) s))) x e in
    go (read_state false (state_on (replicate 30 0) s)) refl a.1 (ap frame_number a.0)
  where
    go : (r : Result Supervisor FrameError) → read_state false (state_on (replicate 30 0) s) ≡ r → with_instants (wide_instants s) r ≡ Ok x → frame_fault 10 304 s ≡ 0 → Accepted s x
    go (Ok y) q h p = record { head = p; inner = y; read = q; at = cc }
    go (Err d) q h p = cc

started_instead : (n : ℕ) (o : Option ℕ) → started (instead n o) ≡ started o
started_instead n None = refl
started_instead n (Some m) = refl

pub timer_instead : (i : TimerName → ℕ) (t : TriggerState) (n : TimerName) → (timer_of (triggers_with i t) n).since_ms ≡ instead (i n) (timer_of t n).since_ms
unfolding triggers_with
timer_instead i t gcs_clear = refl
timer_instead i t rc_clear = refl
timer_instead i t gps_deg_set = refl
timer_instead i t gps_deg_clear = refl
timer_instead i t gps_lost_set = refl
timer_instead i t gps_lost_clear = refl
timer_instead i t ekf_set = refl
timer_instead i t ekf_clear = refl
timer_instead i t breach_set = refl
timer_instead i t breach_clear = refl
timer_instead i t alt_max_set = refl
timer_instead i t alt_max_clear = refl
timer_instead i t alt_min_set = refl
timer_instead i t alt_min_clear = refl
timer_instead i t stale_clear = refl
timer_instead i t warn_set = refl
timer_instead i t warn_clear = refl
timer_instead i t low_set = refl
timer_instead i t low_clear = refl
timer_instead i t crit_set = refl
timer_instead i t marg_set = refl
timer_instead i t marg_clear = refl
timer_instead i t infeas_set = refl
timer_instead i t invalid_clear = refl
timer_instead i t rc_set = refl

-- other instants leave the flags
flags_at : (s : List ℕ) (i : Instants) (x : Supervisor) → Flags s x → Flags s (supervisor_at i x)
unfolding supervisor_at
flags_at s i x f =
    record {
      timers = λ n. ap started (timer_instead i.timer x.triggers n) ∙ started_instead (i.timer n) (timer_of x.triggers n).since_ms ∙ f.timers n;
      recovery = started_instead i.recovery x.arbiter.recovery_since_ms ∙ f.recovery;
      gate = started_instead i.gate x.disarm.hold_since_ms ∙ f.gate;
      initialized = f.initialized;
    }

pub flags_wide : (s : List ℕ) (x : Supervisor) → read_wide_state s ≡ Ok x → Flags s x
flags_wide s x e =
    let a = wide_accepted s x e in
    subst (Flags s) a.at (flags_at s (wide_instants s) a.inner (flags_read (replicate 30 0) s a.inner refl a.head a.read))

onwards_is : (now a : ℕ) (o : Option ℕ) (b : Bool) → started o ≡ b → onwards now a o ≡ cond b a now
onwards_is now a None b h = ap (λ (f : Bool). cond f a now) h
onwards_is now a (Some m) b h = ap (λ (f : Bool). cond f a now) h

pub next_is :
    (s : List ℕ) (i : Instants) (j : Stamps) (x : Supervisor) (r : Stepped) → Flags s x →
    instants_after i j x r ≡ instants_next s i j.now j.position (is_present r.decision.fence_dist_m) r.decision.clock_fault (third_fault r)
unfolding instants_after instants_next
next_is s i j x r f =
    let now = j.now in
    λ k.
    record {
      timer = λ n. onwards_is now (i.timer n) (timer_of x.triggers n).since_ms (flag_at s (flag_place n)) (f.timers n) k;
      recovery = onwards_is now i.recovery x.arbiter.recovery_since_ms (flag_at s 235) f.recovery k;
      gate = onwards_is now i.gate x.disarm.hold_since_ms (flag_at s 244) f.gate k;
      stored = cond (is_present r.decision.fence_dist_m) j.position i.stored;
      last = cond r.decision.clock_fault i.last now;
      epoch = cond (f.initialized k && not (third_fault r)) i.epoch now;
    }
