-- A kind 10 with marks for its instants, read. Assumes nothing.
use Rattle.std.specs.Prelude.{Option, Some, None}
use Prim.Native.Nat.{ℕ, ◌+◌, ◌^◌, ◌<◌, min}
use mathlib.Core.Path.{◌≡◌, ◌∙◌, ap, refl, sym}
use mathlib.Core.Bool.{Bool, true, false, cond, ◌&&◌}
use mathlib.Core.List.{List, ◌++◌}
use lib.Dec.{eqb}
use lib.ListN.{get_or, replicate}
use Rattle.types.specs.declared.Vec3.{Vec3}
use Rattle.triggers.specs.declared.Raised.{Raised}
use Rattle.triggers.specs.Update.{none_raised}
use Rattle.supervisor.specs.declared.Supervisor.{Supervisor}
use Rattle.supervisor.specs.Rules.{finite_stored}
use Rattle.wire.specs.Fields.{u8_at, number_at, u16_at, u32_at, f32_at, flag_at, byte_below, le_bytes, le16, le32, elements_from, bytes_from}
use Rattle.wire.specs.Frame.{frame_fault, frame_head, check_frame}
use Rattle.wire.proofs.Fields.{u32_back}
use Rattle.wire.proofs.Head.{number_zero, head_says}
use Rattle.wire.proofs.Whole.{whole}
use Rattle.options.specs.Options.{zeros, valid_option, option_u32_at}
use Rattle.options.specs.Position.{vec3_at, option_position_at}
use Rattle.options.specs.Enums.{action_at, reason_at}
use Rattle.wire.proofs.Read.{in_range}
use Rattle.frame_state.specs.StateFrame.{timer_at, triggers_at, arbiter_at, state_at, timers_valid, state_valid, raised_read, raised_valid, read_state}
use Rattle.instants.specs.Retimed.{Instants, instead, position_at, supervisor_at}
use Rattle.instants.specs.Retimed.{triggers_at as triggers_with}
use Rattle.instants.specs.Listed.{unlisted}
use Rattle.frame_wide.specs.Resized.{narrowed}
use Rattle.frame_wide.specs.WideState.{state_gaps, state_on, with_instants}
use Rattle.frame_wide_trips.specs.Claim.{Words}
use Rattle.frame_wide_trips.proofs.Instant.{test_of, test_on, value_of, value_on}
use Rattle.types.specs.declared.PositionSample.{PositionSample}

-- a sample behind its flag
abbrev sample_or : Bool → ℕ → Vec3 → Vec3 → Option PositionSample
sample_or b t p v = cond b (Some (record { t_ms = t; pos = p; vel = v })) None

finite_on : (b : Bool) (t u : ℕ) (p v : Vec3) → finite_stored (sample_or b t p v) ≡ finite_stored (sample_or b u p v)
finite_on true t u p v = refl
finite_on false t u p v = refl

-- ---- the whole frame

module _ (given s : List ℕ) where
  abbrev row : List ℕ
  row = elements_from 0 given 0 30

  abbrev none : List ℕ
  none = replicate 30 0

  abbrev all : List ℕ
  all = bytes_from s 0 306

  abbrev mark : ℕ → ℕ
  mark k = get_or given k 0

  -- where an instant whose flag is at k is not there
  abbrev else : ℕ → ℕ
  else k = min (number_at 8 s (k + 1)) 1

  abbrev zero4 : ℕ → Bool
  zero4 n = zeros (le_bytes 4 n) 0 4

  test : (at k : ℕ) → test_of zero4 (get_or s at 0) (mark k) (else at) ≡ test_of zero4 (get_or s at 0) 0 (else at)
  test at k = test_on zero4 (get_or s at 0) (mark k) (else at)

  timers_on : timers_valid (state_on row all) 24 ≡ timers_valid (state_on none all) 24
  unfolding timers_valid valid_option zeros state_on narrowed state_gaps frame_head le16 le_bytes u8_at number_at
  timers_on =
      λ j.
      true
      && test 6 0 j
      && test 15 1 j
      && test 24 2 j
      && test 33 3 j
      && test 42 4 j
      && test 51 5 j
      && test 60 6 j
      && test 69 7 j
      && test 78 8 j
      && test 87 9 j
      && test 96 10 j
      && test 105 11 j
      && test 114 12 j
      && test 123 13 j
      && test 132 14 j
      && test 141 15 j
      && test 150 16 j
      && test 159 17 j
      && test 168 18 j
      && test 177 19 j
      && test 186 20 j
      && test 195 21 j
      && test 204 22 j
      && test 213 23 j

  valid_on : state_valid (state_on row all) ≡ state_valid (state_on none all)
  unfolding state_valid valid_option zeros byte_below option_position_at vec3_at state_on narrowed state_gaps frame_head le16 le_bytes u8_at number_at flag_at u32_at f32_at
  valid_on =
      let t = state_on none all in
      λ j.
      timers_on j
      && byte_below t 4 2
      && byte_below t 5 2
      && byte_below t 126 2
      && test 223 24 j
      && byte_below t 132 4
      && byte_below t 133 5
      && byte_below t 134 19
      && test 235 25 j
      && test 244 26 j
      && test_on (λ n. zeros (le_bytes 4 n ++ bytes_from s 262 24) 0 28) (get_or s 253 0) (mark 27) (else 253) j
      && finite_on (eqb (get_or s 253 0) 1) (u32_at (state_on row all) 146) (u32_at t 146) (vec3_at t 150) (vec3_at t 162) j
      && test 287 28 j
      && byte_below t 184 3
      && byte_below t 185 2

  module _ (w : (k : ℕ) → mark k < 2 ^ 32) where
    word : (at k : ℕ) → value_of Some None (get_or s at 0) (mark k) (else at) ≡ instead (mark k) (value_of Some None (get_or s at 0) 0 (else at))
    word at k = value_on Some None (instead (mark k)) (get_or s at 0) (mark k) (else at) (w k) (λ u. refl) refl

    sample :
        (p v : Vec3) →
        value_of (λ n. Some (record { t_ms = n; pos = p; vel = v })) None (get_or s 253 0) (mark 27) (else 253)
        ≡ position_at (mark 27) (value_of (λ n. Some (record { t_ms = n; pos = p; vel = v })) None (get_or s 253 0) 0 (else 253))
    sample p v =
        value_on (λ n. Some (record { t_ms = n; pos = p; vel = v })) None (position_at (mark 27)) (get_or s 253 0) (mark 27) (else 253)
        (w 27) (λ u. refl) refl

    triggers_on : (r : Raised) → triggers_at (state_on row all) r ≡ triggers_with (unlisted given).timer (triggers_at (state_on none all) r)
    unfolding triggers_at triggers_with timer_at option_u32_at unlisted state_on narrowed state_gaps frame_head le16 le32 le_bytes u8_at number_at flag_at u32_at
    triggers_on r =
        let t = state_on none all in
        λ j.
        record {
          battery_critical_latched = flag_at t 4;
          energy_infeasible_latched = flag_at t 5;
          gcs_clear_timer = record { since_ms = word 6 0 j };
          rc_clear_timer = record { since_ms = word 15 1 j };
          gps_deg_set = record { since_ms = word 24 2 j };
          gps_deg_clear = record { since_ms = word 33 3 j };
          gps_lost_set = record { since_ms = word 42 4 j };
          gps_lost_clear = record { since_ms = word 51 5 j };
          ekf_set = record { since_ms = word 60 6 j };
          ekf_clear = record { since_ms = word 69 7 j };
          fence_breach_set = record { since_ms = word 78 8 j };
          fence_breach_clear = record { since_ms = word 87 9 j };
          alt_max_set = record { since_ms = word 96 10 j };
          alt_max_clear = record { since_ms = word 105 11 j };
          alt_min_set = record { since_ms = word 114 12 j };
          alt_min_clear = record { since_ms = word 123 13 j };
          stale_bat_clear = record { since_ms = word 132 14 j };
          bat_warn_set = record { since_ms = word 141 15 j };
          bat_warn_clear = record { since_ms = word 150 16 j };
          bat_low_set = record { since_ms = word 159 17 j };
          bat_low_clear = record { since_ms = word 168 18 j };
          bat_crit_set = record { since_ms = word 177 19 j };
          energy_marg_set = record { since_ms = word 186 20 j };
          energy_marg_clear = record { since_ms = word 195 21 j };
          energy_infeas_set = record { since_ms = word 204 22 j };
          invalid_clear = record { since_ms = word 213 23 j };
          invalid_active = flag_at t 126;
          rc_lost_set = record { since_ms = word 223 24 j };
          gcs_stage = u8_at t 132;
          raised = r;
        }

    state_on_lem : (r : Raised) → state_at (state_on row all) r ≡ supervisor_at (unlisted given) (state_at (state_on none all) r)
    unfolding state_at arbiter_at action_at reason_at option_u32_at option_position_at vec3_at supervisor_at unlisted state_on narrowed state_gaps frame_head le16 le32 le_bytes u8_at number_at flag_at u32_at f32_at
    state_on_lem r =
        let t = state_on none all in
        λ j.
        record {
          triggers = triggers_on r j;
          arbiter = record { prev_output = action_at t 133; prev_reason = reason_at t 134; recovery_since_ms = word 235 25 j };
          disarm = record { hold_since_ms = word 244 26 j };
          glitch =
              record {
                last_accepted = sample (vec3_at t 150) (vec3_at t 162) j;
                reject_streak = u8_at t 174;
              };
          last_now = word 287 28 j;
          epoch_start = u32_back (mark 29) (w 29) j;
          backwards_streak = u8_at t 184;
          initialized = flag_at t 185;
        }

pub frame_on : (s given : List ℕ) → frame_fault 5 184 (state_on (elements_from 0 given 0 30) (bytes_from s 0 306)) ≡ 0
unfolding check_frame state_on narrowed state_gaps frame_head le16 le_bytes u8_at number_at u16_at
frame_on s given = refl

-- what a kind 5 without a fault of its head is read as
pub opened : (t : List ℕ) → frame_fault 5 184 t ≡ 0 → read_state false t ≡ in_range (state_valid t && true) (state_at t none_raised)
unfolding read_state raised_valid raised_read
opened t h = simp (number_zero _ h)

with_instants_lem : (b : Bool) (i : Instants) (x : Supervisor) → in_range b (supervisor_at i x) ≡ with_instants i (in_range b x)
with_instants_lem true i x = refl
with_instants_lem false i x = refl

pub marks_read :
    (given s : List ℕ) → Words 30 given → frame_fault 10 304 s ≡ 0 →
    read_state false (state_on given s) ≡ with_instants (unlisted given) (read_state false (state_on (replicate 30 0) s))
marks_read given s w h =
    let none : List ℕ = replicate 30 0 in
    let e = whole 0 30 given w.count in
    let f = whole 0 306 s (head_says 10 304 s h).1.1 in
    let i = unlisted given in
    let x = state_at (state_on none (all given s)) none_raised in
    (λ j. read_state false (state_on (sym e j) (sym f j)))
    ∙ opened (state_on (row given s) (all given s)) (frame_on s given)
    ∙ (λ j. in_range (valid_on given s j && true) (state_on_lem given s w.each none_raised j))
    ∙ with_instants_lem (state_valid (state_on none (all given s)) && true) i x
    ∙ ap (with_instants i) (sym (opened (state_on none (all given s)) (frame_on s none)))
    ∙ ap (λ (l : List ℕ). with_instants i (read_state false (state_on none l))) f
