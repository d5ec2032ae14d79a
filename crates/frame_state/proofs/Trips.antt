-- Both round trips of a state frame, exact: no float of it can be a NaN. Assumes nothing.
use Rattle.std.specs.Prelude.{Some, None, unwrap_or, Ok}
use Prim.Native.Nat.{ℕ, zero, suc, ◌+◌, ◌*◌, ◌^◌, ◌<◌}
use mathlib.Core.Path.{◌≡◌, ◌∙◌, ap, refl, sym, subst}
use mathlib.Core.List.{List, [], ◌∷◌, ◌++◌}
use mathlib.Core.Bool.{Bool, true, false, cond, not, ◌&&◌, false≢true}
use native.Mathlib.Omega.{arith}
use lib.Dec.{T, eqb, lit<}
use lib.ListN.{replicate}
use lib.Ieee.{Float, nan, inf, fin, is_nan, binary32}
use lib.Ieee.Bits.{of_bits-fits}
use borrow.Author.Tests.{eqb-true, eqb-false, ne_eqb, lt-ltb, ltb-true}
use Rattle.float32.specs.Libm.{is_finite}
use Rattle.types.specs.declared.PositionSample.{PositionSample}
use Rattle.timers.specs.declared.Timer.{Timer}
use Rattle.triggers.specs.declared.Raised.{Raised}
use Rattle.supervisor.specs.declared.Supervisor.{Supervisor}
use Rattle.supervisor.specs.Rules.{finite_vec, finite_stored, Rules, RaisedFits}
use Rattle.wire.specs.Fields.{Bytes, u8_at, number_at, u16_at, flag_at, u32_at, f32_at, byte_below, le8, le_flag, le_bytes, le16, le32, le_f32, bytes_from}
use Rattle.wire.specs.Cell.{Within}
use Rattle.wire.specs.Frame.{frame_number, frame_fault, frame_head, check_frame}
use Rattle.wire.proofs.Fields.{u32_back, flag_back, flag_valid, u32_bytes, f32_bytes, flag_bytes, u32_lt, f32_fits}
use Rattle.wire.proofs.Head.{head_says, head_bytes}
use Rattle.wire.proofs.Read.{accepted}
use Rattle.wire.proofs.Whole.{first, second, whole, each}
use Rattle.options.specs.Options.{zeros, valid_option, option_u32_at, le_option_u32}
use Rattle.options.specs.Position.{vec3_at, le_vec3, position_cells, option_position_at, le_option_position}
use Rattle.options.specs.Enums.{action_at, reason_at, le_action, le_reason}
use Rattle.options.proofs.Options.{option_u32_back, option_u32_valid, option_u32_bytes, option_position_back, option_position_valid, absent_position}
use Rattle.options.proofs.Enums.{action_back, reason_back, action_valid, reason_valid, action_bytes, reason_bytes}
use Rattle.frame_state.specs.StateFrame.{state_kind, state_length, raised_at, raised_tests, raised_read, raised_valid, le_raised, le_kept, timer_at, triggers_at, arbiter_at, state_at, timers_valid, state_tests, state_valid, read_state, le_timer, le_links, le_fence, le_battery, le_input, le_triggers, le_arbiter, state_frame, timer_cells, Typed}

-- ---- value, bytes, value

timer_back : (t : Timer) → unwrap_or t.since_ms 0 < 2 ^ 32 → timer_at (le_timer t) 0 ≡ t
unfolding timer_at le_timer
timer_back t h = λ i. record { since_ms = option_u32_back t.since_ms h i }

triggers_back : (keeps : Bool) (x : Supervisor) → Within (timer_cells x.triggers) → triggers_at (state_frame keeps x) x.triggers.raised ≡ x.triggers
unfolding triggers_at timer_at option_u32_at state_frame frame_head le_triggers le_links le_fence le_battery le_input le_timer le_arbiter le_action le_reason le_option_u32 le_option_position le_vec3 le_f32 le8 le16 le32 le_bytes le_flag u8_at number_at flag_at u32_at
triggers_back keeps x g0 =
    let t = x.triggers in
    let g1 = g0.1 in
    let g2 = g1.1 in
    let g3 = g2.1 in
    let g4 = g3.1 in
    let g5 = g4.1 in
    let g6 = g5.1 in
    let g7 = g6.1 in
    let g8 = g7.1 in
    let g9 = g8.1 in
    let g10 = g9.1 in
    let g11 = g10.1 in
    let g12 = g11.1 in
    let g13 = g12.1 in
    let g14 = g13.1 in
    let g15 = g14.1 in
    let g16 = g15.1 in
    let g17 = g16.1 in
    let g18 = g17.1 in
    let g19 = g18.1 in
    let g20 = g19.1 in
    let g21 = g20.1 in
    let g22 = g21.1 in
    let g23 = g22.1 in
    let g24 = g23.1 in
    λ i.
    record {
      battery_critical_latched = flag_back t.battery_critical_latched i;
      energy_infeasible_latched = flag_back t.energy_infeasible_latched i;
      gcs_clear_timer = timer_back t.gcs_clear_timer g0.0 i;
      rc_clear_timer = timer_back t.rc_clear_timer g1.0 i;
      gps_deg_set = timer_back t.gps_deg_set g2.0 i;
      gps_deg_clear = timer_back t.gps_deg_clear g3.0 i;
      gps_lost_set = timer_back t.gps_lost_set g4.0 i;
      gps_lost_clear = timer_back t.gps_lost_clear g5.0 i;
      ekf_set = timer_back t.ekf_set g6.0 i;
      ekf_clear = timer_back t.ekf_clear g7.0 i;
      fence_breach_set = timer_back t.fence_breach_set g8.0 i;
      fence_breach_clear = timer_back t.fence_breach_clear g9.0 i;
      alt_max_set = timer_back t.alt_max_set g10.0 i;
      alt_max_clear = timer_back t.alt_max_clear g11.0 i;
      alt_min_set = timer_back t.alt_min_set g12.0 i;
      alt_min_clear = timer_back t.alt_min_clear g13.0 i;
      stale_bat_clear = timer_back t.stale_bat_clear g14.0 i;
      bat_warn_set = timer_back t.bat_warn_set g15.0 i;
      bat_warn_clear = timer_back t.bat_warn_clear g16.0 i;
      bat_low_set = timer_back t.bat_low_set g17.0 i;
      bat_low_clear = timer_back t.bat_low_clear g18.0 i;
      bat_crit_set = timer_back t.bat_crit_set g19.0 i;
      energy_marg_set = timer_back t.energy_marg_set g20.0 i;
      energy_marg_clear = timer_back t.energy_marg_clear g21.0 i;
      energy_infeas_set = timer_back t.energy_infeas_set g22.0 i;
      invalid_clear = timer_back t.invalid_clear g23.0 i;
      invalid_active = flag_back t.invalid_active i;
      rc_lost_set = timer_back t.rc_lost_set g24.0 i;
      gcs_stage = t.gcs_stage;
      raised = t.raised;
    }

fields : (keeps : Bool) (x : Supervisor) → Typed x → state_at (state_frame keeps x) x.triggers.raised ≡ x
unfolding state_at arbiter_at action_at reason_at option_u32_at option_position_at vec3_at state_frame frame_head le_triggers le_links le_fence le_battery le_input le_timer le_arbiter le_action le_reason le_option_u32 le_option_position le_vec3 le_f32 le8 le16 le32 le_bytes le_flag u8_at number_at flag_at u32_at f32_at
fields keeps x g =
    λ i.
    record {
      triggers = triggers_back keeps x g.timers i;
      arbiter =
          record {
            prev_output = action_back x.arbiter.prev_output i;
            prev_reason = reason_back x.arbiter.prev_reason i;
            recovery_since_ms = option_u32_back x.arbiter.recovery_since_ms g.recovery i;
          };
      disarm = record { hold_since_ms = option_u32_back x.disarm.hold_since_ms g.hold i };
      glitch = record { last_accepted = option_position_back x.glitch.last_accepted g.stored i; reject_streak = x.glitch.reject_streak };
      last_now = option_u32_back x.last_now g.last i;
      epoch_start = u32_back x.epoch_start g.epoch i;
      backwards_streak = x.backwards_streak;
      initialized = flag_back x.initialized i;
    }

-- what is raised, where the frame can hold it
raised_back : (keeps : Bool) (x : Supervisor) → RaisedFits keeps x → raised_read keeps (state_frame keeps x) ≡ x.triggers.raised
unfolding raised_read raised_at state_frame frame_head le_triggers le_links le_fence le_battery le_input le_timer le_arbiter le_action le_reason le_option_u32 le_option_position le_vec3 le_f32 le8 le16 le32 le_bytes le_flag le_raised u8_at flag_at
raised_back false x h = h
raised_back true x h =
    let r = x.triggers.raised in
    λ i.
    record {
      gps_degraded = flag_back r.gps_degraded i;
      gps_lost = flag_back r.gps_lost i;
      ekf_unhealthy = flag_back r.ekf_unhealthy i;
      fence_breach = flag_back r.fence_breach i;
      altitude_min = flag_back r.altitude_min i;
      battery_warn = flag_back r.battery_warn i;
      battery_low = flag_back r.battery_low i;
      energy_rtl_marginal = flag_back r.energy_rtl_marginal i;
    }

raised_valid_lem : (keeps : Bool) (x : Supervisor) → raised_valid keeps (state_frame keeps x) ≡ true
unfolding raised_valid byte_below state_frame frame_head le_triggers le_links le_fence le_battery le_input le_timer le_arbiter le_action le_reason le_option_u32 le_option_position le_vec3 le_f32 le8 le16 le32 le_bytes le_flag le_raised u8_at
raised_valid_lem false x = refl
raised_valid_lem true x =
    let r = x.triggers.raised in
    λ i.
    flag_valid r.gps_degraded i
    && flag_valid r.gps_lost i
    && flag_valid r.ekf_unhealthy i
    && flag_valid r.fence_breach i
    && flag_valid r.altitude_min i
    && flag_valid r.battery_warn i
    && flag_valid r.battery_low i
    && flag_valid r.energy_rtl_marginal i

head : (keeps : Bool) (x : Supervisor) → check_frame (state_kind keeps) (state_length keeps) (state_frame keeps x) ≡ Ok tt
unfolding check_frame le_raised state_frame frame_head le_triggers le_links le_fence le_battery le_input le_timer le_arbiter le_action le_reason le_option_u32 le_option_position le_vec3 le_f32 le8 le16 le32 le_bytes le_flag u8_at number_at u16_at
head true x = refl
head false x = refl

timers_valid_lem : (keeps : Bool) (x : Supervisor) → timers_valid (state_frame keeps x) 24 ≡ true
unfolding timers_valid valid_option zeros state_frame frame_head le_triggers le_links le_fence le_battery le_input le_timer le_arbiter le_action le_reason le_option_u32 le_option_position le_vec3 le_f32 le8 le16 le32 le_bytes le_flag u8_at
timers_valid_lem keeps x =
    let t = x.triggers in
    λ i.
    true
    && option_u32_valid t.gcs_clear_timer.since_ms i
    && option_u32_valid t.rc_clear_timer.since_ms i
    && option_u32_valid t.gps_deg_set.since_ms i
    && option_u32_valid t.gps_deg_clear.since_ms i
    && option_u32_valid t.gps_lost_set.since_ms i
    && option_u32_valid t.gps_lost_clear.since_ms i
    && option_u32_valid t.ekf_set.since_ms i
    && option_u32_valid t.ekf_clear.since_ms i
    && option_u32_valid t.fence_breach_set.since_ms i
    && option_u32_valid t.fence_breach_clear.since_ms i
    && option_u32_valid t.alt_max_set.since_ms i
    && option_u32_valid t.alt_max_clear.since_ms i
    && option_u32_valid t.alt_min_set.since_ms i
    && option_u32_valid t.alt_min_clear.since_ms i
    && option_u32_valid t.stale_bat_clear.since_ms i
    && option_u32_valid t.bat_warn_set.since_ms i
    && option_u32_valid t.bat_warn_clear.since_ms i
    && option_u32_valid t.bat_low_set.since_ms i
    && option_u32_valid t.bat_low_clear.since_ms i
    && option_u32_valid t.bat_crit_set.since_ms i
    && option_u32_valid t.energy_marg_set.since_ms i
    && option_u32_valid t.energy_marg_clear.since_ms i
    && option_u32_valid t.energy_infeas_set.since_ms i
    && option_u32_valid t.invalid_clear.since_ms i

valid : (keeps : Bool) (x : Supervisor) → Typed x → Rules x → state_valid (state_frame keeps x) ≡ true
unfolding state_valid valid_option zeros byte_below option_position_at vec3_at state_frame frame_head le_triggers le_links le_fence le_battery le_input le_timer le_arbiter le_action le_reason le_option_u32 le_option_position le_vec3 le_f32 le8 le16 le32 le_bytes le_flag u8_at number_at flag_at u32_at f32_at
valid keeps x g r =
    let t = x.triggers in
    let o = x.glitch.last_accepted in
    let stage = lt-ltb t.gcs_stage 4 (let h = r.stage in omega arith) in
    let streak = lt-ltb x.backwards_streak 3 (let h = r.streak in omega arith) in
    let finite = ap finite_stored (option_position_back o g.stored) ∙ r.stored in
    λ i.
    timers_valid_lem keeps x i
    && flag_valid t.battery_critical_latched i
    && flag_valid t.energy_infeasible_latched i
    && flag_valid t.invalid_active i
    && option_u32_valid t.rc_lost_set.since_ms i
    && stage i
    && action_valid x.arbiter.prev_output i
    && reason_valid x.arbiter.prev_reason i
    && option_u32_valid x.arbiter.recovery_since_ms i
    && option_u32_valid x.disarm.hold_since_ms i
    && option_position_valid o i
    && finite i
    && option_u32_valid x.last_now i
    && streak i
    && flag_valid x.initialized i

-- value, bytes, value: for each state that the frame's rules allow and that the frame can hold
pub value_back : (keeps : Bool) (x : Supervisor) → Typed x → Rules x → RaisedFits keeps x → read_state keeps (state_frame keeps x) ≡ Ok x
unfolding read_state
value_back keeps x g r h =
    simp (head keeps x, valid keeps x g r, raised_valid_lem keeps x)
    (ap Ok (ap (state_at (state_frame keeps x)) (raised_back keeps x h) ∙ fields keeps x g))

-- ---- bytes, value, bytes

no_nan : (v : Float) → is_finite v ≡ true → T (not (is_nan v))
unfolding is_finite is_nan
no_nan nan h = absurd (false≢true h)
no_nan (inf s) h = tt
no_nan (fin s m e) h = tt

-- each timer of a row that holds
pub timer_valid : (s : List ℕ) (n k : ℕ) → k < n → timers_valid s n ≡ true → valid_option s (6 + 5 * k) 4 ≡ true
unfolding timers_valid
timer_valid s zero k h v = absurd (omega arith)
timer_valid s (suc n) k h v = at (λ l. timer_valid s n k l (first (timers_valid s n) (valid_option s (6 + 5 * n) 4) v)) (eqb k n) refl
  where
    at : (k < n → valid_option s (6 + 5 * k) 4 ≡ true) → (b : Bool) → eqb k n ≡ b → valid_option s (6 + 5 * k) 4 ≡ true
    at rest true e = ap (λ (m : ℕ). valid_option s (6 + 5 * m) 4) (eqb-true k n e) ∙ second (timers_valid s n) (valid_option s (6 + 5 * n) 4) v
    at rest false e = let d = eqb-false k n e in rest (omega arith)

-- bytes of 0
zero_bytes : (s : List ℕ) (i n : ℕ) → zeros s i n ≡ true → bytes_from s i n ≡ replicate n 0
unfolding zeros u8_at
zero_bytes s i zero h = refl
zero_bytes s i (suc n) h =
    λ j. eqb-true (u8_at s i) 0 (first (eqb (u8_at s i) 0) (zeros s (i + 1) n) h) j ∷ zero_bytes s (i + 1) n (second (eqb (u8_at s i) 0) (zeros s (i + 1) n) h) j

both_sizes : (keeps : Bool) → 2 + state_length keeps ≡ 186 + cond keeps 8 0
both_sizes true = refl
both_sizes false = refl

both_parts : (s : List ℕ) (keeps : Bool) → bytes_from s 0 186 ++ bytes_from s 186 (cond keeps 8 0) ≡ bytes_from s 0 (186 + cond keeps 8 0)
both_parts s true = refl
both_parts s false = refl

module _ (s : List ℕ) (b : Bytes s) where
  vec3_bytes : (i : ℕ) → finite_vec (vec3_at s i) ≡ true → le_vec3 (vec3_at s i) ≡ bytes_from s i 4 ++ (bytes_from s (i + 4) 4 ++ bytes_from s (i + 8) 4)
  unfolding vec3_at le_vec3
  vec3_bytes i h =
      let g = each (is_finite (f32_at s i)) (is_finite (f32_at s (i + 4)) ∷ is_finite (f32_at s (i + 8)) ∷ []) h in
      λ j.
      f32_bytes s i b (no_nan (f32_at s i) g.0) j
      ++ (f32_bytes s (i + 4) b (no_nan (f32_at s (i + 4)) g.1.0) j ++ f32_bytes s (i + 8) b (no_nan (f32_at s (i + 8)) g.1.1.0) j)

  -- the stored position, whose bytes are 0 where it is absent
  abbrev sample : PositionSample
  sample = record { t_ms = u32_at s 146; pos = vec3_at s 150; vel = vec3_at s 162 }

  position_bytes :
      (f : ℕ) → cond (eqb f 0) (zeros s 146 28) (eqb f 1) ≡ true → finite_stored (cond (eqb f 1) (Some sample) None) ≡ true →
      le_option_position (cond (eqb f 1) (Some sample) None) ≡ f ∷ bytes_from s 146 28
  unfolding le_option_position le_flag
  position_bytes zero v h = absent_position ∙ (λ j. 0 ∷ sym (zero_bytes s 146 28 v) j)
  position_bytes (suc zero) v h =
      let p = first (finite_vec (vec3_at s 150)) (finite_vec (vec3_at s 162)) h in
      let w = second (finite_vec (vec3_at s 150)) (finite_vec (vec3_at s 162)) h in
      λ j. 1 ∷ u32_bytes s 146 b j ++ (vec3_bytes 150 p j ++ vec3_bytes 162 w j)
  position_bytes (suc (suc n)) v h =
      let p = ne_eqb (suc (suc n)) 0 (λ e. omega arith) in
      let r = ne_eqb (suc (suc n)) 1 (λ e. omega arith) in
      absurd (false≢true (simp (p, r) at v))

  -- the bytes of what is raised
  kept_bytes : (keeps : Bool) → raised_valid keeps s ≡ true → le_kept keeps (raised_read keeps s) ≡ bytes_from s 186 (cond keeps 8 0)
  unfolding raised_valid raised_read raised_at le_raised
  kept_bytes false v = refl
  kept_bytes true v =
      let f0 = each (byte_below s 186 2) (raised_tests s) v in
      let f1 = f0.1 in
      let f2 = f1.1 in
      let f3 = f2.1 in
      let f4 = f3.1 in
      let f5 = f4.1 in
      let f6 = f5.1 in
      let f7 = f6.1 in
      λ i.
      flag_bytes s 186 f0.0 i
      ++ (flag_bytes s 187 f1.0 i
      ++ (flag_bytes s 188 f2.0 i
      ++ (flag_bytes s 189 f3.0 i
      ++ (flag_bytes s 190 f4.0 i
      ++ (flag_bytes s 191 f5.0 i
      ++ (flag_bytes s 192 f6.0 i
      ++ flag_bytes s 193 f7.0 i))))))

  module _ (keeps : Bool) (h : frame_fault (state_kind keeps) (state_length keeps) s ≡ 0) (v : state_valid s ≡ true) (w : raised_valid keeps s ≡ true) where
    abbrev read : Supervisor
    read = state_at s (raised_read keeps s)

    cells : state_frame keeps read ≡ bytes_from s 0 186 ++ bytes_from s 186 (cond keeps 8 0)
    unfolding state_valid valid_option state_at triggers_at arbiter_at timer_at option_position_at flag_at u8_at state_frame le_triggers le_links le_fence le_battery le_input le_timer le_arbiter le8
    cells =
        let f = each (timers_valid s 24) (state_tests s) v in
        let timer : (k : ℕ) → k < 24 → le_option_u32 (option_u32_at s (6 + 5 * k)) ≡ bytes_from s (6 + 5 * k) 5 = λ k l. option_u32_bytes s (6 + 5 * k) b (timer_valid s 24 k l f.0) in
        let t0 = f.1 in
        let t1 = t0.1 in
        let t2 = t1.1 in
        let t3 = t2.1 in
        let t4 = t3.1 in
        let t5 = t4.1 in
        let t6 = t5.1 in
        let t7 = t6.1 in
        let t8 = t7.1 in
        let t9 = t8.1 in
        let t10 = t9.1 in
        let t11 = t10.1 in
        let t12 = t11.1 in
        let t13 = t12.1 in
        let position = position_bytes (u8_at s 145) t9.0 t10.0 in
        λ i.
        head_bytes (state_kind keeps) (state_length keeps) s b h i ++ (
        ((flag_bytes s 4 t0.0 i ++ (flag_bytes s 5 t1.0 i ++ (timer 0 (lit< tt) i ++ (timer 1 (lit< tt) i ++ (timer 2 (lit< tt) i ++ (timer 3 (lit< tt) i ++ (timer 4 (lit< tt) i ++ (timer 5 (lit< tt) i ++ (timer 6 (lit< tt) i ++ (timer 7 (lit< tt) i)))))))))) ++ (
        (timer 8 (lit< tt) i ++ (timer 9 (lit< tt) i ++ (timer 10 (lit< tt) i ++ (timer 11 (lit< tt) i ++ (timer 12 (lit< tt) i ++ (timer 13 (lit< tt) i)))))) ++ (
        (timer 14 (lit< tt) i ++ (timer 15 (lit< tt) i ++ (timer 16 (lit< tt) i ++ (timer 17 (lit< tt) i ++ (timer 18 (lit< tt) i ++ (timer 19 (lit< tt) i ++ (timer 20 (lit< tt) i ++ (timer 21 (lit< tt) i ++ (timer 22 (lit< tt) i))))))))) ++ (
        (timer 23 (lit< tt) i ++ (flag_bytes s 126 t2.0 i ++ (option_u32_bytes s 127 b t3.0 i ++ (bytes_from s 132 1)))))))) ++ (
        (action_bytes s 133 t5.0 i ++ (reason_bytes s 134 t6.0 i ++ option_u32_bytes s 135 b t7.0 i)) ++ (
        option_u32_bytes s 140 b t8.0 i ++ (position i ++ (bytes_from s 174 1 ++ (
        option_u32_bytes s 175 b t11.0 i ++ (u32_bytes s 180 b i ++ (bytes_from s 184 1 ++ (flag_bytes s 185 t13.0 i ++ kept_bytes keeps w i)))))))))

    state_bytes_lem : state_frame keeps read ≡ s
    state_bytes_lem = cells ∙ both_parts s keeps ∙ whole 0 (186 + cond keeps 8 0) s ((head_says (state_kind keeps) (state_length keeps) s h).1.1 ∙ both_sizes keeps)

  word : (i : ℕ) → unwrap_or (option_u32_at s i) 0 < 2 ^ 32
  unfolding option_u32_at
  word i = at (flag_at s i)
    where
      at : (f : Bool) → unwrap_or (cond f (Some (u32_at s (i + 1))) None) 0 < 2 ^ 32
      at true = u32_lt s (i + 1) b
      at false = lit< tt

  stored_within : Within (position_cells (option_position_at s 145))
  unfolding option_position_at vec3_at
  stored_within = at (flag_at s 145)
    where
      at : (f : Bool) → Within (position_cells (cond f (Some (record { t_ms = u32_at s 146; pos = vec3_at s 150; vel = vec3_at s 162 })) None))
      at true = (u32_lt s 146 b, (f32_fits s 150, (f32_fits s 154, (f32_fits s 158, (f32_fits s 162, (f32_fits s 166, (f32_fits s 170, tt)))))))
      at false = let z = of_bits-fits binary32 0 in (lit< tt, (z, (z, (z, (z, (z, (z, tt)))))))

  at_typed : (r : Raised) → Typed (state_at s r)
  unfolding state_at triggers_at arbiter_at timer_at
  at_typed r =
      record {
        timers = (word 6, (word 11, (word 16, (word 21, (word 26, (word 31, (word 36, (word 41, (word 46, (word 51, (word 56, (word 61, (word 66, (word 71, (word 76, (word 81, (word 86, (word 91, (word 96, (word 101, (word 106, (word 111, (word 116, (word 121, (word 127, tt)))))))))))))))))))))))));
        recovery = word 135;
        hold = word 140;
        stored = stored_within;
        last = word 175;
        epoch = u32_lt s 180 b;
      }

at_rules : (s : List ℕ) (raised : Raised) → state_valid s ≡ true → Rules (state_at s raised)
unfolding state_valid byte_below state_at triggers_at
at_rules s raised v =
    let t0 = (each (timers_valid s 24) (state_tests s) v).1 in
    let t4 = t0.1.1.1.1 in
    let t10 = t4.1.1.1.1.1.1 in
    let t12 = t10.1.1 in
    let stage = ltb-true (u8_at s 132) 4 t4.0 in
    let streak = ltb-true (u8_at s 184) 3 t12.0 in
    record { stage = omega arith; streak = omega arith; stored = t10.0 }

-- what is read of a frame is what one can hold
at_fits : (keeps : Bool) (s : List ℕ) → RaisedFits keeps (state_at s (raised_read keeps s))
unfolding raised_read state_at triggers_at
at_fits true s = refl
at_fits false s = refl

module _ (keeps : Bool) (s : List ℕ) (x : Supervisor) (e : read_state keeps s ≡ Ok x) where
  accepts : (check_frame (state_kind keeps) (state_length keeps) s ≡ Ok tt) × ((state_valid s && raised_valid keeps s ≡ true) × (state_at s (raised_read keeps s) ≡ x))
  unfolding read_state
  accepts = accepted (check_frame (state_kind keeps) (state_length keeps) s) (state_valid s && raised_valid keeps s) (state_at s (raised_read keeps s)) x e

  is_valid : state_valid s ≡ true
  is_valid = first (state_valid s) (raised_valid keeps s) accepts.1.0

  -- bytes, value, bytes: the very bytes
  pub bytes_back : Bytes s → state_frame keeps x ≡ s
  bytes_back b =
      sym (ap (state_frame keeps) accepts.1.1)
      ∙ state_bytes_lem s b keeps (ap frame_number accepts.0) is_valid (second (state_valid s) (raised_valid keeps s) accepts.1.0)

  -- what was read obeys the frame's rules, is within its types and is what it can hold, so it is written and read again as the very same
  pub read_rules : Rules x
  read_rules = subst Rules accepts.1.1 (at_rules s (raised_read keeps s) is_valid)

  pub read_typed : Bytes s → Typed x
  read_typed b = subst Typed accepts.1.1 (at_typed s b (raised_read keeps s))

  pub read_fits : RaisedFits keeps x
  read_fits = subst (RaisedFits keeps) accepts.1.1 (at_fits keeps s)
