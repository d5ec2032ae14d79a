-- The runs, computed: each meets all that is asked but one thing, and a byte of the latest outputs differs. Assumes nothing.
use Rattle.wire.specs.declared.FrameError.{FrameError}
use Rattle.std.specs.Prelude.{Option, Some, None, Result, Ok, Err}
use Prim.Native.Nat.{ℕ, ◌+◌, ◌-◌, ◌^◌, ◌<◌}
use mathlib.Core.Bool.{Bool, true, false, ◌&&◌, ◌||◌}
use mathlib.Core.List.{List, [], ◌∷◌, map}
use mathlib.Core.Logic.{inl, inr}
use mathlib.Core.Path.{◌≡◌, refl, ap, sym, ◌∙◌}
use borrow.Author.Tests.{leb-true, ltb-true, eqb-false}
use lib.Dec.{eqb, leb, ltb, lit<}
use lib.Ieee.{add, sub, mul, div, neg, lt, le, of_bits, to_bits, of_int, round, is_nan}
use lib.ListN.{get_or}
use Rattle.float32.specs.Libm.{is_finite, fabs, is_negative, fmax}
use Rattle.float32.specs.Sqrt.{square_root}
use Rattle.types.specs.ActiveSet.{set_request, higher_request, requested_action}
use Rattle.types.specs.Vec3.{alt_m, horizontal_dist_home}
use Rattle.time.specs.Time.{wrapping_sub, age, fresh, hold_met}
use Rattle.corners.specs.Acceptance.{corner_fault, same_point, flat_turn, cross2, mixed_turns, area_term, polygon_area, polygon_tests}
use Rattle.geometry.specs.Polygon.{polygon_new, geofence_new}
use Rattle.geometry.specs.Distance.{side_length, edge_signed_distance_by, signed_distance, nearest, nearest_by, contains}
use Rattle.config.specs.Config.{bad_cell_count, bad_capacity, non_finite_param, non_positive_speed, negative_power, bad_threshold_order, outside_duration, duration_out_of_range, rtl_alt_outside_fence, check_config, validate_config}
use Rattle.config.specs.Default.{default_config}
use Rattle.energy.specs.Energy.{rtl_wh, land_wh, rtl_energy_at, rtl_energy}
use Rattle.validate.specs.Bounds.{within_position, within_velocity, validate_position_sample, validate_gps, validate_percent, validate_telemetry}
use Rattle.validate.specs.Fresh.{fresh_battery_percent, fresh_remaining_wh, fresh_voltage}
use Rattle.validate.specs.Glitch.{distance_between, within_jump, accept_sample, apply_glitch_filter}
use Rattle.triggers.specs.Families.{invalid_input, stage_request, gcs_stage, gcs_clearing, gcs_link, rc_link, gps, ekf, fence_approach, fence_breach, altitude_max, altitude_min, fence as fence_family, stale_battery, battery_warn, battery_low, battery_critical, battery, energy_marginal, energy}
use Rattle.timers.specs.Timer.{held_set, hold_pair, raised_by}
use Rattle.triggers.specs.Update.{fresh_triggers, raised_of, families, link_requests, fence_requests, battery_requests, requests, next_triggers, update}
use Rattle.arbiter.specs.Arbiter.{recover, apply_persistence, apply_feasibility, arbitrate}
use Rattle.disarm.specs.Disarm.{gate_open, hold_from, evaluate}
use Rattle.clock.specs.Clock.{clock_fault, sound_clock, clock_step}
use Rattle.supervisor.specs.Step.{sense, decision_of, flown, step}
use Rattle.wire.specs.Fields.{u8_at, number_at, u16_at, u32_at, f32_at, flag_at, byte_below, le_bytes, le8, le16, le32, le_f32, le_flag}
use Rattle.wire.specs.Frame.{frame_head, frame_written, all_true, check_frame, check_room}
use Rattle.options.specs.Enums.{action_at, reason_at, le_action, le_reason}
use Rattle.options.specs.Options.{zeros, valid_option, option_u8_at, option_u32_at, le_option_u32, option_f32_at, le_option_f32}
use Rattle.options.specs.Position.{vec3_at, le_vec3, option_position_at, le_option_position}
use Rattle.frame_config.specs.ConfigFrame.{keeps_raised, config_at, check_config_frame, read_config, freshness_cells, link_cells, fence_cells, battery_cells, energy_cells, flight_cells, config_cells, config_frame}
use Rattle.frame_fence.specs.FenceFrame.{point_at, corners_at, corner_array, asks_once_round, check_fence, corners_sent, read_fence, fence_rules, fence_of, corner_cells, fence_cells as sent_cells, fence_frame}
use Rattle.frame_state.specs.StateFrame.{raised_read, raised_valid, timer_at, triggers_at, arbiter_at, state_at, timers_valid, state_valid, read_state, le_timer, le_links, le_fence, le_battery, le_input, le_triggers, le_arbiter, state_frame}
use Rattle.frame_telemetry.specs.Readings.{fix_at, landed_at, option_gps_at, stamped_f32_at, stamped_bool_at, stamped_landed_at}
use Rattle.frame_telemetry.specs.TelemetryFrame.{telemetry_at, telemetry_tests, telemetry_valid, read_telemetry, battery_cells as charge_cells, status_cells, telemetry_cells, telemetry_frame}
use Rattle.frame_decision.specs.Slots.{le_slot, le_slots}
use Rattle.frame_decision.specs.DecisionFrame.{le_estimate, decision_frame}
use Rattle.flight.specs.Flight.{accept_flight, blank_flight, read_flight}
use Rattle.calls.specs.Form.{form_of, base, telemetry_in}
use Rattle.calls.specs.Entry.{step_any}
use Rattle.corners.specs.OnceRound.{north_sign, sign_changes}
use Rattle.areas.specs.Held.{area_fault}
use Rattle.areas.specs.Clearance.{clearance}
use Rattle.frame_areas.specs.AreaFrame.{corners_sent as area_corners, area_rules, distance_at}
use Rattle.frame_areas.specs.AreasFrame.{bodies, held_in, bodies_fit, counts_fit, areas_frame_fault, areas_fault, bodies_of, clearance_at}
use Rattle.types.specs.declared.Action.{Action}
use Rattle.types.specs.declared.Telemetry.{Telemetry}
use Rattle.supervisor.specs.declared.Supervisor.{Supervisor}
use Rattle.wire.proofs.Whole.{first, second, Each, each}
use Rattle.instants.specs.Retimed.{TimerName, gcs_clear, rc_clear, gps_deg_set, gps_deg_clear, gps_lost_set, gps_lost_clear, ekf_set, ekf_clear, breach_set, breach_clear, alt_max_set, alt_max_clear, alt_min_set, alt_min_clear, stale_clear, warn_set, warn_clear, low_set, low_clear, crit_set, marg_set, marg_clear, infeas_set, invalid_clear, rc_set, timer_of, supervisor_at, triggers_at as retimed_triggers, telemetry_at as retimed_telemetry}
use Rattle.instants.specs.Own.{position_stamp, gps_stamp, value_stamp, flag_stamp, landed_stamp, instants_of, stamps_of}
use Rattle.instants.specs.Listed.{timer_place, listed, unlisted, stamps_listed, stamps_unlisted}
use Rattle.frame_wide.specs.Resized.{instants_at, narrowed, widened}
use Rattle.frame_wide.specs.WideState.{state_gaps, state_on, wide_instants, read_wide_state, wide_state_frame}
use Rattle.frame_wide.specs.WideTelemetry.{telemetry_gaps, telemetry_on, wide_stamps, read_wide_telemetry, wide_telemetry_frame}
use Rattle.carry.specs.Carry.{have_ages, carried}
use Rattle.calls.specs.Widen.{widen_call}
use Rattle.run.specs.Run.{shown_action}
use Rattle.run.specs.Instances.{config, fence, in_flight, blind}
use Rattle.run.proofs.Instances.{below, tested}
use Rattle.both_clocks.specs.Claim.{low_stamps, without_upper, Recent, ReadRecent, HeldRecent, HeldIn, Pair, fed_wide, narrow_bytes, wide_bytes, on_narrow, on_wide, narrow_outputs, wide_outputs, PairMeets, Meets, ClaimUnder}
use Rattle.both_clocks.specs.Instances.{Unless, HeldBut, NeededClaim, holding, no_gps, latest, pair_of, timer_state, timer_run, recovery_state, recovery_run, gate_state, gate_run, stored_state, stored_run, last_state, last_run, frame_of, slice, called, met_state, met_t, met_run, MetInstance}
use Rattle.both_clocks.proofs.Claim.{both_clocks_claim}

-- ---- what is asked, by tests

recent_test : ℕ → Option ℕ → Bool
recent_test now None = true
recent_test now (Some x) = leb x now && ltb now (x + 2 ^ 31)

recent : (now : ℕ) (o : Option ℕ) → recent_test now o ≡ true → Recent now o
unfolding recent_test
recent now None e = tt
recent now (Some x) e = (leb-true x now (first (leb x now) (ltb now (x + 2 ^ 31)) e), ltb-true now (x + 2 ^ 31) (second (leb x now) (ltb now (x + 2 ^ 31)) e))

unless : (b : Bool) (now : ℕ) (o : Option ℕ) → (b || recent_test now o) ≡ true → Unless b (Recent now o)
unless true now o e = tt
unless false now o e = recent now o e

module _ (k now : ℕ) (x : Supervisor) where
  abbrev timer_test : TimerName → Bool
  timer_test n = eqb k (timer_place n) || recent_test now (timer_of x.triggers n).since_ms

abbrev held_tests : ℕ → ℕ → Supervisor → List Bool
held_tests k now x =
    timer_test k now x rc_clear ∷
    timer_test k now x gps_deg_set ∷
    timer_test k now x gps_deg_clear ∷
    timer_test k now x gps_lost_set ∷
    timer_test k now x gps_lost_clear ∷
    timer_test k now x ekf_set ∷
    timer_test k now x ekf_clear ∷
    timer_test k now x breach_set ∷
    timer_test k now x breach_clear ∷
    timer_test k now x alt_max_set ∷
    timer_test k now x alt_max_clear ∷
    timer_test k now x alt_min_set ∷
    timer_test k now x alt_min_clear ∷
    timer_test k now x stale_clear ∷
    timer_test k now x warn_set ∷
    timer_test k now x warn_clear ∷
    timer_test k now x low_set ∷
    timer_test k now x low_clear ∷
    timer_test k now x crit_set ∷
    timer_test k now x marg_set ∷
    timer_test k now x marg_clear ∷
    timer_test k now x infeas_set ∷
    timer_test k now x invalid_clear ∷
    timer_test k now x rc_set ∷
    (eqb k 25 || recent_test now x.arbiter.recovery_since_ms) ∷
    (eqb k 26 || recent_test now x.disarm.hold_since_ms) ∷
    (eqb k 27 || recent_test now (position_stamp x.glitch.last_accepted)) ∷
    (eqb k 28 || recent_test now x.last_now) ∷
    []

abbrev held_test : ℕ → ℕ → Supervisor → Bool
held_test k now x = all_true (timer_test k now x gcs_clear) (held_tests k now x)

all_held : (k now : ℕ) (x : Supervisor) → held_test k now x ≡ true → (timer_test k now x gcs_clear ≡ true) × Each (held_tests k now x)
all_held k now x e = each (timer_test k now x gcs_clear) (held_tests k now x) e

timer_held : (k now : ℕ) (x : Supervisor) → held_test k now x ≡ true → (n : TimerName) → timer_test k now x n ≡ true
timer_held k now x e gcs_clear = (all_held k now x e).0
timer_held k now x e rc_clear = (all_held k now x e).1.0
timer_held k now x e gps_deg_set = (all_held k now x e).1.1.0
timer_held k now x e gps_deg_clear = (all_held k now x e).1.1.1.0
timer_held k now x e gps_lost_set = (all_held k now x e).1.1.1.1.0
timer_held k now x e gps_lost_clear = (all_held k now x e).1.1.1.1.1.0
timer_held k now x e ekf_set = (all_held k now x e).1.1.1.1.1.1.0
timer_held k now x e ekf_clear = (all_held k now x e).1.1.1.1.1.1.1.0
timer_held k now x e breach_set = (all_held k now x e).1.1.1.1.1.1.1.1.0
timer_held k now x e breach_clear = (all_held k now x e).1.1.1.1.1.1.1.1.1.0
timer_held k now x e alt_max_set = (all_held k now x e).1.1.1.1.1.1.1.1.1.1.0
timer_held k now x e alt_max_clear = (all_held k now x e).1.1.1.1.1.1.1.1.1.1.1.0
timer_held k now x e alt_min_set = (all_held k now x e).1.1.1.1.1.1.1.1.1.1.1.1.0
timer_held k now x e alt_min_clear = (all_held k now x e).1.1.1.1.1.1.1.1.1.1.1.1.1.0
timer_held k now x e stale_clear = (all_held k now x e).1.1.1.1.1.1.1.1.1.1.1.1.1.1.0
timer_held k now x e warn_set = (all_held k now x e).1.1.1.1.1.1.1.1.1.1.1.1.1.1.1.0
timer_held k now x e warn_clear = (all_held k now x e).1.1.1.1.1.1.1.1.1.1.1.1.1.1.1.1.0
timer_held k now x e low_set = (all_held k now x e).1.1.1.1.1.1.1.1.1.1.1.1.1.1.1.1.1.0
timer_held k now x e low_clear = (all_held k now x e).1.1.1.1.1.1.1.1.1.1.1.1.1.1.1.1.1.1.0
timer_held k now x e crit_set = (all_held k now x e).1.1.1.1.1.1.1.1.1.1.1.1.1.1.1.1.1.1.1.0
timer_held k now x e marg_set = (all_held k now x e).1.1.1.1.1.1.1.1.1.1.1.1.1.1.1.1.1.1.1.1.0
timer_held k now x e marg_clear = (all_held k now x e).1.1.1.1.1.1.1.1.1.1.1.1.1.1.1.1.1.1.1.1.1.0
timer_held k now x e infeas_set = (all_held k now x e).1.1.1.1.1.1.1.1.1.1.1.1.1.1.1.1.1.1.1.1.1.1.0
timer_held k now x e invalid_clear = (all_held k now x e).1.1.1.1.1.1.1.1.1.1.1.1.1.1.1.1.1.1.1.1.1.1.1.0
timer_held k now x e rc_set = (all_held k now x e).1.1.1.1.1.1.1.1.1.1.1.1.1.1.1.1.1.1.1.1.1.1.1.1.0

held_but : (k now : ℕ) (x : Supervisor) → held_test k now x ≡ true → HeldBut k now x
held_but k now x e =
    let r = (all_held k now x e).1.1.1.1.1.1.1.1.1.1.1.1.1.1.1.1.1.1.1.1.1.1.1.1.1 in
    record {
      timer = λ n. unless (eqb k (timer_place n)) now (timer_of x.triggers n).since_ms (timer_held k now x e n);
      recovery = unless (eqb k 25) now x.arbiter.recovery_since_ms r.0;
      gate = unless (eqb k 26) now x.disarm.hold_since_ms r.1.0;
      stored = unless (eqb k 27) now (position_stamp x.glitch.last_accepted) r.1.1.0;
      last = unless (eqb k 28) now x.last_now r.1.1.1.0;
    }

held_in_test : ℕ → ℕ → Result Supervisor FrameError → Bool
held_in_test k now (Err d) = true
held_in_test k now (Ok x) = held_test k now x

held_in_lem : (k now : ℕ) (r : Result Supervisor FrameError) → held_in_test k now r ≡ true → HeldIn (HeldBut k) now r
unfolding held_in_test
held_in_lem k now (Err d) e = tt
held_in_lem k now (Ok x) e = held_but k now x e

abbrev read_tests : Telemetry → List Bool
read_tests t =
    recent_test t.now_ms (gps_stamp t.gps) ∷
    recent_test t.now_ms (value_stamp t.battery.voltage_v) ∷
    recent_test t.now_ms (value_stamp t.battery.percent) ∷
    recent_test t.now_ms (value_stamp t.battery.remaining_wh) ∷
    recent_test t.now_ms t.gcs_heartbeat_ms ∷
    recent_test t.now_ms (flag_stamp t.armed) ∷
    recent_test t.now_ms (landed_stamp t.landed) ∷
    recent_test t.now_ms (flag_stamp t.rc_ok) ∷
    recent_test t.now_ms (flag_stamp t.ekf_ok) ∷
    []

abbrev read_test : Telemetry → Bool
read_test t = all_true (recent_test t.now_ms (position_stamp t.position)) (read_tests t)

read_recent : (t : Telemetry) → read_test t ≡ true → ReadRecent t
read_recent t e =
    let now = t.now_ms in
    let a = each (recent_test now (position_stamp t.position)) (read_tests t) e in
    record {
      position = recent now (position_stamp t.position) a.0;
      gps = recent now (gps_stamp t.gps) a.1.0;
      voltage = recent now (value_stamp t.battery.voltage_v) a.1.1.0;
      percent = recent now (value_stamp t.battery.percent) a.1.1.1.0;
      remaining = recent now (value_stamp t.battery.remaining_wh) a.1.1.1.1.0;
      heartbeat = recent now t.gcs_heartbeat_ms a.1.1.1.1.1.0;
      armed = recent now (flag_stamp t.armed) a.1.1.1.1.1.1.0;
      landed = recent now (landed_stamp t.landed) a.1.1.1.1.1.1.1.0;
      rc = recent now (flag_stamp t.rc_ok) a.1.1.1.1.1.1.1.1.0;
      ekf = recent now (flag_stamp t.ekf_ok) a.1.1.1.1.1.1.1.1.1.0;
    }

-- ---- what is computed of a run, k the place that is left out

module _ (k : ℕ) (s : Supervisor) (T : ℕ) where
  abbrev old : List ℕ
  old = frame_of s

  record PairFacts (t : Telemetry) (earlier : List Pair) : Type 0 where
    narrow_below : below (pair_of t).narrow.telemetry ≡ true
    wide_below : below (pair_of t).wide.telemetry ≡ true
    declined : eqb (on_narrow old T slice (pair_of t) earlier).number 0 ≡ eqb (on_wide old T slice (pair_of t) earlier).number 0
    telemetry : telemetry_in (base false) (pair_of t).narrow.telemetry ≡ without_upper (fed_wide (pair_of t))
    read : read_test (fed_wide (pair_of t)) ≡ true
    held : held_in_test k (fed_wide (pair_of t)).now_ms (read_wide_state (wide_bytes old T slice earlier)) ≡ true

  -- under any condition that follows
  module _ (Held : ℕ → Supervisor → Type 0) (follows : (now : ℕ) (r : Result Supervisor FrameError) → HeldIn (HeldBut k) now r → HeldIn Held now r) where
    pair_meets : (t : Telemetry) (earlier : List Pair) → PairFacts t earlier → PairMeets Held old T slice (pair_of t) earlier
    pair_meets t earlier f =
        let now = (fed_wide (pair_of t)).now_ms in
        let image = read_wide_state (wide_bytes old T slice earlier) in
        record {
          output = refl;
          declined = f.declined;
          steps =
              inr
              (record {
                with_side = refl;
                flight = (refl, refl);
                areas = refl;
                narrow_is_bytes = tested (pair_of t).narrow.telemetry f.narrow_below;
                wide_is_bytes = tested (pair_of t).wide.telemetry f.wide_below;
                telemetry = f.telemetry;
                read = read_recent (fed_wide (pair_of t)) f.read;
                held = follows now image (held_in_lem k now image f.held);
              });
        }

  but_meets : (t : Telemetry) (earlier : List Pair) → PairFacts t earlier → PairMeets (HeldBut k) old T slice (pair_of t) earlier
  but_meets t earlier f = pair_meets (HeldBut k) (λ now r h. h) t earlier f

  -- a byte of the latest output
  abbrev byte_of : ℕ → List (List ℕ) → ℕ
  byte_of b l = get_or (get_or l 0 []) b 0

  record RunFacts (pairs : List Pair) (b x y : ℕ) : Type 0 where
    below_old : below old ≡ true
    zero : (widen_call old T slice).number ≡ 0
    narrow : byte_of b (narrow_outputs old T slice pairs) ≡ x
    wide : byte_of b (wide_outputs old T slice pairs) ≡ y
    differ : eqb x y ≡ false

  refuted : T < 2 ^ 64 → (pairs : List Pair) (b x y : ℕ) → RunFacts pairs b x y → Meets (HeldBut k) old T slice pairs → ClaimUnder (HeldBut k) → ⊥
  refuted h pairs b x y f m c =
      let e = (c old T slice (tested old f.below_old) h f.zero pairs m).decisions in
      eqb-false x y f.differ (sym f.narrow ∙ ap (byte_of b) e ∙ f.wide)

-- the run that meets all: place 29 is the epoch's, of which nothing is asked
abbrev one : Telemetry
one = in_flight (2 ^ 33 + 999) true

abbrev two : Telemetry
two = in_flight (2 ^ 33 + 1000) true

abbrev turned_away : Pair
turned_away = record { narrow = called []; wide = called [] }

record Met : Type 0 where
  bytes : below (frame_of met_state) ≡ true
  zero : (widen_call (frame_of met_state) met_t slice).number ≡ 0
  first_fed : PairFacts 29 met_state met_t one []
  narrow_away : (on_narrow (frame_of met_state) met_t slice turned_away (pair_of one ∷ [])).number ≡ 1
  wide_away : (on_wide (frame_of met_state) met_t slice turned_away (pair_of one ∷ [])).number ≡ 1
  second_fed : PairFacts 29 met_state met_t two (turned_away ∷ pair_of one ∷ [])
  narrow : map shown_action (narrow_outputs (frame_of met_state) met_t slice met_run) ≡ Action.Nominal ∷ Action.Nominal ∷ Action.Warn ∷ []
  wide : map shown_action (wide_outputs (frame_of met_state) met_t slice met_run) ≡ Action.Nominal ∷ Action.Nominal ∷ Action.Warn ∷ []

record Computed : Type 0 where
  timer : RunFacts 4 timer_state latest timer_run 4 0 4
  timer_fed : PairFacts 4 timer_state latest (no_gps (2 ^ 31)) []
  recovery : RunFacts 25 recovery_state latest recovery_run 4 1 0
  recovery_fed : PairFacts 25 recovery_state latest (in_flight (2 ^ 31) true) []
  gate : RunFacts 26 gate_state latest gate_run 94 0 1
  gate_fed : PairFacts 26 gate_state latest (no_gps (2 ^ 31)) []
  stored : RunFacts 27 stored_state latest stored_run 64 0 1
  stored_fed : PairFacts 27 stored_state latest (blind (2 ^ 32 - 2)) []
  stored_then : PairFacts 27 stored_state latest (in_flight (2 ^ 32) true) (pair_of (blind (2 ^ 32 - 2)) ∷ [])
  last : RunFacts 28 last_state 0 last_run 65 1 0
  last_fed : PairFacts 28 last_state 0 (blind (2 ^ 31)) []
  met : Met

computed : Computed
unfolding recent_test held_in_test clock_fault le_slot le_slots le_estimate le_option_f32 add sub mul div neg lt le of_bits to_bits of_int round is_nan config in_flight blind is_finite fabs is_negative fmax square_root set_request higher_request requested_action alt_m horizontal_dist_home wrapping_sub age fresh hold_met corner_fault same_point flat_turn cross2 mixed_turns area_term polygon_area polygon_tests polygon_new geofence_new side_length edge_signed_distance_by signed_distance nearest nearest_by contains bad_cell_count bad_capacity non_finite_param non_positive_speed negative_power bad_threshold_order outside_duration duration_out_of_range rtl_alt_outside_fence check_config validate_config default_config rtl_wh land_wh rtl_energy_at rtl_energy within_position within_velocity validate_position_sample validate_gps validate_percent validate_telemetry fresh_battery_percent fresh_remaining_wh fresh_voltage distance_between within_jump accept_sample apply_glitch_filter invalid_input stage_request gcs_stage gcs_clearing gcs_link rc_link gps ekf fence_approach fence_breach altitude_max altitude_min fence_family stale_battery battery_warn battery_low battery_critical battery energy_marginal energy held_set hold_pair raised_by raised_of fresh_triggers families link_requests fence_requests battery_requests requests next_triggers update recover apply_persistence apply_feasibility arbitrate gate_open hold_from evaluate sound_clock clock_step sense decision_of flown step u8_at number_at u16_at u32_at f32_at flag_at byte_below le_bytes le8 le16 le32 le_f32 le_flag frame_head check_frame frame_written action_at reason_at le_action le_reason zeros valid_option option_u8_at option_u32_at le_option_u32 option_f32_at vec3_at le_vec3 option_position_at le_option_position keeps_raised config_at check_config_frame read_config freshness_cells link_cells fence_cells battery_cells energy_cells flight_cells config_cells config_frame point_at corners_at corner_array asks_once_round check_fence corners_sent read_fence fence_rules fence_of corner_cells sent_cells fence_frame timer_at triggers_at arbiter_at state_at timers_valid state_valid raised_read raised_valid read_state le_timer le_links le_fence le_battery le_input le_triggers le_arbiter state_frame fix_at landed_at option_gps_at stamped_f32_at stamped_bool_at stamped_landed_at telemetry_at telemetry_tests telemetry_valid read_telemetry charge_cells status_cells telemetry_cells telemetry_frame decision_frame accept_flight blank_flight read_flight step_any form_of sign_changes north_sign area_fault area_corners area_rules distance_at bodies held_in bodies_fit counts_fit areas_frame_fault areas_fault bodies_of clearance clearance_at fence slice holding no_gps narrow_bytes wide_bytes narrow_outputs wide_outputs low_stamps stamps_of retimed_telemetry widen_call have_ages carried supervisor_at retimed_triggers wide_state_frame instants_of listed widened state_gaps read_wide_state state_on narrowed wide_instants unlisted instants_at wide_telemetry_frame stamps_listed telemetry_gaps read_wide_telemetry telemetry_on wide_stamps stamps_unlisted check_room
computed =
    record {
      timer = record { below_old = refl; zero = refl; narrow = refl; wide = refl; differ = refl };
      recovery = record { below_old = refl; zero = refl; narrow = refl; wide = refl; differ = refl };
      gate = record { below_old = refl; zero = refl; narrow = refl; wide = refl; differ = refl };
      stored = record { below_old = refl; zero = refl; narrow = refl; wide = refl; differ = refl };
      last = record { below_old = refl; zero = refl; narrow = refl; wide = refl; differ = refl };
      timer_fed = record { narrow_below = refl; wide_below = refl; declined = refl; telemetry = refl; read = refl; held = refl };
      recovery_fed = record { narrow_below = refl; wide_below = refl; declined = refl; telemetry = refl; read = refl; held = refl };
      gate_fed = record { narrow_below = refl; wide_below = refl; declined = refl; telemetry = refl; read = refl; held = refl };
      stored_fed = record { narrow_below = refl; wide_below = refl; declined = refl; telemetry = refl; read = refl; held = refl };
      stored_then = record { narrow_below = refl; wide_below = refl; declined = refl; telemetry = refl; read = refl; held = refl };
      last_fed = record { narrow_below = refl; wide_below = refl; declined = refl; telemetry = refl; read = refl; held = refl };
      met =
          record {
            bytes = refl;
            zero = refl;
            first_fed = record { narrow_below = refl; wide_below = refl; declined = refl; telemetry = refl; read = refl; held = refl };
            narrow_away = refl;
            wide_away = refl;
            second_fed = record { narrow_below = refl; wide_below = refl; declined = refl; telemetry = refl; read = refl; held = refl };
            narrow = refl;
            wide = refl;
          };
    }

pub needed_claim : NeededClaim
needed_claim =
    record {
      timer = refuted 4 timer_state latest (lit< tt) timer_run 4 0 4 computed.timer (but_meets 4 timer_state latest (no_gps (2 ^ 31)) [] computed.timer_fed, tt);
      recovery = refuted 25 recovery_state latest (lit< tt) recovery_run 4 1 0 computed.recovery (but_meets 25 recovery_state latest (in_flight (2 ^ 31) true) [] computed.recovery_fed, tt);
      gate = refuted 26 gate_state latest (lit< tt) gate_run 94 0 1 computed.gate (but_meets 26 gate_state latest (no_gps (2 ^ 31)) [] computed.gate_fed, tt);
      stored =
          refuted 27 stored_state latest (lit< tt) stored_run 64 0 1 computed.stored (
            but_meets 27 stored_state latest (in_flight (2 ^ 32) true) (pair_of (blind (2 ^ 32 - 2)) ∷ []) computed.stored_then,
            (but_meets 27 stored_state latest (blind (2 ^ 32 - 2)) [] computed.stored_fed, tt),
          );
      last = refuted 28 last_state 0 (lit< tt) last_run 65 1 0 computed.last (but_meets 28 last_state 0 (blind (2 ^ 31)) [] computed.last_fed, tt);
    }

-- ---- the run that meets all

whole_timer : (now : ℕ) (x : Supervisor) → HeldBut 29 now x → (n : TimerName) → Recent now (timer_of x.triggers n).since_ms
whole_timer now x h gcs_clear = h.timer gcs_clear
whole_timer now x h rc_clear = h.timer rc_clear
whole_timer now x h gps_deg_set = h.timer gps_deg_set
whole_timer now x h gps_deg_clear = h.timer gps_deg_clear
whole_timer now x h gps_lost_set = h.timer gps_lost_set
whole_timer now x h gps_lost_clear = h.timer gps_lost_clear
whole_timer now x h ekf_set = h.timer ekf_set
whole_timer now x h ekf_clear = h.timer ekf_clear
whole_timer now x h breach_set = h.timer breach_set
whole_timer now x h breach_clear = h.timer breach_clear
whole_timer now x h alt_max_set = h.timer alt_max_set
whole_timer now x h alt_max_clear = h.timer alt_max_clear
whole_timer now x h alt_min_set = h.timer alt_min_set
whole_timer now x h alt_min_clear = h.timer alt_min_clear
whole_timer now x h stale_clear = h.timer stale_clear
whole_timer now x h warn_set = h.timer warn_set
whole_timer now x h warn_clear = h.timer warn_clear
whole_timer now x h low_set = h.timer low_set
whole_timer now x h low_clear = h.timer low_clear
whole_timer now x h crit_set = h.timer crit_set
whole_timer now x h marg_set = h.timer marg_set
whole_timer now x h marg_clear = h.timer marg_clear
whole_timer now x h infeas_set = h.timer infeas_set
whole_timer now x h invalid_clear = h.timer invalid_clear
whole_timer now x h rc_set = h.timer rc_set

whole_held : (now : ℕ) (r : Result Supervisor FrameError) → HeldIn (HeldBut 29) now r → HeldIn HeldRecent now r
whole_held now (Err d) h = tt
whole_held now (Ok x) h = record { timer = whole_timer now x h; recovery = h.recovery; gate = h.gate; stored = h.stored; last = h.last }

met_meets : Meets HeldRecent (frame_of met_state) met_t slice met_run
met_meets =
    let away : PairMeets HeldRecent (frame_of met_state) met_t slice turned_away (pair_of one ∷ []) =
    record {
      output = refl;
      declined = ap (λ (n : ℕ). eqb n 0) (computed.met.narrow_away ∙ sym computed.met.wide_away);
      steps = inl (λ z. eqb-false 1 0 refl (sym computed.met.wide_away ∙ z));
    } in
    (pair_meets 29 met_state met_t HeldRecent whole_held two (turned_away ∷ pair_of one ∷ []) computed.met.second_fed, (away, (pair_meets 29 met_state met_t HeldRecent whole_held one [] computed.met.first_fed, tt)))

pub met_instance : MetInstance
met_instance =
    let bytes = tested (frame_of met_state) computed.met.bytes in
    record {
      bytes = bytes;
      carried_over = computed.met.zero;
      meets = met_meets;
      narrow = computed.met.narrow;
      wide = computed.met.wide;
      both = both_clocks_claim (frame_of met_state) met_t slice bytes (lit< tt) computed.met.zero met_run met_meets;
    }
