-- A call on frames of kinds 10 and 9 is the 32-bit call on their marks, with each instant put back. Assumes nothing.
use Rattle.wire.proofs.Head.{number_zero}
use native.Mathlib.Omega.{arith}
use Rattle.std.specs.Prelude.{Option, Some, None, Float, is_some, Result, Ok, Err, ⊤}
use Prim.Native.Nat.{ℕ, zero, suc, ◌^◌, ◌<◌}
use mathlib.Core.Bool.{Bool, true, false, ◌&&◌, cond}
use mathlib.Core.List.{List, [], ◌∷◌, ◌++◌}
use mathlib.Core.Path.{◌≡◌, refl, ap, sym, ◌∙◌}
use lib.Dec.{eqb, ltb, lit<}
use lib.ListN.{length, drop, get_or, replicate}
use Rattle.types.specs.declared.Telemetry.{Telemetry}
use Rattle.types.specs.declared.Decision.{Decision}
use Rattle.time.specs.Time.{plain}
use Rattle.config.specs.declared.Config.{Config}
use Rattle.triggers.specs.Families.{gcs_age, is_present}
use Rattle.supervisor.specs.declared.Supervisor.{Supervisor}
use Rattle.supervisor.specs.declared.Stepped.{Stepped}
use Rattle.supervisor.specs.Settings.{Site, base_settings, fence_site_by, with_areas, fed_at}
use Rattle.supervisor.specs.Step.{step}
use Rattle.wire.specs.Fields.{u8_at, flag_at, u32_at, le_flag, le8, le16, le32, le_bytes, le_f32}
use Rattle.wire.specs.declared.FrameError.{FrameError}
use Rattle.wire.specs.Frame.{frame_error_number, check_frame, frame_fault, frame_head}
use Rattle.std.specs.Result.{result_and}
use Rattle.options.specs.Options.{option_u32_at, le_option_u32, le_option_f32}
use Rattle.options.specs.Position.{le_vec3, le_option_position}
use Rattle.options.specs.Enums.{le_action, le_reason}
use Rattle.frame_state.specs.StateFrame.{read_state, le_timer, le_links, le_fence, le_battery, le_input, le_triggers, le_arbiter, state_frame}
use Rattle.frame_decision.specs.DecisionFrame.{le_estimate, decision_frame}
use Rattle.frame_decision.specs.Slots.{le_slot, le_slots}
use Rattle.frame_side.specs.SideFrame.{side_frame}
use Rattle.frame_telemetry.specs.TelemetryFrame.{telemetry_valid, read_telemetry}
use Rattle.frame_telemetry.specs.TelemetryFrame as narrow
use Rattle.flight.specs.declared.Flight.{Flight}
use Rattle.instants.specs.Retimed.{instead, Instants, Stamps, supervisor_at, telemetry_at, stepped_at, instants_after, third_fault}
use Rattle.instants.specs.Listed.{listed, stamps_listed}
use Rattle.marks.specs.Marks.{marked_by, marks_of, stamp_marks_of}
use Rattle.marks.specs.Rows.{Below}
use Rattle.marks.proofs.Rows.{instants_back, stamps_back, row_below}
use Rattle.alike.proofs.Rows.{rows_step}
use Rattle.frame_wide.specs.Resized.{widened}
use Rattle.frame_wide.specs.WideState.{state_gaps, state_on, wide_instants, with_instants, read_wide_state, wide_state_frame, instants_next}
use Rattle.frame_wide.specs.WideTelemetry.{telemetry_on, wide_stamps, with_stamps, read_wide_telemetry}
use Rattle.frame_wide_trips.specs.Claim.{Words}
use Rattle.frame_wide_trips.proofs.Claim.{state_laws, telemetry_laws}
use Rattle.calls.specs.Form.{base, wide}
use Rattle.calls.specs.Entry.{StepCall, declined, output_frame, output_size, succeeded, written, step_of, after_telemetry, after_state, from_state}
use Rattle.calls.specs.Marked.{marked_flight, has_distance, has_fault, has_third, widened_after, low_state, low_telemetry, heartbeat_age, marked_call, MarkedCallClaim}

-- ---- a refusal is not 0

error_zero : (e : FrameError) → eqb (frame_error_number e) 0 ≡ false
error_zero FrameError.Incomplete = refl
error_zero FrameError.WrongKind = refl
error_zero FrameError.WrongLength = refl
error_zero FrameError.OutOfRange = refl
error_zero FrameError.NoRoom = refl

-- ---- telemetry that is read

pub telemetry_is : (s : List ℕ) (t : Telemetry) → read_telemetry s ≡ Ok t → narrow.telemetry_at s ≡ t
unfolding read_telemetry
telemetry_is s t h = at (check_frame 3 104 s) (telemetry_valid s) h
  where
    at : (a : Result ⊤ FrameError) (b : Bool) → result_and a (cond b (Ok (narrow.telemetry_at s)) (Err FrameError.OutOfRange)) ≡ Ok t → narrow.telemetry_at s ≡ t
    at (Ok tt) true e = cc
    at (Ok tt) false e = let z : ◌≡◌ {A = ℕ} 0 1 = cc in absurd (omega arith)
    at (Err x) b e = let z : ◌≡◌ {A = ℕ} 0 1 = cc in absurd (omega arith)

-- ---- an instant put in where there is one

instead_cond : (b : Bool) (h x : ℕ) → cond b (Some h) None ≡ instead h (cond b (Some x) None)
instead_cond true h x = refl
instead_cond false h x = refl

instead_twice : (h x : ℕ) (o : Option ℕ) → instead h (instead x o) ≡ instead h o
instead_twice h x None = refl
instead_twice h x (Some y) = refl

-- ---- a row of marks is 30 words, or 11

each_below : (bound : ℕ) → 0 < bound → (l : List ℕ) → Below bound l → (k : ℕ) → get_or l k 0 < bound
each_below bound z [] b k = z
each_below bound z (x ∷ l) b zero = b.0
each_below bound z (x ∷ l) b (suc k) = each_below bound z l b.1 k

-- ---- what a Decision's frame says

flag_is : (b : Bool) → b ≡ eqb (cond b 1 0) 1
flag_is true = refl
flag_is false = refl

present_is : (o : Option Float) → is_present o ≡ is_some o
present_is None = refl
present_is (Some x) = refl

has_distance_lem : (with_side : Bool) (d : Decision) (side : ℕ) (rest : List ℕ) → is_present d.fence_dist_m ≡ has_distance (output_frame with_side d side ++ rest)
unfolding flag_at u8_at side_frame decision_frame frame_head le16 le_bytes le_action le_reason le8 le_slots le_slot le_flag le_estimate le_f32 le32 le_option_f32
has_distance_lem false d side rest = present_is d.fence_dist_m ∙ flag_is (is_some d.fence_dist_m)
has_distance_lem true d side rest = present_is d.fence_dist_m ∙ flag_is (is_some d.fence_dist_m)

has_fault_lem : (with_side : Bool) (d : Decision) (side : ℕ) (rest : List ℕ) → d.clock_fault ≡ has_fault (output_frame with_side d side ++ rest)
unfolding flag_at u8_at side_frame decision_frame frame_head le16 le_bytes le_action le_reason le8 le_slots le_slot le_flag le_estimate le_f32 le32 le_option_f32
has_fault_lem false d side rest = flag_is d.clock_fault
has_fault_lem true d side rest = flag_is d.clock_fault

has_streak : (x : Supervisor) → x.backwards_streak ≡ u8_at (state_frame false x) 184
unfolding u8_at state_frame frame_head le_triggers le_links le_fence le_battery le_input le_timer le_arbiter le_action le_reason le_option_u32 le_option_position le_vec3 le_f32 le8 le16 le32 le_bytes le_flag
has_streak x = refl

module _ (with_side : Bool) (f : Flight) (areas state telemetry output : List ℕ) (ok_s : frame_fault 10 304 state ≡ 0) (ok_t : frame_fault 9 148 telemetry ≡ 0) where
  abbrev cfg : Config
  cfg = f.cfg

  abbrev i : Instants
  i = wide_instants state

  abbrev j : Stamps
  j = wide_stamps telemetry

  abbrev m : Instants
  m = marks_of cfg j.now i

  abbrev k : Stamps
  k = stamp_marks_of cfg j

  abbrev site : Site
  site = with_areas areas (fence_site_by f.fence f.lengths)

  abbrev y0 : Result Supervisor FrameError
  y0 = read_state false (state_on (replicate 30 0) state)

  abbrev u0 : Result Telemetry FrameError
  u0 = read_telemetry (telemetry_on (replicate 11 0) telemetry)

  abbrev N : List ℕ
  N = low_state with_side f areas state telemetry output

  abbrev R : List ℕ
  R = low_telemetry with_side f areas state telemetry output

  state_words : Words 30 (listed m)
  unfolding listed
  state_words = record { count = refl; each = each_below (2 ^ 32) (lit< tt) (listed m) (row_below cfg j.now i j).state }

  stamp_words : Words 11 (stamps_listed k)
  unfolding stamps_listed
  stamp_words = record { count = refl; each = each_below (2 ^ 32) (lit< tt) (stamps_listed k) (row_below cfg j.now i j).stamps }

  low_state_lem : read_state false N ≡ with_instants m y0
  low_state_lem = state_laws.marks_read (listed m) state state_words ok_s ∙ ap (λ (q : Instants). with_instants q y0) (instants_back m)

  low_telemetry_lem : read_telemetry R ≡ with_stamps k u0
  low_telemetry_lem = telemetry_laws.marks_read (stamps_listed k) telemetry stamp_words ok_t ∙ ap (λ (q : Stamps). with_stamps q u0) (stamps_back k)

  wide_state : read_wide_state state ≡ with_instants i y0
  unfolding read_wide_state
  wide_state = rw (number_zero (check_frame 10 304 state) ok_s) refl

  wide_telemetry : read_wide_telemetry telemetry ≡ with_stamps j u0
  unfolding read_wide_telemetry
  wide_telemetry = rw (number_zero (check_frame 9 148 telemetry) ok_t) refl

  finish : StepCall → StepCall
  finish c =
      record {
        number = c.number;
        state = cond (eqb c.number 0) (widened_after state c.state i j.now j.position c.output) state;
        output = c.output;
      }

  declined_both : (n : ℕ) → eqb n 0 ≡ false → (low : List ℕ) → declined n state output ≡ finish (declined n low output)
  unfolding finish
  declined_both n e low q = record { number = n; state = cond (sym e q) (widened_after state low i j.now j.position output) state; output = output }

  -- the heartbeat is there where the marked telemetry has one
  heartbeat : (u : Telemetry) → u0 ≡ Ok u → heartbeat_age with_side f areas state telemetry output ≡ gcs_age plain j.now (instead j.heartbeat u.gcs_heartbeat_ms)
  unfolding narrow.telemetry_at option_u32_at telemetry_at
  heartbeat u e =
      let read = telemetry_is R (telemetry_at k u) (low_telemetry_lem ∙ ap (with_stamps k) e) in
      let o = ap (λ (t : Telemetry). t.gcs_heartbeat_ms) read in
      ap (gcs_age plain j.now) (instead_cond (flag_at R 77) j.heartbeat (u32_at R 78) ∙ ap (instead j.heartbeat) o ∙ instead_twice j.heartbeat k.heartbeat u.gcs_heartbeat_ms)

  module _ (y : Supervisor) (is_y : y0 ≡ Ok y) (u : Telemetry) where
    abbrev age : ℕ
    age = gcs_age plain j.now (instead j.heartbeat u.gcs_heartbeat_ms)

    abbrev r : Stepped
    r = step (base_settings (marked_by cfg age)) (supervisor_at m y) (fed_at site (telemetry_at k u))

    abbrev after : Instants
    after = instants_after i j y r

    abbrev out : List ℕ
    out = output_frame with_side r.decision r.side ++ drop (output_size with_side) output

    flags_same : instants_next state i j.now j.position (is_present r.decision.fence_dist_m) r.decision.clock_fault (third_fault r) ≡ instants_next state i j.now j.position (has_distance out) (has_fault out) (has_third (state_frame false r.supervisor) out)
    flags_same =
        let d = r.decision in
        let rest = drop (output_size with_side) output in
        λ q. instants_next state i j.now j.position (has_distance_lem with_side d r.side rest q) (has_fault_lem with_side d r.side rest q) (has_fault_lem with_side d r.side rest q && eqb (has_streak r.supervisor q) 0)

    image : wide_state_frame (supervisor_at after r.supervisor) ≡ widened_after state (state_frame false r.supervisor) i j.now j.position out
    image =
        state_laws.written r.supervisor after
        ∙ ap (λ (x : Instants). frame_head 10 304 ++ widened state_gaps (listed x) (drop 4 (state_frame false r.supervisor))) (state_laws.next_is state i j y r (state_laws.flags_read (replicate 30 0) state y refl ok_s is_y) ∙ flags_same)

    room : (b : Bool) → cond b (declined 5 state output) (succeeded with_side wide (stepped_at after r) output) ≡ finish (cond b (declined 5 N output) (succeeded with_side (base false) r output))
    unfolding finish stepped_at
    room true = declined_both 5 refl N
    room false = λ q. record { number = 0; state = image q; output = out }

    both_step : written with_side wide (step_of wide f areas (supervisor_at i y) (telemetry_at j u)) state output ≡ finish (written with_side (base false) (step_of (base false) (marked_flight f age) areas (supervisor_at m y) (telemetry_at k u)) N output)
    both_step = ap (λ (next : Stepped). written with_side wide next state output) (rows_step cfg site y i u j) ∙ room (ltb (length output) (output_size with_side))

  abbrev mf : Flight
  mf = marked_flight f (heartbeat_age with_side f areas state telemetry output)

  from_telemetry : (y : Supervisor) → y0 ≡ Ok y → (b : Result Telemetry FrameError) → u0 ≡ b → after_telemetry with_side wide (with_stamps j b) f areas (supervisor_at i y) state output ≡ finish (after_telemetry with_side (base false) (with_stamps k b) mf areas (supervisor_at m y) N output)
  from_telemetry y is_y (Err x) e = declined_both (frame_error_number x) (error_zero x) N
  from_telemetry y is_y (Ok u) e =
      both_step y is_y u
      ∙ ap (λ (a : ℕ). finish (written with_side (base false) (step_of (base false) (marked_flight f a) areas (supervisor_at m y) (telemetry_at k u)) N output)) (sym (heartbeat u e))

  from_state_lem : (a : Result Supervisor FrameError) → y0 ≡ a → after_state with_side wide (with_instants i a) f areas state telemetry output ≡ finish (after_state with_side (base false) (with_instants m a) mf areas N R output)
  from_state_lem (Err x) e = declined_both (frame_error_number x) (error_zero x) N
  from_state_lem (Ok y) e =
      ap (λ (q : Result Telemetry FrameError). after_telemetry with_side wide q f areas (supervisor_at i y) state output) wide_telemetry
      ∙ from_telemetry y e u0 refl
      ∙ ap (λ (q : Result Telemetry FrameError). finish (after_telemetry with_side (base false) q mf areas (supervisor_at m y) N output)) (sym low_telemetry_lem)

  whole : from_state with_side wide f areas state telemetry output ≡ finish (from_state with_side (base false) mf areas N R output)
  whole =
      ap (λ (q : Result Supervisor FrameError). after_state with_side wide q f areas state telemetry output) wide_state
      ∙ from_state_lem y0 refl
      ∙ ap (λ (q : Result Supervisor FrameError). finish (after_state with_side (base false) q mf areas N R output)) (sym low_state_lem)

pub marked_call_lem : MarkedCallClaim
unfolding marked_call finish
marked_call_lem with_side f areas state telemetry output ok_s ok_t = whole with_side f areas state telemetry output ok_s ok_t
