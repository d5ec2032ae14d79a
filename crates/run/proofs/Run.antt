-- Demand 3 for every list of calls of the step entry, by the ladder's claim for every list of steps: the state image after the calls is the state after the steps,
-- and the record read off the bytes is the record of those steps. Assumes nothing.
use Rattle.types.specs.declared.UnknownNumber.{UnknownNumber}
use Rattle.std.specs.Result.{result_unwrap_or, result_map_both}
use Rattle.std.specs.Prelude.{Result, Ok, Err, ⊤}
use Prim.Native.Nat.{ℕ, ◌≤◌}
use mathlib.Core.Bool.{Bool, true, false, cond}
use mathlib.Core.List.{List, [], ◌∷◌, ◌++◌}
use mathlib.Core.Logic.{◌⊎◌, ⊎_elim, inl, inr}
use mathlib.Core.Path.{◌≡◌, refl, ap, sym, subst, ◌∙◌}
use lib.Dec.{eqb, ltb}
use lib.ListN.{length, take, drop}
use lib.Seq.{take-append-le, take-length}
use native.Mathlib.Omega.{arith}
use borrow.Author.Tests.{eqb-true, eqb-false, le-ltb}
use Rattle.types.specs.declared.Decision.{Decision}
use Rattle.types.proofs.Slots.{action_of_rank_lem}
use Rattle.geometry.specs.Distance.{ring_of, side_lengths}
use Rattle.geometry.proofs.Lengths.{by_side_lengths}
use Rattle.config.specs.declared.Config.{Config}
use Rattle.supervisor.specs.declared.Supervisor.{Supervisor}
use Rattle.supervisor.specs.declared.Stepped.{Stepped}
use Rattle.supervisor.specs.Settings.{Site, Fed, fence_site, fence_site_by, with_areas, fed_at}
use Rattle.supervisor.specs.Step.{fresh_supervisor, step}
use Rattle.supervisor.specs.Rules.{Rules}
use Rattle.supervisor.proofs.Rules.{fresh_rules, step_rules}
use Rattle.wire.specs.Fields.{Bytes, u8_at, le_bytes, le8, le16}
use Rattle.wire.specs.Frame.{frame_head, frame_written, check_room}
use Rattle.options.specs.Enums.{action_at, le_action}
use Rattle.frame_config.specs.ConfigFrame.{read_config}
use Rattle.frame_fence.specs.declared.FenceRead.{FenceRead}
use Rattle.frame_fence.specs.FenceFrame.{read_fence, fence_of}
use Rattle.corners.specs.declared.FenceError.{FenceError}
use Rattle.geometry.specs.declared.Geofence.{Geofence}
use Rattle.config.specs.declared.ConfigError.{ConfigError}
use Rattle.config.specs.Config.{validate_config}
use Rattle.types.specs.declared.Telemetry.{Telemetry}
use Rattle.wire.specs.declared.FrameError.{FrameError}
use Rattle.wire.proofs.Head.{no_error_zero}
use Rattle.calls.proofs.Accepted.{accepted}
use Rattle.frame_decision.specs.DecisionFrame.{decision_frame}
use Rattle.frame_side.specs.SideFrame.{side_frame}
use Rattle.flight.specs.declared.Flight.{Flight}
use Rattle.flight.specs.declared.FlightError.{FlightError}
use Rattle.flight.specs.Flight.{settings_checked, accept_flight, blank_flight, flight_or_blank, after_fence, after_config, read_flight}
use Rattle.flight.specs.Flight.{flight_of as flown_of}
use Rattle.calls.specs.Form.{Form, clock_of, state_size, read_state_of, state_frame_of, read_telemetry_of, telemetry_in, settings_of, form_of}
use Rattle.calls.specs.Entry.{flight_keeps, StepCall, declined, output_frame, output_size, succeeded, written, step_of, after_telemetry, after_state, from_state, after_flight, step_any, fresh_call}
use Rattle.calls.proofs.Declined.{declined_keeps}
use Rattle.ladder.specs.Record.{Line, state_after, record_of, steps_of}
use Rattle.ladder.specs.Claim.{ObeysAll}
use Rattle.ladder.proofs.Run.{ladder_claim}
use Rattle.run.specs.Run.{Call, Beside, on, shown_action, flight_of, fed_by, state_bytes, answered, Under, UnderConfig, fed, record_of_calls, RunClaim, SameFlight, OneFlightClaim}
use Rattle.run.proofs.Forms.{TypedOf, FitsOf, state_size_lem, value_back, fresh_typed_of, fresh_fits_of, step_typed_of, step_fits_of, due, telemetry_in_lem}
use Rattle.types.specs.declared.Action.{Action}

-- ---- an accepted flight steps with the fence's own distance

own_lengths : (cfg : Config) (r : Result Geofence FenceError) → (flight_or_blank (settings_checked cfg r)).lengths ≡ side_lengths (ring_of (flight_or_blank (settings_checked cfg r)).fence.poly)
unfolding blank_flight
own_lengths cfg (Err e) = refl
own_lengths cfg (Ok fence) = at (validate_config cfg fence)
  where
    at : (v : Result ⊤ ConfigError) → (flight_or_blank (result_map_both (λ _. flown_of cfg fence) FlightError.Config v)).lengths ≡ side_lengths (ring_of (flight_or_blank (result_map_both (λ _. flown_of cfg fence) FlightError.Config v)).fence.poly)
    at (Ok tt) = refl
    at (Err e) = refl

flight_lengths : (config fence : List ℕ) → (flight_or_blank (read_flight config fence)).lengths ≡ side_lengths (ring_of (flight_or_blank (read_flight config fence)).fence.poly)
unfolding read_flight accept_flight blank_flight
flight_lengths config fence = at (read_config config)
  where
    fenced : (cfg : Config) (q : Result FenceRead FrameError) → (flight_or_blank (after_fence cfg q)).lengths ≡ side_lengths (ring_of (flight_or_blank (after_fence cfg q)).fence.poly)
    fenced cfg (Err e) = refl
    fenced cfg (Ok read) = own_lengths cfg (fence_of read)

    at : (r : Result Config FrameError) → (flight_or_blank (after_config r fence)).lengths ≡ side_lengths (ring_of (flight_or_blank (after_config r fence)).fence.poly)
    at (Err e) = refl
    at (Ok cfg) = fenced cfg (read_fence fence)

flight_site : (config fence : List ℕ) → let f = flight_or_blank (read_flight config fence) in fence_site_by f.fence f.lengths ≡ fence_site f.fence
flight_site config fence =
    let g = (flight_or_blank (read_flight config fence)).fence in
    let l = ring_of g.poly in
    ap (fence_site_by g) (flight_lengths config fence)
    ∙ (λ i. record { near = λ p. by_side_lengths l p i; min_alt = g.min_alt_m; max_alt = g.max_alt_m })

-- ---- telemetry that is not refused is read, and an output that is not refused has room

pub telemetry_read_lem : (with_side : Bool) (form : Form) (f : Flight) (areas : List ℕ) (x : Supervisor) (s state output : List ℕ) → (after_telemetry with_side form (read_telemetry_of form s) f areas x state output).number ≡ 0 → read_telemetry_of form s ≡ Ok (telemetry_in form s)
telemetry_read_lem with_side form f areas x s state output h = at (read_telemetry_of form s) refl h
  where
    at : (r : Result Telemetry FrameError) → read_telemetry_of form s ≡ r → (after_telemetry with_side form r f areas x state output).number ≡ 0 → read_telemetry_of form s ≡ Ok (telemetry_in form s)
    at (Ok t) e h = e ∙ ap Ok (sym (telemetry_in_lem form s t e))
    at (Err d) e h = absurd (no_error_zero d h)

roomy : (with_side : Bool) (form : Form) (next : Stepped) (state output : List ℕ) → (written with_side form next state output).number ≡ 0 → written with_side form next state output ≡ succeeded with_side form next output
roomy with_side form next state output z = at (ltb (length output) (output_size with_side)) z
  where
    at : (b : Bool) → (cond b (declined 5 state output) (succeeded with_side form next output)).number ≡ 0 → cond b (declined 5 state output) (succeeded with_side form next output) ≡ succeeded with_side form next output
    at true e = absurd (eqb-false 5 0 refl e)
    at false e = refl

-- ---- the action that a Decision's frame shows

action_shown_lem : (with_side : Bool) (d : Decision) (side : ℕ) (rest : List ℕ) → shown_action (output_frame with_side d side ++ rest) ≡ d.action
unfolding action_at u8_at side_frame decision_frame frame_head le16 le_bytes le_action le8
action_shown_lem false d side rest = ap (λ (r : Result Action UnknownNumber). result_unwrap_or r Action.Nominal) (action_of_rank_lem d.action)
action_shown_lem true d side rest = ap (λ (r : Result Action UnknownNumber). result_unwrap_or r Action.Nominal) (action_of_rank_lem d.action)

-- ---- a run begins with a fresh state

begins : (form : Form) (slice : List ℕ) → state_size form ≤ length slice → ((fresh_call form slice).number ≡ 0) × (take (state_size form) (fresh_call form slice).state ≡ state_frame_of form fresh_supervisor)
unfolding fresh_call check_room frame_written
begins form slice h =
    let f = state_frame_of form fresh_supervisor in
    let s = state_size_lem form fresh_supervisor in
    let n = le-ltb (length slice) (length f) (omega arith) in
    (rw n, rw n (take-append-le (state_size form) f (drop (length f) slice) (omega arith) ∙ ap (λ (m : ℕ). take m f) (sym s) ∙ take-length f))

-- ---- a call that steps

-- from a state image that is a state's, in the form that is due
pub stepped : (form : Form) (c : Call) (x : Supervisor) (state : List ℕ) → form_of (flight_keeps (flight_of c)) state ≡ form → read_state_of form state ≡ Ok x → (on c state).number ≡ 0 → on c state ≡ succeeded c.with_side form (step (settings_of form (flight_of c).cfg) x (fed_by form c)) c.output
unfolding step_any
stepped form c x state is r z =
    let w = c.with_side in
    let telemetry = c.telemetry in
    let output = c.output in
    let f = flight_of c in
    let areas = c.areas in
    let next = step_of form f areas x (telemetry_in form telemetry) in
    let read = read_flight c.config c.fence in
    let a : after_flight w read areas state telemetry output ≡ after_telemetry w form (read_telemetry_of form telemetry) f areas x state output =
    (accepted w areas state telemetry output read z).call
    ∙ ap (λ (g : Form). from_state w g f areas state telemetry output) is
    ∙ ap (λ (q : Result Supervisor FrameError). after_state w form q f areas state telemetry output) r
    in
    let b = telemetry_read_lem w form f areas x telemetry state output (sym (ap (λ (q : StepCall). q.number) a) ∙ z) in
    let e : after_flight w read areas state telemetry output ≡ written w form next state output = a ∙ ap (λ (q : Result Telemetry FrameError). after_telemetry w form q f areas x state output) b in
    e
    ∙ roomy w form next state output (sym (ap (λ (q : StepCall). q.number) e) ∙ z)
    ∙ ap (λ (site : Site). succeeded w form (step (settings_of form f.cfg) x (fed_at (with_areas areas site) (telemetry_in form telemetry))) output) (flight_site c.config c.fence)

module _ (form : Form) (cfg : Config) (beside : Beside form cfg) (slice : List ℕ) (room : state_size form ≤ length slice) where
  after : List Fed → Supervisor
  after fs = state_after (settings_of form cfg) fs

  -- the state image, and the record, are those of the steps
  record Agrees (bytes : List ℕ) (fs : List Fed) (lines : List Line) : Type 0 where
    image : bytes ≡ state_frame_of form (after fs)
    typed : TypedOf form (after fs)
    rules : Rules (after fs)
    fits : FitsOf form (after fs)
    record_is : lines ≡ record_of (settings_of form cfg) fs

  -- what a call that steps under this configuration leaves: the next state's image, and the Decision's action in the output
  leaves : (x : Supervisor) (c : Call) (state : List ℕ) → (flight_of c).cfg ≡ cfg → state ≡ state_frame_of form x → read_state_of form state ≡ Ok x → (on c state).number ≡ 0 → ((on c state).state ≡ state_frame_of form (step (settings_of form cfg) x (fed_by form c)).supervisor) × (shown_action (on c state).output ≡ (step (settings_of form cfg) x (fed_by form c)).decision.action)
  leaves x c state same image r z =
      let form_is = ap (λ (k : Config). form_of k.keeps_raised state) same ∙ ap (form_of cfg.keeps_raised) image ∙ due form cfg x beside in
      let is = stepped form c x state form_is r z in
      let next = step (settings_of form (flight_of c).cfg) x (fed_by form c) in (
        ap (λ (q : StepCall). q.state) is ∙ (λ i. state_frame_of form (step (settings_of form (same i)) x (fed_by form c)).supervisor),
        ap (λ (q : StepCall). shown_action q.output) is ∙ action_shown_lem c.with_side next.decision next.side (drop (output_size c.with_side) c.output) ∙ (λ i. (step (settings_of form (same i)) x (fed_by form c)).decision.action),
      )

  next : (c : Call) (earlier : List Call) → Bytes c.telemetry → (((answered form slice c earlier).number ≡ 0 → ⊥) ⊎ ((flight_of c).cfg ≡ cfg)) → Agrees (state_bytes form slice earlier) (fed form slice earlier) (record_of_calls form slice earlier) → Agrees (state_bytes form slice (c ∷ earlier)) (fed form slice (c ∷ earlier)) (record_of_calls form slice (c ∷ earlier))
  unfolding state_bytes fed record_of_calls state_after record_of after
  next c earlier bytes under i = at (eqb (answered form slice c earlier).number 0) refl
    where
      at : (b : Bool) → eqb (answered form slice c earlier).number 0 ≡ b → Agrees (answered form slice c earlier).state (cond b (fed_by form c ∷ fed form slice earlier) (fed form slice earlier)) (cond b (record { fed = fed_by form c; action = shown_action (answered form slice c earlier).output } ∷ record_of_calls form slice earlier) (record_of_calls form slice earlier))
      at false e = record { image = (declined_keeps c.with_side c.config c.fence (state_bytes form slice earlier) c.telemetry c.output c.areas e).0 ∙ i.image; typed = i.typed; rules = i.rules; fits = i.fits; record_is = i.record_is }
      at true e =
          let z = eqb-true (answered form slice c earlier).number 0 e in
          let one = ⊎_elim (λ n. absurd (n z)) (λ (o : (flight_of c).cfg ≡ cfg). o) under in
          let x = after (fed form slice earlier) in
          let r = ap (read_state_of form) i.image ∙ value_back form x i.typed i.rules i.fits in
          let l = leaves x c (state_bytes form slice earlier) one i.image r z in
          record {
            image = l.0;
            typed = step_typed_of form cfg x (fed_by form c).site c.telemetry bytes i.typed;
            rules = step_rules (settings_of form cfg) x (fed_by form c) i.rules;
            fits = step_fits_of form cfg beside x (fed_by form c) i.fits;
            record_is = λ j. record { fed = fed_by form c; action = l.1 j } ∷ i.record_is j;
          }

  agrees : (calls : List Call) → UnderConfig form slice cfg calls → Agrees (state_bytes form slice calls) (fed form slice calls) (record_of_calls form slice calls)
  unfolding state_bytes fed record_of_calls state_after record_of after
  agrees [] u = record { image = (begins form slice room).1; typed = fresh_typed_of form; rules = fresh_rules; fits = fresh_fits_of form; record_is = refl }
  agrees (c ∷ earlier) u = next c earlier u.0 u.1.0 (agrees earlier u.1.1)

-- the theorem
pub run_claim : RunClaim
unfolding after
run_claim form cfg beside slice room calls u =
    let a = agrees form cfg beside slice room calls u in
    record {
      begun = (begins form slice room).0;
      ladder =
          subst
          (λ (l : List Line). ObeysAll (clock_of form) cfg.recovery_hold_ms (steps_of (settings_of form cfg) l))
          (sym a.record_is)
          (ladder_claim (settings_of form cfg) (fed form slice calls));
      accepted = ap (read_state_of form) a.image ∙ value_back form _ a.typed a.rules a.fits;
    }

-- calls that step under a weaker condition
weaker : (form : Form) (slice : List ℕ) (P Q : Flight → Type 0) → ((f : Flight) → P f → Q f) → (calls : List Call) → Under form slice P calls → Under form slice Q calls
weaker form slice P Q h [] u = tt
weaker form slice P Q h (c ∷ earlier) u = (u.0, (⊎_elim (λ (n : (answered form slice c earlier).number ≡ 0 → ⊥). inl n) (λ (p : P (flight_of c)). inr (h (flight_of c) p)) u.1.0, weaker form slice P Q h earlier u.1.1))

-- its case of one accepted configuration and fence
pub one_flight_claim : OneFlightClaim
one_flight_claim config fence g ok form beside slice room calls u =
    run_claim form g.cfg beside slice room calls
    (weaker form slice (SameFlight g) (λ (f : Flight). f.cfg ≡ g.cfg) (λ f s. s.0) calls u)
