-- What the marked step leaves is the call on kinds 10 and 9, from the values that the code has. Assumes nothing.
use Rattle.types.specs.declared.Telemetry.{Telemetry}
use Rattle.wire.specs.declared.FrameError.{FrameError}
use Rattle.std.specs.Prelude.{Some, None, Result, Ok, Err}
use Prim.Native.Nat.{ℕ}
use mathlib.Core.Bool.{Bool, true, false, cond}
use mathlib.Core.List.{List}
use mathlib.Core.Path.{◌≡◌, refl, ap, sym, subst, ◌∙◌}
use lib.Dec.{eqb, ltb}
use lib.ListN.{length, drop, get_or}
use borrow.Author.Tests.{eq-eqb, ne_eqb}
use Rattle.time.specs.Time.{plain}
use Rattle.triggers.specs.Families.{gcs_age}
use Rattle.wire.specs.Fields.{flag_at}
use Rattle.wire.specs.Frame.{frame_fault}
use Rattle.wire.proofs.Head.{head_says}
use Rattle.wire.proofs.Whole.{whole as whole_list}
use Rattle.frame_wide_trips.proofs.StateMarks.{frame_on}
use Rattle.instants.specs.Retimed.{Instants}
use Rattle.supervisor.specs.declared.Supervisor.{Supervisor}
use Rattle.supervisor.specs.declared.Stepped.{Stepped}
use Rattle.frame_state.specs.StateFrame.{read_state}
use Rattle.frame_state.proofs.Size.{size}
use Rattle.frame_telemetry.specs.TelemetryFrame.{read_telemetry}
use Rattle.flight.specs.declared.Flight.{Flight}
use Rattle.instants.specs.Listed.{listed, unlisted, stamps_listed, stamps_unlisted}
use Rattle.marks.specs.Marks.{marked_by, marks_of, stamp_marks_of}
use Rattle.frame_wide.specs.Resized.{instants_at}
use Rattle.frame_wide.specs.WideState.{state_gaps, state_on, wide_instants}
use Rattle.frame_wide.specs.WideTelemetry.{telemetry_gaps, telemetry_on, wide_stamps}
use Rattle.calls.specs.Form.{base, wide}
use Rattle.calls.specs.Entry.{flight_keeps, StepCall, declined, output_size, succeeded, written, step_of, after_telemetry, after_state, from_state}
use Rattle.calls.specs.Marked.{marked_flight, widened_after, low_state, low_telemetry, heartbeat_age, low_call, marked_call}
use Rattle.calls.proofs.Marked.{marked_call_lem}
use Rattle.std.specs.Bool.{then_some}

-- a heartbeat that is given where there is one
pub given : (present : Bool) (at : ℕ) → then_some present at ≡ cond present (Some at) None
given true at = refl
given false at = refl

module _ (with_side : Bool) (f : Flight) (areas state telemetry output : List ℕ) (keeps : flight_keeps f ≡ false) (ok_s : frame_fault 10 304 state ≡ 0) (ok_t : frame_fault 9 148 telemetry ≡ 0) where
  -- the values, each as the code has it from those before
  pub record Had (x j sm low tm rd : List ℕ) (present : Bool) (age : ℕ) (mf : Flight) : Type 0 where
    pub instants : x ≡ instants_at 8 state_gaps (drop 4 state)
    pub stamps : j ≡ instants_at 8 telemetry_gaps (drop 4 telemetry)
    pub marks : sm ≡ listed (marks_of f.cfg (get_or j 0 0) (unlisted x))
    pub image : low ≡ state_on sm state
    pub stamp_marks_lem : tm ≡ stamps_listed (stamp_marks_of f.cfg (stamps_unlisted j))
    pub reading : rd ≡ telemetry_on tm telemetry
    pub heartbeat : present ≡ flag_at rd 77
    pub old : age ≡ gcs_age plain (get_or j 0 0) (cond present (Some (get_or j 6 0)) None)
    pub flight : mf ≡ marked_flight f age

  abbrev whole : StepCall
  whole = from_state with_side wide f areas state telemetry output

  module _ (x j sm low tm rd : List ℕ) (present : Bool) (age : ℕ) (mf : Flight) (h : Had x j sm low tm rd present age mf) where
    marked_flight_lem : mf ≡ marked_flight f (heartbeat_age with_side f areas state telemetry output)
    unfolding wide_instants wide_stamps stamps_unlisted
    marked_flight_lem =
        let tm' = h.stamp_marks_lem ∙ (λ i. stamps_listed (stamp_marks_of f.cfg (stamps_unlisted (h.stamps i)))) in
        let rd' = h.reading ∙ ap (λ (q : List ℕ). telemetry_on q telemetry) tm' in
        let present' = h.heartbeat ∙ ap (λ (q : List ℕ). flag_at q 77) rd' in
        h.flight ∙ ap (marked_flight f) (h.old ∙ (λ i. gcs_age plain (get_or (h.stamps i) 0 0) (cond (present' i) (Some (get_or (h.stamps i) 6 0)) None)))

    low_is : low ≡ low_state with_side f areas state telemetry output
    unfolding wide_instants wide_stamps stamps_unlisted
    low_is = h.image ∙ ap (λ (q : List ℕ). state_on q state) (h.marks ∙ (λ i. listed (marks_of f.cfg (get_or (h.stamps i) 0 0) (unlisted (h.instants i)))))

    reading_is : rd ≡ low_telemetry with_side f areas state telemetry output
    unfolding wide_stamps
    reading_is = h.reading ∙ ap (λ (q : List ℕ). telemetry_on q telemetry) (h.stamp_marks_lem ∙ (λ i. stamps_listed (stamp_marks_of f.cfg (stamps_unlisted (h.stamps i)))))

    call_is : from_state with_side (base (flight_keeps mf)) mf areas low rd output ≡ low_call with_side f areas state telemetry output
    unfolding marked_by
    call_is =
        (λ i. from_state with_side (base (flight_keeps (marked_flight_lem i))) (marked_flight_lem i) areas (low_is i) (reading_is i) output)
        ∙ (λ i. from_state with_side (base (keeps i)) (marked_flight f (heartbeat_age with_side f areas state telemetry output)) areas (low_state with_side f areas state telemetry output) (low_telemetry with_side f areas state telemetry output) output)

    module _ (n : ℕ) (after out : List ℕ) (number : n ≡ (from_state with_side (base (flight_keeps mf)) mf areas low rd output).number) (left : after ≡ (from_state with_side (base (flight_keeps mf)) mf areas low rd output).state) (shown : out ≡ (from_state with_side (base (flight_keeps mf)) mf areas low rd output).output) where
      number_is : n ≡ (low_call with_side f areas state telemetry output).number
      number_is = number ∙ ap (λ (c : StepCall). c.number) call_is

      after_is : after ≡ (low_call with_side f areas state telemetry output).state
      after_is = left ∙ ap (λ (c : StepCall). c.state) call_is

      out_is : out ≡ (low_call with_side f areas state telemetry output).output
      out_is = shown ∙ ap (λ (c : StepCall). c.output) call_is

      pub same_number : n ≡ whole.number
      unfolding marked_call
      same_number = number_is ∙ sym (ap (λ (c : StepCall). c.number) (marked_call_lem with_side f areas state telemetry output ok_s ok_t))

      pub same_output : out ≡ whole.output
      unfolding marked_call
      same_output = out_is ∙ sym (ap (λ (c : StepCall). c.output) (marked_call_lem with_side f areas state telemetry output ok_s ok_t))

      pub same_state : cond (eqb n 0) (widened_after state after (unlisted x) (get_or j 0 0) (get_or j 1 0) out) state ≡ whole.state
      unfolding marked_call wide_instants wide_stamps stamps_unlisted
      same_state =
          (λ i. cond (eqb (number_is i) 0) (widened_after state (after_is i) (unlisted (h.instants i)) (get_or (h.stamps i) 0 0) (get_or (h.stamps i) 1 0) (out_is i)) state)
          ∙ sym (ap (λ (c : StepCall). c.state) (marked_call_lem with_side f areas state telemetry output ok_s ok_t))

      -- where it stepped, the state is the kind 10 after the step; else it is left alone
      pub stepped_state : n ≡ 0 → widened_after state after (unlisted x) (get_or j 0 0) (get_or j 1 0) out ≡ whole.state
      stepped_state z = sym (ap (λ (b : Bool). cond b (widened_after state after (unlisted x) (get_or j 0 0) (get_or j 1 0) out) state) (eq-eqb n 0 z)) ∙ same_state

      pub kept_state : (n ≡ 0 → ⊥) → state ≡ whole.state
      kept_state z = sym (ap (λ (b : Bool). cond b (widened_after state after (unlisted x) (get_or j 0 0) (get_or j 1 0) out) state) (ne_eqb n 0 z)) ∙ same_state

-- ---- the kind 5 keeps its length

module _ (with_side : Bool) (f : Flight) (areas low telemetry output : List ℕ) (long : length low ≡ 186) where
  written_long : (next : Stepped) → length (written with_side (base false) next low output).state ≡ 186
  written_long next = at (ltb (length output) (output_size with_side))
    where
      at : (b : Bool) → length (cond b (declined 5 low output) (succeeded with_side (base false) next output)).state ≡ 186
      at true = long
      at false = size false next.supervisor

  telemetry_long : (s : Supervisor) (r : Result Telemetry FrameError) → length (after_telemetry with_side (base false) r f areas s low output).state ≡ 186
  telemetry_long s (Err d) = long
  telemetry_long s (Ok t) = written_long (step_of (base false) f areas s t)

  state_long : (r : Result Supervisor FrameError) → length (after_state with_side (base false) r f areas low telemetry output).state ≡ 186
  state_long (Err d) = long
  state_long (Ok s) = telemetry_long s (read_telemetry telemetry)

  pub left_long : (k : Bool) → k ≡ false → length (from_state with_side (base k) f areas low telemetry output).state ≡ 186
  left_long k e = subst (λ (b : Bool). length (from_state with_side (base b) f areas low telemetry output).state ≡ 186) (sym e) (state_long (read_state false low))

pub listed_thirty : (i : Instants) → length (listed i) ≡ 30
unfolding listed
listed_thirty i = refl

pub low_long : (given s : List ℕ) → length given ≡ 30 → frame_fault 10 304 s ≡ 0 → length (state_on given s) ≡ 186
low_long given s n h =
    let l = (head_says 10 304 s h).1.1 in
    (head_says 5 184 (state_on given s) (sym (λ i. frame_fault 5 184 (state_on (whole_list 0 30 given n i) (whole_list 0 306 s l i))) ∙ frame_on s given)).1.1

pub keeps_marked : (f : Flight) (age : ℕ) → flight_keeps (marked_flight f age) ≡ flight_keeps f
unfolding marked_by
keeps_marked f age = refl
