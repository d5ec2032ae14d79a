-- The claim for every list of pairs of calls: each pair that steps is one step on both clocks (alike's `both_step`). Assumes nothing.
use Prim.Native.Nat.{ℕ, ◌^◌, ◌<◌}
use mathlib.Core.Bool.{Bool, true, false}
use mathlib.Core.List.{List, [], ◌∷◌, ◌++◌}
use mathlib.Core.Logic.{⊎_elim}
use mathlib.Core.Path.{◌≡◌, refl, ap, sym, subst, ◌∙◌}
use lib.Dec.{eqb}
use lib.ListN.{drop}
use borrow.Author.Tests.{eqb-true, eqb-false}
use Rattle.config.specs.declared.Config.{Config}
use Rattle.supervisor.specs.declared.Supervisor.{Supervisor}
use Rattle.supervisor.specs.declared.Stepped.{Stepped}
use Rattle.supervisor.specs.Settings.{fence_site, with_areas, fed_at}
use Rattle.supervisor.specs.Rules.{Rules, RaisedFits}
use Rattle.supervisor.specs.Step.{step}
use Rattle.supervisor.proofs.Rules.{step_rules}
use Rattle.wire.specs.Fields.{Bytes, u8_at, number_at, u16_at, le_bytes, le16}
use Rattle.std.specs.Prelude.{Result, Ok, Err}
use Rattle.wire.specs.declared.FrameError.{FrameError}
use Rattle.wire.specs.Frame.{frame_number, check_frame, frame_head}
use Rattle.wire.proofs.Head.{head_says, no_error_zero}
use Rattle.wire.proofs.Read.{behind_head}
use Rattle.frame_state.specs.StateFrame.{read_state, state_frame, Typed}
use Rattle.instants.specs.Retimed.{Instants, supervisor_at, stepped_at, telemetry_at}
use Rattle.instants.specs.Own.{stamps_of}
use Rattle.alike.specs.Both.{BothFed, Meets, narrow_step, wide_step, next}
use Rattle.alike.proofs.Both.{both_step}
use Rattle.frame_wide.specs.WideState.{read_wide_state, wide_state_frame}
use Rattle.frame_wide_trips.specs.Claim.{TypedWide}
use Rattle.calls.specs.Form.{base, wide, settings_of, form_of}
use Rattle.calls.specs.Entry.{flight_keeps, StepCall, output_frame, output_size, succeeded, after_state, from_state, step_any}
use Rattle.calls.proofs.Accepted.{accepted}
use Rattle.flight.specs.declared.Flight.{Flight}
use Rattle.flight.specs.Flight.{read_flight}
use Rattle.carry.specs.Carry.{carried}
use Rattle.calls.specs.Widen.{widen_call}
use Rattle.calls.proofs.Declined.{declined_keeps}
use Rattle.run.specs.Run.{Call, on, flight_of, fed_by}
use Rattle.run.proofs.Forms.{value_back, due, step_typed_of, step_fits_of}
use Rattle.run.proofs.Run.{stepped}
use Rattle.both_clocks.specs.Claim.{without_upper, HeldRecent, HeldIn, Pair, fed_wide, narrow_bytes, wide_bytes, on_narrow, on_wide, narrow_outputs, wide_outputs, FedSame, PairMeets, BothClocksClaim}
use Rattle.both_clocks.specs.Claim as claim
use Rattle.both_clocks.proofs.Ages.{upper_back, low_reading, low_read, young_read, young_state}
use Rattle.both_clocks.proofs.Start.{Both, begun}

-- ---- beside a configuration of kind 11 a kind 5 is declined

kind_5 : (s : Supervisor) → u16_at (state_frame false s) 2 ≡ 5
unfolding u16_at number_at u8_at state_frame frame_head le16 le_bytes
kind_5 s = refl

refused_12 : (w : Bool) (c : Call) (s : Supervisor) → (after_state w (base true) (read_state true (state_frame false s)) (flight_of c) c.areas (state_frame false s) c.telemetry c.output).number ≡ 0 → ⊥
unfolding read_state
refused_12 w c s z = at (read_state true image) refl z
  where
    image : List ℕ
    image = state_frame false s

    at : (r : Result Supervisor FrameError) → read_state true image ≡ r → (after_state w (base true) r (flight_of c) c.areas image c.telemetry c.output).number ≡ 0 → ⊥
    at (Ok x) p z = eqb-false 5 12 refl (sym (kind_5 s) ∙ (head_says 12 192 image (ap frame_number (behind_head (check_frame 12 192 image) _ x p).0)).0)
    at (Err e) p z = no_error_zero e z

-- so a call that steps has a configuration of kind 1
kind_1 : (c : Call) (s : Supervisor) → (on c (state_frame false s)).number ≡ 0 → flight_keeps (flight_of c) ≡ false
unfolding step_any form_of
kind_1 c s z = at (flight_keeps f) refl (sym (ap (λ (q : StepCall). q.number) (accepted c.with_side c.areas image c.telemetry c.output (read_flight c.config c.fence) z).call) ∙ z)
  where
    image : List ℕ
    image = state_frame false s

    f : Flight
    f = flight_of c

    at : (k : Bool) → flight_keeps f ≡ k → (from_state c.with_side (form_of k image) f c.areas image c.telemetry c.output).number ≡ 0 → flight_keeps f ≡ false
    at false p z = p
    at true p z = absurd (refused_12 c.with_side c s z)

-- ---- one pair that steps

-- what both are fed
abbrev both_fed : Pair → BothFed
both_fed p =
    record {
      narrow = without_upper (fed_wide p);
      stamps = stamps_of (fed_wide p);
      site = with_areas p.wide.areas (fence_site (flight_of p.wide).fence);
    }

-- the held ages, of a state image that is read
held_in_lem : (now : ℕ) (r : Result Supervisor FrameError) (x : Supervisor) → r ≡ Ok x → HeldIn HeldRecent now r → HeldRecent now x
held_in_lem now r x e h = subst (HeldIn HeldRecent now) e h

module _ (old : List ℕ) (T : ℕ) (new : List ℕ) (p : Pair) (earlier : List Pair) (fed : FedSame HeldRecent old T new p earlier) (s : Supervisor) (i : Instants) (has : Both s i)
    (nar : narrow_bytes old T new earlier ≡ state_frame false s) (wid : wide_bytes old T new earlier ≡ wide_state_frame (supervisor_at i s))
    (nz : (on_narrow old T new p earlier).number ≡ 0) (wz : (on_wide old T new p earlier).number ≡ 0) where
  abbrev cfg : Config
  cfg = (flight_of p.wide).cfg

  -- the step on the one clock, and on the other
  abbrev one : Stepped
  one = narrow_step cfg s (both_fed p)

  abbrev other : Stepped
  other = wide_step cfg (supervisor_at i s) (both_fed p)

  is_kind_1 : flight_keeps (flight_of p.wide) ≡ false
  is_kind_1 =
      ap (λ (k : Config). k.keeps_raised) fed.flight.0
      ∙ kind_1 p.narrow s (sym (ap (λ (b : List ℕ). (on p.narrow b).number) nar) ∙ nz)

  narrow_read : read_state false (narrow_bytes old T new earlier) ≡ Ok s
  narrow_read = ap (read_state false) nar ∙ value_back (base false) s has.typed has.rules has.fits

  wide_read : read_wide_state (wide_bytes old T new earlier) ≡ Ok (supervisor_at i s)
  wide_read = ap read_wide_state wid ∙ value_back wide (supervisor_at i s) has.wide_typed has.wide_rules has.wide_fits

  -- the narrow call's own step is that step
  narrow_is : step (settings_of (base false) (flight_of p.narrow).cfg) s (fed_by (base false) p.narrow) ≡ one
  narrow_is =
      let c = sym fed.flight.0 in
      let f = sym fed.flight.1 in
      λ j. step (settings_of (base false) (c j)) s (fed_at (with_areas (fed.areas j) (fence_site (f j))) (fed.telemetry j))

  wide_is : step (settings_of wide cfg) (supervisor_at i s) (fed_by wide p.wide) ≡ other
  wide_is = let t = sym (upper_back (fed_wide p)) in λ j. step (settings_of wide cfg) (supervisor_at i s) (fed_at (both_fed p).site (t j))

  -- what each call leaves
  narrow_left : on_narrow old T new p earlier ≡ succeeded p.narrow.with_side (base false) one p.narrow.output
  narrow_left =
      let k = sym (ap (λ (k : Config). k.keeps_raised) fed.flight.0) ∙ is_kind_1 in
      stepped (base false) p.narrow s (narrow_bytes old T new earlier)
      (ap (form_of (flight_keeps (flight_of p.narrow))) nar ∙ due (base false) (flight_of p.narrow).cfg s k) narrow_read nz
      ∙ ap (λ (r : Stepped). succeeded p.narrow.with_side (base false) r p.narrow.output) narrow_is

  wide_left : on_wide old T new p earlier ≡ succeeded p.wide.with_side wide other p.wide.output
  wide_left =
      stepped wide p.wide (supervisor_at i s) (wide_bytes old T new earlier)
      (ap (form_of (flight_keeps (flight_of p.wide))) wid ∙ due wide cfg (supervisor_at i s) is_kind_1) wide_read wz
      ∙ ap (λ (r : Stepped). succeeded p.wide.with_side wide r p.wide.output) wide_is

  -- what is asked of readings, stamps and ages
  meets : Meets s i (both_fed p)
  unfolding stamps_of
  meets =
      record {
        reading = low_reading (fed_wide p);
        low = low_read (fed_wide p);
        held = young_state (fed_wide p).now_ms s i (held_in_lem (fed_wide p).now_ms (read_wide_state (wide_bytes old T new earlier)) (supervisor_at i s) wide_read fed.held);
        read = young_read (fed_wide p) fed.read;
      }

  abbrev after : Instants
  after = next cfg s i (both_fed p)

  -- the other step is the one with its instants in 64 bits
  same : other ≡ stepped_at after one
  same = (both_step cfg s i (both_fed p) has.low meets).0

  pub step_narrow : (on_narrow old T new p earlier).state ≡ state_frame false one.supervisor
  step_narrow = ap (λ (q : StepCall). q.state) narrow_left

  other_state : other.supervisor ≡ supervisor_at after one.supervisor
  unfolding stepped_at
  other_state = ap (λ (r : Stepped). r.supervisor) same

  pub step_wide : (on_wide old T new p earlier).state ≡ wide_state_frame (supervisor_at after one.supervisor)
  step_wide = ap (λ (q : StepCall). q.state) wide_left ∙ ap wide_state_frame other_state

  pub step_output : p.narrow.output ≡ p.wide.output → (on_narrow old T new p earlier).output ≡ (on_wide old T new p earlier).output
  unfolding stepped_at
  step_output o =
      let w = fed.with_side in
      let d = sym same in
      ap (λ (q : StepCall). q.output) narrow_left
      ∙ (λ j. output_frame (w j) (d j).decision (d j).side ++ drop (output_size (w j)) (o j))
      ∙ sym (ap (λ (q : StepCall). q.output) wide_left)

  pub step_both : Both one.supervisor after
  step_both =
      let x = supervisor_at i s in
      let typed = subst (λ (r : Stepped). Typed r.supervisor) narrow_is (step_typed_of (base false) (flight_of p.narrow).cfg s (fed_by (base false) p.narrow).site p.narrow.telemetry fed.narrow_is_bytes has.typed) in
      let wide_typed = subst (λ (r : Stepped). TypedWide r.supervisor) wide_is (step_typed_of wide cfg x (fed_by wide p.wide).site p.wide.telemetry fed.wide_is_bytes has.wide_typed) in
      let f = both_fed p in
      record {
        typed = typed;
        rules = step_rules (settings_of (base false) cfg) s (fed_at f.site f.narrow) has.rules;
        fits = step_fits_of (base false) cfg is_kind_1 s (fed_at f.site f.narrow) has.fits;
        wide_typed = subst TypedWide other_state wide_typed;
        wide_rules = subst Rules other_state (step_rules (settings_of wide cfg) x (fed_at f.site (telemetry_at f.stamps f.narrow)) has.wide_rules);
        wide_fits = subst (RaisedFits false) other_state (step_fits_of wide cfg is_kind_1 x (fed_at f.site (telemetry_at f.stamps f.narrow)) has.wide_fits);
        low = (both_step cfg s i f has.low meets).1;
      }

-- ---- every list

module _ (old : List ℕ) (T : ℕ) (new : List ℕ) where
  record Agree (pairs : List Pair) : Type 0 where
    decisions : narrow_outputs old T new pairs ≡ wide_outputs old T new pairs
    state : Supervisor
    instants : Instants
    narrow : narrow_bytes old T new pairs ≡ state_frame false state
    wide : wide_bytes old T new pairs ≡ wide_state_frame (supervisor_at instants state)
    both : Both state instants

  more : (p : Pair) (earlier : List Pair) → PairMeets HeldRecent old T new p earlier → Agree earlier → Agree (p ∷ earlier)
  unfolding narrow_bytes wide_bytes narrow_outputs wide_outputs
  more p earlier m g = at (eqb (on_wide old T new p earlier).number 0) m.declined refl
    where
      at : (b : Bool) → eqb (on_narrow old T new p earlier).number 0 ≡ b → eqb (on_wide old T new p earlier).number 0 ≡ b → Agree (p ∷ earlier)
      at false n w =
          let a = declined_keeps p.narrow.with_side p.narrow.config p.narrow.fence (narrow_bytes old T new earlier) p.narrow.telemetry p.narrow.output p.narrow.areas n in
          let b = declined_keeps p.wide.with_side p.wide.config p.wide.fence (wide_bytes old T new earlier) p.wide.telemetry p.wide.output p.wide.areas w in
          let o = a.1 ∙ m.output ∙ sym b.1 in
          record { decisions = λ j. o j ∷ g.decisions j; state = g.state; instants = g.instants; narrow = a.0 ∙ g.narrow; wide = b.0 ∙ g.wide; both = g.both }
      at true n w =
          let nz = eqb-true (on_narrow old T new p earlier).number 0 n in
          let wz = eqb-true (on_wide old T new p earlier).number 0 w in
          let fed = ⊎_elim (λ d. absurd (d wz)) (λ (f : FedSame HeldRecent old T new p earlier). f) m.steps in
          let o = step_output old T new p earlier fed g.state g.instants g.both g.narrow g.wide nz wz m.output in
          let cfg = (flight_of p.wide).cfg in
          record {
            decisions = λ j. o j ∷ g.decisions j;
            state = (narrow_step cfg g.state (both_fed p)).supervisor;
            instants = next cfg g.state g.instants (both_fed p);
            narrow = step_narrow old T new p earlier fed g.state g.instants g.both g.narrow g.wide nz wz;
            wide = step_wide old T new p earlier fed g.state g.instants g.both g.narrow g.wide nz wz;
            both = step_both old T new p earlier fed g.state g.instants g.both g.narrow g.wide nz wz;
          }

  module _ (bytes : Bytes old) (fits : T < 2 ^ 64) (zero : (widen_call old T new).number ≡ 0) where
    agree : (pairs : List Pair) → claim.Meets HeldRecent old T new pairs → Agree pairs
    unfolding narrow_bytes wide_bytes narrow_outputs wide_outputs
    agree [] m = let g = begun old T new bytes fits zero in record { decisions = refl; state = g.state; instants = carried T g.state; narrow = g.narrow; wide = g.wide; both = g.both }
    agree (p ∷ earlier) m = more p earlier m.0 (agree earlier m.1)

-- document 02, L7
pub both_clocks_claim : BothClocksClaim
both_clocks_claim old T new bytes fits zero pairs m =
    let g = agree old T new bytes fits zero pairs m in
    let b = g.both in
    record {
      decisions = g.decisions;
      state = g.state;
      instants = g.instants;
      narrow = ap (read_state false) g.narrow ∙ value_back (base false) g.state b.typed b.rules b.fits;
      wide = ap read_wide_state g.wide ∙ value_back wide (supervisor_at g.instants g.state) b.wide_typed b.wide_rules b.wide_fits;
      low = b.low;
    }
