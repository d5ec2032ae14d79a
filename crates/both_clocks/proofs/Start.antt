-- What is carried over, and that it is a start for both clocks. Assumes nothing.
use Rattle.wire.proofs.Head.{no_error_zero}
use Rattle.wire.specs.declared.FrameError.{FrameError}
use Rattle.std.specs.Prelude.{Option, Some, None, unwrap_or, Result, Ok, Err, ⊤}
use Prim.Native.Nat.{ℕ, ◌-◌, ◌%◌, ◌^◌, ◌≤◌, ◌<◌}
use mathlib.Core.Bool.{Bool, true, false, cond, false≢true}
use mathlib.Core.List.{List, [], ◌∷◌, ◌++◌}
use mathlib.Core.Path.{◌≡◌, refl, ap, sym, subst, ◌∙◌}
use lib.Dec.{ltb, lit<}
use lib.ListN.{length, take, drop}
use lib.Seq.{take-append-le, take-length}
use native.Mathlib.Omega.{arith}
use borrow.Author.Tests.{eqb-true, eqb-false, leb-true}
use Rattle.time.specs.Time.{wrapping, wrapping_sub, age, at_most}
use Rattle.timers.specs.declared.Timer.{Timer}
use Rattle.triggers.specs.declared.TriggerState.{TriggerState}
use Rattle.supervisor.specs.declared.Supervisor.{Supervisor}
use Rattle.supervisor.specs.Rules.{finite_stored, Rules, RaisedFits}
use Rattle.wire.specs.Cell.{Within}
use Rattle.wire.specs.Fields.{Bytes}
use Rattle.wire.specs.Frame.{frame_number, frame_written, check_room}
use Rattle.wire.proofs.Whole.{Each, each}
use Rattle.options.specs.Position.{position_cells}
use Rattle.frame_state.specs.StateFrame.{read_state, state_frame, timer_cells, Typed}
use Rattle.frame_state.proofs.Trips.{bytes_back, read_rules, read_typed, read_fits}
use Rattle.instants.specs.Retimed.{TimerName, gcs_clear, rc_clear, gps_deg_set, gps_deg_clear, gps_lost_set, gps_lost_clear, ekf_set, ekf_clear, breach_set, breach_clear, alt_max_set, alt_max_clear, alt_min_set, alt_min_clear, stale_clear, warn_set, warn_clear, low_set, low_clear, crit_set, marg_set, marg_clear, infeas_set, invalid_clear, rc_set, timer_of, triggers_at, position_at, Instants, supervisor_at}
use Rattle.instants.specs.Own.{own, position_stamp}
use Rattle.alike.specs.Both.{LowHalf, CarriedOver, OfState}
use Rattle.alike.proofs.Own.{timer_at_lem}
use Rattle.alike.proofs.Both.{carried as carried_low}
use Rattle.frame_wide.specs.WideState.{read_wide_state, wide_state_frame}
use Rattle.frame_wide_trips.specs.Claim.{TypedWide}
use Rattle.frame_wide_trips.proofs.Claim.{state_laws}
use Rattle.frame_wide_trips.proofs.Readings.{instant_lt, sample_lt}
use Rattle.calls.specs.Entry.{FreshCall}
use Rattle.carry.specs.Carry.{last_is, last_of, has_age, timer_has_age, have_ages, carried_held, carried, widened}
use Rattle.calls.specs.Widen.{after_old, widen_call}
use Rattle.both_clocks.specs.Claim.{wide_bytes, StartClaim}
use Rattle.types.specs.declared.PositionSample.{PositionSample}

-- ---- an old state that is not refused is read

record Read (old : List ℕ) : Type 0 where
  state : Supervisor
  is : read_state false old ≡ Ok state

is_read : (old : List ℕ) → ((e : FrameError) → read_state false old ≡ Err e → ⊥) → Read old
is_read old h = at (read_state false old) refl
  where
    at : (r : Result Supervisor FrameError) → read_state false old ≡ r → Read old
    at (Ok x) p = record { state = x; is = p }
    at (Err e) p = absurd (h e p)

-- ---- what the number 0 says

record Carries (T : ℕ) (s : Supervisor) (state : List ℕ) : Type 0 where
  last : last_is T s.last_now ≡ true
  ages : have_ages T s ≡ true
  image : take 306 state ≡ wide_state_frame (widened T s)

-- the 306 bytes that are written
image_of : (x : Supervisor) (new : List ℕ) → take 306 (wide_state_frame x ++ drop (length (wide_state_frame x)) new) ≡ wide_state_frame x
image_of x new =
    let f = wide_state_frame x in
    let n : length f ≡ 306 = state_laws.size x in
    take-append-le 306 f (drop (length f) new) (omega arith) ∙ ap (λ (m : ℕ). take m f) (sym n) ∙ take-length f

-- by the three tests, of which the last is whether the slice is too short
abbrev by_tests : List ℕ → List ℕ → Bool → Bool → Bool → FreshCall
by_tests f new a b c = cond a (cond b (record { number = frame_number {A = ⊤} (cond c (Err FrameError.NoRoom) (Ok tt)); state = cond c new (f ++ drop (length f) new) }) (record { number = 35; state = new })) (record { number = 34; state = new })

carries : (T : ℕ) (s : Supervisor) (new : List ℕ) → (after_old (Ok s) T new).number ≡ 0 → Carries T s (after_old (Ok s) T new).state
unfolding check_room frame_written
carries T s new z = at (last_is T s.last_now) (have_ages T s) (ltb (length new) (length (wide_state_frame (widened T s)))) refl refl z
  where
    at : (a b c : Bool) → last_is T s.last_now ≡ a → have_ages T s ≡ b → (by_tests (wide_state_frame (widened T s)) new a b c).number ≡ 0 → Carries T s (by_tests (wide_state_frame (widened T s)) new a b c).state
    at true true true p q z = absurd (eqb-false 5 0 refl z)
    at true true false p q z = record { last = p; ages = q; image = image_of (widened T s) new }
    at true false c p q z = absurd (eqb-false 35 0 refl z)
    at false b c p q z = absurd (eqb-false 34 0 refl z)

-- ---- of each instant

of_last : (T : ℕ) (o : Option ℕ) → last_is T o ≡ true → T % 2 ^ 32 ≡ own o
of_last T None e = absurd (false≢true e)
of_last T (Some last) e = eqb-true (T % 2 ^ 32) last e

carried_last : (T : ℕ) (o : Option ℕ) → last_is T o ≡ true → unwrap_or o 0 < 2 ^ 32 → CarriedOver T (own o) T o
unfolding wrapping_sub
carried_last T None e h = absurd (false≢true e)
carried_last T (Some last) e h = (h, omega arith, omega arith)

carried_one : (T : ℕ) (s : Supervisor) (o : Option ℕ) → has_age T s o ≡ true → unwrap_or o 0 < 2 ^ 32 → CarriedOver T (last_of T s) (carried_held T s o) o
unfolding age
carried_one T s None e h = tt
carried_one T s (Some x) e h = (h, at (ltb (wrapping_sub (last_of T s) x) (2 ^ 31)) e, refl)
  where
    at : (b : Bool) → at_most (cond b (Some (wrapping_sub (last_of T s) x)) None) T ≡ true → wrapping_sub (last_of T s) x ≤ T
    at true e = leb-true (wrapping_sub (last_of T s) x) T e
    at false e = absurd (false≢true e)

-- ---- of every instant

timer_small : (t : TriggerState) → Within (timer_cells t) → (n : TimerName) → unwrap_or (timer_of t n).since_ms 0 < 2 ^ 32
timer_small t w gcs_clear = w.0
timer_small t w rc_clear = w.1.0
timer_small t w gps_deg_set = w.1.1.0
timer_small t w gps_deg_clear = w.1.1.1.0
timer_small t w gps_lost_set = w.1.1.1.1.0
timer_small t w gps_lost_clear = w.1.1.1.1.1.0
timer_small t w ekf_set = w.1.1.1.1.1.1.0
timer_small t w ekf_clear = w.1.1.1.1.1.1.1.0
timer_small t w breach_set = w.1.1.1.1.1.1.1.1.0
timer_small t w breach_clear = w.1.1.1.1.1.1.1.1.1.0
timer_small t w alt_max_set = w.1.1.1.1.1.1.1.1.1.1.0
timer_small t w alt_max_clear = w.1.1.1.1.1.1.1.1.1.1.1.0
timer_small t w alt_min_set = w.1.1.1.1.1.1.1.1.1.1.1.1.0
timer_small t w alt_min_clear = w.1.1.1.1.1.1.1.1.1.1.1.1.1.0
timer_small t w stale_clear = w.1.1.1.1.1.1.1.1.1.1.1.1.1.1.0
timer_small t w warn_set = w.1.1.1.1.1.1.1.1.1.1.1.1.1.1.1.0
timer_small t w warn_clear = w.1.1.1.1.1.1.1.1.1.1.1.1.1.1.1.1.0
timer_small t w low_set = w.1.1.1.1.1.1.1.1.1.1.1.1.1.1.1.1.1.0
timer_small t w low_clear = w.1.1.1.1.1.1.1.1.1.1.1.1.1.1.1.1.1.1.0
timer_small t w crit_set = w.1.1.1.1.1.1.1.1.1.1.1.1.1.1.1.1.1.1.1.0
timer_small t w marg_set = w.1.1.1.1.1.1.1.1.1.1.1.1.1.1.1.1.1.1.1.1.0
timer_small t w marg_clear = w.1.1.1.1.1.1.1.1.1.1.1.1.1.1.1.1.1.1.1.1.1.0
timer_small t w infeas_set = w.1.1.1.1.1.1.1.1.1.1.1.1.1.1.1.1.1.1.1.1.1.1.0
timer_small t w invalid_clear = w.1.1.1.1.1.1.1.1.1.1.1.1.1.1.1.1.1.1.1.1.1.1.1.0
timer_small t w rc_set = w.1.1.1.1.1.1.1.1.1.1.1.1.1.1.1.1.1.1.1.1.1.1.1.1.0

-- every test but the first timer's
abbrev tests : ℕ → Supervisor → List Bool
tests T s =
    timer_has_age T s rc_clear ∷
    timer_has_age T s gps_deg_set ∷
    timer_has_age T s gps_deg_clear ∷
    timer_has_age T s gps_lost_set ∷
    timer_has_age T s gps_lost_clear ∷
    timer_has_age T s ekf_set ∷
    timer_has_age T s ekf_clear ∷
    timer_has_age T s breach_set ∷
    timer_has_age T s breach_clear ∷
    timer_has_age T s alt_max_set ∷
    timer_has_age T s alt_max_clear ∷
    timer_has_age T s alt_min_set ∷
    timer_has_age T s alt_min_clear ∷
    timer_has_age T s stale_clear ∷
    timer_has_age T s warn_set ∷
    timer_has_age T s warn_clear ∷
    timer_has_age T s low_set ∷
    timer_has_age T s low_clear ∷
    timer_has_age T s crit_set ∷
    timer_has_age T s marg_set ∷
    timer_has_age T s marg_clear ∷
    timer_has_age T s infeas_set ∷
    timer_has_age T s invalid_clear ∷
    timer_has_age T s rc_set ∷
    has_age T s s.arbiter.recovery_since_ms ∷
    has_age T s s.disarm.hold_since_ms ∷
    has_age T s (position_stamp s.glitch.last_accepted) ∷
    []

all_aged : (T : ℕ) (s : Supervisor) → have_ages T s ≡ true → (timer_has_age T s gcs_clear ≡ true) × Each (tests T s)
unfolding have_ages
all_aged T s e = each (timer_has_age T s gcs_clear) (tests T s) e

timer_aged : (T : ℕ) (s : Supervisor) → have_ages T s ≡ true → (n : TimerName) → has_age T s (timer_of s.triggers n).since_ms ≡ true
timer_aged T s e gcs_clear = (all_aged T s e).0
timer_aged T s e rc_clear = (all_aged T s e).1.0
timer_aged T s e gps_deg_set = (all_aged T s e).1.1.0
timer_aged T s e gps_deg_clear = (all_aged T s e).1.1.1.0
timer_aged T s e gps_lost_set = (all_aged T s e).1.1.1.1.0
timer_aged T s e gps_lost_clear = (all_aged T s e).1.1.1.1.1.0
timer_aged T s e ekf_set = (all_aged T s e).1.1.1.1.1.1.0
timer_aged T s e ekf_clear = (all_aged T s e).1.1.1.1.1.1.1.0
timer_aged T s e breach_set = (all_aged T s e).1.1.1.1.1.1.1.1.0
timer_aged T s e breach_clear = (all_aged T s e).1.1.1.1.1.1.1.1.1.0
timer_aged T s e alt_max_set = (all_aged T s e).1.1.1.1.1.1.1.1.1.1.0
timer_aged T s e alt_max_clear = (all_aged T s e).1.1.1.1.1.1.1.1.1.1.1.0
timer_aged T s e alt_min_set = (all_aged T s e).1.1.1.1.1.1.1.1.1.1.1.1.0
timer_aged T s e alt_min_clear = (all_aged T s e).1.1.1.1.1.1.1.1.1.1.1.1.1.0
timer_aged T s e stale_clear = (all_aged T s e).1.1.1.1.1.1.1.1.1.1.1.1.1.1.0
timer_aged T s e warn_set = (all_aged T s e).1.1.1.1.1.1.1.1.1.1.1.1.1.1.1.0
timer_aged T s e warn_clear = (all_aged T s e).1.1.1.1.1.1.1.1.1.1.1.1.1.1.1.1.0
timer_aged T s e low_set = (all_aged T s e).1.1.1.1.1.1.1.1.1.1.1.1.1.1.1.1.1.0
timer_aged T s e low_clear = (all_aged T s e).1.1.1.1.1.1.1.1.1.1.1.1.1.1.1.1.1.1.0
timer_aged T s e crit_set = (all_aged T s e).1.1.1.1.1.1.1.1.1.1.1.1.1.1.1.1.1.1.1.0
timer_aged T s e marg_set = (all_aged T s e).1.1.1.1.1.1.1.1.1.1.1.1.1.1.1.1.1.1.1.1.0
timer_aged T s e marg_clear = (all_aged T s e).1.1.1.1.1.1.1.1.1.1.1.1.1.1.1.1.1.1.1.1.1.0
timer_aged T s e infeas_set = (all_aged T s e).1.1.1.1.1.1.1.1.1.1.1.1.1.1.1.1.1.1.1.1.1.1.0
timer_aged T s e invalid_clear = (all_aged T s e).1.1.1.1.1.1.1.1.1.1.1.1.1.1.1.1.1.1.1.1.1.1.1.0
timer_aged T s e rc_set = (all_aged T s e).1.1.1.1.1.1.1.1.1.1.1.1.1.1.1.1.1.1.1.1.1.1.1.1.0

rest_aged : (T : ℕ) (s : Supervisor) → have_ages T s ≡ true → (has_age T s s.arbiter.recovery_since_ms ≡ true) × ((has_age T s s.disarm.hold_since_ms ≡ true) × (has_age T s (position_stamp s.glitch.last_accepted) ≡ true))
rest_aged T s e = let r = (all_aged T s e).1.1.1.1.1.1.1.1.1.1.1.1.1.1.1.1.1.1.1.1.1.1.1.1.1 in (r.0, (r.1.0, r.1.1.0))

stored_small : (o : Option PositionSample) → Within (position_cells o) → unwrap_or (position_stamp o) 0 < 2 ^ 32
stored_small None w = lit< tt
stored_small (Some p) w = w.0

carried_over : (T : ℕ) (s : Supervisor) → Typed s → last_is T s.last_now ≡ true → have_ages T s ≡ true → OfState (CarriedOver T (last_of T s)) s (carried T s)
unfolding carried
carried_over T s h l e =
    let r = rest_aged T s e in
    record {
      timer = λ n. carried_one T s (timer_of s.triggers n).since_ms (timer_aged T s e n) (timer_small s.triggers h.timers n);
      recovery = carried_one T s s.arbiter.recovery_since_ms r.0 h.recovery;
      gate = carried_one T s s.disarm.hold_since_ms r.1.0 h.hold;
      stored = carried_one T s (position_stamp s.glitch.last_accepted) r.1.1 (stored_small s.glitch.last_accepted h.stored);
      last = carried_last T s.last_now l h.last;
    }

-- ---- what is carried over is within its types and rules

unstamped : (n : ℕ) (p : Option PositionSample) → Within (position_cells p) → Within (position_cells (position_at 0 (position_at n p)))
unstamped n None w = w
unstamped n (Some p) w = (lit< tt, w.1)

epoch_lt : (T w : ℕ) (b : Bool) → T < 2 ^ 64 → cond b (T - w) T < 2 ^ 64
epoch_lt T w true h = omega arith
epoch_lt T w false h = h

carried_typed : (T : ℕ) (s : Supervisor) → T < 2 ^ 64 → Typed s → TypedWide (widened T s)
unfolding supervisor_at carried
carried_typed T s t h =
    let i = carried T s in
    let small : (x : ℕ) → T - wrapping_sub (last_of T s) x < 2 ^ 64 = λ x. omega arith in
    record {
      timers =
          λ n.
          subst (λ (o : Timer). own o.since_ms < 2 ^ 64) (sym (timer_at_lem i.timer s.triggers n))
          (instant_lt (i.timer n) (timer_of s.triggers n).since_ms (small (own (timer_of s.triggers n).since_ms)));
      recovery = instant_lt i.recovery s.arbiter.recovery_since_ms (small (own s.arbiter.recovery_since_ms));
      hold = instant_lt i.gate s.disarm.hold_since_ms (small (own s.disarm.hold_since_ms));
      stored = sample_lt i.stored s.glitch.last_accepted (small (own (position_stamp s.glitch.last_accepted)));
      floats = unstamped i.stored s.glitch.last_accepted h.stored;
      last = instant_lt T s.last_now t;
      epoch = epoch_lt T (wrapping_sub (last_of T s) s.epoch_start) (at_most (age wrapping (last_of T s) s.epoch_start) T) t;
    }

finite_at : (n : ℕ) (o : Option PositionSample) → finite_stored (position_at n o) ≡ finite_stored o
finite_at n None = refl
finite_at n (Some p) = refl

rules_at : (i : Instants) (s : Supervisor) → Rules s → Rules (supervisor_at i s)
unfolding supervisor_at triggers_at
rules_at i s r = record { stage = r.stage; streak = r.streak; stored = finite_at i.stored s.glitch.last_accepted ∙ r.stored }

fits_at : (i : Instants) (s : Supervisor) → RaisedFits false s → RaisedFits false (supervisor_at i s)
unfolding supervisor_at triggers_at
fits_at i s h = h

-- ---- a state and its 64-bit instants, with all that the images of both ask

pub record Both (s : Supervisor) (i : Instants) : Type 0 where
  pub typed : Typed s
  pub rules : Rules s
  pub fits : RaisedFits false s
  pub wide_typed : TypedWide (supervisor_at i s)
  pub wide_rules : Rules (supervisor_at i s)
  pub wide_fits : RaisedFits false (supervisor_at i s)
  pub low : OfState LowHalf s i

pub record Begun (old : List ℕ) (T : ℕ) (new : List ℕ) : Type 0 where
  pub state : Supervisor
  pub read : read_state false old ≡ Ok state
  pub narrow : old ≡ state_frame false state
  pub wide : take 306 (widen_call old T new).state ≡ wide_state_frame (supervisor_at (carried T state) state)
  pub both : Both state (carried T state)

pub begun : (old : List ℕ) (T : ℕ) (new : List ℕ) → Bytes old → T < 2 ^ 64 → (widen_call old T new).number ≡ 0 → Begun old T new
unfolding widen_call
begun old T new b t z =
    let r = is_read old (λ n e. no_error_zero n (sym (ap (λ (q : Result Supervisor FrameError). (after_old q T new).number) e) ∙ z)) in
    let s = r.state in
    let c = carries T s new (sym (ap (λ (q : Result Supervisor FrameError). (after_old q T new).number) r.is) ∙ z) in
    let typed = read_typed false old s r.is b in
    let rules = read_rules false old s r.is in
    let fits = read_fits false old s r.is in
    record {
      state = s;
      read = r.is;
      narrow = sym (bytes_back false old s r.is b);
      wide = ap (λ (q : Result Supervisor FrameError). take 306 (after_old q T new).state) r.is ∙ c.image;
      both =
          record {
            typed = typed;
            rules = rules;
            fits = fits;
            wide_typed = carried_typed T s t typed;
            wide_rules = rules_at (carried T s) s rules;
            wide_fits = fits_at (carried T s) s fits;
            low = carried_low T (last_of T s) s (carried T s) (of_last T s.last_now c.last) (carried_over T s typed c.last c.ages);
          };
    }

-- the claim
pub start_claim : StartClaim
unfolding wide_bytes
start_claim old T new b t z =
    let g = begun old T new b t z in
    record {
      state = g.state;
      narrow = g.read;
      wide = ap read_wide_state g.wide ∙ state_laws.value_back (widened T g.state) g.both.wide_typed g.both.wide_rules g.both.wide_fits;
      low = g.both.low;
    }
