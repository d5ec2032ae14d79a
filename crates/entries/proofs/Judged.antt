-- A state that is judged by a step without telemetry, and a call whose telemetry has another head. Assumes nothing.
use Rattle.types.specs.declared.Telemetry.{Telemetry}
use Rattle.supervisor.specs.declared.Supervisor.{Supervisor}
use Rattle.wire.specs.declared.FrameError.{FrameError}
use Rattle.std.specs.Prelude.{Result, Ok, Err}
use Prim.Native.Nat.{ℕ}
use native.Mathlib.Omega.{arith}
use mathlib.Core.Bool.{Bool, true, false, ◌&&◌, cond}
use mathlib.Core.List.{List, []}
use mathlib.Core.Path.{◌≡◌, refl, ap, sym, subst, ◌∙◌}
use lib.ListN.{replicate}
use Rattle.wire.specs.Frame.{frame_fault, check_frame, frame_error_number, frame_number}
use Rattle.wire.proofs.Head.{head_says, error_number, number_zero}
use Rattle.wire.proofs.Whole.{whole}
use Rattle.frame_wide_trips.proofs.StateMarks.{frame_on}
use Rattle.frame_state.specs.StateFrame.{state_kind, state_length, state_at, state_valid, raised_read, raised_valid, read_state}
use Rattle.frame_telemetry.specs.TelemetryFrame.{read_telemetry}
use Rattle.flight.specs.declared.Flight.{Flight}
use Rattle.flight.specs.Flight.{or_refused}
use Rattle.frame_wide.specs.WideState.{state_on, wide_instants, with_instants, read_wide_state}
use Rattle.frame_wide.specs.WideTelemetry.{read_wide_telemetry}
use Rattle.calls.specs.Form.{base, wide}
use Rattle.calls.specs.Entry.{StepCall, declined, after_telemetry, after_state, from_state}

-- the number of a step without telemetry
asked : Result Supervisor FrameError → ℕ
asked (Err e) = frame_error_number e
asked (Ok s) = 1

no_telemetry : read_telemetry [] ≡ Err FrameError.Incomplete
unfolding read_telemetry check_frame
no_telemetry = refl

judge : (k : Bool) (f : Flight) (areas low : List ℕ) → from_state false (base k) f areas low [] [] ≡ declined (asked (read_state k low)) low []
unfolding asked
judge k f areas low = at (read_state k low)
  where
    at : (r : Result Supervisor FrameError) → after_state false (base k) r f areas low [] [] ≡ declined (asked r) low []
    at (Err e) = refl
    at (Ok s) = ap (λ (q : Result Telemetry FrameError). after_telemetry false (base k) q f areas s low []) no_telemetry

-- 1 is no refusal of a state whose head is right
in_range_or : (k : Bool) (low : List ℕ) (e : FrameError) → check_frame (state_kind k) (state_length k) low ≡ Ok tt → read_state k low ≡ Err e → e ≡ FrameError.OutOfRange
unfolding read_state
in_range_or k low e h = rw h (at (state_valid low && raised_valid k low))
  where
    at : (b : Bool) → ◌≡◌ {A = Result Supervisor FrameError} (cond b (Ok (state_at low (raised_read k low))) (Err FrameError.OutOfRange)) (Err e) → e ≡ FrameError.OutOfRange
    at true q = let z : ◌≡◌ {A = ℕ} 0 1 = cc in absurd (omega arith)
    at false q = let v : FrameError.OutOfRange ≡ e = cc in sym v

module _ (k : Bool) (f : Flight) (areas low : List ℕ) (head : frame_fault (state_kind k) (state_length k) low ≡ 0) where
  pub judged_same : (from_state false (base k) f areas low [] []).state ≡ low
  judged_same = ap (λ (c : StepCall). c.state) (judge k f areas low)

  number_is : (n : ℕ) → n ≡ (from_state false (base k) f areas low [] []).number → n ≡ asked (read_state k low)
  number_is n e = e ∙ ap (λ (c : StepCall). c.number) (judge k f areas low)

  pub judged_accepted : (n : ℕ) → n ≡ (from_state false (base k) f areas low [] []).number → n ≡ 1 → 0 ≡ frame_number (read_state k low)
  unfolding asked
  judged_accepted n e one = at (read_state k low) refl (sym one ∙ number_is n e)
    where
      at : (r : Result Supervisor FrameError) → read_state k low ≡ r → 1 ≡ asked r → 0 ≡ frame_number r
      at (Ok s) p q = refl
      at (Err x) p q = let four : ◌≡◌ {A = ℕ} 1 4 = q ∙ ap frame_error_number (in_range_or k low x (number_zero _ head) p) in absurd (omega arith)

  pub judged_refused : (n : ℕ) → n ≡ (from_state false (base k) f areas low [] []).number → (n ≡ 1 → ⊥) → n ≡ frame_number (read_state k low)
  unfolding asked
  judged_refused n e other = at (read_state k low) (number_is n e)
    where
      at : (r : Result Supervisor FrameError) → n ≡ asked r → n ≡ frame_number r
      at (Ok s) q = absurd (other q)
      at (Err x) q = q

-- ---- a head that is refused

pub wide_refused : (with_side : Bool) (f : Flight) (areas state telemetry output : List ℕ) (e : FrameError) → check_frame 10 304 state ≡ Err e
    → from_state with_side wide f areas state telemetry output ≡ declined (frame_error_number e) state output
unfolding read_wide_state
wide_refused with_side f areas state telemetry output e h = rw h refl

pub late_call : (with_side : Bool) (f : Flight) (areas state telemetry output : List ℕ) (e : FrameError) → check_frame 10 304 state ≡ Ok tt → check_frame 9 148 telemetry ≡ Err e
    → from_state with_side wide f areas state telemetry output ≡ declined (or_refused (frame_number (read_state false (state_on (replicate 30 0) state))) (frame_error_number e)) state output
unfolding read_wide_state read_wide_telemetry
late_call with_side f areas state telemetry output e ok_s late = rw ok_s (at (read_state false (state_on (replicate 30 0) state)))
  where
    at : (r : Result Supervisor FrameError) → after_state with_side wide (with_instants (wide_instants state) r) f areas state telemetry output ≡ declined (or_refused (frame_number r) (frame_error_number e)) state output
    at (Err x) = λ i. declined (cond (sym (error_number x) i) (frame_error_number e) (frame_error_number x)) state output
    at (Ok s) = rw late refl

-- the kind 5 of a kind 10 has its head
pub low_head : (s : List ℕ) → frame_fault 10 304 s ≡ 0 → frame_fault 5 184 (state_on (replicate 30 0) s) ≡ 0
low_head s h = subst (λ (t : List ℕ). frame_fault 5 184 (state_on (replicate 30 0) t) ≡ 0) (whole 0 306 s (head_says 10 304 s h).1.1) (frame_on s (replicate 30 0))
