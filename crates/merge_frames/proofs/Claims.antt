-- What a call leaves: the claims of specs/Claims.antt. Assumes nothing.
use Rattle.flight.specs.declared.FlightError.{FlightError}
use Rattle.wire.proofs.Head.{no_error_zero}
use Rattle.wire.specs.declared.FrameError.{FrameError}
use Rattle.std.specs.Result.{result_and}
use Rattle.std.specs.Prelude.{Result, Ok, Err, ⊤}
use Prim.Native.Nat.{ℕ, ◌≤◌}
use native.Mathlib.Omega.{arith}
use mathlib.Core.Path.{◌≡◌, refl, sym, ap, subst, ◌∙◌}
use mathlib.Core.Bool.{Bool, true, false, cond}
use mathlib.Core.List.{List, ◌++◌}
use lib.Dec.{eqb, ltb}
use lib.Ieee.{Float}
use lib.ListN.{length, drop}
use borrow.Author.Tests.{eqb-true, eq-eqb, ltb-false, le-ltb}
use Rattle.types.specs.declared.Telemetry.{Telemetry}
use Rattle.wire.specs.Fields.{Bytes}
use Rattle.wire.specs.Frame.{frame_written, check_room, check_frame}
use Rattle.frame_telemetry.specs.TelemetryFrame.{read_telemetry, telemetry_at, telemetry_valid, telemetry_frame}
use Rattle.frame_telemetry.proofs.Size.{size}
use Rattle.frame_telemetry_trips.proofs.Trips.{bytes_back, bytes_same}
use Rattle.flight.specs.declared.Flight.{Flight}
use Rattle.flight.specs.Flight.{read_flight}
use Rattle.flight.proofs.Numbers.{no_flight_zero}
use Rattle.merge.specs.Merge.{merge_telemetry}
use Rattle.merge.proofs.Laws.{merged, merged_same}
use Rattle.merge_frames.specs.Call.{MergeCall, declined, wrote, merge_read, after_second, after_first, after_flight, merge_call}
use Rattle.merge_frames.specs.Claims.{Succeeded, MergeClaim, DeclinedClaim, ItselfClaim}
use Rattle.merge_frames.proofs.Accepted.{accepted}

-- a frame that is read is the Telemetry of its bytes
read_is : (s : List ℕ) (t : Telemetry) → read_telemetry s ≡ Ok t → t ≡ telemetry_at s
unfolding read_telemetry
read_is s t h = at (check_frame 3 104 s) (telemetry_valid s) h
  where
    at : (a : Result ⊤ FrameError) (b : Bool) → result_and a (cond b (Ok (telemetry_at s)) (Err FrameError.OutOfRange)) ≡ Ok t → t ≡ telemetry_at s
    at (Ok tt) true e = let v : telemetry_at s ≡ t = cc in sym v
    at (Ok tt) false e = let z : ◌≡◌ {A = ℕ} 0 1 = cc in absurd (omega arith)
    at (Err x) b e = let z : ◌≡◌ {A = ℕ} 0 1 = cc in absurd (omega arith)

-- a written frame
room : (t : Telemetry) (output : List ℕ) → 106 ≤ length output → wrote t output ≡ record { number = 0; output = telemetry_frame t ++ drop 106 output }
unfolding check_room frame_written
room t output h =
    let s = size t in
    rw (s, le-ltb (length output) 106 h)

no_room : (t : Telemetry) (output : List ℕ) → ltb (length output) 106 ≡ true → wrote t output ≡ declined 5 output
unfolding check_room frame_written
no_room t output h = rw (size t, h)

fits : (t : Telemetry) (output : List ℕ) → (wrote t output).number ≡ 0 → 106 ≤ length output
fits t output z = at (ltb (length output) 106) refl
  where
    at : (b : Bool) → ltb (length output) 106 ≡ b → 106 ≤ length output
    at true e = let five : ◌≡◌ {A = ℕ} 5 0 = sym (ap (λ (c : MergeCall). c.number) (no_room t output e)) ∙ z in absurd (omega arith)
    at false e = ltb-false (length output) 106 e

-- ---- a call that answered 0

module _ (cap : Float) (s u output : List ℕ) (b : Bytes s) (d : Bytes u) where
  read_succeeds :
      read_telemetry s ≡ Ok (telemetry_at s) → read_telemetry u ≡ Ok (telemetry_at u) →
      (merge_read cap (telemetry_at s) (telemetry_at u) output).number ≡ 0 → Succeeded s u output (merge_read cap (telemetry_at s) (telemetry_at u) output).output
  unfolding merge_read
  read_succeeds f g z = at (eqb (telemetry_at s).now_ms (telemetry_at u).now_ms) refl z
    where
      m : Telemetry
      m = merge_telemetry cap (telemetry_at s) (telemetry_at u)

      at :
          (t : Bool) → eqb (telemetry_at s).now_ms (telemetry_at u).now_ms ≡ t →
          (cond t (wrote m output) (declined 38 output)).number ≡ 0 → Succeeded s u output (cond t (wrote m output) (declined 38 output)).output
      at true e y =
          record {
            a = telemetry_at s;
            b = telemetry_at u;
            m = m;
            first_read = f;
            second_read = g;
            clock = eqb-true (telemetry_at s).now_ms (telemetry_at u).now_ms e;
            written = ap (λ (c : MergeCall). c.output) (room m output (fits m output y));
            accepted = accepted cap s u b d;
            readings = merged cap (telemetry_at s) (telemetry_at u);
          }
      at false e y = absurd (omega arith)

  second_succeeds :
      (r : Result Telemetry FrameError) → read_telemetry u ≡ r → read_telemetry s ≡ Ok (telemetry_at s) →
      (after_second cap (telemetry_at s) r output).number ≡ 0 → Succeeded s u output (after_second cap (telemetry_at s) r output).output
  second_succeeds (Ok t) g f z =
      let is = read_is u t g in
      subst (λ (b : Telemetry). Succeeded s u output (merge_read cap (telemetry_at s) b output).output) (sym is)
      (read_succeeds f (g ∙ ap Ok is) (subst (λ (b : Telemetry). (merge_read cap (telemetry_at s) b output).number ≡ 0) is z))
  second_succeeds (Err e) g f z = absurd (no_error_zero e z)

  first_succeeds :
      (r : Result Telemetry FrameError) → read_telemetry s ≡ r →
      (after_first cap r u output).number ≡ 0 → Succeeded s u output (after_first cap r u output).output
  first_succeeds (Ok t) f z =
      let is = read_is s t f in
      subst (λ (a : Telemetry). Succeeded s u output (after_second cap a (read_telemetry u) output).output) (sym is)
      (second_succeeds (read_telemetry u) refl (f ∙ ap Ok is) (subst (λ (a : Telemetry). (after_second cap a (read_telemetry u) output).number ≡ 0) is z))
  first_succeeds (Err e) f z = absurd (no_error_zero e z)

pub merge_claim : MergeClaim
unfolding merge_call
merge_claim config fence first second output b d = at (read_flight config fence)
  where
    at : (r : Result Flight FlightError) → (after_flight r first second output).number ≡ 0 → Succeeded first second output (after_flight r first second output).output
    at (Ok f) z = first_succeeds f.cfg.usable_capacity_wh first second output b d (read_telemetry first) refl z
    at (Err e) z = absurd (no_flight_zero e z)

-- ---- a call that declined

abbrev Keeps : MergeCall → List ℕ → Type 0
Keeps c output = (c.number ≡ 0 → ⊥) → c.output ≡ output

wrote_keeps : (t : Telemetry) (output : List ℕ) → Keeps (wrote t output) output
wrote_keeps t output n = at (ltb (length output) 106) refl
  where
    at : (b : Bool) → ltb (length output) 106 ≡ b → (wrote t output).output ≡ output
    at true e = ap (λ (c : MergeCall). c.output) (no_room t output e)
    at false e = absurd (n (ap (λ (c : MergeCall). c.number) (room t output (ltb-false (length output) 106 e))))

read_keeps : (cap : Float) (a b : Telemetry) (output : List ℕ) → Keeps (merge_read cap a b output) output
unfolding merge_read
read_keeps cap a b output = at (eqb a.now_ms b.now_ms)
  where
    at : (t : Bool) → Keeps (cond t (wrote (merge_telemetry cap a b) output) (declined 38 output)) output
    at true n = wrote_keeps (merge_telemetry cap a b) output n
    at false n = refl

second_keeps : (cap : Float) (a : Telemetry) (r : Result Telemetry FrameError) (output : List ℕ) → Keeps (after_second cap a r output) output
second_keeps cap a (Err d) output k = refl
second_keeps cap a (Ok b) output k = read_keeps cap a b output k

first_keeps : (cap : Float) (r : Result Telemetry FrameError) (second output : List ℕ) → Keeps (after_first cap r second output) output
first_keeps cap (Err d) second output k = refl
first_keeps cap (Ok a) second output k = second_keeps cap a (read_telemetry second) output k

pub declined_claim : DeclinedClaim
unfolding merge_call
declined_claim config fence first second output = at (read_flight config fence)
  where
    at : (r : Result Flight FlightError) → Keeps (after_flight r first second output) output
    at (Ok f) k = first_keeps f.cfg.usable_capacity_wh (read_telemetry first) second output k
    at (Err e) k = refl

-- ---- a frame merged with itself

itself : (cap : Float) (t : Telemetry) (output : List ℕ) → 106 ≤ length output → merge_read cap t t output ≡ record { number = 0; output = telemetry_frame t ++ drop 106 output }
unfolding merge_read
itself cap t output h = rw (eq-eqb t.now_ms t.now_ms refl, merged_same cap t) (room t output h)

pub itself_claim : ItselfClaim
unfolding merge_call
itself_claim config fence s output g t b f e h =
    let cap = g.cfg.usable_capacity_wh in
    let call : merge_call config fence s s output ≡ record { number = 0; output = telemetry_frame t ++ drop 106 output } = rw (f, e, e) (itself cap t output h) in
    let out = ap (λ (c : MergeCall). c.output) call in (
      ap (λ (c : MergeCall). c.number) call,
      record {
        rewritten = out ∙ ap (λ (r : List ℕ). r ++ drop 106 output) (bytes_back s t b e);
        same = λ n. out ∙ ap (λ (r : List ℕ). r ++ drop 106 output) (bytes_same s t b e n);
      },
    )
