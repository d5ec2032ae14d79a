-- Clock step, arbiter and gate under another clock. Assumes nothing.
use Rattle.std.specs.Prelude.{Option, Some, None}
use Prim.Native.Nat.{ℕ, ◌+◌}
use mathlib.Core.Path.{◌≡◌, refl, ap, ◌∙◌}
use mathlib.Core.Bool.{Bool, true, false, not, ◌&&◌, cond, true≢false, false≢true}
use native.Mathlib.Omega.{arith}
use borrow.Author.Tests.{ne_eqb}
use lib.Dec.{leb, eqb}
use Rattle.types.specs.declared.Action.{Action}
use Rattle.types.specs.declared.Reason.{Reason}
use Rattle.types.specs.declared.Request.{Request}
use Rattle.types.specs.Numbers.{rank}
use Rattle.time.specs.Time.{Clock, age}
use Rattle.timers.specs.Timer.{started}
use Rattle.arbiter.specs.declared.ArbiterState.{ArbiterState}
use Rattle.arbiter.specs.declared.Arbitrated.{Arbitrated}
use Rattle.arbiter.specs.Arbiter.{shown, request, previous, recover, apply_persistence, needs_position, apply_feasibility, arbitrate}
use Rattle.disarm.specs.declared.DisarmGate.{DisarmGate}
use Rattle.disarm.specs.declared.Evaluated.{Evaluated}
use Rattle.disarm.specs.Disarm.{closed, is_land, on_ground, gate_open, hold_from, evaluate}
use Rattle.clock.specs.declared.ClockStep.{ClockStep}
use Rattle.clock.specs.Clock.{clock_fault, sound_clock, by_age, clock_step}
use Rattle.instants.specs.Retimed.{instead, onwards, arbiter_at, gate_at, flag_at, landed_at}
use Rattle.instants.specs.Own.{flag_stamp, landed_stamp}
use Rattle.marks.specs.Marks.{sound_now}
use Rattle.alike.specs.Alike.{HoldAlike, FreshAlike}
use Rattle.alike.proofs.Choices.{choose}
use Rattle.alike.proofs.Timers.{instead_onwards}
use Rattle.alike.proofs.Fresh.{true_alike, landed_alike}
use Rattle.types.specs.declared.Stamped.{Stamped}
use Rattle.types.specs.declared.LandedState.{LandedState}

-- ---- the clock

-- last_now is the reading where it is sound, the epoch the reading at the first step and at a third fault
abbrev pub clock_at : Bool → ℕ → ℕ → ℕ → ClockStep → ClockStep
clock_at initialized last epoch now c =
    record {
      last_now = instead (cond c.fault last now) c.last_now;
      epoch_start = cond (initialized && not c.third) epoch now;
      backwards_streak = c.backwards_streak;
      fault = c.fault;
      third = c.third;
    }

turned : {A : Type 0} (b : Bool) (x y : A) → cond b x y ≡ cond (not b) y x
turned true x y = refl
turned false x y = refl

by_age_lem : (a2 a1 : Option ℕ) (last2 last1 epoch2 epoch1 streak now2 now1 : ℕ) → started a2 ≡ started a1 → by_age a2 last2 epoch2 streak now2 ≡ clock_at true last2 epoch2 now2 (by_age a1 last1 epoch1 streak now1)
unfolding clock_fault sound_clock
by_age_lem None None last2 last1 epoch2 epoch1 streak now2 now1 e =
    let b = leb 3 (streak + 1) in
    λ k. record { last_now = Some last2; epoch_start = turned b now2 epoch2 k; backwards_streak = cond b 0 (streak + 1); fault = true; third = b }
by_age_lem None (Some a1) last2 last1 epoch2 epoch1 streak now2 now1 e = absurd (false≢true e)
by_age_lem (Some a2) None last2 last1 epoch2 epoch1 streak now2 now1 e = absurd (true≢false e)
by_age_lem (Some a2) (Some a1) last2 last1 epoch2 epoch1 streak now2 now1 e = refl

module _ (c1 c2 : Clock) (now1 now2 x : ℕ) where
  pub clock_law : (last : Option ℕ) (epoch2 epoch1 streak : ℕ) (initialized : Bool) → sound_now c2 now2 (instead x last) ≡ sound_now c1 now1 last → clock_step c2 (instead x last) epoch2 streak initialized now2 ≡ clock_at initialized x epoch2 now2 (clock_step c1 last epoch1 streak initialized now1)
  unfolding clock_step sound_clock
  clock_law last epoch2 epoch1 streak false e = refl
  clock_law None epoch2 epoch1 streak true e = refl
  clock_law (Some last) epoch2 epoch1 streak true e = by_age_lem (age c2 now2 x) (age c1 now1 last) x last epoch2 epoch1 streak now2 now1 e

-- a third fault is a fault
third_by : (a : Option ℕ) (last epoch streak now : ℕ) → (by_age a last epoch streak now).fault ≡ false → (by_age a last epoch streak now).third ≡ false
unfolding clock_fault sound_clock
third_by None last epoch streak now e = absurd (true≢false e)
third_by (Some a) last epoch streak now e = refl

pub sound_third : (ck : Clock) (last : Option ℕ) (epoch streak now : ℕ) (initialized : Bool) → (clock_step ck last epoch streak initialized now).fault ≡ false → (clock_step ck last epoch streak initialized now).third ≡ false
unfolding clock_step sound_clock
sound_third ck last epoch streak now false e = refl
sound_third ck None epoch streak now true e = refl
sound_third ck (Some last) epoch streak now true e = third_by (age ck now last) last epoch streak now e

fault_by : (a : Option ℕ) (last epoch streak now : ℕ) → (by_age a last epoch streak now).third ≡ true → (by_age a last epoch streak now).fault ≡ true
unfolding clock_fault sound_clock
fault_by None last epoch streak now e = refl
fault_by (Some a) last epoch streak now e = e

pub third_fault_lem : (ck : Clock) (last : Option ℕ) (epoch streak now : ℕ) (initialized : Bool) → (clock_step ck last epoch streak initialized now).third ≡ true → (clock_step ck last epoch streak initialized now).fault ≡ true
unfolding clock_step sound_clock
third_fault_lem ck last epoch streak now false e = e
third_fault_lem ck None epoch streak now true e = e
third_fault_lem ck (Some last) epoch streak now true e = fault_by (age ck now last) last epoch streak now e

-- and the one that begins the count anew
anew : (b : Bool) (streak : ℕ) → eqb (cond b 0 (streak + 1)) 0 ≡ b
anew true streak = refl
anew false streak = ne_eqb (streak + 1) 0 (λ e. omega arith)

read_by : (a : Option ℕ) (last epoch streak now : ℕ) → (by_age a last epoch streak now).fault && eqb (by_age a last epoch streak now).backwards_streak 0 ≡ (by_age a last epoch streak now).third
unfolding clock_fault sound_clock
read_by None last epoch streak now = anew (leb 3 (streak + 1)) streak
read_by (Some a) last epoch streak now = refl

pub third_read : (ck : Clock) (last : Option ℕ) (epoch streak now : ℕ) (initialized : Bool) → (clock_step ck last epoch streak initialized now).fault && eqb (clock_step ck last epoch streak initialized now).backwards_streak 0 ≡ (clock_step ck last epoch streak initialized now).third
unfolding clock_step sound_clock
third_read ck last epoch streak now false = refl
third_read ck None epoch streak now true = refl
third_read ck (Some last) epoch streak now true = read_by (age ck now last) last epoch streak now

-- ---- the arbiter

abbrev pub arbitrated_at : ℕ → Arbitrated → Arbitrated
arbitrated_at x r = record { state = arbiter_at x r.state; output = r.output }

module _ (c1 c2 : Clock) (now1 now2 x hold1 hold2 : ℕ) where
  recover_by : (o : Action) (r : Reason) (since : Option ℕ) (want : Request) → HoldAlike c1 c2 now1 now2 x since hold1 hold2 → recover c2 (record { prev_output = o; prev_reason = r; recovery_since_ms = instead x since }) now2 hold2 want ≡ arbitrated_at (onwards now2 x since) (recover c1 (record { prev_output = o; prev_reason = r; recovery_since_ms = since }) now1 hold1 want)
  unfolding recover
  recover_by o r None want e = choose (arbitrated_at now2) {u = shown want None} {v = shown (request r o) (Some now1)} e refl refl
  recover_by o r (Some y) want e = choose (arbitrated_at x) {u = shown want None} {v = shown (request r o) (Some y)} e refl refl

  module _ (a : ArbiterState) (want : Request) where
    abbrev after : ℕ
    after = onwards now2 x a.recovery_since_ms

    persist_law : (fault : Bool) → (fault ≡ false → HoldAlike c1 c2 now1 now2 x a.recovery_since_ms hold1 hold2) → apply_persistence c2 (arbiter_at x a) now2 hold2 want fault ≡ arbitrated_at after (apply_persistence c1 a now1 hold1 want fault)
    unfolding apply_persistence
    persist_law true e = ap (shown (previous a)) (instead_onwards now2 x a.recovery_since_ms)
    persist_law false e =
        choose (arbitrated_at after) {b = leb (rank a.prev_output) (rank want.action)} {u = shown want None} {v = recover c1 a now1 hold1 want}
        refl refl (recover_by a.prev_output a.prev_reason a.recovery_since_ms want (e refl))

    feasible_law : (r : Arbitrated) (valid : Bool) → apply_feasibility (arbitrated_at after r) valid ≡ arbitrated_at after (apply_feasibility r valid)
    unfolding apply_feasibility
    feasible_law r valid = choose (arbitrated_at after) {b = needs_position r.output.action && not valid} {u = shown (request Reason.PositionInvalid Action.Land) None} {v = r} refl refl refl

    pub arbitrate_law : (valid fault : Bool) → (fault ≡ false → HoldAlike c1 c2 now1 now2 x a.recovery_since_ms hold1 hold2) → arbitrate c2 (arbiter_at x a) now2 hold2 want valid fault ≡ arbitrated_at after (arbitrate c1 a now1 hold1 want valid fault)
    unfolding arbitrate
    arbitrate_law valid fault e = ap (λ r. apply_feasibility r valid) (persist_law fault e) ∙ feasible_law (apply_persistence c1 a now1 hold1 want fault) valid

-- ---- the gate

abbrev pub evaluated_at : ℕ → Evaluated → Evaluated
evaluated_at x r = record { gate = gate_at x r.gate; eligible = r.eligible }

module _ (c1 c2 : Clock) (now1 now2 x hold1 hold2 : ℕ) where
  hold_law : (since : Option ℕ) → HoldAlike c1 c2 now1 now2 x since hold1 hold2 → hold_from c2 (instead x since) now2 hold2 ≡ evaluated_at (onwards now2 x since) (hold_from c1 since now1 hold1)
  unfolding hold_from
  hold_law None e = λ k. record { gate = record { hold_since_ms = Some now2 }; eligible = e k }
  hold_law (Some y) e = λ k. record { gate = record { hold_since_ms = Some x }; eligible = e k }

  pub evaluate_law :
      (g : DisarmGate) (armed : Option (Stamped Bool)) (landed : Option (Stamped LandedState)) (xa xl l1 l2 : ℕ) (requested : Action) (fault : Bool)
      → HoldAlike c1 c2 now1 now2 x g.hold_since_ms hold1 hold2
      → FreshAlike c1 c2 now1 now2 xa (flag_stamp armed) l1 l2
      → FreshAlike c1 c2 now1 now2 xl (landed_stamp landed) l1 l2
      → evaluate c2 (gate_at x g) now2 (flag_at xa armed) (landed_at xl landed) l2 hold2 requested fault ≡ evaluated_at (onwards now2 x g.hold_since_ms) (evaluate c1 g now1 armed landed l1 hold1 requested fault)
  unfolding evaluate gate_open
  evaluate_law g armed landed xa xl l1 l2 requested fault e a l =
      let p = true_alike c1 c2 now1 now2 l1 l2 xa armed a in
      let q = landed_alike c1 c2 now1 now2 l1 l2 xl landed l in
      choose (evaluated_at (onwards now2 x g.hold_since_ms)) {u = hold_from c1 g.hold_since_ms now1 hold1} {v = record { gate = closed; eligible = false }}
      (λ k. is_land requested && p k && on_ground (q k) && not fault) (hold_law g.hold_since_ms e) refl
