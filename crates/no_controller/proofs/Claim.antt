-- The theorem, by one step (Step.antt) and by what the bytes read and write (Bytes.antt). Assumes nothing.
use Prim.Native.Nat.{ℕ, ◌≤◌}
use mathlib.Core.Bool.{Bool, true, false, cond}
use mathlib.Core.List.{List, [], ◌∷◌, ◌++◌}
use mathlib.Core.Logic.{⊎_elim}
use mathlib.Core.Path.{◌≡◌, refl, ap, sym, ◌∙◌}
use lib.ListN.{length, take, drop}
use borrow.Author.Tests.{eqb-true}
use Rattle.config.specs.declared.Config.{Config}
use Rattle.supervisor.specs.declared.Supervisor.{Supervisor}
use Rattle.supervisor.specs.declared.Stepped.{Stepped}
use Rattle.supervisor.specs.Settings.{Settings, Fed, fence_site, with_areas, fed_at}
use Rattle.supervisor.specs.Step.{step}
use Rattle.flight.specs.Flight.{flight_or_blank, read_flight}
use Rattle.calls.specs.Form.{Form, state_size, telemetry_in, settings_of, form_of}
use Rattle.calls.specs.Entry.{StepCall, output_frame, output_size, succeeded}
use Rattle.calls.proofs.Declined.{declined_keeps}
use Rattle.ladder.specs.Record.{state_after}
use Rattle.run.specs.Run.{Call, Beside, flight_of, fed_by, state_bytes, answered, is_step, UnderConfig, fed}
use Rattle.run.proofs.Run.{stepped, run_claim}
use Rattle.no_controller.specs.Step.{without_rc, without_rc_clear, SameStep}
use Rattle.no_controller.specs.Claim.{EqualBut, timer_from, timer_to, SameCall, SameCalls, outputs, NoControllerClaim}
use Rattle.no_controller.proofs.Step.{step_claim}
use Rattle.no_controller.proofs.Bytes.{telemetry_size, telemetry_same, frames_same}
use Rattle.no_controller.proofs.Accepted.{due_read, stepped_length}

alike : (from to : ℕ) (a b : List ℕ) → a ≡ b → EqualBut from to a b
alike from to a b e = record { lengths = ap length e; before = ap (take from) e; behind = ap (drop to) e }

-- the same of slices that are those
moved : (from to : ℕ) (a b c d : List ℕ) → a ≡ c → b ≡ d → EqualBut from to c d → EqualBut from to a b
moved from to a b c d p q e =
    record {
      lengths = ap length p ∙ e.lengths ∙ sym (ap length q);
      before = ap (take from) p ∙ e.before ∙ sym (ap (take from) q);
      behind = ap (drop to) p ∙ e.behind ∙ sym (ap (drop to) q);
    }

module _ (form : Form) (cfg : Config) (beside : Beside form cfg) (off : cfg.rc_required ≡ false) where
  abbrev settings : Settings
  settings = settings_of form cfg

  -- two steps from states that are equal but for the RC clear timer
  both : (a b : Call) (x y : Supervisor) → SameCall form a b → length a.telemetry ≡ telemetry_size form → without_rc_clear x ≡ without_rc_clear y → SameStep (step settings x (fed_by form a)) (step settings y (fed_by form b))
  both a b x y h n e =
      let p = step_claim settings off x (fed_by form a) in
      let q = step_claim settings off y (fed_by form b) in
      let t = telemetry_same form a.telemetry b.telemetry h.telemetry n in
      let m : step settings (without_rc_clear x) (fed_at (fed_by form a).site (without_rc (telemetry_in form a.telemetry))) ≡ step settings (without_rc_clear y) (fed_at (fed_by form b).site (without_rc (telemetry_in form b.telemetry))) =
      λ i. step settings (e i) (fed_at (with_areas (h.areas i) (fence_site (flight_or_blank (read_flight (h.config i) (h.fence i))).fence)) (t i)) in
      record {
        decision = p.decision ∙ ap (λ (z : Stepped). z.decision) m ∙ sym q.decision;
        side = p.side ∙ ap (λ (z : Stepped). z.side) m ∙ sym q.side;
        state = p.state ∙ ap (λ (z : Stepped). without_rc_clear z.supervisor) m ∙ sym q.state;
      }

  module _ (slice : List ℕ) (room : state_size form ≤ length slice) where
    abbrev after : List Call → Supervisor
    after calls = state_after settings (fed form slice calls)

    record Agree (first second : List Call) : Type 0 where
      decisions : outputs form slice first ≡ outputs form slice second
      images : EqualBut (timer_from form) (timer_to form) (state_bytes form slice first) (state_bytes form slice second)
      states : without_rc_clear (after first) ≡ without_rc_clear (after second)

    -- a call that steps: its telemetry's length, and what it leaves
    record Leaves (c : Call) (earlier : List Call) : Type 0 where
      size : length c.telemetry ≡ telemetry_size form
      is : answered form slice c earlier ≡ succeeded c.with_side form (step settings (after earlier) (fed_by form c)) c.output

    leaves : (c : Call) (earlier : List Call) → UnderConfig form slice cfg (c ∷ earlier) → is_step form slice c earlier ≡ true → Leaves c earlier
    leaves c earlier u e =
        let z = eqb-true (answered form slice c earlier).number 0 e in
        let one = ⊎_elim (λ n. absurd (n z)) (λ (o : (flight_of c).cfg ≡ cfg). o) u.1.0 in
        let state = state_bytes form slice earlier in
        let read = (run_claim form cfg beside slice room earlier u.1.1).accepted in
        let due = ap (λ (k : Config). form_of k.keeps_raised state) one ∙ due_read form cfg state (after earlier) beside read in
        record {
          size = stepped_length form c (after earlier) state due read z;
          is = stepped form c (after earlier) state due read z ∙ (λ i. succeeded c.with_side form (step (settings_of form (one i)) (after earlier) (fed_by form c)) c.output);
        }

    fed_if : (c : Call) (earlier : List Call) (b : Bool) → is_step form slice c earlier ≡ b → fed form slice (c ∷ earlier) ≡ cond b (fed_by form c ∷ fed form slice earlier) (fed form slice earlier)
    unfolding fed
    fed_if c earlier b e = ap (λ (x : Bool). cond x (fed_by form c ∷ fed form slice earlier) (fed form slice earlier)) e

    after_if : (c : Call) (earlier : List Call) (b : Bool) → is_step form slice c earlier ≡ b → without_rc_clear (after (c ∷ earlier)) ≡ without_rc_clear (state_after settings (cond b (fed_by form c ∷ fed form slice earlier) (fed form slice earlier)))
    after_if c earlier b e = ap (λ (l : List Fed). without_rc_clear (state_after settings l)) (fed_if c earlier b e)

    next : (a b : Call) (earlier others : List Call) → UnderConfig form slice cfg (a ∷ earlier) → UnderConfig form slice cfg (b ∷ others) → SameCall form a b → is_step form slice a earlier ≡ is_step form slice b others → Agree earlier others → Agree (a ∷ earlier) (b ∷ others)
    unfolding state_bytes outputs state_after
    next a b earlier others u v h same g = at (is_step form slice b others) same refl
      where
        at : (s : Bool) → is_step form slice a earlier ≡ s → is_step form slice b others ≡ s → Agree (a ∷ earlier) (b ∷ others)
        at false p q =
            let l = declined_keeps a.with_side a.config a.fence (state_bytes form slice earlier) a.telemetry a.output a.areas p in
            let m = declined_keeps b.with_side b.config b.fence (state_bytes form slice others) b.telemetry b.output b.areas q in
            let o = l.1 ∙ h.output ∙ sym m.1 in
            record {
              decisions = λ i. o i ∷ g.decisions i;
              images = moved (timer_from form) (timer_to form) _ _ _ _ l.0 m.0 g.images;
              states = after_if a earlier false p ∙ g.states ∙ sym (after_if b others false q);
            }
        at true p q =
            let k = leaves a earlier u p in
            let l = k.is in
            let m = (leaves b others v q).is in
            let s = both a b (after earlier) (after others) h k.size g.states in
            let o =
            ap (λ (c : StepCall). c.output) l
            ∙ (λ i. output_frame (h.with_side i) (s.decision i) (s.side i) ++ drop (output_size (h.with_side i)) (h.output i))
            ∙ sym (ap (λ (c : StepCall). c.output) m) in
            record {
              decisions = λ i. o i ∷ g.decisions i;
              images = moved (timer_from form) (timer_to form) _ _ _ _ (ap (λ (c : StepCall). c.state) l) (ap (λ (c : StepCall). c.state) m) (frames_same form _ _ s.state);
              states = after_if a earlier true p ∙ s.state ∙ sym (after_if b others true q);
            }

    agree : (first second : List Call) → UnderConfig form slice cfg first → UnderConfig form slice cfg second → SameCalls form slice first second → Agree first second
    agree [] [] u v h = record { decisions = refl; images = alike (timer_from form) (timer_to form) _ _ refl; states = refl }
    agree [] (b ∷ others) u v h = absurd h
    agree (a ∷ earlier) [] u v h = absurd h
    agree (a ∷ earlier) (b ∷ others) u v h = next a b earlier others u v h.0 h.1.0 (agree earlier others u.1.1 v.1.1 h.1.1)

-- document 02, L4
pub no_controller_claim : NoControllerClaim
no_controller_claim form cfg beside off slice room first second u v h =
    let g = agree form cfg beside off slice room first second u v h in
    record { decisions = g.decisions; images = g.images }
