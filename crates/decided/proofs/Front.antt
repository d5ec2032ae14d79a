-- What `answer_front` has after its call, from the contract of the function that it called. Assumes nothing.
use Rattle.flight.specs.declared.FlightError.{FlightError}
use Rattle.wire.specs.declared.FrameError.{FrameError}
use Rattle.std.specs.Prelude.{Result, Ok, Err}
use Prim.Native.Nat.{ℕ, zero, suc, ◌≤◌, ◌<◌}
use native.Mathlib.Omega.{arith}
use mathlib.Core.Bool.{Bool, true, false, cond}
use mathlib.Core.List.{List, []}
use mathlib.Core.Path.{◌≡◌, refl, ap}
use lib.Dec.{eqb}
use lib.ListN.{length, take}
use borrow.Author.Tests.{eqb-false, le-ltb}
use Rattle.config.specs.declared.Config.{Config}
use Rattle.wire.specs.Frame.{whole_frame, frame_written}
use Rattle.frame_config.specs.ConfigFrame.{read_config}
use Rattle.frame_fence.specs.FenceFrame.{read_fence}
use Rattle.flight.specs.declared.Flight.{Flight}
use Rattle.flight.specs.Flight.{after_fence}
use Rattle.stream.specs.declared.Due.{Due}
use Rattle.stream.specs.declared.Session.{Session}
use Rattle.stream.specs.declared.FramesAnswer.{FramesAnswer}
use Rattle.stream.specs.Stream.{Reply, put_count, silent, refusal, with_config, after_config, after_flight, answer_config, answer_fence, in_setup, in_flight, setup_frame, by_due, answer_setup, reply_setup, set_up, fly_frames, frames_answer}
use Rattle.stream.specs.declared.Turn.{Turn}
use Rattle.decided.specs.Decided.{Answer, no_areas, answer_due, answer}
use Rattle.decided.specs.Program.{state, one_frame, turn}
use Rattle.decided.proofs.Whole.{positive, frame_within}

-- the contract of `answer_front`
abbrev Fronted : Session → List ℕ → List ℕ → List ℕ → List ℕ → List ℕ → Turn → Type 0
Fronted session input out held after kept r =
    let t = turn (length out) (state session held) input in
    (state r.session kept ≡ t.after) × ((r.taken ≡ t.taken) × ((r.put ≡ put_count t.bytes out) × ((after ≡ frame_written t.bytes out) × (r.taken ≤ length input))))

pub flew : (session : Session) (input out held after kept : List ℕ) (p : FramesAnswer)
    → in_flight session.due ≡ true
    → p ≡ frames_answer (fly_frames session.flight session.due session.supervisor (take session.areas held) input (length out))
    → after ≡ frame_written (fly_frames session.flight session.due session.supervisor (take session.areas held) input (length out)).written out
    → take p.areas kept ≡ (fly_frames session.flight session.due session.supervisor (take session.areas held) input (length out)).areas
    → p.taken ≤ length input → p.put ≤ length out
    → Fronted session input out held after kept (record { session = record { due = p.due; flight = session.flight; supervisor = p.supervisor; areas = p.areas; refused = session.refused }; taken = p.taken; put = p.put })
unfolding turn put_count
flew session input out held after kept p d e w a t u =
    let q = fly_frames session.flight session.due session.supervisor (take session.areas held) input (length out) in
    let fits : length q.written ≤ length out = omega (arith, ap (λ (x : FramesAnswer). x.put) e) in
    rw (d, a, e, le-ltb (length out) (length q.written) fits) (refl, (refl, (refl, (w, omega (arith, ap (λ (x : FramesAnswer). x.taken) e)))))

-- ---- a frame of kind 1 or 2

-- "before the first no area is held"
without : (s : Session) (held : List ℕ) → s.areas ≡ 0 → state s held ≡ no_areas s
without s held e = rw e

config_areas : (frame : List ℕ) → (answer_config frame).after.areas ≡ 0
unfolding answer_config refusal with_config
config_areas frame = at (read_config frame)
  where
    at : (r : Result Config FrameError) → (after_config r).after.areas ≡ 0
    at (Err d) = refl
    at (Ok cfg) = refl

fence_areas : (cfg : Config) (frame : List ℕ) → (answer_fence cfg frame).after.areas ≡ 0
unfolding answer_fence refusal
fence_areas cfg frame =
    at (after_fence cfg (read_fence frame))
  where
    at : (r : Result Flight FlightError) → (after_flight r).after.areas ≡ 0
    at (Ok f) = refl
    at (Err e) = refl

-- the same answer, read as a session and as a state
abbrev Same : Reply → Answer → List ℕ → Type 0
Same a b held = (state a.after held ≡ b.after) × (a.bytes ≡ b.bytes)

same_due : (due : Due) (s : Session) (held input frame : List ℕ) → 0 < setup_frame due input → Same (by_due due s frame) (answer_due due (state s held) frame) held
unfolding setup_frame
same_due Due.Config s held input frame h = (without (answer_config frame).after held (config_areas frame), refl)
same_due Due.Fence s held input frame h = (without (answer_fence s.flight.cfg frame).after held (fence_areas s.flight.cfg frame), refl)
same_due Due.Telemetry s held input frame h = absurd (omega arith)
same_due Due.AfterAreas s held input frame h = absurd (omega arith)
same_due Due.Nothing s held input frame h = absurd (omega arith)

same_reply : (s : Session) (held input : List ℕ) → (state (reply_setup s input).after held ≡ (one_frame (state s held) input).after) × ((reply_setup s input).bytes ≡ (one_frame (state s held) input).bytes)
unfolding reply_setup answer_setup one_frame answer
same_reply s held input = by (setup_frame s.due input) (eqb (setup_frame s.due input) 0) refl refl
  where
    by : (n : ℕ) (b : Bool) → n ≡ setup_frame s.due input → eqb n 0 ≡ b
        → Same (cond b (silent s) (by_due s.due s (take n input))) (cond {A = Answer} b (record { after = state s held; bytes = [] }) (answer_due s.due (state s held) (take n input))) held
    by n true e q = (refl, refl)
    by n false e q = same_due s.due s held input (take n input) (omega (arith, positive n (eqb-false _ _ q)))

setup_within : (due : Due) (input : List ℕ) → setup_frame due input ≤ length input
unfolding setup_frame
setup_within due input = by (in_setup due)
  where
    frame : (n : ℕ) → n ≡ whole_frame input → whole_frame input ≤ length input
    frame zero e = omega arith
    frame (suc n) e = (frame_within input (omega arith)).1

    by : (b : Bool) → cond b (whole_frame input) 0 ≤ length input
    by true = frame (whole_frame input) refl
    by false = omega arith

pub stood : (session : Session) (input out held after : List ℕ) (a : Turn)
    → in_flight session.due ≡ false
    → a ≡ set_up session input out
    → after ≡ frame_written (reply_setup session input).bytes out
    → Fronted session input out held after held a
unfolding turn one_frame
stood session input out held after a d e w =
    let same = same_reply session held input in
    let q = setup_within session.due input in
    rw (d, e, ← same.1) (same.0, (refl, (refl, (w, q))))
