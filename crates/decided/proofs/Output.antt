-- What the output looks like: frames of kind 4, and at most one of kind 255, at its end. Assumes nothing.
use Rattle.flight.specs.declared.FlightError.{FlightError}
use Rattle.types.specs.declared.Telemetry.{Telemetry}
use Rattle.wire.specs.declared.FrameError.{FrameError}
use Rattle.std.specs.Prelude.{Result, Ok, Err}
use Prim.Native.Nat.{ℕ, zero, suc, ◌<◌}
use native.Mathlib.Omega.{arith}
use mathlib.Core.Bool.{Bool, true, false, ◌||◌, cond}
use mathlib.Core.List.{List, [], ◌++◌, append-nil}
use mathlib.Core.Path.{◌≡◌, refl, ◌∙◌}
use lib.Dec.{eqb}
use lib.ListN.{length, take, drop}
use borrow.Author.Tests.{ne_eqb}
use Rattle.config.specs.declared.Config.{Config}
use Rattle.supervisor.specs.declared.Supervisor.{Supervisor}
use Rattle.wire.specs.Frame.{whole_frame, frame_error_number}
use Rattle.frame_config.specs.ConfigFrame.{read_config}
use Rattle.frame_fence.specs.FenceFrame.{read_fence}
use Rattle.frame_areas.specs.AreasFrame.{areas_fault}
use Rattle.frame_telemetry.specs.TelemetryFrame.{read_telemetry}
use Rattle.frame_refusal.specs.RefusalFrame.{refusal_frame}
use Rattle.flight.specs.declared.Flight.{Flight}
use Rattle.flight.specs.Flight.{step_flight, flight_error_number, after_fence}
use Rattle.stream.specs.declared.Due.{Due}
use Rattle.stream.specs.Stream.{Flown, refusal, after_config, after_flight, begin, in_setup, in_flight, answer_config, answer_fence, after_telemetry, after_areas, takes_areas, answer_frame, end_bytes}
use Rattle.decided.specs.Decided.{State, Output, ended, refused, stepped, begun, answer_due, answer, front_frame, written_in, written_from, decided}
use Rattle.decided.proofs.Whole.{turn_end, written_end}

-- after a refusal nothing more is written
pub nothing_in : (turns : ℕ) (s : State) (input : List ℕ) → s.due ≡ Due.Nothing → written_in turns s input ≡ []
unfolding front_frame end_bytes
nothing_in turns s input e = turn_end turns s input (rw e) ∙ rw e (at (eqb (length input) 0))
  where
    at : (b : Bool) → ◌≡◌ {A = List ℕ} (cond b [] []) []
    at true = refl
    at false = refl

pub nothing_more : (s : State) (input : List ℕ) → s.due ≡ Due.Nothing → written_from s input ≡ []
unfolding written_from
nothing_more s input e = nothing_in (length input) s input e

-- an answer, and what is written behind it: nothing, where nothing is due after it
config_output : (r : Result Config FrameError) (more : List ℕ) → ((after_config r).after.due ≡ Due.Nothing → more ≡ []) → Output more → Output ((after_config r).bytes ++ more)
unfolding refusal
config_output (Err d) more h o = rw (h refl, append-nil) (refused (frame_error_number d))
config_output (Ok cfg) more h o = o

fence_output : (cfg : Config) (frame more : List ℕ) → ((answer_fence cfg frame).after.due ≡ Due.Nothing → more ≡ []) → Output more → Output ((answer_fence cfg frame).bytes ++ more)
unfolding answer_fence refusal
fence_output cfg frame more h o =
    at (after_fence cfg (read_fence frame)) h
  where
    at : (r : Result Flight FlightError) → ((after_flight r).after.due ≡ Due.Nothing → more ≡ []) → Output ((after_flight r).bytes ++ more)
    at (Ok f) h = o
    at (Err e) h = rw (h refl, append-nil) (refused (flight_error_number e))

telemetry_output : (r : Result Telemetry FrameError) (f : Flight) (s : Supervisor) (areas more : List ℕ) → ((after_telemetry r f s areas).due ≡ Due.Nothing → more ≡ []) → Output more → Output ((after_telemetry r f s areas).bytes ++ more)
telemetry_output (Err d) f s areas more h o = rw (h refl, append-nil) (refused (frame_error_number d))
telemetry_output (Ok t) f s areas more h o = stepped (step_flight f areas s t).decision o

areas_output : (s : Supervisor) (areas frame more : List ℕ) → ((after_areas s areas frame).due ≡ Due.Nothing → more ≡ []) → Output more → Output ((after_areas s areas frame).bytes ++ more)
unfolding after_areas
areas_output s areas frame more h o = at (areas_fault frame) (eqb (areas_fault frame) 0) h
  where
    at : (n : ℕ) (b : Bool)
        → ((cond {A = Flown} b (record { due = Due.AfterAreas; supervisor = s; areas = frame; bytes = [] }) (record { due = Due.Nothing; supervisor = s; areas = areas; bytes = refusal_frame n })).due ≡ Due.Nothing → more ≡ [])
        → Output ((cond {A = Flown} b (record { due = Due.AfterAreas; supervisor = s; areas = frame; bytes = [] }) (record { due = Due.Nothing; supervisor = s; areas = areas; bytes = refusal_frame n })).bytes ++ more)
    at n true h = o
    at n false h = rw (h refl, append-nil) (refused n)

frame_output : (f : Flight) (due : Due) (s : Supervisor) (areas frame more : List ℕ) → ((answer_frame f due s areas frame).due ≡ Due.Nothing → more ≡ []) → Output more → Output ((answer_frame f due s areas frame).bytes ++ more)
unfolding answer_frame
frame_output f due s areas frame more h o = at (takes_areas due frame) h
  where
    at : (b : Bool)
        → ((cond b (after_areas s areas frame) (after_telemetry (read_telemetry frame) f s areas)).due ≡ Due.Nothing → more ≡ [])
        → Output ((cond b (after_areas s areas frame) (after_telemetry (read_telemetry frame) f s areas)).bytes ++ more)
    at true h = areas_output s areas frame more h o
    at false h = telemetry_output (read_telemetry frame) f s areas more h o

answer_output : (due : Due) (s : State) (frame more : List ℕ) → ((answer_due due s frame).after.due ≡ Due.Nothing → more ≡ []) → Output more → Output ((answer_due due s frame).bytes ++ more)
unfolding answer_config
answer_output Due.Config s frame more h o = config_output (read_config frame) more h o
answer_output Due.Fence s frame more h o = fence_output s.flight.cfg frame more h o
answer_output Due.Telemetry s frame more h o = frame_output s.flight Due.Telemetry s.supervisor s.areas frame more h o
answer_output Due.AfterAreas s frame more h o = frame_output s.flight Due.AfterAreas s.supervisor s.areas frame more h o
answer_output Due.Nothing s frame more h o = o

end_output : (due : Due) (rest : ℕ) → Output (end_bytes due rest)
unfolding end_bytes
end_output due rest = at (eqb rest 0) (in_setup due || in_flight due)
  where
    at : (a b : Bool) → Output (cond a [] (cond b (refusal_frame 1) []))
    at true b = ended
    at false true = refused 1
    at false false = ended

output_in : (turns : ℕ) (s : State) (input : List ℕ) → Output (written_in turns s input)
unfolding written_in answer
output_in zero s input = end_output s.due (length input)
output_in (suc turns) s input =
    let n = front_frame s.due input in
    let a = answer s (take n input) in
    by (eqb n 0) (answer_output s.due s (take n input) (written_in turns a.after (drop n input)) (λ e. nothing_in turns a.after (drop n input) e) (output_in turns a.after (drop n input)))
  where
    by : (b : Bool)
        → (let n = front_frame s.due input in let a = answer s (take n input) in Output (a.bytes ++ written_in turns a.after (drop n input)))
        → (let n = front_frame s.due input in let a = answer s (take n input) in Output (cond b (end_bytes s.due (length input)) (a.bytes ++ written_in turns a.after (drop n input))))
    by true o = end_output s.due (length input)
    by false o = o

-- every output: kind 4 frames, and at most one kind 255 frame, at its end
pub output_is : (input : List ℕ) → Output (decided input)
unfolding decided written_from
output_is input = output_in (length input) begun input

-- ---- "even before the first frame"

pub of_nothing : decided [] ≡ []
unfolding decided written_from written_in end_bytes
of_nothing = refl

-- an input that ends inside its first frame: refusal 1
pub of_a_part : (input : List ℕ) → 0 < length input → whole_frame input ≡ 0 → decided input ≡ refusal_frame 1
unfolding decided begun begin front_frame end_bytes
of_a_part input h e = written_end begun input e ∙ rw (ne_eqb (length input) 0 (λ z. omega arith))
