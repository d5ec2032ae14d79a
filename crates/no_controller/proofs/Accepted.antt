-- What is read has a sound head: a state image is of its form's kind, and the telemetry of a call that steps is of its form's length. Assumes nothing.
use Prim.Native.Nat.{ℕ}
use mathlib.Core.Bool.{true, false}
use mathlib.Core.List.{List}
use mathlib.Core.Path.{◌≡◌, refl, ap, sym, ◌∙◌}
use lib.ListN.{length}
use Rattle.config.specs.declared.Config.{Config}
use Rattle.supervisor.specs.declared.Supervisor.{Supervisor}
use Rattle.std.specs.Prelude.{Result, Ok}
use Rattle.types.specs.declared.Telemetry.{Telemetry}
use Rattle.wire.specs.declared.FrameError.{FrameError}
use Rattle.wire.specs.Frame.{frame_number, check_frame}
use Rattle.wire.proofs.Head.{head_says}
use Rattle.wire.proofs.Read.{behind_head}
use Rattle.frame_state.specs.StateFrame.{read_state}
use Rattle.frame_telemetry.specs.TelemetryFrame.{read_telemetry}
use Rattle.frame_wide.specs.WideState.{read_wide_state}
use Rattle.frame_wide.specs.WideTelemetry.{read_wide_telemetry}
use Rattle.flight.specs.Flight.{read_flight}
use Rattle.calls.specs.Form.{Form, base, wide, read_state_of, read_telemetry_of, telemetry_in, form_of}
use Rattle.calls.specs.Entry.{flight_keeps, StepCall, after_state, from_state, step_any}
use Rattle.calls.proofs.Accepted.{accepted}
use Rattle.run.specs.Run.{Call, Beside, on, flight_of}
use Rattle.run.proofs.Run.{telemetry_read_lem}
use Rattle.no_controller.proofs.Bytes.{telemetry_size}

-- ---- the state

-- the form of an image that is read is the one that is due
pub due_read : (form : Form) (cfg : Config) (s : List ℕ) (x : Supervisor) → Beside form cfg → read_state_of form s ≡ Ok x → form_of cfg.keeps_raised s ≡ form
unfolding form_of read_state read_wide_state
due_read (base true) cfg s x h r = rw h refl
due_read (base false) cfg s x h r = rw (h, (head_says 5 184 s (ap frame_number (behind_head (check_frame 5 184 s) _ x r).0)).0) refl
due_read wide cfg s x h r = rw (h, (head_says 10 304 s (ap frame_number (behind_head (check_frame 10 304 s) _ x r).0)).0) refl

-- ---- the telemetry

telemetry_length : (form : Form) (s : List ℕ) (t : Telemetry) → read_telemetry_of form s ≡ Ok t → length s ≡ telemetry_size form
unfolding read_telemetry read_wide_telemetry
telemetry_length (base keeps) s t h = (head_says 3 104 s (ap frame_number (behind_head (check_frame 3 104 s) _ t h).0)).1.1
telemetry_length wide s t h = (head_says 9 148 s (ap frame_number (behind_head (check_frame 9 148 s) _ t h).0)).1.1

-- of a call that steps from a state image
pub stepped_length : (form : Form) (c : Call) (x : Supervisor) (state : List ℕ) → form_of (flight_keeps (flight_of c)) state ≡ form → read_state_of form state ≡ Ok x → (on c state).number ≡ 0 → length c.telemetry ≡ telemetry_size form
unfolding step_any
stepped_length form c x state is r z =
    let f = flight_of c in
    let call = (accepted c.with_side c.areas state c.telemetry c.output (read_flight c.config c.fence) z).call in
    telemetry_length form c.telemetry (telemetry_in form c.telemetry)
    (telemetry_read_lem c.with_side form f c.areas x c.telemetry state c.output
    (sym
    (ap (λ (q : StepCall). q.number) call
    ∙ ap (λ (g : Form). (from_state c.with_side g f c.areas state c.telemetry c.output).number) is
    ∙ ap (λ (q : Result Supervisor FrameError). (after_state c.with_side form q f c.areas state c.telemetry c.output).number) r)
    ∙ z))
