-- What a run needs of each form of a state's frame: its size, that it reads back, and that a step keeps a state within it. Assumes nothing.
use Prim.Native.Nat.{ℕ}
use mathlib.Core.Bool.{Bool, true, false}
use mathlib.Core.List.{List}
use mathlib.Core.Path.{◌≡◌, refl, ap, sym, subst, ◌∙◌}
use lib.ListN.{length, replicate}
use Rattle.config.specs.declared.Config.{Config}
use Rattle.supervisor.specs.declared.Supervisor.{Supervisor}
use Rattle.supervisor.specs.Settings.{Site, Fed, fed_at}
use Rattle.supervisor.specs.Step.{fresh_supervisor, step}
use Rattle.supervisor.specs.Rules.{Rules, RaisedFits}
use Rattle.supervisor.proofs.Rules.{fresh_fits, step_fits}
use Rattle.wire.specs.Fields.{Bytes, u8_at, number_at, u16_at, le_bytes, le16}
use Rattle.std.specs.Prelude.{Result, Ok, Err}
use Rattle.wire.specs.declared.FrameError.{FrameError}
use Rattle.wire.specs.Frame.{check_frame, frame_head}
use Rattle.wire.proofs.Read.{accepted, behind_head}
use Rattle.instants.specs.Retimed.{Stamps, telemetry_at as telemetry_on64}
use Rattle.frame_state.specs.StateFrame.{state_frame, Typed}
use Rattle.frame_state.proofs.Size.{size}
use Rattle.frame_state.proofs.Trips.{value_back as base_value_back}
use Rattle.types.specs.declared.Telemetry.{Telemetry}
use Rattle.frame_telemetry.specs.TelemetryFrame.{telemetry_at, telemetry_valid, read_telemetry}
use Rattle.frame_wide.specs.WideTelemetry.{telemetry_on, wide_stamps, with_stamps, read_wide_telemetry}
use Rattle.frame_wide_trips.specs.Claim.{TypedWide}
use Rattle.frame_wide_trips.proofs.Claim.{state_laws}
use Rattle.calls.specs.Form.{Form, base, wide, state_size, read_state_of, state_frame_of, read_telemetry_of, telemetry_in, settings_of, form_of}
use Rattle.run.specs.Run.{Beside}
use Rattle.run.proofs.Typed.{fresh_typed, step_typed, read_now, read_position}
use Rattle.run.proofs.Wide.{fresh_typed_wide, step_typed_wide}

-- ---- the laws of a frame

abbrev pub TypedOf : Form → Supervisor → Type 0
TypedOf (base keeps) x = Typed x
TypedOf wide x = TypedWide x

-- what is raised fits the frame
abbrev pub FitsOf : Form → Supervisor → Type 0
FitsOf (base keeps) x = RaisedFits keeps x
FitsOf wide x = RaisedFits false x

pub state_size_lem : (form : Form) (x : Supervisor) → length (state_frame_of form x) ≡ state_size form
state_size_lem (base keeps) x = size keeps x
state_size_lem wide x = state_laws.size x

pub value_back : (form : Form) (x : Supervisor) → TypedOf form x → Rules x → FitsOf form x → read_state_of form (state_frame_of form x) ≡ Ok x
value_back (base keeps) x = base_value_back keeps x
value_back wide x = state_laws.value_back x

base_kind : (x : Supervisor) → u16_at (state_frame false x) 2 ≡ 5
unfolding u16_at number_at u8_at state_frame frame_head le16 le_bytes
base_kind x = refl

-- the frame's own form is the one that is due
pub due : (form : Form) (cfg : Config) (x : Supervisor) → Beside form cfg → form_of cfg.keeps_raised (state_frame_of form x) ≡ form
unfolding form_of
due (base true) cfg x h = rw h refl
due (base false) cfg x h = rw (h, base_kind x) refl
due wide cfg x h = rw (h, state_laws.kind x) refl

-- ---- telemetry that is read is that of its fields

wide_in : (j : Stamps) (r : Result Telemetry FrameError) (u t : Telemetry) → ((v : Telemetry) → r ≡ Ok v → u ≡ v) → with_stamps j r ≡ Ok t → telemetry_on64 j u ≡ t
wide_in j (Ok v) u t is e = ap (telemetry_on64 j) (is v refl) ∙ cc
wide_in j (Err d) u t is e = cc

base_in : (s : List ℕ) (t : Telemetry) → read_telemetry s ≡ Ok t → telemetry_at s ≡ t
unfolding read_telemetry
base_in s t e = (accepted (check_frame 3 104 s) (telemetry_valid s) (telemetry_at s) t e).1.1

pub telemetry_in_lem : (form : Form) (s : List ℕ) (t : Telemetry) → read_telemetry_of form s ≡ Ok t → telemetry_in form s ≡ t
unfolding read_wide_telemetry
telemetry_in_lem (base keeps) s t e = base_in s t e
telemetry_in_lem wide s t e =
    let marked = telemetry_on (replicate 11 0) s in
    wide_in (wide_stamps s) (read_telemetry marked) (telemetry_at marked) t (base_in marked) (behind_head (check_frame 9 148 s) _ t e).1

-- ---- a fresh state, and a step

pub fresh_typed_of : (form : Form) → TypedOf form fresh_supervisor
fresh_typed_of (base keeps) = fresh_typed
fresh_typed_of wide = fresh_typed_wide

pub fresh_fits_of : (form : Form) → FitsOf form fresh_supervisor
fresh_fits_of (base keeps) = fresh_fits keeps
fresh_fits_of wide = fresh_fits false

pub step_typed_of : (form : Form) (cfg : Config) (x : Supervisor) (site : Site) (telemetry : List ℕ) → Bytes telemetry → TypedOf form x → TypedOf form (step (settings_of form cfg) x (fed_at site (telemetry_in form telemetry))).supervisor
step_typed_of (base keeps) cfg x site telemetry bytes h = step_typed (settings_of (base keeps) cfg) x (fed_at site (telemetry_at telemetry)) h (read_now telemetry bytes) (read_position telemetry bytes)
step_typed_of wide cfg x site telemetry bytes h = step_typed_wide cfg x site telemetry bytes h

pub step_fits_of : (form : Form) (cfg : Config) → Beside form cfg → (x : Supervisor) (fed : Fed) → FitsOf form x → FitsOf form (step (settings_of form cfg) x fed).supervisor
step_fits_of (base keeps) cfg beside x fed h = subst (λ (b : Bool). RaisedFits b (step (settings_of (base keeps) cfg) x fed).supervisor) beside (step_fits (settings_of (base keeps) cfg) x fed (subst (λ (b : Bool). RaisedFits b x) (sym beside) h))
step_fits_of wide cfg beside x fed h = subst (λ (b : Bool). RaisedFits b (step (settings_of wide cfg) x fed).supervisor) beside (step_fits (settings_of wide cfg) x fed (subst (λ (b : Bool). RaisedFits b x) (sym beside) h))
