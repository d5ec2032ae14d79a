-- A flight that is accepted has the capacity that stands at byte 5 of its configuration: so merging after a check is merging. Assumes nothing.
use Rattle.flight.specs.Flight.{read_flight, refusal}
use Rattle.flight.specs.declared.FlightError.{FlightError}
use Rattle.flight.specs.declared.Flight.{Flight}
use Rattle.wire.specs.declared.FrameError.{FrameError}
use Rattle.std.specs.Result.{result_and}
use Rattle.std.specs.Prelude.{Result, Ok, Err, ⊤}
use Prim.Native.Nat.{ℕ}
use mathlib.Core.Path.{◌≡◌, refl, sym, ap, ◌∙◌}
use mathlib.Core.Bool.{Bool, true, false, cond}
use lib.Dec.{eqb}
use borrow.Author.Tests.{eqb-true, eqb-false}
use Rattle.flight.proofs.Numbers.{no_flight_zero}
use mathlib.Core.List.{List}
use native.Mathlib.Omega.{arith}
use lib.Ieee.{Float}
use Rattle.wire.specs.Fields.{f32_at}
use Rattle.config.specs.declared.Config.{Config}
use Rattle.frame_config.specs.ConfigFrame.{check_config_frame, keeps_raised, config_at, read_config}
use Rattle.frame_telemetry.specs.TelemetryFrame.{read_telemetry}
use Rattle.flight.proofs.Read.{settings_read}
use Rattle.merge_frames.specs.Call.{declined, after_first, after_flight, merge_call, merge_accepted, merge_checked}

-- a configuration that is read is that of its bytes
config_is : (s : List ℕ) (cfg : Config) → read_config s ≡ Ok cfg → cfg ≡ config_at s (keeps_raised s)
unfolding read_config
config_is s cfg h = at (check_config_frame s) h
  where
    at : (a : Result ⊤ FrameError) → result_and a (Ok (config_at s (keeps_raised s))) ≡ Ok cfg → cfg ≡ config_at s (keeps_raised s)
    at (Ok tt) e = let v : config_at s (keeps_raised s) ≡ cfg = cc in sym v
    at (Err x) e = let z : ◌≡◌ {A = ℕ} 0 1 = cc in absurd (omega arith)

capacity_at : (config fence : List ℕ) (f : Flight) → read_flight config fence ≡ Ok f → f32_at config 5 ≡ f.cfg.usable_capacity_wh
unfolding config_at
capacity_at config fence f h = ap (λ (cfg : Config). cfg.usable_capacity_wh) (sym (config_is config f.cfg (settings_read f config fence h)))

pub after_check : (config fence first second output : List ℕ) (f : Flight) → read_flight config fence ≡ Ok f → merge_accepted config first second output ≡ merge_call config fence first second output
unfolding merge_accepted merge_call
after_check config fence first second output f h =
    ap (λ (cap : Float). after_first cap (read_telemetry first) second output) (capacity_at config fence f h)
    ∙ sym (ap (λ (r : Result Flight FlightError). after_flight r first second output) h)

-- a check that answers 0 leaves the merge, and any other number declines it
pub after_0 : (config fence first second output : List ℕ) → 0 ≡ refusal (read_flight config fence) → merge_accepted config first second output ≡ merge_call config fence first second output
after_0 config fence first second output h = at (read_flight config fence) refl h
  where
    at : (r : Result Flight FlightError) → read_flight config fence ≡ r → 0 ≡ refusal r → merge_accepted config first second output ≡ merge_call config fence first second output
    at (Ok f) p z = after_check config fence first second output f p
    at (Err e) p z = absurd (no_flight_zero e (sym z))

pub after_refusal : (config fence first second output : List ℕ) (n : ℕ) → n ≡ refusal (read_flight config fence) → eqb n 0 ≡ false → merge_call config fence first second output ≡ declined n output
unfolding merge_call
after_refusal config fence first second output n h z = at (read_flight config fence) h
  where
    at : (r : Result Flight FlightError) → n ≡ refusal r → after_flight r first second output ≡ declined n output
    at (Ok f) e = absurd (eqb-false n 0 z e)
    at (Err x) e = ap (λ (m : ℕ). declined m output) (sym e)

-- so a merge behind the check is the merge
pub checked : (config fence first second output : List ℕ) → merge_checked (refusal (read_flight config fence)) config first second output ≡ merge_call config fence first second output
unfolding merge_checked
checked config fence first second output = at (eqb (refusal (read_flight config fence)) 0) refl
  where
    n : ℕ
    n = refusal (read_flight config fence)

    at : (b : Bool) → eqb n 0 ≡ b → cond b (merge_accepted config first second output) (declined n output) ≡ merge_call config fence first second output
    at true e = after_0 config fence first second output (sym (eqb-true n 0 e))
    at false e = sym (after_refusal config fence first second output n refl e)
