-- What L10 says of the merged frame, for every call of the entry. Assumes nothing.
use Rattle.flight.specs.declared.Flight.{Flight}
use Rattle.std.specs.Prelude.{ℕ, ◌≤◌, ◌≡◌, List, ◌∷◌, ◌++◌, length, drop, Ok}
use Rattle.types.specs.declared.Telemetry.{Telemetry}
use Rattle.wire.specs.Fields.{Bytes}
use Rattle.wire.specs.Cell.{U16, sorts_of, NoNan, nan_rewritten}
use Rattle.frame_telemetry.specs.TelemetryFrame.{read_telemetry, telemetry_cells, telemetry_frame}
use Rattle.flight.specs.Flight.{read_flight}
use Rattle.merge.specs.Claims.{Merged}
use Rattle.merge_frames.specs.Call.{merge_call}

-- a call that answered 0: both frames were accepted at one clock reading; the frame m stands in the first 106 bytes and later bytes stay; "The merged
-- frame holds no reading that neither had, and is accepted by the reader. What isn't optional is the first radio's."
pub record Succeeded (first second output after : List ℕ) : Type 0 where
  pub a : Telemetry
  pub b : Telemetry
  pub m : Telemetry
  pub first_read : read_telemetry first ≡ Ok a
  pub second_read : read_telemetry second ≡ Ok b
  pub clock : a.now_ms ≡ b.now_ms
  pub written : after ≡ telemetry_frame m ++ drop 106 output
  pub accepted : read_telemetry (telemetry_frame m) ≡ Ok m
  pub readings : Merged a b m

abbrev pub MergeClaim : Type 0
MergeClaim =
    (config fence first second output : List ℕ) → Bytes first → Bytes second →
    (merge_call config fence first second output).number ≡ 0 → Succeeded first second output (merge_call config fence first second output).output

-- "the output is untouched"
abbrev pub DeclinedClaim : Type 0
DeclinedClaim =
    (config fence first second output : List ℕ) → ((merge_call config fence first second output).number ≡ 0 → ⊥) →
    (merge_call config fence first second output).output ≡ output

-- two equal frames merge to themselves: up to the bits of a NaN, and to the very bytes where there is none
pub record Itself (s output after : List ℕ) (t : Telemetry) : Type 0 where
  pub rewritten : after ≡ nan_rewritten (U16 ∷ U16 ∷ sorts_of (telemetry_cells t)) s 0 ++ drop 106 output
  pub same : NoNan (U16 ∷ U16 ∷ sorts_of (telemetry_cells t)) s 0 → after ≡ s ++ drop 106 output

abbrev pub ItselfClaim : Type 0
ItselfClaim =
    (config fence s output : List ℕ) (g : Flight) (t : Telemetry) → Bytes s → read_flight config fence ≡ Ok g →
    read_telemetry s ≡ Ok t → 106 ≤ length output →
    ((merge_call config fence s s output).number ≡ 0) × Itself s output (merge_call config fence s s output).output t
