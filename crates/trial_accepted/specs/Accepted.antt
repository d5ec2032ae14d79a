-- "Every frame made is shown to be accepted by the telemetry reader." Assumes nothing.
use Rattle.std.specs.Prelude.{ℕ, ◌^◌, ◌<◌, ◌≤◌, ◌≡◌, List, [], ◌∷◌, ◌++◌, length, take, replicate, Ok}
use Rattle.wire.specs.Fields.{le32}
use Rattle.frame_telemetry.specs.TelemetryFrame.{read_telemetry}
use Rattle.trial.specs.Trial.{next_frame}
use Rattle.trial.specs.Call.{generator_at, trial_call, first_of, onward}

-- a generator before its first frame: the seed and five zeros
unfoldable pub seeded : ℕ → List ℕ
seeded seed = le32 seed ++ replicate 5 0

-- the generator after a list of calls with these outputs, the latest first
unfoldable pub generator_after : ℕ → List (List ℕ) → List ℕ
generator_after seed [] = seeded seed
generator_after seed (output ∷ outputs) = (trial_call (generator_after seed outputs) output).generator

-- each output has room for a frame
abbrev pub EachRoom : List (List ℕ) → Type 0
EachRoom [] = Unit {0}
EachRoom (output ∷ outputs) = (106 ≤ length output) × EachRoom outputs

-- "Every frame made is shown to be accepted by the telemetry reader."
pub record FramesAccepted : Type 0 where
  -- of any call that answers 0, whatever the generator
  pub one_call :
      (generator output : List ℕ) → (trial_call generator output).number ≡ 0 →
      read_telemetry (take 106 (trial_call generator output).output) ≡ Ok (next_frame (generator_at generator)).telemetry
  -- after any calls from any seed, a call with room answers 0
  pub answered : (seed : ℕ) (outputs : List (List ℕ)) (output : List ℕ) → 106 ≤ length output → (trial_call (generator_after seed outputs) output).number ≡ 0
  -- and its frame is the one that the generator is due to make
  pub in_order : (seed : ℕ) (outputs : List (List ℕ)) → seed < 2 ^ 32 → EachRoom outputs → generator_at (generator_after seed outputs) ≡ onward (length outputs) (first_of seed)
