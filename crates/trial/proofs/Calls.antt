-- A call, case by case. Assumes nothing.
use Rattle.std.specs.Prelude.{Ok, Err}
use Rattle.std.proofs.Common.{◌≡◌, ℕ, ◌<◌, ◌≤◌, Bool, true, false, cond, ltb, List, ◌++◌, length, drop, sym, refl, ap, ◌∙◌, append-nil, arith, ltb-false, le-ltb, lt-ltb}
use lib.Seq.{sets, drop-length}
use Rattle.types.specs.declared.Telemetry.{Telemetry}
use Rattle.wire.specs.Fields.{byte_below, le_bytes, le32, le_flag}
use Rattle.wire.specs.Frame.{frame_written}
use Rattle.wire.proofs.Stores.{stored}
use Rattle.frame_telemetry.specs.TelemetryFrame.{telemetry_frame}
use Rattle.frame_telemetry.proofs.Size.{size}
use Rattle.trial.specs.declared.Generator.{Generator}
use Rattle.wire.specs.declared.FrameError.{FrameError}
use Rattle.trial.specs.Trial.{next_frame}
use Rattle.trial.specs.Call.{generator_at, generator_bytes, read_generator, declined, made, trial_call}

module _ {x : Generator} (g o : List ℕ) (e : read_generator g ≡ Ok x) where
  pub no_room : length o < 106 → trial_call g o ≡ declined FrameError.NoRoom g o
  unfolding trial_call
  no_room h = rw (e, lt-ltb (length o) 106 h)

  pub makes : 106 ≤ length o → trial_call g o ≡ made (next_frame x) o
  unfolding trial_call
  makes h = rw (e, le-ltb (length o) 106 h)

-- a generator that is read has nine bytes
pub read_is : {x : Generator} (s : List ℕ) → read_generator s ≡ Ok x → (length s ≡ 9) × (generator_at s ≡ x)
unfolding read_generator
read_is {x} s h = go (ltb (length s) 9) (ltb 9 (length s)) (byte_below s 8 2) refl refl h
  where
    go :
        (a b d : Bool) → ltb (length s) 9 ≡ a → ltb 9 (length s) ≡ b →
        cond a (Err FrameError.Incomplete) (cond b (Err FrameError.WrongLength) (cond d (Ok (generator_at s)) (Err FrameError.OutOfRange))) ≡ Ok x →
        (length s ≡ 9) × (generator_at s ≡ x)
    go true b d p q e = absurd cc
    go false true d p q e = absurd cc
    go false false false p q e = absurd cc
    go false false true p q e = (omega (arith, ltb-false (length s) 9 p, ltb-false 9 (length s) q), cc)

pub nine_bytes : (g : Generator) → length (generator_bytes g) ≡ 9
unfolding generator_bytes le_bytes le32 le_flag
nine_bytes g = refl

-- a generator's bytes fill its slice
pub filled : (s : List ℕ) (g : Generator) → length s ≡ 9 → sets s 0 (generator_bytes g) ≡ generator_bytes g
filled s g e =
    stored s (generator_bytes g) (omega (arith, nine_bytes g))
    ∙ ap (λ (n : ℕ). generator_bytes g ++ drop n s) (nine_bytes g ∙ sym e)
    ∙ ap (λ (r : List ℕ). generator_bytes g ++ r) (drop-length s)
    ∙ append-nil (generator_bytes g)

-- a frame that is written where there is room
pub frame_first : (t : Telemetry) (o : List ℕ) → 106 ≤ length o → frame_written (telemetry_frame t) o ≡ telemetry_frame t ++ drop 106 o
unfolding frame_written
frame_first t o h = simp (size t, le-ltb (length o) 106 h)
