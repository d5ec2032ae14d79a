-- Readings that are tested and read at once: what their bytes tell, and what their answer tells of the bytes. Assumes nothing.
use Rattle.std.specs.Prelude.{Result, Err}
use Rattle.std.specs.Result.{result_or, result_unwrap_or}
use Prim.Native.Nat.{ℕ, zero, suc, ◌+◌, ◌*◌, ◌<◌}
use mathlib.Core.Path.{◌≡◌, ◌∙◌, ap, refl, sym}
use mathlib.Core.List.{List}
use mathlib.Core.Bool.{Bool, true, false, cond, ◌&&◌, and_assoc, and-true}
use native.Mathlib.Omega.{arith}
use lib.Dec.{eqb, ltb}
use borrow.Author.Tests.{eqb-true, eq-eqb, ne_eqb, le-ltb}
use Rattle.wire.specs.Fields.{u8_at, flag_at, u32_at}
use Rattle.wire.proofs.Whole.{second}
use Rattle.options.specs.Options.{zeros, valid_option}
use Rattle.options.proofs.Options.{absent}
use Rattle.options.proofs.Zeros.{zeros_split, zeros_part, zeros_u8, zeros_u32, zero_below}
use Rattle.wire.specs.declared.FrameError.{FrameError}
use Rattle.types.specs.Numbers.{landed_of_number}
use Rattle.types.specs.declared.LandedState.{LandedState}
use Rattle.types.specs.declared.BatteryInputs.{BatteryInputs}
use Rattle.frame_telemetry.specs.Readings.{stamped_f32_at, stamped_bool_at, stamped_landed_at}
use Rattle.frame_telemetry.specs.Checked.{in_range, ◌>>=◌, position_field, sample_valid, gps_valid, gps_field, stamped_field, heartbeat_field, battery_field, telemetry_fields}
use Rattle.frame_telemetry.specs.TelemetryFrame.{telemetry_at, telemetry_tests, telemetry_valid, read_body}

-- ---- the flag
pub flag_set : (s : List ℕ) (i : ℕ) → u8_at s i ≡ 1 → flag_at s i ≡ true
unfolding flag_at
flag_set s i e = eq-eqb (u8_at s i) 1 e

pub flag_clear : (s : List ℕ) (i : ℕ) → (u8_at s i ≡ 1 → ⊥) → flag_at s i ≡ false
unfolding flag_at
flag_clear s i h = ne_eqb (u8_at s i) 1 h

-- the code's test of a reading whose flag is not 1: z for the bytes after it
pub tested : (s : List ℕ) (i n : ℕ) (z b : Bool) → (u8_at s i ≡ 1 → ⊥) → z ≡ zeros s (i + 1) n → (eqb (u8_at s i) 0 && z) ≡ b → valid_option s i n ≡ b
tested s i n z b h e t = absent s i n h ∙ (λ j. eqb (u8_at s i) 0 && sym e j) ∙ t

pub all_zero_lem : (s : List ℕ) (i n : ℕ) (z : Bool) → z ≡ zeros s (i + 1) n → (eqb (u8_at s i) 0 && z) ≡ true → zeros s (i + 1) n ≡ true
all_zero_lem s i n z e t = sym e ∙ second (eqb (u8_at s i) 0) z t

-- what `?` gives of a value whose bytes are refused
pub refused : {A B : Type 0} (b : Bool) (x : A) (y : B) (d e : FrameError) → in_range b x ≡ Err e → d ≡ e → Err d ≡ in_range b y
refused true x y d e h f = cc
refused false x y d e h f = cc

-- ---- bytes of 0, a word at a time
pub stamp_zero : (s : List ℕ) (i n : ℕ) (z b : Bool) → z ≡ zeros s (i + 1) 4 → b ≡ zeros s (i + 5) n → (z && b) ≡ zeros s (i + 1) (4 + n)
stamp_zero s i n z b e f =
    let five : i + 5 ≡ i + 1 + 4 = omega arith in
    (λ j. e j && (f ∙ ap (λ (k : ℕ). zeros s k n) five) j) ∙ sym (zeros_split s (i + 1) 4 n)

pub zero_word : (s : List ℕ) (at i w : ℕ) (z : Bool) → z ≡ zeros s at (4 * i) → w ≡ u32_at s (at + 4 * i) → (z && eqb w 0) ≡ zeros s at (4 * (i + 1))
zero_word s at i w z e f =
    let next : 4 * (i + 1) ≡ 4 * i + 4 = omega arith in
    (λ j. e j && (ap (λ (n : ℕ). eqb n 0) f ∙ sym (zeros_u32 s (at + 4 * i))) j) ∙ sym (ap (zeros s at) next ∙ zeros_split s at (4 * i) 4)

-- ---- bytes of 0 are in every range
zero_byte : (s : List ℕ) (i n j : ℕ) → j < n → zeros s i n ≡ true → u8_at s (i + j) ≡ 0
zero_byte s i n j h z = eqb-true (u8_at s (i + j)) 0 (sym (zeros_u8 s (i + j)) ∙ zeros_part s i n j 1 (omega arith) z)

-- a number that is no state's is out of range
pub landed_read : (n : ℕ) → result_or (landed_of_number n) (Err FrameError.OutOfRange) ≡ in_range (ltb n 5) (result_unwrap_or (landed_of_number n) LandedState.Undefined)
landed_read zero = refl
landed_read (suc zero) = refl
landed_read (suc (suc zero)) = refl
landed_read (suc (suc (suc zero))) = refl
landed_read (suc (suc (suc (suc zero)))) = refl
landed_read (suc (suc (suc (suc (suc n))))) = simp (le-ltb (suc (suc (suc (suc (suc n))))) 5 (omega arith))

zero_option : (s : List ℕ) (i n : ℕ) → u8_at s i ≡ 0 → zeros s (i + 1) n ≡ true → valid_option s i n ≡ true
unfolding valid_option
zero_option s i n e z = simp (eq-eqb (u8_at s i) 0 e) z

pub zero_sample_lem : (s : List ℕ) → zeros s 38 12 ≡ true → sample_valid s ≡ true
unfolding sample_valid
zero_sample_lem s z =
    let fix = zero_below 2 s 42 (zeros_part s 38 12 4 1 (omega arith) z) in
    let sats = zero_option s 43 1 (zero_byte s 38 12 5 (omega arith) z) (zeros_part s 38 12 6 1 (omega arith) z) in
    let hdop = zero_option s 45 4 (zero_byte s 38 12 7 (omega arith) z) (zeros_part s 38 12 8 4 (omega arith) z) in
    λ j. (fix j && sats j) && hdop j

-- ---- the readings of a frame, one after the other
then : {A B : Type 0} (b : Bool) (a : A) (f : A → Result B FrameError) → (in_range b a >>= f) ≡ cond b (f a) (Err FrameError.OutOfRange)
then true a f = refl
then false a f = refl

both : {A : Type 0} (b c : Bool) (x y : A) → cond b (cond c x y) y ≡ cond (b && c) x y
both true c x y = refl
both false c x y = refl

battery_valid : List ℕ → Bool
battery_valid s = valid_option s 50 8 && (valid_option s 59 8 && valid_option s 68 8)

battery_at : List ℕ → BatteryInputs
battery_at s = record { voltage_v = stamped_f32_at s 50; percent = stamped_f32_at s 59; remaining_wh = stamped_f32_at s 68 }

battery_is : (s : List ℕ) → battery_field s ≡ in_range (battery_valid s) (battery_at s)
unfolding battery_field stamped_field stamped_f32_at battery_valid battery_at
battery_is s = simp (then, both, and-true)

pub by_fields : (s : List ℕ) → telemetry_fields s ≡ read_body s
unfolding telemetry_fields position_field gps_field heartbeat_field stamped_field stamped_bool_at stamped_landed_at telemetry_at telemetry_tests telemetry_valid sample_valid gps_valid battery_valid battery_at
by_fields s = simp (battery_is s, then, both, and_assoc)
