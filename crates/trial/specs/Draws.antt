-- The generator, and what a field makes of its draw. Assumes nothing.
use Rattle.std.specs.Result.{result_unwrap_or}
use Rattle.std.specs.Prelude.{ℕ, zero, suc, ◌+◌, ◌-◌, ◌*◌, ◌/◌, ◌%◌, ◌^◌, ◌<◌, Bool, cond, List, [], ◌∷◌, ◌++◌, pos, ◌==◌, from_bits, nat_lt, Float}
use Rattle.std.specs.Float.{binary32}
use Rattle.std.specs.Float.Ieee.{of_int}
use Rattle.std.specs.Float.Ieee.Exact.{HasValue}
use Rattle.float32.specs.Binary32.{sub_f, div_f}
use Rattle.types.specs.declared.GpsFix.{GpsFix}
use Rattle.types.specs.declared.LandedState.{LandedState}
use Rattle.types.specs.Numbers.{fix_of_number, landed_of_number}

-- "becoming x × 1,664,525 + 1,013,904,223 modulo 2^32"
unfoldable pub next : ℕ → ℕ
next x = (x * 1664525 + 1013904223) % 2 ^ 32

-- the generator after n draws; "each draw is the new x"
unfoldable pub drawn : ℕ → ℕ → ℕ
drawn zero x = x
drawn (suc n) x = next (drawn n x)

-- the first n draws
unfoldable pub draws_of : ℕ → ℕ → List ℕ
draws_of zero x = []
draws_of (suc n) x = draws_of n x ++ (drawn (suc n) x ∷ [])

-- "A stamp, or the heartbeat, is now_ms minus draw div 2^20, wrapping."
unfoldable pub stamp_of : ℕ → ℕ → ℕ
stamp_of now draw = (now + (2 ^ 32 - draw / 2 ^ 20)) % 2 ^ 32

-- "A flag or bool is the draw's top bit."
unfoldable pub flag_of : ℕ → Bool
flag_of draw = draw / 2 ^ 31 == 1

-- "An enum is draw div 65,536 modulo its number of cases."
unfoldable pub case_of : ℕ → ℕ → ℕ
case_of cases draw = draw / 65536 % cases

unfoldable pub fix_of : ℕ → GpsFix
fix_of draw = result_unwrap_or (fix_of_number (case_of 3 draw)) GpsFix.None

unfoldable pub landed_of : ℕ → LandedState
landed_of draw = result_unwrap_or (landed_of_number (case_of 5 draw)) LandedState.Undefined

-- "The satellite byte is draw div 2^24."
unfoldable pub byte_of : ℕ → ℕ
byte_of draw = draw / 2 ^ 24

-- 32,768; 8
abbrev pub middle : Float
middle = from_bits binary32 0x4700_0000

abbrev pub eight : Float
eight = from_bits binary32 0x4100_0000

-- "A float is (draw div 65,536 − 32,768) ÷ 8."
unfoldable pub float_of : ℕ → Float
float_of draw = div_f (sub_f (of_int binary32 (pos (draw / 65536))) middle) eight

-- nothing is rounded: the float is that many eighths, negative below 32,768, and +0 at it
unfoldable pub apart : ℕ → ℕ
apart k = cond (nat_lt k 32768) (32768 - k) (k - 32768)

abbrev pub FloatExact : Type 0
FloatExact = (draw : ℕ) → draw < 2 ^ 32 → HasValue (float_of draw) (nat_lt (draw / 65536) 32768) (apart (draw / 65536)) 8
