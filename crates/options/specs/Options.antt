-- Values that may be absent: "Option a byte 0 or 1 and then its value, all zero bytes where absent". Assumes nothing.
use Rattle.std.specs.Prelude.{ℕ, zero, suc, ◌+◌, List, ◌++◌, Bool, true, cond, ◌&&◌, eqb, Float, Option, Some, None, is_some, unwrap_or}
use Rattle.std.specs.Float.{binary32}
use Rattle.std.specs.Float.Ieee.{of_bits}
use Rattle.wire.specs.Fields.{u8_at, flag_at, u32_at, f32_at, le_flag, le8, le32, le_f32}

-- whether the n bytes from i are 0
unfoldable pub zeros : List ℕ → ℕ → ℕ → Bool
zeros s i zero = true
zeros s i (suc n) = eqb (u8_at s i) 0 && zeros s (i + 1) n

-- a byte 0 and n bytes 0 after it, or a byte 1
unfoldable pub valid_option : List ℕ → ℕ → ℕ → Bool
valid_option s i n = cond (eqb (u8_at s i) 0) (zeros s (i + 1) n) (eqb (u8_at s i) 1)

-- a value after its flag, where the flag is 1
abbrev pub option_at : {A : Type 0} → (List ℕ → ℕ → A) → List ℕ → ℕ → Option A
option_at value s i = cond (flag_at s i) (Some (value s (i + 1))) None

-- a flag and the value's bytes, or those of the value zero
abbrev pub le_option : {A : Type 0} → (A → List ℕ) → A → Option A → List ℕ
le_option bytes none o = le_flag (is_some o) ++ bytes (unwrap_or o none)

unfoldable pub option_u8_at : List ℕ → ℕ → Option ℕ
option_u8_at s i = option_at u8_at s i

unfoldable pub le_option_u8 : Option ℕ → List ℕ
le_option_u8 o = le_option le8 0 o

unfoldable pub option_u32_at : List ℕ → ℕ → Option ℕ
option_u32_at s i = option_at u32_at s i

unfoldable pub le_option_u32 : Option ℕ → List ℕ
le_option_u32 o = le_option le32 0 o

unfoldable pub option_f32_at : List ℕ → ℕ → Option Float
option_f32_at s i = option_at f32_at s i

-- +0, whose pattern is 0, for an absent float
unfoldable pub le_option_f32 : Option Float → List ℕ
le_option_f32 o = le_option le_f32 (of_bits binary32 0) o
