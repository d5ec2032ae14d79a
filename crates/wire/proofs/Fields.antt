-- One field of each sort: the value, its bytes, the value; and the bytes, their value, the bytes. Assumes nothing.
use Prim.Native.Nat.{ℕ, zero, suc, ◌<◌, ◌^◌}
use mathlib.Core.Path.{◌≡◌, ◌∙◌, ap, refl}
use mathlib.Core.List.{List, [], ◌∷◌}
use mathlib.Core.Bool.{Bool, true, false, not}
use native.Mathlib.Omega.{arith}
use lib.Dec.{T, eqb}
use lib.Ieee.{Float, nan, binary32, fits, is_nan, of_bits, to_bits}
use lib.Ieee.Bits.{of_bits-to_bits, to_bits-of_bits, to_bits-lt, of_bits-fits}
use borrow.Author.Tests.{ltb-true}
use Rattle.wire.specs.Fields.{Bytes, u8_at, u16_at, u32_at, f32_at, flag_at, byte_below, le16, le32, le_f32, le_flag, bytes_from, le_bytes}
use Rattle.wire.proofs.Number.{bytes_number, number_bytes, number_lt}

pub u16_back : (n : ℕ) → n < 2 ^ 16 → u16_at (le16 n) 0 ≡ n
unfolding u16_at le16
u16_back n h = bytes_number 2 n h

pub u32_back : (n : ℕ) → n < 2 ^ 32 → u32_at (le32 n) 0 ≡ n
unfolding u32_at le32
u32_back n h = bytes_number 4 n h

pub f32_back : (x : Float) → T (fits binary32 x) → f32_at (le_f32 x) 0 ≡ x
unfolding f32_at le_f32
f32_back x h = ap (of_bits binary32) (u32_back (to_bits binary32 x) (to_bits-lt binary32 x h)) ∙ of_bits-to_bits binary32 x h

pub flag_back : (b : Bool) → flag_at (le_flag b) 0 ≡ b
unfolding u8_at flag_at le_flag
flag_back true = refl
flag_back false = refl

pub flag_valid : (b : Bool) → byte_below (le_flag b) 0 2 ≡ true
unfolding u8_at byte_below le_flag
flag_valid true = refl
flag_valid false = refl

pub u16_bytes : (s : List ℕ) (i : ℕ) → Bytes s → le16 (u16_at s i) ≡ bytes_from s i 2
unfolding u16_at le16
u16_bytes s i b = number_bytes 2 s i b

pub u32_bytes : (s : List ℕ) (i : ℕ) → Bytes s → le32 (u32_at s i) ≡ bytes_from s i 4
unfolding u32_at le32
u32_bytes s i b = number_bytes 4 s i b

-- a float that is no NaN has one pattern
pub f32_bytes : (s : List ℕ) (i : ℕ) → Bytes s → T (not (is_nan (f32_at s i))) → le_f32 (f32_at s i) ≡ bytes_from s i 4
unfolding u32_at f32_at le_f32
f32_bytes s i b h = ap le32 (to_bits-of_bits binary32 (u32_at s i) (number_lt 4 s i b) h) ∙ u32_bytes s i b

-- "Written NaNs are 7FC00000"
pub nan_bytes : le_f32 nan ≡ 0x00 ∷ 0x00 ∷ 0xc0 ∷ 0x7f ∷ []
unfolding le_f32 le32 le_bytes to_bits
nan_bytes = refl

below_two : (x : ℕ) → x < 2 → le_flag (eqb x 1) ≡ x ∷ []
unfolding le_flag
below_two zero h = refl
below_two (suc zero) h = refl
below_two (suc (suc n)) h = absurd (omega arith)

pub flag_bytes : (s : List ℕ) (i : ℕ) → byte_below s i 2 ≡ true → le_flag (flag_at s i) ≡ bytes_from s i 1
unfolding u8_at flag_at byte_below
flag_bytes s i h = below_two (u8_at s i) (ltb-true (u8_at s i) 2 h)

-- what was read is within its type
pub u32_lt : (s : List ℕ) (i : ℕ) → Bytes s → u32_at s i < 2 ^ 32
unfolding u32_at
u32_lt s i b = number_lt 4 s i b

pub f32_fits : (s : List ℕ) (i : ℕ) → T (fits binary32 (f32_at s i))
unfolding f32_at
f32_fits s i = of_bits-fits binary32 (u32_at s i)
