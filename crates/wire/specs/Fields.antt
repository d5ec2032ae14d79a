-- Fields of a frame in a list of bytes: read at a place, and written as bytes. "all little-endian", "bool a byte 0 or 1",
-- "Written NaNs are 7FC00000". Assumes nothing.
use Rattle.std.specs.Prelude.{ℕ, zero, suc, ◌+◌, ◌*◌, ◌/◌, ◌%◌, ◌<◌, List, [], ◌∷◌, Bool, cond, get_or, eqb, ltb, Float}
use Rattle.std.specs.Float.{binary32}
use Rattle.std.specs.Float.Ieee.{of_bits, to_bits}

-- the byte at i, and 0 past the end
unfoldable pub u8_at : List ℕ → ℕ → ℕ
u8_at s i = get_or s i 0

-- each element is a byte
unfoldable pub Bytes : List ℕ → Type 0
Bytes s = (k : ℕ) → u8_at s k < 256

-- the number of the w bytes from i, the lowest first
unfoldable pub number_at : ℕ → List ℕ → ℕ → ℕ
number_at zero s i = 0
number_at (suc w) s i = u8_at s i + 256 * number_at w s (i + 1)

unfoldable pub u16_at : List ℕ → ℕ → ℕ
u16_at s i = number_at 2 s i

unfoldable pub u32_at : List ℕ → ℕ → ℕ
u32_at s i = number_at 4 s i

-- the float whose pattern stands in the four bytes from i; each NaN's pattern gives the one NaN
unfoldable pub f32_at : List ℕ → ℕ → Float
f32_at s i = of_bits binary32 (u32_at s i)

-- whether the byte at i is 1; whether it is below k
unfoldable pub flag_at : List ℕ → ℕ → Bool
flag_at s i = eqb (u8_at s i) 1

unfoldable pub byte_below : List ℕ → ℕ → ℕ → Bool
byte_below s i k = ltb (u8_at s i) k

-- a number as w bytes, the lowest first
unfoldable pub le_bytes : ℕ → ℕ → List ℕ
le_bytes zero n = []
le_bytes (suc w) n = n % 256 ∷ le_bytes w (n / 256)

unfoldable pub le8 : ℕ → List ℕ
le8 n = n ∷ []

unfoldable pub le16 : ℕ → List ℕ
le16 n = le_bytes 2 n

unfoldable pub le32 : ℕ → List ℕ
le32 n = le_bytes 4 n

-- a float as its pattern, which is 7FC00000 for a NaN
unfoldable pub le_f32 : Float → List ℕ
le_f32 x = le32 (to_bits binary32 x)

unfoldable pub le_flag : Bool → List ℕ
le_flag b = cond b 1 0 ∷ []

-- n elements of a list from i on, and d past the end
abbrev pub elements_from : {A : Type 0} → A → List A → ℕ → ℕ → List A
elements_from d l i zero = []
elements_from d l i (suc n) = get_or l i d ∷ elements_from d l (i + 1) n

-- the n bytes from i
abbrev pub bytes_from : List ℕ → ℕ → ℕ → List ℕ
bytes_from s i n = elements_from 0 s i n
