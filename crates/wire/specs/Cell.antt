-- A value as a list of cells, one for each plain field in declared order. The list gives the value's bytes, and that each field is within its type.
-- A list of sorts says which cells a part of a frame holds. Assumes nothing.
use Rattle.std.specs.Prelude.{ℕ, ◌+◌, ◌<◌, ◌^◌, ◌≡◌, List, [], ◌∷◌, ◌++◌, Bool, true, not, T, Float}
use Rattle.std.specs.Float.{binary32}
use Rattle.std.specs.Float.Ieee.{fits, is_nan}
use Rattle.wire.specs.Fields.{u8_at, u16_at, u32_at, f32_at, flag_at, byte_below, le8, le16, le32, le_f32, le_flag, bytes_from}

pub data Cell : Type 0 where
  u8 : ℕ → Cell
  flag : Bool → Cell
  u16 : ℕ → Cell
  u32 : ℕ → Cell
  f32 : Float → Cell

abbrev pub bytes_of : List Cell → List ℕ
bytes_of [] = []
bytes_of (u8 n ∷ cs) = le8 n ++ bytes_of cs
bytes_of (flag b ∷ cs) = le_flag b ++ bytes_of cs
bytes_of (u16 n ∷ cs) = le16 n ++ bytes_of cs
bytes_of (u32 n ∷ cs) = le32 n ++ bytes_of cs
bytes_of (f32 x ∷ cs) = le_f32 x ++ bytes_of cs

-- each number is below its type's bound, and each float is one of binary32; a flag says nothing
abbrev pub Within : List Cell → Type 0
Within [] = Unit {0}
Within (u8 n ∷ cs) = (n < 2 ^ 8) × Within cs
Within (flag b ∷ cs) = Within cs
Within (u16 n ∷ cs) = (n < 2 ^ 16) × Within cs
Within (u32 n ∷ cs) = (n < 2 ^ 32) × Within cs
Within (f32 x ∷ cs) = T (fits binary32 x) × Within cs

pub data Sort : Type 0 where
  U8 : Sort
  Flag : Sort
  U16 : Sort
  U32 : Sort
  F32 : Sort

abbrev pub width : Sort → ℕ
width U8 = 1
width Flag = 1
width U16 = 2
width U32 = 4
width F32 = 4

abbrev pub widths : List Sort → ℕ
widths [] = 0
widths (k ∷ ks) = width k + widths ks

abbrev pub sort_of : Cell → Sort
sort_of (u8 n) = U8
sort_of (flag b) = Flag
sort_of (u16 n) = U16
sort_of (u32 n) = U32
sort_of (f32 x) = F32

abbrev pub sorts_of : List Cell → List Sort
sorts_of [] = []
sorts_of (c ∷ cs) = sort_of c ∷ sorts_of cs

abbrev pub cell_at : Sort → List ℕ → ℕ → Cell
cell_at U8 s i = u8 (u8_at s i)
cell_at Flag s i = flag (flag_at s i)
cell_at U16 s i = u16 (u16_at s i)
cell_at U32 s i = u32 (u32_at s i)
cell_at F32 s i = f32 (f32_at s i)

-- the cells that stand one after the other from i
abbrev pub cells_at : List Sort → List ℕ → ℕ → List Cell
cells_at [] s i = []
cells_at (k ∷ ks) s i = cell_at k s i ∷ cells_at ks s (i + width k)

-- each flag is 0 or 1
abbrev pub FlagsValid : List Sort → List ℕ → ℕ → Type 0
FlagsValid [] s i = Unit {0}
FlagsValid (Flag ∷ ks) s i = (byte_below s i 2 ≡ true) × FlagsValid ks s (i + 1)
FlagsValid (U8 ∷ ks) s i = FlagsValid ks s (i + 1)
FlagsValid (U16 ∷ ks) s i = FlagsValid ks s (i + 2)
FlagsValid (U32 ∷ ks) s i = FlagsValid ks s (i + 4)
FlagsValid (F32 ∷ ks) s i = FlagsValid ks s (i + 4)

-- no float is a NaN
abbrev pub NoNan : List Sort → List ℕ → ℕ → Type 0
NoNan [] s i = Unit {0}
NoNan (F32 ∷ ks) s i = T (not (is_nan (f32_at s i))) × NoNan ks s (i + 4)
NoNan (U8 ∷ ks) s i = NoNan ks s (i + 1)
NoNan (Flag ∷ ks) s i = NoNan ks s (i + 1)
NoNan (U16 ∷ ks) s i = NoNan ks s (i + 2)
NoNan (U32 ∷ ks) s i = NoNan ks s (i + 4)

-- the bytes from i, with each NaN's bits as 7FC00000: "frames round-trip up to the bits of a NaN"
abbrev pub nan_rewritten : List Sort → List ℕ → ℕ → List ℕ
nan_rewritten [] s i = []
nan_rewritten (F32 ∷ ks) s i = le_f32 (f32_at s i) ++ nan_rewritten ks s (i + 4)
nan_rewritten (U8 ∷ ks) s i = bytes_from s i 1 ++ nan_rewritten ks s (i + 1)
nan_rewritten (Flag ∷ ks) s i = bytes_from s i 1 ++ nan_rewritten ks s (i + 1)
nan_rewritten (U16 ∷ ks) s i = bytes_from s i 2 ++ nan_rewritten ks s (i + 2)
nan_rewritten (U32 ∷ ks) s i = bytes_from s i 4 ++ nan_rewritten ks s (i + 4)
