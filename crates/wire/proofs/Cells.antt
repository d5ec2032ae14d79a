-- A list of cells: the cells, their bytes, the cells; and the bytes, their cells, the bytes up to the bits of a NaN. Assumes nothing.
use Prim.Native.Nat.{ℕ, zero, suc, ◌+◌, ◌*◌}
use mathlib.Core.Path.{◌≡◌, ◌∙◌, ap, refl, sym}
use mathlib.Core.List.{List, [], ◌∷◌, ◌++◌}
use native.Mathlib.Nat.{add-zero, zero-add, add_assoc}
use lib.Dec.{eqb}
use lib.ListN.{length}
use lib.Seq.{get_or-append-add}
use lib.Ieee.{binary32, of_bits}
use Rattle.wire.specs.Fields.{Bytes, u8_at, number_at, u16_at, u32_at, f32_at, flag_at, le8, le16, le32, le_f32, le_flag, le_bytes, bytes_from}
use Rattle.wire.specs.Cell.{Cell, u8, flag, u16, u32, f32, Sort, U8, Flag, U16, U32, F32, width, widths, sorts_of, cell_at, cells_at, bytes_of, Within, FlagsValid, NoNan, nan_rewritten}
use Rattle.wire.proofs.Fields.{u16_back, u32_back, f32_back, flag_back, u16_bytes, u32_bytes, f32_bytes, flag_bytes}
use Rattle.wire.proofs.Whole.{elements_append}

-- the bytes, their cells, the bytes
pub cells_bytes : (ks : List Sort) (s : List ℕ) (i : ℕ) → Bytes s → FlagsValid ks s i → bytes_of (cells_at ks s i) ≡ nan_rewritten ks s i
unfolding u8_at le8
cells_bytes [] s i b v = refl
cells_bytes (U8 ∷ ks) s i b v = ap (λ (r : List ℕ). u8_at s i ∷ r) (cells_bytes ks s (i + 1) b v)
cells_bytes (Flag ∷ ks) s i b v = λ j. flag_bytes s i v.0 j ++ cells_bytes ks s (i + 1) b v.1 j
cells_bytes (U16 ∷ ks) s i b v = λ j. u16_bytes s i b j ++ cells_bytes ks s (i + 2) b v j
cells_bytes (U32 ∷ ks) s i b v = λ j. u32_bytes s i b j ++ cells_bytes ks s (i + 4) b v j
cells_bytes (F32 ∷ ks) s i b v = ap (λ (r : List ℕ). le_f32 (f32_at s i) ++ r) (cells_bytes ks s (i + 4) b v)

-- without a NaN nothing is rewritten
pub nan_free : (ks : List Sort) (s : List ℕ) (i : ℕ) → Bytes s → NoNan ks s i → nan_rewritten ks s i ≡ bytes_from s i (widths ks)
nan_free [] s i b v = refl
nan_free (U8 ∷ ks) s i b v = ap (λ (r : List ℕ). bytes_from s i 1 ++ r) (nan_free ks s (i + 1) b v) ∙ sym (elements_append 0 s i 1 (widths ks))
nan_free (Flag ∷ ks) s i b v = ap (λ (r : List ℕ). bytes_from s i 1 ++ r) (nan_free ks s (i + 1) b v) ∙ sym (elements_append 0 s i 1 (widths ks))
nan_free (U16 ∷ ks) s i b v = ap (λ (r : List ℕ). bytes_from s i 2 ++ r) (nan_free ks s (i + 2) b v) ∙ sym (elements_append 0 s i 2 (widths ks))
nan_free (U32 ∷ ks) s i b v = ap (λ (r : List ℕ). bytes_from s i 4 ++ r) (nan_free ks s (i + 4) b v) ∙ sym (elements_append 0 s i 4 (widths ks))
nan_free (F32 ∷ ks) s i b v = (λ j. f32_bytes s i b v.0 j ++ nan_free ks s (i + 4) b v.1 j) ∙ sym (elements_append 0 s i 4 (widths ks))

-- two lists with the same bytes from a place on have the same cells there
abbrev Same : List ℕ → ℕ → List ℕ → ℕ → Type 0
Same s i t j = (k : ℕ) → u8_at s (i + k) ≡ u8_at t (j + k)

onwards : (s : List ℕ) (i : ℕ) (t : List ℕ) (j m : ℕ) → Same s i t j → Same s (i + m) t (j + m)
onwards s i t j m e k = ap (u8_at s) (add_assoc i m k) ∙ e (m + k) ∙ sym (ap (u8_at t) (add_assoc j m k))

same_u8 : (s : List ℕ) (i : ℕ) (t : List ℕ) (j : ℕ) → Same s i t j → u8_at s i ≡ u8_at t j
same_u8 s i t j e = ap (u8_at s) (sym (add-zero i)) ∙ e 0 ∙ ap (u8_at t) (add-zero j)

same_number : (w : ℕ) (s : List ℕ) (i : ℕ) (t : List ℕ) (j : ℕ) → Same s i t j → number_at w s i ≡ number_at w t j
unfolding number_at
same_number zero s i t j e = refl
same_number (suc w) s i t j e = λ k. same_u8 s i t j e k + 256 * same_number w s (i + 1) t (j + 1) (onwards s i t j 1 e) k

same_cell : (k : Sort) (s : List ℕ) (i : ℕ) (t : List ℕ) (j : ℕ) → Same s i t j → cell_at k s i ≡ cell_at k t j
unfolding u16_at u32_at f32_at flag_at
same_cell U8 s i t j e = ap u8 (same_u8 s i t j e)
same_cell Flag s i t j e = ap (λ (n : ℕ). flag (eqb n 1)) (same_u8 s i t j e)
same_cell U16 s i t j e = ap u16 (same_number 2 s i t j e)
same_cell U32 s i t j e = ap u32 (same_number 4 s i t j e)
same_cell F32 s i t j e = ap (λ (n : ℕ). f32 (of_bits binary32 n)) (same_number 4 s i t j e)

pub same_cells : (ks : List Sort) (s : List ℕ) (i : ℕ) (t : List ℕ) (j : ℕ) → Same s i t j → cells_at ks s i ≡ cells_at ks t j
same_cells [] s i t j e = refl
same_cells (k ∷ ks) s i t j e = λ r. same_cell k s i t j e r ∷ same_cells ks s (i + width k) t (j + width k) (onwards s i t j (width k) e) r

-- past a part of the list
past : (ks : List Sort) (xs ys : List ℕ) → cells_at ks (xs ++ ys) (length xs) ≡ cells_at ks ys 0
unfolding u8_at
past ks xs ys = same_cells ks (xs ++ ys) (length xs) ys 0 (λ k. get_or-append-add xs ys k 0 ∙ ap (u8_at ys) (sym (zero-add k)))

-- the cells, their bytes, the cells
pub cells_back : (cs : List Cell) → Within cs → cells_at (sorts_of cs) (bytes_of cs) 0 ≡ cs
unfolding u8_at number_at u16_at u32_at f32_at flag_at le8 le16 le32 le_f32 le_flag le_bytes
cells_back [] h = refl
cells_back (u8 n ∷ cs) h = ap (λ (r : List Cell). u8 n ∷ r) (past (sorts_of cs) (le8 n) (bytes_of cs) ∙ cells_back cs h.1)
cells_back (flag b ∷ cs) h = λ j. flag (flag_back b j) ∷ (past (sorts_of cs) (le_flag b) (bytes_of cs) ∙ cells_back cs h) j
cells_back (u16 n ∷ cs) h = λ j. u16 (u16_back n h.0 j) ∷ (past (sorts_of cs) (le16 n) (bytes_of cs) ∙ cells_back cs h.1) j
cells_back (u32 n ∷ cs) h = λ j. u32 (u32_back n h.0 j) ∷ (past (sorts_of cs) (le32 n) (bytes_of cs) ∙ cells_back cs h.1) j
cells_back (f32 x ∷ cs) h = λ j. f32 (f32_back x h.0 j) ∷ (past (sorts_of cs) (le_f32 x) (bytes_of cs) ∙ cells_back cs h.1) j
