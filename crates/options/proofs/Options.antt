-- A value that may be absent: the value, its bytes, the value; and the bytes, their value, the bytes, but for those of a NaN. Assumes nothing.
use Rattle.std.specs.Prelude.{Option, Some, None, Float, unwrap_or}
use Prim.Native.Nat.{ℕ, zero, suc, ◌+◌, ◌<◌, ◌^◌}
use mathlib.Core.Path.{◌≡◌, ◌∙◌, ap, refl, sym}
use mathlib.Core.List.{List, [], ◌∷◌, ◌++◌}
use mathlib.Core.Bool.{Bool, true, false, cond, ◌&&◌, false≢true}
use native.Mathlib.Nat.{add-zero}
use native.Mathlib.Omega.{arith}
use lib.Dec.{T, eqb}
use lib.ListN.{replicate}
use lib.Ieee.{binary32, fits, of_bits, to_bits}
use borrow.Author.Tests.{eqb-true, eq-eqb, ne_eqb}
use Rattle.types.specs.declared.Vec3.{Vec3}
use Rattle.wire.specs.Fields.{Bytes, u8_at, number_at, flag_at, u32_at, f32_at, le8, le_bytes, le32, le_f32, le_flag, bytes_from}
use Rattle.options.specs.Options.{zeros, valid_option, option_u8_at, option_u32_at, option_f32_at, le_option_u8, le_option_u32, le_option_f32}
use Rattle.options.specs.Position.{vec3_at, le_vec3, zero_vec3, position_cells, option_position_at, le_option_position}
use Rattle.wire.specs.Cell.{Within}
use Rattle.wire.proofs.Fields.{u32_back, f32_back, u32_bytes}
use Rattle.options.proofs.Zeros.{zeros_part, zeros_u8, zero_number}
use Rattle.types.specs.declared.PositionSample.{PositionSample}

-- "all zero bytes where absent"
pub absent_u8 : le_option_u8 None ≡ replicate 2 0
unfolding le_option_u8 le8 le_flag
absent_u8 = refl

pub absent_f32 : le_option_f32 None ≡ replicate 5 0
unfolding le_option_f32 le_f32 le32 le_bytes le_flag to_bits of_bits
absent_f32 = refl

pub absent_position : le_option_position None ≡ replicate 29 0
unfolding le_option_position le_vec3 le_f32 le32 le_bytes le_flag to_bits of_bits
absent_position = refl

-- a byte 1, whatever stands after it
pub present : (s : List ℕ) (i n : ℕ) → u8_at s i ≡ 1 → valid_option s i n ≡ true
unfolding valid_option
present s i n e = simp (ne_eqb (u8_at s i) 0 (λ h. omega arith), eq-eqb (u8_at s i) 1 e)

-- a byte that is not 1: only a byte 0 with bytes 0 after it
pub absent : (s : List ℕ) (i n : ℕ) → (u8_at s i ≡ 1 → ⊥) → valid_option s i n ≡ (eqb (u8_at s i) 0 && zeros s (i + 1) n)
unfolding valid_option
absent s i n h = go (eqb (u8_at s i) 0)
  where
    go : (b : Bool) → cond b (zeros s (i + 1) n) (eqb (u8_at s i) 1) ≡ (b && zeros s (i + 1) n)
    go true = refl
    go false = ne_eqb (u8_at s i) 1 h

-- the value, its bytes, the value
pub option_u8_back : (o : Option ℕ) → option_u8_at (le_option_u8 o) 0 ≡ o
unfolding option_u8_at le_option_u8 u8_at flag_at le8 le_flag
option_u8_back None = refl
option_u8_back (Some n) = refl

pub option_u32_back : (o : Option ℕ) → unwrap_or o 0 < 2 ^ 32 → option_u32_at (le_option_u32 o) 0 ≡ o
unfolding option_u32_at le_option_u32 u8_at number_at flag_at u32_at le32 le_bytes le_flag
option_u32_back None h = refl
option_u32_back (Some n) h = λ j. Some (u32_back n h j)

pub option_f32_back : (o : Option Float) → T (fits binary32 (unwrap_or o (of_bits binary32 0))) → option_f32_at (le_option_f32 o) 0 ≡ o
unfolding option_f32_at le_option_f32 u8_at number_at flag_at u32_at f32_at le_f32 le32 le_bytes le_flag
option_f32_back None h = refl
option_f32_back (Some x) h = λ j. Some (f32_back x h j)

pub vec3_back : (v : Vec3) → T (fits binary32 v.n) → T (fits binary32 v.e) → T (fits binary32 v.d) → vec3_at (le_vec3 v) 0 ≡ v
unfolding vec3_at le_vec3 u8_at number_at u32_at f32_at le_f32 le32 le_bytes
vec3_back v n e d = λ j. record { n = f32_back v.n n j; e = f32_back v.e e j; d = f32_back v.d d j }

pub option_position_back : (o : Option PositionSample) → Within (position_cells o) → option_position_at (le_option_position o) 0 ≡ o
unfolding option_position_at le_option_position vec3_at le_vec3 u8_at number_at flag_at u32_at f32_at le_f32 le32 le_bytes le_flag
option_position_back None h = refl
option_position_back (Some p) h =
    let h1 = h.1 in
    let h2 = h1.1 in
    let h3 = h2.1 in
    let h4 = h3.1 in
    let h5 = h4.1 in
    let h6 = h5.1 in
    λ j.
    Some
    (record {
      t_ms = u32_back p.t_ms h.0 j;
      pos = vec3_back p.pos h1.0 h2.0 h3.0 j;
      vel = vec3_back p.vel h4.0 h5.0 h6.0 j;
    })

pub option_u8_valid : (o : Option ℕ) → valid_option (le_option_u8 o) 0 1 ≡ true
unfolding valid_option zeros le_option_u8 u8_at le8 le_flag
option_u8_valid None = refl
option_u8_valid (Some n) = refl

pub option_u32_valid : (o : Option ℕ) → valid_option (le_option_u32 o) 0 4 ≡ true
unfolding valid_option zeros le_option_u32 u8_at le32 le_bytes le_flag
option_u32_valid None = refl
option_u32_valid (Some n) = refl

pub option_f32_valid : (o : Option Float) → valid_option (le_option_f32 o) 0 4 ≡ true
unfolding valid_option zeros le_option_f32 u8_at le_f32 le32 le_bytes le_flag to_bits of_bits
option_f32_valid None = refl
option_f32_valid (Some x) = refl

pub option_position_valid : (o : Option PositionSample) → valid_option (le_option_position o) 0 28 ≡ true
unfolding valid_option zeros le_option_position le_vec3 u8_at le_f32 le32 le_bytes le_flag to_bits of_bits
option_position_valid None = refl
option_position_valid (Some p) = refl

-- the bytes, their value, the bytes: `rest` is the value's bytes, which are those of the absent value where the value's place is all zero
cases :
    {O : Type 0} (bytes : O → List ℕ) (some none : O) (x : ℕ) (z : Bool) (rest : List ℕ) → cond (eqb x 0) z (eqb x 1) ≡ true →
    bytes some ≡ 1 ∷ rest → (z ≡ true → bytes none ≡ 0 ∷ rest) → bytes (cond (eqb x 1) some none) ≡ x ∷ rest
cases bytes some none zero z rest h p q = q h
cases bytes some none (suc zero) z rest h p q = p
cases bytes some none (suc (suc n)) z rest h p q =
    let a = ne_eqb (suc (suc n)) 0 (λ e. omega arith) in
    let b = ne_eqb (suc (suc n)) 1 (λ e. omega arith) in
    absurd (false≢true (simp (a, b) at h))

pub option_bytes :
    {O : Type 0} (bytes : O → List ℕ) (some none : O) (s : List ℕ) (i n : ℕ) (rest : List ℕ) → valid_option s i n ≡ true →
    bytes some ≡ 1 ∷ rest → (zeros s (i + 1) n ≡ true → bytes none ≡ 0 ∷ rest) → bytes (cond (flag_at s i) some none) ≡ u8_at s i ∷ rest
unfolding valid_option flag_at
option_bytes bytes some none s i n rest h p q = cases bytes some none (u8_at s i) (zeros s (i + 1) n) rest h p q

-- a number whose bytes are zero is 0, a float +0
pub zero_u32 : (s : List ℕ) (i : ℕ) → zeros s i 4 ≡ true → u32_at s i ≡ 0
unfolding u32_at
zero_u32 s i h = zero_number 4 s i h

pub zero_f32 : (s : List ℕ) (i : ℕ) → zeros s i 4 ≡ true → f32_at s i ≡ of_bits binary32 0
unfolding f32_at
zero_f32 s i h = ap (of_bits binary32) (zero_u32 s i h)

pub option_u8_bytes : (s : List ℕ) (i : ℕ) → valid_option s i 1 ≡ true → le_option_u8 (option_u8_at s i) ≡ bytes_from s i 2
unfolding option_u8_at le_option_u8 u8_at le8 le_flag
option_u8_bytes s i h =
    option_bytes le_option_u8 (Some (u8_at s (i + 1))) None s i 1 (u8_at s (i + 1) ∷ []) h refl
    (λ z. λ j. 0 ∷ sym (eqb-true (u8_at s (i + 1)) 0 (sym (zeros_u8 s (i + 1)) ∙ z)) j ∷ [])

pub option_u32_bytes : (s : List ℕ) (i : ℕ) → Bytes s → valid_option s i 4 ≡ true → le_option_u32 (option_u32_at s i) ≡ bytes_from s i 5
unfolding option_u32_at le_option_u32 le_flag u8_at
option_u32_bytes s i b h =
    option_bytes le_option_u32 (Some (u32_at s (i + 1))) None s i 4 (le32 (u32_at s (i + 1))) h refl (λ z. λ j. 0 ∷ le32 (sym (zero_u32 s (i + 1) z) j))
    ∙ ap (λ (r : List ℕ). u8_at s i ∷ r) (u32_bytes s (i + 1) b)

pub option_f32_bytes : (s : List ℕ) (i : ℕ) → valid_option s i 4 ≡ true → le_option_f32 (option_f32_at s i) ≡ u8_at s i ∷ le_f32 (f32_at s (i + 1))
unfolding option_f32_at le_option_f32 le_flag
option_f32_bytes s i h =
    option_bytes le_option_f32 (Some (f32_at s (i + 1))) None s i 4 (le_f32 (f32_at s (i + 1))) h refl (λ z. λ j. 0 ∷ le_f32 (sym (zero_f32 s (i + 1) z) j))

zero_vec3_lem : (s : List ℕ) (i : ℕ) → zeros s i 12 ≡ true → vec3_at s i ≡ zero_vec3
unfolding vec3_at
zero_vec3_lem s i h =
    let n : zeros s i 4 ≡ true = rw (add-zero i) at (zeros_part s i 12 0 4 (omega arith) h) in
    λ j.
    record {
      n = zero_f32 s i n j;
      e = zero_f32 s (i + 4) (zeros_part s i 12 4 4 (omega arith) h) j;
      d = zero_f32 s (i + 8) (zeros_part s i 12 8 4 (omega arith) h) j;
    }

pub option_position_bytes :
    (s : List ℕ) (i : ℕ) → valid_option s i 28 ≡ true →
    le_option_position (option_position_at s i) ≡ u8_at s i ∷ le32 (u32_at s (i + 1)) ++ (le_vec3 (vec3_at s (i + 5)) ++ le_vec3 (vec3_at s (i + 17)))
unfolding option_position_at le_option_position le_flag
option_position_bytes s i h =
    let t = u32_at s (i + 1) in
    let p = vec3_at s (i + 5) in
    let v = vec3_at s (i + 17) in
    let five : i + 1 + 4 ≡ i + 5 = omega arith in
    let seventeen : i + 1 + 16 ≡ i + 17 = omega arith in
    option_bytes le_option_position (Some (record { t_ms = t; pos = p; vel = v })) None s i 28
    (le32 t ++ (le_vec3 p ++ le_vec3 v)) h refl
    (λ z.
    let a : zeros s (i + 1) 4 ≡ true = rw (add-zero (i + 1)) at (zeros_part s (i + 1) 28 0 4 (omega arith) z) in
    let b : zeros s (i + 5) 12 ≡ true = rw five at (zeros_part s (i + 1) 28 4 12 (omega arith) z) in
    let d : zeros s (i + 17) 12 ≡ true = rw seventeen at (zeros_part s (i + 1) 28 16 12 (omega arith) z) in
    λ j. 0 ∷ le32 (sym (zero_u32 s (i + 1) a) j) ++ (le_vec3 (sym (zero_vec3_lem s (i + 5) b) j) ++ le_vec3 (sym (zero_vec3_lem s (i + 17) d) j)))
