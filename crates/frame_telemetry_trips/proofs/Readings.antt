-- One reading of each sort: the value, its bytes, the value; and the bytes, their value, the bytes, but for those of a NaN. Assumes nothing.
use Rattle.std.specs.Prelude.{Option, Some, None, Float, Bool}
use Rattle.std.specs.Result.{result_unwrap_or}
use Prim.Native.Nat.{ℕ, zero, suc, ◌+◌, ◌<◌, ◌≤◌}
use mathlib.Core.Path.{◌≡◌, ◌∙◌, ap, refl, sym, subst}
use mathlib.Core.List.{List, [], ◌∷◌, ◌++◌}
use mathlib.Core.Bool.{true}
use native.Mathlib.Omega.{arith}
use lib.Dec.{eqb}
use lib.Ieee.{of_bits, to_bits}
use borrow.Author.Tests.{ltb-true, eqb-true}
use Rattle.types.specs.declared.GpsFix.{GpsFix}
use Rattle.types.specs.declared.LandedState.{LandedState}
use Rattle.types.specs.Numbers.{fix_number, fix_of_number, landed_number, landed_of_number}
use Rattle.wire.specs.Fields.{Bytes, u8_at, number_at, flag_at, u32_at, f32_at, byte_below, le8, le_flag, le_bytes, le32, le_f32, bytes_from}
use Rattle.wire.specs.Cell.{bytes_of, Within}
use Rattle.wire.proofs.Fields.{u32_back, f32_back, flag_back, u32_bytes, flag_bytes}
use Rattle.options.specs.Options.{zeros, valid_option, option_u8_at, option_f32_at, le_option_u8, le_option_f32}
use Rattle.options.proofs.Options.{option_u8_back, option_f32_back, option_bytes, zero_u32, zero_f32, option_u8_bytes, option_f32_bytes}
use Rattle.options.proofs.Zeros.{zeros_part, zeros_u8}
use Rattle.frame_telemetry.specs.Readings.{fix_at, landed_at, option_gps_at, gps_cells, stamped_f32_at, stamped_f32_cells, stamped_bool_at, stamped_bool_cells, stamped_landed_at, stamped_landed_cells}
use Rattle.types.specs.declared.Stamped.{Stamped}
use Rattle.types.specs.declared.GpsSample.{GpsSample}

-- the value, its bytes, the value
fix_back : (f : GpsFix) → result_unwrap_or (fix_of_number (fix_number f)) GpsFix.None ≡ f
fix_back GpsFix.None = refl
fix_back GpsFix.Fix2D = refl
fix_back GpsFix.Fix3D = refl

landed_back : (l : LandedState) → result_unwrap_or (landed_of_number (landed_number l)) LandedState.Undefined ≡ l
landed_back LandedState.Undefined = refl
landed_back LandedState.OnGround = refl
landed_back LandedState.InAir = refl
landed_back LandedState.Takeoff = refl
landed_back LandedState.Landing = refl

pub gps_back : (o : Option GpsSample) → Within (gps_cells o) → option_gps_at (bytes_of (gps_cells o)) 0 ≡ o
unfolding option_gps_at fix_at option_u8_at option_f32_at le_option_u8 le_option_f32 u8_at number_at flag_at u32_at f32_at le8 le_flag le_bytes le32 le_f32
gps_back None h = refl
gps_back (Some g) h =
    λ j.
    Some
    (record {
      t_ms = u32_back g.t_ms h.0 j;
      fix = fix_back g.fix j;
      sats = option_u8_back g.sats j;
      hdop = option_f32_back g.hdop h.1.1.1.0 j;
    })

pub stamped_f32_back : (o : Option (Stamped Float)) → Within (stamped_f32_cells o) → stamped_f32_at (bytes_of (stamped_f32_cells o)) 0 ≡ o
unfolding stamped_f32_at u8_at number_at flag_at u32_at f32_at le_flag le_bytes le32 le_f32
stamped_f32_back None h = refl
stamped_f32_back (Some r) h = λ j. Some (record { t_ms = u32_back r.t_ms h.0 j; value = f32_back r.value h.1.0 j })

pub stamped_bool_back : (o : Option (Stamped Bool)) → Within (stamped_bool_cells o) → stamped_bool_at (bytes_of (stamped_bool_cells o)) 0 ≡ o
unfolding stamped_bool_at u8_at number_at flag_at u32_at le_flag le_bytes le32
stamped_bool_back None h = refl
stamped_bool_back (Some r) h = λ j. Some (record { t_ms = u32_back r.t_ms h.0 j; value = flag_back r.value j })

pub stamped_landed_back : (o : Option (Stamped LandedState)) → Within (stamped_landed_cells o) → stamped_landed_at (bytes_of (stamped_landed_cells o)) 0 ≡ o
unfolding stamped_landed_at landed_at u8_at number_at flag_at u32_at le8 le_flag le_bytes le32
stamped_landed_back None h = refl
stamped_landed_back (Some r) h = λ j. Some (record { t_ms = u32_back r.t_ms h.0 j; value = landed_back r.value j })

-- what was written is valid
pub fix_valid : (f : GpsFix) → byte_below (le8 (fix_number f)) 0 3 ≡ true
unfolding u8_at byte_below le8
fix_valid GpsFix.None = refl
fix_valid GpsFix.Fix2D = refl
fix_valid GpsFix.Fix3D = refl

pub landed_valid_lem : (l : LandedState) → byte_below (le8 (landed_number l)) 0 5 ≡ true
unfolding u8_at byte_below le8
landed_valid_lem LandedState.Undefined = refl
landed_valid_lem LandedState.OnGround = refl
landed_valid_lem LandedState.InAir = refl
landed_valid_lem LandedState.Takeoff = refl
landed_valid_lem LandedState.Landing = refl

pub gps_valid_lem : (o : Option GpsSample) → valid_option (bytes_of (gps_cells o)) 0 12 ≡ true
unfolding valid_option zeros u8_at le8 le_flag le_bytes le32 le_f32 to_bits of_bits
gps_valid_lem None = refl
gps_valid_lem (Some g) = refl

pub stamped_f32_valid : (o : Option (Stamped Float)) → valid_option (bytes_of (stamped_f32_cells o)) 0 8 ≡ true
unfolding valid_option zeros u8_at le_flag le_bytes le32 le_f32 to_bits of_bits
stamped_f32_valid None = refl
stamped_f32_valid (Some r) = refl

pub stamped_bool_valid_lem : (o : Option (Stamped Bool)) → valid_option (bytes_of (stamped_bool_cells o)) 0 5 ≡ true
unfolding valid_option zeros u8_at le_flag le_bytes le32
stamped_bool_valid_lem None = refl
stamped_bool_valid_lem (Some r) = refl

pub stamped_landed_valid : (o : Option (Stamped LandedState)) → valid_option (bytes_of (stamped_landed_cells o)) 0 5 ≡ true
unfolding valid_option zeros u8_at le8 le_flag le_bytes le32
stamped_landed_valid None = refl
stamped_landed_valid (Some r) = refl

-- the bytes, their value, the bytes
fix_number_lem : (n : ℕ) → n < 3 → fix_number (result_unwrap_or (fix_of_number n) GpsFix.None) ≡ n
fix_number_lem zero h = refl
fix_number_lem (suc zero) h = refl
fix_number_lem (suc (suc zero)) h = refl
fix_number_lem (suc (suc (suc n))) h = absurd (omega arith)

landed_number_lem : (n : ℕ) → n < 5 → landed_number (result_unwrap_or (landed_of_number n) LandedState.Undefined) ≡ n
landed_number_lem zero h = refl
landed_number_lem (suc zero) h = refl
landed_number_lem (suc (suc zero)) h = refl
landed_number_lem (suc (suc (suc zero))) h = refl
landed_number_lem (suc (suc (suc (suc zero)))) h = refl
landed_number_lem (suc (suc (suc (suc (suc n))))) h = absurd (omega arith)

fix_bytes : (s : List ℕ) (i : ℕ) → byte_below s i 3 ≡ true → le8 (fix_number (fix_at s i)) ≡ bytes_from s i 1
unfolding fix_at u8_at byte_below le8
fix_bytes s i h = ap (λ (n : ℕ). n ∷ []) (fix_number_lem (u8_at s i) (ltb-true (u8_at s i) 3 h))

landed_bytes : (s : List ℕ) (i : ℕ) → byte_below s i 5 ≡ true → le8 (landed_number (landed_at s i)) ≡ bytes_from s i 1
unfolding landed_at u8_at byte_below le8
landed_bytes s i h = ap (λ (n : ℕ). n ∷ []) (landed_number_lem (u8_at s i) (ltb-true (u8_at s i) 5 h))

-- the m bytes from p on, where the n from i + 1 on are 0
part : (s : List ℕ) (i n k m p : ℕ) → k + m ≤ n → i + 1 + k ≡ p → zeros s (i + 1) n ≡ true → zeros s p m ≡ true
part s i n k m p h e z = subst (λ (q : ℕ). zeros s q m ≡ true) e (zeros_part s (i + 1) n k m h z)

byte : (s : List ℕ) (i : ℕ) → zeros s i 1 ≡ true → u8_at s i ≡ 0
byte s i z = eqb-true (u8_at s i) 0 (sym (zeros_u8 s i) ∙ z)

pub stamped_f32_bytes :
    (s : List ℕ) (i : ℕ) → Bytes s → valid_option s i 8 ≡ true →
    bytes_of (stamped_f32_cells (stamped_f32_at s i)) ≡ u8_at s i ∷ bytes_from s (i + 1) 4 ++ le_f32 (f32_at s (i + 5))
unfolding stamped_f32_at le_flag le_bytes le32 le_f32
stamped_f32_bytes s i b h =
    let t = u32_at s (i + 1) in
    let x = f32_at s (i + 5) in
    option_bytes (λ o. bytes_of (stamped_f32_cells o)) (Some (record { t_ms = t; value = x })) None s i 8 (le32 t ++ le_f32 x) h refl
    (λ z.
    let u = sym (zero_u32 s (i + 1) (part s i 8 0 4 (i + 1) (omega arith) (omega arith) z)) in
    let v = sym (zero_f32 s (i + 5) (part s i 8 4 4 (i + 5) (omega arith) (omega arith) z)) in
    λ j. 0 ∷ le32 (u j) ++ le_f32 (v j))
    ∙ ap (λ (r : List ℕ). u8_at s i ∷ r ++ le_f32 x) (u32_bytes s (i + 1) b)

pub stamped_bool_bytes :
    (s : List ℕ) (i : ℕ) → Bytes s → valid_option s i 5 ≡ true → byte_below s (i + 5) 2 ≡ true →
    bytes_of (stamped_bool_cells (stamped_bool_at s i)) ≡ u8_at s i ∷ bytes_from s (i + 1) 4 ++ bytes_from s (i + 5) 1
unfolding stamped_bool_at flag_at le_flag le_bytes le32
stamped_bool_bytes s i b h k =
    let t = u32_at s (i + 1) in
    let x = flag_at s (i + 5) in
    option_bytes (λ o. bytes_of (stamped_bool_cells o)) (Some (record { t_ms = t; value = x })) None s i 5 (le32 t ++ le_flag x) h refl
    (λ z.
    let u = sym (zero_u32 s (i + 1) (part s i 5 0 4 (i + 1) (omega arith) (omega arith) z)) in
    let v = sym (byte s (i + 5) (part s i 5 4 1 (i + 5) (omega arith) (omega arith) z)) in
    λ j. 0 ∷ le32 (u j) ++ le_flag (eqb (v j) 1))
    ∙ (λ j. u8_at s i ∷ u32_bytes s (i + 1) b j ++ flag_bytes s (i + 5) k j)

pub stamped_landed_bytes :
    (s : List ℕ) (i : ℕ) → Bytes s → valid_option s i 5 ≡ true → byte_below s (i + 5) 5 ≡ true →
    bytes_of (stamped_landed_cells (stamped_landed_at s i)) ≡ u8_at s i ∷ bytes_from s (i + 1) 4 ++ bytes_from s (i + 5) 1
unfolding stamped_landed_at landed_at le8 le_flag le_bytes le32
stamped_landed_bytes s i b h k =
    let t = u32_at s (i + 1) in
    let x = landed_at s (i + 5) in
    option_bytes (λ o. bytes_of (stamped_landed_cells o)) (Some (record { t_ms = t; value = x })) None s i 5 (le32 t ++ le8 (landed_number x)) h refl
    (λ z.
    let u = sym (zero_u32 s (i + 1) (part s i 5 0 4 (i + 1) (omega arith) (omega arith) z)) in
    let v = sym (byte s (i + 5) (part s i 5 4 1 (i + 5) (omega arith) (omega arith) z)) in
    λ j. 0 ∷ le32 (u j) ++ le8 (landed_number (result_unwrap_or (landed_of_number (v j)) LandedState.Undefined)))
    ∙ (λ j. u8_at s i ∷ u32_bytes s (i + 1) b j ++ landed_bytes s (i + 5) k j)

absent_u8 : (s : List ℕ) (i : ℕ) → zeros s i 1 ≡ true → None ≡ option_u8_at s i
unfolding option_u8_at flag_at
absent_u8 s i z = simp (byte s i z)

absent_f32 : (s : List ℕ) (i : ℕ) → zeros s i 1 ≡ true → None ≡ option_f32_at s i
unfolding option_f32_at flag_at
absent_f32 s i z = simp (byte s i z)

pub gps_bytes :
    (s : List ℕ) (i : ℕ) → Bytes s → valid_option s i 12 ≡ true → byte_below s (i + 5) 3 ≡ true → valid_option s (i + 6) 1 ≡ true → valid_option s (i + 8) 4 ≡ true →
    bytes_of (gps_cells (option_gps_at s i))
    ≡ u8_at s i ∷ bytes_from s (i + 1) 4 ++ (bytes_from s (i + 5) 1 ++ (bytes_from s (i + 6) 2 ++ (u8_at s (i + 8) ∷ le_f32 (f32_at s (i + 8 + 1)))))
unfolding option_gps_at fix_at le_option_u8 le_option_f32 le8 le_flag le_bytes le32 le_f32
gps_bytes s i b h f k l =
    let t = u32_at s (i + 1) in
    let x = fix_at s (i + 5) in
    let y = option_u8_at s (i + 6) in
    let w = option_f32_at s (i + 8) in
    option_bytes (λ o. bytes_of (gps_cells o)) (Some (record { t_ms = t; fix = x; sats = y; hdop = w })) None s i 12
    (le32 t ++ (le8 (fix_number x) ++ (le_option_u8 y ++ le_option_f32 w))) h refl
    (λ z.
    let u = sym (zero_u32 s (i + 1) (part s i 12 0 4 (i + 1) (omega arith) (omega arith) z)) in
    let v = sym (byte s (i + 5) (part s i 12 4 1 (i + 5) (omega arith) (omega arith) z)) in
    let n = absent_u8 s (i + 6) (part s i 12 5 1 (i + 6) (omega arith) (omega arith) z) in
    let m = absent_f32 s (i + 8) (part s i 12 7 1 (i + 8) (omega arith) (omega arith) z) in
    λ j. 0 ∷ le32 (u j) ++ (le8 (fix_number (result_unwrap_or (fix_of_number (v j)) GpsFix.None)) ++ (le_option_u8 (n j) ++ le_option_f32 (m j))))
    ∙ (λ j. u8_at s i ∷ u32_bytes s (i + 1) b j ++ (fix_bytes s (i + 5) f j ++ (option_u8_bytes s (i + 6) k j ++ option_f32_bytes s (i + 8) l j)))
