-- A number of eight bytes as two halves, and read behind a part of the list. Assumes nothing.
use Prim.Native.Nat.{ℕ, zero, suc, ◌+◌, ◌*◌, ◌/◌, ◌%◌, ◌^◌}
use mathlib.Core.Path.{◌≡◌, ◌∙◌, ap, refl}
use mathlib.Core.List.{List, ◌∷◌, ◌++◌}
use native.Mathlib.Nat.{add-mul-mod_self_left, add-mul-div_left, div-div-eq-div-mul, pow-succ', mul_assoc}
use native.Mathlib.Omega.{arith}
use lib.Dec.{lit<}
use lib.ListN.{length, drop}
use lib.Seq.{get_or-drop}
use Rattle.wire.specs.Fields.{u8_at, number_at, u32_at, le_bytes, le32}
use Rattle.wire.proofs.Number.{u32_is}

pub u64_halves : (s : List ℕ) (i : ℕ) → number_at 8 s i ≡ u32_at s i + 4294967296 * u32_at s (i + 4)
unfolding u32_at number_at
u64_halves s i =
    let four : i + 1 + 1 + 1 + 1 ≡ i + 4 = omega arith in
    let five : i + 1 + 1 + 1 + 1 + 1 ≡ i + 4 + 1 = omega arith in
    let six : i + 1 + 1 + 1 + 1 + 1 + 1 ≡ i + 4 + 1 + 1 = omega arith in
    let seven : i + 1 + 1 + 1 + 1 + 1 + 1 + 1 ≡ i + 4 + 1 + 1 + 1 = omega arith in
    omega (arith, ap (u8_at s) four, ap (u8_at s) five, ap (u8_at s) six, ap (u8_at s) seven)

pub eight_is :
    (s : List ℕ) (i : ℕ) →
    number_at 8 s i
    ≡ u8_at s i + 256 * u8_at s (i + 1) + 65536 * u8_at s (i + 2) + 16777216 * u8_at s (i + 3)
    + 4294967296 * (u8_at s (i + 4) + 256 * u8_at s (i + 5) + 65536 * u8_at s (i + 6) + 16777216 * u8_at s (i + 7))
eight_is s i =
    let five : i + 4 + 1 ≡ i + 5 = omega arith in
    let six : i + 4 + 2 ≡ i + 6 = omega arith in
    let seven : i + 4 + 3 ≡ i + 7 = omega arith in
    omega (arith, u64_halves s i, u32_is s i, u32_is s (i + 4), ap (u8_at s) five, ap (u8_at s) six, ap (u8_at s) seven)

-- what lies above w bytes changes none of them
low_bytes : (w r q : ℕ) → le_bytes w (r + 256 ^ w * q) ≡ le_bytes w r
unfolding le_bytes
low_bytes zero r q = refl
low_bytes (suc w) r q =
    let e : r + 256 ^ suc w * q ≡ r + 256 * (256 ^ w * q) = ap (λ (k : ℕ). r + k) (ap (λ (k : ℕ). k * q) (pow-succ' 256 w) ∙ mul_assoc 256 (256 ^ w) q) in
    ap (le_bytes (suc w)) e
    ∙ (λ j. add-mul-mod_self_left r 256 (256 ^ w * q) j ∷ (ap (le_bytes w) (add-mul-div_left r (256 ^ w * q) (lit< tt)) ∙ low_bytes w (r / 256) q) j)

pub le64_halves : (n : ℕ) → le_bytes 8 n ≡ le32 (n % 4294967296) ++ le32 (n / 4294967296)
unfolding le32 le_bytes
le64_halves n =
    let two : n / 256 / 256 ≡ n / 65536 = div-div-eq-div-mul n 256 256 in
    let four : n / 256 / 256 / 256 / 256 ≡ n / 4294967296 = ap (λ (k : ℕ). k / 256 / 256) two ∙ div-div-eq-div-mul (n / 65536) 256 256 ∙ div-div-eq-div-mul n 65536 65536 in
    let e : n ≡ n % 4294967296 + 4294967296 * (n / 4294967296) = omega arith in
    let low : le_bytes 4 n ≡ le_bytes 4 (n % 4294967296) = ap (le_bytes 4) e ∙ low_bytes 4 (n % 4294967296) (n / 4294967296) in
    λ j. low j ++ le_bytes 4 (four j)

pub bytes_long : (w n : ℕ) → length (le_bytes w n) ≡ w
unfolding le_bytes
bytes_long zero n = refl
bytes_long (suc w) n = ap suc (bytes_long w (n / 256))

pub number_drop : (w : ℕ) (s : List ℕ) (i j : ℕ) → number_at w (drop i s) j ≡ number_at w s (i + j)
unfolding number_at u8_at
number_drop zero s i j = refl
number_drop (suc w) s i j =
    let e : i + (j + 1) ≡ i + j + 1 = omega arith in
    λ k. get_or-drop i s j 0 k + 256 * (number_drop w s i (j + 1) ∙ ap (number_at w s) e) k
