-- A number of w bytes: written and read, read and written, and its bounds, each once over w. Assumes nothing.
use Prim.Native.Nat.{ℕ, zero, suc, ◌+◌, ◌*◌, ◌/◌, ◌%◌, ◌^◌, ◌<◌}
use mathlib.Core.Path.{◌≡◌, ◌∙◌, ap, refl}
use mathlib.Core.List.{List, [], ◌∷◌, ◌++◌}
use native.Mathlib.Numerals.{add-one}
use native.Mathlib.Nat.{add-mul-mod_self_left, mod-eq_of_lt, add-mul-div_left, div-eq_of_lt, zero-add, div-div-eq-div-mul, div-add-mod', pow-succ'}
use native.Mathlib.Omega.{arith}
use lib.Dec.{lit<}
use lib.ListN.{get_or}
use Rattle.wire.specs.Fields.{Bytes, u8_at, number_at, u16_at, u32_at, le_bytes, le16, le32, bytes_from}

low : (x m : ℕ) → x < 256 → (x + 256 * m) % 256 ≡ x
low x m h = add-mul-mod_self_left x 256 m ∙ mod-eq_of_lt h

high : (x m : ℕ) → x < 256 → (x + 256 * m) / 256 ≡ m
high x m h = add-mul-div_left x m (lit< tt) ∙ ap (λ (k : ℕ). k + m) (div-eq_of_lt h) ∙ zero-add m

-- bytes, the number, bytes
pub number_bytes : (w : ℕ) (s : List ℕ) (i : ℕ) → Bytes s → le_bytes w (number_at w s i) ≡ bytes_from s i w
unfolding Bytes u8_at number_at le_bytes
number_bytes zero s i b = refl
number_bytes (suc w) s i b =
    λ j. low (get_or s i 0) (number_at w s (i + 1)) (b i) j ∷ (ap (le_bytes w) (high (get_or s i 0) (number_at w s (i + 1)) (b i)) ∙ number_bytes w s (i + 1) b) j

number_shift : (w x : ℕ) (s : List ℕ) (i : ℕ) → number_at w (x ∷ s) (i + 1) ≡ number_at w s i
unfolding u8_at number_at
number_shift zero x s i = refl
number_shift (suc w) x s i = λ j. get_or (x ∷ s) (add-one i j) 0 + 256 * number_shift w x s (i + 1) j

-- the number, bytes, the number
pub bytes_number : (w n : ℕ) → n < 256 ^ w → number_at w (le_bytes w n) 0 ≡ n
unfolding u8_at number_at le_bytes
bytes_number zero n h = omega arith
bytes_number (suc w) n h =
    let r : number_at w (n % 256 ∷ le_bytes w (n / 256)) 1 ≡ n / 256 = number_shift w (n % 256) (le_bytes w (n / 256)) 0 ∙ bytes_number w (n / 256) (omega (arith, pow-succ' 256 w)) in
    ap (λ (k : ℕ). n % 256 + 256 * k) r ∙ omega (arith, div-add-mod' n 256)

pub number_lt : (w : ℕ) (s : List ℕ) (i : ℕ) → Bytes s → number_at w s i < 256 ^ w
unfolding Bytes number_at
number_lt zero s i b = omega arith
number_lt (suc w) s i b = let h = number_lt w s (i + 1) b in let k = b i in omega (arith, pow-succ' 256 w)

-- two and four bytes, written out
pub u16_is : (s : List ℕ) (i : ℕ) → u16_at s i ≡ u8_at s i + 256 * u8_at s (i + 1)
unfolding u16_at number_at
u16_is s i = omega arith

pub u32_is : (s : List ℕ) (i : ℕ) → u32_at s i ≡ u8_at s i + 256 * u8_at s (i + 1) + 65536 * u8_at s (i + 2) + 16777216 * u8_at s (i + 3)
unfolding u32_at number_at
u32_is s i =
    let two : i + 1 + 1 ≡ i + 2 = omega arith in
    let three : i + 1 + 1 + 1 ≡ i + 3 = omega arith in
    omega (arith, ap (u8_at s) two, ap (u8_at s) three)

pub le16_is : (n : ℕ) → le16 n ≡ n % 256 ∷ n / 256 % 256 ∷ []
unfolding le16 le_bytes
le16_is n = refl

pub le32_is : (n : ℕ) → le32 n ≡ n % 256 ∷ n / 256 % 256 ∷ n / 65536 % 256 ∷ n / 16777216 % 256 ∷ []
unfolding le32 le_bytes
le32_is n =
    let two : n / 256 / 256 ≡ n / 65536 = div-div-eq-div-mul n 256 256 in
    let three : n / 256 / 256 / 256 ≡ n / 16777216 = ap (λ (k : ℕ). k / 256) two ∙ div-div-eq-div-mul n 65536 256 in
    λ j. n % 256 ∷ n / 256 % 256 ∷ two j % 256 ∷ three j % 256 ∷ []

-- four bytes as two halves
pub u32_halves : (s : List ℕ) (i : ℕ) → u32_at s i ≡ u16_at s i + 65536 * u16_at s (i + 2)
unfolding u16_at u32_at number_at
u32_halves s i =
    let two : i + 1 + 1 ≡ i + 2 = omega arith in
    let three : i + 1 + 1 + 1 ≡ i + 2 + 1 = omega arith in
    omega (arith, ap (u8_at s) two, ap (u8_at s) three)

pub le32_halves : (n : ℕ) → le32 n ≡ le16 (n % 65536) ++ le16 (n / 65536)
unfolding le16 le32 le_bytes
le32_halves n =
    let a : n % 256 ≡ n % 65536 % 256 = omega arith in
    let x : n / 256 ≡ n % 65536 / 256 + 256 * (n / 65536) = omega arith in
    let b : n / 256 % 256 ≡ n % 65536 / 256 % 256 = ap (λ (k : ℕ). k % 256) x ∙ add-mul-mod_self_left (n % 65536 / 256) 256 (n / 65536) in
    let two : n / 256 / 256 ≡ n / 65536 = div-div-eq-div-mul n 256 256 in
    λ j. a j ∷ b j ∷ two j % 256 ∷ two j / 256 % 256 ∷ []
