-- Bytes of 0: a number of w bytes is 0 where they are, and a part of the bytes is tested after another. Assumes nothing.
use Prim.Native.Nat.{ℕ, zero, suc, ◌+◌, ◌*◌, ◌-◌, ◌≤◌, min}
use mathlib.Core.Path.{◌≡◌, ◌∙◌, ap, refl, sym}
use mathlib.Core.List.{List}
use mathlib.Core.Bool.{Bool, true, false, ◌&&◌, and_assoc, and-true}
use native.Mathlib.Nat.{zero-add, add-zero, suc-add}
use native.Mathlib.Omega.{arith}
use lib.Dec.{eqb, ltb}
use lib.ListN.{length}
use borrow.Author.Tests.{eqb-true, ne_eqb, ltb-true, ltb-false, lt-ltb}
use Rattle.wire.specs.Fields.{u8_at, number_at, u32_at, byte_below}
use Rattle.options.specs.Options.{zeros}
use Rattle.wire.proofs.Past.{u8_past}
use Rattle.wire.proofs.Whole.{first, second}

pub zeros_past : (s : List ℕ) (i n : ℕ) → length s ≤ i → zeros s i n ≡ true
unfolding zeros
zeros_past s i zero h = refl
zeros_past s i (suc n) h = λ j. eqb (u8_past s i h j) 0 && zeros_past s (i + 1) n (omega arith) j

pub zeros_none : (s : List ℕ) (i : ℕ) → zeros s i 0 ≡ true
unfolding zeros
zeros_none s i = refl

pub zeros_split : (s : List ℕ) (i n m : ℕ) → zeros s i (n + m) ≡ (zeros s i n && zeros s (i + n) m)
unfolding zeros
zeros_split s i zero m = λ j. zeros s (sym (add-zero i) j) (zero-add m j)
zeros_split s i (suc n) m =
    let e : i + 1 + n ≡ i + suc n = omega arith in
    ap (zeros s i) (suc-add n m)
    ∙ ap (λ (b : Bool). eqb (u8_at s i) 0 && b) (zeros_split s (i + 1) n m ∙ ap (λ (k : ℕ). zeros s (i + 1) n && zeros s k m) e)
    ∙ sym (and_assoc (eqb (u8_at s i) 0) (zeros s (i + 1) n) (zeros s (i + suc n) m))

-- a part of bytes that are 0
pub zeros_part : (s : List ℕ) (i n j m : ℕ) → j + m ≤ n → zeros s i n ≡ true → zeros s (i + j) m ≡ true
zeros_part s i n j m h z =
    let e : n ≡ j + (m + (n - (j + m))) = omega arith in
    let a = zeros_split s i j (m + (n - (j + m))) in
    let b = zeros_split s (i + j) m (n - (j + m)) in
    first (zeros s (i + j) m) (zeros s (i + j + m) (n - (j + m))) (sym b ∙ second (zeros s i j) (zeros s (i + j) (m + (n - (j + m)))) (sym a ∙ ap (zeros s i) (sym e) ∙ z))

sum-zero : (x y : ℕ) → eqb (x + 256 * y) 0 ≡ (eqb x 0 && eqb y 0)
sum-zero zero zero = refl
sum-zero zero (suc y) = ne_eqb (0 + 256 * suc y) 0 (λ h. omega arith) ∙ sym (ne_eqb (suc y) 0 (λ h. omega arith))
sum-zero (suc x) y = ne_eqb (suc x + 256 * y) 0 (λ h. omega arith) ∙ sym (ap (λ (b : Bool). b && eqb y 0) (ne_eqb (suc x) 0 (λ h. omega arith)))

-- a number is 0 where its bytes are
pub zeros_number : (w : ℕ) (s : List ℕ) (i : ℕ) → eqb (number_at w s i) 0 ≡ zeros s i w
unfolding zeros number_at
zeros_number zero s i = refl
zeros_number (suc w) s i = sum-zero (u8_at s i) (number_at w s (i + 1)) ∙ ap (λ (b : Bool). eqb (u8_at s i) 0 && b) (zeros_number w s (i + 1))

pub zero_number : (w : ℕ) (s : List ℕ) (i : ℕ) → zeros s i w ≡ true → number_at w s i ≡ 0
zero_number w s i h = eqb-true (number_at w s i) 0 (zeros_number w s i ∙ h)

pub zeros_u8 : (s : List ℕ) (i : ℕ) → zeros s i 1 ≡ eqb (u8_at s i) 0
unfolding zeros
zeros_u8 s i = and-true (eqb (u8_at s i) 0)

-- a byte of 0 is in every range
pub zero_below : (k : ℕ) (s : List ℕ) (i : ℕ) → zeros s i 1 ≡ true → byte_below s i (suc k) ≡ true
unfolding byte_below
zero_below k s i z =
    let e : u8_at s i ≡ 0 = eqb-true (u8_at s i) 0 (sym (zeros_u8 s i) ∙ z) in
    lt-ltb (u8_at s i) (suc k) (omega arith)

pub zeros_u32 : (s : List ℕ) (i : ℕ) → zeros s i 4 ≡ eqb (u32_at s i) 0
unfolding u32_at
zeros_u32 s i = sym (zeros_number 4 s i)

-- a turn of a loop over n bytes, w at a time: z is the answer for those before i, and t for the next w
pub zeros_turn :
    (w : ℕ) (s : List ℕ) (at n i : ℕ) (z t : Bool) → i + w ≤ n → t ≡ zeros s (at + i) w → zeros s at n ≡ (z && zeros s (at + i) (n - i)) →
    zeros s at n ≡ ((z && t) && zeros s (at + (i + w)) (n - (i + w)))
zeros_turn w s at n i z t h e inv =
    let m : n - i ≡ w + (n - (i + w)) = omega arith in
    let j : at + i + w ≡ at + (i + w) = omega arith in
    inv
    ∙ ap (λ (b : Bool). z && b) (ap (zeros s (at + i)) m ∙ zeros_split s (at + i) w (n - (i + w)) ∙ (λ k. sym e k && zeros s (j k) (n - (i + w))))
    ∙ sym (and_assoc z t (zeros s (at + (i + w)) (n - (i + w))))

-- what lies past the end is 0, so the bytes within the list are enough
clipped : (b : Bool) (s : List ℕ) (i n : ℕ) → i ≤ length s → ltb n (length s - i) ≡ b → zeros s i (min n (length s - i)) ≡ zeros s i n
clipped true s i n h e = let m : min n (length s - i) ≡ n = omega (arith, ltb-true n (length s - i) e) in ap (zeros s i) m
clipped false s i n h e =
    let k = length s - i in
    let f : k ≤ n = ltb-false n k e in
    let l : min n k ≡ k = omega arith in
    let m : n ≡ k + (n - k) = omega arith in
    ap (zeros s i) l
    ∙ sym (ap (zeros s i) m ∙ zeros_split s i k (n - k) ∙ ap (λ (b : Bool). zeros s i k && b) (zeros_past s (i + k) (n - k) (omega arith)) ∙ and-true (zeros s i k))

pub zeros_clipped : (s : List ℕ) (i n : ℕ) → i ≤ length s → zeros s i (min n (length s - i)) ≡ zeros s i n
zeros_clipped s i n h = clipped (ltb n (length s - i)) s i n h refl
