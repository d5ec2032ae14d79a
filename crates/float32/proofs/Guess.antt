-- How `low_root` comes to at most the root of 128 * m and less than 10 below it: a first guess on a line, then the mean of the guess and 128 * m divided by it. Assumes nothing.
use mathlib.Core.Path.{◌≡◌, ap, ◌∙◌}
use mathlib.Core.Bool.{Bool, true, false, not}
use Prim.Native.Nat.{ℕ, ◌+◌, ◌-◌, ◌*◌, ◌/◌, ◌^◌, ◌≤◌, ◌<◌}
use native.Mathlib.Nat.{lt_of_not-le, mul-le-mul, mul-le-mul_right, mul_comm, mul_assoc, mul-add, add-mul, one-mul, div-add-mod', mod-lt}
use native.Mathlib.Omega.{arith}
use lib.Dec.{T, leb, leb→le, nleb→lt}
use Rattle.float32.specs.Radicand.{MeanNear}
use Rattle.float32.proofs.Squares.{sq_sum}

-- ---- two numbers, their product and their sum's square
apart : (x y : ℕ) → x ≤ y → ((x + y) * (x + y) ≡ 4 * (x * y) + (y - x) * (y - x)) × (2 * (x * y) ≤ x * x + y * y)
apart x y h =
    let d = y - x in
    let e : y ≡ x + d = omega arith in
    let f : x * y ≡ x * x + x * d = ap (λ (z : ℕ). x * z) e ∙ mul-add x x d in
    let g : y * y ≡ x * x + 2 * (x * d) + d * d = ap (λ (z : ℕ). z * z) e ∙ sq_sum x d in
    (omega (arith, sq_sum x y), omega arith)

either_way : (x y : ℕ) {C : Type 0} → (x ≤ y → C) → (y ≤ x → C) → C
either_way x y {C} f g = go (leb x y) (leb→le x y) (nleb→lt x y)
  where
    go : (b : Bool) → (T b → x ≤ y) → (T (not b) → y < x) → C
    go true a c = f (a tt)
    go false a c = g (let h = c tt in omega arith)

-- the middle of two squares is at least the product
pub middle : (x y : ℕ) → 2 * (x * y) ≤ x * x + y * y
middle x y = either_way x y (λ (h : x ≤ y). (apart x y h).1) (λ (h : y ≤ x). omega (arith, (apart y x h).1, mul_comm x y))

-- two numbers that differ by at most l
close : (x y l : ℕ) → x ≤ y + l → y ≤ x + l → (x + y) * (x + y) ≤ 4 * (x * y) + l * l
close x y l h k = either_way x y (λ (g : x ≤ y). rise x y g k) (λ (g : y ≤ x). turn (rise y x g h))
  where
    rise : (x y : ℕ) → x ≤ y → y ≤ x + l → (x + y) * (x + y) ≤ 4 * (x * y) + l * l
    rise x y g k =
        let s : y - x ≤ l = omega arith in
        omega (arith, (apart x y g).0, mul-le-mul s s)

    turn : (y + x) * (y + x) ≤ 4 * (y * x) + l * l → (x + y) * (x + y) ≤ 4 * (x * y) + l * l
    turn z = omega (arith, sq_sum x y, sq_sum y x, mul_comm x y)

-- ---- Heron's step
divided : (v z : ℕ) → 0 < z → (v / z * z ≤ v) × (v < v / z * z + z)
divided v z h = (omega (arith, div-add-mod' v z), omega (arith, div-add-mod' v z, mod-lt v h))

pub quotient_small : (m z : ℕ) → m < 2 ^ 25 → 2 ^ 12 ≤ z → 8 * m / z < 2 ^ 17
quotient_small m z h k = lt_of_not-le (λ (w : 131072 ≤ 8 * m / z). clash (8 * m / z) (divided (8 * m) z (omega arith)).0 (mul-le-mul_right z w))
  where
    clash : (q : ℕ) → q * z ≤ 8 * m → 131072 * z ≤ q * z → ⊥
    clash q a b = omega arith

-- where v is within l * z of 4 * z * z, v / z is within l of 4 * z
differ : (v z l : ℕ) → 0 < z → 4 * (z * z) ≤ v + l * z → v ≤ 4 * (z * z) + l * z → (4 * z ≤ v / z + l) × (v / z ≤ 4 * z + l)
differ v z l p h k =
    let q = v / z in
    let d = divided v z p in
    let a : 4 * z < q + l + 1 = lt_of_not-le (λ (w : q + l + 1 ≤ 4 * z). low q d.1 w) in
    let b : q < 4 * z + l + 1 = lt_of_not-le (λ (w : 4 * z + l + 1 ≤ q). high q d.0 w) in
    (omega arith, omega arith)
  where
    three : (a b : ℕ) → (a + b + 1) * z ≡ a * z + b * z + z
    three a b = add-mul (a + b) 1 z ∙ ap (λ (y : ℕ). y + 1 * z) (add-mul a b z) ∙ ap (λ (y : ℕ). a * z + b * z + y) (one-mul z)

    low : (q : ℕ) → v < q * z + z → q + l + 1 ≤ 4 * z → ⊥
    low q b w = omega (arith, mul-le-mul_right z w, three q l, mul_assoc 4 z z)

    high : (q : ℕ) → q * z ≤ v → 4 * z + l + 1 ≤ q → ⊥
    high q b w = omega (arith, mul-le-mul_right z w, three (4 * z) l, mul_assoc 4 z z)

pub mean : (m z l : ℕ) → 9 ≤ z → 4 * (z * z) ≤ 8 * m + l * z → 8 * m ≤ 4 * (z * z) + l * z → l * l + 81 + 18 * l ≤ 144 * z → MeanNear m z
unfolding MeanNear
mean m z l h a b room =
    let p : 0 < z = omega arith in
    go (8 * m / z) (divided (8 * m) z p).0 (differ (8 * m) z l p a b)
  where
    go : (q : ℕ) → q * z ≤ 8 * m → (4 * z ≤ q + l) × (q ≤ 4 * z + l) → (4 * z + q - 9) * (4 * z + q - 9) ≤ 128 * m
    go q b d =
        let w = 4 * z + q - 9 in
        let s : 4 * z + q ≡ w + 9 = omega arith in
        omega (arith, close (4 * z) q l d.0 d.1, ap (λ (x : ℕ). x * x) s ∙ sq_sum w 9, mul_assoc 4 z q, mul_comm z q)

-- what is left of the mean is at most the root, and less than 10 below it
pub cut : (m z : ℕ) → 9 ≤ z → MeanNear m z → (4 * z + 8 * m / z - 9) * (4 * z + 8 * m / z - 9) ≤ 128 * m
    × (128 * m < (4 * z + 8 * m / z - 9 + 10) * (4 * z + 8 * m / z - 9 + 10))
unfolding MeanNear
cut m z h near = (near, go (8 * m / z) (4 * z + 8 * m / z - 9 + 10) (divided (8 * m) z (omega arith)).1 (omega arith))
  where
    go : (q y : ℕ) → 8 * m < q * z + z → y ≡ 4 * z + (q + 1) → 128 * m < y * y
    go q y b e =
        let p : (q + 1) * z ≡ q * z + z = add-mul q 1 z ∙ ap (λ (x : ℕ). q * z + x) (one-mul z) in
        omega (arith, ap (λ (x : ℕ). x * x) e ∙ sq_sum (4 * z) (q + 1), middle (4 * z) (q + 1), mul_assoc 4 z (q + 1), mul_comm z (q + 1))

-- ---- the two lines
abbrev pub Guessed : ℕ → ℕ → Type 0
Guessed m z = (2 ^ 12 ≤ z) × (z < 2 ^ 14) × MeanNear m z

-- a number between lo and lo + w has a square below the line through the two ends'
under : (lo w g : ℕ) → lo ≤ g → g ≤ lo + w → g * g + lo * w ≤ lo * lo + 2 * (lo * (g - lo)) + w * g
under lo w g h k =
    let d = g - lo in
    let e : g ≡ lo + d = omega arith in
    let s : d ≤ w = omega arith in
    omega (arith, ap (λ (x : ℕ). x * x) e ∙ sq_sum lo d, mul-le-mul_right d s, ap (λ (x : ℕ). w * x) e ∙ mul-add w lo d, mul_comm lo w)

pub single_guess : (t z : ℕ) → 2 ^ 23 ≤ t → t < 2 ^ 24 → z ≡ (3 * t + 21175 * 2048) / 16384 → Guessed t z
single_guess t z lo hi e =
    let l : 4182 ≤ z = omega arith in
    let h : z ≤ 4182 + 1536 = omega arith in
    let a : 4 * (z * z) ≤ 8 * t + 700 * z = omega (arith, under 4182 1536 z l h) in
    let b : 8 * t ≤ 4 * (z * z) + 700 * z = omega (arith, middle 5374 z) in
    (omega arith, omega arith, mean t z 700 (omega arith) a b (omega arith))

pub double_guess : (t z : ℕ) → t < 2 ^ 23 → z ≡ (5 * t + 45880 * 2048) / 16384 → Guessed (2 * t + 2 ^ 24) z
double_guess t z hi e =
    let l : 5735 ≤ z = omega arith in
    let h : z ≤ 5735 + 2560 = omega arith in
    let a : 4 * (z * z) ≤ 8 * (2 * t + 2 ^ 24) + 850 * z = omega (arith, under 5735 2560 z l h) in
    let b : 8 * (2 * t + 2 ^ 24) ≤ 4 * (z * z) + 850 * z = omega (arith, middle 6447 z) in
    (omega arith, omega arith, mean (2 * t + 2 ^ 24) z 850 (omega arith) a b (omega arith))
