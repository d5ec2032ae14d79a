-- A float's draw gives its number exactly: neither the difference nor the quotient rounds. Assumes nothing.
use Rattle.std.proofs.Common.{◌≡◌, ℕ, ◌-◌, ◌*◌, ◌/◌, ◌^◌, ◌<◌, ◌≤◌, Bool, true, false, cond, ltb, ℤ, sym, refl, ap, ◌∙◌, subst, lt_of_le_of_lt, mul-le-mul_right, mul_assoc, mul_comm, mul-le-mul_left, mul-one, arith, lit<, ltb-false, ltb-true, le-ltb, lt-ltb}
use native.Mathlib.Nat.{mul-sub, mul-lt-mul_of_pos_left}
use lib.Ieee.{Float, nan, inf, fin, binary32, up, down, round, neg, sum, add, sub, div, of_bits, of_int}
use lib.Ieee.Exact.{HasValue, round_exact}
use lib.Ieee.Fits.{down_pos}
use lib.Ieee.Back.{round_whole}
use lib.Ieee.Scale.{round_same}
use Rattle.trial.specs.Draws.{middle, eight, apart, FloatExact, float_of}

not_both : ◌≡◌ {A = Bool} true false → ⊥
not_both p = let z : ◌≡◌ {A = ℕ} 0 1 = cc in omega arith

-- a number k of 1 / d each, less 32,768 of them
module _ (a b c k d : ℕ) (above : 0 < d) (p : a ≡ d * k) (q : b ≡ d * 32768) (r : c ≡ d) where
  room : 0 < c
  room = omega arith

  under : k < 32768 → cond (ltb a b) (round binary32 true (b - a) c) (round binary32 false (a - b) c) ≡ round binary32 true (32768 - k) 1
  under h =
      let less : a < b = omega (arith, mul-lt-mul_of_pos_left h above) in
      let same : (b - a) * 1 ≡ (32768 - k) * c = mul-one (b - a) ∙ (λ j. q j - p j) ∙ sym (mul-sub d 32768 k) ∙ mul_comm d (32768 - k) ∙ ap (λ (n : ℕ). (32768 - k) * n) (sym r) in
      rw (lt-ltb a b less) (round_same binary32 true (b - a) c (32768 - k) 1 room (lit< tt) same)

  over_it : 32768 ≤ k → cond (ltb a b) (round binary32 true (b - a) c) (round binary32 false (a - b) c) ≡ round binary32 false (k - 32768) 1
  over_it h =
      let more : b ≤ a = omega (arith, mul-le-mul_left d h) in
      let same : (a - b) * 1 ≡ (k - 32768) * c = mul-one (a - b) ∙ (λ j. p j - q j) ∙ sym (mul-sub d k 32768) ∙ mul_comm d (k - 32768) ∙ ap (λ (n : ℕ). (k - 32768) * n) (sym r) in
      rw (le-ltb a b more) (round_same binary32 false (a - b) c (k - 32768) 1 room (lit< tt) same)

  either : (t : Bool) → ltb k 32768 ≡ t → cond (ltb a b) (round binary32 true (b - a) c) (round binary32 false (a - b) c) ≡ round binary32 t (cond t (32768 - k) (k - 32768)) 1
  either true e = under (ltb-true k 32768 e)
  either false e = over_it (ltb-false k 32768 e)

difference : (x : Float) (k : ℕ) → HasValue x false k 1 → sub binary32 x middle ≡ round binary32 (ltb k 32768) (apart k) 1
unfolding sub add neg sum of_bits apart
difference nan k h = absurd h
difference (inf t) k h = absurd h
difference (fin true m e) k h = absurd (not_both h.0)
difference (fin false m e) k h =
    either (m * up e * 1) (1 * 2 ^ 15 * down e) (down e * 1) k (down e) (down_pos e) (h.1 ∙ mul_comm k (down e)) (mul_comm (1 * 2 ^ 15) (down e)) (mul-one (down e)) (ltb k 32768) refl

-- a whole number over 8
parts : (m n : ℕ) (e : ℤ) → m * up e * 1 ≡ n * down e → m * up e * 1 * 8 ≡ n * (1 * 2 ^ 3 * down e)
parts m n e h = ap (λ (z : ℕ). z * 8) h ∙ mul_assoc n (down e) 8 ∙ ap (λ (z : ℕ). n * z) (mul_comm (down e) 8)

eighth : (y : Float) (s : Bool) (n : ℕ) → HasValue y s n 1 → div binary32 y eight ≡ round binary32 s n 8
unfolding div of_bits
eighth nan s n h = absurd h
eighth (inf t) s n h = absurd h
eighth (fin true m e) s n h =
    round_same binary32 true (m * up e * 1) (1 * 2 ^ 3 * down e) n 8 (omega (arith, down_pos e)) (lit< tt) (parts m n e h.1) ∙ ap (λ (t : Bool). round binary32 t n 8) h.0
eighth (fin false m e) s n h =
    round_same binary32 false (m * up e * 1) (1 * 2 ^ 3 * down e) n 8 (omega (arith, down_pos e)) (lit< tt) (parts m n e h.1) ∙ ap (λ (t : Bool). round binary32 t n 8) h.0

apart_small : (k : ℕ) → k < 65536 → apart k ≤ 32768
unfolding apart
apart_small k h = go (ltb k 32768) refl
  where
    go : (t : Bool) → ltb k 32768 ≡ t → cond t (32768 - k) (k - 32768) ≤ 32768
    go true e = omega arith
    go false e = omega arith

finite : (n : ℕ) → n ≤ 32768 → n * 2 ^ 146 < 2 ^ 277
finite n h = lt_of_le_of_lt (mul-le-mul_right (2 ^ 146) h) (lit< tt)

pub float_exact : FloatExact
unfolding float_of of_int
float_exact draw h =
    let k = draw / 65536 in
    let small : k < 65536 = omega arith in
    let n = apart k in
    let s = ltb k 32768 in
    let near : n ≤ 32768 = apart_small k small in
    let d = difference (round binary32 false k 1) k (round_whole binary32 false k (omega arith)) in
    let q = ap (λ (y : Float). div binary32 y eight) d ∙ eighth (round binary32 s n 1) s n (round_whole binary32 s n (omega arith)) in
    subst (λ (y : Float). HasValue y s n 8) (sym q)
    (round_exact binary32 s n 8 n 146 (lit< tt) (omega arith) (finite n near) (sym (mul_assoc n (2 ^ 146) 8)))
