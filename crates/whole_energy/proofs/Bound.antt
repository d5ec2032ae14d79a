-- The total is at least the exact sum of the three legs and less than 3 above it. Assumes nothing.
use Rattle.std.proofs.Common.{◌≡◌, ℕ, zero, suc, ◌+◌, ◌-◌, ◌*◌, ◌/◌, ◌%◌, ◌<◌, ◌≤◌, Bool, true, false, cond, T, eqb, sym, refl, ap, ◌∙◌, subst, mul-le-mul_right, mod-lt, mul_assoc, mul_comm, add-mul, mul-lt-mul_of_pos_right, mul-pos, div-add-mod', mul_left_comm, arith, eqb→eq}
use Rattle.whole_energy.specs.Energy.{leg, rounded_up, climb_energy, cruise_energy, descent_energy, cruise_divisor, remainder_of, exact_sum, total_of, EstimateExact, EstimateBound}
use Rattle.whole_energy.specs.declared.Return.{Return}
use Rattle.whole_energy.specs.Root.{whole_root}
use Rattle.whole_energy.specs.Input.{input_of, return_of}
use Rattle.whole_energy.specs.Call.{CallBound}
use Rattle.whole_energy.proofs.Root.{whole_root_is}
use Rattle.whole_energy.proofs.Limits.{bounded}

-- a quotient rounded up, times the divisor
pub rounded_up_lem : (a d : ℕ) → 0 < d → (a ≤ rounded_up (leg a d) * d) × (rounded_up (leg a d) * d < a + d)
rounded_up_lem a d h = go (a / d) (a % d) (eqb (a % d) 0) (eqb→eq (a % d) 0) (λ (e : a % d ≡ 0). subst (λ (k : ℕ). T (eqb k 0)) (sym e) tt) (div-add-mod' a d) (mod-lt a h)
  where
    go : (q r : ℕ) (b : Bool) → (T b → r ≡ 0) → (r ≡ 0 → T b) → q * d + r ≡ a → r < d → (a ≤ (q + cond b 0 1) * d) × ((q + cond b 0 1) * d < a + d)
    go q r true y n e l = let z = y tt in (omega (arith, add-mul q 0 d), omega (arith, add-mul q 0 d))
    go q zero false y n e l = absurd (n refl)
    go q (suc r) false y n e l = (omega (arith, add-mul q 1 d), omega (arith, add-mul q 1 d))

-- three such quotients, each carried to the common divisor
three : (a b c d e f p q r : ℕ) → 0 < d → 0 < e → 0 < f → (a ≤ p * d) × (p * d < a + d) → (b ≤ q * e) × (q * e < b + e) → (c ≤ r * f) × (r * f < c + f)
    → (exact_sum a d b e c f ≤ (p + q + r) * (d * e * f)) × ((p + q + r) * (d * e * f) < exact_sum a d b e c f + 3 * (d * e * f))
three a b c d e f p q r D E F x y z =
    let u = d * e * f in
    let s : (p + q + r) * u ≡ p * u + q * u + r * u = add-mul (p + q) r u ∙ ap (λ (k : ℕ). k + r * u) (add-mul p q u) in
    let i : p * u ≡ p * d * (e * f) = ap (λ (k : ℕ). p * k) (mul_assoc d e f) ∙ sym (mul_assoc p d (e * f)) in
    let j : q * u ≡ q * e * (d * f) = ap (λ (k : ℕ). q * k) (mul_assoc d e f ∙ mul_left_comm d e f) ∙ sym (mul_assoc q e (d * f)) in
    let k : r * u ≡ r * f * (d * e) = ap (λ (k : ℕ). r * k) (mul_comm (d * e) f) ∙ sym (mul_assoc r f (d * e)) in
    let i' : u ≡ d * (e * f) = mul_assoc d e f in
    let j' : u ≡ e * (d * f) = mul_assoc d e f ∙ mul_left_comm d e f in
    let k' : u ≡ f * (d * e) = mul_comm (d * e) f in
    let il = mul-le-mul_right (e * f) x.0 in
    let jl = mul-le-mul_right (d * f) y.0 in
    let kl = mul-le-mul_right (d * e) z.0 in
    let ih = mul-lt-mul_of_pos_right x.1 (mul-pos E F) in
    let jh = mul-lt-mul_of_pos_right y.1 (mul-pos D F) in
    let kh = mul-lt-mul_of_pos_right z.1 (mul-pos D E) in
    (omega arith, omega (arith, add-mul a d (e * f), add-mul b e (d * f), add-mul c f (d * e)))

exact : (x : Return) → 0 < x.speed_climb → 0 < cruise_divisor x → 0 < x.speed_descent → EstimateExact x
unfolding remainder_of
exact x d e f =
    let r : whole_root x.square * whole_root x.square + (x.square - whole_root x.square * whole_root x.square) ≡ x.square = omega (arith, (whole_root_is x.square).0) in
    (r, (div-add-mod' _ _, mod-lt _ d), (div-add-mod' _ _, mod-lt _ e), (div-add-mod' _ _, mod-lt _ f))

pub estimate_bound : EstimateBound
unfolding total_of
estimate_bound x d e f =
    let k : 0 < cruise_divisor x = omega arith in
    let b =
    three (climb_energy x) (cruise_energy x) (descent_energy x) x.speed_climb (cruise_divisor x) x.speed_descent _ _ _ d k f
    (rounded_up_lem (climb_energy x) x.speed_climb d) (rounded_up_lem (cruise_energy x) (cruise_divisor x) k) (rounded_up_lem (descent_energy x) x.speed_descent f) in
    (exact x d k f, b)

pub call_bound : CallBound
call_bound s e f =
    let b = bounded (input_of s) e f in
    estimate_bound (return_of (input_of s)) b.speed_climb.0 b.speed_cruise.0 b.speed_descent.0
