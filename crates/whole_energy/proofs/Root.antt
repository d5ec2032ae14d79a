-- `whole_root n` is the largest number whose square is not above n, and the only one. Assumes nothing.
use Rattle.std.proofs.Common.{◌≡◌, ℕ, zero, suc, ◌+◌, ◌*◌, ◌<◌, ◌≤◌, Bool, true, false, cond, not, T, leb, lt_of_le_of_lt, add_assoc, mul_comm, add-mul, mul-le-mul, add_comm, le_antisymm, lt_of_not-le, mul-add, not-le_of_lt, arith, leb→le}
use lib.Dec.{nleb→lt}
use Rattle.whole_energy.specs.Root.{whole_root, WholeRoot}

pub square_of_sum : (a b : ℕ) → (a + b) * (a + b) ≡ a * a + 2 * (a * b) + b * b
square_of_sum a b = simp (mul-add, add-mul, mul_comm, add_assoc, add_comm) (omega arith)

-- a square that is below another is a smaller number's
pub square_below : (a b : ℕ) → a * a < b * b → a < b
square_below a b h = lt_of_not-le (λ (g : b ≤ a). not-le_of_lt h (mul-le-mul g g))

pub whole_root_is : (n : ℕ) → WholeRoot n (whole_root n)
unfolding whole_root
whole_root_is zero = (omega arith, omega arith)
whole_root_is (suc n) = go (whole_root n) (leb ((whole_root n + 1) * (whole_root n + 1)) (suc n)) (leb→le _ _) (nleb→lt _ _) (whole_root_is n).0 (whole_root_is n).1
  where
    go : (r : ℕ) (b : Bool) → (T b → (r + 1) * (r + 1) ≤ suc n) → (T (not b) → suc n < (r + 1) * (r + 1)) → r * r ≤ n → n < (r + 1) * (r + 1) → WholeRoot (suc n) (cond b (r + 1) r)
    go r true y f l h = (y tt, omega (arith, square_of_sum (r + 1) 1))
    go r false y f l h = (omega arith, f tt)

pub whole_root_only : (n r : ℕ) → WholeRoot n r → r ≡ whole_root n
whole_root_only n r h =
    let k = whole_root_is n in
    let a : r < whole_root n + 1 = square_below r (whole_root n + 1) (lt_of_le_of_lt h.0 k.1) in
    let b : whole_root n < r + 1 = square_below (whole_root n) (r + 1) (lt_of_le_of_lt k.0 h.1) in
    le_antisymm (omega arith) (omega arith)
