-- The estimate in whole numbers, and how far it lies above the exact one. Document 02, L8. Assumes nothing.
use Rattle.std.specs.Prelude.{◌≡◌, ℕ, ◌+◌, ◌-◌, ◌*◌, ◌/◌, ◌%◌, ◌<◌, ◌≤◌, cond, ◌==◌}
use Rattle.whole_energy.specs.declared.Return.{Return}
use Rattle.whole_energy.specs.declared.Leg.{Leg}
use Rattle.whole_energy.specs.declared.Estimate.{Estimate}
use Rattle.whole_energy.specs.Root.{whole_root}

-- what the limits leave, and no speed of 0: the numbers are small enough that nothing overflows in 64 bits
pub record Bounded (x : Return) : Type 0 where
  pub square : x.square ≤ 800000000000000
  pub climb : x.climb ≤ 2100000
  pub descent : x.descent ≤ 2000000
  pub power_climb : x.power_climb ≤ 10000000
  pub power_cruise : x.power_cruise ≤ 10000000
  pub power_descent : x.power_descent ≤ 10000000
  pub wind : x.wind ≤ 10000
  pub speed_climb : (0 < x.speed_climb) × (x.speed_climb ≤ 100000)
  pub speed_cruise : (0 < x.speed_cruise) × (x.speed_cruise ≤ 100000)
  pub speed_descent : (0 < x.speed_descent) × (x.speed_descent ≤ 100000)

-- one for a remainder that is not zero
abbrev pub one_for : ℕ → ℕ
one_for remainder = cond (remainder == 0) 0 1

-- "Home distance is the whole square root with its exact remainder, one more where that isn't zero."
unfoldable pub remainder_of : ℕ → ℕ
remainder_of square = square - whole_root square * whole_root square

unfoldable pub distance_of : ℕ → ℕ
distance_of square = whole_root square + one_for (remainder_of square)

-- what each leg divides, and by what: "cruise over speed × 1000, the others over speed"
abbrev pub climb_energy : Return → ℕ
climb_energy x = x.climb * x.power_climb

abbrev pub cruise_energy : Return → ℕ
cruise_energy x = distance_of x.square * x.power_cruise * x.wind

abbrev pub descent_energy : Return → ℕ
descent_energy x = x.descent * x.power_descent

abbrev pub cruise_divisor : Return → ℕ
cruise_divisor x = x.speed_cruise * 1000

-- "The climb, cruise and descent legs .. each give quotient and exact remainder"
abbrev pub leg : ℕ → ℕ → Leg
leg energy divisor = record { quotient = energy / divisor; remainder = energy % divisor }

abbrev pub rounded_up : Leg → ℕ
rounded_up l = l.quotient + one_for l.remainder

abbrev pub climb_leg : Return → Leg
climb_leg x = leg (climb_energy x) x.speed_climb

abbrev pub cruise_leg : Return → Leg
cruise_leg x = leg (cruise_energy x) (cruise_divisor x)

abbrev pub descent_leg : Return → Leg
descent_leg x = leg (descent_energy x) x.speed_descent

-- "The total adds one for each non-zero remainder."
unfoldable pub total_of : Return → ℕ
total_of x = rounded_up (climb_leg x) + rounded_up (cruise_leg x) + rounded_up (descent_leg x)

unfoldable pub estimate_of : Return → Estimate
estimate_of x =
    record {
      distance = distance_of x.square;
      remainder = remainder_of x.square;
      climb = climb_leg x;
      cruise = cruise_leg x;
      descent = descent_leg x;
      total = total_of x;
    }

-- Quotient and remainder give back what was divided, and the remainder is smaller than the divisor.
abbrev pub LegExact : ℕ → ℕ → Leg → Type 0
LegExact energy divisor l = (l.quotient * divisor + l.remainder ≡ energy) × (l.remainder < divisor)

-- every remainder is exact: the root's and each leg's
abbrev pub EstimateExact : Return → Type 0
EstimateExact x =
    (whole_root x.square * whole_root x.square + remainder_of x.square ≡ x.square)
    × LegExact (climb_energy x) x.speed_climb (climb_leg x)
    × LegExact (cruise_energy x) (cruise_divisor x) (cruise_leg x)
    × LegExact (descent_energy x) x.speed_descent (descent_leg x)

-- "So it is at least the exact sum for that distance and less than 3 above it." The exact sum is a / d + b / e + c / f, for the energies a, b, c of climb, cruise and descent and
-- their divisors d, e, f; everything is multiplied by d * e * f, so that nothing is divided.
abbrev pub exact_sum : ℕ → ℕ → ℕ → ℕ → ℕ → ℕ → ℕ
exact_sum a d b e c f = a * (e * f) + b * (d * f) + c * (d * e)

abbrev pub TotalBound : Return → Type 0
TotalBound x =
    let a = climb_energy x in
    let b = cruise_energy x in
    let c = descent_energy x in
    let d = x.speed_climb in
    let e = cruise_divisor x in
    let f = x.speed_descent in
    (exact_sum a d b e c f ≤ total_of x * (d * e * f)) × (total_of x * (d * e * f) < exact_sum a d b e c f + 3 * (d * e * f))

abbrev pub EstimateBound : Type 0
EstimateBound = (x : Return) → 0 < x.speed_climb → 0 < x.speed_cruise → 0 < x.speed_descent → EstimateExact x × TotalBound x
