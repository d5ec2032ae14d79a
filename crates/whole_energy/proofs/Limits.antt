-- What the limits say of each number, and of what is worked out from them. Assumes nothing.
use Rattle.std.proofs.Common.{◌≡◌, ℕ, ◌<◌, ◌≤◌, ◌+◌, Bool, true, false, ◌&&◌, ◌||◌, ℤ, pos, negsuc, neg_ℤ, ◌≤ℤ◌, ◌-ℤ◌, unsigned_abs, arith, refl, FitsSigned, w32, mul-le-mul}
use Rattle.std.proofs.lemmas.Int.{ints, clamps}
use Rattle.std.specs.Int.{int_max}
use Rattle.whole_energy.specs.declared.Input.{Input}
use Rattle.whole_energy.specs.Input.{within, within_limits, from_zero, is_zero, speed_of_zero, squared, return_of}
use Rattle.whole_energy.specs.Energy.{Bounded}

both : (a b : Bool) → (a && b) ≡ true → (a ≡ true) × (b ≡ true)
both true true e = (refl, refl)
both true false e = absurd (cc)
both false b e = absurd (cc)

neither : (a b : Bool) → (a || b) ≡ false → (a ≡ false) × (b ≡ false)
neither false false e = (refl, refl)
neither false true e = absurd (cc)
neither true b e = absurd (cc)

record Between (low high z : ℤ) : Type 0 where
  pub low_le : low ≤ℤ z
  pub le_high : z ≤ℤ high

between : (low high z : ℤ) → within low high z ≡ true → Between low high z
between low high z e = record { low_le = grind (arith, ints); le_high = grind (arith, ints) }

-- the limits one by one
record Limits (i : Input) : Type 0 where
  pub north : Between (neg_ℤ (pos 10000000)) (pos 10000000) i.north
  pub east : Between (neg_ℤ (pos 10000000)) (pos 10000000) i.east
  pub home_north : Between (neg_ℤ (pos 10000000)) (pos 10000000) i.home_north
  pub home_east : Between (neg_ℤ (pos 10000000)) (pos 10000000) i.home_east
  pub altitude : Between (neg_ℤ (pos 100000)) (pos 2000000) i.altitude
  pub return_altitude : Between (pos 0) (pos 2000000) i.return_altitude
  pub power_climb : Between (pos 0) (pos 10000000) i.power_climb
  pub power_cruise : Between (pos 0) (pos 10000000) i.power_cruise
  pub power_descent : Between (pos 0) (pos 10000000) i.power_descent
  pub wind : Between (pos 0) (pos 10000) i.wind
  pub speed_climb : Between (pos 0) (pos 100000) i.speed_climb
  pub speed_cruise : Between (pos 0) (pos 100000) i.speed_cruise
  pub speed_descent : Between (pos 0) (pos 100000) i.speed_descent

limits : (i : Input) → within_limits i ≡ true → Limits i
unfolding within_limits
limits i e13 =
    let e12 = both _ (within (pos 0) (pos 100000) i.speed_descent) e13 in
    let e11 = both _ (within (pos 0) (pos 100000) i.speed_cruise) e12.0 in
    let e10 = both _ (within (pos 0) (pos 100000) i.speed_climb) e11.0 in
    let e9 = both _ (within (pos 0) (pos 10000) i.wind) e10.0 in
    let e8 = both _ (within (pos 0) (pos 10000000) i.power_descent) e9.0 in
    let e7 = both _ (within (pos 0) (pos 10000000) i.power_cruise) e8.0 in
    let e6 = both _ (within (pos 0) (pos 10000000) i.power_climb) e7.0 in
    let e5 = both _ (within (pos 0) (pos 2000000) i.return_altitude) e6.0 in
    let e4 = both _ (within (neg_ℤ (pos 100000)) (pos 2000000) i.altitude) e5.0 in
    let e3 = both _ (within (neg_ℤ (pos 10000000)) (pos 10000000) i.home_east) e4.0 in
    let e2 = both _ (within (neg_ℤ (pos 10000000)) (pos 10000000) i.home_north) e3.0 in
    let e1 = both (within (neg_ℤ (pos 10000000)) (pos 10000000) i.north) (within (neg_ℤ (pos 10000000)) (pos 10000000) i.east) e2.0 in
    record {
      north = between _ _ _ e1.0;
      east = between _ _ _ e1.1;
      home_north = between _ _ _ e2.1;
      home_east = between _ _ _ e3.1;
      altitude = between _ _ _ e4.1;
      return_altitude = between _ _ _ e5.1;
      power_climb = between _ _ _ e6.1;
      power_cruise = between _ _ _ e7.1;
      power_descent = between _ _ _ e8.1;
      wind = between _ _ _ e9.1;
      speed_climb = between _ _ _ e10.1;
      speed_cruise = between _ _ _ e11.1;
      speed_descent = between _ _ _ e12.1;
    }

-- the square of a difference of two places
squared_le : (a b : ℤ) → Between (neg_ℤ (pos 10000000)) (pos 10000000) a → Between (neg_ℤ (pos 10000000)) (pos 10000000) b → squared (a -ℤ b) ≤ 400000000000000
squared_le a b x y = let l : unsigned_abs (a -ℤ b) ≤ 20000000 = omega (arith, ints) in mul-le-mul l l

pub square_le : (i : Input) → within_limits i ≡ true → squared (i.north -ℤ i.home_north) + squared (i.east -ℤ i.home_east) ≤ 800000000000000
square_le i e =
    let l = limits i e in
    let north = squared_le _ _ l.north l.home_north in
    let east = squared_le _ _ l.east l.home_east in
    omega arith

pub climb_fits : (i : Input) → within_limits i ≡ true → FitsSigned w32 (i.return_altitude -ℤ i.altitude)
climb_fits i e = let l = limits i e in omega (arith, ints)

from_zero_le : (h : ℕ) (z : ℤ) → z ≤ℤ pos h → from_zero z ≤ h
from_zero_le h (pos n) x = omega (arith, ints)
from_zero_le h (negsuc n) x = omega (arith, ints)

from_zero_pos : (z : ℤ) → pos 0 ≤ℤ z → is_zero z ≡ false → 0 < from_zero z
from_zero_pos (pos n) x e = grind (arith, ints)
from_zero_pos (negsuc n) x e = grind (arith, ints)

-- the three speeds
speeds : (i : Input) → speed_of_zero i ≡ false → (is_zero i.speed_climb ≡ false) × (is_zero i.speed_cruise ≡ false) × (is_zero i.speed_descent ≡ false)
unfolding speed_of_zero
speeds i e =
    let f = neither _ (is_zero i.speed_descent) e in
    let g = neither (is_zero i.speed_climb) (is_zero i.speed_cruise) f.0 in
    (g.0, g.1, f.1)

pub bounded : (i : Input) → within_limits i ≡ true → speed_of_zero i ≡ false → Bounded (return_of i)
unfolding return_of
bounded i e f =
    let l = limits i e in
    let s = speeds i f in
    record {
      square = square_le i e;
      climb = from_zero_le 2100000 (i.return_altitude -ℤ i.altitude) (omega (arith, ints));
      descent = from_zero_le 2000000 (int_max i.altitude i.return_altitude) (omega (arith, ints, clamps));
      power_climb = from_zero_le _ _ l.power_climb.le_high;
      power_cruise = from_zero_le _ _ l.power_cruise.le_high;
      power_descent = from_zero_le _ _ l.power_descent.le_high;
      wind = from_zero_le _ _ l.wind.le_high;
      speed_climb = (from_zero_pos _ l.speed_climb.low_le s.0, from_zero_le _ _ l.speed_climb.le_high);
      speed_cruise = (from_zero_pos _ l.speed_cruise.low_le s.1, from_zero_le _ _ l.speed_cruise.le_high);
      speed_descent = (from_zero_pos _ l.speed_descent.low_le s.2, from_zero_le _ _ l.speed_descent.le_high);
    }
