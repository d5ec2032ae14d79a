-- The thirteen numbers of the estimate, and their limits. Document 02, L8: "an estimate in millimetres, millimetres a second, milliwatts and millijoules, with wind in
-- thousandths". Assumes nothing.
use Rattle.std.specs.Prelude.{ℕ, ◌+◌, ◌*◌, Bool, false, ◌&&◌, ◌||◌, List, ℤ, pos, negsuc, ◌-ℤ◌, neg_ℤ, ◌==◌, int_le, unsigned_abs}
use Rattle.std.specs.Int.{w32, cast_signed, int_max}
use Rattle.wire.specs.Fields.{u32_at}
use Rattle.whole_energy.specs.declared.Input.{Input}
use Rattle.whole_energy.specs.declared.Return.{Return}

-- the number in the four bytes from i, in two's complement
abbrev pub i32_at : List ℕ → ℕ → ℤ
i32_at s i = cast_signed w32 (u32_at s i)

-- the numbers stand in this order, four bytes each
abbrev pub input_of : List ℕ → Input
input_of s =
    record {
      north = i32_at s 0;
      east = i32_at s 4;
      altitude = i32_at s 8;
      home_north = i32_at s 12;
      home_east = i32_at s 16;
      return_altitude = i32_at s 20;
      power_climb = i32_at s 24;
      power_cruise = i32_at s 28;
      power_descent = i32_at s 32;
      wind = i32_at s 36;
      speed_climb = i32_at s 40;
      speed_cruise = i32_at s 44;
      speed_descent = i32_at s 48;
    }

-- from the first number to the second
abbrev pub within : ℤ → ℤ → ℤ → Bool
within low high z = int_le low z && int_le z high

-- "North and east of position and home lie within ±10,000,000, altitude from −100,000 to 2,000,000, return altitude from 0 to 2,000,000, powers from 0 to 10,000,000, wind from
-- 0 to 10,000, speeds from 0 to 100,000."
unfoldable pub within_limits : Input → Bool
within_limits i =
    within (neg_ℤ (pos 10000000)) (pos 10000000) i.north
    && within (neg_ℤ (pos 10000000)) (pos 10000000) i.east
    && within (neg_ℤ (pos 10000000)) (pos 10000000) i.home_north
    && within (neg_ℤ (pos 10000000)) (pos 10000000) i.home_east
    && within (neg_ℤ (pos 100000)) (pos 2000000) i.altitude
    && within (pos 0) (pos 2000000) i.return_altitude
    && within (pos 0) (pos 10000000) i.power_climb
    && within (pos 0) (pos 10000000) i.power_cruise
    && within (pos 0) (pos 10000000) i.power_descent
    && within (pos 0) (pos 10000) i.wind
    && within (pos 0) (pos 100000) i.speed_climb
    && within (pos 0) (pos 100000) i.speed_cruise
    && within (pos 0) (pos 100000) i.speed_descent

abbrev pub is_zero : ℤ → Bool
is_zero (pos n) = n == 0
is_zero (negsuc n) = false

-- ".. 37 for a speed of 0"
unfoldable pub speed_of_zero : Input → Bool
speed_of_zero i = is_zero i.speed_climb || is_zero i.speed_cruise || is_zero i.speed_descent

-- "a height below 0 counting as 0". The other numbers that are used so are never below it.
abbrev pub from_zero : ℤ → ℕ
from_zero (pos n) = n
from_zero (negsuc n) = 0

abbrev pub squared : ℤ → ℕ
squared z = unsigned_abs z * unsigned_abs z

-- What the legs of `rtl_energy` are worked out from: the square of the distance home, the height of the climb, from the altitude to the return altitude, and that of the descent,
-- from the higher of the two; powers, wind and speeds as they are.
unfoldable pub return_of : Input → Return
return_of i =
    record {
      square = squared (i.north -ℤ i.home_north) + squared (i.east -ℤ i.home_east);
      climb = from_zero (i.return_altitude -ℤ i.altitude);
      descent = from_zero (int_max i.altitude i.return_altitude);
      power_climb = from_zero i.power_climb;
      power_cruise = from_zero i.power_cruise;
      power_descent = from_zero i.power_descent;
      wind = from_zero i.wind;
      speed_climb = from_zero i.speed_climb;
      speed_cruise = from_zero i.speed_cruise;
      speed_descent = from_zero i.speed_descent;
    }
