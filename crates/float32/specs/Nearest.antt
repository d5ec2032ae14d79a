-- What it is to be "the binary32 number nearest to the exact root, decided by comparing squares of whole numbers" (document 01, 'What changes shape'). Assumes nothing.
-- Each finite binary32 number is a whole number of units, the unit being the smallest one above zero, 2 ^ -149. With x of X units, the exact root is √(X * 2 ^ 149) units.
use Rattle.std.specs.Prelude.{ℕ, ◌+◌, ◌*◌, ◌^◌, ◌<◌, false, T, Float}
use Rattle.std.specs.Float.{binary32}
use Rattle.std.specs.Float.Ieee.{fits}
use Rattle.std.specs.Float.Ieee.Exact.{HasValue}

-- y is finite, has no minus sign, and is Y units
abbrev pub Units : Float → ℕ → Type 0
Units y Y = HasValue y false Y (2 ^ 149)

-- r is nearer to the exact root of x than any other binary32 number y: the root lies on r's side of the middle of y and r, (Y + R) / 2 units. As it never lies in the
-- middle, no y is as near. A y below zero is left out, since +0 is nearer, and so is an infinity, since r is finite.
pub record NearestRoot (x r : Float) : Type 0 where
  pub X : ℕ
  pub R : ℕ
  pub x_is : Units x X
  pub r_is : Units r R
  pub held : T (fits binary32 r)
  pub from_below : (y : Float) (Y : ℕ) → T (fits binary32 y) → Units y Y → Y < R → (Y + R) * (Y + R) < 4 * (X * 2 ^ 149)
  pub from_above : (y : Float) (Y : ℕ) → T (fits binary32 y) → Units y Y → R < Y → 4 * (X * 2 ^ 149) < (Y + R) * (Y + R)
