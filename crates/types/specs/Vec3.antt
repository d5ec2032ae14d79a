-- Height and distance from home of a position. Assumes nothing.
use Rattle.std.specs.Prelude.{Float}
use Rattle.std.specs.Float.{binary32}
use Rattle.std.specs.Float.Ieee.{add, mul, neg}
use Rattle.float32.specs.Sqrt.{square_root}
use Rattle.types.specs.declared.Vec3.{Vec3}

-- "Altitude is −d, so d = +0 gives −0."
unfoldable pub alt_m : Vec3 → Float
alt_m v = neg v.d

-- the root of n² + e²
unfoldable pub horizontal_dist_home : Vec3 → Float
horizontal_dist_home v = square_root (add binary32 (mul binary32 v.n v.n) (mul binary32 v.e v.e))
