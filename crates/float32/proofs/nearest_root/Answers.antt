-- `float32::nearest_root` meets its contract: p is the nearest whole number or one below it, and the remainder tells which. Assumes nothing.
use mathlib.Core.Path.{◌≡◌, sym, subst}
use Prim.Native.Nat.{ℕ, ◌+◌, ◌-◌, ◌*◌, ◌/◌, ◌%◌, ◌^◌, ◌≤◌, ◌<◌}
use native.Mathlib.Omega.{arith}
use Rattle.float32.specs.Radicand.{radicand_of}
use Rattle.float32.proofs.Squares.{Near, upper_digits, lower_digits, apart_by, stays}
use Rattle.float32.proofs.Round.{radicand_bounds}
use Rattle.float32.proofs.Guess.{Guessed}
use Rattle.float32.proofs.nearest_root.Goals as goal

-- what is known of m, of r, and of the two parts of the division, with d for 128 * m - r * r
record Known (m r d : ℕ) : Type 0 where
  m_high : m < 2 ^ 25
  r_low : 32758 < r
  r_high : r < 65536
  d_is : 128 * m ≡ r * r + d
  d_high : d ≤ 20 * r + 99
  t_high : 128 * d / r ≤ 2560
  t_square : 128 * d / r * (128 * d / r) ≤ 6553600
  u_high : 128 * d % r < r
  parts : 128 * d / r * r + 128 * d % r ≡ 128 * d

known : (b m r : ℕ) → m ≡ radicand_of b → (r * r ≤ 128 * m) × (128 * m < (r + 10) * (r + 10)) → Known m r (128 * m - r * r)
known b m r e h =
    let k = radicand_bounds b in
    let f = upper_digits m r (omega arith) (omega arith) h.0 h.1 in
    let d : 128 * m - r * r ≤ 20 * r + 99 = omega arith in
    let l = lower_digits (128 * m - r * r) r f.0 d in
    record { m_high = omega arith; r_low = f.0; r_high = f.1; d_is = omega arith; d_high = d; t_high = l.0; t_square = l.1; u_high = l.2; parts = l.3 }

pub low_root-r-requires : goal.low_root-r-requires
low_root-r-requires c =
    let e = c.radicand-m.ensures in
    let g : Guessed c.radicand-m.result c.first_guess.result = subst (λ (m : ℕ). Guessed m c.first_guess.result) (sym e) c.first_guess.ensures in
    (omega (arith, radicand_bounds c.args.b), g.0, g.1, g.2)

pub overflow_mul-v : goal.overflow_mul-v
overflow_mul-v c = omega (arith, radicand_bounds c.args.b)

pub overflow_mul-left : goal.overflow_mul-left
overflow_mul-left c =
    let k = known c.args.b c.radicand-m.result c.low_root-r.result c.radicand-m.ensures c.low_root-r.ensures in
    omega arith

pub nonzero_div-t : goal.nonzero_div-t
nonzero_div-t c =
    let k = known c.args.b c.radicand-m.result c.low_root-r.result c.radicand-m.ensures c.low_root-r.ensures in
    omega arith

pub nonzero_rem-u : goal.nonzero_rem-u
nonzero_rem-u c =
    let k = known c.args.b c.radicand-m.result c.low_root-r.result c.radicand-m.ensures c.low_root-r.ensures in
    omega arith

pub overflow_mul-t : goal.overflow_mul-t
overflow_mul-t c =
    let k = known c.args.b c.radicand-m.result c.low_root-r.result c.radicand-m.ensures c.low_root-r.ensures in
    omega arith

pub overflow_add-t : goal.overflow_add-t
overflow_add-t c =
    let k = known c.args.b c.radicand-m.result c.low_root-r.result c.radicand-m.ensures c.low_root-r.ensures in
    omega arith

pub returns-else-t-p : goal.returns-else-t-p
returns-else-t-p c =
    let k = known c.args.b c.radicand-m.result c.low_root-r.result c.radicand-m.ensures c.low_root-r.ensures in
    let m = c.radicand-m.result in
    let r = c.low_root-r.result in
    let d = 128 * m - r * r in
    let t = 128 * d / r in
    let u = 128 * d % r in
    let p = 256 * r + t in
    let e = apart_by m r d t u k.d_is k.parts in
    subst (λ (x : ℕ). Near (x * 2 ^ 23) p) c.radicand-m.ensures (stays (m * 2 ^ 23) p (t * t) (512 * u) e (omega arith) (omega arith))
