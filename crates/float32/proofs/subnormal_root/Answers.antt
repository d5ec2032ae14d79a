-- `float32::subnormal_root` meets its contract. Assumes nothing.
use mathlib.Core.Path.{◌≡◌, sym, ap, ◌∙◌, subst}
use Prim.Native.Nat.{ℕ, ◌-◌, ◌*◌, ◌^◌, ◌%◌, ◌<◌, ◌≤◌}
use native.Mathlib.Nat.{mod-eq_of_lt}
use native.Mathlib.Omega.{arith}
use lib.Count.{count_leading_zeros}
use lib.Ieee.{binary32, to_bits}
use Rattle.float32.specs.Sqrt.{rounded_root}
use Rattle.float32.proofs.Patterns.{shifted, low_root}
use Rattle.float32.proofs.subnormal_root.Goals as goal

pub overflow_sub-z : goal.overflow_sub-z
overflow_sub-z c = let h = shifted c.args.b c.requires.0 c.requires.1 in h.0

pub root_of-requires : goal.root_of-requires
root_of-requires c =
    let b = c.args.b in
    let z = count_leading_zeros 32 b - 8 in
    let h = shifted b c.requires.0 c.requires.1 in
    let e : b * 2 ^ z % 2 ^ 32 ≡ b * 2 ^ z = mod-eq_of_lt (omega arith) in
    (subst (λ (y : ℕ). 2 ^ 23 ≤ y) (sym e) h.2, subst (λ (y : ℕ). y < 2 ^ 24) (sym e) h.3, omega arith, omega arith)

pub returns : goal.returns
returns c =
    let b = c.args.b in
    let z = count_leading_zeros 32 b - 8 in
    let h = shifted b c.requires.0 c.requires.1 in
    let e : b * 2 ^ z % 2 ^ 32 ≡ b * 2 ^ z = mod-eq_of_lt (omega arith) in (
      c.root_of.ensures.0 ∙ ap (λ (y : ℕ). to_bits binary32 (rounded_root (y * 2 ^ (51 - z)))) e ∙ ap (to_bits binary32) (sym (low_root b z c.requires.0 c.requires.1 h.1)),
      c.root_of.ensures.1,
    )
