-- `options::zero_bytes` meets its contract. The loop's invariant: what is tested and what is left to test make up the whole. Assumes nothing.
use lib.Dec.{eqb}
use Prim.Native.Nat.{◌+◌, ◌-◌}
use mathlib.Core.Path.{◌≡◌, ◌∙◌, sym, ap}
use native.Mathlib.Omega.{arith}
use mathlib.Core.Bool.{Bool, ◌&&◌, and-true}
use Rattle.wire.specs.Fields.{u8_at}
use Rattle.options.specs.Options.{zeros}
use Rattle.options.proofs.Zeros.{zeros_turn, zeros_u8, zeros_none}
use Rattle.options.proofs.zero_bytes.Goals as goal

pub loop-i-preserved : goal.loop-i-preserved
unfolding u8_at
loop-i-preserved c =
    let a = c.args in
    let s = a.s.now in
    let l = c.loop-i in
    let j = a.at + l.i in
    zeros_turn 1 s a.at a.n l.i l.zero (eqb (u8_at s j) 0) (omega arith) (sym (zeros_u8 s j)) l.invariant

pub returns : goal.returns
returns c =
    let a = c.args in
    let s = a.s.now in
    let l = c.loop-i in
    let m : a.n - l.i ≡ 0 = omega arith in
    sym (l.invariant ∙ ap (λ (b : Bool). l.zero && b) (ap (zeros s (a.at + l.i)) m ∙ zeros_none s (a.at + l.i)) ∙ and-true l.zero)
