-- `options::zero_words` meets its contract. The loop's invariant: what is tested and what is left to test make up the whole. Assumes nothing.
use Prim.Native.Nat.{ℕ, ◌+◌, ◌*◌, ◌-◌, ◌/◌, ◌%◌}
use mathlib.Core.Path.{◌≡◌, ◌∙◌, sym, ap}
use mathlib.Core.Bool.{◌&&◌}
use native.Mathlib.Omega.{arith}
use lib.Dec.{eqb}
use Rattle.options.specs.Options.{zeros}
use Rattle.options.proofs.Zeros.{zeros_turn, zeros_u32}
use Rattle.options.proofs.zero_words.Goals as goal

pub loop-i-preserved : goal.loop-i-preserved
loop-i-preserved c =
    let a = c.args in
    let s = a.s.now in
    let l = c.loop-i in
    let next : 4 * l.i + 4 ≡ 4 * (l.i + 1) = omega arith in
    zeros_turn 4 s a.at a.n (4 * l.i) l.zero (eqb c.word.result 0) (omega arith) (ap (λ (n : ℕ). eqb n 0) c.word.ensures ∙ sym (zeros_u32 s (a.at + 4 * l.i))) l.invariant
    ∙ (λ j. (l.zero && eqb c.word.result 0) && zeros s (a.at + next j) (a.n - next j))

pub returns : goal.returns
returns c =
    let a = c.args in
    let s = a.s.now in
    let l = c.loop-i in
    let from : a.at + 4 * l.i ≡ a.at + 4 * (a.n / 4) = omega arith in
    let left : a.n - 4 * l.i ≡ a.n % 4 = omega arith in
    (λ j. l.zero && c.zero_bytes.ensures j) ∙ sym (l.invariant ∙ (λ j. l.zero && zeros s (from j) (left j)))
