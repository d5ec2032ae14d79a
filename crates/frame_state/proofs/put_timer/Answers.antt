-- `frame_state::put_timer` meets its contract, case by case. Assumes nothing.
use Rattle.std.specs.Prelude.{Option, Some, None}
use Prim.Native.Nat.{ℕ, ◌+◌, suc}
use mathlib.Core.Path.{◌≡◌, ◌∙◌, ap, sym}
use mathlib.Core.List.{List}
use native.Mathlib.Omega.{arith}
use lib.Seq.{sets}
use Rattle.wire.specs.Fields.{le8, le_flag, le_bytes, le32}
use Rattle.wire.specs.Laid.{laid}
use Rattle.options.specs.Options.{le_option_u32}
use Rattle.frame_state.specs.StateFrame.{le_timer}
use Rattle.frame_state.proofs.put_timer.Goals as goal

-- the two stores of a timer that runs
runs : {m r : List ℕ} {o : Option ℕ} {n : ℕ} (l : List ℕ) (at : ℕ) → m ≡ sets l at (le8 1) → r ≡ sets m (at + 1) (le32 n) → o ≡ Some n → r ≡ laid l at (le_option_u32 o)
unfolding le_option_u32 le8 le_flag le32 le_bytes
runs {n = n} l at e f k =
    let one : at + 1 ≡ suc at = omega arith in
    f ∙ (λ j. sets (e j) (one j) (le32 n)) ∙ sym (ap (λ (o : Option ℕ). laid l at (le_option_u32 o)) k)

rests : {o : Option ℕ} (l : List ℕ) (at : ℕ) → o ≡ None → l ≡ laid l at (le_option_u32 o)
unfolding le_option_u32 le_flag le32 le_bytes
rests l at k = sym (ap (λ (o : Option ℕ). laid l at (le_option_u32 o)) k)

pub returns-in-Some : goal.returns-in-Some
unfolding le_timer
returns-in-Some c = let a = c.args in runs a.s.now a.at c.put_u8.ensures c.put_u32.ensures c.in-Some.is

pub returns-in_default : goal.returns-in_default
unfolding le_timer
returns-in_default c = let a = c.args in rests a.s.now a.at c.in_default.is
