-- Choices, the comparison of a rank with itself and with its opposite, and the arbiter's two tests by the claim's own. Assumes nothing.
use Rattle.std.specs.Prelude.{Some, None}
use Prim.Native.Nat.{ℕ, ◌+◌, ◌-◌, ◌^◌, ◌≤◌}
use mathlib.Core.Path.{◌≡◌, refl}
use mathlib.Core.Bool.{Bool, true, false, not, ◌&&◌, cond, and-true, and-false, true≢false, false≢true}
use native.Mathlib.Nat.{le_refl}
use native.Mathlib.Omega.{arith}
use borrow.Author.Tests.{le-ltb, le-leb, lt-leb, ltb-true, ltb-false, leb-true, leb-false}
use lib.Dec.{leb, ltb}
use Rattle.types.specs.declared.Action.{Action}
use Rattle.time.specs.Time.{Clock, wrapping, plain, wrapping_sub, age, at_least, hold_met}
use Rattle.arbiter.specs.Arbiter.{needs_position}
use Rattle.ladder.specs.Ladder.{is_hold_or_return, long_ago}

pub cond-ap : {A B : Type 0} (g : A → B) (c : Bool) (x y : A) → g (cond c x y) ≡ cond c (g x) (g y)
cond-ap g true x y = refl
cond-ap g false x y = refl

pub cond_same : {A : Type 0} (c : Bool) (x : A) → cond c x x ≡ x
cond_same true x = refl
cond_same false x = refl

pub cond_no : {A : Type 0} (c : Bool) (x y : A) → c ≡ false → cond c x y ≡ y
cond_no true x y e = absurd (true≢false e)
cond_no false x y e = refl

pub cond_yes : {A : Type 0} (c : Bool) (x y : A) → c ≡ true → cond c x y ≡ x
cond_yes true x y e = refl
cond_yes false x y e = absurd (false≢true e)

pub ltb_self : (n : ℕ) → ltb n n ≡ false
ltb_self n = le-ltb n n (le_refl n)

-- "at least" and "below"
pub opposite : (m n : ℕ) (b : Bool) → ltb n m ≡ b → leb m n ≡ not b
opposite m n true e = lt-leb m n (ltb-true n m e)
opposite m n false e = le-leb m n (ltb-false n m e)

-- the arbiter looks at the position for Hold and ReturnToLaunch
pub needs_is : (a : Action) → needs_position a ≡ is_hold_or_return a
needs_is Action.Nominal = refl
needs_is Action.Warn = refl
needs_is Action.Hold = refl
needs_is Action.ReturnToLaunch = refl
needs_is Action.Land = refl

-- a hold is met where the claim says that it began long enough ago
pub met_is : (ck : Clock) (now began hold : ℕ) → long_ago ck (Some began) now hold ≡ hold_met ck now began hold
unfolding age hold_met
met_is wrapping now began hold = at (ltb (wrapping_sub now began) (2 ^ 31))
  where
    at : (b : Bool) → leb hold (wrapping_sub now began) && b ≡ at_least (cond b (Some (wrapping_sub now began)) None) hold
    at true = and-true (leb hold (wrapping_sub now began))
    at false = and-false (leb hold (wrapping_sub now began))
met_is plain now began hold = at (ltb now began) refl
  where
    long : began ≤ now → (b : Bool) → leb hold (now - began) ≡ b → leb (began + hold) now ≡ b
    long h true e = let g = leb-true hold (now - began) e in le-leb (began + hold) now (omega arith)
    long h false e = let g = leb-false hold (now - began) e in lt-leb (began + hold) now (omega arith)

    at : (b : Bool) → ltb now began ≡ b → leb (began + hold) now ≡ at_least (cond b None (Some (now - began))) hold
    at true e = let g = ltb-true now began e in lt-leb (began + hold) now (omega arith)
    at false e = long (ltb-false now began e) _ refl
