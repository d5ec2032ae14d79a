-- The search for the earliest step of a quiet stretch, step by step: it goes on from the stretch of the step before, or begins. Assumes nothing.
use Rattle.std.specs.Prelude.{Option, Some, None}
use Prim.Native.Nat.{ℕ, zero, suc}
use mathlib.Core.Path.{◌≡◌, refl, ap, ◌∙◌}
use mathlib.Core.Bool.{Bool, true, false, not, ◌&&◌, ◌||◌, cond, and-false}
use mathlib.Core.List.{List, [], ◌∷◌, map}
use lib.ListN.{length, take}
use Rattle.ladder.specs.Ladder.{Step, sound, wants_less, comes_down, Earlier, all, begin, quiet, earliest}

-- a step that a stretch may hold
abbrev pub holdable : Step → Bool
holdable i = not i.disarm && not i.third && (not (sound i) || wants_less i)

-- a step that a stretch may go on past
abbrev pub passable : Earlier → Bool
passable i = not (comes_down i.step) && not i.changed_to_land

regroup : (s a b c d e r₁ r₂ r₃ r₄ r₅ : Bool) → s && (a && r₁) && (b && r₂) && (c && r₃) && (d && r₄) && (e && r₅) ≡ a && b && c && (d && e) && (s && r₁ && r₂ && r₃ && r₄ && r₅)
regroup s true true true true true r₁ r₂ r₃ r₄ r₅ = refl
regroup s false b c d e r₁ r₂ r₃ r₄ r₅ = rw and-false
regroup s true false c d e r₁ r₂ r₃ r₄ r₅ = rw and-false
regroup s true true false d e r₁ r₂ r₃ r₄ r₅ = rw and-false
regroup s true true true false e r₁ r₂ r₃ r₄ r₅ = rw and-false
regroup s true true true true false r₁ r₂ r₃ r₄ r₅ = rw and-false

-- one step fewer: the latest may be held, the one before may be passed, and the rest is quiet
one_fewer : (k : Step) (i : Earlier) (between : List Earlier) → quiet k (i ∷ between) ≡ holdable k && passable i && quiet i.step between
unfolding quiet
one_fewer k i between =
    let steps = i.step ∷ map (λ (j : Earlier). j.step) between in
    regroup
    (sound (begin i.step between))
    (not k.disarm)
    (not k.third)
    (not (sound k) || wants_less k)
    (not (comes_down i.step))
    (not i.changed_to_land)
    (all (λ (j : Step). not j.disarm) steps)
    (all (λ (j : Step). not j.third) steps)
    (all (λ (j : Step). not (sound j) || wants_less j) steps)
    (all (λ (j : Earlier). not (comes_down j.step)) between)
    (all (λ (j : Earlier). not j.changed_to_land) between)

-- at k itself
alone : (k : Step) → quiet k [] ≡ holdable k && sound k
unfolding quiet
alone k = by (sound k) (not k.disarm) (not k.third) (not (sound k) || wants_less k)
  where
    by : (s a b c : Bool) → s && (a && true) && (b && true) && (c && true) && true && true ≡ a && b && c && s
    by true true true true = refl
    by true true true false = refl
    by true true false c = refl
    by true false b c = refl
    by false true true true = refl
    by false true true false = refl
    by false true false c = refl
    by false false b c = refl

abbrev pub or_else : Option ℕ → Option ℕ → Option ℕ
or_else None b = b
or_else (Some a) b = Some a

-- k as the only step
abbrev only : Step → Option ℕ
only k = cond (holdable k && sound k) (Some k.now) None

cond-or : (h q : Bool) (a : ℕ) (x y : Option ℕ) → cond (h && q) (Some a) (or_else (cond h x None) y) ≡ or_else (cond h (cond q (Some a) x) None) y
cond-or true true a x y = refl
cond-or true false a x y = refl
cond-or false q a x y = refl

cond-or_none : (h q : Bool) (a : ℕ) (y : Option ℕ) → cond (h && q) (Some a) y ≡ or_else (cond h (cond q (Some a) None) None) y
cond-or_none true true a y = refl
cond-or_none true false a y = refl
cond-or_none false q a y = refl

cond-and : (h s : Bool) (x : Option ℕ) → cond (h && s) x None ≡ cond h (cond s x None) None
cond-and true s x = refl
cond-and false s x = refl

-- a search from n + 1 steps before k is one from n steps before the step before it, or k alone
back : (n : ℕ) (k : Step) (i : Earlier) (before : List Earlier) → earliest (suc n) k (i ∷ before) ≡ or_else (cond (holdable k && passable i) (earliest n i.step before) None) (only k)
unfolding earliest
back zero k i before =
    ap (λ (q : Bool). cond q (Some i.step.now) (earliest zero k before)) (one_fewer k i [])
    ∙ rw (alone k) (cond-or_none (holdable k && passable i) (quiet i.step []) i.step.now (only k))
back (suc n) k i before = rw (one_fewer, back n k i before) (cond-or (holdable k && passable i) (quiet i.step (take (suc n) before)) _ _ (only k))

-- the stretch that a next step goes on with
abbrev pub goes_on : List Earlier → Option ℕ
goes_on [] = None
goes_on (i ∷ before) = cond (passable i) (earliest (length before) i.step before) None

settle : (h p s : Bool) (x : Option ℕ) (now : ℕ) → or_else (cond (h && p) x None) (cond (h && s) (Some now) None) ≡ cond h (or_else (cond p x None) (cond s (Some now) None)) None
settle true p s x now = refl
settle false p s x now = refl

-- the search over all steps before k
pub from_before : (k : Step) (before : List Earlier) → earliest (length before) k before ≡ cond (holdable k) (or_else (goes_on before) (cond (sound k) (Some k.now) None)) None
unfolding earliest
from_before k [] = rw alone (cond-and (holdable k) (sound k) (Some k.now))
from_before k (i ∷ before) = back (length before) k i before ∙ settle (holdable k) (passable i) (sound k) (earliest (length before) i.step before) k.now
