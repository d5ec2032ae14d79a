-- The clock that the supervisor keeps is what the readings of the record say: last sound reading, faults, every third of a row. Assumes nothing.
use Rattle.std.specs.Prelude.{Option, Some, None}
use Prim.Native.Nat.{ℕ, suc, ◌+◌, ◌%◌, ◌<◌, ◌≤◌}
use mathlib.Core.Path.{◌≡◌, refl, sym}
use mathlib.Core.Bool.{Bool, true, false, ◌&&◌, cond}
use mathlib.Core.List.{List, [], ◌∷◌}
use native.Mathlib.Omega.{arith}
use borrow.Author.Tests.{eq-eqb, ne_eqb, leb-true, leb-false}
use lib.Dec.{leb, eqb}
use Rattle.time.specs.Time.{Clock, age}
use Rattle.clock.specs.declared.ClockStep.{ClockStep}
use Rattle.clock.specs.Clock.{clock_fault, sound_clock, clock_step}
use Rattle.ladder.specs.Clock.{last_sound, faulted, faulted_row, third}

-- counting to three and beginning anew is counting, modulo three
third_by : (n : ℕ) (b : Bool) → leb 3 (n % 3 + 1) ≡ b → b ≡ eqb (suc n % 3) 0
third_by n true e = let h : 3 ≤ n % 3 + 1 = leb-true _ _ e in sym (eq-eqb (suc n % 3) 0 (omega arith))
third_by n false e = let h : n % 3 + 1 < 3 = leb-false _ _ e in sym (ne_eqb (suc n % 3) 0 (λ z. omega arith))

row_by : (n : ℕ) (b : Bool) → leb 3 (n % 3 + 1) ≡ b → cond b 0 (n % 3 + 1) ≡ suc n % 3
row_by n true e = let h : 3 ≤ n % 3 + 1 = leb-true _ _ e in omega arith
row_by n false e = let h : n % 3 + 1 < 3 = leb-false _ _ e in omega arith

-- a clock after a reading
pub record Told (ck : Clock) (now : ℕ) (earlier : List ℕ) (c : ClockStep) : Type 0 where
  pub fault : c.fault ≡ faulted ck now earlier
  pub is_third_lem : c.third ≡ third ck now earlier
  pub last : c.last_now ≡ last_sound ck (now ∷ earlier)
  pub streak : c.backwards_streak ≡ faulted_row ck (now ∷ earlier) % 3

first_told : (ck : Clock) → (epoch streak now : ℕ) (last : Option ℕ) → Told ck now [] (clock_step ck last epoch streak false now)
unfolding clock_step sound_clock last_sound faulted_row
first_told ck epoch streak now last = record { fault = refl; is_third_lem = refl; last = refl; streak = refl }

-- from the second step on there is a last sound reading
module _ (ck : Clock) (epoch streak now x : ℕ) (earlier : List ℕ) (l : last_sound ck earlier ≡ Some x) (s : streak ≡ faulted_row ck earlier % 3) where
  told_by : (o : Option ℕ) → age ck now x ≡ o → Told ck now earlier (clock_step ck (Some x) epoch streak true now)
  unfolding clock_step sound_clock clock_fault last_sound faulted_row
  told_by None e =
      record {
        fault = rw (l, e);
        is_third_lem = rw (l, e, s) (third_by (faulted_row ck earlier) _ refl);
        last = rw (l, e);
        streak = rw (l, e, s) (row_by (faulted_row ck earlier) _ refl);
      }
  told_by (Some y) e = record { fault = rw (l, e); is_third_lem = rw (l, e); last = rw (l, e); streak = rw (l, e) }

sound_by : (ck : Clock) → (f : Bool) (now : ℕ) (earlier : List ℕ) → faulted ck now earlier ≡ f → ((x : ℕ) × (last_sound ck earlier ≡ Some x)) → (x : ℕ) × (last_sound ck (now ∷ earlier) ≡ Some x)
unfolding last_sound
sound_by ck true now earlier f (x, e) = (x, rw (f, e))
sound_by ck false now earlier f (x, e) = (now, rw f)

last_sound_lem : (ck : Clock) → (now : ℕ) (earlier : List ℕ) → (x : ℕ) × (last_sound ck (now ∷ earlier) ≡ Some x)
unfolding last_sound
last_sound_lem ck now [] = (now, refl)
last_sound_lem ck now (r ∷ rs) = sound_by ck _ now (r ∷ rs) refl (last_sound_lem ck r rs)

abbrev pub some : {A : Type 0} → List A → Bool
some [] = false
some (x ∷ xs) = true

pub told : (ck : Clock) → (earlier : List ℕ) (now epoch streak : ℕ) → streak ≡ faulted_row ck earlier % 3 → Told ck now earlier (clock_step ck (last_sound ck earlier) epoch streak (some earlier) now)
told ck [] now epoch streak s = first_told ck epoch streak now (last_sound ck [])
told ck (r ∷ rs) now epoch streak s =
    let h = last_sound_lem ck r rs in
    rw h.1 (told_by ck epoch streak now h.0 (r ∷ rs) h.1 s _ refl)

-- only a faulted step is a third
pub third_faulted : (f b : Bool) → f && b ≡ true → f ≡ true
third_faulted true b e = refl
third_faulted false b e = e
