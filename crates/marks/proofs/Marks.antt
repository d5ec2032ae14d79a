-- Each mark is tested, at the marks' reading, as it marks. Assumes nothing.
use Rattle.std.specs.Prelude.{Option, Some, None}
use Prim.Native.Nat.{ℕ, zero, suc, ◌-◌, ◌≤◌, ◌^◌, min}
use mathlib.Core.Path.{◌≡◌, refl, ap, sym, ◌∙◌}
use mathlib.Core.Bool.{Bool, true, false, cond}
use native.Mathlib.Omega.{arith}
use native.Mathlib.Nat.{le_refl}
use borrow.Author.Tests.{le-leb, lt-leb, le-ltb, lt-ltb, ltb-false}
use lib.Dec.{leb, ltb}
use Rattle.time.specs.Time.{wrapping, plain, wrapping_sub, age, fresh, hold_met}
use Rattle.timers.specs.Timer.{started}
use Rattle.triggers.specs.Families.{gcs_age}
use Rattle.instants.specs.Retimed.{instead}
use Rattle.marks.specs.Marks.{up_to2000, reading, held_mark, fresh_mark, gap_mark, above_mark, within_mark}

pub met_mark : (b : Bool) (hold : ℕ) → hold ≤ 1 → hold_met wrapping reading (held_mark b) hold ≡ b
unfolding hold_met age wrapping_sub
met_mark true hold h = le-leb hold 1 h
met_mark false hold h = refl

pub starts : (hold : ℕ) → hold_met wrapping reading reading (min hold 1) ≡ leb hold 0
unfolding hold_met age wrapping_sub
starts zero = refl
starts (suc n) = lt-leb (min (suc n) 1) 0 (omega arith) ∙ sym (lt-leb (suc n) 0 (omega arith))

pub starts_plain : (now hold : ℕ) → hold_met plain now now hold ≡ leb hold 0
unfolding hold_met age
starts_plain now hold = rw (le-ltb now now (le_refl now)) (ap (leb hold) (omega arith))

pub fresh_mark_lem : (b : Bool) (limit : ℕ) → fresh wrapping reading (fresh_mark b) limit ≡ b
unfolding fresh age wrapping_sub
fresh_mark_lem true limit = le-leb 0 limit (omega arith)
fresh_mark_lem false limit = refl

pub sound_mark : (b : Bool) → started (age wrapping reading (fresh_mark b)) ≡ b
unfolding age wrapping_sub
sound_mark true = refl
sound_mark false = refl

apart : (gap : ℕ) → gap ≤ 2000 → wrapping_sub reading (65536 - gap) ≡ gap
unfolding wrapping_sub
apart gap h = omega arith

far : (gap : ℕ) → gap ≤ 2000 → age wrapping reading (65536 - gap) ≡ Some gap
unfolding age
far gap h = rw (apart gap h, lt-ltb gap (2 ^ 31) (omega arith))

near_mark : (b : Bool) (gap : ℕ) → ltb 2000 gap ≡ b → up_to2000 (age wrapping reading (gap_mark (cond b None (Some gap)))) ≡ cond b None (Some gap)
unfolding age wrapping_sub
near_mark true gap e = refl
near_mark false gap e = ap up_to2000 (far gap (ltb-false 2000 gap e)) ∙ rw e

pub gap_mark_lem : (a : Option ℕ) → up_to2000 (age wrapping reading (gap_mark (up_to2000 a))) ≡ up_to2000 a
unfolding age wrapping_sub
gap_mark_lem None = refl
gap_mark_lem (Some gap) = near_mark (ltb 2000 gap) gap refl

-- the link: the marked heartbeat's age is 1, an absent one's 2^32 - 1
pub above_mark_lem : (b : Bool) (o : Option ℕ) → b ≡ ltb (above_mark b) (gcs_age wrapping reading (instead 65535 o))
unfolding age wrapping_sub
above_mark_lem true None = refl
above_mark_lem true (Some y) = refl
above_mark_lem false None = refl
above_mark_lem false (Some y) = refl

pub within_mark_lem : (b : Bool) (o : Option ℕ) → b ≡ leb (gcs_age wrapping reading (instead 65535 o)) (within_mark b)
unfolding age wrapping_sub
within_mark_lem true None = refl
within_mark_lem true (Some y) = refl
within_mark_lem false None = refl
within_mark_lem false (Some y) = refl
