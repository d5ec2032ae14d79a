-- Past the end: bytes of 0 are read, and nothing is written. Assumes nothing.
use Prim.Native.Nat.{ℕ, zero, suc, ◌+◌, ◌*◌, ◌<◌, ◌≤◌}
use mathlib.Core.Path.{◌≡◌, ◌∙◌, ap, refl}
use mathlib.Core.List.{List, [], ◌∷◌}
use mathlib.Core.Bool.{true, false≢true}
use native.Mathlib.Omega.{arith}
use lib.ListN.{length, get_or-eq_default}
use lib.Seq.{sets, set_out}
use Rattle.wire.specs.Fields.{u8_at, number_at, flag_at}

pub u8_past : (s : List ℕ) (i : ℕ) → length s ≤ i → u8_at s i ≡ 0
unfolding u8_at
u8_past s i h = get_or-eq_default s 0 h

pub number_past : (w : ℕ) (s : List ℕ) (i : ℕ) → length s ≤ i → number_at w s i ≡ 0
unfolding number_at
number_past zero s i h = refl
number_past (suc w) s i h = λ j. u8_past s i h j + 256 * number_past w s (i + 1) (omega arith) j

pub sets_past : (s : List ℕ) (i : ℕ) (b : List ℕ) → length s ≤ i → sets s i b ≡ s
sets_past s i [] h = refl
sets_past s i (x ∷ b) h = ap (λ (l : List ℕ). sets l (suc i) b) (set_out s i x h) ∙ sets_past s (suc i) b (omega arith)

-- a flag of 1 is within the list
pub flag_inside : (s : List ℕ) (i : ℕ) → flag_at s i ≡ true → i < length s
unfolding flag_at u8_at
flag_inside [] i e = absurd (false≢true e)
flag_inside (x ∷ s) zero e = omega arith
flag_inside (x ∷ s) (suc i) e = let h = flag_inside s i e in omega arith
