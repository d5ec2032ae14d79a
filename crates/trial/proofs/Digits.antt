-- Digits, one after the other. Assumes nothing.
use Rattle.std.specs.Prelude.{Some, None}
use Rattle.std.proofs.Common.{◌≡◌, ℕ, suc, ◌<◌, List, [], ◌∷◌, length, get_or, drop, refl, ap, ◌∙◌, drop-cons}
use lib.Seq.{drop-length}
use Rattle.trial.specs.Decimal.{with_digit, digits_from}

-- what is no number stays none
pub none_stays : (cs : List ℕ) → digits_from None cs ≡ None
unfolding digits_from
none_stays [] = refl
none_stays (c ∷ cs) = none_stays cs

-- the next digit; and none that is left
module _ (s : List ℕ) (i n : ℕ) where
  pub digit_next : i < length s → digits_from (Some n) (drop i s) ≡ digits_from (with_digit n (get_or s i 0)) (drop (suc i) s)
  unfolding digits_from
  digit_next h = ap (digits_from (Some n)) (drop-cons s i 0 h)

  pub digits_end : i ≡ length s → digits_from (Some n) (drop i s) ≡ Some n
  unfolding digits_from
  digits_end e = ap (λ (k : ℕ). digits_from (Some n) (drop k s)) e ∙ ap (digits_from (Some n)) (drop-length s)
