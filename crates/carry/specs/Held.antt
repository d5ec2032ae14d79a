-- What the loops over a state's held instants have done after so many turns. Assumes nothing.
use Rattle.std.specs.Prelude.{ℕ, zero, suc, ◌-◌, Bool, true, ◌&&◌, Option, cond, List, [], ◌∷◌, get_or, replicate}
use Rattle.std.specs.List.{slice_set}
use Rattle.time.specs.Time.{wrapping, wrapping_sub, age, at_most}
use Rattle.wire.specs.Fields.{u32_at}
use Rattle.options.specs.Options.{option_u32_at}
use Rattle.instants.specs.Own.{own}
use Rattle.carry.specs.declared.Reading.{Reading}
use Rattle.carry.specs.Carry.{has_age_at}

-- where a kind 5 holds its instants, but for last_now and the epoch
abbrev pub places : List ℕ
places = 6 ∷ 11 ∷ 16 ∷ 21 ∷ 26 ∷ 31 ∷ 36 ∷ 41 ∷ 46 ∷ 51 ∷ 56 ∷ 61 ∷ 66 ∷ 71 ∷ 76 ∷ 81 ∷ 86 ∷ 91 ∷ 96 ∷ 101 ∷ 106 ∷ 111 ∷ 116 ∷ 121 ∷ 127 ∷ 135 ∷ 140 ∷ 145 ∷ []

module _ (old : List ℕ) (r : Reading) where
  -- the instant at the k-th place
  abbrev pub held : ℕ → Option ℕ
  held k = option_u32_at old (get_or places k 0)

  -- whether the first n have their ages
  abbrev pub aged : ℕ → Bool
  aged zero = true
  aged (suc n) = aged n && has_age_at r.t r.last (held n)

  -- the first n carried over
  abbrev pub stored_first : ℕ → List ℕ
  stored_first zero = replicate 30 0
  stored_first (suc n) = slice_set (stored_first n) n (r.t - wrapping_sub r.last (own (held n)))

  unfoldable pub stored : List ℕ
  stored =
      let x = u32_at old 180 in
      slice_set (slice_set (stored_first 28) 28 r.t) 29 (cond (at_most (age wrapping r.last x) r.t) (r.t - wrapping_sub r.last x) r.t)
