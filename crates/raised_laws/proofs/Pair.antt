-- One pair of timers: raised exactly where it was set and not dropped since. Assumes nothing.
use mathlib.Core.Bool.{Bool, true, false, not, ◌&&◌, ◌||◌, cond, false≢true}
use mathlib.Core.List.{List, [], ◌∷◌, ◌++◌}
use mathlib.Core.Path.{◌≡◌, refl, ap, ◌∙◌}
use Rattle.ladder.specs.Ladder.{all}
use Rattle.raised_laws.specs.Pair.{Event, raised_after, set_at, kept_at, RaisedSince, PairClaim}

-- the latest step itself set it
now_set : (e : Event) (l : List Event) → set_at e ≡ true → RaisedSince (e ∷ l)
now_set e l h = record { later = []; begun = e; before = l; are = refl; set = h; kept = refl }

-- it was set before, and the latest step kept it
still_set : (e : Event) (l : List Event) → kept_at e ≡ true → RaisedSince l → RaisedSince (e ∷ l)
still_set e l h s =
    record {
      later = e ∷ s.later;
      begun = s.begun;
      before = s.before;
      are = ap (λ (m : List Event). e ∷ m) s.are;
      set = s.set;
      kept = ap (λ (b : Bool). b && all kept_at s.later) h ∙ s.kept;
    }

raised_since : (steps : List Event) → raised_after steps ≡ true → RaisedSince steps
unfolding raised_after
raised_since [] h = absurd (false≢true h)
raised_since (e ∷ l) h = at (λ (b : raised_after l ≡ true). raised_since l b) e.disarm e.set_held (raised_after l) e.clear_held refl refl refl refl h
  where
    at : (raised_after l ≡ true → RaisedSince l) → (d s b c : Bool) → e.disarm ≡ d → e.set_held ≡ s → raised_after l ≡ b → e.clear_held ≡ c → cond d false (s || (b && not c)) ≡ true → RaisedSince (e ∷ l)
    at rest true s b c p q r t x = absurd (false≢true x)
    at rest false true b c p q r t x = now_set e l (λ i. not (p i) && q i)
    at rest false false true false p q r t x = still_set e l (λ i. not (p i || t i)) (rest r)
    at rest false false true true p q r t x = absurd (false≢true x)
    at rest false false false c p q r t x = absurd (false≢true x)

-- a step that sets raises, and a step that keeps leaves what is raised
sets_raise : (e : Event) (l : List Event) → set_at e ≡ true → raised_after (e ∷ l) ≡ true
unfolding raised_after
sets_raise e l h = at e.disarm e.set_held h
  where
    at : (d s : Bool) → not d && s ≡ true → cond d false (s || (raised_after l && not e.clear_held)) ≡ true
    at true s x = absurd (false≢true x)
    at false true x = refl
    at false false x = absurd (false≢true x)

keeps_raised_lem : (e : Event) (l : List Event) → kept_at e ≡ true → raised_after l ≡ true → raised_after (e ∷ l) ≡ true
unfolding raised_after
keeps_raised_lem e l h b = at e.disarm e.set_held (raised_after l) e.clear_held h b
  where
    at : (d s b c : Bool) → not (d || c) ≡ true → b ≡ true → cond d false (s || (b && not c)) ≡ true
    at true s b c x y = absurd (false≢true x)
    at false true b c x y = refl
    at false false true true x y = absurd (false≢true x)
    at false false true false x y = refl
    at false false false c x y = absurd (false≢true y)

first_kept : (b c : Bool) → b && c ≡ true → (b ≡ true) × (c ≡ true)
first_kept true c h = (refl, h)
first_kept false c h = absurd (false≢true h)

raised_through : (later : List Event) (e : Event) (before : List Event) → set_at e ≡ true → all kept_at later ≡ true → raised_after (later ++ (e ∷ before)) ≡ true
raised_through [] e before s k = sets_raise e before s
raised_through (x ∷ later) e before s k =
    let b = first_kept (kept_at x) (all kept_at later) k in
    keeps_raised_lem x (later ++ (e ∷ before)) b.0 (raised_through later e before s b.1)

pub pair_claim : PairClaim
pair_claim =
    record {
      raised_since = raised_since;
      since_raised = λ steps s. ap raised_after s.are ∙ raised_through s.later s.begun s.before s.set s.kept;
    }
