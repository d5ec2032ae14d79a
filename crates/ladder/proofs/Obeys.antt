-- Both halves of the claim for one step, from the action that the record allows. Assumes nothing.
use Prim.Native.Nat.{ℕ}
use mathlib.Core.Path.{◌≡◌, refl, ap, sym, ◌∙◌}
use mathlib.Core.Bool.{Bool, true, false, not, ◌&&◌, ◌||◌, cond, and-true, and-false, or-false, false≢true}
use mathlib.Core.List.{List}
use mathlib.Core.Logic.{◌⊎◌, ⊎_elim}
use Rattle.types.specs.declared.Action.{Action}
use Rattle.types.specs.Numbers.{rank}
use Rattle.time.specs.Time.{Clock}
use Rattle.ladder.specs.Ladder.{Step, ranks_below, sound, wants_less, comes_down, is_hold_or_return, Earlier, quiet_stretch, lasted, candidate, changed_to_land}
use Rattle.ladder.specs.Claim.{allowed, Obeys}
use Rattle.ladder.proofs.Choices.{cond_same, cond_no, cond_yes, ltb_self}
use Rattle.ladder.proofs.Stretch.{from_before}

lacking : (c : Action) (valid : Bool) → is_hold_or_return (cond (is_hold_or_return c && not valid) Action.Land c) ≡ true → valid ≡ true
lacking c true e = refl
lacking Action.Nominal false e = absurd (false≢true e)
lacking Action.Warn false e = absurd (false≢true e)
lacking Action.Hold false e = absurd (false≢true e)
lacking Action.ReturnToLaunch false e = absurd (false≢true e)
lacking Action.Land false e = absurd (false≢true e)

-- nothing ranks above Land
land_stays : (a : Action) → ranks_below Action.Land a ≡ false
land_stays Action.Nominal = refl
land_stays Action.Warn = refl
land_stays Action.Hold = refl
land_stays Action.ReturnToLaunch = refl
land_stays Action.Land = refl

-- what is changed to Land does not come down
past_land : (c : Bool) (a p : Action) → ranks_below (cond c Action.Land a) p ≡ ranks_below a p && not c
past_land true a p = land_stays p ∙ sym (and-false (ranks_below a p))
past_land false a p = sym (and-true (ranks_below a p))

either_by : (x d u c d' u' : Bool) → d ≡ d' → u ≡ u' → (d && x || u && not c) ≡ (d' && x || u' && not c)
either_by x d u c d' u' p q = rw (p, q)

module _ (ck : Clock) (hold : ℕ) (k : Step) (before : List Earlier) where
  -- a quiet stretch ends only at a sound step that wants less and is no confirmed disarm
  none_at_disarm : k.disarm ≡ true → lasted ck hold k before ≡ false
  unfolding quiet_stretch
  none_at_disarm d = simp (from_before k before, d, cond_same)

  none_on_fault : k.faulted ≡ true → lasted ck hold k before ≡ false
  unfolding quiet_stretch
  none_on_fault f = simp f

  none_at_least : k.faulted ≡ false → wants_less k ≡ false → lasted ck hold k before ≡ false
  unfolding quiet_stretch
  none_at_least f w = simp (from_before k before, f, w, and-false)

  abbrev lower : Action → Bool
  lower a = ranks_below a k.previous_output

  same_rank : lower k.previous_output ≡ false
  same_rank = ltb_self (rank k.previous_output)

  -- the rule comes down exactly where the quiet stretch has lasted
  rule_down : (f w u : Bool) → k.faulted ≡ f → wants_less k ≡ w → lasted ck hold k before ≡ u → lower (candidate ck hold k before) ≡ u
  rule_down true w u f e q = ap lower (cond_yes k.faulted _ _ f) ∙ same_rank ∙ sym (none_on_fault f) ∙ q
  rule_down false false u f e q = ap lower (cond_no k.faulted _ _ f ∙ cond_yes (not (wants_less k)) _ _ (ap not e)) ∙ e ∙ sym (none_at_least f e) ∙ q
  rule_down false true true f e q = ap lower (cond_no k.faulted _ _ f ∙ cond_no (not (wants_less k)) _ _ (ap not e) ∙ cond_yes (lasted ck hold k before) _ _ q) ∙ e
  rule_down false true false f e q = ap lower (cond_no k.faulted _ _ f ∙ cond_no (not (wants_less k)) _ _ (ap not e) ∙ cond_no (lasted ck hold k before) _ _ q) ∙ same_rank

  module _ (is_allowed : k.action ≡ allowed ck hold k before) where
    position_by : (d : Bool) → k.disarm ≡ d → is_hold_or_return k.action ≡ true → k.position_valid ≡ true
    position_by true d e = absurd (false≢true (sym (ap is_hold_or_return (is_allowed ∙ cond_yes k.disarm _ _ d)) ∙ e))
    position_by false d e = lacking (candidate ck hold k before) k.position_valid (sym (ap is_hold_or_return (is_allowed ∙ cond_no k.disarm _ _ d)) ∙ e)

    -- Hold and ReturnToLaunch by name
    position_of_lem : (k.action ≡ Action.Hold) ⊎ (k.action ≡ Action.ReturnToLaunch) → k.position_valid ≡ true
    position_of_lem h = position_by _ refl (⊎_elim (λ (e : k.action ≡ Action.Hold). ap is_hold_or_return e) (λ (e : k.action ≡ Action.ReturnToLaunch). ap is_hold_or_return e) h)

    abbrev allows : Bool → Bool → Bool
    allows d u = d && lower Action.Nominal || u && not (changed_to_land ck hold k before)

    down_by : (d : Bool) → k.disarm ≡ d → comes_down k ≡ allows k.disarm (lasted ck hold k before)
    down_by true d =
        ap lower (is_allowed ∙ cond_yes k.disarm _ _ d)
        ∙ sym (or-false (lower Action.Nominal))
        ∙ sym (either_by (lower Action.Nominal) k.disarm (lasted ck hold k before) (changed_to_land ck hold k before) true false d (none_at_disarm d))
    down_by false d =
        ap lower (is_allowed ∙ cond_no k.disarm _ _ d)
        ∙ past_land (changed_to_land ck hold k before) (candidate ck hold k before) k.previous_output
        ∙ ap (λ (u : Bool). u && not (changed_to_land ck hold k before)) (rule_down _ _ _ refl refl refl)
        ∙ sym (either_by (lower Action.Nominal) k.disarm (lasted ck hold k before) (changed_to_land ck hold k before) false (lasted ck hold k before) d refl)

    -- demand 3's own words: where the stretch has lasted the rule's action is the wanted one
    abbrev Exactly : Bool → Bool → Bool → Type 0
    Exactly s w u = u && not (changed_to_land ck hold k before) ≡ s && w && not (is_hold_or_return k.wanted && not k.position_valid) && u

    exactly_by : (f w u : Bool) → k.faulted ≡ f → wants_less k ≡ w → lasted ck hold k before ≡ u → Exactly (not f) w u
    exactly_by true w u f e q = rw (sym q ∙ none_on_fault f)
    exactly_by false false u f e q = rw (sym q ∙ none_at_least f e)
    exactly_by false true false f e q = sym (and-false (not (is_hold_or_return k.wanted && not k.position_valid)))
    exactly_by false true true f e q =
        ap (λ (a : Action). not (is_hold_or_return a && not k.position_valid))
        (cond_no k.faulted _ _ f ∙ cond_no (not (wants_less k)) _ _ (ap not e) ∙ cond_yes (lasted ck hold k before) _ _ q)
        ∙ sym (and-true (not (is_hold_or_return k.wanted && not k.position_valid)))

    exactly_of : k.disarm ≡ false → comes_down k ≡ sound k && wants_less k && not (is_hold_or_return k.wanted && not k.position_valid) && lasted ck hold k before
    exactly_of d = down_by _ refl ∙ either_by (lower Action.Nominal) k.disarm (lasted ck hold k before) (changed_to_land ck hold k before) false (lasted ck hold k before) d refl ∙ exactly_by _ _ _ refl refl refl

    pub obeys : Obeys ck hold k before
    obeys = record { position = position_of_lem; exactly = exactly_of; shown = is_allowed; down = down_by _ refl }
