-- One step of the arbiter beside one step of a record: what it shows is what the record allows, and the recovery that it keeps is the quiet stretch
-- that a next step goes on with. Assumes nothing.
use Rattle.std.specs.Prelude.{Option, Some, None}
use Prim.Native.Nat.{ℕ}
use mathlib.Core.Path.{◌≡◌, refl, ap, sym, ◌∙◌}
use mathlib.Core.Bool.{Bool, true, false, not, ◌&&◌, cond, and-true, and-false, false≢true}
use mathlib.Core.List.{List, ◌∷◌}
use lib.Dec.{leb}
use lib.ListN.{length}
use Rattle.types.specs.declared.Action.{Action}
use Rattle.types.specs.declared.Reason.{Reason}
use Rattle.types.specs.declared.Request.{Request}
use Rattle.types.specs.Numbers.{rank}
use Rattle.time.specs.Time.{Clock, hold_met}
use Rattle.arbiter.specs.declared.ArbiterState.{ArbiterState}
use Rattle.arbiter.specs.declared.Arbitrated.{Arbitrated}
use Rattle.arbiter.specs.Arbiter.{fresh_arbiter, without_recovery, request, shown, previous, recovery_start, recover, apply_persistence, needs_position, apply_feasibility, arbitrate}
use Rattle.supervisor.specs.Step.{arbiter_after}
use Rattle.ladder.specs.Ladder.{Step, ranks_below, wants_less, Earlier, earliest, quiet_stretch, lasted, candidate, changed_to_land}
use Rattle.ladder.specs.Claim.{allowed}
use Rattle.ladder.proofs.Choices.{cond-ap, cond_same, cond_no, ltb_self, opposite, needs_is, met_is}
use Rattle.ladder.proofs.Stretch.{or_else, goes_on, from_before}

-- ---- the action kept is the action shown

abbrev Same : Arbitrated → Type 0
Same r = r.state.prev_output ≡ r.output.action

same_cond : (c : Bool) (x y : Arbitrated) → Same x → Same y → Same (cond c x y)
same_cond true x y p q = p
same_cond false x y p q = q

same_recover : (ck : Clock) (a : ArbiterState) (now hold : ℕ) (want : Request) → Same (recover ck a now hold want)
unfolding recover
same_recover ck a now hold want =
    let start = recovery_start a.recovery_since_ms now in
    same_cond (hold_met ck now start hold) (shown want None) (shown (previous a) (Some start)) refl refl

same_persisted : (ck : Clock) (a : ArbiterState) (now hold : ℕ) (want : Request) (f : Bool) → Same (apply_persistence ck a now hold want f)
unfolding apply_persistence
same_persisted ck a now hold want true = refl
same_persisted ck a now hold want false =
    same_cond (leb (rank a.prev_output) (rank want.action)) (shown want None) (recover ck a now hold want) refl (same_recover ck a now hold want)

same : (ck : Clock) (a : ArbiterState) (now hold : ℕ) (want : Request) (valid f : Bool) → Same (arbitrate ck a now hold want valid f)
unfolding arbitrate apply_feasibility
same ck a now hold want valid f =
    let p = apply_persistence ck a now hold want f in
    same_cond (needs_position p.output.action && not valid) (shown (request Reason.PositionInvalid Action.Land) None) p refl (same_persisted ck a now hold want f)

-- ---- the step

or_none : (g : Option ℕ) → or_else g None ≡ g
or_none None = refl
or_none (Some a) = refl

or_now : (g : Option ℕ) (now : ℕ) → or_else g (Some now) ≡ Some (recovery_start g now)
or_now None now = refl
or_now (Some a) now = refl

abbrev pub since : ArbiterState → Option ℕ
since a = a.recovery_since_ms

module _ (ck : Clock) (hold : ℕ) (a : ArbiterState) (want : Request) (k : Step) (before : List Earlier) where
  abbrev pub arbitrated : Arbitrated
  arbitrated = arbitrate ck (arbiter_after k.third a) k.now hold want k.position_valid k.faulted

  -- a confirmed disarm goes back to the fresh arbiter
  abbrev pub shown_action : Action
  shown_action = cond k.disarm Action.Nominal arbitrated.output.action

  abbrev pub kept : ArbiterState
  kept = cond k.disarm fresh_arbiter arbitrated.state

  -- before the look at the position
  abbrev persisted : Arbitrated
  persisted = apply_persistence ck (arbiter_after k.third a) k.now hold want k.faulted

  abbrev met : Bool
  met = hold_met ck k.now (recovery_start (goes_on before) k.now) hold

  -- k as an earlier step
  abbrev pub as_earlier : Earlier
  as_earlier = record { step = k; changed_to_land = changed_to_land ck hold k before }

  pub output_kept : (d : Bool) → k.disarm ≡ d → kept.prev_output ≡ shown_action
  output_kept true d = rw d
  output_kept false d = rw d (same ck (arbiter_after k.third a) k.now hold want k.position_valid k.faulted)

  module _
      (faults : k.third ≡ true → k.faulted ≡ true)
      (wants : want.action ≡ k.wanted)
      (shows : a.prev_output ≡ k.previous_output)
      (goes : since a ≡ goes_on before)
    where
      no_third : (t : Bool) → k.third ≡ t → k.faulted ≡ false → k.third ≡ false
      no_third true q f = absurd (false≢true (sym f ∙ faults q))
      no_third false q f = q

      stretch_is : k.disarm ≡ false → k.faulted ≡ false → wants_less k ≡ true → earliest (length before) k before ≡ Some (recovery_start (goes_on before) k.now)
      stretch_is d f w = rw (from_before k before, d, no_third _ refl f, f, w) (or_now (goes_on before) k.now)

      lasted_is : k.disarm ≡ false → k.faulted ≡ false → wants_less k ≡ true → lasted ck hold k before ≡ met
      unfolding quiet_stretch
      lasted_is d f w = simp (f, stretch_is d f w) (met_is ck k.now (recovery_start (goes_on before) k.now) hold)

      -- what the rule gives on a fault, and at a sound step
      on_fault : k.faulted ≡ true → persisted ≡ shown (previous (arbiter_after k.third a)) (since (arbiter_after k.third a))
      unfolding apply_persistence
      on_fault f = rw f

      on_sound : (w : Bool) → k.faulted ≡ false → wants_less k ≡ w → persisted ≡ cond (not w) (shown want None) (cond met (shown want None) (shown (previous a) (Some (recovery_start (goes_on before) k.now))))
      unfolding apply_persistence recover
      on_sound w f e = rw (f, no_third _ refl f, shows, wants, opposite (rank k.previous_output) (rank k.wanted) w e, goes)

      previous_is : (t : Bool) → (arbiter_after t a).prev_output ≡ k.previous_output
      unfolding without_recovery
      previous_is true = shows
      previous_is false = shows

      candidate_by : (f w : Bool) → k.faulted ≡ f → wants_less k ≡ w → k.disarm ≡ false → persisted.output.action ≡ candidate ck hold k before
      candidate_by true w f e d = rw (on_fault f, f) (previous_is k.third)
      candidate_by false false f e d = rw (on_sound false f e, f, e) wants
      candidate_by false true f e d = rw (on_sound true f e, lasted_is d f e, f, e) (by met)
        where
          by : (m : Bool) → (cond m (shown want None) (shown (previous a) (Some (recovery_start (goes_on before) k.now)))).output.action ≡ cond m k.wanted k.previous_output
          by true = wants
          by false = shows

      candidate_is : k.disarm ≡ false → persisted.output.action ≡ candidate ck hold k before
      candidate_is d = candidate_by _ _ refl refl d

      -- after the look at the position
      output_is : k.disarm ≡ false → arbitrated.output.action ≡ cond (changed_to_land ck hold k before) Action.Land (candidate ck hold k before)
      unfolding arbitrate apply_feasibility
      output_is d = rw (cond-ap (λ (r : Arbitrated). r.output.action), needs_is, candidate_is d)

      since_is : k.disarm ≡ false → since arbitrated.state ≡ cond (changed_to_land ck hold k before) None (since persisted.state)
      unfolding arbitrate apply_feasibility
      since_is d = rw (cond-ap (λ (r : Arbitrated). since r.state), needs_is, candidate_is d)

      pub shown_allowed : (d : Bool) → k.disarm ≡ d → shown_action ≡ allowed ck hold k before
      shown_allowed true d = rw d
      shown_allowed false d = rw (output_is d, d)

      -- the recovery that is kept, where k is not changed to Land
      abbrev Goes : Type 0
      Goes = since persisted.state ≡ cond (not (ranks_below (candidate ck hold k before) k.previous_output)) (earliest (length before) k before) None

      goes_on_fault : (t : Bool) → k.third ≡ t → k.disarm ≡ false → k.faulted ≡ true → Goes
      unfolding without_recovery
      goes_on_fault true t d f = rw (on_fault f, from_before k before, t, d, f, ltb_self)
      goes_on_fault false t d f = rw (on_fault f, from_before k before, t, d, f, ltb_self, or_none) goes

      goes_on_sound : (w m : Bool) → wants_less k ≡ w → met ≡ m → k.disarm ≡ false → k.faulted ≡ false → Goes
      goes_on_sound false m w q d f = rw (on_sound false f w, from_before k before, d, no_third _ refl f, f, w, w)
      goes_on_sound true true w q d f = rw (on_sound true f w, lasted_is d f w, q, f, w, w)
      goes_on_sound true false w q d f = rw (on_sound true f w, stretch_is d f w, lasted_is d f w, q, f, w, ltb_self)

      goes_by : (f : Bool) → k.faulted ≡ f → k.disarm ≡ false → Goes
      goes_by true f d = goes_on_fault _ refl d f
      goes_by false f d = goes_on_sound _ _ refl refl d f

      kept_since : k.disarm ≡ false → changed_to_land ck hold k before ≡ false → since kept ≡ since persisted.state
      kept_since d q = rw d (since_is d ∙ cond_no (changed_to_land ck hold k before) _ _ q)

      abbrev goes_past : Action → Bool → Option ℕ
      goes_past action changed = cond (not (ranks_below action k.previous_output) && not changed) (earliest (length before) k before) None

      past : (action : Action) → cond (not (ranks_below action k.previous_output)) (earliest (length before) k before) None ≡ goes_past action false
      past action = rw (and-true (not (ranks_below action k.previous_output)))

      -- where k shows what the arbiter gave, what the arbiter keeps is what a next step goes on with
      module _ (is_shown : k.action ≡ shown_action) where
        unchanged : k.disarm ≡ false → changed_to_land ck hold k before ≡ false → k.action ≡ candidate ck hold k before
        unchanged d q = is_shown ∙ shown_allowed false d ∙ cond_no k.disarm _ _ d ∙ cond_no (changed_to_land ck hold k before) _ _ q

        pub since_kept : (d c : Bool) → k.disarm ≡ d → changed_to_land ck hold k before ≡ c → since kept ≡ goes_on (as_earlier ∷ before)
        since_kept true c d q = rw (from_before k before, d, cond_same)
        since_kept false true d q = rw (q, and-false, d, since_is d, q)
        since_kept false false d q =
            kept_since d q
            ∙ goes_by _ refl d
            ∙ past (candidate ck hold k before)
            ∙ ap (λ (x : Action). goes_past x false) (sym (unchanged d q))
            ∙ ap (goes_past k.action) (sym q)
