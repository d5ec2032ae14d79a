-- Short lists of steps, and whether the request is raised at their end: one for each clause of the rule. Assumes nothing.
use Rattle.std.specs.Prelude.{Bool, true, false, [], ◌∷◌, ◌≡◌}
use Rattle.timers.specs.declared.PairHeld.{PairHeld}
use Rattle.timers.specs.Timer.{cleared, raised_by}
use Rattle.raised_laws.specs.Pair.{Event, raised_after}

-- steps at which the set hold is met, the clear hold, both, neither; a confirmed disarm
abbrev pub sets : Event
sets = record { disarm = false; set_held = true; clear_held = false }

abbrev pub clears : Event
clears = record { disarm = false; set_held = false; clear_held = true }

abbrev pub both : Event
both = record { disarm = false; set_held = true; clear_held = true }

abbrev pub neither : Event
neither = record { disarm = false; set_held = false; clear_held = false }

abbrev pub disarms : Event
disarms = record { disarm = true; set_held = true; clear_held = false }

abbrev pub held : Bool → Bool → PairHeld
held s c = record { set = cleared; clear = cleared; set_met = s; clear_met = c }

-- latest first
pub record RaisedInstances : Type 0 where
  pub stays : raised_after (neither ∷ neither ∷ sets ∷ []) ≡ true
  pub is_cleared : raised_after (neither ∷ clears ∷ sets ∷ []) ≡ false
  pub not_yet : raised_after (neither ∷ clears ∷ []) ≡ false
  -- where both have held the definition decides: raised
  pub both_held : raised_after (both ∷ []) ≡ true
  pub both_held_later : raised_after (clears ∷ both ∷ sets ∷ []) ≡ false
  pub disarmed : raised_after (neither ∷ disarms ∷ sets ∷ []) ≡ false
  pub raised_anew : raised_after (sets ∷ disarms ∷ sets ∷ []) ≡ true
  -- one pair of timers under both kinds: raised before, no hold met; both holds met
  pub kind_1_forgets : raised_by false true (held false false) ≡ false
  pub kind_11_keeps : raised_by true true (held false false) ≡ true
  pub kind_1_both : raised_by false false (held true true) ≡ false
  pub kind_11_both : raised_by true false (held true true) ≡ true
