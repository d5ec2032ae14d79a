-- Document 02, L11: the rule of raising and dropping, for one pair of timers over a list of steps. Lists have the latest step first. Assumes nothing.
use Rattle.std.specs.Prelude.{Bool, true, false, not, ◌&&◌, ◌||◌, cond, List, [], ◌∷◌, ◌++◌, ◌≡◌}
use Rattle.ladder.specs.Ladder.{all}

-- what a step says of one request: whether it is a confirmed disarm, and which of the pair's holds is met at it. At a faulted step neither is, and neither where
-- the timers rest
pub record Event : Type 0 where
  pub disarm : Bool
  pub set_held : Bool
  pub clear_held : Bool

-- "Raised at a step means raised before and not cleared there, or its set timer has held there"; "confirmed disarm, on a faulted step too, drops all"
unfoldable pub raised_after : List Event → Bool
raised_after [] = false
raised_after (e ∷ earlier) = cond e.disarm false (e.set_held || (raised_after earlier && not e.clear_held))

-- a step at which the set timer had held
abbrev pub set_at : Event → Bool
set_at e = not e.disarm && e.set_held

-- a step at which it was neither cleared nor disarmed
abbrev pub kept_at : Event → Bool
kept_at e = not (e.disarm || e.clear_held)

-- there is a step, this or an earlier one, at which the set timer had held, and no later one at which it was cleared or disarmed
pub record RaisedSince (steps : List Event) : Type 0 where
  pub later : List Event
  pub begun : Event
  pub before : List Event
  pub are : steps ≡ later ++ (begun ∷ before)
  pub set : set_at begun ≡ true
  pub kept : all kept_at later ≡ true

-- raised exactly there
pub record PairClaim : Type 0 where
  pub raised_since : (steps : List Event) → raised_after steps ≡ true → RaisedSince steps
  pub since_raised : (steps : List Event) → RaisedSince steps → raised_after steps ≡ true
