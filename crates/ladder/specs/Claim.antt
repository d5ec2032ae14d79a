-- Demand 3: one claim about every list of steps. Assumes nothing.
use Rattle.std.specs.Prelude.{ℕ, ◌≡◌, true, false, not, ◌&&◌, ◌||◌, cond, List, [], ◌∷◌, ◌⊎◌}
use Rattle.time.specs.Time.{Clock}
use Rattle.types.specs.declared.Action.{Action}
use Rattle.supervisor.specs.Settings.{Settings, Fed}
use Rattle.ladder.specs.Ladder.{Step, Earlier, ranks_below, sound, comes_down, is_hold_or_return, lasted, candidate, changed_to_land, with_changes}
use Rattle.ladder.specs.Record.{record_of, steps_of}

-- the action that the record allows: Nominal at a confirmed disarm, Land where the step is changed to Land, else what the arbiter's rule gives
abbrev pub allowed : Clock → ℕ → Step → List Earlier → Action
allowed clock hold k before = cond k.disarm Action.Nominal (cond (changed_to_land clock hold k before) Action.Land (candidate clock hold k before))

-- what holds of a step k with `before` before it
pub record Obeys (clock : Clock) (hold : ℕ) (k : Step) (before : List Earlier) : Type 0 where
  -- "a step shows Hold or ReturnToLaunch only with a valid position"
  pub position : (k.action ≡ Action.Hold) ⊎ (k.action ≡ Action.ReturnToLaunch) → k.position_valid ≡ true
  -- "Without confirmed disarm, its action ranks below the previous step's (Nominal at first) exactly where the clock is sound, the wanted action ranks lower
  -- and isn't Hold or ReturnToLaunch without position, and the quiet stretch, read from the record, began at least recovery_hold_ms and under 2^31 ms ago"
  pub exactly :
      k.disarm ≡ false
      → comes_down k
      ≡ sound k
      && ranks_below k.wanted k.previous_output
      && not (is_hold_or_return k.wanted && not k.position_valid)
      && lasted clock hold k before
  -- the action shown is the one that the record allows
  pub shown : k.action ≡ allowed clock hold k before
  -- a step comes down exactly where it is a confirmed disarm after a previous output above Nominal, or where its quiet stretch has lasted
  -- (so it is sound and wants less) and it is not changed to Land
  pub down : comes_down k ≡ (k.disarm && ranks_below Action.Nominal k.previous_output) || (lasted clock hold k before && not (changed_to_land clock hold k before))

-- at every step of a record
abbrev pub ObeysAll : Clock → ℕ → List Step → Type 0
ObeysAll clock hold [] = Unit {0}
ObeysAll clock hold (k ∷ earlier) = Obeys clock hold k (with_changes clock hold earlier) × ObeysAll clock hold earlier

-- "a single claim about the list, for every list": whatever the run keeps, and whatever each step is fed
abbrev pub LadderClaim : Type 0
LadderClaim = (r : Settings) (fed : List Fed) → ObeysAll r.clock r.cfg.recovery_hold_ms (steps_of r (record_of r fed))
