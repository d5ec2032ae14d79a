-- Short runs with the actions that the record allows: document 01's row of the table, and one run for each clause of 'Quiet stretch'. Assumes nothing.
use Rattle.std.specs.Prelude.{ℕ, ◌≡◌, Bool, true, false, List, [], ◌∷◌, map, reverse}
use Rattle.time.specs.Time.{wrapping}
use Rattle.types.specs.declared.Action.{Action}
use Rattle.ladder.specs.Clock.{faulted, third}
use Rattle.ladder.specs.Ladder.{Step, with_changes}
use Rattle.ladder.specs.Claim.{allowed}

-- what a step gives to the ladder
pub record Given : Type 0 where
  pub now : ℕ
  pub disarm : Bool
  pub wanted : Action
  pub position_valid : Bool

abbrev pub at : ℕ → Action → Given
at now wanted = record { now = now; disarm = false; wanted = wanted; position_valid = true }

abbrev pub lost : ℕ → Action → Given
lost now wanted = record { now = now; disarm = false; wanted = wanted; position_valid = false }

abbrev pub disarmed_at : ℕ → Given
disarmed_at now = record { now = now; disarm = true; wanted = Action.Nominal; position_valid = false }

-- the step that shows an action, after steps that showed `output` at last; latest first
abbrev pub showing : Action → Given → List Given → Action → Step
showing action g earlier output =
    let readings = map (λ (e : Given). e.now) earlier in
    record {
      now = g.now;
      disarm = g.disarm;
      faulted = faulted wrapping g.now readings;
      third = third wrapping g.now readings;
      wanted = g.wanted;
      position_valid = g.position_valid;
      previous_output = output;
      action = action;
    }

abbrev pub last_output : List Step → Action
last_output [] = Action.Nominal
last_output (s ∷ earlier) = s.action

-- every step shows what is allowed, which does not depend on its own action; latest first
unfoldable pub played : ℕ → List Given → List Step
played hold [] = []
played hold (g ∷ earlier) =
    let before = played hold earlier in
    let action = allowed wrapping hold (showing Action.Nominal g earlier (last_output before)) (with_changes wrapping hold before) in
    showing action g earlier (last_output before) ∷ before

-- the actions of a run, both in the order of time
unfoldable pub actions : ℕ → List Given → List Action
actions hold run = reverse (map (λ (s : Step). s.action) (played hold (reverse run)))

pub record LadderInstances : Type 0 where
  -- "ReturnToLaunch shown, position valid, Warn wanted from 1000, hold 5000: at 5999, 6000 | ReturnToLaunch; Warn"
  pub table :
      actions 5000 (at 0 Action.ReturnToLaunch ∷ at 1000 Action.Warn ∷ at 5999 Action.Warn ∷ at 6000 Action.Warn ∷ [])
      ≡ Action.ReturnToLaunch ∷ Action.ReturnToLaunch ∷ Action.ReturnToLaunch ∷ Action.Warn ∷ []
  -- "no confirmed disarm": Nominal at once, and the stretch before it is over
  pub disarms :
      actions 10 (at 0 Action.Land ∷ at 10 Action.Warn ∷ disarmed_at 15 ∷ at 16 Action.Land ∷ at 20 Action.Warn ∷ at 30 Action.Warn ∷ [])
      ≡ Action.Land ∷ Action.Land ∷ Action.Nominal ∷ Action.Land ∷ Action.Land ∷ Action.Warn ∷ []
  -- "no step from j to k − 1 came down": the one at 20 did, so the next stretch begins at 25
  pub came_down :
      actions 10 (at 0 Action.ReturnToLaunch ∷ at 10 Action.Hold ∷ at 20 Action.Hold ∷ at 25 Action.Warn ∷ at 34 Action.Warn ∷ at 35 Action.Warn ∷ [])
      ≡ Action.ReturnToLaunch ∷ Action.ReturnToLaunch ∷ Action.Hold ∷ Action.Hold ∷ Action.Hold ∷ Action.Warn ∷ []
  -- "or was changed to Land for lack of position": the one at 10 was, so the stretch begins at 20
  pub changed :
      actions 10 (at 0 Action.ReturnToLaunch ∷ lost 10 Action.Warn ∷ at 20 Action.Warn ∷ at 29 Action.Warn ∷ at 30 Action.Warn ∷ [])
      ≡ Action.ReturnToLaunch ∷ Action.Land ∷ Action.Land ∷ Action.Land ∷ Action.Warn ∷ []
  -- "earliest sound step j": the faulted one at 50 wanted less, and the stretch begins at 110
  pub sound_start :
      actions 10 (at 100 Action.ReturnToLaunch ∷ at 50 Action.Warn ∷ at 110 Action.Warn ∷ at 119 Action.Warn ∷ at 120 Action.Warn ∷ [])
      ≡ Action.ReturnToLaunch ∷ Action.ReturnToLaunch ∷ Action.ReturnToLaunch ∷ Action.ReturnToLaunch ∷ Action.Warn ∷ []
  -- "each sound one wanted less": two faulted steps that wanted more leave the stretch alone
  pub faults :
      actions 10 (at 100 Action.ReturnToLaunch ∷ at 110 Action.Warn ∷ at 50 Action.Land ∷ at 50 Action.Land ∷ at 120 Action.Warn ∷ [])
      ≡ Action.ReturnToLaunch ∷ Action.ReturnToLaunch ∷ Action.ReturnToLaunch ∷ Action.ReturnToLaunch ∷ Action.Warn ∷ []
  -- "no third, sixth and so on of an unbroken row of faulted steps": a third one ends it, so the next begins at 120
  pub thirds :
      actions 10 (at 100 Action.ReturnToLaunch ∷ at 110 Action.Warn ∷ at 50 Action.Warn ∷ at 60 Action.Warn ∷ at 70 Action.Warn ∷ at 120 Action.Warn ∷ at 130 Action.Warn ∷ [])
      ≡ Action.ReturnToLaunch ∷ Action.ReturnToLaunch ∷ Action.ReturnToLaunch ∷ Action.ReturnToLaunch ∷ Action.ReturnToLaunch ∷ Action.ReturnToLaunch ∷ Action.Warn ∷ []
  -- "isn't Hold or ReturnToLaunch without position": Hold is wanted anew without position, and is changed to Land
  pub hold_lost :
      actions 10 (at 0 Action.Nominal ∷ lost 10 Action.Hold ∷ [])
      ≡ Action.Nominal ∷ Action.Land ∷ []
  -- the stretch has lasted at 20, and Hold is wanted without position: Land, and nothing came down; the next stretch begins at 25
  pub hold_lost_lasting :
      actions 10 (at 0 Action.ReturnToLaunch ∷ at 10 Action.Hold ∷ lost 20 Action.Hold ∷ at 25 Action.Hold ∷ at 34 Action.Hold ∷ at 35 Action.Hold ∷ [])
      ≡ Action.ReturnToLaunch ∷ Action.ReturnToLaunch ∷ Action.Land ∷ Action.Land ∷ Action.Land ∷ Action.Hold ∷ []
  -- the clock is faulted at 50: ReturnToLaunch is kept, and without position is changed to Land
  pub kept_lost :
      actions 10 (at 100 Action.ReturnToLaunch ∷ lost 50 Action.Warn ∷ [])
      ≡ Action.ReturnToLaunch ∷ Action.Land ∷ []
