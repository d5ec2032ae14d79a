-- Document 01, 'Quiet stretch' and 'Run and record': the ladder as read off a record. Lists have the latest step first. Assumes nothing.
use Rattle.std.specs.Prelude.{ℕ, zero, suc, ◌+◌, ◌^◌, Bool, true, false, not, ◌&&◌, ◌||◌, cond, List, [], ◌∷◌, map, leb, ltb, length, take, Option, Some, None}
use Rattle.types.specs.declared.Action.{Action}
use Rattle.types.specs.Numbers.{rank}
use Rattle.time.specs.Time.{Clock, wrapping, plain, wrapping_sub}

-- a step as the record gives it (specs/Record.antt): nothing here is read from a state
pub record Step : Type 0 where
  -- its clock reading
  pub now : ℕ
  -- a confirmed disarm
  pub disarm : Bool
  -- its clock reading has no age against that of the last sound step
  pub faulted : Bool
  -- the third, sixth and so on of an unbroken row of faulted steps
  pub third : Bool
  pub wanted : Action
  pub position_valid : Bool
  -- "the action shown one step before, Nominal at first"
  pub previous_output : Action
  -- the action that its Decision shows
  pub action : Action

abbrev pub ranks_below : Action → Action → Bool
ranks_below a b = ltb (rank a) (rank b)

-- the term 'sound'
abbrev pub sound : Step → Bool
sound s = not s.faulted

-- "wanted less than the previous output"
abbrev pub wants_less : Step → Bool
wants_less s = ranks_below s.wanted s.previous_output

-- the term 'comes down': "its action ranks below the previous output"
abbrev pub comes_down : Step → Bool
comes_down s = ranks_below s.action s.previous_output

-- "Hold or ReturnToLaunch", by name: nothing of the arbiter's
abbrev pub is_hold_or_return : Action → Bool
is_hold_or_return Action.Nominal = false
is_hold_or_return Action.Warn = false
is_hold_or_return Action.Hold = true
is_hold_or_return Action.ReturnToLaunch = true
is_hold_or_return Action.Land = false

-- an earlier step, and whether it was changed to Land for lack of position
pub record Earlier : Type 0 where
  pub step : Step
  pub changed_to_land : Bool

-- ---- the quiet stretch that ends at step k

abbrev pub all : {A : Type 0} → (A → Bool) → List A → Bool
all test [] = true
all test (x ∷ xs) = test x && all test xs

-- step j, where `between` are the steps from j to k - 1
abbrev pub begin : Step → List Earlier → Step
begin k [] = k
begin k (i ∷ between) = begin i.step between

-- whether a quiet stretch may run from j to k: "sound step j such that steps j to k hold no confirmed disarm
-- and no third, sixth and so on of an unbroken row of faulted steps;
-- each sound one wanted less than the previous output;
-- and no step from j to k − 1 came down or was changed to Land for lack of position"
unfoldable pub quiet : Step → List Earlier → Bool
quiet k between =
    let steps = k ∷ map (λ (i : Earlier). i.step) between in
    sound (begin k between)
    && all (λ (i : Step). not i.disarm) steps
    && all (λ (i : Step). not i.third) steps
    && all (λ (i : Step). not (sound i) || wants_less i) steps
    && all (λ (i : Earlier). not (comes_down i.step)) between
    && all (λ (i : Earlier). not i.changed_to_land) between

-- "from the earliest": j is tried n steps before k, then n - 1 and so on, and at last k itself.
-- "It began at j's clock reading". "Without such a j there is none."
unfoldable pub earliest : ℕ → Step → List Earlier → Option ℕ
earliest zero k before = cond (quiet k []) (Some k.now) None
earliest (suc n) k before =
    let between = take (suc n) before in
    cond (quiet k between) (Some (begin k between).now) (earliest n k before)

-- the term 'quiet stretch' "ending at sound step k" ("a faulted step has none"), by the reading at which it began; `before` are all steps before k
unfoldable pub quiet_stretch : Step → List Earlier → Option ℕ
quiet_stretch k before = cond (sound k) (earliest (length before) k before) None

-- "how long ago is that reading's wrapping age at k": "began at least recovery_hold_ms and under 2^31 ms ago". On the clock that doesn't wrap there is
-- "no upper limit on the quiet stretch".
abbrev pub long_ago : Clock → Option ℕ → ℕ → ℕ → Bool
long_ago clock None now hold = false
long_ago wrapping (Some began) now hold = let ago = wrapping_sub now began in leb hold ago && ltb ago (2 ^ 31)
long_ago plain (Some began) now hold = leb (began + hold) now

-- "whether its quiet stretch has lasted as demand 3 asks"
abbrev pub lasted : Clock → ℕ → Step → List Earlier → Bool
lasted clock hold k before = long_ago clock (quiet_stretch k before) k.now hold

-- ---- the arbiter's rule, "fed its wanted action, previous output, valid position, fault and whether its quiet stretch has lasted"

-- before the look at the position
abbrev pub candidate : Clock → ℕ → Step → List Earlier → Action
candidate clock hold k before =
    cond k.faulted k.previous_output
    (cond (not (wants_less k)) k.wanted
    (cond (lasted clock hold k before) k.wanted
    k.previous_output))

-- the term 'changed to Land': the rule "puts Land for Hold or ReturnToLaunch"
abbrev pub changed_to_land : Clock → ℕ → Step → List Earlier → Bool
changed_to_land clock hold k before = is_hold_or_return (candidate clock hold k before) && not k.position_valid

-- each step of a record with whether it was changed to Land
unfoldable pub with_changes : Clock → ℕ → List Step → List Earlier
with_changes clock hold [] = []
with_changes clock hold (k ∷ earlier) =
    let before = with_changes clock hold earlier in
    record { step = k; changed_to_land = changed_to_land clock hold k before } ∷ before
