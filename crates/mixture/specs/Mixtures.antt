-- Document 02, L13: "how many of the 200 mixtures of previous action, wanted action, valid position, clock fault and elapsed
-- recovery end in each action". Assumes nothing.
use Rattle.std.specs.Prelude.{ℕ, ◌/◌, ◌%◌, Bool, true, false, not, ◌&&◌, List, [], ◌∷◌, ◌≡◌, ◌==◌, length, slice_index_or, flat_map, count_by, Some}
use Rattle.types.specs.declared.Action.{Action}
use Rattle.types.specs.declared.Reason.{Reason}
use Rattle.types.specs.declared.Request.{Request}
use Rattle.types.specs.Numbers.{rank, actions}
use Rattle.time.specs.Time.{Clock, wrapping, hold_met}
use Rattle.arbiter.specs.declared.ArbiterState.{ArbiterState}
use Rattle.arbiter.specs.Arbiter.{request, recovery_start, arbitrate}
use Rattle.mixture.specs.declared.Mixture.{Mixture}

abbrev pub mixture : Action → Action → Bool → Bool → Bool → Mixture
mixture p w v f e = record { previous = p; wanted = w; position_valid = v; clock_fault = f; recovery_elapsed = e }

-- a reading at which a recovery that began at 0 has lasted 1 ms, or has not
abbrev pub reading_of : Bool → ℕ
reading_of true = 1
reading_of false = 0

-- the previous action was shown, and a recovery began at 0
abbrev pub before : Action → ArbiterState
before p = record { prev_output = p; prev_reason = Reason.None; recovery_since_ms = Some 0 }

-- the action that one step shows
unfoldable pub action_shown : Mixture → Action
action_shown m =
    (arbitrate wrapping (before m.previous) (reading_of m.recovery_elapsed) 1 (request Reason.None m.wanted) m.position_valid m.clock_fault
    ).output.action

-- reasons, readings and the clock play no part: any step shows what its mixture does
abbrev pub AnyStep : Type 0
AnyStep =
    (clock : Clock) (s : ArbiterState) (now hold : ℕ) (want : Request) (v f : Bool) →
    (arbitrate clock s now hold want v f).output.action
    ≡ action_shown (mixture s.prev_output want.action v f (hold_met clock now (recovery_start s.recovery_since_ms now) hold))

abbrev pub answers : List Bool
answers = false ∷ true ∷ []

-- "the 200 mixtures"
abbrev pub mixtures : List Mixture
mixtures =
    flat_map (λ p. flat_map (λ w. flat_map (λ v. flat_map (λ f. flat_map (λ e. mixture p w v f e ∷ []) answers) answers) answers) actions) actions

-- whether a mixture ends in an action
unfoldable pub ends : Action → Mixture → Bool
ends a m = rank (action_shown m) == rank a

-- how many of the mixtures end in an action
unfoldable pub ends_in : Action → ℕ
ends_in a = count_by (ends a) mixtures

-- the action of a rank, and Land from 4 up
abbrev pub action_at : ℕ → Action
action_at n = slice_index_or actions n Action.Land

abbrev pub is_odd : ℕ → Bool
is_odd n = n % 2 == 1

-- the mixture of a number, counted from 0: its place in `mixtures`
unfoldable pub mixture_at : ℕ → Mixture
mixture_at n = mixture (action_at (n / 40)) (action_at (n / 8 % 5)) (is_odd (n / 4)) (is_odd (n / 2)) (is_odd n)

-- a clock fault taken for a recovery that has not lasted: then a faulted step shows the wanted action where it ranks higher
abbrev pub fault_as_unelapsed : Mixture → Mixture
fault_as_unelapsed m =
    mixture m.previous m.wanted m.position_valid false (m.recovery_elapsed && not m.clock_fault)

-- how many mixtures would then end in an action
unfoldable pub would_end_in : Action → ℕ
would_end_in a = count_by (λ m. ends a (fault_as_unelapsed m)) mixtures

-- "the counts", and where those that document 02 expects come from
pub record Counts : Type 0 where
  pub any_step : AnyStep
  pub all : length mixtures ≡ 200
  pub nominal : ends_in Action.Nominal ≡ 32
  pub warn : ends_in Action.Warn ≡ 36
  pub hold : ends_in Action.Hold ≡ 20
  pub return_to_launch : ends_in Action.ReturnToLaunch ≡ 22
  pub land : ends_in Action.Land ≡ 90
  pub expected_nominal : would_end_in Action.Nominal ≡ 16
  pub expected_warn : would_end_in Action.Warn ≡ 28
  pub expected_hold : would_end_in Action.Hold ≡ 20
  pub expected_return_to_launch : would_end_in Action.ReturnToLaunch ≡ 26
  pub expected_land : would_end_in Action.Land ≡ 110
  -- the first mixture that the two tell apart
  pub first : action_shown (mixture Action.Nominal Action.Warn false true false) ≡ Action.Nominal
  pub first_expected : action_shown (fault_as_unelapsed (mixture Action.Nominal Action.Warn false true false)) ≡ Action.Warn
