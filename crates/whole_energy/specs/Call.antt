-- The C entry `failsafe_whole_energy`: its answer and its output, for all bytes. Assumes nothing.
use Rattle.std.specs.Prelude.{◌≡◌, ℕ, true, false, not, cond, List, [], ◌∷◌, ◌++◌, length, drop, nat_lt, flat_map, Result, Ok, Err, ⊤}
use Rattle.std.specs.Int.{w64, to_le_bytes}
use Rattle.whole_energy.specs.declared.Estimate.{Estimate}
use Rattle.whole_energy.specs.declared.EnergyError.{EnergyError}
use Rattle.whole_energy.specs.Input.{input_of, within_limits, speed_of_zero, return_of}
use Rattle.whole_energy.specs.Energy.{estimate_of, EstimateExact, TotalBound}

-- the numbers of the refusals
abbrev pub energy_error_number : EnergyError → ℕ
energy_error_number EnergyError.TooShort = 1
energy_error_number EnergyError.TooLong = 3
energy_error_number EnergyError.NoRoom = 5
energy_error_number EnergyError.OutsideLimits = 36
energy_error_number EnergyError.SpeedOfZero = 37

-- Fewer than 13 × 4 bytes are 1, more are 3. "Turned away: 36 for a number outside its limits, then 37 for a speed of 0"
unfoldable pub estimated : List ℕ → Result Estimate EnergyError
estimated input =
    cond (nat_lt (length input) 52) (Err EnergyError.TooShort)
    (cond (nat_lt 52 (length input)) (Err EnergyError.TooLong)
    (cond (not (within_limits (input_of input))) (Err EnergyError.OutsideLimits)
    (cond (speed_of_zero (input_of input)) (Err EnergyError.SpeedOfZero)
    (Ok (estimate_of (return_of (input_of input)))))))

-- home distance and its remainder; climb, cruise and descent, each with its remainder; total: eight bytes for a number, the lowest first
unfoldable pub estimate_bytes : Estimate → List ℕ
estimate_bytes e =
    flat_map (to_le_bytes w64)
    (e.distance ∷ e.remainder ∷ e.climb.quotient ∷ e.climb.remainder ∷ e.cruise.quotient ∷ e.cruise.remainder ∷ e.descent.quotient ∷ e.descent.remainder ∷ e.total ∷ [])

-- the number of a call's answer; 0 where it is not turned away
abbrev pub energy_number : Result ⊤ EnergyError → ℕ
energy_number (Ok x) = 0
energy_number (Err e) = energy_error_number e

-- a call's answer, and its output at its end
pub record EnergyCall : Type 0 where
  pub result : Result ⊤ EnergyError
  pub output : List ℕ

abbrev pub declined : EnergyError → List ℕ → EnergyCall
declined e output = record { result = Err e; output = output }

-- ".. and then 5" where the output has no room; later bytes stay
abbrev pub answered : Result Estimate EnergyError → List ℕ → EnergyCall
answered (Err e) output = declined e output
answered (Ok e) output = cond (nat_lt (length output) 72) (declined EnergyError.NoRoom output) (record { result = Ok tt; output = estimate_bytes e ++ drop 72 output })

unfoldable pub energy_call : List ℕ → List ℕ → EnergyCall
energy_call input output = answered (estimated input) output

-- the bound for every call that is not turned away
abbrev pub CallBound : Type 0
CallBound = (input : List ℕ) → within_limits (input_of input) ≡ true → speed_of_zero (input_of input) ≡ false → EstimateExact (return_of (input_of input)) × TotalBound (return_of (input_of input))
