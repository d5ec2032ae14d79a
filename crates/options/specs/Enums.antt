-- Action, Reason, GpsFix and LandedState in a frame: "enum a byte in declared order from 0". A byte out of range is refused before it is read. Assumes nothing.
use Rattle.std.specs.Prelude.{ℕ, List}
use Rattle.std.specs.Result.{result_unwrap_or}
use Rattle.wire.specs.Fields.{u8_at, le8}
use Rattle.types.specs.declared.Action.{Action}
use Rattle.types.specs.declared.Reason.{Reason}
use Rattle.types.specs.declared.GpsFix.{GpsFix}
use Rattle.types.specs.declared.LandedState.{LandedState}
use Rattle.types.specs.Numbers.{rank, action_of_rank, index, reason_of_index, fix_of_number, landed_number, landed_of_number}

unfoldable pub action_at : List ℕ → ℕ → Action
action_at s i = result_unwrap_or (action_of_rank (u8_at s i)) Action.Nominal

unfoldable pub reason_at : List ℕ → ℕ → Reason
reason_at s i = result_unwrap_or (reason_of_index (u8_at s i)) Reason.None

unfoldable pub le_action : Action → List ℕ
le_action a = le8 (rank a)

unfoldable pub le_reason : Reason → List ℕ
le_reason r = le8 (index r)

unfoldable pub fix_at : List ℕ → ℕ → GpsFix
fix_at s i = result_unwrap_or (fix_of_number (u8_at s i)) GpsFix.None

unfoldable pub landed_at : List ℕ → ℕ → LandedState
landed_at s i = result_unwrap_or (landed_of_number (u8_at s i)) LandedState.Undefined

abbrev pub le_landed : LandedState → List ℕ
le_landed l = le8 (landed_number l)
