-- The nineteen slots of a Decision frame, three bytes to each from byte 7 on: a flag, a reason, an action. Assumes nothing.
use Rattle.std.specs.Prelude.{ℕ, zero, suc, ◌+◌, ◌*◌, List, [], ◌∷◌, ◌++◌, Bool, true, cond, ◌&&◌, get_or, Option, Some, None, is_some, unwrap_or}
use Rattle.types.specs.declared.Request.{Request}
use Rattle.types.specs.Numbers.{rank, index}
use Rattle.types.specs.ActiveSet.{nominal}
use Rattle.wire.specs.Fields.{flag_at, byte_below, le_flag, le8}
use Rattle.options.specs.Options.{valid_option}
use Rattle.options.specs.Enums.{action_at, reason_at}

unfoldable pub slot_at : List ℕ → ℕ → Option Request
slot_at s i = cond (flag_at s i) (Some (record { reason = reason_at s (i + 1); action = action_at s (i + 2) })) None

-- the first n slots
unfoldable pub slots_at : List ℕ → ℕ → List (Option Request)
slots_at s zero = []
slots_at s (suc n) = slots_at s n ++ (slot_at s (7 + 3 * n) ∷ [])

-- "flag or enum byte out of range; absent value not zero"
unfoldable pub slot_valid : List ℕ → ℕ → Bool
slot_valid s i = valid_option s i 2 && byte_below s (i + 1) 19 && byte_below s (i + 2) 5

unfoldable pub slots_valid : List ℕ → ℕ → Bool
slots_valid s zero = true
slots_valid s (suc n) = slots_valid s n && slot_valid s (7 + 3 * n)

-- a byte 1, the reason and the action; "all zero bytes where absent", which are the numbers of `nominal`
unfoldable pub le_slot : Option Request → List ℕ
le_slot o = let q = unwrap_or o nominal in le_flag (is_some o) ++ (le8 (index q.reason) ++ le8 (rank q.action))

-- the first n slots of a set
unfoldable pub le_slots : ℕ → List (Option Request) → List ℕ
le_slots zero xs = []
le_slots (suc n) xs = le_slots n xs ++ le_slot (get_or xs n None)
