-- Action and Reason: the value, its byte, the value; and the byte, its value, the byte. Assumes nothing.
use Prim.Native.Nat.{ℕ, zero, suc, ◌<◌}
use mathlib.Core.Path.{◌≡◌, ◌∙◌, ap, refl}
use mathlib.Core.List.{List, [], ◌∷◌}
use mathlib.Core.Bool.{Bool, true, false, ◌&&◌}
use native.Mathlib.Omega.{arith}
use lib.Dec.{eqb}
use borrow.Author.Tests.{ltb-true, lt-ltb, eqb-true, eqb-false}
use Rattle.std.specs.Prelude.{Result}
use Rattle.std.specs.Result.{result_unwrap_or}
use Rattle.types.specs.declared.Action.{Action}
use Rattle.types.specs.declared.Reason.{Reason}
use Rattle.types.specs.declared.UnknownNumber.{UnknownNumber}
use Rattle.types.specs.Numbers.{rank, action_of_rank, index, reason_of_index}
use Rattle.types.proofs.Slots.{index_lt, reason_of_index_lem}
use Rattle.wire.specs.Fields.{u8_at, byte_below, le8, bytes_from}
use Rattle.wire.proofs.Whole.{first, second}
use Rattle.options.specs.Enums.{action_at, reason_at, le_action, le_reason}

pub action_back : (a : Action) → action_at (le_action a) 0 ≡ a
unfolding u8_at action_at le8 le_action
action_back Action.Nominal = refl
action_back Action.Warn = refl
action_back Action.Hold = refl
action_back Action.ReturnToLaunch = refl
action_back Action.Land = refl

pub action_valid : (a : Action) → byte_below (le_action a) 0 5 ≡ true
unfolding u8_at byte_below le8 le_action
action_valid Action.Nominal = refl
action_valid Action.Warn = refl
action_valid Action.Hold = refl
action_valid Action.ReturnToLaunch = refl
action_valid Action.Land = refl

pub reason_back : (r : Reason) → reason_at (le_reason r) 0 ≡ r
unfolding u8_at reason_at le8 le_reason
reason_back r = ap (λ (o : Result Reason UnknownNumber). result_unwrap_or o Reason.None) (reason_of_index_lem r)

pub reason_valid : (r : Reason) → byte_below (le_reason r) 0 19 ≡ true
unfolding u8_at byte_below le8 le_reason
reason_valid r = lt-ltb (index r) 19 (index_lt r)

-- a test that holds of each number below n
abbrev all_below : (ℕ → Bool) → ℕ → Bool
all_below f zero = true
all_below f (suc n) = all_below f n && f n

next_below : (b : Bool) (f : ℕ → Bool) (n k : ℕ) → eqb k n ≡ b → f n ≡ true → (k < n → f k ≡ true) → k < suc n → f k ≡ true
next_below true f n k e t r h = ap f (eqb-true k n e) ∙ t
next_below false f n k e t r h = let d = eqb-false k n e in r (omega arith)

below : (f : ℕ → Bool) (n : ℕ) → all_below f n ≡ true → (k : ℕ) → k < n → f k ≡ true
below f zero e k h = absurd (omega arith)
below f (suc n) e k h = next_below (eqb k n) f n k refl (second (all_below f n) (f n) e) (below f n (first (all_below f n) (f n) e) k) h

pub action_bytes : (s : List ℕ) (i : ℕ) → byte_below s i 5 ≡ true → le_action (action_at s i) ≡ bytes_from s i 1
unfolding u8_at byte_below action_at le8 le_action
action_bytes s i h =
    let x = u8_at s i in
    let f : ℕ → Bool = λ k. eqb (rank (result_unwrap_or (action_of_rank k) Action.Nominal)) k in
    ap (λ (n : ℕ). n ∷ []) (eqb-true (rank (result_unwrap_or (action_of_rank x) Action.Nominal)) x (below f 5 refl x (ltb-true x 5 h)))

pub reason_bytes : (s : List ℕ) (i : ℕ) → byte_below s i 19 ≡ true → le_reason (reason_at s i) ≡ bytes_from s i 1
unfolding u8_at byte_below reason_at le8 le_reason
reason_bytes s i h =
    let x = u8_at s i in
    let f : ℕ → Bool = λ k. eqb (index (result_unwrap_or (reason_of_index k) Reason.None)) k in
    ap (λ (n : ℕ). n ∷ []) (eqb-true (index (result_unwrap_or (reason_of_index x) Reason.None)) x (below f 19 refl x (ltb-true x 19 h)))
