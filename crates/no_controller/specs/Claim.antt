-- Document 02, L4, about the bytes that the C host hands over: "two runs from a fresh Supervisor, equal in everything but rc_ok and with the same calls
-- declined". Lists have the latest call first. Assumes nothing.
use Rattle.std.specs.Prelude.{ℕ, ◌≤◌, false, List, [], ◌∷◌, ◌≡◌, length, take, drop}
use Rattle.config.specs.declared.Config.{Config}
use Rattle.calls.specs.Form.{Form, base, wide, state_size}
use Rattle.run.specs.Run.{Call, Beside, state_bytes, answered, is_step, UnderConfig}

-- two slices of one length that are equal but for the bytes from `from` up to, and not with, `to`
pub record EqualBut (from to : ℕ) (a b : List ℕ) : Type 0 where
  pub lengths : length a ≡ length b
  pub before : take from a ≡ take from b
  pub behind : drop to a ≡ drop to b

-- where rc_ok stands in a telemetry slice, its flag, stamp and value: bytes 94 to 99 of a kind 3, and 130 to 139 of a kind 9
abbrev pub rc_from : Form → ℕ
rc_from (base keeps) = 94
rc_from wide = 130

abbrev pub rc_to : Form → ℕ
rc_to (base keeps) = 100
rc_to wide = 140

-- where the RC clear timer stands in a state image, its flag and instant: bytes 11 to 15 of kinds 5 and 12, and 15 to 23 of a kind 10
abbrev pub timer_from : Form → ℕ
timer_from (base keeps) = 11
timer_from wide = 15

abbrev pub timer_to : Form → ℕ
timer_to (base keeps) = 16
timer_to wide = 24

-- "equal in everything but rc_ok": its bytes may be any, in declined calls too
pub record SameCall (form : Form) (a b : Call) : Type 0 where
  pub with_side : a.with_side ≡ b.with_side
  pub config : a.config ≡ b.config
  pub fence : a.fence ≡ b.fence
  pub telemetry : EqualBut (rc_from form) (rc_to form) a.telemetry b.telemetry
  pub output : a.output ≡ b.output
  pub areas : a.areas ≡ b.areas

module _ (form : Form) (slice : List ℕ) where
  -- "and with the same calls declined": the numbers may differ
  abbrev pub SameCalls : List Call → List Call → Type 0
  SameCalls [] [] = Unit {0}
  SameCalls [] (b ∷ others) = ⊥
  SameCalls (a ∷ earlier) [] = ⊥
  SameCalls (a ∷ earlier) (b ∷ others) =
      SameCall form a b × ((is_step form slice a earlier ≡ is_step form slice b others) × SameCalls earlier others)

  -- the output slices as the calls leave them
  unfoldable pub outputs : List Call → List (List ℕ)
  outputs [] = []
  outputs (c ∷ earlier) = (answered form slice c earlier).output ∷ outputs earlier

-- "then write the same Decisions byte for byte. Their state images may differ in the RC clear timer and nowhere else". The earlier calls of both lists are
-- such lists too, so this holds after every call.
pub record NoController (form : Form) (slice : List ℕ) (first second : List Call) : Type 0 where
  pub decisions : outputs form slice first ≡ outputs form slice second
  pub images : EqualBut (timer_from form) (timer_to form) (state_bytes form slice first) (state_bytes form slice second)

-- "Some crews set rc_required false": for every form, every such configuration that it goes with, and every two lists of calls of any step entry, each call
-- with its own fence and areas, declined ones with any bytes among them; `slice` is what the fresh entry was handed
abbrev pub NoControllerClaim : Type 0
NoControllerClaim =
    (form : Form) (cfg : Config) → Beside form cfg → cfg.rc_required ≡ false
    → (slice : List ℕ) → state_size form ≤ length slice
    → (first second : List Call) → UnderConfig form slice cfg first → UnderConfig form slice cfg second
    → SameCalls form slice first second
    → NoController form slice first second
