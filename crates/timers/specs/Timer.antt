-- Document 01, 'triggers': timers; document 02, L11: what a pair of them raises. Assumes nothing.
use Rattle.std.specs.Prelude.{ℕ, Bool, true, false, not, ◌&&◌, ◌||◌, cond, Option, Some, None}
use Rattle.time.specs.Time.{Clock, hold_met}
use Rattle.timers.specs.declared.Timer.{Timer}
use Rattle.timers.specs.declared.Held.{Held}
use Rattle.timers.specs.declared.PairHeld.{PairHeld}

abbrev pub cleared : Timer
cleared = record { since_ms = None }

-- whether a timer has started
abbrev pub started : Option ℕ → Bool
started None = false
started (Some t) = true

abbrev pub pending : Timer → Bool
pending t = started t.since_ms

-- a timer's start: now, where it had not started
abbrev pub since_or : Option ℕ → ℕ → ℕ
since_or None now = now
since_or (Some since) now = since

-- "A timer starts at the first true step; its hold is met from the limit to under 2^31, and is unmet again beyond." A false step clears it.
unfoldable pub held_set : Clock → Timer → ℕ → Bool → ℕ → Held
held_set clock t now false hold = record { timer = cleared; met = false }
held_set clock t now true hold =
    let since = since_or t.since_ms now in
    record { timer = record { since_ms = Some since }; met = hold_met clock now since hold }

-- a request with a timer that sets it, while `bad`, and one that clears it, while `good`: the timers after a step, and which of their holds is met
unfoldable pub hold_pair : Clock → Timer → Timer → ℕ → Bool → ℕ → Bool → ℕ → PairHeld
hold_pair clock set clear now bad set_ms good clear_ms =
    let s = held_set clock set now bad set_ms in
    let c = held_set clock clear now good clear_ms in
    record { set = s.timer; clear = c.timer; set_met = s.met; clear_met = c.met }

-- a pair that rests: its timers as they were, no hold met
abbrev pub rested : Timer → Timer → PairHeld
rested set clear = record { set = set; clear = clear; set_met = false; clear_met = false }

-- the rule of raising. Kind 1, as in the Rust: where the first hold is met and the second is not. Kind 11, where raised requests are kept:
-- "Raised at a step means raised before and not cleared there, or its set timer has held there."
unfoldable pub raised_by : Bool → Bool → PairHeld → Bool
raised_by keeps before p = cond keeps (p.set_met || (before && not p.clear_met)) (p.set_met && not p.clear_met)
