-- A timer, and a pair of them, under another clock. Assumes nothing.
use Rattle.std.specs.Prelude.{Option, Some, None}
use Prim.Native.Nat.{ℕ}
use mathlib.Core.Path.{◌≡◌, refl}
use mathlib.Core.Bool.{Bool, true, false}
use Rattle.time.specs.Time.{Clock}
use Rattle.timers.specs.declared.Timer.{Timer}
use Rattle.timers.specs.declared.Held.{Held}
use Rattle.timers.specs.declared.PairHeld.{PairHeld}
use Rattle.timers.specs.Timer.{started, held_set}
use Rattle.instants.specs.Retimed.{instead, timer_at, onwards}
use Rattle.alike.specs.Alike.{HoldAlike}

abbrev pub held_at : ℕ → Held → Held
held_at x h = record { timer = timer_at x h.timer; met = h.met }

abbrev pub pair_at : ℕ → ℕ → PairHeld → PairHeld
pair_at x y p = record { set = timer_at x p.set; clear = timer_at y p.clear; set_met = p.set_met; clear_met = p.clear_met }

pub started_instead : (x : ℕ) (o : Option ℕ) → started (instead x o) ≡ started o
started_instead x None = refl
started_instead x (Some y) = refl

pub instead_onwards : (now x : ℕ) (o : Option ℕ) → instead x o ≡ instead (onwards now x o) o
instead_onwards now x None = refl
instead_onwards now x (Some y) = refl

-- a timer that rests
pub rests : (now x : ℕ) (t : Timer) → timer_at x t ≡ timer_at (onwards now x t.since_ms) t
rests now x t = λ k. record { since_ms = instead_onwards now x t.since_ms k }

module _ (c1 c2 : Clock) (now1 now2 : ℕ) where
  pub held : (x : ℕ) (t : Timer) (hold1 hold2 : ℕ) (active : Bool) → HoldAlike c1 c2 now1 now2 x t.since_ms hold1 hold2 → held_set c2 (timer_at x t) now2 active hold2 ≡ held_at (onwards now2 x t.since_ms) (held_set c1 t now1 active hold1)
  unfolding held_set
  held x t hold1 hold2 false e = refl
  held x t hold1 hold2 true e = λ k. record { timer = record { since_ms = Some (onwards now2 x t.since_ms) }; met = e k }
