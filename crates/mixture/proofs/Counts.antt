-- The counts of the 200 mixtures, computed; and any step shows what its mixture does. Assumes nothing.
use Prim.Native.Nat.{ℕ}
use mathlib.Core.Bool.{Bool, true, false, not, ◌&&◌, cond}
use mathlib.Core.Path.{◌≡◌, refl}
use lib.Dec.{leb}
use Rattle.types.specs.declared.Action.{Action}
use Rattle.types.specs.declared.Request.{Request}
use Rattle.types.specs.Numbers.{rank}
use Rattle.time.specs.Time.{Clock, wrapping, wrapping_sub, age, hold_met}
use Rattle.arbiter.specs.declared.ArbiterState.{ArbiterState}
use Rattle.arbiter.specs.declared.Arbitrated.{Arbitrated}
use Rattle.arbiter.specs.Arbiter.{needs_position, recovery_start, recover, apply_persistence, apply_feasibility, arbitrate}
use Rattle.mixture.specs.Mixtures.{AnyStep, Counts, mixture, reading_of, action_shown, ends, ends_in, would_end_in}

-- what is shown before the look at the position
abbrev persisted : Action → Action → Bool → Bool → Action
persisted p w true e = p
persisted p w false e = cond (leb (rank p) (rank w)) w (cond e w p)

-- and after it
abbrev feasible : Action → Bool → Action
feasible a v = cond (needs_position a && not v) Action.Land a

cond-action : (b : Bool) (x y : Arbitrated) → (cond b x y).output.action ≡ cond b x.output.action y.output.action
cond-action true x y = refl
cond-action false x y = refl

persistence_shows : (clock : Clock) (s : ArbiterState) (now hold : ℕ) (want : Request) (f : Bool) → (apply_persistence clock s now hold want f).output.action ≡ persisted s.prev_output want.action f (hold_met clock now (recovery_start s.recovery_since_ms now) hold)
unfolding apply_persistence recover
persistence_shows clock s now hold want true = refl
persistence_shows clock s now hold want false = simp cond-action

feasibility_shows : (a : Arbitrated) (v : Bool) → (apply_feasibility a v).output.action ≡ feasible a.output.action v
unfolding apply_feasibility
feasibility_shows a v = simp cond-action

step_shows : (clock : Clock) (s : ArbiterState) (now hold : ℕ) (want : Request) (v f : Bool) → (arbitrate clock s now hold want v f).output.action ≡ feasible (persisted s.prev_output want.action f (hold_met clock now (recovery_start s.recovery_since_ms now) hold)) v
unfolding arbitrate
step_shows clock s now hold want v f = rw (feasibility_shows, persistence_shows)

reading_tells : (e : Bool) → hold_met wrapping (reading_of e) 0 1 ≡ e
unfolding wrapping_sub age hold_met
reading_tells true = refl
reading_tells false = refl

mixture_shows : (p w : Action) (v f e : Bool) → action_shown (mixture p w v f e) ≡ feasible (persisted p w f e) v
unfolding action_shown
mixture_shows p w v f e = rw (step_shows, reading_tells)

any_step : AnyStep
any_step clock s now hold want v f = rw (step_shows, mixture_shows)

pub mixture_counts : Counts
unfolding wrapping_sub age hold_met recover apply_persistence apply_feasibility arbitrate action_shown ends ends_in would_end_in
mixture_counts =
    record {
      any_step = any_step;
      all = refl;
      nominal = refl;
      warn = refl;
      hold = refl;
      return_to_launch = refl;
      land = refl;
      expected_nominal = refl;
      expected_warn = refl;
      expected_hold = refl;
      expected_return_to_launch = refl;
      expected_land = refl;
      first = refl;
      first_expected = refl;
    }
