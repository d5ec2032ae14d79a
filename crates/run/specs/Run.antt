-- Document 01, 'Run and record', about the bytes that the C host hands over. Lists have the latest call first. Assumes nothing.
use Rattle.std.specs.Prelude.{ℕ, ◌≤◌, Bool, false, cond, List, [], ◌∷◌, ◌⊎◌, ◌≡◌, eqb, length, take, Ok}
use Rattle.types.specs.declared.Action.{Action}
use Rattle.config.specs.declared.Config.{Config}
use Rattle.supervisor.specs.Settings.{Fed, fence_site, with_areas, fed_at}
use Rattle.wire.specs.Fields.{Bytes}
use Rattle.options.specs.Enums.{action_at}
use Rattle.flight.specs.declared.Flight.{Flight}
use Rattle.flight.specs.Flight.{flight_or_blank, read_flight}
use Rattle.calls.specs.Form.{Form, base, wide, clock_of, state_size, read_state_of, telemetry_in, settings_of}
use Rattle.calls.specs.Entry.{StepCall, step_any, fresh_call}
use Rattle.ladder.specs.Record.{Line, state_after, steps_of}
use Rattle.ladder.specs.Claim.{ObeysAll}

-- a call of a step entry: whether it is one that writes the side, and what it is handed beside the state; no areas where it takes none
pub record Call : Type 0 where
  pub with_side : Bool
  pub config : List ℕ
  pub fence : List ℕ
  pub telemetry : List ℕ
  pub output : List ℕ
  pub areas : List ℕ

-- the call on a state: its number and buffers
abbrev pub on : Call → List ℕ → StepCall
on c state = step_any c.with_side c.config c.fence state c.telemetry c.output c.areas

-- the action that an output's Decision shows, read off its bytes: kinds 4 and 6 have it in one place
abbrev pub shown_action : List ℕ → Action
shown_action output = action_at output 4

-- the configuration and fence that a call reads; where they are refused the call is no step, whatever stands here
abbrev pub flight_of : Call → Flight
flight_of c = flight_or_blank (read_flight c.config c.fence)

-- "all it was fed but the state": its telemetry, its own fence and its own keep-out areas
abbrev pub fed_by : Form → Call → Fed
fed_by form c = fed_at (with_areas c.areas (fence_site (flight_of c).fence)) (telemetry_in form c.telemetry)

-- the form goes with the configuration: kind 12 with kind 11, kinds 5 and 10 with kind 1
abbrev pub Beside : Form → Config → Type 0
Beside (base keeps) cfg = cfg.keeps_raised ≡ keeps
Beside wide cfg = cfg.keeps_raised ≡ false

-- a run begins with the state slice that is handed to the fresh entry of its form
module _ (form : Form) (slice : List ℕ) where
  -- "Each call gets the state that the last one returned or, declining, left"; the first gets "the first 186 bytes" of what the fresh entry left
  unfoldable pub state_bytes : List Call → List ℕ
  state_bytes [] = take (state_size form) (fresh_call form slice).state
  state_bytes (c ∷ earlier) = (on c (state_bytes earlier)).state

  -- a call after earlier ones: its number and buffers
  abbrev pub answered : Call → List Call → StepCall
  answered c earlier = on c (state_bytes earlier)

  -- whether a call is a step: "A declined call .. is no step"
  abbrev pub is_step : Call → List Call → Bool
  is_step c earlier = eqb (answered c earlier).number 0

  -- each call is bytes, and those that step meet a condition; one that is declined "may come with any bytes beside that state"
  abbrev pub Under : (Flight → Type 0) → List Call → Type 0
  Under P [] = Unit {0}
  Under P (c ∷ earlier) = Bytes c.telemetry × ((((answered c earlier).number ≡ 0 → ⊥) ⊎ P (flight_of c)) × Under P earlier)

  -- each call that steps reads this configuration, by whatever bytes and beside whatever fence
  abbrev pub UnderConfig : Config → List Call → Type 0
  UnderConfig cfg calls = Under (λ (f : Flight). f.cfg ≡ cfg) calls

  -- what the steps were fed
  unfoldable pub fed : List Call → List Fed
  fed [] = []
  fed (c ∷ earlier) = cond (is_step c earlier) (fed_by form c ∷ fed earlier) (fed earlier)

  -- "The record holds, for each step, all it was fed but the state, and the action its Decision shows"
  unfoldable pub record_of_calls : List Call → List Line
  record_of_calls [] = []
  record_of_calls (c ∷ earlier) =
      cond (is_step c earlier)
      (record { fed = fed_by form c; action = shown_action (answered c earlier).output } ∷ record_of_calls earlier)
      (record_of_calls earlier)

-- what holds of a run under a configuration
pub record RunObeys (form : Form) (slice : List ℕ) (cfg : Config) (calls : List Call) : Type 0 where
  -- the fresh entry answers 0
  pub begun : (fresh_call form slice).number ≡ 0
  -- demand 3, read off the record alone
  pub ladder : ObeysAll (clock_of form) cfg.recovery_hold_ms (steps_of (settings_of form cfg) (record_of_calls form slice calls))
  -- the state image is always accepted again: no run is declined for its own state
  pub accepted : read_state_of form (state_bytes form slice calls) ≡ Ok (state_after (settings_of form cfg) (fed form slice calls))

-- "for every list": every form, every configuration that it goes with, every state slice of at least a frame's bytes, every list of calls, each with its own
-- fence and areas, declined ones with any bytes among them
abbrev pub RunClaim : Type 0
RunClaim =
    (form : Form) (cfg : Config) → Beside form cfg
    → (slice : List ℕ) → state_size form ≤ length slice
    → (calls : List Call) → UnderConfig form slice cfg calls → RunObeys form slice cfg calls

-- "under one accepted configuration and fence", by what is read and accepted: the bytes may differ
abbrev pub SameFlight : Flight → Flight → Type 0
SameFlight g f = (f.cfg ≡ g.cfg) × (f.fence ≡ g.fence)

-- document 01's claim: the case of one fence
abbrev pub OneFlightClaim : Type 0
OneFlightClaim =
    (config fence : List ℕ) (g : Flight) → read_flight config fence ≡ Ok g
    → (form : Form) → Beside form g.cfg
    → (slice : List ℕ) → state_size form ≤ length slice
    → (calls : List Call) → Under form slice (SameFlight g) calls
    → RunObeys form slice g.cfg calls
