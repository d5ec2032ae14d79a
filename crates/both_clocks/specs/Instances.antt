-- Each premise on what is held is needed: without it a run refutes the claim, a timer, the recovery start, the disarm hold, the stored sample's stamp and
-- last_now in turn. And a run that meets them all. Lists have the latest pair of calls first. Assumes nothing.
use Rattle.std.specs.Prelude.{ℕ, ◌+◌, ◌-◌, ◌^◌, Bool, true, false, List, [], ◌∷◌, map, ◌≡◌, eqb, replicate, Option, Some, None}
use Rattle.std.specs.Float.Ieee.{neg}
use Rattle.types.specs.declared.Action.{Action}
use Rattle.types.specs.declared.Reason.{Reason}
use Rattle.types.specs.declared.LandedState.{LandedState}
use Rattle.types.specs.declared.Telemetry.{Telemetry}
use Rattle.config.specs.Default.{decimal}
use Rattle.timers.specs.Timer.{cleared}
use Rattle.triggers.specs.Update.{none_raised}
use Rattle.supervisor.specs.declared.Supervisor.{Supervisor}
use Rattle.wire.specs.Fields.{Bytes}
use Rattle.frame_telemetry.specs.TelemetryFrame.{telemetry_frame}
use Rattle.frame_state.specs.StateFrame.{state_frame}
use Rattle.instants.specs.Retimed.{TimerName, gps_lost_set, timer_of}
use Rattle.instants.specs.Own.{position_stamp}
use Rattle.instants.specs.Listed.{timer_place}
use Rattle.frame_wide.specs.WideTelemetry.{wide_telemetry_frame}
use Rattle.calls.specs.Widen.{widen_call}
use Rattle.run.specs.Run.{Call, shown_action}
use Rattle.run.specs.Instances.{config, fence, in_flight, blind}
use Rattle.both_clocks.specs.Claim.{without_upper, Recent, HeldRecent, Pair, narrow_outputs, wide_outputs, BothClocks, Meets, ClaimUnder}
use Rattle.types.specs.declared.PositionSample.{PositionSample}

-- asked but for one place
abbrev pub Unless : Bool → Type 0 → Type 0
Unless true P = Unit {0}
Unless false P = P

-- `HeldRecent` without the instant in the k-th place of a frame: a timer's, then 25 to 28
pub record HeldBut (k now : ℕ) (x : Supervisor) : Type 0 where
  pub timer : (n : TimerName) → Unless (eqb k (timer_place n)) (Recent now (timer_of x.triggers n).since_ms)
  pub recovery : Unless (eqb k 25) (Recent now x.arbiter.recovery_since_ms)
  pub gate : Unless (eqb k 26) (Recent now x.disarm.hold_since_ms)
  pub stored : Unless (eqb k 27) (Recent now (position_stamp x.glitch.last_accepted))
  pub last : Unless (eqb k 28) (Recent now x.last_now)

pub record NeededClaim : Type 0 where
  pub timer : ClaimUnder (HeldBut (timer_place gps_lost_set)) → ⊥
  pub recovery : ClaimUnder (HeldBut 25) → ⊥
  pub gate : ClaimUnder (HeldBut 26) → ⊥
  pub stored : ClaimUnder (HeldBut 27) → ⊥
  pub last : ClaimUnder (HeldBut 28) → ⊥

-- ---- the runs, all under the default configuration and fence

-- nothing but these is held: gps_lost_set, the previous output with the recovery start, the disarm hold, the stored sample and last_now
unfoldable pub holding : Option ℕ → Action → Option ℕ → Option ℕ → Option PositionSample → ℕ → Supervisor
holding lost output recovery gate stored last =
    record {
      triggers =
          record {
            battery_critical_latched = false;
            energy_infeasible_latched = false;
            gcs_clear_timer = cleared;
            rc_clear_timer = cleared;
            gps_deg_set = cleared;
            gps_deg_clear = cleared;
            gps_lost_set = record { since_ms = lost };
            gps_lost_clear = cleared;
            ekf_set = cleared;
            ekf_clear = cleared;
            fence_breach_set = cleared;
            fence_breach_clear = cleared;
            alt_max_set = cleared;
            alt_max_clear = cleared;
            alt_min_set = cleared;
            alt_min_clear = cleared;
            stale_bat_clear = cleared;
            bat_warn_set = cleared;
            bat_warn_clear = cleared;
            bat_low_set = cleared;
            bat_low_clear = cleared;
            bat_crit_set = cleared;
            energy_marg_set = cleared;
            energy_marg_clear = cleared;
            energy_infeas_set = cleared;
            invalid_clear = cleared;
            invalid_active = false;
            rc_lost_set = cleared;
            gcs_stage = 0;
            raised = none_raised;
          };
      arbiter = record { prev_output = output; prev_reason = Reason.None; recovery_since_ms = recovery };
      disarm = record { hold_since_ms = gate };
      glitch = record { last_accepted = stored; reject_streak = 0 };
      last_now = Some last;
      epoch_start = 0;
      backwards_streak = 0;
      initialized = true;
    }

-- on the ground and armed, all readings taken now but that of the satellites
unfoldable pub no_gps : ℕ → Telemetry
no_gps now =
    record {
      now_ms = now;
      position = (in_flight now true).position;
      gps = None;
      battery = (in_flight now true).battery;
      gcs_heartbeat_ms = Some now;
      armed = Some (record { t_ms = now; value = true });
      landed = Some (record { t_ms = now; value = LandedState.OnGround });
      rc_ok = Some (record { t_ms = now; value = true });
      ekf_ok = Some (record { t_ms = now; value = true });
    }

-- a sample a kilometre north of home, taken at 0
abbrev pub far : Option PositionSample
far =
    Some
    (record {
      t_ms = 0;
      pos = record { n = decimal 1000 1; e = decimal 0 1; d = neg (decimal 30 1) };
      vel = record { n = decimal 0 1; e = decimal 0 1; d = decimal 0 1 };
    })

-- the latest reading that has an age at 0, on the clock that wraps
abbrev pub latest : ℕ
latest = 2 ^ 31 - 1

-- a pair of calls that are fed the same
abbrev pub called : List ℕ → Call
called telemetry = record { with_side = false; config = config; fence = fence; telemetry = telemetry; output = replicate 95 0; areas = [] }

abbrev pub pair_of : Telemetry → Pair
pair_of t = record { narrow = called (telemetry_frame (without_upper t)); wide = called (wide_telemetry_frame t) }

-- an old state, T and the pairs after it. At an age of 2^31 of the timer the 64-bit clock shows Land, the other Nominal
abbrev pub timer_state : Supervisor
timer_state = holding (Some 0) Action.Nominal None None None latest

abbrev pub timer_run : List Pair
timer_run = pair_of (no_gps (2 ^ 31)) ∷ []

-- of the recovery start: Nominal, the other Warn
abbrev pub recovery_state : Supervisor
recovery_state = holding None Action.Warn (Some 0) None None latest

abbrev pub recovery_run : List Pair
recovery_run = pair_of (in_flight (2 ^ 31) true) ∷ []

-- of the disarm hold: eligible, the other not
abbrev pub gate_state : Supervisor
gate_state = holding (Some (2 ^ 31 - 3000)) Action.Nominal None (Some 0) None latest

abbrev pub gate_run : List Pair
gate_run = pair_of (no_gps (2 ^ 31)) ∷ []

-- at an age of 2^32 of the stored sample: the position is valid, the other's is a jump in no time
abbrev pub stored_state : Supervisor
stored_state = holding None Action.Nominal None None far latest

abbrev pub stored_run : List Pair
stored_run = pair_of (in_flight (2 ^ 32) true) ∷ pair_of (blind (2 ^ 32 - 2)) ∷ []

-- at a gap of 2^31 between readings: sound, the other faulted
abbrev pub last_state : Supervisor
last_state = holding None Action.Nominal None None None 0

abbrev pub last_run : List Pair
last_run = pair_of (blind (2 ^ 31)) ∷ []

-- the frame of an old state, and a new state's slice
abbrev pub frame_of : Supervisor → List ℕ
frame_of x = state_frame false x

unfoldable pub slice : List ℕ
slice = replicate 306 0

-- ---- a run that meets all that is asked, while the 32-bit clock wraps

-- T is ten below 2^33; the recovery began 3990 ms earlier
abbrev pub met_state : Supervisor
met_state = holding (Some (2 ^ 32 - 4000)) Action.Warn (Some (2 ^ 32 - 4000)) (Some (2 ^ 32 - 4000)) None (2 ^ 32 - 10)

abbrev pub met_t : ℕ
met_t = 2 ^ 33 - 10

-- two steps, and between them two calls that are declined for want of telemetry
abbrev pub met_run : List Pair
met_run = pair_of (in_flight (2 ^ 33 + 1000) true) ∷ record { narrow = called []; wide = called [] } ∷ pair_of (in_flight (2 ^ 33 + 999) true) ∷ []

pub record MetInstance : Type 0 where
  -- the premises of the claim
  pub bytes : Bytes (frame_of met_state)
  pub carried_over : (widen_call (frame_of met_state) met_t slice).number ≡ 0
  pub meets : Meets HeldRecent (frame_of met_state) met_t slice met_run
  -- both show Warn until the recovery has lasted 5000 ms; the declined calls leave their outputs as they were, zeros
  pub narrow : map shown_action (narrow_outputs (frame_of met_state) met_t slice met_run) ≡ Action.Nominal ∷ Action.Nominal ∷ Action.Warn ∷ []
  pub wide : map shown_action (wide_outputs (frame_of met_state) met_t slice met_run) ≡ Action.Nominal ∷ Action.Nominal ∷ Action.Warn ∷ []
  -- so the claim holds of it
  pub both : BothClocks (frame_of met_state) met_t slice met_run
