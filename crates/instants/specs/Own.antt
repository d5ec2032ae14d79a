-- Document 02, L7: the instants that a state holds, and the stamps that telemetry has. Assumes nothing.
use Rattle.std.specs.Prelude.{ℕ, Option, Some, None, Float, Bool}
use Rattle.types.specs.declared.Telemetry.{Telemetry}
use Rattle.timers.specs.Timer.{since_or}
use Rattle.supervisor.specs.declared.Supervisor.{Supervisor}
use Rattle.instants.specs.Retimed.{timer_of, Instants, Stamps}
use Rattle.types.specs.declared.Stamped.{Stamped}
use Rattle.types.specs.declared.LandedState.{LandedState}
use Rattle.types.specs.declared.PositionSample.{PositionSample}
use Rattle.types.specs.declared.GpsSample.{GpsSample}

-- ---- the stamp of a reading that may be absent

abbrev pub position_stamp : Option PositionSample → Option ℕ
position_stamp None = None
position_stamp (Some p) = Some p.t_ms

abbrev pub gps_stamp : Option GpsSample → Option ℕ
gps_stamp None = None
gps_stamp (Some g) = Some g.t_ms

abbrev pub value_stamp : Option (Stamped Float) → Option ℕ
value_stamp None = None
value_stamp (Some r) = Some r.t_ms

abbrev pub flag_stamp : Option (Stamped Bool) → Option ℕ
flag_stamp None = None
flag_stamp (Some r) = Some r.t_ms

abbrev pub landed_stamp : Option (Stamped LandedState) → Option ℕ
landed_stamp None = None
landed_stamp (Some r) = Some r.t_ms

-- ---- all of them

-- 0 for one that is not there
abbrev pub own : Option ℕ → ℕ
own o = since_or o 0

-- of a state
unfoldable pub instants_of : Supervisor → Instants
instants_of s =
    record {
      timer = λ n. own (timer_of s.triggers n).since_ms;
      recovery = own s.arbiter.recovery_since_ms;
      gate = own s.disarm.hold_since_ms;
      stored = own (position_stamp s.glitch.last_accepted);
      last = own s.last_now;
      epoch = s.epoch_start;
    }

-- of telemetry
unfoldable pub stamps_of : Telemetry → Stamps
stamps_of t =
    record {
      now = t.now_ms;
      position = own (position_stamp t.position);
      gps = own (gps_stamp t.gps);
      voltage = own (value_stamp t.battery.voltage_v);
      percent = own (value_stamp t.battery.percent);
      remaining = own (value_stamp t.battery.remaining_wh);
      heartbeat = own t.gcs_heartbeat_ms;
      armed = own (flag_stamp t.armed);
      landed = own (landed_stamp t.landed);
      rc = own (flag_stamp t.rc_ok);
      ekf = own (flag_stamp t.ekf_ok);
    }
