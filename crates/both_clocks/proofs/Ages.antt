-- Telemetry without its upper halves, and the ages of what is read and held. Assumes nothing.
use Rattle.std.specs.Prelude.{Option, Some, None, Float, Bool}
use Prim.Native.Nat.{ℕ, ◌%◌, ◌^◌}
use mathlib.Core.Path.{◌≡◌, refl, sym, subst, ◌∙◌}
use Rattle.types.specs.declared.Telemetry.{Telemetry}
use Rattle.timers.specs.declared.Timer.{Timer}
use Rattle.supervisor.specs.declared.Supervisor.{Supervisor}
use Rattle.instants.specs.Retimed.{instead, timer_of, position_at, Instants, supervisor_at, Stamps, gps_at, value_at, flag_at, landed_at, telemetry_at}
use Rattle.instants.specs.Own.{own, position_stamp, gps_stamp, value_stamp, flag_stamp, landed_stamp, stamps_of}
use Rattle.alike.specs.Both.{LowHalf, Young, OfState, OfRead}
use Rattle.alike.proofs.Own.{own_read, timer_at_lem}
use Rattle.both_clocks.specs.Claim.{low_stamps, without_upper, Recent, ReadRecent, HeldRecent}
use Rattle.types.specs.declared.Stamped.{Stamped}
use Rattle.types.specs.declared.LandedState.{LandedState}
use Rattle.types.specs.declared.PositionSample.{PositionSample}
use Rattle.types.specs.declared.GpsSample.{GpsSample}

-- ---- a reading at another stamp: the stamp, and the reading at a third

position_stamp_lem : (k : ℕ) (o : Option PositionSample) → position_stamp (position_at k o) ≡ instead k (position_stamp o)
position_stamp_lem k None = refl
position_stamp_lem k (Some p) = refl

gps_stamp_lem : (k : ℕ) (o : Option GpsSample) → gps_stamp (gps_at k o) ≡ instead k (gps_stamp o)
gps_stamp_lem k None = refl
gps_stamp_lem k (Some g) = refl

value_stamp_lem : (k : ℕ) (o : Option (Stamped Float)) → value_stamp (value_at k o) ≡ instead k (value_stamp o)
value_stamp_lem k None = refl
value_stamp_lem k (Some r) = refl

flag_stamp_lem : (k : ℕ) (o : Option (Stamped Bool)) → flag_stamp (flag_at k o) ≡ instead k (flag_stamp o)
flag_stamp_lem k None = refl
flag_stamp_lem k (Some r) = refl

landed_stamp_lem : (k : ℕ) (o : Option (Stamped LandedState)) → landed_stamp (landed_at k o) ≡ instead k (landed_stamp o)
landed_stamp_lem k None = refl
landed_stamp_lem k (Some r) = refl

instead_again : (j k : ℕ) (o : Option ℕ) → instead j (instead k o) ≡ instead j o
instead_again j k None = refl
instead_again j k (Some x) = refl

position_again : (j k : ℕ) (o : Option PositionSample) → position_at j (position_at k o) ≡ position_at j o
position_again j k None = refl
position_again j k (Some p) = refl

gps_again : (j k : ℕ) (o : Option GpsSample) → gps_at j (gps_at k o) ≡ gps_at j o
gps_again j k None = refl
gps_again j k (Some g) = refl

value_again : (j k : ℕ) (o : Option (Stamped Float)) → value_at j (value_at k o) ≡ value_at j o
value_again j k None = refl
value_again j k (Some r) = refl

flag_again : (j k : ℕ) (o : Option (Stamped Bool)) → flag_at j (flag_at k o) ≡ flag_at j o
flag_again j k None = refl
flag_again j k (Some r) = refl

landed_again : (j k : ℕ) (o : Option (Stamped LandedState)) → landed_at j (landed_at k o) ≡ landed_at j o
landed_again j k None = refl
landed_again j k (Some r) = refl

read_again : (j k : Stamps) (t : Telemetry) → telemetry_at j (telemetry_at k t) ≡ telemetry_at j t
unfolding telemetry_at
read_again j k t =
    λ i. record {
      now_ms = j.now;
      position = position_again j.position k.position t.position i;
      gps = gps_again j.gps k.gps t.gps i;
      battery =
          record {
            voltage_v = value_again j.voltage k.voltage t.battery.voltage_v i;
            percent = value_again j.percent k.percent t.battery.percent i;
            remaining_wh = value_again j.remaining k.remaining t.battery.remaining_wh i;
          };
      gcs_heartbeat_ms = instead_again j.heartbeat k.heartbeat t.gcs_heartbeat_ms i;
      armed = flag_again j.armed k.armed t.armed i;
      landed = landed_again j.landed k.landed t.landed i;
      rc_ok = flag_again j.rc k.rc t.rc_ok i;
      ekf_ok = flag_again j.ekf k.ekf t.ekf_ok i;
    }

-- with its own stamps it is the whole again
pub upper_back : (t : Telemetry) → telemetry_at (stamps_of t) (without_upper t) ≡ t
upper_back t = read_again (stamps_of t) (low_stamps (stamps_of t)) t ∙ own_read t

-- ---- low halves and ages, of an instant

low_own : (o : Option ℕ) → LowHalf (own o) (instead (own o % 2 ^ 32) o)
low_own None = tt
low_own (Some x) = refl

young_own : (now k : ℕ) (o : Option ℕ) → Recent now o → Young now (own o) (instead k o)
young_own now k None h = tt
young_own now k (Some x) h = h

young_held : (now x : ℕ) (o : Option ℕ) → Recent now (instead x o) → Young now x o
young_held now x None h = tt
young_held now x (Some y) h = h

-- ---- of all that is read

-- what holds of each stamp beside its low half, from what holds of the stamp
module _ (P : ℕ → Option ℕ → Type 0) (Q : Option ℕ → Type 0) (each : (o : Option ℕ) → Q o → P (own o) (instead (own o % 2 ^ 32) o)) (t : Telemetry) where
  of_read : Q (position_stamp t.position) → Q (gps_stamp t.gps) → Q (value_stamp t.battery.voltage_v) → Q (value_stamp t.battery.percent) → Q (value_stamp t.battery.remaining_wh) → Q t.gcs_heartbeat_ms → Q (flag_stamp t.armed) → Q (landed_stamp t.landed) → Q (flag_stamp t.rc_ok) → Q (flag_stamp t.ekf_ok) → OfRead P (without_upper t) (stamps_of t)
  unfolding telemetry_at stamps_of low_stamps
  of_read p g v c w h a l r e =
      record {
        position = subst (P (own (position_stamp t.position))) (sym (position_stamp_lem _ t.position)) (each (position_stamp t.position) p);
        gps = subst (P (own (gps_stamp t.gps))) (sym (gps_stamp_lem _ t.gps)) (each (gps_stamp t.gps) g);
        voltage = subst (P (own (value_stamp t.battery.voltage_v))) (sym (value_stamp_lem _ t.battery.voltage_v)) (each (value_stamp t.battery.voltage_v) v);
        percent = subst (P (own (value_stamp t.battery.percent))) (sym (value_stamp_lem _ t.battery.percent)) (each (value_stamp t.battery.percent) c);
        remaining = subst (P (own (value_stamp t.battery.remaining_wh))) (sym (value_stamp_lem _ t.battery.remaining_wh)) (each (value_stamp t.battery.remaining_wh) w);
        heartbeat = each t.gcs_heartbeat_ms h;
        armed = subst (P (own (flag_stamp t.armed))) (sym (flag_stamp_lem _ t.armed)) (each (flag_stamp t.armed) a);
        landed = subst (P (own (landed_stamp t.landed))) (sym (landed_stamp_lem _ t.landed)) (each (landed_stamp t.landed) l);
        rc = subst (P (own (flag_stamp t.rc_ok))) (sym (flag_stamp_lem _ t.rc_ok)) (each (flag_stamp t.rc_ok) r);
        ekf = subst (P (own (flag_stamp t.ekf_ok))) (sym (flag_stamp_lem _ t.ekf_ok)) (each (flag_stamp t.ekf_ok) e);
      }

pub low_reading : (t : Telemetry) → (stamps_of t).now % 2 ^ 32 ≡ (without_upper t).now_ms
unfolding telemetry_at stamps_of low_stamps
low_reading t = refl

pub low_read : (t : Telemetry) → OfRead LowHalf (without_upper t) (stamps_of t)
low_read t = of_read LowHalf (λ o. Unit {0}) (λ o h. low_own o) t tt tt tt tt tt tt tt tt tt tt

pub young_read : (t : Telemetry) → ReadRecent t → OfRead (Young (stamps_of t).now) (without_upper t) (stamps_of t)
unfolding stamps_of
young_read t h =
    of_read (Young t.now_ms) (Recent t.now_ms) (λ o r. young_own t.now_ms (own o % 2 ^ 32) o r) t
    h.position h.gps h.voltage h.percent h.remaining h.heartbeat h.armed h.landed h.rc h.ekf

-- ---- of all that is held

pub young_state : (now : ℕ) (s : Supervisor) (i : Instants) → HeldRecent now (supervisor_at i s) → OfState (Young now) s i
unfolding supervisor_at
young_state now s i h =
    record {
      timer = λ n. young_held now (i.timer n) (timer_of s.triggers n).since_ms (subst (λ (t : Timer). Recent now t.since_ms) (timer_at_lem i.timer s.triggers n) (h.timer n));
      recovery = young_held now i.recovery s.arbiter.recovery_since_ms h.recovery;
      gate = young_held now i.gate s.disarm.hold_since_ms h.gate;
      stored = young_held now i.stored (position_stamp s.glitch.last_accepted) (subst (Recent now) (position_stamp_lem i.stored s.glitch.last_accepted) h.stored);
      last = young_held now i.last s.last_now h.last;
    }
