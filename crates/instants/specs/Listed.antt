-- The instants of a state and of telemetry in a row, in the order of their frames. Assumes nothing.
use Rattle.std.specs.Prelude.{ℕ, List, [], ◌∷◌, get_or}
use Rattle.instants.specs.Retimed.{TimerName, gcs_clear, rc_clear, gps_deg_set, gps_deg_clear, gps_lost_set, gps_lost_clear, ekf_set, ekf_clear, breach_set, breach_clear, alt_max_set, alt_max_clear, alt_min_set, alt_min_clear, stale_clear, warn_set, warn_clear, low_set, low_clear, crit_set, marg_set, marg_clear, infeas_set, invalid_clear, rc_set, Instants, Stamps}

-- a timer's place among the instants of a state's frame: as in the Rust, rc_lost_set last
abbrev pub timer_place : TimerName → ℕ
timer_place gcs_clear = 0
timer_place rc_clear = 1
timer_place gps_deg_set = 2
timer_place gps_deg_clear = 3
timer_place gps_lost_set = 4
timer_place gps_lost_clear = 5
timer_place ekf_set = 6
timer_place ekf_clear = 7
timer_place breach_set = 8
timer_place breach_clear = 9
timer_place alt_max_set = 10
timer_place alt_max_clear = 11
timer_place alt_min_set = 12
timer_place alt_min_clear = 13
timer_place stale_clear = 14
timer_place warn_set = 15
timer_place warn_clear = 16
timer_place low_set = 17
timer_place low_clear = 18
timer_place crit_set = 19
timer_place marg_set = 20
timer_place marg_clear = 21
timer_place infeas_set = 22
timer_place invalid_clear = 23
timer_place rc_set = 24

-- the instants of a state in the order of the frame, and back
unfoldable pub listed : Instants → List ℕ
listed i =
    i.timer gcs_clear ∷
    i.timer rc_clear ∷
    i.timer gps_deg_set ∷
    i.timer gps_deg_clear ∷
    i.timer gps_lost_set ∷
    i.timer gps_lost_clear ∷
    i.timer ekf_set ∷
    i.timer ekf_clear ∷
    i.timer breach_set ∷
    i.timer breach_clear ∷
    i.timer alt_max_set ∷
    i.timer alt_max_clear ∷
    i.timer alt_min_set ∷
    i.timer alt_min_clear ∷
    i.timer stale_clear ∷
    i.timer warn_set ∷
    i.timer warn_clear ∷
    i.timer low_set ∷
    i.timer low_clear ∷
    i.timer crit_set ∷
    i.timer marg_set ∷
    i.timer marg_clear ∷
    i.timer infeas_set ∷
    i.timer invalid_clear ∷
    i.timer rc_set ∷
    i.recovery ∷
    i.gate ∷
    i.stored ∷
    i.last ∷
    i.epoch ∷
    []

unfoldable pub unlisted : List ℕ → Instants
unlisted l =
    record {
      timer = λ n. get_or l (timer_place n) 0;
      recovery = get_or l 25 0;
      gate = get_or l 26 0;
      stored = get_or l 27 0;
      last = get_or l 28 0;
      epoch = get_or l 29 0;
    }

-- the stamps of telemetry in the order of the frame, and back
unfoldable pub stamps_listed : Stamps → List ℕ
stamps_listed j =
    j.now ∷ j.position ∷ j.gps ∷ j.voltage ∷ j.percent ∷ j.remaining ∷ j.heartbeat ∷ j.armed ∷ j.landed ∷ j.rc ∷ j.ekf ∷ []

unfoldable pub stamps_unlisted : List ℕ → Stamps
stamps_unlisted l =
    record {
      now = get_or l 0 0;
      position = get_or l 1 0;
      gps = get_or l 2 0;
      voltage = get_or l 3 0;
      percent = get_or l 4 0;
      remaining = get_or l 5 0;
      heartbeat = get_or l 6 0;
      armed = get_or l 7 0;
      landed = get_or l 8 0;
      rc = get_or l 9 0;
      ekf = get_or l 10 0;
    }
