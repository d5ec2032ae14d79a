-- The laws. Assumes nothing.
use Rattle.frame_wide_trips.specs.Claim.{StateLaws, TelemetryLaws}
use Rattle.frame_wide_trips.proofs.StateMarks.{marks_read}
use Rattle.frame_wide_trips.proofs.Written.{written}
use Rattle.frame_wide_trips.proofs.Flags.{flags_read, flags_wide, next_is}
use Rattle.frame_wide_trips.proofs.StateTrips.{size, kind, head, value_again}
use Rattle.frame_wide_trips.proofs.StateBytes.{bytes_again, typed_again}
use Rattle.frame_wide_trips.proofs.TelemetryMarks.{marks_read as telemetry_marks_read}
use Rattle.frame_wide_trips.proofs.TelemetryTrips.{written as telemetry_written, size as telemetry_size_lem, kind as telemetry_kind, head as telemetry_head, value_again as telemetry_value_again}
use Rattle.frame_wide_trips.proofs.TelemetryBytes.{bytes_again as telemetry_bytes_again, bytes_same, typed_again as telemetry_typed_again}

pub state_laws : StateLaws
state_laws =
    record {
      marks_read = marks_read;
      written = written;
      flags_read = flags_read;
      flags_wide = flags_wide;
      next_is = next_is;
      size = size;
      kind = kind;
      head = head;
      value_back = value_again;
      bytes_back = bytes_again;
      read_typed = typed_again;
    }

pub telemetry_laws : TelemetryLaws
telemetry_laws =
    record {
      marks_read = telemetry_marks_read;
      written = telemetry_written;
      size = telemetry_size_lem;
      kind = telemetry_kind;
      head = telemetry_head;
      value_back = telemetry_value_again;
      bytes_back = telemetry_bytes_again;
      bytes_same = bytes_same;
      read_typed = telemetry_typed_again;
    }
