-- `frame_telemetry::put_gps` meets its contract, case by case. Assumes nothing.
use Rattle.std.specs.Prelude.{Option, None}
use Prim.Native.Nat.{ℕ}
use mathlib.Core.Path.{◌≡◌, refl}
use mathlib.Core.List.{List}
use lib.ListN.{length, replicate}
use lib.Ieee.{of_bits, to_bits}
use Rattle.wire.specs.Cell.{bytes_of}
use Rattle.wire.specs.Fields.{le8, le_flag, le_bytes, le32, le_f32}
use Rattle.wire.proofs.Over.{over_present, over_absent}
use Rattle.frame_telemetry.specs.Readings.{gps_cells}
use Rattle.wire.proofs.Laid.{zeroed}
use Rattle.frame_telemetry.proofs.put_gps.Goals as goal
use Rattle.types.specs.declared.GpsSample.{GpsSample}

abbrev bytes : Option GpsSample → List ℕ
bytes o = bytes_of (gps_cells o)

wide : (o : Option GpsSample) → length (bytes o) ≡ 13
unfolding le8 le_flag le_bytes le32 le_f32
wide o = refl

none : bytes None ≡ replicate 13 0
unfolding le8 le_flag le_bytes le32 le_f32 to_bits of_bits
none = refl

pub put_sample-requires : goal.put_sample-requires
put_sample-requires c = zeroed c.args.s.now 37 13 c.put_zeros.ensures

pub returns-in-Some : goal.returns-in-Some
returns-in-Some c = over_present bytes 37 13 c.args.s.now wide c.put_zeros.ensures c.put_sample.ensures c.in-Some.is

pub returns-in_default : goal.returns-in_default
returns-in_default c = over_absent bytes 37 13 c.args.s.now none c.put_zeros.ensures c.in_default.is
