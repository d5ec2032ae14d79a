-- `frame_telemetry::put_option_position` meets its contract, case by case. Assumes nothing.
use Rattle.std.specs.Prelude.{Option, None}
use Prim.Native.Nat.{ℕ}
use mathlib.Core.Path.{◌≡◌, refl}
use mathlib.Core.List.{List}
use lib.ListN.{length, replicate}
use lib.Ieee.{of_bits, to_bits}
use Rattle.wire.specs.Cell.{bytes_of}
use Rattle.wire.specs.Fields.{le8, le_flag, le_bytes, le32, le_f32}
use Rattle.wire.proofs.Over.{over_present, over_absent}
use Rattle.options.specs.Position.{position_cells}
use Rattle.frame_telemetry.proofs.put_option_position.Goals as goal
use Rattle.types.specs.declared.PositionSample.{PositionSample}

abbrev bytes : Option PositionSample → List ℕ
bytes o = bytes_of (position_cells o)

wide : (o : Option PositionSample) → length (bytes o) ≡ 29
unfolding le8 le_flag le_bytes le32 le_f32
wide o = refl

none : bytes None ≡ replicate 29 0
unfolding le8 le_flag le_bytes le32 le_f32 to_bits of_bits
none = refl

pub returns-in-Some : goal.returns-in-Some
returns-in-Some c = over_present bytes 8 29 c.args.s.now wide c.put_zeros.ensures c.put_position.ensures c.in-Some.is

pub returns-in_default : goal.returns-in_default
returns-in_default c = over_absent bytes 8 29 c.args.s.now none c.put_zeros.ensures c.in_default.is
