-- What a function that has a Decision learns of it: nineteen slots, and each float is within its type. Assumes nothing.
use Rattle.std.specs.Prelude.{Option, Some, None, Float, unwrap_or}
use mathlib.Core.List.{List}
use lib.Dec.{T}
use lib.Ieee.{binary32, fits, of_bits}
use lib.Ieee.Bits.{of_bits-fits}
use mir.Val.{Val}
use denote.Builtin.{f32}
use denote.Shadow.{shadow}
use denote.Floats.{passes}
use Rattle.types.specs.declared.Decision.{Decision}
use Rattle.std.specs.contracts.option.Option.{the_field as option_field, the_type as option_type}
use Rattle.types.specs.contracts.Decision.{the_field as decision_field, the_type as decision_type}
use Rattle.frame_decision.specs.DecisionFrame.{Typed}

option_f32 : (o : Option Float) (v : List Val) → shadow ((option_field f32).row.own_val ((option_type f32).to o) v) → T (fits binary32 (unwrap_or o (of_bits binary32 0)))
option_f32 None v h = of_bits-fits binary32 0
option_f32 (Some x) v h = passes _ h.1.1.1.1.0.1

pub owned_typed : (d : Decision) (v : List Val) → shadow (decision_field.row.own_val (decision_type.to d) v) → Typed d
owned_typed d v h =
    let g = h.1.1.1.1.1 in
    let e = g.1.1.1.0.1.1 in
    record {
      nineteen = g.0.1.1.0.1.0.1;
      rtl = passes _ e.0.1;
      land = passes _ e.1.0.1;
      reserve = passes _ e.1.1.0.1;
      remaining = option_f32 d.energy.remaining_wh _ e.1.1.1.0;
      margin = option_f32 d.energy.margin_wh _ e.1.1.1.1.0;
      fence = option_f32 d.fence_dist_m _ g.1.1.1.1.0;
    }
