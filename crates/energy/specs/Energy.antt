-- Document 01, 'energy': "Float operations in the Rust's order. Altitude is −d, so d = +0 gives −0." Assumes nothing.
use Rattle.std.specs.Prelude.{Bool, false, Float, Option, Some, None}
use Rattle.std.specs.Float.{binary32}
use Rattle.std.specs.Float.Ieee.{lt, of_bits}
use Rattle.float32.specs.Binary32.{add_f, sub_f, mul_f, div_f, zero_f}
use Rattle.float32.specs.Libm.{fmax}
use Rattle.types.specs.declared.Vec3.{Vec3}
use Rattle.types.specs.declared.EnergyEstimate.{EnergyEstimate}
use Rattle.types.specs.Vec3.{alt_m, horizontal_dist_home}
use Rattle.config.specs.declared.Config.{Config}

-- 3600, the joules of a watt-hour (proofs/Constants.antt)
abbrev pub joules_per_wh : Float
joules_per_wh = of_bits binary32 0x4561_0000

-- climb to h_rtl, cruise home with the wind's factor, descend
unfoldable pub rtl_wh : Config → Float → Float → Float
rtl_wh cfg d h =
    let climb_m = fmax zero_f (sub_f cfg.h_rtl h) in
    let climb_j = mul_f (div_f climb_m cfg.v_climb) cfg.p_climb in
    let cruise_j = mul_f (mul_f (div_f d cfg.v_cruise) cfg.p_cruise) cfg.k_wind in
    let descent_m = fmax h cfg.h_rtl in
    let desc_j = mul_f (div_f descent_m cfg.v_desc) cfg.p_desc in
    div_f (add_f (add_f climb_j cruise_j) desc_j) joules_per_wh

-- descend from where it is
unfoldable pub land_wh : Config → Float → Float
land_wh cfg h = div_f (mul_f (div_f h cfg.v_desc) cfg.p_desc) joules_per_wh

-- what is left after the return and the reserve
abbrev pub margin_of : Option Float → Float → Float → Option Float
margin_of None rtl reserve = None
margin_of (Some r) rtl reserve = Some (sub_f (sub_f r rtl) reserve)

abbrev pub insufficient_of : Option Float → Float → Bool
insufficient_of None land = false
insufficient_of (Some r) land = lt r land

-- at the horizontal distance d and the height h
unfoldable pub rtl_energy_at : Config → Float → Float → Option Float → EnergyEstimate
rtl_energy_at cfg d h remaining =
    let rtl = rtl_wh cfg d h in
    let land = land_wh cfg h in
    record {
      rtl_wh = rtl;
      land_wh = land;
      reserve_wh = cfg.reserve_wh;
      remaining_wh = remaining;
      margin_wh = margin_of remaining rtl cfg.reserve_wh;
      insufficient_for_landing = insufficient_of remaining land;
    }

unfoldable pub rtl_energy : Config → Vec3 → Option Float → EnergyEstimate
rtl_energy cfg pos remaining = rtl_energy_at cfg (horizontal_dist_home pos) (alt_m pos) remaining
