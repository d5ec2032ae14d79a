-- Document 01, 'config': the rules of the settings, in their order. Assumes nothing.
-- "Order: cells 1 to 14; capacity; eight finite values; speeds; powers; percentages; four durations 1 to 600,000; home; h_rtl."
-- "Unchecked floats may be NaN; comparisons with NaN are false."
use Rattle.std.specs.Prelude.{ℕ, Bool, not, ◌||◌, cond, List, [], ◌∷◌, ltb, Float, Result, Ok, Err, ⊤}
use Rattle.std.specs.Float.Ieee.{lt, le}
use Rattle.types.specs.declared.Point2.{Point2}
use Rattle.float32.specs.Binary32.{zero_f}
use Rattle.float32.specs.Libm.{is_finite}
use Rattle.geometry.specs.declared.Geofence.{Geofence}
use Rattle.corners.specs.Acceptance.{fence_error_number}
use Rattle.geometry.specs.Distance.{contains, ring_of}
use Rattle.config.specs.declared.Config.{Config}
use Rattle.config.specs.declared.ConfigError.{ConfigError}

-- "ConfigError after Fence in declared order, HomeOutsideFence to DurationOutOfRange | 20 to 28"; a fence's error has its own number
abbrev pub config_error_number : ConfigError → ℕ
config_error_number (ConfigError.Fence e) = fence_error_number e
config_error_number ConfigError.HomeOutsideFence = 20
config_error_number ConfigError.RtlAltOutsideFence = 21
config_error_number ConfigError.NonFiniteParam = 22
config_error_number ConfigError.NonPositiveSpeed = 23
config_error_number ConfigError.NegativePower = 24
config_error_number ConfigError.BadCellCount = 25
config_error_number ConfigError.BadCapacity = 26
config_error_number ConfigError.BadThresholdOrder = 27
config_error_number ConfigError.DurationOutOfRange = 28

-- "cells 1 to 14"
unfoldable pub bad_cell_count : Config → Bool
bad_cell_count c = ltb c.cell_count 1 || ltb 14 c.cell_count

-- "capacity": finite and above 0
unfoldable pub bad_capacity : Config → Bool
bad_capacity c = not (is_finite c.usable_capacity_wh) || le c.usable_capacity_wh zero_f

-- "eight finite values"
unfoldable pub non_finite_param : Config → Bool
non_finite_param c =
    not (is_finite c.v_cruise) || not (is_finite c.v_climb) || not (is_finite c.v_desc)
    || not (is_finite c.p_cruise) || not (is_finite c.p_climb) || not (is_finite c.p_desc)
    || not (is_finite c.reserve_wh) || not (is_finite c.h_rtl)

-- "speeds": above 0
unfoldable pub non_positive_speed : Config → Bool
non_positive_speed c = le c.v_cruise zero_f || le c.v_climb zero_f || le c.v_desc zero_f

-- "powers", and the reserve: not below 0
unfoldable pub negative_power : Config → Bool
negative_power c = lt c.p_cruise zero_f || lt c.p_climb zero_f || lt c.p_desc zero_f || lt c.reserve_wh zero_f

-- "percentages": warn above low above critical, and each clears above where it is set
unfoldable pub bad_threshold_order : Config → Bool
bad_threshold_order c =
    le c.battery_warn_pct c.battery_low_pct || le c.battery_low_pct c.battery_critical_pct
    || le c.battery_warn_clear_pct c.battery_warn_pct || le c.battery_low_clear_pct c.battery_low_pct

-- "four durations 1 to 600,000"
unfoldable pub outside_duration : ℕ → Bool
outside_duration d = ltb d 1 || ltb 600000 d

unfoldable pub duration_out_of_range : Config → Bool
duration_out_of_range c =
    outside_duration c.recovery_hold_ms || outside_duration c.gcs_warn_ms
    || outside_duration c.disarm_hold_ms || outside_duration c.energy_infeasible_set_ms

-- "h_rtl": within the fence's altitudes
unfoldable pub rtl_alt_outside_fence : Config → Float → Float → Bool
rtl_alt_outside_fence c low high = lt c.h_rtl low || lt high c.h_rtl

-- a rule that is broken, and its error
pub record Rule : Type 0 where
  pub broken : Bool
  pub error : ConfigError

abbrev rule : Bool → ConfigError → Rule
rule b e = record { broken = b; error = e }

-- the first broken rule of a list
abbrev pub first_broken : List Rule → Result ⊤ ConfigError
first_broken [] = Ok tt
first_broken (r ∷ rs) = cond r.broken (Err r.error) (first_broken rs)

-- the rules in document 01's order, where home's place in the fence and the fence's altitudes are given
abbrev pub rules : Config → Bool → Float → Float → List Rule
rules c home_inside low high =
    rule (bad_cell_count c) ConfigError.BadCellCount ∷
    rule (bad_capacity c) ConfigError.BadCapacity ∷
    rule (non_finite_param c) ConfigError.NonFiniteParam ∷
    rule (non_positive_speed c) ConfigError.NonPositiveSpeed ∷
    rule (negative_power c) ConfigError.NegativePower ∷
    rule (bad_threshold_order c) ConfigError.BadThresholdOrder ∷
    rule (duration_out_of_range c) ConfigError.DurationOutOfRange ∷
    rule (not home_inside) ConfigError.HomeOutsideFence ∷
    rule (rtl_alt_outside_fence c low high) ConfigError.RtlAltOutsideFence ∷
    []

unfoldable pub check_config : Config → Bool → Float → Float → Result ⊤ ConfigError
check_config c home_inside low high = first_broken (rules c home_inside low high)

-- home is the origin
abbrev pub home : Point2
home = record { n = zero_f; e = zero_f }

unfoldable pub validate_config : Config → Geofence → Result ⊤ ConfigError
validate_config c f = check_config c (contains (ring_of f.poly) home) f.min_alt_m f.max_alt_m
