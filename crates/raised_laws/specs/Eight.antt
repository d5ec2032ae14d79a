-- Document 02, L11: "GpsDegraded, GpsLost, EkfUnhealthy, FenceBreach, AltitudeMin, BatteryWarn, BatteryLow and EnergyRtlMarginal". Assumes nothing.
use Rattle.std.specs.Prelude.{Bool}
use Rattle.timers.specs.declared.PairHeld.{PairHeld}
use Rattle.triggers.specs.declared.Raised.{Raised}
use Rattle.triggers.specs.declared.Families.{Families}

pub data Kept : Type 0 where
  GpsDegraded : Kept
  GpsLost : Kept
  EkfUnhealthy : Kept
  FenceBreach : Kept
  AltitudeMin : Kept
  BatteryWarn : Kept
  BatteryLow : Kept
  EnergyRtlMarginal : Kept

-- its pair of timers
abbrev pub pair_of : Kept → Families → PairHeld
pair_of GpsDegraded f = f.gps.degraded
pair_of GpsLost f = f.gps.lost
pair_of EkfUnhealthy f = f.ekf
pair_of FenceBreach f = f.fence.breach
pair_of AltitudeMin f = f.fence.alt_min
pair_of BatteryWarn f = f.battery.warn
pair_of BatteryLow f = f.battery.low
pair_of EnergyRtlMarginal f = f.energy.marginal

-- whether it is raised
abbrev pub flag_of : Kept → Raised → Bool
flag_of GpsDegraded r = r.gps_degraded
flag_of GpsLost r = r.gps_lost
flag_of EkfUnhealthy r = r.ekf_unhealthy
flag_of FenceBreach r = r.fence_breach
flag_of AltitudeMin r = r.altitude_min
flag_of BatteryWarn r = r.battery_warn
flag_of BatteryLow r = r.battery_low
flag_of EnergyRtlMarginal r = r.energy_rtl_marginal
