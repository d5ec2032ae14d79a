-- What a run keeps, and what one step is fed. Assumes nothing.
use Rattle.std.specs.Prelude.{ℕ, List, Float}
use Rattle.types.specs.declared.Point2.{Point2}
use Rattle.types.specs.declared.Telemetry.{Telemetry}
use Rattle.time.specs.Time.{Clock, wrapping}
use Rattle.geometry.specs.declared.Geofence.{Geofence}
use Rattle.geometry.specs.declared.SideLengths.{SideLengths}
use Rattle.geometry.specs.declared.FenceDistance.{FenceDistance}
use Rattle.geometry.specs.Distance.{ring_of, nearest, nearest_by}
use Rattle.config.specs.declared.Config.{Config}
use Rattle.frame_areas.specs.AreasFrame.{clearance_at}

-- what a run keeps: the clock that its instants are read on, and its one accepted configuration
pub record Settings : Type 0 where
  pub clock : Clock
  pub cfg : Config

-- document 01's flights are on the clock that wraps
abbrev pub base_settings : Config → Settings
base_settings cfg = record { clock = wrapping; cfg = cfg }

-- where a step flies: the distance from the bounds at a point with the side that gives it, and the altitudes to keep
pub record Site : Type 0 where
  pub near : Point2 → FenceDistance
  pub min_alt : Float
  pub max_alt : Float

-- a fence alone
abbrev pub fence_site : Geofence → Site
fence_site f = record { near = nearest (ring_of f.poly); min_alt = f.min_alt_m; max_alt = f.max_alt_m }

-- the same, by lengths of its sides that were worked out before
abbrev pub fence_site_by : Geofence → SideLengths → Site
fence_site_by f lengths = record { near = nearest_by (ring_of f.poly) lengths.m; min_alt = f.min_alt_m; max_alt = f.max_alt_m }

-- document 02, L3: "Every trigger and the reported distance use clearance", with the keep-out areas of a frame; the altitudes are the fence's alone
abbrev pub with_areas : List ℕ → Site → Site
with_areas areas site = record { near = λ p. clearance_at areas (site.near p) p; min_alt = site.min_alt; max_alt = site.max_alt }

-- "all it was fed but the state"
pub record Fed : Type 0 where
  pub telemetry : Telemetry
  pub site : Site

abbrev pub fed_at : Site → Telemetry → Fed
fed_at site t = record { telemetry = t; site = site }
