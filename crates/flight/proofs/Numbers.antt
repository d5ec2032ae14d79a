-- The numbers of what refuses a flight are not 0. Assumes nothing.
use mathlib.Core.Path.{◌≡◌, refl}
use mathlib.Core.Bool.{false}
use lib.Dec.{eqb}
use borrow.Author.Tests.{eqb-false}
use Rattle.wire.proofs.Head.{error_number}
use Rattle.corners.specs.declared.FenceError.{FenceError}
use Rattle.corners.specs.Acceptance.{fence_error_number}
use Rattle.config.specs.declared.ConfigError.{ConfigError}
use Rattle.config.specs.Config.{config_error_number}
use Rattle.flight.specs.declared.FlightError.{FlightError}
use Rattle.flight.specs.Flight.{flight_error_number}

pub fence_number_not_0 : (e : FenceError) → eqb (fence_error_number e) 0 ≡ false
fence_number_not_0 FenceError.TooFewVertices = refl
fence_number_not_0 FenceError.TooManyVertices = refl
fence_number_not_0 FenceError.NonFinite = refl
fence_number_not_0 FenceError.OutOfEnvelope = refl
fence_number_not_0 FenceError.DuplicateVertex = refl
fence_number_not_0 FenceError.CollinearEdge = refl
fence_number_not_0 FenceError.NotConvex = refl
fence_number_not_0 FenceError.AreaTooSmall = refl
fence_number_not_0 FenceError.BadAltitudes = refl
fence_number_not_0 FenceError.NotOnceRound = refl

config_number_not_0 : (e : ConfigError) → eqb (config_error_number e) 0 ≡ false
config_number_not_0 (ConfigError.Fence e) = fence_number_not_0 e
config_number_not_0 ConfigError.HomeOutsideFence = refl
config_number_not_0 ConfigError.RtlAltOutsideFence = refl
config_number_not_0 ConfigError.NonFiniteParam = refl
config_number_not_0 ConfigError.NonPositiveSpeed = refl
config_number_not_0 ConfigError.NegativePower = refl
config_number_not_0 ConfigError.BadCellCount = refl
config_number_not_0 ConfigError.BadCapacity = refl
config_number_not_0 ConfigError.BadThresholdOrder = refl
config_number_not_0 ConfigError.DurationOutOfRange = refl

pub flight_number_not_0 : (e : FlightError) → eqb (flight_error_number e) 0 ≡ false
flight_number_not_0 (FlightError.Frame e) = error_number e
flight_number_not_0 (FlightError.Fence e) = fence_number_not_0 e
flight_number_not_0 (FlightError.Config e) = config_number_not_0 e

pub no_flight_zero : (e : FlightError) → flight_error_number e ≡ 0 → ⊥
no_flight_zero e h = eqb-false _ 0 (flight_number_not_0 e) h
