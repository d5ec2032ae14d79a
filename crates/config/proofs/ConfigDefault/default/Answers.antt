-- `Config::default` meets its contract. Assumes nothing.
use mathlib.Core.Path.{refl}
use lib.Ieee.{of_bits, round}
use Rattle.config.specs.Default.{default_config}
use Rattle.config.proofs.ConfigDefault.default.Goals as goal

pub returns : goal.returns
unfolding default_config of_bits round
returns c = refl
