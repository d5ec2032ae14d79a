-- `entries::check_areas` meets its contract. Assumes nothing.
use mathlib.Core.Path.{refl}
use Rattle.std.proofs.Common.{rules, ◌≡◌, length}
use Rattle.frame_areas.proofs.None.{no_byte_refused}
use Rattle.entries.proofs.check_areas.Goals as goal

pub returns-then-is_empty : goal.returns-then-is_empty
returns-then-is_empty c = let e : length c.args.areas.now ≡ 0 = search rules in rw (no_byte_refused _ e) refl
