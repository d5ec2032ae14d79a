-- Document 02, L7: the marks of instants in a row are those of the state and telemetry that hold them. Assumes nothing.
use Rattle.std.specs.Prelude.{ℕ, ◌^◌, ◌<◌, ◌≡◌, List, [], ◌∷◌}
use Rattle.types.specs.declared.Telemetry.{Telemetry}
use Rattle.config.specs.declared.Config.{Config}
use Rattle.supervisor.specs.declared.Supervisor.{Supervisor}
use Rattle.instants.specs.Retimed.{Instants, Stamps, supervisor_at, telemetry_at}
use Rattle.instants.specs.Listed.{listed, unlisted, stamps_listed, stamps_unlisted}
use Rattle.marks.specs.Marks.{marks, stamp_marks, marks_of, stamp_marks_of}

-- a timer or a reading that is absent has no instant: its mark doesn't matter
pub record MarksClaim (cfg : Config) (x : Supervisor) (i : Instants) (t : Telemetry) (j : Stamps) : Type 0 where
  pub state : supervisor_at (marks_of cfg t.now_ms i) x ≡ supervisor_at (marks cfg (supervisor_at i x) t) x
  pub stamps : telemetry_at (stamp_marks_of cfg j) t ≡ telemetry_at (stamp_marks cfg (telemetry_at j t)) t

-- a row, read back
pub record BackClaim (i : Instants) (j : Stamps) : Type 0 where
  pub state : unlisted (listed i) ≡ i
  pub stamps : stamps_unlisted (stamps_listed j) ≡ j

-- each number of a row is below a bound
abbrev pub Below : ℕ → List ℕ → Type 0
Below bound [] = Unit {0}
Below bound (n ∷ l) = (n < bound) × Below bound l

-- a mark is a number of 32 bits
pub record BelowClaim (cfg : Config) (now : ℕ) (i : Instants) (j : Stamps) : Type 0 where
  pub state : Below (2 ^ 32) (listed (marks_of cfg now i))
  pub stamps : Below (2 ^ 32) (stamps_listed (stamp_marks_of cfg j))
