-- Document 02, L7 on the 32-bit code: a step on the clock that doesn't wrap is the 32-bit step at a reading of 65,536, on marks of how each test came out.
-- Assumes nothing. Nothing is asked of the numbers.
use Rattle.std.specs.Prelude.{◌≡◌}
use Rattle.types.specs.declared.Telemetry.{Telemetry}
use Rattle.time.specs.Time.{plain}
use Rattle.config.specs.declared.Config.{Config}
use Rattle.triggers.specs.Families.{gcs_age}
use Rattle.supervisor.specs.declared.Supervisor.{Supervisor}
use Rattle.supervisor.specs.Settings.{Site, base_settings, fed_at}
use Rattle.supervisor.specs.Step.{step}
use Rattle.instants.specs.Retimed.{instead, Instants, supervisor_at, stepped_at, Stamps, telemetry_at, instants_after}
use Rattle.instants.specs.Own.{instants_of, stamps_of}
use Rattle.marks.specs.Marks.{marks, stamp_marks, marked_by, marked_config, marks_of, stamp_marks_of}
use Rattle.alike.specs.Alike.{settings}

-- what the marked step answers, with each instant its own, the reading, or gone
abbrev pub MarkedClaim : Type 0
MarkedClaim =
    (cfg : Config) (site : Site) (s : Supervisor) (t : Telemetry)
    → let r = step (base_settings (marked_config cfg t)) (supervisor_at (marks cfg s t) s) (fed_at site (telemetry_at (stamp_marks cfg t) t)) in
    step (settings plain cfg) s (fed_at site t) ≡ stepped_at (instants_after (instants_of s) (stamps_of t) s r) r

-- the same from instants that are given beside a state and telemetry, whose own don't matter
abbrev pub RowsClaim : Type 0
RowsClaim =
    (cfg : Config) (site : Site) (y : Supervisor) (i : Instants) (u : Telemetry) (j : Stamps)
    → let r = step (base_settings (marked_by cfg (gcs_age plain j.now (instead j.heartbeat u.gcs_heartbeat_ms)))) (supervisor_at (marks_of cfg j.now i) y) (fed_at site (telemetry_at (stamp_marks_of cfg j) u)) in
    step (settings plain cfg) (supervisor_at i y) (fed_at site (telemetry_at j u)) ≡ stepped_at (instants_after i j y r) r
