-- What a state frame asks of a state. Assumes nothing.
-- Document 01, 'When a call declines', refusal 4: "in state also gcs_stage above 3, backwards_streak above 2, a number of the stored position or velocity not finite".
use Rattle.std.specs.Prelude.{◌≤◌, Bool, true, ◌&&◌, ◌≡◌, Option, Some, None}
use Rattle.float32.specs.Libm.{is_finite}
use Rattle.types.specs.declared.Vec3.{Vec3}
use Rattle.triggers.specs.Update.{kept_raised}
use Rattle.supervisor.specs.declared.Supervisor.{Supervisor}
use Rattle.types.specs.declared.PositionSample.{PositionSample}

abbrev pub finite_vec : Vec3 → Bool
finite_vec v = is_finite v.n && is_finite v.e && is_finite v.d

-- an absent sample has no number that is not finite
abbrev pub finite_stored : Option PositionSample → Bool
finite_stored None = true
finite_stored (Some p) = finite_vec p.pos && finite_vec p.vel

pub record Rules (s : Supervisor) : Type 0 where
  pub stage : s.triggers.gcs_stage ≤ 3
  pub streak : s.backwards_streak ≤ 2
  pub stored : finite_stored s.glitch.last_accepted ≡ true

-- what is raised fits a frame of the configuration's kind: a kind 12 holds it, a kind 5 has no place for it
abbrev pub RaisedFits : Bool → Supervisor → Type 0
RaisedFits keeps s = kept_raised keeps s.triggers.raised ≡ s.triggers.raised
