-- What L10 says of the rule and of the merged Telemetry, as statements of their own. Assumes nothing.
use Rattle.std.specs.Prelude.{ℕ, ◌≡◌, Bool, true, false, ◌&&◌, ◌||◌, ◌⊎◌, nat_lt, Float, Option, Some, None, is_some}
use Rattle.types.specs.declared.Telemetry.{Telemetry}
use Rattle.validate.specs.Bounds.{position_ok, gps_ok, percent_ok, remaining_ok}
use Rattle.merge.specs.declared.Standing.{Standing}
use Rattle.merge.specs.Choice.{second_taken}
use Rattle.merge.specs.Merge.{always}

abbrev pub stands : Bool → Option ℕ → Option Standing
stands kept age = Some (record { kept = kept; age = age })

-- the sentences of the rule, one by one
pub record Rule : Type 0 where
  -- "a present one beats an absent one"
  pub absent_second : (a : Option Standing) → second_taken a None ≡ false
  pub absent_first : (b : Standing) → second_taken None (Some b) ≡ true
  -- one that is dropped "loses to one it would keep, before age is looked at"
  pub dropped_second : (x y : Option ℕ) → second_taken (stands true x) (stands false y) ≡ false
  pub dropped_first : (x y : Option ℕ) → second_taken (stands false x) (stands true y) ≡ true
  -- "of two the younger wins"
  pub younger : (k : Bool) (m n : ℕ) → second_taken (stands k (Some m)) (stands k (Some n)) ≡ nat_lt n m
  -- "one with an age beats one without"
  pub ageless_second : (k : Bool) (m : ℕ) → second_taken (stands k (Some m)) (stands k None) ≡ false
  pub ageless_first : (k : Bool) (n : ℕ) → second_taken (stands k None) (stands k (Some n)) ≡ true
  -- "At a tie the first radio's reading is taken."
  pub tie : (a : Option Standing) → second_taken a a ≡ false

-- a merged reading is the first radio's or the second's, and is present where one of theirs is
abbrev pub FromBoth : {A : Type 0} → Option A → Option A → Option A → Type 0
FromBoth r a b = ((r ≡ a) ⊎ (r ≡ b)) × (is_some r ≡ is_some a || is_some b)

-- "The merged frame holds no reading that neither had .. What isn't optional is the first radio's."
pub record Merged (a b m : Telemetry) : Type 0 where
  pub now : m.now_ms ≡ a.now_ms
  pub position : FromBoth m.position a.position b.position
  pub gps : FromBoth m.gps a.gps b.gps
  pub voltage : FromBoth m.battery.voltage_v a.battery.voltage_v b.battery.voltage_v
  pub percent : FromBoth m.battery.percent a.battery.percent b.battery.percent
  pub remaining : FromBoth m.battery.remaining_wh a.battery.remaining_wh b.battery.remaining_wh
  pub heartbeat : FromBoth m.gcs_heartbeat_ms a.gcs_heartbeat_ms b.gcs_heartbeat_ms
  pub armed : FromBoth m.armed a.armed b.armed
  pub landed : FromBoth m.landed a.landed b.landed
  pub rc_ok : FromBoth m.rc_ok a.rc_ok b.rc_ok
  pub ekf_ok : FromBoth m.ekf_ok a.ekf_ok b.ekf_ok

-- a reading is there after `validate_telemetry` where it was there and is kept
abbrev pub Keeps : {A : Type 0} → (Option A → Bool) → Option A → Option A → Type 0
Keeps kept sent valid = is_some valid ≡ is_some sent && kept sent

-- "A reading that `validate_telemetry` would drop", of a Telemetry t of which v is left
pub record Kept (cap : Float) (t v : Telemetry) : Type 0 where
  pub position : Keeps position_ok t.position v.position
  pub gps : Keeps gps_ok t.gps v.gps
  pub voltage : Keeps percent_ok t.battery.voltage_v v.battery.voltage_v
  pub percent : Keeps percent_ok t.battery.percent v.battery.percent
  pub remaining : Keeps (λ r. remaining_ok r cap) t.battery.remaining_wh v.battery.remaining_wh
  pub heartbeat : Keeps always t.gcs_heartbeat_ms v.gcs_heartbeat_ms
  pub armed : Keeps always t.armed v.armed
  pub landed : Keeps always t.landed v.landed
  pub rc_ok : Keeps always t.rc_ok v.rc_ok
  pub ekf_ok : Keeps always t.ekf_ok v.ekf_ok
