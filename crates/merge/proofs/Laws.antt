-- The rule says what its sentences say; a merged Telemetry has each reading from one of the two; a Telemetry merged with itself is itself. Assumes nothing.
use Rattle.std.proofs.Common.{◌≡◌, ℕ, Bool, true, false, cond, ◌||◌, Option, Some, None, is_some, ◌⊎◌, inl, inr, refl, arith}
use Rattle.std.specs.Prelude.{Float}
use mathlib.Core.Bool.{and-true, and-false}
use borrow.Author.Tests.{le-ltb}
use Rattle.types.specs.declared.Telemetry.{Telemetry}
use Rattle.merge.specs.declared.Standing.{Standing}
use Rattle.validate.specs.Bounds.{position_ok, gps_ok, percent_ok, remaining_ok, keep, validate_telemetry}
use Rattle.merge.specs.Choice.{younger, second_of_two, second_taken, standing, chosen}
use Rattle.merge.specs.Merge.{always, merge_battery, merge_telemetry}
use Rattle.merge.specs.Claims.{stands, Rule, FromBoth, Merged, Keeps, Kept}

-- ---- the rule

never_younger : (x : Option ℕ) → younger x x ≡ false
never_younger None = refl
never_younger (Some n) = le-ltb n n (omega arith)

tied : (k : Bool) (x : Option ℕ) → second_taken (stands k x) (stands k x) ≡ false
unfolding second_of_two second_taken
tied true x = never_younger x
tied false x = never_younger x

of_itself : (a : Option Standing) → second_taken a a ≡ false
unfolding second_taken
of_itself None = refl
of_itself (Some s) = tied s.kept s.age

by_age_lem : (k : Bool) (x y : Option ℕ) → second_taken (stands k x) (stands k y) ≡ younger y x
unfolding second_of_two second_taken
by_age_lem true x y = refl
by_age_lem false x y = refl

pub rule : Rule
unfolding second_of_two second_taken
rule =
    record {
      absent_second = λ a. refl;
      absent_first = λ b. refl;
      dropped_second = λ x y. refl;
      dropped_first = λ x y. refl;
      younger = λ k m n. by_age_lem k (Some m) (Some n);
      ageless_second = λ k m. by_age_lem k (Some m) None;
      ageless_first = λ k n. by_age_lem k None (Some n);
      tie = of_itself;
    }

-- ---- one reading

-- what holds of both readings holds of the chosen one
cond-holds : {A : Type 0} (P : A → Type 0) (t : Bool) (a b : A) → P a → P b → P (cond t b a)
cond-holds P true a b g h = h
cond-holds P false a b g h = g

pub chosen_holds : {A : Type 0} (P : Option A → Type 0) (stamp : A → ℕ) (kept : Option A → Bool) (now : ℕ) (a b : Option A) → P a → P b → P (chosen stamp kept now a b)
unfolding chosen
chosen_holds P stamp kept now a b g h = cond-holds P (second_taken (standing stamp now a (kept a)) (standing stamp now b (kept b))) a b g h

chosen_same : {A : Type 0} (stamp : A → ℕ) (kept : Option A → Bool) (now : ℕ) (a : Option A) → chosen stamp kept now a a ≡ a
chosen_same stamp kept now a = chosen_holds (λ x. x ≡ a) stamp kept now a a refl refl

both_present : {A : Type 0} (t : Bool) (m n : A) → is_some (cond t (Some n) (Some m)) ≡ true
both_present true m n = refl
both_present false m n = refl

present : {A : Type 0} (stamp : A → ℕ) (kept : Option A → Bool) (now : ℕ) (a b : Option A) → is_some (chosen stamp kept now a b) ≡ is_some a || is_some b
unfolding chosen second_taken standing
present stamp kept now None None = refl
present stamp kept now None (Some n) = refl
present stamp kept now (Some m) None = refl
present stamp kept now (Some m) (Some n) = both_present _ m n

from_both : {A : Type 0} (stamp : A → ℕ) (kept : Option A → Bool) (now : ℕ) (a b : Option A) → FromBoth (chosen stamp kept now a b) a b
from_both stamp kept now a b =
    (chosen_holds (λ x. (x ≡ a) ⊎ (x ≡ b)) stamp kept now a b (inl refl) (inr refl), present stamp kept now a b)

-- ---- all ten

pub merged : (cap : Float) (a b : Telemetry) → Merged a b (merge_telemetry cap a b)
unfolding merge_battery merge_telemetry
merged cap a b =
    record {
      now = refl;
      position = from_both _ _ _ _ _;
      gps = from_both _ _ _ _ _;
      voltage = from_both _ _ _ _ _;
      percent = from_both _ _ _ _ _;
      remaining = from_both _ _ _ _ _;
      heartbeat = from_both _ _ _ _ _;
      armed = from_both _ _ _ _ _;
      landed = from_both _ _ _ _ _;
      rc_ok = from_both _ _ _ _ _;
      ekf_ok = from_both _ _ _ _ _;
    }

pub merged_same : (cap : Float) (t : Telemetry) → merge_telemetry cap t t ≡ t
unfolding merge_battery merge_telemetry
merged_same cap t = simp chosen_same

-- ---- what `validate_telemetry` keeps

keeps : {A : Type 0} (kept : Option A → Bool) (k : Bool) (x : Option A) → kept x ≡ k → Keeps kept x (keep (kept x) x)
keeps kept true x e = rw (e, and-true)
keeps kept false x e = rw (e, and-false)

keeps_always : {A : Type 0} (x : Option A) → Keeps always x x
keeps_always x = rw and-true

pub kept : (cap : Float) (t : Telemetry) → Kept cap t (validate_telemetry t cap).telemetry
unfolding validate_telemetry
kept cap t =
    record {
      position = keeps position_ok _ t.position refl;
      gps = keeps gps_ok _ t.gps refl;
      voltage = keeps percent_ok _ t.battery.voltage_v refl;
      percent = keeps percent_ok _ t.battery.percent refl;
      remaining = keeps (λ r. remaining_ok r cap) _ t.battery.remaining_wh refl;
      heartbeat = keeps_always t.gcs_heartbeat_ms;
      armed = keeps_always t.armed;
      landed = keeps_always t.landed;
      rc_ok = keeps_always t.rc_ok;
      ekf_ok = keeps_always t.ekf_ok;
    }
