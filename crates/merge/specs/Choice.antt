-- Document 02, L10: which of two radios' readings is taken. One rule over whether a reading is present, and then whether it is kept and its age. Assumes nothing.
use Rattle.std.specs.Prelude.{◌≡◌, ℕ, Bool, true, false, cond, ◌&&◌, ◌||◌, nat_lt, Option, Some, None, option_map}
use Rattle.time.specs.Time.{wrapping, age}
use Rattle.merge.specs.declared.Standing.{Standing}

-- "of two the younger wins; one with an age beats one without": the first of these two ages wins over the second
abbrev pub younger : Option ℕ → Option ℕ → Bool
younger None y = false
younger (Some x) None = true
younger (Some x) (Some y) = nat_lt x y

-- of two that are present: "A reading that `validate_telemetry` would drop .. loses to one it would keep, before age is looked at." "At a tie the
-- first radio's reading is taken."
unfoldable pub second_of_two : Standing → Standing → Bool
second_of_two a b = let wins = younger b.age a.age in cond a.kept (b.kept && wins) (b.kept || wins)

-- "For each optional reading a present one beats an absent one": whether the second radio's reading is taken
unfoldable pub second_taken : Option Standing → Option Standing → Bool
second_taken a None = false
second_taken None (Some second) = true
second_taken (Some first) (Some second) = second_of_two first second

-- the standing at `now` of a reading, by its stamp, and whether `validate_telemetry` keeps it
unfoldable pub standing : {A : Type 0} → (A → ℕ) → ℕ → Option A → Bool → Option Standing
standing stamp now x kept = option_map (λ r. record { kept = kept; age = age wrapping now (stamp r) }) x

-- the rule for a reading of any type: its stamp, and whether it is kept
unfoldable pub chosen : {A : Type 0} → (A → ℕ) → (Option A → Bool) → ℕ → Option A → Option A → Option A
chosen stamp kept now a b = cond (second_taken (standing stamp now a (kept a)) (standing stamp now b (kept b))) b a

-- each result that a test may give is that of k
abbrev pub Computes : {A : Type 0} → (A → Bool → Type 0) → (A → Bool) → Type 0
Computes {A} gives k = (x : A) (r : Bool) → gives x r → r ≡ k x
