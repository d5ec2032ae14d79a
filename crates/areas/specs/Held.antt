-- The areas held, and what an add, a remove and the reading of a frame answer. The quotations are of document 02, L3. Assumes nothing.
use Rattle.std.specs.Prelude.{ℕ, zero, suc, ◌<◌, ◌≡◌, Bool, false, not, ◌||◌, cond, ◌⊎◌, List, [], ◌∷◌, ltb, eqb, length}

-- P is what an area's corners are as sent: bytes in the project
pub record Area (P : Type 0) : Type 0 where
  pub number : ℕ
  pub corners : P

-- what is asked of corners: the first polygon fault (10 to 17, 33), 0 for none; and whether "home has signed distance above 0"
pub record Rules (P : Type 0) : Type 0 where
  pub fault : P → ℕ
  pub home_inside : P → Bool

-- a refusal by its number, or the areas then held
pub data Answer (P : Type 0) : Type 0 where
  refused : ℕ → Answer P
  held : List (Area P) → Answer P

-- the first refusal of two, 0 for none
abbrev pub first : ℕ → ℕ → ℕ
first zero m = m
first (suc n) m = suc n

module _ {P : Type 0} where
  -- every area of a list
  abbrev pub All : (Area P → Type 0) → List (Area P) → Type 0
  All Q [] = Unit {0}
  All Q (a ∷ l) = Q a × All Q l

  -- one of a list
  abbrev pub Among : Area P → List (Area P) → Type 0
  Among a [] = ⊥
  Among a (b ∷ l) = (a ≡ b) ⊎ Among a l

  -- "in order of number": strictly rising
  abbrev pub Rising : List (Area P) → Type 0
  Rising [] = Unit {0}
  Rising (a ∷ l) = All (λ b. a.number < b.number) l × Rising l

  -- a number is held
  abbrev pub holds : ℕ → List (Area P) → Bool
  holds n [] = false
  holds n (a ∷ l) = eqb n a.number || holds n l

  -- an area put in, before the first of a larger number
  abbrev pub place : Area P → List (Area P) → List (Area P)
  place a [] = a ∷ []
  place a (b ∷ l) = cond (ltb a.number b.number) (a ∷ b ∷ l) (b ∷ place a l)

  -- the area of a number taken out
  abbrev pub without : ℕ → List (Area P) → List (Area P)
  without n [] = []
  without n (a ∷ l) = cond (eqb n a.number) (without n l) (a ∷ without n l)

  -- "polygon faults as 10 to 17 first, then 31 ..; then 30 for a ninth area; then 32 where home has signed distance above 0"
  -- n areas are held already
  unfoldable pub area_fault : Rules P → Bool → ℕ → Area P → ℕ
  area_fault r wrong_number n a =
      first (r.fault a.corners)
      (first (cond wrong_number 31 0)
      (first (cond (ltb n 8) 0 30)
      (cond (r.home_inside a.corners) 32 0)))

  -- "31 for number 0, a number already held"
  abbrev pub taken : List (Area P) → ℕ → Bool
  taken l n = eqb n 0 || holds n l

  abbrev pub answer : ℕ → List (Area P) → Answer P
  answer zero l = held l
  answer (suc n) l = refused (suc n)

  abbrev pub add : Rules P → List (Area P) → Area P → Answer P
  add r l a = answer (area_fault r (taken l a.number) (length l) a) (place a l)

  -- "31 for .. one to remove that isn't held"
  abbrev pub remove : List (Area P) → ℕ → Answer P
  remove l n = answer (cond (holds n l) 0 31) (without n l)

  abbrev pub and_then : Answer P → (List (Area P) → Answer P) → Answer P
  and_then (refused n) f = refused n
  and_then (held l) f = f l

  -- areas added one by one to those held; the first refusal ends it
  abbrev pub add_each : Rules P → List (Area P) → List (Area P) → Answer P
  add_each r l [] = held l
  add_each r l (a ∷ m) = and_then (add r l a) (λ k. add_each r k m)

  -- the bodies of a kind 13 frame: "adds its bodies one by one .., with the same faults"; "Within it a number not above the one before is 31"
  abbrev pub read_from : Rules P → ℕ → List (Area P) → List (Area P) → Answer P
  read_from r before l [] = held l
  read_from r before l (a ∷ m) =
      and_then (answer (area_fault r (taken l a.number || not (ltb before a.number)) (length l) a) (place a l))
      (λ k. read_from r a.number k m)

  -- 0 stands before the first body: no number is below 1
  abbrev pub read : Rules P → List (Area P) → Answer P
  read r m = read_from r 0 [] m
