-- Going round a list of corners: its sides and its turns. Assumes nothing.
use mathlib.Core.List.{List, [], ◌∷◌, ◌++◌}

module _ {A B : Type 0} where
  -- the elements of two lists side by side, as many as both have: the library's zip (proofs/Laws.antt), in a form that computes by itself
  abbrev pub beside : List A → List B → List (A × B)
  beside [] m = []
  beside (a ∷ l) [] = []
  beside (a ∷ l) (b ∷ m) = (a, b) ∷ beside l m

module _ {A : Type 0} where
  -- in each element's place the one after it, the first after the last
  abbrev pub turned : List A → List A
  turned [] = []
  turned (a ∷ l) = l ++ (a ∷ [])

  -- each corner with the next: the sides, from the first corner's on
  abbrev pub sides : List A → List (A × A)
  sides l = beside l (turned l)

  -- each corner with the next two: the turns
  abbrev pub turns : List A → List (A × (A × A))
  turns l = beside l (sides (turned l))

  -- each element with those after it
  abbrev pub tails : List A → List (A × List A)
  tails [] = []
  tails (a ∷ l) = (a, l) ∷ tails l
