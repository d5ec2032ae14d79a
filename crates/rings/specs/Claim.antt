-- The claims. Assumes nothing.
use Rattle.std.specs.Prelude.{◌≡◌, Bool, ◌↔◌, List, ◌∷◌}
use Rattle.rings.specs.Ring.{SameRing}
use Rattle.rings.specs.Spelling.{spelled, Settled, Order, InForm}
use Rattle.rings.specs.Corner.{before, Accepted, Read, SameFence, written}
use Rattle.types.specs.declared.Point2.{Point2}

module _ {A : Type 0} (before : A → A → Bool) where
  -- "The ring written is the ring read."
  abbrev pub WrittenIsRead : Type 0
  WrittenIsRead = (l : List A) → SameRing l (spelled before l)

  -- one ring, one spelling
  abbrev pub OneSpelling : Type 0
  OneSpelling = Order before → (l m : List A) → Settled before l → SameRing l m → spelled before l ≡ spelled before m

  -- one spelling, one ring
  abbrev pub OneRing : Type 0
  OneRing = (l m : List A) → spelled before l ≡ spelled before m → SameRing l m

  -- the spelling is in the one form
  abbrev pub TakesForm : Type 0
  TakesForm = Order before → (a : A) (l : List A) → Settled before (a ∷ l) → InForm before (spelled before (a ∷ l))

  -- what is in the one form is its own spelling
  abbrev pub FormStays : Type 0
  FormStays = Order before → (l : List A) → InForm before l → spelled before l ≡ l

  -- so what is spelled stays as it is
  abbrev pub Stays : Type 0
  Stays = Order before → (l : List A) → Settled before l → spelled before (spelled before l) ≡ spelled before l

-- ---- the same on corners
-- "The ring written is the ring read."
abbrev pub FenceWrittenIsRead : Type 0
FenceWrittenIsRead = (l : List Point2) → Accepted l → SameFence l (written l)

-- "Two accepted fences with the same .. ring of corners .. write equal bytes .., and equal bytes mean equal rings."
abbrev pub OneFence : Type 0
OneFence = (l m : List Point2) → Accepted l → Accepted m → Read l → Read m → SameFence l m ↔ (written l ≡ written m)

-- "A fence already in the one form" stays as it is
abbrev pub FenceStays : Type 0
FenceStays = (l : List Point2) → Accepted l → written (written l) ≡ written l

-- "starting at the corner with least north, then least east, going first to that one of its two neighbours with less north, then less east"
abbrev pub FenceTakesForm : Type 0
FenceTakesForm = (p : Point2) (l : List Point2) → Accepted (p ∷ l) → InForm before (written (p ∷ l))
