-- Filing requests one after the other, in any order. Assumes nothing.
use Rattle.std.specs.Prelude.{◌≡◌}
use mathlib.Core.List.{List, [], ◌∷◌, Perm}
use Rattle.types.specs.declared.Request.{Request}
use Rattle.types.specs.declared.ActiveSet.{ActiveSet}
use Rattle.types.specs.ActiveSet.{set_request, empty_set, requested_action}

-- "each request goes into its reason's slot of the set that the last filing returned"
abbrev pub filed : ActiveSet → List Request → ActiveSet
filed s [] = s
filed s (q ∷ qs) = filed (set_request s q.reason q.action) qs

-- no request of the list has the reason of q
abbrev pub OtherReasons : Request → List Request → Type 0
OtherReasons q [] = Unit {0}
OtherReasons q (p ∷ l) = (q.reason ≡ p.reason → ⊥) × OtherReasons q l

-- at most one request for each reason
abbrev pub OnePerReason : List Request → Type 0
OnePerReason [] = Unit {0}
OnePerReason (q ∷ l) = OtherReasons q l × OnePerReason l

-- "for any two orders of the same requests `requested_action` answers alike"
abbrev pub FilingOrderFree : Type 0
FilingOrderFree = (l m : List Request) → Perm l m → OnePerReason l → requested_action (filed empty_set l).reqs ≡ requested_action (filed empty_set m).reqs
