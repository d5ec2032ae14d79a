-- The nineteen slots, what filing does to them, and which request wins. Assumes nothing.
use Rattle.std.specs.Prelude.{Bool, ◌<◌, ◌≤◌, ◌≡◌, ◌⊎◌, cond, ltb, set, replicate, Option, Some, None}
use mathlib.Core.List.{List, [], ◌∷◌, Memᴰ}
use Rattle.types.specs.declared.Action.{Action}
use Rattle.types.specs.declared.Reason.{Reason}
use Rattle.types.specs.declared.Request.{Request}
use Rattle.types.specs.declared.ActiveSet.{ActiveSet}
use Rattle.types.specs.Numbers.{rank, index, display_priority}

-- no request
abbrev pub empty_set : ActiveSet
empty_set = record { reqs = replicate 19 None }

-- "`ActiveSet::set` writes slot `index`"
unfoldable pub set_request : ActiveSet → Reason → Action → ActiveSet
set_request s r a = record { reqs = set s.reqs (index r) (Some (record { reason = r; action = a })) }

unfoldable pub clear_request : ActiveSet → Reason → ActiveSet
clear_request s r = record { reqs = set s.reqs (index r) None }

-- filed where `on` holds
abbrev pub set_if : ActiveSet → Bool → Reason → Action → ActiveSet
set_if s on r a = cond on (set_request s r a) s

-- filed where there is an action
abbrev pub set_option : ActiveSet → Reason → Option Action → ActiveSet
set_option s r None = s
set_option s r (Some a) = set_request s r a

-- a request of higher rank, or of the same rank and higher display_priority, wins
unfoldable pub higher_request : Request → Option Request → Request
higher_request b None = b
higher_request b (Some q) =
    cond (ltb (rank b.action) (rank q.action)) q
    (cond (ltb (rank q.action) (rank b.action)) b
    (cond (ltb (display_priority b.reason) (display_priority q.reason)) q b))

abbrev pub highest : Request → List (Option Request) → Request
highest b [] = b
highest b (s ∷ ss) = highest (higher_request b s) ss

abbrev pub nominal : Request
nominal = record { reason = Reason.None; action = Action.Nominal }

-- "`requested_action`: highest rank, then highest display_priority; Nominal and None where empty." `Highest` below says it without an order of search,
-- and proofs/Highest.antt shows that this is it, and the only one.
unfoldable pub requested_action : List (Option Request) → Request
requested_action l = highest nominal l

-- p does not come before q: its rank is lower, or the same with a display_priority that is not higher
abbrev pub NotAbove : Request → Request → Type 0
NotAbove p q = (rank p.action < rank q.action) ⊎ ((rank p.action ≡ rank q.action) × (display_priority p.reason ≤ display_priority q.reason))

-- r is one of the requests, or Nominal and None where there is none; and no request is above it
pub record Highest (l : List (Option Request)) (r : Request) : Type 0 where
  pub among : Memᴰ (Some r) l ⊎ (((q : Request) → Memᴰ (Some q) l → ⊥) × (r ≡ nominal))
  pub above : (q : Request) → Memᴰ (Some q) l → NotAbove q r
