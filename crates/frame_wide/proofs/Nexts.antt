-- The instants after a step, stored one after the other. Assumes nothing.
use Prim.Native.Nat.{ℕ, zero, suc, ◌+◌, ◌*◌}
use mathlib.Core.Path.{◌≡◌, ap, sym}
use mathlib.Core.List.{List}
use mathlib.Core.Bool.{Bool, cond, not, ◌&&◌}
use lib.ListN.{length, get_or, set}
use Rattle.wire.specs.Fields.{flag_at}
use Rattle.wire.proofs.Whole.{whole}
use Rattle.instants.specs.Listed.{listed, unlisted}
use Rattle.frame_wide.specs.WideState.{stays_at, instants_next}

-- the first k timers' instants stored
abbrev pub stayed : List ℕ → List ℕ → List ℕ → ℕ → ℕ → List ℕ
stayed s x r t zero = r
stayed s x r t (suc k) = set (stayed s x r t k) k (stays_at s (6 + 9 * k) (get_or x k 0) t)

-- and the six others
abbrev pub others : List ℕ → List ℕ → List ℕ → ℕ → ℕ → Bool → Bool → Bool → List ℕ
others s x r t p dist fault third =
    set
    (set
    (set
    (set (set (set r 24 (stays_at s 223 (get_or x 24 0) t)) 25 (stays_at s 235 (get_or x 25 0) t)) 26 (stays_at s 244 (get_or x 26 0) t))
    27
    (cond dist p (get_or x 27 0)))
    28
    (cond fault (get_or x 28 0) t))
    29
    (cond (flag_at s 305 && not third) (get_or x 29 0) t)

pub all_stored : (s x : List ℕ) (t p : ℕ) (dist fault third : Bool) → length x ≡ 30 → others s x (stayed s x x t 24) t p dist fault third ≡ listed (instants_next s (unlisted x) t p dist fault third)
unfolding listed unlisted instants_next
all_stored s x t p dist fault third h = ap (λ (r : List ℕ). others s x (stayed s x r t 24) t p dist fault third) (sym (whole 0 30 x h))
