-- `requested_action` is the highest request in the sense of `Highest` (specs/ActiveSet.antt), and no other is. Display priorities are all different. Assumes nothing.
use Prim.Native.Nat.{ℕ, zero, suc, ◌≤◌, zero-le}
use mathlib.Core.Path.{◌≡◌, refl, sym, ap, subst, ◌∙◌}
use mathlib.Core.Logic.{◌⊎◌, inl, inr, ⊎_elim}
use mathlib.Core.Bool.{Bool, true, false, cond}
use Rattle.std.specs.Prelude.{Option, Some, None}
use Rattle.std.proofs.lemmas.Option.{none-some, same_Some}
use mathlib.Core.List.Memᴰ
use mathlib.Core.List.{List, [], ◌∷◌, Memᴰ}
use native.Mathlib.Nat.{le_refl}
use native.Mathlib.Omega.{arith}
use borrow.Author.Tests.{ltb-true, ltb-false}
use lib.Dec.{ltb}
use lib.ListN.{get_or}
use Rattle.types.specs.declared.Reason.{Reason}
use Rattle.types.specs.declared.Request.{Request}
use Rattle.types.specs.Numbers.{rank, display_priority}
use Rattle.types.specs.ActiveSet.{higher_request, highest, nominal, requested_action, NotAbove, Highest}
use Rattle.types.proofs.Slots.{rank_tells}

-- ---- display priorities are all different: each tells its reason
by_priority : List Reason
by_priority = Reason.None ∷ Reason.BatteryWarn ∷ Reason.AltitudeMin ∷ Reason.FenceApproach ∷ Reason.GpsDegraded ∷ Reason.InvalidInput ∷ Reason.ClockFault ∷ Reason.EnergyRtlMarginal ∷ Reason.BatteryLow ∷ Reason.StaleBattery ∷ Reason.GcsLinkLost ∷ Reason.RcLost ∷ Reason.AltitudeMax ∷ Reason.FenceBreach ∷ Reason.PositionInvalid ∷ Reason.GpsLost ∷ Reason.EkfUnhealthy ∷ Reason.EnergyRtlInfeasible ∷ Reason.BatteryCritical ∷ []

of_priority : (r : Reason) → get_or by_priority (display_priority r) Reason.None ≡ r
unfolding by_priority
of_priority Reason.None = refl
of_priority Reason.ClockFault = refl
of_priority Reason.InvalidInput = refl
of_priority Reason.StaleBattery = refl
of_priority Reason.GcsLinkLost = refl
of_priority Reason.RcLost = refl
of_priority Reason.GpsDegraded = refl
of_priority Reason.GpsLost = refl
of_priority Reason.EkfUnhealthy = refl
of_priority Reason.PositionInvalid = refl
of_priority Reason.FenceApproach = refl
of_priority Reason.FenceBreach = refl
of_priority Reason.AltitudeMax = refl
of_priority Reason.AltitudeMin = refl
of_priority Reason.BatteryWarn = refl
of_priority Reason.BatteryLow = refl
of_priority Reason.BatteryCritical = refl
of_priority Reason.EnergyRtlMarginal = refl
of_priority Reason.EnergyRtlInfeasible = refl

pub priority_tells : (p q : Reason) → display_priority p ≡ display_priority q → p ≡ q
priority_tells p q e = sym (of_priority p) ∙ ap (λ (k : ℕ). get_or by_priority k Reason.None) e ∙ of_priority q

-- ---- the order of requests
same : (p : Request) → NotAbove p p
same p = inr (refl, le_refl _)

trans : (p q r : Request) → NotAbove p q → NotAbove q r → NotAbove p r
trans p q r (inl a) (inl b) = inl (omega arith)
trans p q r (inl a) (inr b) = let e = b.0 in inl (omega arith)
trans p q r (inr a) (inl b) = let e = a.0 in inl (omega arith)
trans p q r (inr a) (inr b) = let e = a.0 in let f = b.0 in let g = a.1 in let h = b.1 in inr (omega arith, omega arith)

-- two requests of which neither is above the other are the same
both : (p q : Request) → NotAbove p q → NotAbove q p → p ≡ q
both p q (inl a) (inl b) = absurd (omega arith)
both p q (inl a) (inr b) = let e = b.0 in absurd (omega arith)
both p q (inr a) (inl b) = let e = a.0 in absurd (omega arith)
both p q (inr a) (inr b) =
    let g : display_priority p.reason ≤ display_priority q.reason = a.1 in
    let h : display_priority q.reason ≤ display_priority p.reason = b.1 in
    let e : display_priority p.reason ≡ display_priority q.reason = omega arith in
    let f = priority_tells p.reason q.reason e in
    let k = rank_tells p.action q.action a.0 in
    λ i. record { reason = f i; action = k i }

-- ---- one slot
-- h is not below b, nor below what the slot asks for; and it is one of the two
abbrev Step : Request → Option Request → Request → Type 0
Step b s h = NotAbove b h × (((q : Request) → s ≡ Some q → NotAbove q h) × ((h ≡ b) ⊎ (s ≡ Some h)))

step : (b : Request) (s : Option Request) → Step b s (higher_request b s)
unfolding higher_request
step b None = (same b, (λ q e. absurd (none-some q e), inl refl))
step b (Some q) = go (ltb rb rq) (ltb rq rb) (ltb pb pq) refl refl refl
  where
    rb : ℕ
    rb = rank b.action

    rq : ℕ
    rq = rank q.action

    pb : ℕ
    pb = display_priority b.reason

    pq : ℕ
    pq = display_priority q.reason

    -- what holds of q holds of what the slot asks for
    of : (h : Request) → NotAbove q h → (p : Request) → Some q ≡ Some p → NotAbove p h
    of h n p e = subst (λ (x : Request). NotAbove x h) (same_Some q p e) n

    go : (u v w : Bool) → ltb rb rq ≡ u → ltb rq rb ≡ v → ltb pb pq ≡ w → Step b (Some q) (cond u q (cond v b (cond w q b)))
    go true v w hu hv hw = (inl (ltb-true rb rq hu), (of q (same q), inr refl))
    go false true w hu hv hw = (same b, (of b (inl (ltb-true rq rb hv)), inl refl))
    go false false true hu hv hw =
        let x = ltb-false rb rq hu in let y = ltb-false rq rb hv in let z = ltb-true pb pq hw in
        (inr (omega arith, omega arith), (of q (same q), inr refl))
    go false false false hu hv hw =
        let x = ltb-false rb rq hu in let y = ltb-false rq rb hv in let z = ltb-false pb pq hw in
        (same b, (of b (inr (omega arith, omega arith)), inl refl))

-- ---- all slots
not_below : (b : Request) (l : List (Option Request)) → NotAbove b (highest b l)
not_below b [] = same b
not_below b (s ∷ l) = trans b (higher_request b s) (highest (higher_request b s) l) (step b s).0 (not_below (higher_request b s) l)

pub none_above : (b : Request) (l : List (Option Request)) (q : Request) → Memᴰ (Some q) l → NotAbove q (highest b l)
none_above b [] q m = absurd (Memᴰ.not-nil m)
none_above b (x ∷ l) q m =
    ⊎_elim
    (λ (e : Some q ≡ x). trans q (higher_request b x) (highest (higher_request b x) l) ((step b x).1.0 q (sym e)) (not_below (higher_request b x) l))
    (λ m'. none_above (higher_request b x) l q m')
    (Memᴰ.cases_cons m)

-- the highest is what was there before, or one of the requests
from_where : (b : Request) (l : List (Option Request)) → (highest b l ≡ b) ⊎ Memᴰ (Some (highest b l)) l
from_where b [] = inl refl
from_where b (x ∷ l) = at (step b x).1.1 (from_where (higher_request b x) l)
  where
    r : Request
    r = highest (higher_request b x) l

    at : (higher_request b x ≡ b) ⊎ (x ≡ Some (higher_request b x)) → (r ≡ higher_request b x) ⊎ Memᴰ (Some r) l → (r ≡ b) ⊎ Memᴰ (Some r) (x ∷ l)
    at u (inr m) = inr (Memᴰ.tail m)
    at (inl e) (inl f) = inl (f ∙ e)
    at (inr e) (inl f) = inr (Memᴰ.head (ap Some f ∙ sym e))

-- either there is a request or there is none
any_present : (l : List (Option Request)) → ((q : Request) × Memᴰ (Some q) l) ⊎ ((q : Request) → Memᴰ (Some q) l → ⊥)
any_present [] = inr (λ q m. Memᴰ.not-nil m)
any_present (None ∷ l) = at (any_present l)
  where
    at : ((q : Request) × Memᴰ (Some q) l) ⊎ ((q : Request) → Memᴰ (Some q) l → ⊥) → ((q : Request) × Memᴰ (Some q) (None ∷ l)) ⊎ ((q : Request) → Memᴰ (Some q) (None ∷ l) → ⊥)
    at (inl a) = inl (a.0, Memᴰ.tail a.1)
    at (inr n) = inr (λ q m. ⊎_elim (λ e. none-some q (sym e)) (λ m'. n q m') (Memᴰ.cases_cons m))
any_present (Some p ∷ l) = inl (p, Memᴰ.head refl)

-- nothing is below Nominal with None
nominal_least : (p : Request) → NotAbove nominal p
nominal_least p = at (rank p.action) refl
  where
    at : (k : ℕ) → rank p.action ≡ k → NotAbove nominal p
    at zero e = inr (sym e, zero-le)
    at (suc k) e = inl (omega arith)

-- the theorem: what `requested_action` gives is the highest request
pub requested_is_highest : (l : List (Option Request)) → Highest l (requested_action l)
unfolding requested_action
requested_is_highest l = record { among = at (from_where nominal l) (any_present l); above = none_above nominal l }
  where
    r : Request
    r = highest nominal l

    at : (r ≡ nominal) ⊎ Memᴰ (Some r) l → ((q : Request) × Memᴰ (Some q) l) ⊎ ((q : Request) → Memᴰ (Some q) l → ⊥) → Memᴰ (Some r) l ⊎ (((q : Request) → Memᴰ (Some q) l → ⊥) × (r ≡ nominal))
    at (inr a) u = inl a
    at (inl e) (inr n) = inr (n, e)
    at (inl e) (inl a) =
        let is : a.0 ≡ r = both a.0 r (none_above nominal l a.0 a.1) (subst (λ (q : Request). NotAbove q a.0) (sym e) (nominal_least a.0)) in
        inl (subst (λ (q : Request). Memᴰ (Some q) l) is a.1)

-- and it is the only one
pub highest_only : (l : List (Option Request)) (p q : Request) → Highest l p → Highest l q → p ≡ q
highest_only l p q hp hq = at hp.among hq.among
  where
    Found : Request → Type 0
    Found r = Memᴰ (Some r) l ⊎ (((x : Request) → Memᴰ (Some x) l → ⊥) × (r ≡ nominal))

    at : Found p → Found q → p ≡ q
    at (inl a) (inl b) = both p q (hq.above p a) (hp.above q b)
    at (inl a) (inr b) = absurd (b.0 p a)
    at (inr a) (inl b) = absurd (a.0 q b)
    at (inr a) (inr b) = a.1 ∙ sym b.1
