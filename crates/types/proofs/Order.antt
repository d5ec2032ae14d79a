-- `requested_action` answers alike for any two orders of the same requests (specs/Filing.antt). Assumes nothing.
use mathlib.Core.Path.{◌≡◌, refl, ap, sym, ◌∙◌, subst}
use mathlib.Core.Bool.{Bool, true, false}
use mathlib.Core.Logic.{∥∥₁_elim}
use mathlib.Core.HLevel.{hedberg}
use mathlib.Core.List.{List, Permᴰ}
use lib.Dec.{eqb}
use lib.Seq.{set_comm}
use borrow.Author.Tests.{eqb-true, eqb-false}
use Rattle.types.specs.declared.Request.{Request}
use Rattle.types.specs.declared.ActiveSet.{ActiveSet}
use Rattle.types.specs.Numbers.{index, rank}
use Rattle.types.specs.ActiveSet.{set_request, empty_set, requested_action}
use Rattle.types.specs.Filing.{filed, OtherReasons, OnePerReason, FilingOrderFree}
use Rattle.types.proofs.Slots.{index_tells, rank_tells}

-- requests are told apart
request_decided : (p q : Request) → Dec (p ≡ q)
request_decided p q = by (eqb (index p.reason) (index q.reason)) refl (eqb (rank p.action) (rank q.action)) refl where
  by : (a : Bool) → eqb (index p.reason) (index q.reason) ≡ a → (b : Bool) → eqb (rank p.action) (rank q.action) ≡ b → Dec (p ≡ q)
  by true e true f =
      let r = index_tells p.reason q.reason (eqb-true _ _ e) in
      let a = rank_tells p.action q.action (eqb-true _ _ f) in
      yes (λ i. record { reason = r i; action = a i })
  by true e false f = no (λ s. eqb-false _ _ f (ap (λ (x : Request). rank x.action) s))
  by false e b f = no (λ s. eqb-false _ _ e (ap (λ (x : Request). index x.reason) s))

others_reordered : (q : Request) {l m : List Request} → Permᴰ l m → OtherReasons q l → OtherReasons q m
others_reordered q Permᴰ.nil f = f
others_reordered q (Permᴰ.cons e r) f = (λ k. f.0 (k ∙ sym (ap (λ (x : Request). x.reason) e)), others_reordered q r f.1)
others_reordered q (Permᴰ.swap d e) f = (λ k. f.1.0 (k ∙ sym (ap (λ (x : Request). x.reason) e)), (λ k. f.0 (k ∙ sym (ap (λ (x : Request). x.reason) d)), f.1.1))
others_reordered q (Permᴰ.trans r s) f = others_reordered q s (others_reordered q r f)

others_of : {p q : Request} (l : List Request) → p ≡ q → OtherReasons p l → OtherReasons q l
others_of l e f = subst (λ (x : Request). OtherReasons x l) e f

one_reordered : {l m : List Request} → Permᴰ l m → OnePerReason l → OnePerReason m
one_reordered Permᴰ.nil o = o
one_reordered (Permᴰ.cons {a = a} {l₂ = m} e r) o = (others_of m e (others_reordered a r o.0), one_reordered r o.1)
one_reordered (Permᴰ.swap {l = l} d e) o =
    ((λ k. o.0.0 (ap (λ (x : Request). x.reason) d ∙ sym k ∙ sym (ap (λ (x : Request). x.reason) e)), others_of l e o.1.0), (others_of l d o.0.1, o.1.1))
one_reordered (Permᴰ.trans r s) o = one_reordered s (one_reordered r o)

-- two requests of different reasons go into different slots
pub set_apart : (s : ActiveSet) (p q : Request) → (p.reason ≡ q.reason → ⊥) → set_request (set_request s p.reason p.action) q.reason q.action ≡ set_request (set_request s q.reason q.action) p.reason p.action
unfolding set_request
set_apart s p q n = rw (set_comm s.reqs (index p.reason) (index q.reason) _ _ (λ e. n (index_tells p.reason q.reason e)))

filed_alike : (s : ActiveSet) {l m : List Request} → Permᴰ l m → OnePerReason l → filed s l ≡ filed s m
filed_alike s Permᴰ.nil o = refl
filed_alike s (Permᴰ.cons {a} {b} {l₁} {l₂} e r) o =
    filed_alike (set_request s a.reason a.action) r o.1 ∙ ap (λ (x : Request). filed (set_request s x.reason x.action) l₂) e
filed_alike s (Permᴰ.swap {a} {b} {a'} {b'} {l} d e) o =
    ap (λ (t : ActiveSet). filed t l) (set_apart s a b o.0.0)
    ∙ (λ i. filed (set_request (set_request s (e i).reason (e i).action) (d i).reason (d i).action) l)
filed_alike s (Permᴰ.trans r t) o = filed_alike s r o ∙ filed_alike s t (one_reordered r o)

-- the theorem
pub filing_order_free : FilingOrderFree
filing_order_free l m r o = ∥∥₁_elim r (hedberg request_decided _ _) (λ d. ap (λ (t : ActiveSet). requested_action t.reqs) (filed_alike empty_set d o))
