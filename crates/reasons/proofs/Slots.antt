-- Filing one request more: its own slot has it, the others are as they were. Assumes nothing.
use Rattle.std.specs.Prelude.{Option, Some, None}
use mathlib.Core.Bool.{Bool, true, false, cond}
use mathlib.Core.Path.{◌≡◌, refl, ap, sym, subst, ◌∙◌}
use lib.Dec.{eqb}
use lib.ListN.{get_or, set, length-set, get_or-replicate}
use lib.Seq.{get_or-set_same, get_or-set_other}
use borrow.Author.Tests.{eqb-true, eqb-false}
use native.Mathlib.Omega.{arith}
use Rattle.types.specs.declared.Action.{Action}
use Rattle.types.specs.declared.Reason.{Reason}
use Rattle.types.specs.declared.ActiveSet.{ActiveSet}
use Rattle.types.specs.Numbers.{index}
use Rattle.types.specs.ActiveSet.{empty_set, set_request, set_if, set_option}
use Rattle.types.proofs.Slots.{index_lt, index_tells}
use Rattle.reasons.specs.Reasons.{◌when◌, filed_on_disarm}
use Rattle.reasons.specs.Claim.{slot_for, Files}

pub empty_files : Files empty_set filed_on_disarm
empty_files = record { count = refl; slot = λ q. get_or-replicate 19 (index q) None None (index_lt q) }

-- a rule with one reason's row put in
abbrev pub with_row : Reason → Option Action → (Reason → Option Action) → Reason → Option Action
with_row r o rule q = cond (eqb (index r) (index q)) o (rule q)

-- where the row was empty, filing it is this
pub files_option : {s : ActiveSet} {rule : Reason → Option Action} (r : Reason) (o : Option Action) → rule r ≡ None → Files s rule → Files (set_option s r o) (with_row r o rule)
unfolding set_request
files_option {s} {rule} r None free f = record { count = f.count; slot = λ q. f.slot q ∙ ap (slot_for q) (at q (eqb (index r) (index q)) refl) }
  where
    at : (q : Reason) (b : Bool) → eqb (index r) (index q) ≡ b → rule q ≡ cond b None (rule q)
    at q true e = subst (λ (x : Reason). rule x ≡ None) (index_tells r q (eqb-true _ _ e)) free
    at q false e = refl
files_option {s} {rule} r (Some a) free f =
    record { count = length-set s.reqs (index r) (slot_for r (Some a)) ∙ f.count; slot = λ q. at q (eqb (index r) (index q)) refl }
  where
    at : (q : Reason) (b : Bool) → eqb (index r) (index q) ≡ b → get_or (set s.reqs (index r) (slot_for r (Some a))) (index q) None ≡ slot_for q (cond b (Some a) (rule q))
    at q true e =
        subst (λ (x : Reason). get_or (set s.reqs (index r) (slot_for r (Some a))) (index x) None ≡ slot_for x (Some a)) (index_tells r q (eqb-true _ _ e))
        (get_or-set_same s.reqs (index r) (slot_for r (Some a)) None (let c = f.count in let l = index_lt r in omega arith))
    at q false e = get_or-set_other s.reqs (index r) (index q) (slot_for r (Some a)) None (λ i. eqb-false _ _ e (sym i)) ∙ f.slot q

pub files_if : {s : ActiveSet} {rule : Reason → Option Action} (r : Reason) (on : Bool) (a : Action) → rule r ≡ None → Files s rule → Files (set_if s on r a) (with_row r (a when on) rule)
files_if r true a free f = files_option r (Some a) free f
files_if r false a free f = files_option r None free f

-- two rules that agree
pub files_as : {s : ActiveSet} {rule other : Reason → Option Action} → ((q : Reason) → rule q ≡ other q) → Files s rule → Files s other
files_as e f = record { count = f.count; slot = λ q. f.slot q ∙ ap (slot_for q) (e q) }
