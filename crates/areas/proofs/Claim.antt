-- The claims on adds, removes and frames. Assumes nothing.
use Prim.Native.Nat.{ℕ, zero, suc}
use native.Mathlib.Omega.{arith}
use mathlib.Core.Path.{◌≡◌, refl, sym, ap, subst, ◌∙◌}
use mathlib.Core.Bool.{Bool, true, false, ◌&&◌, cond}
use mathlib.Core.Logic.{◌⊎◌, inl, inr, ◌↔◌}
use mathlib.Core.List.{List, [], ◌∷◌}
use lib.Dec.{eqb, eqb-suc-zero}
use lib.ListN.{length}
use Rattle.areas.specs.Held.{Area, Rules, held, Among, holds, place, without, area_fault, taken, answer, add, remove, and_then, add_each, read}
use Rattle.areas.specs.Calls.{Call, adds, removes, Line, called, code, kept, held_after, history, number_of, concerns, StillPresent}
use Rattle.areas.specs.Claim.{HeldArePresent, FreshList, ReadGivesBack, ReadExactly, AgainAccepted}
use Rattle.areas.proofs.Lists.{or_false, unlike, all_map, place_among, among_place, without_among, among_without, rising_unique}
use Rattle.areas.proofs.Good.{Good, Clear, clear, never, held_inj, good_none, good_place, good_without, each_good, read_good, read_as}

module _ {P : Type 0} where
  abbrev line : Call P → ℕ → Line P
  line c n = record { call = c; answered = n }

  -- an accepted add is of that area
  added : (a b : Area P) (n : ℕ) → line (adds a) n ≡ line (adds b) 0 → b ≡ a
  added a b n e = let c : adds a ≡ adds b = ap (λ (k : Line P). k.call) e in cc

  not_refused : {A : Type 0} (c d : Call P) (n : ℕ) → line c (suc n) ≡ line d 0 → A
  not_refused c d n e = let z : suc n ≡ 0 = ap (λ (k : Line P). k.answered) e in absurd (omega arith)

  not_removed : {A : Type 0} (n m : ℕ) (b : Area P) → line (removes n) m ≡ line (adds b) 0 → A
  not_removed n m b e =
      let c : removes n ≡ adds b = ap (λ (k : Line P). k.call) e in
      let z : ◌≡◌ {A = ℕ} 0 1 = cc in
      absurd (omega arith)

module _ {P : Type 0} (r : Rules P) where
  abbrev Same : List (Area P) → List (Line P) → Type 0
  Same l h = (a : Area P) → Among a l ↔ StillPresent a h

  -- ---- one call: the areas stay good, and those held are those still present
  record Step (l : List (Area P)) (h : List (Line P)) : Type 0 where
    good : Good r l
    same : Same l h

  -- a refused call
  passed : (c : Call P) (n : ℕ) (l : List (Area P)) (h : List (Line P)) → Step l h → Step l (line c (suc n) ∷ h)
  passed c n l h s = record { good = s.good; same = λ b. ((λ i. inr (unconcerned b, (s.same b).0 i)), back b) }
    where
      unconcerned : (b : Area P) → concerns b.number (line c (suc n)) ≡ false
      unconcerned b = ap (λ (accepted : Bool). accepted && eqb b.number (number_of c)) (eqb-suc-zero n)

      back : (b : Area P) → StillPresent b (line c (suc n) ∷ h) → Among b l
      back b (inl e) = not_refused c (adds b) n e
      back b (inr i) = (s.same b).1 i.1

  step_add : (l : List (Area P)) (h : List (Line P)) (a : Area P) → Step l h → Step (kept l (add r l a)) (line (adds a) (code (add r l a)) ∷ h)
  step_add l h a s = by (area_fault r (taken l a.number) (length l) a) refl
    where
      by : (f : ℕ) → area_fault r (taken l a.number) (length l) a ≡ f → Step (kept l (answer f (place a l))) (line (adds a) (code (answer f (place a l))) ∷ h)
      by (suc f) q = passed (adds a) f l h s
      by zero q = record { good = good_place r l a s.good c; same = λ b. (to b, back b) }
        where
          c : Clear r (taken l a.number) l a
          c = clear r _ l a q

          to : (b : Area P) → Among b (place a l) → StillPresent b (line (adds a) 0 ∷ h)
          to b i = on (place_among a l b i)
            where
              on : (b ≡ a) ⊎ Among b l → StillPresent b (line (adds a) 0 ∷ h)
              on (inl e) = inl (ap (λ (x : Area P). line (adds x) 0) (sym e))
              on (inr j) = inr (unlike a.number l b (or_false (eqb a.number 0) (holds a.number l) c.number).1 j, (s.same b).0 j)

          back : (b : Area P) → StillPresent b (line (adds a) 0 ∷ h) → Among b (place a l)
          back b (inl e) = among_place a l b (inl (added a b 0 e))
          back b (inr j) = among_place a l b (inr ((s.same b).1 j.1))

  step_remove : (l : List (Area P)) (h : List (Line P)) (n : ℕ) → Step l h → Step (kept l (remove l n)) (line (removes n) (code (remove l n)) ∷ h)
  step_remove l h n s = by (holds n l)
    where
      by : (t : Bool) → Step (kept l (answer (cond t 0 31) (without n l))) (line (removes n) (code (answer (cond t 0 31) (without n l))) ∷ h)
      by false = passed (removes n) 30 l h s
      by true = record { good = good_without r n l s.good; same = λ b. (to b, back b) }
        where
          to : (b : Area P) → Among b (without n l) → StillPresent b (line (removes n) 0 ∷ h)
          to b i = let g = without_among n l b i in inr (g.0, (s.same b).0 g.1)

          back : (b : Area P) → StillPresent b (line (removes n) 0 ∷ h) → Among b (without n l)
          back b (inl e) = not_removed n 0 b e
          back b (inr j) = among_without n l b j.0 ((s.same b).1 j.1)

  steps : (calls : List (Call P)) → Step (held_after r calls) (history r calls)
  unfolding held_after history
  steps [] = record { good = good_none r; same = λ b. ((λ i. i), (λ i. i)) }
  steps (adds a ∷ earlier) = step_add (held_after r earlier) (history r earlier) a (steps earlier)
  steps (removes n ∷ earlier) = step_remove (held_after r earlier) (history r earlier) n (steps earlier)

  -- ---- the claims
  pub held_are_present : HeldArePresent r
  held_are_present calls = let s = steps calls in (record { members = s.same; rising = s.good.rising }, s.good.eight)

  pub fresh_list : FreshList r
  fresh_list calls m p =
      let s = steps calls in
      let e : m ≡ held_after r calls = rising_unique m (held_after r calls) p.rising s.good.rising (λ a. ((λ i. (s.same a).1 ((p.members a).0 i)), (λ i. (p.members a).1 ((s.same a).0 i)))) in
      rw e (each_good r [] (held_after r calls) s.good)

  pub read_gives_back : ReadGivesBack r
  read_gives_back m l e = (read_as r 0 [] m l (good_none r) tt e).same

  -- each accepted add is a call
  reached : (m l : List (Area P)) (calls : List (Call P)) → add_each r (held_after r calls) m ≡ held l → (more : List (Call P)) × (l ≡ held_after r more)
  unfolding held_after
  reached [] l calls e = (calls, sym (held_inj (held_after r calls) l e))
  reached (a ∷ m) l calls e = by (area_fault r (taken (held_after r calls) a.number) (length (held_after r calls)) a) refl e (λ k. reached m l k)
    where
      before : List (Area P)
      before = held_after r calls

      by : (f : ℕ) → area_fault r (taken before a.number) (length before) a ≡ f
          → and_then (answer f (place a before)) (λ k. add_each r k m) ≡ held l
          → ((k : List (Call P)) → add_each r (held_after r k) m ≡ held l → (more : List (Call P)) × (l ≡ held_after r more))
          → (more : List (Call P)) × (l ≡ held_after r more)
      by (suc f) q e onward = never (suc f) l e
      by zero q e onward = onward (adds a ∷ calls) (rw q e)

  pub read_exactly : ReadExactly r
  unfolding held_after
  read_exactly m = (to, back)
    where
      to : read r m ≡ held m → (calls : List (Call P)) × (m ≡ held_after r calls)
      to e = reached m m [] (each_good r [] m (read_as r 0 [] m m (good_none r) tt e).good)

      back : (calls : List (Call P)) × (m ≡ held_after r calls) → read r m ≡ held m
      back c =
          let g : Good r m = subst (Good r) (sym c.1) (steps c.0).good in
          read_good r 0 [] m g (all_map _ _ (λ (a : Area P) s. s.numbered) m g.sound)

  pub again_accepted : AgainAccepted r
  unfolding held_after
  again_accepted m k c e f =
      let (calls, g) = (read_exactly m).0 e in
      let h : kept m (called r m c) ≡ k = rw f in
      (read_exactly k).1 (c ∷ calls, sym h ∙ ap (λ (x : List (Area P)). kept x (called r x c)) g)
