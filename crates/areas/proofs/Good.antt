-- What every list of areas held meets, and that such a list is accepted again, added or read. Assumes nothing.
use Prim.Native.Nat.{ℕ, zero, suc, ◌≤◌, ◌<◌}
use native.Mathlib.Omega.{arith}
use mathlib.Core.Path.{◌≡◌, refl, sym, ap, subst, ◌∙◌}
use mathlib.Core.Bool.{Bool, true, false, not, ◌||◌, cond}
use mathlib.Core.List.{List, [], ◌∷◌, ◌++◌, append-nil, append_assoc}
use lib.Dec.{ltb, eqb}
use lib.ListN.{length, length-append}
use borrow.Author.Tests.{ltb-true, eqb-false, lt-ltb, ne_eqb, not-false}
use Rattle.areas.specs.Held.{Area, Rules, Answer, refused, held, first, All, Rising, holds, place, without, area_fault, taken, answer, add, and_then, add_each, read_from}
use Rattle.areas.proofs.Lists.{or_false, all_append, all_right, all_map, all_place, all_without, not_held, place_length, place_rising, place_last, without_length, without_rising, rising_left, rising_right}

module _ {P : Type 0} where
  pub never : {A : Type 0} (n : ℕ) (l : List (Area P)) → refused n ≡ held l → A
  never n l e = let z : ◌≡◌ {A = ℕ} 0 1 = cc in absurd (omega arith)

  pub held_inj : (l m : List (Area P)) → ◌≡◌ {A = Answer P} (held l) (held m) → l ≡ m
  held_inj l m e = cc

  -- ---- what stands behind no refusal
  pub record Sound (r : Rules P) (a : Area P) : Type 0 where
    pub polygon : r.fault a.corners ≡ 0
    pub home : r.home_inside a.corners ≡ false
    pub numbered : 0 < a.number

  pub record Good (r : Rules P) (l : List (Area P)) : Type 0 where
    pub rising : Rising l
    pub eight : length l ≤ 8
    pub sound : All (Sound r) l

  pub record Clear (r : Rules P) (wrong : Bool) (l : List (Area P)) (a : Area P) : Type 0 where
    pub polygon : r.fault a.corners ≡ 0
    pub number : wrong ≡ false
    pub room : length l < 8
    pub home : r.home_inside a.corners ≡ false

first_zero : (n m : ℕ) → first n m ≡ 0 → (n ≡ 0) × (m ≡ 0)
first_zero zero m e = (refl, e)
first_zero (suc n) m e = absurd (omega arith)

none : (b : Bool) (k : ℕ) → cond b (suc k) 0 ≡ 0 → b ≡ false
none true k e = absurd (omega arith)
none false k e = refl

some : (b : Bool) (k : ℕ) → cond b 0 (suc k) ≡ 0 → b ≡ true
some true k e = refl
some false k e = absurd (omega arith)

module _ {P : Type 0} (r : Rules P) where
  pub clear : (b : Bool) (l : List (Area P)) (a : Area P) → area_fault r b (length l) a ≡ 0 → Clear r b l a
  unfolding area_fault
  clear b l a e =
      let f = first_zero (r.fault a.corners) _ e in
      let g = first_zero (cond b 31 0) _ f.1 in
      let h = first_zero (cond (ltb (length l) 8) 0 30) _ g.1 in
      record { polygon = f.0; number = none b 30 g.0; room = ltb-true (length l) 8 (some (ltb (length l) 8) 29 h.0); home = none (r.home_inside a.corners) 31 h.1 }

  pub cleared : (b : Bool) (l : List (Area P)) (a : Area P) → Clear r b l a → area_fault r b (length l) a ≡ 0
  unfolding area_fault
  cleared b l a c = rw (c.polygon, c.number, lt-ltb (length l) 8 c.room, c.home)

  positive : (n : ℕ) → eqb n 0 ≡ false → 0 < n
  positive n e = by (eqb-false n 0 e)
    where
      by : (n ≡ 0 → ⊥) → 0 < n
      by f = omega arith

  -- ---- the areas stay good
  pub good_none : Good r []
  good_none = record { rising = tt; eight = omega arith; sound = tt }

  pub good_place : (l : List (Area P)) (a : Area P) → Good r l → Clear r (taken l a.number) l a → Good r (place a l)
  good_place l a g c =
      let n = or_false (eqb a.number 0) (holds a.number l) c.number in
      record {
        rising = place_rising a l n.1 g.rising;
        eight = omega (arith, place_length a l, c.room);
        sound = all_place (Sound r) a l (record { polygon = c.polygon; home = c.home; numbered = positive a.number n.0 }) g.sound;
      }

  pub good_without : (n : ℕ) (l : List (Area P)) → Good r l → Good r (without n l)
  good_without n l g = record { rising = without_rising n l g.rising; eight = omega (arith, without_length n l, g.eight); sound = all_without (Sound r) n l g.sound }

  -- ---- the next of a good list is accepted, and stands last
  pub clear_next : (u : List (Area P)) (a : Area P) (v : List (Area P)) → Good r (u ++ a ∷ v) → Clear r (taken u a.number) u a
  clear_next u a v g =
      let s = (all_right (Sound r) u (a ∷ v) g.sound).0 in
      record {
        polygon = s.polygon;
        number = rw (ne_eqb a.number 0 (λ h. omega (arith, s.numbered))) (not_held a.number u (rising_left u a v g.rising));
        room = omega (arith, length-append u (a ∷ v), g.eight);
        home = s.home;
      }

  add_next : (u : List (Area P)) (a : Area P) (v : List (Area P)) → Good r (u ++ a ∷ v) → add r u a ≡ held (u ++ (a ∷ []))
  add_next u a v g = rw (cleared (taken u a.number) u a (clear_next u a v g), place_last a u (rising_left u a v g.rising))

  pub each_good : (u v : List (Area P)) → Good r (u ++ v) → add_each r u v ≡ held (u ++ v)
  each_good u [] g = rw append-nil
  each_good u (a ∷ v) g =
      let h : Good r ((u ++ (a ∷ [])) ++ v) = rw append_assoc g in
      rw (add_next u a v g) (rw append_assoc at (each_good (u ++ (a ∷ [])) v h))

  -- ---- and so it is read
  read_next : (n : ℕ) (u : List (Area P)) (a : Area P) (v : List (Area P)) → Good r (u ++ a ∷ v) → n < a.number
      → answer (area_fault r (taken u a.number || not (ltb n a.number)) (length u) a) (place a u) ≡ held (u ++ (a ∷ []))
  read_next n u a v g h =
      let c = clear_next u a v g in
      rw (lt-ltb n a.number h, c.number, cleared false u a (record { polygon = c.polygon; number = refl; room = c.room; home = c.home }), place_last a u (rising_left u a v g.rising))

  pub read_good : (n : ℕ) (u v : List (Area P)) → Good r (u ++ v) → All (λ a. n < a.number) v → read_from r n u v ≡ held (u ++ v)
  read_good n u [] g h = rw append-nil
  read_good n u (a ∷ v) g h =
      let k : Good r ((u ++ (a ∷ [])) ++ v) = rw append_assoc g in
      let onward : read_from r a.number (u ++ (a ∷ [])) v ≡ held (u ++ a ∷ v) = rw append_assoc at (read_good a.number (u ++ (a ∷ [])) v k (rising_right u (a ∷ v) g.rising).0) in
      ap (λ (f : Answer P). and_then f (λ k. read_from r a.number k v)) (read_next n u a v g h.0) ∙ onward

  -- ---- what is read is good
  pub record ReadAs (m l : List (Area P)) : Type 0 where
    pub same : l ≡ m
    pub good : Good r m

  pub read_as : (n : ℕ) (u v l : List (Area P)) → Good r u → All (λ b. b.number ≤ n) u → read_from r n u v ≡ held l → ReadAs (u ++ v) l
  read_as n u [] l g b e = record { same = sym (held_inj u l e) ∙ sym (append-nil u); good = rw append-nil g }
  read_as n u (a ∷ v) l g b e =
      by (area_fault r (taken u a.number || not (ltb n a.number)) (length u) a) refl e (λ k p q. read_as a.number k v l p q)
    where
      by : (f : ℕ) → area_fault r (taken u a.number || not (ltb n a.number)) (length u) a ≡ f
          → and_then (answer f (place a u)) (λ k. read_from r a.number k v) ≡ held l
          → ((k : List (Area P)) → Good r k → All (λ b. b.number ≤ a.number) k → read_from r a.number k v ≡ held l → ReadAs (k ++ v) l)
          → ReadAs (u ++ a ∷ v) l
      by (suc f) q e onward = never (suc f) l e
      by zero q e onward =
          let c = clear _ u a q in
          let t = or_false (taken u a.number) (not (ltb n a.number)) c.number in
          let higher : n < a.number = ltb-true n a.number (not-false (ltb n a.number) t.1) in
          let below : All (λ (x : Area P). x.number < a.number) u = all_map _ _ (λ x h. omega (arith, h, higher)) u b in
          let last : place a u ≡ u ++ (a ∷ []) = place_last a u below in
          let k : Good r (u ++ (a ∷ [])) = subst (Good r) last (good_place u a g (record { polygon = c.polygon; number = t.0; room = c.room; home = c.home })) in
          let w : ReadAs ((u ++ (a ∷ [])) ++ v) l = onward (u ++ (a ∷ [])) k (all_append _ u (a ∷ []) (all_map _ _ (λ x h. omega (arith, h)) u below) (omega arith, tt)) (rw last at e) in
          rw append_assoc at w
