-- A run of stores over bytes of 0, some of which leave out what is 0: it stores all of its bytes. Assumes nothing.
use Prim.Native.Nat.{ℕ, ◌+◌, ◌-◌, ◌≤◌}
use mathlib.Core.Path.{◌≡◌, ◌∙◌, ap, refl, sym}
use mathlib.Core.List.{List, [], ◌∷◌, ◌++◌, append_assoc, append-nil}
use mathlib.Core.Bool.{Bool, true, false, cond, ◌&&◌}
use native.Mathlib.Nat.{add-zero}
use native.Mathlib.Omega.{arith}
use lib.Dec.{eqb}
use lib.ListN.{length, replicate, length-append, length-replicate, replicate-append-replicate}
use lib.Seq.{sets}
use borrow.Author.Tests.{eqb-true}
use Rattle.wire.specs.Laid.{all_zero, laid, Blank}
use Rattle.wire.proofs.Over.{over, over_all, over_middle}
use Rattle.wire.proofs.Whole.{first, second}

zero_bytes : (b : List ℕ) → all_zero b ≡ true → b ≡ replicate (length b) 0
zero_bytes [] e = refl
zero_bytes (x ∷ b) e = λ j. eqb-true x 0 (first (eqb x 0) (all_zero b) e) j ∷ zero_bytes b (second (eqb x 0) (all_zero b) e) j

-- a store, and one that leaves out bytes of 0
abbrev stored : Bool → List ℕ → ℕ → List ℕ → List ℕ
stored true m n b = laid m n b
stored false m n b = sets m n b

-- b over as many bytes of 0, after p and before r
set-middle : (l : List ℕ) (i : ℕ) (p b r : List ℕ) → sets (sets l i (p ++ (replicate (length b) 0 ++ r))) (i + length p) b ≡ sets l i (p ++ (b ++ r))
set-middle l i p b r = over_middle l i p (replicate (length b) 0) b r (length-replicate (length b) 0)

pub laid_middle : (l : List ℕ) (i : ℕ) (p b r : List ℕ) → laid (sets l i (p ++ (replicate (length b) 0 ++ r))) (i + length p) b ≡ sets l i (p ++ (b ++ r))
laid_middle l i p b r = go (all_zero b) refl
  where
    go : (z : Bool) → all_zero b ≡ z → cond z (sets l i (p ++ (replicate (length b) 0 ++ r))) (sets (sets l i (p ++ (replicate (length b) 0 ++ r))) (i + length p) b) ≡ sets l i (p ++ (b ++ r))
    go true e = ap (λ (z : List ℕ). sets l i (p ++ (z ++ r))) (sym (zero_bytes b e))
    go false e = set-middle l i p b r

stored_middle : (k : Bool) (l : List ℕ) (i : ℕ) (p b r : List ℕ) → stored k (sets l i (p ++ (replicate (length b) 0 ++ r))) (i + length p) b ≡ sets l i (p ++ (b ++ r))
stored_middle true l i p b r = laid_middle l i p b r
stored_middle false l i p b r = set-middle l i p b r

pub data Step : Type 0 where
  step : Bool → ℕ → List ℕ → Step

abbrev pub store : ℕ → List ℕ → Step
store n b = step false n b

abbrev pub lay : ℕ → List ℕ → Step
lay n b = step true n b

abbrev pub bytes : List Step → List ℕ
bytes [] = []
bytes (step k n b ∷ ss) = b ++ bytes ss

-- each step's place is where the one before it ends
abbrev pub in_row : ℕ → List Step → Bool
in_row i [] = true
in_row i (step k n b ∷ ss) = eqb n i && in_row (i + length b) ss

abbrev apply : List ℕ → List Step → List ℕ
apply m [] = m
apply m (step k n b ∷ ss) = apply (stored k m n b) ss

pub data Run : List ℕ → List Step → List ℕ → Type 0 where
  done : {m : List ℕ} → Run m [] m
  into : {m m' r : List ℕ} {k : Bool} {n : ℕ} {b : List ℕ} {ss : List Step} → m' ≡ stored k m n b → Run m' ss r → Run m (step k n b ∷ ss) r

ran : (m : List ℕ) (ss : List Step) (r : List ℕ) → Run m ss r → r ≡ apply m ss
ran m [] r done = refl
ran m (step k n b ∷ ss) r (into {m' = m'} e rest) = ran m' ss r rest ∙ ap (λ (l : List ℕ). apply l ss) e

-- the zeros under a step and those under the rest
split : (p b z r : List ℕ) → p ++ (replicate (length b + length z) 0 ++ r) ≡ p ++ (replicate (length b) 0 ++ (replicate (length z) 0 ++ r))
split p b z r =
    ap (λ (k : List ℕ). p ++ (k ++ r)) (sym (replicate-append-replicate (length b) (length z) 0))
    ∙ ap (λ (k : List ℕ). p ++ k) (append_assoc (replicate (length b) 0) (replicate (length z) 0) r)

over_zeros : (l : List ℕ) (i : ℕ) (p r : List ℕ) (ss : List Step) → in_row (i + length p) ss ≡ true →
    apply (sets l i (p ++ (replicate (length (bytes ss)) 0 ++ r))) ss ≡ sets l i (p ++ (bytes ss ++ r))
over_zeros l i p r [] h = refl
over_zeros l i p r (step k n b ∷ ss) h =
    let z = bytes ss in
    let rest : List ℕ = replicate (length z) 0 ++ r in
    let at : n ≡ i + length p = eqb-true n (i + length p) (first (eqb n (i + length p)) _ h) in
    let next : i + length p + length b ≡ i + length (p ++ b) = omega (arith, length-append p b) in
    ap (λ (m : List ℕ). apply (stored k m n b) ss) (ap (λ (j : ℕ). sets l i (p ++ (replicate j 0 ++ r))) (length-append b z) ∙ ap (sets l i) (split p b z r))
    ∙ ap (λ (j : ℕ). apply (stored k (sets l i (p ++ (replicate (length b) 0 ++ rest))) j b) ss) at
    ∙ ap (λ (m : List ℕ). apply m ss) (stored_middle k l i p b rest ∙ ap (sets l i) (sym (append_assoc p b rest)))
    ∙ over_zeros l i (p ++ b) r ss (ap (λ (j : ℕ). in_row j ss) (sym next) ∙ second (eqb n (i + length p)) _ h)
    ∙ ap (sets l i) (append_assoc p b (z ++ r) ∙ ap (λ (j : List ℕ). p ++ j) (sym (append_assoc b z r)))

-- a whole run over zeros
pub laid_run : (m : List ℕ) (i : ℕ) (ss : List Step) (r : List ℕ) → Run m ss r → in_row i ss ≡ true → Blank m i (length (bytes ss)) → r ≡ sets m i (bytes ss)
laid_run m i ss r run row z =
    ran m ss r run
    ∙ ap (λ (k : List ℕ). apply k ss) (sym z ∙ ap (sets m i) (sym (append-nil (replicate (length (bytes ss)) 0))))
    ∙ over_zeros m i [] [] ss (ap (λ (k : ℕ). in_row k ss) (add-zero i) ∙ row)
    ∙ ap (sets m i) (append-nil (bytes ss))

-- what is stored first leaves the rest of the zeros
pub still_blank : (l : List ℕ) (i n k : ℕ) (p : List ℕ) → length p + k ≤ n → Blank l i n → Blank (sets l i p) (i + length p) k
still_blank l i n k p h z =
    let q = n - (length p + k) in
    let r : List ℕ = replicate q 0 in
    let b : List ℕ = replicate k 0 in
    let e : length p + (k + q) ≡ n = omega arith in
    let whole : replicate n 0 ≡ replicate (length p) 0 ++ (b ++ r) =
    ap (λ (j : ℕ). replicate j 0) (sym e) ∙ sym (replicate-append-replicate (length p) (k + q) 0) ∙ ap (λ (x : List ℕ). replicate (length p) 0 ++ x) (sym (replicate-append-replicate k q 0)) in
    let m : sets l i p ≡ sets l i (p ++ (b ++ r)) =
    ap (λ (x : List ℕ). sets x i p) (sym z ∙ ap (sets l i) whole) ∙ over l i (replicate (length p) 0) p (b ++ r) (length-replicate (length p) 0) in
    ap (λ (x : List ℕ). sets x (i + length p) b) m ∙ over_middle l i p b b r refl ∙ sym m

-- bytes of 0: as stored, the first of them, and those after what was stored first
pub zeroed : {m : List ℕ} (l : List ℕ) (i n : ℕ) → m ≡ sets l i (replicate n 0) → Blank m i n
zeroed l i n e = ap (λ (k : List ℕ). sets k i (replicate n 0)) e ∙ over_all l i (replicate n 0) (replicate n 0) refl ∙ sym e

pub blank_first : {l : List ℕ} (i n k : ℕ) → k ≤ n → Blank l i n → Blank l i k
blank_first {l} i n k h z = ap (λ (j : ℕ). sets l j (replicate k 0)) (sym (add-zero i)) ∙ still_blank l i n k [] (omega arith) z

pub blank_rest : {m l : List ℕ} (i j n k : ℕ) (p : List ℕ) → m ≡ sets l i p → j ≡ i + length p → length p + k ≤ n → Blank l i n → Blank m j k
blank_rest {m} {l} i j n k p e a h z = (λ t. sets (e t) (a t) (replicate k 0)) ∙ still_blank l i n k p h z ∙ sym e
