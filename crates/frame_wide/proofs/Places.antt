-- Instants read at constant places, and bytes stored at them. Assumes nothing.
use Prim.Native.Nat.{ℕ, zero, suc, ◌+◌, ◌*◌, ◌≤◌, ◌<◌}
use mathlib.Core.Path.{◌≡◌, ◌∙◌, ap, refl, sym}
use mathlib.Core.List.{List, [], ◌∷◌, ◌++◌, append_assoc}
use native.Mathlib.Numerals.{add-one}
use native.Mathlib.Omega.{arith}
use lib.ListN.{length, get_or, take, drop, set, length-append}
use lib.Seq.{sets, sets-eq, drop-drop}
use Rattle.wire.specs.Fields.{number_at, le_bytes, elements_from, bytes_from}
use Rattle.wire.specs.Frame.{frame_head}
use Rattle.wire.proofs.Whole.{whole}
use Rattle.wire.proofs.Stores.{Piece, after, Run, ran, joined}
use Rattle.frame_wide.specs.Resized.{instants_at, widened}
use Rattle.frame_wide.specs.WideState.{state_gaps}
use Rattle.frame_wide.specs.WideTelemetry.{telemetry_gaps}
use Rattle.frame_wide.specs.Stored.{numbers_at, low_at, high_at, low_row, high_row}
use Rattle.frame_wide.proofs.Eight.{bytes_long, number_drop}

-- ---- the instants read

-- where the instants behind the first i bytes stand
abbrev pub places : List ℕ → ℕ → List ℕ
places [] i = []
places (n ∷ gaps) i = (i + n) ∷ places gaps (i + (n + 8))

pub read_at_places : (gaps s : List ℕ) (i : ℕ) → numbers_at s (places gaps i) ≡ instants_at 8 gaps (drop i s)
unfolding instants_at numbers_at
read_at_places [] s i = refl
read_at_places (n ∷ gaps) s i =
    λ j. sym (number_drop 8 s i n) j ∷ (read_at_places gaps s (i + (n + 8)) ∙ ap (instants_at 8 gaps) (sym (drop-drop (n + 8) i s))) j

pub all_read : (s at r : List ℕ) → length r ≡ length at → ((k : ℕ) → k < length at → get_or r k 0 ≡ number_at 8 s (get_or at k 0)) → r ≡ numbers_at s at
unfolding numbers_at
all_read s [] [] e h = refl
all_read s (p ∷ at) (x ∷ r) e h = λ j. h 0 (omega arith) j ∷ all_read s at r (omega (arith, e)) (λ k q. h (suc k) (omega (arith, q))) j
all_read s [] (x ∷ r) e h = absurd (omega (arith, e))
all_read s (p ∷ at) [] e h = absurd (omega (arith, e))

-- ---- the bytes stored

-- what `copy_from_slice` leaves in the n bytes from `at` on, in their place
pub part_stored : {n : ℕ} {ys : List ℕ} (s part : List ℕ) (at : ℕ) → at + length part ≤ length s → n ≡ length part → ys ≡ part
    → take at s ++ (ys ++ drop n (drop at s)) ≡ sets s at part
part_stored s part at h e k =
    (λ j. take at s ++ (k j ++ drop (e j) (drop at s)))
    ∙ ap (λ (z : List ℕ). take at s ++ (part ++ z)) (drop-drop (length part) at s)
    ∙ sym (append_assoc (take at s) part (drop (at + length part) s))
    ∙ sym (sets-eq part s at h)

-- a flag's byte, its instant in w bytes, and n more bytes, stored one after the other
pub flag_stored :
    {m r : List ℕ} {v u : ℕ} (to more : List ℕ) (at w b : ℕ) → m ≡ sets (set to at b) (at + 1) (le_bytes w v) → v ≡ u → r ≡ sets m (at + (1 + w)) more →
    r ≡ sets to at (b ∷ (le_bytes w u ++ more))
flag_stored {m} {r} {v} {u} to more at w b e same f =
    let n : at + 1 + length (le_bytes w v) ≡ at + (1 + w) = omega (arith, bytes_long w v) in
    joined (set to at b) (at + 1) (le_bytes w v) more e (f ∙ ap (λ (k : ℕ). sets m k more) (sym n))
    ∙ (λ j. sets (set to at b) (add-one at j) (le_bytes w (same j) ++ more))

-- a run of stores by m numbers and n bytes, compared with g where both are given element by element
pub known :
    {r : List ℕ} (g : List ℕ → List ℕ → List ℕ) (ps : List ℕ → List ℕ → List Piece) (m n : ℕ) (l given s : List ℕ) → length given ≡ m → length s ≡ n →
    after l (ps (elements_from 0 given 0 m) (bytes_from s 0 n)) ≡ g (elements_from 0 given 0 m) (bytes_from s 0 n) → Run l (ps given s) r → r ≡ g given s
known {r} g ps m n l given s h k flat run =
    let d = whole 0 m given h in
    let e = whole 0 n s k in
    ran l (ps given s) r run ∙ (λ j. after l (ps (sym d j) (sym e j))) ∙ flat ∙ (λ j. g (d j) (e j))

-- the kind 10 of a kind 5, and the kind 9 of a kind 3
abbrev pub state_up : List ℕ → List ℕ → List ℕ
state_up given s = frame_head 10 304 ++ widened state_gaps given (drop 4 s)

abbrev pub telemetry_up : List ℕ → List ℕ → List ℕ
telemetry_up given s = frame_head 9 148 ++ widened telemetry_gaps given (drop 4 s)

-- a row's next timer behind those stored
pub low_long : (s given : List ℕ) (n : ℕ) → length (low_row s given n) ≡ 5 * n
unfolding le_bytes low_row
low_long s given zero = refl
low_long s given (suc n) = omega (arith, length-append (low_row s given n) (low_at 0 s (6 + 9 * n) (get_or given n 0)), low_long s given n)

pub high_long : (s given : List ℕ) (n : ℕ) → length (high_row s given n) ≡ 9 * n
unfolding le_bytes high_row
high_long s given zero = refl
high_long s given (suc n) = omega (arith, length-append (high_row s given n) (high_at 0 s (6 + 5 * n) (get_or given n 0)), high_long s given n)

pub low_next :
    {m r : List ℕ} (to s given : List ℕ) (n : ℕ) → m ≡ sets to 6 (low_row s given n) → r ≡ sets m (6 + 5 * n) (low_at 0 s (6 + 9 * n) (get_or given n 0)) →
    r ≡ sets to 6 (low_row s given (n + 1))
unfolding low_row
low_next {m} {r} to s given n e f =
    let row = low_at 0 s (6 + 9 * n) (get_or given n 0) in
    let k : 6 + length (low_row s given n) ≡ 6 + 5 * n = omega (arith, low_long s given n) in
    let next : n + 1 ≡ suc n = omega arith in
    joined to 6 (low_row s given n) row e (f ∙ ap (λ (i : ℕ). sets m i row) (sym k)) ∙ ap (λ (i : ℕ). sets to 6 (low_row s given i)) (sym next)

pub high_next :
    {m r : List ℕ} (to s given : List ℕ) (n : ℕ) → m ≡ sets to 6 (high_row s given n) → r ≡ sets m (6 + 9 * n) (high_at 0 s (6 + 5 * n) (get_or given n 0)) →
    r ≡ sets to 6 (high_row s given (n + 1))
unfolding high_row
high_next {m} {r} to s given n e f =
    let row = high_at 0 s (6 + 5 * n) (get_or given n 0) in
    let k : 6 + length (high_row s given n) ≡ 6 + 9 * n = omega (arith, high_long s given n) in
    let next : n + 1 ≡ suc n = omega arith in
    joined to 6 (high_row s given n) row e (f ∙ ap (λ (i : ℕ). sets m i row) (sym k)) ∙ ap (λ (i : ℕ). sets to 6 (high_row s given i)) (sym next)
