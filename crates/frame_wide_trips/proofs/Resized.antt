-- What a row of bytes keeps when its instants are resized. Assumes nothing.
use Prim.Native.Nat.{ℕ, zero, suc, ◌+◌, ◌/◌, ◌%◌, ◌^◌, ◌<◌, min}
use mathlib.Core.Path.{◌≡◌, ◌∙◌, ap, refl, sym}
use mathlib.Core.Bool.{Bool, true, cond, false≢true}
use mathlib.Core.List.{List, [], ◌∷◌, ◌++◌}
use native.Mathlib.Nat.{mod-lt}
use native.Mathlib.Omega.{arith}
use lib.Dec.{eqb, lit<}
use lib.ListN.{get_or, take, drop}
use borrow.Author.Tests.{eqb-true, ne_eqb}
use Rattle.wire.specs.Fields.{Bytes, u8_at, number_at, le_bytes, le16, bytes_from}
use Rattle.wire.specs.Frame.{frame_head}
use Rattle.wire.proofs.Number.{number_bytes, number_lt}
use Rattle.wire.proofs.Whole.{first}
use Rattle.options.specs.Options.{zeros}
use Rattle.frame_wide.specs.Resized.{is_held, instants_at, narrowed}
use Rattle.frame_wide_trips.proofs.Instant.{test_of}

-- ---- they are bytes

bytes_append : (a b : List ℕ) → Bytes a → Bytes b → Bytes (a ++ b)
unfolding Bytes u8_at
bytes_append [] b p q k = q k
bytes_append (x ∷ a) b p q zero = p 0
bytes_append (x ∷ a) b p q (suc k) = bytes_append a b (λ j. p (suc j)) q k

bytes_take : (n : ℕ) (s : List ℕ) → Bytes s → Bytes (take n s)
unfolding Bytes u8_at
bytes_take zero s p k = lit< tt
bytes_take (suc n) [] p k = lit< tt
bytes_take (suc n) (x ∷ s) p zero = p 0
bytes_take (suc n) (x ∷ s) p (suc k) = bytes_take n s (λ j. p (suc j)) k

bytes_drop : (n : ℕ) (s : List ℕ) → Bytes s → Bytes (drop n s)
unfolding Bytes u8_at
bytes_drop zero s p k = p k
bytes_drop (suc n) [] p k = lit< tt
bytes_drop (suc n) (x ∷ s) p k = bytes_drop n s (λ j. p (suc j)) k

bytes_le : (w n : ℕ) → Bytes (le_bytes w n)
unfolding Bytes u8_at le_bytes
bytes_le zero n k = lit< tt
bytes_le (suc w) n zero = mod-lt n (lit< tt)
bytes_le (suc w) n (suc k) = bytes_le w (n / 256) k

bytes_narrowed : (gaps given s : List ℕ) → Bytes s → Bytes (narrowed gaps given s)
unfolding narrowed
bytes_narrowed [] given s b = b
bytes_narrowed (n ∷ gaps) [] s b = b
bytes_narrowed (n ∷ gaps) (x ∷ given) s b =
    bytes_append (take n s) _ (bytes_take n s b)
    (bytes_append (le_bytes 4 (cond (is_held n s) x (min (number_at 8 s n) 1))) _ (bytes_le 4 _) (bytes_narrowed gaps given (drop (n + 8) s) (bytes_drop (n + 8) s b)))

-- a frame with its instants in four bytes
pub bytes_on : (kind len : ℕ) (gaps given s : List ℕ) → Bytes s → Bytes (frame_head kind len ++ narrowed gaps given (drop 4 s))
unfolding frame_head le16
bytes_on kind len gaps given s b =
    bytes_append (le_bytes 2 len ++ le_bytes 2 kind) _ (bytes_append (le_bytes 2 len) (le_bytes 2 kind) (bytes_le 2 len) (bytes_le 2 kind))
    (bytes_narrowed gaps given (drop 4 s) (bytes_drop 4 s b))

-- ---- its instants are of 64 bits

below : (gaps s : List ℕ) → Bytes s → (k : ℕ) → get_or (instants_at 8 gaps s) k 0 < 2 ^ 64
unfolding instants_at
below [] s b k = lit< tt
below (n ∷ gaps) s b zero = number_lt 8 s n b
below (n ∷ gaps) s b (suc k) = below gaps (drop (n + 8) s) (bytes_drop (n + 8) s b) k

pub instants_lt : (gaps s : List ℕ) → Bytes s → (k : ℕ) → get_or (instants_at 8 gaps (drop 4 s)) k 0 < 2 ^ 64
instants_lt gaps s b k = below gaps (drop 4 s) (bytes_drop 4 s b) k

-- ---- an instant that is not there is 0

-- this number's four bytes and those behind them are 0, up to byte m
abbrev pub zeros_of : List ℕ → ℕ → ℕ → Bool
zeros_of rest m n = zeros (le_bytes 4 n ++ rest) 0 (suc m)

low_zero : (rest : List ℕ) (m n : ℕ) → zeros_of rest m n ≡ true → n % 256 ≡ 0
unfolding zeros le_bytes u8_at
low_zero rest m n h = eqb-true (n % 256) 0 (first (eqb (n % 256) 0) _ h)

none : (n : ℕ) → min n 1 % 256 ≡ 0 → n ≡ 0
none zero e = refl
none (suc n) e = let m : min (suc n) 1 ≡ 1 = omega arith in let z : 1 % 256 ≡ 0 = sym (ap (λ (k : ℕ). k % 256) m) ∙ e in absurd (omega arith)

kept : (rest : List ℕ) (m f n : ℕ) → test_of (zeros_of rest m) f 0 (min n 1) ≡ true → cond (eqb f 1) n 0 ≡ n
kept rest m zero n h = sym (none n (low_zero rest m (min n 1) h))
kept rest m (suc zero) n h = refl
kept rest m (suc (suc f)) n h =
    let a = ne_eqb (suc (suc f)) 0 (λ e. omega arith) in
    let b = ne_eqb (suc (suc f)) 1 (λ e. omega arith) in
    absurd (false≢true (simp (a, b) at h))

-- so its eight bytes are those of the number that is written
pub eight_bytes :
    (rest : List ℕ) (m : ℕ) (s : List ℕ) (k f : ℕ) → Bytes s → test_of (zeros_of rest m) f 0 (min (number_at 8 s k) 1) ≡ true →
    le_bytes 8 (cond (eqb f 1) (number_at 8 s k) 0) ≡ bytes_from s k 8
eight_bytes rest m s k f b h = ap (le_bytes 8) (kept rest m f (number_at 8 s k) h) ∙ number_bytes 8 s k b
