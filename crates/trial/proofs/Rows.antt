-- Frames in a row. Assumes nothing.
use Rattle.std.proofs.Common.{◌≡◌, ℕ, zero, suc, ◌+◌, ◌-◌, ◌*◌, ◌≤◌, List, [], ◌++◌, length, take, drop, sym, refl, ap, ◌∙◌, append_assoc, append-nil, add-one, arith, length-append, length-drop, take_all, drop-drop, take_at, drop_at}
use lib.Seq.{drop-length}
use borrow.Rule.Slice.PartMut.{mid_of, put_mid}
use Rattle.types.specs.declared.Telemetry.{Telemetry}
use Rattle.wire.specs.Frame.{frame_written}
use Rattle.frame_telemetry.specs.TelemetryFrame.{telemetry_frame}
use Rattle.frame_telemetry.proofs.Size.{size}
use Rattle.trial.specs.declared.Generator.{Generator}
use Rattle.trial.specs.Trial.{next_frame}
use Rattle.trial.specs.Call.{onward, frames_of}
use Rattle.trial.proofs.Calls.{frame_first}

-- a frame that is written into the part of a block from a place on
pub into : (b : List ℕ) (i : ℕ) (t : Telemetry) → i + 106 ≤ length b → put_mid i (length b - i) b (frame_written (telemetry_frame t) (mid_of i (length b - i) b)) ≡ take i b ++ (telemetry_frame t ++ drop (i + 106) b)
into b i t h =
    let rest : take (length b - i) (drop i b) ≡ drop i b = take_all (length b - i) (drop i b) (simp length-drop (omega arith)) in
    let room : 106 ≤ length (drop i b) = simp length-drop (omega arith) in
    let none : drop (length b - i) (drop i b) ≡ [] = ap (λ (n : ℕ). drop n (drop i b)) (sym (length-drop i b)) ∙ drop-length (drop i b) in
    ap (λ (l : List ℕ). take i b ++ (frame_written (telemetry_frame t) l ++ drop (length b - i) (drop i b))) rest
    ∙ ap (λ (l : List ℕ). take i b ++ (l ++ drop (length b - i) (drop i b))) (frame_first t (drop i b) room)
    ∙ ap (λ (l : List ℕ). take i b ++ ((telemetry_frame t ++ drop 106 (drop i b)) ++ l)) none
    ∙ ap (λ (l : List ℕ). take i b ++ l) (append-nil (telemetry_frame t ++ drop 106 (drop i b)))
    ∙ ap (λ (l : List ℕ). take i b ++ (telemetry_frame t ++ l)) (drop-drop 106 i b)

pub row_length : (n : ℕ) (g : Generator) → length (frames_of n g) ≡ 106 * n
unfolding frames_of
row_length zero g = refl
row_length (suc n) g = length-append (frames_of n g) (telemetry_frame (next_frame (onward n g)).telemetry) ∙ omega (arith, row_length n g, size (next_frame (onward n g)).telemetry)

-- one frame more
pub row_next :
    (b o : List ℕ) (g : Generator) (n : ℕ) → b ≡ frames_of n g ++ drop (106 * n) o →
    take (106 * n) b ++ (telemetry_frame (next_frame (onward n g)).telemetry ++ drop (106 * n + 106) b) ≡ frames_of (n + 1) g ++ drop (106 * (n + 1)) o
unfolding frames_of
row_next b o g n e =
    let f = frames_of n g in
    let t = telemetry_frame (next_frame (onward n g)).telemetry in
    let front : take (106 * n) b ≡ f = ap (take (106 * n)) e ∙ take_at f (drop (106 * n) o) (106 * n) (row_length n g) in
    let back : drop (106 * n) b ≡ drop (106 * n) o = ap (drop (106 * n)) e ∙ drop_at f (drop (106 * n) o) (106 * n) (row_length n g) in
    let sum : 106 * n + 106 ≡ 106 * suc n = omega arith in
    let past : drop (106 * n + 106) b ≡ drop (106 * suc n) o = sym (drop-drop 106 (106 * n) b) ∙ ap (drop 106) back ∙ drop-drop 106 (106 * n) o ∙ ap (λ (k : ℕ). drop k o) sum in
    rw add-one ((λ j. front j ++ (t ++ past j)) ∙ sym (append_assoc f t (drop (106 * suc n) o)))
