-- Both round trips of a Decision frame with its side, from those of kind 4. Assumes nothing.
use Prim.Native.Nat.{ℕ, zero, suc, ◌≤◌}
use mathlib.Core.List.{List, [], ◌∷◌, ◌++◌, append_assoc}
use Rattle.std.specs.Prelude.{Result, Ok, Err, ⊤}
use Rattle.std.specs.Result.{result_and}
use mathlib.Core.Path.{◌≡◌, ◌∙◌, ap, refl, sym}
use native.Mathlib.Omega.{arith}
use lib.Dec.{lit<}
use lib.ListN.{length, take, drop, get_or, length-append, length-drop, take-append-drop}
use lib.Seq.{take-take, take_at, drop_at, drop-cons, length-take-le}
use Rattle.types.specs.declared.Decision.{Decision}
use Rattle.wire.specs.Fields.{Bytes, u8_at, number_at, u16_at, le8, le_flag, le_bytes, le16, le32, le_f32, bytes_from}
use Rattle.wire.specs.Cell.{NoNan, nan_rewritten}
use Rattle.wire.specs.Frame.{frame_number, frame_fault, frame_head, check_frame}
use Rattle.wire.specs.declared.FrameError.{FrameError}
use Rattle.wire.proofs.Head.{head_says, head_bytes}
use Rattle.options.specs.Options.{le_option_f32}
use Rattle.options.specs.Enums.{le_action, le_reason}
use Rattle.frame_decision.specs.Slots.{le_slot, le_slots}
use Rattle.frame_decision.specs.DecisionFrame.{read_decision, le_estimate, decision_frame, decision_sorts, Typed}
use Rattle.frame_decision.proofs.Trips as kind4
use Rattle.frame_side.specs.declared.SideDecision.{SideDecision}
use Rattle.frame_side.specs.SideFrame.{with_side, without_side, beside, side_frame, read_side}
use Rattle.frame_side.proofs.Splice.{four}

-- ---- value, bytes, value

-- the head is sound, the byte that was put in stands at 94, and without it the frame is kind 4's
record PutIn (d : Decision) (side : ℕ) : Type 0 where
  head : check_frame 6 94 (side_frame d side) ≡ Ok tt
  byte : u8_at (side_frame d side) 94 ≡ side
  without : without_side (side_frame d side) ≡ decision_frame d

put_in : (d : Decision) (side : ℕ) → PutIn d side
unfolding side_frame check_frame decision_frame frame_head le_action le_reason le_slots le_slot le_estimate le_option_f32 le_f32 le8 le16 le32 le_bytes le_flag u8_at number_at u16_at
put_in d side = record { head = refl; byte = refl; without = refl }

reads_as : (d : Decision) (side : ℕ) → read_side (side_frame d side) ≡ beside (read_decision (decision_frame d)) side
unfolding read_side
reads_as d side = let p = put_in d side in rw (p.head, p.byte, p.without)

-- for each Decision and each side
pub value_back : (d : Decision) (side : ℕ) → Typed d → read_side (side_frame d side) ≡ Ok (record { decision = d; side = side })
value_back d side t = reads_as d side ∙ ap (λ (r : Result Decision FrameError). beside r side) (kind4.value_back d t)

-- ---- bytes, value, bytes

bytes_append : (a b : List ℕ) → Bytes a → Bytes b → Bytes (a ++ b)
unfolding Bytes u8_at
bytes_append [] b p q k = q k
bytes_append (x ∷ a) b p q zero = p 0
bytes_append (x ∷ a) b p q (suc k) = bytes_append a b (λ j. p (suc j)) q k

bytes_take : (n : ℕ) (s : List ℕ) → Bytes s → Bytes (take n s)
unfolding Bytes u8_at
bytes_take zero s p k = lit< tt
bytes_take (suc n) [] p k = lit< tt
bytes_take (suc n) (x ∷ s) p zero = p 0
bytes_take (suc n) (x ∷ s) p (suc k) = bytes_take n s (λ j. p (suc j)) k

bytes_drop : (n : ℕ) (s : List ℕ) → Bytes s → Bytes (drop n s)
unfolding Bytes u8_at
bytes_drop zero s p k = p k
bytes_drop (suc n) [] p k = lit< tt
bytes_drop (suc n) (x ∷ s) p k = bytes_drop n s (λ j. p (suc j)) k

bytes_head : Bytes (frame_head 4 93)
unfolding Bytes u8_at frame_head le16 le_bytes
bytes_head zero = lit< tt
bytes_head (suc zero) = lit< tt
bytes_head (suc (suc zero)) = lit< tt
bytes_head (suc (suc (suc zero))) = lit< tt
bytes_head (suc (suc (suc (suc k)))) = lit< tt

bytes_without : (s : List ℕ) → Bytes s → Bytes (without_side s)
bytes_without s p = bytes_append (frame_head 4 93) _ bytes_head (bytes_append (drop 4 (take 94 s)) (drop 95 s) (bytes_drop 4 (take 94 s) (bytes_take 94 s p)) (bytes_drop 95 s p))

first_four : (s : List ℕ) → 4 ≤ length s → bytes_from s 0 4 ≡ take 4 s
unfolding u8_at
first_four [] h = absurd (omega arith)
first_four (a ∷ []) h = absurd (omega arith)
first_four (a ∷ b ∷ []) h = absurd (omega arith)
first_four (a ∷ b ∷ c ∷ []) h = absurd (omega arith)
first_four (a ∷ b ∷ c ∷ d ∷ s) h = refl

-- the byte taken out and put in again
restored : (s : List ℕ) → length s ≡ 96 → frame_head 6 94 ≡ take 4 s → with_side (without_side s) (u8_at s 94) ≡ s
unfolding u8_at le8
restored s n h =
    let m = drop 4 (take 94 s) in
    let hn : length (frame_head 4 93) ≡ 4 = four 4 93 in
    let mn : length m ≡ 90 = let a = length-take-le 94 s (omega arith) in let b = length-drop 4 (take 94 s) in omega arith in
    let hm : length (frame_head 4 93 ++ m) ≡ 94 = let a = length-append (frame_head 4 93) m in omega arith in
    let f : without_side s ≡ (frame_head 4 93 ++ m) ++ drop 95 s = sym (append_assoc (frame_head 4 93) m (drop 95 s)) in
    let front : drop 4 (take 94 (without_side s)) ≡ m = ap (λ (x : List ℕ). drop 4 (take 94 x)) f ∙ ap (drop 4) (take_at (frame_head 4 93 ++ m) (drop 95 s) 94 hm) ∙ drop_at (frame_head 4 93) m 4 hn in
    let back : drop 94 (without_side s) ≡ drop 95 s = ap (drop 94) f ∙ drop_at (frame_head 4 93 ++ m) (drop 95 s) 94 hm in
    (λ i. h i ++ (front i ++ (get_or s 94 0 ∷ back i)))
    ∙ ap (λ (x : List ℕ). take 4 s ++ (m ++ x)) (sym (drop-cons s 94 0 (omega arith)))
    ∙ sym (append_assoc (take 4 s) m (drop 94 s))
    ∙ ap (λ (x : List ℕ). (x ++ m) ++ drop 94 s) (sym (take-take 4 94 s (omega arith)))
    ∙ ap (λ (x : List ℕ). x ++ drop 94 s) (take-append-drop 4 (take 94 s))
    ∙ take-append-drop 94 s

-- what an accepted frame says
opened : (c : Result ⊤ FrameError) (r : Result Decision FrameError) (side : ℕ) (v : SideDecision) → result_and c (beside r side) ≡ Ok v → (frame_number c ≡ 0) × ((r ≡ Ok v.decision) × (side ≡ v.side))
opened (Ok u) (Ok d) side v e =
    let k : ◌≡◌ {A = SideDecision} (record { decision = d; side = side }) v = cc in
    (refl, (ap (λ (w : SideDecision). Ok w.decision) k, ap (λ (w : SideDecision). w.side) k))
opened (Ok u) (Err f) side v e = absurd (cc)
opened (Err f) r side v e = absurd (cc)

module _ (s : List ℕ) (v : SideDecision) (e : read_side s ≡ Ok v) where
  accepts : (frame_fault 6 94 s ≡ 0) × ((read_decision (without_side s) ≡ Ok v.decision) × (u8_at s 94 ≡ v.side))
  unfolding read_side
  accepts = opened (check_frame 6 94 s) (read_decision (without_side s)) (u8_at s 94) v e

  -- kind 4's bytes, each NaN's bits become 7FC00000, with the side put in again
  pub bytes_back : Bytes s → side_frame v.decision v.side ≡ with_side (nan_rewritten decision_sorts (without_side s) 0) (u8_at s 94)
  unfolding side_frame
  bytes_back b = λ i. with_side (kind4.bytes_back (without_side s) v.decision accepts.1.0 (bytes_without s b) i) (sym accepts.1.1 i)

  -- the very bytes, where no float is a NaN
  pub bytes_same : Bytes s → NoNan decision_sorts (without_side s) 0 → side_frame v.decision v.side ≡ s
  unfolding side_frame
  bytes_same b n =
      let long = (head_says 6 94 s accepts.0).1.1 in
      (λ i. with_side (kind4.bytes_same (without_side s) v.decision accepts.1.0 (bytes_without s b) n i) (sym accepts.1.1 i))
      ∙ restored s long (head_bytes 6 94 s b accepts.0 ∙ first_four s (omega arith))
