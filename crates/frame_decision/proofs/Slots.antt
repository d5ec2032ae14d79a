-- One slot and all of them: the slots, their bytes, the slots; and the bytes, their slots, the bytes. Assumes nothing.
use Rattle.std.specs.Prelude.{Option, Some, None}
use Prim.Native.Nat.{ℕ, zero, suc, ◌+◌, ◌*◌, ◌≤◌}
use mathlib.Core.Path.{◌≡◌, ◌∙◌, ap, refl, sym}
use mathlib.Core.List.{List, [], ◌∷◌, ◌++◌}
use mathlib.Core.Bool.{true, ◌&&◌}
use native.Mathlib.Omega.{arith}
use lib.Dec.{eqb}
use lib.ListN.{length, get_or, length-append, get_or-append}
use lib.Seq.{get_or-append_seam}
use borrow.Author.Tests.{eqb-true}
use Rattle.types.specs.declared.Request.{Request}
use Rattle.types.specs.Numbers.{rank, index}
use Rattle.wire.specs.Fields.{u8_at, flag_at, byte_below, le_flag, le8, bytes_from}
use Rattle.wire.proofs.Whole.{first, second, elements_append}
use Rattle.options.specs.Options.{zeros, valid_option}
use Rattle.options.specs.Enums.{action_at, reason_at, le_action, le_reason}
use Rattle.options.proofs.Options.{option_bytes}
use Rattle.options.proofs.Enums.{action_back, reason_back, action_valid, reason_valid, action_bytes, reason_bytes}
use Rattle.frame_decision.specs.Slots.{slot_at, slots_at, slot_valid, slots_valid, le_slot, le_slots}

-- ---- the slot, its bytes, the slot
pub slot_back : (x : Option Request) → slot_at (le_slot x) 0 ≡ x
unfolding slot_at le_slot reason_at action_at le_reason le_action flag_at u8_at le_flag le8
slot_back None = refl
slot_back (Some q) = λ i. Some (record { reason = reason_back q.reason i; action = action_back q.action i })

pub slot_valid_lem : (x : Option Request) → slot_valid (le_slot x) 0 ≡ true
unfolding slot_valid valid_option zeros byte_below le_slot le_reason le_action u8_at le_flag le8
slot_valid_lem None = refl
slot_valid_lem (Some q) = λ i. reason_valid q.reason i && action_valid q.action i

-- ---- the bytes, their slot, the bytes
module _ (s : List ℕ) (i : ℕ) (v : slot_valid s i ≡ true) where
  both : (valid_option s i 2 && byte_below s (i + 1) 19) ≡ true
  unfolding slot_valid
  both = first (valid_option s i 2 && byte_below s (i + 1) 19) (byte_below s (i + 2) 5) v

  reason_number : index (reason_at s (i + 1)) ≡ u8_at s (i + 1)
  unfolding le_reason le8 u8_at
  reason_number = let e = reason_bytes s (i + 1) (second (valid_option s i 2) (byte_below s (i + 1) 19) both) in cc

  action_number : rank (action_at s (i + 2)) ≡ u8_at s (i + 2)
  unfolding slot_valid le_action le8 u8_at
  action_number = let e = action_bytes s (i + 2) (second (valid_option s i 2 && byte_below s (i + 1) 19) (byte_below s (i + 2) 5) v) in cc

  -- bytes of 0 after the flag
  both_zero : zeros s (i + 1) 2 ≡ true → (u8_at s (i + 1) ≡ 0) × (u8_at s (i + 2) ≡ 0)
  unfolding zeros
  both_zero z =
      let two : i + 1 + 1 ≡ i + 2 = omega arith in
      let rest = second (eqb (u8_at s (i + 1)) 0) (eqb (u8_at s (i + 1 + 1)) 0 && true) z in (
        eqb-true (u8_at s (i + 1)) 0 (first (eqb (u8_at s (i + 1)) 0) (eqb (u8_at s (i + 1 + 1)) 0 && true) z),
        eqb-true (u8_at s (i + 2)) 0 (rw two at (first (eqb (u8_at s (i + 1 + 1)) 0) true rest)),
      )

  slot_bytes : le_slot (slot_at s i) ≡ bytes_from s i 3
  unfolding slot_at le_slot le_flag le8 u8_at
  slot_bytes =
      let two : i + 2 ≡ i + 1 + 1 = omega arith in
      option_bytes le_slot (Some (record { reason = reason_at s (i + 1); action = action_at s (i + 2) })) None s i 2 (u8_at s (i + 1) ∷ u8_at s (i + 2) ∷ [])
      (first (valid_option s i 2) (byte_below s (i + 1) 19) both)
      (λ j. 1 ∷ reason_number j ∷ action_number j ∷ [])
      (λ z. λ j. 0 ∷ sym (both_zero z).0 j ∷ sym (both_zero z).1 j ∷ [])
      ∙ (λ j. u8_at s i ∷ u8_at s (i + 1) ∷ u8_at s (two j) ∷ [])

-- ---- all slots

slots_length : (s : List ℕ) (n : ℕ) → length (slots_at s n) ≡ n
unfolding slots_at
slots_length s zero = refl
slots_length s (suc n) = let h = slots_length s n in let e = length-append (slots_at s n) (slot_at s (7 + 3 * n) ∷ []) in omega arith

-- the first n slots of a longer list
slots_prefix : (n : ℕ) (l m : List (Option Request)) → n ≤ length l → le_slots n (l ++ m) ≡ le_slots n l
unfolding le_slots
slots_prefix zero l m h = refl
slots_prefix (suc n) l m h = λ i. slots_prefix n l m (omega arith) i ++ le_slot (get_or-append l m None n (omega arith) i)

pub slots_bytes : (s : List ℕ) (n : ℕ) → slots_valid s n ≡ true → le_slots n (slots_at s n) ≡ bytes_from s 7 (3 * n)
unfolding le_slots slots_at slots_valid
slots_bytes s zero h = refl
slots_bytes s (suc n) h =
    let l = slots_at s n in
    let x = slot_at s (7 + 3 * n) in
    let len = slots_length s n in
    let more : 3 * n + 3 ≡ 3 * suc n = omega arith in
    let last : get_or (l ++ (x ∷ [])) n None ≡ x = ap (λ (k : ℕ). get_or (l ++ (x ∷ [])) k None) (sym len) ∙ get_or-append_seam l x [] None in
    (λ j.
    (slots_prefix n l (x ∷ []) (omega arith) ∙ slots_bytes s n (first (slots_valid s n) (slot_valid s (7 + 3 * n)) h)) j
    ++ (ap le_slot last ∙ slot_bytes s (7 + 3 * n) (second (slots_valid s n) (slot_valid s (7 + 3 * n)) h)) j)
    ∙ sym (elements_append 0 s 7 (3 * n) 3)
    ∙ ap (bytes_from s 7) more
