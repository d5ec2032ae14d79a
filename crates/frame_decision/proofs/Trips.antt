-- Both round trips of a Decision frame. A NaN is one value here, so value, bytes, value says nothing of its bits; bytes, value, bytes gives the same bytes
-- but for those of a NaN. Assumes nothing.
use Rattle.std.specs.Prelude.{Some, None, unwrap_or, Result, Ok, Err, ⊤}
use Rattle.std.specs.Result.{result_and}
use Prim.Native.Nat.{ℕ, ◌+◌}
use mathlib.Core.Path.{◌≡◌, ◌∙◌, ap, refl, sym, subst}
use mathlib.Core.List.{List, [], ◌∷◌, ◌++◌}
use mathlib.Core.Bool.{Bool, true, false, cond, ◌&&◌}
use lib.Dec.{T}
use lib.ListN.{length, get_or}
use lib.Ieee.{binary32, fits, of_bits}
use lib.Ieee.Bits.{of_bits-fits}
use Rattle.types.specs.declared.Decision.{Decision}
use Rattle.wire.specs.Fields.{Bytes, u8_at, number_at, u16_at, flag_at, u32_at, f32_at, byte_below, le8, le_flag, le_bytes, le16, le32, le_f32, elements_from}
use Rattle.wire.specs.Cell.{NoNan, nan_rewritten}
use Rattle.wire.specs.Frame.{frame_number, frame_fault, frame_head, check_frame}
use Rattle.wire.specs.declared.FrameError.{FrameError}
use Rattle.wire.proofs.Fields.{flag_back, flag_valid, f32_back, flag_bytes, f32_fits}
use Rattle.wire.proofs.Head.{head_says, head_bytes}
use Rattle.wire.proofs.Whole.{whole, each}
use Rattle.wire.proofs.Cells.{nan_free}
use Rattle.options.specs.Options.{zeros, valid_option, option_f32_at, le_option_f32}
use Rattle.options.specs.Enums.{action_at, reason_at, le_action, le_reason}
use Rattle.options.proofs.Options.{option_f32_back, option_f32_valid, option_f32_bytes}
use Rattle.options.proofs.Enums.{action_back, reason_back, action_valid, reason_valid, action_bytes, reason_bytes}
use Rattle.frame_decision.specs.Slots.{slot_at, slots_at, slot_valid, slots_valid, le_slot, le_slots}
use Rattle.frame_decision.specs.DecisionFrame.{estimate_at, decision_at, decision_tests, decision_valid, read_decision, le_estimate, decision_frame, decision_sorts, Typed}
use Rattle.frame_decision.proofs.Slots.{slot_back, slot_valid_lem, slots_bytes}

-- ---- value, bytes, value

slots_each : (d : Decision) → slots_at (decision_frame d) 19 ≡ elements_from None d.active.reqs 0 19
unfolding slots_at slot_at reason_at action_at decision_frame frame_head le_action le_reason le_slots le_slot le_estimate le_option_f32 le_f32 le8 le16 le32 le_bytes le_flag u8_at flag_at
slots_each d =
    let l = d.active.reqs in
    λ i.
    slot_back (get_or l 0 None) i ∷
    slot_back (get_or l 1 None) i ∷
    slot_back (get_or l 2 None) i ∷
    slot_back (get_or l 3 None) i ∷
    slot_back (get_or l 4 None) i ∷
    slot_back (get_or l 5 None) i ∷
    slot_back (get_or l 6 None) i ∷
    slot_back (get_or l 7 None) i ∷
    slot_back (get_or l 8 None) i ∷
    slot_back (get_or l 9 None) i ∷
    slot_back (get_or l 10 None) i ∷
    slot_back (get_or l 11 None) i ∷
    slot_back (get_or l 12 None) i ∷
    slot_back (get_or l 13 None) i ∷
    slot_back (get_or l 14 None) i ∷
    slot_back (get_or l 15 None) i ∷
    slot_back (get_or l 16 None) i ∷
    slot_back (get_or l 17 None) i ∷
    slot_back (get_or l 18 None) i ∷
    []

slots : (d : Decision) → length d.active.reqs ≡ 19 → slots_at (decision_frame d) 19 ≡ d.active.reqs
slots d e = slots_each d ∙ whole None 19 d.active.reqs e

fields : (d : Decision) → Typed d → decision_at (decision_frame d) ≡ d
unfolding decision_at estimate_at option_f32_at reason_at action_at decision_frame frame_head le_action le_reason le_slots le_slot le_estimate le_option_f32 le_f32 le8 le16 le32 le_bytes le_flag u8_at number_at flag_at u32_at f32_at
fields d t =
    λ i.
    record {
      action = action_back d.action i;
      reason = reason_back d.reason i;
      requested = action_back d.requested i;
      active = record { reqs = slots d t.nineteen i };
      position_valid = flag_back d.position_valid i;
      clock_fault = flag_back d.clock_fault i;
      energy =
          record {
            rtl_wh = f32_back d.energy.rtl_wh t.rtl i;
            land_wh = f32_back d.energy.land_wh t.land i;
            reserve_wh = f32_back d.energy.reserve_wh t.reserve i;
            remaining_wh = option_f32_back d.energy.remaining_wh t.remaining i;
            margin_wh = option_f32_back d.energy.margin_wh t.margin i;
            insufficient_for_landing = flag_back d.energy.insufficient_for_landing i;
          };
      fence_dist_m = option_f32_back d.fence_dist_m t.fence i;
      disarm_eligible = flag_back d.disarm_eligible i;
    }

head : (d : Decision) → check_frame 4 93 (decision_frame d) ≡ Ok tt
unfolding check_frame decision_frame frame_head le_action le_reason le_slots le_slot le_estimate le_option_f32 le_f32 le8 le16 le32 le_bytes le_flag u8_at number_at u16_at
head d = refl

slots_valid_lem : (d : Decision) → slots_valid (decision_frame d) 19 ≡ true
unfolding slots_valid slot_valid valid_option zeros byte_below decision_frame frame_head le_action le_reason le_slots le_slot le_estimate le_option_f32 le_f32 le8 le16 le32 le_bytes le_flag u8_at
slots_valid_lem d =
    let l = d.active.reqs in
    λ i.
    true
    && slot_valid_lem (get_or l 0 None) i
    && slot_valid_lem (get_or l 1 None) i
    && slot_valid_lem (get_or l 2 None) i
    && slot_valid_lem (get_or l 3 None) i
    && slot_valid_lem (get_or l 4 None) i
    && slot_valid_lem (get_or l 5 None) i
    && slot_valid_lem (get_or l 6 None) i
    && slot_valid_lem (get_or l 7 None) i
    && slot_valid_lem (get_or l 8 None) i
    && slot_valid_lem (get_or l 9 None) i
    && slot_valid_lem (get_or l 10 None) i
    && slot_valid_lem (get_or l 11 None) i
    && slot_valid_lem (get_or l 12 None) i
    && slot_valid_lem (get_or l 13 None) i
    && slot_valid_lem (get_or l 14 None) i
    && slot_valid_lem (get_or l 15 None) i
    && slot_valid_lem (get_or l 16 None) i
    && slot_valid_lem (get_or l 17 None) i
    && slot_valid_lem (get_or l 18 None) i

valid : (d : Decision) → decision_valid (decision_frame d) ≡ true
unfolding decision_valid valid_option zeros byte_below decision_frame frame_head le_action le_reason le_slots le_slot le_estimate le_option_f32 le_f32 le8 le16 le32 le_bytes le_flag u8_at
valid d =
    λ i.
    slots_valid_lem d i
    && action_valid d.action i
    && reason_valid d.reason i
    && action_valid d.requested i
    && flag_valid d.position_valid i
    && flag_valid d.clock_fault i
    && option_f32_valid d.energy.remaining_wh i
    && option_f32_valid d.energy.margin_wh i
    && flag_valid d.energy.insufficient_for_landing i
    && option_f32_valid d.fence_dist_m i
    && flag_valid d.disarm_eligible i

pub value_back : (d : Decision) → Typed d → read_decision (decision_frame d) ≡ Ok d
unfolding read_decision
value_back d t = simp (head d, valid d, fields d t)

-- ---- bytes, value, bytes

module _ (s : List ℕ) (b : Bytes s) (h : frame_fault 4 93 s ≡ 0) (v : decision_valid s ≡ true) where
  cells : decision_frame (decision_at s) ≡ nan_rewritten decision_sorts s 0
  unfolding decision_valid decision_at decision_frame estimate_at le_estimate le_f32 le32 le_bytes u8_at
  cells =
      let f = each (slots_valid s 19) (decision_tests s) v in
      let t0 = f.1 in
      let t1 = t0.1 in
      let t2 = t1.1 in
      let t3 = t2.1 in
      let t4 = t3.1 in
      let t5 = t4.1 in
      let t6 = t5.1 in
      let t7 = t6.1 in
      let t8 = t7.1 in
      let t9 = t8.1 in
      let head = head_bytes 4 93 s b h in
      let action = action_bytes s 4 t0.0 in
      let reason = reason_bytes s 5 t1.0 in
      let requested = action_bytes s 6 t2.0 in
      let active = slots_bytes s 19 f.0 in
      let position = flag_bytes s 64 t3.0 in
      let clock = flag_bytes s 65 t4.0 in
      let remaining = option_f32_bytes s 78 t5.0 in
      let margin = option_f32_bytes s 83 t6.0 in
      let insufficient = flag_bytes s 88 t7.0 in
      let fence = option_f32_bytes s 89 t8.0 in
      let disarm = flag_bytes s 94 t9.0 in
      λ i.
      head i ++ (action i ++ (reason i ++ (requested i ++ (active i ++ (position i ++ (clock i
      ++ ((le_f32 (f32_at s 66) ++ (le_f32 (f32_at s 70) ++ (le_f32 (f32_at s 74) ++ (remaining i ++ (margin i ++ insufficient i)))))
      ++ (fence i ++ disarm i))))))))

-- what an accepted frame says
opened : (c : Result ⊤ FrameError) (v : Bool) (x d : Decision) → result_and c (cond v (Ok x) (Err FrameError.OutOfRange)) ≡ Ok d → (frame_number c ≡ 0) × ((v ≡ true) × (x ≡ d))
opened (Ok u) true x d e = (refl, (refl, cc))
opened (Ok u) false x d e = absurd (cc)
opened (Err f) v x d e = absurd (cc)

module _ (s : List ℕ) (d : Decision) (e : read_decision s ≡ Ok d) where
  accepts : (frame_fault 4 93 s ≡ 0) × ((decision_valid s ≡ true) × (decision_at s ≡ d))
  unfolding read_decision
  accepts = opened (check_frame 4 93 s) (decision_valid s) (decision_at s) d e

  -- bytes, value, bytes: each NaN's bits become 7FC00000, the head is two fields of two bytes
  pub bytes_back : Bytes s → decision_frame d ≡ nan_rewritten decision_sorts s 0
  bytes_back b = ap decision_frame (sym accepts.1.1) ∙ cells s b accepts.0 accepts.1.0

  -- the very bytes, where no float is a NaN
  pub bytes_same : Bytes s → NoNan decision_sorts s 0 → decision_frame d ≡ s
  bytes_same b n = bytes_back b ∙ nan_free decision_sorts s 0 b n ∙ whole 0 95 s (head_says 4 93 s accepts.0).1.1

-- what was read is within its types
option_fits : (s : List ℕ) (i : ℕ) → T (fits binary32 (unwrap_or (option_f32_at s i) (of_bits binary32 0)))
unfolding option_f32_at
option_fits s i = go (flag_at s i)
  where
    go : (b : Bool) → T (fits binary32 (unwrap_or (cond b (Some (f32_at s (i + 1))) None) (of_bits binary32 0)))
    go true = f32_fits s (i + 1)
    go false = of_bits-fits binary32 0

pub at_typed : (s : List ℕ) → Typed (decision_at s)
unfolding decision_at estimate_at slots_at
at_typed s =
    record {
      nineteen = refl;
      rtl = f32_fits s 66;
      land = f32_fits s 70;
      reserve = f32_fits s 74;
      remaining = option_fits s 78;
      margin = option_fits s 83;
      fence = option_fits s 89;
    }

pub read_typed : (s : List ℕ) (d : Decision) → read_decision s ≡ Ok d → Typed d
read_typed s d e = subst Typed (accepts s d e).1.1 (at_typed s)
