-- Both round trips of a refusal frame. Assumes nothing.
use Prim.Native.Nat.{ℕ, ◌<◌, ◌^◌}
use mathlib.Core.Path.{◌≡◌, ◌∙◌, ap, refl, sym}
use mathlib.Core.List.{List, ◌++◌}
use Rattle.std.specs.Prelude.{Result, Ok, Err, ⊤}
use Rattle.std.specs.Result.{result_and}
use Rattle.wire.specs.declared.FrameError.{FrameError}
use Rattle.wire.specs.Fields.{Bytes, u8_at, number_at, u16_at, le_bytes, le16}
use Rattle.wire.specs.Frame.{frame_number, frame_head, check_frame}
use Rattle.wire.proofs.Fields.{u16_back, u16_bytes}
use Rattle.wire.proofs.Head.{head_says, head_bytes}
use Rattle.wire.proofs.Whole.{whole}
use Rattle.frame_refusal.specs.RefusalFrame.{read_refusal, refusal_frame}

head : (n : ℕ) → check_frame 255 4 (refusal_frame n) ≡ Ok tt
unfolding check_frame refusal_frame frame_head u8_at number_at u16_at le_bytes le16
head n = refl

number : (n : ℕ) → n < 2 ^ 16 → u16_at (refusal_frame n) 4 ≡ n
unfolding refusal_frame frame_head u8_at number_at u16_at le_bytes le16
number n h = u16_back n h

-- value, bytes, value: for each number of two bytes
pub value_back : (n : ℕ) → n < 2 ^ 16 → read_refusal (refusal_frame n) ≡ Ok n
unfolding read_refusal
value_back n h = simp (head n, number n h)

-- what an accepted frame says
opened : (c : Result ⊤ FrameError) (m n : ℕ) → result_and c (Ok m) ≡ Ok n → (frame_number c ≡ 0) × (m ≡ n)
opened (Ok u) m n e = (refl, cc)
opened (Err f) m n e = absurd (cc)

-- bytes, value, bytes
pub bytes_back : (s : List ℕ) (n : ℕ) → Bytes s → read_refusal s ≡ Ok n → refusal_frame n ≡ s
unfolding read_refusal refusal_frame
bytes_back s n b e =
    let o = opened (check_frame 255 4 s) (u16_at s 4) n e in
    (λ j. head_bytes 255 4 s b o.0 j ++ (ap le16 (sym o.1) ∙ u16_bytes s 4 b) j) ∙ whole 0 6 s (head_says 255 4 s o.0).1.1
