-- A refusal frame has 6 bytes. Assumes nothing.
use Prim.Native.Nat.{ℕ}
use mathlib.Core.Path.{◌≡◌, refl}
use lib.ListN.{length}
use Rattle.wire.specs.Fields.{le_bytes, le16}
use Rattle.wire.specs.Frame.{frame_head}
use Rattle.frame_refusal.specs.RefusalFrame.{refusal_frame}

pub size : (n : ℕ) → length (refusal_frame n) ≡ 6
unfolding refusal_frame frame_head le_bytes le16
size n = refl
