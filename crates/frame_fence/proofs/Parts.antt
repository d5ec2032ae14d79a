-- A float read from a part of a list of bytes is that of the list. Assumes nothing.
use Prim.Native.Nat.{ℕ, ◌+◌, ◌<◌}
use mathlib.Core.Path.{◌≡◌, ap}
use mathlib.Core.List.{List}
use native.Mathlib.Omega.{arith}
use lib.ListN.{take, drop}
use lib.Seq.{get_or-take, get_or-drop}
use lib.Ieee.{binary32, of_bits}
use Rattle.wire.specs.Fields.{u8_at, f32_at}
use Rattle.wire.proofs.Number.{u32_is}

byte : (s : List ℕ) (i n k j : ℕ) → k < n → i + k ≡ j → u8_at (take n (drop i s)) k ≡ u8_at s j
unfolding u8_at
byte s i n k j h e = rw (get_or-take n (drop i s) k 0 h, get_or-drop, e)

pub float_part : (s : List ℕ) (i n k j : ℕ) → k + 3 < n → i + k ≡ j → f32_at (take n (drop i s)) k ≡ f32_at s j
unfolding f32_at
float_part s i n k j h e =
    ap (of_bits binary32)
    (rw (
      u32_is (take n (drop i s)) k,
      u32_is s j,
      byte s i n k j (omega arith) e,
      byte s i n (k + 1) (j + 1) (omega arith) (omega arith),
      byte s i n (k + 2) (j + 2) (omega arith) (omega arith),
      byte s i n (k + 3) (j + 3) (omega arith) (omega arith),
    ))
