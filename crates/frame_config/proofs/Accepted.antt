-- A Config frame that is accepted: its head, its flag, its length, and what is read. Assumes nothing.
use Prim.Native.Nat.{ℕ}
use mathlib.Core.Bool.{true}
use mathlib.Core.List.{List}
use mathlib.Core.Path.{◌≡◌, refl, ap}
use lib.ListN.{length}
use Rattle.std.specs.Prelude.{Result, Ok, Err, ⊤}
use Rattle.std.specs.Result.{is_ok, result_and}
use Rattle.wire.specs.declared.FrameError.{FrameError}
use Rattle.wire.specs.Fields.{byte_below}
use Rattle.wire.specs.Frame.{frame_number, check_frame}
use Rattle.wire.proofs.Read.{accepted}
use Rattle.wire.proofs.Head.{accepted_length}
use Rattle.frame_config.specs.ConfigFrame.{config_kind, keeps_raised, config_at, check_config_frame, read_config}

-- the head of either kind
abbrev pub head_checked : List ℕ → Result ⊤ FrameError
head_checked s = check_frame (config_kind (keeps_raised s)) 244 s

read_checked : {A : Type 0} (c : Result ⊤ FrameError) (x : A) → frame_number (result_and c (Ok x)) ≡ frame_number c
read_checked (Ok tt) x = refl
read_checked (Err e) x = refl

-- what is read has the number of its check
pub read_number : (s : List ℕ) → frame_number (read_config s) ≡ frame_number (check_config_frame s)
unfolding read_config
read_number s = read_checked (check_config_frame s) (config_at s (keeps_raised s))

module _ (s : List ℕ) (h : check_config_frame s ≡ Ok tt) where
  pub tests : (head_checked s ≡ Ok tt) × (byte_below s 9 2 ≡ true)
  unfolding check_config_frame
  tests = let a = accepted (head_checked s) (byte_below s 9 2) tt tt h in (a.0, a.1.0)

  pub length-due : length s ≡ 246
  length-due = accepted_length (config_kind (keeps_raised s)) 244 s (ap is_ok tests.0)

  pub config_read : read_config s ≡ Ok (config_at s (keeps_raised s))
  unfolding read_config
  config_read = ap (λ (r : Result ⊤ FrameError). result_and r (Ok (config_at s (keeps_raised s)))) h
