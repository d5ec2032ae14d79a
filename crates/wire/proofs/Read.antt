-- A frame that was read: its head was accepted, and the bytes of its fields are in range. Assumes nothing.
use mathlib.Core.Path.{◌≡◌, refl}
use mathlib.Core.Bool.{Bool, true, false, cond}
use Rattle.std.specs.Prelude.{Result, Ok, Err, ⊤}
use Rattle.std.specs.Result.{result_and}
use Rattle.wire.specs.declared.FrameError.{FrameError}

-- a value whose bytes are in range, or the refusal
abbrev pub in_range : {A : Type 0} → Bool → A → Result A FrameError
in_range v x = cond v (Ok x) (Err FrameError.OutOfRange)

pub behind_head : {A : Type 0} (h : Result ⊤ FrameError) (r : Result A FrameError) (x : A) → result_and h r ≡ Ok x → (h ≡ Ok tt) × (r ≡ Ok x)
behind_head (Ok tt) r x e = (refl, e)
behind_head (Err d) r x e = cc

pub within_range : {A : Type 0} (v : Bool) (y x : A) → in_range v y ≡ Ok x → (v ≡ true) × (y ≡ x)
within_range true y x e = (refl, cc)
within_range false y x e = cc

pub accepted : {A : Type 0} (h : Result ⊤ FrameError) (v : Bool) (y x : A) → result_and h (in_range v y) ≡ Ok x → (h ≡ Ok tt) × ((v ≡ true) × (y ≡ x))
accepted h v y x e = let b = behind_head h (in_range v y) x e in (b.0, within_range v y x b.1)
