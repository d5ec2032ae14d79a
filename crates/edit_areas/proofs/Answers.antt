-- The first refusal of several, the answer that it gives, and what a call then leaves. Assumes nothing.
use Prim.Native.Nat.{ℕ, zero, suc, ◌<◌}
use native.Mathlib.Omega.{arith}
use mathlib.Core.Path.{◌≡◌, refl, sym, ap, ◌∙◌}
use mathlib.Core.List.{List}
use borrow.Author.Tests.{ne_eqb}
use Rattle.wire.specs.Frame.{room_fault, frame_written}
use Rattle.areas.specs.Held.{held, answer}
use Rattle.areas.specs.Calls.{code}
use Rattle.frame_areas.specs.AreaFrame.{Sent}
use Rattle.frame_areas.specs.AreasFrame.{areas_frame}
use Rattle.frame_areas.proofs.Walk.{first_some}
use Rattle.edit_areas.specs.Edit.{edited}

pub code_answer : (n : ℕ) (l : List Sent) → code (answer n l) ≡ n
code_answer zero l = refl
code_answer (suc n) l = refl

pub held_as : (n : ℕ) (l : List Sent) → code (answer n l) ≡ 0 → (n ≡ 0) × (answer n l ≡ held l)
held_as n l e = let z = sym (code_answer n l) ∙ e in (z, ap (λ (k : ℕ). answer k l) z)

-- a refusal comes first, and nothing is written
pub declined : (n f : ℕ) (l : List Sent) (output : List ℕ) → f ≡ n → 0 < f → (f ≡ (edited n l output).number) × (output ≡ (edited n l output).output)
declined n f l output e h = rw (← e, ne_eqb f 0 (λ z. omega (arith, z, h)), first_some f (room_fault (areas_frame l) output) h) (refl, refl)

-- none: the frame, where it has room
pub allowed : (n : ℕ) (l m : List Sent) (output : List ℕ) → n ≡ 0 → l ≡ m
    → ((edited n l output).number ≡ room_fault (areas_frame m) output) × ((edited n l output).output ≡ frame_written (areas_frame m) output)
allowed n l m output e k = rw (e, k) (refl, refl)
