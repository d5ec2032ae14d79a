-- A state carried over: what the code answers is the call. Assumes nothing.
use native.Mathlib.Omega.{arith}
use Rattle.wire.proofs.Head.{no_error_zero, room}
use Rattle.wire.specs.declared.FrameError.{FrameError}
use Rattle.std.specs.Result.{result_and}
use Rattle.std.specs.Prelude.{Result, Ok, Err, ⊤}
use Prim.Native.Nat.{ℕ, ◌≤◌, ◌<◌}
use mathlib.Core.Bool.{Bool, true, false, ◌&&◌, cond}
use mathlib.Core.List.{List, ◌++◌, append-nil}
use mathlib.Core.Path.{◌≡◌, refl, ap, sym, ◌∙◌}
use lib.ListN.{length, get_or, take, drop, drop_of_length-le}
use lib.Seq.{take-length}
use Rattle.config.specs.Default.{default_config}
use Rattle.triggers.specs.Update.{none_raised}
use Rattle.supervisor.specs.declared.Supervisor.{Supervisor}
use Rattle.wire.specs.Fields.{Bytes, u8_at}
use Rattle.wire.specs.Frame.{frame_head, room_fault, frame_written, frame_number, check_frame}
use Rattle.frame_state.specs.StateFrame.{state_at, state_valid, raised_read, raised_valid, read_state}
use Rattle.frame_state.proofs.Trips.{bytes_back}
use Rattle.flight.specs.Flight.{blank_flight}
use Rattle.instants.specs.Listed.{listed}
use Rattle.carry.specs.Carry.{last_is, have_ages, carried, widened, carry_error_number, carry}
use Rattle.carry.specs.declared.CarryError.{CarryError}
use Rattle.frame_wide.specs.Resized as resized
use Rattle.frame_wide.specs.WideState.{state_gaps, wide_state_frame}
use Rattle.frame_wide_trips.proofs.Claim.{state_laws}
use Rattle.calls.specs.Entry.{flight_keeps, FreshCall}
use Rattle.calls.specs.Widen.{after_old, widen_call}
use Rattle.entries.proofs.Buffers.{state_bytes_lem, frame_written_lem}

pub default_keeps : flight_keeps blank_flight ≡ false
unfolding blank_flight default_config
default_keeps = refl

-- a slice copied over one of its length
pub copied : (old l : List ℕ) → length l ≤ length old → take (length old) old ++ drop (length old) l ≡ old
copied old l h = rw (drop_of_length-le l {i = length old} h) (append-nil _ ∙ take-length old)

-- a state that is not refused is read
pub is_read : (s : List ℕ) → frame_number (read_state false s) ≡ 0 → read_state false s ≡ Ok (state_at s none_raised)
unfolding read_state raised_read
is_read s h = at (check_frame 5 184 s) (state_valid s && raised_valid false s) h
  where
    at : (a : Result ⊤ FrameError) (b : Bool) → frame_number (result_and a (cond b (Ok (state_at s none_raised)) (Err FrameError.OutOfRange))) ≡ 0 → result_and a (cond b (Ok (state_at s none_raised)) (Err FrameError.OutOfRange)) ≡ Ok (state_at s none_raised)
    at (Ok tt) true z = refl
    at (Ok tt) false z = absurd (no_error_zero FrameError.OutOfRange z)
    at (Err e) b z = absurd (no_error_zero e z)

abbrev answer : ℕ → List ℕ → FreshCall
answer n new = record { number = n; state = new }

-- the old frame is refused
pub old_refused : (old : List ℕ) (T : ℕ) (new : List ℕ) → (frame_number (read_state false old) ≡ 0 → ⊥) → widen_call old T new ≡ answer (frame_number (read_state false old)) new
unfolding widen_call
old_refused old T new h = at (read_state false old) h
  where
    at : (r : Result Supervisor FrameError) → (frame_number r ≡ 0 → ⊥) → after_old r T new ≡ answer (frame_number r) new
    at (Err e) h = refl
    at (Ok s) h = absurd (h refl)

module _ (s : Supervisor) (T : ℕ) (new : List ℕ) where
  abbrev frame : List ℕ
  frame = wide_state_frame (widened T s)

  abbrev written : FreshCall
  written = record { number = room_fault frame new; state = frame_written frame new }

  -- the two tests
  abbrev by_tests : (a b : Bool) → Result (List ℕ) CarryError
  by_tests a b = cond a (cond b (Ok (listed (carried T s))) (Err CarryError.NoAge)) (Err CarryError.OtherReading)

  turned_away_lem : (e : CarryError) → carry T s ≡ Err e → after_old (Ok s) T new ≡ answer (carry_error_number e) new
  unfolding carry
  turned_away_lem e h = at (last_is T s.last_now) (have_ages T s) h
    where
      at : (a b : Bool) → by_tests a b ≡ Err e → cond a (cond b written (answer 35 new)) (answer 34 new) ≡ answer (carry_error_number e) new
      at true true h = let z : ◌≡◌ {A = ℕ} 0 1 = cc in absurd (omega arith)
      at true false h = let v : CarryError.NoAge ≡ e = cc in ap (λ (x : CarryError). answer (carry_error_number x) new) v
      at false b h = let v : CarryError.OtherReading ≡ e = cc in ap (λ (x : CarryError). answer (carry_error_number x) new) v

  taken_over : (x : List ℕ) → carry T s ≡ Ok x → (after_old (Ok s) T new ≡ written) × (x ≡ listed (carried T s))
  unfolding carry
  taken_over x h = at (last_is T s.last_now) (have_ages T s) h
    where
      at : (a b : Bool) → by_tests a b ≡ Ok x → (cond a (cond b written (answer 35 new)) (answer 34 new) ≡ written) × (x ≡ listed (carried T s))
      at true true h = let v : listed (carried T s) ≡ x = cc in (refl, sym v)
      at true false h = let z : ◌≡◌ {A = ℕ} 0 1 = cc in absurd (omega arith)
      at false b h = let z : ◌≡◌ {A = ℕ} 0 1 = cc in absurd (omega arith)

module _ (old : List ℕ) (T : ℕ) (new : List ℕ) (ok : frame_number (read_state false old) ≡ 0) where
  abbrev s : Supervisor
  s = state_at old none_raised

  read_on : widen_call old T new ≡ after_old (Ok s) T new
  unfolding widen_call
  read_on = ap (λ (r : Result Supervisor FrameError). after_old r T new) (is_read old ok)

  pub carry_refused : (e : CarryError) → carry T s ≡ Err e → widen_call old T new ≡ answer (carry_error_number e) new
  carry_refused e h = read_on ∙ turned_away_lem s T new e h

  pub carry_taken : (x : List ℕ) → carry T s ≡ Ok x → widen_call old T new ≡ written s T new
  carry_taken x h = read_on ∙ (taken_over s T new x h).0

  -- the frame written is the old one with its instants carried over
  pub carried_image : Bytes old → 306 ≤ length new → (x : List ℕ) → carry T s ≡ Ok x → (frame_head 10 304 ++ resized.widened state_gaps x (drop 4 old)) ++ drop 306 new ≡ frame_written (wide_state_frame (widened T s)) new
  carried_image b room x h =
      ap (λ (l : List ℕ). (frame_head 10 304 ++ resized.widened state_gaps l (drop 4 old)) ++ drop 306 new) (taken_over s T new x h).1
      ∙ ap (λ (l : List ℕ). l ++ drop 306 new) (ap (λ (l : List ℕ). frame_head 10 304 ++ resized.widened state_gaps (listed (carried T s)) (drop 4 l)) (sym (bytes_back false old s (is_read old ok) b)) ∙ sym (state_laws.written s (carried T s)))
      ∙ sym (frame_written_lem (wide_state_frame (widened T s)) new 306 (state_laws.size (widened T s)) room)

-- what is read has the length of its kind, and slices are bytes
pub old_head : (s : List ℕ) → frame_number (read_state false s) ≡ 0 → length s ≡ 186
old_head s h = state_bytes_lem false (state_at s none_raised) s (is_read s h)

pub old_bytes : (s : List ℕ) → ((k : ℕ) → get_or s k 0 < 256) → Bytes s
unfolding Bytes u8_at
old_bytes s h = h
