-- The program's turns: it answers what it can of the bytes that it has read, writes the answers out, and reads a block where nothing was left to answer. Assumes nothing.
use Rattle.std.specs.Prelude.{ℕ, ◌≤◌, cond, List, [], ◌++◌, ◌≡◌, eqb, length, take, drop}
use Rattle.std.proofs.Math.Seq.{slice}
use Rattle.stream.specs.declared.Due.{Due}
use Rattle.stream.specs.declared.Session.{Session}
use Rattle.stream.specs.Stream.{Progress, in_flight, setup_frame, fly_frames, end_bytes}
use Rattle.decided.specs.declared.Kept.{Kept}
use Rattle.decided.specs.Decided.{State, begun, answer, written_from, decided}

-- the state of a session, whose areas held are the first bytes of a slice
abbrev pub state : Session → List ℕ → State
state s held = record { due = s.due; flight = s.flight; supervisor = s.supervisor; areas = take s.areas held; refused = s.refused }

-- ---- a turn on the bytes that were read

-- the state then, how many of the bytes were answered, and what is written
pub record Told : Type 0 where
  pub after : State
  pub taken : ℕ
  pub bytes : List ℕ

-- where a kind 1 or 2 is due: the frame at the front, where it is whole
unfoldable pub one_frame : State → List ℕ → Told
one_frame s input =
    let n = setup_frame s.due input in
    let a = cond (eqb n 0) (record { after = s; bytes = [] }) (answer s (take n input)) in
    record { after = a.after; taken = n; bytes = a.bytes }

-- where a kind 3 is due: as many frames as an output block of so many bytes has room for
abbrev pub flown : State → Progress → Told
flown s p = record { after = record { due = p.due; flight = s.flight; supervisor = p.supervisor; areas = p.areas; refused = s.refused }; taken = p.taken; bytes = p.written }

unfoldable pub turn : ℕ → State → List ℕ → Told
turn size s input = cond (in_flight s.due) (flown s (fly_frames s.flight s.due s.supervisor s.areas input size)) (one_frame s input)

-- ---- the rest of a block

-- the bytes from a place up to an end moved to the front; later bytes stay
unfoldable pub moved_front : ℕ → ℕ → List ℕ → List ℕ
moved_front from end s = slice from end s ++ drop (length (slice from end s)) s

-- ---- turn after turn

-- between two turns: the state, and the bytes that were read and not yet answered
pub record Pending : Type 0 where
  pub now : State
  pub rest : List ℕ

abbrev pub pending : Kept → List ℕ → List ℕ → Pending
pending k input held = record { now = state k.session held; rest = slice k.from k.have input }

-- a turn, with an output block of so many bytes: where nothing was left to answer, this block is read behind the rest
unfoldable pub next : ℕ → Pending → List ℕ → Pending
next size p block =
    let t = turn size p.now p.rest in
    record { now = t.after; rest = cond (eqb t.taken 0) (p.rest ++ block) (drop t.taken p.rest) }

-- what was read between two places: the bytes behind those of the first
abbrev pub newly : Pending → Pending → List ℕ
newly p q = drop (length p.rest) q.rest

-- before the first read
unfoldable pub started : Pending
started = record { now = begun; rest = [] }

-- turns from the start up to here, each with the block that it read, if it read one
pub data Turns (size : ℕ) : Pending → Type 0 where
  start : Turns size started
  turned : (p : Pending) (block : List ℕ) → Turns size p → Turns size (next size p block)

-- all that was read on the way
unfoldable pub read_by : {size : ℕ} {p : Pending} → Turns size p → List ℕ
read_by start = []
read_by {size} (turned p block t) = read_by t ++ cond (eqb (turn size p.now p.rest).taken 0) block []

-- all that was written
unfoldable pub written_by : {size : ℕ} {p : Pending} → Turns size p → List ℕ
written_by start = []
written_by {size} (turned p block t) = written_by t ++ (turn size p.now p.rest).bytes

-- the program, where its output block has room for an answer: what was written so far, and what is written from here on for whatever more is read, is `decided` of the
-- whole; so it is where the input ends, with nothing left to answer, and after a refusal with what was written so far
pub record ProgramClaim : Type 0 where
  pub so_far : {size : ℕ} {p : Pending} (t : Turns size p) (more : List ℕ) → 95 ≤ size → written_by t ++ written_from p.now (p.rest ++ more) ≡ decided (read_by t ++ more)
  pub at_the_end : {size : ℕ} {p : Pending} (t : Turns size p) → 95 ≤ size → (turn size p.now p.rest).taken ≡ 0 → written_by t ++ end_bytes p.now.due (length p.rest) ≡ decided (read_by t)
  pub refused : {size : ℕ} {p : Pending} (t : Turns size p) (more : List ℕ) → 95 ≤ size → p.now.due ≡ Due.Nothing → written_by t ≡ decided (read_by t ++ more)
