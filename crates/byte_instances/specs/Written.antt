-- Small instances of what `decide` writes, and of what single frames are answered with: what its code and its definitions could be bent alike in. Assumes nothing.
use Rattle.std.specs.Prelude.{ℕ, ◌≡◌, List, [], ◌∷◌, ◌++◌}
use Rattle.config.specs.declared.Config.{Config}
use Rattle.supervisor.specs.declared.Supervisor.{Supervisor}
use Rattle.frame_refusal.specs.RefusalFrame.{refusal_frame}
use Rattle.flight.specs.declared.Flight.{Flight}
use Rattle.stream.specs.declared.Due.{Due}
use Rattle.stream.specs.Stream.{Flown, answer_fence, answer_frame, next_frame}
use Rattle.decided.specs.Decided.{decided}
use Rattle.byte_instances.specs.Frames.{telemetry, fence}

-- a kind 3 without its body
abbrev pub bare : List ℕ
bare = 2 ∷ 0 ∷ 3 ∷ 0 ∷ []

-- a kind 13 of no area, and one that counts an area which is not there
abbrev pub no_area : List ℕ
no_area = 3 ∷ 0 ∷ 13 ∷ 0 ∷ 0 ∷ []

abbrev pub area_missing : List ℕ
area_missing = 3 ∷ 0 ∷ 13 ∷ 0 ∷ 1 ∷ []

-- a refusal: the areas held stay, and nothing is due any more
abbrev pub refused_there : ℕ → Supervisor → List ℕ → Flown
refused_there n s areas = record { due = Due.Nothing; supervisor = s; areas = areas; bytes = refusal_frame n }

pub record WrittenInstances : Type 0 where
  -- "Where the input ends at a frame boundary, even before the first frame, it ends and writes no more"; inside a frame it is short
  pub at_a_boundary : decided [] ≡ []
  pub inside_a_frame : decided (4 ∷ []) ≡ refusal_frame 1
  -- "at the first refusal it writes one kind 255 frame and ends"
  pub first_refusal : decided (bare ++ bare) ≡ refusal_frame 2
  -- the fence frame is accepted, and the number is that of the rule that it breaks
  pub fence_refused : (cfg : Config) → (answer_fence cfg (fence 2)).bytes ≡ refusal_frame 10
  -- a step is answered where its whole answer has room
  pub room_of_94 : next_frame Due.Telemetry telemetry 94 ≡ 0
  pub room_of_95 : next_frame Due.Telemetry telemetry 95 ≡ 106
  -- "at most one before each kind 3, checked when read, which holds until the next one"
  pub first_areas : (f : Flight) (s : Supervisor) (held : List ℕ) → answer_frame f Due.Telemetry s held no_area ≡ record { due = Due.AfterAreas; supervisor = s; areas = no_area; bytes = [] }
  pub second_areas : (f : Flight) (s : Supervisor) (held : List ℕ) → answer_frame f Due.AfterAreas s held no_area ≡ refused_there 2 s held
  pub refused_areas : (f : Flight) (s : Supervisor) (held : List ℕ) → answer_frame f Due.Telemetry s held area_missing ≡ refused_there 3 s held
