-- A kind 10 read and written again. Assumes nothing.
use Rattle.std.specs.Prelude.{Option, Some, None}
use Prim.Native.Nat.{ℕ, ◌+◌, ◌*◌, ◌^◌, ◌<◌}
use mathlib.Core.Path.{◌≡◌, ◌∙◌, ap, sym, subst}
use mathlib.Core.Bool.{true, false, ◌&&◌}
use mathlib.Core.List.{List, [], ◌∷◌, ◌++◌}
use lib.Dec.{lit<}
use lib.ListN.{drop, replicate}
use Rattle.triggers.specs.Update.{none_raised}
use Rattle.supervisor.specs.declared.Supervisor.{Supervisor}
use Rattle.wire.specs.Fields.{Bytes, u8_at, number_at, le_bytes, le16, bytes_from}
use Rattle.wire.specs.Cell.{Within}
use Rattle.wire.specs.Frame.{frame_fault, frame_head}
use Rattle.wire.proofs.Head.{head_says, head_bytes}
use Rattle.wire.proofs.Number.{number_bytes}
use Rattle.wire.proofs.Whole.{first, whole, each}
use Rattle.options.specs.Options.{zeros, valid_option}
use Rattle.options.specs.Position.{position_cells}
use Rattle.std.specs.Prelude.{Ok}
use Rattle.wire.proofs.Read.{within_range}
use Rattle.frame_state.specs.StateFrame.{state_at, timers_valid, state_tests, state_valid, read_state}
use Rattle.frame_state.proofs.Trips.{timer_valid, bytes_back, read_typed}
use Rattle.instants.specs.Retimed.{timer_of, position_at, supervisor_at}
use Rattle.instants.specs.Own.{own}
use Rattle.instants.specs.Listed.{timer_place, listed, unlisted}
use Rattle.frame_wide.specs.Resized.{instants_at, narrowed, widened}
use Rattle.frame_wide.specs.WideState.{state_gaps, state_on, wide_instants, read_wide_state, wide_state_frame}
use Rattle.frame_wide_trips.specs.Claim.{TypedWide}
use Rattle.frame_wide_trips.proofs.Readings.{instant_lt, sample_lt}
use Rattle.frame_wide_trips.proofs.Resized.{bytes_on, instants_lt, eight_bytes}
use Rattle.frame_wide_trips.proofs.StateMarks.{frame_on, opened}
use Rattle.frame_wide_trips.proofs.Written.{written}
use Rattle.frame_wide_trips.proofs.Flags.{wide_accepted, timer_instead}
use Rattle.types.specs.declared.PositionSample.{PositionSample}

module _ (s : List ℕ) (b : Bytes s) (h : frame_fault 10 304 s ≡ 0) where
  abbrev all : List ℕ
  all = bytes_from s 0 306

  -- the kind 5, with 0 for each instant that is there
  abbrev narrow : List ℕ
  narrow = state_on (replicate 30 0) all

  cells : state_valid narrow ≡ true → frame_head 10 304 ++ widened state_gaps (listed (wide_instants all)) (drop 4 narrow) ≡ all
  unfolding state_valid valid_option zeros wide_instants instants_at listed unlisted state_on narrowed widened state_gaps frame_head le16 le_bytes u8_at number_at
  cells v =
      let f = each (timers_valid narrow 24) (state_tests narrow) v in
      let timer : (k : ℕ) → k < 24 → valid_option narrow (6 + 5 * k) 4 ≡ true = λ k l. timer_valid narrow 24 k l f.0 in
      let t3 = f.1.1.1.1 in
      let t7 = t3.1.1.1.1 in
      let t8 = t7.1 in
      let t9 = t8.1 in
      let t11 = t9.1.1 in
      λ j.
      head_bytes 10 304 s b h j
      ++ (bytes_from s 4 2
      ++ (u8_at s 6 ∷ eight_bytes [] 3 s 7 (u8_at s 6) b (timer 0 (lit< tt)) j
      ++ (u8_at s 15 ∷ eight_bytes [] 3 s 16 (u8_at s 15) b (timer 1 (lit< tt)) j
      ++ (u8_at s 24 ∷ eight_bytes [] 3 s 25 (u8_at s 24) b (timer 2 (lit< tt)) j
      ++ (u8_at s 33 ∷ eight_bytes [] 3 s 34 (u8_at s 33) b (timer 3 (lit< tt)) j
      ++ (u8_at s 42 ∷ eight_bytes [] 3 s 43 (u8_at s 42) b (timer 4 (lit< tt)) j
      ++ (u8_at s 51 ∷ eight_bytes [] 3 s 52 (u8_at s 51) b (timer 5 (lit< tt)) j
      ++ (u8_at s 60 ∷ eight_bytes [] 3 s 61 (u8_at s 60) b (timer 6 (lit< tt)) j
      ++ (u8_at s 69 ∷ eight_bytes [] 3 s 70 (u8_at s 69) b (timer 7 (lit< tt)) j
      ++ (u8_at s 78 ∷ eight_bytes [] 3 s 79 (u8_at s 78) b (timer 8 (lit< tt)) j
      ++ (u8_at s 87 ∷ eight_bytes [] 3 s 88 (u8_at s 87) b (timer 9 (lit< tt)) j
      ++ (u8_at s 96 ∷ eight_bytes [] 3 s 97 (u8_at s 96) b (timer 10 (lit< tt)) j
      ++ (u8_at s 105 ∷ eight_bytes [] 3 s 106 (u8_at s 105) b (timer 11 (lit< tt)) j
      ++ (u8_at s 114 ∷ eight_bytes [] 3 s 115 (u8_at s 114) b (timer 12 (lit< tt)) j
      ++ (u8_at s 123 ∷ eight_bytes [] 3 s 124 (u8_at s 123) b (timer 13 (lit< tt)) j
      ++ (u8_at s 132 ∷ eight_bytes [] 3 s 133 (u8_at s 132) b (timer 14 (lit< tt)) j
      ++ (u8_at s 141 ∷ eight_bytes [] 3 s 142 (u8_at s 141) b (timer 15 (lit< tt)) j
      ++ (u8_at s 150 ∷ eight_bytes [] 3 s 151 (u8_at s 150) b (timer 16 (lit< tt)) j
      ++ (u8_at s 159 ∷ eight_bytes [] 3 s 160 (u8_at s 159) b (timer 17 (lit< tt)) j
      ++ (u8_at s 168 ∷ eight_bytes [] 3 s 169 (u8_at s 168) b (timer 18 (lit< tt)) j
      ++ (u8_at s 177 ∷ eight_bytes [] 3 s 178 (u8_at s 177) b (timer 19 (lit< tt)) j
      ++ (u8_at s 186 ∷ eight_bytes [] 3 s 187 (u8_at s 186) b (timer 20 (lit< tt)) j
      ++ (u8_at s 195 ∷ eight_bytes [] 3 s 196 (u8_at s 195) b (timer 21 (lit< tt)) j
      ++ (u8_at s 204 ∷ eight_bytes [] 3 s 205 (u8_at s 204) b (timer 22 (lit< tt)) j
      ++ (u8_at s 213 ∷ eight_bytes [] 3 s 214 (u8_at s 213) b (timer 23 (lit< tt)) j
      ++ (bytes_from s 222 1
      ++ (u8_at s 223 ∷ eight_bytes [] 3 s 224 (u8_at s 223) b t3.0 j
      ++ (bytes_from s 232 3
      ++ (u8_at s 235 ∷ eight_bytes [] 3 s 236 (u8_at s 235) b t7.0 j
      ++ (u8_at s 244 ∷ eight_bytes [] 3 s 245 (u8_at s 244) b t8.0 j
      ++ (u8_at s 253 ∷ eight_bytes (bytes_from s 262 24) 27 s 254 (u8_at s 253) b t9.0 j
      ++ (bytes_from s 262 25
      ++ (u8_at s 287 ∷ eight_bytes [] 3 s 288 (u8_at s 287) b t11.0 j
      ++ (number_bytes 8 s 296 b j
      ++ bytes_from s 304 2))))))))))))))))))))))))))))))))))

  on_bytes : (given : List ℕ) → Bytes (state_on given s)
  unfolding state_on
  on_bytes given = bytes_on 5 184 state_gaps given s b

  bytes_again_at : (y : Supervisor) → read_state false (state_on (replicate 30 0) s) ≡ Ok y → wide_state_frame (supervisor_at (wide_instants s) y) ≡ s
  bytes_again_at y e =
      let none : List ℕ = replicate 30 0 in
      let f = whole 0 306 s (head_says 10 304 s h).1.1 in
      let a = within_range (state_valid narrow && true) (state_at narrow none_raised) y (sym (opened narrow (frame_on s none)) ∙ ap (λ (l : List ℕ). read_state false (state_on none l)) f ∙ e) in
      let kind5 = bytes_back false (state_on none s) y e (on_bytes none) in
      written y (wide_instants s)
      ∙ ap (λ (l : List ℕ). frame_head 10 304 ++ widened state_gaps (listed (wide_instants s)) (drop 4 l)) kind5
      ∙ ap (λ (l : List ℕ). frame_head 10 304 ++ widened state_gaps (listed (wide_instants l)) (drop 4 (state_on none l))) (sym f)
      ∙ cells (first (state_valid narrow) true a.0)
      ∙ f

-- bytes, value, bytes: the very bytes
pub bytes_again : (s : List ℕ) (x : Supervisor) → Bytes s → read_wide_state s ≡ Ok x → wide_state_frame x ≡ s
bytes_again s x b e = let a = wide_accepted s x e in sym (ap wide_state_frame a.at) ∙ bytes_again_at s b a.head a.inner a.read

-- ---- what was read is within its types

floats_fit : (n : ℕ) (o : Option PositionSample) → Within (position_cells o) → Within (position_cells (position_at 0 (position_at n o)))
floats_fit n None h = h
floats_fit n (Some p) h = (lit< tt, h.1)

typed_at : (s : List ℕ) (y : Supervisor) → Bytes s → read_state false (state_on (replicate 30 0) s) ≡ Ok y → TypedWide (supervisor_at (wide_instants s) y)
unfolding supervisor_at wide_instants unlisted state_on
typed_at s y b e =
    let lt = instants_lt state_gaps s b in
    let i = wide_instants s in
    record {
      timers =
          λ n.
          subst (λ (o : Option ℕ). own o < 2 ^ 64) (sym (timer_instead i.timer y.triggers n))
          (instant_lt (i.timer n) (timer_of y.triggers n).since_ms (lt (timer_place n)));
      recovery = instant_lt i.recovery y.arbiter.recovery_since_ms (lt 25);
      hold = instant_lt i.gate y.disarm.hold_since_ms (lt 26);
      stored = sample_lt i.stored y.glitch.last_accepted (lt 27);
      floats =
          floats_fit i.stored y.glitch.last_accepted
          (read_typed false (state_on (replicate 30 0) s) y e (bytes_on 5 184 state_gaps (replicate 30 0) s b)).stored;
      last = instant_lt i.last y.last_now (lt 28);
      epoch = lt 29;
    }

pub typed_again : (s : List ℕ) (x : Supervisor) → Bytes s → read_wide_state s ≡ Ok x → TypedWide x
typed_again s x b e = let a = wide_accepted s x e in subst TypedWide a.at (typed_at s a.inner b a.read)
