-- Every frame made is accepted by the telemetry reader: each draw's rule keeps within its field's type, and the frame's round trip does the rest. Assumes nothing.
use Rattle.wire.proofs.Head.{no_error_zero, room}
use Rattle.std.specs.Prelude.{Some, None, unwrap_or, Result, Ok, Err}
use Prim.Native.Nat.{ℕ, ◌+◌, ◌/◌, ◌%◌, ◌^◌, ◌≤◌, ◌<◌}
use mathlib.Core.Path.{◌≡◌, refl, ap, sym, ◌∙◌}
use mathlib.Core.Bool.{Bool, true, false, cond}
use mathlib.Core.List.{List, [], ◌∷◌, ◌++◌}
use mathlib.Core.Logic.{◌⊎◌, inl, inr, ⊎_elim}
use native.Mathlib.Omega.{arith}
use lib.Dec.{T, lit<, ltb}
use lib.Ieee.{binary32, fits, of_int, of_bits}
use lib.Ieee.Bits.{of_bits-fits}
use lib.Ieee.Fits.{div-fits}
use lib.IntN.{pos}
use lib.ListN.{length, take, drop}
use lib.Seq.{take_at}
use borrow.Author.Tests.{ltb-true, ltb-false}
use Rattle.float32.specs.Binary32.{sub_f}
use Rattle.types.specs.declared.GpsFix.{GpsFix}
use Rattle.types.specs.declared.LandedState.{LandedState}
use Rattle.types.specs.Numbers.{fix_number, landed_number}
use Rattle.wire.specs.Fields.{u8_at, number_at, u32_at, flag_at, byte_below, le8, le_bytes, le32, le_flag}
use Rattle.wire.specs.Cell.{Within}
use Rattle.wire.proofs.Fields.{u32_back, flag_back}
use Rattle.options.specs.Position.{position_cells}
use Rattle.frame_telemetry.specs.Readings.{gps_cells, stamped_f32_cells, stamped_bool_cells, stamped_landed_cells}
use Rattle.frame_telemetry.specs.TelemetryFrame.{read_telemetry, battery_cells, status_cells, telemetry_cells, telemetry_frame}
use Rattle.frame_telemetry.proofs.Size.{size}
use Rattle.frame_telemetry_trips.proofs.Readings.{fix_valid, landed_valid_lem}
use Rattle.frame_telemetry_trips.proofs.Trips.{within_joined, value_back}
use Rattle.trial.specs.declared.Generator.{Generator}
use Rattle.wire.specs.declared.FrameError.{FrameError}
use Rattle.trial.specs.Draws.{next, drawn, draws_of, stamp_of, flag_of, fix_of, landed_of, byte_of, float_of, middle, eight}
use Rattle.trial.specs.Trial.{at, vec3_of, position_of, sats_of, hdop_of, gps_of, stamped_of, battery_of, heartbeat_of, telemetry_of, now_of, fields_from, next_frame}
use Rattle.trial.specs.Call.{generator_at, generator_bytes, read_generator, TrialCall, trial_call, first_of, onward}
use Rattle.trial_accepted.specs.Accepted.{seeded, generator_after, EachRoom, FramesAccepted}
use Rattle.trial.proofs.Calls.{no_room, makes, read_is}

-- ---- each draw's rule

next_within : (x : ℕ) → next x < 2 ^ 32
unfolding next
next_within x = omega arith

stamp_within : (now draw : ℕ) → stamp_of now draw < 2 ^ 32
unfolding stamp_of
stamp_within now draw = omega arith

byte_within : (draw : ℕ) → draw < 2 ^ 32 → byte_of draw < 2 ^ 8
unfolding byte_of
byte_within draw h = omega arith

float_fits : (draw : ℕ) → T (fits binary32 (float_of draw))
unfolding float_of
float_fits draw = div-fits binary32 (sub_f (of_int binary32 (pos (draw / 65536))) middle) eight

fix_within : (f : GpsFix) → fix_number f < 2 ^ 8
unfolding u8_at byte_below le8
fix_within f = omega (arith, ltb-true (fix_number f) 3 (fix_valid f))

landed_within : (l : LandedState) → landed_number l < 2 ^ 8
unfolding u8_at byte_below le8
landed_within l = omega (arith, ltb-true (landed_number l) 5 (landed_valid_lem l))

-- ---- each reading, present or absent

module _ (now : ℕ) (d : List ℕ) where
  position_within : Within (position_cells (position_of now d))
  unfolding position_of vec3_of
  position_within = go (flag_of (at d 0))
    where
      go : (b : Bool) → Within (position_cells (cond b (Some (record { t_ms = stamp_of now (at d 1); pos = vec3_of d 2; vel = vec3_of d 5 })) None))
      go true = (stamp_within now (at d 1), (float_fits (at d 2), (float_fits (at d 3), (float_fits (at d 4), (float_fits (at d 5), (float_fits (at d 6), (float_fits (at d 7), tt)))))))
      go false = let f = of_bits-fits binary32 0 in (lit< tt, (f, (f, (f, (f, (f, (f, tt)))))))

  sats_within : at d 12 < 2 ^ 32 → unwrap_or (sats_of d) 0 < 2 ^ 8
  unfolding sats_of
  sats_within h = go (flag_of (at d 11))
    where
      go : (b : Bool) → unwrap_or (cond b (Some (byte_of (at d 12))) None) 0 < 2 ^ 8
      go true = byte_within (at d 12) h
      go false = lit< tt

  hdop_fits : T (fits binary32 (unwrap_or (hdop_of d) (of_bits binary32 0)))
  unfolding hdop_of
  hdop_fits = go (flag_of (at d 13))
    where
      go : (b : Bool) → T (fits binary32 (unwrap_or (cond b (Some (float_of (at d 14))) None) (of_bits binary32 0)))
      go true = float_fits (at d 14)
      go false = of_bits-fits binary32 0

  gps_within : at d 12 < 2 ^ 32 → Within (gps_cells (gps_of now d))
  unfolding gps_of
  gps_within h = go (flag_of (at d 8))
    where
      go :
          (b : Bool) →
          Within
          (gps_cells (cond b (Some (record { t_ms = stamp_of now (at d 9); fix = fix_of (at d 10); sats = sats_of d; hdop = hdop_of d })) None))
      go true = (stamp_within now (at d 9), (fix_within (fix_of (at d 10)), (sats_within h, (hdop_fits, tt))))
      go false = (lit< tt, (lit< tt, (lit< tt, (of_bits-fits binary32 0, tt))))

  stamped_f32_within : (i draw : ℕ) → Within (stamped_f32_cells (stamped_of now d i (float_of draw)))
  stamped_f32_within i draw = go (flag_of (at d i))
    where
      go : (b : Bool) → Within (stamped_f32_cells (cond b (Some (record { t_ms = stamp_of now (at d (i + 1)); value = float_of draw })) None))
      go true = (stamp_within now (at d (i + 1)), (float_fits draw, tt))
      go false = (lit< tt, (of_bits-fits binary32 0, tt))

  heartbeat_within : unwrap_or (heartbeat_of now d) 0 < 2 ^ 32
  unfolding heartbeat_of
  heartbeat_within = go (flag_of (at d 24))
    where
      go : (b : Bool) → unwrap_or (cond b (Some (stamp_of now (at d 25))) None) 0 < 2 ^ 32
      go true = stamp_within now (at d 25)
      go false = lit< tt

  stamped_bool_within : (i draw : ℕ) → Within (stamped_bool_cells (stamped_of now d i (flag_of draw)))
  stamped_bool_within i draw = go (flag_of (at d i))
    where
      go : (b : Bool) → Within (stamped_bool_cells (cond b (Some (record { t_ms = stamp_of now (at d (i + 1)); value = flag_of draw })) None))
      go true = (stamp_within now (at d (i + 1)), tt)
      go false = (lit< tt, tt)

  stamped_landed_within : (i draw : ℕ) → Within (stamped_landed_cells (stamped_of now d i (landed_of draw)))
  stamped_landed_within i draw = go (flag_of (at d i))
    where
      go : (b : Bool) → Within (stamped_landed_cells (cond b (Some (record { t_ms = stamp_of now (at d (i + 1)); value = landed_of draw })) None))
      go true = (stamp_within now (at d (i + 1)), (landed_within (landed_of draw), tt))
      go false = (lit< tt, (lit< tt, tt))

  battery_within : Within (battery_cells (battery_of now d))
  unfolding battery_cells battery_of
  battery_within =
      let v = stamped_f32_within 15 (at d 17) in
      let p = stamped_f32_within 18 (at d 20) in (v.0, (v.1.0, (p.0, (p.1.0, stamped_f32_within 21 (at d 23)))))

  status_within : Within (status_cells (telemetry_of now d))
  unfolding status_cells telemetry_of
  status_within =
      let a = stamped_bool_within 26 (at d 28) in
      let l = stamped_landed_within 29 (at d 31) in
      let r = stamped_bool_within 32 (at d 34) in (heartbeat_within, (a.0, (l.0, (l.1.0, (r.0, stamped_bool_within 35 (at d 37))))))

  telemetry_within : now < 2 ^ 32 → at d 12 < 2 ^ 32 → Within (telemetry_cells (telemetry_of now d))
  unfolding telemetry_cells telemetry_of
  telemetry_within n h =
      let t = telemetry_of now d in (
        n,
        within_joined (position_cells (position_of now d)) (gps_cells (gps_of now d) ++ (battery_cells (battery_of now d) ++ status_cells t)) position_within
            (within_joined (gps_cells (gps_of now d)) (battery_cells (battery_of now d) ++ status_cells t) (gps_within h)
            (within_joined (battery_cells (battery_of now d)) (status_cells t) battery_within status_within)),
      )

-- ---- the frame

now_within : (g : Generator) → now_of g < 2 ^ 32
unfolding now_of
now_within g = go g.begun
  where
    go : (b : Bool) → cond b ((g.now_ms + next g.x / 2 ^ 22) % 2 ^ 32) 0 < 2 ^ 32
    go true = omega arith
    go false = lit< tt

sats_draw : (x : ℕ) → at (draws_of 38 x) 12 < 2 ^ 32
unfolding draws_of drawn
sats_draw x = next_within (drawn 12 x)

pub frame_accepted : (g : Generator) → read_telemetry (telemetry_frame (next_frame g).telemetry) ≡ Ok (next_frame g).telemetry
unfolding next_frame
frame_accepted g =
    let d = draws_of 38 (fields_from g) in value_back (telemetry_of (now_of g) d) (telemetry_within (now_of g) d (now_within g) (sats_draw (fields_from g)))

-- ---- calls

-- the case of a call, by what it is told
room_or_not : (o : List ℕ) → (length o < 106) ⊎ (106 ≤ length o)
room_or_not o = go (ltb (length o) 106) refl
  where
    go : (b : Bool) → ltb (length o) 106 ≡ b → (length o < 106) ⊎ (106 ≤ length o)
    go true e = inl (ltb-true (length o) 106 e)
    go false e = inr (ltb-false (length o) 106 e)

made_accepted : {x : Generator} (g o : List ℕ) → read_generator g ≡ Ok x → 106 ≤ length o → read_telemetry (take 106 (trial_call g o).output) ≡ Ok (next_frame x).telemetry
made_accepted {x} g o e h =
    let t = (next_frame x).telemetry in
    ap (λ (r : TrialCall). read_telemetry (take 106 r.output)) (makes g o e h)
    ∙ ap read_telemetry (take_at (telemetry_frame t) (drop 106 o) 106 (size t))
    ∙ frame_accepted x

one_call : (g o : List ℕ) → (trial_call g o).number ≡ 0 → read_telemetry (take 106 (trial_call g o).output) ≡ Ok (next_frame (generator_at g)).telemetry
unfolding trial_call
one_call g o z = go (read_generator g) refl
  where
    go : (r : Result Generator FrameError) → read_generator g ≡ r → read_telemetry (take 106 (trial_call g o).output) ≡ Ok (next_frame (generator_at g)).telemetry
    go (Ok x) e =
        ⊎_elim
        (λ h. absurd (omega (arith, z, ap (λ (r : TrialCall). r.number) (no_room g o e h))))
        (λ h. made_accepted g o e h ∙ ap (λ (k : Generator). Ok (next_frame k).telemetry) (sym (read_is g e).1))
        (room_or_not o)
    go (Err r) e = absurd (no_error_zero r (sym (rw e refl) ∙ z))

-- what a call leaves is read
moved : {s t : List ℕ} → s ≡ t → read_generator t ≡ Ok (generator_at t) → read_generator s ≡ Ok (generator_at s)
moved {s} {t} e h = (λ j. read_generator (e j)) ∙ h ∙ (λ j. Ok (generator_at (sym e j)))

seeded_sound : (seed : ℕ) → read_generator (seeded seed) ≡ Ok (generator_at (seeded seed))
unfolding read_generator seeded u8_at byte_below le_bytes le32
seeded_sound seed = refl

left_sound : (g : Generator) → read_generator (generator_bytes (next_frame g).generator) ≡ Ok (generator_at (generator_bytes (next_frame g).generator))
unfolding read_generator generator_bytes next_frame u8_at byte_below le_bytes le32 le_flag
left_sound g = refl

after_sound : (seed : ℕ) (outputs : List (List ℕ)) → read_generator (generator_after seed outputs) ≡ Ok (generator_at (generator_after seed outputs))
unfolding generator_after
after_sound seed [] = seeded_sound seed
after_sound seed (o ∷ os) =
    let g = generator_after seed os in
    let e = after_sound seed os in
    ⊎_elim (λ h. moved (ap (λ (r : TrialCall). r.generator) (no_room g o e h)) e)
    (λ h. moved (ap (λ (r : TrialCall). r.generator) (makes g o e h)) (left_sound (generator_at g)))
    (room_or_not o)

answered : (seed : ℕ) (outputs : List (List ℕ)) (output : List ℕ) → 106 ≤ length output → (trial_call (generator_after seed outputs) output).number ≡ 0
answered seed os o h = ap (λ (r : TrialCall). r.number) (makes (generator_after seed os) o (after_sound seed os) h)

-- a generator's bytes give it back
generator_back : (g : Generator) → g.x < 2 ^ 32 → g.now_ms < 2 ^ 32 → generator_at (generator_bytes g) ≡ g
unfolding generator_at generator_bytes u8_at number_at u32_at flag_at le_bytes le32 le_flag
generator_back g a b = λ j. record { x = u32_back g.x a j; now_ms = u32_back g.now_ms b j; begun = flag_back g.begun j }

seeded_back : (seed : ℕ) → seed < 2 ^ 32 → generator_at (seeded seed) ≡ first_of seed
unfolding generator_at seeded u8_at number_at u32_at flag_at le_bytes le32
seeded_back seed h = λ j. record { x = u32_back seed h j; now_ms = 0; begun = false }

left_back : (g : Generator) → generator_at (generator_bytes (next_frame g).generator) ≡ (next_frame g).generator
unfolding next_frame drawn
left_back g = generator_back (next_frame g).generator (next_within (drawn 37 (fields_from g))) (now_within g)

in_order : (seed : ℕ) (outputs : List (List ℕ)) → seed < 2 ^ 32 → EachRoom outputs → generator_at (generator_after seed outputs) ≡ onward (length outputs) (first_of seed)
unfolding generator_after onward
in_order seed [] h r = seeded_back seed h
in_order seed (o ∷ os) h r =
    let g = generator_after seed os in
    ap (λ (c : TrialCall). generator_at c.generator) (makes g o (after_sound seed os) r.0)
    ∙ left_back (generator_at g)
    ∙ ap (λ (k : Generator). (next_frame k).generator) (in_order seed os h r.1)

pub frames_accepted : FramesAccepted
frames_accepted = record { one_call = one_call; answered = λ seed os o room. answered seed os o room; in_order = in_order }
