-- An instant with its flag, and each reading behind such a one: written in eight bytes, and in four. Assumes nothing.
use Rattle.std.specs.Prelude.{Option, Some, None, Float, is_some}
use Prim.Native.Nat.{ℕ, ◌^◌, ◌<◌, min}
use mathlib.Core.Path.{◌≡◌, refl}
use mathlib.Core.Bool.{Bool, cond}
use mathlib.Core.List.{List, ◌∷◌, ◌++◌}
use lib.Dec.{eqb, lit<}
use lib.ListN.{drop}
use Rattle.wire.specs.Fields.{u8_at, number_at, le_bytes, le8, le32, le_f32, le_flag}
use Rattle.wire.specs.Cell.{bytes_of}
use Rattle.wire.proofs.Number.{bytes_number}
use Rattle.options.specs.Position.{position_cells}
use Rattle.frame_telemetry.specs.Readings.{gps_cells, u32_cells, stamped_f32_cells, stamped_bool_cells, stamped_landed_cells}
use Rattle.instants.specs.Retimed.{instead, position_at, gps_at, value_at}
use Rattle.instants.specs.Retimed.{flag_at as flag_with, landed_at as landed_with}
use Rattle.instants.specs.Own.{own, position_stamp, gps_stamp, value_stamp, flag_stamp, landed_stamp}
use Rattle.types.specs.declared.Stamped.{Stamped}
use Rattle.types.specs.declared.LandedState.{LandedState}
use Rattle.types.specs.declared.PositionSample.{PositionSample}
use Rattle.types.specs.declared.GpsSample.{GpsSample}

-- the eight bytes that are written for an instant
abbrev pub eight : Bool → ℕ → List ℕ
eight b n = le_bytes 8 (cond (eqb (cond b 1 0) 1) n 0)

-- the flag and the eight bytes; the flag and four, with 0 for an instant that is there
abbrev pub wide : Bool → ℕ → List ℕ
wide b n = cond b 1 0 ∷ eight b n

abbrev pub narrow : Bool → ℕ → List ℕ
narrow b n = cond b 1 0 ∷ le_bytes 4 (cond (eqb (cond b 1 0) 1) 0 (min (number_at 8 (eight b n) 0) 1))

-- ---- at another instant, it is written with that

pub instant_written : (n : ℕ) (o : Option ℕ) → wide (is_some (instead n o)) (own (instead n o)) ≡ wide (is_some o) n
instant_written n None = refl
instant_written n (Some m) = refl

pub sample_written : (n : ℕ) (o : Option PositionSample) → wide (is_some (position_at n o)) (own (position_stamp (position_at n o))) ++ bytes_of (drop 2 (position_cells (position_at n o))) ≡ wide (is_some o) n ++ bytes_of (drop 2 (position_cells o))
sample_written n None = refl
sample_written n (Some p) = refl

pub gps_written : (n : ℕ) (o : Option GpsSample) → wide (is_some (gps_at n o)) (own (gps_stamp (gps_at n o))) ++ bytes_of (drop 2 (gps_cells (gps_at n o))) ≡ wide (is_some o) n ++ bytes_of (drop 2 (gps_cells o))
gps_written n None = refl
gps_written n (Some g) = refl

pub value_written : (n : ℕ) (o : Option (Stamped Float)) → wide (is_some (value_at n o)) (own (value_stamp (value_at n o))) ++ bytes_of (drop 2 (stamped_f32_cells (value_at n o))) ≡ wide (is_some o) n ++ bytes_of (drop 2 (stamped_f32_cells o))
value_written n None = refl
value_written n (Some r) = refl

pub flag_written : (n : ℕ) (o : Option (Stamped Bool)) → wide (is_some (flag_with n o)) (own (flag_stamp (flag_with n o))) ++ bytes_of (drop 2 (stamped_bool_cells (flag_with n o))) ≡ wide (is_some o) n ++ bytes_of (drop 2 (stamped_bool_cells o))
flag_written n None = refl
flag_written n (Some r) = refl

pub landed_written : (n : ℕ) (o : Option (Stamped LandedState)) → wide (is_some (landed_with n o)) (own (landed_stamp (landed_with n o))) ++ bytes_of (drop 2 (stamped_landed_cells (landed_with n o))) ≡ wide (is_some o) n ++ bytes_of (drop 2 (stamped_landed_cells o))
landed_written n None = refl
landed_written n (Some r) = refl

-- ---- in four bytes, it is written as at 0

pub instant_zero : (o : Option ℕ) → narrow (is_some o) (own o) ≡ bytes_of (u32_cells (instead 0 o))
unfolding le8 le_flag le_bytes le32 le_f32 u8_at number_at
instant_zero None = refl
instant_zero (Some n) = refl

pub sample_zero : (o : Option PositionSample) → narrow (is_some o) (own (position_stamp o)) ++ bytes_of (drop 2 (position_cells o)) ≡ bytes_of (position_cells (position_at 0 o))
unfolding le8 le_flag le_bytes le32 le_f32 u8_at number_at
sample_zero None = refl
sample_zero (Some p) = refl

pub gps_zero : (o : Option GpsSample) → narrow (is_some o) (own (gps_stamp o)) ++ bytes_of (drop 2 (gps_cells o)) ≡ bytes_of (gps_cells (gps_at 0 o))
unfolding le8 le_flag le_bytes le32 le_f32 u8_at number_at
gps_zero None = refl
gps_zero (Some g) = refl

pub value_zero : (o : Option (Stamped Float)) → narrow (is_some o) (own (value_stamp o)) ++ bytes_of (drop 2 (stamped_f32_cells o)) ≡ bytes_of (stamped_f32_cells (value_at 0 o))
unfolding le8 le_flag le_bytes le32 le_f32 u8_at number_at
value_zero None = refl
value_zero (Some r) = refl

pub flag_zero : (o : Option (Stamped Bool)) → narrow (is_some o) (own (flag_stamp o)) ++ bytes_of (drop 2 (stamped_bool_cells o)) ≡ bytes_of (stamped_bool_cells (flag_with 0 o))
unfolding le8 le_flag le_bytes le32 le_f32 u8_at number_at
flag_zero None = refl
flag_zero (Some r) = refl

pub landed_zero : (o : Option (Stamped LandedState)) → narrow (is_some o) (own (landed_stamp o)) ++ bytes_of (drop 2 (stamped_landed_cells o)) ≡ bytes_of (stamped_landed_cells (landed_with 0 o))
unfolding le8 le_flag le_bytes le32 le_f32 u8_at number_at
landed_zero None = refl
landed_zero (Some r) = refl

-- ---- at the instant that is read, it is itself

pub instant_back : (o : Option ℕ) → own o < 2 ^ 64 → instead (number_at 8 (eight (is_some o) (own o)) 0) (instead 0 o) ≡ o
instant_back None h = refl
instant_back (Some n) h = λ j. Some (bytes_number 8 n h j)

pub sample_back : (o : Option PositionSample) → own (position_stamp o) < 2 ^ 64 → position_at (number_at 8 (eight (is_some o) (own (position_stamp o))) 0) (position_at 0 o) ≡ o
sample_back None h = refl
sample_back (Some p) h = λ j. Some (record { t_ms = bytes_number 8 p.t_ms h j; pos = p.pos; vel = p.vel })

pub gps_back : (o : Option GpsSample) → own (gps_stamp o) < 2 ^ 64 → gps_at (number_at 8 (eight (is_some o) (own (gps_stamp o))) 0) (gps_at 0 o) ≡ o
gps_back None h = refl
gps_back (Some g) h = λ j. Some (record { t_ms = bytes_number 8 g.t_ms h j; fix = g.fix; sats = g.sats; hdop = g.hdop })

pub value_back : (o : Option (Stamped Float)) → own (value_stamp o) < 2 ^ 64 → value_at (number_at 8 (eight (is_some o) (own (value_stamp o))) 0) (value_at 0 o) ≡ o
value_back None h = refl
value_back (Some r) h = λ j. Some (record { t_ms = bytes_number 8 r.t_ms h j; value = r.value })

pub flag_back : (o : Option (Stamped Bool)) → own (flag_stamp o) < 2 ^ 64 → flag_with (number_at 8 (eight (is_some o) (own (flag_stamp o))) 0) (flag_with 0 o) ≡ o
flag_back None h = refl
flag_back (Some r) h = λ j. Some (record { t_ms = bytes_number 8 r.t_ms h j; value = r.value })

pub landed_back : (o : Option (Stamped LandedState)) → own (landed_stamp o) < 2 ^ 64 → landed_with (number_at 8 (eight (is_some o) (own (landed_stamp o))) 0) (landed_with 0 o) ≡ o
landed_back None h = refl
landed_back (Some r) h = λ j. Some (record { t_ms = bytes_number 8 r.t_ms h j; value = r.value })

-- ---- at an instant of 64 bits, it has one

pub instant_lt : (n : ℕ) (o : Option ℕ) → n < 2 ^ 64 → own (instead n o) < 2 ^ 64
instant_lt n None h = lit< tt
instant_lt n (Some m) h = h

pub sample_lt : (n : ℕ) (o : Option PositionSample) → n < 2 ^ 64 → own (position_stamp (position_at n o)) < 2 ^ 64
sample_lt n None h = lit< tt
sample_lt n (Some p) h = h

pub gps_lt : (n : ℕ) (o : Option GpsSample) → n < 2 ^ 64 → own (gps_stamp (gps_at n o)) < 2 ^ 64
gps_lt n None h = lit< tt
gps_lt n (Some g) h = h

pub value_lt : (n : ℕ) (o : Option (Stamped Float)) → n < 2 ^ 64 → own (value_stamp (value_at n o)) < 2 ^ 64
value_lt n None h = lit< tt
value_lt n (Some r) h = h

pub flag_lt : (n : ℕ) (o : Option (Stamped Bool)) → n < 2 ^ 64 → own (flag_stamp (flag_with n o)) < 2 ^ 64
flag_lt n None h = lit< tt
flag_lt n (Some r) h = h

pub landed_lt : (n : ℕ) (o : Option (Stamped LandedState)) → n < 2 ^ 64 → own (landed_stamp (landed_with n o)) < 2 ^ 64
landed_lt n None h = lit< tt
landed_lt n (Some r) h = h
