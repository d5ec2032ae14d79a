-- The readings of a Telemetry frame, each of which may be absent: "Option a byte 0 or 1 and then its value, all zero bytes where absent",
-- "enum a byte in declared order from 0". A byte out of range is refused before it is read. Assumes nothing.
use Rattle.std.specs.Prelude.{ℕ, ◌+◌, List, [], ◌∷◌, Bool, false, cond, Float, Option, Some, None, is_some, unwrap_or}
use Rattle.std.specs.Float.{binary32}
use Rattle.std.specs.Float.Ieee.{of_bits}
use Rattle.wire.specs.Fields.{flag_at, u32_at, f32_at}
use Rattle.wire.specs.Cell.{Cell, u8, flag, u32, f32}
unfoldable pub use Rattle.options.specs.Enums.{fix_at, landed_at}
use Rattle.options.specs.Options.{option_u8_at, option_f32_at}
use Rattle.types.specs.Numbers.{fix_number, landed_number}
use Rattle.types.specs.declared.GpsFix.{GpsFix}
use Rattle.types.specs.declared.LandedState.{LandedState}
use Rattle.types.specs.declared.GpsSample.{GpsSample}
use Rattle.types.specs.declared.Stamped.{Stamped}

-- Option<GpsSample>: 13 bytes
unfoldable pub option_gps_at : List ℕ → ℕ → Option GpsSample
option_gps_at s i =
    cond (flag_at s i)
    (Some (record { t_ms = u32_at s (i + 1); fix = fix_at s (i + 5); sats = option_u8_at s (i + 6); hdop = option_f32_at s (i + 8) }))
    None

-- the sample whose bytes are all zero
abbrev pub zero_gps : GpsSample
zero_gps = record { t_ms = 0; fix = GpsFix.None; sats = None; hdop = None }

abbrev pub gps_cells : Option GpsSample → List Cell
gps_cells o =
    let g = unwrap_or o zero_gps in
    flag (is_some o) ∷
    u32 g.t_ms ∷
    u8 (fix_number g.fix) ∷
    flag (is_some g.sats) ∷
    u8 (unwrap_or g.sats 0) ∷
    flag (is_some g.hdop) ∷
    f32 (unwrap_or g.hdop (of_bits binary32 0)) ∷
    []

-- Option<u32>: 5 bytes
abbrev pub u32_cells : Option ℕ → List Cell
u32_cells o = flag (is_some o) ∷ u32 (unwrap_or o 0) ∷ []

-- a stamp and a value after their flag, where the flag is 1
abbrev pub stamped_at : {A : Type 0} → (List ℕ → ℕ → A) → List ℕ → ℕ → Option (Stamped A)
stamped_at value s i = cond (flag_at s i) (Some (record { t_ms = u32_at s (i + 1); value = value s (i + 5) })) None

-- a flag, a stamp and a value's cell: stamp 0 and the value zero where absent
abbrev pub stamped_cells : {A : Type 0} → (A → Cell) → A → Option (Stamped A) → List Cell
stamped_cells cell none o = let r = unwrap_or o (record { t_ms = 0; value = none }) in flag (is_some o) ∷ u32 r.t_ms ∷ cell r.value ∷ []

-- Option<Stamped<f32>>: 9 bytes
unfoldable pub stamped_f32_at : List ℕ → ℕ → Option (Stamped Float)
stamped_f32_at s i = stamped_at f32_at s i

abbrev pub stamped_f32_cells : Option (Stamped Float) → List Cell
stamped_f32_cells o = stamped_cells f32 (of_bits binary32 0) o

-- Option<Stamped<bool>>: 6 bytes
unfoldable pub stamped_bool_at : List ℕ → ℕ → Option (Stamped Bool)
stamped_bool_at s i = stamped_at flag_at s i

abbrev pub stamped_bool_cells : Option (Stamped Bool) → List Cell
stamped_bool_cells o = stamped_cells flag false o

-- Option<Stamped<LandedState>>: 6 bytes
unfoldable pub stamped_landed_at : List ℕ → ℕ → Option (Stamped LandedState)
stamped_landed_at s i = stamped_at landed_at s i

abbrev pub landed_cell : LandedState → Cell
landed_cell l = u8 (landed_number l)

abbrev pub stamped_landed_cells : Option (Stamped LandedState) → List Cell
stamped_landed_cells o = stamped_cells landed_cell LandedState.Undefined o
