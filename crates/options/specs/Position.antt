-- A position reading that may be absent, in the declared order of its fields: 29 bytes. Assumes nothing.
use Rattle.std.specs.Prelude.{ℕ, ◌+◌, List, [], ◌∷◌, ◌++◌, cond, Option, Some, None, is_some, unwrap_or}
use Rattle.std.specs.Float.{binary32}
use Rattle.std.specs.Float.Ieee.{of_bits}
use Rattle.wire.specs.Fields.{flag_at, u32_at, f32_at, le_flag, le32, le_f32}
use Rattle.wire.specs.Cell.{Cell, flag, u32, f32}
use Rattle.types.specs.declared.Vec3.{Vec3}
use Rattle.types.specs.declared.PositionSample.{PositionSample}

unfoldable pub vec3_at : List ℕ → ℕ → Vec3
vec3_at s i = record { n = f32_at s i; e = f32_at s (i + 4); d = f32_at s (i + 8) }

unfoldable pub le_vec3 : Vec3 → List ℕ
le_vec3 v = le_f32 v.n ++ (le_f32 v.e ++ le_f32 v.d)

abbrev pub zero_vec3 : Vec3
zero_vec3 = record { n = of_bits binary32 0; e = of_bits binary32 0; d = of_bits binary32 0 }

abbrev pub zero_sample : PositionSample
zero_sample = record { t_ms = 0; pos = zero_vec3; vel = zero_vec3 }

unfoldable pub position_at : List ℕ → ℕ → PositionSample
position_at s i = record { t_ms = u32_at s i; pos = vec3_at s (i + 4); vel = vec3_at s (i + 16) }

unfoldable pub le_position : PositionSample → List ℕ
le_position p = le32 p.t_ms ++ (le_vec3 p.pos ++ le_vec3 p.vel)

unfoldable pub option_position_at : List ℕ → ℕ → Option PositionSample
option_position_at s i =
    cond (flag_at s i)
    (Some (record { t_ms = u32_at s (i + 1); pos = vec3_at s (i + 5); vel = vec3_at s (i + 17) }))
    None

unfoldable pub le_option_position : Option PositionSample → List ℕ
le_option_position o =
    let p = unwrap_or o zero_sample in
    le_flag (is_some o) ++ (le32 p.t_ms ++ (le_vec3 p.pos ++ le_vec3 p.vel))

-- the cells of such a reading
abbrev pub position_cells : Option PositionSample → List Cell
position_cells o =
    let p = unwrap_or o zero_sample in
    flag (is_some o) ∷
    u32 p.t_ms ∷
    f32 p.pos.n ∷
    f32 p.pos.e ∷
    f32 p.pos.d ∷
    f32 p.vel.n ∷
    f32 p.vel.e ∷
    f32 p.vel.d ∷
    []
