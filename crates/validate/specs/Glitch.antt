-- Document 01, 'validate': the glitch filter. Assumes nothing.
use Rattle.std.specs.Prelude.{ℕ, ◌+◌, min, Bool, true, cond, ◌||◌, pos, from_bits, nat_le, nat_lt, Float, Option, Some, None}
use Rattle.std.specs.Float.{binary32}
use Rattle.std.specs.Float.Ieee.{le, of_int}
use Rattle.float32.specs.Binary32.{add_f, sub_f, mul_f, div_f, two}
use Rattle.float32.specs.Sqrt.{square_root}
use Rattle.types.specs.declared.Vec3.{Vec3}
use Rattle.types.specs.declared.PositionSample.{PositionSample}
use Rattle.time.specs.Time.{Clock, age}
use Rattle.validate.specs.declared.GlitchState.{GlitchState}
use Rattle.validate.specs.declared.Filtered.{Filtered}

-- 5; 1,000 (proofs/Constants.antt)
abbrev pub five : Float
five = from_bits binary32 0x40A0_0000

abbrev pub thousand : Float
thousand = from_bits binary32 0x447A_0000

-- nothing stored, no streak
abbrev pub no_glitch : GlitchState
no_glitch = record { last_accepted = None; reject_streak = 0 }

unfoldable pub distance_between : Vec3 → Vec3 → Float
distance_between a b =
    let dn = sub_f a.n b.n in
    let de = sub_f a.e b.e in
    let dd = sub_f a.d b.d in
    square_root (add_f (add_f (mul_f dn dn) (mul_f de de)) (mul_f dd dd))

-- "distance at most v_max × seconds × 2 + 5"
unfoldable pub within_jump : Float → ℕ → Float → Bool
within_jump dist gap v_max =
    let seconds = div_f (of_int binary32 (pos gap)) thousand in
    le dist (add_f (mul_f (mul_f v_max seconds) two) five)

-- "Seconds run from the stored stamp to now": by the stored sample's age
abbrev pub accept_after : Option ℕ → PositionSample → PositionSample → Float → Bool
accept_after None last sample v_max = true
accept_after (Some gap) last sample v_max = nat_lt 2000 gap || within_jump (distance_between sample.pos last.pos) gap v_max

-- "accept with .. age absent or over 2000, or streak at least 3; else distance at most .."
unfoldable pub accept_sample : Clock → PositionSample → ℕ → ℕ → PositionSample → Float → Bool
accept_sample clock last streak now sample v_max = nat_le 3 streak || accept_after (age clock now last.t_ms) last sample v_max

-- "accept with none stored"
abbrev pub accept_stored : Clock → Option PositionSample → ℕ → ℕ → PositionSample → Float → Bool
accept_stored clock None streak now sample v_max = true
accept_stored clock (Some last) streak now sample v_max = accept_sample clock last streak now sample v_max

-- one more refusal, in a byte
abbrev pub next_streak : ℕ → ℕ
next_streak streak = min (streak + 1) 255

-- an absent sample changes nothing; an accepted one is stored and ends the streak; a refused one is taken as absent
unfoldable pub apply_glitch_filter : Clock → GlitchState → ℕ → Option PositionSample → Float → Filtered
apply_glitch_filter clock g now None v_max = record { glitch = g; position = None }
apply_glitch_filter clock g now (Some sample) v_max =
    cond (accept_stored clock g.last_accepted g.reject_streak now sample v_max)
    (record {
      glitch = record { last_accepted = Some sample; reject_streak = 0 };
      position = Some sample;
    })
    (record {
      glitch = record { last_accepted = g.last_accepted; reject_streak = next_streak g.reject_streak };
      position = None;
    })
