-- Small instances of what single calls answer: areas put in and taken out, and the energy of a return in whole numbers. Assumes nothing.
use Rattle.std.specs.Prelude.{ℕ, ◌≡◌, List, [], ◌∷◌}
use Rattle.edit_areas.specs.Edit.{remove_call}
use Rattle.whole_energy.specs.declared.Return.{Return}
use Rattle.whole_energy.specs.Energy.{total_of}

-- six bytes of a host's, room for the frame of no area and one more
abbrev pub before : List ℕ
before = 7 ∷ 7 ∷ 7 ∷ 7 ∷ 7 ∷ 7 ∷ []

-- one millimetre north and one east of home, at the height to fly back at and to come down from: a cruise leg alone. The whole root of 2 leaves 1, so the distance is 2 mm,
-- and with 1000 mW, wind 1 and 1 mm/s the leg gives 2 · 1000 · 1000 over 1 · 1000, without a remainder.
abbrev pub near_home : Return
near_home =
    record {
      square = 2;
      climb = 0;
      descent = 0;
      power_climb = 0;
      power_cruise = 1000;
      power_descent = 0;
      wind = 1000;
      speed_climb = 1;
      speed_cruise = 1;
      speed_descent = 1;
    }

pub record AnswerInstances : Type 0 where
  -- 31 for an area to remove that isn't held, before 5 for an output without room; a refused call writes nothing
  pub number_before_room : (remove_call [] 1 []).number ≡ 31
  pub refused_writes_nothing : (remove_call [] 1 before).output ≡ before
  -- "cruise over speed × 1000"; "one for each non-zero remainder" of the legs, and none for the root's
  pub cruise_alone : total_of near_home ≡ 2000
