-- Document 01, 'lib': the clock. Assumes nothing.
use Rattle.std.specs.Prelude.{ℕ, ◌+◌, Bool, true, false, cond, leb, Option, Some, None}
use Rattle.time.specs.Time.{Clock, age}
use Rattle.clock.specs.declared.ClockStep.{ClockStep}

-- "A clock fault leaves last_now as it was, also at every third in a row, which .. sets epoch_start to the reading and begins the count anew."
unfoldable pub clock_fault : ℕ → ℕ → ℕ → ℕ → ClockStep
clock_fault last epoch streak now =
    let third = leb 3 (streak + 1) in
    record {
      last_now = Some last;
      epoch_start = cond third now epoch;
      backwards_streak = cond third 0 (streak + 1);
      fault = true;
      third = third;
    }

-- a sound reading is the last one
unfoldable pub sound_clock : ℕ → ℕ → ℕ → ClockStep
sound_clock epoch streak now =
    record { last_now = Some now; epoch_start = epoch; backwards_streak = streak; fault = false; third = false }

-- the terms 'faulted' and 'sound': "A step is faulted where its clock reading has no age against that of the last sound step, otherwise sound"
abbrev pub by_age : Option ℕ → ℕ → ℕ → ℕ → ℕ → ClockStep
by_age None last epoch streak now = clock_fault last epoch streak now
by_age (Some a) last epoch streak now = sound_clock epoch 0 now

abbrev pub by_last : Clock → Option ℕ → ℕ → ℕ → ℕ → ClockStep
by_last ck None epoch streak now = sound_clock epoch streak now
by_last ck (Some last) epoch streak now = by_age (age ck now last) last epoch streak now

-- "the first is sound", and begins the epoch
unfoldable pub clock_step : Clock → Option ℕ → ℕ → ℕ → Bool → ℕ → ClockStep
clock_step ck last epoch streak false now = sound_clock now 0 now
clock_step ck last epoch streak true now = by_last ck last epoch streak now
