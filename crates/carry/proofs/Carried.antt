-- A state carried over: what the loops give is what is stated of the state read. Assumes nothing.
use Rattle.std.specs.Prelude.{Option, Some, None, unwrap_or, Ok, Err}
use Rattle.std.proofs.Common.{◌≡◌, ℕ, ◌-◌, ◌%◌, ◌^◌, Bool, true, false, ◌&&◌, cond, List, set, refl, sym, ap, ◌∙◌, eq-eqb}
use Rattle.types.specs.declared.PositionSample.{PositionSample}
use Rattle.supervisor.specs.declared.Supervisor.{Supervisor}
use Rattle.triggers.specs.Update.{none_raised}
use Rattle.time.specs.Time.{wrapping, wrapping_sub, age, at_most}
use Rattle.wire.specs.Fields.{u32_at, flag_at}
use Rattle.options.specs.Options.{option_u32_at}
use Rattle.options.specs.Position.{option_position_at}
use Rattle.frame_state.specs.StateFrame.{timer_at, triggers_at, arbiter_at, state_at}
use Rattle.instants.specs.Own.{own, position_stamp}
use Rattle.instants.specs.Listed.{listed}
use Rattle.carry.specs.declared.Reading.{Reading}
use Rattle.carry.specs.declared.CarryError.{CarryError}
use Rattle.carry.specs.Carry.{last_is, has_age_at, have_ages, carried, carry}
use Rattle.carry.specs.Held.{aged, stored_first, stored}

-- the stored sample's stamp is read as any other instant that may be absent
either : (b : Bool) (p : PositionSample) → position_stamp (cond b (Some p) None) ≡ cond b (Some p.t_ms) None
either true p = refl
either false p = refl

stamp : (s : List ℕ) → position_stamp (option_position_at s 145) ≡ option_u32_at s 145
unfolding option_position_at option_u32_at
stamp s = either (flag_at s 145) _

-- an absent instant is 0
pub own_is : (o : Option ℕ) → unwrap_or o 0 ≡ own o
own_is None = refl
own_is (Some x) = refl

module _ (old : List ℕ) (t : ℕ) where
  abbrev pub reading : Reading
  reading = record { t = t; last = own (option_u32_at old 175) }

  pub aged_is : aged old reading 28 ≡ have_ages t (state_at old none_raised)
  unfolding have_ages state_at triggers_at timer_at arbiter_at
  aged_is = ap (λ (o : Option ℕ). aged old reading 27 && has_age_at t reading.last o) (sym (stamp old))

  pub stored_is : stored old reading ≡ listed (carried t (state_at old none_raised))
  unfolding stored carried listed state_at triggers_at timer_at arbiter_at
  stored_is =
      let from = λ (x : ℕ). t - wrapping_sub reading.last x in
      let x = u32_at old 180 in
      let epoch = cond (at_most (age wrapping reading.last x) t) (from x) t in
      ap (λ (o : Option ℕ). set (set (set (stored_first old reading 27) 27 (from (own o))) 28 t) 29 epoch) (sym (stamp old))

  abbrev s : Supervisor
  s = state_at old none_raised

  pub turned_away : last_is t (option_u32_at old 175) ≡ false → Err CarryError.OtherReading ≡ carry t s
  unfolding carry state_at
  turned_away h = rw h refl

  module _ {x : ℕ} (here : option_u32_at old 175 ≡ Some x) (same : x ≡ t % 2 ^ 32) where
    abbrev given : Reading
    given = record { t = t; last = x }

    reading_is : reading ≡ given
    reading_is = λ j. record { t = t; last = own (here j) }

    last_here : last_is t (option_u32_at old 175) ≡ true
    last_here = ap (last_is t) here ∙ eq-eqb (t % 2 ^ 32) x (sym same)

    ages_are : aged old given 28 ≡ have_ages t s
    ages_are = ap (λ (r : Reading). aged old r 28) (sym reading_is) ∙ aged_is

    pub too_old : aged old given 28 ≡ false → Err CarryError.NoAge ≡ carry t s
    unfolding carry state_at
    too_old h = rw (last_here, sym ages_are ∙ h) refl

    pub taken : aged old given 28 ≡ true → Ok (stored old given) ≡ carry t s
    unfolding carry state_at
    taken h = rw (last_here, sym ages_are ∙ h) (ap (λ (l : List ℕ). Ok l) (ap (stored old) (sym reading_is) ∙ stored_is))
