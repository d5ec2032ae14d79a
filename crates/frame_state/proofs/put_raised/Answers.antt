-- `frame_state::put_raised` meets its contract: the calls' contracts, one after the other, are a run of stores. Assumes nothing.
use Prim.Native.Nat.{ℕ}
use mathlib.Core.Path.{◌≡◌, ◌∙◌, refl}
use mathlib.Core.List.{List, [], ◌∷◌}
use lib.Seq.{sets}
use Rattle.wire.specs.Fields.{le_flag}
use Rattle.wire.proofs.Stores.{Piece, put, after, done, into, ran}
use Rattle.triggers.specs.declared.Raised.{Raised}
use Rattle.frame_state.specs.StateFrame.{le_raised}
use Rattle.frame_state.proofs.put_raised.Goals as goal

abbrev pieces : Raised → List Piece
pieces r =
    put 186 (le_flag r.gps_degraded) ∷
    put 187 (le_flag r.gps_lost) ∷
    put 188 (le_flag r.ekf_unhealthy) ∷
    put 189 (le_flag r.fence_breach) ∷
    put 190 (le_flag r.altitude_min) ∷
    put 191 (le_flag r.battery_warn) ∷
    put 192 (le_flag r.battery_low) ∷
    put 193 (le_flag r.energy_rtl_marginal) ∷
    []

flat : (l : List ℕ) (r : Raised) → after l (pieces r) ≡ sets l 186 (le_raised r)
unfolding le_raised le_flag
flat l r = refl

pub returns : goal.returns
returns c =
    let a = c.args in
    ran a.s.now (pieces a.r) _
    (into c.put_flag.ensures
    (into c.put_flag-2.ensures
    (into c.put_flag-3.ensures
    (into c.put_flag-4.ensures
    (into c.put_flag-5.ensures
    (into c.put_flag-6.ensures
    (into c.put_flag-7.ensures
    (into c.put_flag-8.ensures
    done))))))))
    ∙ flat a.s.now a.r
