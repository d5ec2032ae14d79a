-- `frame_telemetry::put_sample` meets its contract. The calls' contracts, one after the other, are a run of stores over zeros. Assumes nothing.
use Rattle.std.specs.Prelude.{Some}
use Prim.Native.Nat.{ℕ}
use mathlib.Core.Path.{◌≡◌, ◌∙◌, ap, refl}
use mathlib.Core.List.{List, [], ◌∷◌}
use lib.Seq.{sets}
use Rattle.wire.specs.Fields.{le8, le_flag, le_bytes, le32, le_f32}
use Rattle.wire.specs.Cell.{bytes_of}
use Rattle.wire.specs.Laid.{Blank}
use Rattle.wire.proofs.Laid.{Step, store, lay, bytes, Run, done, into, laid_run}
use Rattle.options.specs.Options.{le_option_u8, le_option_f32}
use Rattle.types.specs.Numbers.{fix_number}
use Rattle.types.specs.declared.GpsSample.{GpsSample}
use Rattle.frame_telemetry.specs.Readings.{gps_cells}
use Rattle.frame_telemetry.proofs.put_sample.Goals as goal

abbrev steps : GpsSample → ℕ → List Step
steps g k =
    store 37 (le8 1) ∷
    store 38 (le32 g.t_ms) ∷
    store 42 (le8 k) ∷
    lay 43 (le_option_u8 g.sats) ∷
    lay 45 (le_option_f32 g.hdop) ∷
    []

whole : (m r : List ℕ) (g : GpsSample) (k : ℕ) → k ≡ fix_number g.fix → Run m (steps g k) r → Blank m 37 13 → r ≡ sets m 37 (bytes_of (gps_cells (Some g)))
unfolding le_option_u8 le_option_f32 le8 le_flag le_bytes le32 le_f32
whole m r g k e run z = laid_run m 37 (steps g k) r run refl z ∙ ap (λ (n : ℕ). sets m 37 (bytes (steps g n))) e

pub returns : goal.returns
returns c =
    let a = c.args in
    whole a.s.now _ a.g _ c.from.ensures
    (into c.put_u8.ensures
    (into c.put_u32.ensures
    (into c.put_u8-2.ensures
    (into c.put_sats.ensures
    (into c.put_hdop.ensures
    done)))))
    c.requires
