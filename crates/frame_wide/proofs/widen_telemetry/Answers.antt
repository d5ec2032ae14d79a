-- `frame_wide::widen_telemetry` meets its contract: the calls' contracts, one after the other, are a run of stores. Assumes nothing.
use Prim.Native.Nat.{ℕ, ◌≤◌}
use mathlib.Core.Path.{◌≡◌, ◌∙◌, refl}
use mathlib.Core.List.{List, [], ◌∷◌, ◌++◌}
use lib.ListN.{get_or, drop, length}
use lib.Seq.{sets}
use Rattle.wire.specs.Fields.{u8_at, le_bytes, le16, elements_from, bytes_from}
use Rattle.wire.specs.Frame.{frame_head}
use Rattle.wire.proofs.Stores.{Piece, put, after, done, into, stored}
use Rattle.frame_wide.specs.Resized.{widened}
use Rattle.frame_wide.specs.WideTelemetry.{telemetry_gaps}
use Rattle.frame_wide.specs.Stored.{high_at}
use Rattle.frame_wide.proofs.Places.{telemetry_up, known}
use borrow.Author.Rules.{rules}
use Rattle.frame_wide.proofs.widen_telemetry.Goals as goal

abbrev pieces : List ℕ → List ℕ → List Piece
pieces given s =
    put 0 (frame_head 9 148) ∷
    put 4 (le_bytes 8 (get_or given 0 0)) ∷
    put 12 (high_at 24 s 8 (get_or given 1 0)) ∷
    put 45 (high_at 8 s 37 (get_or given 2 0)) ∷
    put 62 (high_at 4 s 50 (get_or given 3 0)) ∷
    put 75 (high_at 4 s 59 (get_or given 4 0)) ∷
    put 88 (high_at 4 s 68 (get_or given 5 0)) ∷
    put 101 (high_at 0 s 77 (get_or given 6 0)) ∷
    put 110 (high_at 1 s 82 (get_or given 7 0)) ∷
    put 120 (high_at 1 s 88 (get_or given 8 0)) ∷
    put 130 (high_at 1 s 94 (get_or given 9 0)) ∷
    put 140 (high_at 1 s 100 (get_or given 10 0)) ∷
    []

flat : (l given s : List ℕ) → after l (pieces (elements_from 0 given 0 11) (bytes_from s 0 106)) ≡ sets l 0 (telemetry_up (elements_from 0 given 0 11) (bytes_from s 0 106))
unfolding widened telemetry_gaps frame_head u8_at le_bytes le16
flat l given s = refl

laid_out : (l given s : List ℕ) → 150 ≤ length l → sets l 0 (telemetry_up (elements_from 0 given 0 11) (bytes_from s 0 106)) ≡ telemetry_up (elements_from 0 given 0 11) (bytes_from s 0 106) ++ drop 150 l
unfolding widened telemetry_gaps frame_head u8_at le_bytes le16
laid_out l given s h = stored l (telemetry_up (elements_from 0 given 0 11) (bytes_from s 0 106)) h

pub returns : goal.returns
returns c =
    let l = c.args.to.now in
    let s = c.args.low.now in
    let g = c.args.given.now in
    known (λ x y. telemetry_up x y ++ drop 150 l) pieces 11 106 l g s (search (rules, c.well_formed)) c.requires.0 (flat l g s ∙ laid_out l g s c.requires.1)
    (into c.put_head.ensures
    (into c.put_eight.ensures
    (into c.put_high.ensures
    (into c.put_high-2.ensures
    (into c.put_high-3.ensures
    (into c.put_high-4.ensures
    (into c.put_high-5.ensures
    (into c.put_high-6.ensures
    (into c.put_high-7.ensures
    (into c.put_high-8.ensures
    (into c.put_high-9.ensures
    (into c.put_high-10.ensures
    done))))))))))))
