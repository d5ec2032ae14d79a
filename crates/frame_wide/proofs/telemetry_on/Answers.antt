-- `frame_wide::telemetry_on` meets its contract: the calls' contracts, one after the other, are a run of stores. Assumes nothing.
use Prim.Native.Nat.{ℕ}
use mathlib.Core.Path.{◌≡◌, refl}
use mathlib.Core.List.{List, [], ◌∷◌}
use lib.ListN.{get_or, replicate}
use Rattle.wire.specs.Fields.{u8_at, number_at, le_bytes, le16, le32, elements_from, bytes_from}
use Rattle.wire.specs.Frame.{frame_head}
use Rattle.wire.proofs.Stores.{Piece, put, after, done, into}
use Rattle.frame_wide.specs.Resized.{narrowed}
use Rattle.frame_wide.specs.WideTelemetry.{telemetry_gaps, telemetry_on}
use Rattle.frame_wide.specs.Stored.{low_at}
use Rattle.frame_wide.proofs.Places.{known}
use borrow.Author.Rules.{rules}
use Rattle.frame_wide.proofs.telemetry_on.Goals as goal

abbrev pieces : List ℕ → List ℕ → List Piece
pieces given s =
    put 0 (frame_head 3 104) ∷
    put 4 (le32 (get_or given 0 0)) ∷
    put 8 (low_at 24 s 12 (get_or given 1 0)) ∷
    put 37 (low_at 8 s 45 (get_or given 2 0)) ∷
    put 50 (low_at 4 s 62 (get_or given 3 0)) ∷
    put 59 (low_at 4 s 75 (get_or given 4 0)) ∷
    put 68 (low_at 4 s 88 (get_or given 5 0)) ∷
    put 77 (low_at 0 s 101 (get_or given 6 0)) ∷
    put 82 (low_at 1 s 110 (get_or given 7 0)) ∷
    put 88 (low_at 1 s 120 (get_or given 8 0)) ∷
    put 94 (low_at 1 s 130 (get_or given 9 0)) ∷
    put 100 (low_at 1 s 140 (get_or given 10 0)) ∷
    []

flat : (given s : List ℕ) → after (replicate 106 0) (pieces (elements_from 0 given 0 11) (bytes_from s 0 150)) ≡ telemetry_on (elements_from 0 given 0 11) (bytes_from s 0 150)
unfolding telemetry_on narrowed telemetry_gaps frame_head u8_at number_at le_bytes le16 le32
flat given s = refl

pub returns : goal.returns
returns c =
    let s = c.args.s.now in
    let g = c.args.given.now in
    known telemetry_on pieces 11 150 (replicate 106 0) g s (search (rules, c.well_formed)) c.requires (flat g s)
    (into c.put_head.ensures
    (into c.put_four.ensures
    (into c.put_low.ensures
    (into c.put_low-2.ensures
    (into c.put_low-3.ensures
    (into c.put_low-4.ensures
    (into c.put_low-5.ensures
    (into c.put_low-6.ensures
    (into c.put_low-7.ensures
    (into c.put_low-8.ensures
    (into c.put_low-9.ensures
    (into c.put_low-10.ensures
    done))))))))))))
