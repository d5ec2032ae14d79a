-- `frame_wide::state_on` meets its contract: the calls' contracts, one after the other, are a run of stores. Assumes nothing.
use Prim.Native.Nat.{ℕ}
use mathlib.Core.Path.{◌≡◌, refl}
use mathlib.Core.List.{List, [], ◌∷◌}
use lib.ListN.{get_or, take, drop, replicate}
use Rattle.wire.specs.Fields.{u8_at, number_at, le_bytes, le16, le32, elements_from, bytes_from}
use Rattle.wire.specs.Frame.{frame_head}
use Rattle.wire.proofs.Stores.{Piece, put, after, done, into}
use Rattle.frame_wide.specs.Resized.{narrowed}
use Rattle.frame_wide.specs.WideState.{state_gaps, state_on}
use Rattle.frame_wide.specs.Stored.{low_at, low_row}
use Rattle.frame_wide.proofs.Places.{known}
use borrow.Author.Rules.{rules}
use Rattle.frame_wide.proofs.state_on.Goals as goal

abbrev pieces : List ℕ → List ℕ → List Piece
pieces given s =
    put 0 (frame_head 5 184) ∷
    put 4 (take 2 (drop 4 s)) ∷
    put 6 (low_row s given 24) ∷
    put 126 (take 1 (drop 222 s)) ∷
    put 127 (low_at 3 s 223 (get_or given 24 0)) ∷
    put 135 (low_at 0 s 235 (get_or given 25 0)) ∷
    put 140 (low_at 0 s 244 (get_or given 26 0)) ∷
    put 145 (low_at 25 s 253 (get_or given 27 0)) ∷
    put 175 (low_at 0 s 287 (get_or given 28 0)) ∷
    put 180 (le32 (get_or given 29 0)) ∷
    put 184 (take 2 (drop 304 s)) ∷
    []

flat : (given s : List ℕ) → after (replicate 186 0) (pieces (elements_from 0 given 0 30) (bytes_from s 0 306)) ≡ state_on (elements_from 0 given 0 30) (bytes_from s 0 306)
unfolding state_on narrowed state_gaps low_row frame_head u8_at number_at le_bytes le16 le32
flat given s = refl

pub returns : goal.returns
returns c =
    let s = c.args.s.now in
    let g = c.args.given.now in
    known state_on pieces 30 306 (replicate 186 0) g s (search (rules, c.well_formed)) c.requires (flat g s)
    (into c.put_head.ensures
    (into c.copy.ensures
    (into c.low_timers.ensures
    (into c.copy-2.ensures
    (into c.put_low.ensures
    (into c.put_low-2.ensures
    (into c.put_low-3.ensures
    (into c.put_low-4.ensures
    (into c.put_low-5.ensures
    (into c.put_four.ensures
    (into c.copy-3.ensures
    done)))))))))))
