-- `frame_wide::widen_state` meets its contract: the calls' contracts, one after the other, are a run of stores. Assumes nothing.
use Prim.Native.Nat.{ℕ, ◌≤◌}
use mathlib.Core.Path.{◌≡◌, ◌∙◌, refl}
use mathlib.Core.List.{List, [], ◌∷◌, ◌++◌}
use lib.ListN.{get_or, take, drop, length}
use lib.Seq.{sets}
use Rattle.wire.specs.Fields.{u8_at, le_bytes, le16, elements_from, bytes_from}
use Rattle.wire.specs.Frame.{frame_head}
use Rattle.wire.proofs.Stores.{Piece, put, after, done, into, stored}
use Rattle.frame_wide.specs.Resized.{widened}
use Rattle.frame_wide.specs.WideState.{state_gaps}
use Rattle.frame_wide.specs.Stored.{high_at, high_row}
use Rattle.frame_wide.proofs.Places.{state_up, known}
use borrow.Author.Rules.{rules}
use Rattle.frame_wide.proofs.widen_state.Goals as goal

abbrev pieces : List ℕ → List ℕ → List Piece
pieces given s =
    put 0 (frame_head 10 304) ∷
    put 4 (take 2 (drop 4 s)) ∷
    put 6 (high_row s given 24) ∷
    put 222 (take 1 (drop 126 s)) ∷
    put 223 (high_at 3 s 127 (get_or given 24 0)) ∷
    put 235 (high_at 0 s 135 (get_or given 25 0)) ∷
    put 244 (high_at 0 s 140 (get_or given 26 0)) ∷
    put 253 (high_at 25 s 145 (get_or given 27 0)) ∷
    put 287 (high_at 0 s 175 (get_or given 28 0)) ∷
    put 296 (le_bytes 8 (get_or given 29 0)) ∷
    put 304 (take 2 (drop 184 s)) ∷
    []

flat : (l given s : List ℕ) → after l (pieces (elements_from 0 given 0 30) (bytes_from s 0 186)) ≡ sets l 0 (state_up (elements_from 0 given 0 30) (bytes_from s 0 186))
unfolding widened state_gaps high_row frame_head u8_at le_bytes le16
flat l given s = refl

laid_out : (l given s : List ℕ) → 306 ≤ length l → sets l 0 (state_up (elements_from 0 given 0 30) (bytes_from s 0 186)) ≡ state_up (elements_from 0 given 0 30) (bytes_from s 0 186) ++ drop 306 l
unfolding widened state_gaps high_row frame_head u8_at le_bytes le16
laid_out l given s h = stored l (state_up (elements_from 0 given 0 30) (bytes_from s 0 186)) h

pub returns : goal.returns
returns c =
    let l = c.args.to.now in
    let s = c.args.low.now in
    let g = c.args.given.now in
    known (λ x y. state_up x y ++ drop 306 l) pieces 30 186 l g s (search (rules, c.well_formed)) c.requires.0 (flat l g s ∙ laid_out l g s c.requires.1)
    (into c.put_head.ensures
    (into c.copy.ensures
    (into c.high_timers.ensures
    (into c.copy-2.ensures
    (into c.put_high.ensures
    (into c.put_high-2.ensures
    (into c.put_high-3.ensures
    (into c.put_high-4.ensures
    (into c.put_high-5.ensures
    (into c.put_eight.ensures
    (into c.copy-3.ensures
    done)))))))))))
