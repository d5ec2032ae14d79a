-- `spelling::in_form` meets its contract. Assumes nothing.
use mathlib.Core.Bool.{true}
use native.Mathlib.Omega.{arith}
use Rattle.std.proofs.Common.{◌≡◌, ◌≤◌, take, length, length-take, ap, sym, ◌∙◌, rules}
use lib.Seq.{take_all}
use Rattle.corners.proofs.Places.{take-capped}
use Rattle.rings.specs.Corner.{held, written}
use Rattle.frame_fence.specs.FenceFrame.{corner_array}
use Rattle.spelling.specs.Spell.{in_form}
use Rattle.spelling.proofs.in_form.Goals as goal

pub returns : goal.returns
unfolding in_form corner_array
returns c =
    let r = c.args.r in
    let long : length r.corners ≡ 16 = search rules in
    let some : take c.capped-n.result r.corners ≡ take r.count r.corners = rw (c.capped-n.ensures, c.from.ensures) (sym (take-capped r.corners r.count long)) in
    let few : length (take r.count r.corners) ≤ 16 = omega (arith, length-take r.count r.corners) in
    let w = c.write_ring-ring.ensures ∙ (λ j. held (written (take 16 (some j)))) ∙ ap (λ l. held (written l)) (take_all 16 (take r.count r.corners) few) in
    λ j.
    record {
      once_round = true;
      count = r.count;
      min_alt_m = c.plain_number.ensures j;
      max_alt_m = c.plain_number-2.ensures j;
      corners = (w j).verts;
    }
