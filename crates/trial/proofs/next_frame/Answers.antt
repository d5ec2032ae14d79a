-- `trial::next_frame` meets its contract. Assumes nothing.
use Rattle.std.proofs.Common.{◌≡◌, ℕ, true, List, get_or, refl, ap, ◌∙◌}
use Rattle.trial.specs.Draws.{drawn, draws_of}
use Rattle.trial.specs.Trial.{telemetry_of, fields_from, next_frame}
use Rattle.trial.proofs.next_frame.Goals as goal

-- the last draw is the generator after them all
last : (x : ℕ) → get_or (draws_of 38 x) 37 0 ≡ drawn 38 x
unfolding draws_of
last x = refl

pub returns : goal.returns
unfolding next_frame
returns c =
    let d : c.draws-d.result ≡ draws_of 38 (fields_from c.args.g) = c.draws-d.ensures ∙ ap (draws_of 38) c.fields_from.ensures in
    let n = c.now_of-now_ms.ensures in
    λ j.
    record {
      telemetry = (c.telemetry_of.ensures ∙ (λ k. telemetry_of (n k) (d k))) j;
      generator = record { x = (ap (λ (l : List ℕ). get_or l 37 0) d ∙ last (fields_from c.args.g)) j; now_ms = n j; begun = true };
    }
