-- `mixture::ends_in` meets its contract: the mixtures of the numbers below 200 are all mixtures, in their order. Assumes nothing.
use Rattle.std.proofs.Common.{◌≡◌, ◌∙◌, rules, map, refl, ap, count_by}
use Rattle.std.specs.List.{range_with_len}
use Rattle.std.proofs.lemmas.Iterator.{YieldsList-from_range, YieldsList-from_map}
use Rattle.std.proofs.lemmas.Iterator.Consumers.{YieldsList-at, YieldsList-from_filter, count_from_yields_List}
use Rattle.std.proofs.lemmas.List.Sums.{length-filter}
use Rattle.mixture.specs.Mixtures.{mixtures, mixture_at, ends, ends_in}
use Rattle.mixture.proofs.ends_in.Goals as goal

numbered : map mixture_at (range_with_len 0 200) ≡ mixtures
unfolding mixture_at
numbered = refl

pub returns : goal.returns
unfolding ends ends_in
returns c =
    count_from_yields_List c.filter.result _ c.count.ensures.ran
    (YieldsList-from_filter _ (ends c.args.a)
    (YieldsList-at c.filter.ensures.source (YieldsList-from_map _ mixture_at (YieldsList-at c.map.ensures.source (YieldsList-from_range 0 200 200 refl refl)) c.map.ensures.closure (λ x r q k. search rules)))
    c.filter.ensures.closure (λ x b q k. search rules))
    ∙ length-filter (ends c.args.a) (map mixture_at (range_with_len 0 200))
    ∙ ap (count_by (ends c.args.a)) numbered
