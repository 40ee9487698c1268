use Rattle.arrangements.proofs.Ranked.{answer-ranked}
use Rattle.arrangements.proofs.crossings.crossing_ranks.Goals as goal

-- what is found of ranks holds of blocks
pub returns-clause-least : goal.returns-clause-least
returns-clause-least c block order a =
    answer-ranked c.args.tables.now block order a c.args.list.now c.requires.list (λ pair. pair.0) (λ pair. pair.1) c.crossing.result c.write_ranks-bound.new.ranks c.write_ranks-bound.ensures.ranks c.crossing.ensures.least
