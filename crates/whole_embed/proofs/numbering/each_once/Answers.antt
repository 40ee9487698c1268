use Rattle.std.proofs.Common.{List, ℕ, IsPermutation, subst}
use Rattle.multigraph.proofs.Ends.{once-rises}
use Rattle.whole_embed.proofs.Ranks.{once-same, once-short}
use Rattle.whole_embed.proofs.numbering.each_once.Goals as goal

pub returns-clause-rises : goal.returns-clause-rises
returns-clause-rises c = once-rises c.sort_unstable.new.self.items c.dedup.new.self.items c.sort_unstable.ensures.sorted c.dedup.ensures.filtered

pub returns-clause-same : goal.returns-clause-same
returns-clause-same c = once-same c.args.numbers.now c.sort_unstable.new.self.items c.dedup.new.self.items
    (subst (λ (l : List ℕ). IsPermutation l c.sort_unstable.new.self.items) c.in_ok-list.ensures.items c.sort_unstable.ensures.permutation) c.dedup.ensures.filtered

pub returns-clause-few : goal.returns-clause-few
returns-clause-few c = once-short c.args.numbers.now c.sort_unstable.new.self.items c.dedup.new.self.items
    (subst (λ (l : List ℕ). IsPermutation l c.sort_unstable.new.self.items) c.in_ok-list.ensures.items c.sort_unstable.ensures.permutation) c.dedup.ensures.filtered
