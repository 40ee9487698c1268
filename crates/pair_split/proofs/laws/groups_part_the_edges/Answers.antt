use Rattle.pair_split.proofs.Groups.{group-some, group-once, group-common}
use Rattle.pair_split.proofs.laws.groups_part_the_edges.Goals as goal

pub returns : goal.returns
returns c = record { some = group-some; once = group-once; ends = group-common }
