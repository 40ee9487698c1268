use Rattle.std.proofs.Common.{List, sym, subst}
use Rattle.pair_split.specs.Family.{Entry, IsFamily, IsPrime}
use Rattle.pair_split.specs.Edges.{family_skeleton}
use Rattle.pair_split.specs.Skeleton.{IsSkeleton}
use Rattle.pair_split.proofs.SplitSteps.{first-rest, rest-length}
use Rattle.pair_split.proofs.splitting.kind_of_all.Goals as goal

pub kind_of-requires-clause-family : goal.kind_of-requires-clause-family
kind_of-requires-clause-family c = subst IsFamily (first-rest c.args.edges.now c.requires.three) c.requires.family

pub kind_of-requires-clause-prime : goal.kind_of-requires-clause-prime
kind_of-requires-clause-prime c = subst IsPrime (first-rest c.args.edges.now c.requires.three) c.requires.prime

pub kind_of-requires-clause-three : goal.kind_of-requires-clause-three
kind_of-requires-clause-three c = rest-length c.args.edges.now c.requires.three

pub returns-clause-skeleton : goal.returns-clause-skeleton
returns-clause-skeleton c = subst (λ (entries : List Entry). IsSkeleton c.kind_of.result (family_skeleton entries)) (sym (first-rest c.args.edges.now c.requires.three)) c.kind_of.ensures.skeleton
