use Rattle.embed_enum.proofs.Places.{rank-tells, members-ranks, list-each, ranks-order, last-none, present-rank}
use Rattle.embed_enum.proofs.laws.ranks_tell_members.Goals as goal

pub returns : goal.returns
returns c = record { told = rank-tells; members = members-ranks; each = list-each; order = ranks-order; last = last-none; present = present-rank }
