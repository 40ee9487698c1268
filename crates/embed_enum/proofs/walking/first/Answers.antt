use Rattle.embed_enum.proofs.Walks.{reset-number, list-after, rank-after}
use Rattle.embed_enum.proofs.walking.first.Goals as goal

pub returns-clause-first : goal.returns-clause-first
returns-clause-first c = λ l m. rank-after c.args.p.now c.first_from.new.p c.belongs.ensures c.belongs-2.ensures 0 (reset-number c.args.p.now c.first_from.new.p c.first_from.ensures) l m

pub returns-clause-list : goal.returns-clause-list
returns-clause-list c = λ l m. let n = reset-number c.args.p.now c.first_from.new.p c.first_from.ensures in list-after c.args.p.now c.first_from.new.p n.rest n.kept l m
