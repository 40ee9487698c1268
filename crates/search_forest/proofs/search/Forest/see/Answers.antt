use Rattle.std.proofs.Common.{sym, ◌∙◌}
use Rattle.search_forest.proofs.Turns.{depth-fits, frond-seen, child-seen}
use Rattle.search_forest.proofs.search.Forest.see.Goals as goal

pub returns-then-is_visited : goal.returns-then-is_visited
returns-then-is_visited c =
    frond-seen c.args.graph.now c.requires.graph c.args.self.now c.note_frond.new.self c.args.vertex c.args.edge c.other_end-end.result c.requires.forest c.requires.last c.requires.edge_in c.requires.end
    (sym c.is_seen.ensures ∙ c.if-is_seen.false) c.other_end-end.ensures (sym c.is_visited.ensures ∙ c.if-is_visited.true) c.note_frond.ensures

pub note_child-requires-clause-shallow : goal.note_child-requires-clause-shallow
note_child-requires-clause-shallow c = depth-fits c.args.graph.now c.requires.limits c.args.self.now c.args.vertex c.requires.forest c.requires.last

pub returns : goal.returns
returns c =
    child-seen c.args.graph.now c.requires.graph c.args.self.now c.note_child.new.self c.args.vertex c.args.edge c.other_end-end.result c.requires.forest c.requires.last c.requires.edge_in c.requires.end
    (sym c.is_seen.ensures ∙ c.if-is_seen.false) c.other_end-end.ensures (sym c.is_visited.ensures ∙ c.if-is_visited.false) (c.in_ok-note_child.ensures {u = tt})
