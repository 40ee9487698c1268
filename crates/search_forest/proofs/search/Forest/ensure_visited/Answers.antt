use Rattle.std.proofs.Common.{sym, ◌∙◌}
use Rattle.search_forest.proofs.Rounds.{root-noted}
use Rattle.search_forest.proofs.search.Forest.ensure_visited.Goals as goal

pub explore-requires-clause-forest : goal.explore-requires-clause-forest
explore-requires-clause-forest g c =
    root-noted c.args.graph.now c.args.self.now c.note_root.new.self c.args.root c.requires.forest c.requires.root_in (sym c.is_visited.ensures ∙ c.if-is_visited.false) c.requires.empty (c.in_ok-note_root.ensures {u = tt})
