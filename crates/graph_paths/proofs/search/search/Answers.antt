-- What the search has noted.
use Rattle.std.proofs.Common.{◌∙◌, ℕ, List, length, drop, sym, subst}
use Rattle.std.proofs.lemmas.List.{take_at}
use Rattle.graph_paths.specs.Search.{IsSearched}
use Rattle.graph_paths.proofs.search.search.Goals as goal

pub returns : goal.returns
returns c = subst (λ (z : List ℕ). IsSearched c.args.g.now c.args.root z)
    (sym (take_at c.explore.new.notes (drop (length c.explore.new.notes) c.in_ok-notes.notes.items) c.in_ok-notes.notes.len (c.explore.auto.notes ∙ c.deref_mut-2.ensures.len))) c.in_ok-explore.ensures
