use Rattle.std.proofs.Common.{◌≡◌, ◌<◌, ◌∷◌, ◌++◌, [], ℕ, List, map, All, slice_index, sym, ap, ◌∙◌, subst, append_assoc}
use Rattle.std.proofs.lemmas.List.Elements.{All-tail}
use Rattle.multigraph.specs.Graph.{edge_count}
use Rattle.spqr_session.proofs.commands.kept_line.set_numbers.Goals as goal

-- one edge more
pub loop-e-preserved : goal.loop-e-preserved
loop-e-preserved c =
    let part = c.args.part.now in
    let rest : List ℕ = c.next.new.self in
    let name : ℕ → ℕ = slice_index part.edges in
    let so_far : List ℕ = c.loop-e.numbers.items in
    let first : c.loop-e.round ≡ c.in-Some.e ∷ rest = c.in-Some.ensures.steps in
    let below : ℕ → Type 0 = λ e. e < edge_count part.graph in record {
      rest = ap (λ (t : List ℕ). t ++ map name rest) c.in_ok-push.ensures.items ∙ append_assoc so_far (c.edge.result ∷ []) (map name rest)
          ∙ ap (λ (x : ℕ). so_far ++ x ∷ map name rest) c.edge.ensures ∙ sym (ap (λ (l : List ℕ). so_far ++ map name l) first) ∙ c.loop-e.invariant.rest;
      within = All-tail below c.in-Some.e rest (subst (All below) first c.loop-e.invariant.within);
    }
