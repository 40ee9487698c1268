use Rattle.std.proofs.Common.{ℕ, ◌+◌, List, sym, subst, arith}
use Rattle.pair_split.specs.Bridges.{HaveEndsBelow}
use Rattle.pair_split.specs.Search.{AreSearchable}
use Rattle.pair_split.specs.declared.family.NamedEdge.{NamedEdge}
use Rattle.pair_split.proofs.SplitSteps.{current-searchable, current-names}
use Rattle.pair_split.proofs.splitting.Splitting.find.Goals as goal

pub minimal_side-requires : goal.minimal_side-requires
minimal_side-requires c = record {
  edges = subst (λ (edges : List NamedEdge). AreSearchable edges c.vertex_count.result (c.edge_count.result + c.len.result)) (sym c.deref.ensures.value) (record {
    searchable = current-searchable c.args.g.now c.edge_count.ensures.graph c.requires.block c.args.self.now.parts.items c.args.self.now.current.items c.requires.state c.requires.four;
    ends = subst (λ (n : ℕ). HaveEndsBelow n c.args.self.now.current.items) (sym c.vertex_count.ensures.value) c.requires.state.ends;
    names = current-names c.args.g.now c.edge_count.ensures.graph c.requires.block c.args.self.now.parts.items c.args.self.now.current.items c.requires.state (c.edge_count.result + c.len.result)
        (omega (arith, c.edge_count.ensures.value, c.len.ensures, c.args.self.now.parts.ok.0));
  });
}
