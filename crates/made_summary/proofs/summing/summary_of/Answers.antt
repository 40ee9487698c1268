use Rattle.std.proofs.Common.{◌≡◌, [], length, slice_index_or, refl, sym, ap, ◌∙◌, subst}
use Rattle.std.proofs.lemmas.Result.{IfOk-weaker}
use Rattle.multigraph.specs.Graph.{Multigraph, edge_count}
use Rattle.skeletons.specs.Choices.{choice}
use Rattle.made_summary.specs.Kinds.{nodes_of, NoneHasChoices, IsLeastWithChoices}
use Rattle.pair_split.specs.Kinds.{is_polygon, is_bond, is_rigid}
use Rattle.made_summary.proofs.SomeChoices.{no-fork}
use Rattle.made_summary.proofs.FirstAndLast.{all, all-full, all-members, first-there, last, last-is, last-choice}
use Rattle.made_summary.proofs.Lines.{summary-is}
use Rattle.made_summary.proofs.summing.summary_of.Goals as goal

pub unreachable-requires : goal.unreachable-requires
unreachable-requires c =
    no-fork c.args.p.now.graph c.args.p.now.tree c.graph-graph.ensures.state.block.tree (subst (λ t. NoneHasChoices t (length t)) c.tree-tree.ensures.value c.in_default.ensures) c.requires.fork

pub returns : goal.returns
returns c =
    let p = c.args.p.now in
    let b = c.graph-graph.ensures.state.block in
    let f = c.requires.first in
    let k = c.in-Some.k in
    let list = all p.graph p.tree b p.rotation f in
    let least : IsLeastWithChoices p.tree k = subst (λ t. IsLeastWithChoices t k) c.tree-tree.ensures.value c.in-Some.ensures in
    let first : c.deref.result.now ≡ choice p.tree (slice_index_or list 0 []) k = c.deref.ensures.value ∙ c.in_ok-first.ensures.first ∙ sym (ap (λ q. choice p.tree q k) (first-there p.graph p.tree b p.rotation f)) in
    let end : c.deref-2.result.now ≡ choice p.tree (slice_index_or list (last p.graph p.tree b p.rotation f) []) k = c.deref-2.ensures.value ∙ c.in_ok-first.ensures.last ∙ sym (last-choice p.graph p.tree b p.rotation f k least.is_node) in
    IfOk-weaker c.lines.result _ _ (λ text h. record {
      tree = p.tree;
      is_tree = b.tree;
      list = list;
      is_list = all-full p.graph p.tree b p.rotation f;
      last = last p.graph p.tree b p.rotation f;
      is_last = last-is p.graph p.tree b p.rotation f;
      node = k;
      is_least = least;
      is_text = h ∙ summary-is p.graph p.tree list (last p.graph p.tree b p.rotation f) k c.vertex_count.result c.edge_count.result c.count_kinds.result.polygons c.count_kinds.result.bonds c.count_kinds.result.rigid
          c.counted.result c.deref.result.now c.deref-2.result.now (c.vertex_count.ensures.value ∙ ap (λ (g : Multigraph). g.vertex_count) c.graph-graph.ensures.value) (c.edge_count.ensures.value ∙ ap edge_count c.graph-graph.ensures.value)
          (c.count_kinds.ensures.polygons ∙ ap (nodes_of is_polygon) c.tree-tree.ensures.value) (c.count_kinds.ensures.bonds ∙ ap (nodes_of is_bond) c.tree-tree.ensures.value)
          (c.count_kinds.ensures.rigid ∙ ap (nodes_of is_rigid) c.tree-tree.ensures.value)
          (c.counted.ensures list (all-members p.graph p.tree b p.rotation f p.locks p refl refl refl refl c.requires.unlocked)) first end;
    }) c.lines.ensures
