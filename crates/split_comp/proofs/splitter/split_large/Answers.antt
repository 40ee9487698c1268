use Rattle.std.proofs.Common.{ℕ, List, length, ◌∙◌, sym, subst, ap, arith}
use Rattle.std.proofs.lemmas.Result.{IfOk-weaker}
use Rattle.graph_theory.proofs.Connected.{block-connected}
use Rattle.pair_split.specs.Splitting.{state_of}
use Rattle.pair_split.specs.Edges.{family_skeleton}
use Rattle.pair_split.specs.Bridges.{family_of}
use Rattle.pair_split.specs.Skeleton.{IsSkeleton}
use Rattle.pair_split.specs.Split.{IsSplit}
use Rattle.pair_split.specs.State.{AreSplitComponents}
use Rattle.pair_split.specs.Writing.{IsListed, entry_total}
use Rattle.pair_split.specs.declared.splitting.Finished.{Finished}
use Rattle.pair_split.specs.declared.components.Comps.{Comps}
use Rattle.pair_split.specs.declared.family.NamedEdge.{NamedEdge}
use Rattle.split_comp.specs.Pass.{PassState, first_state}
use Rattle.split_comp.proofs.SearchEnd.{is-numbered, start-pass, start-turns, left-family, left-listed, left-cost, left-items, left-split}
use Rattle.split_comp.proofs.splitter.split_large.Goals as goal

pub grow-requires : goal.grow-requires
grow-requires g c = record { connected = block-connected c.args.g.now c.requires.block }

pub run-requires-clause-pass : goal.run-requires-clause-pass
run-requires-clause-pass g c = start-pass c.args.g.now c.edge_count.ensures.graph c.edge_count.ensures.limits c.requires.block c.requires.large c.in_ok-tree.tree c.in_ok-tree.ensures.tree c.in_ok-tree.ensures.vertices c.in_ok-pass.pass
    (c.in_ok-pass.ensures ∙ (λ i. first_state (c.vertex_count.ensures.value i) (c.edge_count.ensures.value i)))

pub run-requires-clause-turns : goal.run-requires-clause-turns
run-requires-clause-turns g c = start-turns c.args.g.now c.edge_count.ensures.graph c.edge_count.ensures.limits c.requires.block c.requires.large c.in_ok-tree.tree c.in_ok-tree.ensures.tree c.in_ok-tree.ensures.vertices c.in_ok-pass.pass
    (c.in_ok-pass.ensures ∙ (λ i. first_state (c.vertex_count.ensures.value i) (c.edge_count.ensures.value i)))

pub kind_of_all-kind-requires-clause-family : goal.kind_of_all-kind-requires-clause-family
kind_of_all-kind-requires-clause-family g c = left-family c.args.g.now c.in_ok-tree.tree (is-numbered c.args.g.now c.edge_count.ensures.graph c.edge_count.ensures.limits c.requires.block c.requires.large c.in_ok-tree.tree c.in_ok-tree.ensures.tree c.in_ok-tree.ensures.vertices) c.run.new.self c.in_ok-run.ensures.passed c.deref.result.now (ap family_of c.deref.ensures.value ∙ c.in_ok-edges.ensures.edges)

pub write_components-requires-clause-listed : goal.write_components-requires-clause-listed
write_components-requires-clause-listed g c = subst (λ (y : ℕ × List Finished). IsListed y.0 (state_of y.1 c.deref-2.result.now)) (λ i. (sym c.edge_count-2.ensures.value i, sym c.finished.ensures i))
    (left-listed c.args.g.now c.in_ok-tree.tree (is-numbered c.args.g.now c.edge_count.ensures.graph c.edge_count.ensures.limits c.requires.block c.requires.large c.in_ok-tree.tree c.in_ok-tree.ensures.tree c.in_ok-tree.ensures.vertices) c.run.new.self c.in_ok-run.ensures.passed c.deref-2.result.now (ap family_of c.deref-2.ensures.value ∙ c.in_ok-edges.ensures.edges))

pub returns-clause-split : goal.returns-clause-split
returns-clause-split g c = IfOk-weaker c.write_components.result _ (λ (comps : Comps). IsSplit c.args.g.now comps.list)
    (λ comps w. left-split c.args.g.now c.in_ok-tree.tree (is-numbered c.args.g.now c.edge_count.ensures.graph c.edge_count.ensures.limits c.requires.block c.requires.large c.in_ok-tree.tree c.in_ok-tree.ensures.tree c.in_ok-tree.ensures.vertices) c.run.new.self c.in_ok-run.ensures.passed c.deref-2.result.now (ap family_of c.deref-2.ensures.value ∙ c.in_ok-edges.ensures.edges) c.kind_of_all-kind.result comps.list
    (subst (λ (edges : List NamedEdge). IsSkeleton c.kind_of_all-kind.result (family_skeleton (family_of edges))) (c.deref.ensures.value ∙ sym c.deref-2.ensures.value) c.kind_of_all-kind.ensures.skeleton) c.kind_of_all-kind.ensures.large
    (subst (λ (y : ℕ × List Finished). AreSplitComponents y.0 (state_of y.1 c.deref-2.result.now) c.kind_of_all-kind.result comps.list) (λ i. (c.edge_count-2.ensures.value i, c.finished.ensures i)) w))
    c.write_components.ensures.components

pub returns-clause-at_most : goal.returns-clause-at_most
returns-clause-at_most g c = omega (
  arith,
  c.write_components.ensures.at_most,
  ap (λ (parts : List Finished). length parts) c.finished.ensures,
  ap entry_total c.finished.ensures,
  left-cost c.args.g.now c.in_ok-tree.tree (is-numbered c.args.g.now c.edge_count.ensures.graph c.edge_count.ensures.limits c.requires.block c.requires.large c.in_ok-tree.tree c.in_ok-tree.ensures.tree c.in_ok-tree.ensures.vertices) c.run.new.self c.in_ok-run.ensures.passed c.deref-2.result.now (ap family_of c.deref-2.ensures.value ∙ c.in_ok-edges.ensures.edges),
  left-items c.args.g.now c.in_ok-tree.tree (is-numbered c.args.g.now c.edge_count.ensures.graph c.edge_count.ensures.limits c.requires.block c.requires.large c.in_ok-tree.tree c.in_ok-tree.ensures.tree c.in_ok-tree.ensures.vertices) c.run.new.self c.in_ok-run.ensures.passed c.deref-2.result.now (ap family_of c.deref-2.ensures.value ∙ c.in_ok-edges.ensures.edges),
  c.in_ok-edges.ensures.at_most,
  c.in_ok-run.ensures.at_most,
  ap (λ (s : PassState). length s.items) c.in_ok-pass.ensures,
  ap (λ (s : PassState). length s.cuts) c.in_ok-pass.ensures,
  c.in_ok-tree.ensures.at_most,
)
