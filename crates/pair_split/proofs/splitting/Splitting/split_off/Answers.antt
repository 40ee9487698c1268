use Rattle.std.proofs.Common.{◌∷◌, ◌+◌, Bool, List, sym, subst, ap, ◌∙◌, refl, length, arith}
use Rattle.multigraph.specs.Graph.{edge_count}
use Rattle.pair_split.specs.Family.{Entry, IsFamily, IsPrime}
use Rattle.pair_split.specs.Edges.{family_skeleton}
use Rattle.pair_split.specs.Skeleton.{IsSkeleton}
use Rattle.pair_split.specs.Splitting.{IsSplitting}
use Rattle.pair_split.specs.declared.splitting.Finished.{Finished}
use Rattle.pair_split.specs.Bridges.{entry_of, family_of, HaveNamesBelow}
use Rattle.pair_split.specs.declared.family.NamedEdge.{NamedEdge}
use Rattle.pair_split.proofs.SplitSteps.{names-within, inside-family, inside-prime, split_off-splitting, split_off-fewer, inside-is, outside-is, own-is}
use Rattle.pair_split.proofs.splitting.Splitting.split_off.Goals as goal

pub marked_edges-requires : goal.marked_edges-requires
marked_edges-requires c = subst (λ (es : List NamedEdge). HaveNamesBelow (length c.deref-2.result.now) es) (sym c.deref.ensures.value) (subst (λ (ms : List Bool). HaveNamesBelow (length ms) c.args.self.current.items) (sym c.deref-2.ensures.value)
    (names-within c.args.self.current.items (length c.args.side.marks.items) c.requires.side.named))

pub other_edges-requires : goal.other_edges-requires
other_edges-requires c = subst (λ (es : List NamedEdge). HaveNamesBelow (length c.deref-4.result.now) es) (sym c.deref-3.ensures.value) (subst (λ (ms : List Bool). HaveNamesBelow (length ms) c.args.self.current.items) (sym c.deref-4.ensures.value)
    (names-within c.args.self.current.items (length c.args.side.marks.items) c.requires.side.named))

pub kind_of-kind-requires-clause-family : goal.kind_of-kind-requires-clause-family
kind_of-kind-requires-clause-family c = subst IsFamily (sym (λ i. (own-is (edge_count c.args.g.now) (length c.args.self.parts.items) c.edge_count.result c.len.result c.args.side.first c.args.side.second c.edge_count.ensures.value (omega (arith, c.len.ensures, c.args.self.parts.ok.0))) i ∷ (inside-is c.args.self.current.items c.deref.result.now c.args.side.marks.items c.deref-2.result.now c.in_ok-inside.inside.items c.deref-5.result.now c.deref-5.ensures.value c.deref.ensures.value c.deref-2.ensures.value c.in_ok-inside.ensures) i))
    (inside-family c.args.g.now c.edge_count.ensures.graph c.requires.block c.args.self.parts.items c.args.self.current.items c.requires.state c.args.side c.requires.side)

pub kind_of-kind-requires-clause-prime : goal.kind_of-kind-requires-clause-prime
kind_of-kind-requires-clause-prime c = subst IsPrime (sym (λ i. (own-is (edge_count c.args.g.now) (length c.args.self.parts.items) c.edge_count.result c.len.result c.args.side.first c.args.side.second c.edge_count.ensures.value (omega (arith, c.len.ensures, c.args.self.parts.ok.0))) i ∷ (inside-is c.args.self.current.items c.deref.result.now c.args.side.marks.items c.deref-2.result.now c.in_ok-inside.inside.items c.deref-5.result.now c.deref-5.ensures.value c.deref.ensures.value c.deref-2.ensures.value c.in_ok-inside.ensures) i))
    (inside-prime c.args.g.now c.edge_count.ensures.graph c.requires.block c.args.self.parts.items c.args.self.current.items c.requires.state c.args.side c.requires.side)

pub returns-clause-state : goal.returns-clause-state
returns-clause-state c = subst (λ (parts : List Finished). IsSplitting c.args.g.now parts c.in_ok-current.current.items) (sym c.in_ok-push.ensures.items)
    (split_off-splitting c.args.g.now c.edge_count.ensures.graph c.requires.block c.args.self.parts.items c.args.self.current.items c.requires.state c.args.side c.requires.side _ c.in_ok-current.current.items (own-is (edge_count c.args.g.now) (length c.args.self.parts.items) c.edge_count.result c.len.result c.args.side.first c.args.side.second c.edge_count.ensures.value (omega (arith, c.len.ensures, c.args.self.parts.ok.0)))
    (ap family_of c.of.ensures ∙ (inside-is c.args.self.current.items c.deref.result.now c.args.side.marks.items c.deref-2.result.now c.in_ok-inside.inside.items c.in_ok-inside.inside.items refl c.deref.ensures.value c.deref-2.ensures.value c.in_ok-inside.ensures))
    (outside-is c.args.self.current.items c.deref-3.result.now c.args.side.marks.items c.deref-4.result.now c.in_ok-current.current.items (entry_of (record { name = c.edge_count.result + c.len.result; first = c.args.side.first; second = c.args.side.second })) (record { name = edge_count c.args.g.now + length c.args.self.parts.items; first = c.args.side.first; second = c.args.side.second }) (own-is (edge_count c.args.g.now) (length c.args.self.parts.items) c.edge_count.result c.len.result c.args.side.first c.args.side.second c.edge_count.ensures.value (omega (arith, c.len.ensures, c.args.self.parts.ok.0))) c.deref-3.ensures.value c.deref-4.ensures.value c.in_ok-current.ensures)
    (subst (λ (es : List Entry). IsSkeleton c.kind_of-kind.result (family_skeleton es)) (λ i. (own-is (edge_count c.args.g.now) (length c.args.self.parts.items) c.edge_count.result c.len.result c.args.side.first c.args.side.second c.edge_count.ensures.value (omega (arith, c.len.ensures, c.args.self.parts.ok.0))) i ∷ (inside-is c.args.self.current.items c.deref.result.now c.args.side.marks.items c.deref-2.result.now c.in_ok-inside.inside.items c.deref-5.result.now c.deref-5.ensures.value c.deref.ensures.value c.deref-2.ensures.value c.in_ok-inside.ensures) i) c.kind_of-kind.ensures.skeleton) c.kind_of-kind.ensures.large)

pub returns-clause-fewer : goal.returns-clause-fewer
returns-clause-fewer c = split_off-fewer c.args.g.now c.edge_count.ensures.graph c.requires.block c.args.self.parts.items c.args.self.current.items c.requires.state c.args.side c.requires.side c.in_ok-current.current.items
    (outside-is c.args.self.current.items c.deref-3.result.now c.args.side.marks.items c.deref-4.result.now c.in_ok-current.current.items (entry_of (record { name = c.edge_count.result + c.len.result; first = c.args.side.first; second = c.args.side.second })) (record { name = edge_count c.args.g.now + length c.args.self.parts.items; first = c.args.side.first; second = c.args.side.second }) (own-is (edge_count c.args.g.now) (length c.args.self.parts.items) c.edge_count.result c.len.result c.args.side.first c.args.side.second c.edge_count.ensures.value (omega (arith, c.len.ensures, c.args.self.parts.ok.0))) c.deref-3.ensures.value c.deref-4.ensures.value c.in_ok-current.ensures)
