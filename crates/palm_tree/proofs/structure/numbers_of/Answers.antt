use Rattle.std.proofs.Common.{ℕ, List, sym, subst, ◌∙◌, arith}
use Rattle.palm_tree.specs.Growing.{AreChildren, HasRoom}
use Rattle.search_forest.proofs.Orders.{short}
use Rattle.palm_tree.proofs.Sorted.{are-children, edges-few}
use Rattle.palm_tree.proofs.structure.numbers_of.Goals as goal

pub returns-in_err-children-clause-cost : goal.returns-in_err-children-clause-cost
returns-in_err-children-clause-cost g c = omega (arith, c.children_in_order.ensures.cost, edges-few c.args.graph.now c.args.edges.now c.requires.edges)

pub returns-in_err-sizes-clause-cost : goal.returns-in_err-sizes-clause-cost
returns-in_err-sizes-clause-cost g c = omega (arith, c.children_in_order.ensures.cost, c.sizes_below.ensures.cost, edges-few c.args.graph.now c.args.edges.now c.requires.edges)

pub offsets-requires-clause-children : goal.offsets-requires-clause-children
offsets-requires-clause-children g c =
    subst (AreChildren c.args.graph.now c.args.search.now) (sym (c.deref-2.ensures.value ∙ c.in_ok-children.ensures.children))
    (are-children c.args.graph.now c.requires.graph c.args.search.now c.requires.over c.args.low.now c.args.edges.now c.requires.edges)

pub returns-in_err-offset-clause-cost : goal.returns-in_err-offset-clause-cost
returns-in_err-offset-clause-cost g c =
    let k = subst (AreChildren c.args.graph.now c.args.search.now) (sym (c.deref-2.ensures.value ∙ c.in_ok-children.ensures.children))
    (are-children c.args.graph.now c.requires.graph c.args.search.now c.requires.over c.args.low.now c.args.edges.now c.requires.edges) in
    omega (arith, c.children_in_order.ensures.cost, c.sizes_below.ensures.cost, c.offsets.ensures.cost, edges-few c.args.graph.now c.args.edges.now c.requires.edges, short c.args.graph.now.vertex_count c.deref-2.result.now k.distinct (λ x h. (k.within x h).0))

pub numbers-requires-clause-room : goal.numbers-requires-clause-room
numbers-requires-clause-room g c =
    subst (λ (x : List ℕ). HasRoom c.args.graph.now c.args.search.now x c.deref-4.result.now) (c.deref.ensures.value ∙ sym c.deref-3.ensures.value)
    (subst (HasRoom c.args.graph.now c.args.search.now c.deref.result.now) (sym c.deref-4.ensures.value) c.in_ok-offset.ensures.offsets.room)

pub returns-clause-cost : goal.returns-clause-cost
returns-clause-cost g c =
    let k = subst (AreChildren c.args.graph.now c.args.search.now) (sym (c.deref-2.ensures.value ∙ c.in_ok-children.ensures.children))
    (are-children c.args.graph.now c.requires.graph c.args.search.now c.requires.over c.args.low.now c.args.edges.now c.requires.edges) in
    omega (arith, c.children_in_order.ensures.cost, c.sizes_below.ensures.cost, c.offsets.ensures.cost, c.numbers.ensures.cost, edges-few c.args.graph.now c.args.edges.now c.requires.edges, short c.args.graph.now.vertex_count c.deref-2.result.now k.distinct (λ x h. (k.within x h).0))
