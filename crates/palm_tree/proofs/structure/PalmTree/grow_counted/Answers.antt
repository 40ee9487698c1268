use Rattle.std.proofs.Common.{◌<◌, ℕ, List, length, get_or, refl, sym, subst, ap, arith}
use Rattle.multigraph.specs.Graph.{edge_count}
use Rattle.palm_tree.specs.Growing.{sort_key, Tells, AreEdges, AreListsOf, AreNumbered}
use Rattle.search_forest.proofs.Lows.{first-in, second-in}
use Rattle.palm_tree.proofs.Sorted.{sorted-edges, edges-few}
use Rattle.palm_tree.proofs.Whole.{is-palm_tree}
use Rattle.palm_tree.proofs.structure.PalmTree.grow_counted.Goals as goal

pub numbers_of-requires-clause-edges : goal.numbers_of-requires-clause-edges
numbers_of-requires-clause-edges g c =
    subst (AreEdges c.args.graph.now) (sym c.deref.ensures.value) (sorted-edges c.args.graph.now (sort_key c.args.graph.now c.in_ok-search.search c.in_ok-low.low) c.in_ok-edges.edges.items c.in_ok-edges.ensures.sorted)

pub numbers_at-requires : goal.numbers_at-requires
numbers_at-requires g c = λ v l.
    let p = c.in_ok-low.ensures.low.first_places in
    let m : v < c.args.graph.now.vertex_count = omega (arith, l, ap (length {A = ℕ}) c.first.ensures, p) in
    let i = first-in c.args.graph.now c.in_ok-search.ensures.graph c.in_ok-search.search c.in_ok-search.ensures.over c.in_ok-low.low (edge_count c.args.graph.now) c.in_ok-search.search.order c.in_ok-low.ensures.low v m in
    omega (arith, i, ap (λ (z : List ℕ). get_or z v 0) c.first.ensures, ap (length {A = ℕ}) c.deref-2.ensures.value, c.in_ok-number.ensures.numbers.numbers.places)

pub numbers_at-requires-2 : goal.numbers_at-requires-2
numbers_at-requires-2 g c = λ v l.
    let p = c.in_ok-low.ensures.low.second_places in
    let m : v < c.args.graph.now.vertex_count = omega (arith, l, ap (length {A = ℕ}) c.second.ensures, p) in
    let i = second-in c.args.graph.now c.in_ok-search.ensures.graph c.in_ok-search.search c.in_ok-search.ensures.over c.in_ok-low.low (edge_count c.args.graph.now) c.in_ok-search.search.order c.in_ok-low.ensures.low v m in
    omega (arith, i, ap (λ (z : List ℕ). get_or z v 0) c.second.ensures, ap (length {A = ℕ}) c.deref-3.ensures.value, c.in_ok-number.ensures.numbers.numbers.places)

pub returns-in_err-darts-clause-at_most : goal.returns-in_err-darts-clause-at_most
returns-in_err-darts-clause-at_most g c =
    let few = edges-few c.args.graph.now c.in_ok-edges.edges.items (sorted-edges c.args.graph.now (sort_key c.args.graph.now c.in_ok-search.search c.in_ok-low.low) c.in_ok-edges.edges.items c.in_ok-edges.ensures.sorted) in
    omega (
      arith,
      few,
      ap (length {A = ℕ}) c.deref-4.ensures.value,
      c.of_connected.ensures.cost,
      c.of.ensures.cost,
      c.sorted_edges.ensures.cost,
      c.numbers_of.ensures.cost,
      c.parents.ensures.cost,
      c.fronds.ensures.cost,
      c.numbers_at.ensures.cost,
      c.numbers_at-2.ensures.cost,
      c.darts.ensures.cost,
      ap (length {A = ℕ}) c.first.ensures,
      ap (length {A = ℕ}) c.second.ensures,
      c.in_ok-low.ensures.low.first_places,
      c.in_ok-low.ensures.low.second_places,
    )

pub returns-clause-at_most : goal.returns-clause-at_most
returns-clause-at_most g c =
    let few = edges-few c.args.graph.now c.in_ok-edges.edges.items (sorted-edges c.args.graph.now (sort_key c.args.graph.now c.in_ok-search.search c.in_ok-low.low) c.in_ok-edges.edges.items c.in_ok-edges.ensures.sorted) in
    omega (
      arith,
      few,
      ap (length {A = ℕ}) c.deref-4.ensures.value,
      c.of_connected.ensures.cost,
      c.of.ensures.cost,
      c.sorted_edges.ensures.cost,
      c.numbers_of.ensures.cost,
      c.parents.ensures.cost,
      c.fronds.ensures.cost,
      c.numbers_at.ensures.cost,
      c.numbers_at-2.ensures.cost,
      c.darts.ensures.cost,
      ap (length {A = ℕ}) c.first.ensures,
      ap (length {A = ℕ}) c.second.ensures,
      c.in_ok-low.ensures.low.first_places,
      c.in_ok-low.ensures.low.second_places,
    )

pub returns-clause-tree : goal.returns-clause-tree
returns-clause-tree g c =
    let gr = c.args.graph.now in
    let s = c.in_ok-search.search in
    let low = c.in_ok-low.low in
    let num = c.in_ok-number.number.items in
    is-palm_tree gr c.in_ok-search.ensures.graph s c.in_ok-search.ensures.over c.in_ok-search.ensures.root low c.in_ok-low.ensures.low c.in_ok-edges.edges.items c.in_ok-edges.ensures.sorted num
    (subst (λ (x : List ℕ). AreNumbered gr s low x num) c.deref.ensures.value c.in_ok-number.ensures.numbers)
    (record { number = num; parent = c.in_ok-parent.parent.items; frond = c.in_ok-frond.frond.items; low1 = c.in_ok-low1.low1.items; low2 = c.in_ok-low2.low2.items; darts = c.in_ok-darts.darts.items })
    (record {
      number = refl;
      parent = c.in_ok-parent.ensures.parents;
      frond = c.in_ok-frond.ensures.fronds;
      low1 = subst (λ (k : ℕ). Tells 0 (λ v. get_or num (get_or low.first v 0) 0) k c.in_ok-low1.low1.items) c.in_ok-low.ensures.low.first_places
          (subst (λ (vs : List ℕ). Tells 0 (λ v. get_or num (get_or vs v 0) 0) (length vs) c.in_ok-low1.low1.items) c.first.ensures
          (subst (λ (x : List ℕ). Tells 0 (λ v. get_or x (get_or c.first.result.now v 0) 0) (length c.first.result.now) c.in_ok-low1.low1.items) c.deref-2.ensures.value c.in_ok-low1.ensures.numbers));
      low2 = subst (λ (k : ℕ). Tells 0 (λ v. get_or num (get_or low.second v 0) 0) k c.in_ok-low2.low2.items) c.in_ok-low.ensures.low.second_places
          (subst (λ (vs : List ℕ). Tells 0 (λ v. get_or num (get_or vs v 0) 0) (length vs) c.in_ok-low2.low2.items) c.second.ensures
          (subst (λ (x : List ℕ). Tells 0 (λ v. get_or x (get_or c.second.result.now v 0) 0) (length c.second.result.now) c.in_ok-low2.low2.items) c.deref-3.ensures.value c.in_ok-low2.ensures.numbers));
      darts = subst (λ (x : List ℕ). AreListsOf gr s x c.in_ok-darts.darts.items) c.deref-4.ensures.value c.in_ok-darts.ensures.darts;
    })
