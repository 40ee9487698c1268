-- The search begins with the root, goes on from each vertex on the list, and is over after as many turns as vertices.
use Rattle.std.proofs.Common.{◌≡◌, ◌∙◌, ℕ, ◌<◌, ◌≤◌, List, length, subst, arith}
use Rattle.graph_paths.specs.Listing.{Grows}
use Rattle.graph_paths.proofs.Listed.{listed-few}
use Rattle.graph_paths.proofs.SearchSteps.{read-at, read-member, search-begin, search-next, search-past, search-done}
use Rattle.graph_paths.proofs.search.explore.Goals as goal
use Rattle.graph_paths.proofs.search.explore.Goals.{then-q-len+in_ok-visit, else-q-len}

pub loop-q-init : goal.loop-q-init
loop-q-init c = record {
  listed = c.in_ok-add_once.ensures.listed;
  size = c.in_ok-add_once.ensures.size ∙ c.requires.size;
  search = search-begin c.args.g.now c.vertex_count-q-end.ensures.graph c.args.root c.add_once.new.notes c.add_once.new.list.items c.args.notes.now
      (subst (λ (z : List ℕ). Grows (λ y m. (y ≡ c.args.root) × (m ≡ 0)) z c.args.notes.now c.add_once.new.list.items c.add_once.new.notes) c.requires.empty c.in_ok-add_once.ensures.grows)
      c.in_ok-add_once.ensures.held c.in_ok-add_once.ensures.listed.once;
}

pub visit-requires-clause-vertex : goal.visit-requires-clause-vertex
visit-requires-clause-vertex c =
    let b : c.loop-q.q < length c.loop-q.list.items = omega (arith, c.if-q-len.true, c.len.ensures) in
    omega (arith, c.loop-q.invariant.listed.within c.index-x.result.now (read-member c.loop-q.list.items c.loop-q.q c.index-x.result.now b c.index-x.ensures), c.loop-q.invariant.size)

pub loop-q-preserved : goal.loop-q-preserved
loop-q-preserved c = elim c.if-q-len.branch [
  | then-q-len+in_ok-visit w ↦
      let x = w.index-x.result.now in
      let b : c.loop-q.q < length c.loop-q.list.items = omega (arith, w.if-q-len.true, c.len.ensures) in
      rw (w.marks-is, w.notes-is, w.list-is) (record {
        listed = w.in_ok-visit.ensures.listed;
        size = w.in_ok-visit.ensures.size ∙ c.loop-q.invariant.size;
        search = search-next c.args.g.now c.vertex_count-q-end.ensures.graph c.args.root c.loop-q.notes c.loop-q.list.items w.visit.new.notes w.visit.new.list.items c.loop-q.q x
            b (read-at c.loop-q.list.items c.loop-q.q x b w.index-x.ensures) c.loop-q.invariant.search w.in_ok-visit.ensures.listed.once w.in_ok-visit.ensures.grows w.in_ok-visit.ensures.met;
      })
  | else-q-len w ↦
      let b : length c.loop-q.list.items ≤ c.loop-q.q = omega (arith, w.if-q-len.false, c.len.ensures) in
      rw (w.marks-is, w.notes-is, w.list-is) (record {
        listed = c.loop-q.invariant.listed;
        size = c.loop-q.invariant.size;
        search = search-past c.args.g.now c.vertex_count-q-end.ensures.graph c.args.root c.loop-q.notes c.loop-q.list.items c.loop-q.q b c.loop-q.invariant.search;
      })
]

pub returns : goal.returns
returns c =
    let few : length c.loop-q.list.items ≤ c.loop-q.q = omega (arith, listed-few c.loop-q.marks c.loop-q.notes c.loop-q.list.items c.loop-q.invariant.listed, c.loop-q.invariant.size, c.loop-q-test.false, c.vertex_count-q-end.ensures.value) in
    search-done c.args.g.now c.vertex_count-q-end.ensures.graph c.args.root c.loop-q.marks c.loop-q.notes c.loop-q.list.items c.loop-q.q c.loop-q.invariant.listed c.loop-q.invariant.size few c.loop-q.invariant.search
