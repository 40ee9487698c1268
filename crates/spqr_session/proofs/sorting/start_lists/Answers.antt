use Rattle.std.proofs.Common.{◌≡◌, ◌<◌, ℕ, List, [], length, slice_index_or, All, sym, ap, subst, arith}
use Rattle.multigraph.specs.Graph.{Multigraph, edge_count, IsGraph}
use Rattle.rotations.specs.Entries.{IsAbove}
use Rattle.spqr_session.specs.Sorting.{AreEntered, AreGathered, AreWaiting, HasBlocks, IsKnown}
use Rattle.spqr_session.proofs.SortedStarts.{list-known, list-above, list-entered, given-none, starts-sorted, named-arranges}
use Rattle.spqr_session.proofs.sorting.start_lists.Goals as goal
use Rattle.spqr_session.proofs.sorting.start_lists.Goals.{in-Some+in_ok-wait+in_ok-move_waiting, in_default}

-- each edge of a list has a block
pub wait-requires-clause-known : goal.wait-requires-clause-known
wait-requires-clause-known c =
    let named = c.args.named.now in
    let blocks = c.args.blocks.now.blocks in
    let list = c.in-Some.list.now in
    let inside : c.loop-v.v < named.graph.vertex_count = omega (arith, c.loop-v-test.true, c.vertex_count-v-end.ensures.value, ap (λ (g : Multigraph). g.vertex_count) c.graph-2.ensures.value) in
    subst (λ (n : ℕ). All (IsKnown c.deref.result.now n) list) (sym c.loop-v.invariant.waits.counted)
    (subst (λ (table : List ℕ). All (IsKnown table (length blocks)) list) (sym c.deref.ensures.value)
    (list-known named (subst IsGraph c.graph-2.ensures.value c.vertex_count-v-end.ensures.graph) c.start.ensures.named blocks c.requires.blocks c.in_ok-of_edge.of_edge.items
    (subst (λ (g : Multigraph). HasBlocks (edge_count g) blocks (length blocks) c.in_ok-of_edge.of_edge.items) c.graph.ensures.value c.in_ok-of_edge.ensures)
    c.loop-v.v list c.in-Some.ensures.edges inside))

pub move_waiting-requires-clause-known : goal.move_waiting-requires-clause-known
move_waiting-requires-clause-known c =
    let named = c.args.named.now in
    let blocks = c.args.blocks.now.blocks in
    let list = c.in-Some.list.now in
    let inside : c.loop-v.v < named.graph.vertex_count = omega (arith, c.loop-v-test.true, c.vertex_count-v-end.ensures.value, ap (λ (g : Multigraph). g.vertex_count) c.graph-2.ensures.value) in
    subst (λ (n : ℕ). All (IsKnown c.deref-in-Some.result.now n) list) (sym c.loop-v.invariant.counted)
    (subst (λ (table : List ℕ). All (IsKnown table (length blocks)) list) (sym c.deref-in-Some.ensures.value)
    (list-known named (subst IsGraph c.graph-2.ensures.value c.vertex_count-v-end.ensures.graph) c.start.ensures.named blocks c.requires.blocks c.in_ok-of_edge.of_edge.items
    (subst (λ (g : Multigraph). HasBlocks (edge_count g) blocks (length blocks) c.in_ok-of_edge.of_edge.items) c.graph.ensures.value c.in_ok-of_edge.ensures)
    c.loop-v.v list c.in-Some.ensures.edges inside))

-- the entries so far are of smaller vertices
pub move_waiting-requires-clause-above : goal.move_waiting-requires-clause-above
move_waiting-requires-clause-above c =
    let named = c.args.named.now in
    let blocks = c.args.blocks.now.blocks in
    subst (λ (n : ℕ). (b : ℕ) → b < n → IsAbove (slice_index_or c.loop-v.lists.items b []) c.loop-v.v) (sym c.loop-v.invariant.counted)
    (list-above named (subst IsGraph c.graph-2.ensures.value c.vertex_count-v-end.ensures.graph) c.start.ensures.named blocks c.requires.blocks c.in_ok-of_edge.of_edge.items
    (subst (λ (g : Multigraph). HasBlocks (edge_count g) blocks (length blocks) c.in_ok-of_edge.of_edge.items) c.graph.ensures.value c.in_ok-of_edge.ensures)
    c.loop-v.v c.in-Some.list.now c.in-Some.ensures.edges c.loop-v.lists.items c.loop-v.invariant.gathered)

-- one vertex more
pub loop-v-preserved : goal.loop-v-preserved
loop-v-preserved c =
    let named = c.args.named.now in
    let blocks = c.args.blocks.now.blocks in
    let table = c.in_ok-of_edge.of_edge.items in
    let before = c.loop-v.lists.items in
    let inside = subst IsGraph c.graph-2.ensures.value c.vertex_count-v-end.ensures.graph in
    let has = subst (λ (g : Multigraph). HasBlocks (edge_count g) blocks (length blocks) table) c.graph.ensures.value c.in_ok-of_edge.ensures in
    elim c.match-start.branch [
      | in-Some+in_ok-wait+in_ok-move_waiting w ↦
          let none = subst (λ (n : ℕ). AreWaiting w.deref-in-Some.result.now [] n w.move_waiting.new.waiting.items) c.loop-v.invariant.counted w.in_ok-move_waiting.ensures.none in
          let entered = subst (λ (n : ℕ). AreEntered w.deref-in-Some.result.now w.in-Some.list.now c.loop-v.v n before w.move_waiting.new.lists.items) c.loop-v.invariant.counted w.in_ok-move_waiting.ensures.entered in
          let own = subst (λ (t : List ℕ). AreEntered t w.in-Some.list.now c.loop-v.v (length blocks) before w.move_waiting.new.lists.items) w.deref-in-Some.ensures.value entered in
          rw (w.waiting-is, w.lists-is) (record {
            waits = subst (λ (t : List ℕ). AreWaiting t [] (length blocks) w.move_waiting.new.waiting.items) w.deref-in-Some.ensures.value none;
            counted = entered.counted;
            gathered = list-entered named inside c.start.ensures.named blocks c.requires.blocks table has c.loop-v.v w.in-Some.list.now w.in-Some.ensures.edges before w.move_waiting.new.lists.items c.loop-v.invariant.gathered own;
          })
      | in_default w ↦ rw (w.waiting-is, w.lists-is) (record {
        waits = c.loop-v.invariant.waits;
        counted = c.loop-v.invariant.counted;
        gathered = λ starts e. absurd (given-none named.start c.loop-v.v starts w.in_default.ensures.edges e);
      })
    ]

-- the entries of all vertices
pub returns : goal.returns
returns c =
    let named = c.args.named.now in
    let blocks = c.args.blocks.now.blocks in
    let all : c.loop-v.v ≡ named.graph.vertex_count = omega (arith, c.loop-v-test.false, c.loop-v.auto.v-end, c.vertex_count-v-end.ensures.value, ap (λ (g : Multigraph). g.vertex_count) c.graph-2.ensures.value) in
    λ starts e. starts-sorted named.graph (subst IsGraph c.graph-2.ensures.value c.vertex_count-v-end.ensures.graph) blocks c.requires.blocks c.in_ok-of_edge.of_edge.items
    (subst (λ (g : Multigraph). HasBlocks (edge_count g) blocks (length blocks) c.in_ok-of_edge.of_edge.items) c.graph.ensures.value c.in_ok-of_edge.ensures)
    starts (named-arranges named starts c.graph.ensures.named e) c.loop-v.lists.items
    (subst (λ (n : ℕ). AreGathered c.in_ok-of_edge.of_edge.items starts n (length blocks) c.loop-v.lists.items) all (c.loop-v.invariant.gathered starts e))
