use Rattle.std.proofs.Common.{◌≡◌, ◌+◌, ◌++◌, ℕ, List, [], length, take, set, slice_index, slice_index_or, get_or, sym, ap, ◌∙◌, subst, arith}
use Rattle.std.proofs.lemmas.List.{take_all}
use Rattle.spqr_session.specs.Sorting.{AreMoved, entry_of}
use Rattle.spqr_session.proofs.SortedEdges.{moved-next, all-entered}
use Rattle.spqr_session.proofs.sorting.move_waiting.Goals as goal

-- one edge more
pub loop-e-preserved : goal.loop-e-preserved
loop-e-preserved c =
    let table = c.args.of_edge.now in
    let list = c.args.list.now in
    let v = c.args.v in
    let before = c.args.lists.now.items in
    let i = c.loop-e.e-index in
    let y = slice_index table (get_or list i 0) in
    let lists = c.loop-e.lists.items in
    let waiting = c.loop-e.waiting.items in
    let edges : c.as_slice.result.now ≡ slice_index_or waiting y [] = c.as_slice.ensures ∙ c.take_waiting-edges.ensures.taken in
    let entered : c.add_entry.new.lists.items ≡ set lists y (slice_index_or lists y [] ++ entry_of v (slice_index_or waiting y [])) =
    c.in_ok-add_entry.ensures ∙ ap (λ (es : List ℕ). set lists y (slice_index_or lists y [] ++ entry_of v es)) edges in
    subst (λ (l : List (List (ℕ × List ℕ))). AreMoved table list (take (i + 1) list) v (length before) before l c.take_waiting-edges.new.waiting.items) (sym entered)
    (subst (λ (w : List (List ℕ)). AreMoved table list (take (i + 1) list) v (length before) before (set lists y (slice_index_or lists y [] ++ entry_of v (slice_index_or waiting y []))) w) (sym c.take_waiting-edges.ensures.none)
    (moved-next table list v (length before) before i lists waiting c.loop-e-test.true c.loop-e.invariant (c.requires.known i 0 c.loop-e-test.true).1))

-- each block has its entry
pub returns-clause-entered : goal.returns-clause-entered
returns-clause-entered c =
    let before = c.args.lists.now.items in
    all-entered c.args.of_edge.now c.args.list.now c.args.v (length before) before c.loop-e.lists.items c.loop-e.waiting.items
    (subst (λ (l : List ℕ). AreMoved c.args.of_edge.now c.args.list.now l c.args.v (length before) before c.loop-e.lists.items c.loop-e.waiting.items) (take_all c.loop-e.e-index c.args.list.now (omega (arith, c.loop-e-test.false))) c.loop-e.invariant)
