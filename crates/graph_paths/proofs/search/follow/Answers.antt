-- The way begins, goes on from a vertex that is not the root, and is a path at the root.
use Rattle.std.proofs.Common.{ℕ, ◌+◌, List, ◌∷◌, ◌++◌, [], refl, sym, subst, arith}
use Rattle.graph_paths.specs.Listing.{note_of}
use Rattle.graph_paths.specs.Search.{IsOnWay}
use Rattle.graph_paths.proofs.SearchSteps.{way-begin, way-in, way-edge, way-next, way-done, way-short}
use Rattle.graph_paths.proofs.search.follow.Goals as goal

pub loop-init : goal.loop-init
loop-init c = λ s h. subst (λ (z : List ℕ). IsOnWay c.args.g.now s.list c.args.from z c.args.from 0) (sym c.new-along.ensures.items)
    (way-begin c.args.g.now c.vertex_count-end.ensures.graph c.args.root c.args.notes.now s c.args.from h)

pub returns-then-at-root : goal.returns-then-at-root
returns-then-at-root c = way-done c.args.g.now c.vertex_count-end.ensures.graph c.args.root c.args.notes.now c.requires.searched c.args.from c.loop.along.items c.loop.at c.loop.counter
    (c.loop.invariant c.requires.searched c.requires.connected) c.if-at-root.true

pub bounds-notes-at : goal.bounds-notes-at
bounds-notes-at c = omega (
  arith,
  way-in c.args.g.now c.vertex_count-end.ensures.graph c.args.root c.args.notes.now c.requires.searched c.args.from c.loop.along.items c.loop.at c.loop.counter (c.loop.invariant c.requires.searched c.requires.connected),
  c.requires.searched.notes_each,
)

pub other_end-at-requires-clause-edge : goal.other_end-at-requires-clause-edge
other_end-at-requires-clause-edge c = (way-edge c.args.g.now c.vertex_count-end.ensures.graph c.args.root c.args.notes.now c.requires.searched c.args.from c.loop.along.items c.loop.at c.loop.counter
    (c.loop.invariant c.requires.searched c.requires.connected) c.if-at-root.false).0

pub other_end-at-requires-clause-end : goal.other_end-at-requires-clause-end
other_end-at-requires-clause-end c = (way-edge c.args.g.now c.vertex_count-end.ensures.graph c.args.root c.args.notes.now c.requires.searched c.args.from c.loop.along.items c.loop.at c.loop.counter
    (c.loop.invariant c.requires.searched c.requires.connected) c.if-at-root.false).1

pub loop-preserved : goal.loop-preserved
loop-preserved c = λ s h.
    let e = note_of c.args.notes.now c.loop.at in
    subst (λ (z : List ℕ). IsOnWay c.args.g.now s.list c.args.from z c.other_end-at.result (c.loop.counter + 1)) (sym c.in_ok-push.ensures.items)
    (subst (λ (z : ℕ). IsOnWay c.args.g.now s.list c.args.from (c.loop.along.items ++ e ∷ []) z (c.loop.counter + 1)) (sym c.other_end-at.ensures)
    (way-next c.args.g.now c.vertex_count-end.ensures.graph c.args.root c.args.notes.now s c.args.from c.loop.along.items c.loop.at c.loop.counter e refl (c.loop.invariant s h) c.if-at-root.false))

pub unreachable-requires : goal.unreachable-requires
unreachable-requires c = way-short c.args.g.now c.vertex_count-end.ensures.graph c.args.root c.args.notes.now c.requires.searched c.args.from c.loop.along.items c.loop.at c.loop.counter
    (c.loop.invariant c.requires.searched c.requires.connected) (omega (arith, c.loop-test.false, c.vertex_count-end.ensures.value))
