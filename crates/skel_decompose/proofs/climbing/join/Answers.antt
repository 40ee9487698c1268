use Rattle.std.proofs.Common.{◌≢◌, ℕ, ◌<◌, ◌≤◌, List, inl, inr, length, sym, subst, arith}
use Rattle.std.proofs.lemmas.Bool.{cases_eq}
use Rattle.pair_split.specs.Tutte.{Node}
use Rattle.skel_decompose.specs.Ups.{rank_at, AreRanks}
use Rattle.skel_decompose.proofs.Entries.{entry-list, entry-place, entry-table}
use Rattle.skel_decompose.proofs.Climbs.{next-below, climb-starts, alone-put, here-in, there-in, here-end, up-falls, up-place, up-put, there-falls, first-end, first-place, there-put, met-put, met-done}
use Rattle.skel_decompose.proofs.climbing.join.Goals as goal

-- of two nodes one has the lower rank
more-rank : (nodes : List Node) (ranks : List ℕ) → AreRanks nodes ranks → (k m : ℕ) → k < length nodes → m < length nodes → k ≢ m → rank_at ranks k ≤ rank_at ranks m → rank_at ranks k < rank_at ranks m
more-rank nodes ranks a k m lk lm n f = elim (cases_eq (rank_at ranks k) (rank_at ranks m)) [
  | inl q ↦ absurd (n (a.once k m lk lm q))
  | inr o ↦ omega (arith, o, f)
]

pub returns-then-e-next-clause-keeps : goal.returns-then-e-next-clause-keeps
returns-then-e-next-clause-keeps c = λ g r family s f. (alone-put c.args.tree.now c.args.homes.now c.args.ups.now c.args.ranks.now c.requires.ups c.requires.ranks c.args.v c.args.e c.args.next c.requires.step c.args.home.0 c.args.home.1 c.requires.node c.requires.home c.if-e-next.true c.args.table.now c.set.new.self c.requires.table c.item_place-place.result c.item_place-place.ensures c.set.ensures g r family s f).0

pub returns-then-e-next-clause-last : goal.returns-then-e-next-clause-last
returns-then-e-next-clause-last c = λ g r family s f. (alone-put c.args.tree.now c.args.homes.now c.args.ups.now c.args.ranks.now c.requires.ups c.requires.ranks c.args.v c.args.e c.args.next c.requires.step c.args.home.0 c.args.home.1 c.requires.node c.requires.home c.if-e-next.true c.args.table.now c.set.new.self c.requires.table c.item_place-place.result c.item_place-place.ensures c.set.ensures g r family s f).1

pub bounds-homes-next : goal.bounds-homes-next
bounds-homes-next c = next-below c.args.tree.now c.args.homes.now c.args.ups.now c.args.ranks.now c.requires.ups c.requires.ranks c.args.v c.args.e c.args.next c.requires.step c.args.home.0 c.args.home.1 c.requires.node c.requires.home

pub bounds-homes-next-2 : goal.bounds-homes-next-2
bounds-homes-next-2 c = next-below c.args.tree.now c.args.homes.now c.args.ups.now c.args.ranks.now c.requires.ups c.requires.ranks c.args.v c.args.e c.args.next c.requires.step c.args.home.0 c.args.home.1 c.requires.node c.requires.home

pub loop-k-init : goal.loop-k-init
loop-k-init c = (c.requires.table, c.item_place-place.ensures, climb-starts c.args.tree.now c.args.homes.now c.args.ups.now c.args.ranks.now c.requires.ups c.requires.ranks c.args.v c.args.e c.args.next c.requires.step c.args.home.0 c.args.home.1 c.requires.node c.requires.home c.if-e-next.false c.args.table.now)

pub bounds-ranks-m : goal.bounds-ranks-m
bounds-ranks-m c = subst (λ z. c.loop-k.m < z) (sym c.requires.ranks.each) (there-in c.args.tree.now c.args.homes.now c.args.ups.now c.args.ranks.now c.requires.ups c.requires.ranks c.args.v c.args.e c.args.next c.requires.step c.args.home.0 c.args.home.1 c.requires.node c.requires.home c.args.table.now c.loop-k.table c.loop-k.invariant.0 c.loop-k.k c.loop-k.i c.loop-k.m c.loop-k.p c.loop-k.invariant.2)

pub bounds-ranks-k : goal.bounds-ranks-k
bounds-ranks-k c = subst (λ z. c.loop-k.k < z) (sym c.requires.ranks.each) (here-in c.args.tree.now c.args.homes.now c.args.ups.now c.args.ranks.now c.requires.ups c.requires.ranks c.args.v c.args.e c.args.next c.requires.step c.args.home.0 c.args.home.1 c.requires.node c.requires.home c.args.table.now c.loop-k.table c.loop-k.invariant.0 c.loop-k.k c.loop-k.i c.loop-k.m c.loop-k.p c.loop-k.invariant.2)

-- a step up from the first of the edges
pub set-requires-then-ranks-m-clause-place : goal.set-requires-then-ranks-m-clause-place
set-requires-then-ranks-m-clause-place c = entry-place c.args.tree.now c.loop-k.table c.loop-k.invariant.0 c.loop-k.k c.loop-k.i c.args.v 0 (here-end c.args.tree.now c.args.homes.now c.args.ups.now c.args.ranks.now c.requires.ups c.requires.ranks c.args.v c.args.e c.args.next c.requires.step c.args.home.0 c.args.home.1 c.requires.node c.requires.home c.args.table.now c.loop-k.table c.loop-k.invariant.0 c.loop-k.k c.loop-k.i c.loop-k.m c.loop-k.p c.loop-k.invariant.2) c.loop-k.place c.loop-k.invariant.1

pub loop-k-smaller-then-ranks-m : goal.loop-k-smaller-then-ranks-m
loop-k-smaller-then-ranks-m c = omega (arith, up-falls c.args.tree.now c.args.homes.now c.args.ups.now c.args.ranks.now c.requires.ups c.requires.ranks c.args.v c.args.e c.args.next c.requires.step c.args.home.0 c.args.home.1 c.requires.node c.requires.home c.args.table.now c.loop-k.table c.loop-k.invariant.0 c.loop-k.k c.loop-k.i c.loop-k.m c.loop-k.p c.loop-k.invariant.2 c.if-ranks-m.true)

pub loop-k-preserved-then-ranks-m : goal.loop-k-preserved-then-ranks-m
loop-k-preserved-then-ranks-m c = (
  entry-table c.args.tree.now c.loop-k.table c.loop-k.invariant.0 c.loop-k.k c.loop-k.i c.args.v 0 (here-end c.args.tree.now c.args.homes.now c.args.ups.now c.args.ranks.now c.requires.ups c.requires.ranks c.args.v c.args.e c.args.next c.requires.step c.args.home.0 c.args.home.1 c.requires.node c.requires.home c.args.table.now c.loop-k.table c.loop-k.invariant.0 c.loop-k.k c.loop-k.i c.loop-k.m c.loop-k.p c.loop-k.invariant.2) c.loop-k.place c.loop-k.invariant.1 c.set-then-ranks-m.new.self c.set-then-ranks-m.ensures,
  up-place c.args.tree.now c.args.homes.now c.args.ups.now c.args.ranks.now c.requires.ups c.requires.ranks c.args.v c.args.e c.args.next c.requires.step c.args.home.0 c.args.home.1 c.requires.node c.requires.home c.args.table.now c.loop-k.table c.loop-k.invariant.0 c.loop-k.k c.loop-k.i c.loop-k.m c.loop-k.p c.loop-k.invariant.2 c.if-ranks-m.true c.place-place.result c.place-place.ensures,
  up-put c.args.tree.now c.args.homes.now c.args.ups.now c.args.ranks.now c.requires.ups c.requires.ranks c.args.v c.args.e c.args.next c.requires.step c.args.home.0 c.args.home.1 c.requires.node c.requires.home c.args.table.now c.loop-k.table c.loop-k.invariant.0 c.loop-k.k c.loop-k.i c.loop-k.m c.loop-k.p c.loop-k.invariant.2 c.if-ranks-m.true c.loop-k.place c.loop-k.invariant.1 c.set-then-ranks-m.new.self c.set-then-ranks-m.ensures,
)

-- a step up from the next edge
pub bounds-ups-m : goal.bounds-ups-m
bounds-ups-m c = subst (λ z. c.loop-k.m < z) (sym c.requires.ups.each) (there-in c.args.tree.now c.args.homes.now c.args.ups.now c.args.ranks.now c.requires.ups c.requires.ranks c.args.v c.args.e c.args.next c.requires.step c.args.home.0 c.args.home.1 c.requires.node c.requires.home c.args.table.now c.loop-k.table c.loop-k.invariant.0 c.loop-k.k c.loop-k.i c.loop-k.m c.loop-k.p c.loop-k.invariant.2)

pub set-requires-else-ranks-m-clause-list : goal.set-requires-else-ranks-m-clause-list
set-requires-else-ranks-m-clause-list c = subst (λ z. c.loop-k.m < z) (sym c.loop-k.invariant.0.each) (there-in c.args.tree.now c.args.homes.now c.args.ups.now c.args.ranks.now c.requires.ups c.requires.ranks c.args.v c.args.e c.args.next c.requires.step c.args.home.0 c.args.home.1 c.requires.node c.requires.home c.args.table.now c.loop-k.table c.loop-k.invariant.0 c.loop-k.k c.loop-k.i c.loop-k.m c.loop-k.p c.loop-k.invariant.2)

pub set-requires-else-ranks-m-clause-place : goal.set-requires-else-ranks-m-clause-place
set-requires-else-ranks-m-clause-place c = entry-place c.args.tree.now c.loop-k.table c.loop-k.invariant.0 c.loop-k.m 0 c.args.v c.loop-k.p (first-end c.args.tree.now c.args.homes.now c.args.ups.now c.args.ranks.now c.requires.ups c.requires.ranks c.args.v c.args.e c.args.next c.requires.step c.args.home.0 c.args.home.1 c.requires.node c.requires.home c.args.table.now c.loop-k.table c.loop-k.invariant.0 c.loop-k.k c.loop-k.i c.loop-k.m c.loop-k.p c.loop-k.invariant.2 (more-rank c.args.tree.now c.args.ranks.now c.requires.ranks c.loop-k.k c.loop-k.m (here-in c.args.tree.now c.args.homes.now c.args.ups.now c.args.ranks.now c.requires.ups c.requires.ranks c.args.v c.args.e c.args.next c.requires.step c.args.home.0 c.args.home.1 c.requires.node c.requires.home c.args.table.now c.loop-k.table c.loop-k.invariant.0 c.loop-k.k c.loop-k.i c.loop-k.m c.loop-k.p c.loop-k.invariant.2) (there-in c.args.tree.now c.args.homes.now c.args.ups.now c.args.ranks.now c.requires.ups c.requires.ranks c.args.v c.args.e c.args.next c.requires.step c.args.home.0 c.args.home.1 c.requires.node c.requires.home c.args.table.now c.loop-k.table c.loop-k.invariant.0 c.loop-k.k c.loop-k.i c.loop-k.m c.loop-k.p c.loop-k.invariant.2) c.loop-k-test.true c.if-ranks-m.false)) c.first_place.result (first-place c.args.tree.now c.args.homes.now c.args.ups.now c.args.ranks.now c.requires.ups c.requires.ranks c.args.v c.args.e c.args.next c.requires.step c.args.home.0 c.args.home.1 c.requires.node c.requires.home c.args.table.now c.loop-k.table c.loop-k.invariant.0 c.loop-k.k c.loop-k.i c.loop-k.m c.loop-k.p c.loop-k.invariant.2 (more-rank c.args.tree.now c.args.ranks.now c.requires.ranks c.loop-k.k c.loop-k.m (here-in c.args.tree.now c.args.homes.now c.args.ups.now c.args.ranks.now c.requires.ups c.requires.ranks c.args.v c.args.e c.args.next c.requires.step c.args.home.0 c.args.home.1 c.requires.node c.requires.home c.args.table.now c.loop-k.table c.loop-k.invariant.0 c.loop-k.k c.loop-k.i c.loop-k.m c.loop-k.p c.loop-k.invariant.2) (there-in c.args.tree.now c.args.homes.now c.args.ups.now c.args.ranks.now c.requires.ups c.requires.ranks c.args.v c.args.e c.args.next c.requires.step c.args.home.0 c.args.home.1 c.requires.node c.requires.home c.args.table.now c.loop-k.table c.loop-k.invariant.0 c.loop-k.k c.loop-k.i c.loop-k.m c.loop-k.p c.loop-k.invariant.2) c.loop-k-test.true c.if-ranks-m.false) c.first_place.result c.first_place.ensures)

pub loop-k-smaller : goal.loop-k-smaller
loop-k-smaller c = omega (arith, there-falls c.args.tree.now c.args.homes.now c.args.ups.now c.args.ranks.now c.requires.ups c.requires.ranks c.args.v c.args.e c.args.next c.requires.step c.args.home.0 c.args.home.1 c.requires.node c.requires.home c.args.table.now c.loop-k.table c.loop-k.invariant.0 c.loop-k.k c.loop-k.i c.loop-k.m c.loop-k.p c.loop-k.invariant.2 (more-rank c.args.tree.now c.args.ranks.now c.requires.ranks c.loop-k.k c.loop-k.m (here-in c.args.tree.now c.args.homes.now c.args.ups.now c.args.ranks.now c.requires.ups c.requires.ranks c.args.v c.args.e c.args.next c.requires.step c.args.home.0 c.args.home.1 c.requires.node c.requires.home c.args.table.now c.loop-k.table c.loop-k.invariant.0 c.loop-k.k c.loop-k.i c.loop-k.m c.loop-k.p c.loop-k.invariant.2) (there-in c.args.tree.now c.args.homes.now c.args.ups.now c.args.ranks.now c.requires.ups c.requires.ranks c.args.v c.args.e c.args.next c.requires.step c.args.home.0 c.args.home.1 c.requires.node c.requires.home c.args.table.now c.loop-k.table c.loop-k.invariant.0 c.loop-k.k c.loop-k.i c.loop-k.m c.loop-k.p c.loop-k.invariant.2) c.loop-k-test.true c.if-ranks-m.false))

pub loop-k-preserved : goal.loop-k-preserved
loop-k-preserved c =
    let at = first-place c.args.tree.now c.args.homes.now c.args.ups.now c.args.ranks.now c.requires.ups c.requires.ranks c.args.v c.args.e c.args.next c.requires.step c.args.home.0 c.args.home.1 c.requires.node c.requires.home c.args.table.now c.loop-k.table c.loop-k.invariant.0 c.loop-k.k c.loop-k.i c.loop-k.m c.loop-k.p c.loop-k.invariant.2 (more-rank c.args.tree.now c.args.ranks.now c.requires.ranks c.loop-k.k c.loop-k.m (here-in c.args.tree.now c.args.homes.now c.args.ups.now c.args.ranks.now c.requires.ups c.requires.ranks c.args.v c.args.e c.args.next c.requires.step c.args.home.0 c.args.home.1 c.requires.node c.requires.home c.args.table.now c.loop-k.table c.loop-k.invariant.0 c.loop-k.k c.loop-k.i c.loop-k.m c.loop-k.p c.loop-k.invariant.2) (there-in c.args.tree.now c.args.homes.now c.args.ups.now c.args.ranks.now c.requires.ups c.requires.ranks c.args.v c.args.e c.args.next c.requires.step c.args.home.0 c.args.home.1 c.requires.node c.requires.home c.args.table.now c.loop-k.table c.loop-k.invariant.0 c.loop-k.k c.loop-k.i c.loop-k.m c.loop-k.p c.loop-k.invariant.2) c.loop-k-test.true c.if-ranks-m.false) c.first_place.result c.first_place.ensures in (
      entry-table c.args.tree.now c.loop-k.table c.loop-k.invariant.0 c.loop-k.m 0 c.args.v c.loop-k.p (first-end c.args.tree.now c.args.homes.now c.args.ups.now c.args.ranks.now c.requires.ups c.requires.ranks c.args.v c.args.e c.args.next c.requires.step c.args.home.0 c.args.home.1 c.requires.node c.requires.home c.args.table.now c.loop-k.table c.loop-k.invariant.0 c.loop-k.k c.loop-k.i c.loop-k.m c.loop-k.p c.loop-k.invariant.2 (more-rank c.args.tree.now c.args.ranks.now c.requires.ranks c.loop-k.k c.loop-k.m (here-in c.args.tree.now c.args.homes.now c.args.ups.now c.args.ranks.now c.requires.ups c.requires.ranks c.args.v c.args.e c.args.next c.requires.step c.args.home.0 c.args.home.1 c.requires.node c.requires.home c.args.table.now c.loop-k.table c.loop-k.invariant.0 c.loop-k.k c.loop-k.i c.loop-k.m c.loop-k.p c.loop-k.invariant.2) (there-in c.args.tree.now c.args.homes.now c.args.ups.now c.args.ranks.now c.requires.ups c.requires.ranks c.args.v c.args.e c.args.next c.requires.step c.args.home.0 c.args.home.1 c.requires.node c.requires.home c.args.table.now c.loop-k.table c.loop-k.invariant.0 c.loop-k.k c.loop-k.i c.loop-k.m c.loop-k.p c.loop-k.invariant.2) c.loop-k-test.true c.if-ranks-m.false)) c.first_place.result at c.set-else-ranks-m.new.self c.set-else-ranks-m.ensures,
      c.loop-k.invariant.1,
      there-put c.args.tree.now c.args.homes.now c.args.ups.now c.args.ranks.now c.requires.ups c.requires.ranks c.args.v c.args.e c.args.next c.requires.step c.args.home.0 c.args.home.1 c.requires.node c.requires.home c.args.table.now c.loop-k.table c.loop-k.invariant.0 c.loop-k.k c.loop-k.i c.loop-k.m c.loop-k.p c.loop-k.invariant.2 (more-rank c.args.tree.now c.args.ranks.now c.requires.ranks c.loop-k.k c.loop-k.m (here-in c.args.tree.now c.args.homes.now c.args.ups.now c.args.ranks.now c.requires.ups c.requires.ranks c.args.v c.args.e c.args.next c.requires.step c.args.home.0 c.args.home.1 c.requires.node c.requires.home c.args.table.now c.loop-k.table c.loop-k.invariant.0 c.loop-k.k c.loop-k.i c.loop-k.m c.loop-k.p c.loop-k.invariant.2) (there-in c.args.tree.now c.args.homes.now c.args.ups.now c.args.ranks.now c.requires.ups c.requires.ranks c.args.v c.args.e c.args.next c.requires.step c.args.home.0 c.args.home.1 c.requires.node c.requires.home c.args.table.now c.loop-k.table c.loop-k.invariant.0 c.loop-k.k c.loop-k.i c.loop-k.m c.loop-k.p c.loop-k.invariant.2) c.loop-k-test.true c.if-ranks-m.false) c.first_place.result at c.set-else-ranks-m.new.self c.set-else-ranks-m.ensures,
    )

-- at the node where they meet
pub set-requires-then-i-p-clause-list : goal.set-requires-then-i-p-clause-list
set-requires-then-i-p-clause-list c = entry-list c.args.tree.now c.loop-k.table c.loop-k.invariant.0 c.loop-k.k c.loop-k.i c.args.v c.loop-k.p (here-end c.args.tree.now c.args.homes.now c.args.ups.now c.args.ranks.now c.requires.ups c.requires.ranks c.args.v c.args.e c.args.next c.requires.step c.args.home.0 c.args.home.1 c.requires.node c.requires.home c.args.table.now c.loop-k.table c.loop-k.invariant.0 c.loop-k.k c.loop-k.i c.loop-k.m c.loop-k.p c.loop-k.invariant.2) c.loop-k.place c.loop-k.invariant.1

pub set-requires-then-i-p-clause-place : goal.set-requires-then-i-p-clause-place
set-requires-then-i-p-clause-place c = entry-place c.args.tree.now c.loop-k.table c.loop-k.invariant.0 c.loop-k.k c.loop-k.i c.args.v c.loop-k.p (here-end c.args.tree.now c.args.homes.now c.args.ups.now c.args.ranks.now c.requires.ups c.requires.ranks c.args.v c.args.e c.args.next c.requires.step c.args.home.0 c.args.home.1 c.requires.node c.requires.home c.args.table.now c.loop-k.table c.loop-k.invariant.0 c.loop-k.k c.loop-k.i c.loop-k.m c.loop-k.p c.loop-k.invariant.2) c.loop-k.place c.loop-k.invariant.1

pub returns-then-i-p-clause-keeps : goal.returns-then-i-p-clause-keeps
returns-then-i-p-clause-keeps c = λ g r family s f. (met-put c.args.tree.now c.args.homes.now c.args.ups.now c.args.ranks.now c.requires.ups c.requires.ranks c.args.v c.args.e c.args.next c.requires.step c.args.home.0 c.args.home.1 c.requires.node c.requires.home c.args.table.now c.loop-k.table c.loop-k.invariant.0 c.loop-k.k c.loop-k.i c.loop-k.m c.loop-k.p c.loop-k.invariant.2 c.if-e-next.false c.loop-k-test.false c.if-i-p.true c.loop-k.place c.loop-k.invariant.1 c.set-then-i-p.new.self c.set-then-i-p.ensures g r family s f).0

pub returns-then-i-p-clause-last : goal.returns-then-i-p-clause-last
returns-then-i-p-clause-last c = λ g r family s f. (met-put c.args.tree.now c.args.homes.now c.args.ups.now c.args.ranks.now c.requires.ups c.requires.ranks c.args.v c.args.e c.args.next c.requires.step c.args.home.0 c.args.home.1 c.requires.node c.requires.home c.args.table.now c.loop-k.table c.loop-k.invariant.0 c.loop-k.k c.loop-k.i c.loop-k.m c.loop-k.p c.loop-k.invariant.2 c.if-e-next.false c.loop-k-test.false c.if-i-p.true c.loop-k.place c.loop-k.invariant.1 c.set-then-i-p.new.self c.set-then-i-p.ensures g r family s f).1

pub returns-else-i-p-clause-keeps : goal.returns-else-i-p-clause-keeps
returns-else-i-p-clause-keeps c = λ g r family s f. (met-done c.args.tree.now c.args.homes.now c.args.ups.now c.args.ranks.now c.requires.ups c.requires.ranks c.args.v c.args.e c.args.next c.requires.step c.args.home.0 c.args.home.1 c.requires.node c.requires.home c.args.table.now c.loop-k.table c.loop-k.invariant.0 c.loop-k.k c.loop-k.i c.loop-k.m c.loop-k.p c.loop-k.invariant.2 c.if-e-next.false c.loop-k-test.false c.if-i-p.false g r family s f).0

pub returns-else-i-p-clause-last : goal.returns-else-i-p-clause-last
returns-else-i-p-clause-last c = λ g r family s f. (met-done c.args.tree.now c.args.homes.now c.args.ups.now c.args.ranks.now c.requires.ups c.requires.ranks c.args.v c.args.e c.args.next c.requires.step c.args.home.0 c.args.home.1 c.requires.node c.requires.home c.args.table.now c.loop-k.table c.loop-k.invariant.0 c.loop-k.k c.loop-k.i c.loop-k.m c.loop-k.p c.loop-k.invariant.2 c.if-e-next.false c.loop-k-test.false c.if-i-p.false g r family s f).1
