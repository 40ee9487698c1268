use Rattle.std.proofs.Common.{◌≡◌, ◌+◌, ℕ, List, [], ◌++◌, length, take, drop, arith, sym, ap, ◌∙◌, subst}
use Rattle.std.proofs.lemmas.List.{get_or_default, length-replicate}
use Rattle.canonical_orders.specs.Order.{Removed}
use Rattle.shift_method.specs.Peeled.{IsPeeled, ArePositions}
use Rattle.shift_method.proofs.Stages.{some-order}
use Rattle.shift_method.proofs.Reached.{AreReached, vertex-below, first-told, two-told, vertex-told, heads-told, room-told, fits-told, reached-told, given-back, left-there, top-there, right-there, kept-there}
use Rattle.shift_method.proofs.spreading.positions.Goals as goal

pub gap-requires : goal.gap-requires
gap-requires c = omega (arith, (c.vertex-top.ensures ∙ ap (λ (r : Removed). r.0) (c.index-removals-0.is ∙ get_or_default c.args.removals.now 0 c.index-removals-0.result (0, []) (some-order c.args.vertices c.args.left c.args.right c.args.removals.now c.requires.peeled))), vertex-below c.args.vertices c.args.left c.args.right c.args.removals.now c.requires.peeled 0 (some-order c.args.vertices c.args.left c.args.right c.args.removals.now c.requires.peeled), c.requires.sizes.gaps)

pub index_mut-requires-2 : goal.index_mut-requires-2
index_mut-requires-2 c = omega (arith, (c.vertex-top.ensures ∙ ap (λ (r : Removed). r.0) (c.index-removals-0.is ∙ get_or_default c.args.removals.now 0 c.index-removals-0.result (0, []) (some-order c.args.vertices c.args.left c.args.right c.args.removals.now c.requires.peeled))), vertex-below c.args.vertices c.args.left c.args.right c.args.removals.now c.requires.peeled 0 (some-order c.args.vertices c.args.left c.args.right c.args.removals.now c.requires.peeled), c.in_ok-x.ensures.len)

pub gap-requires-2 : goal.gap-requires-2
gap-requires-2 c = omega (arith, (c.vertex-top.ensures ∙ ap (λ (r : Removed). r.0) (c.index-removals-0.is ∙ get_or_default c.args.removals.now 0 c.index-removals-0.result (0, []) (some-order c.args.vertices c.args.left c.args.right c.args.removals.now c.requires.peeled))), vertex-below c.args.vertices c.args.left c.args.right c.args.removals.now c.requires.peeled 0 (some-order c.args.vertices c.args.left c.args.right c.args.removals.now c.requires.peeled), c.requires.sizes.gaps)

pub loop-removal-init : goal.loop-removal-init
loop-removal-init c =
    let first = λ (p : IsPeeled c.args.vertices c.args.left c.args.right c.args.removals.now) (z : ℕ → ℕ) (a : ArePositions c.args.vertices c.args.left c.args.right c.args.removals.now c.args.shape.now z).
    first-told c.args.vertices c.args.left c.args.right c.args.removals.now p c.args.shape.now z a c.in_ok-x.x.items (ap (λ (l : List ℕ). length l) (c.in_ok-x.ensures.items_if_clones_equal (λ y h. h)) ∙ length-replicate {A = ℕ} c.args.vertices 0) c.vertex-top.result c.gap.result c.gap-2.result c.gap-3.result
    (c.vertex-top.ensures ∙ ap (λ (r : Removed). r.0) (c.index-removals-0.is ∙ get_or_default c.args.removals.now 0 c.index-removals-0.result (0, []) (some-order c.args.vertices c.args.left c.args.right c.args.removals.now c.requires.peeled))) c.gap.ensures c.gap-2.ensures c.gap-3.ensures in
    ((first c.requires.peeled c.requires.positions.0 c.requires.positions.1).size, first)

pub spread_heads-requires-clause-two : goal.spread_heads-requires-clause-two
spread_heads-requires-clause-two c = two-told c.args.vertices c.args.left c.args.right c.args.removals.now c.requires.peeled c.args.shape.now c.requires.positions.0 c.requires.positions.1 c.loop-removal.removal-index c.loop-removal-test.true c.removal-item.result (c.removal-item.is ∙ get_or_default c.args.removals.now c.loop-removal.removal-index c.removal-item.result (0, []) c.loop-removal-test.true) c.loop-removal.x.items c.deref_mut.result.now c.deref_mut.ensures.value (c.loop-removal.invariant.1 c.requires.peeled c.requires.positions.0 c.requires.positions.1)

pub spread_heads-requires-clause-vertex_within : goal.spread_heads-requires-clause-vertex_within
spread_heads-requires-clause-vertex_within c = vertex-told c.args.vertices c.args.left c.args.right c.args.removals.now c.requires.peeled c.args.shape.now c.requires.positions.0 c.requires.positions.1 c.loop-removal.removal-index c.loop-removal-test.true c.removal-item.result (c.removal-item.is ∙ get_or_default c.args.removals.now c.loop-removal.removal-index c.removal-item.result (0, []) c.loop-removal-test.true) c.loop-removal.x.items c.deref_mut.result.now c.deref_mut.ensures.value (c.loop-removal.invariant.1 c.requires.peeled c.requires.positions.0 c.requires.positions.1)

pub spread_heads-requires-clause-heads_within : goal.spread_heads-requires-clause-heads_within
spread_heads-requires-clause-heads_within c = heads-told c.args.vertices c.args.left c.args.right c.args.removals.now c.requires.peeled c.args.shape.now c.requires.positions.0 c.requires.positions.1 c.loop-removal.removal-index c.loop-removal-test.true c.removal-item.result (c.removal-item.is ∙ get_or_default c.args.removals.now c.loop-removal.removal-index c.removal-item.result (0, []) c.loop-removal-test.true) c.loop-removal.x.items c.deref_mut.result.now c.deref_mut.ensures.value (c.loop-removal.invariant.1 c.requires.peeled c.requires.positions.0 c.requires.positions.1)

pub spread_heads-requires-clause-room : goal.spread_heads-requires-clause-room
spread_heads-requires-clause-room c = room-told c.args.vertices c.args.left c.args.right c.args.removals.now c.requires.peeled c.args.shape.now c.requires.positions.0 c.requires.positions.1 c.loop-removal.removal-index c.loop-removal-test.true c.removal-item.result (c.removal-item.is ∙ get_or_default c.args.removals.now c.loop-removal.removal-index c.removal-item.result (0, []) c.loop-removal-test.true) c.loop-removal.x.items c.deref_mut.result.now c.deref_mut.ensures.value (c.loop-removal.invariant.1 c.requires.peeled c.requires.positions.0 c.requires.positions.1)

pub spread_heads-requires-clause-fits : goal.spread_heads-requires-clause-fits
spread_heads-requires-clause-fits c = fits-told c.args.vertices c.args.left c.args.right c.args.removals.now c.requires.peeled c.args.shape.now c.requires.positions.0 c.requires.positions.1 c.loop-removal.removal-index c.loop-removal-test.true c.removal-item.result (c.removal-item.is ∙ get_or_default c.args.removals.now c.loop-removal.removal-index c.removal-item.result (0, []) c.loop-removal-test.true) c.loop-removal.x.items c.deref_mut.result.now c.deref_mut.ensures.value (c.loop-removal.invariant.1 c.requires.peeled c.requires.positions.0 c.requires.positions.1) c.requires.small

pub loop-removal-preserved : goal.loop-removal-preserved
loop-removal-preserved c =
    let next = λ (p : IsPeeled c.args.vertices c.args.left c.args.right c.args.removals.now) (z : ℕ → ℕ) (a : ArePositions c.args.vertices c.args.left c.args.right c.args.removals.now c.args.shape.now z).
    reached-told c.args.vertices c.args.left c.args.right c.args.removals.now p c.args.shape.now z a c.loop-removal.removal-index c.loop-removal-test.true c.removal-item.result (c.removal-item.is ∙ get_or_default c.args.removals.now c.loop-removal.removal-index c.removal-item.result (0, []) c.loop-removal-test.true) c.loop-removal.x.items c.deref_mut.result.now c.deref_mut.ensures.value (c.loop-removal.invariant.1 p z a)
    c.spread_heads.new.x c.spread_heads.ensures.number c.spread_heads.ensures.inner c.spread_heads.ensures.others in
    let same : length c.spread_heads.new.x ≡ length c.loop-removal.x.items = c.spread_heads.ensures.number ∙ ap (λ (l : List ℕ). length l) c.deref_mut.ensures.value in
    let back : take c.loop-removal.x.len (c.spread_heads.new.x ++ drop (length c.spread_heads.new.x) c.loop-removal.x.items) ≡ c.spread_heads.new.x = given-back c.loop-removal.x.len c.spread_heads.new.x c.loop-removal.x.items same
    (omega (arith, c.deref_mut.ensures.len, ap (λ (l : List ℕ). length l) c.deref_mut.ensures.value)) in
    subst (λ (l : List ℕ). (length l ≡ c.args.vertices) × ((p : IsPeeled c.args.vertices c.args.left c.args.right c.args.removals.now) (z : ℕ → ℕ) → ArePositions c.args.vertices c.args.left c.args.right c.args.removals.now c.args.shape.now z
    → AreReached c.args.vertices c.args.left c.args.right c.args.removals.now p z (c.loop-removal.removal-index + 1) l)) (sym back)
    (same ∙ c.loop-removal.invariant.0, next)

pub returns-clause-left : goal.returns-clause-left
returns-clause-left c = left-there c.args.vertices c.args.left c.args.right c.args.removals.now c.requires.peeled c.args.shape.now c.requires.positions.0 c.requires.positions.1 c.loop-removal.x.items (subst (λ (i : ℕ). AreReached c.args.vertices c.args.left c.args.right c.args.removals.now c.requires.peeled c.requires.positions.0 i c.loop-removal.x.items) (omega arith) (c.loop-removal.invariant.1 c.requires.peeled c.requires.positions.0 c.requires.positions.1))

pub returns-clause-top : goal.returns-clause-top
returns-clause-top c = top-there c.args.vertices c.args.left c.args.right c.args.removals.now c.requires.peeled c.args.shape.now c.requires.positions.0 c.requires.positions.1 c.loop-removal.x.items (subst (λ (i : ℕ). AreReached c.args.vertices c.args.left c.args.right c.args.removals.now c.requires.peeled c.requires.positions.0 i c.loop-removal.x.items) (omega arith) (c.loop-removal.invariant.1 c.requires.peeled c.requires.positions.0 c.requires.positions.1))

pub returns-clause-right : goal.returns-clause-right
returns-clause-right c = right-there c.args.vertices c.args.left c.args.right c.args.removals.now c.requires.peeled c.args.shape.now c.requires.positions.0 c.requires.positions.1 c.loop-removal.x.items (subst (λ (i : ℕ). AreReached c.args.vertices c.args.left c.args.right c.args.removals.now c.requires.peeled c.requires.positions.0 i c.loop-removal.x.items) (omega arith) (c.loop-removal.invariant.1 c.requires.peeled c.requires.positions.0 c.requires.positions.1))

pub returns-clause-kept : goal.returns-clause-kept
returns-clause-kept c = kept-there c.args.vertices c.args.left c.args.right c.args.removals.now c.requires.peeled c.args.shape.now c.requires.positions.0 c.requires.positions.1 c.loop-removal.x.items (subst (λ (i : ℕ). AreReached c.args.vertices c.args.left c.args.right c.args.removals.now c.requires.peeled c.requires.positions.0 i c.loop-removal.x.items) (omega arith) (c.loop-removal.invariant.1 c.requires.peeled c.requires.positions.0 c.requires.positions.1))
