use Rattle.std.proofs.Common.{◌≡◌, ℕ, ◌+◌, ◌≤◌, [], ◌∷◌, ap, ◌∙◌, subst, length, length-append, slice_index, arith}
use Rattle.std.specs.Vec.{vec_ptr}
use Rattle.ring_arena.specs.Nodes.{max_nodes, IsLinked}
use Rattle.ring_arena.proofs.Builds.{built-more, built-copy, copy-kept}
use Rattle.ring_arena.proofs.arena.Nodes.copy.Goals as goal

pub loop-d-preserved : goal.loop-d-preserved
loop-d-preserved c =
    let base = vec_ptr c.loop-d.nodes in let node = c.node_at-node.result in let links = c.args.self.now in
    let linked : IsLinked base c.loop-d.d (slice_index links.next c.loop-d.d) (slice_index links.prev c.loop-d.d) node =
    subst (λ (z : ℕ). IsLinked base c.loop-d.d z (slice_index links.prev c.loop-d.d) node) c.next.ensures.value (subst (λ (z : ℕ). IsLinked base c.loop-d.d c.next.result z node) c.prev.ensures.value c.node_at-node.ensures) in
    record {
      built = rw (c.push_reserved.ensures.items, c.push_reserved.ensures.in_place) (built-more (slice_index links.next) (slice_index links.prev) base c.loop-d.nodes.items c.loop-d.d node c.loop-d.invariant.built c.loop-d.invariant.long linked);
      long = ap length c.push_reserved.ensures.items ∙ length-append c.loop-d.nodes.items (node ∷ []) ∙ ap (λ (k : ℕ). k + 1) c.loop-d.invariant.long;
      room = rw c.push_reserved.ensures.capacity c.loop-d.invariant.room;
    }

pub invariant_of-result : goal.invariant_of-result
invariant_of-result c =
    let whole : length c.loop-d.nodes.items ≡ length c.args.self.now.next = omega (arith, c.len-d-end.ensures.value, c.loop-d.invariant.long, c.loop-d.auto.d-end, c.loop-d-test.false) in
    let few : length c.args.self.now.next ≤ max_nodes = omega (arith, c.len.ensures.value, c.len.ensures.few) in
    copy-kept c.args.self.now (vec_ptr c.loop-d.nodes) c.loop-d.nodes.items few c.len.ensures.inverse c.loop-d.invariant.built whole c.fits.ensures.in_block

pub returns : goal.returns
returns c =
    let whole : length c.loop-d.nodes.items ≡ length c.args.self.now.next = omega (arith, c.len-d-end.ensures.value, c.loop-d.invariant.long, c.loop-d.auto.d-end, c.loop-d-test.false) in
    built-copy c.args.self.now (vec_ptr c.loop-d.nodes) c.loop-d.nodes.items c.len.ensures.inverse c.loop-d.invariant.built whole c.fits.ensures.in_block
