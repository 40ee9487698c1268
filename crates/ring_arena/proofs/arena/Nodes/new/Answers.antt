use Rattle.std.proofs.Common.{◌≡◌, ℕ, ◌+◌, [], ◌∷◌, ap, ◌∙◌, length, length-append, arith}
use Rattle.std.specs.Vec.{vec_ptr}
use Rattle.ring_arena.proofs.Builds.{built-more, built-alone, alone-kept}
use Rattle.ring_arena.proofs.arena.Nodes.new.Goals as goal

pub loop-d-preserved : goal.loop-d-preserved
loop-d-preserved c = record {
  built = rw (c.push_reserved.ensures.items, c.push_reserved.ensures.in_place)
      (built-more (λ k. k) (λ k. k) (vec_ptr c.loop-d.nodes) c.loop-d.nodes.items c.loop-d.d c.node_at-node.result c.loop-d.invariant.built c.loop-d.invariant.long c.node_at-node.ensures);
  long = ap length c.push_reserved.ensures.items ∙ length-append c.loop-d.nodes.items (c.node_at-node.result ∷ []) ∙ ap (λ (k : ℕ). k + 1) c.loop-d.invariant.long;
  room = rw c.push_reserved.ensures.capacity c.loop-d.invariant.room;
}

pub invariant_of-result : goal.invariant_of-result
invariant_of-result c =
    let whole : length c.loop-d.nodes.items ≡ c.args.n = omega (arith, c.loop-d.invariant.long, c.loop-d.auto.d-end, c.loop-d-test.false) in
    alone-kept c.args.n (vec_ptr c.loop-d.nodes) c.loop-d.nodes.items c.requires c.loop-d.invariant.built whole c.fits.ensures.in_block

pub returns : goal.returns
returns c =
    let whole : length c.loop-d.nodes.items ≡ c.args.n = omega (arith, c.loop-d.invariant.long, c.loop-d.auto.d-end, c.loop-d-test.false) in
    built-alone c.args.n (vec_ptr c.loop-d.nodes) c.loop-d.nodes.items c.loop-d.invariant.built whole c.fits.ensures.in_block
