use Rattle.std.proofs.Common.{◌≡◌, ℕ, ◌<◌, true, List, get_or, sym, subst, arith}
use Rattle.permutations.specs.Members.{is_member}
use Rattle.rotations.specs.Given.{given_order}
use Rattle.rotations.specs.Rotation.{order_at, IsRotationSystem}
use Rattle.rotations.specs.Rings.{dart_at, orders, StandRound, AreRings}
use Rattle.rotations.specs.declared.rings.Frame.{Frame}
use Rattle.rotations.proofs.Stages.{AreBuilt, given-round, built-alone, built-step, built-rings, built-orders, built-system}
use Rattle.rotations.proofs.system.Rotation.of_arranged.Goals as goal

-- the list given for the vertex stands round it
pub link-requires-clause-round : goal.link-requires-clause-round
link-requires-clause-round c =
    subst (λ (t : List ℕ). StandRound t c.loop-v.v c.given-after.result.0.now) (sym c.deref.ensures.value)
    (subst (λ (l : List ℕ). StandRound c.in_ok-tails.tails.items c.loop-v.v l) (sym c.given-after.ensures.list)
    (given-round c.args.g.now c.args.lists.now c.in_ok-tails.tails.items c.loop-v.v c.requires c.in_ok-tails.ensures (omega (arith, c.loop-v-test.true, c.vertex_count-v-end.ensures.value))))

-- and its darts are alone
pub link-requires-clause-alone : goal.link-requires-clause-alone
link-requires-clause-alone c =
    subst (λ (t : List ℕ). (e : ℕ) → is_member e c.given-after.result.0.now ≡ true → get_or c.loop-v.nodes.next (dart_at t c.loop-v.v e) 0 ≡ dart_at t c.loop-v.v e) (sym c.deref.ensures.value)
    (built-alone c.args.g.now c.args.lists.now c.in_ok-tails.tails.items c.loop-v.nodes c.loop-v.rings.items c.loop-v.v c.given-after.result.0.now c.loop-v.invariant.built
    (subst (λ (l : List ℕ). StandRound c.in_ok-tails.tails.items c.loop-v.v l) (sym c.given-after.ensures.list)
    (given-round c.args.g.now c.args.lists.now c.in_ok-tails.tails.items c.loop-v.v c.requires c.in_ok-tails.ensures (omega (arith, c.loop-v-test.true, c.vertex_count-v-end.ensures.value)))))

-- one ring more
pub loop-v-preserved : goal.loop-v-preserved
loop-v-preserved c = record {
  reached = c.given-after.ensures.place;
  built =
      built-step c.args.g.now c.args.lists.now c.in_ok-tails.tails.items c.loop-v.nodes c.loop-v.rings.items c.loop-v.v
      c.deref.result.now c.deref-in-loop-v.result.now c.given-after.result.0.now c.link.new.nodes c.push.new.self.items c.ring_of.result
      c.requires c.in_ok-tails.ensures (omega (arith, c.loop-v-test.true, c.vertex_count-v-end.ensures.value)) c.loop-v.invariant.built
      c.deref.ensures.value c.deref-in-loop-v.ensures.value c.given-after.ensures.list
      c.link.ensures.linked c.link.ensures.next_kept c.link.ensures.inverse c.link.ensures.count c.ring_of.ensures c.in_ok-push.ensures.items;
}

pub invariant_of-result : goal.invariant_of-result
invariant_of-result c =
    subst (λ (f : Frame). AreRings f.tails.items c.loop-v.nodes.next c.loop-v.nodes.prev f.rings.items) (sym c.in_ok-frame.ensures.ok)
    (built-rings c.args.g.now c.args.lists.now c.in_ok-tails.tails.items c.loop-v.nodes c.loop-v.rings.items c.vertex_count.ensures.graph c.vertex_count.ensures.limits c.requires c.in_ok-tails.ensures
    (subst (λ (v : ℕ). AreBuilt c.args.g.now c.args.lists.now c.in_ok-tails.tails.items c.loop-v.nodes c.loop-v.rings.items v) (omega (arith, c.loop-v-test.false, c.loop-v.auto.v-end, c.vertex_count-v-end.ensures.value)) c.loop-v.invariant.built))

pub returns-clause-orders : goal.returns-clause-orders
returns-clause-orders c =
    subst (λ (f : Frame). (v : ℕ) → v < c.args.g.now.vertex_count → order_at (orders c.loop-v.nodes.next f.rings.items) v ≡ given_order c.args.g.now c.args.lists.now v) (sym c.in_ok-frame.ensures.ok)
    (built-orders c.args.g.now c.args.lists.now c.in_ok-tails.tails.items c.loop-v.nodes c.loop-v.rings.items c.requires c.in_ok-tails.ensures
    (subst (λ (v : ℕ). AreBuilt c.args.g.now c.args.lists.now c.in_ok-tails.tails.items c.loop-v.nodes c.loop-v.rings.items v) (omega (arith, c.loop-v-test.false, c.loop-v.auto.v-end, c.vertex_count-v-end.ensures.value)) c.loop-v.invariant.built))

pub returns-clause-system : goal.returns-clause-system
returns-clause-system c =
    subst (λ (f : Frame). IsRotationSystem c.args.g.now (orders c.loop-v.nodes.next f.rings.items)) (sym c.in_ok-frame.ensures.ok)
    (built-system c.args.g.now c.args.lists.now c.in_ok-tails.tails.items c.loop-v.nodes c.loop-v.rings.items c.requires c.in_ok-tails.ensures
    (subst (λ (v : ℕ). AreBuilt c.args.g.now c.args.lists.now c.in_ok-tails.tails.items c.loop-v.nodes c.loop-v.rings.items v) (omega (arith, c.loop-v-test.false, c.loop-v.auto.v-end, c.vertex_count-v-end.ensures.value)) c.loop-v.invariant.built))
