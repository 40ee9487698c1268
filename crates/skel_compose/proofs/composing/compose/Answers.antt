use Rattle.std.proofs.Common.{◌≡◌, ◌<◌, ◌∙◌, ℕ, List, length, sym, ap, subst}
use Rattle.multigraph.specs.Graph.{Multigraph}
use Rattle.rotations.specs.Given.{given_order, AreArranged}
use Rattle.rotations.specs.Rotation.{order_at, IsRotationSystem}
use Rattle.skeletons.specs.Families.{FollowsFamily}
use Rattle.skeletons.proofs.Places.{family-followed}
use Rattle.skel_compose.specs.Orders.{orders_below}
use Rattle.skel_compose.proofs.Rounds.{both-ok, entries-same, entries-arranged}
use Rattle.skel_compose.proofs.composing.compose.Goals as goal

-- what is made of the lists of a rotation system is this system
made-same : (g : Multigraph) (q : List (List ℕ)) (s : IsRotationSystem g q) (lists : List (ℕ × List ℕ)) → lists ≡ orders_below q g.vertex_count
    → (r : List (List ℕ)) → length r ≡ g.vertex_count → ((v : ℕ) → v < g.vertex_count → order_at r v ≡ given_order g lists v) → q ≡ r
made-same g q s lists e r long orders = entries-same g q s r long (λ v l. orders v l ∙ ap (λ (z : List (ℕ × List ℕ)). given_order g z v) e)

-- the lists are those of the rotation system that follows
pub of_arranged-requires : goal.of_arranged-requires
of_arranged-requires c =
    let q = c.requires.family in
    let w = family-followed c.args.g.now c.args.tree.now q.0 c.requires.block q.1.systems in
    subst (AreArranged c.args.g.now) (sym (c.in_ok-lists.ensures q.0 q.1 w.0 w.1 w.2)) (entries-arranged c.args.g.now w.0 w.1)

-- so it is the one that follows
pub returns-clause-follows : goal.returns-clause-follows
returns-clause-follows c = λ family t.
    let w = family-followed c.args.g.now c.args.tree.now family c.requires.block t.systems in
    both-ok c.of_arranged.result (IsRotationSystem c.args.g.now) (λ r. (v : ℕ) → v < c.args.g.now.vertex_count → order_at r v ≡ given_order c.args.g.now c.in_ok-lists.lists v) (FollowsFamily c.args.tree.now family)
    (λ r system orders. subst (FollowsFamily c.args.tree.now family) (made-same c.args.g.now w.0 w.1 c.in_ok-lists.lists (c.in_ok-lists.ensures family t w.0 w.1 w.2) r system.vertices orders) w.2)
    c.of_arranged.ensures.system c.of_arranged.ensures.orders
