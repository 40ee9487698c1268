use Rattle.std.proofs.Common.{◌≡◌, ◌∙◌, ℕ, List, [], ◌∷◌, ◌++◌, true, sym, ap, subst, arith}
use Rattle.permutations.specs.Cyclic.{successor}
use Rattle.permutations.specs.Members.{is_member}
use Rattle.multigraph.specs.Graph.{edge_count}
use Rattle.permutations.proofs.Arrangements.{contains-from_member}
use Rattle.rotations.specs.Rotation.{order_at}
use Rattle.skel_compose.specs.Followers.{HasNext}
use Rattle.skel_compose.proofs.RowLists.{first-around, second-around, next-more}
use Rattle.skel_compose.proofs.rows.next_edges.Goals as goal

-- an edge is in the order around each of its ends
pub succ-requires : goal.succ-requires
succ-requires c =
    let g = c.args.graph.now in
    let i = c.loop-i.i in
    contains-from_member (order_at c.args.r.now c.ends-first.result.0) i (subst (λ v. is_member i (order_at c.args.r.now v) ≡ true) (ap (λ (z : ℕ × ℕ). z.0) (sym c.ends-first.ensures.value))
    (first-around g c.args.r.now c.requires c.ends-first.ensures.graph i (omega (arith, c.loop-i-test.true, c.edge_count-i-end.ensures))))

pub succ-requires-in-loop-i : goal.succ-requires-in-loop-i
succ-requires-in-loop-i c =
    let g = c.args.graph.now in
    let i = c.loop-i.i in
    contains-from_member (order_at c.args.r.now c.ends-first.result.1) i (subst (λ v. is_member i (order_at c.args.r.now v) ≡ true) (ap (λ (z : ℕ × ℕ). z.1) (sym c.ends-first.ensures.value))
    (second-around g c.args.r.now c.requires c.ends-first.ensures.graph i (omega (arith, c.loop-i-test.true, c.edge_count-i-end.ensures))))

-- one edge more
pub loop-i-preserved : goal.loop-i-preserved
loop-i-preserved c = next-more c.args.graph.now c.args.r.now c.loop-i.i c.succ.result c.succ-in-loop-i.result c.loop-i.row.items c.loop-i.invariant
    (c.succ.ensures ∙ ap (λ (z : ℕ × ℕ). successor (order_at c.args.r.now z.0) c.loop-i.i) c.ends-first.ensures.value) (c.succ-in-loop-i.ensures ∙ ap (λ (z : ℕ × ℕ). successor (order_at c.args.r.now z.1) c.loop-i.i) c.ends-first.ensures.value) c.push-in-loop-i.new.self.items
    (c.in_ok-push-2.ensures.items ∙ ap (λ (z : List ℕ). z ++ c.succ-in-loop-i.result ∷ []) c.in_ok-push.ensures.items)

-- all of them
pub returns : goal.returns
returns c =
    let all : c.loop-i.i ≡ edge_count c.args.graph.now = omega (arith, c.loop-i-test.false, c.loop-i.auto, c.edge_count-i-end.ensures) in
    subst (λ n. HasNext c.args.graph.now c.args.r.now n c.loop-i.row.items) all c.loop-i.invariant
