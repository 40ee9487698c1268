use Rattle.std.proofs.Common.{◌≡◌, ◌∙◌, ◌++◌, ◌∷◌, ℕ, List, [], length, ap, subst, arith}
use Rattle.skel_embed.specs.Members.{HaveFirst, IsMember}
use Rattle.skel_embed.proofs.RowTables.{have-none, have-more}
use Rattle.skel_embed.proofs.members.members_of.Goals as goal

pub loop-k-init : goal.loop-k-init
loop-k-init c c' = have-none c'.args.tree.now c'.in_ok-table.table c'.new-keys.result.items c'.in_ok-ends.ends.items (c'.in_ok-table.ensures {u = tt}) c'.new-keys.ensures.items c'.in_ok-ends.ensures.items

pub loop-k-preserved : goal.loop-k-preserved
loop-k-preserved c c' =
    let nodes = c'.args.tree.now in
    let k = c'.loop-k.k in
    let row = c'.member_of.new.buffers.row.items in
    let more : c'.push.new.self ≡ c'.loop-k.table ++ row ∷ [] = c'.in_ok-push-in-Plane.ensures {u = tt} ∙ ap (λ (z : List ℕ). c'.loop-k.table ++ z ∷ []) c'.deref.ensures.value in
    let count : c'.len.result ≡ length c'.member_of.new.keys.items = c'.len.ensures ∙ c'.member_of.new.keys.ok.0 in
    let longer : c'.push-in-Plane.new.self.items ≡ c'.loop-k.ends.items ++ length c'.member_of.new.keys.items ∷ [] = c'.in_ok-push-in-Plane-2.ensures.items ∙ ap (λ z. c'.loop-k.ends.items ++ z ∷ []) count in
    have-more nodes k c'.loop-k.table c'.push.new.self c'.loop-k.keys.items c'.member_of.new.keys.items c'.loop-k.ends.items c'.push-in-Plane.new.self.items row c'.loop-k.invariant
    (subst (IsMember nodes k row c'.loop-k.keys.items c'.member_of.new.keys.items) c'.in-Plane.is (c'.in_ok-member_of.ensures {u = tt})) more longer

pub returns : goal.returns
returns c c' = subst (λ n. HaveFirst c'.args.tree.now n c'.loop-k.table c'.loop-k.keys.items c'.loop-k.ends.items) (let e : c'.loop-k.k ≡ length c'.args.tree.now = omega (arith, c'.loop-k-test.false, c'.node_count-k-end.ensures, c'.loop-k.auto.k-end) in e) c'.loop-k.invariant
