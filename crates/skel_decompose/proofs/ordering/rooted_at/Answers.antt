use Rattle.std.proofs.Common.{◌≡◌, ◌<◌, ◌++◌, ℕ, Bool, true, false, List, length, take, drop, replicate, slice_index_or, sym, ap, ◌∙◌, subst, arith}
use Rattle.std.proofs.lemmas.Grind.{common_steps}
use Rattle.permutations.specs.Members.{is_member, is_distinct}
use Rattle.permutations.proofs.Arrangements.{member-at}
use Rattle.multigraph.specs.Marks.{is_marked}
use Rattle.skel_decompose.proofs.Ways.{marked-none}
use Rattle.pair_split.specs.Tutte.{components}
use Rattle.spqr_tree.specs.Absent.{absent}
use Rattle.spqr_tree.specs.Keys.{AreOrdered}
use Rattle.spqr_tree.proofs.UpLinks.{comp-in}
use Rattle.skel_decompose.specs.Ways.{IsFalling, IsClimbed, turned, others_of}
use Rattle.skel_decompose.proofs.Rerooting.{falls, rooted-climbed}
use Rattle.skel_decompose.proofs.ordering.rooted_at.Goals as goal

pub climb-requires-clause-falling : goal.climb-requires-clause-falling
climb-requires-clause-falling c =
    let b = c.requires.block in
    let parents : c.deref-2.result.now ≡ c.args.order.now.parents.items = grind (arith, common_steps) in
    subst (λ (z : List ℕ). (rank : ℕ → ℕ) × IsFalling z rank) (sym parents) (_, falls b.0 c.args.tree.now b.1 b.2 c.args.order.now.parents.items c.args.order.now.nodes.items c.requires.order)

pub turn-requires : goal.turn-requires
turn-requires c =
    let way : c.deref-3.result.now ≡ c.climb.new.way.items = c.deref-3.ensures.value in
    let parents : c.deref-2.result.now ≡ c.deref_mut-2.result.now = grind (arith, common_steps) in
    record {
      within = λ q l. subst (λ (z : List ℕ). slice_index_or c.deref-3.result.now q 0 < length z) parents
          (c.in_ok-climb.ensures.climbing.within (slice_index_or c.deref-3.result.now q 0) (subst (λ (z : List ℕ). is_member (slice_index_or c.deref-3.result.now q 0) z ≡ true) way (member-at c.deref-3.result.now q 0 l)));
    }

pub returns-clause-ordered : goal.returns-clause-ordered
returns-clause-ordered c =
    let b = c.requires.block in
    let tree = c.args.tree.now in
    let order = c.args.order.now.nodes.items in
    let parents = c.args.order.now.parents.items in
    let way = c.climb.new.way.items in
    let placed = c.climb.new.placed in
    let old = c.deref_mut.result.now in
    let started : c.deref-2.result.now ≡ parents = grind (arith, common_steps) in
    let blank : old ≡ replicate c.len.result false = grind (arith, common_steps) in
    let marks : c.deref-5.result.now ≡ placed = grind (arith, common_steps) in
    let list : c.append_others.new.list.items ≡ (way ++ others_of c.deref-5.result.now c.deref-4.result.now) = c.in_ok-append_others.ensures in
    let both = rooted-climbed b.0 tree b.1 b.2 parents order c.requires.order c.args.root (comp-in b.0 tree b.1.tree b.1.block.has_edge c.args.root c.requires.root) old placed way
    (λ y. ap (λ (z : List Bool). is_marked z y) blank ∙ marked-none c.len.result y)
    (subst (λ (z : List ℕ). IsClimbed z c.args.root old placed way) started c.in_ok-climb.ensures) in
    let same : c.append_others.new.list.items ≡ (way ++ others_of placed order) = list ∙ ap (λ (z : List Bool). way ++ others_of z c.deref-4.result.now) marks ∙ ap (λ (z : List ℕ). way ++ others_of placed z) c.deref-4.ensures.value in
    let kept : take c.in_ok-parents.parents.len (c.turn.new.parents ++ drop (length c.turn.new.parents) c.in_ok-parents.parents.items) ≡ c.turn.new.parents = grind (arith, common_steps) in
    let turns : c.turn.new.parents ≡ turned c.deref_mut-2.result.now absent c.deref-3.result.now = c.turn.ensures in
    let from : c.deref_mut-2.result.now ≡ parents = grind (arith, common_steps) in
    let new : c.turn.new.parents ≡ turned parents absent way = turns ∙ ap (λ (z : List ℕ). turned z absent c.deref-3.result.now) from ∙ ap (turned parents absent) c.deref-3.ensures.value in
    subst (λ (z : List ℕ). AreOrdered (components tree) c.args.root z c.append_others.new.list.items) (sym (kept ∙ new))
    (subst (λ (z : List ℕ). AreOrdered (components tree) c.args.root (turned parents absent way) z) (sym same) both.0)

pub returns-clause-distinct : goal.returns-clause-distinct
returns-clause-distinct c =
    let b = c.requires.block in
    let tree = c.args.tree.now in
    let order = c.args.order.now.nodes.items in
    let parents = c.args.order.now.parents.items in
    let way = c.climb.new.way.items in
    let placed = c.climb.new.placed in
    let old = c.deref_mut.result.now in
    let started : c.deref-2.result.now ≡ parents = grind (arith, common_steps) in
    let blank : old ≡ replicate c.len.result false = grind (arith, common_steps) in
    let marks : c.deref-5.result.now ≡ placed = grind (arith, common_steps) in
    let list : c.append_others.new.list.items ≡ (way ++ others_of c.deref-5.result.now c.deref-4.result.now) = c.in_ok-append_others.ensures in
    let both = rooted-climbed b.0 tree b.1 b.2 parents order c.requires.order c.args.root (comp-in b.0 tree b.1.tree b.1.block.has_edge c.args.root c.requires.root) old placed way
    (λ y. ap (λ (z : List Bool). is_marked z y) blank ∙ marked-none c.len.result y)
    (subst (λ (z : List ℕ). IsClimbed z c.args.root old placed way) started c.in_ok-climb.ensures) in
    let same : c.append_others.new.list.items ≡ (way ++ others_of placed order) = list ∙ ap (λ (z : List Bool). way ++ others_of z c.deref-4.result.now) marks ∙ ap (λ (z : List ℕ). way ++ others_of placed z) c.deref-4.ensures.value in
    subst (λ (z : List ℕ). is_distinct z ≡ true) (sym same) both.1
