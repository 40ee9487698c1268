use Rattle.std.proofs.Common.{◌≡◌, ◌<◌, ◌∙◌, List, [], length, ap, refl, sym, subst, slice_index_or, arith}
use Rattle.std.proofs.lemmas.List.{length-map, length-set, take_all}
use Rattle.pair_split.specs.Split.{component_at}
use Rattle.pair_split.specs.declared.components.Comp.{Comp}
use Rattle.pair_split.specs.declared.components.Kind.TheVariants.{B}
use Rattle.spqr_tree.specs.Merging.{group_of}
use Rattle.spqr_tree.specs.Ranking.{value_at, rank_of, ranks_of, in_order}
use Rattle.spqr_tree.specs.Keys.{AreWithin}
use Rattle.spqr_tree.proofs.RankSteps.{entry-number, next-left, others-left, in_order-more}
use Rattle.spqr_tree.proofs.naming.place_groups.Goals as goal

pub loop-i-init : goal.loop-i-init
loop-i-init c = (c.in_ok-all.ensures.items, refl, λ k h. refl)

-- the number of a group is below their number
pub take_group-group-requires : goal.take_group-group-requires
take_group-group-requires c = omega (arith, c.loop-i.invariant.1, entry-number c.args.ranked.now c.loop-i.i c.index-ranked-i.result c.loop-i-test.true, c.requires.ranked c.loop-i.i c.loop-i-test.true)

-- the links of the group lead to components
pub place_group-requires-clause-within : goal.place_group-requires-clause-within
place_group-requires-clause-within c =
    let k = (slice_index_or c.args.ranked.now c.loop-i.i c.index-ranked-i.result).1 in
    let l : k < length c.args.groups.items = subst (λ z. z < length c.args.groups.items) (entry-number c.args.ranked.now c.loop-i.i c.index-ranked-i.result c.loop-i-test.true) (c.requires.ranked c.loop-i.i c.loop-i-test.true) in
    subst (λ (p : Comp). AreWithin p.items (length c.args.lead.now)) (sym (c.take_group-group.ensures.taken ∙ next-left c.args.groups.items c.loop-i.left.items c.args.ranked.now c.index-ranked-i.result c.loop-i.i c.loop-i-test.true c.requires.once c.loop-i.invariant.2)) (c.requires.within k l)

-- one group more
pub loop-i-preserved : goal.loop-i-preserved
loop-i-preserved c =
    let is = next-left c.args.groups.items c.loop-i.left.items c.args.ranked.now c.index-ranked-i.result c.loop-i.i c.loop-i-test.true c.requires.once c.loop-i.invariant.2 in (
      in_order-more _ c.args.groups.items c.args.ranked.now c.index-ranked-i.result c.loop-i.all.items c.push.new.self.items c.place_group.result c.take_group-group.result c.loop-i.i c.loop-i-test.true c.in_ok-push.ensures.items c.place_group.ensures (c.take_group-group.ensures.taken ∙ is) c.loop-i.invariant.0,
      ap length c.take_group-group.ensures.left ∙ length-set c.loop-i.left.items (slice_index_or c.args.ranked.now c.loop-i.i c.index-ranked-i.result).1 _ ∙ c.loop-i.invariant.1,
      λ k apart. subst (λ (z : List Comp). component_at z k ≡ component_at c.args.groups.items k) (sym c.take_group-group.ensures.left)
          (others-left c.args.groups.items c.loop-i.left.items c.args.ranked.now c.index-ranked-i.result (record { kind = B; items = [] }) c.loop-i.i c.loop-i-test.true c.loop-i.invariant.2 k apart),
    )

-- all groups
pub returns : goal.returns
returns c = c.loop-i.invariant.0
    ∙ ap (in_order (λ x. value_at c.args.places.now (group_of c.args.lead.now x)) c.args.groups.items) (take_all c.loop-i.i (ranks_of c.args.ranked.now) (omega (arith, length-map c.args.ranked.now rank_of, c.loop-i-test.false, c.loop-i.auto.i-end)))
