use Rattle.std.proofs.Common.{◌<◌, ◌+◌, List, ℕ, length, slice_index, ap, ◌∙◌, sym, subst}
use Rattle.std.specs.Prelude.{IsSome}
use Rattle.multigraph.specs.Part.{Rises}
use Rattle.skeletons.specs.Lists.{IsRank}
use Rattle.whole_embed.specs.Component.{Component, IsComponentInPlane}
use Rattle.whole_embed.specs.Cuts.{CutState, member_at, blocks_in, HavePlanes}
use Rattle.whole_embed.specs.Whole.{AreArranged, whole_system, IsWholeList}
use Rattle.whole_embed.specs.Walk.{AreFirstLists}
use Rattle.whole_embed.specs.Advanced.{IsLastMember, AreAdvanced}
use Rattle.whole_embed.proofs.WalkSteps.{arranged-next, arranged-first, rank-lists, rank-last, blocks-rise, blocks-within, blocks-some, blocks-last, new-component, new-planes, new-list, new-keeps, rank-blocks, keeps-itself}
use Rattle.whole_embed.proofs.walking.next_whole.Goals as goal

pub returns-then-next_lists-clause-next : goal.returns-then-next_lists-clause-next
returns-then-next_lists-clause-next c = λ l i w r t.
    let k = c.args.cuts.now.component in
    let block = blocks_in c.args.all.now in
    subst (λ (z : Component). IsRank l (whole_system z block c.next_lists.new.cuts.lists) (i + 1)) (sym c.next_lists.ensures.component)
    (rank-lists k block c.requires.component c.args.cuts.now.lists c.next_lists.new.cuts.lists c.requires.arranged (c.next_lists.ensures.next c.if-next_lists.true) l i w r)

pub returns-then-next_lists-clause-arranged : goal.returns-then-next_lists-clause-arranged
returns-then-next_lists-clause-arranged c =
    let k = c.args.cuts.now.component in
    let block = blocks_in c.args.all.now in
    subst (λ (z : Component). AreArranged z block c.next_lists.new.cuts.lists) (sym c.next_lists.ensures.component)
    (arranged-next k block c.requires.component c.args.cuts.now.lists c.next_lists.new.cuts.lists c.requires.arranged (c.next_lists.ensures.next c.if-next_lists.true))

pub returns-then-next_lists-clause-rest : goal.returns-then-next_lists-clause-rest
returns-then-next_lists-clause-rest c = keeps-itself c.args.cuts.now.component c.args.all.now

pub advance-requires-clause-increasing : goal.advance-requires-clause-increasing
advance-requires-clause-increasing c =
    let e = c.blocks-2.ensures ∙ ap (λ (z : Component). z.blocks) c.next_lists.ensures.component in
    subst (λ (z : List ℕ). Rises z) (sym e) (blocks-rise c.args.cuts.now.component c.args.all.now c.requires.component c.requires.planes)

pub advance-requires-clause-within : goal.advance-requires-clause-within
advance-requires-clause-within c =
    let e = c.blocks-2.ensures ∙ ap (λ (z : Component). z.blocks) c.next_lists.ensures.component in
    subst (λ (z : List ℕ). (j : ℕ) → j < length z → slice_index z j < length c.args.all.now) (sym e) (blocks-within c.args.cuts.now.component c.args.all.now c.requires.component c.requires.planes)

pub advance-requires-clause-planes : goal.advance-requires-clause-planes
advance-requires-clause-planes c =
    let e = c.blocks-2.ensures ∙ ap (λ (z : Component). z.blocks) c.next_lists.ensures.component in
    subst (λ (z : List ℕ). (j : ℕ) → j < length z → IsSome (member_at c.args.all.now (slice_index z j)).plane) (sym e) (blocks-some c.args.cuts.now.component c.args.all.now c.requires.component c.requires.planes)

pub returns-then-not-advance-clause-last : goal.returns-then-not-advance-clause-last
returns-then-not-advance-clause-last c = λ l i w r t.
    let k = c.args.cuts.now.component in
    let block = blocks_in c.args.all.now in
    let e = c.blocks-2.ensures ∙ ap (λ (z : Component). z.blocks) c.next_lists.ensures.component in
    rank-last k block c.requires.component c.args.cuts.now.lists c.requires.arranged (c.next_lists.ensures.last c.if-next_lists.false)
    (blocks-last k c.args.all.now c.requires.component c.requires.planes
    (subst (λ (z : List ℕ). (j : ℕ) → j < length z → IsLastMember (member_at c.args.all.now (slice_index z j))) e (c.advance.ensures.last c.if-not-advance.true))) l i w r

pub first_from-requires-clause-component : goal.first_from-requires-clause-component
first_from-requires-clause-component c =
    let e = c.blocks-2.ensures ∙ ap (λ (z : Component). z.blocks) c.next_lists.ensures.component in
    let adv = subst (λ (z : List ℕ). AreAdvanced z c.args.all.now c.advance.new.all) e (c.advance.ensures.next c.if-not-advance.false) in
    subst (λ (z : Component). IsComponentInPlane z (blocks_in c.advance.new.all)) (sym c.next_lists.ensures.component)
    (new-component c.args.cuts.now.component c.args.all.now c.requires.component c.requires.planes c.advance.new.all adv)

pub first_from-requires-clause-planes : goal.first_from-requires-clause-planes
first_from-requires-clause-planes c =
    let e = c.blocks-2.ensures ∙ ap (λ (z : Component). z.blocks) c.next_lists.ensures.component in
    let adv = subst (λ (z : List ℕ). AreAdvanced z c.args.all.now c.advance.new.all) e (c.advance.ensures.next c.if-not-advance.false) in
    subst (λ (z : Component). HavePlanes z c.advance.new.all) (sym c.next_lists.ensures.component)
    (new-planes c.args.cuts.now.component c.args.all.now c.requires.component c.requires.planes c.advance.new.all adv)

pub returns-clause-next : goal.returns-clause-next
returns-clause-next c = λ l i w r t.
    let k = c.args.cuts.now.component in
    let e = c.blocks-2.ensures ∙ ap (λ (z : Component). z.blocks) c.next_lists.ensures.component in
    let adv = subst (λ (z : List ℕ). AreAdvanced z c.args.all.now c.advance.new.all) e (c.advance.ensures.next c.if-not-advance.false) in
    let same = c.next_lists.ensures.as_before c.if-next_lists.false in
    let f = subst (λ (s : CutState). AreFirstLists s.component (blocks_in c.advance.new.all) s.lists c.first_from.new.cuts.lists 0 (length s.component.cuts)) same c.first_from.ensures.lists in
    subst (λ (z : Component). IsRank l (whole_system z (blocks_in c.advance.new.all) c.first_from.new.cuts.lists) (i + 1)) (sym (c.first_from.ensures.component ∙ c.next_lists.ensures.component))
    (rank-blocks k c.args.all.now c.requires.component c.requires.planes c.advance.new.all adv c.args.cuts.now.lists c.first_from.new.cuts.lists c.requires.arranged (c.next_lists.ensures.last c.if-next_lists.false) f l i w r)

pub returns-clause-list : goal.returns-clause-list
returns-clause-list c = λ l w.
    let e = c.blocks-2.ensures ∙ ap (λ (z : Component). z.blocks) c.next_lists.ensures.component in
    let adv = subst (λ (z : List ℕ). AreAdvanced z c.args.all.now c.advance.new.all) e (c.advance.ensures.next c.if-not-advance.false) in
    subst (λ (z : Component). IsWholeList z (blocks_in c.advance.new.all) l) (sym (c.first_from.ensures.component ∙ c.next_lists.ensures.component))
    (new-list c.args.cuts.now.component c.args.all.now c.requires.component c.requires.planes c.advance.new.all adv l w)

pub returns-clause-component : goal.returns-clause-component
returns-clause-component c =
    let e = c.blocks-2.ensures ∙ ap (λ (z : Component). z.blocks) c.next_lists.ensures.component in
    let adv = subst (λ (z : List ℕ). AreAdvanced z c.args.all.now c.advance.new.all) e (c.advance.ensures.next c.if-not-advance.false) in
    subst (λ (z : Component). IsComponentInPlane z (blocks_in c.advance.new.all)) (sym (c.first_from.ensures.component ∙ c.next_lists.ensures.component))
    (new-component c.args.cuts.now.component c.args.all.now c.requires.component c.requires.planes c.advance.new.all adv)

pub returns-clause-planes : goal.returns-clause-planes
returns-clause-planes c =
    let e = c.blocks-2.ensures ∙ ap (λ (z : Component). z.blocks) c.next_lists.ensures.component in
    let adv = subst (λ (z : List ℕ). AreAdvanced z c.args.all.now c.advance.new.all) e (c.advance.ensures.next c.if-not-advance.false) in
    subst (λ (z : Component). HavePlanes z c.advance.new.all) (sym (c.first_from.ensures.component ∙ c.next_lists.ensures.component))
    (new-planes c.args.cuts.now.component c.args.all.now c.requires.component c.requires.planes c.advance.new.all adv)

pub returns-clause-arranged : goal.returns-clause-arranged
returns-clause-arranged c =
    let k = c.args.cuts.now.component in
    let e = c.blocks-2.ensures ∙ ap (λ (z : Component). z.blocks) c.next_lists.ensures.component in
    let adv = subst (λ (z : List ℕ). AreAdvanced z c.args.all.now c.advance.new.all) e (c.advance.ensures.next c.if-not-advance.false) in
    let same = c.next_lists.ensures.as_before c.if-next_lists.false in
    let f = subst (λ (s : CutState). AreFirstLists s.component (blocks_in c.advance.new.all) s.lists c.first_from.new.cuts.lists 0 (length s.component.cuts)) same c.first_from.ensures.lists in
    subst (λ (z : Component). AreArranged z (blocks_in c.advance.new.all) c.first_from.new.cuts.lists) (sym (c.first_from.ensures.component ∙ c.next_lists.ensures.component))
    (arranged-first k (blocks_in c.advance.new.all) (new-component k c.args.all.now c.requires.component c.requires.planes c.advance.new.all adv) c.args.cuts.now.lists c.first_from.new.cuts.lists c.requires.arranged.one_each f)

pub returns-clause-rest : goal.returns-clause-rest
returns-clause-rest c =
    let e = c.blocks-2.ensures ∙ ap (λ (z : Component). z.blocks) c.next_lists.ensures.component in
    let adv = subst (λ (z : List ℕ). AreAdvanced z c.args.all.now c.advance.new.all) e (c.advance.ensures.next c.if-not-advance.false) in
    new-keeps c.args.cuts.now.component c.args.all.now c.requires.component c.requires.planes c.advance.new.all adv
