use Rattle.std.proofs.Common.{◌≡◌, ◌<◌, ◌∙◌, ap, ℕ, List, length, sym, subst, arith}
use Rattle.std.proofs.lemmas.List.{length-map}
use Rattle.smallvec.specs.SmallVec.{SmallVec}
use Rattle.pair_split.specs.Split.{items_of}
use Rattle.pair_split.specs.declared.components.Comp.{Comp}
use Rattle.spqr_tree.specs.Merging.{group_of}
use Rattle.spqr_tree.specs.Ranking.{rank_at, rank_of, ranks_of, value_at, in_order, AreRanked, ArePlaces}
use Rattle.spqr_tree.specs.Keys.{AreWithin}
use Rattle.spqr_tree.specs.Assembly.{IsArranged}
use Rattle.spqr_tree.proofs.InOrder.{arranged, ranks-within, group-within}
use Rattle.spqr_tree.proofs.arranging.arrange_groups.Goals as goal

-- the number of a rank is below their number
pub places-requires-clause-within : goal.places-requires-clause-within
places-requires-clause-within c = subst (λ (l : List (SmallVec ℕ × ℕ)). (i : ℕ) → i < length l → (rank_at (ranks_of l) i).1 < length l) (sym c.deref-2.ensures.value) (λ i l.
    let m : i < length (ranks_of c.in_ok-ranks.ranks.items) = subst (λ z. i < z) (sym (length-map c.in_ok-ranks.ranks.items rank_of)) l in
    omega (arith, ranks-within c.args.groups.items (ranks_of c.in_ok-ranks.ranks.items) (subst (λ (l : List Comp). AreRanked l (ranks_of c.in_ok-ranks.ranks.items)) c.deref.ensures.value c.in_ok-ranks.ensures) i m, c.in_ok-ranks.ensures.number, length-map c.in_ok-ranks.ranks.items rank_of))

-- the number of a rank is that of a group
pub place_groups-requires-clause-ranked : goal.place_groups-requires-clause-ranked
place_groups-requires-clause-ranked c = subst (λ (l : List (SmallVec ℕ × ℕ)). (i : ℕ) → i < length l → (rank_at (ranks_of l) i).1 < length c.args.groups.items) (sym c.deref-4.ensures.value) (λ i l.
    ranks-within c.args.groups.items (ranks_of c.in_ok-ranks.ranks.items) (subst (λ (l : List Comp). AreRanked l (ranks_of c.in_ok-ranks.ranks.items)) c.deref.ensures.value c.in_ok-ranks.ensures) i (subst (λ z. i < z) (sym (length-map c.in_ok-ranks.ranks.items rank_of)) l))

-- each link leads to a component, and its group has a place
pub place_groups-requires-clause-within : goal.place_groups-requires-clause-within
place_groups-requires-clause-within c = λ k l. subst (AreWithin (items_of c.args.groups.items k)) (sym c.requires.groups.4) (group-within c.args.g.now c.requires.groups.0 c.requires.groups.1 (group_of c.args.lead.now) c.args.groups.items c.requires.groups.2 k l)

pub place_groups-requires-clause-led : goal.place_groups-requires-clause-led
place_groups-requires-clause-led c = λ x l.
    let m : x < length c.requires.groups.0 = subst (λ z. x < z) c.requires.groups.4 l in
    let q : length c.deref-2.result.now ≡ length c.in_ok-ranks.ranks.items = ap length c.deref-2.ensures.value in
    let r : length c.deref-3.result.now ≡ length c.in_ok-places.places.items = ap length c.deref-3.ensures.value in
    omega (arith, c.requires.groups.2.into x m, c.in_ok-ranks.ensures.number, length-map c.in_ok-ranks.ranks.items rank_of, q, r, c.in_ok-places.ensures.number)

-- the groups in order
pub returns : goal.returns
returns c = subst (λ (l : List Comp). IsArranged c.args.g.now l (ranks_of c.in_ok-ranks.ranks.items))
    (sym (c.in_ok-all.ensures ∙ (λ i. in_order (λ x. value_at (c.deref-3.ensures.value i) (group_of c.args.lead.now x)) c.args.groups.items (ranks_of (c.deref-4.ensures.value i)))))
    (arranged c.args.g.now c.requires.block c.requires.groups.0 c.requires.groups.1 c.args.lead.now c.args.groups.items c.requires.groups.2 c.requires.groups.3 c.requires.few (ranks_of c.in_ok-ranks.ranks.items) (subst (λ (l : List Comp). AreRanked l (ranks_of c.in_ok-ranks.ranks.items)) c.deref.ensures.value c.in_ok-ranks.ensures)
    c.in_ok-places.places.items (subst (λ (l : List (SmallVec ℕ × ℕ)). ArePlaces (ranks_of l) c.in_ok-places.places.items) c.deref-2.ensures.value c.in_ok-places.ensures.places))
