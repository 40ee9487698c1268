-- A walk through the list of a component, step by step.
use Rattle.std.proofs.Common.{◌≡◌, ℕ, ◌+◌, ◌<◌, ◌≤◌, inl, inr, true, List, [], length, slice_index, slice_index_or, slice_set, Contains, Option, refl, sym, ap, ◌∙◌, subst, arith}
use Rattle.std.specs.Prelude.{IsSome}
use Rattle.std.proofs.lemmas.Bool.{cases_eq, cases_order}
use Rattle.std.proofs.lemmas.List.{length-set, get_or-set_same, get_or-set_other}
use Rattle.permutations.specs.Members.{is_member, place_of}
use Rattle.permutations.proofs.Arrangements.{member-at}
use Rattle.permutations.proofs.Places.{place-below, place-holds}
use Rattle.multigraph.specs.Part.{Rises}
use Rattle.faces.specs.Euler.{IsPlaneSystem}
use Rattle.skel_embed.specs.Block.{BlockState}
use Rattle.skeletons.specs.Lists.{IsRank}
use Rattle.embed_enum.proofs.Walks.{rest-itself}
use Rattle.choice_lists.specs.Order.{IsAt}
use Rattle.choice_lists.specs.Products.{IsLast}
use Rattle.choice_lists.proofs.Places.{contains-from}
use Rattle.choice_lists.proofs.Products.{first-at}
use Rattle.arrangements.proofs.Laws.{first_is_first}
use Rattle.whole_embed.specs.declared.members.Member.{Member}
use Rattle.whole_embed.specs.Component.{Component, BlockInPlane, IsComponentInPlane}
use Rattle.whole_embed.specs.Around.{edges_around, block_with, block_order}
use Rattle.whole_embed.specs.Cuts.{CutState, member_at, in_plane, blocks_in, HavePlanes}
use Rattle.whole_embed.specs.Whole.{AreArranged, whole_system, IsWholeMember, WholePrecedes, IsWholeList}
use Rattle.whole_embed.specs.Walk.{first_around, arrangements_at_place, AreFirstLists, AreNextLists, AreLastLists, KeepsBlocks}
use Rattle.whole_embed.specs.Advanced.{IsLastMember, AreAdvanced}
use Rattle.whole_embed.proofs.Assembled.{IsAssembled}
use Rattle.whole_embed.proofs.Followers.{succeeds-rank, end-rank}
use Rattle.whole_embed.proofs.Odometer.{precedes-apart}
use Rattle.whole_embed.proofs.Moved.{AreMoved, component-moved, list-moved}
use Rattle.whole_embed.proofs.LedBlocks.{IsLastBlock, last-block}
use Rattle.whole_embed.proofs.AdvancedBlocks.{fits-part, earlier-same, next-block, later-blocks, moved-blocks, have-new, keeps-blocks}
use Rattle.whole_embed.proofs.Steps.{next-lists, last-of_all, next-blocks}
use Rattle.whole_embed.proofs.Assembly.{assembled, present}

-- no cut vertex yet, and one more
pub first-lists_begin : (k : Component) (block : ℕ → BlockInPlane) (lists : List (List ℕ)) (from : ℕ) → AreFirstLists k block lists lists from from
first-lists_begin k block lists from = record { count = refl; first = λ j a b. absurd (omega (arith, a, b)); before = λ j a. refl }

pub first-lists_more : (k : Component) (block : ℕ → BlockInPlane) (old mid : List (List ℕ)) (from i : ℕ) → from ≤ i → i < length old → AreFirstLists k block old mid from i → AreFirstLists k block old (slice_set mid i (first_around k block i)) from (i + 1)
first-lists_more k block old mid from i a l h = record {
  count = length-set mid i (first_around k block i) ∙ h.count;
  first = λ j u v. elim (cases_eq j i) [
    | inl e ↦ subst (λ z. slice_index_or (slice_set mid i (first_around k block i)) z [] ≡ first_around k block z) (sym e) (get_or-set_same mid i (first_around k block i) [] (omega (arith, l, h.count)))
    | inr n ↦ get_or-set_other mid i j (first_around k block i) [] n ∙ h.first j u (omega (arith, v, n))
  ];
  before = λ j u. get_or-set_other mid i j (first_around k block i) [] (λ e. omega (arith, e, u, a)) ∙ h.before j u;
}

-- a cut vertex at its next arrangement, and the later ones at their first
pub next-lists_made : (k : Component) (block : ℕ → BlockInPlane) (old new : List (List ℕ)) (place : ℕ) (list : List ℕ) → length old ≡ length k.cuts → place < length k.cuts
    → ((i : ℕ) → IsAt (arrangements_at_place k block place) i (slice_index_or old place []) → IsAt (arrangements_at_place k block place) (i + 1) list)
    → ((j : ℕ) → place < j → j < length k.cuts → IsLast (arrangements_at_place k block j) (slice_index_or old j []))
    → AreFirstLists k block (slice_set old place list) new (place + 1) (length k.cuts) → AreNextLists k block old new
next-lists_made k block old new place list each within next last h = record {
  count = h.count ∙ length-set old place list;
  place = place;
  within = within;
  next = λ i a. subst (λ (z : List ℕ). IsAt (arrangements_at_place k block place) (i + 1) z) (sym (h.before place (omega arith) ∙ get_or-set_same old place list [] (omega (arith, within, each)))) (next i a);
  last = last;
  first = λ j a b. h.first j (omega (arith, a)) b;
  before = λ j a. h.before j (omega (arith, a)) ∙ get_or-set_other old place j list [] (λ e. omega (arith, e, a));
}

module _ (k : Component) (block : ℕ → BlockInPlane) (h : IsComponentInPlane k block) where
  made : IsAssembled k block
  made = assembled k block h

  pub first-has : (j : ℕ) → j < length k.cuts → Contains (arrangements_at_place k block j) (first_around k block j)
  first-has j l =
      let v = slice_index k.cuts j in
      let f = first_is_first (block_with k) (block_order block v) (edges_around k v) (made.orders v (made.cuts_in v (member-at k.cuts j 0 l))) in
      contains-from (arrangements_at_place k block j) (first_around k block j) (0, first-at (arrangements_at_place k block j) (first_around k block j) f)

  -- after a step each cut vertex has an arrangement
  pub arranged-next : (old new : List (List ℕ)) → AreArranged k block old → AreNextLists k block old new → AreArranged k block new
  arranged-next old new a n = record {
    one_each = n.count ∙ a.one_each;
    each = λ j l. elim (cases_order j n.place) [
      | inl e ↦ subst (λ z. Contains (arrangements_at_place k block z) (slice_index_or new z [])) (sym e) here
      | inr (inl u) ↦ subst (λ (z : List ℕ). Contains (arrangements_at_place k block j) z) (sym (n.before j u)) (a.each j l)
      | inr (inr u) ↦ subst (λ (z : List ℕ). Contains (arrangements_at_place k block j) z) (sym (n.first j u l)) (first-has j l)
    ];
  }
    where
      here : Contains (arrangements_at_place k block n.place) (slice_index_or new n.place [])
      here = let c = a.each n.place n.within in let w = n.next c.0 (c.1, c.2) in (c.0 + 1, w.0, w.1)

  -- with first arrangements, too
  pub arranged-first : (old new : List (List ℕ)) → length old ≡ length k.cuts → AreFirstLists k block old new 0 (length k.cuts) → AreArranged k block new
  arranged-first old new e f = record {
    one_each = f.count ∙ e;
    each = λ j l. subst (λ (z : List ℕ). Contains (arrangements_at_place k block j) z) (sym (f.first j (omega arith) l)) (first-has j l);
  }

  -- the place after a step of the cut vertices
  pub rank-lists : (old new : List (List ℕ)) → AreArranged k block old → AreNextLists k block old new → (l : List (List (List ℕ))) (i : ℕ) → IsWholeList k block l → IsRank l (whole_system k block old) i
      → IsRank l (whole_system k block new) (i + 1)
  rank-lists old new a n l i w r =
      succeeds-rank (WholePrecedes k block) (precedes-apart k block) (IsWholeMember k block) l w.rising w.members (whole_system k block old) (whole_system k block new) i r
      (next-lists k block made old new (whole_system k block old) (whole_system k block new) a (present k block old h a) (present k block new h (arranged-next old new a n)) n)

  -- the last place
  pub rank-last : (lists : List (List ℕ)) → AreArranged k block lists → AreLastLists k block lists → ((b : ℕ) → is_member b k.blocks ≡ true → IsLastBlock (block b)) → (l : List (List (List ℕ))) (i : ℕ) → IsWholeList k block l
      → IsRank l (whole_system k block lists) i → i + 1 ≡ length l
  rank-last lists a last blocks l i w r =
      end-rank (WholePrecedes k block) (precedes-apart k block) (IsWholeMember k block) l w.rising w.members (whole_system k block lists) i r
      (last-of_all k block made lists (whole_system k block lists) (present k block lists h a) last blocks)

-- the blocks of a component as a list of all blocks has them
module _ (k : Component) (all : List Member) (h : IsComponentInPlane k (blocks_in all)) (have : HavePlanes k all) where
  pub planes : (b : ℕ) → is_member b k.blocks ≡ true → IsPlaneSystem (blocks_in all b).part.graph (blocks_in all b).rotation
  planes b m = h.blocks.planes b (subst (λ (z : Component). is_member b z.blocks ≡ true) h.component m)

  pub blocks-rise : Rises k.blocks
  blocks-rise = (assembled k (blocks_in all) h).blocks_rise

  pub blocks-within : (j : ℕ) → j < length k.blocks → slice_index k.blocks j < length all
  blocks-within j l = have.within (slice_index k.blocks j) (member-at k.blocks j 0 l)

  pub blocks-some : (j : ℕ) → j < length k.blocks → IsSome (member_at all (slice_index k.blocks j)).plane
  blocks-some j l = let w = have.plane (slice_index k.blocks j) (member-at k.blocks j 0 l) in subst (λ (z : Option BlockState). IsSome z) (sym w.1) refl

  -- each block at its last
  pub blocks-last : ((j : ℕ) → j < length k.blocks → IsLastMember (member_at all (slice_index k.blocks j))) → (b : ℕ) → is_member b k.blocks ≡ true → IsLastBlock (blocks_in all b)
  blocks-last last b m = last-block (member_at all b) (fits-part k all have b m) (subst (λ z. IsLastMember (member_at all z)) (place-holds k.blocks b m) (last (place_of k.blocks b) (place-below k.blocks b m)))

  module _ (new : List Member) (adv : AreAdvanced k.blocks all new) where
    pub moved : AreMoved k (blocks_in all) (blocks_in new)
    moved = moved-blocks k all new have blocks-rise adv planes

    pub new-component : IsComponentInPlane k (blocks_in new)
    new-component = component-moved k (blocks_in all) (blocks_in new) moved h

    pub new-planes : HavePlanes k new
    new-planes = have-new k all new have blocks-rise adv planes

    pub new-list : (l : List (List (List ℕ))) → IsWholeList k (blocks_in all) l → IsWholeList k (blocks_in new) l
    new-list l w = list-moved k (blocks_in all) (blocks_in new) moved l w

    pub new-keeps : KeepsBlocks k all new
    new-keeps = keeps-blocks k all new have blocks-rise adv planes

    -- the place after a step of the blocks
    pub rank-blocks : (old lists : List (List ℕ)) → AreArranged k (blocks_in all) old → AreLastLists k (blocks_in all) old → AreFirstLists k (blocks_in new) old lists 0 (length k.cuts)
        → (l : List (List (List ℕ))) (i : ℕ) → IsWholeList k (blocks_in all) l → IsRank l (whole_system k (blocks_in all) old) i → IsRank l (whole_system k (blocks_in new) lists) (i + 1)
    rank-blocks old lists a last f l i w r =
        succeeds-rank (WholePrecedes k (blocks_in all)) (precedes-apart k (blocks_in all)) (IsWholeMember k (blocks_in all)) l w.rising w.members (whole_system k (blocks_in all) old) (whole_system k (blocks_in new) lists) i r
        (next-blocks k (blocks_in all) (blocks_in new) (assembled k (blocks_in all) h) (assembled k (blocks_in new) new-component) moved old lists (whole_system k (blocks_in all) old) (whole_system k (blocks_in new) lists)
        (present k (blocks_in all) old h a) (present k (blocks_in new) lists new-component (arranged-first k (blocks_in new) new-component old lists a.one_each f))
        adv.place adv.within (next-block k all new have blocks-rise adv planes)
        (λ j e. ap (λ (z : Member). (in_plane z.part z.plane).rotation) (earlier-same k all new have blocks-rise adv planes j e))
        (λ j u v. later-blocks k all new have blocks-rise adv planes j u v)
        last (λ j v. f.first j (omega arith) v))

-- a cut vertex set to its next arrangement, and the later ones to their first
pub next-made : (block : ℕ → BlockInPlane) (old after : CutState) (place : ℕ) (new : List (List ℕ)) → length old.lists ≡ length old.component.cuts → place < length old.component.cuts
    → ((list : List ℕ) × (after ≡ record { component = old.component; lists = slice_set old.lists place list })
    × ((j : ℕ) → IsAt (arrangements_at_place old.component block place) j (slice_index_or old.lists place []) → IsAt (arrangements_at_place old.component block place) (j + 1) list))
    → ((j : ℕ) → place < j → j < length old.component.cuts → IsLast (arrangements_at_place old.component block j) (slice_index_or old.lists j []))
    → AreFirstLists after.component block after.lists new (place + 1) (length after.component.cuts) → AreNextLists old.component block old.lists new
next-made block old after place new each within w last h =
    next-lists_made old.component block old.lists new place w.0 each within w.2 last (subst (λ (s : CutState). AreFirstLists s.component block s.lists new (place + 1) (length s.component.cuts)) w.1 h)

-- nothing changed
pub keeps-itself : (k : Component) (all : List Member) → KeepsBlocks k all all
keeps-itself k all = record { count = refl; parts = λ b. refl; rest = λ b p m e. (p, e, rest-itself p); others = λ b n. refl }
