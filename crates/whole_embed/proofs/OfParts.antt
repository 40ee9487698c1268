-- A member of the list of a component is made of its parts in the blocks and its orders around the cut vertices.
use Rattle.std.proofs.Common.{◌≡◌, ℕ, ◌<◌, true, List, [], length, map, slice_index, slice_index_or, Contains, refl, sym, ◌∙◌, subst}
use Rattle.std.proofs.lemmas.List.{get_or-map, length-map}
use Rattle.permutations.specs.Members.{is_member, place_of}
use Rattle.permutations.proofs.Arrangements.{member-at}
use Rattle.permutations.proofs.Places.{place-below, place-holds}
use Rattle.choice_lists.specs.Order.{Lists, is_before}
use Rattle.arrangements.specs.Arranged.{IsArrangement}
use Rattle.arrangements.proofs.Laws.{arrangements_are_listed}
use Rattle.whole_embed.specs.Component.{Component, BlockInPlane, IsComponentInPlane}
use Rattle.whole_embed.specs.Around.{outer_at, edges_around, block_with, block_order, arrangements_around}
use Rattle.whole_embed.specs.Whole.{AreArranged, whole_system, block_part, IsWholeMember}
use Rattle.whole_embed.specs.Listed.{with_parts, MemberIsOfParts}
use Rattle.whole_embed.proofs.Assembled.{IsAssembled}
use Rattle.whole_embed.proofs.Assembly.{assembled, present}
use Rattle.whole_embed.proofs.Moved.{AreMoved, member-moved, component-moved}
use Rattle.whole_embed.proofs.Steps.{IsPresent}
use Rattle.whole_embed.proofs.Told.{parts-tell, member-arranged}

module _ (k : Component) (block new : ℕ → BlockInPlane) (is : IsComponentInPlane k block) (moved : AreMoved k block new) where
  -- the component with other members of the blocks' lists
  pub in-plane : IsComponentInPlane k new
  in-plane = component-moved k block new moved is

  made : IsAssembled k new
  made = assembled k new in-plane

  -- the arrangements at a cut vertex are listed
  pub listed : (c : ℕ) → is_member c k.cuts ≡ true → Lists is_before (IsArrangement (block_with k) (block_order new c) (edges_around k c)) (arrangements_around k new c)
  listed c m = arrangements_are_listed (block_with k) (block_order new c) (edges_around k c) (made.orders c (made.cuts_in c m))

  module _ (q : List (List ℕ)) (m : IsWholeMember k block q) (same : (b : ℕ) → is_member b k.blocks ≡ true → block_part k (new b).part q ≡ (new b).rotation) where
    abbrev lists : List (List ℕ)
    lists = map (outer_at k.part q) k.cuts

    list-at : (i : ℕ) → i < length k.cuts → slice_index_or lists i [] ≡ outer_at k.part q (slice_index k.cuts i)
    list-at i l = get_or-map (outer_at k.part q) k.cuts i 0 [] l

    -- the orders are arrangements
    pub orders-arranged : AreArranged k new lists
    orders-arranged = record {
      one_each = length-map k.cuts (outer_at k.part q);
      each = λ i l.
          let c = slice_index k.cuts i in
          let n : is_member c k.cuts ≡ true = member-at k.cuts i 0 l in
          subst (λ (z : List ℕ). Contains (arrangements_around k new c) z) (sym (list-at i l))
          (((listed c n).exactly (outer_at k.part q c)).1 (member-arranged k new made q (member-moved k block new moved q m) same c (made.cuts_in c n)));
    }

    here : IsPresent k new lists (whole_system k new lists)
    here = present k new lists in-plane orders-arranged

    -- and parts and orders make the member
    pub made-of_parts : whole_system k new lists ≡ q
    made-of_parts = sym (parts-tell k new made q (whole_system k new lists) m.plane.system here.member.plane.system
        (λ b n. same b n ∙ sym (here.parts b n))
        (λ c n. sym (subst (λ z. slice_index_or lists (place_of k.cuts c) [] ≡ outer_at k.part q z) (place-holds k.cuts c n) (list-at (place_of k.cuts c) (place-below k.cuts c n)))
        ∙ sym (subst (λ z. outer_at k.part (whole_system k new lists) z ≡ slice_index_or lists (place_of k.cuts c) []) (place-holds k.cuts c n) (here.rounds (place_of k.cuts c) (place-below k.cuts c n)))))

pub member_is_of_parts : MemberIsOfParts
member_is_of_parts k block q is m = (in-plane k block (with_parts k block q) is moved, orders-arranged k block (with_parts k block q) is moved q m (λ b n. refl), made-of_parts k block (with_parts k block q) is moved q m (λ b n. refl))
  where
    moved : AreMoved k block (with_parts k block q)
    moved b n = let w = m.kept b n in record { part = refl; nodes = refl; locks = refl; plane = w.plane; keeps = w.keeps }
