-- The members that follow, one after the other.
use Rattle.std.proofs.Common.{◌≡◌, ℕ, ◌+◌, ◌≤◌, List, [], ◌∷◌, ◌++◌, length, map, take, drop, refl, sym, ap, ◌∙◌, subst, arith}
use Rattle.std.proofs.lemmas.List.{map-append}
use Rattle.skeletons.specs.Lists.{IsRank}
use Rattle.embed_enum.proofs.Places.{follows-more, follows-all}
use Rattle.whole_embed.specs.declared.members.Member.{Member}
use Rattle.whole_embed.specs.Component.{Component, IsComponentInPlane}
use Rattle.whole_embed.specs.Cuts.{CutState, blocks_in, HavePlanes}
use Rattle.whole_embed.specs.Whole.{AreArranged, whole_lists, whole_system, IsWholeList}
use Rattle.whole_embed.specs.Walk.{system_lists}
use Rattle.whole_embed.proofs.Assembly.{lists-of_system}

-- one member more of those that follow
pub found-more : {X : Type 0} (f : List (List ℕ) → X) (l : List (List (List ℕ))) (i t : ℕ) (q : List (List ℕ)) (found more : List X) → found ≡ map f (take t (drop (i + 1) l)) → IsRank l q (i + (t + 1)) → more ≡ found ++ f q ∷ []
    → more ≡ map f (take (t + 1) (drop (i + 1) l))
found-more {X} f l i t q found more e k a =
    a ∙ (ap (λ (z : List X). z ++ f q ∷ []) e ∙ (sym (map-append f (take t (drop (i + 1) l)) (q ∷ [])) ∙ ap (map f) (follows-more l i t q (take t (drop (i + 1) l)) (take t (drop (i + 1) l) ++ q ∷ []) refl k refl)))

-- at the last member there are no more
pub found-all : {X : Type 0} (f : List (List ℕ) → X) (l : List (List (List ℕ))) (i t n : ℕ) (found : List X) → found ≡ map f (take t (drop (i + 1) l)) → i + t + 1 ≡ length l → t ≤ n → found ≡ map f (take n (drop (i + 1) l))
found-all f l i t n found e a b = e ∙ ap (map f) (follows-all l i t n (take t (drop (i + 1) l)) refl a b)

-- a walk of t steps: where it is, and what was found on the way
pub record IsWalked (cuts : CutState) (all : List Member) (walker : CutState) (blocks : List Member) (t : ℕ) (found : List (List (ℕ × List ℕ))) : Type 0 where
  pub same : walker.component ≡ cuts.component
  pub component : IsComponentInPlane walker.component (blocks_in blocks)
  pub planes : HavePlanes walker.component blocks
  pub arranged : AreArranged walker.component (blocks_in blocks) walker.lists
  pub list : (l : List (List (List ℕ))) → IsWholeList cuts.component (blocks_in all) l → IsWholeList walker.component (blocks_in blocks) l
  pub place : (l : List (List (List ℕ))) (i : ℕ) → IsWholeList cuts.component (blocks_in all) l → IsRank l (whole_system cuts.component (blocks_in all) cuts.lists) i → IsRank l (whole_system walker.component (blocks_in blocks) walker.lists) (i + t)
  pub found_is : (l : List (List (List ℕ))) (i : ℕ) → IsWholeList cuts.component (blocks_in all) l → IsRank l (whole_system cuts.component (blocks_in all) cuts.lists) i → found ≡ map (system_lists cuts.component) (take t (drop (i + 1) l))

-- no step yet
pub walked-begins : (cuts : CutState) (all : List Member) (walker : CutState) (blocks : List Member) → IsComponentInPlane cuts.component (blocks_in all) → HavePlanes cuts.component all → AreArranged cuts.component (blocks_in all) cuts.lists
    → walker ≡ cuts → blocks ≡ all → IsWalked cuts all walker blocks 0 []
walked-begins cuts all walker blocks h p a e f = subst (λ (s : CutState). IsWalked cuts all s blocks 0 []) (sym e) (subst (λ (b : List Member). IsWalked cuts all cuts b 0 []) (sym f) (record {
  same = refl;
  component = h;
  planes = p;
  arranged = a;
  list = λ l w. w;
  place = λ l i w r. subst (IsRank l (whole_system cuts.component (blocks_in all) cuts.lists)) (omega arith) r;
  found_is = λ l i w r. refl;
}))

-- one step more
pub walked-more : (cuts : CutState) (all : List Member) (walker : CutState) (blocks : List Member) (t : ℕ) (found : List (List (ℕ × List ℕ))) (next : CutState) (next_blocks : List Member) (lists : List (ℕ × List ℕ)) (more : List (List (ℕ × List ℕ)))
    → IsWalked cuts all walker blocks t found → next.component ≡ walker.component → IsComponentInPlane next.component (blocks_in next_blocks) → HavePlanes next.component next_blocks → AreArranged next.component (blocks_in next_blocks) next.lists
    → ((l : List (List (List ℕ))) → IsWholeList walker.component (blocks_in blocks) l → IsWholeList next.component (blocks_in next_blocks) l)
    → ((l : List (List (List ℕ))) (i : ℕ) → IsWholeList walker.component (blocks_in blocks) l → IsRank l (whole_system walker.component (blocks_in blocks) walker.lists) i → IsRank l (whole_system next.component (blocks_in next_blocks) next.lists) (i + 1))
    → lists ≡ whole_lists next.component (blocks_in next_blocks) next.lists → more ≡ found ++ lists ∷ []
    → IsWalked cuts all next next_blocks (t + 1) more
walked-more cuts all walker blocks t found next next_blocks lists more h same comp planes arranged list step w p = record {
  same = same ∙ h.same;
  component = comp;
  planes = planes;
  arranged = arranged;
  list = λ l u. list l (h.list l u);
  place = place;
  found_is = λ l i u r.
      found-more (system_lists cuts.component) l i t (whole_system next.component (blocks_in next_blocks) next.lists) found more (h.found_is l i u r) (place l i u r)
      (p ∙ ap (λ (z : List (ℕ × List ℕ)). found ++ z ∷ []) (w ∙ (lists-of_system next.component (blocks_in next_blocks) next.lists comp arranged ∙ ap (λ (z : Component). system_lists z (whole_system next.component (blocks_in next_blocks) next.lists)) (same ∙ h.same))));
}
  where
    place : (l : List (List (List ℕ))) (i : ℕ) → IsWholeList cuts.component (blocks_in all) l → IsRank l (whole_system cuts.component (blocks_in all) cuts.lists) i → IsRank l (whole_system next.component (blocks_in next_blocks) next.lists) (i + (t + 1))
    place l i u r = subst (IsRank l (whole_system next.component (blocks_in next_blocks) next.lists)) (omega arith) (step l (i + t) (h.list l u) (h.place l i u r))
