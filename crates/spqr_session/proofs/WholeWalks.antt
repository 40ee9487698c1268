-- `nextwhole` and `listwhole`: there is an answer, and one only, and they lead from a state to a state.
use Rattle.std.proofs.Common.{◌≡◌, ℕ, ◌+◌, ◌<◌, Bool, true, false, not, ◌&&◌, List, [], ◌∷◌, length, slice_index_or, drop, Option, None, Some, inl, inr, refl, sym, ap, ◌∙◌, subst, arith}
use Rattle.std.proofs.lemmas.Bool.{cases_lt, cases_order, ltb-true, true≢false}
use Rattle.std.proofs.lemmas.List.{get_or_past}
use Rattle.std.proofs.lemmas.List.Elements.{All-cons, All-nil}
use Rattle.skeletons.specs.Lists.{IsRank}
use Rattle.embed_enum.proofs.Places.{rank-contains}
use Rattle.whole_embed.specs.Component.{Component, BlockInPlane, IsComponentInPlane}
use Rattle.whole_embed.specs.Whole.{IsWholeMember, WholePrecedes}
use Rattle.whole_embed.proofs.ListExists.{list_exists, list_is_unique, whole_has_rank}
use Rattle.whole_embed.proofs.Odometer.{precedes-apart}
use Rattle.spqr_script.specs.Answers.Change.{ok_text, end_text}
use Rattle.spqr_session.specs.Setting.{Setting, IsSetting}
use Rattle.spqr_session.specs.State.{Family, State, arrangements_in, component_at, is_planar_component, AreArrangements, IsFamily, IsState}
use Rattle.spqr_session.specs.Codes.{first_code}
use Rattle.spqr_session.specs.BlockCodes.{with_family}
use Rattle.spqr_session.specs.Components.{is_component, component_ladder, blocks_of, ReadsComponent, family_with}
use Rattle.spqr_session.specs.Commands.NextWhole.{AreWholeMembers, present_system, IsWholeEnd, IsWholeNext, NextWholeDoes, NextWholeStep}
use Rattle.spqr_session.specs.Commands.ListWhole.{whole_members_text, IsWholeListing, ListWholeStep}
use Rattle.spqr_session.specs.declared.code.Code.TheVariants.{NonPlanar, NoComponent}
use Rattle.spqr_session.proofs.Carried.{DoesOne}
use Rattle.spqr_session.proofs.Ladders.{rung-none, ladder-answers, ladder-one}
use Rattle.spqr_session.proofs.ComponentParts.{family-lists, family-arranged, family-in_plane}
use Rattle.spqr_session.proofs.WholeFamilies.{with-family}

-- there is a component c, and its blocks are planar
pub record IsThere (setting : Setting) (c : ℕ) : Type 0 where
  pub within : c < setting.structure.component_count
  pub planar : is_planar_component setting c ≡ true

from-not : (b : Bool) → not b ≡ false → b ≡ true
from-not true h = refl
from-not false h = absurd (true≢false h)

both-planar : (here planar : Bool) → here ≡ true → (here && not planar) ≡ false → planar ≡ true
both-planar true planar e h = from-not planar h
both-planar false planar e h = absurd (true≢false (sym e))

-- no code of the ladder applies there
pub ladder-there : (setting : Setting) (c : ℕ) → first_code (component_ladder setting c) ≡ None → IsThere setting c
ladder-there setting c none =
    let one = rung-none NonPlanar (is_component setting c && not (is_planar_component setting c)) ((NoComponent, not (is_component setting c)) ∷ []) none in
    let two = rung-none NoComponent (not (is_component setting c)) [] one.1 in
    let here : is_component setting c ≡ true = from-not (is_component setting c) two.0 in
    record { within = ltb-true c setting.structure.component_count here; planar = both-planar (is_component setting c) (is_planar_component setting c) here one.0 }

lists-planar : (k : Component) (block : ℕ → BlockInPlane) (planar : Bool) (lists : List (List ℕ)) → AreArrangements k block planar (Some lists) → planar ≡ true
lists-planar k block true lists h = refl
lists-planar k block false lists h = absurd h

-- where a family has lists, too
pub lists-there : (setting : Setting) (family : Family) (c : ℕ) (lists : List (List ℕ)) → IsFamily setting family → arrangements_in family c ≡ Some lists → IsThere setting c
lists-there setting family c lists right e = elim (cases_lt c setting.structure.component_count) [
  | inl l ↦ record {
    within = l;
    planar = lists-planar (component_at setting c) (blocks_of setting family) (is_planar_component setting c) lists (subst (AreArrangements (component_at setting c) (blocks_of setting family) (is_planar_component setting c)) e (right.arranged c l));
  }
  | inr n ↦ absurd (let both : None ≡ Some lists = sym (get_or_past family.arrangements c None (omega (arith, n, right.lists_each))) ∙ e in cc)
]

pub one-some : {X : Type 0} (a b : X) (o : Option X) → o ≡ Some a → o ≡ Some b → a ≡ b
one-some a b o p q = let both : Some a ≡ Some b = sym p ∙ q in cc

-- the state with another family is one, if the family is right
pub family-keeps : (setting : Setting) (s : State) (family : Family) → IsState setting s → IsFamily setting family → IsState setting (with_family s family)
family-keeps setting s family right h = record {
  present = h;
  earlier = All-cons (IsFamily setting) s.present s.earlier right.present right.earlier;
  later = All-nil (IsFamily setting);
}

-- ---- the list of a component

-- there is one list
pub whole-lists_one : (setting : Setting) (c : ℕ) (family : Family) (l m : List (List (List ℕ))) → AreWholeMembers setting c family l → AreWholeMembers setting c family m → l ≡ m
whole-lists_one setting c family l m a b = list_is_unique (component_at setting c) (blocks_of setting family) l m a b

-- and one rank of each member
pub whole-ranks_one : (setting : Setting) (c : ℕ) (family : Family) (l : List (List (List ℕ))) (r : List (List ℕ)) (i j : ℕ) → AreWholeMembers setting c family l → IsRank l r i → IsRank l r j → i ≡ j
whole-ranks_one setting c family l r i j a p q = elim (cases_order i j) [
  | inl x ↦ x
  | inr (inl x) ↦ absurd (apart i j x p q)
  | inr (inr x) ↦ absurd (apart j i x q p)
]
  where
    apart : (i j : ℕ) → i < j → IsRank l r i → IsRank l r j → ⊥
    apart i j x p q =
        let before : WholePrecedes (component_at setting c) (blocks_of setting family) r r =
        subst (λ (z : List (List ℕ)). WholePrecedes (component_at setting c) (blocks_of setting family) z r) p.is_there (subst (λ (z : List (List ℕ)). WholePrecedes (component_at setting c) (blocks_of setting family) (slice_index_or l i []) z) q.is_there (a.rising i j [] x q.within)) in
        precedes-apart (component_at setting c) (blocks_of setting family) r r before before

-- the list, and the rank of the present member
pub record IsPlaced (setting : Setting) (c : ℕ) (family : Family) (lists : List (List ℕ)) : Type 0 where
  pub list : List (List (List ℕ))
  pub are : AreWholeMembers setting c family list
  pub place : ℕ
  pub rank : IsRank list (present_system setting c family lists) place

-- a member of the list is one of the component
pub ranked-member : (setting : Setting) (c : ℕ) (family : Family) (l : List (List (List ℕ))) (q : List (List ℕ)) (i : ℕ) → AreWholeMembers setting c family l → IsRank l q i → IsWholeMember (component_at setting c) (blocks_of setting family) q
ranked-member setting c family l q i a r = (a.members q).0 (rank-contains l q i r)

module _ (setting : Setting) (c : ℕ) (s : State) (is : IsSetting setting) (right : IsState setting s) where
  placed : (there : IsThere setting c) (lists : List (List ℕ)) → arrangements_in s.present c ≡ Some lists → IsPlaced setting c s.present lists
  placed there lists e =
      let plane : IsComponentInPlane (component_at setting c) (blocks_of setting s.present) = family-in_plane setting s.present right.present c there.within there.planar is in
      let found = list_exists (component_at setting c) (blocks_of setting s.present) plane in
      let at = whole_has_rank (component_at setting c) (blocks_of setting s.present) lists found.0 plane (family-arranged setting s.present right.present c there.within there.planar lists e) found.1 in
      record { list = found.0; are = found.1; place = at.0; rank = at.1 }

  placed-lists : (lists : List (List ℕ)) → arrangements_in s.present c ≡ Some lists → IsPlaced setting c s.present lists
  placed-lists lists e = placed (lists-there setting s.present c lists right.present e) lists e

  -- ---- listwhole

  pub list_whole-answers : (n : ℕ) → (text : List ℕ) × (after : State) × ListWholeStep setting c n s text after
  list_whole-answers n = ladder-answers (component_ladder setting c) refl (ReadsComponent c (IsWholeListing setting c n s.present)) s (λ none.
      let there = ladder-there setting c none in
      let w = family-lists setting s.present right.present c there.within there.planar in
      let m = placed there w.0 w.1 in (
        whole_members_text c n (component_at setting c) (drop (m.place + 1) m.list),
        s,
        record {
          lists = w.0;
          present = w.1;
          answer = λ l i a x.
              let same = whole-lists_one setting c s.present m.list l m.are a in
              let place : m.place ≡ i = whole-ranks_one setting c s.present l (present_system setting c s.present w.0) m.place i a (subst (λ (z : List (List (List ℕ))). IsRank z (present_system setting c s.present w.0) m.place) same m.rank) x in
              ap (λ (z : List (List (List ℕ))). whole_members_text c n (component_at setting c) (drop (m.place + 1) z)) same ∙ ap (λ (z : ℕ). whole_members_text c n (component_at setting c) (drop (z + 1) l)) place;
          stays = refl;
        },
      ))

  listing-one : (n : ℕ) → DoesOne (ReadsComponent c (IsWholeListing setting c n s.present)) s
  listing-one n t u after other p q =
      let m = placed-lists q.lists q.present in
      let same : p.lists ≡ q.lists = one-some p.lists q.lists (arrangements_in s.present c) p.present q.present in
      (subst (λ (z : List (List ℕ)). IsWholeListing setting c n s.present z t) same p.answer m.list m.place m.are m.rank ∙ sym (q.answer m.list m.place m.are m.rank), p.stays ∙ sym q.stays)

  pub list_whole-one : (n : ℕ) (t u : List ℕ) (after other : State) → ListWholeStep setting c n s t after → ListWholeStep setting c n s u other → (t ≡ u) × (after ≡ other)
  list_whole-one n t u after other p q = ladder-one (component_ladder setting c) refl (ReadsComponent c (IsWholeListing setting c n s.present)) s (listing-one n) t u after other p q

  pub list_whole-keeps : (n : ℕ) (text : List ℕ) (after : State) → ListWholeStep setting c n s text after → IsState setting after
  list_whole-keeps n text after (inl p) = subst (IsState setting) (sym p.stays) right
  list_whole-keeps n text after (inr p) = let r = p.1 in subst (IsState setting) (sym r.stays) right

  -- ---- nextwhole

  pub next_whole-answers : (text : List ℕ) × (after : State) × NextWholeStep setting c s text after
  next_whole-answers = ladder-answers (component_ladder setting c) refl (NextWholeDoes setting c) s (λ none.
      let there = ladder-there setting c none in
      let w = family-lists setting s.present right.present c there.within there.planar in
      by w.0 w.1 (placed there w.0 w.1))
    where
      by : (lists : List (List ℕ)) → arrangements_in s.present c ≡ Some lists → IsPlaced setting c s.present lists → (text : List ℕ) × (after : State) × NextWholeDoes setting c s text after
      by lists e m =
          let same : (l : List (List (List ℕ))) (i : ℕ) → AreWholeMembers setting c s.present l → IsRank l (present_system setting c s.present lists) i → (m.list ≡ l) × (m.place ≡ i) =
          λ l i a x.
          let one = whole-lists_one setting c s.present m.list l m.are a in
          (one, whole-ranks_one setting c s.present l (present_system setting c s.present lists) m.place i a (subst (λ (z : List (List (List ℕ))). IsRank z (present_system setting c s.present lists) m.place) one m.rank) x) in
          elim (cases_lt (m.place + 1) (length m.list)) [
            | inl more ↦ (
              ok_text,
              with_family s (family_with setting c (slice_index_or m.list (m.place + 1) []) s.present),
              inr (record {
                lists = lists;
                present = e;
                system = slice_index_or m.list (m.place + 1) [];
                change = (
                  λ l i a x.
                      let one = same l i a x in
                      subst (λ (z : List (List (List ℕ))). IsRank z (slice_index_or m.list (m.place + 1) []) (i + 1)) one.0 (subst (λ (z : ℕ). IsRank m.list (slice_index_or m.list (m.place + 1) []) (z + 1)) one.1 (record { within = more; is_there = refl })),
                  refl,
                );
                after_is = refl;
              }),
            )
            | inr n ↦ (
              end_text,
              s,
              inl (record {
                lists = lists;
                present = e;
                answer = (λ l i a x. let one = same l i a x in omega (arith, n, m.rank.within, one.1, ap (λ (z : List (List (List ℕ))). length z) one.0), refl);
                stays = refl;
              }),
            )
          ]

  next-one : DoesOne (NextWholeDoes setting c) s
  next-one t u after other (inl p) (inl q) = (p.answer.1 ∙ sym q.answer.1, p.stays ∙ sym q.stays)
  next-one t u after other (inr p) (inr q) =
      let m = placed-lists q.lists q.present in
      let same : p.lists ≡ q.lists = one-some p.lists q.lists (arrangements_in s.present c) p.present q.present in
      let a : IsRank m.list p.system (m.place + 1) = (subst (λ (z : List (List ℕ)). IsWholeNext setting c s.present z p.system t) same p.change).0 m.list m.place m.are m.rank in
      let b : IsRank m.list q.system (m.place + 1) = q.change.0 m.list m.place m.are m.rank in
      let system : p.system ≡ q.system = sym a.is_there ∙ b.is_there in
      (p.change.1 ∙ sym q.change.1, p.after_is ∙ ap (λ (z : List (List ℕ)). with_family s (family_with setting c z s.present)) system ∙ sym q.after_is)
  next-one t u after other (inl p) (inr q) =
      let m = placed-lists q.lists q.present in
      let same : p.lists ≡ q.lists = one-some p.lists q.lists (arrangements_in s.present c) p.present q.present in
      absurd (end-next m.list m.place q.system ((subst (λ (z : List (List ℕ)). IsWholeEnd setting c s.present z t) same p.answer).0 m.list m.place m.are m.rank) (q.change.0 m.list m.place m.are m.rank))
    where
      end-next : (l : List (List (List ℕ))) (i : ℕ) (q : List (List ℕ)) → length l ≡ i + 1 → IsRank l q (i + 1) → ⊥
      end-next l i q e r = omega (arith, e, r.within)
  next-one t u after other (inr p) (inl q) =
      let m = placed-lists p.lists p.present in
      let same : q.lists ≡ p.lists = one-some q.lists p.lists (arrangements_in s.present c) q.present p.present in
      absurd (end-next m.list m.place p.system ((subst (λ (z : List (List ℕ)). IsWholeEnd setting c s.present z u) same q.answer).0 m.list m.place m.are m.rank) (p.change.0 m.list m.place m.are m.rank))
    where
      end-next : (l : List (List (List ℕ))) (i : ℕ) (q : List (List ℕ)) → length l ≡ i + 1 → IsRank l q (i + 1) → ⊥
      end-next l i q e r = omega (arith, e, r.within)

  pub next_whole-one : (t u : List ℕ) (after other : State) → NextWholeStep setting c s t after → NextWholeStep setting c s u other → (t ≡ u) × (after ≡ other)
  next_whole-one t u after other p q = ladder-one (component_ladder setting c) refl (NextWholeDoes setting c) s next-one t u after other p q

  next-keeps : (text : List ℕ) (after : State) → NextWholeDoes setting c s text after → IsState setting after
  next-keeps text after (inl p) = subst (IsState setting) (sym p.stays) right
  next-keeps text after (inr p) =
      let there = lists-there setting s.present c p.lists right.present p.present in
      let m = placed-lists p.lists p.present in
      let r : IsRank m.list p.system (m.place + 1) = p.change.0 m.list m.place m.are m.rank in
      subst (IsState setting) (sym p.after_is)
      (family-keeps setting s (family_with setting c p.system s.present) right
      (with-family setting s.present c p.system is right.present there.within there.planar (ranked-member setting c s.present m.list p.system (m.place + 1) m.are r)))

  pub next_whole-keeps : (text : List ℕ) (after : State) → NextWholeStep setting c s text after → IsState setting after
  next_whole-keeps text after (inl p) = subst (IsState setting) (sym p.stays) right
  next_whole-keeps text after (inr p) = next-keeps text after p.1
