-- Commands on the list of a block: the list, the rank of the present member, and that each answer is one.
use Rattle.std.proofs.Common.{◌≡◌, ℕ, ◌+◌, ◌<◌, Bool, true, false, not, nat_lt, List, [], ◌∷◌, length, slice_index_or, drop, Option, None, Some, Contains, inl, inr, refl, sym, ap, ◌∙◌, subst, arith}
use Rattle.std.proofs.lemmas.Bool.{cases_lt, cases_order, ltb-true}
use Rattle.std.proofs.lemmas.List.{get_or_default}
use Rattle.std.proofs.lemmas.List.Elements.{Contains-get_or}
use Rattle.skeletons.specs.Items.{IsBlockTree}
use Rattle.skeletons.specs.Choices.{Precedes}
use Rattle.skeletons.specs.Lists.{IsRank}
use Rattle.skeletons.proofs.Before.{not-both, kept-unique}
use Rattle.skeleton_choices.proofs.Listed.{list-exists}
use Rattle.skel_embed.specs.Block.{lock_at}
use Rattle.spqr_script.specs.Answers.Change.{ok_text, end_text}
use Rattle.spqr_script.specs.Answers.Count.{count_text}
use Rattle.spqr_script.specs.Answers.Rank.{rank_text}
use Rattle.spqr_session.specs.Trees.{BlockTree, tree_at}
use Rattle.spqr_session.specs.Setting.{Setting, IsSetting}
use Rattle.spqr_session.specs.State.{Embedding, State, entry_at, IsEntry, IsState}
use Rattle.spqr_session.specs.Codes.{rises_above, first_code}
use Rattle.spqr_session.specs.declared.code.Code.TheVariants.{CountOver, RankOut}
use Rattle.spqr_session.specs.Members.{AreMembers, is_over, StandsAt, StandsBehind, StandsLast}
use Rattle.spqr_session.specs.Products.{member_count, product_count_codes, product_rank_codes, CountByProduct, RankByProduct, GotoByProduct}
use Rattle.spqr_session.specs.BlockCodes.{no_more, block_ladder, read_ladder, of_entry, ChangesBlock, changed, Silently}
use Rattle.spqr_session.specs.Commands.Count.{IsCounted, IsRanked}
use Rattle.spqr_session.specs.Commands.Walk.{FirstStep, NextDoes, NextStep}
use Rattle.spqr_session.specs.Commands.Listing.{members_text, IsListing, ListStep}
use Rattle.spqr_session.proofs.Carried.{DoesOne}
use Rattle.spqr_session.proofs.SettingTrees.{setting-tree}
use Rattle.spqr_session.proofs.Ladders.{rung-none, ladder-answers, ladder-one}
use Rattle.spqr_session.proofs.BlockCarried.{held, entry-same, none-front, first-behind, block-entry, entry-rises, read-answers, read-one, read-stays}
use Rattle.spqr_session.proofs.Changes.{change-does, change-keeps, entry-right, entry-block, silently-one, embedding-same}

-- the list of an embedding, and where the embedding stands in it
pub record Listed (tree : BlockTree) (e : Embedding) : Type 0 where
  pub list : List (List (List ℕ))
  pub are : AreMembers tree e list
  pub counted : length list ≡ member_count tree e
  pub place : ℕ
  pub rank : IsRank list e.rotation place

module _ (tree : BlockTree) (e : Embedding) (t : IsBlockTree tree.part.graph tree.nodes) (right : IsEntry tree None (Some e)) where
  pub listed : Listed tree e
  listed =
      let l = list-exists tree.part.graph tree.nodes (lock_at e.locks) e.rotation t right.0 in
      let c : Contains l.0 e.rotation = (l.1.members e.rotation).1 (record { plane = right.0; keeps = λ k m on. refl }) in
      record { list = l.0; are = l.1; counted = l.2; place = c.0; rank = record { within = c.1; is_there = get_or_default l.0 c.0 [] e.rotation c.1 ∙ c.2 } }

-- there is one list
pub lists-one : (tree : BlockTree) (e : Embedding) (l m : List (List (List ℕ))) → AreMembers tree e l → AreMembers tree e m → l ≡ m
lists-one tree e l m a b = kept-unique tree.part.graph tree.nodes (lock_at e.locks) e.rotation l m a b

-- and one rank of each member
pub ranks-one : (tree : BlockTree) (e : Embedding) (l : List (List (List ℕ))) (r : List (List ℕ)) (i j : ℕ) → AreMembers tree e l → IsRank l r i → IsRank l r j → i ≡ j
ranks-one tree e l r i j a p q = elim (cases_order i j) [
  | inl x ↦ x
  | inr (inl x) ↦ absurd (apart i j x p q)
  | inr (inr x) ↦ absurd (apart j i x q p)
]
  where
    apart : (i j : ℕ) → i < j → IsRank l r i → IsRank l r j → ⊥
    apart i j x p q =
        let before : Precedes tree.nodes r r = subst (λ (z : List (List ℕ)). Precedes tree.nodes z r) p.is_there (subst (λ (z : List (List ℕ)). Precedes tree.nodes (slice_index_or l i []) z) q.is_there (a.rising i j [] x q.within)) in
        not-both tree.nodes r r before before

-- the member at a rank is one, and a plane rotation system
at-one : (tree : BlockTree) (old new other : Embedding) (r : ℕ) → IsBlockTree tree.part.graph tree.nodes → IsEntry tree None (Some old) → StandsAt r tree old new → StandsAt r tree old other → new ≡ other
at-one tree old new other r t right p q =
    let l = listed tree old t right in
    embedding-same new other (sym (p.rank l.list l.are).is_there ∙ (q.rank l.list l.are).is_there) (p.locks ∙ sym q.locks)

member-right : (tree : BlockTree) (old new : Embedding) (l : List (List (List ℕ))) (r : ℕ) → IsEntry tree None (Some old) → AreMembers tree old l → IsRank l new.rotation r → new.locks ≡ old.locks → IsEntry tree None (Some new)
member-right tree old new l r right a p locks =
    let c : Contains l new.rotation = subst (λ (z : List (List ℕ)). Contains l z) p.is_there (Contains-get_or l r [] p.within) in
    (((a.members new.rotation).0 c).plane, ap (λ (x : List Bool). length x) locks ∙ right.1)

at-right : (tree : BlockTree) (old new : Embedding) (r : ℕ) → IsBlockTree tree.part.graph tree.nodes → IsEntry tree None (Some old) → StandsAt r tree old new → IsEntry tree None (Some new)
at-right tree old new r t right p = let l = listed tree old t right in member-right tree old new l.list r right l.are (p.rank l.list l.are) p.locks

-- the embedding at a rank below the length
at-rank : (tree : BlockTree) (old : Embedding) (r : ℕ) → IsBlockTree tree.part.graph tree.nodes → IsEntry tree None (Some old) → r < member_count tree old → (new : Embedding) × StandsAt r tree old new
at-rank tree old r t right below =
    let l = listed tree old t right in
    let new : Embedding = record { rotation = slice_index_or l.list r []; locks = old.locks } in (
      new,
      record {
        rank = λ m a. subst (λ (x : List (List (List ℕ))). IsRank x (slice_index_or l.list r []) r) (lists-one tree old l.list m l.are a) (record { within = omega (arith, below, l.counted); is_there = refl });
        locks = refl;
      },
    )

-- a test of a rank
rank-below : (r n : ℕ) → not (nat_lt r n) ≡ false → r < n
rank-below r n h = ltb-true r n (held (nat_lt r n) h)

module _ (setting : Setting) (b : ℕ) (s : State) (is : IsSetting setting) (right : IsState setting s) where
  abbrev here : BlockTree
  here = tree_at setting.trees b

  abbrev tree-of : b < length setting.trees → IsBlockTree here.part.graph here.nodes
  tree-of l = setting-tree setting is b l

  -- ---- count and rank

  pub count-answers : (text : List ℕ) × (after : State) × CountByProduct setting.trees b s text after
  count-answers = read-answers product_count_codes (λ tree e. refl) IsCounted setting.trees b s (λ l e p none.
      let m = listed here e (tree-of l) (entry-right setting s b e right l p) in
      (count_text (length m.list), λ k a. ap (λ (x : List (List (List ℕ))). count_text (length x)) (lists-one here e m.list k m.are a)))

  pub count-one : (t u : List ℕ) (after other : State) → CountByProduct setting.trees b s t after → CountByProduct setting.trees b s u other → (t ≡ u) × (after ≡ other)
  count-one t u after other p q = read-one product_count_codes (λ tree e. refl) IsCounted setting.trees b s (λ e at x y c d.
      let l = entry-block setting s b e right at in
      let m = listed here e (tree-of l) (entry-right setting s b e right l at) in c m.list m.are ∙ sym (d m.list m.are)) t u after other p q

  pub count-keeps : (text : List ℕ) (after : State) → CountByProduct setting.trees b s text after → IsState setting after
  count-keeps text after p = subst (IsState setting) (sym (read-stays product_count_codes (λ tree e. refl) IsCounted setting.trees b s text after p)) right

  pub rank-answers : (text : List ℕ) × (after : State) × RankByProduct setting.trees b s text after
  rank-answers = read-answers product_count_codes (λ tree e. refl) IsRanked setting.trees b s (λ l e p none.
      let m = listed here e (tree-of l) (entry-right setting s b e right l p) in
      (rank_text m.place, λ k i a x. ap rank_text (ranks-one here e k e.rotation m.place i a (subst (λ (z : List (List (List ℕ))). IsRank z e.rotation m.place) (lists-one here e m.list k m.are a) m.rank) x)))

  pub rank-one : (t u : List ℕ) (after other : State) → RankByProduct setting.trees b s t after → RankByProduct setting.trees b s u other → (t ≡ u) × (after ≡ other)
  rank-one t u after other p q = read-one product_count_codes (λ tree e. refl) IsRanked setting.trees b s (λ e at x y c d.
      let l = entry-block setting s b e right at in
      let m = listed here e (tree-of l) (entry-right setting s b e right l at) in c m.list m.place m.are m.rank ∙ sym (d m.list m.place m.are m.rank)) t u after other p q

  pub rank-keeps : (text : List ℕ) (after : State) → RankByProduct setting.trees b s text after → IsState setting after
  rank-keeps text after p = subst (IsState setting) (sym (read-stays product_count_codes (λ tree e. refl) IsRanked setting.trees b s text after p)) right

  -- ---- list

  pub list-answers : (n : ℕ) → (text : List ℕ) × (after : State) × ListStep setting b n s text after
  list-answers n = read-answers no_more (λ tree e. refl) (IsListing b n) setting.trees b s (λ l e p none.
      let m = listed here e (tree-of l) (entry-right setting s b e right l p) in (
        members_text b n here (drop (m.place + 1) m.list),
        λ k i a x.
            let same = lists-one here e m.list k m.are a in
            let place : m.place ≡ i = ranks-one here e k e.rotation m.place i a (subst (λ (z : List (List (List ℕ))). IsRank z e.rotation m.place) same m.rank) x in
            ap (λ (z : List (List (List ℕ))). members_text b n here (drop (m.place + 1) z)) same ∙ ap (λ (z : ℕ). members_text b n here (drop (z + 1) k)) place,
      ))

  pub list-one : (n : ℕ) (t u : List ℕ) (after other : State) → ListStep setting b n s t after → ListStep setting b n s u other → (t ≡ u) × (after ≡ other)
  list-one n t u after other p q = read-one no_more (λ tree e. refl) (IsListing b n) setting.trees b s (λ e at x y c d.
      let l = entry-block setting s b e right at in
      let m = listed here e (tree-of l) (entry-right setting s b e right l at) in c m.list m.place m.are m.rank ∙ sym (d m.list m.place m.are m.rank)) t u after other p q

  pub list-keeps : (n : ℕ) (text : List ℕ) (after : State) → ListStep setting b n s text after → IsState setting after
  list-keeps n text after p = subst (IsState setting) (sym (read-stays no_more (λ tree e. refl) (IsListing b n) setting.trees b s text after p)) right

  -- ---- first and goto

  stand-one : (r : ℕ) → DoesOne (ChangesBlock setting b (Silently (StandsAt r))) s
  stand-one r = change-does (Silently (StandsAt r)) setting b s (λ old new next x y at c d.
      let l = entry-block setting s b old right at in
      silently-one (StandsAt r) here old new next x y (λ m n. at-one here old new next r (tree-of l) (entry-right setting s b old right l at) m n) c d)

  stand-keeps : (r : ℕ) (text : List ℕ) (after : State) → ChangesBlock setting b (Silently (StandsAt r)) s text after → IsState setting after
  stand-keeps r text after c = change-keeps (Silently (StandsAt r)) setting b s text after is right c (λ old new t l at e d. at-right here old new r (tree-of l) e d.0)

  pub first-answers : (text : List ℕ) × (after : State) × FirstStep setting b s text after
  first-answers = ladder-answers (block_ladder setting.trees b s) refl (ChangesBlock setting b (Silently (StandsAt 0))) s (λ none.
      let h = block-entry setting.trees b s none in
      let e = entry-right setting s b h.1.0 right h.0 h.1.1 in
      let m = listed here h.1.0 (tree-of h.0) e in
      let q = at-rank here h.1.0 0 (tree-of h.0) e (let below : 0 < member_count here h.1.0 = omega (arith, m.rank.within, m.counted) in below) in
      (ok_text, changed setting s b q.0, record { old = h.1.0; present = h.1.1; new = q.0; change = (q.1, refl); after_is = refl }))

  pub first-one : (t u : List ℕ) (after other : State) → FirstStep setting b s t after → FirstStep setting b s u other → (t ≡ u) × (after ≡ other)
  first-one t u after other p q = ladder-one (block_ladder setting.trees b s) refl (ChangesBlock setting b (Silently (StandsAt 0))) s (stand-one 0) t u after other p q

  pub first-keeps : (text : List ℕ) (after : State) → FirstStep setting b s text after → IsState setting after
  first-keeps text after (inl p) = subst (IsState setting) (sym p.stays) right
  first-keeps text after (inr p) = stand-keeps 0 text after p.1

  pub rank-rises : (r : ℕ) → rises_above 0 (read_ladder (product_rank_codes r) setting.trees b s) ≡ true
  rank-rises r = entry-rises (product_rank_codes r here) (λ e. refl) (entry_at s.present b)

  -- where no code applies the rank is below the length of the list
  pub rank-facts : (r : ℕ) → first_code (read_ladder (product_rank_codes r) setting.trees b s) ≡ None → (b < length setting.trees) × ((e : Embedding) × (entry_at s.present b ≡ Some e) × (r < member_count here e))
  rank-facts r none =
      let front = none-front (block_ladder setting.trees b s) (of_entry (product_rank_codes r here) (entry_at s.present b)) none in
      let h = block-entry setting.trees b s front in
      let rest : first_code (product_rank_codes r here h.1.0) ≡ None = sym (ap (λ (o : Option Embedding). first_code (of_entry (product_rank_codes r here) o)) h.1.1) ∙ sym (first-behind (block_ladder setting.trees b s) (of_entry (product_rank_codes r here) (entry_at s.present b)) front) ∙ none in
      let one = rung-none CountOver (is_over (member_count here h.1.0)) ((RankOut (member_count here h.1.0), not (nat_lt r (member_count here h.1.0))) ∷ []) rest in
      let two = rung-none (RankOut (member_count here h.1.0)) (not (nat_lt r (member_count here h.1.0))) [] one.1 in
      (h.0, (h.1.0, h.1.1, rank-below r (member_count here h.1.0) two.0))

  pub goto-answers : (r : ℕ) → (text : List ℕ) × (after : State) × GotoByProduct setting b r s text after
  goto-answers r = ladder-answers (read_ladder (product_rank_codes r) setting.trees b s) (rank-rises r) (ChangesBlock setting b (Silently (StandsAt r))) s (λ none.
      let h = rank-facts r none in
      let e = entry-right setting s b h.1.0 right h.0 h.1.1 in
      let q = at-rank here h.1.0 r (tree-of h.0) e h.1.2 in
      (ok_text, changed setting s b q.0, record { old = h.1.0; present = h.1.1; new = q.0; change = (q.1, refl); after_is = refl }))

  pub goto-one : (r : ℕ) (t u : List ℕ) (after other : State) → GotoByProduct setting b r s t after → GotoByProduct setting b r s u other → (t ≡ u) × (after ≡ other)
  goto-one r t u after other p q = ladder-one (read_ladder (product_rank_codes r) setting.trees b s) (rank-rises r) (ChangesBlock setting b (Silently (StandsAt r))) s (stand-one r) t u after other p q

  pub goto-keeps : (r : ℕ) (text : List ℕ) (after : State) → GotoByProduct setting b r s text after → IsState setting after
  goto-keeps r text after (inl p) = subst (IsState setting) (sym p.stays) right
  goto-keeps r text after (inr p) = stand-keeps r text after p.1

  -- ---- next

  pub next-answers : (text : List ℕ) × (after : State) × NextStep setting b s text after
  next-answers = ladder-answers (block_ladder setting.trees b s) refl (NextDoes setting b) s (λ none.
      let h = block-entry setting.trees b s none in
      let e = entry-right setting s b h.1.0 right h.0 h.1.1 in
      by h.1.0 h.1.1 (listed here h.1.0 (tree-of h.0) e))
    where
      by : (e : Embedding) → entry_at s.present b ≡ Some e → Listed here e → (text : List ℕ) × (after : State) × NextDoes setting b s text after
      by e p m = elim (cases_lt (m.place + 1) (length m.list)) [
        | inl below ↦
            let new : Embedding = record { rotation = slice_index_or m.list (m.place + 1) []; locks = e.locks } in
            let behind : StandsBehind here e new = record {
              next = λ l k a x.
                  let same = lists-one here e m.list l m.are a in
                  let place : m.place ≡ k = ranks-one here e l e.rotation m.place k a (subst (λ (z : List (List (List ℕ))). IsRank z e.rotation m.place) same m.rank) x in
                  subst (λ (i : ℕ). IsRank l (slice_index_or m.list (m.place + 1) []) (i + 1)) place
                  (subst (λ (z : List (List (List ℕ))). IsRank z (slice_index_or m.list (m.place + 1) []) (m.place + 1)) same (record { within = below; is_there = refl }));
              locks = refl;
            } in
            (ok_text, changed setting s b new, inr (record { old = e; present = p; new = new; change = (behind, refl); after_is = refl }))
        | inr n ↦
            let last : StandsLast here e = λ l k a x.
            let same = lists-one here e m.list l m.are a in
            let place : m.place ≡ k = ranks-one here e l e.rotation m.place k a (subst (λ (z : List (List (List ℕ))). IsRank z e.rotation m.place) same m.rank) x in
            omega (arith, n, m.rank.within, place, ap (λ (z : List (List (List ℕ))). length z) same) in
            (end_text, s, inl (record { embedding = e; present = p; answer = (last, refl); stays = refl }))
      ]

  -- the last member has none behind it
  next-apart : (old new e : Embedding) → entry_at s.present b ≡ Some old → entry_at s.present b ≡ Some e → StandsBehind here old new → StandsLast here e → ⊥
  next-apart old new e p q behind last =
      let l = entry-block setting s b old right p in
      let m = listed here old (tree-of l) (entry-right setting s b old right l p) in
      let same = entry-same (entry_at s.present b) old e p q in
      let long = (subst (λ (x : Embedding). StandsLast here x) (sym same) last) m.list m.place m.are m.rank in
      omega (arith, long, (behind.next m.list m.place m.are m.rank).within)

  behind-one : (old new other : Embedding) → entry_at s.present b ≡ Some old → StandsBehind here old new → StandsBehind here old other → new ≡ other
  behind-one old new other p c d =
      let l = entry-block setting s b old right p in
      let m = listed here old (tree-of l) (entry-right setting s b old right l p) in
      embedding-same new other (sym (c.next m.list m.place m.are m.rank).is_there ∙ (d.next m.list m.place m.are m.rank).is_there) (c.locks ∙ sym d.locks)

  next-does : DoesOne (NextDoes setting b) s
  next-does t u after other (inl p) (inl q) = (p.answer.1 ∙ sym q.answer.1, p.stays ∙ sym q.stays)
  next-does t u after other (inl p) (inr q) = absurd (next-apart q.old q.new p.embedding q.present p.present q.change.0 p.answer.0)
  next-does t u after other (inr p) (inl q) = absurd (next-apart p.old p.new q.embedding p.present q.present p.change.0 q.answer.0)
  next-does t u after other (inr p) (inr q) = change-does (Silently StandsBehind) setting b s (λ old new next x y at c d.
      silently-one StandsBehind here old new next x y (λ m n. behind-one old new next at m n) c d) t u after other p q

  pub next-one : (t u : List ℕ) (after other : State) → NextStep setting b s t after → NextStep setting b s u other → (t ≡ u) × (after ≡ other)
  next-one t u after other p q = ladder-one (block_ladder setting.trees b s) refl (NextDoes setting b) s next-does t u after other p q

  pub next-keeps : (text : List ℕ) (after : State) → NextStep setting b s text after → IsState setting after
  next-keeps text after (inl p) = subst (IsState setting) (sym p.stays) right
  next-keeps text after (inr (n, inl p)) = subst (IsState setting) (sym p.stays) right
  next-keeps text after (inr (n, inr p)) = change-keeps (Silently StandsBehind) setting b s text after is right p (λ old new t l at e d.
      let m = listed here old (tree-of l) e in member-right here old new m.list (m.place + 1) e m.are (d.0.next m.list m.place m.are m.rank) d.0.locks)
