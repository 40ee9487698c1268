-- The lists of all nodes, from the rotation systems of their skeletons.
use Rattle.std.proofs.Common.{◌≡◌, ℕ, zero, suc, ◌+◌, ◌<◌, inl, inr, List, [], ◌∷◌, ◌++◌, length, map, slice_index_or, length-append, refl, sym, ap, ap₂, ◌∙◌, subst, arith}
use Rattle.std.proofs.lemmas.Bool.{cases_eq}
use Rattle.std.proofs.lemmas.List.{map-append}
use Rattle.std.proofs.Math.ListN.{get_or-append}
use Rattle.std.proofs.Math.Seq.{get_or-append_seam}
use Rattle.multigraph.specs.Graph.{numbers_below}
use Rattle.multigraph.proofs.Below.{numbers_below-more}
use Rattle.pair_split.specs.Tutte.{Node}
use Rattle.skeletons.specs.Families.{system_at, AreSkeletonSystems}
use Rattle.skel_compose.specs.Followers.{row_at, IsRow, IsTable, IsTableOf}
use Rattle.skel_embed.specs.First.{choice_in}
use Rattle.skel_embed.specs.Flat.{AreFlat}
use Rattle.skel_embed.specs.Members.{AreRows, choices_below, HaveFirst, IsAppended}
use Rattle.skel_embed.specs.Selected.{HasChoice, HasChoiceIn, HaveChoices}
use Rattle.skel_embed.proofs.First.{members-more}
use Rattle.skel_embed.proofs.Flat.{flat-push}

-- a member and a list more
module _ (nodes : List Node) (n : ℕ) (family : List (List (List ℕ))) (s : List (List ℕ)) (long : length family ≡ n) where
  pub system-old : (k : ℕ) → k < n → system_at (family ++ s ∷ []) k ≡ system_at family k
  system-old k l = get_or-append family (s ∷ []) [] k (omega (arith, l, long))

  pub system-new : system_at (family ++ s ∷ []) n ≡ s
  system-new = ap (system_at (family ++ s ∷ [])) (sym long) ∙ get_or-append_seam family s [] []

  pub rows-more : (table new : List (List ℕ)) (row : List ℕ) → AreRows nodes n family table → IsRow nodes n s row → new ≡ table ++ row ∷ [] → AreRows nodes (n + 1) (family ++ s ∷ []) new
  rows-more table new row a r e = subst (AreRows nodes (n + 1) (family ++ s ∷ [])) (sym e) (record {
    each = length-append table (row ∷ []) ∙ ap (λ m. m + 1) a.each;
    rows = λ k l. elim (cases_eq k n) [
      | inl q ↦
          let at : row_at (table ++ row ∷ []) n ≡ row = ap (row_at (table ++ row ∷ [])) (sym a.each) ∙ get_or-append_seam table row [] [] in
          subst (λ j. IsRow nodes j (system_at (family ++ s ∷ []) j) (row_at (table ++ row ∷ []) j)) (sym q)
          (subst (IsRow nodes n (system_at (family ++ s ∷ []) n)) (sym at) (subst (λ (z : List (List ℕ)). IsRow nodes n z row) (sym system-new) r))
      | inr d ↦
          let m : k < n = omega (arith, l, d) in
          let at : row_at (table ++ row ∷ []) k ≡ row_at table k = get_or-append table (row ∷ []) [] k (omega (arith, m, a.each)) in
          subst (IsRow nodes k (system_at (family ++ s ∷ []) k)) (sym at) (subst (λ (z : List (List ℕ)). IsRow nodes k z (row_at table k)) (sym (system-old k m)) (a.rows k m))
    ];
  })

-- lists for equal numbers
same-below : (f h : ℕ → List ℕ) (m : ℕ) → ((k : ℕ) → k < m → h k ≡ f k) → map h (numbers_below m) ≡ map f (numbers_below m)
same-below f h zero e = refl
same-below f h (suc m) e = map-append h (numbers_below m) (m ∷ []) ∙ ap₂ (λ (x : List (List ℕ)) (y : List ℕ). x ++ y ∷ []) (same-below f h m (λ k l. e k (omega (arith, l)))) (e m (omega arith)) ∙ sym (map-append f (numbers_below m) (m ∷ []))

-- so are the choices
pub choices-grow : (nodes : List Node) (n : ℕ) (family : List (List (List ℕ))) (s : List (List ℕ)) → length family ≡ n → choices_below nodes (family ++ s ∷ []) (n + 1) ≡ choices_below nodes family n ++ choice_in nodes n s ∷ []
choices-grow nodes n family s long =
    ap (map (λ k. choice_in nodes k (system_at (family ++ s ∷ []) k))) (numbers_below-more n) ∙ map-append (λ k. choice_in nodes k (system_at (family ++ s ∷ []) k)) (numbers_below n) (n ∷ [])
    ∙ ap₂ (λ (x : List (List ℕ)) (y : List ℕ). x ++ y ∷ []) (same-below (λ k. choice_in nodes k (system_at family k)) (λ k. choice_in nodes k (system_at (family ++ s ∷ []) k)) n (λ k l. ap (choice_in nodes k) (system-old nodes n family s long k l))) (ap (choice_in nodes n) (system-new nodes n family s long))

-- no node
pub have-none : (nodes : List Node) (table : List (List ℕ)) (keys ends : List ℕ) → table ≡ [] → keys ≡ [] → ends ≡ [] → HaveFirst nodes 0 table keys ends
have-none nodes table keys ends t k e = record {
  family = [];
  members = record { each = refl; members = λ j l. absurd (omega (arith, l)) };
  rows = record { each = ap length t; rows = λ j l. absurd (omega (arith, l)) };
  choices = record { keys_are = k; ends_are = e };
}

-- a node more
pub have-more : (nodes : List Node) (n : ℕ) (table more : List (List ℕ)) (keys new ends longer row : List ℕ) → HaveFirst nodes n table keys ends → IsAppended nodes n row keys new → more ≡ table ++ row ∷ [] → longer ≡ ends ++ length new ∷ [] → HaveFirst nodes (n + 1) more new longer
have-more nodes n table more keys new ends longer row h a t e =
    let s = a.1.system in
    record {
      family = h.family ++ s ∷ [];
      members = members-more nodes n h.family (h.family ++ s ∷ []) s refl h.members a.1.member;
      rows = rows-more nodes n h.family s h.members.each table more row h.rows a.1.row_is t;
      choices = subst (λ (z : List ℕ). AreFlat (choices_below nodes (h.family ++ s ∷ []) (n + 1)) z longer) (sym a.2)
          (subst (λ (z : List ℕ). AreFlat (choices_below nodes (h.family ++ s ∷ []) (n + 1)) (keys ++ a.0) z) (sym (e ∙ ap (λ (z : List ℕ). ends ++ length z ∷ []) a.2))
          (subst (λ (z : List (List ℕ)). AreFlat z (keys ++ a.0) (ends ++ length (keys ++ a.0) ∷ [])) (sym (choices-grow nodes n h.family s h.members.each ∙ ap (λ (z : List ℕ). choices_below nodes h.family n ++ z ∷ []) (sym a.1.keys_are)))
          (flat-push (choices_below nodes h.family n) keys ends a.0 h.choices)));
    }

-- the lists of all nodes are a table
module _ (nodes : List Node) (family : List (List (List ℕ))) (table : List (List ℕ)) (a : AreRows nodes (length nodes) family table) where
  pub table-made : IsTable nodes table
  table-made = record { each = a.each; places = λ k l. (a.rows k l).places }

  pub table-of : AreSkeletonSystems nodes family → IsTableOf nodes table family
  table-of s = record { systems = s; followers = λ k i v end. (a.rows k end.is_node).follows i v end.is_item end.end }

-- a list of a table
pub table-row : (nodes : List Node) (table : List (List ℕ)) (family : List (List (List ℕ))) → IsTable nodes table → IsTableOf nodes table family → (k : ℕ) → k < length nodes → IsRow nodes k (system_at family k) (row_at table k)
table-row nodes table family t m k l = record { places = t.places k l; follows = λ i v d end. m.followers k i v (record { is_node = l; is_item = d; end = end }) }

-- no node, with other choices
pub chosen-none : (nodes : List Node) (lists table : List (List ℕ)) → table ≡ [] → HaveChoices nodes lists 0 table
chosen-none nodes lists table t = record {
  family = [];
  choices = record { each = refl; chosen = λ j l. absurd (omega (arith, l)) };
  rows = record { each = ap length t; rows = λ j l. absurd (omega (arith, l)) };
}

-- a node more
pub chosen-more : (nodes : List Node) (lists : List (List ℕ)) (n : ℕ) (table new : List (List ℕ)) (row : List ℕ) → HaveChoices nodes lists n table → HasChoiceIn nodes n (slice_index_or lists n []) row → new ≡ table ++ row ∷ [] → HaveChoices nodes lists (n + 1) new
chosen-more nodes lists n table new row h c e = let s = c.system in record {
  family = h.family ++ s ∷ [];
  choices = record {
    each = length-append h.family (s ∷ []) ∙ ap (λ m. m + 1) h.choices.each;
    chosen = λ k l. elim (cases_eq k n) [
      | inl q ↦ subst (λ j. HasChoice nodes j (slice_index_or lists j []) (system_at (h.family ++ s ∷ []) j)) (sym q) (subst (HasChoice nodes n (slice_index_or lists n [])) (sym (system-new nodes n h.family s h.choices.each)) c.choice)
      | inr d ↦ let m : k < n = omega (arith, l, d) in subst (HasChoice nodes k (slice_index_or lists k [])) (sym (system-old nodes n h.family s h.choices.each k m)) (h.choices.chosen k m)
    ];
  };
  rows = rows-more nodes n h.family s h.choices.each table new row h.rows c.row_is e;
}
