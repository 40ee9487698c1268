-- In a plane rotation system of a block the group of an item of a polygon or of a triconnected component crosses no other
-- edges at an end of the item.
use Rattle.std.proofs.Common.{◌≡◌, ◌≢◌, ℕ, ◌<◌, ◌||◌, ◌==◌, inl, inr, Bool, true, false, not, List, [], ◌∷◌, length, filter, refl, sym, ◌∙◌, subst, Contains}
use Rattle.std.proofs.lemmas.Bool.{cases_Bool, both_ways, and_parts, and_from, or_cases, or_left, or_right, eq-eqb, eqb-true, not-true, not_from_false, false_from_ne_true}
use Rattle.std.proofs.lemmas.List.{get_or_default}
use Rattle.permutations.specs.Members.{is_member}
use Rattle.permutations.specs.Cyclic.{FollowsAround}
use Rattle.permutations.specs.Relation.{connected}
use Rattle.permutations.proofs.Members.{member-head, member-tail, no_member-head, no_member-tail}
use Rattle.permutations.proofs.CyclicOrder.{around-turned}
use Rattle.permutations.proofs.Relation.{connected-symmetric, connected-transitive, connected-equivalence, connected-least_containing}
use Rattle.multigraph.specs.Graph.{Multigraph, edge_count, is_end, other_end, IsGraph}
use Rattle.multigraph.proofs.OtherEnd.{other_end-is_end}
use Rattle.graph_theory.specs.Block.{IsOneBlock}
use Rattle.graph_theory.specs.Triconnected.{avoids}
use Rattle.graph_theory.proofs.Ends.{other-differs}
use Rattle.rotations.specs.Rotation.{order_at, IsRotationSystem}
use Rattle.faces.specs.Euler.{IsPlane}
use Rattle.pair_split.specs.Skeleton.{is_end_of, is_vertex, IsOfKind}
use Rattle.pair_split.specs.Split.{component_at, items_of, item_at, piece_ends, skeleton, IsSplit}
use Rattle.pair_split.specs.declared.components.Comp.{Comp}
use Rattle.pair_split.specs.declared.components.Kind.TheVariants.{P, B}
use Rattle.pair_split.proofs.Elements.{filter-contains}
use Rattle.pair_split.proofs.Groups.{group-some}
use Rattle.graph_theory.specs.Joined.{ends_where, joined_where, avoiding}
use Rattle.graph_theory.proofs.Joined.{joined-more}
use Rattle.skeleton_runs.proofs.Items.{ends-two, in_item, skeleton-at, skeleton-in, in-skeleton, item-vertex, item-ends_differ, item-at, item-meet, item-reach, item-joined}
use Rattle.skeleton_runs.proofs.Sturdy.{at, sturdy-simple, sturdy-linked}
use Rattle.skeleton_runs.proofs.EdgesInOrder.{met-edge, met-end}
use Rattle.skeleton_runs.proofs.Cut.{inside-both}

-- the other end of a pair with the end u
pub record OtherOf (ends : ℕ × ℕ) (u : ℕ) : Type 0 where
  pub other : ℕ
  pub is_end : is_end_of other ends ≡ true
  pub differs : u ≢ other

-- there is one where the two ends differ
pub other-of : (ends : ℕ × ℕ) (u : ℕ) → ends.0 ≢ ends.1 → is_end_of u ends ≡ true → OtherOf ends u
other-of ends u n h = elim (or_cases (ends.0 == u) (ends.1 == u) h) [
  | inl a ↦ record { other = ends.1; is_end = or_right (ends.0 == ends.1) (ends.1 == ends.1) (eq-eqb ends.1 ends.1 refl); differs = λ e. n (eqb-true ends.0 u a ∙ e) }
  | inr a ↦ record { other = ends.0; is_end = or_left (ends.0 == ends.0) (ends.1 == ends.0) (eq-eqb ends.0 ends.0 refl); differs = λ e. n (sym e ∙ sym (eqb-true ends.1 u a)) }
]

-- a pair that avoids two numbers has neither as an end
avoids-ends : (u v : ℕ) (link : ℕ × ℕ) → avoids (u ∷ v ∷ []) link ≡ true → (is_end_of u link ≡ false) × (is_end_of v link ≡ false)
avoids-ends u v link h = (off u (away link.0 parts.0) (away link.1 parts.1), off v (behind link.0 parts.0) (behind link.1 parts.1))
  where
    parts : (is_member link.0 (u ∷ v ∷ []) ≡ false) × (is_member link.1 (u ∷ v ∷ []) ≡ false)
    parts = let w = and_parts (not (is_member link.0 (u ∷ v ∷ []))) (not (is_member link.1 (u ∷ v ∷ []))) h in (not-true (is_member link.0 (u ∷ v ∷ [])) w.0, not-true (is_member link.1 (u ∷ v ∷ [])) w.1)

    away : (x : ℕ) → is_member x (u ∷ v ∷ []) ≡ false → u ≢ x
    away x m = no_member-head x u (v ∷ []) m

    behind : (x : ℕ) → is_member x (u ∷ v ∷ []) ≡ false → v ≢ x
    behind x m = no_member-head x v [] (no_member-tail x u (v ∷ []) m)

    off : (w : ℕ) → w ≢ link.0 → w ≢ link.1 → is_end_of w link ≡ false
    off w n m = false_from_ne_true (is_end_of w link) (λ t. elim (or_cases (link.0 == w) (link.1 == w) t) [
      | inl a ↦ n (sym (eqb-true link.0 w a))
      | inr a ↦ m (sym (eqb-true link.1 w a))
    ])

module _ (g : Multigraph) (comps : List Comp) (s : IsSplit g comps) (ok : IsGraph g) (block : IsOneBlock g) (k i u v : ℕ) (k_in : k < length comps) (i_in : i < length (items_of comps k))
    (not_bond : (component_at comps k).kind ≢ P) (not_small : (component_at comps k).kind ≢ B)
    (differ : u ≢ v) (first : is_end_of u (piece_ends (item_at comps k i)) ≡ true) (second : is_end_of v (piece_ends (item_at comps k i)) ≡ true) where
  -- whether an edge is in the group
  abbrev inside : ℕ → Bool
  inside e = in_item g comps s k i e

  -- the group and those of the other edges that have not the end v
  abbrev keep : ℕ → Bool
  keep e = in_item g comps s k i e || not (is_end g v e)

  u-vertex : is_vertex (skeleton comps k) u ≡ true
  u-vertex = item-vertex g comps s k i u i_in first

  v-vertex : is_vertex (skeleton comps k) v ≡ true
  v-vertex = item-vertex g comps s k i v i_in second

  of_kind : IsOfKind (component_at comps k).kind (skeleton comps k)
  of_kind = (s.of_kind.kinds k k_in).of_kind

  no_loop : (j : ℕ) → j < length (items_of comps k) → (item_at comps k j).a ≢ (item_at comps k j).b
  no_loop j l = item-ends_differ g comps s k j k_in l

  -- an end of an item, in the skeleton
  there : (j w : ℕ) → j < length (items_of comps k) → is_end_of w (piece_ends (item_at comps k j)) ≡ true → is_end_of w (at (skeleton comps k) j) ≡ true
  there j w l h = subst (λ z. is_end_of w z ≡ true) (sym (skeleton-at g comps s k j l)) h

  place : (j : ℕ) → j < length (items_of comps k) → j < length (skeleton comps k)
  place j l = skeleton-in g comps s k j l

  -- the group meets the others that are kept in u alone
  apart : (w e f : ℕ) → w ≢ u → e < edge_count g → f < edge_count g → is_end g w e ≡ true → is_end g w f ≡ true → keep e ≡ true → keep f ≡ true → inside e ≡ true → inside f ≡ true
  apart w e f n le lf he hf ke kf me = elim (cases_Bool (inside f)) [
    | inl y ↦ y
    | inr y ↦ elim (ends-two (piece_ends (item_at comps k i)) u v w differ first second (item-meet g comps s k i e f w k_in i_in le lf he hf me y)) [
      | inl q ↦ absurd (n q)
      | inr q ↦ elim (or_cases (inside f) (not (is_end g v f)) kf) [
        | inl z ↦ z
        | inr z ↦ absurd (both_ways (is_end g v f) (not-true (is_end g v f) z) (subst (λ x. is_end g x f ≡ true) q hf))
      ]
    ]
  ]

  -- the item of another edge at u
  record Beside (e : ℕ) : Type 0 where
    item : ℕ
    item_in : item < length (items_of comps k)
    in_group : in_item g comps s k item e ≡ true
    another : i ≢ item
    at_u : is_end_of u (piece_ends (item_at comps k item)) ≡ true
    off_v : is_end_of v (piece_ends (item_at comps k item)) ≡ false

  beside : (e : ℕ) → e < edge_count g → is_end g u e ≡ true → inside e ≡ false → Beside e
  beside e l h n = record {
    item = j.0;
    item_in = j.1;
    in_group = j.2;
    another = apart_from;
    at_u = here;
    off_v = false_from_ne_true (is_end_of v (piece_ends (item_at comps k j.0))) (λ t. both_ways (is_end_of v (at (skeleton comps k) j.0))
        (sturdy-simple (component_at comps k).kind (skeleton comps k) not_bond not_small of_kind i j.0 u v (place i i_in) (place j.0 j.1) apart_from differ (there i u i_in first) (there i v i_in second) (there j.0 u j.1 here))
        (there j.0 v j.1 t));
  }
    where
      j : (j : ℕ) × (j < length (items_of comps k)) × (in_item g comps s k j e ≡ true)
      j = group-some g comps s k e k_in l

      apart_from : i ≢ j.0
      apart_from q = both_ways (inside e) n (subst (λ z. in_item g comps s k z e ≡ true) (sym q) j.2)

      here : is_end_of u (piece_ends (item_at comps k j.0)) ≡ true
      here = item-at g comps s k j.0 e u u-vertex j.1 l h j.2

  -- so another edge at u is kept
  keep-other : (e : ℕ) → e < edge_count g → is_end g u e ≡ true → inside e ≡ false → keep e ≡ true
  keep-other e l h n =
      let b : Beside e = beside e l h n in
      or_right (inside e) (not (is_end g v e)) (not_from_false (is_end g v e) (false_from_ne_true (is_end g v e) (λ t.
      both_ways (is_end_of v (piece_ends (item_at comps k b.item))) b.off_v (item-at g comps s k b.item e v v-vertex b.item_in l t b.in_group))))

  keep-all : (e : ℕ) → e < edge_count g → is_end g u e ≡ true → keep e ≡ true
  keep-all e l h = elim (cases_Bool (inside e)) [ inl y ↦ or_left (inside e) (not (is_end g v e)) y | inr y ↦ keep-other e l h y ]

  -- edges of the group at u are joined by the group without u
  inside-joined : (e f : ℕ) → e < edge_count g → f < edge_count g → is_end g u e ≡ true → is_end g u f ≡ true → inside e ≡ true → inside f ≡ true → joined_where g (avoiding g u keep) (other_end g e u) (other_end g f u) ≡ true
  inside-joined e f le lf he hf me mf = connected-transitive (ends_where g (avoiding g u keep)) (other_end g e u) v (other_end g f u) (far e le he me)
      (connected-symmetric (ends_where g (avoiding g u keep)) (other_end g f u) v (far f lf hf mf))
    where
      far : (e : ℕ) → e < edge_count g → is_end g u e ≡ true → inside e ≡ true → joined_where g (avoiding g u keep) (other_end g e u) v ≡ true
      far e l h m = joined-more g (avoiding g u inside) (avoiding g u keep)
          (λ x b t. let w = and_parts (inside x) (not (is_end g u x)) t in and_from (keep x) (not (is_end g u x)) (or_left (inside x) (not (is_end g v x)) w.0) w.1)
          (other_end g e u) v (item-reach g comps s ok block k i u v k_in i_in differ first second e (other_end g e u) l (other_end-is_end g e u) m (other-differs g ok e u l h))

  -- an edge of another item, one that is not at v, is kept
  keep-item : (j x : ℕ) → j < length (items_of comps k) → is_end_of v (piece_ends (item_at comps k j)) ≡ false → x < edge_count g → in_item g comps s k j x ≡ true → keep x ≡ true
  keep-item j x l n b m = or_right (inside x) (not (is_end g v x)) (not_from_false (is_end g v x) (false_from_ne_true (is_end g v x) (λ t.
      both_ways (is_end_of v (piece_ends (item_at comps k j))) n (item-at g comps s k j x v v-vertex l b t m))))

  -- the other end of another edge at u is joined to the other end of its item
  beside-joined : (e : ℕ) → e < edge_count g → is_end g u e ≡ true → (b : Beside e) → (o : OtherOf (piece_ends (item_at comps k b.item)) u) → joined_where g (avoiding g u keep) (other_end g e u) o.other ≡ true
  beside-joined e l h b o = joined-more g (avoiding g u (in_item g comps s k b.item)) (avoiding g u keep)
      (λ x m t. let w = and_parts (in_item g comps s k b.item x) (not (is_end g u x)) t in and_from (keep x) (not (is_end g u x)) (keep-item b.item x b.item_in b.off_v m w.0) w.1)
      (other_end g e u) o.other
      (item-reach g comps s ok block k b.item u o.other k_in b.item_in o.differs b.at_u o.is_end e (other_end g e u) l (other_end-is_end g e u) b.in_group (other-differs g ok e u l h))

  -- what the skeleton connects without u and v the edges join without u
  skeleton-joined : (p q : ℕ) → connected (filter (avoids (u ∷ v ∷ [])) (skeleton comps k)) p q ≡ true → joined_where g (avoiding g u keep) p q ≡ true
  skeleton-joined p q c = connected-least_containing (filter (avoids (u ∷ v ∷ [])) (skeleton comps k)) (joined_where g (avoiding g u keep)) (connected-equivalence (ends_where g (avoiding g u keep))) along p q c
    where
      along : (x y : ℕ) → Contains (filter (avoids (u ∷ v ∷ [])) (skeleton comps k)) (x, y) → joined_where g (avoiding g u keep) x y ≡ true
      along x y d =
          let f = filter-contains (avoids (u ∷ v ∷ [])) (x, y) (skeleton comps k) d in
          by_item f.0 (avoids-ends u v (x, y) f.1)
        where
          by_place : (j : ℕ) → j < length (items_of comps k) → is_end_of u (piece_ends (item_at comps k j)) ≡ false → is_end_of v (piece_ends (item_at comps k j)) ≡ false
              → joined_where g (avoiding g u keep) (item_at comps k j).a (item_at comps k j).b ≡ true
          by_place j l nu nv = joined-more g (in_item g comps s k j) (avoiding g u keep)
              (λ z m t. and_from (keep z) (not (is_end g u z)) (keep-item j z l nv m t)
              (not_from_false (is_end g u z) (false_from_ne_true (is_end g u z) (λ h. both_ways (is_end_of u (piece_ends (item_at comps k j))) nu (item-at g comps s k j z u u-vertex l m h t)))))
              (item_at comps k j).a (item_at comps k j).b
              (item-joined g comps s ok block k j (item_at comps k j).a (item_at comps k j).b k_in l (no_loop j l)
              (or_left ((item_at comps k j).a == (item_at comps k j).a) ((item_at comps k j).b == (item_at comps k j).a) (eq-eqb (item_at comps k j).a (item_at comps k j).a refl))
              (or_right ((item_at comps k j).a == (item_at comps k j).b) ((item_at comps k j).b == (item_at comps k j).b) (eq-eqb (item_at comps k j).b (item_at comps k j).b refl)))

          by_item : Contains (skeleton comps k) (x, y) → (is_end_of u (x, y) ≡ false) × (is_end_of v (x, y) ≡ false) → joined_where g (avoiding g u keep) x y ≡ true
          by_item c n = subst (λ (z : ℕ × ℕ). joined_where g (avoiding g u keep) z.0 z.1 ≡ true) same_ends (by_place c.0 l (subst (λ z. is_end_of u z ≡ false) (sym same_ends) n.0) (subst (λ z. is_end_of v z ≡ false) (sym same_ends) n.1))
            where
              l : c.0 < length (items_of comps k)
              l = in-skeleton g comps s k c.0 c.1

              same_ends : piece_ends (item_at comps k c.0) ≡ (x, y)
              same_ends = sym (skeleton-at g comps s k c.0 l) ∙ get_or_default (skeleton comps k) c.0 (0, 0) (x, y) c.1 ∙ c.2

  -- the other edges at u are joined by kept edges without u
  outside-joined : (e f : ℕ) → e < edge_count g → f < edge_count g → is_end g u e ≡ true → is_end g u f ≡ true → inside e ≡ false → inside f ≡ false → joined_where g (avoiding g u keep) (other_end g e u) (other_end g f u) ≡ true
  outside-joined e f le lf he hf ne nf = joined (beside e le he ne) (beside f lf hf nf)
    where
      joined : Beside e → Beside f → joined_where g (avoiding g u keep) (other_end g e u) (other_end g f u) ≡ true
      joined b c = over (other-of (piece_ends (item_at comps k b.item)) u (no_loop b.item b.item_in) b.at_u) (other-of (piece_ends (item_at comps k c.item)) u (no_loop c.item c.item_in) c.at_u)
        where
          over : OtherOf (piece_ends (item_at comps k b.item)) u → OtherOf (piece_ends (item_at comps k c.item)) u → joined_where g (avoiding g u keep) (other_end g e u) (other_end g f u) ≡ true
          over o w = connected-transitive (ends_where g (avoiding g u keep)) (other_end g e u) o.other (other_end g f u) (beside-joined e le he b o)
              (connected-transitive (ends_where g (avoiding g u keep)) o.other w.other (other_end g f u)
              (skeleton-joined o.other w.other (sturdy-linked (component_at comps k).kind (skeleton comps k) not_bond not_small of_kind i b.item c.item u v o.other w.other
              (place i i_in) (place b.item b.item_in) (place c.item c.item_in) b.another c.another differ (there i u i_in first) (there i v i_in second)
              (there b.item u b.item_in b.at_u) (there b.item o.other b.item_in o.is_end) o.differs (there c.item u c.item_in c.at_u) (there c.item w.other c.item_in w.is_end) w.differs))
              (connected-symmetric (ends_where g (avoiding g u keep)) (other_end g f u) w.other (beside-joined f lf hf c w)))

  -- in a plane rotation system the group and the others don't cross at u
  module _ (r : List (List ℕ)) (system : IsRotationSystem g r) (plane : IsPlane g r) (u_in : u < g.vertex_count) where
    pub group-uncrossed : (a b c d : ℕ) → FollowsAround (order_at r u) (a ∷ b ∷ c ∷ d ∷ []) → in_item g comps s k i a ≡ true → in_item g comps s k i c ≡ true → in_item g comps s k i b ≡ false → in_item g comps s k i d ≡ false → ⊥
    group-uncrossed a b c d o ia ic ib id = both_ways (inside b) ib (sym same ∙ ia)
      where
        edge : (x : ℕ) → is_member x (a ∷ b ∷ c ∷ d ∷ []) ≡ true → x < edge_count g
        edge = met-edge g r ok system u a b c d u_in o

        end : (x : ℕ) → is_member x (a ∷ b ∷ c ∷ d ∷ []) ≡ true → is_end g u x ≡ true
        end = met-end g r ok system u a b c d u_in o

        in-a : is_member a (a ∷ b ∷ c ∷ d ∷ []) ≡ true
        in-a = member-head a (b ∷ c ∷ d ∷ [])

        in-b : is_member b (a ∷ b ∷ c ∷ d ∷ []) ≡ true
        in-b = member-tail b a (b ∷ c ∷ d ∷ []) (member-head b (c ∷ d ∷ []))

        in-c : is_member c (a ∷ b ∷ c ∷ d ∷ []) ≡ true
        in-c = member-tail c a (b ∷ c ∷ d ∷ []) (member-tail c b (c ∷ d ∷ []) (member-head c (d ∷ [])))

        in-d : is_member d (a ∷ b ∷ c ∷ d ∷ []) ≡ true
        in-d = member-tail d a (b ∷ c ∷ d ∷ []) (member-tail d b (c ∷ d ∷ []) (member-tail d c (d ∷ []) (member-head d [])))

        same : inside a ≡ inside b
        same = inside-both g r ok system plane u u_in keep inside apart a b c d o
            (keep-all a (edge a in-a) (end a in-a)) (keep-all b (edge b in-b) (end b in-b)) (keep-all c (edge c in-c) (end c in-c)) (keep-all d (edge d in-d) (end d in-d))
            (inside-joined a c (edge a in-a) (edge c in-c) (end a in-a) (end c in-c) ia ic)
            (outside-joined b d (edge b in-b) (edge d in-d) (end b in-b) (end d in-d) ib id)

    -- begun at one of the others
    pub others-uncrossed : (a b c d : ℕ) → FollowsAround (order_at r u) (a ∷ b ∷ c ∷ d ∷ []) → in_item g comps s k i a ≡ false → in_item g comps s k i c ≡ false → in_item g comps s k i b ≡ true → in_item g comps s k i d ≡ true → ⊥
    others-uncrossed a b c d o ia ic ib id = group-uncrossed b c d a (around-turned (order_at r u) (a ∷ b ∷ c ∷ d ∷ []) (b ∷ c ∷ d ∷ a ∷ []) o (record { front = a ∷ []; back = b ∷ c ∷ d ∷ []; before = refl; after = refl })) ib id ic ia
