-- A skeleton with its edges in another order, and the ends of each in either order, is of the same kind.
use Rattle.std.proofs.Common.{◌≡◌, ◌≢◌, ℕ, ◌<◌, ◌≤◌, ◌==◌, ◌&&◌, ◌||◌, inl, inr, Bool, true, not, List, [], ◌∷◌, length, filter, slice_index_or, refl, sym, ap₂, ◌∙◌, subst, arith}
use Rattle.std.proofs.lemmas.Bool.{cases_Bool, cases_eq}
use Rattle.std.proofs.lemmas.List.{get_or_default}
use Rattle.permutations.specs.Members.{is_member}
use Rattle.permutations.specs.Relation.{connected}
use Rattle.permutations.proofs.Relation.{same-tests, connected-symmetric, connected-links, connected-subset}
use Rattle.graph_theory.specs.Triconnected.{avoids}
use Rattle.pair_split.specs.Skeleton.{is_end_of, SameEnds, is_vertex, degree, HasVertices, StaysConnectedWithout, HasPoles, IsOfKind, IsSkeleton}
use Rattle.pair_split.specs.declared.components.Kind.{Kind}
use Rattle.pair_split.specs.declared.components.Kind.TheVariants.{S, P, R, B}
use Rattle.spqr_tree.proofs.MergeCounts.{number-from, number-some, number-two, number-once, number-all}
use Rattle.spqr_tree.proofs.JoinedBonds.{same_ends, same_ends-from, same_ends-true, same-sym, same-trans}
use Rattle.spqr_tree.proofs.JoinedPolygons.{vertex-degree, degree-vertex}

-- the test does not look at the order of the ends
abbrev pub EndsEitherWay : (ℕ × ℕ → Bool) → Type 0
EndsEitherWay t = (a b : ℕ) → t (a, b) ≡ t (b, a)

-- as many edges pass each test that does not look at the order of the ends
abbrev pub AreAlike : List (ℕ × ℕ) → List (ℕ × ℕ) → Type 0
AreAlike skeleton other = (t : ℕ × ℕ → Bool) → EndsEitherWay t → length (filter t other) ≡ length (filter t skeleton)

or-swap : (x y : Bool) → (x || y) ≡ (y || x)
or-swap x y = grind (arith, cases_Bool x, cases_Bool y)

and-swap : (x y : Bool) → (x && y) ≡ (y && x)
and-swap x y = grind (arith, cases_Bool x, cases_Bool y)

-- tests that do not look at the order
end-either : (v : ℕ) → EndsEitherWay (is_end_of v)
end-either v a b = or-swap (a == v) (b == v)

same-either : (p : ℕ × ℕ) → EndsEitherWay (same_ends p)
same-either p a b = or-swap ((p.0 == a) && (p.1 == b)) ((p.0 == b) && (p.1 == a))

avoids-either : (removed : List ℕ) → EndsEitherWay (avoids removed)
avoids-either removed a b = and-swap (not (is_member a removed)) (not (is_member b removed))

-- one test after the other
number-filter : {X : Type 0} (p t : X → Bool) (xs : List X) → length (filter t (filter p xs)) ≡ length (filter (λ x. p x && t x) xs)
number-filter p t [] = refl
number-filter p t (x ∷ xs) = elim (cases_Bool (p x)) [
  | inl h ↦ elim (cases_Bool (t x)) [ inl k ↦ rw (h, k) (omega (arith, number-filter p t xs)) | inr k ↦ rw (h, k) (number-filter p t xs) ]
  | inr h ↦ rw h (number-filter p t xs)
]

-- so do those that pass such a test
alike-filter : (p : ℕ × ℕ → Bool) (skeleton other : List (ℕ × ℕ)) → EndsEitherWay p → AreAlike skeleton other → AreAlike (filter p skeleton) (filter p other)
alike-filter p skeleton other e a t h = number-filter p t other ∙ a (λ x. p x && t x) (λ x y. ap₂ (λ b c. b && c) (e x y) (h x y)) ∙ sym (number-filter p t skeleton)

alike-back : (skeleton other : List (ℕ × ℕ)) → AreAlike skeleton other → AreAlike other skeleton
alike-back skeleton other a t h = sym (a t h)

module _ (skeleton other : List (ℕ × ℕ)) (a : AreAlike skeleton other) where
  -- an edge of the other is one of the skeleton
  edge-from : (i : ℕ) → i < length other → (j : ℕ) × (j < length skeleton) × SameEnds (slice_index_or other i (0, 0)) (slice_index_or skeleton j (0, 0))
  edge-from i l =
      let x = slice_index_or other i (0, 0) in
      let w = number-some (0, 0) (same_ends x) skeleton (subst (λ z. 1 ≤ z) (a (same_ends x) (same-either x)) (number-from (0, 0) (same_ends x) other i l (same_ends-from x x (inl (refl, refl))))) in
      (w.0, w.1, same_ends-true x (slice_index_or skeleton w.0 (0, 0)) w.2)

  -- it has the same degrees, vertices and number of edges
  alike-degree : (v : ℕ) → degree other v ≡ degree skeleton v
  alike-degree v = a (is_end_of v) (end-either v)

  alike-vertex : (v : ℕ) → is_vertex other v ≡ is_vertex skeleton v
  alike-vertex v = same-tests (is_vertex other v) (is_vertex skeleton v)
      (λ h. degree-vertex skeleton v (subst (λ z. 1 ≤ z) (alike-degree v) (vertex-degree other v h)))
      (λ h. degree-vertex other v (subst (λ z. 1 ≤ z) (sym (alike-degree v)) (vertex-degree skeleton v h)))

  alike-length : length other ≡ length skeleton
  alike-length = sym (all other) ∙ a (λ x. true) (λ x y. refl) ∙ all skeleton
    where
      all : (l : List (ℕ × ℕ)) → length (filter (λ x. true) l) ≡ length l
      all l = number-all (0, 0) (λ x. true) l (λ i m. refl)

  -- what the other connects, the skeleton connects
  alike-connected : (u v : ℕ) → connected other u v ≡ true → connected skeleton u v ≡ true
  alike-connected u v h = connected-subset other skeleton (λ i d l. subst (λ (x : ℕ × ℕ). connected skeleton x.0 x.1 ≡ true) (get_or_default other i (0, 0) d l) (at i l)) u v h
    where
      joins : (x y : ℕ × ℕ) → SameEnds x y → connected skeleton y.0 y.1 ≡ true → connected skeleton x.0 x.1 ≡ true
      joins x y (inl e) c = subst (λ z. connected skeleton z x.1 ≡ true) (sym e.0) (subst (λ z. connected skeleton y.0 z ≡ true) (sym e.1) c)
      joins x y (inr e) c = subst (λ z. connected skeleton z x.1 ≡ true) (sym e.0) (subst (λ z. connected skeleton y.1 z ≡ true) (sym e.1) (connected-symmetric skeleton y.0 y.1 c))

      at : (i : ℕ) → i < length other → connected skeleton (slice_index_or other i (0, 0)).0 (slice_index_or other i (0, 0)).1 ≡ true
      at i l = let w = edge-from i l in joins (slice_index_or other i (0, 0)) (slice_index_or skeleton w.0 (0, 0)) w.2 (connected-links skeleton w.0 (0, 0) w.1)

module _ (skeleton other : List (ℕ × ℕ)) (a : AreAlike skeleton other) where
  alike-vertices : (n : ℕ) → HasVertices n skeleton → HasVertices n other
  alike-vertices n h = record { vertices = h.vertices; enough = h.enough; distinct = h.distinct; are_vertices = λ i d l. alike-vertex skeleton other a (slice_index_or h.vertices i d) ∙ h.are_vertices i d l }

  alike-poles : HasPoles skeleton → HasPoles other
  alike-poles h = record {
    poles = h.poles;
    differ = h.differ;
    joined = λ i d l. let w = edge-from skeleton other a i l in
        subst (SameEnds h.poles) (get_or_default other i (0, 0) d l) (same-trans h.poles (slice_index_or skeleton w.0 (0, 0)) (slice_index_or other i (0, 0)) (h.joined w.0 (0, 0) w.1) (same-sym (slice_index_or other i (0, 0)) (slice_index_or skeleton w.0 (0, 0)) w.2));
  }

  alike-stays : (removed : List ℕ) → StaysConnectedWithout skeleton removed → StaysConnectedWithout other removed
  alike-stays removed h u v tu tv ru rv = alike-connected (filter (avoids removed) other) (filter (avoids removed) skeleton)
      (alike-back (filter (avoids removed) skeleton) (filter (avoids removed) other) (alike-filter (avoids removed) skeleton other (avoids-either removed) a)) u v
      (h u v (sym (alike-vertex skeleton other a u) ∙ tu) (sym (alike-vertex skeleton other a v) ∙ tv) ru rv)

  alike-simple : ((i j : ℕ) → i < length skeleton → j < length skeleton → SameEnds (slice_index_or skeleton i (0, 0)) (slice_index_or skeleton j (0, 0)) → i ≡ j)
      → (i j : ℕ) → i < length other → j < length other → SameEnds (slice_index_or other i (0, 0)) (slice_index_or other j (0, 0)) → i ≡ j
  alike-simple h i j l m s = elim (cases_eq i j) [
    | inl e ↦ e
    | inr n ↦ let x = slice_index_or other i (0, 0) in absurd (omega (
      arith,
      number-two (0, 0) (same_ends x) other i j l m n (same_ends-from x x (inl (refl, refl))) (same_ends-from x (slice_index_or other j (0, 0)) s),
      a (same_ends x) (same-either x),
      number-once (0, 0) (same_ends x) skeleton (λ p q lp lq tp tq. h p q lp lq (same-trans (slice_index_or skeleton p (0, 0)) x (slice_index_or skeleton q (0, 0))
          (same-sym x (slice_index_or skeleton p (0, 0)) (same_ends-true x (slice_index_or skeleton p (0, 0)) tp)) (same_ends-true x (slice_index_or skeleton q (0, 0)) tq))),
    ))
  ]

  alike-kind : (kind : Kind) → IsOfKind kind skeleton → IsOfKind kind other
  alike-kind S h = record {
    connects = λ u v tu tv. alike-connected other skeleton (alike-back skeleton other a) u v (h.connects u v (sym (alike-vertex skeleton other a u) ∙ tu) (sym (alike-vertex skeleton other a v) ∙ tv));
    degrees = λ v t. alike-degree skeleton other a v ∙ h.degrees v (sym (alike-vertex skeleton other a v) ∙ t);
    three = alike-vertices 3 h.three;
  }
  alike-kind P h = record { two = alike-poles h.two; three = subst (λ z. 3 ≤ z) (sym (alike-length skeleton other a)) h.three }
  alike-kind R h = record { simple = alike-simple h.simple; four = alike-vertices 4 h.four; stays_connected = λ x y. alike-stays (x ∷ y ∷ []) (h.stays_connected x y) }
  alike-kind B h = record { two = alike-poles h.two; some = subst (λ z. 1 ≤ z) (sym (alike-length skeleton other a)) h.some; few = subst (λ z. z ≤ 2) (sym (alike-length skeleton other a)) h.few }

  -- so it is of the same kind
  pub alike-skeleton : (kind : Kind) → IsSkeleton kind skeleton → IsSkeleton kind other
  alike-skeleton kind h = record { of_kind = alike-kind kind h.of_kind; no_loops = λ i d l. subst (λ (x : ℕ × ℕ). x.0 ≢ x.1) (get_or_default other i (0, 0) d l) (loopless i l) }
    where
      apart : (x y : ℕ × ℕ) → SameEnds x y → y.0 ≢ y.1 → x.0 ≢ x.1
      apart x y (inl e) n i = n (sym e.0 ∙ i ∙ e.1)
      apart x y (inr e) n i = n (sym e.1 ∙ sym i ∙ e.0)

      loopless : (i : ℕ) → i < length other → (slice_index_or other i (0, 0)).0 ≢ (slice_index_or other i (0, 0)).1
      loopless i l = let w = edge-from skeleton other a i l in apart (slice_index_or other i (0, 0)) (slice_index_or skeleton w.0 (0, 0)) w.2 (h.no_loops w.0 (0, 0) w.1)
