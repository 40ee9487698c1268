-- Where each node wants what its parent asks for, from the top on, the wanted faces fit together.
use Rattle.std.proofs.Common.{◌≡◌, ◌≢◌, ℕ, ◌+◌, ◌*◌, ◌/◌, ◌<◌, ◌⊎◌, Bool, true, not, List, length, inl, inr, refl, sym, ap, ◌∙◌, subst, arith}
use Rattle.std.specs.Prelude.{Option}
use Rattle.std.proofs.lemmas.Bool.{cases_eq, both_ways}
use Rattle.permutations.specs.Members.{is_distinct, place_of}
use Rattle.permutations.proofs.Places.{place-at}
use Rattle.multigraph.specs.Graph.{Multigraph, edge_count}
use Rattle.dart_maps.specs.Map.{twin}
use Rattle.dart_maps.proofs.Darts.{twin-below, twin-edge, twin-twin}
use Rattle.faces.specs.Euler.{IsPlane}
use Rattle.pair_split.specs.Split.{LinksTo, is_beyond}
use Rattle.pair_split.specs.Tutte.{Node, components, node_at}
use Rattle.pair_split.specs.declared.components.Kind.TheVariants.{P}
use Rattle.pair_split.specs.declared.components.What.TheVariants.{Link}
use Rattle.pair_split.proofs.TreeSides.{beyond-other, beyond-near}
use Rattle.skeletons.specs.Items.{IsBlockTree}
use Rattle.skeletons.specs.Families.{skeleton_graph, system_at, AreSkeletonSystems}
use Rattle.skeletons.proofs.NodeItems.{stands-of, comp-in}
use Rattle.skeleton_planes.proofs.SkeletonDarts.{dart-item}
use Rattle.skeleton_faces.specs.Faces.{IsSkeletonDart, AreAcross}
use Rattle.spqr_tree.specs.Keys.{parent_at, AreOrdered}
use Rattle.long_face.specs.Wanted.{Want, IsPair, AreWanted, is_wanted}
use Rattle.long_face.specs.Settled.{has_want, want_or, want_at, IsSettled, AreSettled}
use Rattle.long_face.proofs.Chosen.{turned-across}

module _ (g : Multigraph) (nodes : List Node) (b : IsBlockTree g nodes) (family : List (List (List ℕ))) (systems : AreSkeletonSystems nodes family) (plane : (k : ℕ) → k < length nodes → IsPlane (skeleton_graph nodes k) (system_at family k))
    (weight : ℕ → ℕ → ℕ) (top len : ℕ) (parents order : List ℕ) (o : AreOrdered (components nodes) top parents order) (once : is_distinct order ≡ true) (wants : List (Option Want)) (s : AreSettled nodes family weight top len parents wants) where
  -- a link, by its darts
  link-of : (k x j e : ℕ) → AreAcross nodes k x j e → LinksTo (components nodes) k j
  link-of k x j e a = (x / 2, stands-of g nodes b.tree k (x / 2) (Link j) (dart-item g nodes b k (a.first.0) x (a.first.1)) a.to)

  -- and the link back
  back-of : (k x j e : ℕ) → AreAcross nodes k x j e → LinksTo (components nodes) j k
  back-of k x j e a = (e / 2, stands-of g nodes b.tree j (e / 2) (Link k) (dart-item g nodes b j (a.second.0) e (a.second.1)) a.from)

  -- the top has no parent
  top-none : (j : ℕ) → LinksTo (components nodes) top j → parent_at parents top ≢ j
  top-none j link e = both_ways (is_beyond (components nodes) top j top) (beyond-near (components nodes) b.tree.split.linked top j link) (o.up top j link e)

  -- no two nodes are parents of each other
  not-both : (k j : ℕ) → LinksTo (components nodes) k j → LinksTo (components nodes) j k → parent_at parents k ≡ j → parent_at parents j ≢ k
  not-both k j link back e f = both_ways (is_beyond (components nodes) k j top)
      (beyond-other (components nodes) b.tree.split.linked k j top link (comp-in g nodes b.tree top s.top_in) ∙ ap not (o.up j k back f)) (o.up k j link e)

  -- what is wanted
  abbrev is_on : ℕ → Bool
  is_on k = has_want (want_at wants k)

  abbrev want : ℕ → Want
  want k = want_or (want_at wants k)

  -- a node other than the top wants the face of the dart of the link to its parent
  at-parent : (k x j e : ℕ) → k ≢ top → is_on k ≡ true → AreAcross nodes k x j e → parent_at parents k ≡ j → x / 2 ≡ (want k).dart / 2
  at-parent k x j e n h a q = let w = (s.each k (a.first.0) n).source h in
      let there : AreAcross nodes j w.0 k w.1 = subst (λ z. AreAcross nodes z w.0 k w.1) q w.2 in
      b.tree.split.linked.once k j (x / 2) (w.1 / 2) (stands-of g nodes b.tree k (x / 2) (Link j) (dart-item g nodes b k (a.first.0) x (a.first.1)) a.to)
      (stands-of g nodes b.tree k (w.1 / 2) (Link j) (dart-item g nodes b k (there.second.0) w.1 (there.second.1)) there.from)
      ∙ sym (ap (λ z. z / 2) w.4 ∙ twin-edge w.1)

  -- a link by another dart leads to a child
  to-child : (k x j e : ℕ) → AreAcross nodes k x j e → is_on k ≡ true → (k ≡ top) ⊎ (x / 2 ≢ (want k).dart / 2) → parent_at parents k ≢ j
  to-child k x j e a h v q = elim (cases_eq k top) [
    | inl i ↦ top-none j (subst (λ z. LinksTo (components nodes) z j) i (link-of k x j e a)) (subst (λ z. parent_at parents z ≡ j) i q)
    | inr n ↦ elim v [ inl i ↦ n i | inr m ↦ m (at-parent k x j e n h a q) ]
  ]

  below : (k x j e : ℕ) → AreAcross nodes k x j e → is_on k ≡ true → is_wanted nodes family want k x ≡ true → (k ≡ top) ⊎ (x / 2 ≢ (want k).dart / 2) → (is_on j ≡ true) × ((want j).dart ≡ twin e) × (j ≢ top)
  below k x j e a h t v = (found.0, found.1, other)
    where
      up : parent_at parents j ≡ k
      up = o.down k j (link-of k x j e a) (to-child k x j e a h v)

      other : j ≢ top
      other i = top-none k (subst (λ z. LinksTo (components nodes) z k) i (back-of k x j e a)) (subst (λ z. parent_at parents z ≡ k) i up)

      found : (has_want (want_at wants j) ≡ true) × ((want_or (want_at wants j)).dart ≡ twin e)
      found = (subst (λ z. IsSettled nodes family weight z (want_at wants z) j (want_at wants j)) up (s.each j (a.second.0) other)).forced x e a (h, t)

  -- a parent is before its child
  earlier : (p k : ℕ) → p < length nodes → LinksTo (components nodes) p k → parent_at parents p ≢ k → place_of order p < place_of order k
  earlier p k l link n =
      let w = o.all p (comp-in g nodes b.tree p l) in
      let v = o.after w.0 k w.1 (subst (λ z. LinksTo (components nodes) z k) (sym w.2) link) (subst (λ z. parent_at parents z ≢ k) (sym w.2) n) in
      let ep : place_of order p ≡ w.0 = subst (λ z. place_of order z ≡ w.0) w.2 (place-at order w.0 once w.1) in
      let ek : place_of order k ≡ v.0 = subst (λ z. place_of order z ≡ v.0) v.3 (place-at order v.0 once v.2) in
      omega (arith, ep, ek, v.1)

  -- the wanted faces
  pub are-wanted : AreWanted nodes family weight top len (λ k. has_want (want_at wants k)) (λ k. want_or (want_at wants k)) (place_of order)
  are-wanted = record {
    top_on = (s.top_in, s.top_on);
    darts = λ k l h. elim (cases_eq k top) [
      | inl i ↦ subst (λ z. IsSkeletonDart nodes z (want z).dart) (sym i) s.top_dart
      | inr n ↦ let w = (s.each k l n).source h in (l, subst (λ z. z < 2 * edge_count (skeleton_graph nodes k)) (sym w.4) (twin-below (edge_count (skeleton_graph nodes k)) w.1 (w.2.second.1)))
    ];
    pairs = λ k l h e. elim (cases_eq k top) [
      | inl i ↦ subst (λ z. (node_at nodes z).kind ≡ P → IsPair (length (node_at nodes z).items) (want z)) (sym i) s.top_best.pairs e
      | inr n ↦ let w = (s.each k l n).source h in w.5.pairs e
    ];
    at_top = s.top_best.weighs;
    down = below;
    up = λ k l h n. let w = (s.each k l n).source h in
        let p = parent_at parents k in
        let link = link-of p w.0 k w.1 w.2 in
        let back = back-of p w.0 k w.1 w.2 in (
          p,
          twin w.0,
          subst (λ z. AreAcross nodes k z p (twin w.0)) (sym w.4) (turned-across g nodes b family systems plane p w.0 k w.1 w.2),
          w.3.0,
          subst (λ z. is_wanted nodes family want p z ≡ true) (sym (twin-twin w.0)) w.3.1,
          earlier p k (w.2.first.0) link (not-both k p back link refl),
          w.5.weighs ∙ ap (λ z. weight k ((want k).dart / 2) + weight p z) (sym (twin-edge w.0)),
        );
  }
