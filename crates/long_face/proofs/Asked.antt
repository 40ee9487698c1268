-- The dart of a node that is asked for by what its parent wants.
use Rattle.std.proofs.Common.{◌≡◌, ℕ, ◌+◌, ◌*◌, ◌/◌, ◌%◌, ◌<◌, ◌⊎◌, Bool, true, false, ◌==◌, cond, List, length, inl, inr, refl, sym, ap, ◌∙◌, subst, arith, eqb-true}
use Rattle.std.specs.Prelude.{Option}
use Rattle.std.proofs.lemmas.Bool.{cases_Bool, both_ways, or_cases}
use Rattle.permutations.specs.Relation.{IsEquivalence}
use Rattle.permutations.proofs.Orbits.{orbit-equivalence}
use Rattle.multigraph.specs.Graph.{Multigraph, edge_count}
use Rattle.dart_maps.specs.Map.{twin, face}
use Rattle.dart_maps.proofs.Darts.{twin-even, twin-twin}
use Rattle.faces.specs.Euler.{IsPlane}
use Rattle.faces.specs.Maps.{dart_after}
use Rattle.pair_split.specs.Tutte.{Node, node_at, node_item}
use Rattle.pair_split.specs.declared.components.Kind.{Kind}
use Rattle.pair_split.specs.declared.components.Kind.TheVariants.{S, P, R, B}
use Rattle.pair_split.specs.declared.components.What.TheVariants.{Link}
use Rattle.skeletons.specs.Items.{IsBlockTree}
use Rattle.skeletons.specs.Families.{skeleton_graph, system_at, AreSkeletonSystems}
use Rattle.skeletons.proofs.NodeItems.{stands-of}
use Rattle.skeleton_planes.proofs.SkeletonDarts.{dart-item, item-dart}
use Rattle.skeleton_faces.specs.Faces.{on_one_face, AreAcross}
use Rattle.long_face.specs.Wanted.{Want, IsPair, on_wanted}
use Rattle.long_face.specs.Settled.{has_want, want_or, IsWantedAt}
use Rattle.long_face.proofs.Chosen.{link-two}

-- a number doubled, and one more
half : (n : ℕ) → (2 * n) / 2 ≡ n
half n = omega arith

half-more : (n : ℕ) → (2 * n + 1) / 2 ≡ n
half-more n = omega arith

module _ (g : Multigraph) (nodes : List Node) (b : IsBlockTree g nodes) (family : List (List (List ℕ))) (systems : AreSkeletonSystems nodes family) (plane : (k : ℕ) → k < length nodes → IsPlane (skeleton_graph nodes k) (system_at family k))
    (p k i h : ℕ) (lp : p < length nodes) (lk : k < length nodes) (mi : i < length (node_at nodes p).items) (mh : h < length (node_at nodes k).items) (to : (node_item nodes p i).what ≡ Link k) (from : (node_item nodes k h).what ≡ Link p) where
  -- the first darts of the link and the link back
  pub across-first : AreAcross nodes p (2 * i) k (2 * h)
  across-first = record {
    first = (lp, item-dart g nodes b p lp (2 * i) (subst (λ n. n < length (node_at nodes p).items) (sym (half i)) mi));
    second = (lk, item-dart g nodes b k lk (2 * h) (subst (λ n. n < length (node_at nodes k).items) (sym (half h)) mh));
    to = ap (λ n. (node_item nodes p n).what) (half i) ∙ to;
    from = ap (λ n. (node_item nodes k n).what) (half h) ∙ from;
    end = omega arith;
  }

  -- and the second
  pub across-second : AreAcross nodes p (2 * i + 1) k (2 * h + 1)
  across-second = record {
    first = (lp, item-dart g nodes b p lp (2 * i + 1) (subst (λ n. n < length (node_at nodes p).items) (sym (half-more i)) mi));
    second = (lk, item-dart g nodes b k lk (2 * h + 1) (subst (λ n. n < length (node_at nodes k).items) (sym (half-more h)) mh));
    to = ap (λ n. (node_item nodes p n).what) (half-more i) ∙ to;
    from = ap (λ n. (node_item nodes k n).what) (half-more h) ∙ from;
    end = omega arith;
  }

  -- there are no others
  pub across-cases : (x e : ℕ) → AreAcross nodes p x k e → ((x ≡ 2 * i) × (e ≡ 2 * h)) ⊎ ((x ≡ 2 * i + 1) × (e ≡ 2 * h + 1))
  across-cases x e a = split x e
      (b.tree.split.linked.once p k (x / 2) i (stands-of g nodes b.tree p (x / 2) (Link k) (dart-item g nodes b p lp x (a.first.1)) a.to) (stands-of g nodes b.tree p i (Link k) mi to))
      (b.tree.split.linked.once k p (e / 2) h (stands-of g nodes b.tree k (e / 2) (Link p) (dart-item g nodes b k lk e (a.second.1)) a.from) (stands-of g nodes b.tree k h (Link p) mh from)) a.end
    where
      even-or : (n : ℕ) → (n % 2 ≡ 0) ⊎ (n % 2 ≡ 1)
      even-or n = elim (cases_Bool (n % 2 == 0)) [ inl t ↦ inl (eqb-true (n % 2) 0 t) | inr t ↦ inr (odd n t) ]
        where
          odd : (n : ℕ) → (n % 2 == 0) ≡ false → n % 2 ≡ 1
          odd n t = grind (arith, t)

      split : (x e : ℕ) → x / 2 ≡ i → e / 2 ≡ h → x % 2 ≡ e % 2 → ((x ≡ 2 * i) × (e ≡ 2 * h)) ⊎ ((x ≡ 2 * i + 1) × (e ≡ 2 * h + 1))
      split x e s t q = elim (even-or x) [ inl z ↦ inl (omega (arith, s, z), omega (arith, t, q, z)) | inr z ↦ inr (omega (arith, s, z), omega (arith, t, q, z)) ]

  -- the second dart is the twin of the first
  twin-first : twin (2 * i) ≡ 2 * i + 1
  twin-first = twin-even (2 * i) (omega arith)

  alike : IsEquivalence (on_one_face (skeleton_graph nodes p) (system_at family p))
  alike = orbit-equivalence (2 * edge_count (skeleton_graph nodes p)) (face (dart_after (skeleton_graph nodes p) (system_at family p)))

  -- the two are not on one face
  apart : (d : ℕ) → on_one_face (skeleton_graph nodes p) (system_at family p) d (2 * i) ≡ true → on_one_face (skeleton_graph nodes p) (system_at family p) d (2 * i + 1) ≡ true → ⊥
  apart d s t = both_ways (on_one_face (skeleton_graph nodes p) (system_at family p) (2 * i) (twin (2 * i))) (link-two g nodes b family systems plane p (2 * i) k (2 * h) across-first)
      (alike.transitive (2 * i) d (twin (2 * i)) (alike.symmetric d (2 * i) s) (subst (λ z. on_one_face (skeleton_graph nodes p) (system_at family p) d z ≡ true) (sym twin-first) t))

  -- so one of them is wanted at most
  pub one-side : (above : Option Want) → ((node_at nodes p).kind ≡ P → has_want above ≡ true → IsPair (length (node_at nodes p).items) (want_or above)) → IsWantedAt nodes family p above (2 * i) → IsWantedAt nodes family p above (2 * i + 1) → ⊥
  one-side above pair s t = by_kind (node_at nodes p).kind refl s.1 t.1
    where
      w : Want
      w = want_or above

      by_kind : (kind : Kind) → (node_at nodes p).kind ≡ kind → on_wanted kind (skeleton_graph nodes p) (system_at family p) (want_or above) (2 * i) ≡ true → on_wanted kind (skeleton_graph nodes p) (system_at family p) (want_or above) (2 * i + 1) ≡ true → ⊥
      by_kind S e u v = apart w.dart u v
      by_kind B e u v = apart w.dart u v
      by_kind R e u v = elim (cases_Bool w.turned) [
        | inl q ↦
            let u' : on_one_face (skeleton_graph nodes p) (system_at family p) (twin w.dart) (twin (2 * i)) ≡ true = sym (ap (λ (z : Bool). cond z (on_one_face (skeleton_graph nodes p) (system_at family p) (twin w.dart) (twin (2 * i))) (on_one_face (skeleton_graph nodes p) (system_at family p) w.dart (2 * i))) q) ∙ u in
            let v' : on_one_face (skeleton_graph nodes p) (system_at family p) (twin w.dart) (twin (2 * i + 1)) ≡ true = sym (ap (λ (z : Bool). cond z (on_one_face (skeleton_graph nodes p) (system_at family p) (twin w.dart) (twin (2 * i + 1))) (on_one_face (skeleton_graph nodes p) (system_at family p) w.dart (2 * i + 1))) q) ∙ v in
            apart (twin w.dart) (subst (λ z. on_one_face (skeleton_graph nodes p) (system_at family p) (twin w.dart) z ≡ true) (ap twin (sym twin-first) ∙ twin-twin (2 * i)) v')
            (subst (λ z. on_one_face (skeleton_graph nodes p) (system_at family p) (twin w.dart) z ≡ true) twin-first u')
        | inr q ↦ apart w.dart
            (sym (ap (λ (z : Bool). cond z (on_one_face (skeleton_graph nodes p) (system_at family p) (twin w.dart) (twin (2 * i))) (on_one_face (skeleton_graph nodes p) (system_at family p) w.dart (2 * i))) q) ∙ u)
            (sym (ap (λ (z : Bool). cond z (on_one_face (skeleton_graph nodes p) (system_at family p) (twin w.dart) (twin (2 * i + 1))) (on_one_face (skeleton_graph nodes p) (system_at family p) w.dart (2 * i + 1))) q) ∙ v)
      ]
      by_kind P e u v = (pair e s.0).two (first ∙ sym second)
        where
          odd : (n m : ℕ) → 2 * n ≡ 2 * m + 1 → ⊥
          odd n m q = omega (arith, q)

          same : (n m : ℕ) → 2 * n ≡ 2 * m → n ≡ m
          same n m q = omega (arith, q)

          same-more : (n m : ℕ) → 2 * n + 1 ≡ 2 * m + 1 → n ≡ m
          same-more n m q = omega (arith, q)

          twin-is : (n : ℕ) → twin (2 * n) ≡ 2 * n + 1
          twin-is n = twin-even (2 * n) (omega arith)

          second : w.second ≡ i
          second = elim (or_cases (2 * i == twin (2 * w.first)) (2 * i == 2 * w.second) u) [
            | inl q ↦ absurd (odd i w.first (eqb-true (2 * i) (twin (2 * w.first)) q ∙ twin-is w.first))
            | inr q ↦ sym (same i w.second (eqb-true (2 * i) (2 * w.second) q))
          ]

          first : w.first ≡ i
          first = elim (or_cases (2 * i + 1 == twin (2 * w.first)) (2 * i + 1 == 2 * w.second) v) [
            | inl q ↦ sym (same-more i w.first (eqb-true (2 * i + 1) (twin (2 * w.first)) q ∙ twin-is w.first))
            | inr q ↦ absurd (odd w.second i (sym (eqb-true (2 * i + 1) (2 * w.second) q)))
          ]
