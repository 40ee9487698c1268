-- What is asked of a node by its parent, and the want that answers it.
use Rattle.std.proofs.Common.{◌≡◌, ℕ, ◌+◌, ◌*◌, ◌/◌, ◌<◌, ◌⊎◌, Bool, true, false, cond, List, length, inl, inr, refl, sym, ap, ◌∙◌, subst, arith}
use Rattle.std.specs.Prelude.{Option, None, Some}
use Rattle.std.proofs.lemmas.Bool.{both_ways, true≢false}
use Rattle.multigraph.specs.Graph.{Multigraph, edge_count}
use Rattle.dart_maps.specs.Map.{twin}
use Rattle.dart_maps.proofs.Darts.{twin-even, twin-edge, twin-twin, twin-below}
use Rattle.faces.specs.Euler.{dart_count, IsPlane}
use Rattle.pair_split.specs.Tutte.{Node, node_at, node_item}
use Rattle.pair_split.specs.declared.components.Kind.TheVariants.{P}
use Rattle.pair_split.specs.declared.components.What.TheVariants.{Link}
use Rattle.skeletons.specs.Items.{IsBlockTree}
use Rattle.skeletons.specs.Families.{skeleton_graph, system_at, AreSkeletonSystems}
use Rattle.skeleton_planes.proofs.SkeletonDarts.{dart-item}
use Rattle.skeleton_faces.specs.Faces.{IsSkeletonDart, AreAcross, skeleton_weight}
use Rattle.long_face.specs.Wanted.{Want, IsPair, on_wanted}
use Rattle.long_face.specs.Heaviest.{IsGreatest, IsHeaviest, number_in}
use Rattle.long_face.specs.Ready.{NodeRows, AreRowsOf, AreNeeded, IsReady}
use Rattle.long_face.specs.Settled.{IsBest, IsSettled}
use Rattle.long_face.specs.Walk.{IsAskable, IsAsked}
use Rattle.long_face.proofs.Asked.{across-first, across-second, across-cases, one-side}
use Rattle.long_face.proofs.Best.{best-below, best-top, top-dart}

-- something is not nothing
is_there : Option ℕ → Bool
is_there None = false
is_there (Some d) = true

apart : (d : ℕ) → None ≡ Some d → ⊥
unfolding is_there
apart d e = true≢false (sym (ap is_there e))

-- and it is one thing
got : Option ℕ → ℕ
got None = 0
got (Some d) = d

same : (c d : ℕ) → Some c ≡ Some d → c ≡ d
unfolding got
same c d e = ap got e

module _ (g : Multigraph) (nodes : List Node) (b : IsBlockTree g nodes) (family : List (List (List ℕ))) (systems : AreSkeletonSystems nodes family) (plane : (k : ℕ) → k < length nodes → IsPlane (skeleton_graph nodes k) (system_at family k))
    (p k : ℕ) (above : Want) (a : IsAskable nodes p k above) where
  -- the link and the link back
  module _ (i h : ℕ) (mi : i < length (node_at nodes p).items) (mh : h < length (node_at nodes k).items) (to : (node_item nodes p i).what ≡ Link k) (from : (node_item nodes k h).what ≡ Link p) where
    -- whether a dart is wanted
    abbrev wanted : ℕ → Bool
    wanted x = on_wanted (node_at nodes p).kind (skeleton_graph nodes p) (system_at family p) above x

    -- not both
    one : wanted (2 * i) ≡ true → wanted (2 * i + 1) ≡ true → ⊥
    one s t = one-side g nodes b family systems plane p k i h a.near a.far mi mh to from (Some above) (λ e q. a.pair e) (refl, s) (refl, t)

    cases : (x e : ℕ) → AreAcross nodes p x k e → ((x ≡ 2 * i) × (e ≡ 2 * h)) ⊎ ((x ≡ 2 * i + 1) × (e ≡ 2 * h + 1))
    cases x e c = across-cases g nodes b family systems plane p k i h a.near a.far mi mh to from x e c

    twin-first : twin (2 * h) ≡ 2 * h + 1
    twin-first = twin-even (2 * h) (omega arith)

    twin-second : twin (2 * h + 1) ≡ 2 * h
    twin-second = ap twin (sym twin-first) ∙ twin-twin (2 * h)

    -- by the first dart
    pub asked-first : on_wanted (node_at nodes p).kind (skeleton_graph nodes p) (system_at family p) above (2 * i) ≡ true → IsAsked nodes family p above k (Some (2 * h + 1))
    asked-first s = record {
      forced = λ x e c v. elim (cases x e c) [
        | inl q ↦ ap Some (sym (ap twin q.1 ∙ twin-first))
        | inr q ↦ absurd (one s (subst (λ z. wanted z ≡ true) q.0 v.1))
      ];
      source = λ d q. (2 * i, 2 * h, across-first g nodes b family systems plane p k i h a.near a.far mi mh to from, (refl, s), sym (same (2 * h + 1) d q) ∙ sym twin-first);
    }

    -- by the second
    pub asked-second : on_wanted (node_at nodes p).kind (skeleton_graph nodes p) (system_at family p) above (2 * i + 1) ≡ true → IsAsked nodes family p above k (Some (2 * h))
    asked-second s = record {
      forced = λ x e c v. elim (cases x e c) [
        | inl q ↦ absurd (one (subst (λ z. wanted z ≡ true) q.0 v.1) s)
        | inr q ↦ ap Some (sym (ap twin q.1 ∙ twin-second))
      ];
      source = λ d q. (2 * i + 1, 2 * h + 1, across-second g nodes b family systems plane p k i h a.near a.far mi mh to from, (refl, s), sym (same (2 * h) d q) ∙ sym twin-second);
    }

    -- by none
    pub asked-none : on_wanted (node_at nodes p).kind (skeleton_graph nodes p) (system_at family p) above (2 * i) ≡ false → on_wanted (node_at nodes p).kind (skeleton_graph nodes p) (system_at family p) above (2 * i + 1) ≡ false → IsAsked nodes family p above k None
    asked-none s t = record {
      forced = λ x e c v. elim (cases x e c) [
        | inl q ↦ absurd (both_ways (wanted (2 * i)) s (subst (λ z. wanted z ≡ true) q.0 v.1))
        | inr q ↦ absurd (both_ways (wanted (2 * i + 1)) t (subst (λ z. wanted z ≡ true) q.0 v.1))
      ];
      source = λ d q. absurd (apart d q);
    }

  -- a node of which nothing is asked wants nothing
  pub settled-none : (weight : ℕ → ℕ → ℕ) → IsAsked nodes family p above k None → IsSettled nodes family weight p (Some above) k None
  settled-none weight o = record { forced = λ x e c v. absurd (apart (twin e) (o.forced x e c v)); source = λ h. absurd (true≢false (sym h)) }

-- another the heaviest face of the dart
module _ (g : Multigraph) (nodes : List Node) (family : List (List (List ℕ))) (weight : ℕ → ℕ → ℕ) (top most : ℕ) (y : IsReady g nodes family weight top most) (p k : ℕ) (above : Want) (a : IsAskable nodes p k above)
    (rows : NodeRows) (needed : AreNeeded nodes family weight k rows) where
  -- what a face weighs
  abbrev sum : ℕ → ℕ
  sum d = skeleton_weight nodes family weight k d

  pub settled-some : (dart : ℕ) (w : Want) → IsAsked nodes family p above k (Some dart) → IsHeaviest (node_at nodes k).kind (length rows.weights) (number_in rows.weights) (number_in rows.sums) dart w
      → IsSettled nodes family weight p (Some above) k (Some w)
  settled-some dart w o m = record {
    forced = λ x e c v. (refl, m.same ∙ same dart (twin e) (o.forced x e c v));
    source = λ h. let s = o.source dart refl in
        (s.0, s.1, s.2, s.3, m.same ∙ s.4, best-below g nodes y.block family y.systems y.plane weight most y.table p s.0 k s.1 s.2 (y.links p s.0 k s.1 s.2) (y.bond_links p s.0 k s.1 s.2) w sum (λ d l. refl) (heaviest s.1 s.4 (s.2.second.1)));
  }
    where
      heaviest : (e : ℕ) → dart ≡ twin e → e < dart_count (skeleton_graph nodes k) → IsHeaviest (node_at nodes k).kind (length (node_at nodes k).items) (weight k) sum (twin e) w
      heaviest e q l = subst (λ z. IsHeaviest (node_at nodes k).kind (length (node_at nodes k).items) (weight k) sum z w) q (record {
        same = m.same;
        pair = pair;
        bounds = λ b h u n.
            let f = needed.bond b in
            let c = m.bounds b h (subst (λ z. h < z) (sym f.0) u) n in
            omega (arith, c, f.1 (dart / 2) item, f.1 h u, f.1 w.first ((pair b).first_in), f.1 w.second ((pair b).second_in));
        reached = λ b.
            let f = needed.bond b in
            let c = m.reached b in
            let u : c.0 < length (node_at nodes k).items = subst (λ z. c.0 < z) f.0 c.1 in
            (c.0, u, c.2, omega (arith, c.3, f.1 (dart / 2) item, f.1 c.0 u, f.1 w.first ((pair b).first_in), f.1 w.second ((pair b).second_in)));
        sides = λ b.
            let row = needed.sides b in
            let c = m.sides b in
            (omega (arith, c.0, row.sums dart inside, either row w.turned), omega (arith, c.1, row.sums (twin dart) inside-twin, either row w.turned));
      })
        where
          pair : (node_at nodes k).kind ≡ P → IsPair (length (node_at nodes k).items) w
          pair b = subst (λ z. IsPair z w) ((needed.bond b).0) (m.pair b)

          item : dart / 2 < length (node_at nodes k).items
          item = subst (λ z. z < length (node_at nodes k).items) (sym (ap (λ z. z / 2) q ∙ twin-edge e)) (dart-item g nodes y.block k a.far e l)

          inside : dart < dart_count (skeleton_graph nodes k)
          inside = subst (λ z. z < dart_count (skeleton_graph nodes k)) (sym q) (twin-below (edge_count (skeleton_graph nodes k)) e l)

          inside-twin : twin dart < dart_count (skeleton_graph nodes k)
          inside-twin = twin-below (edge_count (skeleton_graph nodes k)) dart inside

          -- the sum of either dart
          either : AreRowsOf nodes family weight k rows → (t : Bool) → number_in rows.sums (cond t (twin dart) dart) ≡ sum (cond t (twin dart) dart)
          either row true = row.sums (twin dart) inside-twin
          either row false = row.sums dart inside

-- the heaviest face of the top
pub greatest-top : (g : Multigraph) (nodes : List Node) (family : List (List (List ℕ))) (weight : ℕ → ℕ → ℕ) (top most : ℕ) → IsReady g nodes family weight top most → (rows : NodeRows) → AreRowsOf nodes family weight top rows → (w : Want)
    → IsGreatest (node_at nodes top).kind (length rows.weights) (number_in rows.weights) (number_in rows.sums) w → IsSkeletonDart nodes top w.dart × IsBest nodes family weight top w most
greatest-top g nodes family weight top most y rows row w o =
    (top-dart g nodes y.block family y.systems y.plane weight most y.table top y.top_in w (number_in rows.sums) row.sums y.face y.pair exact, best-top g nodes y.block family y.systems y.plane weight most y.table top y.top_in w (number_in rows.sums) row.sums y.face y.pair exact)
  where
    pair : (node_at nodes top).kind ≡ P → IsPair (length (node_at nodes top).items) w
    pair b = subst (λ z. IsPair z w) row.items (o.pair b)

    exact : IsGreatest (node_at nodes top).kind (length (node_at nodes top).items) (weight top) (number_in rows.sums) w
    exact = record {
      pair = pair;
      pairs = λ b i h u v n. let c = o.pairs b i h (subst (λ z. i < z) (sym row.items) u) (subst (λ z. h < z) (sym row.items) v) n in
          omega (arith, c, row.weights i u, row.weights h v, row.weights w.first ((pair b).first_in), row.weights w.second ((pair b).second_in));
      dart_in = subst (λ z. w.dart < 2 * z) row.items o.dart_in;
      flat = o.flat;
      heaviest = λ n d u. o.heaviest n d (subst (λ z. d < 2 * z) (sym row.items) u);
    }
