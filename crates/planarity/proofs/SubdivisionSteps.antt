-- The faces of a rotation system restricted to the edges of a subdivision: they run along the ways, and from the end of a way
-- on along another one.
use Rattle.std.proofs.Common.{◌≡◌, ◌≢◌, ℕ, ◌*◌, ◌/◌, ◌<◌, inl, inr, Bool, true, List, [], ◌∷◌, ◌++◌, filter, refl, sym, ap, ap₂, ◌∙◌, subst, arith}
use Rattle.std.proofs.lemmas.Bool.{true≢false}
use Rattle.permutations.specs.Members.{is_member}
use Rattle.permutations.specs.Cyclic.{first_or, successor}
use Rattle.permutations.specs.Exchange.{restricted}
use Rattle.permutations.proofs.Members.{member-head, member-tail, member-append_right}
use Rattle.permutations.proofs.Successor.{successor-member}
use Rattle.permutations.proofs.Filter.{filter-member, member-filter_parts, distinct-filter}
use Rattle.multigraph.specs.Graph.{Multigraph, IsGraph, edge_count, is_end, other_end}
use Rattle.multigraph.proofs.OtherEnd.{other_end-is_end, other_end-in}
use Rattle.rotations.specs.Rotation.{order_at, IsRotationSystem}
use Rattle.rotations.proofs.Membership.{member-end}
use Rattle.graph_theory.specs.Path.{walk_end, walk_vertices, IsWalk, IsPath}
use Rattle.graph_theory.proofs.Walks.{walk-right}
use Rattle.dart_maps.specs.Map.{twin, face}
use Rattle.dart_maps.proofs.Darts.{twin-below, twin-edge, edge-twin}
use Rattle.faces.specs.Euler.{dart_from, dart_count}
use Rattle.faces.specs.Maps.{dart_after}
use Rattle.faces.proofs.DartLemmas.{dart_from-edge, dart_from-below, dart_from-tail, dart_from-of_dart, order-distinct, order-member, member-incident}
use Rattle.faces.proofs.MapSteps.{tail-twin}
use Rattle.faces.proofs.MapRestricted.{restricted-order}
use Rattle.kuratowski.specs.Subdivision.{path_at, IsSubdivision}
use Rattle.kuratowski.specs.declared.subdivision.Pattern.{Pattern}
use Rattle.planarity.proofs.SubdivisionEdges.{successor-moves, edge-first, left-start, left-met, edge-after, edge-between, between-finish}
use Rattle.planarity.proofs.SubdivisionPattern.{pair_count, way_start, way-begins}
use Rattle.planarity.proofs.SubdivisionLists.{all_edges}
use Rattle.planarity.proofs.SubdivisionWays.{way_from, way_along, inside, way-path, way-member, way-met, path-sides, path-ends, inside-no_branch, inside-once, kept-path, kept-edge, way-kept}

-- the twin of the dart of an edge from one end is that from the other
twin-dart : (g : Multigraph) → IsGraph g → (v e : ℕ) → e < edge_count g → is_end g v e ≡ true → twin (dart_from g v e) ≡ dart_from g (other_end g e v) e
twin-dart g ok v e l i = sym (dart_from-of_dart g (twin (dart_from g v e)) ok (twin-below (edge_count g) (dart_from g v e) (dart_from-below g v e l)))
    ∙ ap₂ (dart_from g)
    (tail-twin g (dart_from g v e) ok (dart_from-below g v e l) ∙ ap₂ (other_end g) (dart_from-edge g v e) (dart_from-tail g v e i))
    (twin-edge (dart_from g v e) ∙ dart_from-edge g v e)

-- a list with a member has a first one
first-edge : (l : List ℕ) (f : ℕ) → is_member f l ≡ true → (h : ℕ) × (t : List ℕ) × (l ≡ h ∷ t)
first-edge [] f m = absurd (true≢false (sym m))
first-edge (h ∷ t) f m = (h, t, refl)

-- a subdivision in a graph with a rotation system
module _ (g : Multigraph) (ok : IsGraph g) (r : List (List ℕ)) (rs : IsRotationSystem g r) (kind : Pattern) (branch : List ℕ) (paths : List (List ℕ)) (s : IsSubdivision g kind branch paths) where
  -- whether an edge is of the subdivision
  abbrev pub keep : ℕ → Bool
  keep e = is_member e (all_edges paths)

  -- the rotation system on these edges alone
  abbrev pub left_map : ℕ → ℕ
  left_map = restricted (dart_count g) (λ d. keep (d / 2)) (dart_after g r)

  -- the dart by which way q begins
  abbrev pub way_dart : ℕ → ℕ
  way_dart q = dart_from g (way_from kind branch q) (first_or 0 (way_along paths q))

  -- arriving by e where another edge h is kept, the face goes on by a kept edge other than e
  pub step-out : (v e h : ℕ) → keep e ≡ true → is_end g v e ≡ true → keep h ≡ true → is_end g (other_end g e v) h ≡ true → h ≢ e
      → (f : ℕ) × (keep f ≡ true) × (is_end g (other_end g e v) f ≡ true) × (f ≢ e) × (face left_map (dart_from g v e) ≡ dart_from g (other_end g e v) f)
  step-out v e h ke i kh j n = (
    successor round e,
    (member-filter_parts keep (order_at r w) (successor round e) stays).1,
    member-end g w (successor round e) (member-incident g r w (successor round e) rs below (member-filter_parts keep (order_at r w) (successor round e) stays).0),
    successor-moves round e h (distinct-filter keep (order_at r w) (order-distinct g r w rs below)) (among e ke (other_end-is_end g e v)) (among h kh j) n,
    ap left_map (twin-dart g ok v e (kept-edge g ok kind branch paths s e ke) i) ∙ restricted-order g r ok rs keep w e below (order-member g r w e rs below (kept-edge g ok kind branch paths s e ke) (other_end-is_end g e v)) ke,
  )
    where
      w : ℕ
      w = other_end g e v

      below : w < g.vertex_count
      below = other_end-in g e v ok (kept-edge g ok kind branch paths s e ke)

      round : List ℕ
      round = filter keep (order_at r w)

      among : (f : ℕ) → keep f ≡ true → is_end g w f ≡ true → is_member f round ≡ true
      among f k z = filter-member keep (order_at r w) f (order-member g r w f rs below (kept-edge g ok kind branch paths s f k) z) k

      stays : is_member (successor round e) round ≡ true
      stays = successor-member round e (among e ke (other_end-is_end g e v))

  -- way q, cut before its edge e
  module _ (q : ℕ) (l : q < 2 * pair_count kind) (front : List ℕ) (e : ℕ) (after : List ℕ) (cut : way_along paths q ≡ front ++ e ∷ after) where
    abbrev at : ℕ
    at = walk_end g (way_from kind branch q) front

    pub cut-path : IsPath g (way_from kind branch q) (front ++ e ∷ after) (way_from kind branch (twin q))
    cut-path = subst (λ k. IsPath g (way_from kind branch q) k (way_from kind branch (twin q))) cut (way-path g ok kind branch paths s q l)

    pub cut-walk : IsWalk g at (e ∷ after)
    cut-walk = walk-right g (way_from kind branch q) front (e ∷ after) cut-path.walk

    pub cut-member : is_member e (way_along paths q) ≡ true
    cut-member = subst (λ k. is_member e k ≡ true) (sym cut) (member-append_right e front (e ∷ after) (member-head e after))

    pub cut-kept : keep e ≡ true
    cut-kept = way-kept g ok kind branch paths s q e l cut-member

  -- a way goes on from an edge to the next one
  pub inner-step : (q : ℕ) → q < 2 * pair_count kind → (front : List ℕ) (e h : ℕ) (back : List ℕ) → way_along paths q ≡ front ++ e ∷ h ∷ back
      → face left_map (dart_from g (walk_end g (way_from kind branch q) front) e) ≡ dart_from g (other_end g e (walk_end g (way_from kind branch q) front)) h
  inner-step q l front e h back cut = onward (step-out v e h (cut-kept q l front e (h ∷ back) cut) walk.0.1 kept-next walk.1.0.1 (edge-after g start front e (h ∷ back) finish path h (member-head h back)))
    where
      start : ℕ
      start = way_from kind branch q

      finish : ℕ
      finish = way_from kind branch (twin q)

      v : ℕ
      v = walk_end g start front

      w : ℕ
      w = other_end g e v

      path : IsPath g start (front ++ e ∷ h ∷ back) finish
      path = cut-path q l front e (h ∷ back) cut

      walk : IsWalk g v (e ∷ h ∷ back)
      walk = cut-walk q l front e (h ∷ back) cut

      kept-next : keep h ≡ true
      kept-next = way-kept g ok kind branch paths s q h l (subst (λ k. is_member h k ≡ true) (sym cut) (member-append_right h front (e ∷ h ∷ back) (member-tail h e (h ∷ back) (member-head h back))))

      -- the vertex between the two edges is inside the path
      inside-here : is_member w (inside g ok kind branch paths s (q / 2)) ≡ true
      inside-here = elim (path-sides g ok kind branch paths s (q / 2) w (omega arith) (way-met g ok kind branch paths s q w l (subst (λ k. is_member w (walk_vertices g start k) ≡ true) (sym cut) (left-met g start front e (h ∷ back) finish path)))) [
        | inl i ↦ i
        | inr p ↦ elim (edge-twin p.0 q p.2) [
          | inl z ↦ absurd (left-start g start front e (h ∷ back) finish path (sym p.3 ∙ ap (way_from kind branch) z))
          | inr z ↦ absurd (between-finish g start front e h back finish path (sym p.3 ∙ ap (way_from kind branch) z))
        ]
      ]

      -- so an edge of the subdivision there is one of this way
      on-way : (f : ℕ) → keep f ≡ true → is_end g w f ≡ true → is_member f (front ++ e ∷ h ∷ back) ≡ true
      on-way f k i = let o = kept-path g ok kind branch paths s f k in
          elim (path-sides g ok kind branch paths s o.0 w o.1 (path-ends g ok kind branch paths s o.0 f w o.1 o.2 i)) [
            | inl n ↦ subst (λ k. is_member f k ≡ true) cut (way-member g ok kind branch paths s q f ∙ ap (λ z. is_member f (path_at paths z)) (inside-once g ok kind branch paths s (q / 2) o.0 w (omega arith) o.1 inside-here n) ∙ o.2)
            | inr p ↦ absurd (inside-no_branch g ok kind branch paths s (q / 2) w (way_start kind p.0) (omega arith) inside-here (way-begins kind p.0 p.1) p.3)
          ]

      onward : (f : ℕ) × (keep f ≡ true) × (is_end g w f ≡ true) × (f ≢ e) × (face left_map (dart_from g v e) ≡ dart_from g w f) → face left_map (dart_from g v e) ≡ dart_from g w h
      onward f = f.4 ∙ ap (dart_from g w) (edge-between g start front e h back finish f.0 path (on-way f.0 f.1 f.2) f.2 f.3)

  -- an edge of the subdivision at a branch vertex begins a way there
  pub begins-way : (q f : ℕ) → q < 2 * pair_count kind → keep f ≡ true → is_end g (way_from kind branch q) f ≡ true
      → (p : ℕ) × (p < 2 * pair_count kind) × (way_from kind branch p ≡ way_from kind branch q) × (is_member f (way_along paths p) ≡ true)
  begins-way q f l k i = let o = kept-path g ok kind branch paths s f k in
      elim (path-sides g ok kind branch paths s o.0 (way_from kind branch q) o.1 (path-ends g ok kind branch paths s o.0 f (way_from kind branch q) o.1 o.2 i)) [
        | inl n ↦ absurd (inside-no_branch g ok kind branch paths s o.0 (way_from kind branch q) (way_start kind q) o.1 n (way-begins kind q l) refl)
        | inr p ↦ (p.0, p.1, p.3, way-member g ok kind branch paths s p.0 f ∙ ap (λ z. is_member f (path_at paths z)) p.2 ∙ o.2)
      ]

  -- an edge of a way where it begins is its first
  pub way-first : (p f : ℕ) → p < 2 * pair_count kind → is_member f (way_along paths p) ≡ true → is_end g (way_from kind branch p) f ≡ true → f ≡ first_or 0 (way_along paths p)
  way-first p f l m i = let o = first-edge (way_along paths p) f m in
      edge-first g (way_from kind branch p) o.0 o.1 (way_from kind branch (twin p)) f
      (subst (λ k. IsPath g (way_from kind branch p) k (way_from kind branch (twin p))) o.2 (way-path g ok kind branch paths s p l))
      (subst (λ k. is_member f k ≡ true) o.2 m) i ∙ ap (first_or 0) (sym o.2)
