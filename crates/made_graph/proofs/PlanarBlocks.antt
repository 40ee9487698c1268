-- Each operation keeps a planar block one.
use Rattle.std.proofs.Common.{◌≡◌, ◌≢◌, ℕ, zero, suc, ◌+◌, ◌<◌, ◌≤◌, inl, inr, true, List, [], ◌∷◌, length, get_or, refl, sym, ap, ◌∙◌, subst, arith}
use Rattle.std.proofs.lemmas.Bool.{cases_eq}
use Rattle.permutations.specs.Members.{is_member}
use Rattle.permutations.proofs.Members.{member-head, member-tail}
use Rattle.dart_maps.proofs.Plane.{same-defect-plane, same-defect-ext}
use Rattle.multigraph.specs.Graph.{Multigraph, edge_count, ends_of, is_end, IsGraph}
use Rattle.multigraph.proofs.OtherEnd.{is_end-from_first, is_end-from_second}
use Rattle.graph_theory.specs.Path.{IsCycle}
use Rattle.graph_theory.specs.Block.{SameBlock, IsOneBlock}
use Rattle.faces.specs.Maps.{dart_after, dart_before}
use Rattle.faces.proofs.MapCounts.{map-plane}
use Rattle.faces.proofs.MapToLists.{map-orders}
use Rattle.made_graph.specs.Made.{subdivided, doubled, with_path, with_tetrahedron}
use Rattle.made_graph.specs.Laws.{IsPlanarBlock, KeepsPlanarBlocks}
use Rattle.drawn_maps.specs.Drawn.{IsDrawn}
use Rattle.drawn_maps.proofs.Systems.{to-drawn}
use Rattle.made_graph.proofs.Grown.{Drawing, double-drawn, subdivide-drawn, path-drawn, tetrahedron-drawn}
use Rattle.made_graph.proofs.Rounds.{Leads, leads-forth, leads-back, two-cycle, three-cycle, four-cycle}
use Rattle.made_graph.proofs.Added.{added, AreSound, added-count, added-in, added-old, added-new, added-graph, added-block, half-graph, half-block}

-- a drawn graph has a plane rotation system
pub from-drawing : (g : Multigraph) → IsGraph g → IsOneBlock g → Drawing g → IsPlanarBlock g
from-drawing g ok one d = from (subst (λ (m : ℕ). IsDrawn m g d.next d.previous) (sym d.drawn.edges) d.drawn)
  where
    from : IsDrawn (edge_count g) g d.next d.previous → IsPlanarBlock g
    from t =
        let r = map-orders g ok d.next d.previous t.map t.told in
        record {
          is_graph = ok;
          one_block = one;
          system = r.0;
          is_system = r.1;
          plane = map-plane g r.0 ok r.1 (same-defect-plane (edge_count g) d.next (dart_after g r.0) (same-defect-ext (edge_count g) d.next (dart_after g r.0) (λ c l. sym (r.2 c l))) t.plane);
        }

module _ (g : Multigraph) (p : IsPlanarBlock g) (e : ℕ) (le : e < edge_count g) where
  abbrev m : ℕ
  m = edge_count g

  abbrev n : ℕ
  n = g.vertex_count

  abbrev u : ℕ
  u = (ends_of g e).0

  abbrev w : ℕ
  w = (ends_of g e).1

  apart : u ≢ w
  apart = p.is_graph.no_loop e le

  u-in : u < n
  u-in = p.is_graph.first_in e le

  w-in : w < n
  w-in = p.is_graph.second_in e le

  -- in a graph with more edges, the old edge leads both ways
  old-forth : (k : ℕ) (links : List (ℕ × ℕ)) → Leads (added g k links) u e w
  old-forth k links = leads-forth (added g k links) e u w (added-in g k links e le) (added-old g k links e le)

  old-back : (k : ℕ) (links : List (ℕ × ℕ)) → Leads (added g k links) w e u
  old-back k links = leads-back (added g k links) e u w (added-in g k links e le) (added-old g k links e le) apart

  -- and a new one
  new-in : (k i : ℕ) (links : List (ℕ × ℕ)) → i < length links → m + i < edge_count (added g k links)
  new-in k i links l = omega (arith, l, added-count g k links)

  new-forth : (k i : ℕ) (links : List (ℕ × ℕ)) (x y : ℕ) → i < length links → get_or links i (0, 0) ≡ (x, y) → Leads (added g k links) x (m + i) y
  new-forth k i links x y l h = leads-forth (added g k links) (m + i) x y (new-in k i links l) (added-new g k links i ∙ h)

  new-back : (k i : ℕ) (links : List (ℕ × ℕ)) (x y : ℕ) → i < length links → get_or links i (0, 0) ≡ (x, y) → x ≢ y → Leads (added g k links) y (m + i) x
  new-back k i links x y l h = leads-back (added g k links) (m + i) x y (new-in k i links l) (added-new g k links i ∙ h)

  -- an edge doubled
  double-graph : IsGraph (doubled g e)
  double-graph = added-graph g n (ends_of g e ∷ []) p.is_graph (omega arith) sound
    where
      sound : (k : ℕ) → k < 1 → AreSound n (get_or (ends_of g e ∷ []) k (0, 0))
      sound zero l = record { first_in = u-in; second_in = w-in; differ = apart }
      sound (suc k) l = absurd (omega arith)

  pub double-block : IsPlanarBlock (doubled g e)
  double-block = from-drawing (doubled g e) double-graph (added-block g n (ends_of g e ∷ []) p.one_block double-graph e le shares (λ v l k. absurd (omega arith)))
      (double-drawn m g (dart_after g p.system) (dart_before g p.system) (to-drawn g p.system p.is_graph p.is_system p.plane) e le)
    where
      shares : (k : ℕ) → k < 1 → SameBlock (doubled g e) (m + k) e
      shares zero l = inr (record {
        start = u;
        along = e ∷ (m + 0) ∷ [];
        cycle = two-cycle (doubled g e) u e w (m + 0) (old-forth n (ends_of g e ∷ [])) (new-back n 0 (ends_of g e ∷ []) u w (omega arith) refl apart) apart (λ i. omega (arith, le, i));
        first_on = member-tail (m + 0) e ((m + 0) ∷ []) (member-head (m + 0) []);
        second_on = member-head e ((m + 0) ∷ []);
      })
      shares (suc k) l = absurd (omega arith)

  -- an edge subdivided
  pub subdivide-block : 2 ≤ edge_count g → IsPlanarBlock (subdivided g e)
  subdivide-block two =
      from-drawing (subdivided g e) (half-graph g p.is_graph p.one_block two e le) (half-block g p.is_graph p.one_block two e le)
      (subdivide-drawn m g (dart_after g p.system) (dart_before g p.system) (to-drawn g p.system p.is_graph p.is_system p.plane) e le)

  -- a path beside an edge
  abbrev path_links : List (ℕ × ℕ)
  path_links = (u, n) ∷ (n, w) ∷ []

  path-graph : IsGraph (with_path g e)
  path-graph = added-graph g (n + 1) path_links p.is_graph (omega arith) sound
    where
      sound : (k : ℕ) → k < 2 → AreSound (n + 1) (get_or path_links k (0, 0))
      sound zero l = record { first_in = omega (arith, u-in); second_in = omega arith; differ = λ i. omega (arith, u-in, i) }
      sound (suc zero) l = record { first_in = omega arith; second_in = omega (arith, w-in); differ = λ i. omega (arith, w-in, i) }
      sound (suc (suc k)) l = absurd (omega arith)

  pub path-block : IsPlanarBlock (with_path g e)
  path-block = from-drawing (with_path g e) path-graph (added-block g (n + 1) path_links p.one_block path-graph e le shares at)
      (path-drawn m g (dart_after g p.system) (dart_before g p.system) (to-drawn g p.system p.is_graph p.is_system p.plane) e le apart)
    where
      round : IsCycle (with_path g e) u ((m + 0) ∷ (m + 1) ∷ e ∷ [])
      round = three-cycle (with_path g e) u (m + 0) n (m + 1) w e (new-forth (n + 1) 0 path_links u n (omega arith) refl) (new-forth (n + 1) 1 path_links n w (omega arith) refl) (old-back (n + 1) path_links)
          (λ i. omega (arith, u-in, i)) apart (λ i. omega (arith, w-in, i)) (λ i. omega (arith, i)) (λ i. omega (arith, le, i)) (λ i. omega (arith, le, i))

      has-e : is_member e ((m + 0) ∷ (m + 1) ∷ e ∷ []) ≡ true
      has-e = member-tail e (m + 0) ((m + 1) ∷ e ∷ []) (member-tail e (m + 1) (e ∷ []) (member-head e []))

      shares : (k : ℕ) → k < 2 → SameBlock (with_path g e) (m + k) e
      shares zero l = inr (record { start = u; along = (m + 0) ∷ (m + 1) ∷ e ∷ []; cycle = round; first_on = member-head (m + 0) ((m + 1) ∷ e ∷ []); second_on = has-e })
      shares (suc zero) l = inr (record { start = u; along = (m + 0) ∷ (m + 1) ∷ e ∷ []; cycle = round; first_on = member-tail (m + 1) (m + 0) ((m + 1) ∷ e ∷ []) (member-head (m + 1) (e ∷ [])); second_on = has-e })
      shares (suc (suc k)) l = absurd (omega arith)

      at : (v : ℕ) → n ≤ v → v < n + 1 → (k : ℕ) × (k < 2) × (is_end (with_path g e) v (m + k) ≡ true)
      at v l k = let i : n ≡ v = omega (arith, l, k) in (1, omega arith, is_end-from_first (with_path g e) v (m + 1) (ap (λ (q : ℕ × ℕ). q.0) (added-new g (n + 1) path_links 1) ∙ i))

  -- a tetrahedron on an edge
  abbrev tetrahedron_links : List (ℕ × ℕ)
  tetrahedron_links = (u, n) ∷ (u, n + 1) ∷ (w, n) ∷ (w, n + 1) ∷ (n, n + 1) ∷ []

  tetrahedron-graph : IsGraph (with_tetrahedron g e)
  tetrahedron-graph = added-graph g (n + 2) tetrahedron_links p.is_graph (omega arith) sound
    where
      sound : (k : ℕ) → k < 5 → AreSound (n + 2) (get_or tetrahedron_links k (0, 0))
      sound zero l = record { first_in = omega (arith, u-in); second_in = omega arith; differ = λ i. omega (arith, u-in, i) }
      sound (suc zero) l = record { first_in = omega (arith, u-in); second_in = omega arith; differ = λ i. omega (arith, u-in, i) }
      sound (suc (suc zero)) l = record { first_in = omega (arith, w-in); second_in = omega arith; differ = λ i. omega (arith, w-in, i) }
      sound (suc (suc (suc zero))) l = record { first_in = omega (arith, w-in); second_in = omega arith; differ = λ i. omega (arith, w-in, i) }
      sound (suc (suc (suc (suc zero)))) l = record { first_in = omega arith; second_in = omega arith; differ = λ i. omega (arith, i) }
      sound (suc (suc (suc (suc (suc k))))) l = absurd (omega arith)

  pub tetrahedron-block : IsPlanarBlock (with_tetrahedron g e)
  tetrahedron-block = from-drawing (with_tetrahedron g e) tetrahedron-graph (added-block g (n + 2) tetrahedron_links p.one_block tetrahedron-graph e le shares at)
      (tetrahedron-drawn m g (dart_after g p.system) (dart_before g p.system) (to-drawn g p.system p.is_graph p.is_system p.plane) e le apart)
    where
      -- the triangle over y
      over-y : IsCycle (with_tetrahedron g e) u ((m + 0) ∷ (m + 2) ∷ e ∷ [])
      over-y = three-cycle (with_tetrahedron g e) u (m + 0) n (m + 2) w e (new-forth (n + 2) 0 tetrahedron_links u n (omega arith) refl)
          (new-back (n + 2) 2 tetrahedron_links w n (omega arith) refl (λ i. omega (arith, w-in, i))) (old-back (n + 2) tetrahedron_links)
          (λ i. omega (arith, u-in, i)) apart (λ i. omega (arith, w-in, i)) (λ i. omega (arith, i)) (λ i. omega (arith, le, i)) (λ i. omega (arith, le, i))

      -- the triangle over z
      over-z : IsCycle (with_tetrahedron g e) u ((m + 1) ∷ (m + 3) ∷ e ∷ [])
      over-z = three-cycle (with_tetrahedron g e) u (m + 1) (n + 1) (m + 3) w e (new-forth (n + 2) 1 tetrahedron_links u (n + 1) (omega arith) refl)
          (new-back (n + 2) 3 tetrahedron_links w (n + 1) (omega arith) refl (λ i. omega (arith, w-in, i))) (old-back (n + 2) tetrahedron_links)
          (λ i. omega (arith, u-in, i)) apart (λ i. omega (arith, w-in, i)) (λ i. omega (arith, i)) (λ i. omega (arith, le, i)) (λ i. omega (arith, le, i))

      -- and the cycle over both
      over-both : IsCycle (with_tetrahedron g e) u ((m + 0) ∷ (m + 4) ∷ (m + 3) ∷ e ∷ [])
      over-both = four-cycle (with_tetrahedron g e) u (m + 0) n (m + 4) (n + 1) (m + 3) w e (new-forth (n + 2) 0 tetrahedron_links u n (omega arith) refl)
          (new-forth (n + 2) 4 tetrahedron_links n (n + 1) (omega arith) refl) (new-back (n + 2) 3 tetrahedron_links w (n + 1) (omega arith) refl (λ i. omega (arith, w-in, i))) (old-back (n + 2) tetrahedron_links)
          (λ i. omega (arith, u-in, i)) (λ i. omega (arith, u-in, i)) apart (λ i. omega (arith, i)) (λ i. omega (arith, w-in, i)) (λ i. omega (arith, w-in, i))
          (λ i. omega (arith, i)) (λ i. omega (arith, i)) (λ i. omega (arith, le, i)) (λ i. omega (arith, i)) (λ i. omega (arith, le, i)) (λ i. omega (arith, le, i))

      third : (a b : ℕ) → is_member e (a ∷ b ∷ e ∷ []) ≡ true
      third a b = member-tail e a (b ∷ e ∷ []) (member-tail e b (e ∷ []) (member-head e []))

      second : (a b : ℕ) → is_member b (a ∷ b ∷ e ∷ []) ≡ true
      second a b = member-tail b a (b ∷ e ∷ []) (member-head b (e ∷ []))

      shares : (k : ℕ) → k < 5 → SameBlock (with_tetrahedron g e) (m + k) e
      shares zero l = inr (record { start = u; along = _; cycle = over-y; first_on = member-head (m + 0) ((m + 2) ∷ e ∷ []); second_on = third (m + 0) (m + 2) })
      shares (suc zero) l = inr (record { start = u; along = _; cycle = over-z; first_on = member-head (m + 1) ((m + 3) ∷ e ∷ []); second_on = third (m + 1) (m + 3) })
      shares (suc (suc zero)) l = inr (record { start = u; along = _; cycle = over-y; first_on = second (m + 0) (m + 2); second_on = third (m + 0) (m + 2) })
      shares (suc (suc (suc zero))) l = inr (record { start = u; along = _; cycle = over-z; first_on = second (m + 1) (m + 3); second_on = third (m + 1) (m + 3) })
      shares (suc (suc (suc (suc zero)))) l = inr (record {
        start = u;
        along = _;
        cycle = over-both;
        first_on = member-tail (m + 4) (m + 0) ((m + 4) ∷ (m + 3) ∷ e ∷ []) (member-head (m + 4) ((m + 3) ∷ e ∷ []));
        second_on = member-tail e (m + 0) ((m + 4) ∷ (m + 3) ∷ e ∷ []) (third (m + 4) (m + 3));
      })
      shares (suc (suc (suc (suc (suc k))))) l = absurd (omega arith)

      at : (v : ℕ) → n ≤ v → v < n + 2 → (k : ℕ) × (k < 5) × (is_end (with_tetrahedron g e) v (m + k) ≡ true)
      at v l k = elim (cases_eq v n) [
        | inl i ↦ (0, omega arith, is_end-from_second (with_tetrahedron g e) v (m + 0) (ap (λ (q : ℕ × ℕ). q.1) (added-new g (n + 2) tetrahedron_links 0) ∙ sym i))
        | inr i ↦ let j : n + 1 ≡ v = omega (arith, l, k, i) in (1, omega arith, is_end-from_second (with_tetrahedron g e) v (m + 1) (ap (λ (q : ℕ × ℕ). q.1) (added-new g (n + 2) tetrahedron_links 1) ∙ j))
      ]

-- as statements
pub subdividing-keeps : KeepsPlanarBlocks subdivided
subdividing-keeps g p two e l = subdivide-block g p e l two

pub doubling-keeps : KeepsPlanarBlocks doubled
doubling-keeps g p two e l = double-block g p e l

pub path-keeps : KeepsPlanarBlocks with_path
path-keeps g p two e l = path-block g p e l

pub tetrahedron-keeps : KeepsPlanarBlocks with_tetrahedron
tetrahedron-keeps g p two e l = tetrahedron-block g p e l
