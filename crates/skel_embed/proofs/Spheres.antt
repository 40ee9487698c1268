-- A block is connected, so a rotation system of it is plane exactly where V - E + F is 2.
use Rattle.std.proofs.Common.{◌≡◌, ℕ, ◌+◌, ◌*◌, ◌<◌, inl, inr, Bool, true, ltb, ◌==◌, List, sym, ap, ◌∙◌, subst, arith}
use Rattle.std.proofs.lemmas.Bool.{both_ways, cases_lt, or_cases, eqb-true, lt-ltb, le-ltb}
use Rattle.permutations.specs.Relation.{connected, leads}
use Rattle.permutations.proofs.Count.{count-ext}
use Rattle.permutations.proofs.Leaders.{leads-from, not-leads}
use Rattle.permutations.proofs.Relation.{same-tests, connected-reflexive, connected-symmetric, connected-transitive}
use Rattle.dart_maps.proofs.Bond.{count-under}
use Rattle.multigraph.specs.Graph.{Multigraph, edge_count, ends_of, is_end, IsGraph}
use Rattle.graph_theory.specs.Block.{IsOneBlock}
use Rattle.graph_theory.specs.Side.{IsCommon}
use Rattle.graph_theory.proofs.Connection.{ends-connected}
use Rattle.graph_theory.proofs.Crossings.{block-one_side}
use Rattle.faces.specs.Euler.{face_count, component_count, IsPlane}

module _ (g : Multigraph) (ok : IsGraph g) (b : IsOneBlock g) where
  abbrev from-first : ℕ → Bool
  from-first v = connected g.ends 0 v

  abbrev side : ℕ → Bool
  side e = from-first (ends_of g e).0

  -- both ends of an edge are on the same side
  at-end : (e x : ℕ) → e < edge_count g → is_end g x e ≡ true → from-first x ≡ side e
  at-end e x l h = elim (or_cases ((ends_of g e).0 == x) ((ends_of g e).1 == x) h) [
    | inl q ↦ ap from-first (sym (eqb-true (ends_of g e).0 x q))
    | inr q ↦ subst (λ z. from-first z ≡ side e) (eqb-true (ends_of g e).1 x q) alike
  ]
    where
      link : connected g.ends (ends_of g e).0 (ends_of g e).1 ≡ true
      link = ends-connected g e l

      alike : from-first (ends_of g e).1 ≡ side e
      alike = same-tests (from-first (ends_of g e).1) (side e)
          (λ t. connected-transitive g.ends 0 (ends_of g e).1 (ends_of g e).0 t (connected-symmetric g.ends (ends_of g e).0 (ends_of g e).1 link))
          (λ t. connected-transitive g.ends 0 (ends_of g e).0 (ends_of g e).1 t link)

  none-common : (p : ℕ) → IsCommon g side p → ⊥
  none-common p c = both_ways (from-first p) (at-end c.outside p c.outside_edge c.outside_end ∙ c.outside_side) (at-end c.inside p c.inside_edge c.inside_end ∙ c.inside_side)

  one-side : (e f : ℕ) → e < edge_count g → f < edge_count g → side e ≡ side f
  one-side e f l k = block-one_side g side (λ p q i j. absurd (none-common p i)) e f (b.same_block e f l k)

  some-vertex : 0 < g.vertex_count
  some-vertex = let l : (ends_of g 0).0 < g.vertex_count = ok.first_in 0 b.has_edge in omega (arith, l)

  all-connected : (v : ℕ) → v < g.vertex_count → from-first v ≡ true
  all-connected v l =
      let w = b.at_edge v l in
      let u = b.at_edge 0 some-vertex in
      at-end w.0 v w.1 w.2 ∙ one-side w.0 u.0 w.1 u.1 ∙ sym (at-end u.0 0 u.1 u.2) ∙ connected-reflexive g.ends 0

  pub one-component : component_count g ≡ 1
  one-component = count-ext g.vertex_count (leads (connected g.ends)) (λ d. ltb d 1) (λ d l. elim (cases_lt d 1) [
    | inl k ↦ leads-from (connected g.ends) d (λ y i. absurd (omega arith)) ∙ sym (lt-ltb d 1 k)
    | inr k ↦ not-leads (connected g.ends) d 0 (omega arith) (all-connected d l) ∙ sym (le-ltb d 1 k)
  ]) ∙ count-under g.vertex_count 1 (omega (arith, some-vertex))

  pub plane-from_two : (r : List (List ℕ)) → g.vertex_count + face_count g r ≡ edge_count g + 2 → IsPlane g r
  plane-from_two r e = e ∙ ap (λ z. edge_count g + 2 * z) (sym one-component)

-- the numbers of a rotation system that is not plane
pub not-plane : (g : Multigraph) → IsGraph g → IsOneBlock g → (r : List (List ℕ)) (v e f : ℕ) → v ≡ g.vertex_count → e ≡ edge_count g → f ≡ face_count g r → v + f ≡ e + 2 → IsPlane g r
not-plane g ok b r v e f i j k q = plane-from_two g ok b r (ap (λ z. z + face_count g r) (sym i) ∙ ap (λ z. v + z) (sym k) ∙ q ∙ ap (λ z. z + 2) j)
