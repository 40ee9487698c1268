-- A triconnected graph without plane rotation system that has one when any edge is left out is K5 or K3,3 (Kuratowski 1930).
use Rattle.std.proofs.Common.{◌≡◌, ℕ, ◌<◌, inl, inr, true, List, [], ◌∷◌, length, sym, ap, ◌∙◌, subst, arith}
use Rattle.std.proofs.lemmas.Bool.{true≢false}
use Rattle.permutations.specs.Members.{is_member}
use Rattle.permutations.proofs.Members.{member-cases}
use Rattle.multigraph.specs.Graph.{Multigraph, IsGraph, edge_count}
use Rattle.graph_theory.specs.Triconnected.{IsTriconnected}
use Rattle.faces.specs.Euler.{IsPlaneSystem}
use Rattle.kuratowski.specs.Subdivision.{pattern_edges, path_at, IsSubdivision}
use Rattle.planarity.proofs.SubdivisionLists.{all_edges, edges-path}
use Rattle.planarity.proofs.PlaneOrSubdivision.{plane-or_written}
use Rattle.minimal_graphs.specs.Whole.{IsPattern}
use Rattle.minimal_graphs.specs.Laws.{IsPlaneWithout}
use Rattle.minimal_graphs.proofs.Covered.{path-one, vertex-branch}
use Rattle.minimal_graphs.proofs.Without.{needed-edge}
use Rattle.minimal_graphs.proofs.Sides.{one-number}

pub minimal-pattern : (g : Multigraph) → IsGraph g → IsTriconnected g → ((r : List (List ℕ)) → IsPlaneSystem g r → ⊥) → ((e : ℕ) → e < edge_count g → IsPlaneWithout g e) → IsPattern g
minimal-pattern g ok tri none without = elim (plane-or_written g ok tri) [
  | inl p ↦ absurd (none p.0 p.1)
  | inr w ↦
      let s : IsSubdivision g w.0 w.1 w.2 = w.3.subdivision in
      let all : (e : ℕ) → e < edge_count g → is_member e (all_edges w.2) ≡ true = λ e l. let p = without e l in needed-edge g ok tri e l p.0 p.1 p.2.0 p.2.1 w.0 w.1 w.2 s in (
        w.0,
        w.1,
        w.2,
        record {
          written = w.3;
          single = path-one g ok tri w.0 w.1 w.2 s all;
          vertices = vertex-branch g ok tri w.0 w.1 w.2 s all;
          edges = λ e l.
              let k = edges-path w.2 e (all e l) in
              let m : k.0 < length (pattern_edges w.0) = omega (arith, k.1, s.one_each) in
              (k.0, m, only w.2 k.0 e (path-one g ok tri w.0 w.1 w.2 s all k.0 m) k.2);
        },
      )
]
  where
    only : (paths : List (List ℕ)) (k e : ℕ) → length (path_at paths k) ≡ 1 → is_member e (path_at paths k) ≡ true → path_at paths k ≡ e ∷ []
    only paths k e n m =
        let x = one-number (path_at paths k) n in
        elim (member-cases e x.0 [] (subst (λ (l : List ℕ). is_member e l ≡ true) x.1 m)) [
          | inl q ↦ x.1 ∙ ap (λ z. z ∷ []) q
          | inr f ↦ absurd (true≢false (sym f))
        ]
