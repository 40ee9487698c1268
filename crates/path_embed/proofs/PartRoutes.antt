-- The edges of a part of a graph are routes of the part, each along itself alone.
use Rattle.std.proofs.Common.{◌≡◌, ℕ, ◌<◌, ◌⊎◌, inl, inr, true, List, [], ◌∷◌, slice_index, refl, sym, ap, ◌∙◌, subst}
use Rattle.std.proofs.lemmas.Bool.{true≢false}
use Rattle.std.proofs.lemmas.List.{get_or-map, length-map}
use Rattle.permutations.specs.Members.{is_member}
use Rattle.permutations.proofs.Members.{member-cases, no_member-cons}
use Rattle.multigraph.specs.Graph.{Multigraph, IsGraph, edge_count, ends_of, other_end}
use Rattle.multigraph.specs.Part.{GraphPart}
use Rattle.multigraph.proofs.OtherEnd.{is_end-first}
use Rattle.graph_theory.specs.Path.{walk_end, walk_vertices, IsPath}
use Rattle.graph_theory.proofs.Ends.{other-differs}
use Rattle.graph_theory.proofs.Connection.{other-first}
use Rattle.graph_theory.proofs.Paths.{path-none, path-cons}
use Rattle.faces.specs.Subgraph.{IsSubgraph}
use Rattle.block_planes.proofs.OnParts.{part-subgraph}
use Rattle.kuratowski.specs.Subdivision.{inner_vertices}
use Rattle.kuratowski.specs.Routes.{route_at, route_start, route_end, route_vertices, EndsRoute, AreRoutes}
use Rattle.path_embed.specs.Carrying.{edge_routes}
use Rattle.path_embed.specs.Found.{IsPartOf}

-- an edge is a path from its first end to its second
edge-path : (g : Multigraph) → IsGraph g → (e : ℕ) → e < edge_count g → IsPath g (ends_of g e).0 (e ∷ []) (ends_of g e).1
edge-path g ok e l =
    let x = (ends_of g e).0 in
    subst (λ (z : ℕ). IsPath g (ends_of g e).0 (e ∷ []) z) (other-first g e)
    (path-cons g x e [] (other_end g e x) l (is_end-first g e) (path-none g (other_end g e x)) (no_member-cons x (other_end g e x) [] (other-differs g ok e x l (is_end-first g e)) refl))

-- a path of one edge visits its two ends alone
edge-met : (g : Multigraph) (x y z e : ℕ) (es : List ℕ) → es ≡ e ∷ [] → walk_end g x es ≡ y → is_member z (walk_vertices g x es) ≡ true → (x ≡ z) ⊎ (y ≡ z)
edge-met g x y z e es q a m = elim (member-cases z x (walk_end g x (e ∷ []) ∷ []) (subst (λ (l : List ℕ). is_member z (walk_vertices g x l) ≡ true) q m)) [
  | inl p ↦ inl p
  | inr n ↦ elim (member-cases z (walk_end g x (e ∷ [])) [] n) [
    | inl p ↦ inr (sym a ∙ ap (walk_end g x) q ∙ p)
    | inr f ↦ absurd (true≢false (sym f))
  ]
]

-- and has no vertex inside
edge-inside : (g : Multigraph) (x z e : ℕ) (es : List ℕ) → es ≡ e ∷ [] → is_member z (inner_vertices g x es) ≡ true → ⊥
edge-inside g x z e es q m = true≢false (sym (subst (λ (l : List ℕ). is_member z (inner_vertices g x l) ≡ true) q m))

module _ (g : Multigraph) (ok : IsGraph g) (part : GraphPart) (h : IsPartOf g part) where
  sub : IsSubgraph part.graph g (slice_index part.edges) (slice_index part.vertices)
  sub = part-subgraph g ok part.edges h.inside part h.is_part

  abbrev routes : List (List ℕ)
  routes = edge_routes part.edges

  -- the route of an edge is the edge
  route-is : (e : ℕ) → e < edge_count part.graph → route_at routes e ≡ slice_index part.edges e ∷ []
  route-is e l = get_or-map (λ (f : ℕ). f ∷ []) part.edges e 0 [] (subst (λ (n : ℕ). e < n) (sym h.is_part.numbered.edge_each) l)

  route-path : (e : ℕ) → e < edge_count part.graph → IsPath g (route_start part.graph part.vertices e) (route_at routes e) (route_end part.graph part.vertices e)
  route-path e l =
      subst (λ (z : ℕ). IsPath g z (route_at routes e) (route_end part.graph part.vertices e)) (sub.first_ends e l)
      (subst (λ (z : ℕ). IsPath g (ends_of g (slice_index part.edges e)).0 (route_at routes e) z) (sub.second_ends e l)
      (subst (λ (z : List ℕ). IsPath g (ends_of g (slice_index part.edges e)).0 z (ends_of g (slice_index part.edges e)).1) (sym (route-is e l))
      (edge-path g ok (slice_index part.edges e) (sub.edges e l))))

  route-ends : (e z : ℕ) → e < edge_count part.graph → is_member z (route_vertices part.graph g part.vertices routes e) ≡ true → EndsRoute part.graph part.vertices e z
  route-ends e z l m = edge-met g (route_start part.graph part.vertices e) (route_end part.graph part.vertices e) z (slice_index part.edges e) (route_at routes e) (route-is e l) (route-path e l).arrives m

  pub part-routes : AreRoutes part.graph g part.vertices (edge_routes part.edges)
  part-routes = record {
    vertex_each = h.is_part.numbered.vertex_each;
    vertex_rises = h.is_part.numbered.vertices_rise;
    vertex_in = sub.vertices;
    route_each = length-map part.edges (λ (f : ℕ). f ∷ []) ∙ h.is_part.numbered.edge_each;
    are_paths = route-path;
    common = λ e f z l m n u v. (route-ends e z l u, route-ends f z m v);
    inside = λ e z l m. absurd (edge-inside g (route_start part.graph part.vertices e) z (slice_index part.edges e) (route_at routes e) (route-is e l) m);
  }
