-- Each rotation system leaves one on a subgraph: the edges that are not of the subgraph left out, the others renumbered.
use Rattle.std.proofs.Common.{◌≡◌, ℕ, ◌<◌, ◌≤◌, inl, inr, true, List, [], map, filter, length, sym, ap, ◌∙◌, subst, arith}
use Rattle.std.proofs.lemmas.List.{length-map, get_or-map}
use Rattle.permutations.specs.Members.{is_member, is_distinct}
use Rattle.permutations.specs.Cyclic.{first_or, from_least, IsTurn}
use Rattle.permutations.proofs.Relation.{same-tests}
use Rattle.permutations.proofs.Arrangements.{permutation-from_members}
use Rattle.permutations.proofs.Filter.{member-filter_parts, filter-member, distinct-filter}
use Rattle.permutations.proofs.Turned.{IsTurn-map, IsTurn-same}
use Rattle.permutations.proofs.NormalForm.{least_or-le, from_least-turn, from_least-first_or, from_least-member, from_least-distinct}
use Rattle.permutations.proofs.Mapped.{map-member, member-map, distinct-map}
use Rattle.multigraph.specs.Graph.{Multigraph, IsGraph, edge_count, ends_of, is_end, numbers_below, incident_edges}
use Rattle.multigraph.proofs.Below.{length-numbers_below, get_or-numbers_below}
use Rattle.multigraph.proofs.OtherEnd.{is_end-cases, is_end-from_first, is_end-from_second}
use Rattle.rotations.specs.Rotation.{order_at, IsCyclicOrder, IsRotationSystem}
use Rattle.rotations.proofs.Membership.{incident-distinct, incident-member, member-edge, member-end, incident-least}
use Rattle.faces.specs.Subgraph.{IsSubgraph, is_kept, IsRestriction}
use Rattle.faces.proofs.DartLemmas.{order-distinct, order-member, member-incident}
use Rattle.faces.proofs.MapLists.{map-back, first-same}
use Rattle.faces.proofs.MapParts.{place, edge-kept, place-edge, edge-place}

-- the first of a cyclic order in normal form is the least
pub from_least-least : (l : List ℕ) (z : ℕ) → is_member z (from_least l) ≡ true → first_or 0 (from_least l) ≤ z
from_least-least l z m =
    let n : is_member z l ≡ true = sym (from_least-member l z) ∙ m in
    omega (arith, from_least-first_or l z n, least_or-le (first_or 0 l) z l n)

-- a subgraph, and a rotation system of the whole
module _ (part g : Multigraph) (edge vertex : ℕ → ℕ) (outer : List (List ℕ)) (part_ok : IsGraph part) (ok : IsGraph g) (sub : IsSubgraph part g edge vertex) (s : IsRotationSystem g outer) where
  -- the kept edges round a vertex of the part, and their numbers in the part
  abbrev kept_at : ℕ → List ℕ
  kept_at v = filter (is_kept part edge) (order_at outer (vertex v))

  abbrev left_at : ℕ → List ℕ
  left_at v = map (place part edge) (kept_at v)

  -- a kept edge has its place
  kept-place : (v e : ℕ) → is_member e (kept_at v) ≡ true → (place part edge e < edge_count part) × (edge (place part edge e) ≡ e)
  kept-place v e m = place-edge part edge e (member-filter_parts (is_kept part edge) (order_at outer (vertex v)) e m).1

  left-distinct : (v : ℕ) → v < part.vertex_count → is_distinct (left_at v) ≡ true
  left-distinct v l = distinct-map (place part edge) (kept_at v) (λ y z m n q. sym (kept-place v y m).1 ∙ ap edge q ∙ (kept-place v z n).1)
      (distinct-filter (is_kept part edge) (order_at outer (vertex v)) (order-distinct g outer (vertex v) s (sub.vertices v l)))

  -- an edge of the part is at v exactly where the edge of g is at the vertex
  end-outer : (v i : ℕ) → i < edge_count part → is_end part v i ≡ true → is_end g (vertex v) (edge i) ≡ true
  end-outer v i k h = elim (is_end-cases part v i h) [
    | inl q ↦ is_end-from_first g (vertex v) (edge i) (sub.first_ends i k ∙ ap vertex q)
    | inr q ↦ is_end-from_second g (vertex v) (edge i) (sub.second_ends i k ∙ ap vertex q)
  ]

  end-inner : (v i : ℕ) → v < part.vertex_count → i < edge_count part → is_end g (vertex v) (edge i) ≡ true → is_end part v i ≡ true
  end-inner v i l k h = elim (is_end-cases g (vertex v) (edge i) h) [
    | inl q ↦ is_end-from_first part v i (sub.vertices_once (ends_of part i).0 v (part_ok.first_in i k) l (sym (sub.first_ends i k) ∙ q))
    | inr q ↦ is_end-from_second part v i (sub.vertices_once (ends_of part i).1 v (part_ok.second_in i k) l (sym (sub.second_ends i k) ∙ q))
  ]

  -- the edges of the part at v are what is left round the vertex
  incident-left : (v i : ℕ) → v < part.vertex_count → is_member i (incident_edges part v) ≡ true → is_member i (left_at v) ≡ true
  incident-left v i l m =
      let k : i < edge_count part = member-edge part v i m in
      subst (λ z. is_member z (left_at v) ≡ true) (edge-place part g edge vertex sub i k)
      (member-map (place part edge) (kept_at v) (edge i) (filter-member (is_kept part edge) (order_at outer (vertex v)) (edge i)
      (order-member g outer (vertex v) (edge i) s (sub.vertices v l) (sub.edges i k) (end-outer v i k (member-end part v i m)))
      (edge-kept part edge i k)))

  left-incident : (v i : ℕ) → v < part.vertex_count → is_member i (left_at v) ≡ true → is_member i (incident_edges part v) ≡ true
  left-incident v i l m =
      let e = map-member (place part edge) (kept_at v) i m in
      let at : is_member e.0 (order_at outer (vertex v)) ≡ true = (member-filter_parts (is_kept part edge) (order_at outer (vertex v)) e.0 e.1).0 in
      let p = kept-place v e.0 e.1 in
      let k : i < edge_count part = subst (λ z. z < edge_count part) e.2 p.0 in
      let same : edge i ≡ e.0 = ap edge (sym e.2) ∙ p.1 in
      incident-member part v i k (end-inner v i l k (ap (is_end g (vertex v)) same ∙ member-end g (vertex v) e.0 (member-incident g outer (vertex v) e.0 s (sub.vertices v l) at)))

  left-members : (v : ℕ) → v < part.vertex_count → (z : ℕ) → is_member z (incident_edges part v) ≡ is_member z (from_least (left_at v))
  left-members v l z = same-tests (is_member z (incident_edges part v)) (is_member z (left_at v)) (incident-left v z l) (left-incident v z l) ∙ sym (from_least-member (left_at v) z)

  -- in its normal form it is a cyclic order of these edges
  left-order : (v : ℕ) → v < part.vertex_count → IsCyclicOrder (incident_edges part v) (from_least (left_at v))
  left-order v l = record {
    arranged = permutation-from_members (incident_edges part v) (from_least (left_at v)) (incident-distinct part v) (from_least-distinct (left_at v) (left-distinct v l)) (left-members v l);
    least_first = sym (first-same (incident_edges part v) (from_least (left_at v)) (left-members v l) (incident-least part v) (from_least-least (left_at v)));
  }

  -- the rotation system that is left
  abbrev left_orders : List (List ℕ)
  left_orders = map (λ v. from_least (left_at v)) (numbers_below part.vertex_count)

  left_orders-at : (v : ℕ) → v < part.vertex_count → order_at left_orders v ≡ from_least (left_at v)
  left_orders-at v l =
      let inside : v < length (numbers_below part.vertex_count) = omega (arith, l, length-numbers_below part.vertex_count) in
      get_or-map (λ u. from_least (left_at u)) (numbers_below part.vertex_count) v 0 [] inside
      ∙ ap (λ u. from_least (left_at u)) (get_or-numbers_below part.vertex_count v 0 l)

  left-system : IsRotationSystem part left_orders
  left-system = record {
    vertices = length-map (numbers_below part.vertex_count) (λ v. from_least (left_at v)) ∙ length-numbers_below part.vertex_count;
    orders = λ v l. subst (IsCyclicOrder (incident_edges part v)) (sym (left_orders-at v l)) (left-order v l);
  }

  left-restriction : IsRestriction part edge vertex outer left_orders
  left-restriction v l = subst (λ k. IsTurn (kept_at v) (map edge k)) (sym (left_orders-at v l))
      (IsTurn-same (kept_at v) (map edge (left_at v)) (map edge (from_least (left_at v)))
      (sym (map-back edge (place part edge) (kept_at v) (λ e m. (kept-place v e m).1)))
      (IsTurn-map edge (left_at v) (from_least (left_at v)) (from_least-turn (left_at v))))

  -- so there is one
  pub part-orders : (inner : List (List ℕ)) × IsRotationSystem part inner × IsRestriction part edge vertex outer inner
  part-orders = (left_orders, left-system, left-restriction)
