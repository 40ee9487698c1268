-- Rotation systems as lists: each order is written from its least edge on, orders tell the system, and any arrangements of the
-- edges at the vertices make one. (Lemmas on rotation systems alone: they belong to rotations.)
use Rattle.std.proofs.Common.{◌≡◌, ℕ, ◌<◌, ◌≤◌, true, List, [], length, map, slice_index_or, sym, ap, ◌∙◌, subst, IsPermutation}
use Rattle.std.proofs.lemmas.List.{get_or-map, get_or_default, length-map, same_lists}
use Rattle.permutations.specs.Cyclic.{first_or, IsTurn, from_least}
use Rattle.permutations.specs.Members.{is_member, is_distinct}
use Rattle.permutations.proofs.Arrangements.{permutation-member, permutation-distinct, permutation-from_members}
use Rattle.permutations.proofs.NormalForm.{from_least-same, from_least-member, from_least-distinct, from_least-first_or, least_or-le, written-first}
use Rattle.multigraph.specs.Graph.{Multigraph, numbers_below, incident_edges}
use Rattle.multigraph.proofs.Below.{get_or-numbers_below, length-numbers_below}
use Rattle.rotations.specs.Rotation.{order_at, IsCyclicOrder, IsRotationSystem}
use Rattle.rotations.proofs.Membership.{incident-distinct, incident-least}
use Rattle.faces.proofs.DartLemmas.{order-distinct}
use Rattle.faces.proofs.MapLists.{first-same}
use Rattle.faces.proofs.MapMirror.{order-least}

-- so are those of a rotation system
pub order-written : (g : Multigraph) (r : List (List ℕ)) (v : ℕ) → IsRotationSystem g r → v < g.vertex_count → from_least (order_at r v) ≡ order_at r v
order-written g r v s l = written-first (order_at r v) (order-least g r v s l)

-- rotation systems with the same orders are equal
pub same-orders : (g : Multigraph) (r q : List (List ℕ)) → IsRotationSystem g r → IsRotationSystem g q → ((v : ℕ) → v < g.vertex_count → order_at r v ≡ order_at q v) → r ≡ q
same-orders g r q s t h = same_lists r q (s.vertices ∙ sym t.vertices) each
  where
    each : (v : ℕ) (d : List ℕ) → v < length r → slice_index_or r v d ≡ slice_index_or q v d
    each v d l =
        let below : v < g.vertex_count = subst (λ n. v < n) s.vertices l in
        get_or_default r v d [] l ∙ h v below ∙ sym (get_or_default q v d [] (subst (λ n. v < n) (sym t.vertices) below))

-- so are those with the same cyclic orders
pub same-turns : (g : Multigraph) (r q : List (List ℕ)) → IsRotationSystem g r → IsRotationSystem g q → ((v : ℕ) → v < g.vertex_count → IsTurn (order_at r v) (order_at q v)) → r ≡ q
same-turns g r q s t h = same-orders g r q s t (λ v l.
    sym (order-written g r v s l) ∙ from_least-same (order_at r v) (order_at q v) (h v l) (order-distinct g r v s l) ∙ order-written g q v t l)

-- an arrangement of edges the first of which is the least is a cyclic order of them, written from the least on
pub order-arranged : (edges l : List ℕ) → is_distinct edges ≡ true → ((e : ℕ) → is_member e edges ≡ true → first_or 0 edges ≤ e) → IsPermutation edges l → IsCyclicOrder edges (from_least l)
order-arranged edges l d least p = record {
  arranged = permutation-from_members edges (from_least l) d (from_least-distinct l (permutation-distinct edges l p d)) (λ z. sym (same z));
  least_first = first-same (from_least l) edges same first least;
}
  where
    same : (z : ℕ) → is_member z (from_least l) ≡ is_member z edges
    same z = from_least-member l z ∙ permutation-member edges l z p

    first : (z : ℕ) → is_member z (from_least l) ≡ true → first_or 0 (from_least l) ≤ z
    first z m =
        let n : is_member z l ≡ true = sym (from_least-member l z) ∙ m in
        subst (λ (y : ℕ). y ≤ z) (sym (from_least-first_or l z n)) (least_or-le (first_or 0 l) z l n)

-- the rotation system with these arrangements of the edges at its vertices
pub made : Multigraph → (ℕ → List ℕ) → List (List ℕ)
made g orders = map (λ v. from_least (orders v)) (numbers_below g.vertex_count)

pub made-order : (g : Multigraph) (orders : ℕ → List ℕ) (v : ℕ) → v < g.vertex_count → order_at (made g orders) v ≡ from_least (orders v)
unfolding made
made-order g orders v l =
    get_or-map (λ v. from_least (orders v)) (numbers_below g.vertex_count) v 0 [] (subst (λ n. v < n) (sym (length-numbers_below g.vertex_count)) l)
    ∙ ap (λ z. from_least (orders z)) (get_or-numbers_below g.vertex_count v 0 l)

pub made-system : (g : Multigraph) (orders : ℕ → List ℕ) → ((v : ℕ) → v < g.vertex_count → IsPermutation (incident_edges g v) (orders v)) → IsRotationSystem g (made g orders)
unfolding made
made-system g orders h = record {
  vertices = length-map (numbers_below g.vertex_count) (λ v. from_least (orders v)) ∙ length-numbers_below g.vertex_count;
  orders = λ v l. subst (IsCyclicOrder (incident_edges g v)) (sym (made-order g orders v l)) (order-arranged (incident_edges g v) (orders v) (incident-distinct g v) (incident-least g v) (h v l));
}
