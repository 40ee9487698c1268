-- Neighbours: the other ends of the edges at a vertex.
use Rattle.std.proofs.Common.{◌≡◌, ℕ, ◌<◌, Bool, true, ◌==◌, List, length, get_or, slice_index, inl, inr, refl, sym, ap, ◌∙◌, subst}
use Rattle.std.proofs.lemmas.Bool.{eq-eqb, eqb-true}
use Rattle.std.proofs.lemmas.List.Elements.{at_from_Contains, All-from_get_or}
use Rattle.permutations.specs.Relation.{connected}
use Rattle.permutations.proofs.Search.{some-from, some-witness, some-ext}
use Rattle.permutations.proofs.Relation.{same-tests, connected-symmetric, connected-transitive, connected-closed}
use Rattle.graph_theory.proofs.Connection.{ends-connected}
use Rattle.multigraph.specs.Graph.{Multigraph, IsGraph, edge_count, ends_of, is_end, incident_edges, other_end}
use Rattle.multigraph.proofs.Incident.{incident-has, incident_at-edge, incident_at-end}
use Rattle.multigraph.proofs.OtherEnd.{is_end-first, is_end-second, is_end-cases, other_end-of_first, other_end-of_second, other_end-in}
use Rattle.multigraph.specs.Marks.{is_marked}
use Rattle.faces.specs.Search.{is_neighbour}
use Rattle.faces.proofs.Found.{FoundBelow}

-- a neighbour is the other end of an edge at v
pub neighbour-edge : (g : Multigraph) (v x : ℕ) → is_neighbour g v x ≡ true → (e : ℕ) × (e < edge_count g) × (is_end g v e ≡ true) × (other_end g e v ≡ x)
neighbour-edge g v x t =
    let w : (i : ℕ) × (i < length (incident_edges g v)) × ((other_end g (slice_index (incident_edges g v) i) v == x) ≡ true) = some-witness (length (incident_edges g v)) (λ i. other_end g (slice_index (incident_edges g v) i) v == x) t in
    (get_or (incident_edges g v) w.0 0, incident_at-edge g v w.0 0 w.1, incident_at-end g v w.0 0 w.1, eqb-true (other_end g (slice_index (incident_edges g v) w.0) v) x w.2)

-- the other end of an edge at v is a neighbour
pub edge-neighbour : (g : Multigraph) (v e x : ℕ) → e < edge_count g → is_end g v e ≡ true → other_end g e v ≡ x → is_neighbour g v x ≡ true
edge-neighbour g v e x l h to =
    let w = at_from_Contains (incident_edges g v) e (incident-has g v e l h) in
    let at : slice_index (incident_edges g v) w.0 ≡ e = w.2 0 in
    some-from (length (incident_edges g v)) (λ i. other_end g (slice_index (incident_edges g v) i) v == x) w.0 w.1
    (eq-eqb (other_end g (slice_index (incident_edges g v) w.0) v) x (ap (λ d. other_end g d v) at ∙ to))

-- the ends of an edge are neighbours of each other
pub first-neighbour : (g : Multigraph) (e : ℕ) → e < edge_count g → is_neighbour g (ends_of g e).0 (ends_of g e).1 ≡ true
first-neighbour g e l = edge-neighbour g (ends_of g e).0 e (ends_of g e).1 l (is_end-first g e) (other_end-of_first g e (ends_of g e).0 refl)

pub second-neighbour : (g : Multigraph) (e : ℕ) → IsGraph g → e < edge_count g → is_neighbour g (ends_of g e).1 (ends_of g e).0 ≡ true
second-neighbour g e ok l = edge-neighbour g (ends_of g e).1 e (ends_of g e).0 l (is_end-second g e) (other_end-of_second g e (ends_of g e).1 refl (ok.no_loop e l))

-- a neighbour is a vertex
pub neighbour-in : (g : Multigraph) (v x : ℕ) → IsGraph g → is_neighbour g v x ≡ true → x < g.vertex_count
neighbour-in g v x ok t =
    let w : (e : ℕ) × (e < edge_count g) × (is_end g v e ≡ true) × (other_end g e v ≡ x) = neighbour-edge g v x t in
    subst (λ z. z < g.vertex_count) w.3 (other_end-in g w.0 v ok w.1)

-- what the two ends of each edge share, a vertex and its neighbours share
pub neighbour-same : (g : Multigraph) (r : ℕ → ℕ → Type 0) → IsGraph g → ((e : ℕ) → e < edge_count g → r (ends_of g e).0 (ends_of g e).1) → ((x y : ℕ) → r x y → r y x) → (v x : ℕ) → is_neighbour g v x ≡ true → r v x
neighbour-same g r ok each sides v x t =
    let w : (e : ℕ) × (e < edge_count g) × (is_end g v e ≡ true) × (other_end g e v ≡ x) = neighbour-edge g v x t in
    elim (is_end-cases g v w.0 w.2) [
      | inl a ↦ subst (λ z. r z x) a (subst (λ z. r (ends_of g w.0).0 z) (sym (other_end-of_first g w.0 v a) ∙ w.3) (each w.0 w.1))
      | inr b ↦ subst (λ z. r z x) b (subst (λ z. r (ends_of g w.0).1 z) (sym (other_end-of_second g w.0 v b (ok.no_loop w.0 w.1)) ∙ w.3) (sides (ends_of g w.0).0 (ends_of g w.0).1 (each w.0 w.1)))
    ]

-- neighbours are connected
pub neighbour-connected : (g : Multigraph) (v x : ℕ) → IsGraph g → is_neighbour g v x ≡ true → connected g.ends v x ≡ true
neighbour-connected g v x ok t = neighbour-same g (λ a b. connected g.ends a b ≡ true) ok (ends-connected g) (connected-symmetric g.ends) v x t

-- a test that neighbours hand on is the same at all connected vertices
pub connected-handed : (g : Multigraph) (a : ℕ → Bool) → IsGraph g → ((v x : ℕ) → a v ≡ true → is_neighbour g v x ≡ true → a x ≡ true) → (x y : ℕ) → connected g.ends x y ≡ true → a x ≡ a y
connected-handed g a ok hands x y t =
    connected-closed g.ends a (All-from_get_or (λ link. a link.0 ≡ a link.1) g.ends (0, 0) (λ e l. same-tests (a (ends_of g e).0) (a (ends_of g e).1)
    (λ h. hands (ends_of g e).0 (ends_of g e).1 h (first-neighbour g e l))
    (λ h. hands (ends_of g e).1 (ends_of g e).0 h (second-neighbour g e ok l)))) x y t

-- where a mark stands on each vertex that one below d is connected to, the two ends of an edge are marked alike
pub found-alike : (g : Multigraph) (d : ℕ) (marks : List Bool) (components : ℕ) → FoundBelow (connected g.ends) d marks components → (e : ℕ) → e < edge_count g → is_marked marks (ends_of g e).0 ≡ is_marked marks (ends_of g e).1
found-alike g d marks components m e l =
    let a = (ends_of g e).0 in
    let b = (ends_of g e).1 in
    let t : connected g.ends a b ≡ true = ends-connected g e l in
    let alike : (y : ℕ) → y < d → connected g.ends y a ≡ connected g.ends y b = λ y k. same-tests (connected g.ends y a) (connected g.ends y b)
    (λ h. connected-transitive g.ends y a b h t)
    (λ h. connected-transitive g.ends y b a h (connected-symmetric g.ends a b t)) in
    m.marked a ∙ some-ext d (λ y. connected g.ends y a) (λ y. connected g.ends y b) alike ∙ sym (m.marked b)
