-- Vertices that an edge joins, edges with the same ends in a simple graph, and the edges that stay when one is contracted.
use Rattle.std.proofs.Common.{◌≡◌, ◌≢◌, ℕ, ◌<◌, inl, inr, Bool, true, false, not, ◌&&◌, ◌==◌, refl, sym, ◌∙◌, subst, arith}
use Rattle.std.proofs.lemmas.Bool.{cases_Bool, both_ways, and_parts, and_from, eq-eqb, ne_eqb, eqb-true, eqb-false, not-true, not_from_false, false_from_ne_true, true_from_ne_false}
use Rattle.permutations.proofs.Search.{some-witness, some-from}
use Rattle.multigraph.specs.Graph.{Multigraph, edge_count, ends_of, is_end, other_end, IsGraph}
use Rattle.multigraph.proofs.OtherEnd.{is_end-cases, other_end-cases, other_end-in, other_end-is_end, other_end-twice, other_end-differs}
use Rattle.graph_theory.specs.Triconnected.{AreParallel, IsSimple}
use Rattle.contractions.specs.Contraction.{are_adjacent, is_kept, is_private}

-- an edge that joins u and v
pub joined-edge : (g : Multigraph) (u v : ℕ) → are_adjacent g u v ≡ true → (f : ℕ) × (f < edge_count g) × (is_end g u f ≡ true) × (other_end g f u ≡ v)
joined-edge g u v h =
    let w : (f : ℕ) × (f < edge_count g) × ((is_end g u f && (other_end g f u == v)) ≡ true) = some-witness (edge_count g) (λ f. is_end g u f && (other_end g f u == v)) h in
    let p = and_parts (is_end g u w.0) (other_end g w.0 u == v) w.2 in
    (w.0, w.1, p.0, eqb-true (other_end g w.0 u) v p.1)

-- an edge joins its ends
pub joined-from : (g : Multigraph) (f u : ℕ) → f < edge_count g → is_end g u f ≡ true → are_adjacent g u (other_end g f u) ≡ true
joined-from g f u l h = some-from (edge_count g) (λ k. is_end g u k && (other_end g k u == other_end g f u)) f l
    (and_from (is_end g u f) (other_end g f u == other_end g f u) h (eq-eqb (other_end g f u) (other_end g f u) refl))

-- joined, read the other way round
pub joined-turned : (g : Multigraph) → IsGraph g → (u v : ℕ) → are_adjacent g u v ≡ true → are_adjacent g v u ≡ true
joined-turned g i u v h =
    let w = joined-edge g u v h in
    subst (λ (q : ℕ). are_adjacent g q u ≡ true) w.3
    (subst (λ (q : ℕ). are_adjacent g (other_end g w.0 u) q ≡ true) (other_end-twice g w.0 u i w.1 w.2) (joined-from g w.0 (other_end g w.0 u) w.1 (other_end-is_end g w.0 u)))

-- joined vertices are different
pub joined-apart : (g : Multigraph) → IsGraph g → (u v : ℕ) → are_adjacent g u v ≡ true → u ≢ v
joined-apart g i u v h e = let w = joined-edge g u v h in other_end-differs g w.0 u i w.1 w.2 (w.3 ∙ sym e)

-- they are vertices
pub joined-in : (g : Multigraph) → IsGraph g → (u v : ℕ) → are_adjacent g u v ≡ true → v < g.vertex_count
joined-in g i u v h = let w = joined-edge g u v h in subst (λ (q : ℕ). q < g.vertex_count) w.3 (other_end-in g w.0 u i w.1)

-- the end of an edge that is not the first is the second
second-is : (g : Multigraph) (f p : ℕ) → is_end g p f ≡ true → (ends_of g f).0 ≢ p → (ends_of g f).1 ≡ p
second-is g f p h n = elim (is_end-cases g p f h) [ inl a ↦ absurd (n a) | inr b ↦ b ]

-- edges with a common end and the same other end are parallel
pub parallel-from : (g : Multigraph) (e f p : ℕ) → is_end g p e ≡ true → is_end g p f ≡ true → other_end g e p ≡ other_end g f p → AreParallel g e f
parallel-from g e f p h k s = elim (other_end-cases g e p) [
  | inl a ↦ elim (other_end-cases g f p) [
    | inl b ↦ inl (a.0 ∙ sym b.0, sym a.1 ∙ (s ∙ b.1))
    | inr b ↦ inr (a.0 ∙ sym (second-is g f p k b.0), sym a.1 ∙ (s ∙ b.1))
  ]
  | inr a ↦ elim (other_end-cases g f p) [
    | inl b ↦ inr (sym a.1 ∙ (s ∙ b.1), second-is g e p h a.0 ∙ sym b.0)
    | inr b ↦ inl (sym a.1 ∙ (s ∙ b.1), second-is g e p h a.0 ∙ sym (second-is g f p k b.0))
  ]
]

-- in a simple graph they are one
pub simple-same : (g : Multigraph) → IsSimple g → (e f p : ℕ) → e < edge_count g → f < edge_count g → is_end g p e ≡ true → is_end g p f ≡ true → other_end g e p ≡ other_end g f p → e ≡ f
simple-same g s e f p l m h k d = s e f l m (parallel-from g e f p h k d)

-- an edge that stays is not the one that is contracted
pub kept-other : (g : Multigraph) (e x y f : ℕ) → is_kept g e x y f ≡ true → f ≢ e
kept-other g e x y f h = eqb-false f e (not-true (f == e) (and_parts (not (f == e)) (not (is_end g y f && are_adjacent g x (other_end g f y))) h).0)

-- an edge at y that stays leads to a vertex that x is not joined with
pub kept-apart : (g : Multigraph) (e x y f : ℕ) → is_kept g e x y f ≡ true → is_end g y f ≡ true → are_adjacent g x (other_end g f y) ≡ false
kept-apart g e x y f h k = false_from_ne_true (are_adjacent g x (other_end g f y)) (λ j.
    both_ways (is_end g y f && are_adjacent g x (other_end g f y))
    (not-true (is_end g y f && are_adjacent g x (other_end g f y)) (and_parts (not (f == e)) (not (is_end g y f && are_adjacent g x (other_end g f y))) h).1)
    (and_from (is_end g y f) (are_adjacent g x (other_end g f y)) k j))

-- an edge that is not contracted, and leads from y to no vertex that x is joined with, stays
pub kept-from : (g : Multigraph) (e x y f : ℕ) → f ≢ e → (is_end g y f ≡ true → are_adjacent g x (other_end g f y) ≡ true → ⊥) → is_kept g e x y f ≡ true
kept-from g e x y f n h = and_from (not (f == e)) (not (is_end g y f && are_adjacent g x (other_end g f y))) (not_from_false (f == e) (ne_eqb f e n))
    (not_from_false (is_end g y f && are_adjacent g x (other_end g f y)) (false_from_ne_true (is_end g y f && are_adjacent g x (other_end g f y)) (λ t.
    let p = and_parts (is_end g y f) (are_adjacent g x (other_end g f y)) t in h p.0 p.1)))

-- an edge that neither stays nor is contracted leads from y to a vertex that x is joined with
pub dropped-joined : (g : Multigraph) (e x y f : ℕ) → is_kept g e x y f ≡ false → f ≢ e → (is_end g y f ≡ true) × (are_adjacent g x (other_end g f y) ≡ true)
dropped-joined g e x y f h n = and_parts (is_end g y f) (are_adjacent g x (other_end g f y))
    (true_from_ne_false (is_end g y f && are_adjacent g x (other_end g f y)) (λ t. both_ways (is_kept g e x y f) h
    (and_from (not (f == e)) (not (is_end g y f && are_adjacent g x (other_end g f y))) (not_from_false (f == e) (ne_eqb f e n)) (not_from_false (is_end g y f && are_adjacent g x (other_end g f y)) t))))

-- an edge is private to y exactly where it is at y and stays
pub private-kept : (g : Multigraph) (e x y f : ℕ) → is_private g e x y f ≡ (is_end g y f && is_kept g e x y f)
private-kept g e x y f = bools (is_end g y f) (f == e) (are_adjacent g x (other_end g f y))
  where
    bools : (a b c : Bool) → (a && (not b && not c)) ≡ (a && (not b && not (a && c)))
    bools a b c = grind (arith, cases_Bool a)

-- what it is to be private
pub private-parts : (g : Multigraph) (e x y f : ℕ) → is_private g e x y f ≡ true → (is_end g y f ≡ true) × (f ≢ e) × (are_adjacent g x (other_end g f y) ≡ false)
private-parts g e x y f h =
    let p = and_parts (is_end g y f) (not (f == e) && not (are_adjacent g x (other_end g f y))) h in
    let q = and_parts (not (f == e)) (not (are_adjacent g x (other_end g f y))) p.1 in
    (p.0, eqb-false f e (not-true (f == e) q.0), not-true (are_adjacent g x (other_end g f y)) q.1)

-- and what makes an edge private
pub private-from : (g : Multigraph) (e x y f : ℕ) → is_end g y f ≡ true → f ≢ e → are_adjacent g x (other_end g f y) ≡ false → is_private g e x y f ≡ true
private-from g e x y f h n j = and_from (is_end g y f) (not (f == e) && not (are_adjacent g x (other_end g f y))) h
    (and_from (not (f == e)) (not (are_adjacent g x (other_end g f y))) (not_from_false (f == e) (ne_eqb f e n)) (not_from_false (are_adjacent g x (other_end g f y)) j))
