-- The ends of some edges, and their places.
use Rattle.std.proofs.Common.{◌≡◌, ℕ, ◌+◌, ◌<◌, ◌≤◌, eqb, true, List, [], ◌∷◌, ◌++◌, length, get_or, take, refl, sym, ap, ◌∙◌, subst, inl, inr, arith}
use Rattle.std.specs.List.{Contains, dedup}
use Rattle.std.specs.List.Sorted.{IsPermutation, IsSorted}
use Rattle.std.specs.Ordering.{nat_cmp}
use Rattle.std.proofs.lemmas.Bool.{cases_lt}
use Rattle.std.proofs.lemmas.List.{take_more, length_push, get_or_push, get_or_append_left}
use Rattle.std.proofs.lemmas.List.Elements.{Contains-append_left, Contains-push, Contains-push_cases, Contains-get_or}
use Rattle.std.proofs.lemmas.List.Sorted.{Contains-permutation, IsPermutation-sym}
use Rattle.std.specs.List.Retain.{IsFiltered, DiffersFromLast}
use Rattle.std.proofs.lemmas.List.Filters.{dedup_is}
use Rattle.std.proofs.lemmas.List.Kept.{Contains-dedup_nat, Contains-from_dedup, AllPairs-from_increasing}
use Rattle.std.proofs.lemmas.Map.Keys.{IsStrictlyIncreasing-dedup}
use Rattle.multigraph.specs.Graph.{Multigraph, edge_count, ends_of, is_end, max_vertices, IsGraph, IsWithinLimits}
use Rattle.multigraph.specs.Build.{multigraph_of}
use Rattle.multigraph.specs.Part.{Rises, GraphPart, IsEndOf, HoldEnds, AreEnds, AreInnerEnds, IsPart, IsPartOn}
use Rattle.multigraph.proofs.OtherEnd.{is_end-first, is_end-second, is_end-cases}
use Rattle.multigraph.proofs.Places.{rises-short}

-- one edge more, with its two ends behind the others
pub ends-more : (g : Multigraph) (edges ends : List ℕ) (e : ℕ) → e < edge_count g → AreEnds g edges ends → AreEnds g (edges ++ e ∷ []) ((ends ++ (ends_of g e).0 ∷ []) ++ (ends_of g e).1 ∷ [])
ends-more g edges ends e l h v = (found, held)
  where
    first : List ℕ
    first = ends ++ (ends_of g e).0 ∷ []

    found : Contains ((ends ++ (ends_of g e).0 ∷ []) ++ (ends_of g e).1 ∷ []) v → IsEndOf g (edges ++ e ∷ []) v
    found c = elim (Contains-push_cases (ends ++ (ends_of g e).0 ∷ []) (ends_of g e).1 v c) [
      | inl d ↦ elim (Contains-push_cases ends (ends_of g e).0 v d) [
        | inl old ↦ let w = (h v).0 old in record { edge = w.edge; among = Contains-append_left edges (e ∷ []) w.edge w.among; is_edge = w.is_edge; ends_there = w.ends_there }
        | inr q ↦ record { edge = e; among = Contains-push edges e; is_edge = l; ends_there = subst (λ (u : ℕ). is_end g u e ≡ true) q (is_end-first g e) }
      ]
      | inr q ↦ record { edge = e; among = Contains-push edges e; is_edge = l; ends_there = subst (λ (u : ℕ). is_end g u e ≡ true) q (is_end-second g e) }
    ]

    at_end : is_end g v e ≡ true → Contains ((ends ++ (ends_of g e).0 ∷ []) ++ (ends_of g e).1 ∷ []) v
    at_end t = elim (is_end-cases g v e t) [
      | inl q ↦ subst (λ (u : ℕ). Contains ((ends ++ (ends_of g e).0 ∷ []) ++ (ends_of g e).1 ∷ []) u) q (Contains-append_left (ends ++ (ends_of g e).0 ∷ []) ((ends_of g e).1 ∷ []) (ends_of g e).0 (Contains-push ends (ends_of g e).0))
      | inr q ↦ subst (λ (u : ℕ). Contains ((ends ++ (ends_of g e).0 ∷ []) ++ (ends_of g e).1 ∷ []) u) q (Contains-push (ends ++ (ends_of g e).0 ∷ []) (ends_of g e).1)
    ]

    held : IsEndOf g (edges ++ e ∷ []) v → Contains ((ends ++ (ends_of g e).0 ∷ []) ++ (ends_of g e).1 ∷ []) v
    held w = elim (Contains-push_cases edges e w.edge w.among) [
      | inl old ↦ Contains-append_left (ends ++ (ends_of g e).0 ∷ []) ((ends_of g e).1 ∷ []) v (Contains-append_left ends ((ends_of g e).0 ∷ []) v ((h v).1 (record { edge = w.edge; among = old; is_edge = w.is_edge; ends_there = w.ends_there })))
      | inr q ↦ at_end (subst (λ (f : ℕ). is_end g v f ≡ true) (sym q) w.ends_there)
    ]

-- the same in a list of edges, by what two pushes gave
pub ends-more-by : (g : Multigraph) (edges : List ℕ) (k : ℕ) (old new : List ℕ) (pair : ℕ × ℕ) → k < length edges → get_or edges k 0 < edge_count g → pair ≡ ends_of g (get_or edges k 0) → new ≡ (old ++ pair.0 ∷ []) ++ pair.1 ∷ [] → AreEnds g (take k edges) old → AreEnds g (take (k + 1) edges) new
ends-more-by g edges k old new pair l m is e h =
    let f : new ≡ (old ++ (ends_of g (get_or edges k 0)).0 ∷ []) ++ (ends_of g (get_or edges k 0)).1 ∷ [] = e ∙ ap (λ (x : ℕ × ℕ). (old ++ x.0 ∷ []) ++ x.1 ∷ []) is in
    subst (λ (xs : List ℕ). AreEnds g (take (k + 1) edges) xs) (sym f)
    (subst (λ (xs : List ℕ). AreEnds g xs ((old ++ (ends_of g (get_or edges k 0)).0 ∷ []) ++ (ends_of g (get_or edges k 0)).1 ∷ [])) (sym (take_more edges k 0 l))
    (ends-more g (take k edges) old (get_or edges k 0) m h))

-- the ends sorted, each once, are the ends
pub ends-sorted : (g : Multigraph) (edges ends sorted once : List ℕ) → AreEnds g edges ends → IsPermutation ends sorted → IsFiltered (DiffersFromLast eqb) [] sorted once → AreEnds g edges once
ends-sorted g edges ends sorted once h p f = subst (λ (l : List ℕ). AreEnds g edges l) (sym (dedup_is eqb sorted once f)) (λ v.
    (λ c. (h v).0 (Contains-permutation sorted ends v (IsPermutation-sym ends sorted p) (Contains-from_dedup eqb sorted v c)), λ w. Contains-dedup_nat sorted v (Contains-permutation ends sorted v p ((h v).1 w))))

-- and they rise
pub once-rises : (sorted once : List ℕ) → IsSorted nat_cmp sorted → IsFiltered (DiffersFromLast eqb) [] sorted once → Rises once
once-rises sorted once s f = subst (λ (l : List ℕ). Rises l) (sym (dedup_is eqb sorted once f)) (λ i j less within. AllPairs-from_increasing (dedup eqb sorted) (IsStrictlyIncreasing-dedup sorted s) i j 0 less within)

-- the first end of one of the edges is among the vertices
pub ends-first : (g : Multigraph) (edges vertices : List ℕ) (k : ℕ) → HoldEnds g edges vertices → k < length edges → get_or edges k 0 < edge_count g → Contains vertices (ends_of g (get_or edges k 0)).0
ends-first g edges vertices k h l m =
    h (ends_of g (get_or edges k 0)).0 (record { edge = get_or edges k 0; among = Contains-get_or edges k 0 l; is_edge = m; ends_there = is_end-first g (get_or edges k 0) })

-- so is its second end
pub ends-second : (g : Multigraph) (edges vertices : List ℕ) (k : ℕ) → HoldEnds g edges vertices → k < length edges → get_or edges k 0 < edge_count g → Contains vertices (ends_of g (get_or edges k 0)).1
ends-second g edges vertices k h l m =
    h (ends_of g (get_or edges k 0)).1 (record { edge = get_or edges k 0; among = Contains-get_or edges k 0 l; is_edge = m; ends_there = is_end-second g (get_or edges k 0) })

-- the places of the ends of one edge more
pub inner-more : (g : Multigraph) (edges vertices : List ℕ) (ends : List (ℕ × ℕ)) (e p q : ℕ) → AreInnerEnds g edges vertices ends → p < length vertices → get_or vertices p 0 ≡ (ends_of g e).0 → q < length vertices → get_or vertices q 0 ≡ (ends_of g e).1 → AreInnerEnds g (edges ++ e ∷ []) vertices (ends ++ (p, q) ∷ [])
inner-more g edges vertices ends e p q h p_in p_is q_in q_is =
    let long : length (edges ++ e ∷ []) ≡ length edges + 1 = length_push edges e in
    record {
      each = omega (arith, h.each, length_push ends (p, q));
      first_in = λ k l. elim (cases_lt k (length edges)) [
        | inl m ↦ subst (λ (x : ℕ × ℕ). x.0 < length vertices) (sym (old k m)) (h.first_in k m)
        | inr m ↦ subst (λ (x : ℕ × ℕ). x.0 < length vertices) (sym (new k (omega (arith, long)))) p_in
      ];
      first = λ k l. elim (cases_lt k (length edges)) [
        | inl m ↦ ap (λ (x : ℕ × ℕ). get_or vertices x.0 0) (old k m) ∙ (h.first k m ∙ ap (λ (f : ℕ). (ends_of g f).0) (sym (old_edge k m)))
        | inr m ↦ ap (λ (x : ℕ × ℕ). get_or vertices x.0 0) (new k (omega (arith, long))) ∙ (p_is ∙ ap (λ (f : ℕ). (ends_of g f).0) (sym (new_edge k (omega (arith, long)))))
      ];
      second_in = λ k l. elim (cases_lt k (length edges)) [
        | inl m ↦ subst (λ (x : ℕ × ℕ). x.1 < length vertices) (sym (old k m)) (h.second_in k m)
        | inr m ↦ subst (λ (x : ℕ × ℕ). x.1 < length vertices) (sym (new k (omega (arith, long)))) q_in
      ];
      second = λ k l. elim (cases_lt k (length edges)) [
        | inl m ↦ ap (λ (x : ℕ × ℕ). get_or vertices x.1 0) (old k m) ∙ (h.second k m ∙ ap (λ (f : ℕ). (ends_of g f).1) (sym (old_edge k m)))
        | inr m ↦ ap (λ (x : ℕ × ℕ). get_or vertices x.1 0) (new k (omega (arith, long))) ∙ (q_is ∙ ap (λ (f : ℕ). (ends_of g f).1) (sym (new_edge k (omega (arith, long)))))
      ];
    }
  where
    old : (k : ℕ) → k < length edges → get_or (ends ++ (p, q) ∷ []) k (0, 0) ≡ get_or ends k (0, 0)
    old k m = get_or_append_left ends ((p, q) ∷ []) (0, 0) k (omega (arith, h.each))

    new : (k : ℕ) → k ≡ length edges → get_or (ends ++ (p, q) ∷ []) k (0, 0) ≡ (p, q)
    new k m = get_or_push ends (p, q) (0, 0) k (omega (arith, h.each))

    old_edge : (k : ℕ) → k < length edges → get_or (edges ++ e ∷ []) k 0 ≡ get_or edges k 0
    old_edge k m = get_or_append_left edges (e ∷ []) 0 k m

    new_edge : (k : ℕ) → k ≡ length edges → get_or (edges ++ e ∷ []) k 0 ≡ e
    new_edge k m = get_or_push edges e 0 k (omega arith)

-- the same in a list of edges, by what a push gave
pub inner-more-by : (g : Multigraph) (edges vertices : List ℕ) (k : ℕ) (old new : List (ℕ × ℕ)) (p q : ℕ) → k < length edges → AreInnerEnds g (take k edges) vertices old → p < length vertices → get_or vertices p 0 ≡ (ends_of g (get_or edges k 0)).0 → q < length vertices → get_or vertices q 0 ≡ (ends_of g (get_or edges k 0)).1 → new ≡ old ++ (p, q) ∷ [] → AreInnerEnds g (take (k + 1) edges) vertices new
inner-more-by g edges vertices k old new p q l h p_in p_is q_in q_is e =
    subst (λ (xs : List (ℕ × ℕ)). AreInnerEnds g (take (k + 1) edges) vertices xs) (sym e)
    (subst (λ (xs : List ℕ). AreInnerEnds g xs vertices (old ++ (p, q) ∷ [])) (sym (take_more edges k 0 l))
    (inner-more g (take k edges) vertices old (get_or edges k 0) p q h p_in p_is q_in q_is))

-- each vertex is one of the whole graph
pub ends-in : (g : Multigraph) (edges vertices : List ℕ) → IsGraph g → AreEnds g edges vertices → (i : ℕ) → i < length vertices → get_or vertices i 0 < g.vertex_count
ends-in g edges vertices ok h i l = from ((h (get_or vertices i 0)).0 (Contains-get_or vertices i 0 l))
  where
    from : IsEndOf g edges (get_or vertices i 0) → get_or vertices i 0 < g.vertex_count
    from w =
        elim (is_end-cases g (get_or vertices i 0) w.edge w.ends_there) [
          | inl q ↦ subst (λ (v : ℕ). v < g.vertex_count) q (ok.first_in w.edge w.is_edge)
          | inr q ↦ subst (λ (v : ℕ). v < g.vertex_count) q (ok.second_in w.edge w.is_edge)
        ]

-- there are at most as many as a graph has
pub ends-few : (g : Multigraph) (edges vertices : List ℕ) → IsGraph g → IsWithinLimits g → Rises vertices → AreEnds g edges vertices → length vertices ≤ max_vertices
ends-few g edges vertices ok limits rising are = omega (arith, limits.few_vertices, rises-short vertices g.vertex_count rising (ends-in g edges vertices ok are))

-- the part is a graph
pub inner-graph : (g : Multigraph) (edges vertices : List ℕ) (ends : List (ℕ × ℕ)) → IsGraph g → ((i : ℕ) → i < length edges → get_or edges i 0 < edge_count g) → AreInnerEnds g edges vertices ends → IsGraph (multigraph_of (length vertices) ends)
inner-graph g edges vertices ends ok within inner = record {
  first_in = λ e l. inner.first_in e (omega (arith, inner.each));
  second_in = λ e l. inner.second_in e (omega (arith, inner.each));
  no_loop = λ e l same.
      let m : e < length edges = omega (arith, inner.each) in
      ok.no_loop (get_or edges e 0) (within e m) (sym (inner.first e m) ∙ (ap (λ (x : ℕ). get_or vertices x 0) same ∙ inner.second e m));
}

-- the same, by the names that the ends and their number have
pub inner-graph-by : (g : Multigraph) (edges vertices lent : List ℕ) (ends : List (ℕ × ℕ)) (n : ℕ) → IsGraph g → ((i : ℕ) → i < length edges → get_or edges i 0 < edge_count g) → lent ≡ vertices → AreInnerEnds g edges lent ends → n ≡ length vertices → IsGraph (multigraph_of n ends)
inner-graph-by g edges vertices lent ends n ok within same inner many =
    subst (λ (k : ℕ). IsGraph (multigraph_of k ends)) (sym many)
    (inner-graph g edges vertices ends ok within (subst (λ (l : List ℕ). AreInnerEnds g edges l ends) same inner))

-- the part is within the limits, where the whole is and the vertices are few
pub inner-limits-by : (g : Multigraph) (edges lent : List ℕ) (ends : List (ℕ × ℕ)) (n : ℕ) → IsWithinLimits g → Rises edges → ((i : ℕ) → i < length edges → get_or edges i 0 < edge_count g) → AreInnerEnds g edges lent ends → n ≤ max_vertices → IsWithinLimits (multigraph_of n ends)
inner-limits-by g edges lent ends n limits rising within inner few = record {
  few_vertices = few;
  few_edges = omega (arith, limits.few_edges, inner.each, rises-short edges (edge_count g) rising within);
}

-- the part that edges make is the part on their ends
pub part-on : (g : Multigraph) (edges : List ℕ) (part : GraphPart) → IsPart g edges part → IsPartOn g part.vertices edges part × AreEnds g edges part.vertices
part-on g edges part h = (record { vertices_are = refl; edges_are = h.edges_are; numbered = h.numbered; ends = h.ends }, h.vertices)

pub part-from : (g : Multigraph) (vertices edges : List ℕ) (part : GraphPart) → AreEnds g edges vertices → IsPartOn g vertices edges part → IsPart g edges part
part-from g vertices edges part are h = record {
  edges_are = h.edges_are;
  numbered = h.numbered;
  vertices = subst (AreEnds g edges) (sym h.vertices_are) are;
  ends = subst (λ (l : List ℕ). AreInnerEnds g edges l part.graph.ends) (sym h.vertices_are) h.ends;
}
