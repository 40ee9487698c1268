-- Some vertex of a made graph has three edges: each operation leaves three edges at the vertex that had them.
use Rattle.std.proofs.Common.{◌≡◌, ◌≢◌, ℕ, zero, suc, ◌+◌, ◌<◌, ◌≤◌, ◌⊎◌, inl, inr, ◌==◌, ◌||◌, true, List, [], ◌∷◌, refl, sym, ap, ◌∙◌, subst, arith}
use Rattle.std.proofs.lemmas.Bool.{cases_eq, cases_lt}
use Rattle.multigraph.specs.Graph.{Multigraph, edge_count, ends_of, is_end}
use Rattle.multigraph.proofs.OtherEnd.{is_end-cases, is_end-from_first, is_end-from_second}
use Rattle.made_graph.specs.Made.{tetrahedron, subdivided, drawn, edge_drawn, operation_drawn, turned, made_within}
use Rattle.made_graph.specs.Laws.{HasFork, IsPlanarBlock, MadeHasFork}
use Rattle.made_graph.proofs.Added.{added, added-in, added-old, half-count, half-old, half-here, half-new}
use Rattle.made_graph.proofs.Growth.{IsGrowing, grown-cases, edge-drawn, turned-growing, tetrahedron-growing, within-more, within-over}

-- with more edges
added-fork : (g : Multigraph) (n : ℕ) (links : List (ℕ × ℕ)) → HasFork g → HasFork (added g n links)
added-fork g n links f = record {
  vertex = f.vertex;
  first = f.first;
  second = f.second;
  third = f.third;
  first_in = added-in g n links f.first f.first_in;
  second_in = added-in g n links f.second f.second_in;
  third_in = added-in g n links f.third f.third_in;
  first_there = there f.first f.first_in f.first_there;
  second_there = there f.second f.second_in f.second_there;
  third_there = there f.third f.third_in f.third_there;
  first_second = f.first_second;
  first_third = f.first_third;
  second_third = f.second_third;
}
  where
    there : (e : ℕ) → e < edge_count g → is_end g f.vertex e ≡ true → is_end (added g n links) f.vertex e ≡ true
    there e l t = ap (λ (p : ℕ × ℕ). (p.0 == f.vertex) || (p.1 == f.vertex)) (added-old g n links e l) ∙ t

-- where an edge is subdivided, the edge at v that comes of edge k
record Comes (g : Multigraph) (e v k : ℕ) : Type 0 where
  edge : ℕ
  is : (edge ≡ k) ⊎ ((k ≡ e) × (edge ≡ edge_count g))
  inside : edge < edge_count (subdivided g e)
  there : is_end (subdivided g e) v edge ≡ true

-- a planar block with an edge subdivided
module _ (g : Multigraph) (p : IsPlanarBlock g) (two : 2 ≤ edge_count g) (e : ℕ) (le : e < edge_count g) where
  count-is : edge_count (subdivided g e) ≡ edge_count g + 1
  count-is = half-count g p.is_graph p.one_block two e le

  comes : (v k : ℕ) → k < edge_count g → is_end g v k ≡ true → Comes g e v k
  comes v k l t = elim (cases_eq k e) [
    | inl i ↦ elim (is_end-cases g v e (subst (λ z. is_end g v z ≡ true) i t)) [
      | inl a ↦ record {
        edge = k;
        is = inl refl;
        inside = omega (arith, l, count-is);
        there = is_end-from_first (subdivided g e) v k (ap (λ z. (ends_of (subdivided g e) z).0) i ∙ ap (λ (q : ℕ × ℕ). q.0) (half-here g p.is_graph p.one_block two e le) ∙ a);
      }
      | inr a ↦ record {
        edge = edge_count g;
        is = inr (i, refl);
        inside = omega (arith, count-is);
        there = is_end-from_second (subdivided g e) v (edge_count g) (ap (λ (q : ℕ × ℕ). q.1) (half-new g p.is_graph p.one_block two e le) ∙ a);
      }
    ]
    | inr n ↦ record {
      edge = k;
      is = inl refl;
      inside = omega (arith, l, count-is);
      there = ap (λ (q : ℕ × ℕ). (q.0 == v) || (q.1 == v)) (half-old g p.is_graph p.one_block two e le k l n) ∙ t;
    }
  ]

  -- different edges come of different ones
  differ : (v j k : ℕ) → j < edge_count g → k < edge_count g → j ≢ k → (a : Comes g e v j) (b : Comes g e v k) → a.edge ≢ b.edge
  differ v j k lj lk n a b s = elim a.is [
    | inl x ↦ elim b.is [ inl y ↦ n (sym x ∙ s ∙ y) | inr y ↦ let z : j ≡ edge_count g = sym x ∙ s ∙ y.1 in omega (arith, lj, z) ]
    | inr x ↦ elim b.is [ inl y ↦ let z : k ≡ edge_count g = sym y ∙ sym s ∙ x.1 in omega (arith, lk, z) | inr y ↦ n (x.0 ∙ sym y.0) ]
  ]

  half-fork : HasFork g → HasFork (subdivided g e)
  half-fork f =
      let a = comes f.vertex f.first f.first_in f.first_there in
      let b = comes f.vertex f.second f.second_in f.second_there in
      let c = comes f.vertex f.third f.third_in f.third_there in
      record {
        vertex = f.vertex;
        first = a.edge;
        second = b.edge;
        third = c.edge;
        first_in = a.inside;
        second_in = b.inside;
        third_in = c.inside;
        first_there = a.there;
        second_there = b.there;
        third_there = c.there;
        first_second = differ f.vertex f.first f.second f.first_in f.second_in f.first_second a b;
        first_third = differ f.vertex f.first f.third f.first_in f.third_in f.first_third a c;
        second_third = differ f.vertex f.second f.third f.second_in f.third_in f.second_third b c;
      }

-- a turn
turned-fork : (n : ℕ) (g : Multigraph) (x : ℕ) → edge_count g < n → IsGrowing n g → HasFork g → HasFork (turned g x)
turned-fork n g x l t f =
    let a = t.fewer in
    let s = t.six in
    let e : ℕ = edge_drawn (drawn x) (edge_count g) in
    let le : e < edge_count g = edge-drawn (drawn x) (edge_count g) (omega (arith, s)) in
    grown-cases HasFork g e (operation_drawn (drawn (drawn x))) (half-fork g t.planar (omega (arith, s)) e le f)
    (added-fork g g.vertex_count (ends_of g e ∷ []) f)
    (added-fork g (g.vertex_count + 1) (((ends_of g e).0, g.vertex_count) ∷ (g.vertex_count, (ends_of g e).1) ∷ []) f)
    (added-fork g (g.vertex_count + 2) (((ends_of g e).0, g.vertex_count) ∷ ((ends_of g e).0, g.vertex_count + 1) ∷ ((ends_of g e).1, g.vertex_count) ∷ ((ends_of g e).1, g.vertex_count + 1) ∷ (g.vertex_count, g.vertex_count + 1) ∷ []) f)

within-fork : (turns n : ℕ) (g : Multigraph) (x : ℕ) → IsGrowing n g → HasFork g → HasFork (made_within turns n g x)
within-fork zero n g x t f = f
within-fork (suc turns) n g x t f = elim (cases_lt (edge_count g) n) [
  | inl l ↦ subst HasFork (sym (within-more turns n g x l)) (within-fork turns n (turned g x) (drawn (drawn x)) (turned-growing n g x l t) (turned-fork n g x l t f))
  | inr l ↦ subst HasFork (sym (within-over (suc turns) n g x l)) f
]

-- at the start there are three edges at vertex 0
tetrahedron-fork : HasFork tetrahedron
tetrahedron-fork = record {
  vertex = 0;
  first = 0;
  second = 1;
  third = 2;
  first_in = omega arith;
  second_in = omega arith;
  third_in = omega arith;
  first_there = refl;
  second_there = refl;
  third_there = refl;
  first_second = λ e. omega (arith, e);
  first_third = λ e. omega (arith, e);
  second_third = λ e. omega (arith, e);
}

-- so at the end some vertex has three
pub made-fork : MadeHasFork
made-fork n seed l = within-fork n n tetrahedron seed (tetrahedron-growing n l) tetrahedron-fork
