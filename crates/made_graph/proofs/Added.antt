-- A block with more edges, each on a cycle with an old one, is a block; so is one with an edge subdivided.
use Rattle.std.proofs.Common.{◌≡◌, ◌≢◌, ℕ, ◌+◌, ◌-◌, ◌<◌, ◌≤◌, ◌⊎◌, inl, inr, true, false, ◌==◌, ◌||◌, List, [], ◌∷◌, ◌++◌, length, get_or, slice_set, refl, sym, ap, ◌∙◌, subst, arith}
use Rattle.std.proofs.lemmas.Bool.{cases_eq, cases_lt, both_ways, false_from_ne_true}
use Rattle.std.proofs.lemmas.List.{get_or_append_left, get_or-append-add, get_or_push, length-append, get_or-set_same, get_or-set_other, length-set}
use Rattle.permutations.specs.Members.{is_member, is_distinct}
use Rattle.permutations.proofs.Members.{member-head, member-tail, member-cases, no_member-cons, distinct-cons, distinct-head, distinct-tail}
use Rattle.multigraph.specs.Graph.{Multigraph, edge_count, ends_of, is_end, other_end, IsGraph}
use Rattle.multigraph.proofs.OtherEnd.{is_end-from_first, is_end-from_second, is_end-cases, other_end-of_first, other_end-of_second, end-in}
use Rattle.graph_theory.specs.Path.{walk_end, walk_starts, IsWalk, IsCycle}
use Rattle.graph_theory.specs.Block.{SameBlock, IsOneBlock}
use Rattle.graph_theory.proofs.Walks.{walk-edge}
use Rattle.graph_theory.proofs.Exchange.{block-symmetric, block-transitive, cycle_with, BegunWith}
use Rattle.made_graph.specs.Made.{subdivided}
use Rattle.made_graph.proofs.Rounds.{Leads, leads-forth, leads-back, go-walk, go-end, go-starts, AreIn, kept-walk, kept-end, kept-starts, kept-cycle}

-- the graph with so many vertices and more edges
abbrev pub added : Multigraph → ℕ → List (ℕ × ℕ) → Multigraph
added g n links = record { vertex_count = n; ends = g.ends ++ links }

-- the two ends are different vertices
pub record AreSound (n : ℕ) (link : ℕ × ℕ) : Type 0 where
  pub first_in : link.0 < n
  pub second_in : link.1 < n
  pub differ : link.0 ≢ link.1

module _ (g : Multigraph) (n : ℕ) (links : List (ℕ × ℕ)) where
  -- so many edges
  pub added-count : edge_count (added g n links) ≡ edge_count g + length links
  added-count = length-append g.ends links

  -- an old edge is one, with its ends
  pub added-in : (k : ℕ) → k < edge_count g → k < edge_count (added g n links)
  added-in k l = omega (arith, l, added-count)

  pub added-old : (k : ℕ) → k < edge_count g → ends_of (added g n links) k ≡ ends_of g k
  added-old k l = get_or_append_left g.ends links (0, 0) k l

  -- a new one has the ends given
  pub added-new : (k : ℕ) → ends_of (added g n links) (edge_count g + k) ≡ get_or links k (0, 0)
  added-new k = get_or-append-add g.ends links k (0, 0)

  -- an edge is old or new
  added-cases : (k : ℕ) → k < edge_count (added g n links) → (k < edge_count g) ⊎ ((i : ℕ) × (i < length links) × (k ≡ edge_count g + i))
  added-cases k l = elim (cases_lt k (edge_count g)) [
    | inl i ↦ inl i
    | inr i ↦ inr (k - edge_count g, omega (arith, l, i, added-count), omega (arith, i))
  ]

  -- sound edges make a graph
  pub added-graph : IsGraph g → g.vertex_count ≤ n → ((k : ℕ) → k < length links → AreSound n (get_or links k (0, 0))) → IsGraph (added g n links)
  added-graph ok more sound = record {
    first_in = λ e l. elim (added-cases e l) [
      | inl i ↦ let h = ok.first_in e i in subst (λ (p : ℕ × ℕ). p.0 < n) (sym (added-old e i)) (omega (arith, h, more))
      | inr i ↦ subst (λ (p : ℕ × ℕ). p.0 < n) (sym (ap (ends_of (added g n links)) i.2 ∙ added-new i.0)) (sound i.0 i.1).first_in
    ];
    second_in = λ e l. elim (added-cases e l) [
      | inl i ↦ let h = ok.second_in e i in subst (λ (p : ℕ × ℕ). p.1 < n) (sym (added-old e i)) (omega (arith, h, more))
      | inr i ↦ subst (λ (p : ℕ × ℕ). p.1 < n) (sym (ap (ends_of (added g n links)) i.2 ∙ added-new i.0)) (sound i.0 i.1).second_in
    ];
    no_loop = λ e l. elim (added-cases e l) [
      | inl i ↦ subst (λ (p : ℕ × ℕ). p.0 ≢ p.1) (sym (added-old e i)) (ok.no_loop e i)
      | inr i ↦ subst (λ (p : ℕ × ℕ). p.0 ≢ p.1) (sym (ap (ends_of (added g n links)) i.2 ∙ added-new i.0)) (sound i.0 i.1).differ
    ];
  }

  -- old edges share a block as before
  pub added-share : (e f : ℕ) → SameBlock g e f → SameBlock (added g n links) e f
  added-share e f s = elim s [
    | inl i ↦ inl i
    | inr c ↦ inr (record {
      start = c.start;
      along = c.along;
      cycle = kept-cycle g (added g n links) c.start c.along (λ k m. let l = walk-edge g c.start c.along c.cycle.walk k m in (added-in k l, added-old k l)) c.cycle;
      first_on = c.first_on;
      second_on = c.second_on;
    })
  ]

  -- a block where each new edge shares a block with an old one, and each new vertex has a new edge
  pub added-block : IsOneBlock g → IsGraph (added g n links) → (e : ℕ) → e < edge_count g → ((k : ℕ) → k < length links → SameBlock (added g n links) (edge_count g + k) e)
      → ((v : ℕ) → g.vertex_count ≤ v → v < n → (k : ℕ) × (k < length links) × (is_end (added g n links) v (edge_count g + k) ≡ true)) → IsOneBlock (added g n links)
  added-block one ok e le shares at = record {
    has_edge = omega (arith, one.has_edge, added-count);
    at_edge = λ v l. elim (cases_lt v g.vertex_count) [
      | inl i ↦ let w = one.at_edge v i in (w.0, added-in w.0 w.1, ap (λ (p : ℕ × ℕ). (p.0 == v) || (p.1 == v)) (added-old w.0 w.1) ∙ w.2)
      | inr i ↦ let w = at v i l in (edge_count g + w.0, omega (arith, w.1, added-count), w.2)
    ];
    same_block = λ a b la lb. block-transitive (added g n links) ok a e b (with_e a la) (block-symmetric (added g n links) b e (with_e b lb));
  }
    where
      with_e : (a : ℕ) → a < edge_count (added g n links) → SameBlock (added g n links) a e
      with_e a la = elim (added-cases a la) [
        | inl i ↦ added-share a e (one.same_block a e i le)
        | inr i ↦ subst (λ z. SameBlock (added g n links) z e) (sym i.2) (shares i.0 i.1)
      ]

-- an edge subdivided
module _ (g : Multigraph) (ok : IsGraph g) (one : IsOneBlock g) (two : 2 ≤ edge_count g) (e : ℕ) (le : e < edge_count g) where
  abbrev h : Multigraph
  h = subdivided g e

  abbrev m : ℕ
  m = edge_count g

  abbrev u : ℕ
  u = (ends_of g e).0

  abbrev w : ℕ
  w = (ends_of g e).1

  abbrev z : ℕ
  z = g.vertex_count

  pub half-count : edge_count h ≡ m + 1
  half-count = length-append (slice_set g.ends e (u, z)) ((z, w) ∷ []) ∙ ap (λ k. k + 1) (length-set g.ends e (u, z))

  half-in : (k : ℕ) → k < m → k < edge_count h
  half-in k l = omega (arith, l, half-count)

  pub half-old : (k : ℕ) → k < m → (k ≡ e → ⊥) → ends_of h k ≡ ends_of g k
  half-old k l i = get_or_append_left (slice_set g.ends e (u, z)) ((z, w) ∷ []) (0, 0) k (omega (arith, l, length-set g.ends e (u, z))) ∙ get_or-set_other g.ends e k (u, z) (0, 0) i

  pub half-here : ends_of h e ≡ (u, z)
  half-here = get_or_append_left (slice_set g.ends e (u, z)) ((z, w) ∷ []) (0, 0) e (omega (arith, le, length-set g.ends e (u, z))) ∙ get_or-set_same g.ends e (u, z) (0, 0) le

  pub half-new : ends_of h m ≡ (z, w)
  half-new = get_or_push (slice_set g.ends e (u, z)) (z, w) (0, 0) m (length-set g.ends e (u, z))

  u-in : u < z
  u-in = ok.first_in e le

  w-in : w < z
  w-in = ok.second_in e le

  half-cases : (k : ℕ) → k < edge_count h → ((k < m) × (k ≡ e → ⊥)) ⊎ ((k ≡ e) ⊎ (k ≡ m))
  half-cases k l = elim (cases_eq k e) [
    | inl i ↦ inr (inl i)
    | inr i ↦ elim (cases_eq k m) [ inl j ↦ inr (inr j) | inr j ↦ inl (omega (arith, l, j, half-count), i) ]
  ]

  -- it is a graph
  pub half-graph : IsGraph h
  half-graph = record {
    first_in = λ k l. elim (half-cases k l) [
      | inl i ↦ let t = ok.first_in k i.0 in subst (λ (p : ℕ × ℕ). p.0 < z + 1) (sym (half-old k i.0 i.1)) (omega (arith, t))
      | inr i ↦ elim i [
        | inl j ↦ subst (λ (p : ℕ × ℕ). p.0 < z + 1) (sym (ap (ends_of h) j ∙ half-here)) (omega (arith, u-in))
        | inr j ↦ subst (λ (p : ℕ × ℕ). p.0 < z + 1) (sym (ap (ends_of h) j ∙ half-new)) (omega arith)
      ]
    ];
    second_in = λ k l. elim (half-cases k l) [
      | inl i ↦ let t = ok.second_in k i.0 in subst (λ (p : ℕ × ℕ). p.1 < z + 1) (sym (half-old k i.0 i.1)) (omega (arith, t))
      | inr i ↦ elim i [
        | inl j ↦ subst (λ (p : ℕ × ℕ). p.1 < z + 1) (sym (ap (ends_of h) j ∙ half-here)) (omega arith)
        | inr j ↦ subst (λ (p : ℕ × ℕ). p.1 < z + 1) (sym (ap (ends_of h) j ∙ half-new)) (omega (arith, w-in))
      ]
    ];
    no_loop = λ k l. elim (half-cases k l) [
      | inl i ↦ subst (λ (p : ℕ × ℕ). p.0 ≢ p.1) (sym (half-old k i.0 i.1)) (ok.no_loop k i.0)
      | inr i ↦ elim i [
        | inl j ↦ subst (λ (p : ℕ × ℕ). p.0 ≢ p.1) (sym (ap (ends_of h) j ∙ half-here)) (λ s. omega (arith, u-in, s))
        | inr j ↦ subst (λ (p : ℕ × ℕ). p.0 ≢ p.1) (sym (ap (ends_of h) j ∙ half-new)) (λ s. omega (arith, w-in, s))
      ]
    ];
  }

  -- the two halves, one way and the other
  e-in : e < edge_count h
  e-in = half-in e le

  m-in : m < edge_count h
  m-in = omega (arith, half-count)

  -- a vertex that a walk of g passes is no new one
  starts-old : (x : ℕ) (es : List ℕ) → IsWalk g x es → is_member z (walk_starts g x es) ≡ false
  starts-old x [] t = refl
  starts-old x (k ∷ es) t = no_member-cons z x (walk_starts g (other_end g k x) es) (λ i. let l : x < z = end-in g x k ok t.0.0 t.0.1 in omega (arith, l, i)) (starts-old (other_end g k x) es t.1)

  -- the rest of a cycle through e is in the new graph
  rest-in : (x : ℕ) (rest : List ℕ) → IsCycle g x (e ∷ rest) → AreIn g h rest
  rest-in x rest c k t =
      let l = walk-edge g (other_end g e x) rest c.walk.1 k t in
      (half-in k l, half-old k l (λ i. both_ways (is_member k rest) (ap (λ s. is_member s rest) i ∙ distinct-head e rest c.edges) t))

  -- a cycle through e leads through both halves: a first edge, then the other, then the rest
  rerouted : (x y a b : ℕ) (rest : List ℕ) → IsCycle g x (e ∷ rest) → other_end g e x ≡ y → Leads h x a z → Leads h z b y → a ≢ b → is_member a rest ≡ false → is_member b rest ≡ false → IsCycle h x (a ∷ b ∷ rest)
  rerouted x y a b rest c o s t n na nb = record {
    walk = go-walk h x a z (b ∷ rest) s (go-walk h z b y rest t (kept-walk g h y rest inside walk));
    returns = go-end h x a z (b ∷ rest) s ∙ go-end h z b y rest t ∙ kept-end g h y rest inside walk ∙ ap (λ v. walk_end g v rest) (sym o) ∙ c.returns;
    two = omega arith;
    edges = distinct-cons a (b ∷ rest) (no_member-cons a b rest (λ i. n (sym i)) na) (distinct-cons b rest nb (distinct-tail e rest c.edges));
    vertices = subst (λ (l : List ℕ). is_distinct l ≡ true) (sym starts)
        (distinct-cons x (z ∷ walk_starts g y rest) (no_member-cons x z (walk_starts g y rest) (λ i. let l : x < z = end-in g x e ok le c.walk.0.1 in omega (arith, l, i)) x-off)
        (distinct-cons z (walk_starts g y rest) (starts-old y rest walk) (subst (λ v. is_distinct (walk_starts g v rest) ≡ true) o (distinct-tail x (walk_starts g (other_end g e x) rest) c.vertices))));
  }
    where
      inside : AreIn g h rest
      inside = rest-in x rest c

      walk : IsWalk g y rest
      walk = subst (λ v. IsWalk g v rest) o c.walk.1

      x-off : is_member x (walk_starts g y rest) ≡ false
      x-off = subst (λ v. is_member x (walk_starts g v rest) ≡ false) o (distinct-head x (walk_starts g (other_end g e x) rest) c.vertices)

      starts : walk_starts h x (a ∷ b ∷ rest) ≡ x ∷ z ∷ walk_starts g y rest
      starts = go-starts h x a z (b ∷ rest) s ∙ ap (λ (l : List ℕ). x ∷ l) (go-starts h z b y rest t ∙ ap (λ (l : List ℕ). z ∷ l) (kept-starts g h y rest inside walk))

  -- what is on a cycle with e is on one with e and the new edge
  record Widened (f : ℕ) : Type 0 where
    start : ℕ
    along : List ℕ
    cycle : IsCycle h start along
    has_e : is_member e along ≡ true
    has_new : is_member m along ≡ true
    has_f : is_member f along ≡ true

  widened : (x : ℕ) (rest : List ℕ) (f : ℕ) → IsCycle g x (e ∷ rest) → is_member f rest ≡ true → Widened f
  widened x rest f c t = elim (is_end-cases g x e c.walk.0.1) [
    | inl i ↦ record {
      start = x;
      along = e ∷ m ∷ rest;
      cycle = rerouted x w e m rest c (other_end-of_first g e x i) (subst (λ v. Leads h v e z) i (leads-forth h e u z e-in half-here)) (leads-forth h m z w m-in half-new) (λ s. omega (arith, le, s)) e-off m-off;
      has_e = member-head e (m ∷ rest);
      has_new = member-tail m e (m ∷ rest) (member-head m rest);
      has_f = member-tail f e (m ∷ rest) (member-tail f m rest t);
    }
    | inr i ↦ record {
      start = x;
      along = m ∷ e ∷ rest;
      cycle = rerouted x u m e rest c (other_end-of_second g e x i (ok.no_loop e le)) (subst (λ v. Leads h v m z) i (leads-back h m z w m-in half-new (λ s. omega (arith, w-in, s)))) (leads-back h e u z e-in half-here (λ s. omega (arith, u-in, s))) (λ s. omega (arith, le, s)) m-off e-off;
      has_e = member-tail e m (e ∷ rest) (member-head e rest);
      has_new = member-head m (e ∷ rest);
      has_f = member-tail f m (e ∷ rest) (member-tail f e rest t);
    }
  ]
    where
      e-off : is_member e rest ≡ false
      e-off = distinct-head e rest c.edges

      m-off : is_member m rest ≡ false
      m-off = false_from_ne_true (is_member m rest) (λ s. let l = walk-edge g (other_end g e x) rest c.walk.1 m s in omega (arith, l))

  widened-with : (f : ℕ) → f < m → (f ≡ e → ⊥) → Widened f
  widened-with f l n = elim (one.same_block f e l le) [
    | inl i ↦ absurd (n i)
    | inr c ↦
        let b : BegunWith g c.along e = cycle_with g c.start c.along e c.cycle c.second_on in
        widened b.start b.rest f b.cycle (elim (member-cases f e b.rest (b.same_edges f ∙ c.first_on)) [ inl i ↦ absurd (n (sym i)) | inr i ↦ i ])
  ]

  -- another edge than e
  another : (f : ℕ) × (f < m) × (f ≡ e → ⊥)
  another = elim (cases_eq e 0) [
    | inl i ↦ (1, omega (arith, two), λ s. omega (arith, i, s))
    | inr i ↦ (0, omega (arith, two), λ s. omega (arith, i, s))
  ]

  with_e : (k : ℕ) → k < edge_count h → SameBlock h k e
  with_e k l = elim (half-cases k l) [
    | inl i ↦ let c = widened-with k i.0 i.1 in inr (record { start = c.start; along = c.along; cycle = c.cycle; first_on = c.has_f; second_on = c.has_e })
    | inr i ↦ elim i [
      | inl j ↦ inl j
      | inr j ↦ let a = another in let c = widened-with a.0 a.1 a.2 in inr (record { start = c.start; along = c.along; cycle = c.cycle; first_on = subst (λ s. is_member s c.along ≡ true) (sym j) c.has_new; second_on = c.has_e })
    ]
  ]

  -- so the graph with the edge subdivided is a block
  pub half-block : IsOneBlock h
  half-block = record {
    has_edge = omega (arith, half-count);
    at_edge = at;
    same_block = λ a b la lb. block-transitive h half-graph a e b (with_e a la) (block-symmetric h b e (with_e b lb));
  }
    where
      at : (v : ℕ) → v < z + 1 → (k : ℕ) × (k < edge_count h) × (is_end h v k ≡ true)
      at v l = elim (cases_eq v z) [
        | inl i ↦ (m, m-in, is_end-from_first h v m (ap (λ (p : ℕ × ℕ). p.0) half-new ∙ sym i))
        | inr i ↦
            let s = one.at_edge v (omega (arith, l, i)) in
            elim (cases_eq s.0 e) [
              | inl j ↦ elim (is_end-cases g v e (subst (λ k. is_end g v k ≡ true) j s.2)) [
                | inl t ↦ (e, e-in, is_end-from_first h v e (ap (λ (p : ℕ × ℕ). p.0) half-here ∙ t))
                | inr t ↦ (m, m-in, is_end-from_second h v m (ap (λ (p : ℕ × ℕ). p.1) half-new ∙ t))
              ]
              | inr j ↦ (s.0, half-in s.0 s.1, ap (λ (p : ℕ × ℕ). (p.0 == v) || (p.1 == v)) (half-old s.0 s.1 j) ∙ s.2)
            ]
      ]
