-- A path of a graph with an edge contracted is lifted to a path of the graph.
use Rattle.std.proofs.Common.{◌≡◌, ◌≢◌, ℕ, ◌<◌, ◌⊎◌, inl, inr, Bool, true, false, if◌then◌else◌, List, [], ◌∷◌, map, refl, sym, ap, ◌∙◌, subst}
use Rattle.std.proofs.lemmas.Bool.{cases_Bool, cases_eq, both_ways, false_from_ne_true, or_left, or_right, eq-eqb, ne_eqb}
use Rattle.permutations.specs.Members.{is_member, is_distinct}
use Rattle.permutations.proofs.Members.{member-head, member-tail, member-cases, no_member-cons, distinct-cons, distinct-head, distinct-tail}
use Rattle.multigraph.specs.Graph.{Multigraph, IsGraph, edge_count, ends_of, is_end, other_end}
use Rattle.multigraph.proofs.OtherEnd.{is_end-cases, other_end-of_first, other_end-of_second, other_end-in, other_end-is_end, other_end-twice, other_end-differs, is_end-from_first, is_end-from_second}
use Rattle.graph_theory.specs.Path.{walk_end, walk_vertices, IsWalk, IsPath}
use Rattle.contractions.specs.Contraction.{IsContraction}
use Rattle.planarity.specs.Lift.{touches, lifted}

module _ (g h : Multigraph) (e x y : ℕ) (edge vertex : ℕ → ℕ) (og : IsGraph g) (oh : IsGraph h) (c : IsContraction g h e x y edge vertex) where
  -- the edge of g that an edge of h stands for joins vertices that become those which it joins in h
  pub image-end : (i p : ℕ) → i < edge_count h → is_end g p (edge i) ≡ true → (is_end h (vertex p) i ≡ true) × (other_end h i (vertex p) ≡ vertex (other_end g (edge i) p))
  image-end i p l t = elim (is_end-cases g p (edge i) t) [
    | inl a ↦
        let first : (ends_of h i).0 ≡ vertex p = c.first_ends i l ∙ ap vertex a in
        (is_end-from_first h (vertex p) i first, other_end-of_first h i (vertex p) first ∙ c.second_ends i l ∙ ap vertex (sym (other_end-of_first g (edge i) p a)))
    | inr b ↦
        let second : (ends_of h i).1 ≡ vertex p = c.second_ends i l ∙ ap vertex b in (
          is_end-from_second h (vertex p) i second,
          other_end-of_second h i (vertex p) second (oh.no_loop i l) ∙ c.first_ends i l ∙ ap vertex (sym (other_end-of_second g (edge i) p b (og.no_loop (edge i) (c.edges i l)))),
        )
  ]

  -- the two ends of the contracted edge
  pub two_ends : (p : ℕ) → (p ≡ x) ⊎ (p ≡ y) → is_end g p e ≡ true
  two_ends p (inl a) = subst (λ z. is_end g z e ≡ true) (sym a) c.first_end
  two_ends p (inr b) = subst (λ z. is_end g z e ≡ true) (c.second_end ∙ sym b) (other_end-is_end g e x)

  -- different vertices that become one are the ends of the contracted edge
  pub merged-across : (p q : ℕ) → p < g.vertex_count → q < g.vertex_count → vertex p ≡ vertex q → p ≢ q → (is_end g p e ≡ true) × (other_end g e p ≡ q) × ((p ≡ x) ⊎ (p ≡ y))
  merged-across p q l k s n = elim (c.vertices_once p q l k s) [
    | inl a ↦ absurd (n a)
    | inr b ↦ elim b [
      | inl xy ↦ (two_ends p (inl (xy.0)), ap (other_end g e) (xy.0) ∙ c.second_end ∙ sym (xy.1), inl (xy.0))
      | inr yx ↦ (two_ends p (inr (yx.0)), ap (other_end g e) (yx.0 ∙ sym c.second_end) ∙ other_end-twice g e x og c.edge_in c.first_end ∙ sym (yx.1), inr (yx.0))
    ]
  ]

  -- an edge of h at the vertex that p becomes is at p in g, or p and the vertex that it is at are the ends of the contracted
  -- edge
  pub image-back : (i p : ℕ) → i < edge_count h → p < g.vertex_count → is_end h (vertex p) i ≡ true → is_end g p (edge i) ≡ false
      → (is_end g p e ≡ true) × (is_end g (other_end g e p) (edge i) ≡ true) × (vertex (other_end g e p) ≡ vertex p)
  image-back i p l k t n = elim (is_end-cases h (vertex p) i t) [
    | inl a ↦ at (ends_of g (edge i)).0 (og.first_in (edge i) (c.edges i l)) (is_end-from_first g (ends_of g (edge i)).0 (edge i) refl) (sym (c.first_ends i l) ∙ a)
    | inr b ↦ at (ends_of g (edge i)).1 (og.second_in (edge i) (c.edges i l)) (is_end-from_second g (ends_of g (edge i)).1 (edge i) refl) (sym (c.second_ends i l) ∙ b)
  ]
    where
      at : (q : ℕ) → q < g.vertex_count → is_end g q (edge i) ≡ true → vertex q ≡ vertex p → (is_end g p e ≡ true) × (is_end g (other_end g e p) (edge i) ≡ true) × (vertex (other_end g e p) ≡ vertex p)
      at q m u s =
          let w = merged-across p q k m (sym s) (λ z. both_ways (is_end g p (edge i)) n (subst (λ v. is_end g v (edge i) ≡ true) (sym z) u)) in
          (w.0, subst (λ v. is_end g v (edge i) ≡ true) (sym w.1) u, ap vertex w.1 ∙ s)

  -- edges of g that lead from p to q, over the edges es of h or the contracted edge
  pub record IsLift (p : ℕ) (es : List ℕ) (q : ℕ) (fs : List ℕ) : Type 0 where
    pub walk : IsWalk g p fs
    pub arrives : walk_end g p fs ≡ q
    pub distinct : is_distinct (walk_vertices h (vertex p) es) ≡ true → is_distinct (walk_vertices g p fs) ≡ true
    pub met : (z : ℕ) → is_member z (walk_vertices g p fs) ≡ true → (z < g.vertex_count) × (is_member (vertex z) (walk_vertices h (vertex p) es) ≡ true)
    pub near : (z : ℕ) → is_member z (walk_vertices g p fs) ≡ true → (z ≡ p) ⊎ ((z ≡ q) ⊎ (touches g z (map edge es) ≡ true))

  -- no edge, where p and q are one
  lift-none : (p q : ℕ) → p < g.vertex_count → p ≡ q → IsLift p [] q []
  lift-none p q l s = record {
    walk = tt;
    arrives = s;
    distinct = λ d. refl;
    met = λ z m. elim (member-cases z p [] m) [ inl a ↦ (subst (λ v. v < g.vertex_count) a l, subst (λ v. is_member (vertex z) (vertex v ∷ []) ≡ true) (sym a) (member-head (vertex z) [])) | inr b ↦ absurd (both_ways false refl b) ];
    near = λ z m. elim (member-cases z p [] m) [ inl a ↦ inl (sym a) | inr b ↦ absurd (both_ways false refl b) ];
  }

  -- the contracted edge, where they are its two ends
  lift-over : (p q : ℕ) → p < g.vertex_count → q < g.vertex_count → vertex p ≡ vertex q → p ≢ q → IsLift p [] q (e ∷ [])
  lift-over p q l k s n = record {
    walk = ((c.edge_in, w.0), tt);
    arrives = w.1;
    distinct = λ d. distinct-cons p (other_end g e p ∷ []) (no_member-cons p (other_end g e p) [] (λ z. n (sym z ∙ w.1)) refl) refl;
    met = λ z m. elim (cases z m) [
      | inl a ↦ (subst (λ v. v < g.vertex_count) (sym a) l, subst (λ v. is_member v (vertex p ∷ []) ≡ true) (ap vertex (sym a)) (member-head (vertex p) []))
      | inr b ↦ (subst (λ v. v < g.vertex_count) (sym b) k, subst (λ v. is_member v (vertex p ∷ []) ≡ true) (s ∙ ap vertex (sym b)) (member-head (vertex p) []))
    ];
    near = λ z m. elim (cases z m) [ inl a ↦ inl a | inr b ↦ inr (inl b) ];
  }
    where
      w : (is_end g p e ≡ true) × (other_end g e p ≡ q) × ((p ≡ x) ⊎ (p ≡ y))
      w = merged-across p q l k s n

      cases : (z : ℕ) → is_member z (p ∷ (other_end g e p ∷ [])) ≡ true → (z ≡ p) ⊎ (z ≡ q)
      cases z m = elim (member-cases z p (other_end g e p ∷ []) m) [
        | inl a ↦ inl (sym a)
        | inr b ↦ elim (member-cases z (other_end g e p) [] b) [ inl i ↦ inr (sym i ∙ w.1) | inr o ↦ absurd (both_ways false refl o) ]
      ]

  -- an edge at hand, and on from its other end
  lift-step : (p i : ℕ) (es : List ℕ) (q : ℕ) (fs : List ℕ) → i < edge_count h → p < g.vertex_count → is_end g p (edge i) ≡ true → IsLift (other_end g (edge i) p) es q fs → IsLift p (i ∷ es) q (edge i ∷ fs)
  lift-step p i es q fs l k t r = record {
    walk = ((c.edges i l, t), r.walk);
    arrives = r.arrives;
    distinct = λ d. distinct-cons p (walk_vertices g o fs) (new d) (r.distinct (subst (λ v. is_distinct (walk_vertices h v es) ≡ true) there (distinct-tail (vertex p) (walk_vertices h (other_end h i (vertex p)) es) d)));
    met = λ z m. elim (member-cases z p (walk_vertices g o fs) m) [
      | inl a ↦ (subst (λ v. v < g.vertex_count) a k, subst (λ v. is_member (vertex v) (vertex p ∷ walk_vertices h (other_end h i (vertex p)) es) ≡ true) a (member-head (vertex p) (walk_vertices h (other_end h i (vertex p)) es)))
      | inr b ↦ let u = r.met z b in (u.0, member-tail (vertex z) (vertex p) (walk_vertices h (other_end h i (vertex p)) es) (subst (λ v. is_member (vertex z) (walk_vertices h v es) ≡ true) (sym there) u.1))
    ];
    near = λ z m. elim (member-cases z p (walk_vertices g o fs) m) [
      | inl a ↦ inl (sym a)
      | inr b ↦ elim (r.near z b) [
        | inl s ↦ inr (inr (or_left (is_end g z (edge i)) (touches g z (map edge es)) (subst (λ v. is_end g v (edge i) ≡ true) (sym s) (other_end-is_end g (edge i) p))))
        | inr u ↦ elim u [ inl s ↦ inr (inl s) | inr s ↦ inr (inr (or_right (is_end g z (edge i)) (touches g z (map edge es)) s)) ]
      ]
    ];
  }
    where
      o : ℕ
      o = other_end g (edge i) p

      there : other_end h i (vertex p) ≡ vertex o
      there = (image-end i p l t).1

      new : is_distinct (walk_vertices h (vertex p) (i ∷ es)) ≡ true → is_member p (walk_vertices g o fs) ≡ false
      new d = false_from_ne_true (is_member p (walk_vertices g o fs)) (λ m. both_ways (is_member (vertex p) (walk_vertices h (other_end h i (vertex p)) es)) (distinct-head (vertex p) (walk_vertices h (other_end h i (vertex p)) es) d)
          (subst (λ v. is_member (vertex p) (walk_vertices h v es) ≡ true) (sym there) ((r.met p m).1)))

  -- the contracted edge in front, and on from its other end by an edge
  lift-front : (p i : ℕ) (es : List ℕ) (q : ℕ) (fs : List ℕ) → p < g.vertex_count → is_end g p e ≡ true → vertex (other_end g e p) ≡ vertex p → is_end g (other_end g e p) (edge i) ≡ true
      → (is_distinct (walk_vertices h (vertex p) (i ∷ es)) ≡ true → is_member p (walk_vertices g (other_end g e p) (edge i ∷ fs)) ≡ false)
      → IsLift (other_end g e p) (i ∷ es) q (edge i ∷ fs) → IsLift p (i ∷ es) q (e ∷ (edge i ∷ fs))
  lift-front p i es q fs k t s u new r = record {
    walk = ((c.edge_in, t), r.walk);
    arrives = r.arrives;
    distinct = λ d. distinct-cons p (walk_vertices g (other_end g e p) (edge i ∷ fs)) (new d) (r.distinct (subst (λ v. is_distinct (walk_vertices h v (i ∷ es)) ≡ true) (sym s) d));
    met = λ z m. elim (member-cases z p (walk_vertices g (other_end g e p) (edge i ∷ fs)) m) [
      | inl a ↦ (subst (λ v. v < g.vertex_count) a k, subst (λ v. is_member (vertex v) (vertex p ∷ walk_vertices h (other_end h i (vertex p)) es) ≡ true) a (member-head (vertex p) (walk_vertices h (other_end h i (vertex p)) es)))
      | inr b ↦ let w = r.met z b in (w.0, subst (λ v. is_member (vertex z) (walk_vertices h v (i ∷ es)) ≡ true) s w.1)
    ];
    near = λ z m. elim (member-cases z p (walk_vertices g (other_end g e p) (edge i ∷ fs)) m) [
      | inl a ↦ inl (sym a)
      | inr b ↦ elim (r.near z b) [
        | inl a ↦ inr (inr (or_left (is_end g z (edge i)) (touches g z (map edge es)) (subst (λ v. is_end g v (edge i) ≡ true) (sym a) u)))
        | inr w ↦ inr w
      ]
    ];
  }

  -- one edge more, where the edges behind it are lifted from each vertex
  lift-cons : (p i : ℕ) (es : List ℕ) (q : ℕ) → p < g.vertex_count → IsWalk h (vertex p) (i ∷ es) → walk_end h (vertex p) (i ∷ es) ≡ vertex q
      → ((o : ℕ) → o < g.vertex_count → IsWalk h (vertex o) es → walk_end h (vertex o) es ≡ vertex q → IsLift o es q (lifted g e o (map edge es) q))
      → IsLift p (i ∷ es) q (lifted g e p (edge i ∷ map edge es) q)
  lift-cons p i es q k w a more = elim (cases_Bool (is_end g p (edge i))) [
    | inl t ↦ subst (λ (b : Bool). IsLift p (i ∷ es) q (if b then here else over)) (sym t) (on p k w a t)
    | inr n ↦
        let u = image-back i p (w.0).0 k (w.0).1 n in
        let o : ℕ = other_end g e p in
        subst (λ (b : Bool). IsLift p (i ∷ es) q (if b then here else over)) (sym n)
        (lift-front p i es q (lifted g e (other_end g (edge i) o) (map edge es) q) k u.0 u.2 u.1
        (λ d. no_member-cons p o (walk_vertices g (other_end g (edge i) o) (lifted g e (other_end g (edge i) o) (map edge es) q))
        (other_end-differs g e p og c.edge_in u.0)
        (apart n u d))
        (on o (other_end-in g e p og c.edge_in) (subst (λ v. IsWalk h v (i ∷ es)) (sym u.2) w) (subst (λ v. walk_end h v (i ∷ es) ≡ vertex q) (sym u.2) a) u.1))
  ]
    where
      here : List ℕ
      here = edge i ∷ lifted g e (other_end g (edge i) p) (map edge es) q

      over : List ℕ
      over = e ∷ (edge i ∷ lifted g e (other_end g (edge i) (other_end g e p)) (map edge es) q)

      rest : (p' : ℕ) → IsWalk h (vertex p') (i ∷ es) → walk_end h (vertex p') (i ∷ es) ≡ vertex q → is_end g p' (edge i) ≡ true → IsLift (other_end g (edge i) p') es q (lifted g e (other_end g (edge i) p') (map edge es) q)
      rest p' w' a' t =
          let there : other_end h i (vertex p') ≡ vertex (other_end g (edge i) p') = (image-end i p' (w'.0).0 t).1 in
          more (other_end g (edge i) p') (other_end-in g (edge i) p' og (c.edges i (w'.0).0))
          (subst (λ v. IsWalk h v es) there w'.1) (subst (λ v. walk_end h v es ≡ vertex q) there a')

      on : (p' : ℕ) → p' < g.vertex_count → IsWalk h (vertex p') (i ∷ es) → walk_end h (vertex p') (i ∷ es) ≡ vertex q → is_end g p' (edge i) ≡ true → IsLift p' (i ∷ es) q (edge i ∷ lifted g e (other_end g (edge i) p') (map edge es) q)
      on p' k' w' a' t = lift-step p' i es q (lifted g e (other_end g (edge i) p') (map edge es) q) (w'.0).0 k' t (rest p' w' a' t)

      apart : is_end g p (edge i) ≡ false → (u : (is_end g p e ≡ true) × (is_end g (other_end g e p) (edge i) ≡ true) × (vertex (other_end g e p) ≡ vertex p)) → is_distinct (walk_vertices h (vertex p) (i ∷ es)) ≡ true
          → is_member p (walk_vertices g (other_end g (edge i) (other_end g e p)) (lifted g e (other_end g (edge i) (other_end g e p)) (map edge es) q)) ≡ false
      apart n u d = false_from_ne_true (is_member p (walk_vertices g o2 (lifted g e o2 (map edge es) q))) (λ m.
          both_ways (is_member (vertex p) (walk_vertices h (other_end h i (vertex p)) es))
          (distinct-head (vertex p) (walk_vertices h (other_end h i (vertex p)) es) d)
          (subst (λ v. is_member (vertex p) (walk_vertices h v es) ≡ true)
          (sym ((image-end i (other_end g e p) (w.0).0 u.1).1) ∙ ap (other_end h i) u.2)
          ((rest (other_end g e p) (subst (λ v. IsWalk h v (i ∷ es)) (sym u.2) w) (subst (λ v. walk_end h v (i ∷ es) ≡ vertex q) (sym u.2) a) u.1).met p m).1))
        where
          o2 : ℕ
          o2 = other_end g (edge i) (other_end g e p)

  -- the edges of a walk of h, lifted
  pub lift-walk : (p : ℕ) (es : List ℕ) (q : ℕ) → p < g.vertex_count → q < g.vertex_count → IsWalk h (vertex p) es → walk_end h (vertex p) es ≡ vertex q → IsLift p es q (lifted g e p (map edge es) q)
  lift-walk p [] q k l w a = elim (cases_eq p q) [
    | inl s ↦ subst (λ (b : Bool). IsLift p [] q (if b then [] else e ∷ [])) (sym (eq-eqb p q s)) (lift-none p q k s)
    | inr n ↦ subst (λ (b : Bool). IsLift p [] q (if b then [] else e ∷ [])) (sym (ne_eqb p q n)) (lift-over p q k l a n)
  ]
  lift-walk p (i ∷ es) q k l w a = lift-cons p i es q k w a (λ o k' w' a'. lift-walk o es q k' l w' a')

  -- a path of h, lifted to one of g
  pub lift-path : (p : ℕ) (es : List ℕ) (q : ℕ) → p < g.vertex_count → q < g.vertex_count → IsPath h (vertex p) es (vertex q) → IsPath g p (lifted g e p (map edge es) q) q
  lift-path p es q k l w = let r : IsLift p es q (lifted g e p (map edge es) q) = lift-walk p es q k l w.walk w.arrives in record { walk = r.walk; arrives = r.arrives; vertices = r.distinct w.vertices }
