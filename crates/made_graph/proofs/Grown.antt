-- What an operation on an edge makes of a drawn graph is drawn.
use Rattle.std.proofs.Common.{◌≡◌, ◌≢◌, ℕ, ◌+◌, ◌*◌, ◌<◌, true, List, [], ◌∷◌, ◌++◌, append_assoc, sym, ap, ap₂, ◌∙◌, subst, arith}
use Rattle.std.proofs.lemmas.Bool.{eqb-true}
use Rattle.permutations.specs.Relation.{IsEquivalence}
use Rattle.permutations.proofs.Orbits.{orbit-equivalence, orbit-step}
use Rattle.dart_maps.specs.Map.{twin, face, same_face, same_vertex}
use Rattle.dart_maps.proofs.Darts.{twin-twin, twin-below}
use Rattle.multigraph.specs.Graph.{Multigraph, ends_of}
use Rattle.multigraph.specs.Build.{multigraph_of}
use Rattle.faces.specs.Euler.{tail}
use Rattle.faces.proofs.DartLemmas.{tail-first, tail-second}
use Rattle.made_graph.specs.Made.{subdivided, doubled, with_path, with_tetrahedron}
use Rattle.drawn_maps.proofs.Drawn.{IsDrawn, with_edge, tail-old, tail-new, tail-new_second, twin-last, hung, joined, hung_back, joined_back, hung-corner, hung-new, hung-end, hung-old, hang, joined-corner, joined-first, joined-second_corner, joined-old, cross}
use Rattle.made_graph.proofs.Subdivided.{subdivide}

-- some map draws the graph
pub record Drawing (g : Multigraph) : Type 0 where
  pub size : ℕ
  pub next : ℕ → ℕ
  pub previous : ℕ → ℕ
  pub drawn : IsDrawn size g next previous

-- edges put in one after the other
two-more : (l : List (ℕ × ℕ)) (a b : ℕ × ℕ) → (l ++ a ∷ []) ++ b ∷ [] ≡ l ++ a ∷ b ∷ []
two-more l a b = append_assoc l (a ∷ []) (b ∷ [])

five-more : (l : List (ℕ × ℕ)) (a b c d e : ℕ × ℕ) → ((((l ++ a ∷ []) ++ b ∷ []) ++ c ∷ []) ++ d ∷ []) ++ e ∷ [] ≡ l ++ a ∷ b ∷ c ∷ d ∷ e ∷ []
five-more l a b c d e =
    two-more (((l ++ a ∷ []) ++ b ∷ []) ++ c ∷ []) d e ∙ append_assoc ((l ++ a ∷ []) ++ b ∷ []) (c ∷ []) (d ∷ e ∷ [])
    ∙ append_assoc (l ++ a ∷ []) (b ∷ []) (c ∷ d ∷ e ∷ []) ∙ append_assoc l (a ∷ []) (b ∷ c ∷ d ∷ e ∷ [])

-- with the same ends
same-links : (l : List (ℕ × ℕ)) {u w n o a b c d e f x y : ℕ} → a ≡ u → b ≡ u → c ≡ w → d ≡ n → e ≡ w → f ≡ o → x ≡ n → y ≡ o
    → l ++ (a, n) ∷ (b, o) ∷ (c, d) ∷ (e, f) ∷ (x, y) ∷ [] ≡ l ++ (u, n) ∷ (u, o) ∷ (w, n) ∷ (w, o) ∷ (n, o) ∷ []
same-links l ea eb ec ed ee ef ex ey = cc

-- one step along a face
face-goes : (m : ℕ) (f : ℕ → ℕ) (x y z : ℕ) → x < 2 * m → twin x ≡ y → f y ≡ z → same_face m f x z ≡ true
face-goes m f x y z l t h = subst (λ w. same_face m f x w ≡ true) (ap f t ∙ h) (orbit-step (2 * m) (face f) x l)

module _ (m : ℕ) (g : Multigraph) (f b : ℕ → ℕ) (drawn : IsDrawn m g f b) (e : ℕ) (le : e < m) where
  -- the two darts of the edge, and the dart before the second
  abbrev a : ℕ
  a = 2 * e

  abbrev c : ℕ
  c = 2 * e + 1

  abbrev q : ℕ
  q = b c

  la : a < 2 * m
  la = omega (arith, le)

  lc : c < 2 * m
  lc = omega (arith, le)

  lq : q < 2 * m
  lq = drawn.map.back c lc

  goes : f q ≡ c
  goes = drawn.map.forth_back c lc

  twin-a : twin a ≡ c
  twin-a = twin-last e

  twin-c : twin c ≡ a
  twin-c = ap twin (sym twin-a) ∙ twin-twin a

  tail-a : tail g a ≡ (ends_of g e).0
  tail-a = tail-first g e

  tail-c : tail g c ≡ (ends_of g e).1
  tail-c = tail-second g e

  tail-q : tail g q ≡ (ends_of g e).1
  tail-q = eqb-true (tail g q) (tail g c) (sym (drawn.told q c lq lc) ∙ subst (λ z. same_vertex m f q z ≡ true) goes (orbit-step (2 * m) f q lq)) ∙ tail-c

  -- the corners beside the edge
  beside : same_face m f (twin a) (twin q) ≡ true
  beside = (orbit-equivalence (2 * m) (face f)).symmetric (twin q) (twin a) (subst (λ z. same_face m f (twin q) z ≡ true) (sym twin-a) (face-goes m f (twin q) q c (twin-below m q lq) (twin-twin q) goes))

  -- an edge doubled
  pub double-drawn : Drawing (doubled g e)
  double-drawn = record {
    size = m + 1;
    next = joined m a q f;
    previous = joined_back m a q b;
    drawn = subst (λ (link : ℕ × ℕ). IsDrawn (m + 1) (with_edge g g.vertex_count link) (joined m a q f) (joined_back m a q b)) (ap₂ (λ (x y : ℕ). (x, y)) tail-a tail-q) (cross m g f b drawn a la q lq beside);
  }

  -- an edge subdivided
  pub subdivide-drawn : Drawing (subdivided g e)
  subdivide-drawn = record { size = m + 1; next = _; previous = _; drawn = subdivide m g f b drawn e le }

  module _ (loopless : (ends_of g e).0 ≢ (ends_of g e).1) where
    -- the corners are at different vertices
    q-a : q ≡ a → ⊥
    q-a i = loopless (sym tail-a ∙ ap (tail g) (sym i) ∙ tail-q)

    -- the pendant edge
    abbrev n : ℕ
    n = g.vertex_count

    abbrev g1 : Multigraph
    g1 = with_edge g (n + 1) (tail g a, n)

    abbrev f1 : ℕ → ℕ
    f1 = hung m a f

    abbrev b1 : ℕ → ℕ
    b1 = hung_back m a b

    f1-q : f1 q ≡ c
    f1-q = hung-old m g f b drawn a la q lq q-a ∙ goes

    twin-in : 2 * m + 1 < 2 * (m + 1)
    twin-in = omega arith

    q-in : q < 2 * (m + 1)
    q-in = omega (arith, lq)

    a-in : a < 2 * (m + 1)
    a-in = omega (arith, la)

    c-in : c < 2 * (m + 1)
    c-in = omega (arith, lc)

    twin-twin_last : twin (2 * m + 1) ≡ 2 * m
    twin-twin_last = ap twin (sym (twin-last m)) ∙ twin-twin (2 * m)

    path-face : same_face (m + 1) f1 (twin (2 * m + 1)) (twin q) ≡ true
    path-face = subst (λ z. same_face (m + 1) f1 z (twin q) ≡ true) (sym twin-twin_last) (equal.symmetric (twin q) (2 * m) (equal.transitive (twin q) c (2 * m)
        (face-goes (m + 1) f1 (twin q) q c (twin-below (m + 1) q q-in) (twin-twin q) f1-q)
        (face-goes (m + 1) f1 c a (2 * m) c-in twin-c (hung-corner m g f b drawn a la))))
      where
        equal : IsEquivalence (same_face (m + 1) f1)
        equal = orbit-equivalence (2 * (m + 1)) (face f1)

    -- a path beside the edge
    pub path-drawn : Drawing (with_path g e)
    path-drawn = record {
      size = m + 1 + 1;
      next = joined (m + 1) (2 * m + 1) q f1;
      previous = joined_back (m + 1) (2 * m + 1) q b1;
      drawn = subst (λ (h : Multigraph). IsDrawn (m + 1 + 1) h (joined (m + 1) (2 * m + 1) q f1) (joined_back (m + 1) (2 * m + 1) q b1)) graph
          (cross (m + 1) g1 f1 b1 (hang m g f b drawn a la) (2 * m + 1) twin-in q q-in path-face);
    }
      where
        graph : with_edge g1 (n + 1) (tail g1 (2 * m + 1), tail g1 q) ≡ with_path g e
        graph = ap (multigraph_of (n + 1)) (two-more g.ends (tail g a, n) (tail g1 (2 * m + 1), tail g1 q)
            ∙ ap₂ (λ (x y : ℕ × ℕ). g.ends ++ x ∷ y ∷ []) (ap (λ (x : ℕ). (x, n)) tail-a)
            (ap₂ (λ (x y : ℕ). (x, y)) (tail-new_second m g (n + 1) (tail g a, n) drawn.edges) (tail-old m g (n + 1) (tail g a, n) drawn.edges q lq ∙ tail-q)))

    -- a tetrahedron glued on: two pendant edges at the first end, edges from the second end to their new ends, and one between these
    abbrev g2 : Multigraph
    g2 = with_edge g1 (n + 1 + 1) (tail g1 a, n + 1)

    abbrev f2 : ℕ → ℕ
    f2 = hung (m + 1) a f1

    abbrev b2 : ℕ → ℕ
    b2 = hung_back (m + 1) a b1

    abbrev g3 : Multigraph
    g3 = with_edge g2 (n + 1 + 1) (tail g2 q, tail g2 (2 * m + 1))

    abbrev f3 : ℕ → ℕ
    f3 = joined (m + 1 + 1) q (2 * m + 1) f2

    abbrev b3 : ℕ → ℕ
    b3 = joined_back (m + 1 + 1) q (2 * m + 1) b2

    abbrev y-first : ℕ
    y-first = 2 * (m + 1 + 1)

    abbrev z-here : ℕ
    z-here = 2 * (m + 1) + 1

    abbrev g4 : Multigraph
    g4 = with_edge g3 (n + 1 + 1) (tail g3 y-first, tail g3 z-here)

    abbrev f4 : ℕ → ℕ
    f4 = joined (m + 1 + 1 + 1) y-first z-here f3

    abbrev b4 : ℕ → ℕ
    b4 = joined_back (m + 1 + 1 + 1) y-first z-here b3

    abbrev z-far : ℕ
    z-far = 2 * (m + 1 + 1 + 1) + 1

    abbrev g5 : Multigraph
    g5 = with_edge g4 (n + 1 + 1) (tail g4 (2 * m + 1), tail g4 z-far)

    drawn-1 : IsDrawn (m + 1) g1 f1 b1
    drawn-1 = hang m g f b drawn a la

    drawn-2 : IsDrawn (m + 1 + 1) g2 f2 b2
    drawn-2 = hang (m + 1) g1 f1 b1 drawn-1 a a-in

    q-in_2 : q < 2 * (m + 1 + 1)
    q-in_2 = omega (arith, lq)

    twin-in_2 : 2 * m + 1 < 2 * (m + 1 + 1)
    twin-in_2 = omega arith

    f2-q : f2 q ≡ c
    f2-q = hung-old (m + 1) g1 f1 b1 drawn-1 a a-in q q-in q-a ∙ f1-q

    f2-a : f2 a ≡ 2 * (m + 1)
    f2-a = hung-corner (m + 1) g1 f1 b1 drawn-1 a a-in

    face-2 : same_face (m + 1 + 1) f2 (twin q) (twin (2 * m + 1)) ≡ true
    face-2 = subst (λ z. same_face (m + 1 + 1) f2 (twin q) z ≡ true) (sym twin-twin_last)
        (equal.transitive (twin q) c (2 * m) (face-goes (m + 1 + 1) f2 (twin q) q c (twin-below (m + 1 + 1) q q-in_2) (twin-twin q) f2-q)
        (equal.transitive c (2 * (m + 1)) (2 * m) (face-goes (m + 1 + 1) f2 c a (2 * (m + 1)) (omega (arith, lc)) twin-c f2-a)
        (equal.transitive (2 * (m + 1)) z-here (2 * m) (face-goes (m + 1 + 1) f2 (2 * (m + 1)) z-here z-here (omega arith) (twin-last (m + 1)) (hung-end (m + 1) g1 f1 b1 drawn-1 a a-in))
        (face-goes (m + 1 + 1) f2 z-here (2 * (m + 1)) (2 * m) (omega arith) (ap twin (sym (twin-last (m + 1))) ∙ twin-twin (2 * (m + 1)))
        (hung-new (m + 1) g1 f1 b1 drawn-1 a a-in ∙ hung-corner m g f b drawn a la)))))
      where
        equal : IsEquivalence (same_face (m + 1 + 1) f2)
        equal = orbit-equivalence (2 * (m + 1 + 1)) (face f2)

    drawn-3 : IsDrawn (m + 1 + 1 + 1) g3 f3 b3
    drawn-3 = cross (m + 1 + 1) g2 f2 b2 drawn-2 q q-in_2 (2 * m + 1) twin-in_2 face-2

    a-twin : a ≡ 2 * m + 1 → ⊥
    a-twin i = omega (arith, la, i)

    y-in : y-first < 2 * (m + 1 + 1 + 1)
    y-in = omega arith

    z-in : z-here < 2 * (m + 1 + 1 + 1)
    z-in = omega arith

    f3-y : f3 y-first ≡ c
    f3-y = joined-first (m + 1 + 1) g2 f2 b2 drawn-2 q q-in_2 (2 * m + 1) twin-in_2 face-2 ∙ f2-q

    f3-a : f3 a ≡ 2 * (m + 1)
    f3-a = joined-old (m + 1 + 1) g2 f2 b2 drawn-2 q q-in_2 (2 * m + 1) twin-in_2 face-2 a (omega (arith, la)) (λ i. q-a (sym i)) a-twin ∙ f2-a

    face-3 : same_face (m + 1 + 1 + 1) f3 (twin y-first) (twin z-here) ≡ true
    face-3 = subst (λ z. same_face (m + 1 + 1 + 1) f3 (twin y-first) z ≡ true) (sym (ap twin (sym (twin-last (m + 1))) ∙ twin-twin (2 * (m + 1))))
        (equal.transitive (twin y-first) c (2 * (m + 1)) (face-goes (m + 1 + 1 + 1) f3 (twin y-first) y-first c (twin-below (m + 1 + 1 + 1) y-first y-in) (twin-twin y-first) f3-y)
        (face-goes (m + 1 + 1 + 1) f3 c a (2 * (m + 1)) (omega (arith, lc)) twin-c f3-a))
      where
        equal : IsEquivalence (same_face (m + 1 + 1 + 1) f3)
        equal = orbit-equivalence (2 * (m + 1 + 1 + 1)) (face f3)

    drawn-4 : IsDrawn (m + 1 + 1 + 1 + 1) g4 f4 b4
    drawn-4 = cross (m + 1 + 1 + 1) g3 f3 b3 drawn-3 y-first y-in z-here z-in face-3

    f4-twin : f4 (2 * m + 1) ≡ 2 * (m + 1 + 1) + 1
    f4-twin = joined-old (m + 1 + 1 + 1) g3 f3 b3 drawn-3 y-first y-in z-here z-in face-3 (2 * m + 1) (omega arith) (λ i. omega (arith, i)) (λ i. omega (arith, i))
        ∙ joined-second_corner (m + 1 + 1) g2 f2 b2 drawn-2 q q-in_2 (2 * m + 1) twin-in_2 face-2

    f4-y : f4 y-first ≡ 2 * (m + 1 + 1 + 1)
    f4-y = joined-corner (m + 1 + 1 + 1) g3 f3 b3 drawn-3 y-first y-in z-here z-in face-3 (λ i. omega (arith, i))

    far-in : z-far < 2 * (m + 1 + 1 + 1 + 1)
    far-in = omega arith

    twin-in_4 : 2 * m + 1 < 2 * (m + 1 + 1 + 1 + 1)
    twin-in_4 = omega arith

    face-4 : same_face (m + 1 + 1 + 1 + 1) f4 (twin (2 * m + 1)) (twin z-far) ≡ true
    face-4 = subst (λ z. same_face (m + 1 + 1 + 1 + 1) f4 (twin (2 * m + 1)) z ≡ true) (sym (ap twin (sym (twin-last (m + 1 + 1 + 1))) ∙ twin-twin (2 * (m + 1 + 1 + 1))))
        (equal.transitive (twin (2 * m + 1)) (2 * (m + 1 + 1) + 1) (2 * (m + 1 + 1 + 1))
        (face-goes (m + 1 + 1 + 1 + 1) f4 (twin (2 * m + 1)) (2 * m + 1) (2 * (m + 1 + 1) + 1) (twin-below (m + 1 + 1 + 1 + 1) (2 * m + 1) twin-in_4) (twin-twin (2 * m + 1)) f4-twin)
        (face-goes (m + 1 + 1 + 1 + 1) f4 (2 * (m + 1 + 1) + 1) y-first (2 * (m + 1 + 1 + 1)) (omega arith) (ap twin (sym (twin-last (m + 1 + 1))) ∙ twin-twin y-first) f4-y))
      where
        equal : IsEquivalence (same_face (m + 1 + 1 + 1 + 1) f4)
        equal = orbit-equivalence (2 * (m + 1 + 1 + 1 + 1)) (face f4)

    -- the ends of these edges
    tail-1 : (d : ℕ) → d < 2 * m → tail g1 d ≡ tail g d
    tail-1 = tail-old m g (n + 1) (tail g a, n) drawn.edges

    tail-2 : (d : ℕ) → d < 2 * (m + 1) → tail g2 d ≡ tail g1 d
    tail-2 = tail-old (m + 1) g1 (n + 1 + 1) (tail g1 a, n + 1) drawn-1.edges

    tail-3 : (d : ℕ) → d < 2 * (m + 1 + 1) → tail g3 d ≡ tail g2 d
    tail-3 = tail-old (m + 1 + 1) g2 (n + 1 + 1) (tail g2 q, tail g2 (2 * m + 1)) drawn-2.edges

    tail-4 : (d : ℕ) → d < 2 * (m + 1 + 1 + 1) → tail g4 d ≡ tail g3 d
    tail-4 = tail-old (m + 1 + 1 + 1) g3 (n + 1 + 1) (tail g3 y-first, tail g3 z-here) drawn-3.edges

    first-1 : tail g1 a ≡ (ends_of g e).0
    first-1 = tail-1 a la ∙ tail-a

    second-2 : tail g2 q ≡ (ends_of g e).1
    second-2 = tail-2 q q-in ∙ tail-1 q lq ∙ tail-q

    y-2 : tail g2 (2 * m + 1) ≡ n
    y-2 = tail-2 (2 * m + 1) twin-in ∙ tail-new_second m g (n + 1) (tail g a, n) drawn.edges

    second-3 : tail g3 y-first ≡ (ends_of g e).1
    second-3 = tail-new (m + 1 + 1) g2 (n + 1 + 1) (tail g2 q, tail g2 (2 * m + 1)) drawn-2.edges ∙ second-2

    z-3 : tail g3 z-here ≡ n + 1
    z-3 = tail-3 z-here (omega arith) ∙ tail-new_second (m + 1) g1 (n + 1 + 1) (tail g1 a, n + 1) drawn-1.edges

    y-4 : tail g4 (2 * m + 1) ≡ n
    y-4 = tail-4 (2 * m + 1) (omega arith) ∙ tail-3 (2 * m + 1) twin-in_2 ∙ y-2

    z-4 : tail g4 z-far ≡ n + 1
    z-4 = tail-new_second (m + 1 + 1 + 1) g3 (n + 1 + 1) (tail g3 y-first, tail g3 z-here) drawn-3.edges ∙ z-3

    -- so the graph is the one of the definition
    tetrahedron-graph : g5 ≡ with_tetrahedron g e
    tetrahedron-graph = ap₂ multigraph_of two (five-more g.ends (tail g a, n) (tail g1 a, n + 1) (tail g2 q, tail g2 (2 * m + 1)) (tail g3 y-first, tail g3 z-here) (tail g4 (2 * m + 1), tail g4 z-far) ∙ links)
      where
        two : n + 1 + 1 ≡ n + 2
        two = omega arith

        links : g.ends ++ (tail g a, n) ∷ (tail g1 a, n + 1) ∷ (tail g2 q, tail g2 (2 * m + 1)) ∷ (tail g3 y-first, tail g3 z-here) ∷ (tail g4 (2 * m + 1), tail g4 z-far) ∷ []
            ≡ g.ends ++ ((ends_of g e).0, n) ∷ ((ends_of g e).0, n + 1) ∷ ((ends_of g e).1, n) ∷ ((ends_of g e).1, n + 1) ∷ (n, n + 1) ∷ []
        links = same-links g.ends tail-a first-1 second-2 y-2 second-3 z-3 y-4 z-4

    -- a tetrahedron on the edge
    pub tetrahedron-drawn : Drawing (with_tetrahedron g e)
    tetrahedron-drawn = record {
      size = m + 1 + 1 + 1 + 1 + 1;
      next = joined (m + 1 + 1 + 1 + 1) (2 * m + 1) z-far f4;
      previous = joined_back (m + 1 + 1 + 1 + 1) (2 * m + 1) z-far b4;
      drawn = subst (λ (h : Multigraph). IsDrawn (m + 1 + 1 + 1 + 1 + 1) h (joined (m + 1 + 1 + 1 + 1) (2 * m + 1) z-far f4) (joined_back (m + 1 + 1 + 1 + 1) (2 * m + 1) z-far b4)) tetrahedron-graph
          (cross (m + 1 + 1 + 1 + 1) g4 f4 b4 drawn-4 (2 * m + 1) twin-in_4 z-far far-in face-4);
    }
