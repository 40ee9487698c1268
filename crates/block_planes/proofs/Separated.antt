-- Labels of darts that are separated at each vertex.
use Rattle.std.proofs.Common.{◌≡◌, ℕ, ◌*◌, ◌<◌, inl, inr, Bool, true, false, ◌&&◌, ◌||◌, ◌==◌, refl, sym, ap, ap₂, ◌∙◌, arith}
use Rattle.std.proofs.lemmas.Bool.{cases_Bool, both_ways, false_from_ne_true, and_parts, and_from}
use Rattle.permutations.specs.Relation.{IsEquivalence}
use Rattle.permutations.specs.Exchange.{restricted}
use Rattle.permutations.proofs.Relation.{same-tests}
use Rattle.permutations.proofs.Orbits.{orbit-equivalence, orbit-step, orbit-test}
use Rattle.permutations.proofs.Restriction.{restricted-alone, restricted-next, restricted-goes, restricted-orbit, restricted-twice, restricted-permutes}
use Rattle.dart_maps.specs.Map.{twin, IsMap, same_vertex}
use Rattle.dart_maps.proofs.Noncrossing.{restricted-vertex, restricted-more}

-- a test that distinguishes the label k at the vertex of u: it has one value at each other vertex, and one along each edge
pub record IsSeparated (m : ℕ) (f lab : ℕ → ℕ) (u k : ℕ) : Type 0 where
  pub side : ℕ → Bool
  pub edges : (d : ℕ) → d < 2 * m → side (twin d) ≡ side d
  pub elsewhere : (d : ℕ) → d < 2 * m → same_vertex m f u d ≡ false → side (f d) ≡ side d
  pub here : (d : ℕ) → d < 2 * m → same_vertex m f u d ≡ true → side d ≡ (lab d == k)

-- a step stays at a vertex
pub vertex-step : (m : ℕ) (f : ℕ → ℕ) (u d : ℕ) → d < 2 * m → same_vertex m f u (f d) ≡ same_vertex m f u d
vertex-step m f u d l = same-tests (same_vertex m f u (f d)) (same_vertex m f u d)
    (λ t. e.transitive u (f d) d t (e.symmetric d (f d) (orbit-step (2 * m) f d l)))
    (λ t. e.transitive u d (f d) t (orbit-step (2 * m) f d l))
  where
    e : IsEquivalence (same_vertex m f)
    e = orbit-equivalence (2 * m) f

-- such a test has one value on all darts of another vertex
separated-vertex : (m : ℕ) (f lab : ℕ → ℕ) (u k : ℕ) (w : IsSeparated m f lab u k) (c d : ℕ) → same_vertex m f c d ≡ true → same_vertex m f u c ≡ false → w.side d ≡ w.side c
separated-vertex m f lab u k w c d t n = agree (w.side c) (w.side d) (same_vertex m f u c) (same_vertex m f u d) n
    (false_from_ne_true (same_vertex m f u d) (λ y. both_ways (same_vertex m f u c) n (e.transitive u d c y (e.symmetric c d t))))
    (orbit-test (2 * m) f (λ z. same_vertex m f u z || w.side z) step c d t)
  where
    e : IsEquivalence (same_vertex m f)
    e = orbit-equivalence (2 * m) f

    step : (z : ℕ) → z < 2 * m → (same_vertex m f u (f z) || w.side (f z)) ≡ (same_vertex m f u z || w.side z)
    step z l = elim (cases_Bool (same_vertex m f u z)) [
      | inl h ↦ ap (λ y. y || w.side (f z)) (vertex-step m f u z l ∙ h) ∙ sym (ap (λ y. y || w.side z) h)
      | inr h ↦ ap₂ (λ y v. y || v) (vertex-step m f u z l) (w.elsewhere z l h)
    ]

    agree : (p q i j : Bool) → i ≡ false → j ≡ false → (i || p) ≡ (j || q) → q ≡ p
    agree p q i j a b h = grind (arith, a, b, h, cases_Bool p, cases_Bool q)

-- a map, and some of its edges
module _ (m : ℕ) (f g : ℕ → ℕ) (b : IsMap m f g) (stay : ℕ → Bool) where
  -- the map of these edges
  abbrev left : ℕ → ℕ
  left = restricted (2 * m) stay f

  -- a step stays among them
  pub left-stays : (d : ℕ) → d < 2 * m → stay (restricted (2 * m) stay f d) ≡ stay d
  left-stays d l = elim (cases_Bool (stay d)) [
    | inl t ↦ (restricted-goes (2 * m) stay f g b d l t).2 ∙ sym t
    | inr t ↦ ap stay (restricted-alone (2 * m) stay f d t)
  ]

  -- so does a vertex
  pub left-vertex : (c d : ℕ) → same_vertex m (restricted (2 * m) stay f) c d ≡ true → stay d ≡ stay c
  left-vertex c d t = sym (orbit-test (2 * m) left stay left-stays c d t)

  -- the edges that stay, restricted again
  pub left-twice : (keep : ℕ → Bool) (d : ℕ) → d < 2 * m → restricted (2 * m) keep (restricted (2 * m) stay f) d ≡ restricted (2 * m) (λ z. stay z && keep z) f d
  left-twice keep d l = both ∙ restricted-twice (2 * m) stay (λ z. stay z && keep z) f g b (λ z t. (and_parts (stay z) (keep z) t).0) d l
    where
      left-map : IsMap m left (restricted (2 * m) stay g)
      left-map = restricted-permutes (2 * m) stay f g b

      two : ℕ → Bool
      two z = stay z && keep z

      both : restricted (2 * m) keep left d ≡ restricted (2 * m) (λ z. stay z && keep z) left d
      both = elim (cases_Bool (stay d)) [
        | inl t ↦ elim (cases_Bool (keep d)) [
          | inl k ↦ restricted-more m left (restricted (2 * m) stay g) left-map (λ z. stay z && keep z) keep d d (restricted (2 * m) (λ z. stay z && keep z) left d) l ((orbit-equivalence (2 * m) left).reflexive d)
              (λ z v. sym (ap (λ y. y && keep z) (left-vertex d z v ∙ t))) (and_from (stay d) (keep d) t k) refl
          | inr k ↦ restricted-alone (2 * m) keep left d k ∙ sym (restricted-alone (2 * m) (λ z. stay z && keep z) left d (rw (t, k) refl))
        ]
        | inr t ↦ alone (restricted-alone (2 * m) stay f d t) ∙ sym (restricted-alone (2 * m) (λ z. stay z && keep z) left d (rw t refl))
      ]
        where
          alone : left d ≡ d → restricted (2 * m) keep left d ≡ d
          alone q = elim (cases_Bool (keep d)) [
            | inl k ↦ restricted-next (2 * m) keep left (restricted (2 * m) stay g) left-map d l k (ap keep q ∙ k) ∙ q
            | inr k ↦ restricted-alone (2 * m) keep left d k
          ]

  -- labels that are separated at the vertex of an edge that stays do so where the others are left out
  pub left-separated : ((d : ℕ) → d < 2 * m → stay (twin d) ≡ stay d) → (lab : ℕ → ℕ) (u k : ℕ) → stay u ≡ true → IsSeparated m f lab u k → IsSeparated m (restricted (2 * m) stay f) lab u k
  left-separated whole lab u k at w = record {
    side = λ d. stay d && w.side d;
    edges = λ d l. ap₂ (λ y z. y && z) (whole d l) (w.edges d l);
    elsewhere = λ d l n. elim (cases_Bool (stay d)) [
      | inl t ↦ ap₂ (λ y z. y && z) (left-stays d l) (separated-vertex m f lab u k w d (left d) (restricted-vertex m f g b stay d (left d) l t refl) (sym (restricted-orbit (2 * m) stay f g b u d at t) ∙ n))
      | inr t ↦ ap (λ z. stay z && w.side z) (restricted-alone (2 * m) stay f d t)
    ];
    here = λ d l t.
        let s : stay d ≡ true = left-vertex u d t ∙ at in
        ap (λ y. y && w.side d) s ∙ w.here d l (sym (restricted-orbit (2 * m) stay f g b u d at s) ∙ t);
  }
