-- A tight family of exactly three entries: three parallel ones, or a triangle.
use Rattle.std.proofs.Common.{◌≡◌, ◌≢◌, ℕ, ◌⊎◌, inl, inr, true, false, List, [], ◌∷◌, refl, sym, ap, ◌∙◌, subst, arith, Contains}
use Rattle.std.proofs.lemmas.Bool.{ne_eqb, and_parts, and_from, false_from_ne_true}
use Rattle.std.proofs.lemmas.List.Elements.{All-contains, All-cons, All-nil}
use Rattle.permutations.specs.Relation.{connected}
use Rattle.permutations.proofs.Relation.{connected-link, connected-reflexive, connected-symmetric, connected-transitive}
use Rattle.pair_split.specs.Family.{Entry, has_end, IsFamily, IsTight}
use Rattle.pair_split.specs.Edges.{entry_ends, family_skeleton}
use Rattle.pair_split.specs.Skeleton.{SameEnds, is_vertex, degree, IsBond, IsPolygon}
use Rattle.pair_split.proofs.Elements.{contains-here, contains-later, contains-cases, contains-none, contains-map}
use Rattle.pair_split.proofs.Sides.{touches-from, touching-entry}
use Rattle.pair_split.proofs.Replaced.{end-cases, first-end, second-end}
use Rattle.pair_split.proofs.Degrees.{Another, tight-degree, one-of_two}
use Rattle.pair_split.proofs.PrimeSimple.{parallel-end, joins, joins-parallel, other-end, touched-vertex}

-- an entry of three is the first, the second or the third
of-three : (e f h g : Entry) → Contains (e ∷ f ∷ h ∷ []) g → (e ≡ g) ⊎ (f ≡ g) ⊎ (h ≡ g)
of-three e f h g c = elim (contains-cases g e (f ∷ h ∷ []) c) [
  | inl i ↦ inl i
  | inr d ↦ elim (contains-cases g f (h ∷ []) d) [ inl i ↦ inr (inl i) | inr k ↦ elim (contains-cases g h [] k) [ inl i ↦ inr (inr i) | inr n ↦ absurd (contains-none g n) ] ]
]

-- the vertices that an entry joins are its only ends
joins-ends : (a b x : ℕ) (e : Entry) → a ≢ b → joins a b e ≡ true → has_end x e ≡ true → (x ≡ a) ⊎ (x ≡ b)
joins-ends a b x e n j h = let w = and_parts (has_end a e) (has_end b e) j in one-of_two e.first e.second a b x n (end-cases a e w.0) (end-cases b e w.1) (end-cases x e h)

-- another vertex is no end of it
joins-no_end : (a b x : ℕ) (e : Entry) → a ≢ b → joins a b e ≡ true → x ≢ a → x ≢ b → has_end x e ≡ false
joins-no_end a b x e n j p q = false_from_ne_true (has_end x e) (λ h. elim (joins-ends a b x e n j h) [ inl i ↦ p i | inr i ↦ q i ])

-- vertices that an entry joins are connected
joins-connected : (entries : List Entry) (e : Entry) (x z : ℕ) → Contains entries e → x ≢ z → joins x z e ≡ true → connected (family_skeleton entries) x z ≡ true
joins-connected entries e x z c n j = let w = and_parts (has_end x e) (has_end z e) j in go (end-cases x e w.0) (end-cases z e w.1)
  where
    linked : connected (family_skeleton entries) e.first e.second ≡ true
    linked = connected-link (family_skeleton entries) e.first e.second (contains-map entry_ends e entries c)

    go : (x ≡ e.first) ⊎ (x ≡ e.second) → (z ≡ e.first) ⊎ (z ≡ e.second) → connected (family_skeleton entries) x z ≡ true
    go (inl i) (inl k) = absurd (n (i ∙ sym k))
    go (inr i) (inr k) = absurd (n (i ∙ sym k))
    go (inl i) (inr k) = subst (λ (w : ℕ). connected (family_skeleton entries) w z ≡ true) (sym i) (subst (λ (w : ℕ). connected (family_skeleton entries) e.first w ≡ true) (sym k) linked)
    go (inr i) (inl k) = subst (λ (w : ℕ). connected (family_skeleton entries) w z ≡ true) (sym i) (subst (λ (w : ℕ). connected (family_skeleton entries) e.second w ≡ true) (sym k)
        (connected-symmetric (family_skeleton entries) e.first e.second linked))

-- a triangle is a polygon
triangle : (a b c : ℕ) (e f h : Entry) → a ≢ b → b ≢ c → c ≢ a → joins a b e ≡ true → joins a c f ≡ true → joins b c h ≡ true → IsPolygon (family_skeleton (e ∷ f ∷ h ∷ []))
triangle a b c e f h ab bc ca i j k = record {
  connects = λ u v tu tv. connected-transitive skeleton u a v (connected-symmetric skeleton a u (from-first u (vertices u tu))) (from-first v (vertices v tv));
  degrees = λ v t. elim (vertices v t) [ inl p ↦ subst D (sym p) at-a | inr q ↦ elim q [ inl p ↦ subst D (sym p) at-b | inr p ↦ subst D (sym p) at-c ] ];
  three = record {
    vertices = a ∷ b ∷ c ∷ [];
    enough = omega arith;
    distinct = grind (arith, ne_eqb b a (λ z. ab (sym z)), ne_eqb c a ca, ne_eqb c b (λ z. bc (sym z)));
    are_vertices = All-cons P a (b ∷ c ∷ []) (vertex-of a e (contains-here e (f ∷ h ∷ [])) ie.0)
        (All-cons P b (c ∷ []) (vertex-of b e (contains-here e (f ∷ h ∷ [])) ie.1)
        (All-cons P c [] (vertex-of c f (contains-later f e (f ∷ h ∷ []) (contains-here f (h ∷ []))) jf.1) (All-nil P)));
  };
}
  where
    skeleton : List (ℕ × ℕ)
    skeleton = family_skeleton (e ∷ f ∷ h ∷ [])

    P : ℕ → Type 0
    P v = is_vertex skeleton v ≡ true

    D : ℕ → Type 0
    D v = degree skeleton v ≡ 2

    ie : (has_end a e ≡ true) × (has_end b e ≡ true)
    ie = and_parts (has_end a e) (has_end b e) i

    jf : (has_end a f ≡ true) × (has_end c f ≡ true)
    jf = and_parts (has_end a f) (has_end c f) j

    kh : (has_end b h ≡ true) × (has_end c h ≡ true)
    kh = and_parts (has_end b h) (has_end c h) k

    vertex-of : (v : ℕ) (g : Entry) → Contains (e ∷ f ∷ h ∷ []) g → has_end v g ≡ true → is_vertex skeleton v ≡ true
    vertex-of v g w t = touched-vertex (e ∷ f ∷ h ∷ []) v ∙ touches-from (e ∷ f ∷ h ∷ []) v g w t

    vertices : (v : ℕ) → is_vertex skeleton v ≡ true → (v ≡ a) ⊎ (v ≡ b) ⊎ (v ≡ c)
    vertices v t =
        let g = touching-entry (e ∷ f ∷ h ∷ []) v (sym (touched-vertex (e ∷ f ∷ h ∷ []) v) ∙ t) in
        elim (of-three e f h g.0 g.1) [
          | inl x ↦ elim (joins-ends a b v e ab i (subst (λ (z : Entry). has_end v z ≡ true) (sym x) g.2)) [ inl p ↦ inl p | inr p ↦ inr (inl p) ]
          | inr y ↦ elim y [
            | inl x ↦ elim (joins-ends a c v f (λ z. ca (sym z)) j (subst (λ (z : Entry). has_end v z ≡ true) (sym x) g.2)) [ inl p ↦ inl p | inr p ↦ inr (inr p) ]
            | inr x ↦ elim (joins-ends b c v h bc k (subst (λ (z : Entry). has_end v z ≡ true) (sym x) g.2)) [ inl p ↦ inr (inl p) | inr p ↦ inr (inr p) ]
          ]
        ]

    from-first : (v : ℕ) → (v ≡ a) ⊎ (v ≡ b) ⊎ (v ≡ c) → connected skeleton a v ≡ true
    from-first v (inl p) = subst (λ (z : ℕ). connected skeleton a z ≡ true) (sym p) (connected-reflexive skeleton a)
    from-first v (inr (inl p)) = subst (λ (z : ℕ). connected skeleton a z ≡ true) (sym p) (joins-connected (e ∷ f ∷ h ∷ []) e a b (contains-here e (f ∷ h ∷ [])) ab i)
    from-first v (inr (inr p)) = subst (λ (z : ℕ). connected skeleton a z ≡ true) (sym p)
        (joins-connected (e ∷ f ∷ h ∷ []) f a c (contains-later f e (f ∷ h ∷ []) (contains-here f (h ∷ []))) (λ z. ca (sym z)) j)

    at-a : degree skeleton a ≡ 2
    at-a = rw (ie.0, jf.0, joins-no_end b c a h bc k ab (λ z. ca (sym z))) refl

    at-b : degree skeleton b ≡ 2
    at-b = rw (ie.1, kh.0, joins-no_end a c b f (λ z. ca (sym z)) j (λ z. ab (sym z)) bc) refl

    at-c : degree skeleton c ≡ 2
    at-c = rw (jf.1, kh.1, joins-no_end a b c e ab i ca (λ z. bc (sym z))) refl

module _ (e f h : Entry) (family : IsFamily (e ∷ f ∷ h ∷ [])) (tight : IsTight (e ∷ f ∷ h ∷ [])) where
  abbrev entries : List Entry
  entries = e ∷ f ∷ h ∷ []

  in-e : Contains entries e
  in-e = contains-here e (f ∷ h ∷ [])

  in-f : Contains entries f
  in-f = contains-later f e (f ∷ h ∷ []) (contains-here f (h ∷ []))

  in-h : Contains entries h
  in-h = contains-later h e (f ∷ h ∷ []) (contains-later h f (h ∷ []) (contains-here h []))

  loopless : (g : Entry) → Contains entries g → g.first ≢ g.second
  loopless g c = All-contains (λ (z : Entry). z.first ≢ z.second) entries g family.no_loops c

  -- an end of one of the three is an end of another
  another : (g : Entry) (x : ℕ) → Contains entries g → has_end x g ≡ true → Another entries g x
  another g x c t = tight-degree entries family tight (omega arith) g x c t

  at-first : (x : ℕ) → has_end x e ≡ true → (has_end x f ≡ true) ⊎ (has_end x h ≡ true)
  at-first x t = let w = another e x in-e t in elim (of-three e f h w.entry w.within) [
    | inl i ↦ absurd (w.other (ap (λ (z : Entry). z.name) (sym i)))
    | inr r ↦ elim r [ inl i ↦ inl (subst (λ (z : Entry). has_end x z ≡ true) (sym i) w.end) | inr i ↦ inr (subst (λ (z : Entry). has_end x z ≡ true) (sym i) w.end) ]
  ]

  at-second : (x : ℕ) → has_end x f ≡ true → (has_end x e ≡ true) ⊎ (has_end x h ≡ true)
  at-second x t = let w = another f x in-f t in elim (of-three e f h w.entry w.within) [
    | inl i ↦ inl (subst (λ (z : Entry). has_end x z ≡ true) (sym i) w.end)
    | inr r ↦ elim r [ inl i ↦ absurd (w.other (ap (λ (z : Entry). z.name) (sym i))) | inr i ↦ inr (subst (λ (z : Entry). has_end x z ≡ true) (sym i) w.end) ]
  ]

  at-third : (x : ℕ) → has_end x h ≡ true → (has_end x e ≡ true) ⊎ (has_end x f ≡ true)
  at-third x t = let w = another h x in-h t in elim (of-three e f h w.entry w.within) [
    | inl i ↦ inl (subst (λ (z : Entry). has_end x z ≡ true) (sym i) w.end)
    | inr r ↦ elim r [ inl i ↦ inr (subst (λ (z : Entry). has_end x z ≡ true) (sym i) w.end) | inr i ↦ absurd (w.other (ap (λ (z : Entry). z.name) (sym i))) ]
  ]

  -- where the first two are parallel, the three are a bond
  pub three-bond : SameEnds (entry_ends e) (entry_ends f) → IsBond (family_skeleton (e ∷ f ∷ h ∷ []))
  three-bond s = record {
    two = record {
      poles = entry_ends e;
      differ = loopless e in-e;
      joined = All-cons (SameEnds (entry_ends e)) (entry_ends e) (entry_ends f ∷ entry_ends h ∷ []) (inl (refl, refl))
          (All-cons (SameEnds (entry_ends e)) (entry_ends f) (entry_ends h ∷ []) s
          (All-cons (SameEnds (entry_ends e)) (entry_ends h) [] third (All-nil (SameEnds (entry_ends e)))));
    };
    three = omega arith;
  }
    where
      on-first : (x : ℕ) → has_end x h ≡ true → has_end x e ≡ true
      on-first x t = elim (at-third x t) [ inl i ↦ i | inr i ↦ parallel-end e f x s i ]

      third : SameEnds (entry_ends e) (entry_ends h)
      third = joins-parallel h.first h.second e h (loopless h in-h)
          (and_from (has_end h.first e) (has_end h.second e) (on-first h.first (first-end h.first h refl)) (on-first h.second (second-end h.second h refl)))
          (and_from (has_end h.first h) (has_end h.second h) (first-end h.first h refl) (second-end h.second h refl))

  -- where they are not: the second has one end a of the first, whose other end b is an end of the third
  corner : (SameEnds (entry_ends e) (entry_ends f) → ⊥) → (a b : ℕ) → a ≢ b → joins a b e ≡ true → has_end a f ≡ true → has_end b h ≡ true → IsPolygon (family_skeleton (e ∷ f ∷ h ∷ []))
  corner n a b ab j t u = let o = other-end a f (loopless f in-f) t in closed o.0 o.1 o.2
    where
      closed : (c : ℕ) → c ≢ a → joins a c f ≡ true → IsPolygon (family_skeleton (e ∷ f ∷ h ∷ []))
      closed c ca k = triangle a b c e f h ab bc ca j k (and_from (has_end b h) (has_end c h) u on-third)
        where
          bc : b ≢ c
          bc i = n (joins-parallel a b e f ab j (subst (λ (z : ℕ). joins a z f ≡ true) (sym i) k))

          on-third : has_end c h ≡ true
          on-third = elim (at-second c (and_parts (has_end a f) (has_end c f) k).1) [
            | inl i ↦ elim (joins-ends a b c e ab j i) [ inl p ↦ absurd (ca p) | inr p ↦ absurd (bc (sym p)) ]
            | inr i ↦ i
          ]

  -- where the first two are not parallel, the three are a triangle
  pub three-polygon : (SameEnds (entry_ends e) (entry_ends f) → ⊥) → IsPolygon (family_skeleton (e ∷ f ∷ h ∷ []))
  three-polygon n = elim (at-first e.first a-end) [
    | inl p ↦ elim (at-first e.second b-end) [
      | inl q ↦ absurd (n (joins-parallel e.first e.second e f (loopless e in-e) own (and_from (has_end e.first f) (has_end e.second f) p q)))
      | inr q ↦ corner n e.first e.second (loopless e in-e) own p q
    ]
    | inr p ↦ elim (at-first e.second b-end) [
      | inl q ↦ corner n e.second e.first (λ i. loopless e in-e (sym i)) (and_from (has_end e.second e) (has_end e.first e) b-end a-end) q p
      | inr q ↦ absurd (n (joins-parallel f.first f.second e f (loopless f in-f) (and_from (has_end f.first e) (has_end f.second e) (on-first p q f.first (first-end f.first f refl)) (on-first p q f.second (second-end f.second f refl)))
          (and_from (has_end f.first f) (has_end f.second f) (first-end f.first f refl) (second-end f.second f refl))))
    ]
  ]
    where
      a-end : has_end e.first e ≡ true
      a-end = first-end e.first e refl

      b-end : has_end e.second e ≡ true
      b-end = second-end e.second e refl

      own : joins e.first e.second e ≡ true
      own = and_from (has_end e.first e) (has_end e.second e) a-end b-end

      on-first : has_end e.first h ≡ true → has_end e.second h ≡ true → (x : ℕ) → has_end x f ≡ true → has_end x e ≡ true
      on-first p q x t = elim (at-second x t) [
        | inl i ↦ i
        | inr i ↦ elim (joins-ends e.first e.second x h (loopless e in-e) (and_from (has_end e.first h) (has_end e.second h) p q) i) [ inl z ↦ first-end x e z | inr z ↦ second-end x e z ]
      ]
