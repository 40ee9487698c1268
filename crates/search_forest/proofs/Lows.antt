-- The two low vertices, while fronds are taken into account and vertices hand on what they lead to.
use Rattle.std.proofs.Common.{◌≡◌, ◌≢◌, ℕ, ◌+◌, ◌<◌, ◌≤◌, ◌⊎◌, inl, inr, true, false, List, [], length, drop, get_or, refl, sym, ap, ◌∙◌, subst, arith}
use Rattle.std.proofs.lemmas.Bool.{cases_eq, cases_Bool, true≢false}
use Rattle.permutations.specs.Members.{is_member}
use Rattle.permutations.proofs.Members.{member-cases}
use Rattle.multigraph.specs.Graph.{Multigraph, edge_count, IsGraph}
use Rattle.graph_theory.proofs.Chains.{below-transitive, below-parent, below-reflexive}
use Rattle.search_forest.specs.Forest.{ForestState, is_tree_edge, upper_end}
use Rattle.search_forest.specs.Searching.{IsOver}
use Rattle.search_forest.specs.Low.{LowVertices, taken, LeadsFrom, IsTaken, AreLowSoFar}
use Rattle.search_forest.proofs.Taking.{Change, taken-change, change-taken, change-keeps}
use Rattle.search_forest.proofs.Grown.{forest, parent-in, parent-depth, lower-in, upper-in, order-in, order-from, parent-before}

module _ (g : Multigraph) (gg : IsGraph g) (s : ForestState) (o : IsOver g s) where
  -- the parent of a vertex leads where it leads
  pub leads-up : (v x : ℕ) → v < g.vertex_count → 0 < get_or s.depth v 0 → LeadsFrom g s v x → LeadsFrom g s (get_or s.parent v 0) x
  leads-up v x l d w = record {
    edge = w.edge;
    edge_in = w.edge_in;
    frond = w.frond;
    below = below-transitive g (λ k. get_or s.parent k 0) (λ k. get_or s.depth k 0) (λ k. get_or s.parent_edge k 0) (λ e. get_or s.lower e 0) (forest g gg s o) (get_or s.parent v 0) v (get_or s.lower w.edge 0) (lower-in g gg s o w.edge w.edge_in)
        (below-parent g (λ k. get_or s.parent k 0) (λ k. get_or s.depth k 0) (λ k. get_or s.parent_edge k 0) (λ e. get_or s.lower e 0) (forest g gg s o) v d) w.below;
    upper = w.upper;
  }

  -- where something leads is a vertex
  pub leads-in : (v x : ℕ) → LeadsFrom g s v x → x < g.vertex_count
  leads-in v x w = subst (λ (z : ℕ). z < g.vertex_count) w.upper (upper-in g gg s o w.edge w.edge_in)

  module _ (low : LowVertices) (k : ℕ) (handed : List ℕ) (a : AreLowSoFar g s low k handed) where
    pub first-in : (v : ℕ) → v < g.vertex_count → get_or low.first v 0 < g.vertex_count
    first-in v l = elim (a.first_among v l) [ inl e ↦ subst (λ (z : ℕ). z < g.vertex_count) (sym e) l | inr w ↦ leads-in v (get_or low.first v 0) w ]

    pub second-in : (v : ℕ) → v < g.vertex_count → get_or low.second v 0 < g.vertex_count
    second-in v l = elim (a.second_among v l) [ inl e ↦ subst (λ (z : ℕ). z < g.vertex_count) (sym e) l | inr w ↦ leads-in v (get_or low.second v 0) w ]

    -- the first low vertex is no deeper than the vertex
    pub first-own : (v : ℕ) → v < g.vertex_count → get_or s.depth (get_or low.first v 0) 0 ≤ get_or s.depth v 0
    first-own v l = elim (a.apart v l) [
      | inl e ↦ omega (arith, ap (λ (z : ℕ). get_or s.depth z 0) e.0)
      | inr d ↦ omega (arith, d, a.own v l)
    ]

    -- what holds is kept where x is taken into account at v, which has not handed on yet
    pub take-kept : (v x : ℕ) (new : LowVertices) → v < g.vertex_count → LeadsFrom g s v x ⊎ (get_or s.depth v 0 ≤ get_or s.depth x 0) → is_member v handed ≡ false → Change s.depth low new v x → AreLowSoFar g s new k handed
    take-kept v x new l w out c = record {
      first_places = c.first_places ∙ a.first_places;
      second_places = c.second_places ∙ a.second_places;
      first_among = λ u m. elim (cases_eq u v) [
        | inr n ↦ subst (λ (z : ℕ). (z ≡ u) ⊎ LeadsFrom g s u z) (sym (c.first_other u n)) (a.first_among u m)
        | inl q ↦ subst (λ (i : ℕ). (get_or new.first i 0 ≡ i) ⊎ LeadsFrom g s i (get_or new.first i 0)) (sym q) first-here
      ];
      second_among = λ u m. elim (cases_eq u v) [
        | inr n ↦ subst (λ (z : ℕ). (z ≡ u) ⊎ LeadsFrom g s u z) (sym (c.second_other u n)) (a.second_among u m)
        | inl q ↦ subst (λ (i : ℕ). (get_or new.second i 0 ≡ i) ⊎ LeadsFrom g s i (get_or new.second i 0)) (sym q) second-here
      ];
      apart = λ u m. elim (cases_eq u v) [
        | inr n ↦ subst (λ (z : ℕ). ((z ≡ u) × (get_or new.second u 0 ≡ u)) ⊎ (get_or s.depth z 0 < get_or s.depth (get_or new.second u 0) 0)) (sym (c.first_other u n))
            (subst (λ (z : ℕ). ((get_or low.first u 0 ≡ u) × (z ≡ u)) ⊎ (get_or s.depth (get_or low.first u 0) 0 < get_or s.depth z 0)) (sym (c.second_other u n)) (a.apart u m))
        | inl q ↦ subst (λ (i : ℕ). ((get_or new.first i 0 ≡ i) × (get_or new.second i 0 ≡ i)) ⊎ (get_or s.depth (get_or new.first i 0) 0 < get_or s.depth (get_or new.second i 0) 0)) (sym q) apart-here
      ];
      own = λ u m. elim (cases_eq u v) [
        | inr n ↦ omega (arith, ap (λ (z : ℕ). get_or s.depth z 0) (c.second_other u n), a.own u m)
        | inl q ↦ subst (λ (i : ℕ). get_or s.depth (get_or new.second i 0) 0 ≤ get_or s.depth i 0) (sym q) own-here
      ];
      fronds = λ e m i f. change-keeps s.depth low new v x c (get_or s.lower e 0) (upper_end g s e) (a.fronds e m i f);
      first_handed = λ u h d.
          subst (IsTaken s.depth new (get_or s.parent u 0)) (sym (c.first_other u (λ q. true≢false (sym h ∙ (ap (λ (z : ℕ). is_member z handed) q ∙ out)))))
          (change-keeps s.depth low new v x c (get_or s.parent u 0) (get_or low.first u 0) (a.first_handed u h d));
      second_handed = λ u h d.
          subst (IsTaken s.depth new (get_or s.parent u 0)) (sym (c.second_other u (λ q. true≢false (sym h ∙ (ap (λ (z : ℕ). is_member z handed) q ∙ out)))))
          (change-keeps s.depth low new v x c (get_or s.parent u 0) (get_or low.second u 0) (a.second_handed u h d));
    }
      where
        leads : get_or s.depth x 0 < get_or s.depth v 0 → LeadsFrom g s v x
        leads d = elim w [ inl y ↦ y | inr n ↦ absurd (omega arith) ]

        first-here : (get_or new.first v 0 ≡ v) ⊎ LeadsFrom g s v (get_or new.first v 0)
        first-here = elim c.here [
          | inl p ↦ inr (subst (LeadsFrom g s v) (sym p.1) (leads (omega (arith, p.0, first-own v l))))
          | inr r ↦ elim r [
            | inl p ↦ subst (λ (z : ℕ). (z ≡ v) ⊎ LeadsFrom g s v z) (sym p.2) (a.first_among v l)
            | inr p ↦ subst (λ (z : ℕ). (z ≡ v) ⊎ LeadsFrom g s v z) (sym p.2) (a.first_among v l)
          ]
        ]

        second-here : (get_or new.second v 0 ≡ v) ⊎ LeadsFrom g s v (get_or new.second v 0)
        second-here = elim c.here [
          | inl p ↦ subst (λ (z : ℕ). (z ≡ v) ⊎ LeadsFrom g s v z) (sym p.2) (a.first_among v l)
          | inr r ↦ elim r [
            | inl p ↦ inr (subst (LeadsFrom g s v) (sym p.3) (leads (omega (arith, p.1, a.own v l))))
            | inr p ↦ subst (λ (z : ℕ). (z ≡ v) ⊎ LeadsFrom g s v z) (sym p.3) (a.second_among v l)
          ]
        ]

        apart-here : ((get_or new.first v 0 ≡ v) × (get_or new.second v 0 ≡ v)) ⊎ (get_or s.depth (get_or new.first v 0) 0 < get_or s.depth (get_or new.second v 0) 0)
        apart-here = elim c.here [
          | inl p ↦ inr (omega (arith, p.0, ap (λ (z : ℕ). get_or s.depth z 0) p.1, ap (λ (z : ℕ). get_or s.depth z 0) p.2))
          | inr r ↦ elim r [
            | inl p ↦ inr (omega (arith, p.0, ap (λ (z : ℕ). get_or s.depth z 0) p.2, ap (λ (z : ℕ). get_or s.depth z 0) p.3))
            | inr p ↦ elim (a.apart v l) [
              | inl e ↦ inl (p.2 ∙ e.0, p.3 ∙ e.1)
              | inr d ↦ inr (omega (arith, d, ap (λ (z : ℕ). get_or s.depth z 0) p.2, ap (λ (z : ℕ). get_or s.depth z 0) p.3))
            ]
          ]
        ]

        own-here : get_or s.depth (get_or new.second v 0) 0 ≤ get_or s.depth v 0
        own-here = elim c.here [
          | inl p ↦ omega (arith, first-own v l, ap (λ (z : ℕ). get_or s.depth z 0) p.2)
          | inr r ↦ elim r [
            | inl p ↦ omega (arith, p.1, a.own v l, ap (λ (z : ℕ). get_or s.depth z 0) p.3)
            | inr p ↦ omega (arith, a.own v l, ap (λ (z : ℕ). get_or s.depth z 0) p.3)
          ]
        ]

  -- a parent edge needs not be taken into account
  pub edge-passed : (low : LowVertices) (e : ℕ) → AreLowSoFar g s low e [] → is_tree_edge s e ≡ true → AreLowSoFar g s low (e + 1) []
  edge-passed low e a t = record {
    first_places = a.first_places;
    second_places = a.second_places;
    first_among = a.first_among;
    second_among = a.second_among;
    apart = a.apart;
    own = a.own;
    fronds = λ i l m n. elim (cases_eq i e) [
      | inl q ↦ absurd (true≢false (sym t ∙ (ap (is_tree_edge s) (sym q) ∙ n)))
      | inr d ↦ a.fronds i (omega arith) m n
    ];
    first_handed = a.first_handed;
    second_handed = a.second_handed;
  }

  -- a frond was taken into account at its lower end
  pub edge-taken : (low : LowVertices) (e : ℕ) → AreLowSoFar g s low e [] → e < edge_count g → is_tree_edge s e ≡ false → AreLowSoFar g s (taken s.depth low (get_or s.lower e 0) (upper_end g s e)) (e + 1) []
  edge-taken low e a l f =
      let v = get_or s.lower e 0 in
      let x = upper_end g s e in
      let vl = lower-in g gg s o e l in
      let c = taken-change s.depth low v x (omega (arith, vl, a.first_places)) (omega (arith, vl, a.second_places)) in
      let b = take-kept low e [] a v x (taken s.depth low v x) vl
      (inl (record { edge = e; edge_in = l; frond = f; below = below-reflexive g (λ k. get_or s.parent k 0) (λ k. get_or s.depth k 0) (λ k. get_or s.parent_edge k 0) (λ q. get_or s.lower q 0) (forest g gg s o) v; upper = refl })) refl c in
      record {
        first_places = b.first_places;
        second_places = b.second_places;
        first_among = b.first_among;
        second_among = b.second_among;
        apart = b.apart;
        own = b.own;
        fronds = λ i k m n. elim (cases_eq i e) [
          | inl q ↦ subst (λ (z : ℕ). IsTaken s.depth (taken s.depth low v x) (get_or s.lower z 0) (upper_end g s z)) (sym q) (change-taken s.depth low (taken s.depth low v x) v x c)
          | inr d ↦ b.fronds i (omega arith) m n
        ];
        first_handed = b.first_handed;
        second_handed = b.second_handed;
      }

  -- a root has nothing to hand on
  pub root-passed : (low : LowVertices) (k i : ℕ) → i < length s.order → AreLowSoFar g s low k (drop (i + 1) s.order) → get_or s.depth (get_or s.order i 0) 0 ≡ 0 → AreLowSoFar g s low k (drop i s.order)
  root-passed low k i l a z = record {
    first_places = a.first_places;
    second_places = a.second_places;
    first_among = a.first_among;
    second_among = a.second_among;
    apart = a.apart;
    own = a.own;
    fronds = a.fronds;
    first_handed = λ u h d. a.first_handed u (behind u h d) d;
    second_handed = λ u h d. a.second_handed u (behind u h d) d;
  }
    where
      behind : (u : ℕ) → is_member u (drop i s.order) ≡ true → 0 < get_or s.depth u 0 → is_member u (drop (i + 1) s.order) ≡ true
      behind u h d = elim (member-cases u (get_or s.order i 0) (drop (i + 1) s.order) (subst (λ (l : List ℕ). is_member u l ≡ true) (order-from g gg s o i l) h)) [
        | inl e ↦ absurd (omega (arith, d, z, ap (λ (q : ℕ). get_or s.depth q 0) e))
        | inr m ↦ m
      ]

  -- the vertex at place i hands its low vertices on to its parent
  pub handed-on : (low : LowVertices) (k i : ℕ) → i < length s.order → AreLowSoFar g s low k (drop (i + 1) s.order) → 0 < get_or s.depth (get_or s.order i 0) 0
      → AreLowSoFar g s (taken s.depth (taken s.depth low (get_or s.parent (get_or s.order i 0) 0) (get_or low.first (get_or s.order i 0) 0)) (get_or s.parent (get_or s.order i 0) 0) (get_or low.second (get_or s.order i 0) 0)) k (drop i s.order)
  handed-on low k i l a d = record {
    first_places = b.first_places;
    second_places = b.second_places;
    first_among = b.first_among;
    second_among = b.second_among;
    apart = b.apart;
    own = b.own;
    fronds = b.fronds;
    first_handed = λ u h e. elim (at u h) [
      | inl q ↦ subst (λ (z : ℕ). IsTaken s.depth new (get_or s.parent z 0) (get_or new.first z 0)) q
          (subst (IsTaken s.depth new p) (sym first-stays) (change-keeps s.depth mid new p y c2 p x (change-taken s.depth low mid p x c1)))
      | inr m ↦ b.first_handed u m e
    ];
    second_handed = λ u h e. elim (at u h) [
      | inl q ↦ subst (λ (z : ℕ). IsTaken s.depth new (get_or s.parent z 0) (get_or new.second z 0)) q
          (subst (IsTaken s.depth new p) (sym second-stays) (change-taken s.depth mid new p y c2))
      | inr m ↦ b.second_handed u m e
    ];
  }
    where
      v : ℕ
      v = get_or s.order i 0

      vl : v < g.vertex_count
      vl = order-in g gg s o i l

      p : ℕ
      p = get_or s.parent v 0

      pl : p < g.vertex_count
      pl = parent-in g gg s o v vl d

      x : ℕ
      x = get_or low.first v 0

      y : ℕ
      y = get_or low.second v 0

      mid : LowVertices
      mid = taken s.depth low p x

      new : LowVertices
      new = taken s.depth mid p y

      c1 : Change s.depth low mid p x
      c1 = taken-change s.depth low p x (omega (arith, pl, a.first_places)) (omega (arith, pl, a.second_places))

      c2 : Change s.depth mid new p y
      c2 = taken-change s.depth mid p y (omega (arith, pl, a.first_places, c1.first_places)) (omega (arith, pl, a.second_places, c1.second_places))

      pd : get_or s.depth p 0 + 1 ≡ get_or s.depth v 0
      pd = parent-depth g gg s o v vl d

      -- the parent has not handed on, and is another vertex
      before : is_member p (drop i s.order) ≡ false
      before = parent-before g gg s o i l d

      out : is_member p (drop (i + 1) s.order) ≡ false
      out = elim (cases_Bool (is_member p (drop (i + 1) s.order))) [
        | inl t ↦ absurd (true≢false (sym (subst (λ (z : List ℕ). is_member p z ≡ true) (sym (order-from g gg s o i l)) (grind (arith, t))) ∙ before))
        | inr f ↦ f
      ]

      differs : v ≢ p
      differs e = absurd (omega (arith, pd, ap (λ (z : ℕ). get_or s.depth z 0) e))

      wx : LeadsFrom g s p x ⊎ (get_or s.depth p 0 ≤ get_or s.depth x 0)
      wx = elim (a.first_among v vl) [ inl e ↦ inr (omega (arith, pd, ap (λ (z : ℕ). get_or s.depth z 0) e)) | inr w ↦ inl (leads-up v x vl d w) ]

      wy : LeadsFrom g s p y ⊎ (get_or s.depth p 0 ≤ get_or s.depth y 0)
      wy = elim (a.second_among v vl) [ inl e ↦ inr (omega (arith, pd, ap (λ (z : ℕ). get_or s.depth z 0) e)) | inr w ↦ inl (leads-up v y vl d w) ]

      b : AreLowSoFar g s new k (drop (i + 1) s.order)
      b = take-kept mid k (drop (i + 1) s.order) (take-kept low k (drop (i + 1) s.order) a p x mid pl wx out c1) p y new pl wy out c2

      first-stays : get_or new.first v 0 ≡ x
      first-stays = c2.first_other v differs ∙ c1.first_other v differs

      second-stays : get_or new.second v 0 ≡ y
      second-stays = c2.second_other v differs ∙ c1.second_other v differs

      at : (u : ℕ) → is_member u (drop i s.order) ≡ true → (v ≡ u) ⊎ (is_member u (drop (i + 1) s.order) ≡ true)
      at u h = member-cases u v (drop (i + 1) s.order) (subst (λ (z : List ℕ). is_member u z ≡ true) (order-from g gg s o i l) h)

  -- in between, when the first low vertex was taken into account
  pub handed-mid : (low : LowVertices) (k i : ℕ) → i < length s.order → AreLowSoFar g s low k (drop (i + 1) s.order) → 0 < get_or s.depth (get_or s.order i 0) 0
      → AreLowSoFar g s (taken s.depth low (get_or s.parent (get_or s.order i 0) 0) (get_or low.first (get_or s.order i 0) 0)) k (drop (i + 1) s.order)
  handed-mid low k i l a d = take-kept low k (drop (i + 1) s.order) a p x (taken s.depth low p x) pl wx out (taken-change s.depth low p x (omega (arith, pl, a.first_places)) (omega (arith, pl, a.second_places)))
    where
      v : ℕ
      v = get_or s.order i 0

      vl : v < g.vertex_count
      vl = order-in g gg s o i l

      p : ℕ
      p = get_or s.parent v 0

      pl : p < g.vertex_count
      pl = parent-in g gg s o v vl d

      x : ℕ
      x = get_or low.first v 0

      pd : get_or s.depth p 0 + 1 ≡ get_or s.depth v 0
      pd = parent-depth g gg s o v vl d

      out : is_member p (drop (i + 1) s.order) ≡ false
      out = elim (cases_Bool (is_member p (drop (i + 1) s.order))) [
        | inl t ↦ absurd (true≢false (sym (subst (λ (z : List ℕ). is_member p z ≡ true) (sym (order-from g gg s o i l)) (grind (arith, t))) ∙ parent-before g gg s o i l d))
        | inr f ↦ f
      ]

      wx : LeadsFrom g s p x ⊎ (get_or s.depth p 0 ≤ get_or s.depth x 0)
      wx = elim (a.first_among v vl) [ inl e ↦ inr (omega (arith, pd, ap (λ (z : ℕ). get_or s.depth z 0) e)) | inr w ↦ inl (leads-up v x vl d w) ]
