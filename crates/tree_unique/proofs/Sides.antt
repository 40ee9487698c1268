-- Sides of a block's edges: the vertices that they touch and share; the corners of two 2-separations that cross.
use Rattle.std.proofs.Common.{◌≡◌, ℕ, ◌+◌, ◌<◌, ◌≤◌, inl, inr, Bool, true, false, not, ◌&&◌, ◌||◌, sym, ap, ap₂, ◌∙◌, arith}
use Rattle.std.proofs.lemmas.Bool.{cases_Bool, and_from, and_parts, or_cases, or_left, or_right, not-true, not_from_false}
use Rattle.permutations.specs.Count.{count, some, sum_below}
use Rattle.permutations.proofs.Count.{count-ext}
use Rattle.permutations.proofs.Search.{some-from, some-witness, some-ext}
use Rattle.permutations.proofs.Sums.{sum_below-term}
use Rattle.permutations.proofs.Relation.{same-tests}
use Rattle.multigraph.specs.Graph.{Multigraph, edge_count, ends_of, is_end}
use Rattle.multigraph.proofs.OtherEnd.{is_end-cases}
use Rattle.graph_theory.specs.Block.{IsOneBlock}
use Rattle.graph_theory.specs.Side.{IsCommon}
use Rattle.graph_theory.proofs.Crossings.{TwoCommon}
use Rattle.pair_split.proofs.GraphSides.{block-two_common}
use Rattle.graph_theory.specs.Separation.{other_side, IsSeparation, DoCross, AreSameSide}
use Rattle.graph_theory.proofs.Counting.{two-count, two-most}
use Rattle.tree_unique.proofs.Corners.{first_common, second_common, corner_common, AreCorners}

-- whether some edge on the side s has the end v
abbrev pub touches : Multigraph → (ℕ → Bool) → ℕ → Bool
touches g s v = some (edge_count g) (λ e. s e && is_end g v e)

-- whether v has an edge on the side s and one on the other side
abbrev pub is_shared : Multigraph → (ℕ → Bool) → ℕ → Bool
is_shared g s v = touches g s v && touches g (other_side s) v

-- a number above all ends
pub vertex_bound : Multigraph → ℕ
vertex_bound g = sum_below (edge_count g) (λ e. (ends_of g e).0 + (ends_of g e).1) + 1

pub end-below : (g : Multigraph) (v e : ℕ) → e < edge_count g → is_end g v e ≡ true → v < vertex_bound g
unfolding vertex_bound
end-below g v e l h = elim (is_end-cases g v e h) [
  | inl a ↦ omega (arith, a, sum_below-term (edge_count g) (λ e. (ends_of g e).0 + (ends_of g e).1) e l)
  | inr a ↦ omega (arith, a, sum_below-term (edge_count g) (λ e. (ends_of g e).0 + (ends_of g e).1) e l)
]

-- an edge on the side s with the end v
pub record EdgeAt (g : Multigraph) (s : ℕ → Bool) (v : ℕ) : Type 0 where
  pub edge : ℕ
  pub edge_in : edge < edge_count g
  pub on : s edge ≡ true
  pub end : is_end g v edge ≡ true

pub touches-from : (g : Multigraph) (s : ℕ → Bool) (v : ℕ) → EdgeAt g s v → touches g s v ≡ true
touches-from g s v w = some-from (edge_count g) (λ e. s e && is_end g v e) w.edge w.edge_in (and_from (s w.edge) (is_end g v w.edge) w.on w.end)

pub touching : (g : Multigraph) (s : ℕ → Bool) (v : ℕ) → touches g s v ≡ true → EdgeAt g s v
touching g s v h =
    let w = some-witness (edge_count g) (λ e. s e && is_end g v e) h in
    let p = and_parts (s w.0) (is_end g v w.0) w.2 in
    record { edge = w.0; edge_in = w.1; on = p.0; end = p.1 }

-- sides with the same edges touch the same vertices
pub touches-ext : (g : Multigraph) (s t : ℕ → Bool) (v : ℕ) → AreSameSide g s t → touches g s v ≡ touches g t v
touches-ext g s t v h = some-ext (edge_count g) (λ e. s e && is_end g v e) (λ e. t e && is_end g v e) (λ e l. ap (λ (b : Bool). b && is_end g v e) (h e l))

-- a side of two parts touches what either touches
touches-parts : (g : Multigraph) (s p q : ℕ → Bool) (v : ℕ) → ((e : ℕ) → s e ≡ (p e || q e)) → touches g s v ≡ (touches g p v || touches g q v)
touches-parts g s p q v h = same-tests (touches g s v) (touches g p v || touches g q v) down up
  where
    down : touches g s v ≡ true → (touches g p v || touches g q v) ≡ true
    down t =
        let w = touching g s v t in
        elim (or_cases (p w.edge) (q w.edge) (sym (h w.edge) ∙ w.on)) [
          | inl a ↦ or_left (touches g p v) (touches g q v) (touches-from g p v (record { edge = w.edge; edge_in = w.edge_in; on = a; end = w.end }))
          | inr a ↦ or_right (touches g p v) (touches g q v) (touches-from g q v (record { edge = w.edge; edge_in = w.edge_in; on = a; end = w.end }))
        ]

    up : (touches g p v || touches g q v) ≡ true → touches g s v ≡ true
    up t = elim (or_cases (touches g p v) (touches g q v) t) [
      | inl a ↦ let w = touching g p v a in touches-from g s v (record { edge = w.edge; edge_in = w.edge_in; on = h w.edge ∙ or_left (p w.edge) (q w.edge) w.on; end = w.end })
      | inr a ↦ let w = touching g q v a in touches-from g s v (record { edge = w.edge; edge_in = w.edge_in; on = h w.edge ∙ or_right (p w.edge) (q w.edge) w.on; end = w.end })
    ]

-- a common vertex is shared, and the other way round
pub common-shared : (g : Multigraph) (s : ℕ → Bool) (v : ℕ) → IsCommon g s v → is_shared g s v ≡ true
common-shared g s v c = and_from (touches g s v) (touches g (other_side s) v)
    (touches-from g s v (record { edge = c.inside; edge_in = c.inside_edge; on = c.inside_side; end = c.inside_end }))
    (touches-from g (other_side s) v (record { edge = c.outside; edge_in = c.outside_edge; on = not_from_false (s c.outside) c.outside_side; end = c.outside_end }))

pub shared-common : (g : Multigraph) (s : ℕ → Bool) (v : ℕ) → is_shared g s v ≡ true → IsCommon g s v
shared-common g s v h =
    let p = and_parts (touches g s v) (touches g (other_side s) v) h in
    let i = touching g s v p.0 in
    let o = touching g (other_side s) v p.1 in
    record {
      inside = i.edge;
      outside = o.edge;
      inside_edge = i.edge_in;
      outside_edge = o.edge_in;
      inside_end = i.end;
      outside_end = o.end;
      inside_side = i.on;
      outside_side = not-true (s o.edge) o.on;
    }

-- a common vertex is below the bound
pub common-in : (g : Multigraph) (s : ℕ → Bool) (v : ℕ) → IsCommon g s v → v < vertex_bound g
common-in g s v c = end-below g v c.inside c.inside_edge c.inside_end

-- a 2-separation shares two vertices
pub shared-two : (g : Multigraph) (s : ℕ → Bool) → IsSeparation g s → count (vertex_bound g) (is_shared g s) ≡ 2
shared-two g s i =
    let most = two-most (vertex_bound g) (is_shared g s) i.first i.second (λ v l h. i.no_other v (shared-common g s v h)) in
    let least = two-count (vertex_bound g) (is_shared g s) (record {
      first = i.first;
      second = i.second;
      differ = i.differ;
      first_in = common-in g s i.first i.first_common;
      second_in = common-in g s i.second i.second_common;
      first_on = common-shared g s i.first i.first_common;
      second_on = common-shared g s i.second i.second_common;
    }) in
    omega (arith, most, least)

-- the corners
abbrev pub both : (ℕ → Bool) → (ℕ → Bool) → ℕ → Bool
both s t e = s e && t e

-- a corner that is not empty, and does not have all edges, has two vertices in common with the three others
corner-two : (g : Multigraph) → IsOneBlock g → (p q r u : ℕ → Bool) → ((e : ℕ) → p e ≡ false → (q e || (r e || u e)) ≡ true)
    → (e f : ℕ) → e < edge_count g → f < edge_count g → p e ≡ true → p f ≡ false
    → 2 ≤ count (vertex_bound g) (λ v. corner_common (touches g p v) (touches g q v) (touches g r v) (touches g u v))
corner-two g block p q r u cover e f l k i o =
    let w : TwoCommon g p = block-two_common g block p e f l k i o in
    two-count (vertex_bound g) (λ v. corner_common (touches g p v) (touches g q v) (touches g r v) (touches g u v)) (record {
      first = w.first;
      second = w.second;
      differ = w.differ;
      first_in = common-in g p w.first w.first_common;
      second_in = common-in g p w.second w.second_common;
      first_on = at w.first w.first_common;
      second_on = at w.second w.second_common;
    })
  where
    at : (v : ℕ) → IsCommon g p v → corner_common (touches g p v) (touches g q v) (touches g r v) (touches g u v) ≡ true
    at v c = and_from (touches g p v) (touches g q v || (touches g r v || touches g u v))
        (touches-from g p v (record { edge = c.inside; edge_in = c.inside_edge; on = c.inside_side; end = c.inside_end }))
        (elim (or_cases (q c.outside) (r c.outside || u c.outside) (cover c.outside c.outside_side)) [
          | inl a ↦ or_left (touches g q v) (touches g r v || touches g u v) (edge q a)
          | inr b ↦ or_right (touches g q v) (touches g r v || touches g u v) (elim (or_cases (r c.outside) (u c.outside) b) [
            | inl a ↦ or_left (touches g r v) (touches g u v) (edge r a)
            | inr a ↦ or_right (touches g r v) (touches g u v) (edge u a)
          ])
        ])
      where
        edge : (z : ℕ → Bool) → z c.outside ≡ true → touches g z v ≡ true
        edge z a = touches-from g z v (record { edge = c.outside; edge_in = c.outside_edge; on = a; end = c.outside_end })

-- which vertices the four corners of two sides touch
pub corner-tests : (g : Multigraph) → IsOneBlock g → (s t : ℕ → Bool) → IsSeparation g s → IsSeparation g t → DoCross g s t
    → AreCorners (vertex_bound g) (touches g (both s t)) (touches g (both s (other_side t))) (touches g (both (other_side s) (other_side t))) (touches g (both (other_side s) t))
corner-tests g block s t i j c = record {
  first = sym (count-ext n (is_shared g s) (λ v. first_common (a v) (b v) (z v) (d v)) (λ v l. ap₂ (λ x y. x && y) (touches-parts g s ab ab' v (λ e. two (s e) (t e))) (touches-parts g (other_side s) cd cd' v (λ e. other (s e) (t e))))) ∙ shared-two g s i;
  second = sym (count-ext n (is_shared g t) (λ v. second_common (a v) (b v) (z v) (d v)) (λ v l. ap₂ (λ x y. x && y) (touches-parts g t ab cd' v (λ e. back (s e) (t e))) (touches-parts g (other_side t) ab' cd v (λ e. back (s e) (not (t e)))))) ∙ shared-two g t j;
  one = corner-two g block ab ab' cd cd' (λ e. first (s e) (t e)) e1.0 e2.0 e1.1 e2.1 e1.2 (second' e2.0 e2.2);
  two = corner-two g block ab' ab cd cd' (λ e. second (s e) (t e)) e2.0 e1.0 e2.1 e1.1 e2.2 (first' e1.0 e1.2);
  three = corner-two g block cd ab ab' cd' (λ e. third (s e) (t e)) e3.0 e1.0 e3.1 e1.1 e3.2 (one' e1.0 e1.2);
  four = corner-two g block cd' ab ab' cd (λ e. fourth (s e) (t e)) e4.0 e1.0 e4.1 e1.1 e4.2 (zero' e1.0 e1.2);
}
  where
    n : ℕ
    n = vertex_bound g

    ab : ℕ → Bool
    ab = both s t

    ab' : ℕ → Bool
    ab' = both s (other_side t)

    cd : ℕ → Bool
    cd = both (other_side s) (other_side t)

    cd' : ℕ → Bool
    cd' = both (other_side s) t

    a : ℕ → Bool
    a v = touches g ab v

    b : ℕ → Bool
    b v = touches g ab' v

    z : ℕ → Bool
    z v = touches g cd v

    d : ℕ → Bool
    d v = touches g cd' v

    e1 : (e : ℕ) × (e < edge_count g) × (ab e ≡ true)
    e1 = some-witness (edge_count g) (λ e. s e && t e) c.both

    e2 : (e : ℕ) × (e < edge_count g) × (ab' e ≡ true)
    e2 = some-witness (edge_count g) (λ e. s e && not (t e)) c.first_alone

    e3 : (e : ℕ) × (e < edge_count g) × (cd e ≡ true)
    e3 = some-witness (edge_count g) (λ e. not (s e) && not (t e)) c.neither

    e4 : (e : ℕ) × (e < edge_count g) × (cd' e ≡ true)
    e4 = some-witness (edge_count g) (λ e. not (s e) && t e) c.second_alone

    two : (x y : Bool) → x ≡ ((x && y) || (x && not y))
    two x y = grind (arith, cases_Bool x, cases_Bool y)

    other : (x y : Bool) → not x ≡ ((not x && not y) || (not x && y))
    other x y = grind (arith, cases_Bool x, cases_Bool y)

    back : (x y : Bool) → y ≡ ((x && y) || (not x && y))
    back x y = grind (arith, cases_Bool x, cases_Bool y)

    first : (x y : Bool) → (x && y) ≡ false → ((x && not y) || ((not x && not y) || (not x && y))) ≡ true
    first x y h = grind (arith, h, cases_Bool x, cases_Bool y)

    second : (x y : Bool) → (x && not y) ≡ false → ((x && y) || ((not x && not y) || (not x && y))) ≡ true
    second x y h = grind (arith, h, cases_Bool x, cases_Bool y)

    third : (x y : Bool) → (not x && not y) ≡ false → ((x && y) || ((x && not y) || (not x && y))) ≡ true
    third x y h = grind (arith, h, cases_Bool x, cases_Bool y)

    fourth : (x y : Bool) → (not x && y) ≡ false → ((x && y) || ((x && not y) || (not x && not y))) ≡ true
    fourth x y h = grind (arith, h, cases_Bool x, cases_Bool y)

    second' : (e : ℕ) → ab' e ≡ true → ab e ≡ false
    second' e h = grind (arith, h, cases_Bool (s e), cases_Bool (t e))

    first' : (e : ℕ) → ab e ≡ true → ab' e ≡ false
    first' e h = grind (arith, h, cases_Bool (s e), cases_Bool (t e))

    one' : (e : ℕ) → ab e ≡ true → cd e ≡ false
    one' e h = grind (arith, h, cases_Bool (s e), cases_Bool (t e))

    zero' : (e : ℕ) → ab e ≡ true → cd' e ≡ false
    zero' e h = grind (arith, h, cases_Bool (s e), cases_Bool (t e))
