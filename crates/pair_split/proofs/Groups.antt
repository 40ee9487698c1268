-- The groups of the items of a component: each edge of the graph is in exactly one, and two groups meet only in ends of both.
use Rattle.std.proofs.Common.{◌≡◌, ◌≢◌, ℕ, ◌<◌, ◌⊎◌, ◌==◌, inl, inr, true, false, not, List, length, refl, sym, ap, ◌∙◌, subst, arith}
use Rattle.std.proofs.lemmas.Bool.{cases_Bool, cases_eq, eq-eqb, eqb-true, both_ways, false_from_ne_true}
use Rattle.multigraph.specs.Graph.{Multigraph, edge_count, ends_of, is_end}
use Rattle.pair_split.specs.Skeleton.{is_end_of, SameEnds}
use Rattle.pair_split.specs.Split.{items_of, item_at, piece_ends, StandsFor, is_beyond, side, LinksTo, AreLinked, IsSplit}
use Rattle.pair_split.specs.Tutte.{has_in_group}
use Rattle.pair_split.specs.declared.components.What.{What}
use Rattle.pair_split.specs.declared.components.What.TheVariants.{Real, Link}
use Rattle.pair_split.specs.declared.components.Comp.{Comp}
use Rattle.pair_split.proofs.Links.{stands-in, side-home}
use Rattle.pair_split.proofs.TreeSides.{beyond-other, beyond-near, beyond-apart, beyond-some}

-- an item is an edge or a link
pub what-cases : (what : What) → ((e : ℕ) × (what ≡ Real e)) ⊎ ((j : ℕ) × (what ≡ Link j))
what-cases (Real e) = inl (e, refl)
what-cases (Link j) = inr (j, refl)

-- the same two ends have the same vertices as ends
pub same-end : (p q : ℕ × ℕ) (v : ℕ) → SameEnds p q → is_end_of v q ≡ true → is_end_of v p ≡ true
same-end p q v e h = elim e [
  | inl i ↦ grind (arith, i.0, i.1, h)
  | inr i ↦ grind (arith, i.0, i.1, h, cases_Bool (p.0 == v), cases_Bool (p.1 == v))
]

pub same-end_back : (p q : ℕ × ℕ) (v : ℕ) → SameEnds p q → is_end_of v p ≡ true → is_end_of v q ≡ true
same-end_back p q v e h = elim e [
  | inl i ↦ grind (arith, i.0, i.1, h)
  | inr i ↦ grind (arith, i.0, i.1, h, cases_Bool (q.0 == v), cases_Bool (q.1 == v))
]

module _ (g : Multigraph) (comps : List Comp) (s : IsSplit g comps) where
  abbrev linked : AreLinked comps
  linked = s.linked

  -- what item i of component k stands for
  abbrev what : ℕ → ℕ → What
  what k i = (item_at comps k i).what

  -- an edge is on the side of a link where the component is that has it
  pub side-at : (k j h i e : ℕ) → StandsFor comps h i (Real e) → side comps k j e ≡ is_beyond comps k j h
  side-at k j h i e a = side-home comps k j h i e a (λ d f b. (s.covers.once e d f h i b a).0)

  -- an edge is on one side of a link or on the other
  pub side-other : (k j e : ℕ) → LinksTo comps k j → e < edge_count g → side comps k j e ≡ not (side comps j k e)
  side-other k j e l b =
      let h = s.covers.present e b in
      side-at k j h.0 h.1 e h.2 ∙ beyond-other comps linked k j h.0 l (stands-in comps h.0 h.1 (Real e) h.2) ∙ ap not (sym (side-at j k h.0 h.1 e h.2))

  -- an edge in the group of an item: the item is it, or a link to its side
  pub group-cases : (k e : ℕ) (w : What) → has_in_group comps k e w ≡ true → (w ≡ Real e) ⊎ ((j : ℕ) × (w ≡ Link j) × (side comps k j e ≡ true))
  group-cases k e (Real f) h = inl (ap Real (eqb-true f e h))
  group-cases k e (Link j) h = inr (j, refl, h)

  pub in_group-real : (k e : ℕ) (w : What) → w ≡ Real e → has_in_group comps k e w ≡ true
  in_group-real k e w q = subst (λ (z : What). has_in_group comps k e z ≡ true) (sym q) (eq-eqb e e refl)

  pub in_group-link : (k j e : ℕ) (w : What) → w ≡ Link j → has_in_group comps k e w ≡ side comps k j e
  in_group-link k j e w q = ap (λ (z : What). has_in_group comps k e z) q

  -- each edge is in the group of an item
  pub group-some : (k e : ℕ) → k < length comps → e < edge_count g → (i : ℕ) × (i < length (items_of comps k)) × (has_in_group comps k e (what k i) ≡ true)
  group-some k e l b =
      let h = s.covers.present e b in
      elim (cases_eq h.0 k) [
        | inl q ↦ let here : StandsFor comps k h.1 (Real e) = subst (λ z. StandsFor comps z h.1 (Real e)) q h.2 in (h.1, here.0, in_group-real k e (what k h.1) here.1)
        | inr n ↦ let d = beyond-some comps linked k h.0 l (stands-in comps h.0 h.1 (Real e) h.2) n in
            ((d.1).0, ((d.1).1).0, in_group-link k d.0 e (what k (d.1).0) ((d.1).1).1 ∙ side-at k d.0 h.0 h.1 e h.2 ∙ d.2)
      ]

  -- an edge of component k is on the far side of none of its links
  real-near : (k j i h e : ℕ) → StandsFor comps k i (Real e) → StandsFor comps k h (Link j) → side comps k j e ≡ false
  real-near k j i h e a l = side-at k j k i e a ∙ beyond-near comps linked k j (h, l)

  -- in the group of one item only
  pub group-once : (k e i h : ℕ) → i < length (items_of comps k) → h < length (items_of comps k) → e < edge_count g → has_in_group comps k e (what k i) ≡ true → has_in_group comps k e (what k h) ≡ true → i ≡ h
  group-once k e i h l b m x y = elim (group-cases k e (what k i) x) [
    | inl p ↦ elim (group-cases k e (what k h) y) [
      | inl q ↦ (s.covers.once e k i k h (l, p) (b, q)).1
      | inr q ↦ absurd (both_ways (side comps k q.0 e) (real-near k q.0 i h e (l, p) (b, q.1)) q.2)
    ]
    | inr p ↦ elim (group-cases k e (what k h) y) [
      | inl q ↦ absurd (both_ways (side comps k p.0 e) (real-near k p.0 h i e (b, q) (l, p.1)) p.2)
      | inr q ↦ elim (cases_eq p.0 q.0) [
        | inl n ↦ linked.once k p.0 i h (l, p.1) (b, q.1 ∙ ap Link (sym n))
        | inr n ↦
            let w = s.covers.present e m in
            let far : is_beyond comps k p.0 w.0 ≡ true = sym (side-at k p.0 w.0 w.1 e w.2) ∙ p.2 in
            absurd (both_ways (is_beyond comps k q.0 w.0) (beyond-apart comps linked k p.0 q.0 w.0 (i, (l, p.1)) (h, (b, q.1)) n far) (sym (side-at k q.0 w.0 w.1 e w.2) ∙ q.2))
      ]
    ]
  ]

  -- a vertex with edges in two groups is an end of both items
  pub group-common : (k i h e f v : ℕ) → i < length (items_of comps k) → h < length (items_of comps k) → i ≢ h → e < edge_count g → f < edge_count g
      → has_in_group comps k e (what k i) ≡ true → has_in_group comps k f (what k h) ≡ true → is_end g v e ≡ true → is_end g v f ≡ true → is_end_of v (piece_ends (item_at comps k i)) ≡ true
  group-common k i h e f v l b n m o x y p q = elim (group-cases k e (what k i) x) [
    | inl r ↦ same-end (piece_ends (item_at comps k i)) (ends_of g e) v (s.covers.edges e k i (l, r)).1 p
    | inr r ↦ (s.sides_meet k r.0 i (l, r.1) v).0 (record {
      inside = e;
      outside = f;
      inside_edge = m;
      outside_edge = o;
      inside_end = p;
      outside_end = q;
      inside_side = r.2;
      outside_side = false_from_ne_true (side comps k r.0 f) (λ t. n (group-once k f i h l b o (in_group-link k r.0 f (what k i) r.1 ∙ t) y));
    })
  ]

  -- an edge in the group of an item with a given end
  pub record Touched (k i v : ℕ) : Type 0 where
    pub edge : ℕ
    pub edge_in : edge < edge_count g
    pub end : is_end g v edge ≡ true
    pub in_group : has_in_group comps k edge (what k i) ≡ true

  -- each end of an item has an edge in its group
  pub end-touched : (k i v : ℕ) → i < length (items_of comps k) → is_end_of v (piece_ends (item_at comps k i)) ≡ true → Touched k i v
  end-touched k i v l h = elim (what-cases (what k i)) [
    | inl r ↦ let d = s.covers.edges r.0 k i (l, r.1) in
        record { edge = r.0; edge_in = d.0; end = same-end_back (piece_ends (item_at comps k i)) (ends_of g r.0) v d.1 h; in_group = in_group-real k r.0 (what k i) r.1 }
    | inr r ↦ let c = (s.sides_meet k r.0 i (l, r.1) v).1 h in
        record { edge = c.inside; edge_in = c.inside_edge; end = c.inside_end; in_group = in_group-link k r.0 c.inside (what k i) r.1 ∙ c.inside_side }
  ]
