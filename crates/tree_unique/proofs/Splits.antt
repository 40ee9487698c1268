-- A side of a block's edges, seen at one component: an item whose group has edges on the side and off it, and the colours of
-- items where there is none.
use Rattle.std.proofs.Common.{◌≡◌, ◌≢◌, ℕ, ◌<◌, ◌⊎◌, ◌==◌, ◌&&◌, inl, inr, Bool, true, false, not, List, length, refl, sym, ap, ap₂, ◌∙◌, arith}
use Rattle.std.proofs.lemmas.Bool.{cases_Bool, cases_eq, both_ways, and_from, and_parts, eq-eqb, ne_eqb, eqb-true, not-true, not_from_false, not_from_true}
use Rattle.permutations.specs.Count.{some}
use Rattle.permutations.proofs.Search.{some-witness, some-none}
use Rattle.multigraph.specs.Graph.{Multigraph, edge_count, is_end}
use Rattle.graph_theory.specs.Block.{IsOneBlock}
use Rattle.graph_theory.specs.Side.{IsCommon}
use Rattle.graph_theory.proofs.Crossings.{TwoCommon}
use Rattle.pair_split.specs.Split.{items_of, item_at, piece_ends, IsSplit}
use Rattle.pair_split.specs.declared.components.Comp.{Comp}
use Rattle.pair_split.proofs.GraphSides.{block-two_common}
use Rattle.graph_theory.specs.Separation.{other_side}
use Rattle.tree_unique.proofs.Items.{first-end, second-end, is_at, place, place-in, ends-differ, PlaceAt, at-edge, edges-at_place, chosen, chosen-in}
use Rattle.tree_unique.proofs.SkeletonKinds.{IsSimpleAt}

module _ (g : Multigraph) (block : IsOneBlock g) (comps : List Comp) (s : IsSplit g comps) (k : ℕ) (l : k < length comps) where
  abbrev size : ℕ
  size = length (items_of comps k)

  abbrev pl : ℕ → ℕ
  pl e = place g comps s k l e

  -- an edge of a place, off the side x, with the end c
  pub record OffAt (x : ℕ → Bool) (i c : ℕ) : Type 0 where
    pub edge : ℕ
    pub edge_in : edge < edge_count g
    pub end : is_end g c edge ≡ true
    pub place_is : pl edge ≡ i
    pub off : x edge ≡ false

  -- a vertex of an edge of a place that is on the side: it is an end of the item, or also one of an edge of the place that is
  -- off the side
  pub record HalfAt (x : ℕ → Bool) (i c : ℕ) : Type 0 where
    pub edge : ℕ
    pub edge_in : edge < edge_count g
    pub end : is_end g c edge ≡ true
    pub place_is : pl edge ≡ i
    pub on : x edge ≡ true
    pub kind : (is_at comps k i c ≡ true) ⊎ OffAt x i c

  -- two such vertices
  pub record Halves (x : ℕ → Bool) (i : ℕ) : Type 0 where
    pub first : ℕ
    pub second : ℕ
    pub differ : first ≢ second
    pub first_half : HalfAt x i first
    pub second_half : HalfAt x i second

  -- the place i has an edge on the side and one off it
  pub record IsParted (x : ℕ → Bool) (i : ℕ) : Type 0 where
    pub on : ℕ
    pub off : ℕ
    pub on_in : on < edge_count g
    pub off_in : off < edge_count g
    pub on_place : pl on ≡ i
    pub off_place : pl off ≡ i
    pub on_side : x on ≡ true
    pub off_side : x off ≡ false

  pub parted-other : (x : ℕ → Bool) (i : ℕ) → IsParted x i → IsParted (other_side x) i
  parted-other x i w = record {
    on = w.off;
    off = w.on;
    on_in = w.off_in;
    off_in = w.on_in;
    on_place = w.off_place;
    off_place = w.on_place;
    on_side = not_from_false (x w.off) w.off_side;
    off_side = not_from_true (x w.on) w.on_side;
  }

  -- since the graph is tight
  pub halves : (x : ℕ → Bool) (i : ℕ) → IsParted x i → Halves x i
  halves x i w =
      let t : TwoCommon g half = block-two_common g block half w.on w.off w.on_in w.off_in (and_from (pl w.on == i) (x w.on) (eq-eqb (pl w.on) i w.on_place) w.on_side) (rw w.off_side (grind (arith, cases_Bool (pl w.off == i)))) in
      record { first = t.first; second = t.second; differ = t.differ; first_half = at t.first t.first_common; second_half = at t.second t.second_common }
    where
      half : ℕ → Bool
      half e = (pl e == i) && x e

      at : (c : ℕ) → IsCommon g half c → HalfAt x i c
      at c m =
          let p = and_parts (pl m.inside == i) (x m.inside) m.inside_side in
          let q : pl m.inside ≡ i = eqb-true (pl m.inside) i p.0 in
          record {
            edge = m.inside;
            edge_in = m.inside_edge;
            end = m.inside_end;
            place_is = q;
            on = p.1;
            kind = elim (cases_eq (pl m.outside) i) [
              | inr n ↦ inl (edges-at_place g comps s k l i m.inside m.outside c m.inside_edge m.outside_edge q n m.inside_end m.outside_end)
              | inl e ↦ inr (record { edge = m.outside; edge_in = m.outside_edge; end = m.outside_end; place_is = e; off = off (pl m.outside == i) (x m.outside) (eq-eqb (pl m.outside) i e) m.outside_side })
            ];
          }
        where
          off : (a b : Bool) → a ≡ true → (a && b) ≡ false → b ≡ false
          off a b e h = grind (arith, e, h, cases_Bool b)

  -- the edges of a place other than this one are all on the side or all off it
  abbrev pub NoneParted : (ℕ → Bool) → ℕ → Type 0
  NoneParted x h = (e f : ℕ) → e < edge_count g → f < edge_count g → pl e ≡ pl f → pl e ≢ h → x e ≡ x f

  pub parted-none : (x : ℕ → Bool) (h : ℕ) → ((i : ℕ) → i ≢ h → IsParted x i → ⊥) → NoneParted x h
  parted-none x h none e f b c p n = elim (cases_Bool (x e)) [
    | inl y ↦ elim (cases_Bool (x f)) [
      | inl z ↦ y ∙ sym z
      | inr z ↦ absurd (none (pl e) n (record { on = e; off = f; on_in = b; off_in = c; on_place = refl; off_place = sym p; on_side = y; off_side = z }))
    ]
    | inr y ↦ elim (cases_Bool (x f)) [
      | inl z ↦ absurd (none (pl e) n (record { on = f; off = e; on_in = c; off_in = b; on_place = sym p; off_place = refl; on_side = z; off_side = y }))
      | inr z ↦ y ∙ sym z
    ]
  ]

  -- either none is, or one is found
  pub find-parted : (x : ℕ → Bool) (h : ℕ) → NoneParted x h ⊎ ((i : ℕ) × (i ≢ h) × IsParted x i)
  find-parted x h = elim (cases_Bool (some (edge_count g) (λ e. some (edge_count g) (parts e)))) [
    | inl y ↦
        let e = some-witness (edge_count g) (λ e. some (edge_count g) (parts e)) y in
        let f = some-witness (edge_count g) (parts e.0) e.2 in
        let a = and_parts ((pl e.0 == pl f.0) && not (pl e.0 == h)) (x e.0 && not (x f.0)) f.2 in
        let b = and_parts (pl e.0 == pl f.0) (not (pl e.0 == h)) a.0 in
        let c = and_parts (x e.0) (not (x f.0)) a.1 in
        inr (
          pl e.0,
          (λ q. both_ways (pl e.0 == h) (not-true (pl e.0 == h) b.1) (eq-eqb (pl e.0) h q)),
          record { on = e.0; off = f.0; on_in = e.1; off_in = f.1; on_place = refl; off_place = sym (eqb-true (pl e.0) (pl f.0) b.0); on_side = c.0; off_side = not-true (x f.0) c.1 },
        )
    | inr n ↦ inl (parted-none x h (λ i m w. both_ways (parts w.on w.off)
        (some-none (edge_count g) (parts w.on) (some-none (edge_count g) (λ e. some (edge_count g) (parts e)) n w.on w.on_in) w.off w.off_in)
        (and_from ((pl w.on == pl w.off) && not (pl w.on == h)) (x w.on && not (x w.off))
        (and_from (pl w.on == pl w.off) (not (pl w.on == h)) (eq-eqb (pl w.on) (pl w.off) (w.on_place ∙ sym w.off_place)) (not_from_false (pl w.on == h) (ne_eqb (pl w.on) h (λ q. m (sym w.on_place ∙ q)))))
        (and_from (x w.on) (not (x w.off)) w.on_side (not_from_false (x w.off) w.off_side)))))
  ]
    where
      parts : ℕ → ℕ → Bool
      parts e f = ((pl e == pl f) && not (pl e == h)) && (x e && not (x f))

  -- the colour of a place: whether its edges are on the side; that of h has none
  abbrev pub colour : (ℕ → Bool) → ℕ → ℕ → Bool
  colour x h i = not (i == h) && x (chosen g comps s k l i)

  pub colour-own : (x : ℕ → Bool) (h : ℕ) → colour x h h ≡ false
  colour-own x h = rw (eq-eqb h h refl) refl

  pub coloured : (x : ℕ → Bool) (h i : ℕ) → colour x h i ≡ true → i ≢ h
  coloured x h i c e = both_ways (colour x h i) (ap (colour x h) e ∙ colour-own x h) c

  pub colour-other : (x : ℕ → Bool) (h i : ℕ) → i ≢ h → colour x h i ≡ false → colour (other_side x) h i ≡ true
  colour-other x h i n c = flip (i == h) (x (chosen g comps s k l i)) (ne_eqb i h n) c
    where
      flip : (a b : Bool) → a ≡ false → (not a && b) ≡ false → (not a && not b) ≡ true
      flip a b e q = grind (arith, e, q, cases_Bool b)

  -- the colour is that of each edge
  pub colour-edge : (x : ℕ → Bool) (h : ℕ) → NoneParted x h → (e : ℕ) → e < edge_count g → pl e ≢ h → colour x h (pl e) ≡ x e
  colour-edge x h none e b n =
      let c = chosen-in g comps s k l (pl e) (place-in g comps s k l e b) in
      let same : x (chosen g comps s k l (pl e)) ≡ x e = none (chosen g comps s k l (pl e)) e c.0 b c.1 (λ q. n (sym c.1 ∙ q)) in
      ap₂ (λ (u v : Bool). not u && v) (ne_eqb (pl e) h n) same

  -- at each end of an item there is an edge of its colour
  pub record ColouredAt (x : ℕ → Bool) (h i v : ℕ) : Type 0 where
    pub edge : ℕ
    pub edge_in : edge < edge_count g
    pub end : is_end g v edge ≡ true
    pub place_is : pl edge ≡ i
    pub place_not : pl edge ≢ h
    pub side : x edge ≡ colour x h i

  pub coloured-at : (x : ℕ → Bool) (h : ℕ) → NoneParted x h → (i v : ℕ) → i < size → i ≢ h → is_at comps k i v ≡ true → ColouredAt x h i v
  coloured-at x h none i v b n a =
      let w : PlaceAt g comps s k l i v = at-edge g comps s k l i v b a in
      let not_h : pl w.edge ≢ h = λ q. n (sym w.place_is ∙ q) in
      record { edge = w.edge; edge_in = w.edge_in; end = w.end; place_is = w.place_is; place_not = not_h; side = sym (colour-edge x h none w.edge w.edge_in not_h) ∙ ap (colour x h) w.place_is }

  -- where no two items have the same ends, an item has an end that another does not have
  pub end-off : IsSimpleAt comps k → (i h : ℕ) → i < size → h < size → i ≢ h → (u : ℕ) × (is_at comps k i u ≡ true) × (is_at comps k h u ≡ false)
  end-off simple i h li lh n = elim (cases_Bool (is_at comps k h a)) [
    | inr f ↦ (a, first-end (piece_ends (item_at comps k i)), f)
    | inl t ↦ elim (cases_Bool (is_at comps k h b)) [
      | inr f ↦ (b, second-end (piece_ends (item_at comps k i)), f)
      | inl u ↦ absurd (n (simple i h a b li lh (ends-differ g comps s k l i li) (first-end (piece_ends (item_at comps k i))) (second-end (piece_ends (item_at comps k i))) t u))
    ]
  ]
    where
      a : ℕ
      a = (piece_ends (item_at comps k i)).0

      b : ℕ
      b = (piece_ends (item_at comps k i)).1
