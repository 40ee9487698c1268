-- A component with a link has at least three items; each side of a link has at least two edges, and the side of a component
-- touches all its vertices.
use Rattle.std.proofs.Common.{◌≡◌, ◌≢◌, ℕ, suc, ◌<◌, ◌≤◌, ◌⊎◌, ◌==◌, ◌||◌, inl, inr, Bool, true, false, not, List, [], ◌∷◌, length, map, slice_index_or, refl, sym, ap, ◌∙◌, subst, arith, All}
use Rattle.std.proofs.lemmas.Bool.{cases_eq, both_ways, not-true, not_from_false, true≢false, or_cases, or_left, eq-eqb, eqb-true, ne_eqb, false_from_ne_true}
use Rattle.std.proofs.lemmas.List.{length-map}
use Rattle.std.proofs.lemmas.List.Elements.{All-contains}
use Rattle.permutations.specs.Members.{is_distinct}
use Rattle.permutations.proofs.Members.{distinct-head, distinct-tail, no_member-head, no_member-tail}
use Rattle.multigraph.specs.Graph.{Multigraph, edge_count, is_end}
use Rattle.graph_theory.proofs.Counting.{Two, two-others}
use Rattle.pair_split.specs.Family.{Entry, has_end, is_common, IsTight, IsFamily}
use Rattle.pair_split.specs.Edges.{graph_family, family_skeleton}
use Rattle.pair_split.specs.Skeleton.{is_end_of, is_vertex, HasVertices, IsOfKind}
use Rattle.pair_split.specs.Split.{component_at, items_of, item_at, piece_ends, skeleton, StandsFor, side, LinksTo, IsSplit}
use Rattle.pair_split.specs.Tutte.{has_in_group}
use Rattle.pair_split.specs.declared.components.Kind.{Kind}
use Rattle.pair_split.specs.declared.components.Kind.TheVariants.{S, P, R, B}
use Rattle.pair_split.specs.declared.components.What.TheVariants.{Link}
use Rattle.pair_split.specs.declared.components.Piece.{Piece}
use Rattle.pair_split.specs.declared.components.Comp.{Comp}
use Rattle.pair_split.proofs.Elements.{contains-here, contains-later, contains-cases, contains-none}
use Rattle.pair_split.proofs.Sides.{one-from_entry, common-inside, common-outside}
use Rattle.pair_split.proofs.Replaced.{end-cases}
use Rattle.pair_split.proofs.Links.{no_piece}
use Rattle.pair_split.proofs.TreeSides.{link-from, link-back, link-differs}
use Rattle.pair_split.proofs.Subtrees.{link-in}
use Rattle.pair_split.proofs.Groups.{side-other, in_group-link, group-once, Touched, end-touched}
use Rattle.pair_split.proofs.SkeletonFamily.{skeleton_family, numbered-skeleton, numbered-length, skeleton-is_family, skeleton-tight}

-- three different vertices
pub record ThreeVertices (skel : List (ℕ × ℕ)) : Type 0 where
  pub a : ℕ
  pub b : ℕ
  pub c : ℕ
  pub ab : a ≢ b
  pub bc : b ≢ c
  pub ca : c ≢ a
  pub a_vertex : is_vertex skel a ≡ true
  pub b_vertex : is_vertex skel b ≡ true
  pub c_vertex : is_vertex skel c ≡ true

-- a skeleton with at least three vertices has three
pub three-vertices : (n : ℕ) (skel : List (ℕ × ℕ)) → 3 ≤ n → HasVertices n skel → ThreeVertices skel
three-vertices n skel m h = pick h.vertices (omega (arith, m, h.enough)) h.distinct h.are_vertices
  where
    pick : (vs : List ℕ) → 3 ≤ length vs → is_distinct vs ≡ true → All (λ v. is_vertex skel v ≡ true) vs → ThreeVertices skel
    pick [] l d all = absurd (omega (arith, l))
    pick (a ∷ []) l d all = absurd (omega (arith, l))
    pick (a ∷ b ∷ []) l d all = absurd (omega (arith, l))
    pick (a ∷ b ∷ c ∷ vs) l d all =
        let da = distinct-head a (b ∷ c ∷ vs) d in
        let db = distinct-head b (c ∷ vs) (distinct-tail a (b ∷ c ∷ vs) d) in
        record {
          a = a;
          b = b;
          c = c;
          ab = λ e. no_member-head a b (c ∷ vs) da (sym e);
          bc = λ e. no_member-head b c vs db (sym e);
          ca = no_member-head a c vs (no_member-tail a b (c ∷ vs) da);
          a_vertex = All-contains (λ v. is_vertex skel v ≡ true) (a ∷ b ∷ c ∷ vs) a all (contains-here a (b ∷ c ∷ vs));
          b_vertex = All-contains (λ v. is_vertex skel v ≡ true) (a ∷ b ∷ c ∷ vs) b all (contains-later b a (b ∷ c ∷ vs) (contains-here b (c ∷ vs)));
          c_vertex = All-contains (λ v. is_vertex skel v ≡ true) (a ∷ b ∷ c ∷ vs) c all (contains-later c a (b ∷ c ∷ vs) (contains-later c b (c ∷ vs) (contains-here c vs)));
        }

-- of three different numbers one is neither of two
third : (a b c p q : ℕ) → a ≢ b → b ≢ c → c ≢ a → (a ≡ p) ⊎ (a ≡ q) → (b ≡ p) ⊎ (b ≡ q) → (c ≡ p) ⊎ (c ≡ q) → ⊥
third a b c p q ab bc ca x y z = grind (arith, ab, bc, ca, x, y, z)

-- the ends of an entry of which two are known
two-ends : (x : Entry) (p q v : ℕ) → p ≢ q → has_end p x ≡ true → has_end q x ≡ true → has_end v x ≡ true → (v ≡ p) ⊎ (v ≡ q)
two-ends x p q v n i j k = pick (end-cases p x i) (end-cases q x j) (end-cases v x k)
  where
    pick : (p ≡ x.first) ⊎ (p ≡ x.second) → (q ≡ x.first) ⊎ (q ≡ x.second) → (v ≡ x.first) ⊎ (v ≡ x.second) → (v ≡ p) ⊎ (v ≡ q)
    pick a b c = grind (arith, n, a, b, c)

-- two entries that are a tight family have the same two ends
two-entries : (x y : Entry) → y.name ≢ x.name → IsTight (x ∷ y ∷ []) → (p q : ℕ) × (p ≢ q) × (has_end p x ≡ true) × (has_end p y ≡ true) × (has_end q x ≡ true) × (has_end q y ≡ true)
two-entries x y n t =
    let w = t s (one-from_entry entries s (record { entry = x; within = contains-here x (y ∷ []); side = eq-eqb x.name x.name refl }))
    (one-from_entry entries (λ k. not (s k)) (record { entry = y; within = contains-later y x (y ∷ []) (contains-here y []); side = not_from_false (s y.name) (ne_eqb y.name x.name n) })) in
    (w.0, w.1, w.2, inside w.0 w.3, outside w.0 w.3, inside w.1 w.4, outside w.1 w.4)
  where
    entries : List Entry
    entries = x ∷ y ∷ []

    s : ℕ → Bool
    s k = k == x.name

    inside : (v : ℕ) → is_common entries s v ≡ true → has_end v x ≡ true
    inside v c =
        let w = common-inside entries s v c in
        elim (contains-cases w.entry x (y ∷ []) w.within) [
          | inl e ↦ subst (λ (z : Entry). has_end v z ≡ true) (sym e) w.end
          | inr r ↦ elim (contains-cases w.entry y [] r) [
            | inl e ↦ absurd (n (ap (λ (z : Entry). z.name) e ∙ eqb-true w.entry.name x.name w.side))
            | inr c ↦ absurd (contains-none w.entry c)
          ]
        ]

    outside : (v : ℕ) → is_common entries s v ≡ true → has_end v y ≡ true
    outside v c =
        let w = common-outside entries s v c in
        elim (contains-cases w.entry x (y ∷ []) w.within) [
          | inl e ↦ absurd (both_ways (s w.entry.name) (not-true (s w.entry.name) w.side) (eq-eqb w.entry.name x.name (sym (ap (λ (z : Entry). z.name) e))))
          | inr r ↦ elim (contains-cases w.entry y [] r) [
            | inl e ↦ subst (λ (z : Entry). has_end v z ≡ true) (sym e) w.end
            | inr c ↦ absurd (contains-none w.entry c)
          ]
        ]

-- a tight family with three vertices has at least three entries
pub three-entries : (entries : List Entry) → IsFamily entries → IsTight entries → ThreeVertices (family_skeleton entries) → 3 ≤ length entries
three-entries [] f t h = absurd (true≢false (sym h.a_vertex))
three-entries (x ∷ []) f t h = absurd (third h.a h.b h.c x.first x.second h.ab h.bc h.ca (at h.a h.a_vertex) (at h.b h.b_vertex) (at h.c h.c_vertex))
  where
    at : (v : ℕ) → is_vertex (family_skeleton (x ∷ [])) v ≡ true → (v ≡ x.first) ⊎ (v ≡ x.second)
    at v i = elim (or_cases (has_end v x) false i) [ inl a ↦ end-cases v x a | inr a ↦ absurd (true≢false (sym a)) ]
three-entries (x ∷ y ∷ []) f t h = absurd (third h.a h.b h.c w.0 w.1 h.ab h.bc h.ca (at h.a h.a_vertex) (at h.b h.b_vertex) (at h.c h.c_vertex))
  where
    w : (p q : ℕ) × (p ≢ q) × (has_end p x ≡ true) × (has_end p y ≡ true) × (has_end q x ≡ true) × (has_end q y ≡ true)
    w = two-entries x y (no_member-head x.name y.name [] (distinct-head x.name (y.name ∷ []) f.names_once)) t

    at : (v : ℕ) → is_vertex (family_skeleton (x ∷ y ∷ [])) v ≡ true → (v ≡ w.0) ⊎ (v ≡ w.1)
    at v i = elim (or_cases (has_end v x) (has_end v y || false) i) [
      | inl a ↦ two-ends x w.0 w.1 v w.2 w.3 w.5 a
      | inr b ↦ elim (or_cases (has_end v y) false b) [ inl a ↦ two-ends y w.0 w.1 v w.2 w.4 w.6 a | inr a ↦ absurd (true≢false (sym a)) ]
    ]
three-entries (x ∷ y ∷ z ∷ entries) f t h = omega arith

-- what is of a kind other than the small one has three edges or three vertices
large-kind : (kind : Kind) (skel : List (ℕ × ℕ)) → kind ≢ B → IsOfKind kind skel → (3 ≤ length skel) ⊎ ThreeVertices skel
large-kind S skel n h = inr (three-vertices 3 skel (omega arith) h.three)
large-kind P skel n h = inl h.three
large-kind R skel n h = inr (three-vertices 4 skel (omega arith) h.four)
large-kind B skel n h = absurd (n refl)

-- a vertex of pieces is an end of one of them
pub vertex-item : (pieces : List Piece) (v : ℕ) → is_vertex (map piece_ends pieces) v ≡ true → (i : ℕ) × (i < length pieces) × (is_end_of v (piece_ends (slice_index_or pieces i no_piece)) ≡ true)
vertex-item [] v h = absurd (true≢false (sym h))
vertex-item (piece ∷ pieces) v h = elim (or_cases (is_end_of v (piece_ends piece)) (is_vertex (map piece_ends pieces) v) h) [
  | inl a ↦ (0, omega arith, a)
  | inr a ↦ let w = vertex-item pieces v a in (suc w.0, omega (arith, w.1), w.2)
]

module _ (g : Multigraph) (comps : List Comp) (s : IsSplit g comps) (tight : IsTight (graph_family g)) where
  -- a component with a link has at least three items
  pub three-items : (k j : ℕ) → LinksTo comps k j → 3 ≤ length (items_of comps k)
  three-items k j l = elim (large-kind (component_at comps k).kind (skeleton comps k) not-small (s.of_kind.kinds k k-in).of_kind) [
    | inl b ↦ omega (arith, b, length-map (items_of comps k) piece_ends)
    | inr t ↦ omega (
      arith,
      numbered-length 0 (items_of comps k),
      three-entries (skeleton_family comps k) (skeleton-is_family g comps s k k-in) (skeleton-tight g comps s k k-in tight) (subst ThreeVertices (sym (numbered-skeleton 0 (items_of comps k))) t),
    )
  ]
    where
      k-in : k < length comps
      k-in = link-from comps s.linked k j l

      not-small : (component_at comps k).kind ≢ B
      not-small e = link-differs comps s.linked k j l (omega (arith, s.of_kind.small_alone k k-in e, k-in, link-in comps s.linked k j l))

  -- an item other than the link of k to j has in its group an edge that is not beyond the link
  item-near : (k j h i v : ℕ) → StandsFor comps k h (Link j) → i < length (items_of comps k) → i ≢ h → is_end_of v (piece_ends (item_at comps k i)) ≡ true
      → (e : ℕ) × (e < edge_count g) × (is_end g v e ≡ true) × (has_in_group comps k e (item_at comps k i).what ≡ true) × (side comps k j e ≡ false)
  item-near k j h i v l b n x =
      let t : Touched g comps s k i v = end-touched g comps s k i v b x in (
        t.edge,
        t.edge_in,
        t.end,
        t.in_group,
        false_from_ne_true (side comps k j t.edge) (λ y.
            n (group-once g comps s k t.edge i h b l.0 t.edge_in t.in_group (in_group-link g comps s k j t.edge (item_at comps k h).what l.1 ∙ y))),
      )

  -- each side of a link has at least two edges
  pub side-two : (k j : ℕ) → LinksTo comps k j → Two (edge_count g) (side comps k j)
  side-two k j l =
      let b : LinksTo comps j k = link-back comps s.linked k j l in
      let w = two-others (length (items_of comps j)) b.0 (three-items j k b) in
      let e = item-near j k b.0 w.0 (item_at comps j w.0).a b.1 w.2 w.5 (or_left ((item_at comps j w.0).a == (item_at comps j w.0).a) ((item_at comps j w.0).b == (item_at comps j w.0).a) (eq-eqb (item_at comps j w.0).a (item_at comps j w.0).a refl)) in
      let f = item-near j k b.0 w.1 (item_at comps j w.1).a b.1 w.3 w.6 (or_left ((item_at comps j w.1).a == (item_at comps j w.1).a) ((item_at comps j w.1).b == (item_at comps j w.1).a) (eq-eqb (item_at comps j w.1).a (item_at comps j w.1).a refl)) in
      record {
        first = e.0;
        second = f.0;
        differ = λ q. w.4 (group-once g comps s j e.0 w.0 w.1 w.2 w.3 e.1 e.3 (ap (λ z. has_in_group comps j z (item_at comps j w.1).what) q ∙ f.3));
        first_in = e.1;
        second_in = f.1;
        first_on = side-other g comps s k j e.0 l e.1 ∙ not_from_false (side comps j k e.0) e.4;
        second_on = side-other g comps s k j f.0 l f.1 ∙ not_from_false (side comps j k f.0) f.4;
      }

  -- each vertex of a component is an end of an edge that is not beyond its link
  pub node-touch : (k j v : ℕ) → LinksTo comps k j → is_vertex (skeleton comps k) v ≡ true → (e : ℕ) × (e < edge_count g) × (is_end g v e ≡ true) × (side comps k j e ≡ false)
  node-touch k j v l h =
      let i = vertex-item (items_of comps k) v h in
      elim (cases_eq i.0 l.0) [
        | inl q ↦ let c = (s.sides_meet k j l.0 l.1 v).1 (subst (λ z. is_end_of v (piece_ends (item_at comps k z)) ≡ true) q i.2) in (c.outside, c.outside_edge, c.outside_end, c.outside_side)
        | inr n ↦ let e = item-near k j l.0 i.0 v l.1 i.1 n i.2 in (e.0, e.1, e.2, e.4)
      ]
