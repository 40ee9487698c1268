-- The list of a bond, from the cyclic order of its items at the lesser pole.
use Rattle.std.proofs.Common.{◌≡◌, ◌≢◌, ℕ, ◌+◌, ◌*◌, ◌<◌, ◌≤◌, Bool, true, false, ◌==◌, if◌then◌else◌, inl, inr, List, [], ◌∷◌, ◌++◌, length, reverse, take, drop, slice_index_or, slice_set, refl, sym, ap, ◌∙◌, subst, arith, eq-eqb, eqb-true}
use Rattle.std.proofs.lemmas.Bool.{cases_Bool, cases_eq, or_cases, or_left, both_ways}
use Rattle.std.proofs.lemmas.List.{length-set, get_or-set_same, get_or-set_other, take-append-drop, take_all, take_more, drop_more}
use Rattle.permutations.specs.Cyclic.{first_or, successor, predecessor, from_least}
use Rattle.permutations.specs.Members.{is_member, is_distinct, place_of}
use Rattle.permutations.proofs.Arrangements.{member-at, contains-from_member, length-from_members, permutation-member}
use Rattle.permutations.proofs.Chains.{successor-next, successor-last}
use Rattle.permutations.proofs.Filter.{filter-all}
use Rattle.permutations.proofs.NormalForm.{mirror-successor}
use Rattle.permutations.proofs.Places.{place-of, place-at}
use Rattle.permutations.proofs.Successor.{successor-member, predecessor-member, successor-injective, successor-predecessor}
use Rattle.multigraph.specs.Graph.{Multigraph, edge_count, ends_of, is_end, numbers_below, incident_edges}
use Rattle.multigraph.proofs.Below.{length-numbers_below}
use Rattle.rotations.specs.Rotation.{order_at, IsRotationSystem}
use Rattle.rotations.proofs.Membership.{incident-distinct}
use Rattle.faces.proofs.DartLemmas.{order-member, order-distinct}
use Rattle.pair_split.specs.Skeleton.{HasPoles}
use Rattle.pair_split.specs.Split.{skeleton}
use Rattle.pair_split.specs.Tutte.{Node, components, node_at, node_item}
use Rattle.pair_split.proofs.GraphFamily.{contains-below}
use Rattle.skeletons.specs.Items.{IsBlockTree}
use Rattle.skeletons.specs.Families.{skeleton_graph}
use Rattle.skeleton_runs.proofs.SkeletonGraph.{graph-edges, graph-ends, item-edge}
use Rattle.skeleton_planes.proofs.BondSkeleton.{lesser-in, greater-in, item-ends}
use Rattle.skeleton_planes.proofs.OneSystem.{lesser-place, greater-place}
use Rattle.skel_compose.specs.Followers.{item_place, IsRow, HasTurns}

-- the next member of a list follows in the cyclic order
pub next-inside : (l : List ℕ) (i : ℕ) → is_distinct l ≡ true → i + 1 < length l → slice_index_or l (i + 1) 0 ≡ successor l (slice_index_or l i 0)
next-inside l i d h = sym (ap (λ (z : List ℕ). successor z x) cut ∙ successor-next (take i l) x y (drop (i + 1 + 1) l) (subst (λ (z : List ℕ). is_distinct z ≡ true) cut d))
  where
    x : ℕ
    x = slice_index_or l i 0

    y : ℕ
    y = slice_index_or l (i + 1) 0

    cut : l ≡ take i l ++ slice_index_or l i 0 ∷ slice_index_or l (i + 1) 0 ∷ drop (i + 1 + 1) l
    cut = sym (take-append-drop i l) ∙ ap (λ (z : List ℕ). take i l ++ z) (drop_more l i 0 (omega (arith, h)) ∙ ap (λ (z : List ℕ). slice_index_or l i 0 ∷ z) (drop_more l (i + 1) 0 h))

-- and the first follows the last
pub next-round : (l : List ℕ) (i : ℕ) → is_distinct l ≡ true → i + 1 ≡ length l → slice_index_or l 0 0 ≡ successor l (slice_index_or l i 0)
next-round l i d h = ap (λ (z : List ℕ). slice_index_or z 0 0) cut ∙ first (take i l) ∙ sym (ap (λ (z : List ℕ). successor z (slice_index_or l i 0)) cut ∙ successor-last (take i l) (slice_index_or l i 0) (subst (λ (z : List ℕ). is_distinct z ≡ true) cut d))
  where
    cut : l ≡ take i l ++ slice_index_or l i 0 ∷ []
    cut = sym (take_all (i + 1) l (omega (arith, h))) ∙ take_more l i 0 (omega (arith, h))

    first : (u : List ℕ) → slice_index_or (u ++ slice_index_or l i 0 ∷ []) 0 0 ≡ first_or (slice_index_or l i 0) u
    first [] = refl
    first (z ∷ u) = refl

-- the list of a bond, so far as the first n items of the order are written
pub record AreTurns (items : List ℕ) (n : ℕ) (row : List ℕ) : Type 0 where
  pub places : length row ≡ 2 * length items
  pub next : (j : ℕ) → j < n → slice_index_or row (2 * slice_index_or items j 0) 0 ≡ successor items (slice_index_or items j 0)
  pub previous : (j : ℕ) → j < n → slice_index_or row (2 * successor items (slice_index_or items j 0) + 1) 0 ≡ slice_index_or items j 0

-- items without repetition, and numbered
module _ (items : List ℕ) (once : is_distinct items ≡ true) (below : (x : ℕ) → is_member x items ≡ true → x < length items) where
  -- one item more
  module _ (n x y : ℕ) (row : List ℕ) (l : n < length items) (ex : x ≡ slice_index_or items n 0) (ey : y ≡ successor items x) (h : AreTurns items n row) where
    x-in : is_member x items ≡ true
    x-in = subst (λ z. is_member z items ≡ true) (sym ex) (member-at items n 0 l)

    y-in : is_member y items ≡ true
    y-in = subst (λ z. is_member z items ≡ true) (sym ey) (successor-member items x x-in)

    pub first-within : 2 * x < length row
    first-within = omega (arith, below x x-in, h.places)

    pub second-within : 2 * y + 1 < length (slice_set row (2 * x) y)
    second-within = omega (arith, below y y-in, h.places, length-set row (2 * x) y)

    abbrev written : List ℕ
    written = slice_set (slice_set row (2 * x) y) (2 * y + 1) x

    -- at even places
    even : (a : ℕ) → slice_index_or (slice_set (slice_set row (2 * x) y) (2 * y + 1) x) (2 * a) 0 ≡ slice_index_or (slice_set row (2 * x) y) (2 * a) 0
    even a = get_or-set_other (slice_set row (2 * x) y) (2 * y + 1) (2 * a) x 0 (λ q. omega (arith, q))

    -- an item before has another place
    other : (j : ℕ) → j < n → slice_index_or items j 0 ≢ x
    other j m q = let e : j ≡ n = sym (place-at items j once (omega (arith, m, l))) ∙ ap (place_of items) (q ∙ ex) ∙ place-at items n once l in omega (arith, m, e)

    pub turns-more : (new : List ℕ) → new ≡ slice_set (slice_set row (2 * x) y) (2 * y + 1) x → AreTurns items (n + 1) new
    turns-more new e = subst (AreTurns items (n + 1)) (sym e) (record {
      places = length-set (slice_set row (2 * x) y) (2 * y + 1) x ∙ length-set row (2 * x) y ∙ h.places;
      next = λ j m. elim (cases_eq j n) [
        | inl q ↦ let i : slice_index_or items j 0 ≡ x = ap (λ z. slice_index_or items z 0) q ∙ sym ex in
            ap (λ z. slice_index_or written (2 * z) 0) i ∙ even x ∙ get_or-set_same row (2 * x) y 0 first-within ∙ ey ∙ ap (successor items) (sym i)
        | inr d ↦ let m' : j < n = omega (arith, m, d) in
            even (slice_index_or items j 0) ∙ get_or-set_other row (2 * x) (2 * slice_index_or items j 0) y 0 (λ q. other j m' (omega (arith, q))) ∙ h.next j m'
      ];
      previous = λ j m. elim (cases_eq j n) [
        | inl q ↦ let i : slice_index_or items j 0 ≡ x = ap (λ z. slice_index_or items z 0) q ∙ sym ex in
            ap (λ z. slice_index_or written (2 * z + 1) 0) (ap (successor items) i ∙ sym ey) ∙ get_or-set_same (slice_set row (2 * x) y) (2 * y + 1) x 0 second-within ∙ sym i
        | inr d ↦
            let m' : j < n = omega (arith, m, d) in
            let a : ℕ = successor items (slice_index_or items j 0) in
            get_or-set_other (slice_set row (2 * x) y) (2 * y + 1) (2 * a + 1) x 0 (λ q. other j m' (successor-injective items (slice_index_or items j 0) x once (half a y q ∙ ey)))
            ∙ get_or-set_other row (2 * x) (2 * a + 1) y 0 (λ q. omega (arith, q)) ∙ h.previous j m'
      ];
    })
      where
        half : (a b : ℕ) → 2 * a + 1 ≡ 2 * b + 1 → a ≡ b
        half a b q = omega (arith, q)

  -- nothing is written at first
  pub turns-start : (row : List ℕ) → length row ≡ 2 * length items → AreTurns items 0 row
  turns-start row e = record { places = e; next = λ j l. absurd (omega (arith, l)); previous = λ j l. absurd (omega (arith, l)) }

  -- and in the end all
  pub turns-done : (n : ℕ) (row : List ℕ) → length items ≤ n → AreTurns items n row → HasTurns items row
  turns-done n row l h = record {
    places = h.places;
    next = λ x m. let w = place-of items x m in subst (λ z. slice_index_or row (2 * z) 0 ≡ successor items z) w.2 (h.next w.0 (omega (arith, w.1, l)));
    previous = λ x m.
        let p : ℕ = predecessor items x in
        let w = place-of items p (predecessor-member items x m) in
        ap (λ z. slice_index_or row (2 * z + 1) 0) (sym (successor-predecessor items x once)) ∙ subst (λ z. slice_index_or row (2 * successor items z + 1) 0 ≡ z) w.2 (h.previous w.0 (omega (arith, w.1, l)));
  }

-- a node whose items all join two vertices, with a rotation system in which the orders at these are the reverse of each other
module _ (g : Multigraph) (nodes : List Node) (b : IsBlockTree g nodes) (k : ℕ) (d : k < length nodes) (poles : HasPoles (skeleton (components nodes) k)) where
  abbrev graph : Multigraph
  graph = skeleton_graph nodes k

  pub zero-in : 0 < (skeleton_graph nodes k).vertex_count
  zero-in = subst (λ p. p < graph.vertex_count) (lesser-place g nodes b k d poles) (lesser-in g nodes b k d poles)

  pub one-in : 1 < (skeleton_graph nodes k).vertex_count
  one-in = subst (λ p. p < graph.vertex_count) (greater-place g nodes b k d poles) (greater-in g nodes b k d poles)

  -- the places of the ends of an item
  first-place : (i : ℕ) → i < length (node_at nodes k).items → place_of (node_at nodes k).vertices (node_item nodes k i).a ≡ 0
  first-place i l = ap (place_of (node_at nodes k).vertices) (item-ends g nodes b k d poles i l).0 ∙ lesser-place g nodes b k d poles

  second-place : (i : ℕ) → i < length (node_at nodes k).items → place_of (node_at nodes k).vertices (node_item nodes k i).b ≡ 1
  second-place i l = ap (place_of (node_at nodes k).vertices) (item-ends g nodes b k d poles i l).1 ∙ greater-place g nodes b k d poles

  -- all items are at vertex 0
  at-zero : (i : ℕ) → i < length (node_at nodes k).items → is_end graph 0 i ≡ true
  at-zero i l = or_left ((ends_of graph i).0 == 0) ((ends_of graph i).1 == 0) (eq-eqb (ends_of graph i).0 0 (ap (λ (z : ℕ × ℕ). z.0) (graph-ends g nodes b k d i l) ∙ first-place i l))

  pub all-items : incident_edges (skeleton_graph nodes k) 0 ≡ numbers_below (length (node_at nodes k).items)
  all-items = filter-all (is_end graph 0) (numbers_below (edge_count graph)) (λ i m. at-zero i (subst (λ n. i < n) (graph-edges g nodes b k d) (contains-below (edge_count graph) i (contains-from_member (numbers_below (edge_count graph)) i m)))) ∙ ap numbers_below (graph-edges g nodes b k d)

  module _ (s : List (List ℕ)) (system : IsRotationSystem (skeleton_graph nodes k) s) where
    pub order-length : length (order_at s 0) ≡ length (node_at nodes k).items
    order-length = sym (length-from_members (incident_edges graph 0) (order_at s 0) (incident-distinct graph 0) (order-distinct graph s 0 system zero-in) (λ z. sym (permutation-member (incident_edges graph 0) (order_at s 0) z (system.orders 0 zero-in).arranged)))
        ∙ ap length all-items ∙ length-numbers_below (length (node_at nodes k).items)

    here : (i : ℕ) → i < length (node_at nodes k).items → is_member i (order_at s 0) ≡ true
    here i l = order-member graph s 0 i system zero-in (item-edge g nodes b k d i l) (at-zero i l)

    module _ (reversed : order_at s 1 ≡ from_least (reverse (order_at s 0))) (row : List ℕ) (h : HasTurns (order_at s 0) row) where
      at-first : (i v : ℕ) → i < length (node_at nodes k).items → ((node_item nodes k i).a == v) ≡ true → slice_index_or row (item_place nodes k i v) 0 ≡ successor (order_at s (place_of (node_at nodes k).vertices v)) i
      at-first i v l t = ap (λ (z : Bool). slice_index_or row (if z then 2 * i else 2 * i + 1) 0) t ∙ h.next i (here i l)
          ∙ sym (ap (λ z. successor (order_at s z) i) (ap (place_of (node_at nodes k).vertices) (sym (eqb-true (node_item nodes k i).a v t)) ∙ first-place i l))

      at-second : (i v : ℕ) → i < length (node_at nodes k).items → ((node_item nodes k i).a == v) ≡ false → ((node_item nodes k i).b == v) ≡ true → slice_index_or row (item_place nodes k i v) 0 ≡ successor (order_at s (place_of (node_at nodes k).vertices v)) i
      at-second i v l f t = ap (λ (z : Bool). slice_index_or row (if z then 2 * i else 2 * i + 1) 0) f ∙ h.previous i (here i l)
          ∙ sym (mirror-successor (order_at s 0) i (order-distinct graph s 0 system zero-in)) ∙ ap (λ (z : List ℕ). successor z i) (sym reversed)
          ∙ sym (ap (λ z. successor (order_at s z) i) (ap (place_of (node_at nodes k).vertices) (sym (eqb-true (node_item nodes k i).b v t)) ∙ second-place i l))

      -- it is the list of the node
      pub bond-made : IsRow nodes k s row
      bond-made = record {
        places = h.places ∙ ap (λ n. 2 * n) order-length;
        follows = λ i v l end. elim (cases_Bool ((node_item nodes k i).a == v)) [
          | inl t ↦ at-first i v l t
          | inr f ↦ at-second i v l f (elim (or_cases ((node_item nodes k i).a == v) ((node_item nodes k i).b == v) end) [ inl t ↦ absurd (both_ways ((node_item nodes k i).a == v) f t) | inr t ↦ t ])
        ];
      }
