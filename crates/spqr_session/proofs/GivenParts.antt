-- Lists that are given for the vertices of a part, in the numbers of the whole graph: they are a rotation system of the part, one
-- and no other, or have a least bad number.
use Rattle.std.proofs.Common.{◌≡◌, ℕ, zero, suc, ◌+◌, ◌<◌, ◌⊎◌, ◌==◌, ◌&&◌, ◌||◌, Bool, true, not, List, [], ◌∷◌, length, map, slice_index, IsPermutation, All, Contains, inl, inr, refl, sym, ap, ◌∙◌, subst, arith}
use Rattle.std.proofs.lemmas.Bool.{cases_Bool, cases_order, both_ways, and_parts, and_from, or_cases, or_left, or_right, eq-eqb, eqb-true, not_from_false, not_from_true, false_from_ne_true}
use Rattle.std.proofs.lemmas.List.{get_or_default, get_or-map, ext_get_or, length-map, nil_from_length}
use Rattle.std.proofs.lemmas.List.Elements.{All-nil, All-cons, All-head, All-tail, All-from_get_or}
use Rattle.std.proofs.lemmas.List.Sorted.{All-permutation, IsPermutation-map, IsPermutation-trans, length_permutation}
use Rattle.permutations.specs.Count.{some, least}
use Rattle.permutations.specs.Members.{is_member, is_distinct}
use Rattle.permutations.specs.Cyclic.{first_or, turned}
use Rattle.permutations.proofs.Search.{some-from, some-witness, some-none, least-passes, least-before}
use Rattle.permutations.proofs.Members.{member-head}
use Rattle.permutations.proofs.Turned.{turned-head, turned-permutation}
use Rattle.permutations.proofs.Mapped.{distinct-map}
use Rattle.multigraph.specs.Graph.{incident_edges, numbers_below}
use Rattle.multigraph.specs.Part.{GraphPart, IsNumbered}
use Rattle.multigraph.proofs.Below.{length-numbers_below, get_or-numbers_below}
use Rattle.multigraph.proofs.Incident.{incident_at-edge}
use Rattle.multigraph.proofs.Places.{rises-once}
use Rattle.rotations.specs.Entries.{entry, IsNamed}
use Rattle.rotations.specs.Rotation.{order_at, IsCyclicOrder}
use Rattle.rotations.specs.PartLists.{outer_edges, outer_list, outer_order, ArrangePart, IsBadInPart, IsFirstBadInPart}
use Rattle.rotations.proofs.Membership.{incident-distinct, member-edge}
use Rattle.rotations.proofs.Arrangements.{permutation-member}
use Rattle.skel_embed.specs.Taken.{IsGiven}
use Rattle.gml_graph.specs.Arranged.{is_arrangement}
use Rattle.spqr_session.specs.Commands.Permute.{inner_edges}
use Rattle.gml_graph.proofs.Arranged.{arranged-passes, passes-arranged}
use Rattle.spqr_session.proofs.MovesCarried.{inner-of_outer}

-- ---- bounds

-- a number above all of a list, and one above all that are named
abbrev above_all : List ℕ → ℕ
above_all [] = 0
above_all (x ∷ xs) = x + above_all xs + 1

above-each : (xs : List ℕ) (i : ℕ) → i < length xs → slice_index xs i < above_all xs
above-each [] i l = absurd (omega (arith, l))
above-each (x ∷ xs) zero l = omega arith
above-each (x ∷ xs) (suc i) l = omega (arith, above-each xs i (omega (arith, l)))

abbrev above_named : List (ℕ × List ℕ) → ℕ
above_named [] = 0
above_named (given ∷ others) = given.0 + above_named others + 1

above-entry : (entries : List (ℕ × List ℕ)) (k : ℕ) → k < length entries → (entry entries k).0 < above_named entries
above-entry [] k l = absurd (omega (arith, l))
above-entry (given ∷ others) zero l = omega arith
above-entry (given ∷ others) (suc k) l = omega (arith, above-entry others k (omega (arith, l)))

module _ (part : GraphPart) (entries : List (ℕ × List ℕ)) where
  -- ---- the least bad number

  -- whether the list of vertex i of the part is an arrangement
  abbrev arranged_at : ℕ → Bool
  arranged_at i = is_arrangement (outer_edges part i) (outer_list part entries i)

  -- whether vertex i of the part is v, and its list is none
  abbrev is_unarranged : ℕ → ℕ → Bool
  is_unarranged v i = (slice_index part.vertices i == v) && not (arranged_at i)

  abbrev is_vertex : ℕ → Bool
  is_vertex v = some (length part.vertices) (λ i. slice_index part.vertices i == v)

  abbrev is_named : ℕ → Bool
  is_named v = some (length entries) (λ k. (entry entries k).0 == v)

  -- whether v is bad
  abbrev is_bad : ℕ → Bool
  is_bad v = some part.graph.vertex_count (is_unarranged v) || (not (is_vertex v) && is_named v)

  vertex-from : (v : ℕ) → is_vertex v ≡ true → Contains part.vertices v
  vertex-from v h =
      let w = some-witness (length part.vertices) (λ i. slice_index part.vertices i == v) h in
      (w.0, w.1, get_or_default part.vertices w.0 v 0 w.1 ∙ eqb-true (slice_index part.vertices w.0) v w.2)

  vertex-to : (v : ℕ) → Contains part.vertices v → is_vertex v ≡ true
  vertex-to v c = some-from (length part.vertices) (λ i. slice_index part.vertices i == v) c.0 c.1 (eq-eqb (slice_index part.vertices c.0) v (get_or_default part.vertices c.0 0 v c.1 ∙ c.2))

  named-from : (v : ℕ) → is_named v ≡ true → IsNamed entries v
  named-from v h = let w = some-witness (length entries) (λ k. (entry entries k).0 == v) h in (w.0, w.1, eqb-true (entry entries w.0).0 v w.2)

  named-to : (v : ℕ) → IsNamed entries v → is_named v ≡ true
  named-to v n = some-from (length entries) (λ k. (entry entries k).0 == v) n.0 n.1 (eq-eqb (entry entries n.0).0 v n.2)

  bad-to : (v : ℕ) → IsBadInPart part entries v → is_bad v ≡ true
  bad-to v h = elim h [
    | inl w ↦ or_left (some part.graph.vertex_count (is_unarranged v)) (not (is_vertex v) && is_named v)
        (some-from part.graph.vertex_count (is_unarranged v) w.0 w.1
        (and_from (slice_index part.vertices w.0 == v) (not (arranged_at w.0)) (eq-eqb (slice_index part.vertices w.0) v w.2)
        (not_from_false (arranged_at w.0) (false_from_ne_true (arranged_at w.0) (λ t. w.3 (passes-arranged (outer_edges part w.0) (outer_list part entries w.0) t))))))
    | inr w ↦ or_right (some part.graph.vertex_count (is_unarranged v)) (not (is_vertex v) && is_named v)
        (and_from (not (is_vertex v)) (is_named v) (not_from_false (is_vertex v) (false_from_ne_true (is_vertex v) (λ t. w.0 (vertex-from v t)))) (named-to v w.1))
  ]

  -- there is at most one least bad number, and none where the lists arrange the part
  pub one-bad : (v w : ℕ) → IsFirstBadInPart part entries v → IsFirstBadInPart part entries w → v ≡ w
  one-bad v w p q = elim (cases_order v w) [
    | inl same ↦ same
    | inr (inl less) ↦ absurd (q.none_before v less p.bad)
    | inr (inr more) ↦ absurd (p.none_before w more q.bad)
  ]

  pub arranged-not_bad : (v : ℕ) → ArrangePart part entries → IsFirstBadInPart part entries v → ⊥
  arranged-not_bad v a p = elim p.bad [
    | inl w ↦ w.3 (a.arranged w.0 w.1)
    | inr w ↦ w.0 (a.vertices v w.1)
  ]

  module _ (numbered : IsNumbered part) where
    -- the edges at a vertex are of the part, and have different numbers in the whole graph
    edge-within : (i e : ℕ) → is_member e (incident_edges part.graph i) ≡ true → e < length part.edges
    edge-within i e m = omega (arith, member-edge part.graph i e m, numbered.edge_each)

    outer-distinct : (i : ℕ) → is_distinct (outer_edges part i) ≡ true
    outer-distinct i = distinct-map (slice_index part.edges) (incident_edges part.graph i)
        (λ y z m n e. rises-once part.edges numbered.edges_rise y z (edge-within i y m) (edge-within i z n) e) (incident-distinct part.graph i)

    passes : (i : ℕ) → IsPermutation (outer_edges part i) (outer_list part entries i) → arranged_at i ≡ true
    passes i p = arranged-passes (outer_edges part i) (outer_list part entries i) (outer-distinct i) p

    bad-from : (v : ℕ) → is_bad v ≡ true → IsBadInPart part entries v
    bad-from v h = elim (or_cases (some part.graph.vertex_count (is_unarranged v)) (not (is_vertex v) && is_named v) h) [
      | inl a ↦
          let w = some-witness part.graph.vertex_count (is_unarranged v) a in
          let both = and_parts (slice_index part.vertices w.0 == v) (not (arranged_at w.0)) w.2 in
          inl (w.0, w.1, eqb-true (slice_index part.vertices w.0) v both.0, λ p. both_ways (not (arranged_at w.0)) (not_from_true (arranged_at w.0) (passes w.0 p)) both.1)
      | inr b ↦
          let both = and_parts (not (is_vertex v)) (is_named v) b in
          inr (λ c. both_ways (not (is_vertex v)) (not_from_true (is_vertex v) (vertex-to v c)) both.0, named-from v both.1)
    ]

    abbrev above_bad : ℕ
    above_bad = above_all part.vertices + above_named entries

    bad-below : (v : ℕ) → IsBadInPart part entries v → v < above_bad
    bad-below v h = elim h [
      | inl w ↦ omega (arith, above-each part.vertices w.0 (omega (arith, w.1, numbered.vertex_each)), w.2)
      | inr w ↦ let n = w.1 in omega (arith, above-entry entries n.0 n.1, n.2)
    ]

    -- where no number is bad, the lists arrange the part
    none-bad : ((v : ℕ) → IsBadInPart part entries v → ⊥) → ArrangePart part entries
    none-bad none = record {
      arranged = λ i l. elim (cases_Bool (arranged_at i)) [
        | inl t ↦ passes-arranged (outer_edges part i) (outer_list part entries i) t
        | inr f ↦ absurd (none (slice_index part.vertices i) (inl (i, l, refl, λ p. both_ways (arranged_at i) f (passes i p))))
      ];
      vertices = λ v n. elim (cases_Bool (is_vertex v)) [
        | inl t ↦ vertex-from v t
        | inr f ↦ absurd (none v (inr (λ c. both_ways (is_vertex v) f (vertex-to v c), n)))
      ];
    }

    -- so they arrange it, or there is a least bad number
    pub arranged_or_bad : ArrangePart part entries ⊎ ((v : ℕ) × IsFirstBadInPart part entries v)
    arranged_or_bad = elim (cases_Bool (some above_bad is_bad)) [
      | inl t ↦ inr (
        least above_bad is_bad,
        record { bad = bad-from (least above_bad is_bad) (least-passes above_bad is_bad t); none_before = λ w l b. both_ways (is_bad w) (least-before above_bad is_bad w l) (bad-to w b) },
      )
      | inr f ↦ inl (none-bad (λ v b. both_ways (is_bad v) (some-none above_bad is_bad f v (bad-below v b)) (bad-to v b)))
    ]

    -- ---- the rotation system

    -- the numbers of edges in the part
    abbrev inner : List ℕ → List ℕ
    inner = inner_edges (record { part = part; nodes = [] })

    inner-back : (xs : List ℕ) → All (λ x. x < length part.edges) xs → inner (map (slice_index part.edges) xs) ≡ xs
    inner-back xs a = inner-of_outer (record { part = part; nodes = [] }) xs (λ i j. rises-once part.edges numbered.edges_rise i j) a

    -- x is the number in the whole graph of an edge of the part
    abbrev IsImage : ℕ → Type 0
    IsImage x = (j : ℕ) × (j < length part.edges) × (slice_index part.edges j ≡ x)

    -- such numbers are those of their numbers in the part
    image-own : (x : ℕ) → IsImage x → slice_index part.edges (least (length part.edges) (λ i. slice_index part.edges i == x)) ≡ x
    image-own x w =
        let p : ℕ → Bool = λ i. slice_index part.edges i == x in
        eqb-true (slice_index part.edges (least (length part.edges) p)) x (least-passes (length part.edges) p (some-from (length part.edges) p w.0 w.1 (eq-eqb (slice_index part.edges w.0) x w.2)))

    outer-back : (xs : List ℕ) → All IsImage xs → map (slice_index part.edges) (inner xs) ≡ xs
    outer-back [] a = refl
    outer-back (x ∷ xs) a = λ i. image-own x (All-head IsImage x xs a) i ∷ outer-back xs (All-tail IsImage x xs a) i

    images : (xs : List ℕ) → All (λ x. x < length part.edges) xs → All IsImage (map (slice_index part.edges) xs)
    images [] a = All-nil IsImage
    images (x ∷ xs) a =
        All-cons IsImage (slice_index part.edges x) (map (slice_index part.edges) xs) (x, All-head (λ x. x < length part.edges) x xs a, refl) (images xs (All-tail (λ x. x < length part.edges) x xs a))

    incident-within : (i : ℕ) → All (λ x. x < length part.edges) (incident_edges part.graph i)
    incident-within i = All-from_get_or (λ x. x < length part.edges) (incident_edges part.graph i) 0 (λ k l. omega (arith, incident_at-edge part.graph i k 0 l, numbered.edge_each))

    -- the order that is given for a vertex, in the numbers of the part
    abbrev inner_order : ℕ → List ℕ
    inner_order i = inner (outer_order part entries i)

    module _ (i : ℕ) (a : IsPermutation (outer_edges part i) (outer_list part entries i)) where
      order-arranged : IsPermutation (outer_edges part i) (outer_order part entries i)
      order-arranged = IsPermutation-trans (outer_edges part i) (outer_list part entries i) (outer_order part entries i) a (turned-permutation (outer_list part entries i) (first_or 0 (outer_edges part i)))

      -- in those of the whole graph it is what was given
      order-outer : map (slice_index part.edges) (inner_order i) ≡ outer_order part entries i
      order-outer = outer-back (outer_order part entries i)
          (All-permutation IsImage (outer_edges part i) (outer_order part entries i) order-arranged (images (incident_edges part.graph i) (incident-within i)))

      -- it begins with the least edge
      order-first : (inc : List ℕ) → inc ≡ incident_edges part.graph i → first_or 0 (inner (turned (outer_list part entries i) (first_or 0 (map (slice_index part.edges) inc)))) ≡ first_or 0 inc
      order-first [] e =
          let none : outer_list part entries i ≡ [] =
          nil_from_length (outer_list part entries i) (omega (arith, length_permutation (outer_edges part i) (outer_list part entries i) a, length-map (incident_edges part.graph i) (slice_index part.edges), ap (λ (l : List ℕ). length l) e)) in
          subst (λ (o : List ℕ). first_or 0 (inner (turned o 0)) ≡ 0) (sym none) refl
      order-first (x ∷ xs) e =
          let at : is_member x (incident_edges part.graph i) ≡ true = subst (λ (o : List ℕ). is_member x o ≡ true) e (member-head x xs) in
          let there : is_member (slice_index part.edges x) (outer_list part entries i) ≡ true = permutation-member (outer_edges part i) (outer_list part entries i) (slice_index part.edges x) a
          (subst (λ (o : List ℕ). is_member (slice_index part.edges x) (map (slice_index part.edges) o) ≡ true) e (member-head (slice_index part.edges x) (map (slice_index part.edges) xs))) in
          let w = turned-head (outer_list part entries i) (slice_index part.edges x) there in
          ap (λ (o : List ℕ). first_or 0 (inner o)) w.1
          ∙ ap (first_or 0) (inner-back (x ∷ []) (All-cons (λ x. x < length part.edges) x [] (edge-within i x at) (All-nil (λ x. x < length part.edges))))

      order-given : IsCyclicOrder (incident_edges part.graph i) (inner_order i)
      order-given = record {
        arranged = subst (λ (o : List ℕ). IsPermutation o (inner_order i)) (inner-back (incident_edges part.graph i) (incident-within i))
            (IsPermutation-map (λ e. least (length part.edges) (λ i. slice_index part.edges i == e)) (outer_edges part i) (outer_order part entries i) order-arranged);
        least_first = order-first (incident_edges part.graph i) refl;
      }

    -- the orders, vertex by vertex
    abbrev orders : List (List ℕ)
    orders = map inner_order (numbers_below part.graph.vertex_count)

    orders-long : length orders ≡ part.graph.vertex_count
    orders-long = length-map (numbers_below part.graph.vertex_count) inner_order ∙ length-numbers_below part.graph.vertex_count

    orders-at : (i : ℕ) → i < part.graph.vertex_count → order_at orders i ≡ inner_order i
    orders-at i below =
        let under : i < length (numbers_below part.graph.vertex_count) = omega (arith, below, length-numbers_below part.graph.vertex_count) in
        get_or-map inner_order (numbers_below part.graph.vertex_count) i 0 [] under ∙ ap inner_order (get_or-numbers_below part.graph.vertex_count i 0 below)

    -- lists that arrange the part are a rotation system
    pub given-exists : ArrangePart part entries → (r : List (List ℕ)) × IsGiven part entries r
    given-exists a = (
      orders,
      record {
        arranged = a;
        system = record {
          vertices = orders-long;
          orders = λ i l. subst (λ (o : List ℕ). IsCyclicOrder (incident_edges part.graph i) o) (sym (orders-at i l)) (order-given i (a.arranged i l));
        };
        orders = λ i l. ap (map (slice_index part.edges)) (orders-at i l) ∙ order-outer i (a.arranged i l);
      },
    )

    -- and of one only
    given-order : (r : List (List ℕ)) (i : ℕ) → IsGiven part entries r → i < part.graph.vertex_count → order_at r i ≡ inner_order i
    given-order r i g l =
        sym (inner-back (order_at r i) (All-permutation (λ x. x < length part.edges) (incident_edges part.graph i) (order_at r i) (g.system.orders i l).arranged (incident-within i))) ∙ ap inner (g.orders i l)

    pub given-one : (r q : List (List ℕ)) → IsGiven part entries r → IsGiven part entries q → r ≡ q
    given-one r q g h = ext_get_or [] r q (g.system.vertices ∙ sym h.system.vertices)
        (λ i l. (let below : i < part.graph.vertex_count = omega (arith, l, g.system.vertices) in given-order r i g below ∙ sym (given-order q i h below)))
