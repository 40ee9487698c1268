-- Lists in the numbers of a whole graph, and the same lists in those of a part.
use Rattle.std.proofs.Common.{◌≡◌, ◌≢◌, ℕ, zero, suc, ◌+◌, ◌<◌, ◌≤◌, true, false, eqb, List, [], ◌∷◌, length, map, get_or, refl, sym, ap, ◌∙◌, subst, inl, inr, arith}
use Rattle.std.specs.List.{Contains}
use Rattle.std.specs.List.Sorted.{IsPermutation}
use Rattle.std.proofs.lemmas.List.{length-map, map-append, get_or_default, nil_from_length}
use Rattle.std.proofs.lemmas.List.Sorted.{IsPermutation-map, length_permutation}
use Rattle.std.proofs.lemmas.Bool.{cases_eq, cases_lt, eq-eqb, ne_eqb, cond-true, cond-false, both_ways, false_from_ne_true}
use Rattle.permutations.specs.Members.{is_member, place_of}
use Rattle.permutations.specs.Cyclic.{first_or, turned}
use Rattle.permutations.proofs.Members.{member-head, member-tail, member-append_left, cut_at}
use Rattle.permutations.proofs.Turned.{turned-cut}
use Rattle.permutations.proofs.Mapped.{map-member}
use Rattle.multigraph.specs.Graph.{incident_edges}
use Rattle.multigraph.specs.Part.{GraphPart, Rises, IsNumbered}
use Rattle.multigraph.proofs.Places.{rises-once}
use Rattle.rotations.specs.Entries.{entry, IsRising, IsNamed, list_at}
use Rattle.rotations.specs.Given.{IsArranged, AreArranged, IsFirstBad, given_order}
use Rattle.rotations.specs.PartLists.{outer_edges, outer_list, ArrangePart, IsFirstBadInPart, outer_order, AreInnerBelow, IsFirstStranger}
use Rattle.rotations.proofs.Membership.{member-edge}
use Rattle.rotations.proofs.Arrangements.{permutation-member, permutation-member_back}
use Rattle.rotations.proofs.Cursor.{list_at-found}

-- the place of a number is the first at which it stands
pub place-first : (l : List ℕ) (x i : ℕ) → i < length l → ((j : ℕ) → j < i → get_or l j 0 ≢ x) → get_or l i 0 ≡ x → place_of l x ≡ i
place-first [] x i l n e = absurd (omega arith)
place-first (y ∷ ys) x zero l n e = cond-true (eqb y x) 0 (suc (place_of ys x)) (eq-eqb y x e)
place-first (y ∷ ys) x (suc i) l n e = cond-false (eqb y x) 0 (suc (place_of ys x)) (ne_eqb y x (n 0 (omega arith))) ∙ ap suc (place-first ys x i (omega arith) (λ j m. n (suc j) (omega arith)) e)

pub place-none : (l : List ℕ) (x : ℕ) → ((j : ℕ) → j < length l → get_or l j 0 ≢ x) → place_of l x ≡ length l
place-none [] x n = refl
place-none (y ∷ ys) x n = cond-false (eqb y x) 0 (suc (place_of ys x)) (ne_eqb y x (n 0 (omega arith))) ∙ ap suc (place-none ys x (λ j m. n (suc j) (omega arith)))

pub place-back : (l : List ℕ) (x : ℕ) → place_of l x < length l → get_or l (place_of l x) 0 ≡ x
place-back [] x m = absurd (omega arith)
place-back (y ∷ ys) x m = elim (cases_eq y x) [
  | inl same ↦ subst (λ (k : ℕ). get_or (y ∷ ys) k 0 ≡ x) (sym (cond-true (eqb y x) 0 (suc (place_of ys x)) (eq-eqb y x same))) same
  | inr n ↦
      let e : place_of (y ∷ ys) x ≡ suc (place_of ys x) = cond-false (eqb y x) 0 (suc (place_of ys x)) (ne_eqb y x n) in
      subst (λ (k : ℕ). get_or (y ∷ ys) k 0 ≡ x) (sym e) (place-back ys x (omega (arith, e)))
]

pub place-at : (l : List ℕ) (i : ℕ) → Rises l → i < length l → place_of l (get_or l i 0) ≡ i
place-at l i r m = place-first l (get_or l i 0) i m (λ j n e. omega (arith, rises-once l r j i (omega arith) m e)) refl

-- a list turned to a member, mapped
pub map-turned : (f : ℕ → ℕ) (l : List ℕ) (y : ℕ) → is_member y l ≡ true → ((z : ℕ) → is_member z l ≡ true → f z ≡ f y → z ≡ y) → map f (turned l y) ≡ turned (map f l) (f y)
map-turned f l y m one =
    let cut = cut_at y l m in
    let apart : is_member (f y) (map f cut.front) ≡ false = false_from_ne_true (is_member (f y) (map f cut.front)) (λ t.
    let q = map-member f cut.front (f y) t in
    let at_l : is_member q.0 l ≡ true = subst (λ (o : List ℕ). is_member q.0 o ≡ true) (sym cut.is) (member-append_left q.0 cut.front (y ∷ cut.back) q.1) in
    both_ways (is_member y cut.front) cut.first (subst (λ (z : ℕ). is_member z cut.front ≡ true) (one q.0 at_l q.2) q.1)) in
    ap (map f) (ap (λ (o : List ℕ). turned o y) cut.is ∙ turned-cut cut.front y cut.back cut.first)
    ∙ (map-append f (y ∷ cut.back) cut.front
    ∙ sym (ap (λ (o : List ℕ). turned (map f o) (f y)) cut.is ∙ (ap (λ (o : List ℕ). turned o (f y)) (map-append f cut.front (y ∷ cut.back)) ∙ turned-cut (map f cut.front) (f y) (map f cut.back) apart)))

-- there and back
map-back : (edges inc : List ℕ) → Rises edges → ((e : ℕ) → is_member e inc ≡ true → e < length edges) → map (place_of edges) (map (λ j. get_or edges j 0) inc) ≡ inc
map-back edges [] r b = refl
map-back edges (x ∷ xs) r b = (λ i. place-at edges x r (b x (member-head x xs)) i ∷ map-back edges xs r (λ e m. b e (member-tail e x xs m)) i)

map-forth : (edges l : List ℕ) → ((e : ℕ) → is_member e (map (place_of edges) l) ≡ true → e < length edges) → map (λ j. get_or edges j 0) (map (place_of edges) l) ≡ l
map-forth edges [] b = refl
map-forth edges (x ∷ xs) b =
    (λ i. place-back edges x (b (place_of edges x) (member-head (place_of edges x) (map (place_of edges) xs))) i
    ∷ map-forth edges xs (λ e m. b e (member-tail e (place_of edges x) (map (place_of edges) xs) m)) i)

module _ (part : GraphPart) (numbered : IsNumbered part) (entries inner : List (ℕ × List ℕ)) (made : AreInnerBelow part entries inner part.graph.vertex_count) where
  below : (i e : ℕ) → is_member e (incident_edges part.graph i) ≡ true → e < length part.edges
  below i e m = omega (arith, member-edge part.graph i e m, numbered.edge_each)

  -- the list of each vertex in the numbers of the part
  inner-list : (i : ℕ) → i < part.graph.vertex_count → list_at inner i ≡ map (place_of part.edges) (outer_list part entries i)
  inner-list i l =
      list_at-found inner i i (omega (arith, made.long))
      (λ j m same. omega (arith, ap (λ (q : (ℕ × List ℕ)). q.0) (made.each j (omega arith))))
      (ap (λ (q : (ℕ × List ℕ)). q.0) (made.each i l))
      ∙ ap (λ (q : (ℕ × List ℕ)). q.1) (made.each i l)

  -- an arrangement in the one numbers is one in the others
  to-inner : (i : ℕ) → i < part.graph.vertex_count → IsPermutation (outer_edges part i) (outer_list part entries i) → IsArranged part.graph inner i
  to-inner i l p =
      subst (λ (o : List ℕ). IsPermutation (incident_edges part.graph i) o) (sym (inner-list i l))
      (subst (λ (o : List ℕ). IsPermutation o (map (place_of part.edges) (outer_list part entries i))) (map-back part.edges (incident_edges part.graph i) numbered.edges_rise (below i))
      (IsPermutation-map (place_of part.edges) (outer_edges part i) (outer_list part entries i) p))

  back-list : (i : ℕ) → i < part.graph.vertex_count → IsArranged part.graph inner i → map (λ j. get_or part.edges j 0) (map (place_of part.edges) (outer_list part entries i)) ≡ outer_list part entries i
  back-list i l p = map-forth part.edges (outer_list part entries i)
      (λ e m. below i e (permutation-member_back (incident_edges part.graph i) (list_at inner i) e p (subst (λ (o : List ℕ). is_member e o ≡ true) (sym (inner-list i l)) m)))

  to-outer : (i : ℕ) → i < part.graph.vertex_count → IsArranged part.graph inner i → IsPermutation (outer_edges part i) (outer_list part entries i)
  to-outer i l p =
      subst (λ (o : List ℕ). IsPermutation (outer_edges part i) o) (back-list i l p)
      (IsPermutation-map (λ j. get_or part.edges j 0) (incident_edges part.graph i) (map (place_of part.edges) (outer_list part entries i))
      (subst (λ (o : List ℕ). IsPermutation (incident_edges part.graph i) o) (inner-list i l) p))

  -- the order of each vertex in the numbers of the whole graph
  pub order-outer : (i : ℕ) (order : List ℕ) → i < part.graph.vertex_count → IsArranged part.graph inner i → order ≡ given_order part.graph inner i → map (λ j. get_or part.edges j 0) order ≡ outer_order part entries i
  order-outer i order l p is =
      ap (map (λ j. get_or part.edges j 0)) (is ∙ ap (λ (o : List ℕ). turned o (first_or 0 (incident_edges part.graph i))) (inner-list i l))
      ∙ go (incident_edges part.graph i) refl
    where
      go : (inc : List ℕ) → inc ≡ incident_edges part.graph i
          → map (λ j. get_or part.edges j 0) (turned (map (place_of part.edges) (outer_list part entries i)) (first_or 0 inc)) ≡ turned (outer_list part entries i) (first_or 0 (map (λ j. get_or part.edges j 0) inc))
      go [] e =
          let none : outer_list part entries i ≡ [] =
          nil_from_length (outer_list part entries i) (omega (arith, ap length e, length_permutation (outer_edges part i) (outer_list part entries i) (to-outer i l p), length-map (incident_edges part.graph i) (λ j. get_or part.edges j 0))) in
          subst (λ (o : List ℕ). map (λ j. get_or part.edges j 0) (turned (map (place_of part.edges) o) 0) ≡ turned o 0) (sym none) refl
      go (x ∷ xs) e =
          let at_x : is_member x (incident_edges part.graph i) ≡ true = subst (λ (o : List ℕ). is_member x o ≡ true) e (member-head x xs) in
          let inside : (z : ℕ) → is_member z (map (place_of part.edges) (outer_list part entries i)) ≡ true → z < length part.edges =
          λ z m. below i z (permutation-member_back (incident_edges part.graph i) (list_at inner i) z p (subst (λ (o : List ℕ). is_member z o ≡ true) (sym (inner-list i l)) m)) in
          map-turned (λ j. get_or part.edges j 0) (map (place_of part.edges) (outer_list part entries i)) x
          (subst (λ (o : List ℕ). is_member x o ≡ true) (inner-list i l) (permutation-member (incident_edges part.graph i) (list_at inner i) x p at_x))
          (λ z m s. rises-once part.edges numbered.edges_rise z x (inside z m) (below i x at_x) s)
          ∙ ap (λ (o : List ℕ). turned o (get_or part.edges x 0)) (back-list i l p)

  -- the lists arrange the part
  pub part-arranged : AreArranged part.graph inner → ((v : ℕ) → IsNamed entries v → Contains part.vertices v) → ArrangePart part entries
  part-arranged a known = record { arranged = λ i l. to-outer i l (a.arranged i l); vertices = known }

  -- the least bad vertex of the part, where no smaller number is a stranger
  pub part-bad : (i : ℕ) → IsFirstBad part.graph inner i → ((w : ℕ) → w < get_or part.vertices i 0 → IsNamed entries w → Contains part.vertices w) → IsFirstBadInPart part entries (get_or part.vertices i 0)
  part-bad i f known = elim f.bad [
    | inl b ↦ record {
      bad = inl (i, b.0, refl, λ p. b.1 (to-inner i b.0 p));
      none_before = λ w less q. elim q [
        | inl j ↦ f.none_before j.0 (earlier j.0 w j.1 j.2 b.0 less) (inl (j.1, λ p. j.3 (to-outer j.0 j.1 p)))
        | inr s ↦ s.0 (known w less s.1)
      ];
    }
    | inr b ↦ absurd (unnamed b.0 b.1)
  ]
    where
      unnamed : part.graph.vertex_count ≤ i → IsNamed inner i → ⊥
      unnamed l n = omega (arith, n.1, n.2, made.long, ap (λ (q : (ℕ × List ℕ)). q.0) (made.each n.0 (omega (arith, n.1, made.long))))

      earlier : (j w : ℕ) → j < part.graph.vertex_count → get_or part.vertices j 0 ≡ w → i < part.graph.vertex_count → w < get_or part.vertices i 0 → j < i
      earlier j w lj e li less = elim (cases_lt j i) [
        | inl m ↦ m
        | inr m ↦ elim (cases_eq i j) [
          | inl same ↦ absurd (omega (arith, ap (λ (k : ℕ). get_or part.vertices k 0) same))
          | inr n ↦ absurd (omega (arith, numbered.vertices_rise i j (omega arith) (omega (arith, numbered.vertex_each))))
        ]
      ]

  -- the least stranger, where no smaller vertex is bad
  pub stranger-bad : (w : ℕ) → IsFirstStranger part entries w → ((j : ℕ) → j < part.graph.vertex_count → get_or part.vertices j 0 < w → ¬ ¬ IsArranged part.graph inner j) → IsFirstBadInPart part entries w
  stranger-bad w s fine = record {
    bad = inr (s.stranger, s.named);
    none_before = λ u less q. elim q [
      | inl j ↦ fine j.0 j.1 (omega (arith, j.2)) (λ p. j.3 (to-outer j.0 j.1 p))
      | inr t ↦ t.0 (s.known u less t.1)
    ];
  }

  -- the lesser of the two: the stranger
  pub lesser-stranger : (i w : ℕ) → IsFirstBad part.graph inner i → IsFirstStranger part entries w → w < get_or part.vertices i 0 → IsFirstBadInPart part entries w
  lesser-stranger i w f s less = stranger-bad w s (λ j l m no. f.none_before j (earlier j l m) (inl (l, no)))
    where
      earlier : (j : ℕ) → j < part.graph.vertex_count → get_or part.vertices j 0 < w → j < i
      earlier j lj m = elim (cases_lt j i) [
        | inl t ↦ t
        | inr t ↦ elim (cases_eq i j) [
          | inl same ↦ absurd (omega (arith, ap (λ (k : ℕ). get_or part.vertices k 0) same))
          | inr n ↦ absurd (omega (arith, numbered.vertices_rise i j (omega arith) (omega (arith, numbered.vertex_each))))
        ]
      ]

  -- or the vertex
  pub lesser-vertex : (i w : ℕ) → IsFirstBad part.graph inner i → IsFirstStranger part entries w → get_or part.vertices i 0 ≤ w → IsFirstBadInPart part entries (get_or part.vertices i 0)
  lesser-vertex i w f s more = part-bad i f (λ u less. s.known u (omega arith))

-- what a look-up in a rising list answers
pub place-found : (l : List ℕ) (x k : ℕ) → Rises l → (k < length l) × (get_or l k 0 ≡ x) → k ≡ place_of l x
place-found l x k r f = sym (ap (place_of l) (sym f.1) ∙ place-at l k r f.0)

-- a list contains what stands at a place, and nothing else
pub contains-at : (l : List ℕ) (x k : ℕ) → k < length l → get_or l k 0 ≡ x → Contains l x
contains-at l x k m e = (k, m, get_or_default l k x 0 m ∙ e)

pub contains-none : (l : List ℕ) (x : ℕ) → ((k : ℕ) → k < length l → get_or l k 0 ≢ x) → ¬ Contains l x
contains-none l x n c = n c.0 c.1 (get_or_default l c.0 0 x c.1 ∙ c.2)

-- the first entry for no vertex of the part is for the least stranger
pub stranger-first : (part : GraphPart) (entries : List (ℕ × List ℕ)) (k v : ℕ) → IsRising entries → k < length entries → v ≡ (entry entries k).0 → ((j : ℕ) → j < k → Contains part.vertices (entry entries j).0) → ((i : ℕ) → i < length part.vertices → get_or part.vertices i 0 ≢ v)
    → IsFirstStranger part entries v
stranger-first part entries k v rising m is before none = record {
  named = (k, m, sym is);
  stranger = contains-none part.vertices v none;
  known = λ w less n. subst (λ (x : ℕ). Contains part.vertices x) n.2 (before n.0 (earlier w n.0 less n.1 n.2));
}
  where
    earlier : (w j : ℕ) → w < v → j < length entries → (entry entries j).0 ≡ w → j < k
    earlier w j less l e = elim (cases_lt j k) [
      | inl t ↦ t
      | inr t ↦ elim (cases_eq k j) [
        | inl same ↦ absurd (omega (arith, ap (λ (i : ℕ). (entry entries i).0) same))
        | inr n ↦ absurd (omega (arith, rising k j (omega arith) l))
      ]
    ]

-- all are vertices of the part
pub strangers-none : (part : GraphPart) (entries : List (ℕ × List ℕ)) (k : ℕ) → length entries ≤ k → ((j : ℕ) → j < k → Contains part.vertices (entry entries j).0) → (v : ℕ) → IsNamed entries v → Contains part.vertices v
strangers-none part entries k l known v n = subst (λ (x : ℕ). Contains part.vertices x) n.2 (known n.0 (omega (arith, n.1)))

-- one entry more is for a vertex of the part
pub known-more : (part : GraphPart) (entries : List (ℕ × List ℕ)) (k v i : ℕ) → ((j : ℕ) → j < k → Contains part.vertices (entry entries j).0) → v ≡ (entry entries k).0 → (i < length part.vertices) × (get_or part.vertices i 0 ≡ v) → (j : ℕ) → j < k + 1 → Contains part.vertices (entry entries j).0
known-more part entries k v i before is found j l = elim (cases_eq j k) [
  | inl same ↦ subst (λ (x : ℕ). Contains part.vertices (entry entries x).0) (sym same) (contains-at part.vertices (entry entries k).0 i found.0 (found.1 ∙ is))
  | inr n ↦ before j (omega arith)
]
