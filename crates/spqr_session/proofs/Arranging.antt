-- Lists that are given for vertices are a rotation system, one and no other, or have a least bad number.
use Rattle.std.proofs.Common.{◌≡◌, ℕ, zero, suc, ◌<◌, ◌≤◌, true, ◌⊎◌, List, [], ◌∷◌, length, map, leb, refl, sym, ap, ◌∙◌, subst, inl, inr, arith}
use Rattle.std.proofs.lemmas.Bool.{cases_Bool, cases_eq, cases_order, true≢false, le-leb, leb-true}
use Rattle.std.proofs.lemmas.List.{ext_get_or, get_or-map, length-map, nil_from_length}
use Rattle.std.proofs.lemmas.List.Sorted.{length_permutation, IsPermutation-trans}
use Rattle.permutations.specs.Members.{is_member}
use Rattle.permutations.specs.Cyclic.{first_or, turned}
use Rattle.permutations.proofs.Successor.{first_or-member}
use Rattle.permutations.proofs.Turned.{turned-permutation, turned-first_or}
use Rattle.multigraph.specs.Graph.{Multigraph, incident_edges, numbers_below}
use Rattle.multigraph.proofs.Below.{length-numbers_below, get_or-numbers_below}
use Rattle.rotations.specs.Entries.{entry, IsNamed, list_at}
use Rattle.rotations.specs.Rotation.{order_at, IsCyclicOrder}
use Rattle.rotations.specs.Given.{IsArranged, AreArranged, IsFirstBad, given_order}
use Rattle.rotations.proofs.Membership.{incident-distinct}
use Rattle.rotations.proofs.Arrangements.{permutation-member}
use Rattle.spqr_session.specs.Commands.Euler.{IsGiven}
use Rattle.gml_graph.specs.Arranged.{is_arrangement}
use Rattle.gml_graph.proofs.Arranged.{arranged-passes, passes-arranged}

-- each vertex's list is arranged, or there is a first vertex whose list is not
arranged_cases : (g : Multigraph) (entries : List (ℕ × List ℕ)) (n : ℕ) → ((v : ℕ) → v < n → IsArranged g entries v)
    ⊎ ((v : ℕ) × (v < n) × (IsArranged g entries v → ⊥) × ((w : ℕ) → w < v → IsArranged g entries w))
arranged_cases g entries zero = inl (λ v l. absurd (omega arith))
arranged_cases g entries (suc n) = elim (arranged_cases g entries n) [
  | inr found ↦ (let below = found.1 in inr (found.0, omega arith, found.2, found.3))
  | inl all ↦ elim (cases_Bool (is_arrangement (incident_edges g n) (list_at entries n))) [
    | inl good ↦ inl (λ v l. elim (cases_eq v n) [
      | inl same ↦ subst (λ (k : ℕ). IsArranged g entries k) (sym same) (passes-arranged (incident_edges g n) (list_at entries n) good)
      | inr other ↦ all v (omega arith)
    ])
    | inr bad ↦ inr (n, omega arith, λ a. true≢false (sym (arranged-passes (incident_edges g n) (list_at entries n) (incident-distinct g n) a) ∙ bad), all)
  ]
]

-- who is named by others is named by one more
named-more : (first : ℕ × List ℕ) (entries : List (ℕ × List ℕ)) (v : ℕ) → IsNamed entries v → IsNamed (first ∷ entries) v
named-more first entries v m = let h = m.1 in (suc m.0, omega arith, m.2)

named-first : (first : ℕ × List ℕ) (entries : List (ℕ × List ℕ)) → IsNamed (first ∷ entries) first.0
named-first first entries = (0, omega arith, refl)

-- who is named is the first, or named by the others
named-at : (first : ℕ × List ℕ) (entries : List (ℕ × List ℕ)) (v k : ℕ) → k < length (first ∷ entries) → (entry (first ∷ entries) k).0 ≡ v → (first.0 ≡ v) ⊎ IsNamed entries v
named-at first entries v zero h e = inl e
named-at first entries v (suc k) h e = inr (k, omega arith, e)

-- only vertices are named, or there is a least number that is named and no vertex
abbrev NamedCases : ℕ → List (ℕ × List ℕ) → Type 0
NamedCases n entries = ((v : ℕ) → IsNamed entries v → v < n) ⊎ ((v : ℕ) × (n ≤ v) × IsNamed entries v × ((w : ℕ) → w < v → n ≤ w → IsNamed entries w → ⊥))

-- the first entry's vertex is no vertex, and smaller than all others that are none
outside-first : (n : ℕ) (first : ℕ × List ℕ) (entries : List (ℕ × List ℕ)) → n ≤ first.0 → ((w : ℕ) → w < first.0 → n ≤ w → IsNamed entries w → ⊥) → NamedCases n (first ∷ entries)
outside-first n first entries h none = inr (
  first.0,
  h,
  named-first first entries,
  λ w l k m. elim (named-at first entries w m.0 m.1 m.2) [
    | inl same ↦ omega (arith, same)
    | inr other ↦ none w l k other
  ],
)

-- the least is among the others
outside-other : (n : ℕ) (first : ℕ × List ℕ) (entries : List (ℕ × List ℕ)) (v : ℕ) → n ≤ v → IsNamed entries v → ((w : ℕ) → w < v → n ≤ w → IsNamed entries w → ⊥) → (n ≤ first.0 → v ≤ first.0) → NamedCases n (first ∷ entries)
outside-other n first entries v h m none least = inr (
  v,
  h,
  named-more first entries v m,
  λ w l k named. elim (named-at first entries w named.0 named.1 named.2) [
    | inl same ↦ (let q : v ≤ first.0 = least (omega (arith, same)) in omega (arith, same, q))
    | inr other ↦ none w l k other
  ],
)

named_cases : (n : ℕ) (entries : List (ℕ × List ℕ)) → NamedCases n entries
named_cases n [] = inl (λ v m. let k = m.1 in absurd (omega arith))
named_cases n (first ∷ entries) = elim (named_cases n entries) [
  | inl all ↦ elim (cases_order first.0 n) [
    | inl same ↦ outside-first n first entries (omega (arith, same)) (λ w l k m. (let q : w < n = all w m in omega arith))
    | inr (inl less) ↦ inl (λ v m. elim (named-at first entries v m.0 m.1 m.2) [
      | inl is ↦ omega (arith, is)
      | inr other ↦ all v other
    ])
    | inr (inr more) ↦ outside-first n first entries (omega arith) (λ w l k m. (let q : w < n = all w m in omega arith))
  ]
  | inr found ↦ elim (cases_order first.0 found.0) [
    | inl same ↦ outside-other n first entries found.0 found.1 found.2 found.3 (λ h. omega (arith, same))
    | inr (inl less) ↦ elim (cases_Bool (leb n first.0)) [
      | inl within ↦ outside-first n first entries (leb-true n first.0 within) (λ w l k m. found.3 w (omega arith) k m)
      | inr below ↦ outside-other n first entries found.0 found.1 found.2 found.3 (λ h. absurd (true≢false (sym (le-leb n first.0 h) ∙ below)))
    ]
    | inr (inr more) ↦ outside-other n first entries found.0 found.1 found.2 found.3 (λ h. omega arith)
  ]
]

-- so they are arranged, or there is a first bad number
pub arranged_or_bad : (g : Multigraph) (entries : List (ℕ × List ℕ)) → AreArranged g entries ⊎ ((v : ℕ) × IsFirstBad g entries v)
arranged_or_bad g entries = elim (arranged_cases g entries g.vertex_count) [
  | inr found ↦ inr (
    found.0,
    record {
      bad = inl (found.1, found.2);
      none_before = λ w l b. (let below = found.1 in elim b [
        | inl vertex ↦ vertex.1 (found.3 w l)
        | inr stranger ↦ (let h = stranger.0 in omega arith)
      ]);
    },
  )
  | inl all ↦ elim (named_cases g.vertex_count entries) [
    | inl vertices ↦ inl (record { arranged = all; vertices = vertices })
    | inr found ↦ inr (
      found.0,
      record {
        bad = inr (found.1, found.2);
        none_before = λ w l b. elim b [
          | inl vertex ↦ vertex.1 (all w vertex.0)
          | inr stranger ↦ found.3 w l stranger.0 stranger.1
        ];
      },
    )
  ]
]

-- ---- the rotation system

-- the orders that are given, vertex by vertex
abbrev orders_of : Multigraph → List (ℕ × List ℕ) → List (List ℕ)
orders_of g entries = map (given_order g entries) (numbers_below g.vertex_count)

orders-long : (g : Multigraph) (entries : List (ℕ × List ℕ)) → length (orders_of g entries) ≡ g.vertex_count
orders-long g entries = length-map (numbers_below g.vertex_count) (given_order g entries) ∙ length-numbers_below g.vertex_count

orders-at : (g : Multigraph) (entries : List (ℕ × List ℕ)) (v : ℕ) → v < g.vertex_count → order_at (orders_of g entries) v ≡ given_order g entries v
orders-at g entries v below =
    let under : v < length (numbers_below g.vertex_count) = omega (arith, length-numbers_below g.vertex_count) in
    get_or-map (given_order g entries) (numbers_below g.vertex_count) v 0 [] under ∙ ap (given_order g entries) (get_or-numbers_below g.vertex_count v 0 below)

-- the first of a list is one of it
first-member : (xs : List ℕ) → 0 < length xs → is_member (first_or 0 xs) xs ≡ true
first-member [] h = absurd (omega arith)
first-member (x ∷ xs) h = first_or-member 0 x xs

-- the order given for a vertex is one of its edges
order-given : (g : Multigraph) (entries : List (ℕ × List ℕ)) (v : ℕ) → IsArranged g entries v → IsCyclicOrder (incident_edges g v) (given_order g entries v)
order-given g entries v a = record {
  arranged = IsPermutation-trans edges list (given_order g entries v) a (turned-permutation list (first_or 0 edges));
  least_first = elim (cases_eq (length edges) 0) [
    | inl none ↦
        ap (λ (xs : List ℕ). first_or 0 (turned xs (first_or 0 edges))) (nil_from_length list (omega (arith, length_permutation edges list a))) ∙ ap (first_or 0) (sym (nil_from_length edges none))
    | inr some ↦ turned-first_or list (first_or 0 edges) 0 (permutation-member edges list (first_or 0 edges) a (first-member edges (omega arith)))
  ];
}
  where
    edges : List ℕ
    edges = incident_edges g v

    list : List ℕ
    list = list_at entries v

-- lists that are arranged are a rotation system
pub given-exists : (g : Multigraph) (entries : List (ℕ × List ℕ)) → AreArranged g entries → (r : List (List ℕ)) × IsGiven g entries r
given-exists g entries a = (
  orders_of g entries,
  record {
    arranged = a;
    system = record { vertices = orders-long g entries; orders = λ v l. subst (λ (o : List ℕ). IsCyclicOrder (incident_edges g v) o) (sym (orders-at g entries v l)) (order-given g entries v (a.arranged v l)) };
    orders = orders-at g entries;
  },
)

-- and of one only
pub given-one : (g : Multigraph) (entries : List (ℕ × List ℕ)) (r s : List (List ℕ)) → IsGiven g entries r → IsGiven g entries s → r ≡ s
given-one g entries r s p q = ext_get_or [] r s (p.system.vertices ∙ sym q.system.vertices) (λ v h. (let below : v < g.vertex_count = omega (arith, p.system.vertices) in p.orders v below ∙ sym (q.orders v below)))
