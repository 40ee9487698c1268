-- A contour of three or more vertices has a free vertex: the theorem that an order of the vertices rests on. And what the darts of a free vertex are.
use Rattle.std.proofs.Common.{◌≡◌, ◌≢◌, ◌⊎◌, ℕ, suc, ◌*◌, ◌/◌, ◌<◌, ◌≤◌, inl, inr, Bool, true, false, not, ◌&&◌, ◌==◌, List, [], ◌∷◌, ◌++◌, map, length, refl, sym, ap, ◌∙◌, subst, append_assoc, length-append, arith}
use Rattle.std.proofs.lemmas.Bool.{cases_Bool, cases_eq, both_ways, true≢false, eq-eqb, ne_eqb, eqb-true, and_parts, and_from, not_from_false}
use Rattle.permutations.specs.Members.{is_member, is_distinct}
use Rattle.permutations.specs.Count.{count}
use Rattle.permutations.specs.Cyclic.{last_or}
use Rattle.permutations.specs.Exchange.{restricted}
use Rattle.permutations.proofs.Count.{count-remove, count-none, count-zero}
use Rattle.permutations.proofs.Search.{some-witness, some-from}
use Rattle.permutations.proofs.Members.{member-head, member-tail, member-cases, member-append_left, member-append_right, member-append_cases, cut_at}
use Rattle.permutations.proofs.Mapped.{member-map, map-member}
use Rattle.permutations.proofs.Restriction.{restricted-permutes, restricted-goes, restricted-alone, restricted-orbit}
use Rattle.permutations.proofs.Arrangements.{all-member}
use Rattle.dart_maps.specs.Map.{twin}
use Rattle.dart_maps.proofs.Darts.{twin-twin, twin-below, twin-cases, twin-edge}
use Rattle.dart_maps.proofs.Plane.{restricted-plane}
use Rattle.multigraph.specs.Graph.{Multigraph, IsGraph, edge_count, ends_of}
use Rattle.multigraph.proofs.DartEnds.{tail-even, tail-odd}
use Rattle.faces.specs.Euler.{tail, dart_count}
use Rattle.drawn_maps.specs.Drawn.{IsDrawn}
use Rattle.triangulations.specs.Triangulation.{IsTriangulated}
use Rattle.canonical_orders.specs.Contours.{stays_dart, IsContour}
use Rattle.canonical_orders.specs.Free.{is_adjacent, on_contour, IsFree, IsFreeAt}
use Rattle.canonical_orders.proofs.ChordLists.{successive-before, successive-at, around-closed, last-append, last-cut_rest, values-apart}
use Rattle.canonical_orders.proofs.Chords.{IsKeptMap, IsKept, FaceStep, step-tail}
use Rattle.canonical_orders.proofs.ChordSearch.{IsRound, StaysWithin, HasNoChord, round-turn, between-free}

-- two numbers that pass, and no others
count-two : (n : ℕ) (p : ℕ → Bool) (a b : ℕ) → a < n → b < n → a ≢ b → p a ≡ true → p b ≡ true → ((x : ℕ) → x < n → p x ≡ true → (x ≡ a) ⊎ (x ≡ b)) → count n p ≡ 2
count-two n p a b l k d h i only = omega (
  arith,
  count-remove n p a l h,
  count-remove n (λ x. p x && not (x == a)) b k (and_from (p b) (not (b == a)) i (not_from_false (b == a) (ne_eqb b a (λ e. d (sym e))))),
  count-none n (λ x. (p x && not (x == a)) && not (x == b)) (λ x j. neither x (only x j)),
)
  where
    neither : (x : ℕ) → (p x ≡ true → (x ≡ a) ⊎ (x ≡ b)) → ((p x && not (x == a)) && not (x == b)) ≡ false
    neither x w = elim (cases_Bool (p x)) [
      | inl t ↦ elim (w t) [ inl e ↦ grind (arith, eq-eqb x a e) | inr e ↦ grind (arith, eq-eqb x b e) ]
      | inr t ↦ grind (arith, t)
    ]

-- where two pass, they are any two that do
two-only : (n : ℕ) (p : ℕ → Bool) (a b : ℕ) → a < n → b < n → a ≢ b → p a ≡ true → p b ≡ true → count n p ≡ 2 → (x : ℕ) → x < n → p x ≡ true → (x ≡ a) ⊎ (x ≡ b)
two-only n p a b l k d h i two x j t = elim (cases_eq x a) [
  | inl e ↦ inl e
  | inr c ↦ elim (cases_eq x b) [
    | inl e ↦ inr e
    | inr o ↦ absurd (both_ways ((p x && not (x == a)) && not (x == b)) (count-zero n (λ z. (p z && not (z == a)) && not (z == b)) none x j)
        (and_from (p x && not (x == a)) (not (x == b)) (and_from (p x) (not (x == a)) t (not_from_false (x == a) (ne_eqb x a c))) (not_from_false (x == b) (ne_eqb x b o))))
  ]
]
  where
    none : count n (λ z. (p z && not (z == a)) && not (z == b)) ≡ 0
    none = omega (
      arith,
      two,
      count-remove n p a l h,
      count-remove n (λ z. p z && not (z == a)) b k (and_from (p b) (not (b == a)) i (not_from_false (b == a) (ne_eqb b a (λ e. d (sym e))))),
    )

-- no dart leads back to its own vertex
pub dart-loopless : (m : ℕ) (h : Multigraph) → IsGraph h → edge_count h ≡ m → (d : ℕ) → d < 2 * m → tail h d ≢ tail h (twin d)
dart-loopless m h ok e d l q = elim (twin-cases d) [
  | inl a ↦ ok.no_loop (d / 2) below (sym (tail-even h d a.0) ∙ q ∙ tail-odd h (twin d) (λ z. omega (arith, a.0, a.1, z)) ∙ ap (λ k. (ends_of h k).1) (twin-edge d))
  | inr a ↦ ok.no_loop (d / 2) below (sym (ap (λ k. (ends_of h k).0) (twin-edge d)) ∙ sym (tail-even h (twin d) (omega (arith, a.0, a.1))) ∙ sym q ∙ tail-odd h d (λ z. omega (arith, a.0, z)))
]
  where
    below : d / 2 < edge_count h
    below = omega (arith, e, l)

-- the darts that stay of a map that draws a graph
pub drawn-kept : (m : ℕ) (h : Multigraph) (next previous : ℕ → ℕ) (stays : ℕ → Bool) → IsDrawn m h next previous
    → IsKeptMap m (restricted (2 * m) (stays_dart h stays) next) (restricted (2 * m) (stays_dart h stays) previous) (stays_dart h stays) (tail h)
drawn-kept m h next previous stays w = record {
  map = restricted-permutes (2 * m) (stays_dart h stays) next previous w.map;
  plane = restricted-plane m next previous w.map w.plane (stays_dart h stays);
  twins = λ d. ap (λ z. stays (tail h (twin d)) && stays (tail h z)) (twin-twin d) ∙ grind (arith, cases_Bool (stays (tail h d)), cases_Bool (stays (tail h (twin d))));
  stays = λ d l k. (restricted-goes (2 * m) (stays_dart h stays) next previous w.map d l k).2;
  alone = λ d k. restricted-alone (2 * m) (stays_dart h stays) next d k;
  told = λ c d l j k i. restricted-orbit (2 * m) (stays_dart h stays) next previous w.map c d k i ∙ w.told c d l j;
}

-- a contour that begins with the base, as a cyclic list
pub contour-round : (m : ℕ) (h : Multigraph) (next : ℕ → ℕ) (base : ℕ) (stays : ℕ → Bool) (rest : List ℕ) → IsContour m h next base stays (base ∷ rest)
    → IsRound m (restricted (2 * m) (stays_dart h stays) next) (stays_dart h stays) (tail h) (on_contour h (base ∷ rest)) (base ∷ rest)
contour-round m h next base stays rest c = record {
  around = around-closed (FaceStep (restricted (2 * m) (stays_dart h stays) next)) base rest c.along c.around;
  darts = λ x. all-member (λ d. (d < 2 * m) × (stays_dart h stays d ≡ true)) (base ∷ rest) x c.darts;
  once = c.once;
  all = λ x. refl;
}

-- a vertex of a contour stays
pub contour-stays : (m : ℕ) (h : Multigraph) (next : ℕ → ℕ) (base : ℕ) (stays : ℕ → Bool) (contour : List ℕ) → IsContour m h next base stays contour → (x : ℕ) → on_contour h contour x ≡ true → stays x ≡ true
contour-stays m h next base stays contour c x o =
    let w = map-member (tail h) contour x o in
    let d = all-member (λ d. (d < 2 * m) × (stays_dart h stays d ≡ true)) contour w.0 c.darts w.1 in
    ap stays (sym w.2) ∙ (and_parts (stays (tail h w.0)) (stays (tail h (twin w.0))) d.1).0

-- the head of a dart is a neighbour of its tail
pub dart-adjacent : (m : ℕ) (h : Multigraph) → edge_count h ≡ m → (d : ℕ) → d < 2 * m → (v w : ℕ) → tail h d ≡ v → tail h (twin d) ≡ w → is_adjacent h v w ≡ true
dart-adjacent m h e d l v w i j = some-from (dart_count h) (λ z. (tail h z == v) && (tail h (twin z) == w)) d (omega (arith, e, l)) (and_from (tail h d == v) (tail h (twin d) == w) (eq-eqb (tail h d) v i) (eq-eqb (tail h (twin d)) w j))

-- and neighbours are joined by a dart
pub adjacent-dart : (m : ℕ) (h : Multigraph) → edge_count h ≡ m → (v w : ℕ) → is_adjacent h v w ≡ true → (d : ℕ) × (d < 2 * m) × (tail h d ≡ v) × (tail h (twin d) ≡ w)
adjacent-dart m h e v w a =
    let s = some-witness (dart_count h) (λ z. (tail h z == v) && (tail h (twin z) == w)) a in
    let b = and_parts (tail h s.0 == v) (tail h (twin s.0) == w) s.2 in
    (s.0, omega (arith, e, s.1), eqb-true (tail h s.0) v b.0, eqb-true (tail h (twin s.0)) w b.1)

-- a dart of the contour without a chord leaves a free vertex
no-chord-free : (m : ℕ) (h : Multigraph) (next previous : ℕ → ℕ) (base : ℕ) (stays : ℕ → Bool) → IsDrawn m h next previous → (mid : List ℕ) (v : ℕ) → tail h v ≡ tail h (twin base)
    → is_distinct (map (tail h) (base ∷ (mid ++ v ∷ []))) ≡ true
    → (c : HasNoChord m (restricted (2 * m) (stays_dart h stays) next) (stays_dart h stays) (tail h) (on_contour h (base ∷ (mid ++ v ∷ []))) mid)
    → IsFree h base (base ∷ (mid ++ v ∷ [])) (tail h c.x)
no-chord-free m h next previous base stays drawn mid v last once c = record {
  on = member-map (tail h) (base ∷ (mid ++ v ∷ [])) c.x (member-tail c.x base (mid ++ v ∷ []) (member-append_left c.x mid (v ∷ []) c.member));
  not_first = λ e. values-apart (tail h) (base ∷ []) (mid ++ v ∷ []) once base c.x (member-head base []) (member-append_left c.x mid (v ∷ []) c.member) (sym e);
  not_last = λ e. values-apart (tail h) (base ∷ mid) (v ∷ []) once c.x v (member-tail c.x base mid c.member) (member-head v []) (e ∙ sym last);
  two = count-two h.vertex_count (λ z. on_contour h (base ∷ (mid ++ v ∷ [])) z && is_adjacent h (tail h c.x) z) (tail h (twin c.x)) (tail h c.y)
      (drawn.inside (twin c.x) (twin-below m c.x c.first.0)) (drawn.inside c.y c.second.0) c.apart
      (and_from (on_contour h (base ∷ (mid ++ v ∷ [])) (tail h (twin c.x))) (is_adjacent h (tail h c.x) (tail h (twin c.x))) c.left (dart-adjacent m h drawn.edges c.x c.first.0 (tail h c.x) (tail h (twin c.x)) refl refl))
      (and_from (on_contour h (base ∷ (mid ++ v ∷ [])) (tail h c.y)) (is_adjacent h (tail h c.x) (tail h c.y)) c.right
      (dart-adjacent m h drawn.edges (twin c.y) (twin-below m c.y c.second.0) (tail h c.x) (tail h c.y) c.meets (ap (tail h) (twin-twin c.y))))
      (λ z l t. let a = and_parts (on_contour h (base ∷ (mid ++ v ∷ [])) z) (is_adjacent h (tail h c.x) z) t in at_dart z a.0 (adjacent-dart m h drawn.edges (tail h c.x) z a.1));
}
  where
    at_dart : (z : ℕ) → on_contour h (base ∷ (mid ++ v ∷ [])) z ≡ true → ((d : ℕ) × (d < 2 * m) × (tail h d ≡ tail h c.x) × (tail h (twin d) ≡ z)) → (z ≡ tail h (twin c.x)) ⊎ (z ≡ tail h c.y)
    at_dart z o d = elim (c.only d.0 d.1 d.2 (ap (on_contour h (base ∷ (mid ++ v ∷ []))) d.3 ∙ o)) [
      | inl e ↦ inl (sym d.3 ∙ e)
      | inr e ↦ inr (sym d.3 ∙ e)
    ]

-- the darts of vertices between the two ends of the base lead to these, to the ends, or to none of the contour
within-contour : (m : ℕ) (t : ℕ → ℕ) (base : ℕ) (mid : List ℕ) (v : ℕ) → StaysWithin m t (λ x. is_member x (map t (base ∷ (mid ++ v ∷ [])))) mid v base
within-contour m t base mid v d l n o = elim (member-cases (t (twin d)) (t base) (map t (mid ++ v ∷ [])) o) [
  | inl e ↦ inr (inr (sym e))
  | inr a ↦ let w = map-member t (mid ++ v ∷ []) (t (twin d)) a in
      elim (member-append_cases w.0 mid (v ∷ []) w.1) [
        | inl q ↦ inl (subst (λ (x : ℕ). is_member x (map t mid) ≡ true) w.2 (member-map t mid w.0 q))
        | inr q ↦ elim (member-cases w.0 v [] q) [
          | inl e ↦ inr (inl (sym w.2 ∙ ap t (sym e)))
          | inr e ↦ absurd (true≢false (sym e))
        ]
      ]
]

-- a contour with some vertex between the ends of the base has a free vertex
between-ends : (m : ℕ) (h : Multigraph) (next previous : ℕ → ℕ) (base : ℕ) (stays : ℕ → Bool) (mid : List ℕ) (v : ℕ) → IsTriangulated m h next previous
    → IsContour m h next base stays (base ∷ (mid ++ v ∷ [])) → tail h v ≡ tail h (twin base) → 0 < length mid
    → (w : ℕ) × IsFree h base (base ∷ (mid ++ v ∷ [])) w
between-ends m h next previous base stays mid v tri c last n = (tail h found.x, no-chord-free m h next previous base stays tri.map.drawn mid v last c.once found)
  where
    round : IsRound m (restricted (2 * m) (stays_dart h stays) next) (stays_dart h stays) (tail h) (on_contour h (base ∷ (mid ++ v ∷ []))) (mid ++ v ∷ ([] ++ base ∷ []))
    round = subst (IsRound m (restricted (2 * m) (stays_dart h stays) next) (stays_dart h stays) (tail h) (on_contour h (base ∷ (mid ++ v ∷ [])))) (append_assoc mid (v ∷ []) (base ∷ []))
        (round-turn m (restricted (2 * m) (stays_dart h stays) next) (stays_dart h stays) (tail h) (on_contour h (base ∷ (mid ++ v ∷ []))) base (mid ++ v ∷ []) (contour-round m h next base stays (mid ++ v ∷ []) c))

    both : (d : ℕ) → d < 2 * m → on_contour h (base ∷ (mid ++ v ∷ [])) (tail h d) ≡ true → on_contour h (base ∷ (mid ++ v ∷ [])) (tail h (twin d)) ≡ true → stays_dart h stays d ≡ true
    both d l a b = and_from (stays (tail h d)) (stays (tail h (twin d))) (contour-stays m h next base stays (base ∷ (mid ++ v ∷ [])) c (tail h d) a) (contour-stays m h next base stays (base ∷ (mid ++ v ∷ [])) c (tail h (twin d)) b)

    found : HasNoChord m (restricted (2 * m) (stays_dart h stays) next) (stays_dart h stays) (tail h) (on_contour h (base ∷ (mid ++ v ∷ []))) mid
    found = between-free m (restricted (2 * m) (stays_dart h stays) next) (restricted (2 * m) (stays_dart h stays) previous) (stays_dart h stays) (tail h)
        (drawn-kept m h next previous stays tri.map.drawn) (on_contour h (base ∷ (mid ++ v ∷ []))) (dart-loopless m h tri.map.graph tri.map.drawn.edges) both
        (suc (length mid)) mid v [] base (omega arith) n round (within-contour m (tail h) base mid v)

-- a contour of three vertices or more has a free vertex
pub free-vertex : (m : ℕ) (h : Multigraph) (next previous : ℕ → ℕ) (base : ℕ) (stays : ℕ → Bool) (contour : List ℕ) → IsTriangulated m h next previous → base < 2 * m
    → IsContour m h next base stays contour → 3 ≤ length contour → (w : ℕ) × IsFree h base contour w
free-vertex m h next previous base stays contour tri l c n = subst (λ (k : List ℕ). (w : ℕ) × IsFree h base k w) (sym c.begins)
    (at c.rest (subst (IsContour m h next base stays) c.begins c) (subst (λ (k : List ℕ). 3 ≤ length k) c.begins n))
  where
    at : (rest : List ℕ) → IsContour m h next base stays (base ∷ rest) → 3 ≤ length (base ∷ rest) → (w : ℕ) × IsFree h base (base ∷ rest) w
    at [] d k = absurd (omega (arith, k))
    at (b ∷ rest) d k =
        let w = last-cut_rest base b rest in
        let size : length (b ∷ rest) ≡ length (w.0 ++ last_or base (base ∷ b ∷ rest) ∷ []) = ap length w.1 in
        subst (λ (z : List ℕ). (w : ℕ) × IsFree h base (base ∷ z) w) (sym w.1)
        (between-ends m h next previous base stays w.0 (last_or base (base ∷ b ∷ rest)) tri (subst (λ (z : List ℕ). IsContour m h next base stays (base ∷ z)) w.1 d) d.closes
        (omega (arith, k, size, length-append w.0 (last_or base (base ∷ b ∷ rest) ∷ []))))

-- the darts from a free vertex to the contour lead to its two neighbours there
pub free-at : (m : ℕ) (h : Multigraph) (next previous : ℕ → ℕ) (base : ℕ) (stays : ℕ → Bool) (contour : List ℕ) → IsTriangulated m h next previous → base < 2 * m
    → IsContour m h next base stays contour → (w : ℕ) → IsFree h base contour w → IsFreeAt m h contour w
free-at m h next previous base stays contour tri l c w free = subst (λ (k : List ℕ). IsFreeAt m h k w) (sym c.begins)
    (at c.rest (subst (IsContour m h next base stays) c.begins c) (subst (λ (k : List ℕ). IsFree h base k w) c.begins free))
  where
    -- cut at its dart to the left
    cut : (front : List ℕ) (x : ℕ) (back : List ℕ) → tail h x ≡ w → IsContour m h next base stays (base ∷ (front ++ x ∷ back)) → IsFree h base (base ∷ (front ++ x ∷ back)) w → IsFreeAt m h (base ∷ (front ++ x ∷ back)) w
    cut front x [] e d o = absurd (o.not_last (sym e ∙ ap (tail h) (sym (last-append base (base ∷ front) x)) ∙ d.closes))
    cut front x (y ∷ back) e d o = record {
      first = base;
      front = front;
      x = x;
      y = y;
      back = back;
      cut = refl;
      leaves = e;
      only = λ a i j k. elim (two-only h.vertex_count (λ z. on_contour h whole z && is_adjacent h w z) (tail h (twin x)) (tail h y)
          (tri.map.drawn.inside (twin x) (twin-below m x first.0)) (tri.map.drawn.inside y second.0)
          (λ q. values-apart (tail h) (base ∷ front) (x ∷ y ∷ back) d.once left.0 y left.1 (member-tail y x (y ∷ back) (member-head y back)) (sym left_is ∙ q))
          (and_from (on_contour h whole (tail h (twin x))) (is_adjacent h w (tail h (twin x))) (ap (on_contour h whole) left_is ∙ member-map (tail h) whole left.0 (member-append_left left.0 (base ∷ front) (x ∷ y ∷ back) left.1)) (dart-adjacent m h tri.map.drawn.edges x first.0 w (tail h (twin x)) e refl))
          (and_from (on_contour h whole (tail h y)) (is_adjacent h w (tail h y)) (member-map (tail h) whole y y_member) (dart-adjacent m h tri.map.drawn.edges (twin y) (twin-below m y second.0) w (tail h y) right_is (ap (tail h) (twin-twin y))))
          o.two (tail h (twin a)) (tri.map.drawn.inside (twin a) (twin-below m a i))
          (and_from (on_contour h whole (tail h (twin a))) (is_adjacent h w (tail h (twin a))) k (dart-adjacent m h tri.map.drawn.edges a i w (tail h (twin a)) j refl))) [
            | inl q ↦ inl (tri.map.simple a x i first.0 (j ∙ sym e) q)
            | inr q ↦ inr (tri.map.simple a (twin y) i (twin-below m y second.0) (j ∙ sym right_is) (q ∙ ap (tail h) (sym (twin-twin y))))
          ];
    }
      where
        whole : List ℕ
        whole = base ∷ (front ++ x ∷ y ∷ back)

        round : IsRound m (restricted (2 * m) (stays_dart h stays) next) (stays_dart h stays) (tail h) (on_contour h (base ∷ (front ++ x ∷ y ∷ back))) (base ∷ (front ++ x ∷ y ∷ back))
        round = contour-round m h next base stays (front ++ x ∷ y ∷ back) d

        kept : IsKeptMap m (restricted (2 * m) (stays_dart h stays) next) (restricted (2 * m) (stays_dart h stays) previous) (stays_dart h stays) (tail h)
        kept = drawn-kept m h next previous stays tri.map.drawn

        y_member : is_member y (base ∷ (front ++ x ∷ y ∷ back)) ≡ true
        y_member = member-append_right y (base ∷ front) (x ∷ y ∷ back) (member-tail y x (y ∷ back) (member-head y back))

        first : IsKept m (stays_dart h stays) x
        first = round.darts x (member-append_right x (base ∷ front) (x ∷ y ∷ back) (member-head x (y ∷ back)))

        second : IsKept m (stays_dart h stays) y
        second = round.darts y y_member

        left : (z : ℕ) × (is_member z (base ∷ front) ≡ true) × FaceStep (restricted (2 * m) (stays_dart h stays) next) z x
        left = successive-before (FaceStep (restricted (2 * m) (stays_dart h stays) next)) base front x (y ∷ back) d.along

        left_is : tail h (twin x) ≡ tail h left.0
        left_is = step-tail m (restricted (2 * m) (stays_dart h stays) next) (restricted (2 * m) (stays_dart h stays) previous) (stays_dart h stays) (tail h) kept left.0 x first left.2

        right_is : tail h (twin y) ≡ w
        right_is = step-tail m (restricted (2 * m) (stays_dart h stays) next) (restricted (2 * m) (stays_dart h stays) previous) (stays_dart h stays) (tail h) kept x y second
            (successive-at (FaceStep (restricted (2 * m) (stays_dart h stays) next)) (base ∷ front) x y back d.along) ∙ e

    at : (rest : List ℕ) → IsContour m h next base stays (base ∷ rest) → IsFree h base (base ∷ rest) w → IsFreeAt m h (base ∷ rest) w
    at rest d o =
        let p = map-member (tail h) (base ∷ rest) w o.on in
        elim (member-cases p.0 base rest p.1) [
          | inl e ↦ absurd (o.not_first (sym p.2 ∙ ap (tail h) (sym e)))
          | inr n ↦ let k = cut_at p.0 rest n in
              subst (λ (z : List ℕ). IsFreeAt m h (base ∷ z) w) (sym k.is)
              (cut k.front p.0 k.back p.2 (subst (λ (z : List ℕ). IsContour m h next base stays (base ∷ z)) k.is d) (subst (λ (z : List ℕ). IsFree h base (base ∷ z) w) k.is o))
        ]
