-- An edge is added that cuts a triangle off a face: the map stays simple, and the other faces stay.
use Rattle.std.proofs.Common.{◌≡◌, ◌≢◌, ℕ, suc, ◌+◌, ◌*◌, ◌<◌, ◌≤◌, ◌⊎◌, inl, inr, Bool, true, false, not, ◌||◌, ◌==◌, ltb, List, [], ◌∷◌, ◌++◌, length, sym, ap, ◌∙◌, subst, arith}
use Rattle.std.specs.List.{Contains}
use Rattle.std.proofs.lemmas.Bool.{cases_eq, both_ways, eq-eqb, eqb-true, lt-ltb, le-ltb, ltb-true, or_cases, or_left, or_right, and_parts, not-true}
use Rattle.std.proofs.lemmas.List.{append_assoc, length-append}
use Rattle.std.proofs.lemmas.List.Elements.{All-weaker, All-contains_itself, Contains-append_left}
use Rattle.permutations.specs.Permutation.{Permutes, iterate}
use Rattle.permutations.specs.Relation.{connected}
use Rattle.permutations.specs.Exchange.{restricted}
use Rattle.permutations.proofs.Relation.{connected-link, connected-subset}
use Rattle.permutations.proofs.Permutations.{exchange-right}
use Rattle.permutations.proofs.Orbits.{orbit-equivalence, orbit-step, orbit-kept, orbit-ext}
use Rattle.permutations.proofs.Iterates.{iterate-ext}
use Rattle.permutations.proofs.Restriction.{goes-restricted, restricted-goes, restricted-next, restricted-permutes, restricted-twice}
use Rattle.dart_maps.specs.Map.{twin, face, IsMap, same_face}
use Rattle.dart_maps.proofs.Darts.{twin-twin, twin-below, twin-back, face-permutes, face-twin}
use Rattle.dart_maps.proofs.Euler.{plane-ext}
use Rattle.multigraph.specs.Graph.{Multigraph, IsGraph, edge_count}
use Rattle.graph_theory.specs.Connected.{IsConnected}
use Rattle.faces.specs.Euler.{tail, dart_count}
use Rattle.faces.proofs.DartLemmas.{tail-first, tail-second}
use Rattle.drawn_maps.specs.Drawn.{IsDrawn, with_edge, hung, joined}
use Rattle.drawn_maps.proofs.Drawn.{dart-cases, twin-last, tail-old, tail-new, tail-new_second, hung-old, joined-second_corner, joined-corner, joined-first, joined-old, joined_back, cross}
use Rattle.triangulations.specs.Triangulation.{IsSimpleMap, Extends}
use Rattle.triangulations.specs.Cutting.{is_triangle, are_joined, second_head, can_cut, cut_graph, cut_next}
use Rattle.triangulations.proofs.SimpleMaps.{twin-in, next-in, face-in, tail-previous, no-loop, face-one, face-moves, joined-from}

-- maps that agree on all darts draw the same graphs
pub drawn-same : (m : ℕ) (h : Multigraph) (f b f' b' : ℕ → ℕ) → IsDrawn m h f b → ((d : ℕ) → d < 2 * m → f' d ≡ f d) → IsMap m f' b' → IsDrawn m h f' b'
drawn-same m h f b f' b' drawn same map = record {
  edges = drawn.edges;
  map = map;
  plane = plane-ext m f f' (λ d l. sym (same d l)) drawn.plane;
  told = λ c d l k. orbit-ext (2 * m) f' f same c d ∙ drawn.told c d l k;
  inside = drawn.inside;
}

-- a permutation of more numbers that goes on from each below n to the next below n like f: so do its restrictions
module _ (n more : ℕ) (le : n ≤ more) (f g : ℕ → ℕ) (b : Permutes n f g) (f' g' : ℕ → ℕ) (b' : Permutes more f' g') (same : (x : ℕ) → x < n → restricted more (λ z. ltb z n) f' x ≡ f x) (keep : ℕ → Bool) (few : (z : ℕ) → keep z ≡ true → z < n) where
  pub restriction-same : (x : ℕ) → keep x ≡ true → restricted more keep f' x ≡ restricted n keep f x
  restriction-same x k =
      let l = few x k in
      let old : ℕ → Bool = λ z. ltb z n in
      let w = restricted-goes n keep f g b x l k in
      let i : (j : ℕ) → iterate f j x ≡ iterate (restricted more old f') j x = λ j. (iterate-ext n f (restricted more old f') b.forth (λ z u. sym (same z u)) j x l).0 in
      sym (restricted-twice more old keep f' g' b' (λ z t. lt-ltb z n (few z t)) x (omega (arith, l, le)))
      ∙ goes-restricted more keep (restricted more old f') (restricted more old g') (restricted-permutes more old f' g' b') x (omega (arith, l, le)) k (restricted n keep f x)
      (w.0, w.1 ∙ i (suc w.0), w.2, λ j u. ap keep (sym (i (suc j))) ∙ w.3 j u)

module _ (m : ℕ) (h : Multigraph) (next previous : ℕ → ℕ) (s : IsSimpleMap m h next previous) (d : ℕ) (ld : d < 2 * m) (can : can_cut h next d ≡ true) where
  -- the next dart along the face, the dart before d at its vertex, and the one before the third along the face
  abbrev e : ℕ
  e = face next d

  abbrev p : ℕ
  p = previous d

  abbrev q : ℕ
  q = twin (face next d)

  abbrev cut : Multigraph
  cut = cut_graph h next d

  le : face next d < 2 * m
  le = face-in m h next previous s d ld

  lp : previous d < 2 * m
  lp = s.drawn.map.back d ld

  lq : twin (face next d) < 2 * m
  lq = twin-in m h next previous s (face next d) le

  wide : (c : ℕ) → c < 2 * m → c < 2 * (m + 1)
  wide c l = omega (arith, l)

  -- the ends of the new edge differ
  az : tail h d ≢ tail h (twin (face next d))
  az i = both_ways (tail h d == second_head h next d) (not-true (tail h d == second_head h next d) (and_parts (not (tail h d == second_head h next d)) (not (are_joined h (tail h d) (second_head h next d))) can).0) (eq-eqb (tail h d) (second_head h next d) i)

  -- and were not joined
  parted : are_joined h (tail h d) (second_head h next d) ≡ true → ⊥
  parted = both_ways (are_joined h (tail h d) (second_head h next d)) (not-true (are_joined h (tail h d) (second_head h next d)) (and_parts (not (tail h d == second_head h next d)) (not (are_joined h (tail h d) (second_head h next d))) can).1)

  pd : next p ≡ d
  pd = s.drawn.map.forth_back d ld

  pub pq : previous d ≢ twin (face next d)
  pq i = az (sym (tail-previous m h next previous s d ld) ∙ ap (tail h) i)

  -- the two corners are in one face
  one-face : same_face m next (twin p) (twin q) ≡ true
  one-face = let r = orbit-equivalence (2 * m) (face next) in
      let ltp : twin p < 2 * m = twin-below m p lp in
      r.transitive (twin p) d (twin q) (subst (λ z. same_face m next (twin p) z ≡ true) (face-twin next p ∙ pd) (orbit-step (2 * m) (face next) (twin p) ltp))
      (subst (λ z. same_face m next d z ≡ true) (sym (twin-twin e)) (orbit-step (2 * m) (face next) d ld))

  -- the map with the edge is one
  pub cut-permutes : IsMap (m + 1) (cut_next m next previous d) (joined_back m (previous d) (twin (face next d)) previous)
  cut-permutes = (cross m h next previous s.drawn p lp q lq one-face).map

  -- a function with its values follows the darts like it
  pub made-from : (f : ℕ → ℕ) → f (previous d) ≡ 2 * m → f (twin (face next d)) ≡ 2 * m + 1 → f (2 * m) ≡ d → f (2 * m + 1) ≡ next (twin (face next d))
      → ((c : ℕ) → c < 2 * m → c ≢ previous d → c ≢ twin (face next d) → f c ≡ next c) → (c : ℕ) → c < 2 * (m + 1) → f c ≡ cut_next m next previous d c
  made-from f fp fq f1 f2 fo c l = elim (dart-cases m c l) [
    | inl u ↦ elim (cases_eq c p) [
      | inl i ↦ ap f i ∙ fp ∙ sym (ap (cut_next m next previous d) i ∙ joined-corner m h next previous s.drawn p lp q lq one-face pq)
      | inr i ↦ elim (cases_eq c q) [
        | inl j ↦ ap f j ∙ fq ∙ sym (ap (cut_next m next previous d) j ∙ joined-second_corner m h next previous s.drawn p lp q lq one-face)
        | inr j ↦ fo c u i j ∙ sym (joined-old m h next previous s.drawn p lp q lq one-face c u i j)
      ]
    ]
    | inr u ↦ elim u [
      | inl i ↦ ap f i ∙ f1 ∙ sym (ap (cut_next m next previous d) i ∙ joined-first m h next previous s.drawn p lp q lq one-face ∙ pd)
      | inr i ↦ ap f i ∙ f2 ∙ sym (ap (cut_next m next previous d) i ∙ exchange-right q (2 * m + 1) (hung m p next) ∙ hung-old m h next previous s.drawn p lp q lq (λ k. pq (sym k)))
    ]
  ]

  module _ (after back : ℕ → ℕ) (made : (c : ℕ) → c < 2 * (m + 1) → after c ≡ cut_next m next previous d c) (map : IsMap (m + 1) after back) where
    -- what follows the darts now
    pub after-p : after (previous d) ≡ 2 * m
    after-p = made p (wide p lp) ∙ joined-corner m h next previous s.drawn p lp q lq one-face pq

    pub after-q : after (twin (face next d)) ≡ 2 * m + 1
    after-q = made q (wide q lq) ∙ joined-second_corner m h next previous s.drawn p lp q lq one-face

    pub after-first : after (2 * m) ≡ d
    after-first = made (2 * m) (omega arith) ∙ joined-first m h next previous s.drawn p lp q lq one-face ∙ pd

    pub after-second : after (2 * m + 1) ≡ next (twin (face next d))
    after-second = made (2 * m + 1) (omega arith) ∙ exchange-right q (2 * m + 1) (hung m p next) ∙ hung-old m h next previous s.drawn p lp q lq (λ i. pq (sym i))

    pub after-old : (c : ℕ) → c < 2 * m → c ≢ previous d → c ≢ twin (face next d) → after c ≡ next c
    after-old c l i j = made c (wide c l) ∙ joined-old m h next previous s.drawn p lp q lq one-face c l i j

    -- the graph with the edge is drawn
    cut-drawn : IsDrawn (m + 1) cut after back
    cut-drawn = drawn-same (m + 1) cut (joined m p q next) (joined_back m p q previous) after back
        (subst (λ (g : Multigraph). IsDrawn (m + 1) g (joined m p q next) (joined_back m p q previous)) (ap (λ v. with_edge h h.vertex_count (v, tail h q)) (tail-previous m h next previous s d ld))
        (cross m h next previous s.drawn p lp q lq one-face)) made map

    old-tail : (c : ℕ) → c < 2 * m → tail cut c ≡ tail h c
    old-tail = tail-old m h h.vertex_count (tail h d, tail h q) s.drawn.edges

    old-head : (c : ℕ) → c < 2 * m → tail cut (twin c) ≡ tail h (twin c)
    old-head c l = old-tail (twin c) (twin-below m c l)

    first-tail : tail cut (2 * m) ≡ tail h d
    first-tail = tail-new m h h.vertex_count (tail h d, tail h q) s.drawn.edges

    second-tail : tail cut (2 * m + 1) ≡ tail h q
    second-tail = tail-new_second m h h.vertex_count (tail h d, tail h q) s.drawn.edges

    first-head : tail cut (twin (2 * m)) ≡ tail h q
    first-head = ap (tail cut) (twin-last m) ∙ second-tail

    twin-second : twin (2 * m + 1) ≡ 2 * m
    twin-second = sym (twin-back (2 * m) (2 * m + 1) (twin-last m))

    second-head : tail cut (twin (2 * m + 1)) ≡ tail h d
    second-head = ap (tail cut) twin-second ∙ first-tail

    -- no old dart has the ends of a new one
    not-first : (c : ℕ) → c < 2 * m → tail cut c ≡ tail cut (2 * m) → tail cut (twin c) ≡ tail cut (twin (2 * m)) → ⊥
    not-first c l i j = parted (joined-from m h next previous s c (tail h d) (tail h q) l (sym (old-tail c l) ∙ i ∙ first-tail) (sym (old-head c l) ∙ j ∙ first-head))

    not-second : (c : ℕ) → c < 2 * m → tail cut c ≡ tail cut (2 * m + 1) → tail cut (twin c) ≡ tail cut (twin (2 * m + 1)) → ⊥
    not-second c l i j = parted (joined-from m h next previous s (twin c) (tail h d) (tail h q) (twin-below m c l) (sym (old-head c l) ∙ j ∙ second-head) (ap (tail h) (twin-twin c) ∙ sym (old-tail c l) ∙ i ∙ second-tail))

    not-new : (c e : ℕ) → c < 2 * m → (e ≡ 2 * m) ⊎ (e ≡ 2 * m + 1) → tail cut c ≡ tail cut e → tail cut (twin c) ≡ tail cut (twin e) → ⊥
    not-new c e l w i j = elim w [
      | inl r ↦ not-first c l (i ∙ ap (tail cut) r) (j ∙ ap (λ z. tail cut (twin z)) r)
      | inr r ↦ not-second c l (i ∙ ap (tail cut) r) (j ∙ ap (λ z. tail cut (twin z)) r)
    ]

    both-new : (c e : ℕ) → (c ≡ 2 * m) ⊎ (c ≡ 2 * m + 1) → (e ≡ 2 * m) ⊎ (e ≡ 2 * m + 1) → tail cut c ≡ tail cut e → c ≡ e
    both-new c e w v i = elim w [
      | inl r ↦ elim v [ inl t ↦ r ∙ sym t | inr t ↦ absurd (az (sym first-tail ∙ ap (tail cut) (sym r) ∙ i ∙ ap (tail cut) t ∙ second-tail)) ]
      | inr r ↦ elim v [ inl t ↦ absurd (az (sym first-tail ∙ ap (tail cut) (sym t) ∙ sym i ∙ ap (tail cut) r ∙ second-tail)) | inr t ↦ r ∙ sym t ]
    ]

    cut-simple : (c e : ℕ) → c < 2 * (m + 1) → e < 2 * (m + 1) → tail cut c ≡ tail cut e → tail cut (twin c) ≡ tail cut (twin e) → c ≡ e
    cut-simple c e l k i j = elim (dart-cases m c l) [
      | inl u ↦ elim (dart-cases m e k) [
        | inl v ↦ s.simple c e u v (sym (old-tail c u) ∙ i ∙ old-tail e v) (sym (old-head c u) ∙ j ∙ old-head e v)
        | inr v ↦ absurd (not-new c e u v i j)
      ]
      | inr u ↦ elim (dart-cases m e k) [
        | inl v ↦ absurd (not-new e c v u (sym i) (sym j))
        | inr v ↦ both-new c e u v i
      ]
    ]

    -- an edge leads to another vertex than it leaves
    cut-loop : (c : ℕ) → c < 2 * (m + 1) → tail cut c ≡ tail cut (twin c) → ⊥
    cut-loop c l i = elim (dart-cases m c l) [
      | inl u ↦ no-loop m h next previous s c u (sym (old-tail c u) ∙ i ∙ old-head c u)
      | inr u ↦ elim u [
        | inl r ↦ az (sym first-tail ∙ ap (tail cut) (sym r) ∙ i ∙ ap (λ z. tail cut (twin z)) r ∙ first-head)
        | inr r ↦ az (sym second-head ∙ ap (λ z. tail cut (twin z)) (sym r) ∙ sym i ∙ ap (tail cut) r ∙ second-tail)
      ]
    ]

    cut-is_graph : IsGraph cut
    cut-is_graph = record {
      first_in = λ k l. subst (λ z. z < h.vertex_count) (tail-first cut k) (cut-drawn.inside (2 * k) (below k l));
      second_in = λ k l. subst (λ z. z < h.vertex_count) (ap (tail cut) (twin-even-at k) ∙ tail-second cut k) (cut-drawn.inside (twin (2 * k)) (twin-below (m + 1) (2 * k) (below k l)));
      no_loop = λ k l i. cut-loop (2 * k) (below k l) (tail-first cut k ∙ i ∙ sym (ap (tail cut) (twin-even-at k) ∙ tail-second cut k));
    }
      where
        below : (k : ℕ) → k < edge_count cut → 2 * k < 2 * (m + 1)
        below k l = let c = cut-drawn.edges in omega (arith, l, c)

        twin-even-at : (k : ℕ) → twin (2 * k) ≡ 2 * k + 1
        twin-even-at k = twin-last k

    cut-connected : IsConnected cut
    cut-connected u v l k = connected-subset h.ends cut.ends
        (All-weaker (Contains h.ends) (λ link. connected cut.ends link.0 link.1 ≡ true) (λ link c. connected-link cut.ends link.0 link.1 (Contains-append_left h.ends ((tail h d, tail h q) ∷ []) link c)) h.ends (All-contains_itself h.ends))
        u v (s.connected u v l k)

    -- the map with the edge is simple
    pub cut-map : IsSimpleMap (m + 1) (cut_graph h next d) after back
    cut-map = record { drawn = cut-drawn; graph = cut-is_graph; connected = cut-connected; three = s.three; simple = cut-simple }

    -- around each vertex the old darts come as before
    old-order : (x : ℕ) → x < 2 * m → restricted (2 * (m + 1)) (λ z. ltb z (2 * m)) after x ≡ next x
    old-order x l = elim (cases_eq x p) [
      | inl i ↦ past x (2 * m) d l (ap after i ∙ after-p) (omega arith) after-first ld ∙ sym (ap next i ∙ pd)
      | inr i ↦ elim (cases_eq x q) [
        | inl j ↦ past x (2 * m + 1) (next q) l (ap after j ∙ after-q) (omega arith) after-second (next-in m h next previous s q lq) ∙ sym (ap next j)
        | inr j ↦ restricted-next (2 * (m + 1)) (λ z. ltb z (2 * m)) after back map x (wide x l) (lt-ltb x (2 * m) l) (lt-ltb (after x) (2 * m) (subst (λ z. z < 2 * m) (sym (after-old x l i j)) (next-in m h next previous s x l)))
            ∙ after-old x l i j
      ]
    ]
      where
        past : (x z y : ℕ) → x < 2 * m → after x ≡ z → 2 * m ≤ z → after z ≡ y → y < 2 * m → restricted (2 * (m + 1)) (λ w. ltb w (2 * m)) after x ≡ y
        past x z y lx i g j k = goes-restricted (2 * (m + 1)) (λ w. ltb w (2 * m)) after back map x (wide x lx) (lt-ltb x (2 * m) lx) y (
          1,
          sym (ap after i ∙ j),
          lt-ltb y (2 * m) k,
          λ n t. let zero' : n ≡ 0 = omega (arith, t) in subst (λ v. ltb (iterate after (suc v) x) (2 * m) ≡ false) (sym zero') (ap (λ v. ltb v (2 * m)) i ∙ le-ltb z (2 * m) g),
        )

    -- so the map extends what it extended
    pub cut-extends : (g : Multigraph) (r : List (List ℕ)) → Extends g r m h next → Extends g r (m + 1) (cut_graph h next d) after
    cut-extends g r x = record {
      more = x.more ++ (tail h d, tail h q) ∷ [];
      vertices = x.vertices;
      ends = ap (λ (l : List (ℕ × ℕ)). l ++ (tail h d, tail h q) ∷ []) x.ends ∙ append_assoc g.ends x.more ((tail h d, tail h q) ∷ []);
      orders = λ c l. restriction-same (2 * m) (2 * (m + 1)) (omega arith) next previous s.drawn.map after back map old-order (λ z. ltb z (dart_count g)) few c (lt-ltb c (dart_count g) l) ∙ x.orders c l;
    }
      where
        few : (z : ℕ) → ltb z (dart_count g) ≡ true → z < 2 * m
        few z t = let i = s.drawn.edges in let j = ap (λ (l : List (ℕ × ℕ)). length l) x.ends ∙ length-append g.ends x.more in omega (arith, ltb-true z (dart_count g) t, i, j)

    -- the steps along the faces
    step-old : (c : ℕ) → c < 2 * m → c ≢ twin (previous d) → c ≢ face next d → face after c ≡ face next c
    step-old c l i j = after-old (twin c) (twin-below m c l) (λ k. i (twin-back c p k)) (λ k. j (sym (twin-twin c) ∙ ap twin k ∙ twin-twin e))

    step-e : face after (face next d) ≡ 2 * m + 1
    step-e = after-q

    step-first : face after (2 * m) ≡ face next (face next d)
    step-first = ap after (twin-last m) ∙ after-second

    step-second : face after (2 * m + 1) ≡ d
    step-second = ap after twin-second ∙ after-first

    before-step : face next (twin (previous d)) ≡ d
    before-step = face-twin next p ∙ pd

    not-before : d ≢ twin (previous d)
    not-before i = face-moves m h next previous s d ld (ap (face next) i ∙ before-step)

    step-d : face after d ≡ face next d
    step-d = step-old d ld not-before (λ i. face-moves m h next previous s d ld (sym i))

    -- the triangle that is cut off
    pub triangle-d : is_triangle after d ≡ true
    triangle-d = eq-eqb (face after (face after (face after d))) d (ap (λ z. face after (face after z)) step-d ∙ ap (face after) step-e ∙ step-second)

    pub triangle-second : is_triangle after (2 * m + 1) ≡ true
    triangle-second = eq-eqb (face after (face after (face after (2 * m + 1)))) (2 * m + 1) (ap (λ z. face after (face after z)) step-second ∙ ap (face after) step-d ∙ step-e)

    -- while the face of d is no triangle
    module _ (long : is_triangle next d ≡ false) where
      triangle-step : (f : ℕ → ℕ) (c : ℕ) → is_triangle f c ≡ true → is_triangle f (face f c) ≡ true
      triangle-step f c t = eq-eqb (face f (face f (face f (face f c)))) (face f c) (ap (face f) (eqb-true (face f (face f (face f c))) c t))

      not-near : (c : ℕ) → is_triangle next c ≡ true → c ≢ twin (previous d)
      not-near c t i = both_ways (is_triangle next d) long (subst (λ z. is_triangle next z ≡ true) (ap (face next) i ∙ before-step) (triangle-step next c t))

      not-e : (c : ℕ) → is_triangle next c ≡ true → c ≢ face next d
      not-e c t i =
          let third : face next (face next (face next d)) < 2 * m = face-in m h next previous s (face next (face next d)) (face-in m h next previous s (face next d) le) in
          both_ways (is_triangle next d) long (eq-eqb (face next (face next (face next d))) d
          (face-one m h next previous s (face next (face next (face next d))) d third ld (eqb-true (face next (face next (face next e))) e (subst (λ z. is_triangle next z ≡ true) i t))))

      triangle-same : (c : ℕ) → c < 2 * m → is_triangle next c ≡ true → face after c ≡ face next c
      triangle-same c l t = step-old c l (not-near c t) (not-e c t)

      -- the triangles stay
      triangle-kept : (c : ℕ) → c < 2 * m → is_triangle next c ≡ true → is_triangle after c ≡ true
      triangle-kept c l t =
          let lc : face next c < 2 * m = face-in m h next previous s c l in
          let tc = triangle-step next c t in
          eq-eqb (face after (face after (face after c))) c (ap (λ z. face after (face after z)) (triangle-same c l t) ∙ ap (face after) (triangle-same (face next c) lc tc)
          ∙ triangle-same (face next (face next c)) (face-in m h next previous s (face next c) lc) (triangle-step next (face next c) tc) ∙ eqb-true (face next (face next (face next c))) c t)

      -- on a triangle, or on the face of the new edge's first dart
      abbrev near : ℕ → Bool
      near z = is_triangle after z || same_face (m + 1) after (2 * m) z

      near-d : near d ≡ true
      near-d = or_left (is_triangle after d) (same_face (m + 1) after (2 * m) d) triangle-d

      carried : (z : ℕ) → z < 2 * m → near z ≡ true → near (face next z) ≡ true
      carried z l t = elim (cases_eq z (twin p)) [
        | inl i ↦ subst (λ v. near v ≡ true) (sym (ap (face next) i ∙ before-step)) near-d
        | inr i ↦ elim (cases_eq z e) [
          | inl j ↦ or_right (is_triangle after (face next z)) (same_face (m + 1) after (2 * m) (face next z))
              (subst (λ v. same_face (m + 1) after (2 * m) v ≡ true) (step-first ∙ sym (ap (face next) j)) (orbit-step (2 * (m + 1)) (face after) (2 * m) (omega arith)))
          | inr j ↦ subst (λ v. near v ≡ true) (step-old z l i j) (elim (or_cases (is_triangle after z) (same_face (m + 1) after (2 * m) z) t) [
            | inl u ↦ or_left (is_triangle after (face after z)) (same_face (m + 1) after (2 * m) (face after z)) (triangle-step after z u)
            | inr u ↦ or_right (is_triangle after (face after z)) (same_face (m + 1) after (2 * m) (face after z))
                ((orbit-equivalence (2 * (m + 1)) (face after)).transitive (2 * m) z (face after z) u (orbit-step (2 * (m + 1)) (face after) z (wide z l)))
          ])
        ]
      ]

      -- the darts of the face of d are on a triangle now, or on the face of the new edge's first dart; those of triangles stay on theirs
      pub face-kept : (c : ℕ) → c < 2 * m → (is_triangle next c || same_face m next d c) ≡ true → (is_triangle after c || same_face (m + 1) after (2 * m) c) ≡ true
      face-kept c l t = elim (or_cases (is_triangle next c) (same_face m next d c) t) [
        | inl u ↦ or_left (is_triangle after c) (same_face (m + 1) after (2 * m) c) (triangle-kept c l u)
        | inr u ↦ sym (orbit-kept (2 * m) (face next) (λ z. twin (previous z)) (face-permutes m next previous s.drawn.map) near carried d c u) ∙ near-d
      ]

      -- so are the new darts
      pub new-kept : (c : ℕ) → (c ≡ 2 * m) ⊎ (c ≡ 2 * m + 1) → (is_triangle after c || same_face (m + 1) after (2 * m) c) ≡ true
      new-kept c w = elim w [
        | inl i ↦ or_right (is_triangle after c) (same_face (m + 1) after (2 * m) c) (subst (λ v. same_face (m + 1) after (2 * m) v ≡ true) (sym i) ((orbit-equivalence (2 * (m + 1)) (face after)).reflexive (2 * m)))
        | inr i ↦ or_left (is_triangle after c) (same_face (m + 1) after (2 * m) c) (subst (λ v. is_triangle after v ≡ true) (sym i) triangle-second)
      ]
