-- The faces that are listed are the orbits of the face step: each dart is in exactly one of them, and there once.
use Rattle.std.proofs.Common.{◌≡◌, ◌≢◌, ℕ, zero, suc, ◌+◌, ◌*◌, ◌/◌, ◌<◌, ◌≤◌, true, false, not, ◌&&◌, List, [], ◌∷◌, ◌++◌, length, get_or, map, filter, inl, inr, refl, sym, ap, ◌∙◌, subst, arith, add-one}
use Rattle.std.proofs.lemmas.Bool.{cases_Bool, cases_order, and_parts, and_from, both_ways}
use Rattle.std.proofs.lemmas.List.{map-append, length-map, get_or-map}
use Rattle.permutations.specs.Count.{count, some, least}
use Rattle.permutations.specs.Permutation.{iterate, reaches}
use Rattle.permutations.specs.Ring.{images, ring, orbit_length}
use Rattle.permutations.specs.Members.{is_member, is_distinct, place_of}
use Rattle.permutations.proofs.Count.{count-all}
use Rattle.permutations.proofs.Injection.{count-bijection}
use Rattle.permutations.proofs.Search.{some-from, none-some, least-below, least-passes, least-before, least-is}
use Rattle.permutations.proofs.Places.{place-of, place-below, place-holds, place-at, told-distinct}
use Rattle.permutations.proofs.Arrangements.{member-at}
use Rattle.permutations.proofs.Filter.{member-filter_parts, filter-member, distinct-filter}
use Rattle.permutations.proofs.Iterates.{orbit-reaches}
use Rattle.permutations.proofs.Rings.{images-append, ring-distinct, ring-member}
use Rattle.multigraph.specs.Graph.{Multigraph, IsGraph, edge_count, is_end}
use Rattle.multigraph.proofs.OtherEnd.{end-in}
use Rattle.faces.specs.Euler.{tail, dart_from, dart_count, begins_orbit}
use Rattle.faces.specs.Marks.{IsPermutationBelow}
use Rattle.faces.specs.Trace.{pair_of, precedes, darts_in_order, is_least, pairs_along, orbit_pairs, orbit_lists}
use Rattle.faces.specs.FaceLists.{IsListedOnce}
use Rattle.faces.proofs.DartLemmas.{dart-edge, tail-end, dart_from-edge, dart_from-below, dart_from-tail, dart_from-of_dart}
use Rattle.faces.proofs.Order.{InOrder, order-all, precedes-apart}
use Rattle.faces.proofs.Reaching.{steps-reach, reaches-below, reaches-through, reaches-back}

-- the pairs of an orbit are those of its ring
pub along-images : (g : Multigraph) (f : ℕ → ℕ) (d k : ℕ) → pairs_along g f d k ≡ map (pair_of g) (images f k d)
along-images g f d zero = refl
along-images g f d (suc k) =
    let more : images f (suc k) d ≡ images f k d ++ iterate f k d ∷ [] = subst (λ (j : ℕ). images f j d ≡ images f k d ++ iterate f k d ∷ []) (add-one k) (images-append f k 1 d) in
    ap (λ (l : List (ℕ × ℕ)). l ++ pair_of g (iterate f k d) ∷ []) (along-images g f d k)
    ∙ (sym (map-append (pair_of g) (images f k d) (iterate f k d ∷ [])) ∙ ap (map (pair_of g)) (sym more))

module _ (g : Multigraph) (f : ℕ → ℕ) (ok : IsGraph g) (p : IsPermutationBelow (dart_count g) f) where
  in_order : InOrder g g.vertex_count (darts_in_order g)
  in_order = order-all g ok

  -- the place of a dart in the order
  place-in : (x : ℕ) → x < dart_count g → (i : ℕ) × (i < length (darts_in_order g)) × (get_or (darts_in_order g) i 0 ≡ x)
  place-in x l = in_order.complete x l (end-in g (tail g x) (x / 2) ok (dart-edge g x l) (tail-end g x))

  -- the first place of the order that a dart reaches
  abbrev lead_place : ℕ → ℕ
  lead_place x = least (length (darts_in_order g)) (λ i. reaches (dart_count g) f x (get_or (darts_in_order g) i 0))

  -- the least dart of its orbit
  abbrev leader : ℕ → ℕ
  leader x = get_or (darts_in_order g) (least (length (darts_in_order g)) (λ i. reaches (dart_count g) f x (get_or (darts_in_order g) i 0))) 0

  reached : (x : ℕ) → x < dart_count g → some (length (darts_in_order g)) (λ i. reaches (dart_count g) f x (get_or (darts_in_order g) i 0)) ≡ true
  reached x l =
      let w : (i : ℕ) × (i < length (darts_in_order g)) × (get_or (darts_in_order g) i 0 ≡ x) = place-in x l in
      some-from (length (darts_in_order g)) (λ i. reaches (dart_count g) f x (get_or (darts_in_order g) i 0)) w.0 w.1 (steps-reach (dart_count g) f p 0 x (get_or (darts_in_order g) w.0 0) l (sym w.2))

  place-under : (x : ℕ) → x < dart_count g → lead_place x < length (darts_in_order g)
  place-under x l = least-below (length (darts_in_order g)) (λ i. reaches (dart_count g) f x (get_or (darts_in_order g) i 0)) (reached x l)

  leader-in : (x : ℕ) → x < dart_count g → leader x < dart_count g
  leader-in x l = in_order.darts (lead_place x) (place-under x l)

  leader-reached : (x : ℕ) → x < dart_count g → reaches (dart_count g) f x (leader x) ≡ true
  leader-reached x l = least-passes (length (darts_in_order g)) (λ i. reaches (dart_count g) f x (get_or (darts_in_order g) i 0)) (reached x l)

  -- a dart that precedes another is at an earlier place
  earlier : (i j : ℕ) → i < length (darts_in_order g) → precedes g (get_or (darts_in_order g) i 0) (get_or (darts_in_order g) j 0) ≡ true → i < j
  earlier i j l t = elim (cases_order i j) [
    | inl s ↦
        let itself : precedes g (get_or (darts_in_order g) j 0) (get_or (darts_in_order g) j 0) ≡ true = subst (λ (k : ℕ). precedes g (get_or (darts_in_order g) k 0) (get_or (darts_in_order g) j 0) ≡ true) s t in
        absurd (precedes-apart g (get_or (darts_in_order g) j 0) (get_or (darts_in_order g) j 0) itself itself)
    | inr s ↦ elim s [
      | inl less ↦ less
      | inr more ↦ absurd (precedes-apart g (get_or (darts_in_order g) i 0) (get_or (darts_in_order g) j 0) t (in_order.sorted j i more l))
    ]
  ]

  -- nothing that a dart's leader reaches precedes it
  leader-first : (x c : ℕ) → x < dart_count g → c < dart_count g → reaches (dart_count g) f (leader x) c ≡ true → precedes g c (leader x) ≡ true → ⊥
  leader-first x c l m s t =
      let w : (i : ℕ) × (i < length (darts_in_order g)) × (get_or (darts_in_order g) i 0 ≡ c) = place-in c m in
      let before : w.0 < lead_place x = earlier w.0 (lead_place x) w.1 (subst (λ (z : ℕ). precedes g z (leader x) ≡ true) (sym w.2) t) in
      let off : reaches (dart_count g) f x (get_or (darts_in_order g) w.0 0) ≡ false = least-before (length (darts_in_order g)) (λ i. reaches (dart_count g) f x (get_or (darts_in_order g) i 0)) w.0 before in
      both_ways (reaches (dart_count g) f x c) (subst (λ (z : ℕ). reaches (dart_count g) f x z ≡ false) w.2 off) (reaches-through (dart_count g) f p x (leader x) c l (leader-reached x l) s)

  leader-least : (x : ℕ) → x < dart_count g → is_least g f (leader x) ≡ true
  leader-least x l = ap not (none-some (dart_count g) (λ c. reaches (dart_count g) f (leader x) c && precedes g c (leader x)) (λ c m. elim (cases_Bool (reaches (dart_count g) f (leader x) c && precedes g c (leader x))) [
    | inl t ↦
        let parts : (reaches (dart_count g) f (leader x) c ≡ true) × (precedes g c (leader x) ≡ true) = and_parts (reaches (dart_count g) f (leader x) c) (precedes g c (leader x)) t in
        absurd (leader-first x c l m parts.0 parts.1)
    | inr e ↦ e
  ]))

  -- nothing that a least dart reaches precedes it
  least-first : (d c : ℕ) → c < dart_count g → is_least g f d ≡ true → reaches (dart_count g) f d c ≡ true → precedes g c d ≡ true → ⊥
  least-first d c l h s t =
      let there : some (dart_count g) (λ x. reaches (dart_count g) f d x && precedes g x d) ≡ true = some-from (dart_count g) (λ x. reaches (dart_count g) f d x && precedes g x d) c l (and_from (reaches (dart_count g) f d c) (precedes g c d) s t) in
      both_ways (is_least g f d) (ap not there) h

  -- an orbit has one least dart
  least-one : (c d : ℕ) → c < dart_count g → d < dart_count g → is_least g f c ≡ true → is_least g f d ≡ true → reaches (dart_count g) f c d ≡ true → c ≡ d
  least-one c d l m hc hd t =
      let v : (i : ℕ) × (i < length (darts_in_order g)) × (get_or (darts_in_order g) i 0 ≡ c) = place-in c l in
      let w : (i : ℕ) × (i < length (darts_in_order g)) × (get_or (darts_in_order g) i 0 ≡ d) = place-in d m in
      elim (cases_order v.0 w.0) [
        | inl same ↦ sym v.2 ∙ (ap (λ (k : ℕ). get_or (darts_in_order g) k 0) same ∙ w.2)
        | inr apart ↦ elim apart [
          | inl less ↦
              let first : precedes g c d ≡ true = subst (λ (z : ℕ × ℕ). precedes g z.0 z.1 ≡ true) (λ i. (v.2 i, w.2 i)) (in_order.sorted v.0 w.0 less w.1) in
              absurd (least-first d c l hd (reaches-back (dart_count g) f p c d l t) first)
          | inr more ↦
              let first : precedes g d c ≡ true = subst (λ (z : ℕ × ℕ). precedes g z.0 z.1 ≡ true) (λ i. (w.2 i, v.2 i)) (in_order.sorted w.0 v.0 more v.1) in
              absurd (least-first c d m hc t first)
        ]
      ]

  -- no dart is twice in the order
  order-distinct_darts : is_distinct (darts_in_order g) ≡ true
  order-distinct_darts = told-distinct (darts_in_order g) (λ i j l m e. elim (cases_order i j) [
    | inl same ↦ same
    | inr apart ↦ elim apart [
      | inl less ↦ absurd (itself (get_or (darts_in_order g) j 0) (subst (λ (z : ℕ). precedes g z (get_or (darts_in_order g) j 0) ≡ true) e (in_order.sorted i j less m)))
      | inr more ↦ absurd (itself (get_or (darts_in_order g) i 0) (subst (λ (z : ℕ). precedes g z (get_or (darts_in_order g) i 0) ≡ true) (sym e) (in_order.sorted j i more l)))
    ]
  ])
    where
      itself : (d : ℕ) → precedes g d d ≡ true → ⊥
      itself d t = precedes-apart g d d t t

  -- nor among the least darts
  leads-distinct : is_distinct (filter (is_least g f) (darts_in_order g)) ≡ true
  leads-distinct = distinct-filter (is_least g f) (darts_in_order g) order-distinct_darts

  lead-at : (i : ℕ) → i < length (filter (is_least g f) (darts_in_order g)) → (get_or (filter (is_least g f) (darts_in_order g)) i 0 < dart_count g) × (is_least g f (get_or (filter (is_least g f) (darts_in_order g)) i 0) ≡ true)
  lead-at i l =
      let parts : (is_member (get_or (filter (is_least g f) (darts_in_order g)) i 0) (darts_in_order g) ≡ true) × (is_least g f (get_or (filter (is_least g f) (darts_in_order g)) i 0) ≡ true) =
      member-filter_parts (is_least g f) (darts_in_order g) (get_or (filter (is_least g f) (darts_in_order g)) i 0) (member-at (filter (is_least g f) (darts_in_order g)) i 0 l) in
      let w : (j : ℕ) × (j < length (darts_in_order g)) × (get_or (darts_in_order g) j 0 ≡ get_or (filter (is_least g f) (darts_in_order g)) i 0) = place-of (darts_in_order g) (get_or (filter (is_least g f) (darts_in_order g)) i 0) parts.0 in
      (subst (λ (z : ℕ). z < dart_count g) w.2 (in_order.darts w.0 w.1), parts.1)

  leader-member : (x : ℕ) → x < dart_count g → is_member (leader x) (filter (is_least g f) (darts_in_order g)) ≡ true
  leader-member x l = filter-member (is_least g f) (darts_in_order g) (leader x) (member-at (darts_in_order g) (lead_place x) 0 (place-under x l)) (leader-least x l)

  -- the leader of what a least dart reaches is this dart
  leader-of : (d x : ℕ) → d < dart_count g → is_least g f d ≡ true → reaches (dart_count g) f d x ≡ true → leader x ≡ d
  leader-of d x l h t =
      let below : x < dart_count g = reaches-below (dart_count g) f p d x l t in
      sym (least-one d (leader x) l (leader-in x below) h (leader-least x below) (reaches-through (dart_count g) f p d x (leader x) l t (leader-reached x below)))

  -- the faces that are listed
  listed-long : length (orbit_lists g f) ≡ length (filter (is_least g f) (darts_in_order g))
  listed-long = length-map (filter (is_least g f) (darts_in_order g)) (orbit_pairs g f)

  pub listed-at : (i : ℕ) → i < length (orbit_lists g f) → get_or (orbit_lists g f) i [] ≡ orbit_pairs g f (get_or (filter (is_least g f) (darts_in_order g)) i 0)
  listed-at i l = get_or-map (orbit_pairs g f) (filter (is_least g f) (darts_in_order g)) i 0 [] (omega (arith, listed-long))

  -- each is an orbit
  pub listed-orbit : (i : ℕ) → i < length (orbit_lists g f) → (d : ℕ) × (d < dart_count g) × (get_or (orbit_lists g f) i [] ≡ orbit_pairs g f d)
  listed-orbit i l = (get_or (filter (is_least g f) (darts_in_order g)) i 0, (lead-at i (omega (arith, listed-long))).0, listed-at i l)

  -- the pairs of an orbit, read at a place
  pairs-long : (d : ℕ) → length (orbit_pairs g f d) ≡ length (ring (dart_count g) f d)
  pairs-long d = ap length (along-images g f d (orbit_length (dart_count g) f d)) ∙ length-map (ring (dart_count g) f d) (pair_of g)

  pairs-at : (d j : ℕ) → j < length (ring (dart_count g) f d) → get_or (orbit_pairs g f d) j (0, 0) ≡ pair_of g (get_or (ring (dart_count g) f d) j 0)
  pairs-at d j l = ap (λ (xs : List (ℕ × ℕ)). get_or xs j (0, 0)) (along-images g f d (orbit_length (dart_count g) f d)) ∙ get_or-map (pair_of g) (ring (dart_count g) f d) j 0 (0, 0) l

  -- what a dart's ring holds, it reaches
  ring-reached : (d x : ℕ) → d < dart_count g → is_member x (ring (dart_count g) f d) ≡ true → reaches (dart_count g) f d x ≡ true
  ring-reached d x l m = sym (orbit-reaches (dart_count g) f p.0 p.1 d x l) ∙ (sym (ring-member (dart_count g) f p.0 p.1 d l x) ∙ m)

  reached-ring : (d x : ℕ) → d < dart_count g → reaches (dart_count g) f d x ≡ true → is_member x (ring (dart_count g) f d) ≡ true
  reached-ring d x l t = ring-member (dart_count g) f p.0 p.1 d l x ∙ (orbit-reaches (dart_count g) f p.0 p.1 d x l ∙ t)

  -- a dart at a place of a listed orbit has this orbit's place and this place in it
  found-at : (i j x : ℕ) → i < length (orbit_lists g f) → j < length (get_or (orbit_lists g f) i []) → get_or (get_or (orbit_lists g f) i []) j (0, 0) ≡ pair_of g x → x < dart_count g
      → (i ≡ place_of (filter (is_least g f) (darts_in_order g)) (leader x)) × (j ≡ place_of (ring (dart_count g) f (leader x)) x)
  found-at i j x l m e b = (at_list, at_place)
    where
      i_in : i < length (filter (is_least g f) (darts_in_order g))
      i_in = omega (arith, listed-long)

      d_in : get_or (filter (is_least g f) (darts_in_order g)) i 0 < dart_count g
      d_in = (lead-at i i_in).0

      inside : j < length (ring (dart_count g) f (get_or (filter (is_least g f) (darts_in_order g)) i 0))
      inside = omega (arith, ap length (listed-at i l), pairs-long (get_or (filter (is_least g f) (darts_in_order g)) i 0))

      same_pair : pair_of g (get_or (ring (dart_count g) f (get_or (filter (is_least g f) (darts_in_order g)) i 0)) j 0) ≡ pair_of g x
      same_pair = sym (pairs-at (get_or (filter (is_least g f) (darts_in_order g)) i 0) j inside) ∙ (sym (ap (λ (xs : List (ℕ × ℕ)). get_or xs j (0, 0)) (listed-at i l)) ∙ e)

      here : is_member (get_or (ring (dart_count g) f (get_or (filter (is_least g f) (darts_in_order g)) i 0)) j 0) (ring (dart_count g) f (get_or (filter (is_least g f) (darts_in_order g)) i 0)) ≡ true
      here = member-at (ring (dart_count g) f (get_or (filter (is_least g f) (darts_in_order g)) i 0)) j 0 inside

      there : reaches (dart_count g) f (get_or (filter (is_least g f) (darts_in_order g)) i 0) (get_or (ring (dart_count g) f (get_or (filter (is_least g f) (darts_in_order g)) i 0)) j 0) ≡ true
      there = ring-reached (get_or (filter (is_least g f) (darts_in_order g)) i 0) (get_or (ring (dart_count g) f (get_or (filter (is_least g f) (darts_in_order g)) i 0)) j 0) d_in here

      y_in : get_or (ring (dart_count g) f (get_or (filter (is_least g f) (darts_in_order g)) i 0)) j 0 < dart_count g
      y_in = reaches-below (dart_count g) f p (get_or (filter (is_least g f) (darts_in_order g)) i 0) (get_or (ring (dart_count g) f (get_or (filter (is_least g f) (darts_in_order g)) i 0)) j 0) d_in there

      same : get_or (ring (dart_count g) f (get_or (filter (is_least g f) (darts_in_order g)) i 0)) j 0 ≡ x
      same =
          sym (dart_from-of_dart g (get_or (ring (dart_count g) f (get_or (filter (is_least g f) (darts_in_order g)) i 0)) j 0) ok y_in)
          ∙ (ap (λ (z : ℕ × ℕ). dart_from g z.0 z.1) same_pair ∙ dart_from-of_dart g x ok b)

      lead : leader x ≡ get_or (filter (is_least g f) (darts_in_order g)) i 0
      lead = leader-of (get_or (filter (is_least g f) (darts_in_order g)) i 0) x d_in (lead-at i i_in).1 (subst (λ (z : ℕ). reaches (dart_count g) f (get_or (filter (is_least g f) (darts_in_order g)) i 0) z ≡ true) same there)

      at_list : i ≡ place_of (filter (is_least g f) (darts_in_order g)) (leader x)
      at_list = sym (ap (place_of (filter (is_least g f) (darts_in_order g))) lead ∙ place-at (filter (is_least g f) (darts_in_order g)) i leads-distinct i_in)

      at_place : j ≡ place_of (ring (dart_count g) f (leader x)) x
      at_place = sym (ap (λ (z : ℕ). place_of (ring (dart_count g) f z) x) lead
          ∙ (ap (place_of (ring (dart_count g) f (get_or (filter (is_least g f) (darts_in_order g)) i 0))) (sym same)
          ∙ place-at (ring (dart_count g) f (get_or (filter (is_least g f) (darts_in_order g)) i 0)) j (ring-distinct (dart_count g) f p.0 p.1 (get_or (filter (is_least g f) (darts_in_order g)) i 0) d_in) inside))

  -- each dart is listed once
  dart-once : (x : ℕ) → x < dart_count g → IsListedOnce (orbit_lists g f) (pair_of g x)
  dart-once x b = record {
    list = place_of (filter (is_least g f) (darts_in_order g)) (leader x);
    place = place_of (ring (dart_count g) f (leader x)) x;
    list_in = list_in;
    place_in = omega (arith, place_in, ap length at, pairs-long (leader x));
    there =
        ap (λ (xs : List (ℕ × ℕ)). get_or xs (place_of (ring (dart_count g) f (leader x)) x) (0, 0)) at
        ∙ (pairs-at (leader x) (place_of (ring (dart_count g) f (leader x)) x) place_in
        ∙ ap (pair_of g) (place-holds (ring (dart_count g) f (leader x)) x in_ring));
    only = λ i j l m e. found-at i j x l m e b;
  }
    where
      list_in : place_of (filter (is_least g f) (darts_in_order g)) (leader x) < length (orbit_lists g f)
      list_in = omega (arith, listed-long, place-below (filter (is_least g f) (darts_in_order g)) (leader x) (leader-member x b))

      at : get_or (orbit_lists g f) (place_of (filter (is_least g f) (darts_in_order g)) (leader x)) [] ≡ orbit_pairs g f (leader x)
      at = listed-at (place_of (filter (is_least g f) (darts_in_order g)) (leader x)) list_in ∙ ap (orbit_pairs g f) (place-holds (filter (is_least g f) (darts_in_order g)) (leader x) (leader-member x b))

      in_ring : is_member x (ring (dart_count g) f (leader x)) ≡ true
      in_ring = reached-ring (leader x) x (leader-in x b) (reaches-back (dart_count g) f p x (leader x) b (leader-reached x b))

      place_in : place_of (ring (dart_count g) f (leader x)) x < length (ring (dart_count g) f (leader x))
      place_in = place-below (ring (dart_count g) f (leader x)) x in_ring

  -- each pair of a vertex and an edge at it is listed once
  pub listed-once : (v e : ℕ) → e < edge_count g → is_end g v e ≡ true → IsListedOnce (orbit_lists g f) (v, e)
  listed-once v e l h = subst (IsListedOnce (orbit_lists g f)) (λ i. (dart_from-tail g v e h i, dart_from-edge g v e i)) (dart-once (dart_from g v e) (dart_from-below g v e l))

  -- the least number of an orbit
  abbrev beginning : ℕ → ℕ
  beginning x = least (dart_count g) (reaches (dart_count g) f x)

  itself-reached : (x : ℕ) → x < dart_count g → some (dart_count g) (reaches (dart_count g) f x) ≡ true
  itself-reached x l = some-from (dart_count g) (reaches (dart_count g) f x) x l (steps-reach (dart_count g) f p 0 x x l refl)

  beginning-in : (x : ℕ) → x < dart_count g → beginning x < dart_count g
  beginning-in x l = least-below (dart_count g) (reaches (dart_count g) f x) (itself-reached x l)

  beginning-reached : (x : ℕ) → x < dart_count g → reaches (dart_count g) f x (beginning x) ≡ true
  beginning-reached x l = least-passes (dart_count g) (reaches (dart_count g) f x) (itself-reached x l)

  beginning-begins : (x : ℕ) → x < dart_count g → begins_orbit (dart_count g) f (beginning x) ≡ true
  beginning-begins x l = ap not (none-some (beginning x) (λ y. reaches (dart_count g) f (beginning x) y) (λ y m. elim (cases_Bool (reaches (dart_count g) f (beginning x) y)) [
    | inl t ↦ absurd (both_ways (reaches (dart_count g) f x y) (least-before (dart_count g) (reaches (dart_count g) f x) y m) (reaches-through (dart_count g) f p x (beginning x) y l (beginning-reached x l) t))
    | inr e ↦ e
  ]))

  -- the beginning of what a beginning reaches is this number
  beginning-of : (y x : ℕ) → y < dart_count g → begins_orbit (dart_count g) f y ≡ true → reaches (dart_count g) f y x ≡ true → beginning x ≡ y
  beginning-of y x l h t = least-is (dart_count g) (reaches (dart_count g) f x) y l (reaches-back (dart_count g) f p y x l t) (λ z m. elim (cases_Bool (reaches (dart_count g) f x z)) [
    | inl s ↦
        let there : some y (λ w. reaches (dart_count g) f y w) ≡ true = some-from y (λ w. reaches (dart_count g) f y w) z m (reaches-through (dart_count g) f p y x z l t s) in
        absurd (both_ways (begins_orbit (dart_count g) f y) (ap not there) h)
    | inr e ↦ e
  ])

  -- there are as many lists as beginnings of orbits
  pub listed-count : length (orbit_lists g f) ≡ count (dart_count g) (begins_orbit (dart_count g) f)
  listed-count =
      listed-long
      ∙ (sym (count-all (length (filter (is_least g f) (darts_in_order g))) (λ i. true) (λ i l. refl))
      ∙ count-bijection (length (filter (is_least g f) (darts_in_order g))) (dart_count g) (λ i. true) (begins_orbit (dart_count g) f)
      (λ i. beginning (get_or (filter (is_least g f) (darts_in_order g)) i 0)) (λ y. place_of (filter (is_least g f) (darts_in_order g)) (leader y))
      (λ i l t. beginning-in (get_or (filter (is_least g f) (darts_in_order g)) i 0) (lead-at i l).0)
      (λ i l t. beginning-begins (get_or (filter (is_least g f) (darts_in_order g)) i 0) (lead-at i l).0)
      (λ i l t.
      ap (place_of (filter (is_least g f) (darts_in_order g))) (leader-of (get_or (filter (is_least g f) (darts_in_order g)) i 0) (beginning (get_or (filter (is_least g f) (darts_in_order g)) i 0)) (lead-at i l).0 (lead-at i l).1 (beginning-reached (get_or (filter (is_least g f) (darts_in_order g)) i 0) (lead-at i l).0))
      ∙ place-at (filter (is_least g f) (darts_in_order g)) i leads-distinct l)
      (λ y l t. place-below (filter (is_least g f) (darts_in_order g)) (leader y) (leader-member y l))
      (λ y l t. refl)
      (λ y l t. ap beginning (place-holds (filter (is_least g f) (darts_in_order g)) (leader y) (leader-member y l)) ∙ beginning-of y (leader y) l t (leader-reached y l)))
