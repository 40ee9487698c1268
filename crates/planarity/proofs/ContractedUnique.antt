-- Plane rotation systems that are the same with an edge contracted are the same.
use Rattle.std.proofs.Common.{◌≡◌, ◌≢◌, ℕ, ◌/◌, ◌<◌, ◌⊎◌, inl, inr, Bool, true, false, List, refl, sym, ap, ◌∙◌, subst}
use Rattle.std.proofs.lemmas.Bool.{cases_Bool, cases_eq, both_ways}
use Rattle.permutations.specs.Permutation.{Permutes, same_orbit}
use Rattle.permutations.specs.Exchange.{restricted}
use Rattle.permutations.proofs.Permutations.{permutes-back}
use Rattle.permutations.proofs.Orbits.{orbit-kept}
use Rattle.permutations.proofs.Unlinking.{alone-orbit}
use Rattle.permutations.proofs.Restriction.{restricted-alone, restricted-next, restricted-permutes}
use Rattle.multigraph.specs.Graph.{Multigraph, IsGraph, edge_count, other_end}
use Rattle.multigraph.proofs.OtherEnd.{end-in}
use Rattle.rotations.specs.Rotation.{IsRotationSystem}
use Rattle.graph_theory.specs.Triconnected.{IsTriconnected}
use Rattle.contractions.specs.Contraction.{are_adjacent, is_kept, IsContractible, IsContraction}
use Rattle.contractions.proofs.Neighbours.{neighbour}
use Rattle.dart_maps.specs.Map.{twin, IsMap}
use Rattle.dart_maps.specs.Order.{one_of_three}
use Rattle.dart_maps.specs.Changes.{contracted}
use Rattle.dart_maps.proofs.Darts.{twin-twin, twin-below, twin-edge}
use Rattle.dart_maps.proofs.Noncrossing.{restricted-vertex}
use Rattle.dart_maps.proofs.LinkNoncrossing.{three-members, three-cases}
use Rattle.faces.specs.Euler.{tail, dart_from, dart_count, IsPlane}
use Rattle.faces.specs.Maps.{dart_after, dart_before}
use Rattle.faces.proofs.DartLemmas.{dart_from-edge, dart_from-below, dart_from-tail}
use Rattle.faces.proofs.MapParts.{place}
use Rattle.faces.proofs.MapSteps.{tail-twin, after-tail, map-permutes}
use Rattle.faces.proofs.MapVertices.{vertex-tail, tail-vertex}
use Rattle.faces.proofs.MapToLists.{orders-told}
use Rattle.planarity.specs.Expansion.{moved, stays, IsContractedSystem}
use Rattle.planarity.proofs.TriangleLoop.{two-orbit}
use Rattle.planarity.proofs.SimpleDarts.{tail-other, simple-dart}
use Rattle.planarity.proofs.ContractedVertices.{vertices-from}
use Rattle.planarity.proofs.ContractedDarts.{stays-edge, stays-kept, stays-twin, stays-gone, contracted-not_kept, middle-below, middle-tail, middle-twin, middle-cases, ends-differ, placed-in, placed-back}
use Rattle.planarity.proofs.ContractedSystem.{left-vertices, small-alone}
use Rattle.planarity.proofs.RestrictedSteps.{AreSingle, restriction-tells, contraction-tells}
use Rattle.planarity.proofs.JoinedDarts.{kept-away, kept-private, joined-dart, DartFromTo, Dropped, dropped-dart}
use Rattle.planarity.proofs.CommonNeighbours.{IsLate, IsEarly, common-neighbour}

-- three numbers that a permutation turns are an orbit
pub three-orbit : (n : ℕ) (f g : ℕ → ℕ) → Permutes n f g → (a b c d : ℕ) → f a ≡ b → f b ≡ c → f c ≡ a → same_orbit n f a d ≡ true → (d ≡ a) ⊎ ((d ≡ b) ⊎ (d ≡ c))
three-orbit n f g p a b c d ab bc ca t = three-cases a b c d (sym (orbit-kept n f g p (one_of_three a b c) step a d t) ∙ (three-members a b c).0)
  where
    step : (z : ℕ) → z < n → one_of_three a b c z ≡ true → one_of_three a b c (f z) ≡ true
    step z l h = elim (three-cases a b c z h) [
      | inl q ↦ subst (λ w. one_of_three a b c w ≡ true) (sym (ap f q ∙ ab)) (three-members a b c).1
      | inr w ↦ elim w [
        | inl q ↦ subst (λ w. one_of_three a b c w ≡ true) (sym (ap f q ∙ bc)) (three-members a b c).2
        | inr q ↦ subst (λ w. one_of_three a b c w ≡ true) (sym (ap f q ∙ ca)) (three-members a b c).0
      ]
    ]

-- a triconnected graph and the graph with an edge contracted, which may be
module _ (g h : Multigraph) (e x y : ℕ) (edge vertex : ℕ → ℕ) (ok : IsGraph g) (okh : IsGraph h) (con : IsContraction g h e x y edge vertex) (tri : IsTriconnected g) (may : IsContractible g x y) where
  abbrev middle : ℕ
  middle = dart_from g x e

  abbrev kept : ℕ → Bool
  kept d = is_kept g e x y (d / 2)

  differ : x ≡ y → ⊥
  differ = ends-differ g h e x y edge vertex ok con

  middle-stays : stays g e x y middle ≡ true
  middle-stays = stays-edge g e x y middle (dart_from-edge g x e)

  twin-stays : stays g e x y (twin middle) ≡ true
  twin-stays = stays-edge g e x y (twin middle) (twin-edge middle ∙ dart_from-edge g x e)

  -- a dart from x to y is the contracted one
  only-middle : (d : ℕ) → d < dart_count g → tail g d ≡ x → tail g (twin d) ≡ y → d ≡ middle
  only-middle d l a b = simple-dart g ok tri.simple d middle l (middle-below g h e x y edge vertex ok con) (a ∙ sym (middle-tail g h e x y edge vertex ok con)) (b ∙ sym (middle-twin g h e x y edge vertex ok con))

  -- all darts of x stay
  x-stays : (d : ℕ) → d < dart_count g → tail g d ≡ x → stays g e x y d ≡ true
  x-stays d l q = elim (cases_eq (d / 2) e) [
    | inl i ↦ stays-edge g e x y d i
    | inr n ↦ stays-kept g e x y d (kept-away g ok e x y d l n (λ i. differ (sym q ∙ i)) (λ i. n (ap (λ z. z / 2) (only-middle d l q i) ∙ dart_from-edge g x e)))
  ]

  -- x has another dart than that of the edge and a given one
  third : (b : ℕ) → (d : ℕ) × (d < dart_count g) × (tail g d ≡ x) × (tail g (twin d) ≢ y) × (tail g (twin d) ≢ b)
  third b =
      let w = neighbour g ok tri x y b (end-in g x e ok con.edge_in con.first_end) in
      let l : dart_from g x w.0 < dart_count g = dart_from-below g x w.0 w.1 in
      let there = tail-twin g (dart_from g x w.0) ok l ∙ ap (λ d. other_end g d (tail g (dart_from g x w.0))) (dart_from-edge g x w.0) ∙ ap (other_end g w.0) (dart_from-tail g x w.0 w.2) in
      (dart_from g x w.0, l, dart_from-tail g x w.0 w.2, (λ q. w.3 (sym there ∙ q)), (λ q. w.4 (sym there ∙ q)))

  -- a dart that does not stay goes to or comes from a common neighbour
  gone-dart : (z : ℕ) → z < dart_count g → stays g e x y z ≡ false → Dropped g e x y z
  gone-dart z l out = let w = stays-gone g e x y z out in dropped-dart g ok e x y z l w.0 w.1

  gone-back : (z : ℕ) → stays g e x y z ≡ false → (w : Dropped g e x y z) → (stays g e x y (w.back) ≡ false) × (stays g e x y (twin (w.back)) ≡ false)
  gone-back z out w = elim w.which [
    | inl q ↦ let b : stays g e x y (w.back) ≡ false = ap (stays g e x y) (sym q) ∙ out in (b, stays-twin g e x y (w.back) ∙ b)
    | inr q ↦ let b : stays g e x y (twin (w.back)) ≡ false = ap (stays g e x y) (sym q) ∙ out in (sym (stays-twin g e x y (w.back)) ∙ b, b)
  ]

  -- a dart of y that is kept
  module _ (k : ℕ) (lk : k < dart_count g) (k_tail : tail g k ≡ y) (k_kept : is_kept g e x y (k / 2) ≡ true) where
    k-stays : stays g e x y k ≡ true
    k-stays = stays-kept g e x y k k_kept

    -- a plane rotation system
    module _ (r : List (List ℕ)) (s : IsRotationSystem g r) (plane : IsPlane g r) where
      abbrev f : ℕ → ℕ
      f = dart_after g r

      abbrev left : ℕ → ℕ
      left = restricted (dart_count g) (stays g e x y) (dart_after g r)

      abbrev left_back : ℕ → ℕ
      left_back = restricted (dart_count g) (stays g e x y) (dart_before g r)

      is-map : IsMap (edge_count g) (dart_after g r) (dart_before g r)
      is-map = map-permutes g r ok s

      left-map : IsMap (edge_count g) left left_back
      left-map = restricted-permutes (dart_count g) (stays g e x y) (dart_after g r) (dart_before g r) is-map

      kind : (z : ℕ) (w : Dropped g e x y z) → IsLate (dart_after g r) (dart_from g x e) (w.over) (w.back) ⊎ IsEarly (dart_after g r) (dart_from g x e) (w.over) (w.back)
      kind z w = common-neighbour g h e x y edge vertex ok con r s plane tri.simple may (w.over) (w.back) w.over_dart w.back_dart w.leaves w.meets w.arrives

      -- a dart that shares its vertex with another one is followed by another one
      moves : (c d : ℕ) → c < dart_count g → d < dart_count g → tail g c ≡ tail g d → (c ≡ d → ⊥) → f c ≡ c → ⊥
      moves c d l j q n i = n (alone-orbit (dart_count g) c f (dart_before g r) is-map l i d (tail-vertex g r ok s c d l j q))

      -- a dart that stays is not one that does not
      other : (c d : ℕ) → stays g e x y c ≡ false → stays g e x y d ≡ true → c ≡ d → ⊥
      other c d out in_ q = both_ways (stays g e x y c) out (ap (stays g e x y) q ∙ in_)

      -- behind a dart from a common neighbour to y another one stands
      after-back : (z : ℕ) (w : Dropped g e x y z) → stays g e x y (w.back) ≡ false → stays g e x y (f (w.back)) ≡ false → ⊥
      after-back z w out next =
          let v = gone-dart (f (w.back)) (is-map.forth (w.back) w.back_dart) next in
          let at : tail g (f (w.back)) ≡ tail g (w.back) = after-tail g r (w.back) ok s w.back_dart in
          elim v.which [
            | inl q ↦ moves (w.back) (twin (w.over)) w.back_dart (twin-below (edge_count g) (w.over) w.over_dart) (sym w.meets)
                (other (w.back) (twin (w.over)) out (stays-twin g e x y (w.over) ∙ x-stays (w.over) w.over_dart w.leaves))
                (q ∙ simple-dart g ok tri.simple (v.back) (w.back) v.back_dart w.back_dart (ap (tail g) (sym q) ∙ at) (v.arrives ∙ sym w.arrives))
            | inr q ↦ tail-other g (w.back) ok w.back_dart (w.arrives ∙ sym v.arrives ∙ ap (tail g) (sym q) ∙ at)
          ]

      -- and so behind one from y to a common neighbour
      after-twin : (z : ℕ) (w : Dropped g e x y z) → stays g e x y (twin (w.back)) ≡ false → f (twin middle) ≡ twin (w.back) → stays g e x y (f (twin (w.back))) ≡ false → ⊥
      after-twin z w out first next =
          let l : twin (w.back) < dart_count g = twin-below (edge_count g) (w.back) w.back_dart in
          let v = gone-dart (f (twin (w.back))) (is-map.forth (twin (w.back)) l) next in
          let at : tail g (f (twin (w.back))) ≡ y = after-tail g r (twin (w.back)) ok s l ∙ w.arrives in
          let lm : twin middle < dart_count g = twin-below (edge_count g) middle (middle-below g h e x y edge vertex ok con) in
          elim v.which [
            | inl q ↦ tail-other g (v.back) ok v.back_dart (v.arrives ∙ sym at ∙ ap (tail g) q)
            | inr q ↦ elim (kind (f (twin (w.back))) v) [
              | inl t ↦ moves (twin (w.back)) (twin middle) l lm (w.arrives ∙ sym (middle-twin g h e x y edge vertex ok con)) (other (twin (w.back)) (twin middle) out twin-stays) (q ∙ sym t.1 ∙ first)
              | inr t ↦ elim (three-orbit (dart_count g) f (dart_before g r) is-map (twin middle) (twin (w.back)) (twin (v.back)) k first q t.1 (tail-vertex g r ok s (twin middle) k lm lk (middle-twin g h e x y edge vertex ok con ∙ sym k_tail))) [
                | inl i ↦ contracted-not_kept g e x y (k / 2) k_kept (ap (λ d. d / 2) i ∙ twin-edge middle ∙ dart_from-edge g x e)
                | inr o ↦ elim o [
                  | inl i ↦ other (twin (w.back)) k out k-stays (sym i)
                  | inr i ↦ other (f (twin (w.back))) k next k-stays (q ∙ sym i)
                ]
              ]
            ]
          ]

      -- so none of the darts that do not stay is followed by another one
      single : AreSingle (dart_count g) (stays g e x y) (dart_after g r)
      single z l out = elim (cases_Bool (stays g e x y (f z))) [
        | inl t ↦ t
        | inr next ↦
            let w = gone-dart z l out in
            let b = gone-back z out w in
            absurd (elim w.which [
              | inl q ↦ after-back z w b.0 (ap (λ d. stays g e x y (f d)) (sym q) ∙ next)
              | inr q ↦
                  let there : stays g e x y (f (twin (w.back))) ≡ false = ap (λ d. stays g e x y (f d)) (sym q) ∙ next in
                  elim (kind z w) [
                    | inl t ↦ after-twin z w b.1 t.1 there
                    | inr t ↦ other (f (twin (w.back))) (twin middle) there twin-stays t.1
                  ]
            ])
      ]

      -- the map without those darts keeps the vertices
      left-tail : (d : ℕ) → d < dart_count g → tail g (left d) ≡ tail g d
      left-tail d l = elim (cases_Bool (stays g e x y d)) [
        | inl t ↦ sym (vertex-tail g r ok s d (left d) (restricted-vertex (edge_count g) (dart_after g r) (dart_before g r) is-map (stays g e x y) d (left d) l t refl))
        | inr t ↦ ap (tail g) (restricted-alone (dart_count g) (stays g e x y) (dart_after g r) d t)
      ]

      left-moves : (c d : ℕ) → c < dart_count g → d < dart_count g → stays g e x y c ≡ true → stays g e x y d ≡ true → tail g c ≡ tail g d → (c ≡ d → ⊥) → left c ≡ c → ⊥
      left-moves c d l j u v q n i = n (alone-orbit (dart_count g) c left left_back left-map l i d (same-left c d l j u v q))
        where
          same-left : (a b : ℕ) → a < dart_count g → b < dart_count g → stays g e x y a ≡ true → stays g e x y b ≡ true → tail g a ≡ tail g b → same_orbit (dart_count g) left a b ≡ true
          same-left = vertices-from (edge_count g) left (stays g e x y) (tail g) (left-vertices g h e x y edge vertex ok okh con r s)

      -- the edge's darts are not alone there
      middle-moves : left middle ≡ middle → ⊥
      middle-moves =
          let w = third y in
          left-moves middle w.0 (middle-below g h e x y edge vertex ok con) w.1 middle-stays (x-stays w.0 w.1 w.2) (middle-tail g h e x y edge vertex ok con ∙ sym w.2)
          (λ q. w.3 (ap (λ d. tail g (twin d)) (sym q) ∙ middle-twin g h e x y edge vertex ok con))

      twin-moves : left (twin middle) ≡ twin middle → ⊥
      twin-moves = left-moves (twin middle) k (twin-below (edge_count g) middle (middle-below g h e x y edge vertex ok con)) lk twin-stays k-stays (middle-twin g h e x y edge vertex ok con ∙ sym k_tail)
          (λ q. contracted-not_kept g e x y (k / 2) k_kept (ap (λ d. d / 2) (sym q) ∙ twin-edge middle ∙ dart_from-edge g x e))

      -- a dart of x does not both follow the edge and come before it
      not-both : (w : ℕ) → w < dart_count g → tail g w ≡ x → left middle ≡ w → left w ≡ middle → ⊥
      not-both w l q there back =
          let d = third (tail g (twin w)) in
          elim (two-orbit (dart_count g) left left_back left-map middle w d.0 there back
          (vertices-from (edge_count g) left (stays g e x y) (tail g) (left-vertices g h e x y edge vertex ok okh con r s) middle d.0 (middle-below g h e x y edge vertex ok con) d.1 middle-stays (x-stays d.0 d.1 d.2) (middle-tail g h e x y edge vertex ok con ∙ sym d.2))) [
            | inl i ↦ d.3 (ap (λ z. tail g (twin z)) i ∙ middle-twin g h e x y edge vertex ok con)
            | inr i ↦ d.4 (ap (λ z. tail g (twin z)) i)
          ]

      -- late and early are seen there
      left-late : (w : ℕ) → w < dart_count g → tail g w ≡ x → f w ≡ middle → left w ≡ middle
      left-late w l q t = restricted-next (dart_count g) (stays g e x y) (dart_after g r) (dart_before g r) is-map w l (x-stays w l q) (ap (stays g e x y) t ∙ middle-stays) ∙ t

      left-early : (w : ℕ) → w < dart_count g → tail g w ≡ x → f middle ≡ w → left middle ≡ w
      left-early w l q t = restricted-next (dart_count g) (stays g e x y) (dart_after g r) (dart_before g r) is-map middle (middle-below g h e x y edge vertex ok con) middle-stays (ap (stays g e x y) t ∙ x-stays w l q) ∙ t

    -- two plane rotation systems that are the same with the edge contracted
    module _ (r q t : List (List ℕ)) (s : IsRotationSystem g r) (u : IsRotationSystem g q) (plane : IsPlane g r) (plane_too : IsPlane g q) (first : IsContractedSystem g h e x y edge r t) (second : IsContractedSystem g h e x y edge q t) where
      abbrev left_one : ℕ → ℕ
      left_one = restricted (dart_count g) (stays g e x y) (dart_after g r)

      abbrev left_two : ℕ → ℕ
      left_two = restricted (dart_count g) (stays g e x y) (dart_after g q)

      -- their contracted maps are one
      one-small : (d : ℕ) → d < dart_count g → contracted middle left_one d ≡ contracted middle left_two d
      one-small d l = elim (cases_Bool (kept d)) [
        | inl v ↦
            let in_h : moved (place h edge) d < dart_count h = placed-in g h e x y edge vertex ok con d l v in
            let there : moved edge (moved (place h edge) d) ≡ d = placed-back g h e x y edge vertex ok con d l v in
            ap (contracted middle left_one) (sym there) ∙ sym (first (moved (place h edge) d) in_h) ∙ second (moved (place h edge) d) in_h ∙ ap (contracted middle left_two) there
        | inr v ↦ small-alone g h e x y edge vertex ok okh con r s d l v ∙ sym (small-alone g h e x y edge vertex ok okh con q u d l v)
      ]

      -- so their maps without the edges that are not kept are
      one-left : (d : ℕ) → d < dart_count g → left_one d ≡ left_two d
      one-left = contraction-tells (edge_count g) left_one (restricted (dart_count g) (stays g e x y) (dart_before g r)) left_two (restricted (dart_count g) (stays g e x y) (dart_before g q))
          (left-map r s plane) (left-map q u plane_too) (tail g) (left-tail r s plane) (left-tail q u plane_too) middle (middle-below g h e x y edge vertex ok con)
          (λ i. differ (sym (middle-tail g h e x y edge vertex ok con) ∙ i ∙ middle-twin g h e x y edge vertex ok con))
          (middle-moves r s plane) (twin-moves r s plane) (middle-moves q u plane_too) (twin-moves q u plane_too) one-small

      -- and each dart left out has its place
      near : (z : ℕ) → z < dart_count g → stays g e x y z ≡ false → (dart_after g r z ≡ dart_after g q z) ⊎ (dart_before g r z ≡ dart_before g q z)
      near z l out = place_of (gone-dart z l out)
        where
          place_of : Dropped g e x y z → (dart_after g r z ≡ dart_after g q z) ⊎ (dart_before g r z ≡ dart_before g q z)
          place_of w = elim (kind r s plane z w) [
            | inl a ↦ elim (kind q u plane_too z w) [
              | inl b ↦ elim w.which [
                | inl i ↦ inl (ap (dart_after g r) i ∙ a.2 ∙ sym (ap (dart_after g q) i ∙ b.2))
                | inr i ↦ inr (back r s (twin middle) below (a.1 ∙ sym i) ∙ sym (back q u (twin middle) below (b.1 ∙ sym i)))
              ]
              | inr b ↦ absurd (not-both r s plane (w.over) w.over_dart w.leaves (one-left middle (middle-below g h e x y edge vertex ok con) ∙ left-early q u plane_too (w.over) w.over_dart w.leaves b.0) (left-late r s plane (w.over) w.over_dart w.leaves a.0))
            ]
            | inr a ↦ elim (kind q u plane_too z w) [
              | inl b ↦ absurd (not-both r s plane (w.over) w.over_dart w.leaves (left-early r s plane (w.over) w.over_dart w.leaves a.0) (one-left (w.over) w.over_dart ∙ left-late q u plane_too (w.over) w.over_dart w.leaves b.0))
              | inr b ↦ elim w.which [
                | inl i ↦ inr (back r s (twin (w.over)) (twin-below (edge_count g) (w.over) w.over_dart) (a.2 ∙ sym i) ∙ sym (back q u (twin (w.over)) (twin-below (edge_count g) (w.over) w.over_dart) (b.2 ∙ sym i)))
                | inr i ↦ inl (ap (dart_after g r) i ∙ a.1 ∙ sym (ap (dart_after g q) i ∙ b.1))
              ]
            ]
          ]
            where
              below : twin middle < dart_count g
              below = twin-below (edge_count g) middle (middle-below g h e x y edge vertex ok con)

              back : (p : List (List ℕ)) → IsRotationSystem g p → (c : ℕ) → c < dart_count g → dart_after g p c ≡ z → dart_before g p z ≡ c
              back p v c j i = permutes-back (dart_count g) (dart_after g p) (dart_before g p) (map-permutes g p ok v) c z j i

      contracted-same : r ≡ q
      contracted-same = orders-told g r q s u (restriction-tells (dart_count g) (stays g e x y) (dart_after g r) (dart_before g r) (dart_after g q) (dart_before g q) (map-permutes g r ok s) (map-permutes g q ok u)
          (single r s plane) (single q u plane_too) one-left near)

-- plane rotation systems that are the same with the edge contracted are the same, where y has a neighbour of its own
pub contracted-tells : (g h : Multigraph) (e x y : ℕ) (edge vertex : ℕ → ℕ) → IsGraph g → IsGraph h → IsTriconnected g → IsContractible g x y → IsContraction g h e x y edge vertex
    → (v : ℕ) → v ≢ x → are_adjacent g y v ≡ true → are_adjacent g x v ≡ false
    → (r q t : List (List ℕ)) → IsRotationSystem g r → IsRotationSystem g q → IsPlane g r → IsPlane g q → IsContractedSystem g h e x y edge r t → IsContractedSystem g h e x y edge q t → r ≡ q
contracted-tells g h e x y edge vertex ok okh tri may con v vx yv xv r q t s u plane plane_too first second =
    let w = joined-dart g ok y v yv in
    contracted-same g h e x y edge vertex ok okh con tri may w.0 w.1 w.2 (private w) r q t s u plane plane_too first second
  where
    private : (w : DartFromTo g y v) → is_kept g e x y (w.0 / 2) ≡ true
    private w = ap (is_kept g e x y) (sym (twin-edge w.0)) ∙ kept-private g ok e x y (twin w.0) (twin-below (edge_count g) w.0 w.1)
        (λ i. elim (middle-cases g h e x y edge vertex ok con (twin w.0) i) [
          | inl j ↦ vx (sym w.3 ∙ ap (tail g) j ∙ middle-tail g h e x y edge vertex ok con)
          | inr j ↦ tail-other g w.0 ok w.1 (ap (tail g) j ∙ middle-twin g h e x y edge vertex ok con ∙ sym w.2)
        ])
        (ap (tail g) (twin-twin w.0) ∙ w.2)
        (ap (are_adjacent g x) w.3 ∙ xv)
