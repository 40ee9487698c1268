-- A triangle of a plane rotation system, without the vertices of which the graph stays connected, is a face.
use Rattle.std.proofs.Common.{◌≡◌, ◌≢◌, ℕ, ◌*◌, ◌<◌, ◌⊎◌, inl, inr, Bool, true, false, cond, not, ◌||◌, ◌==◌, List, [], ◌∷◌, refl, sym, ap, ◌∙◌, subst}
use Rattle.std.proofs.lemmas.Bool.{cases_Bool, cases_eq, both_ways, eq-eqb, eqb-true, ne_eqb, not_from_false, not-true, or_cases, or_left, or_right, or_from}
use Rattle.permutations.specs.Members.{is_member}
use Rattle.permutations.specs.Relation.{IsEquivalence}
use Rattle.permutations.proofs.Permutations.{permutes-one-to-one}
use Rattle.permutations.proofs.Orbits.{orbit-equivalence, orbit-step}
use Rattle.permutations.proofs.Unlinking.{alone-orbit}
use Rattle.multigraph.specs.Graph.{Multigraph, IsGraph, edge_count}
use Rattle.rotations.specs.Rotation.{IsRotationSystem}
use Rattle.graph_theory.specs.Triconnected.{IsSimple, IsConnectedWithout}
use Rattle.dart_maps.specs.Map as maps
use Rattle.dart_maps.specs.Map.{twin, IsMap, same_vertex, same_component}
use Rattle.dart_maps.specs.Changes.{contracted, follows, dropped}
use Rattle.dart_maps.specs.Order.{frozen, connected_around}
use Rattle.dart_maps.proofs.Darts.{twin-twin, twin-other, twin-below, twin-one}
use Rattle.dart_maps.proofs.Steps.{back_after}
use Rattle.dart_maps.proofs.Components.{component-equivalence, component-twin, component-ext}
use Rattle.dart_maps.proofs.Contract.{contracted-here, contracted-twin, contracted-before, contracted-before-twin, contracted-other, follows-own, contract-plane, contracted-map}
use Rattle.dart_maps.proofs.FourDarts.{frozen-here, frozen-elsewhere}
use Rattle.faces.specs.Euler.{tail, dart_count, IsPlane}
use Rattle.faces.specs.Maps.{dart_after, dart_before}
use Rattle.faces.proofs.MapSteps.{tail-in, after-tail, map-permutes}
use Rattle.faces.proofs.MapVertices.{map-vertex, tail-vertex}
use Rattle.faces.proofs.MapCounts.{plane-map}
use Rattle.planarity.specs.ContractionLaws.{IsTriangle, IsTriangularFace}
use Rattle.planarity.proofs.TriangleLoop.{one_of_two, two-first, two-second, two-not, two-orbit, loop-parts}
use Rattle.planarity.proofs.ContractedVertices.{AreVertices, SameBut, ends-apart, contracted-vertices}
use Rattle.faces.proofs.RestrictedConnection.{near-connected}
use Rattle.planarity.proofs.SimpleDarts.{tail-other, simple-dart, simple-twin}

-- q made p, all else as it was
abbrev pub merged : ℕ → ℕ → ℕ → ℕ
merged p q v = cond (v == q) p v

merged-second : (p q : ℕ) → merged p q q ≡ p
merged-second p q = rw (eq-eqb q q refl) refl

merged-other : (p q v : ℕ) → (v ≡ q → ⊥) → merged p q v ≡ v
merged-other p q v n = rw (ne_eqb v q n) refl

merged-ends : (p q : ℕ) → merged p q p ≡ merged p q q
merged-ends p q = elim (cases_eq p q) [
  | inl e ↦ ap (merged p q) e
  | inr n ↦ merged-other p q p n ∙ sym (merged-second p q)
]

-- only p and q have become one
merged-once : (p q u v : ℕ) → merged p q u ≡ merged p q v → SameBut p q u v
merged-once p q u v h = elim (cases_eq u q) [
  | inl a ↦ elim (cases_eq v q) [
    | inl b ↦ inl (a ∙ sym b)
    | inr n ↦ inr (inr (a, sym (merged-other p q v n) ∙ sym h ∙ ap (merged p q) a ∙ merged-second p q))
  ]
  | inr n ↦ elim (cases_eq v q) [
    | inl b ↦ inr (inl (sym (merged-other p q u n) ∙ h ∙ ap (merged p q) b ∙ merged-second p q, b))
    | inr k ↦ inl (sym (merged-other p q u n) ∙ h ∙ merged-other p q v k)
  ]
]

-- a plane rotation system of a simple graph, and three darts one after the other that lead back
module _ (g : Multigraph) (r : List (List ℕ)) (ok : IsGraph g) (s : IsRotationSystem g r) (plane : IsPlane g r) (simple : IsSimple g) (a b c : ℕ) (la : a < dart_count g) (lb : b < dart_count g) (lc : c < dart_count g)
    (ab : tail g (twin a) ≡ tail g b) (bc : tail g (twin b) ≡ tail g c) (ca : tail g (twin c) ≡ tail g a) (around : IsConnectedWithout g (tail g a ∷ tail g b ∷ tail g c ∷ [])) where
  abbrev m : ℕ
  m = edge_count g

  abbrev f : ℕ → ℕ
  f = dart_after g r

  abbrev at : ℕ → ℕ
  at = tail g

  is-map : IsMap (edge_count g) (dart_after g r) (dart_before g r)
  is-map = map-permutes g r ok s

  -- the three vertices are different
  pq : at a ≡ at b → ⊥
  pq q = tail-other g a ok la (ab ∙ sym q)

  qt : at b ≡ at c → ⊥
  qt q = tail-other g b ok lb (bc ∙ sym q)

  tp : at c ≡ at a → ⊥
  tp q = tail-other g c ok lc (ca ∙ sym q)

  -- a step keeps the vertex
  step : (d : ℕ) → d < 2 * m → at (f d) ≡ at d
  step d l = after-tail g r d ok s l

  -- darts of different vertices are different
  differ : (x y : ℕ) → (at x ≡ at y → ⊥) → x ≡ y → ⊥
  differ x y n q = n (ap at q)

  -- a dart that shares its vertex with another one is followed by another one
  moves : (x y : ℕ) → x < 2 * m → y < 2 * m → at x ≡ at y → (x ≡ y → ⊥) → f x ≡ x → ⊥
  moves x y l k q n h = n (alone-orbit (2 * m) x f (dart_before g r) is-map l h y (tail-vertex g r ok s x y l k q))

  lat : twin a < 2 * m
  lat = twin-below m a la

  lbt : twin b < 2 * m
  lbt = twin-below m b lb

  lct : twin c < 2 * m
  lct = twin-below m c lc

  -- the darts of the triangle are different
  a_tb : a ≡ twin b → ⊥
  a_tb = differ a (twin b) (λ q. tp (sym (q ∙ bc)))

  a_tc : a ≡ twin c → ⊥
  a_tc q = qt (sym ab ∙ ap at (ap twin q ∙ twin-twin c))

  b_ta : b ≡ twin a → ⊥
  b_ta q = tp (sym bc ∙ ap at (ap twin q ∙ twin-twin a))

  c_tb : c ≡ twin b → ⊥
  c_tb q = pq (sym ca ∙ ap at (ap twin q ∙ twin-twin b))

  -- one of the three vertices
  abbrev corner : ℕ → Bool
  corner x = is_member (tail g x) (tail g a ∷ tail g b ∷ tail g c ∷ [])

  corner-cases : (x : ℕ) → corner x ≡ true → (at a ≡ at x) ⊎ ((at b ≡ at x) ⊎ (at c ≡ at x))
  corner-cases x h = elim (or_cases (at a == at x) ((at b == at x) || ((at c == at x) || false)) h) [
    | inl t ↦ inl (eqb-true (at a) (at x) t)
    | inr w ↦ elim (or_cases (at b == at x) ((at c == at x) || false) w) [
      | inl t ↦ inr (inl (eqb-true (at b) (at x) t))
      | inr w ↦ elim (or_cases (at c == at x) false w) [
        | inl t ↦ inr (inr (eqb-true (at c) (at x) t))
        | inr t ↦ absurd (both_ways false refl t)
      ]
    ]
  ]

  corner-a : (x : ℕ) → at a ≡ at x → corner x ≡ true
  corner-a x q = or_left (at a == at x) ((at b == at x) || ((at c == at x) || false)) (eq-eqb (at a) (at x) q)

  corner-b : (x : ℕ) → at b ≡ at x → corner x ≡ true
  corner-b x q = or_right (at a == at x) ((at b == at x) || ((at c == at x) || false)) (or_left (at b == at x) ((at c == at x) || false) (eq-eqb (at b) (at x) q))

  corner-c : (x : ℕ) → at c ≡ at x → corner x ≡ true
  corner-c x q = or_right (at a == at x) ((at b == at x) || ((at c == at x) || false)) (or_right (at b == at x) ((at c == at x) || false) (or_left (at c == at x) false (eq-eqb (at c) (at x) q)))

  corner-not : (x : ℕ) → (at a ≡ at x → ⊥) → (at b ≡ at x → ⊥) → (at c ≡ at x → ⊥) → corner x ≡ false
  corner-not x i j k = or_from (at a == at x) ((at b == at x) || ((at c == at x) || false)) (ne_eqb (at a) (at x) i)
      (or_from (at b == at x) ((at c == at x) || false) (ne_eqb (at b) (at x) j) (or_from (at c == at x) false (ne_eqb (at c) (at x) k) refl))

  -- the map with a's edge contracted, and then with b's
  abbrev one : ℕ → ℕ
  one = contracted a f

  abbrev two : ℕ → ℕ
  two = contracted b (contracted a (dart_after g r))

  told : AreVertices m f (λ x. true) at
  told x y l k _ _ = map-vertex g r ok s x y l k

  abbrev at_one : ℕ → ℕ
  at_one x = merged (at a) (at (twin a)) (at x)

  abbrev live_one : ℕ → Bool
  live_one x = not (one_of_two a (twin a) x)

  a-apart : at a ≢ at (twin a)
  a-apart q = pq (q ∙ ab)

  told-one : AreVertices m one live_one at_one
  told-one x y l k u w = contracted-vertices m f (dart_before g r) is-map (λ z. true) at told a la refl refl a-apart (merged (at a) (at (twin a))) (merged-ends (at a) (at (twin a)))
      (λ z v _ _ _ _ q. merged-once (at a) (at (twin a)) (at z) (at v) q) x y l k refl refl (off x u).0 (off x u).1 (off y w).0 (off y w).1
    where
      off : (z : ℕ) → live_one z ≡ true → (z ≡ a → ⊥) × (z ≡ twin a → ⊥)
      off z h = (
        λ q. both_ways (one_of_two a (twin a) z) (not-true (one_of_two a (twin a) z) h) (subst (λ v. one_of_two a (twin a) v ≡ true) (sym q) (two-first a (twin a))),
        λ q. both_ways (one_of_two a (twin a) z) (not-true (one_of_two a (twin a) z) h) (subst (λ v. one_of_two a (twin a) v ≡ true) (sym q) (two-second a (twin a))),
      )

  lives-one : (x : ℕ) → (x ≡ a → ⊥) → (x ≡ twin a → ⊥) → live_one x ≡ true
  lives-one x i j = not_from_false (one_of_two a (twin a) x) (two-not a (twin a) x i j)

  one-map : IsMap m one (dropped a (back_after (dart_before g r a) (twin a) (dart_before g r)))
  one-map = contracted-map m f (dart_before g r) is-map a la (ends-apart m f (dart_before g r) is-map (λ z. true) at told a la refl refl a-apart (merged (at a) (at (twin a))) (merged-ends (at a) (at (twin a))) (λ z v _ _ _ _ q. merged-once (at a) (at (twin a)) (at z) (at v) q))

  one-plane : maps.IsPlane m one
  one-plane = contract-plane m f (dart_before g r) is-map a la (ends-apart m f (dart_before g r) is-map (λ z. true) at told a la refl refl a-apart (merged (at a) (at (twin a))) (merged-ends (at a) (at (twin a))) (λ z v _ _ _ _ q. merged-once (at a) (at (twin a)) (at z) (at v) q)) (plane-map g r ok s plane)

  -- at the first and second vertex the value is the first
  one-first : (x : ℕ) → at x ≡ at a → at_one x ≡ at a
  one-first x q = ap (merged (at a) (at (twin a))) q ∙ merged-other (at a) (at (twin a)) (at a) a-apart

  one-second : (x : ℕ) → at x ≡ at b → at_one x ≡ at a
  one-second x q = ap (merged (at a) (at (twin a))) (q ∙ sym ab) ∙ merged-second (at a) (at (twin a))

  -- elsewhere it is the vertex
  one-other : (x : ℕ) → (at b ≡ at x → ⊥) → at_one x ≡ at x
  one-other x n = merged-other (at a) (at (twin a)) (at x) (λ q. n (sym (q ∙ ab)))

  b-lives : live_one b ≡ true
  b-lives = lives-one b (differ b a (λ q. pq (sym q))) b_ta

  bt-lives : live_one (twin b) ≡ true
  bt-lives = lives-one (twin b) (λ q. a_tb (sym q)) (λ q. pq (ap at (sym (twin-one b a q))))

  b-apart : at_one b ≢ at_one (twin b)
  b-apart q = tp (sym (sym (one-second b refl) ∙ q ∙ one-other (twin b) (λ h. qt (h ∙ bc)) ∙ bc))

  abbrev at_two : ℕ → ℕ
  at_two x = merged (at_one b) (at_one (twin b)) (at_one x)

  two-told : (x y : ℕ) → x < 2 * m → y < 2 * m → live_one x ≡ true → live_one y ≡ true → (x ≡ b → ⊥) → (x ≡ twin b → ⊥) → (y ≡ b → ⊥) → (y ≡ twin b → ⊥) → same_vertex m two x y ≡ (at_two x == at_two y)
  two-told = contracted-vertices m one (dropped a (back_after (dart_before g r a) (twin a) (dart_before g r))) one-map live_one at_one told-one b lb b-lives bt-lives b-apart (merged (at_one b) (at_one (twin b))) (merged-ends (at_one b) (at_one (twin b)))
      (λ z v _ _ _ _ q. merged-once (at_one b) (at_one (twin b)) (at_one z) (at_one v) q)

  b-ends : same_vertex m one b (twin b) ≡ false
  b-ends = ends-apart m one (dropped a (back_after (dart_before g r a) (twin a) (dart_before g r))) one-map live_one at_one told-one b lb b-lives bt-lives b-apart (merged (at_one b) (at_one (twin b))) (merged-ends (at_one b) (at_one (twin b)))
      (λ z v _ _ _ _ q. merged-once (at_one b) (at_one (twin b)) (at_one z) (at_one v) q)

  abbrev two_back : ℕ → ℕ
  two_back = dropped b (back_after (dropped a (back_after (dart_before g r a) (twin a) (dart_before g r)) b) (twin b) (dropped a (back_after (dart_before g r a) (twin a) (dart_before g r))))

  two-map : IsMap m two two_back
  two-map = contracted-map m one (dropped a (back_after (dart_before g r a) (twin a) (dart_before g r))) one-map b lb b-ends

  two-plane : maps.IsPlane m two
  two-plane = contract-plane m one (dropped a (back_after (dart_before g r a) (twin a) (dart_before g r))) one-map b lb b-ends one-plane

  -- all three vertices have the value of the first, and no other has
  two-corner : (x : ℕ) → corner x ≡ true → at_two x ≡ at a
  two-corner x h = elim (corner-cases x h) [
    | inl q ↦ ap (merged (at_one b) (at_one (twin b))) (one-first x (sym q)) ∙ low
    | inr w ↦ elim w [
      | inl q ↦ ap (merged (at_one b) (at_one (twin b))) (one-second x (sym q)) ∙ low
      | inr q ↦ ap (merged (at_one b) (at_one (twin b))) (one-other x (λ i. qt (i ∙ sym q)) ∙ sym q ∙ sym (one-other (twin b) (λ i. qt (i ∙ bc)) ∙ bc)) ∙ merged-second (at_one b) (at_one (twin b)) ∙ one-second b refl
    ]
  ]
    where
      low : merged (at_one b) (at_one (twin b)) (at a) ≡ at a
      low = merged-other (at_one b) (at_one (twin b)) (at a) (λ q. tp (sym (q ∙ one-other (twin b) (λ i. qt (i ∙ bc)) ∙ bc)))

  two-away : (x : ℕ) → corner x ≡ false → at_two x ≡ at a → ⊥
  two-away x h q =
      let n : at b ≡ at x → ⊥ = λ i. both_ways (corner x) h (corner-b x i) in
      both_ways (corner x) h (corner-a x (sym (sym (merged-other (at_one b) (at_one (twin b)) (at x) (λ i. both_ways (corner x) h (corner-c x (sym (i ∙ one-other (twin b) (λ j. qt (j ∙ bc)) ∙ bc))))) ∙ ap (merged (at_one b) (at_one (twin b))) (sym (one-other x n)) ∙ q)))

  -- the two darts of the loop c are at one vertex
  loop : same_vertex m two c (twin c) ≡ true
  loop = two-told c (twin c) lc lct (lives-one c (differ c a tp) (differ c (twin a) (λ q. qt (sym (q ∙ ab))))) (lives-one (twin c) (λ q. a_tc (sym q)) (λ q. tp (ap at (twin-one c a q))))
      (differ c b (λ q. qt (sym q))) c_tb (differ (twin c) b (λ q. pq (sym ca ∙ q))) (λ q. qt (ap at (sym (twin-one c b q))))
      ∙ eq-eqb (at_two c) (at_two (twin c)) (two-corner c (corner-c c refl) ∙ sym (two-corner (twin c) (corner-a (twin c) (sym ca))))

  -- the four darts that are contracted are alone
  two-a : two a ≡ a
  two-a = contracted-other b one a (differ a b pq) a_tb (λ q. differ a b pq (sym (contracted-here a f) ∙ q)) (λ q. a_tb (sym (contracted-here a f) ∙ q)) ∙ contracted-here a f

  two-ta : two (twin a) ≡ twin a
  two-ta = contracted-other b one (twin a) (λ q. b_ta (sym q)) (λ q. pq (ap at (twin-one a b q))) (λ q. b_ta (sym q ∙ contracted-twin a f)) (λ q. pq (ap at (twin-one a b (sym (contracted-twin a f) ∙ q)))) ∙ contracted-twin a f

  -- away from the three vertices nothing is changed
  two-other : (x : ℕ) → x < 2 * m → corner x ≡ false → two x ≡ f x
  two-other x l h =
      let na : at a ≡ at x → ⊥ = λ i. both_ways (corner x) h (corner-a x i) in
      let nb : at b ≡ at x → ⊥ = λ i. both_ways (corner x) h (corner-b x i) in
      let nc : at c ≡ at x → ⊥ = λ i. both_ways (corner x) h (corner-c x i) in
      let first : one x ≡ f x = contracted-other a f x (differ x a (λ q. na (sym q))) (differ x (twin a) (λ q. nb (sym (q ∙ ab)))) (differ (f x) a (λ q. na (sym (sym (step x l) ∙ q)))) (differ (f x) (twin a) (λ q. nb (sym (sym (step x l) ∙ q ∙ ab)))) in
      contracted-other b one x (differ x b (λ q. nb (sym q))) (differ x (twin b) (λ q. nc (sym (q ∙ bc))))
      (λ q. nb (sym (sym (step x l) ∙ ap at (sym first ∙ q)))) (λ q. nc (sym (sym (step x l) ∙ ap at (sym first ∙ q) ∙ bc)))
      ∙ first

  -- so opening the vertex of the loop there is opening the three vertices
  opened : (x : ℕ) → x < 2 * m → frozen corner f x ≡ frozen (same_vertex m two (twin c)) two x
  opened x l = elim (cases_eq x a) [
    | inl q ↦ alone x (corner-a x (ap at (sym q))) (ap two q ∙ two-a ∙ sym q)
    | inr na ↦ elim (cases_eq x (twin a)) [
      | inl q ↦ alone x (corner-b x (sym (ap at q ∙ ab))) (ap two q ∙ two-ta ∙ sym q)
      | inr nta ↦ elim (cases_eq x b) [
        | inl q ↦ alone x (corner-b x (ap at (sym q))) (ap two q ∙ contracted-here b one ∙ sym q)
        | inr nb ↦ elim (cases_eq x (twin b)) [
          | inl q ↦ alone x (corner-c x (sym (ap at q ∙ bc))) (ap two q ∙ contracted-twin b one ∙ sym q)
          | inr ntb ↦ others na nta nb ntb
        ]
      ]
    ]
  ]
    where
      alone : (z : ℕ) → corner z ≡ true → two z ≡ z → frozen corner f z ≡ frozen (same_vertex m two (twin c)) two z
      alone z h q = frozen-here corner f z h ∙ sym (elim (cases_Bool (same_vertex m two (twin c) z)) [
        | inl t ↦ frozen-here (same_vertex m two (twin c)) two z t
        | inr t ↦ frozen-elsewhere (same_vertex m two (twin c)) two z t ∙ q
      ])

      others : (x ≡ a → ⊥) → (x ≡ twin a → ⊥) → (x ≡ b → ⊥) → (x ≡ twin b → ⊥) → frozen corner f x ≡ frozen (same_vertex m two (twin c)) two x
      others na nta nb ntb = elim (cases_Bool (corner x)) [
        | inl h ↦ frozen-here corner f x h ∙ sym (frozen-here (same_vertex m two (twin c)) two x (here ∙ eq-eqb (at_two (twin c)) (at_two x) (at_c ∙ sym (two-corner x h))))
        | inr h ↦ frozen-elsewhere corner f x h ∙ sym (two-other x l h) ∙ sym (frozen-elsewhere (same_vertex m two (twin c)) two x (here ∙ ne_eqb (at_two (twin c)) (at_two x) (λ q. two-away x h (sym q ∙ at_c))))
      ]
        where
          here : same_vertex m two (twin c) x ≡ (at_two (twin c) == at_two x)
          here = two-told (twin c) x lct l (lives-one (twin c) (λ q. a_tc (sym q)) (λ q. tp (ap at (twin-one c a q)))) (lives-one x na nta) (differ (twin c) b (λ q. pq (sym ca ∙ q))) (λ q. qt (ap at (sym (twin-one c b q)))) nb ntb

          at_c : at_two (twin c) ≡ at a
          at_c = two-corner (twin c) (corner-a (twin c) (sym ca))

  -- a dart of the three vertices that is none of the triangle's leads away from them
  leads-away : (x : ℕ) → x < 2 * m → corner x ≡ true → (x ≡ a → ⊥) → (x ≡ twin a → ⊥) → (x ≡ b → ⊥) → (x ≡ twin b → ⊥) → (x ≡ c → ⊥) → (x ≡ twin c → ⊥) → corner (twin x) ≡ false
  leads-away x l h na nta nb ntb nc ntc = elim (corner-cases x h) [
    | inl q ↦ corner-not (twin x)
        (λ i. tail-other g x ok l (sym i ∙ q))
        (λ i. na (simple-dart g ok simple x a l la (sym q) (sym i ∙ sym ab)))
        (λ i. ntc (simple-twin g ok simple x c l lc (sym q ∙ sym ca) (sym i)))
    | inr w ↦ elim w [
      | inl q ↦ corner-not (twin x)
          (λ i. nta (simple-twin g ok simple x a l la (sym q ∙ sym ab) (sym i)))
          (λ i. tail-other g x ok l (sym i ∙ q))
          (λ i. nb (simple-dart g ok simple x b l lb (sym q) (sym i ∙ sym bc)))
      | inr q ↦ corner-not (twin x)
          (λ i. nc (simple-dart g ok simple x c l lc (sym q) (sym i ∙ sym ca)))
          (λ i. ntb (simple-twin g ok simple x b l lb (sym q ∙ sym bc) (sym i)))
          (λ i. tail-other g x ok l (sym i ∙ q))
    ]
  ]

  -- what follows an end of the loop, and is not the other end, leads away
  follower : (x : ℕ) → x < 2 * m → same_vertex m two (twin c) x ≡ true → (two x ≡ c → ⊥) → (two x ≡ twin c → ⊥) → (x ≡ a → ⊥) → (x ≡ twin a → ⊥) → (x ≡ b → ⊥) → (x ≡ twin b → ⊥) → (corner (two x) ≡ true) × (corner (twin (two x)) ≡ false)
  follower x l v nc ntc xa xta xb xtb = (inside, leads-away (two x) (two-map.forth x l) inside na nta nb ntb nc ntc)
    where
      na : two x ≡ a → ⊥
      na q = xa (permutes-one-to-one (2 * m) two two_back two-map x a l la (q ∙ sym two-a))

      nta : two x ≡ twin a → ⊥
      nta q = xta (permutes-one-to-one (2 * m) two two_back two-map x (twin a) l lat (q ∙ sym two-ta))

      nb : two x ≡ b → ⊥
      nb q = xb (permutes-one-to-one (2 * m) two two_back two-map x b l lb (q ∙ sym (contracted-here b one)))

      ntb : two x ≡ twin b → ⊥
      ntb q = xtb (permutes-one-to-one (2 * m) two two_back two-map x (twin b) l lbt (q ∙ sym (contracted-twin b one)))

      there : same_vertex m two (twin c) (two x) ≡ true
      there = (orbit-equivalence (2 * m) two).transitive (twin c) x (two x) v (orbit-step (2 * m) two x l)

      same : at_two (twin c) ≡ at_two (two x)
      same = eqb-true (at_two (twin c)) (at_two (two x)) (sym (two-told (twin c) (two x) lct (two-map.forth x l) (lives-one (twin c) (λ q. a_tc (sym q)) (λ q. tp (ap at (twin-one c a q)))) (lives-one (two x) na nta) (differ (twin c) b (λ q. pq (sym ca ∙ q))) (λ q. qt (ap at (sym (twin-one c b q)))) nb ntb) ∙ there)

      inside : corner (two x) ≡ true
      inside = elim (cases_Bool (corner (two x))) [
        | inl t ↦ t
        | inr t ↦ absurd (two-away (two x) t (sym same ∙ two-corner (twin c) (corner-a (twin c) (sym ca))))
      ]

  -- so on one side of the loop nothing is left
  side : (two c ≡ twin c → ⊥) → (two (twin c) ≡ c → ⊥) → ⊥
  side nc ntc = loop-parts m two two_back two-map c lc loop nc ntc two-plane joined
    where
      e : IsEquivalence (same_component m (frozen corner f))
      e = component-equivalence m (frozen corner f)

      lu : two (twin c) < 2 * m
      lu = two-map.forth (twin c) lct

      lv : two c < 2 * m
      lv = two-map.forth c lc

      back : same_vertex m two (twin c) c ≡ true
      back = (orbit-equivalence (2 * m) two).symmetric c (twin c) loop

      u : (corner (two (twin c)) ≡ true) × (corner (twin (two (twin c))) ≡ false)
      u = follower (twin c) lct ((orbit-equivalence (2 * m) two).reflexive (twin c)) ntc
          (λ q. twin-other c (alone-orbit (2 * m) (twin c) two two_back two-map lct q c back))
          (λ q. a_tc (sym q)) (λ q. tp (ap at (twin-one c a q))) (differ (twin c) b (λ q. pq (sym ca ∙ q))) (λ q. qt (ap at (sym (twin-one c b q))))

      v : (corner (two c) ≡ true) × (corner (twin (two c)) ≡ false)
      v = follower c lc back (λ q. twin-other c (sym (alone-orbit (2 * m) c two two_back two-map lc q (twin c) loop))) nc
          (differ c a tp) (differ c (twin a) (λ q. qt (sym (q ∙ ab)))) (differ c b (λ q. qt (sym q))) c_tb

      over : same_component m (frozen corner f) (twin (two (twin c))) (twin (two c)) ≡ true
      over = near-connected g r ok s (tail g a ∷ tail g b ∷ tail g c ∷ []) (twin (two (twin c))) (twin (two c)) (twin-below m (two (twin c)) lu) (twin-below m (two c) lv) u.1 v.1
          (around (at (twin (two (twin c)))) (at (twin (two c))) (tail-in g (twin (two (twin c))) ok (twin-below m (two (twin c)) lu)) (tail-in g (twin (two c)) ok (twin-below m (two c) lv)) u.1 v.1)

      joined : connected_around m two (twin c) (two (twin c)) (two c) ≡ true
      joined = sym (component-ext m (frozen corner f) (frozen (same_vertex m two (twin c)) two) opened (two (twin c)) (two c))
          ∙ e.transitive (two (twin c)) (twin (two c)) (two c)
          (e.transitive (two (twin c)) (twin (two (twin c))) (twin (two c)) (component-twin m (frozen corner f) (two (twin c)) lu) over)
          (e.symmetric (two c) (twin (two c)) (component-twin m (frozen corner f) (two c) lv))

  -- where c follows its twin, the triangle is a face
  ahead : two (twin c) ≡ c → (f (twin c) ≡ a) × (f (twin a) ≡ b) × (f (twin b) ≡ c)
  ahead h = elim (cases_eq (f (twin c)) a) [
    | inl q ↦
        let first : one (twin c) ≡ f (twin a) = contracted-before a f (twin c) (λ i. a_tc (sym i)) (λ i. tp (ap at (twin-one c a i))) q ∙ follows-own (twin a) a f (moves (twin a) b lat lb ab (λ i. b_ta (sym i))) in
        elim (cases_eq (f (twin a)) b) [
          | inl w ↦
              let there : one (twin b) ≡ f (twin b) = contracted-other a f (twin b) (λ i. a_tb (sym i)) (λ i. pq (ap at (sym (twin-one b a i)))) (λ i. tp (sym bc ∙ sym (step (twin b) lbt) ∙ ap at i)) (λ i. qt (sym (sym bc ∙ sym (step (twin b) lbt) ∙ ap at i ∙ ab))) in (
                q,
                w,
                sym there
                    ∙ sym (follows-own (twin b) b one (λ i. moves (twin b) c lbt lc bc (λ j. c_tb (sym j)) (sym there ∙ i)))
                    ∙ sym (contracted-before b one (twin c) (differ (twin c) b (λ i. pq (sym ca ∙ i))) (λ i. qt (ap at (sym (twin-one c b i)))) (first ∙ w))
                    ∙ h,
              )
          | inr n ↦ absurd (qt (sym (step (twin a) lat ∙ ab) ∙ ap at (sym first ∙ sym (contracted-other b one (twin c) (differ (twin c) b (λ i. pq (sym ca ∙ i))) (λ i. qt (ap at (sym (twin-one c b i)))) (λ i. n (sym first ∙ i)) (λ i. qt (sym (step (twin a) lat ∙ ab) ∙ ap at (sym first ∙ i) ∙ bc))) ∙ h)))
        ]
    | inr n ↦
        let first : one (twin c) ≡ f (twin c) = contracted-other a f (twin c) (λ i. a_tc (sym i)) (λ i. tp (ap at (twin-one c a i))) n (λ i. pq (sym (step (twin c) lct ∙ ca) ∙ ap at i ∙ ab)) in
        absurd (tp (sym (sym (step (twin c) lct ∙ ca) ∙ ap at (sym first ∙ sym (contracted-other b one (twin c) (differ (twin c) b (λ i. pq (sym ca ∙ i))) (λ i. qt (ap at (sym (twin-one c b i)))) (λ i. pq (sym (step (twin c) lct ∙ ca) ∙ ap at (sym first ∙ i))) (λ i. tp (sym (sym (step (twin c) lct ∙ ca) ∙ ap at (sym first ∙ i) ∙ bc)))) ∙ h))))
  ]

  -- where the twin follows c, the triangle run through the other way is one
  astern : two c ≡ twin c → (f a ≡ twin c) × (f b ≡ twin a) × (f c ≡ twin b)
  astern h = elim (cases_eq (f c) (twin b)) [
    | inl q ↦
        let last : two c ≡ follows b (twin b) one = contracted-before-twin b one c (differ c b (λ i. qt (sym i))) c_tb (first ∙ q) in
        elim (cases_eq (f b) (twin a)) [
          | inl w ↦
              let there : one b ≡ f a = contracted-before-twin a f b (differ b a (λ i. pq (sym i))) b_ta w ∙ follows-own a (twin a) f (moves a (twin c) la lct (sym ca) a_tc) in
              (sym there ∙ sym (follows-own b (twin b) one (λ i. pq (sym (step a la) ∙ ap at (sym there ∙ i)))) ∙ sym last ∙ h, w, q)
          | inr n ↦
              let there : one b ≡ f b = contracted-other a f b (differ b a (λ i. pq (sym i))) b_ta (λ i. pq (sym (sym (step b lb) ∙ ap at i))) n in
              absurd (pq (sym (sym (step b lb) ∙ ap at (sym there ∙ sym (follows-own b (twin b) one (λ i. moves b (twin a) lb lat (sym ab) b_ta (sym there ∙ i))) ∙ sym last ∙ h) ∙ ca)))
        ]
    | inr n ↦ absurd (tp (sym (step c lc) ∙ ap at (sym first ∙ sym (contracted-other b one c (differ c b (λ i. qt (sym i))) c_tb (λ i. qt (sym (sym (step c lc) ∙ ap at (sym first ∙ i)))) (λ i. n (sym first ∙ i))) ∙ h) ∙ ca))
  ]
    where
      first : one c ≡ f c
      first = contracted-other a f c (differ c a tp) (differ c (twin a) (λ q. qt (sym (q ∙ ab)))) (λ i. tp (sym (step c lc) ∙ ap at i)) (λ i. qt (sym (sym (step c lc) ∙ ap at i ∙ ab)))

  -- the triangle is a face, run one way or the other
  pub triangle : ((dart_after g r (twin c) ≡ a) × (dart_after g r (twin a) ≡ b) × (dart_after g r (twin b) ≡ c)) ⊎ ((dart_after g r a ≡ twin c) × (dart_after g r b ≡ twin a) × (dart_after g r c ≡ twin b))
  triangle = elim (cases_eq (two c) (twin c)) [
    | inl h ↦ inr (astern h)
    | inr n ↦ elim (cases_eq (two (twin c)) c) [
      | inl h ↦ inl (ahead h)
      | inr k ↦ absurd (side n k)
    ]
  ]

-- in words of faces: a triangle is one, run through one way or the other
pub triangle-face : (g : Multigraph) (r : List (List ℕ)) → IsGraph g → IsRotationSystem g r → IsPlane g r → IsSimple g → (a b c : ℕ) → IsTriangle g a b c → IsConnectedWithout g (tail g a ∷ tail g b ∷ tail g c ∷ [])
    → IsTriangularFace g r a b c ⊎ IsTriangularFace g r (twin c) (twin b) (twin a)
triangle-face g r ok s plane simple a b c t around = elim (triangle g r ok s plane simple a b c t.darts.0 t.darts.1 t.darts.2 t.first t.second t.third around) [
  | inl w ↦ inl w
  | inr w ↦ inr (ap (dart_after g r) (twin-twin a) ∙ w.0, ap (dart_after g r) (twin-twin c) ∙ w.2, ap (dart_after g r) (twin-twin b) ∙ w.1)
]

-- but not both ways, where its first vertex has a third dart
pub triangle-face_once : (g : Multigraph) (r : List (List ℕ)) → IsGraph g → IsRotationSystem g r → (a b c d : ℕ) → IsTriangle g a b c → d < dart_count g → tail g d ≡ tail g a → d ≢ a → d ≢ twin c
    → IsTriangularFace g r a b c → IsTriangularFace g r (twin c) (twin b) (twin a) → ⊥
triangle-face_once g r ok s a b c d t l q da dc back forth = elim (two-orbit (dart_count g) (dart_after g r) (dart_before g r) (map-permutes g r ok s) a (twin c) d (ap (dart_after g r) (sym (twin-twin a)) ∙ forth.0) back.0 (tail-vertex g r ok s a d t.darts.0 l (sym q))) [
  | inl i ↦ da i
  | inr i ↦ dc i
]
