-- The order of the darts: each once, rising by the vertex that it leaves and then by its edge.
use Rattle.std.proofs.Common.{◌≡◌, ℕ, zero, suc, ◌+◌, ◌-◌, ◌/◌, ◌<◌, ◌≤◌, true, ◌&&◌, ◌==◌, ◌⊎◌, nat_lt, List, [], ◌++◌, length, get_or, map, inl, inr, refl, sym, ap, ◌∙◌, subst, arith, length-append}
use Rattle.std.proofs.lemmas.Bool.{eq-eqb, eqb-true, lt-ltb, ltb-true, cases_lt, cases_order, or_cases, or_left, or_right, and_parts}
use Rattle.std.proofs.lemmas.List.{get_or-map, get_or-append_right, get_or_append_left, length-map}
use Rattle.std.proofs.lemmas.List.Elements.{at_from_Contains}
use Rattle.permutations.proofs.Count.{count-all, count-within}
use Rattle.permutations.proofs.Injection.{count-injection}
use Rattle.permutations.specs.Count.{count}
use Rattle.multigraph.specs.Graph.{Multigraph, IsGraph, is_end, incident_edges}
use Rattle.multigraph.proofs.Incident.{incident-has, incident_at-edge, incident_at-end, incident-rises}
use Rattle.faces.specs.Euler.{tail, dart_from, dart_count}
use Rattle.faces.specs.Trace.{precedes, darts_from_below, darts_in_order}
use Rattle.faces.proofs.DartLemmas.{dart-edge, tail-end, dart_from-edge, dart_from-below, dart_from-tail, dart_from-of_dart}

-- a dart comes before another where its vertex is less, or it is the same and the edge is less
pub precedes-vertex : (g : Multigraph) (c d : ℕ) → tail g c < tail g d → precedes g c d ≡ true
precedes-vertex g c d l = or_left (nat_lt (tail g c) (tail g d)) ((tail g c == tail g d) && nat_lt (c / 2) (d / 2)) (lt-ltb (tail g c) (tail g d) l)

pub precedes-edge : (g : Multigraph) (c d : ℕ) → tail g c ≡ tail g d → c / 2 < d / 2 → precedes g c d ≡ true
precedes-edge g c d e l =
    let same : (tail g c == tail g d) ≡ true = eq-eqb (tail g c) (tail g d) e in
    let less : nat_lt (c / 2) (d / 2) ≡ true = lt-ltb (c / 2) (d / 2) l in
    or_right (nat_lt (tail g c) (tail g d)) ((tail g c == tail g d) && nat_lt (c / 2) (d / 2)) (ap (λ b. b && nat_lt (c / 2) (d / 2)) same ∙ less)

pub precedes-cases : (g : Multigraph) (c d : ℕ) → precedes g c d ≡ true → (tail g c < tail g d) ⊎ ((tail g c ≡ tail g d) × (c / 2 < d / 2))
precedes-cases g c d t = elim (or_cases (nat_lt (tail g c) (tail g d)) ((tail g c == tail g d) && nat_lt (c / 2) (d / 2)) t) [
  | inl a ↦ inl (ltb-true (tail g c) (tail g d) a)
  | inr b ↦
      let parts : ((tail g c == tail g d) ≡ true) × (nat_lt (c / 2) (d / 2) ≡ true) = and_parts (tail g c == tail g d) (nat_lt (c / 2) (d / 2)) b in
      inr (eqb-true (tail g c) (tail g d) parts.0, ltb-true (c / 2) (d / 2) parts.1)
]

-- two darts do not come before each other
pub precedes-apart : (g : Multigraph) (c d : ℕ) → precedes g c d ≡ true → precedes g d c ≡ true → ⊥
precedes-apart g c d s t = elim (precedes-cases g c d s) [
  | inl a ↦ elim (precedes-cases g d c t) [
    | inl b ↦ omega arith
    | inr b ↦ let same : tail g d ≡ tail g c = b.0 in omega arith
  ]
  | inr a ↦ elim (precedes-cases g d c t) [
    | inl b ↦ let same : tail g c ≡ tail g d = a.0 in omega arith
    | inr b ↦ let less : c / 2 < d / 2 = a.1 in let more : d / 2 < c / 2 = b.1 in omega arith
  ]
]

-- the darts that leave the vertices below v, in order
pub record InOrder (g : Multigraph) (v : ℕ) (l : List ℕ) : Type 0 where
  pub darts : (i : ℕ) → i < length l → get_or l i 0 < dart_count g
  pub tails : (i : ℕ) → i < length l → tail g (get_or l i 0) < v
  pub complete : (d : ℕ) → d < dart_count g → tail g d < v → (i : ℕ) × (i < length l) × (get_or l i 0 ≡ d)
  pub sorted : (i j : ℕ) → i < j → j < length l → precedes g (get_or l i 0) (get_or l j 0) ≡ true

-- none
pub order-none : (g : Multigraph) → InOrder g 0 []
order-none g = record {
  darts = λ i l. absurd (omega arith);
  tails = λ i l. absurd (omega arith);
  complete = λ d l t. absurd (omega arith);
  sorted = λ i j l m. absurd (omega arith);
}

-- those of one vertex more
pub order-more : (g : Multigraph) (v : ℕ) (l : List ℕ) → IsGraph g → InOrder g v l → InOrder g (suc v) (l ++ map (dart_from g v) (incident_edges g v))
order-more g v l ok o = record {
  darts = λ i k. darts i k;
  tails = λ i k. tails i k;
  complete = λ d k t. complete d k t;
  sorted = λ i j k m. sorted i j k m;
}
  where
    new : List ℕ
    new = map (dart_from g v) (incident_edges g v)

    long : length (l ++ map (dart_from g v) (incident_edges g v)) ≡ length l + length (incident_edges g v)
    long = length-append l (map (dart_from g v) (incident_edges g v)) ∙ ap (λ k. length l + k) (length-map (incident_edges g v) (dart_from g v))

    early : (i : ℕ) → i < length l → get_or (l ++ map (dart_from g v) (incident_edges g v)) i 0 ≡ get_or l i 0
    early i k = get_or_append_left l (map (dart_from g v) (incident_edges g v)) 0 i k

    late : (k : ℕ) → k < length (incident_edges g v) → get_or (l ++ map (dart_from g v) (incident_edges g v)) (length l + k) 0 ≡ dart_from g v (get_or (incident_edges g v) k 0)
    late k m =
        let back : length l + k - length l ≡ k = omega arith in
        get_or-append_right l (map (dart_from g v) (incident_edges g v)) (length l) (length l + k) 0 refl (omega arith) ∙ ap (λ j. get_or (map (dart_from g v) (incident_edges g v)) j 0) back ∙ get_or-map (dart_from g v) (incident_edges g v) k 0 0 m

    place : (i : ℕ) → i < length (l ++ map (dart_from g v) (incident_edges g v)) → length l ≤ i → (k : ℕ) × (k < length (incident_edges g v)) × (length l + k ≡ i)
    place i m above = let all : length (l ++ map (dart_from g v) (incident_edges g v)) ≡ length l + length (incident_edges g v) = long in (i - length l, omega arith, omega arith)

    late_tail : (k : ℕ) → k < length (incident_edges g v) → tail g (dart_from g v (get_or (incident_edges g v) k 0)) ≡ v
    late_tail k m = dart_from-tail g v (get_or (incident_edges g v) k 0) (incident_at-end g v k 0 m)

    darts : (i : ℕ) → i < length (l ++ map (dart_from g v) (incident_edges g v)) → get_or (l ++ map (dart_from g v) (incident_edges g v)) i 0 < dart_count g
    darts i m = elim (cases_lt i (length l)) [
      | inl below ↦ subst (λ d. d < dart_count g) (sym (early i below)) (o.darts i below)
      | inr above ↦
          let w : (k : ℕ) × (k < length (incident_edges g v)) × (length l + k ≡ i) = place i m above in
          subst (λ j. get_or (l ++ map (dart_from g v) (incident_edges g v)) j 0 < dart_count g) w.2 (subst (λ d. d < dart_count g) (sym (late w.0 w.1)) (dart_from-below g v (get_or (incident_edges g v) w.0 0) (incident_at-edge g v w.0 0 w.1)))
    ]

    tails : (i : ℕ) → i < length (l ++ map (dart_from g v) (incident_edges g v)) → tail g (get_or (l ++ map (dart_from g v) (incident_edges g v)) i 0) < suc v
    tails i m = elim (cases_lt i (length l)) [
      | inl below ↦ let t : tail g (get_or l i 0) < v = o.tails i below in subst (λ d. tail g d < suc v) (sym (early i below)) (omega arith)
      | inr above ↦
          let w : (k : ℕ) × (k < length (incident_edges g v)) × (length l + k ≡ i) = place i m above in
          let t : tail g (dart_from g v (get_or (incident_edges g v) w.0 0)) ≡ v = late_tail w.0 w.1 in
          subst (λ j. tail g (get_or (l ++ map (dart_from g v) (incident_edges g v)) j 0) < suc v) w.2 (subst (λ d. tail g d < suc v) (sym (late w.0 w.1)) (omega arith))
    ]

    complete : (d : ℕ) → d < dart_count g → tail g d < suc v → (i : ℕ) × (i < length (l ++ map (dart_from g v) (incident_edges g v))) × (get_or (l ++ map (dart_from g v) (incident_edges g v)) i 0 ≡ d)
    complete d m t = elim (cases_lt (tail g d) v) [
      | inl below ↦
          let w : (i : ℕ) × (i < length l) × (get_or l i 0 ≡ d) = o.complete d m below in
          let all : length (l ++ map (dart_from g v) (incident_edges g v)) ≡ length l + length (incident_edges g v) = long in
          let inside : w.0 < length l = w.1 in
          (w.0, omega arith, early w.0 w.1 ∙ w.2)
      | inr above ↦
          let here : tail g d ≡ v = omega arith in
          let end : is_end g v (d / 2) ≡ true = subst (λ z. is_end g z (d / 2) ≡ true) here (tail-end g d) in
          let w = at_from_Contains (incident_edges g v) (d / 2) (incident-has g v (d / 2) (dart-edge g d m) end) in
          let all : length (l ++ map (dart_from g v) (incident_edges g v)) ≡ length l + length (incident_edges g v) = long in
          let inside : w.0 < length (incident_edges g v) = w.1 in
          (length l + w.0, omega arith, late w.0 w.1 ∙ ap (dart_from g v) (w.2 0) ∙ ap (λ z. dart_from g z (d / 2)) (sym here) ∙ dart_from-of_dart g d ok m)
    ]

    sorted : (i j : ℕ) → i < j → j < length (l ++ map (dart_from g v) (incident_edges g v)) → precedes g (get_or (l ++ map (dart_from g v) (incident_edges g v)) i 0) (get_or (l ++ map (dart_from g v) (incident_edges g v)) j 0) ≡ true
    sorted i j k m = elim (cases_lt j (length l)) [
      | inl below ↦
          let first : i < length l = omega arith in
          subst (λ d. precedes g (get_or (l ++ map (dart_from g v) (incident_edges g v)) i 0) d ≡ true) (sym (early j below)) (subst (λ c. precedes g c (get_or l j 0) ≡ true) (sym (early i first)) (o.sorted i j k below))
      | inr above ↦
          let b : (k : ℕ) × (k < length (incident_edges g v)) × (length l + k ≡ j) = place j m above in
          let right : get_or (l ++ map (dart_from g v) (incident_edges g v)) j 0 ≡ dart_from g v (get_or (incident_edges g v) b.0 0) = ap (λ z. get_or (l ++ map (dart_from g v) (incident_edges g v)) z 0) (sym b.2) ∙ late b.0 b.1 in
          subst (λ d. precedes g (get_or (l ++ map (dart_from g v) (incident_edges g v)) i 0) d ≡ true) (sym right) (before i j k m b)
    ]
      where
        before : (i j : ℕ) → i < j → j < length (l ++ map (dart_from g v) (incident_edges g v)) → (b : (k : ℕ) × (k < length (incident_edges g v)) × (length l + k ≡ j)) → precedes g (get_or (l ++ map (dart_from g v) (incident_edges g v)) i 0) (dart_from g v (get_or (incident_edges g v) b.0 0)) ≡ true
        before i j k m b = elim (cases_lt i (length l)) [
          | inl early_one ↦
              let t : tail g (get_or l i 0) < v = o.tails i early_one in
              let u : tail g (dart_from g v (get_or (incident_edges g v) b.0 0)) ≡ v = late_tail b.0 b.1 in
              subst (λ c. precedes g c (dart_from g v (get_or (incident_edges g v) b.0 0)) ≡ true) (sym (early i early_one)) (precedes-vertex g (get_or l i 0) (dart_from g v (get_or (incident_edges g v) b.0 0)) (omega arith))
          | inr late_one ↦
              let a : (k : ℕ) × (k < length (incident_edges g v)) × (length l + k ≡ i) = place i (omega arith) late_one in
              let left : get_or (l ++ map (dart_from g v) (incident_edges g v)) i 0 ≡ dart_from g v (get_or (incident_edges g v) a.0 0) = ap (λ z. get_or (l ++ map (dart_from g v) (incident_edges g v)) z 0) (sym a.2) ∙ late a.0 a.1 in
              let at_a : length l + a.0 ≡ i = a.2 in
              let at_b : length l + b.0 ≡ j = b.2 in
              let less : a.0 < b.0 = omega arith in
              let e : dart_from g v (get_or (incident_edges g v) a.0 0) / 2 ≡ get_or (incident_edges g v) a.0 0 = dart_from-edge g v (get_or (incident_edges g v) a.0 0) in
              let f : dart_from g v (get_or (incident_edges g v) b.0 0) / 2 ≡ get_or (incident_edges g v) b.0 0 = dart_from-edge g v (get_or (incident_edges g v) b.0 0) in
              let rise : get_or (incident_edges g v) a.0 0 < get_or (incident_edges g v) b.0 0 = incident-rises g v a.0 b.0 0 less b.1 in
              subst (λ c. precedes g c (dart_from g v (get_or (incident_edges g v) b.0 0)) ≡ true) (sym left)
              (precedes-edge g (dart_from g v (get_or (incident_edges g v) a.0 0)) (dart_from g v (get_or (incident_edges g v) b.0 0)) (late_tail a.0 a.1 ∙ sym (late_tail b.0 b.1)) (omega arith))
        ]

-- those of all vertices below v
pub order-below : (g : Multigraph) → IsGraph g → (v : ℕ) → InOrder g v (darts_from_below g v)
order-below g ok zero = order-none g
order-below g ok (suc v) = order-more g v (darts_from_below g v) ok (order-below g ok v)

-- all darts are in order
pub order-all : (g : Multigraph) → IsGraph g → InOrder g g.vertex_count (darts_in_order g)
order-all g ok = order-below g ok g.vertex_count

-- there are at most as many as darts
pub order-few : (g : Multigraph) (v : ℕ) (l : List ℕ) → InOrder g v l → length l ≤ dart_count g
order-few g v l o =
    let few : count (length l) (λ i. true) ≤ count (dart_count g) (λ d. true) = count-injection (length l) (dart_count g) (λ i. true) (λ d. true) (λ i. get_or l i 0) (λ i k t. o.darts i k) (λ i k t. refl) (λ i j k m s t e. same i j k m e) in
    omega (arith, count-all (length l) (λ i. true) (λ i k. refl), count-within (dart_count g) (λ d. true))
  where
    same : (i j : ℕ) → i < length l → j < length l → get_or l i 0 ≡ get_or l j 0 → i ≡ j
    same i j k m e = elim (cases_order i j) [
      | inl s ↦ s
      | inr s ↦ elim s [
        | inl less ↦ let p : precedes g (get_or l j 0) (get_or l j 0) ≡ true = subst (λ d. precedes g d (get_or l j 0) ≡ true) e (o.sorted i j less m) in absurd (precedes-apart g (get_or l j 0) (get_or l j 0) p p)
        | inr more ↦ let p : precedes g (get_or l j 0) (get_or l j 0) ≡ true = subst (λ d. precedes g (get_or l j 0) d ≡ true) e (o.sorted j i more k) in absurd (precedes-apart g (get_or l j 0) (get_or l j 0) p p)
      ]
    ]
