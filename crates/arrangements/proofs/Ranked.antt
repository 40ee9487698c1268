-- Blocks that cross in a list of edges, by the ranks of their blocks.
use Rattle.std.proofs.Common.{◌≡◌, ◌≢◌, ℕ, ◌+◌, ◌<◌, ◌≤◌, ◌⊎◌, inl, inr, Bool, true, false, ◌||◌, ◌==◌, nat_lt, List, [], ◌∷◌, map, filter, IsPermutation, Option, MatchOption, Some, None, refl, sym, ap, ap₂, ◌∙◌, subst, arith}
use Rattle.std.proofs.lemmas.Bool.{cases_Bool, cases_eq, both_ways, ltb-true, ltb-false, lt-ltb, le-ltb, eq-eqb, ne_eqb, eqb-true, false_from_ne_true}
use Rattle.permutations.specs.Members.{is_member}
use Rattle.permutations.proofs.Members.{member-head, member-tail}
use Rattle.permutations.proofs.Filter.{filter-yes, filter-no, filter-ext, member-filter_parts}
use Rattle.permutations.proofs.Arrangements.{permutation-member}
use Rattle.arrangements.specs.Arranged.{changes_from, changes, cross}
use Rattle.arrangements.specs.Refused.{IsLeastCrossing}
use Rattle.arrangements.specs.Tables.{VertexTables, rank_in, AreTablesOf}
use Rattle.arrangements.specs.Crossings.{cross_ranks, IsCrossingOf}
use Rattle.arrangements.proofs.Changes.{of_either, changes-same, changes-other, cross-edges}

-- the images that pass a test are the images of those that do
filter-images : (f : ℕ → ℕ) (p : ℕ → Bool) (l : List ℕ) → filter p (map f l) ≡ map f (filter (λ x. p (f x)) l)
filter-images f p [] = refl
filter-images f p (x ∷ l) = elim (cases_Bool (p (f x))) [
  | inl t ↦ filter-yes p (f x) (map f l) t ∙ ap (λ (k : List ℕ). f x ∷ k) (filter-images f p l) ∙ ap (map f) (sym (filter-yes (λ z. p (f z)) x l t))
  | inr n ↦ filter-no p (f x) (map f l) n ∙ filter-images f p l ∙ ap (map f) (sym (filter-no (λ z. p (f z)) x l n))
]

-- along the ranks there are as many changes as along the edges
changes_from-images : (f : ℕ → ℕ) (k : ℕ) (l : List ℕ) → changes_from (λ r. r) k (map f l) ≡ changes_from f k l
changes_from-images f k [] = refl
changes_from-images f k (x ∷ l) = elim (cases_eq (f x) k) [
  | inl e ↦ changes-same (λ r. r) k (f x) (map f l) e ∙ changes_from-images f k l ∙ sym (changes-same f k x l e)
  | inr n ↦ changes-other (λ r. r) k (f x) (map f l) n ∙ ap (λ (z : ℕ). z + 1) (changes_from-images f (f x) l) ∙ sym (changes-other f k x l n)
]

changes-images : (f : ℕ → ℕ) (l : List ℕ) → changes (λ r. r) (map f l) ≡ changes f l
changes-images f [] = refl
changes-images f (x ∷ l) = changes_from-images f (f x) l

-- so blocks cross in the list of ranks where they do in the list of edges
pub cross-images : (f : ℕ → ℕ) (b c : ℕ) (l : List ℕ) → cross_ranks b c (map f l) ≡ cross f b c l
cross-images f b c l = ap (nat_lt 2) (ap (changes (λ r. r)) (filter-images f (of_either (λ r. r) b c) l) ∙ changes-images f (filter (of_either f b c) l))

-- functions of edges that distinguish the same ones
changes_from-same : (f g : ℕ → ℕ) (k m : ℕ) (l : List ℕ) → ((x : ℕ) → is_member x l ≡ true → (f x == k) ≡ (g x == m))
    → ((x y : ℕ) → is_member x l ≡ true → is_member y l ≡ true → (f x == f y) ≡ (g x == g y)) → changes_from f k l ≡ changes_from g m l
changes_from-same f g k m [] h s = refl
changes_from-same f g k m (x ∷ l) h s = elim (cases_eq (f x) k) [
  | inl e ↦
      let d : g x ≡ m = eqb-true (g x) m (sym (h x (member-head x l)) ∙ eq-eqb (f x) k e) in
      changes-same f k x l e ∙ changes_from-same f g k m l (λ y n. h y (member-tail y x l n)) inner ∙ sym (changes-same g m x l d)
  | inr n ↦
      let d : g x ≢ m = (λ e. both_ways (g x == m) (sym (h x (member-head x l)) ∙ ne_eqb (f x) k n) (eq-eqb (g x) m e)) in
      changes-other f k x l n ∙ ap (λ (z : ℕ). z + 1) (changes_from-same f g (f x) (g x) l (λ y q. s y x (member-tail y x l q) (member-head x l)) inner) ∙ sym (changes-other g m x l d)
]
  where
    inner : (y z : ℕ) → is_member y l ≡ true → is_member z l ≡ true → (f y == f z) ≡ (g y == g z)
    inner y z a b = s y z (member-tail y x l a) (member-tail z x l b)

changes-same_blocks : (f g : ℕ → ℕ) (l : List ℕ) → ((x y : ℕ) → is_member x l ≡ true → is_member y l ≡ true → (f x == f y) ≡ (g x == g y)) → changes f l ≡ changes g l
changes-same_blocks f g [] s = refl
changes-same_blocks f g (x ∷ l) s = changes_from-same f g (f x) (g x) l (λ y m. s y x (member-tail y x l m) (member-head x l)) (λ y z a b. s y z (member-tail y x l a) (member-tail z x l b))

-- have the same blocks that cross
pub cross-same_blocks : (f g : ℕ → ℕ) (l : List ℕ) (u v : ℕ) → is_member u l ≡ true → is_member v l ≡ true
    → ((x y : ℕ) → is_member x l ≡ true → is_member y l ≡ true → (f x == f y) ≡ (g x == g y)) → cross f (f u) (f v) l ≡ cross g (g u) (g v) l
cross-same_blocks f g l u v mu mv s = ap (nat_lt 2)
    (ap (changes f) (filter-ext (of_either f (f u) (f v)) (of_either g (g u) (g v)) l (λ x m. ap₂ (λ (a b : Bool). a || b) (s x u m mu) (s x v m mv)))
    ∙ changes-same_blocks f g k (λ x y a b. s x y (member-filter_parts (of_either g (g u) (g v)) l x a).0 (member-filter_parts (of_either g (g u) (g v)) l y b).0))
  where
    k : List ℕ
    k = filter (of_either g (g u) (g v)) l

module _ (t : VertexTables) (block : ℕ → ℕ) (order : ℕ → List ℕ) (a : AreTablesOf t block order) (list : List ℕ) (p : IsPermutation t.edges list) where
  -- the ranks of the edges
  abbrev ranks : List ℕ
  ranks = map (rank_in t) list

  -- the edges of the list
  among : (x : ℕ) → is_member x list ≡ true → is_member x t.edges ≡ true
  among x m = sym (permutation-member t.edges list x p) ∙ m

  -- a lesser rank is that of a lesser block
  less : (x y : ℕ) → is_member x list ≡ true → is_member y list ≡ true → nat_lt (rank_in t x) (rank_in t y) ≡ nat_lt (block x) (block y)
  less x y m n = a.ranks x y (among x m) (among y n)

  less-block : (x y : ℕ) → is_member x list ≡ true → is_member y list ≡ true → rank_in t x < rank_in t y → block x < block y
  less-block x y m n h = ltb-true (block x) (block y) (sym (less x y m n) ∙ lt-ltb (rank_in t x) (rank_in t y) h)

  most-block : (x y : ℕ) → is_member x list ≡ true → is_member y list ≡ true → rank_in t x ≤ rank_in t y → block x ≤ block y
  most-block x y m n h = ltb-false (block y) (block x) (sym (less y x n m) ∙ le-ltb (rank_in t y) (rank_in t x) h)

  equal-block : (x y : ℕ) → is_member x list ≡ true → is_member y list ≡ true → rank_in t x ≡ rank_in t y → block x ≡ block y
  equal-block x y m n e = omega (arith, most-block x y m n (omega (arith, e)), most-block y x n m (omega (arith, e)))

  most-rank : (x y : ℕ) → is_member x list ≡ true → is_member y list ≡ true → block x ≤ block y → rank_in t x ≤ rank_in t y
  most-rank x y m n h = ltb-false (rank_in t y) (rank_in t x) (less y x n m ∙ le-ltb (block y) (block x) h)

  -- equal ranks are those of one block
  same : (x y : ℕ) → is_member x list ≡ true → is_member y list ≡ true → (rank_in t x == rank_in t y) ≡ (block x == block y)
  same x y m n = elim (cases_eq (rank_in t x) (rank_in t y)) [
    | inl e ↦ eq-eqb (rank_in t x) (rank_in t y) e ∙ sym (eq-eqb (block x) (block y) (equal-block x y m n e))
    | inr d ↦ ne_eqb (rank_in t x) (rank_in t y) d ∙ sym (ne_eqb (block x) (block y) (λ e. d (omega (arith, most-rank x y m n (omega (arith, e)), most-rank y x n m (omega (arith, e))))))
  ]

  -- blocks cross where their ranks do
  cross-ranked : (x y : ℕ) → is_member x list ≡ true → is_member y list ≡ true → cross_ranks (rank_in t x) (rank_in t y) ranks ≡ cross block (block x) (block y) list
  cross-ranked x y m n = cross-images (rank_in t) (rank_in t x) (rank_in t y) list ∙ cross-same_blocks (rank_in t) block list x y m n same

  -- where no ranks cross, no blocks do
  pub none-ranked : ((b c : ℕ) → cross_ranks b c (map (rank_in t) list) ≡ false) → (b c : ℕ) → cross block b c list ≡ false
  none-ranked h b c = false_from_ne_true (cross block b c list) (λ k.
      let w = cross-edges block b c list k in
      both_ways (cross_ranks (rank_in t w.0) (rank_in t w.1) ranks) (h (rank_in t w.0) (rank_in t w.1))
      (cross-ranked w.0 w.1 w.2 w.3 ∙ ap₂ (λ (u v : ℕ). cross block u v list) w.4 w.5 ∙ k))

  -- the least ranks that cross are those of the least blocks that do
  pub least-ranked : (r s : ℕ) → IsLeastCrossing (λ r. r) (map (rank_in t) list) r s → IsCrossingOf t block list r s
  least-ranked r s w = record {
    first = x;
    second = y;
    first_met = among x e.2;
    second_met = among y e.3;
    first_rank = e.4;
    second_rank = e.5;
    least = record {
      crosses = sym (cross-same_blocks (rank_in t) block list x y e.2 e.3 same) ∙ ap₂ (λ (u v : ℕ). cross (rank_in t) u v list) e.4 e.5 ∙ here;
      least = λ d f k. least d f k (cross-edges block d f list k);
    };
  }
    where
      here : cross (rank_in t) r s list ≡ true
      here = sym (cross-images (rank_in t) r s list) ∙ w.crosses

      e : (x : ℕ) × (y : ℕ) × (is_member x list ≡ true) × (is_member y list ≡ true) × (rank_in t x ≡ r) × (rank_in t y ≡ s)
      e = cross-edges (rank_in t) r s list here

      x : ℕ
      x = e.0

      y : ℕ
      y = e.1

      least : (d f : ℕ) → cross block d f list ≡ true → ((u : ℕ) × (v : ℕ) × (is_member u list ≡ true) × (is_member v list ≡ true) × (block u ≡ d) × (block v ≡ f))
          → (block x < d) ⊎ ((block x ≡ d) × (block y ≤ f))
      least d f k z = elim (w.least (rank_in t z.0) (rank_in t z.1) (cross-ranked z.0 z.1 z.2 z.3 ∙ ap₂ (λ (u v : ℕ). cross block u v list) z.4 z.5 ∙ k)) [
        | inl l ↦ inl (omega (arith, less-block x z.0 e.2 z.2 (omega (arith, l, e.4)), z.4))
        | inr q ↦ inr (equal-block x z.0 e.2 z.2 (e.4 ∙ q.0) ∙ z.4, omega (arith, most-block y z.1 e.3 z.3 (omega (arith, q.1, e.5)), z.5))
      ]

-- both together, of what is answered
pub answer-ranked : (t : VertexTables) (block : ℕ → ℕ) (order : ℕ → List ℕ) → AreTablesOf t block order → (list : List ℕ) → IsPermutation t.edges list
    → {X : Type 0} (first second : X → ℕ) (result : Option X) (ranks : List ℕ) → ranks ≡ map (rank_in t) list
    → MatchOption result ((b c : ℕ) → cross_ranks b c ranks ≡ false) (λ pair. IsLeastCrossing (λ r. r) ranks (first pair) (second pair))
    → MatchOption result ((b c : ℕ) → cross block b c list ≡ false) (λ pair. IsCrossingOf t block list (first pair) (second pair))
answer-ranked t block order a list p first second None ranks e h = none-ranked t block order a list p (subst (λ (k : List ℕ). (b c : ℕ) → cross_ranks b c k ≡ false) e h)
answer-ranked t block order a list p first second (Some pair) ranks e h = least-ranked t block order a list p (first pair) (second pair) (subst (λ (k : List ℕ). IsLeastCrossing (λ r. r) k (first pair) (second pair)) e h)
