-- Taking a vertex into account at another one: what the two low vertices are afterwards.
use Rattle.std.proofs.Common.{◌≡◌, ◌≢◌, ℕ, ◌<◌, ◌≤◌, ◌⊎◌, inl, inr, Bool, true, false, ◌&&◌, ltb, if◌then◌else◌, List, length, get_or, set, refl, sym, ap, ◌∙◌, subst, arith, length-set}
use Rattle.std.proofs.lemmas.Bool.{cases_eq}
use Rattle.search_forest.specs.Low.{LowVertices, taken, IsTaken}
use Rattle.search_forest.proofs.Writes.{number-same, number-other}

-- how the two low vertices of v change where x is taken into account
pub record Change (depth : List ℕ) (low new : LowVertices) (v x : ℕ) : Type 0 where
  pub first_places : length new.first ≡ length low.first
  pub second_places : length new.second ≡ length low.second
  pub first_other : (u : ℕ) → u ≢ v → get_or new.first u 0 ≡ get_or low.first u 0
  pub second_other : (u : ℕ) → u ≢ v → get_or new.second u 0 ≡ get_or low.second u 0
  pub here : ((get_or depth x 0 < get_or depth (get_or low.first v 0) 0) × (get_or new.first v 0 ≡ x) × (get_or new.second v 0 ≡ get_or low.first v 0))
      ⊎ (((get_or depth (get_or low.first v 0) 0 < get_or depth x 0) × (get_or depth x 0 < get_or depth (get_or low.second v 0) 0) × (get_or new.first v 0 ≡ get_or low.first v 0) × (get_or new.second v 0 ≡ x))
      ⊎ ((get_or depth (get_or low.first v 0) 0 ≤ get_or depth x 0) × ((get_or depth x 0 ≡ get_or depth (get_or low.first v 0) 0) ⊎ (get_or depth (get_or low.second v 0) 0 ≤ get_or depth x 0)) × (get_or new.first v 0 ≡ get_or low.first v 0) × (get_or new.second v 0 ≡ get_or low.second v 0)))

-- the change in the three cases
pub taken-change : (depth : List ℕ) (low : LowVertices) (v x : ℕ) → v < length low.first → v < length low.second → Change depth low (taken depth low v x) v x
taken-change depth low v x l m = by (ltb dx df) (ltb df dx) (ltb dx ds) refl refl refl
  where
    dx : ℕ
    dx = get_or depth x 0

    df : ℕ
    df = get_or depth (get_or low.first v 0) 0

    ds : ℕ
    ds = get_or depth (get_or low.second v 0) 0

    by : (a b c : Bool) → a ≡ ltb dx df → b ≡ ltb df dx → c ≡ ltb dx ds → Change depth low (if a then record { first = set low.first v x; second = set low.second v (get_or low.first v 0) } else (if b && c then record { first = low.first; second = set low.second v x } else low)) v x
    by true b c p q r = record {
      first_places = length-set low.first v x;
      second_places = length-set low.second v (get_or low.first v 0);
      first_other = λ u n. number-other low.first v u x n;
      second_other = λ u n. number-other low.second v u (get_or low.first v 0) n;
      here = inl (grind (arith, p), number-same low.first v x l, number-same low.second v (get_or low.first v 0) m);
    }
    by false true true p q r = record {
      first_places = refl;
      second_places = length-set low.second v x;
      first_other = λ u n. refl;
      second_other = λ u n. number-other low.second v u x n;
      here = inr (inl (grind (arith, q), grind (arith, r), refl, number-same low.second v x m));
    }
    by false true false p q r = record {
      first_places = refl;
      second_places = refl;
      first_other = λ u n. refl;
      second_other = λ u n. refl;
      here = inr (inr (grind (arith, p), inr (grind (arith, r)), refl, refl));
    }
    by false false c p q r = record {
      first_places = refl;
      second_places = refl;
      first_other = λ u n. refl;
      second_other = λ u n. refl;
      here = inr (inr (grind (arith, p), inl (grind (arith, p, q)), refl, refl));
    }

-- x was taken into account afterwards
pub change-taken : (depth : List ℕ) (low new : LowVertices) (v x : ℕ) → Change depth low new v x → IsTaken depth new v x
change-taken depth low new v x c = elim c.here [
  | inl a ↦ let e = ap (λ (z : ℕ). get_or depth z 0) a.1 in record { first = omega (arith, e); second = inl (sym e) }
  | inr t ↦ elim t [
    | inl b ↦
        let e = ap (λ (z : ℕ). get_or depth z 0) b.2 in
        let f = ap (λ (z : ℕ). get_or depth z 0) b.3 in
        record { first = omega (arith, e, b.0); second = inr (omega (arith, f)) }
    | inr d ↦
        let e = ap (λ (z : ℕ). get_or depth z 0) d.2 in
        let f = ap (λ (z : ℕ). get_or depth z 0) d.3 in
        record { first = omega (arith, e, d.0); second = elim d.1 [ inl p ↦ inl (p ∙ sym e) | inr p ↦ inr (omega (arith, f, p)) ] }
  ]
]

-- what was taken into account before still is
pub change-keeps : (depth : List ℕ) (low new : LowVertices) (v x : ℕ) → Change depth low new v x → (u y : ℕ) → IsTaken depth low u y → IsTaken depth new u y
change-keeps depth low new v x c u y t = elim (cases_eq u v) [
  | inr n ↦
      let e = ap (λ (z : ℕ). get_or depth z 0) (c.first_other u n) in
      let f = ap (λ (z : ℕ). get_or depth z 0) (c.second_other u n) in
      record { first = omega (arith, e, t.first); second = elim t.second [ inl p ↦ inl (p ∙ sym e) | inr p ↦ inr (omega (arith, f, p)) ] }
  | inl q ↦ subst (λ (z : ℕ). IsTaken depth new z y) (sym q) (at (subst (λ (z : ℕ). IsTaken depth low z y) q t))
]
  where
    at : IsTaken depth low v y → IsTaken depth new v y
    at t = elim c.here [
      | inl a ↦
          let e = ap (λ (z : ℕ). get_or depth z 0) a.1 in
          let f = ap (λ (z : ℕ). get_or depth z 0) a.2 in
          record { first = omega (arith, e, a.0, t.first); second = inr (omega (arith, f, t.first)) }
      | inr r ↦ elim r [
        | inl b ↦
            let e = ap (λ (z : ℕ). get_or depth z 0) b.2 in
            let f = ap (λ (z : ℕ). get_or depth z 0) b.3 in
            record { first = omega (arith, e, t.first); second = elim t.second [ inl p ↦ inl (p ∙ sym e) | inr p ↦ inr (omega (arith, f, p, b.1)) ] }
        | inr d ↦
            let e = ap (λ (z : ℕ). get_or depth z 0) d.2 in
            let f = ap (λ (z : ℕ). get_or depth z 0) d.3 in
            record { first = omega (arith, e, t.first); second = elim t.second [ inl p ↦ inl (p ∙ sym e) | inr p ↦ inr (omega (arith, f, p)) ] }
      ]
    ]
