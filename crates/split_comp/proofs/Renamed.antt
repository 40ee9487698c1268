-- A family with its vertices renamed: tight, 2-separations and minimal sides are carried.
use Rattle.std.proofs.Common.{◌≡◌, ◌≢◌, ℕ, suc, ◌<◌, inl, inr, Bool, true, not, List, [], ◌∷◌, length, map, refl, sym, ap, ◌∙◌, subst, arith, Contains}
use Rattle.std.proofs.lemmas.Bool.{cases_Bool}
use Rattle.std.proofs.lemmas.List.Elements.{All-contains}
use Rattle.permutations.proofs.Filter.{filter-yes, filter-no}
use Rattle.permutations.specs.Members.{is_distinct}
use Rattle.pair_split.specs.Family.{Entry, has_end, names, on_side, is_common, IsFamily, IsTight, IsSeparation}
use Rattle.pair_split.specs.Skeleton.{SameEnds}
use Rattle.pair_split.specs.Edges.{entry_ends}
use Rattle.pair_split.specs.Minimal.{IsMinimal}
use Rattle.pair_split.proofs.Elements.{contains-here, contains-later, contains-map, map-contains}
use Rattle.pair_split.proofs.Replaced.{end-cases, first-end, second-end}
use Rattle.pair_split.proofs.Sides.{Touching, common-from, common-inside, common-outside}
use Rattle.pair_split.proofs.GraphFamily.{all-from_contained}

module _ (n : ℕ) (vertex : ℕ → ℕ) (apart : (x y : ℕ) → x < n → y < n → vertex x ≡ vertex y → x ≡ y) (f : Entry → Entry) (entries : List Entry)
    (named : (x : Entry) → Contains entries x → (f x).name ≡ x.name)
    (ends : (x : Entry) → Contains entries x → (x.first < n) × (x.second < n) × SameEnds (vertex x.first, vertex x.second) (entry_ends (f x))) where
  -- an end, renamed
  end-to : (x : Entry) → Contains entries x → (z : ℕ) → has_end z x ≡ true → (z < n) × (has_end (vertex z) (f x) ≡ true)
  end-to x c z h =
      let e = ends x c in
      elim (end-cases z x h) [
        | inl q ↦ (omega (arith, q, e.0), elim e.2 [ inl s ↦ first-end (vertex z) (f x) (ap vertex q ∙ s.0) | inr s ↦ second-end (vertex z) (f x) (ap vertex q ∙ s.0) ])
        | inr q ↦ (omega (arith, q, e.1), elim e.2 [ inl s ↦ second-end (vertex z) (f x) (ap vertex q ∙ s.1) | inr s ↦ first-end (vertex z) (f x) (ap vertex q ∙ s.1) ])
      ]

  -- an end of a renamed entry is one of the entry
  end-from : (x : Entry) → Contains entries x → (y : ℕ) → has_end y (f x) ≡ true → (z : ℕ) × (z < n) × (vertex z ≡ y) × (has_end z x ≡ true)
  end-from x c y h =
      let e = ends x c in
      elim (end-cases y (f x) h) [
        | inl q ↦ elim e.2 [ inl s ↦ (x.first, e.0, s.0 ∙ sym q, first-end x.first x refl) | inr s ↦ (x.second, e.1, s.1 ∙ sym q, second-end x.second x refl) ]
        | inr q ↦ elim e.2 [ inl s ↦ (x.second, e.1, s.1 ∙ sym q, second-end x.second x refl) | inr s ↦ (x.first, e.0, s.0 ∙ sym q, first-end x.first x refl) ]
      ]

  touch-to : (s : ℕ → Bool) (z : ℕ) → Touching entries s z → (z < n) × Touching (map f entries) s (vertex z)
  touch-to s z t = let e = end-to t.entry t.within z t.end in (e.0, record { entry = f t.entry; within = contains-map f t.entry entries t.within; side = ap s (named t.entry t.within) ∙ t.side; end = e.1 })

  touch-from : (s : ℕ → Bool) (y : ℕ) → Touching (map f entries) s y → (z : ℕ) × (z < n) × (vertex z ≡ y) × Touching entries s z
  touch-from s y t =
      let x = map-contains f t.entry entries t.within in
      let e = end-from x.0 x.1 y (subst (λ (k : Entry). has_end y k ≡ true) (sym x.2) t.end) in
      (e.0, e.1, e.2, record { entry = x.0; within = x.1; side = ap s (sym (named x.0 x.1)) ∙ (ap (λ (k : Entry). s k.name) x.2 ∙ t.side); end = e.3 })

  common-to : (s : ℕ → Bool) (z : ℕ) → is_common entries s z ≡ true → (z < n) × (is_common (map f entries) s (vertex z) ≡ true)
  common-to s z c =
      let i = touch-to s z (common-inside entries s z c) in
      let o = touch-to (λ k. not (s k)) z (common-outside entries s z c) in
      (i.0, common-from (map f entries) s (vertex z) i.1 o.1)

  common-back : (s : ℕ → Bool) (y : ℕ) → is_common (map f entries) s y ≡ true → (z : ℕ) × (z < n) × (vertex z ≡ y) × (is_common entries s z ≡ true)
  common-back s y c =
      let i = touch-from s y (common-inside (map f entries) s y c) in
      let o = touch-from (λ k. not (s k)) y (common-outside (map f entries) s y c) in
      let e : o.0 ≡ i.0 = apart o.0 i.0 o.1 i.1 (o.2 ∙ sym i.2) in
      (i.0, i.1, i.2, common-from entries s i.0 i.3 (subst (λ (k : ℕ). Touching entries (λ q. not (s q)) k) e o.3))

  -- how many are on a side
  count-side : (s : ℕ → Bool) (l : List Entry) → ((x : Entry) → Contains l x → Contains entries x) → length (on_side s (map f l)) ≡ length (on_side s l)
  count-side s [] h = refl
  count-side s (x ∷ l) h =
      let rest = count-side s l (λ y c. h y (contains-later y x l c)) in
      let e : s (f x).name ≡ s x.name = ap s (named x (h x (contains-here x l))) in
      elim (cases_Bool (s x.name)) [
        | inl t ↦ ap length (filter-yes (λ (y : Entry). s y.name) (f x) (map f l) (e ∙ t)) ∙ (ap (λ (k : ℕ). length-suc k) rest ∙ sym (ap length (filter-yes (λ (y : Entry). s y.name) x l t)))
        | inr t ↦ ap length (filter-no (λ (y : Entry). s y.name) (f x) (map f l) (e ∙ t)) ∙ (rest ∙ sym (ap length (filter-no (λ (y : Entry). s y.name) x l t)))
      ]
    where
      length-suc : ℕ → ℕ
      length-suc k = suc k

  count-on : (s : ℕ → Bool) → length (on_side s (map f entries)) ≡ length (on_side s entries)
  count-on s = count-side s entries (λ x c. c)

  pub renamed-tight : IsTight (map f entries) → IsTight entries
  renamed-tight t s a b =
      let w = t s (omega (arith, a, count-on s)) (omega (arith, b, count-on (λ k. not (s k)))) in
      let p = common-back s w.0 w.3 in
      let q = common-back s w.1 w.4 in
      (p.0, q.0, λ e. w.2 (sym p.2 ∙ (ap vertex e ∙ q.2)), p.3, q.3)

  pub renamed-separation : (s : ℕ → Bool) (p q : ℕ) → IsSeparation entries s p q → IsSeparation (map f entries) s (vertex p) (vertex q)
  renamed-separation s p q c =
      let a = common-to s p c.first_common in
      let b = common-to s q c.second_common in
      record {
        differ = λ e. c.differ (apart p q a.0 b.0 e);
        first_common = a.1;
        second_common = b.1;
        no_other = λ x h. let z = common-back s x h in elim (c.no_other z.0 z.3) [ inl e ↦ inl (sym z.2 ∙ ap vertex e) | inr e ↦ inr (sym z.2 ∙ ap vertex e) ];
        two_inside = omega (arith, c.two_inside, count-on s);
        two_outside = omega (arith, c.two_outside, count-on (λ k. not (s k)));
      }

  pub renamed-back : (s : ℕ → Bool) (p q : ℕ) → IsSeparation (map f entries) s p q → (x y : ℕ) × IsSeparation entries s x y
  renamed-back s p q c =
      let a = common-back s p c.first_common in
      let b = common-back s q c.second_common in (
        a.0,
        b.0,
        record {
          differ = λ e. c.differ (sym a.2 ∙ (ap vertex e ∙ b.2));
          first_common = a.3;
          second_common = b.3;
          no_other = λ x h. let z = common-to s x h in elim (c.no_other (vertex x) z.1) [ inl e ↦ inl (apart x a.0 z.0 a.1 (e ∙ sym a.2)) | inr e ↦ inr (apart x b.0 z.0 b.1 (e ∙ sym b.2)) ];
          two_inside = omega (arith, c.two_inside, count-on s);
          two_outside = omega (arith, c.two_outside, count-on (λ k. not (s k)));
        },
      )

  pub renamed-minimal : (s : ℕ → Bool) → IsMinimal entries s → IsMinimal (map f entries) s
  renamed-minimal s least t p q c inside =
      let w = renamed-back t p q c in
      omega (arith, least t w.0 w.1 w.2 (λ x d h. subst (λ (k : ℕ). s k ≡ true) (named x d) (inside (f x) (contains-map f x entries d) (ap t (named x d) ∙ h))), count-on s, count-on t)

  -- the names stay
  names-same : (l : List Entry) → ((x : Entry) → Contains l x → Contains entries x) → names (map f l) ≡ names l
  names-same [] h = refl
  names-same (x ∷ l) h = λ i. named x (h x (contains-here x l)) i ∷ names-same l (λ y c. h y (contains-later y x l c)) i

  -- a family is one when it is renamed
  pub renamed-family : IsFamily entries → IsFamily (map f entries)
  renamed-family g = record {
    names_once = subst (λ (k : List ℕ). is_distinct k ≡ true) (sym (names-same entries (λ x c. c))) g.names_once;
    no_loops = all-from_contained (λ (e : Entry). e.first ≢ e.second) (map f entries) (λ e c. let x = map-contains f e entries c in subst (λ (k : Entry). k.first ≢ k.second) x.2 (loop x.0 x.1));
  }
    where
      loop : (x : Entry) → Contains entries x → (f x).first ≢ (f x).second
      loop x c q =
          let e = ends x c in
          All-contains (λ (k : Entry). k.first ≢ k.second) entries x g.no_loops c (apart x.first x.second e.0 e.1 (elim e.2 [ inl s ↦ s.0 ∙ (q ∙ sym s.1) | inr s ↦ s.0 ∙ (sym q ∙ sym s.1) ]))
