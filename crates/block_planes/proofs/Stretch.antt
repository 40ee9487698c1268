-- At a vertex where the label changes there is a stretch of darts that begins and ends with one label, outside of which this
-- label does not occur. Where no labels cross, no label occurs both in it and outside.
use Rattle.std.proofs.Common.{◌≡◌, ◌≢◌, ℕ, ◌*◌, ◌<◌, ◌⊎◌, inl, inr, Bool, true, false, ◌==◌, List, [], ◌∷◌, ◌++◌, refl, sym, ap, ◌∙◌, subst, append_assoc, eq-eqb}
use Rattle.std.proofs.lemmas.Bool.{cases_Bool, both_ways, true≢false, eqb-true}
use Rattle.permutations.specs.Members.{is_member, is_distinct}
use Rattle.permutations.specs.Cyclic.{successor, first_or, turned, FollowsAround}
use Rattle.permutations.specs.Ring.{ring}
use Rattle.permutations.proofs.Members.{member-head, member-tail, member-cases, member-append_cases, distinct-head, distinct-tail, distinct-append_right, no_member-cons, CutAt, cut_at}
use Rattle.permutations.proofs.Successor.{successor-cut}
use Rattle.permutations.proofs.Turned.{turned-cut}
use Rattle.permutations.proofs.CyclicOrder.{follows-cons, follows-one, follows-around}
use Rattle.permutations.proofs.Rings.{ring-first, ring-itself, ring-distinct, ring-successor, ring-turn}
use Rattle.dart_maps.specs.Map.{IsMap}

-- a list cut at the last member that passes a test
record LastPassing (t : ℕ → Bool) (l : List ℕ) : Type 0 where
  front : List ℕ
  last : ℕ
  back : List ℕ
  is : l ≡ front ++ last ∷ back
  passes : t last ≡ true
  after : (z : ℕ) → is_member z back ≡ true → t z ≡ false

-- some member passes, and there is a last one; or none does
last_or_none : (t : ℕ → Bool) (l : List ℕ) → LastPassing t l ⊎ ((z : ℕ) → is_member z l ≡ true → t z ≡ false)
last_or_none t [] = inr (λ z m. absurd (true≢false (sym m)))
last_or_none t (x ∷ l) = elim (last_or_none t l) [
  | inl w ↦ inl (record { front = x ∷ w.front; last = w.last; back = w.back; is = ap (λ (k : List ℕ). x ∷ k) w.is; passes = w.passes; after = w.after })
  | inr n ↦ elim (cases_Bool (t x)) [
    | inl h ↦ inl (record { front = []; last = x; back = l; is = refl; passes = h; after = n })
    | inr h ↦ inr (λ z m. elim (member-cases z x l m) [ inl q ↦ ap t (sym q) ∙ h | inr k ↦ n z k ])
  ]
]

-- the darts around the vertex of x, from the one that follows x on, in two parts: the first ends with the last dart that has
-- the label of the first one, and the second with x
pub record Stretch (m : ℕ) (f lab : ℕ → ℕ) (x : ℕ) : Type 0 where
  pub front : List ℕ
  pub last : ℕ
  pub back : List ℕ
  pub is : ring (2 * m) f (f x) ≡ (front ++ last ∷ []) ++ (back ++ x ∷ [])
  pub label : lab last ≡ lab (f x)
  pub after : (z : ℕ) → is_member z (back ++ x ∷ []) ≡ true → lab z ≢ lab (f x)

-- a map, and a dart that is followed by one with another label
module _ (m : ℕ) (f g : ℕ → ℕ) (b : IsMap m f g) (lab : ℕ → ℕ) (x : ℕ) (l : x < 2 * m) (differ : lab (f x) ≢ lab x) where
  -- the ring from the dart that follows x on ends with x
  ring-ends : (r : List ℕ) × (ring (2 * m) f (f x) ≡ (f x ∷ r) ++ x ∷ [])
  ring-ends = let w = ring-first (2 * m) f g b x l in at w.0 w.1
    where
      at : (r : List ℕ) → ring (2 * m) f x ≡ x ∷ r → (s : List ℕ) × (ring (2 * m) f (f x) ≡ (f x ∷ s) ++ x ∷ [])
      at r q = by r (ap (is_distinct) (sym q) ∙ ring-distinct (2 * m) f g b x l) q (sym (successor-cut [] x r refl) ∙ ap (λ k. successor k x) (sym q) ∙ ring-successor (2 * m) f g b x l x (ring-itself (2 * m) f g b x l))
        where
          by : (r : List ℕ) → is_distinct (x ∷ r) ≡ true → ring (2 * m) f x ≡ x ∷ r → first_or x r ≡ f x → (s : List ℕ) × (ring (2 * m) f (f x) ≡ (f x ∷ s) ++ x ∷ [])
          by [] d q e = absurd (differ (ap lab (sym e)))
          by (y ∷ s) d q e = (
            s,
            subst (λ z. ring (2 * m) f z ≡ (z ∷ s) ++ x ∷ []) e
                (ring-turn (2 * m) f g b x y l (ap (is_member y) q ∙ member-second)
                ∙ ap (λ k. turned k y) q
                ∙ turned-cut (x ∷ []) y s (no_member-cons y x [] (λ z. both_ways (is_member x (y ∷ s)) (distinct-head x (y ∷ s) d) (subst (λ v. is_member v (y ∷ s) ≡ true) (sym z) (member-head y s))) refl)),
          )
            where
              member-second : is_member y (x ∷ y ∷ s) ≡ true
              member-second = member-tail y x (y ∷ s) (member-head y s)

  -- the stretch
  pub stretch : Stretch m f lab x
  stretch = let w = ring-ends in cut w.0 w.1 (last_or_none (λ z. lab z == lab (f x)) (f x ∷ w.0))
    where
      cut : (r : List ℕ) → ring (2 * m) f (f x) ≡ (f x ∷ r) ++ x ∷ [] → LastPassing (λ z. lab z == lab (f x)) (f x ∷ r) ⊎ ((z : ℕ) → is_member z (f x ∷ r) ≡ true → (lab z == lab (f x)) ≡ false) → Stretch m f lab x
      cut r q (inr n) = absurd (both_ways (lab (f x) == lab (f x)) (n (f x) (member-head (f x) r)) (eq-eqb (lab (f x)) (lab (f x)) refl))
      cut r q (inl w) = record {
        front = w.front;
        last = w.last;
        back = w.back;
        is = q ∙ ap (λ (k : List ℕ). k ++ x ∷ []) w.is ∙ append_assoc w.front (w.last ∷ w.back) (x ∷ []) ∙ sym (append_assoc w.front (w.last ∷ []) (w.back ++ x ∷ []));
        label = eqb-true (lab w.last) (lab (f x)) w.passes;
        after = λ z m e. elim (member-append_cases z w.back (x ∷ []) m) [
          | inl i ↦ both_ways (lab z == lab (f x)) (w.after z i) (eq-eqb (lab z) (lab (f x)) e)
          | inr i ↦ elim (member-cases z x [] i) [ inl y ↦ differ (sym e ∙ ap lab (sym y)) | inr n ↦ true≢false (sym n) ]
        ];
      }

  -- a dart in the stretch and one outside have different labels, where no labels cross
  pub stretch-apart : (s : Stretch m f lab x) → ((p q v w : ℕ) → FollowsAround (ring (2 * m) f (f x)) (p ∷ q ∷ v ∷ w ∷ []) → lab p ≡ lab v → lab q ≡ lab w → lab p ≡ lab q)
      → (y z : ℕ) → is_member y (s.front ++ s.last ∷ []) ≡ true → is_member z (s.back ++ x ∷ []) ≡ true → lab y ≢ lab z
  stretch-apart s none y z i j e = elim (member-append_cases y s.front (s.last ∷ []) i) [
    | inl k ↦ within s.front s.is k
    | inr k ↦ elim (member-cases y s.last [] k) [ inl q ↦ s.after z j (sym e ∙ ap lab (sym q) ∙ s.label) | inr n ↦ true≢false (sym n) ]
  ]
    where
      rest : List ℕ
      rest = s.back ++ x ∷ []

      first : (h : ℕ) (k : List ℕ) → ring (2 * m) f (f x) ≡ h ∷ k → h ≡ f x
      first h k q = let w = ring-first (2 * m) f g b (f x) (b.forth x l) in ap (first_or 0) (sym q ∙ w.1)

      alternate : (h : ℕ) (u v : List ℕ) → ring (2 * m) f (f x) ≡ h ∷ (u ++ y ∷ (v ++ s.last ∷ rest)) → FollowsAround (ring (2 * m) f (f x)) (h ∷ y ∷ s.last ∷ z ∷ [])
      alternate h u v q = subst (λ k. FollowsAround k (h ∷ y ∷ s.last ∷ z ∷ [])) (sym q) (follows-around (h ∷ (u ++ y ∷ (v ++ s.last ∷ rest))) (h ∷ y ∷ s.last ∷ z ∷ [])
          (follows-cons [] h (u ++ y ∷ (v ++ s.last ∷ rest)) (y ∷ s.last ∷ z ∷ []) d0
          (follows-cons u y (v ++ s.last ∷ rest) (s.last ∷ z ∷ []) d1
          (follows-cons v s.last rest (z ∷ []) d2
          (follows-one rest z d3 j)))))
        where
          d0 : is_distinct (h ∷ (u ++ y ∷ (v ++ s.last ∷ rest))) ≡ true
          d0 = ap (is_distinct) (sym q) ∙ ring-distinct (2 * m) f g b (f x) (b.forth x l)

          d1 : is_distinct (u ++ y ∷ (v ++ s.last ∷ rest)) ≡ true
          d1 = distinct-tail h (u ++ y ∷ (v ++ s.last ∷ rest)) d0

          d2 : is_distinct (v ++ s.last ∷ rest) ≡ true
          d2 = distinct-tail y (v ++ s.last ∷ rest) (distinct-append_right u (y ∷ (v ++ s.last ∷ rest)) d1)

          d3 : is_distinct rest ≡ true
          d3 = distinct-tail s.last rest (distinct-append_right v (s.last ∷ rest) d2)

      within : (front : List ℕ) → ring (2 * m) f (f x) ≡ (front ++ s.last ∷ []) ++ rest → is_member y front ≡ true → ⊥
      within [] q k = true≢false (sym k)
      within (h ∷ t) q k = elim (member-cases y h t k) [
        | inl i ↦ s.after z j (sym e ∙ ap lab (sym i) ∙ ap lab (first h ((t ++ s.last ∷ []) ++ rest) q))
        | inr i ↦ inner (cut_at y t i)
      ]
        where
          inner : CutAt y t → ⊥
          inner c = s.after z j (sym e ∙ sym (none h y s.last z (alternate h c.front c.back long) (ap lab at ∙ sym s.label) e) ∙ ap lab at)
            where
              at : h ≡ f x
              at = first h ((t ++ s.last ∷ []) ++ rest) q

              long : ring (2 * m) f (f x) ≡ h ∷ (c.front ++ y ∷ (c.back ++ s.last ∷ rest))
              long = q ∙ append_assoc (h ∷ t) (s.last ∷ []) rest ∙ ap (λ (k : List ℕ). h ∷ (k ++ s.last ∷ rest)) c.is ∙ ap (λ (k : List ℕ). h ∷ k) (append_assoc c.front (y ∷ c.back) (s.last ∷ rest))
