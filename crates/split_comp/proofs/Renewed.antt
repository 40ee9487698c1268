-- The stack when a side of a 2-separation on top of it was replaced by one entry: at most one frond that stays, and the new entry.
use Rattle.std.proofs.Common.{◌≡◌, ◌≢◌, ℕ, ◌+◌, ◌<◌, ◌≤◌, ◌⊎◌, inl, inr, Bool, true, false, not, ◌&&◌, ◌==◌, List, ◌∷◌, length, refl, sym, ap, ◌∙◌, subst, arith, Contains}
use Rattle.std.proofs.lemmas.Bool.{cases_lt, both_ways, not-true, not_from_false, and_parts, eqb-true}
use Rattle.pair_split.specs.Family.{Entry, has_end, off_side, touches, is_common, IsFamily, IsSeparation}
use Rattle.pair_split.proofs.Elements.{contains-here, contains-later, contains-cases, contains-filter, filter-contains}
use Rattle.pair_split.proofs.Sides.{common-from, common-inside, touching-entry}
use Rattle.pair_split.proofs.SameEntries.{IsWithin, same-tight}
use Rattle.pair_split.proofs.Replaced.{replaced-tight}
use Rattle.split_comp.specs.declared.items.StackEntry.{StackEntry}
use Rattle.split_comp.specs.Stack.{item, entry, family, IsLaid, IsTreeAt, IsEnded, IsStack}
use Rattle.split_comp.specs.Sides.{is_frond_to, IsCutOff}
use Rattle.split_comp.proofs.Entries.{item-ends, low-end, stack-contains, rest-contains, family-cases, same-item, not-rest, rest-family, family-from}

-- the entries from place k on that pass the test are a side, of which the entry x has the two common vertices as its ends; the
-- others, which are fronds parallel to it, stay; x is on top now
pub record IsRenewed (last : ℕ → ℕ) (done v k j : ℕ) (keeps : StackEntry → Bool) (side : ℕ → Bool) (x : StackEntry) (old new : List StackEntry) (rest : List Entry) : Type 0 where
  pub stands : IsStack last done v old rest
  pub within : k < length old
  pub size : length new ≡ j + 1
  pub few : (j ≡ k) ⊎ (j ≡ k + 1)
  pub same : (i : ℕ) → i < k → item new i ≡ item old i
  pub top : item new j ≡ x
  pub mid : (i : ℕ) → k ≤ i → i < j → (is_frond_to x.up x.low (item new i) ≡ true) × ((item new i).start ≡ k) × (x.tree ≡ true)
  pub mid_old : (i : ℕ) → k ≤ i → i < j → (o : ℕ) × (k ≤ o) × (o < length old) × (entry (item old o) ≡ entry (item new i)) × (keeps (item old o) ≡ false)
  pub mid_new : (o : ℕ) → k ≤ o → o < length old → keeps (item old o) ≡ false → (i : ℕ) × (k ≤ i) × (i < j) × (entry (item old o) ≡ entry (item new i))
  pub cut : IsCutOff keeps old rest k side
  pub separates : IsSeparation (family old rest) side x.up x.low
  pub rises : (x.up < x.low) × (x.low < last x.up)
  pub fresh : (y : Entry) → Contains (family old rest) y → y.name ≢ x.name
  pub up_path : (x.up ≤ v) × (v < last x.up)
  pub trees : (y : StackEntry) → y.tree ≡ true → keeps y ≡ true
  pub shape : ((x.tree ≡ true) × ((p : ℕ) × IsTreeAt old x.low p × (k ≤ p) × ((item old p).start ≡ x.start) × (x.start < k))) ⊎ ((x.tree ≡ false) × (x.low ≡ v) × (x.start ≡ j))

-- a frond to up from low
pub frond-parts : (up low : ℕ) (y : StackEntry) → is_frond_to up low y ≡ true → (y.tree ≡ false) × (y.up ≡ up) × (y.low ≡ low)
frond-parts up low y h = let a = and_parts (not y.tree) ((y.up == up) && (y.low == low)) h in let b = and_parts (y.up == up) (y.low == low) a.1 in (not-true y.tree a.0, eqb-true y.up up b.0, eqb-true y.low low b.1)

module _ (last : ℕ → ℕ) (done v k j : ℕ) (keeps : StackEntry → Bool) (side : ℕ → Bool) (x : StackEntry) (old new : List StackEntry) (rest : List Entry) (r : IsRenewed last done v k j keeps side x old new rest) where
  laid-old : IsLaid last done old
  laid-old = r.stands.laid

  k-within : k ≤ j
  k-within = elim r.few [ inl e ↦ omega (arith, e) | inr e ↦ omega (arith, e) ]

  j-few : j ≤ k + 1
  j-few = elim r.few [ inl e ↦ omega (arith, e) | inr e ↦ omega (arith, e) ]

  -- places now: in front, the frond that stays, on top
  pub place-cases : (i : ℕ) → i < length new → (i < k) ⊎ ((k ≤ i) × (i < j)) ⊎ (i ≡ j)
  place-cases i l = elim (cases_lt i k) [
    | inl a ↦ inl a
    | inr a ↦ elim (cases_lt i j) [ inl b ↦ inr (inl (a, b)) | inr b ↦ inr (inr (omega (arith, b, l, r.size))) ]
  ]

  -- a vertex that both an entry in front and one of the side have
  pub across : (i o z : ℕ) → i < k → k ≤ o → o < length old → keeps (item old o) ≡ true → has_end z (entry (item old i)) ≡ true → has_end z (entry (item old o)) ≡ true → (z ≡ x.up) ⊎ (z ≡ x.low)
  across i o z l m w h a b = r.separates.no_other z (common-from (family old rest) side z
      (record { entry = entry (item old o); within = stack-contains old rest o w; side = r.cut.from o m w ∙ h; end = b })
      (record { entry = entry (item old i); within = stack-contains old rest i (omega (arith, l, r.within)); side = not_from_false (side (item old i).name) (r.cut.before i l (omega (arith, l, r.within))); end = a }))

  -- a vertex that the rest and one of the side have
  pub across-rest : (o z : ℕ) → k ≤ o → o < length old → keeps (item old o) ≡ true → has_end z (entry (item old o)) ≡ true → touches rest z ≡ true → (z ≡ x.up) ⊎ (z ≡ x.low)
  across-rest o z m w h b t =
      let e = touching-entry rest z t in
      r.separates.no_other z (common-from (family old rest) side z
      (record { entry = entry (item old o); within = stack-contains old rest o w; side = r.cut.from o m w ∙ h; end = b })
      (record { entry = e.0; within = rest-contains old rest e.0 e.1; side = not_from_false (side e.0.name) (r.cut.off e.0 e.1); end = e.2 }))

  -- an end of the new entry is one of an entry of the side
  pub end-old : (z : ℕ) → (z ≡ x.up) ⊎ (z ≡ x.low) → (o : ℕ) × (k ≤ o) × (o < length old) × (keeps (item old o) ≡ true) × (has_end z (entry (item old o)) ≡ true)
  end-old z h = elim h [
    | inl e ↦ at (subst (λ (y : ℕ). is_common (family old rest) side y ≡ true) (sym e) r.separates.first_common)
    | inr e ↦ at (subst (λ (y : ℕ). is_common (family old rest) side y ≡ true) (sym e) r.separates.second_common)
  ]
    where
      found : (y : Entry) → side y.name ≡ true → has_end z y ≡ true → ((i : ℕ) × (i < length old) × (y ≡ entry (item old i))) ⊎ Contains rest y → (o : ℕ) × (k ≤ o) × (o < length old) × (keeps (item old o) ≡ true) × (has_end z (entry (item old o)) ≡ true)
      found y s e (inr c) = absurd (both_ways (side y.name) (r.cut.off y c) s)
      found y s e (inl p) = elim (cases_lt p.0 k) [
        | inl l ↦ absurd (both_ways (side y.name) (ap (λ (q : Entry). side q.name) p.2 ∙ r.cut.before p.0 l p.1) s)
        | inr l ↦ (p.0, l, p.1, sym (r.cut.from p.0 l p.1) ∙ (sym (ap (λ (q : Entry). side q.name) p.2) ∙ s), subst (λ (q : Entry). has_end z q ≡ true) p.2 e)
      ]

      at : is_common (family old rest) side z ≡ true → (o : ℕ) × (k ≤ o) × (o < length old) × (keeps (item old o) ≡ true) × (has_end z (entry (item old o)) ≡ true)
      at c = let t = common-inside (family old rest) side z c in found t.entry t.side t.end (family-cases old rest t.entry t.within)

  -- each end of an entry now is one of an entry before: at the same place, or from place k on
  pub end-before : (i z : ℕ) → i < length new → has_end z (entry (item new i)) ≡ true → (o : ℕ) × (o < length old) × (has_end z (entry (item old o)) ≡ true) × (((i < k) × (o ≡ i)) ⊎ ((k ≤ i) × (k ≤ o)))
  end-before i z l h = elim (place-cases i l) [
    | inl a ↦ (i, omega (arith, a, r.within), subst (λ (y : StackEntry). has_end z (entry y) ≡ true) (r.same i a) h, inl (a, refl))
    | inr b ↦ elim b [
      | inl m ↦ let o = r.mid_old i m.0 m.1 in (o.0, o.2, subst (λ (y : Entry). has_end z y ≡ true) (sym o.3) h, inr (m.0, o.1))
      | inr e ↦ let o = end-old z (item-ends z x (subst (λ (y : StackEntry). has_end z (entry y) ≡ true) (ap (item new) e ∙ r.top) h)) in (o.0, o.2, o.4, inr (omega (arith, e, k-within), o.1))
    ]
  ]

  -- the lower end of an entry from place k on now is that of the new one
  pub low-now : (i : ℕ) → k ≤ i → i < length new → (item new i).low ≡ x.low
  low-now i m l = elim (place-cases i l) [
    | inl a ↦ absurd (omega (arith, a, m))
    | inr b ↦ elim b [
      | inl c ↦ (frond-parts x.up x.low (item new i) (r.mid i c.0 c.1).0).2
      | inr e ↦ ap (λ (y : StackEntry). y.low) (ap (item new) e ∙ r.top)
    ]
  ]

  -- so is the upper end
  pub up-now : (i : ℕ) → k ≤ i → i < length new → (item new i).up ≡ x.up
  up-now i m l = elim (place-cases i l) [
    | inl a ↦ absurd (omega (arith, a, m))
    | inr b ↦ elim b [
      | inl c ↦ (frond-parts x.up x.low (item new i) (r.mid i c.0 c.1).0).1
      | inr e ↦ ap (λ (y : StackEntry). y.up) (ap (item new) e ∙ r.top)
    ]
  ]

  -- a tree edge now: in front, or the new entry
  pub tree-cases : (p : ℕ) → p < length new → (item new p).tree ≡ true → (p < k) ⊎ ((p ≡ j) × (x.tree ≡ true))
  tree-cases p l t = elim (place-cases p l) [
    | inl a ↦ inl a
    | inr b ↦ elim b [
      | inl c ↦ absurd (both_ways (item new p).tree (frond-parts x.up x.low (item new p) (r.mid p c.0 c.1).0).0 t)
      | inr e ↦ inr (e, sym (ap (λ (y : StackEntry). y.tree) (ap (item new) e ∙ r.top)) ∙ t)
    ]
  ]

  -- a tree edge in front is one of before
  front-tree : (p : ℕ) → p < k → (item new p).tree ≡ true → (item old p).tree ≡ true
  front-tree p l t = sym (ap (λ (y : StackEntry). y.tree) (r.same p l)) ∙ t

  -- the lower end of the new entry is not below a tree edge in front
  low-apart : (p : ℕ) → p < k → (item old p).tree ≡ true → (x.low < (item old p).low) ⊎ (last (item old p).low ≤ x.low)
  low-apart p l t = elim r.shape [
    | inl s ↦
        let q = s.1 in
        subst (λ (z : ℕ). (z < (item old p).low) ⊎ (last (item old p).low ≤ z)) q.1.low (laid-old.outside p q.0 (omega (arith, l, r.within)) t q.1.within (inr (omega (arith, l, q.2))))
    | inr s ↦ inl (omega (arith, s.1, laid-old.finished p (omega (arith, l, r.within)) t, r.stands.left.ahead))
  ]

  -- what lies below the new tree edge
  below-tree : (i : ℕ) → x.tree ≡ true → x.start ≤ i → i < k → (x.low ≤ (item old i).low) × ((item old i).low < last x.low) × (x.start ≤ (item old i).start)
  below-tree i t a b = elim r.shape [
    | inr s ↦ absurd (both_ways x.tree s.0 t)
    | inl s ↦
        let q = s.1 in
        let w = laid-old.inside q.0 i q.1.within q.1.tree (omega (arith, q.3, a)) (omega (arith, b, q.2)) in
        (subst (λ (z : ℕ). z ≤ (item old i).low) q.1.low w.0, subst (λ (z : ℕ). (item old i).low < last z) q.1.low w.1, subst (λ (z : ℕ). z ≤ (item old i).start) q.3 (laid-old.laminar q.0 i q.1.within q.1.tree (omega (arith, q.3, a)) (omega (arith, b, q.2))))
  ]

  -- tree edges there are not above it
  near-tree : (i : ℕ) → x.tree ≡ true → x.start ≤ i → i < k → (item old i).tree ≡ true → x.low ≤ (item old i).up
  near-tree i t a b g = elim r.shape [
    | inr s ↦ absurd (both_ways x.tree s.0 t)
    | inl s ↦ let q = s.1 in subst (λ (z : ℕ). z ≤ (item old i).up) q.1.low (laid-old.nearest q.0 i q.1.within q.1.tree (omega (arith, q.3, a)) (omega (arith, b, q.2)) g)
  ]

  -- and what does not
  beside-tree : (i : ℕ) → x.tree ≡ true → i < x.start → i < k → ((item old i).low < x.low) ⊎ (last x.low ≤ (item old i).low)
  beside-tree i t a b = elim r.shape [
    | inr s ↦ absurd (both_ways x.tree s.0 t)
    | inl s ↦
        let q = s.1 in
        subst (λ (z : ℕ). ((item old i).low < z) ⊎ (last z ≤ (item old i).low)) q.1.low (laid-old.outside q.0 i q.1.within q.1.tree (omega (arith, b, r.within)) (inl (omega (arith, a, q.3))))
  ]

  -- an entry in front, as it was
  front : (P : StackEntry → Type 0) (i : ℕ) → i < k → P (item old i) → P (item new i)
  front P i l h = subst P (sym (r.same i l)) h

  back : (P : StackEntry → Type 0) (i : ℕ) → i < k → P (item new i) → P (item old i)
  back P i l h = subst P (r.same i l) h

  top-start : (p : ℕ) → p ≡ j → (item new p).start ≡ x.start
  top-start p e = ap (λ (y : StackEntry). y.start) (ap (item new) e ∙ r.top)

  start-lower : x.tree ≡ true → x.start < k
  start-lower t = elim r.shape [ inl s ↦ s.1.4 | inr s ↦ absurd (both_ways x.tree s.0 t) ]

  low-done : x.tree ≡ true → done ≤ x.low
  low-done t = elim r.shape [ inl s ↦ omega (arith, laid-old.finished s.1.0 s.1.1.within s.1.1.tree, s.1.1.low) | inr s ↦ absurd (both_ways x.tree s.0 t) ]

  pub laid-new : IsLaid last done new
  laid-new = record { rises = rises; frond_start = frond_start; tree_start = tree_start; inside = inside; outside = outside; laminar = laminar; nearest = nearest; finished = finished }
    where
      rises : (i : ℕ) → i < length new → ((item new i).up < (item new i).low) × ((item new i).low < last (item new i).up)
      rises i l = elim (cases_lt i k) [
        | inl a ↦ front (λ (y : StackEntry). (y.up < y.low) × (y.low < last y.up)) i a (laid-old.rises i (omega (arith, a, r.within)))
        | inr a ↦ (omega (arith, up-now i a l, low-now i a l, r.rises.0), subst (λ (z : ℕ). (item new i).low < last z) (sym (up-now i a l)) (omega (arith, low-now i a l, r.rises.1)))
      ]

      frond_start : (i : ℕ) → i < length new → (item new i).tree ≡ false → (item new i).start ≡ i
      frond_start i l f = elim (place-cases i l) [
        | inl a ↦ ap (λ (y : StackEntry). y.start) (r.same i a) ∙ laid-old.frond_start i (omega (arith, a, r.within)) (back (λ (y : StackEntry). y.tree ≡ false) i a f)
        | inr b ↦ elim b [
          | inl c ↦ omega (arith, (r.mid i c.0 c.1).1, c.0, c.1, j-few)
          | inr e ↦ top-start i e ∙ (elim r.shape [ inl s ↦ absurd (both_ways x.tree (sym (ap (λ (y : StackEntry). y.tree) (ap (item new) e ∙ r.top)) ∙ f) s.0) | inr s ↦ s.2 ∙ sym e ])
        ]
      ]

      tree_start : (p : ℕ) → p < length new → (item new p).tree ≡ true → (item new p).start < p
      tree_start p l t = elim (tree-cases p l t) [
        | inl a ↦ front (λ (y : StackEntry). y.start < p) p a (laid-old.tree_start p (omega (arith, a, r.within)) (front-tree p a t))
        | inr e ↦ omega (arith, top-start p e.0, start-lower e.1, k-within, e.0)
      ]

      inside : (p i : ℕ) → p < length new → (item new p).tree ≡ true → (item new p).start ≤ i → i ≤ p → ((item new p).low ≤ (item new i).low) × ((item new i).low < last (item new p).low)
      inside p i l t a b = elim (tree-cases p l t) [
        | inl c ↦ front (λ (y : StackEntry). (y.low ≤ (item new i).low) × ((item new i).low < last y.low)) p c (front (λ (y : StackEntry). ((item old p).low ≤ y.low) × (y.low < last (item old p).low)) i (omega (arith, b, c))
            (laid-old.inside p i (omega (arith, c, r.within)) (front-tree p c t) (back (λ (y : StackEntry). y.start ≤ i) p c a) b))
        | inr e ↦ subst (λ (z : ℕ). (z ≤ (item new i).low) × ((item new i).low < last z)) (sym (low-now p (omega (arith, e.0, k-within)) l)) (elim (cases_lt i k) [
          | inl c ↦ let w = below-tree i e.1 (omega (arith, top-start p e.0, a)) c in front (λ (y : StackEntry). (x.low ≤ y.low) × (y.low < last x.low)) i c (w.0, w.1)
          | inr c ↦ let w = low-now i c (omega (arith, b, l)) in (omega (arith, w), omega (arith, w, r.stands.above x.low))
        ])
      ]

      outside : (p i : ℕ) → p < length new → (item new p).tree ≡ true → i < length new → (i < (item new p).start) ⊎ (p < i) → ((item new i).low < (item new p).low) ⊎ (last (item new p).low ≤ (item new i).low)
      outside p i l t m h = elim (tree-cases p l t) [
        | inl c ↦ front (λ (y : StackEntry). ((item new i).low < y.low) ⊎ (last y.low ≤ (item new i).low)) p c (elim (cases_lt i k) [
          | inl d ↦ front (λ (y : StackEntry). (y.low < (item old p).low) ⊎ (last (item old p).low ≤ y.low)) i d (laid-old.outside p i (omega (arith, c, r.within)) (front-tree p c t) (omega (arith, d, r.within)) (back (λ (y : StackEntry). (i < y.start) ⊎ (p < i)) p c h))
          | inr d ↦ subst (λ (z : ℕ). (z < (item old p).low) ⊎ (last (item old p).low ≤ z)) (sym (low-now i d m)) (low-apart p c (front-tree p c t))
        ])
        | inr e ↦ subst (λ (z : ℕ). ((item new i).low < z) ⊎ (last z ≤ (item new i).low)) (sym (low-now p (omega (arith, e.0, k-within)) l)) (elim h [
          | inr d ↦ absurd (omega (arith, d, e.0, m, r.size))
          | inl d ↦ let c : i < k = omega (arith, d, top-start p e.0, start-lower e.1) in front (λ (y : StackEntry). (y.low < x.low) ⊎ (last x.low ≤ y.low)) i c (beside-tree i e.1 (omega (arith, d, top-start p e.0)) c)
        ])
      ]

      laminar : (p i : ℕ) → p < length new → (item new p).tree ≡ true → (item new p).start ≤ i → i < p → (item new p).start ≤ (item new i).start
      laminar p i l t a b = elim (tree-cases p l t) [
        | inl c ↦ front (λ (y : StackEntry). y.start ≤ (item new i).start) p c (front (λ (y : StackEntry). (item old p).start ≤ y.start) i (omega (arith, b, c)) (laid-old.laminar p i (omega (arith, c, r.within)) (front-tree p c t) (back (λ (y : StackEntry). y.start ≤ i) p c a) b))
        | inr e ↦ elim (cases_lt i k) [
          | inl c ↦ omega (arith, top-start p e.0, front (λ (y : StackEntry). x.start ≤ y.start) i c (below-tree i e.1 (omega (arith, top-start p e.0, a)) c).2)
          | inr c ↦ omega (arith, top-start p e.0, start-lower e.1, (r.mid i c (omega (arith, b, e.0))).1)
        ]
      ]

      nearest : (p i : ℕ) → p < length new → (item new p).tree ≡ true → (item new p).start ≤ i → i < p → (item new i).tree ≡ true → (item new p).low ≤ (item new i).up
      nearest p i l t a b g = elim (tree-cases p l t) [
        | inl c ↦ front (λ (y : StackEntry). y.low ≤ (item new i).up) p c (front (λ (y : StackEntry). (item old p).low ≤ y.up) i (omega (arith, b, c))
            (laid-old.nearest p i (omega (arith, c, r.within)) (front-tree p c t) (back (λ (y : StackEntry). y.start ≤ i) p c a) b (front-tree i (omega (arith, b, c)) g)))
        | inr e ↦ elim (tree-cases i (omega (arith, b, l)) g) [
          | inr d ↦ absurd (omega (arith, b, d.0, e.0))
          | inl c ↦ omega (arith, low-now p (omega (arith, e.0, k-within)) l, front (λ (y : StackEntry). x.low ≤ y.up) i c (near-tree i e.1 (omega (arith, top-start p e.0, a)) c (front-tree i c g)))
        ]
      ]

      finished : (p : ℕ) → p < length new → (item new p).tree ≡ true → done ≤ (item new p).low
      finished p l t = elim (tree-cases p l t) [
        | inl a ↦ front (λ (y : StackEntry). done ≤ y.low) p a (laid-old.finished p (omega (arith, a, r.within)) (front-tree p a t))
        | inr e ↦ omega (arith, low-now p (omega (arith, e.0, k-within)) l, low-done e.1)
      ]

  -- an end of the new entry behind v has its tree edge on top
  top-held : (z : ℕ) → v < z → (z ≡ x.up) ⊎ (z ≡ x.low) → (p : ℕ) × IsTreeAt new z p
  top-held z g (inl e) = absurd (omega (arith, g, e, r.up_path.0))
  top-held z g (inr e) = elim r.shape [
    | inr s ↦ absurd (omega (arith, g, e, s.1))
    | inl s ↦ (j, record { within = omega (arith, r.size); tree = ap (λ (y : StackEntry). y.tree) r.top ∙ s.0; low = ap (λ (y : StackEntry). y.low) r.top ∙ sym e })
  ]

  pub ended-new : IsEnded last v new
  ended-new = record { held = held; on_path = on_path }
    where
      held : (i z : ℕ) → i < length new → has_end z (entry (item new i)) ≡ true → v < z → (p : ℕ) × IsTreeAt new z p
      held i z l h g = elim (cases_lt i k) [
        | inr a ↦ top-held z g (elim (item-ends z (item new i) h) [ inl e ↦ inl (e ∙ up-now i a l) | inr e ↦ inr (e ∙ low-now i a l) ])
        | inl a ↦
            let h-old = back (λ (y : StackEntry). has_end z (entry y) ≡ true) i a h in
            let p = r.stands.ended.held i z (omega (arith, a, r.within)) h-old g in
            elim (cases_lt p.0 k) [
              | inl b ↦ (p.0, record { within = omega (arith, b, k-within, r.size); tree = front (λ (y : StackEntry). y.tree ≡ true) p.0 b p.1.tree; low = front (λ (y : StackEntry). y.low ≡ z) p.0 b p.1.low })
              | inr b ↦ top-held z g (across i p.0 z a b p.1.within (r.trees (item old p.0) p.1.tree) h-old (low-end z (item old p.0) (sym p.1.low)))
            ]
      ]

      on_path : (i z : ℕ) → i < length new → has_end z (entry (item new i)) ≡ true → z ≤ v → v < last z
      on_path i z l h m = let o = end-before i z l h in r.stands.ended.on_path o.0 z o.1 o.2 m

  -- the family now, and what was left of the old one with the new entry
  pub left-within : IsWithin (entry x ∷ off_side side (family old rest)) (family new rest)
  left-within e c = elim (contains-cases e (entry x) (off_side side (family old rest)) c) [
    | inl q ↦ subst (λ (y : Entry). Contains (family new rest) y) (ap entry r.top ∙ q) (stack-contains new rest j (omega (arith, r.size)))
    | inr d ↦ let f = filter-contains (λ (y : Entry). not (side y.name)) e (family old rest) d in elim (family-cases old rest e f.0) [
      | inr q ↦ rest-contains new rest e q
      | inl p ↦ elim (cases_lt p.0 k) [
        | inl a ↦ subst (λ (y : Entry). Contains (family new rest) y) (ap entry (r.same p.0 a) ∙ sym p.2) (stack-contains new rest p.0 (omega (arith, a, k-within, r.size)))
        | inr a ↦
            let w = r.mid_new p.0 a p.1 (sym (r.cut.from p.0 a p.1) ∙ (ap (λ (y : Entry). side y.name) (sym p.2) ∙ not-true (side e.name) f.1)) in
            subst (λ (y : Entry). Contains (family new rest) y) (sym w.3 ∙ sym p.2) (stack-contains new rest w.0 (omega (arith, w.2, r.size)))
      ]
    ]
  ]

  -- an entry that is off the side is left
  off-left : (o : ℕ) → o < length old → side (item old o).name ≡ false → Contains (entry x ∷ off_side side (family old rest)) (entry (item old o))
  off-left o l h = contains-later (entry (item old o)) (entry x) (off_side side (family old rest)) (contains-filter (λ (y : Entry). not (side y.name)) (entry (item old o)) (family old rest) (stack-contains old rest o l) (not_from_false (side (item old o).name) h))

  pub within-left : IsWithin (family new rest) (entry x ∷ off_side side (family old rest))
  within-left e c = elim (family-cases new rest e c) [
    | inr q ↦ contains-later e (entry x) (off_side side (family old rest)) (contains-filter (λ (y : Entry). not (side y.name)) e (family old rest) (rest-contains old rest e q) (not_from_false (side e.name) (r.cut.off e q)))
    | inl p ↦ subst (λ (y : Entry). Contains (entry x ∷ off_side side (family old rest)) y) (sym p.2) (elim (place-cases p.0 p.1) [
      | inl a ↦ subst (λ (y : StackEntry). Contains (entry x ∷ off_side side (family old rest)) (entry y)) (sym (r.same p.0 a)) (off-left p.0 (omega (arith, a, r.within)) (r.cut.before p.0 a (omega (arith, a, r.within))))
      | inr b ↦ elim b [
        | inl m ↦ let o = r.mid_old p.0 m.0 m.1 in subst (λ (y : Entry). Contains (entry x ∷ off_side side (family old rest)) y) o.3 (off-left o.0 o.2 (r.cut.from o.0 o.1 o.2 ∙ o.4))
        | inr e ↦ subst (λ (y : StackEntry). Contains (entry x ∷ off_side side (family old rest)) (entry y)) (sym (ap (item new) e ∙ r.top)) (contains-here (entry x) (off_side side (family old rest)))
      ]
    ])
  ]

  -- names in front of the top are old ones
  old-place : (i : ℕ) → i < j → (o : ℕ) × (o < length old) × ((item new i).name ≡ (item old o).name) × (((i < k) × (o ≡ i)) ⊎ ((k ≤ i) × (k ≤ o)))
  old-place i l = elim (cases_lt i k) [
    | inl a ↦ (i, omega (arith, a, r.within), ap (λ (y : StackEntry). y.name) (r.same i a), inl (a, refl))
    | inr a ↦ let o = r.mid_old i a l in (o.0, o.2, sym (ap (λ (y : Entry). y.name) o.3), inr (a, o.1))
  ]

  pub family-new : IsFamily (family new rest)
  family-new = family-from new rest (rest-family old rest r.stands.left.is_family) apart off (λ i l e. omega (arith, e, (laid-new.rises i l).0))
    where
      is-top : (i : ℕ) → i < length new → (i < j → ⊥) → (item new i).name ≡ x.name
      is-top i l n = let e : i ≡ j = elim (cases_lt i j) [ inl a ↦ absurd (n a) | inr a ↦ omega (arith, a, l, r.size) ] in ap (λ (y : StackEntry). y.name) (ap (item new) e ∙ r.top)

      apart : (i h : ℕ) → i < h → h < length new → (item new i).name ≢ (item new h).name
      apart i h l m e =
          let o = old-place i (omega (arith, l, m, r.size)) in
          elim (cases_lt h j) [
            | inl a ↦
                let q = old-place h a in
                let same = same-item old rest r.stands.left.is_family o.0 q.0 o.1 q.1 (sym o.2 ∙ (e ∙ q.2)) in
                elim o.3 [
                  | inl b ↦ elim q.3 [ inl c ↦ omega (arith, same, b.1, c.1, l) | inr c ↦ omega (arith, same, b.0, b.1, c.1) ]
                  | inr b ↦ elim q.3 [ inl c ↦ omega (arith, b.0, c.0, l) | inr c ↦ omega (arith, b.0, l, a, c.0, j-few) ]
                ]
            | inr a ↦ r.fresh (entry (item old o.0)) (stack-contains old rest o.0 o.1) (sym o.2 ∙ (e ∙ is-top h m (λ b. omega (arith, a, b))))
          ]

      off : (i : ℕ) (y : Entry) → i < length new → Contains rest y → (item new i).name ≢ y.name
      off i y l c e = elim (cases_lt i j) [
        | inl a ↦ let o = old-place i a in not-rest old rest r.stands.left.is_family o.0 y o.1 c (sym o.2 ∙ e)
        | inr a ↦ r.fresh y (rest-contains old rest y c) (sym e ∙ is-top i l (λ b. omega (arith, a, b)))
      ]

  pub stack-new : IsStack last done v new rest
  stack-new = record {
    above = r.stands.above;
    nested = r.stands.nested;
    laid = laid-new;
    ended = ended-new;
    left = record {
      is_family = family-new;
      is_tight = same-tight (entry x ∷ off_side side (family old rest)) (family new rest) left-within within-left (replaced-tight (family old rest) side (entry x) r.separates r.stands.left.is_tight);
      ahead = r.stands.left.ahead;
      free = r.stands.left.free;
      on_path = λ i z l h m. let o = end-before i z l h in r.stands.left.on_path o.0 z o.1 o.2 m;
      own = r.stands.left.own;
    };
  }
