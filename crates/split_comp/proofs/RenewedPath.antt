-- What holds at the vertices of the path, and the first places, when a side on top of the stack was replaced by one entry.
use Rattle.std.proofs.Common.{◌≡◌, ◌≢◌, ℕ, ◌<◌, ◌≤◌, ◌⊎◌, inl, inr, Bool, true, List, length, slice_index_or, refl, sym, ap, ◌∙◌, subst, arith}
use Rattle.std.proofs.lemmas.Bool.{cases_Bool, cases_lt, both_ways}
use Rattle.pair_split.specs.Family.{Entry, has_end}
use Rattle.split_comp.specs.declared.items.StackEntry.{StackEntry}
use Rattle.split_comp.specs.declared.items.Dart.{Dart}
use Rattle.split_comp.specs.Stack.{item, entry, IsTreeAt, AreFirst, no_place}
use Rattle.split_comp.specs.Walk.{IsOnPath}
use Rattle.split_comp.specs.Frames.{AreFrames, IsGoneTo, AreReached}
use Rattle.split_comp.proofs.Entries.{item-ends, up-end, low-end}
use Rattle.split_comp.proofs.Renewed.{IsRenewed, across-rest, end-old, low-now, up-now, tree-cases}

module _ (last : ℕ → ℕ) (done v k j : ℕ) (keeps : StackEntry → Bool) (side : ℕ → Bool) (x : StackEntry) (old new : List StackEntry) (rest : List Entry) (r : IsRenewed last done v k j keeps side x old new rest) where
  -- upper ends above y, where y is no greater than the lower ends of the entries that go: they stay
  module _ (y : ℕ) (low : (i : ℕ) → k ≤ i → i < length old → y ≤ (item old i).low) (low-top : y ≤ x.low) where
    -- an upper end above y now is one of before
    pub up-before : (i : ℕ) → k ≤ i → i < length new → (item new i).up < y → (o : ℕ) × (k ≤ o) × (o < length old) × ((item old o).up ≡ (item new i).up)
    up-before i m l h =
        let o = end-old last done v k j keeps side x old new rest r (item new i).up (inl (up-now last done v k j keeps side x old new rest r i m l)) in
        elim (item-ends (item new i).up (item old o.0) o.4) [
          | inl e ↦ (o.0, o.1, o.2, sym e)
          | inr e ↦ absurd (omega (arith, e, h, low o.0 o.1 o.2))
        ]

    -- and one of before that is on the path to v is one now
    pub up-after : (o : ℕ) → k ≤ o → o < length old → (item old o).up < y → (item old o).up ≤ v → (i : ℕ) × (k ≤ i) × (i < length new) × ((item new i).up ≡ (item old o).up)
    up-after o m l h p = elim (cases_Bool (keeps (item old o))) [
      | inr f ↦ let i = r.mid_new o m l f in (i.0, i.1, omega (arith, i.2, r.size), sym (ap (λ (e : Entry). e.first) i.3))
      | inl t ↦
          let touched = r.stands.left.on_path o (item old o).up l (up-end (item old o).up (item old o) refl) p in (
            j,
            k-in,
            omega (arith, r.size),
            ap (λ (q : StackEntry). q.up) r.top ∙ sym (elim (across-rest last done v k j keeps side x old new rest r o (item old o).up m l t (up-end (item old o).up (item old o) refl) touched) [
              | inl e ↦ e
              | inr e ↦ absurd (omega (arith, e, h, low-top))
            ]),
          )
    ]
      where
        k-in : k ≤ j
        k-in = elim r.few [ inl e ↦ omega (arith, e) | inr e ↦ omega (arith, e) ]

  pub frames-new : (start : ℕ → ℕ) → (x.tree ≡ true → (z : ℕ) → z ≢ 0 → IsOnPath last v z → z ≤ x.up) → AreFrames last v start old → ((z : ℕ) → z ≢ 0 → IsOnPath last v z → start z ≤ k) → AreFrames last v start new
  frames-new start tree-path f l = record { within = λ z n p. omega (arith, l z n p, few, r.size); from = from; before = before; tree_up = tree_up }
    where
      few : k ≤ j
      few = elim r.few [ inl e ↦ omega (arith, e) | inr e ↦ omega (arith, e) ]

      from : (z i : ℕ) → z ≢ 0 → IsOnPath last v z → start z ≤ i → i < length new → (z ≤ (item new i).low) × ((item new i).low < last z)
      from z i n p a b = elim (cases_lt i k) [
        | inl c ↦ subst (λ (q : StackEntry). (z ≤ q.low) × (q.low < last z)) (sym (r.same i c)) (f.from z i n p a (omega (arith, c, r.within)))
        | inr c ↦ subst (λ (q : ℕ). (z ≤ q) × (q < last z)) (sym (low-now last done v k j keeps side x old new rest r i c b)) (elim r.shape [
          | inl s ↦ subst (λ (q : ℕ). (z ≤ q) × (q < last z)) s.1.1.low (f.from z s.1.0 n p (omega (arith, l z n p, s.1.2)) s.1.1.within)
          | inr s ↦ subst (λ (q : ℕ). (z ≤ q) × (q < last z)) (sym s.1) p
        ])
      ]

      tree_up : (z i : ℕ) → z ≢ 0 → IsOnPath last v z → start z ≤ i → i < length new → (item new i).tree ≡ true → z ≤ (item new i).up
      tree_up z i n p a b t = elim (tree-cases last done v k j keeps side x old new rest r i b t) [
        | inl c ↦ subst (λ (q : StackEntry). z ≤ q.up) (sym (r.same i c)) (f.tree_up z i n p a (omega (arith, c, r.within)) (subst (λ (q : StackEntry). q.tree ≡ true) (r.same i c) t))
        | inr c ↦ omega (arith, ap (λ (q : StackEntry). q.up) (ap (item new) c.0 ∙ r.top), tree-path c.1 z n p)
      ]

      before : (z i : ℕ) → z ≢ 0 → IsOnPath last v z → i < start z → ((item new i).low < z) ⊎ (last z ≤ (item new i).low)
      before z i n p a = subst (λ (q : StackEntry). (q.low < z) ⊎ (last z ≤ q.low)) (sym (r.same i (omega (arith, a, l z n p)))) (f.before z i n p a)

  -- the lower end of the new entry is below the vertices of the path
  pub low-path : (start : ℕ → ℕ) → AreFrames last v start old → ((z : ℕ) → z ≢ 0 → IsOnPath last v z → start z ≤ k) → (z : ℕ) → z ≢ 0 → IsOnPath last v z → z ≤ x.low
  low-path start f l z n p = elim r.shape [
    | inl s ↦ subst (λ (q : ℕ). z ≤ q) s.1.1.low (f.from z s.1.0 n p (omega (arith, l z n p, s.1.2)) s.1.1.within).0
    | inr s ↦ omega (arith, s.1, p.0)
  ]

  pub reached-new : (dart : ℕ → ℕ → Dart) (gone start : ℕ → ℕ) → AreFrames last v start old → ((z : ℕ) → z ≢ 0 → IsOnPath last v z → start z ≤ k) → AreReached last dart gone v start old → AreReached last dart gone v start new
  reached-new dart gone start f l a = record { gone_to = gone_to; met = met }
    where
      few : k ≤ j
      few = elim r.few [ inl e ↦ omega (arith, e) | inr e ↦ omega (arith, e) ]

      lows : (z : ℕ) → z ≢ 0 → IsOnPath last v z → (i : ℕ) → k ≤ i → i < length old → z ≤ (item old i).low
      lows z n p i m b = (f.from z i n p (omega (arith, m, l z n p)) b).0

      gone_to : (z i : ℕ) → z ≢ 0 → IsOnPath last v z → start z ≤ i → i < length new → (item new i).up < z → IsGoneTo dart last gone z (item new i).up
      gone_to z i n p m b h = elim (cases_lt i k) [
        | inl c ↦ subst (λ (q : StackEntry). IsGoneTo dart last gone z q.up) (sym (r.same i c)) (a.gone_to z i n p m (omega (arith, c, r.within)) (subst (λ (q : StackEntry). q.up < z) (r.same i c) h))
        | inr c ↦ let o = up-before z (lows z n p) (low-path start f l z n p) i c b h in
            subst (λ (q : ℕ). IsGoneTo dart last gone z q) o.3 (a.gone_to z o.0 n p (omega (arith, o.1, l z n p)) o.2 (omega (arith, o.3, h)))
      ]

      met : (z y : ℕ) → z ≢ 0 → IsOnPath last v z → y < z → IsGoneTo dart last gone z y → (i : ℕ) × (start z ≤ i) × (i < length new) × ((item new i).up ≡ y)
      met z y n p h w =
          let o = a.met z y n p h w in
          elim (cases_lt o.0 k) [
            | inl c ↦ (o.0, o.1, omega (arith, c, few, r.size), ap (λ (q : StackEntry). q.up) (r.same o.0 c) ∙ o.3)
            | inr c ↦ let i = up-after z (lows z n p) (low-path start f l z n p) o.0 c o.2 (omega (arith, o.3, h)) (omega (arith, o.3, h, p.0)) in
                (i.0, omega (arith, i.1, l z n p), i.2, i.3 ∙ o.3)
          ]

  -- the first places, where the entries from place k on have been pushed
  pub first-new : (n : ℕ) (first now : List ℕ) → AreFirst n done first old → length now ≡ n → ((z : ℕ) → (slice_index_or now z 0 ≡ slice_index_or first z 0) ⊎ ((k ≤ slice_index_or now z 0) × (slice_index_or now z 0 ≤ j) × (slice_index_or now z 0 < slice_index_or first z 0) × ((z ≡ x.up) ⊎ (z ≡ x.low))))
      → ((z i : ℕ) → k ≤ i → i < length new → (z ≡ x.up) ⊎ (z ≡ x.low) → slice_index_or now z 0 ≤ i) → AreFirst n done now new
  first-new n first now f size moved pushed = record { places = size; least = least; attained = attained }
    where
      few : k ≤ j
      few = elim r.few [ inl e ↦ omega (arith, e) | inr e ↦ omega (arith, e) ]

      no-later : (z : ℕ) → slice_index_or now z 0 ≤ slice_index_or first z 0
      no-later z = elim (moved z) [ inl e ↦ omega (arith, e) | inr e ↦ omega (arith, e.2) ]

      -- an entry from place k on has just the ends of the new one
      ends-now : (i z : ℕ) → k ≤ i → i < length new → has_end z (entry (item new i)) ≡ true → (z ≡ x.up) ⊎ (z ≡ x.low)
      ends-now i z m l h = elim (item-ends z (item new i) h) [ inl e ↦ inl (e ∙ up-now last done v k j keeps side x old new rest r i m l) | inr e ↦ inr (e ∙ low-now last done v k j keeps side x old new rest r i m l) ]

      now-ends : (i z : ℕ) → k ≤ i → i < length new → (z ≡ x.up) ⊎ (z ≡ x.low) → has_end z (entry (item new i)) ≡ true
      now-ends i z m l (inl e) = up-end z (item new i) (e ∙ sym (up-now last done v k j keeps side x old new rest r i m l))
      now-ends i z m l (inr e) = low-end z (item new i) (e ∙ sym (low-now last done v k j keeps side x old new rest r i m l))

      least : (i z : ℕ) → i < length new → has_end z (entry (item new i)) ≡ true → slice_index_or now z 0 ≤ i
      least i z l h = elim (cases_lt i k) [
        | inl c ↦ omega (arith, no-later z, f.least i z (omega (arith, c, r.within)) (subst (λ (q : StackEntry). has_end z (entry q) ≡ true) (r.same i c) h))
        | inr c ↦ pushed z i c l (ends-now i z c l h)
      ]

      attained : (z : ℕ) → z < n → (z < done) ⊎ ((p : ℕ) × IsTreeAt new z p) → (slice_index_or now z 0 ≡ no_place) ⊎ ((slice_index_or now z 0 < length new) × (has_end z (entry (item new (slice_index_or now z 0))) ≡ true))
      attained z b current = elim (moved z) [
        | inr e ↦ let l : slice_index_or now z 0 < length new = omega (arith, e.1, r.size) in inr (l, now-ends (slice_index_or now z 0) z e.0 l e.3)
        | inl e ↦ elim (f.attained z b (was current)) [
          | inl g ↦ inl (e ∙ g)
          | inr g ↦ elim (cases_lt (slice_index_or first z 0) k) [
            | inl c ↦ inr (omega (arith, c, e, few, r.size), subst (λ (q : ℕ). has_end z (entry (item new q)) ≡ true) (sym e) (subst (λ (q : StackEntry). has_end z (entry q) ≡ true) (sym (r.same (slice_index_or first z 0) c)) g.1))
            | inr c ↦
                let x-end = end-of c g.0 g.1 in
                let l = pushed z j few (omega (arith, r.size)) x-end in
                inr (omega (arith, l, r.size), now-ends (slice_index_or now z 0) z (omega (arith, c, e)) (omega (arith, l, r.size)) x-end)
          ]
        ]
      ]
        where
          was : (z < done) ⊎ ((p : ℕ) × IsTreeAt new z p) → (z < done) ⊎ ((p : ℕ) × IsTreeAt old z p)
          was (inl a) = inl a
          was (inr p) = elim (tree-cases last done v k j keeps side x old new rest r p.0 p.1.within p.1.tree) [
            | inl a ↦ inr (p.0, record { within = omega (arith, a, r.within); tree = subst (λ (q : StackEntry). q.tree ≡ true) (r.same p.0 a) p.1.tree; low = subst (λ (q : StackEntry). q.low ≡ z) (r.same p.0 a) p.1.low })
            | inr a ↦ elim r.shape [
              | inl s ↦ inr (s.1.0, subst (λ (q : ℕ). IsTreeAt old q s.1.0) (sym (ap (λ (q : StackEntry). q.low) (ap (item new) a.0 ∙ r.top)) ∙ p.1.low) s.1.1)
              | inr s ↦ absurd (both_ways x.tree s.0 a.1)
            ]
          ]

          -- where no entry in front touches z, it is an end of the new entry
          end-of : k ≤ slice_index_or first z 0 → slice_index_or first z 0 < length old → has_end z (entry (item old (slice_index_or first z 0))) ≡ true → (z ≡ x.up) ⊎ (z ≡ x.low)
          end-of c l h = elim current [
            | inl p ↦ at p
            | inr p ↦ elim (tree-cases last done v k j keeps side x old new rest r p.0 p.1.within p.1.tree) [
              | inl a ↦ absurd (omega (arith, a, c, f.least p.0 z (omega (arith, a, r.within)) (subst (λ (q : StackEntry). has_end z (entry q) ≡ true) (r.same p.0 a) (low-end z (item new p.0) (sym p.1.low)))))
              | inr a ↦ inr (sym (sym (ap (λ (q : StackEntry). q.low) (ap (item new) a.0 ∙ r.top)) ∙ p.1.low))
            ]
          ]
            where
              path : z < done → z ≤ v
              path p = elim (cases_lt v z) [
                | inr q ↦ q
                | inl q ↦ let f = r.stands.ended.held (slice_index_or first z 0) z l h q in absurd (omega (arith, p, f.1.low, r.stands.laid.finished f.0 f.1.within f.1.tree))
              ]

              at : z < done → (z ≡ x.up) ⊎ (z ≡ x.low)
              at p = elim (cases_Bool (keeps (item old (slice_index_or first z 0)))) [
                | inr g ↦ let i = r.mid_new (slice_index_or first z 0) c l g in ends-now i.0 z i.1 (omega (arith, i.2, r.size)) (subst (λ (q : Entry). has_end z q ≡ true) i.3 h)
                | inl t ↦ across-rest last done v k j keeps side x old new rest r (slice_index_or first z 0) z c l t h (r.stands.left.on_path (slice_index_or first z 0) z l h (path p))
              ]
