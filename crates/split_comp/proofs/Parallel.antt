-- Parallel entries on top of the stack.
use Rattle.std.proofs.Common.{◌≡◌, ◌≢◌, ℕ, ◌+◌, ◌-◌, ◌<◌, ◌≤◌, ◌⊎◌, inl, inr, Bool, true, false, not, nat_lt, ◌&&◌, ◌||◌, ◌==◌, List, length, filter, drop, refl, sym, ap, ◌∙◌, subst, arith, Contains}
use Rattle.std.proofs.lemmas.Bool.{cases_Bool, cases_lt, cases_eq, both_ways, and_parts, and_from, or_cases, or_left, or_right, eq-eqb, eqb-true, ne_eqb, lt-ltb, le-ltb, false_from_ne_true, not_from_false, not-true}
use Rattle.std.proofs.lemmas.List.{length-map, length-drop}
use Rattle.pair_split.specs.Family.{Entry, has_end, on_side, touches, IsFamily, IsSeparation}
use Rattle.pair_split.proofs.Elements.{contains-cases, length-parts}
use Rattle.pair_split.proofs.Names.{two-names}
use Rattle.pair_split.proofs.Degrees.{tight-degree, one-of_two}
use Rattle.pair_split.proofs.SameEntries.{same-separation}
use Rattle.pair_split.proofs.Sides.{length-sides, separation-from, exactly_two, touching-entry, touches-from, one-from_entry}
use Rattle.split_comp.specs.declared.items.StackEntry.{StackEntry}
use Rattle.split_comp.specs.Stack.{item, entry, family, owner, IsTreeAt, IsStack, IsSorted, IsBad, IsClean, IsTopped}
use Rattle.split_comp.specs.Frames.{AreFrames}
use Rattle.split_comp.specs.Sides.{is_frond_to, IsCutOff, all_items}
use Rattle.split_comp.proofs.Entries.{item-ends, up-end, low-end, stack-contains, rest-contains, family-cases}
use Rattle.split_comp.proofs.Renewed.{frond-parts}
use Rattle.split_comp.proofs.Pushed.{IsPushed, pushed-top, pushed-within, pushed-back}
use Rattle.split_comp.proofs.LeastUp.{touching-tree}
use Rattle.split_comp.proofs.Lying.{owner-end, frond-owner, owner-near, dart-over, dart-over-path, start-at}
use Rattle.split_comp.proofs.Stretch.{side_at, side-place, side-rest, side-two, IsShared, shared-from, stretch-not, common-at, common-rest, cut-is}

-- an edge of the rest is pushed, where no side was bad: each bad side has it
pub push-topped : (old : List StackEntry) (left : List Entry) (x : StackEntry) (new : List StackEntry) (rest : List Entry) → IsPushed old left x new rest → IsFamily (family new rest) → IsClean old left → IsTopped new rest (length old)
push-topped old left x new rest r f clean s p q b = elim (cases_Bool (s (item new (length old)).name)) [
  | inl t ↦ t
  | inr t ↦ absurd (clean s p q (record {
    separates = same-separation (family new rest) (family old left) s p q f.names_once (pushed-back old left x new rest r) (pushed-within old left x new rest r) b.separates;
    stacked = λ y c. elim (contains-cases y (entry x) rest (r.into y c)) [ inl e ↦ ap (λ (k : Entry). s k.name) (sym e) ∙ (ap (λ (k : StackEntry). s k.name) (sym (pushed-top old left x new rest r (length old) refl)) ∙ t) | inr d ↦ b.stacked y d ];
  }))
]

-- of three entries no side is bad
pub few-clean : (stack : List StackEntry) (rest : List Entry) → length (family stack rest) ≤ 3 → IsClean stack rest
few-clean stack rest l s p q b = omega (arith, l, b.separates.two_inside, b.separates.two_outside, length-sides (family stack rest) s)

-- an entry of a bad side is one of the stack
bad-place : (stack : List StackEntry) (rest : List Entry) (s : ℕ → Bool) (p q : ℕ) → IsBad stack rest s p q → (e : Entry) → Contains (family stack rest) e → s e.name ≡ true → (i : ℕ) × (i < length stack) × (e ≡ entry (item stack i))
bad-place stack rest s p q b e c t = elim (family-cases stack rest e c) [ inl w ↦ w | inr r ↦ absurd (both_ways (s e.name) (b.stacked e r) t) ]

module _ (last : ℕ → ℕ) (done v h : ℕ) (stack : List StackEntry) (rest : List Entry) (s : IsStack last done v stack rest) (size : length stack ≡ h + 1) (topped : IsTopped stack rest h) where
  -- a bad side whose common vertices are the ends of the last entry has just one other entry, and this is parallel to it
  pub record IsOther (t : ℕ → Bool) : Type 0 where
    pub other : ℕ
    pub within : other < h
    pub on : t (item stack other).name ≡ true
    pub only : (i : ℕ) → i < h → t (item stack i).name ≡ true → i ≡ other
    pub up : (item stack other).up ≡ (item stack h).up
    pub low : (item stack other).low ≡ (item stack h).low

  pub top-pair : (t : ℕ → Bool) (p q : ℕ) → IsBad stack rest t p q → ((z : ℕ) → has_end z (entry (item stack h)) ≡ true → (z ≡ p) ⊎ (z ≡ q)) → ((z : ℕ) → (z ≡ p) ⊎ (z ≡ q) → has_end z (entry (item stack h)) ≡ true) → IsOther t
  top-pair t p q b into back =
      let w = two-names (family stack rest) (λ (e : Entry). t e.name) s.left.is_family.names_once b.separates.two_inside in
      let i = bad-place stack rest t p q b w.0 w.2 w.4 in
      let j = bad-place stack rest t p q b w.1 w.3 w.5 in
      elim (cases_eq i.0 h) [
        | inr n ↦ found i.0 (omega (arith, i.1, n, size)) (ap (λ (e : Entry). t e.name) (sym i.2) ∙ w.4)
        | inl e ↦ elim (cases_eq j.0 h) [
          | inr n ↦ found j.0 (omega (arith, j.1, n, size)) (ap (λ (e : Entry). t e.name) (sym j.2) ∙ w.5)
          | inl k ↦ absurd (w.6 (ap (λ (x : Entry). x.name) i.2 ∙ (ap (λ (x : ℕ). (item stack x).name) (e ∙ sym k) ∙ sym (ap (λ (x : Entry). x.name) j.2))))
        ]
      ]
    where
      -- the side without the last entry
      test : ℕ → Bool
      test i = t (item stack i).name && not (i == h)

      test-on : (i : ℕ) → i < h → t (item stack i).name ≡ true → test i ≡ true
      test-on i l c = and_from (t (item stack i).name) (not (i == h)) c (not_from_false (i == h) (ne_eqb i h (λ e. omega (arith, e, l))))

      test-top : test h ≡ false
      test-top = false_from_ne_true (test h) (λ c. both_ways (h == h) (not-true (h == h) (and_parts (t (item stack h).name) (not (h == h)) c).1) (eq-eqb h h refl))

      on-test : (i : ℕ) → test i ≡ true → t (item stack i).name ≡ true
      on-test i c = (and_parts (t (item stack i).name) (not (i == h)) c).0

      shared : (z : ℕ) → IsShared stack rest (side_at stack test) z → (z ≡ p) ⊎ (z ≡ q)
      shared z c =
          let on = on-test c.place (sym (side-place stack rest s.left.is_family test c.place c.within) ∙ c.on) in
          elim c.other [
            | inr r ↦ b.separates.no_other z (common-rest stack rest t b.stacked z c.place c.within on c.end r)
            | inl j ↦ elim (cases_eq j.0 h) [
              | inl e ↦ into z (subst (λ (k : ℕ). has_end z (entry (item stack k)) ≡ true) e j.3)
              | inr n ↦ elim (cases_Bool (t (item stack j.0).name)) [
                | inr f ↦ b.separates.no_other z (common-at stack rest t z c.place j.0 c.within j.1 on f c.end j.3)
                | inl f ↦ absurd (both_ways (test j.0) (sym (side-place stack rest s.left.is_family test j.0 j.1) ∙ j.2) (test-on j.0 (omega (arith, j.1, size, n)) f))
              ]
            ]
          ]

      apart : (i j : ℕ) → i < j → j < h → t (item stack i).name ≡ true → t (item stack j).name ≡ true → ⊥
      apart i j l m a c = stretch-not last done v h stack rest s (omega (arith, size)) topped test test-top i j l (omega (arith, m, size)) (test-on i (omega (arith, l, m)) a) (test-on j m c) p q shared

      found : (i : ℕ) → i < h → t (item stack i).name ≡ true → IsOther t
      found i l a = record { other = i; within = l; on = a; only = only; up = ups; low = lows }
        where
          only : (j : ℕ) → j < h → t (item stack j).name ≡ true → j ≡ i
          only j m c = elim (cases_eq j i) [
            | inl e ↦ e
            | inr n ↦ elim (cases_lt j i) [ inl k ↦ absurd (apart j i k l c a) | inr k ↦ absurd (apart i j (omega (arith, k, n)) m a c) ]
          ]

          -- an end of the other entry is one of the last one
          end-same : (z : ℕ) → has_end z (entry (item stack i)) ≡ true → has_end z (entry (item stack h)) ≡ true
          end-same z e =
              let d = tight-degree (family stack rest) s.left.is_family s.left.is_tight (omega (arith, b.separates.two_inside, length-sides (family stack rest) t)) (entry (item stack i)) z (stack-contains stack rest i (omega (arith, l, size))) e in
              elim (family-cases stack rest d.entry d.within) [
                | inr r ↦ back z (b.separates.no_other z (common-rest stack rest t b.stacked z i (omega (arith, l, size)) a e (touches-rest d.entry r d.end)))
                | inl w ↦ let g : has_end z (entry (item stack w.0)) ≡ true = subst (λ (x : Entry). has_end z x ≡ true) w.2 d.end in elim (cases_eq w.0 h) [
                  | inl k ↦ subst (λ (x : ℕ). has_end z (entry (item stack x)) ≡ true) k g
                  | inr n ↦ elim (cases_Bool (t (item stack w.0).name)) [
                    | inr f ↦ back z (b.separates.no_other z (common-at stack rest t z i w.0 (omega (arith, l, size)) w.1 a f e g))
                    | inl f ↦ absurd (d.other (ap (λ (x : Entry). x.name) w.2 ∙ ap (λ (x : ℕ). (item stack x).name) (only w.0 (omega (arith, w.1, size, n)) f)))
                  ]
                ]
              ]
            where
              touches-rest : (x : Entry) → Contains rest x → has_end z x ≡ true → touches rest z ≡ true
              touches-rest x c k = touches-from rest z x c k

          up-cases : ((item stack i).up ≡ (item stack h).up) ⊎ ((item stack i).up ≡ (item stack h).low)
          up-cases = item-ends (item stack i).up (item stack h) (end-same (item stack i).up (up-end (item stack i).up (item stack i) refl))

          low-cases : ((item stack i).low ≡ (item stack h).up) ⊎ ((item stack i).low ≡ (item stack h).low)
          low-cases = item-ends (item stack i).low (item stack h) (end-same (item stack i).low (low-end (item stack i).low (item stack i) refl))

          less : (item stack i).up < (item stack i).low
          less = (s.laid.rises i (omega (arith, l, size))).0

          less-top : (item stack h).up < (item stack h).low
          less-top = (s.laid.rises h (omega (arith, size))).0

          ups : (item stack i).up ≡ (item stack h).up
          ups = elim up-cases [ inl e ↦ e | inr e ↦ elim low-cases [ inl g ↦ absurd (omega (arith, e, g, less, less-top)) | inr g ↦ absurd (omega (arith, e, g, less)) ] ]

          lows : (item stack i).low ≡ (item stack h).low
          lows = elim low-cases [ inr e ↦ e | inl g ↦ absurd (omega (arith, g, ups, less)) ]

  -- where the ends of the last entry are among two vertices, these are its ends
  pub top-ends : (p q : ℕ) → ((z : ℕ) → has_end z (entry (item stack h)) ≡ true → (z ≡ p) ⊎ (z ≡ q)) → (z : ℕ) → (z ≡ p) ⊎ (z ≡ q) → has_end z (entry (item stack h)) ≡ true
  top-ends p q into z c = elim (one-of_two p q (item stack h).up (item stack h).low z (λ e. omega (arith, e, (s.laid.rises h (omega (arith, size))).0)) (into (item stack h).up (up-end (item stack h).up (item stack h) refl)) (into (item stack h).low (low-end (item stack h).low (item stack h) refl)) c) [
    | inl e ↦ up-end z (item stack h) e
    | inr e ↦ low-end z (item stack h) e
  ]

  -- a frond on top, and no other parallel to it
  pub frond-clean : (item stack h).tree ≡ false → (item stack h).low ≡ v → ((i : ℕ) → i < h → is_frond_to (item stack h).up v (item stack i) ≡ true → ⊥) → IsClean stack rest
  frond-clean f low none t p q b =
      let top : h < length stack = omega (arith, size) in
      let on = topped t p q b in
      let touched : (z : ℕ) → has_end z (entry (item stack h)) ≡ true → touches rest z ≡ true = λ z e. s.left.on_path h z top e (path z e) in
      let into : (z : ℕ) → has_end z (entry (item stack h)) ≡ true → (z ≡ p) ⊎ (z ≡ q) = λ z e. b.separates.no_other z (common-rest stack rest t b.stacked z h top on e (touched z e)) in
      let o = top-pair t p q b into (top-ends p q into) in
      none o.other o.within (frond-at o.other o.within o.up o.low)
    where
      path : (z : ℕ) → has_end z (entry (item stack h)) ≡ true → z ≤ v
      path z e = elim (item-ends z (item stack h) e) [ inl k ↦ omega (arith, k, low, (s.laid.rises h (omega (arith, size))).0) | inr k ↦ omega (arith, k, low) ]

      frond-at : (i : ℕ) → i < h → (item stack i).up ≡ (item stack h).up → (item stack i).low ≡ (item stack h).low → is_frond_to (item stack h).up v (item stack i) ≡ true
      frond-at i l a c = elim (cases_Bool (item stack i).tree) [
        | inl k ↦ absurd (omega (arith, s.laid.finished i (omega (arith, l, size)) k, c, low, s.left.ahead))
        | inr k ↦ rw (k, eq-eqb (item stack i).up (item stack h).up a, eq-eqb (item stack i).low v (c ∙ low)) refl
      ]

  -- two entries that are parallel, one of them the last but one or both in front, are not both below the last entry
  pub parallel-not : (i j : ℕ) → i < j → j < h → (item stack i).up ≡ (item stack j).up → (item stack i).low ≡ (item stack j).low → ⊥
  parallel-not i j l m a b = stretch-not last done v h stack rest s (omega (arith, size)) topped test test-top i j l (omega (arith, m, size))
      (or_left (i == i) (i == j) (eq-eqb i i refl)) (or_right (j == i) (j == j) (eq-eqb j j refl)) (item stack j).up (item stack j).low only
    where
      test : ℕ → Bool
      test k = (k == i) || (k == j)

      test-top : test h ≡ false
      test-top = false_from_ne_true (test h) (λ c. elim (or_cases (h == i) (h == j) c) [ inl e ↦ omega (arith, eqb-true h i e, l, m) | inr e ↦ omega (arith, eqb-true h j e, m) ])

      only : (z : ℕ) → IsShared stack rest (side_at stack test) z → (z ≡ (item stack j).up) ⊎ (z ≡ (item stack j).low)
      only z c = elim (or_cases (c.place == i) (c.place == j) (sym (side-place stack rest s.left.is_family test c.place c.within) ∙ c.on)) [
        | inl e ↦ elim (item-ends z (item stack i) (subst (λ (k : ℕ). has_end z (entry (item stack k)) ≡ true) (eqb-true c.place i e) c.end)) [ inl k ↦ inl (k ∙ a) | inr k ↦ inr (k ∙ b) ]
        | inr e ↦ item-ends z (item stack j) (subst (λ (k : ℕ). has_end z (entry (item stack k)) ≡ true) (eqb-true c.place j e) c.end)
      ]

  -- a bad side that holds the last entry, where the one below is parallel to it, holds that one
  pub parallel-least : (k : ℕ) → k + 1 ≡ h → (item stack k).up ≡ (item stack h).up → (item stack k).low ≡ (item stack h).low → (t : ℕ → Bool) (p q : ℕ) → IsBad stack rest t p q → t (item stack k).name ≡ true
  parallel-least k e a c t p q b = elim (cases_Bool (t (item stack k).name)) [
    | inl y ↦ y
    | inr n ↦
        let on = topped t p q b in
        let into : (z : ℕ) → has_end z (entry (item stack h)) ≡ true → (z ≡ p) ⊎ (z ≡ q) = λ z g. b.separates.no_other z (common-at stack rest t z h k (omega (arith, size)) (omega (arith, size, e)) on n g (below z g)) in
        let o = top-pair t p q b into (top-ends p q into) in
        let d : o.other ≢ k = λ x. both_ways (t (item stack k).name) n (subst (λ (y : ℕ). t (item stack y).name ≡ true) x o.on) in
        absurd (parallel-not o.other k (omega (arith, o.within, e, d)) (omega (arith, e)) (o.up ∙ sym a) (o.low ∙ sym c))
  ]
    where
      below : (z : ℕ) → has_end z (entry (item stack h)) ≡ true → has_end z (entry (item stack k)) ≡ true
      below z g = elim (item-ends z (item stack h) g) [ inl x ↦ up-end z (item stack k) (x ∙ sym a) | inr x ↦ low-end z (item stack k) (x ∙ sym c) ]

  -- the last two entries, which are parallel, are a side of a 2-separation where four entries are left
  pub parallel-separates : (k : ℕ) → k + 1 ≡ h → (item stack k).up ≡ (item stack h).up → (item stack k).low ≡ (item stack h).low → 4 ≤ length (family stack rest) → (side : ℕ → Bool) → IsCutOff all_items stack rest k side
      → IsSeparation (family stack rest) side (item stack h).up (item stack h).low
  parallel-separates k e a c four side cut = separation-from (family stack rest) side (item stack h).up (item stack h).low s.left.is_tight
      (side-two stack rest s.left.is_family side k h (omega (arith, e)) (omega (arith, size)) (cut.from k (omega arith) (omega (arith, e, size))) (cut.from h (omega (arith, e)) (omega (arith, size))))
      (omega (arith, length-sides (family stack rest) side, four, few))
      (λ z m. ends z (shared-from stack rest side cut.off z m))
    where
      few : length (on_side side (family stack rest)) ≤ 2
      few = omega (arith, ap length (cut-is all_items stack rest k side cut), length-map (filter all_items (drop k stack)) entry, length-parts all_items (drop k stack), length-drop k stack, e, size)

      ends : (z : ℕ) → IsShared stack rest side z → (z ≡ (item stack h).up) ⊎ (z ≡ (item stack h).low)
      ends z m = elim (cases_lt m.place k) [
        | inl x ↦ absurd (both_ways (side (item stack m.place).name) (cut.before m.place x m.within) m.on)
        | inr x ↦ elim (cases_eq m.place k) [
          | inl y ↦ elim (item-ends z (item stack k) (subst (λ (i : ℕ). has_end z (entry (item stack i)) ≡ true) y m.end)) [ inl g ↦ inl (g ∙ a) | inr g ↦ inr (g ∙ c) ]
          | inr y ↦ item-ends z (item stack h) (subst (λ (i : ℕ). has_end z (entry (item stack i)) ≡ true) (omega (arith, x, y, m.within, size, e)) m.end)
        ]
      ]

-- a vertex behind v that is met in what belongs to a dart and elsewhere: it is the vertex of the dart, or above it with a tree edge behind
pub dart-shared : (last : ℕ → ℕ) (done v : ℕ) (stack : List StackEntry) (rest : List Entry) → IsStack last done v stack rest → (r z i j : ℕ) → r < length stack → v < z → (item stack r).start ≤ i → i ≤ r → j < length stack → (j < (item stack r).start) ⊎ (r < j)
    → has_end z (entry (item stack i)) ≡ true → has_end z (entry (item stack j)) ≡ true → (z ≡ owner (item stack r)) ⊎ ((z < owner (item stack r)) × ((p : ℕ) × IsTreeAt stack z p × (r < p) × ((item stack p).start ≤ i)))
dart-shared last done v stack rest s r z i j l g a b m o x y =
    let p = s.ended.held i z (omega (arith, b, l)) x g in
    let w = touching-tree last done v stack rest s z p.0 i p.1 (omega (arith, b, l)) x in
    let u = touching-tree last done v stack rest s z p.0 j p.1 m y in
    elim (cases_lt r p.0) [
      | inl k ↦
          let near = owner-near last done v stack rest s p.0 r (owner (item stack r)) p.1.within p.1.tree (omega (arith, w.0, b)) k refl in
          elim (cases_eq z (owner (item stack r))) [ inl e ↦ inl e | inr n ↦ inr (omega (arith, near, p.1.low, n), (p.0, p.1, k, w.0)) ]
      | inr k ↦ absurd (inner p.0 p.1 k w u)
    ]
  where
    inner : (p : ℕ) → IsTreeAt stack z p → p ≤ r → ((item stack p).start ≤ i) × (i ≤ p) → ((item stack p).start ≤ j) × (j ≤ p) → ⊥
    inner p t k w u = elim (cases_Bool (item stack r).tree) [
      | inr f ↦ elim (cases_eq p r) [
        | inl e ↦ both_ways (item stack r).tree f (subst (λ (q : ℕ). (item stack q).tree ≡ true) e t.tree)
        | inr n ↦ omega (arith, s.laid.frond_start r l f, a, w.1, k, n)
      ]
      | inl f ↦ elim (cases_eq p r) [
        | inl e ↦ out (omega (arith, u.0, ap (λ (q : ℕ). (item stack q).start) e)) (omega (arith, u.1, e)) o
        | inr n ↦ out (omega (arith, u.0, s.laid.laminar r p l f (omega (arith, a, w.1)) (omega (arith, k, n)))) (omega (arith, u.1, k)) o
      ]
    ]
      where
        out : (item stack r).start ≤ j → j ≤ r → (j < (item stack r).start) ⊎ (r < j) → ⊥
        out c d (inl e) = omega (arith, c, e)
        out c d (inr e) = omega (arith, d, e)

-- with a frond from v on top, a parallel frond is the entry below it, where each earlier dart of v has an upper end that is no greater
pub last-frond : (last : ℕ → ℕ) (done v h : ℕ) (start : ℕ → ℕ) (stack : List StackEntry) (rest : List Entry) → IsStack last done v stack rest → v ≢ 0 → AreFrames last v start stack → length stack ≡ h + 1 → IsSorted v h stack rest → 4 ≤ length (family stack rest)
    → (item stack h).tree ≡ false → (item stack h).low ≡ v → (i : ℕ) → i < h → is_frond_to (item stack h).up v (item stack i) ≡ true
    → ((r : ℕ) → r < h → owner (item stack r) ≡ v → (j : ℕ) × ((item stack r).start ≤ j) × (j ≤ r) × ((item stack j).up ≤ (item stack h).up))
    → i + 1 ≡ h
last-frond last done v h start stack rest s n f size sorted four fr low i l par ups = elim (cases_eq (i + 1) h) [
  | inl e ↦ e
  | inr d ↦
      let p = frond-parts (item stack h).up v (item stack i) par in
      let from : start v ≤ i = elim (cases_lt i (start v)) [
        | inr a ↦ a
        | inl a ↦ absurd (elim (f.before v i n (omega arith, s.above v) a) [ inl x ↦ omega (arith, x, p.2) | inr x ↦ omega (arith, x, p.2, s.above v) ])
      ] in
      let o = dart-over-path last done v stack rest s start n f (h - 1) (omega (arith, from, l, d)) (omega (arith, size, l)) in
      let r-less : o.dart < h = elim (cases_eq o.dart h) [
        | inr a ↦ omega (arith, a, o.within, size)
        | inl a ↦ absurd (omega (arith, o.from, ap (λ (k : ℕ). (item stack k).start) a, s.laid.frond_start h (omega (arith, size)) fr, l))
      ] in
      let j = ups o.dart r-less o.owned in
      absurd (omega (arith, j.3, p.1, sorted.frond_rises i o.dart j.0 four (omega (arith, o.to, l, d)) r-less (frond-owner (item stack i) p.0 ∙ (p.2 ∙ sym o.owned)) p.0 (omega (arith, p.1, (s.laid.rises h (omega (arith, size))).0, low)) j.1 j.2))
]

-- a frond parallel to a tree edge on top is the entry below it
pub frond-below : (last : ℕ → ℕ) (done v h : ℕ) (stack : List StackEntry) (rest : List Entry) → IsStack last done v stack rest → length stack ≡ h + 1 → (item stack h).tree ≡ true → (item stack h).up ≡ v → IsSorted v h stack rest → 4 ≤ length (family stack rest)
    → (i : ℕ) → i < h → is_frond_to v (item stack h).low (item stack i) ≡ true → i + 1 ≡ h
frond-below last done v h stack rest s size tr up sorted four i l par = elim (cases_eq (i + 1) h) [
  | inl e ↦ e
  | inr d ↦
      let p = frond-parts v (item stack h).low (item stack i) par in
      let w = touching-tree last done v stack rest s (item stack h).low h i (record { within = omega (arith, size); tree = tr; low = refl }) (omega (arith, l, size)) (low-end (item stack h).low (item stack i) (sym p.2)) in
      let o = dart-over last done v stack rest s h (h - 1) (omega (arith, size)) tr (omega (arith, w.0, l, d)) (omega (arith, l)) in
      absurd (alone o.dart o.within o.owned (λ j a b. omega (arith, p.1, sorted.frond_rises i o.dart j four (omega (arith, o.to, l, d)) o.within (frond-owner (item stack i) p.0 ∙ (p.2 ∙ sym o.owned)) p.0 (omega (arith, p.1)) a b)))
]
  where
    -- a dart of the lower end with no upper end on the path would have one common vertex alone
    alone : (r : ℕ) → r < h → owner (item stack r) ≡ (item stack h).low → ((j : ℕ) → (item stack r).start ≤ j → j ≤ r → v < (item stack j).up) → ⊥
    alone r m o ups =
        let side : ℕ → Bool = side_at stack test in
        let off : (x : Entry) → Contains rest x → side_at stack test x.name ≡ false = side-rest stack rest s.left.is_family test in
        let e = touching-entry rest v s.left.own in
        (exactly_two (family stack rest) (side_at stack test) (item stack h).low (item stack h).low s.left.is_tight
        (one-from_entry (family stack rest) (side_at stack test) (record { entry = entry (item stack r); within = stack-contains stack rest r (omega (arith, m, size)); side = side-place stack rest s.left.is_family test r (omega (arith, m, size)) ∙ yes r (start-at last done v stack rest s r (omega (arith, m, size))) (omega arith) }))
        (one-from_entry (family stack rest) (λ n. not (side_at stack test n)) (record { entry = e.0; within = rest-contains stack rest e.0 e.1; side = not_from_false (side_at stack test e.0.name) (off e.0 e.1) }))
        (λ z c. inl (only z (shared-from stack rest (side_at stack test) off z c)))).0 refl
      where
        test : ℕ → Bool
        test k = not (nat_lt k (item stack r).start) && not (nat_lt r k)

        yes : (k : ℕ) → (item stack r).start ≤ k → k ≤ r → test k ≡ true
        yes k a b = rw (le-ltb k (item stack r).start a, le-ltb r k b) refl

        parts : (k : ℕ) → test k ≡ true → ((item stack r).start ≤ k) × (k ≤ r)
        parts k c = elim (cases_lt k (item stack r).start) [
          | inl a ↦ absurd (both_ways (test k) (rw (lt-ltb k (item stack r).start a) refl) c)
          | inr a ↦ elim (cases_lt r k) [ inr b ↦ (a, b) | inl b ↦ absurd (both_ways (test k) (rw (le-ltb k (item stack r).start a, lt-ltb r k b) refl) c) ]
        ]

        outside : (k : ℕ) → test k ≡ false → (k < (item stack r).start) ⊎ (r < k)
        outside k c = elim (cases_lt k (item stack r).start) [
          | inl a ↦ inl a
          | inr a ↦ elim (cases_lt r k) [ inl b ↦ inr b | inr b ↦ absurd (both_ways (test k) c (yes k a b)) ]
        ]

        only : (z : ℕ) → IsShared stack rest (side_at stack test) z → z ≡ (item stack h).low
        only z c =
            let i = parts c.place (sym (side-place stack rest s.left.is_family test c.place c.within) ∙ c.on) in
            let g : v < z = elim (item-ends z (item stack c.place) c.end) [ inl q ↦ omega (arith, q, ups c.place i.0 i.1) | inr q ↦ omega (arith, q, ups c.place i.0 i.1, (s.laid.rises c.place c.within).0) ] in
            elim c.other [
              | inr w ↦ let p = s.ended.held c.place z c.within c.end g in absurd (both_ways (touches rest z) (s.left.free z (omega (arith, s.laid.finished p.0 p.1.within p.1.tree, p.1.low))) w)
              | inl j ↦ elim (dart-shared last done v stack rest s r z c.place j.0 (omega (arith, m, size)) g i.0 i.1 j.1 (outside j.0 (sym (side-place stack rest s.left.is_family test j.0 j.1) ∙ j.2)) c.end j.3) [
                | inl e ↦ e ∙ o
                | inr k ↦ elim (cases_eq k.1.0 h) [
                  | inl e ↦ sym k.1.1.low ∙ ap (λ (q : ℕ). (item stack q).low) e
                  | inr n ↦
                      let q-less : k.1.0 < h = omega (arith, n, k.1.1.within, size) in
                      let over : (item stack h).low ≤ (item stack k.1.0).low = owner-over k.1.0 q-less k.1.2 in
                      absurd (omega (arith, over, k.1.1.low, k.0, o))
                ]
              ]
            ]
          where
            owner-over : (q : ℕ) → q < h → r < q → (item stack h).low ≤ (item stack q).low
            owner-over q a b = (s.laid.inside h q (omega (arith, size)) tr (omega (arith, b, (touching-tree last done v stack rest s (item stack h).low h r (record { within = omega (arith, size); tree = tr; low = refl }) (omega (arith, m, size)) (subst (λ (k : ℕ). has_end k (entry (item stack r)) ≡ true) o (owner-end (item stack r)))).0)) (omega (arith, a))).0
