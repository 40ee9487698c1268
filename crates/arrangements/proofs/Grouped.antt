-- The groups of blocks that cross, place by place: what is kept when groups are finished, when one begins, and when some become one.
use Rattle.std.proofs.Common.{◌≡◌, ◌≢◌, ℕ, ◌+◌, ◌<◌, ◌≤◌, ◌⊎◌, inl, inr, Bool, true, false, List, [], ◌∷◌, ◌++◌, length, take, ◌-◌, slice_index, refl, sym, ap, ◌∙◌, subst, arith, append_assoc, length-append}
use Rattle.std.proofs.lemmas.Bool.{cases_eq, cases_lt, cases_order}
use Rattle.std.proofs.lemmas.List.{get_or-take, length-take-le, get_or-set_same, get_or-set_other}
use Rattle.std.proofs.Math.ListN.{get_or-append, set, length-set}
use Rattle.std.proofs.Math.Seq.{get_or-append_seam}
use Rattle.permutations.proofs.Members.{CutAt, cut_at}
use Rattle.arrangements.specs.Groups.{AreEnds, is_noted, IsInGroup, AlternateAt, AreGroups, AreNoted}
use Rattle.arrangements.proofs.Changes.{Interleaved, cross-interleaved}
use Rattle.arrangements.proofs.Lists.{place-cut}

-- the number of a list read without those from a place on
kept : (count : ℕ) (l : List ℕ) (k : ℕ) → k < count → slice_index (take count l) k ≡ slice_index l k
kept count l k h = get_or-take count l k 0 h

-- groups that end before this place go
pub groups-closed : (ranks first last starts ends : List ℕ) (noted : List Bool) (i count : ℕ) → AreGroups ranks first last starts ends noted i → count ≤ length ends
    → ((k : ℕ) → count ≤ k → k < length ends → slice_index ends k < i) → AreGroups ranks first last (take count starts) (take count ends) noted i
groups-closed ranks first last starts ends noted i count s c done = record {
  each = length-take-le count ends c ∙ sym size;
  few = omega (arith, size, within, s.few);
  started = λ k h. let l : k < count = omega (arith, h, size) in subst (λ (z : ℕ). z < i) (sym (kept count starts k l)) (s.started k (omega (arith, l, within)));
  increasing = λ j k l h.
      let b : k < count = omega (arith, h, size) in
      let a : j < count = omega (arith, l, b) in
      omega (arith, kept count starts j a, kept count starts k b, s.increasing j k l (omega (arith, b, within)));
  held = λ p l w o. still p (s.held p l w o) o;
  found = s.found;
}
  where
    within : count ≤ length starts
    within = omega (arith, c, s.each)

    size : length (take count starts) ≡ count
    size = length-take-le count starts within

    still : (p : ℕ) → IsInGroup ranks starts ends noted (slice_index ranks p) (slice_index first (slice_index ranks p)) (slice_index last (slice_index ranks p)) → i ≤ slice_index last (slice_index ranks p)
        → IsInGroup ranks (take count starts) (take count ends) noted (slice_index ranks p) (slice_index first (slice_index ranks p)) (slice_index last (slice_index ranks p))
    still p g o = record {
      group = g.group;
      within = omega (arith, size, left);
      begins = omega (arith, kept count starts g.group left, g.begins);
      top = λ k a b.
          let m : k < count = omega (arith, b, size) in
          omega (arith, kept count starts k m, g.top k a (omega (arith, m, within)));
      finish = omega (arith, kept count ends g.group left, g.finish);
      own = λ n. g.own (λ e. n (kept count starts g.group left ∙ e));
      base = λ n. subst (λ (z : ℕ). is_noted noted (slice_index ranks z) ≡ true) (sym (kept count starts g.group left)) (g.base (λ e. n (kept count starts g.group left ∙ e)));
    }
      where
        left : g.group < count
        left = elim (cases_lt g.group count) [
          | inl l ↦ l
          | inr r ↦ absurd (omega (arith, done g.group r (omega (arith, g.within, s.each)), g.finish, o))
        ]

module _ (ranks first last starts ends : List ℕ) (noted : List Bool) (i : ℕ) (e : AreEnds ranks first last) (here : i < length ranks) (s : AreGroups ranks first last starts ends noted i) where
  -- the block at a place
  abbrev at : ℕ → ℕ
  at p = slice_index ranks p

  -- a place up to i + 1 is before i, or is i
  cases : (p : ℕ) → p < i + 1 → (p < i) ⊎ (p ≡ i)
  cases p h = elim (cases_lt p i) [ inl l ↦ inl l | inr g ↦ inr (omega (arith, h, g)) ]

  -- a place of the block at i is no earlier than its first place
  first-before : (p : ℕ) → p < length ranks → at p ≡ at i → slice_index first (at i) ≤ p
  first-before p h q = subst (λ (z : ℕ). slice_index first z ≤ p) q (e.begins p h)

  -- a block begins at place i
  module _ (begins : slice_index first (slice_index ranks i) ≡ i) where
    abbrev new_starts : List ℕ
    new_starts = starts ++ i ∷ []

    abbrev new_ends : List ℕ
    new_ends = ends ++ slice_index last (slice_index ranks i) ∷ []

    old-start : (k : ℕ) → k < length starts → slice_index new_starts k ≡ slice_index starts k
    old-start k h = get_or-append starts (i ∷ []) 0 k h

    old-end : (k : ℕ) → k < length starts → slice_index new_ends k ≡ slice_index ends k
    old-end k h = get_or-append ends (slice_index last (at i) ∷ []) 0 k (omega (arith, h, s.each))

    top-start : slice_index new_starts (length starts) ≡ i
    top-start = get_or-append_seam starts i [] 0

    top-end : slice_index new_ends (length starts) ≡ slice_index last (at i)
    top-end = subst (λ (z : ℕ). slice_index new_ends z ≡ slice_index last (at i)) s.each (get_or-append_seam ends (slice_index last (at i)) [] 0)

    size : length new_starts ≡ length starts + 1
    size = length-append starts (i ∷ [])

    new-cases : (k : ℕ) → k < length new_starts → (k < length starts) ⊎ (k ≡ length starts)
    new-cases k h = elim (cases_lt k (length starts)) [ inl l ↦ inl l | inr g ↦ inr (omega (arith, h, g, size)) ]

    -- no earlier place has this block
    no-earlier : (p : ℕ) → p < i → at p ≢ at i
    no-earlier p l q = absurd (omega (arith, first-before p (omega (arith, l, here)) q, begins, l))

    -- the block is in the group on top
    newest : IsInGroup ranks new_starts new_ends noted (slice_index ranks i) (slice_index first (slice_index ranks i)) (slice_index last (slice_index ranks i))
    newest = record {
      group = length starts;
      within = omega (arith, size);
      begins = omega (arith, top-start, begins);
      top = λ k a b. absurd (omega (arith, a, b, size));
      finish = omega (arith, top-end);
      own = λ n. absurd (n (top-start ∙ sym begins));
      base = λ n. absurd (n (top-start ∙ sym begins));
    }

    -- the others are where they were
    older : (p : ℕ) → p < i → p < length ranks → IsInGroup ranks starts ends noted (slice_index ranks p) (slice_index first (slice_index ranks p)) (slice_index last (slice_index ranks p))
        → IsInGroup ranks new_starts new_ends noted (slice_index ranks p) (slice_index first (slice_index ranks p)) (slice_index last (slice_index ranks p))
    older p l w g = record {
      group = g.group;
      within = omega (arith, size, g.within);
      begins = omega (arith, old-start g.group g.within, g.begins);
      top = λ k a b. elim (new-cases k b) [
        | inl h ↦ omega (arith, old-start k h, g.top k a h)
        | inr h ↦ subst (λ (z : ℕ). slice_index first (at p) < slice_index new_starts z) (sym h) (omega (arith, top-start, e.begins p w, l))
      ];
      finish = omega (arith, old-end g.group g.within, g.finish);
      own = λ n. g.own (λ q. n (old-start g.group g.within ∙ q));
      base = λ n. subst (λ (z : ℕ). is_noted noted (slice_index ranks z) ≡ true) (sym (old-start g.group g.within)) (g.base (λ q. n (old-start g.group g.within ∙ q)));
    }

    pub groups-opened : AreGroups ranks first last (starts ++ i ∷ []) (ends ++ slice_index last (slice_index ranks i) ∷ []) noted (i + 1)
    groups-opened = record {
      each = omega (arith, size, length-append ends (slice_index last (at i) ∷ []), s.each);
      few = omega (arith, size, s.few);
      started = λ k h. elim (new-cases k h) [
        | inl l ↦ omega (arith, old-start k l, s.started k l)
        | inr l ↦ subst (λ (z : ℕ). slice_index new_starts z < i + 1) (sym l) (omega (arith, top-start))
      ];
      increasing = λ j k l h. elim (new-cases k h) [
        | inl b ↦ omega (arith, old-start j (omega (arith, l, b)), old-start k b, s.increasing j k l b)
        | inr b ↦
            let a : j < length starts = omega (arith, l, b) in
            subst (λ (z : ℕ). slice_index new_starts j < slice_index new_starts z) (sym b) (omega (arith, old-start j a, top-start, s.started j a))
      ];
      held = λ p l w o. elim (cases p l) [
        | inl a ↦ older p a w (s.held p a w (omega (arith, o)))
        | inr a ↦ subst (λ (z : ℕ). IsInGroup ranks new_starts new_ends noted (slice_index ranks z) (slice_index first (slice_index ranks z)) (slice_index last (slice_index ranks z))) (sym a) newest
      ];
      found = λ p q r t a l. elim (cases r l) [
        | inl b ↦ s.found p q r t a b
        | inr b ↦ absurd (no-earlier p (omega (arith, a.first, a.second, b)) (a.one ∙ ap at b))
      ];
    }

  -- the block at place i has begun before: the groups from number j + 1 on, which begin after it, become one with number j
  module _ (new_starts new_ends : List ℕ) (new_noted : List Bool) (j : ℕ) (begun : slice_index first (slice_index ranks i) < i)
      (below : j < length starts) (size : length new_starts ≡ j + 1) (each : length new_ends ≡ j + 1)
      (begins : slice_index starts j ≤ slice_index first (slice_index ranks i)) (later : (k : ℕ) → j < k → k < length starts → slice_index first (slice_index ranks i) < slice_index starts k)
      (same-start : (k : ℕ) → k ≤ j → slice_index new_starts k ≡ slice_index starts k) (no-less : (k : ℕ) → k ≤ j → slice_index ends k ≤ slice_index new_ends k)
      (greatest : (k : ℕ) → j ≤ k → k < length starts → slice_index ends k ≤ slice_index new_ends j)
      (grows : (r : ℕ) → is_noted noted r ≡ true → is_noted new_noted r ≡ true)
      (marked : (k : ℕ) → j < k → k < length starts → is_noted new_noted (slice_index ranks (slice_index starts k)) ≡ true)
      (itself : j + 1 < length starts → is_noted new_noted (slice_index ranks i) ≡ true) where
    abbrev f : ℕ
    f = slice_index first (slice_index ranks i)

    -- the block at place i is in group j
    mine : IsInGroup ranks starts ends noted (slice_index ranks i) f (slice_index last (slice_index ranks i))
    mine = subst (λ (z : ℕ). IsInGroup ranks starts ends noted z (slice_index first z) (slice_index last z)) there
        (s.held f begun (omega (arith, begun, here)) (subst (λ (z : ℕ). i ≤ slice_index last z) (sym there) (e.ends i here)))
      where
        there : slice_index ranks f ≡ slice_index ranks i
        there = e.there i here

    my-group : mine.group ≡ j
    my-group = elim (cases_order mine.group j) [
      | inl q ↦ q
      | inr o ↦ elim o [
        | inl a ↦ absurd (omega (arith, mine.top j a below, begins))
        | inr a ↦ absurd (omega (arith, later mine.group a mine.within, mine.begins))
      ]
    ]

    -- where group j begins with another block, both are noted
    my-own : slice_index starts j ≢ f → is_noted noted (slice_index ranks i) ≡ true
    my-own n = mine.own (λ q. n (ap (slice_index starts) (sym my-group) ∙ q))

    my-base : slice_index starts j ≢ f → is_noted noted (slice_index ranks (slice_index starts j)) ≡ true
    my-base n = subst (λ (z : ℕ). is_noted noted (slice_index ranks (slice_index starts z)) ≡ true) my-group (mine.base (λ q. n (ap (slice_index starts) (sym my-group) ∙ q)))

    -- the block with which group j begins is noted where other groups join it
    base-noted : j + 1 < length starts → is_noted new_noted (slice_index ranks (slice_index starts j)) ≡ true
    base-noted h = elim (cases_eq (slice_index starts j) f) [
      | inl q ↦ subst (λ (z : ℕ). is_noted new_noted z ≡ true) (sym (ap (slice_index ranks) q ∙ e.there i here)) (itself h)
      | inr n ↦ grows (slice_index ranks (slice_index starts j)) (my-base n)
    ]

    -- a block in a group that joins is noted
    joined-noted : (p : ℕ) → p < length ranks → (g : IsInGroup ranks starts ends noted (slice_index ranks p) (slice_index first (slice_index ranks p)) (slice_index last (slice_index ranks p))) → j < g.group
        → is_noted new_noted (slice_index ranks p) ≡ true
    joined-noted p w g a = elim (cases_eq (slice_index starts g.group) (slice_index first (slice_index ranks p))) [
      | inl q ↦ subst (λ (z : ℕ). is_noted new_noted z ≡ true) (ap (slice_index ranks) q ∙ e.there p w) (marked g.group a g.within)
      | inr n ↦ grows (slice_index ranks p) (g.own n)
    ]

    -- where a block is afterwards
    moved : (p : ℕ) → p < length ranks → IsInGroup ranks starts ends noted (slice_index ranks p) (slice_index first (slice_index ranks p)) (slice_index last (slice_index ranks p))
        → IsInGroup ranks new_starts new_ends new_noted (slice_index ranks p) (slice_index first (slice_index ranks p)) (slice_index last (slice_index ranks p))
    moved p w g = elim (cases_lt j g.group) [ inl a ↦ joins a | inr a ↦ stays a ]
      where
        joins : j < g.group → IsInGroup ranks new_starts new_ends new_noted (slice_index ranks p) (slice_index first (slice_index ranks p)) (slice_index last (slice_index ranks p))
        joins a = record {
          group = j;
          within = omega (arith, size);
          begins = omega (arith, same-start j (omega arith), begins, later g.group a g.within, g.begins);
          top = λ k b c. absurd (omega (arith, b, c, size));
          finish = omega (arith, g.finish, greatest g.group (omega (arith, a)) g.within);
          own = λ n. joined-noted p w g a;
          base = λ n. subst (λ (z : ℕ). is_noted new_noted (slice_index ranks z) ≡ true) (sym (same-start j (omega arith))) (base-noted (omega (arith, a, g.within)));
        }

        stays : g.group ≤ j → IsInGroup ranks new_starts new_ends new_noted (slice_index ranks p) (slice_index first (slice_index ranks p)) (slice_index last (slice_index ranks p))
        stays a = record {
          group = g.group;
          within = omega (arith, size, a);
          begins = omega (arith, same-start g.group a, g.begins);
          top = λ k b c.
              let m : k ≤ j = omega (arith, c, size) in
              omega (arith, same-start k m, g.top k b (omega (arith, m, below)));
          finish = omega (arith, g.finish, no-less g.group a);
          own = λ n. grows (slice_index ranks p) (g.own (λ q. n (same-start g.group a ∙ q)));
          base = λ n. subst (λ (z : ℕ). is_noted new_noted (slice_index ranks z) ≡ true) (sym (same-start g.group a))
              (grows (slice_index ranks (slice_index starts g.group)) (g.base (λ q. n (same-start g.group a ∙ q))));
        }

    -- the third edge in turn comes: the two blocks are noted
    noted-now : (p q t : ℕ) → AlternateAt ranks p q i t → (is_noted new_noted (slice_index ranks p) ≡ true) × (is_noted new_noted (slice_index ranks q) ≡ true)
    noted-now p q t a = elim (cases_lt y p) [ inl b ↦ before b | inr b ↦ elim (cases_lt j g.group) [ inl c ↦ above c | inr c ↦ inside (omega (arith, b, other-first)) c ] ]
      where
        q-within : q < length ranks
        q-within = omega (arith, a.second, here)

        y : ℕ
        y = slice_index first (slice_index ranks q)

        same : slice_index ranks p ≡ slice_index ranks i
        same = a.one

        unfinished : i ≤ slice_index last (slice_index ranks q)
        unfinished = subst (λ (z : ℕ). i ≤ slice_index last z) (sym a.other) (omega (arith, e.ends t a.within, a.third))

        g : IsInGroup ranks starts ends noted (slice_index ranks q) (slice_index first (slice_index ranks q)) (slice_index last (slice_index ranks q))
        g = s.held q a.second q-within unfinished

        -- the two blocks don't begin at one place
        other-first : p ≢ y
        other-first n = a.differ (ap (slice_index ranks) n ∙ e.there q q-within)

        both : is_noted new_noted (slice_index ranks i) ≡ true → is_noted new_noted (slice_index ranks q) ≡ true → (is_noted new_noted (slice_index ranks p) ≡ true) × (is_noted new_noted (slice_index ranks q) ≡ true)
        both c d = (subst (λ (z : ℕ). is_noted new_noted z ≡ true) (sym same) c, d)

        -- the block at q began before place p: found before
        before : y < p → (is_noted new_noted (slice_index ranks p) ≡ true) × (is_noted new_noted (slice_index ranks q) ≡ true)
        before b =
            let w = s.found y p q i (record {
              first = b;
              second = a.first;
              third = a.second;
              within = here;
              one = e.there q q-within;
              other = same;
              differ = λ n. a.differ (sym n ∙ e.there q q-within);
            }) a.second in
            both (grows (slice_index ranks i) (subst (λ (z : ℕ). is_noted noted z ≡ true) same w.1)) (grows (slice_index ranks q) (subst (λ (z : ℕ). is_noted noted z ≡ true) (e.there q q-within) w.0))

        -- it is in a group that joins
        above : j < g.group → (is_noted new_noted (slice_index ranks p) ≡ true) × (is_noted new_noted (slice_index ranks q) ≡ true)
        above c = both (itself (omega (arith, c, g.within))) (joined-noted q q-within g c)

        -- it is in group j already
        inside : p < y → g.group ≤ j → (is_noted new_noted (slice_index ranks p) ≡ true) × (is_noted new_noted (slice_index ranks q) ≡ true)
        inside b c = both mine-noted (grows (slice_index ranks q) (g.own (λ n. absurd (omega (arith, n, start)))))
          where
            begun-first : f < y
            begun-first = omega (arith, b, first-before p (omega (arith, a.first, q-within)) same)

            in-group : g.group ≡ j
            in-group = elim (cases_lt g.group j) [
              | inl l ↦ absurd (omega (arith, g.top j l below, begins, begun-first))
              | inr l ↦ omega (arith, l, c)
            ]

            start : slice_index starts g.group < y
            start = subst (λ (z : ℕ). slice_index starts z < y) (sym in-group) (omega (arith, begins, begun-first))

            mine-noted : is_noted new_noted (slice_index ranks i) ≡ true
            mine-noted = elim (cases_eq (slice_index starts j) f) [
              | inl n ↦ grows (slice_index ranks i) (subst (λ (z : ℕ). is_noted noted z ≡ true) (ap (slice_index ranks) (ap (slice_index starts) in-group ∙ n) ∙ e.there i here) (g.base (λ m. absurd (omega (arith, m, start)))))
              | inr n ↦ grows (slice_index ranks i) (my-own n)
            ]

    pub groups-joined : AreGroups ranks first last new_starts new_ends new_noted (i + 1)
    groups-joined = record {
      each = each ∙ sym size;
      few = omega (arith, size, below, s.few);
      started = λ k h. let l : k ≤ j = omega (arith, h, size) in omega (arith, same-start k l, s.started k (omega (arith, l, below)));
      increasing = λ a b l h.
          let m : b ≤ j = omega (arith, h, size) in
          let n : a ≤ j = omega (arith, l, m) in
          omega (arith, same-start a n, same-start b m, s.increasing a b l (omega (arith, m, below)));
      held = λ p l w o. elim (cases p l) [
        | inl a ↦ moved p w (s.held p a w (omega (arith, o)))
        | inr a ↦ subst (λ (z : ℕ). IsInGroup ranks new_starts new_ends new_noted z (slice_index first z) (slice_index last z)) (e.there i here ∙ ap (slice_index ranks) (sym a))
            (moved f (omega (arith, begun, here)) (s.held f begun (omega (arith, begun, here)) (subst (λ (z : ℕ). i ≤ slice_index last z) (sym (e.there i here)) (e.ends i here))))
      ];
      found = λ p q r t a l. elim (cases r l) [
        | inl b ↦ let w = s.found p q r t a b in (grows (slice_index ranks p) w.0, grows (slice_index ranks q) w.1)
        | inr b ↦ noted-now p q t (subst (λ (z : ℕ). AlternateAt ranks p q z t) b a)
      ];
    }

  -- there is a group that begins no later than the block at place i
  pub some-group : slice_index first (slice_index ranks i) < i → (k : ℕ) × (k < length starts) × (slice_index starts k ≤ slice_index first (slice_index ranks i))
  some-group b =
      let g = s.held f b (omega (arith, b, here)) (subst (λ (z : ℕ). i ≤ slice_index last z) (sym (e.there i here)) (e.ends i here)) in
      (g.group, g.within, subst (λ (z : ℕ). slice_index starts g.group ≤ slice_index first z) (e.there i here) g.begins)
    where
      f : ℕ
      f = slice_index first (slice_index ranks i)

-- a list cut at four members
module _ (a : List ℕ) (x : ℕ) (b : List ℕ) (y : ℕ) (c : List ℕ) (z : ℕ) (d : List ℕ) (w : ℕ) (e l : List ℕ) (is : l ≡ a ++ x ∷ (b ++ y ∷ (c ++ z ∷ (d ++ w ∷ e)))) where
  abbrev to_y : List ℕ
  to_y = a ++ x ∷ b

  abbrev to_z : List ℕ
  to_z = to_y ++ y ∷ c

  abbrev to_w : List ℕ
  to_w = to_z ++ z ∷ d

  cut-y : l ≡ to_y ++ y ∷ (c ++ z ∷ (d ++ w ∷ e))
  cut-y = is ∙ sym (append_assoc a (x ∷ b) (y ∷ (c ++ z ∷ (d ++ w ∷ e))))

  cut-z : l ≡ to_z ++ z ∷ (d ++ w ∷ e)
  cut-z = cut-y ∙ sym (append_assoc to_y (y ∷ c) (z ∷ (d ++ w ∷ e)))

  cut-w : l ≡ to_w ++ w ∷ e
  cut-w = cut-z ∙ sym (append_assoc to_z (z ∷ d) (w ∷ e))

  pub at-x : slice_index l (length a) ≡ x
  at-x = ap (λ (m : List ℕ). slice_index m (length a)) is ∙ place-cut a x (b ++ y ∷ (c ++ z ∷ (d ++ w ∷ e)))

  pub at-y : slice_index l (length to_y) ≡ y
  at-y = ap (λ (m : List ℕ). slice_index m (length to_y)) cut-y ∙ place-cut to_y y (c ++ z ∷ (d ++ w ∷ e))

  at-z : slice_index l (length to_z) ≡ z
  at-z = ap (λ (m : List ℕ). slice_index m (length to_z)) cut-z ∙ place-cut to_z z (d ++ w ∷ e)

  at-w : slice_index l (length to_w) ≡ w
  at-w = ap (λ (m : List ℕ). slice_index m (length to_w)) cut-w ∙ place-cut to_w w e

  pub alternate : x ≡ z → y ≡ w → x ≢ y → AlternateAt l (length a) (length to_y) (length to_z) (length to_w)
  alternate one other differ = record {
    first = omega (arith, length-append a (x ∷ b));
    second = omega (arith, length-append to_y (y ∷ c));
    third = omega (arith, length-append to_z (z ∷ d));
    within = omega (arith, ap length cut-w, length-append to_w (w ∷ e));
    one = at-x ∙ one ∙ sym at-z;
    other = at-y ∙ other ∙ sym at-w;
    differ = λ n. differ (sym at-x ∙ n ∙ at-y);
  }

-- at the end each block that crosses another one is noted
pub all-noted : (ranks first last starts ends : List ℕ) (noted : List Bool) → AreGroups ranks first last starts ends noted (length ranks) → AreNoted ranks noted
all-noted ranks first last starts ends noted s b c h = elim (cross-interleaved (λ r. r) b c ranks h) [
  | inl i ↦ (both b c i).0
  | inr i ↦ (both c b i).1
]
  where
    both : (u v : ℕ) → Interleaved (λ (r : ℕ). r) u v ranks → (is_noted noted u ≡ true) × (is_noted noted v ≡ true)
    both u v i = (
      subst (λ (z : ℕ). is_noted noted z ≡ true) (at-x i.front i.x i.near i.y i.middle i.z g.front i.w g.back ranks is ∙ i.of_x) t.0,
      subst (λ (z : ℕ). is_noted noted z ≡ true) (at-y i.front i.x i.near i.y i.middle i.z g.front i.w g.back ranks is ∙ i.of_y) t.1,
    )
      where
        g : CutAt i.w i.back
        g = cut_at i.w i.back i.later

        is : ranks ≡ i.front ++ i.x ∷ (i.near ++ i.y ∷ (i.middle ++ i.z ∷ (g.front ++ i.w ∷ g.back)))
        is = i.is ∙ ap (λ (m : List ℕ). i.front ++ i.x ∷ (i.near ++ i.y ∷ (i.middle ++ i.z ∷ m))) g.is

        a : AlternateAt ranks (length i.front) (length (i.front ++ i.x ∷ i.near)) (length ((i.front ++ i.x ∷ i.near) ++ i.y ∷ i.middle)) (length (((i.front ++ i.x ∷ i.near) ++ i.y ∷ i.middle) ++ i.z ∷ g.front))
        a = alternate i.front i.x i.near i.y i.middle i.z g.front i.w g.back ranks is (i.of_x ∙ sym i.of_z) (i.of_y ∙ sym i.of_w) (λ n. i.differ (sym i.of_x ∙ n ∙ i.of_y))

        t : (is_noted noted (slice_index ranks (length i.front)) ≡ true) × (is_noted noted (slice_index ranks (length (i.front ++ i.x ∷ i.near))) ≡ true)
        t = s.found (length i.front) (length (i.front ++ i.x ∷ i.near)) (length ((i.front ++ i.x ∷ i.near) ++ i.y ∷ i.middle)) (length (((i.front ++ i.x ∷ i.near) ++ i.y ∷ i.middle) ++ i.z ∷ g.front)) a
            (omega (arith, a.third, a.within))

-- a rank more that is noted
noted-set : (noted : List Bool) (b r : ℕ) → b < length noted → is_noted noted r ≡ true → is_noted (set noted b true) r ≡ true
noted-set noted b r h t = elim (cases_eq r b) [
  | inl e ↦ subst (λ (z : ℕ). is_noted (set noted b true) z ≡ true) (sym e) (get_or-set_same noted b true false h)
  | inr n ↦ get_or-set_other noted b r true false n ∙ t
]

module _ (ranks first last starts ends : List ℕ) (noted : List Bool) (i count : ℕ) (e : AreEnds ranks first last) (here : i < length ranks) (s : AreGroups ranks first last starts ends noted i)
    (begun : slice_index first (slice_index ranks i) < i) (within : count ≤ length starts) (later : (k : ℕ) → count ≤ k → k < length starts → slice_index first (slice_index ranks i) < slice_index starts k)
    (top : (k : ℕ) → count ≡ k + 1 → slice_index starts k ≤ slice_index first (slice_index ranks i)) where
  -- a group is left
  pub group-left : 1 ≤ count
  group-left = let g = some-group ranks first last starts ends noted i e here s begun in
      elim (cases_lt g.0 count) [ inl l ↦ omega (arith, l) | inr l ↦ absurd (omega (arith, later g.0 l g.1, g.2)) ]

  -- no other group joins it
  pub joined-alone : count ≡ length starts → AreGroups ranks first last starts ends noted (i + 1)
  joined-alone all = groups-joined ranks first last starts ends noted i e here s starts ends noted (count - 1) begun
      (omega (arith, all, one)) (omega (arith, all, one)) (omega (arith, all, one, s.each)) (top (count - 1) one)
      (λ k a b. later k (omega (arith, a, one)) b) (λ k a. refl) (λ k a. omega arith)
      (λ k a b. subst (λ (z : ℕ). slice_index ends z ≤ slice_index ends (count - 1)) (same k a b) (omega arith)) (λ r t. t) (λ k a b. absurd (omega (arith, a, b, all, one))) (λ a. absurd (omega (arith, a, all, one)))
    where
      one : count ≡ count - 1 + 1
      one = omega (arith, group-left)

      same : (k : ℕ) → count - 1 ≤ k → k < length starts → count - 1 ≡ k
      same k a b = omega (arith, a, b, all, one)

  -- others do
  pub joined-with : (end : ℕ) (marks : List Bool) → count < length starts → slice_index ranks i < length marks → ((k : ℕ) → count - 1 ≤ k → k < length ends → slice_index ends k ≤ end)
      → ((k : ℕ) → count ≤ k → k < length starts → is_noted marks (slice_index ranks (slice_index starts k)) ≡ true) → ((r : ℕ) → is_noted noted r ≡ true → is_noted marks r ≡ true)
      → AreGroups ranks first last (take count starts) (set (take count ends) (count - 1) end) (set marks (slice_index ranks i) true) (i + 1)
  joined-with end marks more room greatest marked grows = groups-joined ranks first last starts ends noted i e here s (take count starts) (set (take count ends) (count - 1) end) (set marks (slice_index ranks i) true) (count - 1) begun
      (omega (arith, more, one)) (length-take-le count starts within ∙ one) (length-set (take count ends) (count - 1) end ∙ left ∙ one) (top (count - 1) one)
      (λ k a b. later k (omega (arith, a, one)) b) (λ k a. kept count starts k (omega (arith, a, one)))
      no-less
      (λ k a b. let g : slice_index ends k ≤ end = greatest k a (omega (arith, b, s.each)) in omega (arith, g, at_end))
      (λ r t. noted-set marks (slice_index ranks i) r room (grows r t))
      (λ k a b. noted-set marks (slice_index ranks i) (slice_index ranks (slice_index starts k)) room (marked k (omega (arith, a, one)) b))
      (λ a. get_or-set_same marks (slice_index ranks i) true false room)
    where
      one : count ≡ count - 1 + 1
      one = omega (arith, group-left)

      left : length (take count ends) ≡ count
      left = length-take-le count ends (omega (arith, within, s.each))

      at_end : slice_index (set (take count ends) (count - 1) end) (count - 1) ≡ end
      at_end = get_or-set_same (take count ends) (count - 1) end 0 (omega (arith, left, one))

      no-less : (k : ℕ) → k ≤ count - 1 → slice_index ends k ≤ slice_index (set (take count ends) (count - 1) end) k
      no-less k a = elim (cases_eq k (count - 1)) [
        | inl q ↦ subst (λ (z : ℕ). slice_index ends z ≤ slice_index (set (take count ends) (count - 1) end) z) (sym q)
            (let g : slice_index ends (count - 1) ≤ end = greatest (count - 1) (omega arith) (omega (arith, more, one, s.each)) in omega (arith, g, at_end))
        | inr n ↦
            let o : slice_index (set (take count ends) (count - 1) end) k ≡ slice_index (take count ends) k = get_or-set_other (take count ends) (count - 1) k end 0 n in
            omega (arith, o, kept count ends k (omega (arith, a, one)))
      ]
