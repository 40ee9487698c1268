-- Lists set at vertices, one after the other, and moves of blocks, of one block after the other.
use Rattle.std.proofs.Common.{◌≡◌, ◌≢◌, ℕ, zero, suc, ◌<◌, ◌≤◌, Bool, true, false, if◌then◌else◌, List, [], ◌∷◌, ◌++◌, length, map, slice_index, slice_index_or, slice_set, Option, None, Some, All, ◌⊎◌, inl, inr, refl, sym, ap, ◌∙◌, subst, arith}
use Rattle.std.proofs.lemmas.Bool.{cases_Bool, cases_eq, true≢false, both_ways, cond-true, cond-false}
use Rattle.std.proofs.lemmas.List.{map-append, length-set, set-set, set-get_or, ext_get_or, get_or-set_same, get_or-set_other}
use Rattle.std.proofs.lemmas.List.Elements.{All-nil, All-cons, All-head, All-tail, All-append}
use Rattle.permutations.specs.Members.{is_member, is_distinct}
use Rattle.permutations.proofs.Members.{member-cases, member-head, member-tail, distinct-head, distinct-tail}
use Rattle.arrangements.proofs.Lists.{same-equal}
use Rattle.pair_split.specs.Tutte.{Node}
use Rattle.skeletons.specs.Moves.{Move}
use Rattle.embed_moves.specs.Made.{Fits}
use Rattle.spqr_session.specs.Trees.{BlockTree, tree_at}
use Rattle.spqr_session.specs.State.{Embedding}
use Rattle.spqr_session.specs.History.{entry_moved, pairs_moved, lists_set, list_after, list_before, IsMoveOf}
use Rattle.spqr_session.specs.WholeSteps.{pairs_of, same_kept, change_at, changes_below}

-- ---- lists at vertices

abbrev Lists : Type 0
Lists = List (Option (List ℕ))

set-append : (ps qs : List (ℕ × Option (List ℕ))) (l : Lists) → lists_set (ps ++ qs) l ≡ lists_set qs (lists_set ps l)
set-append [] qs l = refl
set-append (p ∷ ps) qs l = set-append ps qs (slice_set l p.0 p.1)

-- the value at vertex i, if it is set
abbrev setting_at : List ℕ → (ℕ → Bool) → (ℕ → Option (List ℕ)) → ℕ → List (ℕ × Option (List ℕ))
setting_at vertices skip value i = (if skip i then [] else (slice_index vertices i, value i) ∷ [])

abbrev settings_below : List ℕ → (ℕ → Bool) → (ℕ → Option (List ℕ)) → ℕ → List (ℕ × Option (List ℕ))
settings_below vertices skip value zero = []
settings_below vertices skip value (suc n) = settings_below vertices skip value n ++ setting_at vertices skip value n

-- what was set at the first n vertices
record AreSet (vertices : List ℕ) (value : ℕ → Option (List ℕ)) (old new : Lists) (n : ℕ) : Type 0 where
  each : length new ≡ length old
  there : (i : ℕ) → i < n → slice_index_or new (slice_index vertices i) None ≡ value i
  others : (v : ℕ) → ((i : ℕ) → i < n → v ≢ slice_index vertices i) → slice_index_or new v None ≡ slice_index_or old v None

module _ (vertices : List ℕ) (once : (i j : ℕ) → i < length vertices → j < length vertices → slice_index vertices i ≡ slice_index vertices j → i ≡ j) (skip : ℕ → Bool) (value : ℕ → Option (List ℕ)) (l : Lists)
    (within : (i : ℕ) → i < length vertices → slice_index vertices i < length l) (same : (i : ℕ) → i < length vertices → skip i ≡ true → slice_index_or l (slice_index vertices i) None ≡ value i) where
  more : (n : ℕ) (old : Lists) → n < length vertices → AreSet vertices value l old n → AreSet vertices value l (lists_set (setting_at vertices skip value n) old) (suc n)
  more n old high h = elim (cases_Bool (skip n)) [
    | inl t ↦ subst (λ (z : List (ℕ × Option (List ℕ))). AreSet vertices value l (lists_set z old) (suc n)) (sym (cond-true (skip n) [] ((slice_index vertices n, value n) ∷ []) t))
        (record {
          each = h.each;
          there = λ i k. elim (cases_eq i n) [
            | inl e ↦ subst (λ z. slice_index_or old (slice_index vertices z) None ≡ value z) (sym e) (h.others (slice_index vertices n) (λ j b q. (let at : n ≡ j = once n j high (omega (arith, b, high)) q in omega (arith, at, b))) ∙ same n high t)
            | inr d ↦ h.there i (omega (arith, k, d))
          ];
          others = λ v n. h.others v (λ i k. n i (omega (arith, k)));
        })
    | inr f ↦ subst (λ (z : List (ℕ × Option (List ℕ))). AreSet vertices value l (lists_set z old) (suc n)) (sym (cond-false (skip n) [] ((slice_index vertices n, value n) ∷ []) f))
        (record {
          each = length-set old (slice_index vertices n) (value n) ∙ h.each;
          there = λ i k. elim (cases_eq i n) [
            | inl e ↦ subst (λ z. slice_index_or (slice_set old (slice_index vertices n) (value n)) (slice_index vertices z) None ≡ value z) (sym e) (get_or-set_same old (slice_index vertices n) (value n) None (omega (arith, within n high, h.each)))
            | inr d ↦ get_or-set_other old (slice_index vertices n) (slice_index vertices i) (value n) None (λ q. d (once i n (omega (arith, k, high)) high q)) ∙ h.there i (omega (arith, k, d))
          ];
          others = λ v m. get_or-set_other old (slice_index vertices n) v (value n) None (m n (omega arith)) ∙ h.others v (λ i k. m i (omega (arith, k)));
        })
  ]

  all-set : (n : ℕ) → n ≤ length vertices → AreSet vertices value l (lists_set (settings_below vertices skip value n) l) n
  all-set zero h = record { each = refl; there = λ i k. absurd (omega (arith, k)); others = λ v n. refl }
  all-set (suc n) h = subst (λ (z : Lists). AreSet vertices value l z (suc n)) (sym (set-append (settings_below vertices skip value n) (setting_at vertices skip value n) l))
      (more n (lists_set (settings_below vertices skip value n) l) (omega (arith, h)) (all-set n (omega (arith, h))))

-- ---- changes of cut vertices

same-kept_equal : (a b : Option (List ℕ)) → same_kept a b ≡ true → a ≡ b
same-kept_equal None None h = refl
same-kept_equal None (Some l) h = absurd (true≢false (sym h))
same-kept_equal (Some l) None h = absurd (true≢false (sym h))
same-kept_equal (Some l) (Some m) h = ap (λ (z : List ℕ). Some z) (same-equal l m h)

module _ (vertices : List ℕ) (once : (i j : ℕ) → i < length vertices → j < length vertices → slice_index vertices i ≡ slice_index vertices j → i ≡ j) (l : Lists)
    (within : (i : ℕ) → i < length vertices → slice_index vertices i < length l) (wanted : ℕ → Option (List ℕ)) where
  abbrev present : ℕ → Option (List ℕ)
  present i = slice_index_or l (slice_index vertices i) None

  abbrev skip : ℕ → Bool
  skip i = same_kept (present i) (wanted i)

  after-at : (i : ℕ) → map list_after (change_at vertices l wanted i) ≡ setting_at vertices skip wanted i
  after-at i = elim (cases_Bool (skip i)) [
    | inl t ↦ ap (map list_after) (cond-true (skip i) [] (record { vertex = slice_index vertices i; before = present i; after = wanted i } ∷ []) t) ∙ sym (cond-true (skip i) [] ((slice_index vertices i, wanted i) ∷ []) t)
    | inr f ↦ ap (map list_after) (cond-false (skip i) [] (record { vertex = slice_index vertices i; before = present i; after = wanted i } ∷ []) f) ∙ sym (cond-false (skip i) [] ((slice_index vertices i, wanted i) ∷ []) f)
  ]

  before-at : (i : ℕ) → map list_before (change_at vertices l wanted i) ≡ setting_at vertices skip present i
  before-at i = elim (cases_Bool (skip i)) [
    | inl t ↦ ap (map list_before) (cond-true (skip i) [] (record { vertex = slice_index vertices i; before = present i; after = wanted i } ∷ []) t) ∙ sym (cond-true (skip i) [] ((slice_index vertices i, present i) ∷ []) t)
    | inr f ↦ ap (map list_before) (cond-false (skip i) [] (record { vertex = slice_index vertices i; before = present i; after = wanted i } ∷ []) f) ∙ sym (cond-false (skip i) [] ((slice_index vertices i, present i) ∷ []) f)
  ]

  after-below : (n : ℕ) → map list_after (changes_below vertices l wanted n) ≡ settings_below vertices skip wanted n
  after-below zero = refl
  after-below (suc n) = map-append list_after (changes_below vertices l wanted n) (change_at vertices l wanted n) ∙ (λ i. after-below n i ++ after-at n i)

  before-below : (n : ℕ) → map list_before (changes_below vertices l wanted n) ≡ settings_below vertices skip present n
  before-below zero = refl
  before-below (suc n) = map-append list_before (changes_below vertices l wanted n) (change_at vertices l wanted n) ∙ (λ i. before-below n i ++ before-at n i)

  abbrev N : ℕ
  N = length vertices

  abbrev forth : Lists
  forth = lists_set (map list_after (changes_below vertices l wanted N)) l

  forth-set : AreSet vertices wanted l forth N
  forth-set = subst (λ (z : List (ℕ × Option (List ℕ))). AreSet vertices wanted l (lists_set z l) N) (sym (after-below N))
      (all-set vertices once skip wanted l within (λ i h t. same-kept_equal (present i) (wanted i) t) N (omega arith))

  -- the lists after the changes
  pub changed-each : length (lists_set (map list_after (changes_below vertices l wanted (length vertices))) l) ≡ length l
  changed-each = forth-set.each

  pub changed-there : (i : ℕ) → i < length vertices → slice_index_or (lists_set (map list_after (changes_below vertices l wanted (length vertices))) l) (slice_index vertices i) None ≡ wanted i
  changed-there i h = forth-set.there i h

  pub changed-others : (v : ℕ) → ((i : ℕ) → i < length vertices → v ≢ slice_index vertices i) → slice_index_or (lists_set (map list_after (changes_below vertices l wanted (length vertices))) l) v None ≡ slice_index_or l v None
  changed-others v n = forth-set.others v n

  -- and back
  back-set : AreSet vertices present forth (lists_set (map list_before (changes_below vertices l wanted N)) forth) N
  back-set = subst (λ (z : List (ℕ × Option (List ℕ))). AreSet vertices present forth (lists_set z forth) N) (sym (before-below N))
      (all-set vertices once skip present forth (λ i h. omega (arith, within i h, forth-set.each)) (λ i h t. forth-set.there i h ∙ sym (same-kept_equal (present i) (wanted i) t)) N (omega arith))

  is-some : (v : ℕ) (n : ℕ) → n ≤ length vertices → ((i : ℕ) → i < n → v ≢ slice_index vertices i) ⊎ ((i : ℕ) × (i < n) × (v ≡ slice_index vertices i))
  is-some v zero h = inl (λ i k. absurd (omega (arith, k)))
  is-some v (suc n) h = elim (is-some v n (omega (arith, h))) [
    | inr w ↦ inr (w.0, (let less : w.0 < suc n = omega (arith, w.1) in less), w.2)
    | inl none ↦ elim (cases_eq v (slice_index vertices n)) [
      | inl e ↦ inr (n, (let less : n < suc n = omega arith in less), e)
      | inr d ↦ inl (λ i k. elim (cases_eq i n) [
        | inl q ↦ subst (λ z. v ≢ slice_index vertices z) (sym q) d
        | inr o ↦ none i (omega (arith, k, o))
      ])
    ]
  ]

  pub changed-back : lists_set (map list_before (changes_below vertices l wanted (length vertices))) (lists_set (map list_after (changes_below vertices l wanted (length vertices))) l) ≡ l
  changed-back = ext_get_or None (lists_set (map list_before (changes_below vertices l wanted N)) forth) l (back-set.each ∙ forth-set.each) (λ v h. elim (is-some v N (omega arith)) [
    | inl none ↦ back-set.others v none ∙ forth-set.others v none
    | inr w ↦ subst (λ z. slice_index_or (lists_set (map list_before (changes_below vertices l wanted N)) forth) z None ≡ slice_index_or l z None) (sym w.2) (back-set.there w.0 w.1)
  ])

-- ---- moves of blocks

moved-none : (nodes : List Node) (o : Option Embedding) → entry_moved nodes [] o ≡ o
moved-none nodes None = refl
moved-none nodes (Some e) = refl

moved-more : (nodes : List Node) (m : Move) (ms : List Move) (o : Option Embedding) → entry_moved nodes ms (entry_moved nodes (m ∷ []) o) ≡ entry_moved nodes (m ∷ ms) o
moved-more nodes m ms None = refl
moved-more nodes m ms (Some e) = refl

pairs-append : (trees : List BlockTree) (ps qs : List (ℕ × Move)) (l : List (Option Embedding)) → pairs_moved trees (ps ++ qs) l ≡ pairs_moved trees qs (pairs_moved trees ps l)
pairs-append trees [] qs l = refl
pairs-append trees (p ∷ ps) qs l = pairs-append trees ps qs (slice_set l p.0 (entry_moved (tree_at trees p.0).nodes (p.1 ∷ []) (slice_index_or l p.0 None)))

-- the moves of one block
one-block : (trees : List BlockTree) (b : ℕ) (ms : List Move) (l : List (Option Embedding)) → b < length l → pairs_moved trees (map (λ (m : Move). (b, m)) ms) l ≡ slice_set l b (entry_moved (tree_at trees b).nodes ms (slice_index_or l b None))
one-block trees b [] l h = sym (ap (slice_set l b) (moved-none (tree_at trees b).nodes (slice_index_or l b None)) ∙ set-get_or l b None)
one-block trees b (m ∷ ms) l h =
    let x = entry_moved (tree_at trees b).nodes (m ∷ []) (slice_index_or l b None) in
    one-block trees b ms (slice_set l b x) (omega (arith, h, length-set l b x))
    ∙ (set-set l b x (entry_moved (tree_at trees b).nodes ms (slice_index_or (slice_set l b x) b None))
    ∙ ap (slice_set l b) (ap (entry_moved (tree_at trees b).nodes ms) (get_or-set_same l b x None h) ∙ moved-more (tree_at trees b).nodes m ms (slice_index_or l b None)))

-- the entries after moves of some blocks
pub record AreMovedPairs (trees : List BlockTree) (moves : ℕ → List Move) (blocks : List ℕ) (old new : List (Option Embedding)) : Type 0 where
  pub each : length new ≡ length old
  pub there : (b : ℕ) → is_member b blocks ≡ true → slice_index_or new b None ≡ entry_moved (tree_at trees b).nodes (moves b) (slice_index_or old b None)
  pub others : (b : ℕ) → is_member b blocks ≡ false → slice_index_or new b None ≡ slice_index_or old b None

pub pairs-set : (trees : List BlockTree) (moves : ℕ → List Move) (blocks : List ℕ) (l : List (Option Embedding)) → is_distinct blocks ≡ true → ((b : ℕ) → is_member b blocks ≡ true → b < length l) → AreMovedPairs trees moves blocks l (pairs_moved trees (pairs_of moves blocks) l)
pairs-set trees moves [] l d within = record { each = refl; there = λ b m. absurd (both_ways (is_member b []) refl m); others = λ b m. refl }
pairs-set trees moves (a ∷ blocks) l d within =
    subst (AreMovedPairs trees moves (a ∷ blocks) l) (sym (pairs-append trees (map (λ (m : Move). (a, m)) (moves a)) (pairs_of moves blocks) l ∙ ap (pairs_moved trees (pairs_of moves blocks)) (one-block trees a (moves a) l (within a (member-head a blocks)))))
    (more (pairs-set trees moves blocks first (distinct-tail a blocks d) (λ b m. omega (arith, within b (member-tail b a blocks m), length-set l a x))))
  where
    x : Option Embedding
    x = entry_moved (tree_at trees a).nodes (moves a) (slice_index_or l a None)

    first : List (Option Embedding)
    first = slice_set l a x

    more : AreMovedPairs trees moves blocks first (pairs_moved trees (pairs_of moves blocks) first) → AreMovedPairs trees moves (a ∷ blocks) l (pairs_moved trees (pairs_of moves blocks) first)
    more h = record {
      each = h.each ∙ length-set l a x;
      there = λ b m. elim (cases_eq b a) [
        | inl e ↦ subst (λ z. slice_index_or (pairs_moved trees (pairs_of moves blocks) first) z None ≡ entry_moved (tree_at trees z).nodes (moves z) (slice_index_or l z None)) (sym e)
            (h.others a (distinct-head a blocks d) ∙ get_or-set_same l a x None (within a (member-head a blocks)))
        | inr n ↦ h.there b (rest b m n) ∙ ap (entry_moved (tree_at trees b).nodes (moves b)) (get_or-set_other l a b x None n)
      ];
      others = λ b m. h.others b (not-tail b m) ∙ get_or-set_other l a b x None (not-head b m);
    }
      where
        rest : (b : ℕ) → is_member b (a ∷ blocks) ≡ true → b ≢ a → is_member b blocks ≡ true
        rest b m n = elim (member-cases b a blocks m) [
          | inl e ↦ absurd (n (sym e))
          | inr t ↦ t
        ]

        not-tail : (b : ℕ) → is_member b (a ∷ blocks) ≡ false → is_member b blocks ≡ false
        not-tail b m = elim (cases_Bool (is_member b blocks)) [
          | inl t ↦ absurd (both_ways (is_member b (a ∷ blocks)) m (member-tail b a blocks t))
          | inr f ↦ f
        ]

        not-head : (b : ℕ) → is_member b (a ∷ blocks) ≡ false → b ≢ a
        not-head b m e = both_ways (is_member b (a ∷ blocks)) m (subst (λ z. is_member z (a ∷ blocks) ≡ true) (sym e) (member-head a blocks))

-- they are moves of the trees, if those of each block are
pub pairs-fit : (trees : List BlockTree) (moves : ℕ → List Move) (blocks : List ℕ) → ((b : ℕ) → is_member b blocks ≡ true → (b < length trees) × All (Fits (tree_at trees b).nodes) (moves b)) → All (IsMoveOf trees) (pairs_of moves blocks)
pairs-fit trees moves [] h = All-nil (IsMoveOf trees)
pairs-fit trees moves (a ∷ blocks) h =
    All-append (IsMoveOf trees) (map (λ (m : Move). (a, m)) (moves a)) (pairs_of moves blocks) (one (moves a) (h a (member-head a blocks)).0 (h a (member-head a blocks)).1) (pairs-fit trees moves blocks (λ b m. h b (member-tail b a blocks m)))
  where
    one : (ms : List Move) → a < length trees → All (Fits (tree_at trees a).nodes) ms → All (IsMoveOf trees) (map (λ (m : Move). (a, m)) ms)
    one [] l f = All-nil (IsMoveOf trees)
    one (m ∷ ms) l f = All-cons (IsMoveOf trees) (a, m) (map (λ (m : Move). (a, m)) ms) (l, All-head (Fits (tree_at trees a).nodes) m ms f) (one ms l (All-tail (Fits (tree_at trees a).nodes) m ms f))
