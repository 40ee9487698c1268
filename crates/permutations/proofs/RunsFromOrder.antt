-- A cyclic order falls into runs exactly where no two pairs of members cross.
use Rattle.std.proofs.Common.{◌≡◌, ◌≢◌, ℕ, ◌⊎◌, inl, inr, Bool, true, false, ◌||◌, ◌==◌, List, [], ◌∷◌, ◌++◌, filter, refl, sym, ap, ◌∙◌, subst, arith, append_assoc, append-nil, All}
use Rattle.std.proofs.lemmas.Bool.{cases_Bool, cases_eq, both_ways, true≢false, false_from_ne_true, eq-eqb, ne_eqb, eqb-true}
use Rattle.std.proofs.lemmas.List.{same_from_push}
use Rattle.std.proofs.lemmas.List.Elements.{All-nil, All-head, All-tail, All-cons, filter-append}
use Rattle.permutations.specs.Members.{is_member, is_distinct}
use Rattle.permutations.specs.Cyclic.{successor, IsTurn, Follows, FollowsAround}
use Rattle.permutations.specs.Runs.{joined, group_keys, IsGroup, InRuns, NothingCrosses, group_onto, grouped}
use Rattle.permutations.proofs.Members.{member-head, member-tail, member-cases, no_member-cons, member-append_left, member-append_right, distinct-head, distinct-tail, distinct-cons, distinct-append_left, distinct-append_right, CutAt, cut_at}
use Rattle.permutations.proofs.Filter.{filter-ext, distinct-filter}
use Rattle.permutations.proofs.Successor.{successor-cut}
use Rattle.permutations.proofs.Turned.{IsTurn-refl, IsTurn-sym, IsTurn-member, IsTurn-distinct, IsTurn-successor, IsTurn-swap}
use Rattle.permutations.proofs.CyclicOrder.{follows-cons, follows-one, follows-either, follows-around, around-turn, around-turned, around-member, around-distinct}
use Rattle.permutations.proofs.Runs.{first-of, last-of, joined-member, first-group, runs-turn}

-- x put in front of the groups
joined-onto : (key : ℕ → ℕ) (x : ℕ) (gs : List (ℕ × List ℕ)) → joined (group_onto key x gs) ≡ x ∷ joined gs
joined-onto key x [] = refl
joined-onto key x (g ∷ gs) = elim (cases_Bool (key x == g.0)) [ inl t ↦ rw t refl | inr f ↦ rw f refl ]

-- the list cut into groups of neighbours is the list
pub joined-grouped : (key : ℕ → ℕ) (l : List ℕ) → joined (grouped key l) ≡ l
joined-grouped key [] = refl
joined-grouped key (x ∷ l) = joined-onto key x (grouped key l) ∙ ap (λ (v : List ℕ). x ∷ v) (joined-grouped key l)

-- x alone is a group
group-alone : (key : ℕ → ℕ) (x : ℕ) → IsGroup key (key x, x ∷ [])
group-alone key x = record { filled = omega arith; same_key = λ z m. elim (member-cases z x [] m) [ inl e ↦ ap key (sym e) | inr n ↦ absurd (true≢false (sym n)) ] }

-- with x in front the groups are groups
groups-onto : (key : ℕ → ℕ) (x : ℕ) (gs : List (ℕ × List ℕ)) → All (IsGroup key) gs → All (IsGroup key) (group_onto key x gs)
groups-onto key x [] a = All-cons (IsGroup key) (key x, x ∷ []) [] (group-alone key x) a
groups-onto key x (g ∷ gs) a = elim (cases_Bool (key x == g.0)) [
  | inl t ↦ rw t (All-cons (IsGroup key) (g.0, x ∷ g.1) gs
      (record { filled = omega arith; same_key = λ z m. elim (member-cases z x g.1 m) [ inl e ↦ ap key (sym e) ∙ eqb-true (key x) g.0 t | inr i ↦ (All-head (IsGroup key) g gs a).same_key z i ] })
      (All-tail (IsGroup key) g gs a))
  | inr f ↦ rw f (All-cons (IsGroup key) (key x, x ∷ []) (g ∷ gs) (group-alone key x) a)
]

-- the groups of neighbours are groups
pub groups-grouped : (key : ℕ → ℕ) (l : List ℕ) → All (IsGroup key) (grouped key l)
groups-grouped key [] = All-nil (IsGroup key)
groups-grouped key (x ∷ l) = groups-onto key x (grouped key l) (groups-grouped key l)

-- the key of a group is the key of a member
key-member : (key : ℕ → ℕ) (gs : List (ℕ × List ℕ)) (k : ℕ) → All (IsGroup key) gs → is_member k (group_keys gs) ≡ true → (c : ℕ) × (is_member c (joined gs) ≡ true) × (key c ≡ k)
key-member key [] k a m = absurd (true≢false (sym m))
key-member key (g ∷ gs) k a m = elim (member-cases k g.0 (group_keys gs) m) [
  | inl e ↦ let u : (x : ℕ) × (r : List ℕ) × (g.1 ≡ x ∷ r) = first-of g.1 (All-head (IsGroup key) g gs a).filled in
      let i : is_member u.0 g.1 ≡ true = ap (is_member u.0) u.2 ∙ member-head u.0 u.1 in
      (u.0, member-append_left u.0 g.1 (joined gs) i, (All-head (IsGroup key) g gs a).same_key u.0 i ∙ e)
  | inr t ↦ let w : (c : ℕ) × (is_member c (joined gs) ≡ true) × (key c ≡ k) = key-member key gs k (All-tail (IsGroup key) g gs a) t in
      (w.0, member-append_right w.0 g.1 (joined gs) w.1, w.2)
]

-- where nothing crosses, and first and last have different keys, a key does not come back after another one
no-return : (key : ℕ → ℕ) (pre : List ℕ) (x y : ℕ) (ys : List ℕ) (c : ℕ) → is_distinct (pre ++ x ∷ y ∷ ys) ≡ true → NothingCrosses key (pre ++ x ∷ y ∷ ys)
    → (h : ℕ) (t : List ℕ) → pre ++ x ∷ y ∷ ys ≡ h ∷ t → (u : List ℕ) (e : ℕ) → pre ++ x ∷ y ∷ ys ≡ u ++ e ∷ [] → key h ≢ key e
    → key y ≢ key x → is_member c ys ≡ true → key c ≡ key x → ⊥
no-return key pre x y ys c d n h t first u e last apart other m k = elim (cases_eq (key h) (key x)) [
  | inr ne ↦ before pre ne first d n
  | inl same ↦ behind (λ q. apart (same ∙ sym q)) (cut_at c ys m)
]
  where
    dys : is_distinct ys ≡ true
    dys = distinct-tail y ys (distinct-tail x (y ∷ ys) (distinct-append_right pre (x ∷ y ∷ ys) d))

    before : (pre : List ℕ) → key h ≢ key x → pre ++ x ∷ y ∷ ys ≡ h ∷ t → is_distinct (pre ++ x ∷ y ∷ ys) ≡ true → NothingCrosses key (pre ++ x ∷ y ∷ ys) → ⊥
    before [] ne q d n = ne (ap key (sym (cc)))
    before (p ∷ pre) ne q d n = n x y c p
        (around-turned ((p ∷ pre) ++ x ∷ y ∷ ys) (p ∷ x ∷ y ∷ c ∷ []) (x ∷ y ∷ c ∷ p ∷ [])
        (follows-around ((p ∷ pre) ++ x ∷ y ∷ ys) (p ∷ x ∷ y ∷ c ∷ [])
        (follows-cons [] p (pre ++ x ∷ y ∷ ys) (x ∷ y ∷ c ∷ []) d
        (follows-cons pre x (y ∷ ys) (y ∷ c ∷ []) (distinct-tail p (pre ++ x ∷ y ∷ ys) d)
        (follows-cons [] y ys (c ∷ []) (distinct-append_right (pre ++ x ∷ []) (y ∷ ys) (subst (λ (v : List ℕ). is_distinct v ≡ true) (sym (append_assoc pre (x ∷ []) (y ∷ ys))) (distinct-tail p (pre ++ x ∷ y ∷ ys) d)))
        (follows-one ys c dys m)))))
        (IsTurn-swap (p ∷ []) (x ∷ y ∷ c ∷ [])))
        (sym k) other (λ z. ne (ap key (sym first-is) ∙ z))
      where
        first-is : p ≡ h
        first-is = cc

    behind : key e ≢ key x → CutAt c ys → ⊥
    behind ne w = at w.back w.is
      where
        at : (q : List ℕ) → ys ≡ w.front ++ c ∷ q → ⊥
        at [] i =
            let j : (pre ++ x ∷ y ∷ w.front) ++ c ∷ [] ≡ u ++ e ∷ [] = append_assoc pre (x ∷ y ∷ w.front) (c ∷ []) ∙ ap (λ (v : List ℕ). pre ++ x ∷ y ∷ v) (sym i) ∙ last in
            ne (ap key (sym (same_from_push (pre ++ x ∷ y ∷ w.front) u c e j).1) ∙ k)
        at (z ∷ q) i = n x y c e
            (follows-around (pre ++ x ∷ y ∷ ys) (x ∷ y ∷ c ∷ e ∷ [])
            (follows-cons pre x (y ∷ ys) (y ∷ c ∷ e ∷ []) d
            (follows-cons [] y ys (c ∷ e ∷ []) (distinct-tail x (y ∷ ys) (distinct-append_right pre (x ∷ y ∷ ys) d))
            (subst (λ (v : List ℕ). Follows v (c ∷ e ∷ [])) (sym i)
            (follows-cons w.front c (z ∷ q) (e ∷ []) dc (follows-one (z ∷ q) e (distinct-tail c (z ∷ q) (distinct-append_right w.front (c ∷ z ∷ q) dc)) final))))))
            (sym k) other ne
          where
            dc : is_distinct (w.front ++ c ∷ z ∷ q) ≡ true
            dc = subst (λ (v : List ℕ). is_distinct v ≡ true) i dys

            l : (r : List ℕ) × (f : ℕ) × (z ∷ q ≡ r ++ f ∷ [])
            l = last-of (z ∷ q) (omega arith)

            ending : (pre ++ x ∷ y ∷ (w.front ++ c ∷ l.0)) ++ l.1 ∷ [] ≡ u ++ e ∷ []
            ending = append_assoc pre (x ∷ y ∷ (w.front ++ c ∷ l.0)) (l.1 ∷ []) ∙ ap (λ (v : List ℕ). pre ++ x ∷ y ∷ v) (append_assoc w.front (c ∷ l.0) (l.1 ∷ []) ∙ ap (λ (v : List ℕ). w.front ++ c ∷ v) (sym l.2) ∙ sym i) ∙ last

            final : is_member e (z ∷ q) ≡ true
            final = subst (λ (f : ℕ). is_member f (z ∷ q) ≡ true) (same_from_push (pre ++ x ∷ y ∷ (w.front ++ c ∷ l.0)) u l.1 e ending).1 (ap (is_member l.1) l.2 ∙ member-append_right l.1 l.0 (l.1 ∷ []) (member-head l.1 []))

-- the first key, with y put in front
onto-first : (key : ℕ → ℕ) (y : ℕ) (gs : List (ℕ × List ℕ)) → (r : List ℕ) × (group_keys (group_onto key y gs) ≡ key y ∷ r)
onto-first key y [] = ([], refl)
onto-first key y (g ∷ gs) = elim (cases_Bool (key y == g.0)) [
  | inl t ↦ rw t (group_keys gs, ap (λ (k : ℕ). k ∷ group_keys gs) (sym (eqb-true (key y) g.0 t)))
  | inr f ↦ rw f (g.0 ∷ group_keys gs, refl)
]

-- the keys, with x in front, where x has the first key
onto-same : (key : ℕ → ℕ) (x : ℕ) (gs : List (ℕ × List ℕ)) (r : List ℕ) → group_keys gs ≡ key x ∷ r → group_keys (group_onto key x gs) ≡ group_keys gs
onto-same key x [] r e = cc
onto-same key x (g ∷ gs) r e = let d : key x ≡ g.0 = cc in rw (eq-eqb (key x) g.0 d) refl

-- the keys, with x in front, where x has another key than the first
onto-other : (key : ℕ → ℕ) (x k : ℕ) (gs : List (ℕ × List ℕ)) (r : List ℕ) → group_keys gs ≡ k ∷ r → k ≢ key x → group_keys (group_onto key x gs) ≡ key x ∷ group_keys gs
onto-other key x k [] r e n = cc
onto-other key x k (g ∷ gs) r e n = let d : k ≡ g.0 = cc in rw (ne_eqb (key x) g.0 (λ q. n (d ∙ sym q))) refl

-- the keys of the groups of neighbours of a back of such a list are different
grouped-once : (key : ℕ → ℕ) (pre s : List ℕ) → is_distinct (pre ++ s) ≡ true → NothingCrosses key (pre ++ s)
    → (h : ℕ) (t : List ℕ) → pre ++ s ≡ h ∷ t → (u : List ℕ) (e : ℕ) → pre ++ s ≡ u ++ e ∷ [] → key h ≢ key e
    → is_distinct (group_keys (grouped key s)) ≡ true
grouped-once key pre [] d n h t first u e last apart = refl
grouped-once key pre (x ∷ []) d n h t first u e last apart = refl
grouped-once key pre (x ∷ y ∷ s) d n h t first u e last apart = at (grouped-once key (pre ++ x ∷ []) (y ∷ s) (subst (λ (v : List ℕ). is_distinct v ≡ true) (sym move) d) (subst (NothingCrosses key) (sym move) n) h t (move ∙ first) u e (move ∙ last) apart)
  where
    move : (pre ++ x ∷ []) ++ y ∷ s ≡ pre ++ x ∷ y ∷ s
    move = append_assoc pre (x ∷ []) (y ∷ s)

    gs : List (ℕ × List ℕ)
    gs = grouped key (y ∷ s)

    w : (r : List ℕ) × (group_keys gs ≡ key y ∷ r)
    w = onto-first key y (grouped key s)

    back : key y ≢ key x → (c : ℕ) × (is_member c (joined gs) ≡ true) × (key c ≡ key x) → ⊥
    back ne c = elim (member-cases c.0 y s (sym (ap (is_member c.0) (joined-grouped key (y ∷ s))) ∙ c.1)) [
      | inl q ↦ ne (ap key q ∙ c.2)
      | inr i ↦ no-return key pre x y s c.0 d n h t first u e last apart ne i c.2
    ]

    at : is_distinct (group_keys gs) ≡ true → is_distinct (group_keys (group_onto key x gs)) ≡ true
    at ih = elim (cases_eq (key y) (key x)) [
      | inl q ↦ subst (λ (v : List ℕ). is_distinct v ≡ true) (sym (onto-same key x gs w.0 (w.1 ∙ ap (λ (k : ℕ). k ∷ w.0) q))) ih
      | inr ne ↦ subst (λ (v : List ℕ). is_distinct v ≡ true) (sym (onto-other key x (key y) gs w.0 w.1 ne))
          (distinct-cons (key x) (group_keys gs) (false_from_ne_true (is_member (key x) (group_keys gs)) (λ m. back ne (key-member key gs (key x) (groups-grouped key (y ∷ s)) m))) ih)
    ]

-- either all members have the key of the first, or somewhere two neighbours have different keys
neighbours : (key : ℕ → ℕ) (x : ℕ) (l : List ℕ) → ((z : ℕ) → is_member z (x ∷ l) ≡ true → key z ≡ key x) ⊎ ((u : List ℕ) × (w : ℕ) × (z : ℕ) × (v : List ℕ) × (x ∷ l ≡ u ++ w ∷ z ∷ v) × (key w ≢ key z))
neighbours key x [] = inl (λ z m. elim (member-cases z x [] m) [ inl e ↦ ap key (sym e) | inr n ↦ absurd (true≢false (sym n)) ])
neighbours key x (y ∷ l) = elim (cases_eq (key x) (key y)) [
  | inr ne ↦ inr ([], x, y, l, refl, ne)
  | inl same ↦ elim (neighbours key y l) [
    | inl a ↦ inl (λ z m. elim (member-cases z x (y ∷ l) m) [ inl e ↦ ap key (sym e) | inr i ↦ a z i ∙ sym same ])
    | inr w ↦ inr (x ∷ w.0, w.1, w.2, w.3, ap (λ (v : List ℕ). x ∷ v) w.4, w.5)
  ]
]

-- a cyclic order in which nothing crosses falls into runs
pub runs-from_order : (key : ℕ → ℕ) (l : List ℕ) → is_distinct l ≡ true → NothingCrosses key l → (gs : List (ℕ × List ℕ)) × InRuns key l gs
runs-from_order key [] d n = ([], record { once = refl; groups = All-nil (IsGroup key); around = IsTurn-refl [] })
runs-from_order key (x ∷ l) d n = elim (neighbours key x l) [
  | inl a ↦ (
    (key x, x ∷ l) ∷ [],
    record {
      once = refl;
      groups = All-cons (IsGroup key) (key x, x ∷ l) [] (record { filled = omega arith; same_key = a }) (All-nil (IsGroup key));
      around = subst (IsTurn (x ∷ l)) (sym (append-nil (x ∷ l))) (IsTurn-refl (x ∷ l));
    },
  )
  | inr w ↦ at w.0 w.1 w.2 w.3 w.4 w.5
]
  where
    at : (u : List ℕ) (w z : ℕ) (v : List ℕ) → x ∷ l ≡ u ++ w ∷ z ∷ v → key w ≢ key z → (gs : List (ℕ × List ℕ)) × InRuns key (x ∷ l) gs
    at u w z v e ne = (
      grouped key m,
      record {
        once = grouped-once key [] m (IsTurn-distinct (x ∷ l) m turn d) (λ a b c f q. n a b c f (around-turn m (x ∷ l) (a ∷ b ∷ c ∷ f ∷ []) (IsTurn-sym (x ∷ l) m turn) q)) z (v ++ (u ++ w ∷ [])) refl ((z ∷ v) ++ u) w (sym (append_assoc (z ∷ v) u (w ∷ []))) (λ q. ne (sym q));
        groups = groups-grouped key m;
        around = subst (IsTurn (x ∷ l)) (sym (joined-grouped key m)) turn;
      },
    )
      where
        m : List ℕ
        m = (z ∷ v) ++ (u ++ w ∷ [])

        turn : IsTurn (x ∷ l) m
        turn = record { front = u ++ w ∷ []; back = z ∷ v; before = e ∙ sym (append_assoc u (w ∷ []) (z ∷ v)); after = refl }

-- one of two tests that differ in members that are not met
two-of-four : (a b c e z : ℕ) → b ≢ z → e ≢ z → is_member z (a ∷ b ∷ c ∷ e ∷ []) ≡ is_member z (a ∷ c ∷ [])
two-of-four a b c e z n m = rw (ne_eqb b z n, ne_eqb e z m) (drop (a == z) (c == z))
  where
    drop : (s t : Bool) → (s || (false || (t || (false || false)))) ≡ (s || (t || false))
    drop s t = grind (arith, cases_Bool s, cases_Bool t)

-- the same the other way round
two-turned : (a c z : ℕ) → is_member z (a ∷ c ∷ []) ≡ is_member z (c ∷ a ∷ [])
two-turned a c z = turn (a == z) (c == z)
  where
    turn : (s t : Bool) → (s || (t || false)) ≡ (t || (s || false))
    turn s t = grind (arith, cases_Bool s, cases_Bool t)

-- in a cyclic order that begins with a whole group nothing crosses with that group
group-uncrossed : (key : ℕ → ℕ) (k : ℕ) (g r : List ℕ) (a b c e : ℕ) → is_distinct (g ++ r) ≡ true → ((z : ℕ) → is_member z g ≡ true → key z ≡ k) → is_member a g ≡ true → is_member c g ≡ true
    → FollowsAround (g ++ r) (a ∷ b ∷ c ∷ e ∷ []) → key b ≢ k → key e ≢ k → ⊥
group-uncrossed key k g r a b c e d s ma mc f ob oe = elim (follows-either g a c (distinct-append_left g r d) ma mc a-c) [
  | inl h ↦
      let q : successor ((a ∷ c ∷ []) ++ filter p r) a ≡ c = successor-cut [] a (c ∷ filter p r) refl in
      ob (ap key (sym behind-a ∙ sym (next a (kept ∙ h)) ∙ q) ∙ s c mc)
  | inr h ↦
      let q : successor ((c ∷ a ∷ []) ++ filter p r) c ≡ a = successor-cut [] c (a ∷ filter p r) refl in
      oe (ap key (sym behind-c ∙ sym (next-turned c (kept ∙ filter-ext (λ z. is_member z (a ∷ c ∷ [])) (λ z. is_member z (c ∷ a ∷ [])) g (λ z m. two-turned a c z) ∙ h)) ∙ q) ∙ s a ma)
]
  where
    p : ℕ → Bool
    p z = is_member z (a ∷ b ∷ c ∷ e ∷ [])

    dk : is_distinct (a ∷ b ∷ c ∷ e ∷ []) ≡ true
    dk = around-distinct (g ++ r) (a ∷ b ∷ c ∷ e ∷ []) f d

    a-c : a ≢ c
    a-c q = both_ways (is_member a (b ∷ c ∷ e ∷ [])) (distinct-head a (b ∷ c ∷ e ∷ []) dk) (subst (λ (v : ℕ). is_member v (b ∷ c ∷ e ∷ []) ≡ true) (sym q) (member-tail c b (c ∷ e ∷ []) (member-head c (e ∷ []))))

    c-ab : is_member c (a ∷ b ∷ []) ≡ false
    c-ab = no_member-cons c a (b ∷ []) a-c (no_member-cons c b [] (λ q. ob (ap key q ∙ s c mc)) refl)

    behind-a : successor (a ∷ b ∷ c ∷ e ∷ []) a ≡ b
    behind-a = successor-cut [] a (b ∷ c ∷ e ∷ []) refl

    behind-c : successor (a ∷ b ∷ c ∷ e ∷ []) c ≡ e
    behind-c = successor-cut (a ∷ b ∷ []) c (e ∷ []) c-ab

    kept : filter p g ≡ filter (λ z. is_member z (a ∷ c ∷ [])) g
    kept = filter-ext p (λ z. is_member z (a ∷ c ∷ [])) g (λ z m. two-of-four a b c e z (λ q. ob (ap key q ∙ s z m)) (λ q. oe (ap key q ∙ s z m)))

    around : (x : ℕ) → successor (a ∷ b ∷ c ∷ e ∷ []) x ≡ successor (filter p (g ++ r)) x
    around x = IsTurn-successor (filter p (g ++ r)) (a ∷ b ∷ c ∷ e ∷ []) x f (distinct-filter p (g ++ r) d)

    next : (x : ℕ) → filter p g ≡ a ∷ c ∷ [] → successor ((a ∷ c ∷ []) ++ filter p r) x ≡ successor (a ∷ b ∷ c ∷ e ∷ []) x
    next x h = sym (around x ∙ ap (λ (v : List ℕ). successor v x) (filter-append p g r ∙ ap (λ (v : List ℕ). v ++ filter p r) h))

    next-turned : (x : ℕ) → filter p g ≡ c ∷ a ∷ [] → successor ((c ∷ a ∷ []) ++ filter p r) x ≡ successor (a ∷ b ∷ c ∷ e ∷ []) x
    next-turned x h = sym (around x ∙ ap (λ (v : List ℕ). successor v x) (filter-append p g r ∙ ap (λ (v : List ℕ). v ++ filter p r) h))

-- in a cyclic order that falls into runs nothing crosses
pub order-from_runs : (key : ℕ → ℕ) (l : List ℕ) (gs : List (ℕ × List ℕ)) → is_distinct l ≡ true → InRuns key l gs → NothingCrosses key l
order-from_runs key l gs d r a b c e f k ob oe = at (joined-member gs a (IsTurn-member l (joined gs) a r.around ∙ around-member l (a ∷ b ∷ c ∷ e ∷ []) a f (member-head a (b ∷ c ∷ e ∷ []))))
  where
    at : (us : List (ℕ × List ℕ)) × (g : ℕ × List ℕ) × (vs : List (ℕ × List ℕ)) × (gs ≡ us ++ g ∷ vs) × (is_member a g.1 ≡ true) → ⊥
    at w = group-uncrossed key (key a) g.1 (joined rest) a b c e dm (λ z m. head.same_key z m ∙ sym ka) w.4 mc fm ob oe
      where
        g : ℕ × List ℕ
        g = w.1

        rest : List (ℕ × List ℕ)
        rest = w.2 ++ w.0

        t : InRuns key l (g ∷ rest)
        t = runs-turn key l gs (g ∷ rest) r (record { front = w.0; back = g ∷ w.2; before = w.3; after = refl })

        head : IsGroup key g
        head = All-head (IsGroup key) g rest t.groups

        ka : key a ≡ g.0
        ka = head.same_key a w.4

        dm : is_distinct (joined (g ∷ rest)) ≡ true
        dm = IsTurn-distinct l (joined (g ∷ rest)) t.around d

        fm : FollowsAround (joined (g ∷ rest)) (a ∷ b ∷ c ∷ e ∷ [])
        fm = around-turn l (joined (g ∷ rest)) (a ∷ b ∷ c ∷ e ∷ []) t.around f

        mc : is_member c g.1 ≡ true
        mc = first-group key g rest c t.once t.groups (around-member (joined (g ∷ rest)) (a ∷ b ∷ c ∷ e ∷ []) c fm (member-tail c a (b ∷ c ∷ e ∷ []) (member-tail c b (c ∷ e ∷ []) (member-head c (e ∷ []))))) (sym k ∙ ka)
