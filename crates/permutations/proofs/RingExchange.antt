-- Exchanging what follows two numbers: two rings become one, and one ring becomes two.
use Rattle.std.proofs.Common.{◌≡◌, ◌≢◌, ℕ, ◌<◌, inl, inr, true, false, List, [], ◌∷◌, ◌++◌, refl, sym, ap, ◌∙◌, subst, append_assoc}
use Rattle.std.proofs.lemmas.Bool.{both_ways, true≢false, false_from_ne_true}
use Rattle.permutations.specs.Members.{is_member, is_distinct}
use Rattle.permutations.specs.Cyclic.{first_or, successor, turned}
use Rattle.permutations.specs.Permutation.{Permutes, same_orbit}
use Rattle.permutations.specs.Exchange.{exchange, swapped}
use Rattle.permutations.specs.Ring.{ring}
use Rattle.permutations.specs.Relation.{IsEquivalence}
use Rattle.permutations.proofs.Members.{member-head, member-cases, member-append_left, member-append_right, member-append_cases, distinct-append, distinct-append_left, distinct-append_right, distinct-append_apart, distinct-append_comm, CutAt, cut_at}
use Rattle.permutations.proofs.Successor.{first_or-append, successor-cut, successor-swap}
use Rattle.permutations.proofs.Turned.{turned-first, turned-cut}
use Rattle.permutations.proofs.Chains.{apart-front, successor-last}
use Rattle.permutations.proofs.Permutations.{exchange-left, exchange-other, exchange-sides, exchange-permutes}
use Rattle.permutations.proofs.Orbits.{orbit-equivalence}
use Rattle.permutations.proofs.Rings.{ring-distinct, ring-member, ring-itself, ring-below, ring-successor, ring-first, ring-from_list, ring-turn}

-- before the last member of a front, the successor does not depend on what comes behind
successor-inner : (a : List ℕ) (p : ℕ) (s t : List ℕ) (z : ℕ) → is_distinct (a ++ p ∷ s) ≡ true → is_member z a ≡ true → successor (a ++ p ∷ s) z ≡ successor (a ++ p ∷ t) z
successor-inner a p s t z h m = at (cut_at z a m)
  where
    at : CutAt z a → successor (a ++ p ∷ s) z ≡ successor (a ++ p ∷ t) z
    at c = there s ∙ same c.back ∙ sym (there t)
      where
        there : (s : List ℕ) → successor (a ++ p ∷ s) z ≡ first_or (first_or z c.front) (c.back ++ p ∷ s)
        there s = ap (λ (v : List ℕ). successor (v ++ p ∷ s) z) c.is ∙ ap (λ (v : List ℕ). successor v z) (append_assoc c.front (z ∷ c.back) (p ∷ s)) ∙ successor-cut c.front z (c.back ++ p ∷ s) c.first

        same : (v : List ℕ) → first_or (first_or z c.front) (v ++ p ∷ s) ≡ first_or (first_or z c.front) (v ++ p ∷ t)
        same [] = refl
        same (y ∷ v) = refl

-- behind the last member of a front comes the first of the back
successor-end : (a : List ℕ) (p : ℕ) (s : List ℕ) (y : ℕ) → is_distinct (a ++ p ∷ (y ∷ s)) ≡ true → successor (a ++ p ∷ (y ∷ s)) p ≡ y
successor-end a p s y h = successor-cut a p (y ∷ s) (apart-front a p (y ∷ s) h)

-- a list with a last member is not empty: it begins with its first
begins : (c : List ℕ) (q : ℕ) → (s : List ℕ) × (c ++ q ∷ [] ≡ first_or q c ∷ s)
begins [] q = ([], refl)
begins (y ∷ c) q = (c ++ q ∷ [], refl)

-- two lists, one after the other, follow the exchange where each follows f: on the members of the first
joined-front : (f : ℕ → ℕ) (a c : List ℕ) (p q z : ℕ) → is_distinct ((a ++ p ∷ []) ++ (c ++ q ∷ [])) ≡ true
    → ((v : ℕ) → is_member v (a ++ p ∷ []) ≡ true → successor (a ++ p ∷ []) v ≡ f v)
    → ((v : ℕ) → is_member v (c ++ q ∷ []) ≡ true → successor (c ++ q ∷ []) v ≡ f v)
    → is_member z (a ++ p ∷ []) ≡ true → successor ((a ++ p ∷ []) ++ (c ++ q ∷ [])) z ≡ exchange p q f z
joined-front f a c p q z h s t m = ap (λ (v : List ℕ). successor v z) cut ∙ elim (member-append_cases z a (p ∷ []) m) [
  | inl i ↦ successor-inner a p (c ++ q ∷ []) [] z (subst (λ (v : List ℕ). is_distinct v ≡ true) cut h) i ∙ s z m ∙ sym (exchange-other p q f z (not-last i) (other m))
  | inr i ↦ elim (member-cases z p [] i) [ inr n ↦ absurd (true≢false (sym n)) | inl e ↦ subst (λ (v : ℕ). successor (a ++ p ∷ (c ++ q ∷ [])) v ≡ exchange p q f v) e last ]
]
  where
    cut : (a ++ p ∷ []) ++ (c ++ q ∷ []) ≡ a ++ p ∷ (c ++ q ∷ [])
    cut = append_assoc a (p ∷ []) (c ++ q ∷ [])

    da : is_distinct (a ++ p ∷ []) ≡ true
    da = distinct-append_left (a ++ p ∷ []) (c ++ q ∷ []) h

    dc : is_distinct (c ++ q ∷ []) ≡ true
    dc = distinct-append_right (a ++ p ∷ []) (c ++ q ∷ []) h

    not-last : is_member z a ≡ true → z ≢ p
    not-last i e = both_ways (is_member p a) (apart-front a p [] da) (subst (λ (v : ℕ). is_member v a ≡ true) e i)

    other : is_member z (a ++ p ∷ []) ≡ true → z ≢ q
    other i e = both_ways (is_member z (c ++ q ∷ [])) (distinct-append_apart (a ++ p ∷ []) (c ++ q ∷ []) h z i) (subst (λ (v : ℕ). is_member v (c ++ q ∷ []) ≡ true) (sym e) (member-append_right q c (q ∷ []) (member-head q [])))

    last : successor (a ++ p ∷ (c ++ q ∷ [])) p ≡ exchange p q f p
    last = let w : (s : List ℕ) × (c ++ q ∷ [] ≡ first_or q c ∷ s) = begins c q in
        ap (λ (v : List ℕ). successor (a ++ p ∷ v) p) w.1
        ∙ successor-end a p w.0 (first_or q c) (subst (λ (v : List ℕ). is_distinct (a ++ p ∷ v) ≡ true) w.1 (subst (λ (v : List ℕ). is_distinct v ≡ true) cut h))
        ∙ sym (successor-last c q dc) ∙ t q (member-append_right q c (q ∷ []) (member-head q [])) ∙ sym (exchange-left p q f)

-- one list cut in two: the first part follows the exchange where the whole follows f
parted-front : (f : ℕ → ℕ) (a c : List ℕ) (p q z : ℕ) → is_distinct ((a ++ p ∷ []) ++ (c ++ q ∷ [])) ≡ true
    → ((v : ℕ) → is_member v ((a ++ p ∷ []) ++ (c ++ q ∷ [])) ≡ true → successor ((a ++ p ∷ []) ++ (c ++ q ∷ [])) v ≡ f v)
    → is_member z (a ++ p ∷ []) ≡ true → successor (a ++ p ∷ []) z ≡ exchange p q f z
parted-front f a c p q z h s m = elim (member-append_cases z a (p ∷ []) m) [
  | inl i ↦ successor-inner a p [] (c ++ q ∷ []) z da i ∙ ap (λ (v : List ℕ). successor v z) (sym cut) ∙ s z (member-append_left z (a ++ p ∷ []) (c ++ q ∷ []) m) ∙ sym (exchange-other p q f z (not-last i) other)
  | inr i ↦ elim (member-cases z p [] i) [ inr n ↦ absurd (true≢false (sym n)) | inl e ↦ subst (λ (v : ℕ). successor (a ++ p ∷ []) v ≡ exchange p q f v) e last ]
]
  where
    cut : (a ++ p ∷ []) ++ (c ++ q ∷ []) ≡ a ++ p ∷ (c ++ q ∷ [])
    cut = append_assoc a (p ∷ []) (c ++ q ∷ [])

    ending : (a ++ p ∷ []) ++ (c ++ q ∷ []) ≡ ((a ++ p ∷ []) ++ c) ++ q ∷ []
    ending = sym (append_assoc (a ++ p ∷ []) c (q ∷ []))

    da : is_distinct (a ++ p ∷ []) ≡ true
    da = distinct-append_left (a ++ p ∷ []) (c ++ q ∷ []) h

    not-last : is_member z a ≡ true → z ≢ p
    not-last i e = both_ways (is_member p a) (apart-front a p [] da) (subst (λ (v : ℕ). is_member v a ≡ true) e i)

    other : z ≢ q
    other e = both_ways (is_member z (c ++ q ∷ [])) (distinct-append_apart (a ++ p ∷ []) (c ++ q ∷ []) h z m) (subst (λ (v : ℕ). is_member v (c ++ q ∷ []) ≡ true) (sym e) (member-append_right q c (q ∷ []) (member-head q [])))

    first : first_or q ((a ++ p ∷ []) ++ c) ≡ first_or p a
    first = first_or-append q (a ++ p ∷ []) c ∙ first_or-append (first_or q c) a (p ∷ [])

    last : successor (a ++ p ∷ []) p ≡ exchange p q f p
    last = successor-last a p da ∙ sym first
        ∙ sym (successor-last ((a ++ p ∷ []) ++ c) q (subst (λ (v : List ℕ). is_distinct v ≡ true) ending h))
        ∙ ap (λ (v : List ℕ). successor v q) (sym ending)
        ∙ s q (member-append_right q (a ++ p ∷ []) (c ++ q ∷ []) (member-append_right q c (q ∷ []) (member-head q [])))
        ∙ sym (exchange-left p q f)

-- two rings, one that ends in p and one that ends in q: after the exchange they are one ring, one after the other
pub ring-joined : (n : ℕ) (f g : ℕ → ℕ) → Permutes n f g → (x y p q : ℕ) (a c : List ℕ) → x < n → y < n → same_orbit n f p q ≡ false
    → ring n f x ≡ a ++ p ∷ [] → ring n f y ≡ c ++ q ∷ [] → ring n (exchange p q f) x ≡ (a ++ p ∷ []) ++ (c ++ q ∷ [])
ring-joined n f g b x y p q a c k l o i j =
    ring-from_list n (exchange p q f) (λ z. swapped p q (g z)) (exchange-permutes n p q f g (ring-below n f g b x k p pin) (ring-below n f g b y l q qin) b) whole d next x k (member-append_left x A B (sym (ap (is_member x) i) ∙ ring-itself n f g b x k))
    ∙ (let w : (r : List ℕ) × (ring n f x ≡ x ∷ r) = ring-first n f g b x k in
    let e : whole ≡ x ∷ (w.0 ++ B) = ap (λ (v : List ℕ). v ++ B) (sym i ∙ w.1) in
    ap (λ (v : List ℕ). turned v x) e ∙ turned-first x (w.0 ++ B) ∙ sym e)
  where
    A : List ℕ
    A = a ++ p ∷ []

    B : List ℕ
    B = c ++ q ∷ []

    whole : List ℕ
    whole = A ++ B

    pin : is_member p (ring n f x) ≡ true
    pin = ap (is_member p) i ∙ member-append_right p a (p ∷ []) (member-head p [])

    qin : is_member q (ring n f y) ≡ true
    qin = ap (is_member q) j ∙ member-append_right q c (q ∷ []) (member-head q [])

    e : IsEquivalence (same_orbit n f)
    e = orbit-equivalence n f

    to : (z : ℕ) → is_member z A ≡ true → same_orbit n f p z ≡ true
    to z m = e.transitive p x z (e.symmetric x p (sym (ring-member n f g b x k p) ∙ pin)) (sym (ring-member n f g b x k z) ∙ ap (is_member z) i ∙ m)

    from : (z : ℕ) → is_member z B ≡ true → same_orbit n f z q ≡ true
    from z m = e.transitive z y q (e.symmetric y z (sym (ring-member n f g b y l z) ∙ ap (is_member z) j ∙ m)) (sym (ring-member n f g b y l q) ∙ qin)

    d : is_distinct whole ≡ true
    d = distinct-append A B
        (subst (λ (v : List ℕ). is_distinct v ≡ true) i (ring-distinct n f g b x k))
        (subst (λ (v : List ℕ). is_distinct v ≡ true) j (ring-distinct n f g b y l))
        (λ z m. false_from_ne_true (is_member z B) (λ t. both_ways (same_orbit n f p q) o (e.transitive p z q (to z m) (from z t))))

    onA : (v : ℕ) → is_member v A ≡ true → successor A v ≡ f v
    onA v m = ap (λ (r : List ℕ). successor r v) (sym i) ∙ ring-successor n f g b x k v (ap (is_member v) i ∙ m)

    onB : (v : ℕ) → is_member v B ≡ true → successor B v ≡ f v
    onB v m = ap (λ (r : List ℕ). successor r v) (sym j) ∙ ring-successor n f g b y l v (ap (is_member v) j ∙ m)

    next : (z : ℕ) → is_member z whole ≡ true → successor whole z ≡ exchange p q f z
    next z m = elim (member-append_cases z A B m) [
      | inl t ↦ joined-front f a c p q z d onA onB t
      | inr t ↦ successor-swap A B z d ∙ joined-front f c a q p z (distinct-append_comm A B d) onB onA t ∙ ap (λ (h : ℕ → ℕ). h z) (exchange-sides q p f)
    ]

-- a ring of two parts, one that ends in p and one that ends in q: after the exchange the first part is a ring
pub ring-parted : (n : ℕ) (f g : ℕ → ℕ) → Permutes n f g → (x p q : ℕ) (a c : List ℕ) → x < n → ring n f x ≡ (a ++ p ∷ []) ++ (c ++ q ∷ []) → ring n (exchange p q f) x ≡ a ++ p ∷ []
ring-parted n f g b x p q a c k i =
    ring-from_list n (exchange p q f) (λ z. swapped p q (g z)) (exchange-permutes n p q f g (ring-below n f g b x k p (ap (is_member p) i ∙ pin)) (ring-below n f g b x k q (ap (is_member q) i ∙ qin)) b) A
    (distinct-append_left A B d) (λ z m. parted-front f a c p q z d on m) x k (subst (λ (v : ℕ). is_member v A ≡ true) (sym first) begin)
    ∙ ap (turned A) first ∙ start a
  where
    A : List ℕ
    A = a ++ p ∷ []

    B : List ℕ
    B = c ++ q ∷ []

    pin : is_member p (A ++ B) ≡ true
    pin = member-append_left p A B (member-append_right p a (p ∷ []) (member-head p []))

    qin : is_member q (A ++ B) ≡ true
    qin = member-append_right q A B (member-append_right q c (q ∷ []) (member-head q []))

    d : is_distinct (A ++ B) ≡ true
    d = subst (λ (v : List ℕ). is_distinct v ≡ true) i (ring-distinct n f g b x k)

    on : (v : ℕ) → is_member v (A ++ B) ≡ true → successor (A ++ B) v ≡ f v
    on v m = ap (λ (r : List ℕ). successor r v) (sym i) ∙ ring-successor n f g b x k v (ap (is_member v) i ∙ m)

    first : x ≡ first_or p a
    first = let w : (r : List ℕ) × (ring n f x ≡ x ∷ r) = ring-first n f g b x k in
        sym (ap (first_or p) (sym i ∙ w.1)) ∙ first_or-append p A B ∙ first_or-append (first_or p B) a (p ∷ [])

    begin : is_member (first_or p a) A ≡ true
    begin = let w : (s : List ℕ) × (a ++ p ∷ [] ≡ first_or p a ∷ s) = begins a p in ap (is_member (first_or p a)) w.1 ∙ member-head (first_or p a) w.0

    start : (a : List ℕ) → turned (a ++ p ∷ []) (first_or p a) ≡ a ++ p ∷ []
    start [] = turned-first p []
    start (y ∷ a) = turned-first y (a ++ p ∷ [])

-- and so is the second part
pub ring-parted_second : (n : ℕ) (f g : ℕ → ℕ) → Permutes n f g → (x p q : ℕ) (a c : List ℕ) → x < n → ring n f x ≡ (a ++ p ∷ []) ++ (c ++ q ∷ []) → ring n (exchange p q f) (first_or q c) ≡ c ++ q ∷ []
ring-parted_second n f g b x p q a c k i =
    ap (λ (h : ℕ → ℕ). ring n h y) (exchange-sides p q f)
    ∙ ring-parted n f g b y q p c a (ring-below n f g b x k y m) turn
  where
    A : List ℕ
    A = a ++ p ∷ []

    B : List ℕ
    B = c ++ q ∷ []

    y : ℕ
    y = first_or q c

    w : (s : List ℕ) × (B ≡ y ∷ s)
    w = begins c q

    m : is_member y (ring n f x) ≡ true
    m = ap (is_member y) i ∙ member-append_right y A B (ap (is_member y) w.1 ∙ member-head y w.0)

    turn : ring n f y ≡ B ++ A
    turn = ring-turn n f g b x y k m ∙ ap (λ (v : List ℕ). turned v y) (i ∙ ap (λ (v : List ℕ). A ++ v) w.1)
        ∙ turned-cut A y w.0 (apart-front A y w.0 (subst (λ (v : List ℕ). is_distinct v ≡ true) (i ∙ ap (λ (v : List ℕ). A ++ v) w.1) (ring-distinct n f g b x k)))
        ∙ ap (λ (v : List ℕ). v ++ A) (sym w.1)
