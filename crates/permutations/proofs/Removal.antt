-- Members taken out of a cyclic order: successors in what is left, and rings of what is left of a permutation.
use Rattle.std.proofs.Common.{◌≡◌, ◌≢◌, ℕ, zero, suc, ◌<◌, inl, inr, Bool, true, false, not, ◌&&◌, ◌||◌, ◌==◌, leb, List, [], ◌∷◌, ◌++◌, filter, refl, sym, ap, ◌∙◌, subst, subst₂, arith, le_refl}
use Rattle.std.proofs.lemmas.Bool.{cases_Bool, cases_eq, cases_order, both_ways, eq-eqb, ne_eqb, not_from_false, not_from_true, le-leb, lt-leb}
use Rattle.permutations.specs.Members.{is_member, is_distinct}
use Rattle.permutations.specs.Cyclic.{first_or, successor, turned, IsTurn, FollowsAround}
use Rattle.permutations.specs.Permutation.{Permutes}
use Rattle.permutations.specs.Exchange.{unlink, taken_out}
use Rattle.permutations.specs.Ring.{ring}
use Rattle.permutations.proofs.Members.{member-head, member-tail, member-append_right, distinct-head, CutAt, cut_at}
use Rattle.permutations.proofs.Filter.{filter-yes, filter-no, filter-all, filter-ext, filter-filter, distinct-filter, filter-member, member-filter_parts}
use Rattle.permutations.proofs.Successor.{first_or-append, successor-cut, successor-absent, successor-member}
use Rattle.permutations.proofs.Turned.{turned-head, turned-turn, turned-distinct, turned-successor, turned-first, IsTurn-filter, IsTurn-successor}
use Rattle.permutations.proofs.CyclicOrder.{around-member, around-successor}
use Rattle.permutations.proofs.Unlinking.{unlink-alone, unlink-before, unlink-other, unlink-cases}
use Rattle.permutations.proofs.TakenOut.{taken-out-one, taken-out-none, taken-out-permutes}
use Rattle.permutations.proofs.Rings.{ring-distinct, ring-itself, ring-below, ring-successor, ring-from_list, ring-first, ring-turn}

-- the first of a cyclic order taken out
without-first : (d : ℕ) (r : List ℕ) (x : ℕ) → is_distinct (d ∷ r) ≡ true → successor r x ≡ unlink d (successor (d ∷ r)) x
without-first d r x h = elim (cases_eq x d) [
  | inl e ↦ ap (successor r) e ∙ successor-absent r d (distinct-head d r h) ∙ sym (unlink-alone d (successor (d ∷ r))) ∙ ap (unlink d (successor (d ∷ r))) (sym e)
  | inr n ↦ elim (cases_Bool (is_member x r)) [
    | inr o ↦
        let a : is_member x (d ∷ r) ≡ false = rw (ne_eqb d x (λ e. n (sym e))) o in
        successor-absent r x o ∙ sym (unlink-other d (successor (d ∷ r)) x n (λ e. n (sym (successor-absent (d ∷ r) x a) ∙ e)) ∙ successor-absent (d ∷ r) x a)
    | inl m ↦ at n (cut_at x r m)
  ]
]
  where
    at : x ≢ d → CutAt x r → successor r x ≡ unlink d (successor (d ∷ r)) x
    at n c = here c.back c.is
      where
        a : List ℕ
        a = c.front

        here : (b : List ℕ) → r ≡ a ++ x ∷ b → successor r x ≡ unlink d (successor (d ∷ r)) x
        here b e = ap (λ (z : List ℕ). successor z x) e ∙ successor-cut a x b c.first ∙ last b e ∙ ap (λ (z : List ℕ). unlink d (successor (d ∷ z)) x) (sym e)
          where
            behind : (b : List ℕ) → successor (d ∷ (a ++ x ∷ b)) x ≡ first_or d b
            behind b = successor-cut (d ∷ a) x b (rw (ne_eqb d x (λ q. n (sym q))) c.first)

            first : (b : List ℕ) → successor (d ∷ (a ++ x ∷ b)) d ≡ first_or x a
            first b = successor-cut [] d (a ++ x ∷ b) refl ∙ first_or-append d a (x ∷ b)

            last : (b : List ℕ) → r ≡ a ++ x ∷ b → first_or (first_or x a) b ≡ unlink d (successor (d ∷ (a ++ x ∷ b))) x
            last [] e = sym (unlink-before d (successor (d ∷ (a ++ x ∷ []))) x n (behind []) ∙ first [])
            last (z ∷ b) e = sym (unlink-other d (successor (d ∷ (a ++ x ∷ z ∷ b))) x n (λ q. both_ways (is_member d r) (distinct-head d r h)
                (ap (is_member d) e ∙ member-append_right d a (x ∷ z ∷ b) (member-tail d x (z ∷ b) (subst (λ (v : ℕ). is_member v (z ∷ b) ≡ true) (sym (behind (z ∷ b)) ∙ q) (member-head z b))))) ∙ behind (z ∷ b))

-- d taken out of a cyclic order: who was followed by d is followed by d's successor, d is alone, and all else stays
pub successor-without : (d : ℕ) (l : List ℕ) (x : ℕ) → is_distinct l ≡ true → successor (filter (λ z. not (z == d)) l) x ≡ unlink d (successor l) x
successor-without d l x h = elim (cases_Bool (is_member d l)) [ inl m ↦ member (turned-head l d m) | inr n ↦ absent n ]
  where
    p : ℕ → Bool
    p z = not (z == d)

    absent : is_member d l ≡ false → successor (filter p l) x ≡ unlink d (successor l) x
    absent n = ap (λ (z : List ℕ). successor z x) (filter-all p l (λ z m. not_from_false (z == d) (ne_eqb z d (λ e. both_ways (is_member d l) n (ap (λ (v : ℕ). is_member v l) (sym e) ∙ m))))) ∙ elim (unlink-cases d (successor l) x) [
      | inl w ↦ ap (successor l) w.0 ∙ successor-absent l d n ∙ sym w.1
      | inr o ↦ elim o [
        | inr w ↦ sym w.2
        | inl w ↦ elim (cases_Bool (is_member x l)) [
          | inl m ↦ absurd (both_ways (is_member d l) n (subst (λ (v : ℕ). is_member v l ≡ true) w.1 (successor-member l x m)))
          | inr k ↦ absurd (w.0 (sym (successor-absent l x k) ∙ w.1))
        ]
      ]
    ]

    member : (r : List ℕ) × (turned l d ≡ d ∷ r) → successor (filter p l) x ≡ unlink d (successor l) x
    member w =
        sym (IsTurn-successor (filter p l) w.0 x (subst (IsTurn (filter p l)) left (IsTurn-filter p l (turned l d) (turned-turn l d))) (distinct-filter p l h))
        ∙ without-first d w.0 x k
        ∙ ap (λ (f : ℕ → ℕ). unlink d f x) (λ i z. (ap (λ (v : List ℕ). successor v z) (sym w.1) ∙ turned-successor l d z h) i)
      where
        k : is_distinct (d ∷ w.0) ≡ true
        k = subst (λ (z : List ℕ). is_distinct z ≡ true) w.1 (turned-distinct l d h)

        left : filter p (turned l d) ≡ w.0
        left = ap (filter p) w.1 ∙ filter-no p d w.0 (not_from_true (d == d) (eq-eqb d d refl)) ∙ filter-all p w.0 (λ z m. not_from_false (z == d) (ne_eqb z d (λ e. both_ways (is_member d w.0) (distinct-head d w.0 k) (ap (λ (v : ℕ). is_member v w.0) (sym e) ∙ m))))

-- one number further, which passes the test
bound-kept : (keep : ℕ → Bool) (k z : ℕ) → keep k ≡ true → (keep z || leb (suc k) z) ≡ (keep z || leb k z)
bound-kept keep k z t = elim (cases_order z k) [
  | inl e ↦ let s : keep z ≡ true = ap keep e ∙ t in rw s refl
  | inr o ↦ elim o [
    | inl l ↦ rw (lt-leb (suc k) z (omega arith), lt-leb k z l) refl
    | inr l ↦ rw (le-leb (suc k) z (omega arith), le-leb k z (omega arith)) refl
  ]
]

-- one number further, which fails it
bound-gone : (keep : ℕ → Bool) (k z : ℕ) → keep k ≡ false → (keep z || leb (suc k) z) ≡ ((keep z || leb k z) && not (z == k))
bound-gone keep k z f = elim (cases_order z k) [
  | inl e ↦ rw (ap keep e ∙ f, eq-eqb z k e, lt-leb (suc k) z (omega arith)) (sides (leb k z))
  | inr o ↦ elim o [
    | inl l ↦ rw (lt-leb (suc k) z (omega arith), lt-leb k z l, ne_eqb z k (λ e. omega arith)) (middle (keep z))
    | inr l ↦ rw (le-leb (suc k) z (omega arith), le-leb k z (omega arith), ne_eqb z k (λ e. omega arith)) (ends (keep z))
  ]
]
  where
    sides : (a : Bool) → (false || false) ≡ ((false || a) && not true)
    sides a = grind (arith, cases_Bool a)

    middle : (a : Bool) → (a || false) ≡ ((a || false) && not false)
    middle a = grind (arith, cases_Bool a)

    ends : (a : Bool) → (a || true) ≡ ((a || true) && not false)
    ends a = grind (arith, cases_Bool a)

-- the members below k that fail the test taken out of a cyclic order, one after the other
pub successor-taken_out : (keep : ℕ → Bool) (k : ℕ) (l : List ℕ) (x : ℕ) → is_distinct l ≡ true → successor (filter (λ z. keep z || leb k z) l) x ≡ taken_out keep k (successor l) x
successor-taken_out keep zero l x h = ap (λ (z : List ℕ). successor z x) (filter-all (λ z. keep z || leb 0 z) l (λ z m. grind (arith, le-leb 0 z, cases_Bool (keep z))))
successor-taken_out keep (suc k) l x h = at (λ z. successor-taken_out keep k l z h)
  where
    p : ℕ → Bool
    p z = keep z || leb k z

    q : ℕ → Bool
    q z = keep z || leb (suc k) z

    at : ((z : ℕ) → successor (filter p l) z ≡ taken_out keep k (successor l) z) → successor (filter q l) x ≡ taken_out keep (suc k) (successor l) x
    at ih = elim (cases_Bool (keep k)) [
      | inl t ↦ ap (λ (z : List ℕ). successor z x) (filter-ext q p l (λ z m. bound-kept keep k z t)) ∙ ih x ∙ ap (λ (f : ℕ → ℕ). f x) (sym (taken-out-none keep k (successor l) t))
      | inr f ↦ ap (λ (z : List ℕ). successor z x) (filter-ext q (λ z. p z && not (z == k)) l (λ z m. bound-gone keep k z f) ∙ sym (filter-filter (λ z. not (z == k)) p l))
          ∙ successor-without k (filter p l) x (distinct-filter p l h)
          ∙ ap (λ (g : ℕ → ℕ). unlink k g x) (λ i z. ih z i)
          ∙ ap (λ (g : ℕ → ℕ). g x) (sym (taken-out-one keep k (successor l) f))
    ]

-- functions that agree on what the first carries into itself are alike there when numbers are taken out
pub taken_out-same : (keep : ℕ → Bool) (f h : ℕ → ℕ) (a : ℕ → Bool) → ((z : ℕ) → a z ≡ true → a (f z) ≡ true) → ((z : ℕ) → a z ≡ true → f z ≡ h z) → (k x : ℕ) → a x ≡ true → (taken_out keep k f x ≡ taken_out keep k h x) × (a (taken_out keep k f x) ≡ true)
taken_out-same keep f h a c e zero x t = (e x t, c x t)
taken_out-same keep f h a c e (suc k) x t = at (taken_out-same keep f h a c e k)
  where
    F : ℕ → ℕ
    F = taken_out keep k f

    H : ℕ → ℕ
    H = taken_out keep k h

    Goal : (ℕ → ℕ) → (ℕ → ℕ) → Type 0
    Goal u v = (u x ≡ v x) × (a (u x) ≡ true)

    out : ((z : ℕ) → a z ≡ true → (F z ≡ H z) × (a (F z) ≡ true)) → Goal (unlink k F) (unlink k H)
    out ih = elim (unlink-cases k F x) [
      | inl w ↦ (w.1 ∙ sym (unlink-alone k H) ∙ ap (unlink k H) (sym w.0), subst (λ (z : ℕ). a z ≡ true) (w.0 ∙ sym w.1) t)
      | inr o ↦ elim o [
        | inl w ↦
            let s : a k ≡ true = subst (λ (z : ℕ). a z ≡ true) w.1 (ih x t).1 in
            (w.2 ∙ (ih k s).0 ∙ sym (unlink-before k H x w.0 (sym (ih x t).0 ∙ w.1)), subst (λ (z : ℕ). a z ≡ true) (sym w.2) (ih k s).1)
        | inr w ↦ (w.2 ∙ (ih x t).0 ∙ sym (unlink-other k H x w.0 (λ q. w.1 ((ih x t).0 ∙ q))), subst (λ (z : ℕ). a z ≡ true) (sym w.2) (ih x t).1)
      ]
    ]

    at : ((z : ℕ) → a z ≡ true → (F z ≡ H z) × (a (F z) ≡ true)) → Goal (taken_out keep (suc k) f) (taken_out keep (suc k) h)
    at ih = elim (cases_Bool (keep k)) [
      | inl y ↦ subst₂ Goal (sym (taken-out-none keep k f y)) (sym (taken-out-none keep k h y)) (ih x t)
      | inr y ↦ subst₂ Goal (sym (taken-out-one keep k f y)) (sym (taken-out-one keep k h y)) (out ih)
    ]

-- the ring of what is left of a permutation is what is left of the ring
pub ring-taken_out : (n : ℕ) (keep : ℕ → Bool) (f g : ℕ → ℕ) → Permutes n f g → (x : ℕ) → x < n → keep x ≡ true → ring n (taken_out keep n f) x ≡ filter keep (ring n f x)
ring-taken_out n keep f g b x l t =
    ring-from_list n (taken_out keep n f) (taken_out keep n g) (taken-out-permutes n keep f g b n (le_refl n)) (filter keep r) (distinct-filter keep r d) next x l (filter-member keep r x (ring-itself n f g b x l) t)
    ∙ begin (ring-first n f g b x l)
  where
    r : List ℕ
    r = ring n f x

    d : is_distinct r ≡ true
    d = ring-distinct n f g b x l

    next : (z : ℕ) → is_member z (filter keep r) ≡ true → successor (filter keep r) z ≡ taken_out keep n f z
    next z m =
        ap (λ (v : List ℕ). successor v z) (filter-ext keep (λ v. keep v || leb n v) r (λ v q. rw (lt-leb n v (ring-below n f g b x l v q)) (middle (keep v))))
        ∙ successor-taken_out keep n r z d
        ∙ (taken_out-same keep (successor r) f (λ v. is_member v r) (λ v q. successor-member r v q) (λ v q. ring-successor n f g b x l v q) n z (member-filter_parts keep r z m).0).0
      where
        middle : (a : Bool) → a ≡ (a || false)
        middle a = grind (arith, cases_Bool a)

    begin : (s : List ℕ) × (r ≡ x ∷ s) → turned (filter keep r) x ≡ filter keep r
    begin w =
        let e : filter keep r ≡ x ∷ filter keep w.0 = ap (filter keep) w.1 ∙ filter-yes keep x w.0 t in
        ap (λ (v : List ℕ). turned v x) e ∙ turned-first x (filter keep w.0) ∙ sym e

-- where those of a ring that pass are the ones met in a given order, what is left of the permutation follows this order
pub taken_out-follows : (n : ℕ) (keep : ℕ → Bool) (f g : ℕ → ℕ) → Permutes n f g → (x : ℕ) → x < n → (k : List ℕ) → ((z : ℕ) → is_member z (ring n f x) ≡ true → keep z ≡ is_member z k) → FollowsAround (ring n f x) k
    → (z : ℕ) → is_member z k ≡ true → taken_out keep n f z ≡ successor k z
taken_out-follows n keep f g b x l k h a z m =
    sym (ring-successor n (taken_out keep n f) (taken_out keep n g) (taken-out-permutes n keep f g b n (le_refl n)) z zn z (ring-itself n (taken_out keep n f) (taken_out keep n g) (taken-out-permutes n keep f g b n (le_refl n)) z zn))
    ∙ ap (λ (r : List ℕ). successor r z) (ring-taken_out n keep f g b z zn (h z zr ∙ m))
    ∙ IsTurn-successor (filter keep (ring n f x)) (filter keep (ring n f z)) z (IsTurn-filter keep (ring n f x) (ring n f z) (subst (IsTurn (ring n f x)) (sym (ring-turn n f g b x z l zr)) (turned-turn (ring n f x) z))) (distinct-filter keep (ring n f x) (ring-distinct n f g b x l))
    ∙ around-successor keep (ring n f x) k z (ring-distinct n f g b x l) h a
  where
    zr : is_member z (ring n f x) ≡ true
    zr = around-member (ring n f x) k z a m

    zn : z < n
    zn = ring-below n f g b x l z zr
