-- Members met in a given order: along a list, and on the way round a cyclic order.
use Rattle.std.proofs.Common.{◌≡◌, ◌≢◌, ℕ, ◌⊎◌, inl, inr, Bool, true, false, ◌==◌, List, [], ◌∷◌, ◌++◌, filter, refl, sym, ap, ◌∙◌, subst, append_assoc}
use Rattle.std.proofs.lemmas.Bool.{both_ways, false_from_ne_true, ne_eqb}
use Rattle.std.proofs.lemmas.List.Elements.{filter-append}
use Rattle.permutations.specs.Members.{is_member, is_distinct}
use Rattle.permutations.specs.Cyclic.{successor, IsTurn, Follows, FollowsAround}
use Rattle.permutations.proofs.Members.{member-head, member-cases, no_member-head, no_member-tail, no_member-cons, member-append_right, member-append_cases, distinct-head, distinct-tail, distinct-append_right, distinct-append_apart, CutAt, cut_at}
use Rattle.permutations.proofs.Filter.{filter-yes, member-filter_parts, distinct-filter, filter-none, filter-ext}
use Rattle.permutations.proofs.Turned.{IsTurn-refl, IsTurn-sym, IsTurn-same, IsTurn-member, IsTurn-distinct, IsTurn-successor, IsTurn-filter}
use Rattle.permutations.proofs.CyclicSame.{IsTurn-trans}

-- who is met is a member
pub follows-member : (l k : List ℕ) (x : ℕ) → Follows l k → is_member x k ≡ true → is_member x l ≡ true
follows-member l k x f m = (member-filter_parts (λ z. is_member z k) l x (ap (is_member x) f ∙ m)).0

-- nobody is met in every list
pub follows-nil : (l : List ℕ) → Follows l []
follows-nil l = filter-none (λ z. false) l (λ x m. refl)

-- x is met, and behind it those of k
pub follows-cons : (a : List ℕ) (x : ℕ) (b k : List ℕ) → is_distinct (a ++ x ∷ b) ≡ true → Follows b k → Follows (a ++ x ∷ b) (x ∷ k)
follows-cons a x b k h f =
    filter-append p a (x ∷ b)
    ∙ ap (λ (z : List ℕ). z ++ filter p (x ∷ b)) (filter-none p a before)
    ∙ filter-yes p x b (member-head x k)
    ∙ ap (λ (z : List ℕ). x ∷ z) (filter-ext p (λ z. is_member z k) b behind ∙ f)
  where
    p : ℕ → Bool
    p z = is_member z (x ∷ k)

    before : (z : ℕ) → is_member z a ≡ true → p z ≡ false
    before z m =
        let o : is_member z (x ∷ b) ≡ false = distinct-append_apart a (x ∷ b) h z m in
        no_member-cons z x k (no_member-head z x b o) (false_from_ne_true (is_member z k) (λ t. both_ways (is_member z b) (no_member-tail z x b o) (follows-member b k z f t)))

    behind : (z : ℕ) → is_member z b ≡ true → p z ≡ is_member z k
    behind z m = rw (ne_eqb x z (λ e. both_ways (is_member z b) (subst (λ (v : ℕ). is_member v b ≡ false) e (distinct-head x b (distinct-append_right a (x ∷ b) h))) m)) refl

-- each member of a list without repetition is met
pub follows-one : (l : List ℕ) (x : ℕ) → is_distinct l ≡ true → is_member x l ≡ true → Follows l (x ∷ [])
follows-one l x h m = let c : CutAt x l = cut_at x l m in
    subst (λ (z : List ℕ). Follows z (x ∷ [])) (sym c.is) (follows-cons c.front x c.back [] (subst (λ (z : List ℕ). is_distinct z ≡ true) c.is h) (follows-nil c.back))

-- of two members one is met first
pub follows-either : (l : List ℕ) (x y : ℕ) → is_distinct l ≡ true → is_member x l ≡ true → is_member y l ≡ true → x ≢ y → Follows l (x ∷ y ∷ []) ⊎ Follows l (y ∷ x ∷ [])
follows-either l x y h m n d = at (cut_at x l m)
  where
    at : CutAt x l → Follows l (x ∷ y ∷ []) ⊎ Follows l (y ∷ x ∷ [])
    at c = elim (member-append_cases y c.front (x ∷ c.back) (sym (ap (is_member y) c.is) ∙ n)) [
      | inr b ↦ elim (member-cases y x c.back b) [
        | inl e ↦ absurd (d e)
        | inr t ↦ inl (subst (λ (z : List ℕ). Follows z (x ∷ y ∷ [])) (sym c.is) (follows-cons c.front x c.back (y ∷ []) k (follows-one c.back y (distinct-tail x c.back (distinct-append_right c.front (x ∷ c.back) k)) t)))
      ]
      | inl a ↦ inr (early (cut_at y c.front a))
    ]
      where
        k : is_distinct (c.front ++ x ∷ c.back) ≡ true
        k = subst (λ (z : List ℕ). is_distinct z ≡ true) c.is h

        early : CutAt y c.front → Follows l (y ∷ x ∷ [])
        early w = subst (λ (z : List ℕ). Follows z (y ∷ x ∷ [])) (sym e)
            (follows-cons w.front y (w.back ++ x ∷ c.back) (x ∷ []) (subst (λ (z : List ℕ). is_distinct z ≡ true) e h)
            (follows-one (w.back ++ x ∷ c.back) x
            (distinct-tail y (w.back ++ x ∷ c.back) (distinct-append_right w.front (y ∷ (w.back ++ x ∷ c.back)) (subst (λ (z : List ℕ). is_distinct z ≡ true) e h)))
            (member-append_right x w.back (x ∷ c.back) (member-head x c.back))))
          where
            e : l ≡ w.front ++ y ∷ (w.back ++ x ∷ c.back)
            e = c.is ∙ ap (λ (z : List ℕ). z ++ x ∷ c.back) w.is ∙ append_assoc w.front (y ∷ w.back) (x ∷ c.back)

-- what is met along a list is met on the way round
pub follows-around : (l k : List ℕ) → Follows l k → FollowsAround l k
follows-around l k f = IsTurn-same (filter (λ z. is_member z k) l) k k f (IsTurn-refl k)

-- who is met on the way round is a member
pub around-member : (l k : List ℕ) (x : ℕ) → FollowsAround l k → is_member x k ≡ true → is_member x l ≡ true
around-member l k x f m = (member-filter_parts (λ z. is_member z k) l x (sym (IsTurn-member (filter (λ z. is_member z k) l) k x f) ∙ m)).0

-- on the way round nobody is met twice
pub around-distinct : (l k : List ℕ) → FollowsAround l k → is_distinct l ≡ true → is_distinct k ≡ true
around-distinct l k f h = IsTurn-distinct (filter (λ z. is_member z k) l) k f (distinct-filter (λ z. is_member z k) l h)

-- it does not matter where the way begins
pub around-turn : (l m k : List ℕ) → IsTurn l m → FollowsAround l k → FollowsAround m k
around-turn l m k t f = IsTurn-trans (filter (λ z. is_member z k) m) (filter (λ z. is_member z k) l) k
    (IsTurn-sym (filter (λ z. is_member z k) l) (filter (λ z. is_member z k) m) (IsTurn-filter (λ z. is_member z k) l m t)) f

-- nor with whom those met are begun
pub around-turned : (l k m : List ℕ) → FollowsAround l k → IsTurn k m → FollowsAround l m
around-turned l k m f t = IsTurn-same (filter (λ z. is_member z m) l) (filter (λ z. is_member z k) l) m
    (filter-ext (λ z. is_member z m) (λ z. is_member z k) l (λ z _. IsTurn-member k m z t)) (IsTurn-trans (filter (λ z. is_member z k) l) k m f t)

-- where those that pass the test are the ones met, each is followed among them by the next
pub around-successor : (p : ℕ → Bool) (l k : List ℕ) (x : ℕ) → is_distinct l ≡ true → ((z : ℕ) → is_member z l ≡ true → p z ≡ is_member z k) → FollowsAround l k → successor (filter p l) x ≡ successor k x
around-successor p l k x h e f =
    ap (λ (m : List ℕ). successor m x) (filter-ext p (λ z. is_member z k) l e)
    ∙ sym (IsTurn-successor (filter (λ z. is_member z k) l) k x f (distinct-filter (λ z. is_member z k) l h))
