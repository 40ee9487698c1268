-- Lists in which numbers are written: what each turn of a loop keeps.
use Rattle.std.proofs.Common.{◌≡◌, ◌≢◌, ◌⊎◌, inl, inr, ℕ, zero, suc, ◌+◌, ◌-◌, ◌<◌, ◌≤◌, true, false, List, [], ◌∷◌, ◌++◌, length, take, drop, slice_index, slice_set, arith, refl, sym, ap, ◌∙◌, subst}
use Rattle.std.proofs.Math.ListN.{length-set}
use Rattle.std.proofs.lemmas.Bool.{both_ways, cases_eq, cases_Bool, false_from_ne_true, false≢true}
use Rattle.std.proofs.lemmas.List.{get_or-set_same, get_or-set_other, take_more, take_all}
use Rattle.permutations.specs.Members.{is_member}
use Rattle.permutations.proofs.Members.{member-head, member-tail, member-cases, member-append_left, member-append_right, member-append_cases}
use Rattle.shift_method.specs.Shapes.{total, covered}
use Rattle.shift_method.specs.Peeled.{IsInnerHead}
use Rattle.shift_method.proofs.Orders.{same-inner}

pub same-at : (l : List ℕ) (i x : ℕ) → i < length l → slice_index (slice_set l i x) i ≡ x
same-at l i x h = get_or-set_same l i x 0 h

pub other-at : (l : List ℕ) (i x j : ℕ) → j ≢ i → slice_index (slice_set l i x) j ≡ slice_index l j
other-at l i x j h = get_or-set_other l i j x 0 h

-- the member at a place
pub place-member : (l : List ℕ) (i : ℕ) → i < length l → is_member (slice_index l i) l ≡ true
place-member [] i h = absurd (omega (arith, h))
place-member (y ∷ l) zero h = member-head y l
place-member (y ∷ l) (suc i) h = member-tail (slice_index l i) y l (place-member l i (omega (arith, h)))

-- one number is one more, and then another one
pub one-more-fits : (l : List ℕ) (i j b : ℕ) → i < length l → slice_index l i + 2 < b → slice_index l j + 2 < b → slice_index (slice_set l i (slice_index l i + 1)) j + 1 < b
one-more-fits l i j b h p q = elim (cases_eq j i) [
  | inl e ↦ omega (arith, p, ap (λ (k : ℕ). slice_index (slice_set l i (slice_index l i + 1)) k) e, same-at l i (slice_index l i + 1) h)
  | inr n ↦ omega (arith, q, other-at l i (slice_index l i + 1) j n)
]

-- the offsets of the first i of these vertices are written, and `sum` is that of their gaps
pub record IsCovering (g : ℕ → ℕ) (vertices first : List ℕ) (i sum : ℕ) (offset : List ℕ) : Type 0 where
  pub sums : sum + total g (drop i vertices) ≡ total g vertices
  pub rest : covered g sum (drop i vertices) offset ≡ covered g 0 vertices first
  pub size : length offset ≡ length first

-- the first i of the members have the number `base` and their offset
pub record AreWritten (members first offset : List ℕ) (base i : ℕ) (x : List ℕ) : Type 0 where
  pub size : length x ≡ length first
  pub done : (v : ℕ) → is_member v (take i members) ≡ true → slice_index x v ≡ base + slice_index offset v
  pub same : (v : ℕ) → is_member v (take i members) ≡ false → slice_index x v ≡ slice_index first v

pub written-step : (members first offset : List ℕ) (base i : ℕ) (x : List ℕ) → i < length members → slice_index members i < length x → AreWritten members first offset base i x
    → AreWritten members first offset base (i + 1) (slice_set x (slice_index members i) (base + slice_index offset (slice_index members i)))
written-step members first offset base i x l b w = record { size = length-set x u (base + slice_index offset u) ∙ w.size; done = done; same = same }
  where
    u : ℕ
    u = slice_index members i

    more : take (i + 1) members ≡ take i members ++ u ∷ []
    more = take_more members i 0 l

    done : (v : ℕ) → is_member v (take (i + 1) members) ≡ true → slice_index (slice_set x u (base + slice_index offset u)) v ≡ base + slice_index offset v
    done v j = elim (cases_eq v u) [
      | inl e ↦ ap (slice_index (slice_set x u (base + slice_index offset u))) e ∙ same-at x u (base + slice_index offset u) b ∙ ap (λ (k : ℕ). base + slice_index offset k) (sym e)
      | inr n ↦ elim (member-append_cases v (take i members) (u ∷ []) (sym (ap (is_member v) more) ∙ j)) [
        | inl k ↦ other-at x u (base + slice_index offset u) v n ∙ w.done v k
        | inr k ↦ elim (member-cases v u [] k) [ inl e ↦ absurd (n (sym e)) | inr z ↦ absurd (false≢true z) ]
      ]
    ]

    same : (v : ℕ) → is_member v (take (i + 1) members) ≡ false → slice_index (slice_set x u (base + slice_index offset u)) v ≡ slice_index first v
    same v j = other-at x u (base + slice_index offset u) v (λ e. absent (subst (λ (k : ℕ). is_member k (take i members ++ u ∷ []) ≡ true) (sym e) (member-append_right u (take i members) (u ∷ []) (member-head u []))))
        ∙ w.same v (not_yet (cases_Bool (is_member v (take i members))))
      where
        absent : is_member v (take i members ++ u ∷ []) ≡ true → ⊥
        absent k = both_ways (is_member v (take i members ++ u ∷ [])) (sym (ap (is_member v) more) ∙ j) k

        not_yet : (is_member v (take i members) ≡ true) ⊎ (is_member v (take i members) ≡ false) → is_member v (take i members) ≡ false
        not_yet (inl k) = absurd (absent (member-append_left v (take i members) (u ∷ []) k))
        not_yet (inr k) = k

-- the members of a list but the first and the last
last-split : (b : ℕ) (l : List ℕ) → (r : ℕ) × (b ∷ l ≡ take (length l) (b ∷ l) ++ r ∷ [])
last-split b [] = (b, refl)
last-split b (c ∷ l) = ((last-split c l).0, ap (λ (k : List ℕ). b ∷ k) (last-split c l).1)

between-ends : (heads : List ℕ) → 2 ≤ length heads → (left : ℕ) × (right : ℕ) × (heads ≡ left ∷ (take (length heads - 1 - 1) (drop 1 heads) ++ right ∷ []))
between-ends [] h = absurd (omega (arith, h))
between-ends (a ∷ []) h = absurd (omega (arith, h))
between-ends (a ∷ b ∷ l) h = (a, (last-split b l).0, ap (λ (k : List ℕ). a ∷ k) (last-split b l).1 ∙ ap (λ (i : ℕ). a ∷ (take i (b ∷ l) ++ (last-split b l).0 ∷ [])) few)
  where
    few : length l ≡ length (a ∷ b ∷ l) - 1 - 1
    few = omega arith

pub between-inner : (heads : List ℕ) → 2 ≤ length heads → (v : ℕ) → is_member v (take (length heads - 1 - 1) (drop 1 heads)) ≡ true → IsInnerHead heads v
between-inner heads h v i = let e = between-ends heads h in record { left = e.0; inner = take (length heads - 1 - 1) (drop 1 heads); right = e.1; cut = e.2; among = i }

pub inner-between : (heads : List ℕ) → 2 ≤ length heads → (v : ℕ) → IsInnerHead heads v → is_member v (take (length heads - 1 - 1) (drop 1 heads)) ≡ true
inner-between heads h v j = let e = between-ends heads h in
    subst (λ (k : List ℕ). is_member v k ≡ true) (same-inner j.left e.0 j.inner (take (length heads - 1 - 1) (drop 1 heads)) j.right e.1 (sym j.cut ∙ e.2)) j.among

-- the inner head at a place
pub inner-at : (h heads : List ℕ) → h ≡ heads → 2 ≤ length heads → (i : ℕ) → i < length (take (length h - 1 - 1) (drop 1 h)) → IsInnerHead heads (slice_index (take (length h - 1 - 1) (drop 1 h)) i)
inner-at h heads e b i l = subst (λ (k : List ℕ). IsInnerHead k (slice_index (take (length h - 1 - 1) (drop 1 h)) i)) e
    (between-inner h (subst (λ (k : List ℕ). 2 ≤ length k) (sym e) b) (slice_index (take (length h - 1 - 1) (drop 1 h)) i) (place-member (take (length h - 1 - 1) (drop 1 h)) i l))

take-member : (i : ℕ) (l : List ℕ) (v : ℕ) → is_member v (take i l) ≡ true → is_member v l ≡ true
take-member zero l v j = absurd (false≢true j)
take-member (suc i) [] v j = absurd (false≢true j)
take-member (suc i) (a ∷ l) v j = elim (member-cases v a (take i l) j) [ inl e ↦ subst (λ (k : ℕ). is_member k (a ∷ l) ≡ true) e (member-head a l) | inr k ↦ member-tail v a l (take-member i l v k) ]

-- once all inner heads are written
pub written-inner : (h heads first offset : List ℕ) (base i : ℕ) (x : List ℕ) → h ≡ heads → 2 ≤ length heads → length (take (length h - 1 - 1) (drop 1 h)) ≤ i
    → AreWritten (take (length h - 1 - 1) (drop 1 h)) first offset base i x → (v : ℕ) → IsInnerHead heads v → slice_index x v ≡ base + slice_index offset v
written-inner h heads first offset base i x e b l w v j = w.done v (subst (λ (k : List ℕ). is_member v k ≡ true) (sym (take_all i (take (length h - 1 - 1) (drop 1 h)) l))
    (inner-between h (subst (λ (k : List ℕ). 2 ≤ length k) (sym e) b) v (subst (λ (k : List ℕ). IsInnerHead k v) (sym e) j)))

pub written-others : (h heads first offset : List ℕ) (base i : ℕ) (x : List ℕ) → h ≡ heads → 2 ≤ length heads
    → AreWritten (take (length h - 1 - 1) (drop 1 h)) first offset base i x → (v : ℕ) → (IsInnerHead heads v → ⊥) → slice_index x v ≡ slice_index first v
written-others h heads first offset base i x e b w v n = w.same v (false_from_ne_true (is_member v (take i (take (length h - 1 - 1) (drop 1 h)))) (λ j. n (subst (λ (k : List ℕ). IsInnerHead k v) e
    (between-inner h (subst (λ (k : List ℕ). 2 ≤ length k) (sym e) b) v (take-member i (take (length h - 1 - 1) (drop 1 h)) v j)))))

-- all members but the first
pub tail-is : (l : List ℕ) → take (length l - 1) (drop 1 l) ≡ drop 1 l
tail-is [] = refl
tail-is (a ∷ l) = take_all (length (a ∷ l) - 1) l (omega arith)

-- each gap is within the sum
pub total-member : (g : ℕ → ℕ) (l : List ℕ) (v : ℕ) → is_member v l ≡ true → g v ≤ total g l
total-member g [] v i = absurd (false≢true i)
total-member g (a ∷ l) v i = elim (member-cases v a l i) [ inl e ↦ omega (arith, ap g e) | inr j ↦ omega (arith, total-member g l v j) ]
