-- Lists that branch by their first member: places, members, order and length.
use Rattle.std.proofs.Common.{◌≡◌, ℕ, zero, suc, ◌+◌, ◌*◌, inl, inr, Bool, true, false, List, [], ◌∷◌, length, map, refl, sym, ◌∙◌, subst, arith, length-append}
use Rattle.std.proofs.lemmas.List.{length-map}
use Rattle.choice_lists.specs.Order.{lexicographic}
use Rattle.choice_lists.specs.Arrangements.{branched}
use Rattle.choice_lists.proofs.Places.{At, at-place, at-left, at-right, at-append, at-map, at-map_back, Above, Ascends, ascends-append, ascends-map}
use Rattle.choice_lists.proofs.Orders.{lex-less, lex-same}

-- all branches have m rests
abbrev pub AllLong : {X : Type 0} → List (X × List (List X)) → ℕ → Type 0
AllLong {X} bs m = (q : ℕ) (b : X × List (List X)) → At bs q b → length b.1 ≡ m

-- as many lists as branches times rests
pub branched-length : {X : Type 0} (bs : List (X × List (List X))) (m : ℕ) → AllLong bs m → length (branched bs) ≡ length bs * m
branched-length [] m h = omega arith
branched-length (b ∷ bs) m h = omega (
  arith,
  length-append (map (λ v. b.0 ∷ v) b.1) (branched bs),
  length-map b.1 (λ v. b.0 ∷ v),
  h 0 b refl,
  branched-length bs m (λ q c a. h (suc q) c a),
)

-- the r-th rest of the q-th branch
pub branched-at : {X : Type 0} (bs : List (X × List (List X))) (m q r : ℕ) (b : X × List (List X)) (v : List X) → AllLong bs m
    → At bs q b → At b.1 r v → At (branched bs) (q * m + r) (b.0 ∷ v)
branched-at [] m q r b v h a k = absurd a
branched-at (c ∷ bs) m zero r b v h a k =
    at-place (branched (c ∷ bs)) r (0 * m + r) (b.0 ∷ v) (omega arith)
    (at-left (map (λ v. c.0 ∷ v) c.1) (branched bs) r (b.0 ∷ v)
    (subst (λ z. At (map (λ v. c.0 ∷ v) c.1) r (z.0 ∷ v)) a (at-map (λ v. c.0 ∷ v) c.1 r v (subst (λ z. At z.1 r v) (sym a) k))))
branched-at (c ∷ bs) m (suc q) r b v h a k =
    let e : length (map (λ v. c.0 ∷ v) c.1) + (q * m + r) ≡ suc q * m + r = omega (arith, length-map c.1 (λ v. c.0 ∷ v), h 0 c refl) in
    at-place (branched (c ∷ bs)) (length (map (λ v. c.0 ∷ v) c.1) + (q * m + r)) (suc q * m + r) (b.0 ∷ v) e
    (at-right (map (λ v. c.0 ∷ v) c.1) (branched bs) (q * m + r) (b.0 ∷ v) (branched-at bs m q r b v (λ i d w. h (suc i) d w) a k))

-- what stands in the list, by its branch and rest
pub record Branch {X : Type 0} (bs : List (X × List (List X))) (w : List X) : Type 0 where
  pub q : ℕ
  pub b : X × List (List X)
  pub r : ℕ
  pub v : List X
  pub branch : At bs q b
  pub rest : At b.1 r v
  pub is : b.0 ∷ v ≡ w

-- each list is a rest of a branch
pub branched-back : {X : Type 0} (bs : List (X × List (List X))) (k : ℕ) (w : List X) → At (branched bs) k w → Branch bs w
branched-back [] k w a = absurd a
branched-back (c ∷ bs) k w a = elim (at-append (map (λ v. c.0 ∷ v) c.1) (branched bs) k w a) [
  | inl l ↦ let m = at-map_back (λ v. c.0 ∷ v) c.1 k w l in record { q = 0; b = c; r = k; v = m.0; branch = refl; rest = m.1; is = m.2 }
  | inr l ↦ let m = branched-back bs l.0 w l.2 in record { q = suc m.q; b = m.b; r = m.r; v = m.v; branch = m.branch; rest = m.rest; is = m.is }
]

-- where first members rise, and rests in each branch, all lists rise
pub branched-ascends : {X : Type 0} (before : X → X → Bool) (bs : List (X × List (List X))) → ((x : X) → before x x ≡ false)
    → Ascends (λ b c. before b.0 c.0) bs → ((q : ℕ) (b : X × List (List X)) → At bs q b → Ascends (lexicographic before) b.1) → Ascends (lexicographic before) (branched bs)
branched-ascends before [] n a h = tt
branched-ascends {X} before (b ∷ bs) n a h =
    ascends-append (lexicographic before) (map (λ v. b.0 ∷ v) b.1) (branched bs)
    (ascends-map (lexicographic before) (lexicographic before) (λ v. b.0 ∷ v) b.1 (h 0 b refl) (λ u v e. lex-same before b.0 u v (n b.0) ∙ e))
    (branched-ascends before bs n a.1 (λ q c k. h (suc q) c k))
    above
  where
    above : (i : ℕ) (x : List X) → At (map (λ v. b.0 ∷ v) b.1) i x → Above (lexicographic before) x (branched bs)
    above i x k j y l =
        let m = at-map_back (λ v. b.0 ∷ v) b.1 i x k in
        let s = branched-back bs j y l in
        subst (λ z. lexicographic before z y ≡ true) m.2 (subst (λ z. lexicographic before (b.0 ∷ m.0) z ≡ true) s.is (lex-less before b.0 s.b.0 m.0 s.v (a.0 s.q s.b s.branch)))
