-- The children of a component: where the links of its pieces lead, but for the parent; and places in lists without repetition.
use Rattle.std.proofs.Common.{◌≡◌, ◌≢◌, ℕ, zero, suc, ◌+◌, ◌<◌, inl, inr, Bool, true, cond, List, [], ◌∷◌, ◌++◌, length, take, refl, sym, ap, ◌∙◌, arith}
use Rattle.std.proofs.lemmas.Bool.{cases_eq, true≢false, false_from_ne_true, eq-eqb, ne_eqb}
use Rattle.std.proofs.lemmas.List.{append-nil, append_assoc, take_more}
use Rattle.permutations.specs.Members.{is_member, is_distinct}
use Rattle.permutations.proofs.Members.{member-head, member-cases, member-append_left, member-append_right, member-append_cases, distinct-append}
use Rattle.pair_split.specs.declared.components.What.{What}
use Rattle.pair_split.specs.declared.components.What.TheVariants.{Real, Link}
use Rattle.pair_split.specs.declared.components.Piece.{Piece}
use Rattle.spqr_tree.specs.Keys.{piece_at, child, children}

-- the link to the parent leads to no child, another link leads to one
child-skip : (p j : ℕ) → j ≡ p → child p (Link j) ≡ []
child-skip p j e = ap (λ (b : Bool). cond b [] (j ∷ [])) (eq-eqb j p e)

child-take : (p j : ℕ) → j ≢ p → child p (Link j) ≡ j ∷ []
child-take p j n = ap (λ (b : Bool). cond b [] (j ∷ [])) (ne_eqb j p n)

child-is : (p : ℕ) (w : What) (x : ℕ) → is_member x (child p w) ≡ true → (w ≡ Link x) × (x ≢ p)
child-is p (Real e) x h = absurd (true≢false (sym h))
child-is p (Link j) x h = elim (cases_eq j p) [
  | inl e ↦ absurd (true≢false (sym h ∙ ap (is_member x) (child-skip p j e)))
  | inr n ↦ elim (member-cases x j [] (sym (ap (is_member x) (child-take p j n)) ∙ h)) [
    | inl e ↦ (ap Link e, λ q. n (e ∙ q))
    | inr k ↦ absurd (true≢false (sym k))
  ]
]

child-distinct : (p : ℕ) (w : What) → is_distinct (child p w) ≡ true
child-distinct p (Real e) = refl
child-distinct p (Link j) = elim (cases_eq j p) [
  | inl e ↦ ap is_distinct (child-skip p j e)
  | inr n ↦ ap is_distinct (child-take p j n)
]

-- a child is where a link leads that is not to the parent
pub children-is : (p : ℕ) (pieces : List Piece) (x : ℕ) → is_member x (children p pieces) ≡ true → (i : ℕ) × (i < length pieces) × ((piece_at pieces i).what ≡ Link x) × (x ≢ p)
children-is p [] x h = absurd (true≢false (sym h))
children-is p (piece ∷ pieces) x h = elim (member-append_cases x (child p piece.what) (children p pieces) h) [
  | inl a ↦ let w = child-is p piece.what x a in (0, omega arith, w.0, w.1)
  | inr a ↦ let w = children-is p pieces x a in (suc w.0, omega (arith, w.1), w.2, w.3)
]

pub children-has : (p : ℕ) (pieces : List Piece) (i j : ℕ) → i < length pieces → (piece_at pieces i).what ≡ Link j → j ≢ p → is_member j (children p pieces) ≡ true
children-has p [] i j l e n = absurd (omega (arith, l))
children-has p (piece ∷ pieces) zero j l e n = member-append_left j (child p piece.what) (children p pieces)
    (ap (is_member j) (ap (child p) e ∙ child-take p j n) ∙ member-head j [])
children-has p (piece ∷ pieces) (suc i) j l e n = member-append_right j (child p piece.what) (children p pieces) (children-has p pieces i j (omega (arith, l)) e n)

-- where no two pieces are links to one component, no child comes twice
pub children-distinct : (p : ℕ) (pieces : List Piece)
    → ((i h j : ℕ) → i < length pieces → h < length pieces → (piece_at pieces i).what ≡ Link j → (piece_at pieces h).what ≡ Link j → i ≡ h) → is_distinct (children p pieces) ≡ true
children-distinct p [] once = refl
children-distinct p (piece ∷ pieces) once = distinct-append (child p piece.what) (children p pieces) (child-distinct p piece.what)
    (children-distinct p pieces (λ i h j a b u v. omega (arith, once (suc i) (suc h) j (omega (arith, a)) (omega (arith, b)) u v)))
    (λ z m. false_from_ne_true (is_member z (children p pieces)) (λ k.
    let w = children-is p pieces z k in
    omega (arith, once 0 (suc w.0) z (omega arith) (omega (arith, w.1)) (child-is p piece.what z m).0 w.2)))

-- the children by more pieces
children-append : (p : ℕ) (pieces others : List Piece) → children p (pieces ++ others) ≡ children p pieces ++ children p others
children-append p [] others = refl
children-append p (piece ∷ pieces) others = ap (λ (c : List ℕ). child p piece.what ++ c) (children-append p pieces others) ∙ sym (append_assoc (child p piece.what) (children p pieces) (children p others))

pub children-more : (p : ℕ) (pieces : List Piece) (i : ℕ) → i < length pieces → children p (take (i + 1) pieces) ≡ children p (take i pieces) ++ child p (piece_at pieces i).what
children-more p pieces i l = ap (children p) (take_more pieces i (piece_at [] 0) l) ∙ children-append p (take i pieces) (piece_at pieces i ∷ []) ∙ ap (λ (c : List ℕ). children p (take i pieces) ++ c) (append-nil (child p (piece_at pieces i).what))
