-- What is noted of a prefix stays right when an edge is laid after it, and it decides which edges may come.
use Rattle.std.proofs.Common.{◌≡◌, ◌≢◌, ℕ, zero, suc, ◌<◌, ◌≤◌, inl, inr, Bool, true, false, nat_lt, List, [], ◌∷◌, ◌++◌, length, map, get_or, Ok, Err, refl, sym, ap, ◌∙◌, subst, arith}
use Rattle.std.proofs.Math.ListN.{set}
use Rattle.std.specs.List.Sorted.{IsBinarySearchResult}
use Rattle.std.specs.Ordering.{nat_cmp}
use Rattle.std.proofs.lemmas.List.Sorted.{searched}
use Rattle.std.proofs.lemmas.Bool.{false_from_ne_true, cases_Bool, cases_eq, cases_lt, cases_order, ltb-true, lt-ltb}
use Rattle.std.proofs.lemmas.List.{map-append, get_or-set_same, get_or-set_other}
use Rattle.permutations.specs.Members.{is_member, is_distinct, place_of}
use Rattle.permutations.proofs.Members.{member-head, member-tail, member-append_left, member-append_right, no_member-append, no_member-cons}
use Rattle.permutations.proofs.Places.{place-below, place-holds, place-at, told-distinct}
use Rattle.choice_lists.specs.Order.{IsRising}
use Rattle.arrangements.specs.Options.{is_opened}
use Rattle.arrangements.specs.Tables.{VertexTables, rank_in, IsTables, AreTablesOf}

-- increasing edges are different
pub rising-distinct : (l : List ℕ) → IsRising nat_lt l → is_distinct l ≡ true
rising-distinct l r = told-distinct l (λ i j a b e. elim (cases_order i j) [
  | inl s ↦ s
  | inr o ↦ elim o [
    | inl i<j ↦ absurd (omega (arith, ltb-true (get_or l i 0) (get_or l j 0) (r i j 0 i<j b), e))
    | inr j<i ↦ absurd (omega (arith, ltb-true (get_or l j 0) (get_or l i 0) (r j i 0 j<i a), e))
  ]
])

-- the edge at a place is a member
pub member-at : (l : List ℕ) (p : ℕ) → p < length l → is_member (get_or l p 0) l ≡ true
member-at [] p h = absurd (omega arith)
member-at (x ∷ l) zero h = member-head x l
member-at (x ∷ l) (suc p) h = member-tail (get_or l p 0) x l (member-at l p (omega arith))

-- an edge put after a list is in it
pub laid-same : (x : ℕ) (l : List ℕ) → is_member x (l ++ x ∷ []) ≡ true
laid-same x l = member-append_right x l (x ∷ []) (member-head x [])

-- and of others nothing changes
pub laid-other : (x e : ℕ) (l : List ℕ) → e ≢ x → is_member x (l ++ e ∷ []) ≡ is_member x l
laid-other x e l n = elim (cases_Bool (is_member x l)) [
  | inl y ↦ member-append_left x l (e ∷ []) y ∙ sym y
  | inr o ↦ no_member-append x l (e ∷ []) o (no_member-cons x e [] n refl) ∙ sym o
]

-- a block of which an edge is put after the list is opened
pub opened-same : (block : ℕ → ℕ) (b e : ℕ) (l : List ℕ) → block e ≡ b → is_opened block b (l ++ e ∷ []) ≡ true
opened-same block b e l h = ap (is_member b) (map-append block l (e ∷ [])) ∙ subst (λ (c : ℕ). is_member b (map block l ++ c ∷ []) ≡ true) (sym h) (laid-same b (map block l))

-- and other blocks as before
pub opened-other : (block : ℕ → ℕ) (b e : ℕ) (l : List ℕ) → block e ≢ b → is_opened block b (l ++ e ∷ []) ≡ is_opened block b l
opened-other block b e l h = ap (is_member b) (map-append block l (e ∷ [])) ∙ laid-other b (block e) (map block l) h

-- the rank of the edge at a place
pub rank-at : (t : VertexTables) (p : ℕ) → IsTables t → p < length t.edges → rank_in t (get_or t.edges p 0) ≡ get_or t.ranks p 0
rank-at t p i h = ap (λ (q : ℕ). get_or t.ranks q 0) (place-at t.edges p (rising-distinct t.edges i.rise) h)

-- edges with one rank are of one block, and the other way round
same-numbers : (a b c d : ℕ) → nat_lt a b ≡ nat_lt c d → nat_lt b a ≡ nat_lt d c → a ≡ b → c ≡ d
same-numbers a b c d h k e = elim (cases_order c d) [
  | inl s ↦ s
  | inr o ↦ elim o [
    | inl l ↦ absurd (let q : a < b = ltb-true a b (h ∙ lt-ltb c d l) in omega arith)
    | inr l ↦ absurd (let q : b < a = ltb-true b a (k ∙ lt-ltb d c l) in omega arith)
  ]
]

pub block-from_rank : (t : VertexTables) (block : ℕ → ℕ) (order : ℕ → List ℕ) (p q : ℕ) → IsTables t → AreTablesOf t block order → p < length t.edges → q < length t.edges
    → get_or t.ranks p 0 ≡ get_or t.ranks q 0 → block (get_or t.edges p 0) ≡ block (get_or t.edges q 0)
block-from_rank t block order p q i a hp hq e =
    same-numbers (rank_in t (get_or t.edges p 0)) (rank_in t (get_or t.edges q 0)) (block (get_or t.edges p 0)) (block (get_or t.edges q 0))
    (a.ranks (get_or t.edges p 0) (get_or t.edges q 0) (member-at t.edges p hp) (member-at t.edges q hq)) (a.ranks (get_or t.edges q 0) (get_or t.edges p 0) (member-at t.edges q hq) (member-at t.edges p hp))
    (rank-at t p i hp ∙ e ∙ sym (rank-at t q i hq))

pub rank-from_block : (t : VertexTables) (block : ℕ → ℕ) (order : ℕ → List ℕ) (p q : ℕ) → IsTables t → AreTablesOf t block order → p < length t.edges → q < length t.edges
    → block (get_or t.edges p 0) ≡ block (get_or t.edges q 0) → get_or t.ranks p 0 ≡ get_or t.ranks q 0
rank-from_block t block order p q i a hp hq e =
    sym (rank-at t p i hp)
    ∙ same-numbers (block (get_or t.edges p 0)) (block (get_or t.edges q 0)) (rank_in t (get_or t.edges p 0)) (rank_in t (get_or t.edges q 0))
    (sym (a.ranks (get_or t.edges p 0) (get_or t.edges q 0) (member-at t.edges p hp) (member-at t.edges q hq))) (sym (a.ranks (get_or t.edges q 0) (get_or t.edges p 0) (member-at t.edges q hq) (member-at t.edges p hp))) e
    ∙ rank-at t q i hq

-- the marks of edges
pub used-laid : (edges laid : List ℕ) (used : List Bool) (e : ℕ) → is_distinct edges ≡ true → length used ≡ length edges → is_member e edges ≡ true
    → ((p : ℕ) → p < length edges → get_or used p false ≡ is_member (get_or edges p 0) laid)
    → (p : ℕ) → p < length edges → get_or (set used (place_of edges e) true) p false ≡ is_member (get_or edges p 0) (laid ++ e ∷ [])
used-laid edges laid used e d n m old p h = elim (cases_eq p (place_of edges e)) [
  | inl s ↦ (let w : place_of edges e < length used = omega (arith, place-below edges e m) in
      ap (λ (q : ℕ). get_or (set used (place_of edges e) true) q false) s ∙ get_or-set_same used (place_of edges e) true false w)
      ∙ sym (subst (λ (x : ℕ). is_member x (laid ++ e ∷ []) ≡ true) (sym (ap (λ (q : ℕ). get_or edges q 0) s ∙ place-holds edges e m)) (laid-same e laid))
  | inr o ↦ get_or-set_other used (place_of edges e) p true false o ∙ old p h
      ∙ sym (laid-other (get_or edges p 0) e laid (λ s. o (sym (place-at edges p d h) ∙ ap (place_of edges) (sym s))))
]

-- the marks of blocks
pub opened-laid : (t : VertexTables) (block : ℕ → ℕ) (order : ℕ → List ℕ) (laid : List ℕ) (opened : List Bool) (e : ℕ) → IsTables t → AreTablesOf t block order
    → length opened ≡ length t.edges → is_member e t.edges ≡ true
    → ((p : ℕ) → p < length t.edges → get_or opened (get_or t.ranks p 0) false ≡ is_opened block (block (get_or t.edges p 0)) laid)
    → (p : ℕ) → p < length t.edges → get_or (set opened (get_or t.ranks (place_of t.edges e) 0) true) (get_or t.ranks p 0) false ≡ is_opened block (block (get_or t.edges p 0)) (laid ++ e ∷ [])
opened-laid t block order laid opened e i a n m old p h =
    let below : place_of t.edges e < length t.edges = place-below t.edges e m in
    let here : get_or t.edges (place_of t.edges e) 0 ≡ e = place-holds t.edges e m in
    elim (cases_eq (get_or t.ranks p 0) (get_or t.ranks (place_of t.edges e) 0)) [
      | inl s ↦ (let w : get_or t.ranks (place_of t.edges e) 0 < length opened = omega (arith, i.rank_below (place_of t.edges e) below) in
          ap (λ (q : ℕ). get_or (set opened (get_or t.ranks (place_of t.edges e) 0) true) q false) s ∙ get_or-set_same opened (get_or t.ranks (place_of t.edges e) 0) true false w)
          ∙ sym (opened-same block (block (get_or t.edges p 0)) e laid (ap block (sym here) ∙ sym (block-from_rank t block order p (place_of t.edges e) i a h below s)))
      | inr o ↦ get_or-set_other opened (get_or t.ranks (place_of t.edges e) 0) (get_or t.ranks p 0) true false o ∙ old p h
          ∙ sym (opened-other block (block (get_or t.edges p 0)) e laid (λ s. o (rank-from_block t block order p (place_of t.edges e) i a h below (sym s ∙ ap block (sym here)))))
    ]

-- along increasing edges none is less than one before it
pub rising-weak : (l : List ℕ) → IsRising nat_lt l → (i j : ℕ) → i ≤ j → j < length l → get_or l i 0 ≤ get_or l j 0
rising-weak l r i j le lt = elim (cases_eq i j) [
  | inl e ↦ omega (arith, ap (λ (k : ℕ). get_or l k 0) e)
  | inr n ↦ omega (arith, ltb-true (get_or l i 0) (get_or l j 0) (r i j 0 (omega arith) lt))
]

-- where a binary search found the edge
pub place-is : (l : List ℕ) (x i : ℕ) → IsRising nat_lt l → IsBinarySearchResult (λ y. nat_cmp y x) l (Ok i) → (is_member x l ≡ true) × (i ≡ place_of l x)
place-is l x i r s =
    let w = searched l x (Ok i) s (rising-weak l r) in
    (subst (λ (y : ℕ). is_member y l ≡ true) w.1 (member-at l i w.0), sym (place-at l i (rising-distinct l r) w.0) ∙ ap (place_of l) w.1)

-- where it did not
pub place-missed : (l : List ℕ) (x i : ℕ) → IsRising nat_lt l → IsBinarySearchResult (λ y. nat_cmp y x) l (Err i) → is_member x l ≡ false
place-missed l x i r s = false_from_ne_true (is_member x l) (λ m.
    let w = searched l x (Err i) s (rising-weak l r) in
    let b : place_of l x < length l = place-below l x m in
    let h : get_or l (place_of l x) 0 ≡ x = place-holds l x m in
    elim (cases_lt (place_of l x) i) [
      | inl before ↦ omega (arith, w.1 (place_of l x) before, h)
      | inr after ↦ omega (arith, w.2 (place_of l x) after b, h)
    ])

-- within a list of truth values it does not matter what is read outside
pub same-default : (l : List Bool) (p : ℕ) (a b : Bool) → p < length l → get_or l p a ≡ get_or l p b
same-default [] p a b h = absurd (omega arith)
same-default (x ∷ l) zero a b h = refl
same-default (x ∷ l) (suc p) a b h = same-default l p a b (omega arith)
