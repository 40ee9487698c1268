-- Entries of the stack by their places, and the current family.
use Rattle.std.proofs.Common.{◌≡◌, ◌≢◌, ℕ, zero, suc, ◌+◌, ◌<◌, ◌⊎◌, inl, inr, true, List, [], ◌∷◌, ◌++◌, length, map, take, slice_index_or, refl, sym, ap, ◌∙◌, subst, arith, Contains}
use Rattle.std.proofs.lemmas.Bool.{both_ways, false_from_ne_true}
use Rattle.std.proofs.lemmas.List.{length-map, length-append, get_or-map, get_or_append_left, get_or_push, get_or-take, map-append}
use Rattle.std.proofs.lemmas.List.Elements.{All-tail, Contains-append_left, Contains-append_right, Contains-append_cases, Contains-get_or}
use Rattle.pair_split.specs.Family.{Entry, has_end, names, touches, IsFamily}
use Rattle.pair_split.proofs.Elements.{contains-map, map-contains}
use Rattle.permutations.specs.Members.{is_member, is_distinct}
use Rattle.permutations.proofs.Members.{distinct-tail, distinct-append_apart}
use Rattle.pair_split.proofs.Names.{same-place, name-member, member-name}
use Rattle.pair_split.proofs.SplitOff.{family-cons}
use Rattle.pair_split.proofs.Replaced.{end-cases, first-end, second-end}
use Rattle.pair_split.proofs.Sides.{touches-from}
use Rattle.split_comp.specs.declared.items.StackEntry.{StackEntry}
use Rattle.split_comp.specs.Stack.{no_item, item, entry, family}

-- an end of an entry is its upper or its lower one
pub item-ends : (z : ℕ) (x : StackEntry) → has_end z (entry x) ≡ true → (z ≡ x.up) ⊎ (z ≡ x.low)
item-ends z x h = end-cases z (entry x) h

pub up-end : (z : ℕ) (x : StackEntry) → z ≡ x.up → has_end z (entry x) ≡ true
up-end z x e = first-end z (entry x) e

pub low-end : (z : ℕ) (x : StackEntry) → z ≡ x.low → has_end z (entry x) ≡ true
low-end z x e = second-end z (entry x) e

-- an entry of the stack is one of the family
pub stack-contains : (stack : List StackEntry) (rest : List Entry) (i : ℕ) → i < length stack → Contains (family stack rest) (entry (item stack i))
stack-contains stack rest i l = Contains-append_left (map entry stack) rest (entry (item stack i)) (contains-map entry (item stack i) stack (Contains-get_or stack i no_item l))

-- so is one of the rest
pub rest-contains : (stack : List StackEntry) (rest : List Entry) (x : Entry) → Contains rest x → Contains (family stack rest) x
rest-contains stack rest x c = Contains-append_right (map entry stack) rest x c

-- an element has a place
pub place-of : {X : Type 0} (xs : List X) (x d : X) → Contains xs x → (i : ℕ) × (i < length xs) × (slice_index_or xs i d ≡ x)
place-of xs x d c = (c.0, c.1, grind (arith, c.2, default xs c.0 d x c.1))
  where
    default : {X : Type 0} (ys : List X) (i : ℕ) (a b : X) → i < length ys → slice_index_or ys i a ≡ slice_index_or ys i b
    default [] i a b l = absurd (omega (arith, l))
    default (y ∷ ys) zero a b l = refl
    default (y ∷ ys) (suc i) a b l = default ys i a b (omega (arith, l))

-- each entry of the family is one of the two
pub family-cases : (stack : List StackEntry) (rest : List Entry) (x : Entry) → Contains (family stack rest) x → ((i : ℕ) × (i < length stack) × (x ≡ entry (item stack i))) ⊎ Contains rest x
family-cases stack rest x c = elim (Contains-append_cases (map entry stack) rest x c) [
  | inl s ↦
      let m = map-contains entry x stack s in
      let p = place-of stack m.0 no_item m.1 in
      inl (p.0, p.1, sym (ap entry p.2 ∙ m.2))
  | inr r ↦ inr r
]

-- places of the stack with one name are the same
pub same-item : (stack : List StackEntry) (rest : List Entry) → IsFamily (family stack rest) → (i j : ℕ) → i < length stack → j < length stack → (item stack i).name ≡ (item stack j).name → i ≡ j
same-item stack rest f i j l k e = same-place (family stack rest) f.names_once i j (entry no_item) (omega (arith, l, size)) (omega (arith, k, size)) (ap (λ (x : Entry). x.name) (at i l) ∙ (e ∙ sym (ap (λ (x : Entry). x.name) (at j k))))
  where
    size : length (family stack rest) ≡ length stack + length rest
    size = length-append (map entry stack) rest ∙ ap (λ (n : ℕ). n + length rest) (length-map stack entry)

    at : (n : ℕ) → n < length stack → slice_index_or (family stack rest) n (entry no_item) ≡ entry (item stack n)
    at n m = get_or_append_left (map entry stack) rest (entry no_item) n (omega (arith, m, length-map stack entry)) ∙ get_or-map entry stack n no_item (entry no_item) m

-- an entry of the stack is none of the rest
pub not-rest : (stack : List StackEntry) (rest : List Entry) → IsFamily (family stack rest) → (i : ℕ) (x : Entry) → i < length stack → Contains rest x → (item stack i).name ≢ x.name
not-rest stack rest f i x l c e = both_ways (is_member x.name (names rest)) (distinct-append_apart (names (map entry stack)) (names rest) (subst (λ (n : List ℕ). is_distinct n ≡ true) (map-append (λ (y : Entry). y.name) (map entry stack) rest) f.names_once) x.name
    (subst (λ (n : ℕ). is_member n (names (map entry stack)) ≡ true) e (name-member (map entry stack) (entry (item stack i)) (contains-map entry (item stack i) stack (Contains-get_or stack i no_item l))))) (name-member rest x c)

-- the rest touches z where one of its entries does
pub rest-touches : (rest : List Entry) (x : Entry) (z : ℕ) → Contains rest x → has_end z x ≡ true → touches rest z ≡ true
rest-touches rest x z c h = touches-from rest z x c h

-- what is in front
pub item-front : (stack : List StackEntry) (x : StackEntry) (i : ℕ) → i < length stack → item (stack ++ x ∷ []) i ≡ item stack i
item-front stack x i l = get_or_append_left stack (x ∷ []) no_item i l

-- what is pushed
pub item-last : (stack : List StackEntry) (x : StackEntry) (i : ℕ) → i ≡ length stack → item (stack ++ x ∷ []) i ≡ x
item-last stack x i e = get_or_push stack x no_item i (sym e)

pub length-push : (stack : List StackEntry) (x : StackEntry) → length (stack ++ x ∷ []) ≡ length stack + 1
length-push stack x = length-append stack (x ∷ [])

-- what is in a front part
pub item-take : (stack : List StackEntry) (k i : ℕ) → i < k → item (take k stack) i ≡ item stack i
item-take stack k i l = get_or-take k stack i no_item l

-- the rest of a family is one
pub rest-family : (stack : List StackEntry) (rest : List Entry) → IsFamily (family stack rest) → IsFamily rest
rest-family [] rest f = f
rest-family (x ∷ stack) rest f = rest-family stack rest (record {
  names_once = distinct-tail x.name (names (family stack rest)) f.names_once;
  no_loops = All-tail (λ (e : Entry). e.first ≢ e.second) (entry x) (family stack rest) f.no_loops;
})

-- a stack of entries under different names, none of which is one of the rest, makes a family with it
pub family-from : (stack : List StackEntry) (rest : List Entry) → IsFamily rest → ((i j : ℕ) → i < j → j < length stack → (item stack i).name ≢ (item stack j).name)
    → ((i : ℕ) (x : Entry) → i < length stack → Contains rest x → (item stack i).name ≢ x.name) → ((i : ℕ) → i < length stack → (item stack i).up ≢ (item stack i).low) → IsFamily (family stack rest)
family-from [] rest f apart off loops = f
family-from (x ∷ stack) rest f apart off loops = family-cons (entry x) (family stack rest) (loops 0 (omega arith))
    (false_from_ne_true (is_member x.name (names (family stack rest))) (λ m. let w = member-name (family stack rest) x.name m in elim (family-cases stack rest w.0 w.1) [
      | inl p ↦ apart 0 (suc p.0) (omega arith) (omega (arith, p.1)) (sym w.2 ∙ ap (λ (e : Entry). e.name) p.2)
      | inr c ↦ off 0 w.0 (omega arith) c (sym w.2)
    ]))
    (family-from stack rest f (λ i j l m. apart (suc i) (suc j) (omega (arith, l)) (omega (arith, m))) (λ i y l c. off (suc i) y (omega (arith, l)) c) (λ i l. loops (suc i) (omega (arith, l))))
