-- Choices changed in their place.
use Rattle.std.proofs.Common.{◌≡◌, ℕ, zero, suc, ◌+◌, ◌<◌, Bool, true, not, ◌||◌, ◌==◌, cond, nat_lt, List, [], ◌∷◌, ◌++◌, length, map, reverse, take, drop, slice_index_or, slice_set, Some, None, refl, sym, ap, ◌∙◌, subst, inl, inr, arith, IsPermutation}
use Rattle.std.specs.List.{position, position_or_len}
use Rattle.std.proofs.lemmas.Bool.{cases_Bool, cases_eq, true≢false, eqb-true, lt-ltb, cond-true}
use Rattle.std.proofs.lemmas.Option.{cond_some, none-some}
use Rattle.std.proofs.lemmas.List.{length-append, length-map, length-reverse}
use Rattle.std.proofs.lemmas.List.Sorted.{length_permutation}
use Rattle.permutations.specs.Cyclic.{first_or, from_least, turned}
use Rattle.permutations.specs.Members.{is_member, is_distinct}
use Rattle.permutations.proofs.Arrangements.{permutation-member, member-at}
use Rattle.permutations.proofs.Members.{member-head, member-tail, member-cases}
use Rattle.permutations.proofs.NormalForm.{least-same, from_least-first_or, from_least-turn}
use Rattle.permutations.proofs.Places.{first-at}
use Rattle.permutations.proofs.Relation.{same-tests}
use Rattle.permutations.proofs.Turned.{turned-cut, IsTurn-length}
use Rattle.choice_lists.specs.Choices.{mirror_choice}
use Rattle.pair_split.specs.declared.components.Item.{Item}
use Rattle.skeletons.specs.Items.{item_key}
use Rattle.skeletons.proofs.NodeItems.{no_item}
use Rattle.skeleton_choices.proofs.Listed.{mirror-same}
use Rattle.skel_embed.specs.Exchanges.{other_of, exchanged, turned_choice, StandsAt}
use Rattle.skel_embed.proofs.ExchangeSteps.{other-first, other-second, other-none}

-- one key more is exchanged
pub exchange-more : (a b : ℕ) (old now : List ℕ) (i key : ℕ) → i < length old → now ≡ exchanged a b (take i old) ++ drop i old → key ≡ slice_index_or now i 0 → slice_set now i (other_of a b key) ≡ exchanged a b (take (i + 1) old) ++ drop (i + 1) old
exchange-more a b old now i key h e k =
    let s : i + 1 ≡ suc i = omega arith in
    ap (λ z. slice_set now i (other_of a b z)) k ∙ ap (λ (z : List ℕ). slice_set z i (other_of a b (slice_index_or z i 0))) e ∙ go old i h ∙ ap (λ z. exchanged a b (take z old) ++ drop z old) (sym s)
  where
    go : (l : List ℕ) (i : ℕ) → i < length l → slice_set (exchanged a b (take i l) ++ drop i l) i (other_of a b (slice_index_or (exchanged a b (take i l) ++ drop i l) i 0)) ≡ exchanged a b (take (suc i) l) ++ drop (suc i) l
    go [] i h = absurd (omega (arith, h))
    go (x ∷ l) zero h = refl
    go (x ∷ l) (suc i) h = ap (λ (z : List ℕ). other_of a b x ∷ z) (go l i (omega (arith, h)))

-- one key more is written
pub write-more : (items : List Item) (old now : List ℕ) (i : ℕ) → i < length items → length old ≡ length items → now ≡ map item_key (take i items) ++ drop i old
    → slice_set now i (slice_index_or items i no_item).key ≡ map item_key (take (i + 1) items) ++ drop (i + 1) old
write-more items old now i h n e =
    let s : i + 1 ≡ suc i = omega arith in
    ap (λ (z : List ℕ). slice_set z i (slice_index_or items i no_item).key) e ∙ go items old i h n ∙ ap (λ z. map item_key (take z items) ++ drop z old) (sym s)
  where
    go : (items : List Item) (old : List ℕ) (i : ℕ) → i < length items → length old ≡ length items → slice_set (map item_key (take i items) ++ drop i old) i (slice_index_or items i no_item).key ≡ map item_key (take (suc i) items) ++ drop (suc i) old
    go [] old i h n = absurd (omega (arith, h))
    go (x ∷ items) [] i h n = absurd (omega (arith, n))
    go (x ∷ items) (y ∷ old) zero h n = refl
    go (x ∷ items) (y ∷ old) (suc i) h n = ap (λ (z : List ℕ). x.key ∷ z) (go items old i (omega (arith, h)) (omega (arith, n)))

-- the reverse order, from the least on
pub turned-round : (old : List ℕ) → is_distinct old ≡ true → from_least old ≡ old → take 1 old ++ reverse (drop 1 old) ≡ from_least (reverse old)
turned-round old d w = at old ∙ sym (mirror-same old d w)
  where
    at : (l : List ℕ) → take 1 l ++ reverse (drop 1 l) ≡ mirror_choice l
    at [] = refl
    at (x ∷ l) = refl

-- one choice more is turned round
pub turn-more : (old now : List (List ℕ)) (k : ℕ) (c d : List ℕ) → k < length old → now ≡ map turned_choice (take k old) ++ drop k old → c ≡ slice_index_or now k [] → d ≡ turned_choice c → slice_set now k d ≡ map turned_choice (take (k + 1) old) ++ drop (k + 1) old
turn-more old now k c d h e i t =
    let s : k + 1 ≡ suc k = omega arith in
    ap (slice_set now k) (t ∙ ap turned_choice i) ∙ ap (λ (z : List (List ℕ)). slice_set z k (turned_choice (slice_index_or z k []))) e ∙ go old k h ∙ ap (λ z. map turned_choice (take z old) ++ drop z old) (sym s)
  where
    go : (l : List (List ℕ)) (k : ℕ) → k < length l → slice_set (map turned_choice (take k l) ++ drop k l) k (turned_choice (slice_index_or (map turned_choice (take k l) ++ drop k l) k [])) ≡ map turned_choice (take (suc k) l) ++ drop (suc k) l
    go [] k h = absurd (omega (arith, h))
    go (x ∷ l) zero h = refl
    go (x ∷ l) (suc k) h = ap (λ (z : List (List ℕ)). turned_choice x ∷ z) (go l k (omega (arith, h)))

-- the next choice is still as it was
pub turn-next : (old now : List (List ℕ)) (k : ℕ) → k < length old → now ≡ map turned_choice (take k old) ++ drop k old → slice_index_or now k [] ≡ slice_index_or old k []
turn-next old now k h e = ap (λ (z : List (List ℕ)). slice_index_or z k []) e ∙ go old k h
  where
    go : (l : List (List ℕ)) (k : ℕ) → k < length l → slice_index_or (map turned_choice (take k l) ++ drop k l) k [] ≡ slice_index_or l k []
    go [] k h = absurd (omega (arith, h))
    go (x ∷ l) zero h = refl
    go (x ∷ l) (suc k) h = go l k (omega (arith, h))

-- a prefix and the rest
pub take-front : (front back : List ℕ) (n : ℕ) → length front ≡ n → take n (front ++ back) ≡ front
take-front [] back n e = subst (λ z. take z back ≡ []) e refl
take-front (x ∷ front) back n e = subst (λ z. take z (x ∷ (front ++ back)) ≡ x ∷ front) e (ap (λ (z : List ℕ). x ∷ z) (take-front front back (length front) refl))

pub drop-front : (front back : List ℕ) (n : ℕ) → length front ≡ n → drop n (front ++ back) ≡ back
drop-front [] back n e = subst (λ z. drop z back ≡ back) e refl
drop-front (x ∷ front) back n e = subst (λ z. drop z (x ∷ (front ++ back)) ≡ back) e (drop-front front back (length front) refl)

-- a member is at the first place that passes the test
stands-first : (keys : List ℕ) (key : ℕ) → is_member key keys ≡ true → StandsAt keys (position_or_len (λ k. k == key) keys) key
stands-first [] key m = absurd (true≢false (sym m))
stands-first (y ∷ ys) key m = elim (cases_Bool (y == key)) [
  | inl e ↦ subst (λ (z : ℕ). StandsAt (y ∷ ys) z key) (sym (ap (λ (t : Bool). cond (not t) (1 + position_or_len (λ k. k == key) ys) 0) e))
      (record { front = []; back = ys; is = ap (λ (z : ℕ). z ∷ ys) (eqb-true y key e); before = refl; new = refl })
  | inr e ↦
      let w = stands-first ys key (sym (ap (λ (t : Bool). t || is_member key ys) e) ∙ m) in
      subst (λ (z : ℕ). StandsAt (y ∷ ys) z key) (sym (ap (λ (t : Bool). cond (not t) (1 + position_or_len (λ k. k == key) ys) 0) e))
      (record { front = y ∷ w.front; back = w.back; is = ap (λ (z : List ℕ). y ∷ z) w.is; before = omega (arith, w.before); new = ap (λ (t : Bool). t || is_member key w.front) e ∙ w.new })
]

-- the place of a member is found
stands-within : (keys : List ℕ) (key place : ℕ) → StandsAt keys place key → place < length keys
stands-within keys key place s = omega (arith, ap length s.is, length-append s.front (key ∷ s.back), s.before)

pub position-stands : (keys : List ℕ) (key place : ℕ) → is_member key keys ≡ true → position (λ k. k == key) keys ≡ Some place → StandsAt keys place key
position-stands keys key place m e =
    subst (λ (z : ℕ). StandsAt keys z key) ((cond_some (nat_lt (position_or_len (λ k. k == key) keys) (length keys)) (position_or_len (λ k. k == key) keys) place e).1) (stands-first keys key m)

pub position-found : (keys : List ℕ) (key : ℕ) → is_member key keys ≡ true → position (λ k. k == key) keys ≡ None → ⊥
position-found keys key m e =
    let p : ℕ = position_or_len (λ k. k == key) keys in
    none-some p (sym e ∙ cond-true (nat_lt p (length keys)) (Some p) None (lt-ltb p (length keys) (stands-within keys key p (stands-first keys key m))))

-- the list from the place of a key on, and then what is before it
pub turned-at : (old : List ℕ) (place key : ℕ) → StandsAt old place key → drop place old ++ take place old ≡ turned old key
turned-at old place key s =
    ap (λ (z : List ℕ). drop place z ++ take place z) s.is
    ∙ ap (λ (z : List ℕ). z ++ take place (s.front ++ key ∷ s.back)) (drop-front s.front (key ∷ s.back) place s.before)
    ∙ ap (λ (z : List ℕ). (key ∷ s.back) ++ z) (take-front s.front (key ∷ s.back) place s.before)
    ∙ sym (ap (λ (z : List ℕ). turned z key) s.is ∙ turned-cut s.front key s.back s.new)

-- the members of an exchanged list
pub other-back : (a b x : ℕ) → other_of a b (other_of a b x) ≡ x
other-back a b x = elim (cases_eq x a) [
  | inl e ↦ subst (λ z. other_of a b (other_of a b z) ≡ z) (sym e) (ap (other_of a b) (other-first a b) ∙ other-second a b)
  | inr n ↦ elim (cases_eq x b) [
    | inl e ↦ subst (λ z. other_of a b (other_of a b z) ≡ z) (sym e) (ap (other_of a b) (other-second a b) ∙ other-first a b)
    | inr m ↦ ap (other_of a b) (other-none a b x n m) ∙ other-none a b x n m
  ]
]

member-exchanged : (a b : ℕ) (l : List ℕ) (x : ℕ) → is_member x l ≡ true → is_member (other_of a b x) (exchanged a b l) ≡ true
member-exchanged a b [] x m = m
member-exchanged a b (y ∷ l) x m = elim (member-cases x y l m) [
  | inl e ↦ subst (λ z. is_member (other_of a b z) (other_of a b y ∷ exchanged a b l) ≡ true) e (member-head (other_of a b y) (exchanged a b l))
  | inr n ↦ member-tail (other_of a b x) (other_of a b y) (exchanged a b l) (member-exchanged a b l x n)
]

exchanged-member : (a b : ℕ) (l : List ℕ) (x : ℕ) → is_member x (exchanged a b l) ≡ true → is_member (other_of a b x) l ≡ true
exchanged-member a b [] x m = m
exchanged-member a b (y ∷ l) x m = elim (member-cases x (other_of a b y) (exchanged a b l) m) [
  | inl e ↦ subst (λ z. is_member z (y ∷ l) ≡ true) (sym (other-back a b y) ∙ ap (other_of a b) e) (member-head y l)
  | inr n ↦ member-tail (other_of a b x) y l (exchanged-member a b l x n)
]

other-in : (a b : ℕ) (l : List ℕ) (x : ℕ) → is_member a l ≡ true → is_member b l ≡ true → is_member x l ≡ true → is_member (other_of a b x) l ≡ true
other-in a b l x ma mb m = elim (cases_eq x a) [
  | inl e ↦ subst (λ z. is_member (other_of a b z) l ≡ true) (sym e) (subst (λ z. is_member z l ≡ true) (sym (other-first a b)) mb)
  | inr n ↦ elim (cases_eq x b) [
    | inl e ↦ subst (λ z. is_member (other_of a b z) l ≡ true) (sym e) (subst (λ z. is_member z l ≡ true) (sym (other-second a b)) ma)
    | inr k ↦ subst (λ z. is_member z l ≡ true) (sym (other-none a b x n k)) m
  ]
]

pub exchanged-members : (a b : ℕ) (l : List ℕ) (x : ℕ) → is_member a l ≡ true → is_member b l ≡ true → is_member x (exchanged a b l) ≡ is_member x l
exchanged-members a b l x ma mb = same-tests (is_member x (exchanged a b l)) (is_member x l)
    (λ m. subst (λ z. is_member z l ≡ true) (other-back a b x) (other-in a b l (other_of a b x) ma mb (exchanged-member a b l x m)))
    (λ m. subst (λ z. is_member z (exchanged a b l) ≡ true) (other-back a b x) (member-exchanged a b l (other_of a b x) (other-in a b l x ma mb m)))

-- the least key of an exchanged list is the first of the list
pub exchanged-least : (a b : ℕ) (l : List ℕ) → from_least l ≡ l → is_member a l ≡ true → is_member b l ≡ true → turned (exchanged a b l) (first_or 0 l) ≡ from_least (exchanged a b l)
exchanged-least a b l w ma mb = ap (turned (exchanged a b l)) (sym (least-same (exchanged a b l) l (λ z. exchanged-members a b l z ma mb) ∙ sym (from_least-first_or l a ma) ∙ ap (first_or 0) w))

-- the least of keys in another order is the first of the list
pub arranged-least : (l keys : List ℕ) → from_least l ≡ l → 0 < length l → IsPermutation l keys → turned keys (slice_index_or l 0 0) ≡ from_least keys
arranged-least l keys w h p = ap (turned keys) (first-at l ∙ ap (first_or 0) (sym w) ∙ from_least-first_or l (slice_index_or l 0 0) (member-at l 0 0 h) ∙ least-same l keys (λ z. sym (permutation-member l keys z p)))

pub arranged-first : (l keys : List ℕ) → 0 < length l → IsPermutation l keys → is_member (slice_index_or l 0 0) keys ≡ true
arranged-first l keys h p = permutation-member l keys (slice_index_or l 0 0) p ∙ member-at l 0 0 h

-- without keys there is one order
pub arranged-none : (l keys : List ℕ) → length l ≡ 0 → IsPermutation l keys → l ≡ from_least keys
arranged-none l keys e p = empty l e ∙ sym (ap from_least (empty keys (length_permutation l keys p ∙ e)))
  where
    empty : (k : List ℕ) → length k ≡ 0 → k ≡ []
    empty [] q = refl
    empty (x ∷ k) q = absurd (omega (arith, q))

pub exchanged-first : (a b : ℕ) (l : List ℕ) → is_member a l ≡ true → is_member b l ≡ true → is_member (slice_index_or l 0 0) (exchanged a b l) ≡ true
exchanged-first a b [] ma mb = absurd (true≢false (sym ma))
exchanged-first a b (x ∷ l) ma mb = exchanged-members a b (x ∷ l) x ma mb ∙ member-head x l

pub member-filled : (l : List ℕ) (x : ℕ) → is_member x l ≡ true → 0 < length l
member-filled [] x m = absurd (true≢false (sym m))
member-filled (y ∷ l) x m = omega arith

-- neither change of a choice changes its length
pub turned-length : (l : List ℕ) → length (turned_choice l) ≡ length l
turned-length l = omega (arith, IsTurn-length (reverse l) (from_least (reverse l)) (from_least-turn (reverse l)), length-reverse l)

pub arranged-length : (l keys : List ℕ) → IsPermutation l keys → length (from_least keys) ≡ length l
arranged-length l keys p = omega (arith, IsTurn-length keys (from_least keys) (from_least-turn keys), length_permutation l keys p)

pub exchanged-length : (a b : ℕ) (l : List ℕ) → length (from_least (exchanged a b l)) ≡ length l
exchanged-length a b l = omega (arith, IsTurn-length (exchanged a b l) (from_least (exchanged a b l)) (from_least-turn (exchanged a b l)), length-map l (other_of a b))
