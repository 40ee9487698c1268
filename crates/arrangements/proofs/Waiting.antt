-- Options of a prefix: the edges that are waiting, the last of them, and lists in which each edge is an option of those before it.
use Rattle.std.proofs.Common.{◌≡◌, ◌≢◌, ℕ, zero, suc, ◌+◌, ◌<◌, ◌⊎◌, inl, inr, Bool, true, false, not, ◌&&◌, ◌==◌, nat_lt, List, [], ◌∷◌, ◌++◌, length, map, filter, take, drop, get_or, refl, sym, ap, ◌∙◌, subst, arith, append_assoc, length-append}
use Rattle.std.proofs.lemmas.Bool.{cases_lt, both_ways, and_parts, and_from, or_cases, or_left, or_right, not-true, not_from_false, eq-eqb, eqb-true, lt-ltb, ltb-true, true≢false}
use Rattle.std.proofs.lemmas.List.{take-append-le}
use Rattle.std.proofs.lemmas.List.Elements.{filter-append}
use Rattle.permutations.specs.Members.{is_member}
use Rattle.permutations.specs.Cyclic.{last_or}
use Rattle.permutations.proofs.Members.{member-head, member-tail, member-cases, member-append_right}
use Rattle.permutations.proofs.Filter.{filter-yes, filter-member, member-filter_parts}
use Rattle.permutations.proofs.Mapped.{member-map, map-member}
use Rattle.permutations.proofs.Runs.{last-of}
use Rattle.arrangements.specs.Options.{waiting, is_opened, is_option, IsBuilt}
use Rattle.arrangements.proofs.Lists.{cut-place, place-cut, take-cut, within-cut, last-after, last_or-more}

-- an edge of the prefix opens its block
pub edge-opens : (block : ℕ → ℕ) (l : List ℕ) (x b : ℕ) → is_member x l ≡ true → block x ≡ b → is_opened block b l ≡ true
edge-opens block l x b m e = subst (λ (z : ℕ). is_member z (map block l) ≡ true) e (member-map block l x m)

-- a block that is opened has an edge in the prefix
pub opened-edge : (block : ℕ → ℕ) (l : List ℕ) (b : ℕ) → is_opened block b l ≡ true → (x : ℕ) × (is_member x l ≡ true) × (block x ≡ b)
opened-edge block l b h = map-member block l b h

-- no edge of a block that is not opened is in the prefix
pub unopened : (block : ℕ → ℕ) (l : List ℕ) (b x : ℕ) → is_opened block b l ≡ false → is_member x l ≡ true → block x ≢ b
unopened block l b x h m e = both_ways (is_opened block b l) h (edge-opens block l x b m e)

-- an edge of the prefix is waiting where its follower is not in it
pub waits : (follow : ℕ → ℕ) (l : List ℕ) (x : ℕ) → is_member x l ≡ true → is_member (follow x) l ≡ false → is_member x (waiting follow l) ≡ true
waits follow l x m n = filter-member (λ e. not (is_member (follow e) l)) l x m (not_from_false (is_member (follow x) l) n)

-- an edge that is waiting
pub waits-parts : (follow : ℕ → ℕ) (l : List ℕ) (x : ℕ) → is_member x (waiting follow l) ≡ true → (is_member x l ≡ true) × (is_member (follow x) l ≡ false)
waits-parts follow l x m = let p = member-filter_parts (λ e. not (is_member (follow e) l)) l x m in (p.0, not-true (is_member (follow x) l) p.1)

-- the last edge that is waiting
pub record Top (follow : ℕ → ℕ) (l : List ℕ) (t : ℕ) : Type 0 where
  pub front : List ℕ
  pub is : waiting follow l ≡ front ++ t ∷ []

-- it is in the prefix, and its follower is not
pub top-waits : (follow : ℕ → ℕ) (l : List ℕ) (t : ℕ) → Top follow l t → (is_member t l ≡ true) × (is_member (follow t) l ≡ false)
top-waits follow l t w = waits-parts follow l t (subst (λ (z : List ℕ). is_member t z ≡ true) (sym w.is) (member-append_right t w.front (t ∷ []) (member-head t [])))

-- an edge that is waiting is the last one, or the last one comes after it
pub top-after : (follow : ℕ → ℕ) (a : List ℕ) (x : ℕ) (b : List ℕ) (t : ℕ) → Top follow (a ++ x ∷ b) t → is_member (follow x) (a ++ x ∷ b) ≡ false → is_member t (x ∷ b) ≡ true
top-after follow a x b t w n = elim (member-cases t x (filter q b) (last-after (filter q a) x (filter q b) w.front t (sym split ∙ w.is))) [
  | inl e ↦ subst (λ (z : ℕ). is_member z (x ∷ b) ≡ true) e (member-head x b)
  | inr m ↦ member-tail t x b (member-filter_parts q b t m).0
]
  where
    q : ℕ → Bool
    q e = not (is_member (follow e) (a ++ x ∷ b))

    split : waiting follow (a ++ x ∷ b) ≡ filter q a ++ x ∷ filter q b
    split = filter-append q a (x ∷ b) ∙ ap (λ (z : List ℕ). filter q a ++ z) (filter-yes q x b (not_from_false (is_member (follow x) (a ++ x ∷ b)) n))

-- where an edge is waiting there is a last one
pub top-exists : (follow : ℕ → ℕ) (l : List ℕ) (x : ℕ) → is_member x l ≡ true → is_member (follow x) l ≡ false → (t : ℕ) × Top follow l t
top-exists follow l x m n = let w = last-of (waiting follow l) some in (w.1, record { front = w.0; is = w.2 })
  where
    filled : (k : List ℕ) → is_member x k ≡ true → 0 < length k
    filled [] h = absurd (true≢false (sym h))
    filled (y ∷ k) h = omega arith

    some : 0 < length (waiting follow l)
    some = filled (waiting follow l) (waits follow l x m n)

-- an option opens a block, or follows the last edge that is waiting
pub option-cases : (block follow : ℕ → ℕ) (edges l : List ℕ) (e : ℕ) → is_option block follow edges l e ≡ true
    → ((is_member e edges ≡ true) × (is_opened block (block e) l ≡ false)) ⊎ ((t : ℕ) × Top follow l t × (follow t ≡ e))
option-cases block follow edges l e h = elim (or_cases (is_member e edges && not (is_opened block (block e) l)) (nat_lt 0 (length w) && (follow (last_or 0 w) == e)) h) [
  | inl a ↦ let p = and_parts (is_member e edges) (not (is_opened block (block e) l)) a in inl (p.0, not-true (is_opened block (block e) l) p.1)
  | inr b ↦
      let p = and_parts (nat_lt 0 (length w)) (follow (last_or 0 w) == e) b in
      let s = last-of w (ltb-true 0 (length w) p.0) in
      inr (s.1, record { front = s.0; is = s.2 }, sym (ap follow (ap (last_or 0) s.2 ∙ last_or-more s.0 s.1 0)) ∙ eqb-true (follow (last_or 0 w)) e p.1)
]
  where
    w : List ℕ
    w = waiting follow l

-- an edge that opens a block is an option
pub option-opens : (block follow : ℕ → ℕ) (edges l : List ℕ) (e : ℕ) → is_member e edges ≡ true → is_opened block (block e) l ≡ false → is_option block follow edges l e ≡ true
option-opens block follow edges l e m n =
    or_left (is_member e edges && not (is_opened block (block e) l)) (nat_lt 0 (length (waiting follow l)) && (follow (last_or 0 (waiting follow l)) == e))
    (and_from (is_member e edges) (not (is_opened block (block e) l)) m (not_from_false (is_opened block (block e) l) n))

-- what follows the last edge that is waiting is an option
pub option-follows : (block follow : ℕ → ℕ) (edges l : List ℕ) (t e : ℕ) → Top follow l t → follow t ≡ e → is_option block follow edges l e ≡ true
option-follows block follow edges l t e w q =
    or_right (is_member e edges && not (is_opened block (block e) l)) (nat_lt 0 (length (waiting follow l)) && (follow (last_or 0 (waiting follow l)) == e))
    (and_from (nat_lt 0 (length (waiting follow l))) (follow (last_or 0 (waiting follow l)) == e)
    (lt-ltb 0 (length (waiting follow l)) (omega (arith, ap length w.is, length-append w.front (t ∷ []))))
    (eq-eqb (follow (last_or 0 (waiting follow l))) e (ap follow (ap (last_or 0) w.is ∙ last_or-more w.front t 0) ∙ q)))

-- a built list, cut anywhere: the edge after the cut is an option of those before it
pub built-cut : (block follow : ℕ → ℕ) (edges p : List ℕ) (e : ℕ) (q : List ℕ) → IsBuilt block follow edges (p ++ e ∷ q) → is_option block follow edges p e ≡ true
built-cut block follow edges p e q h =
    subst (λ (z : ℕ). is_option block follow edges p z ≡ true) (place-cut p e q)
    (subst (λ (z : List ℕ). is_option block follow edges z (get_or (p ++ e ∷ q) (length p) 0) ≡ true) (take-cut p (e ∷ q)) (h (length p) (within-cut p e q)))

-- and from all cuts
pub cut-built : (block follow : ℕ → ℕ) (edges l : List ℕ) → ((p : List ℕ) (e : ℕ) (q : List ℕ) → l ≡ p ++ e ∷ q → is_option block follow edges p e ≡ true) → IsBuilt block follow edges l
cut-built block follow edges l h i w = h (take i l) (get_or l i 0) (drop (i + 1) l) (cut-place l i w)

-- a prefix of a built list is built
pub built-front : (block follow : ℕ → ℕ) (edges p q : List ℕ) → IsBuilt block follow edges (p ++ q) → IsBuilt block follow edges p
built-front block follow edges p q h = cut-built block follow edges p (λ a e b s.
    built-cut block follow edges a e (b ++ q) (subst (IsBuilt block follow edges) (ap (λ (z : List ℕ). z ++ q) s ∙ append_assoc a (e ∷ b) q) h))

-- a built list with an option more is built
pub built-more : (block follow : ℕ → ℕ) (edges p : List ℕ) (e : ℕ) → IsBuilt block follow edges p → is_option block follow edges p e ≡ true → IsBuilt block follow edges (p ++ e ∷ [])
built-more block follow edges p e h o i w = elim (cases_lt i (length p)) [
  | inl l ↦
      subst (λ (z : ℕ). is_option block follow edges (take i (p ++ e ∷ [])) z ≡ true) (sym (get-left p (e ∷ []) i l))
      (subst (λ (z : List ℕ). is_option block follow edges z (get_or p i 0) ≡ true) (sym (take-append-le i p (e ∷ []) (omega arith))) (h i l))
  | inr g ↦
      let s : length p ≡ i = omega (arith, g, w, length-append p (e ∷ [])) in
      subst (λ (z : ℕ). is_option block follow edges (take z (p ++ e ∷ [])) (get_or (p ++ e ∷ []) z 0) ≡ true) s
      (subst (λ (z : ℕ). is_option block follow edges (take (length p) (p ++ e ∷ [])) z ≡ true) (sym (place-cut p e []))
      (subst (λ (z : List ℕ). is_option block follow edges z e ≡ true) (sym (take-cut p (e ∷ []))) o))
]
  where
    get-left : (p q : List ℕ) (i : ℕ) → i < length p → get_or (p ++ q) i 0 ≡ get_or p i 0
    get-left [] q i l = absurd (omega arith)
    get-left (x ∷ p) q zero l = refl
    get-left (x ∷ p) q (suc i) l = get-left p q i (omega arith)
