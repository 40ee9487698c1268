-- Which edges may come after a prefix, by what is noted of it: the top of the stack, and the edges of blocks not opened.
use Rattle.std.proofs.Common.{◌≡◌, ℕ, ◌+◌, ◌-◌, ◌<◌, ◌≤◌, ◌⊎◌, inl, inr, Bool, true, false, not, ◌&&◌, ◌||◌, ◌==◌, nat_lt, List, [], ◌∷◌, ◌++◌, length, map, get_or, refl, sym, ap, ap₂, ◌∙◌, subst, arith}
use Rattle.std.proofs.lemmas.Bool.{cases_lt, both_ways, ltb-true, lt-ltb, eq-eqb, eqb-true, and_parts, and_from, or_cases, or_left, or_right, not-true, not_from_false, not_from_true, and_right}
use Rattle.std.proofs.lemmas.List.{map-append, length-map, reverse-append, length-append}
use Rattle.permutations.specs.Members.{is_member, place_of}
use Rattle.permutations.specs.Cyclic.{last_or, first_or}
use Rattle.permutations.proofs.Places.{place-below, place-holds}
use Rattle.arrangements.specs.Options.{follower, waiting, is_opened, is_option, IsLeastOption}
use Rattle.arrangements.specs.Tables.{VertexTables, IsTables}
use Rattle.arrangements.specs.Prefixes.{ForBuilt, IsPrefix, IsLeastFrom, NoneGreater, IsLeastUnopened, CanGoOn, AreOpenedBetween}
use Rattle.arrangements.proofs.Noted.{member-at, rising-weak, laid-same}

-- the last of a list with one more
pub last-append : (d t : ℕ) (front : List ℕ) → last_or d (front ++ t ∷ []) ≡ t
last-append d t front = ap (first_or d) (reverse-append front (t ∷ []))

-- a list is empty, or has a last
pub record EndsWith (l : List ℕ) : Type 0 where
  pub front : List ℕ
  pub top : ℕ
  pub is : l ≡ front ++ top ∷ []

pub ends-with : (l : List ℕ) → 0 < length l → EndsWith l
ends-with [] h = absurd (omega arith)
ends-with (x ∷ []) h = record { front = []; top = x; is = refl }
ends-with (x ∷ y ∷ l) h =
    let r = ends-with (y ∷ l) (omega arith) in
    record { front = x ∷ r.front; top = r.top; is = ap (λ (k : List ℕ). x ∷ k) r.is }

-- the last of a list that is mapped
pub last-map : (f : ℕ → ℕ) (l : List ℕ) → 0 < length l → last_or 0 (map f l) ≡ f (last_or 0 l)
last-map f l h =
    let r = ends-with l h in
    ap (λ (k : List ℕ). last_or 0 (map f k)) r.is
    ∙ ap (last_or 0) (map-append f r.front (r.top ∷ []))
    ∙ last-append 0 (f r.top) (map f r.front)
    ∙ ap f (sym (last-append 0 r.top r.front) ∙ ap (last_or 0) (sym r.is))

-- the part of an option that is on top of the stack
top-mapped : (follow : ℕ → ℕ) (waits : List ℕ) (e : ℕ) → (nat_lt 0 (length waits) && (follow (last_or 0 waits) == e)) ≡ (nat_lt 0 (length (map follow waits)) && (last_or 0 (map follow waits) == e))
top-mapped follow [] e = refl
top-mapped follow (x ∷ l) e = ap₂ (λ (n y : ℕ). nat_lt 0 n && (y == e)) (sym (length-map (x ∷ l) follow)) (sym (last-map follow (x ∷ l) (omega arith)))

pub top-test : (follow : ℕ → ℕ) (waits stack : List ℕ) (e : ℕ) → stack ≡ map follow waits
    → (nat_lt 0 (length waits) && (follow (last_or 0 waits) == e)) ≡ (nat_lt 0 (length stack) && (last_or 0 stack == e))
top-test follow waits stack e s = top-mapped follow waits e ∙ ap (λ (k : List ℕ). nat_lt 0 (length k) && (last_or 0 k == e)) (sym s)

-- the top of the stack may come
pub option-top : (t : VertexTables) (used opened : List Bool) (stack prefix front : List ℕ) (block : ℕ → ℕ) (order : ℕ → List ℕ) (top : ℕ)
    → IsPrefix t used opened stack prefix block order → stack ≡ front ++ top ∷ [] → is_option block (follower block order) t.edges prefix top ≡ true
option-top t used opened stack prefix front block order top i s =
    or_right (is_member top t.edges && not (is_opened block (block top) prefix)) _
    (top-test (follower block order) (waiting (follower block order) prefix) stack top i.is_stack
    ∙ and_from (nat_lt 0 (length stack)) (last_or 0 stack == top) (lt-ltb 0 (length stack) (let q : length stack ≡ length front + 1 = ap length s ∙ length-append front (top ∷ []) in omega arith)) (eq-eqb (last_or 0 stack) top (ap (last_or 0) s ∙ last-append 0 top front)))

-- an edge of a block not opened may come
pub option-unopened : (t : VertexTables) (used opened : List Bool) (stack prefix : List ℕ) (block : ℕ → ℕ) (order : ℕ → List ℕ) (p : ℕ)
    → IsPrefix t used opened stack prefix block order → p < length t.edges → get_or opened (get_or t.ranks p 0) false ≡ false → is_option block (follower block order) t.edges prefix (get_or t.edges p 0) ≡ true
option-unopened t used opened stack prefix block order p i h o =
    or_left (is_member (get_or t.edges p 0) t.edges && not (is_opened block (block (get_or t.edges p 0)) prefix)) _
    (and_from (is_member (get_or t.edges p 0) t.edges) (not (is_opened block (block (get_or t.edges p 0)) prefix)) (member-at t.edges p h)
    (not_from_false (is_opened block (block (get_or t.edges p 0)) prefix) (sym (i.is_open p h) ∙ o)))

-- what may come is the one or the other
pub record IsUnopened (t : VertexTables) (opened : List Bool) (e : ℕ) : Type 0 where
  pub place : ℕ
  pub within : place < length t.edges
  pub here : get_or t.edges place 0 ≡ e
  pub unopened : get_or opened (get_or t.ranks place 0) false ≡ false

pub option-cases : (t : VertexTables) (used opened : List Bool) (stack prefix : List ℕ) (block : ℕ → ℕ) (order : ℕ → List ℕ) (o : ℕ)
    → IsPrefix t used opened stack prefix block order → is_option block (follower block order) t.edges prefix o ≡ true
    → IsUnopened t opened o ⊎ ((front : List ℕ) × (stack ≡ front ++ o ∷ []))
option-cases t used opened stack prefix block order o i h = elim (or_cases _ _ h) [
  | inl a ↦
      let w = and_parts (is_member o t.edges) (not (is_opened block (block o) prefix)) a in
      let below : place_of t.edges o < length t.edges = place-below t.edges o w.0 in
      let here : get_or t.edges (place_of t.edges o) 0 ≡ o = place-holds t.edges o w.0 in
      inl (record {
        place = place_of t.edges o;
        within = below;
        here = here;
        unopened = i.is_open (place_of t.edges o) below ∙ ap (λ (e : ℕ). is_opened block (block e) prefix) here ∙ not-true (is_opened block (block o) prefix) w.1;
      })
  | inr b ↦
      let w = and_parts (nat_lt 0 (length stack)) (last_or 0 stack == o) (sym (top-test (follower block order) (waiting (follower block order) prefix) stack o i.is_stack) ∙ b) in
      let r = ends-with stack (ltb-true 0 (length stack) w.0) in
      let top : r.top ≡ o = sym (last-append 0 r.top r.front) ∙ ap (last_or 0) (sym r.is) ∙ eqb-true (last_or 0 stack) o w.1 in
      inr (r.front, r.is ∙ ap (λ (x : ℕ). r.front ++ x ∷ []) top)
]

-- one list has one top
pub one-top : (front back : List ℕ) (x y : ℕ) → front ++ x ∷ [] ≡ back ++ y ∷ [] → x ≡ y
one-top front back x y e = sym (last-append 0 x front) ∙ ap (last_or 0) e ∙ last-append 0 y back

-- no greater edge may come where neither the top nor the greatest edge of a block not opened is greater
pub none-greater : (t : VertexTables) (used opened : List Bool) (stack prefix : List ℕ) (block : ℕ → ℕ) (order : ℕ → List ℕ) (e count : ℕ)
    → IsTables t → IsPrefix t used opened stack prefix block order → AreOpenedBetween t opened count (length t.edges)
    → ((p : ℕ) → count ≡ p + 1 → get_or t.edges p 0 ≤ e) → ((front : List ℕ) (top : ℕ) → stack ≡ front ++ top ∷ [] → top ≤ e) → count ≤ length t.edges
    → NoneGreater block (follower block order) t.edges prefix e
none-greater t used opened stack prefix block order e count i w all high low le o h = elim (option-cases t used opened stack prefix block order o w h) [
  | inr s ↦ low s.0 o s.1
  | inl u ↦ elim (cases_lt u.place count) [
    | inr more ↦ absurd (both_ways (get_or opened (get_or t.ranks u.place 0) false) u.unopened (all u.place more u.within))
    | inl less ↦
        let k : count ≡ (count - 1) + 1 = omega arith in
        omega (arith, u.here, high (count - 1) k, rising-weak t.edges i.rise u.place (count - 1) (omega arith) (omega arith))
  ]
]

-- the top is the least edge that may come and is not below `from`, where it is less than the least such edge of a block not opened
pub least-top : (t : VertexTables) (used opened : List Bool) (stack prefix front : List ℕ) (block : ℕ → ℕ) (order : ℕ → List ℕ) (from place top : ℕ)
    → IsTables t → IsPrefix t used opened stack prefix block order → IsLeastUnopened t opened from place → stack ≡ front ++ top ∷ [] → from ≤ top
    → (place < length t.edges → top ≤ get_or t.edges place 0) → IsLeastOption block (follower block order) t.edges prefix from top
least-top t used opened stack prefix front block order from place top i w l s f less = record {
  option = option-top t used opened stack prefix front block order top w s;
  enough = f;
  least = λ o h g. elim (option-cases t used opened stack prefix block order o w h) [
    | inr k ↦ omega (arith, one-top front k.0 top o (sym s ∙ k.1))
    | inl u ↦ elim (cases_lt u.place place) [
      | inl before ↦ absurd (both_ways (get_or opened (get_or t.ranks u.place 0) false) u.unopened (l.before u.place before (omega (arith, u.here))))
      | inr after ↦ omega (arith, u.here, u.within, less (omega (arith, u.within)), rising-weak t.edges i.rise place u.place after u.within)
    ]
  ];
}

-- the least edge of a block not opened is it, where the top is not less
pub least-unopened : (t : VertexTables) (used opened : List Bool) (stack prefix : List ℕ) (block : ℕ → ℕ) (order : ℕ → List ℕ) (from place : ℕ)
    → IsTables t → IsPrefix t used opened stack prefix block order → IsLeastUnopened t opened from place → place < length t.edges
    → ((front : List ℕ) (top : ℕ) → stack ≡ front ++ top ∷ [] → from ≤ top → get_or t.edges place 0 ≤ top) → IsLeastOption block (follower block order) t.edges prefix from (get_or t.edges place 0)
least-unopened t used opened stack prefix block order from place i w l h less = record {
  option = option-unopened t used opened stack prefix block order place w h (l.here h).0;
  enough = (l.here h).1;
  least = λ o p g. elim (option-cases t used opened stack prefix block order o w p) [
    | inr k ↦ less k.0 o k.1 g
    | inl u ↦ elim (cases_lt u.place place) [
      | inl before ↦ absurd (both_ways (get_or opened (get_or t.ranks u.place 0) false) u.unopened (l.before u.place before (omega (arith, u.here))))
      | inr after ↦ omega (arith, u.here, rising-weak t.edges i.rise place u.place after u.within)
    ]
  ];
}

-- where an edge not below `from` may come, there is such a place, or the top is not below it
pub can-go_on : (t : VertexTables) (used opened : List Bool) (stack prefix : List ℕ) (block : ℕ → ℕ) (order : ℕ → List ℕ) (from place o : ℕ)
    → IsPrefix t used opened stack prefix block order → IsLeastUnopened t opened from place → is_option block (follower block order) t.edges prefix o ≡ true → from ≤ o
    → CanGoOn t stack from place
can-go_on t used opened stack prefix block order from place o w l h f = elim (option-cases t used opened stack prefix block order o w h) [
  | inr k ↦ inr (k.0, o, k.1, f)
  | inl u ↦ elim (cases_lt u.place place) [
    | inl before ↦ absurd (both_ways (get_or opened (get_or t.ranks u.place 0) false) u.unopened (l.before u.place before (omega (arith, u.here))))
    | inr after ↦ inl (omega (arith, u.within))
  ]
]

-- a list with a top is not empty
pub not-empty : (front : List ℕ) (top : ℕ) → front ++ top ∷ [] ≡ [] → ⊥
not-empty front top e = omega (arith, ap length e, length-append front (top ∷ []))

-- the test of an edge of the tables: where its block is not opened
pub option-open : (t : VertexTables) (used opened : List Bool) (stack prefix : List ℕ) (block : ℕ → ℕ) (order : ℕ → List ℕ) (p : ℕ)
    → IsPrefix t used opened stack prefix block order → p < length t.edges → get_or opened (get_or t.ranks p 0) false ≡ true
    → is_option block (follower block order) t.edges prefix (get_or t.edges p 0) ≡ (nat_lt 0 (length stack) && (last_or 0 stack == get_or t.edges p 0))
option-open t used opened stack prefix block order p i h o =
    or-false (is_member (get_or t.edges p 0) t.edges && not (is_opened block (block (get_or t.edges p 0)) prefix)) _
    (and_right (is_member (get_or t.edges p 0) t.edges) (not (is_opened block (block (get_or t.edges p 0)) prefix)) (not_from_true (is_opened block (block (get_or t.edges p 0)) prefix) (sym (i.is_open p h) ∙ o)))
    ∙ top-test (follower block order) (waiting (follower block order) prefix) stack (get_or t.edges p 0) i.is_stack
  where
    or-false : (a b : Bool) → a ≡ false → (a || b) ≡ b
    or-false true b e = absurd (both_ways true e refl)
    or-false false b e = refl

-- the edge at the place is the least that may come, for all blocks and orders
pub from-place : (t : VertexTables) (used opened : List Bool) (stack prefix : List ℕ) (from place e : ℕ) → IsTables t → ForBuilt t prefix (IsPrefix t used opened stack prefix) → IsLeastUnopened t opened from place
    → place < length t.edges → ((front : List ℕ) (top : ℕ) → stack ≡ front ++ top ∷ [] → from ≤ top → get_or t.edges place 0 ≤ top) → e ≡ get_or t.edges place 0
    → IsLeastFrom t prefix from e × (is_member e t.edges ≡ true)
from-place t used opened stack prefix from place e i w l h less is = (
  λ block order a b. subst (IsLeastOption block (follower block order) t.edges prefix from) (sym is) (least-unopened t used opened stack prefix block order from place i (w block order a b) l h less),
  subst (λ (x : ℕ). is_member x t.edges ≡ true) (sym is) (member-at t.edges place h),
)

-- and so is the top
pub from-top : (t : VertexTables) (used opened : List Bool) (stack prefix front : List ℕ) (from place top : ℕ) → IsTables t → ForBuilt t prefix (IsPrefix t used opened stack prefix) → IsLeastUnopened t opened from place
    → ((x : ℕ) → is_member x stack ≡ true → is_member x t.edges ≡ true) → stack ≡ front ++ top ∷ [] → from ≤ top → (place < length t.edges → top ≤ get_or t.edges place 0)
    → IsLeastFrom t prefix from top × (is_member top t.edges ≡ true)
from-top t used opened stack prefix front from place top i w l m s f less = (
  λ block order a b. least-top t used opened stack prefix front block order from place top i (w block order a b) l s f less,
  m top (subst (λ (k : List ℕ). is_member top k ≡ true) (sym s) (laid-same top front)),
)

-- from the place after that of x on, none before the first one that is found
pub unopened-after : (t : VertexTables) (opened : List Bool) (x here place : ℕ) → IsTables t → here < length t.edges → get_or t.edges here 0 ≡ x → here + 1 ≤ place → place ≤ length t.edges
    → AreOpenedBetween t opened (here + 1) place → (place < length t.edges → get_or opened (get_or t.ranks place 0) false ≡ false) → IsLeastUnopened t opened (x + 1) place
unopened-after t opened x here place i h is more within all none = record {
  within = within;
  before = λ p b f. elim (cases_lt here p) [
    | inl after ↦ all p (omega arith) b
    | inr up ↦ absurd (omega (arith, f, is, rising-weak t.edges i.rise p here up h))
  ];
  here = λ w. (none w, omega (arith, is, ltb-true (get_or t.edges here 0) (get_or t.edges place 0) (i.rise here place 0 (omega arith) w)));
}
