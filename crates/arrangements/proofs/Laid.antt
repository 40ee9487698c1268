-- The stack when an edge comes after a prefix: where the edge is on top it is taken off, and its follower is put on top where it
-- has not come yet.
use Rattle.std.proofs.Common.{◌≡◌, ◌≢◌, ℕ, ◌+◌, ◌-◌, ◌≤◌, inl, inr, Bool, true, false, not, ◌&&◌, ◌==◌, nat_lt, List, [], ◌∷◌, ◌++◌, length, map, filter, take, refl, sym, ap, ap₂, ◌∙◌, subst, arith, append-nil, length-append}
use Rattle.std.proofs.lemmas.Bool.{cases_Bool, cases_eq, both_ways, and_parts, and_right, and_from, eq-eqb, ne_eqb, eqb-true, ltb-true, not_from_true, not_from_false, lt-ltb}
use Rattle.std.proofs.lemmas.List.{map-append, take-append-le, take_all}
use Rattle.std.proofs.lemmas.List.Elements.{filter-append}
use Rattle.permutations.specs.Members.{is_member, is_distinct}
use Rattle.permutations.specs.Cyclic.{successor, last_or}
use Rattle.permutations.proofs.Members.{member-head, member-tail, no_member-cons, member-append_left, distinct-append_apart}
use Rattle.permutations.proofs.Filter.{filter-yes, filter-no, filter-all, filter-ext, filter-filter, distinct-filter, member-filter_parts}
use Rattle.permutations.proofs.Successor.{successor-injective}
use Rattle.arrangements.specs.Arranged.{AreOrders}
use Rattle.arrangements.specs.Options.{follower, waiting, is_opened, is_option, IsBuilt}
use Rattle.arrangements.specs.Prefixes.{without_top}
use Rattle.arrangements.proofs.Waiting.{unopened, Top, option-cases, top-waits}
use Rattle.arrangements.proofs.Built.{Facts, facts, follow-parts}
use Rattle.arrangements.proofs.Noted.{laid-same, laid-other}
use Rattle.arrangements.proofs.Tops.{last-append, ends-with}

-- edges with one follower are equal
pub follower-injective : (block : ℕ → ℕ) (order : ℕ → List ℕ) (edges : List ℕ) → AreOrders block order edges → (x y : ℕ) → is_member x edges ≡ true → is_member y edges ≡ true
    → follower block order x ≡ follower block order y → x ≡ y
follower-injective block order edges o x y mx my e =
    let bx = (follow-parts block order edges o x mx).1 in
    let by = (follow-parts block order edges o y my).1 in
    let b : block x ≡ block y = sym bx ∙ ap block e ∙ by in
    successor-injective (order (block x)) x y (o.distinct x mx) (e ∙ ap (λ (c : ℕ). successor (order c) y) (sym b))

-- the stack without its top e
pub without-ends : (front : List ℕ) (e : ℕ) → without_top (front ++ e ∷ []) e ≡ front
without-ends front e =
    let n : length (front ++ e ∷ []) ≡ length front + 1 = length-append front (e ∷ []) in
    let t : (nat_lt 0 (length (front ++ e ∷ [])) && (last_or 0 (front ++ e ∷ []) == e)) ≡ true = and_from (nat_lt 0 (length (front ++ e ∷ []))) (last_or 0 (front ++ e ∷ []) == e) (lt-ltb 0 (length (front ++ e ∷ [])) (omega arith)) (eq-eqb (last_or 0 (front ++ e ∷ [])) e (last-append 0 e front)) in
    let k : length (front ++ e ∷ []) - 1 ≡ length front = omega arith in
    rw t (ap (λ (m : ℕ). take m (front ++ e ∷ [])) k ∙ take-append-le (length front) front (e ∷ []) (let q : length front ≤ length front = omega arith in q) ∙ take_all (length front) front (let q : length front ≤ length front = omega arith in q))

-- the stack as it is, where e is not in it
pub without-absent : (stack : List ℕ) (e : ℕ) → is_member e stack ≡ false → without_top stack e ≡ stack
without-absent stack e n = elim (cases_Bool (nat_lt 0 (length stack) && (last_or 0 stack == e))) [
  | inr f ↦ rw f refl
  | inl t ↦
      let p = and_parts (nat_lt 0 (length stack)) (last_or 0 stack == e) t in
      let r = ends-with stack (ltb-true 0 (length stack) p.0) in
      let s : r.top ≡ e = sym (last-append 0 r.top r.front) ∙ ap (last_or 0) (sym r.is) ∙ eqb-true (last_or 0 stack) e p.1 in
      absurd (both_ways (is_member e stack) n (subst (λ (k : List ℕ). is_member e k ≡ true) (sym r.is) (subst (λ (x : ℕ). is_member e (r.front ++ x ∷ []) ≡ true) (sym s) (laid-same e r.front))))
]

-- a test and one that is true
and-true : (a b : Bool) → b ≡ true → (a && b) ≡ a
and-true true b h = h
and-true false b h = refl

-- what is mapped to e is in the list
pub map-meets : (f : ℕ → ℕ) (l : List ℕ) (e : ℕ) → ((x : ℕ) → is_member x l ≡ true → f x ≢ e) → is_member e (map f l) ≡ false
map-meets f [] e h = refl
map-meets f (x ∷ l) e h = no_member-cons e (f x) (map f l) (h x (member-head x l)) (map-meets f l e (λ y m. h y (member-tail y x l m)))

module _ (block : ℕ → ℕ) (order : ℕ → List ℕ) (edges : List ℕ) (o : AreOrders block order edges) (p : List ℕ) (b : IsBuilt block (follower block order) edges p) (e : ℕ) where
  abbrev f : ℕ → ℕ
  f = follower block order

  k : Facts block order edges o p
  k = facts block order edges o p b

  -- those still waiting
  abbrev still : List ℕ
  still = filter (λ x. not (is_member (f x) (p ++ e ∷ []))) p

  -- all still wait, where e follows none
  still-all : ((x : ℕ) → is_member x p ≡ true → f x ≢ e) → still ≡ waiting f p
  still-all n = filter-ext (λ x. not (is_member (f x) (p ++ e ∷ []))) (λ x. not (is_member (f x) p)) p (λ x m. ap not (laid-other (f x) e p (λ s. n x m (sym s))))

  opens : is_opened block (block e) p ≡ false → map f still ≡ without_top (map f (waiting f p)) e
  opens n =
      let none = λ (x : ℕ) (m : is_member x p ≡ true) (s : f x ≡ e). unopened block p (block e) x n m (sym (follow-parts block order edges o x (k.members x m)).1 ∙ ap block s) in
      ap (map f) (still-all none)
      ∙ sym (without-absent (map f (waiting f p)) e (map-meets f (waiting f p) e (λ x m. none x (member-filter_parts (λ z. not (is_member (f z) p)) p x m).0)))

  follows : (t : ℕ) → Top f p t → f t ≡ e → map f still ≡ without_top (map f (waiting f p)) e
  follows t w q = ap (map f) here ∙ sym (without-ends (map f w.front) e) ∙ ap (λ (s : List ℕ). without_top s e) (sym whole)
    where
      tp : is_member t p ≡ true
      tp = (top-waits f p t w).0

      once : is_distinct (w.front ++ t ∷ []) ≡ true
      once = subst (λ (s : List ℕ). is_distinct s ≡ true) w.is (distinct-filter (λ z. not (is_member (f z) p)) p k.once)

      other : (x : ℕ) → is_member x w.front ≡ true → f x ≢ e
      other x m s =
          let mw : is_member x (waiting f p) ≡ true = subst (λ (z : List ℕ). is_member x z ≡ true) (sym w.is) (member-append_left x w.front (t ∷ []) m) in
          let mp = (member-filter_parts (λ z. not (is_member (f z) p)) p x mw).0 in
          let same : x ≡ t = follower-injective block order edges o x t (k.members x mp) (k.members t tp) (s ∙ sym q) in
          both_ways (is_member x (t ∷ [])) (distinct-append_apart w.front (t ∷ []) once x m) (subst (λ (z : ℕ). is_member x (z ∷ []) ≡ true) same (member-head x []))

      apart : (x : ℕ) → is_member x p ≡ true → not (is_member (f x) (p ++ e ∷ [])) ≡ (not (is_member (f x) p) && not (f x == e))
      apart x m = elim (cases_eq (f x) e) [
        | inl s ↦ ap not (subst (λ (z : ℕ). is_member z (p ++ e ∷ []) ≡ true) (sym s) (laid-same e p)) ∙ sym (and_right (not (is_member (f x) p)) (not (f x == e)) (not_from_true (f x == e) (eq-eqb (f x) e s)))
        | inr n ↦ ap not (laid-other (f x) e p (λ s. n (sym s))) ∙ sym (and-true (not (is_member (f x) p)) (not (f x == e)) (not_from_false (f x == e) (ne_eqb (f x) e n)))
      ]

      here : still ≡ w.front
      here =
          filter-ext (λ x. not (is_member (f x) (p ++ e ∷ []))) (λ x. not (is_member (f x) p) && not (f x == e)) p apart
          ∙ sym (filter-filter (λ x. not (f x == e)) (λ x. not (is_member (f x) p)) p)
          ∙ ap (filter (λ x. not (f x == e))) w.is
          ∙ filter-append (λ x. not (f x == e)) w.front (t ∷ [])
          ∙ ap₂ (λ (u v : List ℕ). u ++ v) (filter-all (λ x. not (f x == e)) w.front (λ x m. not_from_false (f x == e) (ne_eqb (f x) e (other x m)))) (filter-no (λ x. not (f x == e)) t [] (not_from_true (f t == e) (eq-eqb (f t) e q)))
          ∙ append-nil w.front

      whole : map f (waiting f p) ≡ map f w.front ++ e ∷ []
      whole = ap (map f) w.is ∙ map-append f w.front (t ∷ []) ∙ ap (λ (z : ℕ). map f w.front ++ z ∷ []) q

  still-stack : is_option block f edges p e ≡ true → map f still ≡ without_top (map f (waiting f p)) e
  still-stack h = elim (option-cases block f edges p e h) [ inl a ↦ opens a.1 | inr w ↦ follows w.0 w.1 w.2 ]

  split : waiting f (p ++ e ∷ []) ≡ still ++ filter (λ x. not (is_member (f x) (p ++ e ∷ []))) (e ∷ [])
  split = filter-append (λ x. not (is_member (f x) (p ++ e ∷ []))) p (e ∷ [])

  -- the follower of e has come
  pub stack-finished : is_option block (follower block order) edges p e ≡ true → is_member (follower block order e) (p ++ e ∷ []) ≡ true
      → map (follower block order) (waiting (follower block order) (p ++ e ∷ [])) ≡ without_top (map (follower block order) (waiting (follower block order) p)) e
  stack-finished h m =
      ap (map f) (split ∙ ap (λ (z : List ℕ). still ++ z) (filter-no (λ x. not (is_member (f x) (p ++ e ∷ []))) e [] (not_from_true (is_member (f e) (p ++ e ∷ [])) m)) ∙ append-nil still)
      ∙ still-stack h

  -- it has not
  pub stack-waits : is_option block (follower block order) edges p e ≡ true → is_member (follower block order e) (p ++ e ∷ []) ≡ false
      → map (follower block order) (waiting (follower block order) (p ++ e ∷ [])) ≡ without_top (map (follower block order) (waiting (follower block order) p)) e ++ follower block order e ∷ []
  stack-waits h m =
      ap (map f) (split ∙ ap (λ (z : List ℕ). still ++ z) (filter-yes (λ x. not (is_member (f x) (p ++ e ∷ []))) e [] (not_from_false (is_member (f e) (p ++ e ∷ [])) m)))
      ∙ map-append f still (e ∷ []) ∙ ap (λ (z : List ℕ). z ++ f e ∷ []) (still-stack h)
