-- What is noted of a prefix with one edge more.
use Rattle.std.proofs.Common.{◌≡◌, ℕ, ◌+◌, ◌-◌, ◌<◌, ◌≤◌, inl, inr, Bool, true, false, ◌&&◌, ◌==◌, nat_lt, if◌then◌else◌, List, [], ◌∷◌, ◌++◌, length, map, take, drop, get_or, refl, sym, ap, ◌∙◌, subst, arith, length-append}
use Rattle.std.specs.Vec.{vec_capacity}
use Rattle.std.proofs.lemmas.Bool.{cases_Bool, both_ways, cond-true, cond-false}
use Rattle.std.proofs.lemmas.List.{length-take-le, take-append-drop, take_more}
use Rattle.std.proofs.Math.ListN.{set, length-set}
use Rattle.permutations.specs.Members.{is_member, place_of}
use Rattle.permutations.specs.Cyclic.{last_or}
use Rattle.permutations.proofs.Members.{member-cases, member-append_left, member-append_cases}
use Rattle.permutations.proofs.Places.{place-below, place-holds}
use Rattle.arrangements.specs.Options.{follower, waiting, is_option, IsBuilt}
use Rattle.arrangements.specs.Tables.{VertexTables, follow_in, IsTables, AreTablesOf}
use Rattle.arrangements.specs.Prefixes.{IsPrefix, IsNoted, without_top}
use Rattle.arrangements.specs.declared.prefixes.Prefix.{Prefix}
use Rattle.arrangements.proofs.Waiting.{built-front, built-cut}
use Rattle.arrangements.proofs.Noted.{used-laid, opened-laid, rising-distinct}
use Rattle.arrangements.proofs.Laid.{stack-finished, stack-waits}

-- of one edge more
pub prefix-laid : (t : VertexTables) (used opened : List Bool) (stack prefix : List ℕ) (block : ℕ → ℕ) (order : ℕ → List ℕ) (e : ℕ)
    → IsTables t → AreTablesOf t block order → length used ≡ length t.edges → length opened ≡ length t.edges → is_member e t.edges ≡ true
    → IsBuilt block (follower block order) t.edges (prefix ++ e ∷ []) → IsPrefix t used opened stack prefix block order
    → (after : List ℕ)
    → after ≡ (if get_or (set used (place_of t.edges e) true) (place_of t.edges (follow_in t e)) false then without_top stack e else without_top stack e ++ follow_in t e ∷ [])
    → IsPrefix t (set used (place_of t.edges e) true) (set opened (get_or t.ranks (place_of t.edges e) 0) true) after (prefix ++ e ∷ []) block order
prefix-laid t used opened stack prefix block order e i a us os m b w after is = record {
  is_used = marks;
  is_open = opened-laid t block order prefix opened e i a os m w.is_open;
  is_stack = is ∙ here;
}
  where
    marks : (p : ℕ) → p < length t.edges → get_or (set used (place_of t.edges e) true) p false ≡ is_member (get_or t.edges p 0) (prefix ++ e ∷ [])
    marks = used-laid t.edges prefix used e (rising-distinct t.edges i.rise) us m w.is_used

    next : ℕ
    next = follow_in t e

    within : is_member next t.edges ≡ true
    within = i.follower_within (place_of t.edges e) (place-below t.edges e m)

    told : get_or (set used (place_of t.edges e) true) (place_of t.edges next) false ≡ is_member (follower block order e) (prefix ++ e ∷ [])
    told = marks (place_of t.edges next) (place-below t.edges next within) ∙ ap (λ (x : ℕ). is_member x (prefix ++ e ∷ [])) (place-holds t.edges next within ∙ a.follows e m)

    option : is_option block (follower block order) t.edges prefix e ≡ true
    option = built-cut block (follower block order) t.edges prefix e [] b

    before : IsBuilt block (follower block order) t.edges prefix
    before = built-front block (follower block order) t.edges prefix (e ∷ []) b

    top : without_top stack e ≡ without_top (map (follower block order) (waiting (follower block order) prefix)) e
    top = ap (λ (s : List ℕ). without_top s e) w.is_stack

    here : (if get_or (set used (place_of t.edges e) true) (place_of t.edges next) false then without_top stack e else without_top stack e ++ next ∷ []) ≡ map (follower block order) (waiting (follower block order) (prefix ++ e ∷ []))
    here = elim (cases_Bool (is_member (follower block order e) (prefix ++ e ∷ []))) [
      | inl y ↦ cond-true (get_or (set used (place_of t.edges e) true) (place_of t.edges next) false) (without_top stack e) (without_top stack e ++ next ∷ []) (told ∙ y) ∙ top ∙ sym (stack-finished block order t.edges a.orders prefix before e option y)
      | inr n ↦ cond-false (get_or (set used (place_of t.edges e) true) (place_of t.edges next) false) (without_top stack e) (without_top stack e ++ next ∷ []) (told ∙ n)
          ∙ (λ j. top j ++ a.follows e m j ∷ []) ∙ sym (stack-waits block order t.edges a.orders prefix before e option n)
    ]

-- a stack without its top is not longer
without-length : (stack : List ℕ) (e : ℕ) → length (without_top stack e) ≤ length stack
without-length stack e = elim (cases_Bool (nat_lt 0 (length stack) && (last_or 0 stack == e))) [
  | inl y ↦ rw y (omega (arith, length-take-le (length stack - 1) stack (omega arith)))
  | inr n ↦ rw n (let q : length stack ≤ length stack = omega arith in q)
]

-- and has no other members
without-member : (stack : List ℕ) (e x : ℕ) → is_member x (without_top stack e) ≡ true → is_member x stack ≡ true
without-member stack e x h = elim (cases_Bool (nat_lt 0 (length stack) && (last_or 0 stack == e))) [
  | inl y ↦
      let m : is_member x (take (length stack - 1) stack) ≡ true = subst (λ (k : List ℕ). is_member x k ≡ true) (cond-true (nat_lt 0 (length stack) && (last_or 0 stack == e)) (take (length stack - 1) stack) stack y) h in
      subst (λ (k : List ℕ). is_member x k ≡ true) (take-append-drop (length stack - 1) stack) (member-append_left x (take (length stack - 1) stack) (drop (length stack - 1) stack) m)
  | inr n ↦ subst (λ (k : List ℕ). is_member x k ≡ true) (cond-false (nat_lt 0 (length stack) && (last_or 0 stack == e)) (take (length stack - 1) stack) stack n) h
]

-- what is noted when one edge more is laid
noted-after : (t : VertexTables) (s k : Prefix) (list : List ℕ) (i : ℕ) → IsTables t → i < length list → is_member (get_or list i 0) t.edges ≡ true → IsNoted t s (take i list)
    → k.used.items ≡ set s.used.items (place_of t.edges (get_or list i 0)) true → k.opened.items ≡ set s.opened.items (get_or t.ranks (place_of t.edges (get_or list i 0)) 0) true
    → vec_capacity k.stack ≡ vec_capacity s.stack → length k.stack.items ≤ length s.stack.items + 1 → ((x : ℕ) → is_member x k.stack.items ≡ true → is_member x t.edges ≡ true)
    → k.stack.items ≡ (if get_or (set s.used.items (place_of t.edges (get_or list i 0)) true) (place_of t.edges (follow_in t (get_or list i 0))) false then without_top s.stack.items (get_or list i 0) else without_top s.stack.items (get_or list i 0) ++ follow_in t (get_or list i 0) ∷ [])
    → IsNoted t k (take (i + 1) list)
noted-after t s k list i w h m n us os room deep within is = subst (IsNoted t k) (sym (take_more list i 0 h)) (record {
  room = record {
    used_each = ap length us ∙ length-set s.used.items (place_of t.edges e) true ∙ n.room.used_each;
    opened_each = ap length os ∙ length-set s.opened.items (get_or t.ranks (place_of t.edges e) 0) true ∙ n.room.opened_each;
    room = omega (arith, room, n.room.room);
  };
  depth = omega (arith, deep, n.depth, length-append (take i list) (e ∷ []));
  within = within;
  right = λ block order a b.
      subst (λ (u : List Bool). IsPrefix t u k.opened.items k.stack.items (take i list ++ e ∷ []) block order) (sym us)
      (subst (λ (v : List Bool). IsPrefix t (set s.used.items (place_of t.edges e) true) v k.stack.items (take i list ++ e ∷ []) block order) (sym os)
      (prefix-laid t s.used.items s.opened.items s.stack.items (take i list) block order e w a n.room.used_each n.room.opened_each m b
      (n.right block order a (built-front block (follower block order) t.edges (take i list) (e ∷ []) b)) k.stack.items is));
})
  where
    e : ℕ
    e = get_or list i 0

-- where its follower has come
pub noted-kept : (t : VertexTables) (s k : Prefix) (list : List ℕ) (i : ℕ) → IsTables t → i < length list → is_member (get_or list i 0) t.edges ≡ true → IsNoted t s (take i list)
    → k.used.items ≡ set s.used.items (place_of t.edges (get_or list i 0)) true → k.opened.items ≡ set s.opened.items (get_or t.ranks (place_of t.edges (get_or list i 0)) 0) true
    → vec_capacity k.stack ≡ vec_capacity s.stack → get_or (set s.used.items (place_of t.edges (get_or list i 0)) true) (place_of t.edges (follow_in t (get_or list i 0))) false ≡ true
    → k.stack.items ≡ without_top s.stack.items (get_or list i 0) → IsNoted t k (take (i + 1) list)
noted-kept t s k list i w h m n us os room y is = noted-after t s k list i w h m n us os room
    (omega (arith, ap length is, without-length s.stack.items (get_or list i 0)))
    (λ x q. n.within x (without-member s.stack.items (get_or list i 0) x (subst (λ (z : List ℕ). is_member x z ≡ true) is q)))
    (is ∙ sym (cond-true (get_or (set s.used.items (place_of t.edges (get_or list i 0)) true) (place_of t.edges (follow_in t (get_or list i 0))) false) (without_top s.stack.items (get_or list i 0)) (without_top s.stack.items (get_or list i 0) ++ follow_in t (get_or list i 0) ∷ []) y))

-- where it has not
pub noted-pushed : (t : VertexTables) (s k : Prefix) (list : List ℕ) (i : ℕ) → IsTables t → i < length list → is_member (get_or list i 0) t.edges ≡ true → IsNoted t s (take i list)
    → k.used.items ≡ set s.used.items (place_of t.edges (get_or list i 0)) true → k.opened.items ≡ set s.opened.items (get_or t.ranks (place_of t.edges (get_or list i 0)) 0) true
    → vec_capacity k.stack ≡ vec_capacity s.stack → get_or (set s.used.items (place_of t.edges (get_or list i 0)) true) (place_of t.edges (follow_in t (get_or list i 0))) false ≡ false
    → k.stack.items ≡ without_top s.stack.items (get_or list i 0) ++ follow_in t (get_or list i 0) ∷ [] → IsNoted t k (take (i + 1) list)
noted-pushed t s k list i w h m n us os room y is = noted-after t s k list i w h m n us os room
    (omega (arith, ap length is, length-append (without_top s.stack.items (get_or list i 0)) (follow_in t (get_or list i 0) ∷ []), without-length s.stack.items (get_or list i 0)))
    (λ x q. elim (member-append_cases x (without_top s.stack.items (get_or list i 0)) (follow_in t (get_or list i 0) ∷ []) (subst (λ (z : List ℕ). is_member x z ≡ true) is q)) [
      | inl a ↦ n.within x (without-member s.stack.items (get_or list i 0) x a)
      | inr b ↦ elim (member-cases x (follow_in t (get_or list i 0)) [] b) [
        | inl f ↦ subst (λ (z : ℕ). is_member z t.edges ≡ true) f (w.follower_within (place_of t.edges (get_or list i 0)) (place-below t.edges (get_or list i 0) m))
        | inr z ↦ absurd (both_ways (is_member x []) refl z)
      ]
    ])
    (is ∙ sym (cond-false (get_or (set s.used.items (place_of t.edges (get_or list i 0)) true) (place_of t.edges (follow_in t (get_or list i 0))) false) (without_top s.stack.items (get_or list i 0)) (without_top s.stack.items (get_or list i 0) ++ follow_in t (get_or list i 0) ∷ []) y))
