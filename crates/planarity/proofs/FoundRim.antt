-- A cycle of the contracted graph that avoids the merged vertex, in parts, and single edges of the graph: a system of paths.
use Rattle.std.proofs.Common.{◌≡◌, ◌≢◌, ℕ, zero, suc, ◌<◌, ◌⊎◌, inl, inr, true, false, if◌then◌else◌, ltb, List, [], ◌∷◌, ◌++◌, length, get_or, refl, sym, ap, ◌∙◌, subst, arith}
use Rattle.std.proofs.lemmas.Bool.{cases_lt, both_ways, lt-ltb, le-ltb}
use Rattle.permutations.specs.Members.{is_member, is_distinct}
use Rattle.permutations.proofs.Members.{member-head, member-append_left, member-append_right, no_member-cons, distinct-append, distinct-append_left, distinct-append_right, distinct-append_apart}
use Rattle.multigraph.specs.Graph.{Multigraph, other_end}
use Rattle.graph_theory.specs.Path.{walk_end, walk_starts, walk_vertices, IsWalk, IsPath}
use Rattle.graph_theory.proofs.Walks.{met-cases}
use Rattle.planarity.specs.Circle.{part_starts, LeadOn, IsCircle}

-- where part k begins, and its edges; past the last part it is home
abbrev pub start_at : ℕ → List (ℕ × List ℕ) → ℕ → ℕ
start_at home parts k = (get_or parts k (home, [])).0

abbrev pub edges_at : ℕ → List (ℕ × List ℕ) → ℕ → List ℕ
edges_at home parts k = (get_or parts k (home, [])).1

-- a part begins at its start, and leads to the start of the next one
part-walk : (h : Multigraph) (home : ℕ) (parts : List (ℕ × List ℕ)) (k : ℕ) → LeadOn h home parts → k < length parts
    → (0 < length (edges_at home parts k)) × IsWalk h (start_at home parts k) (edges_at home parts k) × (walk_end h (start_at home parts k) (edges_at home parts k) ≡ start_at home parts (suc k))
part-walk h home [] k a l = absurd (omega arith)
part-walk h home (part ∷ []) zero a l = a
part-walk h home (part ∷ []) (suc k) a l = absurd (omega arith)
part-walk h home (part ∷ (more ∷ parts)) zero a l = a.0
part-walk h home (part ∷ (more ∷ parts)) (suc k) a l = part-walk h home (more ∷ parts) k a.1 (omega arith)

-- the vertices of a part are among all
part-all : (h : Multigraph) (home : ℕ) (parts : List (ℕ × List ℕ)) (k z : ℕ) → k < length parts → is_member z (walk_starts h (start_at home parts k) (edges_at home parts k)) ≡ true → is_member z (part_starts h parts) ≡ true
part-all h home [] k z l m = absurd (omega arith)
part-all h home (part ∷ parts) zero z l m = member-append_left z (walk_starts h part.0 part.1) (part_starts h parts) m
part-all h home (part ∷ parts) (suc k) z l m = member-append_right z (walk_starts h part.0 part.1) (part_starts h parts) (part-all h home parts k z (omega arith) m)

-- where these have no repetition, those of a part have none
part-distinct : (h : Multigraph) (home : ℕ) (parts : List (ℕ × List ℕ)) (k : ℕ) → k < length parts → is_distinct (part_starts h parts) ≡ true → is_distinct (walk_starts h (start_at home parts k) (edges_at home parts k)) ≡ true
part-distinct h home [] k l d = absurd (omega arith)
part-distinct h home (part ∷ parts) zero l d = distinct-append_left (walk_starts h part.0 part.1) (part_starts h parts) d
part-distinct h home (part ∷ parts) (suc k) l d = part-distinct h home parts k (omega arith) (distinct-append_right (walk_starts h part.0 part.1) (part_starts h parts) d)

-- and different parts have none in common
part-once : (h : Multigraph) (home : ℕ) (parts : List (ℕ × List ℕ)) (k j z : ℕ) → k < length parts → j < length parts → is_distinct (part_starts h parts) ≡ true
    → is_member z (walk_starts h (start_at home parts k) (edges_at home parts k)) ≡ true → is_member z (walk_starts h (start_at home parts j) (edges_at home parts j)) ≡ true → k ≡ j
part-once h home [] k j z l i d m n = absurd (omega arith)
part-once h home (part ∷ parts) zero zero z l i d m n = refl
part-once h home (part ∷ parts) zero (suc j) z l i d m n = absurd (both_ways (is_member z (part_starts h parts)) (distinct-append_apart (walk_starts h part.0 part.1) (part_starts h parts) d z m) (part-all h home parts j z (omega arith) n))
part-once h home (part ∷ parts) (suc k) zero z l i d m n = absurd (both_ways (is_member z (part_starts h parts)) (distinct-append_apart (walk_starts h part.0 part.1) (part_starts h parts) d z n) (part-all h home parts k z (omega arith) m))
part-once h home (part ∷ parts) (suc k) (suc j) z l i d m n = ap suc (part-once h home parts k j z (omega arith) (omega arith) (distinct-append_right (walk_starts h part.0 part.1) (part_starts h parts) d) m n)

-- a walk with edges begins at its first vertex
first-start : (h : Multigraph) (a : ℕ) (es : List ℕ) → 0 < length es → is_member a (walk_starts h a es) ≡ true
first-start h a [] l = absurd (omega arith)
first-start h a (e ∷ es) l = member-head a (walk_starts h (other_end h e a) es)

module _ (h : Multigraph) (w : ℕ) (first : ℕ × List ℕ) (others : List (ℕ × List ℕ)) (c : IsCircle h w first.0 (first ∷ others)) (two : 0 < length others) where
  abbrev parts : List (ℕ × List ℕ)
  parts = first ∷ others

  abbrev start : ℕ → ℕ
  start = start_at first.0 (first ∷ others)

  abbrev edges : ℕ → List ℕ
  edges = edges_at first.0 (first ∷ others)

  -- the part that comes after part k
  abbrev pub after : ℕ → ℕ
  after k = (if ltb (suc k) (suc (length others)) then suc k else 0)

  after-cases : (k : ℕ) → k < length parts → (after k < length parts) × (start (suc k) ≡ start (after k)) × (after k ≢ k)
  after-cases k l = elim (cases_lt (suc k) (suc (length others))) [
    | inl a ↦ let t : ltb (suc k) (suc (length others)) ≡ true = lt-ltb (suc k) (suc (length others)) a in rw t (a, refl, λ q. omega (arith, q))
    | inr a ↦ let t : ltb (suc k) (suc (length others)) ≡ false = le-ltb (suc k) (suc (length others)) a in rw t (omega arith, past others k (omega (arith, l, a)), λ q. omega (arith, q, a, two))
  ]
    where
      past : (l : List (ℕ × List ℕ)) (k : ℕ) → k ≡ length l → (get_or l k (first.0, [])).0 ≡ first.0
      past [] k q = refl
      past (p ∷ l) zero q = absurd (omega arith)
      past (p ∷ l) (suc k) q = past l k (omega arith)

  pub rim-walk : (k : ℕ) → k < length parts → IsWalk h (start k) (edges k)
  rim-walk k l = (part-walk h first.0 parts k c.lead_on l).1

  pub rim-arrives : (k : ℕ) → k < length parts → walk_end h (start k) (edges k) ≡ start (after k)
  rim-arrives k l = (part-walk h first.0 parts k c.lead_on l).2 ∙ (after-cases k l).1

  start-on : (k : ℕ) → k < length parts → is_member (start k) (walk_starts h (start k) (edges k)) ≡ true
  start-on k l = first-start h (start k) (edges k) ((part-walk h first.0 parts k c.lead_on l).0)

  -- parts begin at different vertices
  pub start-once : (k j : ℕ) → k < length parts → j < length parts → start k ≡ start j → k ≡ j
  start-once k j l i q = part-once h first.0 parts k j (start k) l i c.once (start-on k l) (subst (λ z. is_member z (walk_starts h (start j) (edges j)) ≡ true) (sym q) (start-on j i))

  -- none of which is w
  pub start-avoids : (k : ℕ) → k < length parts → start k ≢ w
  start-avoids k l q = both_ways (is_member w (part_starts h parts)) c.avoids (subst (λ z. is_member z (part_starts h parts) ≡ true) q (part-all h first.0 parts k (start k) l (start-on k l)))

  -- a vertex of part k is entered in it, or is the start of the next one
  rim-cases : (k z : ℕ) → k < length parts → is_member z (walk_vertices h (start k) (edges k)) ≡ true → (is_member z (walk_starts h (start k) (edges k)) ≡ true) ⊎ (z ≡ start (after k))
  rim-cases k z l m = elim (met-cases h (start k) (edges k) z m) [ inl a ↦ inl a | inr a ↦ inr (a ∙ rim-arrives k l) ]

  -- it is not w
  pub rim-avoids : (k z : ℕ) → k < length parts → is_member z (walk_vertices h (start k) (edges k)) ≡ true → z ≢ w
  rim-avoids k z l m q = elim (rim-cases k z l m) [
    | inl a ↦ both_ways (is_member w (part_starts h parts)) c.avoids (subst (λ z. is_member z (part_starts h parts) ≡ true) q (part-all h first.0 parts k z l a))
    | inr a ↦ start-avoids (after k) ((after-cases k l).0) (sym a ∙ q)
  ]

  -- the part is a path
  pub rim-path : (k : ℕ) → k < length parts → IsPath h (start k) (edges k) (start (after k))
  rim-path k l = record {
    walk = rim-walk k l;
    arrives = rim-arrives k l;
    vertices = subst (λ z. is_distinct (walk_starts h (start k) (edges k) ++ z ∷ []) ≡ true) (sym (rim-arrives k l))
        (distinct-append (walk_starts h (start k) (edges k)) (start (after k) ∷ []) (part-distinct h first.0 parts k l c.once) refl
        (λ z m. no_member-cons z (start (after k)) [] (λ q. (after-cases k l).2 (part-once h first.0 parts (after k) k z ((after-cases k l).0) l c.once (subst (λ v. is_member v (walk_starts h (start (after k)) (edges (after k))) ≡ true) q (start-on (after k) ((after-cases k l).0))) m)) refl));
  }

  -- a start on part k is that of part k or of the next one
  pub rim-start : (k j : ℕ) → k < length parts → j < length parts → is_member (start j) (walk_vertices h (start k) (edges k)) ≡ true → (j ≡ k) ⊎ (j ≡ after k)
  rim-start k j l i m = elim (rim-cases k (start j) l m) [
    | inl a ↦ inl (part-once h first.0 parts j k (start j) i l c.once (start-on j i) a)
    | inr a ↦ inr (start-once j (after k) i ((after-cases k l).0) a)
  ]

  -- a vertex of two parts is a start
  pub rim-common : (k j z : ℕ) → k < length parts → j < length parts → k ≢ j → is_member z (walk_vertices h (start k) (edges k)) ≡ true → is_member z (walk_vertices h (start j) (edges j)) ≡ true → (i : ℕ) × (i < length parts) × (start i ≡ z)
  rim-common k j z l i d m n = elim (rim-cases k z l m) [
    | inr a ↦ (after k, (after-cases k l).0, sym a)
    | inl a ↦ elim (rim-cases j z i n) [
      | inr b ↦ (after j, (after-cases j i).0, sym b)
      | inl b ↦ absurd (d (part-once h first.0 parts k j z l i c.once a b))
    ]
  ]

  pub after-in : (k : ℕ) → k < length parts → after k < length parts
  after-in k l = (after-cases k l).0
