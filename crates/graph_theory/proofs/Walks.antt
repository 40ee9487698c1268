-- Walks: joining, cutting, and what lies on them.
use Rattle.std.proofs.Common.{◌≡◌, ℕ, ◌<◌, ◌⊎◌, inl, inr, Bool, true, false, List, [], ◌∷◌, ◌++◌, refl, sym, ap, subst}
use Rattle.std.proofs.lemmas.Bool.{cases_Bool, both_ways, true≢false}
use Rattle.permutations.specs.Members.{is_member}
use Rattle.permutations.proofs.Members.{member-head, member-tail, member-cases, member-append_left, member-append_right, member-append_cases}
use Rattle.multigraph.specs.Graph.{Multigraph, edge_count, is_end, other_end}
use Rattle.graph_theory.specs.Path.{walk_end, walk_starts, walk_vertices, IsWalk}
use Rattle.graph_theory.proofs.Ends.{end-cases}

-- where two lists of edges lead, one after the other
pub end-append : (g : Multigraph) (x : ℕ) (es fs : List ℕ) → walk_end g x (es ++ fs) ≡ walk_end g (walk_end g x es) fs
end-append g x [] fs = refl
end-append g x (e ∷ es) fs = end-append g (other_end g e x) es fs

-- the vertices at which the edges of two lists are entered
pub starts-append : (g : Multigraph) (x : ℕ) (es fs : List ℕ) → walk_starts g x (es ++ fs) ≡ walk_starts g x es ++ walk_starts g (walk_end g x es) fs
starts-append g x [] fs = refl
starts-append g x (e ∷ es) fs = ap (λ (l : List ℕ). x ∷ l) (starts-append g (other_end g e x) es fs)

-- the vertices met along two lists of edges
pub vertices-append : (g : Multigraph) (x : ℕ) (es fs : List ℕ) → walk_vertices g x (es ++ fs) ≡ walk_starts g x es ++ walk_vertices g (walk_end g x es) fs
vertices-append g x [] fs = refl
vertices-append g x (e ∷ es) fs = ap (λ (l : List ℕ). x ∷ l) (vertices-append g (other_end g e x) es fs)

-- two walks, the second from where the first leads, are one
pub walk-append : (g : Multigraph) (x : ℕ) (es fs : List ℕ) → IsWalk g x es → IsWalk g (walk_end g x es) fs → IsWalk g x (es ++ fs)
walk-append g x [] fs w v = v
walk-append g x (e ∷ es) fs w v = (w.0, walk-append g (other_end g e x) es fs w.1 v)

-- the first part of a walk is one
pub walk-left : (g : Multigraph) (x : ℕ) (es fs : List ℕ) → IsWalk g x (es ++ fs) → IsWalk g x es
walk-left g x [] fs w = tt
walk-left g x (e ∷ es) fs w = (w.0, walk-left g (other_end g e x) es fs w.1)

-- the second part of a walk is one, from where the first leads
pub walk-right : (g : Multigraph) (x : ℕ) (es fs : List ℕ) → IsWalk g x (es ++ fs) → IsWalk g (walk_end g x es) fs
walk-right g x [] fs w = w
walk-right g x (e ∷ es) fs w = walk-right g (other_end g e x) es fs w.1

-- the edges of a walk are edges
pub walk-edge : (g : Multigraph) (x : ℕ) (es : List ℕ) → IsWalk g x es → (h : ℕ) → is_member h es ≡ true → h < edge_count g
walk-edge g x [] w h m = absurd (true≢false (sym m))
walk-edge g x (e ∷ es) w h m = elim (member-cases h e es m) [
  | inl i ↦ subst (λ (k : ℕ). k < edge_count g) i w.0.0
  | inr t ↦ walk-edge g (other_end g e x) es w.1 h t
]

-- the first vertex of a walk is met
pub first-met : (g : Multigraph) (x : ℕ) (es : List ℕ) → is_member x (walk_vertices g x es) ≡ true
first-met g x [] = member-head x []
first-met g x (e ∷ es) = member-head x (walk_vertices g (other_end g e x) es)

-- the last vertex of a walk is met
pub last-met : (g : Multigraph) (x : ℕ) (es : List ℕ) → is_member (walk_end g x es) (walk_vertices g x es) ≡ true
last-met g x es = member-append_right (walk_end g x es) (walk_starts g x es) (walk_end g x es ∷ []) (member-head (walk_end g x es) [])

-- a vertex at which an edge is entered is met
pub start-met : (g : Multigraph) (x : ℕ) (es : List ℕ) (z : ℕ) → is_member z (walk_starts g x es) ≡ true → is_member z (walk_vertices g x es) ≡ true
start-met g x es z m = member-append_left z (walk_starts g x es) (walk_end g x es ∷ []) m

-- a vertex that is met is the last, or an edge is entered at it
pub met-cases : (g : Multigraph) (x : ℕ) (es : List ℕ) (z : ℕ) → is_member z (walk_vertices g x es) ≡ true → (is_member z (walk_starts g x es) ≡ true) ⊎ (z ≡ walk_end g x es)
met-cases g x es z m = elim (member-append_cases z (walk_starts g x es) (walk_end g x es ∷ []) m) [
  | inl a ↦ inl a
  | inr b ↦ elim (member-cases z (walk_end g x es) [] b) [ inl i ↦ inr (sym i) | inr n ↦ absurd (true≢false (sym n)) ]
]

-- both ends of each edge of a walk are met
pub edge-met : (g : Multigraph) (x : ℕ) (es : List ℕ) → IsWalk g x es → (h z : ℕ) → is_member h es ≡ true → is_end g z h ≡ true → is_member z (walk_vertices g x es) ≡ true
edge-met g x [] w h z m i = absurd (true≢false (sym m))
edge-met g x (e ∷ es) w h z m i = elim (member-cases h e es m) [
  | inl is ↦ elim (end-cases g e x z w.0.1 (subst (λ (k : ℕ). is_end g z k ≡ true) (sym is) i)) [
    | inl a ↦ subst (λ (k : ℕ). is_member k (x ∷ walk_vertices g (other_end g e x) es) ≡ true) (sym a) (member-head x (walk_vertices g (other_end g e x) es))
    | inr b ↦ member-tail z x (walk_vertices g (other_end g e x) es) (subst (λ (k : ℕ). is_member k (walk_vertices g (other_end g e x) es) ≡ true) (sym b) (first-met g (other_end g e x) es))
  ]
  | inr t ↦ member-tail z x (walk_vertices g (other_end g e x) es) (edge-met g (other_end g e x) es w.1 h z t i)
]

-- each edge of a walk is entered at a vertex that is one of its ends
pub edge-entered : (g : Multigraph) (x : ℕ) (es : List ℕ) → IsWalk g x es → (h : ℕ) → is_member h es ≡ true → (z : ℕ) × (is_end g z h ≡ true) × (is_member z (walk_starts g x es) ≡ true)
edge-entered g x [] w h m = absurd (true≢false (sym m))
edge-entered g x (e ∷ es) w h m = elim (member-cases h e es m) [
  | inl i ↦ (x, subst (λ (k : ℕ). is_end g x k ≡ true) i w.0.1, member-head x (walk_starts g (other_end g e x) es))
  | inr t ↦ let r = edge-entered g (other_end g e x) es w.1 h t in (r.0, r.1, member-tail r.0 x (walk_starts g (other_end g e x) es) r.2)
]

-- a walk cut at the first vertex that passes a test
pub record FirstPassing (g : Multigraph) (t : ℕ → Bool) (x : ℕ) (es : List ℕ) : Type 0 where
  pub front : List ℕ
  pub back : List ℕ
  pub is : es ≡ front ++ back
  pub passes : t (walk_end g x front) ≡ true
  pub before : (z : ℕ) → is_member z (walk_starts g x front) ≡ true → t z ≡ false

-- a walk that meets a vertex that passes a test can be cut at the first one
pub first_passing : (g : Multigraph) (t : ℕ → Bool) (x : ℕ) (es : List ℕ) (z : ℕ) → is_member z (walk_vertices g x es) ≡ true → t z ≡ true → FirstPassing g t x es
first_passing g t x [] z m h = elim (member-cases z x [] m) [
  | inl i ↦ record { front = []; back = []; is = refl; passes = subst (λ (k : ℕ). t k ≡ true) (sym i) h; before = λ y n. absurd (true≢false (sym n)) }
  | inr n ↦ absurd (true≢false (sym n))
]
first_passing g t x (e ∷ es) z m h = elim (cases_Bool (t x)) [
  | inl p ↦ record { front = []; back = e ∷ es; is = refl; passes = p; before = λ y n. absurd (true≢false (sym n)) }
  | inr f ↦ elim (member-cases z x (walk_vertices g (other_end g e x) es) m) [
    | inl i ↦ absurd (both_ways (t x) f (subst (λ (k : ℕ). t k ≡ true) (sym i) h))
    | inr n ↦ later f (first_passing g t (other_end g e x) es z n h)
  ]
]
  where
    later : t x ≡ false → FirstPassing g t (other_end g e x) es → FirstPassing g t x (e ∷ es)
    later f r = record {
      front = e ∷ r.front;
      back = r.back;
      is = ap (λ (l : List ℕ). e ∷ l) r.is;
      passes = r.passes;
      before = λ y n. elim (member-cases y x (walk_starts g (other_end g e x) r.front) n) [ inl i ↦ subst (λ (k : ℕ). t k ≡ false) i f | inr k ↦ r.before y k ];
    }
