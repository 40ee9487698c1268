-- "Equal or on a common cycle" is an equivalence of the edges: two cycles with a common edge hold, for each edge of the one
-- and each edge of the other, a cycle with both.
use Rattle.std.proofs.Common.{◌≡◌, ◌≢◌, ℕ, ◌<◌, ◌⊎◌, inl, inr, Bool, true, false, List, [], ◌∷◌, ◌++◌, reverse, refl, sym, ap, ◌∙◌, subst, arith, append_assoc}
use Rattle.std.proofs.lemmas.Bool.{cases_Bool, both_ways, false_from_ne_true, true≢false}
use Rattle.std.proofs.lemmas.List.{reverse-append, reverse-reverse}
use Rattle.permutations.specs.Members.{is_member, is_distinct}
use Rattle.permutations.proofs.Members.{member-head, member-cases, member-append_left, member-append_right, member-append_cases, member-append_comm, member-reverse, distinct-append_comm, distinct-append_right, distinct-head, distinct-reverse, cut_at, CutAt}
use Rattle.multigraph.specs.Graph.{Multigraph, edge_count, is_end, other_end, IsGraph}
use Rattle.multigraph.proofs.OtherEnd.{other_end-is_end}
use Rattle.graph_theory.specs.Path.{walk_end, walk_starts, walk_vertices, IsWalk, IsPath, IsCycle}
use Rattle.graph_theory.specs.Block.{CommonCycle, SameBlock}
use Rattle.graph_theory.proofs.Ends.{other-differs}
use Rattle.graph_theory.proofs.Walks.{end-append, vertices-append, walk-left, walk-right, walk-edge, first-met, last-met, met-cases, edge-met, edge-entered, first_passing, FirstPassing}
use Rattle.graph_theory.proofs.Reversal.{end-reverse, walk-reverse, vertices-reverse}
use Rattle.graph_theory.proofs.Cycles.{cycle-turn, cycle_of_paths}
use Rattle.graph_theory.proofs.Arcs.{arc-path, Arc, cycle_arc}

-- an ear of the vertices that pass a test: a path through e between two different vertices that pass, no other vertex of
-- which passes; each of its edges but e has an end that fails
pub record Ear (g : Multigraph) (t : ℕ → Bool) (e : ℕ) : Type 0 where
  pub first : ℕ
  pub last : ℕ
  pub along : List ℕ
  pub path : IsPath g first along last
  pub differ : first ≢ last
  pub first_passes : t first ≡ true
  pub last_passes : t last ≡ true
  pub has : is_member e along ≡ true
  pub inner : (z : ℕ) → is_member z (walk_vertices g first along) ≡ true → t z ≡ true → (z ≡ first) ⊎ (z ≡ last)
  pub edges : (k : ℕ) → is_member k along ≡ true → (k ≡ e) ⊎ ((z : ℕ) × (is_end g z k ≡ true) × (t z ≡ false))

-- a path that ends where it begins has no edge
pub path-closed : (g : Multigraph) (x : ℕ) (es : List ℕ) → is_distinct (walk_vertices g x es) ≡ true → walk_end g x es ≡ x → es ≡ []
path-closed g x [] d at = refl
path-closed g x (e ∷ es) d at =
    absurd (both_ways (is_member x (walk_vertices g (other_end g e x) es))
    (distinct-head x (walk_vertices g (other_end g e x) es) d)
    (subst (λ (k : ℕ). is_member k (walk_vertices g (other_end g e x) es) ≡ true) at (last-met g (other_end g e x) es)))

-- a cycle that begins with e, and two different vertices of the rest of it that pass a test, give an ear through e
pub ear_from : (g : Multigraph) (t : ℕ → Bool) (x e : ℕ) (rest : List ℕ) → IsCycle g x (e ∷ rest) → (p q : ℕ) → is_member p (walk_vertices g (other_end g e x) rest) ≡ true → is_member q (walk_vertices g (other_end g e x) rest) ≡ true → p ≢ q → t p ≡ true → t q ≡ true → Ear g t e
ear_from g t x e rest c p q mp mq n tp tq = front_cut (first_passing g t y rest p mp tp)
  where
    y : ℕ
    y = other_end g e x

    -- the rest of the cycle meets no vertex twice
    rest-distinct : is_distinct (walk_vertices g y rest) ≡ true
    rest-distinct = subst (λ (k : ℕ). is_distinct (walk_starts g y rest ++ k ∷ []) ≡ true) (sym c.returns) (distinct-append_comm (x ∷ []) (walk_starts g y rest) c.vertices)

    back_cut : (r : FirstPassing g t y rest) → FirstPassing g t x (reverse r.back) → Ear g t e
    back_cut r s = record {
      first = b;
      last = a;
      along = along;
      path = path;
      differ = differ;
      first_passes = s.passes;
      last_passes = r.passes;
      has = member-append_right e (reverse s.front) (e ∷ r.front) (member-head e r.front);
      inner = inner;
      edges = edges;
    }
      where
        a : ℕ
        a = walk_end g y r.front

        b : ℕ
        b = walk_end g x s.front

        along : List ℕ
        along = reverse s.front ++ e ∷ r.front

        middle : List ℕ
        middle = reverse s.back

        rest-walk : IsWalk g y (r.front ++ r.back)
        rest-walk = subst (IsWalk g y) r.is c.walk.1

        back-walk : IsWalk g a r.back
        back-walk = walk-right g y r.front r.back rest-walk

        back-end : walk_end g a r.back ≡ x
        back-end = sym (end-append g y r.front r.back) ∙ (ap (walk_end g y) (sym r.is) ∙ c.returns)

        turned-walk : IsWalk g x (reverse r.back)
        turned-walk = subst (λ (k : ℕ). IsWalk g k (reverse r.back)) back-end (walk-reverse g a r.back back-walk)

        turned-walk' : IsWalk g x (s.front ++ s.back)
        turned-walk' = subst (IsWalk g x) s.is turned-walk

        turned-end : walk_end g b s.back ≡ a
        turned-end =
            sym (end-append g x s.front s.back) ∙
            (ap (walk_end g x) (sym s.is) ∙
            subst (λ (k : ℕ). walk_end g k (reverse r.back) ≡ a) back-end (end-reverse g a r.back back-walk))

        front-walk : IsWalk g x s.front
        front-walk = walk-left g x s.front s.back turned-walk'

        tail-walk : IsWalk g b s.back
        tail-walk = walk-right g x s.front s.back turned-walk'

        middle-end : walk_end g a middle ≡ b
        middle-end = subst (λ (k : ℕ). walk_end g k middle ≡ b) turned-end (end-reverse g b s.back tail-walk)

        back-end' : walk_end g b (reverse s.front) ≡ x
        back-end' = end-reverse g x s.front front-walk

        back-is : r.back ≡ middle ++ reverse s.front
        back-is = sym (reverse-reverse r.back) ∙ (ap reverse s.is ∙ reverse-append s.front s.back)

        -- the cycle, cut at a and at b
        cut : IsCycle g x ((e ∷ (r.front ++ middle)) ++ reverse s.front)
        cut = subst (IsCycle g x) (ap (λ (l : List ℕ). e ∷ l) (r.is ∙ (ap (λ (l : List ℕ). r.front ++ l) back-is ∙ sym (append_assoc r.front middle (reverse s.front))))) c

        at-b : walk_end g x (e ∷ (r.front ++ middle)) ≡ b
        at-b = end-append g y r.front middle ∙ middle-end

        turned : IsCycle g b (along ++ middle)
        turned = subst (IsCycle g b) (sym (append_assoc (reverse s.front) (e ∷ r.front) middle))
            (subst (λ (k : ℕ). IsCycle g k (reverse s.front ++ (e ∷ (r.front ++ middle)))) at-b (cycle-turn g x (e ∷ (r.front ++ middle)) (reverse s.front) cut))

        along-end : walk_end g b along ≡ a
        along-end = end-append g b (reverse s.front) (e ∷ r.front) ∙ ap (λ (k : ℕ). walk_end g k (e ∷ r.front)) back-end'

        -- a vertex of the rest that passes is met on the way from b
        passing-met : (z : ℕ) → is_member z (walk_vertices g y rest) ≡ true → t z ≡ true → is_member z (walk_vertices g b s.back) ≡ true
        passing-met z m tz = elim (member-append_cases z (walk_starts g y r.front) (walk_vertices g a r.back) (subst (λ (l : List ℕ). is_member z l ≡ true) (vertices-append g y r.front r.back) (subst (λ (l : List ℕ). is_member z (walk_vertices g y l) ≡ true) r.is m))) [
          | inl u ↦ absurd (both_ways (t z) (r.before z u) tz)
          | inr v ↦ elim (member-append_cases z (walk_starts g x s.front) (walk_vertices g b s.back) (subst (λ (l : List ℕ). is_member z l ≡ true) (vertices-append g x s.front s.back) (subst (λ (l : List ℕ). is_member z (walk_vertices g x l) ≡ true) s.is (subst (λ (k : ℕ). is_member z (walk_vertices g k (reverse r.back)) ≡ true) back-end (ap (is_member z) (vertices-reverse g a r.back back-walk) ∙ (member-reverse z (walk_vertices g a r.back) ∙ v)))))) [
            | inl u ↦ absurd (both_ways (t z) (s.before z u) tz)
            | inr w ↦ w
          ]
        ]

        -- the vertices on the way from b are all different
        tail-distinct : is_distinct (walk_vertices g b s.back) ≡ true
        tail-distinct = distinct-append_right (walk_starts g x s.front) (walk_vertices g b s.back)
            (subst (λ (l : List ℕ). is_distinct l ≡ true) (vertices-append g x s.front s.back)
            (subst (λ (l : List ℕ). is_distinct (walk_vertices g x l) ≡ true) s.is
            (subst (λ (k : ℕ). is_distinct (walk_vertices g k (reverse r.back)) ≡ true) back-end
            (subst (λ (l : List ℕ). is_distinct l ≡ true) (sym (vertices-reverse g a r.back back-walk))
            (distinct-reverse (walk_vertices g a r.back)
            (distinct-append_right (walk_starts g y r.front) (walk_vertices g a r.back)
            (subst (λ (l : List ℕ). is_distinct l ≡ true) (vertices-append g y r.front r.back)
            (subst (λ (l : List ℕ). is_distinct (walk_vertices g y l) ≡ true) r.is rest-distinct))))))))

        alone : s.back ≡ [] → (z : ℕ) → is_member z (walk_vertices g b s.back) ≡ true → z ≡ b
        alone o z m = elim (member-cases z b [] (subst (λ (l : List ℕ). is_member z (walk_vertices g b l) ≡ true) o m)) [ inl i ↦ sym i | inr k ↦ absurd (true≢false (sym k)) ]

        differ : b ≢ a
        differ i =
            let o : s.back ≡ [] = path-closed g b s.back tail-distinct (turned-end ∙ sym i) in
            n (alone o p (passing-met p mp tp) ∙ sym (alone o q (passing-met q mq tq)))

        path : IsPath g b along a
        path = arc-path g b along middle a turned along-end differ

        -- a vertex between x and b that passes is b
        near-b : (z : ℕ) → is_member z (walk_vertices g x s.front) ≡ true → t z ≡ true → z ≡ b
        near-b z m tz = elim (met-cases g x s.front z m) [ inl u ↦ absurd (both_ways (t z) (s.before z u) tz) | inr i ↦ i ]

        -- a vertex between y and a that passes is a
        near-a : (z : ℕ) → is_member z (walk_vertices g y r.front) ≡ true → t z ≡ true → z ≡ a
        near-a z m tz = elim (met-cases g y r.front z m) [ inl u ↦ absurd (both_ways (t z) (r.before z u) tz) | inr i ↦ i ]

        inner : (z : ℕ) → is_member z (walk_vertices g b along) ≡ true → t z ≡ true → (z ≡ b) ⊎ (z ≡ a)
        inner z m tz = elim (member-append_cases z (walk_starts g b (reverse s.front)) (walk_vertices g x (e ∷ r.front)) (subst (λ (k : ℕ). is_member z (walk_starts g b (reverse s.front) ++ walk_vertices g k (e ∷ r.front)) ≡ true) back-end' (subst (λ (l : List ℕ). is_member z l ≡ true) (vertices-append g b (reverse s.front) (e ∷ r.front)) m))) [
          | inl u ↦ inl (near-b z (sym (member-reverse z (walk_vertices g x s.front)) ∙ (ap (is_member z) (sym (vertices-reverse g x s.front front-walk)) ∙ member-append_left z (walk_starts g b (reverse s.front)) (walk_end g b (reverse s.front) ∷ []) u)) tz)
          | inr v ↦ elim (member-cases z x (walk_vertices g y r.front) v) [
            | inl i ↦ inl (near-b z (subst (λ (k : ℕ). is_member k (walk_vertices g x s.front) ≡ true) i (first-met g x s.front)) tz)
            | inr w ↦ inr (near-a z w tz)
          ]
        ]

        edges : (k : ℕ) → is_member k along ≡ true → (k ≡ e) ⊎ ((z : ℕ) × (is_end g z k ≡ true) × (t z ≡ false))
        edges k m = elim (member-append_cases k (reverse s.front) (e ∷ r.front) m) [
          | inl u ↦ let w = edge-entered g x s.front front-walk k (sym (member-reverse k s.front) ∙ u) in inr (w.0, w.1, s.before w.0 w.2)
          | inr v ↦ elim (member-cases k e r.front v) [
            | inl i ↦ inl (sym i)
            | inr o ↦ let w = edge-entered g y r.front (walk-left g y r.front r.back rest-walk) k o in inr (w.0, w.1, r.before w.0 w.2)
          ]
        ]

    front_cut : FirstPassing g t y rest → Ear g t e
    front_cut r = back_cut r (first_passing g t x (reverse r.back) (walk_end g y r.front) met r.passes)
      where
        back-walk : IsWalk g (walk_end g y r.front) r.back
        back-walk = walk-right g y r.front r.back (subst (IsWalk g y) r.is c.walk.1)

        back-end : walk_end g (walk_end g y r.front) r.back ≡ x
        back-end = sym (end-append g y r.front r.back) ∙ (ap (walk_end g y) (sym r.is) ∙ c.returns)

        met : is_member (walk_end g y r.front) (walk_vertices g x (reverse r.back)) ≡ true
        met = subst (λ (k : ℕ). is_member (walk_end g y r.front) (walk_vertices g k (reverse r.back)) ≡ true) back-end
            (subst (λ (k : ℕ). is_member k (walk_vertices g (walk_end g (walk_end g y r.front) r.back) (reverse r.back)) ≡ true) (end-reverse g (walk_end g y r.front) r.back back-walk) (last-met g (walk_end g (walk_end g y r.front) r.back) (reverse r.back)))

-- a cycle begun with one of its edges
pub record BegunWith (g : Multigraph) (es : List ℕ) (e : ℕ) : Type 0 where
  pub start : ℕ
  pub rest : List ℕ
  pub cycle : IsCycle g start (e ∷ rest)
  pub same_edges : (h : ℕ) → is_member h (e ∷ rest) ≡ is_member h es

-- a cycle can be begun with each of its edges
pub cycle_with : (g : Multigraph) (x : ℕ) (es : List ℕ) (e : ℕ) → IsCycle g x es → is_member e es ≡ true → BegunWith g es e
cycle_with g x es e c m = made (cut_at e es m)
  where
    made : CutAt e es → BegunWith g es e
    made k = record {
      start = walk_end g x k.front;
      rest = k.back ++ k.front;
      cycle = cycle-turn g x k.front (e ∷ k.back) (subst (IsCycle g x) k.is c);
      same_edges = λ h. member-append_comm h (e ∷ k.back) k.front ∙ ap (is_member h) (sym k.is);
    }

-- a vertex that is met on a cycle is one at which an edge is entered
pub cycle-met : (g : Multigraph) (x : ℕ) (es : List ℕ) → IsCycle g x es → (z : ℕ) → is_member z (walk_vertices g x es) ≡ true → is_member z (walk_starts g x es) ≡ true
cycle-met g x [] c z m = absurd (omega (arith, c.two))
cycle-met g x (e ∷ es) c z m = elim (met-cases g x (e ∷ es) z m) [
  | inl s ↦ s
  | inr i ↦ subst (λ (k : ℕ). is_member k (x ∷ walk_starts g (other_end g e x) es) ≡ true) (sym (i ∙ c.returns)) (member-head x (walk_starts g (other_end g e x) es))
]

-- both ends of an edge of a cycle are vertices of it
pub cycle-edge_ends : (g : Multigraph) (x : ℕ) (es : List ℕ) → IsCycle g x es → (h z : ℕ) → is_member h es ≡ true → is_end g z h ≡ true → is_member z (walk_starts g x es) ≡ true
cycle-edge_ends g x es c h z m i = cycle-met g x es c z (edge-met g x es c.walk h z m i)

-- a cycle with e and f, and a vertex test that both ends of f pass, give an ear through e, where f is not e
pub ear_of_cycle : (g : Multigraph) → IsGraph g → (t : ℕ → Bool) (x : ℕ) (es : List ℕ) (e f : ℕ) → IsCycle g x es → is_member e es ≡ true → is_member f es ≡ true → f ≢ e → ((z : ℕ) → is_end g z f ≡ true → t z ≡ true) → Ear g t e
ear_of_cycle g i t x es e f c me mf n ends = made (cycle_with g x es e c me)
  where
    made : BegunWith g es e → Ear g t e
    made b = elim (member-cases f e b.rest (b.same_edges f ∙ mf)) [ inl j ↦ absurd (n (sym j)) | inr m ↦ entered m (edge-entered g (other_end g e b.start) b.rest b.cycle.walk.1 f m) ]
      where
        entered : is_member f b.rest ≡ true → (z : ℕ) × (is_end g z f ≡ true) × (is_member z (walk_starts g (other_end g e b.start) b.rest) ≡ true) → Ear g t e
        entered m z =
            let l : f < edge_count g = walk-edge g (other_end g e b.start) b.rest b.cycle.walk.1 f m in
            ear_from g t b.start e b.rest b.cycle z.0 (other_end g f z.0)
            (edge-met g (other_end g e b.start) b.rest b.cycle.walk.1 f z.0 m z.1)
            (edge-met g (other_end g e b.start) b.rest b.cycle.walk.1 f (other_end g f z.0) m (other_end-is_end g f z.0))
            (λ j. other-differs g i f z.0 l z.1 (sym j))
            (ends z.0 z.1)
            (ends (other_end g f z.0) (other_end-is_end g f z.0))

-- an ear of the vertices of a cycle, through an edge that is not on it, and an arc of the cycle are a cycle
pub cycle_of_ear : (g : Multigraph) (x : ℕ) (es : List ℕ) → IsCycle g x es → (e h : ℕ) → is_member e es ≡ false → is_member h es ≡ true → Ear g (λ z. is_member z (walk_starts g x es)) e → CommonCycle g e h
cycle_of_ear g x es c e h ne mh r = made (cycle_arc g x es r.last r.first h c r.last_passes r.first_passes (λ i. r.differ (sym i)) mh)
  where
    made : Arc g x es r.last r.first h → CommonCycle g e h
    made q = record {
      start = r.first;
      along = r.along ++ q.along;
      cycle = cycle_of_paths g r.first r.last r.along q.along r.path q.path r.differ apart (λ z m k. r.inner z m (q.vertices_on z k));
      first_on = member-append_left e r.along q.along r.has;
      second_on = member-append_right h r.along q.along q.has;
    }
      where
        apart : (k : ℕ) → is_member k r.along ≡ true → is_member k q.along ≡ false
        apart k m = false_from_ne_true (is_member k q.along) (λ o. elim (r.edges k m) [
          | inl i ↦ both_ways (is_member e es) ne (subst (λ (j : ℕ). is_member j es ≡ true) i (q.edges_on k o))
          | inr w ↦ both_ways (is_member w.0 (walk_starts g x es)) w.2 (cycle-edge_ends g x es c k w.0 (q.edges_on k o) w.1)
        ])

-- two cycles with a common edge: each edge of the one and each edge of the other have a common cycle
pub common-transitive : (g : Multigraph) → IsGraph g → (e f h : ℕ) → CommonCycle g e f → CommonCycle g f h → CommonCycle g e h
common-transitive g i e f h c d = elim (cases_Bool (is_member e d.along)) [
  | inl m ↦ record { start = d.start; along = d.along; cycle = d.cycle; first_on = m; second_on = d.second_on }
  | inr n ↦
      cycle_of_ear g d.start d.along d.cycle e h n d.second_on
      (ear_of_cycle g i (λ z. is_member z (walk_starts g d.start d.along)) c.start c.along e f c.cycle c.first_on c.second_on
      (λ j. both_ways (is_member e d.along) n (subst (λ (k : ℕ). is_member k d.along ≡ true) j d.first_on))
      (λ z k. cycle-edge_ends g d.start d.along d.cycle f z d.first_on k))
]

-- a common cycle of e and f is one of f and e
pub common-symmetric : (g : Multigraph) (e f : ℕ) → CommonCycle g e f → CommonCycle g f e
common-symmetric g e f c = record { start = c.start; along = c.along; cycle = c.cycle; first_on = c.second_on; second_on = c.first_on }

-- "in the same block" is reflexive
pub block-reflexive : (g : Multigraph) (e : ℕ) → SameBlock g e e
block-reflexive g e = inl refl

-- "in the same block" is symmetric
pub block-symmetric : (g : Multigraph) (e f : ℕ) → SameBlock g e f → SameBlock g f e
block-symmetric g e f s = elim s [ inl i ↦ inl (sym i) | inr c ↦ inr (common-symmetric g e f c) ]

-- "in the same block" is transitive
pub block-transitive : (g : Multigraph) → IsGraph g → (e f h : ℕ) → SameBlock g e f → SameBlock g f h → SameBlock g e h
block-transitive g i e f h s t = elim s [
  | inl j ↦ subst (λ (k : ℕ). SameBlock g k h) (sym j) t
  | inr c ↦ elim t [
    | inl j ↦ inr (subst (λ (k : ℕ). CommonCycle g e k) j c)
    | inr d ↦ inr (common-transitive g i e f h c d)
  ]
]
