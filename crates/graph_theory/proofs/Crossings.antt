-- A cycle with edges on both sides of a division has two vertices that the sides have in common.
use Rattle.std.proofs.Common.{◌≡◌, ◌≢◌, ℕ, ◌⊎◌, inl, inr, Bool, true, false, not, List, [], ◌∷◌, ◌++◌, refl, sym, ap, ◌∙◌, subst, append_assoc}
use Rattle.std.proofs.lemmas.Bool.{cases_Bool, both_ways, false_from_ne_true, true≢false}
use Rattle.permutations.specs.Members.{is_member, is_distinct}
use Rattle.permutations.proofs.Members.{member-head, member-tail, member-cases, member-append_right, no_member-head, distinct-append_left, distinct-head}
use Rattle.multigraph.specs.Graph.{Multigraph, is_end, other_end}
use Rattle.multigraph.proofs.OtherEnd.{other_end-is_end}
use Rattle.graph_theory.specs.Path.{walk_end, walk_starts, IsWalk, IsCycle}
use Rattle.graph_theory.specs.Block.{SameBlock}
use Rattle.graph_theory.specs.Side.{IsCommon}
use Rattle.graph_theory.proofs.Walks.{starts-append, walk-left, walk-right, walk-edge}
use Rattle.graph_theory.proofs.Cycles.{cycle-turn}
use Rattle.graph_theory.proofs.Exchange.{cycle_with, BegunWith}

-- a list of edges cut at the first one for which the test answers b
pub record FirstEdge (s : ℕ → Bool) (b : Bool) (es : List ℕ) : Type 0 where
  pub front : List ℕ
  pub edge : ℕ
  pub back : List ℕ
  pub is : es ≡ front ++ edge ∷ back
  pub answers : s edge ≡ b
  pub before : (k : ℕ) → is_member k front ≡ true → s k ≡ not b

-- the test answers b or the opposite
answers-either : (b c : Bool) → (c ≡ b) ⊎ (c ≡ not b)
answers-either true true = inl refl
answers-either true false = inr refl
answers-either false true = inr refl
answers-either false false = inl refl

-- a list with an edge for which the test answers b can be cut at the first one
pub first_edge : (s : ℕ → Bool) (b : Bool) (es : List ℕ) (k : ℕ) → is_member k es ≡ true → s k ≡ b → FirstEdge s b es
first_edge s b [] k m h = absurd (true≢false (sym m))
first_edge s b (e ∷ es) k m h = elim (answers-either b (s e)) [
  | inl y ↦ record { front = []; edge = e; back = es; is = refl; answers = y; before = λ j n. absurd (true≢false (sym n)) }
  | inr n ↦ elim (member-cases k e es m) [
    | inl i ↦ record { front = []; edge = e; back = es; is = refl; answers = ap s i ∙ h; before = λ j o. absurd (true≢false (sym o)) }
    | inr t ↦ later n (first_edge s b es k t h)
  ]
]
  where
    later : s e ≡ not b → FirstEdge s b es → FirstEdge s b (e ∷ es)
    later n r = record {
      front = e ∷ r.front;
      edge = r.edge;
      back = r.back;
      is = ap (λ (l : List ℕ). e ∷ l) r.is;
      answers = r.answers;
      before = λ j o. elim (member-cases j e r.front o) [ inl i ↦ subst (λ (k : ℕ). s k ≡ not b) i n | inr q ↦ r.before j q ];
    }

-- the last vertex of a walk with an edge is an end of one of its edges
pub last_edge : (g : Multigraph) (x e : ℕ) (es : List ℕ) → (k : ℕ) × (is_member k (e ∷ es) ≡ true) × (is_end g (walk_end g x (e ∷ es)) k ≡ true)
last_edge g x e [] = (e, member-head e [], other_end-is_end g e x)
last_edge g x e (f ∷ es) = let r = last_edge g (other_end g e x) f es in (r.0, member-tail r.0 e (f ∷ es) r.1, r.2)

-- two different common vertices of a side and the other one
pub record TwoCommon (g : Multigraph) (s : ℕ → Bool) : Type 0 where
  pub first : ℕ
  pub second : ℕ
  pub differ : first ≢ second
  pub first_common : IsCommon g s first
  pub second_common : IsCommon g s second

-- a cycle with an edge on the side and one off it has two common vertices
pub cycle-two_common : (g : Multigraph) (s : ℕ → Bool) (x : ℕ) (es : List ℕ) (e f : ℕ) → IsCycle g x es → is_member e es ≡ true → is_member f es ≡ true → s e ≡ true → s f ≡ false → TwoCommon g s
cycle-two_common g s x es e f c me mf se sf = begun (cycle_with g x es e c me)
  where
    ends : (b : BegunWith g es e) (r : FirstEdge s false b.rest) → FirstEdge s true (r.back ++ e ∷ []) → TwoCommon g s
    ends b r q = record {
      first = p;
      second = v;
      differ = λ i. no_member-head p v (walk_starts g (other_end g q.edge v) q.back) later-off (sym i);
      first_common = record {
        inside = before-p.0;
        outside = r.edge;
        inside_edge = walk-edge g b.start (e ∷ r.front) front-walk before-p.0 before-p.1;
        outside_edge = turned.walk.0.0;
        inside_end = before-p.2;
        outside_end = turned.walk.0.1;
        inside_side = elim (member-cases before-p.0 e r.front before-p.1) [ inl i ↦ ap s (sym i) ∙ se | inr m ↦ r.before before-p.0 m ];
        outside_side = r.answers;
      };
      second_common = record {
        inside = q.edge;
        outside = before-v.0;
        inside_edge = v-walk.0.0;
        outside_edge = walk-edge g p (r.edge ∷ q.front) (walk-left g p (r.edge ∷ q.front) (q.edge ∷ q.back) tour) before-v.0 before-v.1;
        inside_end = v-walk.0.1;
        outside_end = before-v.2;
        inside_side = q.answers;
        outside_side = elim (member-cases before-v.0 r.edge q.front before-v.1) [ inl i ↦ ap s (sym i) ∙ r.answers | inr m ↦ q.before before-v.0 m ];
      };
    }
      where
        whole : IsCycle g b.start ((e ∷ r.front) ++ (r.edge ∷ r.back))
        whole = subst (IsCycle g b.start) (ap (λ (l : List ℕ). e ∷ l) r.is) b.cycle

        front-walk : IsWalk g b.start (e ∷ r.front)
        front-walk = walk-left g b.start (e ∷ r.front) (r.edge ∷ r.back) whole.walk

        p : ℕ
        p = walk_end g b.start (e ∷ r.front)

        turned : IsCycle g p ((r.edge ∷ r.back) ++ (e ∷ r.front))
        turned = cycle-turn g b.start (e ∷ r.front) (r.edge ∷ r.back) whole

        before-p : (k : ℕ) × (is_member k (e ∷ r.front) ≡ true) × (is_end g p k ≡ true)
        before-p = last_edge g b.start e r.front

        -- the way from p on, up to and with e
        split : (r.edge ∷ r.back) ++ (e ∷ r.front) ≡ ((r.edge ∷ q.front) ++ (q.edge ∷ q.back)) ++ r.front
        split = sym (append_assoc (r.edge ∷ r.back) (e ∷ []) r.front) ∙ ap (λ (l : List ℕ). (r.edge ∷ l) ++ r.front) q.is

        turned' : IsCycle g p (((r.edge ∷ q.front) ++ (q.edge ∷ q.back)) ++ r.front)
        turned' = subst (IsCycle g p) split turned

        tour : IsWalk g p ((r.edge ∷ q.front) ++ (q.edge ∷ q.back))
        tour = walk-left g p ((r.edge ∷ q.front) ++ (q.edge ∷ q.back)) r.front turned'.walk

        v : ℕ
        v = walk_end g p (r.edge ∷ q.front)

        v-walk : IsWalk g v (q.edge ∷ q.back)
        v-walk = walk-right g p (r.edge ∷ q.front) (q.edge ∷ q.back) tour

        before-v : (k : ℕ) × (is_member k (r.edge ∷ q.front) ≡ true) × (is_end g v k ≡ true)
        before-v = last_edge g p r.edge q.front

        tour-distinct : is_distinct (walk_starts g p (r.edge ∷ q.front) ++ walk_starts g v (q.edge ∷ q.back)) ≡ true
        tour-distinct = subst (λ (l : List ℕ). is_distinct l ≡ true) (starts-append g p (r.edge ∷ q.front) (q.edge ∷ q.back))
            (distinct-append_left (walk_starts g p ((r.edge ∷ q.front) ++ (q.edge ∷ q.back))) (walk_starts g (walk_end g p ((r.edge ∷ q.front) ++ (q.edge ∷ q.back))) r.front)
            (subst (λ (l : List ℕ). is_distinct l ≡ true) (starts-append g p ((r.edge ∷ q.front) ++ (q.edge ∷ q.back)) r.front) turned'.vertices))

        -- p is none of the vertices from v on
        later-off : is_member p (walk_starts g v (q.edge ∷ q.back)) ≡ false
        later-off = false_from_ne_true (is_member p (walk_starts g v (q.edge ∷ q.back))) (λ m.
            both_ways (is_member p (walk_starts g (other_end g r.edge p) q.front ++ walk_starts g v (q.edge ∷ q.back)))
            (distinct-head p (walk_starts g (other_end g r.edge p) q.front ++ walk_starts g v (q.edge ∷ q.back)) tour-distinct)
            (member-append_right p (walk_starts g (other_end g r.edge p) q.front) (walk_starts g v (q.edge ∷ q.back)) m))

    begun : BegunWith g es e → TwoCommon g s
    begun b = elim (member-cases f e b.rest (b.same_edges f ∙ mf)) [
      | inl i ↦ absurd (both_ways (s f) sf (ap s (sym i) ∙ se))
      | inr m ↦ let r : FirstEdge s false b.rest = first_edge s false b.rest f m sf in
          ends b r (first_edge s true (r.back ++ e ∷ []) e (member-append_right e r.back (e ∷ []) (member-head e [])) se)
    ]

-- a side all of whose common vertices are one vertex has all edges of a block or none
pub block-one_side : (g : Multigraph) (s : ℕ → Bool) → ((p q : ℕ) → IsCommon g s p → IsCommon g s q → p ≡ q) → (e f : ℕ) → SameBlock g e f → s e ≡ s f
block-one_side g s one e f b = elim b [
  | inl i ↦ ap s i
  | inr c ↦ elim (cases_Bool (s e)) [
    | inl se ↦ elim (cases_Bool (s f)) [ inl sf ↦ se ∙ sym sf | inr sf ↦ absurd (not_two (cycle-two_common g s c.start c.along e f c.cycle c.first_on c.second_on se sf)) ]
    | inr se ↦ elim (cases_Bool (s f)) [ inl sf ↦ absurd (not_two (cycle-two_common g s c.start c.along f e c.cycle c.second_on c.first_on sf se)) | inr sf ↦ se ∙ sym sf ]
  ]
]
  where
    not_two : TwoCommon g s → ⊥
    not_two t = t.differ (one t.first t.second t.first_common t.second_common)
