-- The two arcs of a cycle between two of its vertices.
use Rattle.std.proofs.Common.{◌≡◌, ◌≢◌, ℕ, ◌≤◌, length, inl, inr, true, ◌==◌, List, [], ◌∷◌, ◌++◌, reverse, refl, sym, ◌∙◌, subst, arith, append_assoc}
use Rattle.std.proofs.lemmas.Bool.{eq-eqb, eqb-true}
use Rattle.permutations.specs.Members.{is_member, is_distinct}
use Rattle.permutations.proofs.Members.{member-append_left, member-append_right, member-append_cases, member-head, member-reverse, distinct-append_left, distinct-append_comm}
use Rattle.multigraph.specs.Graph.{Multigraph, other_end}
use Rattle.graph_theory.specs.Path.{walk_end, walk_starts, walk_vertices, IsWalk, IsPath, IsCycle}
use Rattle.graph_theory.proofs.Walks.{starts-append, walk-left, walk-right, start-met, met-cases, first_passing, FirstPassing}
use Rattle.graph_theory.proofs.Paths.{path-reverse, path-reverse-met}
use Rattle.graph_theory.proofs.Cycles.{cycle-closes, cycle_from, BegunAt}

-- a path between a and b along a cycle's edges and vertices, with the edge h on it
pub record Arc (g : Multigraph) (x : ℕ) (es : List ℕ) (a b h : ℕ) : Type 0 where
  pub along : List ℕ
  pub path : IsPath g a along b
  pub has : is_member h along ≡ true
  pub edges_on : (k : ℕ) → is_member k along ≡ true → is_member k es ≡ true
  pub vertices_on : (z : ℕ) → is_member z (walk_vertices g a along) ≡ true → is_member z (walk_starts g x es) ≡ true

-- the first arc of a cycle from a, up to b
pub arc-path : (g : Multigraph) (a : ℕ) (fs ks : List ℕ) (b : ℕ) → IsCycle g a (fs ++ ks) → walk_end g a fs ≡ b → a ≢ b → IsPath g a fs b
arc-path g a fs [] b c at n = absurd (n (sym (cycle-closes g a fs [] c) ∙ at))
arc-path g a fs (k ∷ ks) b c at n = record {
  walk = walk-left g a fs (k ∷ ks) c.walk;
  arrives = at;
  vertices = distinct-append_left (walk_vertices g a fs) (walk_starts g (other_end g k (walk_end g a fs)) ks)
      (subst (λ (l : List ℕ). is_distinct l ≡ true) (sym (append_assoc (walk_starts g a fs) (walk_end g a fs ∷ []) (walk_starts g (other_end g k (walk_end g a fs)) ks)))
      (subst (λ (l : List ℕ). is_distinct l ≡ true) (starts-append g a fs (k ∷ ks)) c.vertices));
}

-- the second arc of a cycle from a, from b back to a
pub arc-path-back : (g : Multigraph) (a : ℕ) (fs ks : List ℕ) (b : ℕ) → IsCycle g a (fs ++ ks) → walk_end g a fs ≡ b → a ≢ b → IsPath g b ks a
arc-path-back g a [] ks b c at n = absurd (n at)
arc-path-back g a (f ∷ fs) ks b c at n = record {
  walk = subst (λ (z : ℕ). IsWalk g z ks) at (walk-right g a (f ∷ fs) ks c.walk);
  arrives = closes;
  vertices = distinct-append_left (walk_vertices g b ks) (walk_starts g (other_end g f a) fs)
      (subst (λ (l : List ℕ). is_distinct l ≡ true) (sym (append_assoc (walk_starts g b ks) (walk_end g b ks ∷ []) (walk_starts g (other_end g f a) fs)))
      (subst (λ (z : ℕ). is_distinct (walk_starts g b ks ++ (z ∷ walk_starts g (other_end g f a) fs)) ≡ true) (sym closes)
      (distinct-append_comm (a ∷ walk_starts g (other_end g f a) fs) (walk_starts g b ks)
      (subst (λ (z : ℕ). is_distinct ((a ∷ walk_starts g (other_end g f a) fs) ++ walk_starts g z ks) ≡ true) at
      (subst (λ (l : List ℕ). is_distinct l ≡ true) (starts-append g a (f ∷ fs) ks) c.vertices)))));
}
  where
    closes : walk_end g b ks ≡ a
    closes = subst (λ (z : ℕ). walk_end g z ks ≡ a) at (cycle-closes g a (f ∷ fs) ks c)

-- an arc of a cycle that is begun at a
arc-from : (g : Multigraph) (a : ℕ) (es : List ℕ) (b h : ℕ) → IsCycle g a es → is_member b (walk_starts g a es) ≡ true → a ≢ b → is_member h es ≡ true → Arc g a es a b h
arc-from g a es b h c mb n mh = made (first_passing g (λ z. z == b) a es b (start-met g a es b mb) (eq-eqb b b refl))
  where
    made : FirstPassing g (λ z. z == b) a es → Arc g a es a b h
    made r = elim (member-append_cases h r.front r.back (subst (λ (l : List ℕ). is_member h l ≡ true) r.is mh)) [
      | inl m ↦ record {
        along = r.front;
        path = forth;
        has = m;
        edges_on = λ k t. subst (λ (l : List ℕ). is_member k l ≡ true) (sym r.is) (member-append_left k r.front r.back t);
        vertices_on = forth-on;
      }
      | inr m ↦ record {
        along = reverse r.back;
        path = path-reverse g b r.back a back;
        has = member-reverse h r.back ∙ m;
        edges_on = λ k t. subst (λ (l : List ℕ). is_member k l ≡ true) (sym r.is) (member-append_right k r.front r.back (sym (member-reverse k r.back) ∙ t));
        vertices_on = λ z t. back-on z (path-reverse-met g b r.back a back z t);
      }
    ]
      where
        at : walk_end g a r.front ≡ b
        at = eqb-true (walk_end g a r.front) b r.passes

        c' : IsCycle g a (r.front ++ r.back)
        c' = subst (IsCycle g a) r.is c

        forth : IsPath g a r.front b
        forth = arc-path g a r.front r.back b c' at n

        back : IsPath g b r.back a
        back = arc-path-back g a r.front r.back b c' at n

        first-on : is_member a (walk_starts g a es) ≡ true
        first-on = on es c.two
          where
            on : (l : List ℕ) → 2 ≤ length l → is_member a (walk_starts g a l) ≡ true
            on [] two = absurd (omega arith)
            on (k ∷ ks) two = member-head a (walk_starts g (other_end g k a) ks)

        forth-on : (z : ℕ) → is_member z (walk_vertices g a r.front) ≡ true → is_member z (walk_starts g a es) ≡ true
        forth-on z t = elim (met-cases g a r.front z t) [
          | inl s ↦ subst (λ (l : List ℕ). is_member z (walk_starts g a l) ≡ true) (sym r.is) (subst (λ (l : List ℕ). is_member z l ≡ true) (sym (starts-append g a r.front r.back)) (member-append_left z (walk_starts g a r.front) (walk_starts g (walk_end g a r.front) r.back) s))
          | inr e ↦ subst (λ (k : ℕ). is_member k (walk_starts g a es) ≡ true) (sym (e ∙ at)) mb
        ]

        back-on : (z : ℕ) → is_member z (walk_vertices g b r.back) ≡ true → is_member z (walk_starts g a es) ≡ true
        back-on z t = elim (met-cases g b r.back z t) [
          | inl s ↦ subst (λ (l : List ℕ). is_member z (walk_starts g a l) ≡ true) (sym r.is) (subst (λ (l : List ℕ). is_member z l ≡ true) (sym (starts-append g a r.front r.back)) (member-append_right z (walk_starts g a r.front) (walk_starts g (walk_end g a r.front) r.back) (subst (λ (k : ℕ). is_member z (walk_starts g k r.back) ≡ true) (sym at) s)))
          | inr e ↦ subst (λ (k : ℕ). is_member k (walk_starts g a es) ≡ true) (sym (e ∙ back.arrives)) first-on
        ]

-- between two vertices of a cycle there is an arc with a given edge of it
pub cycle_arc : (g : Multigraph) (x : ℕ) (es : List ℕ) (a b h : ℕ) → IsCycle g x es → is_member a (walk_starts g x es) ≡ true → is_member b (walk_starts g x es) ≡ true → a ≢ b → is_member h es ≡ true → Arc g x es a b h
cycle_arc g x es a b h c ma mb n mh = from (cycle_from g x es a c ma)
  where
    from : BegunAt g x es a → Arc g x es a b h
    from s = moved (arc-from g a s.along b h s.cycle (s.same_vertices b ∙ mb) n (s.same_edges h ∙ mh))
      where
        moved : Arc g a s.along a b h → Arc g x es a b h
        moved r = record {
          along = r.along;
          path = r.path;
          has = r.has;
          edges_on = λ k t. sym (s.same_edges k) ∙ r.edges_on k t;
          vertices_on = λ z t. sym (s.same_vertices z) ∙ r.vertices_on z t;
        }
