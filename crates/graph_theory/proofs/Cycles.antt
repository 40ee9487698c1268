-- Cycles: begun at another of their vertices, and made of two paths.
use Rattle.std.proofs.Common.{◌≡◌, ◌≢◌, ℕ, ◌≤◌, ◌⊎◌, inl, inr, true, false, ◌==◌, List, [], ◌∷◌, ◌++◌, length, refl, sym, ap, ◌∙◌, subst, arith, length-append}
use Rattle.std.proofs.lemmas.Bool.{both_ways, false_from_ne_true, eq-eqb, eqb-true}
use Rattle.permutations.specs.Members.{is_member, is_distinct}
use Rattle.permutations.proofs.Members.{member-head, distinct-append, distinct-append_left, distinct-append_apart, distinct-append_comm, member-append_comm}
use Rattle.multigraph.specs.Graph.{Multigraph}
use Rattle.graph_theory.specs.Path.{walk_end, walk_starts, walk_vertices, IsWalk, IsPath, IsCycle}
use Rattle.graph_theory.proofs.Walks.{end-append, starts-append, walk-append, walk-left, walk-right, start-met, first_passing, FirstPassing}
use Rattle.graph_theory.proofs.Paths.{path-edges_distinct}

-- where the second part of a cycle leads
pub cycle-closes : (g : Multigraph) (x : ℕ) (es fs : List ℕ) → IsCycle g x (es ++ fs) → walk_end g (walk_end g x es) fs ≡ x
cycle-closes g x es fs c = sym (end-append g x es fs) ∙ c.returns

-- the same cycle, begun where its first part leads
pub cycle-turn : (g : Multigraph) (x : ℕ) (es fs : List ℕ) → IsCycle g x (es ++ fs) → IsCycle g (walk_end g x es) (fs ++ es)
cycle-turn g x es fs c = record {
  walk = walk-append g z fs es (walk-right g x es fs c.walk) (subst (λ (k : ℕ). IsWalk g k es) (sym closes) (walk-left g x es fs c.walk));
  returns = end-append g z fs es ∙ ap (λ (k : ℕ). walk_end g k es) closes;
  two = omega (arith, c.two, length-append es fs, length-append fs es);
  edges = distinct-append_comm es fs c.edges;
  vertices = subst (λ (l : List ℕ). is_distinct l ≡ true) (sym (starts-append g z fs es))
      (subst (λ (k : ℕ). is_distinct (walk_starts g z fs ++ walk_starts g k es) ≡ true) (sym closes)
      (distinct-append_comm (walk_starts g x es) (walk_starts g z fs)
      (subst (λ (l : List ℕ). is_distinct l ≡ true) (starts-append g x es fs) c.vertices)));
}
  where
    z : ℕ
    z = walk_end g x es

    closes : walk_end g z fs ≡ x
    closes = cycle-closes g x es fs c

-- the vertices of a cycle stay the same where it is begun at another
pub cycle-turn-starts : (g : Multigraph) (x : ℕ) (es fs : List ℕ) → IsCycle g x (es ++ fs) → (z : ℕ) → is_member z (walk_starts g (walk_end g x es) (fs ++ es)) ≡ is_member z (walk_starts g x (es ++ fs))
cycle-turn-starts g x es fs c z =
    ap (is_member z) (starts-append g (walk_end g x es) fs es) ∙
    (ap (λ (k : ℕ). is_member z (walk_starts g (walk_end g x es) fs ++ walk_starts g k es)) (cycle-closes g x es fs c) ∙
    (member-append_comm z (walk_starts g (walk_end g x es) fs) (walk_starts g x es) ∙ ap (is_member z) (sym (starts-append g x es fs))))

-- a cycle begun at one of its vertices
pub record BegunAt (g : Multigraph) (x : ℕ) (es : List ℕ) (a : ℕ) : Type 0 where
  pub along : List ℕ
  pub cycle : IsCycle g a along
  pub same_edges : (h : ℕ) → is_member h along ≡ is_member h es
  pub same_vertices : (z : ℕ) → is_member z (walk_starts g a along) ≡ is_member z (walk_starts g x es)

-- a cycle can be begun at each of its vertices
pub cycle_from : (g : Multigraph) (x : ℕ) (es : List ℕ) (a : ℕ) → IsCycle g x es → is_member a (walk_starts g x es) ≡ true → BegunAt g x es a
cycle_from g x es a c m = made (first_passing g (λ z. z == a) x es a (start-met g x es a m) (eq-eqb a a refl))
  where
    made : FirstPassing g (λ z. z == a) x es → BegunAt g x es a
    made r = record {
      along = r.back ++ r.front;
      cycle = subst (λ (k : ℕ). IsCycle g k (r.back ++ r.front)) at (cycle-turn g x r.front r.back c');
      same_edges = λ h. member-append_comm h r.back r.front ∙ ap (is_member h) (sym r.is);
      same_vertices = λ z.
          subst (λ (k : ℕ). is_member z (walk_starts g k (r.back ++ r.front)) ≡ is_member z (walk_starts g x (r.front ++ r.back))) at (cycle-turn-starts g x r.front r.back c' z) ∙
          ap (λ (l : List ℕ). is_member z (walk_starts g x l)) (sym r.is);
    }
      where
        at : walk_end g x r.front ≡ a
        at = eqb-true (walk_end g x r.front) a r.passes

        c' : IsCycle g x (r.front ++ r.back)
        c' = subst (IsCycle g x) r.is c

-- a walk between different vertices has an edge
pub walk-some : (g : Multigraph) (x : ℕ) (es : List ℕ) (y : ℕ) → walk_end g x es ≡ y → x ≢ y → 1 ≤ length es
walk-some g x [] y a n = absurd (n a)
walk-some g x (e ∷ es) y a n = omega arith

-- two paths between two vertices that share no edge, and no vertex but these two, are a cycle
pub cycle_of_paths : (g : Multigraph) (x y : ℕ) (es fs : List ℕ) → IsPath g x es y → IsPath g y fs x → x ≢ y → ((h : ℕ) → is_member h es ≡ true → is_member h fs ≡ false) → ((z : ℕ) → is_member z (walk_vertices g x es) ≡ true → is_member z (walk_vertices g y fs) ≡ true → (z ≡ x) ⊎ (z ≡ y)) → IsCycle g x (es ++ fs)
cycle_of_paths g x y es fs p q n apart common = record {
  walk = walk-append g x es fs p.walk (subst (λ (k : ℕ). IsWalk g k fs) (sym p.arrives) q.walk);
  returns = end-append g x es fs ∙ (ap (λ (k : ℕ). walk_end g k fs) p.arrives ∙ q.arrives);
  two = omega (arith, walk-some g x es y p.arrives n, walk-some g y fs x q.arrives (λ e. n (sym e)), length-append es fs);
  edges = distinct-append es fs (path-edges_distinct g x es p.walk p.vertices) (path-edges_distinct g y fs q.walk q.vertices) apart;
  vertices = subst (λ (l : List ℕ). is_distinct l ≡ true) (sym (starts-append g x es fs))
      (subst (λ (k : ℕ). is_distinct (walk_starts g x es ++ walk_starts g k fs) ≡ true) (sym p.arrives)
      (distinct-append (walk_starts g x es) (walk_starts g y fs)
      (distinct-append_left (walk_starts g x es) (walk_end g x es ∷ []) p.vertices)
      (distinct-append_left (walk_starts g y fs) (walk_end g y fs ∷ []) q.vertices)
      (λ z a. false_from_ne_true (is_member z (walk_starts g y fs)) (λ b.
      elim (common z (start-met g x es z a) (start-met g y fs z b)) [
        | inl i ↦ both_ways (is_member z (walk_end g y fs ∷ [])) (distinct-append_apart (walk_starts g y fs) (walk_end g y fs ∷ []) q.vertices z b) (last z (walk_end g y fs) (i ∙ sym q.arrives))
        | inr j ↦ both_ways (is_member z (walk_end g x es ∷ [])) (distinct-append_apart (walk_starts g x es) (walk_end g x es ∷ []) p.vertices z a) (last z (walk_end g x es) (j ∙ sym p.arrives))
      ]))));
}
  where
    last : (z k : ℕ) → z ≡ k → is_member z (k ∷ []) ≡ true
    last z k e = subst (λ (l : ℕ). is_member l (k ∷ []) ≡ true) (sym e) (member-head k [])
