-- Paths: shortening a walk to one, and turning one round.
use Rattle.std.proofs.Common.{◌≡◌, ℕ, ◌<◌, inl, inr, true, false, ◌==◌, List, [], ◌∷◌, ◌++◌, reverse, refl, sym, ap, ◌∙◌, subst}
use Rattle.std.proofs.lemmas.Bool.{cases_Bool, both_ways, false_from_ne_true, eq-eqb, eqb-true}
use Rattle.permutations.specs.Members.{is_member, is_distinct}
use Rattle.permutations.proofs.Members.{member-head, member-tail, member-cases, member-append_right, member-reverse, distinct-cons, distinct-head, distinct-tail, distinct-append_right, distinct-reverse}
use Rattle.multigraph.specs.Graph.{Multigraph, edge_count, is_end, other_end}
use Rattle.graph_theory.specs.Path.{walk_end, walk_starts, walk_vertices, IsWalk, IsPath}
use Rattle.graph_theory.proofs.Walks.{end-append, vertices-append, walk-right, edge-met, first_passing, FirstPassing}
use Rattle.graph_theory.proofs.Reversal.{end-reverse, walk-reverse, vertices-reverse}

-- a path along some of a walk's edges, with its ends
pub record Shortened (g : Multigraph) (x : ℕ) (es : List ℕ) : Type 0 where
  pub along : List ℕ
  pub path : IsPath g x along (walk_end g x es)
  pub edges_from : (h : ℕ) → is_member h along ≡ true → is_member h es ≡ true
  pub met_from : (z : ℕ) → is_member z (walk_vertices g x along) ≡ true → is_member z (walk_vertices g x es) ≡ true

-- the empty path
pub path-none : (g : Multigraph) (x : ℕ) → IsPath g x [] x
path-none g x = record { walk = tt; arrives = refl; vertices = refl }

-- a path from where an edge leads, with that edge in front
pub path-cons : (g : Multigraph) (x e : ℕ) (es : List ℕ) (y : ℕ) → e < edge_count g → is_end g x e ≡ true → IsPath g (other_end g e x) es y → is_member x (walk_vertices g (other_end g e x) es) ≡ false → IsPath g x (e ∷ es) y
path-cons g x e es y l i p n = record {
  walk = ((l, i), p.walk);
  arrives = p.arrives;
  vertices = distinct-cons x (walk_vertices g (other_end g e x) es) n p.vertices;
}

-- the part of a path from where its front leads
pub path-back : (g : Multigraph) (x : ℕ) (es fs : List ℕ) (y : ℕ) → IsPath g x (es ++ fs) y → IsPath g (walk_end g x es) fs y
path-back g x es fs y p = record {
  walk = walk-right g x es fs p.walk;
  arrives = sym (end-append g x es fs) ∙ p.arrives;
  vertices = distinct-append_right (walk_starts g x es) (walk_vertices g (walk_end g x es) fs)
      (subst (λ (l : List ℕ). is_distinct l ≡ true) (vertices-append g x es fs) p.vertices);
}

-- a walk can be shortened to a path
pub walk_to_path : (g : Multigraph) (x : ℕ) (es : List ℕ) → IsWalk g x es → Shortened g x es
walk_to_path g x [] w = record { along = []; path = path-none g x; edges_from = λ h m. m; met_from = λ z m. m }
walk_to_path g x (e ∷ es) w = step (walk_to_path g (other_end g e x) es w.1)
  where
    again : (r : Shortened g (other_end g e x) es) → FirstPassing g (λ z. z == x) (other_end g e x) r.along → Shortened g x (e ∷ es)
    again r c = record {
      along = c.back;
      path = subst (λ (z : ℕ). IsPath g z c.back (walk_end g (other_end g e x) es)) at (path-back g (other_end g e x) c.front c.back (walk_end g (other_end g e x) es) (subst (λ (l : List ℕ). IsPath g (other_end g e x) l (walk_end g (other_end g e x) es)) c.is r.path));
      edges_from = λ h m. member-tail h e es (r.edges_from h (subst (λ (l : List ℕ). is_member h l ≡ true) (sym c.is) (member-append_right h c.front c.back m)));
      met_from = λ z m. member-tail z x (walk_vertices g (other_end g e x) es) (r.met_from z (subst (λ (l : List ℕ). is_member z (walk_vertices g (other_end g e x) l) ≡ true) (sym c.is) (subst (λ (l : List ℕ). is_member z l ≡ true) (sym (vertices-append g (other_end g e x) c.front c.back)) (member-append_right z (walk_starts g (other_end g e x) c.front) (walk_vertices g (walk_end g (other_end g e x) c.front) c.back) (subst (λ (k : ℕ). is_member z (walk_vertices g k c.back) ≡ true) (sym at) m)))));
    }
      where
        at : walk_end g (other_end g e x) c.front ≡ x
        at = eqb-true (walk_end g (other_end g e x) c.front) x c.passes

    step : Shortened g (other_end g e x) es → Shortened g x (e ∷ es)
    step r = elim (cases_Bool (is_member x (walk_vertices g (other_end g e x) r.along))) [
      | inl m ↦ again r (first_passing g (λ z. z == x) (other_end g e x) r.along x m (eq-eqb x x refl))
      | inr n ↦ record {
        along = e ∷ r.along;
        path = path-cons g x e r.along (walk_end g (other_end g e x) es) w.0.0 w.0.1 r.path n;
        edges_from = λ h m. elim (member-cases h e r.along m) [ inl i ↦ subst (λ (k : ℕ). is_member k (e ∷ es) ≡ true) i (member-head e es) | inr t ↦ member-tail h e es (r.edges_from h t) ];
        met_from = λ z m. elim (member-cases z x (walk_vertices g (other_end g e x) r.along) m) [
          | inl i ↦ subst (λ (k : ℕ). is_member k (x ∷ walk_vertices g (other_end g e x) es) ≡ true) i (member-head x (walk_vertices g (other_end g e x) es))
          | inr t ↦ member-tail z x (walk_vertices g (other_end g e x) es) (r.met_from z t)
        ];
      }
    ]

-- a walk that meets no vertex twice has no edge twice
pub path-edges_distinct : (g : Multigraph) (x : ℕ) (es : List ℕ) → IsWalk g x es → is_distinct (walk_vertices g x es) ≡ true → is_distinct es ≡ true
path-edges_distinct g x [] w d = refl
path-edges_distinct g x (e ∷ es) w d =
    distinct-cons e es
    (false_from_ne_true (is_member e es) (λ m. both_ways (is_member x (walk_vertices g (other_end g e x) es)) (distinct-head x (walk_vertices g (other_end g e x) es) d) (edge-met g (other_end g e x) es w.1 e x m w.0.1)))
    (path-edges_distinct g (other_end g e x) es w.1 (distinct-tail x (walk_vertices g (other_end g e x) es) d))

-- a path backwards is one
pub path-reverse : (g : Multigraph) (x : ℕ) (es : List ℕ) (y : ℕ) → IsPath g x es y → IsPath g y (reverse es) x
path-reverse g x es y p = subst (λ (z : ℕ). IsPath g z (reverse es) x) p.arrives (record {
  walk = walk-reverse g x es p.walk;
  arrives = end-reverse g x es p.walk;
  vertices = subst (λ (l : List ℕ). is_distinct l ≡ true) (sym (vertices-reverse g x es p.walk)) (distinct-reverse (walk_vertices g x es) p.vertices);
})

-- a path backwards meets the same vertices
pub path-reverse-met : (g : Multigraph) (x : ℕ) (es : List ℕ) (y : ℕ) → IsPath g x es y → (z : ℕ) → is_member z (walk_vertices g y (reverse es)) ≡ true → is_member z (walk_vertices g x es) ≡ true
path-reverse-met g x es y p z m =
    sym (member-reverse z (walk_vertices g x es)) ∙
    (ap (is_member z) (sym (vertices-reverse g x es p.walk)) ∙
    subst (λ (k : ℕ). is_member z (walk_vertices g k (reverse es)) ≡ true) (sym p.arrives) m)
