-- Connection by the links that the edges are, and by paths, is the same.
use Rattle.std.proofs.Common.{◌≡◌, ℕ, ◌<◌, inl, inr, true, false, ◌==◌, List, [], ◌∷◌, ◌++◌, reverse, refl, sym, ap, ◌∙◌, subst, arith}
use Rattle.std.proofs.lemmas.Bool.{cases_Bool, eq-eqb, eqb-true, or_cases}
use Rattle.std.proofs.lemmas.List.{get_or_default}
use Rattle.permutations.specs.Relation.{connected}
use Rattle.permutations.proofs.Relation.{connected-reflexive, connected-symmetric, connected-transitive, connected-link, connected-least-typed}
use Rattle.multigraph.specs.Graph.{Multigraph, edge_count, ends_of, is_end, other_end}
use Rattle.multigraph.proofs.OtherEnd.{is_end-first}
use Rattle.graph_theory.specs.Path.{walk_end, IsWalk, IsPath}
use Rattle.graph_theory.proofs.Walks.{end-append, walk-append}
use Rattle.graph_theory.proofs.Reversal.{end-reverse, walk-reverse}
use Rattle.graph_theory.proofs.Paths.{walk_to_path, Shortened}

-- a walk from x to y
pub record Joined (g : Multigraph) (x y : ℕ) : Type 0 where
  pub along : List ℕ
  pub walk : IsWalk g x along
  pub arrives : walk_end g x along ≡ y

-- the other end than the first is the second
pub other-first : (g : Multigraph) (e : ℕ) → other_end g e (ends_of g e).0 ≡ (ends_of g e).1
other-first g e = grind (arith, eq-eqb (ends_of g e).0 (ends_of g e).0 refl)

-- the two ends of an edge are connected
pub ends-connected : (g : Multigraph) (e : ℕ) → e < edge_count g → connected g.ends (ends_of g e).0 (ends_of g e).1 ≡ true
ends-connected g e l = connected-link g.ends (ends_of g e).0 (ends_of g e).1 (e, l, get_or_default g.ends e ((ends_of g e).0, (ends_of g e).1) (0, 0) l)

-- an end of an edge and the other one are connected
pub other-connected : (g : Multigraph) (e x : ℕ) → e < edge_count g → is_end g x e ≡ true → connected g.ends x (other_end g e x) ≡ true
other-connected g e x l i = elim (cases_Bool ((ends_of g e).0 == x)) [
  | inl f ↦ let a : (ends_of g e).0 ≡ x = eqb-true (ends_of g e).0 x f in
      subst (λ (z : ℕ). connected g.ends z (other_end g e z) ≡ true) a (subst (λ (z : ℕ). connected g.ends (ends_of g e).0 z ≡ true) (sym (other-first g e)) (ends-connected g e l))
  | inr n ↦ elim (or_cases ((ends_of g e).0 == x) ((ends_of g e).1 == x) i) [
    | inl f ↦ grind (arith, f, n)
    | inr s ↦ let b : (ends_of g e).1 ≡ x = eqb-true (ends_of g e).1 x s in
        subst (λ (z : ℕ). connected g.ends x z ≡ true) (second n) (connected-symmetric g.ends (ends_of g e).0 x (subst (λ (z : ℕ). connected g.ends (ends_of g e).0 z ≡ true) b (ends-connected g e l)))
  ]
]
  where
    second : ((ends_of g e).0 == x) ≡ false → (ends_of g e).0 ≡ other_end g e x
    second n = grind (arith, n)

-- the vertices of a walk are connected
pub walk-connected : (g : Multigraph) (x : ℕ) (es : List ℕ) → IsWalk g x es → connected g.ends x (walk_end g x es) ≡ true
walk-connected g x [] w = connected-reflexive g.ends x
walk-connected g x (e ∷ es) w =
    connected-transitive g.ends x (other_end g e x) (walk_end g (other_end g e x) es) (other-connected g e x w.0.0 w.0.1) (walk-connected g (other_end g e x) es w.1)

-- vertices that a path joins are connected
pub path-connected : (g : Multigraph) (x : ℕ) (es : List ℕ) (y : ℕ) → IsPath g x es y → connected g.ends x y ≡ true
path-connected g x es y p = subst (λ (z : ℕ). connected g.ends x z ≡ true) p.arrives (walk-connected g x es p.walk)

-- connected vertices are joined by a walk
pub connected-joined : (g : Multigraph) (x y : ℕ) → connected g.ends x y ≡ true → Joined g x y
connected-joined g x y c = connected-least-typed g.ends (Joined g)
    (λ u. record { along = []; walk = tt; arrives = refl })
    (λ u v j. record {
      along = reverse j.along;
      walk = subst (λ (z : ℕ). IsWalk g z (reverse j.along)) j.arrives (walk-reverse g u j.along j.walk);
      arrives = subst (λ (z : ℕ). walk_end g z (reverse j.along) ≡ u) j.arrives (end-reverse g u j.along j.walk);
    })
    (λ u v w j k. record {
      along = j.along ++ k.along;
      walk = walk-append g u j.along k.along j.walk (subst (λ (z : ℕ). IsWalk g z k.along) (sym j.arrives) k.walk);
      arrives = end-append g u j.along k.along ∙ (ap (λ (z : ℕ). walk_end g z k.along) j.arrives ∙ k.arrives);
    })
    (λ e d l. subst (λ (p : ℕ × ℕ). Joined g p.0 p.1) (get_or_default g.ends e (0, 0) d l) (record {
      along = e ∷ [];
      walk = ((l, is_end-first g e), tt);
      arrives = other-first g e;
    }))
    x y c

-- connected vertices are joined by a path
pub connected-path : (g : Multigraph) (x y : ℕ) → connected g.ends x y ≡ true → (es : List ℕ) × IsPath g x es y
connected-path g x y c =
    let j : Joined g x y = connected-joined g x y c in
    let s : Shortened g x j.along = walk_to_path g x j.along j.walk in
    (s.along, subst (IsPath g x s.along) j.arrives s.path)
