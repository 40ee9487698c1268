-- Walks in the other direction.
use Rattle.std.proofs.Common.{◌≡◌, ℕ, List, [], ◌∷◌, ◌++◌, reverse, refl, sym, ap, ◌∙◌, subst, append_assoc}
use Rattle.std.proofs.lemmas.List.{reverse-append}
use Rattle.multigraph.specs.Graph.{Multigraph, other_end}
use Rattle.multigraph.proofs.OtherEnd.{other_end-is_end}
use Rattle.graph_theory.specs.Path.{walk_end, walk_starts, walk_vertices, IsWalk}
use Rattle.graph_theory.proofs.Ends.{other-other}
use Rattle.graph_theory.proofs.Walks.{end-append, vertices-append, walk-append}

-- a list with one more in front, reversed
pub reverse-cons : (e : ℕ) (es : List ℕ) → reverse (e ∷ es) ≡ reverse es ++ e ∷ []
reverse-cons e es = reverse-append (e ∷ []) es

-- a walk backwards leads to where it began
pub end-reverse : (g : Multigraph) (x : ℕ) (es : List ℕ) → IsWalk g x es → walk_end g (walk_end g x es) (reverse es) ≡ x
end-reverse g x [] w = refl
end-reverse g x (e ∷ es) w =
    ap (walk_end g (walk_end g (other_end g e x) es)) (reverse-cons e es) ∙
    (end-append g (walk_end g (other_end g e x) es) (reverse es) (e ∷ []) ∙
    (ap (other_end g e) (end-reverse g (other_end g e x) es w.1) ∙ other-other g e x w.0.1))

-- a walk backwards is one
pub walk-reverse : (g : Multigraph) (x : ℕ) (es : List ℕ) → IsWalk g x es → IsWalk g (walk_end g x es) (reverse es)
walk-reverse g x [] w = tt
walk-reverse g x (e ∷ es) w =
    subst (IsWalk g (walk_end g (other_end g e x) es)) (sym (reverse-cons e es))
    (walk-append g (walk_end g (other_end g e x) es) (reverse es) (e ∷ []) (walk-reverse g (other_end g e x) es w.1)
    (subst (λ (y : ℕ). IsWalk g y (e ∷ [])) (sym (end-reverse g (other_end g e x) es w.1)) ((w.0.0, other_end-is_end g e x), tt)))

-- a walk backwards meets the same vertices in the other order
pub vertices-reverse : (g : Multigraph) (x : ℕ) (es : List ℕ) → IsWalk g x es → walk_vertices g (walk_end g x es) (reverse es) ≡ reverse (walk_vertices g x es)
vertices-reverse g x [] w = refl
vertices-reverse g x (e ∷ es) w =
    ap (walk_vertices g y) (reverse-cons e es) ∙
    (vertices-append g y (reverse es) (e ∷ []) ∙
    (ap (λ (z : ℕ). walk_starts g y (reverse es) ++ (z ∷ (other_end g e z ∷ []))) (end-reverse g x' es w.1) ∙
    (ap (λ (z : ℕ). walk_starts g y (reverse es) ++ (x' ∷ (z ∷ []))) (other-other g e x w.0.1) ∙
    (sym (append_assoc (walk_starts g y (reverse es)) (x' ∷ []) (x ∷ [])) ∙
    (ap (λ (z : ℕ). (walk_starts g y (reverse es) ++ (z ∷ [])) ++ (x ∷ [])) (sym (end-reverse g x' es w.1)) ∙
    (ap (λ (l : List ℕ). l ++ x ∷ []) (vertices-reverse g x' es w.1) ∙
    sym (reverse-cons x (walk_vertices g x' es))))))))
  where
    x' : ℕ
    x' = other_end g e x

    y : ℕ
    y = walk_end g x' es
