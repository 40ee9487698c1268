-- At which of its ends the contracted edge is touched by the edges of a path.
use Rattle.std.proofs.Common.{◌≡◌, ◌≢◌, ℕ, ◌<◌, inl, inr, Bool, true, false, ◌||◌, ◌&&◌, ◌==◌, List, [], ◌∷◌, ◌++◌, map, reverse, refl, sym, ap, ◌∙◌, subst, arith}
use Rattle.std.proofs.lemmas.Bool.{cases_Bool, both_ways, or_cases}
use Rattle.std.proofs.lemmas.List.{map-append}
use Rattle.permutations.specs.Members.{is_member}
use Rattle.permutations.proofs.Members.{member-tail, member-head, distinct-head}
use Rattle.multigraph.specs.Graph.{Multigraph, IsGraph, edge_count, ends_of, is_end, other_end}
use Rattle.multigraph.proofs.OtherEnd.{is_end-cases, other_end-differs}
use Rattle.graph_theory.specs.Path.{walk_vertices, IsWalk, IsPath}
use Rattle.graph_theory.proofs.Walks.{edge-met}
use Rattle.graph_theory.proofs.Reversal.{reverse-cons}
use Rattle.contractions.specs.Contraction.{IsContraction}
use Rattle.planarity.specs.Lift.{touches, path_of_pair}
use Rattle.planarity.proofs.LiftPath.{image-end}
use Rattle.planarity.proofs.LiftSystem.{IsContractedEnd}

-- edges in two parts touch a vertex where one of the parts does
pub touches-append : (g : Multigraph) (z : ℕ) (es fs : List ℕ) → touches g z (es ++ fs) ≡ (touches g z es || touches g z fs)
touches-append g z [] fs = refl
touches-append g z (e ∷ es) fs = grind (arith, touches-append g z es fs, cases_Bool (is_end g z e))

-- edges turned round touch the same vertices
pub touches-reverse : (g : Multigraph) (z : ℕ) (edge : ℕ → ℕ) (es : List ℕ) → touches g z (map edge (reverse es)) ≡ touches g z (map edge es)
touches-reverse g z edge [] = refl
touches-reverse g z edge (e ∷ es) =
    ap (λ l. touches g z (map edge l)) (reverse-cons e es) ∙ ap (touches g z) (map-append edge (reverse es) (e ∷ []))
    ∙ touches-append g z (map edge (reverse es)) (edge e ∷ []) ∙ ap (λ b. b || (is_end g z (edge e) || false)) (touches-reverse g z edge es)
    ∙ either (touches g z (map edge es)) (is_end g z (edge e))
  where
    either : (a b : Bool) → (a || (b || false)) ≡ (b || a)
    either a b = grind (arith, cases_Bool a, cases_Bool b)

-- so it does not matter in which direction a path is looked up
pub touches-turned : (g : Multigraph) (z : ℕ) (edge : ℕ → ℕ) (pairs : List (ℕ × ℕ)) (paths : List (List ℕ)) (i j : ℕ) → touches g z (map edge (path_of_pair pairs paths j i)) ≡ touches g z (map edge (path_of_pair pairs paths i j))
touches-turned g z edge [] paths i j = refl
touches-turned g z edge (p ∷ ps) [] i j = refl
touches-turned g z edge (p ∷ ps) (q ∷ qs) i j = elim (cases_Bool (p.0 == i && p.1 == j)) [
  | inl a ↦ elim (cases_Bool (p.0 == j && p.1 == i)) [
    | inl b ↦ rw (a, b) refl
    | inr b ↦ rw (a, b) (touches-reverse g z edge q)
  ]
  | inr a ↦ elim (cases_Bool (p.0 == j && p.1 == i)) [
    | inl b ↦ rw (a, b) (sym (touches-reverse g z edge q))
    | inr b ↦ rw (a, b) (touches-turned g z edge ps qs i j)
  ]
]

module _ (g h : Multigraph) (e x y : ℕ) (edge vertex : ℕ → ℕ) (og : IsGraph g) (oh : IsGraph h) (c : IsContraction g h e x y edge vertex) where
  -- a vertex that is touched becomes one that is met
  pub touches-met : (a : ℕ) (es : List ℕ) (z : ℕ) → IsWalk h a es → touches g z (map edge es) ≡ true → is_member (vertex z) (walk_vertices h a es) ≡ true
  touches-met a [] z w t = absurd (both_ways false refl t)
  touches-met a (i ∷ es) z w t = elim (or_cases (is_end g z (edge i)) (touches g z (map edge es)) t) [
    | inl u ↦ edge-met h a (i ∷ es) w i (vertex z) (member-head i es) ((image-end g h e x y edge vertex og oh c i z (w.0).0 u).0)
    | inr u ↦ member-tail (vertex z) a (walk_vertices h (other_end h i a) es) (touches-met (other_end h i a) es z w.1 u)
  ]

  -- the two ends differ
  pub ends-differ : x ≢ y
  ends-differ q = other_end-differs g e x og c.edge_in c.first_end (c.second_end ∙ sym q)

  -- both ends become one vertex
  pub merged-vertex : (z : ℕ) → IsContractedEnd x y z → vertex z ≡ vertex x
  merged-vertex z (inl q) = ap vertex q
  merged-vertex z (inr q) = ap vertex q ∙ sym c.merged

  -- a path from the vertex that they become touches one of them alone
  pub touches-one : (a : ℕ) (es : List ℕ) (b : ℕ) → IsPath h a es b → a ≡ vertex x → touches g x (map edge es) ≡ true → touches g y (map edge es) ≡ true → ⊥
  touches-one a [] b p q t u = both_ways false refl t
  touches-one a (i ∷ es) b p q t u = loop (at_first x (inl refl) t) (at_first y (inr refl) u)
    where
      at_first : (z : ℕ) → IsContractedEnd x y z → touches g z (map edge (i ∷ es)) ≡ true → is_end g z (edge i) ≡ true
      at_first z m v = elim (or_cases (is_end g z (edge i)) (touches g z (map edge es)) v) [
        | inl r ↦ r
        | inr r ↦ absurd (both_ways (is_member a (walk_vertices h (other_end h i a) es)) (distinct-head a (walk_vertices h (other_end h i a) es) p.vertices)
            (subst (λ s. is_member s (walk_vertices h (other_end h i a) es) ≡ true) (merged-vertex z m ∙ sym q) (touches-met (other_end h i a) es z (p.walk).1 r)))
      ]

      -- an edge with both ends would be a loop
      loop : is_end g x (edge i) ≡ true → is_end g y (edge i) ≡ true → ⊥
      loop v w =
          let l : i < edge_count h = ((p.walk).0).0 in
          oh.no_loop i l (c.first_ends i l ∙ ends v w ∙ sym (c.second_ends i l))
        where
          ends : is_end g x (edge i) ≡ true → is_end g y (edge i) ≡ true → vertex (ends_of g (edge i)).0 ≡ vertex (ends_of g (edge i)).1
          ends v w = elim (is_end-cases g x (edge i) v) [
            | inl r ↦ elim (is_end-cases g y (edge i) w) [ inl s ↦ absurd (apart (sym r ∙ s)) | inr s ↦ ap vertex r ∙ c.merged ∙ ap vertex (sym s) ]
            | inr r ↦ elim (is_end-cases g y (edge i) w) [ inl s ↦ ap vertex s ∙ sym c.merged ∙ ap vertex (sym r) | inr s ↦ absurd (apart (sym r ∙ s)) ]
          ]
            where
              apart : x ≢ y
              apart = ends-differ
