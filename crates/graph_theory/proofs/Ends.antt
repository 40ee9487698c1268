-- The two ends of an edge.
use Rattle.std.proofs.Common.{◌≡◌, ◌≢◌, ℕ, ◌<◌, ◌⊎◌, inl, inr, true, ◌||◌, ◌==◌, cond, refl, sym, ◌∙◌, arith}
use Rattle.std.proofs.lemmas.Bool.{cases_Bool, both_ways, or_cases, eq-eqb, eqb-true}
use Rattle.multigraph.specs.Graph.{Multigraph, edge_count, ends_of, is_end, other_end, IsGraph}
use Rattle.multigraph.proofs.OtherEnd.{other_end-differs, end-in as of_end}

-- going over to the other of two numbers
across : (a b x : ℕ) → ℕ
across a b x = cond (a == x) b a

-- going over from one of two numbers twice leads back
across-across : (a b x : ℕ) → ((a == x) || (b == x)) ≡ true → across a b (across a b x) ≡ x
unfolding across
across-across a b x h = grind (arith, cases_Bool (a == x), cases_Bool (a == b), cases_Bool (a == a), eqb-true a x, eqb-true b x, eqb-true a b, eq-eqb a a refl, h)

-- the other end of the other end is the end itself
pub other-other : (g : Multigraph) (e x : ℕ) → is_end g x e ≡ true → other_end g e (other_end g e x) ≡ x
unfolding across
other-other g e x h = across-across (ends_of g e).0 (ends_of g e).1 x h

-- where there is no loop, the other end differs
pub other-differs : (g : Multigraph) → IsGraph g → (e x : ℕ) → e < edge_count g → is_end g x e ≡ true → other_end g e x ≢ x
other-differs g i e x l h = other_end-differs g e x i l h

-- an end of an edge is a given end or the other one
pub end-cases : (g : Multigraph) (e x z : ℕ) → is_end g x e ≡ true → is_end g z e ≡ true → (z ≡ x) ⊎ (z ≡ other_end g e x)
end-cases g e x z h k = cases (ends_of g e).0 (ends_of g e).1 h k
  where
    cases : (a b : ℕ) → ((a == x) || (b == x)) ≡ true → ((a == z) || (b == z)) ≡ true → (z ≡ x) ⊎ (z ≡ cond (a == x) b a)
    cases a b s t =
        elim (cases_Bool (a == x)) [
          | inl ax ↦ elim (or_cases (a == z) (b == z) t) [
            | inl az ↦ inl (sym (eqb-true a z az) ∙ eqb-true a x ax)
            | inr bz ↦ inr (rw ax (sym (eqb-true b z bz)))
          ]
          | inr nax ↦ elim (or_cases (a == z) (b == z) t) [
            | inl az ↦ inr (rw nax (sym (eqb-true a z az)))
            | inr bz ↦ inl (sym (eqb-true b z bz) ∙ elim (or_cases (a == x) (b == x) s) [ inl ax ↦ absurd (both_ways (a == x) nax ax) | inr bx ↦ eqb-true b x bx ])
          ]
        ]

-- where every end of an edge is a vertex, an end of an edge is one
pub end-in : (g : Multigraph) → IsGraph g → (e x : ℕ) → e < edge_count g → is_end g x e ≡ true → x < g.vertex_count
end-in g i e x l h = of_end g x e i l h
