-- A graph is triconnected if it stays connected without each two numbers up to that of its vertices.
use Rattle.std.proofs.Common.{◌≡◌, ℕ, suc, ◌+◌, ◌<◌, inl, inr, Bool, false, true, not, ◌&&◌, ◌||◌, ◌==◌, if◌then◌else◌, List, [], ◌∷◌, length, filter, slice_index_or, refl, sym, ap, ◌∙◌, subst, arith}
use Rattle.std.proofs.lemmas.Bool.{cases_Bool, cases_lt, ne_eqb}
use Rattle.permutations.specs.Members.{is_member}
use Rattle.permutations.specs.Relation.{connected}
use Rattle.multigraph.specs.Graph.{Multigraph, IsGraph, ends_of}
use Rattle.graph_theory.specs.Triconnected.{avoids, ends_without, IsConnectedWithout}

-- tests that agree on the members choose the same ones
same-filter : (p q : ℕ × ℕ → Bool) (l : List (ℕ × ℕ)) → ((i : ℕ) → i < length l → p (slice_index_or l i (0, 0)) ≡ q (slice_index_or l i (0, 0))) → filter p l ≡ filter q l
same-filter p q [] h = refl
same-filter p q (u ∷ l) h =
    ap (λ (b : Bool). if b then u ∷ filter p l else filter p l) (h 0 (omega arith))
    ∙ ap (λ (t : List (ℕ × ℕ)). if q u then u ∷ t else t) (same-filter p q l (λ i k. h (suc i) (omega (arith, k))))

module _ (g : Multigraph) (ok : IsGraph g) where
  -- it matters only which vertices are removed
  without-same : (r q : List ℕ) → ((z : ℕ) → z < g.vertex_count → is_member z r ≡ is_member z q) → IsConnectedWithout g q → IsConnectedWithout g r
  without-same r q m c u v lu lv nu nv = subst (λ (l : List (ℕ × ℕ)). connected l u v ≡ true) (sym same) (c u v lu lv (sym (m u lu) ∙ nu) (sym (m v lv) ∙ nv))
    where
      same : ends_without g r ≡ ends_without g q
      same = same-filter (avoids r) (avoids q) g.ends (λ i k. λ j. not (m (ends_of g i).0 (ok.first_in i k) j) && not (m (ends_of g i).1 (ok.second_in i k) j))

  -- a number that is no vertex is as good as that of the vertices
  named : (a : ℕ) → (c : ℕ) × (c < g.vertex_count + 1) × ((z : ℕ) → z < g.vertex_count → (a == z) ≡ (c == z))
  named a = elim (cases_lt a g.vertex_count) [
    | inl l ↦ (a, omega (arith, l), λ z _. refl)
    | inr l ↦ (g.vertex_count, omega arith, λ z k. ne_eqb a z (λ q. omega (arith, q, k, l)) ∙ sym (ne_eqb g.vertex_count z (λ q. omega (arith, q, k))))
  ]

  twice : (b : Bool) → (b || false) ≡ (b || (b || false))
  twice b = grind (arith, cases_Bool b)

  -- each two numbers, from each two up to that of the vertices
  pub pairs-removed : ((a b : ℕ) → a < g.vertex_count + 1 → b < g.vertex_count + 1 → IsConnectedWithout g (a ∷ b ∷ b ∷ [])) → (a b : ℕ) → IsConnectedWithout g (a ∷ b ∷ [])
  pairs-removed h a b =
      let c = named a in
      let d = named b in
      without-same (a ∷ b ∷ []) (c.0 ∷ d.0 ∷ d.0 ∷ [])
      (λ z k. ap (λ t. (a == z) || t) (twice (b == z)) ∙ (λ j. c.2 z k j || (d.2 z k j || (d.2 z k j || false))))
      (h c.0 d.0 c.1 d.1)

  -- and back
  pub pair-twice : (a b : ℕ) → IsConnectedWithout g (a ∷ b ∷ []) → IsConnectedWithout g (a ∷ b ∷ b ∷ [])
  pair-twice a b = without-same (a ∷ b ∷ b ∷ []) (a ∷ b ∷ []) (λ z k. ap (λ t. (a == z) || t) (sym (twice (b == z))))
