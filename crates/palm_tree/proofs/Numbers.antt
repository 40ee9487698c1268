-- The numbers, one vertex after another.
use Rattle.std.proofs.Common.{◌≡◌, ℕ, ◌+◌, ◌<◌, ◌≤◌, ◌⊎◌, inl, inr, Bool, true, false, if◌then◌else◌, ltb, List, [], ◌∷◌, ◌++◌, length, take, drop, get_or, set, replicate, refl, sym, ap, ◌∙◌, subst, arith, length-set}
use Rattle.std.proofs.lemmas.Bool.{cases_Bool, cases_lt, true≢false, false_from_ne_true}
use Rattle.std.proofs.lemmas.List.{length-replicate, take_more, drop_more, take-append-drop}
use Rattle.permutations.specs.Members.{is_member, is_distinct}
use Rattle.permutations.proofs.Members.{member-head, member-cases, member-append_left, member-append_cases, distinct-append_apart}
use Rattle.multigraph.specs.Graph.{Multigraph, IsGraph, IsWithinLimits}
use Rattle.search_forest.specs.Forest.{ForestState}
use Rattle.search_forest.specs.Searching.{IsOver}
use Rattle.palm_tree.specs.Growing.{AreSizes, HasRoom, AreNumbersSoFar}
use Rattle.search_forest.proofs.Writes.{number-same, number-other}
use Rattle.search_forest.proofs.Grown.{parent-in, order-in}

module _ (g : Multigraph) (gg : IsGraph g) (s : ForestState) (o : IsOver g s) (size offset : List ℕ) (z : AreSizes g s size) (room : HasRoom g s size offset) where
  -- no vertex is numbered yet
  pub start-numbers : (number : List ℕ) → number ≡ replicate g.vertex_count 0 → AreNumbersSoFar g s size offset [] number
  start-numbers number e = record {
    places = ap (length {A = ℕ}) e ∙ length-replicate g.vertex_count 0;
    root = λ v h d. absurd (true≢false (sym h));
    child = λ v h d. absurd (true≢false (sym h));
    few = λ v h. absurd (true≢false (sym h));
    parent_done = λ v h d. absurd (true≢false (sym h));
  }

  module _ (done number number' : List ℕ) (v x : ℕ) (a : AreNumbersSoFar g s size offset done number) (vl : v < g.vertex_count) (out : is_member v done ≡ false) (e : number' ≡ set number v x) where
    here : get_or number' v 0 ≡ x
    here = ap (λ (l : List ℕ). get_or l v 0) e ∙ number-same number v x (omega (arith, vl, a.places))

    stays : (u : ℕ) → is_member u done ≡ true → get_or number' u 0 ≡ get_or number u 0
    stays u h = ap (λ (l : List ℕ). get_or l u 0) e ∙ number-other number v u x (λ q. true≢false (sym h ∙ (ap (λ (k : ℕ). is_member k done) q ∙ out)))

    cases : (u : ℕ) → is_member u (done ++ v ∷ []) ≡ true → (is_member u done ≡ true) ⊎ (v ≡ u)
    cases u h = elim (member-append_cases u done (v ∷ []) h) [
      | inl m ↦ inl m
      | inr m ↦ elim (member-cases u v [] m) [ inl q ↦ inr q | inr n ↦ absurd (true≢false (sym n)) ]
    ]

    -- one more is numbered
    pub number-given : (get_or s.depth v 0 ≡ 0 → x ≡ 0) → (0 < get_or s.depth v 0 → (is_member (get_or s.parent v 0) done ≡ true) × (x ≡ get_or number (get_or s.parent v 0) 0 + 1 + get_or offset v 0)) → AreNumbersSoFar g s size offset (done ++ v ∷ []) number'
    number-given r c = record {
      places = ap (length {A = ℕ}) e ∙ (length-set number v x ∙ a.places);
      root = λ u h d. elim (cases u h) [
        | inl m ↦ stays u m ∙ a.root u m d
        | inr q ↦ subst (λ (k : ℕ). get_or number' k 0 ≡ 0) q (here ∙ r (ap (λ (k : ℕ). get_or s.depth k 0) q ∙ d))
      ];
      child = λ u h d. elim (cases u h) [
        | inl m ↦ omega (arith, stays u m, a.child u m d, stays (get_or s.parent u 0) (a.parent_done u m d))
        | inr q ↦ subst (λ (k : ℕ). get_or number' k 0 ≡ get_or number' (get_or s.parent k 0) 0 + 1 + get_or offset k 0) q
            (let w = c (omega (arith, d, ap (λ (k : ℕ). get_or s.depth k 0) q)) in omega (arith, here, w.1, stays (get_or s.parent v 0) w.0))
      ];
      few = λ u h. elim (cases u h) [
        | inl m ↦ omega (arith, stays u m, a.few u m)
        | inr q ↦ subst (λ (k : ℕ). get_or number' k 0 + get_or size k 0 ≤ g.vertex_count) q few-here
      ];
      parent_done = λ u h d. elim (cases u h) [
        | inl m ↦ member-append_left (get_or s.parent u 0) done (v ∷ []) (a.parent_done u m d)
        | inr q ↦ subst (λ (k : ℕ). is_member (get_or s.parent k 0) (done ++ v ∷ []) ≡ true) q (member-append_left (get_or s.parent v 0) done (v ∷ []) (c (omega (arith, d, ap (λ (k : ℕ). get_or s.depth k 0) q))).0)
      ];
    }
      where
        few-here : get_or number' v 0 + get_or size v 0 ≤ g.vertex_count
        few-here = elim (cases_lt 0 (get_or s.depth v 0)) [
          | inl d ↦ let w = c d in omega (arith, here, w.1, a.few (get_or s.parent v 0) w.0, room v vl d)
          | inr n ↦ omega (arith, here, r (omega arith), z.few v vl)
        ]

  order-out : (i : ℕ) → i < length s.order → is_member (get_or s.order i 0) (take i s.order) ≡ false
  order-out i l =
      let d : is_distinct (take i s.order ++ drop i s.order) ≡ true = subst (λ (x : List ℕ). is_distinct x ≡ true) (sym (take-append-drop i s.order)) o.forest.ordered.distinct in
      let b : is_member (get_or s.order i 0) (drop i s.order) ≡ true = ap (is_member (get_or s.order i 0)) (drop_more s.order i 0 l) ∙ member-head (get_or s.order i 0) (drop (i + 1) s.order) in
      false_from_ne_true (is_member (get_or s.order i 0) (take i s.order)) (λ h. true≢false (sym b ∙ distinct-append_apart (take i s.order) (drop i s.order) d (get_or s.order i 0) h))

  -- the step as the code has it
  pub number-returns : (i v : ℕ) (number number' : List ℕ) → i < length s.order → v ≡ get_or s.order i 0 → AreNumbersSoFar g s size offset (take i s.order) number
      → number' ≡ (if ltb 0 (get_or s.depth v 0) then set number v (get_or number (get_or s.parent v 0) 0 + 1 + get_or offset v 0) else set number v 0) → AreNumbersSoFar g s size offset (take (i + 1) s.order) number'
  number-returns i v number number' l e a en = subst (λ (x : List ℕ). AreNumbersSoFar g s size offset x number') t
      (elim (cases_Bool (ltb 0 (get_or s.depth v 0))) [
        | inl b ↦ number-given (take i s.order) number number' v (get_or number (get_or s.parent v 0) 0 + 1 + get_or offset v 0) a vl out (en ∙ ap (λ (c : Bool). (if c then set number v (get_or number (get_or s.parent v 0) 0 + 1 + get_or offset v 0) else set number v 0)) b)
            (λ d. absurd (not-root b d)) (λ d. (parent d, refl))
        | inr b ↦ number-given (take i s.order) number number' v 0 a vl out (en ∙ ap (λ (c : Bool). (if c then set number v (get_or number (get_or s.parent v 0) 0 + 1 + get_or offset v 0) else set number v 0)) b)
            (λ d. refl) (λ d. absurd (not-deep b d))
      ])
    where
      not-root : ltb 0 (get_or s.depth v 0) ≡ true → get_or s.depth v 0 ≡ 0 → ⊥
      not-root b d = let p : 0 < get_or s.depth v 0 = grind (arith, b) in absurd (omega arith)

      not-deep : ltb 0 (get_or s.depth v 0) ≡ false → 0 < get_or s.depth v 0 → ⊥
      not-deep b d = let p : get_or s.depth v 0 ≡ 0 = grind (arith, b) in absurd (omega arith)

      vl : v < g.vertex_count
      vl = omega (arith, e, order-in g gg s o i l)

      out : is_member v (take i s.order) ≡ false
      out = subst (λ (k : ℕ). is_member k (take i s.order) ≡ false) (sym e) (order-out i l)

      t : take i s.order ++ v ∷ [] ≡ take (i + 1) s.order
      t = ap (λ (x : ℕ). take i s.order ++ x ∷ []) e ∙ sym (take_more s.order i 0 l)

      parent : 0 < get_or s.depth v 0 → is_member (get_or s.parent v 0) (take i s.order) ≡ true
      parent d = subst (λ (k : ℕ). is_member (get_or s.parent k 0) (take i s.order) ≡ true) (sym e) (o.forest.ordered.behind_parent i l (subst (λ (k : ℕ). 0 < get_or s.depth k 0) e d))

  -- the vertex is one, its parent too, and the number can be counted on
  pub number-can : IsWithinLimits g → (i v : ℕ) (number : List ℕ) → i < length s.order → v ≡ get_or s.order i 0 → AreNumbersSoFar g s size offset (take i s.order) number
      → (v < g.vertex_count) × (0 < get_or s.depth v 0 → (get_or s.parent v 0 < g.vertex_count) × (get_or number (get_or s.parent v 0) 0 + 1 + get_or offset v 0 < 4294967296))
  number-can limits i v number l e a = (vl, λ d. (parent-in g gg s o v vl d, omega (arith, room v vl d, a.few (get_or s.parent v 0) (parent d), limits.few_vertices)))
    where
      vl : v < g.vertex_count
      vl = omega (arith, e, order-in g gg s o i l)

      parent : 0 < get_or s.depth v 0 → is_member (get_or s.parent v 0) (take i s.order) ≡ true
      parent d = subst (λ (k : ℕ). is_member (get_or s.parent k 0) (take i s.order) ≡ true) (sym e) (o.forest.ordered.behind_parent i l (subst (λ (k : ℕ). 0 < get_or s.depth k 0) e d))
