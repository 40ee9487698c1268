-- A look along the edges at a vertex, edge by edge.
use Rattle.std.proofs.Common.{◌≡◌, ℕ, ◌+◌, ◌<◌, Bool, true, false, not, ◌||◌, ◌&&◌, ◌==◌, List, [], ◌∷◌, ◌++◌, length, slice_index, inl, inr, refl, sym, ap, ◌∙◌, arith, length-append}
use Rattle.std.proofs.lemmas.Bool.{eq-eqb, ne_eqb, cases_eq, cases_Bool, both_ways}
use Rattle.std.proofs.Math.Bool.{or-true, or-false, or_assoc}
use Rattle.std.proofs.Math.ListN.{set}
use Rattle.permutations.proofs.Search.{some-more}
use Rattle.permutations.specs.Members.{is_member}
use Rattle.permutations.proofs.Members.{member-append}
use Rattle.multigraph.specs.Graph.{Multigraph, incident_edges, other_end}
use Rattle.multigraph.specs.Marks.{is_marked}
use Rattle.faces.specs.Search.{LooksAlong, is_neighbour_by}
use Rattle.faces.proofs.Walk.{marked-set, unmarked-less}

-- a mark on x reads true at x, and nothing changes elsewhere
pub marked-here : (marks : List Bool) (x : ℕ) → x < length marks → is_marked (set marks x true) x ≡ true
marked-here marks x l = marked-set marks x x l ∙ ap (λ b. is_marked marks x || b) (eq-eqb x x refl) ∙ or-true (is_marked marks x)

pub marked-elsewhere : (marks : List Bool) (x y : ℕ) → x < length marks → (x ≡ y → ⊥) → is_marked (set marks x true) y ≡ is_marked marks y
marked-elsewhere marks x y l n = marked-set marks x y l ∙ ap (λ b. is_marked marks y || b) (ne_eqb x y n) ∙ or-false (is_marked marks y)

-- one more on the stack
pub member-push : (x y : ℕ) (stack : List ℕ) → is_member x (stack ++ y ∷ []) ≡ (is_member x stack || (y == x))
member-push x y stack = member-append x stack (y ∷ []) ∙ ap (λ b. is_member x stack || b) (or-false (y == x))

-- the last on the stack is there
pub member-last : (x : ℕ) (stack : List ℕ) → is_member x (stack ++ x ∷ []) ≡ true
member-last x stack = member-push x x stack ∙ ap (λ b. is_member x stack || b) (eq-eqb x x refl) ∙ or-true (is_member x stack)

-- one edge more leads to where it leads
pub leads_to-more : (g : Multigraph) (v k x : ℕ) → is_neighbour_by g v (k + 1) x ≡ (is_neighbour_by g v k x || (other_end g (slice_index (incident_edges g v) k) v == x))
leads_to-more g v k x = some-more k (λ i. other_end g (slice_index (incident_edges g v) i) v == x)

-- an edge that leads to a marked vertex changes nothing
pub looks-skip : (g : Multigraph) (v k y : ℕ) (marks : List Bool) (stack : List ℕ) (new_marks : List Bool) (new_stack : List ℕ)
    → LooksAlong g v k marks stack new_marks new_stack → other_end g (slice_index (incident_edges g v) k) v ≡ y → is_marked new_marks y ≡ true
    → LooksAlong g v (k + 1) marks stack new_marks new_stack
looks-skip g v k y marks stack new_marks new_stack look to e = record {
  marked = λ x. marked x;
  waits = look.waits;
  rest = look.rest;
}
  where
    edges : (x : ℕ) → is_neighbour_by g v (k + 1) x ≡ (is_neighbour_by g v k x || (y == x))
    edges x = leads_to-more g v k x ∙ ap (λ z. is_neighbour_by g v k x || (z == x)) to

    marked : (x : ℕ) → is_marked new_marks x ≡ (is_marked marks x || is_neighbour_by g v (k + 1) x)
    marked x = elim (cases_eq y x) [
      | inl s ↦
          let old : is_marked new_marks x ≡ true = sym (ap (is_marked new_marks) s) ∙ e in
          let more : is_neighbour_by g v (k + 1) x ≡ true = edges x ∙ ap (λ b. is_neighbour_by g v k x || b) (eq-eqb y x s) ∙ or-true (is_neighbour_by g v k x) in
          old ∙ sym (ap (λ b. is_marked marks x || b) more ∙ or-true (is_marked marks x))
      | inr n ↦
          let same : is_neighbour_by g v (k + 1) x ≡ is_neighbour_by g v k x = edges x ∙ ap (λ b. is_neighbour_by g v k x || b) (ne_eqb y x n) ∙ or-false (is_neighbour_by g v k x) in
          look.marked x ∙ sym (ap (λ b. is_marked marks x || b) same)
    ]

-- an edge that leads to an unmarked vertex marks it and puts it on the stack
pub looks-more : (g : Multigraph) (v k y : ℕ) (marks : List Bool) (stack : List ℕ) (new_marks : List Bool) (new_stack : List ℕ)
    → LooksAlong g v k marks stack new_marks new_stack → other_end g (slice_index (incident_edges g v) k) v ≡ y → y < length new_marks → is_marked new_marks y ≡ false
    → LooksAlong g v (k + 1) marks stack (set new_marks y true) (new_stack ++ y ∷ [])
looks-more g v k y marks stack new_marks new_stack look to l e = record {
  marked = λ x. marked x;
  waits = λ x. waits x;
  rest = omega (arith, unmarked-less new_marks y l e, look.rest, length-append new_stack (y ∷ []));
}
  where
    edges : (x : ℕ) → is_neighbour_by g v (k + 1) x ≡ (is_neighbour_by g v k x || (y == x))
    edges x = leads_to-more g v k x ∙ ap (λ z. is_neighbour_by g v k x || (z == x)) to

    marked : (x : ℕ) → is_marked (set new_marks y true) x ≡ (is_marked marks x || is_neighbour_by g v (k + 1) x)
    marked x = marked-set new_marks y x l ∙ ap (λ b. b || (y == x)) (look.marked x) ∙ or_assoc (is_marked marks x) (is_neighbour_by g v k x) (y == x) ∙ ap (λ b. is_marked marks x || b) (sym (edges x))

    fresh : is_marked marks y ≡ false
    fresh = elim (cases_Bool (is_marked marks y)) [
      | inl t ↦ absurd (both_ways (is_marked new_marks y) e (look.marked y ∙ ap (λ b. b || is_neighbour_by g v k y) t))
      | inr t ↦ t
    ]

    waits : (x : ℕ) → is_member x (new_stack ++ y ∷ []) ≡ (is_member x stack || (is_marked (set new_marks y true) x && not (is_marked marks x)))
    waits x = elim (cases_eq y x) [
      | inl s ↦
          let now : is_marked (set new_marks y true) x ≡ true = sym (ap (is_marked (set new_marks y true)) s) ∙ marked-here new_marks y l in
          let before : is_marked marks x ≡ false = sym (ap (is_marked marks) s) ∙ fresh in
          let left : is_member x (new_stack ++ y ∷ []) ≡ true = member-push x y new_stack ∙ ap (λ b. is_member x new_stack || b) (eq-eqb y x s) ∙ or-true (is_member x new_stack) in
          left ∙ sym (rw (now, before) (or-true (is_member x stack)))
      | inr n ↦
          let now : is_marked (set new_marks y true) x ≡ is_marked new_marks x = marked-elsewhere new_marks y x l n in
          let left : is_member x (new_stack ++ y ∷ []) ≡ is_member x new_stack = member-push x y new_stack ∙ ap (λ b. is_member x new_stack || b) (ne_eqb y x n) ∙ or-false (is_member x new_stack) in
          left ∙ look.waits x ∙ sym (ap (λ b. is_member x stack || (b && not (is_marked marks x))) now)
    ]
