-- The search of one component: what is marked is connected to the start, and all neighbours of what waits no more are marked.
use Rattle.std.proofs.Common.{◌≡◌, ℕ, ◌<◌, Bool, true, false, not, ◌||◌, ◌&&◌, ◌==◌, ◌⊎◌, List, [], ◌∷◌, ◌++◌, length, inl, inr, refl, sym, ap, ◌∙◌, subst}
use Rattle.std.proofs.lemmas.Bool.{eqb-true, ne_eqb, cases_eq, cases_Bool, both_ways, or_cases, or_left, or_right, or_from, not-true, and_parts}
use Rattle.std.proofs.Math.Bool.{or-true, or-false}
use Rattle.std.proofs.Math.ListN.{set}
use Rattle.permutations.specs.Relation.{connected}
use Rattle.permutations.specs.Members.{is_member}
use Rattle.permutations.proofs.Relation.{same-tests, connected-reflexive, connected-transitive}
use Rattle.multigraph.specs.Graph.{Multigraph, IsGraph, edge_count, ends_of, incident_edges}
use Rattle.multigraph.specs.Marks.{is_marked}
use Rattle.faces.specs.Search.{LooksAlong, is_neighbour}
use Rattle.faces.proofs.Walk.{marked-set}
use Rattle.faces.proofs.Looks.{marked-here, member-push, member-last}
use Rattle.faces.proofs.Neighbours.{neighbour-same, neighbour-connected, neighbour-in, connected-handed}

-- the search from `start`: the marks before it and now, and the vertices that wait
pub record Searched (g : Multigraph) (before now : List Bool) (stack : List ℕ) (start : ℕ) : Type 0 where
  pub kept : (x : ℕ) → is_marked before x ≡ true → is_marked now x ≡ true
  pub begun : is_marked now start ≡ true
  pub sound : (x : ℕ) → is_marked now x ≡ true → (is_marked before x ≡ true) ⊎ (connected g.ends start x ≡ true)
  pub waiting : (x : ℕ) → is_member x stack ≡ true → (x < g.vertex_count) × (connected g.ends start x ≡ true)
  pub closed : (v x : ℕ) → is_marked now v ≡ true → is_member v stack ≡ false → is_neighbour g v x ≡ true → is_marked now x ≡ true

-- at first the start alone is marked anew, and waits
pub searched-start : (g : Multigraph) (before : List Bool) (start : ℕ) → IsGraph g → start < g.vertex_count → start < length before
    → ((e : ℕ) → e < edge_count g → is_marked before (ends_of g e).0 ≡ is_marked before (ends_of g e).1)
    → Searched g before (set before start true) (start ∷ []) start
searched-start g before start ok l m whole = record {
  kept = λ x h. marked-set before start x m ∙ ap (λ b. b || (start == x)) h;
  begun = marked-here before start m;
  sound = λ x h. sound x h;
  waiting = λ x h. waiting x h;
  closed = λ v x h w t. closed v x h w t;
}
  where
    sound : (x : ℕ) → is_marked (set before start true) x ≡ true → (is_marked before x ≡ true) ⊎ (connected g.ends start x ≡ true)
    sound x h = elim (or_cases (is_marked before x) (start == x) (sym (marked-set before start x m) ∙ h)) [
      | inl t ↦ inl t
      | inr t ↦ inr (subst (λ z. connected g.ends start z ≡ true) (eqb-true start x t) (connected-reflexive g.ends start))
    ]

    waiting : (x : ℕ) → is_member x (start ∷ []) ≡ true → (x < g.vertex_count) × (connected g.ends start x ≡ true)
    waiting x h =
        let same : start ≡ x = eqb-true start x (sym (or-false (start == x)) ∙ h) in
        (subst (λ z. z < g.vertex_count) same l, subst (λ z. connected g.ends start z ≡ true) same (connected-reflexive g.ends start))

    closed : (v x : ℕ) → is_marked (set before start true) v ≡ true → is_member v (start ∷ []) ≡ false → is_neighbour g v x ≡ true → is_marked (set before start true) x ≡ true
    closed v x h w t = elim (or_cases (is_marked before v) (start == v) (sym (marked-set before start v m) ∙ h)) [
      | inl old ↦
          let next : is_marked before x ≡ true = sym (neighbour-same g (λ a b. is_marked before a ≡ is_marked before b) ok whole (λ a b e. sym e) v x t) ∙ old in
          marked-set before start x m ∙ ap (λ b. b || (start == x)) next
      | inr s ↦ absurd (both_ways (start == v) (sym (or-false (start == v)) ∙ w) s)
    ]

-- one vertex is taken from the stack, and looked along
pub searched-more : (g : Multigraph) (before now : List Bool) (stack : List ℕ) (start v : ℕ) (new_marks : List Bool) (new_stack : List ℕ) → IsGraph g
    → Searched g before now (stack ++ v ∷ []) start → LooksAlong g v (length (incident_edges g v)) now stack new_marks new_stack → Searched g before new_marks new_stack start
searched-more g before now stack start v new_marks new_stack ok s look = record {
  kept = λ x h. grown x (s.kept x h);
  begun = grown start s.begun;
  sound = λ x h. sound x h;
  waiting = λ x h. waiting x h;
  closed = λ w x h out t. closed w x h out t;
}
  where
    grown : (x : ℕ) → is_marked now x ≡ true → is_marked new_marks x ≡ true
    grown x h = look.marked x ∙ ap (λ b. b || is_neighbour g v x) h

    waits_still : (x : ℕ) → is_member x stack ≡ true → is_member x (stack ++ v ∷ []) ≡ true
    waits_still x h = member-push x v stack ∙ ap (λ b. b || (v == x)) h

    reached : connected g.ends start v ≡ true
    reached = (s.waiting v (member-last v stack)).1

    beyond : (x : ℕ) → is_neighbour g v x ≡ true → connected g.ends start x ≡ true
    beyond x t = connected-transitive g.ends start v x reached (neighbour-connected g v x ok t)

    sound : (x : ℕ) → is_marked new_marks x ≡ true → (is_marked before x ≡ true) ⊎ (connected g.ends start x ≡ true)
    sound x h = elim (or_cases (is_marked now x) (is_neighbour g v x) (sym (look.marked x) ∙ h)) [
      | inl old ↦ s.sound x old
      | inr t ↦ inr (beyond x t)
    ]

    waiting : (x : ℕ) → is_member x new_stack ≡ true → (x < g.vertex_count) × (connected g.ends start x ≡ true)
    waiting x h = elim (or_cases (is_member x stack) (is_marked new_marks x && not (is_marked now x)) (sym (look.waits x) ∙ h)) [
      | inl old ↦ s.waiting x (waits_still x old)
      | inr new ↦
          let t : is_neighbour g v x ≡ true = fresh x new in
          (neighbour-in g v x ok t, beyond x t)
    ]
      where
        fresh : (x : ℕ) → (is_marked new_marks x && not (is_marked now x)) ≡ true → is_neighbour g v x ≡ true
        fresh x new =
            let parts : (is_marked new_marks x ≡ true) × (not (is_marked now x) ≡ true) = and_parts (is_marked new_marks x) (not (is_marked now x)) new in
            elim (or_cases (is_marked now x) (is_neighbour g v x) (sym (look.marked x) ∙ parts.0)) [
              | inl old ↦ absurd (both_ways (is_marked now x) (not-true (is_marked now x) parts.1) old)
              | inr t ↦ t
            ]

    closed : (w x : ℕ) → is_marked new_marks w ≡ true → is_member w new_stack ≡ false → is_neighbour g w x ≡ true → is_marked new_marks x ≡ true
    closed w x h out t = elim (cases_eq v w) [
      | inl same ↦ look.marked x ∙ or_right (is_marked now x) (is_neighbour g v x) (subst (λ z. is_neighbour g z x ≡ true) (sym same) t)
      | inr apart ↦ grown x (s.closed w x (old w h out) (member-push w v stack ∙ or_from (is_member w stack) (v == w) (gone w out) (ne_eqb v w apart)) t)
    ]
      where
        gone : (w : ℕ) → is_member w new_stack ≡ false → is_member w stack ≡ false
        gone w out = elim (cases_Bool (is_member w stack)) [
          | inl t ↦ absurd (both_ways (is_member w new_stack) out (look.waits w ∙ ap (λ b. b || (is_marked new_marks w && not (is_marked now w))) t))
          | inr f ↦ f
        ]

        old : (w : ℕ) → is_marked new_marks w ≡ true → is_member w new_stack ≡ false → is_marked now w ≡ true
        old w h out = elim (cases_Bool (is_marked now w)) [
          | inl t ↦ t
          | inr f ↦ absurd (both_ways (is_member w new_stack) out (look.waits w ∙ rw (h, f) (or-true (is_member w stack))))
        ]

-- where nothing waits, just the component of the start is marked anew
pub searched-all : (g : Multigraph) (before now : List Bool) (start : ℕ) → IsGraph g → Searched g before now [] start → (x : ℕ) → is_marked now x ≡ (is_marked before x || connected g.ends start x)
searched-all g before now start ok s x = same-tests (is_marked now x) (is_marked before x || connected g.ends start x) forth back
  where
    forth : is_marked now x ≡ true → (is_marked before x || connected g.ends start x) ≡ true
    forth h = elim (s.sound x h) [
      | inl old ↦ or_left (is_marked before x) (connected g.ends start x) old
      | inr t ↦ or_right (is_marked before x) (connected g.ends start x) t
    ]

    back : (is_marked before x || connected g.ends start x) ≡ true → is_marked now x ≡ true
    back h = elim (or_cases (is_marked before x) (connected g.ends start x) h) [
      | inl old ↦ s.kept x old
      | inr t ↦ sym (connected-handed g (is_marked now) ok (λ v y m n. s.closed v y m refl n) start x t) ∙ s.begun
    ]
