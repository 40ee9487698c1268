-- A path more between two vertices with drawn edges: no vertex cuts what is drawn then.
use Rattle.std.proofs.Common.{◌≡◌, ◌≢◌, ℕ, ◌<◌, ◌⊎◌, inl, inr, Bool, true, false, not, ◌&&◌, ◌||◌, List, [], ◌∷◌, sym, ◌∙◌, subst}
use Rattle.std.proofs.lemmas.Bool.{both_ways, and_from, and_parts, not_from_false, or_left, or_right, or_cases, false_from_ne_true, true≢false, cases_eq}
use Rattle.permutations.specs.Members.{is_member, is_distinct}
use Rattle.permutations.proofs.Members.{member-head, member-tail, member-cases, no_member-head, no_member-tail, distinct-head, distinct-tail}
use Rattle.permutations.proofs.Relation.{connected-reflexive, connected-symmetric, connected-transitive}
use Rattle.permutations.proofs.Search.{some-from, some-witness}
use Rattle.multigraph.specs.Graph.{Multigraph, edge_count, is_end, other_end}
use Rattle.graph_theory.specs.Path.{walk_end, walk_vertices, IsWalk, IsPath}
use Rattle.graph_theory.specs.Joined.{ends_where, joined_where, avoiding}
use Rattle.graph_theory.proofs.Ends.{end-cases}
use Rattle.graph_theory.proofs.Joined.{joined-other, joined-more}
use Rattle.graph_theory.proofs.Walks.{first-met, last-met, edge-met}
use Rattle.path_separation.specs.Drawn.{is_on, IsUncut}

-- edges that pass a test, and a vertex u that is not passed
module _ (g : Multigraph) (t : ℕ → Bool) (u : ℕ) where
  abbrev apart : ℕ → ℕ → Bool
  apart = joined_where g (avoiding g u t)

  apart-reflexive : (x : ℕ) → apart x x ≡ true
  apart-reflexive = connected-reflexive (ends_where g (avoiding g u t))

  apart-symmetric : (x y : ℕ) → apart x y ≡ true → apart y x ≡ true
  apart-symmetric = connected-symmetric (ends_where g (avoiding g u t))

  apart-transitive : (x y z : ℕ) → apart x y ≡ true → apart y z ≡ true → apart x z ≡ true
  apart-transitive = connected-transitive (ends_where g (avoiding g u t))

  -- an edge between other vertices joins them
  apart-edge : (e x : ℕ) → e < edge_count g → is_end g x e ≡ true → t e ≡ true → x ≢ u → other_end g e x ≢ u → apart x (other_end g e x) ≡ true
  apart-edge e x l i h n o = joined-other g (avoiding g u t) e x l (and_from (t e) (not (is_end g u e)) h (not_from_false (is_end g u e) (false_from_ne_true (is_end g u e) away))) i
    where
      away : is_end g u e ≡ true → ⊥
      away j = elim (end-cases g e x u i j) [ inl q ↦ n (sym q) | inr q ↦ o (sym q) ]

  -- a walk that doesn't meet u joins its vertices with its end
  walk-apart : (es : List ℕ) (x : ℕ) → IsWalk g x es → ((e : ℕ) → is_member e es ≡ true → t e ≡ true) → is_member u (walk_vertices g x es) ≡ false
      → (w : ℕ) → is_member w (walk_vertices g x es) ≡ true → apart w (walk_end g x es) ≡ true
  walk-apart [] x k h n w m = elim (member-cases w x [] m) [
    | inl q ↦ subst (λ z. apart z x ≡ true) q (apart-reflexive x)
    | inr f ↦ absurd (true≢false (sym f))
  ]
  walk-apart (e ∷ es) x k h n w m =
      let y : ℕ = other_end g e x in
      let rest : is_member u (walk_vertices g y es) ≡ false = no_member-tail u x (walk_vertices g y es) n in
      let inner = walk-apart es y k.1 (λ f i. h f (member-tail f e es i)) rest in
      elim (member-cases w x (walk_vertices g y es) m) [
        | inr i ↦ inner w i
        | inl q ↦ subst (λ z. apart z (walk_end g y es) ≡ true) q (apart-transitive x y (walk_end g y es)
            (apart-edge e x k.0.0 k.0.1 (h e (member-head e es)) (no_member-head u x (walk_vertices g y es) n)
            (λ r. both_ways (is_member u (walk_vertices g y es)) rest (subst (λ z. is_member z (walk_vertices g y es) ≡ true) r (first-met g y es))))
            (inner y (first-met g y es)))
      ]

  -- a path joins each of its vertices with one of its two ends
  path-apart : (es : List ℕ) (x : ℕ) → IsWalk g x es → is_distinct (walk_vertices g x es) ≡ true → ((e : ℕ) → is_member e es ≡ true → t e ≡ true)
      → (w : ℕ) → is_member w (walk_vertices g x es) ≡ true → w ≢ u → ((apart w (walk_end g x es) ≡ true) × (walk_end g x es ≢ u)) ⊎ ((apart w x ≡ true) × (x ≢ u))
  path-apart [] x k d h w m n = elim (member-cases w x [] m) [
    | inl q ↦ inr (subst (λ z. apart z x ≡ true) q (apart-reflexive x), (λ r. n (sym q ∙ r)))
    | inr f ↦ absurd (true≢false (sym f))
  ]
  path-apart (e ∷ es) x k d h w m n =
      let y : ℕ = other_end g e x in
      let vs : List ℕ = walk_vertices g y es in
      let inside : (f : ℕ) → is_member f es ≡ true → t f ≡ true = λ f i. h f (member-tail f e es i) in
      elim (member-cases w x vs m) [
        | inl q ↦ inr (subst (λ z. apart z x ≡ true) q (apart-reflexive x), (λ r. n (sym q ∙ r)))
        | inr i ↦ elim (path-apart es y k.1 (distinct-tail x vs d) inside w i n) [
          | inl a ↦ inl a
          | inr a ↦ elim (cases_eq x u) [
            | inr o ↦ inr (apart-transitive w y x a.0 (apart-symmetric x y (apart-edge e x k.0.0 k.0.1 (h e (member-head e es)) o a.1)), o)
            | inl q ↦
                let none : is_member u vs ≡ false = subst (λ z. is_member z vs ≡ false) q (distinct-head x vs d) in
                inl (walk-apart es y k.1 inside none w i, (λ r. both_ways (is_member u vs) none (subst (λ z. is_member z vs ≡ true) r (last-met g y es))))
          ]
        ]
      ]

-- drawn edges that no vertex cuts, and a path more between two of their vertices
pub path-uncut : (g : Multigraph) (drawn more : ℕ → Bool) → IsUncut g drawn → (x z : ℕ) (es : List ℕ) → IsPath g x es z → is_on g drawn x ≡ true → is_on g drawn z ≡ true
    → ((e : ℕ) → more e ≡ (drawn e || is_member e es)) → IsUncut g more
path-uncut g drawn more uncut x z es p hx hz is u v w hv hw nv nw =
    let a = reach v hv nv in
    let b = reach w hw nw in
    apart-transitive g more u v a.0 w a.3 (apart-transitive g more u a.0 b.0 w
    (joined-more g (avoiding g u drawn) (avoiding g u more) (λ e l h. let q = and_parts (drawn e) (not (is_end g u e)) h in and_from (more e) (not (is_end g u e)) (old e q.0) q.1) a.0 b.0 (uncut u a.0 b.0 a.1 b.1 a.2 b.2))
    (apart-symmetric g more u w b.0 b.3))
  where
    old : (e : ℕ) → drawn e ≡ true → more e ≡ true
    old e h = is e ∙ or_left (drawn e) (is_member e es) h

    new : (e : ℕ) → is_member e es ≡ true → more e ≡ true
    new e h = is e ∙ or_right (drawn e) (is_member e es) h

    -- a vertex is joined with an old one
    reach : (y : ℕ) → is_on g more y ≡ true → y ≢ u → (r : ℕ) × (is_on g drawn r ≡ true) × (r ≢ u) × (joined_where g (avoiding g u more) y r ≡ true)
    reach y h n =
        let e = some-witness (edge_count g) (λ e. more e && is_end g y e) h in
        let q = and_parts (more e.0) (is_end g y e.0) e.2 in
        elim (or_cases (drawn e.0) (is_member e.0 es) (sym (is e.0) ∙ q.0)) [
          | inl d ↦ (y, some-from (edge_count g) (λ f. drawn f && is_end g y f) e.0 e.1 (and_from (drawn e.0) (is_end g y e.0) d q.1), n, apart-reflexive g more u y)
          | inr i ↦ elim (path-apart g more u es x p.walk p.vertices new y (edge-met g x es p.walk e.0 y i q.1) n) [
            | inl a ↦ (z, hz, (λ r. a.1 (p.arrives ∙ r)), subst (λ k. joined_where g (avoiding g u more) y k ≡ true) p.arrives a.0)
            | inr a ↦ (x, hx, a.1, a.0)
          ]
        ]
