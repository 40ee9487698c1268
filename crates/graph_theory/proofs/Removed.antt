-- What is connected when vertices are removed.
use Rattle.std.proofs.Common.{◌≡◌, ℕ, ◌<◌, ◌⊎◌, inl, inr, Bool, true, false, not, List, [], ◌∷◌, get_or, refl, sym, ◌∙◌, subst, arith, All, Contains}
use Rattle.std.specs.List.{filter}
use Rattle.std.proofs.lemmas.Bool.{cases_Bool, and_parts, and_from, not-true, not_from_false, true≢false}
use Rattle.std.proofs.lemmas.List.{get_or_default}
use Rattle.std.proofs.lemmas.List.Elements.{All-filter, All-cons, All-weaker, filter_passes, filter_agree, Contains-append_right}
use Rattle.permutations.specs.Members.{is_member}
use Rattle.permutations.specs.Relation.{connected}
use Rattle.permutations.proofs.Members.{member-head, member-tail, member-cases}
use Rattle.permutations.proofs.Filter.{filter-yes, filter-no}
use Rattle.permutations.proofs.Relation.{connected-reflexive, connected-symmetric, connected-transitive, connected-link, connected-least-typed, same-tests}
use Rattle.multigraph.specs.Graph.{Multigraph, edge_count, ends_of, is_end, other_end}
use Rattle.multigraph.proofs.OtherEnd.{is_end-first, is_end-second, is_end-cases, other_end-cases, other_end-of_first, other_end-is_end}
use Rattle.graph_theory.specs.Path.{walk_vertices, IsWalk, PathWithout}
use Rattle.graph_theory.specs.Joined.{ends_where, joined_where, PathWhere}
use Rattle.graph_theory.specs.Triconnected.{avoids, ends_without}
use Rattle.graph_theory.proofs.Walks.{edge-met}
use Rattle.graph_theory.proofs.Joined.{joined-ends, joined-least-typed, joined-path, path-joined}

-- what a list has is kept where it passes
pub contains-filter : {X : Type 0} (p : X → Bool) (xs : List X) → All (λ x. p x ≡ true → Contains (filter p xs) x) xs
contains-filter p [] = λ k d l. absurd (omega arith)
contains-filter p (y ∷ xs) = All-cons (λ x. p x ≡ true → Contains (filter p (y ∷ xs)) x) y xs
    (λ t. subst (λ (l : List _). Contains l y) (sym (filter-yes p y xs t)) (0, omega arith, refl))
    (All-weaker (λ x. p x ≡ true → Contains (filter p xs) x) (λ x. p x ≡ true → Contains (filter p (y ∷ xs)) x)
    (λ x c t. elim (cases_Bool (p y)) [
      | inl e ↦ subst (λ (l : List _). Contains l x) (sym (filter-yes p y xs e)) (Contains-append_right (y ∷ []) (filter p xs) x (c t))
      | inr e ↦ subst (λ (l : List _). Contains l x) (sym (filter-no p y xs e)) (c t)
    ])
    xs (contains-filter p xs))

-- an edge neither end of which is removed avoids the removed vertices
pub avoids-from : (removed : List ℕ) (link : ℕ × ℕ) → is_member link.0 removed ≡ false → is_member link.1 removed ≡ false → avoids removed link ≡ true
avoids-from removed link a b = and_from (not (is_member link.0 removed)) (not (is_member link.1 removed)) (not_from_false (is_member link.0 removed) a) (not_from_false (is_member link.1 removed) b)

-- an edge with an end that is removed does not avoid them
pub avoids-not : (removed : List ℕ) (link : ℕ × ℕ) → (is_member link.0 removed ≡ true) ⊎ (is_member link.1 removed ≡ true) → avoids removed link ≡ false
avoids-not removed link h = elim h [ inl a ↦ grind (arith, a) | inr a ↦ grind (arith, a, cases_Bool (is_member link.0 removed)) ]

-- neither end of an edge that avoids the removed vertices is removed
avoids-parts : (removed : List ℕ) (link : ℕ × ℕ) → avoids removed link ≡ true → (is_member link.0 removed ≡ false) × (is_member link.1 removed ≡ false)
avoids-parts removed link h =
    let w = and_parts (not (is_member link.0 removed)) (not (is_member link.1 removed)) h in
    (not-true (is_member link.0 removed) w.0, not-true (is_member link.1 removed) w.1)

-- the other end of the second end is the first
other_end-of_last : (g : Multigraph) (e : ℕ) → other_end g e (ends_of g e).1 ≡ (ends_of g e).0
other_end-of_last g e = elim (other_end-cases g e (ends_of g e).1) [ inl c ↦ c.1 ∙ sym c.0 | inr c ↦ c.1 ]

-- an edge whose ends are not removed connects its first end with its second
pub link-without : (g : Multigraph) (removed : List ℕ) (e : ℕ) → e < edge_count g
    → is_member (ends_of g e).0 removed ≡ false → is_member (ends_of g e).1 removed ≡ false → connected (ends_without g removed) (ends_of g e).0 (ends_of g e).1 ≡ true
link-without g removed e l a b =
    connected-link (ends_without g removed) (ends_of g e).0 (ends_of g e).1 (contains-filter (avoids removed) g.ends e (0, 0) l (avoids-from removed (ends_of g e) a b))

-- an edge whose ends are not removed connects them
pub step-without : (g : Multigraph) (removed : List ℕ) (e p : ℕ) → e < edge_count g → is_end g p e ≡ true
    → is_member p removed ≡ false → is_member (other_end g e p) removed ≡ false → connected (ends_without g removed) p (other_end g e p) ≡ true
step-without g removed e p l h a b = elim (other_end-cases g e p) [
  | inl c ↦ subst (λ (q : ℕ). connected (ends_without g removed) p q ≡ true) (sym c.1)
      (subst (λ (q : ℕ). connected (ends_without g removed) q (ends_of g e).1 ≡ true) c.0
      (link-without g removed e l (subst (λ (q : ℕ). is_member q removed ≡ false) (sym c.0) a) (subst (λ (q : ℕ). is_member q removed ≡ false) c.1 b)))
  | inr c ↦ elim (is_end-cases g p e h) [
    | inl same ↦ absurd (c.0 same)
    | inr same ↦ connected-symmetric (ends_without g removed) (other_end g e p) p
        (subst (λ (q : ℕ). connected (ends_without g removed) q p ≡ true) (sym c.1)
        (subst (λ (q : ℕ). connected (ends_without g removed) (ends_of g e).0 q ≡ true) same
        (link-without g removed e l (subst (λ (q : ℕ). is_member q removed ≡ false) c.1 b) (subst (λ (q : ℕ). is_member q removed ≡ false) (sym same) a))))
  ]
]

-- the least: a relation with values in types that contains each edge whose ends are not removed contains connection
pub least-without : (g : Multigraph) (removed : List ℕ) (S : ℕ → ℕ → Type 0)
    → ((u : ℕ) → S u u) → ((u v : ℕ) → S u v → S v u) → ((u v w : ℕ) → S u v → S v w → S u w)
    → ((e : ℕ) → e < edge_count g → is_member (ends_of g e).0 removed ≡ false → is_member (ends_of g e).1 removed ≡ false → S (ends_of g e).0 (ends_of g e).1)
    → (u v : ℕ) → connected (ends_without g removed) u v ≡ true → S u v
least-without g removed S r s t h u v c = connected-least-typed (ends_without g removed) S r s t
    (λ k d l.
    let p : avoids removed (get_or (ends_without g removed) k d) ≡ true = filter_passes (avoids removed) g.ends k d l in
    All-filter (avoids removed) (λ link. avoids removed link ≡ true → S link.0 link.1) g.ends
    (λ e f m w. let same : get_or g.ends e f ≡ ends_of g e = get_or_default g.ends e f (0, 0) m in
    let x = avoids-parts removed (ends_of g e) (subst (λ (link : ℕ × ℕ). avoids removed link ≡ true) same w) in
    subst (λ (link : ℕ × ℕ). S link.0 link.1) (sym same) (h e m x.0 x.1))
    k d l p)
    u v c

-- a test that goes over from each end of such an edge to the other one is constant on what is connected
pub closed-without : (g : Multigraph) (removed : List ℕ) (a : ℕ → Bool)
    → ((e p : ℕ) → e < edge_count g → is_end g p e ≡ true → is_member p removed ≡ false → is_member (other_end g e p) removed ≡ false → a p ≡ true → a (other_end g e p) ≡ true)
    → (u v : ℕ) → connected (ends_without g removed) u v ≡ true → a u ≡ a v
closed-without g removed a h u v c = least-without g removed (λ p q. a p ≡ a q) (λ p. refl) (λ p q e. sym e) (λ p q w e d. e ∙ d) across u v c
  where
    across : (e : ℕ) → e < edge_count g → is_member (ends_of g e).0 removed ≡ false → is_member (ends_of g e).1 removed ≡ false → a (ends_of g e).0 ≡ a (ends_of g e).1
    across e l m k =
        let there : other_end g e (ends_of g e).0 ≡ (ends_of g e).1 = other_end-of_first g e (ends_of g e).0 refl in
        let back : other_end g e (ends_of g e).1 ≡ (ends_of g e).0 = other_end-of_last g e in
        same-tests (a (ends_of g e).0) (a (ends_of g e).1)
        (λ t. subst (λ (q : ℕ). a q ≡ true) there (h e (ends_of g e).0 l (is_end-first g e) m (subst (λ (q : ℕ). is_member q removed ≡ false) (sym there) k) t))
        (λ t. subst (λ (q : ℕ). a q ≡ true) back (h e (ends_of g e).1 l (is_end-second g e) k (subst (λ (q : ℕ). is_member q removed ≡ false) (sym back) m) t))

-- what is connected with a vertex that is not removed is not removed
pub kept-without : (g : Multigraph) (removed : List ℕ) (u v : ℕ) → is_member u removed ≡ false → connected (ends_without g removed) u v ≡ true → is_member v removed ≡ false
kept-without g removed u v m c = not-true (is_member v removed)
    (sym (closed-without g removed (λ w. not (is_member w removed)) (λ e p l h a b t. not_from_false (is_member (other_end g e p) removed) b) u v c) ∙ not_from_false (is_member u removed) m)

-- the same vertices removed in another order
pub same-without : (g : Multigraph) (removed others : List ℕ) → ((v : ℕ) → is_member v removed ≡ is_member v others) → ends_without g removed ≡ ends_without g others
same-without g removed others h = filter_agree (avoids removed) (avoids others) (λ link. rw (h link.0, h link.1) refl) g.ends

-- an end of an edge that avoids the removed vertices is none of them
avoids-end : (g : Multigraph) (removed : List ℕ) (e z : ℕ) → avoids removed (ends_of g e) ≡ true → is_end g z e ≡ true → is_member z removed ≡ false
avoids-end g removed e z a i =
    let w = avoids-parts removed (ends_of g e) a in
    elim (is_end-cases g z e i) [ inl h ↦ subst (λ (k : ℕ). is_member k removed ≡ false) h w.0 | inr h ↦ subst (λ (k : ℕ). is_member k removed ≡ false) h w.1 ]

-- whether edge e avoids the removed vertices
abbrev edge_avoids : Multigraph → List ℕ → ℕ → Bool
edge_avoids g removed e = avoids removed (ends_of g e)

-- a walk along such edges, from a vertex that is not removed, meets no removed one
walk-avoids : (g : Multigraph) (removed : List ℕ) (x : ℕ) (es : List ℕ) → is_member x removed ≡ false → IsWalk g x es
    → ((e : ℕ) → is_member e es ≡ true → edge_avoids g removed e ≡ true) → (z : ℕ) → is_member z (walk_vertices g x es) ≡ true → is_member z removed ≡ false
walk-avoids g removed x [] n w h z m = elim (member-cases z x [] m) [ inl i ↦ subst (λ (k : ℕ). is_member k removed ≡ false) i n | inr k ↦ absurd (true≢false (sym k)) ]
walk-avoids g removed x (e ∷ es) n w h z m = elim (member-cases z x (walk_vertices g (other_end g e x) es) m) [
  | inl i ↦ subst (λ (k : ℕ). is_member k removed ≡ false) i n
  | inr k ↦ walk-avoids g removed (other_end g e x) es (avoids-end g removed e (other_end g e x) (h e (member-head e es)) (other_end-is_end g e x)) w.1 (λ f o. h f (member-tail f e es o)) z k
]

-- a vertex that is not removed, and one that is connected with it, are joined by a path that meets no removed one
pub path-without : (g : Multigraph) (removed : List ℕ) (x y : ℕ) → is_member x removed ≡ false → connected (ends_without g removed) x y ≡ true → PathWithout g removed x y
path-without g removed x y n c =
    let ends : List (ℕ × ℕ) = ends_where g (edge_avoids g removed) in
    let j : joined_where g (edge_avoids g removed) x y ≡ true = least-without g removed (λ u v. joined_where g (edge_avoids g removed) u v ≡ true)
    (connected-reflexive ends) (connected-symmetric ends) (connected-transitive ends)
    (λ e l a b. joined-ends g (edge_avoids g removed) e l (avoids-from removed (ends_of g e) a b)) x y c in
    let p : PathWhere g (edge_avoids g removed) x y = joined-path g (edge_avoids g removed) x y j in
    record { along = p.along; path = p.path; avoids = walk-avoids g removed x p.along n p.path.walk p.passes }

-- what such a path joins is connected
pub without-path : (g : Multigraph) (removed : List ℕ) (x y : ℕ) → PathWithout g removed x y → connected (ends_without g removed) x y ≡ true
without-path g removed x y p = joined-least-typed g (edge_avoids g removed) (λ u v. connected (ends_without g removed) u v ≡ true)
    (connected-reflexive (ends_without g removed)) (connected-symmetric (ends_without g removed)) (connected-transitive (ends_without g removed))
    (λ e l a. let w = avoids-parts removed (ends_of g e) a in link-without g removed e l w.0 w.1)
    x y
    (path-joined g (edge_avoids g removed) x y (record {
      along = p.along;
      path = p.path;
      passes = λ e m. avoids-from removed (ends_of g e)
          (p.avoids (ends_of g e).0 (edge-met g x p.along p.path.walk e (ends_of g e).0 m (is_end-first g e)))
          (p.avoids (ends_of g e).1 (edge-met g x p.along p.path.walk e (ends_of g e).1 m (is_end-second g e)));
    }))
