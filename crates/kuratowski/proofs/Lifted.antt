-- A subdivision carried over along routes is one, in its written form.
use Rattle.std.proofs.Common.{◌≡◌, ◌≢◌, ℕ, suc, ◌<◌, ◌⊎◌, inl, inr, Bool, true, false, cond, List, [], ◌∷◌, ◌++◌, length, reverse, sym, ap, ◌∙◌, subst, arith}
use Rattle.std.proofs.lemmas.Bool.{both_ways, cases_order, eq-eqb, ne_eqb, true≢false, false_from_ne_true}
use Rattle.std.proofs.lemmas.List.{get_or-map, get_or_default, length-map}
use Rattle.permutations.specs.Members.{is_member, is_distinct}
use Rattle.permutations.proofs.Members.{member-head, member-tail, member-cases, member-append_cases, distinct-head, distinct-tail, distinct-append, distinct-append_left, distinct-append_apart}
use Rattle.permutations.proofs.Arrangements.{contains-from_member, member-at}
use Rattle.permutations.proofs.Places.{places-differ}
use Rattle.permutations.proofs.Mapped.{map-member, member-map, distinct-map}
use Rattle.multigraph.specs.Graph.{Multigraph, edge_count, ends_of, is_end, other_end, numbers_below, IsGraph}
use Rattle.multigraph.proofs.Below.{length-numbers_below, get_or-numbers_below}
use Rattle.multigraph.proofs.OtherEnd.{is_end-first, is_end-second, is_end-cases, other_end-cases, other_end-in, end-in}
use Rattle.multigraph.proofs.Places.{rises-once}
use Rattle.graph_theory.specs.Path.{walk_end, walk_starts, walk_vertices, IsWalk, IsPath}
use Rattle.graph_theory.proofs.Ends.{end-cases}
use Rattle.graph_theory.proofs.Walks.{end-append, vertices-append, walk-append, walk-edge, start-met, edge-met}
use Rattle.graph_theory.proofs.Paths.{path-none, path-reverse, path-reverse-met}
use Rattle.kuratowski.specs.declared.subdivision.Pattern.{Pattern}
use Rattle.kuratowski.specs.declared.subdivision.Pattern.TheVariants.{K5, K33}
use Rattle.kuratowski.specs.Subdivision.{branch_count, branch_at, path_at, pair_at, pattern_edges, IsSubdivision, IsWrittenOrder, IsWritten}
use Rattle.kuratowski.proofs.Checked.{pair-rises}
use Rattle.kuratowski.proofs.Meetings.{vertices_at, MeetAtBranches, subdivision-meetings, subdivision-from_meetings, met-parts}
use Rattle.kuratowski.proofs.Reordering.{pair-once}
use Rattle.kuratowski.specs.Routes.{outer_vertex, route_at, route_start, route_end, route_vertices, EndsRoute, AreRoutes, route_from, lifted_walk, lifted_path, lifted_paths, lifted_branches}

-- two paths, the second from where the first leads, that share no vertex else are one path
pub path-append : (g : Multigraph) (x : ℕ) (es : List ℕ) (y : ℕ) (fs : List ℕ) (w : ℕ) → IsPath g x es y → IsPath g y fs w
    → ((z : ℕ) → is_member z (walk_starts g x es) ≡ true → is_member z (walk_vertices g y fs) ≡ false) → IsPath g x (es ++ fs) w
path-append g x es y fs w p q apart = record {
  walk = walk-append g x es fs p.walk (subst (λ (z : ℕ). IsWalk g z fs) (sym p.arrives) q.walk);
  arrives = end-append g x es fs ∙ (ap (λ (z : ℕ). walk_end g z fs) p.arrives ∙ q.arrives);
  vertices = subst (λ (l : List ℕ). is_distinct l ≡ true) (sym (vertices-append g x es fs ∙ ap (λ (z : ℕ). walk_starts g x es ++ walk_vertices g z fs) p.arrives))
      (distinct-append (walk_starts g x es) (walk_vertices g y fs) (distinct-append_left (walk_starts g x es) (walk_end g x es ∷ []) p.vertices) q.vertices apart);
}

-- a vertex at which an edge of a path is entered is not its last
pub start-differs : (g : Multigraph) (x : ℕ) (es : List ℕ) (y : ℕ) → IsPath g x es y → (z : ℕ) → is_member z (walk_starts g x es) ≡ true → z ≢ y
start-differs g x es y p z m q = both_ways (is_member z (walk_end g x es ∷ [])) (distinct-append_apart (walk_starts g x es) (walk_end g x es ∷ []) p.vertices z m)
    (subst (λ (w : ℕ). is_member w (walk_end g x es ∷ []) ≡ true) (p.arrives ∙ sym q) (member-head (walk_end g x es) []))

-- two numbers that are each one of a and b are both
two-of : (a b u v : ℕ) → (a ≡ u) ⊎ (b ≡ u) → (a ≡ v) ⊎ (b ≡ v) → u ≢ v → ((a ≡ u) × (b ≡ v)) ⊎ ((b ≡ u) × (a ≡ v))
two-of a b u v (inl p) (inl q) n = absurd (n (sym p ∙ q))
two-of a b u v (inl p) (inr q) n = inl (p, q)
two-of a b u v (inr p) (inl q) n = inr (p, q)
two-of a b u v (inr p) (inr q) n = absurd (n (sym p ∙ q))

-- two pairs of numbers that both have u and v are the same, in this order or the other
pairs-of : (a b c d u v : ℕ) → ((a ≡ u) × (b ≡ v)) ⊎ ((b ≡ u) × (a ≡ v)) → ((c ≡ u) × (d ≡ v)) ⊎ ((d ≡ u) × (c ≡ v)) → ((a ≡ c) × (b ≡ d)) ⊎ ((a ≡ d) × (b ≡ c))
pairs-of a b c d u v (inl p) (inl q) = inl (p.0 ∙ sym q.0, p.1 ∙ sym q.1)
pairs-of a b c d u v (inl p) (inr q) = inr (p.0 ∙ sym q.0, p.1 ∙ sym q.1)
pairs-of a b c d u v (inr p) (inl q) = inr (p.1 ∙ sym q.1, p.0 ∙ sym q.0)
pairs-of a b c d u v (inr p) (inr q) = inl (p.1 ∙ sym q.1, p.0 ∙ sym q.0)

-- in a list without repetition equal members stand at one place
place-same : (l : List ℕ) (i k : ℕ) → is_distinct l ≡ true → i < length l → k < length l → branch_at l i ≡ branch_at l k → i ≡ k
place-same l i k d a b e = elim (cases_order i k) [ inl q ↦ q | inr (inl w) ↦ absurd (places-differ l i k d w b e) | inr (inr w) ↦ absurd (places-differ l k i d w a (sym e)) ]

module _ (inner outer : Multigraph) (vertex : List ℕ) (routes : List (List ℕ)) (ok : IsGraph inner) (r : AreRoutes inner outer vertex routes) where
  abbrev at : ℕ → ℕ
  at = outer_vertex vertex

  abbrev route_met : ℕ → List ℕ
  route_met = route_vertices inner outer vertex routes

  vertex-place : (x : ℕ) → x < inner.vertex_count → x < length vertex
  vertex-place x l = omega (arith, l, r.vertex_each)

  at-member : (x : ℕ) → x < inner.vertex_count → is_member (at x) vertex ≡ true
  at-member x l = member-at vertex x 0 (vertex-place x l)

  at-once : (x y : ℕ) → x < inner.vertex_count → y < inner.vertex_count → at x ≡ at y → x ≡ y
  at-once x y l m e = rises-once vertex r.vertex_rises x y (vertex-place x l) (vertex-place y m) e

  ends-apart : (e : ℕ) → e < edge_count inner → route_start inner vertex e ≢ route_end inner vertex e
  ends-apart e l q = ok.no_loop e l (at-once (ends_of inner e).0 (ends_of inner e).1 (ok.first_in e l) (ok.second_in e l) q)

  -- a vertex of a route is an end of it, or no vertex of the inner graph
  route-cases : (e z : ℕ) → e < edge_count inner → is_member z (route_met e) ≡ true → ((y : ℕ) × (is_end inner y e ≡ true) × (at y ≡ z)) ⊎ (is_member z vertex ≡ false)
  route-cases e z l m = elim (met-parts outer (route_start inner vertex e) (route_at routes e) (route_end inner vertex e) (r.are_paths e l) (ends-apart e l) z m) [
    | inl q ↦ inl ((ends_of inner e).0, is_end-first inner e, q)
    | inr (inl i) ↦ inr (r.inside e z l i)
    | inr (inr q) ↦ inl ((ends_of inner e).1, is_end-second inner e, q)
  ]

  -- the end of a route is a vertex of the inner graph
  end-member : (e z : ℕ) → e < edge_count inner → EndsRoute inner vertex e z → is_member z vertex ≡ true
  end-member e z l (inl q) = subst (λ (w : ℕ). is_member w vertex ≡ true) q (at-member (ends_of inner e).0 (ok.first_in e l))
  end-member e z l (inr q) = subst (λ (w : ℕ). is_member w vertex ≡ true) q (at-member (ends_of inner e).1 (ok.second_in e l))

  -- the route of an edge from its end x on
  record RouteFrom (e x : ℕ) : Type 0 where
    path : IsPath outer (at x) (route_from inner routes e x) (at (other_end inner e x))
    met : (z : ℕ) → is_member z (walk_vertices outer (at x) (route_from inner routes e x)) ≡ true → is_member z (route_met e) ≡ true

  route-forth : (e x y : ℕ) (l : e < edge_count inner) → (ends_of inner e).0 ≡ x → y ≡ (ends_of inner e).1 → (es : List ℕ) → es ≡ route_at routes e
      → IsPath outer (at x) es (at y) × ((z : ℕ) → is_member z (walk_vertices outer (at x) es) ≡ true → is_member z (route_met e) ≡ true)
  route-forth e x y l p q es h = (
    subst (λ (w : ℕ). IsPath outer (at w) es (at y)) p (subst (λ (w : ℕ). IsPath outer (route_start inner vertex e) es (at w)) (sym q) (subst (λ (fs : List ℕ). IsPath outer (route_start inner vertex e) fs (route_end inner vertex e)) (sym h) (r.are_paths e l))),
    λ z m. subst (λ (fs : List ℕ). is_member z (walk_vertices outer (route_start inner vertex e) fs) ≡ true) h (subst (λ (w : ℕ). is_member z (walk_vertices outer (at w) es) ≡ true) (sym p) m),
  )

  route-back : (e x y : ℕ) (l : e < edge_count inner) → (ends_of inner e).1 ≡ x → y ≡ (ends_of inner e).0 → (es : List ℕ) → es ≡ reverse (route_at routes e)
      → IsPath outer (at x) es (at y) × ((z : ℕ) → is_member z (walk_vertices outer (at x) es) ≡ true → is_member z (route_met e) ≡ true)
  route-back e x y l p q es h = (
    subst (λ (w : ℕ). IsPath outer (at w) es (at y)) p (subst (λ (w : ℕ). IsPath outer (route_end inner vertex e) es (at w)) (sym q) (subst (λ (fs : List ℕ). IsPath outer (route_end inner vertex e) fs (route_start inner vertex e)) (sym h)
        (path-reverse outer (route_start inner vertex e) (route_at routes e) (route_end inner vertex e) (r.are_paths e l)))),
    λ z m. path-reverse-met outer (route_start inner vertex e) (route_at routes e) (route_end inner vertex e) (r.are_paths e l) z
        (subst (λ (fs : List ℕ). is_member z (walk_vertices outer (route_end inner vertex e) fs) ≡ true) h (subst (λ (w : ℕ). is_member z (walk_vertices outer (at w) es) ≡ true) (sym p) m)),
  )

  from-route : (e x : ℕ) → e < edge_count inner → is_end inner x e ≡ true → RouteFrom e x
  from-route e x l i = elim (other_end-cases inner e x) [
    | inl c ↦
        let w = route-forth e x (other_end inner e x) l c.0 c.1 (route_from inner routes e x) (ap (λ (b : Bool). cond b (route_at routes e) (reverse (route_at routes e))) (eq-eqb (ends_of inner e).0 x c.0)) in
        record { path = w.0; met = w.1 }
    | inr c ↦ elim (is_end-cases inner x e i) [
      | inl q ↦ absurd (c.0 q)
      | inr q ↦
          let w = route-back e x (other_end inner e x) l q c.1 (route_from inner routes e x) (ap (λ (b : Bool). cond b (route_at routes e) (reverse (route_at routes e))) (ne_eqb (ends_of inner e).0 x c.0)) in
          record { path = w.0; met = w.1 }
    ]
  ]

  -- what a walk carried over meets: vertices of the walk, and inside the routes of its edges
  abbrev OnLifted : ℕ → List ℕ → ℕ → Type 0
  OnLifted x es z = ((y : ℕ) × (y < inner.vertex_count) × (is_member y (walk_vertices inner x es) ≡ true) × (at y ≡ z)) ⊎ ((e : ℕ) × (is_member e es ≡ true) × (is_member z (route_met e) ≡ true) × (is_member z vertex ≡ false))

  lifted-met : (x : ℕ) (es : List ℕ) → x < inner.vertex_count → IsWalk inner x es → (z : ℕ) → is_member z (walk_vertices outer (at x) (lifted_walk inner routes x es)) ≡ true → OnLifted x es z
  lifted-met x [] lx w z m = elim (member-cases z (at x) [] m) [ inl q ↦ inl (x, lx, member-head x [], q) | inr n ↦ absurd (true≢false (sym n)) ]
  lifted-met x (e ∷ es) lx w z m = elim (member-append_cases z (walk_starts outer (at x) front) (walk_vertices outer (walk_end outer (at x) front) back) (subst (λ (l : List ℕ). is_member z l ≡ true) (vertices-append outer (at x) front back) m)) [
    | inl a ↦
        let on : is_member z (route_met e) ≡ true = from.met z (start-met outer (at x) front z a) in
        elim (route-cases e z w.0.0 on) [
          | inl c ↦ inl (c.0, end-in inner c.0 e ok w.0.0 c.1, edge-met inner x (e ∷ es) w e c.0 (member-head e es) c.1, c.2)
          | inr n ↦ inr (e, member-head e es, on, n)
        ]
    | inr b ↦ later (lifted-met (other_end inner e x) es (other_end-in inner e x ok w.0.0) w.1 z (subst (λ (u : ℕ). is_member z (walk_vertices outer u back) ≡ true) from.path.arrives b))
  ]
    where
      front : List ℕ
      front = route_from inner routes e x

      back : List ℕ
      back = lifted_walk inner routes (other_end inner e x) es

      from : RouteFrom e x
      from = from-route e x w.0.0 w.0.1

      later : OnLifted (other_end inner e x) es z → OnLifted x (e ∷ es) z
      later (inl c) = inl (c.0, c.1, member-tail c.0 x (walk_vertices inner (other_end inner e x) es) c.2, c.3)
      later (inr c) = inr (c.0, member-tail c.0 e es c.1, c.2, c.3)

  -- a path carried over is one
  lifted-path : (x : ℕ) (es : List ℕ) (y : ℕ) → x < inner.vertex_count → IsPath inner x es y → IsPath outer (at x) (lifted_walk inner routes x es) (at y)
  lifted-path x [] y lx p = subst (λ (w : ℕ). IsPath outer (at x) [] (at w)) p.arrives (path-none outer (at x))
  lifted-path x (e ∷ es) y lx p = path-append outer (at x) front (at next) back (at y) from.path (lifted-path next es y next_in rest) (λ z a. false_from_ne_true (is_member z (walk_vertices outer (at next) back)) (λ b. shared z a (lifted-met next es next_in rest.walk z b)))
    where
      next : ℕ
      next = other_end inner e x

      front : List ℕ
      front = route_from inner routes e x

      back : List ℕ
      back = lifted_walk inner routes next es

      edge : e < edge_count inner
      edge = p.walk.0.0

      next_in : next < inner.vertex_count
      next_in = other_end-in inner e x ok edge

      from : RouteFrom e x
      from = from-route e x edge p.walk.0.1

      rest : IsPath inner next es y
      rest = record { walk = p.walk.1; arrives = p.arrives; vertices = distinct-tail x (walk_vertices inner next es) p.vertices }

      gone : is_member x (walk_vertices inner next es) ≡ true → ⊥
      gone m = both_ways (is_member x (walk_vertices inner next es)) (distinct-head x (walk_vertices inner next es) p.vertices) m

      shared : (z : ℕ) → is_member z (walk_starts outer (at x) front) ≡ true → OnLifted next es z → ⊥
      shared z a (inl c) = elim (route-cases e z edge (from.met z (start-met outer (at x) front z a))) [
        | inl d ↦
            let same : d.0 ≡ c.0 = at-once d.0 c.0 (end-in inner d.0 e ok edge d.1) c.1 (d.2 ∙ sym c.3) in
            elim (end-cases inner e x d.0 p.walk.0.1 d.1) [
              | inl q ↦ gone (subst (λ (w : ℕ). is_member w (walk_vertices inner next es) ≡ true) (sym same ∙ q) c.2)
              | inr q ↦ start-differs outer (at x) front (at next) from.path z a (sym d.2 ∙ ap at q)
            ]
        | inr n ↦ both_ways (is_member z vertex) n (subst (λ (w : ℕ). is_member w vertex ≡ true) c.3 (at-member c.0 c.1))
      ]
      shared z a (inr c) =
          let other : c.0 < edge_count inner = walk-edge inner next es rest.walk c.0 c.1 in
          both_ways (is_member z vertex) c.3 (end-member e z edge (r.common e c.0 z edge other (λ q. gone (edge-met inner next es rest.walk e x (subst (λ (w : ℕ). is_member w es ≡ true) (sym q) c.1) p.walk.0.1)) (from.met z (start-met outer (at x) front z a)) c.2).0)

  module _ (kind : Pattern) (branch : List ℕ) (paths : List (List ℕ)) (s : IsSubdivision inner kind branch paths) where
    abbrev old : MeetAtBranches inner kind branch paths
    old = subdivision-meetings inner kind branch paths s

    abbrev count : ℕ
    count = length (pattern_edges kind)

    -- where path k begins and ends
    abbrev begins : ℕ → ℕ
    begins k = branch_at branch (pair_at kind k).0

    abbrev ends : ℕ → ℕ
    ends k = branch_at branch (pair_at kind k).1

    abbrev branch' : List ℕ
    branch' = lifted_branches vertex branch

    abbrev paths' : List (List ℕ)
    paths' = lifted_paths inner routes kind branch paths

    place : (i : ℕ) → i < branch_count kind → i < length branch
    place i l = omega (arith, l, s.branches)

    first_in : (k : ℕ) → k < count → (pair_at kind k).0 < branch_count kind
    first_in k l = let p = pair-rises kind k l in omega (arith, p.0, p.1)

    second_in : (k : ℕ) → k < count → (pair_at kind k).1 < branch_count kind
    second_in k l = (pair-rises kind k l).1

    begin_in : (k : ℕ) → k < count → begins k < inner.vertex_count
    begin_in k l = s.branch_in (pair_at kind k).0 (first_in k l)

    -- branch vertex i, carried over
    branch-at : (i : ℕ) → i < branch_count kind → branch_at branch' i ≡ at (branch_at branch i)
    branch-at i l = get_or-map at branch i 0 0 (place i l)

    -- path k, carried over
    path-at : (k : ℕ) → k < count → path_at paths' k ≡ lifted_path inner routes kind branch paths k
    path-at k l = get_or-map (lifted_path inner routes kind branch paths) (numbers_below count) k 0 [] (omega (arith, l, length-numbers_below count))
        ∙ ap (lifted_path inner routes kind branch paths) (get_or-numbers_below count k 0 l)

    branch-in : (x : ℕ) → is_member x branch ≡ true → x < inner.vertex_count
    branch-in x m =
        let c = contains-from_member branch x m in
        subst (λ (z : ℕ). z < inner.vertex_count) (get_or_default branch c.0 0 x c.1 ∙ c.2) (s.branch_in c.0 (omega (arith, c.1, s.branches)))

    met : (k : ℕ) → k < count → (z : ℕ) → is_member z (vertices_at outer kind branch' paths' k) ≡ true → OnLifted (begins k) (path_at paths k) z
    met k l z m = lifted-met (begins k) (path_at paths k) (begin_in k l) (s.are_paths k l).walk z
        (subst (λ (es : List ℕ). is_member z (walk_vertices outer (at (begins k)) es) ≡ true) (path-at k l) (subst (λ (w : ℕ). is_member z (walk_vertices outer w (path_at paths' k)) ≡ true) (branch-at (pair_at kind k).0 (first_in k l)) m))

    -- a vertex of the inner graph on a path carried over is on the path
    met-back : (k : ℕ) → k < count → (x : ℕ) → x < inner.vertex_count → is_member (at x) (vertices_at outer kind branch' paths' k) ≡ true → is_member x (vertices_at inner kind branch paths k) ≡ true
    met-back k l x lx m = elim (met k l (at x) m) [
      | inl c ↦ subst (λ (w : ℕ). is_member w (vertices_at inner kind branch paths k) ≡ true) (at-once c.0 x c.1 lx c.3) c.2
      | inr c ↦ absurd (both_ways (is_member (at x) vertex) c.3 (at-member x lx))
    ]

    -- an end of an edge of path k that is a branch vertex ends the path
    edge-branch : (k j e u : ℕ) → k < count → j < count → k ≢ j → is_member e (path_at paths k) ≡ true → is_member e (path_at paths j) ≡ true → is_end inner u e ≡ true → (begins k ≡ u) ⊎ (ends k ≡ u)
    edge-branch k j e u lk lj n mk mj i =
        let on_k = edge-met inner (begins k) (path_at paths k) (s.are_paths k lk).walk e u mk i in
        let on_j = edge-met inner (begins j) (path_at paths j) (s.are_paths j lj).walk e u mj i in
        old.ends k lk u on_k (old.common k j lk lj n u on_k on_j)

    -- no edge is on two paths
    edge-once : (k j e : ℕ) → k < count → j < count → k ≢ j → is_member e (path_at paths k) ≡ true → is_member e (path_at paths j) ≡ true → ⊥
    edge-once k j e lk lj n mk mj =
        let apart : (ends_of inner e).0 ≢ (ends_of inner e).1 = ok.no_loop e (walk-edge inner (begins k) (path_at paths k) (s.are_paths k lk).walk e mk) in
        let n' : j ≢ k = λ q. n (sym q) in
        let u = (ends_of inner e).0 in
        let v = (ends_of inner e).1 in
        let pk = two-of (begins k) (ends k) u v (edge-branch k j e u lk lj n mk mj (is_end-first inner e)) (edge-branch k j e v lk lj n mk mj (is_end-second inner e)) apart in
        let pj = two-of (begins j) (ends j) u v (edge-branch j k e u lj lk n' mj mk (is_end-first inner e)) (edge-branch j k e v lj lk n' mj mk (is_end-second inner e)) apart in
        elim (pairs-of (begins k) (ends k) (begins j) (ends j) u v pk pj) [
          | inl q ↦ n (pair-once kind k j lk lj
              (place-same branch (pair_at kind k).0 (pair_at kind j).0 old.branches (place (pair_at kind k).0 (first_in k lk)) (place (pair_at kind j).0 (first_in j lj)) q.0)
              (place-same branch (pair_at kind k).1 (pair_at kind j).1 old.branches (place (pair_at kind k).1 (second_in k lk)) (place (pair_at kind j).1 (second_in j lj)) q.1))
          | inr q ↦ absurd (omega (
            arith,
            (pair-rises kind k lk).0,
            (pair-rises kind j lj).0,
            place-same branch (pair_at kind k).0 (pair_at kind j).1 old.branches (place (pair_at kind k).0 (first_in k lk)) (place (pair_at kind j).1 (second_in j lj)) q.0,
            place-same branch (pair_at kind k).1 (pair_at kind j).0 old.branches (place (pair_at kind k).1 (second_in k lk)) (place (pair_at kind j).0 (first_in j lj)) q.1,
          ))
        ]

    -- what two paths meet is a branch vertex
    lifted-common : (k j : ℕ) → k < count → j < count → k ≢ j → (z : ℕ) → OnLifted (begins k) (path_at paths k) z → OnLifted (begins j) (path_at paths j) z → is_member z branch' ≡ true
    lifted-common k j lk lj n z (inl c) (inl d) =
        let same : d.0 ≡ c.0 = at-once d.0 c.0 d.1 c.1 (d.3 ∙ sym c.3) in
        subst (λ (w : ℕ). is_member w branch' ≡ true) c.3 (member-map at branch c.0 (old.common k j lk lj n c.0 c.2 (subst (λ (w : ℕ). is_member w (vertices_at inner kind branch paths j) ≡ true) same d.2)))
    lifted-common k j lk lj n z (inl c) (inr d) = absurd (both_ways (is_member z vertex) d.3 (subst (λ (w : ℕ). is_member w vertex ≡ true) c.3 (at-member c.0 c.1)))
    lifted-common k j lk lj n z (inr c) (inl d) = absurd (both_ways (is_member z vertex) c.3 (subst (λ (w : ℕ). is_member w vertex ≡ true) d.3 (at-member d.0 d.1)))
    lifted-common k j lk lj n z (inr c) (inr d) =
        let lc : c.0 < edge_count inner = walk-edge inner (begins k) (path_at paths k) (s.are_paths k lk).walk c.0 c.1 in
        let ld : d.0 < edge_count inner = walk-edge inner (begins j) (path_at paths j) (s.are_paths j lj).walk d.0 d.1 in
        absurd (both_ways (is_member z vertex) c.3 (end-member c.0 z lc
        (r.common c.0 d.0 z lc ld (λ q. edge-once k j c.0 lk lj n c.1 (subst (λ (w : ℕ). is_member w (path_at paths j) ≡ true) (sym q) d.1)) c.2 d.2).0))

    lifted-ends : (k : ℕ) → k < count → (z : ℕ) → is_member z (vertices_at outer kind branch' paths' k) ≡ true → is_member z branch' ≡ true → (branch_at branch' (pair_at kind k).0 ≡ z) ⊎ (branch_at branch' (pair_at kind k).1 ≡ z)
    lifted-ends k l z m b =
        let w = map-member at branch z b in
        elim (old.ends k l w.0 (met-back k l w.0 (branch-in w.0 w.1) (subst (λ (u : ℕ). is_member u (vertices_at outer kind branch' paths' k) ≡ true) (sym w.2) m)) w.1) [
          | inl q ↦ inl (branch-at (pair_at kind k).0 (first_in k l) ∙ ap at q ∙ w.2)
          | inr q ↦ inr (branch-at (pair_at kind k).1 (second_in k l) ∙ ap at q ∙ w.2)
        ]

    -- the subdivision carried over is one
    pub lifted-subdivision : IsSubdivision outer kind (lifted_branches vertex branch) (lifted_paths inner routes kind branch paths)
    lifted-subdivision = subdivision-from_meetings outer kind branch' paths'
        (length-map branch at ∙ s.branches)
        (λ i l. subst (λ (w : ℕ). w < outer.vertex_count) (sym (branch-at i l)) (r.vertex_in (branch_at branch i) (s.branch_in i l)))
        (length-map (numbers_below count) (lifted_path inner routes kind branch paths) ∙ length-numbers_below count)
        (λ k l. subst (λ (w : ℕ). IsPath outer w (path_at paths' k) (branch_at branch' (pair_at kind k).1)) (sym (branch-at (pair_at kind k).0 (first_in k l)))
        (subst (λ (w : ℕ). IsPath outer (at (begins k)) (path_at paths' k) w) (sym (branch-at (pair_at kind k).1 (second_in k l)))
        (subst (λ (es : List ℕ). IsPath outer (at (begins k)) es (at (ends k))) (sym (path-at k l)) (lifted-path (begins k) (path_at paths k) (ends k) (begin_in k l) (s.are_paths k l)))))
        (record {
          branches = distinct-map at branch (λ x y m n q. at-once x y (branch-in x m) (branch-in y n) q) old.branches;
          ends = lifted-ends;
          common = λ k j lk lj n z mk mj. lifted-common k j lk lj n z (met k lk z mk) (met j lj z mj);
        })

    -- branch vertices keep their order
    lifted-rise : (i j : ℕ) → i < branch_count kind → j < branch_count kind → branch_at branch i < branch_at branch j → branch_at branch' i < branch_at branch' j
    lifted-rise i j li lj h = omega (arith, branch-at i li, branch-at j lj, r.vertex_rises (branch_at branch i) (branch_at branch j) h (vertex-place (branch_at branch j) (s.branch_in j lj)))

  lifted-order : (kind : Pattern) (branch : List ℕ) (paths : List (List ℕ)) → IsSubdivision inner kind branch paths → IsWrittenOrder kind branch → IsWrittenOrder kind (lifted_branches vertex branch)
  lifted-order K5 branch paths s o = λ i l. lifted-rise K5 branch paths s i (suc i) (omega (arith, l)) (omega (arith, l)) (o i l)
  lifted-order K33 branch paths s o = (
    lifted-rise K33 branch paths s 0 1 (omega arith) (omega arith) o.0,
    lifted-rise K33 branch paths s 1 2 (omega arith) (omega arith) o.1,
    lifted-rise K33 branch paths s 3 4 (omega arith) (omega arith) o.2,
    lifted-rise K33 branch paths s 4 5 (omega arith) (omega arith) o.3,
    lifted-rise K33 branch paths s 0 3 (omega arith) (omega arith) o.4,
  )

  -- a subdivision in written form, carried over, is one in written form
  pub lifted-written : (kind : Pattern) (branch : List ℕ) (paths : List (List ℕ)) → IsWritten inner kind branch paths → IsWritten outer kind (lifted_branches vertex branch) (lifted_paths inner routes kind branch paths)
  lifted-written kind branch paths w = record { subdivision = lifted-subdivision kind branch paths w.subdivision; order = lifted-order kind branch paths w.subdivision w.order }
