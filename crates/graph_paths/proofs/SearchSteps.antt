-- The search from the root: what it has noted, that it reaches what is connected with the root, and the way back.
use Rattle.std.proofs.Common.{◌≡◌, ◌≢◌, ℕ, ◌+◌, ◌<◌, ◌≤◌, inl, inr, Bool, true, false, List, [], ◌∷◌, ◌++◌, length, slice_index_or, refl, sym, ap, ◌∙◌, subst, arith, All, Contains}
use Rattle.std.proofs.lemmas.Bool.{cases_eq, cases_lt, true≢false, false_from_ne_true}
use Rattle.std.proofs.lemmas.List.{get_or_default, length-append}
use Rattle.std.proofs.lemmas.List.Elements.{Contains-get_or}
use Rattle.permutations.specs.Members.{is_member, is_distinct}
use Rattle.permutations.specs.Relation.{connected}
use Rattle.permutations.proofs.Members.{member-cases, member-append_cases, no_member-cons, distinct-append}
use Rattle.permutations.proofs.Arrangements.{member-at}
use Rattle.permutations.proofs.Relation.{same-tests, connected-closed}
use Rattle.permutations.proofs.Places.{same-place, place-of}
use Rattle.multigraph.specs.Graph.{Multigraph, edge_count, ends_of, is_end, other_end, IsGraph}
use Rattle.multigraph.proofs.OtherEnd.{is_end-first, is_end-second, other_end-of_first, other_end-of_second, other_end-is_end, other_end-twice}
use Rattle.graph_theory.specs.Path.{walk_starts, IsWalk, IsPath}
use Rattle.graph_theory.proofs.Walks.{end-append, starts-append, walk-append}
use Rattle.graph_paths.specs.Listing.{note_of, AreListed, Grows}
use Rattle.graph_paths.specs.Search.{LeadsFrom, LeadsBack, IsSearch, IsSearched, IsOnWay}
use Rattle.graph_paths.proofs.Listed.{grows-member, listed-few, stays}

-- what holds of each element, as found in the list
all-from_contained : {X : Type 0} (P : X → Type 0) (xs : List X) → ((x : X) → Contains xs x → P x) → All P xs
all-from_contained P xs h k d l = h (slice_index_or xs k d) (Contains-get_or xs k d l)

-- what was read at a place stands there
pub read-at : (l : List ℕ) (q x : ℕ) → q < length l → x ≡ slice_index_or l q x → slice_index_or l q 0 ≡ x
read-at l q x b e = sym (e ∙ get_or_default l q x 0 b)

-- it is a member
pub read-member : (l : List ℕ) (q x : ℕ) → q < length l → x ≡ slice_index_or l q x → is_member x l ≡ true
read-member l q x b e = subst (λ (z : ℕ). is_member z l ≡ true) (read-at l q x b e) (member-at l q 0 b)

module _ (g : Multigraph) (ok : IsGraph g) (root : ℕ) where
  -- the root alone
  pub search-begin : (notes list : List ℕ) (start : List ℕ) → Grows (λ y m. (y ≡ root) × (m ≡ 0)) [] start list notes → is_member root list ≡ true → is_distinct list ≡ true → IsSearch g root notes list 0
  search-begin notes list start a h d = record {
    begun = long;
    root_first = first 0 long;
    steps = λ p l m. absurd (differ p l (same-place list 0 p d long m (first 0 long ∙ sym (first p m))));
    closed = λ p e l. absurd (omega (arith, l));
  }
    where
      differ : (p : ℕ) → 0 < p → 0 ≡ p → ⊥
      differ p l q = omega (arith, l, q)

      first : (p : ℕ) → p < length list → slice_index_or list p 0 ≡ root
      first p l = (a.noted (slice_index_or list p 0) (member-at list p 0 l) refl).0

      long : 0 < length list
      long = let w = place-of list root h in omega (arith, w.1)

  -- the neighbours of the vertex at place q
  pub search-next : (notes list next_notes next_list : List ℕ) (q x : ℕ) → q < length list → slice_index_or list q 0 ≡ x → IsSearch g root notes list q → is_distinct next_list ≡ true
      → Grows (λ y e. LeadsFrom g x y e) list notes next_list next_notes
      → ((e : ℕ) → e < edge_count g → is_end g x e ≡ true → is_member (other_end g e x) next_list ≡ true) → IsSearch g root next_notes next_list (q + 1)
  search-next notes list next_notes next_list q x b at s d a met = record {
    begun = omega (arith, b, longer);
    root_first = still 0 s.begun ∙ s.root_first;
    steps = λ p l m. elim (cases_lt p (length list)) [
      | inl old ↦
          let v = s.steps p l old in
          let same : slice_index_or next_list p 0 ≡ slice_index_or list p 0 = still p old in
          let noted : note_of next_notes (slice_index_or next_list p 0) ≡ note_of notes (slice_index_or list p 0) = ap (note_of next_notes) same ∙ a.kept (slice_index_or list p 0) (member-at list p 0 old) in
          subst (λ z. LeadsBack g next_list p z (note_of next_notes (slice_index_or next_list p 0))) (sym same)
          (subst (λ z. LeadsBack g next_list p (slice_index_or list p 0) z) (sym noted)
          (record { edge = v.edge; from = v.from; place = v.place; before = v.before; to = still v.place (omega (arith, v.before, old)) ∙ v.to }))
      | inr new ↦
          let y = slice_index_or next_list p 0 in
          let w : LeadsFrom g x y (note_of next_notes y) = a.noted y (member-at next_list p 0 m) (fresh p m new) in
          record {
            edge = w.edge;
            from = subst (λ z. is_end g z (note_of next_notes y) ≡ true) w.to (other_end-is_end g (note_of next_notes y) x);
            place = q;
            before = omega (arith, b, new);
            to = still q b ∙ (at ∙ (sym (other_end-twice g (note_of next_notes y) x ok w.edge w.from) ∙ ap (other_end g (note_of next_notes y)) w.to));
          }
    ];
    closed = λ p e l m le i. elim (cases_eq p q) [
      | inl r ↦
          let here : slice_index_or next_list p 0 ≡ x = still p (omega (arith, r, b)) ∙ (ap (λ z. slice_index_or list z 0) r ∙ at) in
          subst (λ z. is_member (other_end g e z) next_list ≡ true) (sym here) (met e le (subst (λ z. is_end g z e ≡ true) here i))
      | inr n ↦
          let less : p < q = omega (arith, l, n) in
          let old : p < length list = omega (arith, less, b) in
          subst (λ z. is_member (other_end g e z) next_list ≡ true) (sym (still p old))
          (grows-member fits list notes next_list next_notes a (other_end g e (slice_index_or list p 0)) (s.closed p e less old le (subst (λ z. is_end g z e ≡ true) (still p old) i)))
    ];
  }
    where
      fits : ℕ → ℕ → Type 0
      fits y e = LeadsFrom g x y e

      still : (p : ℕ) → p < length list → slice_index_or next_list p 0 ≡ slice_index_or list p 0
      still p l = stays fits list notes next_list next_notes a p l

      longer : length list ≤ length next_list
      longer = omega (arith, ap (λ (l : List ℕ). length l) a.is, length-append list a.appended)

      -- what stands after the list is no member of it
      fresh : (p : ℕ) → p < length next_list → length list ≤ p → is_member (slice_index_or next_list p 0) list ≡ false
      fresh p m l = false_from_ne_true (is_member (slice_index_or next_list p 0) list) (λ h.
          let w = place-of list (slice_index_or next_list p 0) h in
          let q : w.0 ≡ p = same-place next_list w.0 p d (omega (arith, w.1, longer)) m (still w.0 w.1 ∙ w.2) in
          omega (arith, q, w.1, l))

  -- no vertex stands at place q
  pub search-past : (notes list : List ℕ) (q : ℕ) → length list ≤ q → IsSearch g root notes list q → IsSearch g root notes list (q + 1)
  search-past notes list q b s = record { begun = s.begun; root_first = s.root_first; steps = s.steps; closed = λ p e l m le i. s.closed p e (omega (arith, b, m)) m le i }

  -- the search is over
  pub search-done : (marks : List Bool) (notes list : List ℕ) (q : ℕ) → AreListed marks notes list → length marks ≡ g.vertex_count → length list ≤ q → IsSearch g root notes list q → IsSearched g root notes
  search-done marks notes list q a size b s = record {
    list = list;
    search = record { begun = s.begun; root_first = s.root_first; steps = s.steps; closed = λ p e l m le i. s.closed p e (omega (arith, b, m)) m le i };
    notes_each = a.notes_each ∙ size;
    once = a.once;
    within = λ x m. omega (arith, a.within x m, size);
    few = omega (arith, listed-few marks notes list a, size);
  }

  module _ (notes : List ℕ) (s : IsSearched g root notes) where
    -- what is connected with the root is on the list
    reached : (x : ℕ) → connected g.ends root x ≡ true → is_member x s.list ≡ true
    reached x c = sym (connected-closed g.ends (λ y. is_member y s.list) (all-from_contained (λ (link : ℕ × ℕ). is_member link.0 s.list ≡ is_member link.1 s.list) g.ends each) root x c)
        ∙ subst (λ z. is_member z s.list ≡ true) s.search.root_first (member-at s.list 0 0 s.search.begun)
      where
        next : (e y : ℕ) → e < edge_count g → is_end g y e ≡ true → is_member y s.list ≡ true → is_member (other_end g e y) s.list ≡ true
        next e y l i m =
            let w = place-of s.list y m in
            subst (λ z. is_member (other_end g e z) s.list ≡ true) w.2 (s.search.closed w.0 e w.1 w.1 l (subst (λ z. is_end g z e ≡ true) (sym w.2) i))

        each : (link : ℕ × ℕ) → Contains g.ends link → is_member link.0 s.list ≡ is_member link.1 s.list
        each link c =
            let e = c.0 in
            let is : ends_of g e ≡ link = get_or_default g.ends e (0, 0) link c.1 ∙ c.2 in
            subst (λ (z : ℕ × ℕ). is_member z.0 s.list ≡ is_member z.1 s.list) is (same-tests (is_member (ends_of g e).0 s.list) (is_member (ends_of g e).1 s.list)
            (λ m. subst (λ z. is_member z s.list ≡ true) (other_end-of_first g e (ends_of g e).0 refl) (next e (ends_of g e).0 c.1 (is_end-first g e) m))
            (λ m. subst (λ z. is_member z s.list ≡ true) (other_end-of_second g e (ends_of g e).1 refl (ok.no_loop e c.1)) (next e (ends_of g e).1 c.1 (is_end-second g e) m)))

    -- the way begins
    pub way-begin : (from : ℕ) → connected g.ends root from ≡ true → IsOnWay g s.list from [] from 0
    way-begin from c = let w = place-of s.list from (reached from c) in record {
      place = w.0;
      enough = omega (arith, w.1);
      stands = w.2;
      walk = tt;
      arrives = refl;
      once = refl;
      after = λ z m. absurd (true≢false (sym m));
    }

    -- where the way is, it was not before
    fresh_at : (from : ℕ) (along : List ℕ) (at steps : ℕ) → IsOnWay g s.list from along at steps → (z : ℕ) → is_member z (walk_starts g from along) ≡ true → is_member z (at ∷ []) ≡ false
    fresh_at from along at steps w z m = no_member-cons z at [] (λ q.
        let v = w.after z m in
        let e : w.place ≡ v.0 = same-place s.list w.place v.0 s.once (omega (arith, w.enough)) v.1 (w.stands ∙ (q ∙ sym v.3)) in
        omega (arith, e, v.2)) refl

    -- a vertex on the way is one of the graph
    pub way-in : (from : ℕ) (along : List ℕ) (at steps : ℕ) → IsOnWay g s.list from along at steps → at < g.vertex_count
    way-in from along at steps w = s.within at (subst (λ z. is_member z s.list ≡ true) w.stands (member-at s.list w.place 0 (omega (arith, w.enough))))

    -- the way is after the root
    way-start : (from : ℕ) (along : List ℕ) (at steps : ℕ) (w : IsOnWay g s.list from along at steps) → at ≢ root → 0 < w.place
    way-start from along at steps w n = elim (cases_eq w.place 0) [
      | inl r ↦ absurd (n (sym w.stands ∙ (ap (λ z. slice_index_or s.list z 0) r ∙ s.search.root_first)))
      | inr d ↦ omega (arith, d)
    ]

    -- the edge that leads on from there
    way-back : (from : ℕ) (along : List ℕ) (at steps : ℕ) (w : IsOnWay g s.list from along at steps) → at ≢ root → LeadsBack g s.list w.place at (note_of notes at)
    way-back from along at steps w n = subst (λ z. LeadsBack g s.list w.place z (note_of notes z)) w.stands (s.search.steps w.place (way-start from along at steps w n) (omega (arith, w.enough)))

    pub way-edge : (from : ℕ) (along : List ℕ) (at steps : ℕ) → IsOnWay g s.list from along at steps → at ≢ root → (note_of notes at < edge_count g) × (is_end g at (note_of notes at) ≡ true)
    way-edge from along at steps w n = let b = way-back from along at steps w n in (b.edge, b.from)

    pub way-next : (from : ℕ) (along : List ℕ) (at steps : ℕ) (edge : ℕ) → edge ≡ note_of notes at → IsOnWay g s.list from along at steps → at ≢ root → IsOnWay g s.list from (along ++ edge ∷ []) (other_end g edge at) (steps + 1)
    way-next from along at steps edge q w n =
        subst (λ z. IsOnWay g s.list from (along ++ z ∷ []) (other_end g z at) (steps + 1)) (sym q) (record {
          place = b.place;
          enough = omega (arith, b.before, w.enough);
          stands = b.to;
          walk = walk-append g from along (e ∷ []) w.walk (subst (λ z. IsWalk g z (e ∷ [])) (sym w.arrives) ((b.edge, b.from), tt));
          arrives = end-append g from along (e ∷ []) ∙ ap (other_end g e) w.arrives;
          once = subst (λ (l : List ℕ). is_distinct l ≡ true) (sym starts) (distinct-append (walk_starts g from along) (at ∷ []) w.once refl (fresh_at from along at steps w));
          after = λ z m. elim (member-append_cases z (walk_starts g from along) (at ∷ []) (subst (λ (l : List ℕ). is_member z l ≡ true) starts m)) [
            | inl c ↦ let v = w.after z c in (v.0, v.1, omega (arith, v.2, b.before), v.3)
            | inr c ↦ elim (member-cases z at [] c) [
              | inl i ↦ (w.place, omega (arith, w.enough), b.before, w.stands ∙ i)
              | inr f ↦ absurd (true≢false (sym f))
            ]
          ];
        })
      where
        e : ℕ
        e = note_of notes at

        b : LeadsBack g s.list w.place at e
        b = way-back from along at steps w n

        starts : walk_starts g from (along ++ e ∷ []) ≡ walk_starts g from along ++ at ∷ []
        starts = starts-append g from along (e ∷ []) ∙ ap (λ z. walk_starts g from along ++ z ∷ []) w.arrives

    -- at the root the way is a path
    pub way-done : (from : ℕ) (along : List ℕ) (at steps : ℕ) → IsOnWay g s.list from along at steps → at ≡ root → IsPath g from along root
    way-done from along at steps w q = record {
      walk = w.walk;
      arrives = w.arrives ∙ q;
      vertices = subst (λ z. is_distinct (walk_starts g from along ++ z ∷ []) ≡ true) (sym w.arrives) (distinct-append (walk_starts g from along) (at ∷ []) w.once refl (fresh_at from along at steps w));
    }

    -- it does not take so many steps
    pub way-short : (from : ℕ) (along : List ℕ) (at steps : ℕ) → IsOnWay g s.list from along at steps → g.vertex_count ≤ steps → ⊥
    way-short from along at steps w l = omega (arith, w.enough, s.few, l)
