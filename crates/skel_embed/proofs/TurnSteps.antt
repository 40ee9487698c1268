-- The groups round a vertex brought into the reverse cyclic order, each behind the first.
use Rattle.std.proofs.Common.{◌≡◌, ◌≢◌, ℕ, zero, suc, ◌+◌, ◌<◌, ◌≤◌, ◌⊎◌, inl, inr, true, false, take, List, [], ◌∷◌, ◌++◌, length, reverse, slice_index_or, refl, sym, ap, ◌∙◌, subst, arith, append_assoc, append-nil, All, IsPermutation}
use Rattle.std.proofs.lemmas.Bool.{cases_eq, both_ways}
use Rattle.std.proofs.lemmas.List.{length-append, reverse-append, reverse-reverse}
use Rattle.std.proofs.lemmas.List.Elements.{All-head, All-tail}
use Rattle.std.proofs.lemmas.List.Sorted.{IsPermutation-trans, IsPermutation-append_comm, IsPermutation-append_left}
use Rattle.permutations.specs.Cyclic.{first_or, successor, IsTurn}
use Rattle.permutations.specs.Members.{is_member, is_distinct}
use Rattle.permutations.specs.Runs.{joined, IsGroup, InRuns}
use Rattle.permutations.proofs.Members.{member-append_left, member-append_right, no_member-head, no_member-tail, no_member-cons, distinct-head, distinct-tail}
use Rattle.permutations.proofs.Arrangements.{member-at}
use Rattle.permutations.proofs.Runs.{joined-append, other-groups, runs-turn}
use Rattle.permutations.proofs.Turned.{IsTurn-member, IsTurn-length, IsTurn-permutation}
use Rattle.multigraph.specs.Graph.{Multigraph, incident_edges}
use Rattle.rotations.specs.Rotation.{order_at, IsRotationSystem, IsCyclicOrder}
use Rattle.rotations.specs.Runs.{IsRun, IsOutside, IsRunMoved, IsKeptElsewhere}
use Rattle.rotations.proofs.Membership.{incident-distinct, incident-least}
use Rattle.pair_split.specs.Tutte.{Node, group}
use Rattle.skeletons.specs.Moves.{AreReversed}
use Rattle.skeletons.proofs.Systems.{order-arranged}
use Rattle.skel_embed.specs.Steps.{EndsRun, StandInTwoRuns}
use Rattle.skel_embed.proofs.RunSteps.{Ends, Begins, end-behind, end-member, begin-member, take-more, ends-last, group-next, outside-groups, moved-groups, IsSeenFrom, seen-from}

-- the first two groups stay, those that were moved stand between them, the last one first, and the rest is still behind
pub record IsTurning (key : ℕ → ℕ) (l m : List ℕ) (front back steps : ℕ) : Type 0 where
  pub first : ℕ × List ℕ
  pub second : ℕ × List ℕ
  pub moved : List (ℕ × List ℕ)
  pub rest : List (ℕ × List ℕ)
  pub before : InRuns key l (first ∷ second ∷ (reverse moved ++ rest))
  pub now : InRuns key m (first ∷ (moved ++ second ∷ rest))
  pub ends_first : Ends front first.1
  pub ends_second : Ends back second.1
  pub moved_length : length moved ≡ steps

-- the same, with the edge after the second group
pub record IsTurningAt (key : ℕ → ℕ) (l m : List ℕ) (front steps next : ℕ) : Type 0 where
  pub back : ℕ
  pub turning : IsTurning key l m front back steps
  pub is : next ≡ successor m back

pub turning-start : (key : ℕ → ℕ) (l : List ℕ) (e front back : ℕ) → is_distinct l ≡ true → StandInTwoRuns key l → is_member e l ≡ true → EndsRun key l e front → EndsRun key l (successor l front) back → IsTurning key l l front back 0
turning-start key l e front back d s m x y = record {
  first = w.own;
  second = w.next;
  moved = [];
  rest = w.others;
  before = w.runs;
  now = w.runs;
  ends_first = at-front;
  ends_second = second w.others w.runs;
  moved_length = refl;
}
  where
    w : IsSeenFrom key l e
    w = seen-from key l e s m

    at-front : Ends front w.own.1
    at-front = ends-last key l w.own w.next w.others w.runs e front d w.inside x

    second : (others : List (ℕ × List ℕ)) → InRuns key l (w.own ∷ w.next ∷ others) → Ends back w.next.1
    second [] r =
        let b = group-next key l w.own w.next [] r front d at-front in
        ends-last key l w.next w.own [] (runs-turn key l (w.own ∷ w.next ∷ []) (w.next ∷ w.own ∷ []) r (record { front = w.own ∷ []; back = w.next ∷ []; before = refl; after = refl })) (successor l front) back d (begin-member w.next.1 (successor l front) b) y
    second (h ∷ hs) r =
        let b = group-next key l w.own w.next (h ∷ hs) r front d at-front in
        ends-last key l w.next h (hs ++ w.own ∷ []) (runs-turn key l (w.own ∷ w.next ∷ h ∷ hs) (w.next ∷ h ∷ (hs ++ w.own ∷ [])) r (record { front = w.own ∷ []; back = w.next ∷ h ∷ hs; before = refl; after = refl })) (successor l front) back d (begin-member w.next.1 (successor l front) b) y

-- the first of a list with one more
some-head : (gs : List (ℕ × List ℕ)) (x : ℕ × List ℕ) → (h : ℕ × List ℕ) × (hs : List (ℕ × List ℕ)) × (gs ++ x ∷ [] ≡ h ∷ hs)
some-head [] x = (x, [], refl)
some-head (g ∷ gs) x = (g, gs ++ x ∷ [], refl)

-- a list has one first member
begin-once : (l : List ℕ) (a b : ℕ) → Begins a l → Begins b l → a ≡ b
begin-once l a b x y = ap (first_or a) (sym x.1 ∙ y.1)

-- there are no more groups than members
groups-few : (key : ℕ → ℕ) (gs : List (ℕ × List ℕ)) → All (IsGroup key) gs → length gs ≤ length (joined gs)
groups-few key [] a = omega arith
groups-few key (g ∷ gs) a = omega (arith, (All-head (IsGroup key) g gs a).filled, groups-few key gs (All-tail (IsGroup key) g gs a), length-append g.1 (joined gs))

module _ (key : ℕ → ℕ) (l m : List ℕ) (front back steps : ℕ) (w : IsTurning key l m front back steps) where
  pub turning-short : steps < length m
  turning-short = omega (arith, w.moved_length, groups-few key (w.first ∷ (w.moved ++ w.second ∷ w.rest)) w.now.groups, IsTurn-length m (joined (w.first ∷ (w.moved ++ w.second ∷ w.rest))) w.now.around, length-append w.moved (w.second ∷ w.rest))

  pub turning-two : StandInTwoRuns key m
  turning-two = record { groups = w.first ∷ (w.moved ++ w.second ∷ w.rest); runs = w.now; two = omega (arith, length-append w.moved (w.second ∷ w.rest)) }

  pub back-in : is_member back m ≡ true
  back-in = sym (IsTurn-member m (joined (w.first ∷ (w.moved ++ w.second ∷ w.rest))) back w.now.around) ∙ member-append_right back w.first.1 (joined (w.moved ++ w.second ∷ w.rest))
      (ap (is_member back) (joined-append w.moved (w.second ∷ w.rest)) ∙ member-append_right back (joined w.moved) (w.second.1 ++ joined w.rest) (member-append_left back w.second.1 (joined w.rest) (end-member w.second.1 back w.ends_second)))

  key-front : key front ≡ w.first.0
  key-front = (All-head (IsGroup key) w.first (w.moved ++ w.second ∷ w.rest) w.now.groups).same_key front (end-member w.first.1 front w.ends_first)

  -- no more groups: the first one comes behind
  none : w.rest ≡ [] → InRuns key m (w.second ∷ w.first ∷ w.moved)
  none e = runs-turn key m (w.first ∷ (w.moved ++ w.second ∷ w.rest)) (w.second ∷ w.first ∷ w.moved) w.now (record { front = w.first ∷ w.moved; back = w.second ∷ []; before = ap (λ (z : List (ℕ × List ℕ)). w.first ∷ (w.moved ++ w.second ∷ z)) e; after = refl })

  -- another group: seen from the second, and from it
  more : (g : ℕ × List ℕ) (gs : List (ℕ × List ℕ)) → w.rest ≡ g ∷ gs → InRuns key m (w.second ∷ g ∷ (gs ++ w.first ∷ w.moved))
  more g gs e = runs-turn key m (w.first ∷ (w.moved ++ w.second ∷ w.rest)) (w.second ∷ g ∷ (gs ++ w.first ∷ w.moved)) w.now (record { front = w.first ∷ w.moved; back = w.second ∷ g ∷ gs; before = ap (λ (z : List (ℕ × List ℕ)). w.first ∷ (w.moved ++ w.second ∷ z)) e; after = refl })

  from : (g : ℕ × List ℕ) (gs : List (ℕ × List ℕ)) → w.rest ≡ g ∷ gs → InRuns key m (g ∷ ((gs ++ w.first ∷ []) ++ (w.moved ++ w.second ∷ [])))
  from g gs e = runs-turn key m (w.first ∷ (w.moved ++ w.second ∷ w.rest)) (g ∷ ((gs ++ w.first ∷ []) ++ (w.moved ++ w.second ∷ []))) w.now (record {
    front = w.first ∷ (w.moved ++ w.second ∷ []);
    back = g ∷ gs;
    before = ap (λ (z : List (ℕ × List ℕ)). w.first ∷ (w.moved ++ w.second ∷ z)) e ∙ ap (λ (z : List (ℕ × List ℕ)). w.first ∷ z) (sym (append_assoc w.moved (w.second ∷ []) (g ∷ gs)));
    after = ap (λ (z : List (ℕ × List ℕ)). g ∷ z) (append_assoc gs (w.first ∷ []) (w.moved ++ w.second ∷ []));
  })

  front-ends : (gs : List (ℕ × List ℕ)) → Ends front (joined (gs ++ w.first ∷ []))
  front-ends gs = subst (Ends front) (sym (joined-append gs (w.first ∷ []))) (end-behind (joined gs) (w.first.1 ++ []) front (subst (Ends front) (sym (append-nil w.first.1)) w.ends_first))

  module _ (d : is_distinct m ≡ true) where
    begins-none : w.rest ≡ [] → key (successor m back) ≡ key front
    begins-none e =
        let b : Begins (successor m back) w.first.1 = group-next key m w.second w.first w.moved (none e) back d w.ends_second in
        (All-head (IsGroup key) w.first (w.moved ++ w.second ∷ w.rest) w.now.groups).same_key (successor m back) (begin-member w.first.1 (successor m back) b) ∙ sym key-front

    begins-more : (g : ℕ × List ℕ) (gs : List (ℕ × List ℕ)) → w.rest ≡ g ∷ gs → Begins (successor m back) g.1
    begins-more g gs e = group-next key m w.second g (gs ++ w.first ∷ w.moved) (more g gs e) back d w.ends_second

    differs : (g : ℕ × List ℕ) (gs : List (ℕ × List ℕ)) → w.rest ≡ g ∷ gs → key (successor m back) ≢ key front
    differs g gs e q =
        let r = from g gs e in
        let b = begins-more g gs e in
        other-groups key g ((gs ++ w.first ∷ []) ++ (w.moved ++ w.second ∷ [])) front r.once r.groups
        (ap (is_member front) (joined-append (gs ++ w.first ∷ []) (w.moved ++ w.second ∷ [])) ∙ member-append_left front (joined (gs ++ w.first ∷ [])) (joined (w.moved ++ w.second ∷ [])) (end-member (joined (gs ++ w.first ∷ [])) front (front-ends gs)))
        (sym q ∙ (All-head (IsGroup key) g ((gs ++ w.first ∷ []) ++ (w.moved ++ w.second ∷ [])) r.groups).same_key (successor m back) (begin-member g.1 (successor m back) b))

    -- where the next key is the first one, all are turned
    pub turning-done : key (successor m back) ≡ key front → AreReversed key l m
    turning-done q = at w.rest refl
      where
        at : (rest : List (ℕ × List ℕ)) → w.rest ≡ rest → AreReversed key l m
        at (g ∷ gs) e = absurd (differs g gs e q)
        at [] e = record {
          groups = w.first ∷ w.second ∷ reverse w.moved;
          before = subst (λ (z : List (ℕ × List ℕ)). InRuns key l (w.first ∷ w.second ∷ z)) (ap (λ (z : List (ℕ × List ℕ)). reverse w.moved ++ z) e ∙ append-nil (reverse w.moved)) w.before;
          after = runs-turn key m (w.second ∷ w.first ∷ w.moved) (reverse (w.first ∷ w.second ∷ reverse w.moved)) (none e) (record { front = w.second ∷ w.first ∷ []; back = w.moved; before = refl; after = back-again });
        }
          where
            back-again : reverse (w.first ∷ w.second ∷ reverse w.moved) ≡ w.moved ++ w.second ∷ w.first ∷ []
            back-again = reverse-append (w.first ∷ w.second ∷ []) (reverse w.moved) ∙ ap (λ (z : List (ℕ × List ℕ)). z ++ w.second ∷ w.first ∷ []) (reverse-reverse w.moved)

    -- else the next run is put behind the first
    module _ (last : ℕ) (q : key (successor m back) ≢ key front) (x : EndsRun key m (successor m back) last) where
      run-of : (g : ℕ × List ℕ) (gs : List (ℕ × List ℕ)) → w.rest ≡ g ∷ gs → IsRun (successor m back) last g.1
      run-of g gs e =
          let b = begins-more g gs e in
          let i : is_member (successor m back) g.1 ≡ true = begin-member g.1 (successor m back) b in
          let z : Ends last g.1 = at gs (from g gs e) i in
          record { behind = b.0; begins = b.1; ahead = z.0; ends = z.1 }
        where
          at : (hs : List (ℕ × List ℕ)) → InRuns key m (g ∷ ((hs ++ w.first ∷ []) ++ (w.moved ++ w.second ∷ []))) → is_member (successor m back) g.1 ≡ true → Ends last g.1
          at [] r i = ends-last key m g w.first (w.moved ++ w.second ∷ []) r (successor m back) last d i x
          at (h ∷ hs) r i = ends-last key m g h ((hs ++ w.first ∷ []) ++ (w.moved ++ w.second ∷ [])) r (successor m back) last d i x

      pub turning-outside : IsOutside m (successor m back) last front
      turning-outside = at w.rest refl
        where
          at : (rest : List (ℕ × List ℕ)) → w.rest ≡ rest → IsOutside m (successor m back) last front
          at [] e = absurd (q (begins-none e))
          at (g ∷ gs) e = outside-groups key m g (gs ++ w.first ∷ []) (w.moved ++ w.second ∷ []) (successor m back) last front (from g gs e) (run-of g gs e) (front-ends gs)

      pub turning-on : (n : List ℕ) → IsRunMoved m n (successor m back) last front → IsTurning key l n front back (steps + 1)
      turning-on n y = at w.rest refl
        where
          at : (rest : List (ℕ × List ℕ)) → w.rest ≡ rest → IsTurning key l n front back (steps + 1)
          at [] e = absurd (q (begins-none e))
          at (g ∷ gs) e = record {
            first = w.first;
            second = w.second;
            moved = g ∷ w.moved;
            rest = gs;
            before = subst (λ (z : List (ℕ × List ℕ)). InRuns key l (w.first ∷ w.second ∷ z)) passed w.before;
            now = runs-turn key n ((gs ++ w.first ∷ []) ++ g ∷ (w.moved ++ w.second ∷ [])) (w.first ∷ g ∷ (w.moved ++ w.second ∷ gs))
                (moved-groups key m g (gs ++ w.first ∷ []) (w.moved ++ w.second ∷ []) (successor m back) last front (from g gs e) (run-of g gs e) n d (front-ends gs) y)
                (record { front = gs; back = w.first ∷ g ∷ (w.moved ++ w.second ∷ []); before = append_assoc gs (w.first ∷ []) (g ∷ (w.moved ++ w.second ∷ [])); after = ap (λ (z : List (ℕ × List ℕ)). w.first ∷ g ∷ z) (sym (append_assoc w.moved (w.second ∷ []) gs)) });
            ends_first = w.ends_first;
            ends_second = w.ends_second;
            moved_length = omega (arith, w.moved_length);
          }
            where
              passed : reverse w.moved ++ w.rest ≡ reverse (g ∷ w.moved) ++ gs
              passed = ap (λ (z : List (ℕ × List ℕ)). reverse w.moved ++ z) e ∙ sym (append_assoc (reverse w.moved) (g ∷ []) gs) ∙ ap (λ (z : List (ℕ × List ℕ)). z ++ gs) (sym (reverse-append (g ∷ []) w.moved))

      -- then what was after that run is after the second
      pub turning-next : (n : List ℕ) → is_distinct n ≡ true → IsRunMoved m n (successor m back) last front → successor n back ≡ successor m last
      turning-next n c y = at w.rest refl
        where
          at : (rest : List (ℕ × List ℕ)) → w.rest ≡ rest → successor n back ≡ successor m last
          at [] e = absurd (q (begins-none e))
          at (g ∷ gs) e = begin-once f.0.1 (successor n back) (successor m last) after-second after-run
            where
              f : (h : ℕ × List ℕ) × (hs : List (ℕ × List ℕ)) × (gs ++ w.first ∷ [] ≡ h ∷ hs)
              f = some-head gs w.first

              run : IsRun (successor m back) last g.1
              run = run-of g gs e

              after-run : Begins (successor m last) f.0.1
              after-run = group-next key m g f.0 (f.1 ++ (w.moved ++ w.second ∷ [])) (subst (λ (z : List (ℕ × List ℕ)). InRuns key m (g ∷ (z ++ (w.moved ++ w.second ∷ [])))) f.2 (from g gs e)) last d (run.ahead, run.ends)

              put : InRuns key n ((gs ++ w.first ∷ []) ++ g ∷ (w.moved ++ w.second ∷ []))
              put = moved-groups key m g (gs ++ w.first ∷ []) (w.moved ++ w.second ∷ []) (successor m back) last front (from g gs e) run n d (front-ends gs) y

              second : InRuns key n (w.second ∷ ((gs ++ w.first ∷ []) ++ g ∷ w.moved))
              second = runs-turn key n ((gs ++ w.first ∷ []) ++ g ∷ (w.moved ++ w.second ∷ [])) (w.second ∷ ((gs ++ w.first ∷ []) ++ g ∷ w.moved)) put
                  (record { front = (gs ++ w.first ∷ []) ++ g ∷ w.moved; back = w.second ∷ []; before = sym (append_assoc (gs ++ w.first ∷ []) (g ∷ w.moved) (w.second ∷ [])); after = refl })

              after-second : Begins (successor n back) f.0.1
              after-second = group-next key n w.second f.0 (f.1 ++ g ∷ w.moved) (subst (λ (z : List (ℕ × List ℕ)). InRuns key n (w.second ∷ (z ++ g ∷ w.moved))) f.2 second) back c w.ends_second

-- a run that is moved leaves a rotation system
pub moved-system : (g : Multigraph) (r q : List (List ℕ)) (v first last edge : ℕ) → IsRotationSystem g r → v < g.vertex_count → IsRunMoved (order_at r v) (order_at q v) first last edge → IsKeptElsewhere r q v → IsRotationSystem g q
moved-system g r q v first last edge s l m k = record { vertices = k.vertices ∙ s.vertices; orders = each }
  where
    moved : IsCyclicOrder (incident_edges g v) (order_at q v)
    moved = subst (IsCyclicOrder (incident_edges g v)) (sym m.moved) (order-arranged (incident_edges g v) (m.front ++ edge ∷ (m.run ++ m.back)) (incident-distinct g v) (incident-least g v)
        (IsPermutation-trans (incident_edges g v) (order_at r v) (m.front ++ edge ∷ (m.run ++ m.back)) (s.orders v l).arranged (moved-permutation (order_at r v) m.run m.front m.back m.parted.round)))
      where
        moved-permutation : (order run front back : List ℕ) → IsTurn order (run ++ (front ++ edge ∷ back)) → IsPermutation order (front ++ edge ∷ (run ++ back))
        moved-permutation order run front back p =
            IsPermutation-trans order (run ++ (front ++ edge ∷ back)) (front ++ edge ∷ (run ++ back)) (IsTurn-permutation order (run ++ (front ++ edge ∷ back)) p)
            (subst (λ (l : List ℕ). IsPermutation l (front ++ edge ∷ (run ++ back))) from (subst (λ (l : List ℕ). IsPermutation ((run ++ (front ++ edge ∷ [])) ++ back) l) to
            (IsPermutation-append_left back (run ++ (front ++ edge ∷ [])) ((front ++ edge ∷ []) ++ run) (IsPermutation-append_comm run (front ++ edge ∷ [])))))
          where
            from : (run ++ (front ++ edge ∷ [])) ++ back ≡ run ++ (front ++ edge ∷ back)
            from = append_assoc run (front ++ edge ∷ []) back ∙ ap (λ (l : List ℕ). run ++ l) (append_assoc front (edge ∷ []) back)

            to : ((front ++ edge ∷ []) ++ run) ++ back ≡ front ++ edge ∷ (run ++ back)
            to = append_assoc (front ++ edge ∷ []) run back ∙ append_assoc front (edge ∷ []) (run ++ back)

    each : (w : ℕ) → w < g.vertex_count → IsCyclicOrder (incident_edges g w) (order_at q w)
    each w h = elim (cases_eq w v) [
      | inl e ↦ subst (λ z. IsCyclicOrder (incident_edges g z) (order_at q z)) (sym e) moved
      | inr n ↦ subst (IsCyclicOrder (incident_edges g w)) (sym (k.others w n)) (s.orders w h)
    ]

-- what stays elsewhere in one step and in another stays in both
pub elsewhere-twice : (r q s : List (List ℕ)) (v : ℕ) → IsKeptElsewhere r q v → IsKeptElsewhere q s v → IsKeptElsewhere r s v
elsewhere-twice r q s v x y = record { vertices = y.vertices ∙ x.vertices; others = λ w n. y.others w n ∙ x.others w n }

-- the cyclic orders at these vertices are reversed, and the others are as they were
pub record AreTurnedAt (g : Multigraph) (nodes : List Node) (k : ℕ) (r q : List (List ℕ)) (done : List ℕ) : Type 0 where
  pub system : IsRotationSystem g q
  pub turned : (v : ℕ) → is_member v done ≡ true → AreReversed (group nodes k) (order_at r v) (order_at q v)
  pub others : (v : ℕ) → is_member v done ≡ false → order_at q v ≡ order_at r v

-- the vertices passed so far, and the next
module _ (vertices : List ℕ) (i : ℕ) (d : is_distinct vertices ≡ true) (h : i < length vertices) where
  pub next-new : is_member (slice_index_or vertices i 0) (take i vertices) ≡ false
  next-new = at vertices i d h
    where
      at : (l : List ℕ) (i : ℕ) → is_distinct l ≡ true → i < length l → is_member (slice_index_or l i 0) (take i l) ≡ false
      at [] i d h = absurd (omega (arith, h))
      at (x ∷ l) zero d h = refl
      at (x ∷ l) (suc i) d h = no_member-cons (slice_index_or l i 0) x (take i l) (λ e. both_ways (is_member x l) (distinct-head x l d) (subst (λ z. is_member z l ≡ true) (sym e) (member-at l i 0 (omega (arith, h))))) (at l i (distinct-tail x l d) (omega (arith, h)))

  pub passed-old : (x : ℕ) → is_member x (take (i + 1) vertices) ≡ true → (is_member x (take i vertices) ≡ true) ⊎ (slice_index_or vertices i 0 ≡ x)
  passed-old x m = let e : i + 1 ≡ suc i = omega arith in take-more vertices i x h (subst (λ z. is_member x (take z vertices) ≡ true) e m)

  pub passed-not : (x : ℕ) → is_member x (take (i + 1) vertices) ≡ false → (is_member x (take i vertices) ≡ false) × (slice_index_or vertices i 0 ≢ x)
  passed-not x m = let e : i + 1 ≡ suc i = omega arith in at vertices i h (subst (λ z. is_member x (take z vertices) ≡ false) e m)
    where
      at : (l : List ℕ) (i : ℕ) → i < length l → is_member x (take (suc i) l) ≡ false → (is_member x (take i l) ≡ false) × (slice_index_or l i 0 ≢ x)
      at [] i h m = absurd (omega (arith, h))
      at (y ∷ l) zero h m = (refl, no_member-head x y [] m)
      at (y ∷ l) (suc i) h m = let w = at l i (omega (arith, h)) (no_member-tail x y (take (suc i) l) m) in (no_member-cons x y (take i l) (no_member-head x y (take (suc i) l) m) w.0, w.1)

pub turned-more : (g : Multigraph) (nodes : List Node) (k : ℕ) (r q s : List (List ℕ)) (vertices : List ℕ) (i v : ℕ) → is_distinct vertices ≡ true → i < length vertices → v ≡ slice_index_or vertices i 0
    → AreTurnedAt g nodes k r q (take i vertices) → IsRotationSystem g s → AreReversed (group nodes k) (order_at q v) (order_at s v) → IsKeptElsewhere q s v → AreTurnedAt g nodes k r s (take (i + 1) vertices)
turned-more g nodes k r q s vertices i v d h e w system a kept = record { system = system; turned = turned; others = others }
  where
    new : is_member v (take i vertices) ≡ false
    new = subst (λ z. is_member z (take i vertices) ≡ false) (sym e) (next-new vertices i d h)

    turned : (x : ℕ) → is_member x (take (i + 1) vertices) ≡ true → AreReversed (group nodes k) (order_at r x) (order_at s x)
    turned x m = elim (passed-old vertices i d h x m) [
      | inl o ↦ subst (AreReversed (group nodes k) (order_at r x)) (sym (kept.others x (λ y. both_ways (is_member v (take i vertices)) new (subst (λ z. is_member z (take i vertices) ≡ true) y o)))) (w.turned x o)
      | inr y ↦ subst (λ z. AreReversed (group nodes k) (order_at r z) (order_at s z)) (e ∙ y) (subst (λ (z : List ℕ). AreReversed (group nodes k) z (order_at s v)) (w.others v new) a)
    ]

    others : (x : ℕ) → is_member x (take (i + 1) vertices) ≡ false → order_at s x ≡ order_at r x
    others x m = let n = passed-not vertices i d h x m in kept.others x (λ y. n.1 (sym e ∙ sym y)) ∙ w.others x n.0
