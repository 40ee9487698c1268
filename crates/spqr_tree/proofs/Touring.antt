-- The steps of the walk round the tree: a bound is noted, then an edge is met, or a link is gone down, or the node is left; and the end.
use Rattle.std.proofs.Common.{◌≡◌, ◌≢◌, ℕ, zero, suc, ◌+◌, ◌-◌, ◌<◌, ◌≤◌, ◌⊎◌, inl, inr, Bool, true, false, not, ◌&&◌, ◌==◌, List, [], ◌∷◌, ◌++◌, length, slice_index_or, slice_set, refl, sym, ap, ◌∙◌, subst, arith}
use Rattle.std.proofs.lemmas.Bool.{cases_eq, cases_lt, both_ways, true≢false, eq-eqb, eqb-true, ne_eqb, and_from}
use Rattle.std.proofs.lemmas.List.{get_or-set_same, get_or-set_other, length-set, length-append, get_or_append_left}
use Rattle.std.proofs.Math.Seq.{get_or-append_seam}
use Rattle.permutations.specs.Count.{count}
use Rattle.permutations.proofs.Count.{count-within, count-subset, count-remove}
use Rattle.permutations.proofs.Sums.{sum_below-same}
use Rattle.multigraph.specs.Graph.{Multigraph, edge_count}
use Rattle.pair_split.specs.Split.{is_beyond, LinksTo}
use Rattle.pair_split.specs.Tutte.{Node, node_at, components, IsTutte}
use Rattle.pair_split.specs.declared.components.Item.{Item}
use Rattle.pair_split.specs.declared.components.What.{What}
use Rattle.pair_split.specs.declared.components.What.TheVariants.{Real, Link}
use Rattle.pair_split.proofs.Groups.{what-cases}
use Rattle.spqr_tree.specs.Keys.{nth_item}
use Rattle.spqr_tree.specs.Tour.{what_at, item_count, place_of, is_ahead, bounds_of, bound_count, bound_at, AreToured, TourState, HasBegun, noted, tour_left, ArePartly, IsTouring}
use Rattle.spqr_tree.proofs.UpLinks.{number_of, not-both, first-in, first-edge, link-to, link-within, child-up, parent-down, link-once, edge-once, falls}
use Rattle.spqr_tree.specs.Absent.{absent}

-- when a bound of the node was noted, and its next item is to be entered, if there is one
pub record HasNoted (nodes : List Node) (s : TourState) : Type 0 where
  pub partly : ArePartly nodes s
  pub some : 0 < bound_count s.bounds s.at
  pub whole : (k i j : ℕ) → k < length nodes → i + 1 < bound_count s.bounds k → what_at nodes k (i + 1) ≡ Link j → (bound_count s.bounds j ≡ item_count nodes j) × (j ≢ s.at)
  pub in_edge : (k i e : ℕ) → k < length nodes → k ≢ s.at → i + 1 ≡ bound_count s.bounds k → i + 1 < item_count nodes k → what_at nodes k (i + 1) ≡ Real e → (bound_at s.bounds k i ≤ place_of s.places e) × (place_of s.places e < s.met)
  pub in_link : (k i j : ℕ) → k < length nodes → k ≢ s.at → i + 1 ≡ bound_count s.bounds k → i + 1 < item_count nodes k → what_at nodes k (i + 1) ≡ Link j → 0 < bound_count s.bounds j → bound_at s.bounds k i ≤ bound_at s.bounds j 0
  pub ahead_edge : (k i e : ℕ) → k < length nodes → (k ≢ s.at → bound_count s.bounds k ≤ i) → bound_count s.bounds k ≤ i + 1 → i + 1 < item_count nodes k → what_at nodes k (i + 1) ≡ Real e → is_ahead s.places e ≡ true
  pub ahead_link : (k i j : ℕ) → k < length nodes → (k ≢ s.at → bound_count s.bounds k ≤ i) → bound_count s.bounds k ≤ i + 1 → i + 1 < item_count nodes k → what_at nodes k (i + 1) ≡ Link j → (bound_count s.bounds j ≡ 0) × (j ≢ s.at)

-- the walk at another node
abbrev pub moved : ℕ → TourState → TourState
moved k s = record { at = k; met = s.met; places = s.places; bounds = s.bounds }

-- an edge less is ahead
ahead-less : (m : ℕ) (p q : ℕ → Bool) (y : ℕ) → y < m → q y ≡ true → p y ≡ false → ((x : ℕ) → p x ≡ true → q x ≡ true) → count m p + 1 ≤ count m q
ahead-less m p q y l h f s = omega (arith, count-remove m q y l h, count-subset m p (λ x. q x && not (x == y)) (λ x b z. and_from (q x) (not (x == y)) (s x z) (other x z)))
  where
    other : (x : ℕ) → p x ≡ true → not (x == y) ≡ true
    other x z = elim (cases_eq x y) [ inl e ↦ absurd (both_ways (p y) f (subst (λ u. p u ≡ true) e z)) | inr n ↦ ap not (ne_eqb x y n) ]

module _ (g : Multigraph) (nodes : List Node) (t : IsTutte g nodes) (few : 0 < edge_count g) where
  module _ (s : TourState) (w : IsTouring nodes s) where
    abbrev p : ArePartly nodes s
    p = w.partly

    same-at : bounds_of (noted s) s.at ≡ bounds_of s.bounds s.at ++ s.met ∷ []
    same-at = get_or-set_same s.bounds s.at (bounds_of s.bounds s.at ++ s.met ∷ []) [] (omega (arith, p.number, p.here))

    same-off : (x : ℕ) → x ≢ s.at → bounds_of (noted s) x ≡ bounds_of s.bounds x
    same-off x n = get_or-set_other s.bounds s.at x (bounds_of s.bounds s.at ++ s.met ∷ []) [] n

    count-at : (x : ℕ) → x ≡ s.at → bound_count (noted s) x ≡ bound_count s.bounds x + 1
    count-at x q = subst (λ z. bound_count (noted s) z ≡ bound_count s.bounds z + 1) (sym q) (ap length same-at ∙ length-append (bounds_of s.bounds s.at) (s.met ∷ []))

    count-off : (x : ℕ) → x ≢ s.at → bound_count (noted s) x ≡ bound_count s.bounds x
    count-off x n = ap length (same-off x n)

    count-more : (x : ℕ) → bound_count s.bounds x ≤ bound_count (noted s) x
    count-more x = elim (cases_eq x s.at) [ inl q ↦ omega (arith, count-at x q) | inr n ↦ omega (arith, count-off x n) ]

    bound-old : (x i : ℕ) → i < bound_count s.bounds x → bound_at (noted s) x i ≡ bound_at s.bounds x i
    bound-old x i l = elim (cases_eq x s.at) [
      | inl q ↦ subst (λ z. i < bound_count s.bounds z → bound_at (noted s) z i ≡ bound_at s.bounds z i) (sym q)
          (λ b. ap (λ (z : List ℕ). slice_index_or z i 0) same-at ∙ get_or_append_left (bounds_of s.bounds s.at) (s.met ∷ []) 0 i b) l
      | inr n ↦ ap (λ (z : List ℕ). slice_index_or z i 0) (same-off x n)
    ]

    bound-new : (x i : ℕ) → x ≡ s.at → i ≡ bound_count s.bounds x → bound_at (noted s) x i ≡ s.met
    bound-new x i q e = ap (λ z. bound_at (noted s) z i) q ∙ ap (λ (z : List ℕ). slice_index_or z i 0) same-at
        ∙ ap (λ z. slice_index_or (bounds_of s.bounds s.at ++ s.met ∷ []) z 0) (e ∙ ap (bound_count s.bounds) q) ∙ get_or-append_seam (bounds_of s.bounds s.at) s.met [] 0

    place : (x i : ℕ) → i < bound_count (noted s) x → (i < bound_count s.bounds x) ⊎ ((x ≡ s.at) × (i ≡ bound_count s.bounds x))
    place x i l = elim (cases_lt i (bound_count s.bounds x)) [
      | inl b ↦ inl b
      | inr b ↦ elim (cases_eq x s.at) [ inl q ↦ inr (q, omega (arith, l, b, count-at x q)) | inr n ↦ absurd (omega (arith, l, b, count-off x n)) ]
    ]

    room-at : (x : ℕ) → x ≡ s.at → bound_count s.bounds x < item_count nodes x
    room-at x q = subst (λ z. bound_count s.bounds z < item_count nodes z) (sym q) w.room

    -- behind a link that was left
    left-link : (k i j : ℕ) → k < length nodes → i + 1 < bound_count (noted s) k → what_at nodes k (i + 1) ≡ Link j
        → (bound_count s.bounds j ≡ item_count nodes j) × (0 < bound_count s.bounds j) × (bound_at s.bounds k i ≤ bound_at s.bounds j 0) × ((z : ℕ) → z + 1 ≡ item_count nodes j → bound_at s.bounds j z ≤ bound_at (noted s) k (i + 1))
    left-link k i j l b h = elim (place k (i + 1) b) [
      | inl o ↦
          let c = w.whole k i j l o h in
          let r = p.links k i j l o h in
          (c, omega (arith, c, full), r.0, λ z e. omega (arith, r.1 z e, bound-old k (i + 1) o))
      | inr o ↦
          let r = w.in_link k i j l o.1 (omega (arith, o.1, room-at k o.0)) h in
          let c = r.1 (sym o.0) in
          (c, omega (arith, c, full), r.0 (omega (arith, c, full)), λ z e. omega (arith, bound-new k (i + 1) o.0 o.1, (p.range j z (omega (arith, c, e))).1))
    ]
      where
        full : 0 < item_count nodes j
        full = first-in g nodes t few j (link-within g nodes t few k j (link-to g nodes t few k (i + 1) j (omega (arith, b, fits)) h))
          where
            fits : bound_count (noted s) k ≤ item_count nodes k
            fits = elim (cases_eq k s.at) [ inl q ↦ omega (arith, count-at k q, room-at k q) | inr n ↦ omega (arith, count-off k n, p.few k l) ]

    -- a bound is noted
    pub note-step : (next : TourState) → next ≡ record { at = s.at; met = s.met; places = s.places; bounds = noted s } → HasNoted nodes next
    note-step next is = subst (HasNoted nodes) (sym is) (record {
      partly = record {
        number = length-set s.bounds s.at (bounds_of s.bounds s.at ++ s.met ∷ []) ∙ p.number;
        here = p.here;
        few = λ k l. elim (cases_eq k s.at) [ inl q ↦ omega (arith, count-at k q, room-at k q) | inr n ↦ omega (arith, count-off k n, p.few k l) ];
        edges = λ k i e l b h. elim (place k (i + 1) b) [
          | inl o ↦ let r = p.edges k i e l o h in (omega (arith, r.0, bound-old k i (omega (arith, o))), omega (arith, r.1, bound-old k (i + 1) o))
          | inr o ↦ let r = w.in_edge k i e l o.1 (omega (arith, o.1, room-at k o.0)) h in (omega (arith, r.0, bound-old k i (omega (arith, o.1))), omega (arith, r.1, bound-new k (i + 1) o.0 o.1))
        ];
        links = λ k i j l b h.
            let r = left-link k i j l b h in
            let o : i < bound_count s.bounds k = elim (place k (i + 1) b) [ inl o ↦ omega (arith, o) | inr o ↦ omega (arith, o.1) ] in
            (omega (arith, r.2, bound-old k i o, bound-old j 0 r.1), λ z e. omega (arith, r.3 z e, bound-old j z (omega (arith, r.0, e))));
        range = λ k i b. elim (place k i b) [
          | inl o ↦ let r = p.range k i o in (omega (arith, r.0, bound-old k i o), omega (arith, r.1, bound-old k i o))
          | inr o ↦ (omega (arith, p.begun, bound-new k i o.0 o.1), omega (arith, bound-new k i o.0 o.1))
        ];
        rise = λ k i b. elim (place k (i + 1) b) [
          | inl o ↦ omega (arith, p.rise k i o, bound-old k i (omega (arith, o)), bound-old k (i + 1) o)
          | inr o ↦ omega (arith, (p.range k i (omega (arith, o.1))).1, bound-old k i (omega (arith, o.1)), bound-new k (i + 1) o.0 o.1)
        ];
        first = p.first;
        begun = p.begun;
        left = p.left;
        bounded = p.bounded;
        within = p.within;
      };
      some = omega (arith, count-at s.at refl);
      whole = λ k i j l b h.
          let r = left-link k i j l b h in
          let n : j ≢ s.at = λ q. omega (arith, r.0, room-at j q) in
          (omega (arith, r.0, count-off j n), n);
      in_edge = λ k i e l n b m h. let r = w.in_edge k i e l (omega (arith, b, count-off k n)) m h in (omega (arith, r.0, bound-old k i (omega (arith, b, count-off k n))), r.1);
      in_link = λ k i j l n b m h c.
          let o : i < bound_count s.bounds k = omega (arith, b, count-off k n) in
          elim (cases_lt 0 (bound_count s.bounds j)) [
            | inl d ↦ omega (arith, (w.in_link k i j l (omega (arith, b, count-off k n)) m h).0 d, bound-old k i o, bound-old j 0 d)
            | inr d ↦ elim (cases_eq j s.at) [
              | inl q ↦ omega (arith, (p.range k i o).1, bound-old k i o, bound-new j 0 q (omega (arith, d)))
              | inr z ↦ absurd (omega (arith, c, d, count-off j z))
            ]
          ];
      ahead_edge = λ k i e l n b m h. w.ahead_edge k i e l (before k i n b) m h;
      ahead_link = λ k i j l n b m h. let r = w.ahead_link k i j l (before k i n b) m h in let z : j ≢ s.at = λ q. r.1 (sym q) in (omega (arith, r.0, count-off j z), z);
    })
      where
        before : (k i : ℕ) → (k ≢ s.at → bound_count (noted s) k ≤ i) → bound_count (noted s) k ≤ i + 1 → bound_count s.bounds k ≤ i
        before k i n b = elim (cases_eq k s.at) [ inl q ↦ omega (arith, b, count-at k q) | inr z ↦ omega (arith, n z, count-off k z) ]

    -- one bound less is to be noted
    pub note-falls : tour_left nodes (noted s) < tour_left nodes s.bounds
    note-falls = elim (cases_lt (tour_left nodes (noted s)) (tour_left nodes s.bounds)) [
      | inl b ↦ b
      | inr b ↦ absurd (omega (
        arith,
        sum_below-same (length nodes) (λ k. item_count nodes k - bound_count (noted s) k) (λ k. item_count nodes k - bound_count s.bounds k) (λ k l. omega (arith, count-more k)) b s.at p.here,
        count-at s.at refl,
        w.room,
      ))
    ]

  module _ (s : TourState) (n : HasNoted nodes s) where
    abbrev q : ArePartly nodes s
    q = n.partly

    -- a place that was given is another one
    abbrev nowhere : ℕ
    nowhere = absent

    module _ (i : ℕ) (c : i + 1 ≡ bound_count s.bounds s.at) (l : i + 1 < item_count nodes s.at) where
      same-item : (k h : ℕ) → k ≡ s.at → h + 1 ≡ bound_count s.bounds k → what_at nodes k (h + 1) ≡ what_at nodes s.at (i + 1)
      same-item k h e b = let v : h ≡ i = omega (arith, b, c, ap (bound_count s.bounds) e) in ap (λ z. what_at nodes z (h + 1)) e ∙ ap (λ z. what_at nodes s.at (z + 1)) v

      -- an edge is met
      module _ (e : ℕ) (h : what_at nodes s.at (i + 1) ≡ Real e) where
        is-ahead : place_of s.places e ≡ nowhere
        is-ahead = eqb-true (place_of s.places e) nowhere (n.ahead_edge s.at i e q.here (λ z. absurd (z refl)) (omega (arith, c)) l h)

        pub meet-in : e < length s.places
        meet-in = q.within s.at (i + 1) e q.here l h

        pub meet-below : s.met + 1 ≤ length s.places
        meet-below = omega (arith, q.left, ahead-less (length s.places) (λ x. false) (is_ahead s.places) e meet-in (eq-eqb (place_of s.places e) nowhere is-ahead) refl (λ x z. absurd (true≢false (sym z))))

        met-place : place_of (slice_set s.places e s.met) e ≡ s.met
        met-place = get_or-set_same s.places e s.met nowhere meet-in

        old-place : (f : ℕ) → f ≢ e → place_of (slice_set s.places e s.met) f ≡ place_of s.places f
        old-place f d = get_or-set_other s.places e f s.met nowhere d

        given : (f : ℕ) → place_of s.places f < nowhere → place_of (slice_set s.places e s.met) f ≡ place_of s.places f
        given f b = old-place f (λ d. omega (arith, b, is-ahead, ap (place_of s.places) d))

        pub meet-step : (next : TourState) → next ≡ record { at = s.at; met = s.met + 1; places = slice_set s.places e s.met; bounds = s.bounds } → IsTouring nodes next
        meet-step next is = subst (IsTouring nodes) (sym is) (record {
          partly = record {
            number = q.number;
            here = q.here;
            few = q.few;
            edges = λ k h f m b w. let r = q.edges k h f m b w in let same = given f (omega (arith, r.1, (q.range k (h + 1) b).1, meet-below, q.bounded)) in (omega (arith, r.0, same), omega (arith, r.1, same));
            links = q.links;
            range = λ k h b. let r = q.range k h b in (r.0, omega (arith, r.1));
            rise = q.rise;
            first = given 0 (omega (arith, q.first)) ∙ q.first;
            begun = omega arith;
            left = omega (arith, q.left, length-set s.places e s.met, fewer, ap (λ z. count z (is_ahead (slice_set s.places e s.met))) (length-set s.places e s.met));
            bounded = omega (arith, q.bounded, length-set s.places e s.met);
            within = λ k h f m b w. omega (arith, q.within k h f m b w, length-set s.places e s.met);
          };
          room = omega (arith, c, l);
          whole = λ k h j m b w. (n.whole k h j m b w).0;
          in_edge = λ k h f m b v w. elim (cases_eq k s.at) [
            | inl d ↦
                let f-is : f ≡ e = ap number_of (sym w ∙ same-item k h d b ∙ h-is) in
                let here : place_of (slice_set s.places e s.met) f ≡ s.met = ap (place_of (slice_set s.places e s.met)) f-is ∙ met-place in
                (omega (arith, here, (q.range k h (omega (arith, b))).1), omega (arith, here))
            | inr d ↦ let r = n.in_edge k h f m d b v w in let same = given f (omega (arith, r.1, meet-below, q.bounded)) in (omega (arith, r.0, same), omega (arith, r.1, same))
          ];
          in_link = λ k h j m b v w. elim (cases_eq k s.at) [
            | inl d ↦ absurd (not-both (what_at nodes k (h + 1)) e j (same-item k h d b ∙ h-is) w)
            | inr d ↦ (n.in_link k h j m d b v w, λ z. absurd (d (sym z)))
          ];
          ahead_edge = λ k h f m b v w.
              let old = n.ahead_edge k h f m (λ z. b) (omega (arith, b)) v w in
              let d : f ≢ e = λ z. let o = edge-once g nodes t few k (h + 1) s.at (i + 1) e v l (w ∙ ap Real z) h-is in omega (arith, b, c, o.1, ap (bound_count s.bounds) o.0) in
              ap (λ z. z == nowhere) (old-place f d) ∙ old;
          ahead_link = λ k h j m b v w. let r = n.ahead_link k h j m (λ z. b) (omega (arith, b)) v w in (r.0, λ z. r.1 (sym z));
        })
          where
            h-is : what_at nodes s.at (i + 1) ≡ Real e
            h-is = h

            fewer : count (length s.places) (is_ahead (slice_set s.places e s.met)) + 1 ≤ count (length s.places) (is_ahead s.places)
            fewer = ahead-less (length s.places) (is_ahead (slice_set s.places e s.met)) (is_ahead s.places) e meet-in (eq-eqb (place_of s.places e) nowhere is-ahead) gone still
              where
                gone : is_ahead (slice_set s.places e s.met) e ≡ false
                gone = ne_eqb (place_of (slice_set s.places e s.met) e) nowhere (λ z. omega (arith, z, met-place, meet-below, q.bounded))

                still : (x : ℕ) → is_ahead (slice_set s.places e s.met) x ≡ true → is_ahead s.places x ≡ true
                still x y = elim (cases_eq x e) [
                  | inl d ↦ absurd (both_ways (is_ahead (slice_set s.places e s.met) x) (ap (is_ahead (slice_set s.places e s.met)) d ∙ gone) y)
                  | inr d ↦ ap (λ z. z == nowhere) (sym (old-place x d)) ∙ y
                ]

      -- a link is gone down
      module _ (j : ℕ) (h : what_at nodes s.at (i + 1) ≡ Link j) where
        fresh : (bound_count s.bounds j ≡ 0) × (j ≢ s.at)
        fresh = n.ahead_link s.at i j q.here (λ z. absurd (z refl)) (omega (arith, c)) l h

        inside : j < length nodes
        inside = link-within g nodes t few s.at j (link-to g nodes t few s.at (i + 1) j l h)

        pub down-step : (next : TourState) → next ≡ record { at = j; met = s.met; places = s.places; bounds = s.bounds } → IsTouring nodes next
        down-step next is = subst (IsTouring nodes) (sym is) (record {
          partly = record { number = q.number; here = inside; few = q.few; edges = q.edges; links = q.links; range = q.range; rise = q.rise; first = q.first; begun = q.begun; left = q.left; bounded = q.bounded; within = q.within };
          room = omega (arith, fresh.0, first-in g nodes t few j inside);
          whole = λ k x y m b w. (n.whole k x y m b w).0;
          in_edge = λ k x f m b v w. elim (cases_eq k s.at) [
            | inl d ↦ absurd (not-both (what_at nodes k (x + 1)) f j w (same-item k x d b ∙ h))
            | inr d ↦ n.in_edge k x f m d b v w
          ];
          in_link = λ k x y m b v w. elim (cases_eq k s.at) [
            | inl d ↦ let y-is : y ≡ j = ap number_of (sym w ∙ same-item k x d b ∙ h) in
                (λ z. absurd (omega (arith, z, fresh.0, ap (bound_count s.bounds) y-is)), λ z. absurd (fresh.1 (z ∙ d)))
            | inr d ↦ (n.in_link k x y m d b v w, λ z. absurd (omega (arith, b, fresh.0, ap (bound_count s.bounds) z)))
          ];
          ahead_edge = λ k x f m b v w. n.ahead_edge k x f m (λ z. b) (omega (arith, b)) v w;
          ahead_link = λ k x y m b v w. ((n.ahead_link k x y m (λ z. b) (omega (arith, b)) v w).0, λ z. apart k x b v (w ∙ ap Link (sym z)));
        })
          where
            apart : (k x : ℕ) → bound_count s.bounds k ≤ x → x + 1 < item_count nodes k → what_at nodes k (x + 1) ≡ Link j → ⊥
            apart k x b v w =
                let e : k ≡ s.at = ap number_of (sym (child-up g nodes t few k x j v w) ∙ child-up g nodes t few s.at i j l h) in
                let o : x + 1 ≡ i + 1 = link-once g nodes t few s.at (x + 1) (i + 1) j (subst (λ z. x + 1 < item_count nodes z) e v) l (subst (λ z. what_at nodes z (x + 1) ≡ Link j) e w) h in
                omega (arith, b, c, o, ap (bound_count s.bounds) e)

    module _ (c : bound_count s.bounds s.at ≡ item_count nodes s.at) where
      not-in : (k x : ℕ) → x + 1 ≡ bound_count s.bounds k → x + 1 < item_count nodes k → k ≢ s.at
      not-in k x b v d = omega (arith, b, v, c, ap (bound_count s.bounds) d, ap (item_count nodes) d)

      -- the node is left
      module _ (p : ℕ) (h : what_at nodes s.at 0 ≡ Link p) where
        above : (i : ℕ) × (i + 1 < item_count nodes p) × (what_at nodes p (i + 1) ≡ Link s.at)
        above = parent-down g nodes t few s.at p q.here h

        inside-up : p < length nodes
        inside-up = link-within g nodes t few s.at p (link-to g nodes t few s.at 0 p (first-in g nodes t few s.at q.here) h)

        entered : above.0 + 1 ≡ bound_count s.bounds p
        entered = elim (cases_lt (above.0 + 1) (bound_count s.bounds p)) [
          | inl b ↦ absurd ((n.whole p above.0 s.at inside-up b above.2).1 refl)
          | inr b ↦ elim (cases_lt above.0 (bound_count s.bounds p)) [
            | inl d ↦ omega (arith, b, d)
            | inr d ↦ absurd ((n.ahead_link p above.0 s.at inside-up (λ z. d) (omega (arith, d)) above.1 above.2).1 refl)
          ]
        ]

        pub up-step : (next : TourState) → next ≡ record { at = p; met = s.met; places = s.places; bounds = s.bounds } → IsTouring nodes next
        up-step next is = subst (IsTouring nodes) (sym is) (record {
          partly = record { number = q.number; here = inside-up; few = q.few; edges = q.edges; links = q.links; range = q.range; rise = q.rise; first = q.first; begun = q.begun; left = q.left; bounded = q.bounded; within = q.within };
          room = omega (arith, entered, above.1);
          whole = λ k x y m b w. (n.whole k x y m b w).0;
          in_edge = λ k x f m b v w. n.in_edge k x f m (not-in k x b v) b v w;
          in_link = λ k x y m b v w. (n.in_link k x y m (not-in k x b v) b v w, λ z. whole-at k x y b w z);
          ahead_edge = λ k x f m b v w. n.ahead_edge k x f m (λ z. b) (omega (arith, b)) v w;
          ahead_link = λ k x y m b v w. let r = n.ahead_link k x y m (λ z. b) (omega (arith, b)) v w in (r.0, λ z. omega (arith, r.0, entered, ap (bound_count s.bounds) z));
        })
          where
            whole-at : (k x y : ℕ) → x + 1 ≡ bound_count s.bounds k → what_at nodes k (x + 1) ≡ Link y → p ≡ k → bound_count s.bounds y ≡ item_count nodes y
            whole-at k x y b w z =
                let x-is : x ≡ above.0 = omega (arith, b, entered, ap (bound_count s.bounds) z) in
                let y-is : y ≡ s.at = ap number_of (sym w ∙ ap (λ u. what_at nodes u (x + 1)) (sym z) ∙ ap (λ u. what_at nodes p (u + 1)) x-is ∙ above.2) in
                ap (bound_count s.bounds) y-is ∙ c ∙ ap (item_count nodes) (sym y-is)

      -- the walk is at its end
      module _ (e : ℕ) (h : what_at nodes s.at 0 ≡ Real e) where
        closed-by : (fuel k p : ℕ) → k < length nodes → what_at nodes k 0 ≡ Link p → count (length nodes) (is_beyond (components nodes) k p) < fuel → bound_count s.bounds k ≡ item_count nodes k
        closed-by zero k p l d b = absurd (omega (arith, b))
        closed-by (suc fuel) k p l d b =
            let a = parent-down g nodes t few k p l d in
            let m : LinksTo (components nodes) k p = link-to g nodes t few k 0 p (first-in g nodes t few k l) d in
            let r : p < length nodes = link-within g nodes t few k p m in
            let over : bound_count s.bounds p ≡ item_count nodes p = elim (what-cases (what_at nodes p 0)) [
              | inl f ↦ at-top p r f.0 f.1
              | inr f ↦
                  let o : LinksTo (components nodes) p f.0 = link-to g nodes t few p 0 f.0 (first-in g nodes t few p r) f.1 in
                  let other : f.0 ≢ k = λ z. omega (arith, link-once g nodes t few p 0 (a.0 + 1) k (first-in g nodes t few p r) a.1 (f.1 ∙ ap Link z) a.2) in
                  closed-by fuel p f.0 r f.1 (omega (arith, b, falls g nodes t few k p f.0 m o other))
            ] in
            (n.whole p a.0 k r (omega (arith, over, a.1)) a.2).0
          where
            at-top : (x : ℕ) → x < length nodes → (f : ℕ) → what_at nodes x 0 ≡ Real f → bound_count s.bounds x ≡ item_count nodes x
            at-top x l f d =
                let same : f ≡ e = first-edge g nodes t few x f l d ∙ sym (first-edge g nodes t few s.at e q.here h) in
                let o = edge-once g nodes t few x 0 s.at 0 e (first-in g nodes t few x l) (first-in g nodes t few s.at q.here) (d ∙ ap Real same) h in
                ap (bound_count s.bounds) o.0 ∙ c ∙ ap (item_count nodes) (sym o.0)

        closed : (k : ℕ) → k < length nodes → bound_count s.bounds k ≡ item_count nodes k
        closed k l = elim (what-cases (what_at nodes k 0)) [
          | inl f ↦
              let same : f.0 ≡ e = first-edge g nodes t few k f.0 l f.1 ∙ sym (first-edge g nodes t few s.at e q.here h) in
              let o = edge-once g nodes t few k 0 s.at 0 e (first-in g nodes t few k l) (first-in g nodes t few s.at q.here) (f.1 ∙ ap Real same) h in
              ap (bound_count s.bounds) o.0 ∙ c ∙ ap (item_count nodes) (sym o.0)
          | inr f ↦ closed-by (suc (count (length nodes) (is_beyond (components nodes) k f.0))) k f.0 l f.1 (omega arith)
        ]

        pub tour-done : AreToured nodes s.places s.bounds
        tour-done = record {
          number = q.number;
          each = closed;
          rise = q.rise;
          within = q.within;
          first = λ k f l d. omega (arith, q.first, ap (place_of s.places) (first-edge g nodes t few k f l d), (q.range k 0 (omega (arith, closed k l, first-in g nodes t few k l))).0);
          edges = λ k i f l b d. q.edges k i f l (omega (arith, closed k l, b)) d;
          links = λ k i j l b d. q.links k i j l (omega (arith, closed k l, b)) d;
        }

  -- the walk begins
  pub tour-begins : (root : ℕ) (s : TourState) → HasBegun nodes (edge_count g) root s → root < length nodes → what_at nodes root 0 ≡ Real 0 → edge_count g < 4294967296
      → ((k i e : ℕ) → k < length nodes → i < item_count nodes k → what_at nodes k i ≡ Real e → e < edge_count g) → IsTouring nodes s
  tour-begins root s b l h small within = record {
    partly = record {
      number = b.number;
      here = subst (λ z. z < length nodes) (sym b.here) l;
      few = λ k m. omega (arith, b.empty k);
      edges = λ k i e m x w. absurd (omega (arith, b.empty k, x));
      links = λ k i j m x w. absurd (omega (arith, b.empty k, x));
      range = λ k i x. absurd (omega (arith, b.empty k, x));
      rise = λ k i x. absurd (omega (arith, b.empty k, x));
      first = b.first;
      begun = omega (arith, b.met);
      left = omega (arith, b.met, ahead-less (length s.places) (is_ahead s.places) (λ x. true) 0 (omega (arith, b.size, few)) refl (ne_eqb (place_of s.places 0) absent (λ z. omega (arith, z, b.first))) (λ x z. refl), count-within (length s.places) (λ x. true));
      bounded = omega (arith, b.size, small);
      within = λ k i e m x w. omega (arith, b.size, within k i e m x w);
    };
    room = omega (arith, b.empty s.at, first-in g nodes t few s.at (subst (λ z. z < length nodes) (sym b.here) l));
    whole = λ k i j m x w. absurd (omega (arith, b.empty k, x));
    in_edge = λ k i e m x y w. absurd (omega (arith, b.empty k, x));
    in_link = λ k i j m x y w. absurd (omega (arith, b.empty k, x));
    ahead_edge = λ k i e m x y w. b.ahead e (λ z. omega (arith, (edge-once g nodes t few k (i + 1) root 0 0 y (first-in g nodes t few root l) (w ∙ ap Real z) h).1));
    ahead_link = λ k i j m x y w. (b.empty j, λ z. not-both (what_at nodes root 0) 0 k h (subst (λ u. what_at nodes u 0 ≡ Link k) (sym z ∙ b.here) (child-up g nodes t few k i j y w)));
  }

  -- the same as the code has it: the state in between, the items of the node, and the place of the next one
  module _ (s mid : TourState) (w : IsTouring nodes s) (m : mid ≡ record { at = s.at; met = s.met; places = s.places; bounds = noted s }) (items : List Item) (i : items ≡ (node_at nodes mid.at).items) where
    after : HasNoted nodes mid
    after = note-step s w mid m

    pub code-falls : (bounds : List (List ℕ)) → bounds ≡ mid.bounds → tour_left nodes bounds < tour_left nodes s.bounds
    code-falls bounds e = subst (λ (z : List (List ℕ)). tour_left nodes z < tour_left nodes s.bounds) (sym (e ∙ ap (λ (z : TourState). z.bounds) m)) (note-falls s w)

    module _ (next : ℕ) (n : next ≡ bound_count mid.bounds mid.at) where
      -- the item before is entered now
      before : (next - 1) + 1 ≡ bound_count mid.bounds mid.at
      before = omega (arith, n, after.some)

      at-next : (h : ℕ) → h + 1 ≡ bound_count mid.bounds mid.at → (what : What) → (nth_item items next).what ≡ what → what_at nodes mid.at (h + 1) ≡ what
      at-next h b what e = let v : h + 1 ≡ next = omega (arith, b, n) in ap (what_at nodes mid.at) v ∙ ap (λ (z : List Item). (nth_item z next).what) (sym i) ∙ e

      inside-next : next < length items → (next - 1) + 1 < item_count nodes mid.at
      inside-next l = omega (arith, before, n, l, ap (λ (z : List Item). length z) i)

      module _ (l : next < length items) (e : ℕ) (h : (nth_item items next).what ≡ Real e) where
        pub code-meets : (mid.met < absent) × (e < length mid.places)
        code-meets =
            let x = at-next (next - 1) before (Real e) h in
            (omega (arith, meet-below mid after (next - 1) before (inside-next l) e x, after.partly.bounded), meet-in mid after (next - 1) before (inside-next l) e x)

        pub code-meet : (new : TourState) → new ≡ record { at = mid.at; met = mid.met + 1; places = slice_set mid.places e mid.met; bounds = mid.bounds } → IsTouring nodes new
        code-meet = meet-step mid after (next - 1) before (inside-next l) e (at-next (next - 1) before (Real e) h)

      pub code-down : next < length items → (j : ℕ) → (nth_item items next).what ≡ Link j → (new : TourState) → new ≡ record { at = j; met = mid.met; places = mid.places; bounds = mid.bounds } → IsTouring nodes new
      code-down l j h = down-step mid after (next - 1) before (inside-next l) j (at-next (next - 1) before (Link j) h)

      over : length items ≤ next → bound_count mid.bounds mid.at ≡ item_count nodes mid.at
      over l = omega (arith, l, n, ap (λ (z : List Item). length z) i, after.partly.few mid.at after.partly.here)

      at-first : (what : What) → (nth_item items 0).what ≡ what → what_at nodes mid.at 0 ≡ what
      at-first what e = ap (λ (z : List Item). (nth_item z 0).what) (sym i) ∙ e

      pub code-up : length items ≤ next → (p : ℕ) → (nth_item items 0).what ≡ Link p → (new : TourState) → new ≡ record { at = p; met = mid.met; places = mid.places; bounds = mid.bounds } → IsTouring nodes new
      code-up l p h = up-step mid after (over l) p (at-first (Link p) h)

      pub code-done : length items ≤ next → (e : ℕ) → (nth_item items 0).what ≡ Real e → AreToured nodes mid.places mid.bounds
      code-done l e h = tour-done mid after (over l) e (at-first (Real e) h)
