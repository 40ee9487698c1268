-- The walk along the palm tree: vertices are finished in falling order of their numbers.
use Rattle.std.proofs.Common.{◌≡◌, ◌≢◌, ℕ, ◌+◌, ◌-◌, ◌<◌, ◌≤◌, ◌⊎◌, inl, inr, true, false, not, ◌==◌, List, [], ◌∷◌, length, filter, refl, sym, ap, ◌∙◌, subst, arith, Contains}
use Rattle.std.proofs.lemmas.Bool.{cases_Bool, cases_lt, cases_eq, both_ways, false_from_ne_true, eq-eqb, eqb-true, not-true, not_from_false, ne_eqb}
use Rattle.pair_split.specs.Family.{Entry, has_end, touches, names, IsFamily}
use Rattle.pair_split.proofs.Elements.{contains-here, contains-later, contains-cases, contains-filter, filter-contains}
use Rattle.pair_split.proofs.Names.{same-name, one-name, member-name}
use Rattle.permutations.specs.Members.{is_member}
use Rattle.std.proofs.lemmas.List.Elements.{All-contains}
use Rattle.pair_split.proofs.Sides.{touching-entry, touches-from, length-sides, one-from_entry}
use Rattle.pair_split.proofs.SameEntries.{IsWithin}
use Rattle.pair_split.proofs.Replaced.{end-cases, first-end, second-end}
use Rattle.pair_split.proofs.SplitOff.{kept-family, family-cons}
use Rattle.split_comp.specs.declared.items.Dart.{Dart}
use Rattle.split_comp.specs.Palm.{IsPalm, dart_entry}
use Rattle.split_comp.specs.Walk.{IsOnPath, IsWalk, AreLeft, IsOneMore}

-- the two ends of a dart
dart-first : (u : ℕ) (d : Dart) → ((d.tree ≡ true) × ((dart_entry u d).first ≡ u) × ((dart_entry u d).second ≡ d.far)) ⊎ ((d.tree ≡ false) × ((dart_entry u d).first ≡ d.far) × ((dart_entry u d).second ≡ u))
dart-first u d = elim (cases_Bool d.tree) [ inl e ↦ inl (e, rw e refl, rw e refl) | inr e ↦ inr (e, rw e refl, rw e refl) ]

module _ (n m : ℕ) (parent degree : ℕ → ℕ) (dart : ℕ → ℕ → Dart) (palm : IsPalm n m parent degree dart) where
  abbrev last : ℕ → ℕ
  last = palm.last

  -- what is on the path to a vertex is in range
  on-path-in : (v x : ℕ) → v < n → IsOnPath last v x → x < n
  on-path-in v x l p = omega (arith, l, p.0)

  -- siblings are apart
  siblings : (u i j z : ℕ) → u < n → i < degree u → j < degree u → (dart u i).tree ≡ true → (dart u j).tree ≡ true → (dart u i).far ≤ z → z < last (dart u i).far → (dart u j).far ≤ z → z < last (dart u j).far → (dart u i).far ≡ (dart u j).far
  siblings u i j z l a b t s c d e f = elim (cases_lt (dart u i).far (dart u j).far) [
    | inl k ↦ absurd (below i j a b t s k (omega (arith, e, d)))
    | inr k ↦ elim (cases_eq (dart u i).far (dart u j).far) [
      | inl q ↦ q
      | inr q ↦ absurd (below j i b a s t (omega (arith, k, q)) (omega (arith, c, f)))
    ]
  ]
    where
      -- a sibling is not below another one
      below : (i j : ℕ) → i < degree u → j < degree u → (dart u i).tree ≡ true → (dart u j).tree ≡ true → (dart u i).far < (dart u j).far → (dart u j).far < last (dart u i).far → ⊥
      below i j a b t s k q =
          let f = palm.tree_far u j l b s in
          let w = palm.ancestors (dart u j).far (dart u i).far f.0 k q in
          omega (arith, w.0, f.3, (palm.tree_far u i l a t).1)

  pub walk-start : (gone : ℕ → ℕ) → ((u : ℕ) → gone u ≡ 0) → IsWalk n last parent degree dart 0 n gone
  walk-start gone h = record {
    current = omega (arith, palm.two);
    within = omega arith;
    spans = λ x p. same x p.0;
    gone_within = λ u l. omega (arith, h u);
    tree_gone = λ u k l a t g. absurd (omega (arith, g, h u));
    tree_left = λ u k l a t g. (palm.tree_far u k l a t).0;
    finished = λ u l d. absurd (omega (arith, l, d));
    fresh = λ u l p. h u;
    under_way = λ x z p. absurd (z (omega (arith, p.0)));
  }
    where
      same : (x : ℕ) → x ≤ 0 → n ≤ last x
      same x l = let e : 0 ≡ x = omega (arith, l) in subst (λ (y : ℕ). n ≤ last y) e (omega (arith, palm.root))

  module _ (v done : ℕ) (gone : ℕ → ℕ) (walk : IsWalk n last parent degree dart v done gone) where
    v-in : v < n
    v-in = omega (arith, walk.current, walk.within)

    pub walk-frond : (more : ℕ → ℕ) → IsOneMore v gone more → gone v < degree v → (dart v (gone v)).tree ≡ false → IsWalk n last parent degree dart v done more
    walk-frond more h a f = record {
      current = walk.current;
      within = walk.within;
      spans = walk.spans;
      gone_within = λ u l. elim (cases_eq u v) [ inl e ↦ omega (arith, ap more e, ap degree e, h.0, a) | inr e ↦ omega (arith, h.1 u e, walk.gone_within u l) ];
      tree_gone = λ u k l b t g. elim (cases_eq u v) [
        | inr e ↦ walk.tree_gone u k l b t (omega (arith, g, h.1 u e))
        | inl e ↦ elim (cases_eq k (gone v)) [
          | inl q ↦ absurd (both_ways (dart u k).tree (subst (λ (z : ℕ × ℕ). (dart z.0 z.1).tree ≡ false) (λ i. (sym e i, sym q i)) f) t)
          | inr q ↦ walk.tree_gone u k l b t (omega (arith, g, q, ap more e, ap gone e, h.0))
        ]
      ];
      tree_left = λ u k l b t g. elim (cases_eq u v) [
        | inr e ↦ walk.tree_left u k l b t (omega (arith, g, h.1 u e))
        | inl e ↦ walk.tree_left u k l b t (omega (arith, g, ap more e, ap gone e, h.0))
      ];
      finished = λ u l d. elim (cases_eq u v) [ inl e ↦ absurd (omega (arith, e, d, walk.current)) | inr e ↦ h.1 u e ∙ walk.finished u l d ];
      fresh = λ u l p. elim (cases_eq u v) [ inl e ↦ absurd (p (subst (IsOnPath last v) (sym e) (omega arith, palm.above v))) | inr e ↦ h.1 u e ∙ walk.fresh u l p ];
      under_way = λ x z p. elim (cases_eq (parent x) v) [
        | inl e ↦ absurd (omega (arith, e, p.0, (palm.parent_less x (on-path-in v x v-in p) z).0))
        | inr e ↦ let w = walk.under_way x z p in (omega (arith, w.0, h.1 (parent x) e), subst (λ (k : ℕ). (dart (parent x) k).tree ≡ true) (sym (h.1 (parent x) e)) w.1, subst (λ (k : ℕ). (dart (parent x) k).far ≡ x) (sym (h.1 (parent x) e)) w.2)
      ];
    }

    -- the search goes down
    pub walk-down : gone v < degree v → (dart v (gone v)).tree ≡ true → IsWalk n last parent degree dart (dart v (gone v)).far done gone
    walk-down a t = record {
      current = walk.tree_left v (gone v) v-in a t (omega arith);
      within = walk.within;
      spans = λ x p. elim (cases_lt v x) [
        | inr k ↦ walk.spans x (k, omega (arith, far.1, p.1))
        | inl k ↦ elim (cases_eq x (dart v (gone v)).far) [
          | inl e ↦ subst (λ (y : ℕ). done ≤ last y) (sym e) down
          | inr e ↦ absurd (omega (arith, k, (palm.ancestors (dart v (gone v)).far x far.0 (omega (arith, p.0, e)) p.1).0, far.3))
        ]
      ];
      gone_within = walk.gone_within;
      tree_gone = walk.tree_gone;
      tree_left = walk.tree_left;
      finished = walk.finished;
      fresh = λ u l p. walk.fresh u l (λ q. p (omega (arith, q.0, far.1), down-path u q));
      under_way = λ x z p. elim (cases_eq x (dart v (gone v)).far) [
        | inl e ↦ subst (λ (y : ℕ). (gone (parent y) < degree (parent y)) × ((dart (parent y) (gone (parent y))).tree ≡ true) × ((dart (parent y) (gone (parent y))).far ≡ y)) (sym e)
            (subst (λ (y : ℕ). (gone y < degree y) × ((dart y (gone y)).tree ≡ true) × ((dart y (gone y)).far ≡ (dart v (gone v)).far)) (sym far.3) (a, t, refl))
        | inr e ↦ let q = palm.ancestors (dart v (gone v)).far x far.0 (omega (arith, p.0, e)) p.1 in walk.under_way x z (omega (arith, q.0, far.3), subst (λ (y : ℕ). y < last x) far.3 q.1)
      ];
    }
      where
        far : ((dart v (gone v)).far < n) × (v < (dart v (gone v)).far) × ((dart v (gone v)).far < last v) × (parent (dart v (gone v)).far ≡ v)
        far = palm.tree_far v (gone v) v-in a t

        down-path : (u : ℕ) → IsOnPath last v u → (dart v (gone v)).far < last u
        down-path u q = omega (arith, far.2, palm.nested u v q.0 q.1)

        -- all behind what is below the child are finished
        down : done ≤ last (dart v (gone v)).far
        down = elim (cases_lt (last (dart v (gone v)).far) done) [
          | inr k ↦ k
          | inl k ↦
              let z : ℕ = done - 1 in
              let c = palm.child v (done - 1) v-in (omega (arith, k, palm.above (dart v (gone v)).far, far.1)) (omega (arith, k, walk.spans v (omega arith, palm.above v))) in
              absurd (elim (cases_lt c.0 (gone v)) [
                | inl i ↦ omega (arith, walk.tree_gone v c.0 v-in c.1 c.2 i, c.3, k)
                | inr i ↦ elim (cases_eq c.0 (gone v)) [
                  | inl e ↦ omega (arith, c.4, k, ap (λ (y : ℕ). last (dart v y).far) e)
                  | inr e ↦ later c.0 c.1 c.2 (omega (arith, i, e)) c.4 k
                ]
              ])
        ]
          where
            later : (j : ℕ) → j < degree v → (dart v j).tree ≡ true → gone v < j → done - 1 < last (dart v j).far → last (dart v (gone v)).far < done → ⊥
            later j b s i e k =
                let less = palm.later v (gone v) j v-in i b t s in
                elim (cases_lt (dart v (gone v)).far (last (dart v j).far)) [
                  | inr q ↦ omega (arith, q, e, k, palm.above (dart v (gone v)).far)
                  | inl q ↦ omega (arith, less, siblings v j (gone v) (dart v (gone v)).far v-in b a s t (omega (arith, less)) q (omega arith) (palm.above (dart v (gone v)).far))
                ]

    -- the search returns from v to its parent
    pub walk-return : (more : ℕ → ℕ) → v ≢ 0 → gone v ≡ degree v → IsOneMore (parent v) gone more → (done ≡ v + 1) × IsWalk n last parent degree dart (parent v) v more
    walk-return more z all h = (
      next,
      record {
        current = less.0;
        within = omega (arith, v-in);
        spans = λ x p. omega (arith, (up x p).1);
        gone_within = λ u l. elim (cases_eq u (parent v)) [ inl e ↦ omega (arith, ap more e, ap degree e, h.0, way.0) | inr e ↦ omega (arith, h.1 u e, walk.gone_within u l) ];
        tree_gone = λ u k l b t g. elim (cases_eq u (parent v)) [
          | inr e ↦ omega (arith, next, walk.tree_gone u k l b t (omega (arith, g, h.1 u e)))
          | inl e ↦ elim (cases_eq k (gone (parent v))) [
            | inl q ↦ omega (arith, way.2, ap (λ (y : ℕ). (dart u y).far) q, ap (λ (y : ℕ). (dart y (gone (parent v))).far) e)
            | inr q ↦ omega (arith, next, walk.tree_gone u k l b t (omega (arith, g, q, ap more e, ap gone e, h.0)))
          ]
        ];
        tree_left = λ u k l b t g. elim (cases_eq (dart u k).far v) [
          | inr e ↦ omega (arith, e, next, walk.tree_left u k l b t (elim (cases_eq u (parent v)) [ inl q ↦ omega (arith, g, ap more q, ap gone q, h.0) | inr q ↦ omega (arith, g, h.1 u q) ]))
          | inl e ↦
              let pu : u ≡ parent v = sym (palm.tree_far u k l b t).3 ∙ ap parent e in
              let kk : k ≡ gone (parent v) = palm.tree_once u k (gone (parent v)) l b (omega (arith, way.0, ap degree pu)) t (subst (λ (y : ℕ). (dart y (gone (parent v))).tree ≡ true) (sym pu) way.1) (e ∙ sym (ap (λ (y : ℕ). (dart y (gone (parent v))).far) pu ∙ way.2)) in
              absurd (omega (arith, g, kk, ap more pu, h.0))
        ];
        finished = λ u l d. elim (cases_eq u v) [
          | inl e ↦ ap more e ∙ (h.1 v (λ q. omega (arith, q, less.0)) ∙ (all ∙ ap degree (sym e)))
          | inr e ↦ h.1 u (λ q. omega (arith, q, d, less.0)) ∙ walk.finished u l (omega (arith, d, e, next))
        ];
        fresh = λ u l p. elim (cases_eq u (parent v)) [
          | inl e ↦ absurd (p (subst (IsOnPath last (parent v)) (sym e) (omega arith, palm.above (parent v))))
          | inr e ↦ h.1 u e ∙ walk.fresh u (omega (arith, l, walk.current)) (λ q. p (let w = palm.ancestors v u v-in l q.1 in (w.0, w.1)))
        ];
        under_way = λ x y p.
            let q = up x p in
            let w = walk.under_way x y (omega (arith, p.0, less.0), q.0) in
            let e : parent x ≢ parent v = λ k. omega (arith, k, p.0, (palm.parent_less x (omega (arith, p.0, less.0, v-in)) y).0) in
            (omega (arith, w.0, h.1 (parent x) e), subst (λ (k : ℕ). (dart (parent x) k).tree ≡ true) (sym (h.1 (parent x) e)) w.1, subst (λ (k : ℕ). (dart (parent x) k).far ≡ x) (sym (h.1 (parent x) e)) w.2);
      },
    )
      where
        less : (parent v < v) × (v < last (parent v))
        less = palm.parent_less v v-in z

        way : (gone (parent v) < degree (parent v)) × ((dart (parent v) (gone (parent v))).tree ≡ true) × ((dart (parent v) (gone (parent v))).far ≡ v)
        way = walk.under_way v z (omega arith, palm.above v)

        -- a vertex on the path to the parent is on the path to v
        up : (x : ℕ) → IsOnPath last (parent v) x → (v < last x) × (v ≤ last x)
        up x p = let w = palm.nested x (parent v) p.0 p.1 in (omega (arith, w, less.1), omega (arith, w, less.1))

        next : done ≡ v + 1
        next = elim (cases_lt (v + 1) done) [
          | inr k ↦ omega (arith, k, walk.current)
          | inl k ↦
              let c = palm.child v (done - 1) v-in (omega (arith, k)) (omega (arith, k, walk.spans v (omega arith, palm.above v))) in
              absurd (omega (arith, walk.tree_gone v c.0 v-in c.1 c.2 (omega (arith, c.1, all)), c.3, k))
        ]

    -- the child of a vertex of the path on the path
    pub next-on-path : (z : ℕ) → z < v → IsOnPath last v z → (x : ℕ) × (x ≢ 0) × IsOnPath last v x × (parent x ≡ z)
    next-on-path z l p =
        let c = palm.child z v (omega (arith, l, v-in)) l p.1 in
        let f = palm.tree_far z c.0 (omega (arith, l, v-in)) c.1 c.2 in
        ((dart z c.0).far, omega (arith, f.1), (c.3, c.4), f.3)

    module _ (rest : List Entry) (left : AreLeft n degree dart gone rest) where
      -- what is left touches no finished vertex
      pub left-free : (z : ℕ) → done ≤ z → touches rest z ≡ false
      left-free z d = false_from_ne_true (touches rest z) (λ t. let e = touching-entry rest z t in let w = left.only e.0 e.1 in
          at w.0 w.1 w.2 w.3 w.4 (end-cases z (dart_entry w.0 (dart w.0 w.1)) (subst (λ (y : Entry). has_end z y ≡ true) w.5 e.2)) (dart-first w.0 (dart w.0 w.1)))
        where
          at : (u k : ℕ) → u < n → gone u ≤ k → k < degree u → (z ≡ (dart_entry u (dart u k)).first) ⊎ (z ≡ (dart_entry u (dart u k)).second)
              → (((dart u k).tree ≡ true) × ((dart_entry u (dart u k)).first ≡ u) × ((dart_entry u (dart u k)).second ≡ (dart u k).far)) ⊎ (((dart u k).tree ≡ false) × ((dart_entry u (dart u k)).first ≡ (dart u k).far) × ((dart_entry u (dart u k)).second ≡ u)) → ⊥
          at u k l g m e s =
              let u-less : u < done = elim (cases_lt u done) [ inl i ↦ i | inr i ↦ absurd (omega (arith, walk.finished u l i, g, m)) ] in
              elim s [
                | inl i ↦ elim e [ inl q ↦ omega (arith, q, i.1, u-less, d) | inr q ↦ omega (arith, q, i.2, d, walk.tree_left u k l m i.0 g) ]
                | inr i ↦ elim e [ inl q ↦ omega (arith, q, i.1, u-less, d, (palm.frond_far u k l m i.0).0) | inr q ↦ omega (arith, q, i.2, u-less, d) ]
              ]

      -- a tree dart that is left touches its two ends
      left-tree : (u k : ℕ) → u < n → gone u ≤ k → k < degree u → (dart u k).tree ≡ true → (touches rest u ≡ true) × (touches rest (dart u k).far ≡ true)
      left-tree u k l g b t = elim (dart-first u (dart u k)) [
        | inr i ↦ absurd (both_ways (dart u k).tree i.0 t)
        | inl i ↦ (
          touches-from rest u (dart_entry u (dart u k)) (left.left u k l g b) (first-end u (dart_entry u (dart u k)) (sym i.1)),
          touches-from rest (dart u k).far (dart_entry u (dart u k)) (left.left u k l g b) (second-end (dart u k).far (dart_entry u (dart u k)) (sym i.2)),
        )
      ]

      pub left-on_path : gone 0 < degree 0 → (z : ℕ) → IsOnPath last v z → touches rest z ≡ true
      left-on_path g z p = elim (cases_lt z v) [
        | inl l ↦
            let x = next-on-path z l p in
            let w = walk.under_way x.0 x.1 x.2 in
            subst (λ (y : ℕ). touches rest y ≡ true) x.3 (left-tree (parent x.0) (gone (parent x.0)) (subst (λ (y : ℕ). y < n) (sym x.3) (omega (arith, l, v-in))) (omega arith) w.0 w.1).0
        | inr l ↦ let e : z ≡ v = omega (arith, l, p.0) in elim (cases_eq v 0) [
          | inr k ↦
              let w = walk.under_way v k (omega arith, palm.above v) in
              let u-in : parent v < n = omega (arith, v-in, (palm.parent_less v v-in k).0) in
              subst (λ (y : ℕ). touches rest y ≡ true) (w.2 ∙ sym e) (left-tree (parent v) (gone (parent v)) u-in (omega arith) w.0 w.1).1
          | inl k ↦
              let c = palm.child 0 1 (omega (arith, palm.two)) (omega arith) (omega (arith, palm.two, palm.root)) in
              subst (λ (y : ℕ). touches rest y ≡ true) (sym (e ∙ k)) (left-tree 0 c.0 (omega (arith, palm.two)) (omega (arith, g, palm.root_dart, c.1)) c.1 c.2).0
        ]
      ]

      -- at the end nothing is left
      pub walk-over : v ≡ 0 → gone 0 ≡ degree 0 → (done ≡ 1) × (rest ≡ [])
      walk-over z all = (one, none rest left.only)
        where
          one : done ≡ 1
          one = elim (cases_lt 1 done) [
            | inr k ↦ omega (arith, k, walk.current, z)
            | inl k ↦
                let c = palm.child 0 (done - 1) (omega (arith, palm.two)) (omega (arith, k)) (omega (arith, k, walk.within, palm.root)) in
                absurd (omega (arith, walk.tree_gone 0 c.0 (omega (arith, palm.two)) c.1 c.2 (omega (arith, c.1, all)), c.3, k))
          ]

          none : (l : List Entry) → ((x : Entry) → Contains l x → (u k : ℕ) × (u < n) × (gone u ≤ k) × (k < degree u) × (x ≡ dart_entry u (dart u k))) → l ≡ []
          none [] h = refl
          none (x ∷ l) h =
              let w = h x (contains-here x l) in
              absurd (elim (cases_eq w.0 0) [
                | inl e ↦ omega (arith, w.3, w.4, ap gone e, ap degree e, all)
                | inr e ↦ omega (arith, w.3, w.4, walk.finished w.0 w.2 (omega (arith, one, e)))
              ])

  module _ (v : ℕ) (gone more : ℕ → ℕ) (rest : List Entry) (l : v < n) (a : gone v < degree v) (h : IsOneMore v gone more) (left : AreLeft n degree dart gone rest) (f : IsFamily rest) where
    abbrev x : Entry
    x = dart_entry v (dart v (gone v))

    -- the others
    abbrev fewer : List Entry
    fewer = filter (λ (e : Entry). not (e.name == x.name)) rest

    here : Contains rest x
    here = left.left v (gone v) l (omega arith) a

    -- an entry with the same name is the same
    named : (e : Entry) → Contains rest e → e.name ≡ x.name → e ≡ x
    named e c q = same-name rest f.names_once e x c here q

    kept-left : AreLeft n degree dart more fewer
    kept-left = record {
      left = λ u k b g d. contains-filter (λ (e : Entry). not (e.name == x.name)) (dart_entry u (dart u k)) rest (left.left u k b (omega (arith, g, rises u)) d)
          (not_from_false ((dart u k).edge == x.name) (ne_eqb (dart u k).edge x.name (λ q. other u k b g d (palm.dart_once u k v (gone v) b d l a q))));
      only = λ e c.
          let d = filter-contains (λ (e : Entry). not (e.name == x.name)) e rest c in
          let w = left.only e d.0 in
          (w.0, w.1, w.2, behind e w.0 w.1 w.3 w.5 (not-true (e.name == x.name) d.1), w.4, w.5);
    }
      where
        rises : (u : ℕ) → gone u ≤ more u
        rises u = elim (cases_eq u v) [ inl e ↦ omega (arith, ap gone e, ap more e, h.0) | inr e ↦ omega (arith, h.1 u e) ]

        other : (u k : ℕ) → u < n → more u ≤ k → k < degree u → (u ≡ v) × (k ≡ gone v) → ⊥
        other u k b g d q = omega (arith, g, q.1, ap more q.0, h.0)

        behind : (e : Entry) (u k : ℕ) → gone u ≤ k → e ≡ dart_entry u (dart u k) → (e.name == x.name) ≡ false → more u ≤ k
        behind e u k g q m = elim (cases_eq u v) [
          | inr i ↦ omega (arith, g, h.1 u i)
          | inl i ↦ elim (cases_eq k (gone v)) [
            | inr o ↦ omega (arith, g, o, ap gone i, ap more i, h.0)
            | inl o ↦ absurd (both_ways (e.name == x.name) m (eq-eqb e.name x.name (ap (λ (y : Entry). y.name) q ∙ (λ t. (dart (i t) (o t)).edge))))
          ]
        ]

    into : IsWithin rest (x ∷ fewer)
    into e c = elim (cases_Bool (e.name == x.name)) [
      | inl t ↦ subst (λ (y : Entry). Contains (x ∷ fewer) y) (sym (named e c (eqb-true e.name x.name t))) (contains-here x fewer)
      | inr t ↦ contains-later e x fewer (contains-filter (λ (y : Entry). not (y.name == x.name)) e rest c (not_from_false (e.name == x.name) t))
    ]

    back : IsWithin (x ∷ fewer) rest
    back e c = elim (contains-cases e x fewer c) [ inl q ↦ subst (λ (y : Entry). Contains rest y) q here | inr d ↦ (filter-contains (λ (y : Entry). not (y.name == x.name)) e rest d).0 ]

    size : length rest ≡ length fewer + 1
    size = omega (arith, length-sides rest (λ k. k == x.name), one-name rest x.name f.names_once, one-from_entry rest (λ k. k == x.name) (record { entry = x; within = here; side = eq-eqb x.name x.name refl }))

    fewer-family : IsFamily (x ∷ fewer)
    fewer-family = family-cons x fewer (All-contains (λ (e : Entry). e.first ≢ e.second) rest x f.no_loops here)
        (false_from_ne_true (is_member x.name (names fewer)) (λ m.
        let w = member-name fewer x.name m in
        let d = filter-contains (λ (y : Entry). not (y.name == x.name)) w.0 rest w.1 in
        both_ways (w.0.name == x.name) (not-true (w.0.name == x.name) d.1) (eq-eqb w.0.name x.name w.2)))
        (kept-family (λ (e : Entry). not (e.name == x.name)) rest f)

    -- one less is left
    pub left-more : (fewer : List Entry) × AreLeft n degree dart more fewer × IsWithin rest (dart_entry v (dart v (gone v)) ∷ fewer) × IsWithin (dart_entry v (dart v (gone v)) ∷ fewer) rest × (length rest ≡ length fewer + 1) × IsFamily (dart_entry v (dart v (gone v)) ∷ fewer)
    left-more = (fewer, kept-left, into, back, size, fewer-family)
