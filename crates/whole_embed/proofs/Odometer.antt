-- The order by blocks, then by cut vertices, and the member that follows: the last place that can advance does so, and all later places
-- return to their first values.
use Rattle.std.proofs.Common.{◌≡◌, ℕ, ◌<◌, ◌⊎◌, inl, inr, true, List, [], ◌∷◌, sym, subst, ◌∙◌, arith, true≢false}
use Rattle.std.proofs.lemmas.Bool.{cases_lt, cases_order, both_ways}
use Rattle.permutations.specs.Members.{is_member}
use Rattle.permutations.proofs.Members.{member-head, member-tail, member-cases}
use Rattle.pair_split.specs.Tutte.{Node}
use Rattle.choice_lists.specs.Order.{is_before}
use Rattle.choice_lists.proofs.Orders.{linear-before}
use Rattle.skeletons.specs.Choices.{Precedes}
use Rattle.skeletons.proofs.Before.{not-both, before-irreflexive}
use Rattle.whole_embed.specs.Component.{Component, BlockInPlane}
use Rattle.whole_embed.specs.Around.{outer_at}
use Rattle.whole_embed.specs.Whole.{block_part, PrecedesInBlock, PrecedesAtCut, WholePrecedes}
use Rattle.whole_embed.proofs.Followers.{Succeeds, IsEnd}

-- of each member one thing or the other is true: the first of all of them, or the second of some member, and the first of all
-- members below it
pub record LeastOther (l : List ℕ) (E B : ℕ → Type 0) : Type 0 where
  pub here : ℕ
  pub among : is_member here l ≡ true
  pub other : B here
  pub below : (y : ℕ) → is_member y l ≡ true → y < here → E y

pub least-other : (l : List ℕ) (E B : ℕ → Type 0) → ((x : ℕ) → is_member x l ≡ true → E x ⊎ B x) → ((x : ℕ) → is_member x l ≡ true → E x) ⊎ LeastOther l E B
least-other [] E B h = inl (λ x m. absurd (true≢false (sym m)))
least-other (x ∷ l) E B h = elim (least-other l E B (λ y m. h y (member-tail y x l m))) [
  | inl all ↦ elim (h x (member-head x l)) [
    | inl e ↦ inl (λ y m. elim (member-cases y x l m) [
      | inl q ↦ subst E q e
      | inr k ↦ all y k
    ])
    | inr b ↦ inr (record {
      here = x;
      among = member-head x l;
      other = b;
      below = λ y m k. elim (member-cases y x l m) [
        | inl q ↦ absurd (omega (arith, q, k))
        | inr n ↦ all y n
      ];
    })
  ]
  | inr w ↦ elim (cases_lt x w.here) [
    | inr k ↦ inr (record {
      here = w.here;
      among = member-tail w.here x l w.among;
      other = w.other;
      below = λ y m u. elim (member-cases y x l m) [
        | inl q ↦ absurd (omega (arith, q, k, u))
        | inr n ↦ w.below y n u
      ];
    })
    | inl k ↦ elim (h x (member-head x l)) [
      | inr b ↦ inr (record {
        here = x;
        among = member-head x l;
        other = b;
        below = λ y m u. elim (member-cases y x l m) [
          | inl q ↦ absurd (omega (arith, q, u))
          | inr n ↦ w.below y n (omega (arith, u, k))
        ];
      })
      | inl e ↦ inr (record {
        here = w.here;
        among = member-tail w.here x l w.among;
        other = w.other;
        below = λ y m u. elim (member-cases y x l m) [
          | inl q ↦ subst E q e
          | inr n ↦ w.below y n u
        ];
      })
    ]
  ]
]

-- no list comes before itself, nor a rotation system
pub before-itself : (x y : List ℕ) → x ≡ y → is_before x y ≡ true → ⊥
before-itself x y e h = before-irreflexive y (subst (λ (z : List ℕ). is_before z y ≡ true) e h)

pub precedes-itself : (nodes : List Node) (p q : List (List ℕ)) → p ≡ q → Precedes nodes p q → ⊥
precedes-itself nodes p q e h = let w : Precedes nodes q q = subst (λ (z : List (List ℕ)). Precedes nodes z q) e h in not-both nodes q q w w

module _ (k : Component) (block : ℕ → BlockInPlane) where
  abbrev part : List (List ℕ) → ℕ → List (List ℕ)
  part q b = block_part k (block b).part q

  abbrev tree : ℕ → List Node
  tree b = (block b).nodes

  abbrev round : List (List ℕ) → ℕ → List ℕ
  round q v = outer_at k.part q v

  -- the parts are equal
  abbrev pub SameParts : List (List ℕ) → List (List ℕ) → Type 0
  SameParts q r = (b : ℕ) → is_member b k.blocks ≡ true → part q b ≡ part r b

  -- not both of two come before each other
  in-block : (q r : List (List ℕ)) (b c : ℕ) → PrecedesInBlock k block q r b → PrecedesInBlock k block r q c → ⊥
  in-block q r b c w x = elim (cases_order b c) [
    | inl e ↦ not-both (tree b) (part q b) (part r b) w.earlier (subst (λ (z : ℕ). Precedes (tree z) (part r z) (part q z)) (sym e) x.earlier)
    | inr (inl l) ↦ precedes-itself (tree b) (part q b) (part r b) (sym (x.same b w.among l)) w.earlier
    | inr (inr l) ↦ precedes-itself (tree c) (part r c) (part q c) (sym (w.same c x.among l)) x.earlier
  ]

  at-cut : (q r : List (List ℕ)) (u v : ℕ) → PrecedesAtCut k block q r u → PrecedesAtCut k block r q v → ⊥
  at-cut q r u v w x = elim (cases_order u v) [
    | inl e ↦ both_ways (is_before (round r u) (round q u)) (linear-before.apart (round q u) (round r u) w.smaller) (subst (λ (z : ℕ). is_before (round r z) (round q z) ≡ true) (sym e) x.smaller)
    | inr (inl l) ↦ before-itself (round q u) (round r u) (sym (x.same u w.among l)) w.smaller
    | inr (inr l) ↦ before-itself (round r v) (round q v) (sym (w.same v x.among l)) x.smaller
  ]

  pub precedes-apart : (q r : List (List ℕ)) → WholePrecedes k block q r → WholePrecedes k block r q → ⊥
  precedes-apart q r (inl w) (inl x) = in-block q r w.0 x.0 w.1 x.1
  precedes-apart q r (inl w) (inr x) = precedes-itself (tree w.0) (part q w.0) (part r w.0) (sym (x.1.parts w.0 w.1.among)) w.1.earlier
  precedes-apart q r (inr w) (inl x) = precedes-itself (tree x.0) (part r x.0) (part q x.0) (sym (w.1.parts x.0 x.1.among)) x.1.earlier
  precedes-apart q r (inr w) (inr x) = at-cut q r w.0 x.0 w.1 x.1

  module _ (M : List (List ℕ) → Type 0) (told : (q r : List (List ℕ)) → M q → M r → SameParts q r → ((v : ℕ) → is_member v k.cuts ≡ true → round q v ≡ round r v) → q ≡ r) where
    -- the part of q in block b is the first of those of all members
    abbrev pub IsFirstPart : List (List ℕ) → ℕ → Type 0
    IsFirstPart q b = (s : List (List ℕ)) → M s → (part q b ≡ part s b) ⊎ Precedes (tree b) (part q b) (part s b)

    -- it is the last
    abbrev pub IsLastPart : List (List ℕ) → ℕ → Type 0
    IsLastPart q b = (s : List (List ℕ)) → M s → Precedes (tree b) (part q b) (part s b) → ⊥

    -- the order of q around v is the first of those of all members with the same parts
    abbrev pub IsFirstRound : List (List ℕ) → ℕ → Type 0
    IsFirstRound q v = (s : List (List ℕ)) → M s → SameParts q s → (round q v ≡ round s v) ⊎ (is_before (round q v) (round s v) ≡ true)

    -- it is the last
    abbrev pub IsLastRound : List (List ℕ) → ℕ → Type 0
    IsLastRound q v = (s : List (List ℕ)) → M s → SameParts q s → is_before (round q v) (round s v) ≡ true → ⊥

    -- the part of r in block b follows that of q
    pub record FollowsInBlock (q r : List (List ℕ)) (b : ℕ) : Type 0 where
      pub after : Precedes (block b).nodes (block_part k (block b).part q) (block_part k (block b).part r)
      pub none_between : (s : List (List ℕ)) → M s → Precedes (block b).nodes (block_part k (block b).part q) (block_part k (block b).part s)
          → (block_part k (block b).part r ≡ block_part k (block b).part s) ⊎ Precedes (block b).nodes (block_part k (block b).part r) (block_part k (block b).part s)

    -- the order of r around v follows that of q
    pub record FollowsRound (q r : List (List ℕ)) (v : ℕ) : Type 0 where
      pub after : is_before (outer_at k.part q v) (outer_at k.part r v) ≡ true
      pub none_between : (s : List (List ℕ)) → M s → SameParts q s → is_before (outer_at k.part q v) (outer_at k.part s v) ≡ true
          → (outer_at k.part r v ≡ outer_at k.part s v) ⊎ (is_before (outer_at k.part r v) (outer_at k.part s v) ≡ true)

    -- with first orders around each cut vertex, r comes before all others with the same parts
    pub first-rounds : (r s : List (List ℕ)) → M r → M s → SameParts r s → ((v : ℕ) → is_member v k.cuts ≡ true → (round r v ≡ round s v) ⊎ (is_before (round r v) (round s v) ≡ true)) → (r ≡ s) ⊎ WholePrecedes k block r s
    first-rounds r s m n same first = elim (least-other k.cuts (λ v. round r v ≡ round s v) (λ v. is_before (round r v) (round s v) ≡ true) first) [
      | inl all ↦ inl (told r s m n same all)
      | inr w ↦ inr (inr (w.here, record { among = w.among; parts = same; same = w.below; smaller = w.other }))
    ]

    -- with first parts in each block, too, before all others
    pub first-parts : (r s : List (List ℕ)) → M r → M s → ((b : ℕ) → is_member b k.blocks ≡ true → (part r b ≡ part s b) ⊎ Precedes (tree b) (part r b) (part s b)) → ((v : ℕ) → is_member v k.cuts ≡ true → IsFirstRound r v) → (r ≡ s) ⊎ WholePrecedes k block r s
    first-parts r s m n parts first = elim (least-other k.blocks (λ b. part r b ≡ part s b) (λ b. Precedes (tree b) (part r b) (part s b)) parts) [
      | inl all ↦ first-rounds r s m n all (λ v c. first v c s n all)
      | inr w ↦ inr (inl (w.here, record { among = w.among; same = w.below; earlier = w.other }))
    ]

    -- a block advances: its part follows, later blocks return to their first parts, all cut vertices to their first orders; before,
    -- later blocks had their last parts, and all cut vertices their last orders
    pub next-in_block : (q r : List (List ℕ)) (b : ℕ) → M r → is_member b k.blocks ≡ true
        → ((a : ℕ) → is_member a k.blocks ≡ true → a < b → part q a ≡ part r a)
        → FollowsInBlock q r b
        → ((a : ℕ) → is_member a k.blocks ≡ true → b < a → IsLastPart q a × IsFirstPart r a)
        → ((v : ℕ) → is_member v k.cuts ≡ true → IsLastRound q v × IsFirstRound r v)
        → Succeeds (WholePrecedes k block) M q r
    next-in_block q r b mr among same follows later rounds = record {
      member = mr;
      after = inl (b, record { among = among; same = same; earlier = follows.after });
      none_between = between;
    }
      where
        -- the first difference between q and s is in block c
        by-block : (s : List (List ℕ)) (c : ℕ) → M s → PrecedesInBlock k block q s c → (r ≡ s) ⊎ WholePrecedes k block r s
        by-block s c n w = elim (cases_order c b) [
          | inl e ↦ first-parts r s mr n (parts e) (λ v m. (rounds v m).1)
          | inr (inl l) ↦ inr (inl (
            c,
            record {
              among = w.among;
              same = λ a m u. sym (same a m (omega (arith, u, l))) ∙ w.same a m u;
              earlier = subst (λ (z : List (List ℕ)). Precedes (tree c) z (part s c)) (same c w.among l) w.earlier;
            },
          ))
          | inr (inr l) ↦ absurd ((later c w.among l).0 s n w.earlier)
        ]
          where
            parts : c ≡ b → (a : ℕ) → is_member a k.blocks ≡ true → (part r a ≡ part s a) ⊎ Precedes (tree a) (part r a) (part s a)
            parts e a m = elim (cases_order a b) [
              | inl f ↦ subst (λ (z : ℕ). (part r z ≡ part s z) ⊎ Precedes (tree z) (part r z) (part s z)) (sym f) (follows.none_between s n (subst (λ (z : ℕ). Precedes (tree z) (part q z) (part s z)) e w.earlier))
              | inr (inl l) ↦ inl (sym (same a m l) ∙ w.same a m (omega (arith, l, e)))
              | inr (inr l) ↦ (later a m l).1 s n
            ]

        between : (s : List (List ℕ)) → M s → WholePrecedes k block q s → (r ≡ s) ⊎ WholePrecedes k block r s
        between s n (inl w) = by-block s w.0 n w.1
        between s n (inr w) = absurd ((rounds w.0 w.1.among).0 s n w.1.parts w.1.smaller)

    -- a cut vertex advances: its order follows, later ones return to their first orders; before, later ones had their last
    pub next-around : (q r : List (List ℕ)) (v : ℕ) → M r → is_member v k.cuts ≡ true → SameParts q r
        → ((u : ℕ) → is_member u k.cuts ≡ true → u < v → round q u ≡ round r u)
        → FollowsRound q r v
        → ((u : ℕ) → is_member u k.cuts ≡ true → v < u → IsLastRound q u × IsFirstRound r u)
        → Succeeds (WholePrecedes k block) M q r
    next-around q r v mr among parts same follows later = record {
      member = mr;
      after = inr (v, record { among = among; parts = parts; same = same; smaller = follows.after });
      none_between = between;
    }
      where
        at-vertex : (s : List (List ℕ)) (c : ℕ) → M s → PrecedesAtCut k block q s c → (r ≡ s) ⊎ WholePrecedes k block r s
        at-vertex s c n w = elim (cases_order c v) [
          | inl e ↦ first-rounds r s mr n parts-rs (rounds e)
          | inr (inl l) ↦ inr (inr (
            c,
            record {
              among = w.among;
              parts = parts-rs;
              same = λ u m h. sym (same u m (omega (arith, h, l))) ∙ w.same u m h;
              smaller = subst (λ (z : List ℕ). is_before z (round s c) ≡ true) (same c w.among l) w.smaller;
            },
          ))
          | inr (inr l) ↦ absurd ((later c w.among l).0 s n w.parts w.smaller)
        ]
          where
            parts-rs : SameParts r s
            parts-rs b m = sym (parts b m) ∙ w.parts b m

            rounds : c ≡ v → (u : ℕ) → is_member u k.cuts ≡ true → (round r u ≡ round s u) ⊎ (is_before (round r u) (round s u) ≡ true)
            rounds e u m = elim (cases_order u v) [
              | inl f ↦ subst (λ (z : ℕ). (round r z ≡ round s z) ⊎ (is_before (round r z) (round s z) ≡ true)) (sym f) (follows.none_between s n w.parts (subst (λ (z : ℕ). is_before (round q z) (round s z) ≡ true) e w.smaller))
              | inr (inl l) ↦ inl (sym (same u m l) ∙ w.same u m (omega (arith, l, e)))
              | inr (inr l) ↦ (later u m l).1 s n parts-rs
            ]

        between : (s : List (List ℕ)) → M s → WholePrecedes k block q s → (r ≡ s) ⊎ WholePrecedes k block r s
        between s n (inl w) = inr (inl (
          w.0,
          record {
            among = w.1.among;
            same = λ a m l. sym (parts a m) ∙ w.1.same a m l;
            earlier = subst (λ (z : List (List ℕ)). Precedes (tree w.0) z (part s w.0)) (parts w.0 w.1.among) w.1.earlier;
          },
        ))
        between s n (inr w) = at-vertex s w.0 n w.1

    -- where all parts and orders are last, the member is the last
    pub end-of_all : (q : List (List ℕ)) → ((b : ℕ) → is_member b k.blocks ≡ true → IsLastPart q b) → ((v : ℕ) → is_member v k.cuts ≡ true → IsLastRound q v) → IsEnd (WholePrecedes k block) M q
    end-of_all q parts rounds s n (inl w) = parts w.0 w.1.among s n w.1.earlier
    end-of_all q parts rounds s n (inr w) = rounds w.0 w.1.among s n w.1.parts w.1.smaller
