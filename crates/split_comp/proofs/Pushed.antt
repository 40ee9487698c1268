-- The stack when an edge of the rest is pushed.
use Rattle.std.proofs.Common.{◌≡◌, ◌≢◌, ℕ, ◌+◌, ◌<◌, ◌≤◌, ◌⊎◌, inl, inr, true, false, List, [], ◌∷◌, ◌++◌, length, slice_index_or, refl, sym, ap, ◌∙◌, subst, arith, Contains}
use Rattle.std.proofs.lemmas.Bool.{cases_Bool, cases_lt, cases_eq, both_ways}
use Rattle.permutations.specs.Members.{is_member}
use Rattle.permutations.proofs.Members.{distinct-head}
use Rattle.pair_split.specs.Family.{Entry, has_end, names, touches, IsFamily, IsTight}
use Rattle.pair_split.proofs.Elements.{contains-here, contains-later, contains-cases}
use Rattle.pair_split.proofs.Names.{name-member}
use Rattle.pair_split.proofs.SameEntries.{IsWithin, same-tight}
use Rattle.split_comp.specs.declared.items.StackEntry.{StackEntry}
use Rattle.split_comp.specs.Stack.{item, entry, family, IsLaid, IsTreeAt, IsStack, AreFirst}
use Rattle.split_comp.specs.Frames.{AreFrames}
use Rattle.split_comp.proofs.Entries.{item-ends, up-end, low-end, stack-contains, rest-contains, family-cases, same-item, not-rest, rest-family, family-from, item-front, item-last, length-push}

-- the entry x of the rest is on top now
pub record IsPushed (old : List StackEntry) (left : List Entry) (x : StackEntry) (new : List StackEntry) (rest : List Entry) : Type 0 where
  pub now : new ≡ old ++ x ∷ []
  pub is_family : IsFamily (family old left)
  pub is_tight : IsTight (family old left)
  pub into : IsWithin left (entry x ∷ rest)
  pub back : IsWithin (entry x ∷ rest) left
  pub rest_family : IsFamily (entry x ∷ rest)

module _ (old : List StackEntry) (left : List Entry) (x : StackEntry) (new : List StackEntry) (rest : List Entry) (r : IsPushed old left x new rest) where
  abbrev h : ℕ
  h = length old

  pub pushed-size : length new ≡ length old + 1
  pushed-size = ap length r.now ∙ length-push old x

  pub pushed-front : (i : ℕ) → i < length old → item new i ≡ item old i
  pushed-front i l = ap (λ (s : List StackEntry). item s i) r.now ∙ item-front old x i l

  pub pushed-top : (i : ℕ) → i ≡ length old → item new i ≡ x
  pushed-top i e = ap (λ (s : List StackEntry). item s i) r.now ∙ item-last old x i e

  pub pushed-cases : (i : ℕ) → i < length new → (i < length old) ⊎ (i ≡ length old)
  pushed-cases i l = elim (cases_lt i (length old)) [ inl a ↦ inl a | inr a ↦ inr (omega (arith, a, l, pushed-size)) ]

  pub pushed-within : IsWithin (family old left) (family new rest)
  pushed-within e c = elim (family-cases old left e c) [
    | inl p ↦ subst (λ (y : Entry). Contains (family new rest) y) (ap entry (pushed-front p.0 p.1) ∙ sym p.2) (stack-contains new rest p.0 (omega (arith, p.1, pushed-size)))
    | inr q ↦ elim (contains-cases e (entry x) rest (r.into e q)) [
      | inl s ↦ subst (λ (y : Entry). Contains (family new rest) y) (ap entry (pushed-top (length old) refl) ∙ s) (stack-contains new rest (length old) (omega (arith, pushed-size)))
      | inr s ↦ rest-contains new rest e s
    ]
  ]

  pub pushed-back : IsWithin (family new rest) (family old left)
  pushed-back e c = elim (family-cases new rest e c) [
    | inr q ↦ rest-contains old left e (r.back e (contains-later e (entry x) rest q))
    | inl p ↦ elim (pushed-cases p.0 p.1) [
      | inl a ↦ subst (λ (y : Entry). Contains (family old left) y) (sym (p.2 ∙ ap entry (pushed-front p.0 a))) (stack-contains old left p.0 a)
      | inr a ↦ subst (λ (y : Entry). Contains (family old left) y) (sym (p.2 ∙ ap entry (pushed-top p.0 a))) (rest-contains old left (entry x) (r.back (entry x) (contains-here (entry x) rest)))
    ]
  ]

  pub pushed-family : (x.up ≢ x.low) → ((i : ℕ) → i < length old → (item old i).up ≢ (item old i).low) → IsFamily (family new rest)
  pushed-family n loops = family-from new rest (rest-family (x ∷ []) rest r.rest_family) apart off none
    where
      fresh : (i : ℕ) → i < length old → (item old i).name ≢ x.name
      fresh i l e = not-rest old left r.is_family i (entry x) l (r.back (entry x) (contains-here (entry x) rest)) e

      apart : (i j : ℕ) → i < j → j < length new → (item new i).name ≢ (item new j).name
      apart i j l m e =
          let a : i < length old = omega (arith, l, m, pushed-size) in
          let b : (item old i).name ≡ (item new j).name = sym (ap (λ (y : StackEntry). y.name) (pushed-front i a)) ∙ e in
          elim (pushed-cases j m) [
            | inl c ↦ omega (arith, l, same-item old left r.is_family i j a c (b ∙ ap (λ (y : StackEntry). y.name) (pushed-front j c)))
            | inr c ↦ fresh i a (b ∙ ap (λ (y : StackEntry). y.name) (pushed-top j c))
          ]

      off : (i : ℕ) (y : Entry) → i < length new → Contains rest y → (item new i).name ≢ y.name
      off i y l c e = elim (pushed-cases i l) [
        | inl a ↦ not-rest old left r.is_family i y a (r.back y (contains-later y (entry x) rest c)) (sym (ap (λ (z : StackEntry). z.name) (pushed-front i a)) ∙ e)
        | inr a ↦ both_ways (is_member y.name (names rest)) (subst (λ (z : ℕ). is_member z (names rest) ≡ false) (sym (ap (λ (z : StackEntry). z.name) (pushed-top i a)) ∙ e) (distinct-head x.name (names rest) r.rest_family.names_once)) (name-member rest y c)
      ]

      none : (i : ℕ) → i < length new → (item new i).up ≢ (item new i).low
      none i l e = elim (pushed-cases i l) [
        | inl a ↦ loops i a (subst (λ (y : StackEntry). y.up ≡ y.low) (pushed-front i a) e)
        | inr a ↦ n (subst (λ (y : StackEntry). y.up ≡ y.low) (pushed-top i a) e)
      ]

  pub pushed-tight : IsTight (family new rest)
  pushed-tight = same-tight (family old left) (family new rest) pushed-within pushed-back r.is_tight

  -- the lower end of each tree edge is d or greater, and those of the entries that are pushed are not below it
  front : (P : StackEntry → Type 0) (i : ℕ) → i < length old → P (item old i) → P (item new i)
  front P i l w = subst P (sym (pushed-front i l)) w

  behind : (P : StackEntry → Type 0) (i : ℕ) → i < length old → P (item new i) → P (item old i)
  behind P i l w = subst P (pushed-front i l) w

  at-top : (P : StackEntry → Type 0) (i : ℕ) → i ≡ length old → P x → P (item new i)
  at-top P i e w = subst P (sym (pushed-top i e)) w

  of-top : (P : StackEntry → Type 0) (i : ℕ) → i ≡ length old → P (item new i) → P x
  of-top P i e w = subst P (pushed-top i e) w

  -- how the entries lie, where the new one is a frond or a tree edge
  module _ (last : ℕ → ℕ) (done now : ℕ) (laid : IsLaid last done old) (above : (y : ℕ) → y < last y) (lower : now ≤ done) (low : x.low < done)
      (rises : (x.up < x.low) × (x.low < last x.up)) (frond : x.tree ≡ false → x.start ≡ length old) (tree : x.tree ≡ true → (x.start < length old) × (now ≤ x.low)
      × ((i : ℕ) → x.start ≤ i → i < length old → (x.low ≤ (item old i).low) × ((item old i).low < last x.low) × (x.start ≤ (item old i).start))
      × ((i : ℕ) → i < x.start → i < length old → ((item old i).low < x.low) ⊎ (last x.low ≤ (item old i).low))
      × ((i : ℕ) → x.start ≤ i → i < length old → (item old i).tree ≡ true → x.low ≤ (item old i).up)) where
    pub pushed-laid : IsLaid last now new
    pushed-laid = record {
      rises = λ i l. elim (pushed-cases i l) [
        | inl a ↦ front (λ (y : StackEntry). (y.up < y.low) × (y.low < last y.up)) i a (laid.rises i a)
        | inr a ↦ at-top (λ (y : StackEntry). (y.up < y.low) × (y.low < last y.up)) i a rises
      ];
      frond_start = λ i l t. elim (pushed-cases i l) [
        | inl a ↦ front (λ (y : StackEntry). y.start ≡ i) i a (laid.frond_start i a (behind (λ (y : StackEntry). y.tree ≡ false) i a t))
        | inr a ↦ at-top (λ (y : StackEntry). y.start ≡ i) i a (frond (of-top (λ (y : StackEntry). y.tree ≡ false) i a t) ∙ sym a)
      ];
      tree_start = λ i l t. elim (pushed-cases i l) [
        | inl a ↦ front (λ (y : StackEntry). y.start < i) i a (laid.tree_start i a (behind (λ (y : StackEntry). y.tree ≡ true) i a t))
        | inr a ↦ at-top (λ (y : StackEntry). y.start < i) i a (omega (arith, a, (tree (of-top (λ (y : StackEntry). y.tree ≡ true) i a t)).0))
      ];
      inside = λ p i l t b c. elim (pushed-cases p l) [
        | inl a ↦ front (λ (y : StackEntry). (y.low ≤ (item new i).low) × ((item new i).low < last y.low)) p a (front (λ (y : StackEntry). ((item old p).low ≤ y.low) × (y.low < last (item old p).low)) i (omega (arith, a, c))
            (laid.inside p i a (behind (λ (y : StackEntry). y.tree ≡ true) p a t) (behind (λ (y : StackEntry). y.start ≤ i) p a b) c))
        | inr a ↦ at-top (λ (y : StackEntry). (y.low ≤ (item new i).low) × ((item new i).low < last y.low)) p a (elim (cases_lt i (length old)) [
          | inl d ↦ front (λ (y : StackEntry). (x.low ≤ y.low) × (y.low < last x.low)) i d (let w = (tree (of-top (λ (y : StackEntry). y.tree ≡ true) p a t)).2 i (of-top (λ (y : StackEntry). y.start ≤ i) p a b) d in (w.0, w.1))
          | inr d ↦ at-top (λ (y : StackEntry). (x.low ≤ y.low) × (y.low < last x.low)) i (omega (arith, a, c, d)) (omega arith, above x.low)
        ])
      ];
      outside = λ p i l t m g. elim (pushed-cases p l) [
        | inl a ↦ front (λ (y : StackEntry). ((item new i).low < y.low) ⊎ (last y.low ≤ (item new i).low)) p a (elim (pushed-cases i m) [
          | inl d ↦ front (λ (y : StackEntry). (y.low < (item old p).low) ⊎ (last (item old p).low ≤ y.low)) i d (laid.outside p i a (behind (λ (y : StackEntry). y.tree ≡ true) p a t) d (behind (λ (y : StackEntry). (i < y.start) ⊎ (p < i)) p a g))
          | inr d ↦ at-top (λ (y : StackEntry). (y.low < (item old p).low) ⊎ (last (item old p).low ≤ y.low)) i d (inl (omega (arith, low, laid.finished p a (behind (λ (y : StackEntry). y.tree ≡ true) p a t))))
        ])
        | inr a ↦ at-top (λ (y : StackEntry). ((item new i).low < y.low) ⊎ (last y.low ≤ (item new i).low)) p a (elim (of-top (λ (y : StackEntry). (i < y.start) ⊎ (p < i)) p a g) [
          | inr d ↦ absurd (omega (arith, d, a, m, pushed-size))
          | inl d ↦
              let w = tree (of-top (λ (y : StackEntry). y.tree ≡ true) p a t) in
              let b : i < length old = omega (arith, d, w.0) in
              front (λ (y : StackEntry). (y.low < x.low) ⊎ (last x.low ≤ y.low)) i b (w.3 i d b)
        ])
      ];
      laminar = λ p i l t b c. elim (pushed-cases p l) [
        | inl a ↦ front (λ (y : StackEntry). y.start ≤ (item new i).start) p a (front (λ (y : StackEntry). (item old p).start ≤ y.start) i (omega (arith, a, c)) (laid.laminar p i a (behind (λ (y : StackEntry). y.tree ≡ true) p a t) (behind (λ (y : StackEntry). y.start ≤ i) p a b) c))
        | inr a ↦
            let d : i < length old = omega (arith, a, c) in
            at-top (λ (y : StackEntry). y.start ≤ (item new i).start) p a (front (λ (y : StackEntry). x.start ≤ y.start) i d ((tree (of-top (λ (y : StackEntry). y.tree ≡ true) p a t)).2 i (of-top (λ (y : StackEntry). y.start ≤ i) p a b) d).2)
      ];
      nearest = λ p i l t b c g. elim (pushed-cases p l) [
        | inl a ↦ front (λ (y : StackEntry). y.low ≤ (item new i).up) p a (front (λ (y : StackEntry). (item old p).low ≤ y.up) i (omega (arith, a, c)) (laid.nearest p i a (behind (λ (y : StackEntry). y.tree ≡ true) p a t) (behind (λ (y : StackEntry). y.start ≤ i) p a b) c (behind (λ (y : StackEntry). y.tree ≡ true) i (omega (arith, a, c)) g)))
        | inr a ↦
            let d : i < length old = omega (arith, a, c) in
            at-top (λ (y : StackEntry). y.low ≤ (item new i).up) p a (front (λ (y : StackEntry). x.low ≤ y.up) i d ((tree (of-top (λ (y : StackEntry). y.tree ≡ true) p a t)).4 i (of-top (λ (y : StackEntry). y.start ≤ i) p a b) d (behind (λ (y : StackEntry). y.tree ≡ true) i d g)))
      ];
      finished = λ p l t. elim (pushed-cases p l) [
        | inl a ↦ front (λ (y : StackEntry). now ≤ y.low) p a (omega (arith, lower, laid.finished p a (behind (λ (y : StackEntry). y.tree ≡ true) p a t)))
        | inr a ↦ at-top (λ (y : StackEntry). now ≤ y.low) p a (tree (of-top (λ (y : StackEntry). y.tree ≡ true) p a t)).1
      ];
    }

  -- a frond of v
  pub push-frond : (last : ℕ → ℕ) (done v : ℕ) → IsStack last done v old left → x.tree ≡ false → x.low ≡ v → x.up < v → v < last x.up → x.start ≡ length old
      → ((z : ℕ) → done ≤ z → touches rest z ≡ false) → ((z : ℕ) → z ≤ v → v < last z → touches rest z ≡ true) → IsStack last done v new rest
  push-frond last done v s f e u w b free path = record {
    above = s.above;
    nested = s.nested;
    laid = pushed-laid last done done s.laid s.above (omega arith) (omega (arith, e, s.left.ahead)) (omega (arith, u, e), omega (arith, w, e)) (λ t. b) (λ t. absurd (both_ways x.tree f t));
    ended = record {
      held = λ i z l d g. elim (pushed-cases i l) [
        | inl a ↦ let p = s.ended.held i z a (behind (λ (y : StackEntry). has_end z (entry y) ≡ true) i a d) g in (p.0, still z p.0 p.1)
        | inr a ↦ elim (item-ends z x (of-top (λ (y : StackEntry). has_end z (entry y) ≡ true) i a d)) [ inl q ↦ absurd (omega (arith, q, u, g)) | inr q ↦ absurd (omega (arith, q, e, g)) ]
      ];
      on_path = λ i z l d g. on_path i z l d g;
    };
    left = record {
      is_family = pushed-family (λ q. omega (arith, q, u, e)) (λ i l q. omega (arith, q, (s.laid.rises i l).0));
      is_tight = pushed-tight;
      ahead = s.left.ahead;
      free = free;
      on_path = λ i z l d g. path z g (on_path i z l d g);
      own = path v (omega arith) (s.above v);
    };
  }
    where
      still : (z p : ℕ) → IsTreeAt old z p → IsTreeAt new z p
      still z p t = record { within = omega (arith, t.within, pushed-size); tree = front (λ (y : StackEntry). y.tree ≡ true) p t.within t.tree; low = front (λ (y : StackEntry). y.low ≡ z) p t.within t.low }

      on_path : (i z : ℕ) → i < length new → has_end z (entry (item new i)) ≡ true → z ≤ v → v < last z
      on_path i z l d g = elim (pushed-cases i l) [
        | inl a ↦ s.ended.on_path i z a (behind (λ (y : StackEntry). has_end z (entry y) ≡ true) i a d) g
        | inr a ↦ elim (item-ends z x (of-top (λ (y : StackEntry). has_end z (entry y) ≡ true) i a d)) [
          | inl q ↦ subst (λ (y : ℕ). v < last y) (sym q) w
          | inr q ↦ subst (λ (y : ℕ). v < last y) (sym (q ∙ e)) (s.above v)
        ]
      ]

  -- the tree edge from v to its child w, when the search returns
  pub push-tree : (last parent start : ℕ → ℕ) (done v w : ℕ) → IsStack last done w old left → AreFrames last w start old → w ≢ 0 → parent w ≡ v → v < w → w < last v → ((y : ℕ) → y < w → w < last y → (y ≤ parent w) × (parent w < last y))
      → x.tree ≡ true → x.low ≡ w → x.up ≡ v → x.start ≡ start w → start w < length old
      → ((z : ℕ) → w ≤ z → touches rest z ≡ false) → ((z : ℕ) → z ≤ v → v < last z → touches rest z ≡ true) → IsStack last w v new rest
  push-tree last parent start done v w s f n pv less below anc t e u b some free path = record {
    above = s.above;
    nested = s.nested;
    laid = pushed-laid last done w s.laid s.above (omega (arith, s.left.ahead)) (omega (arith, e, s.left.ahead)) (omega (arith, u, e, less), subst (λ (y : ℕ). x.low < last y) (sym u) (omega (arith, e, below)))
        (λ g. absurd (both_ways x.tree g t))
        (λ g. (
          omega (arith, b, some),
          omega (arith, e),
          (λ i l m. let c = f.from w i n (omega arith, s.above w) (omega (arith, b, l)) m in (omega (arith, e, c.0), subst (λ (y : ℕ). (item old i).low < last y) (sym e) c.1, omega (arith, b, lam i (omega (arith, b, l)) m))),
          (λ i l m. subst (λ (y : ℕ). ((item old i).low < y) ⊎ (last y ≤ (item old i).low)) (sym e) (f.before w i n (omega arith, s.above w) (omega (arith, b, l)))),
          (λ i l m g. omega (arith, e, f.tree_up w i n (omega arith, s.above w) (omega (arith, b, l)) m g)),
        ));
    ended = record { held = held; on_path = on_path };
    left = record {
      is_family = pushed-family (λ q. omega (arith, q, u, e, less)) (λ i l q. omega (arith, q, (s.laid.rises i l).0));
      is_tight = pushed-tight;
      ahead = less;
      free = free;
      on_path = λ i z l d g. path z g (on_path i z l d g);
      own = path v (omega arith) (s.above v);
    };
  }
    where
      lam : (i : ℕ) → start w ≤ i → i < length old → start w ≤ (item old i).start
      lam i l m = elim (cases_lt (item old i).start (start w)) [
        | inr a ↦ a
        | inl a ↦ elim (cases_Bool (item old i).tree) [
          | inr g ↦ absurd (omega (arith, a, l, s.laid.frond_start i m g))
          | inl g ↦
              let c = f.from w i n (omega arith, s.above w) l m in
              let d = s.laid.inside i (item old i).start m g (omega arith) (omega (arith, s.laid.tree_start i m g)) in
              let q = s.nested w (item old i).low c.0 c.1 in
              elim (f.before w (item old i).start n (omega arith, s.above w) a) [ inl k ↦ absurd (omega (arith, k, c.0, d.0)) | inr k ↦ absurd (omega (arith, k, q, d.1)) ]
        ]
      ]

      held : (i z : ℕ) → i < length new → has_end z (entry (item new i)) ≡ true → v < z → (p : ℕ) × IsTreeAt new z p
      held i z l d g = elim (cases_eq z w) [
        | inl q ↦ (length old, record { within = omega (arith, pushed-size); tree = at-top (λ (y : StackEntry). y.tree ≡ true) (length old) refl t; low = at-top (λ (y : StackEntry). y.low ≡ z) (length old) refl (e ∙ sym q) })
        | inr q ↦ elim (pushed-cases i l) [
          | inr a ↦ absurd (elim (item-ends z x (of-top (λ (y : StackEntry). has_end z (entry y) ≡ true) i a d)) [ inl k ↦ omega (arith, k, u, g) | inr k ↦ q (k ∙ e) ])
          | inl a ↦ elim (cases_lt z w) [
            | inl k ↦ absurd (omega (arith, pv, g, (anc z k (s.ended.on_path i z a (behind (λ (y : StackEntry). has_end z (entry y) ≡ true) i a d) (omega (arith, k)))).0))
            | inr k ↦ let p = s.ended.held i z a (behind (λ (y : StackEntry). has_end z (entry y) ≡ true) i a d) (omega (arith, k, q)) in
                (p.0, record { within = omega (arith, p.1.within, pushed-size); tree = front (λ (y : StackEntry). y.tree ≡ true) p.0 p.1.within p.1.tree; low = front (λ (y : StackEntry). y.low ≡ z) p.0 p.1.within p.1.low })
          ]
        ]
      ]

      on_path : (i z : ℕ) → i < length new → has_end z (entry (item new i)) ≡ true → z ≤ v → v < last z
      on_path i z l d g = elim (pushed-cases i l) [
        | inl a ↦ subst (λ (y : ℕ). y < last z) pv (anc z (omega (arith, g, less)) (s.ended.on_path i z a (behind (λ (y : StackEntry). has_end z (entry y) ≡ true) i a d) (omega (arith, g, less)))).1
        | inr a ↦ elim (item-ends z x (of-top (λ (y : StackEntry). has_end z (entry y) ≡ true) i a d)) [
          | inl q ↦ subst (λ (y : ℕ). v < last y) (sym (q ∙ u)) (s.above v)
          | inr q ↦ absurd (omega (arith, q, e, g, less))
        ]
      ]

  -- the first places
  pub pushed-first : (n v u : ℕ) (first now : List ℕ) → AreFirst n v first old → length now ≡ n → u ≤ v → (x.tree ≡ true → x.low < v)
      → ((z : ℕ) → (slice_index_or now z 0 ≡ slice_index_or first z 0) ⊎ ((slice_index_or now z 0 ≡ length old) × (slice_index_or now z 0 < slice_index_or first z 0) × ((z ≡ x.up) ⊎ (z ≡ x.low))))
      → ((z : ℕ) → (z ≡ x.up) ⊎ (z ≡ x.low) → slice_index_or now z 0 ≤ length old) → AreFirst n u now new
  pushed-first n v u first now f size less low moved pushed = record {
    places = size;
    least = λ i z l h. elim (pushed-cases i l) [
      | inl a ↦ omega (arith, f.least i z a (behind (λ (y : StackEntry). has_end z (entry y) ≡ true) i a h), no-later z)
      | inr a ↦ omega (arith, a, pushed z (item-ends z x (of-top (λ (y : StackEntry). has_end z (entry y) ≡ true) i a h)))
    ];
    attained = λ z b current. elim (moved z) [
      | inr e ↦ inr (omega (arith, e.0, pushed-size), at-top (λ (y : StackEntry). has_end z (entry y) ≡ true) (slice_index_or now z 0) e.0 (elim e.2 [ inl q ↦ up-end z x q | inr q ↦ low-end z x q ]))
      | inl e ↦ elim (f.attained z b (was z current)) [
        | inl g ↦ inl (e ∙ g)
        | inr g ↦ inr (omega (arith, e, g.0, pushed-size), subst (λ (q : ℕ). has_end z (entry (item new q)) ≡ true) (sym e) (front (λ (y : StackEntry). has_end z (entry y) ≡ true) (slice_index_or first z 0) g.0 g.1))
      ]
    ];
  }
    where
      no-later : (z : ℕ) → slice_index_or now z 0 ≤ slice_index_or first z 0
      no-later z = elim (moved z) [ inl e ↦ omega (arith, e) | inr e ↦ omega (arith, e.1) ]

      was : (z : ℕ) → (z < u) ⊎ ((p : ℕ) × IsTreeAt new z p) → (z < v) ⊎ ((p : ℕ) × IsTreeAt old z p)
      was z (inl a) = inl (omega (arith, a, less))
      was z (inr p) = elim (pushed-cases p.0 p.1.within) [
        | inl a ↦ inr (p.0, record { within = a; tree = behind (λ (y : StackEntry). y.tree ≡ true) p.0 a p.1.tree; low = behind (λ (y : StackEntry). y.low ≡ z) p.0 a p.1.low })
        | inr a ↦ inl (omega (arith, of-top (λ (y : StackEntry). y.low ≡ z) p.0 a p.1.low, low (of-top (λ (y : StackEntry). y.tree ≡ true) p.0 a p.1.tree)))
      ]
