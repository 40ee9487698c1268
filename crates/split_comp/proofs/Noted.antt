-- The cuts of a vertex when a further dart of it is on the stack.
use Rattle.std.proofs.Common.{◌≡◌, ℕ, zero, suc, ◌+◌, ◌<◌, ◌≤◌, ◌⊎◌, inl, inr, Bool, true, false, ◌&&◌, nat_lt, not, List, [], ◌∷◌, ◌++◌, length, refl, sym, ap, ◌∙◌, subst, arith, Contains}
use Rattle.std.proofs.lemmas.Bool.{cases_Bool, cases_lt, cases_eq, both_ways, lt-ltb, le-ltb}
use Rattle.std.proofs.lemmas.List.{length-append, get_or_append_left, get_or_push, get_or-append_right}
use Rattle.std.proofs.lemmas.List.Elements.{Contains-append_left, Contains-append_cases, Contains-push}
use Rattle.pair_split.specs.Family.{Entry, has_end, touches}
use Rattle.split_comp.specs.declared.items.StackEntry.{StackEntry}
use Rattle.split_comp.specs.declared.items.StackCut.{StackCut}
use Rattle.split_comp.specs.Stack.{item, entry, owner, IsTreeAt, IsStack, IsTopped}
use Rattle.split_comp.specs.Cuts.{no_cut, cut, IsLeastUp, IsAcross, IsBefore, IsStart, IsFirstBelow, IsSoundCut, IsChain, AreSound, IsWanted, AreComplete}
use Rattle.split_comp.proofs.Entries.{item-ends, up-end, low-end, place-of}
use Rattle.split_comp.proofs.LeastUp.{IsLeastIn, least-in, least-same, touching-tree, top-apart}
use Rattle.split_comp.proofs.Stretch.{side_at, side-place, IsShared, stretch-not}

-- the list is the front part of the stack, up to place t
pub record IsFront (old stack : List StackEntry) (t : ℕ) : Type 0 where
  pub size : length old ≡ t
  pub within : t ≤ length stack
  pub same : (i : ℕ) → i < t → item old i ≡ item stack i

module _ (old stack : List StackEntry) (t : ℕ) (f : IsFront old stack t) where
  pub front-start : (b u : ℕ) → IsStart old b u → IsStart stack b u
  front-start b u s = let e = f.same s.place (omega (arith, s.within, f.size)) in record { place = s.place; within = omega (arith, s.within, f.size, f.within); owned = subst (λ (y : StackEntry). owner y ≡ b) e s.owned; starts = subst (λ (y : StackEntry). y.start ≡ u) e s.starts }

  pub front-below : (s b : ℕ) → IsFirstBelow old s b → IsFirstBelow stack s b
  front-below s b h = let e = f.same h.place (omega (arith, h.tree_at.within, f.size)) in record {
    place = h.place;
    tree_at = record { within = omega (arith, h.tree_at.within, f.size, f.within); tree = subst (λ (y : StackEntry). y.tree ≡ true) e h.tree_at.tree; low = subst (λ (y : StackEntry). y.low ≡ b) e h.tree_at.low };
    starts = subst (λ (y : StackEntry). y.start ≡ s) e h.starts;
  }

  pub below-front : (s b : ℕ) → (h : IsFirstBelow stack s b) → h.place < t → IsFirstBelow old s b
  below-front s b h l = let e = sym (f.same h.place l) in record {
    place = h.place;
    tree_at = record { within = omega (arith, l, f.size); tree = subst (λ (y : StackEntry). y.tree ≡ true) e h.tree_at.tree; low = subst (λ (y : StackEntry). y.low ≡ b) e h.tree_at.low };
    starts = subst (λ (y : StackEntry). y.start ≡ s) e h.starts;
  }

  pub front-before : (u z : ℕ) → u ≤ t → IsBefore old u z → IsBefore stack u z
  front-before u z l b = record { place = b.place; within = b.within; end = subst (λ (y : StackEntry). has_end z (entry y) ≡ true) (f.same b.place (omega (arith, b.within, l))) b.end }

  pub before-front : (u z : ℕ) → u ≤ t → IsBefore stack u z → IsBefore old u z
  before-front u z l b = record { place = b.place; within = b.within; end = subst (λ (y : StackEntry). has_end z (entry y) ≡ true) (sym (f.same b.place (omega (arith, b.within, l)))) b.end }

-- a cut of a list in two parts
pub cut-left : (kept popped : List StackCut) (k : ℕ) → k < length kept → cut (kept ++ popped) k ≡ cut kept k
cut-left kept popped k l = get_or_append_left kept popped no_cut k l

pub cut-push : (kept : List StackCut) (c : StackCut) (k : ℕ) → k ≡ length kept → cut (kept ++ c ∷ []) k ≡ c
cut-push kept c k e = get_or_push kept c no_cut k (sym e)

pub cut-right : (kept popped : List StackCut) (k : ℕ) → cut (kept ++ popped) (length kept + k) ≡ cut popped k
cut-right kept popped k = get_or-append_right kept popped (length kept) (length kept + k) no_cut refl (omega arith) ∙ ap (cut popped) (omega arith)

-- a front part of a chain is one
pub chain-front : (stack : List StackEntry) (kept popped : List StackCut) → IsChain stack (kept ++ popped) → IsChain stack kept
chain-front stack kept popped c = record {
  starts_rise = λ k l. omega (arith, c.starts_rise k (more k l), ap (λ (y : StackCut). y.start) (at k l), ap (λ (y : StackCut). y.start) (next k l));
  ups_rise = λ k l. omega (arith, c.ups_rise k (more k l), ap (λ (y : StackCut). y.up) (at k l), ap (λ (y : StackCut). y.up) (next k l));
  lows_fall = λ k l. omega (arith, c.lows_fall k (more k l), ap (λ (y : StackCut). y.low) (at k l), ap (λ (y : StackCut). y.low) (next k l));
  met = λ k l. let m = c.met k (more k l) in (m.0, omega (arith, m.1, ap (λ (y : StackCut). y.start) (at k l)), omega (arith, m.2, ap (λ (y : StackCut). y.start) (next k l)), m.3, m.4 ∙ ap (λ (y : StackCut). y.up) (at k l));
}
  where
    more : (k : ℕ) → k + 1 < length kept → k + 1 < length (kept ++ popped)
    more k l = omega (arith, l, length-append kept popped)

    at : (k : ℕ) → k + 1 < length kept → cut (kept ++ popped) k ≡ cut kept k
    at k l = cut-left kept popped k (omega (arith, l))

    next : (k : ℕ) → k + 1 < length kept → cut (kept ++ popped) (k + 1) ≡ cut kept (k + 1)
    next k l = cut-left kept popped (k + 1) l

-- places of a chain rise, and upper ends rise weakly
pub chain-rises : (stack : List StackEntry) (cuts : List StackCut) → IsChain stack cuts → (j k : ℕ) → j < k → k < length cuts → ((cut cuts j).start < (cut cuts k).start) × ((cut cuts j).up ≤ (cut cuts k).up) × ((cut cuts k).low ≤ (cut cuts j).low)
chain-rises stack cuts c j zero l m = absurd (omega (arith, l))
chain-rises stack cuts c j (suc k) l m = elim (cases_eq j k) [
  | inl e ↦ let a = c.starts_rise k (omega (arith, m)) in let b = c.ups_rise k (omega (arith, m)) in let d = c.lows_fall k (omega (arith, m)) in
      (omega (arith, a, ap (λ (i : ℕ). (cut cuts i).start) e, ap (cut-start) (suc-one k)), omega (arith, b, ap (λ (i : ℕ). (cut cuts i).up) e, ap (cut-up) (suc-one k)), omega (arith, d, ap (λ (i : ℕ). (cut cuts i).low) e, ap (cut-low) (suc-one k)))
  | inr n ↦
      let r = chain-rises stack cuts c j k (omega (arith, l, n)) (omega (arith, m)) in
      let a = c.starts_rise k (omega (arith, m)) in let b = c.ups_rise k (omega (arith, m)) in let d = c.lows_fall k (omega (arith, m)) in
      (omega (arith, a, r.0, ap (cut-start) (suc-one k)), omega (arith, b, r.1, ap (cut-up) (suc-one k)), omega (arith, d, r.2, ap (cut-low) (suc-one k)))
]
  where
    suc-one : (i : ℕ) → i + 1 ≡ suc i
    suc-one i = omega arith

    cut-start : ℕ → ℕ
    cut-start i = (cut cuts i).start

    cut-up : ℕ → ℕ
    cut-up i = (cut cuts i).up

    cut-low : ℕ → ℕ
    cut-low i = (cut cuts i).low

module _ (last : ℕ → ℕ) (done v s t l h : ℕ) (old stack : List StackEntry) (rest : List Entry) (kept popped : List StackCut) (stands : IsStack last done v stack rest) (f : IsFront old stack t) (from : s < t)
    (size : length stack ≡ h + 1) (owned : owner (item stack h) ≡ v) (starts : (item stack h).start ≡ t) (below : t ≤ h) (leastup : IsLeastUp stack t l) (less : l < v)
    (sound : AreSound s v old (kept ++ popped)) (lower : (k : ℕ) → k < length kept → (cut kept k).up ≤ l) (higher : (k : ℕ) → k < length popped → l < (cut popped k).up) where
  -- a vertex behind v that is met on both sides of a place in front of t is so in front of t
  across-old : (u z : ℕ) → u ≤ t → v < z → IsAcross stack u z → IsAcross old u z
  across-old u z m g a = elim (cases_lt a.high t) [
    | inl b ↦ record {
      low = a.low;
      low_within = a.low_within;
      low_end = subst (λ (y : StackEntry). has_end z (entry y) ≡ true) (sym (f.same a.low (omega (arith, a.low_within, m)))) a.low_end;
      high = a.high;
      high_from = a.high_from;
      high_within = omega (arith, b, f.size);
      high_end = subst (λ (y : StackEntry). has_end z (entry y) ≡ true) (sym (f.same a.high b)) a.high_end;
    }
    | inr b ↦ absurd (top-apart last done v stack rest stands h t size starts z a.low a.high g (omega (arith, a.low_within, m)) b a.high_within a.low_end a.high_end)
  ]

  -- a cut that was sound, with its upper end as it is now
  sound-now : (c : StackCut) (a : ℕ) → IsSoundCut s v old c → IsLeastUp stack c.start a → a < v → IsSoundCut s v stack (record { start = c.start; up = a; low = c.low })
  sound-now c a x m b =
      let u : c.start < t = omega (arith, x.within, f.size) in
      record {
        from = x.from;
        within = omega (arith, u, f.within);
        starts = front-start old stack t f c.low c.start x.starts;
        below = elim x.below [ inl e ↦ inl e | inr e ↦ inr (front-below old stack t f s c.low e) ];
        least = m;
        up = b;
        across = λ z g w. x.across z g (across-old c.start z (omega (arith, u)) g w);
        own = λ n w. x.own n (before-front old stack t f c.start v (omega (arith, u)) w);
      }

  -- the least upper end from a place in front of t on
  least-now : (u a : ℕ) → u < t → IsLeastUp old u a → a ≤ l → IsLeastUp stack u a
  least-now u a m x b = record {
    least = λ i n w. elim (cases_lt i t) [
      | inl g ↦ omega (arith, x.least i n (omega (arith, g, f.size)), ap (λ (y : StackEntry). y.up) (f.same i g))
      | inr g ↦ omega (arith, b, leastup.least i g w)
    ];
    place = x.place;
    from = x.from;
    within = omega (arith, x.within, f.size, f.within);
    attained = ap (λ (y : StackEntry). y.up) (sym (f.same x.place (omega (arith, x.within, f.size)))) ∙ x.attained;
  }

  least-top : (u a : ℕ) → u ≤ t → IsLeastUp old u a → l ≤ a → IsLeastUp stack u l
  least-top u a m x b = record {
    least = λ i n w. elim (cases_lt i t) [
      | inl g ↦ omega (arith, x.least i n (omega (arith, g, f.size)), ap (λ (y : StackEntry). y.up) (f.same i g), b)
      | inr g ↦ leastup.least i g w
    ];
    place = leastup.place;
    from = omega (arith, m, leastup.from);
    within = leastup.within;
    attained = leastup.attained;
  }

  old-cut : (k : ℕ) → k < length kept → IsSoundCut s v old (cut kept k)
  old-cut k m = subst (IsSoundCut s v old) (cut-left kept popped k m) (sound.each k (omega (arith, m, length-append kept popped)))

  kept-sound : (k : ℕ) → k < length kept → IsSoundCut s v stack (cut kept k)
  kept-sound k m = let x = old-cut k m in sound-now (cut kept k) (cut kept k).up x (least-now (cut kept k).start (cut kept k).up (omega (arith, x.within, f.size)) x.least (lower k m)) x.up

  -- all cuts that are kept, and one more
  sound-push : (c : StackCut) → IsSoundCut s v stack c
      → ((k : ℕ) → k + 1 ≡ length kept → ((cut kept k).start < c.start) × ((cut kept k).up ≤ c.up) × (c.low ≤ (cut kept k).low) × ((i : ℕ) × ((cut kept k).start ≤ i) × (i < c.start) × (i < length stack) × ((item stack i).up ≡ (cut kept k).up)))
      → AreSound s v stack (kept ++ c ∷ [])
  sound-push c x last-two = record {
    each = λ k m. elim (cases_lt k (length kept)) [
      | inl a ↦ subst (IsSoundCut s v stack) (sym (cut-left kept (c ∷ []) k a)) (kept-sound k a)
      | inr a ↦ subst (IsSoundCut s v stack) (sym (cut-push kept c k (omega (arith, a, m, length-append kept (c ∷ []))))) x
    ];
    chain = record {
      starts_rise = λ k m. (two k m).0;
      ups_rise = λ k m. (two k m).1;
      lows_fall = λ k m. (two k m).2;
      met = λ k m. (two k m).3;
    };
  }
    where
      Two : StackCut → StackCut → Type 0
      Two a b = (a.start < b.start) × (a.up ≤ b.up) × (b.low ≤ a.low) × ((i : ℕ) × (a.start ≤ i) × (i < b.start) × (i < length stack) × ((item stack i).up ≡ a.up))

      two : (k : ℕ) → k + 1 < length (kept ++ c ∷ []) → Two (cut (kept ++ c ∷ []) k) (cut (kept ++ c ∷ []) (k + 1))
      two k m = elim (cases_lt (k + 1) (length kept)) [
        | inl a ↦
            let e : cut (kept ++ popped) k ≡ cut (kept ++ c ∷ []) k = cut-left kept popped k (omega (arith, a)) ∙ sym (cut-left kept (c ∷ []) k (omega (arith, a))) in
            let g : cut (kept ++ popped) (k + 1) ≡ cut (kept ++ c ∷ []) (k + 1) = cut-left kept popped (k + 1) a ∙ sym (cut-left kept (c ∷ []) (k + 1) a) in
            let n : k + 1 < length (kept ++ popped) = omega (arith, a, length-append kept popped) in
            let w = sound.chain.met k n in
            subst (λ (p : StackCut × StackCut). Two p.0 p.1) (λ i. (e i, g i)) (
              sound.chain.starts_rise k n,
              sound.chain.ups_rise k n,
              sound.chain.lows_fall k n,
              (w.0, w.1, w.2, omega (arith, w.3, f.size, f.within), ap (λ (y : StackEntry). y.up) (sym (f.same w.0 (omega (arith, w.3, f.size)))) ∙ w.4),
            )
        | inr a ↦
            let b : k + 1 ≡ length kept = omega (arith, a, m, length-append kept (c ∷ [])) in
            subst (λ (p : StackCut × StackCut). Two p.0 p.1) (λ i. (sym (cut-left kept (c ∷ []) k (omega (arith, b))) i, sym (cut-push kept c (k + 1) b) i)) (last-two k b)
      ]

  pub note-sound-new : popped ≡ [] → AreSound s v stack (kept ++ record { start = t; up = l; low = v } ∷ [])
  note-sound-new e = sound-push (record { start = t; up = l; low = v })
      (record {
        from = from;
        within = omega (arith, below, size);
        starts = record { place = h; within = omega (arith, size); owned = owned; starts = starts };
        below = inl refl;
        least = leastup;
        up = less;
        across = λ z g a. absurd (top-apart last done v stack rest stands h t size starts z a.low a.high g a.low_within a.high_from a.high_within a.low_end a.high_end);
        own = λ n w. absurd (n refl);
      })
      (λ k b. let x = old-cut k (omega (arith, b)) in let u : (cut kept k).start < t = omega (arith, x.within, f.size) in
      (u, lower k (omega (arith, b)), low-of (cut kept k).low x.below, (x.least.place, x.least.from, omega (arith, x.least.within, f.size), omega (arith, x.least.within, f.size, f.within), ap (λ (y : StackEntry). y.up) (sym (f.same x.least.place (omega (arith, x.least.within, f.size)))) ∙ x.least.attained)))
    where
      low-of : (b : ℕ) → (b ≡ v) ⊎ IsFirstBelow old s b → v ≤ b
      low-of b (inl q) = omega (arith, q)
      low-of b (inr q) = let g = front-below old stack t f s b q in omega (arith, stands.laid.finished g.place g.tree_at.within g.tree_at.tree, g.tree_at.low, stands.left.ahead)

  pub note-sound-old : (c : StackCut) (more : List StackCut) → popped ≡ c ∷ more → AreSound s v stack (kept ++ record { start = c.start; up = l; low = c.low } ∷ [])
  note-sound-old c more e =
      let z : cut (kept ++ popped) (length kept) ≡ c = ap (cut (kept ++ popped)) (omega arith) ∙ cut-right kept popped 0 ∙ ap (λ (p : List StackCut). cut p 0) e in
      let n : length kept < length (kept ++ popped) = omega (arith, length-append kept popped, ap length e) in
      let x : IsSoundCut s v old c = subst (IsSoundCut s v old) z (sound.each (length kept) n) in
      let g : l < c.up = omega (arith, higher 0 (omega (arith, ap length e)), ap (λ (p : List StackCut). (cut p 0).up) e) in
      sound-push (record { start = c.start; up = l; low = c.low }) (sound-now c l x (least-top c.start c.up (omega (arith, x.within, f.size)) x.least (omega (arith, g))) less)
      (λ k b.
      let p : cut (kept ++ popped) k ≡ cut kept k = cut-left kept popped k (omega (arith, b)) in
      let q : cut (kept ++ popped) (k + 1) ≡ c = ap (cut (kept ++ popped)) b ∙ z in
      let w = sound.chain.met k (omega (arith, b, n)) in (
        omega (arith, sound.chain.starts_rise k (omega (arith, b, n)), ap (λ (y : StackCut). y.start) p, ap (λ (y : StackCut). y.start) q),
        lower k (omega (arith, b)),
        omega (arith, sound.chain.lows_fall k (omega (arith, b, n)), ap (λ (y : StackCut). y.low) p, ap (λ (y : StackCut). y.low) q),
        (w.0, omega (arith, w.1, ap (λ (y : StackCut). y.start) p), omega (arith, w.2, ap (λ (y : StackCut). y.start) q), omega (arith, w.3, f.size, f.within), ap (λ (y : StackEntry). y.up) (sym (f.same w.0 (omega (arith, w.3, f.size)))) ∙ (w.4 ∙ ap (λ (y : StackCut). y.up) p)),
      ))

  -- a tree edge behind t that starts in front of t: there is none
  no-across : (p : ℕ) → p < length stack → (item stack p).tree ≡ true → t ≤ p → (item stack p).start < t → ⊥
  no-across p m q a b = elim (cases_eq p h) [
    | inl e ↦ omega (arith, b, ap (λ (k : ℕ). (item stack k).start) e, starts)
    | inr d ↦ elim (cases_Bool (item stack h).tree) [
      | inl g ↦ omega (arith, b, stands.laid.laminar h p (omega (arith, size)) g (omega (arith, starts, a)) (omega (arith, m, size, d)), starts)
      | inr g ↦ omega (arith, stands.laid.frond_start h (omega (arith, size)) g, starts, a, m, size, d)
    ]
  ]

  -- the vertex of which an entry is a dart is one of its ends
  owner-end : (i : ℕ) → has_end (owner (item stack i)) (entry (item stack i)) ≡ true
  owner-end i = elim (cases_Bool (item stack i).tree) [
    | inl e ↦ up-end (owner (item stack i)) (item stack i) (rw e refl)
    | inr e ↦ low-end (owner (item stack i)) (item stack i) (rw e refl)
  ]

  owner-tree : (i b : ℕ) → owner (item stack i) ≡ b → (item stack i).tree ≡ true → (item stack i).up ≡ b
  owner-tree i b o e = sym (rw e refl) ∙ o

  owner-frond : (i b : ℕ) → owner (item stack i) ≡ b → (item stack i).tree ≡ false → (item stack i).low ≡ b
  owner-frond i b o e = sym (rw e refl) ∙ o

  -- a dart of b inside what belongs to a tree edge: b is not above that edge
  owner-near : (p i b : ℕ) → p < length stack → (item stack p).tree ≡ true → (item stack p).start ≤ i → i < p → owner (item stack i) ≡ b → (item stack p).low ≤ b
  owner-near p i b m q a c o = elim (cases_Bool (item stack i).tree) [
    | inl e ↦ omega (arith, owner-tree i b o e, stands.laid.nearest p i m q a c e)
    | inr e ↦ omega (arith, owner-frond i b o e, (stands.laid.inside p i m q a (omega (arith, c))).0)
  ]

  -- where the stretch of a dart of b, from u up to t, has no upper end above v, it is a side without the top
  not-low : IsTopped stack rest h → (u b r : ℕ) → r < t → owner (item stack r) ≡ b → (item stack r).start ≡ u → (b ≡ v) ⊎ ((p : ℕ) × IsTreeAt stack b p × (p < t)) → ((y : ℕ) → l < y → y < b → IsBefore stack u y → ⊥) → ((i : ℕ) → u ≤ i → i < t → v ≤ (item stack i).up) → ⊥
  not-low topped u b r m o e below-b free ups = go below-b
    where
      test : ℕ → Bool
      test i = not (nat_lt i u) && nat_lt i t

      yes : (i : ℕ) → u ≤ i → i < t → test i ≡ true
      yes i a c = rw (le-ltb i u a, lt-ltb i t c) refl

      no-high : (i : ℕ) → t ≤ i → test i ≡ false
      no-high i a = elim (cases_lt i u) [ inl c ↦ rw (lt-ltb i u c) refl | inr c ↦ rw (le-ltb i u c, le-ltb i t a) refl ]

      parts : (i : ℕ) → test i ≡ true → (u ≤ i) × (i < t)
      parts i g = elim (cases_lt i t) [
        | inr a ↦ absurd (both_ways (test i) (no-high i a) g)
        | inl a ↦ elim (cases_lt i u) [ inr c ↦ (c, a) | inl c ↦ absurd (both_ways (test i) (rw (lt-ltb i u c) refl) g) ]
      ]

      outside : (i : ℕ) → test i ≡ false → (i < u) ⊎ (t ≤ i)
      outside i g = elim (cases_lt i u) [
        | inl c ↦ inl c
        | inr c ↦ elim (cases_lt i t) [ inr a ↦ inr a | inl a ↦ absurd (both_ways (test i) g (yes i c a)) ]
      ]

      r-in : r < length stack
      r-in = omega (arith, m, below, size)

      u-le : u ≤ r
      u-le = elim (cases_Bool (item stack r).tree) [ inl q ↦ omega (arith, e, stands.laid.tree_start r r-in q) | inr q ↦ omega (arith, e, stands.laid.frond_start r r-in q) ]

      b-v : v ≤ b
      b-v = elim below-b [ inl q ↦ omega (arith, q) | inr q ↦ omega (arith, stands.laid.finished q.0 q.1.within q.1.tree, q.1.low, stands.left.ahead) ]

      -- a vertex behind v that is met in the stretch and before it is b
      low-shared : (z i j : ℕ) → v < z → u ≤ i → i < t → j < u → has_end z (entry (item stack i)) ≡ true → has_end z (entry (item stack j)) ≡ true → z ≡ b
      low-shared z i j g a c d x y = elim (cases_eq z b) [
        | inl q ↦ q
        | inr n ↦ elim (cases_lt z b) [
          | inl k ↦ absurd (free z (omega (arith, g, less)) k (record { place = j; within = d; end = y }))
          | inr k ↦
              let p = stands.ended.held i z (omega (arith, c, below, size)) x g in
              let w = touching-tree last done v stack rest stands z p.0 i p.1 (omega (arith, c, below, size)) x in
              let y-in = touching-tree last done v stack rest stands z p.0 j p.1 (omega (arith, d, a, c, below, size)) y in
              absurd (elim (cases_lt r p.0) [
                | inl q ↦ omega (arith, owner-near p.0 r b p.1.within p.1.tree (omega (arith, y-in.0, d, u-le)) q o, p.1.low, k, n)
                | inr q ↦ elim (cases_eq p.0 r) [
                  | inl f-eq ↦ omega (arith, y-in.0, d, e, ap (λ (k : ℕ). (item stack k).start) f-eq)
                  | inr f-ne ↦ elim (cases_Bool (item stack r).tree) [
                    | inl tr ↦ omega (arith, y-in.0, d, stands.laid.laminar r p.0 r-in tr (omega (arith, e, a, w.1)) (omega (arith, q, f-ne)), e)
                    | inr tr ↦ omega (arith, stands.laid.frond_start r r-in tr, e, a, w.1, q, f-ne)
                  ]
                ]
              ])
        ]
      ]

      only : (z : ℕ) → IsShared stack rest (side_at stack test) z → (z ≡ b) ⊎ (z ≡ v)
      only z c =
          let i-test = sym (side-place stack rest stands.left.is_family test c.place c.within) ∙ c.on in
          let i = parts c.place i-test in
          let up-v = ups c.place i.0 i.1 in
          let z-v : v ≤ z = elim (item-ends z (item stack c.place) c.end) [ inl q ↦ omega (arith, q, up-v) | inr q ↦ omega (arith, q, up-v, (stands.laid.rises c.place c.within).0) ] in
          elim (cases_eq z v) [
            | inl q ↦ inr q
            | inr n ↦ let g : v < z = omega (arith, z-v, n) in elim c.other [
              | inr w ↦ let p = stands.ended.held c.place z c.within c.end g in absurd (both_ways (touches rest z) (stands.left.free z (omega (arith, stands.laid.finished p.0 p.1.within p.1.tree, p.1.low))) w)
              | inl j ↦ elim (outside j.0 (sym (side-place stack rest stands.left.is_family test j.0 j.1) ∙ j.2)) [
                | inl a ↦ inl (low-shared z c.place j.0 g i.0 i.1 a c.end j.3)
                | inr a ↦ absurd (top-apart last done v stack rest stands h t size starts z c.place j.0 g i.1 a j.1 c.end j.3)
              ]
            ]
          ]

      stop : (i j : ℕ) → i < j → u ≤ i → j < t → ⊥
      stop i j a c d = stretch-not last done v h stack rest stands (omega (arith, size)) topped test (no-high h below) i j a (omega (arith, d, below, size)) (yes i c (omega (arith, a, d))) (yes j (omega (arith, a, c)) d) b v only

      go : (b ≡ v) ⊎ ((p : ℕ) × IsTreeAt stack b p × (p < t)) → ⊥
      go (inl q) = elim (cases_Bool (item stack r).tree) [
        | inl tr ↦ stop u r (omega (arith, e, stands.laid.tree_start r r-in tr)) (omega arith) m
        | inr tr ↦ omega (arith, ups r u-le m, owner-frond r b o tr, q, (stands.laid.rises r r-in).0)
      ]
      go (inr q) =
          let w = touching-tree last done v stack rest stands b q.0 r q.1 r-in (subst (λ (k : ℕ). has_end k (entry (item stack r)) ≡ true) o (owner-end r)) in
          elim (cases_eq r q.0) [
            | inl f-eq ↦ omega (arith, owner-tree r b o (subst (λ (k : ℕ). (item stack k).tree ≡ true) (sym f-eq) q.1.tree), ap (λ (k : ℕ). (item stack k).low) f-eq, q.1.low, (stands.laid.rises r r-in).0)
            | inr f-ne ↦ stop r q.0 (omega (arith, w.1, f-ne)) u-le q.2
          ]

  -- a cut that is wanted now is kept, or it is the new one, or the one that changed
  pub note-complete-in : IsTopped stack rest h → AreComplete s v old (kept ++ popped) → (t' a b : ℕ) → IsWanted s stack t' a b → (b ≡ v) ⊎ IsFirstBelow stack s b → a < v
      → Contains kept (record { start = t'; up = a; low = b })
      ⊎ ((popped ≡ []) × (t' ≡ t) × (a ≡ l) × (b ≡ v))
      ⊎ ((c : StackCut) × (more : List StackCut) × (popped ≡ c ∷ more) × (t' ≡ c.start) × (a ≡ l) × (b ≡ c.low))
  note-complete-in topped complete t' a b w below-b less-a = elim (cases_lt w.starts.place t) [
    | inr far ↦ elim (cases_eq w.starts.place h) [
      | inr n ↦ absurd (inner w.starts.place far (omega (arith, w.starts.within, size, n)) w.starts.owned below-b)
      | inl e ↦
          let bv : b ≡ v = sym w.starts.owned ∙ (ap (λ (k : ℕ). owner (item stack k)) e ∙ owned) in
          let tt' : t' ≡ t = sym w.starts.starts ∙ (ap (λ (k : ℕ). (item stack k).start) e ∙ starts) in
          let al : a ≡ l = least-same stack t a l (subst (λ (k : ℕ). IsLeastUp stack k a) tt' w.least) leastup in
          elim (list-cases popped) [
            | inl q ↦ inr (inl (q, tt', al, bv))
            | inr q ↦
                let x = head-cut q.0 q.1 q.2 in
                absurd (w.free q.0.up (omega (arith, al, head-up q.0 q.1 q.2)) (omega (arith, bv, x.up)) (record { place = x.least.place; within = omega (arith, x.least.within, f.size, tt'); end = up-end q.0.up (item stack x.least.place) (sym x.least.attained ∙ ap (λ (y : StackEntry). y.up) (f.same x.least.place (omega (arith, x.least.within, f.size)))) }))
          ]
    ]
    | inl near ↦ front-case near (least-in old t' t (omega (arith, near, start-le near)))
  ]
    where
      list-cases : (p : List StackCut) → (p ≡ []) ⊎ ((c : StackCut) × (more : List StackCut) × (p ≡ c ∷ more))
      list-cases [] = inl refl
      list-cases (c ∷ more) = inr (c, more, refl)

      head-place : (c : StackCut) (more : List StackCut) → popped ≡ c ∷ more → (length kept < length (kept ++ popped)) × (cut (kept ++ popped) (length kept) ≡ c)
      head-place c more e = (omega (arith, length-append kept popped, ap length e), ap (cut (kept ++ popped)) (omega arith) ∙ cut-right kept popped 0 ∙ ap (λ (p : List StackCut). cut p 0) e)

      head-cut : (c : StackCut) (more : List StackCut) → popped ≡ c ∷ more → IsSoundCut s v old c
      head-cut c more e = let p = head-place c more e in subst (IsSoundCut s v old) p.1 (sound.each (length kept) p.0)

      head-up : (c : StackCut) (more : List StackCut) → popped ≡ c ∷ more → l < c.up
      head-up c more e = omega (arith, higher 0 (omega (arith, ap length e)), ap (λ (p : List StackCut). (cut p 0).up) e)

      -- an entry inside what belongs to the top is no dart of v or of a vertex whose entries start at s
      inner : (r : ℕ) → t ≤ r → r < h → owner (item stack r) ≡ b → (b ≡ v) ⊎ IsFirstBelow stack s b → ⊥
      inner r a c o q = elim (cases_Bool (item stack h).tree) [
        | inr tr ↦ omega (arith, stands.laid.frond_start h (omega (arith, size)) tr, starts, a, c)
        | inl tr ↦ elim q [
          | inl bv ↦ omega (arith, owner-near h r b (omega (arith, size)) tr (omega (arith, starts, a)) c o, bv, owner-tree h v owned tr, (stands.laid.rises h (omega (arith, size))).0)
          | inr g ↦
              let x = touching-tree last done v stack rest stands b g.place r g.tree_at (omega (arith, c, size)) (subst (λ (k : ℕ). has_end k (entry (item stack r)) ≡ true) o (owner-end r)) in
              no-across g.place g.tree_at.within g.tree_at.tree (omega (arith, a, x.1)) (omega (arith, g.starts, from))
        ]
      ]

      start-le : w.starts.place < t → t' ≤ w.starts.place
      start-le m = elim (cases_Bool (item stack w.starts.place).tree) [
        | inl q ↦ omega (arith, w.starts.starts, stands.laid.tree_start w.starts.place w.starts.within q)
        | inr q ↦ omega (arith, w.starts.starts, stands.laid.frond_start w.starts.place w.starts.within q)
      ]

      old-start : w.starts.place < t → IsStart old b t'
      old-start m = let e = sym (f.same w.starts.place m) in record { place = w.starts.place; within = omega (arith, m, f.size); owned = subst (λ (y : StackEntry). owner y ≡ b) e w.starts.owned; starts = subst (λ (y : StackEntry). y.start ≡ t') e w.starts.starts }

      old-below : (b ≡ v) ⊎ IsFirstBelow old s b
      old-below = elim below-b [
        | inl q ↦ inl q
        | inr g ↦ elim (cases_lt g.place t) [
          | inl a ↦ inr (below-front old stack t f s b g a)
          | inr a ↦ absurd (no-across g.place g.tree_at.within g.tree_at.tree a (omega (arith, g.starts, from)))
        ]
      ]

      tree-below : (b ≡ v) ⊎ ((p : ℕ) × IsTreeAt stack b p × (p < t))
      tree-below = elim below-b [
        | inl q ↦ inl q
        | inr g ↦ elim (cases_lt g.place t) [
          | inl a ↦ inr (g.place, g.tree_at, a)
          | inr a ↦ absurd (no-across g.place g.tree_at.within g.tree_at.tree a (omega (arith, g.starts, from)))
        ]
      ]

      b-v : v ≤ b
      b-v = elim tree-below [ inl q ↦ omega (arith, q) | inr q ↦ omega (arith, stands.laid.finished q.0 q.1.within q.1.tree, q.1.low, stands.left.ahead) ]

      Answer : Type 0
      Answer = Contains kept (record { start = t'; up = a; low = b }) ⊎ ((popped ≡ []) × (t' ≡ t) × (a ≡ l) × (b ≡ v)) ⊎ ((c : StackCut) × (more : List StackCut) × (popped ≡ c ∷ more) × (t' ≡ c.start) × (a ≡ l) × (b ≡ c.low))

      old-least : (a₀ : ℕ) → IsLeastIn old t' t a₀ → IsLeastUp old t' a₀
      old-least a₀ x = record { least = λ i m n. x.least i m (omega (arith, n, f.size)); place = x.place; from = x.from; within = omega (arith, x.within, f.size); attained = x.attained }

      -- what is wanted now was wanted, with the least upper end of then
      was : (m : w.starts.place < t) (a₀ : ℕ) → a ≤ a₀ → IsLeastUp old t' a₀ → a₀ < v → Contains (kept ++ popped) (record { start = t'; up = a₀; low = b })
      was m a₀ g x k = complete t' a₀ b (record { from = w.from; starts = old-start m; least = x; free = λ y c d o. w.free y (omega (arith, c, g)) d (front-before old stack t f t' y (omega (arith, start-le m, m)) o) }) old-below k

      front-case : w.starts.place < t → (a₀ : ℕ) × IsLeastIn old t' t a₀ → Answer
      front-case m x = elim (cases_lt l x.0) [
        | inr low ↦
            let e : a ≡ x.0 = least-same stack t' a x.0 w.least (least-now t' x.0 (omega (arith, start-le m, m)) (old-least x.0 x.1) low) in
            elim (Contains-append_cases kept popped (record { start = t'; up = x.0; low = b }) (was m x.0 (omega (arith, e)) (old-least x.0 x.1) (omega (arith, e, less-a)))) [
              | inl c ↦ inl (subst (λ (k : ℕ). Contains kept (record { start = t'; up = k; low = b })) (sym e) c)
              | inr c ↦ let p = place-of popped (record { start = t'; up = x.0; low = b }) no_cut c in absurd (omega (arith, higher p.0 p.1, ap (λ (y : StackCut). y.up) p.2, low))
            ]
        | inl high ↦
            let e : a ≡ l = least-same stack t' a l w.least (least-top t' x.0 (omega (arith, start-le m, m)) (old-least x.0 x.1) (omega (arith, high))) in
            elim (cases_lt x.0 v) [
              | inr g ↦ absurd (not-low topped t' b w.starts.place m w.starts.owned w.starts.starts tree-below (λ y c d o. w.free y (omega (arith, c, e)) d o) (λ i c d. omega (arith, x.1.least i c d, ap (λ (y : StackEntry). y.up) (f.same i d), g)))
              | inl g ↦ elim (Contains-append_cases kept popped (record { start = t'; up = x.0; low = b }) (was m x.0 (omega (arith, e, high)) (old-least x.0 x.1) g)) [
                | inl c ↦ let p = place-of kept (record { start = t'; up = x.0; low = b }) no_cut c in absurd (omega (arith, lower p.0 p.1, ap (λ (y : StackCut). y.up) p.2, high))
                | inr c ↦ inr (inr (changed x.0 (list-cases popped) (place-of popped (record { start = t'; up = x.0; low = b }) no_cut c) e))
              ]
            ]
      ]
        where
          changed : (a₀ : ℕ) → (popped ≡ []) ⊎ ((c : StackCut) × (more : List StackCut) × (popped ≡ c ∷ more)) → (i : ℕ) × (i < length popped) × (cut popped i ≡ record { start = t'; up = a₀; low = b }) → a ≡ l
              → (c : StackCut) × (more : List StackCut) × (popped ≡ c ∷ more) × (t' ≡ c.start) × (a ≡ l) × (b ≡ c.low)
          changed a₀ (inl q) p e = absurd (omega (arith, p.1, ap length q))
          changed a₀ (inr q) p e = elim (cases_eq p.0 0) [
            | inl z ↦
                let same : q.0 ≡ record { start = t'; up = a₀; low = b } = sym (ap (λ (k : List StackCut). cut k 0) q.2) ∙ (ap (cut popped) (sym z) ∙ p.2) in
                (q.0, q.1, q.2, sym (ap (λ (y : StackCut). y.start) same), e, sym (ap (λ (y : StackCut). y.low) same))
            | inr z ↦
                let n = head-place q.0 q.1 q.2 in
                let next : length kept + 1 < length (kept ++ popped) = omega (arith, length-append kept popped, p.1, z) in
                let met = sound.chain.met (length kept) next in
                let at : cut (kept ++ popped) (length kept + p.0) ≡ record { start = t'; up = a₀; low = b } = cut-right kept popped p.0 ∙ p.2 in
                let later : (cut (kept ++ popped) (length kept + 1)).start ≤ t' = elim (cases_eq p.0 1) [
                  | inl one ↦ omega (arith, ap (λ (k : ℕ). (cut (kept ++ popped) (length kept + k)).start) one, ap (λ (y : StackCut). y.start) at)
                  | inr more ↦ omega (arith, (chain-rises old (kept ++ popped) sound.chain (length kept + 1) (length kept + p.0) (omega (arith, z, more)) (omega (arith, length-append kept popped, p.1))).0, ap (λ (y : StackCut). y.start) at)
                ] in
                absurd (w.free q.0.up (omega (arith, e, head-up q.0 q.1 q.2)) (omega (arith, (head-cut q.0 q.1 q.2).up, b-v))
                (record { place = met.0; within = omega (arith, met.2, later); end = up-end q.0.up (item stack met.0) (sym (ap (λ (y : StackEntry). y.up) (sym (f.same met.0 (omega (arith, met.3, f.size)))) ∙ (met.4 ∙ ap (λ (y : StackCut). y.up) n.1))) }))
          ]

  pub note-complete-new : IsTopped stack rest h → AreComplete s v old (kept ++ popped) → popped ≡ [] → AreComplete s v stack (kept ++ record { start = t; up = l; low = v } ∷ [])
  note-complete-new topped complete e = λ t' a b w q less-a. elim (note-complete-in topped complete t' a b w q less-a) [
    | inl c ↦ Contains-append_left kept (record { start = t; up = l; low = v } ∷ []) (record { start = t'; up = a; low = b }) c
    | inr o ↦ elim o [
      | inl c ↦ subst (λ (y : StackCut). Contains (kept ++ record { start = t; up = l; low = v } ∷ []) y) (λ i. record { start = sym c.1 i; up = sym c.2 i; low = sym c.3 i }) (Contains-push kept (record { start = t; up = l; low = v }))
      | inr c ↦ absurd (omega (arith, ap length e, ap length c.2))
    ]
  ]

  pub note-complete-old : IsTopped stack rest h → AreComplete s v old (kept ++ popped) → (c : StackCut) (more : List StackCut) → popped ≡ c ∷ more → AreComplete s v stack (kept ++ record { start = c.start; up = l; low = c.low } ∷ [])
  note-complete-old topped complete c more e = λ t' a b w q less-a. elim (note-complete-in topped complete t' a b w q less-a) [
    | inl d ↦ Contains-append_left kept (record { start = c.start; up = l; low = c.low } ∷ []) (record { start = t'; up = a; low = b }) d
    | inr o ↦ elim o [
      | inl d ↦ absurd (omega (arith, ap length e, ap length d.0))
      | inr d ↦
          let same : d.0 ≡ c = head-same d.0 c d.1 more (sym d.2 ∙ e) in
          subst (λ (y : StackCut). Contains (kept ++ record { start = c.start; up = l; low = c.low } ∷ []) y) (λ i. record { start = sym (d.3 ∙ ap (λ (y : StackCut). y.start) same) i; up = sym d.4 i; low = sym (d.5 ∙ ap (λ (y : StackCut). y.low) same) i }) (Contains-push kept (record { start = c.start; up = l; low = c.low }))
    ]
  ]
    where
      head-same : (x y : StackCut) (xs ys : List StackCut) → x ∷ xs ≡ y ∷ ys → x ≡ y
      head-same x y xs ys h = ap (λ (p : List StackCut). cut p 0) h
