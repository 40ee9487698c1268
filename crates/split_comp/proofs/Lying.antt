-- How entries lie in the stack: what belongs to tree edges and to darts.
use Rattle.std.proofs.Common.{◌≡◌, ◌≢◌, ℕ, zero, suc, ◌+◌, ◌<◌, ◌≤◌, inl, inr, Bool, true, false, List, length, refl, sym, ap, ◌∙◌, subst, arith}
use Rattle.std.proofs.lemmas.Bool.{cases_Bool, cases_lt, cases_eq, both_ways, not_from_false}
use Rattle.pair_split.specs.Family.{Entry, has_end, is_common}
use Rattle.pair_split.proofs.Sides.{common-from}
use Rattle.split_comp.specs.declared.items.StackEntry.{StackEntry}
use Rattle.split_comp.specs.Stack.{item, entry, family, owner, IsTreeAt, IsStack}
use Rattle.split_comp.specs.Frames.{AreFrames}
use Rattle.split_comp.proofs.Entries.{up-end, low-end, stack-contains}
use Rattle.split_comp.proofs.LeastUp.{touching-tree}

-- the vertex of which an entry is a dart is one of its ends
pub owner-end : (x : StackEntry) → has_end (owner x) (entry x) ≡ true
owner-end x = elim (cases_Bool x.tree) [
  | inl e ↦ up-end (owner x) x (rw e refl)
  | inr e ↦ low-end (owner x) x (rw e refl)
]

pub owner-tree : (x : StackEntry) (b : ℕ) → owner x ≡ b → x.tree ≡ true → x.up ≡ b
owner-tree x b o e = sym (rw e refl) ∙ o

pub owner-frond : (x : StackEntry) (b : ℕ) → owner x ≡ b → x.tree ≡ false → x.low ≡ b
owner-frond x b o e = sym (rw e refl) ∙ o

pub tree-owner : (x : StackEntry) → x.tree ≡ true → owner x ≡ x.up
tree-owner x e = rw e refl

pub frond-owner : (x : StackEntry) → x.tree ≡ false → owner x ≡ x.low
frond-owner x e = rw e refl

module _ (last : ℕ → ℕ) (done v : ℕ) (stack : List StackEntry) (rest : List Entry) (s : IsStack last done v stack rest) where
  -- a vertex has one tree edge
  pub same-tree : (x p q : ℕ) → IsTreeAt stack x p → IsTreeAt stack x q → p ≡ q
  same-tree x p q a b =
      let c = touching-tree last done v stack rest s x p q a b.within (low-end x (item stack q) (sym b.low)) in
      let d = touching-tree last done v stack rest s x q p b a.within (low-end x (item stack p) (sym a.low)) in
      omega (arith, c.1, d.1)

  -- the start of an entry is not behind it
  pub start-at : (i : ℕ) → i < length stack → (item stack i).start ≤ i
  start-at i l = elim (cases_Bool (item stack i).tree) [ inl q ↦ omega (arith, s.laid.tree_start i l q) | inr q ↦ omega (arith, s.laid.frond_start i l q) ]

  -- a dart of b inside what belongs to a tree edge: b is not above that edge
  pub owner-near : (p i b : ℕ) → p < length stack → (item stack p).tree ≡ true → (item stack p).start ≤ i → i < p → owner (item stack i) ≡ b → (item stack p).low ≤ b
  owner-near p i b m q a c o = elim (cases_Bool (item stack i).tree) [
    | inl e ↦ omega (arith, owner-tree (item stack i) b o e, s.laid.nearest p i m q a c e)
    | inr e ↦ omega (arith, owner-frond (item stack i) b o e, (s.laid.inside p i m q a (omega (arith, c))).0)
  ]

  -- the tree edge of the vertex of which an entry is a dart
  pub held-owner : (i : ℕ) → i < length stack → v < owner (item stack i) → (p : ℕ) × IsTreeAt stack (owner (item stack i)) p × ((item stack p).start ≤ i) × (i < p)
  held-owner i l g =
      let p = s.ended.held i (owner (item stack i)) l (owner-end (item stack i)) g in
      let w = touching-tree last done v stack rest s (owner (item stack i)) p.0 i p.1 l (owner-end (item stack i)) in
      elim (cases_eq i p.0) [
        | inr n ↦ (p.0, p.1, w.0, omega (arith, w.1, n))
        | inl e ↦ absurd (omega (arith, owner-tree (item stack i) (owner (item stack i)) refl (subst (λ (k : ℕ). (item stack k).tree ≡ true) (sym e) p.1.tree), ap (λ (k : ℕ). (item stack k).low) e, p.1.low, (s.laid.rises i l).0))
      ]

  -- what belongs to two darts of one vertex is apart
  pub darts-apart : (r q : ℕ) → r < q → q < length stack → owner (item stack r) ≡ owner (item stack q) → r < (item stack q).start
  darts-apart r q l m e = elim (cases_lt r (item stack q).start) [
    | inl a ↦ a
    | inr a ↦ elim (cases_Bool (item stack q).tree) [
      | inr f ↦ omega (arith, l, s.laid.frond_start q m f)
      | inl t ↦ absurd (omega (arith, owner-near q r (owner (item stack q)) m t a l e, owner-tree (item stack q) (owner (item stack q)) refl t, (s.laid.rises q m).0))
    ]
  ]

  -- a dart over an entry that has another one over it
  over : (r q i : ℕ) → r < length stack → (item stack r).start ≤ q → q ≤ r → (item stack q).start ≤ i → i < q → ((item stack r).start ≤ i) × (i ≤ r)
  over r q i l a b c d = elim (cases_eq q r) [
    | inl e ↦ (omega (arith, c, ap (λ (k : ℕ). (item stack k).start) e), omega (arith, b, d))
    | inr n ↦ elim (cases_Bool (item stack r).tree) [
      | inr f ↦ absurd (omega (arith, s.laid.frond_start r l f, a, b, n))
      | inl t ↦ (omega (arith, s.laid.laminar r q l t a (omega (arith, b, n)), c), omega (arith, b, d))
    ]
  ]

  -- a dart over an entry
  pub record IsOver (b m i : ℕ) : Type 0 where
    pub dart : ℕ
    pub within : dart < m
    pub owned : owner (item stack dart) ≡ b
    pub from : (item stack dart).start ≤ i
    pub to : i ≤ dart

  pub owner-low : (k : ℕ) → k < length stack → owner (item stack k) ≤ (item stack k).low
  owner-low k m = elim (cases_Bool (item stack k).tree) [ inl e ↦ omega (arith, tree-owner (item stack k) e, (s.laid.rises k m).0) | inr e ↦ omega (arith, frond-owner (item stack k) e) ]

  -- the tree edge of the vertex of which an entry below a tree edge is a dart is not behind that edge
  pub owner-in : (p i q : ℕ) → p < length stack → (item stack p).tree ≡ true → (item stack p).start ≤ i → i < p → IsTreeAt stack (owner (item stack i)) q → q ≤ p
  owner-in p i q l t a b w =
      let near = owner-near p i (owner (item stack i)) l t a b refl in
      let inside = s.laid.inside p i l t a (omega (arith, b)) in
      elim (cases_lt p q) [
        | inr k ↦ k
        | inl k ↦ absurd (elim (s.laid.outside p q l t w.within (inr k)) [ inl x ↦ omega (arith, x, w.low, near) | inr x ↦ omega (arith, x, w.low, owner-low i (omega (arith, b, l)), inside.1) ])
      ]

  -- each entry below the lower end of a tree edge belongs to a dart of it
  over-below : (p fuel i : ℕ) → p < length stack → (item stack p).tree ≡ true → (item stack p).start ≤ i → i < p → p < i + fuel → IsOver (item stack p).low p i
  over-below p zero i l t a b f = absurd (omega (arith, b, f))
  over-below p (suc fuel) i l t a b f = elim (cases_eq (owner (item stack i)) (item stack p).low) [
    | inl e ↦ record { dart = i; within = b; owned = e; from = start-at i (omega (arith, b, l)); to = omega arith }
    | inr n ↦
        let near = owner-near p i (owner (item stack i)) l t a b refl in
        let q = held-owner i (omega (arith, b, l)) (omega (arith, near, s.laid.finished p l t, s.left.ahead)) in
        let q-in : q.0 ≤ p = owner-in p i q.0 l t a b q.1 in
        let q-less : q.0 < p = elim (cases_eq q.0 p) [ inl k ↦ absurd (n (sym q.1.low ∙ ap (λ (j : ℕ). (item stack j).low) k)) | inr k ↦ omega (arith, k, q-in) ] in
        let r = over-below p fuel q.0 l t (omega (arith, a, q.3)) q-less (omega (arith, f, q.3)) in
        let w = over r.dart q.0 i (omega (arith, r.within, l)) r.from r.to q.2 q.3 in
        record { dart = r.dart; within = r.within; owned = r.owned; from = w.0; to = w.1 }
  ]

  pub dart-over : (p i : ℕ) → p < length stack → (item stack p).tree ≡ true → (item stack p).start ≤ i → i < p → IsOver (item stack p).low p i
  dart-over p i l t a b = over-below p (suc p) i l t a b (omega arith)

  -- each entry from the start of v on belongs to a dart of v
  over-path : (start : ℕ → ℕ) → v ≢ 0 → AreFrames last v start stack → (fuel i : ℕ) → start v ≤ i → i < length stack → length stack < i + fuel → IsOver v (length stack) i
  over-path start n f zero i a b c = absurd (omega (arith, b, c))
  over-path start n f (suc fuel) i a b c = elim (cases_eq (owner (item stack i)) v) [
    | inl e ↦ record { dart = i; within = b; owned = e; from = start-at i b; to = omega arith }
    | inr d ↦
        let q = held-owner i b (omega (arith, d, up-v)) in
        let r = over-path start n f fuel q.0 (omega (arith, a, q.3)) q.1.within (omega (arith, c, q.3)) in
        let w = over r.dart q.0 i r.within r.from r.to q.2 q.3 in
        record { dart = r.dart; within = r.within; owned = r.owned; from = w.0; to = w.1 }
  ]
    where
      up-v : v ≤ owner (item stack i)
      up-v = elim (cases_Bool (item stack i).tree) [
        | inl e ↦ omega (arith, tree-owner (item stack i) e, f.tree_up v i n (omega arith, s.above v) a b e)
        | inr e ↦ omega (arith, frond-owner (item stack i) e, (f.from v i n (omega arith, s.above v) a b).0)
      ]

  pub dart-over-path : (start : ℕ → ℕ) → v ≢ 0 → AreFrames last v start stack → (i : ℕ) → start v ≤ i → i < length stack → IsOver v (length stack) i
  dart-over-path start n f i a b = over-path start n f (suc (length stack)) i a b (omega arith)

  -- two entries at a vertex that is not common are on the same side
  pub same-side : (t : ℕ → Bool) (z i j : ℕ) → i < length stack → j < length stack → has_end z (entry (item stack i)) ≡ true → has_end z (entry (item stack j)) ≡ true → is_common (family stack rest) t z ≡ false → t (item stack i).name ≡ t (item stack j).name
  same-side t z i j l m a b c = elim (cases_Bool (t (item stack i).name)) [
    | inl x ↦ elim (cases_Bool (t (item stack j).name)) [ inl y ↦ x ∙ sym y | inr y ↦ absurd (both_ways (is_common (family stack rest) t z) c (common i j l m a b x y)) ]
    | inr x ↦ elim (cases_Bool (t (item stack j).name)) [ inr y ↦ x ∙ sym y | inl y ↦ absurd (both_ways (is_common (family stack rest) t z) c (common j i m l b a y x)) ]
  ]
    where
      common : (i j : ℕ) → i < length stack → j < length stack → has_end z (entry (item stack i)) ≡ true → has_end z (entry (item stack j)) ≡ true → t (item stack i).name ≡ true → t (item stack j).name ≡ false → is_common (family stack rest) t z ≡ true
      common i j l m a b x y = common-from (family stack rest) t z
          (record { entry = entry (item stack i); within = stack-contains stack rest i l; side = x; end = a })
          (record { entry = entry (item stack j); within = stack-contains stack rest j m; side = not_from_false (t (item stack j).name) y; end = b })

  -- a side with no common vertex among those that have their tree edges in a stretch of the stack is all or nothing on it
  constant : (t : ℕ → Bool) (p : ℕ) → p < length stack → (item stack p).tree ≡ true
      → ((r : ℕ) → (item stack p).start ≤ r → r ≤ p → (item stack r).tree ≡ true → is_common (family stack rest) t (item stack r).low ≡ false)
      → (fuel i : ℕ) → (item stack p).start ≤ i → i ≤ p → p < i + fuel → t (item stack i).name ≡ t (item stack p).name
  constant t p l tr h zero i a b f = absurd (omega (arith, b, f))
  constant t p l tr h (suc fuel) i a b f = elim (cases_eq i p) [
    | inl e ↦ ap (λ (k : ℕ). t (item stack k).name) e
    | inr n ↦
        let q = held-owner i (omega (arith, b, l)) (omega (arith, owner-near p i (owner (item stack i)) l tr a (omega (arith, b, n)) refl, s.laid.finished p l tr, s.left.ahead)) in
        let q-in : q.0 ≤ p = owner-in p i q.0 l tr a (omega (arith, b, n)) q.1 in
        same-side t (owner (item stack i)) i q.0 (omega (arith, b, l)) q.1.within (owner-end (item stack i)) (low-end (owner (item stack i)) (item stack q.0) (sym q.1.low))
        (subst (λ (k : ℕ). is_common (family stack rest) t k ≡ false) q.1.low (h q.0 (omega (arith, a, q.3)) q-in q.1.tree))
        ∙ constant t p l tr h fuel q.0 (omega (arith, a, q.3)) q-in (omega (arith, f, q.3))
  ]

  pub constant-below : (t : ℕ → Bool) (p : ℕ) → p < length stack → (item stack p).tree ≡ true
      → ((r : ℕ) → (item stack p).start ≤ r → r ≤ p → (item stack r).tree ≡ true → is_common (family stack rest) t (item stack r).low ≡ false)
      → (i : ℕ) → (item stack p).start ≤ i → i ≤ p → t (item stack i).name ≡ t (item stack p).name
  constant-below t p l tr h i a b = constant t p l tr h (suc p) i a b (omega arith)
