-- Positions that were written for all vertices that are on one of the first contours.
use Rattle.std.proofs.Common.{◌≡◌, ◌≢◌, inl, inr, ℕ, suc, ◌+◌, ◌*◌, ◌<◌, ◌≤◌, ◌^◌, true, List, [], ◌∷◌, ◌++◌, length, take, drop, slice_index, slice_set, append-nil, arith, sym, ap, ap₂, ◌∙◌, subst}
use Rattle.std.proofs.Math.ListN.{length-set}
use Rattle.std.proofs.lemmas.List.{length-append, drop_all, take_all}
use Rattle.std.proofs.lemmas.Bool.{both_ways, cases_Bool, cases_lt, false≢true}
use Rattle.permutations.specs.Members.{is_member}
use Rattle.permutations.proofs.Members.{member-head, member-tail, member-cases, member-append_right}
use Rattle.canonical_orders.specs.Order.{Removed}
use Rattle.shift_method.specs.Shapes.{ShapeState}
use Rattle.shift_method.specs.Peeled.{IsPeeled, removed_at, IsInnerHead, KeepsAll, ArePositions}
use Rattle.shift_method.proofs.Orders.{row_at, vertex_at, stays-below, row-stays, left-on, right-on, among-inner, inner-among, inner-later, later-row, stretched, left-right}
use Rattle.shift_method.proofs.Stages.{row-first, top-apart, some-order}
use Rattle.shift_method.proofs.Writes.{same-at, other-at}

-- each vertex on one of the contours up to number i has its position
pub record AreReached (n left right : ℕ) (order : List Removed) (p : IsPeeled n left right order) (x : ℕ → ℕ) (i : ℕ) (l : List ℕ) : Type 0 where
  pub size : length l ≡ n
  pub there : (j v : ℕ) → j ≤ i → is_member v (row_at n left right order p j) ≡ true → slice_index l v ≡ x v

module _ (n left right : ℕ) (order : List Removed) (p : IsPeeled n left right order) where
  abbrev top : ℕ
  top = (removed_at order 0).0

  vertex-on : (k : ℕ) (l : k < length order) → is_member (vertex_at n left right order p k) (row_at n left right order p k) ≡ true
  vertex-on k l = let c = stretched n left right order p k l in ap (is_member (vertex_at n left right order p k)) c.row_is
      ∙ member-append_right (vertex_at n left right order p k) c.front (c.left ∷ vertex_at n left right order p k ∷ c.right ∷ c.back)
      (member-tail (vertex_at n left right order p k) c.left (vertex_at n left right order p k ∷ c.right ∷ c.back) (member-head (vertex_at n left right order p k) (c.right ∷ c.back)))

  pub on-below : (k v : ℕ) → k ≤ length order → is_member v (row_at n left right order p k) ≡ true → v < n
  on-below k v l i = stays-below n left right order p k v (row-stays n left right order p k l v i)

  pub vertex-below : (k : ℕ) → k < length order → (removed_at order k).0 < n
  vertex-below k l = on-below k (removed_at order k).0 (omega arith) (vertex-on k l)

  pub inner-below : (k : ℕ) → k < length order → (v : ℕ) → IsInnerHead (removed_at order k).1 v → v < n
  inner-below k l v i = on-below (suc k) v (omega arith) (inner-later n left right order p k l v i)

  pub two-heads : (k : ℕ) → k < length order → 2 ≤ length (removed_at order k).1
  two-heads k l = let c = stretched n left right order p k l in omega (arith, ap (λ (h : List ℕ). length h) c.stretch, length-append {A = ℕ} c.inner (c.right ∷ []))

  pub left-below : left < n
  left-below = on-below 0 left (omega arith) (left-on n left right order p 0 (omega arith))

  pub right-below : right < n
  right-below = on-below 0 right (omega arith) (right-on n left right order p 0 (omega arith))

  module _ (s : ShapeState) (x : ℕ → ℕ) (a : ArePositions n left right order s x) where
    -- the first three
    pub reached-first : (l : List ℕ) → length l ≡ n
        → AreReached n left right order p x 0 (slice_set (slice_set (slice_set l left 0) top (slice_index s.gap top)) right (slice_index s.gap top + slice_index s.gap right))
    reached-first l e = record {
      size = length-set m right (slice_index s.gap top + slice_index s.gap right) ∙ m-size;
      there = λ j v h i. three v (subst (λ (z : List ℕ). is_member v z ≡ true) (row-first n left right order p) (subst (λ (k : ℕ). is_member v (row_at n left right order p k) ≡ true) (omega (arith, h)) i));
    }
      where
        k : List ℕ
        k = slice_set l left 0

        m : List ℕ
        m = slice_set k top (slice_index s.gap top)

        k-size : length k ≡ n
        k-size = length-set l left 0 ∙ e

        m-size : length m ≡ n
        m-size = length-set k top (slice_index s.gap top) ∙ k-size

        apart : (top ≢ left) × (top ≢ right)
        apart = top-apart n left right order p

        at-left : slice_index (slice_set m right (slice_index s.gap top + slice_index s.gap right)) left ≡ x left
        at-left = other-at m right (slice_index s.gap top + slice_index s.gap right) left (left-right n left right order p) ∙ other-at k top (slice_index s.gap top) left (λ q. apart.0 (sym q))
            ∙ same-at l left 0 (subst (λ (z : ℕ). left < z) (sym e) left-below) ∙ sym a.at_left

        at-top : slice_index (slice_set m right (slice_index s.gap top + slice_index s.gap right)) top ≡ x top
        at-top = other-at m right (slice_index s.gap top + slice_index s.gap right) top apart.1 ∙ same-at k top (slice_index s.gap top) (subst (λ (z : ℕ). top < z) (sym k-size) (vertex-below 0 (some-order n left right order p))) ∙ sym a.at_top

        at-right : slice_index (slice_set m right (slice_index s.gap top + slice_index s.gap right)) right ≡ x right
        at-right = same-at m right (slice_index s.gap top + slice_index s.gap right) (subst (λ (z : ℕ). right < z) (sym m-size) right-below) ∙ sym a.at_right

        three : (v : ℕ) → is_member v (left ∷ top ∷ right ∷ []) ≡ true → slice_index (slice_set m right (slice_index s.gap top + slice_index s.gap right)) v ≡ x v
        three v i = elim (member-cases v left (top ∷ right ∷ []) i) [
          | inl q ↦ subst (λ (z : ℕ). slice_index (slice_set m right (slice_index s.gap top + slice_index s.gap right)) z ≡ x z) q at-left
          | inr j ↦ elim (member-cases v top (right ∷ []) j) [
            | inl q ↦ subst (λ (z : ℕ). slice_index (slice_set m right (slice_index s.gap top + slice_index s.gap right)) z ≡ x z) q at-top
            | inr h ↦ elim (member-cases v right [] h) [
              | inl q ↦ subst (λ (z : ℕ). slice_index (slice_set m right (slice_index s.gap top + slice_index s.gap right)) z ≡ x z) q at-right
              | inr b ↦ absurd (false≢true b)
            ]
          ]
        ]

    module _ (k : ℕ) (h : k < length order) (l : List ℕ) (r : AreReached n left right order p x k l) where
      pub vertex-there : slice_index l (removed_at order k).0 ≡ x (removed_at order k).0
      vertex-there = r.there k (removed_at order k).0 (omega arith) (vertex-on k h)

      pub room-there : slice_index s.half (removed_at order k).0 ≤ slice_index l (removed_at order k).0
      room-there = omega (arith, vertex-there, a.room k h)

      pub fits-there : 2 * n ≤ 2 ^ 32 → (v : ℕ) → IsInnerHead (removed_at order k).1 v → slice_index l (removed_at order k).0 + slice_index s.offset v < slice_index s.half (removed_at order k).0 + 2 ^ 32
      fits-there small v i = omega (arith, small, vertex-there, a.kept k (omega arith) h v i, a.wide v (inner-below k h v i))

      -- once the inner heads of vertex k have their positions
      pub reached-on : (m : List ℕ) → length m ≡ length l
          → ((v : ℕ) → IsInnerHead (removed_at order k).1 v → slice_index m v + slice_index s.half (removed_at order k).0 ≡ slice_index l (removed_at order k).0 + slice_index s.offset v)
          → ((v : ℕ) → (IsInnerHead (removed_at order k).1 v → ⊥) → slice_index m v ≡ slice_index l v) → AreReached n left right order p x (k + 1) m
      reached-on m e inner others = record { size = e ∙ r.size; there = there }
        where
          new : (v : ℕ) → IsInnerHead (removed_at order k).1 v → slice_index m v ≡ x v
          new v i = omega (arith, inner v i, vertex-there, a.kept k (omega arith) h v i)

          old : (v : ℕ) → slice_index l v ≡ x v → slice_index m v ≡ x v
          old v q = elim (cases_Bool (is_member v (stretched n left right order p k h).inner)) [
            | inl i ↦ new v (among-inner n left right order p k h v i)
            | inr i ↦ others v (λ j. both_ways (is_member v (stretched n left right order p k h).inner) i (inner-among n left right order p k h v j)) ∙ q
          ]

          there : (j v : ℕ) → j ≤ k + 1 → is_member v (row_at n left right order p j) ≡ true → slice_index m v ≡ x v
          there j v b i = elim (cases_lt k j) [
            | inr c ↦ old v (r.there j v c i)
            | inl c ↦ let q : j ≡ suc k = omega (arith, b, c) in elim (later-row n left right order p k h v (subst (λ (z : ℕ). is_member v (row_at n left right order p z) ≡ true) q i)) [
              | inl f ↦ old v (r.there k v (omega arith) f)
              | inr f ↦ new v f
            ]
          ]

    -- in the end
    module _ (l : List ℕ) (r : AreReached n left right order p x (length order) l) where
      pub left-there : slice_index l left ≡ 0
      left-there = r.there 0 left (omega arith) (left-on n left right order p 0 (omega arith)) ∙ a.at_left

      pub top-there : slice_index l (removed_at order 0).0 ≡ slice_index s.gap (removed_at order 0).0
      top-there = r.there 0 (removed_at order 0).0 (omega arith) (vertex-on 0 (some-order n left right order p)) ∙ a.at_top

      pub right-there : slice_index l right ≡ slice_index s.gap (removed_at order 0).0 + slice_index s.gap right
      right-there = r.there 0 right (omega arith) (right-on n left right order p 0 (omega arith)) ∙ a.at_right

      pub kept-there : KeepsAll (slice_index l) s order 0
      kept-there i b h v j = omega (arith, r.there i (removed_at order i).0 (omega (arith, h)) (vertex-on i h), r.there (suc i) v (omega (arith, h)) (inner-later n left right order p i h v j), a.kept i b h v j)

    -- the same, as the code has it
    pub first-told : (l : List ℕ) → length l ≡ n → (t g h i : ℕ) → t ≡ (removed_at order 0).0 → g ≡ slice_index s.gap t → h ≡ slice_index s.gap t → i ≡ slice_index s.gap right
        → AreReached n left right order p x 0 (slice_set (slice_set (slice_set l left 0) t g) right (h + i))
    first-told l e t g h i et eg eh ei = subst (λ (r : List ℕ). AreReached n left right order p x 0 r) (sym all) (reached-first l e)
      where
        all : slice_set (slice_set (slice_set l left 0) t g) right (h + i) ≡ slice_set (slice_set (slice_set l left 0) (removed_at order 0).0 (slice_index s.gap (removed_at order 0).0)) right (slice_index s.gap (removed_at order 0).0 + slice_index s.gap right)
        all = ap₂ (λ (u v : ℕ). slice_set (slice_set (slice_set l left 0) t u) right v) eg (ap₂ (λ (u v : ℕ). u + v) eh ei)
            ∙ ap (λ (u : ℕ). slice_set (slice_set (slice_set l left 0) u (slice_index s.gap u)) right (slice_index s.gap u + slice_index s.gap right)) et

    module _ (k : ℕ) (h : k < length order) (r : Removed) (e : r ≡ removed_at order k) (l m : List ℕ) (f : m ≡ l) (here : AreReached n left right order p x k l) where
      pub two-told : 2 ≤ length r.1
      two-told = subst (λ (q : Removed). 2 ≤ length q.1) (sym e) (two-heads k h)

      now-size : length m ≡ n
      now-size = ap (λ (q : List ℕ). length q) f ∙ here.size

      pub vertex-told : r.0 < length m
      vertex-told = subst (λ (q : Removed). q.0 < length m) (sym e) (subst (λ (b : ℕ). (removed_at order k).0 < b) (sym now-size) (vertex-below k h))

      pub heads-told : (v : ℕ) → IsInnerHead r.1 v → v < length m
      heads-told v j = subst (λ (b : ℕ). v < b) (sym now-size) (inner-below k h v (subst (λ (q : Removed). IsInnerHead q.1 v) e j))

      pub room-told : slice_index s.half r.0 ≤ slice_index m r.0
      room-told = subst (λ (q : Removed). slice_index s.half q.0 ≤ slice_index m q.0) (sym e) (subst (λ (q : List ℕ). slice_index s.half (removed_at order k).0 ≤ slice_index q (removed_at order k).0) (sym f) (room-there k h l here))

      pub fits-told : 2 * n ≤ 2 ^ 32 → (v : ℕ) → IsInnerHead r.1 v → slice_index m r.0 + slice_index s.offset v < slice_index s.half r.0 + 2 ^ 32
      fits-told small v j = subst (λ (q : Removed). slice_index m q.0 + slice_index s.offset v < slice_index s.half q.0 + 2 ^ 32) (sym e)
          (subst (λ (q : List ℕ). slice_index q (removed_at order k).0 + slice_index s.offset v < slice_index s.half (removed_at order k).0 + 2 ^ 32) (sym f)
          (fits-there k h l here small v (subst (λ (q : Removed). IsInnerHead q.1 v) e j)))

      pub reached-told : (o : List ℕ) → length o ≡ length m → ((v : ℕ) → IsInnerHead r.1 v → slice_index o v + slice_index s.half r.0 ≡ slice_index m r.0 + slice_index s.offset v)
          → ((v : ℕ) → (IsInnerHead r.1 v → ⊥) → slice_index o v ≡ slice_index m v) → AreReached n left right order p x (k + 1) o
      reached-told o b inner others = reached-on k h l here o (b ∙ ap (λ (q : List ℕ). length q) f)
          (λ v j. subst (λ (q : List ℕ). slice_index o v + slice_index s.half (removed_at order k).0 ≡ slice_index q (removed_at order k).0 + slice_index s.offset v) f
          (subst (λ (q : Removed). slice_index o v + slice_index s.half q.0 ≡ slice_index m q.0 + slice_index s.offset v) e (inner v (subst (λ (q : Removed). IsInnerHead q.1 v) (sym e) j))))
          (λ v j. others v (λ i. j (subst (λ (q : Removed). IsInnerHead q.1 v) e i)) ∙ ap (λ (q : List ℕ). slice_index q v) f)

-- a list that was lent as a whole and given back
pub given-back : (c : ℕ) (a b : List ℕ) → length a ≡ length b → c ≡ length b → take c (a ++ drop (length a) b) ≡ a
given-back c a b e f = ap (λ (q : List ℕ). take c (a ++ q)) (drop_all (length a) b (omega (arith, e))) ∙ ap (take c) (append-nil a) ∙ take_all c a (omega (arith, e, f))
