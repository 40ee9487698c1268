-- An entry of a table is written: the table has it, and what it had before.
use Rattle.std.proofs.Common.{◌≡◌, ◌≢◌, ℕ, ◌+◌, ◌*◌, ◌<◌, ◌==◌, ◌||◌, if◌then◌else◌, inl, inr, Bool, true, false, List, [], length, slice_index_or, slice_set, sym, ap, ◌∙◌, subst, arith, eqb-true}
use Rattle.std.proofs.lemmas.Bool.{cases_eq, cases_Bool}
use Rattle.std.proofs.lemmas.List.{get_or-set_same, get_or-set_other, length-set}
use Rattle.pair_split.specs.Tutte.{Node, node_at, node_item}
use Rattle.skeletons.specs.Items.{ends_item}
use Rattle.skel_compose.specs.Followers.{IsItemEnd, item_place, row_at, follower, HasFollower, IsTable}
use Rattle.skel_compose.proofs.Tables.{place-below}
use Rattle.skel_decompose.specs.Followers.{Keeps}

-- the item and the end of a place
abbrev end_by : List Node → ℕ → ℕ → Bool → ℕ
end_by nodes k i t = (if t then (node_item nodes k i).a else (node_item nodes k i).b)

record IsPlaceOf (nodes : List Node) (k i v place : ℕ) : Type 0 where
  first : Bool
  place_is : place ≡ (if first then 2 * i else 2 * i + 1)
  end_is : v ≡ end_by nodes k i first

place-of-end : (nodes : List Node) (k i v : ℕ) → ends_item v (node_item nodes k i) ≡ true → IsPlaceOf nodes k i v (item_place nodes k i v)
place-of-end nodes k i v h = elim (cases_Bool ((node_item nodes k i).a == v)) [
  | inl t ↦ record { first = true; place_is = ap (λ (z : Bool). if z then 2 * i else 2 * i + 1) t; end_is = sym (eqb-true (node_item nodes k i).a v t) }
  | inr f ↦ record { first = false; place_is = ap (λ (z : Bool). if z then 2 * i else 2 * i + 1) f; end_is = sym (eqb-true (node_item nodes k i).b v (sym (ap (λ (z : Bool). z || ((node_item nodes k i).b == v)) f) ∙ h)) }
]

-- an end is told by its place
one-place : (nodes : List Node) (k i h v w place : ℕ) → IsPlaceOf nodes k i v place → IsPlaceOf nodes k h w place → (i ≡ h) × (v ≡ w)
one-place nodes k i h v w place x y = parts x.first y.first x.place_is y.place_is x.end_is y.end_is
  where
    parts : (s t : Bool) → place ≡ (if s then 2 * i else 2 * i + 1) → place ≡ (if t then 2 * h else 2 * h + 1) → v ≡ end_by nodes k i s → w ≡ end_by nodes k h t → (i ≡ h) × (v ≡ w)
    parts true true p q a b = let e : i ≡ h = omega (arith, p, q) in (e, a ∙ ap (λ z. (node_item nodes k z).a) e ∙ sym b)
    parts true false p q a b = absurd (omega (arith, p, q))
    parts false true p q a b = absurd (omega (arith, p, q))
    parts false false p q a b = let e : i ≡ h = omega (arith, p, q) in (e, a ∙ ap (λ z. (node_item nodes k z).b) e ∙ sym b)

module _ (nodes : List Node) (table : List (List ℕ)) (t : IsTable nodes table) (k i v x : ℕ) (m : IsItemEnd nodes k i v) (place : ℕ) (q : place ≡ item_place nodes k i v) where
  pub entry-list : k < length table
  entry-list = subst (λ n. k < n) (sym t.each) m.is_node

  pub entry-place : place < length (row_at table k)
  entry-place = omega (arith, q, t.places k m.is_node, place-below nodes k i v (length (node_at nodes k).items) m.is_item)

  module _ (new : List (List ℕ)) (e : new ≡ slice_set table k (slice_set (row_at table k) place x)) where
    own-row : row_at new k ≡ slice_set (row_at table k) place x
    own-row = ap (λ (z : List (List ℕ)). row_at z k) e ∙ get_or-set_same table k (slice_set (row_at table k) place x) [] entry-list

    other-row : (j : ℕ) → j ≢ k → row_at new j ≡ row_at table j
    other-row j n = ap (λ (z : List (List ℕ)). row_at z j) e ∙ get_or-set_other table k j (slice_set (row_at table k) place x) [] n

    pub entry-table : IsTable nodes new
    entry-table = record {
      each = ap length e ∙ length-set table k (slice_set (row_at table k) place x) ∙ t.each;
      places = λ j l. elim (cases_eq j k) [
        | inl s ↦ ap (λ z. length (row_at new z)) s ∙ ap length own-row ∙ length-set (row_at table k) place x ∙ ap (λ z. length (row_at table z)) (sym s) ∙ t.places j l
        | inr n ↦ ap length (other-row j n) ∙ t.places j l
      ];
    }

    module _ (family : List (List (List ℕ))) (f : x ≡ follower nodes family k i v) where
      pub entry-has : HasFollower nodes family new k i v
      entry-has = ap (λ (z : List ℕ). slice_index_or z (item_place nodes k i v) 0) own-row ∙ ap (λ z. slice_index_or (slice_set (row_at table k) place x) z 0) (sym q) ∙ get_or-set_same (row_at table k) place x 0 entry-place ∙ f

      pub entry-keeps : Keeps nodes family table new
      entry-keeps j h w n s = elim (cases_eq j k) [
        | inr other ↦ ap (λ (z : List ℕ). slice_index_or z (item_place nodes j h w) 0) (other-row j other) ∙ s
        | inl same ↦ subst (λ z. HasFollower nodes family new z h w) (sym same) (here (subst (λ z. ends_item w (node_item nodes z h) ≡ true) same n.end) (subst (λ z. HasFollower nodes family table z h w) same s))
      ]
        where
          here : ends_item w (node_item nodes k h) ≡ true → HasFollower nodes family table k h w → HasFollower nodes family new k h w
          here d u = elim (cases_eq (item_place nodes k h w) place) [
            | inr other ↦ ap (λ (z : List ℕ). slice_index_or z (item_place nodes k h w) 0) own-row ∙ get_or-set_other (row_at table k) place (item_place nodes k h w) x 0 other ∙ u
            | inl same ↦
                let o = one-place nodes k i h v w (item_place nodes k i v) (place-of-end nodes k i v m.end) (subst (IsPlaceOf nodes k h w) (same ∙ q) (place-of-end nodes k h w d)) in
                subst (λ z. HasFollower nodes family new k z w) o.0 (subst (λ z. HasFollower nodes family new k i z) o.1 entry-has)
          ]
