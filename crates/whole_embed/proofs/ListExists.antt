-- The list of a component: for each vector of members of the blocks' lists, in lexicographic order, each vector of arrangements at
-- the cut vertices, in lexicographic order.
use Rattle.std.proofs.Common.{◌≡◌, ℕ, ◌<◌, inl, inr, true, List, [], length, map, slice_index, slice_index_or, Contains, refl, sym, ap, ◌∙◌, subst}
use Rattle.std.proofs.lemmas.Bool.{cases_Bool, both_ways}
use Rattle.std.proofs.lemmas.List.{get_or-map, length-map}
use Rattle.permutations.specs.Members.{is_member, place_of}
use Rattle.permutations.proofs.Arrangements.{member-at}
use Rattle.permutations.proofs.Places.{place-below, place-holds}
use Rattle.choice_lists.specs.Order.{Lists, is_before}
use Rattle.choice_lists.proofs.Places.{At, Has, at-map, at-map_back, has-from, contains-from}
use Rattle.arrangements.specs.Arranged.{IsArrangement}
use Rattle.skeletons.specs.Choices.{Precedes}
use Rattle.skeletons.specs.Lists.{IsKeptList}
use Rattle.skeletons.proofs.Before.{rising-told}
use Rattle.skeleton_choices.proofs.Listed.{list-exists}
use Rattle.skel_embed.specs.Block.{lock_at}
use Rattle.embed_enum.proofs.Places.{contains-rank}
use Rattle.whole_embed.specs.Component.{Component, BlockInPlane, IsComponentInPlane}
use Rattle.whole_embed.specs.Around.{outer_at, edges_around, block_with, block_order, arrangements_around}
use Rattle.whole_embed.specs.Whole.{AreArranged, whole_system, block_part, IsWholeMember, WholePrecedes, IsWholeList}
use Rattle.whole_embed.specs.Listed.{WholeListExists, WholeListIsUnique, WholeHasRank}
use Rattle.whole_embed.proofs.Assembly.{assembled, present}
use Rattle.whole_embed.proofs.Outer.{place-rising}
use Rattle.whole_embed.proofs.Odometer.{precedes-apart}
use Rattle.whole_embed.proofs.Moved.{AreMoved, member-back}
use Rattle.whole_embed.proofs.OfParts as parts
use Rattle.whole_embed.proofs.Steps.{place-less}
use Rattle.whole_embed.proofs.Vectors.{RisesBy, pairs-from, pairs-to, rises-map, joined, joined-has, has-joined, joined-rises, vectors, IsVector, has-vector, vector-has, IsLess, vectors-rise}

module _ (k : Component) (block : ℕ → BlockInPlane) (is : IsComponentInPlane k block) where
  -- each block of the component has a list
  list-of : (b : ℕ) → is_member b k.blocks ≡ true → (l : List (List (List ℕ))) × IsKeptList (block b).part.graph (block b).nodes (lock_at (block b).locks) (block b).rotation l
  list-of b m =
      let n = subst (λ (z : Component). is_member b z.blocks ≡ true) is.component m in
      let w = list-exists (block b).part.graph (block b).nodes (lock_at (block b).locks) (block b).rotation (is.blocks.trees b n) (is.blocks.planes b n) in
      (w.0, w.1)

  kept : (b : ℕ) → (l : List (List (List ℕ))) × (is_member b k.blocks ≡ true → IsKeptList (block b).part.graph (block b).nodes (lock_at (block b).locks) (block b).rotation l)
  kept b = elim (cases_Bool (is_member b k.blocks)) [
    | inl m ↦ let w = list-of b m in (w.0, λ _. w.1)
    | inr n ↦ ([], λ m. absurd (both_ways (is_member b k.blocks) n m))
  ]

  abbrev C : ℕ → List (List (List ℕ))
  C b = (kept b).0

  -- the blocks with the members of a vector
  abbrev with : List (List (List ℕ)) → ℕ → BlockInPlane
  with v b = record { part = (block b).part; nodes = (block b).nodes; rotation = slice_index_or v (place_of k.blocks b) []; locks = (block b).locks }

  value-in : (v : List (List (List ℕ))) → IsVector [] k.blocks C v → (b : ℕ) → is_member b k.blocks ≡ true → Has (C b) (slice_index_or v (place_of k.blocks b) [])
  value-in v h b m = subst (λ z. Has (C z) (slice_index_or v (place_of k.blocks b) [])) (place-holds k.blocks b m) (h.each (place_of k.blocks b) (place-below k.blocks b m))

  moved : (v : List (List (List ℕ))) → IsVector [] k.blocks C v → AreMoved k block (with v)
  moved v h b m =
      let r : List (List ℕ) = slice_index_or v (place_of k.blocks b) [] in
      let w = (((kept b).1 m).members r).0 (contains-from (C b) r (value-in v h b m)) in
      record { part = refl; nodes = refl; locks = refl; plane = w.plane; keeps = w.keeps }

  in-plane : (v : List (List (List ℕ))) → IsVector [] k.blocks C v → IsComponentInPlane k (with v)
  in-plane v h = parts.in-plane k block (with v) is (moved v h)

  -- the arrangements at the cut vertices
  abbrev A : List (List (List ℕ)) → ℕ → List (List ℕ)
  A v c = arrangements_around k (with v) c

  arranged : (v : List (List (List ℕ))) (a : List (List ℕ)) → IsVector [] k.cuts (A v) a → AreArranged k (with v) a
  arranged v a h = record { one_each = h.long; each = λ i l. contains-from (A v (slice_index k.cuts i)) (slice_index_or a i []) (h.each i l) }

  listed : (v : List (List (List ℕ))) → IsVector [] k.blocks C v → (c : ℕ) → is_member c k.cuts ≡ true → Lists is_before (IsArrangement (block_with k) (block_order (with v) c) (edges_around k c)) (A v c)
  listed v h c m = parts.listed k block (with v) is (moved v h) c m

  -- the rotation systems of a vector, and of all
  abbrev of-vector : List (List (List ℕ)) → List (List (List ℕ))
  of-vector v = map (whole_system k (with v)) (vectors k.cuts (A v))

  abbrev all : List (List (List ℕ))
  all = joined of-vector (vectors k.blocks C)

  -- each is a member
  of-member : (v : List (List (List ℕ))) (i : ℕ) (q : List (List ℕ)) → IsVector [] k.blocks C v → At (of-vector v) i q → (a : List (List ℕ)) × (whole_system k (with v) a ≡ q) × AreArranged k (with v) a
  of-member v i q h m = let w = at-map_back (whole_system k (with v)) (vectors k.cuts (A v)) i q m in (w.0, w.2, arranged v w.0 (has-vector [] k.cuts (A v) i w.0 w.1))

  is-member : (q : List (List ℕ)) → Contains all q → IsWholeMember k block q
  is-member q c =
      let m = has-from all q c in
      let w = has-joined of-vector (vectors k.blocks C) m.0 q m.1 in
      let h = has-vector [] k.blocks C w.1.0 w.0 w.1.1 in
      let a = of-member w.0 w.2.0 q h w.2.1 in
      member-back k block (with w.0) (moved w.0 h) q (subst (λ (z : List (List ℕ)). IsWholeMember k (with w.0) z) a.1 (present k (with w.0) a.0 (in-plane w.0 h) a.2).member)

  -- and each member is one of them
  module _ (q : List (List ℕ)) (m : IsWholeMember k block q) where
    abbrev v : List (List (List ℕ))
    v = map (λ b. block_part k (block b).part q) k.blocks

    value : (i : ℕ) → i < length k.blocks → slice_index_or v i [] ≡ block_part k (block (slice_index k.blocks i)).part q
    value i l = get_or-map (λ b. block_part k (block b).part q) k.blocks i 0 [] l

    is-vector : IsVector [] k.blocks C v
    is-vector = record {
      long = length-map k.blocks (λ b. block_part k (block b).part q);
      each = λ i l.
          let b = slice_index k.blocks i in
          let n : is_member b k.blocks ≡ true = member-at k.blocks i 0 l in
          subst (Has (C b)) (sym (value i l)) (has-from (C b) (block_part k (block b).part q) ((((kept b).1 n).members (block_part k (block b).part q)).1 (m.kept b n)));
    }

    same : (b : ℕ) → is_member b k.blocks ≡ true → block_part k (block b).part q ≡ slice_index_or v (place_of k.blocks b) []
    same b n = sym (value (place_of k.blocks b) (place-below k.blocks b n) ∙ ap (λ z. block_part k (block z).part q) (place-holds k.blocks b n))

    abbrev a : List (List ℕ)
    a = map (outer_at k.part q) k.cuts

    are : AreArranged k (with v) a
    are = parts.orders-arranged k block (with v) is (moved v is-vector) q m same

    is-lists : IsVector [] k.cuts (A v) a
    is-lists = record { long = are.one_each; each = λ i l. has-from (A v (slice_index k.cuts i)) (slice_index_or a i []) (are.each i l) }

    it-is : whole_system k (with v) a ≡ q
    it-is = parts.made-of_parts k block (with v) is (moved v is-vector) q m same

    among-all : Contains all q
    among-all =
        let u = vector-has [] k.blocks C v is-vector in
        let t = vector-has [] k.cuts (A v) a is-lists in
        contains-from all q (joined-has of-vector (vectors k.blocks C) v q u (t.0, subst (At (of-vector v) t.0) it-is (at-map (whole_system k (with v)) (vectors k.cuts (A v)) t.0 a t.1)))

  -- they increase
  vectors-increase : RisesBy (IsLess (λ b r s. Precedes (block b).nodes r s) [] k.blocks) (vectors k.blocks C)
  vectors-increase = vectors-rise (λ b r s. Precedes (block b).nodes r s) [] k.blocks C (λ i l. let b = slice_index k.blocks i in pairs-to (Precedes (block b).nodes) (C b) ((kept b).1 (member-at k.blocks i 0 l)).rising)

  lists-increase : (v : List (List (List ℕ))) → Has (vectors k.blocks C) v → RisesBy (WholePrecedes k block) (of-vector v)
  lists-increase v m =
      rises-map (IsLess (λ c x y. is_before x y ≡ true) [] k.cuts) (WholePrecedes k block) (whole_system k (with v)) (vectors k.cuts (A v))
      (vectors-rise (λ c x y. is_before x y ≡ true) [] k.cuts (A v) (λ i l. let c = slice_index k.cuts i in pairs-to (λ x y. is_before x y ≡ true) (A v c) (listed v h c (member-at k.cuts i 0 l)).rises))
      (λ i j x y p q r. step x y (arranged v x (has-vector [] k.cuts (A v) i x p)) (arranged v y (has-vector [] k.cuts (A v) j y q)) r)
    where
      h : IsVector [] k.blocks C v
      h = has-vector [] k.blocks C m.0 v m.1

      step : (x y : List (List ℕ)) → AreArranged k (with v) x → AreArranged k (with v) y → IsLess (λ c x y. is_before x y ≡ true) [] k.cuts x y → WholePrecedes k block (whole_system k (with v) x) (whole_system k (with v) y)
      step x y p q r =
          let px = present k (with v) x (in-plane v h) p in
          let py = present k (with v) y (in-plane v h) q in
          let made = assembled k (with v) (in-plane v h) in
          inr (
            slice_index k.cuts r.place,
            record {
              among = member-at k.cuts r.place 0 r.within;
              parts = λ b n. px.parts b n ∙ sym (py.parts b n);
              same = λ u n l.
                  let e = r.same (place_of k.cuts u) (place-less k.cuts u r.place made.cuts_rise n r.within l) in
                  subst (λ z. outer_at k.part (whole_system k (with v) x) z ≡ outer_at k.part (whole_system k (with v) y) z) (place-holds k.cuts u n)
                  (px.rounds (place_of k.cuts u) (place-below k.cuts u n) ∙ (e ∙ sym (py.rounds (place_of k.cuts u) (place-below k.cuts u n))));
              smaller = subst (λ (z : List ℕ). is_before z (outer_at k.part (whole_system k (with v) y) (slice_index k.cuts r.place)) ≡ true) (sym (px.rounds r.place r.within))
                  (subst (λ (z : List ℕ). is_before (slice_index_or x r.place []) z ≡ true) (sym (py.rounds r.place r.within)) r.smaller);
            },
          )

  blocks-increase : (v w : List (List (List ℕ))) → Has (vectors k.blocks C) v → Has (vectors k.blocks C) w → IsLess (λ b r s. Precedes (block b).nodes r s) [] k.blocks v w → (i j : ℕ) (y z : List (List ℕ)) → At (of-vector v) i y → At (of-vector w) j z → WholePrecedes k block y z
  blocks-increase v w m n r i j y z p q =
      let a = of-member v i y hv p in
      let b = of-member w j z hw q in
      let pv = present k (with v) a.0 (in-plane v hv) a.2 in
      let pw = present k (with w) b.0 (in-plane w hw) b.2 in
      subst (λ (u : List (List ℕ)). WholePrecedes k block u z) a.1 (subst (λ (u : List (List ℕ)). WholePrecedes k block (whole_system k (with v) a.0) u) b.1
      (inl (
        slice_index k.blocks r.place,
        record {
          among = member-at k.blocks r.place 0 r.within;
          same = λ c t l.
              let e = r.same (place_of k.blocks c) (place-less k.blocks c r.place (assembled k block is).blocks_rise t r.within l) in
              pv.parts c t ∙ (e ∙ sym (pw.parts c t));
          earlier =
              let c = slice_index k.blocks r.place in
              let t : is_member c k.blocks ≡ true = member-at k.blocks r.place 0 r.within in
              let e = place-at-once r.place r.within in
              subst (λ (u : List (List ℕ)). Precedes (block c).nodes u (block_part k (block c).part (whole_system k (with w) b.0))) (sym (pv.parts c t ∙ ap (λ i. slice_index_or v i []) e))
              (subst (λ (u : List (List ℕ)). Precedes (block c).nodes (slice_index_or v r.place []) u) (sym (pw.parts c t ∙ ap (λ i. slice_index_or w i []) e)) r.smaller);
        },
      )))
    where
      hv : IsVector [] k.blocks C v
      hv = has-vector [] k.blocks C m.0 v m.1

      hw : IsVector [] k.blocks C w
      hw = has-vector [] k.blocks C n.0 w n.1

      place-at-once : (i : ℕ) → i < length k.blocks → place_of k.blocks (slice_index k.blocks i) ≡ i
      place-at-once i l = place-rising k.blocks i (assembled k block is).blocks_rise l

  all-increase : RisesBy (WholePrecedes k block) all
  all-increase = joined-rises (IsLess (λ b r s. Precedes (block b).nodes r s) [] k.blocks) (WholePrecedes k block) of-vector (vectors k.blocks C) vectors-increase lists-increase blocks-increase

  pub the-list : (l : List (List (List ℕ))) × IsWholeList k block l
  the-list = (all, record { rising = pairs-from (WholePrecedes k block) all all-increase; members = λ q. (is-member q, among-all q) })

pub list_exists : WholeListExists
list_exists k block is = the-list k block is

pub list_is_unique : WholeListIsUnique
list_is_unique k block l m a b = rising-told (WholePrecedes k block) (precedes-apart k block) l m a.rising b.rising (λ z c. (b.members z).1 ((a.members z).0 c)) (λ z c. (a.members z).1 ((b.members z).0 c))

pub whole_has_rank : WholeHasRank
whole_has_rank k block lists l is are w = contains-rank l (whole_system k block lists) ((w.members (whole_system k block lists)).1 (present k block lists is are).member)
