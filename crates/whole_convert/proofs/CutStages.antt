-- The arrangements at the cut vertices lead, one after the other, and so do all steps.
use Rattle.std.proofs.Common.{◌≡◌, ◌≢◌, ℕ, zero, suc, ◌<◌, ◌≤◌, inl, inr, true, nat_lt, if◌then◌else◌, List, [], ◌∷◌, length, map, slice_index, slice_index_or, slice_set, Contains, refl, sym, ap, ◌∙◌, subst, arith}
use Rattle.std.proofs.lemmas.Bool.{cases_Bool, cases_eq, cases_lt, cond-true, cond-false, lt-ltb, le-ltb}
use Rattle.std.proofs.lemmas.List.{get_or-map, length-map, length-set, get_or-set_same, get_or-set_other}
use Rattle.permutations.specs.Members.{is_member, place_of}
use Rattle.permutations.proofs.Arrangements.{member-at}
use Rattle.faces.specs.Euler.{IsPlaneSystem}
use Rattle.arrangements.specs.Arranged.{same_list}
use Rattle.arrangements.proofs.Lists.{same-equal}
use Rattle.whole_embed.specs.Component.{Component, BlockInPlane, IsComponentInPlane}
use Rattle.whole_embed.specs.Around.{outer_at, arrangements_around}
use Rattle.whole_embed.specs.Whole.{block_part, AreArranged, whole_system, IsWholeMember}
use Rattle.whole_embed.proofs.Outer.{place-rising}
use Rattle.whole_embed.proofs.Assembled.{IsAssembled}
use Rattle.whole_embed.proofs.Assembly.{assembled}
use Rattle.whole_embed.proofs.Assembling.{whole_is_plane}
use Rattle.whole_embed.proofs.Moved.{IsMovedBlock, AreMoved, component-moved}
use Rattle.whole_embed.proofs.OfParts.{orders-arranged, made-of_parts}
use Rattle.whole_convert.specs.Between.{WholeStep, moves_below, is_moved, list_then, arrangement_at, arrangements_below, blocks_to, whole_moves_between, arrange}
use Rattle.whole_convert.specs.Leading.{WholeState, LeadThroughPlane, LeadTo}
use Rattle.whole_convert.specs.Laws.{WholeMovesLead}
use Rattle.whole_convert.proofs.Stages.{with-rotation, listed, listed-length, listed-at, listed-is, listed-arranged}
use Rattle.whole_convert.proofs.BlockStages.{state, lead-append, all-blocks_lead, all-right}

module _ (k : Component) (block : ℕ → BlockInPlane) (lists q : List (List ℕ)) (is : IsComponentInPlane k block) (are : AreArranged k block lists) (m : IsWholeMember k block q) where
  made : IsAssembled k block
  made = assembled k block is

  -- the blocks with all parts
  abbrev to : ℕ → BlockInPlane
  to = blocks_to k block q

  to-is : (b : ℕ) → is_member b k.blocks ≡ true → blocks_to k block q b ≡ with-rotation (block b) (block_part k (block b).part q)
  to-is b y = cond-true (is_member b k.blocks) (with-rotation (block b) (block_part k (block b).part q)) (block b) y

  moved : AreMoved k block (blocks_to k block q)
  moved b y = subst (IsMovedBlock (block b)) (sym (to-is b y)) (let w = m.kept b y in record { part = refl; nodes = refl; locks = refl; plane = w.plane; keeps = w.keeps })

  in-plane : IsComponentInPlane k (blocks_to k block q)
  in-plane = component-moved k block (blocks_to k block q) moved is

  parts : (b : ℕ) → is_member b k.blocks ≡ true → block_part k (blocks_to k block q b).part q ≡ (blocks_to k block q b).rotation
  parts b y = subst (λ (z : BlockInPlane). block_part k z.part q ≡ z.rotation) (sym (to-is b y)) refl

  -- the order that q has around cut vertex i, and the list there before
  abbrev Q : ℕ → List ℕ
  Q i = outer_at k.part q (slice_index k.cuts i)

  abbrev F : ℕ → List ℕ
  F = list_then k to (is_moved block to) lists

  target : AreArranged k (blocks_to k block q) (map (outer_at k.part q) k.cuts)
  target = orders-arranged k block to is moved q m parts

  target-at : (i : ℕ) → i < length k.cuts → Contains (arrangements_around k (blocks_to k block q) (slice_index k.cuts i)) (Q i)
  target-at i l = subst (λ (z : List ℕ). Contains (arrangements_around k to (slice_index k.cuts i)) z) (get_or-map (outer_at k.part q) k.cuts i 0 [] l) (target.each i l)

  -- the lists after n cut vertices
  abbrev R : ℕ → ℕ → List ℕ
  R n i = (if nat_lt i n then Q i else F i)

  below : (n i : ℕ) → i < n → R n i ≡ Q i
  below n i l = cond-true (nat_lt i n) (Q i) (F i) (lt-ltb i n l)

  above : (n i : ℕ) → n ≤ i → R n i ≡ F i
  above n i l = cond-false (nat_lt i n) (Q i) (F i) (le-ltb i n l)

  elsewhere : (n i : ℕ) → i ≢ n → R (suc n) i ≡ R n i
  elsewhere n i d = elim (cases_lt i n) [
    | inl l ↦ below (suc n) i (omega (arith, l)) ∙ sym (below n i l)
    | inr l ↦ above (suc n) i (omega (arith, l, d)) ∙ sym (above n i l)
  ]

  R-right : (n i : ℕ) → i < length k.cuts → Contains (arrangements_around k to (slice_index k.cuts i)) (R n i)
  R-right n i l = elim (cases_lt i n) [
    | inl h ↦ subst (λ (z : List ℕ). Contains (arrangements_around k to (slice_index k.cuts i)) z) (sym (below n i h)) (target-at i l)
    | inr h ↦ subst (λ (z : List ℕ). Contains (arrangements_around k to (slice_index k.cuts i)) z) (sym (above n i h)) (all-right k block lists q is are m i l)
  ]

  abbrev S : ℕ → WholeState
  S n = state to (listed k (R n))

  plane : (n : ℕ) → IsPlaneSystem k.part.graph (whole_system k (blocks_to k block q) (listed k (R n)))
  plane n = whole_is_plane k to (listed k (R n)) in-plane (listed-arranged k to (R n) (R-right n))

  -- one cut vertex
  cut-lead : (n : ℕ) → n < length k.cuts → LeadThroughPlane k (arrangement_at k F q n) (S n) (S (suc n))
  cut-lead n l = elim (cases_Bool (same_list (Q n) (F n))) [
    | inl y ↦ subst (λ (z : List WholeStep). LeadThroughPlane k z (S n) (S (suc n))) (sym (cond-true (same_list (Q n) (F n)) [] (arrange (slice_index k.cuts n) (Q n) ∷ []) y))
        (λ j. state to (same y j))
    | inr f ↦ subst (λ (z : List WholeStep). LeadThroughPlane k z (S n) (S (suc n))) (sym (cond-false (same_list (Q n) (F n)) [] (arrange (slice_index k.cuts n) (Q n) ∷ []) f))
        (S (suc n), record { among = member-at k.cuts n 0 l; arranged = target-at n l; blocks = refl; lists = set }, plane (suc n), refl)
  ]
    where
      same : same_list (Q n) (F n) ≡ true → listed k (R n) ≡ listed k (R (suc n))
      same y = listed-is k (R (suc n)) (listed k (R n)) (listed-length k (R n)) (λ i h. listed-at k (R n) i h ∙ elim (cases_eq i n) [
        | inl e ↦ subst (λ z. R n z ≡ R (suc n) z) (sym e) (above n n (omega arith) ∙ (sym (same-equal (Q n) (F n) y) ∙ sym (below (suc n) n (omega arith))))
        | inr d ↦ sym (elsewhere n i d)
      ])

      place : place_of k.cuts (slice_index k.cuts n) ≡ n
      place = place-rising k.cuts n made.cuts_rise l

      long : n < length (listed k (R n))
      long = omega (arith, l, listed-length k (R n))

      set : listed k (R (suc n)) ≡ slice_set (listed k (R n)) (place_of k.cuts (slice_index k.cuts n)) (Q n)
      set = sym (listed-is k (R (suc n)) (slice_set (listed k (R n)) (place_of k.cuts (slice_index k.cuts n)) (Q n)) (length-set (listed k (R n)) (place_of k.cuts (slice_index k.cuts n)) (Q n) ∙ listed-length k (R n))
          (λ i h. ap (λ z. slice_index_or (slice_set (listed k (R n)) z (Q n)) i []) place ∙ elim (cases_eq i n) [
            | inl e ↦ subst (λ z. slice_index_or (slice_set (listed k (R n)) n (Q n)) z [] ≡ R (suc n) z) (sym e) (get_or-set_same (listed k (R n)) n (Q n) [] long ∙ sym (below (suc n) n (omega arith)))
            | inr d ↦ get_or-set_other (listed k (R n)) n i (Q n) [] d ∙ (listed-at k (R n) i h ∙ sym (elsewhere n i d))
          ]))

  cuts-lead : (n : ℕ) → n ≤ length k.cuts → LeadThroughPlane k (arrangements_below k F q n) (state to (listed k F)) (S n)
  cuts-lead zero l =
      let same : listed k F ≡ listed k (R 0) = listed-is k (R 0) (listed k F) (listed-length k F) (λ i h. listed-at k F i h ∙ sym (above 0 i (omega arith))) in
      λ j. state to (same j)
  cuts-lead (suc n) l = lead-append k (arrangements_below k F q n) (arrangement_at k F q n) (state to (listed k F)) (S n) (S (suc n)) (cuts-lead n (omega (arith, l))) (cut-lead n (omega (arith, l)))

  -- all steps
  pub whole-leads : LeadTo k block lists (whole_moves_between k block lists q) q
  whole-leads = record {
    last = S (length k.cuts);
    lead = lead-append k (moves_below k block to (length k.blocks)) (arrangements_below k F q (length k.cuts)) (state block lists) (state to (listed k F)) (S (length k.cuts))
        (all-blocks_lead k block lists q is are m) (cuts-lead (length k.cuts) (omega arith));
    is = ap (whole_system k to) (sym end) ∙ made-of_parts k block to is moved q m parts;
  }
    where
      end : map (outer_at k.part q) k.cuts ≡ listed k (R (length k.cuts))
      end = listed-is k (R (length k.cuts)) (map (outer_at k.part q) k.cuts) (length-map k.cuts (outer_at k.part q)) (λ i l. get_or-map (outer_at k.part q) k.cuts i 0 [] l ∙ sym (below (length k.cuts) i l))

pub whole_moves_lead : WholeMovesLead
whole_moves_lead k block lists q is are m = whole-leads k block lists q is are m
