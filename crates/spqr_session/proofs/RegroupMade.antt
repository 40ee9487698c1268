-- What `regroup` finds of a list, and what it makes of the board.
use Rattle.std.proofs.Common.{◌≡◌, ℕ, ◌<◌, ◌≤◌, true, false, List, length, map, slice_set, Some, inl, inr, sym, ap, ◌∙◌, subst, arith, Contains, IsPermutation}
use Rattle.std.proofs.lemmas.Bool.{cases_Bool}
use Rattle.std.proofs.lemmas.List.Sorted.{IsPermutation-sym, IsPermutation-trans}
use Rattle.permutations.specs.Members.{is_member}
use Rattle.permutations.specs.Cyclic.{first_or, least_or, from_least}
use Rattle.permutations.proofs.Turned.{turned-permutation}
use Rattle.whole_embed.specs.declared.members.Member.{Member}
use Rattle.whole_embed.specs.declared.faults.RegroupFault.TheVariants as fault
use Rattle.whole_embed.specs.Component.{Component, BlockInPlane}
use Rattle.whole_embed.specs.Around.{edges_around, arrangements_around}
use Rattle.whole_embed.specs.Cuts.{CutState, blocks_in, IsRegroupRefusal}
use Rattle.spqr_session.specs.Setting.{Setting, IsSetting}
use Rattle.spqr_session.specs.State.{State, component_at, is_planar_component}
use Rattle.spqr_session.specs.Kept.{family_of}
use Rattle.spqr_session.specs.Codes.{IsLowest}
use Rattle.spqr_session.specs.BlockCodes.{with_family}
use Rattle.spqr_session.specs.Board.{BoardView, kept_now, board_state, GoesTo, HavePlaces}
use Rattle.spqr_session.specs.Components.{blocks_of}
use Rattle.spqr_session.specs.Commands.Regroup.{component_number, OrdersEdges, RegroupApplies, list_put, RegroupStep}
use Rattle.spqr_session.specs.Wholes.{AreEntries, HasBlocks, IsArrangementFor, IsRefusedIn, IsRegroupedIn, IsRegrouping, IsRegrouped, IsElsewhere}
use Rattle.spqr_session.specs.declared.code.Code.{Code}
use Rattle.spqr_session.specs.declared.code.Code.TheVariants.{NoBlock, NoNode, WrongKind, BadOrder, NonPlanar, BadRotation, NotGenusZero, NothingToUndo, NothingToRedo, CountOver, RankOut, Locked, LockedIn, Parallel, NoComponent, NoCut, BlockOrder, Cross}
use Rattle.spqr_session.specs.declared.commands.regroup.Regrouping.{Regrouping}
use Rattle.spqr_session.specs.declared.commands.regroup.Regrouping.TheVariants.{Refused, Arranged}
use Rattle.spqr_session.proofs.ComponentParts.{cut-there, around-cut}
use Rattle.spqr_session.proofs.VertexPlaces.{cut-place}
use Rattle.spqr_session.proofs.KeptLists.{arranged-order, kept-put}
use Rattle.spqr_session.proofs.RegroupCodes.{lowest-no_order, lowest-no_cut, lowest-changed, lowest-crossing, arranged-none}

-- a list that is an ordering from its least number on is one
turned-back : (at edges : List ℕ) → IsPermutation at (from_least edges) → IsPermutation at edges
turned-back at edges p = IsPermutation-trans at (from_least edges) edges p (IsPermutation-sym edges (from_least edges) (turned-permutation edges (least_or (first_or 0 edges) edges)))

module _ (setting : Setting) (v : ℕ) (edges : List ℕ) (s : State) where
  -- a vertex that is no cut vertex
  pub elsewhere-lowest : (code : Code) → v < setting.named.graph.vertex_count → is_planar_component setting (component_number setting v) ≡ true → is_member v setting.structure.cut_vertices ≡ false → IsElsewhere setting.named.graph v edges code
      → IsLowest (RegroupApplies setting v edges s) code
  elsewhere-lowest code l t n (inl w) = subst (IsLowest (RegroupApplies setting v edges s)) (sym w.1) (lowest-no_order setting v edges s (λ x. t) l w.0)
  elsewhere-lowest code l t n (inr w) = subst (IsLowest (RegroupApplies setting v edges s)) (sym w.1) (lowest-no_cut setting v edges s (λ x. t) (λ x. w.0) n)

  pub outside-lowest : IsSetting setting → setting.named.graph.vertex_count ≤ v → IsLowest (RegroupApplies setting v edges s) NoCut
  outside-lowest is l = lowest-no_cut setting v edges s (λ x. absurd (omega (arith, l, x))) (λ x. absurd (omega (arith, l, x)))
      (elim (cases_Bool (is_member v setting.structure.cut_vertices)) [ inl m ↦ absurd (omega (arith, l, is.structure.cut_vertices.vertices v m)) | inr n ↦ n ])

  -- what is found at a cut vertex
  module _ (is : IsSetting setting) (right : AreEntries setting s.present.entries) (m : is_member v setting.structure.cut_vertices ≡ true) (t : is_planar_component setting (component_number setting v) ≡ true)
      (cuts : CutState) (all : List Member) (has : HasBlocks setting s.present.entries (component_number setting v) cuts all) where
    abbrev k : Component
    k = component_at setting (component_number setting v)

    abbrev block : ℕ → BlockInPlane
    block = blocks_of setting s.present

    here : is_member v cuts.component.cuts ≡ true
    here = subst (λ (x : Component). is_member v x.cuts ≡ true) (sym has.component) (cut-there setting is v m)

    orders : IsPermutation (edges_around k v) edges → OrdersEdges setting v edges
    orders p = record { cut = m; planar = t; ordering = subst (λ (l : List ℕ). IsPermutation l edges) (around-cut setting is v m) p }

    -- what holds of the component and the blocks that were made
    along : (P : Component → (ℕ → BlockInPlane) → Type 0) → P cuts.component (blocks_in all) → P (component_at setting (component_number setting v)) (blocks_of setting s.present)
    along P p = subst (P k) has.blocks (subst (λ (x : Component). P x (blocks_in all)) has.component p)

    bad-lowest : (w : ℕ) → IsRegroupRefusal cuts.component (blocks_in all) v edges (fault.BadRotation w) → IsLowest (RegroupApplies setting v edges s) (BadRotation w)
    bad-lowest w r =
        let q = along (λ x b. IsRegroupRefusal x b v edges (fault.BadRotation w)) r in
        subst (λ (z : ℕ). IsLowest (RegroupApplies setting v edges s) (BadRotation z)) (sym q.0)
        (lowest-no_order setting v edges s (λ x. t) (is.structure.cut_vertices.vertices v m) (λ p. q.1 (subst (λ (l : List ℕ). IsPermutation l edges) (sym (around-cut setting is v m)) p)))

    order-lowest : (b : ℕ) → IsRegroupRefusal cuts.component (blocks_in all) v edges (fault.BlockOrder b) → IsLowest (RegroupApplies setting v edges s) (BlockOrder b)
    order-lowest b r =
        let q = along (λ x f. IsRegroupRefusal x f v edges (fault.BlockOrder b)) r in
        lowest-changed setting v edges s (orders q.0) b q.1

    cross-lowest : (b c : ℕ) → IsRegroupRefusal cuts.component (blocks_in all) v edges (fault.Cross b c) → IsLowest (RegroupApplies setting v edges s) (Cross b c)
    cross-lowest b c r =
        let q = along (λ x f. IsRegroupRefusal x f v edges (fault.Cross b c)) r in
        lowest-crossing setting v edges s (orders q.0) q.1 b c q.2

    refused-lowest : (code : Code) → IsRefusedIn cuts.component (blocks_in all) v edges code → IsLowest (RegroupApplies setting v edges s) code
    refused-lowest NoBlock r = absurd r
    refused-lowest NoNode r = absurd r
    refused-lowest WrongKind r = absurd r
    refused-lowest BadOrder r = absurd r
    refused-lowest NonPlanar r = absurd r
    refused-lowest (BadRotation w) r = bad-lowest w r
    refused-lowest (NotGenusZero x e f) r = absurd r
    refused-lowest NothingToUndo r = absurd r
    refused-lowest NothingToRedo r = absurd r
    refused-lowest CountOver r = absurd r
    refused-lowest (RankOut n) r = absurd r
    refused-lowest (Locked x) r = absurd r
    refused-lowest (LockedIn b x) r = absurd r
    refused-lowest (Parallel x y) r = absurd r
    refused-lowest NoComponent r = absurd r
    refused-lowest NoCut r = absurd r
    refused-lowest (BlockOrder b) r = order-lowest b r
    refused-lowest (Cross b c) r = cross-lowest b c r

    -- an arrangement
    arranged-found : (list : List ℕ) → Contains (arrangements_around cuts.component (blocks_in all) v) (from_least edges) → list ≡ from_least edges → IsArrangementFor setting v edges s list
    arranged-found list c q =
        let has_it : Contains (arrangements_around k block v) (from_least edges) = along (λ x f. Contains (arrangements_around x f v) (from_least edges)) c in
        let round = arranged-order cuts.component (blocks_in all) v (from_least edges) has.in_plane here c in
        let all_of : IsPermutation (edges_around k v) edges = turned-back (edges_around k v) edges (subst (λ (x : Component). IsPermutation (edges_around x v) (from_least edges)) has.component round.arranged) in
        let o : OrdersEdges setting v edges = orders all_of in
        record { none = arranged-none setting v edges s is right o has_it; orders = o; arranged = has_it; list_is = q }

    -- so what was found is what is to be done
    pub regrouped-plan : (planned : Regrouping) → IsRegroupedIn cuts.component (blocks_in all) v edges planned → IsRegrouping setting v edges s planned
    regrouped-plan (Refused code) r = refused-lowest code r
    regrouped-plan (Arranged list) r = arranged-found list r.0 r.1

-- ---- the step

module _ (setting : Setting) (v : ℕ) (edges : List ℕ) (before after : BoardView) (is : IsSetting setting) (places : HavePlaces setting.trees (length before.lists)) where
  abbrev s : State
  s = board_state setting before

  -- the state after a list was kept
  state-arranged : (l : List ℕ) → OrdersEdges setting v edges → GoesTo before (record { entries = (kept_now before).entries; lists = slice_set before.lists v (Some l) }) after → board_state setting after ≡ with_family (board_state setting before) (list_put setting v l (family_of setting (kept_now before)))
  state-arranged l o goes =
      let within : v < length before.lists = cut-place setting (length before.lists) v is places o.cut in
      let present : family_of setting (kept_now after) ≡ list_put setting v l (family_of setting (kept_now before)) = ap (family_of setting) goes.present ∙ kept-put setting (kept_now before) v l is o.cut o.planar within in
      λ i. record { present = present i; earlier = map (family_of setting) (goes.earlier i); later = map (family_of setting) (goes.later i) }

  pub regroup-done : (planned : Regrouping) (text : List ℕ) → IsRegrouping setting v edges (board_state setting before) planned → IsRegrouped v planned before text after → RegroupStep setting v edges (board_state setting before) text (board_state setting after)
  regroup-done (Refused code) text p d = inl (record { code = code; lowest = p; line = d.0; stays = ap (board_state setting) d.1 })
  regroup-done (Arranged list) text p d = inr (
    p.none,
    record {
      orders = p.orders;
      arranged = p.arranged;
      after_is = state-arranged list p.orders d.1 ∙ ap (λ (l : List ℕ). with_family s (list_put setting v l (family_of setting (kept_now before)))) p.list_is;
      answer = d.0;
    },
  )
