-- Lists that become the rotation system of a component: which codes apply, which is the lowest, and what holds where none does.
use Rattle.std.proofs.Common.{◌≡◌, ℕ, ◌+◌, ◌<◌, ◌≤◌, ◌⊎◌, ◌&&◌, Bool, true, false, not, List, length, inl, inr, refl, sym, ap, ◌∙◌, subst, arith}
use Rattle.std.proofs.lemmas.Bool.{cases_Bool, cases_eq, cases_order, both_ways, and_parts, and_from, not_from_false, not_from_true}
use Rattle.permutations.specs.Count.{some, least}
use Rattle.permutations.specs.Members.{is_member}
use Rattle.permutations.proofs.Search.{some-none, least-below, least-passes, least-before}
use Rattle.multigraph.specs.Graph.{edge_count}
use Rattle.multigraph.specs.Part.{IsNumbered}
use Rattle.rotations.specs.PartLists.{IsFirstBadInPart}
use Rattle.faces.specs.Euler.{face_count, component_count, IsPlaneSystem}
use Rattle.skeletons.specs.Choices.{choice}
use Rattle.skeletons.specs.Moves.{is_same}
use Rattle.skeletons.proofs.Leading.{is-same, same-is}
use Rattle.skel_embed.specs.Block.{lock_at}
use Rattle.skel_embed.specs.Taken.{IsGiven, IsNotPlane}
use Rattle.whole_embed.specs.Component.{Component, BlockInPlane, IsComponentInPlane}
use Rattle.whole_embed.specs.Whole.{block_part, IsWholeMember}
use Rattle.whole_embed.proofs.ComponentBlocks as component
use Rattle.whole_embed.proofs.Odometer.{least-other}
use Rattle.whole_convert.specs.Target.{IsLeastLocked, KeepsLocked, IsLeastLockedBlock, IsLockedAt}
use Rattle.whole_convert.proofs.Connected.{component-connected, two-plane}
use Rattle.whole_convert.proofs.PartOf.{parts-plane}
use Rattle.whole_convert.proofs.Takes.{no-bad, no-genus}
use Rattle.spqr_session.specs.Setting.{Setting, IsSetting}
use Rattle.spqr_session.specs.State.{State, component_at, is_planar_component, IsState}
use Rattle.spqr_session.specs.Codes.{code_number, code_numbers, IsLowest, NoneApplies}
use Rattle.spqr_session.specs.Components.{blocks_of}
use Rattle.spqr_session.specs.Commands.ConvertWhole.{ConvertWholeApplies}
use Rattle.spqr_session.specs.declared.code.Code.{Code}
use Rattle.spqr_session.specs.declared.code.Code.TheVariants.{NoBlock, NoNode, WrongKind, BadOrder, NonPlanar, BadRotation, NotGenusZero, NothingToUndo, NothingToRedo, CountOver, RankOut, Locked, LockedIn, Parallel, NoComponent, NoCut, BlockOrder, Cross}
use Rattle.spqr_session.proofs.Carried.{TellsOne}
use Rattle.spqr_session.proofs.ComponentParts.{setting-graph, setting-limits, family-in_plane}
use Rattle.spqr_session.proofs.GivenParts.{one-bad, arranged_or_bad, given-exists, given-one}
use Rattle.spqr_session.proofs.WholeWalks.{IsThere}

-- ---- locked nodes

-- whether a locked node has another choice
abbrev is_other : BlockInPlane → List (List ℕ) → ℕ → Bool
is_other a r j = lock_at a.locks j && not (is_same (choice a.nodes r j) (choice a.nodes a.rotation j))

other-not : (a : BlockInPlane) (r : List (List ℕ)) (j : ℕ) → is_other a r j ≡ false → lock_at a.locks j ≡ true → choice a.nodes r j ≡ choice a.nodes a.rotation j
other-not a r j f on = elim (cases_Bool (is_same (choice a.nodes r j) (choice a.nodes a.rotation j))) [
  | inl t ↦ same-is (choice a.nodes r j) (choice a.nodes a.rotation j) t
  | inr n ↦ absurd (both_ways (is_other a r j) f (and_from (lock_at a.locks j) (not (is_same (choice a.nodes r j) (choice a.nodes a.rotation j))) on (not_from_false (is_same (choice a.nodes r j) (choice a.nodes a.rotation j)) n)))
]

-- a block keeps the choices of its locked nodes, or there is a least one that does not
pub locked-or_kept : (a : BlockInPlane) (r : List (List ℕ)) → KeepsLocked a r ⊎ ((j : ℕ) × IsLeastLocked a r j)
locked-or_kept a r = elim (cases_Bool (some (length a.nodes) (is_other a r))) [
  | inl t ↦
      let j = least (length a.nodes) (is_other a r) in
      let both = and_parts (lock_at a.locks j) (not (is_same (choice a.nodes r j) (choice a.nodes a.rotation j))) (least-passes (length a.nodes) (is_other a r) t) in
      inr (
        j,
        record {
          within = least-below (length a.nodes) (is_other a r) t;
          locked = both.0;
          other = λ q. both_ways (not (is_same (choice a.nodes r j) (choice a.nodes a.rotation j)))
              (not_from_true (is_same (choice a.nodes r j) (choice a.nodes a.rotation j)) (is-same (choice a.nodes r j) (choice a.nodes a.rotation j) q)) both.1;
          none_before = λ i l on. other-not a r i (least-before (length a.nodes) (is_other a r) i l) on;
        },
      )
  | inr f ↦ inl (λ j l on. other-not a r j (some-none (length a.nodes) (is_other a r) f j l) on)
]

-- so do all blocks of a component, or there is a least one
pub blocks-or_kept : (k : Component) (block : ℕ → BlockInPlane) (q : List (List ℕ)) → ((b : ℕ) → is_member b k.blocks ≡ true → KeepsLocked (block b) (block_part k (block b).part q)) ⊎ ((b : ℕ) × (j : ℕ) × IsLeastLockedBlock k block q b j)
blocks-or_kept k block q = elim (least-other k.blocks (λ b. KeepsLocked (block b) (block_part k (block b).part q)) (λ b. (j : ℕ) × IsLeastLocked (block b) (block_part k (block b).part q) j) (λ b m. locked-or_kept (block b) (block_part k (block b).part q))) [
  | inl all ↦ inl all
  | inr w ↦ inr (w.here, w.other.0, record { among = w.among; node = w.other.1; none_before = λ b l m. w.below b m l })
]

-- there is one least block, and one least node
node-one : (a : BlockInPlane) (r : List (List ℕ)) (i j : ℕ) → IsLeastLocked a r i → IsLeastLocked a r j → i ≡ j
node-one a r i j p q = elim (cases_order i j) [
  | inl e ↦ e
  | inr (inl l) ↦ absurd (p.other (q.none_before i l p.locked))
  | inr (inr l) ↦ absurd (q.other (p.none_before j l q.locked))
]

block-one : (k : Component) (block : ℕ → BlockInPlane) (q : List (List ℕ)) (b c i j : ℕ) → IsLeastLockedBlock k block q b i → IsLeastLockedBlock k block q c j → b ≡ c
block-one k block q b c i j v w = elim (cases_order b c) [
  | inl e ↦ e
  | inr (inl l) ↦ absurd (v.node.other (w.none_before b l v.among i v.node.within v.node.locked))
  | inr (inr l) ↦ absurd (w.node.other (v.none_before c l w.among j w.node.within w.node.locked))
]

both-one : (k : Component) (block : ℕ → BlockInPlane) (q : List (List ℕ)) (b c i j : ℕ) → IsLeastLockedBlock k block q b i → IsLeastLockedBlock k block q c j → (b ≡ c) × (i ≡ j)
both-one k block q b c i j v w =
    let same = block-one k block q b c i j v w in
    (same, node-one (block c) (block_part k (block c).part q) i j (subst (λ z. IsLeastLocked (block z) (block_part k (block z).part q) i) same v.node) w.node)

module _ (setting : Setting) (c : ℕ) (entries : List (ℕ × List ℕ)) (s : State) (is : IsSetting setting) where
  abbrev k : Component
  k = component_at setting c

  abbrev block : ℕ → BlockInPlane
  block = blocks_of setting s.present

  abbrev applies : Code → Type 0
  applies = ConvertWholeApplies setting c entries s

  pub whole-numbered : IsNumbered (component_at setting c).part
  whole-numbered = component.numbered setting.named.graph setting.structure c is.structure (setting-graph setting is) (setting-limits setting is)

  pub given-same : (r q : List (List ℕ)) → IsGiven (component_at setting c).part entries r → IsGiven (component_at setting c).part entries q → r ≡ q
  given-same r q g h = given-one k.part entries whole-numbered r q g h

  -- ---- the codes that apply

  -- why a code applies
  abbrev Reason : Code → Type 0
  Reason code =
      ((c < setting.structure.component_count) × (is_planar_component setting c ≡ false) × (code ≡ NonPlanar) × (code_number code ≡ 5))
      ⊎ (((v : ℕ) × IsFirstBadInPart k.part entries v × (code ≡ (BadRotation v)) × (code_number code ≡ 6))
      ⊎ (((v : ℕ) × (e : ℕ) × (f : ℕ) × IsNotPlane k.part entries v e f × (code ≡ (NotGenusZero v e f)) × (code_number code ≡ 7))
      ⊎ (((b : ℕ) × (j : ℕ) × (is_planar_component setting c ≡ true) × IsLockedAt k block entries b j × (code ≡ (LockedIn b j)) × (code_number code ≡ 12))
      ⊎ ((setting.structure.component_count ≤ c) × (code ≡ NoComponent) × (code_number code ≡ 14)))))

  reason : (code : Code) → applies code → Reason code
  reason NoBlock a = absurd a
  reason NoNode a = absurd a
  reason WrongKind a = absurd a
  reason BadOrder a = absurd a
  reason NonPlanar a = inl (a.0, a.1, refl, refl)
  reason (BadRotation v) a = inr (inl (v, a.1, refl, refl))
  reason (NotGenusZero v e f) a = inr (inr (inl (v, e, f, a.1, refl, refl)))
  reason NothingToUndo a = absurd a
  reason NothingToRedo a = absurd a
  reason CountOver a = absurd a
  reason (RankOut n) a = absurd a
  reason (Locked j) a = absurd a
  reason (LockedIn b j) a = inr (inr (inr (inl (b, j, a.1, a.2, refl, refl))))
  reason (Parallel x y) a = absurd a
  reason NoComponent a = inr (inr (inr (inr (a, refl, refl))))
  reason NoCut a = absurd a
  reason (BlockOrder b) a = absurd a
  reason (Cross b d) a = absurd a

  -- codes of one number tell the same
  bad-one : (v : ℕ) (other : Code) → IsFirstBadInPart k.part entries v → code_number other ≡ 6 → Reason other → other ≡ BadRotation v
  bad-one v other h n (inl w) = absurd (omega (arith, n, w.3))
  bad-one v other h n (inr (inl w)) = w.2 ∙ ap (λ (z : ℕ). BadRotation z) (one-bad k.part entries w.0 v w.1 h)
  bad-one v other h n (inr (inr (inl w))) = absurd (omega (arith, n, w.5))
  bad-one v other h n (inr (inr (inr (inl w)))) = absurd (omega (arith, n, w.5))
  bad-one v other h n (inr (inr (inr (inr w)))) = absurd (omega (arith, n, w.2))

  genus-one : (v e f : ℕ) (other : Code) → IsNotPlane k.part entries v e f → code_number other ≡ 7 → Reason other → other ≡ NotGenusZero v e f
  genus-one v e f other h n (inl w) = absurd (omega (arith, n, w.3))
  genus-one v e f other h n (inr (inl w)) = absurd (omega (arith, n, w.3))
  genus-one v e f other h n (inr (inr (inl w))) =
      let m = w.3 in
      let vertices : w.0 ≡ v = m.vertices ∙ sym h.vertices in
      let edges : w.1 ≡ e = m.edges ∙ sym h.edges in
      let faces : w.2 ≡ f = m.faces ∙ ap (face_count k.part.graph) (given-same m.system h.system m.given h.given) ∙ sym h.faces in
      w.4 ∙ (λ i. NotGenusZero (vertices i) (edges i) (faces i))
  genus-one v e f other h n (inr (inr (inr (inl w)))) = absurd (omega (arith, n, w.5))
  genus-one v e f other h n (inr (inr (inr (inr w)))) = absurd (omega (arith, n, w.2))

  locked-one : (b j : ℕ) (other : Code) → IsLockedAt k block entries b j → code_number other ≡ 12 → Reason other → other ≡ LockedIn b j
  locked-one b j other h n (inl w) = absurd (omega (arith, n, w.3))
  locked-one b j other h n (inr (inl w)) = absurd (omega (arith, n, w.3))
  locked-one b j other h n (inr (inr (inl w))) = absurd (omega (arith, n, w.5))
  locked-one b j other h n (inr (inr (inr (inl w)))) =
      let m = w.3 in
      let same : m.system ≡ h.system = given-same m.system h.system m.given h.given in
      let two = both-one k block h.system w.0 b w.1 j (subst (λ (z : List (List ℕ)). IsLeastLockedBlock k block z w.0 w.1) same m.least) h.least in
      w.4 ∙ (λ i. LockedIn (two.0 i) (two.1 i))
  locked-one b j other h n (inr (inr (inr (inr w)))) = absurd (omega (arith, n, w.2))

  planar-one : (other : Code) → code_number other ≡ 5 → Reason other → other ≡ NonPlanar
  planar-one other n (inl w) = w.2
  planar-one other n (inr (inl w)) = absurd (omega (arith, n, w.3))
  planar-one other n (inr (inr (inl w))) = absurd (omega (arith, n, w.5))
  planar-one other n (inr (inr (inr (inl w)))) = absurd (omega (arith, n, w.5))
  planar-one other n (inr (inr (inr (inr w)))) = absurd (omega (arith, n, w.2))

  none-one : (other : Code) → code_number other ≡ 14 → Reason other → other ≡ NoComponent
  none-one other n (inl w) = absurd (omega (arith, n, w.3))
  none-one other n (inr (inl w)) = absurd (omega (arith, n, w.3))
  none-one other n (inr (inr (inl w))) = absurd (omega (arith, n, w.5))
  none-one other n (inr (inr (inr (inl w)))) = absurd (omega (arith, n, w.5))
  none-one other n (inr (inr (inr (inr w)))) = w.1

  pub whole-tells : TellsOne (ConvertWholeApplies setting c entries s)
  whole-tells code other p q e = elim (reason code p) [
    | inl w ↦ ap code_numbers (w.2 ∙ sym (planar-one other (sym e ∙ w.3) (reason other q)))
    | inr (inl w) ↦ ap code_numbers (w.2 ∙ sym (bad-one w.0 other w.1 (sym e ∙ w.3) (reason other q)))
    | inr (inr (inl w)) ↦ ap code_numbers (w.4 ∙ sym (genus-one w.0 w.1 w.2 other w.3 (sym e ∙ w.5) (reason other q)))
    | inr (inr (inr (inl w))) ↦ ap code_numbers (w.4 ∙ sym (locked-one w.0 w.1 other w.3 (sym e ∙ w.5) (reason other q)))
    | inr (inr (inr (inr w))) ↦ ap code_numbers (w.1 ∙ sym (none-one other (sym e ∙ w.2) (reason other q)))
  ]

  -- ---- the lowest

  pub outside-lowest : setting.structure.component_count ≤ c → IsLowest (ConvertWholeApplies setting c entries s) NoComponent
  outside-lowest out = record { met = out; least = by }
    where
      by : (other : Code) → applies other → 14 ≤ code_number other
      by NoBlock a = absurd a
      by NoNode a = absurd a
      by WrongKind a = absurd a
      by BadOrder a = absurd a
      by NonPlanar a = absurd (omega (arith, a.0, out))
      by (BadRotation v) a = absurd (omega (arith, a.0, out))
      by (NotGenusZero v e f) a = absurd (omega (arith, a.0, out))
      by NothingToUndo a = absurd a
      by NothingToRedo a = absurd a
      by CountOver a = absurd a
      by (RankOut n) a = absurd a
      by (Locked j) a = absurd a
      by (LockedIn b j) a = absurd (omega (arith, a.0, out))
      by (Parallel x y) a = absurd a
      by NoComponent a = omega arith
      by NoCut a = absurd a
      by (BlockOrder b) a = absurd a
      by (Cross b d) a = absurd a

  pub nonplanar-lowest : c < setting.structure.component_count → is_planar_component setting c ≡ false → IsLowest (ConvertWholeApplies setting c entries s) NonPlanar
  nonplanar-lowest l f = record { met = (l, f); least = λ other a. by other (reason other a) }
    where
      by : (other : Code) → Reason other → 5 ≤ code_number other
      by other (inl w) = omega (arith, w.3)
      by other (inr (inl w)) = omega (arith, w.3)
      by other (inr (inr (inl w))) = omega (arith, w.5)
      by other (inr (inr (inr (inl w)))) = omega (arith, w.5)
      by other (inr (inr (inr (inr w)))) = omega (arith, w.2)

  module _ (there : IsThere setting c) where
    pub bad-lowest : (v : ℕ) → IsFirstBadInPart (component_at setting c).part entries v → IsLowest (ConvertWholeApplies setting c entries s) (BadRotation v)
    bad-lowest v h = record { met = (there.within, h); least = λ other a. by other (reason other a) }
      where
        by : (other : Code) → Reason other → 6 ≤ code_number other
        by other (inl w) = absurd (both_ways (is_planar_component setting c) w.1 there.planar)
        by other (inr (inl w)) = omega (arith, w.3)
        by other (inr (inr (inl w))) = omega (arith, w.5)
        by other (inr (inr (inr (inl w)))) = omega (arith, w.5)
        by other (inr (inr (inr (inr w)))) = omega (arith, w.2)

    pub genus-lowest : (v e f : ℕ) → IsNotPlane (component_at setting c).part entries v e f → IsLowest (ConvertWholeApplies setting c entries s) (NotGenusZero v e f)
    genus-lowest v e f h = record { met = (there.within, h); least = λ other a. by other (reason other a) }
      where
        by : (other : Code) → Reason other → 7 ≤ code_number other
        by other (inl w) = absurd (both_ways (is_planar_component setting c) w.1 there.planar)
        by other (inr (inl w)) = absurd (no-bad k.part entries h.system w.0 h.given w.1)
        by other (inr (inr (inl w))) = omega (arith, w.5)
        by other (inr (inr (inr (inl w)))) = omega (arith, w.5)
        by other (inr (inr (inr (inr w)))) = omega (arith, w.2)

    module _ (right : IsState setting s) where
      plane : IsComponentInPlane k block
      plane = family-in_plane setting s.present right.present c there.within there.planar is

      one : component_count k.part.graph ≡ 1
      one = component-connected k block plane

      pub locked-lowest : (b j : ℕ) → IsLockedAt (component_at setting c) (blocks_of setting s.present) entries b j → IsLowest (ConvertWholeApplies setting c entries s) (LockedIn b j)
      locked-lowest b j h = record { met = (there.within, there.planar, h); least = λ other a. by other (reason other a) }
        where
          by : (other : Code) → Reason other → 12 ≤ code_number other
          by other (inl w) = absurd (both_ways (is_planar_component setting c) w.1 there.planar)
          by other (inr (inl w)) = absurd (no-bad k.part entries h.system w.0 h.given w.1)
          by other (inr (inr (inl w))) = absurd (no-genus k.part entries h.system w.0 w.1 w.2 whole-numbered one h.given h.plane w.3)
          by other (inr (inr (inr (inl w)))) = omega (arith, w.5)
          by other (inr (inr (inr (inr w)))) = omega (arith, w.2)

      -- none applies to a member
      pub member-none : (q : List (List ℕ)) → IsGiven (component_at setting c).part entries q → IsWholeMember (component_at setting c) (blocks_of setting s.present) q → NoneApplies (ConvertWholeApplies setting c entries s)
      member-none q given member code a = by (reason code a)
        where
          by : Reason code → ⊥
          by (inl w) = both_ways (is_planar_component setting c) w.1 there.planar
          by (inr (inl w)) = no-bad k.part entries q w.0 given w.1
          by (inr (inr (inl w))) = no-genus k.part entries q w.0 w.1 w.2 whole-numbered one given member.plane w.3
          by (inr (inr (inr (inl w)))) =
              let h = w.3 in
              let least = h.least in
              let node = least.node in
              let kept = member.kept w.0 least.among in
              node.other (ap (λ (z : List (List ℕ)). choice (block w.0).nodes (block_part k (block w.0).part z) w.1) (given-same h.system q h.given given) ∙ kept.keeps w.1 node.within node.locked)
          by (inr (inr (inr (inr w)))) = absurd (omega (arith, w.0, there.within))

      -- a lowest code applies, or the lists are a member
      pub record IsMember : Type 0 where
        pub system : List (List ℕ)
        pub given : IsGiven (component_at setting c).part entries system
        pub member : IsWholeMember (component_at setting c) (blocks_of setting s.present) system

      plane-found : (q : List (List ℕ)) → IsGiven k.part entries q → IsPlaneSystem k.part.graph q → ((code : Code) × IsLowest applies code) ⊎ IsMember
      plane-found q g p = elim (blocks-or_kept k block q) [
        | inl all ↦ inr (record { system = q; given = g; member = record { plane = p; kept = λ b m. record { plane = (parts-plane k block plane q p b m).plane; keeps = all b m } } })
        | inr w ↦ inl (LockedIn w.0 w.1, locked-lowest w.0 w.1 (record { system = q; given = g; plane = p; least = w.2 }))
      ]

      given-found : (q : List (List ℕ)) → IsGiven k.part entries q → ((code : Code) × IsLowest applies code) ⊎ IsMember
      given-found q g = elim (cases_eq (k.part.graph.vertex_count + face_count k.part.graph q) (edge_count k.part.graph + 2)) [
        | inl e ↦ plane-found q g (record { system = g.system; plane = two-plane k.part.graph q one e })
        | inr n ↦ inl (
          NotGenusZero k.part.graph.vertex_count (edge_count k.part.graph) (face_count k.part.graph q),
          genus-lowest k.part.graph.vertex_count (edge_count k.part.graph) (face_count k.part.graph q) (record {
            system = q;
            given = g;
            vertices = refl;
            edges = refl;
            faces = refl;
            differs = n;
          }),
        )
      ]

      pub lists-found : ((code : Code) × IsLowest (ConvertWholeApplies setting c entries s) code) ⊎ IsMember
      lists-found = elim (arranged_or_bad k.part entries whole-numbered) [
        | inr bad ↦ inl (BadRotation bad.0, bad-lowest bad.0 bad.1)
        | inl a ↦ (let g = given-exists k.part entries whole-numbered a in given-found g.0 g.1)
      ]
