-- Taking lists in as the rotation system of a block: which codes apply, that there is at most one, and what holds where none does.
use Rattle.std.proofs.Common.{◌≡◌, ℕ, ◌+◌, ◌*◌, ◌<◌, ◌≤◌, ◌⊎◌, ◌&&◌, Bool, true, false, not, List, length, Option, None, Some, inl, inr, refl, sym, ap, ◌∙◌, subst, arith}
use Rattle.std.proofs.lemmas.Bool.{cases_Bool, cases_eq, cases_order, both_ways, and_parts, and_from, not_from_false, not_from_true, false_from_ne_true}
use Rattle.permutations.specs.Count.{some, least}
use Rattle.permutations.proofs.Search.{some-none, least-below, least-passes, least-before}
use Rattle.multigraph.specs.Graph.{edge_count}
use Rattle.multigraph.specs.Part.{IsNumbered}
use Rattle.rotations.specs.PartLists.{IsFirstBadInPart}
use Rattle.faces.specs.Euler.{face_count, IsPlaneSystem}
use Rattle.pair_split.specs.Tutte.{is_before}
use Rattle.skeletons.specs.Items as items
use Rattle.skeletons.specs.Choices.{choice}
use Rattle.skeletons.specs.Moves.{is_same}
use Rattle.skeletons.proofs.Before.{before-total}
use Rattle.skeletons.proofs.Leading.{is-same}
use Rattle.skel_embed.specs.Block.{lock_at}
use Rattle.skel_embed.specs.Taken.{IsGiven, IsNotPlane}
use Rattle.skel_embed.proofs.Spheres.{one-component, plane-from_two}
use Rattle.spqr_session.specs.Trees.{BlockTree, tree_at}
use Rattle.spqr_session.specs.State.{Embedding, State, entry_at, IsEntry}
use Rattle.spqr_session.specs.Codes.{code_number, IsLowest, NoneApplies}
use Rattle.spqr_session.specs.Commands.Take.{IsLockedOut, TakeApplies, IsTaken}
use Rattle.spqr_session.specs.Planned.{TakenCodes}
use Rattle.spqr_session.proofs.BlockPlans.{EntryTakenCodes}
use Rattle.spqr_session.specs.declared.code.Code.{Code}
use Rattle.spqr_session.specs.declared.code.Code.TheVariants.{NoBlock, NoNode, WrongKind, BadOrder, NonPlanar, BadRotation, NotGenusZero, NothingToUndo, NothingToRedo, CountOver, RankOut, Locked, Parallel, LockedIn, NoComponent, NoCut, BlockOrder, Cross}
use Rattle.spqr_session.proofs.Changes.{embedding-same}
use Rattle.spqr_session.proofs.GivenParts.{one-bad, arranged-not_bad, arranged_or_bad, given-exists, given-one}

passes-same : (c d : List ℕ) → is_same c d ≡ true → c ≡ d
passes-same c d h =
    let both = and_parts (not (is_before c d)) (not (is_before d c)) h in
    before-total c d
    (false_from_ne_true (is_before c d) (λ t. both_ways (not (is_before c d)) (not_from_true (is_before c d) t) both.0))
    (false_from_ne_true (is_before d c) (λ t. both_ways (not (is_before d c)) (not_from_true (is_before d c) t) both.1))

module _ (entries : List (ℕ × List ℕ)) (tree : BlockTree) (numbered : IsNumbered tree.part) (block : items.IsBlockTree tree.part.graph tree.nodes) where
  -- a plane rotation system has these numbers
  plane-numbers : (r : List (List ℕ)) → IsPlaneSystem tree.part.graph r → tree.part.graph.vertex_count + face_count tree.part.graph r ≡ edge_count tree.part.graph + 2
  plane-numbers r p = p.plane ∙ ap (λ z. edge_count tree.part.graph + 2 * z) (one-component tree.part.graph block.graph block.block)

  same-given : (r q : List (List ℕ)) → IsGiven tree.part entries r → IsGiven tree.part entries q → r ≡ q
  same-given r q g h = given-one tree.part entries numbered r q g h

  pub not-both : (r : List (List ℕ)) (v x f : ℕ) → IsGiven tree.part entries r → IsPlaneSystem tree.part.graph r → IsNotPlane tree.part entries v x f → ⊥
  not-both r v x f g p n =
      let faces : face_count tree.part.graph n.system ≡ face_count tree.part.graph r = ap (face_count tree.part.graph) (same-given n.system r n.given g) in
      n.differs (omega (arith, n.vertices, n.edges, n.faces, faces, plane-numbers r p))

  -- ---- what is told

  -- why a code applies
  abbrev Reason : Embedding → Code → Type 0
  Reason e code =
      ((v : ℕ) × IsFirstBadInPart tree.part entries v × (code ≡ BadRotation v)) ⊎ (((v : ℕ) × (x : ℕ) × (f : ℕ) × IsNotPlane tree.part entries v x f × (code ≡ NotGenusZero v x f)) ⊎ ((k : ℕ) × IsLockedOut tree entries e k × (code ≡ Locked k)))

  reason : (e : Embedding) (code : Code) → TakenCodes entries tree e code → Reason e code
  reason e NoBlock a = absurd a
  reason e NoNode a = absurd a
  reason e WrongKind a = absurd a
  reason e BadOrder a = absurd a
  reason e NonPlanar a = absurd a
  reason e (BadRotation v) a = inl (v, a, refl)
  reason e (NotGenusZero v x f) a = inr (inl (v, x, f, a, refl))
  reason e NothingToUndo a = absurd a
  reason e NothingToRedo a = absurd a
  reason e CountOver a = absurd a
  reason e (RankOut n) a = absurd a
  reason e (Locked k) a = inr (inr (k, a, refl))
  reason e (Parallel x y) a = absurd a
  reason e (LockedIn x y) a = absurd a
  reason e NoComponent a = absurd a
  reason e NoCut a = absurd a
  reason e (BlockOrder x) a = absurd a
  reason e (Cross x y) a = absurd a

  -- lists that are no rotation system have no other code
  bad-alone : (e : Embedding) (v : ℕ) (other : Code) → IsFirstBadInPart tree.part entries v → TakenCodes entries tree e other → other ≡ BadRotation v
  bad-alone e v other bad a = elim (reason e other a) [
    | inl w ↦ w.2 ∙ ap (λ (n : ℕ). BadRotation n) (one-bad tree.part entries w.0 v w.1 bad)
    | inr (inl w) ↦ let n = w.3 in absurd (arranged-not_bad tree.part entries v n.given.arranged bad)
    | inr (inr w) ↦ let l = w.1 in absurd (arranged-not_bad tree.part entries v l.given.arranged bad)
  ]

  -- nor has a rotation system that is not plane
  not_plane-alone : (e : Embedding) (v x f : ℕ) (other : Code) → IsNotPlane tree.part entries v x f → TakenCodes entries tree e other → other ≡ NotGenusZero v x f
  not_plane-alone e v x f other n a = elim (reason e other a) [
    | inl w ↦ absurd (arranged-not_bad tree.part entries w.0 n.given.arranged w.1)
    | inr (inl w) ↦
        let m = w.3 in
        let vertices : w.0 ≡ v = m.vertices ∙ sym n.vertices in
        let edges : w.1 ≡ x = m.edges ∙ sym n.edges in
        let faces : w.2 ≡ f = m.faces ∙ ap (face_count tree.part.graph) (same-given m.system n.system m.given n.given) ∙ sym n.faces in
        w.4 ∙ (λ i. NotGenusZero (vertices i) (edges i) (faces i))
    | inr (inr w) ↦ let l = w.1 in absurd (not-both l.system v x f l.given l.plane n)
  ]

  -- nor has one with another choice at a locked node
  locked-one : (e : Embedding) (j k : ℕ) → IsLockedOut tree entries e j → IsLockedOut tree entries e k → j ≡ k
  locked-one e j k p q = elim (cases_order j k) [
    | inl same ↦ same
    | inr (inl less) ↦ absurd (apart j k less p q)
    | inr (inr more) ↦ absurd (apart k j more q p)
  ]
    where
      apart : (j k : ℕ) → j < k → IsLockedOut tree entries e j → IsLockedOut tree entries e k → ⊥
      apart j k l p q = p.other (ap (λ (r : List (List ℕ)). choice tree.nodes r j) (same-given p.system q.system p.given q.given) ∙ q.none_before j l p.locked)

  locked-alone : (e : Embedding) (k : ℕ) (other : Code) → IsLockedOut tree entries e k → TakenCodes entries tree e other → other ≡ Locked k
  locked-alone e k other l a = elim (reason e other a) [
    | inl w ↦ absurd (arranged-not_bad tree.part entries w.0 l.given.arranged w.1)
    | inr (inl w) ↦ absurd (not-both l.system w.0 w.1 w.2 l.given l.plane w.3)
    | inr (inr w) ↦ w.2 ∙ ap (λ (n : ℕ). Locked n) (locked-one e w.0 k w.1 l)
  ]

  -- so at most one code applies
  pub taken-alone : (e : Embedding) (code other : Code) → TakenCodes entries tree e code → TakenCodes entries tree e other → other ≡ code
  taken-alone e code other a b = elim (reason e code a) [
    | inl w ↦ bad-alone e w.0 other w.1 b ∙ sym w.2
    | inr (inl w) ↦ not_plane-alone e w.0 w.1 w.2 other w.3 b ∙ sym w.4
    | inr (inr w) ↦ locked-alone e w.0 other w.1 b ∙ sym w.2
  ]

  pub entry-alone : (o : Option Embedding) (code other : Code) → EntryTakenCodes entries tree o code → EntryTakenCodes entries tree o other → other ≡ code
  entry-alone None code other a b = b ∙ sym a
  entry-alone (Some e) code other a b = taken-alone e code other a b

  -- ---- what is taken

  -- where the lists are taken no code applies
  pub taken-none : (old new : Embedding) → IsTaken entries tree old new → NoneApplies (TakenCodes entries tree old)
  taken-none old new t code a = elim (reason old code a) [
    | inl w ↦ arranged-not_bad tree.part entries w.0 t.given.arranged w.1
    | inr (inl w) ↦ not-both new.rotation w.0 w.1 w.2 t.given t.plane w.3
    | inr (inr w) ↦
        let l = w.1 in
        l.other (ap (λ (r : List (List ℕ)). choice tree.nodes r w.0) (same-given l.system new.rotation l.given t.given) ∙ t.keeps w.0 l.within l.locked)
  ]

  -- and they are taken in one way
  pub taken-one : (old new other : Embedding) → IsTaken entries tree old new → IsTaken entries tree old other → new ≡ other
  taken-one old new other p q = embedding-same new other (same-given new.rotation other.rotation p.given q.given) (p.locks ∙ sym q.locks)

  -- whether a locked node has another choice
  abbrev is_other : Embedding → List (List ℕ) → ℕ → Bool
  is_other e r k = lock_at e.locks k && not (is_same (choice tree.nodes r k) (choice tree.nodes e.rotation k))

  -- a locked node that does not pass has the same
  same-choice : (e : Embedding) (r : List (List ℕ)) (k : ℕ) → is_other e r k ≡ false → lock_at e.locks k ≡ true → choice tree.nodes r k ≡ choice tree.nodes e.rotation k
  same-choice e r k f on = elim (cases_Bool (is_same (choice tree.nodes r k) (choice tree.nodes e.rotation k))) [
    | inl t ↦ passes-same (choice tree.nodes r k) (choice tree.nodes e.rotation k) t
    | inr n ↦ absurd (both_ways (is_other e r k) f (and_from (lock_at e.locks k) (not (is_same (choice tree.nodes r k) (choice tree.nodes e.rotation k))) on (not_from_false (is_same (choice tree.nodes r k) (choice tree.nodes e.rotation k)) n)))
  ]

  -- a plane rotation system is kept out by a least locked node, or taken
  abbrev Found : Embedding → Type 0
  Found e = ((code : Code) × TakenCodes entries tree e code) ⊎ ((new : Embedding) × IsTaken entries tree e new)

  plane-found : (e : Embedding) (r : List (List ℕ)) → IsGiven tree.part entries r → IsPlaneSystem tree.part.graph r → Found e
  plane-found e r g p = elim (cases_Bool (some (length tree.nodes) (is_other e r))) [
    | inl t ↦
        let k = least (length tree.nodes) (is_other e r) in
        let both = and_parts (lock_at e.locks k) (not (is_same (choice tree.nodes r k) (choice tree.nodes e.rotation k))) (least-passes (length tree.nodes) (is_other e r) t) in
        inl (
          Locked k,
          record {
            system = r;
            given = g;
            plane = p;
            within = least-below (length tree.nodes) (is_other e r) t;
            locked = both.0;
            other = λ q. both_ways (not (is_same (choice tree.nodes r k) (choice tree.nodes e.rotation k)))
                (not_from_true (is_same (choice tree.nodes r k) (choice tree.nodes e.rotation k)) (is-same (choice tree.nodes r k) (choice tree.nodes e.rotation k) q)) both.1;
            none_before = λ j l on. same-choice e r j (least-before (length tree.nodes) (is_other e r) j l) on;
          },
        )
    | inr f ↦ inr (
      record { rotation = r; locks = e.locks },
      record { given = g; plane = p; keeps = λ j l on. same-choice e r j (some-none (length tree.nodes) (is_other e r) f j l) on; locks = refl },
    )
  ]

  -- so a code applies, or the lists are taken
  pub taken-found : (e : Embedding) → Found e
  taken-found e = elim (arranged_or_bad tree.part entries numbered) [
    | inr bad ↦ inl (BadRotation bad.0, bad.1)
    | inl a ↦ (let is = given-exists tree.part entries numbered a in by is.0 is.1)
  ]
    where
      by : (r : List (List ℕ)) → IsGiven tree.part entries r → Found e
      by r g = elim (cases_eq (tree.part.graph.vertex_count + face_count tree.part.graph r) (edge_count tree.part.graph + 2)) [
        | inl q ↦ plane-found e r g (record { system = g.system; plane = plane-from_two tree.part.graph block.graph block.block r q })
        | inr n ↦ inl (
          NotGenusZero tree.part.graph.vertex_count (edge_count tree.part.graph) (face_count tree.part.graph r),
          record {
            system = r;
            given = g;
            vertices = refl;
            edges = refl;
            faces = refl;
            differs = n;
          },
        )
      ]

-- what is taken is right
pub taken-right : (entries : List (ℕ × List ℕ)) (tree : BlockTree) (old new : Embedding) → IsEntry tree None (Some old) → IsTaken entries tree old new → IsEntry tree None (Some new)
taken-right entries tree old new right t = (t.plane, ap (λ (l : List Bool). length l) t.locks ∙ right.1)

-- ---- from a block to the blocks

module _ (entries : List (ℕ × List ℕ)) (trees : List BlockTree) (b : ℕ) (s : State) (tree : BlockTree) (there : tree_at trees b ≡ tree) where
  -- the codes of a block that is there are those of its tree and its entry
  pub entry-up : (o : Option Embedding) → entry_at s.present b ≡ o → b < length trees → (code : Code) → EntryTakenCodes entries tree o code → TakeApplies trees b entries s code
  entry-up None p l code h = subst (TakeApplies trees b entries s) (sym h) (l, p)
  entry-up (Some e) p l NoBlock h = absurd h
  entry-up (Some e) p l NoNode h = absurd h
  entry-up (Some e) p l WrongKind h = absurd h
  entry-up (Some e) p l BadOrder h = absurd h
  entry-up (Some e) p l NonPlanar h = absurd h
  entry-up (Some e) p l (BadRotation v) h = (l, (e, p, subst (λ (t : BlockTree). IsFirstBadInPart t.part entries v) (sym there) h))
  entry-up (Some e) p l (NotGenusZero v x f) h = (l, (e, p, subst (λ (t : BlockTree). IsNotPlane t.part entries v x f) (sym there) h))
  entry-up (Some e) p l NothingToUndo h = absurd h
  entry-up (Some e) p l NothingToRedo h = absurd h
  entry-up (Some e) p l CountOver h = absurd h
  entry-up (Some e) p l (RankOut n) h = absurd h
  entry-up (Some e) p l (Locked k) h = (l, (e, p, subst (λ (t : BlockTree). IsLockedOut t entries e k) (sym there) h))
  entry-up (Some e) p l (Parallel x y) h = absurd h
  entry-up (Some e) p l (LockedIn x y) h = absurd h
  entry-up (Some e) p l NoComponent h = absurd h
  entry-up (Some e) p l NoCut h = absurd h
  entry-up (Some e) p l (BlockOrder x) h = absurd h
  entry-up (Some e) p l (Cross x y) h = absurd h

  pub entry-down : (o : Option Embedding) → entry_at s.present b ≡ o → b < length trees → (code : Code) → TakeApplies trees b entries s code → EntryTakenCodes entries tree o code
  entry-down o p l NoBlock a = absurd (omega (arith, a, l))
  entry-down o p l NoNode a = absurd a
  entry-down o p l WrongKind a = absurd a
  entry-down o p l BadOrder a = absurd a
  entry-down o p l NonPlanar a = subst (λ (x : Option Embedding). EntryTakenCodes entries tree x NonPlanar) (sym a.1 ∙ p) refl
  entry-down o p l (BadRotation v) a = let w = a.1 in subst (λ (x : Option Embedding). EntryTakenCodes entries tree x (BadRotation v)) (sym w.1 ∙ p) (subst (λ (t : BlockTree). IsFirstBadInPart t.part entries v) there w.2)
  entry-down o p l (NotGenusZero v x f) a = let w = a.1 in subst (λ (y : Option Embedding). EntryTakenCodes entries tree y (NotGenusZero v x f)) (sym w.1 ∙ p) (subst (λ (t : BlockTree). IsNotPlane t.part entries v x f) there w.2)
  entry-down o p l NothingToUndo a = absurd a
  entry-down o p l NothingToRedo a = absurd a
  entry-down o p l CountOver a = absurd a
  entry-down o p l (RankOut n) a = absurd a
  entry-down o p l (Locked k) a = let w = a.1 in subst (λ (x : Option Embedding). EntryTakenCodes entries tree x (Locked k)) (sym w.1 ∙ p) (subst (λ (t : BlockTree). IsLockedOut t entries w.0 k) there w.2)
  entry-down o p l (Parallel x y) a = absurd a
  entry-down o p l (LockedIn x y) a = absurd a
  entry-down o p l NoComponent a = absurd a
  entry-down o p l NoCut a = absurd a
  entry-down o p l (BlockOrder x) a = absurd a
  entry-down o p l (Cross x y) a = absurd a

  -- so the lowest is the same
  pub entry-lowest : (o : Option Embedding) → entry_at s.present b ≡ o → b < length trees → (code : Code) → IsLowest (EntryTakenCodes entries tree o) code → IsLowest (TakeApplies trees b entries s) code
  entry-lowest o p l code h = record { met = entry-up o p l code h.met; least = λ other a. h.least other (entry-down o p l other a) }

-- where there is no such block code 1 is the only one
pub outside-alone : (entries : List (ℕ × List ℕ)) (trees : List BlockTree) (b : ℕ) (s : State) → length trees ≤ b → (code : Code) → TakeApplies trees b entries s code → code ≡ NoBlock
outside-alone entries trees b s l NoBlock a = refl
outside-alone entries trees b s l NoNode a = absurd a
outside-alone entries trees b s l WrongKind a = absurd a
outside-alone entries trees b s l BadOrder a = absurd a
outside-alone entries trees b s l NonPlanar a = let i = a.0 in absurd (omega (arith, l, i))
outside-alone entries trees b s l (BadRotation v) a = let i = a.0 in absurd (omega (arith, l, i))
outside-alone entries trees b s l (NotGenusZero v x f) a = let i = a.0 in absurd (omega (arith, l, i))
outside-alone entries trees b s l NothingToUndo a = absurd a
outside-alone entries trees b s l NothingToRedo a = absurd a
outside-alone entries trees b s l CountOver a = absurd a
outside-alone entries trees b s l (RankOut n) a = absurd a
outside-alone entries trees b s l (Locked k) a = let i = a.0 in absurd (omega (arith, l, i))
outside-alone entries trees b s l (Parallel x y) a = absurd a
outside-alone entries trees b s l (LockedIn x y) a = absurd a
outside-alone entries trees b s l NoComponent a = absurd a
outside-alone entries trees b s l NoCut a = absurd a
outside-alone entries trees b s l (BlockOrder x) a = absurd a
outside-alone entries trees b s l (Cross x y) a = absurd a

-- a code that is alone is the lowest
pub alone-lowest : (applies : Code → Type 0) (code : Code) → applies code → ((other : Code) → applies other → other ≡ code) → IsLowest applies code
alone-lowest applies code a one = record { met = a; least = λ other b. omega (arith, ap code_number (one other b)) }

pub outside-lowest : (entries : List (ℕ × List ℕ)) (trees : List BlockTree) (b : ℕ) (s : State) → length trees ≤ b → IsLowest (TakeApplies trees b entries s) NoBlock
outside-lowest entries trees b s l = alone-lowest (TakeApplies trees b entries s) NoBlock l (outside-alone entries trees b s l)
