-- Commands that name a block: the codes of their ladders, that they do one thing, and what they leave.
use Rattle.std.proofs.Common.{◌≡◌, ℕ, ◌<◌, Bool, true, false, not, List, [], ◌∷◌, ◌++◌, length, map, slice_index_or, Option, None, Some, Result, IfOk, inl, inr, refl, sym, ap, ◌∙◌, subst, arith}
use Rattle.std.specs.Global.{Vec}
use Rattle.std.proofs.lemmas.Bool.{ltb-true, lt-ltb, true≢false}
use Rattle.std.proofs.lemmas.List.{length-map}
use Rattle.spqr_session.specs.Trees.{BlockTree, tree_at}
use Rattle.spqr_session.specs.State.{Embedding, State, entry_at}
use Rattle.spqr_session.specs.Codes.{Ladder, rises_above, first_code}
use Rattle.spqr_session.specs.BlockCodes.{is_block, is_planar, block_ladder, of_entry, ReadsBlock, read_ladder, ReadStep, Answered, TellsBlock}
use Rattle.spqr_session.specs.Embedded.{BlockView, view_tree, view_entry, view_at}
use Rattle.spqr_session.specs.declared.code.Code.{Code}
use Rattle.spqr_session.specs.declared.code.Code.TheVariants.{NoBlock, NonPlanar}
use Rattle.spqr_session.proofs.Views.{trees-at, entries-at}
use Rattle.spqr_session.proofs.Steps.{text-map}
use Rattle.spqr_session.proofs.Carried.{DoesOne}
use Rattle.spqr_session.proofs.Ladders.{rung-hit, rung-missed, rung-none, refused-first, carried-out, ladder-answers, ladder-one}

-- ---- tests

-- a test whose negation fails, and one that fails
pub held : (t : Bool) → not t ≡ false → t ≡ true
held true e = refl
held false e = absurd (true≢false e)

pub in-block : (trees : List BlockTree) (b : ℕ) → not (is_block trees b) ≡ false → b < length trees
in-block trees b e = ltb-true b (length trees) (held (is_block trees b) e)

pub block-in : (trees : List BlockTree) (b : ℕ) → b < length trees → not (is_block trees b) ≡ false
block-in trees b l = ap not (lt-ltb b (length trees) l)

-- a planar block has an entry
pub planar-entry : (o : Option Embedding) → not (is_planar o) ≡ false → (e : Embedding) × (o ≡ Some e)
planar-entry None h = absurd (true≢false h)
planar-entry (Some e) h = (e, refl)

-- two entries that are one
pub entry-same : (o : Option Embedding) (e d : Embedding) → o ≡ Some e → o ≡ Some d → e ≡ d
entry-same o e d p q = let both : Some e ≡ Some d = sym p ∙ q in cc

-- ---- ladders

-- ladders one behind the other
pub first-behind : (front rest : Ladder) → first_code front ≡ None → first_code (front ++ rest) ≡ first_code rest
first-behind [] rest e = refl
first-behind ((c, true) ∷ front) rest e = absurd (let both : Some c ≡ None = e in cc)
first-behind ((c, false) ∷ front) rest e = first-behind front rest e

pub none-front : (front rest : Ladder) → first_code (front ++ rest) ≡ None → first_code front ≡ None
none-front [] rest e = refl
none-front ((c, true) ∷ front) rest e = e
none-front ((c, false) ∷ front) rest e = none-front front rest e

-- codes of an embedding that rise do so for an entry
pub entry-rises : (more : Embedding → Ladder) → ((e : Embedding) → rises_above 5 (more e) ≡ true) → (o : Option Embedding) → rises_above 5 (of_entry more o) ≡ true
entry-rises more h None = refl
entry-rises more h (Some e) = h e

module _ (trees : List BlockTree) (b : ℕ) (s : State) where
  -- where codes 1 and 5 do not apply there is an entry
  pub block-entry : first_code (block_ladder trees b s) ≡ None → (b < length trees) × ((e : Embedding) × (entry_at s.present b ≡ Some e))
  block-entry e =
      let first = rung-none NoBlock (not (is_block trees b)) ((NonPlanar, not (is_planar (entry_at s.present b))) ∷ []) e in
      let second = rung-none NonPlanar (not (is_planar (entry_at s.present b))) [] first.1 in
      (in-block trees b first.0, planar-entry (entry_at s.present b) second.0)

  -- and where there is one they do not
  pub entry-block : (e : Embedding) → b < length trees → entry_at s.present b ≡ Some e → first_code (block_ladder trees b s) ≡ None
  entry-block e l p =
      rung-missed NoBlock (not (is_block trees b)) ((NonPlanar, not (is_planar (entry_at s.present b))) ∷ []) None (block-in trees b l)
      (rung-missed NonPlanar (not (is_planar (entry_at s.present b))) [] None (ap (λ (o : Option Embedding). not (is_planar o)) p) refl)

  pub no-entry : (rest : Ladder) → b < length trees → entry_at s.present b ≡ None → first_code (block_ladder trees b s ++ rest) ≡ Some NonPlanar
  no-entry rest l p =
      rung-missed NoBlock (not (is_block trees b)) ((NonPlanar, not (is_planar (entry_at s.present b))) ∷ rest) (Some NonPlanar) (block-in trees b l)
      (rung-hit NonPlanar (not (is_planar (entry_at s.present b))) rest (ap (λ (o : Option Embedding). not (is_planar o)) p))

-- ---- commands that only read

module _ (more : BlockTree → Embedding → Ladder) (rising : (tree : BlockTree) (e : Embedding) → rises_above 5 (more tree e) ≡ true) (IsAbout : BlockTree → Embedding → List ℕ → Type 0) (trees : List BlockTree) (b : ℕ) (s : State) where
  abbrev ladder : Ladder
  ladder = read_ladder more trees b s

  read-rises : rises_above 0 ladder ≡ true
  read-rises = entry-rises (more (tree_at trees b)) (rising (tree_at trees b)) (entry_at s.present b)

  -- where no code applies there is an entry, and it brings no code
  read-entry : first_code ladder ≡ None → (b < length trees) × ((e : Embedding) × (entry_at s.present b ≡ Some e) × (first_code (more (tree_at trees b) e) ≡ None))
  read-entry n =
      let rest = of_entry (more (tree_at trees b)) (entry_at s.present b) in
      let front = none-front (block_ladder trees b s) rest n in
      let there = block-entry trees b s front in
      (there.0, (there.1.0, there.1.1, sym (ap (λ (o : Option Embedding). first_code (of_entry (more (tree_at trees b)) o)) there.1.1) ∙ sym (first-behind (block_ladder trees b s) rest front) ∙ n))

  -- what is told of a block that is there
  pub tells-block : (o : Option Embedding) (text : List ℕ) → b < length trees → entry_at s.present b ≡ o → TellsBlock (tree_at trees b) o more IsAbout text → ReadStep more IsAbout trees b s text s
  tells-block None text l p t = refused-first ladder read-rises (ReadsBlock trees b IsAbout) s NonPlanar text (no-entry trees b s (of_entry (more (tree_at trees b)) (entry_at s.present b)) l p) t
  tells-block (Some e) text l p t = told (first_code (more (tree_at trees b) e)) refl t
    where
      behind : (c : Option Code) → first_code (more (tree_at trees b) e) ≡ c → first_code ladder ≡ c
      behind c q =
          first-behind (block_ladder trees b s) (of_entry (more (tree_at trees b)) (entry_at s.present b)) (entry-block trees b s e l p)
          ∙ ap (λ (o : Option Embedding). first_code (of_entry (more (tree_at trees b)) o)) p ∙ q

      told : (c : Option Code) → first_code (more (tree_at trees b) e) ≡ c → Answered c text (IsAbout (tree_at trees b) e text) → ReadStep more IsAbout trees b s text s
      told None q a = carried-out ladder read-rises (ReadsBlock trees b IsAbout) s text s (behind None q) (record { embedding = e; present = p; answer = a; stays = refl })
      told (Some code) q a = refused-first ladder read-rises (ReadsBlock trees b IsAbout) s code text (behind (Some code) q) a

  -- there is an answer, where there is one about each block that is planar
  pub read-answers : (b < length trees → (e : Embedding) → entry_at s.present b ≡ Some e → first_code (more (tree_at trees b) e) ≡ None → (text : List ℕ) × IsAbout (tree_at trees b) e text) → (text : List ℕ) × (after : State) × ReadStep more IsAbout trees b s text after
  read-answers each = ladder-answers ladder read-rises (ReadsBlock trees b IsAbout) s (λ n.
      let h = read-entry n in
      let a = each h.0 h.1.0 h.1.1 h.1.2 in
      (a.0, s, record { embedding = h.1.0; present = h.1.1; answer = a.1; stays = refl }))

  -- and one only, where there is only one about each
  read-does : ((e : Embedding) → entry_at s.present b ≡ Some e → (t u : List ℕ) → IsAbout (tree_at trees b) e t → IsAbout (tree_at trees b) e u → t ≡ u) → DoesOne (ReadsBlock trees b IsAbout) s
  read-does one t u after other p q =
      let same : p.embedding ≡ q.embedding = entry-same (entry_at s.present b) p.embedding q.embedding p.present q.present in
      (one q.embedding q.present t u (subst (λ (e : Embedding). IsAbout (tree_at trees b) e t) same p.answer) q.answer, p.stays ∙ sym q.stays)

  pub read-one : ((e : Embedding) → entry_at s.present b ≡ Some e → (t u : List ℕ) → IsAbout (tree_at trees b) e t → IsAbout (tree_at trees b) e u → t ≡ u) → (t u : List ℕ) (after other : State) → ReadStep more IsAbout trees b s t after
      → ReadStep more IsAbout trees b s u other → (t ≡ u) × (after ≡ other)
  read-one one t u after other p q = ladder-one ladder read-rises (ReadsBlock trees b IsAbout) s (read-does one) t u after other p q

  -- the state stays
  pub read-stays : (text : List ℕ) (after : State) → ReadStep more IsAbout trees b s text after → after ≡ s
  read-stays text after (inl p) = p.stays
  read-stays text after (inr p) = p.1.stays

-- what is told of the block that is found at a place is the answer
pub block-read : {E : Type 0} (more : BlockTree → Embedding → Ladder) (rising : (tree : BlockTree) (e : Embedding) → rises_above 5 (more tree e) ≡ true) (IsAbout : BlockTree → Embedding → List ℕ → Type 0) (views : List BlockView) (b : ℕ) (v : BlockView)
    (r : Result (Vec ℕ) E) → b < length views → v ≡ view_at views b → IfOk r (λ text. TellsBlock v.tree v.entry more IsAbout text.items) → (s : State) → s.present.entries ≡ map view_entry views
    → IfOk r (λ text. ReadStep more IsAbout (map view_tree views) b s text.items s)
block-read {E = E} more rising IsAbout views b v r l at told s present =
    text-map r (λ text. TellsBlock v.tree v.entry more IsAbout text) (λ text. ReadStep more IsAbout (map view_tree views) b s text s)
    (λ text t. tells-block more rising IsAbout (map view_tree views) b s (view_at views b).entry text (omega (arith, l, length-map views view_tree))
    (ap (λ (es : List (Option Embedding)). slice_index_or es b None) present ∙ entries-at views b)
    (subst (λ (x : BlockTree). TellsBlock x (view_at views b).entry more IsAbout text) (sym (trees-at views b)) (subst (λ (x : BlockView). TellsBlock x.tree x.entry more IsAbout text) at t)))
    told
