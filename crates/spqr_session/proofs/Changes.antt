-- Commands that change a block: they do one thing, and lead from a state to a state.
use Rattle.std.proofs.Common.{◌≡◌, ℕ, ◌<◌, ◌≤◌, Bool, true, not, List, ◌∷◌, ◌++◌, length, Option, None, Some, inl, inr, refl, sym, ap, ◌∙◌, subst, arith}
use Rattle.std.proofs.lemmas.Bool.{cases_lt, ltb-true, true≢false}
use Rattle.std.proofs.lemmas.List.{get_or_past}
use Rattle.std.proofs.lemmas.List.Elements.{All-cons, All-nil}
use Rattle.pair_split.specs.declared.components.Kind.{Kind}
use Rattle.pair_split.specs.declared.components.Kind.TheVariants.{S, P, R, B}
use Rattle.kuratowski.specs.declared.subdivision.Subdivision.{Subdivision}
use Rattle.spqr_session.specs.Trees.{BlockTree, tree_at}
use Rattle.spqr_session.specs.Certificates.{certificate_at}
use Rattle.faces.specs.Euler.{IsPlaneSystem}
use Rattle.spqr_session.specs.Setting.{Setting, IsSetting}
use Rattle.spqr_session.specs.State.{Embedding, Family, State, entry_at, IsEntry, IsFamily, IsState}
use Rattle.spqr_session.specs.Codes.{Ladder, first_code}
use Rattle.spqr_session.specs.declared.code.Code.TheVariants.{NoBlock, NoNode, WrongKind, NonPlanar}
use Rattle.spqr_session.specs.BlockCodes.{is_block, is_node, kind_of, is_planar, node_ladder, ChangesBlock, with_entry, changed, Silently}
use Rattle.pair_split.specs.Kinds.{is_rigid, is_bond}
use Rattle.spqr_session.proofs.Carried.{DoesOne}
use Rattle.spqr_session.proofs.Ladders.{rung-none}
use Rattle.spqr_session.proofs.BlockCarried.{held, in-block, planar-entry, entry-same}
use Rattle.spqr_session.proofs.KeptFamilies.{changed-right, put-right}

-- ---- kinds

pub rigid-is : (kind : Kind) → is_rigid kind ≡ true → kind ≡ R
rigid-is R h = refl
rigid-is P h = absurd (true≢false (sym h))
rigid-is S h = absurd (true≢false (sym h))
rigid-is B h = absurd (true≢false (sym h))

pub bond-is : (kind : Kind) → is_bond kind ≡ true → kind ≡ P
bond-is P h = refl
bond-is R h = absurd (true≢false (sym h))
bond-is S h = absurd (true≢false (sym h))
bond-is B h = absurd (true≢false (sym h))

-- ---- codes 1, 2, 3 and 5

-- what holds where none of them applies
pub record NodeFacts (suits : Kind → Bool) (trees : List BlockTree) (b k : ℕ) (s : State) : Type 0 where
  pub block : b < length trees
  pub node : k < length (tree_at trees b).nodes
  pub kind : suits (kind_of (tree_at trees b) k) ≡ true
  pub entry : Embedding
  pub present : entry_at s.present b ≡ Some entry

module _ (suits : Kind → Bool) (trees : List BlockTree) (b k : ℕ) (s : State) where
  abbrev no_block : Bool
  no_block = not (is_block trees b)

  abbrev no_node : Bool
  no_node = not (is_node (tree_at trees b) k)

  abbrev wrong_kind : Bool
  wrong_kind = not (suits (kind_of (tree_at trees b) k))

  abbrev not_planar : Bool
  not_planar = not (is_planar (entry_at s.present b))

  pub node-facts : (rest : Ladder) → first_code (node_ladder suits trees b k s ++ rest) ≡ None → NodeFacts suits trees b k s × (first_code rest ≡ None)
  node-facts rest e =
      let one = rung-none NoBlock no_block ((NoNode, no_node) ∷ (WrongKind, wrong_kind) ∷ (NonPlanar, not_planar) ∷ rest) e in
      let two = rung-none NoNode no_node ((WrongKind, wrong_kind) ∷ (NonPlanar, not_planar) ∷ rest) one.1 in
      let three = rung-none WrongKind wrong_kind ((NonPlanar, not_planar) ∷ rest) two.1 in
      let four = rung-none NonPlanar not_planar rest three.1 in
      let p = planar-entry (entry_at s.present b) four.0 in (
        record {
          block = in-block trees b one.0;
          node = ltb-true k (length (tree_at trees b).nodes) (held (is_node (tree_at trees b) k) two.0);
          kind = held (suits (kind_of (tree_at trees b) k)) three.0;
          entry = p.0;
          present = p.1;
        },
        four.1,
      )

-- ---- one change

-- what is told of the entry of a family
pub entry-within : (family : Family) (b : ℕ) (e : Embedding) → entry_at family b ≡ Some e → b < length family.entries
entry-within family b e p = elim (cases_lt b (length family.entries)) [
  | inl l ↦ l
  | inr n ↦ absurd (let both : None ≡ Some e = sym (get_or_past family.entries b None (let m : length family.entries ≤ b = omega (arith, n) in m)) ∙ p in cc)
]

module _ (IsChange : BlockTree → Embedding → Embedding → List ℕ → Type 0) (setting : Setting) (b : ℕ) (s : State) where
  -- the change is one, if it is so of each embedding
  pub change-does : ((old new other : Embedding) (t u : List ℕ) → entry_at s.present b ≡ Some old → IsChange (tree_at setting.trees b) old new t → IsChange (tree_at setting.trees b) old other u → (new ≡ other) × (t ≡ u)) → DoesOne (ChangesBlock setting b IsChange) s
  change-does one t u after other p q =
      let same : p.old ≡ q.old = entry-same (entry_at s.present b) p.old q.old p.present q.present in
      let h = one q.old p.new q.new t u q.present (subst (λ (e : Embedding). IsChange (tree_at setting.trees b) e p.new t) same p.change) q.change in
      (h.1, p.after_is ∙ ap (changed setting s b) h.0 ∙ sym q.after_is)

-- an entry where there is one before
entry-along : (tree : BlockTree) (certificate : Option Subdivision) (old new : Embedding) → IsEntry tree certificate (Some old) → IsEntry tree None (Some new) → IsEntry tree certificate (Some new)
entry-along tree None old new p q = q
entry-along tree (Some c) old new p q = absurd p

-- the entry of a block without a certificate
entry-plain : (tree : BlockTree) (certificate : Option Subdivision) (e : Embedding) → IsEntry tree certificate (Some e) → IsEntry tree None (Some e)
entry-plain tree None e p = p
entry-plain tree (Some x) e p = absurd p

module _ (setting : Setting) (is : IsSetting setting) (b : ℕ) (old new : Embedding) (s : State) (right : IsState setting s) (at : entry_at s.present b ≡ Some old) where
  -- the block is there
  there : b < length setting.trees
  there = subst (λ (n : ℕ). b < n) right.present.one_each (entry-within s.present b old at)

  old_entry : IsEntry (tree_at setting.trees b) (certificate_at setting.certificates b) (Some old)
  old_entry = subst (λ (o : Option Embedding). IsEntry (tree_at setting.trees b) (certificate_at setting.certificates b) o) at (right.present.each b there)

  old_plain : IsEntry (tree_at setting.trees b) None (Some old)
  old_plain = entry-plain (tree_at setting.trees b) (certificate_at setting.certificates b) old old_entry

  -- a state in which a block is changed to a right embedding is a state
  pub changed-keeps : IsEntry (tree_at setting.trees b) None (Some new) → IsState setting (changed setting s b new)
  changed-keeps new_entry = record {
    present = changed-right setting is s.present right.present b old new there at (entry-along (tree_at setting.trees b) (certificate_at setting.certificates b) old new old_entry new_entry) old_plain.0 new_entry.0;
    earlier = All-cons (IsFamily setting) s.present s.earlier right.present right.earlier;
    later = All-nil (IsFamily setting);
  }

  -- so is one in which its locks are
  pub put-keeps : new.rotation ≡ old.rotation → length new.locks ≡ length old.locks → IsState setting (with_entry s b new)
  put-keeps rotation locks = record {
    present = put-right setting is s.present right.present b old new there at (entry-along (tree_at setting.trees b) (certificate_at setting.certificates b) old new old_entry
        (subst (IsPlaneSystem (tree_at setting.trees b).part.graph) (sym rotation) old_plain.0, locks ∙ old_plain.1)) rotation;
    earlier = All-cons (IsFamily setting) s.present s.earlier right.present right.earlier;
    later = All-nil (IsFamily setting);
  }

-- a command that changes a block to a right embedding leads from a state to a state
pub change-keeps : (IsChange : BlockTree → Embedding → Embedding → List ℕ → Type 0) (setting : Setting) (b : ℕ) (s : State) (text : List ℕ) (after : State) → IsSetting setting → IsState setting s → ChangesBlock setting b IsChange s text after
    → ((old new : Embedding) (t : List ℕ) → b < length setting.trees → entry_at s.present b ≡ Some old → IsEntry (tree_at setting.trees b) None (Some old) → IsChange (tree_at setting.trees b) old new t → IsEntry (tree_at setting.trees b) None (Some new))
    → IsState setting after
change-keeps IsChange setting b s text after is right c keeps = subst (IsState setting) (sym c.after_is)
    (changed-keeps setting is b c.old c.new s right c.present
    (keeps c.old c.new text (there setting is b c.old c.new s right c.present) c.present (old_plain setting is b c.old c.new s right c.present) c.change))

-- the entry of a block of a state, where there is one
pub entry-right : (setting : Setting) (s : State) (b : ℕ) (e : Embedding) → IsState setting s → b < length setting.trees → entry_at s.present b ≡ Some e → IsEntry (tree_at setting.trees b) None (Some e)
entry-right setting s b e is l p = plain (certificate_at setting.certificates b) (subst (λ (o : Option Embedding). IsEntry (tree_at setting.trees b) (certificate_at setting.certificates b) o) p (is.present.each b l))
  where
    plain : (certificate : Option Subdivision) → IsEntry (tree_at setting.trees b) certificate (Some e) → IsEntry (tree_at setting.trees b) None (Some e)
    plain None q = q
    plain (Some x) q = absurd q

-- a block has an entry within its trees
pub entry-block : (setting : Setting) (s : State) (b : ℕ) (e : Embedding) → IsState setting s → entry_at s.present b ≡ Some e → b < length setting.trees
entry-block setting s b e is p = subst (λ (n : ℕ). b < n) is.present.one_each (entry-within s.present b e p)

-- `ok` is one answer
pub silently-one : (IsChange : BlockTree → Embedding → Embedding → Type 0) (tree : BlockTree) (old new other : Embedding) (t u : List ℕ) → (IsChange tree old new → IsChange tree old other → new ≡ other) → Silently IsChange tree old new t → Silently IsChange tree old other u → (new ≡ other) × (t ≡ u)
silently-one IsChange tree old new other t u one p q = (one p.0 q.0, p.1 ∙ sym q.1)

-- embeddings are the same where rotation systems and locks are
pub embedding-same : (a b : Embedding) → a.rotation ≡ b.rotation → a.locks ≡ b.locks → a ≡ b
embedding-same a b r l = λ i. record { rotation = r i; locks = l i }
