-- Commands that name a block: when the codes apply that speak of a block and a node, and what such commands do.
use Rattle.std.specs.Prelude.{◌≡◌, ℕ, Bool, true, false, not, nat_lt, if◌then◌else◌, List, [], ◌∷◌, ◌++◌, length, map, slice_index, slice_index_or, slice_set, Option, None, Some}
use Rattle.permutations.specs.Members.{is_member}
use Rattle.multigraph.specs.Graph.{numbers_below}
use Rattle.pair_split.specs.Tutte.{node_at}
use Rattle.pair_split.specs.declared.components.Kind.{Kind}
use Rattle.skel_embed.specs.Block.{lock_at}
use Rattle.spqr_script.specs.Answers.Change.{ok_text}
use Rattle.spqr_session.specs.Trees.{BlockTree, tree_at}
use Rattle.spqr_session.specs.Setting.{Setting}
use Rattle.whole_embed.specs.Component.{Component, BlockInPlane}
use Rattle.whole_embed.specs.Walk.{first_around}
use Rattle.spqr_session.specs.State.{Embedding, Family, State, entry_at, arrangements_in, component_at, blocks_with}
use Rattle.spqr_session.specs.Codes.{Ladder, Applies, Carries, code_text, first_code}
use Rattle.spqr_session.specs.declared.code.Code.{Code}
use Rattle.spqr_session.specs.declared.code.Code.TheVariants.{NoBlock, NoNode, WrongKind, NonPlanar, Locked}

-- whether b is a block
abbrev pub is_block : List BlockTree → ℕ → Bool
is_block trees b = nat_lt b (length trees)

-- whether k is a node of the tree
abbrev pub is_node : BlockTree → ℕ → Bool
is_node tree k = nat_lt k (length tree.nodes)

-- the kind of node k
abbrev pub kind_of : BlockTree → ℕ → Kind
kind_of tree k = (node_at tree.nodes k).kind

-- whether a block with this entry is planar
abbrev pub is_planar : Option Embedding → Bool
is_planar None = false
is_planar (Some e) = true

-- code 5: a block with this entry is not planar
abbrev pub planar_codes : Option Embedding → Ladder
planar_codes entry = (NonPlanar, not (is_planar entry)) ∷ []

-- code 1: there is no such block; and code 5
abbrev pub block_ladder : List BlockTree → ℕ → State → Ladder
block_ladder trees b s = (NoBlock, not (is_block trees b)) ∷ planar_codes (entry_at s.present b)

-- code 2: the tree has no such node; 3: its kind does not suit; and 5
abbrev pub node_codes : (Kind → Bool) → ℕ → BlockTree → Option Embedding → Ladder
node_codes suits k tree entry = (NoNode, not (is_node tree k)) ∷ (WrongKind, not (suits (kind_of tree k))) ∷ planar_codes entry

-- code 1, and these
abbrev pub node_ladder : (Kind → Bool) → List BlockTree → ℕ → ℕ → State → Ladder
node_ladder suits trees b k s = (NoBlock, not (is_block trees b)) ∷ node_codes suits k (tree_at trees b) (entry_at s.present b)

-- the codes that an embedding brings with it; a block without one brings none
abbrev pub of_entry : (Embedding → Ladder) → Option Embedding → Ladder
of_entry more None = []
of_entry more (Some e) = more e

-- code 12: node k is locked
abbrev pub lock_codes : ℕ → Embedding → Ladder
lock_codes k e = (Locked k, lock_at e.locks k) ∷ []

-- the answer is one about the tree and the embedding of the block; the state stays
pub record ReadsBlock (trees : List BlockTree) (b : ℕ) (IsAbout : BlockTree → Embedding → List ℕ → Type 0) (before : State) (text : List ℕ) (after : State) : Type 0 where
  pub embedding : Embedding
  pub present : entry_at before.present b ≡ Some embedding
  pub answer : IsAbout (tree_at trees b) embedding text
  pub stays : after ≡ before

-- this family is the present one, the one from before is the nearest earlier one, and none is later
abbrev pub with_family : State → Family → State
with_family s family = record { present = family; earlier = s.present ∷ s.earlier; later = [] }

-- the family with this embedding of block b, and all else as it was
abbrev pub entry_put : Family → ℕ → Embedding → Family
entry_put family b e = record { entries = slice_set family.entries b (Some e); arrangements = family.arrangements }

-- block b has this embedding now, and all else of the family is as before
abbrev pub with_entry : State → ℕ → Embedding → State
with_entry s b e = with_family s (entry_put s.present b e)

-- lists at the cut vertices of a component: the first arrangement at each that is one of these vertices, and the others as they were
abbrev pub lists_reset : Component → (ℕ → BlockInPlane) → List ℕ → List (List ℕ) → List (List ℕ)
lists_reset k block vertices lists = map (λ i. (if is_member (slice_index k.cuts i) vertices then first_around k block i else slice_index_or lists i [])) (numbers_below (length lists))

-- the same, if there are any
abbrev pub lists_reset_in : Component → (ℕ → BlockInPlane) → List ℕ → Option (List (List ℕ)) → Option (List (List ℕ))
lists_reset_in k block vertices None = None
lists_reset_in k block vertices (Some lists) = Some (lists_reset k block vertices lists)

-- the family with this embedding of block b and, for it, the first arrangement at each cut vertex of the block
abbrev pub family_changed : Setting → Family → ℕ → Embedding → Family
family_changed setting family b e = record {
  entries = slice_set family.entries b (Some e);
  arrangements = map
      (λ c. lists_reset_in (component_at setting c) (blocks_with setting.trees (slice_set family.entries b (Some e))) (tree_at setting.trees b).part.vertices (arrangements_in family c))
      (numbers_below (length family.arrangements));
}

-- the state after a change of block b on a setting: nothing but its embedding and the arrangements at its cut vertices is changed
abbrev pub changed : Setting → State → ℕ → Embedding → State
changed setting s b e = with_family s (family_changed setting s.present b e)

-- the embedding of the block is changed, and the answer is one about the old and the new one
pub record ChangesBlock (setting : Setting) (b : ℕ) (IsChange : BlockTree → Embedding → Embedding → List ℕ → Type 0) (before : State) (text : List ℕ) (after : State) : Type 0 where
  pub old : Embedding
  pub present : entry_at before.present b ≡ Some old
  pub new : Embedding
  pub change : IsChange (tree_at setting.trees b) old new text
  pub after_is : after ≡ changed setting before b new

-- the embedding is changed so, and the answer is `ok`
abbrev pub Silently : (BlockTree → Embedding → Embedding → Type 0) → BlockTree → Embedding → Embedding → List ℕ → Type 0
Silently IsChange tree old new text = IsChange tree old new × (text ≡ ok_text)

-- code 5, and the codes that the embedding brings
abbrev pub entry_codes : (BlockTree → Embedding → Ladder) → BlockTree → Option Embedding → Ladder
entry_codes more tree entry = planar_codes entry ++ of_entry (more tree) entry

-- code 1, and these
abbrev pub read_ladder : (BlockTree → Embedding → Ladder) → List BlockTree → ℕ → State → Ladder
read_ladder more trees b s = (NoBlock, not (is_block trees b)) ∷ entry_codes more (tree_at trees b) (entry_at s.present b)

-- one step of a command that only reads: refused where a code of its ladder applies, else it answers about the block
abbrev pub ReadStep : (BlockTree → Embedding → Ladder) → (BlockTree → Embedding → List ℕ → Type 0) → List BlockTree → ℕ → State → List ℕ → State → Type 0
ReadStep more IsAbout trees b before text after = Carries (Applies (read_ladder more trees b before)) (ReadsBlock trees b IsAbout) before text after

-- one step of a command that changes a block: refused where a code of the ladder applies, else it changes the block
abbrev pub ChangeStep : Ladder → (BlockTree → Embedding → Embedding → List ℕ → Type 0) → Setting → ℕ → State → List ℕ → State → Type 0
ChangeStep ladder IsChange setting b before text after = Carries (Applies ladder) (ChangesBlock setting b IsChange) before text after

-- no code depends on the embedding
abbrev pub no_more : BlockTree → Embedding → Ladder
no_more tree e = []

-- what is answered where a first code applies, and where none does
abbrev pub Answered : Option Code → List ℕ → Type 0 → Type 0
Answered None text Else = Else
Answered (Some code) text Else = text ≡ code_text code

-- what is reported of a block that exists: the line of a code, or an answer about its tree and embedding
abbrev pub TellsBlock : BlockTree → Option Embedding → (BlockTree → Embedding → Ladder) → (BlockTree → Embedding → List ℕ → Type 0) → List ℕ → Type 0
TellsBlock tree None more IsAbout text = text ≡ code_text NonPlanar
TellsBlock tree (Some e) more IsAbout text = Answered (first_code (more tree e)) text (IsAbout tree e text)
