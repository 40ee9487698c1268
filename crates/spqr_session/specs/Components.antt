-- Commands on components: when codes 5 and 14 apply, and what such commands do.
use Rattle.std.specs.Prelude.{◌≡◌, ℕ, Bool, not, ◌&&◌, nat_lt, if◌then◌else◌, List, [], ◌∷◌, length, map, slice_index_or, slice_set, Option, None, Some}
use Rattle.permutations.specs.Members.{is_member}
use Rattle.multigraph.specs.Graph.{numbers_below}
use Rattle.multigraph.specs.Part.{GraphPart}
use Rattle.whole_embed.specs.Component.{Component, BlockInPlane}
use Rattle.whole_embed.specs.Around.{outer_at}
use Rattle.whole_embed.specs.Whole.{block_part}
use Rattle.spqr_session.specs.Trees.{BlockTree, tree_at}
use Rattle.spqr_session.specs.Setting.{Setting}
use Rattle.spqr_session.specs.State.{Embedding, Family, State, arrangements_in, component_at, is_planar_component, blocks_with}
use Rattle.spqr_session.specs.Codes.{Ladder}
use Rattle.spqr_session.specs.BlockCodes.{with_family}
use Rattle.spqr_session.specs.declared.code.Code.TheVariants.{NonPlanar, NoComponent}

-- whether there is a component c
abbrev pub is_component : Setting → ℕ → Bool
is_component setting c = nat_lt c setting.structure.component_count

-- code 5: a block of the component is not planar; 14: there is no such component
abbrev pub component_ladder : Setting → ℕ → Ladder
component_ladder setting c = (NonPlanar, is_component setting c && not (is_planar_component setting c)) ∷ (NoComponent, not (is_component setting c)) ∷ []

-- the blocks of a family in the plane
abbrev pub blocks_of : Setting → Family → ℕ → BlockInPlane
blocks_of setting family = blocks_with setting.trees family.entries

-- the answer is one about the lists at the cut vertices of component c; the state stays
pub record ReadsComponent (c : ℕ) (IsAbout : List (List ℕ) → List ℕ → Type 0) (before : State) (text : List ℕ) (after : State) : Type 0 where
  pub lists : List (List ℕ)
  pub present : arrangements_in before.present c ≡ Some lists
  pub answer : IsAbout lists text
  pub stays : after ≡ before

-- an entry with the rotation system that q leaves on its block
abbrev pub entry_with : Component → GraphPart → List (List ℕ) → Option Embedding → Option Embedding
entry_with k part q None = None
entry_with k part q (Some e) = Some (record { rotation = block_part k part q; locks = e.locks })

-- the entries with the rotation systems that q leaves on the blocks of a component; those of other components are as they were
abbrev pub entries_with : Component → List BlockTree → List (List ℕ) → List (Option Embedding) → List (Option Embedding)
entries_with k trees q entries =
    map (λ b. (if is_member b k.blocks then entry_with k (tree_at trees b).part q (slice_index_or entries b None) else slice_index_or entries b None)) (numbers_below (length entries))

-- the family in which component c has the rotation system q: its blocks and its cut vertices have what q leaves on them; locks and other
-- components are as they were
abbrev pub family_with : Setting → ℕ → List (List ℕ) → Family → Family
family_with setting c q family = record {
  entries = entries_with (component_at setting c) setting.trees q family.entries;
  arrangements = slice_set family.arrangements c (Some (map (outer_at (component_at setting c).part q) (component_at setting c).cuts));
}

-- component c gets the rotation system q, and the answer is one about it and the lists from before
pub record ChangesComponent (setting : Setting) (c : ℕ) (IsChange : List (List ℕ) → List (List ℕ) → List ℕ → Type 0) (before : State) (text : List ℕ) (after : State) : Type 0 where
  pub lists : List (List ℕ)
  pub present : arrangements_in before.present c ≡ Some lists
  pub system : List (List ℕ)
  pub change : IsChange lists system text
  pub after_is : after ≡ with_family before (family_with setting c system before.present)
