-- What the board keeps of a family: where a cut vertex has the first arrangement for the present blocks, no list is kept.
use Rattle.std.specs.Prelude.{ℕ, if◌then◌else◌, List, length, map, slice_index, slice_index_or, Option, None, Some}
use Rattle.multigraph.specs.Graph.{numbers_below}
use Rattle.whole_embed.specs.Component.{Component, BlockInPlane}
use Rattle.whole_embed.specs.Walk.{first_around}
use Rattle.spqr_session.specs.Setting.{Setting}
use Rattle.spqr_session.specs.State.{Embedding, Family, component_at, is_planar_component, blocks_with}

-- the entry of each block, and for each vertex the edges around it in the order that was set there: none where it is no cut vertex, or where
-- it has the first arrangement for these blocks
pub record Kept : Type 0 where
  pub entries : List (Option Embedding)
  pub lists : List (Option (List ℕ))

-- the list that was set, or else the first arrangement
abbrev pub list_or_first : Option (List ℕ) → List ℕ → List ℕ
list_or_first None first = first
list_or_first (Some list) first = list

-- the lists at the cut vertices of a component
abbrev pub lists_kept : Component → (ℕ → BlockInPlane) → List (Option (List ℕ)) → List (List ℕ)
lists_kept k block lists = map (λ i. list_or_first (slice_index_or lists (slice_index k.cuts i) None) (first_around k block i)) (numbers_below (length k.cuts))

-- those of component c, where its blocks are planar
abbrev pub arrangements_kept : Setting → Kept → ℕ → Option (List (List ℕ))
arrangements_kept setting kept c = (if is_planar_component setting c then Some (lists_kept (component_at setting c) (blocks_with setting.trees kept.entries) kept.lists) else None)

-- the family of which this is kept
abbrev pub family_of : Setting → Kept → Family
family_of setting kept = record { entries = kept.entries; arrangements = map (arrangements_kept setting kept) (numbers_below setting.structure.component_count) }
