-- Of private functions: what is kept of a component, and tables of blocks.
use Rattle.std.specs.Prelude.{◌≡◌, ℕ, ◌<◌, true, if◌then◌else◌, List, length, slice_index}
use Rattle.permutations.specs.Members.{is_member}
use Rattle.multigraph.specs.Graph.{Multigraph, edge_count}
use Rattle.multigraph.specs.Part.{Rises}
use Rattle.whole_embed.specs.Component.{Component, block_of}

-- each edge has a block, and the cut vertices increase and are vertices of the component
pub record IsFrame (k : Component) : Type 0 where
  pub edge_each : length k.edge_blocks ≡ length k.part.edges
  pub cuts_rise : Rises k.cuts
  pub cuts_in : (v : ℕ) → is_member v k.cuts ≡ true → is_member v k.part.vertices ≡ true

-- each of these edges has the number b, and all others have the numbers that they had
abbrev pub AreNoted : List ℕ → ℕ → List ℕ → List ℕ → Type 0
AreNoted edges b old new = (e : ℕ) → e < length old → slice_index new e ≡ (if is_member e edges then b else slice_index old e)

-- each edge whose block is one of the first n has its number
pub record AreNotedBelow (g : Multigraph) (blocks : List (List ℕ)) (n : ℕ) (table : List ℕ) : Type 0 where
  pub each : length table ≡ edge_count g
  pub is : (e : ℕ) → e < edge_count g → block_of blocks e < n → slice_index table e ≡ block_of blocks e
