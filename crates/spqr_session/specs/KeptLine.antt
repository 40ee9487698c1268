-- Of private functions: the line of a rotation system of a block, kept from one member of a list to the next.
use Rattle.std.specs.Prelude.{◌≡◌, ℕ, zero, suc, ◌+◌, ◌<◌, ◌/◌, Bool, false, List, [], ◌++◌, length, map, slice_index, codes, decimal}
use Rattle.permutations.specs.Cyclic.{successor}
use Rattle.multigraph.specs.Graph.{Multigraph}
use Rattle.multigraph.specs.Darts.{dart_count, tail}
use Rattle.multigraph.specs.Marks.{is_marked}
use Rattle.multigraph.specs.Part.{GraphPart}
use Rattle.rotations.specs.Rotation.{order_at, IsRotationSystem}
use Rattle.spqr_script.specs.Answers.Rotation.{entry_text, rotation_text}

-- what comes before the entry of vertex v
abbrev pub separator : ℕ → List ℕ
separator zero = codes " "
separator (suc v) = codes "; "

-- the entry of vertex v of a part with these edges, in the numbers of the graph, and what comes before it
abbrev pub text_at : GraphPart → ℕ → List ℕ → List ℕ
text_at part v edges = separator v ++ entry_text (slice_index part.vertices v, edges)

-- the edges around vertex v, in the numbers of the graph
abbrev pub edges_around : GraphPart → List (List ℕ) → ℕ → List ℕ
edges_around part r v = map (slice_index part.edges) (order_at r v)

-- the entries of n vertices from v on, one after another
abbrev pub entries_of : GraphPart → List (List ℕ) → ℕ → ℕ → List ℕ
entries_of part r v zero = []
entries_of part r v (suc n) = text_at part v (edges_around part r v) ++ entries_of part r (suc v) n

-- what comes before the entries in the line of a rotation system of block b
abbrev pub line_begin : ℕ → List ℕ
line_begin b = codes "rotation " ++ decimal b ++ codes " |"

-- where the entry of each vertex begins, after `before` bytes
pub record ArePlaces (part : GraphPart) (r : List (List ℕ)) (before : ℕ) (places : List ℕ) : Type 0 where
  pub number : length places ≡ part.graph.vertex_count
  pub each : (v : ℕ) → v < part.graph.vertex_count → slice_index places v ≡ before + length (entries_of part r 0 v)

-- the edge that follows that of dart d around the vertex which the dart leaves
abbrev pub follower : Multigraph → List (List ℕ) → ℕ → ℕ
follower g r d = successor (order_at r (tail g d)) (d / 2)

-- these edges for all darts
pub record AreFollowers (g : Multigraph) (r : List (List ℕ)) (followers : List ℕ) : Type 0 where
  pub number : length followers ≡ dart_count g
  pub each : (d : ℕ) → d < dart_count g → slice_index followers d ≡ follower g r d

-- the line of a rotation system of block b, and where the entries begin in it
pub record IsWritten (part : GraphPart) (b : ℕ) (r : List (List ℕ)) (line places : List ℕ) : Type 0 where
  pub system : IsRotationSystem part.graph r
  pub text : line ≡ rotation_text part b r
  pub begins : ArePlaces part r (length (line_begin b)) places

-- two rotation systems differ at most at marked vertices
abbrev pub AgreeUnmarked : Multigraph → List Bool → List (List ℕ) → List (List ℕ) → Type 0
AgreeUnmarked g marks r q = (v : ℕ) → v < g.vertex_count → is_marked marks v ≡ false → order_at r v ≡ order_at q v

-- the line with what is kept beside it
pub record IsKept (part : GraphPart) (b : ℕ) (r : List (List ℕ)) (line places followers : List ℕ) (marks : List Bool) : Type 0 where
  pub written : IsWritten part b r line places
  pub follow : AreFollowers part.graph r followers
  pub markable : length marks ≡ part.graph.vertex_count
