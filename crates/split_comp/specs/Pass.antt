-- The state of the pass along a palm tree, and what holds of it.
use Rattle.std.specs.Prelude.{◌≡◌, ◌≢◌, ℕ, ◌+◌, ◌*◌, ◌-◌, ◌<◌, ◌≤◌, ◌^◌, ◌⊎◌, Bool, true, false, if◌then◌else◌, nat_lt, List, [], ◌∷◌, ◌++◌, length, map, filter, take, drop, replicate, slice_index, slice_set, Contains, Option, None, Some, not}
use Rattle.multigraph.specs.Graph.{Multigraph, edge_count, IsGraph, IsWithinLimits}
use Rattle.graph_theory.specs.Block.{IsOneBlock}
use Rattle.palm_tree.specs.PalmTree.{PalmTreeLists, IsPalmTree}
use Rattle.pair_split.specs.Family.{Entry, IsFamily, IsPrime}
use Rattle.pair_split.specs.Edges.{graph_entry, entry_ends, family_skeleton}
use Rattle.pair_split.specs.Skeleton.{SameEnds, IsSkeleton}
use Rattle.pair_split.specs.State.{IsSplitState}
use Rattle.pair_split.specs.Splitting.{part_of}
use Rattle.pair_split.specs.Bridges.{family_of}
use Rattle.pair_split.specs.Writing.{entry_total}
use Rattle.pair_split.specs.declared.splitting.Finished.{Finished}
use Rattle.pair_split.specs.declared.family.NamedEdge.{NamedEdge}
use Rattle.pair_split.specs.declared.components.Kind.{Kind}
use Rattle.pair_split.specs.declared.components.Kind.TheVariants.{B}
use Rattle.split_comp.specs.declared.items.StackEntry.{StackEntry}
use Rattle.split_comp.specs.declared.items.StackCut.{StackCut}
use Rattle.split_comp.specs.declared.items.Dart.{Dart}
use Rattle.split_comp.specs.Stack.{item, entry, owner, family, IsStack, IsSorted, IsTopped, IsClean, IsAtop, AreFirst, no_place}
use Rattle.split_comp.specs.Palm.{AreVertices, tree_dart, tree_degree, tree_parent, IsFrondTo, IsPalm}
use Rattle.split_comp.specs.Walk.{IsWalk, AreLeft}
use Rattle.split_comp.specs.Cuts.{cut, AreSound, AreComplete, AreSoundAt, AreCompleteAt}
use Rattle.split_comp.specs.Frames.{AreFrames, AreReached, AreAhead, AreCutsBelow, AreCuts}
use Rattle.split_comp.specs.Sides.{is_frond_to}
use Rattle.split_comp.specs.Noting.{IsNoted, IsDropped}

-- a palm tree, and the vertex with each number
pub record NumberedTree : Type 0 where
  pub palm : PalmTreeLists
  pub vertex : List ℕ

-- it is one of a block of three edges or more, within the limits
pub record IsNumbered (g : Multigraph) (t : NumberedTree) : Type 0 where
  pub graph : IsGraph g
  pub limits : IsWithinLimits g
  pub block : IsOneBlock g
  pub large : 3 ≤ edge_count g
  pub palm : IsPalmTree g t.palm
  pub vertices : AreVertices g.vertex_count t.palm t.vertex

-- where the pass is
pub record PassState : Type 0 where
  pub at : ℕ
  pub done : ℕ
  pub items : List StackEntry
  pub cuts : List StackCut
  pub first : List ℕ
  pub start : List ℕ
  pub base : List ℕ
  pub gone : List ℕ
  pub total : ℕ
  pub parts : List Finished

-- where it is at first, in a graph of n vertices and m edges: nothing is traversed, and no place touches a vertex
abbrev pub first_state : ℕ → ℕ → PassState
first_state n m = record {
  at = 0;
  done = n;
  items = [];
  cuts = [];
  first = replicate n no_place;
  start = replicate n 0;
  base = replicate n 0;
  gone = replicate n 0;
  total = m;
  parts = [];
}

-- the place is one that touches vertex x
abbrev pub lowered : List ℕ → ℕ → ℕ → List ℕ
lowered first x place = (if nat_lt place (slice_index first x) then slice_set first x place else first)

-- an entry is pushed
abbrev pub pushed : PassState → StackEntry → PassState
pushed s x = record s { items = s.items ++ x ∷ []; first = lowered (lowered s.first x.up (length s.items)) x.low (length s.items) }

-- one more dart of vertex v has been traversed and retracted
abbrev pub gone_along : PassState → ℕ → PassState
gone_along s v = record s { gone = slice_set s.gone v (slice_index s.gone v + 1) }

-- what the steps of the pass are paid by: entries and cuts
abbrev pub weight : PassState → ℕ
weight s = 8 * length s.items + 2 * length s.cuts

-- the search goes down to vertex w
abbrev pub gone_down : PassState → ℕ → PassState
gone_down s w = record s { start = slice_set s.start w (length s.items); base = slice_set s.base w (length s.cuts); at = w }

-- the search goes back to vertex v, and vertex w is finished
abbrev pub gone_back : PassState → ℕ → ℕ → PassState
gone_back s v w = record s { at = v; done = w }

-- the cuts from place k on are dropped
abbrev pub cuts_dropped : PassState → ℕ → PassState
cuts_dropped s k = record s { cuts = take k s.cuts }

-- an entry of a family with numbers for vertices, as one of the graph
abbrev pub drawn : Multigraph → List ℕ → Entry → Entry
drawn g vertex x = (if nat_lt x.name (edge_count g) then graph_entry g x.name else record { name = x.name; first = slice_index vertex x.first; second = slice_index vertex x.second })

-- entries, as entries of a family of the graph
abbrev pub drawn_items : Multigraph → List ℕ → List StackEntry → List Entry
drawn_items g vertex items = map (λ x. drawn g vertex (entry x)) items

-- the name of the next virtual edge
abbrev pub next_name : Multigraph → PassState → ℕ
next_name g s = edge_count g + length s.parts

-- entries from place k on that pass the test were made a component of some kind, with a virtual edge between two vertices
pub record IsSplitOff (g : Multigraph) (vertex : List ℕ) (keeps : StackEntry → Bool) (k up low : ℕ) (old new : PassState) : Type 0 where
  pub kind : Kind
  pub edges : List NamedEdge
  pub are_edges : family_of edges ≡ drawn_items g vertex (filter keeps (drop k old.items))
  pub skeleton : IsSkeleton kind (family_skeleton (record { name = next_name g old; first = slice_index vertex up; second = slice_index vertex low } ∷ family_of edges))
  pub large : kind ≢ B
  pub now : new ≡ record old {
    items = take k old.items;
    total = old.total + 1 - length edges;
    parts = old.parts ++ record { kind = kind; own = record { name = next_name g old; first = slice_index vertex up; second = slice_index vertex low }; edges = edges } ∷ [];
  }

-- whether an entry goes with the others, where the fronds from the second to the first of two vertices stay apart, or none do
abbrev pub goes : Option (ℕ × ℕ) → StackEntry → Bool
goes None = λ x. true
goes (Some ends) = λ x. not (is_frond_to ends.0 ends.1 x)

-- the own edge of a component: the virtual edge between two vertices
abbrev pub own_entry : Multigraph → List ℕ → ℕ → ℕ → PassState → Entry
own_entry g vertex up low s = record { name = next_name g s; first = slice_index vertex up; second = slice_index vertex low }

-- what has to hold where entries are made a component
pub record CanSplitOff (g : Multigraph) (vertex : List ℕ) (keeps : StackEntry → Bool) (k up low : ℕ) (s : PassState) : Type 0 where
  pub within : k ≤ length s.items
  pub ends : (i : ℕ) → i < length s.items → ((item s.items i).up < length vertex) × ((item s.items i).low < length vertex)
  pub up_in : up < length vertex
  pub low_in : low < length vertex
  pub is_family : IsFamily (own_entry g vertex up low s ∷ drawn_items g vertex (filter keeps (drop k s.items)))
  pub is_prime : IsPrime (own_entry g vertex up low s ∷ drawn_items g vertex (filter keeps (drop k s.items)))
  pub two : 2 ≤ length (filter keeps (drop k s.items))
  pub few : next_name g s < 2 ^ 32
  pub total : length (filter keeps (drop k s.items)) ≤ s.total
  pub fits : s.total < 2 ^ 32

-- the current family of the graph
abbrev pub drawn_family : Multigraph → List ℕ → List StackEntry → List Entry → List Entry
drawn_family g vertex items rest = map (drawn g vertex) (family items rest)

-- what holds of the components, the stack and the rest all the time
pub record IsHeld (g : Multigraph) (vertex : List ℕ) (s : PassState) (rest : List Entry) : Type 0 where
  pub total : s.total ≡ length (family s.items rest)
  pub state : IsSplitState g (record { parts = map part_of s.parts; current = drawn_family g vertex s.items rest })
  pub few : length s.parts + s.total ≤ edge_count g
  pub entries : entry_total s.parts + s.total ≡ edge_count g + length s.parts
  pub three : 3 ≤ s.total
  pub ends : (x : Entry) → Contains (family s.items rest) x → (x.first < g.vertex_count) × (x.second < g.vertex_count) × SameEnds (slice_index vertex x.first, slice_index vertex x.second) (entry_ends (drawn g vertex x))

-- the tables have a place for each vertex
pub record HavePlaces (n : ℕ) (s : PassState) : Type 0 where
  pub start : length s.start ≡ n
  pub base : length s.base ≡ n
  pub gone : length s.gone ≡ n

-- a list as a function
abbrev pub at_place : List ℕ → ℕ → ℕ
at_place l x = slice_index l x

-- the pass is at a vertex between two of its darts
pub record IsPass (g : Multigraph) (t : NumberedTree) (s : PassState) : Type 0 where
  pub palm : IsPalm g.vertex_count (edge_count g) (tree_parent t.palm t.vertex) (tree_degree t.palm t.vertex) (tree_dart g t.palm t.vertex)
  pub rest : List Entry
  pub places : HavePlaces g.vertex_count s
  pub walk : IsWalk g.vertex_count palm.last (tree_parent t.palm t.vertex) (tree_degree t.palm t.vertex) (tree_dart g t.palm t.vertex) s.at s.done (at_place s.gone)
  pub going : s.at ≡ 0 → at_place s.gone 0 < tree_degree t.palm t.vertex 0
  pub left : AreLeft g.vertex_count (tree_degree t.palm t.vertex) (tree_dart g t.palm t.vertex) (at_place s.gone) rest
  pub held : IsHeld g t.vertex s rest
  pub stands : IsStack palm.last s.done s.at s.items rest
  pub frames : AreFrames palm.last s.at (at_place s.start) s.items
  pub reached : AreReached palm.last (tree_dart g t.palm t.vertex) (at_place s.gone) s.at (at_place s.start) s.items
  pub first : AreFirst g.vertex_count s.done s.first s.items
  pub sorted : IsSorted s.at (length s.items) s.items rest
  pub ahead : AreAhead palm.last (tree_degree t.palm t.vertex) (tree_dart g t.palm t.vertex) (at_place s.gone) s.at (length s.items) s.items rest
  pub clean : IsClean s.items rest
  pub cuts : AreCuts palm.last (tree_parent t.palm t.vertex) s.at (at_place s.start) (at_place s.base) s.items s.cuts

-- the pass has returned from the vertex w, and may split off components: but for a frond parallel to the last entry
pub record IsRaised (g : Multigraph) (t : NumberedTree) (w : ℕ) (s : PassState) : Type 0 where
  pub palm : IsPalm g.vertex_count (edge_count g) (tree_parent t.palm t.vertex) (tree_degree t.palm t.vertex) (tree_dart g t.palm t.vertex)
  pub rest : List Entry
  pub places : HavePlaces g.vertex_count s
  pub walk : IsWalk g.vertex_count palm.last (tree_parent t.palm t.vertex) (tree_degree t.palm t.vertex) (tree_dart g t.palm t.vertex) s.at s.done (at_place s.gone)
  pub from : s.done ≡ w
  pub parent : tree_parent t.palm t.vertex w ≡ s.at
  pub inside : w < g.vertex_count
  pub not_root : s.at ≢ 0
  pub left : AreLeft g.vertex_count (tree_degree t.palm t.vertex) (tree_dart g t.palm t.vertex) (at_place s.gone) rest
  pub held : IsHeld g t.vertex s rest
  pub height : ℕ
  pub atop : IsAtop palm.last s.done s.at (at_place s.start w) height s.items rest
  pub fronds : (i : ℕ) → 4 ≤ s.total → i < height → is_frond_to s.at (item s.items height).low (item s.items i) ≡ true → i + 1 ≡ height
  pub frames : AreFrames palm.last s.at (at_place s.start) s.items
  pub child_start : at_place s.start s.at ≤ at_place s.start w
  pub place : ℕ
  pub last_gone : at_place s.gone s.at ≡ place + 1
  pub place_in : place < tree_degree t.palm t.vertex s.at
  pub last_tree : (tree_dart g t.palm t.vertex s.at place).tree ≡ true
  pub last_far : (tree_dart g t.palm t.vertex s.at place).far ≡ w
  pub child_within : (i : ℕ) → at_place s.start w ≤ i → i < length s.items → (w ≤ (item s.items i).low) × ((item s.items i).low < palm.last w)
  pub child_to : (i : ℕ) → at_place s.start w ≤ i → i < length s.items → (item s.items i).up < s.at → IsFrondTo (tree_degree t.palm t.vertex) (tree_dart g t.palm t.vertex) palm.last w (item s.items i).up
  pub child_met : (y : ℕ) → IsFrondTo (tree_degree t.palm t.vertex) (tree_dart g t.palm t.vertex) palm.last w y → y < s.at → (i : ℕ) × (at_place s.start w ≤ i) × (i < length s.items) × ((item s.items i).up ≡ y)
  pub reached : AreReached palm.last (tree_dart g t.palm t.vertex) (at_place s.gone) s.at (at_place s.start) s.items
  pub first : AreFirst g.vertex_count s.done s.first s.items
  pub ahead : AreAhead palm.last (tree_degree t.palm t.vertex) (tree_dart g t.palm t.vertex) (at_place s.gone) s.at height s.items rest
  pub ahead_last : (r : ℕ) → r < height → owner (item s.items r) ≡ s.at → (i : ℕ) × ((item s.items r).start ≤ i) × (i ≤ r) × ((item s.items i).up ≤ (tree_dart g t.palm t.vertex s.at place).reach)
  pub frond_last : (r : ℕ) → 4 ≤ length (family s.items rest) → r < height → owner (item s.items r) ≡ s.at → (item s.items r).tree ≡ false
      → ((item s.items r).up < (tree_dart g t.palm t.vertex s.at place).reach) ⊎ (((item s.items r).up ≡ (tree_dart g t.palm t.vertex s.at place).reach) × (1 ≤ (tree_dart g t.palm t.vertex s.at place).class))
  pub below : AreCutsBelow palm.last (tree_parent t.palm t.vertex) w (at_place s.start) (at_place s.base) s.items s.cuts
  pub sound : AreSoundAt (at_place s.start w) s.at (item s.items height).low s.items (drop (at_place s.base w) s.cuts)
  pub complete : AreCompleteAt (at_place s.start w) s.at (item s.items height).low s.items (drop (at_place s.base w) s.cuts)
  pub cut_lows : (c : ℕ) → c < length (drop (at_place s.base w) s.cuts) → s.at < (cut (drop (at_place s.base w) s.cuts) c).low

-- and no such frond exists
pub record IsBack (g : Multigraph) (t : NumberedTree) (w : ℕ) (s : PassState) : Type 0 where
  pub raised : IsRaised g t w s
  pub no_frond : (i : ℕ) → i < raised.height → (item s.items i).tree ≡ false → (item s.items i).low ≡ (item s.items raised.height).low → (item s.items i).up ≡ s.at → ⊥

-- a frond of the vertex where the pass is was pushed
pub record IsFronted (g : Multigraph) (t : NumberedTree) (s : PassState) : Type 0 where
  pub palm : IsPalm g.vertex_count (edge_count g) (tree_parent t.palm t.vertex) (tree_degree t.palm t.vertex) (tree_dart g t.palm t.vertex)
  pub rest : List Entry
  pub places : HavePlaces g.vertex_count s
  pub walk : IsWalk g.vertex_count palm.last (tree_parent t.palm t.vertex) (tree_degree t.palm t.vertex) (tree_dart g t.palm t.vertex) s.at s.done (at_place s.gone)
  pub not_root : s.at ≢ 0
  pub left : AreLeft g.vertex_count (tree_degree t.palm t.vertex) (tree_dart g t.palm t.vertex) (at_place s.gone) rest
  pub held : IsHeld g t.vertex s rest
  pub height : ℕ
  pub size : length s.items ≡ height + 1
  pub frond : (item s.items height).tree ≡ false
  pub low : (item s.items height).low ≡ s.at
  pub stands : IsStack palm.last s.done s.at s.items rest
  pub topped : IsTopped s.items rest height
  pub frames : AreFrames palm.last s.at (at_place s.start) s.items
  pub reached : AreReached palm.last (tree_dart g t.palm t.vertex) (at_place s.gone) s.at (at_place s.start) s.items
  pub first : AreFirst g.vertex_count s.done s.first s.items
  pub sorted : IsSorted s.at height s.items rest
  pub ahead : AreAhead palm.last (tree_degree t.palm t.vertex) (tree_dart g t.palm t.vertex) (at_place s.gone) s.at height s.items rest
  pub reach_last : (r : ℕ) → r < height → owner (item s.items r) ≡ s.at → (i : ℕ) × ((item s.items r).start ≤ i) × (i ≤ r) × ((item s.items i).up ≤ (item s.items height).up)
  pub frond_last : (r : ℕ) → 4 ≤ length (family s.items rest) → r < height → owner (item s.items r) ≡ s.at → (item s.items r).tree ≡ false → (item s.items r).up ≤ (item s.items height).up
  pub next : (k : ℕ) → at_place s.gone s.at ≤ k → k < tree_degree t.palm t.vertex s.at → ((item s.items height).up < (tree_dart g t.palm t.vertex s.at k).reach) ⊎ (((item s.items height).up ≡ (tree_dart g t.palm t.vertex s.at k).reach) × (1 ≤ (tree_dart g t.palm t.vertex s.at k).class))
  pub starts : at_place s.start s.at ≤ height
  pub below : AreCutsBelow palm.last (tree_parent t.palm t.vertex) s.at (at_place s.start) (at_place s.base) s.items s.cuts
  pub sound : AreSound (at_place s.start s.at) s.at (take height s.items) (drop (at_place s.base s.at) s.cuts)
  pub complete : AreComplete (at_place s.start s.at) s.at (take height s.items) (drop (at_place s.base s.at) s.cuts)

-- the pass is over
pub record IsPassed (g : Multigraph) (t : NumberedTree) (s : PassState) : Type 0 where
  pub at_root : s.at ≡ 0
  pub last : s.done ≡ 1
  pub none_left : AreLeft g.vertex_count (tree_degree t.palm t.vertex) (tree_dart g t.palm t.vertex) (at_place s.gone) []
  pub all_gone : tree_degree t.palm t.vertex 0 ≤ at_place s.gone 0
  pub places : HavePlaces g.vertex_count s
  pub held : IsHeld g t.vertex s []
  pub prime : IsPrime (drawn_items g t.vertex s.items)
  pub three : 3 ≤ length s.items

-- the pass continues, or is over
abbrev pub IsGoing : Multigraph → NumberedTree → PassState → Type 0
IsGoing g t s = IsPass g t s ⊎ IsPassed g t s

-- the last entry
abbrev pub top_item : PassState → StackEntry
top_item s = item s.items (length s.items - 1)

-- the last entry but one
abbrev pub below_item : PassState → StackEntry
below_item s = item s.items (length s.items - 2)

-- the last two entries are parallel, the lower one is a frond, and four entries are left
pub record IsParallel (s : PassState) : Type 0 where
  pub two : 2 ≤ length s.items
  pub four : 4 ≤ s.total
  pub frond : (below_item s).tree ≡ false
  pub up : (below_item s).up ≡ (top_item s).up
  pub low : (below_item s).low ≡ (top_item s).low

-- the entry that represents the two
abbrev pub joined_item : Multigraph → PassState → StackEntry
joined_item g s = record { name = next_name g s; up = (top_item s).up; low = (top_item s).low; tree = (top_item s).tree; start = (if (top_item s).tree then (top_item s).start else length s.items - 2) }

-- the result says whether they are
abbrev pub IsParallelTest : PassState → Bool → Type 0
IsParallelTest s true = IsParallel s
IsParallelTest s false = IsParallel s → ⊥

-- a name was found just where there is a frond from low to up among the entries
abbrev pub IsFrondFound : ℕ → ℕ → List StackEntry → Option ℕ → Type 0
IsFrondFound up low items None = (i : ℕ) → i < length items → is_frond_to up low (item items i) ≡ false
IsFrondFound up low items (Some name) = (i : ℕ) × (i < length items) × (is_frond_to up low (item items i) ≡ true) × (name ≡ (item items i).name)

-- the last two entries were joined, or could not be
abbrev pub IsJoined : Multigraph → List ℕ → PassState → PassState → Bool → Type 0
IsJoined g vertex old new true = IsParallel old × ((mid : PassState) × IsSplitOff g vertex (λ x. true) (length old.items - 2) (top_item old).up (top_item old).low old mid × (new ≡ pushed mid (joined_item g old)))
IsJoined g vertex old new false = (new ≡ old) × (IsParallel old → ⊥)

-- what has to hold where they may be joined
abbrev pub CanJoin : Multigraph → List ℕ → PassState → Type 0
CanJoin g vertex s = IsParallel s → CanSplitOff g vertex (λ x. true) (length s.items - 2) (top_item s).up (top_item s).low s

-- a dart of v was noted, which starts at s and has the least upper end up, unless it is the first one
pub record IsDartNoted (v s up : ℕ) (old new : PassState) : Type 0 where
  pub first : s ≤ slice_index old.start v → new ≡ old
  pub later : slice_index old.start v < s → (cuts : List StackCut) × IsNoted (slice_index old.base v) (record { start = s; up = up; low = v }) old.cuts cuts × (new ≡ record old { cuts = cuts })

-- the frond that is pushed
abbrev pub new_frond : ℕ → ℕ → ℕ → PassState → StackEntry
new_frond name v up s = record { name = name; up = up; low = v; tree = false; start = length s.items }

-- the tree edge that is pushed
abbrev pub new_tree : ℕ → ℕ → ℕ → ℕ → StackEntry
new_tree name v low start = record { name = name; up = v; low = low; tree = true; start = start }

-- a frond from v to up was pushed: joined with a frond parallel to it, or noted
pub record IsFrondAdded (g : Multigraph) (vertex : List ℕ) (name v up : ℕ) (old new : PassState) : Type 0 where
  pub joined : Bool
  pub mid : PassState
  pub join : IsJoined g vertex (pushed old (new_frond name v up old)) mid joined
  pub whole : joined ≡ true → new ≡ mid
  pub noted : joined ≡ false → IsDartNoted v (length old.items) up mid new

-- a tree edge was pushed, and joined with a frond parallel to it
pub record IsTreeAdded (g : Multigraph) (vertex : List ℕ) (name v low start : ℕ) (old new : PassState) : Type 0 where
  pub joined : Bool
  pub join : IsJoined g vertex (pushed old (new_tree name v low start)) new joined

-- the last entry but one is a tree edge, and the first one that touches the lower end of the last entry
pub record IsTriangle (s : PassState) : Type 0 where
  pub tree : (below_item s).tree ≡ true
  pub first : slice_index s.first (top_item s).low ≡ length s.items - 2

-- the result says whether it is so
abbrev pub IsTriangleTest : PassState → Bool → Type 0
IsTriangleTest s true = IsTriangle s
IsTriangleTest s false = IsTriangle s → ⊥

-- the last cut from place base on is one of v and the lower end of the last entry
pub record IsStale (v base : ℕ) (s : PassState) : Type 0 where
  pub some : base < length s.cuts
  pub up : (cut s.cuts (length s.cuts - 1)).up ≡ v
  pub low : (cut s.cuts (length s.cuts - 1)).low ≡ (top_item s).low

-- the last cut was dropped, where it was so
abbrev pub IsStaleDropped : ℕ → ℕ → PassState → PassState → Bool → Type 0
IsStaleDropped v base old new true = IsStale v base old × (new ≡ cuts_dropped old (length old.cuts - 1))
IsStaleDropped v base old new false = (new ≡ old) × (IsStale v base old → ⊥)

-- the last cut from place base on has the upper end v
pub record IsCutTo (v base : ℕ) (s : PassState) : Type 0 where
  pub some : base < length s.cuts
  pub up : (cut s.cuts (length s.cuts - 1)).up ≡ v

-- the result is the last cut, where it is so
abbrev pub IsCutFound : ℕ → ℕ → PassState → Option StackCut → Type 0
IsCutFound v base s None = IsCutTo v base s → ⊥
IsCutFound v base s (Some c) = IsCutTo v base s × (c ≡ cut s.cuts (length s.cuts - 1))

-- a frond that stays apart is pushed again
abbrev pub IsApart : Option ℕ → ℕ → ℕ → ℕ → PassState → PassState → Type 0
IsApart None up low start old new = new ≡ old
IsApart (Some name) up low start old new = new ≡ pushed old (record { name = name; up = up; low = low; tree = false; start = start })

-- how many entries stay apart
abbrev pub number_apart : Option ℕ → ℕ
number_apart None = 0
number_apart (Some name) = 1

-- the cuts from place base on before which an entry touches v were dropped
abbrev pub IsMetDropped : ℕ → ℕ → PassState → PassState → Type 0
IsMetDropped v base old new = (cuts : List StackCut) × IsDropped base (slice_index old.first v) old.cuts cuts × (new ≡ record old { cuts = cuts })

-- a dart of this class has all from place start on as a side, and two entries are left beside it
pub record IsWhole (class start : ℕ) (s : PassState) : Type 0 where
  pub class_two : class ≡ 2
  pub two : length s.items - start + 2 ≤ s.total

-- the result says whether it is so
abbrev pub IsWholeTest : ℕ → ℕ → PassState → Bool → Type 0
IsWholeTest class start s true = IsWhole class start s
IsWholeTest class start s false = IsWhole class start s → ⊥

-- the search is where it was
pub record IsAsFar (old new : PassState) : Type 0 where
  pub at : new.at ≡ old.at
  pub done : new.done ≡ old.done
  pub gone : new.gone ≡ old.gone

-- it came back to vertex v
pub record IsCome (v : ℕ) (old new : PassState) : Type 0 where
  pub at : new.at ≡ v
  pub done : new.done ≡ old.at
  pub gone : new.gone ≡ slice_set old.gone v (slice_index old.gone v + 1)

-- where it has come back nothing more is to be split off but what all below the child may make
pub record IsReduced (g : Multigraph) (t : NumberedTree) (s : PassState) : Type 0 where
  pub back : IsBack g t s.done s
  pub no_triangle : IsTriangle s → ⊥
  pub no_cut : IsCutTo s.at (slice_index s.base s.done) s → ⊥

-- a component was split off, or a cut was dropped; or there is nothing more
abbrev pub IsReducedOnce : Multigraph → NumberedTree → PassState → PassState → Bool → Type 0
IsReducedOnce g t old new true = IsBack g t old.done new × IsAsFar old new
IsReducedOnce g t old new false = (new ≡ old) × IsReduced g t old

-- what was traversed last where the search is
abbrev pub last_dart : Multigraph → NumberedTree → PassState → Dart
last_dart g t s = tree_dart g t.palm t.vertex s.at (slice_index s.gone s.at - 1)

-- k turns are left: one for each dart that is left, and one for each vertex that is neither finished nor on the path, which is
-- to be entered
pub record HasTurns (g : Multigraph) (t : NumberedTree) (s : PassState) (k : ℕ) : Type 0 where
  pub depth : ℕ → ℕ
  pub top : depth 0 ≡ 0
  pub deeper : (x : ℕ) → x < g.vertex_count → x ≢ 0 → depth x ≡ depth (tree_parent t.palm t.vertex x) + 1
  pub rest : List Entry
  pub is_family : IsFamily rest
  pub left : AreLeft g.vertex_count (tree_degree t.palm t.vertex) (tree_dart g t.palm t.vertex) (at_place s.gone) rest
  pub exact : length rest + s.done ≡ k + depth s.at + 1

-- one turn was taken
abbrev pub IsTurned : Multigraph → NumberedTree → PassState → PassState → Type 0
IsTurned g t old new = (k : ℕ) → HasTurns g t old (k + 1) → HasTurns g t new k

-- the result says whether the pass is over
abbrev pub IsOverTest : Multigraph → NumberedTree → PassState → Bool → Type 0
IsOverTest g t s true = IsPassed g t s
IsOverTest g t s false = IsPass g t s
