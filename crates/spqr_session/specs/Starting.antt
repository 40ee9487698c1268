-- How the blocks of a graph are brought to the start that a file gives.
use Rattle.std.specs.Prelude.{◌≡◌, ℕ, ◌<◌, ◌≤◌, true, false, List, [], length, slice_index_or, Option, None, Some, ⊤}
use Rattle.multigraph.specs.Graph.{Multigraph}
use Rattle.multigraph.specs.Part.{GraphPart, IsPart}
use Rattle.blocks.specs.Blocks.{block_at}
use Rattle.rotations.specs.PartLists.{ArrangePart, IsFirstBadInPart}
use Rattle.skel_embed.specs.Taken.{IsGiven, IsNotPlane}
use Rattle.skel_embed.specs.declared.taking.TakeFault.{TakeFault}
use Rattle.skel_embed.specs.declared.taking.TakeFault.TheVariants.{BadRotation, NotGenusZero, Locked, Memory}
use Rattle.spqr_session.specs.declared.fault.StartFault.{StartFault}
use Rattle.spqr_session.specs.declared.fault.StartFault.TheVariants.{StartGenus, Memory as OutOfMemory}
use Rattle.spqr_session.specs.Start.{start_entries}
use Rattle.spqr_session.specs.State.{Embedding, IsEntry}
use Rattle.spqr_session.specs.Embedded.{BlockView, view_at, entry_lock, IsStartBlock}

-- for each of the first n blocks the lists of its vertices, as they are given from outside
pub record AreStartLists (g : Multigraph) (blocks lists : List (List ℕ)) (n : ℕ) (entries : List (List (ℕ × List ℕ))) : Type 0 where
  pub one_each : length entries ≡ n
  pub each : (b : ℕ) (part : GraphPart) → b < n → IsPart g (block_at blocks b) part → slice_index_or entries b [] ≡ start_entries part lists

-- all blocks of a graph, in order: the first n at the start that the lists give, the others at their first plane rotation system
pub record AreStartedBelow (lists : List (List ℕ)) (g : Multigraph) (blocks : List (List ℕ)) (n : ℕ) (views : List BlockView) : Type 0 where
  pub one_each : length views ≡ length blocks
  pub started : (b : ℕ) → b < n → b < length blocks → IsStartBlock (Some lists) g (block_at blocks b) (view_at views b)
  pub others : (b : ℕ) → n ≤ b → b < length blocks → IsStartBlock None g (block_at blocks b) (view_at views b)

-- an entry after lists were taken: a planar block has the rotation system that they are, with the locks from before
abbrev pub IsEntryTaken : GraphPart → List (ℕ × List ℕ) → Option Embedding → Option Embedding → Type 0
IsEntryTaken part entries None new = new ≡ None
IsEntryTaken part entries (Some e) None = ⊥
IsEntryTaken part entries (Some e) (Some d) = IsGiven part entries d.rotation × (d.locks ≡ e.locks)

-- a block after lists were taken: tree and certificate stay
pub record IsBlockTaken (entries : List (ℕ × List ℕ)) (old new : BlockView) : Type 0 where
  pub tree : new.tree ≡ old.tree
  pub certificate : new.certificate ≡ old.certificate
  pub right : IsEntry new.tree new.certificate new.entry
  pub entry : IsEntryTaken old.tree.part entries old.entry new.entry

-- the refusal of lists by a block is correct: it is planar, and they are no rotation system, or one that is not plane, or this node is
-- locked; memory may run out with any lists
abbrev pub IsBlockRefusal : List (ℕ × List ℕ) → BlockView → TakeFault → Type 0
IsBlockRefusal entries v (BadRotation w) = IsFirstBadInPart v.tree.part entries w
IsBlockRefusal entries v (NotGenusZero n m f) = (v.certificate ≡ None) × IsNotPlane v.tree.part entries n m f
IsBlockRefusal entries v (Locked k) = entry_lock k v.entry ≡ true
IsBlockRefusal entries v Memory = ⊤

-- a block is ready to start at the rotation system that lists are: they arrange its edges, and no node is locked
pub record IsReadyFor (entries : List (ℕ × List ℕ)) (v : BlockView) : Type 0 where
  pub arranged : ArrangePart v.tree.part entries
  pub unlocked : (k : ℕ) → entry_lock k v.entry ≡ false

-- and the refusal of these lists is correct: block b is planar, and they are a rotation system with these numbers that is not plane
abbrev pub IsGenusRefusal : ℕ → List (ℕ × List ℕ) → BlockView → StartFault → Type 0
IsGenusRefusal b entries v (StartGenus c n m f) = (c ≡ b) × (v.certificate ≡ None) × IsNotPlane v.tree.part entries n m f
IsGenusRefusal b entries v OutOfMemory = ⊤
