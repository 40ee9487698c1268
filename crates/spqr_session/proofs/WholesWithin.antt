-- The steps that lead a component to another rotation system are moves of its blocks, whose keys are edges, and arrangements.
use Rattle.std.proofs.Common.{◌≡◌, ℕ, zero, suc, ◌<◌, ◌≤◌, Bool, true, false, List, [], ◌∷◌, length, map, slice_index, slice_index_or, All, None, refl, sym, ap, ◌∙◌, subst, arith}
use Rattle.std.specs.Prelude.{if◌then◌else◌, ⊤}
use Rattle.std.proofs.lemmas.List.{length-map}
use Rattle.std.proofs.lemmas.List.Elements.{All-nil, All-cons, All-head, All-tail, All-append}
use Rattle.permutations.specs.Members.{is_member}
use Rattle.permutations.proofs.Arrangements.{member-at}
use Rattle.arrangements.specs.Arranged.{same_list}
use Rattle.multigraph.specs.Graph.{Multigraph}
use Rattle.multigraph.specs.Part.{GraphPart}
use Rattle.faces.specs.Euler.{IsPlaneSystem}
use Rattle.skeletons.specs.Items as items
use Rattle.skeletons.specs.Moves as theory
use Rattle.embed_moves.specs.Made.{Fits}
use Rattle.spqr_script.specs.Answers.Moves.{IsMoveOf}
use Rattle.whole_embed.specs.Component.{Component, BlockInPlane, IsComponentInPlane}
use Rattle.whole_embed.specs.Around.{outer_at}
use Rattle.whole_embed.specs.Whole.{block_part}
use Rattle.whole_convert.specs.Between.{WholeStep, move_block, arrange, as_step, as_steps, moves_of, moves_below, is_moved, list_then, arrangement_at, arrangements_below, blocks_to, whole_moves_between}
use Rattle.whole_convert.specs.declared.steps.WholeMove.{WholeMove}
use Rattle.whole_convert.specs.declared.steps.WholeMove.TheVariants.{Block, Regroup}
use Rattle.spqr_session.specs.Trees.{BlockTree, tree_at}
use Rattle.spqr_session.specs.Setting.{Setting, IsSetting}
use Rattle.spqr_session.specs.State.{Family, component_at}
use Rattle.spqr_session.specs.Embedded.{BlockView, view_tree, view_at}
use Rattle.spqr_session.specs.Components.{blocks_of}
use Rattle.spqr_session.specs.WholeSteps.{IsStepIn}
use Rattle.spqr_session.proofs.ComponentParts.{entry-part, block-there}
use Rattle.spqr_session.proofs.ConvertPlans.{move-within}
use Rattle.spqr_session.proofs.Moved.{between-made}
use Rattle.spqr_session.proofs.Views.{trees-at}

-- a move of a node of a block of the component; any arrangement
abbrev IsFitting : Component → (ℕ → BlockInPlane) → WholeStep → Type 0
IsFitting k old (move_block b move) = (is_member b k.blocks ≡ true) × Fits (old b).nodes move
IsFitting k old (arrange v edges) = ⊤

block-fits : (k : Component) (old : ℕ → BlockInPlane) (b : ℕ) → is_member b k.blocks ≡ true → (moves : List theory.Move) → All (Fits (old b).nodes) moves → All (IsFitting k old) (map (move_block b) moves)
block-fits k old b m [] h = All-nil (IsFitting k old)
block-fits k old b m (move ∷ moves) h =
    All-cons (IsFitting k old) (move_block b move) (map (move_block b) moves) (m, All-head (Fits (old b).nodes) move moves h) (block-fits k old b m moves (All-tail (Fits (old b).nodes) move moves h))

arrange-fits : (k : Component) (old : ℕ → BlockInPlane) (same : Bool) (v : ℕ) (edges : List ℕ) → All (IsFitting k old) (if same then [] else arrange v edges ∷ [])
arrange-fits k old true v edges = All-nil (IsFitting k old)
arrange-fits k old false v edges = All-cons (IsFitting k old) (arrange v edges) [] tt (All-nil (IsFitting k old))

arrangements-fit : (k : Component) (old : ℕ → BlockInPlane) (list : ℕ → List ℕ) (q : List (List ℕ)) (n : ℕ) → All (IsFitting k old) (arrangements_below k list q n)
arrangements-fit k old list q zero = All-nil (IsFitting k old)
arrangements-fit k old list q (suc n) = All-append (IsFitting k old) (arrangements_below k list q n) (arrangement_at k list q n) (arrangements-fit k old list q n)
    (arrange-fits k old (same_list (outer_at k.part q (slice_index k.cuts n)) (list n)) (slice_index k.cuts n) (outer_at k.part q (slice_index k.cuts n)))

module _ (k : Component) (old new : ℕ → BlockInPlane) (tree : (b : ℕ) → is_member b k.blocks ≡ true → items.IsBlockTree (old b).part.graph (old b).nodes) (plane : (b : ℕ) → is_member b k.blocks ≡ true → IsPlaneSystem (old b).part.graph (old b).rotation)
    (other : (b : ℕ) → is_member b k.blocks ≡ true → IsPlaneSystem (old b).part.graph (new b).rotation) where
  moves-fit : (n : ℕ) → n ≤ length k.blocks → All (IsFitting k old) (moves_below k old new n)
  moves-fit zero l = All-nil (IsFitting k old)
  moves-fit (suc n) l =
      let b = slice_index k.blocks n in
      let m : is_member b k.blocks ≡ true = member-at k.blocks n 0 (omega (arith, l)) in
      All-append (IsFitting k old) (moves_below k old new n) (map (move_block b) (moves_of old new b)) (moves-fit n (omega (arith, l)))
      (block-fits k old b m (moves_of old new b) (between-made (old b).part.graph (old b).nodes (tree b m) (old b).rotation (new b).rotation (plane b m) (other b m)).0)

-- the blocks of a component in the plane
tree-in : (k : Component) (block : ℕ → BlockInPlane) → IsComponentInPlane k block → (b : ℕ) → is_member b k.blocks ≡ true → items.IsBlockTree (block b).part.graph (block b).nodes
tree-in k block is b m = is.blocks.trees b (subst (λ (z : Component). is_member b z.blocks ≡ true) is.component m)

plane-in : (k : Component) (block : ℕ → BlockInPlane) → IsComponentInPlane k block → (b : ℕ) → is_member b k.blocks ≡ true → IsPlaneSystem (block b).part.graph (block b).rotation
plane-in k block is b m = is.blocks.planes b (subst (λ (z : Component). is_member b z.blocks ≡ true) is.component m)

-- the parts stay
part-to : (k : Component) (block : ℕ → BlockInPlane) (q : List (List ℕ)) (b : ℕ) → (blocks_to k block q b).part ≡ (block b).part
part-to k block q b = part-of (is_member b k.blocks)
  where
    part-of : (t : Bool) → (if t then record { part = (block b).part; nodes = (block b).nodes; rotation = block_part k (block b).part q; locks = (block b).locks } else block b).part ≡ (block b).part
    part-of true = refl
    part-of false = refl

-- all steps fit
steps-fit : (k : Component) (block : ℕ → BlockInPlane) (lists q : List (List ℕ)) → IsComponentInPlane k block → IsComponentInPlane k (blocks_to k block q) → All (IsFitting k block) (whole_moves_between k block lists q)
steps-fit k block lists q is to = All-append (IsFitting k block) (moves_below k block (blocks_to k block q) (length k.blocks)) (arrangements_below k (list_then k (blocks_to k block q) (is_moved block (blocks_to k block q)) lists) q (length k.cuts))
    (moves-fit k block (blocks_to k block q) (tree-in k block is) (plane-in k block is)
    (λ b m. subst (λ (p : GraphPart). IsPlaneSystem p.graph (blocks_to k block q b).rotation) (part-to k block q b) (plane-in k (blocks_to k block q) to b m)) (length k.blocks) (omega arith))
    (arrangements-fit k block (list_then k (blocks_to k block q) (is_moved block (blocks_to k block q)) lists) q (length k.cuts))

module _ (setting : Setting) (is : IsSetting setting) (family : Family) (views : List BlockView) (seen : setting.trees ≡ map view_tree views) (c : ℕ) (right : IsComponentInPlane (component_at setting c) (blocks_of setting family)) where
  abbrev k : Component
  k = component_at setting c

  abbrev block : ℕ → BlockInPlane
  block = blocks_of setting family

  graph-is : (b : ℕ) → (block b).part.graph ≡ (view_at views b).tree.part.graph
  graph-is b = ap (λ (p : GraphPart). p.graph) (entry-part (tree_at setting.trees b) (slice_index_or family.entries b None) ∙ ap (λ (t : List BlockTree). (tree_at t b).part) seen ∙ ap (λ (t : BlockTree). t.part) (trees-at views b))

  steps-in : (moves : List WholeMove) → All (IsFitting (component_at setting c) (blocks_of setting family)) (as_steps moves) → All (IsStepIn views) moves
  steps-in [] h = All-nil (IsStepIn views)
  steps-in (Block b move ∷ moves) h =
      let f = All-head (IsFitting k block) (as_step (Block b move)) (as_steps moves) h in
      let there : b < length views = omega (arith, block-there setting is c b f.0, ap (λ (l : List BlockTree). length l) seen, length-map views view_tree) in
      All-cons (IsStepIn views) (Block b move) moves (there, subst (λ (g : Multigraph). IsMoveOf g move) (graph-is b) (move-within (block b).part (block b).nodes (tree-in k block right b f.0) move f.1))
      (steps-in moves (All-tail (IsFitting k block) (as_step (Block b move)) (as_steps moves) h))
  steps-in (Regroup v edges ∷ moves) h = All-cons (IsStepIn views) (Regroup v edges) moves tt (steps-in moves (All-tail (IsFitting k block) (as_step (Regroup v edges)) (as_steps moves) h))

  -- the moves to q are those of blocks that are seen
  pub steps-within : (lists q : List (List ℕ)) → IsComponentInPlane (component_at setting c) (blocks_to (component_at setting c) (blocks_of setting family) q) → (moves : List WholeMove)
      → as_steps moves ≡ whole_moves_between (component_at setting c) (blocks_of setting family) lists q → All (IsStepIn views) moves
  steps-within lists q to moves e = steps-in moves (subst (All (IsFitting k block)) (sym e) (steps-fit k block lists q right to))
