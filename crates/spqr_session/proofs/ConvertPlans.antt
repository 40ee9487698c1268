-- The lines of the moves from a block that is seen in the plane to one that can take its place.
use Rattle.std.proofs.Common.{◌≡◌, ℕ, ◌<◌, List, [], ◌∷◌, map, All, refl, sym, ap, ◌∙◌, subst}
use Rattle.std.proofs.lemmas.List.Elements.{All-nil, All-cons, All-head, All-tail}
use Rattle.std.proofs.lemmas.List.Sorted.{All-permutation}
use Rattle.multigraph.specs.Graph.{Multigraph, edge_count}
use Rattle.multigraph.specs.Part.{GraphPart}
use Rattle.pair_split.specs.Tutte.{Node, node_at}
use Rattle.pair_split.specs.declared.components.Item.{Item}
use Rattle.skeletons.specs.Items as items
use Rattle.faces.specs.Euler.{IsPlaneSystem}
use Rattle.skeletons.specs.Moves as theory
use Rattle.skel_embed.specs.Block.{BlockState, IsBlockState}
use Rattle.skel_embed.specs.Values.{as_move, as_moves}
use Rattle.moves.specs.declared.values.Move.{Move}
use Rattle.moves.specs.declared.values.Move.TheVariants.{Flip, Permute}
use Rattle.embed_moves.specs.Made.{Fits}
use Rattle.spqr_script.specs.Node.{IsItemOf}
use Rattle.spqr_script.specs.Answers.Moves.{moves_text, IsMoveOf}
use Rattle.spqr_session.specs.State.{Embedding}
use Rattle.spqr_session.specs.Embedded.{BlockView}
use Rattle.spqr_session.specs.Commands.Convert.{value_of, conversion_text}
use Rattle.spqr_session.specs.Planned.{embedding_of, FitsBlock, TellsMoves}
use Rattle.spqr_script.proofs.PartNodes.{node-of_part}
use Rattle.spqr_session.proofs.BlockCarried.{entry-same}
use Rattle.spqr_session.proofs.Moved.{between-made}
use Rattle.spqr_session.proofs.Planes.{seen_embedding, SeenPlane}

-- a value that stands for a move is that of the move
pub values-back : (moves : List Move) → map value_of (as_moves moves) ≡ moves
values-back [] = refl
values-back (Flip k ∷ moves) = ap (λ (l : List Move). Flip k ∷ l) (values-back moves)
values-back (Permute k keys ∷ moves) = ap (λ (l : List Move). Permute k keys ∷ l) (values-back moves)

-- the keys of items of a part are edges of it
keys-of : (part : GraphPart) (list : List Item) → All (IsItemOf part) list → All (λ e. e < edge_count part.graph) (map items.item_key list)
keys-of part [] a = All-nil (λ e. e < edge_count part.graph)
keys-of part (item ∷ others) a =
    All-cons (λ e. e < edge_count part.graph) item.key (map items.item_key others) (All-head (IsItemOf part) item others a).0 (keys-of part others (All-tail (IsItemOf part) item others a))

module _ (part : GraphPart) (nodes : List Node) (tree : items.IsBlockTree part.graph nodes) where
  -- a move of the tree has keys that are edges
  pub move-within : (move : Move) → Fits nodes (as_move move) → IsMoveOf part.graph move
  move-within (Flip k) h = tt
  move-within (Permute k keys) h =
      All-permutation (λ e. e < edge_count part.graph) (items.node_keys nodes k) keys h.1 (keys-of part (node_at nodes k).items (node-of_part part nodes k tree.graph tree.tree h.0.0).items)

  pub moves-within : (moves : List Move) → All (Fits nodes) (as_moves moves) → All (IsMoveOf part.graph) moves
  moves-within [] h = All-nil (IsMoveOf part.graph)
  moves-within (move ∷ moves) h =
      All-cons (IsMoveOf part.graph) move moves (move-within move (All-head (Fits nodes) (as_move move) (as_moves moves) h)) (moves-within moves (All-tail (Fits nodes) (as_move move) (as_moves moves) h))

module _ (v : BlockView) (p q : BlockState) (seen : SeenPlane v p) (fits : FitsBlock v q) (state : IsBlockState q) (moves : List Move) (between : as_moves moves ≡ theory.moves_between p.tree p.rotation q.rotation) where
  between-seen : as_moves moves ≡ theory.moves_between v.tree.nodes p.rotation q.rotation
  between-seen = between ∙ ap (λ (t : List Node). theory.moves_between t p.rotation q.rotation) seen.nodes

  -- the moves to it have keys that are edges
  pub between-within : All (IsMoveOf v.tree.part.graph) moves
  between-within = moves-within v.tree.part v.tree.nodes seen.tree moves (subst (All (Fits v.tree.nodes)) (sym between-seen)
      (between-made v.tree.part.graph v.tree.nodes seen.tree p.rotation q.rotation seen.right.0 (subst (λ (g : Multigraph). IsPlaneSystem g q.rotation) fits.graph state.plane)).0)

  -- and their lines are those that are due
  pub between-told : (text : List ℕ) → text ≡ moves_text v.tree.part moves → TellsMoves v q text
  between-told text e old present =
      let same : seen_embedding p ≡ old = entry-same v.entry (seen_embedding p) old seen.entry present in
      e ∙ ap (moves_text v.tree.part) (sym (values-back moves) ∙ ap (map value_of) between-seen) ∙ ap (λ (x : Embedding). conversion_text v.tree x (embedding_of q)) same
