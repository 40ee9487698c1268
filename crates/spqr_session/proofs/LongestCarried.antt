-- `longest`: an answer exists, and what is found is one.
use Rattle.std.proofs.Common.{◌≡◌, ℕ, List, map, All, refl, sym, ap, ◌∙◌, subst}
use Rattle.multigraph.specs.Graph.{Multigraph}
use Rattle.moves.specs.declared.values.Move.{Move}
use Rattle.pair_split.specs.Tutte.{Node}
use Rattle.skel_embed.specs.Block.{BlockState}
use Rattle.skel_embed.specs.Values.{as_moves}
use Rattle.embed_moves.specs.Made.{Fits}
use Rattle.long_face.specs.Longest.{IsLongest}
use Rattle.spqr_script.specs.Answers.Moves.{IsMoveOf}
use Rattle.spqr_script.specs.Answers.Longest.{longest_text}
use Rattle.spqr_session.specs.Trees.{tree_at}
use Rattle.spqr_session.specs.Setting.{Setting, IsSetting}
use Rattle.spqr_session.specs.State.{State, IsState}
use Rattle.spqr_session.specs.Embedded.{BlockView}
use Rattle.spqr_session.specs.BlockCodes.{no_more, TellsBlock}
use Rattle.spqr_session.specs.Commands.Convert.{value_of}
use Rattle.spqr_session.specs.Commands.Longest.{IsLongestAnswer, LongestStep}
use Rattle.spqr_session.proofs.BlockCarried.{read-answers, read-stays}
use Rattle.spqr_session.proofs.Changes.{entry-right}
use Rattle.spqr_session.proofs.ConvertPlans.{values-back, moves-within}
use Rattle.spqr_session.proofs.GreatestFaces.{longest-exists}
use Rattle.spqr_session.proofs.Moved.{between-made}
use Rattle.spqr_session.proofs.Planes.{SeenPlane, told-entry}
use Rattle.spqr_session.proofs.SettingTrees.{setting-tree}

module _ (setting : Setting) (b : ℕ) (s : State) where
  -- there is an answer
  pub longest-answers : IsSetting setting → IsState setting s → (text : List ℕ) × (after : State) × LongestStep setting b s text after
  longest-answers is right = read-answers no_more (λ tree e. refl) IsLongestAnswer setting.trees b s (λ l e p n.
      let tree = tree_at setting.trees b in
      let found = longest-exists tree.part.graph tree.nodes (setting-tree setting is b l) e.rotation (entry-right setting s b e right l p).0 in
      (longest_text tree.part found.0 (map value_of found.1), (found.0, found.1, found.2, refl)))

  -- the state stays
  pub longest-stays : (text : List ℕ) (after : State) → LongestStep setting b s text after → after ≡ s
  longest-stays text after p = read-stays no_more (λ tree e. refl) IsLongestAnswer setting.trees b s text after p

module _ (v : BlockView) (p : BlockState) (seen : SeenPlane v p) (len : ℕ) (moves : List Move) (found : IsLongest p.graph p.tree p.rotation len (as_moves moves)) where
  found-seen : IsLongest v.tree.part.graph v.tree.nodes p.rotation len (as_moves moves)
  found-seen =
      subst (λ (g : Multigraph). IsLongest g v.tree.nodes p.rotation len (as_moves moves)) seen.graph
      (subst (λ (t : List Node). IsLongest p.graph t p.rotation len (as_moves moves)) seen.nodes found)

  -- the moves that are found have keys that are edges
  pub longest-within : All (IsMoveOf v.tree.part.graph) moves
  longest-within = moves-within v.tree.part v.tree.nodes seen.tree moves (subst (All (Fits v.tree.nodes)) (sym found-seen.moves_are)
      (between-made v.tree.part.graph v.tree.nodes seen.tree p.rotation found-seen.system seen.right.0 found-seen.plane).0)

  -- and the lines of what is found are an answer
  pub longest-told : (text : List ℕ) → text ≡ longest_text v.tree.part len moves → TellsBlock v.tree v.entry no_more IsLongestAnswer text
  longest-told text e =
      told-entry v p seen no_more IsLongestAnswer text (len, as_moves moves, found-seen, e ∙ ap (longest_text v.tree.part len) (sym (values-back moves)))
