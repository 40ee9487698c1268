-- The codes that apply to moves and mirror images of a block.
use Rattle.std.proofs.Common.{◌≡◌, ℕ, ◌<◌, true, false, not, ◌&&◌, List, [], ◌∷◌, length, Option, None, Some, refl, sym, ap, ◌∙◌, subst}
use Rattle.permutations.specs.Count.{some, least}
use Rattle.permutations.proofs.Search.{least-is, some-from, none-some}
use Rattle.pair_split.specs.Tutte.{Node, node_at}
use Rattle.skel_embed.specs.Block.{BlockState, lock_at}
use Rattle.embed_moves.specs.Made as made
use Rattle.spqr_session.specs.State.{Embedding}
use Rattle.spqr_session.specs.Embedded.{BlockView}
use Rattle.spqr_session.specs.Codes.{Ladder, first_code}
use Rattle.spqr_session.specs.BlockCodes.{is_planar, entry_codes, of_entry}
use Rattle.pair_split.specs.Kinds.{has_choices}
use Rattle.spqr_session.specs.Commands.Mirror.{is_held, mirror_codes}
use Rattle.spqr_session.specs.Planned.{IsVerdict, IsMirrorVerdict}
use Rattle.spqr_session.specs.declared.code.Code.{Code}
use Rattle.spqr_session.specs.declared.code.Code.TheVariants.{NonPlanar, Locked}
use Rattle.spqr_session.proofs.Ladders.{rung-hit, rung-missed}
use Rattle.spqr_session.proofs.Planes.{seen_embedding, SeenPlane}

module _ (v : BlockView) (p : BlockState) (seen : SeenPlane v p) where
  abbrev here : Embedding
  here = seen_embedding p

  -- code 5 does not apply, and what the embedding brings is its own
  pub planar-missed : (rest : Ladder) (o : Option Code) → first_code rest ≡ o → first_code ((NonPlanar, not (is_planar v.entry)) ∷ rest) ≡ o
  planar-missed rest o e = rung-missed NonPlanar (not (is_planar v.entry)) rest o (ap (λ (x : Option Embedding). not (is_planar x)) seen.entry) e

  pub entry-own : (more : Embedding → Ladder) (o : Option Code) → first_code (more here) ≡ o → first_code (of_entry more v.entry) ≡ o
  entry-own more o e = ap (λ (x : Option Embedding). first_code (of_entry more x)) seen.entry ∙ e

  -- ---- mirror

  -- the two tests of a held node are the same
  held-same : (k : ℕ) → made.is_held p k ≡ is_held v.tree here k
  held-same k = ap (λ (t : List Node). lock_at p.locks k && has_choices (node_at t k).kind) seen.nodes

  mirror-codes : (o : Option Code) → first_code (mirror_codes v.tree here) ≡ o → IsVerdict (entry_codes mirror_codes v.tree v.entry) o
  mirror-codes o e = planar-missed (of_entry (mirror_codes v.tree) v.entry) o (entry-own (mirror_codes v.tree) o e)

  pub mirror-verdict : (o : Option Code) → IsMirrorVerdict p o → IsVerdict (entry_codes mirror_codes v.tree v.entry) o
  mirror-verdict None h =
      let n = length v.tree.nodes in
      let none : some n (is_held v.tree here) ≡ false = none-some n (is_held v.tree here) (λ j l. sym (held-same j) ∙ h j (subst (λ (t : List Node). j < length t) (sym seen.nodes) l)) in
      mirror-codes None (rung-missed (Locked (least n (is_held v.tree here))) (some n (is_held v.tree here)) [] None none refl)
  mirror-verdict (Some code) h =
      let n = length v.tree.nodes in
      let k = h.0 in
      let least-held = h.1 in
      let within : k < n = subst (λ (t : List Node). k < length t) seen.nodes least-held.within in
      let on : is_held v.tree here k ≡ true = sym (held-same k) ∙ least-held.held in
      let is : least n (is_held v.tree here) ≡ k = least-is n (is_held v.tree here) k within on (λ j l. sym (held-same j) ∙ least-held.none_before j l) in
      mirror-codes (Some code) (rung-hit (Locked (least n (is_held v.tree here))) (some n (is_held v.tree here)) [] (some-from n (is_held v.tree here) k within on) ∙ ap (λ (j : ℕ). Some (Locked j)) is ∙ ap (λ (c : Code). Some c) (sym h.2))
