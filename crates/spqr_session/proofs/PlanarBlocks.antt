-- A block that is looked up: what is known of it where it is in the plane, and the code where it is not.
use Rattle.std.proofs.Common.{◌≡◌, ℕ, List, map, true, Result, IfOk, refl, sym, ap, ◌∙◌, subst}
use Rattle.std.specs.Global.{Vec}
use Rattle.multigraph.specs.Part.{GraphPart}
use Rattle.skel_embed.specs.Block.{BlockState}
use Rattle.skel_embed.specs.declared.planes.Outcome.TheVariants.{Plane}
use Rattle.spqr_session.specs.Trees.{BlockTree}
use Rattle.spqr_session.specs.State.{Embedding, State}
use Rattle.spqr_session.specs.Embedded.{BlockView, block_view, view_tree, view_entry, view_at, IsEmbedded}
use Rattle.spqr_session.specs.Codes.{Ladder, rises_above}
use Rattle.spqr_session.specs.BlockCodes.{ReadStep, TellsBlock}
use Rattle.spqr_session.specs.Planar.{IsPlaneAt}
use Rattle.spqr_session.proofs.BlockCarried.{block-read}
use Rattle.spqr_session.proofs.Planes.{SeenPlane, seen-plane}

module _ (views : List BlockView) (b : ℕ) (part : GraphPart) (p : BlockState) (a : IsPlaneAt views b part p) where
  -- the part is that of the block
  pub part-there : part ≡ (view_at views b).tree.part
  part-there = sym (ap (λ (v : BlockView). v.tree.part) a.view)

  -- and the block is seen so
  pub plane-there : SeenPlane (view_at views b) p
  plane-there = seen-plane (view_at views b) (Plane p) p (ap (λ (q : GraphPart). block_view q (Plane p)) (sym part-there) ∙ sym a.view) (subst (λ (q : GraphPart). IsEmbedded q (Plane p)) part-there a.right) refl

  -- what is reported of it is the answer of a command that only reads
  pub plane-read : {E : Type 0} (more : BlockTree → Embedding → Ladder) (rising : (tree : BlockTree) (e : Embedding) → rises_above 5 (more tree e) ≡ true) (IsAbout : BlockTree → Embedding → List ℕ → Type 0) (r : Result (Vec ℕ) E)
      → IfOk r (λ text. TellsBlock (view_at views b).tree (view_at views b).entry more IsAbout text.items) → (s : State) → s.present.entries ≡ map view_entry views → IfOk r (λ text. ReadStep more IsAbout (map view_tree views) b s text.items s)
  plane-read more rising IsAbout r told = block-read more rising IsAbout views b (view_at views b) r a.there refl told
