-- What is found of a block is right, and stands at the start of a session.
use Rattle.std.proofs.Common.{◌≡◌, ℕ, ◌<◌, Bool, false, List, length, replicate, None, Contains, refl, sym, ap, ◌∙◌, subst}
use Rattle.std.proofs.lemmas.List.{ext_get_or, length-replicate, get_or-replicate, get_or_default}
use Rattle.multigraph.specs.Graph.{Multigraph}
use Rattle.multigraph.specs.Part.{GraphPart}
use Rattle.planarity.specs.Laws.{SubdivisionExcludesPlane}
use Rattle.blocks.specs.Blocks.{block_at}
use Rattle.pair_split.specs.Tutte.{Node}
use Rattle.skeletons.specs.Items.{IsBlockTree}
use Rattle.skel_embed.specs.Block.{lock_at}
use Rattle.skel_embed.specs.Planes.{IsOutcome}
use Rattle.skel_embed.specs.declared.planes.Outcome.{Outcome}
use Rattle.skel_embed.specs.declared.planes.Outcome.TheVariants.{Plane, Not}
use Rattle.skel_embed.specs.First.{IsFirst}
use Rattle.spqr_session.specs.Trees as trees
use Rattle.spqr_session.specs.Certificates.{IsCertificate}
use Rattle.spqr_session.specs.State.{IsStartEntry}
use Rattle.spqr_session.specs.Embedded.{BlockView, block_view, no_view, view_at, KeepsTogether, IsFound, IsEmbedded, IsStartBlock, AreStartBlocks}

-- no node is locked where each is not
none-locked : (n : ℕ) (locks : List Bool) → length locks ≡ n → ((k : ℕ) → k < n → lock_at locks k ≡ false) → locks ≡ replicate n false
none-locked n locks c h = ext_get_or false locks (replicate n false) (c ∙ sym (length-replicate n false))
    (λ k l. let m : k < n = subst (λ (x : ℕ). k < x) c l in h k m ∙ sym (get_or-replicate n k false false m))

module _ (excludes : SubdivisionExcludesPlane) (part : GraphPart) (nodes : List Node) (tree : IsBlockTree part.graph nodes) where
  pub outcome-embedded : (outcome : Outcome) → KeepsTogether outcome → IsOutcome part.graph nodes outcome → IsEmbedded part outcome
  outcome-embedded (Plane p) state h = record {
    graph = h.0;
    tree = subst (IsBlockTree part.graph) (sym h.1) tree;
    certificate = (p.rotation, h.2.plane);
    entry = (h.2.plane, state.locks);
  }
  outcome-embedded (Not b) state h = record {
    graph = h.0;
    tree = subst (IsBlockTree part.graph) (sym h.1) tree;
    certificate = (h.2, λ r q. excludes part.graph r tree.graph q.system q.plane b.certificate.kind b.certificate.branch b.certificate.paths h.2.subdivision);
    entry = tt;
  }

  -- it stands at its first plane rotation system
  outcome-first : (outcome : Outcome) → KeepsTogether outcome → IsOutcome part.graph nodes outcome → IsStartEntry None (block_view part outcome).tree (block_view part outcome).entry
  outcome-first (Plane p) state h = (
    subst (λ (t : List Node). IsFirst part.graph t p.rotation) (sym h.1) h.2,
    none-locked (length p.tree) p.locks state.locks (λ k l. h.3 k (subst (λ (t : List Node). k < length t) h.1 l)),
  )
  outcome-first (Not b) state h = tt

  outcome-nodes : (outcome : Outcome) → IsOutcome part.graph nodes outcome → (block_view part outcome).tree ≡ record { part = part; nodes = nodes }
  outcome-nodes (Plane p) h = λ i. record { part = part; nodes = h.1 i }
  outcome-nodes (Not b) h = λ i. record { part = part; nodes = h.1 i }

  pub outcome-starts : (g : Multigraph) (edges : List ℕ) (outcome : Outcome) → KeepsTogether outcome → IsOutcome part.graph nodes outcome → trees.IsBlockTree g edges (record { part = part; nodes = nodes })
      → IsStartBlock None g edges (block_view part outcome)
  outcome-starts g edges outcome state h is = record {
    tree = subst (trees.IsBlockTree g edges) (sym (outcome-nodes outcome h)) is;
    certificate = subst (λ (x : trees.BlockTree). IsCertificate x.part.graph (block_view part outcome).certificate) (sym (outcome-nodes outcome h)) (outcome-embedded outcome state h).certificate;
    entry = (outcome-embedded outcome state h).entry;
    starts = outcome-first outcome state h;
  }

-- what was found of a part at the start of a session is that of every block with its graph
found-of : (g : Multigraph) (edges : List ℕ) (part : GraphPart) (outcome : Outcome) → IsEmbedded part outcome → IsStartBlock None g edges (block_view part outcome) → IsFound part.graph outcome
found-of g edges part (Plane p) right start = record {
  nodes = p.tree;
  tree = start.tree.nodes;
  found = (right.graph, refl, start.starts.0, λ k l. ap (λ (locks : List Bool). lock_at locks k) start.starts.1 ∙ get_or-replicate (length p.tree) k false false l);
}
found-of g edges part (Not b) right start = record { nodes = b.tree; tree = start.tree.nodes; found = (right.graph, refl, right.certificate.0) }

-- so it is found of a graph, where one of the blocks before has this graph
pub found-before : (g : Multigraph) (blocks : List (List ℕ)) (n : ℕ) (before : List BlockView) (v : BlockView) (outcome : Outcome) (h : Multigraph) → AreStartBlocks None g blocks n before → Contains before v
    → block_view v.tree.part outcome ≡ v → IsEmbedded v.tree.part outcome → v.tree.part.graph ≡ h → IsFound h outcome
found-before g blocks n before v outcome h are among view right same =
    let b = among.0 in
    let at : view_at before b ≡ v = get_or_default before b no_view v among.1 ∙ among.2 in
    let start : IsStartBlock None g (block_at blocks b) v = subst (IsStartBlock None g (block_at blocks b)) at (are.each b (subst (λ (m : ℕ). b < m) are.one_each among.1)) in
    subst (λ (x : Multigraph). IsFound x outcome) same (found-of g (block_at blocks b) v.tree.part outcome right (subst (IsStartBlock None g (block_at blocks b)) (sym view) start))
