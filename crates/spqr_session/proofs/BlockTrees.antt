-- The blocks of a graph, one after another, and their lines in the head.
use Rattle.std.proofs.Common.{◌≡◌, ℕ, ◌+◌, ◌<◌, List, [], ◌∷◌, ◌++◌, length, map, take, get_or, Option, inl, inr, sym, ap, ◌∙◌, subst, arith, append_assoc, length-append}
use Rattle.std.proofs.lemmas.Bool.{cases_eq}
use Rattle.std.proofs.lemmas.List.{get_or_default, get_or_append_left, length-map}
use Rattle.std.proofs.Math.Seq.{get_or-append_seam}
use Rattle.multigraph.specs.Graph.{Multigraph}
use Rattle.blocks.specs.Blocks.{block_at}
use Rattle.kuratowski.specs.declared.subdivision.Subdivision.{Subdivision}
use Rattle.spqr_script.specs.Head.{block_text}
use Rattle.spqr_session.specs.Trees.{BlockTree, AreBlockTrees}
use Rattle.spqr_session.specs.Certificates.{certificate_at}
use Rattle.spqr_session.specs.Embedded.{BlockView, view_tree, view_certificate, no_view, view_at, IsStartBlock, AreStartBlocks}
use Rattle.spqr_session.specs.Head.{numbered, nodes_text, planarity_text, block_lines}
use Rattle.spqr_session.proofs.Numbered.{numbered-take}
use Rattle.spqr_session.proofs.Views.{trees-at, certificates-at}

-- one more
pub block-more : (start : Option (List (List ℕ))) (g : Multigraph) (blocks : List (List ℕ)) (n : ℕ) (views more : List BlockView) (v : BlockView) → AreStartBlocks start g blocks n views → IsStartBlock start g (block_at blocks n) v → more ≡ views ++ v ∷ []
    → AreStartBlocks start g blocks (n + 1) more
block-more start g blocks n views more v f is e = subst (AreStartBlocks start g blocks (n + 1)) (sym e) (record {
  one_each = omega (arith, length-append views (v ∷ []), f.one_each);
  each = λ b l. elim (cases_eq b n) [
    | inl q ↦ subst (λ (k : ℕ). IsStartBlock start g (block_at blocks k) (view_at (views ++ v ∷ []) k)) (sym q) (subst (IsStartBlock start g (block_at blocks n)) (sym (last n f.one_each)) is)
    | inr apart ↦ subst (IsStartBlock start g (block_at blocks b)) (sym (get_or_append_left views (v ∷ []) no_view b (omega (arith, l, apart, f.one_each)))) (f.each b (omega (arith, l, apart)))
  ];
})
  where
    last : (k : ℕ) → length views ≡ k → view_at (views ++ v ∷ []) k ≡ v
    last k c = subst (λ (k : ℕ). view_at (views ++ v ∷ []) k ≡ v) c (get_or-append_seam views v [] no_view)

-- the lines of one block more, of its tree, and whether it is planar
pub lines-more : (blocks : List (List ℕ)) (views : List BlockView) (b : ℕ) (text before line nodes after : List ℕ) → b < length blocks
    → before ≡ text ++ numbered (block_lines (map view_tree views) (map view_certificate views)) 0 (take b blocks) → line ≡ before ++ block_text b (block_at blocks b)
    → nodes ≡ line ++ nodes_text (view_at views b).tree.part (view_at views b).tree.nodes → after ≡ nodes ++ planarity_text b (view_at views b).tree.part (view_at views b).certificate
    → after ≡ text ++ numbered (block_lines (map view_tree views) (map view_certificate views)) 0 (take (b + 1) blocks)
lines-more blocks views b text before line nodes after within p q r o =
    let lines = block_lines (map view_tree views) (map view_certificate views) in
    let one = numbered lines 0 (take b blocks) in
    let two = block_text b (block_at blocks b) in
    let three = nodes_text (view_at views b).tree.part (view_at views b).tree.nodes in
    let four = planarity_text b (view_at views b).tree.part (view_at views b).certificate in
    let seen : lines b (block_at blocks b) ≡ two ++ three ++ four =
    ap (λ (t : BlockTree). two ++ nodes_text t.part t.nodes ++ planarity_text b t.part (certificate_at (map view_certificate views) b)) (trees-at views b)
    ∙ ap (λ (c : Option Subdivision). two ++ three ++ planarity_text b (view_at views b).tree.part c) (certificates-at views b) in
    let more : numbered lines 0 (take (b + 1) blocks) ≡ one ++ (two ++ three ++ four) =
    numbered-take lines blocks b (block_at blocks b) within (get_or_default blocks b (block_at blocks b) [] within) ∙ ap (λ (l : List ℕ). one ++ l) seen in
    o ∙ ap (λ (t : List ℕ). t ++ four) (r ∙ ap (λ (t : List ℕ). t ++ three) (q ∙ ap (λ (t : List ℕ). t ++ two) p))
    ∙ ap (λ (t : List ℕ). t ++ four) (append_assoc (text ++ one) two three) ∙ append_assoc (text ++ one) (two ++ three) four ∙ append_assoc text one (two ++ three ++ four)
    ∙ ap (λ (t : List ℕ). text ++ t) (sym more)

-- the block that is found at a place
pub view-at : (views : List BlockView) (b : ℕ) (v : BlockView) → b < length views → v ≡ get_or views b v → v ≡ view_at views b
view-at views b v l e = e ∙ get_or_default views b v no_view l

module _ (g : Multigraph) (blocks : List (List ℕ)) (views : List BlockView) (b : ℕ) (are : AreBlockTrees g blocks (map view_tree views)) (within : b < length blocks) where
  -- it is there
  pub view-within : b < length views
  view-within = omega (arith, within, are.one_each, length-map views view_tree)
