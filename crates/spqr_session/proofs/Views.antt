-- Lists of blocks and of what is seen of them: trees, certificates, entries; and the start of a session.
use Rattle.std.proofs.Common.{◌≡◌, ℕ, zero, suc, ◌<◌, List, [], ◌∷◌, length, map, slice_index_or, Option, None, refl, sym, ◌∙◌, subst}
use Rattle.std.proofs.lemmas.List.{length-map}
use Rattle.multigraph.specs.Graph.{Multigraph}
use Rattle.blocks.specs.Blocks.{block_at}
use Rattle.kuratowski.specs.declared.subdivision.Subdivision.{Subdivision}
use Rattle.spqr_session.specs.Trees.{BlockTree, tree_at, IsBlockTree, AreBlockTrees}
use Rattle.spqr_session.specs.Certificates.{certificate_at, IsCertificate, AreCertificates}
use Rattle.spqr_session.specs.State.{Family}
use Rattle.spqr_session.specs.Embedded.{BlockView, view_tree, view_certificate, view_entry, no_view, view_at, AreStartBlocks}
use Rattle.spqr_session.specs.Machine.{Machine, IsStarted, IsMachine}

-- the image at a place is that of what stands there
map-at : {X Y : Type 0} (f : X → Y) (xs : List X) (i : ℕ) (d : X) → slice_index_or (map f xs) i (f d) ≡ f (slice_index_or xs i d)
map-at f [] i d = refl
map-at f (x ∷ xs) zero d = refl
map-at f (x ∷ xs) (suc i) d = map-at f xs i d

-- what is seen of block b
pub trees-at : (views : List BlockView) (b : ℕ) → tree_at (map view_tree views) b ≡ (view_at views b).tree
trees-at views b = map-at view_tree views b no_view

pub certificates-at : (views : List BlockView) (b : ℕ) → certificate_at (map view_certificate views) b ≡ (view_at views b).certificate
certificates-at views b = map-at view_certificate views b no_view

pub entries-at : (views : List BlockView) (b : ℕ) → slice_index_or (map view_entry views) b None ≡ (view_at views b).entry
entries-at views b = map-at view_entry views b no_view

-- a family with these entries: what is said of the blocks depends on these alone
abbrev pub seen_family : List BlockView → Family
seen_family views = record { entries = map view_entry views; arrangements = [] }

module _ (at : Option (List (List ℕ))) (g : Multigraph) (blocks : List (List ℕ)) (views : List BlockView) (h : AreStartBlocks at g blocks (length blocks) views) where
  -- there are as many trees as blocks
  trees-count : length (map view_tree views) ≡ length blocks
  trees-count = length-map views view_tree ∙ h.one_each

  pub start-trees : AreBlockTrees g blocks (map view_tree views)
  start-trees = record { one_each = trees-count; each = λ b l. subst (IsBlockTree g (block_at blocks b)) (sym (trees-at views b)) (h.each b l).tree }

  pub start-certificates : AreCertificates (map view_tree views) (map view_certificate views)
  start-certificates = record {
    one_each = length-map views view_certificate ∙ sym (length-map views view_tree);
    each = λ b l.
        let v = h.each b (subst (λ (n : ℕ). b < n) trees-count l) in
        subst (λ (c : Option Subdivision). IsCertificate (tree_at (map view_tree views) b).part.graph c) (sym (certificates-at views b))
        (subst (λ (t : BlockTree). IsCertificate t.part.graph (view_at views b).certificate) (sym (trees-at views b)) v.certificate);
  }

-- a start is right
pub started-machine : (m : Machine) → IsStarted m → IsMachine m
started-machine m h = record { setting = h.setting; state = h.start.right }
