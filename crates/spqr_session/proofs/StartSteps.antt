-- How the blocks are brought to the start that a file gives, one after another.
use Rattle.std.proofs.Common.{◌≡◌, ℕ, ◌+◌, ◌<◌, Bool, false, List, [], length, replicate, get_or, slice_set, Option, None, Some, Result, Ok, Err, IfErr, IsErrAnd, IfSome, slice_index, ◌⊎◌, inl, inr, refl, sym, ap, ◌∙◌, subst, arith}
use Rattle.std.proofs.lemmas.Bool.{cases_eq, cases_lt}
use Rattle.std.proofs.lemmas.List.{get_or_default, length-set, get_or-set_same, get_or-set_other, get_or-replicate, get_or_past, length-replicate}
use Rattle.multigraph.specs.Graph.{Multigraph, IsGraph}
use Rattle.blocks.specs.Blocks.{BlockStructure, AreBlocks, IsBlockStructure, block_at}
use Rattle.blocks.proofs.BlockParts.{block-edges_in}
use Rattle.kuratowski.specs.declared.subdivision.Subdivision.{Subdivision}
use Rattle.gml_graph.specs.Named.{NamedGraph, ArrangeEdges, IsNamed}
use Rattle.skel_embed.specs.Block.{lock_at}
use Rattle.spqr_session.specs.Trees.{BlockTree, IsBlockTree}
use Rattle.spqr_session.specs.Certificates.{IsCertificate}
use Rattle.spqr_session.specs.Start.{start_entries, IsBadStart, IsStartFault, IsStartRefusal}
use Rattle.spqr_session.specs.State.{Embedding, IsStartEntry}
use Rattle.spqr_session.specs.Embedded.{BlockView, view_at, no_view, entry_lock, IsStartBlock, AreStartBlocks}
use Rattle.spqr_session.specs.Starting.{AreStartLists, AreStartedBelow, IsEntryTaken, IsBlockTaken, IsReadyFor, IsGenusRefusal}
use Rattle.spqr_session.specs.declared.fault.StartFault.{StartFault}
use Rattle.spqr_session.specs.declared.fault.StartFault.TheVariants.{StartGenus, Memory as OutOfMemory}
use Rattle.spqr_session.proofs.StartLists.{starts-arranged}
use Rattle.spqr_session.proofs.StartFaults.{started-not_bad}

-- ---- one block

-- ---- a block of a session

-- no node is locked at the start
unlocked-at : (n k : ℕ) → lock_at (replicate n false) k ≡ false
unlocked-at n k = elim (cases_lt k n) [
  | inl l ↦ get_or-replicate n k false false l
  | inr m ↦ get_or_past (replicate n false) k false (omega (arith, m, length-replicate n false))
]

start-unlocked : (start : Option (List (List ℕ))) (tree : BlockTree) (o : Option Embedding) → IsStartEntry start tree o → (k : ℕ) → entry_lock k o ≡ false
start-unlocked start tree None h k = refl
start-unlocked start tree (Some e) h k = ap (λ (l : List Bool). lock_at l k) h.1 ∙ unlocked-at (length tree.nodes) k

-- an entry at its start after the lists of a file were taken
entry-started : (lists : List (List ℕ)) (tree : BlockTree) (o u : Option Embedding) → IsEntryTaken tree.part (start_entries tree.part lists) o u → IsStartEntry None tree o → IsStartEntry (Some lists) tree u
entry-started lists tree None None t s = tt
entry-started lists tree None (Some d) t s = absurd (let w : Some d ≡ None = t in cc)
entry-started lists tree (Some e) None t s = absurd t
entry-started lists tree (Some e) (Some d) t s = (t.0, t.1 ∙ s.1)

block-started : (g : Multigraph) (lists : List (List ℕ)) (edges : List ℕ) (old new : BlockView) → IsStartBlock None g edges old → IsBlockTaken (start_entries old.tree.part lists) old new → IsStartBlock (Some lists) g edges new
block-started g lists edges old new s t = record {
  tree = subst (IsBlockTree g edges) (sym t.tree) s.tree;
  certificate = subst (λ (c : Option Subdivision). IsCertificate new.tree.part.graph c) (sym t.certificate) (subst (λ (x : BlockTree). IsCertificate x.part.graph old.certificate) (sym t.tree) s.certificate);
  entry = t.right;
  starts = subst (λ (x : BlockTree). IsStartEntry (Some lists) x new.entry) (sym t.tree) (entry-started lists old.tree old.entry new.entry t.entry s.starts);
}

-- ---- the blocks, one after another

-- a graph with a block has a vertex
pub block-vertex : (g : Multigraph) (blocks : List (List ℕ)) (b : ℕ) → IsGraph g → AreBlocks g blocks → b < length blocks → 0 < g.vertex_count
block-vertex g blocks b graph are l = omega (arith, graph.first_in (slice_index (block_at blocks b) 0) (block-edges_in g blocks b are l 0 (are.not_empty b l)))

-- where the file gives no start they stay at their first rotation systems
pub first-stay : (named : NamedGraph) (structure : BlockStructure) (views : List BlockView) → IsGraph named.graph → IsBlockStructure named.graph structure → (named.start ≡ None) ⊎ (named.graph.vertex_count ≡ 0)
    → AreStartBlocks None named.graph structure.blocks (length structure.blocks) views → AreStartBlocks named.start named.graph structure.blocks (length structure.blocks) views
first-stay named structure views graph is (inl none) h = subst (λ (s : Option (List (List ℕ))). AreStartBlocks s named.graph structure.blocks (length structure.blocks) views) (sym none) h
first-stay named structure views graph is (inr none) h = record { one_each = h.one_each; each = λ b l. absurd (omega (arith, none, block-vertex named.graph structure.blocks b graph is.blocks l)) }

-- the lists of a start arrange the edges
pub start-arranges : (named : NamedGraph) (lists : List (List ℕ)) → IsNamed named → named.start ≡ Some lists → ArrangeEdges named.graph lists
start-arranges named lists n e = subst (λ (o : Option (List (List ℕ))). IfSome o (ArrangeEdges named.graph)) e n.start

module _ (named : NamedGraph) (structure : BlockStructure) (is : IsBlockStructure named.graph structure) (lists : List (List ℕ)) (told : named.start ≡ Some lists) where
  abbrev block : ℕ → List ℕ
  block b = block_at structure.blocks b

  module _ (n : ℕ) (views : List BlockView) (below : AreStartedBelow lists named.graph structure.blocks n views) (l : n < length structure.blocks) where
    abbrev next : BlockView
    next = view_at views n

    -- it is there
    pub next-there : n < length views
    next-there = subst (λ (k : ℕ). n < k) (sym below.one_each) l

    -- and at its first rotation system
    next-first : IsStartBlock None named.graph (block n) next
    next-first = below.others n (omega arith) l

    -- its lists are found
    pub next-lists : (entries : List (List (ℕ × List ℕ))) (own : List (ℕ × List ℕ)) → AreStartLists named.graph structure.blocks lists (length structure.blocks) entries → own ≡ get_or entries n own → own ≡ start_entries next.tree.part lists
    next-lists entries own are e =
        e ∙ get_or_default entries n own [] (subst (λ (k : ℕ). n < k) (sym are.one_each) l) ∙ are.each n next.tree.part l next-first.tree.part

    -- it is ready for them
    pub next-ready : IsGraph named.graph → ArrangeEdges named.graph lists → IsReadyFor (start_entries next.tree.part lists) next
    next-ready graph arrange = record {
      arranged = starts-arranged named.graph graph (block n) next.tree.part next-first.tree.part (λ e m. is.blocks.edges n e l m) lists arrange.arranged;
      unlocked = start-unlocked None next.tree next.entry next-first.starts;
    }

    -- after it one block more is at the start of the file
    pub next-started : (new : BlockView) → IsBlockTaken (start_entries next.tree.part lists) next new → AreStartedBelow lists named.graph structure.blocks (n + 1) (slice_set views n new)
    next-started new t = record {
      one_each = length-set views n new ∙ below.one_each;
      started = λ b lb m. elim (cases_eq b n) [
        | inl same ↦ subst (λ (k : ℕ). IsStartBlock (Some lists) named.graph (block k) (view_at (slice_set views n new) k)) (sym same)
            (subst (IsStartBlock (Some lists) named.graph (block n)) (sym (get_or-set_same views n new no_view (subst (λ (k : ℕ). n < k) (sym below.one_each) l)))
            (block-started named.graph lists (block n) next new next-first t))
        | inr apart ↦ subst (IsStartBlock (Some lists) named.graph (block b)) (sym (get_or-set_other views n b new no_view apart)) (below.started b (omega (arith, lb, apart)) m)
      ];
      others = λ b lb m. subst (IsStartBlock None named.graph (block b)) (sym (get_or-set_other views n b new no_view (λ same. omega (arith, lb, same)))) (below.others b (omega (arith, lb)) m);
    }

    -- a block before it is not bad
    none-bad : (c x y z : ℕ) → c < n → ¬ IsBadStart named.graph structure.blocks lists c x y z
    none-bad c x y z lc bad =
        let at = below.started c lc (omega (arith, lc, l)) in
        started-not_bad named.graph structure.blocks lists c x y z (view_at views c).tree is.blocks (omega (arith, lc, l)) at.tree bad (view_at views c).certificate (view_at views c).entry at.certificate at.entry at.starts

    -- a refusal by it is that of the file
    pub next-refused : (fault : StartFault) → IsGenusRefusal n (start_entries next.tree.part lists) next fault → IsStartRefusal named fault
    next-refused (StartGenus b v e f) h = subst (λ (k : ℕ). IsStartFault named k v e f) (sym h.0) (record {
      lists = lists;
      has_start = told;
      structure = structure;
      is_structure = is;
      bad = record {
        within = l;
        part = next.tree.part;
        is_part = next-first.tree.part;
        planar = subst (IsCertificate next.tree.part.graph) h.1 next-first.certificate;
        not_plane = h.2;
      };
      none_before = none-bad;
    })
    next-refused OutOfMemory h = tt

-- what holds of a fault holds of the error that it becomes
pub err-from : {X : Type 0} (r : Result X StartFault) (fault : StartFault) (P : StartFault → Type 0) → IsErrAnd r (λ e. e ≡ fault) → P fault → IfErr r P
err-from (Ok x) fault P e p = tt
err-from (Err f) fault P e p = subst P (sym e) p
