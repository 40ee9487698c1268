use Rattle.std.proofs.Common.{◌≡◌, ◌<◌, ℕ, List, length, map, refl, sym, ap, ◌∙◌, subst, arith}
use Rattle.multigraph.specs.Part.{Rises}
use Rattle.pair_split.specs.Split.{items_of}
use Rattle.pair_split.specs.Tutte.{piece_of}
use Rattle.pair_split.specs.declared.components.Comp.{Comp}
use Rattle.pair_split.specs.declared.components.Item.{Item}
use Rattle.pair_split.specs.declared.components.Piece.{Piece}
use Rattle.spqr_tree.specs.Keys.{parent_at, nth_item, link_key, AreWithin, AreApart}
use Rattle.spqr_tree.specs.Merged.{how_many}
use Rattle.spqr_tree.proofs.NodesMade.{component-is, rank-is, made-more}
use Rattle.spqr_tree.proofs.assembly.nodes_of.Goals as goal

pub sort_items-requires-clause-within : goal.sort_items-requires-clause-within
sort_items-requires-clause-within c =
    let pieces : c.as_slice.result.now ≡ items_of c.args.comps.now c.loop-k.k = c.as_slice.ensures ∙ ap (λ (p : Comp). p.items) (component-is c.args.comps.now c.loop-k.k c.index-comps-k.result c.loop-k-test.true c.index-comps-k.is) in
    subst (λ (ps : List Piece). AreWithin ps (length c.args.least.now)) (sym pieces) (c.requires.within c.loop-k.k c.loop-k-test.true)

pub sort_items-requires-clause-apart : goal.sort_items-requires-clause-apart
sort_items-requires-clause-apart c =
    let pieces : c.as_slice.result.now ≡ items_of c.args.comps.now c.loop-k.k = c.as_slice.ensures ∙ ap (λ (p : Comp). p.items) (component-is c.args.comps.now c.loop-k.k c.index-comps-k.result c.loop-k-test.true c.index-comps-k.is) in
    subst (λ (ps : List Piece). AreApart (parent_at c.args.parents.now c.loop-k.k) c.args.least.now ps) (sym pieces) (c.requires.apart c.loop-k.k c.loop-k-test.true)

pub loop-k-preserved : goal.loop-k-preserved
loop-k-preserved c =
    let made = c.in_ok-sort_items.ensures in
    let same : c.deref.result.now ≡ c.sort_items.new.items.items = c.deref.ensures.value in
    made-more c.args.comps.now c.args.ranks.now c.args.parents.now c.args.least.now c.loop-k.nodes c.in_ok-nodes-2.nodes
    (record { kind = c.index-comps-k.result.kind; vertices = c.as_slice-in-loop-k.result.now; items = c.deref.result.now }) c.loop-k.k c.index-comps-k.result c.as_slice-in-loop-k.result.now
    c.loop-k.invariant c.in_ok-nodes-2.ensures (component-is c.args.comps.now c.loop-k.k c.index-comps-k.result c.loop-k-test.true c.index-comps-k.is)
    (rank-is c.args.ranks.now c.loop-k.k c.index-ranks-k.result c.as_slice-in-loop-k.result.now (omega (arith, c.loop-k-test.true, c.requires.number)) c.as_slice-in-loop-k.ensures)
    (record {
      kind = refl;
      vertices = refl;
      rise = subst (λ (items : List Item). Rises (map (λ (item : Item). item.key) items)) (sym same) made.rise;
      pieces = λ t. ap (λ (items : List Item). how_many t (map piece_of items)) same ∙ made.pieces t ∙ ap (how_many t) c.as_slice.ensures;
    })
    (subst (λ (items : List Item). (i : ℕ) → i < length items → (nth_item items i).key ≡ link_key (parent_at c.args.parents.now c.loop-k.k) c.args.least.now (nth_item items i).what) (sym same) made.keys)
