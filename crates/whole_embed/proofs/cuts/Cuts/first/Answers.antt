use Rattle.std.proofs.Common.{◌≡◌, ◌<◌, ◌+◌, ℕ, List, length, slice_index, sym, ap, ◌∙◌, subst, arith}
use Rattle.std.proofs.lemmas.List.{length-map, length-set}
use Rattle.arrangements.specs.Arranged.{first_arrangement}
use Rattle.whole_embed.specs.Component.{Component, component_of}
use Rattle.whole_embed.specs.Around.{edges_around, block_with, block_order}
use Rattle.whole_embed.specs.Cuts.{CutState, blocks_in, HavePlanes}
use Rattle.whole_embed.specs.Keeping.{AreFirstTo, tables_at}
use Rattle.whole_embed.proofs.CutLists.{first-more}
use Rattle.whole_embed.proofs.cuts.Cuts.first.Goals as goal

pub set_first-requires-clause-component : goal.set_first-requires-clause-component
set_first-requires-clause-component c = record {
  graph = c.args.graph.now;
  structure = c.args.blocks.now;
  number = c.args.c;
  is_graph = c.keeps_limits.ensures.graph;
  limits = c.keeps_limits.ensures.limits;
  is_structure = c.requires.structure;
  within = c.requires.component;
  component = c.loop-i.invariant.0;
  blocks = c.requires.blocks;
}

pub set_first-requires-clause-planes : goal.set_first-requires-clause-planes
set_first-requires-clause-planes c = subst (λ (k : Component). HavePlanes k c.args.all.now) (sym c.loop-i.invariant.0) c.requires.planes

pub loop-i-init : goal.loop-i-init
loop-i-init c =
    let each = ap length c.deref.ensures.value ∙ (c.in_ok-orders.ensures {u = tt}).each in
    (c.in_ok-frame.ensures {u = tt}, length-map c.in_ok-lists.lists.items (λ x. x.items) ∙ ((c.in_ok-lists.ensures {u = tt}).each ∙ each), λ i less. absurd (omega (arith, less)))

pub loop-i-preserved : goal.loop-i-preserved
loop-i-preserved c =
    let s : CutState = c.loop-i.cuts in
    let block = blocks_in c.args.all.now in
    let l : List ℕ = first_arrangement (block_with s.component) (block_order block (slice_index s.component.cuts c.loop-i.i)) (edges_around s.component (slice_index s.component.cuts c.loop-i.i)) in
    let less : c.loop-i.i < length s.lists =
    omega (arith, c.loop-i-test.true, c.count-i-end.ensures, ap (λ (k : Component). length k.cuts) c.loop-i.invariant.0, ap (λ (k : Component). length k.cuts) (c.in_ok-frame.ensures {u = tt}), c.loop-i.invariant.1) in
    subst (λ (z : CutState). (z.component ≡ component_of c.args.graph.now c.args.blocks.now c.args.c) × (length z.lists ≡ length z.component.cuts) × AreFirstTo z.component block z.lists (c.loop-i.i + 1)) (sym c.set_first.ensures)
    (c.loop-i.invariant.0, length-set s.lists c.loop-i.i l ∙ c.loop-i.invariant.1, first-more s.component block s.lists c.loop-i.i c.loop-i.invariant.2 less)

pub invariant_of-cuts : goal.invariant_of-cuts
invariant_of-cuts c =
    let t = c.in_ok-orders.ensures {u = tt} in
    let l = c.in_ok-lists.ensures {u = tt} in
    let each : length c.deref.result.now ≡ length c.in_ok-frame.frame.cuts = ap length c.deref.ensures.value ∙ t.each in
    record {
      tables_each = t.each;
      lists_each = length-map c.in_ok-lists.lists.items (λ x. x.items) ∙ (l.each ∙ each);
      tables = t.tables;
      long = λ i less. l.long i (omega (arith, less, each)) ∙ ap length (ap (λ z. (tables_at z i).edges) c.deref.ensures.value ∙ (t.tables i less).edges);
    }
