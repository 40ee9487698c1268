use Rattle.std.proofs.Common.{◌≡◌, ◌<◌, ℕ, List, [], length, map, slice_index, slice_index_or, slice_set, sym, ap, ◌∙◌, subst, arith}
use Rattle.std.proofs.lemmas.List.{get_or-map, length-map, get_or_default, map-set}
use Rattle.arrangements.specs.Arranged.{first_arrangement}
use Rattle.arrangements.specs.Tables.{VertexTables}
use Rattle.whole_embed.specs.Around.{edges_around, block_with, block_order}
use Rattle.whole_embed.specs.Cuts.{CutState, blocks_in}
use Rattle.whole_embed.specs.Keeping.{KeepsTables, KeepsCuts}
use Rattle.whole_embed.proofs.CutLists.{keeps-set, cut-among}
use Rattle.whole_embed.proofs.cuts.Cuts.set_first.Goals as goal

pub first_at-requires-clause-vertex : goal.first_at-requires-clause-vertex
first_at-requires-clause-vertex c =
    let less : c.args.i < length c.self.inside.frame.cuts = subst (λ (s : CutState). c.args.i < length s.component.cuts) (sym c.self.view_is) c.requires.within in
    cut-among c.self.inside.frame.cuts c.cuts.result.now c.args.i c.cuts.ensures.value less

pub first_at-requires-clause-tables : goal.first_at-requires-clause-tables
first_at-requires-clause-tables c =
    let less : c.args.i < length c.self.inside.frame.cuts = subst (λ (s : CutState). c.args.i < length s.component.cuts) (sym c.self.view_is) c.requires.within in
    let none : VertexTables = record { edges = []; ranks = []; followers = [] } in
    let read = c.index_mut.ensures.value ∙ get_or_default c.self.inside.orders.items c.args.i c.index_mut.result.now none (omega (arith, less, c.self.invariant.tables_each)) in
    subst (λ (l : List ℕ). KeepsTables c.self.inside.frame (slice_index_or l c.args.i 0) c.index_mut.result.now) (sym c.cuts.ensures.value)
    (subst (KeepsTables c.self.inside.frame (slice_index c.self.inside.frame.cuts c.args.i)) (sym read) (c.self.invariant.tables c.args.i less))

pub first_at-requires-clause-long : goal.first_at-requires-clause-long
first_at-requires-clause-long c =
    let less : c.args.i < length c.self.inside.frame.cuts = subst (λ (s : CutState). c.args.i < length s.component.cuts) (sym c.self.view_is) c.requires.within in
    ap (λ l. length l.items) c.index_mut-2.ensures.value
    ∙ (sym (ap length (get_or-map (λ l. l.items) c.self.inside.lists.items c.args.i c.index_mut-2.result.now [] (omega (arith, less, c.self.invariant.lists_each, length-map c.self.inside.lists.items (λ l. l.items)))))
    ∙ (c.self.invariant.long c.args.i less
    ∙ sym (ap (λ (l : List ℕ). length (edges_around c.self.inside.frame (slice_index_or l c.args.i 0))) c.cuts.ensures.value)))

pub invariant_of-self : goal.invariant_of-self
invariant_of-self c =
    let less : c.args.i < length c.self.inside.frame.cuts = subst (λ (s : CutState). c.args.i < length s.component.cuts) (sym c.self.view_is) c.requires.within in
    let kept : KeepsTables c.self.inside.frame (slice_index c.self.inside.frame.cuts c.args.i) c.first_at.new.orders =
    subst (λ (l : List ℕ). KeepsTables c.self.inside.frame (slice_index_or l c.args.i 0) c.first_at.new.orders) c.cuts.ensures.value c.first_at.ensures.tables in
    let long : length c.first_at.new.list.items ≡ length (edges_around c.self.inside.frame (slice_index c.self.inside.frame.cuts c.args.i)) =
    c.first_at.ensures.long
    ∙ (ap (λ l. length l.items) c.index_mut-2.ensures.value
    ∙ (sym (ap length (get_or-map (λ l. l.items) c.self.inside.lists.items c.args.i c.index_mut-2.result.now [] (omega (arith, less, c.self.invariant.lists_each, length-map c.self.inside.lists.items (λ l. l.items)))))
    ∙ c.self.invariant.long c.args.i less)) in
    subst (KeepsCuts c.self.inside.frame (slice_set c.self.inside.orders.items c.args.i c.first_at.new.orders)) (sym (map-set (λ l. l.items) c.self.inside.lists.items c.args.i c.first_at.new.list))
    (keeps-set c.self.inside.frame c.self.inside.orders.items (map (λ l. l.items) c.self.inside.lists.items) c.args.i c.first_at.new.orders c.first_at.new.list.items c.self.invariant less kept long)

pub returns : goal.returns
returns c =
    let k = c.self.inside.frame in
    let old : List (List ℕ) = map (λ l. l.items) c.self.inside.lists.items in
    let state : List (List ℕ) → CutState = λ lists. record { component = c.self.inside.frame; lists = lists } in
    ap state (map-set (λ l. l.items) c.self.inside.lists.items c.args.i c.first_at.new.list)
    ∙ (ap (λ (l : List ℕ). state (slice_set old c.args.i l)) c.first_at.ensures.first
    ∙ (ap (λ (l : List ℕ). state (slice_set old c.args.i (first_arrangement (block_with k) (block_order (blocks_in c.args.all.now) (slice_index_or l c.args.i 0)) (edges_around k (slice_index_or l c.args.i 0))))) c.cuts.ensures.value
    ∙ ap (λ (s : CutState). record s { lists = slice_set s.lists c.args.i (first_arrangement (block_with s.component) (block_order (blocks_in c.args.all.now) (slice_index s.component.cuts c.args.i)) (edges_around s.component (slice_index s.component.cuts c.args.i))) }) c.self.view_is))
