use Rattle.std.proofs.Common.{◌≡◌, ◌<◌, ◌+◌, ℕ, List, [], length, map, slice_index, slice_index_or, slice_set, sym, ap, ◌∙◌, subst, arith, Contains}
use Rattle.std.proofs.lemmas.List.{get_or-map, length-map, get_or_default, map-set, set-get_or}
use Rattle.choice_lists.specs.Order.{IsAt}
use Rattle.choice_lists.specs.Products.{IsLast}
use Rattle.arrangements.specs.Tables.{VertexTables}
use Rattle.whole_embed.specs.Around.{edges_around, arrangements_around}
use Rattle.whole_embed.specs.Cuts.{CutState, blocks_in}
use Rattle.whole_embed.specs.Keeping.{KeepsTables, KeepsCuts}
use Rattle.whole_embed.proofs.CutLists.{keeps-set, cut-among}
use Rattle.whole_embed.proofs.cuts.Cuts.set_next.Goals as goal

pub next_at-requires-clause-vertex : goal.next_at-requires-clause-vertex
next_at-requires-clause-vertex c =
    let less : c.args.i < length c.self.inside.frame.cuts = subst (λ (s : CutState). c.args.i < length s.component.cuts) (sym c.self.view_is) c.requires.within in
    cut-among c.self.inside.frame.cuts c.cuts.result.now c.args.i c.cuts.ensures.value less

pub next_at-requires-clause-tables : goal.next_at-requires-clause-tables
next_at-requires-clause-tables c =
    let less : c.args.i < length c.self.inside.frame.cuts = subst (λ (s : CutState). c.args.i < length s.component.cuts) (sym c.self.view_is) c.requires.within in
    let none : VertexTables = record { edges = []; ranks = []; followers = [] } in
    let read = c.index_mut.ensures.value ∙ get_or_default c.self.inside.orders.items c.args.i c.index_mut.result.now none (omega (arith, less, c.self.invariant.tables_each)) in
    subst (λ (l : List ℕ). KeepsTables c.self.inside.frame (slice_index_or l c.args.i 0) c.index_mut.result.now) (sym c.cuts.ensures.value)
    (subst (KeepsTables c.self.inside.frame (slice_index c.self.inside.frame.cuts c.args.i)) (sym read) (c.self.invariant.tables c.args.i less))

pub next_at-requires-clause-arranged : goal.next_at-requires-clause-arranged
next_at-requires-clause-arranged c =
    let block = blocks_in c.args.all.now in
    let less : c.args.i < length c.self.inside.frame.cuts = subst (λ (s : CutState). c.args.i < length s.component.cuts) (sym c.self.view_is) c.requires.within in
    let read : c.index_mut-2.result.now.items ≡ slice_index_or (map (λ l. l.items) c.self.inside.lists.items) c.args.i [] =
    ap (λ l. l.items) c.index_mut-2.ensures.value ∙ sym (get_or-map (λ l. l.items) c.self.inside.lists.items c.args.i c.index_mut-2.result.now [] (omega (arith, less, c.self.invariant.lists_each, length-map c.self.inside.lists.items (λ l. l.items)))) in
    subst (λ (l : List ℕ). Contains (arrangements_around c.self.inside.frame block (slice_index_or l c.args.i 0)) c.index_mut-2.result.now.items) (sym c.cuts.ensures.value)
    (subst (Contains (arrangements_around c.self.inside.frame block (slice_index c.self.inside.frame.cuts c.args.i))) (sym read)
    (subst (λ (s : CutState). Contains (arrangements_around s.component block (slice_index s.component.cuts c.args.i)) (slice_index_or s.lists c.args.i [])) (sym c.self.view_is) c.requires.arranged))

pub invariant_of-self : goal.invariant_of-self
invariant_of-self c =
    let less : c.args.i < length c.self.inside.frame.cuts = subst (λ (s : CutState). c.args.i < length s.component.cuts) (sym c.self.view_is) c.requires.within in
    let kept : KeepsTables c.self.inside.frame (slice_index c.self.inside.frame.cuts c.args.i) c.next_at.new.orders =
    subst (λ (l : List ℕ). KeepsTables c.self.inside.frame (slice_index_or l c.args.i 0) c.next_at.new.orders) c.cuts.ensures.value c.next_at.ensures.tables in
    let long : length c.next_at.new.list.items ≡ length (edges_around c.self.inside.frame (slice_index c.self.inside.frame.cuts c.args.i)) =
    c.next_at.ensures.long
    ∙ (ap (λ l. length l.items) c.index_mut-2.ensures.value
    ∙ (sym (ap length (get_or-map (λ l. l.items) c.self.inside.lists.items c.args.i c.index_mut-2.result.now [] (omega (arith, less, c.self.invariant.lists_each, length-map c.self.inside.lists.items (λ l. l.items)))))
    ∙ c.self.invariant.long c.args.i less)) in
    subst (KeepsCuts c.self.inside.frame (slice_set c.self.inside.orders.items c.args.i c.next_at.new.orders)) (sym (map-set (λ l. l.items) c.self.inside.lists.items c.args.i c.next_at.new.list))
    (keeps-set c.self.inside.frame c.self.inside.orders.items (map (λ l. l.items) c.self.inside.lists.items) c.args.i c.next_at.new.orders c.next_at.new.list.items c.self.invariant less kept long)

pub returns-clause-next : goal.returns-clause-next
returns-clause-next c t =
    let block = blocks_in c.args.all.now in
    let less : c.args.i < length c.self.inside.frame.cuts = subst (λ (s : CutState). c.args.i < length s.component.cuts) (sym c.self.view_is) c.requires.within in
    let read : c.index_mut-2.result.now.items ≡ slice_index_or (map (λ l. l.items) c.self.inside.lists.items) c.args.i [] =
    ap (λ l. l.items) c.index_mut-2.ensures.value ∙ sym (get_or-map (λ l. l.items) c.self.inside.lists.items c.args.i c.index_mut-2.result.now [] (omega (arith, less, c.self.invariant.lists_each, length-map c.self.inside.lists.items (λ l. l.items)))) in
    let state : List (List ℕ) → CutState = λ lists. record { component = c.self.inside.frame; lists = lists } in (
      c.next_at.new.list.items,
      ap state (map-set (λ l. l.items) c.self.inside.lists.items c.args.i c.next_at.new.list)
          ∙ ap (λ (s : CutState). record s { lists = slice_set s.lists c.args.i c.next_at.new.list.items }) c.self.view_is,
      λ j at.
          let inside : IsAt (arrangements_around c.self.inside.frame block (slice_index c.self.inside.frame.cuts c.args.i)) j (slice_index_or (map (λ l. l.items) c.self.inside.lists.items) c.args.i []) =
          subst (λ (s : CutState). IsAt (arrangements_around s.component block (slice_index s.component.cuts c.args.i)) j (slice_index_or s.lists c.args.i [])) (sym c.self.view_is) at in
          let before : IsAt (arrangements_around c.self.inside.frame block (slice_index_or c.cuts.result.now c.args.i 0)) j c.index_mut-2.result.now.items =
          subst (λ (l : List ℕ). IsAt (arrangements_around c.self.inside.frame block (slice_index_or l c.args.i 0)) j c.index_mut-2.result.now.items) (sym c.cuts.ensures.value)
          (subst (IsAt (arrangements_around c.self.inside.frame block (slice_index c.self.inside.frame.cuts c.args.i)) j) (sym read) inside) in
          subst (λ (s : CutState). IsAt (arrangements_around s.component block (slice_index s.component.cuts c.args.i)) (j + 1) c.next_at.new.list.items) c.self.view_is
          (subst (λ (l : List ℕ). IsAt (arrangements_around c.self.inside.frame block (slice_index_or l c.args.i 0)) (j + 1) c.next_at.new.list.items) c.cuts.ensures.value (c.next_at.ensures.next t j before)),
    )

pub returns-clause-last : goal.returns-clause-last
returns-clause-last c f =
    let block = blocks_in c.args.all.now in
    let less : c.args.i < length c.self.inside.frame.cuts = subst (λ (s : CutState). c.args.i < length s.component.cuts) (sym c.self.view_is) c.requires.within in
    let read : c.index_mut-2.result.now.items ≡ slice_index_or (map (λ l. l.items) c.self.inside.lists.items) c.args.i [] =
    ap (λ l. l.items) c.index_mut-2.ensures.value ∙ sym (get_or-map (λ l. l.items) c.self.inside.lists.items c.args.i c.index_mut-2.result.now [] (omega (arith, less, c.self.invariant.lists_each, length-map c.self.inside.lists.items (λ l. l.items)))) in
    subst (λ (s : CutState). IsLast (arrangements_around s.component block (slice_index s.component.cuts c.args.i)) (slice_index_or s.lists c.args.i [])) c.self.view_is
    (subst (IsLast (arrangements_around c.self.inside.frame block (slice_index c.self.inside.frame.cuts c.args.i))) read
    (subst (λ (l : List ℕ). IsLast (arrangements_around c.self.inside.frame block (slice_index_or l c.args.i 0)) c.index_mut-2.result.now.items) c.cuts.ensures.value (c.next_at.ensures.last f)))

pub returns-clause-as_before : goal.returns-clause-as_before
returns-clause-as_before c f =
    let less : c.args.i < length c.self.inside.frame.cuts = subst (λ (s : CutState). c.args.i < length s.component.cuts) (sym c.self.view_is) c.requires.within in
    let read : c.index_mut-2.result.now.items ≡ slice_index_or (map (λ l. l.items) c.self.inside.lists.items) c.args.i [] =
    ap (λ l. l.items) c.index_mut-2.ensures.value ∙ sym (get_or-map (λ l. l.items) c.self.inside.lists.items c.args.i c.index_mut-2.result.now [] (omega (arith, less, c.self.invariant.lists_each, length-map c.self.inside.lists.items (λ l. l.items)))) in
    let old : List (List ℕ) = map (λ l. l.items) c.self.inside.lists.items in
    let state : List (List ℕ) → CutState = λ lists. record { component = c.self.inside.frame; lists = lists } in
    ap state (map-set (λ l. l.items) c.self.inside.lists.items c.args.i c.next_at.new.list)
    ∙ (ap (λ (l : List ℕ). state (slice_set old c.args.i l)) (c.next_at.ensures.as_before f ∙ read)
    ∙ (ap state (set-get_or old c.args.i []) ∙ c.self.view_is))
