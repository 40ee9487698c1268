use Rattle.std.proofs.Common.{◌≡◌, ◌<◌, ℕ, true, List, [], length, map, slice_index, slice_set, sym, ap, ◌∙◌, subst, arith, Contains}
use Rattle.std.proofs.lemmas.List.{get_or_default, map-set}
use Rattle.permutations.specs.Members.{is_member, place_of}
use Rattle.permutations.specs.Cyclic.{from_least}
use Rattle.permutations.proofs.Places.{place-holds}
use Rattle.arrangements.specs.Tables.{VertexTables}
use Rattle.whole_embed.specs.Component.{IsComponentInPlane}
use Rattle.whole_embed.specs.Around.{edges_around, arrangements_around}
use Rattle.whole_embed.specs.Cuts.{CutState, blocks_in, set_around}
use Rattle.whole_embed.specs.Keeping.{KeepsTables, KeepsCuts}
use Rattle.whole_embed.proofs.CutLists.{orders-set, keeps-set}
use Rattle.whole_embed.proofs.Reasons.{arranged-length}
use Rattle.whole_embed.proofs.regrouping.regroup.Goals as goal

pub arrange_at-requires-clause-tables : goal.arrange_at-requires-clause-tables
arrange_at-requires-clause-tables c =
    let i = c.place-i.result in
    let less : c.place-i.result < length c.cuts.inside.frame.cuts = subst (λ (s : CutState). c.place-i.result < length s.component.cuts) (sym c.cuts.view_is) c.place-i.ensures.within in
    let at : slice_index c.cuts.inside.frame.cuts c.place-i.result ≡ c.args.v =
    ap (λ (s : CutState). slice_index s.component.cuts c.place-i.result) c.cuts.view_is ∙ (ap (slice_index c.args.cuts.now.component.cuts) c.place-i.ensures.is ∙ place-holds c.args.cuts.now.component.cuts c.args.v c.requires.vertex) in
    let none : VertexTables = record { edges = []; ranks = []; followers = [] } in
    let read = c.index_mut.ensures.value ∙ get_or_default c.cuts.inside.orders.items i c.index_mut.result.now none (omega (arith, less, c.cuts.invariant.tables_each)) in
    subst (λ (z : ℕ). KeepsTables c.cuts.inside.frame z c.index_mut.result.now) at
    (subst (KeepsTables c.cuts.inside.frame (slice_index c.cuts.inside.frame.cuts i)) (sym read) (c.cuts.invariant.tables i less))

pub invariant_of-cuts : goal.invariant_of-cuts
invariant_of-cuts c =
    let i = c.place-i.result in
    let less : c.place-i.result < length c.cuts.inside.frame.cuts = subst (λ (s : CutState). c.place-i.result < length s.component.cuts) (sym c.cuts.view_is) c.place-i.ensures.within in
    let at : slice_index c.cuts.inside.frame.cuts c.place-i.result ≡ c.args.v =
    ap (λ (s : CutState). slice_index s.component.cuts c.place-i.result) c.cuts.view_is ∙ (ap (slice_index c.args.cuts.now.component.cuts) c.place-i.ensures.is ∙ place-holds c.args.cuts.now.component.cuts c.args.v c.requires.vertex) in
    let kept : KeepsTables c.cuts.inside.frame (slice_index c.cuts.inside.frame.cuts i) c.arrange_at.new.orders = subst (λ (z : ℕ). KeepsTables c.cuts.inside.frame z c.arrange_at.new.orders) (sym at) c.arrange_at.ensures.tables in
    orders-set c.cuts.inside.frame c.cuts.inside.orders.items (map (λ l. l.items) c.cuts.inside.lists.items) i c.arrange_at.new.orders c.cuts.invariant less kept

pub invariant_of-cuts-2 : goal.invariant_of-cuts-2
invariant_of-cuts-2 c =
    let i = c.place-i.result in
    let less : c.place-i.result < length c.cuts.inside.frame.cuts = subst (λ (s : CutState). c.place-i.result < length s.component.cuts) (sym c.cuts.view_is) c.place-i.ensures.within in
    let at : slice_index c.cuts.inside.frame.cuts c.place-i.result ≡ c.args.v =
    ap (λ (s : CutState). slice_index s.component.cuts c.place-i.result) c.cuts.view_is ∙ (ap (slice_index c.args.cuts.now.component.cuts) c.place-i.ensures.is ∙ place-holds c.args.cuts.now.component.cuts c.args.v c.requires.vertex) in
    let kept : KeepsTables c.cuts.inside.frame (slice_index c.cuts.inside.frame.cuts i) c.arrange_at.new.orders = subst (λ (z : ℕ). KeepsTables c.cuts.inside.frame z c.arrange_at.new.orders) (sym at) c.arrange_at.ensures.tables in
    let block = blocks_in c.args.all.now in
    let k = c.cuts.inside.frame in
    let plane : IsComponentInPlane k block = subst (λ (s : CutState). IsComponentInPlane s.component block) (sym c.cuts.view_is) c.requires.component in
    let within : is_member c.args.v k.cuts ≡ true = subst (λ (s : CutState). is_member c.args.v s.component.cuts ≡ true) (sym c.cuts.view_is) c.requires.vertex in
    let long : length c.in_ok-list.list.items ≡ length (edges_around k (slice_index k.cuts i)) =
    arranged-length k block c.args.v c.in_ok-list.list.items plane within (c.in_ok-list.ensures {u = tt}).arranged ∙ sym (ap (λ (z : ℕ). length (edges_around k z)) at) in
    subst (KeepsCuts k (slice_set c.cuts.inside.orders.items i c.arrange_at.new.orders)) (sym (map-set (λ l. l.items) c.cuts.inside.lists.items i c.in_ok-list.list))
    (keeps-set k c.cuts.inside.orders.items (map (λ l. l.items) c.cuts.inside.lists.items) i c.arrange_at.new.orders c.in_ok-list.list.items c.cuts.invariant less kept long)

pub returns-clause-arranged : goal.returns-clause-arranged
returns-clause-arranged c =
    let block = blocks_in c.args.all.now in
    subst (λ (s : CutState). Contains (arrangements_around s.component block c.args.v) (from_least c.args.edges.now)) c.cuts.view_is
    (subst (Contains (arrangements_around c.cuts.inside.frame block c.args.v)) (c.in_ok-list.ensures {u = tt}).list (c.in_ok-list.ensures {u = tt}).arranged)

pub returns-clause-set : goal.returns-clause-set
returns-clause-set c =
    let old : List (List ℕ) = map (λ l. l.items) c.cuts.inside.lists.items in
    let at : c.place-i.result ≡ place_of c.cuts.inside.frame.cuts c.args.v = c.place-i.ensures.is ∙ sym (ap (λ (s : CutState). place_of s.component.cuts c.args.v) c.cuts.view_is) in
    let state : List (List ℕ) → CutState = λ lists. record { component = c.cuts.inside.frame; lists = lists } in
    ap state (map-set (λ l. l.items) c.cuts.inside.lists.items c.place-i.result c.in_ok-list.list)
    ∙ (ap (λ (l : List ℕ). state (slice_set old c.place-i.result l)) (c.in_ok-list.ensures {u = tt}).list
    ∙ (ap (λ (i : ℕ). state (slice_set old i (from_least c.args.edges.now))) at
    ∙ ap (λ (s : CutState). set_around s c.args.v (from_least c.args.edges.now)) c.cuts.view_is))
