use Rattle.std.proofs.Common.{◌≡◌, ◌<◌, ℕ, List, [], length, map, slice_index, slice_set, sym, ap, ◌∙◌, subst, arith}
use Rattle.std.proofs.lemmas.List.{get_or-map, length-map, map-set}
use Rattle.std.proofs.lemmas.List.Sorted.{length_permutation}
use Rattle.permutations.specs.Members.{place_of}
use Rattle.permutations.proofs.Places.{place-holds}
use Rattle.whole_embed.specs.Around.{edges_around}
use Rattle.whole_embed.specs.Cuts.{CutState, set_around}
use Rattle.whole_embed.specs.Keeping.{KeepsCuts}
use Rattle.whole_embed.proofs.CutLists.{lists-set}
use Rattle.whole_embed.proofs.cuts.set.Goals as goal

pub copy_to-requires : goal.copy_to-requires
copy_to-requires c =
    let less : c.place-i.result < length c.cuts.inside.frame.cuts = subst (λ (s : CutState). c.place-i.result < length s.component.cuts) (sym c.cuts.view_is) c.place-i.ensures.within in
    let at : slice_index c.args.cuts.now.component.cuts c.place-i.result ≡ c.args.v = ap (slice_index c.args.cuts.now.component.cuts) c.place-i.ensures.is ∙ place-holds c.args.cuts.now.component.cuts c.args.v c.requires.vertex in
    ap (λ l. length l.items) c.index_mut.ensures.value
    ∙ (sym (ap length (get_or-map (λ l. l.items) c.cuts.inside.lists.items c.place-i.result c.index_mut.result.now [] (omega (arith, less, c.cuts.invariant.lists_each, length-map c.cuts.inside.lists.items (λ l. l.items)))))
    ∙ (c.cuts.invariant.long c.place-i.result less
    ∙ (ap (λ (s : CutState). length (edges_around s.component (slice_index s.component.cuts c.place-i.result))) c.cuts.view_is
    ∙ (ap (λ (v : ℕ). length (edges_around c.args.cuts.now.component v)) at
    ∙ sym (length_permutation (edges_around c.args.cuts.now.component c.args.v) c.args.edges.now c.requires.edges.arranged)))))

pub invariant_of-cuts : goal.invariant_of-cuts
invariant_of-cuts c =
    let less : c.place-i.result < length c.cuts.inside.frame.cuts = subst (λ (s : CutState). c.place-i.result < length s.component.cuts) (sym c.cuts.view_is) c.place-i.ensures.within in
    let at : slice_index c.args.cuts.now.component.cuts c.place-i.result ≡ c.args.v = ap (slice_index c.args.cuts.now.component.cuts) c.place-i.ensures.is ∙ place-holds c.args.cuts.now.component.cuts c.args.v c.requires.vertex in
    let long : length c.copy_to.new.list.items ≡ length (edges_around c.cuts.inside.frame (slice_index c.cuts.inside.frame.cuts c.place-i.result)) =
    ap length c.copy_to.ensures
    ∙ (length_permutation (edges_around c.args.cuts.now.component c.args.v) c.args.edges.now c.requires.edges.arranged
    ∙ (sym (ap (λ (v : ℕ). length (edges_around c.args.cuts.now.component v)) at)
    ∙ sym (ap (λ (s : CutState). length (edges_around s.component (slice_index s.component.cuts c.place-i.result))) c.cuts.view_is))) in
    subst (KeepsCuts c.cuts.inside.frame c.cuts.inside.orders.items) (sym (map-set (λ l. l.items) c.cuts.inside.lists.items c.place-i.result c.copy_to.new.list))
    (lists-set c.cuts.inside.frame c.cuts.inside.orders.items (map (λ l. l.items) c.cuts.inside.lists.items) c.place-i.result c.copy_to.new.list.items c.cuts.invariant less long)

pub returns : goal.returns
returns c =
    let old : List (List ℕ) = map (λ l. l.items) c.cuts.inside.lists.items in
    let at : c.place-i.result ≡ place_of c.cuts.inside.frame.cuts c.args.v = c.place-i.ensures.is ∙ sym (ap (λ (s : CutState). place_of s.component.cuts c.args.v) c.cuts.view_is) in
    let state : List (List ℕ) → CutState = λ lists. record { component = c.cuts.inside.frame; lists = lists } in
    ap state (map-set (λ l. l.items) c.cuts.inside.lists.items c.place-i.result c.copy_to.new.list)
    ∙ (ap (λ (l : List ℕ). state (slice_set old c.place-i.result l)) c.copy_to.ensures
    ∙ (ap (λ (i : ℕ). state (slice_set old i c.args.edges.now)) at
    ∙ ap (λ (s : CutState). set_around s c.args.v c.args.edges.now) c.cuts.view_is))
