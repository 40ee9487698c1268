use Rattle.std.proofs.Common.{◌≡◌, true, ℕ, List, [], length, slice_index_or, MatchOption, Contains, sym, ap, ◌∙◌, subst, arith}
use Rattle.std.specs.Prelude.{⊤}
use Rattle.permutations.specs.Members.{is_member, place_of}
use Rattle.permutations.specs.Cyclic.{from_least}
use Rattle.permutations.proofs.Places.{place-below}
use Rattle.rotations.specs.Rotation.{IsCyclicOrder}
use Rattle.whole_embed.specs.declared.members.Member.{Member}
use Rattle.whole_embed.specs.Component.{Component}
use Rattle.whole_embed.specs.Around.{edges_around, arrangements_around}
use Rattle.whole_embed.specs.Cuts.{CutState, blocks_in, set_around}
use Rattle.embed_tests.specs.Wholes.{AreReady}
use Rattle.embed_tests.proofs.Ready.{ready-set, set-list, arrangement-cyclic}
use Rattle.embed_tests.proofs.whole_graphs.Walk.set.Goals as goal

pub list-requires : goal.list-requires
list-requires c =
    let cuts = c.self.inside.cuts in
    let told = subst (λ r. MatchOption r ⊤ (λ i. (is_member c.args.v cuts.component.cuts ≡ true) × (i ≡ place_of cuts.component.cuts c.args.v))) c.in-Some.is c.place_in.ensures in
    let made = c.in_ok-regroup-in-Some.ensures {u = tt} in
    let same : c.regroup.new.cuts.component ≡ cuts.component = ap (λ (s : CutState). s.component) made.set ∙ ap (λ (s : CutState). s.component) (c.in_ok-other-in-Some.ensures {u = tt}) in
    omega (arith, told.1, place-below cuts.component.cuts c.args.v told.0, ap (λ (k : Component). length k.cuts) same)

pub set-requires-clause-edges : goal.set-requires-clause-edges
set-requires-clause-edges c =
    let cuts = c.self.inside.cuts in
    let all = c.self.inside.all.items in
    let l = from_least c.args.edges.now in
    let told = subst (λ r. MatchOption r ⊤ (λ i. (is_member c.args.v cuts.component.cuts ≡ true) × (i ≡ place_of cuts.component.cuts c.args.v))) c.in-Some.is c.place_in.ensures in
    let made = c.in_ok-regroup-in-Some.ensures {u = tt} in
    let copied = c.in_ok-other-in-Some.ensures {u = tt} in
    let whole : c.regroup.new.cuts ≡ set_around cuts c.args.v l = made.set ∙ ap (λ (s : CutState). set_around s c.args.v l) copied in
    let is : c.list.result.now ≡ l = c.list.ensures ∙ (ap (λ (s : CutState). slice_index_or s.lists c.in-Some.i []) whole ∙ set-list cuts all c.args.v c.in-Some.i l c.self.invariant told.0 told.1) in
    let arranged = subst (λ (s : CutState). Contains (arrangements_around s.component (blocks_in all) c.args.v) l) copied
    (subst (λ (b : List Member). Contains (arrangements_around c.in_ok-other-in-Some.other.component (blocks_in b) c.args.v) l) c.deref.ensures.value made.arranged) in
    subst (IsCyclicOrder (edges_around cuts.component c.args.v)) (sym is) (arrangement-cyclic cuts all c.args.v l c.self.invariant told.0 arranged)

pub invariant_of-self : goal.invariant_of-self
invariant_of-self c =
    let cuts = c.self.inside.cuts in
    let all = c.self.inside.all.items in
    let l = from_least c.args.edges.now in
    let told = subst (λ r. MatchOption r ⊤ (λ i. (is_member c.args.v cuts.component.cuts ≡ true) × (i ≡ place_of cuts.component.cuts c.args.v))) c.in-Some.is c.place_in.ensures in
    let made = c.in_ok-regroup-in-Some.ensures {u = tt} in
    let copied = c.in_ok-other-in-Some.ensures {u = tt} in
    let whole : c.regroup.new.cuts ≡ set_around cuts c.args.v l = made.set ∙ ap (λ (s : CutState). set_around s c.args.v l) copied in
    let is : c.list.result.now ≡ l = c.list.ensures ∙ (ap (λ (s : CutState). slice_index_or s.lists c.in-Some.i []) whole ∙ set-list cuts all c.args.v c.in-Some.i l c.self.invariant told.0 told.1) in
    let arranged = subst (λ (s : CutState). Contains (arrangements_around s.component (blocks_in all) c.args.v) l) copied
    (subst (λ (b : List Member). Contains (arrangements_around c.in_ok-other-in-Some.other.component (blocks_in b) c.args.v) l) c.deref.ensures.value made.arranged) in
    subst (λ (s : CutState). AreReady s all) (sym (c.set.ensures ∙ ap (λ (x : List ℕ). set_around cuts c.args.v x) is)) (ready-set cuts all c.args.v l c.self.invariant told.0 arranged)
