use Rattle.std.proofs.Common.{◌≡◌, true, List, MatchOption, Contains, sym, subst}
use Rattle.std.specs.Prelude.{⊤}
use Rattle.permutations.specs.Members.{is_member, place_of}
use Rattle.permutations.specs.Cyclic.{from_least}
use Rattle.whole_embed.specs.declared.members.Member.{Member}
use Rattle.whole_embed.specs.Around.{arrangements_around}
use Rattle.whole_embed.specs.Cuts.{CutState, blocks_in}
use Rattle.embed_tests.specs.Wholes.{AreReady}
use Rattle.embed_tests.proofs.Ready.{ready-set}
use Rattle.embed_tests.proofs.whole_graphs.Walk.regroup.Goals as goal

pub invariant_of-self-in-Some : goal.invariant_of-self-in-Some
invariant_of-self-in-Some c =
    let cuts = c.self.inside.cuts in
    let all = c.self.inside.all.items in
    let l = from_least c.args.edges.now in
    let told = subst (λ r. MatchOption r ⊤ (λ i. (is_member c.args.v cuts.component.cuts ≡ true) × (i ≡ place_of cuts.component.cuts c.args.v))) c.in-Some.is c.place_in.ensures in
    let made = c.in_ok-regroup-in-Some.ensures {u = tt} in
    let arranged = subst (λ (b : List Member). Contains (arrangements_around cuts.component (blocks_in b) c.args.v) l) c.deref.ensures.value made.arranged in
    subst (λ (s : CutState). AreReady s all) (sym made.set) (ready-set cuts all c.args.v l c.self.invariant told.0 arranged)
