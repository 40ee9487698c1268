use Rattle.std.proofs.Common.{◌≡◌, sym, ap, ◌∙◌, subst}
use Rattle.skel_embed.specs.Block.{BlockState}
use Rattle.skel_embed.specs.Taken.{IsTakeRefusal}
use Rattle.skel_embed.specs.declared.taking.TakeFault.{TakeFault}
use Rattle.whole_convert.proofs.Takes.{no-genus, block-connected}
use Rattle.whole_convert.proofs.leading.taken.Goals as goal

pub unreachable-requires-in-NotGenusZero : goal.unreachable-requires-in-NotGenusZero
unreachable-requires-in-NotGenusZero c =
    let part = c.args.part.now in
    let copy = c.in_ok-copy.copy in
    let same : part.graph ≡ copy.graph = c.requires.part ∙ sym (ap (λ (s : BlockState). s.graph) (c.in_ok-copy.ensures {u = tt})) in
    let refused = subst (λ (fault : TakeFault). IsTakeRefusal copy part c.args.lists.now fault) c.in-NotGenusZero.is (c.in-Err.ensures {u = tt}).refused.0 in
    no-genus part c.args.lists.now c.requires.given.0 c.in-NotGenusZero.field-0 c.in-NotGenusZero.field-1 c.in-NotGenusZero.field-2 c.requires.numbered (block-connected copy part.graph c.belongs.ensures same) c.requires.given.1 c.requires.given.2 refused
