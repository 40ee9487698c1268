use Rattle.std.proofs.Common.{◌≡◌, ◌∙◌, map, sym, ap, subst}
use Rattle.std.proofs.lemmas.Result.{IfOk-weaker}
use Rattle.skel_embed.specs.Taken.{IsGiven}
use Rattle.whole_embed.specs.Cuts.{CutState, blocks_in}
use Rattle.whole_embed.specs.Whole.{whole_lists, whole_system}
use Rattle.whole_embed.proofs.Assembling.{whole_is_plane, whole_is_given}
use Rattle.whole_embed.proofs.wholes.whole.Goals as goal

pub returns-clause-lists : goal.returns-clause-lists
returns-clause-lists c =
    let block = blocks_in c.args.all.now in
    let here : whole_lists c.cuts.inside.frame block (map (λ l. l.items) c.deref.result.now) ≡ whole_lists c.args.cuts.now.component block c.args.cuts.now.lists =
    ap (λ l. whole_lists c.cuts.inside.frame block (map (λ x. x.items) l)) c.deref.ensures.value ∙ ap (λ (s : CutState). whole_lists s.component block s.lists) c.cuts.view_is in
    IfOk-weaker c.lists_around.result (λ whole. whole ≡ whole_lists c.cuts.inside.frame block (map (λ l. l.items) c.deref.result.now)) (λ whole. whole ≡ whole_lists c.args.cuts.now.component block c.args.cuts.now.lists)
    (λ x p. p ∙ here) c.lists_around.ensures

pub returns-clause-given : goal.returns-clause-given
returns-clause-given c =
    let block = blocks_in c.args.all.now in
    let k = c.args.cuts.now.component in
    let system = whole_system k block c.args.cuts.now.lists in
    let here : whole_lists c.cuts.inside.frame block (map (λ l. l.items) c.deref.result.now) ≡ whole_lists k block c.args.cuts.now.lists =
    ap (λ l. whole_lists c.cuts.inside.frame block (map (λ x. x.items) l)) c.deref.ensures.value ∙ ap (λ (s : CutState). whole_lists s.component block s.lists) c.cuts.view_is in
    let given : IsGiven k.part (whole_lists k block c.args.cuts.now.lists) system = whole_is_given k block c.args.cuts.now.lists c.requires.component c.requires.arranged in
    IfOk-weaker c.lists_around.result (λ whole. whole ≡ whole_lists c.cuts.inside.frame block (map (λ l. l.items) c.deref.result.now)) (λ whole. IsGiven k.part whole system)
    (λ x p. subst (λ z. IsGiven k.part z system) (sym (p ∙ here)) given) c.lists_around.ensures

pub returns-clause-plane : goal.returns-clause-plane
returns-clause-plane c = whole_is_plane c.args.cuts.now.component (blocks_in c.args.all.now) c.args.cuts.now.lists c.requires.component c.requires.arranged
