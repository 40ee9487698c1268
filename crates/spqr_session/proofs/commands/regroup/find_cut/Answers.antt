use Rattle.std.proofs.Common.{◌≡◌, true, false, List, ℕ, sym, ap, ◌∙◌, subst}
use Rattle.permutations.specs.Members.{is_member, place_of}
use Rattle.multigraph.specs.Part.{Rises}
use Rattle.whole_embed.specs.Component.{Component}
use Rattle.whole_embed.proofs.Searching.{found-place, missed-place}
use Rattle.spqr_session.proofs.commands.regroup.find_cut.Goals as goal

pub returns-in-Ok : goal.returns-in-Ok
returns-in-Ok c =
    let e : c.cuts.result.now ≡ c.args.cuts.now.component.cuts = c.cuts.ensures.value ∙ ap (λ (k : Component). k.cuts) c.frame.ensures.value in
    let rise : Rises c.cuts.result.now = subst Rises (sym c.cuts.ensures.value) c.cuts.ensures.frame.cuts_rise in
    subst (λ (l : List ℕ). (is_member c.args.v l ≡ true) × (c.in-Ok.i ≡ place_of l c.args.v)) e (found-place c.cuts.result.now c.args.v c.in-Ok.i rise c.in-Ok.ensures.position)

pub returns-in-Err : goal.returns-in-Err
returns-in-Err c =
    let e : c.cuts.result.now ≡ c.args.cuts.now.component.cuts = c.cuts.ensures.value ∙ ap (λ (k : Component). k.cuts) c.frame.ensures.value in
    let rise : Rises c.cuts.result.now = subst Rises (sym c.cuts.ensures.value) c.cuts.ensures.frame.cuts_rise in
    subst (λ (l : List ℕ). is_member c.args.v l ≡ false) e (missed-place c.cuts.result.now c.args.v c.in-Err.field-0 rise c.in-Err.ensures.position)
