use Rattle.std.proofs.Common.{◌≡◌, true, false, List, ℕ, sym, subst}
use Rattle.permutations.specs.Members.{is_member}
use Rattle.multigraph.specs.Part.{Rises}
use Rattle.whole_embed.proofs.Searching.{found-place, missed-place}
use Rattle.spqr_session.proofs.commands.regroup.is_cut.Goals as goal

pub returns-in-Ok : goal.returns-in-Ok
returns-in-Ok c =
    let rise = subst Rises (sym c.cut_vertices.ensures) c.requires in
    sym (subst (λ (l : List ℕ). is_member c.args.v l ≡ true) c.cut_vertices.ensures (found-place c.cut_vertices.result.now c.args.v c.in-Ok.field-0 rise c.in-Ok.ensures.position).0)

pub returns-in-Err : goal.returns-in-Err
returns-in-Err c =
    let rise = subst Rises (sym c.cut_vertices.ensures) c.requires in
    sym (subst (λ (l : List ℕ). is_member c.args.v l ≡ false) c.cut_vertices.ensures (missed-place c.cut_vertices.result.now c.args.v c.in-Err.field-0 rise c.in-Err.ensures.position))
