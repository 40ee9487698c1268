use Rattle.std.proofs.Common.{◌<◌, length, [], ap, ◌∙◌, arith}
use Rattle.std.specs.Prelude.{slice_index_or}
use Rattle.std.proofs.lemmas.List.{get_or-set_same}
use Rattle.permutations.specs.Members.{place_of}
use Rattle.permutations.specs.Cyclic.{from_least}
use Rattle.permutations.proofs.Places.{place-below}
use Rattle.whole_embed.specs.Cuts.{CutState}
use Rattle.spqr_session.proofs.commands.regroup.arranged_at.Goals as goal

pub returns-in_ok-list-in-Ok : goal.returns-in_ok-list-in-Ok
returns-in_ok-list-in-Ok c =
    let cuts = c.args.cuts.now in
    let v = c.args.v in
    let within : place_of cuts.component.cuts v < length cuts.lists = omega (arith, place-below cuts.component.cuts v c.requires.vertex, c.keeps.ensures) in (
      c.in-Ok.ensures.arranged,
      c.in_ok-list-in-Ok.ensures {u = tt} ∙ (ap (λ (s : CutState). slice_index_or s.lists (place_of s.component.cuts v) []) c.in-Ok.ensures.set ∙ get_or-set_same cuts.lists (place_of cuts.component.cuts v) (from_least c.args.edges.now) [] within),
    )
