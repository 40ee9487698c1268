use Rattle.std.proofs.lemmas.Bool.{both_ways}
use Rattle.permutations.specs.Members.{is_member}
use Rattle.permutations.proofs.Arrangements.{member-from_contains}
use Rattle.whole_embed.proofs.Searching.{missed-place}
use Rattle.whole_embed.proofs.numbering.place_in.Goals as goal

pub unreachable-requires : goal.unreachable-requires
unreachable-requires c = both_ways (is_member c.args.x c.args.list.now)
    (missed-place c.args.list.now c.args.x c.in-Err.field-0 c.requires.rises c.in-Err.ensures.position)
    (member-from_contains c.args.list.now c.args.x c.requires.has)
