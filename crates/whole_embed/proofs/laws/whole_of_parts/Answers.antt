use Rattle.whole_embed.proofs.Assembling.{whole_is_plane, whole_is_given, whole_has_parts, whole_has_arrangements}
use Rattle.whole_embed.proofs.laws.whole_of_parts.Goals as goal

pub returns : goal.returns
returns c = record {
  plane = whole_is_plane;
  given = whole_is_given;
  parts = whole_has_parts;
  arrangements = whole_has_arrangements;
}
