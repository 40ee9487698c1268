use Rattle.whole_embed.proofs.ListExists.{list_exists, list_is_unique, whole_has_rank}
use Rattle.whole_embed.proofs.OfParts.{member_is_of_parts}
use Rattle.whole_embed.proofs.list_laws.one_list.Goals as goal

pub returns : goal.returns
returns c = record { exists = list_exists; unique = list_is_unique; present = whole_has_rank; of_parts = member_is_of_parts }
