use Rattle.whole_embed.proofs.Assembling.{component_is_part}
use Rattle.whole_embed.proofs.laws.component_is_part.Goals as goal

pub returns : goal.returns
returns c = component_is_part
