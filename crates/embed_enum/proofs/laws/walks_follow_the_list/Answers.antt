use Rattle.embed_enum.proofs.Places.{nexts-follow}
use Rattle.embed_enum.proofs.laws.walks_follow_the_list.Goals as goal

pub returns : goal.returns
returns c = nexts-follow
