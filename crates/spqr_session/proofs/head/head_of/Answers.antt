use Rattle.spqr_session.proofs.head.head_of.Goals as goal

pub push_blocks-requires : goal.push_blocks-requires
push_blocks-requires c = (c.args.named.now.graph, c.requires)
