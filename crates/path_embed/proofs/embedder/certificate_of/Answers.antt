use Rattle.std.proofs.Common.{Option, IfSome, subst}
use Rattle.path_embed.specs.Found.{IsFound}
use Rattle.path_embed.specs.declared.rest.Found.{Found}
use Rattle.path_embed.proofs.embedder.certificate_of.Goals as goal

pub certificate-requires : goal.certificate-requires
certificate-requires c = subst (λ (z : Option Found). IfSome z (IsFound c.args.g.now)) c.in-Some.is c.requires.rest
