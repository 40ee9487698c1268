use Rattle.std.proofs.Common.{rules, ◌≡◌, ap, ◌∙◌, slice_index, subst, sym, ◌<◌, length}
use Rattle.permutations.specs.Members.{place_of}
use Rattle.permutations.proofs.Places.{place-below, place-holds}
use Rattle.arrangements.proofs.tables.Tables.place.Goals as goal

pub returns-clause-below : goal.returns-clause-below
returns-clause-below c = let e : c.unwrap.result ≡ place_of c.args.self.now.edges c.args.edge = search rules in subst (λ p. p < length c.args.self.now.edges) (sym e) (place-below c.args.self.now.edges c.args.edge c.requires)

pub returns-clause-holds : goal.returns-clause-holds
returns-clause-holds c = let e : c.unwrap.result ≡ place_of c.args.self.now.edges c.args.edge = search rules in ap (slice_index c.args.self.now.edges) e ∙ place-holds c.args.self.now.edges c.args.edge c.requires
