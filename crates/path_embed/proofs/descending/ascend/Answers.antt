use Rattle.std.proofs.Common.{◌≡◌, [], List, sym, subst, arith}
use Rattle.std.proofs.lemmas.List.{nil_from_length}
use Rattle.multigraph.specs.Graph.{Multigraph}
use Rattle.kuratowski.specs.Subdivision.{IsWritten}
use Rattle.path_embed.specs.Chain.{IsChain}
use Rattle.path_embed.specs.declared.descending.Level.{Level}
use Rattle.path_embed.proofs.Chain.{chain-level, chain-before}
use Rattle.path_embed.proofs.descending.ascend.Goals as goal

pub up-init : goal.up-init
up-init c = (c.args.descent.bottom, c.requires.chain, c.requires.written)

pub carried_from-requires-clause-obstacle : goal.carried_from-requires-clause-obstacle
carried_from-requires-clause-obstacle c =
    (chain-level c.args.g.now c.pop.new.self.items c.in-Some.level c.up.invariant.0 (subst (λ (l : List Level). IsChain c.args.g.now l c.up.invariant.0) c.in-Some.ensures.items c.up.invariant.1)).0

pub carried_from-requires-clause-written : goal.carried_from-requires-clause-written
carried_from-requires-clause-written c =
    let last = chain-level c.args.g.now c.pop.new.self.items c.in-Some.level c.up.invariant.0 (subst (λ (l : List Level). IsChain c.args.g.now l c.up.invariant.0) c.in-Some.ensures.items c.up.invariant.1) in
    subst (λ (h : Multigraph). IsWritten h c.up.known.kind c.up.known.branch c.up.known.paths) (sym last.1) c.up.invariant.2

pub up-preserved : goal.up-preserved
up-preserved c = (
  c.in-Some.level.outer,
  chain-before c.args.g.now c.pop.new.self.items c.in-Some.level c.up.invariant.0 (subst (λ (l : List Level). IsChain c.args.g.now l c.up.invariant.0) c.in-Some.ensures.items c.up.invariant.1),
  c.in_ok-known.ensures,
)

pub returns : goal.returns
returns c =
    let cases = c.in_default.ensures.cases in
    let none : c.up.levels.items ≡ [] = nil_from_length c.up.levels.items (omega arith) in
    let same : c.args.g.now ≡ c.up.invariant.0 = subst (λ (l : List Level). IsChain c.args.g.now l c.up.invariant.0) none c.up.invariant.1 in
    subst (λ (h : Multigraph). IsWritten h c.up.known.kind c.up.known.branch c.up.known.paths) (sym same) c.up.invariant.2
