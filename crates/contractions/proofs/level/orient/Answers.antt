use Rattle.std.proofs.Common.{ℕ, sym, ◌∙◌, subst, ◌≡◌, true, false}
use Rattle.permutations.specs.Count.{some}
use Rattle.multigraph.specs.Graph.{edge_count}
use Rattle.contractions.specs.Contraction.{is_private}
use Rattle.contractions.specs.Level.{IsOriented}
use Rattle.contractions.proofs.Naming.{named-first, named-second}
use Rattle.contractions.proofs.level.orient.Goals as goal

pub returns : goal.returns
returns c =
    let g = c.args.g.now in
    let e = c.args.edge in
    subst (λ (p : ℕ × ℕ). IsOriented g e p.1 p.0) (sym c.ends-first.ensures.value)
    (named-second g e c.ends-first.ensures.graph c.requires.triconnected c.requires.five c.requires.edge_in c.requires.contractible
    (subst (λ (p : ℕ × ℕ). some (edge_count g) (is_private g e p.0 p.1) ≡ false) c.ends-first.ensures.value (sym c.has_private.ensures ∙ c.if-has_private.false)))

pub returns-then-has_private : goal.returns-then-has_private
returns-then-has_private c =
    let g = c.args.g.now in
    let e = c.args.edge in
    subst (λ (p : ℕ × ℕ). IsOriented g e p.0 p.1) (sym c.ends-first.ensures.value)
    (named-first g e c.requires.edge_in c.requires.contractible
    (subst (λ (p : ℕ × ℕ). some (edge_count g) (is_private g e p.0 p.1) ≡ true) c.ends-first.ensures.value (sym c.has_private.ensures ∙ c.if-has_private.true)))
