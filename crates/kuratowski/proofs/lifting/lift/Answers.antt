-- The paths and branch vertices that were carried over are a subdivision in its written form.
use Rattle.std.proofs.Common.{◌≡◌, List, ℕ, ap, ◌∙◌, sym, subst}
use Rattle.kuratowski.specs.Subdivision.{IsWritten}
use Rattle.kuratowski.specs.Routes.{lifted_branches, lifted_paths}
use Rattle.kuratowski.proofs.Lifted.{lifted-written}
use Rattle.kuratowski.proofs.lifting.lift.Goals as goal

pub returns-clause-written : goal.returns-clause-written
returns-clause-written c =
    let s = c.args.s.now in
    let b : c.of.result ≡ lifted_branches c.args.vertex.now c.args.s.now.branch = c.of.ensures ∙ (c.in_ok-branch.ensures ∙ ap (λ (z : List ℕ). lifted_branches c.args.vertex.now z) c.as_slice.ensures) in
    let p : c.of-2.result ≡ lifted_paths c.args.inner.now c.args.routes.now c.args.s.now.kind c.args.s.now.branch c.args.s.now.paths =
    c.of-2.ensures ∙ (c.in_ok-paths.ensures ∙ (ap (λ (z : List ℕ). lifted_paths c.args.inner.now c.args.routes.now c.args.s.now.kind z c.as_slice-3.result.now) c.as_slice-2.ensures
    ∙ ap (λ (z : List (List ℕ)). lifted_paths c.args.inner.now c.args.routes.now c.args.s.now.kind c.args.s.now.branch z) c.as_slice-3.ensures)) in
    subst (λ (z : List (List ℕ)). IsWritten c.args.outer.now s.kind c.of.result z) (sym p)
    (subst (λ (z : List ℕ). IsWritten c.args.outer.now s.kind z (lifted_paths c.args.inner.now c.args.routes.now s.kind s.branch s.paths)) (sym b)
    (lifted-written c.args.inner.now c.args.outer.now c.args.vertex.now c.args.routes.now c.vertex_count.ensures.graph c.requires.routes s.kind s.branch s.paths c.requires.written))
