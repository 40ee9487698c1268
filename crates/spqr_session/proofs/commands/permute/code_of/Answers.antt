use Rattle.std.proofs.Common.{map, Some, None, Option, ℕ, List}
use Rattle.spqr_session.specs.Embedded.{BlockView, view_tree, no_view}
use Rattle.spqr_session.specs.Commands.Permute.{permute_codes, permute_ladder}
use Rattle.spqr_session.specs.Planned.{IsVerdict, IsPermuteVerdict}
use Rattle.spqr_session.specs.declared.code.Code.{Code}
use Rattle.spqr_session.proofs.Steps.{ok-map}
use Rattle.spqr_session.proofs.Plans.{verdict-found}
use Rattle.spqr_session.proofs.commands.permute.code_of.Goals as goal

told : (k : ℕ) (keys : List ℕ) (v : BlockView) (o : Option Code) → IsPermuteVerdict k keys v o → IsVerdict (permute_codes k keys v.tree v.entry) o
told k keys v None h = h.0
told k keys v (Some code) h = h

pub returns-in-Some-clause-verdict : goal.returns-in-Some-clause-verdict
returns-in-Some-clause-verdict c =
    let views = c.args.blocks.now in
    let v = c.in-Some.block.now in
    let found = c.in-Some.ensures.lookup.3 in
    λ s present. ok-map c.code_of_block.result (IsPermuteVerdict c.args.k c.args.keys.now v) (IsVerdict (permute_ladder (map view_tree views) c.args.b c.args.k c.args.keys.now s))
    (λ o h. verdict-found (permute_codes c.args.k c.args.keys.now) views c.args.b s present v o found.0 (found.1 no_view) (told c.args.k c.args.keys.now v o h)) c.code_of_block.ensures
