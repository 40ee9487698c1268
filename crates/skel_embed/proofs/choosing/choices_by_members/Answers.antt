use Rattle.std.proofs.Common.{List, ℕ, ap, ◌∙◌}
use Rattle.std.specs.List.{concat}
use Rattle.skeleton_runs.proofs.Contiguous.{plane-contiguous}
use Rattle.skel_embed.specs.Outcomes.{choices_in}
use Rattle.skel_embed.proofs.KeptKeys.{choices-followed}
use Rattle.skel_embed.proofs.choosing.choices_by_members.Goals as goal

pub decompose-requires-clause-runs : goal.decompose-requires-clause-runs
decompose-requires-clause-runs c = plane-contiguous c.args.g.now c.args.t.now c.args.r.now c.requires.block c.requires.plane

pub returns : goal.returns
returns c = (c.in_ok-keys.ensures {u = tt}).keys_are ∙ ap (λ (z : List (List (List ℕ))). concat (choices_in c.args.t.now z)) c.deref.ensures.value
    ∙ ap concat (choices-followed c.args.g.now c.args.t.now c.requires.block c.in_ok-members.members.items c.args.r.now c.in_ok-members.ensures.follows)
