use Rattle.std.proofs.Common.{◌∙◌, length, ap}
use Rattle.skeleton_runs.proofs.Contiguous.{plane-contiguous}
use Rattle.skel_compose.specs.Followers.{IsTableOf}
use Rattle.skel_decompose.specs.Followers.{IsInRuns}
use Rattle.skel_decompose.proofs.Around.{some-family}
use Rattle.skel_embed.proofs.KeptKeys.{choices-by_many}
use Rattle.skel_embed.proofs.RowTables.{table-made, table-of}
use Rattle.skel_embed.proofs.Selected.{own-possible, present-choices, chosen-systems, all-chosen}
use Rattle.skel_embed.proofs.selecting.with_choices.Goals as goal

pub followers-requires : goal.followers-requires
followers-requires c = record { runs = record { block = c.requires.block; limits = c.keeps_limits.ensures.limits; system = c.requires.plane.system; runs = plane-contiguous c.args.g.now c.args.t.now c.args.r.now c.requires.block c.requires.plane } }

pub changed_table-requires-clause-old : goal.changed_table-requires-clause-old
changed_table-requires-clause-old c = ap length c.requires.old ∙ choices-by_many c.args.t.now c.args.r.now

pub changed_table-requires-clause-new : goal.changed_table-requires-clause-new
changed_table-requires-clause-new c = ap length c.requires.new.2 ∙ choices-by_many c.args.t.now c.requires.new.0

pub changed_table-requires-clause-family : goal.changed_table-requires-clause-family
changed_table-requires-clause-family c =
    let g = c.args.g.now in
    let nodes = c.args.t.now in
    let r = c.args.r.now in
    let runs : IsInRuns g nodes r = record { block = c.requires.block; limits = c.keeps_limits.ensures.limits; system = c.requires.plane.system; runs = plane-contiguous g nodes r c.requires.block c.requires.plane } in
    let w = some-family g nodes r runs in
    let t : IsTableOf nodes c.in_ok-table.table w.0 = record { systems = w.1.systems; followers = c.in_ok-table.ensures.followers w.0 w.1 } in
    (w.0, t, present-choices g nodes c.requires.block r c.requires.plane c.args.old.now c.requires.old w.0 w.1.systems w.1.follows)

pub changed_table-requires-clause-possible : goal.changed_table-requires-clause-possible
changed_table-requires-clause-possible c = own-possible c.args.g.now c.args.t.now c.requires.block c.requires.new.0 c.requires.new.1 c.args.new.now c.requires.new.2

pub compose-requires-clause-table : goal.compose-requires-clause-table
compose-requires-clause-table c = let h = c.in_ok-changed.ensures {u = tt} in table-made c.args.t.now h.family c.in_ok-changed.changed h.rows

pub compose-requires-clause-family : goal.compose-requires-clause-family
compose-requires-clause-family c =
    let h = c.in_ok-changed.ensures {u = tt} in
    (h.family, table-of c.args.t.now h.family c.in_ok-changed.changed h.rows (chosen-systems c.args.g.now c.args.t.now c.requires.block c.args.new.now h.family h.choices))

pub returns : goal.returns
returns c = λ q p e.
    let h = c.in_ok-changed.ensures {u = tt} in
    let systems = chosen-systems c.args.g.now c.args.t.now c.requires.block c.args.new.now h.family h.choices in
    all-chosen c.args.g.now c.args.t.now c.requires.block c.args.new.now h.family h.choices q c.in_ok-s.s p e c.in_ok-s.ensures.system (c.in_ok-s.ensures.follows h.family (table-of c.args.t.now h.family c.in_ok-changed.changed h.rows systems))
