use Rattle.std.proofs.Common.{◌∙◌, sym, ap, subst}
use Rattle.skel_embed.specs.Block.{BlockState, IsBlockState}
use Rattle.skel_embed.specs.First.{IsFirst}
use Rattle.skel_embed.specs.Flat.{lists_in, AreFlat}
use Rattle.skel_embed.specs.Outcomes.{choices_in}
use Rattle.skel_embed.specs.declared.state.Frame.{Frame}
use Rattle.skel_embed.proofs.First.{first-systems, first-followed}
use Rattle.skel_embed.proofs.Flat.{flat-again}
use Rattle.skel_embed.proofs.KeptKeys.{first-kept}
use Rattle.skel_embed.proofs.RowTables.{table-made, table-of}
use Rattle.skel_embed.proofs.blocks_in_plane.in_plane.Goals as goal

pub compose-requires-clause-table : goal.compose-requires-clause-table
compose-requires-clause-table c = let h = c.requires.members in table-made c.args.t h.family c.args.first.table h.rows

pub compose-requires-clause-family : goal.compose-requires-clause-family
compose-requires-clause-family c = let h = c.requires.members in (h.family, table-of c.args.t h.family c.args.first.table h.rows (first-systems c.args.g c.args.t c.requires.block h.family h.members))

pub returns-clause-first : goal.returns-clause-first
returns-clause-first c =
    let h = c.requires.members in
    let t = table-of c.args.t h.family c.args.first.table h.rows (first-systems c.args.g c.args.t c.requires.block h.family h.members) in
    subst (IsFirst c.args.g c.args.t) (ap (λ (z : BlockState). z.rotation) (sym c.of.ensures)) (first-followed c.args.g c.args.t c.requires.block h.family h.members c.in_ok-rotation.rotation c.in_ok-rotation.ensures.system (c.in_ok-rotation.ensures.follows h.family t))

pub of-requires-clause-state : goal.of-requires-clause-state
of-requires-clause-state c =
    let h = c.requires.members in
    let keys = c.args.first.keys.items in
    let t = table-of c.args.t h.family c.args.first.table h.rows (first-systems c.args.g c.args.t c.requires.block h.family h.members) in
    let follows = c.in_ok-rotation.ensures.follows h.family t in
    subst (λ (z : Frame). IsBlockState (record { graph = z.graph; tree = z.tree; rotation = c.in_ok-rotation.rotation; choices = lists_in keys z.ends.items; locks = c.in_ok-locks.locks.items })) (sym c.in_ok-frame.ensures.ok) (record {
      block = c.requires.block;
      plane = (first-followed c.args.g c.args.t c.requires.block h.family h.members c.in_ok-rotation.rotation c.in_ok-rotation.ensures.system follows).plane;
      choices = first-kept c.args.g c.args.t c.requires.block h.family c.in_ok-rotation.rotation follows keys c.args.first.ends.items h.choices;
      locks = sym c.in_ok-locks.locks.ok.0 ∙ c.in_ok-locks.ensures.len ∙ c.node_count.ensures;
    })

pub of-requires-clause-flat : goal.of-requires-clause-flat
of-requires-clause-flat c =
    let h = c.requires.members in
    let keys = c.args.first.keys.items in
    subst (λ (z : Frame). AreFlat (lists_in keys z.ends.items) keys z.ends.items) (sym c.in_ok-frame.ensures.ok) (flat-again (choices_in c.args.t h.family) keys c.args.first.ends.items h.choices)
