use Rattle.std.proofs.Common.{◌≡◌, ◌∙◌, ◌++◌, ℕ, List, inl, inr, sym, ap, subst}
use Rattle.rotations.specs.Runs.{mirror_image}
use Rattle.skeletons.specs.Families.{system_at}
use Rattle.skel_compose.specs.Followers.{row_at, IsRow}
use Rattle.skel_embed.specs.Selected.{HasChoiceIn}
use Rattle.skel_embed.proofs.FirstRows.{if-ok}
use Rattle.skel_embed.proofs.RowTables.{table-row}
use Rattle.skel_embed.proofs.Selected.{same-choice, rigid-mirrored, never-other}
use Rattle.skel_embed.proofs.selecting.changed_row.Goals as goal

pub returns-then-are_same : goal.returns-then-are_same
returns-then-are_same c =
    let nodes = c.args.tree.now in
    let k = c.args.k in
    let f = c.requires.family in
    let s = system_at f.0 k in
    let is : c.extend_from_slice.new.self.items ≡ row_at c.args.table.now k = c.in_ok-extend_from_slice.ensures.items ∙ ap (λ (z : List ℕ). z ++ c.at.result.now) c.clear.ensures.items ∙ c.at.ensures in
    record {
      system = s;
      choice = same-choice nodes k c.args.old.now c.args.new.now s f.2 (c.are_same.ensures.same c.if-are_same.true);
      row_is = subst (IsRow nodes k s) (sym is) (table-row nodes c.args.table.now f.0 c.requires.table f.1 k c.requires.node);
    }

pub returns-in-P : goal.returns-in-P
returns-in-P c =
    let nodes = c.args.tree.now in
    let k = c.args.k in
    let row = c.bond_with.new.row.items in
    let p = c.requires.possible in
    if-ok c.bond_with.result (IsRow nodes k p.0 row) (HasChoiceIn nodes k c.args.new.now row) (λ h. record { system = p.0; choice = p.1; row_is = h }) (c.bond_with.ensures p.0 p.1)

pub returns-in-R : goal.returns-in-R
returns-in-R c =
    let nodes = c.args.tree.now in
    let k = c.args.k in
    let row = c.mirrored.new.row.items in
    let f = c.requires.family in
    let p = c.requires.possible in
    let other = mirror_image (system_at f.0 k) in
    if-ok c.mirrored.result (IsRow nodes k other row) (HasChoiceIn nodes k c.args.new.now row)
    (λ h. record { system = other; choice = rigid-mirrored c.requires.block.0 nodes c.requires.block.1 k c.requires.node (sym c.kind.ensures ∙ c.in-R.is) c.args.old.now c.args.new.now (system_at f.0 k) p.0 f.2 p.1 (c.are_same.ensures.other c.if-are_same.false); row_is = h })
    (c.mirrored.ensures f.0 f.1)

pub unreachable-requires : goal.unreachable-requires
unreachable-requires c =
    let f = c.requires.family in
    let p = c.requires.possible in
    c.are_same.ensures.other c.if-are_same.false
    (never-other c.args.tree.now c.args.k c.args.old.now c.args.new.now (system_at f.0 c.args.k) p.0 (elim c.in-S.is [ inl q ↦ inl (sym c.kind.ensures ∙ q) | inr q ↦ inr (sym c.kind.ensures ∙ q) ]) f.2 p.1)
