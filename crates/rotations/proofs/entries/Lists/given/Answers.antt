use Rattle.std.proofs.Common.{sym, ◌∙◌, arith}
use Rattle.rotations.proofs.Cursor.{reached-list, reached-no_list}
use Rattle.rotations.proofs.entries.Lists.given.Goals as goal
use Rattle.rotations.proofs.entries.Lists.given.Goals.{else-at-len-via-then-at-len+else-vertex-v, else-at-len-via-else-at-len}

-- the entry at the place is for the vertex
pub returns-then-vertex-v-clause-list : goal.returns-then-vertex-v-clause-list
returns-then-vertex-v-clause-list c =
    c.edges.ensures ∙ sym (reached-list c.args.self.now c.args.at c.args.v c.requires (omega (arith, c.len.ensures.value, c.if-at-len.true)) (sym c.vertex.ensures ∙ c.if-vertex-v.true))

-- it is for a larger vertex, or there is none
pub returns-else-at-len-clause-list : goal.returns-else-at-len-clause-list
returns-else-at-len-clause-list c = sym (reached-no_list c.args.self.now c.args.at c.args.v c.len.ensures.rising c.requires (λ l. elim c.else-at-len.branch [
  | else-at-len-via-then-at-len+else-vertex-v w ↦ λ same. w.if-vertex-v.false (w.vertex.ensures ∙ same)
  | else-at-len-via-else-at-len w ↦ absurd (omega (arith, l, c.len.ensures.value, w.if-at-len.false))
]))
