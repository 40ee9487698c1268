use Rattle.std.proofs.Common.{◌≡◌, arith, ap, ◌∙◌, sym, subst, true, false, not, Bool, ℕ, ◌&&◌, ◌==◌, nat_lt, length, slice_index_or}
use Rattle.permutations.specs.Cyclic.{last_or}
use Rattle.arrangements.proofs.Noted.{same-default}
use Rattle.arrangements.proofs.Tops.{option-unopened, option-open}
use Rattle.arrangements.proofs.prefixes.Prefix.may_come.Goals as goal

-- its block is not opened
pub returns-then-not-index : goal.returns-then-not-index
returns-then-not-index c = λ prefix n block order a b.
    ap not c.if-not-index.true
    ∙ sym (option-unopened c.args.tables.now c.args.self.now.used.items c.args.self.now.opened.items c.args.self.now.stack.items prefix block order c.args.place (n.right block order a b) c.requires.place
    (sym (ap (λ (r : ℕ). slice_index_or c.args.self.now.opened.items r false) c.rank.ensures.is)
    ∙ sym (subst (λ (d : Bool). d ≡ slice_index_or c.args.self.now.opened.items c.rank.result d) c.if-not-index.true c.index.ensures)))

-- it is on top, or not
pub returns-else-not-index : goal.returns-else-not-index
returns-else-not-index c = λ prefix n block order a b.
    c.is_top.ensures
    ∙ ap (λ (e : ℕ). nat_lt 0 (length c.args.self.now.stack.items) && (last_or 0 c.args.self.now.stack.items == e)) c.edge.ensures
    ∙ sym (option-open c.args.tables.now c.args.self.now.used.items c.args.self.now.opened.items c.args.self.now.stack.items prefix block order c.args.place (n.right block order a b) c.requires.place
    (sym (ap (λ (r : ℕ). slice_index_or c.args.self.now.opened.items r false) c.rank.ensures.is)
    ∙ same-default c.args.self.now.opened.items c.rank.result false true (omega (arith, c.rank.ensures.below, c.requires.room.opened_each))
    ∙ sym (subst (λ (d : Bool). d ≡ slice_index_or c.args.self.now.opened.items c.rank.result d) c.if-not-index.false c.index.ensures)))
