use Rattle.std.proofs.Common.{◌≡◌, ◌↔◌, ◌∙◌, ap, sym, subst, true, Bool}
use Rattle.kuratowski.specs.Subdivision.{IsWritten}
use Rattle.kuratowski.specs.Checking.{is_in_order}
use Rattle.kuratowski.proofs.Checked.{exactly_written}
use Rattle.kuratowski.proofs.checking.check.Goals as goal

-- of a subdivision, the order tells the written form
pub returns : goal.returns
returns c = record {
  exact = subst (λ (b : Bool). (b ≡ true) ↔ IsWritten c.args.g.now c.args.s.now.kind c.args.s.now.branch c.args.s.now.paths) (sym (c.is_in_order.ensures ∙ ap (is_in_order c.args.s.now.kind) c.as_slice.ensures))
      (exactly_written c.args.g.now c.args.s.now.kind c.args.s.now.branch c.args.s.now.paths (c.in_ok-is_subdivision.ensures.exact.0 c.if-not-branch.false));
}
