use Rattle.std.proofs.Common.{ℕ, ◌+◌, List, ◌++◌, drop, ap, ◌∙◌}
use Rattle.spqr_session.specs.WholeSteps.{system_now, IsListNow}
use Rattle.spqr_session.proofs.MemberLines.{follows-is}
use Rattle.spqr_session.proofs.WholesListed.{members-told}
use Rattle.spqr_session.proofs.commands.list_whole.list_from.Goals as goal

pub returns : goal.returns
returns c = λ l i a.
    let t : ℕ = c.in_ok-count.count in
    let ahead : List (List (List ℕ)) = drop (i + 1) l in
    let count = c.in_ok-count.ensures.count l i a in
    let w : IsListNow c.push_members.new.cuts c.push_members.new.all l (i + t) = c.in_ok-count.ensures.stands l i a in
    let lines = c.in_ok-count.ensures.lines l i a in
    let more = follows-is l i t c.args.n (system_now c.next_whole.new.cuts c.next_whole.new.all) c.next_whole.result count (c.next_whole.ensures.next l (i + t) w.list w.rank) (c.next_whole.ensures.last l (i + t) w.list w.rank) in
    members-told c.args.c c.args.n t c.args.cuts.now.component ahead c.next_whole.result c.in_ok-last.last.items c.in_ok-text.text.items c.push_members.new.out.items c.extend_from_slice.new.self.items c.set_count.new.text.items
    count more c.in_ok-last.ensures c.in_ok-text.ensures lines (c.in_ok-extend_from_slice.ensures.items ∙ ap (λ (x : List ℕ). c.push_members.new.out.items ++ x) c.deref.ensures.value) c.in_ok-set_count.ensures
