use Rattle.std.proofs.Common.{ℕ, ◌+◌, List, ◌++◌, drop, sym, ap, ◌∙◌, subst}
use Rattle.skeletons.specs.Lists.{IsRank}
use Rattle.skel_embed.specs.Block.{BlockState}
use Rattle.embed_enum.specs.Walk.{IsMemberList}
use Rattle.spqr_session.proofs.MemberLines.{follows-is, members-whole}
use Rattle.spqr_session.proofs.commands.listing.list_plane.Goals as goal

pub returns : goal.returns
returns c = λ l i m k.
    let w : BlockState = c.in_ok-walker.walker in
    let t : ℕ = c.in_ok-count.count in
    let ahead : List (List (List ℕ)) = drop (i + 1) l in
    let m0 : IsMemberList w l = subst (λ (s : BlockState). IsMemberList s l) (sym c.in_ok-walker.ensures) m in
    let k0 : IsRank l w.rotation i = subst (λ (s : BlockState). IsRank l s.rotation i) (sym c.in_ok-walker.ensures) k in
    let count = c.in_ok-count.ensures.count l i m0 k0 in
    let stands = c.in_ok-count.ensures.stands l i m0 k0 in
    let lines = c.in_ok-count.ensures.lines l i m0 k0 in
    let more = follows-is l i t c.args.n c.next.new.p.rotation c.next.result count (c.next.ensures.next l (i + t) stands.0 stands.1) (c.next.ensures.last l (i + t) stands.0 stands.1) in
    members-whole c.args.b c.args.n t c.args.part.now ahead c.next.result c.in_ok-last.last.items c.in_ok-text.text.items c.push_members.new.out.items c.extend_from_slice.new.self.items c.set_count.new.text.items
    count more c.in_ok-last.ensures c.in_ok-text.ensures lines (c.in_ok-extend_from_slice.ensures.items ∙ ap (λ (x : List ℕ). c.push_members.new.out.items ++ x) c.deref.ensures.value) c.in_ok-set_count.ensures
