use Rattle.std.proofs.Common.{◌≡◌, ℕ, true, List, slice_index, sym, ap, ◌∙◌, subst, arith}
use Rattle.permutations.specs.Members.{is_member}
use Rattle.permutations.proofs.Arrangements.{member-at}
use Rattle.permutations.proofs.Places.{place-of}
use Rattle.arrangements.specs.Tables.{rank_in}
use Rattle.whole_embed.proofs.regrouping.block_of_rank.Goals as goal

pub rank-requires : goal.rank-requires
rank-requires c = subst (λ (l : List ℕ). is_member (slice_index c.args.at.now c.loop-p.p) l ≡ true) (sym c.requires.edges) (member-at c.args.at.now c.loop-p.p 0 c.loop-p-test.true)

pub unreachable-requires : goal.unreachable-requires
unreachable-requires c =
    let s = c.requires.some in
    let w = place-of c.args.at.now s.0 (subst (λ (l : List ℕ). is_member s.0 l ≡ true) c.requires.edges s.1) in
    c.loop-p.invariant w.0 (omega (arith, w.1, c.loop-p-test.false)) (ap (rank_in c.args.orders.now) w.2 ∙ s.2)
