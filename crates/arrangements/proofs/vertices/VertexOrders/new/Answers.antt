use Rattle.std.proofs.Common.{◌≡◌, true, List, ℕ, sym, ap, ◌∙◌, subst, length, get_or}
use Rattle.permutations.specs.Members.{is_member}
use Rattle.arrangements.proofs.Noted.{member-at}
use Rattle.arrangements.proofs.vertices.VertexOrders.new.Goals as goal

-- the edges follow themselves
pub of-requires : goal.of-requires
of-requires c =
    let e : c.in_ok-followers.followers.items ≡ c.args.edges.items = c.in_ok-followers.ensures.items ∙ c.deref.ensures.value in
    record {
      rise = c.requires.increasing;
      few = c.requires.few;
      rank_each = c.requires.each;
      follower_each = ap length e;
      rank_below = c.requires.ranks;
      follower_within = λ p h. subst (λ (l : List ℕ). is_member (get_or l p 0) c.args.edges.items ≡ true) (sym e) (member-at c.args.edges.items p h);
    }
