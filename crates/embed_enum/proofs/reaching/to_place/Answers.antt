use Rattle.std.proofs.Common.{◌≡◌, ◌∙◌, ◌<◌, ℕ, Bool, false, cond, List, length, sym, ap, arith}
use Rattle.pair_split.specs.Tutte.{Node, node_at}
use Rattle.pair_split.specs.declared.components.Kind.TheVariants.{P, R}
use Rattle.skeletons.specs.Lists.{choice_count}
use Rattle.skel_embed.specs.Block.{lock_at}
use Rattle.embed_enum.specs.Digits.{radix_at, digit_at}
use Rattle.embed_enum.specs.Changes.{node_digit}
use Rattle.embed_enum.proofs.Leads.{flip-to}
use Rattle.embed_enum.proofs.Nodes.{count-as, bond-orders}
use Rattle.embed_enum.proofs.States.{state-digit}
use Rattle.embed_enum.proofs.Walks.{open-digit, rest-itself}
use Rattle.embed_enum.proofs.reaching.to_place.Goals as goal

pub numbered_order-requires-clause-orders : goal.numbered_order-requires-clause-orders
numbered_order-requires-clause-orders c =
    let s = c.args.p.now in
    let k : ℕ = c.args.k in
    let kind : (node_at s.tree k).kind ≡ P = ap (λ (t : List Node). (node_at t k).kind) (sym c.tree.ensures.value) ∙ sym (c.in-P.ensures {u = tt}) in
    let free : lock_at s.locks k ≡ false = sym c.locked.ensures ∙ c.if-locked.false in
    c.radix-orders.ensures ∙ ap (λ (b : Bool). cond b 1 (choice_count (node_at s.tree k).kind (length (node_at s.tree k).items))) free ∙ count-as s k P kind ∙ bond-orders s c.belongs.ensures k (c.requires.node, kind)

pub returns-in-R : goal.returns-in-R
returns-in-R c =
    let s = c.args.p.now in
    let k : ℕ = c.args.k in
    let kind : (node_at s.tree k).kind ≡ R = ap (λ (t : List Node). (node_at t k).kind) (sym c.tree.ensures.value) ∙ sym (c.in-R.ensures {u = tt}) in
    let free : lock_at s.locks k ≡ false = sym c.locked.ensures ∙ c.if-locked.false in
    let two : radix_at s.tree (lock_at s.locks) k ≡ 2 = ap (λ (b : Bool). cond b 1 (choice_count (node_at s.tree k).kind (length (node_at s.tree k).items))) free ∙ count-as s k R kind in
    let is : digit_at s.tree (lock_at s.locks) s.rotation k ≡ node_digit s k = open-digit s s (rest-itself s) k free in
    let low : digit_at s.tree (lock_at s.locks) s.rotation k < radix_at s.tree (lock_at s.locks) k = state-digit s c.belongs.ensures k c.requires.node in
    let other = c.if-digit-place.false in
    let found = c.digit.ensures in
    let below = c.requires.below in
    (free, flip-to s k c.args.place (c.requires.node, kind) (omega (arith, two, is, low, other, found, below)))
