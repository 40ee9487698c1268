use Rattle.std.proofs.Common.{◌≡◌, ◌+◌, ◌<◌, ◌++◌, ◌∙◌, ℕ, List, All, length, take, drop, reverse, slice_index_or, ap, subst, arith}
use Rattle.std.specs.List.{swap}
use Rattle.permutations.specs.Members.{is_distinct}
use Rattle.choice_lists.proofs.NextArrangement.{Falls}
use Rattle.skeletons.specs.Choices.{choice}
use Rattle.embed_enum.proofs.Bonds.{bond-of, bond-some}
use Rattle.embed_enum.proofs.Leads.{next-to}
use Rattle.embed_enum.proofs.Nodes.{bond-ends}
use Rattle.embed_enum.proofs.leading.next_order.Goals as goal

pub last_rise-i-requires-clause-some : goal.last_rise-i-requires-clause-some
last_rise-i-requires-clause-some c = let n = bond-some _ _ (bond-of c.args.p.now c.belongs.ensures c.args.k c.requires) in omega (arith, n, ap length c.keys.ensures)

pub last_rise-i-requires-clause-once : goal.last_rise-i-requires-clause-once
last_rise-i-requires-clause-once c = ap is_distinct c.keys.ensures ∙ (bond-of c.args.p.now c.belongs.ensures c.args.k c.requires).once

pub last_greater-j-requires-clause-once : goal.last_greater-j-requires-clause-once
last_greater-j-requires-clause-once c = ap is_distinct c.keys-2.ensures ∙ (bond-of c.args.p.now c.belongs.ensures c.args.k c.requires).once

pub returns-then-i-eq0 : goal.returns-then-i-eq0
returns-then-i-eq0 c = bond-ends c.args.p.now c.belongs.ensures c.args.k c.requires (subst (λ (z : List ℕ). Falls (drop 1 z)) c.keys.ensures (c.last_rise-i.ensures.none (omega (arith, c.if-i-eq0.true))))

pub returns : goal.returns
returns c =
    let s = c.args.p.now in
    let k : ℕ = c.args.k in
    let i : ℕ = c.last_rise-i.result in
    let j : ℕ = c.last_greater-j.result in
    let own : List ℕ = choice s.tree s.rotation k in
    let n : 0 < i = omega (arith, c.if-i-eq0.false) in
    let falls : Falls (drop (i + 1) own) = subst (λ (z : List ℕ). Falls (drop (i + 1) z)) c.keys.ensures (c.last_rise-i.ensures.falls n) in
    let within : j < length own = subst (λ (z : List ℕ). j < length z) c.keys-2.ensures c.last_greater-j.ensures.behind.1 in
    let greater : slice_index_or own i 0 < slice_index_or own j 0 = subst (λ (z : List ℕ). slice_index_or z i 0 < slice_index_or z j 0) c.keys-2.ensures c.last_greater-j.ensures.greater in
    let last : All (λ y. y < slice_index_or own i 0) (drop (j + 1) own) = subst (λ (z : List ℕ). All (λ y. y < slice_index_or z i 0) (drop (j + 1) z)) c.keys-2.ensures c.last_greater-j.ensures.last in
    let e : c.in_ok-keys.keys ≡ take (i + 1) (swap own i j) ++ reverse (drop (i + 1) (swap own i j)) = c.in_ok-keys.ensures {u = tt} ∙ ap (λ (z : List ℕ). take (i + 1) (swap z i j) ++ reverse (drop (i + 1) (swap z i j))) c.keys-3.ensures in
    next-to s c.belongs.ensures k c.requires i j n c.last_greater-j.ensures.behind.0 within falls greater last c.in_ok-keys.keys e
