-- The blocks of a component after one of them advanced.
use Rattle.std.proofs.Common.{◌≡◌, ℕ, ◌<◌, inl, inr, true, false, List, length, slice_index, Option, Some, None, refl, sym, ap, ◌∙◌, subst, arith}
use Rattle.std.proofs.lemmas.Bool.{cases_Bool, cases_order, both_ways}
use Rattle.permutations.specs.Members.{is_member, place_of}
use Rattle.permutations.proofs.Arrangements.{member-at}
use Rattle.permutations.proofs.Places.{place-below, place-holds}
use Rattle.multigraph.specs.Part.{GraphPart, Rises}
use Rattle.multigraph.proofs.Places.{rises-once}
use Rattle.faces.specs.Euler.{IsPlaneSystem}
use Rattle.skel_embed.specs.Block.{BlockState}
use Rattle.embed_enum.specs.Walk.{KeepsRest, IsNextOf}
use Rattle.embed_enum.proofs.Walks.{rest-itself}
use Rattle.whole_embed.specs.declared.members.Member.{Member}
use Rattle.whole_embed.specs.Component.{Component}
use Rattle.whole_embed.specs.Cuts.{member_at, blocks_in, in_plane, HavePlanes}
use Rattle.whole_embed.specs.Advanced.{IsFirstOf, IsLed, AreAdvanced}
use Rattle.whole_embed.specs.Walk.{KeepsBlocks}
use Rattle.whole_embed.proofs.Moved.{IsMovedBlock, AreMoved, unmoved}
use Rattle.whole_embed.proofs.LedBlocks.{IsNextBlock, IsFirstBlock, IsLastBlock, FitsPart, led-next, led-first, last-block}

abbrev some-of : BlockState → Option BlockState → BlockState
some-of d (Some p) = p
some-of d None = d

-- one value alone
pub some-same : (o : Option BlockState) (p q : BlockState) → o ≡ Some p → o ≡ Some q → p ≡ q
some-same o p q e f = ap (some-of p) (sym e ∙ f)

-- the block in the plane of a member has the graph of its part
pub fits-part : (k : Component) (all : List Member) → HavePlanes k all → (b : ℕ) → is_member b k.blocks ≡ true → FitsPart (member_at all b)
fits-part k all have b m p e =
    let w = have.plane b m in
    subst (λ (z : BlockState). z.graph ≡ (member_at all b).part.graph) (some-same (member_at all b).plane w.0 p w.1 e) w.2

-- what a step leaves
record Left (m n : Member) : Type 0 where
  part : n.part ≡ m.part
  rest : (p : BlockState) → m.plane ≡ Some p → (q : BlockState) × (n.plane ≡ Some q) × KeepsRest p q

left-led : (m n : Member) (Step : BlockState → BlockState → Type 0) → ((p q : BlockState) → Step p q → KeepsRest p q) → IsLed Step m n → Left m n
left-led m n Step keeps w = record {
  part = w.part;
  rest = λ p e. (w.after, w.new_is, subst (λ (z : BlockState). KeepsRest z w.after) (some-same m.plane w.before p w.old_is e) (keeps w.before w.after w.step));
}

left-same : (m n : Member) → n ≡ m → Left m n
left-same m n e = subst (λ (z : Member). Left m z) (sym e) (record { part = refl; rest = λ p f. (p, f, rest-itself p) })

module _ (k : Component) (old new : List Member) (have : HavePlanes k old) (rise : Rises k.blocks) (adv : AreAdvanced k.blocks old new)
    (planes : (b : ℕ) → is_member b k.blocks ≡ true → IsPlaneSystem (blocks_in old b).part.graph (blocks_in old b).rotation) where
  fits-at : (j : ℕ) → j < length k.blocks → FitsPart (member_at old (slice_index k.blocks j))
  fits-at j l = fits-part k old have (slice_index k.blocks j) (member-at k.blocks j 0 l)

  -- earlier blocks are as before
  pub earlier-same : (j : ℕ) → j < adv.place → member_at new (slice_index k.blocks j) ≡ member_at old (slice_index k.blocks j)
  earlier-same j l = adv.others (slice_index k.blocks j) (λ i a b e. absurd (let w = adv.within in omega (arith, l, a, w, rises-once k.blocks rise i j b (omega (arith, l, w)) e)))

  pub next-block : IsNextBlock (blocks_in old (slice_index k.blocks adv.place)) (blocks_in new (slice_index k.blocks adv.place))
  next-block = led-next (member_at old (slice_index k.blocks adv.place)) (member_at new (slice_index k.blocks adv.place)) (fits-at adv.place adv.within) adv.next

  pub later-blocks : (j : ℕ) → adv.place < j → j < length k.blocks → IsLastBlock (blocks_in old (slice_index k.blocks j)) × IsFirstBlock (blocks_in old (slice_index k.blocks j)) (blocks_in new (slice_index k.blocks j))
  later-blocks j a b = (
    last-block (member_at old (slice_index k.blocks j)) (fits-at j b) (adv.last j a b),
    led-first (member_at old (slice_index k.blocks j)) (member_at new (slice_index k.blocks j)) (fits-at j b) (adv.first j a b),
  )

  -- by place
  by-place : (P : ℕ → Type 0) → ((j : ℕ) → j < length k.blocks → P (slice_index k.blocks j)) → (b : ℕ) → is_member b k.blocks ≡ true → P b
  by-place P h b m = subst P (place-holds k.blocks b m) (h (place_of k.blocks b) (place-below k.blocks b m))

  pub moved-blocks : AreMoved k (blocks_in old) (blocks_in new)
  moved-blocks b m = by-place (λ z. IsMovedBlock (blocks_in old z) (blocks_in new z)) at b m
    where
      at : (j : ℕ) → j < length k.blocks → IsMovedBlock (blocks_in old (slice_index k.blocks j)) (blocks_in new (slice_index k.blocks j))
      at j l = elim (cases_order j adv.place) [
        | inl e ↦ subst (λ z. IsMovedBlock (blocks_in old (slice_index k.blocks z)) (blocks_in new (slice_index k.blocks z))) (sym e) next-block.moved
        | inr (inl a) ↦ subst (λ (z : Member). IsMovedBlock (blocks_in old (slice_index k.blocks j)) (in_plane z.part z.plane)) (sym (earlier-same j a)) (unmoved (blocks_in old (slice_index k.blocks j)) (planes (slice_index k.blocks j) (member-at k.blocks j 0 l)))
        | inr (inr a) ↦ (later-blocks j a l).1.moved
      ]

  left : (b : ℕ) → is_member b k.blocks ≡ true → Left (member_at old b) (member_at new b)
  left b m = by-place (λ z. Left (member_at old z) (member_at new z)) at b m
    where
      at : (j : ℕ) → j < length k.blocks → Left (member_at old (slice_index k.blocks j)) (member_at new (slice_index k.blocks j))
      at j l = elim (cases_order j adv.place) [
        | inl e ↦ subst (λ z. Left (member_at old (slice_index k.blocks z)) (member_at new (slice_index k.blocks z))) (sym e) (left-led (member_at old (slice_index k.blocks adv.place)) (member_at new (slice_index k.blocks adv.place)) IsNextOf (λ p q s. s.rest) adv.next)
        | inr (inl a) ↦ left-same (member_at old (slice_index k.blocks j)) (member_at new (slice_index k.blocks j)) (earlier-same j a)
        | inr (inr a) ↦ left-led (member_at old (slice_index k.blocks j)) (member_at new (slice_index k.blocks j)) IsFirstOf (λ p q s. s.rest) (adv.first j a l)
      ]

  other-blocks : (b : ℕ) → is_member b k.blocks ≡ false → member_at new b ≡ member_at old b
  other-blocks b n = adv.others b (λ j a l e. both_ways (is_member b k.blocks) n (subst (λ z. is_member z k.blocks ≡ true) e (member-at k.blocks j 0 l)))

  pub keeps-blocks : KeepsBlocks k old new
  keeps-blocks = record {
    count = adv.count;
    parts = λ b. elim (cases_Bool (is_member b k.blocks)) [
      | inl m ↦ (left b m).part
      | inr n ↦ ap (λ (z : Member). z.part) (other-blocks b n)
    ];
    rest = λ b p m e. (left b m).rest p e;
    others = other-blocks;
  }

  pub have-new : HavePlanes k new
  have-new = record {
    within = λ b m. let w = have.within b m in omega (arith, w, adv.count);
    plane = λ b m.
        let w = have.plane b m in
        let l = left b m in
        let q = l.rest w.0 w.1 in
        (q.0, q.1, q.2.graph ∙ (w.2 ∙ sym (ap (λ (z : GraphPart). z.graph) l.part)));
  }
