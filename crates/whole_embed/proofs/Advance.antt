-- One block more at its first member, and one block advanced.
use Rattle.std.proofs.Common.{◌≡◌, ◌≢◌, ℕ, ◌+◌, ◌<◌, ◌≤◌, inl, inr, List, length, slice_index, slice_index_or, slice_set, refl, sym, ◌∙◌, subst, arith}
use Rattle.std.proofs.lemmas.Bool.{cases_eq}
use Rattle.std.proofs.lemmas.List.{length-set, get_or-set_same, get_or-set_other, get_or_default}
use Rattle.multigraph.specs.Part.{Rises}
use Rattle.multigraph.proofs.Places.{rises-once}
use Rattle.embed_enum.specs.Walk.{IsNextOf}
use Rattle.whole_embed.specs.declared.members.Member.{Member}
use Rattle.whole_embed.specs.Cuts.{member_at}
use Rattle.whole_embed.specs.Advanced.{IsFirstOf, IsLed, IsLastMember, AreFirstBetween, AreAdvanced}

-- the list with another member at place b
pub set-here : (all : List Member) (b : ℕ) (m : Member) → b < length all → member_at (slice_set all b m) b ≡ m
set-here all b m l = get_or-set_same all b m _ l

pub set-there : (all : List Member) (b c : ℕ) (m : Member) → c ≢ b → member_at (slice_set all b m) c ≡ member_at all c
set-there all b c m n = get_or-set_other all b c m _ n

-- the member that is read at a place
pub read-member : (all : List Member) (b : ℕ) (m : Member) → b < length all → slice_index_or all b m ≡ member_at all b
read-member all b m l = get_or_default all b m _ l

-- no block yet
pub first-begins : (blocks : List ℕ) (all : List Member) (from : ℕ) → AreFirstBetween blocks all all from from
first-begins blocks all from = record { count = refl; first = λ j a b. absurd (omega (arith, a, b)); others = λ b n. refl }

-- one block more
pub first-more : (blocks : List ℕ) (old mid : List Member) (from j : ℕ) (m : Member) → Rises blocks → from ≤ j → j < length blocks → slice_index blocks j < length old
    → AreFirstBetween blocks old mid from j → IsLed IsFirstOf (member_at mid (slice_index blocks j)) m → AreFirstBetween blocks old (slice_set mid (slice_index blocks j) m) from (j + 1)
first-more blocks old mid from j m rise low high within h led = record {
  count = length-set mid (slice_index blocks j) m ∙ h.count;
  first = λ i a b. elim (cases_eq i j) [
    | inl e ↦ subst (λ z. IsLed IsFirstOf (member_at old (slice_index blocks z)) (member_at (slice_set mid (slice_index blocks j) m) (slice_index blocks z))) (sym e) here
    | inr n ↦ subst (λ z. IsLed IsFirstOf (member_at old (slice_index blocks i)) z) (sym (set-there mid (slice_index blocks j) (slice_index blocks i) m (apart i n (omega (arith, b, n, high))))) (h.first i a (omega (arith, b, n)))
  ];
  others = λ b n. set-there mid (slice_index blocks j) b m (λ e. n j low (omega arith) (sym e)) ∙ h.others b (λ i u v. n i u (omega (arith, v)));
}
  where
    apart : (i : ℕ) → i ≢ j → i < length blocks → slice_index blocks i ≢ slice_index blocks j
    apart i n l e = n (rises-once blocks rise i j l high e)

    -- before, the block was as in the beginning
    still : member_at mid (slice_index blocks j) ≡ member_at old (slice_index blocks j)
    still = h.others (slice_index blocks j) (λ i a b e. absurd (omega (arith, b, rises-once blocks rise i j (omega (arith, b, high)) high e)))

    here : IsLed IsFirstOf (member_at old (slice_index blocks j)) (member_at (slice_set mid (slice_index blocks j) m) (slice_index blocks j))
    here = subst (λ z. IsLed IsFirstOf (member_at old (slice_index blocks j)) z) (sym (set-here mid (slice_index blocks j) m (omega (arith, within, h.count))))
        (subst (λ z. IsLed IsFirstOf z m) still led)

-- a block goes to the next member, and those after it to their first ones
pub advanced : (blocks : List ℕ) (old new : List Member) (place : ℕ) (m : Member) → Rises blocks → place < length blocks → slice_index blocks place < length old
    → IsLed IsNextOf (member_at old (slice_index blocks place)) m
    → ((j : ℕ) → place < j → j < length blocks → IsLastMember (member_at old (slice_index blocks j)))
    → AreFirstBetween blocks (slice_set old (slice_index blocks place) m) new (place + 1) (length blocks)
    → AreAdvanced blocks old new
advanced blocks old new place m rise high within led last h = record {
  count = h.count ∙ length-set old (slice_index blocks place) m;
  place = place;
  within = high;
  next = subst (λ z. IsLed IsNextOf (member_at old (slice_index blocks place)) z) (sym here) led;
  last = last;
  first = λ j a b. subst (λ z. IsLed IsFirstOf z (member_at new (slice_index blocks j))) (set-there old (slice_index blocks place) (slice_index blocks j) m (λ e. absurd (omega (arith, a, rises-once blocks rise j place b high e)))) (h.first j (omega (arith, a)) b);
  others = λ b n. h.others b (λ j u v. n j (omega (arith, u)) v) ∙ set-there old (slice_index blocks place) b m (λ e. n place (omega arith) high (sym e));
}
  where
    here : member_at new (slice_index blocks place) ≡ m
    here = h.others (slice_index blocks place) (λ j u v e. absurd (omega (arith, u, rises-once blocks rise j place v high e))) ∙ set-here old (slice_index blocks place) m within
