-- The keys of a bond as its choice has them.
use Rattle.std.proofs.Common.{◌≡◌, ◌≢◌, ℕ, zero, suc, ◌+◌, ◌-◌, ◌*◌, ◌/◌, ◌%◌, ◌<◌, ◌≤◌, nat_lt, true, List, [], ◌∷◌, length, drop, slice_index_or, IsPermutation, refl, sym, ap, ap₂, ◌∙◌, subst, arith, div-add-mod', mul_comm}
use Rattle.std.specs.List.{swap}
use Rattle.std.specs.List.Sorted.{IsNonDecreasing}
use Rattle.std.proofs.lemmas.Nat.{div-mul-add, div_below, mod_below}
use Rattle.std.proofs.lemmas.List.Sorted.{length_permutation}
use Rattle.permutations.specs.Cyclic.{first_or}
use Rattle.permutations.specs.Members.{is_member, is_distinct}
use Rattle.rotations.specs.Rotation.{IsCyclicOrder}
use Rattle.permutations.proofs.Arrangements.{member-at, permutation-member}
use Rattle.permutations.proofs.Places.{places-differ}
use Rattle.multigraph.specs.Part.{Rises}
use Rattle.graph_theory.proofs.Rising.{members-same}
use Rattle.pair_split.specs.declared.components.Kind.{Kind}
use Rattle.pair_split.specs.declared.components.Kind.TheVariants.{P}
use Rattle.choice_lists.specs.Arrangements.{factorial, factorial_number}
use Rattle.choice_lists.proofs.Numbers.{factorial-positive}
use Rattle.choice_lists.proofs.Places.{Ascends, ascends-from}
use Rattle.choice_lists.proofs.Smaller.{smaller, ascends-distinct, permutation-tail}
use Rattle.choice_lists.proofs.Arrangements.{rising-number, falling-number}
use Rattle.choice_lists.proofs.NextArrangement.{Falls}
use Rattle.choice_lists.proofs.Choices.{bond-number}
use Rattle.skeletons.specs.Items.{node_keys}
use Rattle.skeletons.specs.Choices.{choice}
use Rattle.skeletons.specs.Families.{IsPossibleFor}
use Rattle.skeletons.specs.Moves.{IsNodeOfKind}
use Rattle.skeleton_choices.proofs.Told.{possible}
use Rattle.skeleton_choices.proofs.Listed.{choice-normal, bond-keys_cut, rise}
use Rattle.skel_embed.specs.Block.{BlockState, IsBlockState}
use Rattle.embed_enum.specs.Changes.{KeepsOthers}
use Rattle.embed_enum.proofs.Placed.{placed, placed-all, placed-swap}

-- the choice c has the keys of a bond, the first of them first
pub record IsBondOf (keys c : List ℕ) : Type 0 where
  pub key : ℕ
  pub others : List ℕ
  pub rest : List ℕ
  pub node : keys ≡ key ∷ others
  pub is : c ≡ key ∷ rest
  pub rise : Ascends nat_lt (key ∷ others)
  pub same : IsPermutation others rest
  pub once : is_distinct c ≡ true

-- a cyclic order of rising keys, the first of them first
pub bond-made : (keys c : List ℕ) (key : ℕ) (others : List ℕ) → keys ≡ key ∷ others → Ascends nat_lt keys → IsCyclicOrder keys c → is_distinct c ≡ true → IsBondOf keys c
bond-made keys [] key others e a o d = absurd (omega (arith, ap length e, length_permutation keys [] o.arranged))
bond-made keys (x ∷ rest) key others e a o d =
    let r : Ascends nat_lt (key ∷ others) = subst (Ascends nat_lt) e a in
    let f : x ≡ key = o.least_first ∙ ap (first_or 0) e in
    let p : IsPermutation (key ∷ others) (key ∷ rest) = subst (λ (z : List ℕ). IsPermutation z (key ∷ rest)) e (subst (λ z. IsPermutation keys (z ∷ rest)) f o.arranged) in
    record {
      key = key;
      others = others;
      rest = rest;
      node = e;
      is = ap (λ z. z ∷ rest) f;
      rise = r;
      same = permutation-tail key others rest (ascends-distinct (key ∷ others) r) p;
      once = d;
    }

-- the choice of a bond is one
pub bond-of : (s : BlockState) → IsBlockState s → (k : ℕ) → IsNodeOfKind s.tree k P → IsBondOf (node_keys s.tree k) (choice s.tree s.rotation k)
bond-of s h k n =
    let d = bond-keys_cut s.graph s.tree h.block s.rotation h.plane k n.0 in
    let o : IsPossibleFor P s.tree k (choice s.tree s.rotation k) = subst (λ (z : Kind). IsPossibleFor z s.tree k (choice s.tree s.rotation k)) n.1 (possible s.graph s.tree h.block s.rotation k h.plane n.0) in
    bond-made (node_keys s.tree k) (choice s.tree s.rotation k) d.0 d.1 d.2 (ascends-from nat_lt (node_keys s.tree k) (rise s.graph s.tree h.block s.rotation h.plane k n.0)) o
    (choice-normal s.graph s.tree h.block s.rotation k h.plane n.0).0

-- the keys of a bond are those of its node where they do not decrease
pub bond-increases : (s : BlockState) → IsBlockState s → (k : ℕ) → IsNodeOfKind s.tree k P → IsNonDecreasing (choice s.tree s.rotation k) → choice s.tree s.rotation k ≡ node_keys s.tree k
bond-increases s h k n up = members-same c keys rises (h.block.tree.in_order.keys_rise k n.0) (λ x m. sym (permutation-member keys c x o.arranged) ∙ m) (λ x m. permutation-member keys c x o.arranged ∙ m)
  where
    keys : List ℕ
    keys = node_keys s.tree k

    c : List ℕ
    c = choice s.tree s.rotation k

    o : IsPossibleFor P s.tree k c
    o = subst (λ (z : Kind). IsPossibleFor z s.tree k c) n.1 (possible s.graph s.tree h.block s.rotation k h.plane n.0)

    strict : (a b : ℕ) → a ≤ b → a ≢ b → a < b
    strict a b l n = omega (arith, l, n)

    rises : Rises c
    rises i j w b = strict (slice_index_or c i 0) (slice_index_or c j 0) (up i j 0 (omega (arith, w)) b) (places-differ c i j (choice-normal s.graph s.tree h.block s.rotation k h.plane n.0).0 w b)

module _ (keys c : List ℕ) (b : IsBondOf keys c) where
  -- as many as the node has
  pub bond-long : length c ≡ length keys
  bond-long = omega (arith, ap length b.is, ap length b.node, length_permutation b.others b.rest b.same)

  pub bond-some : 0 < length c
  bond-some = omega (arith, ap length b.is)

  -- behind the first stand the others
  pub bond-behind : drop 1 c ≡ b.rest
  bond-behind = ap (drop 1) b.is

  -- the number counts the keys behind the first alone
  pub bond-counts : factorial_number c ≡ factorial_number b.rest
  bond-counts = ap factorial_number b.is ∙ bond-number b.key b.others b.rest b.rise b.same

  -- where they fall it is the last
  pub bond-last : Falls (drop 1 c) → factorial_number c + 1 ≡ factorial (length c - 1)
  bond-last f =
      let n : length b.rest ≡ length c - 1 = omega (arith, ap length b.is) in
      omega (arith, bond-counts, falling-number b.rest (subst Falls bond-behind f), ap factorial n)

  -- where they rise it is the first
  pub bond-sorted : c ≡ keys → factorial_number c ≡ 0
  bond-sorted e = ap factorial_number (e ∙ b.node) ∙ rising-number (b.key ∷ b.others) b.rise

  -- the digit of the first key is 0
  pub bond-starts : placed 1 c ≡ 0
  bond-starts = ap (placed 1) b.is ∙ nothing
    where
      nothing : placed 1 (b.key ∷ b.rest) ≡ 0
      nothing = omega (arith, bond-number b.key b.others b.rest b.rise b.same)

-- one digit of the number taken off
pub record DigitTaken (left factor items i : ℕ) : Type 0 where
  pub factor_is : factor / (items - i) ≡ factorial (items - (i + 1))
  pub wanted : left / (factor / (items - i)) < items - i
  pub below : left % (factor / (items - i)) < factorial (items - (i + 1))
  pub whole : left / (factor / (items - i)) * factorial (items - (i + 1)) + left % (factor / (items - i)) ≡ left
  pub some : 0 < factor / (items - i)

pub digit-taken : (left factor items i : ℕ) → i < items → factor ≡ factorial (items - i) → left < factor → DigitTaken left factor items i
digit-taken left factor items i l e h = record {
  factor_is = is;
  wanted = subst (λ z. left / z < items - i) (sym is) (div_below left f (items - i) positive (omega (arith, h, e, product)));
  below = subst (λ z. left % z < f) (sym is) (mod_below left f positive);
  whole = subst (λ z. left / z * f + left % z ≡ left) (sym is) (div-add-mod' left f);
  some = subst (λ z. 0 < z) (sym is) positive;
}
  where
    f : ℕ
    f = factorial (items - (i + 1))

    positive : 0 < f
    positive = factorial-positive (items - (i + 1))

    product : factorial (items - i) ≡ (items - i) * f
    product =
        let n : items - i ≡ suc (items - (i + 1)) = omega (arith, l) in
        let m : items - (i + 1) + 1 ≡ items - i = omega (arith, l) in
        ap factorial n ∙ ap (λ z. z * f) m

    is : factor / (items - i) ≡ f
    is =
        let q : factor ≡ f * (items - i) + 0 = omega (arith, e, product, mul_comm (items - i) f) in
        ap (λ z. z / (items - i)) q ∙ div-mul-add f (items - i) 0 (omega (arith, l))

-- one change after another
pub keeps-itself : (s : BlockState) (k : ℕ) → KeepsOthers s s k
keeps-itself s k = record { graph = refl; tree = refl; locks = refl; others = λ j l n. refl }

pub same-choice : (a b : BlockState) (k : ℕ) → KeepsOthers a b k → (r : List (List ℕ)) (j : ℕ) → choice b.tree r j ≡ choice a.tree r j
same-choice a b k h r j = ap (λ z. choice z r j) h.tree

pub keeps-then : (a b c : BlockState) (k : ℕ) → KeepsOthers a b k → KeepsOthers b c k → KeepsOthers a c k
keeps-then a b c k f h = record {
  graph = h.graph ∙ f.graph;
  tree = h.tree ∙ f.tree;
  locks = h.locks ∙ f.locks;
  others = λ j l n. sym (same-choice a b k f c.rotation j) ∙ h.others j (subst (λ z. j < length z) (sym f.tree) l) n ∙ same-choice a b k f b.rotation j ∙ f.others j l n;
}

-- a place behind the first
pub place-behind : (c : List ℕ) (i : ℕ) → 0 < i → i < length c → is_member (slice_index_or c i 0) (drop 1 c) ≡ true
place-behind [] i n l = absurd (omega (arith, l))
place-behind (x ∷ c) zero n l = absurd (omega (arith, n))
place-behind (x ∷ c) (suc i) n l = member-at c i 0 (omega (arith, l))

-- one digit more
pub arranged-more : (c : List ℕ) (i j left factor items number : ℕ) → i < items → i ≤ j → j < length c → length c ≡ items → factor ≡ factorial (items - i) → left < factor
    → smaller (slice_index_or c j 0) (drop i c) ≡ left / (factor / (items - i)) → placed i c + left ≡ number → placed (i + 1) (swap c i j) + left % (factor / (items - i)) ≡ number
arranged-more c i j left factor items number l a b n f h q e =
    let d = digit-taken left factor items i l f h in
    let m : smaller (slice_index_or c j 0) (drop i c) * factorial (length c - (i + 1)) ≡ left / (factor / (items - i)) * factorial (items - (i + 1)) = ap₂ (λ u v. u * factorial (v - (i + 1))) q n in
    omega (arith, placed-swap c i j a b, m, d.whole, e)

-- all digits
pub arranged-all : (c : List ℕ) (i left factor items number : ℕ) → items ≤ i → length c ≡ items → factor ≡ factorial (items - i) → left < factor → placed i c + left ≡ number → factorial_number c ≡ number
arranged-all c i left factor items number l n f h e =
    let z : items - i ≡ 0 = omega (arith, l) in
    let o : factorial (items - i) ≡ 1 = ap factorial z in
    omega (arith, placed-all i c (omega (arith, l, n)), e, o, f, h)
