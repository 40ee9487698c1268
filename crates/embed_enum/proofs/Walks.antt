-- From changes of single nodes to places in the list.
use Rattle.std.proofs.Common.{◌≡◌, ◌≢◌, ℕ, suc, ◌+◌, ◌/◌, ◌%◌, ◌<◌, ◌≤◌, cond, Bool, true, false, List, [], length, slice_index_or, add-one, refl, sym, ap, ap₂, ◌∙◌, subst, arith, inl, inr}
use Rattle.std.proofs.lemmas.Bool.{cases_Bool, cases_eq, cases_order, both_ways}
use Rattle.pair_split.specs.Tutte.{Node, node_at}
use Rattle.multigraph.specs.Graph.{Multigraph}
use Rattle.choice_lists.proofs.ToldByChoices.{product_to}
use Rattle.faces.specs.Euler.{IsPlaneSystem}
use Rattle.skeletons.specs.Choices.{choice, Precedes}
use Rattle.skeletons.specs.Lists.{KeepsChoices, IsListOf, IsKept, IsKeptList, IsRank, list_count}
use Rattle.skel_embed.specs.Block.{BlockState, lock_at, IsBlockState}
use Rattle.embed_enum.specs.Digits.{digit_of, radix_at, digit_at, number_to}
use Rattle.embed_enum.specs.Walk.{IsMemberList, KeepsRest}
use Rattle.embed_enum.specs.Changes.{KeepsOthers, IsMoved, node_digit, AreReset, IsNumbered}
use Rattle.embed_enum.proofs.Digits.{behind, behind-all, behind-divided, behind-same, number-next, number-last, number-zero, quotient-below, count-product}
use Rattle.embed_enum.proofs.Counts.{radix-positive}
use Rattle.embed_enum.proofs.Ranks.{rank-number}
use Rattle.embed_enum.proofs.States.{state-rank}
use Rattle.skeletons.proofs.Before.{not-both}

-- the list of a member is the list
pub list-moved : (g : Multigraph) (nodes : List Node) (locked : ℕ → Bool) (r q : List (List ℕ)) (l : List (List (List ℕ))) → KeepsChoices nodes locked r q → IsKeptList g nodes locked r l → IsKeptList g nodes locked q l
list-moved g nodes locked r q l same k = record {
  rising = k.rising;
  members = λ s. (
    λ c. let m = (k.members s).0 c in record { plane = m.plane; keeps = λ j b y. m.keeps j b y ∙ sym (same j b y) },
    λ m. (k.members s).1 (record { plane = m.plane; keeps = λ j b y. m.keeps j b y ∙ same j b y }),
  );
}

-- of the same block with other choices
pub list-after : (old new : BlockState) → KeepsRest old new → KeepsChoices old.tree (lock_at old.locks) old.rotation new.rotation → (l : List (List (List ℕ))) → IsMemberList old l → IsMemberList new l
list-after old new h same l m =
    let a : IsKeptList old.graph old.tree (lock_at old.locks) new.rotation l = list-moved old.graph old.tree (lock_at old.locks) old.rotation new.rotation l same m in
    subst (λ z. IsKeptList z new.tree (lock_at new.locks) new.rotation l) (sym h.graph)
    (subst (λ z. IsKeptList old.graph z (lock_at new.locks) new.rotation l) (sym h.tree)
    (subst (λ z. IsKeptList old.graph old.tree (lock_at z) new.rotation l) (sym h.locks) a))

-- the place is the number of the choices
pub rank-after : (old new : BlockState) → IsBlockState old → IsBlockState new → (number : ℕ) → IsNumbered old new number → (l : List (List (List ℕ))) → IsMemberList old l → IsRank l new.rotation number
rank-after old new a b number h l m =
    let p : IsPlaneSystem old.graph new.rotation = subst (λ z. IsPlaneSystem z new.rotation) h.rest.graph b.plane in
    subst (IsRank l new.rotation) h.is
    (rank-number old.graph old.tree a.block new.rotation p (lock_at old.locks) l (list-moved old.graph old.tree (lock_at old.locks) old.rotation new.rotation l h.kept m))

-- the digits of a node
pub open-digit : (old new : BlockState) → KeepsRest old new → (k : ℕ) → lock_at old.locks k ≡ false → digit_at old.tree (lock_at old.locks) new.rotation k ≡ node_digit new k
open-digit old new h k n =
    ap (λ z. cond z 0 (digit_of (node_at old.tree k).kind (choice old.tree new.rotation k))) n
    ∙ sym (ap (λ t. digit_of (node_at t k).kind (choice t new.rotation k)) h.tree)

pub locked-digit : (nodes : List Node) (locked : ℕ → Bool) (r : List (List ℕ)) (k : ℕ) → locked k ≡ true → digit_at nodes locked r k ≡ 0
locked-digit nodes locked r k y = ap (λ z. cond z 0 (digit_of (node_at nodes k).kind (choice nodes r k))) y

-- the same choice, the same digit
pub same-digit : (nodes : List Node) (locked : ℕ → Bool) (r q : List (List ℕ)) (k : ℕ) → choice nodes q k ≡ choice nodes r k → digit_at nodes locked q k ≡ digit_at nodes locked r k
same-digit nodes locked r q k e = ap (λ (z : List ℕ). cond (locked k) 0 (digit_of (node_at nodes k).kind z)) e

-- a change of one node leaves the rest
pub rest-of : (old new : BlockState) (k : ℕ) → KeepsOthers old new k → KeepsRest old new
rest-of old new k h = record { graph = h.graph; tree = h.tree; locks = h.locks }

pub rest-itself : (s : BlockState) → KeepsRest s s
rest-itself s = record { graph = refl; tree = refl; locks = refl }

pub rest-then : (a b c : BlockState) → KeepsRest a b → KeepsRest b c → KeepsRest a c
rest-then a b c f h = record { graph = h.graph ∙ f.graph; tree = h.tree ∙ f.tree; locks = h.locks ∙ f.locks }

-- one node more: locked
pub reset-locked : (old new : BlockState) (from k : ℕ) → AreReset old new from k → lock_at old.locks k ≡ true → AreReset old new from (k + 1)
reset-locked old new from k h y = record {
  rest = h.rest;
  kept = λ j l f. h.kept j l (λ a b. f a (omega (arith, b)));
  first = λ j a b n. elim (cases_eq j k) [
    | inl e ↦ absurd (both_ways (lock_at old.locks k) (subst (λ z. lock_at old.locks z ≡ false) e n) y)
    | inr d ↦ h.first j a (omega (arith, b, d)) n
  ];
}

-- or brought to its first choice
pub reset-more : (old mid new : BlockState) (from k : ℕ) → from ≤ k → k < length old.tree → lock_at old.locks k ≡ false → AreReset old mid from k → IsMoved mid new k 0 → AreReset old new from (k + 1)
reset-more old mid new from k a l n h m = record {
  rest = rest-then old mid new h.rest (rest-of mid new k m.0);
  kept = λ j b f. elim (cases_eq j k) [
    | inl e ↦ absurd (both_ways (lock_at old.locks k) n (subst (λ z. lock_at old.locks z ≡ true) e (f (omega (arith, a, e)) (omega (arith, e)))))
    | inr d ↦ stays j b d ∙ h.kept j b (λ u v. f u (omega (arith, v)))
  ];
  first = λ j u v w. elim (cases_eq j k) [
    | inl e ↦ ap (node_digit new) e ∙ m.1
    | inr d ↦ digit j (omega (arith, l, v, d)) d ∙ h.first j u (omega (arith, v, d)) w
  ];
}
  where
    stays : (j : ℕ) → j < length old.tree → j ≢ k → choice old.tree new.rotation j ≡ choice old.tree mid.rotation j
    stays j b d = subst (λ (t : List Node). choice t new.rotation j ≡ choice t mid.rotation j) h.rest.tree (m.0.others j (subst (λ (t : List Node). j < length t) (sym h.rest.tree) b) d)

    digit : (j : ℕ) → j < length old.tree → j ≢ k → node_digit new j ≡ node_digit mid j
    digit j b d =
        ap (λ (t : List Node). digit_of (node_at t j).kind (choice t new.rotation j)) m.0.tree
        ∙ ap (λ (z : List ℕ). digit_of (node_at mid.tree j).kind z) (m.0.others j (subst (λ (t : List Node). j < length t) (sym h.rest.tree) b) d)

-- all nodes at their first choices: the number 0
pub reset-number : (old new : BlockState) → AreReset old new 0 (length old.tree) → IsNumbered old new 0
reset-number old new h = record {
  rest = h.rest;
  kept = λ j l y. h.kept j l (λ a b. y);
  is = number-zero (length old.tree) (radix_at old.tree (lock_at old.locks)) (digit_at old.tree (lock_at old.locks) new.rotation) zero-digit;
}
  where
    zero-digit : (k : ℕ) → k < length old.tree → digit_at old.tree (lock_at old.locks) new.rotation k ≡ 0
    zero-digit k l = elim (cases_Bool (lock_at old.locks k)) [
      | inl y ↦ locked-digit old.tree (lock_at old.locks) new.rotation k y
      | inr n ↦ open-digit old new h.rest k n ∙ h.first k (omega arith) l n
    ]

-- node k one on, those behind it reset, and before they were at their last: the number goes one up
pub next-number : (old mid new : BlockState) (k : ℕ) → k < length old.tree → lock_at old.locks k ≡ false → IsMoved old mid k (node_digit old k + 1) → AreReset mid new (k + 1) (length mid.tree)
    → ((j : ℕ) → k < j → j < length old.tree → digit_at old.tree (lock_at old.locks) old.rotation j + 1 ≡ radix_at old.tree (lock_at old.locks) j)
    → IsNumbered old new (number_to (length old.tree) (radix_at old.tree (lock_at old.locks)) (digit_at old.tree (lock_at old.locks) old.rotation) + 1)
next-number old mid new k l n m r last = record {
  rest = rest;
  kept = λ j b y. elim (cases_eq j k) [
    | inl e ↦ absurd (both_ways (lock_at old.locks k) n (subst (λ z. lock_at old.locks z ≡ true) e y))
    | inr d ↦ kept j b (λ u v. subst (λ z. lock_at z j ≡ true) (sym m.0.locks) y) ∙ m.0.others j b d
  ];
  is = number-next (length old.tree) k (radix_at old.tree (lock_at old.locks)) (digit_at old.tree (lock_at old.locks) old.rotation) (digit_at old.tree (lock_at old.locks) new.rotation) l before here last behind-it;
}
  where
    rest : KeepsRest old new
    rest = rest-then old mid new (rest-of old mid k m.0) r.rest

    kept : (j : ℕ) → j < length old.tree → (k + 1 ≤ j → j < length mid.tree → lock_at mid.locks j ≡ true) → choice old.tree new.rotation j ≡ choice old.tree mid.rotation j
    kept j b f = subst (λ (t : List Node). choice t new.rotation j ≡ choice t mid.rotation j) m.0.tree (r.kept j (subst (λ (t : List Node). j < length t) (sym m.0.tree) b) f)

    before : (j : ℕ) → j < k → digit_at old.tree (lock_at old.locks) new.rotation j ≡ digit_at old.tree (lock_at old.locks) old.rotation j
    before j b = same-digit old.tree (lock_at old.locks) old.rotation new.rotation j (kept j (omega (arith, b, l)) (λ u v. absurd (omega (arith, u, b))) ∙ m.0.others j (omega (arith, b, l)) (λ e. omega (arith, e, b)))

    here : digit_at old.tree (lock_at old.locks) new.rotation k ≡ digit_at old.tree (lock_at old.locks) old.rotation k + 1
    here =
        same-digit old.tree (lock_at old.locks) mid.rotation new.rotation k (kept k l (λ u v. absurd (omega (arith, u))))
        ∙ open-digit old mid (rest-of old mid k m.0) k n ∙ m.1 ∙ ap (λ z. z + 1) (sym (open-digit old old (rest-itself old) k n))

    behind-it : (j : ℕ) → k < j → j < length old.tree → digit_at old.tree (lock_at old.locks) new.rotation j ≡ 0
    behind-it j a b = elim (cases_Bool (lock_at old.locks j)) [
      | inl y ↦ locked-digit old.tree (lock_at old.locks) new.rotation j y
      | inr w ↦ open-digit old new rest j w ∙ r.first j (omega (arith, a)) (subst (λ (t : List Node). j < length t) (sym m.0.tree) b) (subst (λ z. lock_at z j ≡ false) (sym m.0.locks) w)
    ]

-- all digits last: the last place
pub last-number : (s : BlockState) → ((j : ℕ) → j < length s.tree → digit_at s.tree (lock_at s.locks) s.rotation j + 1 ≡ radix_at s.tree (lock_at s.locks) j)
    → number_to (length s.tree) (radix_at s.tree (lock_at s.locks)) (digit_at s.tree (lock_at s.locks) s.rotation) + 1 ≡ list_count s.tree (lock_at s.locks)
last-number s h = number-last (length s.tree) (radix_at s.tree (lock_at s.locks)) (digit_at s.tree (lock_at s.locks) s.rotation) h ∙ sym (count-product s.tree (lock_at s.locks) (length s.tree))

-- a member stands at one place of a list
pub one-rank : (nodes : List Node) (M : List (List ℕ) → Type 0) (l : List (List (List ℕ))) (r : List (List ℕ)) (i j : ℕ) → IsListOf nodes M l → IsRank l r i → IsRank l r j → i ≡ j
one-rank nodes M l r i j h a b = elim (cases_order i j) [
  | inl e ↦ e
  | inr (inl k) ↦ absurd (before i j k a b)
  | inr (inr k) ↦ absurd (before j i k b a)
]
  where
    before : (i j : ℕ) → i < j → IsRank l r i → IsRank l r j → ⊥
    before i j k a b =
        let p : Precedes nodes r r = subst (λ z. Precedes nodes z r) a.is_there (subst (λ z. Precedes nodes (slice_index_or l i []) z) b.is_there (h.rising i j [] k b.within)) in
        not-both nodes r r p p

-- the place of the present rotation system
pub rank-is : (s : BlockState) → IsBlockState s → (l : List (List (List ℕ))) (i : ℕ) → IsMemberList s l → IsRank l s.rotation i → i ≡ number_to (length s.tree) (radix_at s.tree (lock_at s.locks)) (digit_at s.tree (lock_at s.locks) s.rotation)
rank-is s h l i m k = one-rank s.tree (IsKept s.graph s.tree (lock_at s.locks) s.rotation) l s.rotation i (number_to (length s.tree) (radix_at s.tree (lock_at s.locks)) (digit_at s.tree (lock_at s.locks) s.rotation)) m k (state-rank s h l m)

-- the nodes from k on make the number where those before them make `left`
pub record IsNumberedFrom (old new : BlockState) (k left number : ℕ) : Type 0 where
  pub rest : KeepsRest old new
  pub kept : (j : ℕ) → j < length old.tree → lock_at old.locks j ≡ true → choice old.tree new.rotation j ≡ choice old.tree old.rotation j
  pub m : ℕ
  pub all : k + m ≡ length old.tree
  pub is : behind left k m (radix_at old.tree (lock_at old.locks)) (digit_at old.tree (lock_at old.locks) new.rotation) ≡ number
  pub below : left < product_to k (radix_at old.tree (lock_at old.locks))

pub numbered-begins : (s : BlockState) (number : ℕ) → number < list_count s.tree (lock_at s.locks) → IsNumberedFrom s s (length s.tree) number number
numbered-begins s number l = record {
  rest = rest-itself s;
  kept = λ j b y. refl;
  m = 0;
  all = omega arith;
  is = refl;
  below = omega (arith, l, count-product s.tree (lock_at s.locks) (length s.tree));
}

pub numbered-more : (old mid new : BlockState) (k left number : ℕ) → IsNumberedFrom old mid (k + 1) left number → KeepsOthers mid new k → (lock_at old.locks k ≡ true → new ≡ mid)
    → digit_at old.tree (lock_at old.locks) new.rotation k ≡ left % radix_at old.tree (lock_at old.locks) k → IsNumberedFrom old new k (left / radix_at old.tree (lock_at old.locks) k) number
numbered-more old mid new k left number h o same d = record {
  rest = rest-then old mid new h.rest (rest-of mid new k o);
  kept = held;
  m = suc h.m;
  all = omega (arith, h.all);
  is = behind-divided left k h.m (radix_at old.tree (lock_at old.locks)) (digit_at old.tree (lock_at old.locks) new.rotation) (radix-positive old.tree (lock_at old.locks) k) d
      ∙ behind-same left (k + 1) h.m (radix_at old.tree (lock_at old.locks)) (digit_at old.tree (lock_at old.locks) new.rotation) (digit_at old.tree (lock_at old.locks) mid.rotation)
      (λ j a b. same-digit old.tree (lock_at old.locks) mid.rotation new.rotation j (stays j (omega (arith, b, h.all)) (λ e. omega (arith, e, a))))
      ∙ h.is;
  below = quotient-below left k (radix_at old.tree (lock_at old.locks)) (radix-positive old.tree (lock_at old.locks) k) (let e : product_to (k + 1) (radix_at old.tree (lock_at old.locks)) ≡ product_to (suc k) (radix_at old.tree (lock_at old.locks)) = ap (λ z. product_to z (radix_at old.tree (lock_at old.locks))) (add-one k) in omega (arith, e, h.below));
}
  where
    stays : (j : ℕ) → j < length old.tree → j ≢ k → choice old.tree new.rotation j ≡ choice old.tree mid.rotation j
    stays j b n = subst (λ (t : List Node). choice t new.rotation j ≡ choice t mid.rotation j) h.rest.tree (o.others j (subst (λ (t : List Node). j < length t) (sym h.rest.tree) b) n)

    held : (j : ℕ) → j < length old.tree → lock_at old.locks j ≡ true → choice old.tree new.rotation j ≡ choice old.tree old.rotation j
    held j b y = elim (cases_eq j k) [
      | inl e ↦ ap (λ (s : BlockState). choice old.tree s.rotation j) (same (subst (λ z. lock_at old.locks z ≡ true) e y)) ∙ h.kept j b y
      | inr n ↦ stays j b n ∙ h.kept j b y
    ]

pub numbered-ends : (old new : BlockState) (k left number : ℕ) → k ≡ 0 → IsNumberedFrom old new k left number → IsNumbered old new number
numbered-ends old new k left number z h = record {
  rest = h.rest;
  kept = h.kept;
  is = sym (behind-all (length old.tree) (radix_at old.tree (lock_at old.locks)) (digit_at old.tree (lock_at old.locks) new.rotation)) ∙ ends h.m h.all h.is h.below;
}
  where
    ends : (m : ℕ) → k + m ≡ length old.tree → behind left k m (radix_at old.tree (lock_at old.locks)) (digit_at old.tree (lock_at old.locks) new.rotation) ≡ number → left < product_to k (radix_at old.tree (lock_at old.locks))
        → behind 0 0 (length old.tree) (radix_at old.tree (lock_at old.locks)) (digit_at old.tree (lock_at old.locks) new.rotation) ≡ number
    ends m a e b =
        let one : product_to k (radix_at old.tree (lock_at old.locks)) ≡ 1 = ap (λ u. product_to u (radix_at old.tree (lock_at old.locks))) z in
        let nothing : 0 ≡ left = omega (arith, b, one) in
        let n : length old.tree ≡ m = omega (arith, a, z) in
        ap₂ (λ u v. behind u 0 v (radix_at old.tree (lock_at old.locks)) (digit_at old.tree (lock_at old.locks) new.rotation)) nothing n
        ∙ ap (λ u. behind left u m (radix_at old.tree (lock_at old.locks)) (digit_at old.tree (lock_at old.locks) new.rotation)) (sym z) ∙ e
