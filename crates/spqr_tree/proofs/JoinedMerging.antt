-- Groups while components are put into them one after the other.
use Rattle.std.proofs.Common.{◌≡◌, ◌≢◌, ℕ, ◌<◌, ◌==◌, ◌&&◌, inl, inr, Bool, true, false, not, cond, List, length, map, refl, sym, ap, ◌∙◌, subst, arith}
use Rattle.std.proofs.lemmas.Bool.{cases_Bool, cases_eq, both_ways, eq-eqb, eqb-true, ne_eqb, true_from_ne_false, true≢false}
use Rattle.permutations.proofs.Relation.{same-tests}
use Rattle.permutations.proofs.Sums.{sum_below-ext, sum_below-zero}
use Rattle.pair_split.specs.Skeleton.{IsSkeleton}
use Rattle.pair_split.specs.Split.{component_at, items_of, item_at, piece_ends, is_beyond, LinksTo, AreLinked}
use Rattle.pair_split.specs.declared.components.Kind.{Kind}
use Rattle.pair_split.specs.declared.components.What.{What}
use Rattle.pair_split.specs.declared.components.What.TheVariants.{Real, Link}
use Rattle.pair_split.specs.declared.components.Piece.{Piece}
use Rattle.pair_split.specs.declared.components.Comp.{Comp}
use Rattle.pair_split.proofs.Links.{no_piece}
use Rattle.pair_split.proofs.Subtrees.{link-in}
use Rattle.spqr_tree.specs.Merged.{how_many, is_outer, gathered, IsJoined, IsGroup}
use Rattle.spqr_tree.proofs.MergeCounts.{number-ext, number-within, sum-changed, share}
use Rattle.pair_split.proofs.TreeSides.{link-differs, link-from, beyond-far, beyond-near}
use Rattle.pair_split.proofs.LinkSides.{beyond-respects}

-- whether it is a link to d
abbrev pub is_link : ℕ → What → Bool
is_link d (Real e) = false
is_link d (Link j) = j == d

pub is_link-true : (d : ℕ) (what : What) → is_link d what ≡ true → what ≡ Link d
is_link-true d (Real e) h = absurd (true≢false (sym h))
is_link-true d (Link j) h = ap Link (eqb-true j d h)

pub link-is : (d : ℕ) (what : What) → what ≡ Link d → is_link d what ≡ true
link-is d what e = subst (λ w. is_link d w ≡ true) (sym e) (eq-eqb d d refl)

-- a link that is not outer leads into the group
pub inner-link : (lead : ℕ → ℕ) (k : ℕ) (what : What) → is_outer lead k what ≡ false → (j : ℕ) × (what ≡ Link j) × (lead j ≡ k)
inner-link lead k (Real e) h = absurd (true≢false h)
inner-link lead k (Link j) h = (j, refl, eqb-true (lead j) k (flip (lead j == k) h))
  where
    flip : (b : Bool) → not b ≡ false → b ≡ true
    flip b e = grind (arith, e, cases_Bool b)

pub link-inner : (lead : ℕ → ℕ) (k j : ℕ) (what : What) → what ≡ Link j → lead j ≡ k → is_outer lead k what ≡ false
link-inner lead k j what e h = subst (λ w. is_outer lead k w ≡ false) (sym e) (ap not (eq-eqb (lead j) k h))

pub link-outer : (lead : ℕ → ℕ) (k j : ℕ) (what : What) → what ≡ Link j → lead j ≢ k → is_outer lead k what ≡ true
link-outer lead k j what e h = subst (λ w. is_outer lead k w ≡ true) (sym e) (ap not (ne_eqb (lead j) k h))

pub outer-link : (lead : ℕ → ℕ) (k j : ℕ) (what : What) → what ≡ Link j → is_outer lead k what ≡ true → lead j ≢ k
outer-link lead k j what e h i = both_ways (is_outer lead k what) (link-inner lead k j what e i) h

-- tables that put a number into group k, or not, alike
same-group : (lead other : ℕ → ℕ) (k x : ℕ) → (lead x ≡ k → other x ≡ k) → (other x ≡ k → lead x ≡ k) → (lead x == k) ≡ (other x == k)
same-group lead other k x f h = same-tests (lead x == k) (other x == k) (λ t. eq-eqb (other x) k (f (eqb-true (lead x) k t))) (λ t. eq-eqb (lead x) k (h (eqb-true (other x) k t)))

-- tables that put the same numbers into a group have the same outer links
same-outer : (lead other : ℕ → ℕ) (k : ℕ) → ((x : ℕ) → (lead x == k) ≡ (other x == k)) → (what : What) → is_outer lead k what ≡ is_outer other k what
same-outer lead other k s (Real e) = refl
same-outer lead other k s (Link j) = ap not (s j)

-- and gather the same
pub same-gathered : (comps : List Comp) (lead other : ℕ → ℕ) (k : ℕ) → ((x : ℕ) → (lead x == k) ≡ (other x == k)) → (t : Piece → Bool) → gathered comps lead k t ≡ gathered comps other k t
same-gathered comps lead other k s t = sum_below-ext (length comps) (share comps lead k t) (share comps other k t) (λ x l. step x)
  where
    step : (x : ℕ) → share comps lead k t x ≡ share comps other k t x
    step x = ap (λ (b : Bool). cond b (how_many (λ p. is_outer lead k p.what && t p) (items_of comps x)) 0) (s x)
        ∙ ap (λ z. cond (other x == k) z 0) (number-ext (λ p. is_outer lead k p.what && t p) (λ p. is_outer other k p.what && t p) (items_of comps x) (λ p. ap (λ (b : Bool). b && t p) (same-outer lead other k s p.what)))

-- a group stays as it is when d is put into another one
pub group-kept : (comps : List Comp) (lead other : ℕ → ℕ) (k d : ℕ) (kind : Kind) (pieces : List Piece) → IsGroup comps lead k kind pieces → lead d ≢ k → other d ≢ k → ((x : ℕ) → x ≢ d → other x ≡ lead x)
    → IsGroup comps other k kind pieces
group-kept comps lead other k d kind pieces a n m e = record {
  member = (a.member.0, a.member.1, to a.member.0 a.member.2);
  kinds = λ x l h. a.kinds x l (from x h);
  joined = λ t r x y l o h i. a.joined t (λ u v s p q. r u v s (to u p) (to v q)) x y l o (from x h) (from y i);
  gathers = λ t. a.gathers t ∙ same-gathered comps lead other k (λ x. same-group lead other k x (to x) (from x)) t;
  of_kind = a.of_kind;
}
  where
    to : (x : ℕ) → lead x ≡ k → other x ≡ k
    to x h = e x (λ i. n (ap lead (sym i) ∙ h)) ∙ h

    from : (x : ℕ) → other x ≡ k → lead x ≡ k
    from x h = sym (e x (λ i. m (ap other (sym i) ∙ h))) ∙ h

module _ (comps : List Comp) (a : AreLinked comps) where
  -- a component alone is a group
  pub group-starts : (lead : ℕ → ℕ) (k c : ℕ) → c < length comps → IsSkeleton (component_at comps c).kind (map piece_ends (items_of comps c)) → lead c ≡ k → ((x : ℕ) → x < length comps → lead x ≡ k → x ≡ c)
      → IsGroup comps lead k (component_at comps c).kind (items_of comps c)
  group-starts lead k c l s e alone = record {
    member = (c, l, e);
    kinds = λ x m h. ap (λ z. (component_at comps z).kind) (alone x m h);
    joined = λ t r x y m n h i. ap t (alone x m h ∙ sym (alone y n i));
    gathers = λ t. omega (arith, sum-changed (length comps) (λ x. 0) (share comps lead k t) c l (others t), sum_below-zero (length comps), own t);
    of_kind = s;
  }
    where
      others : (t : Piece → Bool) (x : ℕ) → x < length comps → x ≢ c → share comps lead k t x ≡ 0
      others t x m n = ap (λ (b : Bool). cond b (how_many (λ p. is_outer lead k p.what && t p) (items_of comps x)) 0) (ne_eqb (lead x) k (λ h. n (alone x m h)))

      outer : (i : ℕ) → i < length (items_of comps c) → is_outer lead k (item_at comps c i).what ≡ true
      outer i m = true_from_ne_false (is_outer lead k (item_at comps c i).what) (λ f.
          let w = inner-link lead k (item_at comps c i).what f in
          link-differs comps a c c (subst (LinksTo comps c) (alone w.0 (link-in comps a c w.0 (i, (m, w.1))) w.2) (i, (m, w.1))) refl)

      own : (t : Piece → Bool) → share comps lead k t c ≡ how_many t (items_of comps c)
      own t = ap (λ (b : Bool). cond b (how_many (λ p. is_outer lead k p.what && t p) (items_of comps c)) 0) (eq-eqb (lead c) k e)
          ∙ number-within no_piece (λ p. is_outer lead k p.what && t p) t (items_of comps c) (λ i m. ap (λ (b : Bool). b && t (item_at comps c i)) (outer i m))

  -- two links from a group to the same component outside of it are from one component
  pub single-link : (lead : ℕ → ℕ) (k : ℕ) → IsJoined comps lead k → (x y d : ℕ) → lead x ≡ k → lead y ≡ k → lead d ≢ k → LinksTo comps x d → LinksTo comps y d → x ≡ y
  single-link lead k joined x y d h i n s w = elim (cases_eq x y) [
    | inl e ↦ e
    | inr m ↦ absurd (both_ways (is_beyond comps d x d)
        (beyond-near comps a d x (back x s))
        (sym (beyond-respects comps a d x y d w ((λ p q. n (ap lead (sym p) ∙ i)), (λ p q. m (sym p)))) ∙ sym beyond-group ∙ beyond-far comps a d x))
  ]
    where
      back : (z : ℕ) → LinksTo comps z d → LinksTo comps d z
      back z v = let r = a.back z d v.0 v.1 in (r.0, r.1)

      beyond-group : is_beyond comps d x x ≡ is_beyond comps d x y
      beyond-group = joined (is_beyond comps d x) (λ p q v f r. beyond-respects comps a d x p q v ((λ z b. n (ap lead (sym z) ∙ f)), (λ z b. n (ap lead (sym b) ∙ r)))) x y (link-from comps a x d s) (link-from comps a y d w) h i
