-- The table of the blocks of all edges, noted block by block.
use Rattle.std.proofs.Common.{◌≡◌, ◌≢◌, ℕ, suc, ◌+◌, ◌<◌, inl, inr, Bool, true, false, ◌||◌, cond, List, [], ◌∷◌, ◌++◌, length, map, take, set, slice_index, refl, sym, ap, ◌∙◌, subst, arith}
use Rattle.std.proofs.lemmas.Bool.{cases_Bool, cases_eq, both_ways, cond-true, cond-false}
use Rattle.std.proofs.lemmas.List.{take_more, get_or-set_same, get_or-set_other}
use Rattle.permutations.specs.Members.{is_member}
use Rattle.permutations.proofs.Members.{member-head, member-append, member-append_right, no_member-cons}
use Rattle.multigraph.specs.Graph.{Multigraph, edge_count, IsGraph}
use Rattle.blocks.specs.Blocks.{BlockStructure, block_at, IsBlockStructure}
use Rattle.whole_embed.specs.Component.{block_of}
use Rattle.whole_embed.specs.Frames.{AreNoted, AreNotedBelow}
use Rattle.whole_embed.proofs.Components.{block_of-has, block_of-is}

-- one edge more
pub noted-more : (edges : List ℕ) (b i : ℕ) (old mid new : List ℕ) → i < length edges → slice_index edges i < length mid → AreNoted (take i edges) b old mid → length mid ≡ length old → new ≡ set mid (slice_index edges i) b → AreNoted (take (i + 1) edges) b old new
noted-more edges b i old mid new h w n same is e l = subst (λ (z : List ℕ). slice_index z e ≡ cond (is_member e (take (i + 1) edges)) b (slice_index old e)) (sym is)
    (subst (λ (z : List ℕ). slice_index (set mid x b) e ≡ cond (is_member e z) b (slice_index old e)) (sym (take_more edges i 0 h)) (elim (cases_eq e x) [
      | inl q ↦ subst (λ (z : ℕ). slice_index (set mid x b) z ≡ cond (is_member z (take i edges ++ x ∷ [])) b (slice_index old z)) (sym q)
          (get_or-set_same mid x b 0 w ∙ sym (cond-true (is_member x (take i edges ++ x ∷ [])) b (slice_index old x) (member-append_right x (take i edges) (x ∷ []) (member-head x []))))
      | inr d ↦ get_or-set_other mid x e b 0 d ∙ (n e l ∙ ap (λ (z : Bool). cond z b (slice_index old e)) (sym (outside d)))
    ]))
  where
    x : ℕ
    x = slice_index edges i

    outside : e ≢ slice_index edges i → is_member e (take i edges ++ slice_index edges i ∷ []) ≡ is_member e (take i edges)
    outside d = member-append e (take i edges) (x ∷ []) ∙ (ap (λ (z : Bool). is_member e (take i edges) || z) (no_member-cons e x [] (λ q. d (sym q)) refl) ∙ or-false (is_member e (take i edges)))
      where
        or-false : (c : Bool) → (c || false) ≡ c
        or-false true = refl
        or-false false = refl

module _ (g : Multigraph) (s : BlockStructure) (is : IsBlockStructure g s) (ok : IsGraph g) where
  -- one block more
  pub below-more : (b : ℕ) (old new : List ℕ) → b < length s.blocks → AreNotedBelow g s.blocks b old → AreNoted (block_at s.blocks b) b old new → length new ≡ length old → AreNotedBelow g s.blocks (b + 1) new
  below-more b old new l h n same = record {
    each = same ∙ h.each;
    is = λ e k less. elim (cases_Bool (is_member e (block_at s.blocks b))) [
      | inl t ↦ n e (omega (arith, k, h.each)) ∙ (cond-true (is_member e (block_at s.blocks b)) b (slice_index old e) t ∙ sym (block_of-is g s 0 is ok b e l t))
      | inr f ↦ n e (omega (arith, k, h.each)) ∙ (cond-false (is_member e (block_at s.blocks b)) b (slice_index old e) f ∙ h.is e k (below e k less f))
    ];
  }
    where
      below : (e : ℕ) → e < edge_count g → block_of s.blocks e < b + 1 → is_member e (block_at s.blocks b) ≡ false → block_of s.blocks e < b
      below e k less f = elim (cases_eq (block_of s.blocks e) b) [
        | inl q ↦ absurd (both_ways (is_member e (block_at s.blocks b)) f (subst (λ (z : ℕ). is_member e (block_at s.blocks z) ≡ true) q (block_of-has g s 0 is ok e k).1))
        | inr d ↦ omega (arith, less, d)
      ]

  -- the blocks of some edges, by the table
  pub picked : (table edges : List ℕ) → AreNotedBelow g s.blocks (length s.blocks) table → ((i : ℕ) → i < length edges → slice_index edges i < edge_count g) → map (slice_index table) edges ≡ map (block_of s.blocks) edges
  picked table [] h w = refl
  picked table (e ∷ edges) h w =
      let first : slice_index table e ≡ block_of s.blocks e = h.is e (w 0 (omega arith)) (block_of-has g s 0 is ok e (w 0 (omega arith))).0 in
      (λ i. first i ∷ picked table edges h (λ j l. w (suc j) (omega (arith, l))) i)
