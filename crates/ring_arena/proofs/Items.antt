-- The elements of a vector behind a `&`, one by one. Assumes `Logic` where it speaks of what is held.
use Rattle.std.proofs.Common.{◌≡◌, ℕ, zero, suc, ◌+◌, ◌*◌, ◌/◌, ◌<◌, List, [], ◌∷◌, length, slice_get, Some, refl, sym, ap, ◌∙◌, add_comm, arith}
use seplogic.Ra.Ura.{Ura}
use base.Logic.{ent}
use base.Fml.{Lft, fhide}
use types.Logic.{Logic, sem}
use types.Kit.{‵, ◌$◌, ◌∵◌, !, qed, by, use1, keep, drop, rewrite, fsplit, done}
use Rattle.std.proofs.Math.Nat.{mul-div_cancel}
use Rattle.std.proofs.lemmas.Option.{same_Some}
use denote.RattleType.{RattleType}
use denote.RawPtr.{Ptr, InBlock, block_ptr, null_ptr, count_of, ◌+ₚ◌}
use denote.Memory.{mem, hidden_shr}
use denote.Opens.{unhide, hide}
use denote.Slice.{elements_shared}
use denote.Index.{place, place_is}

-- the element at a place of a list
pub some_item : {X : Type 0} (xs : List X) (i : ℕ) → i < length xs → (x : X) × (slice_get xs i ≡ Some x)
some_item [] i l = absurd (omega arith)
some_item (x ∷ xs) zero l = (x, refl)
some_item (x ∷ xs) (suc i) l = some_item xs i (omega arith)

-- elements that take room have different places
pub same_place : (p : Ptr) → InBlock p → (s i j : ℕ) → 0 < s → p +ₚ i * s ≡ p +ₚ j * s → i ≡ j
same_place null_ptr inb s i j pos e = absurd inb
same_place (block_ptr b o) inb s i j pos e =
    let far : o + i * s ≡ o + j * s = ap count_of e in let near : i * s ≡ j * s = omega arith in
    sym (mul-div_cancel i pos) ∙ ap (λ (k : ℕ). k / s) near ∙ mul-div_cancel j pos

module _ (R : RattleType) {M : Type 1} {𝓤 : Ura M} (𝓛 : Logic 𝓤) (κ : Lft) where
  one_lent : (b o : ℕ) (xs : List R.Denot) (i : ℕ) (x : R.Denot) → slice_get xs i ≡ Some x
      → ent 𝓤 (sem 𝓛 (fhide (elements_shared R xs b o κ))) (sem 𝓛 (hidden_shr R κ x b (place (mem R).size o i)))
  one_lent b o [] i x e = absurd cc
  one_lent b o (y ∷ ys) zero x e = qed 𝓛 (‵ (fhide (elements_shared R (y ∷ ys) b o κ)) ∷ []) ∵
      unhide ! $ fsplit ! $ hide ! $ keep ! (0 ∷ []) $ rewrite ! 0 (λ (z : R.Denot). ‵ (hidden_shr R κ z b o)) (same_Some y x e) refl $ done !
  one_lent b o (y ∷ ys) (suc i) x e = qed 𝓛 (‵ (fhide (elements_shared R (y ∷ ys) b o κ)) ∷ []) ∵
      unhide ! $ fsplit ! $ drop ! $ hide ! $ by ! (one_lent b (o + (mem R).size) ys i x e)

  -- a `&` to the elements holds a `&` to each
  pub item_lent : (b o : ℕ) (xs : List R.Denot) (i : ℕ) (x : R.Denot) → slice_get xs i ≡ Some x
      → ent 𝓤 (sem 𝓛 (fhide (elements_shared R xs b o κ))) (sem 𝓛 (hidden_shr R κ x b (o + i * (mem R).size)))
  item_lent b o xs i x e = qed 𝓛 (‵ (fhide (elements_shared R xs b o κ)) ∷ []) ∵
      use1 𝓛 (‵ (hidden_shr R κ x b (place (mem R).size o i))) (one_lent b o xs i x e) $
      rewrite ! 0 (λ (k : ℕ). ‵ (hidden_shr R κ x b k)) (place_is (mem R).size o i ∙ add_comm (i * (mem R).size) o) refl $ done !
