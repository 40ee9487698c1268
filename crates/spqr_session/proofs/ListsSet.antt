-- Lists that are set at vertices, and those that are removed.
use Rattle.std.proofs.Common.{◌≡◌, ◌≢◌, ℕ, ◌+◌, ◌<◌, ◌⊎◌, inl, inr, true, false, List, [], ◌∷◌, ◌++◌, length, map, replicate, take, slice_index, slice_index_or, slice_set, Option, None, Some, refl, sym, ap, ◌∙◌, subst, arith, append_assoc}
use Rattle.std.proofs.lemmas.Bool.{cases_Bool, cases_eq, cases_lt, true≢false}
use Rattle.std.proofs.lemmas.List.{length-set, set-get_or, take_more, get_or-set_same, get_or-set_other, get_or_past, get_or-replicate, length-replicate, ext_get_or}
use Rattle.permutations.specs.Members.{is_member}
use Rattle.permutations.proofs.Members.{member-cases, no_member-head, no_member-tail}
use Rattle.undo_log.specs.declared.step.CutChange.{CutChange}
use Rattle.spqr_session.specs.History.{lists_set, lists_cleared, list_after, list_before}
use Rattle.spqr_session.specs.Board.{removal, clearing, clearings, Clears}

-- no list is set where there is none
pub set-none : (lists : List (Option (List ℕ))) (v : ℕ) → slice_index_or lists v None ≡ None → slice_set lists v None ≡ lists
set-none lists v e = ap (slice_set lists v) (sym e) ∙ set-get_or lists v None

-- and none is there afterwards
none-same : (lists : List (Option (List ℕ))) (v : ℕ) → slice_index_or (slice_set lists v None) v None ≡ None
none-same lists v = elim (cases_lt v (length lists)) [
  | inl l ↦ get_or-set_same lists v None None l
  | inr n ↦ get_or_past (slice_set lists v None) v None (omega (arith, n, length-set lists v None))
]

pub none-set : (lists : List (Option (List ℕ))) (v u : ℕ) → slice_index_or lists u None ≡ None → slice_index_or (slice_set lists v None) u None ≡ None
none-set lists v u e = elim (cases_eq u v) [
  | inl q ↦ subst (λ (z : ℕ). slice_index_or (slice_set lists v None) z None ≡ None) (sym q) (none-same lists v)
  | inr n ↦ get_or-set_other lists v u None None n ∙ e
]

abbrev pub no_list : Option (List ℕ)
no_list = None

-- no list is kept
pub none-kept : (n v : ℕ) → slice_index_or (replicate n no_list) v no_list ≡ no_list
none-kept n v = elim (cases_lt v n) [
  | inl l ↦ get_or-replicate n v no_list no_list l
  | inr f ↦ get_or_past (replicate n no_list) v no_list (omega (arith, f, length-replicate n no_list))
]

-- ---- removed lists

pub cleared-length : (vs : List ℕ) (lists : List (Option (List ℕ))) → length (lists_cleared vs lists) ≡ length lists
cleared-length [] lists = refl
cleared-length (v ∷ vs) lists = cleared-length vs (slice_set lists v None) ∙ length-set lists v None

pub set-length : (ps : List (ℕ × Option (List ℕ))) (lists : List (Option (List ℕ))) → length (lists_set ps lists) ≡ length lists
set-length [] lists = refl
set-length (p ∷ ps) lists = set-length ps (slice_set lists p.0 p.1) ∙ length-set lists p.0 p.1

-- where there is none, there is none afterwards
pub cleared-none : (vs : List ℕ) (lists : List (Option (List ℕ))) (u : ℕ) → slice_index_or lists u None ≡ None → slice_index_or (lists_cleared vs lists) u None ≡ None
cleared-none [] lists u e = e
cleared-none (v ∷ vs) lists u e = cleared-none vs (slice_set lists v None) u (none-set lists v u e)

-- there is none at the vertices
pub cleared-there : (vs : List ℕ) (lists : List (Option (List ℕ))) (u : ℕ) → is_member u vs ≡ true → slice_index_or (lists_cleared vs lists) u None ≡ None
cleared-there [] lists u m = absurd (true≢false (sym m))
cleared-there (v ∷ vs) lists u m = elim (member-cases u v vs m) [
  | inl e ↦ cleared-none vs (slice_set lists v None) u (subst (λ (z : ℕ). slice_index_or (slice_set lists v None) z None ≡ None) e (none-same lists v))
  | inr t ↦ cleared-there vs (slice_set lists v None) u t
]

-- and elsewhere they stay
pub cleared-other : (vs : List ℕ) (lists : List (Option (List ℕ))) (u : ℕ) → is_member u vs ≡ false → slice_index_or (lists_cleared vs lists) u None ≡ slice_index_or lists u None
cleared-other [] lists u f = refl
cleared-other (v ∷ vs) lists u f = cleared-other vs (slice_set lists v None) u (no_member-tail u v vs f) ∙ get_or-set_other lists v u None None (λ e. no_member-head u v vs f (sym e))

-- ---- the changes that remove lists

-- of the vertices so far, and one more
pub clearings-more : (all : List (Option (List ℕ))) (vs : List ℕ) (v : ℕ) → clearings all (vs ++ v ∷ []) ≡ clearings all vs ++ clearing all v
clearings-more all [] v = nil (clearing all v)
  where
    nil : (l : List CutChange) → l ++ [] ≡ l
    nil [] = refl
    nil (x ∷ l) = ap (λ (k : List CutChange). x ∷ k) (nil l)
clearings-more all (u ∷ vs) v = ap (λ (l : List CutChange). clearing all u ++ l) (clearings-more all vs v) ∙ sym (append_assoc (clearing all u) (clearings all vs) (clearing all v))

module _ (all : List (Option (List ℕ))) where
  -- the lists are removed, where those are that were there at first or are removed already
  forth-one : (vs : List ℕ) (v : ℕ) (lists : List (Option (List ℕ))) → ((u : ℕ) → slice_index_or all u None ≡ None → slice_index_or lists u None ≡ None)
      → ((x : List (Option (List ℕ))) → ((u : ℕ) → slice_index_or all u None ≡ None → slice_index_or x u None ≡ None) → lists_set (map list_after (clearings all vs)) x ≡ lists_cleared vs x)
      → (o : Option (List ℕ)) → slice_index_or all v None ≡ o → lists_set (map list_after (removal v o ++ clearings all vs)) lists ≡ lists_cleared vs (slice_set lists v None)
  forth-one vs v lists h rest None e = rest lists h ∙ ap (lists_cleared vs) (sym (set-none lists v (h v e)))
  forth-one vs v lists h rest (Some l) e = rest (slice_set lists v None) (λ u n. none-set lists v u (h u n))

  forth-of : (vs : List ℕ) (lists : List (Option (List ℕ))) → ((u : ℕ) → slice_index_or all u None ≡ None → slice_index_or lists u None ≡ None) → lists_set (map list_after (clearings all vs)) lists ≡ lists_cleared vs lists
  forth-of [] lists h = refl
  forth-of (v ∷ vs) lists h = forth-one vs v lists h (λ x k. forth-of vs x k) (slice_index_or all v None) refl

  -- a list is there, or was removed
  abbrev Either : List (Option (List ℕ)) → List ℕ → ℕ → Type 0
  Either lists vs u = (slice_index_or lists u None ≡ slice_index_or all u None) ⊎ ((is_member u vs ≡ true) × (slice_index_or lists u None ≡ None))

  -- so it is after one vertex
  either-none : (vs : List ℕ) (v : ℕ) (lists : List (Option (List ℕ))) (u : ℕ) → slice_index_or all v None ≡ None → Either lists (v ∷ vs) u → Either lists vs u
  either-none vs v lists u e (inl s) = inl s
  either-none vs v lists u e (inr t) = elim (member-cases u v vs t.0) [
    | inl q ↦ inl (t.1 ∙ sym (ap (λ (z : ℕ). slice_index_or all z None) (sym q) ∙ e))
    | inr m ↦ inr (m, t.1)
  ]

  either-some : (vs : List ℕ) (v : ℕ) (lists : List (Option (List ℕ))) (u : ℕ) (k : List ℕ) → u < length lists → slice_index_or all v None ≡ Some k → Either lists (v ∷ vs) u → Either (slice_set lists v (Some k)) vs u
  either-some vs v lists u k l e h = elim (cases_eq u v) [
    | inl q ↦ inl (ap (λ (z : ℕ). slice_index_or (slice_set lists v (Some k)) z None) q ∙ get_or-set_same lists v (Some k) None (subst (λ (z : ℕ). z < length lists) q l) ∙ sym (ap (λ (z : ℕ). slice_index_or all z None) q ∙ e))
    | inr n ↦ either-other h n
  ]
    where
      either-other : Either lists (v ∷ vs) u → u ≢ v → Either (slice_set lists v (Some k)) vs u
      either-other (inl s) n = inl (get_or-set_other lists v u (Some k) None n ∙ s)
      either-other (inr t) n = elim (member-cases u v vs t.0) [
        | inl q ↦ absurd (n (sym q))
        | inr m ↦ inr (m, get_or-set_other lists v u (Some k) None n ∙ t.1)
      ]

  -- the changes taken back leave what is there already, and bring the others back
  back-one : (vs : List ℕ) (v : ℕ) (lists : List (Option (List ℕ))) (u : ℕ) → u < length lists → Either lists (v ∷ vs) u
      → ((x : List (Option (List ℕ))) → u < length x → Either x vs u → slice_index_or (lists_set (map list_before (clearings all vs)) x) u None ≡ slice_index_or all u None)
      → (o : Option (List ℕ)) → slice_index_or all v None ≡ o → slice_index_or (lists_set (map list_before (removal v o ++ clearings all vs)) lists) u None ≡ slice_index_or all u None
  back-one vs v lists u l h rest None e = rest lists l (either-none vs v lists u e h)
  back-one vs v lists u l h rest (Some k) e = rest (slice_set lists v (Some k)) (omega (arith, l, length-set lists v (Some k))) (either-some vs v lists u k l e h)

  back-of : (vs : List ℕ) (lists : List (Option (List ℕ))) (u : ℕ) → u < length lists → Either lists vs u → slice_index_or (lists_set (map list_before (clearings all vs)) lists) u None ≡ slice_index_or all u None
  back-of [] lists u l (inl e) = e
  back-of [] lists u l (inr h) = absurd (true≢false (sym h.0))
  back-of (v ∷ vs) lists u l h = back-one vs v lists u l h (λ x m k. back-of vs x u m k) (slice_index_or all v None) refl

  -- they remove the lists at the vertices, and lead back
  pub clears-there : (vs : List ℕ) → Clears vs all (clearings all vs)
  clears-there vs = record {
    forth = forth-of vs all (λ u e. e);
    back = ext_get_or None (lists_set (map list_before (clearings all vs)) (lists_cleared vs all)) all (set-length (map list_before (clearings all vs)) (lists_cleared vs all) ∙ cleared-length vs all) (λ u l.
        back-of vs (lists_cleared vs all) u (omega (arith, l, set-length (map list_before (clearings all vs)) (lists_cleared vs all))) (elim (cases_Bool (is_member u vs)) [
          | inl m ↦ inr (m, cleared-there vs all u m)
          | inr f ↦ inl (cleared-other vs all u f)
        ]));
  }

-- the changes of the vertices so far, with one more
pub clearings-step : (all : List (Option (List ℕ))) (vertices : List ℕ) (old new : List CutChange) (i : ℕ) → i < length vertices → old ≡ clearings all (take i vertices) → new ≡ old ++ clearing all (slice_index vertices i)
    → new ≡ clearings all (take (i + 1) vertices)
clearings-step all vertices old new i l e f =
    f ∙ ap (λ (k : List CutChange). k ++ clearing all (slice_index vertices i)) e ∙ sym (ap (clearings all) (take_more vertices i 0 l) ∙ clearings-more all (take i vertices) (slice_index vertices i))
