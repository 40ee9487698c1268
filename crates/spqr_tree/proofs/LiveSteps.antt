-- Components are put among the live ones, and taken out.
use Rattle.std.proofs.Common.{◌≡◌, ◌≢◌, ℕ, ◌+◌, ◌<◌, ◌⊎◌, inl, inr, List, [], ◌∷◌, ◌++◌, length, slice_index_or, Some, sym, ap, ◌∙◌, subst, arith}
use Rattle.std.proofs.lemmas.Bool.{cases_eq, cases_lt}
use Rattle.std.proofs.lemmas.List.{get_or_append_left, length-append}
use Rattle.std.proofs.Math.Seq.{get_or-append_seam}
use Rattle.slab.specs.Slab.{get}
use Rattle.pair_split.specs.Split.{component_at}
use Rattle.pair_split.specs.declared.components.Kind.TheVariants.{B}
use Rattle.pair_split.specs.declared.components.Comp.{Comp}
use Rattle.spqr_tree.specs.Merging.{group_of, IsLed, LiveState, slab_key, AreHeld, IsAdded, AreLive, IsTakenOut}

-- one component more is held
module _ (comps : List Comp) (live next : LiveState) (n : ℕ) (h : AreHeld comps live n) (added : IsAdded live next (component_at comps n)) where
  old-key : (x : ℕ) → x < n → slab_key next x ≡ slab_key live x
  old-key x l = ap (λ (k : List ℕ). slice_index_or k x 0) added.keys ∙ get_or_append_left live.keys (added.key ∷ []) 0 x (subst (λ z. x < z) (sym h.places) l)

  new-key : slab_key next n ≡ added.key
  new-key =
      ap (λ (k : List ℕ). slice_index_or k n 0) added.keys ∙ (ap (λ z. slice_index_or (live.keys ++ added.key ∷ []) z 0) (sym h.places) ∙ get_or-append_seam live.keys added.key [] 0)

  -- a key that was in use is not the new one
  used : (x : ℕ) → x < n → slab_key live x ≢ added.key
  used x l e = absurd (grind (arith, h.held x l, added.free, e))

  below : (x : ℕ) → x < n + 1 → (x < n) ⊎ (x ≡ n)
  below x l = elim (cases_lt x n) [ inl m ↦ inl m | inr m ↦ inr (omega (arith, l, m)) ]

  pub held-added : AreHeld comps next (n + 1)
  held-added = record {
    places = omega (arith, ap length added.keys, length-append live.keys (added.key ∷ []), h.places);
    differ = λ x y l m e. elim (below x l) [
      | inl a ↦ elim (below y m) [
        | inl b ↦ h.differ x y a b (sym (old-key x a) ∙ (e ∙ old-key y b))
        | inr b ↦ absurd (used x a (sym (old-key x a) ∙ (e ∙ (ap (slab_key next) b ∙ new-key))))
      ]
      | inr a ↦ elim (below y m) [
        | inl b ↦ absurd (used y b (sym (old-key y b) ∙ (sym e ∙ (ap (slab_key next) a ∙ new-key))))
        | inr b ↦ a ∙ sym b
      ]
    ];
    held = λ x l. elim (below x l) [
      | inl a ↦ ap (get next.slab) (old-key x a) ∙ (added.slab.others (slab_key live x) (used x a) ∙ h.held x a)
      | inr a ↦ ap (λ z. get next.slab (slab_key next z)) a ∙ (ap (get next.slab) new-key ∙ (added.slab.changed ∙ ap (λ z. Some (component_at comps z)) (sym a)))
    ];
  }

-- so is the next one of the list
pub held-next : (comps seen rest : List Comp) (comp : Comp) (live next : LiveState) → AreHeld comps live (length seen) → seen ++ comp ∷ rest ≡ comps → IsAdded live next comp → AreHeld comps next (length (seen ++ comp ∷ []))
held-next comps seen rest comp live next h e added =
    let at : comp ≡ component_at comps (length seen) = sym (get_or-append_seam seen comp rest (record { kind = B; items = [] })) ∙ ap (λ (l : List Comp). component_at l (length seen)) e in
    subst (AreHeld comps next) (sym (length-append seen (comp ∷ []))) (held-added comps live next (length seen) h (subst (IsAdded live next) at added))

-- a component that is put into a group is live no more
pub live-taken : (comps : List Comp) (lead after : List ℕ) (live next : LiveState) (d : ℕ) → AreLive comps lead live → d < length lead → IsTakenOut live next d → length after ≡ length lead → IsLed after d
    → ((x : ℕ) → x ≢ d → group_of after x ≡ group_of lead x) → AreLive comps after next
live-taken comps lead after live next d h within out places led kept = record {
  places = ap length out.keys ∙ (h.places ∙ sym places);
  differ = λ x y l m e. h.differ x y (old x l) (old y m) (sym (same x) ∙ (e ∙ same y));
  held = λ x l e. elim (cases_eq x d) [
    | inl z ↦ absurd (led (ap (group_of after) (sym z) ∙ e))
    | inr n ↦ other x l n ∙ h.held x (old x l) (sym (kept x n) ∙ e)
  ];
  gone = λ x l m. elim (cases_eq x d) [
    | inl z ↦ ap (get next.slab) (same x) ∙ (ap (λ y. get next.slab (slab_key live y)) z ∙ out.slab.changed)
    | inr n ↦ other x l n ∙ h.gone x (old x l) (λ e. m (kept x n ∙ e))
  ];
}
  where
    same : (x : ℕ) → slab_key next x ≡ slab_key live x
    same x = ap (λ (l : List ℕ). slice_index_or l x 0) out.keys

    old : (x : ℕ) → x < length after → x < length lead
    old x l = subst (λ z. x < z) places l

    other : (x : ℕ) → x < length after → x ≢ d → get next.slab (slab_key next x) ≡ get live.slab (slab_key live x)
    other x l n = ap (get next.slab) (same x) ∙ out.slab.others (slab_key live x) (λ e. n (h.differ x d (old x l) within e))
