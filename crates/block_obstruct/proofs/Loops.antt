-- The states of the loops over the items of a node, step by step.
use Rattle.std.proofs.Common.{◌≡◌, ◌≢◌, ℕ, ◌+◌, ◌<◌, ◌⊎◌, inl, inr, List, length, set, refl, sym, ap, ◌∙◌, subst, arith}
use Rattle.std.proofs.lemmas.Bool.{cases_eq}
use Rattle.std.proofs.lemmas.List.{length-set, get_or-set_same, get_or-set_other}
use Rattle.pair_split.specs.declared.components.Item.{Item}
use Rattle.pair_split.specs.declared.components.What.{What}
use Rattle.pair_split.specs.declared.components.What.TheVariants.{Real, Link}
use Rattle.graph_paths.specs.Listing.{note_of}
use Rattle.block_obstruct.specs.Towards.{item_in, HaveItem}

-- the number of an edge or a link
abbrev number_of : What → ℕ
number_of (Real e) = e
number_of (Link j) = j

pub real-once : (e f : ℕ) → Real e ≡ Real f → e ≡ f
real-once e f q = ap number_of q

pub link-once : (e f : ℕ) → Link e ≡ Link f → e ≡ f
link-once e f q = ap number_of q

-- the first n items were looked at: each edge among them has a note that fits, and no other note was changed but of edges
pub record Noted (fits : ℕ → ℕ → Type 0) (items : List Item) (n : ℕ) (start notes : List ℕ) : Type 0 where
  pub size : length notes ≡ length start
  pub noted : (i e : ℕ) → i < n → (item_in items i).what ≡ Real e → fits e (note_of notes e)
  pub kept : (e : ℕ) → (note_of notes e ≡ note_of start e) ⊎ HaveItem items (Real e)

pub noted-none : (fits : ℕ → ℕ → Type 0) (items : List Item) (start : List ℕ) → Noted fits items 0 start start
noted-none fits items start = record { size = refl; noted = λ i e l. absurd (omega (arith, l)); kept = λ e. inl refl }

-- an edge more
pub noted-edge : (fits : ℕ → ℕ → Type 0) (items : List Item) (n e note : ℕ) (start notes : List ℕ) → Noted fits items n start notes → n < length items → (item_in items n).what ≡ Real e → e < length notes → fits e note → Noted fits items (n + 1) start (set notes e note)
noted-edge fits items n e note start notes s l w b f = record {
  size = length-set notes e note ∙ s.size;
  noted = λ i h m v. elim (cases_eq h e) [
    | inl q ↦ subst (λ z. fits z (note_of (set notes e note) z)) (sym q) (subst (λ z. fits e z) (sym (get_or-set_same notes e note 0 b)) f)
    | inr d ↦ subst (λ z. fits h z) (sym (get_or-set_other notes e h note 0 d)) (elim (cases_eq i n) [
      | inl q ↦ absurd (d (real-once h e (sym v ∙ (ap (λ z. (item_in items z).what) q ∙ w))))
      | inr r ↦ s.noted i h (omega (arith, m, r)) v
    ])
  ];
  kept = λ h. elim (cases_eq h e) [
    | inl q ↦ inr (n, l, w ∙ ap Real (sym q))
    | inr d ↦ elim (s.kept h) [ inl q ↦ inl (get_or-set_other notes e h note 0 d ∙ q) | inr q ↦ inr q ]
  ];
}

-- an item that is no edge
pub noted-other : (fits : ℕ → ℕ → Type 0) (items : List Item) (n : ℕ) (start notes : List ℕ) → Noted fits items n start notes → ((e : ℕ) → (item_in items n).what ≢ Real e) → Noted fits items (n + 1) start notes
noted-other fits items n start notes s w = record {
  size = s.size;
  noted = λ i h m v. elim (cases_eq i n) [
    | inl q ↦ absurd (w h (sym (ap (λ z. (item_in items z).what) q) ∙ v))
    | inr r ↦ s.noted i h (omega (arith, m, r)) v
  ];
  kept = s.kept;
}
