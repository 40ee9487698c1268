-- The state of a loop each step of which may put a number on a list.
use Rattle.std.proofs.Common.{◌≡◌, ℕ, ◌+◌, ◌<◌, inl, inr, Bool, true, List, length, sym, ◌∙◌, subst, arith}
use Rattle.std.proofs.lemmas.Bool.{cases_eq}
use Rattle.permutations.specs.Members.{is_member}
use Rattle.graph_paths.specs.Listing.{AreListed, Grows}
use Rattle.graph_paths.proofs.Listed.{grows-none, grows-member, grows-next}

-- the first n of some steps were taken: what fits was put on the list, and what step i asks for is there
pub record Listed (fits : ℕ → ℕ → Type 0) (asked : ℕ → ℕ → Type 0) (n size : ℕ) (start_notes start_list : List ℕ) (marks : List Bool) (notes list : List ℕ) : Type 0 where
  pub listed : AreListed marks notes list
  pub size_is : length marks ≡ size
  pub grows : Grows fits start_list start_notes list notes
  pub met : (i h : ℕ) → i < n → asked i h → is_member h list ≡ true

pub steps-none : (fits asked : ℕ → ℕ → Type 0) (size : ℕ) (marks : List Bool) (notes list : List ℕ) → AreListed marks notes list → length marks ≡ size → Listed fits asked 0 size notes list marks notes list
steps-none fits asked size marks notes list a q = record { listed = a; size_is = q; grows = grows-none fits list notes; met = λ i h l. absurd (omega (arith, l)) }

-- a step that asks for x
pub steps-more : (fits asked : ℕ → ℕ → Type 0) (n size : ℕ) (start_notes start_list : List ℕ) (marks : List Bool) (notes list : List ℕ) (next_marks : List Bool) (next_notes next_list : List ℕ) (x note : ℕ)
    → Listed fits asked n size start_notes start_list marks notes list
    → AreListed next_marks next_notes next_list → length next_marks ≡ length marks → Grows (λ y m. (y ≡ x) × (m ≡ note)) list notes next_list next_notes → is_member x next_list ≡ true
    → fits x note → ((h : ℕ) → asked n h → x ≡ h) → Listed fits asked (n + 1) size start_notes start_list next_marks next_notes next_list
steps-more fits asked n size start_notes start_list marks notes list next_marks next_notes next_list x note s a q g m f only = record {
  listed = a;
  size_is = q ∙ s.size_is;
  grows = grows-next fits (λ y m. (y ≡ x) × (m ≡ note)) start_list start_notes list notes next_list next_notes s.grows g
      (λ y m w. subst (λ z. fits z m) (sym w.0) (subst (λ z. fits x z) (sym w.1) f));
  met = λ i h l v. elim (cases_eq i n) [
    | inl e ↦ subst (λ z. is_member z next_list ≡ true) (only h (subst (λ z. asked z h) e v)) m
    | inr d ↦ grows-member (λ y m. (y ≡ x) × (m ≡ note)) list notes next_list next_notes g h (s.met i h (omega (arith, l, d)) v)
  ];
}

-- a step that asks for nothing
pub steps-skip : (fits asked : ℕ → ℕ → Type 0) (n size : ℕ) (start_notes start_list : List ℕ) (marks : List Bool) (notes list : List ℕ)
    → Listed fits asked n size start_notes start_list marks notes list → ((h : ℕ) → asked n h → ⊥) → Listed fits asked (n + 1) size start_notes start_list marks notes list
steps-skip fits asked n size start_notes start_list marks notes list s none = record {
  listed = s.listed;
  size_is = s.size_is;
  grows = s.grows;
  met = λ i h l v. elim (cases_eq i n) [ inl e ↦ absurd (none h (subst (λ z. asked z h) e v)) | inr d ↦ s.met i h (omega (arith, l, d)) v ];
}
