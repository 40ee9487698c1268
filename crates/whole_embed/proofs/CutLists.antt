-- The tables and lists of all cut vertices when those of one of them change.
use Rattle.std.proofs.Common.{◌≡◌, ℕ, zero, suc, ◌+◌, ◌<◌, ◌≤◌, inl, inr, true, List, [], length, slice_index, slice_index_or, slice_set, sym, ap, ◌∙◌, subst, arith}
use Rattle.std.proofs.lemmas.Bool.{cases_eq}
use Rattle.std.proofs.lemmas.List.{get_or-set_same, get_or-set_other, length-set}
use Rattle.permutations.specs.Members.{is_member, place_of}
use Rattle.permutations.proofs.Arrangements.{member-at}
use Rattle.permutations.proofs.Places.{place-below, place-holds}
use Rattle.multigraph.specs.Part.{Rises}
use Rattle.arrangements.specs.Arranged.{first_arrangement}
use Rattle.arrangements.specs.Tables.{VertexTables}
use Rattle.whole_embed.specs.Component.{Component, BlockInPlane}
use Rattle.whole_embed.specs.Around.{edges_around, block_with, block_order}
use Rattle.whole_embed.specs.Keeping.{KeepsTables, KeepsCuts, AreFirstTo, tables_at}

-- another list at place i
pub lists-set : (k : Component) (orders : List VertexTables) (lists : List (List ℕ)) (i : ℕ) (l : List ℕ) → KeepsCuts k orders lists → i < length k.cuts
    → length l ≡ length (edges_around k (slice_index k.cuts i)) → KeepsCuts k orders (slice_set lists i l)
lists-set k orders lists i l h less is = record {
  tables_each = h.tables_each;
  lists_each = length-set lists i l ∙ h.lists_each;
  tables = h.tables;
  long = λ j lj. elim (cases_eq j i) [
    | inl q ↦ subst (λ (z : ℕ). length (slice_index_or (slice_set lists i l) z []) ≡ length (edges_around k (slice_index k.cuts z))) (sym q)
        (ap length (get_or-set_same lists i l [] (omega (arith, less, h.lists_each))) ∙ is)
    | inr d ↦ ap length (get_or-set_other lists i j l [] d) ∙ h.long j lj
  ];
}

-- other tables
pub orders-set : (k : Component) (orders : List VertexTables) (lists : List (List ℕ)) (i : ℕ) (t : VertexTables) → KeepsCuts k orders lists → i < length k.cuts
    → KeepsTables k (slice_index k.cuts i) t → KeepsCuts k (slice_set orders i t) lists
orders-set k orders lists i t h less kept = record {
  tables_each = length-set orders i t ∙ h.tables_each;
  lists_each = h.lists_each;
  tables = λ j lj. elim (cases_eq j i) [
    | inl q ↦ subst (λ (z : ℕ). KeepsTables k (slice_index k.cuts z) (tables_at (slice_set orders i t) z)) (sym q)
        (subst (KeepsTables k (slice_index k.cuts i)) (sym (get_or-set_same orders i t none (omega (arith, less, h.tables_each)))) kept)
    | inr d ↦ subst (KeepsTables k (slice_index k.cuts j)) (sym (get_or-set_other orders i j t none d)) (h.tables j lj)
  ];
  long = h.long;
}
  where
    none : VertexTables
    none = record { edges = []; ranks = []; followers = [] }

-- both
pub keeps-set : (k : Component) (orders : List VertexTables) (lists : List (List ℕ)) (i : ℕ) (t : VertexTables) (l : List ℕ) → KeepsCuts k orders lists → i < length k.cuts
    → KeepsTables k (slice_index k.cuts i) t → length l ≡ length (edges_around k (slice_index k.cuts i)) → KeepsCuts k (slice_set orders i t) (slice_set lists i l)
keeps-set k orders lists i t l h less kept is = lists-set k (slice_set orders i t) lists i l (orders-set k orders lists i t h less kept) less is

-- one more first arrangement
pub first-more : (k : Component) (block : ℕ → BlockInPlane) (lists : List (List ℕ)) (i : ℕ) → AreFirstTo k block lists i → i < length lists
    → AreFirstTo k block (slice_set lists i (first_arrangement (block_with k) (block_order block (slice_index k.cuts i)) (edges_around k (slice_index k.cuts i)))) (i + 1)
first-more k block lists i h less j lj = elim (cases_eq j i) [
  | inl q ↦ subst (λ (z : ℕ). slice_index_or (slice_set lists i (at i)) z [] ≡ at z) (sym q) (get_or-set_same lists i (at i) [] less)
  | inr d ↦ get_or-set_other lists i j (at i) [] d ∙ h j (omega (arith, lj, d))
]
  where
    at : ℕ → List ℕ
    at z = first_arrangement (block_with k) (block_order block (slice_index k.cuts z)) (edges_around k (slice_index k.cuts z))

-- a cut vertex read from the list of them
pub cut-among : (cuts read : List ℕ) (i : ℕ) → read ≡ cuts → i < length cuts → is_member (slice_index_or read i 0) cuts ≡ true
cut-among cuts read i e less = subst (λ (z : List ℕ). is_member (slice_index_or z i 0) cuts ≡ true) (sym e) (member-at cuts i 0 less)

-- the place of a cut vertex is not above it
rises-least : (l : List ℕ) → Rises l → (i : ℕ) → i < length l → i ≤ slice_index l i
rises-least l r zero less = omega arith
rises-least l r (suc i) less = omega (arith, rises-least l r i (omega (arith, less)), r i (suc i) (omega arith) less)

pub place-least : (cuts : List ℕ) (v place : ℕ) → Rises cuts → is_member v cuts ≡ true → place ≡ place_of cuts v → place ≤ v
place-least cuts v place r m e = omega (arith, rises-least cuts r (place_of cuts v) (place-below cuts v m), place-holds cuts v m, e)
