-- Lists that are kept at marked vertices alone.
use Rattle.std.proofs.Common.{◌≡◌, ℕ, ◌<◌, inl, inr, Bool, true, false, List, [], ◌∷◌, length, map, filter, replicate, slice_index_or, slice_set, Option, None, Some, refl, sym, ap, ◌∙◌, subst, arith}
use Rattle.std.specs.List.{list_all}
use Rattle.std.proofs.lemmas.Bool.{cases_Bool, cases_lt, and_parts, true≢false}
use Rattle.std.proofs.lemmas.List.{length-map, get_or-map, get_or-set_other, get_or_past, get_or-replicate}
use Rattle.permutations.proofs.Filter.{filter-yes, filter-no, filter-none}
use Rattle.multigraph.specs.Marks.{is_marked}
use Rattle.undo_log.specs.declared.step.CutChange.{CutChange}
use Rattle.spqr_session.specs.Trees.{BlockTree, tree_at}
use Rattle.spqr_session.specs.Embedded.{BlockView, view_tree, no_view, view_at}
use Rattle.spqr_session.specs.History.{lists_set, lists_cleared, list_before}
use Rattle.spqr_session.specs.Board.{Clears}
use Rattle.spqr_session.specs.Marked.{may_set, may_set_at, AreKeptAt, marked_in, IsMarked}
use Rattle.spqr_session.specs.declared.marks.MarkedVertices.{MarkedVertices}
use Rattle.spqr_session.proofs.ListsSet.{set-none, none-set, none-kept, set-length}
use Rattle.spqr_session.proofs.Views.{trees-at}

-- no number is marked where there are no marks
unmarked : (v : ℕ) → is_marked [] v ≡ false
unmarked v = get_or_past [] v false (omega arith)

-- ---- removed lists

-- where lists are removed at the marked vertices of several, they are at all of these
cleared-marked : (marks : List Bool) (vs : List ℕ) (lists : List (Option (List ℕ))) → AreKeptAt marks lists → lists_cleared (filter (is_marked marks) vs) lists ≡ lists_cleared vs lists
cleared-marked marks [] lists h = refl
cleared-marked marks (v ∷ vs) lists h = elim (cases_Bool (is_marked marks v)) [
  | inl t ↦ ap (λ (l : List ℕ). lists_cleared l lists) (filter-yes (is_marked marks) v vs t) ∙ cleared-marked marks vs (slice_set lists v None) (λ u f. none-set lists v u (h u f))
  | inr f ↦ ap (λ (l : List ℕ). lists_cleared l lists) (filter-no (is_marked marks) v vs f) ∙ cleared-marked marks vs lists h ∙ ap (lists_cleared vs) (sym (set-none lists v (h v f)))
]

-- so the changes that remove them there remove them at all
clears-marked : (marks : List Bool) (vs : List ℕ) (lists : List (Option (List ℕ))) (cuts : List CutChange) → AreKeptAt marks lists → Clears (filter (is_marked marks) vs) lists cuts → Clears vs lists cuts
clears-marked marks vs lists cuts h c =
    let same = cleared-marked marks vs lists h in
    record { forth = c.forth ∙ same; back = ap (lists_set (map list_before cuts)) (sym same) ∙ c.back }

-- at the vertices of a block
pub clears-block : (views : List BlockView) (lists : List (Option (List ℕ))) (marked : MarkedVertices) (b : ℕ) (cuts : List CutChange) (vs : List ℕ) → IsMarked (map view_tree views) lists marked → b < length views → vs ≡ slice_index_or marked.places.items b []
    → Clears vs lists cuts → Clears (view_at views b).tree.part.vertices lists cuts
clears-block views lists marked b cuts vs h l e c =
    let own : vs ≡ marked_in marked.marks.items (view_at views b).tree = e ∙ h.each b (omega (arith, l, length-map views view_tree)) ∙ ap (marked_in marked.marks.items) (trees-at views b) in
    clears-marked marked.marks.items (view_at views b).tree.part.vertices lists cuts h.kept (subst (λ (l : List ℕ). Clears l lists cuts) own c)

-- ---- lists that are set

-- lists that may be set are kept at marked vertices
one-set : (marks : List Bool) (lists : List (Option (List ℕ))) (v : ℕ) (o : Option (List ℕ)) → AreKeptAt marks lists → may_set_at marks v o ≡ true → (u : ℕ) → is_marked marks u ≡ false → slice_index_or (slice_set lists v o) u None ≡ None
one-set marks lists v None h t u f = none-set lists v u (h u f)
one-set marks lists v (Some l) h t u f = get_or-set_other lists v u (Some l) None (λ e. true≢false (sym t ∙ ap (is_marked marks) (sym e) ∙ f)) ∙ h u f

pub kept-set : (marks : List Bool) (ps : List (ℕ × Option (List ℕ))) (lists : List (Option (List ℕ))) → AreKeptAt marks lists → list_all (may_set marks) ps ≡ true → AreKeptAt marks (lists_set ps lists)
kept-set marks [] lists h t = h
kept-set marks (p ∷ ps) lists h t =
    let parts = and_parts (may_set marks p) (list_all (may_set marks) ps) t in
    kept-set marks ps (slice_set lists p.0 p.1) (one-set marks lists p.0 p.1 h parts.0) parts.1

-- lists are kept at marked vertices where all are marked
kept-all : (lists : List (Option (List ℕ))) (n : ℕ) → n ≡ length lists → AreKeptAt (replicate n true) lists
kept-all lists n e = λ v f. elim (cases_lt v n) [
  | inl l ↦ absurd (true≢false (sym (get_or-replicate n v true false l) ∙ f))
  | inr m ↦ get_or_past lists v None (omega (arith, m, e))
]

-- and where no list is kept: without marks none is
kept-nowhere : (none marks : List Bool) (lists : List (Option (List ℕ))) → length none ≡ 0 → AreKeptAt none lists → AreKeptAt marks lists
kept-nowhere none marks lists e h = λ v f. h v (get_or_past none v false (omega (arith, e)))

-- ---- marks

-- these marks, with the marked vertices of each block
marked-of : (views : List BlockView) (lists : List (Option (List ℕ))) (marks : List Bool) (marked : MarkedVertices) → marked.marks.items ≡ marks → marked.places.items ≡ map (λ (v : BlockView). marked_in marks v.tree) views → AreKeptAt marks lists
    → IsMarked (map view_tree views) lists marked
marked-of views lists marks marked e f h = record {
  kept = subst (λ (m : List Bool). AreKeptAt m lists) (sym e) h;
  each = λ b l.
      let at : b < length views = omega (arith, l, length-map views view_tree) in
      ap (λ (z : List (List ℕ)). slice_index_or z b []) f ∙ get_or-map (λ (v : BlockView). marked_in marks v.tree) views b no_view [] at
      ∙ (λ i. marked_in (sym e i) (sym (trees-at views b) i));
}

-- at a start no list is kept
pub marked-start : (trees : List BlockTree) (n : ℕ) (lists : List (Option (List ℕ))) (marked : MarkedVertices) → marked.marks.items ≡ [] → marked.places.items ≡ [] → lists ≡ replicate n None → IsMarked trees lists marked
marked-start trees n lists marked e f g = record {
  kept = λ v h. subst (λ (l : List (Option (List ℕ))). slice_index_or l v None ≡ None) (sym g) (none-kept n v);
  each = λ b l. ap (λ (z : List (List ℕ)). slice_index_or z b []) f ∙ get_or_past [] b [] (omega arith)
      ∙ sym (ap (λ (m : List Bool). marked_in m (tree_at trees b)) e ∙ filter-none (is_marked []) (tree_at trees b).part.vertices (λ v m. unmarked v));
}

module _ (views : List BlockView) (lists : List (Option (List ℕ))) (ps : List (ℕ × Option (List ℕ))) (old : MarkedVertices) (h : IsMarked (map view_tree views) lists old) where
  -- where the lists may be set, the marks suffice afterwards
  pub set-marked : list_all (may_set old.marks.items) ps ≡ true → IsMarked (map view_tree views) (lists_set ps lists) old
  set-marked t = record { kept = kept-set old.marks.items ps lists h.kept t; each = h.each }

  module _ (marks : List Bool) (marked : MarkedVertices) (e : marked.marks.items ≡ marks) (f : marked.places.items ≡ map (λ (v : BlockView). marked_in marks v.tree) views) where
    -- the first marks
    pub first-before : length old.marks.items ≡ 0 → IsMarked (map view_tree views) lists marked
    first-before n = marked-of views lists marks marked e f (kept-nowhere old.marks.items marks lists n h.kept)

    pub first-after : length old.marks.items ≡ 0 → list_all (may_set marks) ps ≡ true → IsMarked (map view_tree views) (lists_set ps lists) marked
    first-after n t = marked-of views (lists_set ps lists) marks marked e f (kept-set marks ps lists (kept-nowhere old.marks.items marks lists n h.kept) t)

    -- marks at all vertices
    pub all-before : marks ≡ replicate (length lists) true → IsMarked (map view_tree views) lists marked
    all-before a = marked-of views lists marks marked e f (subst (λ (m : List Bool). AreKeptAt m lists) (sym a) (kept-all lists (length lists) refl))

    pub all-after : marks ≡ replicate (length lists) true → IsMarked (map view_tree views) (lists_set ps lists) marked
    all-after a = marked-of views (lists_set ps lists) marks marked e f (subst (λ (m : List Bool). AreKeptAt m (lists_set ps lists)) (sym a) (kept-all (lists_set ps lists) (length lists) (sym (set-length ps lists))))

-- marks that suffice after lists were set, where trees stay
pub marked-after : (views seen other : List BlockView) (lists new_lists : List (Option (List ℕ))) (ps given : List (ℕ × Option (List ℕ))) (marked : MarkedVertices) → seen ≡ views → given ≡ ps → map view_tree other ≡ map view_tree views → new_lists ≡ lists_set ps lists
    → IsMarked (map view_tree seen) (lists_set given lists) marked → IsMarked (map view_tree other) new_lists marked
marked-after views seen other lists new_lists ps given marked e f g s h =
    subst (λ (ts : List BlockTree). IsMarked ts new_lists marked) (ap (map view_tree) e ∙ sym g)
    (subst (λ (ls : List (Option (List ℕ))). IsMarked (map view_tree seen) ls marked) (ap (λ (p : List (ℕ × Option (List ℕ))). lists_set p lists) f ∙ sym s) h)
