-- Before anything was visited, what holds between turns holds.
use Rattle.std.proofs.Common.{◌≡◌, ℕ, inl, inr, true, false, get_or, replicate, refl, sym, ◌∙◌, arith}
use Rattle.std.proofs.lemmas.Bool.{true≢false, cases_lt}
use Rattle.std.proofs.lemmas.List.{get_or-replicate, length-replicate, get_or_past}
use Rattle.multigraph.specs.Graph.{Multigraph, edge_count}
use Rattle.search_forest.specs.Forest.{fresh, IsForest}
use Rattle.multigraph.specs.Marks.{is_marked}

-- a list of equal marks, none set
pub marked-none : (n i : ℕ) → is_marked (replicate n false) i ≡ false
marked-none n i = elim (cases_lt i n) [ inl a ↦ get_or-replicate n i false false a | inr b ↦ get_or_past (replicate n false) i false (omega (arith, length-replicate n false)) ]

-- a list of zeros
pub number-none : (n i : ℕ) → get_or {A = ℕ} (replicate n 0) i 0 ≡ 0
number-none n i = elim (cases_lt i n) [ inl a ↦ get_or-replicate n i 0 0 a | inr b ↦ get_or_past (replicate n 0) i 0 (omega (arith, length-replicate {A = ℕ} n 0)) ]

-- a fact about a mark that is there, where none is
none : (X : Type 0) (n i : ℕ) → is_marked (replicate n false) i ≡ true → X
none X n i h = absurd (true≢false (sym h ∙ marked-none n i))

-- the fresh state is between turns
pub fresh-forest : (g : Multigraph) → IsForest g (fresh g)
fresh-forest g = record {
  places = record {
    visited = length-replicate g.vertex_count false;
    parent = length-replicate g.vertex_count 0;
    depth = length-replicate g.vertex_count 0;
    parent_edge = length-replicate g.vertex_count 0;
    position = length-replicate g.vertex_count 0;
    seen = length-replicate (edge_count g) false;
    lower = length-replicate (edge_count g) 0;
  };
  on_path = record {
    within = λ j l. absurd (omega arith);
    visits = λ j l. absurd (omega arith);
    deep = λ j l. absurd (omega arith);
    from_parent = λ j l. absurd (omega arith);
  };
  grown = record {
    parent_in = λ v h d. none _ g.vertex_count v h;
    parent_visited = λ v h d. none _ g.vertex_count v h;
    parent_depth = λ v h d. none _ g.vertex_count v h;
    edge_in = λ v h d. none _ g.vertex_count v h;
    edge_end = λ v h d. none _ g.vertex_count v h;
    edge_leads = λ v h d. none _ g.vertex_count v h;
    edge_seen = λ v h d. none _ g.vertex_count v h;
    edge_lower = λ v h d. none _ g.vertex_count v h;
  };
  looked = record {
    within = λ v l. omega (arith, number-none g.vertex_count v);
    looked = λ v l k m. absurd (omega (arith, number-none g.vertex_count v));
    finished = λ v h. none _ g.vertex_count v h;
  };
  edges = record {
    lower_end = λ e h. none _ (edge_count g) e h;
    lower_visited = λ e h. none _ (edge_count g) e h;
    upper_above = λ e h. none _ (edge_count g) e h;
  };
  ordered = record {
    distinct = refl;
    members = λ v. sym (marked-none g.vertex_count v);
    behind_parent = λ k l d. absurd (omega arith);
  };
}
