-- The entries are appended vertex by vertex.
use Rattle.std.proofs.Common.{◌≡◌, ◌<◌, ◌+◌, ◌++◌, ◌∷◌, ℕ, List, [], false, All, map, length, slice_index, inl, inr, sym, ap, ◌∙◌, subst, arith, append_assoc, length-append, length-set}
use Rattle.std.proofs.lemmas.Bool.{cases_lt}
use Rattle.std.proofs.lemmas.List.{get_or_append_left, get_or_at}
use Rattle.multigraph.specs.Graph.{Multigraph, edge_count}
use Rattle.spqr_script.proofs.Within.{round-within}
use Rattle.spqr_session.specs.KeptLine.{text_at, edges_around, entries_of}
use Rattle.spqr_session.proofs.KeptLines.{entries-more}
use Rattle.spqr_session.proofs.commands.kept_line.KeptLine.push_entries.Goals as goal

-- the edges around a vertex are those of the part
pub set_numbers-requires : goal.set_numbers-requires
set_numbers-requires c =
    let g = c.args.part.now.graph in
    let count : c.vertex_count-v-end.result ≡ g.vertex_count = c.vertex_count-v-end.ensures.value ∙ ap (λ (h : Multigraph). h.vertex_count) c.graph.ensures.value in
    subst (All (λ e. e < edge_count g)) (sym c.list.ensures) (round-within g c.args.r.now c.loop-v.v c.requires.system (omega (arith, c.loop-v-test.true, count)))

-- one entry more
pub loop-v-preserved : goal.loop-v-preserved
loop-v-preserved c =
    let part = c.args.part.now in
    let r = c.args.r.now in
    let v : ℕ = c.loop-v.v in
    let held = c.loop-v.invariant in
    let first : List ℕ = c.args.self.now.line.items in
    let numbers : c.deref.result.now ≡ edges_around part r v = c.deref.ensures.value ∙ c.in_ok-set_numbers.ensures ∙ ap (map (slice_index part.edges)) c.list.ensures in
    let place : c.len.result ≡ length first + length (entries_of part r 0 v) = omega (arith, c.len.ensures, ap length held.written, length-append first (entries_of part r 0 v)) in
    record {
      written = c.in_ok-push_entry.ensures ∙ ap (λ (es : List ℕ). c.loop-v.self.line.items ++ text_at part v es) numbers
          ∙ ap (λ (t : List ℕ). t ++ text_at part v (edges_around part r v)) held.written
          ∙ append_assoc first (entries_of part r 0 v) (text_at part v (edges_around part r v))
          ∙ ap (λ (t : List ℕ). first ++ t) (sym (entries-more part r v));
      number = omega (arith, c.in_ok-push.ensures.len, held.number);
      begins = λ x l. ap (λ (xs : List ℕ). slice_index xs x) c.in_ok-push.ensures.items ∙ elim (cases_lt x v) [
        | inl less ↦ get_or_append_left c.loop-v.self.places.items (c.len.result ∷ []) 0 x (omega (arith, less, held.number)) ∙ held.begins x less
        | inr more ↦
            let is_v : x ≡ v = omega (arith, l, more) in
            ap (λ (y : ℕ). slice_index (c.loop-v.self.places.items ++ c.len.result ∷ []) y) is_v ∙ get_or_at c.loop-v.self.places.items c.len.result [] 0 v held.number
            ∙ place ∙ ap (λ (y : ℕ). length first + length (entries_of part r 0 y)) (sym is_v)
      ];
      kept = held.kept;
      markable = length-set c.loop-v.self.changed.items v false ∙ held.markable;
    }
