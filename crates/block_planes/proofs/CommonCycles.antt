-- Edges at a vertex whose other ends are connected without this vertex are of one block.
use Rattle.std.proofs.Common.{◌≡◌, ◌≢◌, ℕ, ◌<◌, inl, inr, true, false, [], ◌∷◌, ◌++◌, refl, sym, ap, ◌∙◌, subst, arith, length-append}
use Rattle.std.proofs.lemmas.Bool.{cases_eq, cases_Bool, both_ways, false_from_ne_true}
use Rattle.permutations.specs.Members.{is_member, is_distinct}
use Rattle.permutations.specs.Relation.{connected}
use Rattle.permutations.proofs.Members.{member-head, no_member-cons, no_member-append, member-append_right, distinct-cons, distinct-append}
use Rattle.multigraph.specs.Graph.{Multigraph, IsGraph, edge_count, is_end, other_end}
use Rattle.multigraph.proofs.OtherEnd.{other_end-is_end}
use Rattle.graph_theory.specs.Path.{walk_end, walk_starts, walk_vertices, PathWithout, IsCycle}
use Rattle.graph_theory.specs.Block.{CommonCycle, SameBlock}
use Rattle.graph_theory.specs.Triconnected.{ends_without}
use Rattle.graph_theory.proofs.Ends.{other-other, other-differs}
use Rattle.graph_theory.proofs.Walks.{end-append, starts-append, walk-append, edge-met}
use Rattle.graph_theory.proofs.Paths.{path-edges_distinct}
use Rattle.graph_theory.proofs.Removed.{path-without}

-- an end of an edge other than v
pub far-off : (g : Multigraph) → IsGraph g → (v e : ℕ) → e < edge_count g → other_end g e v ≢ v
far-off g ok v e l q = elim (cases_Bool (is_end g v e)) [
  | inl t ↦ other-differs g ok e v l t q
  | inr t ↦ both_ways (is_end g v e) t (subst (λ z. is_end g z e ≡ true) q (other_end-is_end g e v))
]

-- a path that avoids v closed over v by two edges is a cycle
closed-cycle : (g : Multigraph) → IsGraph g → (v e f : ℕ) → e < edge_count g → f < edge_count g → is_end g v e ≡ true → is_end g v f ≡ true → e ≢ f
    → (w : PathWithout g (v ∷ []) (other_end g e v) (other_end g f v)) → IsCycle g v (e ∷ (w.along ++ f ∷ []))
closed-cycle g ok v e f le lf ie if n w = record {
  walk = ((le, ie), walk-append g x w.along (f ∷ []) w.path.walk ((lf, at-last), tt));
  returns = end-append g x w.along (f ∷ []) ∙ ap (other_end g f) w.path.arrives ∙ other-other g f v if;
  two = omega (arith, length-append w.along (f ∷ []));
  edges = distinct-cons e (w.along ++ f ∷ [])
      (no_member-append e w.along (f ∷ []) (off e ie) (no_member-cons e f [] (λ q. n (sym q)) refl))
      (distinct-append w.along (f ∷ []) (path-edges_distinct g x w.along w.path.walk w.path.vertices) refl
      (λ h m. no_member-cons h f [] (λ q. both_ways (is_member f w.along) (off f if) (subst (λ z. is_member z w.along ≡ true) (sym q) m)) refl));
  vertices = distinct-cons v (walk_starts g x (w.along ++ f ∷ []))
      (subst (λ l. is_member v l ≡ false) (sym (starts-append g x w.along (f ∷ []))) not-met)
      (subst (λ l. is_distinct l ≡ true) (sym (starts-append g x w.along (f ∷ []))) w.path.vertices);
}
  where
    x : ℕ
    x = other_end g e v

    at-last : is_end g (walk_end g x w.along) f ≡ true
    at-last = subst (λ z. is_end g z f ≡ true) (sym w.path.arrives) (other_end-is_end g f v)

    not-met : is_member v (walk_vertices g x w.along) ≡ false
    not-met = false_from_ne_true (is_member v (walk_vertices g x w.along)) (λ m. both_ways (is_member v (v ∷ [])) (w.avoids v m) (member-head v []))

    off : (h : ℕ) → is_end g v h ≡ true → is_member h w.along ≡ false
    off h i = false_from_ne_true (is_member h w.along) (λ m. both_ways (is_member v (walk_vertices g x w.along)) not-met (edge-met g x w.along w.path.walk h v m i))

-- so the two edges are equal, or lie on a common cycle
pub joined-block : (g : Multigraph) → IsGraph g → (v e f : ℕ) → e < edge_count g → f < edge_count g → is_end g v e ≡ true → is_end g v f ≡ true
    → connected (ends_without g (v ∷ [])) (other_end g e v) (other_end g f v) ≡ true → SameBlock g e f
joined-block g ok v e f le lf ie if t = elim (cases_eq e f) [ inl q ↦ inl q | inr n ↦ inr (on n (path-without g (v ∷ []) (other_end g e v) (other_end g f v) (no_member-cons (other_end g e v) v [] (λ q. far-off g ok v e le (sym q)) refl) t)) ]
  where
    on : e ≢ f → PathWithout g (v ∷ []) (other_end g e v) (other_end g f v) → CommonCycle g e f
    on n w = record {
      start = v;
      along = e ∷ (w.along ++ f ∷ []);
      cycle = closed-cycle g ok v e f le lf ie if n w;
      first_on = member-head e (w.along ++ f ∷ []);
      second_on = later;
    }
      where
        later : is_member f (e ∷ (w.along ++ f ∷ [])) ≡ true
        later = member-append_right f (e ∷ w.along) (f ∷ []) (member-head f [])
