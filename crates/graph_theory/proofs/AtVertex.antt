-- Edges at a vertex whose other ends are connected without it lie on a common cycle.
use Rattle.std.proofs.Common.{◌≡◌, ◌≢◌, ℕ, ◌<◌, ◌⊎◌, inl, inr, true, false, [], ◌∷◌, ◌++◌, refl, sym, ◌∙◌, subst}
use Rattle.std.proofs.lemmas.Bool.{both_ways, cases_eq, false_from_ne_true, true≢false}
use Rattle.permutations.specs.Members.{is_member, is_distinct}
use Rattle.permutations.specs.Relation.{connected}
use Rattle.permutations.proofs.Members.{member-head, member-cases, member-append_right, distinct-cons, no_member-cons}
use Rattle.multigraph.specs.Graph.{Multigraph, edge_count, is_end, other_end, IsGraph}
use Rattle.multigraph.proofs.OtherEnd.{other_end-is_end}
use Rattle.graph_theory.specs.Path.{walk_vertices, IsPath, PathWithout}
use Rattle.graph_theory.specs.Block.{CommonCycle, SameBlock}
use Rattle.graph_theory.specs.Triconnected.{ends_without}
use Rattle.graph_theory.proofs.Ends.{other-other, other-differs}
use Rattle.graph_theory.proofs.Walks.{edge-met}
use Rattle.graph_theory.proofs.Paths.{path-cons}
use Rattle.graph_theory.proofs.Cycles.{cycle_of_paths}
use Rattle.graph_theory.proofs.Removed.{path-without}

-- two different edges at v whose other ends are connected without v lie on a common cycle; where the other ends are equal, these
-- two are the cycle
pub at_vertex-cycle : (g : Multigraph) → IsGraph g → (v e f : ℕ) → e < edge_count g → f < edge_count g → is_end g v e ≡ true → is_end g v f ≡ true → e ≢ f
    → connected (ends_without g (v ∷ [])) (other_end g e v) (other_end g f v) ≡ true → CommonCycle g e f
at_vertex-cycle g gg v e f el fl ei fi n c = made (path-without g (v ∷ []) x y (no_member-cons x v [] (λ q. other-differs g gg e v el ei (sym q)) refl) c)
  where
    x : ℕ
    x = other_end g e v

    y : ℕ
    y = other_end g f v

    differ : v ≢ y
    differ q = other-differs g gg f v fl fi (sym q)

    back : IsPath g y (f ∷ []) v
    back = record {
      walk = ((fl, other_end-is_end g f v), tt);
      arrives = other-other g f v fi;
      vertices = subst (λ (k : ℕ). is_distinct (y ∷ (k ∷ [])) ≡ true) (sym (other-other g f v fi)) (distinct-cons y (v ∷ []) (no_member-cons y v [] differ refl) refl);
    }

    made : PathWithout g (v ∷ []) x y → CommonCycle g e f
    made p = record {
      start = v;
      along = e ∷ p.along ++ f ∷ [];
      cycle = cycle_of_paths g v y (e ∷ p.along) (f ∷ []) (path-cons g v e p.along y el ei p.path off) back differ apart (λ z m k. common z k);
      first_on = member-head e (p.along ++ f ∷ []);
      second_on = member-append_right f (e ∷ p.along) (f ∷ []) (member-head f []);
    }
      where
        -- the path does not visit v
        off : is_member v (walk_vertices g x p.along) ≡ false
        off = false_from_ne_true (is_member v (walk_vertices g x p.along)) (λ m. both_ways (is_member v (v ∷ [])) (p.avoids v m) (member-head v []))

        apart : (h : ℕ) → is_member h (e ∷ p.along) ≡ true → is_member h (f ∷ []) ≡ false
        apart h m = no_member-cons h f [] (λ q. elim (member-cases h e p.along m) [
          | inl i ↦ n (i ∙ sym q)
          | inr k ↦ both_ways (is_member v (walk_vertices g x p.along)) off
              (edge-met g x p.along p.path.walk f v (subst (λ (j : ℕ). is_member j p.along ≡ true) (sym q) k) fi)
        ]) refl

        common : (z : ℕ) → is_member z (walk_vertices g y (f ∷ [])) ≡ true → (z ≡ v) ⊎ (z ≡ y)
        common z m = elim (member-cases z y (other_end g f y ∷ []) m) [
          | inl q ↦ inr (sym q)
          | inr o ↦ elim (member-cases z (other_end g f y) [] o) [ inl q ↦ inl (sym q ∙ other-other g f v fi) | inr k ↦ absurd (true≢false (sym k)) ]
        ]

-- so they are in one block
pub at_vertex-block : (g : Multigraph) → IsGraph g → (v e f : ℕ) → e < edge_count g → f < edge_count g → is_end g v e ≡ true → is_end g v f ≡ true
    → connected (ends_without g (v ∷ [])) (other_end g e v) (other_end g f v) ≡ true → SameBlock g e f
at_vertex-block g gg v e f el fl ei fi c = elim (cases_eq e f) [ inl q ↦ inl q | inr n ↦ inr (at_vertex-cycle g gg v e f el fl ei fi n c) ]
