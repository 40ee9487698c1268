-- The runs of the darts round the merged vertex, as they are found by looking at each dart and the one that follows it.
use Rattle.std.proofs.Common.{◌≡◌, ◌≢◌, ℕ, ◌<◌, inl, inr, List, slice_index, sym, ap, ◌∙◌, subst}
use Rattle.std.proofs.lemmas.Bool.{cases_eq}
use Rattle.contractions.specs.Contracted.{contracted_vertex}
use Rattle.dart_maps.specs.Map.{IsMap}
use Rattle.faces.specs.Euler.{dart_count}
use Rattle.faces.specs.Maps.{dart_after, dart_before}
use Rattle.faces.proofs.MapSteps.{map-permutes}
use Rattle.permutations.proofs.Permutations.{permutes-back}
use Rattle.planarity.specs.Expansion.{FallsInRuns}
use Rattle.planarity.proofs.ContractedDarts.{ends-differ}
use Rattle.contractions.specs.Level.{IsLevel, contraction, edge_before}
use Rattle.contract_obstruct.specs.Steps.{AreSteps}
use Rattle.contract_embed.specs.Runs.{leaves, Turns, FitsAt, HaveRuns}
use Rattle.contract_obstruct.specs.Obstruction.{HaveNoRuns}
use Rattle.contractions.specs.declared.level.Level.{Level}
use Rattle.contractions.proofs.LevelFacts.{level-contraction, level-graph}
use Rattle.contract_obstruct.proofs.Orders.{steps-in}
use Rattle.contract_obstruct.proofs.OneSystem.{one-system}

module _ (level : Level) (k : IsLevel level) (next : List ℕ) where
  -- a vertex is not both ends
  apart : (v : ℕ) → v ≡ level.x → v ≡ level.y → ⊥
  apart v a b = ends-differ level.graph (contraction level) level.edge level.x level.y (edge_before level) (contracted_vertex level.x level.y) k.graph (level-contraction level k) (sym a ∙ b)

  abbrev Falls : List (List ℕ) → ℕ → ℕ → Type 0
  Falls s first last = FallsInRuns level.graph (contraction level) level.x level.y (edge_before level) s first last

  -- the last dart of x is followed by one of y
  turn-last : (s : List (List ℕ)) (first last : ℕ) → AreSteps (contraction level) s next → Falls s first last → Turns level next level.x level.y last
  turn-last s first last a r = (r.last_leaves, ap (leaves level) (a.steps last r.last_dart) ∙ r.after_last)

  -- and the first one follows one of y
  turn-first : (s : List (List ℕ)) (first last : ℕ) → AreSteps (contraction level) s next → Falls s first last
      → (dart_before (contraction level) s first < dart_count (contraction level)) × Turns level next level.y level.x (dart_before (contraction level) s first)
  turn-first s first last a r =
      let m : IsMap _ (dart_after (contraction level) s) (dart_before (contraction level) s) = map-permutes (contraction level) s (level-graph level k) a.system in
      let l : dart_before (contraction level) s first < dart_count (contraction level) = m.back first r.first_dart in
      (l, (r.before_first, ap (leaves level) (a.steps (dart_before (contraction level) s first) l ∙ m.forth_back first r.first_dart) ∙ r.first_leaves))

  -- no turn from x to y
  pub none-last : (s : List (List ℕ)) → AreSteps (contraction level) s next → ((d : ℕ) → d < dart_count (contraction level) → Turns level next level.x level.y d → ⊥) → HaveNoRuns level next
  none-last s a n = (s, a, λ first last r. n last r.last_dart (turn-last s first last a r))

  -- no turn from y to x
  pub none-first : (s : List (List ℕ)) → AreSteps (contraction level) s next → ((d : ℕ) → d < dart_count (contraction level) → Turns level next level.y level.x d → ⊥) → HaveNoRuns level next
  none-first s a n = (s, a, λ first last r. let w = turn-first s first last a r in n (dart_before (contraction level) s first) w.0 w.1)

  -- a turn from x to y is the last dart
  same-last : (s : List (List ℕ)) (first last : ℕ) → AreSteps (contraction level) s next → Falls s first last → (d : ℕ) → d < dart_count (contraction level) → Turns level next level.x level.y d → d ≡ last
  same-last s first last a r d l t = elim (cases_eq d last) [
    | inl e ↦ e
    | inr n ↦ absurd (apart (leaves level (slice_index next d)) (ap (leaves level) (a.steps d l) ∙ r.run_of_x d l t.0 n) t.1)
  ]

  -- and what follows a turn from y to x is the first one
  same-first : (s : List (List ℕ)) (first last : ℕ) → AreSteps (contraction level) s next → Falls s first last → (d : ℕ) → d < dart_count (contraction level) → Turns level next level.y level.x d → slice_index next d ≡ first
  same-first s first last a r d l t = elim (cases_eq (slice_index next d) first) [
    | inl e ↦ e
    | inr n ↦ absurd (apart (leaves level (slice_index next d)) t.1 (ap (leaves level) (a.steps d l) ∙ r.run_of_y d l t.0 (λ e. n (a.steps d l ∙ e))))
  ]

  -- where there are runs, all darts fit
  fits : (s : List (List ℕ)) (first last : ℕ) → AreSteps (contraction level) s next → Falls s first last → (d : ℕ) → d < dart_count (contraction level) → FitsAt level next first last d
  fits s first last a r d l = record {
    run_of_x = λ e n. ap (leaves level) (a.steps d l) ∙ r.run_of_x d l e n;
    run_of_y = λ e n. ap (leaves level) (a.steps d l) ∙ r.run_of_y d l e (λ q. n (a.steps d l ∙ q));
    common = r.common d l;
  }

  -- the turns that were found, at darts that do not fit or are the same
  pub none-fits : (s : List (List ℕ)) → AreSteps (contraction level) s next → (last end : ℕ) → last < dart_count (contraction level) → end < dart_count (contraction level) → Turns level next level.x level.y last → Turns level next level.y level.x end
      → (slice_index next end ≢ last → ((d : ℕ) → d < dart_count (contraction level) → FitsAt level next (slice_index next end) last d) → ⊥) → HaveNoRuns level next
  none-fits s a last end ll le tl te n = (
    s,
    a,
    λ f l r.
        let p : last ≡ l = same-last s f l a r last ll tl in
        let q : slice_index next end ≡ f = same-first s f l a r end le te in
        n (λ e. r.two (sym q ∙ e ∙ p)) (subst (λ z. (d : ℕ) → d < dart_count (contraction level) → FitsAt level next z last d) (sym q)
        (subst (λ z. (d : ℕ) → d < dart_count (contraction level) → FitsAt level next f z d) (sym p) (fits s f l a r))),
  )

  -- where they fit, there are runs
  pub some-fits : (s : List (List ℕ)) → AreSteps (contraction level) s next → (last end : ℕ) → last < dart_count (contraction level) → end < dart_count (contraction level) → Turns level next level.x level.y last → Turns level next level.y level.x end
      → slice_index next end ≢ last → ((d : ℕ) → d < dart_count (contraction level) → FitsAt level next (slice_index next end) last d) → HaveRuns level next (slice_index next end) last
  some-fits s a last end ll le tl te n fit = (
    s,
    a,
    record {
      first_dart = steps-in (contraction level) (level-graph level k) s next a end le;
      last_dart = ll;
      first_leaves = te.1;
      last_leaves = tl.0;
      two = n;
      before_first = ap (leaves level) (permutes-back (dart_count (contraction level)) (dart_after (contraction level) s) (dart_before (contraction level) s)
          (map-permutes (contraction level) s (level-graph level k) a.system) end (slice_index next end) le (sym (a.steps end le))) ∙ te.0;
      after_last = ap (leaves level) (sym (a.steps last ll)) ∙ tl.1;
      run_of_x = λ d l e m. ap (leaves level) (sym (a.steps d l)) ∙ (fit d l).run_of_x e m;
      run_of_y = λ d l e m. ap (leaves level) (sym (a.steps d l)) ∙ (fit d l).run_of_y e (λ q. m (sym (a.steps d l) ∙ q));
      common = λ d l. (fit d l).common;
    },
  )

-- they fall so in each rotation system with these steps
pub runs-in : (level : Level) (next : List ℕ) (first last : ℕ) → HaveRuns level next first last → (s : List (List ℕ)) → AreSteps (contraction level) s next
    → FallsInRuns level.graph (contraction level) level.x level.y (edge_before level) s first last
runs-in level next first last w s a =
    subst (λ (r : List (List ℕ)). FallsInRuns level.graph (contraction level) level.x level.y (edge_before level) r first last) (one-system (contraction level) next w.0 s w.1 a) w.2
