-- The steps of a contraction carried over to the graph, and the merged vertex parted again.
use Rattle.std.proofs.Common.{◌≡◌, ℕ, ◌+◌, ◌<◌, ◌/◌, inl, inr, Bool, true, false, List, length, set, slice_index, sym, ap, ◌∙◌, subst, arith}
use Rattle.std.proofs.lemmas.Bool.{cases_Bool, cases_eq, both_ways}
use Rattle.std.proofs.lemmas.List.{get_or-set_same, get_or-set_other, length-set}
use Rattle.permutations.specs.Exchange.{exchange}
use Rattle.permutations.proofs.Permutations.{permutes-back}
use Rattle.multigraph.specs.Graph.{edge_count}
use Rattle.contractions.specs.Contraction.{are_adjacent, is_kept}
use Rattle.contractions.specs.Contracted.{contracted_vertex}
use Rattle.dart_maps.specs.Map.{twin, IsMap}
use Rattle.dart_maps.specs.Changes.{inserted}
use Rattle.faces.specs.Euler.{tail, dart_from, dart_count}
use Rattle.faces.specs.Maps.{dart_after, dart_before}
use Rattle.faces.proofs.MapSteps.{map-permutes}
use Rattle.faces.proofs.MapParts.{place}
use Rattle.planarity.specs.Expansion.{moved}
use Rattle.dart_maps.proofs.Darts.{twin-below}
use Rattle.planarity.proofs.ContractedDarts.{middle-below}
use Rattle.planarity.proofs.JoinedDarts.{joined-dart, dart-turned, between-is}
use Rattle.dart_maps.proofs.CarriedMaps.{IsNumbering, outer-live, outer-dead}
use Rattle.planarity.proofs.ContractedSystem.{kept-numbering}
use Rattle.planarity.proofs.ExpandedApart.{carried}
use Rattle.planarity.proofs.ExpandedPlane.{expanded-system}
use Rattle.contractions.specs.Level.{IsLevel, contraction, edge_before}
use Rattle.contract_obstruct.specs.Steps.{AreSteps, ArePlaneSteps}
use Rattle.contract_embed.specs.Steps.{AgreeBelow, first_dart, rejoined}
use Rattle.contract_embed.specs.Runs.{origin, CarriedBelow, HaveRuns}
use Rattle.contract_embed.proofs.RunsTold.{runs-in}
use Rattle.contractions.specs.declared.level.Level.{Level}
use Rattle.contractions.proofs.LevelFacts.{level-contraction, level-graph}

module _ (level : Level) (k : IsLevel level) (next : List ℕ) where
  abbrev kept : ℕ → Bool
  kept d = is_kept level.graph level.edge level.x level.y (d / 2)

  numbering : IsNumbering (dart_count (contraction level)) (dart_count level.graph) kept (origin level) (moved (place (contraction level) (edge_before level)))
  numbering = kept-numbering level.graph (contraction level) level.edge level.x level.y (edge_before level) (contracted_vertex level.x level.y) k.graph (level-contraction level k)

  -- darts of different numbers were different
  origin-once : (c d : ℕ) → c < dart_count (contraction level) → d < dart_count (contraction level) → origin level c ≡ origin level d → c ≡ d
  origin-once c d l m e = sym (numbering.back_into c l) ∙ (ap (moved (place (contraction level) (edge_before level))) e ∙ numbering.back_into d m)

  -- one step more
  pub carried-next : (d : ℕ) (wide : List ℕ) → d < dart_count (contraction level) → CarriedBelow level next d wide → CarriedBelow level next (d + 1) (set wide (origin level d) (origin level (slice_index next d)))
  carried-next d wide l b = record {
    each = length-set wide (origin level d) (origin level (slice_index next d)) ∙ b.each;
    carried = λ c m. elim (cases_eq c d) [
      | inl e ↦ subst (λ z. slice_index (set wide (origin level d) (origin level (slice_index next d))) (origin level z) ≡ origin level (slice_index next z)) (sym e)
          (get_or-set_same wide (origin level d) (origin level (slice_index next d)) 0 (subst (λ n. origin level d < n) (sym b.each) (numbering.numbers d l)))
      | inr n ↦
          let m2 : c < d = omega arith in
          let m3 : c < dart_count (contraction level) = omega arith in
          get_or-set_other wide (origin level d) (origin level c) (origin level (slice_index next d)) 0 (λ e. n (origin-once c d m3 l e)) ∙ b.carried c m2
    ];
    alone = λ z m n. get_or-set_other wide (origin level d) z (origin level (slice_index next d)) 0 (λ e. n d (omega arith) (sym e)) ∙ b.alone z m (λ c q. n c (omega arith));
  }

  -- all steps
  carried-all : (s : List (List ℕ)) → AreSteps (contraction level) s next → (wide : List ℕ) → CarriedBelow level next (dart_count (contraction level)) wide
      → AgreeBelow (dart_count level.graph) (slice_index wide) (carried level.graph (contraction level) level.edge level.x level.y (edge_before level) (dart_after (contraction level) s))
  carried-all s a wide b z l = elim (cases_Bool (kept z)) [
    | inl t ↦
        let q : moved (place (contraction level) (edge_before level)) z < dart_count (contraction level) = numbering.numbers_back z l t in
        ap (slice_index wide) (sym (numbering.into_back z l t))
        ∙ (b.carried (moved (place (contraction level) (edge_before level)) z) q
        ∙ (ap (origin level) (a.steps (moved (place (contraction level) (edge_before level)) z) q)
        ∙ sym (outer-live kept (origin level) (moved (place (contraction level) (edge_before level))) (dart_after (contraction level) s) z t)))
    | inr t ↦ b.alone z l (λ d m e. both_ways (kept z) t (subst (λ y. kept y ≡ true) e (numbering.lives d m)))
        ∙ sym (outer-dead kept (origin level) (moved (place (contraction level) (edge_before level))) (dart_after (contraction level) s) z t)
  ]

  -- the dart before another one
  before-is : (s : List (List ℕ)) → AreSteps (contraction level) s next → (c d : ℕ) → c < dart_count (contraction level) → slice_index next c ≡ d → c ≡ dart_before (contraction level) s d
  before-is s a c d l e = sym (permutes-back (dart_count (contraction level)) (dart_after (contraction level) s) (dart_before (contraction level) s) (map-permutes (contraction level) s (level-graph level k) a.system) c d l (sym (a.steps c l) ∙ e))

  -- each dart follows one
  pub some-before : ArePlaneSteps (contraction level) next → (d : ℕ) → d < dart_count (contraction level) → (c : ℕ) × (c < dart_count (contraction level)) × (slice_index next c ≡ d)
  some-before p d l =
      let m : IsMap (edge_count (contraction level)) (dart_after (contraction level) p.system) (dart_before (contraction level) p.system) = map-permutes (contraction level) p.system (level-graph level k) p.are_steps.system in
      let b : dart_before (contraction level) p.system d < dart_count (contraction level) = m.back d l in
      (dart_before (contraction level) p.system d, b, p.are_steps.steps (dart_before (contraction level) p.system d) b ∙ m.forth_back d l)

  -- the edge put in again between where the dart leads and y
  abbrev pub again : ℕ → ℕ → ℕ → (ℕ → ℕ) → ℕ → ℕ
  again d p q f = rejoined (are_adjacent level.graph level.y (tail level.graph (twin d))) (first_dart level.graph (tail level.graph (twin d)) level.y) p q f

  -- the edge that is put in again is one
  pub joining-in : (far q : ℕ) → are_adjacent level.graph level.y far ≡ true → q ≡ first_dart level.graph far level.y → (q < dart_count level.graph) × (twin q < dart_count level.graph)
  joining-in far q t e =
      let w = dart-turned level.graph level.y far (joined-dart level.graph k.graph level.y far t) in
      let b : q < dart_count level.graph = subst (λ z. z < dart_count level.graph) (sym e) (between-is level.graph far level.y w.0 w.1 w.2 w.3).0 in
      (b, twin-below (edge_count level.graph) q b)

  -- the contracted edge too
  pub middle-in : (d : ℕ) → d ≡ dart_from level.graph level.x level.edge → (d < dart_count level.graph) × (twin d < dart_count level.graph)
  middle-in d e =
      let b : d < dart_count level.graph = subst (λ z. z < dart_count level.graph) (sym e) (middle-below level.graph (contraction level) level.edge level.x level.y (edge_before level) (contracted_vertex level.x level.y) k.graph (level-contraction level k)) in
      (b, twin-below (edge_count level.graph) d b)

  -- all changes, one after the other
  pub expanded-steps : ArePlaneSteps (contraction level) next → (first last : ℕ) → HaveRuns level next first last → (narrow wide : List ℕ) → CarriedBelow level next (dart_count (contraction level)) narrow
      → (c d end behind middle early late turn back : ℕ) → c < dart_count (contraction level) → slice_index next c ≡ first → d < dart_count (contraction level) → slice_index next d ≡ twin last
      → end ≡ origin level c → behind ≡ origin level d → middle ≡ dart_from level.graph level.x level.edge → early ≡ origin level first → late ≡ origin level last → turn ≡ twin early → back ≡ twin middle
      → length wide ≡ dart_count level.graph
      → ((f : ℕ → ℕ) → AgreeBelow (dart_count level.graph) (slice_index narrow) f → AgreeBelow (dart_count level.graph) (slice_index wide)
      (again late behind back (again early turn end (inserted middle late end (exchange late end f)))))
      → ArePlaneSteps level.graph wide
  expanded-steps p first last runs narrow wide b c d end behind middle early late turn back lc ec ld ed end_is behind_is middle_is early_is late_is turn_is back_is long agree =
      let w = expanded-system level.graph (contraction level) level.edge level.x level.y (edge_before level) (contracted_vertex level.x level.y) k.graph (level-graph level k) (level-contraction level k)
      k.triconnected.simple p.system p.are_steps.system p.plane first last (runs-in level next first last runs p.system p.are_steps) in
      record {
        system = w.0;
        are_steps = record { system = w.1; each = long; steps = λ z l. all z l ∙ sym (w.3 z l) };
        plane = w.2;
      }
    where
      s : List (List ℕ)
      s = p.system

      -- the changes, from any places
      changed : ℕ → ℕ → ℕ → ℕ → ℕ → ℕ → ℕ
      changed x1 x2 x3 x4 x5 = again x5 x2 (twin x3) (again x4 (twin x4) x1 (inserted x3 x5 x1 (exchange x5 x1 (carried level.graph (contraction level) level.edge level.x level.y (edge_before level) (dart_after (contraction level) p.system)))))

      all : (z : ℕ) → z < dart_count level.graph → slice_index wide z ≡ changed (origin level (dart_before (contraction level) p.system first)) (origin level (dart_before (contraction level) p.system (twin last)))
          (dart_from level.graph level.x level.edge) (origin level first) (origin level last) z
      all z l =
          agree (carried level.graph (contraction level) level.edge level.x level.y (edge_before level) (dart_after (contraction level) p.system)) (carried-all p.system p.are_steps narrow b) z l
          ∙ ap (λ q. again late behind back (again early q end (inserted middle late end (exchange late end (carried level.graph (contraction level) level.edge level.x level.y (edge_before level) (dart_after (contraction level) p.system))))) z) turn_is
          ∙ ap (λ q. again late behind q (again early (twin early) end (inserted middle late end (exchange late end (carried level.graph (contraction level) level.edge level.x level.y (edge_before level) (dart_after (contraction level) p.system))))) z) back_is
          ∙ ap (λ q. changed q behind middle early late z) (end_is ∙ ap (origin level) (before-is p.system p.are_steps c first lc ec))
          ∙ ap (λ q. changed (origin level (dart_before (contraction level) p.system first)) q middle early late z) (behind_is ∙ ap (origin level) (before-is p.system p.are_steps d (twin last) ld ed))
          ∙ ap (λ q. changed (origin level (dart_before (contraction level) p.system first)) (origin level (dart_before (contraction level) p.system (twin last))) q early late z) middle_is
          ∙ ap (λ q. changed (origin level (dart_before (contraction level) p.system first)) (origin level (dart_before (contraction level) p.system (twin last))) (dart_from level.graph level.x level.edge) q late z) early_is
          ∙ ap (λ q. changed (origin level (dart_before (contraction level) p.system first)) (origin level (dart_before (contraction level) p.system (twin last))) (dart_from level.graph level.x level.edge) (origin level first) q z) late_is

-- the edge put in, and none put in
pub rejoined-yes : (n : ℕ) (new f : ℕ → ℕ) (t : Bool) (d e p q : ℕ) → t ≡ true → d ≡ e → AgreeBelow n new (inserted d p q f) → AgreeBelow n new (rejoined t e p q f)
rejoined-yes n new f t d e p q h i a = subst (λ b. AgreeBelow n new (rejoined b e p q f)) (sym h) (subst (λ z. AgreeBelow n new (inserted z p q f)) i a)

pub rejoined-no : (n : ℕ) (new f : ℕ → ℕ) (t : Bool) (e p q : ℕ) → t ≡ false → AgreeBelow n new f → AgreeBelow n new (rejoined t e p q f)
rejoined-no n new f t e p q h a = subst (λ b. AgreeBelow n new (rejoined b e p q f)) (sym h) a
