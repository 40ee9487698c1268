-- Where no foot of a triconnected graph has a next step, all edges are drawn.
use Rattle.std.proofs.Common.{◌≡◌, ◌≢◌, ◌∙◌, ℕ, ◌/◌, ◌*◌, ◌<◌, ◌⊎◌, inl, inr, Bool, true, false, ◌==◌, not, List, slice_index, refl, sym, ap, subst, arith}
use Rattle.std.proofs.lemmas.Bool.{cases_Bool, both_ways, eqb-true, eq-eqb, not-true}
use Rattle.permutations.specs.Count.{some}
use Rattle.permutations.proofs.Count.{last-passing}
use Rattle.permutations.proofs.Search.{some-witness, some-none}
use Rattle.multigraph.specs.Graph.{Multigraph, edge_count, IsGraph}
use Rattle.multigraph.specs.Marks.{is_marked}
use Rattle.dart_maps.specs.Map.{twin}
use Rattle.dart_maps.proofs.Darts.{twin-below}
use Rattle.graph_theory.specs.Triconnected.{IsTriconnected}
use Rattle.faces.specs.Euler.{tail, dart_count}
use Rattle.faces.proofs.MapSteps.{tail-in}
use Rattle.path_separation.specs.Drawn.{is_on}
use Rattle.path_separation.specs.Feet as feet
use Rattle.path_separation.specs.Feet.{IsAttached}
use Rattle.path_separation.proofs.DrawnMap.{on-dart, dart-on, drawn-twin}
use Rattle.path_separation.proofs.Feet.{arrives-elsewhere, head-attached, touch-attached, touches-another, some-foot}
use Rattle.path_separation.proofs.Separation.{some-foot_is_forced}
use Rattle.path_rotation.specs.Forced.{AreTables, IsInvolution, IsDrawingBy}
use Rattle.path_rotation.specs.Fitting.{IsFoot, drawn_count}
use Rattle.path_rotation.specs.Finish.{IsPlaneOrder}
use Rattle.path_rotation.proofs.DrawingKept.{drawn-order}
use Rattle.path_rotation.specs.Settling.{AreOpen}

module _ (g : Multigraph) (ok : IsGraph g) (tri : IsTriconnected g) (drawn on : List Bool) (next : List ℕ) (tables : AreTables g drawn on next) where
  abbrev D : ℕ → Bool
  D = is_marked drawn

  -- a foot of a triconnected graph has an attachment
  some-attached : (t : ℕ) → feet.IsFoot g D t → (z : ℕ) × IsAttached g D t z
  some-attached t f = elim (cases_Bool (is_on g D (tail g (twin t)))) [
    | inl h ↦ (tail g (twin t), head-attached g ok D t f.0 h)
    | inr h ↦
        let d = on-dart g D (tail g t) f.2 in
        let w = touches-another g ok D tri (tail g (twin t)) (tail g t) (tail g (twin d.0)) (tail-in g (twin t) ok (twin-below (edge_count g) t f.0)) h f.2
        (tail-in g (twin d.0) ok (twin-below (edge_count g) d.0 d.1)) (dart-on g D (twin d.0) (twin-below (edge_count g) d.0 d.1) (drawn-twin D d.0 ∙ d.2))
        (λ e. arrives-elsewhere g ok d.0 d.1 (e ∙ sym d.3)) in
        (w.0, touch-attached g ok D t w.0 h w.1 w.2 w.3)
  ]

  -- its feet are those of the drawing
  its-foot : (t : ℕ) → feet.IsFoot g D t → IsFoot g drawn on t
  its-foot t f = record { dart = f.0; undrawn = f.1; tail_on = tables.on_drawn (tail g t) ∙ f.2 }

  -- going twice to the next dart leads back everywhere, or not at some dart
  turns : (IsInvolution (edge_count g) next) ⊎ ((d : ℕ) × (d < dart_count g) × (slice_index next (slice_index next d) ≢ d))
  turns = elim (cases_Bool (some (dart_count g) is_off)) [
    | inl h ↦ let w = some-witness (dart_count g) is_off h in inr (w.0, w.1, λ e. both_ways (slice_index next (slice_index next w.0) == w.0) (not-true (slice_index next (slice_index next w.0) == w.0) w.2) (eq-eqb (slice_index next (slice_index next w.0)) w.0 e))
    | inr h ↦ inl (λ d l. eqb-true (slice_index next (slice_index next d)) d (not-false (slice_index next (slice_index next d) == d) (some-none (dart_count g) is_off h d l)))
  ]
    where
      is_off : ℕ → Bool
      is_off d = not (slice_index next (slice_index next d) == d)

      not-false : (b : Bool) → not b ≡ false → b ≡ true
      not-false true h = refl
      not-false false h = absurd (both_ways true h refl)

  -- so if some edge is drawn, all are
  pub all-settled : IsDrawingBy g drawn next → AreOpen g drawn on next → (b : ℕ) → b < edge_count g → is_marked drawn b ≡ true → (e : ℕ) → e < edge_count g → is_marked drawn e ≡ true
  all-settled s steps b lb hb e l = elim (cases_Bool (is_marked drawn e)) [
    | inl h ↦ h
    | inr h ↦ absurd (elim turns [
      | inl i ↦
          let t = some-foot g ok D tri (2 * b) (2 * e) (omega arith) (subst (λ (x : ℕ). is_marked drawn x ≡ true) (sym (half b)) hb) (omega arith) (subst (λ (x : ℕ). is_marked drawn x ≡ false) (sym (half e)) h) in
          elim (steps t.0 (its-foot t.0 t.1)) [
            | inl n ↦ let z = some-attached t.0 t.1 in n z.0 z.1
            | inr n ↦ n.1 i
          ]
      | inr d ↦
          let t = some-foot_is_forced g ok tri D (slice_index next) s.0 s.1 d.0 e d.1 (moved d.0 d.1 d.2) d.2 l h in
          elim (steps t.0 (its-foot t.0 t.1)) [
            | inl n ↦ let z = some-attached t.0 t.1 in n z.0 z.1
            | inr n ↦ n.0.different (t.2 n.0.first n.0.second n.0.first_fits n.0.second_fits)
          ]
    ])
  ]
    where
      half : (x : ℕ) → (2 * x) / 2 ≡ x
      half x = omega arith

      moved : (d : ℕ) → d < dart_count g → slice_index next (slice_index next d) ≢ d → is_marked drawn (d / 2) ≡ true
      moved d k n = elim (cases_Bool (is_marked drawn (d / 2))) [
        | inl y ↦ y
        | inr y ↦ let a : slice_index next d ≡ d = tables.alone d k y in absurd (n (ap (slice_index next) a ∙ a))
      ]

-- and the map is that of a plane rotation system
pub settled-order : (g : Multigraph) → IsGraph g → IsTriconnected g → (drawn on : List Bool) (next : List ℕ) → AreTables g drawn on next → IsDrawingBy g drawn next → AreOpen g drawn on next → 0 < drawn_count g drawn → IsPlaneOrder g next
settled-order g ok tri drawn on next tables s steps l =
    let b = last-passing (edge_count g) (is_marked drawn) (omega (arith, l)) in
    drawn-order g ok drawn next s (all-settled g ok tri drawn on next tables s steps b.0 b.1 b.2)
