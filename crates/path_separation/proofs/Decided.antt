-- Whether a foot fits a corner, and whether it fits two, as tests.
use Rattle.std.proofs.Common.{◌≡◌, ℕ, ◌/◌, ◌<◌, inl, inr, Bool, true, false, cond, not, ◌&&◌, ◌==◌, sym, ap, ◌∙◌}
use Rattle.std.proofs.lemmas.Bool.{cases_Bool, cases_eq, both_ways, and_from, and_parts, not-true, not_from_false, eq-eqb, eqb-true, ne_eqb, eqb-false, false_from_ne_true}
use Rattle.permutations.specs.Count.{some}
use Rattle.permutations.proofs.Search.{some-from, some-witness, some-none, none-some}
use Rattle.multigraph.specs.Graph.{Multigraph, IsGraph, edge_count, is_end}
use Rattle.multigraph.proofs.OtherEnd.{end-in}
use Rattle.dart_maps.specs.Map.{twin}
use Rattle.faces.specs.Euler.{tail, dart_count}
use Rattle.path_separation.specs.Drawn.{is_on, passes}
use Rattle.path_separation.specs.Feet.{touches, IsAttached, FitsCorner, IsFoot}
use Rattle.path_separation.proofs.Feet.{FitsTwo}

module _ (g : Multigraph) (ok : IsGraph g) (drawn : ℕ → Bool) (next : ℕ → ℕ) where
  abbrev head : ℕ → ℕ
  head t = tail g (twin t)

  abbrev on : ℕ → Bool
  on = is_on g drawn

  -- what the path reaches
  abbrev reaches : ℕ → ℕ → Bool
  reaches t z = cond (on (head t)) (z == head t) (touches g drawn (head t) z)

  abbrev is_attached : ℕ → ℕ → Bool
  is_attached t z = on z && (not (z == tail g t) && reaches t z)

  attached-is : (t z : ℕ) → is_attached t z ≡ true → IsAttached g drawn t z
  attached-is t z h =
      let p = and_parts (on z) (not (z == tail g t) && reaches t z) h in
      let q = and_parts (not (z == tail g t)) (reaches t z) p.1 in
      record {
        arrives = p.0;
        elsewhere = eqb-false z (tail g t) (not-true (z == tail g t) q.0);
        reached = elim (cases_Bool (on (head t))) [
          | inl u ↦ inl (u, eqb-true z (head t) (sym (ap (λ b. cond b (z == head t) (touches g drawn (head t) z)) u) ∙ q.1))
          | inr u ↦ inr (u, sym (ap (λ b. cond b (z == head t) (touches g drawn (head t) z)) u) ∙ q.1)
        ];
      }

  is-attached : (t z : ℕ) → IsAttached g drawn t z → is_attached t z ≡ true
  is-attached t z a = and_from (on z) (not (z == tail g t) && reaches t z) a.arrives
      (and_from (not (z == tail g t)) (reaches t z) (not_from_false (z == tail g t) (ne_eqb z (tail g t) a.elsewhere)) (elim a.reached [
        | inl w ↦ ap (λ b. cond b (z == head t) (touches g drawn (head t) z)) w.0 ∙ eq-eqb z (head t) w.1
        | inr w ↦ ap (λ b. cond b (z == head t) (touches g drawn (head t) z)) w.0 ∙ w.1
      ]))

  -- a vertex with drawn edges is one of the graph
  on-in : (z : ℕ) → on z ≡ true → z < g.vertex_count
  on-in z h =
      let w = some-witness (edge_count g) (λ e. drawn e && is_end g z e) h in
      end-in g z w.0 ok w.1 (and_parts (drawn w.0) (is_end g z w.0) w.2).1

  -- an attachment that the face doesn't pass
  abbrev misses : ℕ → ℕ → ℕ → Bool
  misses t c z = is_attached t z && not (passes g drawn next (twin c) z)

  abbrev fits : ℕ → ℕ → Bool
  fits t c = drawn (c / 2) && (tail g c == tail g t && not (some g.vertex_count (misses t c)))

  fits-corner : (t c : ℕ) → c < dart_count g → fits t c ≡ true → FitsCorner g drawn next t c
  fits-corner t c l h =
      let p = and_parts (drawn (c / 2)) (tail g c == tail g t && not (some g.vertex_count (misses t c))) h in
      let q = and_parts (tail g c == tail g t) (not (some g.vertex_count (misses t c))) p.1 in
      record {
        below = l;
        in_map = p.0;
        starts = eqb-true (tail g c) (tail g t) q.0;
        fits = λ z a. elim (cases_Bool (passes g drawn next (twin c) z)) [
          | inl u ↦ u
          | inr u ↦ absurd (both_ways (misses t c z) (some-none g.vertex_count (misses t c) (not-true (some g.vertex_count (misses t c)) q.1) z (on-in z a.arrives))
              (and_from (is_attached t z) (not (passes g drawn next (twin c) z)) (is-attached t z a) (not_from_false (passes g drawn next (twin c) z) u)))
        ];
      }

  corner-fits : (t c : ℕ) → FitsCorner g drawn next t c → fits t c ≡ true
  corner-fits t c f = and_from (drawn (c / 2)) (tail g c == tail g t && not (some g.vertex_count (misses t c))) f.in_map
      (and_from (tail g c == tail g t) (not (some g.vertex_count (misses t c))) (eq-eqb (tail g c) (tail g t) f.starts)
      (not_from_false (some g.vertex_count (misses t c)) (none-some g.vertex_count (misses t c) (λ z l. false_from_ne_true (misses t c z) (λ h.
      let p = and_parts (is_attached t z) (not (passes g drawn next (twin c) z)) h in
      both_ways (passes g drawn next (twin c) z) (not-true (passes g drawn next (twin c) z) p.1) (f.fits z (attached-is t z p.0)))))))

  -- another corner that is fitted
  abbrev again : ℕ → ℕ → ℕ → Bool
  again t c k = fits t k && not (c == k)

  abbrev fits_two : ℕ → Bool
  fits_two t = some (dart_count g) (λ c. fits t c && some (dart_count g) (again t c))

  two-fit : (t : ℕ) → fits_two t ≡ true → FitsTwo g drawn next t
  two-fit t h =
      let w = some-witness (dart_count g) (λ c. fits t c && some (dart_count g) (again t c)) h in
      let p = and_parts (fits t w.0) (some (dart_count g) (again t w.0)) w.2 in
      let v = some-witness (dart_count g) (again t w.0) p.1 in
      let q = and_parts (fits t v.0) (not (w.0 == v.0)) v.2 in
      record { first = w.0; second = v.0; first_fits = fits-corner t w.0 w.1 p.0; second_fits = fits-corner t v.0 v.1 q.0; different = eqb-false w.0 v.0 (not-true (w.0 == v.0) q.1) }

  one-fits : (t : ℕ) → fits_two t ≡ false → (c k : ℕ) → FitsCorner g drawn next t c → FitsCorner g drawn next t k → c ≡ k
  one-fits t h c k f i = elim (cases_eq c k) [
    | inl e ↦ e
    | inr n ↦ absurd (both_ways (fits_two t) h (some-from (dart_count g) (λ d. fits t d && some (dart_count g) (again t d)) c f.below
        (and_from (fits t c) (some (dart_count g) (again t c)) (corner-fits t c f)
        (some-from (dart_count g) (again t c) k i.below (and_from (fits t k) (not (c == k)) (corner-fits t k i) (not_from_false (c == k) (ne_eqb c k n)))))))
  ]

  abbrev lone : ℕ → Bool
  lone t = (not (drawn (t / 2)) && on (tail g t)) && not (fits_two t)

  -- where not each foot fits two corners, some foot fits at most one
  pub some-lone : (((t : ℕ) → IsFoot g drawn t → FitsTwo g drawn next t) → ⊥) → (t : ℕ) × IsFoot g drawn t × ((c k : ℕ) → FitsCorner g drawn next t c → FitsCorner g drawn next t k → c ≡ k)
  some-lone not_all = elim (cases_Bool (some (dart_count g) lone)) [
    | inl h ↦
        let w = some-witness (dart_count g) lone h in
        let p = and_parts (not (drawn (w.0 / 2)) && on (tail g w.0)) (not (fits_two w.0)) w.2 in
        let q = and_parts (not (drawn (w.0 / 2))) (on (tail g w.0)) p.0 in
        (w.0, (w.1, not-true (drawn (w.0 / 2)) q.0, q.1), one-fits w.0 (not-true (fits_two w.0) p.1))
    | inr h ↦ absurd (not_all (λ t f. elim (cases_Bool (fits_two t)) [
      | inl u ↦ two-fit t u
      | inr u ↦ absurd (both_ways (lone t) (some-none (dart_count g) lone h t f.0)
          (and_from (not (drawn (t / 2)) && on (tail g t)) (not (fits_two t)) (and_from (not (drawn (t / 2))) (on (tail g t)) (not_from_false (drawn (t / 2)) f.1) f.2) (not_from_false (fits_two t) u)))
    ]))
  ]
