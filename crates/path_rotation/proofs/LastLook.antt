-- What is known of a foot, all of whose attachments and fitting corners are listed.
use Rattle.std.proofs.Common.{◌≡◌, ◌≢◌, ◌∙◌, ℕ, zero, suc, ◌*◌, ◌<◌, ◌⊎◌, ◌==◌, inl, inr, Bool, true, List, [], ◌∷◌, length, filter, slice_index, refl, sym, ap, subst, arith}
use Rattle.std.proofs.lemmas.Bool.{cases_eq, eqb-true, eq-eqb, false≢true}
use Rattle.permutations.specs.Members.{is_member}
use Rattle.permutations.specs.Permutation.{iterate}
use Rattle.permutations.proofs.Arrangements.{member-at}
use Rattle.permutations.proofs.Iterates.{orbit-steps}
use Rattle.permutations.proofs.Filter.{filter-member, member-filter_parts}
use Rattle.permutations.proofs.Orbits.{orbit-least}
use Rattle.permutations.proofs.Relation.{kernel-equivalence}
use Rattle.multigraph.specs.Graph.{Multigraph, edge_count, IsGraph}
use Rattle.dart_maps.specs.Map.{twin, face, same_face}
use Rattle.dart_maps.proofs.Darts.{twin-below}
use Rattle.faces.specs.Euler.{dart_count, IsPlaneSystem}
use Rattle.path_rotation.specs.Forced.{AreClosed, AreExact, IsInvolution, IsAdmissible, IsCorner}
use Rattle.path_rotation.specs.Search.{IsWayFound}
use Rattle.path_rotation.specs.Settling.{AreAllAttached, FitsTwo}
use Rattle.path_rotation.specs.Fitting.{IsBoard, IsFoot, AreDartsAt, MayDraw, IsWayTo}
use Rattle.path_rotation.proofs.Attached.{attached-leads, admissible-fits, sole-admissible}
use Rattle.path_rotation.proofs.ForcedSteps.{no-plane}

-- darts of one face have one label
pub face-label : (m : ℕ) (next label : List ℕ) → AreClosed m next label → (c k : ℕ) → same_face m (slice_index next) c k ≡ true → slice_index label c ≡ slice_index label k
face-label m next label closed c k h = eqb-true (slice_index label c) (slice_index label k)
    (orbit-least (2 * m) (face (slice_index next)) (λ x y. slice_index label x == slice_index label y) (kernel-equivalence (slice_index label))
    (λ z l. eq-eqb (slice_index label z) (slice_index label (face (slice_index next) z)) (sym (closed z l))) c k h)

-- where going twice leads back, an orbit has two numbers at most
turns-two : (f : ℕ → ℕ) (n : ℕ) → ((x : ℕ) → x < n → f (f x) ≡ x) → (c : ℕ) → c < n → (k : ℕ) → (iterate f k c ≡ c) ⊎ (iterate f k c ≡ f c)
turns-two f n h c l zero = inl refl
turns-two f n h c l (suc k) = elim (turns-two f n h c l k) [ inl e ↦ inr (ap f e) | inr e ↦ inl (ap f e ∙ h c l) ]

module _ (g : Multigraph) (ok : IsGraph g) (drawn on : List Bool) (next label : List ℕ) (b : IsBoard g drawn on next label) (exact : AreExact (edge_count g) next label) (t : ℕ) (f : IsFoot g drawn on t) (attached : List ℕ) (a : AreAllAttached g drawn t attached) where
  -- no corner fits
  pub none-fit : ((c : ℕ) → IsAdmissible g drawn label attached t c → ⊥) → (r : List (List ℕ)) → IsPlaneSystem g r → ⊥
  none-fit none = no-plane g ok drawn on next label b.tables b.closed t f.dart f.undrawn f.tail_on b.forced attached (λ z m. attached-leads g ok drawn on next b.tables t f.dart f.tail_on z (a.each z m)) none

  -- one corner alone fits
  pub one-fits : (c : ℕ) → IsAdmissible g drawn label attached t c → ((d : ℕ) → d ≢ c → IsAdmissible g drawn label attached t d → ⊥) → MayDraw g drawn on next label t c
  one-fits c h none = record {
    at = record { below = h.below; drawn_dart = h.drawn_dart; leaves = h.leaves };
    certain = inl (record {
      attachments = attached;
      reached = λ z m. attached-leads g ok drawn on next b.tables t f.dart f.tail_on z (a.each z m);
      only = λ d k. elim (cases_eq d c) [ inl e ↦ e | inr n ↦ absurd (none d n k) ];
    });
  }

  -- one fits, and what is drawn is an edge or a cycle
  pub mirror-fits : (c : ℕ) → IsAdmissible g drawn label attached t c → IsInvolution (edge_count g) next → MayDraw g drawn on next label t c
  mirror-fits c h i = record {
    at = record { below = h.below; drawn_dart = h.drawn_dart; leaves = h.leaves };
    certain = inr (record {
      turns = i;
      two = λ d k.
          let w = orbit-steps (dart_count g) (slice_index next) b.drawing.0 b.drawing.1.map.permutes c d h.below
          (b.drawing.1.map.vertices c d h.below k.below h.drawn_dart k.drawn_dart (h.leaves ∙ sym k.leaves)) in
          elim (turns-two (slice_index next) (dart_count g) i c h.below w.0) [ inl e ↦ inl (sym w.2 ∙ e) | inr e ↦ inr (sym w.2 ∙ e) ];
    });
  }

  -- two fit
  pub two-fit : (c d : ℕ) → IsAdmissible g drawn label attached t c → IsAdmissible g drawn label attached t d → d ≢ c → FitsTwo g drawn next t
  two-fit c d h k n = record {
    first = c;
    second = d;
    first_fits = admissible-fits g ok drawn on next b.tables t f.dart f.tail_on label (face-label (edge_count g) next label b.closed) exact attached a c h;
    second_fits = admissible-fits g ok drawn on next b.tables t f.dart f.tail_on label (face-label (edge_count g) next label b.closed) exact attached a d k;
    different = λ e. n (sym e);
  }

  -- the corner at an attachment
  pub look-way : (c : ℕ) → IsAdmissible g drawn label attached t c → (z : ℕ) → is_member z attached ≡ true → (path there near : List ℕ) → IsWayFound g on t path z → AreDartsAt g drawn z there
      → near ≡ filter (λ d. slice_index label (twin d) == slice_index label (twin c)) there
      → (0 < length near) × (IsWayTo g drawn on label t c path (slice_index near 0)) × (same_face (edge_count g) (slice_index next) (twin c) (twin (slice_index near 0)) ≡ true)
  look-way c h z m path there near w d e =
      let k = h.passes z m in
      let in_near : is_member k.0 near ≡ true = subst (λ (x : List ℕ). is_member k.0 x ≡ true) (sym e)
      (filter-member test there k.0 (d.all k.0 (record { below = k.1.below; drawn_dart = k.1.drawn_dart; leaves = k.1.leaves })) (eq-eqb (slice_index label (twin k.0)) (slice_index label (twin c)) k.1.in_face)) in
      let some = some-in near k.0 in_near in
      let p = member-filter_parts test there (slice_index near 0) (subst (λ (x : List ℕ). is_member (slice_index near 0) x ≡ true) e (member-at near 0 0 some)) in
      let at = d.each (slice_index near 0) p.0 in
      let face = eqb-true (slice_index label (twin (slice_index near 0))) (slice_index label (twin c)) p.1 in (
        some,
        record {
          place = z;
          way = w;
          sole = sole-admissible g ok drawn on next b.tables t f.dart f.tail_on label (face-label (edge_count g) next label b.closed) exact attached a b.drawing.0 b.drawing.1 c z (slice_index near 0)
              (record { below = at.below; drawn_dart = at.drawn_dart; leaves = at.leaves; in_face = face });
        },
        exact (twin c) (twin (slice_index near 0)) (twin-below (edge_count g) c h.below) (twin-below (edge_count g) (slice_index near 0) at.below) (sym face),
      )
    where
      test : ℕ → Bool
      test d = slice_index label (twin d) == slice_index label (twin c)

      some-in : (x : List ℕ) (y : ℕ) → is_member y x ≡ true → 0 < length x
      some-in [] y h = absurd (false≢true h)
      some-in (v ∷ x) y h = omega arith

-- some drawn dart at z is in the face
pub near-corner : (g : Multigraph) (drawn : List Bool) (label : List ℕ) (z of_face : ℕ) (there near : List ℕ) → AreDartsAt g drawn z there → near ≡ filter (λ d. slice_index label (twin d) == of_face) there → (length near ≡ 0 → ⊥) → (k : ℕ) × IsCorner g drawn label z of_face k
near-corner g drawn label z of_face there near d e n =
    let p = member-filter_parts (λ k. slice_index label (twin k) == of_face) there (slice_index near 0) (subst (λ (x : List ℕ). is_member (slice_index near 0) x ≡ true) e (member-at near 0 0 (omega (arith, n)))) in
    let at = d.each (slice_index near 0) p.0 in
    (slice_index near 0, record { below = at.below; drawn_dart = at.drawn_dart; leaves = at.leaves; in_face = eqb-true (slice_index label (twin (slice_index near 0))) of_face p.1 })

-- or none is
pub near-none : (g : Multigraph) (drawn : List Bool) (label : List ℕ) (z of_face : ℕ) (there near : List ℕ) → AreDartsAt g drawn z there → near ≡ filter (λ d. slice_index label (twin d) == of_face) there → length near ≡ 0 → (k : ℕ) → IsCorner g drawn label z of_face k → ⊥
near-none g drawn label z of_face there near d e n k c = empty near n (subst (λ (x : List ℕ). is_member k x ≡ true) (sym e)
    (filter-member (λ k. slice_index label (twin k) == of_face) there k (d.all k (record { below = c.below; drawn_dart = c.drawn_dart; leaves = c.leaves })) (eq-eqb (slice_index label (twin k)) of_face c.in_face)))
  where
    empty : (x : List ℕ) → length x ≡ 0 → is_member k x ≡ true → ⊥
    empty [] q m = false≢true m
    empty (v ∷ x) q m = omega (arith, q)
