-- The corners that may fit a bridge: those that are left out have an attachment that their face does not pass.
use Rattle.std.proofs.Common.{◌≡◌, ◌∙◌, ℕ, ◌<◌, ◌⊎◌, ◌==◌, Option, Some, IfSome, inl, inr, Bool, true, List, [], ◌∷◌, length, filter, slice_index, refl, sym, ap, subst, arith}
use Rattle.std.proofs.lemmas.Bool.{eqb-true, eq-eqb, false≢true}
use Rattle.permutations.specs.Members.{is_member}
use Rattle.permutations.proofs.Members.{member-head, member-tail, member-cases}
use Rattle.permutations.proofs.Filter.{filter-member, member-filter_parts}
use Rattle.permutations.proofs.Arrangements.{member-at}
use Rattle.multigraph.specs.Graph.{Multigraph, edge_count}
use Rattle.dart_maps.specs.Map.{twin}
use Rattle.dart_maps.proofs.Darts.{twin-below}
use Rattle.faces.specs.Euler.{tail}
use Rattle.path_rotation.specs.Forced.{LeadsOff, IsSoleCorner, IsAdmissible, IsInvolution}
use Rattle.path_rotation.specs.Search.{IsWayFound}
use Rattle.path_rotation.specs.Fitting.{IsDartAt, AreDartsAt, AreLabels, AreFitting, MayDraw}

-- at first all drawn darts at the tail
pub fitting-begin : (g : Multigraph) (drawn on : List Bool) (label : List ℕ) (t : ℕ) (corners : List ℕ) → AreDartsAt g drawn (tail g t) corners → AreFitting g drawn on label t corners
fitting-begin g drawn on label t corners a = record {
  each = a.each;
  attachments = [];
  reached = λ z m. absurd (false≢true m);
  fits = λ c f. a.all c (record { below = f.below; drawn_dart = f.drawn_dart; leaves = f.leaves });
}

-- a stamp on the label of the face of each corner at one more attachment, and those kept whose faces have one
pub fitting-more : (g : Multigraph) (drawn on : List Bool) (label : List ℕ) (t : ℕ) (corners : List ℕ) (z : ℕ) (path there passed : List ℕ) (stamp : ℕ) (kept : List ℕ)
    → AreFitting g drawn on label t corners → IsWayFound g on t path z → AreDartsAt g drawn z there
    → ((d : ℕ) → is_member d there ≡ true → slice_index passed (slice_index label (twin d)) ≡ stamp)
    → kept ≡ filter (λ d. slice_index passed (slice_index label (twin d)) == stamp) corners → AreFitting g drawn on label t kept
fitting-more g drawn on label t corners z path there passed stamp kept a w at stamped e = record {
  each = λ c m. a.each c (member-filter_parts passes corners c (subst (λ (l : List ℕ). is_member c l ≡ true) e m)).0;
  attachments = z ∷ a.attachments;
  reached = λ y m. elim (member-cases y z a.attachments m) [
    | inl i ↦ subst (λ (x : ℕ). (along : List ℕ) × LeadsOff g on t along x) i (w.along, w.leads)
    | inr i ↦ a.reached y i
  ];
  fits = λ c f.
      let old : IsAdmissible g drawn label a.attachments t c = record { below = f.below; drawn_dart = f.drawn_dart; leaves = f.leaves; passes = λ y m. f.passes y (member-tail y z a.attachments m) } in
      let k = f.passes z (member-head z a.attachments) in
      let here : is_member k.0 there ≡ true = at.all k.0 (record { below = k.1.below; drawn_dart = k.1.drawn_dart; leaves = k.1.leaves }) in
      let mark : slice_index passed (slice_index label (twin c)) ≡ stamp = ap (slice_index passed) (sym k.1.in_face) ∙ stamped k.0 here in
      subst (λ (l : List ℕ). is_member c l ≡ true) (sym e) (filter-member passes corners c (a.fits c old) (eq-eqb (slice_index passed (slice_index label (twin c))) stamp mark));
}
  where
    passes : ℕ → Bool
    passes d = slice_index passed (slice_index label (twin d)) == stamp

-- where none is left, none is admissible
pub fitting-none : (g : Multigraph) (drawn on : List Bool) (label : List ℕ) (t : ℕ) (corners : List ℕ) → length corners ≡ 0 → (a : AreFitting g drawn on label t corners) → (c : ℕ) → IsAdmissible g drawn label a.attachments t c → ⊥
fitting-none g drawn on label t [] e a c f = false≢true (a.fits c f)
fitting-none g drawn on label t (x ∷ l) e a c f = omega (arith, e)

-- where one is left, a path may be drawn there
pub fitting-one : (g : Multigraph) (drawn on : List Bool) (next label : List ℕ) (t c : ℕ) → AreFitting g drawn on label t (c ∷ []) → MayDraw g drawn on next label t c
fitting-one g drawn on next label t c a = record {
  at = a.each c (member-head c []);
  certain = inl (record {
    attachments = a.attachments;
    reached = a.reached;
    only = λ d f. elim (member-cases d c [] (a.fits d f)) [
      | inl i ↦ sym i
      | inr n ↦ absurd (false≢true n)
    ];
  });
}

-- and where there were two that a mirror image exchanges
pub fitting-two : (g : Multigraph) (drawn on : List Bool) (next label : List ℕ) (t : ℕ) (corners : List ℕ) (c : ℕ) → AreDartsAt g drawn (tail g t) corners → IsInvolution (edge_count g) next → is_member c corners ≡ true
    → ((d : ℕ) → is_member d corners ≡ true → (d ≡ c) ⊎ (d ≡ slice_index next c)) → MayDraw g drawn on next label t c
fitting-two g drawn on next label t corners c a i m two = record {
  at = a.each c m;
  certain = inr (record { turns = i; two = λ d h. two d (a.all d h) });
}

-- a list of one number
pub one-of : (l : List ℕ) → length l ≡ 1 → l ≡ slice_index l 0 ∷ []
one-of [] e = absurd (omega (arith, e))
one-of (x ∷ []) e = refl
one-of (x ∷ y ∷ l) e = absurd (omega (arith, e))

-- one corner in the face is kept, so it is the only one
pub sole-one : (g : Multigraph) (drawn : List Bool) (label : List ℕ) (z of_face : ℕ) (there kept : List ℕ) → AreDartsAt g drawn z there → kept ≡ filter (λ d. slice_index label (twin d) == of_face) there → length kept ≡ 1 → IsSoleCorner g drawn label z of_face (slice_index kept 0)
sole-one g drawn label z of_face there kept a e one = record {
  corner = record { below = found.below; drawn_dart = found.drawn_dart; leaves = found.leaves; in_face = eqb-true (slice_index label (twin k)) of_face parts.1 };
  only = λ d c.
      let m : is_member d kept ≡ true = subst (λ (l : List ℕ). is_member d l ≡ true) (sym e) (filter-member inside there d (a.all d (record { below = c.below; drawn_dart = c.drawn_dart; leaves = c.leaves }))
      (eq-eqb (slice_index label (twin d)) of_face c.in_face)) in
      elim (member-cases d k [] (subst (λ (l : List ℕ). is_member d l ≡ true) (one-of kept one) m)) [
        | inl i ↦ sym i
        | inr n ↦ absurd (false≢true n)
      ];
}
  where
    k : ℕ
    k = slice_index kept 0

    inside : ℕ → Bool
    inside d = slice_index label (twin d) == of_face

    parts : (is_member (slice_index kept 0) there ≡ true) × (inside (slice_index kept 0) ≡ true)
    parts = member-filter_parts inside there k (subst (λ (l : List ℕ). is_member k l ≡ true) e (member-at kept 0 0 (omega (arith, one))))

    found : IsDartAt g drawn z (slice_index kept 0)
    found = a.each k parts.0

-- the twin of a drawn dart has a label
pub twin-within : (g : Multigraph) (drawn : List Bool) (v : ℕ) (label : List ℕ) (d : ℕ) → IsDartAt g drawn v d → AreLabels g label → twin d < length label
twin-within g drawn v label d a l = omega (arith, twin-below (edge_count g) d a.below, l.each)

-- the corner that is left, or one of two
pub fitting-choice : (g : Multigraph) (drawn on : List Bool) (next label : List ℕ) (t : ℕ) (before corners : List ℕ) (first : Bool) (other : Option ℕ) (c : ℕ) → AreDartsAt g drawn (tail g t) before → AreFitting g drawn on label t corners
    → (first ≡ true → IsInvolution (edge_count g) next) → IfSome other (λ x. first ≡ true) → IfSome other (λ x. is_member x before ≡ true)
    → IfSome other (λ x. (d : ℕ) → is_member d before ≡ true → (d ≡ x) ⊎ (d ≡ slice_index next x)) → (corners ≡ c ∷ []) ⊎ (other ≡ Some c) → MayDraw g drawn on next label t c
fitting-choice g drawn on next label t before corners first other c a f turns wanted member two h = elim h [
  | inl e ↦ fitting-one g drawn on next label t c (subst (λ (l : List ℕ). AreFitting g drawn on label t l) e f)
  | inr e ↦ fitting-two g drawn on next label t before c a (turns (subst (λ (o : Option ℕ). IfSome o (λ x. first ≡ true)) e wanted)) (subst (λ (o : Option ℕ). IfSome o (λ x. is_member x before ≡ true)) e member)
      (subst (λ (o : Option ℕ). IfSome o (λ x. (d : ℕ) → is_member d before ≡ true → (d ≡ x) ⊎ (d ≡ slice_index next x))) e two)
]
