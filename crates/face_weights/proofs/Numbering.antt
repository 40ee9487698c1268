-- Orbits numbered one after another, each along its steps; the numbers tell the faces.
use Rattle.std.proofs.Common.{◌≡◌, ◌≢◌, ℕ, zero, suc, ◌+◌, ◌<◌, ◌≤◌, ◌==◌, ◌||◌, Bool, true, false, not, inl, inr, List, length, replicate, slice_index, slice_set, refl, sym, ap, ◌∙◌, subst, arith, eq-eqb, eqb-true}
use Rattle.std.proofs.lemmas.Bool.{cases_Bool, cases_eq, cases_lt, both_ways, ne_eqb, or_left}
use Rattle.std.proofs.lemmas.List.{length-map, length-set, map-set, get_or-map, get_or-set_same, get_or-set_other}
use Rattle.permutations.specs.Count.{count, some}
use Rattle.permutations.specs.Permutation.{Permutes, iterate, reaches}
use Rattle.permutations.specs.Relation.{leads}
use Rattle.permutations.proofs.Iterates.{orbit-reaches}
use Rattle.permutations.proofs.Orbits.{orbit-ext}
use Rattle.permutations.proofs.Relation.{same-tests}
use Rattle.permutations.proofs.Search.{some-from}
use Rattle.multigraph.specs.Graph.{Multigraph, IsGraph}
use Rattle.multigraph.specs.Marks.{is_marked}
use Rattle.rotations.specs.Rotation.{IsRotationSystem}
use Rattle.dart_maps.specs.Map.{face}
use Rattle.faces.specs.Euler.{dart_count, face_step}
use Rattle.faces.specs.Maps.{dart_after}
use Rattle.faces.specs.Marks.{IsPermutationBelow, AreWholeOrbits}
use Rattle.faces.specs.Steps.{AreFaceSteps}
use Rattle.faces.proofs.DartLemmas.{face_back, face_step-permutes}
use Rattle.faces.proofs.FaceSteps.{steps-permutation}
use Rattle.faces.proofs.Found.{FoundBelow, found-skip, found-more}
use Rattle.faces.proofs.MapSteps.{map-face}
use Rattle.faces.proofs.Reaching.{steps-reach, reaches-through, reaches-back, reaches-ext}
use Rattle.faces.proofs.Starts.{starts-whole, starts-through}
use Rattle.faces.specs.Search.{unmarked_count}
use Rattle.faces.proofs.Walk.{Walked, unmarked-less, walked-more, walked-all}
use Rattle.skeleton_faces.specs.Faces.{on_one_face}
use Rattle.spqr_tree.specs.Absent.{absent}
use Rattle.face_weights.specs.Numbers.{number_at, marks_of, IsOrbitNumbered, AreOrbitsNumbered, NumberFaces}

-- whether a dart has a number
marked-at : (numbers : List ℕ) (x : ℕ) → x < length numbers → is_marked (marks_of numbers) x ≡ not (number_at numbers x == absent)
marked-at numbers x l = get_or-map (λ z. not (z == absent)) numbers x 0 false l

pub marked-no : (numbers : List ℕ) (x : ℕ) → x < length numbers → number_at numbers x ≡ absent → is_marked (marks_of numbers) x ≡ false
marked-no numbers x l e = marked-at numbers x l ∙ ap not (eq-eqb (number_at numbers x) absent e)

pub marked-yes : (numbers : List ℕ) (x : ℕ) → x < length numbers → number_at numbers x ≢ absent → is_marked (marks_of numbers) x ≡ true
marked-yes numbers x l n = marked-at numbers x l ∙ ap not (ne_eqb (number_at numbers x) absent n)

-- at first none is
pub marked-none : (n x : ℕ) → is_marked (marks_of (replicate n absent)) x ≡ false
marked-none zero x = refl
marked-none (suc n) zero = refl
marked-none (suc n) (suc x) = marked-none n x

-- the orbit of `start` so far
pub record NumberedUpTo (f : ℕ → ℕ) (old now : List ℕ) (start place : ℕ) : Type 0 where
  pub places : length now ≡ length old
  pub walked : Walked f (marks_of old) (marks_of now) start place
  pub kept : (x : ℕ) → is_marked (marks_of old) x ≡ true → number_at now x ≡ number_at old x
  pub fresh : (x : ℕ) → is_marked (marks_of old) x ≡ false → is_marked (marks_of now) x ≡ true → number_at now x ≡ start

-- one dart more
module _ (f : ℕ → ℕ) (old now : List ℕ) (start place : ℕ) (w : NumberedUpTo f old now start place) (l : place < length now) (small : start < absent) (free : number_at now place ≡ absent) where
  unmarked : is_marked (marks_of now) place ≡ false
  unmarked = marked-no now place l free

  inside : place < length (marks_of now)
  inside = subst (λ n. place < n) (sym (length-map now (λ z. not (z == absent)))) l

  test : not (start == absent) ≡ true
  test = ap not (ne_eqb start absent (λ e. omega (arith, e, small)))

  marks : slice_set (marks_of now) place true ≡ marks_of (slice_set now place start)
  marks = sym (map-set (λ z. not (z == absent)) now place start ∙ ap (slice_set (marks_of now) place) test)

  -- fewer are left
  pub upto-less : unmarked_count (marks_of (slice_set now place start)) < unmarked_count (marks_of now)
  upto-less = let one : unmarked_count (slice_set (marks_of now) place true) + 1 ≡ unmarked_count (marks_of now) = unmarked-less (marks_of now) place inside unmarked in
      subst (λ (m : List Bool). unmarked_count m < unmarked_count (marks_of now)) marks (omega (arith, one))

  apart : (x : ℕ) → is_marked (marks_of now) x ≡ true → x ≢ place
  apart x m e = both_ways (is_marked (marks_of now) place) unmarked (subst (λ z. is_marked (marks_of now) z ≡ true) e m)

  stays : (x : ℕ) → is_marked (marks_of old) x ≡ true → is_marked (marks_of now) x ≡ true
  stays x h = w.walked.marks x ∙ or_left (is_marked (marks_of old) x) (some w.walked.steps (λ k. iterate f k start == x)) h

  pub upto-more : NumberedUpTo f old (slice_set now place start) start (f place)
  upto-more = record {
    places = length-set now place start ∙ w.places;
    walked = subst (λ (m : List Bool). Walked f (marks_of old) m start (f place)) marks (walked-more f (marks_of old) (marks_of now) start place w.walked inside unmarked);
    kept = λ x h. get_or-set_other now place x start 0 (apart x (stays x h)) ∙ w.kept x h;
    fresh = λ x u m. elim (cases_eq x place) [
      | inl e ↦ subst (λ z. number_at (slice_set now place start) z ≡ start) (sym e) (get_or-set_same now place start 0 l)
      | inr n ↦ get_or-set_other now place x start 0 n ∙ w.fresh x u (sym (get_or-set_other (marks_of now) place x true false n) ∙ ap (λ (z : List Bool). is_marked z x) marks ∙ m)
    ];
  }

-- the whole orbit
pub upto-all : (n : ℕ) (f : ℕ → ℕ) → IsPermutationBelow n f → (old now : List ℕ) (start place : ℕ) → NumberedUpTo f old now start place → start < n → AreWholeOrbits n f (marks_of old) → is_marked (marks_of old) start ≡ false → is_marked (marks_of now) place ≡ true → IsOrbitNumbered n f start old now
upto-all n f p old now start place w l whole free met = record { places = w.places; marked = walked-all n f p (marks_of old) (marks_of now) start place w.walked l whole free met; kept = w.kept; fresh = w.fresh }

module _ (n : ℕ) (f : ℕ → ℕ) (p : IsPermutationBelow n f) where
  -- as the lemmas on marks have it
  found : (s : ℕ) (numbers : List ℕ) → AreOrbitsNumbered n f s numbers → FoundBelow (reaches n f) s (marks_of numbers) (count s (leads (reaches n f)))
  found s numbers a = record { marked = a.marked; counted = refl }

  -- orbits are numbered whole
  pub orbits-whole : (s : ℕ) (numbers : List ℕ) → AreOrbitsNumbered n f s numbers → s ≤ n → AreWholeOrbits n f (marks_of numbers)
  orbits-whole s numbers a l = starts-whole n f p s (marks_of numbers) (count s (leads (reaches n f))) (found s numbers a) l

  -- a number that has one already
  pub orbits-skip : (s : ℕ) (numbers : List ℕ) → AreOrbitsNumbered n f s numbers → s < n → is_marked (marks_of numbers) s ≡ true → AreOrbitsNumbered n f (s + 1) numbers
  orbits-skip s numbers a l m = record {
    places = a.places;
    marked = (found-skip (reaches n f) s (marks_of numbers) (count s (leads (reaches n f))) (λ y x k. starts-through n f p s l y x k) (found s numbers a) m).marked;
    first = λ x t. let w = a.first x t in (omega (arith, w.0), w.1, w.2);
  }

  -- and one that begins an orbit
  pub orbits-more : (s : ℕ) (old new : List ℕ) → AreOrbitsNumbered n f s old → is_marked (marks_of old) s ≡ false → IsOrbitNumbered n f s old new → AreOrbitsNumbered n f (s + 1) new
  orbits-more s old new a u o = record {
    places = o.places ∙ a.places;
    marked = (found-more (reaches n f) s (marks_of old) (marks_of new) (count s (leads (reaches n f))) (found s old a) u o.marked).marked;
    first = λ x t. elim (cases_Bool (is_marked (marks_of old) x)) [
      | inl h ↦ let w = a.first x h in let e = o.kept x h in
          (omega (arith, w.0, e), subst (λ z. leads (reaches n f) z ≡ true) (sym e) w.1, subst (λ z. reaches n f z x ≡ true) (sym e) w.2)
      | inr h ↦ let e = o.fresh x h t in
          (omega (arith, e), subst (λ z. leads (reaches n f) z ≡ true) (sym e) (ap not (sym (a.marked s) ∙ u)), subst (λ z. reaches n f z x ≡ true) (sym e) (sym (ap (λ b. b || reaches n f s x) h) ∙ sym (o.marked x) ∙ t))
    ];
  }

  -- the least member of an orbit is one
  lead-less : (a b : ℕ) → a < b → leads (reaches n f) b ≡ true → reaches n f a b ≡ true → ⊥
  lead-less a b l e t = both_ways (leads (reaches n f) b) (ap not (some-from b (λ y. reaches n f y b) a l t)) e

  pub lead-once : (a b : ℕ) → a < n → leads (reaches n f) a ≡ true → leads (reaches n f) b ≡ true → reaches n f a b ≡ true → a ≡ b
  lead-once a b l x y t = elim (cases_eq a b) [
    | inl e ↦ e
    | inr d ↦ elim (cases_lt a b) [
      | inl k ↦ absurd (lead-less a b k y t)
      | inr k ↦ absurd (lead-less b a (omega (arith, k, d)) x (reaches-back n f p a b l t))
    ]
  ]

  -- so numbers tell orbits
  module _ (s : ℕ) (numbers : List ℕ) (a : AreOrbitsNumbered n f s numbers) (all : n ≤ s) (end : s ≤ n) where
    itself : (x : ℕ) → x < n → reaches n f x x ≡ true
    itself x l = steps-reach n f p 0 x x l refl

    own : (x : ℕ) → x < n → (number_at numbers x < s) × (leads (reaches n f) (number_at numbers x) ≡ true) × (reaches n f (number_at numbers x) x ≡ true)
    own x l = a.first x (a.marked x ∙ some-from s (λ y. reaches n f y x) x (omega (arith, l, all)) (itself x l))

    pub orbit-within : (x : ℕ) → x < n → number_at numbers x < n
    orbit-within x l = omega (arith, (own x l).0, end)

    pub orbit-tells : (x y : ℕ) → x < n → y < n → (number_at numbers x == number_at numbers y) ≡ reaches n f x y
    orbit-tells x y l m = same-tests (number_at numbers x == number_at numbers y) (reaches n f x y) (λ t. forth (eqb-true (number_at numbers x) (number_at numbers y) t)) (λ t. eq-eqb (number_at numbers x) (number_at numbers y) (back t))
      where
        forth : number_at numbers x ≡ number_at numbers y → reaches n f x y ≡ true
        forth e = reaches-through n f p x (number_at numbers x) y l (reaches-back n f p (number_at numbers x) x (orbit-within x l) (own x l).2) (subst (λ z. reaches n f z y ≡ true) (sym e) (own y m).2)

        back : reaches n f x y ≡ true → number_at numbers x ≡ number_at numbers y
        back t = lead-once (number_at numbers x) (number_at numbers y) (orbit-within x l) (own x l).1 (own y m).1
            (reaches-through n f p (number_at numbers x) x (number_at numbers y) (orbit-within x l) (own x l).2
            (reaches-through n f p x y (number_at numbers y) l t (reaches-back n f p (number_at numbers y) y (orbit-within y m) (own y m).2)))

-- the orbits of the face steps are the faces
pub steps-tell : (g : Multigraph) (r : List (List ℕ)) (steps : List ℕ) → IsGraph g → IsRotationSystem g r → AreFaceSteps g r steps → (numbers : List ℕ) → AreOrbitsNumbered (length steps) (slice_index steps) (length steps) numbers → NumberFaces g r numbers
steps-tell g r steps ok system all numbers a = record {
  darts = a.places ∙ all.darts;
  within = λ d l. subst (λ n. number_at numbers d < n) all.darts (orbit-within (length steps) (slice_index steps) p (length steps) numbers a (omega arith) (omega arith) d (subst (λ n. d < n) (sym all.darts) l));
  same = λ x y l m. orbit-tells (length steps) (slice_index steps) p (length steps) numbers a (omega arith) (omega arith) x y (subst (λ n. x < n) (sym all.darts) l) (subst (λ n. y < n) (sym all.darts) m) ∙ face-reaches x y l;
}
  where
    p : IsPermutationBelow (length steps) (slice_index steps)
    p = steps-permutation g r steps ok system all

    permutes : Permutes (dart_count g) (face_step g r) (face_back g r)
    permutes = face_step-permutes g r ok system

    face-reaches : (x y : ℕ) → x < dart_count g → reaches (length steps) (slice_index steps) x y ≡ on_one_face g r x y
    face-reaches x y l = ap (λ n. reaches n (slice_index steps) x y) all.darts
        ∙ reaches-ext (dart_count g) (slice_index steps) (face_step g r) all.each (subst (λ n. IsPermutationBelow n (slice_index steps)) all.darts p) x y l
        ∙ sym (orbit-reaches (dart_count g) (face_step g r) (face_back g r) permutes x y l)
        ∙ sym (orbit-ext (dart_count g) (face (dart_after g r)) (face_step g r) (λ z k. map-face g r z ok k) x y)
