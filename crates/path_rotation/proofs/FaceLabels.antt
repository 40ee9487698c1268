-- A face walked along, dart after dart, until it is back where it began: labels written on the way are those of just this face.
use Rattle.std.proofs.Common.{◌≡◌, ◌≢◌, ℕ, zero, suc, ◌+◌, ◌-◌, ◌<◌, ◌≤◌, ◌⊎◌, inl, inr, Bool, true, false, ◌||◌, ◌==◌, if◌then◌else◌, List, length, slice_index, refl, sym, ap, ◌∙◌, subst, arith}
use Rattle.std.proofs.lemmas.Bool.{cases_Bool, cases_eq, cases_lt, both_ways, or_right, eq-eqb, eqb-true, ne_eqb, false_from_ne_true}
use Rattle.std.proofs.lemmas.List.{get_or-set_same, get_or-set_other}
use Rattle.std.proofs.Math.ListN.{set}
use Rattle.permutations.specs.Count.{some}
use Rattle.permutations.specs.Relation.{IsEquivalence}
use Rattle.permutations.specs.Permutation.{Permutes, iterate, same_orbit}
use Rattle.permutations.proofs.Search.{some-from, some-witness, some-more}
use Rattle.permutations.proofs.Relation.{same-tests}
use Rattle.permutations.proofs.Orbits.{orbit-equivalence, orbit-step}
use Rattle.permutations.proofs.Iterates.{iterate-sum, iterate-orbit, orbit-steps}
use Rattle.path_rotation.proofs.PathTables.{if-true, if-false}

-- the first k numbers from a start on, along f, have its label, and all others the one that they had
abbrev pub AreWritten : (ℕ → ℕ) → ℕ → ℕ → List ℕ → List ℕ → Type 0
AreWritten f start k old new = (x : ℕ) → slice_index new x ≡ (if some k (λ i. iterate f i start == x) then start else slice_index old x)

-- none at first
pub written-none : (f : ℕ → ℕ) (start : ℕ) (old : List ℕ) → AreWritten f start 0 old old
written-none f start old x = refl

-- one more
pub written-more : (f : ℕ → ℕ) (start k at : ℕ) (old now : List ℕ) → AreWritten f start k old now → iterate f k start ≡ at → at < length now → AreWritten f start (k + 1) old (set now at start)
written-more f start k at old now h e l x = elim (cases_eq x at) [
  | inl q ↦
      subst (λ (y : ℕ). slice_index (set now at start) y ≡ start) (sym q) (get_or-set_same now at start 0 l)
      ∙ sym (if-true (some (k + 1) (λ i. iterate f i start == x)) start (slice_index old x)
      (some-more k (λ i. iterate f i start == x) ∙ or_right (some k (λ i. iterate f i start == x)) (iterate f k start == x) (eq-eqb (iterate f k start) x (e ∙ sym q))))
  | inr n ↦ get_or-set_other now at x start 0 n ∙ h x
      ∙ ap (λ (b : Bool). if b then start else slice_index old x) (sym (some-more k (λ i. iterate f i start == x) ∙ last (some k (λ i. iterate f i start == x)) (iterate f k start == x) (ne_eqb (iterate f k start) x (λ i. n (sym i ∙ e)))))
]
  where
    last : (a b : Bool) → b ≡ false → (a || b) ≡ a
    last true b f = refl
    last false b f = f

-- numbers below n, along a permutation of them
module _ (n : ℕ) (f g : ℕ → ℕ) (p : Permutes n f g) (start : ℕ) (l : start < n) where
  -- where k steps lead back, each number along the way is met within k steps
  within : (k : ℕ) → 0 < k → iterate f k start ≡ start → (fuel j : ℕ) → j < fuel → (i : ℕ) × (i < k) × (iterate f i start ≡ iterate f j start)
  within k pos back zero j m = absurd (omega arith)
  within k pos back (suc fuel) j m = elim (cases_lt j k) [
    | inl s ↦ (j, s, refl)
    | inr s ↦
        let e : (j - k) + k ≡ j = omega arith in
        let w = within k pos back fuel (j - k) (omega arith) in
        (w.0, w.1, w.2 ∙ sym (sym (ap (λ (i : ℕ). iterate f i start) e) ∙ iterate-sum f (j - k) k start ∙ ap (iterate f (j - k)) back))
  ]

  -- so labels written along the whole way are those of the orbit
  pub written-orbit : (k : ℕ) (old new : List ℕ) → AreWritten f start k old new → ((0 < k) × (iterate f k start ≡ start)) ⊎ (n ≤ k) → (x : ℕ) → slice_index new x ≡ (if same_orbit n f start x then start else slice_index old x)
  written-orbit k old new h done x = h x ∙ ap (λ (b : Bool). if b then start else slice_index old x) (same-tests (some k (λ i. iterate f i start == x)) (same_orbit n f start x) forth back)
    where
      forth : some k (λ i. iterate f i start == x) ≡ true → same_orbit n f start x ≡ true
      forth t = let w = some-witness k (λ i. iterate f i start == x) t in
          subst (λ (y : ℕ). same_orbit n f start y ≡ true) (eqb-true (iterate f w.0 start) x w.2) (iterate-orbit n f g p w.0 start l)

      back : same_orbit n f start x ≡ true → some k (λ i. iterate f i start == x) ≡ true
      back t = let w = orbit-steps n f g p start x l t in elim done [
        | inl d ↦ let v = within k d.0 d.1 (suc w.0) w.0 (omega arith) in some-from k (λ i. iterate f i start == x) v.0 v.1 (eq-eqb (iterate f v.0 start) x (v.2 ∙ w.2))
        | inr d ↦ some-from k (λ i. iterate f i start == x) w.0 (omega (arith, w.1, d)) (eq-eqb (iterate f w.0 start) x w.2)
      ]

-- labels of whole orbits so far: each label that is written is a number of this orbit; those of the first d numbers are written
pub record LabelOrbits (n : ℕ) (f : ℕ → ℕ) (unwritten d : ℕ) (label : List ℕ) : Type 0 where
  pub whole : (x : ℕ) → x < n → slice_index label (f x) ≡ slice_index label x
  pub right : (x : ℕ) → x < n → slice_index label x ≢ unwritten → (slice_index label x < n) × (same_orbit n f (slice_index label x) x ≡ true)
  pub done : (x : ℕ) → x < d → slice_index label x ≢ unwritten

-- a number that has a label is skipped
pub label-skip : (n : ℕ) (f : ℕ → ℕ) (unwritten d : ℕ) (label : List ℕ) → LabelOrbits n f unwritten d label → slice_index label d ≢ unwritten → LabelOrbits n f unwritten (d + 1) label
label-skip n f unwritten d label h w = record {
  whole = h.whole;
  right = h.right;
  done = λ x l. elim (cases_eq x d) [
    | inl e ↦ subst (λ (y : ℕ). slice_index label y ≢ unwritten) (sym e) w
    | inr e ↦ h.done x (omega arith)
  ];
}

-- labels of whole orbits, and an orbit labelled anew
pub label-anew : (n : ℕ) (f : ℕ → ℕ) (d : ℕ) (label new : List ℕ) → ((x : ℕ) → x < n → slice_index label (f x) ≡ slice_index label x) → ((x : ℕ) → slice_index new x ≡ (if same_orbit n f d x then d else slice_index label x)) → (x : ℕ) → x < n → slice_index new (f x) ≡ slice_index new x
label-anew n f d label new whole e x i = elim (cases_Bool (same_orbit n f d x)) [
  | inl t ↦ here (f x) (o.transitive d x (f x) t (orbit-step n f x i)) ∙ sym (here x t)
  | inr t ↦ there (f x) (false_from_ne_true (same_orbit n f d (f x)) (λ u. both_ways (same_orbit n f d x) t (o.transitive d (f x) x u (o.symmetric x (f x) (orbit-step n f x i))))) ∙ whole x i ∙ sym (there x t)
]
  where
    o : IsEquivalence (same_orbit n f)
    o = orbit-equivalence n f

    here : (y : ℕ) → same_orbit n f d y ≡ true → slice_index new y ≡ d
    here y t = e y ∙ if-true (same_orbit n f d y) d (slice_index label y) t

    there : (y : ℕ) → same_orbit n f d y ≡ false → slice_index new y ≡ slice_index label y
    there y t = e y ∙ if-false (same_orbit n f d y) d (slice_index label y) t

-- else its orbit is labelled
pub label-orbit : (n : ℕ) (f g : ℕ → ℕ) → Permutes n f g → (unwritten d : ℕ) (label new : List ℕ) → LabelOrbits n f unwritten d label → d < n → n ≤ unwritten → ((x : ℕ) → slice_index new x ≡ (if same_orbit n f d x then d else slice_index label x)) → LabelOrbits n f unwritten (d + 1) new
label-orbit n f g p unwritten d label new h l top e = record {
  whole = label-anew n f d label new h.whole e;
  right = λ x i w. elim (cases_Bool (same_orbit n f d x)) [
    | inl t ↦ subst (λ (y : ℕ). (y < n) × (same_orbit n f y x ≡ true)) (sym (here x t)) (l, t)
    | inr t ↦ subst (λ (y : ℕ). (y < n) × (same_orbit n f y x ≡ true)) (sym (there x t)) (h.right x i (λ q. w (there x t ∙ q)))
  ];
  done = λ x i. elim (cases_Bool (same_orbit n f d x)) [
    | inl t ↦ λ q. absurd (omega (arith, sym (here x t) ∙ q))
    | inr t ↦ elim (cases_eq x d) [
      | inl s ↦ absurd (both_ways (same_orbit n f d x) t (subst (λ (y : ℕ). same_orbit n f d y ≡ true) (sym s) (o.reflexive d)))
      | inr s ↦ λ q. h.done x (omega arith) (sym (there x t) ∙ q)
    ]
  ];
}
  where
    o : IsEquivalence (same_orbit n f)
    o = orbit-equivalence n f

    here : (x : ℕ) → same_orbit n f d x ≡ true → slice_index new x ≡ d
    here x t = e x ∙ if-true (same_orbit n f d x) d (slice_index label x) t

    there : (x : ℕ) → same_orbit n f d x ≡ false → slice_index new x ≡ slice_index label x
    there x t = e x ∙ if-false (same_orbit n f d x) d (slice_index label x) t

-- at the end numbers of one label are of one orbit
pub labels-tell : (n : ℕ) (f : ℕ → ℕ) (unwritten : ℕ) (label : List ℕ) → LabelOrbits n f unwritten n label → (x y : ℕ) → x < n → y < n → slice_index label x ≡ slice_index label y → same_orbit n f x y ≡ true
labels-tell n f unwritten label h x y i j e =
    let a = h.right x i (h.done x i) in
    let b = h.right y j (h.done y j) in
    (orbit-equivalence n f).transitive x (slice_index label x) y ((orbit-equivalence n f).symmetric (slice_index label x) x a.1) (subst (λ (z : ℕ). same_orbit n f z y ≡ true) (sym e) b.1)

-- when all numbers were met
pub label-end : (n : ℕ) (f : ℕ → ℕ) (unwritten d : ℕ) (label : List ℕ) → n ≤ d → LabelOrbits n f unwritten d label → LabelOrbits n f unwritten n label
label-end n f unwritten d label l h = record { whole = h.whole; right = h.right; done = λ x i. h.done x (omega arith) }
