-- First places when an entry is pushed, sides that are cut off, and front parts of lists.
use Rattle.std.proofs.Common.{◌≡◌, ℕ, ◌<◌, ◌≤◌, ◌⊎◌, inl, inr, Bool, not, nat_lt, ◌&&◌, if◌then◌else◌, List, length, slice_index, slice_set, refl, sym, ap, ◌∙◌, subst, arith}
use Rattle.std.proofs.lemmas.Bool.{cases_lt, cases_eq, lt-ltb, le-ltb}
use Rattle.std.proofs.lemmas.List.{length-set, get_or-set_same, get_or-set_other, get_or_past}
use Rattle.pair_split.specs.Family.{Entry, IsFamily}
use Rattle.split_comp.specs.declared.items.StackEntry.{StackEntry}
use Rattle.split_comp.specs.declared.items.Dart.{Dart}
use Rattle.split_comp.specs.Stack.{no_item, item, family, owner, IsSorted}
use Rattle.split_comp.specs.Frames.{AreAhead}
use Rattle.split_comp.specs.Sides.{IsCutOff}
use Rattle.split_comp.specs.Pass.{lowered}
use Rattle.split_comp.proofs.Stretch.{side_at, side-place, side-rest}
use Rattle.split_comp.proofs.Alike.{IsAlike}

-- the entries from place k on that pass a test, as a side
pub cut-off : (keeps : StackEntry → Bool) (stack : List StackEntry) (rest : List Entry) (k : ℕ) → IsFamily (family stack rest) → IsCutOff keeps stack rest k (side_at stack (λ i. not (nat_lt i k) && keeps (item stack i)))
cut-off keeps stack rest k f = record {
  from = λ i a l. side-place stack rest f (λ i. not (nat_lt i k) && keeps (item stack i)) i l ∙ (rw (le-ltb i k a) refl);
  before = λ i a l. side-place stack rest f (λ i. not (nat_lt i k) && keeps (item stack i)) i l ∙ (rw (lt-ltb i k a) refl);
  off = side-rest stack rest f (λ i. not (nat_lt i k) && keeps (item stack i));
}

-- a place is noted: it is the first one, where it is before the one of before
lowered-at : (first : List ℕ) (x p z : ℕ) → x < length first → (slice_index (lowered first x p) z ≡ slice_index first z) ⊎ ((slice_index (lowered first x p) z ≡ p) × (p < slice_index first z) × (z ≡ x))
lowered-at first x p z l = elim (cases_lt p (slice_index first x)) [
  | inr a ↦ inl (rw (le-ltb p (slice_index first x) a) refl)
  | inl a ↦ elim (cases_eq z x) [
    | inr n ↦ inl (rw (lt-ltb p (slice_index first x) a) (get_or-set_other first x z p 0 n))
    | inl e ↦ inr (rw (lt-ltb p (slice_index first x) a) (ap (λ (k : ℕ). slice_index (slice_set first x p) k) e ∙ get_or-set_same first x p 0 l), omega (arith, a, ap (slice_index first) e), e)
  ]
]

lowered-here : (first : List ℕ) (x p : ℕ) → x < length first → slice_index (lowered first x p) x ≤ p
lowered-here first x p l = elim (cases_lt p (slice_index first x)) [
  | inr a ↦ rw (le-ltb p (slice_index first x) a) a
  | inl a ↦ rw (lt-ltb p (slice_index first x) a) (omega (arith, get_or-set_same first x p 0 l))
]

pub lowered-length : (first : List ℕ) (x p : ℕ) → length (lowered first x p) ≡ length first
lowered-length first x p = elim (cases_lt p (slice_index first x)) [ inr a ↦ rw (le-ltb p (slice_index first x) a) refl | inl a ↦ rw (lt-ltb p (slice_index first x) a) (length-set first x p) ]

-- two places are noted: the ends of an entry that is pushed
pub pushed-at : (first : List ℕ) (up low p z : ℕ) → up < length first → low < length first
    → (slice_index (lowered (lowered first up p) low p) z ≡ slice_index first z) ⊎ ((slice_index (lowered (lowered first up p) low p) z ≡ p) × (p < slice_index first z) × ((z ≡ up) ⊎ (z ≡ low)))
pushed-at first up low p z a b =
    let one = lowered-at first up p z a in
    elim (lowered-at (lowered first up p) low p z (omega (arith, b, lowered-length first up p))) [
      | inl e ↦ elim one [ inl d ↦ inl (e ∙ d) | inr d ↦ inr (e ∙ d.0, d.1, inl d.2) ]
      | inr e ↦ inr (e.0, elim one [ inl d ↦ omega (arith, e.1, d) | inr d ↦ absurd (omega (arith, e.1, d.0)) ], inr e.2)
    ]

pub pushed-here : (first : List ℕ) (up low p z : ℕ) → up < length first → low < length first → (z ≡ up) ⊎ (z ≡ low) → slice_index (lowered (lowered first up p) low p) z ≤ p
pushed-here first up low p z a b (inr e) = subst (λ (k : ℕ). slice_index (lowered (lowered first up p) low p) k ≤ p) (sym e) (lowered-here (lowered first up p) low p (omega (arith, b, lowered-length first up p)))
pushed-here first up low p z a b (inl e) = elim (lowered-at (lowered first up p) low p z (omega (arith, b, lowered-length first up p))) [
  | inl d ↦ omega (arith, d, subst (λ (k : ℕ). slice_index (lowered first up p) k ≤ p) (sym e) (lowered-here first up p a))
  | inr d ↦ omega (arith, d.0)
]

-- alike entries in front
pub record IsAlikeTo (n : ℕ) (one other : List StackEntry) : Type 0 where
  pub up : (i : ℕ) → i < n → (item one i).up ≡ (item other i).up
  pub low : (i : ℕ) → i < n → (item one i).low ≡ (item other i).low
  pub tree : (i : ℕ) → i < n → (item one i).tree ≡ (item other i).tree
  pub start : (i : ℕ) → i < n → (item one i).start ≡ (item other i).start

module _ (n : ℕ) (one other : List StackEntry) (a : IsAlikeTo n one other) where
  owner-to : (i : ℕ) → i < n → owner (item one i) ≡ owner (item other i)
  owner-to i l = λ t. (if a.tree i l t then a.up i l t else a.low i l t)

  pub sorted-to : (v : ℕ) (rest left : List Entry) → length (family other left) ≤ length (family one rest) → IsSorted v n one rest → IsSorted v n other left
  sorted-to v rest left few s = record {
    reach_rises = λ r q j l m e f g h.
        let w = s.reach_rises r q j l m (owner-to r (omega (arith, l, m)) ∙ (e ∙ sym (owner-to q m))) (omega (arith, a.start q m, f)) g (omega (arith, a.up j (omega (arith, g, m)), h)) in
        (w.0, omega (arith, a.start r (omega (arith, l, m)), w.1), w.2, omega (arith, a.up w.0 (omega (arith, w.2, l, m)), a.up j (omega (arith, g, m)), w.3));
    frond_rises = λ r q j b l m e t u f g.
        omega (arith, a.up r (omega (arith, l, m)), a.up j (omega (arith, g, m)), s.frond_rises r q j (omega (arith, b, few)) l m (owner-to r (omega (arith, l, m)) ∙ (e ∙ sym (owner-to q m))) (a.tree r (omega (arith, l, m)) ∙ t) (omega (arith, a.up r (omega (arith, l, m)), u)) (omega (arith, a.start q m, f)) g);
  }

  pub ahead-to : (last degree : ℕ → ℕ) (dart : ℕ → ℕ → Dart) (gone more : ℕ → ℕ) (v : ℕ) (rest left : List Entry) → length (family other left) ≤ length (family one rest) → ((u : ℕ) → gone u ≤ more u) → AreAhead last degree dart gone v n one rest → AreAhead last degree dart more v n other left
  ahead-to last degree dart gone more v rest left few rises s = record {
    reach_ahead = λ u r k z p l e f g.
        let w = s.reach_ahead u r k z p l (owner-to r l ∙ e) (omega (arith, rises u, f)) g in
        (w.0, omega (arith, a.start r l, w.1), w.2, omega (arith, a.up w.0 (omega (arith, w.2, l)), w.3));
    frond_ahead = λ u r k b z p l e t f g. subst (λ (y : ℕ). (y < (dart u k).reach) ⊎ ((y ≡ (dart u k).reach) × (1 ≤ (dart u k).class))) (a.up r l)
        (s.frond_ahead u r k (omega (arith, b, few)) z p l (owner-to r l ∙ e) (a.tree r l ∙ t) (omega (arith, rises u, f)) g);
  }

-- front parts that are alike, and end there
pub alike-whole : (n : ℕ) (one other : List StackEntry) → length one ≡ n → length other ≡ n → IsAlikeTo n one other → IsAlike one other
alike-whole n one other a b c = record {
  size = a ∙ sym b;
  up = λ i. at (λ (x : StackEntry). x.up) i (c.up i);
  low = λ i. at (λ (x : StackEntry). x.low) i (c.low i);
  tree = λ i. tree i;
  start = λ i. at (λ (x : StackEntry). x.start) i (c.start i);
}
  where
    at : (f : StackEntry → ℕ) (i : ℕ) → (i < n → f (item one i) ≡ f (item other i)) → f (item one i) ≡ f (item other i)
    at f i h = elim (cases_lt i n) [ inl l ↦ h l | inr l ↦ ap f (get_or_past one i no_item (omega (arith, l, a)) ∙ sym (get_or_past other i no_item (omega (arith, l, b)))) ]

    tree : (i : ℕ) → (item one i).tree ≡ (item other i).tree
    tree i = elim (cases_lt i n) [ inl l ↦ c.tree i l | inr l ↦ ap (λ (x : StackEntry). x.tree) (get_or_past one i no_item (omega (arith, l, a)) ∙ sym (get_or_past other i no_item (omega (arith, l, b)))) ]

-- the same items are alike
pub same-alike : (n : ℕ) (one other : List StackEntry) → ((i : ℕ) → i < n → item one i ≡ item other i) → IsAlikeTo n one other
same-alike n one other h = record { up = λ i l. ap (λ (x : StackEntry). x.up) (h i l); low = λ i l. ap (λ (x : StackEntry). x.low) (h i l); tree = λ i l. ap (λ (x : StackEntry). x.tree) (h i l); start = λ i l. ap (λ (x : StackEntry). x.start) (h i l) }
