-- The pass for a block through a list of ranks, place by place, and what it shows at the end.
use Rattle.std.proofs.Common.{◌≡◌, ◌≢◌, ℕ, ◌+◌, ◌<◌, ◌≤◌, ◌⊎◌, inl, inr, false, ◌==◌, List, [], ◌∷◌, length, take, get_or, slice_index, refl, sym, ap, ◌∙◌, subst, arith}
use Rattle.std.proofs.Math.ListN.{set, length-set}
use Rattle.std.proofs.lemmas.Bool.{cases_Bool, cases_eq, cases_lt, both_ways, false_from_ne_true}
use Rattle.std.proofs.lemmas.List.{take_more, get_or-set_same, get_or-set_other, length-take-le}
use Rattle.permutations.proofs.Places.{place-of}
use Rattle.arrangements.specs.Arranged.{of_block}
use Rattle.arrangements.specs.Gaps.{edges_before, gap}
use Rattle.arrangements.specs.Crossings.{count_rank, cross_ranks, no_gap, IsPassed, IsLeastCrossed}
use Rattle.arrangements.proofs.Changes.{cross-edges, cross-differ}
use Rattle.arrangements.proofs.Gaps.{count_of, count-append, count-own, count-other, gap-last, gap-inner, gaps-cross, cross-gaps}

-- a rank is its own block
abbrev itself : ℕ → ℕ
itself r = r

-- one place more that has another edge
pub before-other : (b : ℕ) (ranks : List ℕ) (i : ℕ) → i < length ranks → slice_index ranks i ≢ b → edges_before (λ r. r) b ranks (i + 1) ≡ edges_before (λ r. r) b ranks i
before-other b ranks i h n = let s : edges_before itself b ranks (i + 1) ≡ edges_before itself b ranks i + 0 =
    ap (count_of itself b) (take_more ranks i 0 h) ∙ count-append itself b (take i ranks) (get_or ranks i 0 ∷ [])
    ∙ ap (λ (z : ℕ). count_of itself b (take i ranks) + z) (count-other itself b (get_or ranks i 0) [] n) in
    omega (arith, s)

-- no more edges than places
count-bound : (b : ℕ) (l : List ℕ) → count_of itself b l ≤ length l
count-bound b [] = omega arith
count-bound b (x ∷ l) = elim (cases_eq x b) [
  | inl e ↦ omega (arith, count-own itself b x l e, count-bound b l)
  | inr n ↦ omega (arith, count-other itself b x l n, count-bound b l)
]

pub before-bound : (b : ℕ) (ranks : List ℕ) (i : ℕ) → i ≤ length ranks → edges_before (λ r. r) b ranks i ≤ i
before-bound b ranks i h = omega (arith, count-bound b (take i ranks), length-take-le i ranks h)

-- a gap is no greater than the place
pub gap-bound : (b : ℕ) (ranks : List ℕ) (i : ℕ) → i ≤ length ranks → gap (λ r. r) b ranks i ≤ i
gap-bound b ranks i h = elim (cases_Bool (edges_before itself b ranks i == length (of_block itself b ranks))) [
  | inl t ↦ let e : gap itself b ranks i ≡ 0 = rw t refl in omega (arith, e)
  | inr f ↦ let e : gap itself b ranks i ≡ edges_before itself b ranks i = rw f refl in omega (arith, e, before-bound b ranks i h)
]

-- so it is a number that can be noted
pub gap-noted : (b : ℕ) (ranks : List ℕ) (i g : ℕ) → i < length ranks → length ranks < 4294967296 → g ≡ gap (λ r. r) b ranks i → g ≢ no_gap
gap-noted b ranks i g h few e n = absurd (omega (arith, gap-bound b ranks i (omega (arith, h)), e, n, h, few))

-- a place up to i + 1 is before i, or is i
place-cases : (p i : ℕ) → p < i + 1 → (p < i) ⊎ (i ≡ p)
place-cases p i h = elim (cases_lt p i) [ inl l ↦ inl l | inr g ↦ inr (omega (arith, h, g)) ]

module _ (b : ℕ) (ranks met : List ℕ) (i before least : ℕ) (within : i < length ranks) (s : IsPassed b ranks met i before least) where
  -- an edge of another block
  module _ (c g : ℕ) (at : slice_index ranks i ≡ c) (differs : c ≢ b) (here : g ≡ gap (λ r. r) b ranks i) where
    count : before ≡ edges_before itself b ranks (i + 1)
    count = s.count ∙ sym (before-other b ranks i within (λ e. differs (sym at ∙ e)))

    -- met for the first time
    pub passed-first : length ranks < 4294967296 → c < length met → slice_index met c ≡ no_gap → IsPassed b ranks (set met c g) (i + 1) before least
    passed-first few inside none = record {
      count = count;
      each = each;
      some = some;
      within = omega (arith, s.within, long);
      below = below;
      found = λ l. s.found (omega (arith, l, long));
    }
      where
        long : length (set met c g) ≡ length met
        long = length-set met c g

        put : slice_index (set met c g) c ≡ g
        put = get_or-set_same met c g 0 inside

        other : (d : ℕ) → d ≢ c → slice_index (set met c g) d ≡ slice_index met d
        other d n = get_or-set_other met c d g 0 n

        each : (p : ℕ) → p < i + 1 → slice_index ranks p ≢ b → slice_index (set met c g) (slice_index ranks p) ≢ no_gap
        each p l n e = elim (cases_eq (slice_index ranks p) c) [
          | inl q ↦ gap-noted b ranks i g within few here (sym (ap (slice_index (set met c g)) q ∙ put) ∙ e)
          | inr d ↦ elim (place-cases p i l) [
            | inl a ↦ s.each p a n (sym (other (slice_index ranks p) d) ∙ e)
            | inr z ↦ d (ap (slice_index ranks) (sym z) ∙ at)
          ]
        ]

        some : (d : ℕ) → d < length (set met c g) → slice_index (set met c g) d ≢ no_gap
            → (q : ℕ) × (q < i + 1) × (slice_index ranks q ≡ d) × (slice_index (set met c g) d ≡ gap itself b ranks q)
        some d l n = elim (cases_eq d c) [
          | inl q ↦ (i, omega arith, at ∙ sym q, ap (slice_index (set met c g)) q ∙ put ∙ here)
          | inr m ↦ let w = s.some d (omega (arith, l, long)) (λ e. n (other d m ∙ e)) in (w.0, omega (arith, w.1), w.2, other d m ∙ w.3)
        ]

        below : (d p : ℕ) → d < least → d ≢ b → p < i + 1 → slice_index ranks p ≡ d → gap itself b ranks p ≡ slice_index (set met c g) d
        below d p l n q k = elim (place-cases p i q) [
          | inr z ↦
              let e : d ≡ c = sym k ∙ ap (slice_index ranks) (sym z) ∙ at in
              ap (gap itself b ranks) (sym z) ∙ sym here ∙ sym put ∙ ap (slice_index (set met c g)) (sym e)
          | inl a ↦ elim (cases_eq d c) [
            | inl e ↦ absurd (s.each p a (λ m. n (sym k ∙ m)) (ap (slice_index met) (k ∙ e) ∙ none))
            | inr m ↦ s.below d p l n a k ∙ sym (other d m)
          ]
        ]

    -- met before, in the same gap, or of a rank that can't be the least
    pub passed-again : slice_index met c ≢ no_gap → (slice_index met c ≡ g) ⊎ (least ≤ c) → IsPassed b ranks met (i + 1) before least
    passed-again known still = record {
      count = count;
      each = λ p l n. elim (place-cases p i l) [ inl a ↦ s.each p a n | inr z ↦ subst (λ (v : ℕ). slice_index met v ≢ no_gap) (sym (ap (slice_index ranks) (sym z) ∙ at)) known ];
      some = λ d l n. let w = s.some d l n in (w.0, omega (arith, w.1), w.2, w.3);
      within = s.within;
      below = below;
      found = s.found;
    }
      where
        below : (d p : ℕ) → d < least → d ≢ b → p < i + 1 → slice_index ranks p ≡ d → gap itself b ranks p ≡ slice_index met d
        below d p l n q k = elim (place-cases p i q) [
          | inl a ↦ s.below d p l n a k
          | inr z ↦
              let e : d ≡ c = sym k ∙ ap (slice_index ranks) (sym z) ∙ at in
              elim still [
                | inl same ↦ ap (gap itself b ranks) (sym z) ∙ sym here ∙ sym same ∙ ap (slice_index met) (sym e)
                | inr far ↦ absurd (omega (arith, l, far, e))
              ]
        ]

    -- met before in another gap
    pub passed-other : c < length met → slice_index met c ≢ no_gap → slice_index met c ≢ g → c < least → IsPassed b ranks met (i + 1) before c
    passed-other inside known elsewhere less = record {
      count = count;
      each = λ p l n. elim (place-cases p i l) [ inl a ↦ s.each p a n | inr z ↦ subst (λ (v : ℕ). slice_index met v ≢ no_gap) (sym (ap (slice_index ranks) (sym z) ∙ at)) known ];
      some = λ d l n. let w = s.some d l n in (w.0, omega (arith, w.1), w.2, w.3);
      within = omega (arith, inside);
      below = λ d p l n q k. elim (place-cases p i q) [
        | inl a ↦ s.below d p (omega (arith, l, less)) n a k
        | inr z ↦ let e : d ≡ c = sym k ∙ ap (slice_index ranks) (sym z) ∙ at in absurd (omega (arith, l, e))
      ];
      found = λ l.
          let w = s.some c inside known in (
            λ e. differs (sym e),
            record {
              p = w.0;
              q = i;
              order = w.1;
              within = within;
              of_p = w.2;
              of_q = at;
              differ = λ e. elsewhere (w.3 ∙ e ∙ sym here);
            },
          );
    }

-- no rank of the list crosses another one that has all its edges in one gap
one-gap : (b : ℕ) (ranks met : List ℕ) (before least : ℕ) → IsPassed b ranks met (length ranks) before least → (e : ℕ) → e < least → cross_ranks b e ranks ≡ false
one-gap b ranks met before least s e l = false_from_ne_true (cross_ranks b e ranks) (λ h.
    let g = cross-gaps itself b e ranks h in
    let n : e ≢ b = (λ q. cross-differ itself b e ranks h (sym q)) in
    g.differ (s.below e g.p l n (omega (arith, g.order, g.within)) g.of_p ∙ sym (s.below e g.q l n g.within g.of_q)))

-- a rank that is not in the list crosses none
no-rank : (b : ℕ) (ranks : List ℕ) (bound : ℕ) → ((i : ℕ) → i < length ranks → slice_index ranks i < bound) → (e : ℕ) → bound ≤ e → cross_ranks b e ranks ≡ false
no-rank b ranks bound within e h = false_from_ne_true (cross_ranks b e ranks) (λ k.
    let w = cross-edges itself b e ranks k in
    let p = place-of ranks w.1 w.3 in
    absurd (omega (arith, within p.0 p.1, p.2, w.5, h)))

-- at the end: where no rank was found, none crosses
pub passed-none : (b : ℕ) (ranks met : List ℕ) (before least : ℕ) → IsPassed b ranks met (length ranks) before least → ((i : ℕ) → i < length ranks → slice_index ranks i < length met)
    → length met ≤ least → (e : ℕ) → cross_ranks b e ranks ≡ false
passed-none b ranks met before least s within all e = elim (cases_lt e (length met)) [
  | inl a ↦ one-gap b ranks met before least s e (omega (arith, a, all))
  | inr g ↦ no-rank b ranks (length met) within e g
]

-- where one was, it is the least that does
pub passed-found : (b : ℕ) (ranks met : List ℕ) (before least : ℕ) → IsPassed b ranks met (length ranks) before least → least < length met → IsLeastCrossed b ranks least
passed-found b ranks met before least s h = record {
  crosses = let w = s.found h in gaps-cross itself b least ranks w.0 w.1.p w.1.q w.1.order w.1.within w.1.of_p w.1.of_q w.1.differ;
  least = λ e k. elim (cases_lt e least) [ inl a ↦ absurd (both_ways (cross_ranks b e ranks) (one-gap b ranks met before least s e a) k) | inr g ↦ g ];
}

-- where none below a bound crosses, and no rank reaches it, none does
pub crossed-none : (ranks : List ℕ) (bound : ℕ) → ((i : ℕ) → i < length ranks → slice_index ranks i < bound) → ((d e : ℕ) → d < bound → cross_ranks d e ranks ≡ false) → (d e : ℕ) → cross_ranks d e ranks ≡ false
crossed-none ranks bound within none d e = elim (cases_lt d bound) [
  | inl a ↦ none d e a
  | inr g ↦ false_from_ne_true (cross_ranks d e ranks) (λ k.
      let w = cross-edges itself d e ranks k in
      let p = place-of ranks w.0 w.2 in
      absurd (omega (arith, within p.0 p.1, p.2, w.4, g)))
]

-- the gap that is worked out at a place
pub gap-here : (b : ℕ) (ranks : List ℕ) (i before total g : ℕ) → before ≡ edges_before (λ r. r) b ranks i → total ≡ count_rank b ranks
    → ((before ≡ total) × (g ≡ 0)) ⊎ ((before ≢ total) × (g ≡ before)) → g ≡ gap (λ r. r) b ranks i
gap-here b ranks i before total g e t (inl w) = w.1 ∙ sym (gap-last itself b ranks i (sym e ∙ w.0 ∙ t))
gap-here b ranks i before total g e t (inr w) = w.1 ∙ e ∙ sym (gap-inner itself b ranks i (λ q. w.0 (e ∙ q ∙ sym t)))
