-- A prime family of four or more entries is simple, and has at least four vertices.
use Rattle.std.proofs.Common.{◌≡◌, ◌≢◌, ℕ, ◌≤◌, ◌⊎◌, inl, inr, Bool, true, false, ◌&&◌, ◌||◌, ◌==◌, List, [], ◌∷◌, length, refl, sym, ap, ◌∙◌, subst, arith, Contains}
use Rattle.std.proofs.lemmas.Bool.{cases_Bool, cases_eq, both_ways, eq-eqb, eqb-true, or_cases, and_parts, and_from, or_left, or_right}
use Rattle.permutations.specs.Members.{is_member}
use Rattle.pair_split.specs.Family.{Entry, has_end, IsFamily, on_side, touches, is_common, IsTight, IsSeparation, IsPrime}
use Rattle.pair_split.specs.Edges.{entry_ends, family_skeleton}
use Rattle.pair_split.specs.Skeleton.{SameEnds, is_vertex}
use Rattle.pair_split.proofs.Elements.{two-pass, length-either}
use Rattle.pair_split.proofs.Sides.{common-inside, length-sides, separation-from}
use Rattle.pair_split.proofs.Names.{same-name, one-name}
use Rattle.pair_split.proofs.Replaced.{end-cases, first-end, second-end}

-- an end of the one is an end of the other
pub parallel-end : (e f : Entry) (x : ℕ) → SameEnds (entry_ends e) (entry_ends f) → has_end x f ≡ true → has_end x e ≡ true
parallel-end e f x (inl s) h = elim (end-cases x f h) [ inl i ↦ first-end x e (i ∙ sym s.0) | inr i ↦ second-end x e (i ∙ sym s.1) ]
parallel-end e f x (inr s) h = elim (end-cases x f h) [ inl i ↦ second-end x e (i ∙ sym s.1) | inr i ↦ first-end x e (i ∙ sym s.0) ]

-- the side of two entries alone
abbrev pub pair : Entry → Entry → ℕ → Bool
pair e f n = (n == e.name) || (n == f.name)

-- at most two entries are on it
pub pair-few : (entries : List Entry) → IsFamily entries → (e f : Entry) → length (on_side (pair e f) entries) ≤ 2
pair-few entries family e f = omega (
  arith,
  one-name entries e.name family.names_once,
  one-name entries f.name family.names_once,
  length-either (λ (z : Entry). z.name == e.name) (λ (z : Entry). z.name == f.name) entries,
)

-- two parallel entries of a tight family of four or more are a side of a 2-separation
pub parallel-separation : (entries : List Entry) → IsFamily entries → IsTight entries → 4 ≤ length entries → (e f : Entry) → Contains entries e → Contains entries f → e.name ≢ f.name → SameEnds (entry_ends e) (entry_ends f) → IsSeparation entries (pair e f) e.first e.second
parallel-separation entries family tight four e f c k n s = separation-from entries (pair e f) e.first e.second tight two (omega (arith, pair-few entries family e f, four, length-sides entries (pair e f))) only
  where
    two : 2 ≤ length (on_side (pair e f) entries)
    two = two-pass (λ (z : Entry). pair e f z.name) e f entries (λ i. n (ap (λ (z : Entry). z.name) i)) c k
        (or_left (e.name == e.name) (e.name == f.name) (eq-eqb e.name e.name refl))
        (or_right (f.name == e.name) (f.name == f.name) (eq-eqb f.name f.name refl))

    only : (x : ℕ) → is_common entries (pair e f) x ≡ true → (x ≡ e.first) ⊎ (x ≡ e.second)
    only x h = let w = common-inside entries (pair e f) x h in elim (or_cases (w.entry.name == e.name) (w.entry.name == f.name) w.side) [
      | inl i ↦ end-cases x e (subst (λ (z : Entry). has_end x z ≡ true) (same-name entries family.names_once w.entry e w.within c (eqb-true w.entry.name e.name i)) w.end)
      | inr i ↦ end-cases x e (parallel-end e f x s (subst (λ (z : Entry). has_end x z ≡ true) (same-name entries family.names_once w.entry f w.within k (eqb-true w.entry.name f.name i)) w.end))
    ]

-- in a prime family of four or more entries, entries with the same two ends are one
pub prime-simple : (entries : List Entry) → IsFamily entries → IsPrime entries → 4 ≤ length entries → (e f : Entry) → Contains entries e → Contains entries f → SameEnds (entry_ends e) (entry_ends f) → e.name ≡ f.name
prime-simple entries family prime four e f c k s = elim (cases_eq e.name f.name) [
  | inl i ↦ i
  | inr n ↦ absurd (prime.none (pair e f) e.first e.second (parallel-separation entries family prime.tight four e f c k n s))
]

-- whether the entry joins these two vertices
abbrev pub joins : ℕ → ℕ → Entry → Bool
joins a b e = has_end a e && has_end b e

-- entries that join the same two vertices have the same two ends
pub joins-parallel : (a b : ℕ) (e f : Entry) → a ≢ b → joins a b e ≡ true → joins a b f ≡ true → SameEnds (entry_ends e) (entry_ends f)
joins-parallel a b e f n h k =
    let i = and_parts (has_end a e) (has_end b e) h in
    let j = and_parts (has_end a f) (has_end b f) k in
    both (end-cases a e i.0) (end-cases b e i.1) (end-cases a f j.0) (end-cases b f j.1)
  where
    both : (a ≡ e.first) ⊎ (a ≡ e.second) → (b ≡ e.first) ⊎ (b ≡ e.second) → (a ≡ f.first) ⊎ (a ≡ f.second) → (b ≡ f.first) ⊎ (b ≡ f.second) → SameEnds (entry_ends e) (entry_ends f)
    both (inl p) (inl q) r s = absurd (n (p ∙ sym q))
    both (inr p) (inr q) r s = absurd (n (p ∙ sym q))
    both (inl p) (inr q) (inl r) (inl s) = absurd (n (r ∙ sym s))
    both (inl p) (inr q) (inr r) (inr s) = absurd (n (r ∙ sym s))
    both (inl p) (inr q) (inl r) (inr s) = inl (sym p ∙ r, sym q ∙ s)
    both (inl p) (inr q) (inr r) (inl s) = inr (sym p ∙ r, sym q ∙ s)
    both (inr p) (inl q) (inl r) (inl s) = absurd (n (r ∙ sym s))
    both (inr p) (inl q) (inr r) (inr s) = absurd (n (r ∙ sym s))
    both (inr p) (inl q) (inl r) (inr s) = inr (sym q ∙ s, sym p ∙ r)
    both (inr p) (inl q) (inr r) (inl s) = inl (sym q ∙ s, sym p ∙ r)

-- an entry that is not among those that join two of three vertices has an end that is none of the three
pub outside-end : (a b c : ℕ) (e : Entry) → e.first ≢ e.second → ((joins a b e || joins b c e) || joins c a e) ≡ false → (d : ℕ) × (has_end d e ≡ true) × (a ≢ d) × (b ≢ d) × (c ≢ d)
outside-end a b c e n h = elim (cases_Bool (is_member e.first (a ∷ b ∷ c ∷ []))) [
  | inr f ↦ (e.first, first-end e.first e refl, grind (arith, f, eq-eqb), grind (arith, f, eq-eqb), grind (arith, f, eq-eqb))
  | inl f ↦ elim (cases_Bool (is_member e.second (a ∷ b ∷ c ∷ []))) [
    | inr g ↦ (e.second, second-end e.second e refl, grind (arith, g, eq-eqb), grind (arith, g, eq-eqb), grind (arith, g, eq-eqb))
    | inl g ↦ absurd (both_ways ((joins a b e || joins b c e) || joins c a e) h (grind (arith, f, g, n, eqb-true)))
  ]
]

-- the other end of an entry at a
pub other-end : (a : ℕ) (e : Entry) → e.first ≢ e.second → has_end a e ≡ true → (c : ℕ) × (c ≢ a) × (joins a c e ≡ true)
other-end a e n h = elim (end-cases a e h) [
  | inl i ↦ (e.second, (λ k. n (sym i ∙ sym k)), and_from (has_end a e) (has_end e.second e) h (second-end e.second e refl))
  | inr i ↦ (e.first, (λ k. n (k ∙ i)), and_from (has_end a e) (has_end e.first e) h (first-end e.first e refl))
]

-- a vertex that an entry touches is one of the skeleton's
pub touched-vertex : (entries : List Entry) (x : ℕ) → is_vertex (family_skeleton entries) x ≡ touches entries x
touched-vertex [] x = refl
touched-vertex (e ∷ entries) x = rw (touched-vertex entries x) refl
